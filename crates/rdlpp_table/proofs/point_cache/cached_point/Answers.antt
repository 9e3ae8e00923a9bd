use Rattle.rdlpp_table.proofs.PlainPoints.{range_told}
use Rattle.rdlpp_table.proofs.point_cache.cached_point.Goals as goal

pub returns : goal.returns
returns c formals e = range_told formals _ _ _ _ _ _ (c.candidate_at-found.ensures.kept formals _ e) (c.candidate_at-found.ensures.order, c.requires.order) c.requires.inside c.point_known.ensures
