use Rattle.std.proofs.Common.{ap, arith, ◌∙◌}
use Rattle.std.specs.List.{prefix_len}
use Rattle.rdlpp_scan.specs.LexFaults.{is_plain_argument}
use Rattle.rdlpp_table.specs.PointCache.{plain_argument_kept}
use Rattle.rdlpp_table.proofs.PlainPoints.{near_bytes}
use Rattle.rdlpp_table.proofs.point_cache.plain_argument_kept.Goals as goal

pub returns : goal.returns
unfolding plain_argument_kept
returns c = c.plain_argument_bytes.ensures.value ∙ ap (prefix_len is_plain_argument) (near_bytes _ c.args.text.now (omega (arith, c.min-near.ensures)) (λ h. omega (arith, h, c.min-near.ensures)))
