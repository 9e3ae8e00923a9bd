use Rattle.std.proofs.Common.{refl}
use Rattle.rdlpp_expand.proofs.RunFacts.{shows_part}
use Rattle.rdlpp_expand.proofs.writing.write_shown.Goals as goal

pub returns-clause-shows : goal.returns-clause-shows
returns-clause-shows g c =
    let shown = c.show.ensures in
    shows_part g.W.Sink g.V.Watcher _ _ _ _ _ _ c.write_part-written.ensures.taken shown.looks shown.seen shown.blind refl
