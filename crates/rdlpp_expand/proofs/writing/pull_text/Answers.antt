use Rattle.std.proofs.Common.{Ok, Some, ap}
use Rattle.rdlpp_expand.proofs.RunFacts.{answer_step, pulled_fault, pulled_silent, pulled_written, shows_none}
use Rattle.rdlpp_expand.proofs.TextFacts.{answer-kept, kept-some, open-texts}
use Rattle.rdlpp_expand.proofs.writing.pull_text.Goals as goal

pub text-requires : goal.text-requires
text-requires g c = c.in-Lent.ensures.place

pub returns-in-Lent-clause-pulls : goal.returns-in-Lent-clause-pulls
returns-in-Lent-clause-pulls g c =
    let w = c.write_shown-written.ensures in
    pulled_written g.S.Sources g.W.Sink _ _ _ _ _ _ _ _
    (answer_step g.S.Sources _ _ _ _ c.in-Lent.ensures.steps (ap (λ xs. Ok (Some xs)) c.text.ensures))
    c.ending_of.ensures w.inside w.whole w.taken w.writes w.quiet

pub returns-in-Lent-clause-next : goal.returns-in-Lent-clause-next
returns-in-Lent-clause-next g c = λ _. open-texts _ _ c.is_open.ensures c.in-Lent.ensures.leaves

pub returns-in-Silent-clause-pulls : goal.returns-in-Silent-clause-pulls
returns-in-Silent-clause-pulls g c = pulled_silent g.S.Sources g.W.Sink _ _ _ c.in-Silent.ensures.steps

pub returns-in-Silent-clause-next : goal.returns-in-Silent-clause-next
returns-in-Silent-clause-next g c = λ _. c.is_in_texts.ensures

pub returns-in-Fault-clause-pulls : goal.returns-in-Fault-clause-pulls
returns-in-Fault-clause-pulls g c =
    let kept = kept-some _ c.in-Fault.ensures.leaves in
    pulled_fault g.S.Sources g.W.Sink _ _ _ kept.0 (answer-kept g.S.Sources _ _ kept.0 kept.1 c.in-Fault.ensures.steps)

pub returns-in-Silent-clause-shows : goal.returns-in-Silent-clause-shows
returns-in-Silent-clause-shows g c = shows_none g.W.Sink g.V.Watcher _ _

pub returns-in-Fault-clause-shows : goal.returns-in-Fault-clause-shows
returns-in-Fault-clause-shows g c = shows_none g.W.Sink g.V.Watcher _ _
