use Rattle.std.proofs.Common.{Ok, sym, ap, ◌∙◌, arith}
use Rattle.rdlpp_state.specs.Pieces.{answer_of}
use Rattle.rdlpp_state.specs.Silences.{most_silent}
use Rattle.rdlpp_state.proofs.EngineSteps.{wider}
use Rattle.rdlpp_expand.proofs.RunFacts.{answer_step, pulled_fault, pulled_none, pulled_silent, pulled_written, shows_none, shows_told}
use Rattle.rdlpp_expand.proofs.TextFacts.{open-lent, silent-steps}
use Rattle.rdlpp_expand.proofs.writing.pull.Goals as goal

pub clip_to_quota-lent-requires-clause-open : goal.clip_to_quota-lent-requires-clause-open
clip_to_quota-lent-requires-clause-open g c lent e = open-lent g.S.Sources 1 _ _ _ lent c.in-Some.ensures.uncut_step e

pub returns-in-Ok-Bytes-clause-pulls : goal.returns-in-Ok-Bytes-clause-pulls
returns-in-Ok-Bytes-clause-pulls g c =
    let w = c.write_shown-written.ensures in
    let step = c.clip_to_quota-lent.ensures.steps _ (wider g.S.Sources 1 most_silent _ _ _ (omega arith) c.in-Some.ensures.uncut_step) in
    pulled_written g.S.Sources g.W.Sink _ _ _ _ _ _ _ _
    (answer_step g.S.Sources _ _ _ _ step (sym (ap answer_of (c.in-Ok-Bytes.is ∙ ap Ok c.in-Ok-Bytes.field-0-is)) ∙ c.answer.ensures))
    c.ending_of.ensures w.inside w.whole w.taken w.writes w.quiet

pub returns-in-Ok-Done-clause-pulls : goal.returns-in-Ok-Done-clause-pulls
returns-in-Ok-Done-clause-pulls g c =
    let step = c.clip_to_quota-lent.ensures.steps _ (wider g.S.Sources 1 most_silent _ _ _ (omega arith) c.in-Some.ensures.uncut_step) in
    pulled_none g.S.Sources g.W.Sink _ _ _
    (answer_step g.S.Sources _ _ _ _ step (sym (ap answer_of (c.in-Ok-Done.is ∙ ap Ok c.in-Ok-Done.field-0-is)) ∙ c.answer.ensures))

pub returns-in-Err-clause-pulls : goal.returns-in-Err-clause-pulls
returns-in-Err-clause-pulls g c =
    let step = c.clip_to_quota-lent.ensures.steps _ (wider g.S.Sources 1 most_silent _ _ _ (omega arith) c.in-Some.ensures.uncut_step) in
    pulled_fault g.S.Sources g.W.Sink _ _ _ _
    (answer_step g.S.Sources _ _ _ _ step (sym (ap answer_of c.in-Err.is) ∙ c.answer.ensures))

pub returns-in_default-clause-pulls : goal.returns-in_default-clause-pulls
returns-in_default-clause-pulls g c =
    rw c.tell.ensures.same (pulled_silent g.S.Sources g.W.Sink _ _ _ (silent-steps g.S.Sources _ _ (wider g.S.Sources 1 most_silent _ _ _ (omega arith) c.in_default.ensures.uncut_step)))

pub returns-in-Ok-Done-clause-shows : goal.returns-in-Ok-Done-clause-shows
returns-in-Ok-Done-clause-shows g c = shows_none g.W.Sink g.V.Watcher _ _

pub returns-in-Err-clause-shows : goal.returns-in-Err-clause-shows
returns-in-Err-clause-shows g c = shows_none g.W.Sink g.V.Watcher _ _

pub returns-in_default-clause-shows : goal.returns-in_default-clause-shows
returns-in_default-clause-shows g c = shows_told g.W.Sink g.V.Watcher _ _ _ c.tell.ensures.looks c.tell.ensures.seen c.tell.ensures.blind
