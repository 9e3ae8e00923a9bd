use Rattle.std.proofs.Common.{refl, sym, ◌∙◌, arith, length-take}
use Rattle.rdlpp_read.proofs.Growing.{ended_turn, failed_turn, long_turn, none_left, some_left}
use Rattle.rdlpp_read.proofs.buffer.filling.probe_end.Goals as goal

pub returns-in-Ok-eq0-clause-turn : goal.returns-in-Ok-eq0-clause-turn
returns-in-Ok-eq0-clause-turn g c = rw (← c.buffer.view_is) (ended_turn _ _ _ _ c.unwrap-reader.result
    (sym c.take.ensures.value ∙ c.unwrap-reader.ensures)
    (rw c.take.ensures.after refl)
    (λ t. none_left _ _ _ _ (c.in-Ok-eq0.ensures.bytes t) c.in-Ok-eq0.field-0-test (omega arith))
    (omega (arith, length-take c.buffer.inside.filled c.buffer.inside.bytes.items)))

pub returns-in-Ok-clause-turn : goal.returns-in-Ok-clause-turn
returns-in-Ok-clause-turn g c = rw (← c.buffer.view_is) (long_turn _ _ _ _ c.unwrap-reader.result c.read.new.reader
    (sym c.take.ensures.value ∙ c.unwrap-reader.ensures)
    refl
    (rw (← c.buffer.view_is) at c.requires.full)
    (λ t. some_left _ _ _ _ (c.in-Ok.ensures.bytes t) c.in-Ok.field-0-test.1 c.in-Ok.ensures.bound.0))

pub returns-in-Err-clause-turn : goal.returns-in-Err-clause-turn
returns-in-Err-clause-turn g c = rw (← c.buffer.view_is) (failed_turn _ _ _ _ c.unwrap-reader.result c.read.new.reader
    (sym c.take.ensures.value ∙ c.unwrap-reader.ensures)
    refl
    (λ t. c.in-Err.ensures.bytes t))
