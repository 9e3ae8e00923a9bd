use Rattle.std.proofs.Common.{◌≡◌, None, length, sym, ap, ◌∙◌, arith}
use Rattle.rdlpp_state.specs.declared.phase.Phase.TheVariants.{Open}
use Rattle.rdlpp_state.proofs.FrontSteps.{opened_phase, pending_is_placed, take_pending}
use Rattle.rdlpp_state.proofs.EngineSteps.{steps_kept_by, none_kept_by, wider}
use Rattle.rdlpp_expand.proofs.engine.Engine.step_outside.Goals as goal
use Rattle.rdlpp_expand.proofs.engine.Engine.step_outside.Goals.{then-is_empty+in_default-hold_bytes, else-is_empty}

pub returns-then-is_some-clause-uncut_step : goal.returns-then-is_some-clause-uncut_step
returns-then-is_some-clause-uncut_step g c =
    wider g.S.Sources 0 1 _ _ _ (omega arith)
    (steps_kept_by g.S.Sources c.args.self.now c.self.inside.kept c.requires.started c.facts.ensures.bounded (sym (ap (λ e. e.kept) c.self.view_is)) (sym c.is_some.ensures ∙ c.if-is_some.true))

pub stop-halt-requires-clause-free : goal.stop-halt-requires-clause-free
stop-halt-requires-clause-free g c = none_kept_by c.args.self.now.kept c.self.inside.kept (sym (ap (λ e. e.kept) c.self.view_is)) (sym c.is_some.ensures ∙ c.if-is_some.false)

pub returns-then-not-is_open-clause-uncut_step : goal.returns-then-not-is_open-clause-uncut_step
returns-then-not-is_open-clause-uncut_step g c = wider g.S.Sources 0 1 _ _ _ (omega arith) (c.stop-halt.ensures c.facts-then-not-is_open.ensures.bounded)

pub take_pending-requires : goal.take_pending-requires
take_pending-requires g c = c.facts.ensures.sound.open_ (opened_phase c.args.self.now.phase (c.is_open.ensures.0 c.if-not-is_open.false))

pub returns-in-Some-clause-uncut_step : goal.returns-in-Some-clause-uncut_step
returns-in-Some-clause-uncut_step g c =
    let e = c.args.self.now in
    let t = c.in-Some.ensures.piece in
    let free : e.kept ≡ None = none_kept_by e.kept c.self.inside.kept (sym (ap (λ e. e.kept) c.self.view_is)) (sym c.is_some.ensures ∙ c.if-is_some.false) in
    let open_ : e.phase ≡ Open = c.is_open.ensures.0 c.if-not-is_open.false in
    wider g.S.Sources 0 1 _ _ _ (omega arith) (take_pending g.S.Sources e _ c.in-Some.piece t.rest free open_ c.facts-in-Some.ensures.bounded t.takes t.becomes)

pub returns-in-Some-clause-place : goal.returns-in-Some-clause-place
returns-in-Some-clause-place g c =
    let open_ : c.args.self.now.phase ≡ Open = c.is_open.ensures.0 c.if-not-is_open.false in
    grind (arith, pending_is_placed, opened_phase)

pub file-requires : goal.file-requires
file-requires g c =
    let open_ : c.args.self.now.phase ≡ Open = c.is_open.ensures.0 c.if-not-is_open.false in
    let same = c.self-2.view_is ∙ c.in_default.ensures.nothing.1 in
    omega (arith, ap (λ e. length e.files.include_stack) same, c.facts.ensures.sound.open_ (opened_phase c.args.self.now.phase open_))

pub returns-in-Err-clause-uncut_step : goal.returns-in-Err-clause-uncut_step
returns-in-Err-clause-uncut_step g c = rw (← c.in_default.ensures.nothing.1) (rw c.location_of.ensures (c.in-Err.ensures.uncut_step c.facts-in-Err.ensures.bounded))

pub returns-clause-uncut_step : goal.returns-clause-uncut_step
returns-clause-uncut_step g c =
    let step = c.take_held-place.ensures.uncut_step c.facts-2.ensures.bounded in
    rw (← c.in_default.ensures.nothing.1) (elim c.if-is_empty.branch [
      | then-is_empty+in_default-hold_bytes w ↦ w.in_default-hold_bytes.ensures.silent _ _ (rw w.self-is at step)
      | else-is_empty w ↦ wider g.S.Sources 0 1 _ _ _ (omega arith) (rw w.self-is at step)
    ])
