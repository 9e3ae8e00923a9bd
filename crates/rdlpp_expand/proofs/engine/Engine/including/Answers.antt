use Rattle.std.proofs.Common.{◌-◌, slice_get, sym, ap, ◌∙◌, arith}
use Rattle.rdlpp_expand.proofs.TextFacts.{included_line, slot_number}
use Rattle.rdlpp_expand.proofs.engine.Engine.including.Goals as goal

pub shown_line-requires : goal.shown_line-requires
shown_line-requires g c =
    let inner = ap (λ e. slice_get e.files.include_stack (c.args.place - 1)) (sym c.self.view_is) ∙ c.at.ensures in
    let outer = ap (λ e. slice_get e.files.include_stack c.args.place) (sym c.self.view_is) ∙ c.at-file.ensures in
    let line = included_line _ _ _ c.facts.ensures.sound.lines inner in
    let number = slot_number _ _ _ _ c.facts.ensures.files.each outer in
    omega (arith, line, number)
