use Rattle.std.proofs.Common.{ap, sym, length, ◌∙◌}
use Rattle.rdlpp_expand.proofs.Readings.{none_held}
use Rattle.rdlpp_expand.proofs.engine.Engine.front.Goals as goal

pub returns-then-len-eq0 : goal.returns-then-len-eq0
returns-then-len-eq0 g c = none_held _ (sym (ap (λ e. length e.files.include_stack) c.self.view_is) ∙ (sym c.len.ensures ∙ c.if-len-eq0.true))
