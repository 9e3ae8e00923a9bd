use Rattle.std.proofs.Common.{ap, ◌∙◌}
use Rattle.rdlpp_meaning.specs.declared.fault.FaultKind.TheVariants.{EmbeddedPerl}
use Rattle.rdlpp_c.proofs.Quiet.{not_numbered, numbered_from}
use Rattle.rdlpp_c.specs.Faults.{found_text}
use Rattle.rdlpp_c.proofs.faults.text_of.Goals as goal

pub returns-then-place-eq0 : goal.returns-then-place-eq0
returns-then-place-eq0 c = ap found_text (not_numbered c.args.number c.then-place-eq0.either)

pub returns : goal.returns
returns c = c.kind_text.ensures ∙ ap found_text (numbered_from c.args.number EmbeddedPerl c.if-place-eq0.false c.if-place-gt35.false)
