use Rattle.std.proofs.Common.{sym, ◌∙◌}
use Rattle.rdlpp_texts.proofs.CallLaws.{opener_first}
use Rattle.rdlpp_texts.proofs.parts.call_start.Goals as goal

pub returns-then-byte_at-eq40-clause-value : goal.returns-then-byte_at-eq40-clause-value
returns-then-byte_at-eq40-clause-value c = sym (opener_first c.args.text.now (sym c.byte_at.ensures.value ∙ c.if-byte_at-eq40.true))
