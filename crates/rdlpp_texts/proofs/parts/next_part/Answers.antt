use Rattle.std.proofs.Common.{◌≡◌, ℕ, drop, subst}
use Rattle.rdlpp_meaning.specs.Substitution.{body_tokens}
use Rattle.rdlpp_texts.specs.CallParts.{part_from}
use Rattle.rdlpp_texts.proofs.PartLaws.{next_part_is}
use Rattle.rdlpp_texts.proofs.QuickTokens.{white_is}
use Rattle.rdlpp_texts.proofs.parts.next_part.Goals as goal

pub returns-clause-value : goal.returns-clause-value
returns-clause-value c =
    subst (λ (n : ℕ). c.part_at.result ≡ part_from c.args.closes n n 0 n (body_tokens (drop n c.args.text.now)))
    (white_is c.args.text.now c.white_bytes-from.result c.white_bytes-from.ensures.value) c.part_at.ensures

pub returns-clause-part : goal.returns-clause-part
returns-clause-part c =
    next_part_is c.args.closes c.args.text.now c.white_bytes-from.result c.part_at.result (white_is c.args.text.now c.white_bytes-from.result c.white_bytes-from.ensures.value) c.part_at.ensures
