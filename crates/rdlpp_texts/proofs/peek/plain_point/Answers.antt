use Rattle.std.proofs.Common.{◌∙◌, arith, sym, eqb-true}
use Rattle.std.proofs.lemmas.List.{nil_from_length}
use Rattle.rdlpp_texts.specs.TextItems.{IsTextItem}
use Rattle.rdlpp_texts.proofs.Stopping.{front-plain}
use Rattle.rdlpp_texts.proofs.peek.plain_point.Goals as goal

pub returns-then-is_empty : goal.returns-then-is_empty
unfolding IsTextItem
returns-then-is_empty c = nil_from_length _ (eqb-true _ _ (sym c.is_empty.ensures ∙ c.if-is_empty.true))

pub returns-in-Back : goal.returns-in-Back
returns-in-Back c =
    (front-plain _ c.first_token-token.result (omega (arith, c.first_token-token.ensures.inside, c.first_token-token.ensures.not_empty)) c.requires c.first_token-token.ensures.value).0 c.in-Back.is

pub returns-in_default : goal.returns-in_default
returns-in_default c =
    (front-plain _ c.first_token-token.result (omega (arith, c.first_token-token.ensures.inside, c.first_token-token.ensures.not_empty)) c.requires c.first_token-token.ensures.value).1 c.in_default.not-Back
