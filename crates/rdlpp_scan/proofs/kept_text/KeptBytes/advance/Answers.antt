use Rattle.std.proofs.Common.{◌∙◌, sym, refl, arith, eqb-true}
use Rattle.rdlpp_scan.specs.KeptBytes.{IsAdvanced}
use Rattle.rdlpp_scan.proofs.Joins.{none_first}
use Rattle.rdlpp_scan.proofs.Measures.{fault_end, sound_end, some_from, left_perl, left_stop, left_on}
use Rattle.rdlpp_scan.proofs.kept_text.KeptBytes.advance.Goals as goal

pub returns-in-Some-clause-next : goal.returns-in-Some-clause-next
unfolding IsAdvanced
returns-in-Some-clause-next c = fault_end _ _ _ _ _ (none_first _ _ (eqb-true _ _ (sym c.is_empty.ensures ∙ c.if-is_empty.true))) c.open_fault.ensures c.in-Some.is

pub returns-in-None-clause-next : goal.returns-in-None-clause-next
unfolding IsAdvanced
returns-in-None-clause-next c = (sound_end _ _ _ _ (none_first _ _ (eqb-true _ _ (sym c.is_empty.ensures ∙ c.if-is_empty.true))) c.open_fault.ensures c.in-None.is, refl)

pub returns-then-is_perl-clause-next : goal.returns-then-is_perl-clause-next
unfolding IsAdvanced
returns-then-is_perl-clause-next c =
    left_perl _ _ _ _ c.line_token-token.result
    (record { some = some_from _ (sym c.is_empty.ensures ∙ c.if-is_empty.false); read = c.line_token-token.ensures.is_read })
    (sym c.is_perl.ensures ∙ c.if-is_perl.true)

pub returns-then-stops_token-clause-next : goal.returns-then-stops_token-clause-next
unfolding IsAdvanced
returns-then-stops_token-clause-next c = (
  left_stop _ _ _ _ c.line_token-token.result
      (record { some = some_from _ (sym c.is_empty.ensures ∙ c.if-is_empty.false); read = c.line_token-token.ensures.is_read })
      (sym c.is_perl.ensures ∙ c.if-is_perl.false)
      (sym c.stops_token.ensures ∙ c.if-stops_token.true),
  refl,
)

pub returns-clause-next : goal.returns-clause-next
unfolding IsAdvanced
returns-clause-next c = (
  left_on _ _ _ _ _ _ _ _ c.line_token-token.result
      (record { some = some_from _ (sym c.is_empty.ensures ∙ c.if-is_empty.false); read = c.line_token-token.ensures.is_read })
      (sym c.is_perl.ensures ∙ c.if-is_perl.false)
      (sym c.stops_token.ensures ∙ c.if-stops_token.false)
      c.level_by-self.ensures.value c.split_at.ensures.front c.kept_of-self.ensures.value c.split_at.ensures.back,
  omega (arith, c.split_at.ensures.back_len, c.line_token-token.ensures.not_empty, c.line_token-token.ensures.inside),
)
