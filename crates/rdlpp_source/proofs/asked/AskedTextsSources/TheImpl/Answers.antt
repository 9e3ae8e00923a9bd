-- The searches do what searches of sources have to.
use Rattle.std.proofs.Common.{ap}
use Rattle.rdlpp_source.specs.Asked.{asked_catalog, standing_at}
use Rattle.rdlpp_source.specs.declared.asked.AskedTexts.{AskedTexts}
use Rattle.rdlpp_source.proofs.Searches.{failures_rise}
use Rattle.rdlpp_source.proofs.asked.AskedTextsSources.TheImpl.Goals as goal

pub top-tells : goal.top-tells
unfolding standing_at
top-tells x x' c = record {
  answer = λ _. c.ensures.finds;
  failures = failures_rise _ _ _ _ _ (ap (λ (s : AskedTexts). s.asks) c.ensures.only) c.ensures.unasked c.ensures.failures;
  refusals = c.ensures.refusals;
  has_known_texts = λ t. t;
  catalog = ap asked_catalog c.ensures.only;
}

pub find-tells : goal.find-tells
unfolding standing_at
find-tells x x' c = record {
  answer = λ _. c.ensures.finds;
  failures = failures_rise _ _ _ _ _ (ap (λ (s : AskedTexts). s.asks) c.ensures.only) c.ensures.unasked c.ensures.failures;
  refusals = c.ensures.refusals;
  has_known_texts = λ t. t;
  catalog = ap asked_catalog c.ensures.only;
}
