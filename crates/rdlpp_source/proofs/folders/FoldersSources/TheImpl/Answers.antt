-- The counts are those that the trait asks for, and texts are never told.
use Rattle.std.proofs.Common.{refl}
use Rattle.rdlpp_source.proofs.folders.FoldersSources.TheImpl.Goals as goal

pub top-tells : goal.top-tells
top-tells g x x' c = record {
  answer = λ told. absurd told;
  failures = c.ensures.failures;
  refusals = c.ensures.refusals;
  has_known_texts = λ told. told;
  catalog = refl;
}

pub find-tells : goal.find-tells
find-tells g x x' c = record {
  answer = λ told. absurd told;
  failures = c.ensures.failures;
  refusals = c.ensures.refusals;
  has_known_texts = λ told. told;
  catalog = refl;
}

pub read-tells : goal.read-tells
read-tells g x x' c = record {
  bound = c.ensures.bound;
  only = c.ensures.only;
  bytes = λ told. absurd told;
  failures = c.ensures.failures;
  refusals = c.ensures.refusals;
  has_known_texts = λ told. told;
  catalog = refl;
}
