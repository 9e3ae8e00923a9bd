-- The exact clauses give those of the trait, where both counts are 0.
use Rattle.std.proofs.Common.{◌≡◌, Result, ℕ, IfErr, sym, subst, ap, refl}
use Rattle.rdlpp_source.proofs.Searches.{Finds-from_Gives, failures-from_Gives, refusals-from_Gives, failures-from_Ok}
use Rattle.rdlpp_source.specs.declared.sources.SourceFault.{SourceFault}
use Rattle.rdlpp_source.specs.declared.sources.SourceFault.TheVariants.{Device}
use Rattle.rdlpp_source.specs.Texts.{texts_catalog, left_of}
use Rattle.rdlpp_source.proofs.texts.TextsSources.TheImpl.Goals as goal

pub top-tells : goal.top-tells
top-tells g x x' c = record {
  answer = λ _. Finds-from_Gives left_of ((texts_catalog c.args.self.now).top c.args.path.now) c.result c.ensures.answer;
  failures = failures-from_Gives left_of ((texts_catalog c.args.self.now).top c.args.path.now) c.result 0 c.ensures.answer;
  refusals = refusals-from_Gives left_of ((texts_catalog c.args.self.now).top c.args.path.now) c.result 0 c.ensures.answer;
  has_known_texts = λ _. tt;
  catalog = ap texts_catalog c.ensures.unchanged;
}

pub find-tells : goal.find-tells
find-tells g x x' c = record {
  answer = λ _. Finds-from_Gives left_of ((texts_catalog c.args.self.now).find c.args.from.now c.args.name.now) c.result c.ensures.answer;
  failures = failures-from_Gives left_of ((texts_catalog c.args.self.now).find c.args.from.now c.args.name.now) c.result 0 c.ensures.answer;
  refusals = refusals-from_Gives left_of ((texts_catalog c.args.self.now).find c.args.from.now c.args.name.now) c.result 0 c.ensures.answer;
  has_known_texts = λ _. tt;
  catalog = ap texts_catalog c.ensures.unchanged;
}

pub read-tells : goal.read-tells
read-tells g x x' c = record {
  bound = c.ensures.bound;
  only = (let P : Result ℕ SourceFault → Type 0 = λ r. IfErr r (λ fault. fault ≡ Device) in subst P (sym c.ensures.count) tt);
  bytes = λ _. c.ensures.bytes;
  failures = failures-from_Ok c.result _ 0 c.ensures.count;
  refusals = refl;
  has_known_texts = λ _. tt;
  catalog = ap texts_catalog c.ensures.unchanged;
}
