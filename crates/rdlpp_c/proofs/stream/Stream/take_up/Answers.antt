use Rattle.std.proofs.Common.{◌≡◌, ap, sym, ◌∙◌, is_some, refl}
use Rattle.rdlpp_source.specs.declared.asked.AskedTexts.{AskedTexts}
use Rattle.rdlpp_c.proofs.Onces.{searches, takes_again}
use Rattle.rdlpp_c.proofs.stream.Stream.take_up.Goals as goal

pub returns-then-is_some : goal.returns-then-is_some
returns-then-is_some c =
    let same : c.sources.result.now ≡ c.args.self.now.reading.engine.sources = c.sources.ensures ∙ ap (λ e. e.sources) c.engine.ensures in
    takes_again c.args.self.now.reading.engine.sources.wanted _ _ (ap (λ (s : AskedTexts). is_some s.wanted) (sym same) ∙ (sym c.is_some.ensures ∙ c.if-is_some.true))
    (searches _ _ c.retry.new.self _ _ c.as_str.ensures.value c.retry.ensures.engine c.retry.ensures.rest c.start_again-started.ensures.engine c.start_again-started.ensures.rest refl)
