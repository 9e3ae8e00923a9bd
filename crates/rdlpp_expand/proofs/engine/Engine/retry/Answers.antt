use Rattle.std.proofs.Common.{refl, sym, ◌∙◌}
use Rattle.std.proofs.lemmas.Bool.{false≢true}
use Rattle.rdlpp_expand.proofs.Readings.{retries}
use Rattle.rdlpp_expand.proofs.engine.Engine.retry.Goals as goal

pub returns-then-keeps_failed_search : goal.returns-then-keeps_failed_search
returns-then-keeps_failed_search g c =
    let is = sym c.keeps_failed_search.ensures ∙ c.if-keeps_failed_search.true in
    retries g.S.Sources _ _ (λ _. rw (sym c.self.view_is) refl) (λ no. absurd (false≢true (sym no ∙ is)))

pub returns-else-keeps_failed_search : goal.returns-else-keeps_failed_search
returns-else-keeps_failed_search g c =
    let isnt = sym c.keeps_failed_search.ensures ∙ c.if-keeps_failed_search.false in
    retries g.S.Sources _ _ (λ yes. absurd (false≢true (sym isnt ∙ yes))) (λ _. refl)
