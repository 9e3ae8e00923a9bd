use Rattle.std.proofs.Common.{List, ℕ, ap, ◌∙◌}
use Rattle.std.proofs.lemmas.List.{take_rest}
use Rattle.rdlpp_scan.specs.Tokens.{token_of}
use Rattle.rdlpp_texts.proofs.Stopping.{back-one, back-other, running-end, running-more, running-start, running-point}
use Rattle.rdlpp_texts.proofs.peek.run_by_tokens.Goals as goal

pub loop-at-init : goal.loop-at-init
loop-at-init c = running-start _

pub returns-in-Back-clause-value : goal.returns-in-Back-clause-value
returns-in-Back-clause-value c =
    running-point _ c.loop-at.mode _ c.first_token-token.result c.loop-at.invariant c.loop-at-test.true
    (c.first_token-token.ensures.value ∙ ap (λ (b : List ℕ). token_of c.loop-at.mode b) (take_rest c.args.text.now c.loop-at.at))
    (back-one _ c.in-Back.is)

pub loop-at-preserved : goal.loop-at-preserved
loop-at-preserved c =
    running-more _ c.loop-at.mode _ c.first_token-token.result c.loop-at.invariant c.loop-at-test.true
    (c.first_token-token.ensures.value ∙ ap (λ (b : List ℕ). token_of c.loop-at.mode b) (take_rest c.args.text.now c.loop-at.at))
    (back-other _ c.in_default.not-Back c.in_default.not-BareBackquote)

pub returns-clause-value : goal.returns-clause-value
returns-clause-value c = running-end _ c.loop-at.mode _ c.loop-at.invariant c.loop-at-test.false
