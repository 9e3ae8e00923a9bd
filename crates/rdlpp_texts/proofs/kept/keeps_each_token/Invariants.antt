-- Whether a call keeps each token from here on.
use Rattle.std.proofs.Common.{◌≡◌, ◌≤◌, ◌-◌, length, drop}
use Rattle.rdlpp_meaning.specs.Substitution.{body_tokens}
use Rattle.rdlpp_meaning.specs.TextTokens.{text_tokens}
use Rattle.rdlpp_texts.specs.KeptTexts.{keeps_each}
use Rattle.rdlpp_texts.proofs.kept.keeps_each_token.Given as goal

abbrev pub invariant-loop-at : goal.invariant-loop-at
invariant-loop-at l = record {
  inside : l.at ≤ length l.text;
  found : keeps_each (text_tokens l.mode (drop l.at l.text)) ≡ keeps_each (body_tokens l.text);
}

abbrev pub decreases-loop-at : goal.decreases-loop-at
decreases-loop-at l = length l.text - l.at
