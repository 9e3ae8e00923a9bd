-- What the search for the `(` comes to from here on.
use Rattle.std.proofs.Common.{◌≡◌, ◌≤◌, ◌-◌, length, drop}
use Rattle.rdlpp_meaning.specs.Substitution.{body_tokens}
use Rattle.rdlpp_meaning.specs.TextTokens.{text_tokens}
use Rattle.rdlpp_texts.specs.CallParts.{opener_from}
use Rattle.rdlpp_texts.proofs.parts.spaced_start.Given as goal

abbrev pub invariant-loop-at : goal.invariant-loop-at
invariant-loop-at l = record {
  inside : l.at ≤ length l.text;
  found : opener_from l.at (text_tokens l.mode (drop l.at l.text)) ≡ opener_from 0 (body_tokens l.text);
}

abbrev pub decreases-loop-at : goal.decreases-loop-at
decreases-loop-at l = length l.text - l.at
