-- What the search for the end of the part comes to from here on.
use Rattle.std.proofs.Common.{◌≡◌, ◌≤◌, ◌-◌, length, drop}
use Rattle.rdlpp_meaning.specs.Substitution.{body_tokens}
use Rattle.rdlpp_meaning.specs.TextTokens.{text_tokens}
use Rattle.rdlpp_texts.specs.CallParts.{part_from}
use Rattle.rdlpp_texts.proofs.parts.part_by_tokens.Given as goal

abbrev pub invariant-loop-passed : goal.invariant-loop-passed
invariant-loop-passed l = record {
  inside : l.passed.at ≤ length l.text;
  low : l.level ≤ l.passed.at;
  found : part_from l.closes l.from l.passed.at l.level l.passed.to (text_tokens l.mode (drop l.passed.at l.text)) ≡ part_from l.closes l.from l.from 0 l.from (body_tokens (drop l.from l.text));
}

abbrev pub decreases-loop-passed : goal.decreases-loop-passed
decreases-loop-passed l = length l.text - l.passed.at
