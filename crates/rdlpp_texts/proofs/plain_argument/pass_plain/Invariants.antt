-- The search for the end of a part comes to the same from here on.
use Rattle.std.proofs.Common.{◌≡◌, ◌≤◌, ◌-◌, ℕ, Bool, length, drop}
use Rattle.rdlpp_scan.specs.declared.token.Mode.TheVariants.{Plain}
use Rattle.rdlpp_meaning.specs.TextTokens.{text_tokens}
use Rattle.rdlpp_texts.specs.CallParts.{part_from}
use Rattle.rdlpp_texts.proofs.plain_argument.pass_plain.Given as goal

abbrev pub invariant-loop-at : goal.invariant-loop-at
invariant-loop-at l = record {
  order : l.fn.from.at ≤ l.at;
  inside : l.at ≤ length l.text;
  same : (closes : Bool) (start : ℕ) → part_from closes start l.at l.level l.to (text_tokens Plain (drop l.at l.text))
      ≡ part_from closes start l.fn.from.at l.level l.fn.from.to (text_tokens Plain (drop l.fn.from.at l.text));
}

abbrev pub decreases-loop-at : goal.decreases-loop-at
decreases-loop-at l = length l.text - l.at
