-- The words so far are mixed.
use Rattle.std.proofs.Common.{◌≡◌}
use Rattle.rdlpp_c.specs.Digest.{first_words, second_words, third_words, fourth_words}
use Rattle.rdlpp_c.proofs.digest.digest_of_blocks.Given as goal

abbrev pub invariant-loop-place : goal.invariant-loop-place
invariant-loop-place l = record {
  first : l.first ≡ first_words l.text l.place;
  second : l.second ≡ second_words l.text l.place;
  third : l.third ≡ third_words l.text l.place;
  fourth : l.fourth ≡ fourth_words l.text l.place;
}
