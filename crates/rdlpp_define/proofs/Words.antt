-- Words are text.
use Rattle.std.proofs.Common.{◌≡◌, ℕ, ◌<◌, List, ◌∷◌, zero, suc, take, lit<, slice_index, true, arith, IsAscii, IsUtf8}
use Rattle.std.specs.List.{list_all}
use Rattle.std.proofs.lemmas.Bool.{and_parts}
use Rattle.std.proofs.lemmas.Bool.Decides.{nat_tests}
use Rattle.std.proofs.lemmas.Str.{IsUtf8-from_ascii}
use Rattle.rdlpp_scan.specs.Bytes.{is_digit, is_letter, is_word}
use Rattle.rdlpp_scan.specs.Names.{IsWordBytes}

-- a word byte is ASCII
word-ascii : (b : ℕ) → is_word b ≡ true → b < 128
unfolding is_word is_letter is_digit
word-ascii b h = grind (arith, nat_tests)

-- the first bytes of a word are ASCII
words-take : (n : ℕ) (bs : List ℕ) → IsWordBytes bs → IsAscii (take n bs)
words-take (suc n) (b ∷ bs) h =
    let parts = and_parts (is_word b) (list_all is_word bs) h in
    λ i. elim i as (λ j. slice_index (b ∷ take n bs) j < 128) [ zero ↦ word-ascii b parts.0 | suc j ↦ words-take n bs parts.1 j ]
words-take _ bs h = λ i. lit< tt

-- the first bytes of a word are text
pub words-utf8 : (n : ℕ) (bs : List ℕ) → IsWordBytes bs → IsUtf8 (take n bs)
words-utf8 n bs h = IsUtf8-from_ascii (take n bs) (words-take n bs h)
