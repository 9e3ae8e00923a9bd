-- The digest by which a text is told from others.
-- A definition that names no source is this project's own.
use Rattle.std.specs.Prelude.{ℕ, zero, suc, ◌+◌, ◌*◌, ◌/◌, ◌%◌, ◌^◌, List, [], ◌∷◌, length, bit_xor, slice_index}
use Rattle.std.specs.Int.{w64, from_be_bytes}

-- a number mixed into another one
abbrev pub spread : ℕ → ℕ
spread n = bit_xor n (n / 2 ^ 29)

abbrev pub mixed : ℕ → ℕ → ℕ
mixed state n = spread ((bit_xor state n * 0x9fb21c651e98df25) % 2 ^ 64)

-- the first so many of some numbers, mixed in turn
unfoldable pub mixed_all : (ℕ → ℕ) → ℕ → ℕ → ℕ
mixed_all numbers start zero = start
mixed_all numbers start (suc n) = mixed (mixed_all numbers start n) (numbers n)

-- the eight bytes from a place on, as a number
abbrev pub word_at : List ℕ → ℕ → ℕ
word_at text i = from_be_bytes w64
    (slice_index text i ∷ slice_index text (i + 1) ∷ slice_index text (i + 2) ∷ slice_index text (i + 3)
    ∷ slice_index text (i + 4) ∷ slice_index text (i + 5) ∷ slice_index text (i + 6) ∷ slice_index text (i + 7) ∷ [])

-- the first words of the first so many blocks of a text, each of four words, mixed in turn
abbrev pub first_words : List ℕ → ℕ → ℕ
first_words text n = mixed_all (λ i. word_at text (32 * i)) 1 n

-- their second words, mixed in turn
abbrev pub second_words : List ℕ → ℕ → ℕ
second_words text n = mixed_all (λ i. word_at text (32 * i + 8)) 1 n

-- their third words, mixed in turn
abbrev pub third_words : List ℕ → ℕ → ℕ
third_words text n = mixed_all (λ i. word_at text (32 * i + 16)) 1 n

-- their fourth words, mixed in turn
abbrev pub fourth_words : List ℕ → ℕ → ℕ
fourth_words text n = mixed_all (λ i. word_at text (32 * i + 24)) 1 n

-- the first so many blocks of a text: what their words are mixed to, mixed in turn
abbrev pub mixed_blocks : List ℕ → ℕ → ℕ
mixed_blocks text n = mixed (mixed (mixed (first_words text n) (second_words text n)) (third_words text n)) (fourth_words text n)

-- the whole blocks of a text
abbrev pub digest_of_blocks : List ℕ → ℕ
digest_of_blocks text = mixed_blocks text (length text / 32)

-- the digest of a text: its whole blocks, and then the bytes that don't fill one
abbrev pub digest_of : List ℕ → ℕ
digest_of text = mixed_all (λ i. slice_index text (32 * (length text / 32) + i)) (digest_of_blocks text) (length text % 32)
