-- The tokens of a body have its bytes.
use Rattle.std.proofs.Common.{◌≡◌, ℕ, zero, suc, ◌+◌, ◌-◌, ◌<◌, Bool, true, false, List, ◌∷◌, length, drop, refl, ap, arith, if◌then◌else◌, nat_lt, not, slice_index, ◌==◌, ltb-false, take-append-drop}
use Rattle.std.specs.List.{prefix_len}
use Rattle.rdlpp_scan.specs.Bytes.{begins_perl, ends_block_comment, is_line_end}
use Rattle.rdlpp_scan.specs.Tokens.{block_token, first_place, plain_token, string_stop, string_token, token_of, tokens_from, whole}
use Rattle.rdlpp_scan.specs.declared.token.Kind.{Kind}
use Rattle.rdlpp_scan.specs.declared.token.Kind.TheVariants.{BlockComment, Perl, Str}
use Rattle.rdlpp_scan.specs.declared.token.Mode.{Mode}
use Rattle.rdlpp_scan.specs.declared.token.Mode.TheVariants.{InBlock, InStr, Plain}
use Rattle.rdlpp_scan.specs.declared.token.Token.{Token}
use Rattle.rdlpp_scan.proofs.TokenLens.{is_word-digit, is_word-letter}
use Rattle.rdlpp_meaning.specs.Expansion.{bytes_of}
use Rattle.rdlpp_meaning.specs.Substitution.{body_tokens, spelled}

-- The tokens of a body have its bytes, and none of them is empty.

-- a run that begins with a byte of its class isn't empty
run_positive : (p : ℕ → Bool) (b : ℕ) (bs : List ℕ) → p b ≡ true → 0 < prefix_len p (b ∷ bs)
run_positive p b bs e = rw e (omega arith)

-- one more than a number isn't zero
suc_positive : (n : ℕ) → 0 < suc n
suc_positive n = omega arith

-- a suffix after a token that has a byte
drop_after : (n b : ℕ) (bs : List ℕ) → 0 < n → drop n (b ∷ bs) ≡ drop (n - 1) bs
drop_after zero b bs h = absurd (omega arith)
drop_after (suc n) b bs h = let e : suc n - 1 ≡ n = omega arith in rw e refl

-- a token has a byte
unfoldable pub HasByte : Token → Type 0
HasByte t = 0 < t.len

-- a choice of tokens that have a byte
chosen : (test : Bool) (t u : Token) → (test ≡ true → HasByte t) → (test ≡ false → HasByte u) → HasByte (if test then t else u)
chosen true t u first second = first refl
chosen false t u first second = second refl

-- a whole token of so many bytes
whole_has : (k : Kind) (n : ℕ) → 0 < n → HasByte (whole k n)
unfolding whole HasByte
whole_has k n h = h

-- a string that stops at a place
string_at : List ℕ → ℕ → Token
string_at bytes stop =
    if slice_index bytes stop == 34 then whole Str (suc stop) else record { kind = Str; len = stop; next_mode = InStr }

-- one that stops after a byte
string_after : (bytes : List ℕ) (stop : ℕ) → 0 < stop → HasByte (string_at bytes stop)
unfolding string_at HasByte whole
string_after bytes stop h = grind (arith, chosen, suc_positive)

-- a string whose part begins after its quote
string_has : (from : ℕ) (bytes : List ℕ) → 0 < from → HasByte (string_token from bytes)
unfolding string_token string_at
string_has from bytes h = string_after bytes (from + string_stop false (drop from bytes)) (omega arith)

-- the rest of a string that doesn't begin with `<%`, by whether it begins with a quote
string_rest_by : (b : ℕ) (bs : List ℕ) (quote : Bool) → (b == 34) ≡ quote → begins_perl (b ∷ bs) ≡ false
    → HasByte (string_token 0 (b ∷ bs))
unfolding string_token string_at string_stop HasByte whole
string_rest_by b bs true q e = grind (arith, suc_positive)
string_rest_by b bs false q e = grind (arith, string_after)

-- a comment that stops at a place
block_at : List ℕ → ℕ → Token
block_at bytes stop =
    if nat_lt stop (length bytes) then whole BlockComment (stop + 2) else record { kind = BlockComment; len = stop; next_mode = InBlock }

-- one that stops after a byte
block_after : (bytes : List ℕ) (stop : ℕ) → 0 < stop → HasByte (block_at bytes stop)
unfolding block_at HasByte whole
block_after bytes stop h = grind (arith, chosen, nat_lt)

-- a comment whose text begins after its opener
block_has : (from : ℕ) (bytes : List ℕ) → 0 < from → HasByte (block_token from bytes)
unfolding block_token block_at
block_has from bytes h = block_after bytes (from + first_place ends_block_comment (drop from bytes)) (omega arith)

-- the rest of a comment, by whether it ends at once
block_rest_by : (b : ℕ) (bs : List ℕ) (ends : Bool) → ends_block_comment (b ∷ bs) ≡ ends → HasByte (block_token 0 (b ∷ bs))
unfolding block_token block_at first_place HasByte whole
block_rest_by b bs true e = grind (arith, chosen, nat_lt, suc_positive, ltb-false)
block_rest_by b bs false e = grind (arith, block_after)

-- a line comment has its bytes, since it doesn't begin with an LF
comment_positive : (b : ℕ) (bs : List ℕ) → is_line_end b ≡ false → 0 < prefix_len (λ x. not (is_line_end x)) (b ∷ bs)
comment_positive b bs e = run_positive (λ x. not (is_line_end x)) b bs (ap not e)

-- the first token of a text in plain text has a byte
plain_has : (b : ℕ) (bs : List ℕ) → HasByte (plain_token (b ∷ bs))
unfolding plain_token
plain_has b bs = grind (arith, chosen, whole_has, suc_positive, run_positive, comment_positive, block_has, string_has, is_word-letter, is_word-digit)

-- the first token of a text has a byte in each mode
pub token_has : (mode : Mode) (b : ℕ) (bs : List ℕ) → HasByte (token_of mode (b ∷ bs))
unfolding token_of
token_has Plain b bs = plain_has b bs
token_has InStr b bs =
    chosen (begins_perl (b ∷ bs)) _ _ (λ h. whole_has Perl 2 (suc_positive 1)) (λ e. string_rest_by b bs (b == 34) refl e)
token_has InBlock b bs = block_rest_by b bs (ends_block_comment (b ∷ bs)) refl

-- tokens from a place on have the bytes from there on
covered : (mode : Mode) (skip : ℕ) (bs : List ℕ) → bytes_of (spelled (tokens_from mode skip bs) (drop skip bs)) ≡ drop skip bs
unfolding tokens_from spelled HasByte
covered mode (suc skip) (b ∷ bs) = covered mode skip bs
covered mode zero (b ∷ bs) =
    let t = token_of mode (b ∷ bs) in
    let e = drop_after t.len b bs (token_has mode b bs) in
    let rest = tokens_from t.next_mode (t.len - 1) bs in
    grind (arith, take-append-drop, (covered t.next_mode (t.len - 1) bs))
covered mode _ _ = refl

-- the tokens of a body have its bytes
pub body_covered : (body : List ℕ) → bytes_of (body_tokens body) ≡ body
unfolding body_tokens
body_covered body = covered Plain 0 body
