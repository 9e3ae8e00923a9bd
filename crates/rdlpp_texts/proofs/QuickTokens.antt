-- Tokens of a call that are told by their bytes: words, commas, brackets and white space.
use Rattle.std.proofs.Common.{◌≡◌, ◌<◌, ◌≤◌, ℕ, zero, suc, subst, List, [], ◌∷◌, length, take, drop, slice_index, refl, sym, ap, ◌∙◌, arith, ◌==◌, ◌||◌, ◌+◌, Bool, true, false, cond, get_or, inl, inr, ⊎_elim, ◌⊎◌, ◌-◌, Option, None, one-add, eqb-true, drop-drop, get_or-drop, length-drop}
use Rattle.std.specs.List.{prefix_len}
use Rattle.std.proofs.lemmas.Bool.{both_ways, cases_Bool, cond_both, or_cases, or_parts}
use Rattle.std.proofs.lemmas.List.{drop_all}
use Rattle.std.proofs.lemmas.List.Folds.{length-prefix_len}
use Rattle.std.proofs.lemmas.Slice.{between_to_end}
use Rattle.rdlpp_scan.specs.Bytes.{begins_block_comment, begins_line_comment, begins_perl, is_blank, is_closer, is_digit, is_letter, is_line_end, is_opener, is_word, takes_word}
use Rattle.rdlpp_scan.specs.TokenParts.{kind_of, len_of, mark_kind, mode_after, plain_kind, stop_of}
use Rattle.rdlpp_scan.specs.Tokens.{plain_token, token_of, whole}
use Rattle.rdlpp_scan.specs.declared.token.Kind.{Kind}
use Rattle.rdlpp_scan.specs.declared.token.Kind.TheVariants.{Blank, Closer, Comma, Name, Opener, Word}
use Rattle.rdlpp_scan.specs.declared.token.Mode.{Mode}
use Rattle.rdlpp_scan.specs.declared.token.Mode.TheVariants.{InBlock, InStr, Plain}
use Rattle.rdlpp_scan.specs.declared.token.Token.{Token}
use Rattle.rdlpp_scan.proofs.StopKinds.{block_token-kind, digit_token, letter_token, parts, string_token-kind, token_parts}
use Rattle.rdlpp_scan.proofs.CleanTexts.{blank-step, line-step}
use Rattle.rdlpp_table.proofs.Defaults.{comma_token}
use Rattle.rdlpp_meaning.specs.Actuals.{Down, End, Role, is_space, kind_role, level_after, token_role}
use Rattle.rdlpp_meaning.specs.Substitution.{body_tokens, spelled}
use Rattle.rdlpp_meaning.specs.TextTokens.{text_tokens}
use Rattle.rdlpp_meaning.proofs.KeptTexts.{body_text, first_size, first_spelled, text_nil, text_step}
use Rattle.rdlpp_texts.specs.CallParts.{ends_call, ends_part, ends_text, is_white, opener_by, opener_from, part_from, space_from}
use Rattle.rdlpp_texts.specs.CallTokens as call
use Rattle.rdlpp_texts.specs.CallTokens.{IsFirstToken, role_meant}
use Rattle.rdlpp_texts.specs.PlainArgumentBytes.{begins_white}
use Rattle.rdlpp_texts.specs.declared.parts.PartEnd.TheVariants.{Comma as AtComma, Last}
use Rattle.rdlpp_texts.specs.declared.tokens.CallRole.{CallRole}
use Rattle.rdlpp_texts.specs.declared.tokens.CallRole.TheVariants as role
use Rattle.rdlpp_texts.specs.declared.tokens.CallToken.{CallToken}

-- The first token of a text by its role in a call.

-- the role of a token hangs on its first byte alone
pub first_byte : (k : Kind) (xs ys : List ℕ) → slice_index xs 0 ≡ slice_index ys 0 → kind_role k xs ≡ kind_role k ys
unfolding kind_role
first_byte Opener xs ys e = rw e refl
first_byte Closer xs ys e = rw e refl
first_byte k xs ys e = refl

-- the first byte of the front of a text
pub front_byte : (n : ℕ) (text : List ℕ) → 0 < n → slice_index (take n text) 0 ≡ slice_index text 0
front_byte zero text some = absurd (omega arith)
front_byte (suc n) [] some = refl
front_byte (suc n) (b ∷ bs) some = refl

-- the role of the first token of a text, with its own bytes
own_role : (mode : Mode) (text : List ℕ) → 0 < (token_of mode text).len
    → token_role (first_spelled mode text) ≡ kind_role (token_of mode text).kind (slice_index text 0 ∷ [])
unfolding token_role first_spelled
own_role mode text long = grind (arith, first_byte, front_byte)

-- the first token by its role, its length and what follows
pub first_token_is : (mode : Mode) (text : List ℕ) (t : Token) (r : CallRole) → 0 < length text
    → t ≡ token_of mode text → 0 < t.len → t.len ≤ length text → role_meant r ≡ kind_role t.kind (slice_index text 0 ∷ [])
    → IsFirstToken mode text (record { role = r; len = t.len; next_mode = t.next_mode })
first_token_is mode text t r some is long inside role =
    let here : 0 < (token_of mode text).len = subst (λ (v : Token). 0 < v.len) is long in
    record {
      first = first_spelled mode text;
      tokens = text_step mode text some ∙ ap (λ (v : Token). first_spelled mode text ∷ text_tokens v.next_mode (drop v.len text)) (sym is);
      role_is = own_role mode text here ∙ ap (λ (v : Token). kind_role v.kind (slice_index text 0 ∷ [])) (sym is) ∙ sym role;
      size = first_size mode text some ∙ ap (λ (v : Token). v.len) (sym is);
      not_empty = long;
      inside = inside;
    }

-- Words, commas and brackets of a call, which are told by their bytes.

-- the token of blanks
pub blank_token : (b : ℕ) (bs : List ℕ) → is_letter b ≡ false → is_blank b ≡ true → token_of Plain (b ∷ bs) ≡ whole Blank (prefix_len is_blank (b ∷ bs))
unfolding kind_of parts stop_of mode_after len_of plain_kind whole
blank_token b bs l d = grind (arith, token_parts)

-- a token by what it is
pub named : (text : List ℕ) (t : Token) (r : CallRole) → t ≡ token_of Plain text → 0 < t.len → t.len ≤ length text → role_meant r ≡ kind_role t.kind (get_or text 0 0 ∷ [])
    → IsFirstToken Plain text (record { role = r; len = t.len; next_mode = t.next_mode })
named text t r is long inside role = first_token_is Plain text t r (omega (arith, long, inside)) is long inside role

-- a word is a token of text
pub word_text : (text : List ℕ) (n : ℕ) → n ≡ prefix_len is_word text → 0 < n → n ≤ length text → IsFirstToken Plain text (call.plain_token role.Text n)
unfolding whole role_meant kind_role is_word
word_text [] n is some inside = absurd (omega (arith, some, inside))
word_text (b ∷ bs) n is some inside = elim (cases_Bool (is_letter b)) [
  | inl l ↦ named (b ∷ bs) (whole Name n) role.Text (ap (λ (k : ℕ). whole Name k) is ∙ sym (letter_token b bs l)) some inside refl
  | inr l ↦ elim (cases_Bool (is_digit b)) [
    | inl d ↦ named (b ∷ bs) (whole Word n) role.Text (ap (λ (k : ℕ). whole Word k) is ∙ sym (digit_token b bs l d)) some inside refl
    | inr d ↦
        let none : prefix_len is_word (b ∷ bs) ≡ 0 = rw (l, d) refl in
        absurd (omega (arith, is, none, some))
  ]
]

-- a comma is a token
pub comma_here : (bs : List ℕ) → IsFirstToken Plain (44 ∷ bs) (call.plain_token role.Comma 1)
unfolding token_of plain_token whole role_meant kind_role begins_perl begins_line_comment begins_block_comment is_blank is_line_end is_letter is_digit is_opener is_closer takes_word
comma_here bs = named (44 ∷ bs) (whole Comma 1) role.Comma (sym (comma_token bs)) (omega arith) (omega arith) refl

start_here : (bs : List ℕ) → IsFirstToken Plain (40 ∷ bs) (call.plain_token role.Start 1)
unfolding token_of plain_token whole role_meant kind_role begins_perl begins_line_comment begins_block_comment is_blank is_line_end is_letter is_digit is_opener is_closer takes_word
start_here bs = named (40 ∷ bs) (whole Opener 1) role.Start refl (omega arith) (omega arith) refl

-- and a `)` is one
pub end_here : (bs : List ℕ) → IsFirstToken Plain (41 ∷ bs) (call.plain_token role.End 1)
unfolding token_of plain_token whole role_meant kind_role begins_perl begins_line_comment begins_block_comment is_blank is_line_end is_letter is_digit is_opener is_closer takes_word
end_here bs = named (41 ∷ bs) (whole Closer 1) role.End refl (omega arith) (omega arith) refl

-- so are `[` and `{`
square_here : (bs : List ℕ) → IsFirstToken Plain (91 ∷ bs) (call.plain_token role.Opener 1)
unfolding token_of plain_token whole role_meant kind_role begins_perl begins_line_comment begins_block_comment is_blank is_line_end is_letter is_digit is_opener is_closer takes_word
square_here bs = named (91 ∷ bs) (whole Opener 1) role.Opener refl (omega arith) (omega arith) refl

brace_here : (bs : List ℕ) → IsFirstToken Plain (123 ∷ bs) (call.plain_token role.Opener 1)
unfolding token_of plain_token whole role_meant kind_role begins_perl begins_line_comment begins_block_comment is_blank is_line_end is_letter is_digit is_opener is_closer takes_word
brace_here bs = named (123 ∷ bs) (whole Opener 1) role.Opener refl (omega arith) (omega arith) refl

-- and `]` and `}`
square_ends : (bs : List ℕ) → IsFirstToken Plain (93 ∷ bs) (call.plain_token role.Closer 1)
unfolding token_of plain_token whole role_meant kind_role begins_perl begins_line_comment begins_block_comment is_blank is_line_end is_letter is_digit is_opener is_closer takes_word
square_ends bs = named (93 ∷ bs) (whole Closer 1) role.Closer refl (omega arith) (omega arith) refl

brace_ends : (bs : List ℕ) → IsFirstToken Plain (125 ∷ bs) (call.plain_token role.Closer 1)
unfolding token_of plain_token whole role_meant kind_role begins_perl begins_line_comment begins_block_comment is_blank is_line_end is_letter is_digit is_opener is_closer takes_word
brace_ends bs = named (125 ∷ bs) (whole Closer 1) role.Closer refl (omega arith) (omega arith) refl

-- so at the front of a text
pub peek_in : (n : ℕ) (text : List ℕ) (t : CallToken) → 0 < n → get_or text 0 0 ≡ n → ((bs : List ℕ) → IsFirstToken Plain (n ∷ bs) t) → IsFirstToken Plain text t
peek_in n [] t some e h = absurd (omega (arith, some, e))
peek_in n (b ∷ bs) t some e h = subst (λ (m : ℕ). IsFirstToken Plain (m ∷ bs) t) (sym e) (h bs)

-- a comma or a bracket is one
pub mark_first : (text : List ℕ) → (get_or text 0 0 == 44 || (is_opener (get_or text 0 0) || is_closer (get_or text 0 0))) ≡ true
    → IsFirstToken Plain text (call.plain_token (call.quick_role (get_or text 0 0)) 1)
unfolding call.quick_role is_opener is_closer
mark_first text h = grind (arith, eqb-true, peek_in, comma_here, start_here, square_here, or_cases, brace_here, end_here, square_ends, brace_ends)

-- A turn of the search for the `(`, and of that for the end of a part.

-- a token of the rest of a text, as it is sliced
pub token_at : (mode : Mode) (text : List ℕ) (at : ℕ) (token : CallToken) → at ≤ length text
    → IsFirstToken mode (take (length text - at) (drop at text)) token → IsFirstToken mode (drop at text) token
token_at mode text at token inside f =
    subst (λ (x : List ℕ). IsFirstToken mode x token) (between_to_end text at (length text) (omega arith)) f

-- after a token lies the rest of the text
rest_after : (mode : Mode) (text : List ℕ) (at : ℕ) (token : CallToken) → drop token.len (drop at text) ≡ drop (at + token.len) text
rest_after mode text at token = drop-drop token.len at text

-- the search for the `(` at a token
pub opener_turn : (mode : Mode) (text : List ℕ) (at : ℕ) (token : CallToken) → IsFirstToken mode (drop at text) token
    → opener_from at (text_tokens mode (drop at text))
    ≡ opener_by (role_meant token.role) (at + token.len) (opener_from (at + token.len) (text_tokens token.next_mode (drop (at + token.len) text)))
unfolding opener_from
opener_turn mode text at token f = grind (arith, rest_after)

-- the search for the end of a part at a token with which a text begins
pub rest_turn : (closes : Bool) (mode : Mode) (text : List ℕ) (start at level end : ℕ) (token : CallToken) → IsFirstToken mode text token
    → part_from closes start at level end (text_tokens mode text)
    ≡ cond (ends_text closes (role_meant token.role) level) (record { from = start; to = end; end = Last at })
    (cond (ends_part (role_meant token.role) level) (record { from = start; to = end; end = AtComma (at + token.len) })
    (part_from closes start (at + token.len) (level_after (role_meant token.role) level)
    (cond (is_space (role_meant token.role)) end (at + token.len)) (text_tokens token.next_mode (drop token.len text))))
unfolding part_from
rest_turn closes mode text start at level end token f = grind arith

-- the search for the end of a part at a token of a text
pub part_turn : (closes : Bool) (mode : Mode) (text : List ℕ) (start at level end : ℕ) (token : CallToken) → IsFirstToken mode (drop at text) token
    → part_from closes start at level end (text_tokens mode (drop at text))
    ≡ cond (ends_text closes (role_meant token.role) level) (record { from = start; to = end; end = Last at })
    (cond (ends_part (role_meant token.role) level) (record { from = start; to = end; end = AtComma (at + token.len) })
    (part_from closes start (at + token.len) (level_after (role_meant token.role) level)
    (cond (is_space (role_meant token.role)) end (at + token.len)) (text_tokens token.next_mode (drop (at + token.len) text))))
part_turn closes mode text start at level end token f = grind (arith, rest_turn, rest_after)

-- a token lies in its text
pub token_inside : (mode : Mode) (text : List ℕ) (at : ℕ) (token : CallToken) → at ≤ length text → IsFirstToken mode (drop at text) token
    → at + token.len ≤ length text
token_inside mode text at token inside f = let n = length-drop at text in let i = f.inside in omega arith

-- where nothing is left of a text, it has no further token
pub none_left : (mode : Mode) (text : List ℕ) (at : ℕ) → length text ≤ at → text_tokens mode (drop at text) ≡ []
none_left mode text at over = ap (text_tokens mode) (drop_all at text over) ∙ text_nil mode

-- what is passed in front of a call
pub opener_passes : (r : CallRole) (here : ℕ) (rest : Option ℕ) → (r ≡ role.Space) ⊎ ((r ≡ role.LineComment) ⊎ (r ≡ role.BlockComment)) → opener_by (role_meant r) here rest ≡ rest
unfolding opener_by role_meant
opener_passes r here rest h = grind arith

-- a role that is none of those in front of a call, nor its `(`
pub opener_lacks : (r : CallRole) (here : ℕ) (rest : Option ℕ)
    → (r ≡ role.Space → ⊥) → (r ≡ role.LineComment → ⊥) → (r ≡ role.BlockComment → ⊥) → (r ≡ role.Start → ⊥) → opener_by (role_meant r) here rest ≡ None
unfolding opener_by role_meant
opener_lacks role.Space here rest a b c d = absurd (a refl)
opener_lacks role.LineComment here rest a b c d = absurd (b refl)
opener_lacks role.BlockComment here rest a b c d = absurd (c refl)
opener_lacks role.Start here rest a b c d = absurd (d refl)
opener_lacks _ here rest a b c d = refl

-- the level is at most one higher after a token, and so at most the place after it
pub level_low : (r : CallRole) (level at len now : ℕ) → 0 < len → level ≤ at → now ≡ level_after (role_meant r) level → now ≤ at + len
unfolding level_after role_meant
level_low role.Space level at len now some low e = omega (arith, e)
level_low _ level at len now some low e = omega (arith, e)

-- Parts of a call that are one word, or nothing, in front of a comma or the `)` of the call.

-- a word of so many bytes stands at a place of a text, or none where these are none
pub record IsWordAt (text : List ℕ) (at n : ℕ) : Type 0 where
  pub word : n ≡ prefix_len is_word (drop at text)
  pub inside : at + n ≤ length text

-- by the slice from there on
pub word_at : (text : List ℕ) (at n : ℕ) → at ≤ length text → n ≡ prefix_len is_word (take (length text - at) (drop at text))
    → n ≤ length (take (length text - at) (drop at text)) → IsWordAt text at n
word_at text at n in_text is few = grind (arith, between_to_end, length-drop)

word_here : (text : List ℕ) (at n : ℕ) → IsWordAt text at (suc n) → IsFirstToken Plain (drop at text) (call.plain_token role.Text (suc n))
word_here text at n w = grind (arith, length-drop, word_text)

-- the search for the end of a part passes it
part_word : (closes : Bool) (text : List ℕ) (at n : ℕ) → IsWordAt text at n
    → part_from closes at at 0 at (text_tokens Plain (drop at text)) ≡ part_from closes at (at + n) 0 (at + n) (text_tokens Plain (drop (at + n) text))
unfolding role_meant ends_text ends_call ends_part level_after is_space
part_word closes text at zero w = grind arith
part_word true text at (suc n) w = part_turn true Plain text at at 0 at (call.plain_token role.Text (suc n)) (word_here text at n w)
part_word false text at (suc n) w = part_turn false Plain text at at 0 at (call.plain_token role.Text (suc n)) (word_here text at n w)

-- a byte that stands at a place is the first from there on
first_at : (text : List ℕ) (at b : ℕ) → get_or text at 0 ≡ b → get_or (drop at text) 0 0 ≡ b
first_at text at b e = grind (arith, get_or-drop)

comma_at : (text : List ℕ) (at : ℕ) → get_or text at 0 ≡ 44 → IsFirstToken Plain (drop at text) (call.plain_token role.Comma 1)
comma_at text at e = peek_in 44 (drop at text) (call.plain_token role.Comma 1) (omega arith) (first_at text at 44 e) comma_here

end_at : (text : List ℕ) (at : ℕ) → get_or text at 0 ≡ 41 → IsFirstToken Plain (drop at text) (call.plain_token role.End 1)
end_at text at e = peek_in 41 (drop at text) (call.plain_token role.End 1) (omega arith) (first_at text at 41 e) end_here

-- a word in front of a comma is a part
pub comma_part : (closes : Bool) (text : List ℕ) (at n : ℕ) → IsWordAt text at n → get_or text (at + n) 0 ≡ 44
    → record { from = at; to = at + n; end = AtComma (at + n + 1) } ≡ part_from closes at at 0 at (body_tokens (drop at text))
unfolding role_meant ends_text ends_call ends_part
comma_part closes text at n w e =
    sym (ap (part_from closes at at 0 at) (body_text (drop at text)) ∙ part_word closes text at n w ∙ turn closes)
  where
    turn : (closes : Bool) → part_from closes at (at + n) 0 (at + n) (text_tokens Plain (drop (at + n) text)) ≡ record { from = at; to = at + n; end = AtComma (at + n + 1) }
    turn true = part_turn true Plain text at (at + n) 0 (at + n) (call.plain_token role.Comma 1) (comma_at text (at + n) e)
    turn false = part_turn false Plain text at (at + n) 0 (at + n) (call.plain_token role.Comma 1) (comma_at text (at + n) e)

-- a word in front of the `)` of its call is the last one
pub closed_part : (closes : Bool) (text : List ℕ) (at n : ℕ) → closes ≡ true → IsWordAt text at n → get_or text (at + n) 0 ≡ 41
    → record { from = at; to = at + n; end = Last (at + n) } ≡ part_from closes at at 0 at (body_tokens (drop at text))
unfolding role_meant ends_text ends_call
closed_part closes text at n is w e =
    sym (ap (λ (b : Bool). part_from b at at 0 at (body_tokens (drop at text))) is
    ∙ ap (part_from true at at 0 at) (body_text (drop at text)) ∙ part_word true text at n w
    ∙ part_turn true Plain text at (at + n) 0 (at + n) (call.plain_token role.End 1) (end_at text (at + n) e))

-- The white space with which a text begins, byte by byte, is that of its tokens.

-- a choice of two roles that aren't white space is none
neither : (c : Bool) (r q : Role) → is_space r ≡ false → is_space q ≡ false → is_space (cond c r q) ≡ false
neither true r q h k = h
neither false r q h k = k

closer_role : (bytes : List ℕ) → is_space (kind_role Closer bytes) ≡ false
unfolding kind_role is_space
closer_role bytes = neither (get_or bytes 0 0 == 41) End Down refl refl

-- a token that begins with a byte in no run, and no LF, isn't white space
mark_role : (b c : ℕ) (bytes : List ℕ) → is_line_end b ≡ false → is_space (kind_role (mark_kind b c) bytes) ≡ false
unfolding mark_kind kind_role is_space
mark_role b c bytes line = grind (arith, cond_both, closer_role, both_ways)

-- nor is one that begins with a byte that isn't
plain_role : (b c : ℕ) (bytes : List ℕ) → is_blank b ≡ false → is_line_end b ≡ false → is_space (kind_role (plain_kind b c) bytes) ≡ false
unfolding plain_kind kind_role is_space
plain_role b c bytes blank line = grind (arith, cond_both, both_ways, mark_role)

-- the first token of such a text
pub first_role : (b : ℕ) (bs : List ℕ) → is_blank b ≡ false → is_line_end b ≡ false → is_space (token_role (first_spelled Plain (b ∷ bs))) ≡ false
unfolding first_spelled token_role kind_of parts
first_role b bs blank line = grind (arith, token_parts, plain_role)

-- a text that begins with a byte that isn't white space
white_point : (at b : ℕ) (bs : List ℕ) → is_white b ≡ false → space_from at (text_tokens Plain (b ∷ bs)) ≡ at
unfolding is_white space_from
white_point at b bs dark = grind (arith, or_parts, text_step, first_role)

-- a text that begins with a blank, as one token
blanks_step : (at b : ℕ) (bs : List ℕ) → is_blank b ≡ true
    → space_from at (text_tokens Plain (b ∷ bs)) ≡ space_from (at + length (take (prefix_len is_blank (b ∷ bs)) (b ∷ bs))) (text_tokens Plain (drop (prefix_len is_blank (b ∷ bs)) (b ∷ bs)))
unfolding space_from text_tokens spelled whole token_role kind_role is_space
blanks_step at b bs blank = ap (λ (ts : List Token). space_from at (spelled ts (b ∷ bs))) (blank-step b bs blank)

-- a text that begins with blanks
skip_blanks : (bs : List ℕ) (at : ℕ) → space_from at (text_tokens Plain bs) ≡ space_from (at + prefix_len is_blank bs) (text_tokens Plain (drop (prefix_len is_blank bs) bs))
skip_blanks [] at = ap (λ (n : ℕ). space_from n (text_tokens Plain [])) (let e : at ≡ at + 0 = omega arith in e)
skip_blanks (b ∷ bs) at = elim (cases_Bool (is_blank b)) [
  | inl e ↦
      let T = b ∷ bs in
      let n = prefix_len is_blank T in
      blanks_step at b bs e ∙ ap (λ (k : ℕ). space_from (at + k) (text_tokens Plain (drop n T))) (length-prefix_len is_blank T)
  | inr e ↦
      let none : prefix_len is_blank (b ∷ bs) ≡ 0 = ap (λ (t : Bool). cond t (1 + prefix_len is_blank bs) 0) e in
      let same : at ≡ at + 0 = omega arith in
      ap (λ (n : ℕ). space_from n (text_tokens Plain (b ∷ bs))) same
      ∙ sym (ap (λ (n : ℕ). space_from (at + n) (text_tokens Plain (drop n (b ∷ bs)))) none)
]

-- a blank is one byte of white space
blank_step : (at b : ℕ) (bs : List ℕ) → is_blank b ≡ true → space_from at (text_tokens Plain (b ∷ bs)) ≡ space_from (at + 1) (text_tokens Plain bs)
blank_step at b bs e =
    let k = prefix_len is_blank bs in
    let len : prefix_len is_blank (b ∷ bs) ≡ suc k = ap (λ (t : Bool). cond t (1 + k) 0) e ∙ one-add k in
    grind (arith, skip_blanks)

-- so is an LF
end_step : (at b : ℕ) (bs : List ℕ) → is_line_end b ≡ true → space_from at (text_tokens Plain (b ∷ bs)) ≡ space_from (at + 1) (text_tokens Plain bs)
unfolding space_from text_tokens spelled whole token_role kind_role is_space
end_step at b bs e = ap (λ (ts : List Token). space_from at (spelled ts (b ∷ bs))) (line-step b bs e)

-- each byte of white space is one
white_step : (at b : ℕ) (bs : List ℕ) → is_white b ≡ true → space_from at (text_tokens Plain (b ∷ bs)) ≡ space_from (at + 1) (text_tokens Plain bs)
unfolding is_white
white_step at b bs white = ⊎_elim (blank_step at b bs) (end_step at b bs) (or_cases _ _ white)

-- white space at the front of a text, by its bytes
white_from : (bs : List ℕ) (at : ℕ) → space_from at (text_tokens Plain bs) ≡ at + prefix_len is_white bs
unfolding space_from
white_from [] at = let e : at ≡ at + 0 = omega arith in ap (space_from at) (text_nil Plain) ∙ e
white_from (b ∷ bs) at = grind (arith, cases_Bool, white_step, white_point, (white_from bs (at + 1)))

-- how many bytes of it there are
pub white_is : (text : List ℕ) (n : ℕ) → n ≡ prefix_len is_white text → n ≡ space_from 0 (body_tokens text)
white_is text n e = grind (arith, body_text, white_from)

-- A token of a call that begins with no white space isn't white space.

-- the first token of a text that begins with none is no white space
first_dark : (mode : Mode) (text : List ℕ) → 0 < length text → begins_white mode text ≡ false → is_space (token_role (first_spelled mode text)) ≡ false
unfolding begins_white is_white first_spelled token_role token_of kind_role is_space whole
first_dark mode [] some dark = absurd (omega (arith, some))
first_dark Plain (b ∷ bs) some dark = grind (arith, or_parts, first_role)
first_dark InStr (b ∷ bs) some dark = grind (arith, cond_both, string_token-kind)
first_dark InBlock (b ∷ bs) some dark = grind (arith, block_token-kind)

-- nor is it as a token of a call
pub dark_token : (mode : Mode) (text : List ℕ) (token : CallToken) → 0 < length text → IsFirstToken mode text token → begins_white mode text ≡ false
    → is_space (role_meant token.role) ≡ false
dark_token mode text token some f dark = grind (arith, text_step, first_dark)
