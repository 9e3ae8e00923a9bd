-- The token table: the first token of a text in each mode, and the tokens of a text.
-- A definition that names no source is this project's own.
use Rattle.std.specs.Prelude.{ℕ, zero, suc, ◌+◌, ◌-◌, Bool, true, false, not, ◌&&◌, ◌||◌, ◌==◌, nat_lt, List, [], ◌∷◌, length, drop, slice_index, if◌then◌else◌}
use Rattle.std.specs.List.{prefix_len}
use Rattle.rdlpp_scan.specs.declared.token.Kind.{Kind}
use Rattle.rdlpp_scan.specs.declared.token.Kind.TheVariants.{Name, Word, Back, Blank, LineEnd, Str, LineComment, BlockComment, Opener, Closer, Comma, Other, Perl, BareBackquote}
use Rattle.rdlpp_scan.specs.declared.token.Mode.{Mode}
use Rattle.rdlpp_scan.specs.declared.token.Mode.TheVariants.{Plain, InStr, InBlock}
use Rattle.rdlpp_scan.specs.declared.token.Token.{Token}
use Rattle.rdlpp_scan.specs.Bytes.{is_blank, is_line_end, is_letter, is_digit, is_word, is_opener, is_closer, takes_word, begins_perl, begins_line_comment, begins_block_comment, ends_block_comment}

-- the first place whose suffix passes a test, or the length
unfoldable pub first_place : (List ℕ → Bool) → List ℕ → ℕ
first_place test [] = 0
first_place test (b ∷ bs) = if test (b ∷ bs) then 0 else suc (first_place test bs)

-- where a string stops, before its closing quote or a `<%` that no backslash takes along, or the length;
-- the flag says that a backslash took the first byte along (IEEE 1364-2001, strings; the `<%` is this project's profile)
unfoldable pub string_stop : Bool → List ℕ → ℕ
string_stop taken [] = 0
string_stop true (b ∷ bs) = suc (string_stop false bs)
string_stop false (b ∷ bs) =
    if b == 34 || begins_perl (b ∷ bs) then 0 else suc (string_stop (b == 92) bs)

-- a token that is whole
unfoldable pub whole : Kind → ℕ → Token
whole kind len = record { kind = kind; len = len; next_mode = Plain }

-- a string whose part of `bytes` begins at place `from`
unfoldable pub string_token : ℕ → List ℕ → Token
string_token from bytes =
    let stop = from + string_stop false (drop from bytes) in
    if slice_index bytes stop == 34
    then whole Str (suc stop)
    else record { kind = Str; len = stop; next_mode = InStr }

-- a block comment whose text in `bytes` begins at place `from`
unfoldable pub block_token : ℕ → List ℕ → Token
block_token from bytes =
    let stop = from + first_place ends_block_comment (drop from bytes) in
    if nat_lt stop (length bytes)
    then whole BlockComment (stop + 2)
    else record { kind = BlockComment; len = stop; next_mode = InBlock }

-- the first token of a text that isn't empty, in plain text: the rows of the token table in their order (this project's profile)
unfoldable pub plain_token : List ℕ → Token
plain_token bytes =
    let b = slice_index bytes 0 in
    let c = slice_index bytes 1 in
    if begins_perl bytes then whole Perl 2
    else (if is_line_end b then whole LineEnd 1
    else (if is_blank b then whole Blank (prefix_len is_blank bytes)
    else (if begins_line_comment bytes then whole LineComment (prefix_len (λ x. not (is_line_end x)) bytes)
    else (if begins_block_comment bytes then block_token 2 bytes
    else (if b == 34 then string_token 1 bytes
    else (if is_letter b then whole Name (prefix_len is_word bytes)
    else (if is_digit b then whole Word (prefix_len is_word bytes)
    else (if takes_word b && is_word c then whole Word (suc (prefix_len is_word (drop 1 bytes)))
    else (if b == 96 && is_letter c then whole Back (suc (prefix_len is_word (drop 1 bytes)))
    else (if b == 96 then whole BareBackquote 1
    else (if is_opener b then whole Opener 1
    else (if is_closer b then whole Closer 1
    else (if b == 44 then whole Comma 1
    else whole Other 1)))))))))))))

-- the first token of a text that isn't empty, in any mode (this project's profile)
unfoldable pub token_of : Mode → List ℕ → Token
token_of Plain bytes = plain_token bytes
token_of InStr bytes = if begins_perl bytes then whole Perl 2 else string_token 0 bytes
token_of InBlock bytes = block_token 0 bytes

-- the tokens of a text from a mode on, after so many bytes are passed over
unfoldable pub tokens_from : Mode → ℕ → List ℕ → List Token
tokens_from mode skip [] = []
tokens_from mode zero (b ∷ bs) =
    let t = token_of mode (b ∷ bs) in t ∷ tokens_from t.next_mode (t.len - 1) bs
tokens_from mode (suc skip) (b ∷ bs) = tokens_from mode skip bs

-- a place where ordinary text stops: a backquote, a quote, the beginning of a comment, or `<%`
unfoldable pub stops_plain_text : List ℕ → Bool
stops_plain_text bytes =
    slice_index bytes 0 == 96 || slice_index bytes 0 == 34
    || begins_line_comment bytes || begins_block_comment bytes || begins_perl bytes

-- how long the ordinary text is with which a text begins
unfoldable pub plain_len : List ℕ → ℕ
plain_len bytes = first_place stops_plain_text bytes
