-- The default texts of formals are read back from a table's bytes.
use Rattle.rdlpp_define.proofs.Defaults.{clean_text, fills_text}
use Rattle.std.proofs.Common.{◌≡◌, ℕ, zero, suc, ◌<◌, ◌≤◌, true, not, ◌&&◌, List, [], ◌∷◌, ◌++◌, length, take, drop, eqb, Some, refl, ap, sym, ◌∙◌, subst, arith, length-drop, take-append-drop}
use Rattle.std.specs.List.{AllByRecursion}
use Rattle.std.proofs.lemmas.Bool.{cond-true, cond-false, and_parts, and_from, not-true}
use Rattle.std.proofs.lemmas.List.{drop-append-le, take-append-le}
use Rattle.rdlpp_scan.specs.declared.token.Kind.TheVariants.{Comma}
use Rattle.rdlpp_scan.specs.declared.token.Mode.{Mode}
use Rattle.rdlpp_scan.specs.declared.token.Mode.TheVariants.{Plain}
use Rattle.rdlpp_scan.specs.declared.token.Token.{Token}
use Rattle.rdlpp_scan.specs.Bytes.{is_blank, is_line_end, is_letter, is_digit, is_opener, is_closer, takes_word, begins_perl, begins_line_comment, begins_block_comment}
use Rattle.rdlpp_scan.specs.CleanTexts.{IsCleanToken}
use Rattle.rdlpp_scan.specs.LexFaults.{is_perl}
use Rattle.rdlpp_scan.specs.Tokens.{whole, plain_token, token_of, tokens_from}
use Rattle.rdlpp_scan.proofs.CleanTexts.{clean_tokens}
use Rattle.rdlpp_scan.proofs.RangeLaws.{clean_before_comma}
use Rattle.rdlpp_scan.proofs.TokenLens.{token_of-part, tokens_from-step}
use Rattle.rdlpp_scan.specs.LineTokens.{kept_of}
use Rattle.rdlpp_scan.specs.KeptText.{Sound, onto, cleared, ends_default, left_in, level_after}
use Rattle.rdlpp_scan.proofs.Measures.{by_first, kept_own, left_first}
use Rattle.rdlpp_define.specs.Plain.{fills, is_default}

-- a `,` at level 0
pub comma_token : (rest : List ℕ) → token_of Plain (44 ∷ rest) ≡ whole Comma 1
unfolding token_of plain_token begins_perl is_line_end is_blank begins_line_comment begins_block_comment is_letter is_digit takes_word is_opener is_closer
comma_token rest = refl

comma_read : (l : ℕ) (rest : List ℕ) → eqb l 0 ≡ true → left_in (Some l) Plain (44 ∷ rest) ≡ Sound [] (44 ∷ rest)
unfolding whole is_perl ends_default
comma_read l rest e =
    left_first (Some l) Plain (44 ∷ rest) (omega arith) ∙ (ap (λ (t : Token). by_first (Some l) t (44 ∷ rest)) (comma_token rest) ∙ cond-true _ _ _ (and_from (eqb l 0) true e refl))

-- a text that fills a level up is read up to a `,` after it
fills_read : (fuel l : ℕ) (xs rest : List ℕ) → length xs ≤ fuel → AllByRecursion IsCleanToken (tokens_from Plain 0 xs) → fills_text l xs ≡ true → left_in (Some l) Plain (xs ++ 44 ∷ rest) ≡ Sound xs (44 ∷ rest)
unfolding tokens_from fills onto
fills_read fuel l [] rest le all h = comma_read l rest h
fills_read zero l (b ∷ bs) rest le all h = absurd (omega arith)
fills_read (suc fuel) l (b ∷ bs) rest le all h =
    let T = b ∷ bs in
    let ys = 44 ∷ rest in
    let t = token_of Plain T in
    let m = level_after t.kind l in
    let some : 0 < length T = omega arith in
    let part = token_of-part Plain T some in
    let after = drop t.len T in
    let C : List Token → Type 0 = λ ts. AllByRecursion IsCleanToken ts in
    let step : tokens_from Plain 0 T ≡ t ∷ tokens_from t.next_mode 0 after = tokens_from-step Plain T some part.not_empty in
    let each : C (t ∷ tokens_from t.next_mode 0 after) = subst C step all in
    let next : t.next_mode ≡ Plain = each.0.next in
    let each_after : C (tokens_from Plain 0 after) = subst (λ (v : Mode). C (tokens_from v 0 after)) next each.1 in
    let fill = and_parts (not (eqb l 0 && ends_default t.kind b)) (fills m (tokens_from t.next_mode 0 after) after) (sym (ap (λ ts. fills l ts T) step) ∙ h) in
    let fill_after : fills_text m after ≡ true = subst (λ (v : Mode). fills m (tokens_from v 0 after) after ≡ true) next fill.1 in
    let read : left_in (Some m) Plain (after ++ ys) ≡ Sound after ys = fills_read fuel m after rest (omega (arith, length-drop t.len T, part.not_empty)) each_after fill_after in
    let same : token_of Plain (T ++ ys) ≡ t = clean_before_comma T rest some each.0 in
    let own : kept_of t.kind (take t.len (T ++ ys)) ≡ take t.len T = kept_own t.kind _ each.0.kept ∙ take-append-le t.len T ys part.inside in
    let following : drop t.len (T ++ ys) ≡ after ++ ys = drop-append-le t.len T ys part.inside in
    grind (arith, left_first, by_first, cond-false, not-true, take-append-drop)

-- a default text is read back up to the `,` after it
pub default_read_back : (text rest : List ℕ) → is_default text ≡ true → cleared (Some 0) (text ++ 44 ∷ rest) ≡ Sound text (44 ∷ rest)
unfolding is_default cleared
default_read_back text rest h = grind (arith, and_parts, fills_read, clean_tokens, clean_text)
