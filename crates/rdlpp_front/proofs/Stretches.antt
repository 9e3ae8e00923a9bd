-- Steps through skipped text.
use Rattle.std.proofs.Common.{◌≡◌, ℕ, ◌-◌, ◌<◌, Bool, false, List, length, take, drop, sym, ap, subst, ◌∙◌, arith, ◌+◌}
use Rattle.std.proofs.lemmas.List.{take_rest}
use Rattle.rdlpp_scan.specs.SourceTokens.{line_ends}
use Rattle.rdlpp_scan.specs.Tokens.{plain_len, token_of}
use Rattle.rdlpp_scan.specs.declared.token.Mode.{Mode}
use Rattle.rdlpp_scan.specs.declared.token.Mode.TheVariants.{Plain}
use Rattle.rdlpp_scan.specs.declared.token.Token.{Token}
use Rattle.rdlpp_scan.proofs.SourceLaws.{line_ends-part}
use Rattle.rdlpp_front.specs.SkippedText.{IsPassed, IsPassedOnce, OneToken, Onward, stops_at, stops_skipping}

-- whether a stretch stops, by the first token
pub stops_by : (mode : Mode) (bytes : List ℕ) (token : Token) (stops : Bool) → token ≡ token_of mode bytes → stops ≡ stops_skipping token (take token.len bytes) → stops ≡ stops_at mode bytes
unfolding stops_at
stops_by mode bytes token stops is tells = tells ∙ ap (λ (t : Token). stops_skipping t (take t.len bytes)) is

-- one token
pub passes_token : (mode : Mode) (bytes : List ℕ) (token : Token) (stops : Bool) → (mode ≡ Plain → plain_len bytes ≡ 0) → token ≡ token_of mode bytes → stops ≡ stops_skipping token (take token.len bytes) → stops ≡ false
    → IsPassedOnce mode bytes token.len token.next_mode
passes_token mode bytes token stops none is tells goes =
    OneToken none (sym (stops_by mode bytes token stops is tells) ∙ goes) (ap (λ (t : Token). t.len) is) (ap (λ (t : Token). t.next_mode) is)

-- one step more
pub passes_onward : (mode mid next : Mode) (held : List ℕ) (from len : ℕ) → IsPassed mode held from mid → from < length held → IsPassedOnce mid (take (length held - from) (drop from held)) len next → IsPassed mode held (from + len) next
passes_onward mode mid next held from len before more once =
    Onward from len mid next before more (subst (λ (x : List ℕ). IsPassedOnce mid x len next) (take_rest held from) once)

-- the line ends of what was passed, and of one step more
pub lines_onward : (held : List ℕ) (len step lines more : ℕ) → lines ≡ line_ends (take len held) → more ≡ line_ends (take step (take (length held - len) (drop len held))) → lines + more ≡ line_ends (take (len + step) held)
lines_onward held len step lines more e f =
    let same : len + step - len ≡ step = omega arith in
    let rest : take (length held - len) (drop len held) ≡ drop len held = take_rest held len in
    let following : more ≡ line_ends (take (len + step - len) (drop len held)) = f ∙ (ap (λ (l : List ℕ). line_ends (take step l)) rest ∙ ap (λ (n : ℕ). line_ends (take n (drop len held))) (sym same)) in
    ap (λ (n : ℕ). n + more) e ∙ (ap (λ (n : ℕ). line_ends (take len held) + n) following ∙ line_ends-part held len step)
