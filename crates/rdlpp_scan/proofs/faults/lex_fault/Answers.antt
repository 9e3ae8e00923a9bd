use Rattle.std.proofs.Common.{◌≡◌, ◌-◌, ℕ, List, Bool, true, false, length, drop, take, ◌+◌, sym, ap, ◌∙◌, subst, arith, drop-drop, length-drop, length-take}
use Rattle.std.proofs.lemmas.Slice.{between_to_end}
use Rattle.rdlpp_scan.specs.declared.token.Mode.{Mode}
use Rattle.rdlpp_scan.specs.declared.token.Token.{Token}
use Rattle.rdlpp_scan.specs.Tokens.{token_of, tokens_from}
use Rattle.rdlpp_scan.specs.declared.token.Mode.TheVariants.{Plain}
use Rattle.rdlpp_scan.specs.LexFaults.{plain_argument_len, lex_fault_from, fault_of_tokens, is_perl}
use Rattle.rdlpp_scan.proofs.StopKinds.{plain_argument_passed}
use Rattle.rdlpp_scan.proofs.TokenLens.{fault-perl, fault-next, fault-end}
use Rattle.rdlpp_scan.proofs.faults.lex_fault.Goals as goal

token_here : (t : Token) (m : Mode) (bs : List ℕ) (at : ℕ) → t ≡ token_of m (take (length bs - at) (drop at bs)) → t ≡ token_of m (drop at bs)
token_here t m bs at h = subst (λ xs. t ≡ token_of m xs) (between_to_end bs at (length bs) (omega arith)) h

perl_here : (b : Bool) (t : Token) (m : Mode) (bs : List ℕ) (at : ℕ) → b ≡ is_perl t.kind → t ≡ token_of m (drop at bs) → is_perl (token_of m (drop at bs)).kind ≡ b
perl_here b t m bs at h is = sym (h ∙ ap (λ (u : Token). is_perl u.kind) is)

pub loop-at-init : goal.loop-at-init
unfolding lex_fault_from plain_argument_len
loop-at-init c =
    let bs = c.args.bytes.now in (
      c.plain_argument_bytes-at.ensures.inside,
      plain_argument_passed Plain bs ∙ ap (λ (n : ℕ). fault_of_tokens Plain (tokens_from Plain 0 (drop n bs))) (sym c.plain_argument_bytes-at.ensures.value),
    )

pub returns-then-is_perl : goal.returns-then-is_perl
returns-then-is_perl c =
    let bs = c.args.bytes.now in
    let at = c.loop-at.at in
    let m = c.loop-at.mode in
    let t = c.first_token-token.result in
    let is = token_here t m bs at c.first_token-token.ensures.value in
    sym (c.loop-at.invariant.1 ∙ fault-perl m (drop at bs) (omega (arith, length-drop at bs)) (perl_here true t m bs at c.if-is_perl.ensures is))

pub loop-at-preserved : goal.loop-at-preserved
loop-at-preserved c =
    let bs = c.args.bytes.now in
    let at = c.loop-at.at in
    let m = c.loop-at.mode in
    let t = c.first_token-token.result in
    let is = token_here t m bs at c.first_token-token.ensures.value in
    let here = at + t.len in
    let plain_argument = c.plain_argument_len-at.result in
    let size : length (take (length bs - here) (drop here bs)) ≡ length bs - here = simp (length-take, length-drop) (omega arith) in
    let text : take (length bs - here) (drop here bs) ≡ drop here bs = between_to_end bs here (length bs) (omega arith) in
    let next = fault-next m (drop at bs) (omega (arith, length-drop at bs)) (perl_here false t m bs at c.if-is_perl.ensures is) in
    let same = ap (λ (u : Token). fault_of_tokens u.next_mode (tokens_from u.next_mode 0 (drop u.len (drop at bs)))) (sym is) in
    let dropped = ap (λ xs. fault_of_tokens t.next_mode (tokens_from t.next_mode 0 xs)) (drop-drop t.len at bs) in
    let passed = plain_argument_passed t.next_mode (drop here bs) in
    let skipped = ap (λ (n : ℕ). fault_of_tokens t.next_mode (tokens_from t.next_mode 0 (drop n (drop here bs))))
    (ap (plain_argument_len t.next_mode) (sym text) ∙ sym c.plain_argument_len-at.ensures.value) in
    let following = ap (λ xs. fault_of_tokens t.next_mode (tokens_from t.next_mode 0 xs)) (drop-drop plain_argument here bs) in
    (omega (arith, size, c.plain_argument_len-at.ensures.inside), c.loop-at.invariant.1 ∙ next ∙ same ∙ dropped ∙ passed ∙ skipped ∙ following)

pub returns : goal.returns
returns c =
    c.open_fault.ensures ∙ sym (fault-end _ c.args.bytes.now c.loop-at.at (omega arith)) ∙ sym c.loop-at.invariant.1
