use Rattle.std.proofs.Common.{◌≡◌, Bool, Ok, Err, sym, subst, IfOk, MatchResult}
use Rattle.rdlpp_scan.specs.Continuations.{as_read}
use Rattle.rdlpp_scan.specs.KeptText.{cleared, start_level, text_after, trimmed_len, trims}
use Rattle.rdlpp_scan.proofs.kept_text.trimmed_len.Goals as goal

pub returns-then-is_one_piece-clause-len : goal.returns-then-is_one_piece-clause-len
unfolding start_level
returns-then-is_one_piece-clause-len c =
    let P : Bool → Type 0 = λ d. MatchResult c.piece_len.result
    (λ measured. trimmed_len (trims d) (cleared (start_level d) (as_read c.args.is_logical c.args.text.now)) ≡ Ok measured.len)
    (λ fault. trimmed_len (trims d) (cleared (start_level d) (as_read c.args.is_logical c.args.text.now)) ≡ Err fault) in
    subst P (sym c.if-not-is_default.true) c.piece_len.ensures.len

pub returns-then-is_one_piece-clause-following : goal.returns-then-is_one_piece-clause-following
unfolding start_level
returns-then-is_one_piece-clause-following c =
    let P : Bool → Type 0 = λ d. IfOk c.piece_len.result (λ measured. text_after (cleared (start_level d) (as_read c.args.is_logical c.args.text.now)) ≡ as_read c.args.is_logical measured.following.now) in
    subst P (sym c.if-not-is_default.true) c.piece_len.ensures.following
