use Rattle.std.proofs.Common.{◌≡◌, ◌++◌, ◌∙◌, Bool, false, true, List, ℕ, Ok, length, sym, subst, ap, arith, None}
use Rattle.rdlpp_scan.specs.Continuations.{as_read}
use Rattle.rdlpp_scan.specs.OnePiece.{is_one_piece}
use Rattle.rdlpp_scan.specs.KeptText.{cleared, start_level, trimmed_left, trimmed_len, trims}
use Rattle.rdlpp_scan.proofs.Measures.{measured_part, part_len}
use Rattle.rdlpp_scan.proofs.kept_text.append_trimmed.Goals as goal

pub append_part-requires : goal.append_part-requires
unfolding start_level
append_part-requires c =
    let one : is_one_piece c.args.text.now ≡ true = sym c.is_one_piece.ensures ∙ c.if-is_one_piece.true in
    let P : Bool → Type 0 = λ d. trimmed_len (trims d) (cleared (start_level d) (as_read c.args.is_logical c.args.text.now)) ≡ Ok c.args.len in
    let measured : P false = subst P c.if-not-is_default.true c.requires.len in
    let size : length c.trimmed.result.now ≡ c.args.len = part_len c.args.is_logical c.args.text.now c.trimmed.result.now c.args.len one measured c.trimmed.ensures.value in
    omega (arith, size, c.requires.room)

pub returns-then-is_one_piece-clause-items : goal.returns-then-is_one_piece-clause-items
unfolding start_level
returns-then-is_one_piece-clause-items c =
    let one : is_one_piece c.args.text.now ≡ true = sym c.is_one_piece.ensures ∙ c.if-is_one_piece.true in
    let P : Bool → Type 0 = λ d. trimmed_len (trims d) (cleared (start_level d) (as_read c.args.is_logical c.args.text.now)) ≡ Ok c.args.len in
    let Q : Bool → Type 0 = λ d. c.append_part.new.to.items ≡ c.args.to.now.items ++ trimmed_left (trims d) (cleared (start_level d) (as_read c.args.is_logical c.args.text.now)) in
    let measured : P false = subst P c.if-not-is_default.true c.requires.len in
    let left = measured_part c.args.is_logical c.args.text.now c.args.len one measured in
    let part : c.trimmed.result.now ≡ trimmed_left (trims false) (cleared None (as_read c.args.is_logical c.args.text.now)) = c.trimmed.ensures.value ∙ sym left in
    subst Q (sym c.if-not-is_default.true) (c.append_part.ensures.items ∙ ap (λ (xs : List ℕ). c.args.to.now.items ++ xs) part)
