-- One part more was appended.
use Rattle.std.proofs.Common.{◌≡◌, ℕ, suc, List, map, ◌+◌, ◌<◌, length, take, drop, take-append-drop, [], ◌∷◌, ◌++◌, Bor, slice_index_or, ap, ◌∙◌, sym, subst, add-one, append-nil, drop-cons, take-suc}
use Rattle.std.specs.List.{concat}
use Rattle.std.specs.Io.KnownBytes.{Appends}
use Rattle.std.proofs.KnownBytes.{Appends-trans}
use Rattle.std.proofs.lemmas.List.{map-append}
use Rattle.std.proofs.lemmas.List.Folds.{concat-append}
use Rattle.std.proofs.lemmas.Result.{err_from_is_err_and}
use Rattle.rdlpp_reports.proofs.Written.{writes_by, writes_part, writes_then, writes_whole}
use Rattle.rdlpp_reports.proofs.writing.write_parts.Goals as goal

concat-take-suc : (parts : List (Bor (List ℕ))) (i : ℕ) (d : Bor (List ℕ)) → i < length parts
    → concat (map (λ part. part.now) (take (i + 1) parts)) ≡ concat (map (λ part. part.now) (take i parts)) ++ (slice_index_or parts i d).now
concat-take-suc parts i d h =
    let now : Bor (List ℕ) → List ℕ = λ part. part.now in
    let part = slice_index_or parts i d in
    ap (λ ps. concat (map now ps)) (ap (λ k. take k parts) (add-one i) ∙ take-suc parts i d h)
    ∙ ap concat (map-append now (take i parts) (part ∷ []))
    ∙ concat-append (map now (take i parts)) (part.now ∷ [])
    ∙ ap (λ bs. concat (map now (take i parts)) ++ bs) (append-nil part.now)

-- the parts are those so far, one, and the others
concat-split : (parts : List (Bor (List ℕ))) (i : ℕ) (d : Bor (List ℕ)) → i < length parts
    → concat (map (λ part. part.now) parts) ≡ concat (map (λ part. part.now) (take i parts)) ++ ((slice_index_or parts i d).now ++ concat (map (λ part. part.now) (drop (suc i) parts)))
concat-split parts i d h =
    let now : Bor (List ℕ) → List ℕ = λ part. part.now in
    let part = slice_index_or parts i d in
    let rest = drop (suc i) parts in
    ap (λ ps. concat (map now ps)) (sym (take-append-drop i parts) ∙ ap (λ ps. take i parts ++ ps) (drop-cons parts i d h))
    ∙ ap concat (map-append now (take i parts) (part ∷ rest))
    ∙ concat-append (map now (take i parts)) (part.now ∷ map now rest)

pub returns-in_err-write_whole : goal.returns-in_err-write_whole
returns-in_err-write_whole g c =
    let parts = c.args.parts.now in
    let i = c.loop-part.part-index in
    let p = err_from_is_err_and c.from_residual.result c.from_residual.ensures.1 in
    rw p.1
    (writes_by _ _ _ _ _ (sym (concat-split parts i _ c.loop-part-test.true))
    (writes_then _ _ _ _ _ _ c.loop-part.invariant (writes_part _ _ _ (concat (map (λ part. part.now) (drop (suc i) parts))) _ _ c.in_err-write_whole.ensures)))

pub loop-part-preserved : goal.loop-part-preserved
loop-part-preserved g c =
    subst (Appends _ _) (sym (concat-take-suc c.args.parts.now c.loop-part.part-index _ c.loop-part-test.true))
    (Appends-trans _ _ _ _ _ c.loop-part.invariant (writes_whole _ _ _ _ c.in_ok-write_whole.ensures))
