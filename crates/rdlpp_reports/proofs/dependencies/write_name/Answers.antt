-- One byte more was written.
use Rattle.std.proofs.Common.{[], ◌∷◌, ap}
use Rattle.std.specs.List.{concat}
use Rattle.std.proofs.lemmas.List.{nil_from_length}
use Rattle.std.proofs.lemmas.Result.{err_from_is_err_and}
use Rattle.rdlpp_reports.proofs.Written.{name-ends, name-fails, name-grows, writes_by}
use Rattle.rdlpp_reports.proofs.dependencies.write_name.Goals as goal

pub returns-in_err-write_parts : goal.returns-in_err-write_parts
returns-in_err-write_parts g c =
    let p = err_from_is_err_and c.from_residual.result c.from_residual.ensures.1 in
    rw p.1
    (name-fails c.args.name.now c.loop-byte.rest.now c.in-Some.following.now c.args.end.now c.in-Some.byte.now _ _ _ _ _ c.in-Some.ensures.cases.0 c.loop-byte.invariant
    (writes_by _ _ _ _ _ (ap (λ q. concat (q ∷ (c.in-Some.byte.now ∷ []) ∷ [])) c.quote.ensures) c.in_err-write_parts.ensures))

pub loop-byte-preserved : goal.loop-byte-preserved
loop-byte-preserved g c =
    name-grows c.args.name.now c.loop-byte.rest.now c.in-Some.following.now c.in-Some.byte.now _ _ _ _ c.in-Some.ensures.cases.0 c.loop-byte.invariant
    (writes_by _ _ _ _ _ (ap (λ q. concat (q ∷ (c.in-Some.byte.now ∷ []) ∷ [])) c.quote.ensures) c.in_ok-write_parts.ensures)

pub returns : goal.returns
returns g c =
    name-ends c.args.name.now c.loop-byte.rest.now c.args.end.now _ _ _ _ (nil_from_length c.loop-byte.rest.now c.in_default.ensures.cases) c.loop-byte.invariant c.write_whole.ensures
