use Rattle.std.proofs.Common.{ap, arith, get_or, ℕ, ◌<◌, ◌≡◌, get_or-take}
use Rattle.rdlpp_table.proofs.FirstPoints.{all_points, no_point, point_next}
use Rattle.rdlpp_table.proofs.point_cache.candidate_at.Goals as goal

pub loop-kept-init : goal.loop-kept-init
loop-kept-init c = (omega arith, λ formals text e. all_points formals text _ e)

pub returns-then-from-kept-clause-kept : goal.returns-then-from-kept-clause-kept
returns-then-from-kept-clause-kept c formals text e =
    let i : ℕ = c.loop-kept.kept-index in
    let h : i < 9 = omega arith in
    (point_next formals text c.args.points.now.all no_point _ i _ (omega arith) (omega (arith, h)) (c.loop-kept.invariant.1 formals text e) (get_or-take 9 c.args.points.now.all i no_point h)).0

pub loop-kept-preserved : goal.loop-kept-preserved
loop-kept-preserved c =
    let i : ℕ = c.loop-kept.kept-index in
    let h : i < 9 = omega arith in
    (omega (arith, c.if-from-kept.false), λ formals text e. (point_next formals text c.args.points.now.all no_point _ i _ (omega arith) (omega (arith, h)) (c.loop-kept.invariant.1 formals text e) (get_or-take 9 c.args.points.now.all i no_point h)).1)

pub returns-clause-kept : goal.returns-clause-kept
returns-clause-kept c formals text e =
    let i : ℕ = c.loop-kept.kept-index in
    let h : 9 ≡ i = omega arith in
    (point_next formals text c.args.points.now.all no_point _ i _ (omega arith) (omega (arith, h)) (c.loop-kept.invariant.1 formals text e) (ap (λ (n : ℕ). get_or c.args.points.now.all n no_point) h)).0
