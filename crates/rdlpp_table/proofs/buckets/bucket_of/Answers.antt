use Rattle.std.proofs.Common.{◌/◌, ℕ, ap, sym, ◌∙◌}
use Rattle.rdlpp_table.specs.Index.{bucket_of, mix}
use Rattle.rdlpp_table.proofs.Orders.{mix_last, mix_next}
use Rattle.rdlpp_table.proofs.buckets.bucket_of.Goals as goal

pub loop-rest-preserved : goal.loop-rest-preserved
loop-rest-preserved c =
    mix_next c.loop-rest.number c.loop-rest.rest.now _ _ c.loop-rest-test.true c.front_number.ensures c.mix-number.ensures
    ∙ c.loop-rest.invariant

pub returns-clause-value : goal.returns-clause-value
unfolding bucket_of
returns-clause-value c =
    ap (λ (n : ℕ). n / 18014398509481984)
    (c.mix.ensures
    ∙ (ap (mix c.loop-rest.number) c.fold_bytes.ensures
    ∙ (sym (mix_last c.loop-rest.number c.loop-rest.rest.now c.loop-rest-test.false)
    ∙ c.loop-rest.invariant)))
