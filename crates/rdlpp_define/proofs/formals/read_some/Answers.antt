use Rattle.std.proofs.Common.{ℕ, List, get_or, eqb, ap, ◌∙◌, arith, refl, ne_eqb}
use Rattle.std.proofs.lemmas.List.{length-set}
use Rattle.rdlpp_define.proofs.FormalLists.{count_more, few_slots, names_more, few_names, read_bad, read_closer, read_comma, read_fault, read_other, starts}
use Rattle.rdlpp_define.proofs.formals.read_some.Goals as goal

pub loop-kind-init : goal.loop-kind-init
loop-kind-init c = record { reading = starts _ _ refl; room = (refl, omega arith); shorter = omega arith }

pub returns-in-Some : goal.returns-in-Some
returns-in-Some c = record { read = read_fault _ _ _ _ _ _ _ _ (record { read = c.loop-kind.invariant.reading; part = c.first_part-part.ensures.part }) refl c.in-Some.ensures }

pub returns-in_default-default_in : goal.returns-in_default-default_in
returns-in_default-default_in c = record { read = read_bad _ _ _ _ _ _ _ (record { read = c.loop-kind.invariant.reading; part = c.first_part-part.ensures.part }) refl c.in_default.ensures c.in_default-default_in.ensures.is }

pub bounds-names-count : goal.bounds-names-count
bounds-names-count c =
    few_slots _ _ _ 255 c.first_part-part.array_long c.loop-kind.invariant.room.1 (few_names _ _ _ _ _ _ _ (record { read = c.loop-kind.invariant.reading; part = c.first_part-part.ensures.part }) refl c.in_default.ensures)

pub returns-in_default-split_first : goal.returns-in_default-split_first
returns-in_default-split_first c = record {
  read = read_other _ _ _ _ _ _ _ _ _ _ (record { found = record { read = c.loop-kind.invariant.reading; part = c.first_part-part.ensures.part }; slice_is = refl; sound = c.in_default.ensures; default = c.in-Some-default_in.ensures.is })
      (ap (λ (x : List ℕ). eqb (get_or x 0 0) 44) c.in_default-split_first.ensures) (ap (λ (x : List ℕ). eqb (get_or x 0 0) 41) c.in_default-split_first.ensures);
}

pub returns-then-b-eq41 : goal.returns-then-b-eq41
returns-then-b-eq41 c =
    let few = few_slots _ _ _ 255 c.first_part-part.array_long c.loop-kind.invariant.room.1 (few_names _ _ _ _ _ _ _ (record { read = c.loop-kind.invariant.reading; part = c.first_part-part.ensures.part }) refl c.in_default.ensures) in record {
      read = read_closer _ _ _ _ _ _ _ _ _ _ _ _ _ _ _ (record { found = record { read = c.loop-kind.invariant.reading; part = c.first_part-part.ensures.part }; slice_is = refl; sound = c.in_default.ensures; default = c.in-Some-default_in.ensures.is })
          (names_more _ _ _ c.first_part-part.result.name (omega (arith, few, c.first_part-part.array_long))) refl (count_more _ _ _ c.first_part-part.result.name (omega (arith, few, c.first_part-part.array_long))) c.in-Some-split_first.ensures.0 c.if-b-eq41.true;
    }

pub returns-then-b-ne44 : goal.returns-then-b-ne44
returns-then-b-ne44 c = record {
  read = read_other _ _ _ _ _ _ _ _ _ _ (record { found = record { read = c.loop-kind.invariant.reading; part = c.first_part-part.ensures.part }; slice_is = refl; sound = c.in_default.ensures; default = c.in-Some-default_in.ensures.is })
      (ap (λ (x : List ℕ). eqb (get_or x 0 0) 44) c.in-Some-split_first.ensures.0 ∙ ne_eqb _ _ c.if-b-ne44.true) (ap (λ (x : List ℕ). eqb (get_or x 0 0) 41) c.in-Some-split_first.ensures.0 ∙ ne_eqb _ _ c.if-b-eq41.false);
}

pub loop-kind-preserved : goal.loop-kind-preserved
loop-kind-preserved c =
    let few = few_slots _ _ _ 255 c.first_part-part.array_long c.loop-kind.invariant.room.1 (few_names _ _ _ _ _ _ _ (record { read = c.loop-kind.invariant.reading; part = c.first_part-part.ensures.part }) refl c.in_default.ensures) in record {
      reading = read_comma _ _ _ _ _ _ _ _ _ _ _ _ _ _ (record { found = record { read = c.loop-kind.invariant.reading; part = c.first_part-part.ensures.part }; slice_is = refl; sound = c.in_default.ensures; default = c.in-Some-default_in.ensures.is })
          (names_more _ _ _ c.first_part-part.result.name (omega (arith, few, c.first_part-part.array_long))) refl c.in-Some-split_first.ensures.0 c.if-b-ne44.false;
      room = (length-set _ _ _ ∙ c.first_part-part.array_long, omega (arith, few));
      shorter = omega (arith, c.loop-kind.invariant.shorter, c.first_part-part.ensures.inside, c.in-Some-default_in.ensures.inside, c.in-Some-split_first.ensures.1);
    }
