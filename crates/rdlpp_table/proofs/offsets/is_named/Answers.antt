use Rattle.std.proofs.Common.{◌≡◌, ◌∙◌, List, ℕ, length, true, sym}
use Rattle.std.proofs.lemmas.Bool.{false≢true}
use Rattle.rdlpp_table.specs.Store.{formal_read}
use Rattle.rdlpp_table.proofs.FormalOffsets.{compared, name_ended, name_starts, named_by_size}
use Rattle.rdlpp_table.proofs.offsets.is_named.Goals as goal
use Rattle.rdlpp_table.proofs.offsets.is_named.Goals.{then-ends_name, else-ends_name}

pub returns-then-starts_with : goal.returns-then-starts_with
returns-then-starts_with c = elim c.if-ends_name.branch [
  | then-ends_name w ↦ named_by_size c.args.bytes.now c.args.name.now w.starts_with.result (length c.formal_name.result.now) w.starts_with.ensures.value (sym w.value-is ∙ c.if-starts_with.true) c.formal_name.ensures.len
  | else-ends_name w ↦ absurd (false≢true (sym w.if-ends_name.false ∙ (sym w.value-is ∙ c.if-starts_with.true)))
]

pub returns-else-starts_with : goal.returns-else-starts_with
returns-else-starts_with c =
    let found : List ℕ = (formal_read c.args.bytes.now).formal.name in
    compared c.if-ends_name.value found c.args.name.now (λ e. absurd (false≢true (sym c.if-starts_with.false ∙ e)))
    (λ (e : found ≡ c.args.name.now). let r : c.if-ends_name.value ≡ true = elim c.if-ends_name.branch [
      | then-ends_name w ↦ w.value-is ∙ name_starts c.args.bytes.now c.args.name.now w.starts_with.result w.starts_with.ensures.value e
      | else-ends_name w ↦ w.value-is ∙ (c.ends_name.ensures ∙ name_ended c.args.bytes.now c.args.name.now e)
    ] in r)
