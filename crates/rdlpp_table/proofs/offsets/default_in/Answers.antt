use Rattle.std.proofs.Common.{◌∙◌, ◌≤◌, ◌+◌, ◌-◌, length, sym, rules}
use Rattle.rdlpp_table.proofs.FormalOffsets.{default_between, default_inside, no_default_text}
use Rattle.rdlpp_table.proofs.offsets.default_in.Goals as goal

pub slice_bounds-result-count : goal.slice_bounds-result-count
slice_bounds-result-count c = default_inside _ _ c.requires c.name_len-len.ensures.value (sym c.byte_at.ensures ∙ c.if-byte_at-eq61.true)

pub slice_bounds-result-start : goal.slice_bounds-result-start
slice_bounds-result-start c =
    let h : c.name_len-len.result + 1 ≤ length c.args.bytes.now - 1 = default_inside _ _ c.requires c.name_len-len.ensures.value (sym c.byte_at.ensures ∙ c.if-byte_at-eq61.true) in
    search rules

pub returns-then-byte_at-eq61 : goal.returns-then-byte_at-eq61
returns-then-byte_at-eq61 c = default_between _ _ c.requires c.name_len-len.ensures.value (sym c.byte_at.ensures ∙ c.if-byte_at-eq61.true)

pub returns-else-byte_at-eq61 : goal.returns-else-byte_at-eq61
returns-else-byte_at-eq61 c = no_default_text _ _ c.requires c.name_len-len.ensures.value (λ e. c.if-byte_at-eq61.false (c.byte_at.ensures ∙ e))
