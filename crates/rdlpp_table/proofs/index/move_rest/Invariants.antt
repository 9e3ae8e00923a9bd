use Rattle.std.proofs.Common.{◌≡◌, ◌+◌, take, vec_capacity, vec_len}
use Rattle.rdlpp_table.proofs.index.move_rest.Given as goal

abbrev pub invariant-loop : goal.invariant-loop
invariant-loop l = record { kept : take l.len l.order.items ≡ l.fn.order.items; len : vec_len l.order ≡ l.len + l.counter; capacity : vec_capacity l.order ≡ vec_capacity l.fn.order }
