use Rattle.std.proofs.Common.{refl, ◌≡◌, ◌-◌, ◌++◌, ◌∷◌, ◌∙◌, [], List, ap, drop, length, subst, sym, arith, ℕ}
use Rattle.rdlpp_table.specs.FormalOffsets.{table_offsets}
use Rattle.rdlpp_table.specs.Index.{IsDivided, bucket_of, names_of}
use Rattle.rdlpp_table.specs.IndexView.{IndexRoom, IndexView}
use Rattle.rdlpp_define.specs.Macros.{Macro}
use Rattle.rdlpp_define.specs.Table.{table_size, without}
use Rattle.rdlpp_table.specs.Store.{IsStored, macros_in}
use Rattle.rdlpp_table.proofs.News.{new_size}
use Rattle.rdlpp_table.proofs.Indexed.{entered_with, few_left, few_starts, gap_in_bucket}
use Rattle.rdlpp_table.proofs.Sizes.{few_offsets, live_count}
use Rattle.rdlpp_table.proofs.RoundTrip.{read_back, stored_again, stored_count}
use Rattle.rdlpp_table.proofs.Orders.{count_names}
use Rattle.rdlpp_table.proofs.storing.replace.Goals as goal

pub enter-requires-clause-gap : goal.enter-requires-clause-gap
enter-requires-clause-gap c =
    let P : List Macro → Type 0 = λ l. IsDivided (names_of l) c.remove_named-gap.new.index.places c.remove_named-gap.new.index.bucket_starts in
    gap_in_bucket _ _ _ _ _ _ (subst P (sym (read_back _ _ _ c.remove_named-gap.ensures.stored)) c.remove_named-gap.ensures.indexed.divided) c.remove_named-gap.ensures.gap (c.requires.bucket ∙ ap bucket_of (sym c.name.ensures.name)) c.requires.small_bucket

pub enter-requires-clause-room : goal.enter-requires-clause-room
enter-requires-clause-room c =
    omega (arith, c.remove_named-gap.ensures.indexed.index.long, count_names (without c.name.result.now (macros_in c.args.bytes.now.items (drop c.args.front.now.entries c.args.entries.now.items))), c.requires.index_room, ap (λ (n : List ℕ). length (without n (macros_in c.args.bytes.now.items (drop c.args.front.now.entries c.args.entries.now.items)))) c.name.ensures.name, ap (λ (r : IndexRoom). r.places) c.remove_named-gap.ensures.room)

pub enter-requires-clause-place : goal.enter-requires-clause-place
enter-requires-clause-place c =
    let n : c.len.result - c.remove_named-gap.new.front.entries ≡ length (drop c.remove_named-gap.new.front.entries c.remove_named-gap.new.entries.items) = omega (arith, c.len.ensures, live_count c.remove_named-gap.new.front.entries c.remove_named-gap.new.entries) in
    omega (arith, n, stored_count _ _ _ c.remove_named-gap.ensures.stored, c.requires.entry_room, ap (λ (n : List ℕ). length (without n (macros_in c.args.bytes.now.items (drop c.args.front.now.entries c.args.entries.now.items)))) c.name.ensures.name, c.requires.places)

pub enter-requires-clause-few : goal.enter-requires-clause-few
enter-requires-clause-few c =
    few_starts _ _ _ c.remove_named-gap.ensures.indexed.divided
    (omega (arith, c.remove_named-gap.ensures.indexed.index.long, count_names (without c.name.result.now (macros_in c.args.bytes.now.items (drop c.args.front.now.entries c.args.entries.now.items))), stored_count _ _ _ c.remove_named-gap.ensures.stored, few_left _ _ (drop c.args.front.now.entries c.args.entries.now.items) _ _ c.remove_named-gap.ensures.stored c.requires.few))

pub make_room-requires-clause-stored : goal.make_room-requires-clause-stored
make_room-requires-clause-stored c =
    stored_again _ _ _ c.remove_named-gap.ensures.stored

pub make_room-requires-clause-room : goal.make_room-requires-clause-room
make_room-requires-clause-room c =
    omega (arith, ap table_size (read_back _ _ _ c.remove_named-gap.ensures.stored), c.requires.room, ap (λ (n : List ℕ). table_size (without n (macros_in c.args.bytes.now.items (drop c.args.front.now.entries c.args.entries.now.items)))) c.name.ensures.name, ap (length {A = ℕ}) c.name-2.ensures.name, new_size c.args.new.now, c.remove_named-gap.ensures.capacity.0)

pub make_room-requires-clause-entry_room : goal.make_room-requires-clause-entry_room
make_room-requires-clause-entry_room c =
    let count : length (drop c.remove_named-gap.new.front.entries c.remove_named-gap.new.entries.items) ≡ length (without c.name.result.now (macros_in c.args.bytes.now.items (drop c.args.front.now.entries c.args.entries.now.items))) = stored_count _ _ _ c.remove_named-gap.ensures.stored in
    omega (arith, count, c.requires.entry_room, ap (λ (n : List ℕ). length (without n (macros_in c.args.bytes.now.items (drop c.args.front.now.entries c.args.entries.now.items)))) c.name.ensures.name, c.remove_named-gap.ensures.capacity.1)

pub put-requires-clause-stored : goal.put-requires-clause-stored
put-requires-clause-stored c =
    stored_again _ _ _ c.make_room.ensures.stored

pub put-requires-clause-marked : goal.put-requires-clause-marked
put-requires-clause-marked c =
    let same : macros_in c.make_room.new.bytes.items (drop c.make_room.new.front.entries c.make_room.new.entries.items) ≡ (without c.name.result.now (macros_in c.args.bytes.now.items (drop c.args.front.now.entries c.args.entries.now.items))) = read_back _ _ _ c.make_room.ensures.stored ∙ read_back _ _ _ c.remove_named-gap.ensures.stored in
    c.enter.ensures.formal_offsets ∙ (c.remove_named-gap.ensures.marked ∙ ap table_offsets (sym same))

pub put-requires-clause-offset_room : goal.put-requires-clause-offset_room
put-requires-clause-offset_room c =
    omega (arith, few_offsets (without c.name.result.now (macros_in c.args.bytes.now.items (drop c.args.front.now.entries c.args.entries.now.items))), ap (length {A = ℕ}) (c.enter.ensures.formal_offsets ∙ c.remove_named-gap.ensures.marked), c.requires.offset_room, ap (λ (n : List ℕ). table_size (without n (macros_in c.args.bytes.now.items (drop c.args.front.now.entries c.args.entries.now.items)))) c.name.ensures.name, ap (λ (r : IndexRoom). r.formal_offsets) (c.enter.ensures.room ∙ c.remove_named-gap.ensures.room))

pub returns-clause-stored : goal.returns-clause-stored
returns-clause-stored c =
    let m : Macro = c.args.new.now in
    let same : macros_in c.make_room.new.bytes.items (drop c.make_room.new.front.entries c.make_room.new.entries.items) ≡ (without c.args.new.now.name (macros_in c.args.bytes.now.items (drop c.args.front.now.entries c.args.entries.now.items))) = read_back _ _ _ c.make_room.ensures.stored ∙ read_back _ _ _ c.remove_named-gap.ensures.stored ∙ ap (λ (n : List ℕ). without n (macros_in c.args.bytes.now.items (drop c.args.front.now.entries c.args.entries.now.items))) c.name.ensures.name in
    let P : List Macro → Type 0 = λ ms. IsStored c.make_room.new.front.bytes c.make_room.new.front.formal_offsets c.put.new.bytes.items (drop c.make_room.new.front.entries c.put.new.entries.items) (ms ++ m ∷ []) in
    subst P same c.put.ensures.stored

pub returns-clause-indexed : goal.returns-clause-indexed
returns-clause-indexed c =
    let n : c.len.result - c.remove_named-gap.new.front.entries ≡ length (drop c.remove_named-gap.new.front.entries c.remove_named-gap.new.entries.items) = omega (arith, c.len.ensures, live_count c.remove_named-gap.new.front.entries c.remove_named-gap.new.entries) in
    let m : Macro = c.args.new.now in
    rw c.put.ensures.index (entered_with _ _ _ _ _ _ _ _ m _ _ _ _ _ refl refl refl (rw c.name.ensures.name at c.remove_named-gap.ensures.stored) (rw c.name.ensures.name at c.remove_named-gap.ensures.indexed) (rw c.name.ensures.name at c.remove_named-gap.ensures.gap) n c.enter.ensures.places c.requires.bucket c.enter.ensures.bucket_starts)

pub returns-clause-marked : goal.returns-clause-marked
returns-clause-marked c =
    let m : Macro = c.args.new.now in
    let same : macros_in c.make_room.new.bytes.items (drop c.make_room.new.front.entries c.make_room.new.entries.items) ≡ (without c.args.new.now.name (macros_in c.args.bytes.now.items (drop c.args.front.now.entries c.args.entries.now.items))) = read_back _ _ _ c.make_room.ensures.stored ∙ read_back _ _ _ c.remove_named-gap.ensures.stored ∙ ap (λ (n : List ℕ). without n (macros_in c.args.bytes.now.items (drop c.args.front.now.entries c.args.entries.now.items))) c.name.ensures.name in
    ap (λ (v : IndexView). v.formal_offsets) c.put.ensures.index ∙ ap (λ (ms : List Macro). table_offsets (ms ++ m ∷ [])) same

pub returns-clause-room : goal.returns-clause-room
returns-clause-room c = ap (λ (v : IndexView). v.room) c.put.ensures.index ∙ (c.enter.ensures.room ∙ c.remove_named-gap.ensures.room)

pub put-requires-clause-room : goal.put-requires-clause-room
put-requires-clause-room c =
    omega (arith, c.make_room.ensures.room, ap (length {A = ℕ}) c.name-2.ensures.name, c.formals_len.ensures, c.body_len.ensures, new_size c.args.new.now)

pub overflow_add-size : goal.overflow_add-size
overflow_add-size c =
    omega (arith, c.requires.room, ap (length {A = ℕ}) c.name-2.ensures.name, c.formals_len.ensures, c.body_len.ensures, new_size c.args.new.now, c.args.bytes.now.ok.0, c.requires.narrow)

pub overflow_add-size-2 : goal.overflow_add-size-2
overflow_add-size-2 c =
    omega (arith, c.requires.room, ap (length {A = ℕ}) c.name-2.ensures.name, c.formals_len.ensures, c.body_len.ensures, new_size c.args.new.now, c.args.bytes.now.ok.0, c.requires.narrow)
