use Rattle.std.proofs.Common.{List, ℕ, ◌≡◌, ◌≤◌, ◌+◌, ◌∷◌, ◌++◌, [], ap, sym, ◌∙◌, arith, drop, length}
use Rattle.std.proofs.lemmas.Grind.{common_steps}
use Rattle.rdlpp_define.specs.Macros.{Macro, macro_size, list_size}
use Rattle.rdlpp_define.specs.Table.{without, table_size, TableView}
use Rattle.rdlpp_table.specs.IndexView.{IndexRoom}
use Rattle.rdlpp_define.specs.Defined.{Accepted}
use Rattle.rdlpp_table.specs.Store.{macros_in}
use Rattle.rdlpp_table.specs.Layout.{view_of}
use Rattle.rdlpp_define.proofs.Sizes.{count_items}
use Rattle.rdlpp_table.proofs.RoundTrip.{read_back, held_of, sound_with, too_large, too_many, fits, refused_is, accepted_is}
use Rattle.rdlpp_table.proofs.News.{new_size}
use Rattle.rdlpp_table.proofs.Taken.{without_size, capacity_small}
use Rattle.rdlpp_table.proofs.Indexed.{few_entries, indexed_after, marked_after}
use Rattle.rdlpp_table.proofs.table.Table.store.Goals as goal

pub usage_without-rest-requires-clause-few : goal.usage_without-rest-requires-clause-few
usage_without-rest-requires-clause-few c = grind (arith, common_steps, few_entries, count_items)

pub overflow_sub-self-inside : goal.overflow_sub-self-inside
overflow_sub-self-inside c = omega (arith, c.usage_without-rest.ensures.size, ap (λ (n : List ℕ). table_size (without n (macros_in c.self.inside.bytes.items (drop c.self.inside.front.entries c.self.inside.entries.items)))) c.name-name.ensures.name, without_size c.args.new.now.name (macros_in c.self.inside.bytes.items (drop c.self.inside.front.entries c.self.inside.entries.items)), c.self.invariant.held.sound.bytes_fit)

pub returns-then-self-rest-clause-outcome : goal.returns-then-self-rest-clause-outcome
returns-then-self-rest-clause-outcome c = grind (arith, new_size, refused_is, too_large)

pub returns-then-self-rest-2-clause-outcome : goal.returns-then-self-rest-2-clause-outcome
returns-then-self-rest-2-clause-outcome c = grind (arith, new_size, without_size, refused_is, too_many, capacity_small)

pub replace-requires-clause-few : goal.replace-requires-clause-few
replace-requires-clause-few c = grind (arith, common_steps, few_entries, count_items)

pub replace-requires-clause-room : goal.replace-requires-clause-room
replace-requires-clause-room c =
    omega (arith, c.usage_without-rest.ensures.size, ap (λ (n : List ℕ). table_size (without n (macros_in c.self.inside.bytes.items (drop c.self.inside.front.entries c.self.inside.entries.items)))) c.name-name.ensures.name, ap (length {A = ℕ}) c.name-name.ensures.name, c.formals_len.ensures, c.body_len.ensures, new_size c.args.new.now, c.saturating_add.ensures, c.saturating_add-size.ensures, without_size c.args.new.now.name (macros_in c.self.inside.bytes.items (drop c.self.inside.front.entries c.self.inside.entries.items)), c.self.invariant.held.sound.bytes_fit, c.self.invariant.room, capacity_small c.self.inside.bytes)

pub replace-requires-clause-small : goal.replace-requires-clause-small
replace-requires-clause-small c = omega (arith, c.usage_without-rest.ensures.size, ap (λ (n : List ℕ). table_size (without n (macros_in c.self.inside.bytes.items (drop c.self.inside.front.entries c.self.inside.entries.items)))) c.name-name.ensures.name, ap (length {A = ℕ}) c.name-name.ensures.name, c.formals_len.ensures, c.body_len.ensures, new_size c.args.new.now, c.saturating_add.ensures, c.saturating_add-size.ensures, c.self.invariant.small)

pub replace-requires-clause-places : goal.replace-requires-clause-places
replace-requires-clause-places c = omega (arith, c.self.invariant.entry_room, c.self.invariant.few)

pub replace-requires-clause-index_room : goal.replace-requires-clause-index_room
replace-requires-clause-index_room c = omega (arith, c.usage_without-rest.ensures.count, ap (λ (n : List ℕ). length (without n (macros_in c.self.inside.bytes.items (drop c.self.inside.front.entries c.self.inside.entries.items)))) c.name-name.ensures.name, ap (λ (r : IndexRoom). r.places) c.self.invariant.index_room)

pub replace-requires-clause-offset_room : goal.replace-requires-clause-offset_room
replace-requires-clause-offset_room c = grind (arith, without_size)

pub invariant_of-self : goal.invariant_of-self
invariant_of-self c =
    let m : Macro = c.args.new.now in
    let size : macro_size m ≡ length m.name + (list_size m + length m.body) = new_size m in
    let view : TableView = view_of c.self.inside.bytes.items (drop c.self.inside.front.entries c.self.inside.entries.items) c.self.inside.most_bytes c.self.inside.most_macros in
    let small : table_size (without c.args.new.now.name (macros_in c.self.inside.bytes.items (drop c.self.inside.front.entries c.self.inside.entries.items))) ≤ c.self.inside.most_bytes = omega (arith, without_size c.args.new.now.name (macros_in c.self.inside.bytes.items (drop c.self.inside.front.entries c.self.inside.entries.items)), c.self.invariant.held.sound.bytes_fit) in
    let h : table_size (without c.args.new.now.name view.macros) + macro_size m ≤ view.most_bytes = omega (arith, c.usage_without-rest.ensures.size, ap (λ (n : List ℕ). table_size (without n (macros_in c.self.inside.bytes.items (drop c.self.inside.front.entries c.self.inside.entries.items)))) c.name-name.ensures.name, ap (length {A = ℕ}) c.name-name.ensures.name, c.formals_len.ensures, c.body_len.ensures, new_size c.args.new.now, c.saturating_add.ensures, c.saturating_add-size.ensures, c.self.invariant.room, capacity_small c.self.inside.bytes) in
    let k : length (without c.args.new.now.name view.macros) + 1 ≤ view.most_macros = omega (arith, c.usage_without-rest.ensures.count, ap (λ (n : List ℕ). length (without n (macros_in c.self.inside.bytes.items (drop c.self.inside.front.entries c.self.inside.entries.items)))) c.name-name.ensures.name) in
    record {
      held = held_of _ _ _ _ _ c.replace.ensures.stored (sound_with view m c.self.invariant.held.sound c.name-name.ensures.sound h k);
      given_up = c.replace.ensures.given_up;
      room = omega (arith, c.replace.ensures.capacity.0, c.self.invariant.room);
      entry_room = omega (arith, c.replace.ensures.capacity.1, c.self.invariant.entry_room);
      indexed = indexed_after _ _ _ _ _ c.replace.ensures.stored c.replace.ensures.indexed;
      marked = marked_after _ _ _ _ c.replace.ensures.stored c.replace.ensures.marked;
      index_room = c.replace.ensures.room ∙ c.self.invariant.index_room;
      few = c.self.invariant.few;
      small = c.self.invariant.small;
    }

pub returns-clause-outcome : goal.returns-clause-outcome
returns-clause-outcome c =
    let m : Macro = c.args.new.now in
    let size : macro_size m ≡ length m.name + (list_size m + length m.body) = new_size m in
    let same : table_size (without c.args.new.now.name (macros_in c.self.inside.bytes.items (drop c.self.inside.front.entries c.self.inside.entries.items))) ≡ table_size (without c.args.new.now.name c.args.self.now.macros) = ap (λ (v : TableView). table_size (without c.args.new.now.name v.macros)) c.self.view_is in
    let count : length (without c.args.new.now.name (macros_in c.self.inside.bytes.items (drop c.self.inside.front.entries c.self.inside.entries.items))) ≡ length (without c.args.new.now.name c.args.self.now.macros) = ap (λ (v : TableView). length (without c.args.new.now.name v.macros)) c.self.view_is in
    let small : table_size (without c.args.new.now.name (macros_in c.self.inside.bytes.items (drop c.self.inside.front.entries c.self.inside.entries.items))) ≤ c.self.inside.most_bytes = omega (arith, without_size c.args.new.now.name (macros_in c.self.inside.bytes.items (drop c.self.inside.front.entries c.self.inside.entries.items)), c.self.invariant.held.sound.bytes_fit) in
    accepted_is _
    ∙ (ap Accepted (read_back _ _ _ c.replace.ensures.stored ∙ ap (λ (v : TableView). without c.args.new.now.name v.macros ++ m ∷ []) c.self.view_is)
    ∙ sym (fits _ _ _ m
    (omega (arith, c.usage_without-rest.ensures.size, ap (λ (n : List ℕ). table_size (without n (macros_in c.self.inside.bytes.items (drop c.self.inside.front.entries c.self.inside.entries.items)))) c.name-name.ensures.name, ap (length {A = ℕ}) c.name-name.ensures.name, c.formals_len.ensures, c.body_len.ensures, new_size c.args.new.now, c.saturating_add.ensures, c.saturating_add-size.ensures, c.self.invariant.room, capacity_small c.self.inside.bytes, ap (λ (v : TableView). v.most_bytes) c.self.view_is))
    (omega (arith, c.usage_without-rest.ensures.count, ap (λ (n : List ℕ). length (without n (macros_in c.self.inside.bytes.items (drop c.self.inside.front.entries c.self.inside.entries.items)))) c.name-name.ensures.name, ap (λ (v : TableView). v.most_macros) c.self.view_is))))
