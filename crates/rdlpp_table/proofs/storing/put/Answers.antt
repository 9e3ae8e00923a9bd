use Rattle.std.proofs.Common.{◌+◌, ◌∙◌, ◌++◌, drop, ◌∷◌, [], ap, arith, length, slice_range, length-append, List, ℕ, flat_map}
use Rattle.std.proofs.lemmas.List.{drop-append-le}
use Rattle.std.proofs.lemmas.Slice.{between_to_end}
use Rattle.rdlpp_define.specs.Macros.{formal_bytes, formals_of}
use Rattle.rdlpp_define.proofs.Sizes.{count_items}
use Rattle.rdlpp_table.specs.IndexView.{IndexView}
use Rattle.rdlpp_table.specs.PointCache.{cached_points}
use Rattle.rdlpp_table.specs.Store.{formals_read, macros_in, points_told}
use Rattle.rdlpp_table.specs.declared.entry.Entry.{Entry}
use Rattle.rdlpp_table.proofs.News.{appended_between, appended_few, appended_last, appended_listed, appended_offsets, formals_size, new_bytes, new_entry, new_points, new_size}
use Rattle.rdlpp_table.proofs.RoundTrip.{put_offsets, put_stored, stored_length}
use Rattle.rdlpp_table.proofs.Sizes.{few_offsets}
use Rattle.rdlpp_table.proofs.storing.put.Goals as goal

pub append_part-requires : goal.append_part-requires
append_part-requires c = omega (arith, c.requires.room, new_size c.args.new.now, c.name.ensures.name, ap (length {A = ℕ}) c.name.ensures.name)

pub append_formals-requires : goal.append_formals-requires
append_formals-requires c =
    let named = length-append c.args.bytes.now.items c.name.result.now in
    omega (arith, c.requires.room, new_size c.args.new.now, count_items c.args.bytes.now, count_items c.append_part.new.to, ap (length {A = ℕ}) c.append_part.ensures.items, named, ap (length {A = ℕ}) c.name.ensures.name, c.append_part.ensures.capacity)

pub append_body-requires : goal.append_body-requires
append_body-requires c =
    let named = length-append c.args.bytes.now.items c.name.result.now in
    let listed = length-append c.append_part.new.to.items (flat_map formal_bytes (formals_of c.args.new.now)) in
    omega (arith, c.requires.room, new_size c.args.new.now, count_items c.args.bytes.now, count_items c.append_formals.new.to, ap (length {A = ℕ}) c.append_part.ensures.items, named, ap (length {A = ℕ}) c.name.ensures.name, ap (length {A = ℕ}) c.append_formals.ensures.items, listed, formals_size c.args.new.now, c.append_part.ensures.capacity, c.append_formals.ensures.capacity)

pub push_offsets-requires-clause-whole : goal.push_offsets-requires-clause-whole
push_offsets-requires-clause-whole c =
    let a = appended_last c.append_part.new.to.items c.append_formals.new.to.items c.deref.result.now c.args.new.now c.arity.result c.unwrap_or-count.result c.len-list.result c.append_formals.ensures.plain c.append_formals.ensures.items (c.len-list.ensures ∙ count_items c.append_part.new.to) c.arity.ensures c.unwrap_or-count.ensures c.deref.ensures.value in
    a.whole

pub push_offsets-requires-clause-plain : goal.push_offsets-requires-clause-plain
push_offsets-requires-clause-plain c =
    let a = appended_last c.append_part.new.to.items c.append_formals.new.to.items c.deref.result.now c.args.new.now c.arity.result c.unwrap_or-count.result c.len-list.result c.append_formals.ensures.plain c.append_formals.ensures.items (c.len-list.ensures ∙ count_items c.append_part.new.to) c.arity.ensures c.unwrap_or-count.ensures c.deref.ensures.value in
    a.plain

pub push_offsets-requires-clause-short : goal.push_offsets-requires-clause-short
push_offsets-requires-clause-short c =
    let a = appended_last c.append_part.new.to.items c.append_formals.new.to.items c.deref.result.now c.args.new.now c.arity.result c.unwrap_or-count.result c.len-list.result c.append_formals.ensures.plain c.append_formals.ensures.items (c.len-list.ensures ∙ count_items c.append_part.new.to) c.arity.ensures c.unwrap_or-count.ensures c.deref.ensures.value in
    omega (arith, a.long, c.requires.small)

pub push_offsets-requires-clause-room : goal.push_offsets-requires-clause-room
push_offsets-requires-clause-room c =
    let a = appended_last c.append_part.new.to.items c.append_formals.new.to.items c.deref.result.now c.args.new.now c.arity.result c.unwrap_or-count.result c.len-list.result c.append_formals.ensures.plain c.append_formals.ensures.items (c.len-list.ensures ∙ count_items c.append_part.new.to) c.arity.ensures c.unwrap_or-count.ensures c.deref.ensures.value in
    omega (arith, appended_few c.args.new.now c.unwrap_or-count.result _ a, c.requires.offset_room)

pub cached_points-points-requires-clause-listed : goal.cached_points-points-requires-clause-listed
cached_points-points-requires-clause-listed c =
    let a = appended_last c.append_part.new.to.items c.append_formals.new.to.items c.deref.result.now c.args.new.now c.arity.result c.unwrap_or-count.result c.len-list.result c.append_formals.ensures.plain c.append_formals.ensures.items (c.len-list.ensures ∙ count_items c.append_part.new.to) c.arity.ensures c.unwrap_or-count.ensures c.deref.ensures.value in
    let b = appended_between c.append_part.new.to.items c.append_formals.new.to.items _ c.as_slice-stored.result.now c.args.new.now c.arity.result c.unwrap_or-count.result c.len-list.result c.len-body.result _ c.append_formals.ensures.plain c.append_formals.ensures.items c.append_body.ensures.items (c.len-list.ensures ∙ count_items c.append_part.new.to) (c.len-body.ensures ∙ count_items c.append_formals.new.to) c.arity.ensures c.unwrap_or-count.ensures c.as_slice-stored.ensures.value in
    appended_listed c.args.new.now _ _ _ c.args.index.now.formal_offsets c.formal_offsets.result.now (length c.formal_offsets-first.result.now) a b (c.formal_offsets.ensures ∙ ap (λ (v : IndexView). v.formal_offsets) c.push_offsets.ensures) (ap (length {A = ℕ}) c.formal_offsets-first.ensures)

pub returns-clause-index : goal.returns-clause-index
returns-clause-index c =
    let a = appended_last c.append_part.new.to.items c.append_formals.new.to.items c.deref.result.now c.args.new.now c.arity.result c.unwrap_or-count.result c.len-list.result c.append_formals.ensures.plain c.append_formals.ensures.items (c.len-list.ensures ∙ count_items c.append_part.new.to) c.arity.ensures c.unwrap_or-count.ensures c.deref.ensures.value in
    c.push_offsets.ensures ∙ ap (λ (l : List ℕ). let v : IndexView = record c.args.index.now { formal_offsets = l } in v) (put_offsets _ _ (macros_in c.args.bytes.now.items (drop c.args.front.now.entries c.args.entries.now.items)) c.args.new.now c.requires.marked (appended_offsets c.args.new.now _ _ a))

pub overflow_cast-first : goal.overflow_cast-first
overflow_cast-first c =
    omega (arith, ap (length {A = ℕ}) c.formal_offsets-first.ensures, ap (length {A = ℕ}) c.requires.marked, c.requires.stored.few, few_offsets (macros_in c.args.bytes.now.items (drop c.args.front.now.entries c.args.entries.now.items)), stored_length _ _ _ c.requires.stored, count_items c.args.bytes.now, c.args.bytes.now.ok.0, c.requires.narrow)

pub returns-clause-stored : goal.returns-clause-stored
returns-clause-stored c =
    put_stored _ _ _ c.args.new.now c.len-start.result (length c.formal_offsets-first.result.now + c.args.front.now.formal_offsets) _ _
    c.requires.stored
    c.append_formals.ensures.plain
    (c.len-start.ensures ∙ count_items c.args.bytes.now)
    (omega (arith, ap (length {A = ℕ}) c.formal_offsets-first.ensures, ap (length {A = ℕ}) c.requires.marked))
    (new_bytes c.args.bytes.now.items _ _ _ c.args.new.now (c.append_part.ensures.items ∙ ap (λ (l : List ℕ). c.args.bytes.now.items ++ l) c.name.ensures.name) c.append_formals.ensures.items c.append_body.ensures.items)
    (ap (drop c.args.front.now.entries) c.push_reserved.ensures.items
    ∙ (drop-append-le c.args.front.now.entries c.args.entries.now.items _ (omega (arith, c.requires.given_up, count_items c.args.entries.now))
    ∙ ap (λ (e : Entry). (drop c.args.front.now.entries c.args.entries.now.items) ++ e ∷ [])
    (ap (λ (a : ℕ). let e : Entry = record { start = c.len-start.result; name_len = a; list_len = c.formals_len.result; body_len = c.body_len.result; arity = c.small_arity.result; formal_offsets = length c.formal_offsets-first.result.now + c.args.front.now.formal_offsets; points = c.cached_points-points.result } in e) (ap (length {A = ℕ}) c.name-2.ensures.name)
    ∙ new_entry c.len-start.result (length c.formal_offsets-first.result.now + c.args.front.now.formal_offsets) c.args.new.now c.formals_len.result c.body_len.result c.small_arity.result c.cached_points-points.result c.formals_len.ensures c.body_len.ensures (c.small_arity.ensures ∙ c.arity-2.ensures)
    (new_points c.args.new.now c.append_part.new.to.items _ _ c.arity.result _ _ c.unwrap_or-count.result _ c.append_formals.ensures.plain c.append_formals.ensures.items c.append_body.ensures.items
    (c.len-list.ensures ∙ count_items c.append_part.new.to) (c.len-body.ensures ∙ count_items c.append_formals.new.to) c.arity.ensures c.unwrap_or-count.ensures (c.cached_points-points.ensures ∙ ap (λ (x : List ℕ). cached_points (formals_read c.unwrap_or-count.result (slice_range c.as_slice-stored.result.now c.len-list.result c.len-body.result)) x) (between_to_end c.as_slice-stored.result.now c.len-body.result _ (omega arith)) ∙ ap (λ (x : List ℕ). points_told x c.len-list.result c.len-body.result c.unwrap_or-count.result) c.as_slice-stored.ensures.value)))))
