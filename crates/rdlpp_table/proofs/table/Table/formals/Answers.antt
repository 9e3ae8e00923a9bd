use Rattle.std.proofs.Common.{◌≡◌, ◌<◌, ◌∙◌, ℕ, List, ap, drop, get_or, length, subst, sym, arith}
use Rattle.rdlpp_table.specs.declared.entry.Entry.{Entry}
use Rattle.rdlpp_table.specs.FormalOffsets.{table_offsets}
use Rattle.rdlpp_table.specs.Store.{formals_read, macros_in, IsStored}
use Rattle.rdlpp_table.proofs.Sizes.{entry_within, len_of_view, live_read, no_entry}
use Rattle.rdlpp_table.proofs.RoundTrip.{entry_listed, listed_as, read_here}
use Rattle.rdlpp_table.proofs.FirstPoints.{formals_here}
use Rattle.rdlpp_table.proofs.table.Table.formals.Goals as goal

pub bounds-entries-id-inside : goal.bounds-entries-id-inside
bounds-entries-id-inside c =
    let h : c.id.inside.index < length (drop c.self.inside.front.entries c.self.inside.entries.items) = omega (arith, c.requires, len_of_view _ _ _ _ _ c.self.view_is, c.id.view_is) in
    omega (arith, h, ap (length {A = Entry}) (c.live-entries.ensures ∙ ap (drop c.self.inside.front.entries) c.deref.ensures.value))

pub listed_in-requires-clause-bytes : goal.listed_in-requires-clause-bytes
listed_in-requires-clause-bytes c =
    let h : c.id.inside.index < length (drop c.self.inside.front.entries c.self.inside.entries.items) = omega (arith, c.requires, len_of_view _ _ _ _ _ c.self.view_is, c.id.view_is) in
    let q = live_read c.live-entries.result.now (drop c.self.inside.front.entries c.self.inside.entries.items) c.id.inside.index (c.live-entries.ensures ∙ ap (drop c.self.inside.front.entries) c.deref.ensures.value) h in
    entry_within _ _ _ _ _ _ _ c.as_slice.ensures.value c.self.invariant.held h q

pub listed_in-requires-clause-given_up : goal.listed_in-requires-clause-given_up
listed_in-requires-clause-given_up c =
    let h : c.id.inside.index < length (drop c.self.inside.front.entries c.self.inside.entries.items) = omega (arith, c.requires, len_of_view _ _ _ _ _ c.self.view_is, c.id.view_is) in
    let q = live_read c.live-entries.result.now (drop c.self.inside.front.entries c.self.inside.entries.items) c.id.inside.index (c.live-entries.ensures ∙ ap (drop c.self.inside.front.entries) c.deref.ensures.value) h in
    let P : List ℕ → Type 0 = λ bs. IsStored c.self.inside.front.bytes c.self.inside.front.formal_offsets bs (drop c.self.inside.front.entries c.self.inside.entries.items) (macros_in bs (drop c.self.inside.front.entries c.self.inside.entries.items)) in
    let formal_offsets : c.formal_offsets.result.now ≡ table_offsets (macros_in c.as_slice.result.now (drop c.self.inside.front.entries c.self.inside.entries.items)) =
    c.formal_offsets.ensures ∙ (c.self.invariant.marked ∙ ap (λ (bs : List ℕ). table_offsets (macros_in bs (drop c.self.inside.front.entries c.self.inside.entries.items))) (sym c.as_slice.ensures.value)) in
    let here = entry_listed c.as_slice.result.now c.formal_offsets.result.now (drop c.self.inside.front.entries c.self.inside.entries.items) c.id.inside.index (get_or c.live-entries.result.now c.id.inside.index no_entry) (subst P (sym c.as_slice.ensures.value) c.self.invariant.held.stored) formal_offsets h q in
    here.following

pub listed_in-requires-clause-formal_offsets : goal.listed_in-requires-clause-formal_offsets
listed_in-requires-clause-formal_offsets c =
    let h : c.id.inside.index < length (drop c.self.inside.front.entries c.self.inside.entries.items) = omega (arith, c.requires, len_of_view _ _ _ _ _ c.self.view_is, c.id.view_is) in
    let q = live_read c.live-entries.result.now (drop c.self.inside.front.entries c.self.inside.entries.items) c.id.inside.index (c.live-entries.ensures ∙ ap (drop c.self.inside.front.entries) c.deref.ensures.value) h in
    let P : List ℕ → Type 0 = λ bs. IsStored c.self.inside.front.bytes c.self.inside.front.formal_offsets bs (drop c.self.inside.front.entries c.self.inside.entries.items) (macros_in bs (drop c.self.inside.front.entries c.self.inside.entries.items)) in
    let formal_offsets : c.formal_offsets.result.now ≡ table_offsets (macros_in c.as_slice.result.now (drop c.self.inside.front.entries c.self.inside.entries.items)) =
    c.formal_offsets.ensures ∙ (c.self.invariant.marked ∙ ap (λ (bs : List ℕ). table_offsets (macros_in bs (drop c.self.inside.front.entries c.self.inside.entries.items))) (sym c.as_slice.ensures.value)) in
    let here = entry_listed c.as_slice.result.now c.formal_offsets.result.now (drop c.self.inside.front.entries c.self.inside.entries.items) c.id.inside.index (get_or c.live-entries.result.now c.id.inside.index no_entry) (subst P (sym c.as_slice.ensures.value) c.self.invariant.held.stored) formal_offsets h q in
    here.within

pub returns-clause-formals : goal.returns-clause-formals
returns-clause-formals c =
    let h : c.id.inside.index < length (drop c.self.inside.front.entries c.self.inside.entries.items) = omega (arith, c.requires, len_of_view _ _ _ _ _ c.self.view_is, c.id.view_is) in
    let q = live_read c.live-entries.result.now (drop c.self.inside.front.entries c.self.inside.entries.items) c.id.inside.index (c.live-entries.ensures ∙ ap (drop c.self.inside.front.entries) c.deref.ensures.value) h in
    formals_here _ _ _ _ _ _ _ _ _ _ c.as_slice.ensures.value c.self.view_is c.id.view_is h q
    (ap (λ (n : ℕ). formals_read n c.listed_in.result.list.now) c.listed_in.ensures.count ∙ (ap (formals_read _) c.listed_in.ensures.list ∙ read_here c.as_slice.result.now (get_or c.live-entries.result.now c.id.inside.index no_entry)))

pub returns-clause-listed : goal.returns-clause-listed
returns-clause-listed c =
    let h : c.id.inside.index < length (drop c.self.inside.front.entries c.self.inside.entries.items) = omega (arith, c.requires, len_of_view _ _ _ _ _ c.self.view_is, c.id.view_is) in
    let q = live_read c.live-entries.result.now (drop c.self.inside.front.entries c.self.inside.entries.items) c.id.inside.index (c.live-entries.ensures ∙ ap (drop c.self.inside.front.entries) c.deref.ensures.value) h in
    let P : List ℕ → Type 0 = λ bs. IsStored c.self.inside.front.bytes c.self.inside.front.formal_offsets bs (drop c.self.inside.front.entries c.self.inside.entries.items) (macros_in bs (drop c.self.inside.front.entries c.self.inside.entries.items)) in
    let formal_offsets : c.formal_offsets.result.now ≡ table_offsets (macros_in c.as_slice.result.now (drop c.self.inside.front.entries c.self.inside.entries.items)) =
    c.formal_offsets.ensures ∙ (c.self.invariant.marked ∙ ap (λ (bs : List ℕ). table_offsets (macros_in bs (drop c.self.inside.front.entries c.self.inside.entries.items))) (sym c.as_slice.ensures.value)) in
    let here = entry_listed c.as_slice.result.now c.formal_offsets.result.now (drop c.self.inside.front.entries c.self.inside.entries.items) c.id.inside.index (get_or c.live-entries.result.now c.id.inside.index no_entry) (subst P (sym c.as_slice.ensures.value) c.self.invariant.held.stored) formal_offsets h q in
    listed_as _ _ _ _ _ _ c.listed_in.ensures.count c.listed_in.ensures.list c.listed_in.ensures.formal_offsets here.listed
