use Rattle.std.proofs.Common.{◌≡◌, ℕ, List, sym, ◌∙◌}
use Rattle.rdlpp_reports.specs.Places.{shown_at, shown_by}
use Rattle.rdlpp_reports.proofs.Noted.{on_error, taken_at}
use Rattle.rdlpp_reports.proofs.places.DefinitionPlaces.note_named.Goals as goal

pub returns-then-is_err : goal.returns-then-is_err
returns-then-is_err c name =
    let kept : (other : List ℕ) → shown_at c.put.new.self other ≡ shown_at c.args.self.now other =
    on_error c.put.result _ (sym c.is_err.ensures.value ∙ c.if-is_err.true) c.put.ensures.kept in
    taken_at c.args.self.now.places c.put.new.self.places c.swap_remove-place.new.self c.in-Ok.name.now c.args.name.now (shown_by c.args.place)
    c.in-Ok.ensures.cases.0 kept c.swap_remove-place.ensures.updates name
