use Rattle.std.proofs.Common.{ap, ℕ, List}
use Rattle.rdlpp_reports.specs.Places.{Shown}
use Rattle.rdlpp_reports.proofs.Noted.{put_at}
use Rattle.rdlpp_reports.proofs.places.DefinitionPlaces.put.Goals as goal

pub returns-in-Ok-clause-put : goal.returns-in-Ok-clause-put
returns-in-Ok-clause-put c done other =
    let shown : List ℕ → Shown = λ name. record { name = name; line = c.args.place.line } in
    put_at c.args.self.now.places c.insert.new.self c.in_ok-name.name (record { name = c.in_ok-from_str.field-0; line = c.args.place.line }) c.args.name.now
    (shown c.args.place.name.now) c.in-Ok.ensures.updates c.in_ok-name.ensures.ok (ap shown c.in_ok-from_str.ensures.ok) other
