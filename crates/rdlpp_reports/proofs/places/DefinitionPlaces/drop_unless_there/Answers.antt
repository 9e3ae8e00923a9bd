use Rattle.rdlpp_reports.proofs.Noted.{dropped}
use Rattle.rdlpp_reports.proofs.places.DefinitionPlaces.drop_unless_there.Goals as goal

pub returns-then-not-is_there : goal.returns-then-not-is_there
returns-then-not-is_there c name =
    let gone = c.swap_remove_index-gone in
    dropped c.args.self.now.places gone.new.self gone.result gone.ensures.updates gone.ensures.unchanged name
