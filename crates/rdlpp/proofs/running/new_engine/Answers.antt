use Rattle.rdlpp.proofs.Runs.{fresh_of}
use Rattle.rdlpp.proofs.running.new_engine.Goals as goal

pub returns-in-Ok : goal.returns-in-Ok
returns-in-Ok g c =
    let fresh = fresh_of c.args.options.now c.args.sources c.in-Ok.engine c.in-Ok.ensures.1 in
    (c.in-Ok.ensures.0, fresh.0, fresh.1)
