use Rattle.rdlpp_c.proofs.opening.reopen_stream.Goals as goal

pub returns-in-Err-reopen_owned-clause-opens : goal.returns-in-Err-reopen_owned-clause-opens
returns-in-Err-reopen_owned-clause-opens c = c.in-Err-reopen_owned.ensures.opens _ c.in-Ok.ensures.0 c.in-Ok.ensures.1
