use Rattle.rdlpp_c.proofs.opening.open_stream.Goals as goal

pub returns-in-Ok-clause-opens : goal.returns-in-Ok-clause-opens
returns-in-Ok-clause-opens c = c.stream_of.ensures.opens _ c.in-Ok.ensures.0 c.in-Ok.ensures.1
