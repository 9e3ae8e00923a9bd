use Rattle.rdlpp_c.proofs.Reopens.{opens_told}
use Rattle.rdlpp_c.proofs.streaming.rdlpp_open.Goals as goal

pub returns : goal.returns
returns c = opens_told _ _ _ _ _ _ c.open_stream-opened.ensures.opens c.tell_opening.ensures
