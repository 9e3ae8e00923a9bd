use Rattle.rdlpp_c.proofs.Reopens.{opens_told, unread_told}
use Rattle.rdlpp_c.proofs.streaming.rdlpp_reopen.Goals as goal

pub returns-clause-opens : goal.returns-clause-opens
returns-clause-opens c = opens_told _ _ _ _ _ _ c.reopen_stream-opened.ensures.opens c.tell_opening.ensures

pub returns-clause-unread : goal.returns-clause-unread
returns-clause-unread c = unread_told _ _ _ _ _ c.reopen_stream-opened.ensures.unread c.tell_opening.ensures
