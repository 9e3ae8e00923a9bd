use Rattle.rdlpp_usages.specs.CallActions.{call_state_meant}
use Rattle.rdlpp_usages.proofs.Takes.{plain_argument_used}
use Rattle.rdlpp_usages.proofs.action.plain_argument_use.Goals as goal

pub returns : goal.returns
unfolding call_state_meant
returns c =
    rw (c.in-Inside.is, c.in-Plain.is)
    (plain_argument_used c.in-Inside.level c.args.room c.plain_argument_bytes-len.result c.args.held.now c.plain_argument_bytes-len.ensures.value c.if-len-eq0.false c.if-room-len.false)
