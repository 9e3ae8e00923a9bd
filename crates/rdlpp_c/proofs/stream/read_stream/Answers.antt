-- Where nothing is asked for, nothing is met of a device.
use Rattle.rdlpp_c.proofs.Quiet.{reads_quietly}
use Rattle.rdlpp_c.proofs.stream.read_stream.Goals as goal

pub returns-clause-quiet : goal.returns-clause-quiet
returns-clause-quiet c =
    reads_quietly c.args.stream.now c.take_up.new.self c.read-part.new.self c.args.out.now c.read-part.new.out c.read-part.result.len c.read-part.result.ending _ _ _
    c.take_up.ensures c.read-part.ensures c.told_read.ensures
