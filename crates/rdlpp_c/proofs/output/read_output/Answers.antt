use Rattle.rdlpp_c.proofs.Outputs.{fills_as, leaves_as, read_rest, read_whole}
use Rattle.rdlpp_c.proofs.output.read_output.Goals as goal

pub returns-in-Some : goal.returns-in-Some
returns-in-Some c =
    read_whole _ _ _ _ c.fill-part.result.len _ c.in-Some.ending _ c.told_end.ensures.count c.told_end.ensures.fits
    (fills_as _ _ _ _ _ _ _ c.fill-part.ensures.fills c.in-Some.is)
    (leaves_as _ _ _ _ _ (c.fill-part.ensures.left tt) c.in-Some.is)
    c.told_end.ensures.fault

pub returns-in-None : goal.returns-in-None
returns-in-None c =
    read_rest _ _ _ _ _ c.fill-part.result.len _ _ c.count_rest-end.result.ending _ c.told_end-in-None.ensures.count
    (fills_as _ _ _ _ _ _ _ c.fill-part.ensures.fills c.in-None.is)
    (leaves_as _ _ _ _ _ (c.fill-part.ensures.left tt) c.in-None.is)
    c.count_rest-end.ensures
    c.told_end-in-None.ensures.fault
