use Rattle.rdlpp_scan.proofs.OrdinaryLaws.{low_inside, marks_mask}
use Rattle.rdlpp_scan.proofs.plain.marks_in.Goals as goal

pub swizzle-like : goal.swizzle-like
swizzle-like c = low_inside c.args.block c.requires

pub returns : goal.returns
returns c = marks_mask c.args.block c.requires
