use Rattle.std.proofs.Common.{eqb, arith, w8}
use Rattle.std.proofs.lemmas.Simd.{bitmask_splat}
use Rattle.rdlpp_scan.specs.Bytes.{is_line_end}
use Rattle.rdlpp_scan.proofs.plain.ends_in.Goals as goal

pub returns : goal.returns
unfolding is_line_end
returns c = bitmask_splat w8 eqb c.args.block 16 10 c.requires (omega arith)
