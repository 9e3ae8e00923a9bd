-- A turn writes the next bytes, or none where the write was interrupted.
use Rattle.std.proofs.Common.{◌-◌, ◌++◌, length, take, drop, sym, ap, subst, ◌∙◌, arith, length-take}
use lib.Seq.{take-add, take-take}
use Rattle.std.specs.Io.KnownBytes.{Appends}
use Rattle.std.proofs.KnownBytes.{Appends-trans, Appends-kept}
use Rattle.rdlpp_source.proofs.buffered.write_out.Goals as goal
use Rattle.rdlpp_source.proofs.buffered.write_out.Goals.{in-Ok, in-Err+else-ne}

pub loop-preserved : goal.loop-preserved
loop-preserved g c =
    let done = c.loop.written in
    let xs = c.args.bytes.now in
    elim c.match-write.branch [
      | in-Ok w ↦
          let n = w.in-Ok.len in
          let fits = w.in-Ok.ensures.bound in
          let most = length-take (length xs - done) (drop done xs) in
          let joined = ap (λ l. take done xs ++ l) (take-take n (length xs - done) (drop done xs) (omega arith)) ∙ sym (take-add done n xs) in
          rw w.written-is (record {
            within = omega arith;
            bytes = subst (Appends _ _) joined (Appends-trans _ _ _ _ _ c.loop.invariant.bytes w.in-Ok.ensures.bytes);
          })
      | in-Err+else-ne w ↦
          rw w.written-is (record {
            within = c.loop.invariant.within;
            bytes = Appends-kept _ _ _ _ c.loop.invariant.bytes w.in-Err.ensures.bytes;
          })
    ]
