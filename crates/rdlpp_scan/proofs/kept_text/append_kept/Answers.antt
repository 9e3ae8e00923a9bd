use Rattle.std.proofs.Common.{◌≡◌, ◌-◌, ◌∙◌, arith, refl}
use Rattle.rdlpp_scan.specs.KeptBytes.{left}
use Rattle.rdlpp_scan.specs.KeptText.{trims}
use Rattle.rdlpp_scan.proofs.Measures.{copied_same, copied_start, copied_more, copied_short, found_is, found_some, found_none, sound_len, sound_after}
use Rattle.rdlpp_scan.proofs.kept_text.append_kept.Goals as goal

pub loop-init : goal.loop-init
loop-init c =
    let n : c.args.len - 0 ≡ c.args.len = omega arith in
    let found = found_is _ _ _ _ c.next_untrimmed.ensures.next (sound_len (trims c.args.is_default) _ _ _ c.requires.len c.new-bytes.ensures.left) c.unwrap_or-found.ensures in
    let start = copied_start (trims c.args.is_default) c.args.to.now.items c.args.len _ _ _ c.requires.len c.new-bytes.ensures.left found in
    record {
      copied = copied_same _ _ _ _ _ _ _ refl n start;
      count = omega arith;
      room = refl;
      fits = c.next_untrimmed.ensures.fits;
    }

pub returns-in_default-clause-items : goal.returns-in_default-clause-items
returns-in_default-clause-items c = copied_short _ _ _ _ _ (found_none _ _ c.in_default.is) c.loop.invariant.copied

pub loop-preserved : goal.loop-preserved
loop-preserved c =
    let some = found_some _ _ (left c.loop.bytes) c.in-Some.is in
    let found = found_is _ _ _ _ c.next.ensures.next (sound_after _ _ _ some c.loop.invariant.copied.sound) c.unwrap_or-found-in-loop.ensures in
    let more = copied_more _ _ _ c.args.len c.loop.counter c.in-Some.b _ _ _ c.loop-test.true c.loop.invariant.copied some found in
    record {
      copied = copied_same _ _ _ _ _ _ _ c.push_reserved.ensures.items refl more;
      count = omega (arith, c.loop.invariant.count, c.push_reserved.ensures.len);
      room = c.push_reserved.ensures.capacity ∙ c.loop.invariant.room;
      fits = c.next.ensures.fits;
    }
