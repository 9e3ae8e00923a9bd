use Rattle.std.proofs.Common.{◌≡◌, ◌+◌, [], ◌∷◌, length, refl, ap, ◌∙◌, arith, vec_len, length-append}
use Rattle.std.proofs.lemmas.List.{drop_all}
use Rattle.std.proofs.lemmas.List.Elements.{All-push, All-same}
use Rattle.rdlpp_read.specs.Buffer.{closed_buffer}
use Rattle.rdlpp_read.specs.Files.{IsClosed, IsSlot}
use Rattle.rdlpp_read.proofs.BufferTokens.{closed-slot, slots-made}
use Rattle.rdlpp_read.proofs.files.Files.new.Goals as goal

pub loop-slot-init : goal.loop-slot-init
loop-slot-init g c = grind arith

pub loop-slot-preserved : goal.loop-slot-preserved
unfolding closed_buffer
loop-slot-preserved g c =
    let v = c.loop-slot.invariant in
    let old = c.loop-slot.list.items in
    let items = c.push_reserved.ensures.items in
    let closed = c.in_ok-new.ensures in
    let size : length c.push_reserved.new.self.items ≡ length old + 1 = ap length items ∙ length-append old (_ ∷ []) in (
      omega (arith, v.0),
      omega (arith, v.1, c.push_reserved.ensures.capacity),
      All-same (IsSlot c.args.line_bytes) c.push_reserved.new.self.items _ items
          (All-push (IsSlot c.args.line_bytes) old _ v.2 (closed-slot c.args.line_bytes _ closed refl)),
      All-same IsClosed c.push_reserved.new.self.items _ items (All-push IsClosed old _ v.3 (ap (λ b. b.reader) closed)),
    )

pub push_reserved-requires : goal.push_reserved-requires
push_reserved-requires g c = let v = c.loop-slot.invariant in omega (arith, v.0, v.1, c.loop-slot.list.ok.0)

pub invariant_of-result : goal.invariant_of-result
invariant_of-result g c =
    let v = c.loop-slot.invariant in
    slots-made c.args.line_bytes c.args.slots c.loop-slot.list.items (omega (arith, v.0)) v.2 v.3

pub returns : goal.returns
returns g c = grind (arith, drop_all, vec_len)
