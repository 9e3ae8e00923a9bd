-- The blocks and the bytes so far are mixed.
use Rattle.std.proofs.Common.{◌≡◌, ◌+◌, ◌*◌, ◌/◌, length, slice_index}
use Rattle.rdlpp_c.specs.Digest.{digest_of_blocks, mixed_all}
use Rattle.rdlpp_c.proofs.digest.digest_of.Given as goal

abbrev pub invariant-loop-place : goal.invariant-loop-place
invariant-loop-place l = l.state ≡ mixed_all (λ i. slice_index l.text (32 * (length l.text / 32) + i)) (digest_of_blocks l.text) l.place
