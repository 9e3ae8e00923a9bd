use Rattle.std.proofs.Common.{arith}
use Rattle.rdlpp_read.proofs.BufferTokens.{slots-open}
use Rattle.rdlpp_read.proofs.files.Files.facts.Goals as goal

pub returns : goal.returns
returns g c =
    rw (← c.self.view_is) (slots-open c.self.inside.line_bytes c.self.inside.first c.self.inside.slots.items _ (omega (arith, c.self.inside.slots.ok.0)) c.self.invariant)
