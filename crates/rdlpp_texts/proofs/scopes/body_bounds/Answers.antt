use Rattle.std.proofs.Common.{arith}
use Rattle.rdlpp_texts.proofs.Stacking.{within-wider}
use Rattle.rdlpp_texts.proofs.scopes.body_bounds.Goals as goal

pub returns : goal.returns
returns c bindings = ((omega (arith, c.index.ensures), omega (arith, c.index.ensures)), within-wider _ c.scope_bounds-outer.result _ (omega arith) (omega arith) (c.scope_bounds-outer.ensures bindings))
