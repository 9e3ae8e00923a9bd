use Rattle.std.proofs.Common.{arith}
use Rattle.rdlpp_texts.proofs.Stacking.{bounded-at, ids-none, none-within}
use Rattle.rdlpp_texts.proofs.scopes.scope_bounds.Goals as goal

pub returns-then-scope-eq0 : goal.returns-then-scope-eq0
returns-then-scope-eq0 c bindings = none-within _ _ (ids-none c.args.frames.now bindings c.args.scope c.then-scope-eq0.either)

pub returns : goal.returns
returns c bindings =
    let some = c.if-scope-eq0.false in
    rw (← c.index-frames-frames.is) (bounded-at c.args.frames.now bindings c.args.scope c.index-frames-frames.result c.requires (omega (arith, some)) c.if-frames-scope.false c.index-frames-frames.is)
