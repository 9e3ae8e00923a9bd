use Rattle.std.proofs.Common.{sym, ap, Option}
use Rattle.rdlpp_meaning.specs.Opens.{Open}
use Rattle.rdlpp_texts.specs.Scopes.{found_source}
use Rattle.rdlpp_texts.proofs.Scoping.{source-at, source-none}
use Rattle.rdlpp_texts.proofs.scopes.source_at.Goals as goal

pub returns-then-scope-eq0 : goal.returns-then-scope-eq0
returns-then-scope-eq0 c bindings =
    sym (ap (λ (o : Option Open). found_source o) (source-none c.args.frames.now bindings c.args.scope c.then-scope-eq0.either))

pub returns : goal.returns
returns c bindings =
    source-at c.args.frames.now bindings c.args.scope _ _ c.if-scope-eq0.false c.if-frames-scope.false c.index-frames-frames.is c.source_of.ensures
