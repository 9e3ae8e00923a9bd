use Rattle.std.proofs.Common.{sym, ap, Option}
use Rattle.rdlpp_meaning.specs.Opens.{Open, found_standing}
use Rattle.rdlpp_texts.proofs.Scoping.{range-inside, source-none, standing-body, standing-other}
use Rattle.rdlpp_texts.proofs.scopes.standing.Goals as goal

pub returns-then-scope-eq0 : goal.returns-then-scope-eq0
returns-then-scope-eq0 c own =
    sym (ap (λ (o : Option Open). found_standing c.args.table.now.macros o c.args.scope c.args.place) (source-none c.args.frames.now c.args.bindings.now c.args.scope c.then-scope-eq0.either))

pub range_at-range-requires : goal.range_at-range-requires
range_at-range-requires c =
    (range-inside c.args.table.now.macros c.args.frames.now c.args.bindings.now c.args.scope _ _ _ c.args.place c.requires.bound c.if-scope-eq0.false c.if-frames-scope.false c.index-frames-frames.is c.in-Body.is c.requires.place).inside

pub standing_of-requires-clause-id : goal.standing_of-requires-clause-id
standing_of-requires-clause-id c =
    (range-inside c.args.table.now.macros c.args.frames.now c.args.bindings.now c.args.scope _ _ _ c.args.place c.requires.bound c.if-scope-eq0.false c.if-frames-scope.false c.index-frames-frames.is c.in-Body.is c.requires.place).id_inside

pub standing_of-requires-clause-place : goal.standing_of-requires-clause-place
standing_of-requires-clause-place c =
    (range-inside c.args.table.now.macros c.args.frames.now c.args.bindings.now c.args.scope _ _ _ c.args.place c.requires.bound c.if-scope-eq0.false c.if-frames-scope.false c.index-frames-frames.is c.in-Body.is c.requires.place).place_inside

pub returns-in-Body : goal.returns-in-Body
returns-in-Body c own =
    standing-body c.args.table.now.macros c.args.frames.now c.args.bindings.now c.args.scope _ _ _ c.args.place _ c.standing_of.result own c.requires.bound c.if-scope-eq0.false c.if-frames-scope.false c.index-frames-frames.is c.in-Body.is c.requires.place
    c.range_at-range.ensures (c.standing_of.ensures own)

pub returns-in_default : goal.returns-in_default
returns-in_default c own =
    standing-other c.args.table.now.macros c.args.frames.now c.args.bindings.now c.args.scope _ c.args.place c.if-scope-eq0.false c.if-frames-scope.false c.index-frames-frames.is c.in_default.not-Body
