use Rattle.std.proofs.Common.{drop, ap, ◌∙◌, refl, arith, None, Some}
use Rattle.rdlpp_meaning.specs.Resumed.{Place}
use Rattle.rdlpp_read.specs.Conditions.{ConditionsView, progress_of}
use Rattle.rdlpp_read.specs.ConditionMoves.{IsUnclosed}
use Rattle.rdlpp_read.proofs.ConditionStacks.{count_seen, place_none, place_some, unclosed_some}
use Rattle.rdlpp_read.proofs.conditions.Conditions.unclosed.Goals as goal

pub returns-then-len-below : goal.returns-then-len-below
returns-then-len-below c =
    let now = c.args.self.now in
    let count = count_seen c.self.inside.open.items now.open_now c.len.result (ap (λ (v : ConditionsView). v.open_now) c.self.view_is) (c.len.ensures ∙ c.self.inside.open.ok.0) in
    place_none (λ (p : Place). IsUnclosed p None) c.args.below now (omega (arith, count, c.if-len-below.true)) refl

pub innermost-requires : goal.innermost-requires
innermost-requires c =
    let count = count_seen c.self.inside.open.items c.args.self.now.open_now c.len.result (ap (λ (v : ConditionsView). v.open_now) c.self.view_is) (c.len.ensures ∙ c.self.inside.open.ok.0) in
    let other = c.if-len-below.false in
    let below = c.requires in
    omega arith

pub returns : goal.returns
returns c =
    let now = c.args.self.now in
    let count = count_seen c.self.inside.open.items now.open_now c.len.result (ap (λ (v : ConditionsView). v.open_now) c.self.view_is) (c.len.ensures ∙ c.self.inside.open.ok.0) in
    let other = c.if-len-below.false in
    let below = c.requires in
    let o = progress_of c.innermost.result.now in
    place_some (λ (p : Place). IsUnclosed p (Some o.line)) c.args.below now o (drop 1 now.open_now) c.innermost.ensures (omega arith)
    (λ os. unclosed_some now.skipped o os o.line refl)
