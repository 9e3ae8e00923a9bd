use Rattle.std.proofs.Common.{drop, ap, ◌∙◌, refl, arith}
use Rattle.rdlpp_meaning.specs.declared.fault.FaultKind.TheVariants.{StrayBranch}
use Rattle.rdlpp_meaning.specs.Resumed.{Place}
use Rattle.rdlpp_read.specs.declared.conditions.Branch.TheVariants.{Inner, Refused}
use Rattle.rdlpp_read.specs.Conditions.{ConditionsView, progress_of}
use Rattle.rdlpp_read.specs.ConditionMoves.{IsBranch}
use Rattle.rdlpp_read.proofs.ConditionStacks.{branch_inner, branch_own, count_seen, place_any, place_none, place_some}
use Rattle.rdlpp_read.proofs.conditions.Conditions.branch.Goals as goal

pub returns-then-len-below : goal.returns-then-len-below
returns-then-len-below c =
    let now = c.args.self.now in
    let count = count_seen c.self.inside.open.items now.open_now c.len.result (ap (λ (v : ConditionsView). v.open_now) c.self.view_is) (c.len.ensures ∙ c.self.inside.open.ok.0) in
    place_none (λ (p : Place). IsBranch p c.args.word (Refused StrayBranch)) c.args.below now (omega (arith, count, c.if-len-below.true)) refl

pub returns-then-inner-gt0 : goal.returns-then-inner-gt0
returns-then-inner-gt0 c =
    let now = c.args.self.now in
    let count = count_seen c.self.inside.open.items now.open_now c.len.result (ap (λ (v : ConditionsView). v.open_now) c.self.view_is) (c.len.ensures ∙ c.self.inside.open.ok.0) in
    let other = c.if-len-below.false in
    let below = c.requires in
    place_any (λ (p : Place). IsBranch p c.args.word Inner) c.args.below now (omega arith)
    (λ o os. branch_inner now.skipped o os c.args.word (omega (arith, c.inner.ensures, c.if-inner-gt0.true)))

pub innermost-requires : goal.innermost-requires
innermost-requires c =
    let count = count_seen c.self.inside.open.items c.args.self.now.open_now c.len.result (ap (λ (v : ConditionsView). v.open_now) c.self.view_is) (c.len.ensures ∙ c.self.inside.open.ok.0) in
    let other = c.if-len-below.false in
    let below = c.requires in
    omega arith

pub returns : goal.returns
returns c =
    let now = c.args.self.now in
    let count = count_seen c.self.inside.open.items now.open_now c.len.result (ap (λ (v : ConditionsView). v.open_now) c.self.view_is) (c.len.ensures ∙ c.self.inside.open.ok.0) in
    let other = c.if-len-below.false in
    let below = c.requires in
    place_some (λ (p : Place). IsBranch p c.args.word c.branch_of.result) c.args.below now (progress_of c.innermost.result.now) (drop 1 now.open_now) c.innermost.ensures (omega arith)
    (λ os. branch_own now.skipped (progress_of c.innermost.result.now) os c.args.word c.branch_of.result (omega (arith, c.inner.ensures, c.if-inner-gt0.false)) c.branch_of.ensures)
