use Rattle.std.proofs.Common.{◌≡◌, ◌-◌, List, length, None, Some, Ok, Err, ap, ◌∙◌, refl, arith}
use Rattle.rdlpp_meaning.specs.declared.fault.FaultKind.TheVariants.{StrayBranch}
use Rattle.rdlpp_meaning.specs.Meaning.{Progress}
use Rattle.rdlpp_meaning.specs.Resumed.{Place}
use Rattle.rdlpp_read.specs.Conditions.{ConditionsView, seen_of}
use Rattle.rdlpp_read.specs.ConditionMoves.{Closes, closed_one, with_count}
use Rattle.rdlpp_read.proofs.ConditionStacks.{closes_inner, closes_own, count_seen, place_any, place_none, rest_seen}
use Rattle.rdlpp_read.proofs.conditions.Conditions.close.Goals as goal

pub returns-then-len-below : goal.returns-then-len-below
returns-then-len-below c =
    let now = c.args.self.now in
    let count = count_seen c.self.inside.open.items now.open_now c.len.result (ap (λ (v : ConditionsView). v.open_now) c.self.view_is) (c.len.ensures ∙ c.self.inside.open.ok.0) in
    place_none (λ (p : Place). Closes {A = Unit {0}} p (Err StrayBranch) now now) c.args.below now (omega (arith, count, c.if-len-below.true)) (refl, refl)

pub overflow_sub-len : goal.overflow_sub-len
overflow_sub-len c =
    let count = count_seen c.self.inside.open.items c.args.self.now.open_now c.len.result (ap (λ (v : ConditionsView). v.open_now) c.self.view_is) (c.len.ensures ∙ c.self.inside.open.ok.0) in
    let other = c.if-len-below.false in
    let below = c.requires in
    omega (arith, c.len.ensures, c.len-else-inner-gt0.ensures)

pub returns-then-inner-gt0 : goal.returns-then-inner-gt0
returns-then-inner-gt0 c =
    let now = c.args.self.now in
    let inner = c.inner-inner.result in
    let count = count_seen c.self.inside.open.items now.open_now c.len.result (ap (λ (v : ConditionsView). v.open_now) c.self.view_is) (c.len.ensures ∙ c.self.inside.open.ok.0) in
    let other = c.if-len-below.false in
    let below = c.requires in
    let after : ConditionsView = record { open_now = seen_of c.self.inside.open.items; skipped = Some (inner - 1); limit = c.self.inside.limit } in
    let becomes : after ≡ with_count (inner - 1) now = ap (with_count (inner - 1)) c.self.view_is in
    place_any (λ (p : Place). Closes {A = Unit {0}} p (Ok tt) now after) c.args.below now (omega arith)
    (λ o os. closes_inner now.skipped o os tt inner now after c.inner-inner.ensures c.if-inner-gt0.true becomes)

pub returns-else-inner-gt0 : goal.returns-else-inner-gt0
returns-else-inner-gt0 c =
    let now = c.args.self.now in
    let stored = c.self.inside.open.items in
    let limit = c.self.inside.limit in
    let count = count_seen stored now.open_now c.len.result (ap (λ (v : ConditionsView). v.open_now) c.self.view_is) (c.len.ensures ∙ c.self.inside.open.ok.0) in
    let other = c.if-len-below.false in
    let below = c.requires in
    let n = c.len-else-inner-gt0.result in
    let size : n ≡ length stored = c.len-else-inner-gt0.ensures ∙ c.self.inside.open.ok.0 in
    let rest = rest_seen stored c.truncate.new.self.items n size (omega (arith, c.len.ensures, c.len-else-inner-gt0.ensures)) c.truncate.ensures.items in
    let after : ConditionsView = record { open_now = seen_of c.truncate.new.self.items; skipped = None; limit = limit } in
    let made : List Progress → ConditionsView = λ x. record { open_now = x; skipped = None; limit = limit } in
    let becomes : after ≡ closed_one now = ap made rest ∙ ap closed_one c.self.view_is in
    place_any (λ (p : Place). Closes {A = Unit {0}} p (Ok tt) now after) c.args.below now (omega arith)
    (λ o os. closes_own now.skipped o os tt c.inner-inner.result now after c.inner-inner.ensures c.if-inner-gt0.false becomes)
