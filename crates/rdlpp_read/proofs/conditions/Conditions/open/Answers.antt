use Rattle.std.proofs.Common.{◌∷◌, ℕ, List, Option, ap, ◌∙◌, refl, arith, false}
use Rattle.rdlpp_meaning.specs.Meaning.{Progress}
use Rattle.rdlpp_read.specs.Conditions.{ConditionsView, seen_of}
use Rattle.rdlpp_read.specs.ConditionMoves.{opened_with}
use Rattle.rdlpp_read.proofs.ConditionStacks.{count_seen, opens_none, opens_one, seen-push}
use Rattle.rdlpp_read.proofs.conditions.Conditions.open.Goals as goal

pub returns-then-len-self : goal.returns-then-len-self
returns-then-len-self c =
    let now = c.args.self.now in
    let count = count_seen c.self.inside.open.items now.open_now c.len.result (ap (λ (v : ConditionsView). v.open_now) c.self.view_is) (c.len.ensures ∙ c.self.inside.open.ok.0) in
    let limit = ap (λ (v : ConditionsView). v.limit) c.self.view_is in
    record { test = opens_none now c.args.holds (omega (arith, count, limit, c.if-len-self.true)); becomes = refl }

pub returns : goal.returns
returns c =
    let now = c.args.self.now in
    let stored = c.self.inside.open.items in
    let most = c.self.inside.limit in
    let skipped = c.skipped_by-self-inside.result in
    let count = count_seen stored now.open_now c.len.result (ap (λ (v : ConditionsView). v.open_now) c.self.view_is) (c.len.ensures ∙ c.self.inside.open.ok.0) in
    let limit = ap (λ (v : ConditionsView). v.limit) c.self.view_is in
    let fits = c.self.invariant.0 in
    let other = c.if-len-self.false in
    let size = c.len.ensures ∙ c.self.inside.open.ok.0 in
    let first : Progress = record { line = c.args.line; taken = c.args.holds; closing = false } in
    let seen = ap seen_of c.push_reserved.ensures.items ∙ seen-push stored (record { line = c.args.line; taken = c.args.holds; closing = false }) in
    let by_open : List Progress → ConditionsView = λ x. record { open_now = x; skipped = skipped; limit = most } in
    let by_skipped : Option ℕ → ConditionsView = λ k. record { open_now = first ∷ seen_of stored; skipped = k; limit = most } in
    record {
      test = opens_one now c.args.holds (omega arith);
      becomes = ap by_open seen ∙ ap by_skipped c.skipped_by-self-inside.ensures ∙ ap (opened_with c.args.line c.args.holds) c.self.view_is;
    }
