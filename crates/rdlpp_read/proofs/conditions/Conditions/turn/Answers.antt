use Rattle.std.proofs.Common.{◌≡◌, ◌-◌, ◌||◌, ℕ, List, length, Option, sym, ap, ◌∙◌, refl, arith, set}
use Rattle.rdlpp_meaning.specs.Meaning.{Progress, is_else}
use Rattle.rdlpp_read.specs.Conditions.{ConditionsView, seen_of}
use Rattle.rdlpp_read.specs.ConditionMoves.{turned_open, turned_with}
use Rattle.rdlpp_read.specs.declared.conditions.Progress.{Progress as StoredProgress}
use Rattle.rdlpp_read.proofs.ConditionStacks.{count_seen, turned_seen}
use Rattle.rdlpp_read.proofs.conditions.Conditions.turn.Goals as goal
use Rattle.rdlpp_read.proofs.conditions.Conditions.turn.Goals.{then-progress, else-progress}

pub overflow_sub-last : goal.overflow_sub-last
overflow_sub-last c =
    let count = count_seen c.self.inside.open.items c.args.self.now.open_now c.len-last.result (ap (λ (v : ConditionsView). v.open_now) c.self.view_is) (c.len-last.ensures ∙ c.self.inside.open.ok.0) in
    omega (arith, count, c.requires)

pub index-progress-requires : goal.index-progress-requires
index-progress-requires c =
    let count = count_seen c.self.inside.open.items c.args.self.now.open_now c.len-last.result (ap (λ (v : ConditionsView). v.open_now) c.self.view_is) (c.len-last.ensures ∙ c.self.inside.open.ok.0) in
    omega (arith, count, c.requires, c.len-last.ensures)

pub index_mut-requires : goal.index_mut-requires
index_mut-requires c =
    let count = count_seen c.self.inside.open.items c.args.self.now.open_now c.len-last.result (ap (λ (v : ConditionsView). v.open_now) c.self.view_is) (c.len-last.ensures ∙ c.self.inside.open.ok.0) in
    omega (arith, count, c.requires, c.len-last.ensures)

pub returns : goal.returns
returns c =
    let now = c.args.self.now in
    let stored = c.self.inside.open.items in
    let most = c.self.inside.limit in
    let n = c.len-last.result in
    let size : n ≡ length stored = c.len-last.ensures ∙ c.self.inside.open.ok.0 in
    let count = count_seen stored now.open_now n (ap (λ (v : ConditionsView). v.open_now) c.self.view_is) size in
    let old = c.index-progress.result.now in
    let taken : c.if-progress.turned ≡ (old.taken || c.args.holds) = elim c.if-progress.branch [
      | then-progress w ↦ w.turned-is ∙ w.if-progress.true ∙ sym (ap (λ t. t || c.args.holds) w.if-progress.true)
      | else-progress w ↦ w.turned-is ∙ sym (ap (λ t. t || c.args.holds) w.if-progress.false)
    ] in
    let next : StoredProgress = record { line = old.line; taken = c.if-progress.turned; closing = c.is_else.result } in
    let turns : next ≡ record { line = old.line; taken = old.taken || c.args.holds; closing = is_else c.args.word } =
    ap (λ t. record { line = old.line; taken = t; closing = c.is_else.result }) taken
    ∙ ap (λ b. record { line = old.line; taken = old.taken || c.args.holds; closing = b }) c.is_else.ensures in
    let seen = turned_seen stored (set stored (n - 1) next) n old next c.args.word c.args.holds size (omega (arith, count, c.requires)) c.index-progress.ensures turns refl in
    let by_open : List Progress → ConditionsView = λ x. record { open_now = x; skipped = c.skipped_by-self-inside.result; limit = most } in
    let by_skipped : Option ℕ → ConditionsView = λ k. record { open_now = turned_open c.args.word c.args.holds (seen_of stored); skipped = k; limit = most } in
    ap by_open seen ∙ ap by_skipped c.skipped_by-self-inside.ensures ∙ ap (turned_with c.args.word c.args.holds) c.self.view_is
