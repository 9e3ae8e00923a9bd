use Rattle.std.proofs.Common.{◌≡◌, ◌∷◌, List, drop, length, sym, ap, ◌∙◌, arith}
use Rattle.rdlpp_meaning.specs.Meaning.{Progress}
use Rattle.rdlpp_read.specs.Conditions.{ConditionsView, progress_of, seen_of}
use Rattle.rdlpp_read.proofs.ConditionStacks.{count_seen, innermost_seen}
use Rattle.rdlpp_read.proofs.conditions.Conditions.innermost.Goals as goal

pub overflow_sub-len : goal.overflow_sub-len
overflow_sub-len c =
    let seen = ap (λ (v : ConditionsView). v.open_now) c.self.view_is in
    let count = count_seen c.self.inside.open.items c.args.self.now.open_now c.len.result seen (c.len.ensures ∙ c.self.inside.open.ok.0) in
    omega (arith, count, c.requires)

pub index-requires : goal.index-requires
index-requires c =
    let seen = ap (λ (v : ConditionsView). v.open_now) c.self.view_is in
    let count = count_seen c.self.inside.open.items c.args.self.now.open_now c.len.result seen (c.len.ensures ∙ c.self.inside.open.ok.0) in
    omega (arith, count, c.requires, c.len.ensures)

pub returns : goal.returns
returns c =
    let stored = c.self.inside.open.items in
    let seen : seen_of stored ≡ c.args.self.now.open_now = ap (λ (v : ConditionsView). v.open_now) c.self.view_is in
    let size : c.len.result ≡ length stored = c.len.ensures ∙ c.self.inside.open.ok.0 in
    let count = count_seen stored c.args.self.now.open_now c.len.result seen size in
    ap (λ (x : List Progress). progress_of c.index.result.now ∷ drop 1 x) (sym seen)
    ∙ innermost_seen stored c.len.result c.index.result.now size (omega (arith, count, c.requires)) c.index.ensures
    ∙ seen
