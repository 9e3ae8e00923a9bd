use Rattle.std.proofs.Common.{◌≡◌, ◌+◌, ◌-◌, ◌∙◌, length, take, drop, refl, sym, ap, arith, List, ℕ, [], None}
use Rattle.std.proofs.lemmas.Slice.{between_to_end}
use Rattle.rdlpp_scan.specs.declared.token.Mode.TheVariants.{Plain}
use Rattle.rdlpp_scan.specs.Tokens.{tokens_from}
use Rattle.rdlpp_texts.specs.TextItems.{run_len}
use Rattle.rdlpp_texts.proofs.PlainRuns.{run_after, run_found}
use Rattle.rdlpp_texts.proofs.Stopping.{run_searched}
use Rattle.rdlpp_texts.proofs.peek.run_len.Goals as goal

pub returns-in_default-clause-value : goal.returns-in_default-clause-value
returns-in_default-clause-value c = run_searched c.args.text.now None refl c.in_default.ensures

pub returns-in-None-clause-value : goal.returns-in-None-clause-value
returns-in-None-clause-value c =
    run_found c.args.text.now c.in-Some.at c.memchr2.result c.in-Some.ensures c.in-None.is c.memchr2.ensures

pub returns-in-Some-memchr2-clause-value : goal.returns-in-Some-memchr2-clause-value
returns-in-Some-memchr2-clause-value c =
    let text = c.args.text.now in
    let near = c.in-Some-memchr2.near in
    let p = run_after text c.in-Some.at near c.memchr2.result c.in-Some.ensures c.in-Some-memchr2.is c.memchr2.ensures in
    let rest : take (length text - near) (drop near text) ≡ drop near text = between_to_end text near (length text) (omega (arith, p.0)) in
    ap (λ (n : ℕ). near + n) c.run_by_tokens.ensures.value ∙ ap (λ (bs : List ℕ). near + run_len [] (tokens_from Plain 0 bs) bs) rest ∙ sym p.1
