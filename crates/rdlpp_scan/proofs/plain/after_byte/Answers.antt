use Rattle.std.proofs.Common.{rules, ◌+◌, ◌∙◌, ap, arith}
use Rattle.rdlpp_scan.proofs.SourceLaws.{line_ends-most}
use Rattle.rdlpp_scan.proofs.TokenLens.{inert_through}
use Rattle.rdlpp_scan.proofs.plain.after_byte.Goals as goal

pub overflow_add-result-2 : goal.overflow_add-result-2
overflow_add-result-2 c =
    let most = line_ends-most c.args.bytes.now (c.args.run.len + 1) in
    let new = c.line_end_at.ensures in
    let old = c.requires.passed.ends in
    let inside = c.requires.some in
    let fits = c.type_inv.bytes in
    search rules

pub returns-clause-passed : goal.returns-clause-passed
returns-clause-passed c = record {
  inside = omega (arith, c.requires.some);
  plain = inert_through c.args.bytes.now c.args.run.len c.requires.passed.plain c.requires.goes_on;
  ends = ap (λ n. n + c.line_end_at.result) c.requires.passed.ends ∙ c.line_end_at.ensures;
}
