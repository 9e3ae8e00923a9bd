use Rattle.std.proofs.Common.{◌≡◌, ◌∙◌, ap, length, arith, unwrap_or}
use Rattle.rdlpp_scan.proofs.SourceLaws.{line_len-ended, line_len-le}
use Rattle.rdlpp_scan.specs.SourceTokens.{line_len}
use Rattle.rdlpp_scan.proofs.lines.line_len.Goals as goal

pub returns-clause-value : goal.returns-clause-value
returns-clause-value c =
    c.unwrap_or.ensures ∙ ap (λ o. unwrap_or o (length c.args.bytes.now)) c.rest_of_line.ensures ∙ line_len-ended c.args.bytes.now

pub returns-clause-inside : goal.returns-clause-inside
returns-clause-inside c =
    let e : c.unwrap_or.result ≡ line_len c.args.bytes.now =
    c.unwrap_or.ensures ∙ ap (λ o. unwrap_or o (length c.args.bytes.now)) c.rest_of_line.ensures ∙ line_len-ended c.args.bytes.now in
    omega (arith, e, line_len-le c.args.bytes.now)
