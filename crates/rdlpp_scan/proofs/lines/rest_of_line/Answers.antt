use Rattle.std.proofs.Common.{Some, suc, ap, sym, ◌∙◌, arith, option_map}
use Rattle.rdlpp_scan.proofs.TokenLens.{ended_line_len-search}
use Rattle.rdlpp_scan.proofs.lines.rest_of_line.Goals as goal

pub returns-in_err-memchr : goal.returns-in_err-memchr
returns-in_err-memchr c =
    let found = ended_line_len-search c.args.bytes.now c.memchr.result c.memchr.ensures in
    c.from_residual.ensures ∙ sym (ap (option_map suc) c.in_err-memchr.was) ∙ found

pub returns : goal.returns
returns c =
    let found = ended_line_len-search c.args.bytes.now c.memchr.result c.memchr.ensures in
    ap Some (omega arith) ∙ sym (ap (option_map suc) c.in_ok-memchr.was) ∙ found
