use Rattle.std.proofs.Common.{arith, ◌<◌, ◌≤◌, length, subst, sym}
use Rattle.rdlpp_scan.specs.declared.token.Kind.{Kind}
use Rattle.rdlpp_scan.specs.declared.token.Token.{Token}
use Rattle.rdlpp_scan.specs.TokenParts.{stop_of}
use Rattle.rdlpp_scan.proofs.TokenLens.{token_of-part}
use Rattle.rdlpp_scan.proofs.StopKinds.{built_token, stop_room}
use Rattle.rdlpp_scan.proofs.Seams.{tokens_of_cuts}
use Rattle.rdlpp_scan.proofs.scan.first_token.Goals as goal

pub returns-clause-value : goal.returns-clause-value
returns-clause-value c =
    sym (built_token c.args.mode c.args.bytes.now _ _ _ _ c.kind_of-kind.ensures c.stop_of-stop.ensures c.mode_after-next_mode.ensures c.len_of-len.ensures)

pub returns-clause-not_empty : goal.returns-clause-not_empty
returns-clause-not_empty c =
    subst (λ (t : Token). 0 < t.len)
    (built_token c.args.mode c.args.bytes.now _ _ _ _ c.kind_of-kind.ensures c.stop_of-stop.ensures c.mode_after-next_mode.ensures c.len_of-len.ensures)
    (token_of-part c.args.mode c.args.bytes.now c.requires).not_empty

pub returns-clause-inside : goal.returns-clause-inside
returns-clause-inside c =
    subst (λ (t : Token). t.len ≤ length c.args.bytes.now)
    (built_token c.args.mode c.args.bytes.now _ _ _ _ c.kind_of-kind.ensures c.stop_of-stop.ensures c.mode_after-next_mode.ensures c.len_of-len.ensures)
    (token_of-part c.args.mode c.args.bytes.now c.requires).inside

pub returns-clause-pieces : goal.returns-clause-pieces
returns-clause-pieces c = tokens_of_cuts

pub len_of-len-requires : goal.len_of-len-requires
len_of-len-requires c =
    let stop = c.stop_of-stop.ensures in
    let kind = c.kind_of-kind.ensures in
    let room = subst (λ (k : Kind). stop_of c.args.mode k c.args.bytes.now ≤ length c.args.bytes.now) (sym kind) (stop_room c.args.mode c.args.bytes.now c.requires) in
    let short = c.type_inv.bytes in
    omega arith
