use Rattle.std.proofs.Common.{◌+◌, ◌≤◌, length, arith}
use Rattle.std.proofs.lemmas.List.{length-drop, take_rest}
use Rattle.rdlpp_front.specs.Arguments.{IsClosedString}
use Rattle.rdlpp_front.proofs.Insides.{stands_there}
use Rattle.rdlpp_front.proofs.arguments.string_after.Goals as goal

pub returns : goal.returns
returns c =
    let held = c.args.held.now in
    let start = c.args.word_len + c.lead_of.result in
    let inside : start + c.closed_string-len.result ≤ length held = omega (arith, c.requires, c.lead_of.ensures.inside, c.closed_string-len.ensures.inside, take_rest held c.args.word_len, take_rest held start, length-drop c.args.word_len held, length-drop start held) in
    stands_there IsClosedString held c.args.word_len c.lead_of.result c.closed_string-len.result c.requires c.lead_of.ensures.lead c.if-len-eq0.false c.closed_string-len.ensures.string inside
