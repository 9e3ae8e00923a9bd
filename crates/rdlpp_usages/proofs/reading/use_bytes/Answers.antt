use Rattle.std.proofs.Common.{◌≡◌, length, take, ap, ◌∙◌, arith, length-take}
use Rattle.rdlpp_scan.specs.SourceTokens.{line_ends}
use Rattle.rdlpp_read.specs.Buffer.{held_of}
use Rattle.rdlpp_read.specs.Files.{inner_buffer}
use Rattle.rdlpp_read.proofs.Growing.{line_ends_le}
use Rattle.rdlpp_usages.proofs.CallLoop.{entered_held, used_files}
use Rattle.rdlpp_usages.proofs.reading.use_bytes.Goals as goal

pub consume-requires-clause-inside : goal.consume-requires-clause-inside
consume-requires-clause-inside g c =
    let same = ap (λ f. length (held_of (inner_buffer f.include_stack))) c.enter_mode.ensures ∙ ap length (entered_held c.args.next c.args.files.now.include_stack) in
    let inside = c.requires.inside in
    omega (arith, same)

pub consume-requires-clause-lines : goal.consume-requires-clause-lines
consume-requires-clause-lines g c =
    omega (arith, c.line_ends_in-lines.ensures, line_ends_le (take c.args.len c.held.result.now), length-take c.args.len c.held.result.now)

pub returns : goal.returns
returns g c =
    let lines : c.line_ends_in-lines.result ≡ line_ends (take c.args.len (held_of (inner_buffer c.args.files.now.include_stack))) =
    c.line_ends_in-lines.ensures ∙ ap (λ z. line_ends (take c.args.len z)) (c.held.ensures.value ∙ ap held_of c.file.ensures.buffer) in
    used_files c.args.len c.line_ends_in-lines.result c.args.next c.args.files.now c.enter_mode.new.self c.consume.new.self c.enter_mode.ensures c.consume.ensures.used lines
