use Rattle.std.proofs.Common.{◌∙◌, ap, arith}
use Rattle.std.proofs.lemmas.List.{take_rest}
use Rattle.rdlpp_meaning.specs.Meaning.{past_blank_bytes}
use Rattle.rdlpp_front.proofs.LineArguments.{level_digit, level_none, level_other}
use Rattle.rdlpp_front.proofs.arguments.line.is_level.Goals as goal
use Rattle.rdlpp_front.proofs.arguments.line.is_level.Goals.{then-is_empty-via-then-is_empty, then-is_empty-via-else-is_empty+then-bytes-lt48, then-is_empty-via-else-is_empty+else-bytes-lt48+then-bytes-gt50}

pub returns-then-is_empty-2 : goal.returns-then-is_empty-2
returns-then-is_empty-2 c =
    let text = c.args.bytes.now in
    let rest = c.past_blanks-rest.ensures ∙ ap past_blank_bytes (take_rest text 1) in
    grind (arith, level_digit)

pub returns-else-is_empty-2 : goal.returns-else-is_empty-2
returns-else-is_empty-2 c =
    let text = c.args.bytes.now in
    let rest = c.past_blanks-rest.ensures ∙ ap past_blank_bytes (take_rest text 1) in
    grind (arith, level_digit)

pub returns-then-is_empty : goal.returns-then-is_empty
returns-then-is_empty c = grind (arith, then-is_empty-via-then-is_empty, level_none, then-is_empty-via-else-is_empty+then-bytes-lt48, level_other, then-is_empty-via-else-is_empty+else-bytes-lt48+then-bytes-gt50)
