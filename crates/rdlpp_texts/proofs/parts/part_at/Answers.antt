use Rattle.std.proofs.Common.{◌∙◌, sym}
use Rattle.rdlpp_texts.proofs.QuickTokens.{word_at, comma_part, closed_part}
use Rattle.rdlpp_texts.proofs.parts.part_at.Goals as goal

pub returns-then-next-eq44 : goal.returns-then-next-eq44
returns-then-next-eq44 c =
    let text = c.args.text.now in
    let word = c.word_bytes.ensures in
    comma_part c.args.closes text c.args.from c.word_bytes.result (word_at text c.args.from c.word_bytes.result c.requires word.value word.inside)
    (sym c.byte_at-next.ensures.value ∙ c.if-next-eq44.true)

pub returns-then-next-eq41 : goal.returns-then-next-eq41
returns-then-next-eq41 c =
    let text = c.args.text.now in
    let word = c.word_bytes.ensures in
    closed_part c.args.closes text c.args.from c.word_bytes.result c.if-closes.true (word_at text c.args.from c.word_bytes.result c.requires word.value word.inside)
    (sym c.byte_at-next.ensures.value ∙ c.if-next-eq41.true)
