use Rattle.std.proofs.Common.{◌≡◌, ◌∙◌, ap, take, length, min, arith}
use Rattle.std.proofs.lemmas.List.{take_min}
use Rattle.rdlpp_define.proofs.Words.{words-utf8}
use Rattle.rdlpp_define.proofs.name.word_of.Goals as goal

pub returns-in-Ok : goal.returns-in-Ok
returns-in-Ok c =
    let first : take c.min.result c.args.name.now ≡ take 128 c.args.name.now =
    let turned : c.min.result ≡ min 128 (length c.args.name.now) = omega arith in
    ap (λ n. take n c.args.name.now) turned ∙ take_min 128 c.args.name.now in
    c.push_str.ensures.bytes ∙ rw c.new-word.ensures (c.in-Ok.ensures.cases.0 ∙ first)

pub returns-in_default : goal.returns-in_default
returns-in_default c =
    absurd (c.in_default.ensures.cases.0 (words-utf8 c.min.result c.args.name.now c.requires))
