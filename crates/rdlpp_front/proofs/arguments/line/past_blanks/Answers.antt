use Rattle.std.proofs.Common.{◌∙◌, ap, drop}
use Rattle.std.proofs.lemmas.List.{take_rest}
use Rattle.rdlpp_meaning.specs.Meaning.{past_blank_bytes}
use Rattle.rdlpp_front.proofs.arguments.line.past_blanks.Goals as goal

pub returns : goal.returns
unfolding past_blank_bytes
returns c = take_rest c.args.bytes.now c.blanks.result ∙ ap (λ n. drop n c.args.bytes.now) c.blanks.ensures.value
