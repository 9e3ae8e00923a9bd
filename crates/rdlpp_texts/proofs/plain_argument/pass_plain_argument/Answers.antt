use Rattle.std.proofs.Common.{refl, arith}
use Rattle.rdlpp_texts.proofs.PlainRuns.{other_dark}
use Rattle.rdlpp_texts.proofs.plain_argument.pass_plain_argument.Goals as goal

pub returns-in_default : goal.returns-in_default
returns-in_default c = record {
  order = omega arith;
  inside = c.requires;
  dark = other_dark c.args.mode _ c.in_default.not-Plain;
  same = λ closes start. refl;
}
