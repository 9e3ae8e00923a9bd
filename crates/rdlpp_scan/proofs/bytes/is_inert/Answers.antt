use Rattle.std.proofs.Common.{refl, arith}
use Rattle.rdlpp_scan.specs.declared.bytes.TheConstants.{CLASSES}
use Rattle.rdlpp_scan.specs.Bytes.{is_inert, is_letter, is_digit, takes_word}
use Rattle.rdlpp_scan.proofs.TokenLens.{agree_below, told}
use Rattle.rdlpp_scan.proofs.bytes.is_inert.Goals as goal

pub returns : goal.returns
unfolding agree_below is_inert is_letter is_digit takes_word
returns c = told CLASSES 2 is_inert c.args.b (omega arith) refl
