use Rattle.std.proofs.Common.{refl, arith}
use Rattle.rdlpp_scan.specs.declared.bytes.TheConstants.{CLASSES}
use Rattle.rdlpp_scan.specs.Bytes.{is_word, is_letter, is_digit}
use Rattle.rdlpp_scan.proofs.TokenLens.{agree_below, told}
use Rattle.rdlpp_scan.proofs.bytes.is_word.Goals as goal

pub returns : goal.returns
unfolding agree_below is_word is_letter is_digit
returns c = told CLASSES 1 is_word c.args.b (omega arith) refl
