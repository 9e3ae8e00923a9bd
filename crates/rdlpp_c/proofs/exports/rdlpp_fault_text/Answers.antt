use Rattle.std.proofs.Common.{subst}
use Rattle.rdlpp_c.specs.Telling.{TellsText}
use Rattle.rdlpp_c.proofs.Quiet.{no_text, text_numbered}
use Rattle.rdlpp_c.proofs.exports.rdlpp_fault_text.Goals as goal

pub returns : goal.returns
returns c = record {
  tells = subst (λ text. TellsText text c.args.out.now c.tell_text.new.to c.tell_text.result) c.text_of.ensures c.tell_text.ensures;
  own = text_numbered c.args.number;
  none = no_text c.args.number;
}
