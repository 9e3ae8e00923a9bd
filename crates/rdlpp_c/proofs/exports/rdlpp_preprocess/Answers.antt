use Rattle.rdlpp_c.proofs.Outputs.{buffers_told}
use Rattle.rdlpp_c.proofs.exports.rdlpp_preprocess.Goals as goal

pub returns : goal.returns
returns c =
    let g = c.answer_of-answer.ensures in
    record {
      answer = c.answer_of-answer.result;
      bytes = g.bytes;
      comes = g.comes;
      numbers = c.outcome_of.ensures;
      buffers = buffers_told c.answer_of-answer.result g.bytes _ _ g.front c.tell_fault.ensures.name c.tell_fault.ensures.word;
    }
