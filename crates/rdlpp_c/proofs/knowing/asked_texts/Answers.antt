use Rattle.std.proofs.lemmas.Result.{err_from_is_err_and}
use Rattle.rdlpp_c.proofs.Onces.{knows_more}
use Rattle.rdlpp_c.proofs.knowing.asked_texts.Goals as goal

pub returns-in_err-add_text : goal.returns-in_err-add_text
returns-in_err-add_text c =
    let p = err_from_is_err_and c.from_residual.result c.from_residual.ensures.1 in
    rw (p.1, p.2) (λ e all. c.in_err-add_text.ensures e (all c.loop-text.text-index _ c.loop-text-test.true))

pub loop-text-preserved : goal.loop-text-preserved
loop-text-preserved c =
    knows_more c.args.texts.now c.loop-text.text-index _ c.loop-text.sources c.add_text.new.sources c.loop-text-test.true c.loop-text.invariant c.in_ok-add_text.ensures
