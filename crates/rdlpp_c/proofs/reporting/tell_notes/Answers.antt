use Rattle.std.proofs.Common.{Option, inl, subst}
use Rattle.rdlpp_meaning.specs.Outcome.{Report}
use Rattle.rdlpp_c.specs.Reporting.{Notes}
use Rattle.rdlpp_c.proofs.reporting.tell_notes.Goals as goal

pub returns-in-Ok : goal.returns-in-Ok
returns-in-Ok c = subst (λ (o : Option Report). Notes o c.args.out.now c.tell_text.new.to c.tell_text.result) c.in-Some.ensures (_, inl c.tell_text.ensures)
