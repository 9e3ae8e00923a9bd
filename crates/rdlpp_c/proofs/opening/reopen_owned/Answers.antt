use Rattle.std.proofs.Common.{ℕ, List, Err, Ok, subst}
use Rattle.rdlpp.specs.Opening.{Reopens, ReopensOutput}
use Rattle.rdlpp.specs.Preprocess.{output_of}
use Rattle.rdlpp_c.specs.Streaming.{owned_sources}
use Rattle.rdlpp_c.proofs.Reopens.{declined_again, streams_again}
use Rattle.rdlpp_c.proofs.opening.reopen_owned.Goals as goal

pub returns-in-Err-clause-opens : goal.returns-in-Err-clause-opens
returns-in-Err-clause-opens c =
    declined_again c.args.owned c.reopen_reading.new.reading c.in-Err.fault
    (subst (λ (p : List ℕ). Reopens owned_sources c.args.owned.options c.args.owned.sources p c.reopen_reading.new.reading (Err c.in-Err.fault)) c.as_str.ensures.value c.in-Err.ensures.opens)

pub returns-clause-opens : goal.returns-clause-opens
returns-clause-opens c =
    streams_again c.args.owned c.reopen_reading.new.reading c.begin.new.self
    (subst (λ (p : List ℕ). Reopens owned_sources c.args.owned.options c.args.owned.sources p c.reopen_reading.new.reading (Ok tt)) c.as_str.ensures.value c.in_default.ensures.opens)
    (subst (λ (p : List ℕ). ReopensOutput owned_sources (output_of owned_sources c.args.owned.options c.args.owned.sources p) c.reopen_reading.new.reading (Ok tt)) c.as_str.ensures.value (c.in_default.ensures.output tt))
    c.begin.ensures.reading c.begin.ensures.path c.begin.ensures.pieces
