-- The search for a path answers as it ended within, and gives the answer of the catalog.
use Rattle.rdlpp_source.specs.Asked.{search_at, wanted_of}
use Rattle.rdlpp_source.proofs.Searches.{answers_of, finds_top, top_unfailed}
use Rattle.rdlpp_source.proofs.asked.AskedTextsSources.top.Goals as goal

pub returns-clause-answer : goal.returns-clause-answer
returns-clause-answer c =
    answers_of (search_at c.args.self.now c.args.path.now) c.open_in-answer.result c.ended.result (wanted_of c.ended.new.self)
    c.open_in-answer.ensures c.ended.ensures.answer

pub returns-clause-finds : goal.returns-clause-finds
returns-clause-finds c = finds_top c.args.self.now c.args.path.now c.ended.result (wanted_of c.ended.new.self) (returns-clause-answer c)

pub returns-clause-unasked : goal.returns-clause-unasked
returns-clause-unasked c asks = top_unfailed c.args.self.now c.args.path.now c.ended.result (wanted_of c.ended.new.self) asks (returns-clause-answer c)
