-- The search for a name answers as it ended within, and gives the answer of the catalog.
use Rattle.rdlpp_source.specs.Asked.{search_of, wanted_of}
use Rattle.rdlpp_source.proofs.Searches.{answers_of, finds_named, named_unfailed}
use Rattle.rdlpp_source.proofs.asked.AskedTextsSources.find.Goals as goal

pub returns-clause-answer : goal.returns-clause-answer
returns-clause-answer c =
    answers_of (search_of c.args.self.now c.args.from.now c.args.name.now) c.open_named-answer.result c.ended.result (wanted_of c.ended.new.self)
    c.open_named-answer.ensures c.ended.ensures.answer

pub returns-clause-finds : goal.returns-clause-finds
returns-clause-finds c = finds_named c.args.self.now c.args.from.now c.args.name.now c.ended.result (wanted_of c.ended.new.self) (returns-clause-answer c)

pub returns-clause-unasked : goal.returns-clause-unasked
returns-clause-unasked c asks = named_unfailed c.args.self.now c.args.from.now c.args.name.now c.ended.result (wanted_of c.ended.new.self) asks (returns-clause-answer c)
