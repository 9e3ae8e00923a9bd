use Rattle.std.proofs.Common.{◌++◌, ap}
use Rattle.rdlpp_source.specs.declared.asked.AskedTexts.{AskedTexts}
use Rattle.rdlpp_c.proofs.Onces.{give_moved, refusal_moved, same_marks}
use Rattle.rdlpp_c.proofs.once.Once.give.Goals as goal

pub returns-clause-gives : goal.returns-clause-gives
returns-clause-gives c =
    give_moved _ _ c.free.new.self c.args.self.now c.free.ensures.sources.frees (same_marks _ _ c.free.ensures.only) c.tell.new.sources c.tell.new.self
    _ _ c.args.path.now (c.args.parts.items ++ c.args.text.now) c.tell.result (ap (λ (s : AskedTexts). s.asks) c.free.ensures.sources.only) c.tell.ensures.gives

pub returns-clause-refused : goal.returns-clause-refused
returns-clause-refused c =
    refusal_moved _ _ c.free.new.self c.args.self.now c.free.ensures.sources.frees (same_marks _ _ c.free.ensures.only) c.tell.new.sources c.tell.new.self
    c.tell.result c.tell.ensures.refused
