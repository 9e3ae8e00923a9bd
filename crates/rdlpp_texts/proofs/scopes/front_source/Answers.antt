use Rattle.rdlpp_texts.proofs.Scoping.{front-actual, front-other}
use Rattle.rdlpp_texts.proofs.scopes.front_source.Goals as goal

pub returns-in-Actual : goal.returns-in-Actual
returns-in-Actual c bindings = front-actual c.args.frames.now bindings _ _ c.requires c.index-frames-0.is c.in-Actual.is c.source_at.ensures

pub returns-in_default : goal.returns-in_default
returns-in_default c bindings = front-other c.args.frames.now bindings _ _ c.requires c.index-frames-0.is c.in_default.not-Actual c.source_of.ensures
