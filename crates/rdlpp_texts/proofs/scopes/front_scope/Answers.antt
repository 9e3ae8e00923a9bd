use Rattle.rdlpp_texts.proofs.Scoping.{scope-actual, scope-other}
use Rattle.rdlpp_texts.proofs.scopes.front_scope.Goals as goal

pub returns-in-Actual : goal.returns-in-Actual
returns-in-Actual c bindings = scope-actual _ bindings _ c.requires c.index-frames-0.is c.in-Actual.is

pub returns-in_default : goal.returns-in_default
returns-in_default c bindings = scope-other _ bindings _ c.requires c.index-frames-0.is c.in_default.not-Actual
