use Rattle.std.proofs.Common.{◌≤◌, ◌≡◌, length, List, ◌==◌}
use Rattle.std.specs.List.{list_any}
use Rattle.rdlpp_texts.specs.declared.bindings.Range.{Range}
use Rattle.rdlpp_texts.specs.Opened.{opens_of}
use Rattle.rdlpp_texts.specs.Scopes.{hidden_ids}
use Rattle.rdlpp_texts.proofs.scopes.is_hidden.Given as goal

abbrev pub invariant-loop-at : goal.invariant-loop-at
invariant-loop-at l =
    (l.at ≤ length l.frames)
    × ((bindings : List Range) → list_any (λ own. l.id == own) (hidden_ids (opens_of l.frames bindings) l.at) ≡ list_any (λ own. l.id == own) (hidden_ids (opens_of l.frames bindings) l.scope))

abbrev pub decreases-loop-at : goal.decreases-loop-at
decreases-loop-at l = l.at
