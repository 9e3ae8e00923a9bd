-- The definitions so far were made.
use Rattle.std.proofs.Common.{◌≡◌, map, take}
use Rattle.rdlpp_c.specs.Request.{definition_bytes, definition_given}
use Rattle.rdlpp_c.proofs.asking.definitions_of.Given as goal

abbrev pub invariant-loop-definition : goal.invariant-loop-definition
invariant-loop-definition l = map definition_bytes l.made.items ≡ map definition_given (take l.definition-index l.definitions)
