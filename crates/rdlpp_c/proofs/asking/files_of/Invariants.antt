-- The sources so far were made.
use Rattle.std.proofs.Common.{◌≡◌, map, take}
use Rattle.rdlpp_c.specs.Request.{file_bytes, text_given}
use Rattle.rdlpp_c.proofs.asking.files_of.Given as goal

abbrev pub invariant-loop-text : goal.invariant-loop-text
invariant-loop-text l = map file_bytes l.files.items ≡ map text_given (take l.text-index l.texts)
