-- The folders so far were made.
use Rattle.std.proofs.Common.{◌≡◌, map, take}
use Rattle.rdlpp_c.proofs.asking.folders_of.Given as goal

abbrev pub invariant-loop-folder : goal.invariant-loop-folder
invariant-loop-folder l = map (λ path. path.now) l.paths.items ≡ map (λ folder. folder.path.now) (take l.folder-index l.folders)
