-- The folders so far were made.
use Rattle.std.proofs.Common.{◌≡◌, map, take, string_bytes}
use Rattle.rdlpp_c.proofs.opening.owned_folders.Given as goal

abbrev pub invariant-loop-folder : goal.invariant-loop-folder
invariant-loop-folder l = map string_bytes l.paths.items ≡ map (λ folder. folder.path.now) (take l.folder-index l.folders)
