-- The folders so far were kept.
use Rattle.std.proofs.Common.{◌≡◌, map, take, string_bytes}
use Rattle.rdlpp_source.proofs.folders.Folders.new.Given as goal

abbrev pub invariant-loop-folder : goal.invariant-loop-folder
invariant-loop-folder g l = map string_bytes l.kept.items ≡ map (λ folder. folder.now) (take l.folder-index l.folders)
