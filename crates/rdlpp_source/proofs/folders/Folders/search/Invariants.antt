-- None of the candidates so far is too long, and those of the folders from here on are left.
use Rattle.std.proofs.Common.{◌≡◌, ℕ, map, drop, string_bytes}
use Rattle.rdlpp_source.specs.Search.{candidates, folders_left, joined_path}
use Rattle.rdlpp_source.specs.Folders.{AreShort, include_folders}
use Rattle.rdlpp_source.proofs.folders.Folders.search.Given as goal

abbrev pub invariant-loop-folder : goal.invariant-loop-folder
invariant-loop-folder g l =
    let paths = candidates (include_folders l.self) l.from l.name in
    (tried : ℕ) × AreShort paths tried × (map (λ folder. joined_path folder l.name) (folders_left string_bytes l.folder-iterator) ≡ drop tried paths)
