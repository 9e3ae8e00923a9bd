-- What the folders from here on come to is what all come to.
use Rattle.std.proofs.Common.{◌≡◌, map, string_bytes}
use Rattle.rdlpp_source.specs.Search.{folders_left, joined_path}
use Rattle.rdlpp_source.specs.Asked.{first_search, search_of}
use Rattle.rdlpp_source.proofs.asked.AskedTexts.open_named.Given as goal

abbrev pub invariant-loop-folder : goal.invariant-loop-folder
invariant-loop-folder l =
    first_search l.self (map (λ folder. joined_path folder l.name) (folders_left string_bytes l.folder-iterator)) ≡ search_of l.self l.from l.name
