-- What the folders from here on come to is what all come to.
use Rattle.std.proofs.Common.{◌≡◌, map}
use Rattle.rdlpp_source.specs.Search.{candidates, first_answer, folders_left, joined_path}
use Rattle.rdlpp_source.specs.Texts.{text_at, folders_of}
use Rattle.rdlpp_source.proofs.texts.TextsSources.find.Given as goal

abbrev pub invariant-loop-folder : goal.invariant-loop-folder
invariant-loop-folder l =
    first_answer (text_at l.self) (map (λ folder. joined_path folder l.name) (folders_left (λ f. f.now) l.folder-iterator))
    ≡ first_answer (text_at l.self) (candidates (folders_of l.self) l.from l.name)
