-- At first the folders are those of all candidates.
use Rattle.std.proofs.Common.{◌∙◌, ap, map, string_bytes}
use Rattle.rdlpp_source.specs.Asked.{first_search}
use Rattle.rdlpp_source.specs.Search.{candidates, folders_left, joined_path}
use Rattle.rdlpp_source.proofs.asked.AskedTexts.open_named.Goals as goal

pub loop-folder-init : goal.loop-folder-init
loop-folder-init c =
    let texts = c.args.self.now in
    let name = c.args.name.now in
    ap (λ s. first_search texts (map (λ folder. joined_path folder name) (folders_left string_bytes s))) c.into_iter-folder-iterator.ensures.into_iter_gives
    ∙ ap (first_search texts) c.of-folder-items.ensures
    ∙ ap (λ items. first_search texts (candidates (map string_bytes items) c.args.from.now name)) c.as_slice.ensures.value
