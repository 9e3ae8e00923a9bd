-- Each candidate before the one that the search comes to is short.
use Rattle.std.proofs.Common.{rules, ◌≡◌, false, true, suc, map, sym, ap, ◌∙◌, string_bytes}
use Rattle.rdlpp_source.specs.Search.{candidates, folders_left, joined_path}
use Rattle.rdlpp_source.specs.Sources.{is_absent}
use Rattle.rdlpp_source.specs.Folders.{include_folders}
use Rattle.rdlpp_source.proofs.FolderSearches.{all_tried, in_folder, none_before, searches_one, short_all, short_more}
use Rattle.rdlpp_source.proofs.folders.Folders.search.Goals as goal

pub loop-folder-init : goal.loop-folder-init
loop-folder-init g c =
    let name = c.args.name.now in
    let paths = candidates (include_folders c.args.self.now) c.args.from.now name in (
      0,
      none_before paths,
      ap (λ s. map (λ folder. joined_path folder name) (folders_left string_bytes s)) c.into_iter-folder-iterator.ensures.into_iter_gives
          ∙ c.of-folder-items.ensures
          ∙ ap (λ items. candidates (map string_bytes items) c.args.from.now name) c.as_slice.ensures.value,
    )

pub returns-then-not-is_absent-clause-paths : goal.returns-then-not-is_absent-clause-paths
returns-then-not-is_absent-clause-paths g c =
    let name = c.args.name.now in
    let paths = candidates (include_folders c.args.self.now) c.args.from.now name in
    let folder = c.in-Some.folder.now in
    let invariant = c.loop-folder.invariant in
    let here = in_folder paths _ (folders_left string_bytes c.next.new.self) name folder invariant.0 invariant.2 c.in-Some.ensures.steps in
    let found : is_absent c.open_in-answer.result ≡ false = search rules in
    searches_one paths c.open_in-answer.result found (joined_path folder name, invariant.0, here.0, invariant.1, c.open_in-answer.ensures.path)

pub loop-folder-preserved : goal.loop-folder-preserved
loop-folder-preserved g c =
    let name = c.args.name.now in
    let paths = candidates (include_folders c.args.self.now) c.args.from.now name in
    let folder = c.in-Some.folder.now in
    let invariant = c.loop-folder.invariant in
    let here = in_folder paths _ (folders_left string_bytes c.next.new.self) name folder invariant.0 invariant.2 c.in-Some.ensures.steps in
    let absent : is_absent c.open_in-answer.result ≡ true = search rules in
    (suc invariant.0, short_more paths invariant.0 (joined_path folder name) c.open_in-answer.result invariant.1 here.0 absent c.open_in-answer.ensures.path, here.1)

pub returns-clause-paths : goal.returns-clause-paths
returns-clause-paths g c =
    let name = c.args.name.now in
    let paths = candidates (include_folders c.args.self.now) c.args.from.now name in
    let invariant = c.loop-folder.invariant in
    let none = ap (map (λ folder. joined_path folder name)) c.in-None.ensures.steps.0 in
    short_all paths invariant.0 invariant.1 (all_tried paths invariant.0 (sym none ∙ invariant.2))
