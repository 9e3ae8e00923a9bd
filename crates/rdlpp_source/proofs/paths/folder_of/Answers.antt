use Rattle.std.proofs.Common.{arith, ◌≡◌, ◌+◌, sym, ◌∙◌, take, slice_range}
use Rattle.std.proofs.lemmas.Grind.{common_steps}
use Rattle.rdlpp_source.proofs.Searches.{folder_of-none, folder_of-at, lacks_slash}
use Rattle.rdlpp_source.proofs.paths.folder_of.Goals as goal

pub returns-in-Some : goal.returns-in-Some
returns-in-Some c =
    let last = c.in-Some.ensures.cases in
    let part : slice_range c.args.path.now 0 (c.in-Some.at + 1) ≡ take (c.in-Some.at + 1) c.args.path.now = grind (arith, common_steps) in
    c.range.ensures.value ∙ part ∙ sym (folder_of-at c.args.path.now c.in-Some.at last.0 last.1.0 last.1.1)

pub returns-in-None : goal.returns-in-None
returns-in-None c = sym (folder_of-none c.args.path.now (lacks_slash c.args.path.now c.in-None.ensures.cases))
