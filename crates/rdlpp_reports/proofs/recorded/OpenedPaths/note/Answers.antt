-- Nothing more is told of a source whose file is told.
use Rattle.std.proofs.Common.{rules, ◌≡◌, true, ◌∙◌}
use Rattle.std.specs.List.{list_any}
use Rattle.rdlpp_reports.specs.Recorded.{is_same, paths_of, told_of}
use Rattle.rdlpp_reports.proofs.Paths.{known_file, one_more}
use Rattle.rdlpp_reports.proofs.recorded.OpenedPaths.note.Goals as goal

pub returns-in-Ok-false : goal.returns-in-Ok-false
returns-in-Ok-false c =
    let files = c.args.self.now.files.keys in
    let there : list_any (is_same c.in-Some.file) files ≡ true = search rules in
    let told = known_file (paths_of c.args.self.now) files c.insert.new.self.keys c.args.path.now c.args.file c.in-Some.file c.in-Some.is there (search rules) in
    λ whole. (whole, told, λ before e. told ∙ one_more before (told_of c.args.self.now) (record { path = c.args.path.now; file = c.args.file }) e)
