use Rattle.std.proofs.Common.{◌∙◌, ◌≡◌, true, false, get_or, sym}
use Rattle.rdlpp_table.specs.Shapes.{shape}
use Rattle.rdlpp_table.specs.Store.{formals_read}
use Rattle.rdlpp_table.proofs.FirstPoints.{name_point, none_point, some_point}
use Rattle.rdlpp_table.proofs.FormalOffsets.{no_shape}
use Rattle.rdlpp_table.proofs.point.point_at.Goals as goal

pub returns-in-Some : goal.returns-in-Some
returns-in-Some c = sym (some_point _ _ _) ∙ name_point _ _ c.args.token _ _ c.in-Name.is (sym c.in-Some.is ∙ c.place_of.ensures)

pub returns-in-None : goal.returns-in-None
returns-in-None c = sym (none_point c.args.at c.args.token.len) ∙ name_point _ _ c.args.token _ _ c.in-Name.is (sym c.in-None.is ∙ c.place_of.ensures)

pub returns-in-Name : goal.returns-in-Name
returns-in-Name c =
    let formals = formals_read c.args.formals.now.count c.args.formals.now.list.now in
    let text = c.args.text.now in
    let other : get_or c.args.shapes.now (shape text) true ≡ false = sym c.has_shape.ensures ∙ c.if-not-has_shape.true in
    sym (none_point c.args.at c.args.token.len) ∙ name_point formals c.args.at c.args.token text _ c.in-Name.is (no_shape formals c.args.shapes.now text c.requires.told other)
