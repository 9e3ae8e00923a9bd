use Rattle.std.proofs.Common.{length, subst, sym, ◌<◌}
use Rattle.rdlpp_state.specs.Pieces.{held_texts}
use Rattle.rdlpp.proofs.notes.write_text_of.Goals as goal

pub name-name-requires : goal.name-name-requires
name-name-requires g c =
    subst (λ table. c.in-Some-macro_of.id < length table.macros) (sym c.table.ensures)
    (c.in-Some-macro_of.ensures (held_texts c.args.engine.now) c.in-Some.ensures.placed.source)
