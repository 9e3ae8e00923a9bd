-- An engine that is made fresh again.
use Rattle.std.proofs.Common.{◌≡◌, [], None, false, arith}
use Rattle.std.proofs.lemmas.Bool.{false≢true}
use Rattle.rdlpp_define.specs.Table.{table_size, TableView}
use Rattle.rdlpp_define.specs.declared.limits.Limits.{Limits}
use Rattle.rdlpp_read.specs.Conditions.{ConditionsView}
use Rattle.rdlpp_read.specs.Buffer.{closed_buffer, unused_of}
use Rattle.rdlpp_read.specs.Files.{FilesView}
use Rattle.rdlpp_usages.specs.Usages.{ExpansionView}
use Rattle.rdlpp_state.specs.Engine.{IsWholeEngine, is_open}
use Rattle.rdlpp_state.specs.declared.phase.Phase.{Phase}
use Rattle.rdlpp_state.specs.declared.phase.Phase.TheVariants.{Fresh}

-- an engine whose parts are emptied is whole, and isn't started
pub renewed_whole : {R : Type 0} (limits : Limits) (phase : Phase) (table : TableView) (files : FilesView R) (conditions : ConditionsView) (expansion : ExpansionView)
    (no_macros : TableView) (no_files : FilesView R) (no_conditions : ConditionsView) (no_texts : ExpansionView)
    → no_macros ≡ record table { macros = [] } → no_files ≡ record files { include_stack = [] } → no_conditions ≡ record { open_now = []; skipped = None; limit = conditions.limit }
    → no_texts ≡ record { opens = []; arguments = []; line = 0; depth = expansion.depth; most = expansion.most }
    → IsWholeEngine limits phase table files conditions expansion → IsWholeEngine limits Fresh no_macros no_files no_conditions no_texts
unfolding is_open table_size closed_buffer unused_of
renewed_whole limits phase table files conditions expansion no_macros no_files no_conditions no_texts m f k t w = grind arith

-- an engine over which no main text is open is whole in each other phase in which none is
pub unopened_whole : {R : Type 0} (limits : Limits) (phase next : Phase) (table : TableView) (files : FilesView R) (conditions : ConditionsView) (expansion : ExpansionView)
    → is_open phase ≡ false → is_open next ≡ false → IsWholeEngine limits phase table files conditions expansion → IsWholeEngine limits next table files conditions expansion
unopened_whole limits phase next table files conditions expansion shut stays w = grind (arith, false≢true)
