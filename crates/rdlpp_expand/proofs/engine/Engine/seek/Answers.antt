use Rattle.std.proofs.Common.{◌≡◌, ◌<◌, Ok, Err, false, length, sym, ap, ◌∙◌}
use Rattle.rdlpp_front.specs.SourceItems.{include_name}
use Rattle.rdlpp_read.specs.Buffer.{held_of}
use Rattle.rdlpp_read.specs.Files.{inner_buffer}
use Rattle.rdlpp_state.specs.Includes.{SearchFault, inner_path, is_bad_name}
use Rattle.rdlpp_state.proofs.IncludeSteps.{searches_by}
use Rattle.rdlpp_expand.proofs.engine.Engine.seek.Goals as goal
use Rattle.rdlpp_expand.proofs.engine.Engine.seek.Goals.{in-Ok, in-Err}

pub returns-clause-sought : goal.returns-clause-sought
returns-clause-sought g c =
    let include_stack = c.self.inside.files.include_stack in
    let held : c.held.result.now ≡ held_of (inner_buffer include_stack) = c.held.ensures.value ∙ ap held_of c.file-file.ensures.buffer in
    let name = include_name (held_of (inner_buffer include_stack)) c.args.start c.args.stop in
    let same : c.in-Some.name.now ≡ name = c.in-Some.ensures.name.0 ∙ ap (λ h. include_name h c.args.start c.args.stop) held in
    let good : is_bad_name name ≡ false = ap (λ h. is_bad_name (include_name h c.args.start c.args.stop)) (sym held) ∙ c.in-Some.ensures.name.1 in
    let path : c.as_str.result.now ≡ inner_path include_stack = c.as_str.ensures.value ∙ sym (ap inner_path c.file-file.ensures.inner) in
    let room : length include_stack < c.self.inside.files.slots = c.is_full.ensures.room c.if-is_full.false in
    elim c.match-find.branch [
      | in-Ok w ↦
          let e = w.in-Ok.ensures in
          rw (w.result-is, ← c.self.view_is)
          (searches_by g.S.Sources _ c.as_str.result.now c.in-Some.name.now name c.find.new.self (Ok w.in-Ok.found) same path good room e.answer e.failures e.refusals e.has_known_texts e.catalog)
      | in-Err w ↦
          let e = w.in-Err.ensures in
          rw (w.result-is, ← c.self.view_is)
          (SearchFault w.in-Err.fault w.source_kind.ensures
          (searches_by g.S.Sources _ c.as_str.result.now c.in-Some.name.now name c.find.new.self (Err w.in-Err.fault) same path good room e.answer e.failures e.refusals e.has_known_texts e.catalog))
    ]
