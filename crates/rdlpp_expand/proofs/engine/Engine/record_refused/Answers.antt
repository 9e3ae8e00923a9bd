use Rattle.std.proofs.Common.{◌≡◌, take, ap, ◌∙◌}
use Rattle.rdlpp_define.specs.Table.{macro_at}
use Rattle.rdlpp_state.proofs.FrontSteps.{kept_cut}
use Rattle.rdlpp_expand.proofs.engine.Engine.record_refused.Goals as goal

pub returns : goal.returns
returns g c =
    let e = c.args.self.now in
    let word : c.word_of-word.result.bytes ≡ take 128 (macro_at e.table.macros c.args.id).name = c.word_of-word.ensures ∙ ap (take 128) (c.name.ensures ∙ ap (λ v. (macro_at v.table.macros c.args.id).name) c.self.view_is) in
    kept_cut e c.record_fault_at-fault.new.self _ _ _ _ _ c.record_fault_at-fault.ensures.kept word
