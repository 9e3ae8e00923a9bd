use Rattle.rdlpp_state.proofs.DirectiveSteps.{skipped_within, skipping, word_steps}
use Rattle.rdlpp_expand.proofs.engine.Engine.skip_word.Goals as goal

pub pass-requires-clause-inside : goal.pass-requires-clause-inside
pass-requires-clause-inside g c = (skipped_within _ _ c.requires.some c.requires.word).inside

pub returns : goal.returns
returns g c = λ bounded.
    let e = c.args.self.now in
    word_steps g.S.Sources e c.pass.new.self c.requires.ready bounded c.requires.some (skipping e c.requires.ready c.requires.skipped) c.requires.mode c.args.len c.requires.word c.pass.ensures
