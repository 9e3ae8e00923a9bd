use Rattle.rdlpp_texts.specs.Places.{texts_of}
use Rattle.rdlpp_texts.proofs.Usages.{peek-is, peek-known}
use Rattle.std.proofs.Common.{refl}
use Rattle.rdlpp_texts.proofs.peek.peek_at.Goals as goal

pub text_of-text-requires : goal.text_of-text-requires
text_of-text-requires c =
    (peek-known (texts_of c.args.table.now.macros c.args.arguments.now) c.args.frames.now c.args.bindings.now _ _ c.requires.some c.index-frames-0.is c.requires.sound
    (c.front_source-source.ensures c.args.bindings.now)).0

pub peek_in-ahead-requires-clause-source : goal.peek_in-ahead-requires-clause-source
peek_in-ahead-requires-clause-source c =
    (peek-known (texts_of c.args.table.now.macros c.args.arguments.now) c.args.frames.now c.args.bindings.now _ _ c.requires.some c.index-frames-0.is c.requires.sound
    (c.front_source-source.ensures c.args.bindings.now)).0

pub peek_in-ahead-requires-clause-inside : goal.peek_in-ahead-requires-clause-inside
peek_in-ahead-requires-clause-inside c =
    (peek-known (texts_of c.args.table.now.macros c.args.arguments.now) c.args.frames.now c.args.bindings.now _ _ c.requires.some c.index-frames-0.is c.requires.sound
    (c.front_source-source.ensures c.args.bindings.now)).1

pub returns-clause-peek : goal.returns-clause-peek
returns-clause-peek c =
    peek-is (texts_of c.args.table.now.macros c.args.arguments.now) c.args.frames.now c.args.bindings.now c.index-frames-0.result _ c.requires.some c.index-frames-0.is c.requires.sound
    (c.front_source-source.ensures c.args.bindings.now) refl refl c.peek_in-ahead.ensures
