-- The name is found where it is tried.
use Rattle.std.proofs.Common.{arith, ap, sym, ◌∙◌, ◌≤◌, ◌==◌, false, length, take}
use Rattle.std.specs.Option.{option_map_or}
use Rattle.std.proofs.lemmas.List.{length-append}
use Rattle.std.proofs.lemmas.List.Elements.{All-get_or}
use Rattle.rdlpp_define.specs.Table.{formal_at, formal_named, macro_at, no_formal}
use Rattle.rdlpp_define.specs.Macros.{formals_of}
use Rattle.rdlpp_reports.proofs.Written.{after_name, formal_longer, found_name, name_in_front, second_holds}
use Rattle.std.proofs.Common.{refl, slice_index}
use Rattle.rdlpp_reports.specs.Definitions.{ends_name}
use Rattle.rdlpp_reports.proofs.definitions.formal_name.Goals as goal

pub loop-len-init : goal.loop-len-init
loop-len-init c s h b = omega arith

pub loop-len-preserved : goal.loop-len-preserved
loop-len-preserved c s h b =
    let fs = formals_of (macro_at c.args.table.now.macros c.args.id) in
    formal_longer fs no_formal c.args.place c.loop-len.len c.args.bytes.now b.0 (formal_named fs (take c.loop-len.len c.args.bytes.now)) s.distinct h b.1 refl (sym c.is_formal.ensures ∙ c.if-is_formal.false) (c.loop-len.invariant s h b)

pub returns-then-is_formal : goal.returns-then-is_formal
returns-then-is_formal c s h b =
    let fs = formals_of (macro_at c.args.table.now.macros c.args.id) in
    let name = take c.loop-len.len c.args.bytes.now in
    found_name (λ f. f.name) fs no_formal c.args.place name
    (second_holds (ends_name (slice_index c.args.bytes.now c.loop-len.len)) (option_map_or (λ at. at == c.args.place) (formal_named fs name) false) (sym c.is_formal.ensures ∙ c.if-is_formal.true))

pub returns : goal.returns
returns c s h b =
    let name = (formal_at (formals_of (macro_at c.args.table.now.macros c.args.id)) c.args.place).name in
    let f = formal_at (formals_of (macro_at c.args.table.now.macros c.args.id)) c.args.place in
    let short : length name ≤ 128 = All-get_or (λ f. length f.name ≤ 128) (formals_of (macro_at c.args.table.now.macros c.args.id)) c.args.place no_formal h s.short in
    let inside : length name ≤ length c.args.bytes.now = omega (arith, ap length (name_in_front c.args.bytes.now b.0 f b.1), length-append name (after_name f b.0)) in
    absurd (omega (arith, short, inside, c.loop-len.invariant s h b, c.loop-len-test.false, c.min-len-end.ensures))
