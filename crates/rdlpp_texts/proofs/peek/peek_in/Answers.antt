use Rattle.std.proofs.Common.{◌+◌, ◌∙◌, ap, subst, List, ℕ, [], slice_range}
use Rattle.std.proofs.lemmas.List.{take_rest}
use Rattle.rdlpp_scan.specs.declared.token.Mode.TheVariants.{Plain}
use Rattle.rdlpp_scan.specs.Tokens.{tokens_from}
use Rattle.rdlpp_texts.specs.TextItems.{run_len, IsNextItem, IsTextItem}
use Rattle.rdlpp_texts.specs.declared.peek.NextItem.{NextItem}
use Rattle.rdlpp_texts.specs.Places.{texts_of}
use Rattle.rdlpp_texts.proofs.Stopping.{body-inside, ahead-body, ahead-ended, ahead-plain, plain-source, run-following}
use Rattle.rdlpp_texts.proofs.peek.peek_in.Goals as goal

pub returns-then-end-from : goal.returns-then-end-from
returns-then-end-from c = ahead-ended _ _ c.args.from c.args.end c.if-end-from.true

pub body_point-requires-clause-inside : goal.body_point-requires-clause-inside
body_point-requires-clause-inside c = body-inside (texts_of c.args.table.now.macros c.args.arguments.now) c.args.source.now _ _ c.in-Body.is c.requires.inside

pub returns-in-Body : goal.returns-in-Body
returns-in-Body c =
    ahead-body (texts_of c.args.table.now.macros c.args.arguments.now) c.args.source.now _ c.args.from c.args.end _ _ c.in-Body.is c.if-end-from.false c.requires.inside
    c.body_point.ensures c.point_front.ensures

pub plain_point-requires : goal.plain_point-requires
plain_point-requires c =
    let text = slice_range c.args.text.now c.args.from c.args.end in
    ap (λ (b : List ℕ). run_len [] (tokens_from Plain 0 b) b) (take_rest text c.run_len-len.result) ∙ run-following [] text _ c.run_len-len.ensures.value

pub returns : goal.returns
returns c =
    let text = slice_range c.args.text.now c.args.from c.args.end in
    let ahead : NextItem = record { at = c.args.from + c.run_len-len.result; front = c.plain_point.result } in
    plain-source (texts_of c.args.table.now.macros c.args.arguments.now) c.args.source.now _ c.args.from ahead (λ id. c.in_default.not-Body id)
    (subst (λ (bytes : List ℕ). IsNextItem [] (slice_range bytes c.args.from c.args.end) c.args.from ahead) c.requires.text
    (ahead-plain text _ c.args.from _ c.run_len-len.ensures.value c.run_len-len.ensures.inside
    (subst (λ (b : List ℕ). IsTextItem [] b c.plain_point.result) (take_rest text c.run_len-len.result) c.plain_point.ensures)))
