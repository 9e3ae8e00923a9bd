use Rattle.std.proofs.Common.{refl, sym, take_all, ◌∙◌}
use Rattle.rdlpp_scan.proofs.DirectiveNames.{reserved_short, reserved_word}
use Rattle.rdlpp_define.proofs.Headers.{empty_name, reserved_name, long_name, good_name}
use Rattle.rdlpp_define.proofs.name.check_name.Goals as goal

pub word_of-requires : goal.word_of-requires
word_of-requires c = reserved_word c.args.name.now (sym c.reserved.ensures.reserved ∙ (sym c.is_some.ensures ∙ c.if-is_some.true))

pub returns-then-is_empty-clause-value : goal.returns-then-is_empty-clause-value
returns-then-is_empty-clause-value c =
    let r = empty_name c.args.name.now _ _ (sym c.is_empty.ensures ∙ c.if-is_empty.true) c.without_word.ensures.kind c.without_word.ensures.word in (r.why, r.word_is)

pub returns-then-is_some-clause-value : goal.returns-then-is_some-clause-value
returns-then-is_some-clause-value c =
    let reserved = sym c.reserved.ensures.reserved ∙ (sym c.is_some.ensures ∙ c.if-is_some.true) in
    let r = reserved_name c.args.name.now _ _ (sym c.is_empty.ensures ∙ c.if-is_empty.false) reserved refl (c.word_of.ensures ∙ take_all 128 c.args.name.now (reserved_short c.args.name.now reserved)) in (r.why, r.word_is)

pub returns-then-name-gt-MOST_NAME_BYTES-clause-value : goal.returns-then-name-gt-MOST_NAME_BYTES-clause-value
returns-then-name-gt-MOST_NAME_BYTES-clause-value c =
    let free = sym c.reserved.ensures.reserved ∙ (sym c.is_some.ensures ∙ c.if-is_some.false) in
    let r = long_name c.args.name.now _ _ (sym c.is_empty.ensures ∙ c.if-is_empty.false) free c.if-name-gt-MOST_NAME_BYTES.true c.without_word-then-name-gt-MOST_NAME_BYTES.ensures.kind c.without_word-then-name-gt-MOST_NAME_BYTES.ensures.word in (r.why, r.word_is)

pub returns-clause-value : goal.returns-clause-value
returns-clause-value c =
    let free = sym c.reserved.ensures.reserved ∙ (sym c.is_some.ensures ∙ c.if-is_some.false) in
    good_name c.args.name.now (sym c.is_empty.ensures ∙ c.if-is_empty.false) free c.if-name-gt-MOST_NAME_BYTES.false
