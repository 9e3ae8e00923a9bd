use Rattle.std.proofs.Common.{◌∙◌, sym, arith, true, false, refl, length, lt-ltb, le-ltb, le-leb}
use Rattle.std.proofs.lemmas.Bool.{lt-leb}
use Rattle.rdlpp_define.proofs.FormalLists.{fault_by}
use Rattle.rdlpp_define.proofs.formals.formal_fault.Goals as goal

pub returns-then-is_empty : goal.returns-then-is_empty
returns-then-is_empty c = fault_by _ _ _ true _ _ _ (sym c.is_empty.ensures ∙ c.if-is_empty.true) refl refl refl

pub returns-then-name-gt-MOST_NAME_BYTES : goal.returns-then-name-gt-MOST_NAME_BYTES
returns-then-name-gt-MOST_NAME_BYTES c = fault_by _ _ _ false true _ _ (sym c.is_empty.ensures ∙ c.if-is_empty.false) (lt-ltb 128 (length c.args.name.now) (omega arith)) refl refl

pub returns-then-contains : goal.returns-then-contains
returns-then-contains c =
    fault_by _ _ _ false false true _ (sym c.is_empty.ensures ∙ c.if-is_empty.false) (le-ltb 128 (length c.args.name.now) (omega arith)) (sym c.contains.ensures.value ∙ c.if-contains.true) refl

pub returns-then-names-ge-MOST_FORMALS : goal.returns-then-names-ge-MOST_FORMALS
returns-then-names-ge-MOST_FORMALS c =
    fault_by _ _ _ false false false true (sym c.is_empty.ensures ∙ c.if-is_empty.false) (le-ltb 128 (length c.args.name.now) (omega arith)) (sym c.contains.ensures.value ∙ c.if-contains.false) (le-leb 255 (length c.args.names.now) (omega arith))

pub returns : goal.returns
returns c =
    fault_by _ _ _ false false false false (sym c.is_empty.ensures ∙ c.if-is_empty.false) (le-ltb 128 (length c.args.name.now) (omega arith)) (sym c.contains.ensures.value ∙ c.if-contains.false) (lt-leb 255 (length c.args.names.now) (omega arith))
