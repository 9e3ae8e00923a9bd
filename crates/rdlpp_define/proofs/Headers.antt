-- White space and names of a text with continuations, and a `define` by its name and what stands after it.
use Rattle.std.proofs.Common.{◌≡◌, ℕ, ◌+◌, ◌-◌, true, false, List, [], ◌∷◌, length, take, drop, get_or, Option, Some, None, refl, ap, sym, ◌∙◌, arith, suc, ◌<◌, ◌≤◌, Err, Bool, cond, eqb, one-add, inl, inr, le-ltb, lt-ltb}
use Rattle.std.specs.List.{prefix_len}
use Rattle.std.proofs.lemmas.Bool.{cases_Bool, cond-false, cond-true}
use Rattle.std.proofs.lemmas.List.{take_rest}
use Rattle.std.proofs.lemmas.List.Folds.{length-prefix_len}
use Rattle.rdlpp_scan.specs.Bytes.{is_letter, is_word}
use Rattle.rdlpp_scan.specs.Reserved.{is_reserved}
use Rattle.rdlpp_scan.proofs.Seams.{word_ten}
use Rattle.rdlpp_scan.specs.Continuations.{as_read}
use Rattle.rdlpp_scan.proofs.Joins.{SameRun, first_in, first_out, joined_none, same_run, word_back}
use Rattle.rdlpp_define.proofs.Drafts.{refused_is}
use Rattle.rdlpp_define.specs.Define.{drafted, Draft, FormalList, Listed, DraftFault, FormalListFault, after_space, formal_list, formals_of_list, is_space, leading_name, logical_text, macro_from, macro_of, name_fault, refused_word, unended, with_body, with_list}
use Rattle.rdlpp_define.specs.Formals.{IsPart}
use Rattle.rdlpp_define.specs.Macros.{Formal}
use Rattle.rdlpp_define.specs.declared.fault.DefineFault.{DefineFault}
use Rattle.rdlpp_define.specs.declared.fault.DefineKind.{DefineKind}
use Rattle.rdlpp_define.specs.declared.fault.DefineKind.TheVariants as kind

-- White space and names of a text with continuations.

-- the white space at which a text begins, byte by byte
space_len : (b : ℕ) (bs : List ℕ) → is_space b ≡ true → prefix_len is_space (b ∷ bs) ≡ suc (prefix_len is_space bs)
space_len b bs e = ap (λ (t : Bool). cond t (1 + prefix_len is_space bs) 0) e ∙ one-add (prefix_len is_space bs)

pub skip_space : (text : List ℕ) (b : ℕ) (following : List ℕ) → text ≡ b ∷ following → is_space b ≡ true → after_space following ≡ after_space text
unfolding after_space
skip_space text b following t e = sym (ap (λ (l : List ℕ). drop (prefix_len is_space l) l) t ∙ ap (λ (n : ℕ). drop n (b ∷ following)) (space_len b following e))

pub point_space : (text : List ℕ) (b : ℕ) (following : List ℕ) → text ≡ b ∷ following → is_space b ≡ false → after_space text ≡ text
unfolding after_space
point_space text b following t e = grind arith

pub none_space : (text : List ℕ) → text ≡ [] → after_space text ≡ text
unfolding after_space
none_space text t = ap (λ (l : List ℕ). drop (prefix_len is_space l) l) t ∙ sym t

first_same : (test : ℕ → Bool) → test 10 ≡ false → test 92 ≡ false → (text : List ℕ) → test (get_or (as_read true text) 0 0) ≡ test (get_or text 0 0)
first_same test line back [] = ap (λ (l : List ℕ). test (get_or l 0 0)) joined_none
first_same test line back (b ∷ bs) =
    elim (cases_Bool (test b)) [
      | inl e ↦ ap (λ (l : List ℕ). test (get_or l 0 0)) (first_in test back b bs e)
      | inr e ↦ first_out test line b bs e ∙ sym e
    ]

letter_line : is_letter 10 ≡ false
unfolding is_letter
letter_line = refl

letter_back : is_letter 92 ≡ false
unfolding is_letter
letter_back = refl

same_word : (text : List ℕ) → SameRun is_word text
same_word text = same_run is_word word_ten word_back text

-- the name of a text is the same where continuations are read as their LF
name_joined : (text : List ℕ) → leading_name (as_read true text) ≡ leading_name text
unfolding leading_name
name_joined text = grind (arith, first_same, letter_line, letter_back, same_word)

-- what stands after the name
name_after : (text : List ℕ) → as_read true (drop (length (leading_name text)) text) ≡ drop (length (leading_name text)) (as_read true text)
unfolding leading_name
name_after text =
    elim (cases_Bool (is_letter (get_or text 0 0))) [
      | inl e ↦
          let n : length (cond (is_letter (get_or text 0 0)) (take (prefix_len is_word text) text) []) ≡ prefix_len is_word text =
          ap (λ (t : Bool). length (cond t (take (prefix_len is_word text) text) [])) e ∙ length-prefix_len is_word text in
          ap (λ (k : ℕ). as_read true (drop k text)) n ∙ (sym (same_word text).back ∙ sym (ap (λ (k : ℕ). drop k (as_read true text)) n))
      | inr e ↦
          let n : length (cond (is_letter (get_or text 0 0)) (take (prefix_len is_word text) text) []) ≡ 0 =
          ap (λ (t : Bool). length (cond t (take (prefix_len is_word text) text) [])) e in
          ap (λ (k : ℕ). as_read true (drop k text)) n ∙ sym (ap (λ (k : ℕ). drop k (as_read true text)) n)
    ]

-- what was read of a part
pub part_read : (text rest name tail following : List ℕ) → as_read true rest ≡ after_space (as_read true text) → name ≡ leading_name rest → tail ≡ take (length rest - length name) (drop (length name) rest) → as_read true following ≡ after_space (as_read true tail) → IsPart (as_read true text) name (as_read true following)
part_read text rest name tail following r n t b = grind (arith, name_joined, take_rest, name_after)

-- whether a formal list follows
pub list_follows : (text : List ℕ) (b : ℕ) (list : List ℕ) → text ≡ b ∷ list → eqb b 40 ≡ true → formal_list text ≡ formals_of_list list
unfolding formal_list
list_follows text b list e at = grind (arith, cond-true)

pub no_list : (text : List ℕ) (b : ℕ) (list : List ℕ) → text ≡ b ∷ list → eqb b 40 ≡ false → formal_list text ≡ Listed None text
unfolding formal_list
no_list text b list e other = cond-false (eqb (get_or text 0 0) 40) _ _ (ap (λ (t : List ℕ). eqb (get_or t 0 0) 40) e ∙ other)

pub nothing_follows : (text : List ℕ) → text ≡ [] → formal_list text ≡ Listed None text
unfolding formal_list
nothing_follows text e = cond-false (eqb (get_or text 0 0) 40) _ _ (ap (λ (t : List ℕ). eqb (get_or t 0 0) 40) e)

-- What is wrong with the name of a macro, case by case.

-- why a name is refused, and the word of the refusal
pub record IsRefused (name : List ℕ) (k : DefineKind) (word : List ℕ) : Type 0 where
  pub why : name_fault name ≡ Some k
  pub word_is : word ≡ refused_word k name

pub empty_name : (name : List ℕ) (k : DefineKind) (word : List ℕ) → eqb (length name) 0 ≡ true → k ≡ kind.NameExpected → word ≡ [] → IsRefused name k word
unfolding name_fault refused_word
empty_name name k word e p q = grind (arith, cond-true)

pub reserved_name : (name : List ℕ) (k : DefineKind) (word : List ℕ) → eqb (length name) 0 ≡ false → is_reserved name ≡ true → k ≡ kind.ReservedName → word ≡ name → IsRefused name k word
unfolding name_fault refused_word
reserved_name name k word e is p q = grind (arith, cond-false, cond-true)

pub long_name : (name : List ℕ) (k : DefineKind) (word : List ℕ) → eqb (length name) 0 ≡ false → is_reserved name ≡ false → 128 < length name → k ≡ kind.NameTooLong → word ≡ [] → IsRefused name k word
unfolding name_fault refused_word
long_name name k word e is h p q = grind (arith, cond-false, cond-true, lt-ltb)

pub good_name : (name : List ℕ) → eqb (length name) 0 ≡ false → is_reserved name ≡ false → length name ≤ 128 → name_fault name ≡ None
unfolding name_fault
good_name name e is h = cond-false _ _ _ e ∙ (cond-false _ _ _ is ∙ cond-false _ _ _ (le-ltb _ _ h))

-- A `define` by its name and what stands after it.

-- the draft of a text by what is wrong with its name
abbrev named_draft : List ℕ → List ℕ → Option DefineKind → Draft
named_draft name after fault = elim fault [ Some k ↦ DraftFault k (refused_word k name) | None ↦ with_list name after ]

macro_by_name : (rest line text name after : List ℕ) → line ≡ unended rest → as_read true text ≡ after_space (as_read true line) → name ≡ leading_name text → after ≡ drop (length name) text → macro_of rest ≡ named_draft name (as_read true after) (name_fault name)
unfolding macro_of logical_text macro_from as_read
macro_by_name rest line text name after e f g h = grind (arith, name_after, name_joined)

pub define_reads : (rest line text name after : List ℕ) → line ≡ unended rest → as_read true text ≡ after_space (as_read true line) → name ≡ leading_name text → after ≡ drop (length name) text → name_fault name ≡ None → with_list name (as_read true after) ≡ macro_of rest
define_reads rest line text name after e f g h ok =
    sym (macro_by_name rest line text name after e f g h ∙ ap (named_draft name (as_read true after)) ok)

pub define_refuses : (rest line text name : List ℕ) (fault : DefineFault) → line ≡ unended rest → as_read true text ≡ after_space (as_read true line) → name ≡ leading_name text → name_fault name ≡ Some fault.kind → fault.word.bytes ≡ refused_word fault.kind name → drafted (Err fault) ≡ macro_of rest
unfolding drafted
define_refuses rest line text name fault e f g why word =
    sym (macro_by_name rest line text name (drop (length name) text) e f g refl
    ∙ (ap (named_draft name (as_read true (drop (length name) text))) why
    ∙ ap (DraftFault fault.kind) (sym word)))

-- the draft of a list that was read
abbrev listed_draft : List ℕ → FormalList → Draft
listed_draft name l = elim l [ FormalListFault k ↦ DraftFault k [] | Listed formals text ↦ with_body name formals text ]

pub list_reads : (name after : List ℕ) (formals : Option (List Formal)) (text : List ℕ) → formal_list after ≡ Listed formals text → with_body name formals text ≡ with_list name after
unfolding with_list
list_reads name after formals text e = sym (ap (listed_draft name) e)

pub list_refuses : (name after : List ℕ) (k : DefineKind) (fault : DefineFault) → formal_list after ≡ FormalListFault k → fault.kind ≡ k → fault.word.bytes ≡ [] → drafted (Err fault) ≡ with_list name after
unfolding with_list
list_refuses name after k fault e is word = refused_is fault k is word ∙ sym (ap (listed_draft name) e)
