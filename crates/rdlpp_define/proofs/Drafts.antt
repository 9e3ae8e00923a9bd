-- A macro that is read: its body, and its formals, which are sound.
use Rattle.std.proofs.Common.{◌≡◌, ℕ, true, false, List, [], ◌∷◌, ◌++◌, take, drop, Option, Some, None, Ok, Err, refl, ap, sym, ◌∙◌, inl, inr, zero, suc, ◌+◌, ◌<◌, ◌≤◌, Bool, cond, ◌||◌, ltb, length, map, bytes_eq, unwrap_or, subst, arith, length-append, is_some, option_map, append-nil, ltb-false, flat_map}
use Rattle.std.proofs.lemmas.Bool.{cases_Bool, cond-true, cond-false, eqb-false}
use Rattle.std.specs.List.{IsDistinct, list_any}
use Rattle.std.proofs.lemmas.Grind.{common_steps}
use Rattle.std.proofs.lemmas.List.{map-append, nil_from_length}
use Rattle.std.proofs.lemmas.List.Elements.{All-nil, All-push}
use Rattle.std.proofs.lemmas.Cmp.{nat_list_eq_equiv}
use Rattle.std.proofs.lemmas.Map.Keys.{IsDistinct-push}
use Rattle.rdlpp_scan.specs.declared.token.Kind.{Kind}
use Rattle.rdlpp_scan.specs.declared.token.Kind.TheVariants.{LineComment}
use Rattle.rdlpp_scan.specs.declared.token.Token.{Token}
use Rattle.rdlpp_scan.specs.declared.token.Mode.{Mode}
use Rattle.rdlpp_scan.specs.declared.token.Mode.TheVariants.{Plain}
use Rattle.rdlpp_scan.specs.declared.token.LexFault.{LexFault}
use Rattle.rdlpp_scan.specs.Tokens.{tokens_from}
use Rattle.rdlpp_scan.specs.LexFaults.{is_perl, open_fault, fault_of_tokens, lex_fault_from}
use Rattle.rdlpp_scan.specs.Names.{is_name}
use Rattle.rdlpp_define.specs.declared.fault.DefineKind.{DefineKind}
use Rattle.rdlpp_define.specs.declared.fault.DefineFault.{DefineFault}
use Rattle.rdlpp_define.specs.Macros.{Formal, Macro, formal_bytes, list_size, AreSoundFormals, IsSoundMacro}
use Rattle.rdlpp_define.specs.Plain.{is_plain_macro}
use Rattle.rdlpp_scan.specs.Continuations.{as_read}
use Rattle.rdlpp_scan.specs.KeptText.{Cleared, Sound, Unsound, onto, trimmed_left, trimmed_len, trims, cleared, told, read_by, left_in, kept_bytes}
use Rattle.rdlpp_define.specs.Define.{drafted, Draft, Drawn, DraftFault, lexical, macro_set, name_fault, refused_word, trimmed, with_body, without_list, text_without_line_comments, FormalFault, DefaultText, Good, Listed, FormalListFault, after_name, default_in, formal_fault, formal_in, formal_name, formals_in, formals_of_list, is_nothing, with_default}
use Rattle.rdlpp_define.specs.NewMacro.{list_formals, new_macro, IsList, IsNew}
use Rattle.rdlpp_scan.specs.CleanTexts.{IsCleanText}
use Rattle.rdlpp_scan.specs.Reserved.{is_reserved}
use Rattle.rdlpp_define.proofs.Defaults.{default_in_clean, drawn_clean}
use Rattle.rdlpp_scan.proofs.Measures.{left_len}
use Rattle.rdlpp_define.proofs.FormalLists.{fault_three, formal_by, in_by, list_by, list_full, list_step, three}
use Rattle.rdlpp_define.specs.Formals.{IsRead, listed}
use Rattle.rdlpp_define.specs.declared.fault.DefineKind.TheVariants as kind

-- A macro with a body, by what is left of the body's text.

-- the draft of what is left
abbrev drafted_by : List ℕ → Option (List Formal) → Cleared → Draft
drafted_by name formals (Sound rest last) = Drawn (record { name = name; formals = formals; body = trimmed rest })
drafted_by name formals (Unsound fault) = DraftFault (lexical fault) []

by_fault : (name : List ℕ) (formals : Option (List Formal)) (fault : Option LexFault) (rest : List ℕ) → (elim fault [ Some f ↦ DraftFault (lexical f) [] | None ↦ Drawn (record { name = name; formals = formals; body = trimmed rest }) ]) ≡ drafted_by name formals (told fault rest)
by_fault name formals None rest = refl
by_fault name formals (Some f) rest = refl

none_left : (text : List ℕ) → text_without_line_comments [] text ≡ []
unfolding text_without_line_comments
none_left text = refl

kept_front_of : (k : Kind) (xs ys : List ℕ) → (elim k [ LineComment ↦ ys | _ ↦ xs ++ ys ]) ≡ (elim k [ LineComment ↦ [] | _ ↦ xs ]) ++ ys
kept_front_of LineComment xs ys = refl
kept_front_of k xs ys = refl

kept_front : (t : Token) (ts : List Token) (text : List ℕ) → text_without_line_comments (t ∷ ts) text ≡ kept_bytes t text ++ text_without_line_comments ts (drop t.len text)
unfolding text_without_line_comments
kept_front t ts text = kept_front_of t.kind (take t.len text) (text_without_line_comments ts (drop t.len text))

told_onto : (fault : Option LexFault) (xs ys : List ℕ) → told fault (xs ++ ys) ≡ onto xs (told fault ys)
unfolding onto
told_onto None xs ys = refl
told_onto (Some f) xs ys = refl

-- a body's tokens leave what its text without `//` comments is, or its first fault
body_read : (mode : Mode) (ts : List Token) (text : List ℕ) → read_by None mode ts text ≡ told (fault_of_tokens mode ts) (text_without_line_comments ts text)
unfolding fault_of_tokens
body_read mode [] text = ap (told (open_fault mode)) (sym (none_left text))
body_read mode (t ∷ ts) text =
    elim (cases_Bool (is_perl t.kind)) [
      | inl e ↦ cond-true _ _ _ e ∙ sym (ap (λ (f : Option LexFault). told f (text_without_line_comments (t ∷ ts) text)) (cond-true _ _ _ e))
      | inr e ↦
          cond-false _ _ _ e
          ∙ (ap (onto (kept_bytes t text)) (body_read t.next_mode ts (drop t.len text))
          ∙ (sym (told_onto (fault_of_tokens t.next_mode ts) (kept_bytes t text) (text_without_line_comments ts (drop t.len text)))
          ∙ (ap (told (fault_of_tokens t.next_mode ts)) (sym (kept_front t ts text))
          ∙ sym (ap (λ (f : Option LexFault). told f (text_without_line_comments (t ∷ ts) text)) (cond-false _ _ _ e)))))
    ]

same_left : (text : List ℕ) → told (lex_fault_from Plain text) (text_without_line_comments (tokens_from Plain 0 text) text) ≡ cleared None text
unfolding lex_fault_from cleared left_in
same_left text = sym (body_read Plain (tokens_from Plain 0 text) text)

body_draft : (name : List ℕ) (formals : Option (List Formal)) (text : List ℕ) → with_body name formals text ≡ drafted_by name formals (cleared None text)
unfolding with_body
body_draft name formals text =
    by_fault name formals (lex_fault_from Plain text) (text_without_line_comments (tokens_from Plain 0 text) text) ∙ ap (drafted_by name formals) (same_left text)

drawn_by : (name : List ℕ) (formals : Option (List Formal)) (c : Cleared) (len : ℕ) → Ok len ≡ trimmed_len (trims false) c → drafted_by name formals c ≡ Drawn (record { name = name; formals = formals; body = trimmed_left (trims false) c })
unfolding trimmed_len trimmed_left trims trimmed
drawn_by name formals (Sound rest last) len e = refl
drawn_by name formals (Unsound fault) len e = absurd (cc)

rejected_by : (name : List ℕ) (formals : Option (List Formal)) (c : Cleared) (fault : LexFault) → Err fault ≡ trimmed_len (trims false) c → drafted_by name formals c ≡ DraftFault (lexical fault) []
unfolding trimmed_len
rejected_by name formals (Sound rest last) fault e = absurd (cc)
rejected_by name formals (Unsound other) fault e = let same : other ≡ fault = cc in ap (λ (f : LexFault). DraftFault (lexical f) []) same

-- a body without a fault gives the macro
body_drawn : (name : List ℕ) (formals : Option (List Formal)) (text : List ℕ) (len : ℕ) → Ok len ≡ trimmed_len (trims false) (cleared None text) → with_body name formals text ≡ Drawn (record { name = name; formals = formals; body = trimmed_left (trims false) (cleared None text) })
body_drawn name formals text len e = body_draft name formals text ∙ drawn_by name formals (cleared None text) len e

pub body_reads : (name : List ℕ) (formals : Option (List Formal)) (text : List ℕ) (len : ℕ) → Ok len ≡ trimmed_len (trims false) (cleared None text) → drafted (Ok (record { name = name; formals = formals; body = trimmed_left (trims false) (cleared None text) })) ≡ with_body name formals text
unfolding drafted
body_reads name formals text len e = sym (body_drawn name formals text len e)

pub refused_is : (e : DefineFault) (k : DefineKind) → e.kind ≡ k → e.word.bytes ≡ [] → drafted (Err e) ≡ DraftFault k []
unfolding drafted
refused_is e k p q = ap (λ (x : DefineKind). DraftFault x e.word.bytes) p ∙ ap (DraftFault k) q

pub body_refuses : (name : List ℕ) (formals : Option (List Formal)) (text : List ℕ) (fault : LexFault) (refused : DefineFault) → Err fault ≡ trimmed_len (trims false) (cleared None text) → refused.kind ≡ lexical fault → refused.word.bytes ≡ [] → drafted (Err refused) ≡ with_body name formals text
body_refuses name formals text fault refused e k w =
    refused_is refused (lexical fault) k w ∙ sym (body_draft name formals text ∙ rejected_by name formals (cleared None text) fault e)

-- a macro of a name and a text, by what is wrong with the name
pub no_name : (name text : List ℕ) (fault : DefineFault) → is_name name ≡ false → fault.kind ≡ kind.NameExpected → fault.word.bytes ≡ [] → drafted (Err fault) ≡ macro_set name text
unfolding macro_set
no_name name text fault e k w = refused_is fault kind.NameExpected k w ∙ sym (cond-false _ _ _ e)

pub name_refused : (name text : List ℕ) (fault : DefineFault) → is_name name ≡ true → name_fault name ≡ Some fault.kind → fault.word.bytes ≡ refused_word fault.kind name → drafted (Err fault) ≡ macro_set name text
unfolding macro_set without_list drafted
name_refused name text fault e why word = grind (arith, cond-true)

pub named_reads : (name text : List ℕ) → is_name name ≡ true → name_fault name ≡ None → with_body name None (as_read false text) ≡ macro_set name text
unfolding macro_set without_list as_read
named_reads name text e ok = grind (arith, cond-true)

-- The formals that a list gives are sound.

-- a formal that may stand after others
record IsNextFormal (before : List Formal) (f : Formal) : Type 0 where
  short : length f.name ≤ 128
  other : list_any (λ g. bytes_eq g.name f.name) before ≡ false
  room : length before < 255
  text : IsCleanText f.text

three_none : (a b c : Bool) → three a b c ≡ None → (b ≡ false) × (c ≡ false)
three_none false false false e = (refl, refl)
three_none a b c e = absurd (cc)

named_with : (name from : List ℕ) (d : Option DefaultText) (f : Formal) (following : List ℕ) → default_in from ≡ d → with_default name d ≡ Good f following → (name ≡ f.name) × IsCleanText f.text
unfolding with_default
named_with name from None f following is e = absurd (cc)
named_with name from (Some d) f following is e =
    let g : (let x : Formal = record { name = name; text = d.text } in x) ≡ f = cc in
    (ap (λ (x : Formal). x.name) g, subst IsCleanText (ap (λ (x : Formal). x.text) g) (default_in_clean from d is))

good_by : (o : Option DefineKind) (name from : List ℕ) (f : Formal) (following : List ℕ) → formal_by o name (default_in from) ≡ Good f following → (o ≡ None) × ((name ≡ f.name) × IsCleanText f.text)
good_by None name from f following e = (refl, named_with name from (default_in from) f following refl e)
good_by (Some k) name from f following e = absurd (cc)

next_formal : (before : List Formal) (text : List ℕ) (f : Formal) (following : List ℕ) → length before < 255 → formal_in before text ≡ Good f following → IsNextFormal before f
next_formal before text f following room e =
    let g = good_by (formal_fault before (formal_name text)) (formal_name text) (after_name text) f following (sym (in_by before text) ∙ e) in
    let t = three_none (is_nothing (formal_name text)) (ltb 128 (length (formal_name text))) (list_any (λ (g : Formal). bytes_eq g.name (formal_name text)) before) (sym (fault_three before (formal_name text)) ∙ g.0) in
    grind (arith, ltb-false)

turned_any : (name : List ℕ) (before : List Formal) → list_any (bytes_eq name) (map (λ g. g.name) before) ≡ list_any (λ g. bytes_eq g.name name) before
turned_any name [] = refl
turned_any name (g ∷ before) =
    ap (λ (b : Bool). b || list_any (bytes_eq name) (map (λ (h : Formal). h.name) before)) (nat_list_eq_equiv.symm name g.name)
    ∙ ap (λ (b : Bool). bytes_eq g.name name || b) (turned_any name before)

pub no_formals_sound : AreSoundFormals []
unfolding IsDistinct
no_formals_sound = record { distinct = tt; few = omega arith; short = All-nil _; texts = All-nil _ }

one_more_sound : (before : List Formal) (f : Formal) → AreSoundFormals before → IsNextFormal before f → AreSoundFormals (before ++ f ∷ [])
one_more_sound before f s n =
    grind (arith, common_steps, map-append, IsDistinct-push, nat_list_eq_equiv, turned_any, length-append, All-push)

listed_same : (before fs : List Formal) (after' after : List ℕ) → Listed (Some before) after' ≡ Listed (Some fs) after → before ≡ fs
listed_same before fs after' after e = cc

-- by what stands after the next formal
after_sound : (room : ℕ) (before : List Formal) (f : Formal) (following : List ℕ) (fs : List Formal) (after : List ℕ) → AreSoundFormals (before ++ f ∷ []) → (formals_in room (before ++ f ∷ []) (drop 1 following) ≡ Listed (Some fs) after → AreSoundFormals fs) → list_by room before (Good f following) ≡ Listed (Some fs) after → AreSoundFormals fs
after_sound room before f following fs after s next e = grind (arith, cases_Bool, cond-true, listed_same, cond-false)

in_sound : (room : ℕ) (before : List Formal) (text : List ℕ) (fs : List Formal) (after : List ℕ) → AreSoundFormals before → length before + room ≤ 255 → formals_in room before text ≡ Listed (Some fs) after → AreSoundFormals fs
in_sound zero before text fs after s n e = let h : FormalListFault (unwrap_or (formal_fault before (formal_name text)) kind.TooManyFormals) ≡ Listed (Some fs) after = sym (list_full before text) ∙ e in absurd (cc)
in_sound (suc room) before text fs after s n e =
    (elim (formal_in before text) as (λ o. formal_in before text ≡ o → list_by room before o ≡ Listed (Some fs) after → AreSoundFormals fs) [
      | FormalFault k ↦ λ q h. absurd (cc)
      | Good f following ↦ λ q h.
          after_sound room before f following fs after (one_more_sound before f s (next_formal before text f following (omega arith) q))
          (λ i. in_sound room (before ++ f ∷ []) (drop 1 following) fs after (one_more_sound before f s (next_formal before text f following (omega arith) q)) (omega (arith, length-append before (f ∷ []))) i) h
    ]) refl (sym (list_step room before text) ∙ e)

-- a name without a fault is that of a sound macro
pub record IsGoodName (name : List ℕ) : Type 0 where
  pub named : 0 < length name
  pub short : length name ≤ 128
  pub unreserved : is_reserved name ≡ false

faultless : (c : Bool) (k : DefineKind) (y : Option DefineKind) → cond c (Some k) y ≡ None → (c ≡ false) × (y ≡ None)
faultless true k y e = absurd (cc)
faultless false k y e = (refl, e)

sound_name : (name : List ℕ) → name_fault name ≡ None → IsGoodName name
unfolding name_fault
sound_name name e = grind (arith, faultless, eqb-false, ltb-false)

pub new_sound : (name : List ℕ) (arity : Option ℕ) (list : List ℕ) (is_logical : Bool) (text : List ℕ) (len : ℕ) → name_fault name ≡ None → AreSoundFormals (unwrap_or (list_formals arity list) [])
    → Ok len ≡ trimmed_len (trims false) (cleared None (as_read is_logical text)) → IsSoundMacro (new_macro name arity list is_logical text)
new_sound name arity list is_logical text len e s read =
    let g = sound_name name e in
    record {
      named = g.named;
      short = g.short;
      unreserved = g.unreserved;
      formals = s;
      body = drawn_clean name (list_formals arity list) (as_read is_logical text) (new_macro name arity list is_logical text) (body_drawn name (list_formals arity list) (as_read is_logical text) len read);
    }

by_list : (text : List ℕ) (fs : List Formal) (after : List ℕ) → formals_of_list text ≡ Listed (Some fs) after → AreSoundFormals fs
unfolding formals_of_list
by_list text fs after e = grind (arith, cases_Bool, listed_same, cond-true, no_formals_sound, in_sound, cond-false)

-- the formals of a list are sound (this project's profile)
pub listed_sound : (text : List ℕ) (o : Option (List Formal)) (after : List ℕ) → formals_of_list text ≡ Listed o after → AreSoundFormals (unwrap_or o [])
listed_sound text None after e = no_formals_sound
listed_sound text (Some fs) after e = by_list text fs after e

-- The formals of a macro as the text of their list.

-- a list without formals
no_length : (o : Option (List Formal)) → unwrap_or (option_map length o) 0 ≡ 0 → unwrap_or o [] ≡ []
no_length None e = refl
no_length (Some fs) e = nil_from_length fs e

pub no_formals : (arity : Option ℕ) (list : List ℕ) (size : ℕ) (items : List ℕ) → IsList arity list size → unwrap_or arity 0 ≡ 0 → items ≡ items ++ flat_map formal_bytes (unwrap_or (list_formals arity list) [])
no_formals arity list size items l e =
    sym (ap (λ (fs : List Formal). items ++ flat_map formal_bytes fs) (no_length (list_formals arity list) (ap (λ (o : Option ℕ). unwrap_or o 0) l.arity_is ∙ e)) ∙ append-nil items)

-- a list that has formals
pub record HasFormals (arity : Option ℕ) (list : List ℕ) : Type 0 where
  pub is_read : is_some (listed (formals_in 255 [] (as_read true list))) ≡ true
  pub same : unwrap_or (list_formals arity list) [] ≡ unwrap_or (listed (formals_in 255 [] (as_read true list))) []

by_length : (o : Option (List Formal)) (n : ℕ) → option_map length o ≡ Some n → is_some o ≡ true
by_length None n e = absurd (cc)
by_length (Some fs) n e = refl

listed_count : (text : List ℕ) (n : ℕ) → option_map length (listed (formals_of_list text)) ≡ Some n → 0 < n → formals_of_list text ≡ formals_in 255 [] text
unfolding formals_of_list listed
listed_count text n e h = grind (arith, cases_Bool, cond-true, cond-false)

pub has_formals : (arity : Option ℕ) (list : List ℕ) (size : ℕ) → IsList arity list size → 0 < unwrap_or arity 0 → HasFormals arity list
unfolding list_formals
has_formals None list size l h = absurd (omega arith)
has_formals (Some n) list size l h =
    let e : formals_of_list (as_read true list) ≡ formals_in 255 [] (as_read true list) = listed_count (as_read true list) n l.arity_is h in
    grind (arith, by_length)

-- a list that was read
pub list_is : (list following : List ℕ) (count size : ℕ) → (formals : List Formal) × IsRead (formals_of_list (as_read true list)) following count size formals → (IsList (Some count) list size) × (formals_of_list (as_read true list) ≡ Listed (list_formals (Some count) list) following)
unfolding list_formals listed
list_is list following count size r = grind arith

pub no_list_is : (list : List ℕ) → IsList None list 0
unfolding list_formals
no_list_is list = record { size_is = refl; arity_is = refl; plain = refl }

-- What is told of a macro that isn't stored.

pub body_told : (name : List ℕ) (arity : Option ℕ) (list : List ℕ) (size : ℕ) (is_logical : Bool) (text : List ℕ) (len : ℕ) (m : Macro) → IsNew name arity list size is_logical text len → new_macro name arity list is_logical text ≡ m → len ≡ length m.body
body_told name arity list size is_logical text len m n e = sym (left_len (trims false) (cleared None (as_read is_logical text)) len n.body_is) ∙ ap (λ (x : Macro). length x.body) e

pub formals_told : (name : List ℕ) (arity : Option ℕ) (list : List ℕ) (size : ℕ) (is_logical : Bool) (text : List ℕ) (len : ℕ) (m : Macro) → IsNew name arity list size is_logical text len → new_macro name arity list is_logical text ≡ m → size ≡ list_size m
unfolding list_size
formals_told name arity list size is_logical text len m n e = sym n.listed.size_is ∙ ap (λ (x : Macro). list_size x) e

pub plain_told : (name : List ℕ) (arity : Option ℕ) (list : List ℕ) (size : ℕ) (is_logical : Bool) (text : List ℕ) (len : ℕ) (m : Macro) → IsNew name arity list size is_logical text len → new_macro name arity list is_logical text ≡ m → is_plain_macro m ≡ true
unfolding is_plain_macro
plain_told name arity list size is_logical text len m n e = ap is_plain_macro (sym e) ∙ n.listed.plain
