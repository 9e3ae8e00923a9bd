-- What a `define` reads: its macro, or its first fault.
-- A definition that names no source is this project's own.
use Rattle.std.specs.Prelude.{ℕ, zero, suc, ◌-◌, Bool, ◌&&◌, ◌==◌, nat_lt, List, [], ◌∷◌, ◌++◌, length, take, drop, bytes_eq, slice_index, Option, None, Some, Result, Ok, Err, unwrap_or, if◌then◌else◌}
use Rattle.std.specs.List.{prefix_len, list_any}
use Rattle.std.specs.Option.{option_map}
use Rattle.rdlpp_scan.specs.declared.token.Kind.TheVariants.{LineComment}
use Rattle.rdlpp_scan.specs.declared.token.Mode.TheVariants.{Plain}
use Rattle.rdlpp_scan.specs.declared.token.Token.{Token}
use Rattle.rdlpp_scan.specs.declared.token.LexFault.{LexFault}
use Rattle.rdlpp_scan.specs.declared.token.LexFault.TheVariants.{Perl, OpenString, OpenComment}
use Rattle.rdlpp_scan.specs.Bytes.{is_blank, is_letter, is_word}
use Rattle.rdlpp_scan.specs.Tokens.{tokens_from}
use Rattle.rdlpp_scan.specs.LexFaults.{is_perl, lex_fault_from}
use Rattle.rdlpp_scan.specs.SourceTokens.{logical_len}
use Rattle.rdlpp_scan.specs.Names.{is_name}
use Rattle.rdlpp_scan.specs.Reserved.{is_reserved}
unfoldable pub use Rattle.rdlpp_scan.specs.Continuations.{continuation_len, without_continuations}
unfoldable pub use Rattle.rdlpp_scan.specs.KeptText.{is_space, onto_trimmed, without_end, trimmed_of, ends_default, level_after}
use Rattle.rdlpp_define.specs.Macros.{Formal, Macro}
use Rattle.rdlpp_define.specs.declared.fault.DefineKind.{DefineKind}
use Rattle.rdlpp_define.specs.declared.fault.DefineFault.{DefineFault}
use Rattle.rdlpp_define.specs.declared.fault.DefineKind.TheVariants as kind

-- a logical line without the LF that ends it, where one does (this project's profile)
unfoldable pub unended : List ℕ → List ℕ
unended rest = elim (logical_len 0 0 rest) [ Some n ↦ take (n - 1) rest | None ↦ rest ]

-- the text of a logical line: without the LF that ends it, and with LF in the place of each continuation (this project's profile)
unfoldable pub logical_text : List ℕ → List ℕ
logical_text rest = without_continuations 0 (unended rest)

-- a text without the white space with which it begins
unfoldable pub after_space : List ℕ → List ℕ
after_space bytes = drop (prefix_len is_space bytes) bytes

-- the name with which a text begins, or nothing
unfoldable pub leading_name : List ℕ → List ℕ
leading_name bytes = if is_letter (slice_index bytes 0) then take (prefix_len is_word bytes) bytes else []

-- whether a list is empty
abbrev pub is_nothing : {A : Type 0} → List A → Bool
is_nothing xs = length xs == 0

-- what is wrong with the name of a macro: nothing stands there, it is reserved, it is too long (this project's profile)
unfoldable pub name_fault : List ℕ → Option DefineKind
name_fault name =
    if is_nothing name then Some kind.NameExpected
    else (if is_reserved name then Some kind.ReservedName
    else (if nat_lt 128 (length name) then Some kind.NameTooLong
    else None))

-- what is left of tokens and their text without the `//` comments (this project's profile)
unfoldable pub text_without_line_comments : List Token → List ℕ → List ℕ
text_without_line_comments [] text = []
text_without_line_comments (t ∷ ts) text = elim t.kind [
  | LineComment ↦ text_without_line_comments ts (drop t.len text)
  | _ ↦ take t.len text ++ text_without_line_comments ts (drop t.len text)
]

-- a text without the blanks at both ends (this project's profile)
unfoldable pub trimmed : List ℕ → List ℕ
trimmed bytes = trimmed_of is_blank bytes

-- a fault of the tokens, as a reason to refuse a definition
unfoldable pub lexical : LexFault → DefineKind
lexical Perl = kind.EmbeddedPerl
lexical OpenString = kind.OpenString
lexical OpenComment = kind.OpenComment

-- a default text, and what stands after it
pub record DefaultText : Type 0 where
  pub text : List ℕ
  pub following : List ℕ

-- the bytes of a token in front of a default text; a `//` comment goes (this project's profile)
unfoldable pub onto_default : Token → List ℕ → Option DefaultText → Option DefaultText
onto_default t text None = None
onto_default t text (Some d) = elim t.kind [
  | LineComment ↦ Some d
  | _ ↦ Some (record { text = take t.len text ++ d.text; following = d.following })
]

-- the default text with which a text begins, by its tokens, from a level on: up to the first `,` or `)` at level 0, without its
-- `//` comments; none where `<%` outside comments or the text's end comes before that, also inside a string or a block comment
-- (this project's profile)
unfoldable pub default_of_tokens : ℕ → List Token → List ℕ → Option DefaultText
default_of_tokens level [] text = None
default_of_tokens level (t ∷ ts) text =
    if is_perl t.kind then None
    else (if level == 0 && ends_default t.kind (slice_index text 0) then Some (record { text = []; following = text })
    else onto_default t text (default_of_tokens (level_after t.kind level) ts (drop t.len text)))

-- a default text without the blanks and LF at both ends (this project's profile)
unfoldable pub trimmed_default : DefaultText → DefaultText
trimmed_default d = record { text = trimmed_of is_space d.text; following = d.following }

-- the default text of a formal, by what stands after its name: empty where no `=` stands there (this project's profile)
unfoldable pub default_in : List ℕ → Option DefaultText
default_in following =
    if slice_index following 0 == 61 then option_map trimmed_default (default_of_tokens 0 (tokens_from Plain 0 (drop 1 following)) (drop 1 following))
    else Some (record { text = []; following = following })

-- a formal that was read and what stands after it, or what is wrong with it
pub data OneFormal : Type 0 where
  Good : Formal → List ℕ → OneFormal
  FormalFault : DefineKind → OneFormal

-- the formals of a list and the text after it, or what is wrong with them
pub data FormalList : Type 0 where
  Listed : Option (List Formal) → List ℕ → FormalList
  FormalListFault : DefineKind → FormalList

-- the name of the formal with which a list's text begins, or nothing (IEEE 1364-2001, `define`)
unfoldable pub formal_name : List ℕ → List ℕ
formal_name text = leading_name (after_space text)

-- what stands after that name and the white space after it
unfoldable pub after_name : List ℕ → List ℕ
after_name text = after_space (drop (length (formal_name text)) (after_space text))

-- what is wrong with the name of a formal, after other formals: no name stands there, it is too long, it was given before
-- (this project's profile)
unfoldable pub formal_fault : List Formal → List ℕ → Option DefineKind
formal_fault before name =
    if is_nothing name then Some kind.BadFormals
    else (if nat_lt 128 (length name) then Some kind.NameTooLong
    else (if list_any (λ f. bytes_eq f.name name) before then Some kind.FormalTwice
    else None))

-- a formal of a name with its default text, where that has no fault (this project's profile)
unfoldable pub with_default : List ℕ → Option DefaultText → OneFormal
with_default name None = FormalFault kind.BadFormals
with_default name (Some d) = Good (record { name = name; text = d.text }) d.following

-- the formal with which a list's text begins, after other formals (this project's profile)
unfoldable pub formal_in : List Formal → List ℕ → OneFormal
formal_in before text = elim (formal_fault before (formal_name text)) [
  | Some k ↦ FormalFault k
  | None ↦ with_default (formal_name text) (default_in (after_name text))
]

-- the formals of a list's text, after other formals, up to the first fault, where so many more may follow; `,` stands between two
-- of them, and `)` after the last (IEEE 1364-2001, `define`; the faults are this project's profile)
unfoldable pub formals_in : ℕ → List Formal → List ℕ → FormalList
formals_in zero before text = FormalListFault (unwrap_or (formal_fault before (formal_name text)) kind.TooManyFormals)
formals_in (suc room) before text = elim (formal_in before text) [
  | FormalFault k ↦ FormalListFault k
  | Good f following ↦ if slice_index following 0 == 44 then formals_in room (before ++ f ∷ []) (drop 1 following)
      else (if slice_index following 0 == 41 then Listed (Some (before ++ f ∷ [])) (drop 1 following)
      else FormalListFault kind.BadFormals)
]

-- the formals of a list, after its `(`, and the text after it: none where all is white space up to its `)`, else at most 255
-- (this project's profile)
unfoldable pub formals_of_list : List ℕ → FormalList
formals_of_list text =
    if slice_index (after_space text) 0 == 41 then Listed (Some []) (drop 1 (after_space text)) else formals_in 255 [] text

-- what stands after the name of a macro: a formal list where a `(` follows at once, then the text of the body
-- (IEEE 1364-2001, `define`)
unfoldable pub formal_list : List ℕ → FormalList
formal_list after =
    if slice_index after 0 == 40 then formals_of_list (drop 1 after) else Listed None after

-- a macro that isn't stored yet, or why there is none, and for a reserved name that name
pub data Draft : Type 0 where
  Drawn : Macro → Draft
  DraftFault : DefineKind → List ℕ → Draft

-- a macro with a body, or the first lexical fault of the body's text (this project's profile)
unfoldable pub with_body : List ℕ → Option (List Formal) → List ℕ → Draft
with_body name formals text =
    elim (lex_fault_from Plain text) [
      | Some fault ↦ DraftFault (lexical fault) []
      | None ↦ Drawn (record { name = name; formals = formals; body = trimmed (text_without_line_comments (tokens_from Plain 0 text) text) })
    ]

-- the word of a refusal: a reserved name, else nothing
unfoldable pub refused_word : DefineKind → List ℕ → List ℕ
refused_word kind.ReservedName name = name
refused_word _ name = []

-- a macro of a name with what stands after the name (this project's profile)
unfoldable pub with_list : List ℕ → List ℕ → Draft
with_list name after = elim (formal_list after) [
  | FormalListFault k ↦ DraftFault k []
  | Listed formals text ↦ with_body name formals text
]

-- the macro of a text whose header begins with a name (this project's profile)
unfoldable pub macro_from : List ℕ → Draft
macro_from text =
    let name = leading_name text in
    elim (name_fault name) [
      | Some k ↦ DraftFault k (refused_word k name)
      | None ↦ with_list name (drop (length name) text)
    ]

-- the macro of what follows the word `define` (IEEE 1364-2001, `define`; the faults are this project's profile)
unfoldable pub macro_of : List ℕ → Draft
macro_of rest = macro_from (after_space (logical_text rest))

-- a macro of a name without a formal list (this project's profile)
unfoldable pub without_list : List ℕ → List ℕ → Draft
without_list name text = elim (name_fault name) [
  | Some k ↦ DraftFault k (refused_word k name)
  | None ↦ with_body name None text
]

-- the macro without a formal list of a text that is one name, and of a body's text without continuations (this project's profile)
unfoldable pub macro_set : List ℕ → List ℕ → Draft
macro_set name text = if is_name name then without_list name text else DraftFault kind.NameExpected []

-- what a call tells of a macro that it reads
unfoldable pub drafted : Result Macro DefineFault → Draft
drafted (Ok m) = Drawn m
drafted (Err fault) = DraftFault fault.kind fault.word.bytes
