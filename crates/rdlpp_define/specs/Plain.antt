-- Which formals can be told from their bytes as a table keeps them.
-- A definition that names no source is this project's own.
use Rattle.std.specs.Prelude.{ℕ, Bool, not, ◌&&◌, ◌||◌, ◌==◌, List, [], ◌∷◌, drop, slice_index, unwrap_or, is_none}
use Rattle.std.specs.List.{list_all}
use Rattle.rdlpp_scan.specs.declared.token.Mode.TheVariants.{Plain}
use Rattle.rdlpp_scan.specs.declared.token.Token.{Token}
use Rattle.rdlpp_scan.specs.Comments.{is_line_comment}
use Rattle.rdlpp_scan.specs.LexFaults.{lex_fault_from}
use Rattle.rdlpp_scan.specs.Tokens.{tokens_from}
use Rattle.rdlpp_scan.specs.KeptText.{ends_default, level_after}
use Rattle.rdlpp_define.specs.Macros.{Formal, Macro}

-- a byte of a formal's name in a table's bytes: neither the `,` nor the `=` that stands after it
unfoldable pub is_name_byte : ℕ → Bool
is_name_byte b = not (b == 44 || b == 61)

-- whether tokens of a text go on from a level up to its end and are at level 0 there, and none of them ends a default text before
unfoldable pub fills : ℕ → List Token → List ℕ → Bool
fills level [] text = level == 0
fills level (t ∷ ts) text = not (level == 0 && ends_default t.kind (slice_index text 0)) && fills (level_after t.kind level) ts (drop t.len text)

-- whether a text is read whole: no lexical fault, and no `//` comment
unfoldable pub is_clean : List ℕ → Bool
is_clean text = is_none (lex_fault_from Plain text) && list_all (λ t. not (is_line_comment t.kind)) (tokens_from Plain 0 text)

-- whether a default text is read back up to the `,` after it
unfoldable pub is_default : List ℕ → Bool
is_default text = is_clean text && fills 0 (tokens_from Plain 0 text) text

-- whether a formal can be told from its bytes: its name has neither `,` nor `=`, and its default text is read back
unfoldable pub is_plain_formal : Formal → Bool
is_plain_formal f = list_all is_name_byte f.name && is_default f.text

-- whether all formals of a macro can be told from their bytes
unfoldable pub is_plain_macro : Macro → Bool
is_plain_macro m = list_all is_plain_formal (unwrap_or m.formals [])
