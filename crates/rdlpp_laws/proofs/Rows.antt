-- Worked rows of the profile, and cases on either side of a border, each by computation.
use Rattle.std.proofs.Common.{◌≡◌, ℕ, Bool, true, false, List, [], ◌∷◌, refl, codes, None, Some, bytes_eq, zero, suc, ◌+◌, ◌-◌, ◌++◌, decimal, replicate, if◌then◌else◌}
use Rattle.std.specs.Char.{encode_utf8}
use Rattle.std.specs.Fmt.{digits}
use Rattle.std.specs.Str.{chars, is_utf8}
use Rattle.rdlpp_scan.specs.Bytes.{begins_block_comment, begins_line_comment, begins_perl, ends_block_comment, is_blank, is_closer, is_digit, is_letter, is_line_end, is_opener, is_word, takes_word}
use Rattle.rdlpp_scan.specs.Front.{front, front_of_lines, lines_of, onto_first, onto_front}
use Rattle.rdlpp_scan.specs.LexFaults.{fault_of_tokens, is_perl, lex_fault_from, open_fault}
use Rattle.rdlpp_scan.specs.Reserved.{is_reserved, reserved_names}
use Rattle.rdlpp_scan.specs.SourceTokens.{back_step, broken, comment_step, define_step, is_continued, line_after, line_ends, line_len, line_step, logical_len, open_end, remaining_tokens, source_end, source_step, source_tokens, step_by, string_step, whole_tokens}
use Rattle.rdlpp_scan.specs.Tokens.{block_token, first_place, plain_len, plain_token, stops_plain_text, string_stop, string_token, token_of, tokens_from, whole}
use Rattle.rdlpp_define.specs.Define.{after_space, after_name, continuation_len, default_in, default_of_tokens, ends_default, formal_fault, formal_in, formal_list, formal_name, formals_in, formals_of_list, is_space, leading_name, level_after as default_level, lexical, logical_text, macro_from, macro_of, name_fault, onto_default, onto_trimmed, refused_word, trimmed, trimmed_default, trimmed_of, unended, with_body, with_default, with_list, without_continuations, without_end, text_without_line_comments}
use Rattle.rdlpp_define.specs.Defined.{define_of, stored, stored_draft}
use Rattle.rdlpp_define.specs.Macros.{Macro, default_size, formal_size, macro_size, most_formals}
use Rattle.rdlpp_define.specs.Table.{macro_named, table_size, without}
use Rattle.rdlpp_define.specs.declared.limits.Limits.{Limits}
use Rattle.rdlpp_meaning.specs.Actuals.{actual_of, after_leading_space, broken_role, is_space as actuals_is_space, item_role, item_size, kept_size, kind_role, level_after, token_role, trimmed as actuals_trimmed}
use Rattle.rdlpp_meaning.specs.CallScan.{call_of_scan, fault_at_end, room_after, scan, scan_onto, scanned, split, split_by, call_state_after, call_state_after_lead, turn as call_turn, turn_before, turn_fitting, turn_inside}
use Rattle.rdlpp_meaning.specs.Expansion.{bound_parts, expand, is_copied, is_count, name_of, run_outcome, usage_of, usage_of_call, usage_of_formals, usage_of_macro, walk}
use Rattle.rdlpp_meaning.specs.Items.{broken_line, listed, packed, unlined, unlined_item}
use Rattle.rdlpp_meaning.specs.Meaning.{added_end, at_start_of, back_in, begun, after_bytes, by_test, defines, digits_value, goes_on, in_conditional, includes, includes_found, includes_given, includes_named, is_defined, is_else, is_level, leaves, macro_name, mean, name_test, included_meaning_of, opening, opening_within, origin_line, outcome, past_blank_bytes, past_conditional, quote_place, refusal, renumbered, renumbered_name, renumbers, single, skip, skipped_command, skipped_run, text_meaning, turn, turned, unclosed, undefines, unquoted, wants_defined}
use Rattle.rdlpp_meaning.specs.Outcome.{Outcome, and_then, fails, gives}
use Rattle.rdlpp_meaning.specs.Output.{character_place, name_cut, opening_fault, output, start_state}
use Rattle.rdlpp_meaning.specs.OutputLimit.{limited, limited_output, search_rules, unlimited_output}
use Rattle.rdlpp_meaning.specs.Parts.{appended, argument_of, after_blanks, after_end, command_of, tokenless_worded, directive_of, front_parts, further_branches, in_front, joined, level_of, level_parts, line_ends_of, name_in_front, no_argument, one_argument, only_blanks, opened_before, parts_of, past_blanks, piece_of, pieces, string_in_front}
use Rattle.rdlpp_meaning.specs.Profile.{define_fault, rules_of, with_fault}
use Rattle.rdlpp_meaning.specs.State.{LongPath, Lookup, NoSource, Rules, Source, breach_kind, fault_at, no_shift, shown_line}
use Rattle.rdlpp_meaning.specs.Substitution.{body_tokens, bound_to, mark_of, mark_or, marked, spelled, standing_of, substituted}
use Rattle.rdlpp_meaning.specs.declared.fault.FaultKind.TheVariants as fault

-- Worked rows of the profile, each by computation.

-- a source of a row: its path and its text
pub record File : Type 0 where
  pub path : List ℕ
  pub text : List ℕ

-- the source of a path, the first one of it
unfoldable pub found_in : List File → List ℕ → Lookup
found_in [] path = NoSource
found_in (f ∷ fs) path = if bytes_eq f.path path then Source path f.text else found_in fs path

-- the standard limits
abbrev pub standard : Limits
standard = record { depth = 256; includes = 16; line_bytes = 65536; source_bytes = 1073741824; argument_bytes = 65536; definition_bytes = 1048576; definitions = 4096; conditions = 256; output_bytes = 18446744073709551615 }

-- the output of a row from macros, where names of sources are paths
unfoldable pub row_from : List Macro → Limits → Bool → List File → Outcome
unfolding found_in is_utf8 chars encode_utf8 digits is_blank is_line_end is_letter is_digit is_word is_opener is_closer takes_word begins_perl begins_line_comment begins_block_comment ends_block_comment first_place string_stop whole string_token block_token plain_token token_of tokens_from stops_plain_text plain_len line_ends line_after broken is_continued logical_len line_len open_end string_step comment_step define_step line_step back_step step_by source_step source_end source_tokens remaining_tokens whole_tokens onto_first lines_of onto_front front_of_lines front reserved_names is_reserved macro_named without formal_size macro_size table_size continuation_len without_continuations logical_text is_space after_space leading_name name_fault text_without_line_comments unended onto_trimmed is_perl open_fault fault_of_tokens lex_fault_from without_end trimmed_of ends_default default_level onto_default default_of_tokens trimmed_default default_in formal_name after_name formal_fault with_default default_size trimmed lexical formal_in formals_in formals_of_list formal_list with_body refused_word with_list macro_from macro_of stored stored_draft define_of gives fails and_then no_shift shown_line fault_at breach_kind listed packed level_after kept_size turn_before turn_fitting turn_inside call_turn call_state_after_lead call_state_after room_after fault_at_end scan_onto scanned scan split_by split call_of_scan actuals_is_space after_leading_space actuals_trimmed kind_role broken_role token_role item_role item_size spelled body_tokens standing_of bound_to mark_of mark_or marked substituted name_of bound_parts is_count actual_of unlined_item unlined broken_line usage_of_call usage_of_formals usage_of_macro usage_of walk expand is_copied run_outcome only_blanks line_ends_of tokenless_worded directive_of no_argument one_argument after_blanks name_in_front string_in_front past_blanks argument_of command_of piece_of joined pieces in_front front_parts further_branches after_end opened_before level_of appended level_parts parts_of leaves outcome after_bytes goes_on refusal skipped_run skipped_command macro_name defines undefines origin_line at_start_of back_in added_end includes includes_found unquoted includes_named includes_given quote_place past_blank_bytes digits_value is_level renumbered_name renumbered renumbers single by_test is_defined name_test wants_defined opening_within opening in_conditional past_conditional begun is_else turn turned unclosed included_meaning_of text_meaning skip mean character_place name_cut opening_fault start_state output define_fault with_fault rules_of limited search_rules unlimited_output limited_output
row_from macros limits origins files =
    limited_output limits (record { main = λ path. found_in files path; included = λ from name. found_in files name }) origins macros
    (codes "m")

-- the output of a row from no macros
unfoldable pub row : Limits → Bool → List File → Outcome
unfolding row_from
row limits origins files = row_from [] limits origins files

-- bytes and no fault
abbrev pub whole_output : List ℕ → Outcome
whole_output bytes = record { bytes = bytes; fault = None }

row_1 : row standard false (record { path = codes "m"; text = [] } ∷ [])
    ≡ whole_output []
unfolding row
row_1 = refl

row_2 : row standard false (record { path = codes "m"; text = (codes "`define W 8\nreg[`W];\n") } ∷ [])
    ≡ whole_output (codes "\nreg[8];\n")
unfolding row
row_2 = refl

row_3 : row standard false (record { path = codes "m"; text = (codes "`define A(x) (x+x)\n`A(`A(1))\n") } ∷ [])
    ≡ whole_output (codes "\n((1+1)+(1+1))\n")
unfolding row
row_3 = refl

row_4 : row standard false (record { path = codes "m"; text = (codes "`define A `B\n`define B `A\nx `A ") } ∷ [])
    ≡ record { bytes = (codes "\n\nx "); fault = Some (record { kind = fault.RecursiveMacro; name = (codes "m"); line = 3; word = (codes "A") }) }
unfolding row
row_4 = refl

row_5 : row standard false (record { path = codes "m"; text = (codes "`define F(x,y) y\n`F((1,2),[3,4])\n") } ∷ [])
    ≡ whole_output (codes "\n[3,4]\n")
unfolding row
row_5 = refl

row_6 : row standard false (record { path = codes "m"; text = (codes "`define G(x) x\n`define C(f) f(1)\n`C(`G)\n") } ∷ [])
    ≡ record { bytes = (codes "\n\n"); fault = Some (record { kind = fault.ArgumentsMissing; name = (codes "m"); line = 3; word = (codes "G") }) }
unfolding row
row_6 = refl

row_7 : row standard false (record { path = codes "m"; text = (codes "`define A 1\n\"`A\" A `A") } ∷ [])
    ≡ whole_output (codes "\n\"`A\" A 1")
unfolding row
row_7 = refl

row_8 : row standard false (record { path = codes "m"; text = (codes "`define R a \\\nb // c\n`R;\n") } ∷ [])
    ≡ whole_output (codes "\n\na \nb;\n")
unfolding row
row_8 = refl

row_9 : row standard false (record { path = codes "m"; text = (codes "a`ifdef X b`else c`endif d\n") } ∷ [])
    ≡ whole_output (codes "a c d\n")
unfolding row
row_9 = refl

row_10 : row standard false (record { path = codes "m"; text = (codes "`ifdef X\ny\n") } ∷ [])
    ≡ record { bytes = (codes "\n\n"); fault = Some (record { kind = fault.OpenConditional; name = (codes "m"); line = 1; word = [] }) }
unfolding row
row_10 = refl

row_11a : row standard false (record { path = codes "m"; text = (codes "`include \"i\"\nz\n") } ∷ record { path = codes "i"; text = (codes "q") } ∷ [])
    ≡ whole_output (codes "q\n\nz\n")
unfolding row
row_11a = refl

row_11b : row (record standard { includes = 0 }) false (record { path = codes "m"; text = (codes "`include \"i\"\nz\n") } ∷ record { path = codes "i"; text = (codes "q") } ∷ [])
    ≡ record { bytes = []; fault = Some (record { kind = fault.TooManyIncludes; name = (codes "m"); line = 1; word = [] }) }
unfolding row
row_11b = refl

row_11c : row standard false (record { path = codes "m"; text = (codes "`include \"i\"\nz\n") } ∷ [])
    ≡ record { bytes = []; fault = Some (record { kind = fault.SourceNotFound; name = (codes "m"); line = 1; word = [] }) }
unfolding row
row_11c = refl

row_13a : row standard false (record { path = codes "m"; text = (codes "a\nb <% x %>\n") } ∷ [])
    ≡ record { bytes = (codes "a\nb "); fault = Some (record { kind = fault.EmbeddedPerl; name = (codes "m"); line = 2; word = [] }) }
unfolding row
row_13a = refl

row_13b : row standard false (record { path = codes "m"; text = (codes "// <% x %>\n") } ∷ [])
    ≡ whole_output (codes "// <% x %>\n")
unfolding row
row_13b = refl

row_14 : row standard false (record { path = codes "m"; text = (codes "`line 10 \"v.rdl\" 0\n`Q") } ∷ [])
    ≡ record { bytes = (codes "\n"); fault = Some (record { kind = fault.UndefinedMacro; name = (codes "v.rdl"); line = 10; word = (codes "Q") }) }
unfolding row
row_14 = refl

row_15a : row (record standard { argument_bytes = 16 }) false (record { path = codes "m"; text = (codes "`define K(x) k\n`K(0123456789abcdef)\n") } ∷ [])
    ≡ whole_output (codes "\nk\n")
unfolding row
row_15a = refl

row_15b : row (record standard { argument_bytes = 16 }) false (record { path = codes "m"; text = (codes "`define K(x) k\n`K(0123456789abcdefg)\n") } ∷ [])
    ≡ record { bytes = (codes "\n"); fault = Some (record { kind = fault.ArgumentBytes; name = (codes "m"); line = 2; word = (codes "K") }) }
unfolding row
row_15b = refl

row_16a : row standard false (record { path = codes "m"; text = (codes "`define K(x) k\n`K(`nope)\n") } ∷ [])
    ≡ whole_output (codes "\nk\n")
unfolding row
row_16a = refl

row_16b : row standard false (record { path = codes "m"; text = (codes "`define K(x) k\n`K(1,2)\n") } ∷ [])
    ≡ record { bytes = (codes "\n"); fault = Some (record { kind = fault.ArgumentCount; name = (codes "m"); line = 2; word = (codes "K") }) }
unfolding row
row_16b = refl

row_17 : row (record standard { depth = 1 }) false (record { path = codes "m"; text = (codes "`define A `B\n`define B 1\n`B `A") } ∷ [])
    ≡ record { bytes = (codes "\n\n1 "); fault = Some (record { kind = fault.DepthPassed; name = (codes "m"); line = 3; word = [] }) }
unfolding row
row_17 = refl

row_18 : row standard false (record { path = codes "m"; text = (codes "`define A 1\n`define A 2\n`A`undef A\n`A") } ∷ [])
    ≡ record { bytes = (codes "\n\n2\n"); fault = Some (record { kind = fault.UndefinedMacro; name = (codes "m"); line = 4; word = (codes "A") }) }
unfolding row
row_18 = refl

row_19a : row (record standard { depth = 4 }) false (record { path = codes "m"; text = (codes "`define P(a,b) a:b\n`define Q(x) `P(x, [x])\n`Q(1)\n") } ∷ [])
    ≡ whole_output (codes "\n\n1:[1]\n")
unfolding row
row_19a = refl

row_19b : row (record standard { depth = 3 }) false (record { path = codes "m"; text = (codes "`define P(a,b) a:b\n`define Q(x) `P(x, [x])\n`Q(1)\n") } ∷ [])
    ≡ record { bytes = (codes "\n\n"); fault = Some (record { kind = fault.DepthPassed; name = (codes "m"); line = 3; word = [] }) }
unfolding row
row_19b = refl

row_20 : row standard false (record { path = codes "m"; text = (codes "`define S(x) <x>\n`S( // one\n 1\n)!\n") } ∷ [])
    ≡ whole_output (codes "\n<1>!\n")
unfolding row
row_20 = refl

row_21 : row standard false (record { path = codes "m"; text = (codes "`define H(F) 8'hF F \\F \"F\"\n`H(3)\n") } ∷ [])
    ≡ whole_output (codes "\n8'hF 3 \\F \"F\"\n")
unfolding row
row_21 = refl

row_22 : row standard false (record { path = codes "m"; text = (codes "`ifdef X\n`include \"no\"\n\"a\nb\"\n`else\nc\n`endif\n") } ∷ [])
    ≡ whole_output (codes "\n\n\n\n\nc\n\n")
unfolding row
row_22 = refl

row_23a : row standard false (record { path = codes "m"; text = (codes "`ifdef X\n`else\n`else\n") } ∷ [])
    ≡ record { bytes = (codes "\n\n"); fault = Some (record { kind = fault.BranchAfterElse; name = (codes "m"); line = 3; word = [] }) }
unfolding row
row_23a = refl

row_23b : row standard false (record { path = codes "m"; text = (codes "`endif") } ∷ [])
    ≡ record { bytes = []; fault = Some (record { kind = fault.StrayBranch; name = (codes "m"); line = 1; word = [] }) }
unfolding row
row_23b = refl

row_24 : row standard false (record { path = codes "m"; text = (codes "`ifndef X\n`include \"i\"\n`endif\n") } ∷ record { path = codes "i"; text = (codes "`endif\n") } ∷ [])
    ≡ record { bytes = (codes "\n"); fault = Some (record { kind = fault.StrayBranch; name = (codes "i"); line = 1; word = [] }) }
unfolding row
row_24 = refl

row_25 : row (record standard { includes = 2 }) false (record { path = codes "m"; text = (codes "`include \"m\"\n") } ∷ [])
    ≡ record { bytes = []; fault = Some (record { kind = fault.TooManyIncludes; name = (codes "m"); line = 1; word = [] }) }
unfolding row
row_25 = refl

row_26a : row (record standard { line_bytes = 256 }) false (record { path = codes "m"; text = (codes "aaaaaaaaaaaaaaaaaaaaaaaaaaaaaaaaaaaaaaaaaaaaaaaaaaaaaaaaaaaaaaaaaaaaaaaaaaaaaaaaaaaaaaaaaaaaaaaaaaaaaaaaaaaaaaaaaaaaaaaaaaaaaaaaaaaaaaaaaaaaaaaaaaaaaaaaaaaaaaaaaaaaaaaaaaaaaaaaaaaaaaaaaaaaaaaaaaaaaaaaaaaaaaaaaaaaaaaaaaaaaaaaaaaaaaaaaaaaaaaaaaaaaaaaaaaaaaa\n") } ∷ [])
    ≡ whole_output (codes "aaaaaaaaaaaaaaaaaaaaaaaaaaaaaaaaaaaaaaaaaaaaaaaaaaaaaaaaaaaaaaaaaaaaaaaaaaaaaaaaaaaaaaaaaaaaaaaaaaaaaaaaaaaaaaaaaaaaaaaaaaaaaaaaaaaaaaaaaaaaaaaaaaaaaaaaaaaaaaaaaaaaaaaaaaaaaaaaaaaaaaaaaaaaaaaaaaaaaaaaaaaaaaaaaaaaaaaaaaaaaaaaaaaaaaaaaaaaaaaaaaaaaaaaaaaaaaa\n")
unfolding row
row_26a = refl

row_26b : row (record standard { line_bytes = 256 }) false (record { path = codes "m"; text = (codes "aaaaaaaaaaaaaaaaaaaaaaaaaaaaaaaaaaaaaaaaaaaaaaaaaaaaaaaaaaaaaaaaaaaaaaaaaaaaaaaaaaaaaaaaaaaaaaaaaaaaaaaaaaaaaaaaaaaaaaaaaaaaaaaaaaaaaaaaaaaaaaaaaaaaaaaaaaaaaaaaaaaaaaaaaaaaaaaaaaaaaaaaaaaaaaaaaaaaaaaaaaaaaaaaaaaaaaaaaaaaaaaaaaaaaaaaaaaaaaaaaaaaaaaaaaaaaaaa") } ∷ [])
    ≡ whole_output (codes "aaaaaaaaaaaaaaaaaaaaaaaaaaaaaaaaaaaaaaaaaaaaaaaaaaaaaaaaaaaaaaaaaaaaaaaaaaaaaaaaaaaaaaaaaaaaaaaaaaaaaaaaaaaaaaaaaaaaaaaaaaaaaaaaaaaaaaaaaaaaaaaaaaaaaaaaaaaaaaaaaaaaaaaaaaaaaaaaaaaaaaaaaaaaaaaaaaaaaaaaaaaaaaaaaaaaaaaaaaaaaaaaaaaaaaaaaaaaaaaaaaaaaaaaaaaaaaaa")
unfolding row
row_26b = refl

row_26c : row (record standard { line_bytes = 256 }) false (record { path = codes "m"; text = (codes "aaaaaaaaaaaaaaaaaaaaaaaaaaaaaaaaaaaaaaaaaaaaaaaaaaaaaaaaaaaaaaaaaaaaaaaaaaaaaaaaaaaaaaaaaaaaaaaaaaaaaaaaaaaaaaaaaaaaaaaaaaaaaaaaaaaaaaaaaaaaaaaaaaaaaaaaaaaaaaaaaaaaaaaaaaaaaaaaaaaaaaaaaaaaaaaaaaaaaaaaaaaaaaaaaaaaaaaaaaaaaaaaaaaaaaaaaaaaaaaaaaaaaaaaaaaaaaaa\n") } ∷ [])
    ≡ record { bytes = []; fault = Some (record { kind = fault.LineTooLong; name = (codes "m"); line = 1; word = [] }) }
unfolding row
row_26c = refl

row_27a : row (record standard { source_bytes = 4 }) false (record { path = codes "m"; text = (codes "ab\nc") } ∷ [])
    ≡ whole_output (codes "ab\nc")
unfolding row
row_27a = refl

row_27b : row (record standard { source_bytes = 4 }) false (record { path = codes "m"; text = (codes "ab\ncd\n") } ∷ [])
    ≡ record { bytes = (codes "ab\n"); fault = Some (record { kind = fault.SourceTooLong; name = (codes "m"); line = 2; word = [] }) }
unfolding row
row_27b = refl

row_28 : row standard false (record { path = codes "m"; text = (codes "x \"ab\ncd") } ∷ [])
    ≡ record { bytes = (codes "x \"ab\ncd"); fault = Some (record { kind = fault.OpenString; name = (codes "m"); line = 1; word = [] }) }
unfolding row
row_28 = refl

row_29 : row standard false (record { path = codes "m"; text = (codes "`define A 1\r\n`A\r\n") } ∷ [])
    ≡ whole_output (codes "\n1\r\n")
unfolding row
row_29 = refl

row_30 : row standard true (record { path = codes "m"; text = (codes "`include \"i\"\nz\n") } ∷ record { path = codes "i"; text = (codes "q\n") } ∷ [])
    ≡ whole_output (codes "// origin: m:1\n// origin: i:1\nq\n// origin: m:1\n\nz\n")
unfolding row
row_30 = refl

row_39a : row standard false (record { path = codes "m"; text = (codes "`define F() z\n`F()`F( )") } ∷ [])
    ≡ whole_output (codes "\nzz")
unfolding row
row_39a = refl

row_39b : row standard false (record { path = codes "m"; text = (codes "`define F() z\n`F(1)") } ∷ [])
    ≡ record { bytes = (codes "\n"); fault = Some (record { kind = fault.ArgumentCount; name = (codes "m"); line = 2; word = (codes "F") }) }
unfolding row
row_39b = refl

row_39c : row standard false (record { path = codes "m"; text = (codes "`define F() z\n`F") } ∷ [])
    ≡ record { bytes = (codes "\n"); fault = Some (record { kind = fault.ArgumentsMissing; name = (codes "m"); line = 2; word = (codes "F") }) }
unfolding row
row_39c = refl

row_40a : row standard false (record { path = codes "m"; text = (codes "`define D `endif\n`D") } ∷ [])
    ≡ record { bytes = (codes "\n"); fault = Some (record { kind = fault.DirectiveInText; name = (codes "m"); line = 2; word = (codes "endif") }) }
unfolding row
row_40a = refl

row_40b : row standard false (record { path = codes "m"; text = (codes "a ` b") } ∷ [])
    ≡ record { bytes = (codes "a "); fault = Some (record { kind = fault.BareBackquote; name = (codes "m"); line = 1; word = [] }) }
unfolding row
row_40b = refl

-- Cases on either side of a border of the profile, each by computation: a wrong border in a definition makes one of them false.

-- a `line` whose name has so many bytes, and a usage of a name that isn't defined
unfoldable renumbering_to : ℕ → List ℕ
renumbering_to n = codes "`line 3 \"" ++ (replicate n 118 ++ codes "\" 0\n`Q")

name_of_1024_bytes_in_line : row standard false (record { path = codes "m"; text = renumbering_to 1024 } ∷ [])
    ≡ record { bytes = codes "\n"; fault = Some (record { kind = fault.UndefinedMacro; name = replicate 1024 118; line = 3; word = codes "Q" }) }
unfolding row renumbering_to
name_of_1024_bytes_in_line = refl

name_of_1025_bytes_in_line : row standard false (record { path = codes "m"; text = renumbering_to 1025 } ∷ [])
    ≡ record { bytes = []; fault = Some (record { kind = fault.BadLine; name = codes "m"; line = 1; word = [] }) }
unfolding row renumbering_to
name_of_1025_bytes_in_line = refl

usage_of_128_bytes : row standard false (record { path = codes "m"; text = 96 ∷ replicate 128 65 } ∷ [])
    ≡ record { bytes = []; fault = Some (record { kind = fault.UndefinedMacro; name = codes "m"; line = 1; word = replicate 128 65 }) }
unfolding row
usage_of_128_bytes = refl

usage_of_129_bytes : row standard false (record { path = codes "m"; text = 96 ∷ (replicate 128 65 ++ 66 ∷ []) } ∷ [])
    ≡ record { bytes = []; fault = Some (record { kind = fault.UndefinedMacro; name = codes "m"; line = 1; word = replicate 128 65 }) }
unfolding row
usage_of_129_bytes = refl

path_with_a_character_over_the_border : (rules : Rules) (macros : List Macro) (sources conditions : ℕ)
    → output rules macros sources conditions (replicate 1023 97 ++ (195 ∷ 169 ∷ [])) LongPath
    ≡ record { bytes = []; fault = Some (record { kind = fault.PathTooLong; name = replicate 1023 97; line = 0; word = [] }) }
unfolding row
path_with_a_character_over_the_border rules macros sources conditions = refl

path_with_a_character_before_the_border : (rules : Rules) (macros : List Macro) (sources conditions : ℕ)
    → output rules macros sources conditions (replicate 1022 97 ++ (195 ∷ 169 ∷ codes "b")) LongPath
    ≡ record { bytes = []; fault = Some (record { kind = fault.PathTooLong; name = replicate 1022 97 ++ (195 ∷ 169 ∷ []); line = 0; word = [] }) }
unfolding row
path_with_a_character_before_the_border rules macros sources conditions = refl

-- a `define` over two lines, of which the second has so many bytes with its LF
unfoldable define_with_line : ℕ → List ℕ
define_with_line n = codes "`define A \\\n" ++ (replicate n 120 ++ codes "\n`A")

define_with_a_long_line : row (record standard { line_bytes = 256 }) false (record { path = codes "m"; text = define_with_line 256 } ∷ [])
    ≡ record { bytes = []; fault = Some (record { kind = fault.LineTooLong; name = codes "m"; line = 1; word = [] }) }
unfolding row define_with_line
define_with_a_long_line = refl

define_of_full_length_cut_by_its_source : row (record standard { line_bytes = 256; source_bytes = 255 }) false
    (record { path = codes "m"; text = define_with_line 243 } ∷ [])
    ≡ record { bytes = []; fault = Some (record { kind = fault.SourceTooLong; name = codes "m"; line = 1; word = [] }) }
unfolding row define_with_line
define_of_full_length_cut_by_its_source = refl

longer_define_cut_by_its_source : row (record standard { line_bytes = 256; source_bytes = 256 }) false
    (record { path = codes "m"; text = define_with_line 244 } ∷ [])
    ≡ record { bytes = []; fault = Some (record { kind = fault.LineTooLong; name = codes "m"; line = 1; word = [] }) }
unfolding row define_with_line
longer_define_cut_by_its_source = refl

-- a `define` over two lines without an LF at its end, of which the second has so many bytes
unfoldable unended_define : ℕ → List ℕ
unended_define n = codes "`define A \\\n" ++ replicate n 120

unended_define_of_full_length : row (record standard { line_bytes = 256 }) false (record { path = codes "m"; text = unended_define 244 } ∷ [])
    ≡ whole_output (codes "\n")
unfolding row unended_define
unended_define_of_full_length = refl

longer_unended_define : row (record standard { line_bytes = 256 }) false (record { path = codes "m"; text = unended_define 245 } ∷ [])
    ≡ record { bytes = []; fault = Some (record { kind = fault.LineTooLong; name = codes "m"; line = 1; word = [] }) }
unfolding row unended_define
longer_unended_define = refl

-- so many formals from a number on, and a last one
unfoldable formals_to : ℕ → ℕ → List ℕ
unfolding digits
formals_to zero n = 97 ∷ decimal n
formals_to (suc k) n = 97 ∷ (decimal n ++ (44 ∷ formals_to k (n + 1)))

-- a `define` of `F` with so many formals and one more, of which the last is its body
unfoldable define_of_formals : ℕ → List ℕ
define_of_formals k = codes "`define F(" ++ (formals_to k 1 ++ (codes ") a" ++ (decimal (k + 1) ++ codes "\n")))

as_many_formals_as_may_be : row standard false
    (record { path = codes "m"; text = define_of_formals (most_formals - 1) ++ (codes "`F(" ++ (replicate (most_formals - 1) 44 ++ codes "z)")) } ∷ [])
    ≡ whole_output (codes "\nz")
unfolding row define_of_formals formals_to
as_many_formals_as_may_be = refl

one_formal_more : row standard false (record { path = codes "m"; text = define_of_formals most_formals } ∷ [])
    ≡ record { bytes = []; fault = Some (record { kind = fault.TooManyFormals; name = codes "m"; line = 1; word = [] }) }
unfolding row define_of_formals formals_to
one_formal_more = refl

-- a `define` with a formal of so many bytes, which is its body
unfoldable define_of_formal : ℕ → List ℕ
define_of_formal n = codes "`define F(" ++ (replicate n 97 ++ (codes ") " ++ (replicate n 97 ++ codes "\n")))

formal_of_128_bytes : row standard false (record { path = codes "m"; text = define_of_formal 128 ++ codes "`F(z)" } ∷ [])
    ≡ whole_output (codes "\nz")
unfolding row define_of_formal
formal_of_128_bytes = refl

formal_of_129_bytes : row standard false (record { path = codes "m"; text = define_of_formal 129 } ∷ [])
    ≡ record { bytes = []; fault = Some (record { kind = fault.NameTooLong; name = codes "m"; line = 1; word = [] }) }
unfolding row define_of_formal
formal_of_129_bytes = refl

macro_of_128_bytes : row standard false
    (record { path = codes "m"; text = codes "`define " ++ (replicate 128 97 ++ (codes " z\n`" ++ replicate 128 97)) } ∷ [])
    ≡ whole_output (codes "\nz")
unfolding row
macro_of_128_bytes = refl

macro_of_129_bytes : row standard false
    (record { path = codes "m"; text = codes "`define " ++ (replicate 129 97 ++ codes " z\n") } ∷ [])
    ≡ record { bytes = []; fault = Some (record { kind = fault.NameTooLong; name = codes "m"; line = 1; word = [] }) }
unfolding row
macro_of_129_bytes = refl

-- a `define` of `F` with two formals and a body of so many `x`
unfoldable define_of_body : ℕ → List ℕ
define_of_body n = codes "`define F(x,y) " ++ (replicate n 120 ++ codes "\n")

formals_at_the_bound_of_definitions : row (record standard { definition_bytes = 1024 }) false
    (record { path = codes "m"; text = define_of_body 1019 } ∷ [])
    ≡ whole_output (codes "\n")
unfolding row define_of_body
formals_at_the_bound_of_definitions = refl

formals_past_the_bound_of_definitions : row (record standard { definition_bytes = 1024 }) false
    (record { path = codes "m"; text = define_of_body 1020 } ∷ [])
    ≡ record { bytes = []; fault = Some (record { kind = fault.DefinitionBytes; name = codes "m"; line = 1; word = [] }) }
unfolding row define_of_body
formals_past_the_bound_of_definitions = refl

-- bytes, and then the fault of the limit
abbrev cut_output : List ℕ → Outcome
cut_output bytes = record { bytes = bytes; fault = Some (record { kind = fault.OutputBytes; name = codes "m"; line = 0; word = [] }) }

output_at_its_limit : row (record standard { output_bytes = 9 }) false (record { path = codes "m"; text = codes "`define W 8\nreg[`W];\n" } ∷ [])
    ≡ whole_output (codes "\nreg[8];\n")
unfolding row
output_at_its_limit = refl

output_past_its_limit : row (record standard { output_bytes = 8 }) false (record { path = codes "m"; text = codes "`define W 8\nreg[`W];\n" } ∷ [])
    ≡ cut_output (codes "\nreg[8];")
unfolding row
output_past_its_limit = refl

-- a `define` of `A` with so many `x`
unfoldable long_define : ℕ → List ℕ
long_define n = codes "`define A " ++ (replicate n 120 ++ codes "\n")

definition_of_1024_bytes : row (record standard { definition_bytes = 1024 }) false (record { path = codes "m"; text = long_define 1023 } ∷ [])
    ≡ whole_output (codes "\n")
unfolding row long_define
definition_of_1024_bytes = refl

definition_of_1024_bytes_replaced : row (record standard { definition_bytes = 1024 }) false (record { path = codes "m"; text = long_define 1023 ++ long_define 1023 } ∷ [])
    ≡ whole_output (codes "\n\n")
unfolding row long_define
definition_of_1024_bytes_replaced = refl

definition_of_1025_bytes : row (record standard { definition_bytes = 1024 }) false (record { path = codes "m"; text = long_define 1024 } ∷ [])
    ≡ record { bytes = []; fault = Some (record { kind = fault.DefinitionBytes; name = codes "m"; line = 1; word = [] }) }
unfolding row long_define
definition_of_1025_bytes = refl

-- sources of which each includes the next, so many from a number on, and a last one with a text
unfoldable chain_of_sources : ℕ → ℕ → List ℕ → List File
unfolding digits
chain_of_sources zero n last = record { path = 102 ∷ decimal n; text = last } ∷ []
chain_of_sources (suc k) n last =
    record { path = 102 ∷ decimal n; text = codes "`include \"f" ++ (decimal (n + 1) ++ codes "\"\n") } ∷ chain_of_sources k (n + 1) last

chain_of_64_includes : row (record standard { includes = 64 }) false
    (record { path = codes "m"; text = codes "`include \"f1\"\n" } ∷ chain_of_sources 63 1 (codes "x\n"))
    ≡ whole_output (120 ∷ replicate 65 10)
unfolding row chain_of_sources
chain_of_64_includes = refl

chain_of_65_includes : row (record standard { includes = 64 }) false
    (record { path = codes "m"; text = codes "`include \"f1\"\n" } ∷ chain_of_sources 63 1 (codes "`include \"f65\"\n"))
    ≡ record { bytes = []; fault = Some (record { kind = fault.TooManyIncludes; name = codes "f64"; line = 1; word = [] }) }
unfolding row chain_of_sources
chain_of_65_includes = refl

-- lines `define` of macros from a number on, so many, of which each has the one before twice
unfoldable doubling_defines : ℕ → ℕ → List ℕ
unfolding digits
doubling_defines zero n = []
doubling_defines (suc k) n =
    codes "`define E" ++ (decimal (n + 1) ++ (codes " `E" ++ (decimal n ++ (codes "`E" ++ (decimal n ++ (10 ∷ doubling_defines k (n + 1)))))))

-- 12 macros, of which each has the one before twice
macro_doubled_12_times : row standard false (record { path = codes "m"; text = codes "`define E0 x\n" ++ (doubling_defines 12 0 ++ codes "`E12\n") } ∷ [])
    ≡ whole_output (replicate 13 10 ++ (replicate 4096 120 ++ 10 ∷ []))
unfolding row doubling_defines
macro_doubled_12_times = refl

-- lines `define` of macros from a number on, of which each is the next one, so many, and a last one
unfoldable chain_of_defines : ℕ → ℕ → List ℕ
unfolding digits
chain_of_defines zero n = codes "`define C" ++ (decimal n ++ codes " x\n")
chain_of_defines (suc k) n =
    codes "`define C" ++ (decimal n ++ (codes " `C" ++ (decimal (n + 1) ++ (10 ∷ chain_of_defines k (n + 1)))))

-- the rows of the depth, with its standard limit in place of the greatest
chain_of_256_macros : row standard false (record { path = codes "m"; text = chain_of_defines 255 1 ++ codes "`C1\n" } ∷ [])
    ≡ whole_output (replicate 256 10 ++ (120 ∷ 10 ∷ []))
unfolding row chain_of_defines
chain_of_256_macros = refl

chain_of_257_macros : row standard false (record { path = codes "m"; text = chain_of_defines 256 1 ++ codes "`C1\n" } ∷ [])
    ≡ record { bytes = replicate 257 10; fault = Some (record { kind = fault.DepthPassed; name = codes "m"; line = 258; word = [] }) }
unfolding row chain_of_defines
chain_of_257_macros = refl
