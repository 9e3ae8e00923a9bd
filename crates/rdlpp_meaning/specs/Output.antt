-- The output of a main text.
-- A definition that names no source is this project's own.
use Rattle.std.specs.Prelude.{ℕ, zero, suc, ◌&&◌, nat_le, List, [], take, slice_index, if◌then◌else◌}
use Rattle.rdlpp_define.specs.Macros.{Macro}
use Rattle.rdlpp_meaning.specs.declared.fault.FaultKind.{FaultKind}
use Rattle.rdlpp_meaning.specs.declared.fault.FaultKind.TheVariants.{SourceNotFound, PathTooLong}
use Rattle.rdlpp_meaning.specs.Outcome.{Report, Outcome, fails}
use Rattle.rdlpp_meaning.specs.State.{Lookup, NoSource, LongPath, Source, Rules, no_shift, State}
use Rattle.rdlpp_meaning.specs.Meaning.{outcome, after_bytes, origin_line, text_meaning}

-- the greatest place up to n at which no character of UTF-8 is cut
unfoldable pub character_place : List ℕ → ℕ → ℕ
character_place bytes zero = zero
character_place bytes (suc n) =
    if nat_le 128 (slice_index bytes (suc n)) && nat_le (slice_index bytes (suc n)) 191
    then character_place bytes n else suc n

-- a name cut to its first 1,024 bytes, or fewer at a character's boundary (source: this project's profile)
unfoldable pub name_cut : List ℕ → List ℕ
name_cut bytes = take (character_place bytes 1024) bytes

-- a fault of the opening of the main text (source: this project's profile)
unfoldable pub opening_fault : FaultKind → List ℕ → Report
opening_fault kind path = record { kind = kind; name = name_cut path; line = 0; word = [] }

-- the state at the beginning of a main text, with macros and with how many included sources and conditionals may be opened (source: this project's profile)
unfoldable pub start_state : List Macro → ℕ → ℕ → List ℕ → State
start_state macros sources conditions path =
    record { macros = macros; path = path; name = path; shift = no_shift; sources_left = sources; conditions_left = conditions }

-- the output of a main path, by what the search for it comes to, from macros and the limits on open sources and
-- conditionals (source: this project's profile)
unfoldable pub output : Rules → List Macro → ℕ → ℕ → List ℕ → Lookup → Outcome
output rules macros sources conditions path NoSource = fails (opening_fault SourceNotFound path)
output rules macros sources conditions path LongPath = fails (opening_fault PathTooLong path)
output rules macros sources conditions path (Source found text) =
    outcome (after_bytes (origin_line rules found 1)
    (text_meaning rules (start_state macros sources conditions found) text))
