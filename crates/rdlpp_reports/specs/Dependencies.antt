-- The rule for make that names the sources of an output.
-- A definition that names no source is this project's own.
use Rattle.std.specs.Prelude.{ℕ, Bool, true, List, [], ◌∷◌, ◌++◌, ◌==◌, ◌||◌, ◌&&◌, codes, bytes_eq, slice_get, if◌then◌else◌}
use Rattle.std.specs.List.{concat, flat_map, prefix_len}
use Rattle.std.specs.Option.{option_map_or}

-- whether make takes a byte of a name as it is only after a `\`: a blank, a tab, `#` and `:` (GNU make, rules; the form of cpp -MD)
abbrev pub is_quoted : ℕ → Bool
is_quoted b = (b == 32) || ((b == 9) || ((b == 35) || (b == 58)))

-- whether only `\` stand before such a byte, or before the end
abbrev pub leads_to_quoted : List ℕ → Bool
leads_to_quoted rest = option_map_or is_quoted (slice_get rest (prefix_len (λ b. b == 92) rest)) true

-- what stands before a byte of a name, where so much stands after it: a `\` before a byte that make would take for its own, and before
-- each `\` that stands directly before such a byte or the end; and `$` before `$`
abbrev pub quote : ℕ → List ℕ → List ℕ
quote b following = if is_quoted b || ((b == 92) && leads_to_quoted following) then codes "\\" else (if b == 36 then codes "$" else [])

-- a name as make reads it (GNU make, rules; the form of cpp -MD)
unfoldable pub rule_name : List ℕ → List ℕ
rule_name [] = []
rule_name (b ∷ bs) = concat (quote b bs ∷ (b ∷ []) ∷ []) ++ rule_name bs

-- a source after what stands before it; standard input isn't named (source: this project's profile)
abbrev pub prerequisite : List ℕ → List ℕ
prerequisite path = if bytes_eq path (codes "-") then [] else codes " \\\n " ++ rule_name path

-- the rule without anything of an included source
abbrev pub empty_rule : List ℕ → List ℕ
empty_rule path = rule_name path ++ codes ":\n"

-- all but the first
abbrev pub included : {A : Type 0} → List A → List A
included [] = []
included (x ∷ xs) = xs

-- the rule for make: the target, each source, and for each but the first a rule without anything (the form of cpp -MD -MP)
abbrev pub dependency_bytes : List ℕ → List (List ℕ) → List ℕ
dependency_bytes target paths =
    (rule_name target ++ codes ":") ++ (flat_map prerequisite paths ++ (codes "\n" ++ flat_map empty_rule (included paths)))
