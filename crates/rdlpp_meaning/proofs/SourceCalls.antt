-- Laws of a usage in a source: with its call, by things, by tokens, and without lines.
use Rattle.std.proofs.Common.{◌≡◌, ℕ, zero, suc, ◌≤◌, Bool, false, List, [], ◌∷◌, length, map, take, drop, refl, sym, ap, ◌∙◌, arith, Option, None, ◌++◌, reverse, true, Some, filter, if◌then◌else◌, ◌==◌, subst, bytes_eq, nat_le}
use Rattle.std.specs.List.{list_any, prefix_len}
use Rattle.std.proofs.lemmas.Grind.{common_steps}
use Rattle.std.proofs.lemmas.List.{drop-map, length-map, map-append, reverse-append}
use Rattle.rdlpp_scan.specs.Reserved.{is_reserved}
use Rattle.rdlpp_scan.specs.SourceTokens.{Ordinary, Sort, SourceToken}
use Rattle.rdlpp_scan.specs.Tokens.{tokens_from}
use Rattle.rdlpp_scan.specs.declared.token.Directive.{Directive}
use Rattle.rdlpp_scan.specs.declared.token.Kind.TheVariants.{Back}
use Rattle.rdlpp_scan.specs.declared.token.Mode.TheVariants.{Plain}
use Rattle.rdlpp_scan.specs.declared.token.Token.{Token}
use Rattle.rdlpp_define.specs.Macros.{Formal, Macro}
use Rattle.rdlpp_define.specs.Table.{macro_named}
use Rattle.rdlpp_meaning.specs.Actuals.{Bound, Call, Cut, Halt, Reads, Role, Text, actual_of, after_leading_space, is_space, item_reads, item_role, item_size, kept, kind_role, level_after, map_call, source_reads, text_reads, token_role, trimmed}
use Rattle.rdlpp_meaning.specs.CallScan.{Before, Closed, Closes, Keeps as KeepsThing, Passes, ScanFault, Scanned, Split, CallState, ScanBreakFault, Turn, all_parts, call_of, call_of_scan, is_kept, room_after, scan, scan_onto, scanned, source_role, split, split_by, call_state_after, turn}
use Rattle.rdlpp_meaning.specs.Expansion.{Opens, UsageFault, Usage, bound_parts, bytes_of, expand, is_count, run_outcome, usage_of, usage_of_call, usage_of_formals, usage_of_macro, usage_token, walk}
use Rattle.rdlpp_meaning.specs.Items.{Arg, Item, Written, broken_line, unlined, unlined_item}
use Rattle.rdlpp_meaning.specs.Meaning.{Passage, Progress, goes_on, leaves}
use Rattle.rdlpp_meaning.specs.Outcome.{Outcome, and_then, fails}
use Rattle.rdlpp_meaning.specs.Parts.{tokenless_worded, directive_of, only_blanks}
use Rattle.rdlpp_meaning.specs.Resumed.{Live, leading, resumed}
use Rattle.rdlpp_meaning.specs.State.{Rules, State, fault_at}
use Rattle.rdlpp_meaning.specs.Substitution.{body_tokens, spelled, substituted}
use Rattle.rdlpp_meaning.specs.declared.fault.FaultKind.{FaultKind}
use Rattle.rdlpp_meaning.specs.declared.fault.FaultKind.TheVariants.{ArgumentCount, DirectiveInText, UndefinedMacro}
use Rattle.rdlpp_meaning.proofs.LiveText.{deeper_of, expand_walk, leading_text, resumed_part, resumed_run, run_refused, usage_text, usage_walk, usage_walks}
use Rattle.rdlpp_meaning.proofs.Outcomes.{fails-goes_on}

-- A usage takes at most what stands after its name.

-- a scan takes at most so many things
unfoldable pub TakesUpTo : {A : Type 0} → ℕ → Scanned A → Type 0
TakesUpTo n (Closed kept used) = used ≤ n
TakesUpTo n _ = Unit

-- with a thing in front
onto-within : {A : Type 0} (n : ℕ) (front : List A) (s : Scanned A) → TakesUpTo n s → TakesUpTo (suc n) (scan_onto front s)
unfolding TakesUpTo scan_onto
onto-within n front (Closed kept used) h = omega (arith, h)
onto-within n front (ScanFault f) h = tt
onto-within n front (ScanBreakFault f line) h = tt

-- by what the scan does at it
scanned-within : {A : Type 0} (t : Turn) (x : A) (n : ℕ) (s : Scanned A) → TakesUpTo n s → TakesUpTo (suc n) (scanned t x s)
unfolding TakesUpTo scanned
scanned-within Passes x n s h = onto-within n [] s h
scanned-within KeepsThing x n s h = onto-within n (x ∷ []) s h
scanned-within Closes x n s h = omega arith
scanned-within _ x n s h = tt

-- the scan of things takes at most all of them
scan-within : {A : Type 0} (role : A → Role) (size : A → ℕ) (at : CallState) (room : ℕ) (xs : List A) → TakesUpTo (length xs) (scan role size at room xs)
unfolding scan TakesUpTo
scan-within role size at room [] = tt
scan-within role size at room (x ∷ xs) =
    scanned-within (turn at (role x) (nat_le (size x) room)) x (length xs) _
    (scan-within role size (call_state_after at (role x)) (room_after at room (role x) (size x)) xs)

-- a usage takes at most so many things
unfoldable pub UsesUpTo : {A : Type 0} → ℕ → Usage A → Type 0
UsesUpTo n (UsageFault f word line) = Unit
UsesUpTo n (Opens m actuals used) = used ≤ n

-- it takes what its call takes
pub counted-uses : {A : Type 0} (line : ℕ) (name : List ℕ) (n : ℕ) (test : Bool) (m : Macro) (actuals : List (List A)) (used : ℕ) → used ≤ n
    → UsesUpTo n (if test then Opens m actuals used else UsageFault ArgumentCount name line)
unfolding UsesUpTo
counted-uses line name n true m actuals used h = h
counted-uses line name n false m actuals used h = tt

-- by the scan of its call
call-uses : {A : Type 0} (reads : Reads A) (line : ℕ) (name : List ℕ) (m : Macro) (formals : List Formal) (n : ℕ) (c : Scanned A) → TakesUpTo n c
    → UsesUpTo n (usage_of_call reads m formals line name (call_of_scan reads.role 0 c))
unfolding TakesUpTo UsesUpTo usage_of_call call_of_scan
call-uses reads line name m formals n (Closed kept used) h = counted-uses line name n _ m _ used h
call-uses reads line name m formals n (ScanFault f) h = tt
call-uses reads line name m formals n (ScanBreakFault f own) h = tt

-- a choice of usages
choice-uses : {A : Type 0} (n : ℕ) (test : Bool) (u v : Usage A) → UsesUpTo n u → UsesUpTo n v → UsesUpTo n (if test then u else v)
choice-uses n true u v h k = h
choice-uses n false u v h k = k

module _ {A : Type 0} (rules : Rules) (reads : Reads A) (line : ℕ) (name : List ℕ) (xs : List A) where
  -- by its macro's formals
  formals-use : (m : Macro) (formals : Option (List Formal)) → UsesUpTo (length xs) (usage_of_formals rules reads line name xs m formals)
  unfolding usage_of_formals UsesUpTo
  formals-use m None = omega arith
  formals-use m (Some formals) =
      call-uses reads line name m formals (length xs) _ (scan-within reads.role reads.size Before rules.argument_bytes xs)

  -- by what its name is
  found-uses : (o : List (List ℕ)) (found : Option Macro)
      → UsesUpTo (length xs) (elim found [ None ↦ UsageFault UndefinedMacro name line | Some m ↦ usage_of_macro rules reads line o name xs m ])
  unfolding usage_of_macro UsesUpTo
  found-uses o None = tt
  found-uses o (Some m) = choice-uses (length xs) (list_any (bytes_eq name) o) _ _ tt (formals-use m m.formals)

  -- a usage takes at most all things after its name
  usage-uses : (s : State) (o : List (List ℕ)) → UsesUpTo (length xs) (usage_of rules s reads line o name xs)
  unfolding usage_of UsesUpTo
  usage-uses s o = choice-uses (length xs) (is_reserved name) _ _ tt (found-uses o (macro_named s.macros name))

-- one that opens a macro takes at most all things after its name
pub usage_within : {A : Type 0} (rules : Rules) (s : State) (reads : Reads A) (line : ℕ) (o : List (List ℕ)) (name : List ℕ) (xs : List A) (m : Macro) (actuals : List (List A)) (used : ℕ)
    → usage_of rules s reads line o name xs ≡ Opens m actuals used → used ≤ length xs
unfolding UsesUpTo
usage_within rules s reads line o name xs m actuals used e = subst (UsesUpTo (length xs)) e (usage-uses rules reads line name xs s o)

-- The law of a usage in a source: its expansion, and then what remains after its call.

-- items that are passed over are dropped
pub walk_skip : (rules : Rules) (s : State) (deeper : ℕ → List (List ℕ) → List Item → Outcome) (line_or_text : Option ℕ) (o : List (List ℕ)) (k : ℕ) (xs : List Item)
    → walk rules s deeper line_or_text o k xs ≡ walk rules s deeper line_or_text o 0 (drop k xs)
unfolding walk
walk_skip rules s deeper line_or_text o (suc k) (Written t ∷ xs) = walk_skip rules s deeper line_or_text o k xs
walk_skip rules s deeper line_or_text o (suc k) (Arg p g ∷ xs) = walk_skip rules s deeper line_or_text o k xs
walk_skip rules s deeper line_or_text o _ xs = refl

-- a run that begins with a usage is what the usage opens, and then the run after its call
run_usage : (rules : Rules) (s : State) (name : List ℕ) (line : ℕ) (us : List SourceToken) (m : Macro) (actuals : List (List Item)) (used : ℕ)
    → usage_of rules s (item_reads None) line [] name (map Written us) ≡ Opens m actuals used
    → run_outcome rules s (usage_token name line ∷ us)
    ≡ and_then (deeper_of rules s rules.depth line (m.name ∷ []) (substituted m actuals [])) (run_outcome rules s (drop used us))
unfolding run_outcome usage_walk
run_usage rules s name line us m actuals used e = grind (arith, expand_walk, usage_walks, walk_skip, drop-map)

-- in live text, a usage that opens a macro comes to what its body expands to, and then what remains after its call
pub resumed_usage : (rules : Rules) (os : List Progress) (first : Bool) (name : List ℕ) (line : ℕ) (ts : List SourceToken) (s : State)
    (m : Macro) (actuals : List (List Item)) (used : ℕ)
    → is_reserved name ≡ false
    → usage_of rules s (item_reads None) line [] name (map Written (leading ts)) ≡ Opens m actuals used
    → resumed rules (Live os) first (usage_token name line ∷ ts) s
    ≡ goes_on (leaves (deeper_of rules s rules.depth line (m.name ∷ []) (substituted m actuals [])) s)
    (λ after. resumed rules (Live os) (only_blanks first (bytes_of (take (suc used) (usage_token name line ∷ ts)))) (drop used ts) after)
resumed_usage rules os first name line ts s m actuals used r e =
    let t = usage_token name line in
    let l = leading_text t ts (usage_text name line r) in
    let h : used ≤ length (map Written (leading ts)) = usage_within rules s (item_reads None) line [] name (map Written (leading ts)) m actuals used e in
    resumed_part rules os first (suc used) (t ∷ ts) s (deeper_of rules s rules.depth line (m.name ∷ []) (substituted m actuals []))
    (omega (arith, ap length l, length-map (leading ts) (λ (u : SourceToken). Written u)))
    (rw l (run_usage rules s name line (leading ts) m actuals used e))

-- in live text, a usage that is refused ends the output
pub resumed_refused : (rules : Rules) (os : List Progress) (first : Bool) (name : List ℕ) (line : ℕ) (ts : List SourceToken) (s : State)
    (f : FaultKind) (word : List ℕ) (at : ℕ)
    → is_reserved name ≡ false
    → usage_of rules s (item_reads None) line [] name (map Written (leading ts)) ≡ UsageFault f word at
    → resumed rules (Live os) first (usage_token name line ∷ ts) s ≡ leaves (fails (fault_at f at word s)) s
resumed_refused rules os first name line ts s f word at r e = grind (arith, leading_text, usage_text, resumed_run, run_refused, fails-goes_on)

-- The scan of a call, and its parts, commute with what keeps roles and sizes; so does trimming.

-- a scan of what things become
unfoldable map_scan : {A B : Type 0} → (A → B) → Scanned A → Scanned B
map_scan f (ScanFault k) = ScanFault k
map_scan f (ScanBreakFault k line) = ScanBreakFault k line
map_scan f (Closed kept used) = Closed (map f kept) used

-- a thing of a scan
scanned-map : {A B : Type 0} (f : A → B) (t : Turn) (x : A) (s : Scanned A) → scanned t (f x) (map_scan f s) ≡ map_scan f (scanned t x s)
unfolding scanned scan_onto map_scan
scanned-map f Passes x (ScanFault k) = refl
scanned-map f KeepsThing x (ScanFault k) = refl
scanned-map f t x s = refl

-- what keeps the role and the size of each thing
pub record Keeps {A B : Type 0} (role : A → Role) (size : A → ℕ) (role' : B → Role) (size' : B → ℕ) (f : A → B) : Type 0 where
  pub role_of : (x : A) → role' (f x) ≡ role x
  pub size_of : (x : A) → size' (f x) ≡ size x

-- a scan
scan-map : {A B : Type 0} (role : A → Role) (size : A → ℕ) (role' : B → Role) (size' : B → ℕ) (f : A → B)
    → Keeps role size role' size' f → (at : CallState) (room : ℕ) (xs : List A) → scan role' size' at room (map f xs) ≡ map_scan f (scan role size at room xs)
unfolding scan map_scan
scan-map role size role' size' f keeps at room [] = refl
scan-map {B = B} role size role' size' f keeps at room (x ∷ xs) =
    grind (arith, scanned-map, (scan-map role size role' size' f keeps (call_state_after at (role x)) (room_after at room (role x) (size x)) xs))

-- a thing in front of parts, of things and of what they become
split_by-map : {A B : Type 0} (f : A → B) (r : Role) (k : ℕ) (x : A) (s : Split A)
    → split_by r k (f x) (record { first = map f s.first; further = map (map f) s.further })
    ≡ record { first = map f (split_by r k x s).first; further = map (map f) (split_by r k x s).further }
unfolding split_by
split_by-map f Cut zero x s = refl
split_by-map f r k x s = refl

-- the parts commute with what keeps roles
pub split-map : {A B : Type 0} (role : A → Role) (role' : B → Role) (f : A → B) → ((x : A) → role' (f x) ≡ role x) → (k : ℕ) (xs : List A)
    → split role' k (map f xs) ≡ record { first = map f (split role k xs).first; further = map (map f) (split role k xs).further }
unfolding split
split-map role role' f keeps k [] = refl
split-map {B = B} role role' f keeps k (x ∷ xs) = grind (arith, split_by-map, (split-map role role' f keeps (level_after (role x) k) xs))

-- a call of a scan commutes with what keeps roles
scan_call-map : {A B : Type 0} (role : A → Role) (role' : B → Role) (f : A → B) → ((x : A) → role' (f x) ≡ role x) → (k : ℕ) (s : Scanned A)
    → call_of_scan role' k (map_scan f s) ≡ map_call f (call_of_scan role k s)
unfolding call_of_scan map_call map_scan
scan_call-map role role' f keeps k (Closed kept used) = rw (split-map role role' f keeps k kept) refl
scan_call-map role role' f keeps k _ = refl

-- and so does that of one which closed
pub closed_call-map : {A B : Type 0} (role : A → Role) (role' : B → Role) (f : A → B) → ((x : A) → role' (f x) ≡ role x) → (k : ℕ) (kept : List A) (used : ℕ)
    → call_of_scan role' k (Closed (map f kept) used) ≡ map_call f (call_of_scan role k (Closed kept used))
unfolding map_scan
closed_call-map role role' f keeps k kept used = scan_call-map role role' f keeps k (Closed kept used)

-- a call commutes with what keeps roles and sizes
pub call-map : {A B : Type 0} (role : A → Role) (size : A → ℕ) (role' : B → Role) (size' : B → ℕ) (f : A → B)
    → Keeps role size role' size' f → (room : ℕ) (xs : List A)
    → call_of role' size' room (map f xs) ≡ map_call f (call_of role size room xs)
call-map role size role' size' f keeps room xs =
    ap (call_of_scan role' 0) (scan-map role size role' size' f keeps Before room xs)
    ∙ scan_call-map role role' f keeps.role_of 0 (scan role size Before room xs)

-- a map of a reversed list is the reverse of the map
map-reverse : {A B : Type 0} (f : A → B) (xs : List A) → map f (reverse xs) ≡ reverse (map f xs)
map-reverse f [] = refl
map-reverse f (x ∷ xs) = grind (arith, common_steps, reverse-append, map-append, (map-reverse f xs))

-- how many blank things are in front
spaces-map : {A B : Type 0} (role : A → Role) (role' : B → Role) (f : A → B) → ((x : A) → role' (f x) ≡ role x) → (xs : List A)
    → prefix_len (λ y. is_space (role' y)) (map f xs) ≡ prefix_len (λ x. is_space (role x)) xs
spaces-map role role' f keeps [] = refl
spaces-map role role' f keeps (x ∷ xs) = rw (keeps x, spaces-map role role' f keeps xs) refl

-- what is after the blank things in front
after_leading_space-map : {A B : Type 0} (role : A → Role) (role' : B → Role) (f : A → B) → ((x : A) → role' (f x) ≡ role x) → (xs : List A)
    → after_leading_space role' (map f xs) ≡ map f (after_leading_space role xs)
unfolding after_leading_space
after_leading_space-map role role' f keeps xs = grind (arith, spaces-map, drop-map)

-- trimming commutes with what keeps roles
pub trimmed-map : {A B : Type 0} (role : A → Role) (role' : B → Role) (f : A → B) → ((x : A) → role' (f x) ≡ role x) → (xs : List A)
    → trimmed role' (map f xs) ≡ map f (trimmed role xs)
unfolding trimmed
trimmed-map {B = B} role role' f keeps xs =
    ap (λ (ys : List B). reverse (after_leading_space role' (reverse ys))) (after_leading_space-map role role' f keeps xs)
    ∙ ap (λ (ys : List B). reverse (after_leading_space role' ys)) (sym (map-reverse f (after_leading_space role xs)))
    ∙ ap reverse (after_leading_space-map role role' f keeps (reverse (after_leading_space role xs)))
    ∙ sym (map-reverse f (after_leading_space role (reverse (after_leading_space role xs))))

-- A usage comes to the same by things and by what they become, where each keeps its role and its size.

-- a usage with its actuals as what they become
unfoldable pub map_usage : {A B : Type 0} → (A → B) → Usage A → Usage B
map_usage f (UsageFault k word line) = UsageFault k word line
map_usage f (Opens m actuals used) = Opens m (map (map f) actuals) used

-- a choice of usages
choice-usage : {A B : Type 0} (f : A → B) (b : Bool) (u v : Usage A) → (if b then map_usage f u else map_usage f v) ≡ map_usage f (if b then u else v)
choice-usage f true u v = refl
choice-usage f false u v = refl

-- a part is empty where it was
empty-parts : {A B : Type 0} (f : A → B) (parts : List (List A)) → list_any (λ part. length part == 0) (map (map f) parts) ≡ list_any (λ part. length part == 0) parts
empty-parts f [] = refl
empty-parts f (p ∷ ps) = rw (length-map p f, empty-parts f ps) refl

-- there are as many
count-parts : {A B : Type 0} (formals : List Formal) (f : A → B) (parts : List (List A)) → is_count formals (map (map f) parts) ≡ is_count formals parts
unfolding is_count
count-parts [] f parts = rw (length-map parts (map f), empty-parts f parts) refl
count-parts (g ∷ gs) f parts = rw (length-map parts (map f)) refl

-- the actuals of parts that change one by one
bound-map : {A B : Type 0} (f : A → B) (formals : List Formal) (parts : List A) → bound_parts formals (map f parts) ≡ map f (bound_parts formals parts)
unfolding bound_parts
bound-map f [] parts = refl
bound-map f (g ∷ gs) parts = refl

-- what keeps how things are read: their roles, sizes and lines
pub record KeepsReads {A B : Type 0} (reads : Reads A) (reads' : Reads B) (f : A → B) : Type 0 where
  pub keeps : Keeps reads.role reads.size reads'.role reads'.size f
  pub plain : (x : A) → reads'.plain (f x) ≡ f (reads.plain x)

module _ {A B : Type 0} (reads : Reads A) (reads' : Reads B) (f : A → B) (k : KeepsReads reads reads' f) where
  -- things without their lines
  plain-map : (xs : List A) → map reads'.plain (map f xs) ≡ map f (map reads.plain xs)
  plain-map [] = refl
  plain-map (x ∷ xs) = ap (λ (y : B). y ∷ map reads'.plain (map f xs)) (k.plain x) ∙ ap (λ (ys : List B). f (reads.plain x) ∷ ys) (plain-map xs)

  -- actuals
  actuals-map : (parts : List (List A)) → map (actual_of reads') (map (map f) parts) ≡ map (map f) (map (actual_of reads) parts)
  unfolding actual_of
  actuals-map [] = refl
  actuals-map (p ∷ ps) = grind (arith, plain-map, trimmed-map, (actuals-map ps))

  -- a usage by its call
  call-usage : (m : Macro) (formals : List Formal) (line : ℕ) (name : List ℕ) (c : Call A)
      → usage_of_call reads' m formals line name (map_call f c) ≡ map_usage f (usage_of_call reads m formals line name c)
  unfolding usage_of_call map_call map_usage
  call-usage m formals line name (Bound first further used) =
      let parts = map (actual_of reads) (first ∷ further) in
      ap (λ (xs : List (List B)). if is_count formals xs then Opens m (bound_parts formals xs) used else UsageFault ArgumentCount name line) (actuals-map (first ∷ further))
      ∙ ap (λ (b : Bool). if b then Opens m (bound_parts formals (map (map f) parts)) used else UsageFault ArgumentCount name line) (count-parts formals f parts)
      ∙ ap (λ (xs : List (List B)). if is_count formals parts then Opens m xs used else UsageFault ArgumentCount name line) (bound-map (map f) formals parts)
      ∙ choice-usage f (is_count formals parts) (Opens m (bound_parts formals parts) used) (UsageFault ArgumentCount name line)
  call-usage m formals line name _ = refl

  -- a usage by its macro's formals
  formals-usage : (rules : Rules) (line : ℕ) (name : List ℕ) (xs : List A) (m : Macro) (formals : Option (List Formal))
      → usage_of_formals rules reads' line name (map f xs) m formals ≡ map_usage f (usage_of_formals rules reads line name xs m formals)
  unfolding usage_of_formals map_usage
  formals-usage rules line name xs m None = refl
  formals-usage rules line name xs m (Some formals) =
      ap (usage_of_call reads' m formals line name) (call-map reads.role reads.size reads'.role reads'.size f k.keeps rules.argument_bytes xs)
      ∙ call-usage m formals line name (call_of reads.role reads.size rules.argument_bytes xs)

  -- a usage of a macro
  macro-usage : (rules : Rules) (line : ℕ) (o : List (List ℕ)) (name : List ℕ) (xs : List A) (m : Macro)
      → usage_of_macro rules reads' line o name (map f xs) m ≡ map_usage f (usage_of_macro rules reads line o name xs m)
  unfolding usage_of_macro map_usage
  macro-usage rules line o name xs m = grind (arith, formals-usage, choice-usage)

  -- a usage by what its name is
  found-usage : (rules : Rules) (line : ℕ) (o : List (List ℕ)) (name : List ℕ) (xs : List A) (found : Option Macro)
      → (elim found [ None ↦ UsageFault UndefinedMacro name line | Some m ↦ usage_of_macro rules reads' line o name (map f xs) m ])
      ≡ map_usage f (elim found [ None ↦ UsageFault UndefinedMacro name line | Some m ↦ usage_of_macro rules reads line o name xs m ])
  unfolding map_usage
  found-usage rules line o name xs None = refl
  found-usage rules line o name xs (Some m) = macro-usage rules line o name xs m

  -- a usage comes to the same, with its actuals as what they become
  pub usage-map : (rules : Rules) (s : State) (line : ℕ) (o : List (List ℕ)) (name : List ℕ) (xs : List A)
      → usage_of rules s reads' line o name (map f xs) ≡ map_usage f (usage_of rules s reads line o name xs)
  unfolding usage_of map_usage
  usage-map rules s line o name xs =
      ap (λ (u : Usage B). if is_reserved name then UsageFault DirectiveInText name line else u) (found-usage rules line o name xs (macro_named s.macros name))
      ∙ choice-usage f (is_reserved name) (UsageFault DirectiveInText name line)
      (elim (macro_named s.macros name) [ None ↦ UsageFault UndefinedMacro name line | Some m ↦ usage_of_macro rules reads line o name xs m ])

-- tokens of a source as they are written
source-keeps : KeepsReads source_reads (item_reads None) Written
unfolding item_role item_size kept unlined_item
source-keeps = record { keeps = record { role_of = λ t. refl; size_of = λ t. refl }; plain = λ t. refl }

-- a usage in a source is the usage of its tokens, as items
pub source-usage : (rules : Rules) (s : State) (line : ℕ) (name : List ℕ) (ts : List SourceToken)
    → usage_of rules s (item_reads None) line [] name (map Written ts) ≡ map_usage Written (usage_of rules s source_reads line [] name ts)
source-usage rules s line name ts = usage-map source_reads (item_reads None) Written source-keeps rules s line [] name ts

-- The law of a usage in a source by its tokens alone: it expands the body of its macro, or ends the output.

-- in live text, a usage that opens a macro comes to what the items of its body expand to, and then what remains after its call
pub resumed_opens : (rules : Rules) (os : List Progress) (first : Bool) (name : List ℕ) (line : ℕ) (ts : List SourceToken) (s : State)
    (d : ℕ) (m : Macro) (actuals : List (List SourceToken)) (used : ℕ)
    → is_reserved name ≡ false → rules.depth ≡ suc d
    → usage_of rules s source_reads line [] name (leading ts) ≡ Opens m actuals used
    → resumed rules (Live os) first (usage_token name line ∷ ts) s
    ≡ goes_on (leaves (expand rules s d (Some line) (m.name ∷ []) (substituted m (map (map Written) actuals) [])) s)
    (λ after. resumed rules (Live os) (only_blanks first (bytes_of (take (suc used) (usage_token name line ∷ ts)))) (drop used ts) after)
unfolding map_usage deeper_of
resumed_opens rules os first name line ts s d m actuals used r depth e =
    let items = map (map Written) actuals in
    let further : State → Passage =
    λ after. resumed rules (Live os) (only_blanks first (bytes_of (take (suc used) (usage_token name line ∷ ts)))) (drop used ts) after in
    resumed_usage rules os first name line ts s m items used r
    (source-usage rules s line name (leading ts) ∙ ap (map_usage Written) e)
    ∙ ap (λ (n : ℕ). goes_on (leaves (deeper_of rules s n line (m.name ∷ []) (substituted m items [])) s) further) depth

-- in live text, a usage that is refused ends the output
pub resumed_refuses : (rules : Rules) (os : List Progress) (first : Bool) (name : List ℕ) (line : ℕ) (ts : List SourceToken) (s : State)
    (f : FaultKind) (word : List ℕ) (at : ℕ)
    → is_reserved name ≡ false
    → usage_of rules s source_reads line [] name (leading ts) ≡ UsageFault f word at
    → resumed rules (Live os) first (usage_token name line ∷ ts) s ≡ leaves (fails (fault_at f at word s)) s
unfolding map_usage
resumed_refuses rules os first name line ts s f word at r e = grind (arith, resumed_refused, source-usage)

-- The lines of tokens that aren't broken count for nothing in a call: not for roles, parts, trimming or bytes.

-- a token without its line has its role, by its sort
role_by : (sort : Sort) (bytes : List ℕ) (line : ℕ)
    → token_role (record { sort = sort; bytes = bytes; line = broken_line sort line }) ≡ token_role (record { sort = sort; bytes = bytes; line = line })
unfolding token_role broken_line
role_by (Ordinary k) bytes line = refl
role_by _ bytes line = refl

-- a token without its line has its role
pub unlined_role : (t : SourceToken) → token_role (unlined t) ≡ token_role t
unfolding unlined
unlined_role t = role_by t.sort t.bytes t.line

-- tokens without their lines have their bytes
pub unlined_bytes : (ts : List SourceToken) → bytes_of (map unlined ts) ≡ bytes_of ts
unfolding unlined
unlined_bytes [] = refl
unlined_bytes (t ∷ ts) = ap (λ (x : List ℕ). t.bytes ++ x) (unlined_bytes ts)

-- tokens of a text have no line
unlined-spelled : (ts : List Token) (bytes : List ℕ) → map unlined (spelled ts bytes) ≡ spelled ts bytes
unfolding spelled unlined broken_line
unlined-spelled [] bytes = refl
unlined-spelled (t ∷ ts) bytes = grind (arith, (unlined-spelled ts (drop t.len bytes)))

-- actuals are the parts without their lines, trimmed
pub actuals-unlined : (parts : List (List SourceToken)) → map (actual_of text_reads) parts ≡ map (trimmed token_role) (map (map unlined) parts)
unfolding actual_of
actuals-unlined [] = refl
actuals-unlined (p ∷ ps) = ap (λ (xs : List (List SourceToken)). trimmed token_role (map unlined p) ∷ xs) (actuals-unlined ps)

-- those of a text are its parts, trimmed
pub actuals-body : (text : List ℕ)
    → map (actual_of text_reads) (all_parts (split token_role 0 (body_tokens text))) ≡ map (trimmed token_role) (all_parts (split token_role 0 (body_tokens text)))
unfolding body_tokens all_parts
actuals-body text =
    let ts = spelled (tokens_from Plain 0 text) text in
    let parts = λ (s : Split SourceToken). map (trimmed token_role) (s.first ∷ s.further) in
    actuals-unlined (all_parts (split token_role 0 ts))
    ∙ sym (ap parts (split-map token_role token_role unlined unlined_role 0 ts))
    ∙ ap (λ (us : List SourceToken). parts (split token_role 0 us)) (unlined-spelled (tokens_from Plain 0 text) text)

-- what is kept commutes with what keeps roles
pub kept-map : {A B : Type 0} (role : A → Role) (role' : B → Role) (f : A → B) → ((x : A) → role' (f x) ≡ role x) → (xs : List A)
    → filter (λ y. is_kept (role' y)) (map f xs) ≡ map f (filter (λ x. is_kept (role x)) xs)
kept-map role role' f keeps [] = refl
kept-map {A = A} {B = B} role role' f keeps (x ∷ xs) = grind (arith, (kept-map role role' f keeps xs))

-- a backquote with a name is kept, whether it is a directive or not
named_kept : (d : Option Directive) (r : Role) → is_kept r ≡ true → (let q : Role = elim d [ None ↦ r | Some x ↦ Halt ] in is_kept q) ≡ is_kept r
unfolding is_kept
named_kept None r h = refl
named_kept (Some d) r h = sym h

-- which tokens a source keeps doesn't hang on directives, by the sort
source_kept_by : (sort : Sort) (bytes : List ℕ) (line : ℕ)
    → is_kept (source_role (record { sort = sort; bytes = bytes; line = line })) ≡ is_kept (token_role (record { sort = sort; bytes = bytes; line = line }))
unfolding source_role directive_of token_role kind_role is_kept
source_kept_by (Ordinary Back) bytes line = named_kept (tokenless_worded bytes) Text refl
source_kept_by sort bytes line = refl

-- which tokens a source keeps doesn't hang on directives
pub source_kept : (t : SourceToken) → is_kept (source_role t) ≡ is_kept (token_role t)
source_kept t = source_kept_by t.sort t.bytes t.line
