-- Calls, usages and pieces of tokens, of which a limit tears the last.
use Rattle.std.proofs.Common.{◌≡◌, ℕ, zero, suc, ◌+◌, ◌≤◌, ◌⊎◌, inl, inr, ⊎_elim, Bool, true, false, List, [], ◌∷◌, ◌++◌, map, length, refl, sym, ap, subst, ◌∙◌, arith, le_trans, Option, None, Some, bytes_eq, if◌then◌else◌, nat_le, le-leb, leb-true}
use Rattle.std.specs.List.{list_any}
use Rattle.rdlpp_scan.specs.Front.{Breach}
use Rattle.rdlpp_scan.specs.Reserved.{is_reserved}
use Rattle.rdlpp_scan.specs.SourceTokens.{Broken, Definition, Ordinary, Renumbering, Sort, SourceToken}
use Rattle.rdlpp_scan.specs.declared.token.Directive.{Directive}
use Rattle.rdlpp_scan.specs.declared.token.Directive.TheVariants.{Define, Else, Endif, Include, Line}
use Rattle.rdlpp_scan.specs.declared.token.Kind.TheVariants.{Back, Blank}
use Rattle.rdlpp_define.specs.Macros.{Formal, Macro}
use Rattle.rdlpp_define.specs.Table.{macro_named}
use Rattle.rdlpp_meaning.specs.Actuals.{Dropped, End, Ends, Halt, Reads, Role, Space, Stops, Text, item_role, token_role}
use Rattle.rdlpp_meaning.specs.CallScan.{Before, Closed, Closes, Inside, Keeps, Passes, ScanFault, TurnFault as RefusesThing, Scanned, CallState, ScanBreakFault, Turn, call_of_scan, fault_at_end, room_after, scan, scan_onto, scanned, call_state_after, turn, turn_before, turn_fitting, turn_inside}
use Rattle.rdlpp_meaning.specs.Expansion.{Opens, UsageFault, Usage, usage_of, usage_of_call, usage_of_formals, usage_of_macro}
use Rattle.rdlpp_meaning.specs.Items.{Written}
use Rattle.rdlpp_laws.specs.LimitLaws.{is_limit}
use Rattle.rdlpp_meaning.specs.Parts.{Argument, Branching, Closing, Command, Opening, Piece, Run, Single, argument_of, after_blanks, command_of, tokenless_worded, directive_of, joined, name_in_front, no_argument, one_argument, only_blanks, past_blanks, piece_of, pieces, string_in_front}
use Rattle.rdlpp_meaning.specs.Resumed.{leading}
use Rattle.rdlpp_meaning.specs.State.{Rules, State, breach_kind}
use Rattle.rdlpp_meaning.specs.declared.fault.FaultKind.{FaultKind}
use Rattle.rdlpp_meaning.specs.declared.fault.FaultKind.TheVariants.{ArgumentBytes, ArgumentsMissing, DirectiveInText, RecursiveMacro, UndefinedMacro}
use Rattle.rdlpp_meaning.proofs.Directives.{argument_by}
use Rattle.rdlpp_meaning.proofs.LiveText.{halted}
use Rattle.rdlpp_meaning.proofs.SourceCalls.{TakesUpTo, UsesUpTo, counted-uses}

-- Calls and usages where larger limits allow more: the same, but where a smaller limit was a fault, which may have torn the last thing.

-- a state with room for any count of sources, and for so many more conditionals
abbrev pub roomier : ℕ → ℕ → State → State
roomier sources more s = record s { sources_left = sources; conditions_left = more + s.conditions_left }

-- a role that a string has, whole or broken
unfoldable pub IsStringRole : Role → Type 0
IsStringRole Text = Unit
IsStringRole (Ends f line) = Unit
IsStringRole r = ⊥

-- things of which the first is a string
unfoldable pub FollowsString : {A : Type 0} → (A → Role) → List A → Type 0
FollowsString role [] = ⊥
FollowsString role (u ∷ us) = IsStringRole (role u)

-- things that end, or of which the first ends the run
unfoldable pub FollowsHalt : {A : Type 0} → (A → Role) → List A → Type 0
FollowsHalt role [] = Unit
FollowsHalt role (u ∷ us) = role u ≡ Halt

-- what larger limits may have in the place of a thing of a role that a limit tears
unfoldable pub TornBy : {A : Type 0} → (A → Role) → Role → List A → Type 0
TornBy role (Stops f line) us = is_limit f ≡ true
TornBy role (Ends f line) us = (is_limit f ≡ true) × FollowsString role us
TornBy role Halt us = FollowsHalt role us
TornBy role r us = ⊥

-- what may end things where limits are smaller and where they are larger: nothing, or a torn thing and what it tears
unfoldable pub IsTail : {A : Type 0} → (A → Role) → List A → List A → Type 0
IsTail role [] zs = zs ≡ []
IsTail role (t ∷ ts) zs = TornBy role (role t) zs

-- a scan that a limit ends
unfoldable IsLimited : {A : Type 0} → Scanned A → Type 0
IsLimited (ScanFault f) = is_limit f ≡ true
IsLimited (ScanBreakFault f line) = is_limit f ≡ true
IsLimited (Closed kept used) = ⊥

-- a scan that a limit ends, or the same, of at most so many things
unfoldable ScanTorn : {A : Type 0} → ℕ → Scanned A → Scanned A → Type 0
ScanTorn n c d = IsLimited c ⊎ ((d ≡ c) × TakesUpTo n c)

-- with a thing in front
onto-torn : {A : Type 0} (n : ℕ) (front : List A) (c d : Scanned A) → ScanTorn n c d → ScanTorn (suc n) (scan_onto front c) (scan_onto front d)
unfolding ScanTorn IsLimited TakesUpTo scan_onto
onto-torn n front (ScanFault f) d (inl h) = inl h
onto-torn n front (ScanBreakFault f line) d (inl h) = inl h
onto-torn n front (Closed kept used) d (inl h) = absurd h
onto-torn n front (ScanFault f) d (inr h) = inr (ap (scan_onto front) h.0, tt)
onto-torn n front (ScanBreakFault f line) d (inr h) = inr (ap (scan_onto front) h.0, tt)
onto-torn n front (Closed kept used) d (inr h) = inr (ap (scan_onto front) h.0, (let le = h.1 in omega (arith, le)))

-- by what the scan does at it
turn-torn : {A : Type 0} (t : Turn) (x : A) (n : ℕ) (c d : Scanned A) → ScanTorn n c d → ScanTorn (suc n) (scanned t x c) (scanned t x d)
unfolding ScanTorn TakesUpTo scanned
turn-torn Passes x n c d h = onto-torn n [] c d h
turn-torn Keeps x n c d h = onto-torn n (x ∷ []) c d h
turn-torn Closes x n c d h = inr (refl, omega arith)
turn-torn _ x n c d h = inr (refl, tt)

-- at a thing that doesn't fit, the scan finds that, or does the same as at one that does
unfitting : (at : CallState) (r : Role) (more : Bool) → (turn at r false ≡ RefusesThing ArgumentBytes) ⊎ (turn at r more ≡ turn at r false)
unfolding turn turn_inside turn_fitting
unfitting Before r more = inr refl
unfitting (Inside zero) End more = inr refl
unfitting (Inside (suc k)) End more = inl refl
unfitting (Inside k) Dropped more = inr refl
unfitting (Inside k) Halt more = inr refl
unfitting (Inside k) (Ends f line) more = inl refl
unfitting (Inside k) (Stops f line) more = inl refl
unfitting (Inside k) r more = inl refl

-- at one that fits in more room where it does in less
fitting : (at : CallState) (r : Role) (fits more : Bool) → (fits ≡ true → more ≡ true) → (turn at r fits ≡ RefusesThing ArgumentBytes) ⊎ (turn at r more ≡ turn at r fits)
fitting at r true more imp = inr (ap (turn at r) (imp refl))
fitting at r false more imp = unfitting at r more

-- a thing in front, of which the larger limit allows more
step-torn : {A : Type 0} (at : CallState) (r : Role) (fits more : Bool) (x : A) (n : ℕ) (c d : Scanned A) → (fits ≡ true → more ≡ true) → ScanTorn n c d
    → ScanTorn (suc n) (scanned (turn at r fits) x c) (scanned (turn at r more) x d)
unfolding ScanTorn IsLimited scanned is_limit
step-torn {A} at r fits more x n c d imp h =
    let limited : ScanTorn (suc n) (scanned {A = A} (RefusesThing ArgumentBytes) x c) (scanned (turn at r more) x d) = inl refl in
    ⊎_elim
    (λ e. subst (λ (t : Turn). ScanTorn (suc n) (scanned t x c) (scanned (turn at r more) x d)) (sym e) limited)
    (λ e. subst (λ (t : Turn). ScanTorn (suc n) (scanned (turn at r fits) x c) (scanned t x d)) (sym e) (turn-torn (turn at r fits) x n c d h))
    (fitting at r fits more imp)

-- a string after the name of a macro isn't passed
string-missing : {A : Type 0} (r : Role) (x : A) (rest : Scanned A) → IsStringRole r → scanned (turn_before r) x rest ≡ ScanFault ArgumentsMissing
unfolding IsStringRole turn_before scanned
string-missing Text x rest h = refl
string-missing (Ends f line) x rest h = refl
string-missing Space x rest h = absurd h
string-missing r x rest h = absurd h

-- where the run ends, the scan does as nothing more does
scan-halts : {A : Type 0} (role : A → Role) (size : A → ℕ) (at : CallState) (room : ℕ) (us : List A) → FollowsHalt role us
    → scan role size at room us ≡ ScanFault (fault_at_end at)
unfolding FollowsHalt scan
scan-halts role size at room [] h = refl
scan-halts role size at room (u ∷ us) h = grind (arith, nat_le, halted)

-- a torn thing, by its role
tear : {A : Type 0} (role : A → Role) (size : A → ℕ) (at : CallState) (most : ℕ) (r : Role) (fits : Bool) (t : A) (us : List A) (rest : Scanned A)
    → TornBy role r us → ScanTorn 0 (scanned (turn at r fits) t rest) (scan role size at most us)
unfolding TornBy ScanTorn IsLimited TakesUpTo turn turn_before turn_inside turn_fitting scanned is_limit FollowsHalt FollowsString scan fault_at_end
tear role size Before most (Stops f line) fits t us rest h = inl h
tear role size Before most (Ends f line) fits t [] rest h = absurd h.1
tear role size Before most (Ends f line) fits t (u ∷ us) rest h = inr (string-missing (role u) u _ h.1, tt)
tear role size (Inside k) most (Stops f line) true t us rest h = inl h
tear role size (Inside k) most (Stops f line) false t us rest h = inl refl
tear role size (Inside k) most (Ends f line) true t us rest h = inl h.0
tear role size (Inside k) most (Ends f line) false t us rest h = inl refl
tear role size Before most Halt fits t us rest h = inr (scan-halts role size Before most us h, tt)
tear role size (Inside k) most Halt fits t us rest h = inr (scan-halts role size (Inside k) most us h, tt)
tear role size at most Space fits t us rest h = absurd h
tear role size at most r fits t us rest h = absurd h

-- what fits in less room fits in more
fits-more : (n room most : ℕ) → room ≤ most → nat_le n room ≡ true → nat_le n most ≡ true
fits-more n room most h e = le-leb n most (le_trans (leb-true n room e) h)

-- more room stays so
room-more : (at : CallState) (r : Role) (n room most : ℕ) → room ≤ most → room_after at room r n ≤ room_after at most r n
unfolding room_after
room-more Before r n room most h = h
room-more (Inside k) r n room most h = omega (arith, h)

-- the scan of things with such an end
scan-torn : {A : Type 0} (role : A → Role) (size : A → ℕ) (at : CallState) (room most : ℕ) (xs ys zs : List A) → room ≤ most → IsTail role ys zs
    → ScanTorn (length xs) (scan role size at room (xs ++ ys)) (scan role size at most (xs ++ zs))
unfolding scan IsTail ScanTorn TakesUpTo
scan-torn role size at room most [] [] zs h tail = inr (ap (scan role size at most) tail, tt)
scan-torn role size at room most [] (t ∷ ts) zs h tail = tear role size at most (role t) (nat_le (size t) room) t zs _ tail
scan-torn role size at room most (x ∷ xs) ys zs h tail =
    step-torn at (role x) (nat_le (size x) room) (nat_le (size x) most) x (length xs) _ _ (fits-more (size x) room most h)
    (scan-torn role size (call_state_after at (role x)) (room_after at room (role x) (size x)) (room_after at most (role x) (size x)) xs ys zs
    (room-more at (role x) (size x) room most h) tail)

-- a usage that a limit refuses
unfoldable pub IsLimitedUsage : {A : Type 0} → Usage A → Type 0
IsLimitedUsage (UsageFault f word line) = is_limit f ≡ true
IsLimitedUsage (Opens m actuals used) = ⊥

-- a usage that a limit refuses, or the same, of at most so many things
unfoldable pub UsageTorn : {A : Type 0} → ℕ → Usage A → Usage A → Type 0
UsageTorn n u v = IsLimitedUsage u ⊎ ((v ≡ u) × UsesUpTo n u)

-- a choice of usages
choice-torn : {A : Type 0} (n : ℕ) (test : Bool) (u v u' v' : Usage A) → UsageTorn n u v → UsageTorn n u' v'
    → UsageTorn n (if test then u else u') (if test then v else v')
choice-torn n true u v u' v' h k = h
choice-torn n false u v u' v' h k = k

-- one that is refused alike
refused-torn : (A : Type 0) (n : ℕ) (f : FaultKind) (word : List ℕ) (line : ℕ) → UsageTorn {A = A} n (UsageFault f word line) (UsageFault f word line)
unfolding UsageTorn UsesUpTo
refused-torn A n f word line = inr (refl, tt)

module _ {A : Type 0} (reads : Reads A) (line : ℕ) (name : List ℕ) where
  -- a usage by the scan of its call
  scan-usage : (m : Macro) (formals : List Formal) (n : ℕ) (c d : Scanned A) → ScanTorn n c d
      → UsageTorn n (usage_of_call reads m formals line name (call_of_scan reads.role 0 c)) (usage_of_call reads m formals line name (call_of_scan reads.role 0 d))
  unfolding ScanTorn IsLimited TakesUpTo UsageTorn IsLimitedUsage UsesUpTo usage_of_call call_of_scan
  scan-usage m formals n (ScanFault f) d (inl h) = inl h
  scan-usage m formals n (ScanBreakFault f own) d (inl h) = inl h
  scan-usage m formals n (Closed kept used) d (inl h) = absurd h
  scan-usage m formals n (ScanFault f) d (inr h) = inr (ap (λ (s : Scanned A). usage_of_call reads m formals line name (call_of_scan reads.role 0 s)) h.0, tt)
  scan-usage m formals n (ScanBreakFault f own) d (inr h) = inr (ap (λ (s : Scanned A). usage_of_call reads m formals line name (call_of_scan reads.role 0 s)) h.0, tt)
  scan-usage m formals n (Closed kept used) d (inr h) =
      inr (ap (λ (s : Scanned A). usage_of_call reads m formals line name (call_of_scan reads.role 0 s)) h.0, counted-uses line name n _ m _ used h.1)

  module _ (rules large : Rules) (xs ys zs : List A) (h : rules.argument_bytes ≤ large.argument_bytes) (tail : IsTail reads.role ys zs) where
    -- a usage by its macro's formals
    formals-torn : (m : Macro) (formals : Option (List Formal))
        → UsageTorn (length xs) (usage_of_formals rules reads line name (xs ++ ys) m formals) (usage_of_formals large reads line name (xs ++ zs) m formals)
    unfolding usage_of_formals UsageTorn UsesUpTo
    formals-torn m None = inr (refl, omega arith)
    formals-torn m (Some formals) =
        scan-usage m formals (length xs) _ _ (scan-torn reads.role reads.size Before rules.argument_bytes large.argument_bytes xs ys zs h tail)

    -- a usage by what its name is
    found-torn : (o : List (List ℕ)) (found : Option Macro)
        → UsageTorn (length xs)
        (elim found [ None ↦ UsageFault UndefinedMacro name line | Some m ↦ usage_of_macro rules reads line o name (xs ++ ys) m ])
        (elim found [ None ↦ UsageFault UndefinedMacro name line | Some m ↦ usage_of_macro large reads line o name (xs ++ zs) m ])
    unfolding usage_of_macro
    found-torn o None = refused-torn A (length xs) UndefinedMacro name line
    found-torn o (Some m) =
        choice-torn (length xs) (list_any (bytes_eq name) o) _ _ _ _ (refused-torn A (length xs) RecursiveMacro name line) (formals-torn m m.formals)

    -- a usage in front of such an end
    pub usage-torn : (s : State) (sources more : ℕ) (o : List (List ℕ))
        → UsageTorn (length xs) (usage_of rules s reads line o name (xs ++ ys)) (usage_of large (roomier sources more s) reads line o name (xs ++ zs))
    unfolding usage_of
    usage-torn s sources more o =
        choice-torn (length xs) (is_reserved name) _ _ _ _ (refused-torn A (length xs) DirectiveInText name line) (found-torn o (macro_named s.macros name))

-- nothing ends things alike
pub no-tail : {A : Type 0} (role : A → Role) → IsTail role [] []
unfolding IsTail
no-tail role = refl

-- what tears tokens tears them as items
pub torn-written : (r : Role) (us : List SourceToken) → TornBy token_role r us → TornBy item_role r (map Written us)
unfolding TornBy FollowsString FollowsHalt item_role
torn-written (Stops f line) us h = h
torn-written (Ends f line) [] h = absurd h.1
torn-written (Ends f line) (u ∷ us) h = h
torn-written Halt [] h = h
torn-written Halt (u ∷ us) h = h
torn-written Space us h = absurd h
torn-written r us h = absurd h

-- Pieces of tokens of which a limit tears the last: those of larger limits, up to the run that the torn token ends.

-- whether a line may end after a token by what it is: not after a backquoted name, nor after blanks
unfoldable pub ends_line : Sort → Bool
ends_line (Ordinary Back) = false
ends_line (Ordinary Blank) = false
ends_line (Ordinary k) = true
ends_line Definition = true
ends_line Renumbering = true
ends_line (Broken b) = false

-- tokens in front of which a directive is given nothing
pub record GivesNothing (us : List SourceToken) : Type 0 where
  pub name : name_in_front us ≡ no_argument
  pub string : string_in_front us ≡ no_argument
  pub name_past : past_blanks name_in_front us ≡ no_argument
  pub string_past : past_blanks string_in_front us ≡ no_argument

-- a token that a limit tears, in the place of which larger limits have other tokens; the flag says that it begins a line
pub record IsTear (ended : Bool) (t : SourceToken) (ts us : List SourceToken) : Type 0 where
  pub breach : Breach
  pub broken : t.sort ≡ Broken breach
  pub last : ts ≡ []
  pub limit : is_limit (breach_kind breach) ≡ true
  pub torn : TornBy token_role (token_role t) (leading us)
  pub nothing : ended ≡ false → GivesNothing us

-- the same tokens, or the same up to one that a limit tears
unfoldable pub TokensTorn : Bool → List SourceToken → List SourceToken → Type 0
TokensTorn ended [] us = us ≡ []
TokensTorn ended (t ∷ ts) us =
    IsTear ended t ts us ⊎ ((rest : List SourceToken) × (us ≡ t ∷ rest) × TokensTorn (ends_line t.sort) ts rest)

-- the tokens of a run in front
unfoldable pub run_front : List Piece → List SourceToken
run_front [] = []
run_front (Run us ∷ qs) = us
run_front (p ∷ qs) = []

-- a run that a torn token ends, at the end of the pieces
pub record EndsTorn (p : Piece) (ps qs : List Piece) : Type 0 where
  pub before : List SourceToken
  pub breach : Breach
  pub bytes : List ℕ
  pub line : ℕ
  pub following : List SourceToken
  pub piece : p ≡ Run (before ++ record { sort = Broken breach; bytes = bytes; line = line } ∷ [])
  pub last : ps ≡ []
  pub front : run_front qs ≡ before ++ following
  pub limit : is_limit (breach_kind breach) ≡ true
  pub torn : TornBy token_role (token_role (record { sort = Broken breach; bytes = bytes; line = line })) following

-- the same pieces, or the same up to a run that a torn token ends
unfoldable pub PiecesTorn : List Piece → List Piece → Type 0
PiecesTorn [] qs = qs ≡ []
PiecesTorn (p ∷ ps) qs = EndsTorn p ps qs ⊎ ((rest : List Piece) × (qs ≡ p ∷ rest) × PiecesTorn ps rest)

-- a token in front of pieces is in front of their run
front-joined : (t : SourceToken) (qs : List Piece) → run_front (joined t qs) ≡ t ∷ run_front qs
unfolding joined run_front
front-joined t (Run us ∷ qs) = refl
front-joined t qs = refl

-- a directive is no run
front-directive : (c : Command) (qs : List Piece) → run_front (piece_of c ∷ qs) ≡ []
unfolding piece_of run_front
front-directive c qs = grind arith

-- the run in front of pieces has the leading tokens, by what the first token begins
leading-by : (first : Bool) (t : SourceToken) (ts : List SourceToken) (d : Option Directive)
    → run_front (pieces (only_blanks first t.bytes) 0 ts) ≡ leading ts
    → run_front (elim d [
      | None ↦ joined t (pieces (only_blanks first t.bytes) 0 ts)
      | Some x ↦ piece_of (command_of x first t (argument_of x ts)) ∷ pieces (only_blanks first t.bytes) (argument_of x ts).used ts
    ]) ≡ (elim d [ None ↦ t ∷ leading ts | Some x ↦ [] ])
leading-by first t ts None e = front-joined t (pieces (only_blanks first t.bytes) 0 ts) ∙ ap (λ (us : List SourceToken). t ∷ us) e
leading-by first t ts (Some x) e =
    front-directive (command_of x first t (argument_of x ts)) (pieces (only_blanks first t.bytes) (argument_of x ts).used ts)

-- the run in front of pieces has the leading tokens
front-leading : (first : Bool) (ts : List SourceToken) → run_front (pieces first 0 ts) ≡ leading ts
unfolding pieces leading run_front
front-leading first [] = refl
front-leading first (t ∷ ts) = leading-by first t ts (directive_of t) (front-leading (only_blanks first t.bytes) ts)

-- one more piece that is the same
same-torn : (p : Piece) (ps rest : List Piece) → PiecesTorn ps rest → PiecesTorn (p ∷ ps) (p ∷ rest)
unfolding PiecesTorn
same-torn p ps rest r = inr (rest, refl, r)

-- a token in front of pieces that are the same, by the first of them
joined-same : (t : SourceToken) (p : Piece) (ps rest : List Piece) → PiecesTorn ps rest
    → PiecesTorn (joined t (p ∷ ps)) (joined t (p ∷ rest))
unfolding joined
joined-same t (Run us) ps rest r = same-torn (Run (t ∷ us)) ps rest r
joined-same t (Single c) ps rest r = same-torn (Run (t ∷ [])) (Single c ∷ ps) (Single c ∷ rest) (same-torn (Single c) ps rest r)
joined-same t (Opening c) ps rest r = same-torn (Run (t ∷ [])) (Opening c ∷ ps) (Opening c ∷ rest) (same-torn (Opening c) ps rest r)
joined-same t (Branching c) ps rest r = same-torn (Run (t ∷ [])) (Branching c ∷ ps) (Branching c ∷ rest) (same-torn (Branching c) ps rest r)
joined-same t (Closing c) ps rest r = same-torn (Run (t ∷ [])) (Closing c ∷ ps) (Closing c ∷ rest) (same-torn (Closing c) ps rest r)

-- a token in front of a run that a torn token ends
joined-ends : (t : SourceToken) (p : Piece) (ps qs : List Piece) → EndsTorn p ps qs → PiecesTorn (joined t (p ∷ ps)) (joined t qs)
unfolding PiecesTorn joined
joined-ends t p ps qs e =
    let tear : SourceToken = record { sort = Broken e.breach; bytes = e.bytes; line = e.line } in
    subst (λ (x : Piece). PiecesTorn (joined t (x ∷ ps)) (joined t qs)) (sym e.piece)
    (subst (λ (xs : List Piece). PiecesTorn (joined t (Run (e.before ++ tear ∷ []) ∷ xs)) (joined t qs)) (sym e.last)
    (inl (record {
      before = t ∷ e.before;
      breach = e.breach;
      bytes = e.bytes;
      line = e.line;
      following = e.following;
      piece = refl;
      last = refl;
      front = front-joined t qs ∙ ap (λ (us : List SourceToken). t ∷ us) e.front;
      limit = e.limit;
      torn = e.torn;
    })))

-- a token in front
joined-torn : (t : SourceToken) (ps qs : List Piece) → PiecesTorn ps qs → PiecesTorn (joined t ps) (joined t qs)
unfolding PiecesTorn joined
joined-torn t [] qs h = subst (λ (xs : List Piece). PiecesTorn (joined t []) (joined t xs)) (sym h) (inr ([], refl, refl))
joined-torn t (p ∷ ps) qs (inl e) = joined-ends t p ps qs e
joined-torn t (p ∷ ps) qs (inr (rest, e, r)) =
    subst (λ (xs : List Piece). PiecesTorn (joined t (p ∷ ps)) (joined t xs)) (sym e) (joined-same t p ps rest r)

-- a token isn't broken by what it is
unfoldable pub IsUnbroken : Sort → Type 0
IsUnbroken (Broken b) = ⊥
IsUnbroken sort = Unit

-- the first tokens, so many, aren't broken
unfoldable pub FirstUnbroken : ℕ → List SourceToken → Type 0
FirstUnbroken (suc k) (t ∷ ts) = IsUnbroken t.sort × FirstUnbroken k ts
FirstUnbroken _ ts = Unit

-- a name in front, by what the first token is, goes by it alone
name-alone-by : (sort : Sort) (bytes : List ℕ) (line : ℕ) (ts us : List SourceToken)
    → name_in_front (record { sort = sort; bytes = bytes; line = line } ∷ ts) ≡ name_in_front (record { sort = sort; bytes = bytes; line = line } ∷ us)
unfolding name_in_front
name-alone-by (Ordinary k) bytes line ts us = refl
name-alone-by _ bytes line ts us = refl

-- and so does a string
string-alone-by : (sort : Sort) (bytes : List ℕ) (line : ℕ) (ts us : List SourceToken)
    → string_in_front (record { sort = sort; bytes = bytes; line = line } ∷ ts) ≡ string_in_front (record { sort = sort; bytes = bytes; line = line } ∷ us)
unfolding string_in_front
string-alone-by (Ordinary k) bytes line ts us = refl
string-alone-by _ bytes line ts us = refl

-- a broken token gives no name
name-broken : (b : Breach) (bytes : List ℕ) (line : ℕ) (ts : List SourceToken)
    → name_in_front (record { sort = Broken b; bytes = bytes; line = line } ∷ ts) ≡ no_argument
unfolding name_in_front
name-broken b bytes line ts = refl

-- nor a string
string-broken : (b : Breach) (bytes : List ℕ) (line : ℕ) (ts : List SourceToken)
    → string_in_front (record { sort = Broken b; bytes = bytes; line = line } ∷ ts) ≡ no_argument
unfolding string_in_front
string-broken b bytes line ts = refl

-- nor anything after blanks
past-broken : (f : List SourceToken → Argument) (b : Breach) (bytes : List ℕ) (line : ℕ) (ts : List SourceToken)
    → past_blanks f (record { sort = Broken b; bytes = bytes; line = line } ∷ ts) ≡ no_argument
unfolding past_blanks
past-broken f b bytes line ts = refl

-- what stands in front goes by the first token, and is nothing where it is broken or nothing stands there
record IsFront (f : List SourceToken → Argument) : Type 0 where
  alone : (t : SourceToken) (ts us : List SourceToken) → f (t ∷ ts) ≡ f (t ∷ us)
  broken : (b : Breach) (bytes : List ℕ) (line : ℕ) (ts : List SourceToken) → f (record { sort = Broken b; bytes = bytes; line = line } ∷ ts) ≡ no_argument
  given : (us : List SourceToken) → GivesNothing us → f us ≡ no_argument
  past : (us : List SourceToken) → GivesNothing us → past_blanks f us ≡ no_argument

-- names stand in front so
name-front : IsFront name_in_front
name-front = grind (arith, name-alone-by, name-broken)

-- and strings
string-front : IsFront string_in_front
string-front = grind (arith, string-alone-by, string-broken)

-- a broken token in front, by what it is
broken-by : (f : List SourceToken → Argument) → IsFront f → (b : Breach) (sort : Sort) (bytes : List ℕ) (line : ℕ) (ts : List SourceToken)
    → sort ≡ Broken b → f (record { sort = sort; bytes = bytes; line = line } ∷ ts) ≡ no_argument
broken-by f i b sort bytes line ts e =
    subst (λ (x : Sort). f (record { sort = x; bytes = bytes; line = line } ∷ ts) ≡ no_argument) (sym e) (i.broken b bytes line ts)

-- a broken token in front, after blanks
past-by : (f : List SourceToken → Argument) (b : Breach) (sort : Sort) (bytes : List ℕ) (line : ℕ) (ts : List SourceToken)
    → sort ≡ Broken b → past_blanks f (record { sort = sort; bytes = bytes; line = line } ∷ ts) ≡ no_argument
past-by f b sort bytes line ts e =
    subst (λ (x : Sort). past_blanks f (record { sort = x; bytes = bytes; line = line } ∷ ts) ≡ no_argument) (sym e) (past-broken f b bytes line ts)

-- what stands in front of torn tokens
front-torn : (f : List SourceToken → Argument) → IsFront f → (ts us : List SourceToken) → TokensTorn false ts us → f ts ≡ f us
unfolding TokensTorn
front-torn f i [] us h = ap f (sym h)
front-torn f i (t ∷ ts) us (inl e) = broken-by f i e.breach t.sort t.bytes t.line ts e.broken ∙ sym (i.given us (e.nothing refl))
front-torn f i (t ∷ ts) us (inr (rest, e, r)) = i.alone t ts rest ∙ ap f (sym e)

-- what stands after blanks there, where the first token is the same, by what it is
past-same : (f : List SourceToken → Argument) → IsFront f → (sort : Sort) (bytes : List ℕ) (line : ℕ) (ts rest : List SourceToken)
    → TokensTorn (ends_line sort) ts rest
    → past_blanks f (record { sort = sort; bytes = bytes; line = line } ∷ ts) ≡ past_blanks f (record { sort = sort; bytes = bytes; line = line } ∷ rest)
unfolding past_blanks ends_line
past-same f i (Ordinary Blank) bytes line ts rest r =
    ap (λ (a : Argument). after_blanks (record { sort = Ordinary Blank; bytes = bytes; line = line }) a) (front-torn f i ts rest r)
past-same f i (Ordinary k) bytes line ts rest r = i.alone (record { sort = Ordinary k; bytes = bytes; line = line }) ts rest
past-same f i _ bytes line ts rest r = refl

-- what stands after blanks in front of torn tokens
past-torn : (f : List SourceToken → Argument) → IsFront f → (ts us : List SourceToken) → TokensTorn false ts us → past_blanks f ts ≡ past_blanks f us
unfolding TokensTorn
past-torn f i [] us h = ap (past_blanks f) (sym h)
past-torn f i (t ∷ ts) us (inl e) = past-by f e.breach t.sort t.bytes t.line ts e.broken ∙ sym (i.past us (e.nothing refl))
past-torn f i (t ∷ ts) us (inr (rest, e, r)) = past-same f i t.sort t.bytes t.line ts rest r ∙ ap (past_blanks f) (sym e)

-- what a directive is given is the same
argument-torn : (d : Directive) (ts us : List SourceToken) → TokensTorn false ts us → argument_of d ts ≡ argument_of d us
unfolding argument_of
argument-torn Include ts us h = past-torn string_in_front string-front ts us h
argument-torn Define ts us h = refl
argument-torn Else ts us h = refl
argument-torn Endif ts us h = refl
argument-torn Line ts us h = refl
argument-torn _ ts us h = past-torn name_in_front name-front ts us h

-- what a directive takes isn't broken
argument-unbroken : (d : Directive) (ts : List SourceToken) → FirstUnbroken (argument_of d ts).used ts
unfolding FirstUnbroken IsUnbroken no_argument one_argument
argument-unbroken d ts =
    argument_by (λ us a. FirstUnbroken a.used us) (λ us. tt) (λ bytes line us. (tt, tt)) (λ bytes line us. (tt, tt)) (λ bytes line us given text used h. (tt, h)) d ts

-- pieces from each number of tokens on that aren't broken
abbrev pub PiecesFrom : List SourceToken → List SourceToken → Type 0
PiecesFrom ts us = (first : Bool) (k : ℕ) → FirstUnbroken k ts → PiecesTorn (pieces first k ts) (pieces first k us)

-- a directive in front of torn tokens
directive-torn : (first : Bool) (d : Directive) (t : SourceToken) (ts us : List SourceToken) → argument_of d ts ≡ argument_of d us → PiecesFrom ts us
    → PiecesTorn (piece_of (command_of d first t (argument_of d ts)) ∷ pieces (only_blanks first t.bytes) (argument_of d ts).used ts)
    (piece_of (command_of d first t (argument_of d us)) ∷ pieces (only_blanks first t.bytes) (argument_of d us).used us)
directive-torn first d t ts us e r = grind (arith, same-torn, argument-unbroken)

-- a backquoted name in front of torn tokens, by the directive that it is
back-torn : (first : Bool) (t : SourceToken) (ts us : List SourceToken) (d : Option Directive) → TokensTorn false ts us → PiecesFrom ts us
    → PiecesTorn
    (elim d [
      | None ↦ joined t (pieces (only_blanks first t.bytes) 0 ts)
      | Some x ↦ piece_of (command_of x first t (argument_of x ts)) ∷ pieces (only_blanks first t.bytes) (argument_of x ts).used ts
    ])
    (elim d [
      | None ↦ joined t (pieces (only_blanks first t.bytes) 0 us)
      | Some x ↦ piece_of (command_of x first t (argument_of x us)) ∷ pieces (only_blanks first t.bytes) (argument_of x us).used us
    ])
unfolding FirstUnbroken
back-torn first t ts us None h r =
    joined-torn t (pieces (only_blanks first t.bytes) 0 ts) (pieces (only_blanks first t.bytes) 0 us) (r (only_blanks first t.bytes) 0 tt)
back-torn first t ts us (Some x) h r = directive-torn first x t ts us (argument-torn x ts us h) r

-- a token in front of torn tokens, by what it is
sort-torn : (first : Bool) (sort : Sort) (bytes : List ℕ) (line : ℕ) (ts us : List SourceToken) → TokensTorn (ends_line sort) ts us → PiecesFrom ts us
    → PiecesTorn (pieces first 0 (record { sort = sort; bytes = bytes; line = line } ∷ ts)) (pieces first 0 (record { sort = sort; bytes = bytes; line = line } ∷ us))
unfolding pieces directive_of ends_line FirstUnbroken argument_of
sort-torn first (Ordinary Back) bytes line ts us h r =
    back-torn first (record { sort = Ordinary Back; bytes = bytes; line = line }) ts us (tokenless_worded bytes) h r
sort-torn first (Ordinary k) bytes line ts us h r = grind (arith, joined-torn)
sort-torn first Definition bytes line ts us h r = directive-torn first Define (record { sort = Definition; bytes = bytes; line = line }) ts us refl r
sort-torn first Renumbering bytes line ts us h r = directive-torn first Line (record { sort = Renumbering; bytes = bytes; line = line }) ts us refl r
sort-torn first (Broken b) bytes line ts us h r = grind (arith, joined-torn)

-- a torn token in front, by what it is
tear-pieces : (first : Bool) (b : Breach) (sort : Sort) (bytes : List ℕ) (line : ℕ) (us : List SourceToken) → sort ≡ Broken b
    → is_limit (breach_kind b) ≡ true → TornBy token_role (token_role (record { sort = sort; bytes = bytes; line = line })) (leading us)
    → PiecesTorn (pieces first 0 (record { sort = sort; bytes = bytes; line = line } ∷ [])) (pieces first 0 us)
unfolding pieces directive_of PiecesTorn joined
tear-pieces first b sort bytes line us e limit torn =
    subst (λ (x : Sort). PiecesTorn (pieces first 0 (record { sort = x; bytes = bytes; line = line } ∷ [])) (pieces first 0 us)) (sym e)
    (inl (record {
      before = [];
      breach = b;
      bytes = bytes;
      line = line;
      following = leading us;
      piece = refl;
      last = refl;
      front = front-leading first us;
      limit = limit;
      torn = subst (λ (x : Sort). TornBy token_role (token_role (record { sort = x; bytes = bytes; line = line })) (leading us)) e torn;
    }))

-- a broken token isn't unbroken
broken-first : (b : Breach) (sort : Sort) → sort ≡ Broken b → IsUnbroken sort → ⊥
unfolding IsUnbroken
broken-first b sort e h = subst (λ (x : Sort). IsUnbroken x) e h

-- the pieces of torn tokens
pub pieces-torn : (ended : Bool) (ts us : List SourceToken) → TokensTorn ended ts us → PiecesFrom ts us
unfolding TokensTorn pieces PiecesTorn FirstUnbroken
pieces-torn ended [] us h = λ first k u. subst (λ (xs : List SourceToken). PiecesTorn (pieces first k []) (pieces first k xs)) (sym h) refl
pieces-torn ended (t ∷ ts) us (inl e) = at_tear
  where
    at_tear : (first : Bool) (k : ℕ) → FirstUnbroken k (t ∷ ts) → PiecesTorn (pieces first k (t ∷ ts)) (pieces first k us)
    at_tear first zero u =
        subst (λ (xs : List SourceToken). PiecesTorn (pieces first 0 (t ∷ xs)) (pieces first 0 us)) (sym e.last)
        (tear-pieces first e.breach t.sort t.bytes t.line us e.broken e.limit e.torn)
    at_tear first (suc k) u = absurd (broken-first e.breach t.sort e.broken u.0)
pieces-torn ended (t ∷ ts) us (inr (rest, e, r)) =
    same_in_front (pieces-torn (ends_line t.sort) ts rest r)
  where
    same_in_front : PiecesFrom ts rest → (first : Bool) (k : ℕ) → FirstUnbroken k (t ∷ ts) → PiecesTorn (pieces first k (t ∷ ts)) (pieces first k us)
    same_in_front inner first zero u =
        subst (λ (xs : List SourceToken). PiecesTorn (pieces first 0 (t ∷ ts)) (pieces first 0 xs)) (sym e)
        (sort-torn first t.sort t.bytes t.line ts rest r inner)
    same_in_front inner first (suc k) u =
        subst (λ (xs : List SourceToken). PiecesTorn (pieces first (suc k) (t ∷ ts)) (pieces first (suc k) xs)) (sym e)
        (inner (only_blanks first t.bytes) k u.1)
