-- The tokens of a text, and expansion and runs over tokens, with smaller and with larger limits.
use Rattle.std.proofs.Common.{◌≡◌, ℕ, zero, suc, ◌+◌, ◌-◌, ◌<◌, ◌≤◌, ◌⊎◌, ⊎_elim, inl, inr, Bool, true, false, true≢false, List, [], ◌∷◌, ◌++◌, length, take, drop, refl, sym, ap, subst, ◌∙◌, arith, append-nil, append_assoc, Option, None, Some, map, if◌then◌else◌, nat_lt, slice_index, unwrap_or, ◌==◌, eqb-true, le-ltb, lt-ltb, length-append, length-drop}
use Rattle.std.specs.List.{list_any}
use Rattle.std.proofs.Math.Seq.{take-append-add, take-length}
use Rattle.std.proofs.lemmas.Bool.{and_parts, false≢true}
use Rattle.std.proofs.lemmas.List.{map-append, take-append-le}
use Rattle.rdlpp_scan.specs.Bytes.{begins_block_comment, is_line_end}
use Rattle.rdlpp_scan.specs.Front.{Breach, Break, CommentOpen, Front, LineLong, PerlFound, SourceLong, StringOpen, front, front_of_lines, lines_of, onto_first, onto_front}
use Rattle.rdlpp_scan.specs.Lines.{IsWholeLines, onto_whole_lines, whole_lines_len}
use Rattle.rdlpp_scan.specs.Ordinary.{is_plain_kind}
use Rattle.rdlpp_scan.specs.SourceTokens.{Broken, Course, Last, Next, Ordinary, Sort, SourceToken, Step, broken, comment_step, line_after, line_ends, open_end, remaining_tokens, source_end, source_step, source_tokens, step_by, string_step, whole_tokens}
use Rattle.rdlpp_scan.specs.Tokens.{block_token, string_token, token_of, whole}
use Rattle.rdlpp_scan.specs.declared.token.Kind.{Kind}
use Rattle.rdlpp_scan.specs.declared.token.Kind.TheVariants.{Back, BareBackquote, BlockComment, Str}
use Rattle.rdlpp_scan.specs.declared.token.Mode.{Mode}
use Rattle.rdlpp_scan.specs.declared.token.Mode.TheVariants.{InBlock, InStr, Plain}
use Rattle.rdlpp_scan.specs.declared.token.Token.{Token}
use Rattle.rdlpp_scan.proofs.SourceLaws.{IsWholeLines-append, IsWholeLines-drop, source_tokens-last}
use Rattle.rdlpp_scan.proofs.Seams.{BeforePerl, Closed, IsCut-from_line, OpenComment, OpenString, Seam, longer, token_of-seam}
use Rattle.rdlpp_scan.proofs.StopKinds.{AtBack, AtBare, AtBlockComment, AtLineComment, AtPerl, AtPlain, AtString, Row, block_token-kind, row-string, string_token-kind, token_of-row}
use Rattle.rdlpp_scan.proofs.TokenLens.{token_of-part}
use Rattle.rdlpp_scan.proofs.TokenSteps.{next_held}
use Rattle.rdlpp_meaning.specs.Actuals.{item_reads, item_role, token_role}
use Rattle.rdlpp_meaning.specs.Expansion.{Opens, UsageFault, Usage, expand, run_outcome, usage_of, walk}
use Rattle.rdlpp_meaning.specs.Items.{Arg, Item, Written, listed}
use Rattle.rdlpp_laws.specs.LimitLaws.{NamesNoLimit, is_limit}
use Rattle.rdlpp_meaning.specs.Meaning.{skipped_run}
use Rattle.rdlpp_meaning.specs.Outcome.{Outcome, Report, and_then, fails, gives}
use Rattle.rdlpp_meaning.specs.Parts.{line_ends_of}
use Rattle.rdlpp_meaning.specs.State.{Rules, State, breach_kind, fault_at}
use Rattle.rdlpp_meaning.specs.Substitution.{substituted}
use Rattle.rdlpp_laws.proofs.TornCalls.{IsLimitedUsage, IsTail, TokensTorn, TornBy, UsageTorn, ends_line, no-tail, roomier, torn-written, usage-torn}
use Rattle.rdlpp_laws.proofs.TornTokens.{Ends, Goes, IsBreakOfLimit, IsOwnBreak, IsShort, Stays, StepTorn, Tears, closed-torn, comment-head, ends-by, ends-line, has_line_end, limit-breach, limit-broken, plain-short, step_head, string-head, tears-comment, tears-string, unpassed}
use Rattle.rdlpp_meaning.proofs.LiveText.{deeper_of, expand_walk, usage_walk, usage_walks}
use Rattle.rdlpp_meaning.proofs.SourceCalls.{UsesUpTo}

-- The tokens of a text with smaller and with larger limits of lines and sources: the same, or torn by the smaller ones.

-- a block comment begins as one
row-comment : (bs : List ℕ) (t : Token) → Row bs t → t.kind ≡ BlockComment → begins_block_comment bs ≡ true
unfolding whole is_plain_kind
row-comment bs t (AtPerl h e) k = let i = ap (λ (u : Token). u.kind) e in absurd (cc)
row-comment bs t (AtLineComment h e) k = absurd (cc)
row-comment bs t (AtBlockComment h e) k = h
row-comment bs t (AtString h e) k = absurd (cc)
row-comment bs t (AtBack h e) k = let i = ap (λ (u : Token). u.kind) e in absurd (cc)
row-comment bs t (AtBare h g e) k = let i = ap (λ (u : Token). u.kind) e in absurd (cc)
row-comment bs t (AtPlain h q) k = absurd (false≢true (sym (ap is_plain_kind k) ∙ h))

-- a block comment begins with no quote
comment-quote : (bs : List ℕ) → begins_block_comment bs ≡ true → (slice_index bs 0 == 34) ≡ false
unfolding begins_block_comment
comment-quote bs h = grind (arith, and_parts, eqb-true)

-- a string that ends before `<%`
perl-torn : (c c' : Course) (line n : ℕ) (held more : List ℕ) → n < length held
    → StepTorn held (string_step c line line (record { kind = Str; len = n; next_mode = InStr }) held)
    (string_step c' line line (record { kind = Str; len = n; next_mode = InStr }) (held ++ more))
unfolding string_step broken
perl-torn c c' line n held more lt =
    let own = take n held in
    let size = length-append held more in
    Stays (record { sort = Broken PerlFound; bytes = own; line = line + line_ends own })
    (ap (λ (x : Bool). if x then broken PerlFound own (line + line_ends own) else open_end c StringOpen line line own) (lt-ltb n (length held) lt))
    (ap (λ (x : Bool). if x then broken PerlFound (take n (held ++ more)) (line + line_ends (take n (held ++ more))) else open_end c' StringOpen line line (take n (held ++ more)))
    (lt-ltb n (length (held ++ more)) (omega (arith, lt, size)))
    ∙ ap (λ (bs : List ℕ). broken PerlFound bs (line + line_ends bs)) (take-append-le n held more (omega (arith, lt))))

-- a string that is open where the text ends, and is no longer than that
string-end : (most most' line : ℕ) (held : List ℕ)
    → StepTorn held (string_step (record { most = most; break = None }) line line (record { kind = Str; len = length held; next_mode = InStr }) held)
    (string_step (record { most = most'; break = None }) line line (record { kind = Str; len = length held; next_mode = InStr }) held)
unfolding string_step open_end broken
string-end most most' line held =
    let own = take (length held) held in
    let e : nat_lt (length held) (length held) ≡ false = le-ltb (length held) (length held) (omega arith) in
    let t : SourceToken = record { sort = Broken StringOpen; bytes = own; line = line } in
    let is = ap (λ (x : Bool). if x then broken PerlFound own (line + line_ends own) else Last t) e in
    Stays t is is

-- a comment that is open where the text ends
comment-end : (most most' line : ℕ) (held : List ℕ)
    → StepTorn held (comment_step (record { most = most; break = None }) line line (record { kind = BlockComment; len = length held; next_mode = InBlock }) held)
    (comment_step (record { most = most'; break = None }) line line (record { kind = BlockComment; len = length held; next_mode = InBlock }) held)
unfolding comment_step open_end broken
comment-end most most' line held = Stays (record { sort = Broken CommentOpen; bytes = take (length held) held; line = line }) refl refl

-- a string that is open where a limit ends the text
string-small : (most : ℕ) (j : Break) (line : ℕ) (held : List ℕ)
    → string_step (record { most = most; break = Some j }) line line (record { kind = Str; len = length held; next_mode = InStr }) held
    ≡ broken j.breach (take (length held) held) (line + line_ends (take (length held) held))
unfolding string_step open_end
string-small most j line held = grind (arith, le-ltb)

-- a comment that is open where a limit ends the text
comment-small : (most : ℕ) (j : Break) (line : ℕ) (held : List ℕ)
    → comment_step (record { most = most; break = Some j }) line line (record { kind = BlockComment; len = length held; next_mode = InBlock }) held
    ≡ broken j.breach (take (length held) held) (line + line_ends (take (length held) held))
unfolding comment_step open_end
comment-small most j line held = refl

-- a string that a limit tears
string-torn : (most most' : ℕ) (j : Break) (k' : Option Break) (line n : ℕ) (mode : Mode) (b : ℕ) (bs more : List ℕ)
    → (j.breach ≡ LineLong) ⊎ (j.breach ≡ SourceLong) → IsOwnBreak k' → IsWholeLines (b ∷ bs) → (b == 34) ≡ true
    → StepTorn (b ∷ bs) (string_step (record { most = most; break = Some j }) line line (record { kind = Str; len = length (b ∷ bs); next_mode = InStr }) (b ∷ bs))
    (string_step (record { most = most'; break = k' }) line line (record { kind = Str; len = length (b ∷ bs) + n; next_mode = mode }) ((b ∷ bs) ++ more))
string-torn most most' j k' line n mode b bs more limit own whole_lines q =
    let held = b ∷ bs in
    let text = take (length held) held in
    let c' : Course = record { most = most'; break = k' } in
    let grown = take-append-add held more n in
    tears-string held j.breach text (line + line_ends text) _ _ limit (ap (λ (xs : List ℕ). slice_index xs 0 == 34) (take-length held) ∙ q)
    (string-small most j line held)
    (string-head c' line line (length held + n) mode (held ++ more) own
    (ap (λ (xs : List ℕ). slice_index xs 0 == 34) grown ∙ q)
    (ap (λ (xs : List ℕ). list_any is_line_end xs) grown ∙ has_line_end b bs (take n more) whole_lines))

-- a comment that a limit tears
comment-torn : (most most' : ℕ) (j : Break) (k' : Option Break) (line n : ℕ) (mode : Mode) (held more : List ℕ)
    → (j.breach ≡ LineLong) ⊎ (j.breach ≡ SourceLong) → (slice_index held 0 == 34) ≡ false
    → StepTorn held (comment_step (record { most = most; break = Some j }) line line (record { kind = BlockComment; len = length held; next_mode = InBlock }) held)
    (comment_step (record { most = most'; break = k' }) line line (record { kind = BlockComment; len = n; next_mode = mode }) (held ++ more))
comment-torn most most' j k' line n mode held more limit q =
    let text = take (length held) held in
    let c' : Course = record { most = most'; break = k' } in
    tears-comment held j.breach text (line + line_ends text) _ _ limit (ap (λ (xs : List ℕ). slice_index xs 0 == 34) (take-length held) ∙ q)
    (comment-small most j line held) (comment-head c' line line n mode (held ++ more))

-- a string that is open where the text ends, by what is after it
open-string-torn : (most most' : ℕ) (k k' : Option Break) (line : ℕ) (b : ℕ) (bs more : List ℕ)
    → Ends (b ∷ bs) more k k' → IsOwnBreak k'
    → token_of Plain (b ∷ bs) ≡ record { kind = Str; len = length (b ∷ bs); next_mode = InStr }
    → token_of Plain ((b ∷ bs) ++ more) ≡ longer (length (b ∷ bs)) (string_token 0 more)
    → StepTorn (b ∷ bs) (step_by (record { most = most; break = k }) line line (record { kind = Str; len = length (b ∷ bs); next_mode = InStr }) (b ∷ bs))
    (step_by (record { most = most'; break = k' }) line line (token_of Plain ((b ∷ bs) ++ more)) ((b ∷ bs) ++ more))
unfolding step_by
open-string-torn most most' k k' line b bs more ends own is e =
    let held = b ∷ bs in
    let v = string_token 0 more in
    let small : Option Break → Step = λ x. step_by (record { most = most; break = x }) line line (record { kind = Str; len = length held; next_mode = InStr }) held in
    let large : Option Break → Token → List ℕ → Step = λ x t. step_by (record { most = most'; break = x }) line line t in
    ends-by (λ text x y. StepTorn held (small x) (large y (token_of Plain text) text)) held more k k' ends
    (subst (λ (t : Token). StepTorn held (small None) (large None t held)) (sym is) (string-end most most' line held))
    (λ j w limit. subst (λ (t : Token). StepTorn held (small (Some j)) (large k' t (held ++ more))) (sym e)
    (subst (λ (x : Kind). StepTorn held (small (Some j)) (large k' (record { kind = x; len = length held + v.len; next_mode = v.next_mode }) (held ++ more))) (sym (string_token-kind 0 more))
    (string-torn most most' j k' line v.len v.next_mode b bs more limit own w
    (row-string held (token_of Plain held) (token_of-row held) (ap (λ (t : Token). t.kind) is)))))

-- a comment that is open where the text ends, by what is after it
open-comment-torn : (most most' : ℕ) (k k' : Option Break) (line : ℕ) (held more : List ℕ)
    → Ends held more k k' → IsOwnBreak k'
    → token_of Plain held ≡ record { kind = BlockComment; len = length held; next_mode = InBlock }
    → token_of Plain (held ++ more) ≡ longer (length held) (block_token 0 more)
    → StepTorn held (step_by (record { most = most; break = k }) line line (record { kind = BlockComment; len = length held; next_mode = InBlock }) held)
    (step_by (record { most = most'; break = k' }) line line (token_of Plain (held ++ more)) (held ++ more))
unfolding step_by
open-comment-torn most most' k k' line held more ends own is e =
    let v = block_token 0 more in
    let small : Option Break → Step = λ x. step_by (record { most = most; break = x }) line line (record { kind = BlockComment; len = length held; next_mode = InBlock }) held in
    let large : Option Break → Token → List ℕ → Step = λ x t. step_by (record { most = most'; break = x }) line line t in
    ends-by (λ text x y. StepTorn held (small x) (large y (token_of Plain text) text)) held more k k' ends
    (subst (λ (t : Token). StepTorn held (small None) (large None t held)) (sym is) (comment-end most most' line held))
    (λ j w limit. subst (λ (t : Token). StepTorn held (small (Some j)) (large k' t (held ++ more))) (sym e)
    (subst (λ (x : Kind). StepTorn held (small (Some j)) (large k' (record { kind = x; len = length held + v.len; next_mode = v.next_mode }) (held ++ more))) (sym (block_token-kind 0 more))
    (comment-torn most most' j k' line (length held + v.len) v.next_mode held more limit
    (comment-quote held (row-comment held (token_of Plain held) (token_of-row held) (ap (λ (t : Token). t.kind) is))))))

-- a token that closes is one that is closed
closed-is : (t : Token) → t.next_mode ≡ Plain → t ≡ record { kind = t.kind; len = t.len; next_mode = Plain }
closed-is t e = ap (λ (m : Mode). record { kind = t.kind; len = t.len; next_mode = m }) e

-- a string before `<%`, by its token
perl-seam : (most most' : ℕ) (k k' : Option Break) (line : ℕ) (t v : Token) (held more : List ℕ)
    → v ≡ t → t ≡ record { kind = Str; len = t.len; next_mode = InStr } → t.len < length held
    → StepTorn held (step_by (record { most = most; break = k }) line line t held)
    (step_by (record { most = most'; break = k' }) line line v (held ++ more))
unfolding step_by
perl-seam most most' k k' line t v held more e is lt =
    let c : Course = record { most = most; break = k } in
    let c' : Course = record { most = most'; break = k' } in
    subst (λ (x : Token). StepTorn held (step_by c line line t held) (step_by c' line line x (held ++ more))) (sym e)
    (subst (λ (x : Token). StepTorn held (step_by c line line x held) (step_by c' line line x (held ++ more))) (sym is)
    (perl-torn c c' line t.len held more lt))

-- a step at a token, by how it stands in the text with more after it
seam-torn : (most most' : ℕ) (k k' : Option Break) (line : ℕ) (b : ℕ) (bs more : List ℕ)
    → most ≤ most' → Ends (b ∷ bs) more k k' → IsOwnBreak k'
    → Seam (b ∷ bs) more (token_of Plain (b ∷ bs)) (token_of Plain ((b ∷ bs) ++ more))
    → StepTorn (b ∷ bs) (step_by (record { most = most; break = k }) line line (token_of Plain (b ∷ bs)) (b ∷ bs))
    (step_by (record { most = most'; break = k' }) line line (token_of Plain ((b ∷ bs) ++ more)) ((b ∷ bs) ++ more))
unfolding token_of IsShort
seam-torn most most' k k' line b bs more le ends own (Closed e closed) =
    let held = b ∷ bs in
    let t = token_of Plain held in
    let c : Course = record { most = most; break = k } in
    let c' : Course = record { most = most'; break = k' } in
    let part = token_of-part Plain held (omega arith) in
    let whole_is = closed-is t closed in
    subst (λ (v : Token). StepTorn held (step_by c line line t held) (step_by c' line line v (held ++ more))) (sym e)
    (subst (λ (v : Token). StepTorn held (step_by c line line v held) (step_by c' line line v (held ++ more))) (sym whole_is)
    (closed-torn most most' k k' line t.kind t.len held more part.not_empty part.inside (plain-short b bs) le ends))
seam-torn most most' k k' line b bs more le ends own (BeforePerl e is lt perl) =
    perl-seam most most' k k' line (token_of Plain (b ∷ bs)) (token_of Plain ((b ∷ bs) ++ more)) (b ∷ bs) more e is lt
seam-torn most most' k k' line b bs more le ends own (OpenString is e) =
    let held = b ∷ bs in
    subst (λ (v : Token). StepTorn held (step_by (record { most = most; break = k }) line line v held)
    (step_by (record { most = most'; break = k' }) line line (token_of Plain (held ++ more)) (held ++ more))) (sym is)
    (open-string-torn most most' k k' line b bs more ends own is e)
seam-torn most most' k k' line b bs more le ends own (OpenComment is e) =
    let held = b ∷ bs in
    subst (λ (v : Token). StepTorn held (step_by (record { most = most; break = k }) line line v held)
    (step_by (record { most = most'; break = k' }) line line (token_of Plain (held ++ more)) (held ++ more))) (sym is)
    (open-comment-torn most most' k k' line held more ends own is e)

-- a step of a text
step-torn : (most most' : ℕ) (k k' : Option Break) (o line : ℕ) (b : ℕ) (bs more : List ℕ)
    → most ≤ most' → Ends (b ∷ bs) more k k' → IsOwnBreak k'
    → StepTorn (b ∷ bs) (source_step (record { most = most; break = k }) Plain o line (b ∷ bs))
    (source_step (record { most = most'; break = k' }) Plain o line ((b ∷ bs) ++ more))
unfolding source_step
step-torn most most' k k' o line b bs more le ends own =
    seam-torn most most' k k' line b bs more le ends own
    (token_of-seam Plain (b ∷ bs) more (omega arith) (IsCut-from_line (b ∷ bs) more (ends-line (b ∷ bs) more k k' ends)))

-- the first token of a text is that of its step
first-is : (c : Course) (o l b : ℕ) (bs : List ℕ)
    → (rest : List SourceToken) × (source_tokens c Plain o l 0 (b ∷ bs) ≡ step_head (source_step c Plain o l (b ∷ bs)) ∷ rest)
unfolding source_tokens step_head
first-is c o l b bs = by_step (source_step c Plain o l (b ∷ bs))
  where
    by_step : (s : Step) → (rest : List SourceToken)
        × ((elim s [ Last t ↦ t ∷ [] | Next t ↦ t ∷ source_tokens c Plain l (line_after b l) (length t.bytes - 1) bs ]) ≡ step_head s ∷ rest)
    by_step (Last t) = ([], refl)
    by_step (Next t) = (source_tokens c Plain l (line_after b l) (length t.bytes - 1) bs, refl)

-- what is after the first token of a text
small-next : (c : Course) (o l : ℕ) (held : List ℕ) (t : SourceToken) (n : ℕ) → 0 < n → n ≤ length held → t.bytes ≡ take n held
    → source_step c Plain o l held ≡ Next t
    → source_tokens c Plain o l 0 held ≡ t ∷ source_tokens c Plain l (l + line_ends (take n held)) 0 (drop n held)
small-next c o l held t n some inside bytes step =
    ap (λ (xs : List ℕ). source_tokens c Plain o l 0 xs) (sym (append-nil held))
    ∙ next_held c o l held [] t n some inside bytes (ap (λ (xs : List ℕ). source_step c Plain o l xs) (append-nil held) ∙ step)
    ∙ ap (λ (xs : List ℕ). t ∷ source_tokens c Plain l (l + line_ends (take n held)) 0 xs) (append-nil (drop n held))

-- the end of a text, by its break
end-torn : (most most' : ℕ) (k k' : Option Break) (ended : Bool) (o l : ℕ) (more : List ℕ) → Ends [] more k k'
    → (ended ≡ false → IsBreakOfLimit k → ⊥)
    → TokensTorn ended (source_tokens (record { most = most; break = k }) Plain o l 0 [])
    (source_tokens (record { most = most'; break = k' }) Plain o l 0 more)
unfolding source_tokens source_end TokensTorn IsBreakOfLimit TornBy token_role
end-torn most most' k k' ended o l more ends = grind (arith, ends-by, limit-breach, limit-broken)

-- a flag that a line ends holds where a limit breaks off at once
abbrev Flagged : Bool → List ℕ → Option Break → Type 0
Flagged ended held k = ended ≡ false → IsBreakOfLimit k → 0 < length held

-- the tokens of a text, by the step of its first
step-tokens : (most most' : ℕ) (k k' : Option Break) (ended : Bool) (o l b : ℕ) (bs more : List ℕ)
    → Ends (b ∷ bs) more k k'
    → ((n : ℕ) (t : SourceToken) → 0 < n → n ≤ length (b ∷ bs) → Flagged (ends_line t.sort) (drop n (b ∷ bs)) k
    → TokensTorn (ends_line t.sort) (source_tokens (record { most = most; break = k }) Plain l (l + line_ends (take n (b ∷ bs))) 0 (drop n (b ∷ bs)))
    (source_tokens (record { most = most'; break = k' }) Plain l (l + line_ends (take n (b ∷ bs))) 0 (drop n (b ∷ bs) ++ more)))
    → StepTorn (b ∷ bs) (source_step (record { most = most; break = k }) Plain o l (b ∷ bs))
    (source_step (record { most = most'; break = k' }) Plain o l ((b ∷ bs) ++ more))
    → TokensTorn ended (source_tokens (record { most = most; break = k }) Plain o l 0 (b ∷ bs))
    (source_tokens (record { most = most'; break = k' }) Plain o l 0 ((b ∷ bs) ++ more))
unfolding TokensTorn IsBreakOfLimit
step-tokens most most' k k' ended o l b bs more ends inner (Goes t n e f some inside bytes short) =
    let held = b ∷ bs in
    let c : Course = record { most = most; break = k } in
    let c' : Course = record { most = most'; break = k' } in
    subst (λ (ts : List SourceToken). TokensTorn ended ts (source_tokens c' Plain o l 0 (held ++ more)))
    (sym (small-next c o l held t n some inside bytes e))
    (inr (
      source_tokens c' Plain l (l + line_ends (take n held)) 0 (drop n held ++ more),
      next_held c' o l held more t n some inside bytes f,
      inner n t some inside (flag ends),
    ))
  where
    flag : Ends (b ∷ bs) more k k' → Flagged (ends_line t.sort) (drop n (b ∷ bs)) k
    flag (inl h) = λ x limit. absurd (subst (λ (y : Option Break). IsBreakOfLimit y) h.1 limit)
    flag (inr h) = λ x limit. let lt = short x h.0 in let size = length-drop n (b ∷ bs) in omega (arith, lt, size)
step-tokens most most' k k' ended o l b bs more ends inner (Stays t e f) = grind (arith, source_tokens-last)
step-tokens most most' k k' ended o l b bs more ends inner (Tears t breach e is limit suits) =
    let held = b ∷ bs in
    let c : Course = record { most = most; break = k } in
    let c' : Course = record { most = most'; break = k' } in
    let first = first-is c' o l b (bs ++ more) in
    grind (arith, source_tokens-last)

-- the tokens of a text of at most so many bytes
text-torn : (most most' : ℕ) (k k' : Option Break) (more : List ℕ) → most ≤ most' → IsOwnBreak k'
    → (fuel : ℕ) (ended : Bool) (o l : ℕ) (held : List ℕ) → length held ≤ fuel → Ends held more k k' → Flagged ended held k
    → TokensTorn ended (source_tokens (record { most = most; break = k }) Plain o l 0 held)
    (source_tokens (record { most = most'; break = k' }) Plain o l 0 (held ++ more))
text-torn most most' k k' more le own fuel ended o l [] fits ends flag =
    end-torn most most' k k' ended o l more ends (λ f limit. absurd (omega (arith, flag f limit)))
text-torn most most' k k' more le own zero ended o l (b ∷ bs) fits ends flag = absurd (omega (arith, fits))
text-torn most most' k k' more le own (suc fuel) ended o l (b ∷ bs) fits ends flag =
    step-tokens most most' k k' ended o l b bs more ends
    (λ n t some inside f. text-torn most most' k k' more le own fuel (ends_line t.sort) l (l + line_ends (take n (b ∷ bs))) (drop n (b ∷ bs))
    (shorter n some) (dropped n ends) f)
    (step-torn most most' k k' o l b bs more le ends own)
  where
    shorter : (n : ℕ) → 0 < n → length (drop n (b ∷ bs)) ≤ fuel
    shorter n some = let size = length-drop n (b ∷ bs) in omega (arith, size, fits)

    dropped : (n : ℕ) → Ends (b ∷ bs) more k k' → Ends (drop n (b ∷ bs)) more k k'
    dropped n (inl h) = inl h
    dropped n (inr h) = inr (IsWholeLines-drop n (b ∷ bs) h.0, h.1)

-- lines of which each but the last ends in LF
unfoldable AreLines : List (List ℕ) → Type 0
AreLines [] = Unit
AreLines (l ∷ ls) = (0 < length l) × (IsWholeLines l ⊎ (ls ≡ [])) × AreLines ls

-- a byte in front of whole lines
whole-cons : (b : ℕ) (l : List ℕ) → 0 < length l → IsWholeLines l → IsWholeLines (b ∷ l)
unfolding whole_lines_len onto_whole_lines
whole-cons b l some h = grind arith

-- an LF in front of lines
lines-end : (b : ℕ) (ls : List (List ℕ)) → (b == 10) ≡ true → AreLines ls → AreLines ((b ∷ []) ∷ ls)
unfolding AreLines whole_lines_len onto_whole_lines is_line_end
lines-end b ls e h = (omega arith, inl (ap (λ (x : Bool). if x then 1 else 0) e), h)

-- another byte in front of lines
lines-cons : (b : ℕ) (ls : List (List ℕ)) → AreLines ls → AreLines (onto_first b ls)
unfolding AreLines onto_first
lines-cons b [] h = (omega arith, inr refl, tt)
lines-cons b (l ∷ ls) h = (omega arith, ⊎_elim (λ w. inl (whole-cons b l h.0 w)) (λ none. inr none) h.1, h.2)

-- a byte in front of lines, by whether it is an LF
lines-by : (b : ℕ) (x : Bool) (ls : List (List ℕ)) → (b == 10) ≡ x → AreLines ls → AreLines (if x then (b ∷ []) ∷ ls else onto_first b ls)
lines-by b true ls e h = lines-end b ls e h
lines-by b false ls e h = lines-cons b ls h

-- the lines of a text are lines
lines-are : (bs : List ℕ) → AreLines (lines_of bs)
unfolding AreLines lines_of
lines-are [] = tt
lines-are (b ∷ bs) = lines-by b (b == 10) (lines_of bs) refl (lines-are bs)

-- the front of a text with smaller limits, and that with larger ones
record FrontTorn (f g : Front) : Type 0 where
  more : List ℕ
  text : g.text ≡ f.text ++ more
  own : IsOwnBreak g.break
  ends : Ends f.text more f.break g.break

-- each front has a break of its own limits, by whether lines pass them
own-choice : (x y : Bool) (n : ℕ) (f : Front) → IsOwnBreak f.break
    → IsOwnBreak (if x then record { text = []; break = Some (record { breach = LineLong; len = n }) }
    else (if y then record { text = []; break = Some (record { breach = SourceLong; len = n }) } else f)).break
unfolding IsOwnBreak
own-choice true y n f h = inl refl
own-choice false true n f h = inr refl
own-choice false false n f h = h

-- each front has a break of its own limits
front-own : (most room : ℕ) (ls : List (List ℕ)) → IsOwnBreak (front_of_lines most room ls).break
unfolding front_of_lines IsOwnBreak onto_front
front-own most room [] = tt
front-own most room (l ∷ ls) = grind (arith, own-choice, nat_lt, (front-own most (room - length l) ls))

-- a front that a limit ends at once
front-broken : (g : Front) (n : ℕ) (b : Breach) → (b ≡ LineLong) ⊎ (b ≡ SourceLong) → IsOwnBreak g.break
    → FrontTorn (record { text = []; break = Some (record { breach = b; len = n }) }) g
unfolding IsBreakOfLimit whole_lines_len
front-broken g n b is own = record { more = g.text; text = refl; own = own; ends = inr (refl, is) }

-- a line in front of fronts
front-line : (l : List ℕ) (f g : Front) → FrontTorn f g → (IsBreakOfLimit f.break → IsWholeLines l) → FrontTorn (onto_front l f) (onto_front l g)
unfolding onto_front
front-line l f g h line = grind (arith, append_assoc, IsWholeLines-append)

-- a first line, by whether it passes the smaller limits and the larger ones
line-choice : (x y x' y' : Bool) (l : List ℕ) (f g : Front) → (x ≡ false → x' ≡ false) → (y ≡ false → y' ≡ false)
    → FrontTorn f g → (IsBreakOfLimit f.break → IsWholeLines l) → IsOwnBreak g.break
    → FrontTorn
    (if x then record { text = []; break = Some (record { breach = LineLong; len = length l }) }
    else (if y then record { text = []; break = Some (record { breach = SourceLong; len = length l }) } else onto_front l f))
    (if x' then record { text = []; break = Some (record { breach = LineLong; len = length l }) }
    else (if y' then record { text = []; break = Some (record { breach = SourceLong; len = length l }) } else onto_front l g))
unfolding onto_front
line-choice true y x' y' l f g i j h line own = front-broken _ (length l) LineLong (inl refl) (own-choice x' y' (length l) (onto_front l g) own)
line-choice false true x' y' l f g i j h line own = front-broken _ (length l) SourceLong (inr refl) (own-choice x' y' (length l) (onto_front l g) own)
line-choice false false x' y' l f g i j h line own = grind (arith, front-line)

-- no line breaks the front of none
nothing-breaks : (most room : ℕ) (ls : List (List ℕ)) → ls ≡ [] → IsBreakOfLimit (front_of_lines most room ls).break → ⊥
unfolding IsBreakOfLimit front_of_lines
nothing-breaks most room ls none h = subst (λ (ms : List (List ℕ)). IsBreakOfLimit (front_of_lines most room ms).break) none h

-- the fronts of lines
fronts-torn : (most most' : ℕ) → most ≤ most' → (ls : List (List ℕ)) → AreLines ls → (room room' : ℕ) → room ≤ room'
    → FrontTorn (front_of_lines most room ls) (front_of_lines most' room' ls)
unfolding front_of_lines AreLines IsOwnBreak
fronts-torn most most' le [] h room room' rooms = record { more = []; text = refl; own = tt; ends = inl (refl, refl, refl) }
fronts-torn most most' le (l ∷ ls) h room room' rooms =
    line-choice (nat_lt most (length l)) (nat_lt room (length l)) (nat_lt most' (length l)) (nat_lt room' (length l)) l
    (front_of_lines most (room - length l) ls) (front_of_lines most' (room' - length l) ls)
    (unpassed most most' (length l) le) (unpassed room room' (length l) rooms)
    (fronts-torn most most' le ls h.2 (room - length l) (room' - length l) (less room room' (length l) rooms))
    (λ limit. ⊎_elim (λ w. w) (λ none. absurd (nothing-breaks most (room - length l) ls none limit)) h.1) (front-own most' (room' - length l) ls)
  where
    less : (a b n : ℕ) → a ≤ b → a - n ≤ b - n
    less a b n e = omega (arith, e)

-- the tokens of a whole source with larger limits
pub sources-torn : (most most' room room' : ℕ) (bytes : List ℕ) → most ≤ most' → room ≤ room'
    → TokensTorn true (whole_tokens most room bytes) (whole_tokens most' room' bytes)
unfolding whole_tokens remaining_tokens front
sources-torn most most' room room' bytes le rooms =
    let f = front_of_lines most room (lines_of bytes) in
    let g = front_of_lines most' room' (lines_of bytes) in
    let h : FrontTorn f g = fronts-torn most most' le (lines_of bytes) (lines-are bytes) room room' rooms in
    grind (arith, text-torn, true≢false)

-- Expansion and runs with larger limits: the same, but where a smaller limit was a fault, which may have torn the last token.

-- an outcome is the same as one that no limit ends
unfoldable pub Agrees : Outcome → Outcome → Type 0
Agrees a b = NamesNoLimit a.fault → b ≡ a

-- one that stays
agrees-same : (a : Outcome) → Agrees a a
unfolding Agrees
agrees-same a = λ h. refl

-- along equations
agrees-along : (a a' b b' : Outcome) → a ≡ a' → b ≡ b' → Agrees a' b' → Agrees a b
unfolding Agrees
agrees-along a a' b b' e f h = λ n. f ∙ h (subst (λ (o : Outcome). NamesNoLimit o.fault) e n) ∙ sym e

-- one outcome and then another, by the fault of the first
then-agrees-by : (x : List ℕ) (f : Option Report) (b c d : Outcome) → Agrees (record { bytes = x; fault = f }) b → Agrees c d
    → Agrees (and_then (record { bytes = x; fault = f }) c) (and_then b d)
unfolding Agrees and_then
then-agrees-by x None b c d h k =
    λ n. ap (λ (o : Outcome). and_then o d) (h tt) ∙ ap (λ (o : Outcome). and_then (record { bytes = x; fault = None }) o) (k n)
then-agrees-by x (Some f) b c d h k = λ n. ap (λ (o : Outcome). and_then o d) (h n)

-- one outcome and then another
then-agrees : (a b c d : Outcome) → Agrees a b → Agrees c d → Agrees (and_then a c) (and_then b d)
then-agrees a b c d h k = then-agrees-by a.bytes a.fault b c d h k

-- a fault
unfoldable pub IsFault : Option Report → Type 0
IsFault None = ⊥
IsFault (Some f) = Unit

-- an outcome is the same as one that no limit ends, and ends in a fault where a token is torn
pub record TornAgrees (torn : Type 0) (a b : Outcome) : Type 0 where
  pub faulty : torn → IsFault a.fault
  pub agrees : Agrees a b

-- what ends in a fault does so after an outcome, by that one's fault
then-faulty-by : (x : List ℕ) (f : Option Report) (c : Outcome) → IsFault c.fault → IsFault (and_then (record { bytes = x; fault = f }) c).fault
unfolding IsFault and_then
then-faulty-by x None c h = h
then-faulty-by x (Some f) c h = tt

-- one outcome and then a torn one
then-torn : (torn : Type 0) (a b c d : Outcome) → Agrees a b → TornAgrees torn c d → TornAgrees torn (and_then a c) (and_then b d)
then-torn torn a b c d h k = record { faulty = λ p. then-faulty-by a.bytes a.fault c (k.faulty p); agrees = then-agrees a b c d h k.agrees }

-- along equations
torn-along : (torn : Type 0) (a a' b b' : Outcome) → a ≡ a' → b ≡ b' → TornAgrees torn a' b' → TornAgrees torn a b
torn-along torn a a' b b' e f h = grind (arith, agrees-along)

-- a fault of a limit agrees with all
limit-torn : (x : List ℕ) (f : Report) (b : Outcome) → is_limit f.kind ≡ true → TornAgrees Unit (and_then (gives x) (fails f)) b
unfolding Agrees IsFault and_then gives fails
limit-torn x f b limit = record { faulty = λ p. tt; agrees = λ n. absurd (true≢false (sym limit ∙ n)) }

-- what nothing expands to
expand_nil : (rules : Rules) (s : State) (n : ℕ) (line_or_text : Option ℕ) (o : List (List ℕ)) → expand rules s n line_or_text o [] ≡ gives []
unfolding walk
expand_nil rules s n line_or_text o = expand_walk rules s n line_or_text o []

-- and what a broken token does
expand_broken : (rules : Rules) (s : State) (n : ℕ) (line_or_text : Option ℕ) (o : List (List ℕ)) (b : Breach) (bytes : List ℕ) (line : ℕ)
    → expand rules s n line_or_text o (Written (record { sort = Broken b; bytes = bytes; line = line }) ∷ []) ≡ and_then (gives bytes) (fails (fault_at (breach_kind b) line [] s))
unfolding walk
expand_broken rules s n line_or_text o b bytes line = expand_walk rules s n line_or_text o (Written (record { sort = Broken b; bytes = bytes; line = line }) ∷ [])

-- what opens marks and bodies agrees
unfoldable Opening : (ℕ → List (List ℕ) → List Item → Outcome) → (ℕ → List (List ℕ) → List Item → Outcome) → Type 0
Opening deeper deeper' = (line : ℕ) (p : List (List ℕ)) (g : List Item) → Agrees (deeper line p g) (deeper' line p g)

-- rules, and others with as much room for a call or more, in a state with more room
module _ (rules large : Rules) (s : State) (sources more : ℕ) (bytes : rules.argument_bytes ≤ large.argument_bytes) where
  -- things in front of an end that agrees, of which the last may be torn
  module _ (ys zs : List Item) (torn : Type 0) (tail : IsTail item_role ys zs) (deeper deeper' : ℕ → List (List ℕ) → List Item → Outcome) (inner : Opening deeper deeper')
      (line_or_text : Option ℕ) (o : List (List ℕ)) (ends : TornAgrees torn (walk rules s deeper line_or_text o 0 ys) (walk large (roomier sources more s) deeper' line_or_text o 0 zs)) where
    -- what is walked after so many items
    abbrev small : ℕ → List Item → Outcome
    small k xs = walk rules s deeper line_or_text o k xs

    abbrev wide : ℕ → List Item → Outcome
    wide k xs = walk large (roomier sources more s) deeper' line_or_text o k xs

    -- walks agree from each number of items on
    abbrev Walks : List Item → Type 0
    Walks xs = (k : ℕ) → k ≤ length xs → TornAgrees torn (small k (xs ++ ys)) (wide k (xs ++ zs))

    -- what a usage writes, by what it comes to
    usage-agrees : (line : ℕ) (xs : List Item) (u v : Usage Item) → Walks xs → UsageTorn (length xs) u v
        → TornAgrees torn (usage_walk rules s deeper line_or_text o line (xs ++ ys) u) (usage_walk large (roomier sources more s) deeper' line_or_text o line (xs ++ zs) v)
    unfolding usage_walk Opening UsageTorn IsLimitedUsage UsesUpTo fault_at fails Agrees IsFault
    usage-agrees line xs (UsageFault f word at) v rest (inl h) = record { faulty = λ p. tt; agrees = λ n. absurd (true≢false (sym h ∙ n)) }
    usage-agrees line xs (Opens m actuals used) v rest (inl h) = absurd h
    usage-agrees line xs (UsageFault f word at) v rest (inr h) =
        record { faulty = λ p. tt; agrees = λ n. ap (usage_walk large (roomier sources more s) deeper' line_or_text o line (xs ++ zs)) h.0 }
    usage-agrees line xs (Opens m actuals used) v rest (inr h) =
        torn-along torn _ _ _ _ refl (ap (usage_walk large (roomier sources more s) deeper' line_or_text o line (xs ++ zs)) h.0)
        (then-torn torn _ _ (small used (xs ++ ys)) (wide used (xs ++ zs)) (inner line (m.name ∷ o) (substituted m actuals o)) (rest used h.1))

    -- a token in front, by what it is
    token-agrees : (sort : Sort) (bytes : List ℕ) (line : ℕ) (xs : List Item) → Walks xs
        → TornAgrees torn (small 0 (Written (record { sort = sort; bytes = bytes; line = line }) ∷ (xs ++ ys))) (wide 0 (Written (record { sort = sort; bytes = bytes; line = line }) ∷ (xs ++ zs)))
    unfolding walk fault_at IsFault and_then gives fails
    token-agrees (Ordinary Back) word line xs rest =
        let at = unwrap_or line_or_text line in
        let name = drop 1 word in
        let u = usage_of rules s (item_reads line_or_text) at o name (xs ++ ys) in
        let v = usage_of large (roomier sources more s) (item_reads line_or_text) at o name (xs ++ zs) in
        torn-along torn _ _ _ _ (usage_walks rules s deeper line_or_text o word line (xs ++ ys) u refl)
        (usage_walks large (roomier sources more s) deeper' line_or_text o word line (xs ++ zs) v refl)
        (usage-agrees at xs u v rest (usage-torn (item_reads line_or_text) at name rules large xs ys zs bytes tail s sources more o))
    token-agrees (Ordinary BareBackquote) word line xs rest = record { faulty = λ p. tt; agrees = agrees-same _ }
    token-agrees (Broken b) word line xs rest = record { faulty = λ p. tt; agrees = agrees-same _ }
    token-agrees sort word line xs rest = then-torn torn (gives word) (gives word) (small 0 (xs ++ ys)) (wide 0 (xs ++ zs)) (agrees-same (gives word)) (rest 0 (omega arith))

    -- walks agree
    walks-agree : (xs : List Item) (k : ℕ) → k ≤ length xs → TornAgrees torn (small k (xs ++ ys)) (wide k (xs ++ zs))
    unfolding walk Opening
    walks-agree [] zero le = ends
    walks-agree [] (suc k) le = absurd (omega (arith, le))
    walks-agree (Written w ∷ xs) zero le = token-agrees w.sort w.bytes w.line xs (walks-agree xs)
    walks-agree (Arg p g ∷ xs) zero le =
        then-torn torn _ _ (small 0 (xs ++ ys)) (wide 0 (xs ++ zs)) (inner (unwrap_or line_or_text 0) p (listed g)) (walks-agree xs 0 (omega arith))
    walks-agree (Written w ∷ xs) (suc k) le = walks-agree xs k (omega (arith, le))
    walks-agree (Arg p g ∷ xs) (suc k) le = walks-agree xs k (omega (arith, le))

  -- what items expand to, where so many bodies and actuals may be open
  expand-torn : (ys zs : List Item) (torn : Type 0) → IsTail item_role ys zs → (n m : ℕ) → Opening (deeper_of rules s n) (deeper_of large (roomier sources more s) m)
      → (line_or_text : Option ℕ) (o : List (List ℕ)) → TornAgrees torn (expand rules s n line_or_text o ys) (expand large (roomier sources more s) m line_or_text o zs)
      → (xs : List Item) → TornAgrees torn (expand rules s n line_or_text o (xs ++ ys)) (expand large (roomier sources more s) m line_or_text o (xs ++ zs))
  expand-torn ys zs torn tail n m inner line_or_text o ends xs =
      let room = roomier sources more s in
      torn-along torn _ _ _ _ (expand_walk rules s n line_or_text o (xs ++ ys)) (expand_walk large room m line_or_text o (xs ++ zs))
      (walks-agree ys zs torn tail (deeper_of rules s n) (deeper_of large room m) inner line_or_text o
      (torn-along torn _ _ _ _ (sym (expand_walk rules s n line_or_text o ys)) (sym (expand_walk large room m line_or_text o zs)) ends) xs 0 (omega arith))

  -- where nothing is torn, it agrees
  expand-agrees : (n m : ℕ) → Opening (deeper_of rules s n) (deeper_of large (roomier sources more s) m) → (line_or_text : Option ℕ) (o : List (List ℕ)) (xs : List Item)
      → Agrees (expand rules s n line_or_text o xs) (expand large (roomier sources more s) m line_or_text o xs)
  expand-agrees n m inner line_or_text o xs =
      let room = roomier sources more s in
      let none : expand rules s n line_or_text o [] ≡ gives [] = expand_nil rules s n line_or_text o in
      let none' : expand large room m line_or_text o [] ≡ gives [] = expand_nil large room m line_or_text o in
      subst (λ (ys : List Item). Agrees (expand rules s n line_or_text o ys) (expand large room m line_or_text o ys)) (append-nil xs)
      (expand-torn [] [] ⊥ (no-tail item_role) n m inner line_or_text o
      (torn-along ⊥ _ _ _ _ none none' (record { faulty = λ p. absurd p; agrees = agrees-same (gives []) })) xs).agrees

  -- what may be opened agrees where more may be open
  deeper-agrees : (n m : ℕ) → n ≤ m → Opening (deeper_of rules s n) (deeper_of large (roomier sources more s) m)
  unfolding Opening Agrees deeper_of is_limit fault_at fails
  deeper-agrees zero m le = λ line p g n. absurd (true≢false n)
  deeper-agrees (suc n) zero le = λ line p g. absurd (omega (arith, le))
  deeper-agrees (suc n) (suc m) le = λ line p g. expand-agrees n m (deeper-agrees n m (omega (arith, le))) (Some line) p g

  -- a run agrees
  pub run-agrees : (ts : List SourceToken) → rules.depth ≤ large.depth → Agrees (run_outcome rules s ts) (run_outcome large (roomier sources more s) ts)
  unfolding run_outcome
  run-agrees ts k = expand-agrees rules.depth large.depth (deeper-agrees rules.depth large.depth k) None [] (map Written ts)

  -- a run of which the last token is torn
  pub run-torn : (xs : List SourceToken) (b : Breach) (own : List ℕ) (line : ℕ) (us : List SourceToken) → rules.depth ≤ large.depth → is_limit (breach_kind b) ≡ true
      → TornBy token_role (token_role (record { sort = Broken b; bytes = own; line = line })) us
      → TornAgrees Unit (run_outcome rules s (xs ++ record { sort = Broken b; bytes = own; line = line } ∷ [])) (run_outcome large (roomier sources more s) (xs ++ us))
  unfolding run_outcome IsTail item_role fault_at
  run-torn xs b own line us k limit torn =
      let t : SourceToken = record { sort = Broken b; bytes = own; line = line } in
      let room = roomier sources more s in
      torn-along Unit _ _ _ _ (ap (expand rules s rules.depth None []) (map-append Written xs (t ∷ []))) (ap (expand large room large.depth None []) (map-append Written xs us))
      (expand-torn (Written t ∷ []) (map Written us) Unit (torn-written (token_role t) us torn) rules.depth large.depth (deeper-agrees rules.depth large.depth k) None []
      (torn-along Unit _ _ _ _ (expand_broken rules s rules.depth None [] b own line) refl (limit-torn own (fault_at (breach_kind b) line [] s) _ limit)) (map Written xs))

-- skipped tokens, of which the last may be torn, by what the first is
skip-by : (torn : Type 0) (sources more : ℕ) (s : State) (sort : Sort) (bytes : List ℕ) (line : ℕ) (ts us : List SourceToken)
    → TornAgrees torn (skipped_run s ts) (skipped_run (roomier sources more s) us)
    → TornAgrees torn (skipped_run s (record { sort = sort; bytes = bytes; line = line } ∷ ts))
    (skipped_run (roomier sources more s) (record { sort = sort; bytes = bytes; line = line } ∷ us))
unfolding skipped_run fault_at IsFault and_then gives fails
skip-by torn sources more s (Broken b) bytes line ts us h = record { faulty = λ p. tt; agrees = agrees-same _ }
skip-by torn sources more s sort bytes line ts us h =
    then-torn torn (gives (line_ends_of bytes)) (gives (line_ends_of bytes)) _ _ (agrees-same (gives (line_ends_of bytes))) h

-- skipped tokens in front of an end that agrees
skips : (torn : Type 0) (sources more : ℕ) (s : State) (ys zs : List SourceToken) → TornAgrees torn (skipped_run s ys) (skipped_run (roomier sources more s) zs)
    → (xs : List SourceToken) → TornAgrees torn (skipped_run s (xs ++ ys)) (skipped_run (roomier sources more s) (xs ++ zs))
skips torn sources more s ys zs h [] = h
skips torn sources more s ys zs h (x ∷ xs) = skip-by torn sources more s x.sort x.bytes x.line (xs ++ ys) (xs ++ zs) (skips torn sources more s ys zs h xs)

-- skipped tokens agree
pub skip-agrees : (sources more : ℕ) (s : State) (ts : List SourceToken) → Agrees (skipped_run s ts) (skipped_run (roomier sources more s) ts)
unfolding skipped_run
skip-agrees sources more s ts =
    subst (λ (us : List SourceToken). Agrees (skipped_run s us) (skipped_run (roomier sources more s) us)) (append-nil ts)
    (skips ⊥ sources more s [] [] (record { faulty = λ p. absurd p; agrees = agrees-same (gives []) }) ts).agrees

-- skipped tokens of which the last is torn
pub skip-torn : (sources more : ℕ) (s : State) (xs : List SourceToken) (b : Breach) (bytes : List ℕ) (line : ℕ) (us : List SourceToken)
    → is_limit (breach_kind b) ≡ true
    → TornAgrees Unit (skipped_run s (xs ++ record { sort = Broken b; bytes = bytes; line = line } ∷ [])) (skipped_run (roomier sources more s) (xs ++ us))
unfolding skipped_run fault_at
skip-torn sources more s xs b bytes line us limit =
    skips Unit sources more s (record { sort = Broken b; bytes = bytes; line = line } ∷ []) us (limit-torn (line_ends_of bytes) (fault_at (breach_kind b) line [] s) _ limit) xs
