-- Substitution without its marks is literal.
use Rattle.std.proofs.Common.{◌≡◌, ℕ, Bool, true, false, List, [], ◌∷◌, ◌++◌, refl, ap, ◌∙◌, arith, map, Option, None, Some, flat_map, option_map, if◌then◌else◌, unwrap_or}
use Rattle.rdlpp_scan.specs.SourceTokens.{Ordinary, Sort, SourceToken}
use Rattle.rdlpp_scan.specs.declared.token.Kind.TheVariants.{Name}
use Rattle.rdlpp_define.specs.Macros.{Formal, Macro}
use Rattle.rdlpp_meaning.specs.Expansion.{bytes_of}
use Rattle.rdlpp_meaning.specs.Items.{Item, Written, packed}
use Rattle.rdlpp_laws.specs.Literal.{all_erased, bytes_for, erased, formals_bytes, in_place, literal, standing_bytes}
use Rattle.rdlpp_meaning.specs.Substitution.{Defaulted, Given, Standing, body_tokens, bound_to, mark_of, mark_or, marked, substituted}
use Rattle.rdlpp_meaning.proofs.BodyTokens.{body_covered}

-- Substitution without its marks is literal substitution.

-- the bytes of packed items are those of the list
erased-packed : (xs : List Item) → all_erased (packed xs) ≡ flat_map erased xs
unfolding all_erased packed
erased-packed [] = refl
erased-packed (x ∷ xs) = ap (λ (ys : List ℕ). erased x ++ ys) (erased-packed xs)

-- written tokens have their bytes
erased-written : (ts : List SourceToken) → flat_map erased (map Written ts) ≡ bytes_of ts
unfolding erased
erased-written [] = refl
erased-written (t ∷ ts) = ap (λ (bs : List ℕ). t.bytes ++ bs) (erased-written ts)

-- the mark of what a formal stands for has its bytes
mark-bytes : (macro : List ℕ) (o : List (List ℕ)) (standing : Standing Item) → erased (mark_of macro o standing) ≡ standing_bytes standing
unfolding erased mark_of standing_bytes
mark-bytes macro o (Given actual) = erased-packed actual
mark-bytes macro o (Defaulted text) =
    erased-packed (map Written (body_tokens text)) ∙ erased-written (body_tokens text) ∙ body_covered text

-- by whether a formal has the name
for_name : (same : Bool) (standing : Standing Item) (rest : Option (Standing Item)) (bytes : Option (List ℕ)) → bytes ≡ option_map standing_bytes rest
    → (if same then Some (standing_bytes standing) else bytes) ≡ option_map standing_bytes (if same then Some standing else rest)
for_name true standing rest bytes h = refl
for_name false standing rest bytes h = h

-- the bytes for a name are those of what it stands for
bytes-bound : (formals : List Formal) (actuals : List (List Item)) (name : List ℕ)
    → bytes_for formals (formals_bytes formals actuals) name ≡ option_map standing_bytes (bound_to formals actuals name)
unfolding bytes_for formals_bytes bound_to
bytes-bound [] actuals name = refl
bytes-bound (f ∷ fs) [] name = refl
bytes-bound (f ∷ fs) (a ∷ actuals) name = grind (arith, for_name, (bytes-bound fs actuals name))

-- the bytes of a name as a mark or as it is are those in its place
name-bytes : (macro : List ℕ) (o : List (List ℕ)) (t : SourceToken) (standing : Option (Standing Item))
    → erased (mark_or macro o t standing) ≡ unwrap_or (option_map standing_bytes standing) t.bytes
unfolding mark_or erased
name-bytes macro o t None = refl
name-bytes macro o t (Some standing) = mark-bytes macro o standing

-- the bytes of a token of a body, by what it is
token_erased_by : (macro : List ℕ) (formals : List Formal) (actuals : List (List Item)) (o : List (List ℕ)) (sort : Sort) (bytes : List ℕ) (line : ℕ)
    → erased (marked macro formals actuals o (record { sort = sort; bytes = bytes; line = line }))
    ≡ in_place formals (formals_bytes formals actuals) (record { sort = sort; bytes = bytes; line = line })
unfolding marked in_place erased
token_erased_by macro formals actuals o (Ordinary Name) bytes line = grind (arith, name-bytes, bytes-bound)
token_erased_by macro formals actuals o sort bytes line = refl

-- the bytes of the tokens of a body
tokens_erased : (macro : List ℕ) (formals : List Formal) (actuals : List (List Item)) (o : List (List ℕ)) (ts : List SourceToken)
    → flat_map erased (map (marked macro formals actuals o) ts) ≡ literal formals (formals_bytes formals actuals) ts
unfolding literal
tokens_erased macro formals actuals o [] = refl
tokens_erased macro formals actuals o (t ∷ ts) =
    ap (λ (x : List ℕ). x ++ flat_map erased (map (marked macro formals actuals o) ts)) (token_erased_by macro formals actuals o t.sort t.bytes t.line)
    ∙ ap (λ (x : List ℕ). in_place formals (formals_bytes formals actuals) t ++ x) (tokens_erased macro formals actuals o ts)

-- substitution without its marks is literal substitution
pub literal_substitution : (m : Macro) (actuals : List (List Item)) (o : List (List ℕ))
    → flat_map erased (substituted m actuals o)
    ≡ literal (unwrap_or m.formals []) (formals_bytes (unwrap_or m.formals []) actuals) (body_tokens m.body)
unfolding substituted
literal_substitution m actuals o = tokens_erased m.name (unwrap_or m.formals []) actuals o (body_tokens m.body)
