use Rattle.std.proofs.Common.{◌≡◌, ◌∙◌, ◌+◌, ◌-◌, ◌∷◌, ℕ, List, true, false, is_some, slice_index, length, take, drop, sym, refl, ap, arith, length-drop, take_all}
use Rattle.std.specs.List.{prefix_len}
use Rattle.rdlpp_scan.specs.Bytes.{is_letter, is_word}
use Rattle.rdlpp_scan.specs.Tokens.{token_of}
use Rattle.rdlpp_scan.specs.declared.token.Kind.TheVariants.{Back}
use Rattle.rdlpp_scan.specs.declared.token.Mode.TheVariants.{Plain}
use Rattle.rdlpp_front.specs.SourceItems.{AtBare}
use Rattle.rdlpp_front.proofs.Insides.{back_at_letter, back_len, back_text, bare_at_other, named_word}
use Rattle.rdlpp_front.proofs.item.backquote_item.Goals as goal

-- how long a backquote and its name are, by the bytes of the name
name_len : (held : List ℕ) (n : ℕ) → slice_index held 0 ≡ 96 → (token_of Plain held).kind ≡ Back → n ≡ prefix_len is_word (take (length held - 1) (drop 1 held)) → 1 + n ≡ (token_of Plain held).len
name_len held n backquote kind is =
    let all : take (length held - 1) (drop 1 held) ≡ drop 1 held = take_all _ _ (omega (arith, length-drop 1 held)) in
    let word = is ∙ ap (prefix_len is_word) all in
    omega (arith, word, back_len held backquote kind)

pub directive_item-requires : goal.directive_item-requires
directive_item-requires c =
    let held = c.args.held.now in
    let letter : is_letter (slice_index held 1) ≡ true = sym (c.if-is_letter.ensures ∙ ap is_letter c.byte_at.ensures.value) in
    let kind = back_at_letter held c.requires.backquote letter in
    let whole = name_len held c.word_bytes-len.result c.requires.backquote kind c.word_bytes-len.ensures.value in
    let name = take (1 + c.word_bytes-len.result - 1) (drop 1 held) in
    let text : take (token_of Plain held).len held ≡ 96 ∷ name =
    back_text held c.requires.backquote kind ∙ ap (λ (n : ℕ). 96 ∷ take (n - 1) (drop 1 held)) (sym whole) in
    record {
      some = c.requires.some;
      inside = omega (arith, c.word_bytes-len.ensures.inside);
      word = record { kind = kind; word = text ∙ named_word name c.in-Some.directive (sym c.reserved.ensures.value ∙ c.in-Some.is) };
      whole = whole;
    }

pub returns-in-None : goal.returns-in-None
returns-in-None c =
    let held = c.args.held.now in
    let letter : is_letter (slice_index held 1) ≡ true = sym (c.if-is_letter.ensures ∙ ap is_letter c.byte_at.ensures.value) in
    let kind = back_at_letter held c.requires.backquote letter in (
      refl,
      record {
        kind = kind;
        whole = name_len held c.word_bytes-len.result c.requires.backquote kind c.word_bytes-len.ensures.value;
        free = sym c.reserved.ensures.reserved ∙ ap is_some c.in-None.is;
      },
    )

pub returns-else-is_letter : goal.returns-else-is_letter
returns-else-is_letter c =
    let held = c.args.held.now in
    let other : is_letter (slice_index held 1) ≡ false = sym (c.if-is_letter.ensures ∙ ap is_letter c.byte_at.ensures.value) in
    AtBare refl (bare_at_other held c.requires.backquote other)
