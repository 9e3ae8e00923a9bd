-- Each word of a block goes on with a state of its own, and at the end the four are mixed.
use Rattle.std.proofs.Common.{add-one, arith, ◌≡◌, ◌+◌, ◌/◌, ◌∙◌, ap, sym, length, ℕ, List}
use Rattle.rdlpp_c.specs.Digest.{mixed, mixed_all, mixed_blocks, first_words, second_words, third_words, fourth_words}
use Rattle.rdlpp_c.proofs.digest.digest_of_blocks.Goals as goal

-- one more number is mixed
mixed_more : (numbers : ℕ → ℕ) (start n : ℕ) {before word after : ℕ} → before ≡ mixed_all numbers start n → word ≡ numbers n → after ≡ mixed before word → after ≡ mixed_all numbers start (n + 1)
unfolding mixed_all
mixed_more numbers start n {before} {word} so_far is_next goes_on = rw (add-one n) (goes_on ∙ (ap (λ b. mixed b word) so_far ∙ ap (λ w. mixed (mixed_all numbers start n) w) is_next))

-- four states are mixed
mixed_four : {a b c d e f g : ℕ} (text : List ℕ) (n : ℕ) → a ≡ first_words text n → b ≡ second_words text n → c ≡ third_words text n → d ≡ fourth_words text n → e ≡ mixed a b → f ≡ mixed e c → g ≡ mixed f d → g ≡ mixed_blocks text n
mixed_four {a} {b} {c} {d} {e} {f} text n is_a is_b is_c is_d is_e is_f is_g =
    let two : e ≡ mixed (first_words text n) (second_words text n) = is_e ∙ (ap (λ x. mixed x b) is_a ∙ ap (λ x. mixed (first_words text n) x) is_b) in
    let three : f ≡ mixed (mixed (first_words text n) (second_words text n)) (third_words text n) = is_f ∙ (ap (λ x. mixed x c) two ∙ ap (λ x. mixed (mixed (first_words text n) (second_words text n)) x) is_c) in
    is_g ∙ (ap (λ x. mixed x d) three ∙ ap (λ x. mixed (mixed (mixed (first_words text n) (second_words text n)) (third_words text n)) x) is_d)

pub loop-place-preserved : goal.loop-place-preserved
loop-place-preserved c = record {
  first = mixed_more _ 1 _ c.loop-place.invariant.first c.word_at.ensures c.mixed-first.ensures;
  second = mixed_more _ 1 _ c.loop-place.invariant.second c.word_at-in-loop-place.ensures c.mixed-second.ensures;
  third = mixed_more _ 1 _ c.loop-place.invariant.third c.word_at-in-loop-place-2.ensures c.mixed-third.ensures;
  fourth = mixed_more _ 1 _ c.loop-place.invariant.fourth c.word_at-in-loop-place-3.ensures c.mixed-fourth.ensures;
}

pub returns : goal.returns
returns c =
    let whole : c.loop-place.place ≡ length c.args.text.now / 32 = omega (arith, c.loop-place-test.false, c.loop-place.auto.place-end) in
    rw (sym whole) (mixed_four c.args.text.now c.loop-place.place c.loop-place.invariant.first c.loop-place.invariant.second c.loop-place.invariant.third c.loop-place.invariant.fourth
    c.mixed.ensures c.mixed-2.ensures c.mixed-3.ensures)
