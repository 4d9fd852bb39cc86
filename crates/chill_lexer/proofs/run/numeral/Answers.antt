use Rattle.std.proofs.Common.{◌≡◌, ◌+◌, ◌*◌, ◌^◌, ◌<◌, ◌≤◌, ℕ, Option, false, true, List, take, drop, fold, SomeIff, subst, sym, ap, refl, ◌∙◌, arith, get_or}
use Rattle.std.proofs.lemmas.List.{take_rest}
use Rattle.rules_model.specs.TokensShapes.{with_digit, digit_of}
use Rattle.rules_model.specs.TokensReading.{more_length}
use Rattle.chill_lexer.specs.Runs.{is_apart}
use Rattle.chill_lexer.proofs.RunLemmas.{numeral_digit, numeral_apart, numeral_ends, numeral_at_end, number_digit, number_apart, apart_byte}
use Rattle.chill_lexer.proofs.run.numeral.Goals as goal
use Rattle.chill_lexer.proofs.run.numeral.Goals.{then-digit-base, else-digit-base+else-not-is_apart}

-- the number is another, equal one
moved : (value : Option ℕ) (m n : ℕ) → m ≡ n → SomeIff value (m < 2 ^ 64) m → SomeIff value (n < 2 ^ 64) n
moved value m n e h = subst (λ (k : ℕ). SomeIff value (k < 2 ^ 64) k) e h

-- the number up to where the numeral ends
ended : (value : Option ℕ) (base first : ℕ) (text : List ℕ) (i : ℕ) → i ≡ more_length base text
    → SomeIff value (fold (with_digit base) first (take i text) < 2 ^ 64) (fold (with_digit base) first (take i text))
    → SomeIff value (fold (with_digit base) first (take (more_length base text) text) < 2 ^ 64) (fold (with_digit base) first (take (more_length base text) text))
ended value base first text i e = moved value _ _ (ap (λ (k : ℕ). fold (with_digit base) first (take k text)) e)

pub loop-length-init : goal.loop-length-init
loop-length-init c = record { within = omega arith; so_far = omega arith; number = (c.ranges.first.fits, refl) }

pub loop-length-preserved : goal.loop-length-preserved
loop-length-preserved c =
    let base = c.args.base in let text = c.args.text.now in let i = c.loop-length.length in
    elim c.if-digit-base.branch [
      | then-digit-base w ↦
          let digit : digit_of (get_or text i 0) < base = subst (λ (d : ℕ). d < base) c.digit_of-digit.ensures w.if-digit-base.true in
          let counted = w.with_digit-value.ensures _ c.loop-length.invariant.number in
          let next = ap (λ (d : ℕ). fold (with_digit base) c.args.first (take i text) * base + d) c.digit_of-digit.ensures
          ∙ sym (number_digit base c.args.first text i c.requires.small c.loop-length-test.true digit) in
          record {
            within = omega arith;
            so_far = numeral_digit base text i c.loop-length-test.true digit c.loop-length.invariant.so_far;
            number = rw w.value-is (moved w.with_digit-value.result _ _ next counted);
          }
      | else-digit-base+else-not-is_apart w ↦
          let apart : is_apart base (drop i text) ≡ true =
          ap (is_apart base) (sym (take_rest text i)) ∙ sym w.is_apart.ensures ∙ w.if-not-is_apart.false in
          let next = sym (number_apart base c.args.first text i c.loop-length-test.true (apart_byte base text i c.loop-length-test.true apart)) in
          record {
            within = omega arith;
            so_far = numeral_apart base text i c.requires.small c.loop-length-test.true apart c.loop-length.invariant.so_far;
            number = rw w.value-is (moved c.loop-length.value _ _ next c.loop-length.invariant.number);
          }
    ]

pub returns-after-loop-length-clause-length : goal.returns-after-loop-length-clause-length
returns-after-loop-length-clause-length c = numeral_at_end c.args.base c.args.text.now c.loop-length.length c.loop-length-test.false c.loop-length.invariant.so_far

pub returns-after-loop-length-clause-value : goal.returns-after-loop-length-clause-value
returns-after-loop-length-clause-value c =
    ended c.loop-length.value c.args.base c.args.first c.args.text.now c.loop-length.length
    (numeral_at_end c.args.base c.args.text.now c.loop-length.length c.loop-length-test.false c.loop-length.invariant.so_far) c.loop-length.invariant.number

ends_there : (c : goal.Then-not-is_apart) → c.loop-length.length ≡ more_length c.args.base c.args.text.now
ends_there c =
    let text = c.args.text.now in let i = c.loop-length.length in
    let apart : is_apart c.args.base (drop i text) ≡ false =
    ap (is_apart c.args.base) (sym (take_rest text i)) ∙ sym c.is_apart.ensures ∙ c.if-not-is_apart.true in
    let no_digit : c.args.base ≤ digit_of (get_or text i 0) = subst (λ (d : ℕ). c.args.base ≤ d) c.digit_of-digit.ensures c.if-digit-base.false in
    numeral_ends c.args.base text i c.loop-length-test.true no_digit apart c.loop-length.invariant.so_far

pub returns-then-not-is_apart-clause-length : goal.returns-then-not-is_apart-clause-length
returns-then-not-is_apart-clause-length c = ends_there c

pub returns-then-not-is_apart-clause-value : goal.returns-then-not-is_apart-clause-value
returns-then-not-is_apart-clause-value c =
    ended c.loop-length.value c.args.base c.args.first c.args.text.now c.loop-length.length (ends_there c) c.loop-length.invariant.number
