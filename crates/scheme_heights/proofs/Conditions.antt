-- The code of each condition is a stretch, out of which jumps lead to its target alone.
use Rattle.std.proofs.Common.{◌≡◌, ◌+◌, ◌-◌, ◌≤◌, ℕ, Bool, true, false, List, [], ◌∷◌, ◌++◌, length, length-append, refl, sym, ap, ◌∙◌, inl, inr, arith, Option, Some}
use Rattle.std.specs.Prelude.{not, if◌then◌else◌}
use Rattle.modes.specs.declared.mode.Bounds.{Bounds}
use Rattle.checked_program.specs.declared.expr.Binary.{Binary}
use Rattle.checked_program.specs.declared.expr.Binary.TheVariants.{AndIf, OrIf, NotEqual, LessOrEqual, GreaterOrEqual}
use Rattle.checked_program.specs.declared.expr.Prefix.TheVariants.{Minus, Not, Complement}
use Rattle.code_types.specs.declared.instr.Instr.{Instr}
use Rattle.code_types.specs.declared.instr.Instr.TheVariants as i
use Rattle.code_types.specs.declared.code.Code.{Code}
use Rattle.program_trees.specs.ExprTree.{ExprTree, expr, OperationTree, prefixed, binary, count_of}
use Rattle.code_scheme.specs.Pieces.{Layout, bounds_of_value, between_code, between_size, behind_code, behind_size, branch_code, branch_size, straight, turned}
use Rattle.code_scheme.specs.ExprSizes.{expr_size, operation_size, condition_size, operation_condition_size}
use Rattle.code_scheme.specs.ExprCode.{expr_code, operation_code, condition_code, operation_condition}
use Rattle.code_scheme.specs.BodyCode.{heads_of}
use Rattle.scheme_heights.specs.Stretches.{behind, Outlets, no_outlets, none_led, Lands, led_behind, IsStep, IsStretch}
use Rattle.scheme_heights.specs.Counts.{TakesCounts, CountsFit, OperationFits}
use Rattle.scheme_heights.specs.Laws.{to_place, ConditionHeightsLaw}
use Rattle.scheme_heights.proofs.Joining.{behind-append, MoreOutlets, ComesOn, steps_join}
use Rattle.scheme_heights.proofs.Parts.{lands_over}
use Rattle.scheme_heights.proofs.Operators.{ends, IsStrict, behind_stretch, between_stretch, take_all}
use Rattle.scheme_heights.proofs.Expressions.{expr_stretch, operation_stretch}

-- a stretch of whose outlets some lead into the one behind it
pub join_outlets : (heads : Code) (body : ℕ) (outlets others more : Outlets) (at height : ℕ) (a b : List Instr) (n m h next p size : ℕ) → p ≡ at + n → size ≡ n + m → ComesOn heads outlets p h b more → MoreOutlets others more → IsStretch heads body outlets at height a n h → IsStretch heads body others p h b m next → IsStretch heads body more at height (a ++ b) size next
join_outlets heads body outlets others more at height a b n m h next p size place sum comes all first second = record {
  steps =
      let c = first.count in
      steps_join heads body outlets others more none_led at height p h a b (omega (arith, place, c)) first.leaves comes all first.steps second.steps;
  count = let c = first.count in let d = second.count in let l = length-append a b in omega (arith, c, d, l, sum);
  leaves = behind-append heads height a b ∙ (ap (λ (x : ℕ). behind heads x b) first.leaves ∙ second.leaves);
}

-- a stretch with no outlets, before one that has some
pub before_outlets : (heads : Code) (body : ℕ) (outlets : Outlets) (at height : ℕ) (a b : List Instr) (n m h next p size : ℕ) → p ≡ at + n → size ≡ n + m → IsStretch heads body no_outlets at height a n h → IsStretch heads body outlets p h b m next → IsStretch heads body outlets at height (a ++ b) size next
before_outlets heads body outlets at height a b n m h next p size place sum first second = join_outlets heads body no_outlets outlets outlets at height a b n m h next p size place sum (λ to k out. absurd out) (λ to k out. out) first second

-- the jump where the Boolean on top has a value
pub branch_stretch : (heads : Code) (body at height target : ℕ) (when : Bool) → at + branch_size when ≤ target → IsStretch heads body (to_place target height) at (height + 1) (branch_code when target at) (branch_size when) height
branch_stretch heads body at height target false low = record { steps = (unless, tt); count = refl; leaves = omega arith }
  where
    unless : IsStep heads body (to_place target height) none_led at (height + 1) (i.Unless target) []
    unless = record { operands = omega arith; named = tt; forward = omega (arith, low); jumps = inr (refl, omega arith); ended = λ last. absurd (let f : ⊥ = cc in f) }
branch_stretch heads body at height target true low = record { steps = (unless, (jump, tt)); count = refl; leaves = omega arith }
  where
    unless : IsStep heads body (to_place target height) none_led at (height + 1) (i.Unless (at + 2)) (i.Jump target ∷ [])
    unless = record { operands = omega arith; named = tt; forward = omega arith; jumps = inl (lands_over heads _ _ _ _ 1 _ (omega arith) (omega arith) (omega arith)); ended = λ last. absurd (let f : ⊥ = cc in f) }

    jump : IsStep heads body (to_place target height) (led_behind none_led (i.Unless (at + 2))) (at + 1) (height + 1 - 1 + 0) (i.Jump target) []
    jump = record { operands = omega arith; named = tt; forward = omega (arith, low); jumps = inr (refl, omega arith); ended = λ last. inl (inl (inr (ap Some (let e : at + 2 ≡ at + 1 + 1 = omega arith in e)))) }

-- the straight operator takes what the operator takes
straight_takes : (o : Binary) (m n : ℕ) → TakesCounts o m n → TakesCounts (straight o) m n
straight_takes NotEqual m n takes = takes
straight_takes GreaterOrEqual m n takes = takes
straight_takes LessOrEqual m n takes = takes
straight_takes o m n takes = takes

straight_strict : (o : Binary) → IsStrict o → IsStrict (straight o)
straight_strict NotEqual strict = tt
straight_strict GreaterOrEqual strict = tt
straight_strict LessOrEqual strict = tt
straight_strict o strict = strict

-- a comparison, and the jump
compared_stretch : (heads : Code) (body at height target : ℕ) (o : Binary) (own : Option Bounds) (when : Bool) (a : List Instr) (b : ℕ → List Instr) (size second m n : ℕ) → IsStrict o → TakesCounts o m n
    → at + (size + (between_size o own + (second + (behind_size (straight o) + branch_size when)))) ≤ target
    → IsStretch heads body no_outlets at height a size (height + m) → ((p h : ℕ) → IsStretch heads body no_outlets p h (b p) second (h + n))
    → IsStretch heads body (to_place target height) at height
    (a ++ (between_code o own (at + size) second ++ (b (at + size + between_size o own) ++ (behind_code (straight o) m ++ branch_code when target (at + size + between_size o own + second + behind_size (straight o))))))
    (size + (between_size o own + (second + (behind_size (straight o) + branch_size when)))) height
compared_stretch heads body at height target o own when a b size second m n strict takes low first others =
    let p = at + size in
    let q = p + between_size o own in
    let r = q + second in
    let s = r + behind_size (straight o) in
    let last = behind_size (straight o) + branch_size when in
    before_outlets heads body (to_place target height) at height a _ size (between_size o own + (second + last)) (height + m) height p _ refl refl first
    (before_outlets heads body (to_place target height) p (height + m) (between_code o own p second) _ (between_size o own) (second + last) (height + m) height q _ refl refl (between_stretch heads body p height o own second m n strict takes)
    (before_outlets heads body (to_place target height) q (height + m) (b q) _ second last (height + m + n) height r _ refl refl (others q (height + m))
    (before_outlets heads body (to_place target height) r (height + m + n) (behind_code (straight o) m) (branch_code when target s) (behind_size (straight o)) (branch_size when) (height + 1) height s _ refl refl (behind_stretch heads body r height m n (straight o) (straight_strict o strict) (straight_takes o m n takes))
    (branch_stretch heads body s height target when (omega (arith, low))))))

-- two conditions of which one value decides the whole: the first one jumps as the whole does, or behind both
decided_stretch : (heads : Code) (body at height target size second : ℕ) (out : Bool) (a : ℕ → List Instr) (b : List Instr) → at + (size + second) ≤ target
    → ((to : ℕ) → at + size ≤ to → IsStretch heads body (to_place to height) at height (a to) size height)
    → IsStretch heads body (to_place target height) (at + size) height b second height
    → IsStretch heads body (to_place target height) at height (a (if out then target else (at + (size + second))) ++ b) (size + second) height
decided_stretch heads body at height target size second true a b low first others =
    join_outlets heads body (to_place target height) (to_place target height) (to_place target height) at height (a target) b size second height height (at + size) _ refl refl (λ to k outlet. inr outlet) (λ to k outlet. outlet) (first target (omega (arith, low))) others
decided_stretch heads body at height target size second false a b low first others =
    join_outlets heads body (to_place (at + (size + second)) height) (to_place target height) (to_place target height) at height (a (at + (size + second))) b size second height height (at + size) _ refl refl
    (λ to k outlet. inl (behind_both to k outlet)) (λ to k outlet. outlet) (first (at + (size + second)) (omega arith)) others
  where
    behind_both : (to k : ℕ) → to_place (at + (size + second)) height to k → Lands heads (at + size) height b to k
    behind_both to k outlet =
        let place = outlet.0 in
        let count = others.count in
        lands_over heads (at + size) height b to (length b) k (omega (arith, place, count)) (omega arith) (ap (behind heads height) (take_all b) ∙ (others.leaves ∙ sym outlet.1))

-- a value, and the jump
valued_stretch : (lay : Layout) (body free n : ℕ) (o : OperationTree) (when : Bool) (target at height : ℕ) → OperationFits lay.program n o → n ≡ 1 → at + (operation_size o + branch_size when) ≤ target
    → IsStretch (heads_of lay.program) body (to_place target height) at height (operation_code lay free n o at ++ branch_code when target (at + operation_size o)) (operation_size o + branch_size when) height
valued_stretch lay body free n o when target at height fits one' low =
    before_outlets (heads_of lay.program) body (to_place target height) at height (operation_code lay free n o at) (branch_code when target (at + operation_size o)) (operation_size o) (branch_size when) (height + 1) height (at + operation_size o) _ refl refl
    (ends (ap (λ (k : ℕ). height + k) one') (operation_stretch lay body free n o fits at height))
    (branch_stretch (heads_of lay.program) body (at + operation_size o) height target when (omega (arith, low)))

mutual
  pub condition_stretch : (lay : Layout) (body free : ℕ) (e : ExprTree) → CountsFit lay.program e → count_of e ≡ 1 → (when : Bool) (target at height : ℕ) → at + condition_size e when ≤ target
      → IsStretch (heads_of lay.program) body (to_place target height) at height (condition_code lay free e when target at) (condition_size e when) height
  condition_stretch lay body free (expr n own o) fits one' when target at height low = operation_condition_stretch lay body free n o fits one' when target at height low

  operation_condition_stretch : (lay : Layout) (body free n : ℕ) (o : OperationTree) → OperationFits lay.program n o → n ≡ 1 → (when : Bool) (target at height : ℕ) → at + operation_condition_size o when ≤ target
      → IsStretch (heads_of lay.program) body (to_place target height) at height (operation_condition lay free n o when target at) (operation_condition_size o when) height
  operation_condition_stretch lay body free n (prefixed Not e) fits one' when target at height low = condition_stretch lay body free e fits.0 fits.1 (not when) target at height low
  operation_condition_stretch lay body free n (prefixed Minus e) fits one' when target at height low = valued_stretch lay body free n (prefixed Minus e) when target at height fits one' low
  operation_condition_stretch lay body free n (prefixed (Complement m) e) fits one' when target at height low = valued_stretch lay body free n (prefixed (Complement m) e) when target at height fits one' low
  operation_condition_stretch lay body free n (binary AndIf a b) fits one' when target at height low =
      decided_stretch (heads_of lay.program) body at height target (condition_size a false) (condition_size b when) (not when) (λ to. condition_code lay free a false to at) _ low
      (λ to low'. condition_stretch lay body free a fits.0 fits.2.0 false to at height low') (condition_stretch lay body free b fits.1 fits.2.1 when target (at + condition_size a false) height (omega (arith, low)))
  operation_condition_stretch lay body free n (binary OrIf a b) fits one' when target at height low =
      decided_stretch (heads_of lay.program) body at height target (condition_size a true) (condition_size b when) when (λ to. condition_code lay free a true to at) _ low
      (λ to low'. condition_stretch lay body free a fits.0 fits.2.0 true to at height low') (condition_stretch lay body free b fits.1 fits.2.1 when target (at + condition_size a true) height (omega (arith, low)))
  operation_condition_stretch lay body free n (binary o a b) fits one' when target at height low =
      compared_stretch (heads_of lay.program) body at height target o (bounds_of_value a) (turned o when) (expr_code lay free a at) (expr_code lay free b) (expr_size a) (expr_size b) (count_of a) (count_of b) tt fits.2 low (expr_stretch lay body free a fits.0 at height) (expr_stretch lay body free b fits.1)
  operation_condition_stretch lay body free n o fits one' when target at height low = valued_stretch lay body free n o when target at height fits one' low

pub condition_heights_law : ConditionHeightsLaw
condition_heights_law lay body free e when target at height fits one' low = condition_stretch lay body free e fits one' when target at height low
