-- What stands between the operands of an operator, and behind them.
use Rattle.std.proofs.Common.{◌≡◌, ◌+◌, ◌-◌, ◌*◌, ◌≤◌, ℕ, suc, List, [], ◌∷◌, ◌++◌, length, take, refl, sym, ap, ◌∙◌, subst, inl, inr, arith, append-nil, Option, Some, None}
use Rattle.modes.specs.declared.mode.Bounds.{Bounds}
use Rattle.checked_program.specs.declared.expr.Binary.{Binary}
use Rattle.checked_program.specs.declared.expr.Binary.TheVariants.{Add, Subtract, Multiply, Divide, Modulo, Remainder, And, Or, Xor, AndIf, OrIf, Equal, NotEqual, Less, LessOrEqual, Greater, GreaterOrEqual, Union, Intersection, SymmetricDifference, Difference, Included, ProperlyIncluded, Includes, ProperlyIncludes, Member}
use Rattle.code_types.specs.declared.instr.Instr.{Instr}
use Rattle.code_types.specs.declared.instr.Instr.TheVariants as i
use Rattle.code_types.specs.declared.code.Code.{Code}
use Rattle.code_scheme.specs.Pieces.{bounds_to_test, offset_code, member_or_none, between_code, between_size, properly_code, behind_code, behind_size}
use Rattle.scheme_heights.specs.Stretches.{behind, no_outlets, none_led, led_behind, IsStep, AreSteps, IsStretch}
use Rattle.scheme_heights.specs.Counts.{TakesCounts}
use Rattle.scheme_heights.proofs.Joining.{steps_more, join}
use Rattle.scheme_heights.proofs.Parts.{Stretch, sized, end, cons, cons_unless, lands_over, joined, offset_stretch}

-- ---- behind two operands

swap_then : (heads : Code) (body at height n next : ℕ) (is : List Instr) → 2 * n ≤ height → Stretch heads body (at + 1 + 1) height is next → Stretch heads body at height (i.Copy (2 * n) ∷ i.Part n (2 * n) (4 * n) ∷ is) next
swap_then heads body at height n next is low rest =
    cons (omega (arith, low)) tt tt refl refl (cons (omega (arith, low)) (omega arith) tt refl refl
    (subst (λ (h : ℕ). Stretch heads body (at + 1 + 1) h is next) (let e : height ≡ height - 0 + 2 * n - 4 * n + 2 * n = omega (arith, low) in e) rest))

properly_stretch : (heads : Code) (body at height : ℕ) → Stretch heads body at (height + 2) properly_code (height + 1)
properly_stretch heads body at height =
    cons (omega arith) tt tt refl refl (cons (omega arith) tt tt refl refl (cons (omega arith) tt tt refl refl (cons (omega arith) (omega arith) tt refl refl
    (cons (omega arith) tt tt refl refl (cons (omega arith) tt tt refl refl (cons (omega arith) tt tt refl refl (end (omega arith))))))))

-- two operands of one scalar each
two : (heads : Code) (body at height m n : ℕ) (is : List Instr) → (m ≡ 1) × (n ≡ 1) → Stretch heads body at (height + 2) is (height + 1) → Stretch heads body at (height + m + n) is (height + 1)
two heads body at height m n is ones stretch = let a = ones.0 in let b = ones.1 in subst (λ (h : ℕ). Stretch heads body at h is (height + 1)) (let e : height + 2 ≡ height + m + n = omega (arith, a, b) in e) stretch

-- two operands of as many scalars
alike : (heads : Code) (body at height m n : ℕ) (is : List Instr) → m ≡ n → Stretch heads body at (height + 2 * m) is (height + 1) → Stretch heads body at (height + m + n) is (height + 1)
alike heads body at height m n is same stretch = subst (λ (h : ℕ). Stretch heads body at h is (height + 1)) (let e : height + 2 * m ≡ height + m + n = omega (arith, same) in e) stretch

-- operators of which the second operand isn't left out
abbrev pub IsStrict : Binary → Type 0
IsStrict AndIf = ⊥
IsStrict OrIf = ⊥
IsStrict o = Unit {0}

pub behind_stretch : (heads : Code) (body at height m n : ℕ) (o : Binary) → IsStrict o → TakesCounts o m n → IsStretch heads body no_outlets at (height + m + n) (behind_code o m) (behind_size o) (height + 1)
behind_stretch heads body at height m n Add strict takes = sized 1 refl (two heads body at height m n _ takes (cons (omega arith) tt tt refl refl (end (omega arith))))
behind_stretch heads body at height m n Subtract strict takes = sized 1 refl (two heads body at height m n _ takes (cons (omega arith) tt tt refl refl (end (omega arith))))
behind_stretch heads body at height m n Multiply strict takes = sized 1 refl (two heads body at height m n _ takes (cons (omega arith) tt tt refl refl (end (omega arith))))
behind_stretch heads body at height m n Divide strict takes = sized 1 refl (two heads body at height m n _ takes (cons (omega arith) tt tt refl refl (end (omega arith))))
behind_stretch heads body at height m n Modulo strict takes = sized 1 refl (two heads body at height m n _ takes (cons (omega arith) tt tt refl refl (end (omega arith))))
behind_stretch heads body at height m n Remainder strict takes = sized 1 refl (two heads body at height m n _ takes (cons (omega arith) tt tt refl refl (end (omega arith))))
behind_stretch heads body at height m n And strict takes = sized 1 refl (two heads body at height m n _ takes (cons (omega arith) tt tt refl refl (end (omega arith))))
behind_stretch heads body at height m n Or strict takes = sized 1 refl (two heads body at height m n _ takes (cons (omega arith) tt tt refl refl (end (omega arith))))
behind_stretch heads body at height m n Xor strict takes = sized 1 refl (two heads body at height m n _ takes (cons (omega arith) tt tt refl refl (end (omega arith))))
behind_stretch heads body at height m n AndIf strict takes = absurd strict
behind_stretch heads body at height m n OrIf strict takes = absurd strict
behind_stretch heads body at height m n Equal strict takes = sized 1 refl (alike heads body at height m n _ takes (cons (omega arith) tt tt refl refl (end (omega arith))))
behind_stretch heads body at height m n NotEqual strict takes = sized 2 refl (alike heads body at height m n _ takes (cons (omega arith) tt tt refl refl (cons (omega arith) tt tt refl refl (end (omega arith)))))
behind_stretch heads body at height m n Less strict takes = sized 1 refl (alike heads body at height m n _ takes (cons (omega arith) tt tt refl refl (end (omega arith))))
behind_stretch heads body at height m n GreaterOrEqual strict takes = sized 2 refl (alike heads body at height m n _ takes (cons (omega arith) tt tt refl refl (cons (omega arith) tt tt refl refl (end (omega arith)))))
behind_stretch heads body at height m n Greater strict takes = sized 3 refl (alike heads body at height m n _ takes (swap_then heads body at (height + 2 * m) m (height + 1) _ (omega arith) (cons (omega arith) tt tt refl refl (end (omega arith)))))
behind_stretch heads body at height m n LessOrEqual strict takes = sized 4 refl (alike heads body at height m n _ takes (swap_then heads body at (height + 2 * m) m (height + 1) _ (omega arith) (cons (omega arith) tt tt refl refl (cons (omega arith) tt tt refl refl (end (omega arith))))))
behind_stretch heads body at height m n Union strict takes = sized 1 refl (two heads body at height m n _ takes (cons (omega arith) tt tt refl refl (end (omega arith))))
behind_stretch heads body at height m n Intersection strict takes = sized 1 refl (two heads body at height m n _ takes (cons (omega arith) tt tt refl refl (end (omega arith))))
behind_stretch heads body at height m n SymmetricDifference strict takes = sized 1 refl (two heads body at height m n _ takes (cons (omega arith) tt tt refl refl (end (omega arith))))
behind_stretch heads body at height m n Difference strict takes = sized 1 refl (two heads body at height m n _ takes (cons (omega arith) tt tt refl refl (end (omega arith))))
behind_stretch heads body at height m n Included strict takes = sized 1 refl (two heads body at height m n _ takes (cons (omega arith) tt tt refl refl (end (omega arith))))
behind_stretch heads body at height m n ProperlyIncluded strict takes = sized 7 refl (two heads body at height m n _ takes (properly_stretch heads body at height))
behind_stretch heads body at height m n Includes strict takes = sized 3 refl (two heads body at height m n _ takes (swap_then heads body at (height + 2) 1 (height + 1) _ (omega arith) (cons (omega arith) tt tt refl refl (end (omega arith)))))
behind_stretch heads body at height m n ProperlyIncludes strict takes = sized 9 refl (two heads body at height m n _ takes (swap_then heads body at (height + 2) 1 (height + 1) properly_code (omega arith) (properly_stretch heads body (at + 1 + 1) height)))
behind_stretch heads body at height m n (Member b) strict takes = sized 1 refl (two heads body at height m n _ takes (cons (omega arith) tt tt refl refl (end (omega arith))))

-- ---- between two operands

-- a jump over the two last of these
member_or_none_stretch : (heads : Code) (body at height : ℕ) (o : Option Bounds) → Stretch heads body at (height + 1) (member_or_none o at) (height + 1)
member_or_none_stretch heads body at height None = end refl
member_or_none_stretch heads body at height (Some b) =
    cons (omega arith) tt tt refl refl (cons (omega arith) tt tt refl refl (cons (omega arith) tt tt refl refl (cons (omega arith) tt tt refl refl
    (cons (omega arith) tt tt refl refl (cons (omega arith) tt tt refl refl (cons (omega arith) tt tt refl refl (cons (omega arith) tt tt refl refl
    (cons (omega arith) tt tt refl refl
    (cons_unless (omega arith) (omega arith) (lands_over heads _ _ _ _ 2 _ (omega arith) (omega arith) (omega arith))
    (cons (omega arith) tt tt refl refl (cons (omega arith) tt tt refl refl (end (omega arith)))))))))))))

member_length : (o : Option Bounds) (at : ℕ) (is : List Instr) → length (member_or_none o at ++ is) ≡ length (member_or_none o 0 ++ is)
member_length None at is = refl
member_length (Some b) at is = refl

pub between_stretch : (heads : Code) (body at height : ℕ) (o : Binary) (own : Option Bounds) (second m n : ℕ) → IsStrict o → TakesCounts o m n → IsStretch heads body no_outlets at (height + m) (between_code o own at second) (between_size o own) (height + m)
between_stretch heads body at height AndIf own second m n strict takes = absurd strict
between_stretch heads body at height OrIf own second m n strict takes = absurd strict
between_stretch heads body at height (Member b) own second m n strict takes =
    let one' = takes.0 in
    let o : Option Bounds = bounds_to_test (Some b) own in
    let all = joined heads body at (height + 1) (member_or_none o at) (offset_code b.low) (height + 1) (height + 1) (member_or_none_stretch heads body at height o) (offset_stretch heads body (at + length (member_or_none o at)) height b.low) in
    sized (between_size (Member b) own) (member_length o at (offset_code b.low))
    (subst (λ (h : ℕ). Stretch heads body at h (member_or_none o at ++ offset_code b.low) h) (let e : height + 1 ≡ height + m = omega (arith, one') in e) all)
between_stretch heads body at height o own second m n strict takes = record { steps = tt; count = refl; leaves = refl }

-- ---- operators that may leave out their second operand

pub take_all : (is : List Instr) → take (length is) is ≡ is
take_all [] = refl
take_all (x ∷ is) = ap (λ (l : List Instr). x ∷ l) (take_all is)

-- ANDIF: where the first operand is FALSE, control goes behind the second
pub and_stretch : (heads : Code) (body at height second : ℕ) (is : List Instr) → IsStretch heads body no_outlets (at + 3) height is second (height + 1) → Stretch heads body at (height + 1) (i.Copy 1 ∷ i.Unless (at + (second + 3)) ∷ i.Pop 1 ∷ is) (height + 1)
and_stretch heads body at height second is stretch =
    let count = stretch.count in
    cons (omega arith) tt tt refl refl
    (cons_unless (omega arith) (omega arith) (lands_over heads _ _ _ _ (suc (length is)) _ (omega (arith, count)) (omega arith) (last ∙ stretch.leaves ∙ (omega arith)))
    (cons (omega arith) tt tt refl refl rest))
  where
    three : at + 3 ≡ at + 1 + 1 + 1
    three = omega arith

    down : height ≡ height + 1 - 0 + 1 - 1 + 0 - 1 + 0
    down = omega arith

    last : behind heads (height + 1 - 0 + 1 - 1 + 0) (take (suc (length is)) (i.Pop 1 ∷ is)) ≡ behind heads height is
    last = ap (λ (l : List Instr). behind heads (height + 1 - 0 + 1 - 1 + 0 - 1 + 0) l) (take_all is) ∙ ap (λ (h : ℕ). behind heads h is) (sym down)

    rest : Stretch heads body (at + 1 + 1 + 1) (height + 1 - 0 + 1 - 1 + 0 - 1 + 0) is (height + 1)
    rest = record {
      steps = subst (λ (h : ℕ). AreSteps heads body no_outlets none_led (at + 1 + 1 + 1) h is) down (subst (λ (p : ℕ). AreSteps heads body no_outlets none_led p height is) three stretch.steps);
      count = refl;
      leaves = ap (λ (h : ℕ). behind heads h is) (sym down) ∙ stretch.leaves;
    }

-- ORIF: where it is TRUE
pub or_stretch : (heads : Code) (body at height second : ℕ) (is : List Instr) → IsStretch heads body no_outlets (at + 4) height is second (height + 1) → Stretch heads body at (height + 1) (i.Copy 1 ∷ i.Unless (at + 3) ∷ i.Jump (at + (second + 4)) ∷ i.Pop 1 ∷ is) (height + 1)
or_stretch heads body at height second is stretch = record { steps = (copy, (unless, (jump, (pop, rest)))); count = refl; leaves = ap (λ (h : ℕ). behind heads h is) (sym down) ∙ stretch.leaves }
  where
    count : length is ≡ second
    count = stretch.count

    down : height ≡ height + 1 - 0 + 1 - 1 + 0 - 0 + 0 - 1 + 0
    down = omega arith

    copy : IsStep heads body no_outlets none_led at (height + 1) (i.Copy 1) (i.Unless (at + 3) ∷ i.Jump (at + (second + 4)) ∷ i.Pop 1 ∷ is)
    copy = record { operands = omega arith; named = tt; forward = tt; jumps = tt; ended = λ last. absurd (let f : ⊥ = cc in f) }

    unless : IsStep heads body no_outlets (led_behind none_led (i.Copy 1)) (at + 1) (height + 1 - 0 + 1) (i.Unless (at + 3)) (i.Jump (at + (second + 4)) ∷ i.Pop 1 ∷ is)
    unless = record { operands = omega arith; named = tt; forward = omega arith; jumps = inl (lands_over heads _ _ _ _ 1 _ (omega arith) (omega arith) (omega arith)); ended = λ last. absurd (let f : ⊥ = cc in f) }

    last : behind heads (height + 1 - 0 + 1 - 1 + 0 - 0 + 0) (take (suc (length is)) (i.Pop 1 ∷ is)) ≡ height + 1
    last = ap (λ (l : List Instr). behind heads (height + 1 - 0 + 1 - 1 + 0 - 0 + 0 - 1 + 0) l) (take_all is) ∙ (ap (λ (h : ℕ). behind heads h is) (sym down) ∙ stretch.leaves)

    jump : IsStep heads body no_outlets (led_behind (led_behind none_led (i.Copy 1)) (i.Unless (at + 3))) (at + 1 + 1) (height + 1 - 0 + 1 - 1 + 0) (i.Jump (at + (second + 4))) (i.Pop 1 ∷ is)
    jump = record {
      operands = omega arith;
      named = tt;
      forward = omega arith;
      jumps = inl (lands_over heads _ _ _ _ (suc (length is)) _ (omega (arith, count)) (omega arith) (last ∙ (omega arith)));
      ended = λ is_last. inl (inl (inr (ap Some (let e : at + 3 ≡ at + 1 + 1 + 1 = omega arith in e))));
    }

    pop : IsStep heads body no_outlets (led_behind (led_behind (led_behind none_led (i.Copy 1)) (i.Unless (at + 3))) (i.Jump (at + (second + 4)))) (at + 1 + 1 + 1) (height + 1 - 0 + 1 - 1 + 0 - 0 + 0) (i.Pop 1) is
    pop = record { operands = omega arith; named = tt; forward = tt; jumps = tt; ended = λ last. absurd (let f : ⊥ = cc in f) }

    rest : AreSteps heads body no_outlets (led_behind (led_behind (led_behind (led_behind none_led (i.Copy 1)) (i.Unless (at + 3))) (i.Jump (at + (second + 4)))) (i.Pop 1)) (at + 1 + 1 + 1 + 1) (height + 1 - 0 + 1 - 1 + 0 - 0 + 0 - 1 + 0) is
    rest = steps_more heads body no_outlets no_outlets none_led _ (at + 1 + 1 + 1 + 1) _ is (λ to k out. out) (λ to none. absurd none)
        (subst (λ (h : ℕ). AreSteps heads body no_outlets none_led (at + 1 + 1 + 1 + 1) h is) down (subst (λ (p : ℕ). AreSteps heads body no_outlets none_led p height is) (let e : at + 4 ≡ at + 1 + 1 + 1 + 1 = omega arith in e) stretch.steps))

-- ---- an operator with its operands

-- the numbers of a stretch written otherwise
pub ends : {heads : Code} {body at height : ℕ} {is : List Instr} {size next next' : ℕ} → next ≡ next' → IsStretch heads body no_outlets at height is size next → IsStretch heads body no_outlets at height is size next'
ends same stretch = record { steps = stretch.steps; count = stretch.count; leaves = stretch.leaves ∙ same }

strict_stretch : (heads : Code) (body p height : ℕ) (o : Binary) (own : Option Bounds) (b : ℕ → List Instr) (second m n : ℕ) → IsStrict o → TakesCounts o m n → ((q h : ℕ) → IsStretch heads body no_outlets q h (b q) second (h + n))
    → IsStretch heads body no_outlets p (height + m) (between_code o own p second ++ (b (p + between_size o own) ++ behind_code o m)) (between_size o own + (second + behind_size o)) (height + 1)
strict_stretch heads body p height o own b second m n strict takes others =
    let q = p + between_size o own in
    join heads body p (height + m) (between_code o own p second) _ (between_size o own) (second + behind_size o) (height + m) (height + 1) q _ refl refl (between_stretch heads body p height o own second m n strict takes)
    (join heads body q (height + m) (b q) (behind_code o m) second (behind_size o) (height + m + n) (height + 1) (q + second) _ refl refl (others q (height + m)) (behind_stretch heads body (q + second) height m n o strict takes))

-- what stands behind a first operand: the second one with its operator
pub operand_stretch : (heads : Code) (body p height : ℕ) (o : Binary) (own : Option Bounds) (b : ℕ → List Instr) (second m n : ℕ) → TakesCounts o m n → ((q h : ℕ) → IsStretch heads body no_outlets q h (b q) second (h + n))
    → IsStretch heads body no_outlets p (height + m) (between_code o own p second ++ (b (p + between_size o own) ++ behind_code o m)) (between_size o own + (second + behind_size o)) (height + 1)
operand_stretch heads body p height AndIf own b second m n takes others =
    let one' = takes.0 in
    let two' = takes.1 in
    let other = ends (let e : height + n ≡ height + 1 = omega (arith, two') in e) (others (p + 3) height) in
    let all = and_stretch heads body p height second (b (p + 3)) other in
    subst (λ (is : List Instr). IsStretch heads body no_outlets p (height + m) (i.Copy 1 ∷ i.Unless (p + (second + 3)) ∷ i.Pop 1 ∷ is) (3 + (second + 0)) (height + 1)) (sym (append-nil (b (p + 3))))
    (subst (λ (h : ℕ). IsStretch heads body no_outlets p h (i.Copy 1 ∷ i.Unless (p + (second + 3)) ∷ i.Pop 1 ∷ b (p + 3)) (3 + (second + 0)) (height + 1)) (let e : height + 1 ≡ height + m = omega (arith, one') in e) (sized (3 + (second + 0)) (let c = other.count in omega (arith, c)) all))
operand_stretch heads body p height OrIf own b second m n takes others =
    let one' = takes.0 in
    let two' = takes.1 in
    let other = ends (let e : height + n ≡ height + 1 = omega (arith, two') in e) (others (p + 4) height) in
    let all = or_stretch heads body p height second (b (p + 4)) other in
    subst (λ (is : List Instr). IsStretch heads body no_outlets p (height + m) (i.Copy 1 ∷ i.Unless (p + 3) ∷ i.Jump (p + (second + 4)) ∷ i.Pop 1 ∷ is) (4 + (second + 0)) (height + 1)) (sym (append-nil (b (p + 4))))
    (subst (λ (h : ℕ). IsStretch heads body no_outlets p h (i.Copy 1 ∷ i.Unless (p + 3) ∷ i.Jump (p + (second + 4)) ∷ i.Pop 1 ∷ b (p + 4)) (4 + (second + 0)) (height + 1)) (let e : height + 1 ≡ height + m = omega (arith, one') in e) (sized (4 + (second + 0)) (let c = other.count in omega (arith, c)) all))
operand_stretch heads body p height o own b second m n takes others = strict_stretch heads body p height o own b second m n tt takes others

pub binary_stretch : (heads : Code) (body at height : ℕ) (o : Binary) (own : Option Bounds) (a : List Instr) (b : ℕ → List Instr) (size second m n : ℕ) → TakesCounts o m n
    → IsStretch heads body no_outlets at height a size (height + m) → ((p h : ℕ) → IsStretch heads body no_outlets p h (b p) second (h + n))
    → IsStretch heads body no_outlets at height (a ++ (between_code o own (at + size) second ++ (b (at + size + between_size o own) ++ behind_code o m))) (size + (between_size o own + (second + behind_size o))) (height + 1)
binary_stretch heads body at height o own a b size second m n takes first others =
    let p = at + size in
    join heads body at height a _ size (between_size o own + (second + behind_size o)) (height + m) (height + 1) p _ refl refl first (operand_stretch heads body p height o own b second m n takes others)
