-- Stretches that hold no expression.
use Rattle.std.proofs.Common.{◌≡◌, ◌+◌, ◌-◌, ◌*◌, ◌^◌, ◌≤◌, ◌<◌, min, nat_lt, ℕ, zero, suc, Bool, true, false, List, [], ◌∷◌, ◌++◌, ℤ, pos, length, take, length-append, refl, sym, ap, ◌∙◌, subst, inl, inr, arith, rules, Option, Some, None}
use Rattle.std.specs.Prelude.{if◌then◌else◌, int_le, ◌&&◌}
use Rattle.std.proofs.lemmas.Bool.{cases_lt}
use Rattle.std.proofs.Math.Nat.{mul-le-mul}
use Rattle.modes.specs.declared.mode.Bounds.{Bounds}
use Rattle.checked_program.specs.declared.expr.Prefix.{Prefix}
use Rattle.checked_program.specs.declared.expr.Prefix.TheVariants.{Minus, Not, Complement}
use Rattle.checked_program.specs.declared.expr.Routine.{Routine}
use Rattle.checked_program.specs.declared.expr.Routine.TheVariants.{Number, Absolute, Cardinality, Successor, Predecessor, Least, Greatest}
use Rattle.code_types.specs.declared.instr.Instr.{Instr}
use Rattle.code_types.specs.declared.instr.Instr.TheVariants as i
use Rattle.code_types.specs.declared.code.Code.{Code}
use Rattle.code_types.specs.Places.{finds, is_last, jump_of}
use Rattle.code_types.specs.Agreement.{LeadsForward}
use Rattle.code_scheme.specs.BodyCode.{height_behind}
use Rattle.code_scheme.specs.Pieces.{pushes, copies_from, copies_code, run_code, are_same, scalars_from, scalars_code, bounds_to_test, check_code, member_code, offset_code, prefix_code, routine_code}
use Rattle.scheme_heights.specs.Stretches.{behind, IsNamedIn, no_outlets, none_led, Lands, JumpsOn, led_behind, IsStretch}
use Rattle.scheme_heights.specs.Counts.{TestsOne}
use Rattle.scheme_heights.proofs.Joining.{steps_more, join}

-- a stretch of as many instructions as there are
abbrev pub Stretch : Code → ℕ → ℕ → ℕ → List Instr → ℕ → Type 0
Stretch heads body at height is next = IsStretch heads body no_outlets at height is (length is) next

pub resized : {heads : Code} {body at height : ℕ} {is : List Instr} {n next : ℕ} → IsStretch heads body no_outlets at height is n next → Stretch heads body at height is next
resized stretch = record { steps = stretch.steps; count = refl; leaves = stretch.leaves }

pub sized : {heads : Code} {body at height : ℕ} {is : List Instr} {next : ℕ} (n : ℕ) → length is ≡ n → Stretch heads body at height is next → IsStretch heads body no_outlets at height is n next
sized n same stretch = record { steps = stretch.steps; count = same; leaves = stretch.leaves }

pub end : {heads : Code} {body at height next : ℕ} → height ≡ next → Stretch heads body at height [] next
end same = record { steps = tt; count = refl; leaves = same }

-- an instruction that doesn't jump, before a stretch
pub cons : {heads : Code} {body at height : ℕ} {instr : Instr} {is : List Instr} {next : ℕ} → finds heads body instr ≤ height → IsNamedIn heads instr → LeadsForward at instr → jump_of instr ≡ None → is_last instr ≡ false → Stretch heads body (at + 1) (height_behind heads instr height) is next
    → Stretch heads body at height (instr ∷ is) next
cons {heads = heads} {body = body} {at = at} {height = height} {instr = instr} {is = is} operands named forward stays goes rest = record {
  steps = (
    record {
      operands = operands;
      named = named;
      forward = forward;
      jumps = subst (JumpsOn heads no_outlets (at + 1) (height_behind heads instr height) is) (sym stays) tt;
      ended = λ last. absurd (let e : false ≡ true = sym goes ∙ last in let f : ⊥ = cc in f);
    },
    steps_more heads body no_outlets no_outlets none_led (led_behind none_led instr) (at + 1) (height_behind heads instr height) is (λ to k out. out) (λ to none. absurd none) rest.steps,
  );
  count = refl;
  leaves = rest.leaves;
}

-- an Unless that leads on among the instructions behind it
pub cons_unless : {heads : Code} {body at height to : ℕ} {is : List Instr} {next : ℕ} → 1 ≤ height → at < to → Lands heads (at + 1) (height_behind heads (i.Unless to) height) is to (height_behind heads (i.Unless to) height) → Stretch heads body (at + 1) (height_behind heads (i.Unless to) height) is next
    → Stretch heads body at height (i.Unless to ∷ is) next
cons_unless {heads = heads} {body = body} {at = at} {height = height} {to = to} {is = is} operands forward lands rest = record {
  steps = (
    record {
      operands = operands;
      named = tt;
      forward = forward;
      jumps = inl lands;
      ended = λ last. absurd (let f : ⊥ = cc in f);
    },
    steps_more heads body no_outlets no_outlets none_led (led_behind none_led (i.Unless to)) (at + 1) (height_behind heads (i.Unless to) height) is (λ to' k out. out) (λ to' none. absurd none) rest.steps,
  );
  count = refl;
  leaves = rest.leaves;
}

pub if_stretch : (heads : Code) (body at height next : ℕ) (b : Bool) (x y : List Instr) → Stretch heads body at height x next → Stretch heads body at height y next → Stretch heads body at height (if b then x else y) next
if_stretch heads body at height next true x y first second = first
if_stretch heads body at height next false x y first second = second

pub joined : (heads : Code) (body at height : ℕ) (a b : List Instr) (h next : ℕ) → Stretch heads body at height a h → Stretch heads body (at + length a) h b next → Stretch heads body at height (a ++ b) next
joined heads body at height a b h next first second = join heads body at height a b (length a) (length b) h next (at + length a) (length (a ++ b)) refl (length-append a b) first second

-- a place so many instructions further
pub lands_over : (heads : Code) (at height : ℕ) (is : List Instr) (to n k : ℕ) → to ≡ at + n → n ≤ length is → behind heads height (take n is) ≡ k → Lands heads at height is to k
lands_over heads at height is to n k place inside same = record {
  from = omega (arith, place);
  until = omega (arith, place, inside);
  same = ap (λ (m : ℕ). behind heads height (take m is)) (let e : to - at ≡ n = omega (arith, place) in e) ∙ same;
}

-- ---- copies and scalars

copies_over : (k there elements n : ℕ) → elements ≤ there → copies_from k there elements n ≡ []
copies_over zero there elements n low = refl
copies_over (suc k) there elements n low = let h : nat_lt there elements ≡ false = search rules in rw h refl

copies_stretch : (heads : Code) (body at base k there elements n : ℕ) → 1 ≤ there → there ≤ elements → elements ≤ there * 2 ^ k → Stretch heads body at (base + there * n) (copies_from k there elements n) (base + elements * n)
copies_stretch heads body at base zero there elements n some low high =
    let e : there ≡ elements = (let one' : there * 2 ^ zero ≡ there = grind arith in omega (arith, low, high, one')) in
    end (ap (λ (m : ℕ). base + m * n) e)
copies_stretch heads body at base (suc k) there elements n some low high = elim (cases_lt there elements) [
  | inr over ↦ (
      let e : there ≡ elements = omega (arith, low, over) in
      subst (λ (is : List Instr). Stretch heads body at (base + there * n) is (base + elements * n)) (sym (copies_over (suc k) there elements n over)) (end (ap (λ (m : ℕ). base + m * n) e)))
  | inl less ↦ (
      let h : nat_lt there elements ≡ true = search rules in
      let m : ℕ = min there (elements - there) in
      let on : copies_from (suc k) there elements n ≡ i.Copy (m * n) ∷ copies_from k (there + m) elements n = rw h refl in
      let fits : m ≤ there = omega arith in
      let enough : m * n ≤ there * n = mul-le-mul fits (let r : n ≤ n = omega arith in r) in
      let sum : base + there * n - 0 + m * n ≡ base + (there + m) * n = grind arith in
      let up : there + m ≤ elements = omega (arith, less) in
      let reach : elements ≤ (there + m) * 2 ^ k = reaches there elements k m less high refl in
      let rest : Stretch heads body (at + 1) (base + (there + m) * n) (copies_from k (there + m) elements n) (base + elements * n) = copies_stretch heads body (at + 1) base k (there + m) elements n (omega (arith, some)) up reach in
      subst (λ (is : List Instr). Stretch heads body at (base + there * n) is (base + elements * n)) (sym on)
      (cons (omega (arith, enough)) tt tt refl refl (subst (λ (h : ℕ). Stretch heads body (at + 1) h (copies_from k (there + m) elements n) (base + elements * n)) (sym sum) rest)))
]
  where
    reaches : (there elements k m : ℕ) → there < elements → elements ≤ there * 2 ^ suc k → m ≡ min there (elements - there) → elements ≤ (there + m) * 2 ^ k
    reaches there elements k m less high is = elim (cases_lt there (elements - there)) [
      | inl all ↦ (
          let e : m ≡ there = omega (arith, is, all) in
          let twice : 2 ^ suc k ≡ 2 * 2 ^ k = grind arith in
          let both : there * 2 ^ suc k ≡ (there + there) * 2 ^ k = rw twice (grind arith) in
          rw e (omega (arith, high, both)))
      | inr part ↦ (
          let e : there + m ≡ elements = omega (arith, is, part, less) in
          let some : 1 ≤ 2 ^ k = search rules in
          let up : elements * 1 ≤ elements * 2 ^ k = mul-le-mul (let r : elements ≤ elements = omega arith in r) some in
          rw e (omega (arith, up)))
    ]

-- the copies of one value of n scalars
pub copies_code_stretch : (heads : Code) (body at base elements n : ℕ) → 1 ≤ elements → elements ≤ 4294967295 → Stretch heads body at (base + n) (copies_code elements n) (base + elements * n)
copies_code_stretch heads body at base elements n some few =
    let e : base + 1 * n ≡ base + n = omega arith in
    let all : elements ≤ 1 * 2 ^ 32 = omega (arith, few) in
    subst (λ (h : ℕ). Stretch heads body at h (copies_code elements n) (base + elements * n)) e (copies_stretch heads body at base 32 1 elements n (omega arith) some all)

run_stretch : (heads : Code) (body at height : ℕ) (x : ℤ) (n : ℕ) → n ≤ 4294967295 → Stretch heads body at height (run_code x n) (height + n)
run_stretch heads body at height x zero few = end (omega arith)
run_stretch heads body at height x (suc n) few =
    let copies = copies_code_stretch heads body (at + 1) height (suc n) 1 (omega arith) few in
    let first : height + 1 ≡ height - 0 + 1 = omega arith in
    let last : height + suc n * 1 ≡ height + suc n = omega arith in
    cons (omega arith) tt tt refl refl (subst (λ (h : ℕ). Stretch heads body (at + 1) h (copies_code (suc n) 1) (height + suc n)) first (subst (λ (h : ℕ). Stretch heads body (at + 1) (height + 1) (copies_code (suc n) 1) h) last copies))

scalars_from_stretch : (heads : Code) (body at height : ℕ) (x : ℤ) (n : ℕ) (ys : List ℤ) → n + length ys ≤ 4294967295 → Stretch heads body at height (scalars_from x n ys) (height + (n + length ys))
scalars_from_stretch heads body at height x n [] few = subst (λ (h : ℕ). Stretch heads body at height (run_code x n) h) (let e : height + n ≡ height + (n + 0) = omega arith in e) (run_stretch heads body at height x n (omega (arith, few)))
scalars_from_stretch heads body at height x n (y ∷ ys) few =
    if_stretch heads body at height (height + (n + suc (length ys))) (nat_lt 0 n && are_same x y) _ _
    (subst (λ (h : ℕ). Stretch heads body at height (scalars_from x (suc n) ys) h) (let e : height + (suc n + length ys) ≡ height + (n + suc (length ys)) = omega arith in e) (scalars_from_stretch heads body at height x (suc n) ys (omega (arith, few))))
    (joined heads body at height (run_code x n) (scalars_from y 1 ys) (height + n) (height + (n + suc (length ys))) (run_stretch heads body at height x n (omega (arith, few)))
    (subst (λ (h : ℕ). Stretch heads body (at + length (run_code x n)) (height + n) (scalars_from y 1 ys) h) (let e : height + n + (1 + length ys) ≡ height + (n + suc (length ys)) = omega arith in e) (scalars_from_stretch heads body (at + length (run_code x n)) (height + n) y 1 ys (omega (arith, few)))))

pub scalars_stretch : (heads : Code) (body at height : ℕ) (xs : List ℤ) → length xs ≤ 4294967295 → Stretch heads body at height (scalars_code xs) (height + length xs)
scalars_stretch heads body at height xs few = subst (λ (h : ℕ). Stretch heads body at height (scalars_code xs) h) (let e : height + (0 + length xs) ≡ height + length xs = omega arith in e) (scalars_from_stretch heads body at height (pos 0) 0 xs (omega (arith, few)))

pub pushes_stretch : (heads : Code) (body at height : ℕ) (xs : List ℤ) → Stretch heads body at height (pushes xs) (height + length xs)
pushes_stretch heads body at height [] = end (omega arith)
pushes_stretch heads body at height (x ∷ xs) =
    cons (omega arith) tt tt refl refl (subst (λ (h : ℕ). Stretch heads body (at + 1) (height - 0 + 1) (pushes xs) h) (let e : height - 0 + 1 + length xs ≡ height + suc (length xs) = omega arith in e) (pushes_stretch heads body (at + 1) (height - 0 + 1) xs))

-- ---- tests and members

pub tests_less : (o own : Option Bounds) (n : ℕ) → TestsOne o n → TestsOne (bounds_to_test o own) n
tests_less None own n one' = tt
tests_less (Some b) None n one' = one'
tests_less (Some b) (Some own) n one' = if_tests (int_le b.low own.low && int_le own.high b.high) b n one'
  where
    if_tests : (inside : Bool) (b : Bounds) (n : ℕ) → n ≡ 1 → TestsOne (if inside then None else Some b) n
    if_tests true b n one' = tt
    if_tests false b n one' = one'

pub check_stretch : (heads : Code) (body at height : ℕ) (o : Option Bounds) (n : ℕ) → TestsOne o n → n ≤ height → Stretch heads body at height (check_code o) height
check_stretch heads body at height None n one' low = end refl
check_stretch heads body at height (Some b) n one' low = cons (omega (arith, one', low)) tt tt refl refl (end (omega arith))

pub member_stretch : (heads : Code) (body at height : ℕ) (low : ℤ) → Stretch heads body at (height + 1) (member_code low) (height + 1)
member_stretch heads body at height low = if_stretch heads body at (height + 1) (height + 1) (are_same low (pos 0)) _ _ (end refl) (cons (omega arith) tt tt refl refl (cons (omega arith) tt tt refl refl (end (omega arith))))

pub offset_stretch : (heads : Code) (body at height : ℕ) (low : ℤ) → Stretch heads body at (height + 1) (offset_code low) (height + 1)
offset_stretch heads body at height low = if_stretch heads body at (height + 1) (height + 1) (are_same low (pos 0)) _ _ (end refl) (cons (omega arith) tt tt refl refl (cons (omega arith) tt tt refl refl (end (omega arith))))

pub prefix_stretch : (heads : Code) (body at height : ℕ) (o : Prefix) → IsStretch heads body no_outlets at (height + 1) (prefix_code o) 1 (height + 1)
prefix_stretch heads body at height Minus = sized 1 refl (cons (omega arith) tt tt refl refl (end (omega arith)))
prefix_stretch heads body at height Not = sized 1 refl (cons (omega arith) tt tt refl refl (end (omega arith)))
prefix_stretch heads body at height (Complement m) = sized 1 refl (cons (omega arith) tt tt refl refl (end (omega arith)))

pub routine_stretch : (heads : Code) (body at height : ℕ) (r : Routine) → Stretch heads body at (height + 1) (routine_code r) (height + 1)
routine_stretch heads body at height Number = end refl
routine_stretch heads body at height Absolute = cons (omega arith) tt tt refl refl (end (omega arith))
routine_stretch heads body at height Cardinality = cons (omega arith) tt tt refl refl (end (omega arith))
routine_stretch heads body at height (Successor high) = cons (omega arith) tt tt refl refl (end (omega arith))
routine_stretch heads body at height (Predecessor low) = cons (omega arith) tt tt refl refl (end (omega arith))
routine_stretch heads body at height (Least low) = cons (omega arith) tt tt refl refl (subst (λ (h : ℕ). Stretch heads body (at + 1) h (member_code low) (height + 1)) (let e : height + 1 ≡ height + 1 - 1 + 1 = omega arith in e) (member_stretch heads body (at + 1) height low))
routine_stretch heads body at height (Greatest low) = cons (omega arith) tt tt refl refl (subst (λ (h : ℕ). Stretch heads body (at + 1) h (member_code low) (height + 1)) (let e : height + 1 ≡ height + 1 - 1 + 1 = omega arith in e) (member_stretch heads body (at + 1) height low))
