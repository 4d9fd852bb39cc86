-- Stretches one behind the other.
use Rattle.std.proofs.Common.{◌≡◌, ◌⊎◌, ◌+◌, ◌-◌, ◌≤◌, ℕ, zero, suc, true, false, List, [], ◌∷◌, ◌++◌, length, take, length-append, refl, sym, ap, ◌∙◌, subst, inl, inr, arith, Option, Some, None}
use Rattle.code_types.specs.declared.instr.Instr.{Instr}
use Rattle.code_types.specs.declared.code.Code.{Code}
use Rattle.code_types.specs.Places.{finds, is_last, jump_of}
use Rattle.code_types.specs.Agreement.{LeadsForward}
use Rattle.code_scheme.specs.BodyCode.{height_behind}
use Rattle.scheme_heights.specs.Stretches.{behind, IsNamedIn, Outlets, no_outlets, Led, none_led, Lands, JumpsOn, led_behind, AreSteps, IsStretch}

pub behind-append : (heads : Code) (height : ℕ) (a b : List Instr) → behind heads height (a ++ b) ≡ behind heads (behind heads height a) b
behind-append heads height [] b = refl
behind-append heads height (instr ∷ a) b = behind-append heads (height_behind heads instr height) a b

pub take_front : (n : ℕ) (a b : List Instr) → n ≤ length a → take n (a ++ b) ≡ take n a
take_front zero a b low = refl
take_front (suc n) [] b low = absurd (let f : ⊥ = omega (arith, low) in f)
take_front (suc n) (x ∷ a) b low = ap (λ (l : List Instr). x ∷ l) (take_front n a b (omega (arith, low)))

pub take_rest : (n : ℕ) (a b : List Instr) → take (length a + n) (a ++ b) ≡ a ++ take n b
take_rest n [] b = ap (λ (k : ℕ). take k b) (let e : 0 + n ≡ n = omega arith in e)
take_rest n (x ∷ a) b = ap (λ (k : ℕ). take k (x ∷ (a ++ b))) (let e : suc (length a) + n ≡ suc (length a + n) = omega arith in e) ∙ ap (λ (l : List Instr). x ∷ l) (take_rest n a b)

-- a place among the first instructions is one among all
pub lands_front : (heads : Code) (at height : ℕ) (a b : List Instr) (to k : ℕ) → Lands heads at height a to k → Lands heads at height (a ++ b) to k
lands_front heads at height a b to k lands = record {
  from = lands.from;
  until = let u = lands.until in let l = length-append a b in omega (arith, u, l);
  same = ap (behind heads height) (take_front (to - at) a b (let f = lands.from in let u = lands.until in omega (arith, f, u))) ∙ lands.same;
}

-- and so is one among those behind
pub lands_rest : (heads : Code) (at height p h : ℕ) (a b : List Instr) (to k : ℕ) → p ≡ at + length a → behind heads height a ≡ h → Lands heads p h b to k → Lands heads at height (a ++ b) to k
lands_rest heads at height p h a b to k place same lands = record {
  from = let f = lands.from in omega (arith, f, place);
  until = let u = lands.until in let l = length-append a b in omega (arith, u, l, place);
  same =
      let f = lands.from in
      let e : to - at ≡ length a + (to - p) = omega (arith, f, place) in
      ap (λ (n : ℕ). behind heads height (take n (a ++ b))) e
      ∙ (ap (behind heads height) (take_rest (to - p) a b)
      ∙ (behind-append heads height a (take (to - p) b)
      ∙ (ap (λ (n : ℕ). behind heads n (take (to - p) b)) same ∙ lands.same)));
}

-- each outlet of a stretch is one of a greater one
abbrev pub MoreOutlets : Outlets → Outlets → Type 0
MoreOutlets outlets more = (to k : ℕ) → outlets to k → more to k

abbrev pub MoreLed : Led → Led → Type 0
MoreLed led more = (to : ℕ) → led to → more to

jumps_more : (heads : Code) (outlets more : Outlets) (at height : ℕ) (is : List Instr) (o : Option ℕ) → MoreOutlets outlets more → JumpsOn heads outlets at height is o → JumpsOn heads more at height is o
jumps_more heads outlets more at height is None all jumps = tt
jumps_more heads outlets more at height is (Some to) all (inl lands) = inl lands
jumps_more heads outlets more at height is (Some to) all (inr out) = inr (all to height out)

pub led_more : (led more : Led) (instr : Instr) → MoreLed led more → MoreLed (led_behind led instr) (led_behind more instr)
led_more led more instr all to (inl is) = inl (all to is)
led_more led more instr all to (inr jumps) = inr jumps

pub ended_more : (led more : Led) (instr : Instr) (to : ℕ) (Z : Type 0) → MoreLed led more → led_behind led instr to ⊎ Z → led_behind more instr to ⊎ Z
ended_more led more instr to Z all (inl is) = inl (led_more led more instr all to is)
ended_more led more instr to Z all (inr nothing) = inr nothing

pub steps_more : (heads : Code) (body : ℕ) (outlets more : Outlets) (led others : Led) (at height : ℕ) (is : List Instr) → MoreOutlets outlets more → MoreLed led others → AreSteps heads body outlets led at height is → AreSteps heads body more others at height is
steps_more heads body outlets more led others at height [] all known steps = tt
steps_more heads body outlets more led others at height (instr ∷ is) all known steps =
    let s = steps.0 in (
      record {
        operands = s.operands;
        named = s.named;
        forward = s.forward;
        jumps = jumps_more heads outlets more (at + 1) (height_behind heads instr height) is (jump_of instr) all s.jumps;
        ended = λ last. ended_more led others instr (at + 1) _ known (s.ended last);
      },
      steps_more heads body outlets more (led_behind led instr) (led_behind others instr) (at + 1) (height_behind heads instr height) is all (led_more led others instr known) steps.1,
    )

-- what the jumps out of the first stretch come to
abbrev pub ComesOn : Code → Outlets → ℕ → ℕ → List Instr → Outlets → Type 0
ComesOn heads outlets at height is more = (to k : ℕ) → outlets to k → Lands heads at height is to k ⊎ more to k

jumps_join : (heads : Code) (outlets more : Outlets) (at height p h : ℕ) (a b : List Instr) (o : Option ℕ) → p ≡ at + length a → behind heads height a ≡ h → ComesOn heads outlets p h b more → JumpsOn heads outlets at height a o → JumpsOn heads more at height (a ++ b) o
jumps_join heads outlets more at height p h a b None place same comes jumps = tt
jumps_join heads outlets more at height p h a b (Some to) place same comes (inl lands) = inl (lands_front heads at height a b to height lands)
jumps_join heads outlets more at height p h a b (Some to) place same comes (inr out) = elim (comes to height out) [
  | inl lands ↦ inl (lands_rest heads at height p h a b to height place same lands)
  | inr more_out ↦ inr more_out
]

pub steps_join : (heads : Code) (body : ℕ) (outlets others more : Outlets) (led : Led) (at height p h : ℕ) (a b : List Instr) → p ≡ at + length a → behind heads height a ≡ h
    → ComesOn heads outlets p h b more → MoreOutlets others more
    → AreSteps heads body outlets led at height a → AreSteps heads body others none_led p h b → AreSteps heads body more led at height (a ++ b)
steps_join heads body outlets others more led at height p h [] b place same comes all first second =
    let here : p ≡ at = omega (arith, place) in
    steps_more heads body others more none_led led at height b all (λ to none. absurd none)
    (subst (λ (n : ℕ). AreSteps heads body others none_led at n b) (sym same) (subst (λ (n : ℕ). AreSteps heads body others none_led n h b) here second))
steps_join heads body outlets others more led at height p h (instr ∷ a) b place same comes all first second =
    let s = first.0 in
    let next : p ≡ (at + 1) + length a = omega (arith, place) in (
      record {
        operands = s.operands;
        named = s.named;
        forward = s.forward;
        jumps = jumps_join heads outlets more (at + 1) (height_behind heads instr height) p h a b (jump_of instr) next same comes s.jumps;
        ended = s.ended;
      },
      steps_join heads body outlets others more (led_behind led instr) (at + 1) (height_behind heads instr height) p h a b next same comes all first.1 second,
    )

-- two stretches with no outlets, one behind the other
pub join : (heads : Code) (body at height : ℕ) (a b : List Instr) (n m h next p size : ℕ) → p ≡ at + n → size ≡ n + m → IsStretch heads body no_outlets at height a n h → IsStretch heads body no_outlets p h b m next → IsStretch heads body no_outlets at height (a ++ b) size next
join heads body at height a b n m h next p size place sum first second = record {
  steps =
      let c = first.count in
      steps_join heads body no_outlets no_outlets no_outlets none_led at height p h a b (omega (arith, place, c)) first.leaves (λ to k out. absurd out) (λ to k out. out) first.steps second.steps;
  count = let c = first.count in let d = second.count in let l = length-append a b in omega (arith, c, d, l, sum);
  leaves = behind-append heads height a b ∙ (ap (λ (x : ℕ). behind heads x b) first.leaves ∙ second.leaves);
}

-- no instructions
pub nothing : (heads : Code) (body at height next : ℕ) → height ≡ next → IsStretch heads body no_outlets at height [] 0 next
nothing heads body at height next same = record { steps = tt; count = refl; leaves = same }

-- one instruction that doesn't jump
pub one : (heads : Code) (body at height : ℕ) (instr : Instr) (next : ℕ) → finds heads body instr ≤ height → IsNamedIn heads instr → LeadsForward at instr → jump_of instr ≡ None → is_last instr ≡ false → height_behind heads instr height ≡ next → IsStretch heads body no_outlets at height (instr ∷ []) 1 next
one heads body at height instr next operands named forward stays goes same = record {
  steps = (
    record {
      operands = operands;
      named = named;
      forward = forward;
      jumps = subst (JumpsOn heads no_outlets (at + 1) (height_behind heads instr height) []) (sym stays) tt;
      ended = λ last. absurd (let e : false ≡ true = sym goes ∙ last in let f : ⊥ = cc in f);
    },
    tt,
  );
  count = refl;
  leaves = same;
}

-- the same stretch with its numbers written otherwise
pub same_stretch : (heads : Code) (body at at' height height' : ℕ) (is : List Instr) (size size' next next' : ℕ) → at ≡ at' → height ≡ height' → size ≡ size' → next ≡ next' → IsStretch heads body no_outlets at height is size next → IsStretch heads body no_outlets at' height' is size' next'
same_stretch heads body at at' height height' is size size' next next' places heights sizes nexts stretch =
    let moved : IsStretch heads body no_outlets at' height' is size next = subst (λ (h : ℕ). IsStretch heads body no_outlets at' h is size next) heights (subst (λ (p : ℕ). IsStretch heads body no_outlets p height is size next) places stretch) in
    record { steps = moved.steps; count = moved.count ∙ sizes; leaves = moved.leaves ∙ nexts }
