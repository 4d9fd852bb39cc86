-- Blocks of statements: one behind the other, and parts of which one is done.
use Rattle.std.proofs.Common.{◌≡◌, ◌⊎◌, ◌+◌, ◌-◌, ◌<◌, ℕ, zero, suc, Bool, true, false, List, [], ◌∷◌, ◌++◌, length, take, refl, sym, ap, ◌∙◌, subst, inl, inr, arith, append-nil, Some, None}
use Rattle.std.specs.Prelude.{if◌then◌else◌, ◌&&◌, ◌||◌}
use Rattle.std.proofs.lemmas.List.{append_assoc}
use Rattle.std.proofs.lemmas.Bool.{cases_lt}
use Rattle.code_types.specs.declared.instr.Instr.{Instr}
use Rattle.code_types.specs.declared.instr.Instr.TheVariants as i
use Rattle.code_types.specs.declared.code.Code.{Code}
use Rattle.code_types.specs.declared.code.Handler.{Handler}
use Rattle.code_scheme.specs.StatementGoing.{leave_size, leave_code}
use Rattle.code_types.specs.Places.{finds, is_last, jump_of}
use Rattle.code_types.specs.Agreement.{LeadsForward}
use Rattle.code_scheme.specs.StatementCode.{joining, turn_back_code}
use Rattle.code_scheme.specs.StatementSize.{turn_back_size}
use Rattle.code_scheme.specs.BodyCode.{height_behind}
use Rattle.scheme_heights.specs.Stretches.{behind, IsNamedIn, Outlets, no_outlets, Lands, IsStretch}
use Rattle.scheme_heights.specs.Laws.{to_place}
use Rattle.scheme_heights.specs.Closed.{Meets, inside_or, AreRowsIn, IsBlock, IsOneOf, leads_out}
use Rattle.scheme_heights.proofs.Closing.{meets_front, inside_rest, LeadInto, rows_both, join_blocks, wider, or_behind, stretch_closed}
use Rattle.scheme_heights.proofs.Parts.{lands_over}
use Rattle.scheme_heights.proofs.Operators.{take_all}

-- ---- outlets

-- where control goes that comes out of statements
pub out_into : (goes : Bool) (place : ℕ) (exits : List ℕ) (comes : Outlets) → (goes ≡ true → comes place 0) → ((to : ℕ) → IsOneOf exits to → comes to 0) → LeadInto (leads_out goes place exits) comes
out_into goes place exits comes on leave to k out = from k to out.0 out.1
  where
    here : (to : ℕ) → ((goes ≡ true) × (to ≡ place)) ⊎ IsOneOf exits to → comes to 0
    here to (inl ends) = subst (λ (p : ℕ). comes p 0) (sym ends.1) (on ends.0)
    here to (inr exit) = leave to exit

    from : (k to : ℕ) → k ≡ 0 → ((goes ≡ true) × (to ≡ place)) ⊎ IsOneOf exits to → comes to k
    from k to level out = subst (λ (h : ℕ). comes to h) (sym level) (here to out)

pub goes_out : (goes : Bool) (place : ℕ) (exits : List ℕ) → goes ≡ true → leads_out goes place exits place 0
goes_out goes place exits on = (refl, inl (on, refl))

pub exits_out : (goes : Bool) (place : ℕ) (exits : List ℕ) (to : ℕ) → IsOneOf exits to → leads_out goes place exits to 0
exits_out goes place exits to exit = (refl, inr exit)

-- out of a stretch, of which some jumps go out
pub behind_into : (outlets : Outlets) (place : ℕ) (comes : Outlets) → comes place 0 → LeadInto outlets comes → LeadInto (or_behind outlets place 0) comes
behind_into outlets place comes on out to k (inl go) = out to k go
behind_into outlets place comes on out to k (inr ends) = subst (λ (p : ℕ). comes p k) (sym ends.0) (subst (λ (h : ℕ). comes place h) (sym ends.1) on)

pub place_into : (target : ℕ) (comes : Outlets) → comes target 0 → LeadInto (to_place target 0) comes
place_into target comes on to k go = subst (λ (p : ℕ). comes p k) (sym go.0) (subst (λ (h : ℕ). comes target h) (sym go.1) on)

-- control comes to the first of some instructions
pub meets_first : (heads : Code) (at : ℕ) (is : List Instr) → 0 < length is → Meets heads at 0 is at 0
meets_first heads at [] some = absurd (let f : ⊥ = omega (arith, some) in f)
meets_first heads at (instr ∷ is) some = record { from = omega arith; until = omega arith; same = first (at - at) (omega arith) }
  where
    first : (n : ℕ) → n ≡ 0 → behind heads 0 (take n (instr ∷ is)) ≡ 0
    first zero none = refl
    first (suc n) none = absurd (let f : ⊥ = omega (arith, none) in f)

-- ---- blocks

-- a stretch as a block, of which control comes out behind it
pub stretch_block : {heads : Code} {body : ℕ} {outlets : Outlets} {at : ℕ} {is : List Instr} {n : ℕ} (more : Outlets) → LeadInto outlets more → more (at + n) 0 → IsStretch heads body outlets at 0 is n 0 → IsBlock heads body more at is [] n
stretch_block {outlets = outlets} {at = at} {n = n} more leads on stretch = wider more (behind_into outlets (at + n) more on leads) (record { closed = stretch_closed stretch; handled = tt })

pub plain_block : {heads : Code} {body at : ℕ} {is : List Instr} {n : ℕ} (exits : List ℕ) → IsStretch heads body no_outlets at 0 is n 0 → IsBlock heads body (leads_out true (at + n) exits) at is [] n
plain_block {at = at} {n = n} exits stretch = stretch_block (leads_out true (at + n) exits) (λ to k none. absurd none) (goes_out true (at + n) exits refl) stretch

pub resized_block : {heads : Code} {body : ℕ} {outlets : Outlets} {at : ℕ} {is : List Instr} {rows : List Handler} {n : ℕ} (m : ℕ) → n ≡ m → IsBlock heads body outlets at is rows n → IsBlock heads body outlets at is rows m
resized_block {heads = heads} {body = body} {outlets = outlets} {at = at} {is = is} {rows = rows} m same block = subst (λ (k : ℕ). IsBlock heads body outlets at is rows k) same block

-- one behind the other, where control comes behind the first
pub follow_block : (heads : Code) (body : ℕ) (exits : List ℕ) (goes on : Bool) (at n m : ℕ) (a b : List Instr) (some rows : List Handler) → IsBlock heads body (leads_out goes (at + n) exits) at a some n → (goes ≡ true → IsBlock heads body (leads_out on (at + n + m) exits) (at + n) b rows m)
    → IsBlock heads body (leads_out (goes && on) (at + (n + (if goes then m else 0))) exits) at (a ++ (if goes then b else [])) (some ++ (if goes then rows else [])) (n + (if goes then m else 0))
follow_block heads body exits false on at n m a b some rows first second =
    subst (λ (is : List Instr). IsBlock heads body (leads_out false (at + (n + 0)) exits) at is (some ++ []) (n + 0)) (sym (append-nil a))
    (subst (λ (rs : List Handler). IsBlock heads body (leads_out false (at + (n + 0)) exits) at a rs (n + 0)) (sym (append-nil some))
    (resized_block (n + 0) (omega arith) (wider (leads_out false (at + (n + 0)) exits) (out_into false (at + n) exits _ (λ on. absurd (let f : ⊥ = cc in f)) (exits_out false (at + (n + 0)) exits)) first)))
follow_block heads body exits true on at n m a b some rows first second =
    join_blocks (leads_out on (at + (n + m)) exits) refl refl
    (out_into true (at + n) exits _ (λ on'. entry) (λ to exit. inr (exits_out on (at + (n + m)) exits to exit)))
    (out_into on (at + n + m) exits _ (λ on'. inr (subst (λ (p : ℕ). leads_out on (at + (n + m)) exits p 0) (let e : at + (n + m) ≡ at + n + m = omega arith in e) (goes_out on (at + (n + m)) exits on'))) (λ to exit. inr (exits_out on (at + (n + m)) exits to exit)))
    first block
  where
    block : IsBlock heads body (leads_out on (at + n + m) exits) (at + n) b rows m
    block = second refl

    entry : inside_or heads (at + n) 0 b (leads_out on (at + (n + m)) exits) (at + n) 0
    entry = elim block.closed.entry [
      | inl meets ↦ inl meets
      | inr out ↦ inr (subst (λ (p : ℕ). leads_out on p exits (at + n) 0) (let e : at + n + m ≡ at + (n + m) = omega arith in e) out)
    ]

-- ---- parts of which one is done

-- a part, and the jump over so many instructions behind it
pub joining_block : (heads : Code) (body : ℕ) (exits : List ℕ) (goes : Bool) (at n rest place : ℕ) (a : List Instr) (rows : List Handler) → place ≡ at + (n + (leave_size goes rest + rest)) → IsBlock heads body (leads_out goes (at + n) exits) at a rows n
    → IsBlock heads body (leads_out goes place exits) at (joining a goes rest place) rows (n + leave_size goes rest)
joining_block heads body exits goes at n rest place a rows there block = go goes rest there block
  where
    same_rows : (more : Outlets) (is : List Instr) (size : ℕ) → IsBlock heads body more at is (rows ++ []) size → IsBlock heads body more at is rows size
    same_rows more is size known = subst (λ (rs : List Handler). IsBlock heads body more at is rs size) (append-nil rows) known

    bare : (goes : Bool) → (goes ≡ true → at + n ≡ place) → IsBlock heads body (leads_out goes (at + n) exits) at a rows n → IsBlock heads body (leads_out goes place exits) at (a ++ []) rows (n + 0)
    bare goes here known =
        subst (λ (is : List Instr). IsBlock heads body (leads_out goes place exits) at is rows (n + 0)) (sym (append-nil a))
        (resized_block (n + 0) (omega arith) (wider (leads_out goes place exits) (out_into goes (at + n) exits _ (λ on. subst (λ (p : ℕ). leads_out goes place exits p 0) (sym (here on)) (goes_out goes place exits on)) (exits_out goes place exits)) known))

    go : (goes : Bool) (rest : ℕ) → place ≡ at + (n + (leave_size goes rest + rest)) → IsBlock heads body (leads_out goes (at + n) exits) at a rows n → IsBlock heads body (leads_out goes place exits) at (a ++ leave_code goes rest place) rows (n + leave_size goes rest)
    go false rest there known = bare false (λ on. absurd (let f : ⊥ = cc in f)) known
    go true zero there known = bare true (λ on. omega (arith, there)) known
    go true (suc rest) there known =
        let jump : IsBlock heads body (leads_out true place exits) (at + n) (i.Jump place ∷ []) [] 1 = record {
          closed = record {
            moves = (record { operands = omega arith; named = tt; forward = omega (arith, there); goes = λ on. absurd (let f : ⊥ = cc in f); jumps = λ to jump. inr (jumps to jump); ended = λ last. inr (omega arith) }, tt);
            entry = inl (meets_first heads (at + n) (i.Jump place ∷ []) (omega arith));
            count = refl;
            leaves = omega arith;
          };
          handled = tt;
        } in
        same_rows (leads_out true place exits) (a ++ i.Jump place ∷ []) (n + 1)
        (join_blocks (leads_out true place exits) refl refl (out_into true (at + n) exits _ (λ on. inl (meets_first heads (at + n) (i.Jump place ∷ []) (omega arith))) (λ to exit. inr (exits_out true place exits to exit))) (λ to k out. inr out) known jump)
      where
        jumps : (to : ℕ) → Some place ≡ Some to → leads_out true place exits to (0 - 0 + 0)
        jumps to same = (omega arith, inl (refl, let e : to ≡ place = cc in e))

-- two parts of which one is done: both lead to one place
pub either_block : (heads : Code) (body : ℕ) (exits : List ℕ) (goes on : Bool) (at p n m place : ℕ) (a b : List Instr) (some rows : List Handler) → p ≡ at + n → IsBlock heads body (leads_out goes place exits) at a some n → IsBlock heads body (leads_out on place exits) p b rows m
    → IsBlock heads body (leads_out (on || goes) place exits) at (a ++ b) (some ++ rows) (n + m)
either_block heads body exits goes on at p n m place a b some rows there first second =
    join_blocks (leads_out (on || goes) place exits) there refl
    (out_into goes place exits _ (λ is. inr (goes_out (on || goes) place exits (second_true on goes is))) (λ to exit. inr (exits_out (on || goes) place exits to exit)))
    (out_into on place exits _ (λ is. inr (goes_out (on || goes) place exits (first_true on goes is))) (λ to exit. inr (exits_out (on || goes) place exits to exit)))
    first second
  where
    second_true : (x y : Bool) → y ≡ true → (x || y) ≡ true
    second_true true y is = refl
    second_true false y is = is

    first_true : (x y : Bool) → x ≡ true → (x || y) ≡ true
    first_true true y is = refl
    first_true false y is = absurd (let f : ⊥ = cc in f)

-- a test that leads on or to the second of two parts
pub tested_block : (heads : Code) (body : ℕ) (exits : List ℕ) (goes on : Bool) (at q p c n m place : ℕ) (test a b : List Instr) (some rows : List Handler) → q ≡ at + c → p ≡ q + n → IsStretch heads body (to_place p 0) at 0 test c 0 → IsBlock heads body (leads_out goes place exits) q a some n → IsBlock heads body (leads_out on place exits) p b rows m
    → IsBlock heads body (leads_out (on || goes) place exits) at (test ++ (a ++ b)) (some ++ rows) (c + (n + m))
tested_block heads body exits goes on at q p c n m place test a b some rows here there tests first second =
    let both = either_block heads body exits goes on q p n m place a b some rows there first second in
    join_blocks all {some = []} here refl (behind_into (to_place p 0) (at + c) inner first_entry (place_into p inner second_entry)) (λ to k out. inr out) block both
  where
    all : Outlets
    all = leads_out (on || goes) place exits

    inner : Outlets
    inner = inside_or heads q 0 (a ++ b) all

    block : IsBlock heads body (or_behind (to_place p 0) (at + c) 0) at test [] c
    block = record { closed = stretch_closed tests; handled = tt }

    first_true : (x y : Bool) → x ≡ true → (x || y) ≡ true
    first_true true y is = refl
    first_true false y is = absurd (let f : ⊥ = cc in f)

    first_entry : inner (at + c) 0
    first_entry = let both = either_block heads body exits goes on q p n m place a b some rows there first second in subst (λ (x : ℕ). inner x 0) here both.closed.entry

    second_entry : inner p 0
    second_entry =
        let count = first.closed.count in
        inside_rest heads q 0 p 0 a b (leads_out on place exits) all p 0 (omega (arith, there, count)) first.closed.leaves
        (λ out. inr (out_into on place exits all (λ is. goes_out (on || goes) place exits (first_true on goes is)) (exits_out (on || goes) place exits) p 0 out)) second.closed.entry

-- a block behind what control comes out of
pub lead_block : (heads : Code) (body : ℕ) (exits : List ℕ) (on : Bool) (at p n m place : ℕ) (a b : List Instr) (some rows : List Handler) → p ≡ at + n → IsBlock heads body (leads_out true (at + n) exits) at a some n → IsBlock heads body (leads_out on place exits) p b rows m
    → IsBlock heads body (leads_out on place exits) at (a ++ b) (some ++ rows) (n + m)
lead_block heads body exits on at p n m place a b some rows there first second =
    join_blocks (leads_out on place exits) there refl
    (out_into true (at + n) exits (inside_or heads p 0 b (leads_out on place exits)) (λ is. subst (λ (x : ℕ). inside_or heads p 0 b (leads_out on place exits) x 0) there second.closed.entry) (λ to exit. inr (exits_out on place exits to exit)))
    (λ to k out. inr out) first second

-- more rows between those of two parts
rows_split : (heads : Code) (low : ℕ) (outlets : Outlets) (at : ℕ) (is : List Instr) (some rows : List Handler) → AreRowsIn heads low outlets at is (some ++ rows) → AreRowsIn heads low outlets at is some × AreRowsIn heads low outlets at is rows
rows_split heads low outlets at is [] rows known = (tt, known)
rows_split heads low outlets at is (row ∷ some) rows known = let rest = rows_split heads low outlets at is some rows known.1 in ((known.0, rest.0), rest.1)

pub insert_rows : (heads : Code) (body : ℕ) (outlets : Outlets) (at : ℕ) (is : List Instr) (some own rows : List Handler) (n : ℕ) → AreRowsIn heads at outlets at is own → IsBlock heads body outlets at is (some ++ rows) n → IsBlock heads body outlets at is (some ++ (own ++ rows)) n
insert_rows heads body outlets at is some own rows n known block =
    let split = rows_split heads at outlets at is some rows block.handled in
    record { closed = block.closed; handled = rows_both heads at outlets at is some (own ++ rows) split.0 (rows_both heads at outlets at is own rows known split.1) }

-- an instruction that ends what is done
pub last_block : (heads : Code) (body : ℕ) (exits : List ℕ) (at place : ℕ) (instr : Instr) → finds heads body instr ≡ 0 → IsNamedIn heads instr → LeadsForward at instr → jump_of instr ≡ None → is_last instr ≡ true → height_behind heads instr 0 ≡ 0 → IsBlock heads body (leads_out false place exits) at (instr ∷ []) [] 1
last_block heads body exits at place instr takes named forward stays ends level = record {
  closed = record {
    moves = (
      record {
        operands = omega (arith, takes);
        named = named;
        forward = forward;
        goes = λ on. absurd (let e : false ≡ true = sym on ∙ ends in let f : ⊥ = cc in f);
        jumps = λ to jump. absurd (let e : None ≡ Some to = sym stays ∙ jump in let f : ⊥ = cc in f);
        ended = λ last. inr level;
      },
      tt,
    );
    entry = inl (meets_first heads at (instr ∷ []) (omega arith));
    count = refl;
    leaves = level;
  };
  handled = tt;
}

-- a jump to where an EXIT leads
pub exit_block : (heads : Code) (body : ℕ) (exits : List ℕ) (at place target : ℕ) → at < target → IsOneOf exits target → IsBlock heads body (leads_out false place exits) at (i.Jump target ∷ []) [] 1
exit_block heads body exits at place target forward exit = record {
  closed = record {
    moves = (
      record {
        operands = omega arith;
        named = tt;
        forward = forward;
        goes = λ on. absurd (let f : ⊥ = cc in f);
        jumps = λ to jump. inr (omega arith, inr (subst (IsOneOf exits) (let e : target ≡ to = cc in e) exit));
        ended = λ last. inr (omega arith);
      },
      tt,
    );
    entry = inl (meets_first heads at (i.Jump target ∷ []) (omega arith));
    count = refl;
    leaves = omega arith;
  };
  handled = tt;
}

-- ---- loops

-- the actions of a loop, and back where control goes on behind them
turn_block : (heads : Code) (body : ℕ) (exits : List ℕ) (goes : Bool) (at turns k : ℕ) (actions : List Instr) (rows : List Handler) → IsBlock heads body (leads_out goes (at + k) exits) at actions rows k
    → IsBlock heads body (leads_out goes turns exits) at (actions ++ turn_back_code goes turns) rows (k + turn_back_size goes)
turn_block heads body exits false at turns k actions rows block =
    subst (λ (is : List Instr). IsBlock heads body (leads_out false turns exits) at is rows (k + 0)) (sym (append-nil actions))
    (resized_block (k + 0) (omega arith) (wider (leads_out false turns exits) (out_into false (at + k) exits (leads_out false turns exits) (λ on. absurd (let f : ⊥ = cc in f)) (exits_out false turns exits)) block))
turn_block heads body exits true at turns k actions rows block =
    subst (λ (rs : List Handler). IsBlock heads body (leads_out true turns exits) at (actions ++ i.Again turns ∷ []) rs (k + 1)) (append-nil rows)
    (join_blocks (leads_out true turns exits) refl refl
    (out_into true (at + k) exits (inside_or heads (at + k) 0 (i.Again turns ∷ []) (leads_out true turns exits)) (λ on. inl (meets_first heads (at + k) (i.Again turns ∷ []) (omega arith))) (λ to exit. inr (exits_out true turns exits to exit)))
    (λ to k out. inr out) block again)
  where
    again : IsBlock heads body (leads_out true turns exits) (at + k) (i.Again turns ∷ []) [] 1
    again = record {
      closed = record {
        moves = (
          record {
            operands = omega arith;
            named = tt;
            forward = tt;
            goes = λ on. absurd (let f : ⊥ = cc in f);
            jumps = λ to jump. inr (omega arith, inl (refl, let e : to ≡ turns = cc in e));
            ended = λ last. inr (omega arith);
          },
          tt,
        );
        entry = inl (meets_first heads (at + k) (i.Again turns ∷ []) (omega arith));
        count = refl;
        leaves = omega arith;
      };
      handled = tt;
    }

-- control comes to the actions, or there are none and it goes out
turn_entry : (heads : Code) (body : ℕ) (exits : List ℕ) (goes ends : Bool) (at turns k place : ℕ) (actions : List Instr) (rows : List Handler) → IsBlock heads body (leads_out goes turns exits) at (actions ++ turn_back_code goes turns) rows (k + turn_back_size goes)
    → inside_or heads at 0 (actions ++ turn_back_code goes turns) (leads_out ends place exits) at 0
turn_entry heads body exits true ends at turns k place actions rows block = let c = block.closed.count in inl (meets_first heads at _ (omega (arith, c)))
turn_entry heads body exits false ends at turns k place actions rows block = elim block.closed.entry [
  | inl meets ↦ inl meets
  | inr out ↦ inr (out_into false turns exits (leads_out ends place exits) (λ on. absurd (let f : ⊥ = cc in f)) (exits_out ends place exits) at 0 out)
]

-- A loop: what stands before the turns leads to the test before each turn, or behind the loop.
pub loop_block : (heads : Code) (body : ℕ) (exits : List ℕ) (goes ends : Bool) (firsts tests : Outlets) (at n m k place : ℕ) (before test actions : List Instr) (rows : List Handler)
    → LeadInto firsts (λ to h. Lands heads (at + n) 0 test to h ⊎ leads_out ends place exits to h) → LeadInto tests (leads_out ends place exits)
    → IsStretch heads body firsts at 0 before n 0 → IsStretch heads body tests (at + n) 0 test m 0 → IsBlock heads body (leads_out goes (at + n + m + k) exits) (at + n + m) actions rows k
    → IsBlock heads body (leads_out ends place exits) at ((before ++ test) ++ (actions ++ turn_back_code goes (at + n))) rows ((n + m) + (k + turn_back_size goes))
loop_block heads body exits goes ends firsts tests at n m k place before test actions rows into out_of first tested block =
    subst (λ (is : List Instr). IsBlock heads body more at is rows ((n + m) + (k + turn_back_size goes))) (sym (append_assoc before test turn))
    (join_blocks more {some = []} {rows = rows} refl (omega arith) (behind_into firsts turns inner (inside turns 0 (lands_over heads turns 0 test turns 0 0 (omega arith) (omega arith) refl)) (λ to h go. leads to h (into to h go)))
    (λ to h out. inr out) (record { closed = stretch_closed first; handled = tt }) rest)
  where
    more : Outlets
    more = leads_out ends place exits

    turns : ℕ
    turns = at + n

    turn : List Instr
    turn = actions ++ turn_back_code goes turns

    inner : Outlets
    inner = inside_or heads turns 0 (test ++ turn) more

    back : IsBlock heads body (leads_out goes turns exits) (turns + m) turn rows (k + turn_back_size goes)
    back = turn_block heads body exits goes (turns + m) turns k actions rows block

    entry : inside_or heads (turns + m) 0 turn more (turns + m) 0
    entry = turn_entry heads body exits goes ends (turns + m) turns k place actions rows back

    -- a place of the test, or the one behind it
    inside : (to h : ℕ) → Lands heads turns 0 test to h → inner to h
    inside to h lands = elim (cases_lt to (turns + length test)) [
      | inl less ↦ inl (meets_front turn (record { from = lands.from; until = less; same = lands.same }))
      | inr end ↦ (
          let u = lands.until in
          let f = lands.from in
          let c = tested.count in
          let e : to - turns ≡ length test = omega (arith, u, f, end) in
          let level : h ≡ 0 = sym lands.same ∙ (ap (λ (x : ℕ). behind heads 0 (take x test)) e ∙ (ap (behind heads 0) (take_all test) ∙ tested.leaves)) in
          let here : turns + m ≡ to = omega (arith, u, end, c) in
          let last : inner (turns + m) 0 = inside_rest heads turns 0 (turns + m) 0 test turn more more (turns + m) 0 (omega (arith, c)) tested.leaves (λ out. inr out) entry in
          subst (λ (x : ℕ). inner x h) here (subst (λ (x : ℕ). inner (turns + m) x) (sym level) last))
    ]

    leads : (to h : ℕ) → Lands heads turns 0 test to h ⊎ more to h → inner to h
    leads to h (inl lands) = inside to h lands
    leads to h (inr out) = inr out

    rest : IsBlock heads body more turns (test ++ turn) rows (m + (k + turn_back_size goes))
    rest =
        join_blocks more {some = []} {rows = rows} refl refl (behind_into tests (turns + m) (inside_or heads (turns + m) 0 turn more) entry (λ to h go. inr (out_of to h go)))
        (out_into goes turns exits inner (λ on. inside turns 0 (lands_over heads turns 0 test turns 0 0 (omega arith) (omega arith) refl)) (λ to exit. inr (exits_out ends place exits to exit)))
        (record { closed = stretch_closed tested; handled = tt }) back
