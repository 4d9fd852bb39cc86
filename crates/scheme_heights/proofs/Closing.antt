-- Closed code, one behind the other.
use Rattle.std.proofs.Common.{◌≡◌, ◌⊎◌, ◌+◌, ◌-◌, ◌≤◌, ℕ, List, [], ◌∷◌, ◌++◌, length, take, length-append, refl, sym, ap, ◌∙◌, subst, inl, inr, arith, Some}
use Rattle.std.proofs.lemmas.Bool.{cases_lt}
use Rattle.code_types.specs.declared.instr.Instr.{Instr}
use Rattle.code_types.specs.declared.code.Code.{Code}
use Rattle.code_types.specs.declared.code.Handler.{Handler}
use Rattle.code_scheme.specs.BodyCode.{height_behind}
use Rattle.scheme_heights.specs.Stretches.{behind, Outlets, Led, none_led, Lands, JumpsOn, led_behind, AreSteps, IsStretch}
use Rattle.scheme_heights.specs.Closed.{Meets, inside_or, AreMoves, IsClosed, AreRowsIn, IsBlock}
use Rattle.scheme_heights.proofs.Joining.{behind-append, take_front, take_rest, lands_rest, MoreOutlets, MoreLed, led_more, ended_more}
use Rattle.scheme_heights.proofs.Parts.{lands_over}
use Rattle.scheme_heights.proofs.Operators.{take_all}

-- ---- places

pub meets_front : {heads : Code} {at height : ℕ} {a : List Instr} (b : List Instr) {to k : ℕ} → Meets heads at height a to k → Meets heads at height (a ++ b) to k
meets_front {heads = heads} {at = at} {height = height} {a = a} b {to = to} meets = record {
  from = meets.from;
  until = let u = meets.until in let l = length-append a b in omega (arith, u, l);
  same = ap (behind heads height) (take_front (to - at) a b (let f = meets.from in let u = meets.until in omega (arith, f, u))) ∙ meets.same;
}

pub meets_rest : {heads : Code} {p h : ℕ} {b : List Instr} {to k : ℕ} (at height : ℕ) (a : List Instr) → p ≡ at + length a → behind heads height a ≡ h → Meets heads p h b to k → Meets heads at height (a ++ b) to k
meets_rest {heads = heads} {p = p} {h = h} {b = b} {to = to} at height a place same meets = record {
  from = let f = meets.from in omega (arith, f, place);
  until = let u = meets.until in let l = length-append a b in omega (arith, u, l, place);
  same =
      let f = meets.from in
      let e : to - at ≡ length a + (to - p) = omega (arith, f, place) in
      ap (λ (n : ℕ). behind heads height (take n (a ++ b))) e
      ∙ (ap (behind heads height) (take_rest (to - p) a b)
      ∙ (behind-append heads height a (take (to - p) b)
      ∙ (ap (λ (n : ℕ). behind heads n (take (to - p) b)) same ∙ meets.same)));
}

-- inside the first instructions or out of them, and inside those behind or out of all
pub inside_front : (heads : Code) (at height : ℕ) (a b : List Instr) (outlets more : Outlets) (to k : ℕ) → (outlets to k → inside_or heads at height (a ++ b) more to k) → inside_or heads at height a outlets to k → inside_or heads at height (a ++ b) more to k
inside_front heads at height a b outlets more to k goes (inl meets) = inl (meets_front b meets)
inside_front heads at height a b outlets more to k goes (inr out) = goes out

pub inside_rest : (heads : Code) (at height p h : ℕ) (a b : List Instr) (outlets more : Outlets) (to k : ℕ) → p ≡ at + length a → behind heads height a ≡ h → (outlets to k → inside_or heads at height (a ++ b) more to k) → inside_or heads p h b outlets to k → inside_or heads at height (a ++ b) more to k
inside_rest heads at height p h a b outlets more to k place same goes (inl meets) = inl (meets_rest at height a place same meets)
inside_rest heads at height p h a b outlets more to k place same goes (inr out) = goes out

pub moves_more : (heads : Code) (body : ℕ) (comes more : Outlets) (led others : Led) (at height : ℕ) (is : List Instr) → MoreOutlets comes more → MoreLed led others → AreMoves heads body comes led at height is → AreMoves heads body more others at height is
moves_more heads body comes more led others at height [] all known moves = tt
moves_more heads body comes more led others at height (instr ∷ is) all known moves =
    let m = moves.0 in (
      record {
        operands = m.operands;
        named = m.named;
        forward = m.forward;
        goes = λ on. all (at + 1) (height_behind heads instr height) (m.goes on);
        jumps = λ to jump. all to (height_behind heads instr height) (m.jumps to jump);
        ended = λ last. ended_more led others instr (at + 1) _ known (m.ended last);
      },
      moves_more heads body comes more (led_behind led instr) (led_behind others instr) (at + 1) (height_behind heads instr height) is all (led_more led others instr known) moves.1,
    )

moves_join : (heads : Code) (body : ℕ) (comes : Outlets) (led : Led) (at height p h : ℕ) (a b : List Instr) → p ≡ at + length a → behind heads height a ≡ h → AreMoves heads body comes led at height a → AreMoves heads body comes none_led p h b → AreMoves heads body comes led at height (a ++ b)
moves_join heads body comes led at height p h [] b place same first second =
    let here : p ≡ at = omega (arith, place) in
    moves_more heads body comes comes none_led led at height b (λ to k come. come) (λ to none. absurd none)
    (subst (λ (n : ℕ). AreMoves heads body comes none_led at n b) (sym same) (subst (λ (n : ℕ). AreMoves heads body comes none_led n h b) here second))
moves_join heads body comes led at height p h (instr ∷ a) b place same first second =
    (first.0, moves_join heads body comes (led_behind led instr) (at + 1) (height_behind heads instr height) p h a b (omega (arith, place)) same first.1 second)

-- where the outlets of one part lead among all
abbrev pub LeadInto : Outlets → Outlets → Type 0
LeadInto outlets comes = (to k : ℕ) → outlets to k → comes to k

pub join_closed : {heads : Code} {body : ℕ} {outlets others : Outlets} (more : Outlets) {at height p h n m next size : ℕ} {a b : List Instr} → p ≡ at + n → size ≡ n + m
    → LeadInto outlets (inside_or heads p h b more) → LeadInto others (inside_or heads at height (a ++ b) more)
    → IsClosed heads body outlets at height a n h → IsClosed heads body others p h b m next → IsClosed heads body more at height (a ++ b) size next
join_closed {heads = heads} {body = body} {outlets = outlets} {others = others} more {at = at} {height = height} {p = p} {h = h} {n = n} {m = m} {next = next} {size = size} {a = a} {b = b} place sum comes backs first second = record {
  moves =
      moves_join heads body (inside_or heads at height (a ++ b) more) none_led at height p h a b there first.leaves
      (moves_more heads body _ _ none_led none_led at height a (λ to k come. inside_front heads at height a b outlets more to k (λ out. onwards to k (comes to k out)) come) (λ to led. led) first.moves)
      (moves_more heads body _ _ none_led none_led p h b (λ to k come. inside_rest heads at height p h a b others more to k there first.leaves (backs to k) come) (λ to led. led) second.moves);
  entry = inside_front heads at height a b outlets more at height (λ out. onwards at height (comes at height out)) first.entry;
  count = let c = first.count in let d = second.count in let l = length-append a b in omega (arith, c, d, l, sum);
  leaves = behind-append heads height a b ∙ (ap (λ (x : ℕ). behind heads x b) first.leaves ∙ second.leaves);
}
  where
    there : p ≡ at + length a
    there = let c = first.count in omega (arith, place, c)

    onwards : LeadInto (inside_or heads p h b more) (inside_or heads at height (a ++ b) more)
    onwards to k come = inside_rest heads at height p h a b more more to k there first.leaves (λ out. inr out) come

-- ---- rows

pub rows_more : (heads : Code) (low lower : ℕ) (outlets more : Outlets) (at from : ℕ) (is all : List Instr) (rows : List Handler) → lower ≤ low → ((to : ℕ) → inside_or heads at 0 is outlets to 0 → inside_or heads from 0 all more to 0) → AreRowsIn heads low outlets at is rows → AreRowsIn heads lower more from all rows
rows_more heads low lower outlets more at from is all [] less leads known = tt
rows_more heads low lower outlets more at from is all (row ∷ rows) less leads known =
    let r = known.0 in (
      record {
        from = let f = r.from in omega (arith, f, less);
        ordered = r.ordered;
        behind_range = r.behind_range;
        level = r.level;
        target = leads row.target r.target;
      },
      rows_more heads low lower outlets more at from is all rows less leads known.1,
    )

pub rows_both : (heads : Code) (low : ℕ) (outlets : Outlets) (at : ℕ) (is : List Instr) (some others : List Handler) → AreRowsIn heads low outlets at is some → AreRowsIn heads low outlets at is others → AreRowsIn heads low outlets at is (some ++ others)
rows_both heads low outlets at is [] others first second = second
rows_both heads low outlets at is (row ∷ some) others first second = (first.0, rows_both heads low outlets at is some others first.1 second)

-- ---- blocks

pub join_blocks : {heads : Code} {body : ℕ} {outlets others : Outlets} (more : Outlets) {at p n m size : ℕ} {a b : List Instr} {some rows : List Handler} → p ≡ at + n → size ≡ n + m
    → LeadInto outlets (inside_or heads p 0 b more) → LeadInto others (inside_or heads at 0 (a ++ b) more)
    → IsBlock heads body outlets at a some n → IsBlock heads body others p b rows m → IsBlock heads body more at (a ++ b) (some ++ rows) size
join_blocks {heads = heads} {body = body} {outlets = outlets} {others = others} more {at = at} {p = p} {n = n} {m = m} {size = size} {a = a} {b = b} {some = some} {rows = rows} place sum comes backs first second = record {
  closed = join_closed more place sum comes backs first.closed second.closed;
  handled =
      rows_both heads at more at (a ++ b) some rows
      (rows_more heads at at outlets more at at a (a ++ b) some (omega arith) (λ to come. inside_front heads at 0 a b outlets more to 0 (λ out. onwards to 0 (comes to 0 out)) come) first.handled)
      (rows_more heads p at others more p at b (a ++ b) rows (omega (arith, place)) (λ to come. inside_rest heads at 0 p 0 a b others more to 0 there first.closed.leaves (backs to 0) come) second.handled);
}
  where
    there : p ≡ at + length a
    there = let c = first.closed.count in omega (arith, place, c)

    onwards : LeadInto (inside_or heads p 0 b more) (inside_or heads at 0 (a ++ b) more)
    onwards to k come = inside_rest heads at 0 p 0 a b more more to k there first.closed.leaves (λ out. inr out) come

-- a block of whose outlets all lead out of more
pub wider : {heads : Code} {body : ℕ} {outlets : Outlets} (more : Outlets) {at n : ℕ} {is : List Instr} {rows : List Handler} → LeadInto outlets more → IsBlock heads body outlets at is rows n → IsBlock heads body more at is rows n
wider {heads = heads} {body = body} {outlets = outlets} more {at = at} {n = n} {is = is} {rows = rows} leads block = record {
  closed = record {
    moves = moves_more heads body _ _ none_led none_led at 0 is (λ to k come. outer to k come) (λ to led. led) block.closed.moves;
    entry = outer at 0 block.closed.entry;
    count = block.closed.count;
    leaves = block.closed.leaves;
  };
  handled = rows_more heads at at outlets more at at is is rows (omega arith) (λ to come. outer to 0 come) block.handled;
}
  where
    outer : LeadInto (inside_or heads at 0 is outlets) (inside_or heads at 0 is more)
    outer to k (inl meets) = inl meets
    outer to k (inr out) = inr (leads to k out)

-- ---- stretches are closed: the place behind them is an outlet

abbrev pub or_behind : Outlets → ℕ → ℕ → Outlets
or_behind outlets place height to k = outlets to k ⊎ ((to ≡ place) × (k ≡ height))

steps_move : (heads : Code) (body : ℕ) (outlets comes : Outlets) (led : Led) (at height : ℕ) (is : List Instr) → LeadInto (Lands heads at height is) comes → LeadInto outlets comes → AreSteps heads body outlets led at height is → AreMoves heads body comes led at height is
steps_move heads body outlets comes led at height [] lands out steps = tt
steps_move heads body outlets comes led at height (instr ∷ is) lands out steps =
    let s = steps.0 in (
      record {
        operands = s.operands;
        named = s.named;
        forward = s.forward;
        goes = λ on. lands (at + 1) h (lands_over heads at height (instr ∷ is) (at + 1) 1 h refl (omega arith) refl);
        jumps = λ to jump. leads to (subst (JumpsOn heads outlets (at + 1) h is) jump s.jumps);
        ended = s.ended;
      },
      steps_move heads body outlets comes (led_behind led instr) (at + 1) h is (λ to k come. lands to k (over to k come)) out steps.1,
    )
  where
    h : ℕ
    h = height_behind heads instr height

    over : LeadInto (Lands heads (at + 1) (height_behind heads instr height) is) (Lands heads at height (instr ∷ is))
    over to k come = lands_rest heads at height (at + 1) (height_behind heads instr height) (instr ∷ []) is to k (omega arith) refl come

    leads : (to : ℕ) → JumpsOn heads outlets (at + 1) (height_behind heads instr height) is (Some to) → comes to (height_behind heads instr height)
    leads to (inl come) = lands to (height_behind heads instr height) (over to (height_behind heads instr height) come)
    leads to (inr go) = out to (height_behind heads instr height) go

pub stretch_closed : {heads : Code} {body : ℕ} {outlets : Outlets} {at height : ℕ} {is : List Instr} {size next : ℕ} → IsStretch heads body outlets at height is size next → IsClosed heads body (or_behind outlets (at + size) next) at height is size next
stretch_closed {heads = heads} {body = body} {outlets = outlets} {at = at} {height = height} {is = is} {size = size} {next = next} stretch = record {
  moves = steps_move heads body outlets _ none_led at height is inside (λ to k out. inr (inl out)) stretch.steps;
  entry = inside at height (lands_over heads at height is at 0 height (omega arith) (omega arith) refl);
  count = stretch.count;
  leaves = stretch.leaves;
}
  where
    inside : LeadInto (Lands heads at height is) (inside_or heads at height is (or_behind outlets (at + size) next))
    inside to k come = elim (cases_lt to (at + length is)) [
      | inl less ↦ inl (record { from = come.from; until = less; same = come.same })
      | inr end ↦ (
          let u = come.until in
          let f = come.from in
          let c = stretch.count in
          let e : to - at ≡ length is = omega (arith, u, f, end) in
          let all : behind heads height (take (to - at) is) ≡ next = ap (λ (n : ℕ). behind heads height (take n is)) e ∙ (ap (behind heads height) (take_all is) ∙ stretch.leaves) in
          inr (inr (omega (arith, u, end, c), sym come.same ∙ all)))
    ]
