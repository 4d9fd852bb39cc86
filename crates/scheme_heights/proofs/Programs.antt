-- The code of a program whose numbers of scalars fit agrees.
use Rattle.std.proofs.Common.{◌≡◌, ◌+◌, ◌≤◌, ◌<◌, ℕ, zero, suc, false, List, [], ◌∷◌, length, take, refl, sym, ap, ◌∙◌, subst, inl, inr, arith, Option, Some, slice_get}
use Rattle.std.specs.Prelude.{IsSomeAnd}
use Rattle.code_types.specs.declared.instr.Instr.{Instr}
use Rattle.code_types.specs.declared.instr.Instr.TheVariants as i
use Rattle.code_types.specs.declared.code.Code.{Code}
use Rattle.code_types.specs.declared.code.Handler.{Handler}
use Rattle.code_types.specs.declared.code.BodyRow.{BodyRow}
use Rattle.code_types.specs.Places.{first_of, pops, finds, height_after, is_last, jump_of}
use Rattle.code_types.specs.Agreement.{StandsIn, BodiesRise, HoldsParams, IsNamed, StaysInBody, LeadsForward, HandlesInOneBody, HasHeight, LeadsTo, IsUnled, EndsThere, Agrees}
use Rattle.program_trees.specs.ProgramTree.{BodyRowTree, CheckedTree}
use Rattle.code_scheme.specs.StatementSite.{first_free}
use Rattle.code_scheme.specs.BodyCode.{height_behind, heads_of, locals_named, site_in, body_code, body_handlers, body_row, bodies_code, bodies_handlers, body_rows, code_of}
use Rattle.scheme_heights.specs.Stretches.{behind, none_led}
use Rattle.scheme_heights.specs.Closed.{Meets, inside_or, IsRowIn, leads_out}
use Rattle.scheme_heights.specs.StatementCounts.{ProgramFits}
use Rattle.scheme_heights.proofs.Located.{item_there, item_below, Located, locate, Owned, own, OwnedRow, own_row, rows_length, all_heights_length}
use Rattle.scheme_heights.proofs.Agreeing.{AlikeAtCalls, GoesFurther, Inside, alike, behind_next, block_at, bool_cases, code_at, each, end_known, goes_further, greatest_there, has_height, height_of, heights_of, inside, jumps_further, led_there, locals_more, locals_there, move_at, move_of, names_known, pops_found, row_at, same_finds, same_height, stays, taken_scalars}

-- ---- that it agrees

rises : (p : CheckedTree) → ProgramFits p → BodiesRise (code_of p)
rises p fits = record { begin = begin (locate p p.bodies 0 0 fits.some); rise = rise; inside = each (λ row. row.first < length (bodies_code p p.bodies 0)) (body_rows p p.bodies 0) (λ k row is. within k row is (locate p p.bodies 0 k (below k row is))) }
  where
    below : (k : ℕ) (row : BodyRow) → slice_get (body_rows p p.bodies 0) k ≡ Some row → k < length p.bodies
    below k row is = let low = item_below (body_rows p p.bodies 0) k row is in let many = rows_length p p.bodies 0 in omega (arith, low, many)

    some : (body : ℕ) (b : BodyRowTree) (located : Located p p.bodies 0 body b) → 0 < length (code_at p body b located)
    some body b located =
        let block = block_at p body b fits located in
        let first = stays (heads_of p) located.first (code_at p body b located) located.first 0 block.closed.entry in
        let u = first.until in
        omega (arith, u)

    begin : (b : BodyRowTree) × Located p p.bodies 0 0 b → IsSomeAnd (slice_get (body_rows p p.bodies 0) 0) (λ row. row.first ≡ 0)
    begin found = subst (λ (o : Option BodyRow). IsSomeAnd o (λ row. row.first ≡ 0)) (sym (first_row p p.bodies (let low = item_below p.bodies 0 found.0 (let l = found.1 in l.is_body) in low)).1) refl
      where
        first_row : (p : CheckedTree) (bs : List BodyRowTree) → 0 < length bs → (b : BodyRowTree) × (slice_get (body_rows p bs 0) 0 ≡ Some (body_row (site_in p b) 0))
        first_row p [] low = absurd (let f : ⊥ = omega (arith, low) in f)
        first_row p (b ∷ bs) low = (b, refl)

    rise : (body : ℕ) (row next : BodyRow) → slice_get (body_rows p p.bodies 0) body ≡ Some row → slice_get (body_rows p p.bodies 0) (body + 1) ≡ Some next → row.first < next.first
    rise body row next is is_next =
        let found = locate p p.bodies 0 body (below body row is) in
        let located = found.1 in
        let row_is : body_row (site_in p found.0) located.first ≡ row = (let a = located.row in cc) in
        let end : next.first ≡ located.first + length (code_at p body found.0 located) = ap (λ (o : Option BodyRow). first_of o (length (bodies_code p p.bodies 0))) (sym is_next) ∙ end_known p body found.0 located in
        let more = some body found.0 located in
        subst (λ (r : BodyRow). r.first < next.first) row_is (omega (arith, end, more))

    within : (k : ℕ) (row : BodyRow) → slice_get (body_rows p p.bodies 0) k ≡ Some row → (b : BodyRowTree) × Located p p.bodies 0 k b → row.first < length (bodies_code p p.bodies 0)
    within k row is found =
        let located = found.1 in
        let row_is : body_row (site_in p found.0) located.first ≡ row = (let a = located.row in cc) in
        let begins = located.begins in
        let all = located.inside in
        let more = some k found.0 located in
        subst (λ (r : BodyRow). r.first < length (bodies_code p p.bodies 0)) row_is (omega (arith, begins, all, more))

holds_params : (p : CheckedTree) (k : ℕ) (row : BodyRow) → slice_get (body_rows p p.bodies 0) k ≡ Some row → HoldsParams row
holds_params p k row is =
    let low = item_below (body_rows p p.bodies 0) k row is in
    let many = rows_length p p.bodies 0 in
    let found = locate p p.bodies 0 k (omega (arith, low, many)) in
    let located = found.1 in
    let b = found.0 in
    let row_is : body_row (site_in p b) located.first ≡ row = (let a = located.row in cc) in
    let more = locals_more (first_free b) (body_code (site_in p b) located.first) in
    let some = taken_scalars (length b.parameters) b.locals in
    subst HoldsParams row_is (omega (arith, more, some))

-- a place to which control comes from an instruction
comes_to : (p : CheckedTree) (body : ℕ) (row : BodyRow) (place : ℕ) (instr : Instr) → ProgramFits p → (it : Inside p body row place instr) (to : ℕ) → LeadsTo place instr to → Meets (heads_of p) it.located.first 0 (body_code (site_in p it.b) it.located.first) to (height_behind (heads_of p) instr (behind (heads_of p) 0 (take it.number (body_code (site_in p it.b) it.located.first))))
comes_to p body row place instr fits it to (inl on) =
    let move = move_of p body row place instr fits it in
    let code = body_code (site_in p it.b) it.located.first in
    let h = height_behind (heads_of p) instr (behind (heads_of p) 0 (take it.number code)) in
    let here = it.here in
    let next = on.1 in
    subst (λ (x : ℕ). Meets (heads_of p) it.located.first 0 code x h) (let e : it.located.first + it.number + 1 ≡ to = omega (arith, here, next) in e) (stays (heads_of p) it.located.first code (it.located.first + it.number + 1) h (move.goes on.0))
comes_to p body row place instr fits it to (inr jump) =
    let move = move_of p body row place instr fits it in
    let code = body_code (site_in p it.b) it.located.first in
    stays (heads_of p) it.located.first code to (height_behind (heads_of p) instr (behind (heads_of p) 0 (take it.number code))) (move.jumps to jump)

leads_further : (place : ℕ) (instr : Instr) (to : ℕ) → LeadsTo place instr to → GoesFurther instr
leads_further place instr to (inl on) = goes_further instr on.0
leads_further place instr to (inr jump) = jumps_further instr to jump

again_height : (heads : Code) (instr : Instr) (to height : ℕ) → instr ≡ i.Again to → height_behind heads instr height ≡ height
again_height heads instr to height is = ap (λ (x : Instr). height_behind heads x height) is ∙ (omega arith)

-- what a place has that nothing leads to
unled_height : (p : CheckedTree) → ProgramFits p → (place : ℕ) → IsUnled (code_of p) place → Owned p p.bodies 0 place → HasHeight (heights_of p) place 0
unled_height p fits place unled owned = at_number owned.number refl
  where
    located : Located p p.bodies 0 owned.body owned.b
    located = owned.located

    code : List Instr
    code = code_at p owned.body owned.b located

    level : (n : ℕ) → n ≡ owned.number → behind (heads_of p) 0 (take n code) ≡ 0 → HasHeight (heights_of p) place 0
    level n is none =
        let there = owned.here in
        ap (slice_get (heights_of p)) there ∙ (located.heights owned.number owned.below ∙ ap Some (subst (λ (k : ℕ). behind (heads_of p) 0 (take k code) ≡ 0) is none))

    -- the instruction before it
    before : (n : ℕ) → suc n ≡ owned.number → (instr : Instr) × (slice_get code n ≡ Some instr)
    before n is = let low = owned.below in item_there code n (omega (arith, is, low))

    behind_it : (n : ℕ) (instr : Instr) → slice_get code n ≡ Some instr → behind (heads_of p) 0 (take (suc n) code) ≡ height_behind (heads_of p) instr (behind (heads_of p) 0 (take n code))
    behind_it n instr is = behind_next (heads_of p) 0 code n instr is

    placed : (n : ℕ) (instr : Instr) → n < owned.number → slice_get code n ≡ Some instr → slice_get (bodies_code p p.bodies 0) (located.skip + n) ≡ Some instr
    placed n instr low is = let below = owned.below in located.instrs n (omega (arith, low, below)) ∙ is

    at_number : (n : ℕ) → n ≡ owned.number → HasHeight (heights_of p) place 0
    at_number zero is = level zero is refl
    at_number (suc n) is = level (suc n) is (none (before n is))
      where
        none : (instr : Instr) × (slice_get code n ≡ Some instr) → behind (heads_of p) 0 (take (suc n) code) ≡ 0
        none found =
            let instr = found.0 in
            let block = block_at p owned.body owned.b fits located in
            let move = move_at (heads_of p) owned.body (inside_or (heads_of p) located.first 0 code (leads_out false 0 [])) none_led located.first 0 code n instr block.closed.moves found.1 in
            let there = owned.here in
            let begins = located.begins in
            elim (bool_cases (is_last instr)) [
              | inl last ↦ elim (move.ended last) [
                | inl led ↦ absurd (elim led [
                  | inl earlier ↦ elim (led_there none_led code n (located.first + n + 1) earlier) [
                    | inl nowhere ↦ nowhere
                    | inr jumps ↦ (
                        let early = jumps.early in
                        unled (located.skip + jumps.number) jumps.instr (omega (arith, early, there, is)) (placed jumps.number jumps.instr (omega (arith, early, is)) jumps.is_instr)
                        (inr (jumps.jumps ∙ ap Some (let e : located.first + n + 1 ≡ place = omega (arith, there, is, begins) in e))))
                  ]
                  | inr jump ↦ unled (located.skip + n) instr (omega (arith, there, is)) (placed n instr (omega (arith, is)) found.1) (inr (jump ∙ ap Some (let e : located.first + n + 1 ≡ place = omega (arith, there, is, begins) in e)))
                ])
                | inr empty ↦ behind_it n instr found.1 ∙ empty
              ]
              | inr on ↦ absurd (unled (located.skip + n) instr (omega (arith, there, is)) (placed n instr (omega (arith, is)) found.1) (inl (on, omega (arith, there, is))))
            ]

pub program_agrees : (p : CheckedTree) → ProgramFits p → Agrees (code_of p)
program_agrees p fits = record {
  bodies = rises p fits;
  params = each HoldsParams (body_rows p p.bodies 0) (holds_params p);
  named = named;
  jumps = jumps;
  forward = forward;
  handlers = each (HandlesInOneBody (code_of p)) (bodies_handlers p p.bodies 0) (λ k row is. handles row (own_row p p.bodies 0 k row is));
  ends = ends;
  heights = heights_of p;
  are_heights = record {
    count = all_heights_length p p.bodies 0;
    begin = each (λ row. HasHeight (heights_of p) row.first 0) (body_rows p p.bodies 0) begins;
    left = left;
    targets = each (λ row. HasHeight (heights_of p) row.target row.height) (bodies_handlers p p.bodies 0) (λ k row is. target row (own_row p p.bodies 0 k row is));
    others = λ place low first unled last. unled_height p fits place unled (own p p.bodies 0 place low);
    again = again;
    operands = operands;
    handled = each (λ handler. (body : ℕ) (row : BodyRow) (place : ℕ) (instr : Instr) → StandsIn (code_of p) body row place instr → (height : ℕ) → handler.from ≤ place → place < handler.until → HasHeight (heights_of p) place height → handler.height + pops (code_of p) body instr ≤ height) (bodies_handlers p p.bodies 0) (λ k row is. handled row (own_row p p.bodies 0 k row is));
  };
}
  where
    same : AlikeAtCalls (code_of p) (heads_of p)
    same = alike p fits

    named : (body : ℕ) (row : BodyRow) (place : ℕ) (instr : Instr) → StandsIn (code_of p) body row place instr → IsNamed (code_of p) row instr
    named body row place instr stands =
        let it = inside p body row place instr stands in
        let move = move_of p body row place instr fits it in
        let low = locals_there (first_free it.b) (body_code (site_in p it.b) it.located.first) it.number instr it.is_instr in
        names_known (code_of p) (heads_of p) row instr same (subst (λ (r : BodyRow). locals_named instr ≤ r.locals) it.row_is low) move.named

    jumps : (body : ℕ) (row : BodyRow) (place : ℕ) (instr : Instr) → StandsIn (code_of p) body row place instr → StaysInBody (code_of p) body row instr
    jumps body row place instr stands to jump =
        let it = inside p body row place instr stands in
        let meets = comes_to p body row place instr fits it to (inr jump) in
        let from = meets.from in
        let until = meets.until in
        let end = it.end_is in
        (subst (λ (r : BodyRow). r.first ≤ to) it.row_is from, omega (arith, until, end))

    forward : (body : ℕ) (row : BodyRow) (place : ℕ) (instr : Instr) → StandsIn (code_of p) body row place instr → LeadsForward place instr
    forward body row place instr stands =
        let it = inside p body row place instr stands in
        let move = move_of p body row place instr fits it in
        subst (λ (x : ℕ). LeadsForward x instr) (sym it.here) move.forward

    row_of : (row : Handler) (owned : OwnedRow p p.bodies 0 row) → IsRowIn (heads_of p) owned.located.first (leads_out false 0 []) owned.located.first (code_at p owned.body owned.b owned.located) row
    row_of row owned =
        let block = block_at p owned.body owned.b fits owned.located in
        row_at (heads_of p) owned.located.first (leads_out false 0 []) owned.located.first (code_at p owned.body owned.b owned.located) (body_handlers (site_in p owned.b) owned.located.first) owned.number row block.handled owned.is_row

    meets_of : (row : Handler) (owned : OwnedRow p p.bodies 0 row) → Meets (heads_of p) owned.located.first 0 (code_at p owned.body owned.b owned.located) row.target 0
    meets_of row owned = let known = row_of row owned in stays (heads_of p) owned.located.first (code_at p owned.body owned.b owned.located) row.target 0 known.target

    handles : (row : Handler) → OwnedRow p p.bodies 0 row → HandlesInOneBody (code_of p) row
    handles row owned =
        let known = row_of row owned in
        let meets = meets_of row owned in
        let until = meets.until in
        let end = end_known p owned.body owned.b owned.located in (
          owned.body,
          record { row = body_row (site_in p owned.b) owned.located.first; is_body = (let l = owned.located in l.row); from = known.from; ordered = known.ordered; behind = known.behind_range; until = omega (arith, until, end) },
        )

    ends : (body : ℕ) (row : BodyRow) (place : ℕ) (instr : Instr) → StandsIn (code_of p) body row place instr → EndsThere (code_of p) body place instr
    ends body row place instr stands last =
        let it = inside p body row place instr stands in
        elim (bool_cases (is_last instr)) [
          | inl is ↦ is
          | inr on ↦ (
              let meets = comes_to p body row place instr fits it (place + 1) (inl (on, refl)) in
              let until = meets.until in
              let end = it.end_is in
              absurd (let f : ⊥ = omega (arith, until, end, last) in f))
        ]

    begins : (k : ℕ) (row : BodyRow) → slice_get (body_rows p p.bodies 0) k ≡ Some row → HasHeight (heights_of p) row.first 0
    begins k row is =
        let low = item_below (body_rows p p.bodies 0) k row is in
        let many = rows_length p p.bodies 0 in
        let found = locate p p.bodies 0 k (omega (arith, low, many)) in
        let located = found.1 in
        let block = block_at p k found.0 fits located in
        let row_is : body_row (site_in p found.0) located.first ≡ row = (let a = located.row in cc) in
        subst (λ (r : BodyRow). HasHeight (heights_of p) r.first 0) row_is (has_height p k found.0 located located.first 0 (stays (heads_of p) located.first (code_at p k found.0 located) located.first 0 block.closed.entry))

    left : (body : ℕ) (row : BodyRow) (place : ℕ) (instr : Instr) → StandsIn (code_of p) body row place instr → (to height : ℕ) → place < to → LeadsTo place instr to → HasHeight (heights_of p) place height → HasHeight (heights_of p) to (height_after (code_of p) body instr height)
    left body row place instr stands to height low leads has =
        let it = inside p body row place instr stands in
        let is = height_of p body row place instr it height has in
        let there = has_height p body it.b it.located to _ (comes_to p body row place instr fits it to leads) in
        there ∙ ap Some (ap (height_behind (heads_of p) instr) is ∙ sym (same_height (code_of p) (heads_of p) body height instr same (leads_further place instr to leads)))

    target : (row : Handler) → OwnedRow p p.bodies 0 row → HasHeight (heights_of p) row.target row.height
    target row owned =
        let known = row_of row owned in
        has_height p owned.body owned.b owned.located row.target 0 (meets_of row owned) ∙ ap Some (sym known.level)

    again : (body : ℕ) (row : BodyRow) (place : ℕ) (instr : Instr) → StandsIn (code_of p) body row place instr → (to height : ℕ) → instr ≡ i.Again to → HasHeight (heights_of p) place height → HasHeight (heights_of p) to height
    again body row place instr stands to height is has =
        let it = inside p body row place instr stands in
        let level = height_of p body row place instr it height has in
        let jump : jump_of instr ≡ Some to = ap jump_of is in
        let there = has_height p body it.b it.located to _ (comes_to p body row place instr fits it to (inr jump)) in
        there ∙ ap Some (again_height (heads_of p) instr to _ is ∙ level)

    operands : (body : ℕ) (row : BodyRow) (place : ℕ) (instr : Instr) → StandsIn (code_of p) body row place instr → (height : ℕ) → HasHeight (heights_of p) place height → (finds (code_of p) body instr ≤ height) × (height ≤ row.height)
    operands body row place instr stands height has =
        let it = inside p body row place instr stands in
        let is = height_of p body row place instr it height has in
        let move = move_of p body row place instr fits it in
        let found = move.operands in
        let takes = same_finds (code_of p) (heads_of p) body instr same in
        let most = greatest_there (heads_of p) 0 0 (body_code (site_in p it.b) it.located.first) it.number (omega arith) in
        (omega (arith, found, takes, is), subst (λ (r : BodyRow). height ≤ r.height) it.row_is (omega (arith, most, is)))

    handled : (handler : Handler) → OwnedRow p p.bodies 0 handler → (body : ℕ) (row : BodyRow) (place : ℕ) (instr : Instr) → StandsIn (code_of p) body row place instr → (height : ℕ) → handler.from ≤ place → place < handler.until → HasHeight (heights_of p) place height → handler.height + pops (code_of p) body instr ≤ height
    handled handler owned body row place instr stands height from until has =
        let known = row_of handler owned in
        let level = known.level in
        let all = operands body row place instr stands height has in
        let low = all.0 in
        let less = pops_found (code_of p) body instr in
        omega (arith, level, low, less)
