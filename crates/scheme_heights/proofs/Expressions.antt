-- The code of each expression is a stretch.
use Rattle.std.proofs.Common.{◌≡◌, ◌+◌, ℕ, zero, suc, Bool, true, false, List, [], ◌∷◌, ◌++◌, ℤ, length, refl, sym, ap, ◌∙◌, subst, arith, Option, Some, slice_get}
use Rattle.std.specs.Prelude.{if◌then◌else◌, option_map, nat_lt}
use Rattle.std.proofs.lemmas.List.{length-map}
use Rattle.std.proofs.lemmas.Option.{slice_get-map, slice_get_within}
use Rattle.modes.specs.declared.mode.Bounds.{Bounds}
use Rattle.code_types.specs.declared.instr.Instr.{Instr}
use Rattle.code_types.specs.declared.instr.Instr.TheVariants as i
use Rattle.code_types.specs.declared.code.Code.{Code}
use Rattle.code_types.specs.Places.{params_of, results_of}
use Rattle.program_trees.specs.ExprTree.{ExprTree, expr, OperationTree, constant, own_instance, contents, part_of, receive, start, call, powerset, parts, uniform, routine, get_int, prefixed, binary, ReceivedTree, received, ReceivedNodes, no_received, more_received, PartNodes, no_parts, field, element, RangeNodes, no_ranges, one_member, members, LocationTree, location, StartTree, started, CallTree, called, ArgumentNodes, no_arguments, in_argument, out_argument, inout_argument, count_of, received_count, location_count}
use Rattle.program_trees.specs.ProgramTree.{LocalRowTree, BodyRowTree, CheckedTree}
use Rattle.code_scheme.specs.Pieces.{Layout, pushes, copies_from, copies_code, check_code, tested, tested_in, bounds_of_value, prefix_code, routine_code, has_index, contents_code, offsets_kept, keep_code, kept_code, copies_out, kept_behind, lowest_in_row, lowest_as, rows_of}
use Rattle.code_scheme.proofs.Lemmas.{fitted_length}
use Rattle.code_scheme.specs.ExprSizes.{expr_size, operation_size, place_size, indices_size, received_size, received_sizes, members_size, start_size, call_size, arguments_size, copies_out_size}
use Rattle.code_scheme.specs.ExprCode.{counts_of, expr_code, operation_code, place_code, indices_code, received_code, received_codes, members_code, start_code, call_code, arguments_code}
use Rattle.code_scheme.specs.StatementSite.{parameter_scalars, call_results}
use Rattle.code_scheme.specs.BodyCode.{head_of, heads_of}
use Rattle.scheme_heights.specs.Stretches.{no_outlets, IsStretch}
use Rattle.scheme_heights.specs.Counts.{argument_scalars, copied_scalars, CountsFit, OperationFits, ReceivedFits, AllFit, PartsFit, PlaceFits, RangesFit, StartFits, CallFits, ArgumentsFit}
use Rattle.scheme_heights.specs.Laws.{ExpressionHeightsLaw}
use Rattle.scheme_heights.proofs.Joining.{join, same_stretch}
use Rattle.scheme_heights.proofs.Parts.{Stretch, resized, sized, end, cons, copies_code_stretch, scalars_stretch, pushes_stretch, tests_less, check_stretch, prefix_stretch, routine_stretch}
use Rattle.scheme_heights.proofs.Operators.{ends, binary_stretch}
use Rattle.scheme_heights.proofs.Locations.{contents_stretch, keep_stretch, kept_stretch, copies_out_stretch, place_stretch, cut_stretch}

-- the same stretch at a place and a height that are written otherwise
pub moved : {heads : Code} {body at at' height height' : ℕ} {is : List Instr} {size next : ℕ} → at ≡ at' → height ≡ height' → IsStretch heads body no_outlets at height is size next → Stretch heads body at' height' is next
moved {heads = heads} {body = body} {at = at} {at' = at'} {height = height} {height' = height'} {is = is} {size = size} {next = next} places heights stretch = resized (same_stretch heads body at at' height height' is size size next next places heights refl refl stretch)

copies_length : (k there elements n m : ℕ) → length (copies_from k there elements n) ≡ length (copies_from k there elements m)
copies_length zero there elements n m = refl
copies_length (suc k) there elements n m = if_length (nat_lt there elements) _ _ (ap suc (copies_length k _ elements n m))
  where
    if_length : (b : Bool) (x y : List Instr) → length x ≡ length y → length (if b then x else []) ≡ length (if b then y else [])
    if_length true x y same = same
    if_length false x y same = refl

-- the row of a body at calls of it
pub head_at : (p : CheckedTree) (k : ℕ) (b : BodyRowTree) → slice_get p.bodies k ≡ Some b → slice_get (heads_of p).bodies k ≡ Some (head_of b)
head_at p k b is = slice_get-map head_of p.bodies k ∙ ap (option_map head_of) is

-- a call, which takes its arguments and gives its results
call_stretch : (p : CheckedTree) (body at height k n : ℕ) (b : BodyRowTree) (as' : ArgumentNodes) (is : List Instr) (size : ℕ) → slice_get p.bodies k ≡ Some b → parameter_scalars b ≡ argument_scalars as' → call_results b ≡ n + copied_scalars as'
    → IsStretch (heads_of p) body no_outlets (at + 1) (height + n + copied_scalars as') is size (height + n)
    → IsStretch (heads_of p) body no_outlets at (height + argument_scalars as') (i.Call k ∷ is) (1 + size) (height + n)
call_stretch p body at height k n b as' is size there takes gives rest =
    let head = head_at p k b there in
    let params : params_of (slice_get (heads_of p).bodies k) ≡ argument_scalars as' = ap params_of head ∙ takes in
    let results : results_of (slice_get (heads_of p).bodies k) ≡ n + copied_scalars as' = ap results_of head ∙ gives in
    sized (1 + size) (let c = rest.count in omega (arith, c))
    (cons (omega (arith, params)) (slice_get_within (heads_of p).bodies k (head_of b) head) tt refl refl (moved refl (omega (arith, params, results)) rest))

mutual
  pub expr_stretch : (lay : Layout) (body free : ℕ) (e : ExprTree) → CountsFit lay.program e → (at height : ℕ) → IsStretch (heads_of lay.program) body no_outlets at height (expr_code lay free e at) (expr_size e) (height + count_of e)
  expr_stretch lay body free (expr n own o) fits at height = operation_stretch lay body free n o fits at height

  pub operation_stretch : (lay : Layout) (body free n : ℕ) (o : OperationTree) → OperationFits lay.program n o → (at height : ℕ) → IsStretch (heads_of lay.program) body no_outlets at height (operation_code lay free n o at) (operation_size o) (height + n)
  operation_stretch lay body free n (constant xs) fits at height =
      let count = fits.0 in
      let few = fits.1 in
      ends (ap (λ (k : ℕ). height + k) count) (scalars_stretch (heads_of lay.program) body at height xs (omega (arith, count, few)))
  operation_stretch lay body free n own_instance fits at height = sized 1 refl (cons (omega arith) tt tt refl refl (end (omega (arith, fits))))
  operation_stretch lay body free n (contents l) fits at height =
      join (heads_of lay.program) body at height (place_code lay free l at) (contents_code lay l) (place_size l) 1 (height + offsets_kept l) (height + n) (at + place_size l) _ refl refl (place_of_stretch lay body free l fits.0 at height)
      (ends (ap (λ (k : ℕ). height + k) fits.1) (contents_stretch (heads_of lay.program) body (at + place_size l) height lay l))
  operation_stretch lay body free n (part_of e ps) fits at height =
      join (heads_of lay.program) body at height (expr_code lay free e at) _ (expr_size e) _ (height + count_of e) (height + n) (at + expr_size e) _ refl refl (expr_stretch lay body free e fits.0 at height)
      (cut_stretch (heads_of lay.program) body (at + expr_size e) height lay free ps n (count_of e) (has_index ps) refl fits.2 (λ some. first_indices lay body free ps fits.1 some (at + expr_size e) (height + count_of e)))
  operation_stretch lay body free n (receive b) fits at height =
      sized 6 refl (cons (omega arith) tt tt refl refl (cons (omega arith) tt tt refl refl (cons (omega arith) tt tt refl refl (cons (omega arith) tt tt refl refl (cons (omega arith) tt tt refl refl (cons (omega arith) tt tt refl refl (end (omega arith))))))))
  operation_stretch lay body free n (start t) fits at height =
      let one' = fits.1 in
      ends (let e : height + 1 ≡ height + n = omega (arith, one') in e) (start_stretch lay body free t fits.0 at height)
  operation_stretch lay body free n (call c) fits at height = call_of_stretch lay body free n c fits at height
  operation_stretch lay body free n (powerset b rs) fits at height =
      let one' = fits.1 in
      let rest = members_stretch lay body free b rs fits.0 (at + 1) height in
      sized (1 + members_size rs) (let c = rest.count in omega (arith, c)) (cons (omega arith) tt tt refl refl (moved refl (omega arith) (ends (let e : height + 1 ≡ height + n = omega (arith, one') in e) rest)))
  operation_stretch lay body free n (parts rs) fits at height = ends (ap (λ (k : ℕ). height + k) fits.1) (all_stretch lay body free rs fits.0 at height)
  operation_stretch lay body free n (uniform m r) fits at height =
      let total = fits.3 in
      join (heads_of lay.program) body at height (received_code lay free r at) (copies_code m (received_count r)) (received_size r) (length (copies_code m 0)) (height + received_count r) (height + n) (at + received_size r) _ refl refl (received_stretch lay body free r fits.0 at height)
      (sized (length (copies_code m 0)) (copies_length 32 1 m (received_count r) 0) (ends (ap (λ (k : ℕ). height + k) total) (copies_code_stretch (heads_of lay.program) body (at + received_size r) height m (received_count r) fits.1 fits.2)))
  operation_stretch lay body free n (routine r e) fits at height =
      let one' = fits.1 in
      let all = fits.2 in
      join (heads_of lay.program) body at height (expr_code lay free e at) (routine_code r) (expr_size e) (length (routine_code r)) (height + 1) (height + n) (at + expr_size e) _ refl refl (ends (ap (λ (k : ℕ). height + k) one') (expr_stretch lay body free e fits.0 at height))
      (ends (let e : height + 1 ≡ height + n = omega (arith, all) in e) (routine_stretch (heads_of lay.program) body (at + expr_size e) height r))
  operation_stretch lay body free n get_int fits at height = sized 1 refl (cons (omega arith) tt tt refl refl (end (omega (arith, fits))))
  operation_stretch lay body free n (prefixed o e) fits at height =
      let one' = fits.1 in
      let all = fits.2 in
      join (heads_of lay.program) body at height (expr_code lay free e at) (prefix_code o) (expr_size e) 1 (height + 1) (height + n) (at + expr_size e) _ refl refl (ends (ap (λ (k : ℕ). height + k) one') (expr_stretch lay body free e fits.0 at height))
      (ends (let e : height + 1 ≡ height + n = omega (arith, all) in e) (prefix_stretch (heads_of lay.program) body (at + expr_size e) height o))
  operation_stretch lay body free n (binary o a b) fits at height =
      let one' = fits.3 in
      ends (let e : height + 1 ≡ height + n = omega (arith, one') in e)
      (binary_stretch (heads_of lay.program) body at height o (bounds_of_value a) (expr_code lay free a at) (expr_code lay free b) (expr_size a) (expr_size b) (count_of a) (count_of b) fits.2 (expr_stretch lay body free a fits.0 at height) (expr_stretch lay body free b fits.1))

  pub received_stretch : (lay : Layout) (body free : ℕ) (r : ReceivedTree) → ReceivedFits lay.program r → (at height : ℕ) → IsStretch (heads_of lay.program) body no_outlets at height (received_code lay free r at) (received_size r) (height + received_count r)
  received_stretch lay body free (received e b) fits at height =
      join (heads_of lay.program) body at height (expr_code lay free e at) (check_code (tested (received e b))) (expr_size e) (length (check_code (tested (received e b)))) (height + count_of e) (height + count_of e) (at + expr_size e) _ refl refl (expr_stretch lay body free e fits.0 at height)
      (check_stretch (heads_of lay.program) body (at + expr_size e) (height + count_of e) (tested (received e b)) (count_of e) (tests_less b (bounds_of_value e) (count_of e) fits.1) (omega arith))

  pub all_stretch : (lay : Layout) (body free : ℕ) (rs : ReceivedNodes) → AllFit lay.program rs → (at height : ℕ) → IsStretch (heads_of lay.program) body no_outlets at height (received_codes lay free rs at) (received_sizes rs) (height + counts_of rs)
  all_stretch lay body free no_received fits at height = sized 0 refl (end (omega arith))
  all_stretch lay body free (more_received r rs) fits at height =
      join (heads_of lay.program) body at height (received_code lay free r at) (received_codes lay free rs (at + received_size r)) (received_size r) (received_sizes rs) (height + received_count r) (height + (received_count r + counts_of rs)) (at + received_size r) _ refl refl (received_stretch lay body free r fits.0 at height)
      (ends (omega arith) (all_stretch lay body free rs fits.1 (at + received_size r) (height + received_count r)))

  -- the indices of a place: the first one is left as an offset, and each other is added
  pub first_indices : (lay : Layout) (body free : ℕ) (ps : PartNodes) → PartsFit lay.program ps → has_index ps ≡ true → (at height : ℕ) → IsStretch (heads_of lay.program) body no_outlets at height (indices_code lay free true ps at) (indices_size true ps) (height + 1)
  first_indices lay body free no_parts fits some at height = absurd (let f : ⊥ = cc in f)
  first_indices lay body free (field k count ps) fits some at height = first_indices lay body free ps fits some at height
  first_indices lay body free (element e b count ps) fits some at height =
      let one' = fits.1 in
      let rest = other_indices lay body free ps fits.2 (at + expr_size e + (1 + 0)) height in
      join (heads_of lay.program) body at height (expr_code lay free e at) _ (expr_size e) (1 + indices_size false ps) (height + 1) (height + 1) (at + expr_size e) _ refl (omega arith) (ends (ap (λ (k : ℕ). height + k) one') (expr_stretch lay body free e fits.0 at height))
      (sized (1 + indices_size false ps) (let c = rest.count in omega (arith, c)) (cons (omega arith) tt tt refl refl (moved (omega arith) (omega arith) rest)))

  other_indices : (lay : Layout) (body free : ℕ) (ps : PartNodes) → PartsFit lay.program ps → (at height : ℕ) → IsStretch (heads_of lay.program) body no_outlets at (height + 1) (indices_code lay free false ps at) (indices_size false ps) (height + 1)
  other_indices lay body free no_parts fits at height = sized 0 refl (end refl)
  other_indices lay body free (field k count ps) fits at height = other_indices lay body free ps fits at height
  other_indices lay body free (element e b count ps) fits at height =
      let one' = fits.1 in
      let rest = other_indices lay body free ps fits.2 (at + expr_size e + (1 + 1)) height in
      join (heads_of lay.program) body at (height + 1) (expr_code lay free e at) _ (expr_size e) (1 + (1 + indices_size false ps)) (height + 1 + 1) (height + 1) (at + expr_size e) _ refl refl (ends (ap (λ (k : ℕ). height + 1 + k) one') (expr_stretch lay body free e fits.0 at (height + 1)))
      (sized (1 + (1 + indices_size false ps)) (let c = rest.count in omega (arith, c)) (cons (omega arith) tt tt refl refl (cons (omega arith) tt tt refl refl (moved (omega arith) (omega arith) rest))))

  pub place_of_stretch : (lay : Layout) (body free : ℕ) (l : LocationTree) → PlaceFits lay.program l → (at height : ℕ) → IsStretch (heads_of lay.program) body no_outlets at height (place_code lay free l at) (place_size l) (height + offsets_kept l)
  place_of_stretch lay body free (location b ps n) fits at height =
      place_stretch (heads_of lay.program) body at height lay free b ps n (has_index ps) refl (λ some. first_indices lay body free ps fits some at height)

  members_stretch : (lay : Layout) (body free : ℕ) (b : Bounds) (rs : RangeNodes) → RangesFit lay.program rs → (at height : ℕ) → IsStretch (heads_of lay.program) body no_outlets at (height + 1) (members_code lay free b rs at) (members_size rs) (height + 1)
  members_stretch lay body free b no_ranges fits at height = sized 0 refl (end refl)
  members_stretch lay body free b (one_member e rs) fits at height =
      let one' = fits.1 in
      let rest = members_stretch lay body free b rs fits.2 (at + expr_size e + 4) height in
      join (heads_of lay.program) body at (height + 1) (expr_code lay free e at) _ (expr_size e) (4 + members_size rs) (height + 1 + 1) (height + 1) (at + expr_size e) _ refl refl (ends (ap (λ (k : ℕ). height + 1 + k) one') (expr_stretch lay body free e fits.0 at (height + 1)))
      (sized (4 + members_size rs) (let c = rest.count in omega (arith, c))
      (cons (omega arith) tt tt refl refl (cons (omega arith) tt tt refl refl (cons (omega arith) tt tt refl refl (cons (omega arith) tt tt refl refl (moved (omega arith) (omega arith) rest))))))
  members_stretch lay body free b (members e f rs) fits at height =
      let one' = fits.1 in
      let two' = fits.3 in
      let p = at + expr_size e in
      let q = p + 1 + expr_size f in
      let rest = members_stretch lay body free b rs fits.4 (q + 3) height in
      let behind : IsStretch (heads_of lay.program) body no_outlets q (height + 1 + 1 + 1) (i.Index b.low b.high 1 ∷ i.Span ∷ i.BitOr ∷ members_code lay free b rs (q + 3)) (3 + members_size rs) (height + 1) = sized (3 + members_size rs) (let c = rest.count in omega (arith, c)) (cons (omega arith) tt tt refl refl (cons (omega arith) tt tt refl refl (cons (omega arith) tt tt refl refl (moved (omega arith) (omega arith) rest)))) in
      let second : IsStretch (heads_of lay.program) body no_outlets (p + 1) (height + 1 + 1) (expr_code lay free f (p + 1) ++ (i.Index b.low b.high 1 ∷ i.Span ∷ i.BitOr ∷ members_code lay free b rs (q + 3))) (expr_size f + (3 + members_size rs)) (height + 1) = join (heads_of lay.program) body (p + 1) (height + 1 + 1) (expr_code lay free f (p + 1)) _ (expr_size f) (3 + members_size rs) (height + 1 + 1 + 1) (height + 1) q (expr_size f + (3 + members_size rs)) refl refl (ends (ap (λ (k : ℕ). height + 1 + 1 + k) two') (expr_stretch lay body free f fits.2 (p + 1) (height + 1 + 1))) behind in
      join (heads_of lay.program) body at (height + 1) (expr_code lay free e at) _ (expr_size e) (1 + (expr_size f + (3 + members_size rs))) (height + 1 + 1) (height + 1) p _ refl refl (ends (ap (λ (k : ℕ). height + 1 + k) one') (expr_stretch lay body free e fits.0 at (height + 1)))
      (sized (1 + (expr_size f + (3 + members_size rs))) (let c = second.count in omega (arith, c)) (cons (omega arith) tt tt refl refl (moved refl (omega arith) second)))

  pub start_stretch : (lay : Layout) (body free : ℕ) (t : StartTree) → StartFits lay.program t → (at height : ℕ) → IsStretch (heads_of lay.program) body no_outlets at height (start_code lay free t at) (start_size t) (height + 1)
  start_stretch lay body free (started k rs) fits at height =
      let low = fits.0 in
      let bodies = length-map lay.program.bodies head_of in
      join (heads_of lay.program) body at height (received_codes lay free rs at) (i.Start k (counts_of rs) ∷ []) (received_sizes rs) 1 (height + counts_of rs) (height + 1) (at + received_sizes rs) _ refl refl (all_stretch lay body free rs fits.1 at height)
      (sized 1 refl (cons (omega arith) (omega (arith, low, bodies)) tt refl refl (end (omega arith))))

  pub call_of_stretch : (lay : Layout) (body free n : ℕ) (t : CallTree) → CallFits lay.program n t → (at height : ℕ) → IsStretch (heads_of lay.program) body no_outlets at height (call_code lay free t at) (call_size t) (height + n)
  call_of_stretch lay body free n (called k as') fits at height =
      let rows : List LocalRowTree = rows_of (slice_get lay.program.bodies k) in
      let fit : ArgumentsFit lay.program rows 0 as' = subst (λ (o : Option BodyRowTree). ArgumentsFit lay.program (rows_of o) 0 as') (sym fits.1) fits.2 in
      let p = at + arguments_size as' in
      join (heads_of lay.program) body at height (arguments_code lay rows 0 free as' at) _ (arguments_size as') (1 + copies_out_size as') (height + argument_scalars as') (height + n) p _ refl refl (arguments_stretch lay body rows 0 free as' fit at height)
      (call_stretch lay.program body p height k n fits.0 as' (copies_out lay as' free (kept_behind as' free)) (copies_out_size as') fits.1 fits.3 fits.4
      (copies_out_stretch (heads_of lay.program) body (p + 1) (height + n) lay lay.program rows 0 as' free (kept_behind as' free) fit))

  arguments_stretch : (lay : Layout) (body : ℕ) (rows : List LocalRowTree) (k kept : ℕ) (as' : ArgumentNodes) → ArgumentsFit lay.program rows k as' → (at height : ℕ) → IsStretch (heads_of lay.program) body no_outlets at height (arguments_code lay rows k kept as' at) (arguments_size as') (height + argument_scalars as')
  arguments_stretch lay body rows k kept no_arguments fits at height = sized 0 refl (end (omega arith))
  arguments_stretch lay body rows k kept (in_argument r as') fits at height =
      join (heads_of lay.program) body at height (received_code lay kept r at) _ (received_size r) (arguments_size as') (height + received_count r) (height + (received_count r + argument_scalars as')) (at + received_size r) _ refl refl (received_stretch lay body kept r fits.0 at height)
      (ends (omega arith) (arguments_stretch lay body rows (k + 1) kept as' fits.1 (at + received_size r) (height + received_count r)))
  arguments_stretch lay body rows k kept (out_argument (location b ps n) bounds as') fits at height =
      let l : LocationTree = location b ps n in
      let o = offsets_kept l in
      let p = at + place_size l in
      let q = p + o in
      let values : List ℤ = lowest_as n (slice_get rows k) in
      let many : length values ≡ n = fitted_length n (lowest_in_row (slice_get rows k)) in
      let lowest = sized n (length-map values i.Push ∙ many) (ends (ap (λ (x : ℕ). height + x) many) (pushes_stretch (heads_of lay.program) body q height values)) in
      let behind = join (heads_of lay.program) body p (height + o) (keep_code l kept) (pushes values) o n height (height + n) q (o + n) refl refl (keep_stretch (heads_of lay.program) body p height l kept) lowest in
      let first = join (heads_of lay.program) body at height (place_code lay kept l at) _ (place_size l) (o + n) (height + o) (height + n) p (place_size l + (o + n)) refl refl (place_stretch (heads_of lay.program) body at height lay kept b ps n (has_index ps) refl (λ some. first_indices lay body kept ps fits.0 some at height)) behind in
      join (heads_of lay.program) body at height _ _ (place_size l + (o + n)) (arguments_size as') (height + n) (height + (n + argument_scalars as')) (at + (place_size l + (o + n))) _ refl refl first
      (ends (omega arith) (arguments_stretch lay body rows (k + 1) (kept + o) as' fits.3 (at + (place_size l + (o + n))) (height + n)))
  arguments_stretch lay body rows k kept (inout_argument l t bounds as') fits at height =
      let o = offsets_kept l in
      let n = location_count l in
      let test = check_code (tested_in t bounds) in
      let c = length test in
      let p = at + place_size l in
      let q = p + o in
      let r = q + o in
      let s = r + 1 in
      let checked = check_stretch (heads_of lay.program) body s (height + n) (tested_in t bounds) n (tests_less t bounds n fits.1) (omega arith) in
      let third = join (heads_of lay.program) body r (height + o) (contents_code lay l) test 1 c (height + n) (height + n) s (1 + c) refl refl (contents_stretch (heads_of lay.program) body r height lay l) checked in
      let second = join (heads_of lay.program) body q height (kept_code l kept) _ o (1 + c) (height + o) (height + n) r (o + (1 + c)) refl refl (kept_stretch (heads_of lay.program) body q height l kept) third in
      let behind = join (heads_of lay.program) body p (height + o) (keep_code l kept) _ o (o + (1 + c)) height (height + n) q (o + (o + (1 + c))) refl refl (keep_stretch (heads_of lay.program) body p height l kept) second in
      let first = join (heads_of lay.program) body at height (place_code lay kept l at) _ (place_size l) (o + (o + (1 + c))) (height + o) (height + n) p (place_size l + (o + (o + (1 + c)))) refl refl (place_of_stretch lay body kept l fits.0 at height) behind in
      join (heads_of lay.program) body at height _ _ (place_size l + (o + (o + (1 + c)))) (arguments_size as') (height + n) (height + (n + argument_scalars as')) (at + (place_size l + (o + (o + (1 + c))))) _ refl refl first
      (ends (omega arith) (arguments_stretch lay body rows (k + 1) (kept + o) as' fits.3 (at + (place_size l + (o + (o + (1 + c))))) (height + n)))

pub expression_heights_law : ExpressionHeightsLaw
expression_heights_law lay body free e at height fits = expr_stretch lay body free e fits at height
