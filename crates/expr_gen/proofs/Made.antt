-- What is appended for each expression, part after part.
use Rattle.std.proofs.Common.{◌≡◌, ℕ, ◌+◌, Bool, true, false, List, ◌∷◌, ◌++◌, pos, length, refl, sym, ap, subst, ◌∙◌, arith, append_assoc, if◌then◌else◌, ◌&&◌, not, ◌<◌, ◌≤◌, get_or, drop}
use Rattle.code_types.specs.declared.code.Code.{Code}
use Rattle.code_types.specs.declared.instr.Instr.{Instr}
use Rattle.code_types.specs.declared.instr.Instr.TheVariants as i
use Rattle.modes.specs.declared.mode.Bounds.{Bounds}
use Rattle.modes.specs.ModeTree.{class_tree}
use Rattle.checked_program.specs.declared.expr.Binary.{Binary}
use Rattle.checked_program.specs.declared.expr.Expr.{Expr, out-Expr}
use Rattle.checked_program.specs.declared.expr.Argument.{Argument}
use Rattle.checked_program.specs.declared.expr.Part.{Part}
use Rattle.checked_program.specs.declared.expr.Range.{Range}
use Rattle.checked_program.specs.declared.expr.Received.{Received}
use Rattle.program_trees.specs.ExprTree.{ExprTree, expr, OperationTree, part_of, binary, ReceivedTree, ReceivedNodes, more_received, PartNodes, PartTree, one_field, one_element, with_part, RangeTree, RangeNodes, alone, between, with_range, location, ArgumentTree, ArgumentNodes, taken, given, both, with_argument, root_bounds, count_of, expr_tree, operation_tree, part_tree, received_tree, received_of, range_tree, argument_tree}
use Rattle.program_trees.specs.ProgramTree.{LocalRowTree}
use Rattle.code_scheme.specs.Pieces.{Layout, bounds_of_value, between_code, between_size, behind_code, behind_size, branch_code, branch_size, straight, turned, has_index, first_of_parts, member_code, kept_behind}
use Rattle.code_scheme.specs.ExprSizes.{expr_size, operation_size, indices_size, received_size, received_sizes, members_size, arguments_size, sum_size, condition_size}
use Rattle.code_scheme.specs.ExprCode.{expr_code, operation_code, indices_code, received_code, received_codes, members_code, arguments_code, sum_code, cut_code, condition_code}
use Rattle.code_scheme.proofs.Lemmas.{no_index-size}
use Rattle.expr_gen.specs.Putting.{Appends}
use Rattle.expr_gen.specs.Trees.{parts_of, ranges_of, arguments_of, is_index, index_code, index_size, compared_code, compared_size, plain_condition, plain_size, range_code, range_size, argument_code, argument_size, places_kept}
use Rattle.expr_gen.proofs.Appending.{and_then, resized, StillTo, step, done}
use Rattle.expr_gen.proofs.Views.{expr_tree-out}
use Rattle.expr_gen.proofs.Items.{parts_at, parts_end, received_at, received_end, ranges_at, ranges_end, arguments_at, arguments_end}

-- a part at a place that is told in another form
pub moved : {m n k : ℕ} {x y : Code} (f : ℕ → List Instr) → m ≡ n → Appends (f m) k x y → Appends (f n) k x y
moved {m} {n} {k} {x} {y} f e p = subst (λ at. Appends (f at) k x y) e p

-- an expression whose operation has this tree
pub made_of : (lay : Layout) (free at : ℕ) {x z : Code} (e : Expr) (o : OperationTree) → operation_tree (out-Expr e).operation ≡ o
    → Appends (operation_code lay free (out-Expr e).count o at) (operation_size o) x z
    → Appends (expr_code lay free (expr_tree e) at) (expr_size (expr_tree e)) x z
made_of lay free at {x} {z} e o is p =
    let tree : expr_tree e ≡ expr (out-Expr e).count (root_bounds (class_tree (out-Expr e).class)) o = expr_tree-out e ∙ ap (expr (out-Expr e).count (root_bounds (class_tree (out-Expr e).class))) is in
    subst (λ (t : ExprTree). Appends (expr_code lay free t at) (expr_size t) x z) (sym tree) p

pub count_is : (e : Expr) → (out-Expr e).count ≡ count_of (expr_tree e)
count_is e = sym (ap count_of (expr_tree-out e))

-- ---- operators

pub binary_made : (lay : Layout) (free n : ℕ) (o : Binary) (a b : ExprTree) {x y1 y2 y3 z : Code}
    → Appends (expr_code lay free a (length x.instrs)) (expr_size a) x y1
    → Appends (between_code o (bounds_of_value a) (length y1.instrs) (expr_size b)) (between_size o (bounds_of_value a)) y1 y2
    → Appends (expr_code lay free b (length y2.instrs)) (expr_size b) y2 y3
    → Appends (behind_code o (count_of a)) (behind_size o) y3 z
    → Appends (operation_code lay free n (binary o a b) (length x.instrs)) (operation_size (binary o a b)) x z
binary_made lay free n o a b {x} p q r s =
    and_then p (and_then (moved (λ at. between_code o (bounds_of_value a) at (expr_size b)) p.length q)
    (and_then (moved (λ at. expr_code lay free b at) (omega (arith, p.length, q.length)) r) s))

-- ---- parts

-- the part that is taken behind its indices
no_index : (b : Bool) (k m : ℕ) → (b ≡ false → k ≡ 0) → k + ((if b then m else 0) + 1) ≡ (if b then k + m else 0) + 1
no_index true k m f = omega arith
no_index false k m f = omega (arith, f refl)

pub part_made : (lay : Layout) (free n : ℕ) (e : ExprTree) (ps : PartNodes) {x y1 y2 z : Code}
    → Appends (expr_code lay free e (length x.instrs)) (expr_size e) x y1
    → Appends (indices_code lay free true ps (length y1.instrs)) (indices_size true ps) y1 y2
    → Appends (cut_code ps n (count_of e)) ((if has_index ps then length (member_code (pos (first_of_parts ps))) else 0) + 1) y2 z
    → Appends (operation_code lay free n (part_of e ps) (length x.instrs)) (operation_size (part_of e ps)) x z
part_made lay free n e ps p q r =
    and_then p (resized (no_index (has_index ps) (indices_size true ps) (length (member_code (pos (first_of_parts ps)))) (no_index-size true ps))
    (and_then (moved (λ at. indices_code lay free true ps at) p.length q) r))

-- ---- conditions

pub compared_made : (lay : Layout) (free : ℕ) (o : Binary) (a b : ExprTree) (when : Bool) (target : ℕ) {x y1 y2 y3 y4 z : Code}
    → Appends (expr_code lay free a (length x.instrs)) (expr_size a) x y1
    → Appends (between_code o (bounds_of_value a) (length y1.instrs) (expr_size b)) (between_size o (bounds_of_value a)) y1 y2
    → Appends (expr_code lay free b (length y2.instrs)) (expr_size b) y2 y3
    → Appends (behind_code (straight o) (count_of a)) (behind_size (straight o)) y3 y4
    → Appends (branch_code (turned o when) target (length y4.instrs)) (branch_size (turned o when)) y4 z
    → Appends (compared_code lay free o a b when target (length x.instrs)) (compared_size o a b when) x z
compared_made lay free o a b when target {x} p q r s t =
    and_then p (and_then (moved (λ at. between_code o (bounds_of_value a) at (expr_size b)) p.length q)
    (and_then (moved (λ at. expr_code lay free b at) (omega (arith, p.length, q.length)) r)
    (and_then s (moved (λ at. branch_code (turned o when) target at) (omega (arith, p.length, q.length, r.length, s.length)) t))))

pub plain_made : (lay : Layout) (free : ℕ) (e : ExprTree) (when : Bool) (target : ℕ) {x y z : Code}
    → Appends (expr_code lay free e (length x.instrs)) (expr_size e) x y
    → Appends (branch_code when target (length y.instrs)) (branch_size when) y z
    → Appends (plain_condition lay free e when target (length x.instrs)) (plain_size e when) x z
plain_made lay free e when target p q = and_then p (moved (λ at. branch_code when target at) p.length q)

-- two conditions, of which one value decides the whole
pub both_made : (lay : Layout) (free : ℕ) (a b : ExprTree) (value when : Bool) (target first : ℕ) {x y z : Code}
    → Appends (condition_code lay free a value first (length x.instrs)) (condition_size a value) x y
    → Appends (condition_code lay free b when target (length y.instrs)) (condition_size b when) y z
    → Appends (condition_code lay free a value first (length x.instrs) ++ condition_code lay free b when target (length x.instrs + condition_size a value)) (condition_size a value + condition_size b when) x z
both_made lay free a b value when target first p q = and_then p (moved (λ at. condition_code lay free b when target at) p.length q)

-- ---- steps of loops

indices_code_on : (lay : Layout) (free : ℕ) (first : Bool) (p : PartTree) (ps : PartNodes) (at : ℕ)
    → indices_code lay free first (with_part p ps) at ≡ index_code lay free first p at ++ indices_code lay free (first && not (is_index p)) ps (at + index_size first p)
indices_code_on lay free true (one_field n count) ps at = ap (λ (j : ℕ). indices_code lay free true ps j) (omega arith)
indices_code_on lay free false (one_field n count) ps at = ap (λ (j : ℕ). indices_code lay free false ps j) (omega arith)
indices_code_on lay free true (one_element e b count) ps at =
    let there : at + expr_size e + (1 + sum_size true) ≡ at + (expr_size e + (1 + sum_size true)) = omega arith in
    ap (λ (j : ℕ). expr_code lay free e at ++ (i.Index b.low b.high count ∷ (sum_code true ++ indices_code lay free false ps j))) there
    ∙ sym (append_assoc (expr_code lay free e at) (i.Index b.low b.high count ∷ sum_code true) (indices_code lay free false ps (at + (expr_size e + (1 + sum_size true)))))
indices_code_on lay free false (one_element e b count) ps at =
    let there : at + expr_size e + (1 + sum_size false) ≡ at + (expr_size e + (1 + sum_size false)) = omega arith in
    ap (λ (j : ℕ). expr_code lay free e at ++ (i.Index b.low b.high count ∷ (sum_code false ++ indices_code lay free false ps j))) there
    ∙ sym (append_assoc (expr_code lay free e at) (i.Index b.low b.high count ∷ sum_code false) (indices_code lay free false ps (at + (expr_size e + (1 + sum_size false)))))

pub indices_size_on : (first : Bool) (p : PartTree) (ps : PartNodes) → indices_size first (with_part p ps) ≡ index_size first p + indices_size (first && not (is_index p)) ps
indices_size_on true (one_field n count) ps = omega arith
indices_size_on false (one_field n count) ps = omega arith
indices_size_on true (one_element e b count) ps = omega arith
indices_size_on false (one_element e b count) ps = omega arith

pub indices_step : {a : ℕ → List Instr} {m : ℕ} (lay : Layout) (free : ℕ) (first : Bool) (p : PartTree) (ps : PartNodes) {x y z : Code}
    → StillTo a m (λ at. indices_code lay free first (with_part p ps) at) (indices_size first (with_part p ps)) x y
    → Appends (index_code lay free first p (length y.instrs)) (index_size first p) y z
    → StillTo a m (λ at. indices_code lay free (first && not (is_index p)) ps at) (indices_size (first && not (is_index p)) ps) x z
indices_step lay free first p ps {x} {y} q r =
    step (λ at. indices_code lay free (first && not (is_index p)) ps at) (indices_size (first && not (is_index p)) ps) (indices_code_on lay free first p ps (length y.instrs)) (indices_size_on first p ps) q r

pub received_step : {a : ℕ → List Instr} {m : ℕ} (lay : Layout) (free : ℕ) (r : ReceivedTree) (rs : ReceivedNodes) {x y z : Code}
    → StillTo a m (λ at. received_codes lay free (more_received r rs) at) (received_sizes (more_received r rs)) x y
    → Appends (received_code lay free r (length y.instrs)) (received_size r) y z
    → StillTo a m (λ at. received_codes lay free rs at) (received_sizes rs) x z
received_step lay free r rs p q = step (λ at. received_codes lay free rs at) (received_sizes rs) refl refl p q

range_code_on : (lay : Layout) (free : ℕ) (b : Bounds) (r : RangeTree) (rs : RangeNodes) (at : ℕ)
    → members_code lay free b (with_range r rs) at ≡ range_code lay free b r at ++ members_code lay free b rs (at + range_size r)
range_code_on lay free b (alone e) rs at =
    let there : at + expr_size e + 4 ≡ at + (expr_size e + 4) = omega arith in
    ap (λ (j : ℕ). expr_code lay free e at ++ (i.Index b.low b.high 1 ∷ i.Copy 1 ∷ i.Span ∷ i.BitOr ∷ members_code lay free b rs j)) there
    ∙ sym (append_assoc (expr_code lay free e at) _ _)
range_code_on lay free b (between e f) rs at =
    let there : at + expr_size e + 1 + expr_size f + 3 ≡ at + (expr_size e + (1 + (expr_size f + 3))) = omega arith in
    ap (λ (is : List Instr). expr_code lay free e at ++ (i.Index b.low b.high 1 ∷ is))
    (ap (λ (j : ℕ). expr_code lay free f (at + expr_size e + 1) ++ (i.Index b.low b.high 1 ∷ i.Span ∷ i.BitOr ∷ members_code lay free b rs j)) there
    ∙ sym (append_assoc (expr_code lay free f (at + expr_size e + 1)) _ _))
    ∙ sym (append_assoc (expr_code lay free e at) _ _)

pub range_size_on : (r : RangeTree) (rs : RangeNodes) → members_size (with_range r rs) ≡ range_size r + members_size rs
range_size_on (alone e) rs = omega arith
range_size_on (between e f) rs = omega arith

pub members_step : {a : ℕ → List Instr} {m : ℕ} (lay : Layout) (free : ℕ) (b : Bounds) (r : RangeTree) (rs : RangeNodes) {x y z : Code}
    → StillTo a m (λ at. members_code lay free b (with_range r rs) at) (members_size (with_range r rs)) x y
    → Appends (range_code lay free b r (length y.instrs)) (range_size r) y z
    → StillTo a m (λ at. members_code lay free b rs at) (members_size rs) x z
members_step lay free b r rs {x} {y} p q = step (λ at. members_code lay free b rs at) (members_size rs) (range_code_on lay free b r rs (length y.instrs)) (range_size_on r rs) p q

argument_code_on : (lay : Layout) (rows : List LocalRowTree) (k kept : ℕ) (t : ArgumentTree) (ts : ArgumentNodes) (at : ℕ)
    → arguments_code lay rows k kept (with_argument t ts) at ≡ argument_code lay rows k kept t at ++ arguments_code lay rows (k + 1) (kept + places_kept t) ts (at + argument_size t)
argument_code_on lay rows k kept (taken r) ts at =
    let same : kept ≡ kept + 0 = omega arith in
    ap (λ (j : ℕ). received_code lay kept r at ++ arguments_code lay rows (k + 1) j ts (at + received_size r)) same
argument_code_on lay rows k kept (given (location b ps n) bounds) ts at = refl
argument_code_on lay rows k kept (both l taken_by bounds) ts at = refl

pub argument_size_on : (t : ArgumentTree) (ts : ArgumentNodes) → arguments_size (with_argument t ts) ≡ argument_size t + arguments_size ts
argument_size_on (taken r) ts = refl
argument_size_on (given (location b ps n) bounds) ts = refl
argument_size_on (both l taken_by bounds) ts = refl

pub arguments_step : {a : ℕ → List Instr} {m : ℕ} (lay : Layout) (rows : List LocalRowTree) (k kept j next : ℕ) (t : ArgumentTree) (ts : ArgumentNodes) {x y z : Code}
    → j ≡ k + 1 → next ≡ kept + places_kept t
    → StillTo a m (λ at. arguments_code lay rows k kept (with_argument t ts) at) (arguments_size (with_argument t ts)) x y
    → Appends (argument_code lay rows k kept t (length y.instrs)) (argument_size t) y z
    → StillTo a m (λ at. arguments_code lay rows j next ts at) (arguments_size ts) x z
arguments_step {a} {m} lay rows k kept j next t ts {x} {y} {z} e f p q =
    let all : StillTo a m (λ at. arguments_code lay rows (k + 1) (kept + places_kept t) ts at) (arguments_size ts) x z =
    step (λ at. arguments_code lay rows (k + 1) (kept + places_kept t) ts at) (arguments_size ts) (argument_code_on lay rows k kept t ts (length y.instrs)) (argument_size_on t ts) p q in
    rw (e, f) all

pub places_step : (t : ArgumentTree) (ts : ArgumentNodes) (kept : ℕ) → kept_behind (with_argument t ts) kept ≡ kept_behind ts (kept + places_kept t)
places_step (taken r) ts kept = ap (λ (j : ℕ). kept_behind ts j) (omega arith)
places_step (given l bounds) ts kept = refl
places_step (both l taken_by bounds) ts kept = refl

-- ---- turns of loops along lists

pub indices_turn : {a : ℕ → List Instr} {m : ℕ} (lay : Layout) (free : ℕ) (first next : Bool) (xs : List Part) (k : ℕ) (it : Part) {x y z : Code} → k < length xs → it ≡ get_or xs k it
    → next ≡ (first && not (is_index (part_tree it)))
    → StillTo a m (λ at. indices_code lay free first (parts_of (drop k xs)) at) (indices_size first (parts_of (drop k xs))) x y
    → Appends (index_code lay free first (part_tree it) (length y.instrs)) (index_size first (part_tree it)) y z
    → StillTo a m (λ at. indices_code lay free next (parts_of (drop (k + 1) xs)) at) (indices_size next (parts_of (drop (k + 1) xs))) x z
indices_turn {a} {m} lay free first next xs k it {x} {y} {z} h e f p q =
    subst (λ (b : Bool). StillTo a m (λ at. indices_code lay free b (parts_of (drop (k + 1) xs)) at) (indices_size b (parts_of (drop (k + 1) xs))) x z) (sym f)
    (indices_step lay free first (part_tree it) (parts_of (drop (k + 1) xs)) (subst (λ (ps : PartNodes). StillTo a m (λ at. indices_code lay free first ps at) (indices_size first ps) x y) (parts_at xs k it h e) p) q)

pub received_turn : {a : ℕ → List Instr} {m : ℕ} (lay : Layout) (free : ℕ) (xs : List Received) (k : ℕ) (it : Received) {x y z : Code} → k < length xs → it ≡ get_or xs k it
    → StillTo a m (λ at. received_codes lay free (received_of (drop k xs)) at) (received_sizes (received_of (drop k xs))) x y
    → Appends (received_code lay free (received_tree it) (length y.instrs)) (received_size (received_tree it)) y z
    → StillTo a m (λ at. received_codes lay free (received_of (drop (k + 1) xs)) at) (received_sizes (received_of (drop (k + 1) xs))) x z
received_turn {a} {m} lay free xs k it {x} {y} h e p q =
    received_step lay free (received_tree it) (received_of (drop (k + 1) xs)) (subst (λ (rs : ReceivedNodes). StillTo a m (λ at. received_codes lay free rs at) (received_sizes rs) x y) (received_at xs k it h e) p) q

pub members_turn : {a : ℕ → List Instr} {m : ℕ} (lay : Layout) (free : ℕ) (b : Bounds) (xs : List Range) (k : ℕ) (it : Range) {x y z : Code} → k < length xs → it ≡ get_or xs k it
    → StillTo a m (λ at. members_code lay free b (ranges_of (drop k xs)) at) (members_size (ranges_of (drop k xs))) x y
    → Appends (range_code lay free b (range_tree it) (length y.instrs)) (range_size (range_tree it)) y z
    → StillTo a m (λ at. members_code lay free b (ranges_of (drop (k + 1) xs)) at) (members_size (ranges_of (drop (k + 1) xs))) x z
members_turn {a} {m} lay free b xs k it {x} {y} h e p q =
    members_step lay free b (range_tree it) (ranges_of (drop (k + 1) xs)) (subst (λ (rs : RangeNodes). StillTo a m (λ at. members_code lay free b rs at) (members_size rs) x y) (ranges_at xs k it h e) p) q

pub arguments_turn : {a : ℕ → List Instr} {m : ℕ} (lay : Layout) (rows : List LocalRowTree) (n kept j next : ℕ) (xs : List Argument) (k : ℕ) (it : Argument) {x y z : Code} → k < length xs → it ≡ get_or xs k it
    → j ≡ n + 1 → next ≡ kept + places_kept (argument_tree it)
    → StillTo a m (λ at. arguments_code lay rows n kept (arguments_of (drop k xs)) at) (arguments_size (arguments_of (drop k xs))) x y
    → Appends (argument_code lay rows n kept (argument_tree it) (length y.instrs)) (argument_size (argument_tree it)) y z
    → StillTo a m (λ at. arguments_code lay rows j next (arguments_of (drop (k + 1) xs)) at) (arguments_size (arguments_of (drop (k + 1) xs))) x z
arguments_turn {a} {m} lay rows n kept j next xs k it {x} {y} h e u v p q =
    arguments_step lay rows n kept j next (argument_tree it) (arguments_of (drop (k + 1) xs)) u v
    (subst (λ (ts : ArgumentNodes). StillTo a m (λ at. arguments_code lay rows n kept ts at) (arguments_size ts) x y) (arguments_at xs k it h e) p) q

pub places_turn : (xs : List Argument) (k : ℕ) (it : Argument) (kept next all : ℕ) → k < length xs → it ≡ get_or xs k it → next ≡ kept + places_kept (argument_tree it)
    → kept_behind (arguments_of (drop k xs)) kept ≡ all → kept_behind (arguments_of (drop (k + 1) xs)) next ≡ all
places_turn xs k it kept next all h e v p =
    ap (λ (j : ℕ). kept_behind (arguments_of (drop (k + 1) xs)) j) v ∙ sym (places_step (argument_tree it) (arguments_of (drop (k + 1) xs)) kept)
    ∙ sym (ap (λ (ts : ArgumentNodes). kept_behind ts kept) (arguments_at xs k it h e)) ∙ p

pub indices_done : {a : ℕ → List Instr} {m : ℕ} (lay : Layout) (free : ℕ) (first : Bool) (xs : List Part) (k : ℕ) {x y : Code} → length xs ≤ k
    → StillTo a m (λ at. indices_code lay free first (parts_of (drop k xs)) at) (indices_size first (parts_of (drop k xs))) x y → Appends (a (length x.instrs)) m x y
indices_done lay free first xs k {x} {y} h p =
    done p (ap (λ (ps : PartNodes). indices_code lay free first ps (length y.instrs)) (parts_end xs k h)) (ap (λ (ps : PartNodes). indices_size first ps) (parts_end xs k h))

pub received_done : {a : ℕ → List Instr} {m : ℕ} (lay : Layout) (free : ℕ) (xs : List Received) (k : ℕ) {x y : Code} → length xs ≤ k
    → StillTo a m (λ at. received_codes lay free (received_of (drop k xs)) at) (received_sizes (received_of (drop k xs))) x y → Appends (a (length x.instrs)) m x y
received_done lay free xs k {x} {y} h p =
    done p (ap (λ (rs : ReceivedNodes). received_codes lay free rs (length y.instrs)) (received_end xs k h)) (ap (λ (rs : ReceivedNodes). received_sizes rs) (received_end xs k h))

pub members_done : {a : ℕ → List Instr} {m : ℕ} (lay : Layout) (free : ℕ) (b : Bounds) (xs : List Range) (k : ℕ) {x y : Code} → length xs ≤ k
    → StillTo a m (λ at. members_code lay free b (ranges_of (drop k xs)) at) (members_size (ranges_of (drop k xs))) x y → Appends (a (length x.instrs)) m x y
members_done lay free b xs k {x} {y} h p =
    done p (ap (λ (rs : RangeNodes). members_code lay free b rs (length y.instrs)) (ranges_end xs k h)) (ap (λ (rs : RangeNodes). members_size rs) (ranges_end xs k h))

pub arguments_done : {a : ℕ → List Instr} {m : ℕ} (lay : Layout) (rows : List LocalRowTree) (n kept : ℕ) (xs : List Argument) (k : ℕ) {x y : Code} → length xs ≤ k
    → StillTo a m (λ at. arguments_code lay rows n kept (arguments_of (drop k xs)) at) (arguments_size (arguments_of (drop k xs))) x y → Appends (a (length x.instrs)) m x y
arguments_done lay rows n kept xs k {x} {y} h p =
    done p (ap (λ (ts : ArgumentNodes). arguments_code lay rows n kept ts (length y.instrs)) (arguments_end xs k h)) (ap (λ (ts : ArgumentNodes). arguments_size ts) (arguments_end xs k h))

pub places_done : (xs : List Argument) (k kept all : ℕ) → length xs ≤ k → kept_behind (arguments_of (drop k xs)) kept ≡ all → kept ≡ all
places_done xs k kept all h p = sym (ap (λ (ts : ArgumentNodes). kept_behind ts kept) (arguments_end xs k h)) ∙ p
