-- What is appended for the parts of a node of a program is what its tree says.
use Rattle.std.proofs.Common.{◌≡◌, ℕ, ℤ, ◌+◌, Bool, true, false, List, [], ◌∷◌, pos, Option, Some, None, length, refl, sym, ap, subst, ◌∙◌, arith, if◌then◌else◌}
use Rattle.std.specs.Prelude.{slice_get, option_map}
use Rattle.std.specs.declared.alloc.Global.{Global}
use Rattle.std.specs.declared.boxed.Box.{Box}
use Rattle.code_types.specs.declared.code.Code.{Code}
use Rattle.code_types.specs.declared.instr.Instr.{Instr}
use Rattle.code_types.specs.declared.instr.Instr.TheVariants as i
use Rattle.modes.specs.declared.mode.Bounds.{Bounds}
use Rattle.modes.specs.ModeTree.{class_tree}
use Rattle.checked_program.specs.declared.expr.Argument.{Argument}
use Rattle.checked_program.specs.declared.expr.Argument.TheVariants as arguments
use Rattle.checked_program.specs.declared.expr.Binary.{Binary}
use Rattle.checked_program.specs.declared.expr.Prefix.{Prefix}
use Rattle.checked_program.specs.declared.expr.Routine.{Routine}
use Rattle.checked_program.specs.declared.expr.Call.{Call, out-Call}
use Rattle.checked_program.specs.declared.expr.Expr.{Expr, out-Expr}
use Rattle.checked_program.specs.declared.expr.Location.{Location, out-Location}
use Rattle.checked_program.specs.declared.expr.Operation.TheVariants as operations
use Rattle.checked_program.specs.declared.expr.Part.{Part}
use Rattle.checked_program.specs.declared.expr.Part.TheVariants as part_variants
use Rattle.checked_program.specs.declared.expr.Range.{Range, out-Range}
use Rattle.checked_program.specs.declared.expr.Received.{Received, out-Received}
use Rattle.checked_program.specs.declared.expr.Start.{Start, out-Start}
use Rattle.program_trees.specs.ExprTree.{ExprTree, expr, root_bounds, expr_tree, operation_tree, boxed_expr, count_of, received_count, constant, own_instance, contents, part_of, receive, start, call, powerset, parts, uniform, routine, get_int, prefixed, binary, ReceivedTree, received, received_tree, received_of, LocationTree, location, location_tree, StartTree, started, start_tree, CallTree, called, call_tree, RangeTree, alone, between, range_of, range_tree, ArgumentTree, argument_tree, PartNodes, PartTree, one_element, part_tree}
use Rattle.program_trees.specs.ProgramTree.{LocalRowTree}
use Rattle.code_scheme.specs.Pieces.{Layout, capped, pushes, lowest_as, scalars_code, copies_code, check_code, tested, tested_in, tested_out, tested_back, under_code, store_code, copy_out_code, bounds_of_value, member_code, between_code, between_size, behind_code, behind_size, prefix_code, routine_code, has_index, first_of_parts, needs_offset, has_offset, contents_code, offsets_kept, location_scalars, keep_code, kept_code, copies_out, kept_behind, rows_of}
use Rattle.code_scheme.specs.ExprSizes.{expr_size, place_size, indices_size, received_size, received_sizes, members_size, start_size, call_size, arguments_size, copies_out_size, copy_out_size, sum_size}
use Rattle.code_scheme.specs.ExprCode.{expr_code, place_code, indices_code, received_code, received_codes, members_code, start_code, call_code, arguments_code, counts_of, cut_code, receive_code, sum_code}
use Rattle.expr_gen.specs.Copies.{copied}
use Rattle.expr_gen.specs.Putting.{Appends}
use Rattle.expr_gen.specs.Trees.{parts_of, ranges_of, arguments_of, range_code, range_size, argument_code, argument_size, index_code, index_size, copy_out, copying_size}
use Rattle.expr_gen.proofs.Appending.{nothing, and_then, resized}
use Rattle.expr_gen.proofs.Copies.{copied_is}
use Rattle.expr_gen.proofs.Made.{made_of, moved, count_is, binary_made, part_made}
use Rattle.expr_gen.proofs.Views.{operation_tree-Constant, operation_tree-This, operation_tree-Contents, operation_tree-PartOf, operation_tree-Receive, operation_tree-Start, operation_tree-Call, operation_tree-Powerset, operation_tree-Parts, operation_tree-Uniform, operation_tree-Routine, operation_tree-GetInt, operation_tree-Prefixed, operation_tree-Binary, part_tree-Field, part_tree-Element, argument_tree-In, argument_tree-Out, argument_tree-InOut, expr_tree-out, received_tree-out, location_tree-out, start_tree-out, call_tree-out, range_tree-out}

abbrev range_of_boxes : Box Expr Global → Option (Box Expr Global) → RangeTree
range_of_boxes first last = range_of (boxed_expr first) (option_map boxed_expr last)

abbrev cut_size : PartNodes → ℕ
cut_size ps = (if has_index ps then length (member_code (pos (first_of_parts ps))) else 0) + 1

-- ---- expressions

pub constant_told : (lay : Layout) (free at : ℕ) {x z : Code} (e : Expr) (xs ys : List ℤ) → (out-Expr e).operation ≡ operations.Constant xs → ys ≡ xs
    → Appends (scalars_code ys) (length (scalars_code ys)) x z → Appends (expr_code lay free (expr_tree e) at) (expr_size (expr_tree e)) x z
constant_told lay free at {x} {z} e xs ys is same p =
    made_of lay free at e (constant xs) (ap operation_tree is ∙ operation_tree-Constant xs) (subst (λ (l : List ℤ). Appends (scalars_code l) (length (scalars_code l)) x z) same p)

pub this_told : (lay : Layout) (free at : ℕ) {x z : Code} (e : Expr) → (out-Expr e).operation ≡ operations.This
    → Appends (i.This ∷ []) 1 x z → Appends (expr_code lay free (expr_tree e) at) (expr_size (expr_tree e)) x z
this_told lay free at e is p = made_of lay free at e own_instance (ap operation_tree is ∙ operation_tree-This) p

pub get_told : (lay : Layout) (free at : ℕ) {x z : Code} (e : Expr) → (out-Expr e).operation ≡ operations.GetInt
    → Appends (i.GetInt ∷ []) 1 x z → Appends (expr_code lay free (expr_tree e) at) (expr_size (expr_tree e)) x z
get_told lay free at e is p = made_of lay free at e get_int (ap operation_tree is ∙ operation_tree-GetInt) p

pub contents_told : (lay : Layout) (free : ℕ) {x y z : Code} (e : Expr) (b : Box Location Global) (l : Location) → (out-Expr e).operation ≡ operations.Contents b → l ≡ b.value
    → Appends (place_code lay free (location_tree l) (length x.instrs)) (place_size (location_tree l)) x y
    → Appends (contents_code lay (location_tree l)) 1 y z → Appends (expr_code lay free (expr_tree e) (length x.instrs)) (expr_size (expr_tree e)) x z
contents_told lay free e b l is same p q =
    made_of lay free _ e (contents (location_tree l)) (ap operation_tree is ∙ operation_tree-Contents b ∙ ap (λ (v : Location). contents (location_tree v)) (sym same)) (and_then p q)

pub part_told : (lay : Layout) (free : ℕ) {x y1 y2 z : Code} (e : Expr) (b : Box Expr Global) (of f : Expr) (own ps qs : List Part) → (out-Expr e).operation ≡ operations.PartOf b own
    → of ≡ b.value → f ≡ b.value → ps ≡ own → qs ≡ own
    → Appends (expr_code lay free (expr_tree of) (length x.instrs)) (expr_size (expr_tree of)) x y1
    → Appends (indices_code lay free true (parts_of ps) (length y1.instrs)) (indices_size true (parts_of ps)) y1 y2
    → Appends (cut_code (parts_of qs) (out-Expr e).count (out-Expr f).count) (cut_size (parts_of qs)) y2 z
    → Appends (expr_code lay free (expr_tree e) (length x.instrs)) (expr_size (expr_tree e)) x z
part_told lay free {x} {y1} {y2} {z} e b of f own ps qs is same same2 parts_are parts_are2 p q r =
    let tree : operation_tree (out-Expr e).operation ≡ part_of (expr_tree of) (parts_of own) =
    ap operation_tree is ∙ operation_tree-PartOf b own ∙ ap (λ (v : Expr). part_of (expr_tree v) (parts_of own)) (sym same) in
    let count : (out-Expr f).count ≡ count_of (expr_tree of) = count_is f ∙ ap (λ (v : Expr). count_of (expr_tree v)) (same2 ∙ sym same) in
    made_of lay free _ e (part_of (expr_tree of) (parts_of own)) tree
    (part_made lay free (out-Expr e).count (expr_tree of) (parts_of own) p
    (subst (λ (l : List Part). Appends (indices_code lay free true (parts_of l) (length y1.instrs)) (indices_size true (parts_of l)) y1 y2) parts_are q)
    (subst (λ (n : ℕ). Appends (cut_code (parts_of own) (out-Expr e).count n) (cut_size (parts_of own)) y2 z) count
    (subst (λ (l : List Part). Appends (cut_code (parts_of l) (out-Expr e).count (out-Expr f).count) (cut_size (parts_of l)) y2 z) parts_are2 r)))

pub receive_told : (lay : Layout) (free at : ℕ) {x z : Code} (e : Expr) (b : ℕ) → (out-Expr e).operation ≡ operations.Receive b
    → Appends (receive_code b (out-Expr e).count free) 6 x z → Appends (expr_code lay free (expr_tree e) at) (expr_size (expr_tree e)) x z
receive_told lay free at e b is p = made_of lay free at e (receive b) (ap operation_tree is ∙ operation_tree-Receive b) p

pub start_expr_told : (lay : Layout) (free at : ℕ) {x z : Code} (e : Expr) (b : Box Start Global) (s : Start) → (out-Expr e).operation ≡ operations.Start b → s ≡ b.value
    → Appends (start_code lay free (start_tree s) at) (start_size (start_tree s)) x z → Appends (expr_code lay free (expr_tree e) at) (expr_size (expr_tree e)) x z
start_expr_told lay free at e b s is same p =
    made_of lay free at e (start (start_tree s)) (ap operation_tree is ∙ operation_tree-Start b ∙ ap (λ (v : Start). start (start_tree v)) (sym same)) p

pub call_expr_told : (lay : Layout) (free at : ℕ) {x z : Code} (e : Expr) (b : Box Call Global) (c : Call) → (out-Expr e).operation ≡ operations.Call b → c ≡ b.value
    → Appends (call_code lay free (call_tree c) at) (call_size (call_tree c)) x z → Appends (expr_code lay free (expr_tree e) at) (expr_size (expr_tree e)) x z
call_expr_told lay free at e b c is same p =
    made_of lay free at e (call (call_tree c)) (ap operation_tree is ∙ operation_tree-Call b ∙ ap (λ (v : Call). call (call_tree v)) (sym same)) p

pub powerset_told : (lay : Layout) (free at : ℕ) {x z : Code} (e : Expr) (b : Bounds) (own rs : List Range) → (out-Expr e).operation ≡ operations.Powerset b own → rs ≡ own
    → Appends (i.Push (pos 0) ∷ members_code lay free b (ranges_of rs) (at + 1)) (1 + members_size (ranges_of rs)) x z → Appends (expr_code lay free (expr_tree e) at) (expr_size (expr_tree e)) x z
powerset_told lay free at e b own rs is same p =
    made_of lay free at e (powerset b (ranges_of rs)) (ap operation_tree is ∙ operation_tree-Powerset b own ∙ ap (λ (l : List Range). powerset b (ranges_of l)) (sym same)) p

pub parts_told : (lay : Layout) (free at : ℕ) {x z : Code} (e : Expr) (own rs : List Received) → (out-Expr e).operation ≡ operations.Parts own → rs ≡ own
    → Appends (received_codes lay free (received_of rs) at) (received_sizes (received_of rs)) x z → Appends (expr_code lay free (expr_tree e) at) (expr_size (expr_tree e)) x z
parts_told lay free at e own rs is same p =
    made_of lay free at e (parts (received_of rs)) (ap operation_tree is ∙ operation_tree-Parts own ∙ ap (λ (l : List Received). parts (received_of l)) (sym same)) p

pub uniform_told : (lay : Layout) (free : ℕ) {x y z : Code} (e : Expr) (m n : ℕ) (r : Received) → (out-Expr e).operation ≡ operations.Uniform m r → n ≡ received_count (received_tree r)
    → Appends (received_code lay free (received_tree r) (length x.instrs)) (received_size (received_tree r)) x y
    → Appends (copied m n) (length (copied m 0)) y z → Appends (expr_code lay free (expr_tree e) (length x.instrs)) (expr_size (expr_tree e)) x z
uniform_told lay free {x} {y} {z} e m n r is count p q =
    let copies : Appends (copies_code m (received_count (received_tree r))) (length (copies_code m 0)) y z =
    subst (λ (is : List Instr). Appends is (length (copies_code m 0)) y z) (copied_is m (received_count (received_tree r)))
    (resized (ap (λ (is : List Instr). length is) (copied_is m 0)) (subst (λ (k : ℕ). Appends (copied m k) (length (copied m 0)) y z) count q)) in
    made_of lay free _ e (uniform m (received_tree r)) (ap operation_tree is ∙ operation_tree-Uniform m r) (and_then p copies)

pub uniform_count : (r : Received) (e : Expr) → e ≡ (out-Received r).value.value → (out-Expr e).count ≡ received_count (received_tree r)
uniform_count r e same = count_is e ∙ ap (λ (v : Expr). count_of (expr_tree v)) same ∙ sym (ap received_count (received_tree-out r))

summed : (a b k l n : ℕ) → k ≡ capped a → l ≡ b → n ≡ capped (k + l) → n ≡ capped (a + b)
summed a b k l n e f g = omega (arith, e, f, g)

pub uniform_sized : (e : Expr) (m : ℕ) (r : Received) (k l n : ℕ) → (out-Expr e).operation ≡ operations.Uniform m r → k ≡ capped (received_size (received_tree r)) → l ≡ length (copied m 0) → n ≡ capped (k + l)
    → n ≡ capped (expr_size (expr_tree e))
uniform_sized e m r k l n is first copies sum =
    summed (received_size (received_tree r)) (length (copies_code m 0)) k l n first (copies ∙ ap (λ (is : List Instr). length is) (copied_is m 0)) sum
    ∙ sym (ap (λ (t : ExprTree). capped (expr_size t)) (expr_tree-out e ∙ ap (expr (out-Expr e).count (root_bounds (class_tree (out-Expr e).class))) (ap operation_tree is ∙ operation_tree-Uniform m r)))

pub routine_told : (lay : Layout) (free : ℕ) {x y z : Code} (e : Expr) (o : Routine) (b : Box Expr Global) (of : Expr) → (out-Expr e).operation ≡ operations.Routine o b → of ≡ b.value
    → Appends (expr_code lay free (expr_tree of) (length x.instrs)) (expr_size (expr_tree of)) x y
    → Appends (routine_code o) (length (routine_code o)) y z → Appends (expr_code lay free (expr_tree e) (length x.instrs)) (expr_size (expr_tree e)) x z
routine_told lay free e o b of is same p q =
    made_of lay free _ e (routine o (expr_tree of)) (ap operation_tree is ∙ operation_tree-Routine o b ∙ ap (λ (v : Expr). routine o (expr_tree v)) (sym same)) (and_then p q)

pub prefixed_told : (lay : Layout) (free : ℕ) {x y z : Code} (e : Expr) (o : Prefix) (b : Box Expr Global) (of : Expr) → (out-Expr e).operation ≡ operations.Prefixed o b → of ≡ b.value
    → Appends (expr_code lay free (expr_tree of) (length x.instrs)) (expr_size (expr_tree of)) x y
    → Appends (prefix_code o) 1 y z → Appends (expr_code lay free (expr_tree e) (length x.instrs)) (expr_size (expr_tree e)) x z
prefixed_told lay free e o b of is same p q =
    made_of lay free _ e (prefixed o (expr_tree of)) (ap operation_tree is ∙ operation_tree-Prefixed o b ∙ ap (λ (v : Expr). prefixed o (expr_tree v)) (sym same)) (and_then p q)

pub binary_told : (lay : Layout) (free : ℕ) {x y1 y2 y3 z : Code} (e : Expr) (o : Binary) (b c : Box Expr Global) (l r f : Expr) (own : Option Bounds) → (out-Expr e).operation ≡ operations.Binary o b c
    → l ≡ b.value → r ≡ c.value → f ≡ b.value → own ≡ bounds_of_value (expr_tree b.value)
    → Appends (expr_code lay free (expr_tree l) (length x.instrs)) (expr_size (expr_tree l)) x y1
    → Appends (between_code o own (length y1.instrs) (expr_size (expr_tree c.value))) (between_size o own) y1 y2
    → Appends (expr_code lay free (expr_tree r) (length y2.instrs)) (expr_size (expr_tree r)) y2 y3
    → Appends (behind_code o (out-Expr f).count) (behind_size o) y3 z
    → Appends (expr_code lay free (expr_tree e) (length x.instrs)) (expr_size (expr_tree e)) x z
binary_told lay free {x} {y1} {y2} {y3} {z} e o b c l r f own is left right first bounds p q s t =
    made_of lay free _ e (binary o (expr_tree b.value) (expr_tree c.value)) (ap operation_tree is ∙ operation_tree-Binary o b c)
    (binary_made lay free (out-Expr e).count o (expr_tree b.value) (expr_tree c.value)
    (subst (λ (v : Expr). Appends (expr_code lay free (expr_tree v) (length x.instrs)) (expr_size (expr_tree v)) x y1) left p)
    (subst (λ (w : Option Bounds). Appends (between_code o w (length y1.instrs) (expr_size (expr_tree c.value))) (between_size o w) y1 y2) bounds q)
    (subst (λ (v : Expr). Appends (expr_code lay free (expr_tree v) (length y2.instrs)) (expr_size (expr_tree v)) y2 y3) right s)
    (subst (λ (n : ℕ). Appends (behind_code o n) (behind_size o) y3 z) (count_is f ∙ ap (λ (v : Expr). count_of (expr_tree v)) first) t))

-- ---- values that something takes

pub received_told : (lay : Layout) (free : ℕ) {x y z : Code} (r : Received) (e : Expr) (bounds : Option Bounds) → e ≡ (out-Received r).value.value → bounds ≡ tested (received_tree r)
    → Appends (expr_code lay free (expr_tree e) (length x.instrs)) (expr_size (expr_tree e)) x y
    → Appends (check_code bounds) (length (check_code bounds)) y z
    → Appends (received_code lay free (received_tree r) (length x.instrs)) (received_size (received_tree r)) x z
received_told lay free {x} {y} {z} r e bounds same test p q =
    let tree : received_tree r ≡ received (expr_tree e) (out-Received r).bounds = received_tree-out r ∙ ap (λ (v : Expr). received (expr_tree v) (out-Received r).bounds) (sym same) in
    let check : Appends (check_code (tested (received (expr_tree e) (out-Received r).bounds))) (length (check_code (tested (received (expr_tree e) (out-Received r).bounds)))) y z =
    subst (λ (b : Option Bounds). Appends (check_code b) (length (check_code b)) y z) (test ∙ ap tested tree) q in
    subst (λ (t : ReceivedTree). Appends (received_code lay free t (length x.instrs)) (received_size t) x z) (sym tree) (and_then p check)

-- ---- places

where_true : {A : Type 0} (b : Bool) (p q : A) → b ≡ true → (if b then p else q) ≡ p
where_true b p q e = rw e refl

where_false : {A : Type 0} (b : Bool) (p q : A) → b ≡ false → (if b then p else q) ≡ q
where_false b p q e = rw e refl

pub place_indexed : (lay : Layout) (free : ℕ) {x z : Code} (l : Location) (ps : List Part) → ps ≡ (out-Location l).parts → has_index (parts_of ps) ≡ true
    → Appends (indices_code lay free true (parts_of ps) (length x.instrs)) (indices_size true (parts_of ps)) x z
    → Appends (place_code lay free (location_tree l) (length x.instrs)) (place_size (location_tree l)) x z
place_indexed lay free {x} {z} l ps same yes_index p =
    let base = (out-Location l).base in
    let tree : location_tree l ≡ location (out-Location l).base (parts_of ps) (out-Location l).count =
    location_tree-out l ∙ ap (λ (v : List Part). location (out-Location l).base (parts_of v) (out-Location l).count) (sym same) in
    let code : place_code lay free (location_tree l) (length x.instrs) ≡ indices_code lay free true (parts_of ps) (length x.instrs) =
    ap (λ (t : LocationTree). place_code lay free t (length x.instrs)) tree ∙ where_true (has_index (parts_of ps)) _ _ yes_index in
    let size : place_size (location_tree l) ≡ indices_size true (parts_of ps) = ap place_size tree ∙ where_true (has_index (parts_of ps)) _ _ yes_index in
    rw code (resized (sym size) p)

pub place_zero : (lay : Layout) (free : ℕ) {x z : Code} (l : Location) (ps : List Part) → ps ≡ (out-Location l).parts → has_index (parts_of ps) ≡ false → has_offset (location_tree l) ≡ true
    → Appends (i.Push (pos 0) ∷ []) 1 x z → Appends (place_code lay free (location_tree l) (length x.instrs)) (place_size (location_tree l)) x z
place_zero lay free {x} {z} l ps same no_index yes_offset p =
    let tree : location_tree l ≡ location (out-Location l).base (parts_of ps) (out-Location l).count =
    location_tree-out l ∙ ap (λ (v : List Part). location (out-Location l).base (parts_of v) (out-Location l).count) (sym same) in
    let needs : needs_offset (out-Location l).base (parts_of ps) ≡ true = sym (ap has_offset tree) ∙ yes_offset in
    let code : place_code lay free (location_tree l) (length x.instrs) ≡ i.Push (pos 0) ∷ [] =
    ap (λ (t : LocationTree). place_code lay free t (length x.instrs)) tree ∙ where_false (has_index (parts_of ps)) _ _ no_index ∙ where_true (needs_offset (out-Location l).base (parts_of ps)) _ _ needs in
    let size : place_size (location_tree l) ≡ 1 = ap place_size tree ∙ where_false (has_index (parts_of ps)) _ _ no_index ∙ where_true (needs_offset (out-Location l).base (parts_of ps)) _ _ needs in
    rw code (resized (sym size) p)

pub place_none : (lay : Layout) (free : ℕ) {x : Code} (l : Location) (ps : List Part) → ps ≡ (out-Location l).parts → has_index (parts_of ps) ≡ false → has_offset (location_tree l) ≡ false
    → Appends (place_code lay free (location_tree l) (length x.instrs)) (place_size (location_tree l)) x x
place_none lay free {x} l ps same no_index no_offset =
    let tree : location_tree l ≡ location (out-Location l).base (parts_of ps) (out-Location l).count =
    location_tree-out l ∙ ap (λ (v : List Part). location (out-Location l).base (parts_of v) (out-Location l).count) (sym same) in
    let needs : needs_offset (out-Location l).base (parts_of ps) ≡ false = sym (ap has_offset tree) ∙ no_offset in
    let code : place_code lay free (location_tree l) (length x.instrs) ≡ [] =
    ap (λ (t : LocationTree). place_code lay free t (length x.instrs)) tree ∙ where_false (has_index (parts_of ps)) _ _ no_index ∙ where_false (needs_offset (out-Location l).base (parts_of ps)) _ _ needs in
    let size : place_size (location_tree l) ≡ 0 = ap place_size tree ∙ where_false (has_index (parts_of ps)) _ _ no_index ∙ where_false (needs_offset (out-Location l).base (parts_of ps)) _ _ needs in
    rw code (resized (sym size) (nothing x))

-- ---- starts, ranges, arguments and calls

pub start_told : (lay : Layout) (free : ℕ) {x y z : Code} (s : Start) (args : List Received) (n : ℕ) → args ≡ (out-Start s).arguments → n ≡ counts_of (received_of args)
    → Appends (received_codes lay free (received_of args) (length x.instrs)) (received_sizes (received_of args)) x y
    → Appends (i.Start (out-Start s).process n ∷ []) 1 y z → Appends (start_code lay free (start_tree s) (length x.instrs)) (start_size (start_tree s)) x z
start_told lay free {x} {y} {z} s args n same count p q =
    let tree : start_tree s ≡ started (out-Start s).process (received_of args) = start_tree-out s ∙ ap (λ (v : List Received). started (out-Start s).process (received_of v)) (sym same) in
    subst (λ (t : StartTree). Appends (start_code lay free t (length x.instrs)) (start_size t) x z) (sym tree)
    (and_then p (subst (λ (k : ℕ). Appends (i.Start (out-Start s).process k ∷ []) 1 y z) count q))

pub alone_told : (lay : Layout) (free : ℕ) (b : Bounds) {x y1 y2 y3 z : Code} (r : Range) (e : Expr) → (out-Range r).last ≡ None → e ≡ (out-Range r).first.value
    → Appends (expr_code lay free (expr_tree e) (length x.instrs)) (expr_size (expr_tree e)) x y1
    → Appends (i.Index b.low b.high 1 ∷ []) 1 y1 y2 → Appends (i.Copy 1 ∷ []) 1 y2 y3 → Appends (i.Span ∷ i.BitOr ∷ []) 2 y3 z
    → Appends (range_code lay free b (range_tree r) (length x.instrs)) (range_size (range_tree r)) x z
alone_told lay free b {x} {y1} {y2} {y3} {z} r e none same p q s t =
    let tree : range_tree r ≡ alone (expr_tree e) =
    range_tree-out r ∙ ap (λ (o : Option (Box Expr Global)). range_of_boxes (out-Range r).first o) none ∙ ap (λ (v : Expr). alone (expr_tree v)) (sym same) in
    subst (λ (w : RangeTree). Appends (range_code lay free b w (length x.instrs)) (range_size w) x z) (sym tree) (and_then p (and_then q (and_then s t)))

pub between_told : (lay : Layout) (free : ℕ) (b : Bounds) {x y1 y2 y3 y4 z : Code} (r : Range) (e f : Expr) (last : Box Expr Global) → (out-Range r).last ≡ Some last → e ≡ (out-Range r).first.value → f ≡ last.value
    → Appends (expr_code lay free (expr_tree e) (length x.instrs)) (expr_size (expr_tree e)) x y1
    → Appends (i.Index b.low b.high 1 ∷ []) 1 y1 y2
    → Appends (expr_code lay free (expr_tree f) (length y2.instrs)) (expr_size (expr_tree f)) y2 y3
    → Appends (i.Index b.low b.high 1 ∷ []) 1 y3 y4 → Appends (i.Span ∷ i.BitOr ∷ []) 2 y4 z
    → Appends (range_code lay free b (range_tree r) (length x.instrs)) (range_size (range_tree r)) x z
between_told lay free b {x} {y1} {y2} {y3} {y4} {z} r e f last some same same2 p q s t u =
    let tree : range_tree r ≡ between (expr_tree e) (expr_tree f) =
    range_tree-out r ∙ ap (λ (o : Option (Box Expr Global)). range_of_boxes (out-Range r).first o) some
    ∙ ap (λ (v : Expr). between (expr_tree v) (expr_tree last.value)) (sym same) ∙ ap (λ (v : Expr). between (expr_tree e) (expr_tree v)) (sym same2) in
    let there : length y2.instrs ≡ length x.instrs + expr_size (expr_tree e) + 1 = omega (arith, p.length, q.length) in
    subst (λ (w : RangeTree). Appends (range_code lay free b w (length x.instrs)) (range_size w) x z) (sym tree)
    (and_then p (and_then q (and_then (moved (λ at. expr_code lay free (expr_tree f) at) there s) (and_then t u))))

pub in_told : (lay : Layout) (rows : List LocalRowTree) (k free at : ℕ) {x z : Code} (a : Argument) (r : Received) → a ≡ arguments.In r
    → Appends (received_code lay free (received_tree r) at) (received_size (received_tree r)) x z
    → Appends (argument_code lay rows k free (argument_tree a) at) (argument_size (argument_tree a)) x z
in_told lay rows k free at {x} {z} a r is p =
    subst (λ (t : ArgumentTree). Appends (argument_code lay rows k free t at) (argument_size t) x z) (sym (ap argument_tree is ∙ argument_tree-In r)) p

pub out_told : (lay : Layout) (rows : List LocalRowTree) (k free : ℕ) {x y1 y2 z : Code} (a : Argument) (l : Location) (bounds : Option Bounds) → a ≡ arguments.Out l bounds
    → Appends (place_code lay free (location_tree l) (length x.instrs)) (place_size (location_tree l)) x y1
    → Appends (keep_code (location_tree l) free) (offsets_kept (location_tree l)) y1 y2
    → Appends (pushes (lowest_as (out-Location l).count (slice_get rows k))) (out-Location l).count y2 z
    → Appends (argument_code lay rows k free (argument_tree a) (length x.instrs)) (argument_size (argument_tree a)) x z
out_told lay rows k free {x} {y1} {y2} {z} a l bounds is p q r =
    let count : (out-Location l).count ≡ location_scalars (location_tree l) = sym (ap location_scalars (location_tree-out l)) in
    subst (λ (t : ArgumentTree). Appends (argument_code lay rows k free t (length x.instrs)) (argument_size t) x z) (sym (ap argument_tree is ∙ argument_tree-Out l bounds))
    (and_then p (and_then q (subst (λ (n : ℕ). Appends (pushes (lowest_as n (slice_get rows k))) n y2 z) count r)))

pub inout_told : (lay : Layout) (rows : List LocalRowTree) (k free : ℕ) {x y1 y2 y3 y4 z : Code} (a : Argument) (l : Location) (taken_by bounds test : Option Bounds) → a ≡ arguments.InOut l taken_by bounds → test ≡ tested_in taken_by bounds
    → Appends (place_code lay free (location_tree l) (length x.instrs)) (place_size (location_tree l)) x y1
    → Appends (keep_code (location_tree l) free) (offsets_kept (location_tree l)) y1 y2
    → Appends (kept_code (location_tree l) free) (offsets_kept (location_tree l)) y2 y3
    → Appends (contents_code lay (location_tree l)) 1 y3 y4
    → Appends (check_code test) (length (check_code test)) y4 z
    → Appends (argument_code lay rows k free (argument_tree a) (length x.instrs)) (argument_size (argument_tree a)) x z
inout_told lay rows k free {x} {y1} {y2} {y3} {y4} {z} a l taken_by bounds test is same p q r s t =
    subst (λ (w : ArgumentTree). Appends (argument_code lay rows k free w (length x.instrs)) (argument_size w) x z) (sym (ap argument_tree is ∙ argument_tree-InOut l taken_by bounds))
    (and_then p (and_then q (and_then r (and_then s (subst (λ (b : Option Bounds). Appends (check_code b) (length (check_code b)) y4 z) same t)))))

pub call_told : (lay : Layout) (free : ℕ) {x y1 y2 z : Code} (c : Call) (args : List Argument) (rows : List LocalRowTree) (kept : ℕ) → args ≡ (out-Call c).arguments
    → rows_of (slice_get lay.program.bodies (out-Call c).body) ≡ rows → kept ≡ kept_behind (arguments_of args) free
    → Appends (arguments_code lay rows 0 free (arguments_of args) (length x.instrs)) (arguments_size (arguments_of args)) x y1
    → Appends (i.Call (out-Call c).body ∷ []) 1 y1 y2
    → Appends (copies_out lay (arguments_of args) free kept) (copies_out_size (arguments_of args)) y2 z
    → Appends (call_code lay free (call_tree c) (length x.instrs)) (call_size (call_tree c)) x z
call_told lay free {x} {y1} {y2} {z} c args rows kept same found places p q r =
    let tree : call_tree c ≡ called (out-Call c).body (arguments_of args) = call_tree-out c ∙ ap (λ (v : List Argument). called (out-Call c).body (arguments_of v)) (sym same) in
    subst (λ (t : CallTree). Appends (call_code lay free t (length x.instrs)) (call_size t) x z) (sym tree)
    (and_then (subst (λ (v : List LocalRowTree). Appends (arguments_code lay v 0 free (arguments_of args) (length x.instrs)) (arguments_size (arguments_of args)) x y1) (sym found) p)
    (and_then q (subst (λ (k : ℕ). Appends (copies_out lay (arguments_of args) free k) (copies_out_size (arguments_of args)) y2 z) places r)))

-- ---- indices

pub field_told : (lay : Layout) (free at : ℕ) (is_first : Bool) {x : Code} (p : Part) (first count : ℕ) → p ≡ part_variants.Field first count
    → Appends (index_code lay free is_first (part_tree p) at) (index_size is_first (part_tree p)) x x
field_told lay free at is_first {x} p first count is =
    subst (λ (t : PartTree). Appends (index_code lay free is_first t at) (index_size is_first t) x x) (sym (ap part_tree is ∙ part_tree-Field first count)) (nothing x)

sum_length : (b : Bool) → length (sum_code b) ≡ sum_size b
sum_length true = refl
sum_length false = refl

pub element_told : (lay : Layout) (free : ℕ) (is_first : Bool) {x y1 y2 z : Code} (p : Part) (b : Box Expr Global) (bounds : Bounds) (count : ℕ) (e : Expr) → p ≡ part_variants.Element b bounds count → e ≡ b.value
    → Appends (expr_code lay free (expr_tree e) (length x.instrs)) (expr_size (expr_tree e)) x y1
    → Appends (i.Index bounds.low bounds.high count ∷ []) 1 y1 y2
    → Appends (sum_code is_first) (length (sum_code is_first)) y2 z
    → Appends (index_code lay free is_first (part_tree p) (length x.instrs)) (index_size is_first (part_tree p)) x z
element_told lay free is_first {x} {y1} {y2} {z} p b bounds count e is same q r s =
    let tree : part_tree p ≡ one_element (expr_tree e) bounds count = ap part_tree is ∙ part_tree-Element b bounds count ∙ ap (λ (v : Expr). one_element (expr_tree v) bounds count) (sym same) in
    subst (λ (t : PartTree). Appends (index_code lay free is_first t (length x.instrs)) (index_size is_first t) x z) (sym tree) (and_then q (and_then r (resized (sum_length is_first) s)))

-- ---- what is copied out

scalars_are : (l : Location) → (out-Location l).count ≡ location_scalars (location_tree l)
scalars_are l = sym (ap location_scalars (location_tree-out l))

pub under_told : {x z : Code} (l : Location) (kept free : ℕ) → has_offset (location_tree l) ≡ true
    → Appends (i.SetLocal free (out-Location l).count ∷ i.Local kept 1 ∷ i.Local free (out-Location l).count ∷ []) 3 x z
    → Appends (under_code (location_tree l) kept free) (length (under_code (location_tree l) 0 0)) x z
under_told {x} {z} l kept free some p =
    let code : under_code (location_tree l) kept free ≡ i.SetLocal free (location_scalars (location_tree l)) ∷ i.Local kept 1 ∷ i.Local free (location_scalars (location_tree l)) ∷ [] =
    where_true (has_offset (location_tree l)) _ _ some in
    let size : length (under_code (location_tree l) 0 0) ≡ 3 = ap (λ (is : List Instr). length is) (where_true (has_offset (location_tree l)) _ _ some) in
    rw code (resized (sym size) (subst (λ (n : ℕ). Appends (i.SetLocal free n ∷ i.Local kept 1 ∷ i.Local free n ∷ []) 3 x z) (scalars_are l) p))

three_or_none : (b : Bool) (xs : List Instr) → length xs ≡ 3 → length (if b then xs else []) ≡ (if b then 3 else 0)
three_or_none true xs e = e
three_or_none false xs e = refl

under_length : (l : LocationTree) → length (under_code l 0 0) ≡ (if has_offset l then 3 else 0)
under_length l = three_or_none (has_offset l) _ refl

pub copied_in : (lay : Layout) (kept free : ℕ) {x : Code} (a : Argument) (r : Received) → a ≡ arguments.In r → Appends (copy_out lay (argument_tree a) kept free) (copying_size (argument_tree a)) x x
copied_in lay kept free {x} a r is =
    subst (λ (t : ArgumentTree). Appends (copy_out lay t kept free) (copying_size t) x x) (sym (ap argument_tree is ∙ argument_tree-In r)) (nothing x)

copied_by : (lay : Layout) (kept free : ℕ) {x y1 y2 z : Code} (l : Location) (test own : Option Bounds) → own ≡ test
    → Appends (check_code own) (length (check_code own)) x y1
    → Appends (under_code (location_tree l) kept free) (length (under_code (location_tree l) 0 0)) y1 y2
    → Appends (store_code lay (location_tree l)) 1 y2 z
    → Appends (copy_out_code lay (location_tree l) test kept free) (copy_out_size (location_tree l) test) x z
copied_by lay kept free {x} {y1} l test own same p q r =
    and_then (subst (λ (b : Option Bounds). Appends (check_code b) (length (check_code b)) x y1) same p) (and_then (resized (under_length (location_tree l)) q) r)

pub copied_out : (lay : Layout) (kept free : ℕ) {x y1 y2 z : Code} (a : Argument) (l : Location) (bounds own : Option Bounds) → a ≡ arguments.Out l bounds → own ≡ tested_out bounds
    → Appends (check_code own) (length (check_code own)) x y1
    → Appends (under_code (location_tree l) kept free) (length (under_code (location_tree l) 0 0)) y1 y2
    → Appends (store_code lay (location_tree l)) 1 y2 z
    → Appends (copy_out lay (argument_tree a) kept free) (copying_size (argument_tree a)) x z
copied_out lay kept free {x} {y1} {y2} {z} a l bounds own is same p q r =
    subst (λ (t : ArgumentTree). Appends (copy_out lay t kept free) (copying_size t) x z) (sym (ap argument_tree is ∙ argument_tree-Out l bounds)) (copied_by lay kept free l (tested_out bounds) own same p q r)

pub copied_back : (lay : Layout) (kept free : ℕ) {x y1 y2 z : Code} (a : Argument) (l : Location) (taken_by bounds own : Option Bounds) → a ≡ arguments.InOut l taken_by bounds → own ≡ tested_back taken_by bounds
    → Appends (check_code own) (length (check_code own)) x y1
    → Appends (under_code (location_tree l) kept free) (length (under_code (location_tree l) 0 0)) y1 y2
    → Appends (store_code lay (location_tree l)) 1 y2 z
    → Appends (copy_out lay (argument_tree a) kept free) (copying_size (argument_tree a)) x z
copied_back lay kept free {x} {y1} {y2} {z} a l taken_by bounds own is same p q r =
    subst (λ (t : ArgumentTree). Appends (copy_out lay t kept free) (copying_size t) x z) (sym (ap argument_tree is ∙ argument_tree-InOut l taken_by bounds)) (copied_by lay kept free l (tested_back taken_by bounds) own same p q r)
