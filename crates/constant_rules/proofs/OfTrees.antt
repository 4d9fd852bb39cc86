-- What is found of an expression in Rust's fields, by the tree that it is.
use Rattle.std.proofs.Common.{◌≡◌, ℕ, Bool, true, false, List, ◌++◌, Option, Some, None, ap, sym, subst, ◌∙◌}
use Rattle.std.specs.Prelude.{◌&&◌, option_map, if◌then◌else◌}
use Rattle.std.specs.declared.alloc.Global.{Global}
use Rattle.std.specs.declared.boxed.Box.{Box}
use Rattle.chill_base.specs.declared.pos.Pos.{Pos}
use Rattle.chill_tree.specs.declared.tree.name.Name.{Name}
use Rattle.chill_tree.specs.declared.tree.expr.Operator.{Operator}
use Rattle.chill_tree.specs.declared.tree.expr.Expr.{Expr}
use Rattle.chill_tree.specs.declared.tree.expr.ValueRange.{ValueRange, out-ValueRange}
use Rattle.chill_tree.specs.ExprTree.{ExprTree, RangeTree, RangeNodes, tuple, uniform, binary, alone, between, range_of, place_of, expr_tree, boxed_expr, range_tree, range_nodes, range_trees}
use Rattle.diagnostics.specs.declared.diagnostic.Diagnostic.{Diagnostic}
use Rattle.modes.specs.ModeTree.{ModeTree, ClassTree}
use Rattle.modes.specs.Form.{form_of}
use Rattle.modes.specs.Bounds.{values_of}
use Rattle.modes.proofs.SimilarLemmas.{both}
use Rattle.checks_model.specs.TestLaws.{GoesWithTestLaw}
use Rattle.checks_model.specs.ValueTrees.{ValueTree}
use Rattle.checks_model.specs.Ground.{Ground}
use Rattle.checks_model.specs.Classes.{class_of, shape_fits}
use Rattle.checks_model.specs.Constants.{has_form, have_form, range_has_form, constant_of}
use Rattle.checks_model.specs.ConstantRules.{told_of_constants, told_if_constant}
use Rattle.constant_operators.specs.declared.known.Known.{Known}
use Rattle.constant_operators.specs.Known.{IsVarying, binary_class, binary_value}
use Rattle.constant_rules.specs.declared.parts.Blame.{Blame}
use Rattle.constant_rules.specs.declared.parts.Part.{Part}
use Rattle.constant_rules.specs.declared.parts.Span.{Span}
use Rattle.constant_rules.specs.declared.parts.Tupled.{Tupled}
use Rattle.constant_rules.specs.Found.{IsFound, FindsAt, Varies}
use Rattle.constant_rules.specs.Walks.{FindsExpr, binary_told, told_in_all, told_in_ends, is_own}
use Rattle.constant_rules.specs.Parts.{IsReceived, IsTuplePart, Judges, array_parts, times, misfit_told, outside_part, all_pass, clean_part, going_part, inside_part, few_in, flat_of_spans, told_of_spans}
use Rattle.constant_rules.specs.Tuples.{FindsTupled, FindsPart, FindsSpan, FindsSpans, PassesSpans}
use Rattle.constant_rules.proofs.OfExprs.{varying_parts, varying_value, named_so, binary_found}
use Rattle.constant_rules.proofs.OfKinds.{of_alone, of_between}
use Rattle.constant_rules.proofs.PartFound.{tuple_part, array_found, own_part}
use Rattle.constant_rules.proofs.SpanFound.{between_span}
use Rattle.constant_rules.proofs.TuplesFound.{tuple_found}
use Rattle.constant_rules.proofs.Views.{range_out}

-- an expression that is this tree
pub at_tree : (g : Ground) (x y : ExprTree) (old new : List Diagnostic) (k : Known) → x ≡ y → FindsExpr g y old new k → FindsExpr g x old new k
at_tree g x y old new k e h = subst (λ (x : ExprTree). FindsExpr g x old new k) (sym e) h

-- the same of equal expressions
pub same_expr : (g : Ground) (x y : Expr) (old new : List Diagnostic) (k : Known) → x ≡ y → FindsExpr g (expr_tree x) old new k → FindsExpr g (expr_tree y) old new k
same_expr g x y old new k e h = subst (λ (x : Expr). FindsExpr g (expr_tree x) old new k) e h

abbrev FindsBoth : Ground → Pos → Operator → List Diagnostic → List Diagnostic → Known → Known → Known → Type 0
FindsBoth g p o next new a b k = (f h : Bool) (s t : List Diagnostic) (c d : Option ClassTree) (v w : Option ValueTree) → IsFound f s c v a → IsFound h t d w b
    → FindsAt (f && h) (s ++ t) (told_if_constant (f && h) (binary_told p o c v d w)) (binary_class o c d) (binary_value o v d w) next new k

pub binary_so : (g : Ground) (x : ExprTree) (at : Pos) (l : Expr) (o : Operator) (p : Pos) (r y z : Expr) (old mid next new : List Diagnostic) (a b k : Known) → x ≡ binary at (expr_tree l) o p (expr_tree r) → y ≡ l → z ≡ r
    → FindsExpr g (expr_tree y) old mid a → FindsExpr g (expr_tree z) mid next b → FindsBoth g p o next new a b k → FindsExpr g x old new k
binary_so g x at l o p r y z old mid next new a b k tree left right one other h =
    let mine = same_expr g y l old mid a left one in
    let theirs = same_expr g z r mid next b right other in
    at_tree g x (binary at (expr_tree l) o p (expr_tree r)) old new k tree
    (binary_found g at (expr_tree l) o p (expr_tree r) mine theirs
    (h (has_form g false (expr_tree l)) (has_form g false (expr_tree r)) (told_of_constants g (expr_tree l)) (told_of_constants g (expr_tree r)) (class_of g (expr_tree l)) (class_of g (expr_tree r)) (constant_of g (expr_tree l)) (constant_of g (expr_tree r)) mine.found theirs.found))

-- ---- tuples

-- of constants, with a mode's name
pub tuple_named : (g : Ground) (x : ExprTree) (at : Pos) (m : Option Name) (n : Name) (b : Pos) (rs ys : List ValueRange) (old new : List Diagnostic) (k : Known) → x ≡ tuple at m b (range_nodes (range_trees rs)) → ys ≡ rs → (if have_form g (range_nodes (range_trees rs)) then m else None) ≡ Some n
    → ((at : Pos) → have_form g (range_nodes (range_trees ys)) ≡ true → FindsExpr g (tuple at (Some n) b (range_nodes (range_trees ys))) old new k) → FindsExpr g x old new k
tuple_named g x at m n b rs ys old new k tree slice named h =
    let so = named_so (have_form g (range_nodes (range_trees rs))) named in
    at_tree g x (tuple at (Some n) b (range_nodes (range_trees rs))) old new k (tree ∙ ap (λ (m : Option Name). tuple at m b (range_nodes (range_trees rs))) so.1)
    (subst (λ (ys : List ValueRange). (at : Pos) → have_form g (range_nodes (range_trees ys)) ≡ true → FindsExpr g (tuple at (Some n) b (range_nodes (range_trees ys))) old new k) slice h at so.0)

-- another
pub tuple_varies : (g : Ground) (x : ExprTree) (at : Pos) (m : Option Name) (b : Pos) (rs ys : List ValueRange) (old new : List Diagnostic) (k : Known) → x ≡ tuple at m b (range_nodes (range_trees rs)) → ys ≡ rs → (if have_form g (range_nodes (range_trees rs)) then m else None) ≡ None
    → Varies (told_in_all g (range_nodes (range_trees ys))) old new k → FindsExpr g x old new k
tuple_varies g x at m b rs ys old new k tree slice none h =
    at_tree g x (tuple at m b (range_nodes (range_trees rs))) old new k tree
    (varying_parts g at m b (range_nodes (range_trees rs)) none (subst (λ (ys : List ValueRange). Varies (told_in_all g (range_nodes (range_trees ys))) old new k) slice h))

pub value_named : (g : Ground) (x : ExprTree) (at : Pos) (m : Option Name) (n : Name) (b : Pos) (e y : Expr) (old new : List Diagnostic) (k : Known) → x ≡ uniform at m b (expr_tree e) → y ≡ e → (if has_form g true (expr_tree e) then m else None) ≡ Some n
    → ((at : Pos) → has_form g true (expr_tree y) ≡ true → FindsExpr g (uniform at (Some n) b (expr_tree y)) old new k) → FindsExpr g x old new k
value_named g x at m n b e y old new k tree own named h =
    let so = named_so (has_form g true (expr_tree e)) named in
    at_tree g x (uniform at (Some n) b (expr_tree e)) old new k (tree ∙ ap (λ (m : Option Name). uniform at m b (expr_tree e)) so.1)
    (subst (λ (y : Expr). (at : Pos) → has_form g true (expr_tree y) ≡ true → FindsExpr g (uniform at (Some n) b (expr_tree y)) old new k) own h at so.0)

pub value_varies : (g : Ground) (x : ExprTree) (at : Pos) (m : Option Name) (b : Pos) (e y : Expr) (old new : List Diagnostic) (k : Known) → x ≡ uniform at m b (expr_tree e) → y ≡ e → (if has_form g true (expr_tree e) then m else None) ≡ None
    → Varies (told_of_constants g (expr_tree y)) old new k → FindsExpr g x old new k
value_varies g x at m b e y old new k tree own none h =
    at_tree g x (uniform at m b (expr_tree e)) old new k tree
    (varying_value g at m b (expr_tree e) none (subst (λ (y : Expr). Varies (told_of_constants g (expr_tree y)) old new k) own h))

-- ---- parts of a tuple

-- a tuple without a mode's name
pub parts_part : (law : GoesWithTestLaw) (g : Ground) (blame : Blame) (m : ModeTree) (x : ExprTree) (at : Pos) (n : Option Name) (b : Pos) (rs ys : List ValueRange) (old new : List Diagnostic) (t : Tupled) (part : Part) → x ≡ tuple at n b (range_nodes (range_trees rs)) → n ≡ None → ys ≡ rs → has_form g true x ≡ true
    → ((at : Pos) → have_form g (range_nodes (range_trees ys)) ≡ true → FindsTupled g blame m (tuple at None b (range_nodes (range_trees ys))) old new t) → IsTuplePart blame m at t part → FindsPart g blame (Some m) x old new part
parts_part law g blame m x at n b rs ys old new t part tree none slice form h is =
    let same : x ≡ tuple at None b (range_nodes (range_trees rs)) = tree ∙ ap (λ (n : Option Name). tuple at n b (range_nodes (range_trees rs))) none in
    let form_so : has_form g true (tuple at None b (range_nodes (range_trees rs))) ≡ true = ap (has_form g true) (sym same) ∙ form in
    let found = subst (λ (ys : List ValueRange). (at : Pos) → have_form g (range_nodes (range_trees ys)) ≡ true → FindsTupled g blame m (tuple at None b (range_nodes (range_trees ys))) old new t) slice h at form_so in
    subst (λ (x : ExprTree). FindsPart g blame (Some m) x old new part) (sym same) (tuple_part law g blame m (tuple at None b (range_nodes (range_trees rs))) found is)

-- one without a mode's name, of one value
pub value_part : (law : GoesWithTestLaw) (g : Ground) (blame : Blame) (m : ModeTree) (x : ExprTree) (at : Pos) (n : Option Name) (b : Pos) (e y : Expr) (old new : List Diagnostic) (t : Tupled) (part : Part) → x ≡ uniform at n b (expr_tree e) → n ≡ None → y ≡ e → has_form g true x ≡ true
    → ((at : Pos) → has_form g true (expr_tree y) ≡ true → FindsTupled g blame m (uniform at None b (expr_tree y)) old new t) → IsTuplePart blame m at t part → FindsPart g blame (Some m) x old new part
value_part law g blame m x at n b e y old new t part tree none own form h is =
    let same : x ≡ uniform at None b (expr_tree e) = tree ∙ ap (λ (n : Option Name). uniform at n b (expr_tree e)) none in
    let form_so : has_form g true (uniform at None b (expr_tree e)) ≡ true = ap (has_form g true) (sym same) ∙ form in
    let found = subst (λ (y : Expr). (at : Pos) → has_form g true (expr_tree y) ≡ true → FindsTupled g blame m (uniform at None b (expr_tree y)) old new t) own h at form_so in
    subst (λ (x : ExprTree). FindsPart g blame (Some m) x old new part) (sym same) (tuple_part law g blame m (uniform at None b (expr_tree e)) found is)

-- one with a mode's name is no tuple without it
pub tuple_own : (x : ExprTree) (at : Pos) (m : Option Name) (n : Name) (b : Pos) (rs : List ValueRange) → x ≡ tuple at m b (range_nodes (range_trees rs)) → m ≡ Some n → is_own x ≡ true
tuple_own x at m n b rs tree some = ap is_own (tree ∙ ap (λ (m : Option Name). tuple at m b (range_nodes (range_trees rs))) some)

pub value_own : (x : ExprTree) (at : Pos) (m : Option Name) (n : Name) (b : Pos) (e : Expr) → x ≡ uniform at m b (expr_tree e) → m ≡ Some n → is_own x ≡ true
value_own x at m n b e tree some = ap is_own (tree ∙ ap (λ (m : Option Name). uniform at m b (expr_tree e)) some)

-- ---- ranges

-- the ends of a range that isn't constant
pub ends_alone : (g : Ground) (r : ValueRange) (e y : Expr) (old new : List Diagnostic) (k l : Known) → range_tree r ≡ alone (expr_tree e) → y ≡ e → FindsExpr g (expr_tree y) old new k → IsVarying None k.is_clean l → Varies (told_in_ends g (range_tree r)) old new l
ends_alone g r e y old new k l tree own h v =
    subst (λ (r : RangeTree). Varies (told_in_ends g r) old new l) (sym tree) (of_alone g (expr_tree e) old new k l (same_expr g y e old new k own h) v)

pub ends_between : (g : Ground) (r : ValueRange) (e u y z : Expr) (old mid new : List Diagnostic) (a b k : Known) → range_tree r ≡ between (expr_tree e) (expr_tree u) → y ≡ e → z ≡ u → FindsExpr g (expr_tree y) old mid a → FindsExpr g (expr_tree z) mid new b → IsVarying None (a.is_clean && b.is_clean) k
    → Varies (told_in_ends g (range_tree r)) old new k
ends_between g r e u y z old mid new a b k tree left right one other v =
    subst (λ (r : RangeTree). Varies (told_in_ends g r) old new k) (sym tree)
    (of_between g (expr_tree e) (expr_tree u) old mid new a b k (same_expr g y e old mid a left one) (same_expr g z u mid new b right other) v)

-- a range of a tuple of constants
pub span_between : (g : Ground) (blame : Blame) (m : Option ModeTree) (r : ValueRange) (e u y z : Expr) (old mid new : List Diagnostic) (first last : Part) → range_tree r ≡ between (expr_tree e) (expr_tree u) → y ≡ e → z ≡ u → range_has_form g (range_tree r) ≡ true
    → (has_form g true (expr_tree y) ≡ true → FindsPart g blame m (expr_tree y) old mid first) → (has_form g true (expr_tree z) ≡ true → FindsPart g blame m (expr_tree z) mid new last) → FindsSpan g blame m (range_tree r) old new (record { first = first; last = Some last })
span_between g blame m r e u y z old mid new first last tree left right form one other =
    let forms = both (has_form g true (expr_tree e)) (has_form g true (expr_tree u)) (ap (range_has_form g) (sym tree) ∙ form) in
    let mine = subst (λ (y : Expr). has_form g true (expr_tree y) ≡ true → FindsPart g blame m (expr_tree y) old mid first) left one forms.0 in
    let theirs = subst (λ (z : Expr). has_form g true (expr_tree z) ≡ true → FindsPart g blame m (expr_tree z) mid new last) right other forms.1 in
    subst (λ (r : RangeTree). FindsSpan g blame m r old new (record { first = first; last = Some last })) (sym tree) (between_span g blame m (expr_tree e) (expr_tree u) old mid new first last mine theirs)

-- of a range with one end or two
pub range_alone : (r : ValueRange) → (out-ValueRange r).last ≡ None → range_tree r ≡ alone (boxed_expr (out-ValueRange r).first)
range_alone r e = range_out r ∙ ap (λ (o : Option (Box Expr Global)). range_of (boxed_expr (out-ValueRange r).first) (option_map boxed_expr o)) e

pub range_between : (r : ValueRange) (b : Box Expr Global) → (out-ValueRange r).last ≡ Some b → range_tree r ≡ between (boxed_expr (out-ValueRange r).first) (boxed_expr b)
range_between r b e = range_out r ∙ ap (λ (o : Option (Box Expr Global)). range_of (boxed_expr (out-ValueRange r).first) (option_map boxed_expr o)) e

-- ---- by what is known of the parts

-- a tuple that has the form of its mode
pub tuple_of_spans : (g : Ground) (blame : Blame) (m n : ModeTree) (at b : Pos) (rs : RangeNodes) (ss ts : List Span) (old mid new : List Diagnostic) (t : Tupled) → have_form g rs ≡ true → shape_fits rs (form_of m) ≡ true → n ≡ m → ts ≡ ss → FindsSpans g blame m rs old mid ss
    → Judges blame (all_pass clean_part ts) (all_pass going_part ts && all_pass inside_part ts) (few_in (form_of n)) (told_of_spans b ts) (flat_of_spans (form_of n) ts) mid new t → FindsTupled g blame m (tuple at None b rs) old new t
tuple_of_spans g blame m n at b rs ss ts old mid new t form fits mode same found h =
    tuple_found g blame m at b rs ss old form fits found
    (subst (λ (n : ModeTree). Judges blame (all_pass clean_part ss) (all_pass going_part ss && all_pass inside_part ss) (few_in (form_of n)) (told_of_spans b ss) (flat_of_spans (form_of n) ss) mid new t) mode
    (subst (λ (ss : List Span). Judges blame (all_pass clean_part ss) (all_pass going_part ss && all_pass inside_part ss) (few_in (form_of n)) (told_of_spans b ss) (flat_of_spans (form_of n) ss) mid new t) same h))

-- one value for all elements of an array
pub array_of_part : (g : Ground) (blame : Blame) (m i x n : ModeTree) (at b : Pos) (e : ExprTree) (part : Part) (old mid new : List Diagnostic) (t : Tupled) → has_form g true e ≡ true → array_parts (form_of m) ≡ Some (i, x) → n ≡ i → FindsPart g blame (Some x) e old mid part
    → Judges blame part.known.is_clean (part.goes && part.lies_inside) true (misfit_told b part.goes ++ outside_part part) (option_map (times (values_of n)) part.known.value) mid new t → FindsTupled g blame m (uniform at None b e) old new t
array_of_part g blame m i x n at b e part old mid new t form is index found h =
    array_found g blame m i x at b e part old form is found
    (subst (λ (n : ModeTree). Judges blame part.known.is_clean (part.goes && part.lies_inside) true (misfit_told b part.goes ++ outside_part part) (option_map (times (values_of n)) part.known.value) mid new t) index h)

-- a part that is no tuple without a mode's name
pub part_of_own : (law : GoesWithTestLaw) (g : Ground) (blame : Blame) (m n : ModeTree) (x : ExprTree) (at : Pos) (old new : List Diagnostic) (k : Known) (part : Part) → is_own x ≡ true → has_form g true x ≡ true → n ≡ m → at ≡ place_of x → FindsExpr g x old new k → IsReceived n at k part → FindsPart g blame (Some m) x old new part
part_of_own law g blame m n x at old new k part own form mode place h received =
    own_part law g blame m x old own form h
    (subst (λ (q : Pos). IsReceived m q k part) place (subst (λ (n : ModeTree). IsReceived n at k part) mode received))

-- the same of equal lists of parts
pub spans_so : (g : Ground) (blame : Blame) (m : ModeTree) (k : ℕ) (rest all : RangeNodes) (old new : List Diagnostic) (ss ts : List Span) → ts ≡ ss → PassesSpans g blame m k rest all old new ss → PassesSpans g blame m k rest all old new ts
spans_so g blame m k rest all old new ss ts e h = subst (λ (ss : List Span). PassesSpans g blame m k rest all old new ss) (sym e) h
