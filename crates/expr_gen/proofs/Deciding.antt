-- What is appended for the parts of a condition is what its tree says.
use Rattle.std.proofs.Common.{◌≡◌, ℕ, ◌+◌, Bool, List, Some, length, refl, sym, ap, subst, ◌∙◌, false, not, if◌then◌else◌}
use Rattle.std.specs.declared.alloc.Global.{Global}
use Rattle.std.specs.declared.boxed.Box.{Box}
use Rattle.code_types.specs.declared.code.Code.{Code}
use Rattle.code_types.specs.declared.instr.Instr.{Instr}
use Rattle.modes.specs.ModeTree.{class_tree}
use Rattle.checked_program.specs.declared.expr.Binary.{Binary}
use Rattle.checked_program.specs.declared.expr.Expr.{Expr, out-Expr}
use Rattle.checked_program.specs.declared.expr.Operation.TheVariants as operations
use Rattle.checked_program.specs.declared.expr.Received.{Received}
use Rattle.program_trees.specs.ExprTree.{ExprTree, expr, root_bounds, expr_tree, operation_tree, boxed_expr, binary, uniform, received_tree, OperationTree}
use Rattle.code_scheme.specs.Pieces.{Layout, decided_by}
use Rattle.code_scheme.specs.ExprSizes.{condition_size}
use Rattle.code_scheme.specs.ExprCode.{condition_code, first_target}
use Rattle.expr_gen.specs.declared.conditions.Branch.{Branch}
use Rattle.expr_gen.specs.Putting.{Appends}
use Rattle.expr_gen.specs.Trees.{plain_condition, plain_size}
use Rattle.expr_gen.proofs.Appending.{resized}
use Rattle.expr_gen.proofs.Made.{both_made}
use Rattle.expr_gen.proofs.Views.{expr_tree-out, operation_tree-Binary, operation_tree-Uniform}

-- the tree of an expression whose operation has this one
tree_of : (e : Expr) (o : OperationTree) → operation_tree (out-Expr e).operation ≡ o → expr_tree e ≡ expr (out-Expr e).count (root_bounds (class_tree (out-Expr e).class)) o
tree_of e o is = expr_tree-out e ∙ ap (expr (out-Expr e).count (root_bounds (class_tree (out-Expr e).class))) is

-- ---- a value of equal parts is no condition of its own

pub uniform_size : (e : Expr) (m : ℕ) (r : Received) (when : Bool) → (out-Expr e).operation ≡ operations.Uniform m r → condition_size (expr_tree e) when ≡ plain_size (expr_tree e) when
uniform_size e m r when is =
    let tree = tree_of e (uniform m (received_tree r)) (ap operation_tree is ∙ operation_tree-Uniform m r) in
    ap (λ (t : ExprTree). condition_size t when) tree ∙ sym (ap (λ (t : ExprTree). plain_size t when) tree)

pub uniform_condition : (lay : Layout) (free at : ℕ) (when : Bool) (target : ℕ) {x z : Code} (e : Expr) (m : ℕ) (r : Received) → (out-Expr e).operation ≡ operations.Uniform m r
    → Appends (plain_condition lay free (expr_tree e) when target at) (plain_size (expr_tree e) when) x z
    → Appends (condition_code lay free (expr_tree e) when target at) (condition_size (expr_tree e) when) x z
uniform_condition lay free at when target {x} {z} e m r is p =
    let tree = tree_of e (uniform m (received_tree r)) (ap operation_tree is ∙ operation_tree-Uniform m r) in
    let code : plain_condition lay free (expr_tree e) when target at ≡ condition_code lay free (expr_tree e) when target at =
    ap (λ (t : ExprTree). plain_condition lay free t when target at) tree ∙ sym (ap (λ (t : ExprTree). condition_code lay free t when target at) tree) in
    subst (λ (is : List Instr). Appends is (condition_size (expr_tree e) when) x z) code (resized (sym (uniform_size e m r when is)) p)

-- ---- two conditions, of which one value decides the whole

pub decided_told : (lay : Layout) (free : ℕ) {x y z : Code} (e : Expr) (o : Binary) (b c : Box Expr Global) (l1 r1 l2 r2 : Expr) (value when first : Bool) (target goes : ℕ)
    → (out-Expr e).operation ≡ operations.Binary o b c → decided_by o ≡ Some value → l1 ≡ b.value → r1 ≡ c.value → l2 ≡ b.value → r2 ≡ c.value → first ≡ value
    → goes ≡ first_target value when target (length x.instrs + (condition_size (expr_tree l1) value + condition_size (expr_tree r1) when))
    → Appends (condition_code lay free (expr_tree l2) first goes (length x.instrs)) (condition_size (expr_tree l2) first) x y
    → Appends (condition_code lay free (expr_tree r2) when target (length y.instrs)) (condition_size (expr_tree r2) when) y z
    → Appends (condition_code lay free (expr_tree e) when target (length x.instrs)) (condition_size (expr_tree e) when) x z
decided_told lay free {x} {y} {z} e o b c l1 r1 l2 r2 value when first target goes is decides left1 right1 left2 right2 same there p q =
    let at : ℕ = length x.instrs in
    let left : ExprTree = boxed_expr b in
    let right : ExprTree = boxed_expr c in
    let to : ℕ = first_target value when target (length x.instrs + (condition_size (boxed_expr b) value + condition_size (boxed_expr c) when)) in
    let goes_to : goes ≡ first_target value when target (length x.instrs + (condition_size (boxed_expr b) value + condition_size (boxed_expr c) when)) =
    there ∙ ap (λ (v : Expr). first_target value when target (length x.instrs + (condition_size (expr_tree v) value + condition_size (expr_tree r1) when))) left1
    ∙ ap (λ (v : Expr). first_target value when target (length x.instrs + (condition_size (boxed_expr b) value + condition_size (expr_tree v) when))) right1 in
    let p1 = subst (λ (v : Expr). Appends (condition_code lay free (expr_tree v) first goes (length x.instrs)) (condition_size (expr_tree v) first) x y) left2 p in
    let p2 = subst (λ (w : Bool). Appends (condition_code lay free (boxed_expr b) w goes (length x.instrs)) (condition_size (boxed_expr b) w) x y) same p1 in
    let p3 = subst (λ (j : ℕ). Appends (condition_code lay free (boxed_expr b) value j (length x.instrs)) (condition_size (boxed_expr b) value) x y) goes_to p2 in
    let q1 = subst (λ (v : Expr). Appends (condition_code lay free (expr_tree v) when target (length y.instrs)) (condition_size (expr_tree v) when) y z) right2 q in
    let all = both_made lay free (boxed_expr b) (boxed_expr c) value when target (first_target value when target (length x.instrs + (condition_size (boxed_expr b) value + condition_size (boxed_expr c) when))) p3 q1 in
    let tree = tree_of e (binary o (boxed_expr b) (boxed_expr c)) (ap operation_tree is ∙ operation_tree-Binary o b c) in
    subst (λ (t : ExprTree). Appends (condition_code lay free t when target (length x.instrs)) (condition_size t when) x z) (sym tree) (rw decides all)

abbrev branch_at : Bool → ℕ → Branch
branch_at value target = record { when = value; target = target }

else_of : (b : Bool) (m n : ℕ) → b ≡ false → (if b then m else n) ≡ n
else_of b m n e = rw e refl

pub goes_behind : (branch : Branch) (value : Bool) (goes behind : ℕ) → (if value then branch.when else not branch.when) ≡ false → goes ≡ behind
    → branch_at value goes ≡ branch_at value (first_target value branch.when branch.target behind)
goes_behind branch value goes behind differs e = ap (λ (j : ℕ). branch_at value j) (e ∙ sym (else_of (if value then branch.when else not branch.when) branch.target behind differs))
