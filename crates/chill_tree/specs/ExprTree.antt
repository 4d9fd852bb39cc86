-- Expressions as they are written, without where they lie in memory.
use Rattle.std.specs.Prelude.{ℕ, List, [], ◌∷◌, map, Option, Some, None, option_map}
use Rattle.std.specs.declared.alloc.Global.{Global}
use Rattle.std.specs.declared.boxed.Box.{Box}
use Rattle.chill_base.specs.declared.pos.Pos.{Pos}
use Rattle.chill_tree.specs.declared.tree.name.Name.{Name}
use Rattle.chill_tree.specs.declared.tree.expr.Operator.{Operator}
use Rattle.chill_tree.specs.declared.tree.expr.Prefix.{Prefix}
use Rattle.chill_tree.specs.declared.tree.expr.Expr.{Expr, Expr-F, fold-Expr}
use Rattle.chill_tree.specs.declared.tree.expr.Expr.TheOpen as opens
use Rattle.chill_tree.specs.declared.tree.expr.ValueRange.{ValueRange, ValueRange-F, fold-ValueRange}

mutual
  -- an expression or a location: each node with the place of its first token
  pub data ExprTree : Type 0 where
    whole : Pos → ℕ → ExprTree
    character : Pos → ℕ → ExprTree
    text : Pos → List ℕ → ExprTree
    this_instance : Pos → ExprTree
    paren : Pos → ExprTree → ExprTree
    receive : Pos → Name → ExprTree
    start : Pos → Name → ExprNodes → ExprTree
    -- the place of the bracket comes before the parts
    tuple : Pos → Option Name → Pos → RangeNodes → ExprTree
    uniform : Pos → Option Name → Pos → ExprTree → ExprTree
    name : Name → ExprTree
    apply : Pos → ExprTree → ExprNodes → ExprTree
    field : Pos → ExprTree → Name → ExprTree
    prefixed : Pos → Prefix → ExprTree → ExprTree
    -- the place of the operator comes behind it
    binary : Pos → ExprTree → Operator → Pos → ExprTree → ExprTree

  -- a list of expressions
  pub data ExprNodes : Type 0 where
    no_exprs : ExprNodes
    more_exprs : ExprTree → ExprNodes → ExprNodes

  -- an expression alone, or two with what lies between them
  pub data RangeTree : Type 0 where
    alone : ExprTree → RangeTree
    between : ExprTree → ExprTree → RangeTree

  -- a list of those
  pub data RangeNodes : Type 0 where
    no_ranges : RangeNodes
    more_ranges : RangeTree → RangeNodes → RangeNodes

-- a list of expressions as nodes hold it
abbrev pub expr_nodes : List ExprTree → ExprNodes
expr_nodes [] = no_exprs
expr_nodes (e ∷ es) = more_exprs e (expr_nodes es)

-- the expressions that a node holds
abbrev pub exprs_in : ExprNodes → List ExprTree
exprs_in no_exprs = []
exprs_in (more_exprs e es) = e ∷ exprs_in es

-- a list of ranges as nodes hold it
abbrev pub range_nodes : List RangeTree → RangeNodes
range_nodes [] = no_ranges
range_nodes (r ∷ rs) = more_ranges r (range_nodes rs)

-- the ranges that a node holds
abbrev pub ranges_in : RangeNodes → List RangeTree
ranges_in no_ranges = []
ranges_in (more_ranges r rs) = r ∷ ranges_in rs

-- the place of an expression's first token
abbrev pub place_of : ExprTree → Pos
place_of (whole at n) = at
place_of (character at n) = at
place_of (text at n) = at
place_of (this_instance at) = at
place_of (paren at e) = at
place_of (receive at n) = at
place_of (start at n es) = at
place_of (tuple at m b rs) = at
place_of (uniform at m b e) = at
place_of (name n) = n.at
place_of (apply at e es) = at
place_of (field at e n) = at
place_of (prefixed at o e) = at
place_of (binary at l o p r) = at

-- the name that an expression is
abbrev pub name_in : ExprTree → Option Name
name_in (name n) = Some n
name_in _ = None

-- the name before brackets, and what is in them
abbrev pub named_apply : ExprNodes → ExprTree → Option (Name × ExprNodes)
named_apply es e = option_map (λ n. (n, es)) (name_in e)

-- the name and what is in its brackets, where the expression is a name with brackets behind it
abbrev pub applied_in : ExprTree → Option (Name × ExprNodes)
applied_in (apply at e es) = named_apply es e
applied_in _ = None

-- ---- the trees of values

abbrev pub range_of : ExprTree → Option ExprTree → RangeTree
range_of e None = alone e
range_of e (Some f) = between e f

abbrev pub expr_layer : Expr-F ExprTree RangeTree → ExprTree
expr_layer (opens.Whole at n) = whole at n
expr_layer (opens.Char at n) = character at n
expr_layer (opens.Text at n) = text at n
expr_layer (opens.This at) = this_instance at
expr_layer (opens.Paren at e) = paren at e.value
expr_layer (opens.Receive at n) = receive at n
expr_layer (opens.Start at n es) = start at n (expr_nodes es)
expr_layer (opens.Tuple at m b rs) = tuple at m b (range_nodes rs)
expr_layer (opens.Uniform at m b e) = uniform at m b e.value
expr_layer (opens.Name n) = name n
expr_layer (opens.Apply at e es) = apply at e.value (expr_nodes es)
expr_layer (opens.Field at e n) = field at e.value n
expr_layer (opens.Prefixed at o e) = prefixed at o e.value
expr_layer (opens.Binary at l o p r) = binary at l.value o p r.value

abbrev pub range_layer : ValueRange-F ExprTree RangeTree → RangeTree
range_layer r = range_of r.first.value (option_map (λ e. e.value) r.last)

-- the tree of an expression
unfoldable pub expr_tree : Expr → ExprTree
expr_tree = fold-Expr ExprTree RangeTree expr_layer range_layer

-- the tree of an expression in a box
abbrev pub boxed_expr : Box Expr Global → ExprTree
boxed_expr b = expr_tree b.value

-- the tree of a range
unfoldable pub range_tree : ValueRange → RangeTree
range_tree = fold-ValueRange ExprTree RangeTree expr_layer range_layer

abbrev pub expr_trees : List Expr → List ExprTree
expr_trees es = map expr_tree es

abbrev pub range_trees : List ValueRange → List RangeTree
range_trees rs = map range_tree rs
