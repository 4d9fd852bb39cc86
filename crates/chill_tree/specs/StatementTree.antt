-- Statements, handlers and bodies as they are written, without where they lie in memory.
use Rattle.std.specs.Prelude.{List, [], ◌∷◌, map, Option, Some, None, option_map}
use Rattle.std.specs.declared.alloc.Global.{Global}
use Rattle.std.specs.declared.boxed.Box.{Box}
use Rattle.chill_base.specs.declared.pos.Pos.{Pos}
use Rattle.chill_tree.specs.declared.tree.name.Name.{Name}
use Rattle.chill_tree.specs.declared.tree.statement.Statement.{Statement, Statement-F, fold-Statement}
use Rattle.chill_tree.specs.declared.tree.statement.BodyPart.TheOpen as opens
use Rattle.chill_tree.specs.declared.tree.statement.Bracketed.{Bracketed, Bracketed-F, fold-Bracketed}
use Rattle.chill_tree.specs.declared.tree.statement.ElsIf.{ElsIf, ElsIf-F, fold-ElsIf}
use Rattle.chill_tree.specs.declared.tree.statement.CaseAlternative.{CaseAlternative, CaseAlternative-F, fold-CaseAlternative}
use Rattle.chill_tree.specs.declared.tree.statement.NamedAlternative.{NamedAlternative, NamedAlternative-F, fold-NamedAlternative}
use Rattle.chill_tree.specs.declared.tree.statement.ReceiveAlternative.{ReceiveAlternative, ReceiveAlternative-F, fold-ReceiveAlternative}
use Rattle.chill_tree.specs.declared.tree.statement.Handler.{Handler, Handler-F, fold-Handler}
use Rattle.chill_tree.specs.declared.tree.statement.BodyPart.{BodyPart, BodyPart-F, fold-BodyPart}
use Rattle.chill_tree.specs.ExprTree.{ExprTree, boxed_expr, RangeTree, range_trees}
use Rattle.chill_tree.specs.LocalTree.{LocalTree, local_tree}
use Rattle.chill_tree.specs.SimpleTree.{SimpleTree, boxed_simple, ControlTree, control_tree}

mutual
  -- a statement
  pub data StatementTree : Type 0 where
    empty : Pos → StatementTree
    simple : Pos → SimpleTree → HandlerNode → StatementTree
    bracketed : Pos → Option Name → BracketedTree → HandlerNode → Option Name → StatementTree

  -- an action that holds others
  pub data BracketedTree : Type 0 where
    if_then : Pos → ExprTree → StatementNodes → ElsIfNodes → OtherwiseNode → BracketedTree
    case_of : Pos → ExprTree → CaseNodes → OtherwiseNode → BracketedTree
    do_loop : Pos → ControlTree → StatementNodes → BracketedTree
    begin_end : Pos → BodyNodes → BracketedTree
    delay_case : Pos → Option ExprTree → Option ExprTree → NamedNodes → BracketedTree
    receive_case : Pos → Option ExprTree → ReceiveNodes → OtherwiseNode → BracketedTree

  pub data StatementNodes : Type 0 where
    no_statements : StatementNodes
    more_statements : StatementTree → StatementNodes → StatementNodes

  pub data ElsIfNodes : Type 0 where
    no_branches : ElsIfNodes
    more_branches : Pos → ExprTree → StatementNodes → ElsIfNodes → ElsIfNodes

  pub data CaseNodes : Type 0 where
    no_cases : CaseNodes
    more_cases : Pos → List RangeTree → StatementNodes → CaseNodes → CaseNodes

  pub data NamedNodes : Type 0 where
    no_named : NamedNodes
    more_named : Pos → List Name → StatementNodes → NamedNodes → NamedNodes

  pub data ReceiveNodes : Type 0 where
    no_receives : ReceiveNodes
    more_receives : Pos → Name → Option (List Name) → StatementNodes → ReceiveNodes → ReceiveNodes

  pub data OtherwiseNode : Type 0 where
    no_otherwise : OtherwiseNode
    otherwise : StatementNodes → OtherwiseNode

  pub data HandlerNode : Type 0 where
    no_handler : HandlerNode
    handler : Pos → NamedNodes → OtherwiseNode → HandlerNode

  pub data BodyNodes : Type 0 where
    no_parts : BodyNodes
    more_locals : LocalTree → BodyNodes → BodyNodes
    more_actions : StatementTree → BodyNodes → BodyNodes

-- a further condition and its actions
pub record ElsIfTree : Type 0 where
  pub at : Pos
  pub condition : ExprTree
  pub actions : List StatementTree

-- labels and their actions
pub record CaseTree : Type 0 where
  pub at : Pos
  pub labels : List RangeTree
  pub actions : List StatementTree

-- events or exceptions and their actions
pub record NamedTree : Type 0 where
  pub at : Pos
  pub names : List Name
  pub actions : List StatementTree

-- a buffer or signal, the names that get what comes, and their actions
pub record ReceiveTree : Type 0 where
  pub at : Pos
  pub source : Name
  pub received : Option (List Name)
  pub actions : List StatementTree

-- a handler
pub record HandlerTree : Type 0 where
  pub at : Pos
  pub alternatives : List NamedTree
  pub otherwise_part : Option (List StatementTree)

-- a part of a body
pub data BodyTree : Type 0 where
  local_part : LocalTree → BodyTree
  action_part : StatementTree → BodyTree

-- ---- lists as nodes hold them, and the lists that nodes hold

abbrev pub statement_nodes : List StatementTree → StatementNodes
statement_nodes [] = no_statements
statement_nodes (s ∷ ss) = more_statements s (statement_nodes ss)

abbrev pub statements_in : StatementNodes → List StatementTree
statements_in no_statements = []
statements_in (more_statements s ss) = s ∷ statements_in ss

abbrev pub branch_nodes : List ElsIfTree → ElsIfNodes
branch_nodes [] = no_branches
branch_nodes (b ∷ bs) = more_branches b.at b.condition (statement_nodes b.actions) (branch_nodes bs)

abbrev pub branches_in : ElsIfNodes → List ElsIfTree
branches_in no_branches = []
branches_in (more_branches at c ss bs) = record { at = at; condition = c; actions = statements_in ss } ∷ branches_in bs

abbrev pub case_nodes : List CaseTree → CaseNodes
case_nodes [] = no_cases
case_nodes (a ∷ as') = more_cases a.at a.labels (statement_nodes a.actions) (case_nodes as')

abbrev pub cases_in : CaseNodes → List CaseTree
cases_in no_cases = []
cases_in (more_cases at ls ss as') = record { at = at; labels = ls; actions = statements_in ss } ∷ cases_in as'

abbrev pub named_nodes : List NamedTree → NamedNodes
named_nodes [] = no_named
named_nodes (a ∷ as') = more_named a.at a.names (statement_nodes a.actions) (named_nodes as')

abbrev pub named_in : NamedNodes → List NamedTree
named_in no_named = []
named_in (more_named at ns ss as') = record { at = at; names = ns; actions = statements_in ss } ∷ named_in as'

abbrev pub receive_nodes : List ReceiveTree → ReceiveNodes
receive_nodes [] = no_receives
receive_nodes (a ∷ as') = more_receives a.at a.source a.received (statement_nodes a.actions) (receive_nodes as')

abbrev pub receives_in : ReceiveNodes → List ReceiveTree
receives_in no_receives = []
receives_in (more_receives at n r ss as') = record { at = at; source = n; received = r; actions = statements_in ss } ∷ receives_in as'

abbrev pub otherwise_node : Option (List StatementTree) → OtherwiseNode
otherwise_node None = no_otherwise
otherwise_node (Some ss) = otherwise (statement_nodes ss)

abbrev pub otherwise_in : OtherwiseNode → Option (List StatementTree)
otherwise_in no_otherwise = None
otherwise_in (otherwise ss) = Some (statements_in ss)

abbrev pub handler_node : Option HandlerTree → HandlerNode
handler_node None = no_handler
handler_node (Some h) = handler h.at (named_nodes h.alternatives) (otherwise_node h.otherwise_part)

abbrev pub handler_in : HandlerNode → Option HandlerTree
handler_in no_handler = None
handler_in (handler at as' o) = Some (record { at = at; alternatives = named_in as'; otherwise_part = otherwise_in o })

abbrev pub body_nodes : List BodyTree → BodyNodes
body_nodes [] = no_parts
body_nodes (local_part l ∷ ps) = more_locals l (body_nodes ps)
body_nodes (action_part s ∷ ps) = more_actions s (body_nodes ps)

abbrev pub body_in : BodyNodes → List BodyTree
body_in no_parts = []
body_in (more_locals l ps) = local_part l ∷ body_in ps
body_in (more_actions s ps) = action_part s ∷ body_in ps

-- ---- the trees of values

abbrev pub statement_layer : Statement-F BodyTree BracketedTree StatementTree CaseTree ElsIfTree HandlerTree NamedTree ReceiveTree → StatementTree
statement_layer (opens.Empty at) = empty at
statement_layer (opens.Simple at a h) = simple at (boxed_simple a) (handler_node (option_map (λ b. b.value) h))
statement_layer (opens.Bracketed at l a h c) = bracketed at l a.value (handler_node (option_map (λ b. b.value) h)) c

abbrev pub bracketed_layer : Bracketed-F BodyTree BracketedTree StatementTree CaseTree ElsIfTree HandlerTree NamedTree ReceiveTree → BracketedTree
bracketed_layer (opens.If at c ss bs o) = if_then at (boxed_expr c) (statement_nodes ss) (branch_nodes bs) (otherwise_node o)
bracketed_layer (opens.Case at e as' o) = case_of at (boxed_expr e) (case_nodes as') (otherwise_node o)
bracketed_layer (opens.Do at c ss) = do_loop at (control_tree c) (statement_nodes ss)
bracketed_layer (opens.Begin at ps) = begin_end at (body_nodes ps)
bracketed_layer (opens.DelayCase at s p as') = delay_case at (option_map boxed_expr s) (option_map boxed_expr p) (named_nodes as')
bracketed_layer (opens.ReceiveCase at s as' o) = receive_case at (option_map boxed_expr s) (receive_nodes as') (otherwise_node o)

abbrev pub branch_layer : ElsIf-F BodyTree BracketedTree StatementTree CaseTree ElsIfTree HandlerTree NamedTree ReceiveTree → ElsIfTree
branch_layer b = record { at = b.at; condition = boxed_expr b.condition; actions = b.actions }

abbrev pub case_layer : CaseAlternative-F BodyTree BracketedTree StatementTree CaseTree ElsIfTree HandlerTree NamedTree ReceiveTree → CaseTree
case_layer a = record { at = a.at; labels = range_trees a.labels; actions = a.actions }

abbrev pub named_layer : NamedAlternative-F BodyTree BracketedTree StatementTree CaseTree ElsIfTree HandlerTree NamedTree ReceiveTree → NamedTree
named_layer a = record { at = a.at; names = a.names; actions = a.actions }

abbrev pub receive_layer : ReceiveAlternative-F BodyTree BracketedTree StatementTree CaseTree ElsIfTree HandlerTree NamedTree ReceiveTree → ReceiveTree
receive_layer a = record { at = a.at; source = a.source; received = a.received; actions = a.actions }

abbrev pub handler_layer : Handler-F BodyTree BracketedTree StatementTree CaseTree ElsIfTree HandlerTree NamedTree ReceiveTree → HandlerTree
handler_layer h = record { at = h.at; alternatives = h.alternatives; otherwise_part = h.otherwise }

abbrev pub body_layer : BodyPart-F BodyTree BracketedTree StatementTree CaseTree ElsIfTree HandlerTree NamedTree ReceiveTree → BodyTree
body_layer (opens.Local l) = local_part (local_tree l)
body_layer (opens.Statement s) = action_part s

-- the tree of a statement
unfoldable pub statement_tree : Statement → StatementTree
statement_tree = fold-Statement BodyTree BracketedTree StatementTree CaseTree ElsIfTree HandlerTree NamedTree ReceiveTree body_layer bracketed_layer statement_layer case_layer branch_layer handler_layer named_layer receive_layer

-- the tree of an action that holds others
unfoldable pub bracketed_tree : Bracketed → BracketedTree
bracketed_tree = fold-Bracketed BodyTree BracketedTree StatementTree CaseTree ElsIfTree HandlerTree NamedTree ReceiveTree body_layer bracketed_layer statement_layer case_layer branch_layer handler_layer named_layer receive_layer

abbrev pub boxed_bracketed : Box Bracketed Global → BracketedTree
boxed_bracketed b = bracketed_tree b.value

-- the trees of the parts of those
unfoldable pub branch_tree : ElsIf → ElsIfTree
branch_tree = fold-ElsIf BodyTree BracketedTree StatementTree CaseTree ElsIfTree HandlerTree NamedTree ReceiveTree body_layer bracketed_layer statement_layer case_layer branch_layer handler_layer named_layer receive_layer

unfoldable pub case_tree : CaseAlternative → CaseTree
case_tree = fold-CaseAlternative BodyTree BracketedTree StatementTree CaseTree ElsIfTree HandlerTree NamedTree ReceiveTree body_layer bracketed_layer statement_layer case_layer branch_layer handler_layer named_layer receive_layer

unfoldable pub named_tree : NamedAlternative → NamedTree
named_tree = fold-NamedAlternative BodyTree BracketedTree StatementTree CaseTree ElsIfTree HandlerTree NamedTree ReceiveTree body_layer bracketed_layer statement_layer case_layer branch_layer handler_layer named_layer receive_layer

unfoldable pub receive_tree : ReceiveAlternative → ReceiveTree
receive_tree = fold-ReceiveAlternative BodyTree BracketedTree StatementTree CaseTree ElsIfTree HandlerTree NamedTree ReceiveTree body_layer bracketed_layer statement_layer case_layer branch_layer handler_layer named_layer receive_layer

unfoldable pub handler_tree : Handler → HandlerTree
handler_tree = fold-Handler BodyTree BracketedTree StatementTree CaseTree ElsIfTree HandlerTree NamedTree ReceiveTree body_layer bracketed_layer statement_layer case_layer branch_layer handler_layer named_layer receive_layer

abbrev pub boxed_handler : Box Handler Global → HandlerTree
boxed_handler b = handler_tree b.value

unfoldable pub body_tree : BodyPart → BodyTree
body_tree = fold-BodyPart BodyTree BracketedTree StatementTree CaseTree ElsIfTree HandlerTree NamedTree ReceiveTree body_layer bracketed_layer statement_layer case_layer branch_layer handler_layer named_layer receive_layer

abbrev pub statement_trees : List Statement → List StatementTree
statement_trees ss = map statement_tree ss

abbrev pub body_trees : List BodyPart → List BodyTree
body_trees ps = map body_tree ps
