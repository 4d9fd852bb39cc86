-- The trees of statements that are built.
use Rattle.std.proofs.Common.{◌≡◌, List, Option, Some, None, ap, sym, ◌∙◌}
use Rattle.std.specs.Prelude.{map, option_map}
use Rattle.std.specs.declared.alloc.Global.{Global}
use Rattle.std.specs.declared.boxed.Box.{Box}
use Rattle.chill_base.specs.declared.pos.Pos.{Pos}
use Rattle.chill_tree.specs.declared.tree.name.Name.{Name}
use Rattle.chill_tree.specs.declared.tree.expr.Expr.{Expr}
use Rattle.chill_tree.specs.declared.tree.expr.ValueRange.{ValueRange}
use Rattle.chill_tree.specs.declared.tree.local.Local.{Local}
use Rattle.chill_tree.specs.declared.tree.statement.Simple.{Simple}
use Rattle.chill_tree.specs.declared.tree.statement.Control.{Control}
use Rattle.chill_tree.specs.declared.tree.statement.Statement.{Statement, fold-Statement, fold-roll-Statement}
use Rattle.chill_tree.specs.declared.tree.statement.BodyPart.TheOpen as opens
use Rattle.chill_tree.specs.declared.tree.statement.Statement.TheVariants as made_statement
use Rattle.chill_tree.specs.declared.tree.statement.Bracketed.{Bracketed, fold-Bracketed, fold-roll-Bracketed}
use Rattle.chill_tree.specs.declared.tree.statement.Bracketed.TheVariants as made_bracketed
use Rattle.chill_tree.specs.declared.tree.statement.BodyPart.{BodyPart, fold-BodyPart, fold-roll-BodyPart}
use Rattle.chill_tree.specs.declared.tree.statement.BodyPart.TheVariants as made_bodypart
use Rattle.chill_tree.specs.declared.tree.statement.ElsIf.{ElsIf, fold-roll-ElsIf, roll-ElsIf}
use Rattle.chill_tree.specs.declared.tree.statement.CaseAlternative.{CaseAlternative, fold-roll-CaseAlternative, roll-CaseAlternative}
use Rattle.chill_tree.specs.declared.tree.statement.NamedAlternative.{NamedAlternative, fold-roll-NamedAlternative, roll-NamedAlternative}
use Rattle.chill_tree.specs.declared.tree.statement.ReceiveAlternative.{ReceiveAlternative, fold-roll-ReceiveAlternative, roll-ReceiveAlternative}
use Rattle.chill_tree.specs.declared.tree.statement.Handler.{Handler, fold-roll-Handler, roll-Handler}
use Rattle.chill_tree.specs.ExprTree.{boxed_expr, range_trees}
use Rattle.chill_tree.specs.LocalTree.{local_tree}
use Rattle.chill_tree.specs.SimpleTree.{boxed_simple, control_tree}
use Rattle.chill_tree.specs.StatementTree.{BodyTree, BracketedTree, StatementTree, CaseTree, ElsIfTree, HandlerTree, NamedTree, ReceiveTree, empty, simple, bracketed, if_then, case_of, do_loop, begin_end, delay_case, receive_case, local_part, action_part, statement_nodes, branch_nodes, case_nodes, named_nodes, receive_nodes, otherwise_node, handler_node, body_nodes, body_layer, bracketed_layer, statement_layer, case_layer, branch_layer, handler_layer, named_layer, receive_layer, statement_tree, bracketed_tree, boxed_bracketed, branch_tree, case_tree, named_tree, receive_tree, handler_tree, boxed_handler, body_tree, statement_trees, body_trees}

pub tree-empty : (at : Pos) → statement_tree (made_statement.Empty at) ≡ empty at
unfolding statement_tree bracketed_tree branch_tree case_tree named_tree receive_tree handler_tree body_tree
tree-empty at = ap (fold-Statement BodyTree BracketedTree StatementTree CaseTree ElsIfTree HandlerTree NamedTree ReceiveTree body_layer bracketed_layer statement_layer case_layer branch_layer handler_layer named_layer receive_layer) (sym (made_statement.rolls-Empty at)) ∙ fold-roll-Statement BodyTree BracketedTree StatementTree CaseTree ElsIfTree HandlerTree NamedTree ReceiveTree body_layer bracketed_layer statement_layer case_layer branch_layer handler_layer named_layer receive_layer (opens.Empty at)

pub tree-simple : (at : Pos) (a : Box Simple Global) (h : Option (Box Handler Global)) → statement_tree (made_statement.Simple at a h) ≡ simple at (boxed_simple a) (handler_node (option_map boxed_handler h))
unfolding statement_tree bracketed_tree branch_tree case_tree named_tree receive_tree handler_tree body_tree
tree-simple at a None = ap (fold-Statement BodyTree BracketedTree StatementTree CaseTree ElsIfTree HandlerTree NamedTree ReceiveTree body_layer bracketed_layer statement_layer case_layer branch_layer handler_layer named_layer receive_layer) (sym (made_statement.rolls-Simple at a None)) ∙ fold-roll-Statement BodyTree BracketedTree StatementTree CaseTree ElsIfTree HandlerTree NamedTree ReceiveTree body_layer bracketed_layer statement_layer case_layer branch_layer handler_layer named_layer receive_layer (opens.Simple at a None)
tree-simple at a (Some h) = ap (fold-Statement BodyTree BracketedTree StatementTree CaseTree ElsIfTree HandlerTree NamedTree ReceiveTree body_layer bracketed_layer statement_layer case_layer branch_layer handler_layer named_layer receive_layer) (sym (made_statement.rolls-Simple at a (Some h))) ∙ fold-roll-Statement BodyTree BracketedTree StatementTree CaseTree ElsIfTree HandlerTree NamedTree ReceiveTree body_layer bracketed_layer statement_layer case_layer branch_layer handler_layer named_layer receive_layer (opens.Simple at a (Some h))

pub tree-bracketed : (at : Pos) (l : Option Name) (a : Box Bracketed Global) (h : Option (Box Handler Global)) (c : Option Name) → statement_tree (made_statement.Bracketed at l a h c) ≡ bracketed at l (boxed_bracketed a) (handler_node (option_map boxed_handler h)) c
unfolding statement_tree bracketed_tree branch_tree case_tree named_tree receive_tree handler_tree body_tree
tree-bracketed at l a None c = ap (fold-Statement BodyTree BracketedTree StatementTree CaseTree ElsIfTree HandlerTree NamedTree ReceiveTree body_layer bracketed_layer statement_layer case_layer branch_layer handler_layer named_layer receive_layer) (sym (made_statement.rolls-Bracketed at l a None c)) ∙ fold-roll-Statement BodyTree BracketedTree StatementTree CaseTree ElsIfTree HandlerTree NamedTree ReceiveTree body_layer bracketed_layer statement_layer case_layer branch_layer handler_layer named_layer receive_layer (opens.Bracketed at l a None c)
tree-bracketed at l a (Some h) c = ap (fold-Statement BodyTree BracketedTree StatementTree CaseTree ElsIfTree HandlerTree NamedTree ReceiveTree body_layer bracketed_layer statement_layer case_layer branch_layer handler_layer named_layer receive_layer) (sym (made_statement.rolls-Bracketed at l a (Some h) c)) ∙ fold-roll-Statement BodyTree BracketedTree StatementTree CaseTree ElsIfTree HandlerTree NamedTree ReceiveTree body_layer bracketed_layer statement_layer case_layer branch_layer handler_layer named_layer receive_layer (opens.Bracketed at l a (Some h) c)

pub tree-if_then : (at : Pos) (c : Box Expr Global) (ss : List Statement) (bs : List ElsIf) (o : Option (List Statement)) → bracketed_tree (made_bracketed.If at c ss bs o) ≡ if_then at (boxed_expr c) (statement_nodes (statement_trees ss)) (branch_nodes (map branch_tree bs)) (otherwise_node (option_map statement_trees o))
unfolding statement_tree bracketed_tree branch_tree case_tree named_tree receive_tree handler_tree body_tree
tree-if_then at c ss bs None = ap (fold-Bracketed BodyTree BracketedTree StatementTree CaseTree ElsIfTree HandlerTree NamedTree ReceiveTree body_layer bracketed_layer statement_layer case_layer branch_layer handler_layer named_layer receive_layer) (sym (made_bracketed.rolls-If at c ss bs None)) ∙ fold-roll-Bracketed BodyTree BracketedTree StatementTree CaseTree ElsIfTree HandlerTree NamedTree ReceiveTree body_layer bracketed_layer statement_layer case_layer branch_layer handler_layer named_layer receive_layer (opens.If at c ss bs None)
tree-if_then at c ss bs (Some o) = ap (fold-Bracketed BodyTree BracketedTree StatementTree CaseTree ElsIfTree HandlerTree NamedTree ReceiveTree body_layer bracketed_layer statement_layer case_layer branch_layer handler_layer named_layer receive_layer) (sym (made_bracketed.rolls-If at c ss bs (Some o))) ∙ fold-roll-Bracketed BodyTree BracketedTree StatementTree CaseTree ElsIfTree HandlerTree NamedTree ReceiveTree body_layer bracketed_layer statement_layer case_layer branch_layer handler_layer named_layer receive_layer (opens.If at c ss bs (Some o))

pub tree-case_of : (at : Pos) (e : Box Expr Global) (cs : List CaseAlternative) (o : Option (List Statement)) → bracketed_tree (made_bracketed.Case at e cs o) ≡ case_of at (boxed_expr e) (case_nodes (map case_tree cs)) (otherwise_node (option_map statement_trees o))
unfolding statement_tree bracketed_tree branch_tree case_tree named_tree receive_tree handler_tree body_tree
tree-case_of at e cs None = ap (fold-Bracketed BodyTree BracketedTree StatementTree CaseTree ElsIfTree HandlerTree NamedTree ReceiveTree body_layer bracketed_layer statement_layer case_layer branch_layer handler_layer named_layer receive_layer) (sym (made_bracketed.rolls-Case at e cs None)) ∙ fold-roll-Bracketed BodyTree BracketedTree StatementTree CaseTree ElsIfTree HandlerTree NamedTree ReceiveTree body_layer bracketed_layer statement_layer case_layer branch_layer handler_layer named_layer receive_layer (opens.Case at e cs None)
tree-case_of at e cs (Some o) = ap (fold-Bracketed BodyTree BracketedTree StatementTree CaseTree ElsIfTree HandlerTree NamedTree ReceiveTree body_layer bracketed_layer statement_layer case_layer branch_layer handler_layer named_layer receive_layer) (sym (made_bracketed.rolls-Case at e cs (Some o))) ∙ fold-roll-Bracketed BodyTree BracketedTree StatementTree CaseTree ElsIfTree HandlerTree NamedTree ReceiveTree body_layer bracketed_layer statement_layer case_layer branch_layer handler_layer named_layer receive_layer (opens.Case at e cs (Some o))

pub tree-do_loop : (at : Pos) (c : Control) (ss : List Statement) → bracketed_tree (made_bracketed.Do at c ss) ≡ do_loop at (control_tree c) (statement_nodes (statement_trees ss))
unfolding statement_tree bracketed_tree branch_tree case_tree named_tree receive_tree handler_tree body_tree
tree-do_loop at c ss = ap (fold-Bracketed BodyTree BracketedTree StatementTree CaseTree ElsIfTree HandlerTree NamedTree ReceiveTree body_layer bracketed_layer statement_layer case_layer branch_layer handler_layer named_layer receive_layer) (sym (made_bracketed.rolls-Do at c ss)) ∙ fold-roll-Bracketed BodyTree BracketedTree StatementTree CaseTree ElsIfTree HandlerTree NamedTree ReceiveTree body_layer bracketed_layer statement_layer case_layer branch_layer handler_layer named_layer receive_layer (opens.Do at c ss)

pub tree-begin_end : (at : Pos) (ps : List BodyPart) → bracketed_tree (made_bracketed.Begin at ps) ≡ begin_end at (body_nodes (body_trees ps))
unfolding statement_tree bracketed_tree branch_tree case_tree named_tree receive_tree handler_tree body_tree
tree-begin_end at ps = ap (fold-Bracketed BodyTree BracketedTree StatementTree CaseTree ElsIfTree HandlerTree NamedTree ReceiveTree body_layer bracketed_layer statement_layer case_layer branch_layer handler_layer named_layer receive_layer) (sym (made_bracketed.rolls-Begin at ps)) ∙ fold-roll-Bracketed BodyTree BracketedTree StatementTree CaseTree ElsIfTree HandlerTree NamedTree ReceiveTree body_layer bracketed_layer statement_layer case_layer branch_layer handler_layer named_layer receive_layer (opens.Begin at ps)

pub tree-delay_case : (at : Pos) (s : Option (Box Expr Global)) (p : Option (Box Expr Global)) (ns : List NamedAlternative) → bracketed_tree (made_bracketed.DelayCase at s p ns) ≡ delay_case at (option_map boxed_expr s) (option_map boxed_expr p) (named_nodes (map named_tree ns))
unfolding statement_tree bracketed_tree branch_tree case_tree named_tree receive_tree handler_tree body_tree
tree-delay_case at s p ns = ap (fold-Bracketed BodyTree BracketedTree StatementTree CaseTree ElsIfTree HandlerTree NamedTree ReceiveTree body_layer bracketed_layer statement_layer case_layer branch_layer handler_layer named_layer receive_layer) (sym (made_bracketed.rolls-DelayCase at s p ns)) ∙ fold-roll-Bracketed BodyTree BracketedTree StatementTree CaseTree ElsIfTree HandlerTree NamedTree ReceiveTree body_layer bracketed_layer statement_layer case_layer branch_layer handler_layer named_layer receive_layer (opens.DelayCase at s p ns)

pub tree-receive_case : (at : Pos) (s : Option (Box Expr Global)) (rs : List ReceiveAlternative) (o : Option (List Statement)) → bracketed_tree (made_bracketed.ReceiveCase at s rs o) ≡ receive_case at (option_map boxed_expr s) (receive_nodes (map receive_tree rs)) (otherwise_node (option_map statement_trees o))
unfolding statement_tree bracketed_tree branch_tree case_tree named_tree receive_tree handler_tree body_tree
tree-receive_case at s rs None = ap (fold-Bracketed BodyTree BracketedTree StatementTree CaseTree ElsIfTree HandlerTree NamedTree ReceiveTree body_layer bracketed_layer statement_layer case_layer branch_layer handler_layer named_layer receive_layer) (sym (made_bracketed.rolls-ReceiveCase at s rs None)) ∙ fold-roll-Bracketed BodyTree BracketedTree StatementTree CaseTree ElsIfTree HandlerTree NamedTree ReceiveTree body_layer bracketed_layer statement_layer case_layer branch_layer handler_layer named_layer receive_layer (opens.ReceiveCase at s rs None)
tree-receive_case at s rs (Some o) = ap (fold-Bracketed BodyTree BracketedTree StatementTree CaseTree ElsIfTree HandlerTree NamedTree ReceiveTree body_layer bracketed_layer statement_layer case_layer branch_layer handler_layer named_layer receive_layer) (sym (made_bracketed.rolls-ReceiveCase at s rs (Some o))) ∙ fold-roll-Bracketed BodyTree BracketedTree StatementTree CaseTree ElsIfTree HandlerTree NamedTree ReceiveTree body_layer bracketed_layer statement_layer case_layer branch_layer handler_layer named_layer receive_layer (opens.ReceiveCase at s rs (Some o))

pub tree-local_part : (l : Local) → body_tree (made_bodypart.Local l) ≡ local_part (local_tree l)
unfolding statement_tree bracketed_tree branch_tree case_tree named_tree receive_tree handler_tree body_tree
tree-local_part l = ap (fold-BodyPart BodyTree BracketedTree StatementTree CaseTree ElsIfTree HandlerTree NamedTree ReceiveTree body_layer bracketed_layer statement_layer case_layer branch_layer handler_layer named_layer receive_layer) (sym (made_bodypart.rolls-Local l)) ∙ fold-roll-BodyPart BodyTree BracketedTree StatementTree CaseTree ElsIfTree HandlerTree NamedTree ReceiveTree body_layer bracketed_layer statement_layer case_layer branch_layer handler_layer named_layer receive_layer (opens.Local l)

pub tree-action_part : (s : Statement) → body_tree (made_bodypart.Statement s) ≡ action_part (statement_tree s)
unfolding statement_tree bracketed_tree branch_tree case_tree named_tree receive_tree handler_tree body_tree
tree-action_part s = ap (fold-BodyPart BodyTree BracketedTree StatementTree CaseTree ElsIfTree HandlerTree NamedTree ReceiveTree body_layer bracketed_layer statement_layer case_layer branch_layer handler_layer named_layer receive_layer) (sym (made_bodypart.rolls-Statement s)) ∙ fold-roll-BodyPart BodyTree BracketedTree StatementTree CaseTree ElsIfTree HandlerTree NamedTree ReceiveTree body_layer bracketed_layer statement_layer case_layer branch_layer handler_layer named_layer receive_layer (opens.Statement s)

pub tree-branch : (at : Pos) (c : Box Expr Global) (ss : List Statement) → branch_tree (roll-ElsIf (record { at = at; condition = c; actions = ss })) ≡ record { at = at; condition = boxed_expr c; actions = statement_trees ss }
unfolding statement_tree bracketed_tree branch_tree case_tree named_tree receive_tree handler_tree body_tree
tree-branch at c ss = fold-roll-ElsIf BodyTree BracketedTree StatementTree CaseTree ElsIfTree HandlerTree NamedTree ReceiveTree body_layer bracketed_layer statement_layer case_layer branch_layer handler_layer named_layer receive_layer (record { at = at; condition = c; actions = ss })

pub tree-case : (at : Pos) (ls : List ValueRange) (ss : List Statement) → case_tree (roll-CaseAlternative (record { at = at; labels = ls; actions = ss })) ≡ record { at = at; labels = range_trees ls; actions = statement_trees ss }
unfolding statement_tree bracketed_tree branch_tree case_tree named_tree receive_tree handler_tree body_tree
tree-case at ls ss = fold-roll-CaseAlternative BodyTree BracketedTree StatementTree CaseTree ElsIfTree HandlerTree NamedTree ReceiveTree body_layer bracketed_layer statement_layer case_layer branch_layer handler_layer named_layer receive_layer (record { at = at; labels = ls; actions = ss })

pub tree-named : (at : Pos) (ns : List Name) (ss : List Statement) → named_tree (roll-NamedAlternative (record { at = at; names = ns; actions = ss })) ≡ record { at = at; names = ns; actions = statement_trees ss }
unfolding statement_tree bracketed_tree branch_tree case_tree named_tree receive_tree handler_tree body_tree
tree-named at ns ss = fold-roll-NamedAlternative BodyTree BracketedTree StatementTree CaseTree ElsIfTree HandlerTree NamedTree ReceiveTree body_layer bracketed_layer statement_layer case_layer branch_layer handler_layer named_layer receive_layer (record { at = at; names = ns; actions = ss })

pub tree-received : (at : Pos) (n : Name) (r : Option (List Name)) (ss : List Statement) → receive_tree (roll-ReceiveAlternative (record { at = at; source = n; received = r; actions = ss })) ≡ record { at = at; source = n; received = r; actions = statement_trees ss }
unfolding statement_tree bracketed_tree branch_tree case_tree named_tree receive_tree handler_tree body_tree
tree-received at n r ss = fold-roll-ReceiveAlternative BodyTree BracketedTree StatementTree CaseTree ElsIfTree HandlerTree NamedTree ReceiveTree body_layer bracketed_layer statement_layer case_layer branch_layer handler_layer named_layer receive_layer (record { at = at; source = n; received = r; actions = ss })

pub tree-handler : (at : Pos) (ns : List NamedAlternative) (o : Option (List Statement)) → handler_tree (roll-Handler (record { at = at; alternatives = ns; otherwise = o })) ≡ record { at = at; alternatives = map named_tree ns; otherwise_part = option_map statement_trees o }
unfolding statement_tree bracketed_tree branch_tree case_tree named_tree receive_tree handler_tree body_tree
tree-handler at ns None = fold-roll-Handler BodyTree BracketedTree StatementTree CaseTree ElsIfTree HandlerTree NamedTree ReceiveTree body_layer bracketed_layer statement_layer case_layer branch_layer handler_layer named_layer receive_layer (record { at = at; alternatives = ns; otherwise = None })
tree-handler at ns (Some o) = fold-roll-Handler BodyTree BracketedTree StatementTree CaseTree ElsIfTree HandlerTree NamedTree ReceiveTree body_layer bracketed_layer statement_layer case_layer branch_layer handler_layer named_layer receive_layer (record { at = at; alternatives = ns; otherwise = (Some o) })

pub ruleset statement_built = (tree-empty, tree-simple, tree-bracketed, tree-if_then, tree-case_of, tree-do_loop, tree-begin_end, tree-delay_case, tree-receive_case, tree-local_part, tree-action_part, tree-branch, tree-case, tree-named, tree-received, tree-handler)
