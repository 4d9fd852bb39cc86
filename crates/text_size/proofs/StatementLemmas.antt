-- The trees of statements by their fields.
use Rattle.std.proofs.Common.{◌≡◌, ◌++◌, List, [], ◌∷◌, Option, Some, None, map, refl, sym, ap, ◌∙◌, arith}
use Rattle.std.specs.Prelude.{◌+◌, option_map}
use Rattle.text_size.specs.Sizes.{body_size, part_size, branch_size, case_size, alternative_size, receive_size, statements_size, branches_size, cases_size, named_size, receives_size, bracketed_size, size_before_else, else_size}
use Rattle.chill_tree.specs.declared.tree.name.Name.{Name}
use Rattle.chill_tree.specs.declared.tree.statement.Statement.{Statement}
use Rattle.chill_tree.specs.declared.tree.statement.Bracketed.{Bracketed}
use Rattle.chill_tree.specs.declared.tree.statement.BodyPart.{BodyPart}
use Rattle.chill_tree.specs.declared.tree.statement.ElsIf.{ElsIf, out-ElsIf, fold_out-ElsIf}
use Rattle.chill_tree.specs.declared.tree.statement.CaseAlternative.{CaseAlternative, out-CaseAlternative, fold_out-CaseAlternative}
use Rattle.chill_tree.specs.declared.tree.statement.NamedAlternative.{NamedAlternative, out-NamedAlternative, fold_out-NamedAlternative}
use Rattle.chill_tree.specs.declared.tree.statement.ReceiveAlternative.{ReceiveAlternative, out-ReceiveAlternative, fold_out-ReceiveAlternative}
use Rattle.chill_tree.specs.declared.tree.statement.Handler.{Handler, out-Handler, fold_out-Handler, map-Handler}
use Rattle.chill_base.specs.declared.pos.Pos.{Pos}
use Rattle.chill_tree.specs.ExprTree.{boxed_expr, range_trees}
use Rattle.chill_tree.specs.StatementTree.{BodyTree, BracketedTree, StatementTree, CaseTree, ElsIfTree, HandlerTree, NamedTree, ReceiveTree, if_then, case_of, do_loop, begin_end, delay_case, receive_case, local_part, action_part, body_layer, bracketed_layer, statement_layer, case_layer, branch_layer, handler_layer, named_layer, receive_layer, body_tree, bracketed_tree, statement_tree, case_tree, branch_tree, handler_tree, named_tree, receive_tree, statement_trees, body_nodes, statement_nodes, branch_nodes, case_nodes, named_nodes, receive_nodes}
use Rattle.chill_tree.proofs.StatementViews.{statement_built}

pub tree-branch_out : (b : ElsIf) → branch_tree b ≡ record { at = (out-ElsIf b).at; condition = boxed_expr (out-ElsIf b).condition; actions = statement_trees (out-ElsIf b).actions }
unfolding statement_tree bracketed_tree branch_tree case_tree named_tree receive_tree handler_tree body_tree
tree-branch_out b = fold_out-ElsIf BodyTree BracketedTree StatementTree CaseTree ElsIfTree HandlerTree NamedTree ReceiveTree body_layer bracketed_layer statement_layer case_layer branch_layer handler_layer named_layer receive_layer b

pub tree-case_out : (a : CaseAlternative) → case_tree a ≡ record { at = (out-CaseAlternative a).at; labels = range_trees (out-CaseAlternative a).labels; actions = statement_trees (out-CaseAlternative a).actions }
unfolding statement_tree bracketed_tree branch_tree case_tree named_tree receive_tree handler_tree body_tree
tree-case_out a = fold_out-CaseAlternative BodyTree BracketedTree StatementTree CaseTree ElsIfTree HandlerTree NamedTree ReceiveTree body_layer bracketed_layer statement_layer case_layer branch_layer handler_layer named_layer receive_layer a

pub tree-named_out : (a : NamedAlternative) → named_tree a ≡ record { at = (out-NamedAlternative a).at; names = (out-NamedAlternative a).names; actions = statement_trees (out-NamedAlternative a).actions }
unfolding statement_tree bracketed_tree branch_tree case_tree named_tree receive_tree handler_tree body_tree
tree-named_out a = fold_out-NamedAlternative BodyTree BracketedTree StatementTree CaseTree ElsIfTree HandlerTree NamedTree ReceiveTree body_layer bracketed_layer statement_layer case_layer branch_layer handler_layer named_layer receive_layer a

pub tree-receive_out : (a : ReceiveAlternative) → receive_tree a ≡ record { at = (out-ReceiveAlternative a).at; source = (out-ReceiveAlternative a).source; received = (out-ReceiveAlternative a).received; actions = statement_trees (out-ReceiveAlternative a).actions }
unfolding statement_tree bracketed_tree branch_tree case_tree named_tree receive_tree handler_tree body_tree
tree-receive_out a = fold_out-ReceiveAlternative BodyTree BracketedTree StatementTree CaseTree ElsIfTree HandlerTree NamedTree ReceiveTree body_layer bracketed_layer statement_layer case_layer branch_layer handler_layer named_layer receive_layer a

handler-fields : (at : Pos) (ns : List NamedAlternative) (o : Option (List Statement)) → handler_layer (map-Handler BodyPart Bracketed Statement CaseAlternative ElsIf Handler NamedAlternative ReceiveAlternative BodyTree BracketedTree StatementTree CaseTree ElsIfTree HandlerTree NamedTree ReceiveTree body_tree bracketed_tree statement_tree case_tree branch_tree handler_tree named_tree receive_tree (record { at = at; alternatives = ns; otherwise = o })) ≡ record { at = at; alternatives = map named_tree ns; otherwise_part = option_map statement_trees o }
handler-fields at ns None = refl
handler-fields at ns (Some ss) = refl

pub tree-handler_out : (h : Handler) → handler_tree h ≡ record { at = (out-Handler h).at; alternatives = map named_tree (out-Handler h).alternatives; otherwise_part = option_map statement_trees (out-Handler h).otherwise }
unfolding statement_tree bracketed_tree branch_tree case_tree named_tree receive_tree handler_tree body_tree
tree-handler_out h = fold_out-Handler BodyTree BracketedTree StatementTree CaseTree ElsIfTree HandlerTree NamedTree ReceiveTree body_layer bracketed_layer statement_layer case_layer branch_layer handler_layer named_layer receive_layer h ∙ handler-fields (out-Handler h).at (out-Handler h).alternatives (out-Handler h).otherwise

-- ---- the size of a list is that of its first element, and that of the others

pub body-more : (b : BodyTree) (bs : List BodyTree) → body_size (b ∷ bs) ≡ part_size b + body_size bs
body-more (local_part l) bs = refl
body-more (action_part s) bs = refl

pub branches-more : (b : ElsIfTree) (bs : List ElsIfTree) → branches_size (branch_nodes (b ∷ bs)) ≡ branch_size b + branches_size (branch_nodes bs)
branches-more b bs = refl

pub cases-more : (a : CaseTree) (as' : List CaseTree) → cases_size (case_nodes (a ∷ as')) ≡ case_size a + cases_size (case_nodes as')
cases-more a as' = refl

pub named-more : (a : NamedTree) (as' : List NamedTree) → named_size (named_nodes (a ∷ as')) ≡ alternative_size a + named_size (named_nodes as')
named-more a as' = refl

pub receives-more : (a : ReceiveTree) (as' : List ReceiveTree) → receives_size (receive_nodes (a ∷ as')) ≡ receive_size a + receives_size (receive_nodes as')
receives-more a as' = refl

-- an action that holds others has the size of its two parts
pub bracketed-made : (action : BracketedTree) → bracketed_size action ≡ size_before_else action + else_size action
bracketed-made (if_then at c ss bs o) = refl
bracketed-made (case_of at e as' o) = refl
bracketed-made (do_loop at c ss) = omega arith
bracketed-made (begin_end at ps) = omega arith
bracketed-made (delay_case at s p as') = omega arith
bracketed-made (receive_case at s as' o) = refl

pub ruleset statement_views = (statement_built, tree-branch_out, tree-case_out, tree-named_out, tree-receive_out, tree-handler_out)

pub ruleset list_views = (branches-more, cases-more, named-more, receives-more)

pub ruleset bracketed_views = (bracketed-made)

pub ruleset body_views = (body-more)
