-- The trees of statements by their fields, and the parts of bodies.
use Rattle.std.proofs.Common.{◌≡◌, ◌++◌, List, [], ◌∷◌, Option, Some, None, map, refl, sym, ap, ◌∙◌, append-nil, append_assoc}
use Rattle.std.specs.Prelude.{option_map}
use Rattle.chill_tree.specs.declared.tree.name.Name.{Name}
use Rattle.chill_tree.specs.declared.tree.statement.Statement.{Statement}
use Rattle.chill_tree.specs.declared.tree.statement.Bracketed.{Bracketed}
use Rattle.chill_tree.specs.declared.tree.statement.BodyPart.{BodyPart}
use Rattle.chill_tree.specs.declared.tree.statement.ElsIf.{ElsIf, out-ElsIf, fold_out-ElsIf}
use Rattle.chill_tree.specs.declared.tree.statement.CaseAlternative.{CaseAlternative, out-CaseAlternative, fold_out-CaseAlternative}
use Rattle.chill_tree.specs.declared.tree.statement.NamedAlternative.{NamedAlternative, out-NamedAlternative, fold_out-NamedAlternative}
use Rattle.chill_tree.specs.declared.tree.statement.ReceiveAlternative.{ReceiveAlternative, out-ReceiveAlternative, fold_out-ReceiveAlternative}
use Rattle.chill_tree.specs.declared.tree.statement.Handler.{Handler, out-Handler, fold_out-Handler, map-Handler}
use Rattle.chill_base.specs.declared.pos.Pos.{Pos}
use Rattle.chill_tree.specs.ExprTree.{boxed_expr, range_trees}
use Rattle.chill_tree.specs.StatementTree.{BodyTree, BracketedTree, StatementTree, CaseTree, ElsIfTree, HandlerTree, NamedTree, ReceiveTree, if_then, case_of, do_loop, begin_end, delay_case, receive_case, local_part, action_part, body_layer, bracketed_layer, statement_layer, case_layer, branch_layer, handler_layer, named_layer, receive_layer, body_tree, bracketed_tree, statement_tree, case_tree, branch_tree, handler_tree, named_tree, receive_tree, statement_trees, body_nodes}
use Rattle.chill_tree.proofs.StatementViews.{statement_built}
use Rattle.names_model.specs.Sizes.{block_of}
use Rattle.names_model.specs.ExprMentions.{mentions_of, mentions_of_some}
use Rattle.names_model.specs.StatementParts.{mentioned, control_parts, turn_parts, local_parts, statement_parts, bracketed_parts, action_parts, branch_parts, event_parts, otherwise_parts, body_parts}
use Rattle.reach_parts.specs.BracketedParts.{evaluated_parts, held_parts, else_parts}

pub tree-branch_out : (b : ElsIf) → branch_tree b ≡ record { at = (out-ElsIf b).at; condition = boxed_expr (out-ElsIf b).condition; actions = statement_trees (out-ElsIf b).actions }
unfolding statement_tree bracketed_tree branch_tree case_tree named_tree receive_tree handler_tree body_tree
tree-branch_out b = fold_out-ElsIf BodyTree BracketedTree StatementTree CaseTree ElsIfTree HandlerTree NamedTree ReceiveTree body_layer bracketed_layer statement_layer case_layer branch_layer handler_layer named_layer receive_layer b

pub tree-case_out : (a : CaseAlternative) → case_tree a ≡ record { at = (out-CaseAlternative a).at; labels = range_trees (out-CaseAlternative a).labels; actions = statement_trees (out-CaseAlternative a).actions }
unfolding statement_tree bracketed_tree branch_tree case_tree named_tree receive_tree handler_tree body_tree
tree-case_out a = fold_out-CaseAlternative BodyTree BracketedTree StatementTree CaseTree ElsIfTree HandlerTree NamedTree ReceiveTree body_layer bracketed_layer statement_layer case_layer branch_layer handler_layer named_layer receive_layer a

pub tree-named_out : (a : NamedAlternative) → named_tree a ≡ record { at = (out-NamedAlternative a).at; names = (out-NamedAlternative a).names; actions = statement_trees (out-NamedAlternative a).actions }
unfolding statement_tree bracketed_tree branch_tree case_tree named_tree receive_tree handler_tree body_tree
tree-named_out a = fold_out-NamedAlternative BodyTree BracketedTree StatementTree CaseTree ElsIfTree HandlerTree NamedTree ReceiveTree body_layer bracketed_layer statement_layer case_layer branch_layer handler_layer named_layer receive_layer a

pub tree-receive_out : (a : ReceiveAlternative) → receive_tree a ≡ record { at = (out-ReceiveAlternative a).at; source = (out-ReceiveAlternative a).source; received = (out-ReceiveAlternative a).received; actions = statement_trees (out-ReceiveAlternative a).actions }
unfolding statement_tree bracketed_tree branch_tree case_tree named_tree receive_tree handler_tree body_tree
tree-receive_out a = fold_out-ReceiveAlternative BodyTree BracketedTree StatementTree CaseTree ElsIfTree HandlerTree NamedTree ReceiveTree body_layer bracketed_layer statement_layer case_layer branch_layer handler_layer named_layer receive_layer a

handler-fields : (at : Pos) (ns : List NamedAlternative) (o : Option (List Statement)) → handler_layer (map-Handler BodyPart Bracketed Statement CaseAlternative ElsIf Handler NamedAlternative ReceiveAlternative BodyTree BracketedTree StatementTree CaseTree ElsIfTree HandlerTree NamedTree ReceiveTree body_tree bracketed_tree statement_tree case_tree branch_tree handler_tree named_tree receive_tree (record { at = at; alternatives = ns; otherwise = o })) ≡ record { at = at; alternatives = map named_tree ns; otherwise_part = option_map statement_trees o }
handler-fields at ns None = refl
handler-fields at ns (Some ss) = refl

pub tree-handler_out : (h : Handler) → handler_tree h ≡ record { at = (out-Handler h).at; alternatives = map named_tree (out-Handler h).alternatives; otherwise_part = option_map statement_trees (out-Handler h).otherwise }
unfolding statement_tree bracketed_tree branch_tree case_tree named_tree receive_tree handler_tree body_tree
tree-handler_out h = fold_out-Handler BodyTree BracketedTree StatementTree CaseTree ElsIfTree HandlerTree NamedTree ReceiveTree body_layer bracketed_layer statement_layer case_layer branch_layer handler_layer named_layer receive_layer h ∙ handler-fields (out-Handler h).at (out-Handler h).alternatives (out-Handler h).otherwise

-- an action that holds others has the parts of its three
pub bracketed-made : (labels : List Name) (action : BracketedTree) → bracketed_parts labels action ≡ evaluated_parts action ++ held_parts labels action ++ else_parts labels action
bracketed-made labels (if_then at c ss bs o) = ap (λ ps. ps ++ otherwise_parts labels o) (append_assoc (mentioned (mentions_of c)) (action_parts labels ss) (branch_parts labels bs))
bracketed-made labels (case_of at e as' o) = refl
bracketed-made labels (do_loop at c ss) = sym (append-nil (control_parts c ++ block_of (turn_parts c ++ action_parts labels ss) ∷ []))
bracketed-made labels (begin_end at ps) = sym (append-nil (block_of (body_parts labels ps) ∷ []))
bracketed-made labels (delay_case at set p as') = sym (append-nil (mentioned (mentions_of_some set ++ mentions_of_some p) ++ event_parts labels as'))
bracketed-made labels (receive_case at set as' o) = refl

-- the parts of a body are those of its first part, and those of the others
pub body-more : (labels : List Name) (b : BodyTree) (bs : List BodyTree) → body_parts labels (body_nodes (b ∷ bs)) ≡ body_parts labels (body_nodes (b ∷ [])) ++ body_parts labels (body_nodes bs)
body-more labels (local_part l) bs = ap (λ ps. ps ++ body_parts labels (body_nodes bs)) (sym (append-nil (local_parts l)))
body-more labels (action_part s) bs = ap (λ ps. ps ++ body_parts labels (body_nodes bs)) (sym (append-nil (statement_parts labels s)))

pub ruleset statement_views = (statement_built, tree-branch_out, tree-case_out, tree-named_out, tree-receive_out, tree-handler_out, append-nil, append_assoc)

pub ruleset bracketed_views = (bracketed-made, append_assoc)

pub ruleset body_views = (body-more, append-nil, append_assoc)
