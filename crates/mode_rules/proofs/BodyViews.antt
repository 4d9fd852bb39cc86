-- Trees by their fields, and what is told in actions and bodies.
use Rattle.std.proofs.Common.{◌≡◌, ◌++◌, List, [], ◌∷◌, Option, Some, None, refl, sym, ap, ◌∙◌, append-nil, append_assoc}
use Rattle.std.specs.Prelude.{option_map}
use Rattle.std.specs.declared.alloc.Global.{Global}
use Rattle.std.specs.declared.boxed.Box.{Box}
use Rattle.chill_tree.specs.declared.tree.expr.Expr.{Expr}
use Rattle.chill_tree.specs.declared.tree.expr.ValueRange.{ValueRange, fold_out-ValueRange, map-ValueRange, out-ValueRange}
use Rattle.chill_tree.specs.ExprTree.{ExprTree, RangeTree, range_of, expr_layer, range_layer, expr_tree, boxed_expr, range_tree}
use Rattle.chill_tree.proofs.StatementViews.{statement_built}
use Rattle.chill_tree.proofs.ItemViews.{item_built}
use Rattle.chill_tree.specs.StatementTree.{BodyTree, BracketedTree, if_then, case_of, do_loop, begin_end, delay_case, receive_case, local_part, action_part, body_nodes}
use Rattle.checks_model.specs.Ground.{Ground}
use Rattle.checks_model.specs.ConstantRules.{told_of_constants, told_of_some_constants, told_some_needed}
use Rattle.definition_origins.proofs.Views.{tree-branch_out, tree-case_out, tree-named_out, tree-receive_out, tree-handler_out, tree-modulion_out}
use Rattle.mode_rules.specs.Walk.{over_local, over_control, over_statement, over_bracketed, over_actions, over_branches, over_named, over_receives, over_otherwise, over_body, over_head, over_held, over_else}

range-fields : (e : Box Expr Global) (o : Option (Box Expr Global)) → range_layer (map-ValueRange Expr ValueRange ExprTree RangeTree expr_tree range_tree (record { first = e; last = o })) ≡ range_of (boxed_expr e) (option_map boxed_expr o)
range-fields e None = refl
range-fields e (Some f) = refl

pub tree-range_out : (r : ValueRange) → range_tree r ≡ range_of (boxed_expr (out-ValueRange r).first) (option_map boxed_expr (out-ValueRange r).last)
unfolding expr_tree range_tree
tree-range_out r = fold_out-ValueRange ExprTree RangeTree expr_layer range_layer r ∙ range-fields (out-ValueRange r).first (out-ValueRange r).last

pub ruleset range_views = (tree-range_out, append-nil, append_assoc)

-- an action that holds others has what its three have
pub bracketed-made : (g : Ground) (action : BracketedTree) → over_bracketed g action ≡ over_head g action ++ (over_held g action ++ over_else g action)
bracketed-made g (if_then at c ss bs o) = ap (λ ps. told_of_constants g c ++ ps) (sym (append_assoc (over_actions g ss) (over_branches g bs) (over_otherwise g o)))
bracketed-made g (case_of at e as' o) = refl
bracketed-made g (do_loop at c ss) = ap (λ ps. over_control g c ++ ps) (sym (append-nil (over_actions g ss)))
bracketed-made g (begin_end at ps) = sym (append-nil (over_body g ps))
bracketed-made g (delay_case at set p as') =
    ap (λ ps. told_of_some_constants g set ++ (told_some_needed g p ++ ps)) (sym (append-nil (over_named g as')))
    ∙ sym (append_assoc (told_of_some_constants g set) (told_some_needed g p) (over_named g as' ++ []))
bracketed-made g (receive_case at set as' o) = refl

-- what is told in a body is told in its first part and in the others
pub body-more : (g : Ground) (b : BodyTree) (bs : List BodyTree) → over_body g (body_nodes (b ∷ bs)) ≡ over_body g (body_nodes (b ∷ [])) ++ over_body g (body_nodes bs)
body-more g (local_part l) bs = ap (λ ps. ps ++ over_body g (body_nodes bs)) (sym (append-nil (over_local g l)))
body-more g (action_part s) bs = ap (λ ps. ps ++ over_body g (body_nodes bs)) (sym (append-nil (over_statement g s)))

pub ruleset statement_views = (statement_built, tree-branch_out, tree-case_out, tree-named_out, tree-receive_out, tree-handler_out, append-nil, append_assoc)

pub ruleset body_views = (body-more, append-nil, append_assoc)

pub ruleset bracketed_views = (bracketed-made, append_assoc)

pub ruleset item_views = (item_built, tree-modulion_out, append-nil, append_assoc)
