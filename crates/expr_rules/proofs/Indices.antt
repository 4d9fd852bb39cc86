-- The indices of a location, and what is known of it with its parts.
use Rattle.std.proofs.Common.{◌≡◌, ◌++◌, List, [], ◌∷◌, refl, ap, sym, ◌∙◌, Option, Some, None}
use Rattle.std.specs.Prelude.{Bool, true, false, ◌&&◌, if◌then◌else◌, option_map}
use Rattle.chill_base.specs.declared.pos.Pos.{Pos}
use Rattle.chill_tree.specs.ExprTree.{ExprTree, ExprNodes, apply, place_of}
use Rattle.modes.specs.ModeTree.{ClassTree, nothing}
use Rattle.diagnostics.specs.declared.diagnostic.Diagnostic.{Diagnostic}
use Rattle.checks_model.specs.Told.{is_none_told, then_told}
use Rattle.checks_model.specs.Ground.{Ground}
use Rattle.checks_model.specs.Operations.{part_of_class, element_of_form}
use Rattle.checks_model.specs.Classes.{callee_of}
use Rattle.checks_model.specs.ValueRules.{clean_class, told_inside_each}
use Rattle.checks_model.specs.ActionRules.{measures, path_class, told_at_index, told_in_indices}
use Rattle.expr_rules.specs.Steps.{args_in_index, told_at_base}

module _ (g : Ground) (at : Pos) (e : ExprTree) (es : ExprNodes) where
  abbrev told_by_test : Bool → List Diagnostic
  told_by_test b = if b then told_inside_each g es else then_told (told_in_indices g e ++ args_in_index g es (clean_class (told_in_indices g e) (path_class g e))) (told_at_base es (place_of e) (path_class g e))

  abbrev class_by_test : Bool → Option ClassTree
  class_by_test b = if b then Some nothing else option_map (part_of_class element_of_form) (path_class g e)

  pub measured-told : measures (callee_of g e) ≡ true → told_in_indices g (apply at e es) ≡ told_inside_each g es
  measured-told h = ap told_by_test h

  pub measured-class : measures (callee_of g e) ≡ true → path_class g (apply at e es) ≡ Some nothing
  measured-class h = ap class_by_test h

  pub indexed-told : measures (callee_of g e) ≡ false → told_in_indices g (apply at e es) ≡ then_told (told_in_indices g e ++ args_in_index g es (clean_class (told_in_indices g e) (path_class g e))) (told_at_base es (place_of e) (path_class g e))
  indexed-told h = ap told_by_test h

  pub indexed-class : measures (callee_of g e) ≡ false → path_class g (apply at e es) ≡ option_map (part_of_class element_of_form) (path_class g e)
  indexed-class h = ap class_by_test h

pub ruleset indices = (measured-told, measured-class, indexed-told, indexed-class)
