-- What a table of the locations of a region tells is what its items tell.
use Rattle.std.proofs.Common.{◌≡◌, ℕ, Bool, true, false, ◌||◌, List, [], ◌∷◌, ◌++◌, refl, sym, ap, ◌∙◌}
use Rattle.std.specs.Prelude.{flat_map, not, if◌then◌else◌}
use Rattle.std.specs.List.{list_any}
use Rattle.chill_tree.specs.declared.tree.name.Name.{Name}
use Rattle.chill_tree.specs.declared.tree.item.Passed.{Passed}
use Rattle.chill_tree.specs.declared.tree.item.Passed.TheVariants.{Names, All}
use Rattle.chill_tree.specs.LocalTree.{synonyms, syn_modes, new_modes, locations}
use Rattle.chill_tree.specs.ItemTree.{ItemTree, ItemNodes, seize, grant, local_item, signals, procedure, process, modulion, action, item_nodes, items_in}
use Rattle.diagnostics.specs.declared.rule.Rule.TheVariants as rules
use Rattle.names_model.specs.NameRules.{tell}
use Rattle.names_model.specs.Seeing.{is_empty}
use Rattle.reach_tables.specs.Held.{Holdings}
use Rattle.checks_model.specs.Told.{told_if}
use Rattle.checks_model.specs.ProcessRules.{declares, told_granted_name, told_granted}
use Rattle.process_names.specs.Rules.{declares_text, has, told_had, told_passed, told_grant_had, told_grant}

-- a number put behind others stands there
pub one_more_is_had : (b : Bool) (before after : List ℕ) → after ≡ (if b then before ++ 0 ∷ [] else before) → not (is_empty after) ≡ (not (is_empty before) || b)
one_more_is_had true [] after e = rw e refl
one_more_is_had true (x ∷ xs) after e = rw e refl
one_more_is_had false [] after e = rw e refl
one_more_is_had false (x ∷ xs) after e = rw e refl

declared_alike : (n : Name) (i : ItemTree) → declares_text n.text i ≡ declares n i
declared_alike n (local_item (locations at ds)) = refl
declared_alike n (local_item (synonyms at ss)) = refl
declared_alike n (local_item (syn_modes at ds)) = refl
declared_alike n (local_item (new_modes at ds)) = refl
declared_alike n (seize at passed) = refl
declared_alike n (grant at passed) = refl
declared_alike n (signals at ss) = refl
declared_alike n (procedure p) = refl
declared_alike n (process p) = refl
declared_alike n (modulion name kind items h closing) = refl
declared_alike n (action s) = refl

any_alike : (n : Name) (is : List ItemTree) → list_any (declares_text n.text) is ≡ list_any (declares n) is
any_alike n [] = refl
any_alike n (i ∷ is) = ap (λ b. b || list_any (declares_text n.text) is) (declared_alike n i) ∙ ap (λ b. declares n i || b) (any_alike n is)

items_back : (is : List ItemTree) → items_in (item_nodes is) ≡ is
items_back [] = refl
items_back (i ∷ is) = ap (λ xs. i ∷ xs) (items_back is)

module _ (t : Holdings) (is : List ItemTree) (had : (n : List ℕ) → has t n ≡ list_any (declares_text n) is) where
  abbrev all : ItemNodes
  all = item_nodes is

  name_alike : (n : Name) → told_had t n ≡ told_granted_name all n
  name_alike n = ap (λ b. told_if b (tell n.at rules.P4 n.text)) (had n.text ∙ any_alike n is ∙ ap (list_any (declares n)) (sym (items_back is)))

  names_alike : (ns : List Name) → flat_map (told_had t) ns ≡ flat_map (told_granted_name all) ns
  names_alike [] = refl
  names_alike (n ∷ ns) = ap (λ ds. ds ++ flat_map (told_had t) ns) (name_alike n) ∙ ap (λ ds. told_granted_name all n ++ ds) (names_alike ns)

  passed_alike : (p : Passed) → told_passed t p ≡ told_granted all p
  passed_alike (Names ns) = names_alike ns
  passed_alike (All at) = refl

  grant_alike : (i : ItemTree) → told_grant_had t i ≡ told_grant all i
  grant_alike (grant at passed) = passed_alike passed
  grant_alike (seize at passed) = refl
  grant_alike (local_item l) = refl
  grant_alike (signals at ss) = refl
  grant_alike (procedure p) = refl
  grant_alike (process p) = refl
  grant_alike (modulion n kind inner h closing) = refl
  grant_alike (action s) = refl

  each_alike : (xs : List ItemTree) → flat_map (told_grant_had t) xs ≡ flat_map (told_grant all) xs
  each_alike [] = refl
  each_alike (x ∷ xs) = ap (λ ds. ds ++ flat_map (told_grant_had t) xs) (grant_alike x) ∙ ap (λ ds. told_grant all x ++ ds) (each_alike xs)

  pub all_granted : flat_map (told_grant_had t) is ≡ flat_map (told_grant all) (items_in all)
  all_granted = each_alike is ∙ ap (flat_map (told_grant all)) (sym (items_back is))
