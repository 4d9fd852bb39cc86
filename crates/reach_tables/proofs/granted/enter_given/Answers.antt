use Rattle.std.proofs.Common.{◌≡◌, ◌∙◌, ◌++◌, suc, Some, ap, sym, subst}
use Rattle.std.specs.Prelude.{OnOk, flat_map}
use Rattle.names_model.specs.Parts.{part_tree, parts_in, modulion}
use Rattle.names_model.specs.Entries.{given_entries, granted_entries}
use Rattle.names_model.proofs.PartViews.{tree-modulion}
use Rattle.reach_tables.specs.Givens.{IsGiver, given_nodes, given_of, given_trees, givens}
use Rattle.names_model.specs.Parts.{nodes_of}
use Rattle.reach_tables.specs.Opens.{Opens}
use Rattle.reach_tables.specs.Scopes.{told_by}
use Rattle.reach_tables.proofs.Granting.{granted-by}
use Rattle.reach_tables.proofs.granted.enter_given.Goals as goal

pub returns-in-Some : goal.returns-in-Some
returns-in-Some c = λ from.
    let all = c.args.book.now.all.items in
    let m = c.in-Modulion in
    let g = c.in-Some.giver in
    let ps = nodes_of m.parts in
    let is : part_tree c.args.part.now ≡ modulion m.name m.region m.size ps = ap part_tree m.is ∙ tree-modulion m.name m.region m.size m.parts in
    subst (λ z. given_trees c.args.given.now ≡ given_of all from z → (es : _) → Opens c.args.out.now all es → OnOk c.enter_all_granted.result (Opens c.enter_all_granted.new.out all (es ++ given_entries all from z))) (sym is)
    (λ k es o.
    let gives = subst (λ ts. IsGiver ts (Some g)) k c.in-Some.ensures in
    subst (λ xs. OnOk c.enter_all_granted.result (Opens c.enter_all_granted.new.out all (es ++ xs)))
    (ap (λ z. flat_map (granted_entries all g.region (told_by g.has) g.own.now) (parts_in (nodes_of z))) c.as_slice.ensures ∙ granted-by all m.region (suc from) ps (given_nodes (givens all (suc from) ps)) g gives)
    (c.enter_all_granted.ensures es o))
