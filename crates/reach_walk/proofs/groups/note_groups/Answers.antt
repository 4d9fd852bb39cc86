use Rattle.std.proofs.Common.{◌∙◌, refl, ap}
use Rattle.names_model.specs.Parts.{part_tree}
use Rattle.names_model.proofs.PartViews.{tree-mention, tree-seize, tree-seize_all, tree-grant, tree-grant_all, tree-stray, tree-modulion, tree-block}
use Rattle.reach_walk.proofs.Joining.{nothing-noted}
use Rattle.reach_walk.proofs.groups.note_groups.Goals as goal

pub returns-in-Mention : goal.returns-in-Mention
returns-in-Mention c = λ text r s h. let m = c.in-Mention in nothing-noted text r c.args.from (part_tree c.args.part.now) _ c.args.out.now.items (ap part_tree m.is ∙ tree-mention m.field-0) refl

pub returns-in-Seize : goal.returns-in-Seize
returns-in-Seize c = λ text r s h. let m = c.in-Seize in nothing-noted text r c.args.from (part_tree c.args.part.now) _ c.args.out.now.items (ap part_tree m.is ∙ tree-seize m.field-0) refl

pub returns-in-SeizeAll : goal.returns-in-SeizeAll
returns-in-SeizeAll c = λ text r s h. let m = c.in-SeizeAll in nothing-noted text r c.args.from (part_tree c.args.part.now) _ c.args.out.now.items (ap part_tree m.is ∙ tree-seize_all m.field-0) refl

pub returns-in-Grant : goal.returns-in-Grant
returns-in-Grant c = λ text r s h. let m = c.in-Grant in nothing-noted text r c.args.from (part_tree c.args.part.now) _ c.args.out.now.items (ap part_tree m.is ∙ tree-grant m.field-0) refl

pub returns-in-GrantAll : goal.returns-in-GrantAll
returns-in-GrantAll c = λ text r s h. let m = c.in-GrantAll in nothing-noted text r c.args.from (part_tree c.args.part.now) _ c.args.out.now.items (ap part_tree m.is ∙ tree-grant_all m.field-0) refl

pub returns-in-Stray : goal.returns-in-Stray
returns-in-Stray c = λ text r s h. let m = c.in-Stray in nothing-noted text r c.args.from (part_tree c.args.part.now) _ c.args.out.now.items (ap part_tree m.is ∙ tree-stray m.field-0) refl

pub returns-in-Modulion : goal.returns-in-Modulion
returns-in-Modulion c = λ text r s h. let m = c.in-Modulion in nothing-noted text r c.args.from (part_tree c.args.part.now) _ c.args.out.now.items (ap part_tree m.is ∙ tree-modulion m.name m.region m.size m.parts) refl

pub returns-in-Block : goal.returns-in-Block
returns-in-Block c = λ text r s h. let m = c.in-Block in nothing-noted text r c.args.from (part_tree c.args.part.now) _ c.args.out.now.items (ap part_tree m.is ∙ tree-block m.size m.parts) refl
