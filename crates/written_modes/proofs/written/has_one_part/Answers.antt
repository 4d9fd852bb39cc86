use Rattle.std.proofs.Common.{◌∙◌, ap, sym, length, nat_eq}
use Rattle.std.proofs.lemmas.List.{length-map}
use Rattle.modes.specs.ModeTree.{mode_tree, field_tree, field_trees}
use Rattle.modes.proofs.ModeViews.{tree-structure}
use Rattle.written_modes.specs.Parts.{has_one_part}
use Rattle.written_modes.proofs.FewLemmas.{fields_counted}
use Rattle.written_modes.proofs.written.has_one_part.Goals as goal

pub returns-in-Struct : goal.returns-in-Struct
returns-in-Struct c =
    let fs = c.in-Struct.fields in
    let tree = ap mode_tree c.in-Struct.is ∙ tree-structure fs c.in-Struct.packed in
    sym (ap has_one_part tree ∙ ap (λ k. nat_eq k 1) (fields_counted (field_trees fs) ∙ length-map fs field_tree ∙ ap length (sym c.as_slice.ensures)))
