use Rattle.std.proofs.Common.{◌≡◌, ◌∙◌, ◌++◌, Bool, true, false, sym, ap, List, []}
use Rattle.chill_tree.specs.ItemTree.{program_tree}
use Rattle.cycles.specs.declared.group.Group.{Group}
use Rattle.names_model.specs.Definitions.{text_definitions}
use Rattle.names_model.specs.Dependence.{told_selves}
use Rattle.names_model.specs.Resolving.{level_of}
use Rattle.visibility.proofs.Phase.{broken_are, names_are}
use Rattle.visibility.proofs.resolving.resolve.Goals as goal

not_both : (b : Bool) → b ≡ true → b ≡ false → ⊥
not_both true h k = absurd cc
not_both false h k = absurd cc

pub returns-then-not-is_empty : goal.returns-then-not-is_empty
returns-then-not-is_empty c =
    let tree = program_tree c.args.tree.now in
    let found = c.in_ok-book.field-0 in
    let f = c.in_ok-book.ensures in
    let selves = c.in_ok-tell_selves.ensures _ f.keeps f.count ∙ ap (λ (gs : List Group). found.findings.told.items ++ told_selves (text_definitions (level_of tree)) gs) c.deref.ensures.value in
    let broken = broken_are tree found _ _ c.list_once.new.diagnostics.items c.same_list_law.ensures f selves (c.in_ok-tell_surplus.ensures _ f.keeps f.count) c.list_once.ensures in
    (c.from_vec-broken.ensures ∙ broken, λ e. not_both c.is_empty.result (c.is_empty.ensures.1 e) c.if-not-is_empty.true)

pub returns : goal.returns
returns c =
    let tree = program_tree c.args.tree.now in
    let found = c.in_ok-book.field-0 in
    let f = c.in_ok-book.ensures in
    let selves = c.in_ok-tell_selves.ensures _ f.keeps f.count ∙ ap (λ (gs : List Group). found.findings.told.items ++ told_selves (text_definitions (level_of tree)) gs) c.deref.ensures.value in
    let broken = broken_are tree found _ _ c.list_once.new.diagnostics.items c.same_list_law.ensures f selves (c.in_ok-tell_surplus.ensures _ f.keeps f.count) c.list_once.ensures in
    (sym broken ∙ sym c.from_vec-broken.ensures ∙ c.is_empty.ensures.0 c.if-not-is_empty.false, names_are tree found c.from_vec.result c.from_vec-2.result f c.from_vec.ensures c.from_vec-2.ensures)
