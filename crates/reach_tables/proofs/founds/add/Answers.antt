use Rattle.std.proofs.Common.{◌≡◌, ◌++◌, ◌∷◌, [], ◌∙◌, Bool, true, false, not, ap, refl, if◌then◌else◌}
use Rattle.std.specs.Str.{bytes_eq}
use Rattle.reach_tables.specs.Held.{held}
use Rattle.reach_tables.specs.Marks.{is_marked}
use Rattle.reach_tables.proofs.Marking.{added-new}
use Rattle.reach_tables.proofs.founds.add.Goals as goal

is_new : (added marked : Bool) → added ≡ not marked → added ≡ true → marked ≡ false
is_new added true h k = cc
is_new added false h k = refl

pub returns : goal.returns
returns c = λ m. added-new c.args.book.now.all.items c.args.number c.args.table.now _ c.args.marked.now _ m (is_new c.in_ok-mark.field-0 (is_marked c.args.marked.now c.args.number) c.in_ok-mark.ensures.new c.if-not-branch.false) c.in_ok-mark.ensures.marks
    (λ n. c.in_ok-append.ensures n ∙ ap (λ name. if bytes_eq name n then held c.args.table.now n ++ c.args.number ∷ [] else held c.args.table.now n) c.spelling.ensures)
