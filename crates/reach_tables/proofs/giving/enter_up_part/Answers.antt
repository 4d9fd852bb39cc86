use Rattle.std.proofs.Common.{◌≡◌, ◌∙◌, ◌++◌, ap}
use Rattle.names_model.specs.Parts.{part_tree}
use Rattle.names_model.specs.Entries.{own_entries}
use Rattle.reach_tables.specs.Places.{singles}
use Rattle.reach_tables.proofs.Entering.{opens-two}
use Rattle.reach_tables.proofs.giving.enter_up_part.Goals as goal

pub returns : goal.returns
returns c = λ h g es o.
    let p = part_tree c.args.part.now in
    let own : singles c.as_slice.result.now ≡ own_entries c.args.from p = ap singles c.as_slice.ensures.value ∙ c.in_ok-own_entries.ensures h ∙ ap (λ ps. singles ps ++ own_entries c.args.from p) c.clear.ensures.items in
    opens-two _ c.args.book.now.all.items es _ _ _ own (c.in_ok-enter_given.ensures c.args.from g _ (c.in_ok-enter_places.ensures es o))
