use Rattle.std.proofs.Common.{◌≡◌, ◌∙◌, ◌++◌, ap}
use Rattle.names_model.specs.Parts.{part_tree}
use Rattle.names_model.specs.Entries.{own_entries}
use Rattle.reach_tables.specs.Places.{singles}
use Rattle.reach_tables.specs.Scopes.{told_by}
use Rattle.reach_tables.proofs.Repeated.{passes-behind, passes-three}
use Rattle.reach_tables.proofs.reached.enter_part.Goals as goal

pub returns : goal.returns
returns c = λ h g es p.
    let all = c.args.book.now.all.items in
    let has = told_by c.args.around.now in
    let own : singles c.as_slice.result.now ≡ own_entries c.args.from (part_tree c.args.part.now) = ap singles c.as_slice.ensures.value ∙ c.in_ok-own_entries.ensures h ∙ ap (λ ps. singles ps ++ own_entries c.args.from (part_tree c.args.part.now)) c.new-places.ensures.items in
    let places = passes-behind _ _ c.args.noted.now all has es _ p (c.in_ok-enter_places.ensures es p.opens) in
    let taken = c.in_ok-enter_taken.ensures _ places in
    passes-three _ _ all has es _ _ _ _ own (passes-behind _ _ _ all has _ _ taken (c.in_ok-enter_given.ensures c.args.from g _ taken.opens))
