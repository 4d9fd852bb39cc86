use Rattle.std.proofs.Common.{◌≡◌, ◌∙◌, ap, refl, subst}
use Rattle.names_model.specs.Seeing.{outermost}
use Rattle.reach_walk.specs.Findings.{AddsReach}
use Rattle.reach_tables.specs.Givens.{given_trees, givens}
use Rattle.reach_tables.specs.Offsets.{Fits}
use Rattle.names_model.specs.Parts.{nodes_of}
use Rattle.reach_walk.proofs.Showing.{shows-outermost, twice-outermost}
use Rattle.reach_walk.proofs.Walking.{found-reach}
use Rattle.reach_walk.proofs.walk.find_in_program.Goals as goal

pub returns : goal.returns
returns c = λ text k. subst (λ z. Fits 0 (nodes_of z) → AddsReach c.args.out.now c.walk.new.out text (outermost (nodes_of z)) 0 (nodes_of z)) c.as_slice-parts.ensures
    (λ h. let ps = nodes_of c.as_slice-parts.result.now in
    let g : given_trees c.as_slice-given.result.now ≡ givens c.args.book.now.all.items 0 ps = ap given_trees c.as_slice-given.ensures ∙ c.in_ok-made.ensures h in
    found-reach text (outermost ps) 0 ps c.args.out.now _ _ _ (c.in_ok-table.ensures.told h g) (twice-outermost c.args.book.now text _ ps k refl) refl refl
    (c.in_ok-walk.ensures text (outermost ps) (shows-outermost c.args.book.now _ text _ ps k refl (c.in_ok-table.ensures.table h g)) h g))
