use Rattle.std.proofs.Common.{◌≡◌, ◌+◌, ◌∙◌, [], suc, min, refl, ap, sym, subst, append-nil, arith}
use Rattle.std.specs.Prelude.{OnOk}
use Rattle.names_model.specs.Parts.{part_tree, modulion, routine, block}
use Rattle.names_model.specs.Sizes.{size_of, head_size}
use Rattle.names_model.specs.Entries.{param_names}
use Rattle.names_model.specs.Seeing.{in_block, in_modulion}
use Rattle.names_model.specs.NameRules.{told_here, twice_inside}
use Rattle.names_model.specs.Dependence.{groups_of}
use Rattle.names_model.specs.Resolving.{resolved_here}
use Rattle.names_model.proofs.PartViews.{tree-modulion, tree-routine, tree-block}
use Rattle.reach_walk.specs.Findings.{AddsReach, uses_at}
use Rattle.reach_tables.specs.Givens.{given_trees, givens, inner_lent}
use Rattle.reach_tables.specs.Offsets.{Fits}
use Rattle.names_model.specs.Parts.{nodes_of}
use Rattle.reach_tables.specs.Places.{singles}
use Rattle.reach_tables.proofs.Lending.{given-at, givens-back}
use Rattle.reach_tables.proofs.PartLists.{nodes-at}
use Rattle.reach_walk.proofs.Showing.{shows-modulion, shows-block, twice-modulion, twice-block}
use Rattle.reach_walk.proofs.Walking.{InsideFound, found-on, found-reach, groups-walk, told-walk}
use Rattle.reach_walk.proofs.walk.+walk.Goals as goal

pub walk-loop-part-preserved : goal.walk-loop-part-preserved
walk-loop-part-preserved t c = λ text r s h g.
    let i = c.loop-part.invariant text r s h g in
    let all = c.args.book.now.all.items in
    let k = c.loop-part.part-index in
    let x = c.part-item.result in
    let p = part_tree x in
    let n = c.loop-part.next in
    let fits = subst (λ ps. Fits n ps) (nodes-at c.args.parts.now k x c.loop-part-test.true c.part-item.is) i.fits in
    let step : c.saturating_add-next.result ≡ n + size_of p = omega (arith, fits.0) in
    let here = c.in_ok-note_here.ensures text r s fits.0 in
    let split = c.split_given.ensures all n _ (given-at all n c.args.parts.now k x _ c.loop-part-test.true c.part-item.is i.left) in
    let inside = c.in_ok-walk_inside.ensures text r s fits.0 fits.1 split.0 in
    record {
      fits = rw step fits.2;
      left = rw step split.1;
      told = told-walk text r c.args.parts.now k n _ x (told_here text r p) (twice_inside text r n p) _ _ _ _ c.loop-part-test.true c.part-item.is step refl i.told here.told inside.told;
      groups = groups-walk text r c.args.parts.now k n _ x (groups_of text r n p) [] _ _ _ _ c.loop-part-test.true c.part-item.is step (sym (append-nil (groups_of text r n p))) i.groups here.groups inside.groups;
      uses = found-on (uses_at text) r c.args.parts.now k n _ x (resolved_here text r p) [] _ _ _ _ c.loop-part-test.true c.part-item.is step (sym (append-nil (resolved_here text r p))) i.uses here.uses inside.uses;
    }

pub walk_modulion-returns : goal.walk_modulion-returns
walk_modulion-returns t c = λ text r s. subst (λ z. Fits c.args.from (nodes_of z) → given_trees c.args.given.now ≡ givens c.args.book.now.all.items c.args.from (nodes_of z) → AddsReach c.args.out.now c.walk.new.out text (in_modulion r c.args.from (nodes_of z)) c.args.from (nodes_of z)) c.as_slice-parts.ensures
    (λ h g. let ps = nodes_of c.as_slice-parts.result.now in
    found-reach text (in_modulion r c.args.from ps) c.args.from ps c.args.out.now _ _ _ (c.in_ok-table.ensures.told h g) (twice-modulion c.args.book.now c.args.scope.now text r _ c.args.from ps s refl) refl refl
    (c.in_ok-walk.ensures text (in_modulion r c.args.from ps) (shows-modulion c.args.book.now c.args.scope.now _ _ _ text r _ c.args.from ps s refl (c.in_ok-table.ensures.table h g) c.seizes_all.ensures) h g))

pub walk_block-returns : goal.walk_block-returns
walk_block-returns t c = λ text r s. subst (λ z. Fits c.args.from (nodes_of z) → AddsReach c.args.out.now c.walk.new.out text (in_block r (singles c.args.head.now) c.args.from (nodes_of z)) c.args.from (nodes_of z)) c.as_slice-parts.ensures
    (λ h. let ps = nodes_of c.as_slice-parts.result.now in
    let g : given_trees c.as_slice-given.result.now ≡ givens c.args.book.now.all.items c.args.from ps = ap given_trees c.as_slice-given.ensures ∙ c.in_ok-made.ensures h in
    found-reach text (in_block r (singles c.args.head.now) c.args.from ps) c.args.from ps c.args.out.now _ _ _ (c.in_ok-table.ensures.told h g) (twice-block c.args.book.now c.args.scope.now text r (singles c.args.head.now) c.args.from ps s) refl refl
    (c.in_ok-walk.ensures text (in_block r (singles c.args.head.now) c.args.from ps) (shows-block c.args.book.now c.args.scope.now _ _ text r (singles c.args.head.now) c.args.from ps s (c.in_ok-table.ensures.table h g)) h g))

pub walk_inside-returns-in-Modulion : goal.walk_inside-returns-in-Modulion
walk_inside-returns-in-Modulion t c = λ text r s.
    let m = c.in-Modulion in
    let ps = nodes_of m.parts in
    let is : part_tree c.args.part.now ≡ modulion m.name m.region m.size ps = ap part_tree m.is ∙ tree-modulion m.name m.region m.size m.parts in
    subst (InsideFound text r c.args.book.now.all.items (given_trees c.args.given.now) c.args.from c.walk_modulion.result c.walk_modulion.new.out c.args.out.now) (sym is) (λ b f g.
    let first : c.saturating_add.result ≡ suc c.args.from = omega arith in
    subst (λ k. OnOk c.walk_modulion.result (AddsReach c.args.out.now c.walk_modulion.new.out text (in_modulion r k ps) k ps)) first (c.walk_modulion.ensures text r s (subst (λ k. Fits k ps) (sym first) f)
    (c.lent_inner-inner.ensures ∙ ap inner_lent g ∙ givens-back (givens c.args.book.now.all.items (suc c.args.from) ps) ∙ ap (λ k. givens c.args.book.now.all.items k ps) (sym first))))

pub walk_inside-returns-in_ok-head-in-Routine : goal.walk_inside-returns-in_ok-head-in-Routine
walk_inside-returns-in_ok-head-in-Routine t c = λ text r s.
    let m = c.in-Routine in
    let ps = nodes_of m.parts in
    let is : part_tree c.args.part.now ≡ routine m.name m.kind m.params m.returned m.size ps = ap part_tree m.is ∙ tree-routine m.name m.kind m.params m.returned m.size m.parts in
    let size : c.head_size.result ≡ min (head_size m.params m.returned) 4294967295 = rw (c.as_slice.ensures, c.as_slice-in-Routine.ensures) at c.head_size.ensures in
    subst (InsideFound text r c.args.book.now.all.items (given_trees c.args.given.now) c.args.from c.walk_block.result c.walk_block.new.out c.args.out.now) (sym is) (λ b f g.
    let own : c.saturating_add-in-Routine.result ≡ suc c.args.from = omega arith in
    let first : c.saturating_add-first.result ≡ c.args.from + head_size m.params m.returned = omega arith in
    let head : singles c.as_slice-in-Routine-2.result.now ≡ param_names (suc c.args.from) m.params = ap singles c.as_slice-in-Routine-2.ensures.value ∙ c.in_ok-head-in-Routine.ensures (omega arith) ∙ ap (λ k. param_names k m.params) own in
    subst (λ k. OnOk c.walk_block.result (AddsReach c.args.out.now c.walk_block.new.out text (in_block r (param_names (suc c.args.from) m.params) k ps) k ps)) first
    (subst (λ es. OnOk c.walk_block.result (AddsReach c.args.out.now c.walk_block.new.out text (in_block r es c.saturating_add-first.result ps) c.saturating_add-first.result ps)) head
    (c.walk_block.ensures text r s (subst (λ k. Fits k ps) (sym first) f))))

pub walk_inside-returns-in-Block : goal.walk_inside-returns-in-Block
walk_inside-returns-in-Block t c = λ text r s.
    let m = c.in-Block in
    let ps = nodes_of m.parts in
    let is : part_tree c.args.part.now ≡ block m.size ps = ap part_tree m.is ∙ tree-block m.size m.parts in
    subst (InsideFound text r c.args.book.now.all.items (given_trees c.args.given.now) c.args.from c.walk_block-in-Block.result c.walk_block-in-Block.new.out c.args.out.now) (sym is) (λ b f g.
    c.walk_block-in-Block.ensures text r s f)
