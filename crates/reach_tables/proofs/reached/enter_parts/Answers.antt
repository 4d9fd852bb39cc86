use Rattle.std.proofs.Common.{◌≡◌, ◌+◌, ap, subst, arith}
use Rattle.names_model.specs.Parts.{part_tree}
use Rattle.names_model.specs.Sizes.{size_of}
use Rattle.names_model.specs.Seeing.{entries_in}
use Rattle.reach_tables.specs.Offsets.{Fits}
use Rattle.reach_tables.specs.Scopes.{told_by}
use Rattle.reach_tables.proofs.Lending.{given-at}
use Rattle.reach_tables.proofs.PartLists.{nodes-at, nodes-end}
use Rattle.reach_tables.proofs.Entering.{entering-on, entering-end, entering-none}
use Rattle.reach_tables.proofs.Repeated.{passes-none}
use Rattle.reach_tables.proofs.reached.enter_parts.Goals as goal

pub loop-part-init : goal.loop-part-init
loop-part-init c = λ h g es o. record { fits = h; left = g; entering = entering-none _ es _ (passes-none _ _ _ _ es o c.new-noted.ensures) }

pub loop-part-preserved : goal.loop-part-preserved
loop-part-preserved c = λ h g es o.
    let i = c.loop-part.invariant h g es o in
    let all = c.args.book.now.all.items in
    let k = c.loop-part.part-index in
    let x = c.part-item.result in
    let n = c.loop-part.next in
    let has = told_by c.args.around.now in
    let fits = subst (λ ps. Fits n ps) (nodes-at c.args.parts.now k x c.loop-part-test.true c.part-item.is) i.fits in
    let step : c.saturating_add-next.result ≡ n + size_of (part_tree x) = omega (arith, fits.0) in
    let split = c.split_given.ensures all n _ (given-at all n c.args.parts.now k x _ c.loop-part-test.true c.part-item.is i.left) in
    record {
      fits = rw step fits.2;
      left = rw step split.1;
      entering = rw step (entering-on _ _ es _ _ _ _ i.entering (ap (entries_in all has n) (nodes-at c.args.parts.now k x c.loop-part-test.true c.part-item.is))
          (λ fs. c.in_ok-enter_part.ensures fits.0 split.0 fs));
    }

pub returns : goal.returns
returns c = λ h g es o.
    let i = c.loop-part.invariant h g es o in
    (entering-end _ es _ _ i.entering (ap (entries_in c.args.book.now.all.items (told_by c.args.around.now) c.loop-part.next) (nodes-end c.args.parts.now c.loop-part.part-index c.loop-part-test.false))).opens
