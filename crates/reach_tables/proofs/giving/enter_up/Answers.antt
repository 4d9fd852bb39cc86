use Rattle.std.proofs.Common.{◌≡◌, ◌+◌, ap, subst, arith}
use Rattle.names_model.specs.Parts.{part_tree}
use Rattle.names_model.specs.Sizes.{size_of}
use Rattle.names_model.specs.Entries.{up_entries}
use Rattle.reach_tables.specs.Offsets.{Fits}
use Rattle.reach_tables.proofs.Lending.{given-at}
use Rattle.reach_tables.proofs.PartLists.{nodes-at, nodes-end}
use Rattle.reach_tables.proofs.Entering.{entering-on, entering-end, entering-none}
use Rattle.reach_tables.proofs.giving.enter_up.Goals as goal

pub loop-part-init : goal.loop-part-init
loop-part-init c = λ h g es o. record { fits = h; left = g; entering = entering-none _ es _ o }

pub loop-part-preserved : goal.loop-part-preserved
loop-part-preserved c = λ h g es o.
    let i = c.loop-part.invariant h g es o in
    let all = c.args.book.now.all.items in
    let k = c.loop-part.part-index in
    let x = c.part-item.result in
    let n = c.loop-part.next in
    let fits = subst (λ ps. Fits n ps) (nodes-at c.args.parts.now k x c.loop-part-test.true c.part-item.is) i.fits in
    let step : c.saturating_add-next.result ≡ n + size_of (part_tree x) = omega (arith, fits.0) in
    let split = c.split_given.ensures all n _ (given-at all n c.args.parts.now k x _ c.loop-part-test.true c.part-item.is i.left) in
    record {
      fits = rw step fits.2;
      left = rw step split.1;
      entering = rw step (entering-on _ _ es _ _ _ _ i.entering (ap (up_entries all n) (nodes-at c.args.parts.now k x c.loop-part-test.true c.part-item.is))
          (λ fs. c.in_ok-enter_up_part.ensures fits.0 split.0 fs));
    }

pub returns : goal.returns
returns c = λ h g es o.
    let i = c.loop-part.invariant h g es o in
    entering-end _ es _ _ i.entering (ap (up_entries c.args.book.now.all.items c.loop-part.next) (nodes-end c.args.parts.now c.loop-part.part-index c.loop-part-test.false))
