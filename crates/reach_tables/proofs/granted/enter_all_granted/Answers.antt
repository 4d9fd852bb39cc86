use Rattle.std.proofs.Common.{ap}
use Rattle.std.specs.Prelude.{flat_map}
use Rattle.names_model.specs.Parts.{parts_in}
use Rattle.names_model.specs.Entries.{granted_entries}
use Rattle.reach_tables.specs.Scopes.{told_by}
use Rattle.reach_tables.proofs.PartLists.{nodes-at, nodes-end}
use Rattle.reach_tables.proofs.Entering.{entering-on, entering-end, entering-none}
use Rattle.reach_tables.proofs.Repeated.{passes-none}
use Rattle.reach_tables.proofs.granted.enter_all_granted.Goals as goal

pub loop-part-init : goal.loop-part-init
loop-part-init c = λ es o. entering-none _ es _ (passes-none _ _ _ _ es o c.new-noted.ensures)

pub loop-part-preserved : goal.loop-part-preserved
loop-part-preserved c = λ es o.
    let f = granted_entries c.args.book.now.all.items c.args.giver.now.region (told_by c.args.giver.now.has) c.args.giver.now.own.now in
    entering-on _ _ es _ _ _ _ (c.loop-part.invariant es o) (ap (λ qs. flat_map f (parts_in qs)) (nodes-at c.args.parts.now c.loop-part.part-index c.part-item.result c.loop-part-test.true c.part-item.is)) (λ fs. c.in_ok-enter_granted.ensures fs)

pub returns : goal.returns
returns c = λ es o.
    let f = granted_entries c.args.book.now.all.items c.args.giver.now.region (told_by c.args.giver.now.has) c.args.giver.now.own.now in
    (entering-end _ es _ _ (c.loop-part.invariant es o) (ap (λ qs. flat_map f (parts_in qs)) (nodes-end c.args.parts.now c.loop-part.part-index c.loop-part-test.false))).opens
