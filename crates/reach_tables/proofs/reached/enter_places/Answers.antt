use Rattle.reach_tables.proofs.Entering.{opens-place}
use Rattle.reach_tables.proofs.reached.enter_places.Goals as goal

pub loop-place-preserved : goal.loop-place-preserved
loop-place-preserved c = λ es o. opens-place _ c.args.book.now.all.items es c.args.places.now c.loop-place.place-index _ c.loop-place-test.true (c.in_ok-enter.ensures _ (c.loop-place.invariant es o))
