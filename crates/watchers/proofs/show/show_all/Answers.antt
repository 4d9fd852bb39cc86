use Rattle.std.proofs.Common.{rules, ◌≡◌, ◌<◌, ◌+◌, ◌++◌, [], ◌∷◌, length, slice_set, refl, ap, ◌∙◌, arith, length-set, length-append}
use Rattle.watchers.proofs.Standing.{box_kept, box_dropped}
use Rattle.watchers.proofs.show.show_all.Goals as goal
use Rattle.watchers.proofs.show.show_all.Goals.{in-Ok, in-Err-Refused}

-- a box that stays is written back, and one that refused an event is taken out
pub loop-place-preserved : goal.loop-place-preserved
loop-place-preserved g c =
    let inv = c.loop-place.invariant in
    let low : c.loop-place.at < length c.loop-place.boxes.items = omega (arith, inv.0, inv.1, c.loop-place-test.true) in
    elim c.match-show.branch [
      | in-Ok w ↦
          let made : c.match-show.boxes.items ≡ slice_set c.loop-place.boxes.items c.loop-place.at c.show.new.watcher = search rules in (
            rw (w.at-is, w.dropped-is) (omega (arith, inv.0)),
            rw w.dropped-is (ap (λ n. n + length c.loop-place.dropped.items) (ap length made ∙ length-set _ _ _) ∙ inv.1),
            inv.2,
            rw w.dropped-is inv.3,
            rw (w.at-is, w.dropped-is) (box_kept _ _ _ _ _ _ _ _ _ _ low c.index_mut.ensures.value made inv.4 w.in-Ok.ensures),
          )
      | in-Err-Refused w ↦
          let pushed : w.push.new.self.items ≡ c.loop-place.dropped.items ++ c.loop-place.place ∷ [] = search rules in
          let long : length w.push.new.self.items ≡ length c.loop-place.dropped.items + 1 = ap length pushed ∙ length-append _ _ in
          let refused = rw w.in-Err-Refused.field-0-is at w.in-Err-Refused.ensures in (
            rw (w.at-is, w.dropped-is) (omega (arith, inv.0, long)),
            rw (w.boxes-is, w.dropped-is) (search (rules, arith)),
            inv.2,
            rw w.dropped-is (search rules),
            rw (w.at-is, w.dropped-is, w.boxes-is, pushed) (box_dropped _ _ _ _ _ _ _ _ _ _ c.show.new.watcher low c.index_mut.ensures.value refl w.remove.ensures.items inv.4 refused),
          )
    ]
