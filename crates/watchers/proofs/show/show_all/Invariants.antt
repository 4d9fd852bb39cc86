use Rattle.std.proofs.Common.{◌≡◌, ◌≤◌, ◌+◌, length, map, take, drop, vec_capacity}
use Rattle.watchers.proofs.Standing.{Standing}
use Rattle.watchers.proofs.show.show_all.Given as goal

-- the boxes before the next one were shown the events and stayed, and those before its place that aren't among them are dropped
abbrev pub invariant-loop-place : goal.invariant-loop-place
invariant-loop-place g l =
    (l.at + length l.dropped.items ≡ l.place)
    × (length l.boxes.items + length l.dropped.items ≡ l.count)
    × (l.count ≡ length l.fn.boxes.items)
    × (l.count ≤ vec_capacity l.dropped)
    × Standing (map (λ b. (goal.Watcher-dyn g (b.vtable, b.value)).watching b.value) l.fn.boxes.items) l.events
    (map (λ b. (goal.Watcher-dyn g (b.vtable, b.value)).watching b.value) (take l.at l.boxes.items))
    (map (λ b. (goal.Watcher-dyn g (b.vtable, b.value)).watching b.value) (drop l.at l.boxes.items)) l.place l.dropped.items
