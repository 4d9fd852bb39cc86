use Rattle.std.proofs.Common.{◌≡◌, ◌∙◌, sym, ap, List, Some, slice_get}
use Rattle.chill_base.specs.declared.layout.Bits.{Bits}
use Rattle.shared_store.proofs.Opened.{laid_in}
use Rattle.shared_store.proofs.store.packed.Goals as goal

pub new-requires-clause-own : goal.new-requires-clause-own
new-requires-clause-own c =
    (laid_in c.args.facts.now c.args.store.now c.args.location c.in_ok-layout.layout c.as_slice.result.now c.requires.store c.requires.sound
    (c.at.ensures ∙ ap (λ (l : List Bits). Some l) (sym c.in_ok-layout.ensures)) (rw c.as_slice.ensures c.at-2.ensures)).0

pub new-requires-clause-laid : goal.new-requires-clause-laid
new-requires-clause-laid c =
    (laid_in c.args.facts.now c.args.store.now c.args.location c.in_ok-layout.layout c.as_slice.result.now c.requires.store c.requires.sound
    (c.at.ensures ∙ ap (λ (l : List Bits). Some l) (sym c.in_ok-layout.ensures)) (rw c.as_slice.ensures c.at-2.ensures)).1
