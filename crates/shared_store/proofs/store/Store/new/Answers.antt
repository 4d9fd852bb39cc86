use Rattle.std.proofs.Common.{◌≡◌, ◌∙◌, ap, length, map, sym, arith}
use Rattle.std.proofs.lemmas.List.{length-map}
use Rattle.kernel_base.specs.Value.{scalars_of}
use Rattle.world_model.specs.declared.world.World.{World}
use Rattle.shared_store.proofs.Opened.{packed_layouts, packed_more, packed_scalars}
use Rattle.shared_store.proofs.store.Store.new.Goals as goal

pub loop-location-preserved : goal.loop-location-preserved
loop-location-preserved c =
    rw c.in_ok-push.ensures.items (packed_more c.args.facts.now.layouts c.in_ok-opening.opening.store c.loop-location.location c.loop-location.locations.items c.in_ok-packed.field-0 c.loop-location.invariant c.in_ok-packed.ensures.layout c.in_ok-packed.ensures.scalars)

pub returns-clause-layouts : goal.returns-clause-layouts
returns-clause-layouts c =
    let all : length c.args.facts.now.store ≡ c.loop-location.location = omega (arith, c.len-location-end.ensures, c.loop-location-test.false, c.loop-location.auto.location-end) in
    packed_layouts c.args.facts.now.layouts c.in_ok-opening.opening.store c.loop-location.location c.loop-location.locations.items (c.requires.locations ∙ all) c.loop-location.invariant

pub returns-clause-scalars : goal.returns-clause-scalars
returns-clause-scalars c =
    let all : length c.args.facts.now.store ≡ c.loop-location.location = omega (arith, c.len-location-end.ensures, c.loop-location-test.false, c.loop-location.auto.location-end) in
    let is : c.in_ok-opening.opening.store ≡ map scalars_of c.args.facts.now.store = ap (λ (w : World). w.store) c.in_ok-opening.ensures in
    let long : length c.in_ok-opening.opening.store ≡ c.loop-location.location = rw is (length-map c.args.facts.now.store scalars_of ∙ all) in
    packed_scalars c.args.facts.now.layouts c.in_ok-opening.opening.store c.loop-location.location c.loop-location.locations.items long c.loop-location.invariant ∙ is
