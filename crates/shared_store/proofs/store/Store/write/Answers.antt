use Rattle.std.proofs.Common.{◌≡◌, ◌<◌, ◌∙◌, sym, ap, subst, get_or, set, map, length, List, [], ℤ}
use Rattle.std.proofs.Math.Seq.{map-set_same}
use Rattle.std.proofs.lemmas.List.{length-map, map-set}
use Rattle.chill_base.specs.declared.layout.Bits.{Bits}
use Rattle.world_model.specs.Lists.{with_scalars}
use Rattle.shared_store.specs.Places.{FitAt, SeenStore, layout_in, layout_of, location_of, numbers_in}
use Rattle.shared_store.proofs.Opened.{seen_at}
use Rattle.shared_store.proofs.store.Store.write.Goals as goal

pub write_from-requires-clause-fits : goal.write_from-requires-clause-fits
write_from-requires-clause-fits c =
    let ps = c.self.inside.locations.items in
    let at = c.args.place.location in
    let p = c.index_mut-location.result.now in
    let low : at < length ps = rw (length-map ps numbers_in) at (subst (λ (v : SeenStore). at < length v.scalars) (sym c.self.view_is) c.requires.lies.location) in
    let is : layout_of c.args.self.now at ≡ p.layout = ap (λ (v : SeenStore). layout_of v at) (sym c.self.view_is) ∙ seen_at layout_in ps at p [] low c.index_mut-location.ensures.value in
    subst (λ (numbers : List ℤ). FitAt p.layout c.args.place.first numbers) (sym c.as_slice.ensures) (subst (λ (layout : List Bits). FitAt layout c.args.place.first c.args.scalars.now) is c.requires.fits)

pub returns-clause-layouts : goal.returns-clause-layouts
returns-clause-layouts c =
    let ps = c.self.inside.locations.items in
    map-set_same layout_in ps c.args.place.location c.write_from.new.packed c.index_mut-location.result.now (c.write_from.ensures.layout ∙ ap layout_in c.index_mut-location.ensures.value) ∙ ap (λ (v : SeenStore). v.layouts) c.self.view_is

pub returns-clause-scalars : goal.returns-clause-scalars
returns-clause-scalars c =
    let ps = c.self.inside.locations.items in
    let at = c.args.place.location in
    let first = c.args.place.first in
    let p = c.index_mut-location.result.now in
    let low : at < length ps = rw (length-map ps numbers_in) at (subst (λ (v : SeenStore). at < length v.scalars) (sym c.self.view_is) c.requires.lies.location) in
    let was : p.scalars ≡ location_of c.args.self.now.scalars at = sym (seen_at numbers_in ps at p [] low c.index_mut-location.ensures.value) ∙ ap (λ (v : SeenStore). location_of v.scalars at) c.self.view_is in
    map-set numbers_in ps at c.write_from.new.packed
    ∙ ap (λ (z : List ℤ). set (map numbers_in ps) at z) (c.write_from.ensures.scalars ∙ ap (λ (xs : List ℤ). with_scalars xs first c.as_slice.result.now) was ∙ ap (λ (ns : List ℤ). with_scalars (location_of c.args.self.now.scalars at) first ns) c.as_slice.ensures)
    ∙ ap (λ (v : SeenStore). set v.scalars at (with_scalars (location_of c.args.self.now.scalars at) first c.args.scalars.now)) c.self.view_is
