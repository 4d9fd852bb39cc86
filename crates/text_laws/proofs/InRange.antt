-- A request that fits the text fits the facts of the program.
use Rattle.std.proofs.Common.{◌≡◌, ℕ, zero, suc, ◌+◌, ◌<◌, ◌≤◌, List, [], ◌∷◌, length, map, take, drop, get_or, Option, Some, refl, sym, ap, ◌∙◌, subst, arith}
use Rattle.std.specs.Prelude.{ℤ, pos, slice_get, option_map, IsSomeAnd, IfSome}
use Rattle.std.proofs.lemmas.Option.{slice_get-map, slice_get_within, slice_get-get_or}
use Rattle.std.proofs.lemmas.List.{length-map, length-take, length-drop}
use Rattle.chill_base.specs.declared.layout.Bits.{Bits}
use Rattle.kernel_base.specs.declared.facts.Facts.{Facts}
use Rattle.kernel_base.specs.declared.request.Place.{Place}
use Rattle.kernel_base.specs.declared.request.Request.{Request}
use Rattle.kernel_base.specs.declared.request.Request.TheVariants.{Read, Write, Enter, Leave, Delay, Continue, SendBuffer, ReceiveBuffer, SendSignal, ReceiveSignal, Start, Put, Get, End}
use Rattle.kernel_base.specs.declared.value.Value.{Value}
use Rattle.kernel_base.specs.declared.value.ScalarKind.{ScalarKind}
use Rattle.kernel_base.specs.Value.{scalars_of, kinds_of}
use Rattle.kernel_base.specs.Facts as kernel
use Rattle.modes.specs.Scalars as modes
use Rattle.modes.specs.Language.{IsOfLanguage}
use Rattle.layout_map.specs.Spots.{spots_of}
use Rattle.layout_map.specs.Outcome.{outcome_of, spots}
use Rattle.checked_program.specs.declared.program.EventRow.{EventRow}
use Rattle.program_trees.specs.ProgramTree.{LocationRowTree, BufferRowTree, SignalRowTree, CheckedTree}
use Rattle.source_meaning.specs.Values.{Domain, within, any_instance, members_from, domains_of, IsWithin, AreWithin}
use Rattle.source_meaning.specs.Fitting.{domains_at}
use Rattle.source_meaning.specs.Facts.{kind_of, AreFactsOf}
use Rattle.source_meaning.specs.Typed.{IsTyped}
use Rattle.text_laws.specs.Requests.{LiesInText, FitsText}
use Rattle.text_laws.proofs.SoundFacts.{mapped, all_at, held_length, spots_hold, number_held, process_below}
use Rattle.text_laws.proofs.Values.{within_length, count_domains}

store_length : (p : CheckedTree) (input : List ℕ) (units : ℕ) (facts : Facts) → AreFactsOf p input units facts → length facts.store ≡ length p.locations
store_length p input units facts are = sym (length-map facts.store scalars_of) ∙ (ap length are.store.scalars ∙ length-map p.locations (λ (row : LocationRowTree). modes.lowest_of row.mode))

some_and : {A : Type 0} (o : Option A) (x : A) (P : A → Type 0) → o ≡ Some x → P x → IsSomeAnd o P
some_and o x P e p = subst (λ (y : Option _). IsSomeAnd y P) (sym e) p

-- a location of a typed program
record Row (p : CheckedTree) (place : Place) : Type 0 where
  row : LocationRowTree
  at : slice_get p.locations place.location ≡ Some row
  inside : place.first + place.count ≤ modes.scalars_of row.mode
  language : IsOfLanguage row.mode
  laid : outcome_of row.mode ≡ spots (spots_of row.mode)

row_of : (p : CheckedTree) (place : Place) → IsTyped p → LiesInText p place → Row p place
row_of p place typed l = record {
  row = l.0;
  at = l.1;
  inside = l.2;
  language = (all_at (λ (row : LocationRowTree). IsOfLanguage row.mode × IfSome row.region (λ r. r < p.regions)) p.locations place.location l.0 typed.locations l.1).0;
  laid = all_at (λ (row : LocationRowTree). outcome_of row.mode ≡ spots (spots_of row.mode)) p.locations place.location l.0 typed.layouts l.1;
}

lies : (p : CheckedTree) (input : List ℕ) (units : ℕ) (facts : Facts) (place : Place) → AreFactsOf p input units facts → Row p place → kernel.LiesInLocation facts place
lies p input units facts place are r =
    let there : slice_get facts.layouts place.location ≡ Some (spots_of r.row.mode) =
    ap (λ (l : List (List Bits)). slice_get l place.location) are.layouts ∙ (slice_get-map (λ (row : LocationRowTree). spots_of row.mode) p.locations place.location ∙ ap (λ (o : Option LocationRowTree). option_map (λ (row : LocationRowTree). spots_of row.mode) o) r.at) in
    let count : length (spots_of r.row.mode) ≡ modes.scalars_of r.row.mode = sym (held_length (domains_of r.row.mode) (spots_of r.row.mode) (spots_hold r.row.mode r.language r.laid)) ∙ count_domains r.row.mode in
    let low = slice_get_within p.locations place.location r.row r.at in
    let stored = store_length p input units facts are in
    let inside = r.inside in
    record { location = omega (arith, low, stored); scalars = some_and (slice_get facts.layouts place.location) (spots_of r.row.mode) (λ layout. place.first + place.count ≤ length layout) there (omega (arith, count, inside)) }

-- a number of a part, by its place in the whole
part_at : (ds : List Domain) (zs : List ℤ) (first count k : ℕ) (z : ℤ) → AreWithin (take count (drop first ds)) zs → slice_get zs k ≡ Some z → (d : Domain) × (slice_get ds (first + k) ≡ Some d) × IsWithin d z
part_at ds zs zero zero k z w e = none_at zs w e
  where
    none_at : (zs : List ℤ) → AreWithin [] zs → slice_get zs k ≡ Some z → (d : Domain) × (slice_get ds (0 + k) ≡ Some d) × IsWithin d z
    none_at [] w e = absurd (let f : ⊥ = cc in f)
    none_at (x ∷ xs) w e = absurd w
part_at [] [] zero (suc count) k z w e = absurd (let f : ⊥ = cc in f)
part_at [] (x ∷ zs) zero (suc count) k z w e = absurd w
part_at (d ∷ ds) [] zero (suc count) k z w e = absurd w
part_at (d ∷ ds) (x ∷ zs) zero (suc count) zero z w e = let is : x ≡ z = cc in (d, refl, subst (λ (y : ℤ). IsWithin d y) is w.0)
part_at (d ∷ ds) (x ∷ zs) zero (suc count) (suc k) z w e =
    let r = part_at ds zs zero count k z w.1 e in
    (r.0, ap (λ (n : ℕ). slice_get (d ∷ ds) n) (let q : 0 + suc k ≡ suc (0 + k) = omega arith in q) ∙ r.1, r.2)
part_at [] zs (suc first) count k z w e = nothing_at count zs w e
  where
    nothing_at : (count : ℕ) (zs : List ℤ) → AreWithin (take count []) zs → slice_get zs k ≡ Some z → (d : Domain) × (slice_get [] (suc first + k) ≡ Some d) × IsWithin d z
    nothing_at zero [] w e = absurd (let f : ⊥ = cc in f)
    nothing_at zero (x ∷ xs) w e = absurd w
    nothing_at (suc n) [] w e = absurd (let f : ⊥ = cc in f)
    nothing_at (suc n) (x ∷ xs) w e = absurd w
part_at (d ∷ ds) zs (suc first) count k z w e =
    let r = part_at ds zs first count k z w e in
    (r.0, ap (λ (n : ℕ). slice_get (d ∷ ds) n) (let q : suc first + k ≡ suc (first + k) = omega arith in q) ∙ r.1, r.2)

fits_kind : (d : Domain) (z : ℤ) → IsWithin d z → kernel.FitsKind (kind_of d) z
fits_kind (within b) z w = tt
fits_kind any_instance z w = tt
fits_kind (members_from size first) z w = w

scalar_fits : (p : CheckedTree) (input : List ℕ) (units : ℕ) (facts : Facts) (place : Place) (index : ℕ) (d : Domain) (z : ℤ) → AreFactsOf p input units facts → (r : Row p place) → slice_get (domains_of r.row.mode) index ≡ Some d → IsWithin d z → kernel.FitsScalar facts place.location index z
scalar_fits p input units facts place index d z are r at w = record {
  layout = λ layout bits l b.
      let one = mapped (λ (row : LocationRowTree). spots_of row.mode) p.locations place.location layout (ap (λ (x : List (List Bits)). slice_get x place.location) (sym are.layouts) ∙ l) in
      let same : Some one.0 ≡ Some r.row = sym one.1 ∙ r.at in
      let is : one.0 ≡ r.row = cc in
      let spots_are : layout ≡ spots_of r.row.mode = sym one.2 ∙ ap (λ (row : LocationRowTree). spots_of row.mode) is in
      number_held r.row.mode index bits d z r.language r.laid (ap (λ (x : List Bits). slice_get x index) (sym spots_are) ∙ b) at w;
  value = λ value kind v k.
      let kinds : Some (kinds_of value) ≡ Some (map kind_of (domains_of r.row.mode)) = sym (ap (λ (o : Option Value). option_map kinds_of o) v) ∙ (sym (slice_get-map kinds_of facts.store place.location) ∙ (ap (λ (l : List (List ScalarKind)). slice_get l place.location) are.store.kinds ∙ (slice_get-map (λ (row : LocationRowTree). map kind_of (domains_of row.mode)) p.locations place.location ∙ ap (λ (o : Option LocationRowTree). option_map (λ (row : LocationRowTree). map kind_of (domains_of row.mode)) o) r.at))) in
      let kinds_are : kinds_of value ≡ map kind_of (domains_of r.row.mode) = cc in
      let one : Some kind ≡ Some (kind_of d) = sym k ∙ (ap (λ (l : List ScalarKind). slice_get l index) kinds_are ∙ (slice_get-map kind_of (domains_of r.row.mode) index ∙ ap (λ (o : Option Domain). option_map kind_of o) at)) in
      let is : kind ≡ kind_of d = cc in
      subst (λ (x : ScalarKind). kernel.FitsKind x z) (sym is) (fits_kind d z w);
}

write_fits : (p : CheckedTree) (input : List ℕ) (units : ℕ) (facts : Facts) (place : Place) (zs : List ℤ) → AreFactsOf p input units facts → (r : Row p place) → AreWithin (domains_at (slice_get p.locations place.location) place.first place.count) zs → kernel.FitsWrite facts place zs
write_fits p input units facts place zs are r w =
    let ds : List Domain = domains_of r.row.mode in
    let v : AreWithin (take place.count (drop place.first ds)) zs = subst (λ (o : Option LocationRowTree). AreWithin (domains_at o place.first place.count) zs) r.at w in
    let a = within_length (take place.count (drop place.first ds)) zs v in
    let b = length-take place.count (drop place.first ds) in
    let c = length-drop place.first ds in
    let d = count_domains r.row.mode in
    let inside = r.inside in
    record {
      lies = lies p input units facts place are r;
      count = omega (arith, a, b, c, d, inside);
      within = λ k low.
          let at : slice_get zs k ≡ Some (get_or zs k (pos 0)) = slice_get-get_or zs k (pos 0) low in
          let one = part_at ds zs place.first place.count k (get_or zs k (pos 0)) v at in
          scalar_fits p input units facts place (place.first + k) one.0 (get_or zs k (pos 0)) are r one.1 one.2;
    }

pub fits_facts : (p : CheckedTree) (input : List ℕ) (units : ℕ) (facts : Facts) (request : Request) → IsTyped p → AreFactsOf p input units facts → FitsText p request → kernel.FitsRequest facts request
fits_facts p input units facts (Read place) typed are f = lies p input units facts place are (row_of p place typed f)
fits_facts p input units facts (Write place zs) typed are f = write_fits p input units facts place zs are (row_of p place typed f.0) f.1
fits_facts p input units facts (Enter region) typed are f = subst (λ (n : ℕ). region < n) (sym are.regions) f
fits_facts p input units facts (Leave region) typed are f = subst (λ (n : ℕ). region < n) (sym are.regions) f
fits_facts p input units facts (Delay events priority) typed are f = subst (λ (n : ℕ). kernel.NameThings n events) (sym (ap length are.events ∙ length-map p.events (λ (row : EventRow). row.length))) f
fits_facts p input units facts (Continue event) typed are f = subst (λ (n : ℕ). event < n) (sym (ap length are.events ∙ length-map p.events (λ (row : EventRow). row.length))) f
fits_facts p input units facts (SendBuffer buffer zs priority) typed are f = subst (λ (n : ℕ). buffer < n) (sym (ap length are.buffers ∙ length-map p.buffers (λ (row : BufferRowTree). row.length))) f.0
fits_facts p input units facts (ReceiveBuffer things o) typed are f = subst (λ (n : ℕ). kernel.NameThings n things) (sym (ap length are.buffers ∙ length-map p.buffers (λ (row : BufferRowTree). row.length))) f.0
fits_facts p input units facts (SendSignal k zs to priority) typed are f = subst (λ (n : ℕ). k < n) (sym (ap length are.signals ∙ length-map p.signals (λ (row : SignalRowTree). row.process))) f.0
fits_facts p input units facts (ReceiveSignal things o) typed are f = subst (λ (n : ℕ). kernel.NameThings n things) (sym (ap length are.signals ∙ length-map p.signals (λ (row : SignalRowTree). row.process))) f.0
fits_facts p input units facts (Start process zs) typed are f = subst (λ (n : ℕ). process < n) (sym are.processes) (process_below p process f.0 f.1 f.2)
fits_facts p input units facts (Put bytes) typed are f = tt
fits_facts p input units facts Get typed are f = tt
fits_facts p input units facts (End how) typed are f = tt
