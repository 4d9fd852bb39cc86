-- The facts of a typed program are sound.
use Rattle.std.proofs.Common.{◌≡◌, ℕ, zero, suc, ◌+◌, ◌<◌, ◌≤◌, false, List, [], ◌∷◌, length, map, get_or, Option, Some, refl, sym, ap, ◌∙◌, subst, arith}
use Rattle.std.specs.Prelude.{ℤ, slice_get, option_map, All, IfSome}
use Rattle.std.proofs.lemmas.Option.{slice_get-map, slice_get_within, get_or_from_slice_get, IfSome_then}
use Rattle.std.proofs.lemmas.List.{length-map}
use Rattle.std.proofs.lemmas.List.Elements.{All-nil, All-cons, All-append, All-map, All-weaker}
use Rattle.chill_base.specs.declared.layout.Bits.{Bits}
use Rattle.kernel_base.specs.declared.facts.Facts.{Facts}
use Rattle.kernel_base.specs.declared.value.Value.{Value}
use Rattle.kernel_base.specs.Value.{scalars_of, powersets_of}
use Rattle.kernel_base.specs.Facts as kernel
use Rattle.modes.specs.ModeTree.{ModeTree, int, boolean, char, instance, set_of, range, powerset, chars, array, structure, event, buffer, read, named, FieldNodes, no_fields, more_fields}
use Rattle.modes.specs.Bounds.{values_of}
use Rattle.modes.specs.Scalars.{repeated, lowest_of}
use Rattle.modes.specs.Language.{IsOfLanguage}
use Rattle.layout_map.specs.Words as bits
use Rattle.layout_map.specs.Apart as apart
use Rattle.layout_map.specs.Outcome.{outcome_of, spots, unless_impossible}
use Rattle.layout_map.specs.Numbered.{first_impossible}
use Rattle.layout_map.specs.Spots.{spots_of}
use Rattle.layout_map.proofs.ModeRuns.{spots_apart, spots_in_words}
use Rattle.std.specs.declared.result.Result.{Result}
use Rattle.std.specs.Prelude.{Ok, Err}
use Rattle.checked_program.specs.declared.program.Sort.{Sort}
use Rattle.checked_program.specs.declared.program.Sort.TheVariants.{Outermost, Process, Procedure}
use Rattle.program_trees.specs.ProgramTree.{LocationRowTree, SignalRowTree, BodyRowTree, CheckedTree}
use Rattle.source_meaning.specs.Values.{Domain, domains_of, IsWithin, AreWithin}
use Rattle.source_meaning.specs.Facts.{lowest_powersets_of, lowest_powersets_of_fields, behind_body, processes_from, AreFactsOf}
use Rattle.source_meaning.specs.Typed.{IsForProcess, IsTyped}
use Rattle.text_laws.proofs.Held.{Holds, EachHolds, mode_holds}
use Rattle.text_laws.proofs.Values.{within_length, within_at, lowest_within}
use Rattle.text_laws.specs.Laws.{FactsAreSoundLaw}

-- what stands in a list at a place where one that is made of it has something
pub mapped : {A B : Type 0} (f : A → B) (xs : List A) (k : ℕ) (y : B) → slice_get (map f xs) k ≡ Some y → (x : A) × (slice_get xs k ≡ Some x) × (f x ≡ y)
mapped f [] k y e = absurd (let no : ⊥ = cc in no)
mapped f (x ∷ xs) zero y e = (x, refl, let is : f x ≡ y = cc in is)
mapped f (x ∷ xs) (suc k) y e = mapped f xs k y e

-- what holds of each element holds of one at a place
pub all_at : {A : Type 0} (P : A → Type 0) (xs : List A) (k : ℕ) (x : A) → All P xs → slice_get xs k ≡ Some x → P x
all_at P xs k x all e = subst P (get_or_from_slice_get xs k x x e) (all k x (slice_get_within xs k x e))

-- ---- layouts

possible_by : (r : Result ℕ ℕ) (m : ModeTree) (bs : List Bits) → unless_impossible r m ≡ spots bs → (k : ℕ) × (r ≡ Ok k)
possible_by (Ok k) m bs e = (k, refl)
possible_by (Err n) m bs e = absurd (let no : ⊥ = cc in no)

-- the bits of each scalar of a mode that is laid hold what it may be
pub spots_hold : (m : ModeTree) → IsOfLanguage m → outcome_of m ≡ spots (spots_of m) → EachHolds (domains_of m) (spots_of m)
spots_hold m h e = let s = possible_by (first_impossible m 0) m (spots_of m) e in mode_holds m false 0 0 s.0 h.parts s.1

pub held_length : (ds : List Domain) (bs : List Bits) → EachHolds ds bs → length ds ≡ length bs
held_length [] [] w = refl
held_length [] (b ∷ bs) w = absurd w
held_length (d ∷ ds) [] w = absurd w
held_length (d ∷ ds) (b ∷ bs) w = ap suc (held_length ds bs w.1)

-- the bits at a place hold the domain there
pub held_at : (ds : List Domain) (bs : List Bits) (k : ℕ) (b : Bits) → EachHolds ds bs → slice_get bs k ≡ Some b → (d : Domain) × (slice_get ds k ≡ Some d) × Holds d b
held_at [] [] k b w e = absurd (let no : ⊥ = cc in no)
held_at [] (c ∷ bs) k b w e = absurd w
held_at (d ∷ ds) [] k b w e = absurd w
held_at (d ∷ ds) (c ∷ bs) zero b w e = (d, refl, let is : c ≡ b = cc in subst (λ (x : Bits). Holds d x) is w.0)
held_at (d ∷ ds) (c ∷ bs) (suc k) b w e = held_at ds bs k b w.1 e

in_word : (b : Bits) → bits.IsInWord b → kernel.IsInWord b
in_word b w = record { ordered = w.ordered; within = w.within }

-- a number of the domain at a place is held by the bits there
pub number_held : (m : ModeTree) (k : ℕ) (b : Bits) (d : Domain) (z : ℤ) → IsOfLanguage m → outcome_of m ≡ spots (spots_of m) → slice_get (spots_of m) k ≡ Some b → slice_get (domains_of m) k ≡ Some d → IsWithin d z → kernel.IsWithinBits b z
number_held m k b d z h e is at w =
    let there = held_at (domains_of m) (spots_of m) k b (spots_hold m h e) is in
    let one : Some there.0 ≡ Some d = sym there.1 ∙ at in
    let same : there.0 ≡ d = cc in
    record {
      in_word = in_word b (all_at bits.IsInWord (spots_of m) k b (spots_in_words m (spots_of m) h e) is);
      fits = there.2.each z (subst (λ (a : Domain). IsWithin a z) (sym same) w);
    }

pair_apart : (a b : Bits) → apart.ShareNoBit a b → kernel.ShareNoBit a b
pair_apart a b s word bit p q = s word bit (record { in_word = p.in_word; low = p.low; high = p.high }) (record { in_word = q.in_word; low = q.low; high = q.high })

-- ---- powersets

empty_one : (size : ℕ) → kernel.IsPowerset (size, [])
empty_one size = record { rise = λ k h. absurd (let no : ⊥ = omega arith in no); below = λ k d h. absurd (let no : ⊥ = omega arith in no) }

all_repeated : {A : Type 0} (P : A → Type 0) (n : ℕ) (xs : List A) → All P xs → All P (repeated n xs)
all_repeated P zero xs h = All-nil P
all_repeated P (suc n) xs h = All-append P xs (repeated n xs) h (all_repeated P n xs h)

mutual
  lowest_powersets : (m : ModeTree) → All kernel.IsPowerset (lowest_powersets_of m)
  lowest_powersets int = All-nil kernel.IsPowerset
  lowest_powersets boolean = All-nil kernel.IsPowerset
  lowest_powersets char = All-nil kernel.IsPowerset
  lowest_powersets instance = All-nil kernel.IsPowerset
  lowest_powersets (set_of d n) = All-nil kernel.IsPowerset
  lowest_powersets (range p l h) = All-nil kernel.IsPowerset
  lowest_powersets (powerset m) = All-cons kernel.IsPowerset (values_of m, []) [] (empty_one (values_of m)) (All-nil kernel.IsPowerset)
  lowest_powersets (chars n) = All-nil kernel.IsPowerset
  lowest_powersets (array i e how) = all_repeated kernel.IsPowerset (values_of i) (lowest_powersets_of e) (lowest_powersets e)
  lowest_powersets (structure fs p) = lowest_field_powersets fs
  lowest_powersets (event l) = All-nil kernel.IsPowerset
  lowest_powersets (buffer l e) = All-nil kernel.IsPowerset
  lowest_powersets (read m) = lowest_powersets m
  lowest_powersets (named d n m) = lowest_powersets m

  lowest_field_powersets : (fs : FieldNodes) → All kernel.IsPowerset (lowest_powersets_of_fields fs)
  lowest_field_powersets no_fields = All-nil kernel.IsPowerset
  lowest_field_powersets (more_fields name m at fs) = All-append kernel.IsPowerset (lowest_powersets_of m) (lowest_powersets_of_fields fs) (lowest_powersets m) (lowest_field_powersets fs)

-- ---- processes

behind_rises : (s : Sort) (k behind : ℕ) → behind ≤ k → (behind ≤ behind_body s k behind) × (behind_body s k behind ≤ suc k)
behind_rises Outermost k behind h = (omega arith, omega arith)
behind_rises Process k behind h = (omega arith, omega arith)
behind_rises Procedure k behind h = (omega arith, omega arith)

processes_rise : (k behind : ℕ) (bs : List BodyRowTree) → behind ≤ k → behind ≤ processes_from k behind bs
processes_rise k behind [] h = omega arith
processes_rise k behind (b ∷ bs) h =
    let r = behind_rises b.sort k behind h in
    let s : behind_body b.sort k behind ≤ processes_from (suc k) (behind_body b.sort k behind) bs = processes_rise (suc k) (behind_body b.sort k behind) bs r.1 in
    omega (arith, s, r.0)

process_behind : (s : Sort) (k behind : ℕ) → s ≡ Process → behind_body s k behind ≡ suc k
process_behind s k behind e = ap (λ (x : Sort). behind_body x k behind) e

process_from : (k behind j : ℕ) (bs : List BodyRowTree) (b : BodyRowTree) → behind ≤ k → slice_get bs j ≡ Some b → b.sort ≡ Process → k + j < processes_from k behind bs
process_from k behind j [] b h e s = absurd (let no : ⊥ = cc in no)
process_from k behind zero (c ∷ bs) b h e s =
    let is : c ≡ b = cc in
    let sort : c.sort ≡ Process = ap (λ (x : BodyRowTree). x.sort) is ∙ s in
    let one : behind_body c.sort k behind ≡ suc k = process_behind c.sort k behind sort in
    let r : behind_body c.sort k behind ≤ processes_from (suc k) (behind_body c.sort k behind) bs = processes_rise (suc k) (behind_body c.sort k behind) bs (omega (arith, one)) in
    omega (arith, one, r)
process_from k behind (suc j) (c ∷ bs) b h e s =
    let r = behind_rises c.sort k behind h in
    let low : suc k + j < processes_from (suc k) (behind_body c.sort k behind) bs = process_from (suc k) (behind_body c.sort k behind) j bs b r.1 e s in
    omega (arith, low)

-- a process has a number below that of the facts
pub process_below : (p : CheckedTree) (j : ℕ) (b : BodyRowTree) → slice_get p.bodies j ≡ Some b → b.sort ≡ Process → j < processes_from 0 0 p.bodies
process_below p j b e s = let low = process_from 0 0 j p.bodies b (omega arith) e s in omega (arith, low)

-- ---- the facts

pub record LocationOf (p : CheckedTree) (location : ℕ) (layout : List Bits) : Type 0 where
  pub row : LocationRowTree
  pub is_row : slice_get p.locations location ≡ Some row
  pub is_layout : spots_of row.mode ≡ layout
  pub language : IsOfLanguage row.mode
  pub laid : outcome_of row.mode ≡ spots (spots_of row.mode)

pub location_of : (p : CheckedTree) (input : List ℕ) (units : ℕ) (facts : Facts) → IsTyped p → AreFactsOf p input units facts → (location : ℕ) (layout : List Bits) → slice_get facts.layouts location ≡ Some layout → LocationOf p location layout
location_of p input units facts typed are location layout e =
    let one = mapped (λ (row : LocationRowTree). spots_of row.mode) p.locations location layout (ap (λ (l : List (List Bits)). slice_get l location) (sym are.layouts) ∙ e) in
    record {
      row = one.0;
      is_row = one.1;
      is_layout = one.2;
      language = (all_at (λ (row : LocationRowTree). IsOfLanguage row.mode × IfSome row.region (λ r. r < p.regions)) p.locations location one.0 typed.locations one.1).0;
      laid = all_at (λ (row : LocationRowTree). outcome_of row.mode ≡ spots (spots_of row.mode)) p.locations location one.0 typed.layouts one.1;
    }

same_row : (p : CheckedTree) (location : ℕ) (a b : LocationRowTree) → slice_get p.locations location ≡ Some a → slice_get p.locations location ≡ Some b → a ≡ b
same_row p location a b x y = let e : Some a ≡ Some b = sym x ∙ y in let is : a ≡ b = cc in is

-- the store has a row's lowest value
lowest_there : (p : CheckedTree) (input : List ℕ) (units : ℕ) (facts : Facts) → AreFactsOf p input units facts → (location : ℕ) (value : Value) (row : LocationRowTree) → slice_get facts.store location ≡ Some value → slice_get p.locations location ≡ Some row → (scalars_of value ≡ lowest_of row.mode) × (powersets_of value ≡ lowest_powersets_of row.mode)
lowest_there p input units facts are location value row v r =
    let s : Some (scalars_of value) ≡ Some (lowest_of row.mode) = sym (ap (λ (o : Option Value). option_map scalars_of o) v) ∙ (sym (slice_get-map scalars_of facts.store location) ∙ (ap (λ (l : List (List ℤ)). slice_get l location) are.store.scalars ∙ (slice_get-map (λ (x : LocationRowTree). lowest_of x.mode) p.locations location ∙ ap (λ (o : Option LocationRowTree). option_map (λ (x : LocationRowTree). lowest_of x.mode) o) r))) in
    let t : Some (powersets_of value) ≡ Some (lowest_powersets_of row.mode) = sym (ap (λ (o : Option Value). option_map powersets_of o) v) ∙ (sym (slice_get-map powersets_of facts.store location) ∙ (ap (λ (l : List (List (ℕ × List ℕ))). slice_get l location) are.store.powersets ∙ (slice_get-map (λ (x : LocationRowTree). lowest_powersets_of x.mode) p.locations location ∙ ap (λ (o : Option LocationRowTree). option_map (λ (x : LocationRowTree). lowest_powersets_of x.mode) o) r))) in
    (let is : scalars_of value ≡ lowest_of row.mode = cc in is, let is : powersets_of value ≡ lowest_powersets_of row.mode = cc in is)

laid_out : (p : CheckedTree) (input : List ℕ) (units : ℕ) (facts : Facts) → IsTyped p → AreFactsOf p input units facts → (location : ℕ) (value : Value) (layout : List Bits) → slice_get facts.store location ≡ Some value → slice_get facts.layouts location ≡ Some layout → kernel.IsLaidOut value layout
laid_out p input units facts typed are location value layout v l =
    let there = location_of p input units facts typed are location layout l in
    let m : ModeTree = there.row.mode in
    let low = lowest_there p input units facts are location value there.row v there.is_row in
    let values : AreWithin (domains_of m) (lowest_of m) = lowest_within m there.language.parts in
    let held : EachHolds (domains_of m) (spots_of m) = spots_hold m there.language there.laid in
    subst (λ (bs : List Bits). kernel.IsLaidOut value bs) there.is_layout (record {
      count = ap length low.0 ∙ (sym (within_length (domains_of m) (lowest_of m) values) ∙ held_length (domains_of m) (spots_of m) held);
      in_words = λ k d h. in_word (get_or (spots_of m) k d) (spots_in_words m (spots_of m) there.language there.laid k d h);
      apart = λ i j d h k. pair_apart (get_or (spots_of m) i d) (get_or (spots_of m) j d) (spots_apart m (spots_of m) there.language there.laid i j d h k);
      within = λ k b z is at.
          let one = held_at (domains_of m) (spots_of m) k b held is in
          let number : slice_get (lowest_of m) k ≡ Some z = ap (λ (xs : List ℤ). slice_get xs k) (sym low.0) ∙ at in
          number_held m k b one.0 z there.language there.laid is one.1 (within_at (domains_of m) (lowest_of m) k one.0 z values one.1 number);
      powersets = subst (λ (xs : List (ℕ × List ℕ)). All kernel.IsPowerset xs) (sym low.1) (lowest_powersets m);
    })

signals_in_range : (p : CheckedTree) (input : List ℕ) (units : ℕ) (facts : Facts) → IsTyped p → AreFactsOf p input units facts → All (λ (to : Option ℕ). IfSome to (λ process. process < facts.processes)) facts.signals
signals_in_range p input units facts typed are =
    let P : Option ℕ → Type 0 = λ to. IfSome to (λ process. process < facts.processes) in
    subst (λ (l : List (Option ℕ)). All P l) (sym are.signals) (All-map P (λ (row : SignalRowTree). row.process) p.signals
    (All-weaker (λ (row : SignalRowTree). All IsOfLanguage row.parts × IfSome row.process (IsForProcess p)) (λ (row : SignalRowTree). IfSome row.process (λ process. process < facts.processes))
    (λ row h. IfSome_then row.process h.1 (λ process there. subst (λ (n : ℕ). process < n) (sym are.processes) (process_below p process there.0 there.1 there.2))) p.signals typed.signals))

pub facts_are_sound : FactsAreSoundLaw
facts_are_sound p facts t =
    let are = t.are in
    record {
      locations = ap length are.layouts ∙ (length-map p.locations (λ (row : LocationRowTree). spots_of row.mode) ∙ (sym (length-map p.locations (λ (row : LocationRowTree). lowest_of row.mode)) ∙ (sym (ap length are.store.scalars) ∙ length-map facts.store scalars_of)));
      laid_out = laid_out p t.input t.units facts t.typed are;
      signals = signals_in_range p t.input t.units facts t.typed are;
      least_budget = subst (λ (n : ℕ). 1 ≤ n) (sym are.given_units) t.least;
      greatest_budget = subst (λ (n : ℕ). n ≤ 10000000) (sym are.given_units) t.most;
    }
