-- Counters that are put into the table by their numbers: each has then what its loop goes through by the whole table.
use Rattle.std.proofs.Common.{◌≡◌, ◌≢◌, ◌<◌, ◌≤◌, ◌-◌, ◌+◌, ◌⊎◌, inl, inr, ℕ, zero, suc, Bool, true, false, List, [], ◌∷◌, ◌++◌, Option, Some, None, map, length, set, length-set, refl, sym, ap, ◌∙◌, subst, true≢false, arith, Contains}
use Rattle.std.specs.Prelude.{slice_get, option_map, option_and_then}
use Rattle.std.proofs.lemmas.Option.{slice_get-map}
use Rattle.std.proofs.lemmas.List.{length-map}
use Rattle.std.proofs.lemmas.Bool.Decides.{eqb_tells}
use Rattle.chill_tree.specs.declared.tree.name.Name.{Name}
use Rattle.chill_tree.specs.SimpleTree.{ControlTree}
use Rattle.chill_tree.specs.ItemTree.{ProgramTree}
use Rattle.names_model.specs.declared.names.Resolved.{Resolved}
use Rattle.names_laws.proofs.Members.{here_in, later_in}
use Rattle.checks_model.specs.Ground.{Ground, Origin, Entry, a_synonym, a_mode, an_element, a_location, a_parameter, a_counter, a_received, a_procedure, a_process, a_signal, a_modulion, a_predefined, origin_of, entry_of, entry_defined, number_at}
use Rattle.checks_model.specs.Origins.{origins_of}
use Rattle.checks_model.specs.ActionRules.{counter_mode}
use Rattle.checks_model.specs.Table.{of_mode_alone, entry_by, entry_with_counters, ground_with, IsGroundOf, IsStatementGroundOf}
use Rattle.checks_model.specs.Diagnoses.{HasNames}
use Rattle.table_laws.specs.Names.{names_bounding}
use Rattle.table_laws.specs.Frames.{SameAt, SameAtEach, SameDefined, SameParameters, parameters_of}
use Rattle.table_laws.specs.OneTable.{SameText, with_entries}
use Rattle.table_laws.proofs.ToldFrames.{counter_frame}
use Rattle.order_laws.specs.Texts.{is_counter}
use Rattle.order_laws.specs.Counted.{entries_counted, counted_at, counted, CountedLaw}
use Rattle.order_laws.proofs.Counters.{number_same, origin_same}
use Rattle.order_laws.proofs.CounterOrder.{counters_rise}
use Rattle.order_laws.proofs.Params.{params_are_apart}
use Rattle.order_laws.proofs.TextCounters.{entries_kept}

-- ---- lists by their elements

set_elsewhere : {A : Type 0} (xs : List A) (k d : ℕ) (x : A) → ¬ (k ≡ d) → slice_get (set xs k x) d ≡ slice_get xs d
set_elsewhere [] k d x apart = refl
set_elsewhere (y ∷ xs) zero zero x apart = absurd (apart refl)
set_elsewhere (y ∷ xs) zero (suc d) x apart = refl
set_elsewhere (y ∷ xs) (suc k) zero x apart = refl
set_elsewhere (y ∷ xs) (suc k) (suc d) x apart = set_elsewhere xs k d x (λ same. apart (ap suc same))

set_here : {A : Type 0} (xs : List A) (k : ℕ) (x : A) → k < length xs → slice_get (set xs k x) k ≡ Some x
set_here [] k x less = absurd (omega arith)
set_here (y ∷ xs) zero x less = refl
set_here (y ∷ xs) (suc k) x less = set_here xs k x (omega arith)

same_lists : {A : Type 0} (xs ys : List A) → length xs ≡ length ys → ((k : ℕ) → k < length xs → slice_get xs k ≡ slice_get ys k) → xs ≡ ys
same_lists [] [] long same = refl
same_lists [] (y ∷ ys) long same = absurd (omega (arith, long))
same_lists (x ∷ xs) [] long same = absurd (omega (arith, long))
same_lists (x ∷ xs) (y ∷ ys) long same = joined x y xs ys (same 0 (omega arith)) (same_lists xs ys (omega (arith, long)) (λ k less. same (suc k) (omega (arith, less))))
  where
    joined : {A : Type 0} (x y : A) (xs ys : List A) → Some x ≡ Some y → xs ≡ ys → x ∷ xs ≡ y ∷ ys
    joined x y xs ys one rest = cc

got : {A : Type 0} (xs : List A) (k : ℕ) → k < length xs → (x : A) × (slice_get xs k ≡ Some x)
got [] k less = absurd (omega arith)
got (x ∷ xs) zero less = (x, refl)
got (x ∷ xs) (suc k) less = got xs k (omega arith)

-- ---- one counter

by_origin : (g : Ground) (k d : ℕ) (o : Option Origin) → (is_counter o ≡ true → ¬ (k ≡ d)) → slice_get (entries_counted g k o) d ≡ slice_get g.entries d
by_origin g k d None apart = refl
by_origin g k d (Some (a_counter c)) apart = set_elsewhere g.entries k d (of_mode_alone (counter_mode g c)) (apart refl)
by_origin g k d (Some (a_synonym s)) apart = refl
by_origin g k d (Some (a_mode novel m)) apart = refl
by_origin g k d (Some (an_element ns part owner)) apart = refl
by_origin g k d (Some (a_location l)) apart = refl
by_origin g k d (Some (a_parameter m)) apart = refl
by_origin g k d (Some (a_received n count part)) apart = refl
by_origin g k d (Some (a_procedure p)) apart = refl
by_origin g k d (Some (a_process p)) apart = refl
by_origin g k d (Some (a_signal s)) apart = refl
by_origin g k d (Some (a_modulion kind items)) apart = refl
by_origin g k d (Some (a_predefined p)) apart = refl

long_by : (g : Ground) (k : ℕ) (o : Option Origin) → length (entries_counted g k o) ≡ length g.entries
long_by g k None = refl
long_by g k (Some (a_counter c)) = length-set g.entries k (of_mode_alone (counter_mode g c))
long_by g k (Some (a_synonym s)) = refl
long_by g k (Some (a_mode novel m)) = refl
long_by g k (Some (an_element ns part owner)) = refl
long_by g k (Some (a_location l)) = refl
long_by g k (Some (a_parameter m)) = refl
long_by g k (Some (a_received n count part)) = refl
long_by g k (Some (a_procedure p)) = refl
long_by g k (Some (a_process p)) = refl
long_by g k (Some (a_signal s)) = refl
long_by g k (Some (a_modulion kind items)) = refl
long_by g k (Some (a_predefined p)) = refl

-- ---- many

same_text : (g : Ground) (k n : ℕ) → SameText g (counted g k n)
same_text g k zero = record { uses = refl; defined = refl; origins = refl }
same_text g k (suc n) = let rest = same_text (counted_at g k) (suc k) n in record { uses = rest.uses; defined = rest.defined; origins = rest.origins }

as_long : (g : Ground) (k n : ℕ) → length (counted g k n).entries ≡ length g.entries
as_long g k zero = refl
as_long g k (suc n) = as_long (counted_at g k) (suc k) n ∙ long_by g k (slice_get g.origins k)

-- what stands before them, or is no counter, is left as it is
left : (g : Ground) (k n d : ℕ) → (d < k) ⊎ (is_counter (slice_get g.origins d) ≡ false) → slice_get g.entries d ≡ slice_get (counted g k n).entries d
left g k zero d apart = refl
left g k (suc n) d apart =
    sym (by_origin g k d (slice_get g.origins k) (λ counts same. no_counter apart counts same))
    ∙ left (counted_at g k) (suc k) n d (elim apart [ inl less ↦ inl (omega (arith, less)) | inr none ↦ inr none ])
  where
    no_counter : (d < k) ⊎ (is_counter (slice_get g.origins d) ≡ false) → is_counter (slice_get g.origins k) ≡ true → ¬ (k ≡ d)
    no_counter (inl less) counts same = omega (arith, less, same)
    no_counter (inr none) counts same = true≢false (sym counts ∙ ap (λ j. is_counter (slice_get g.origins j)) same ∙ none)

split : (g : Ground) (k m n : ℕ) → counted g k (m + n) ≡ counted (counted g k m) (k + m) n
split g k zero n =
    let none : 0 + n ≡ n = omega arith in
    let same : k ≡ k + 0 = omega arith in
    ap (counted g k) none ∙ ap (λ j. counted g j n) same
split g k (suc m) n =
    let more : suc m + n ≡ suc (m + n) = omega arith in
    let same : suc k + m ≡ k + suc m = omega arith in
    ap (counted g k) more ∙ split (counted_at g k) (suc k) m n ∙ ap (λ j. counted (counted (counted_at g k) (suc k) m) j n) same

counter_there : (o : Option Origin) → is_counter o ≡ true → (c : ControlTree) × (o ≡ Some (a_counter c))
counter_there (Some (a_counter c)) is = (c, refl)
counter_there None is = absurd (true≢false (sym is))
counter_there (Some (a_synonym s)) is = absurd (true≢false (sym is))
counter_there (Some (a_mode novel m)) is = absurd (true≢false (sym is))
counter_there (Some (an_element ns part owner)) is = absurd (true≢false (sym is))
counter_there (Some (a_location l)) is = absurd (true≢false (sym is))
counter_there (Some (a_parameter m)) is = absurd (true≢false (sym is))
counter_there (Some (a_received n count part)) is = absurd (true≢false (sym is))
counter_there (Some (a_procedure p)) is = absurd (true≢false (sym is))
counter_there (Some (a_process p)) is = absurd (true≢false (sym is))
counter_there (Some (a_signal s)) is = absurd (true≢false (sym is))
counter_there (Some (a_modulion kind items)) is = absurd (true≢false (sym is))
counter_there (Some (a_predefined p)) is = absurd (true≢false (sym is))

is_or_not : (b : Bool) → (b ≡ true) ⊎ (b ≡ false)
is_or_not true = inl refl
is_or_not false = inr refl

abbrev ground : List Resolved → List Resolved → List Origin → List Entry → Ground
ground us ds os es = record { uses = us; defined = ds; origins = os; entries = es }

same_ground : (us vs ds cs : List Resolved) (os ps : List Origin) (es : List Entry) → us ≡ vs → ds ≡ cs → os ≡ ps → ground us ds os es ≡ ground vs cs ps es
same_ground us vs ds cs os ps es u d o = ap (λ us. ground us ds os es) u ∙ ap (λ ds. ground vs ds os es) d ∙ ap (λ os. ground vs cs os es) o

module _ (text : List ℕ) (t : ProgramTree) (g : Ground) (has : HasNames text t) (is_g : IsGroundOf t g) where
  -- the table before a counter, and the whole one
  abbrev table : ℕ → Ground
  table d = counted g 0 d

  all : Ground
  all = counted g 0 (length g.origins)

  text_of_table : (d : ℕ) → SameText g (table d)
  text_of_table d = same_text g 0 d

  -- what stands before a number, or is no counter, is so already before it
  so_already : (d e : ℕ) → d < length g.origins → (e < d) ⊎ (is_counter (slice_get g.origins e) ≡ false) → slice_get (table d).entries e ≡ slice_get all.entries e
  unfolding all
  so_already d e less apart =
      let n = length g.origins - d in
      let whole : d + n ≡ length g.origins = omega (arith, less) in
      let same : counted g 0 (length g.origins) ≡ counted (table d) (0 + d) n = ap (counted g 0) (sym whole) ∙ split g 0 d n in
      let text = text_of_table d in
      let origins : slice_get (table d).origins e ≡ slice_get g.origins e = ap (λ os. slice_get os e) (sym text.origins) in
      let there : (e < 0 + d) ⊎ (is_counter (slice_get (table d).origins e) ≡ false) = elim apart [ inl low ↦ inl (omega (arith, low)) | inr none ↦ inr (ap is_counter origins ∙ none) ] in
      left (table d) (0 + d) n e there ∙ ap (λ (h : Ground). slice_get h.entries e) (sym same)

  text_of_all : SameText g all
  unfolding all
  text_of_all = same_text g 0 (length g.origins)

  long : length all.entries ≡ length g.origins
  unfolding all
  long = as_long g 0 (length g.origins) ∙ ap length is_g.entries ∙ length-map g.origins (entry_by g)

  between : (d : ℕ) → SameText (table d) all
  between d =
      let one = text_of_table d in
      let other = text_of_all in
      record { uses = sym one.uses ∙ other.uses; defined = sym one.defined ∙ other.defined; origins = sym one.origins ∙ other.origins }

  -- by a number that stands before another where it is a counter's
  entry_so : (d : ℕ) (k : Option ℕ) → d < length g.origins → ((e : ℕ) → k ≡ Some e → is_counter (slice_get g.origins e) ≡ true → e < d) → option_and_then (slice_get (table d).entries) k ≡ option_and_then (slice_get all.entries) k
  entry_so d None less low = refl
  entry_so d (Some e) less low = so_already d e less (elim (is_or_not (is_counter (slice_get g.origins e))) [ inl counts ↦ inl (low e refl counts) | inr none ↦ inr none ])

  -- the names around a loop are known before its counter is
  name_so : (d : ℕ) (c : ControlTree) (n : Name) → d < length g.origins → slice_get g.origins d ≡ Some (a_counter c) → Contains (names_bounding c) n → SameAt (table d) all n
  name_so d c n less at i =
      let text_d = text_of_table d in
      let uses : number_at (table d).uses n.at ≡ number_at g.uses n.at = ap (λ us. number_at us n.at) (sym text_d.uses) in
      record {
        number = number_same (table d) all n (between d);
        origin = origin_same (table d) all n (between d);
        entry = entry_so d (number_at (table d).uses n.at) less
            (λ e is counts. let k = counter_there (slice_get g.origins e) counts in counters_rise text t g has is_g.names d e c k.0 n at i (sym uses ∙ is) k.1)
            ∙ ap (option_and_then (slice_get all.entries)) (number_same (table d) all n (between d));
      }

  names_so : (d : ℕ) (c : ControlTree) (ns : List Name) → d < length g.origins → slice_get g.origins d ≡ Some (a_counter c) → ((n : Name) → Contains ns n → Contains (names_bounding c) n) → SameAtEach (table d) all ns
  names_so d c [] less at among = tt
  names_so d c (n ∷ ns) less at among = (name_so d c n less at (among n (here_in n ns n refl)), names_so d c ns less at (λ m i. among m (later_in n ns m i)))

  -- so are parameters
  defined_so : (d : ℕ) (n : Name) (ps : List Name) → d < length g.origins → ((p : Name) → Contains ps p → Contains (parameters_of (origin_of g n)) p) → SameDefined (table d) all ps
  defined_so d n [] less among = tt
  defined_so d n (p ∷ ps) less among =
      let text_d = text_of_table d in
      let rows : number_at (table d).defined p.at ≡ number_at g.defined p.at = ap (λ us. number_at us p.at) (sym text_d.defined) in
      let both = between d in (
        entry_so d (number_at (table d).defined p.at) less
            (λ e is counts. absurd (true≢false (sym counts ∙ params_are_apart text t g has (sym is_g.names) n p (among p (here_in p ps p refl)) e (sym rows ∙ is))))
            ∙ ap (option_and_then (slice_get all.entries)) (ap (λ us. number_at us p.at) both.defined),
        defined_so d n ps less (λ q i. among q (later_in p ps q i)),
      )

  parameters_so : (d : ℕ) (ns : List Name) → d < length g.origins → SameParameters (table d) all ns
  parameters_so d [] less = tt
  parameters_so d (n ∷ ns) less =
      let same : origin_of (table d) n ≡ origin_of g n = sym (origin_same g (table d) n (text_of_table d)) in (
        defined_so d n (parameters_of (origin_of (table d) n)) less (λ p i. subst (λ o. Contains (parameters_of o) p) same i),
        parameters_so d ns less,
      )

  mode_so : (d : ℕ) (c : ControlTree) → d < length g.origins → slice_get g.origins d ≡ Some (a_counter c) → counter_mode (table d) c ≡ counter_mode all c
  mode_so d c less at = counter_frame (table d) all c (names_so d c (names_bounding c) less at (λ n i. i)) (parameters_so d (names_bounding c) less)

  put_so : (d : ℕ) (c : ControlTree) → d < length g.origins → slice_get g.origins d ≡ Some (a_counter c) → slice_get all.entries d ≡ Some (of_mode_alone (counter_mode (table d) c))
  unfolding all
  put_so d c less at =
      let n = length g.origins - suc d in
      let whole : d + suc n ≡ length g.origins = omega (arith, less) in
      let none : 0 + d ≡ d = omega arith in
      let same : counted g 0 (length g.origins) ≡ counted (table d) d (suc n) = ap (counted g 0) (sym whole) ∙ split g 0 d (suc n) ∙ ap (λ j. counted (table d) j (suc n)) none in
      let text_d = text_of_table d in
      let origin : slice_get (table d).origins d ≡ Some (a_counter c) = ap (λ os. slice_get os d) (sym text_d.origins) ∙ at in
      let length_d : length (table d).entries ≡ length g.origins = as_long g 0 d ∙ ap length is_g.entries ∙ length-map g.origins (entry_by g) in
      let here : slice_get (counted_at (table d) d).entries d ≡ Some (of_mode_alone (counter_mode (table d) c)) =
      ap (λ o. slice_get (entries_counted (table d) d o) d) origin ∙ set_here (table d).entries d (of_mode_alone (counter_mode (table d) c)) (omega (arith, less, length_d)) in
      ap (λ (h : Ground). slice_get h.entries d) same ∙ sym (left (counted_at (table d) d) (suc d) n d (inl (omega arith))) ∙ here

  -- a counter has its mode by the whole table
  counter_so : (d : ℕ) (c : ControlTree) → d < length g.origins → slice_get g.origins d ≡ Some (a_counter c) → slice_get all.entries d ≡ Some (of_mode_alone (counter_mode all c))
  counter_so d c less at = put_so d c less at ∙ ap (λ m. Some (of_mode_alone m)) (mode_so d c less at)

  plain_so : (e : ℕ) → is_counter (slice_get g.origins e) ≡ false → slice_get g.entries e ≡ slice_get all.entries e
  unfolding all
  plain_so e apart = left g 0 (length g.origins) e (inr apart)

  entry_at : (d : ℕ) → d < length g.origins → slice_get all.entries d ≡ option_map (entry_with_counters all) (slice_get g.origins d)
  entry_at d less = elim (is_or_not (is_counter (slice_get g.origins d))) [
    | inl counts ↦ (let k = counter_there (slice_get g.origins d) counts in counter_so d k.0 less k.1 ∙ ap (option_map (entry_with_counters all)) (sym k.1))
    | inr none ↦ entries_kept text t g all has is_g text_of_all plain_so d none
  ]

  names_all : all ≡ ground_with t all.entries
  unfolding all
  names_all =
      let text = same_text g 0 (length g.origins) in
      let own = is_g.names in
      with_own (counted g 0 (length g.origins)) g text own
    where
      with_own : (h g : Ground) → SameText g h → g ≡ ground_with t g.entries → h ≡ ground_with t h.entries
      with_own h g text own = same_ground h.uses (ground_with t g.entries).uses h.defined (ground_with t g.entries).defined h.origins (ground_with t g.entries).origins h.entries
          (sym text.uses ∙ ap (λ (x : Ground). x.uses) own) (sym text.defined ∙ ap (λ (x : Ground). x.defined) own) (sym text.origins ∙ ap (λ (x : Ground). x.origins) own)

  counted_so : IsStatementGroundOf t all
  counted_so = record {
    names = names_all;
    entries =
        same_lists all.entries (map (entry_with_counters all) all.origins) (long ∙ ap length text_of_all.origins ∙ sym (length-map all.origins (entry_with_counters all)))
        (λ d less. let low = long in entry_at d (omega (arith, less, low)) ∙ ap (λ os. option_map (entry_with_counters all) (slice_get os d)) text_of_all.origins ∙ sym (slice_get-map (entry_with_counters all) all.origins d));
  }

  counted_is : IsStatementGroundOf t (counted g 0 (length g.origins))
  unfolding all
  counted_is = counted_so

pub counted_law : CountedLaw
counted_law text t g has is_g = counted_is text t g has is_g
