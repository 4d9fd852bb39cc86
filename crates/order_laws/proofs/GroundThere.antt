-- A text that breaks no rule on names has a ground: its table is filled in an order of its definitions that has none twice.
use Rattle.std.proofs.Common.{◌≡◌, ℕ, Bool, true, false, List, [], ◌∷◌, ◌⊎◌, inl, inr, length, Option, Some, None, true≢false, refl, sym, ◌∙◌, subst, Contains}
use Rattle.std.specs.Prelude.{IfSome, replicate, slice_get, if◌then◌else◌}
use Rattle.std.proofs.lemmas.List.{length-replicate}
use Rattle.chill_tree.specs.declared.tree.name.Name.{Name}
use Rattle.names_model.specs.Entries.{is_among}
use Rattle.names_laws.proofs.Members.{none_in, here_in, later_in, in_cases, among_in, in_among}
use Rattle.checks_model.specs.Ground.{Ground, Origin, a_synonym, a_mode, an_element, a_location, a_parameter, a_counter, a_received, a_procedure, a_process, a_signal, a_modulion, a_predefined, number_at}
use Rattle.checks_model.specs.Origins.{origins_of}
use Rattle.checks_model.specs.Table.{no_entry, ground_with}
use Rattle.table_laws.specs.Names.{names_needed}
use Rattle.table_laws.specs.OneTable.{AllDone, NeedsDone, NeedsEarlier, IsOrder, EachOnce, filled}
use Rattle.table_laws.proofs.OneTable.{filling}
use Rattle.order_laws.specs.Texts.{GroundThereLaw}
use Rattle.order_laws.proofs.Selves.{text_order}

-- ---- what is done stays done

abbrev Within : List ℕ → List ℕ → Type 0
Within done more = (d : ℕ) → Contains done d → Contains more d

some_done : (k : Option ℕ) (done more : List ℕ) → Within done more → IfSome k (Contains done) → IfSome k (Contains more)
some_done None done more within has = tt
some_done (Some d) done more within has = within d has

all_done : (g : Ground) (ns : List Name) (done more : List ℕ) → Within done more → AllDone g done ns → AllDone g more ns
all_done g [] done more within all = tt
all_done g (n ∷ ns) done more within all = (λ read. some_done (number_at g.uses n.at) done more within (all.0 read), all_done g ns done more within all.1)

needs_done : (g : Ground) (o : Option Origin) (done more : List ℕ) → Within done more → NeedsDone g done o → NeedsDone g more o
needs_done g None done more within needs = tt
needs_done g (Some (a_received n count part)) done more within needs = some_done (number_at g.uses n.at) done more within needs
needs_done g (Some (a_synonym s)) done more within needs = all_done g (names_needed (a_synonym s)) done more within needs
needs_done g (Some (a_mode novel m)) done more within needs = all_done g (names_needed (a_mode novel m)) done more within needs
needs_done g (Some (an_element ns part owner)) done more within needs = tt
needs_done g (Some (a_location l)) done more within needs = all_done g (names_needed (a_location l)) done more within needs
needs_done g (Some (a_parameter m)) done more within needs = all_done g (names_needed (a_parameter m)) done more within needs
needs_done g (Some (a_counter c)) done more within needs = tt
needs_done g (Some (a_procedure p)) done more within needs = all_done g (names_needed (a_procedure p)) done more within needs
needs_done g (Some (a_process p)) done more within needs = tt
needs_done g (Some (a_signal s)) done more within needs = all_done g (names_needed (a_signal s)) done more within needs
needs_done g (Some (a_modulion kind items)) done more within needs = tt
needs_done g (Some (a_predefined p)) done more within needs = tt

-- ---- each once

-- the numbers of an order that aren't done, each where it comes first
abbrev once : List ℕ → List ℕ → List ℕ
once done [] = []
once done (d ∷ ds) = if is_among d done then once done ds else d ∷ once (d ∷ done) ds

one_more : (done more : List ℕ) (d : ℕ) → Within done more → Contains more d → Within (d ∷ done) more
one_more done more d within has e among = elim (in_cases d done e among) [
  | inl is ↦ subst (Contains more) is has
  | inr there ↦ within e there
]

one_on_both : (done more : List ℕ) (d : ℕ) → Within done more → Within (d ∷ done) (d ∷ more)
one_on_both done more d within e among = elim (in_cases d done e among) [
  | inl is ↦ here_in d more e is
  | inr there ↦ later_in d more e (within e there)
]

earlier_once : (g : Ground) (done more order : List ℕ) → Within done more → NeedsEarlier g done order → NeedsEarlier g more (once more order)
earlier_once g done more [] within earlier = tt
earlier_once g done more (d ∷ ds) within earlier = by (is_among d more) refl (λ has. earlier_once g (d ∷ done) more ds (one_more done more d within has) earlier.1) (earlier_once g (d ∷ done) (d ∷ more) ds (one_on_both done more d within) earlier.1)
  where
    by : (b : Bool) → is_among d more ≡ b → (Contains more d → NeedsEarlier g more (once more ds)) → NeedsEarlier g (d ∷ more) (once (d ∷ more) ds) → NeedsEarlier g more (if b then once more ds else d ∷ once (d ∷ more) ds)
    by true is kept new = kept (among_in d more is)
    by false is kept new = (needs_done g (slice_get g.origins d) done more within earlier.0, new)

each_once : (done order : List ℕ) → EachOnce done (once done order)
each_once done [] = tt
each_once done (d ∷ ds) = by (is_among d done) refl (each_once done ds) (each_once (d ∷ done) ds)
  where
    by : (b : Bool) → is_among d done ≡ b → EachOnce done (once done ds) → EachOnce (d ∷ done) (once (d ∷ done) ds) → EachOnce done (if b then once done ds else d ∷ once (d ∷ done) ds)
    by true is kept new = kept
    by false is kept new = (λ c. true≢false (sym (in_among d done c) ∙ is), new)

all_once : (done order : List ℕ) (e : ℕ) → Contains order e → Contains done e ⊎ Contains (once done order) e
all_once done [] e c = absurd (none_in e c)
all_once done (d ∷ ds) e c = by (is_among d done) refl (in_cases d ds e c) (all_once done ds e) (all_once (d ∷ done) ds e)
  where
    by_rest : Contains (d ∷ done) e ⊎ Contains (once (d ∷ done) ds) e → Contains done e ⊎ Contains (d ∷ once (d ∷ done) ds) e
    by_rest (inr there) = inr (later_in d (once (d ∷ done) ds) e there)
    by_rest (inl among) = elim (in_cases d done e among) [
      | inl is ↦ inr (here_in d (once (d ∷ done) ds) e is)
      | inr there ↦ inl there
    ]

    by : (b : Bool) → is_among d done ≡ b → (d ≡ e) ⊎ Contains ds e → (Contains ds e → Contains done e ⊎ Contains (once done ds) e) → (Contains ds e → Contains (d ∷ done) e ⊎ Contains (once (d ∷ done) ds) e)
        → Contains done e ⊎ Contains (if b then once done ds else d ∷ once (d ∷ done) ds) e
    by true is (inl same) kept new = inl (subst (Contains done) same (among_in d done is))
    by true is (inr there) kept new = kept there
    by false is (inl same) kept new = inr (here_in d (once (d ∷ done) ds) e same)
    by false is (inr there) kept new = by_rest (new there)

once_order : (g : Ground) (order : List ℕ) → IsOrder g order → IsOrder g (once [] order)
once_order g order is_order = record {
  earlier = earlier_once g [] [] order (λ d c. c) is_order.earlier;
  all = λ d less. elim (all_once [] order d (is_order.all d less)) [
    | inl none ↦ absurd (none_in d none)
    | inr there ↦ there
  ];
}

-- ---- the ground

pub ground_there : GroundThereLaw
ground_there text t has =
    let bare = ground_with t [] in
    let order = text_order text t bare has refl in
    let empty = replicate (length (origins_of t)) no_entry in
    let table = filled bare empty (once [] order.0) in
    (ground_with t table, record { names = refl; entries = filling bare empty (once [] order.0) (length-replicate (length (origins_of t)) no_entry) (once_order bare order.0 order.1) (each_once [] order.0) })
