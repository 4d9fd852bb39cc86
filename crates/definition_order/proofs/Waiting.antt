-- What a definition waits for is what it needs, and what is predefined.
use Rattle.std.proofs.Common.{◌≡◌, ◌<◌, ◌⊎◌, inl, inr, ℕ, zero, suc, Bool, true, false, List, [], ◌∷◌, ◌++◌, Option, Some, None, length, refl, sym, ap, subst, ◌∙◌, arith}
use Rattle.std.specs.Prelude.{slice_get, option_and_then, if◌then◌else◌, IfSome, slice_index_or}
use Rattle.std.specs.List.{Contains}
use Rattle.std.proofs.lemmas.List.Elements.{Contains-append_left, Contains-append_right, Contains-append_cases}
use Rattle.chill_base.specs.declared.pos.Pos.{Pos}
use Rattle.chill_tree.specs.declared.tree.name.Name.{Name}
use Rattle.names_model.specs.declared.names.Resolved.{Resolved}
use Rattle.names_laws.proofs.Members.{none_in, here_in, later_in, in_cases}
use Rattle.checks_model.specs.Ground.{Ground, a_synonym, a_mode, an_element, a_location, a_parameter, a_counter, a_received, a_procedure, a_process, a_signal, a_modulion, a_predefined, Predefined, Origin, number_at, same_place, origin_of}
use Rattle.table_laws.specs.Names.{names_needed}
use Rattle.table_laws.specs.Frames.{is_read}
use Rattle.table_laws.specs.OneTable.{AllDone, NeedsDone}
use Rattle.definition_order.specs.Places.{places_of}
use Rattle.definition_order.specs.Needs.{is_asked_for, waits_for, waited_there, number_waited, numbers_waited, waited}

-- ---- the ground of names and origins

-- a ground has these uses and origins, and each use stands for a definition
pub record HasTrees (g : Ground) (us : List Resolved) (ts : List Origin) : Type 0 where
  pub uses : g.uses ≡ us
  pub origins : g.origins ≡ ts
  pub within : (u : Resolved) → Contains us u → u.to < length ts

same_number : (g : Ground) (us : List Resolved) (ts : List Origin) → HasTrees g us ts → (n : Name) → number_at g.uses n.at ≡ number_at us n.at
same_number g us ts h n = ap (λ (vs : List Resolved). number_at vs n.at) h.uses

pub origin_there : (g : Ground) (us : List Resolved) (ts : List Origin) → HasTrees g us ts → (d : ℕ) → slice_get g.origins d ≡ slice_get ts d
origin_there g us ts h d = ap (λ (vs : List Origin). slice_get vs d) h.origins

used_there : (g : Ground) (us : List Resolved) (ts : List Origin) → HasTrees g us ts → (n : Name) (e : ℕ) → number_at us n.at ≡ Some e → origin_of g n ≡ slice_get ts e
used_there g us ts h n e is = ap (λ (k : Option ℕ). option_and_then (slice_get g.origins) k) (same_number g us ts h n ∙ is) ∙ origin_there g us ts h e

-- ---- one number

-- what is asked for and not predefined is what constants and modes look up
read_unless : (u : Origin) → is_asked_for u ≡ true → ((p : Predefined) → u ≡ a_predefined p → ⊥) → is_read (Some u) ≡ true
read_unless (a_synonym s) e none = refl
read_unless (a_mode novel m) e none = refl
read_unless (an_element ns part owner) e none = refl
read_unless (a_location d) e none = refl
read_unless (a_parameter m) e none = refl
read_unless (a_counter c) e none = e
read_unless (a_received n count part) e none = e
read_unless (a_procedure p) e none = e
read_unless (a_process p) e none = e
read_unless (a_signal s) e none = e
read_unless (a_modulion kind items) e none = e
read_unless (a_predefined p) e none = absurd (none p refl)

-- and the other way round
asked_for : (u : Origin) → is_read (Some u) ≡ true → is_asked_for u ≡ true
asked_for (a_synonym s) e = refl
asked_for (a_mode novel m) e = refl
asked_for (an_element ns part owner) e = refl
asked_for (a_location d) e = refl
asked_for (a_parameter m) e = refl
asked_for (a_counter c) e = e
asked_for (a_received n count part) e = e
asked_for (a_procedure p) e = e
asked_for (a_process p) e = e
asked_for (a_signal s) e = e
asked_for (a_modulion kind items) e = e
asked_for (a_predefined p) e = refl

-- what is waited for is there
pub record IsWaited (ts : List Origin) (t : Origin) (k : Option ℕ) (e : ℕ) : Type 0 where
  pub number : k ≡ Some e
  pub used : Origin
  pub there : slice_get ts e ≡ Some used
  pub waits : waits_for t used ≡ true

if_there : (b : Bool) (d e : ℕ) → Contains (if b then d ∷ [] else []) e → (b ≡ true) × (d ≡ e)
if_there true d e c = (refl, elim (in_cases d [] e c) [ inl is ↦ is | inr there ↦ absurd (none_in e there) ])
if_there false d e c = absurd (none_in e c)

number_is_waited : (ts : List Origin) (t : Origin) (k : Option ℕ) (e : ℕ) → Contains (number_waited ts t k) e → IsWaited ts t k e
number_is_waited ts t None e c = absurd (none_in e c)
number_is_waited ts t (Some d) e c = by (slice_get ts d) refl c
  where
    by : (u : Option Origin) → slice_get ts d ≡ u → Contains (waited_there t d u) e → IsWaited ts t (Some d) e
    by None at c = absurd (none_in e c)
    by (Some used) at c =
        let h = if_there (waits_for t used) d e c in
        record { number = ap Some h.1; used = used; there = subst (λ (j : ℕ). slice_get ts j ≡ Some used) h.1 at; waits = h.0 }

waited_is_there : (ts : List Origin) (t : Origin) (k : Option ℕ) (e : ℕ) → IsWaited ts t k e → Contains (number_waited ts t k) e
waited_is_there ts t k e w = subst (λ (j : Option ℕ). Contains (number_waited ts t j) e) (sym w.number)
    (subst (λ (u : Option Origin). Contains (waited_there t e u) e) (sym w.there)
    (subst (λ (b : Bool). Contains (if b then e ∷ [] else []) e) (sym w.waits) (here_in e [] e refl)))

-- ---- the numbers of names

-- each number that is waited for is that of a name
name_waited : (us : List Resolved) (ts : List Origin) (t : Origin) (ns : List Name) (e : ℕ) → Contains (numbers_waited us ts t (places_of ns)) e → (n : Name) × (Contains ns n × IsWaited ts t (number_at us n.at) e)
name_waited us ts t [] e c = absurd (none_in e c)
name_waited us ts t (n ∷ ns) e c = elim (Contains-append_cases (number_waited ts t (number_at us n.at)) (numbers_waited us ts t (places_of ns)) e c) [
  | inl first ↦ (n, (here_in n ns n refl, number_is_waited ts t (number_at us n.at) e first))
  | inr rest ↦ (let h = name_waited us ts t ns e rest in (h.0, (later_in n ns h.0 h.1.0, h.1.1)))
]

waited_name : (us : List Resolved) (ts : List Origin) (t : Origin) (ns : List Name) (n : Name) (e : ℕ) → Contains ns n → IsWaited ts t (number_at us n.at) e → Contains (numbers_waited us ts t (places_of ns)) e
waited_name us ts t [] n e c w = absurd (none_in n c)
waited_name us ts t (m ∷ ns) n e c w = elim (in_cases m ns n c) [
  | inl is ↦ Contains-append_left (number_waited ts t (number_at us m.at)) (numbers_waited us ts t (places_of ns)) e
      (waited_is_there ts t (number_at us m.at) e (subst (λ (x : Name). IsWaited ts t (number_at us x.at) e) (sym is) w))
  | inr there ↦ Contains-append_right (number_waited ts t (number_at us m.at)) (numbers_waited us ts t (places_of ns)) e (waited_name us ts t ns n e there w)
]

-- ---- what is done

name_done : (g : Ground) (done : List ℕ) (ns : List Name) → AllDone g done ns → (n : Name) → Contains ns n → is_read (origin_of g n) ≡ true → IfSome (number_at g.uses n.at) (Contains done)
name_done g done [] all n c = absurd (none_in n c)
name_done g done (m ∷ ns) all n c = elim (in_cases m ns n c) [
  | inl is ↦ subst (λ (x : Name). is_read (origin_of g x) ≡ true → IfSome (number_at g.uses x.at) (Contains done)) is all.0
  | inr there ↦ name_done g done ns all.1 n there
]

each_done : (g : Ground) (done : List ℕ) (ns : List Name) → ((n : Name) → Contains ns n → is_read (origin_of g n) ≡ true → IfSome (number_at g.uses n.at) (Contains done)) → AllDone g done ns
each_done g done [] each = tt
each_done g done (n ∷ ns) each = (each n (here_in n ns n refl), each_done g done ns (λ m c. each m (later_in n ns m c)))

if_done : (done : List ℕ) (k : Option ℕ) (e : ℕ) → k ≡ Some e → IfSome k (Contains done) → Contains done e
if_done done k e is has = subst (λ (j : Option ℕ). IfSome j (Contains done)) is has

done_if : (done : List ℕ) (k : Option ℕ) → ((e : ℕ) → k ≡ Some e → Contains done e) → IfSome k (Contains done)
done_if done None each = tt
done_if done (Some d) each = each d refl

-- what stands there isn't predefined
abbrev pub IsOther : List Origin → ℕ → Type 0
IsOther ts e = (p : Predefined) → slice_get ts e ≡ Some (a_predefined p) → ⊥

others_done : (g : Ground) (us : List Resolved) (ts : List Origin) (done : List ℕ) → HasTrees g us ts → (t : Origin) (ns : List Name) → ((u : Origin) → waits_for t u ≡ is_asked_for u) → AllDone g done ns
    → (e : ℕ) → Contains (numbers_waited us ts t (places_of ns)) e → IsOther ts e → Contains done e
others_done g us ts done h t ns same all e c other =
    let found = name_waited us ts t ns e c in
    by found.0 found.1.0 found.1.1.number found.1.1.used found.1.1.there found.1.1.waits
  where
    by : (n : Name) → Contains ns n → number_at us n.at ≡ Some e → (u : Origin) → slice_get ts e ≡ Some u → waits_for t u ≡ true → Contains done e
    by n among number u there waits =
        let read : is_read (Some u) ≡ true = read_unless u (sym (same u) ∙ waits) (λ p is. other p (there ∙ ap Some is)) in
        if_done done (number_at g.uses n.at) e (same_number g us ts h n ∙ number) (name_done g done ns all n among (ap is_read (used_there g us ts h n e number ∙ there) ∙ read))

received_done : (g : Ground) (us : List Resolved) (ts : List Origin) (done : List ℕ) → HasTrees g us ts → (t : Origin) (n : Name) → IfSome (number_at g.uses n.at) (Contains done)
    → (e : ℕ) → Contains (numbers_waited us ts t (places_of (n ∷ []))) e → Contains done e
received_done g us ts done h t n has e c =
    let found = name_waited us ts t (n ∷ []) e c in
    by found.0 found.1.0 found.1.1.number
  where
    by : (m : Name) → Contains (n ∷ []) m → number_at us m.at ≡ Some e → Contains done e
    by m among number = elim (in_cases n [] m among) [
      | inl is ↦ if_done done (number_at g.uses n.at) e (same_number g us ts h n ∙ ap (λ (x : Name). number_at us x.at) is ∙ number) has
      | inr there ↦ absurd (none_in m there)
    ]

-- where what a definition needs is done, so is all that it waits for but what is predefined
pub waited_done : (g : Ground) (us : List Resolved) (ts : List Origin) (done : List ℕ) → HasTrees g us ts → (t : Origin) → NeedsDone g done (Some t) → (e : ℕ) → Contains (waited us ts t) e → IsOther ts e → Contains done e
unfolding waited
waited_done g us ts done h (a_received n count part) has e c other = received_done g us ts done h (a_received n count part) n has e c
waited_done g us ts done h (a_synonym s) has e c other = others_done g us ts done h (a_synonym s) (names_needed (a_synonym s)) (λ u. refl) has e c other
waited_done g us ts done h (a_mode novel m) has e c other = others_done g us ts done h (a_mode novel m) (names_needed (a_mode novel m)) (λ u. refl) has e c other
waited_done g us ts done h (an_element ns part owner) has e c other = absurd (none_in e c)
waited_done g us ts done h (a_location d) has e c other = others_done g us ts done h (a_location d) (names_needed (a_location d)) (λ u. refl) has e c other
waited_done g us ts done h (a_parameter m) has e c other = others_done g us ts done h (a_parameter m) (names_needed (a_parameter m)) (λ u. refl) has e c other
waited_done g us ts done h (a_counter k) has e c other = absurd (none_in e c)
waited_done g us ts done h (a_procedure p) has e c other = others_done g us ts done h (a_procedure p) (names_needed (a_procedure p)) (λ u. refl) has e c other
waited_done g us ts done h (a_process p) has e c other = absurd (none_in e c)
waited_done g us ts done h (a_signal s) has e c other = others_done g us ts done h (a_signal s) (names_needed (a_signal s)) (λ u. refl) has e c other
waited_done g us ts done h (a_modulion kind items) has e c other = absurd (none_in e c)
waited_done g us ts done h (a_predefined p) has e c other = absurd (none_in e c)

-- what is predefined waits for nothing
pub predefined_waits : (us : List Resolved) (ts : List Origin) (p : Predefined) (e : ℕ) → Contains (waited us ts (a_predefined p)) e → ⊥
unfolding waited
predefined_waits us ts p e c = none_in e c

-- what is waited for stands somewhere
pub waited_within : (us : List Resolved) (ts : List Origin) (t : Origin) (e : ℕ) → Contains (waited us ts t) e → (u : Origin) × (slice_get ts e ≡ Some u)
unfolding waited
waited_within us ts t e c = let w = (name_waited us ts t (names_needed t) e c).1.1 in (w.used, w.there)

-- ---- and the other way round

others_needed : (g : Ground) (us : List Resolved) (ts : List Origin) (done : List ℕ) → HasTrees g us ts → (t : Origin) (ns : List Name) → ((u : Origin) → waits_for t u ≡ is_asked_for u)
    → ((e : ℕ) → Contains (numbers_waited us ts t (places_of ns)) e → Contains done e) → AllDone g done ns
others_needed g us ts done h t ns same all = each_done g done ns (λ n c read. done_if done (number_at g.uses n.at) (λ e is.
    let number : number_at us n.at ≡ Some e = sym (same_number g us ts h n) ∙ is in
    by n c e number (slice_get ts e) refl (ap is_read (sym (used_there g us ts h n e number)) ∙ read)))
  where
    by : (n : Name) → Contains ns n → (e : ℕ) → number_at us n.at ≡ Some e → (u : Option Origin) → slice_get ts e ≡ u → is_read u ≡ true → Contains done e
    by n c e number None at read = absurd (let no : false ≡ true = read in cc)
    by n c e number (Some u) at read = all e (waited_name us ts t ns n e c (record { number = number; used = u; there = at; waits = same u ∙ asked_for u read }))

-- what a place is looked up to is in the list
number_among : (us : List Resolved) (at : Pos) (e : ℕ) → number_at us at ≡ Some e → (u : Resolved) × (Contains us u × (u.to ≡ e))
number_among [] at e is = cc
number_among (u ∷ us) at e is = by (same_place u.at at) is (number_among us at e)
  where
    by : (b : Bool) → (if b then Some u.to else number_at us at) ≡ Some e → (number_at us at ≡ Some e → (v : Resolved) × (Contains us v × (v.to ≡ e))) → (v : Resolved) × (Contains (u ∷ us) v × (v.to ≡ e))
    by true is rest = (u, (here_in u us u refl, cc))
    by false is rest = let h = rest is in (h.0, (later_in u us h.0 h.1.0, h.1.1))

pub there_below : {A : Type 0} (xs : List A) (e : ℕ) → e < length xs → (x : A) × (slice_get xs e ≡ Some x)
there_below [] e less = absurd (omega arith)
there_below (x ∷ xs) zero less = (x, refl)
there_below (x ∷ xs) (suc e) less = there_below xs e (omega (arith, less))

received_needed : (g : Ground) (us : List Resolved) (ts : List Origin) (done : List ℕ) → HasTrees g us ts → (n : Name) (count part : ℕ) → ((e : ℕ) → Contains (numbers_waited us ts (a_received n count part) (places_of (n ∷ []))) e → Contains done e) → IfSome (number_at g.uses n.at) (Contains done)
received_needed g us ts done h n count part all = done_if done (number_at g.uses n.at) (λ e is. by e (sym (same_number g us ts h n) ∙ is))
  where
    by : (e : ℕ) → number_at us n.at ≡ Some e → Contains done e
    by e number =
        let row = number_among us n.at e number in
        let found = there_below ts e (subst (λ (k : ℕ). k < length ts) row.1.1 (h.within row.0 row.1.0)) in
        all e (waited_name us ts (a_received n count part) (n ∷ []) n e (here_in n [] n refl) (record { number = number; used = found.0; there = found.1; waits = refl }))

pub waited_needed : (g : Ground) (us : List Resolved) (ts : List Origin) (done : List ℕ) → HasTrees g us ts → (t : Origin) → ((e : ℕ) → Contains (waited us ts t) e → Contains done e) → NeedsDone g done (Some t)
unfolding waited
waited_needed g us ts done h (a_received n count part) all = received_needed g us ts done h n count part all
waited_needed g us ts done h (a_synonym s) all = others_needed g us ts done h (a_synonym s) (names_needed (a_synonym s)) (λ u. refl) all
waited_needed g us ts done h (a_mode novel m) all = others_needed g us ts done h (a_mode novel m) (names_needed (a_mode novel m)) (λ u. refl) all
waited_needed g us ts done h (an_element ns part owner) all = tt
waited_needed g us ts done h (a_location d) all = others_needed g us ts done h (a_location d) (names_needed (a_location d)) (λ u. refl) all
waited_needed g us ts done h (a_parameter m) all = others_needed g us ts done h (a_parameter m) (names_needed (a_parameter m)) (λ u. refl) all
waited_needed g us ts done h (a_counter k) all = tt
waited_needed g us ts done h (a_procedure p) all = others_needed g us ts done h (a_procedure p) (names_needed (a_procedure p)) (λ u. refl) all
waited_needed g us ts done h (a_process p) all = tt
waited_needed g us ts done h (a_signal s) all = others_needed g us ts done h (a_signal s) (names_needed (a_signal s)) (λ u. refl) all
waited_needed g us ts done h (a_modulion kind items) all = tt
waited_needed g us ts done h (a_predefined p) all = tt
