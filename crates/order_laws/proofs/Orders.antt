-- An order leads through definitions of which none needs itself: each is put behind those that it needs, and those on the way to it
-- aren't among them.
use Rattle.std.proofs.Common.{◌≡◌, ◌<◌, ◌≤◌, ℕ, zero, suc, ◌+◌, ◌==◌, Bool, true, false, List, [], ◌∷◌, length, ◌⊎◌, inl, inr, Option, Some, None, refl, sym, subst, arith, Contains}
use Rattle.std.specs.Prelude.{flat_map, if◌then◌else◌, slice_get, IfSome}
use Rattle.std.proofs.lemmas.Bool.{cases_lt, eqb-true, eq-eqb}
use Rattle.std.proofs.lemmas.Option.{slice_get_past}
use Rattle.std.proofs.lemmas.List.Elements.{Contains-append_left, Contains-append_right}
use Rattle.chill_tree.specs.declared.tree.name.Name.{Name}
use Rattle.names_model.specs.Definitions.{numbers_on}
use Rattle.names_laws.proofs.Members.{none_in, here_in, later_in, in_cases}
use Rattle.checks_model.specs.Ground.{Ground, Origin, a_synonym, a_mode, an_element, a_location, a_parameter, a_counter, a_received, a_procedure, a_process, a_signal, a_modulion, a_predefined, number_at}
use Rattle.table_laws.specs.Names.{names_needed}
use Rattle.table_laws.specs.OneTable.{AllDone, NeedsDone, NeedsEarlier}
use Rattle.order_laws.specs.Orders.{some_number, read_number, needed_by, needs, LeadsTo, at_once, through, OrderLaw}

-- ---- what is needed is done

number_done : (done : List ℕ) (k : Option ℕ) → ((x : ℕ) → Contains (some_number k) x → Contains done x) → IfSome k (Contains done)
number_done done None has = tt
number_done done (Some d) has = has d (here_in d [] d refl)

names_done : (g : Ground) (done : List ℕ) (ns : List Name) → ((x : ℕ) → Contains (flat_map (read_number g) ns) x → Contains done x) → AllDone g done ns
names_done g done [] has = tt
names_done g done (n ∷ ns) has = (
  λ read. number_done done (number_at g.uses n.at) (λ x c.
      has x (Contains-append_left (read_number g n) (flat_map (read_number g) ns) x (subst (λ b. Contains (if b then some_number (number_at g.uses n.at) else []) x) (sym read) c))),
  names_done g done ns (λ x c. has x (Contains-append_right (read_number g n) (flat_map (read_number g) ns) x c)),
)

needs_done : (g : Ground) (done : List ℕ) (o : Option Origin) → ((x : ℕ) → Contains (needed_by g o) x → Contains done x) → NeedsDone g done o
needs_done g done None has = tt
needs_done g done (Some (a_received n count part)) has = number_done done (number_at g.uses n.at) has
needs_done g done (Some (a_synonym s)) has = names_done g done (names_needed (a_synonym s)) has
needs_done g done (Some (a_mode novel m)) has = names_done g done (names_needed (a_mode novel m)) has
needs_done g done (Some (an_element ns part owner)) has = tt
needs_done g done (Some (a_location d)) has = names_done g done (names_needed (a_location d)) has
needs_done g done (Some (a_parameter m)) has = names_done g done (names_needed (a_parameter m)) has
needs_done g done (Some (a_counter c)) has = tt
needs_done g done (Some (a_procedure p)) has = names_done g done (names_needed (a_procedure p)) has
needs_done g done (Some (a_process p)) has = tt
needs_done g done (Some (a_signal s)) has = names_done g done (names_needed (a_signal s)) has
needs_done g done (Some (a_modulion kind items)) has = tt
needs_done g done (Some (a_predefined p)) has = tt

-- ---- what is done, the last first

-- each stands behind those that it needs
abbrev Ordered : Ground → List ℕ → Type 0
Ordered g [] = Unit {0}
Ordered g (d ∷ done) = NeedsDone g done (slice_get g.origins d) × Ordered g done

-- these are done too
record Added (g : Ground) (done ds : List ℕ) : Type 0 where
  all : List ℕ
  ordered : Ordered g all
  kept : (x : ℕ) → Contains done x → Contains all x
  has : (x : ℕ) → Contains ds x → Contains all x

-- whatever is done, these can be done too
abbrev CanBeAdded : Ground → List ℕ → Type 0
CanBeAdded g ds = (done : List ℕ) → Ordered g done → Added g done ds

each_added : (g : Ground) (ds : List ℕ) → ((e : ℕ) → Contains ds e → CanBeAdded g (e ∷ [])) → CanBeAdded g ds
each_added g [] add done ordered = record { all = done; ordered = ordered; kept = λ x c. c; has = λ x c. absurd (none_in x c) }
each_added g (e ∷ ds) add done ordered =
    let first = add e (here_in e ds e refl) done ordered in
    let rest = each_added g ds (λ x c. add x (later_in e ds x c)) first.all first.ordered in
    record {
      all = rest.all;
      ordered = rest.ordered;
      kept = λ x c. rest.kept x (first.kept x c);
      has = λ x c. elim (in_cases e ds x c) [
        | inl is ↦ rest.kept x (first.has x (here_in e [] x is))
        | inr there ↦ rest.has x there
      ];
    }

one_added : (g : Ground) (d : ℕ) → CanBeAdded g (needs g d) → CanBeAdded g (d ∷ [])
one_added g d add done ordered =
    let needed = add done ordered in
    record {
      all = d ∷ needed.all;
      ordered = (needs_done g needed.all (slice_get g.origins d) needed.has, needed.ordered);
      kept = λ x c. later_in d needed.all x (needed.kept x c);
      has = λ x c. elim (in_cases d [] x c) [
        | inl is ↦ here_in d needed.all x is
        | inr there ↦ absurd (none_in x there)
      ];
    }

-- where no definition stands nothing is needed
past_added : (g : Ground) (d : ℕ) → length g.origins ≤ d → CanBeAdded g (d ∷ [])
past_added g d past = one_added g d (subst (λ o. CanBeAdded g (needed_by g o)) (sym (slice_get_past g.origins d past)) (each_added g [] (λ e c. absurd (none_in e c))))

-- ---- what waits

abbrev without : ℕ → List ℕ → List ℕ
without e [] = []
without e (x ∷ xs) = if x == e then without e xs else x ∷ without e xs

no_longer : (e : ℕ) (xs : List ℕ) → length (without e xs) ≤ length xs
no_longer e [] = omega arith
no_longer e (x ∷ xs) = by (x == e) (no_longer e xs)
  where
    by : (b : Bool) → length (without e xs) ≤ length xs → length (if b then without e xs else x ∷ without e xs) ≤ suc (length xs)
    by true less = omega arith
    by false less = omega arith

apart : (b : Bool) → b ≡ false → b ≡ true → ⊥
apart true found same = cc
apart false found same = cc

shorter : (e : ℕ) (xs : List ℕ) → Contains xs e → length (without e xs) < length xs
shorter e [] c = absurd (none_in e c)
shorter e (x ∷ xs) c = by (x == e) refl (in_cases x xs e c) (shorter e xs)
  where
    by : (b : Bool) → (x == e) ≡ b → (x ≡ e) ⊎ Contains xs e → (Contains xs e → length (without e xs) < length xs) → length (if b then without e xs else x ∷ without e xs) < suc (length xs)
    by true found is rest = let less = no_longer e xs in omega (arith, less)
    by false found (inl same) rest = absurd (apart (x == e) found (eq-eqb x e same))
    by false found (inr there) rest = let less = rest there in omega (arith, less)

still_in : (e x : ℕ) (xs : List ℕ) → Contains xs x → (x ≡ e) ⊎ Contains (without e xs) x
still_in e x [] c = absurd (none_in x c)
still_in e x (y ∷ xs) c = by (y == e) refl (in_cases y xs x c) (still_in e x xs)
  where
    by : (b : Bool) → (y == e) ≡ b → (y ≡ x) ⊎ Contains xs x → (Contains xs x → (x ≡ e) ⊎ Contains (without e xs) x) → (x ≡ e) ⊎ Contains (if b then without e xs else y ∷ without e xs) x
    by true found (inl same) rest = inl (subst (λ z. z ≡ e) same (eqb-true y e found))
    by true found (inr there) rest = rest there
    by false found (inl same) rest = inr (here_in y (without e xs) x same)
    by false found (inr there) rest = elim (rest there) [
      | inl is ↦ inl is
      | inr still ↦ inr (later_in y (without e xs) x still)
    ]

-- ---- the way to a definition

leads_on : (g : Ground) (x d e : ℕ) → LeadsTo g x d → Contains (needs g d) e → LeadsTo g x e
leads_on g x d e (at_once c) last = through c (at_once last)
leads_on g x d e (through c leads) last = through c (leads_on g _ d e leads last)

-- every definition waits, or stands on the way to this one
abbrev IsCovered : Ground → List ℕ → ℕ → Type 0
IsCovered g waiting d = (x : ℕ) → x < length g.origins → Contains waiting x ⊎ ((x ≡ d) ⊎ LeadsTo g x d)

covered_on : (g : Ground) (waiting : List ℕ) (d e : ℕ) → IsCovered g waiting d → Contains (needs g d) e → IsCovered g (without e waiting) e
covered_on g waiting d e covered need x less = elim (covered x less) [
  | inl waits ↦ elim (still_in e x waiting waits) [
    | inl same ↦ inr (inl same)
    | inr still ↦ inl still
  ]
  | inr (inl same) ↦ inr (inr (subst (λ y. LeadsTo g y e) (sym same) (at_once need)))
  | inr (inr leads) ↦ inr (inr (leads_on g x d e leads need))
]

abbrev NoneLeadsBack : Ground → Type 0
NoneLeadsBack g = (d : ℕ) → ¬ LeadsTo g d d

-- what a definition needs waits, or there is none
needed_added : (g : Ground) → NoneLeadsBack g → (waiting : List ℕ) (d : ℕ) → IsCovered g waiting d → ((e : ℕ) → Contains waiting e → Contains (needs g d) e → CanBeAdded g (e ∷ [])) → (e : ℕ) → Contains (needs g d) e → CanBeAdded g (e ∷ [])
needed_added g none waiting d covered add e need = elim (cases_lt e (length g.origins)) [
  | inl less ↦ elim (covered e less) [
    | inl waits ↦ add e waits need
    | inr (inl same) ↦ absurd (none d (at_once (subst (λ x. Contains (needs g d) x) same need)))
    | inr (inr leads) ↦ absurd (none d (through need leads))
  ]
  | inr past ↦ past_added g e past
]

none_waiting : (e : ℕ) (waiting : List ℕ) → length waiting ≤ 0 → Contains waiting e → ⊥
none_waiting e [] few c = none_in e c
none_waiting e (x ∷ waiting) few c = omega (arith, few)

added : (g : Ground) → NoneLeadsBack g → (count : ℕ) (waiting : List ℕ) (d : ℕ) → length waiting ≤ count → IsCovered g waiting d → CanBeAdded g (d ∷ [])
added g none zero waiting d few covered = one_added g d (each_added g (needs g d) (needed_added g none waiting d covered (λ e waits need. absurd (none_waiting e waiting few waits))))
added g none (suc count) waiting d few covered =
    one_added g d (each_added g (needs g d) (needed_added g none waiting d covered (λ e waits need.
    added g none count (without e waiting) e (let less = shorter e waiting waits in omega (arith, less, few)) (covered_on g waiting d e covered need))))

-- ---- the order

in_numbers : (count from d : ℕ) → from ≤ d → d < from + count → Contains (numbers_on from count) d
in_numbers zero from d low high = absurd (omega (arith, low, high))
in_numbers (suc count) from d low high = elim (cases_lt from d) [
  | inl less ↦ later_in from (numbers_on (suc from) count) d (in_numbers count (suc from) d less (omega (arith, high)))
  | inr more ↦ here_in from (numbers_on (suc from) count) d (omega (arith, low, more))
]

all_added : (g : Ground) → NoneLeadsBack g → Added g [] (numbers_on 0 (length g.origins))
all_added g none =
    let all = numbers_on 0 (length g.origins) in
    each_added g all (λ e c. added g none (length all) all e (omega arith) (λ x less. inl (in_numbers (length g.origins) 0 x (omega arith) (omega (arith, less))))) [] tt

-- the same, the first first
abbrev before : List ℕ → List ℕ → List ℕ
before [] order = order
before (d ∷ done) order = before done (d ∷ order)

needs_earlier : (g : Ground) (done order : List ℕ) → Ordered g done → NeedsEarlier g done order → NeedsEarlier g [] (before done order)
needs_earlier g [] order ordered earlier = earlier
needs_earlier g (d ∷ done) order ordered earlier = needs_earlier g done (d ∷ order) ordered.1 (ordered.0, earlier)

in_before : (done order : List ℕ) (x : ℕ) → Contains done x ⊎ Contains order x → Contains (before done order) x
in_before [] order x (inl c) = absurd (none_in x c)
in_before [] order x (inr c) = c
in_before (d ∷ done) order x (inr c) = in_before done (d ∷ order) x (inr (later_in d order x c))
in_before (d ∷ done) order x (inl c) = elim (in_cases d done x c) [
  | inl same ↦ in_before done (d ∷ order) x (inr (here_in d order x same))
  | inr there ↦ in_before done (d ∷ order) x (inl there)
]

pub some_order : OrderLaw
some_order g none =
    let done = all_added g none in (
      before done.all [],
      record {
        earlier = needs_earlier g done.all [] done.ordered tt;
        all = λ d less. in_before done.all [] d (inl (done.has d (in_numbers (length g.origins) 0 d (omega arith) (omega (arith, less)))));
      },
    )
