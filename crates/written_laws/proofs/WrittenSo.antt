-- What defines something in a text is written as the grammar, the tokens and the number of definitions allow it.
use Rattle.std.proofs.Common.{◌≡◌, ◌<◌, ◌≤◌, ℕ, zero, suc, Bool, true, false, List, [], ◌∷◌, ◌++◌, Option, Some, None, inl, inr, length, length-append, refl, sym, ap, ◌∙◌, subst, arith, true≢false, eq-eqb}
use Rattle.std.specs.Prelude.{flat_map, slice_get, option_map, option_and_then, IsSome, nat_lt, if◌then◌else◌}
use Rattle.std.specs.declared.cmp.Ordering.{Ordering}
use Rattle.std.specs.declared.cmp.Ordering.TheVariants.{Less, Equal, Greater}
use Rattle.std.proofs.lemmas.Bool.{cases_lt}
use Rattle.chill_base.specs.declared.pos.Pos.{Pos}
use Rattle.diagnostics.specs.declared.diagnostic.Diagnostic.{Diagnostic}
use Rattle.diagnostics.specs.Listing.{IsIn, insert_once, placed, listed}
use Rattle.diagnostics.specs.Order.{diagnostic_cmp}
use Rattle.chill_tree.specs.declared.tree.name.Name.{Name}
use Rattle.chill_tree.specs.ModeTree as written
use Rattle.chill_tree.specs.ItemTree.{ProgramTree}
use Rattle.modes.specs.ModeTree.{set_of, int, boolean, char, instance}
use Rattle.names_model.specs.declared.definition.Definition.{Definition}
use Rattle.names_model.specs.declared.identifier.Identifier.{Identifier}
use Rattle.names_model.specs.Identifiers.{identifier}
use Rattle.names_model.specs.Definitions.{text_definitions, predefined, with_predefined}
use Rattle.names_model.specs.NameRules.{surplus_of, told_surplus, told_in}
use Rattle.names_model.specs.Dependence.{told_selves, groups_in}
use Rattle.names_model.specs.Resolving.{told_of_names, broken_names, level_of}
use Rattle.names_model.specs.Seeing.{outermost}
use Rattle.checks_model.specs.Diagnoses.{HasNames}
use Rattle.checks_model.specs.Ground.{Ground, Origin, Predefined, of_mode, truth, no_instance, num, succ, pred, abs, card, min, max, upper, lower, size, put_int, put_text, put_nl, get_int, a_synonym, a_mode, an_element, a_location, a_parameter, a_counter, a_received, a_procedure, a_process, a_signal, a_modulion, a_predefined, same_place, number_at}
use Rattle.checks_model.specs.Origins.{set_in_discrete, sets_in_base, sets_in_fields, sets_in, text_origins, in_both_cases, predefined_origins, origins_of}
use Rattle.checks_model.specs.Table.{under_name, named_set, set_mode, numbered}
use Rattle.elaborated_laws.specs.Modes.{IsWrittenDiscrete, IsWrittenBase, AreWritten, IsWritten}
use Rattle.elaborated_laws.specs.Entries.{IsSomeWritten, AllWritten, AreSomeWritten, IsWrittenSo}
use Rattle.elaborated_laws.specs.Table.{IsDefinedSo}
use Rattle.elaborated_laws.proofs.Told.{none_later, not_above, no_some, same_some}
use Rattle.ground_laws.specs.Defining.{Defines, AllDefine}
use Rattle.ground_laws.proofs.Defining.{origins_define}
use Rattle.written_laws.specs.Written.{Each, WrittenSoLaw, DefinedSoLaw}
use Rattle.written_laws.proofs.Shown.{each_append, each_any, each_flat}
use Rattle.written_laws.proofs.ShownMode.{IsFilledBase, AreFilled, IsFilled}
use Rattle.written_laws.proofs.ShownLocal.{IsSomeFilled, AreSomeFilled, IsShaped}
use Rattle.written_laws.proofs.ShownItem.{program_fine}
use Rattle.written_laws.proofs.Rows.{same_length}
use Rattle.written_laws.proofs.Sets.{IsFirstIn, HasElements, HasSets, each_more, sets_of, sets_of_some, sets_of_parts}
use Rattle.written_laws.proofs.Defining.{IsNamedAt, IsSomeNamed, has_element, IsOwned, program_defining}

-- ---- L3 is told of nothing

placed_some : (o : Ordering) (x y : Diagnostic) (ys later : List Diagnostic) → placed diagnostic_cmp o x y ys later ≡ [] → ⊥
placed_some Less x y ys later e = cc
placed_some Equal x y ys later e = cc
placed_some Greater x y ys later e = cc

inserted_some : (x : Diagnostic) (ys : List Diagnostic) → insert_once diagnostic_cmp x ys ≡ [] → ⊥
inserted_some x [] e = cc
inserted_some x (y ∷ ys) e = placed_some (diagnostic_cmp x y) x y ys (insert_once diagnostic_cmp x ys) e

pub none_listed : (xs : List Diagnostic) → listed diagnostic_cmp xs ≡ [] → xs ≡ []
none_listed [] e = refl
none_listed (x ∷ xs) e = absurd (inserted_some x (listed diagnostic_cmp xs) e)

got : {A : Type 0} (xs ys : List A) (k : ℕ) → k < length xs → (x : A) × (slice_get (xs ++ ys) k ≡ Some x)
got [] ys k less = absurd (let e : k < 0 = less in omega arith)
got (x ∷ xs) ys zero less = (x, refl)
got (x ∷ xs) ys (suc k) less = got xs ys k (omega arith)

surplus_some : (d : Option Definition) (x : Definition) → d ≡ Some x → surplus_of d ≡ [] → ⊥
surplus_some None x is e = no_some x is
surplus_some (Some d) x is e = cc

few_definitions : (ds : List Definition) → told_surplus ds ≡ [] → length ds ≤ 4096
few_definitions ds none = by (nat_lt 4096 (length ds)) refl none
  where
    by : (b : Bool) → nat_lt 4096 (length ds) ≡ b → (if b then surplus_of (slice_get (with_predefined ds) 4096) else []) ≡ [] → length ds ≤ 4096
    by false is e = not_above 4096 (length ds) is
    by true is e = elim (cases_lt 4096 (length ds)) [
      | inl less ↦ (let there = got ds predefined 4096 less in absurd (surplus_some (slice_get (with_predefined ds) 4096) there.0 there.1 e))
      | inr more ↦ more
    ]

names_few : (t : ProgramTree) → broken_names (level_of t) ≡ [] → length (text_definitions (level_of t)) ≤ 4096
names_few t none =
    let ps = level_of t in
    let ds = text_definitions ps in
    few_definitions ds (none_later (told_in ds (outermost ps) 0 ps ++ told_selves ds (groups_in ds (outermost ps) 0 ps)) (told_surplus ds) (none_listed (told_of_names ps) none))

-- ---- definitions and what defines them

-- of two lists the first define each other where the later are of one length
first_define : (os ps : List Origin) (ds es : List Definition) → length ps ≡ length es → AllDefine (os ++ ps) (ds ++ es) → AllDefine os ds
first_define [] ps [] es same all = tt
first_define (o ∷ os) ps (d ∷ ds) es same all = (all.0, first_define os ps ds es same all.1)
first_define [] ps (d ∷ ds) es same all =
    let whole = same_length ps (d ∷ ds ++ es) all in let both = length-append ds es in absurd (let e : length ps ≡ suc (length (ds ++ es)) = whole in omega (arith, same, e, both))
first_define (o ∷ os) ps [] es same all =
    let whole = same_length (o ∷ os ++ ps) es all in let both = length-append os ps in absurd (let e : suc (length (os ++ ps)) ≡ length es = whole in omega (arith, same, e, both))

text_define : (t : ProgramTree) → AllDefine (text_origins t) (text_definitions (level_of t))
text_define t = first_define (text_origins t) predefined_origins (text_definitions (level_of t)) predefined refl (origins_define t)

-- the definition that stands under the number of what defines it
definition_of : (os : List Origin) (ds : List Definition) (o : Origin) → AllDefine os ds → IsIn o os → (d : Definition) × (IsIn d ds × Defines o d)
definition_of [] ds o all is = absurd is
definition_of (x ∷ os) [] o all is = absurd all
definition_of (x ∷ os) (d ∷ ds) o all (inl same) = (d, (inl refl, subst (λ y. Defines y d) (sym same) all.0))
definition_of (x ∷ os) (d ∷ ds) o all (inr there) = let rest = definition_of os ds o all.1 there in (rest.0, (inr rest.1.0, rest.1.1))

named_there : (ds : List Definition) (d : Definition) (at : Pos) → IsIn d ds → d.name.at ≡ at → IsNamedAt ds at
named_there [] d at is same = absurd is
named_there (x ∷ ds) d at (inl is) same = inl (ap (λ (y : Definition). y.name.at) (sym is) ∙ same)
named_there (x ∷ ds) d at (inr is) same = inr (named_there ds d at is same)

place_of_first : (n : Name) (ns : List Name) (d : Definition) → option_map identifier (slice_get (n ∷ ns) 0) ≡ Some d.name → d.name.at ≡ n.at
place_of_first n ns d is = ap (λ (x : Identifier). x.at) (sym (same_some (identifier n) d.name is))

pub first_named : (t : ProgramTree) (n : Name) (ns : List Name) (owner : Option (Name × Bool)) → IsIn (an_element (n ∷ ns) 0 owner) (text_origins t) → IsNamedAt (text_definitions (level_of t)) n.at
first_named t n ns owner is =
    let d = definition_of (text_origins t) (text_definitions (level_of t)) (an_element (n ∷ ns) 0 owner) (text_define t) is in
    named_there (text_definitions (level_of t)) d.0 n.at d.1.0 (place_of_first n ns d.0 d.1.1.1)

-- ---- numbers of definitions

same_at : (p : Pos) → same_place p p ≡ true
same_at p = rw (eq-eqb p.line p.line refl, eq-eqb p.column p.column refl) refl

pub number_there : (ds : List Definition) (from : ℕ) (at : Pos) → IsNamedAt ds at → IsSome (number_at (numbered from ds) at)
number_there [] from at is = absurd is
number_there (d ∷ ds) from at is = by (same_place d.name.at at) refl is (number_there ds (suc from) at)
  where
    by : (b : Bool) → same_place d.name.at at ≡ b → IsNamedAt (d ∷ ds) at → (IsNamedAt ds at → IsSome (number_at (numbered (suc from) ds) at)) → IsSome (if b then Some from else number_at (numbered (suc from) ds) at)
    by true found here rest = refl
    by false found (inl same) rest = absurd (true≢false (sym (subst (λ p. same_place p at ≡ true) (sym same) (same_at at)) ∙ found))
    by false found (inr there) rest = rest there

-- ---- modes

abbrev AreFew : List (List Name) → Type 0
AreFew sets = Each (λ ns. length ns ≤ 4096) sets

first_few : (xs ys : List (List Name)) → AreFew (xs ++ ys) → AreFew xs
first_few [] ys few = tt
first_few (x ∷ xs) ys few = (few.0, first_few xs ys few.1)

later_few : (xs ys : List (List Name)) → AreFew (xs ++ ys) → AreFew ys
later_few [] ys few = few
later_few (x ∷ xs) ys few = later_few xs ys few.1

discrete_written : (d : written.DiscreteTree) → AreFew (set_in_discrete d) → IsWrittenDiscrete d
discrete_written (written.named n) few = tt
discrete_written (written.bounded n l h) few = tt
discrete_written (written.set_of at ns) few = few.0

mutual
  base_written : (b : written.BaseTree) → IsFilledBase b → AreFew (sets_in_base b) → IsWrittenBase b
  base_written (written.discrete d) filled few = discrete_written d few
  base_written (written.powerset at d) filled few = discrete_written d few
  base_written (written.chars at e) filled few = tt
  base_written (written.structure at fs p) filled few = (filled.0, fields_written fs filled.1 few)
  base_written (written.array at i b s) filled few = base_written b filled few

  fields_written : (fs : written.FieldNodes) → AreFilled fs → AreFew (sets_in_fields fs) → AreWritten fs
  fields_written written.no_fields filled few = tt
  fields_written (written.more_fields ns b p fs) filled few =
      (base_written b filled.0 (first_few (sets_in_base b) (sets_in_fields fs) few), fields_written fs filled.1 (later_few (sets_in_base b) (sets_in_fields fs) few))

mode_written : (w : written.ModeTree) → IsFilled w → AreFew (sets_in w) → IsWritten w
mode_written (written.base_mode b) filled few = base_written b filled few
mode_written (written.read_mode at b) filled few = base_written b filled few
mode_written (written.event_mode at l) filled few = tt
mode_written (written.buffer_mode at l b) filled few = base_written b filled few

some_written : (w : Option written.ModeTree) → IsSomeFilled w → AreFew (sets_of_some w) → IsSomeWritten w
some_written None filled few = tt
some_written (Some w) filled few = mode_written w filled few

each_written : (ws : List written.ModeTree) → Each IsFilled ws → AreFew (flat_map sets_in ws) → AllWritten ws
each_written [] filled few = tt
each_written (w ∷ ws) filled few = (mode_written w filled.0 (first_few (sets_in w) (flat_map sets_in ws) few), each_written ws filled.1 (later_few (sets_in w) (flat_map sets_in ws) few))

parts_written : (ws : Option (List written.ModeTree)) → AreSomeFilled ws → AreFew (sets_of_parts ws) → AreSomeWritten ws
parts_written None filled few = tt
parts_written (Some ws) filled few = each_written ws filled few

-- ---- what defines something

written_so : (o : Origin) → IsShaped o → AreFew (sets_of o) → IsWrittenSo o
written_so (a_synonym s) shaped few = (some_written s.mode shaped.0 few, shaped.1.0)
written_so (a_mode novel w) shaped few = tt
written_so (an_element ns part owner) shaped few = few.0
written_so (a_location d) shaped few = mode_written d.mode shaped few
written_so (a_parameter w) shaped few = mode_written w shaped few
written_so (a_counter c) shaped few = tt
written_so (a_received n count part) shaped few = tt
written_so (a_procedure p) shaped few = some_written p.returns shaped few
written_so (a_process p) shaped few = tt
written_so (a_signal s) shaped few = parts_written s.parts shaped few
written_so (a_modulion kind items) shaped few = tt
written_so (a_predefined p) shaped few = tt

-- each has a few elements, where there are few definitions
few_sets : (os : List Origin) (o : Origin) → length os ≤ 4096 → HasSets os o → AreFew (sets_of o)
few_sets os o few has = each_more (HasElements os) (λ ns. length ns ≤ 4096) (λ ns has. let fits = has.0 in omega (arith, few, fits)) (sets_of o) has

pub each_there : {A : Type 0} (P : A → Type 0) (xs : List A) (k : ℕ) (x : A) → Each P xs → slice_get xs k ≡ Some x → P x
each_there P [] k x each is = no_some x is
each_there P (y ∷ xs) zero x each is = subst P (same_some y x is) each.0
each_there P (y ∷ xs) (suc k) x each is = each_there P xs k x each.1 is

text_few : (text : List ℕ) (t : ProgramTree) → HasNames text t → length (text_origins t) ≤ 4096
text_few text t has =
    let few = names_few t has.names in let same = same_length (text_origins t) (text_definitions (level_of t)) (text_define t) in omega (arith, few, same)

-- of what stands in both lists what is so of each
pub each_pair : {A : Type 0} (P Q R : A → Type 0) → ((x : A) → P x → Q x → R x) → (xs : List A) → Each P xs → Each Q xs → Each R xs
each_pair P Q R step [] first later = tt
each_pair P Q R step (x ∷ xs) first later = (step x first.0 later.0, each_pair P Q R step xs first.1 later.1)

text_written : (text : List ℕ) (t : ProgramTree) → HasNames text t → Each IsWrittenSo (text_origins t)
text_written text t has =
    each_pair IsShaped (HasSets (text_origins t)) IsWrittenSo (λ o shaped sets. written_so o shaped (few_sets (text_origins t) o (text_few text t has) sets)) (text_origins t) (program_fine text t has.has_tree).1 (program_defining t).0

-- ---- predefined names

abbrev pub each_predefined : List Predefined
each_predefined =
    of_mode int ∷ of_mode boolean ∷ of_mode char ∷ of_mode instance
    ∷ truth true ∷ truth false ∷ no_instance
    ∷ num ∷ succ ∷ pred ∷ abs ∷ card ∷ min ∷ max ∷ upper ∷ lower ∷ size
    ∷ put_int ∷ put_text ∷ put_nl ∷ get_int ∷ []

predefined_written : Each IsWrittenSo predefined_origins
predefined_written = each_flat (λ p. Unit {0}) IsWrittenSo in_both_cases (λ p fits. (tt, (tt, tt))) each_predefined (each_any (λ p. Unit {0}) (λ p. tt) each_predefined)

one_scalar : 1 ≤ 4096
one_scalar = omega arith

predefined_defined : (g : Ground) → Each (IsDefinedSo g) predefined_origins
predefined_defined g = each_flat (λ p. IsDefinedSo g (a_predefined p)) (IsDefinedSo g) in_both_cases (λ p fits. (fits, (fits, tt))) each_predefined (
  record { parts = refl; size = one_scalar },
  (
    record { parts = refl; size = one_scalar },
    (
      record { parts = refl; size = one_scalar },
      (record { parts = refl; size = one_scalar }, (tt, (tt, (tt, (tt, (tt, (tt, (tt, (tt, (tt, (tt, (tt, (tt, (tt, (tt, (tt, (tt, (tt, tt)))))))))))))))))),
    ),
  ),
)

-- ---- elements

set_there : (g : Ground) (n : Name) (ns : List Name) (owner : Option (Name × Bool)) (k : Option ℕ) → IsSome k → ((o : Name × Bool) → owner ≡ Some o → IsSome (number_at g.defined o.0.at))
    → IsSome (option_and_then (λ first. named_set g owner (set_of first (length (n ∷ ns)))) k)
set_there g n ns owner None there named = absurd (true≢false (sym there))
set_there g n ns None (Some k) there named = refl
set_there g n ns (Some o) (Some k) there named = by_number (number_at g.defined o.0.at) (named o refl)
  where
    by_number : (d : Option ℕ) → IsSome d → IsSome (under_name d o.1 (set_of k (length (n ∷ ns))))
    by_number None there = absurd (true≢false (sym there))
    by_number (Some d) there = refl

owner_there : (ds : List Definition) (owner : Option (Name × Bool)) (o : Name × Bool) → IsSomeNamed ds owner → owner ≡ Some o → IsSome (number_at (numbered 0 ds) o.0.at)
owner_there ds None o named is = no_some o is
owner_there ds (Some p) o named is = subst (λ (q : Name × Bool). IsSome (number_at (numbered 0 ds) q.0.at)) (same_some p o is) (number_there ds 0 p.0.at named)

element_there : (t : ProgramTree) (g : Ground) (ns : List Name) (owner : Option (Name × Bool)) → g.defined ≡ numbered 0 (text_definitions (level_of t)) → IsFirstIn (text_origins t) ns → has_element ns ≡ true
    → IsSomeNamed (text_definitions (level_of t)) owner → IsSome (set_mode g ns owner)
element_there t g [] owner is first some named = absurd (true≢false (sym some))
element_there t g (n ∷ ns) owner is first some named =
    let ds = text_definitions (level_of t) in
    let there : IsSome (number_at g.defined n.at) = subst (λ rs. IsSome (number_at rs n.at)) (sym is) (number_there ds 0 n.at (first_named t n ns first.0 first.1)) in
    set_there g n ns owner (number_at g.defined n.at) there (λ o same. subst (λ rs. IsSome (number_at rs o.0.at)) (sym is) (owner_there ds owner o named same))

-- what is shown of each definition of a text
abbrev IsShown : ProgramTree → Origin → Type 0
IsShown t o = IsShaped o × (HasSets (text_origins t) o × IsOwned (text_definitions (level_of t)) o)

defined_so : (t : ProgramTree) (g : Ground) (o : Origin) → length (text_origins t) ≤ 4096 → g.defined ≡ numbered 0 (text_definitions (level_of t)) → IsShown t o → IsDefinedSo g o
defined_so t g (a_synonym s) few is shown = tt
defined_so t g (a_mode novel w) few is shown = mode_written w shown.0 (few_sets (text_origins t) (a_mode novel w) few shown.1.0)
defined_so t g (an_element ns part owner) few is shown = element_there t g ns owner is shown.1.0.0.1 shown.1.1.0 shown.1.1.1
defined_so t g (a_location d) few is shown = tt
defined_so t g (a_parameter w) few is shown = tt
defined_so t g (a_counter c) few is shown = tt
defined_so t g (a_received n count part) few is shown = tt
defined_so t g (a_procedure p) few is shown = tt
defined_so t g (a_process p) few is shown = tt
defined_so t g (a_signal s) few is shown = tt
defined_so t g (a_modulion kind items) few is shown = tt
defined_so t g (a_predefined p) few is shown = absurd shown.1.1

text_defined : (text : List ℕ) (t : ProgramTree) (g : Ground) → HasNames text t → g.defined ≡ numbered 0 (text_definitions (level_of t)) → Each (IsDefinedSo g) (text_origins t)
text_defined text t g has is =
    let os = text_origins t in
    let ds = text_definitions (level_of t) in
    let sets = program_defining t in
    let shown : Each (λ o. IsShaped o × (HasSets os o × IsOwned ds o)) os = each_pair IsShaped (λ o. HasSets os o × IsOwned ds o) (λ o. IsShaped o × (HasSets os o × IsOwned ds o)) (λ o shaped rest. (shaped, rest)) os (program_fine text t has.has_tree).1
    (each_pair (HasSets os) (IsOwned ds) (λ o. HasSets os o × IsOwned ds o) (λ o first later. (first, later)) os sets.0 sets.1) in
    each_more (λ o. IsShaped o × (HasSets os o × IsOwned ds o)) (IsDefinedSo g) (λ o all. defined_so t g o (text_few text t has) is all) os shown

pub all_written : WrittenSoLaw
all_written text t g has is d o at =
    each_there IsWrittenSo (origins_of t) d o (each_append IsWrittenSo (text_origins t) predefined_origins (text_written text t has) predefined_written) (subst (λ (h : Ground). slice_get h.origins d ≡ Some o) is at)

pub all_defined : DefinedSoLaw
all_defined text t g has is d o at =
    each_there (IsDefinedSo g) (origins_of t) d o (each_append (IsDefinedSo g) (text_origins t) predefined_origins (text_defined text t g has (ap (λ (h : Ground). h.defined) is)) (predefined_defined g)) (subst (λ (h : Ground). slice_get h.origins d ≡ Some o) is at)
