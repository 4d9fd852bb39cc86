-- The table is filled: what is done has what the table of the text has.
use Rattle.std.proofs.Common.{◌≡◌, ◌<◌, ◌⊎◌, inl, inr, ℕ, zero, suc, ◌+◌, Bool, true, false, List, [], ◌∷◌, ◌++◌, Option, Some, None, map, length, set, length-set, length-append, refl, sym, ap, ◌∙◌, subst, arith, Contains}
use Rattle.std.specs.Prelude.{◌==◌, ◌≤◌, if◌then◌else◌, IfSome, IsSome, option_map, option_and_then, slice_get, slice_index_or, take, ◌-◌}
use Rattle.std.specs.List.{All}
use Rattle.std.proofs.lemmas.Option.{slice_get-map, slice_get_within, slice_get_past, same_Some}
use Rattle.std.proofs.lemmas.List.{length-map, map-set}
use Rattle.std.proofs.lemmas.List.Elements.{All-contains}
use Rattle.std.proofs.Math.Seq.{take-append_seam}
use Rattle.chill_base.specs.declared.pos.Pos.{Pos}
use Rattle.chill_tree.specs.declared.tree.name.Name.{Name}
use Rattle.chill_tree.specs.ModeTree as written
use Rattle.chill_tree.specs.LocalTree.{SynonymTree, synonym_tree}
use Rattle.chill_tree.specs.ItemTree.{ProgramTree}
use Rattle.names_model.specs.declared.definition.Definition.{Definition}
use Rattle.names_model.specs.declared.names.Names.{Names}
use Rattle.names_model.specs.declared.names.Resolved.{Resolved}
use Rattle.names_model.specs.Definitions.{predefined, with_predefined, text_definitions}
use Rattle.names_model.specs.Resolving.{names_of, level_of}
use Rattle.names_laws.specs.Rising.{Rise, use_places, definition_places}
use Rattle.names_laws.proofs.Members.{none_in, here_in, later_in, in_cases}
use Rattle.names_laws.proofs.RisingUses.{rising_uses}
use Rattle.names_laws.proofs.RisingDefinitions.{rising_definitions}
use Rattle.names_laws.proofs.RisingTokens.{rising_tokens}
use Rattle.checks_model.specs.Ground as model
use Rattle.checks_model.specs.Ground.{Ground, a_synonym, a_mode, an_element, a_location, a_parameter, a_counter, a_received, a_procedure, a_process, a_signal, a_modulion, a_predefined, of_mode, number_at}
use Rattle.checks_model.specs.Origins.{origins_of}
use Rattle.checks_model.specs.Table.{set_mode, under_name, entry_by, synonym_entry, numbered, ground_with, IsGroundOf}
use Rattle.checks_model.specs.Diagnoses.{HasNames}
use Rattle.modes.specs.ModeTree.{set_of}
use Rattle.elaborated_laws.specs.Table.{AreDefined, IsDefinedSo}
use Rattle.written_laws.proofs.WrittenSo.{all_defined}
use Rattle.table_laws.specs.OneTable.{IsEvaluated, SameText, NeedsDone, NeedsEarlier, IsOrder}
use Rattle.table_laws.proofs.EntryFrames.{entry_frame}
use Rattle.graph_order.specs.Needs.{NeedsBefore}
use Rattle.order_laws.proofs.GroundThere.{ground_there}
use Rattle.order_laws.proofs.Selves.{text_order}
use Rattle.definition_origins.specs.declared.origin.Origin.{Origin}
use Rattle.definition_origins.specs.declared.origin.Origin.TheVariants as origins
use Rattle.definition_origins.specs.Firsts.{first_of, FirstsAgree}
use Rattle.definition_origins.specs.OriginTrees.{origin_tree, origin_trees}
use Rattle.definition_origins.specs.Uses.{text_of}
use Rattle.definition_order.specs.Needs.{other_first, first_or, waited, needs_at, needs_from, needs_in, IsGroundWith}
use Rattle.constant_operators.specs.declared.evaluation.Entry.{Entry}
use Rattle.constant_operators.specs.declared.evaluation.Evaluation.{Evaluation}
use Rattle.constant_operators.specs.Grounds.{ground_of, entry_tree, IsUnknown}
use Rattle.constant_operators.specs.Plain.{IsPlain}
use Rattle.constant_operators.proofs.Grounds.{entries-there}
use Rattle.definition_table.specs.Entries.{IsSafe, IsEntryOf, IsSameBut, AreSafe}
use Rattle.definition_table.specs.Filling.{IsWell, IsFilling, first_other, FirstsEarlier, IsUnderway, IsNext, IsSet, IsGiven, IsTableOf}
use Rattle.definition_table.proofs.Uses.{used_below}
use Rattle.definition_table.proofs.Needed.{needed_known}
use Rattle.definition_table.proofs.EntryLemmas.{same_found}
use Rattle.definition_table.proofs.Grounds.{there, tree_there, keeps_ground, are_few}

-- ---- the first of each clause stands before the others

needs_index : (us : List Resolved) (ts : List model.Origin) (k d m : ℕ) (os : List Origin) (o : Origin) → m ≡ k + d → slice_get os d ≡ Some o → slice_index_or (needs_from us ts k os) d [] ≡ needs_at us ts m o
needs_index us ts k d m [] o at is = cc
needs_index us ts k zero m (p ∷ os) o at is =
    let same : k ≡ m = omega (arith, at) in
    ap (λ q. needs_at us ts k q) (same_Some p o is) ∙ ap (λ n. needs_at us ts n o) same
needs_index us ts k (suc d) m (p ∷ os) o at is = needs_index us ts (suc k) d m os o (omega (arith, at)) is

first_done : (us : List Resolved) (ts : List model.Origin) (done : List ℕ) (d : ℕ) (o : Origin) (f : Option ℕ) → other_first d (first_of o) ≡ f → All (Contains done) (first_or f (waited us ts (origin_tree o))) → IfSome f (Contains done)
first_done us ts done d o None is all = tt
first_done us ts done d o (Some f) is all = All-contains (Contains done) (f ∷ []) f all (here_in f [] f refl)

first_earlier : (us : List Resolved) (os : List Origin) (done : List ℕ) (d : ℕ) (k : Option Origin) → slice_get os d ≡ k → All (Contains done) (slice_index_or (needs_in us os) d []) → IfSome (option_and_then (λ o. other_first d (first_of o)) k) (Contains done)
first_earlier us os done d None at all = tt
first_earlier us os done d (Some o) at all =
    first_done us (origin_trees os) done d o (other_first d (first_of o)) refl
    (subst (λ (ns : List ℕ). All (Contains done) ns) (needs_index us (origin_trees os) 0 d d os o (omega arith) at) all)

pub firsts_earlier : (us : List Resolved) (os : List Origin) (done order : List ℕ) → NeedsBefore (needs_in us os) done order → FirstsEarlier os done order
firsts_earlier us os done [] before = tt
firsts_earlier us os done (d ∷ order) before = (first_earlier us os done d (slice_get os d) refl before.0, firsts_earlier us os (d ∷ done) order before.1)

-- ---- what is known of the next

tree_got : (os : List Origin) (d : ℕ) (o : Origin) → slice_get os d ≡ Some o → slice_get (origin_trees os) d ≡ Some (origin_tree o)
tree_got os d o at = slice_get-map origin_tree os d ∙ ap (option_map origin_tree) at

origins_same : (e : Evaluation) → (ground_of e).origins ≡ origin_trees e.origins
unfolding ground_of
origins_same e = refl

origin_there : (h : Ground) (done : List ℕ) (e : Evaluation) (d : ℕ) (o : Origin) → IsFilling h done e → slice_get e.origins d ≡ Some o → slice_get h.origins d ≡ Some (origin_tree o)
origin_there h done e d o filling at = ap (λ os. slice_get os d) (sym filling.text.origins ∙ origins_same e) ∙ tree_got e.origins d o at

set_moved : (g h : Ground) (ns : List Name) (owner : Option (Name × Bool)) → g.defined ≡ h.defined → set_mode g ns owner ≡ set_mode h ns owner
set_moved g h [] owner same = refl
set_moved g h (n ∷ ns) None same = ap (λ ds. option_and_then (λ first. Some (set_of first (length (n ∷ ns)))) (number_at ds n.at)) same
set_moved g h (n ∷ ns) (Some o) same = ap (λ ds. option_and_then (λ first. under_name (number_at ds o.0.at) o.1 (set_of first (length (n ∷ ns)))) (number_at ds n.at)) same

defined_moved : (g h : Ground) (o : model.Origin) → g.defined ≡ h.defined → IsDefinedSo h o → IsDefinedSo g o
defined_moved g h (a_synonym s) same is = is
defined_moved g h (a_mode novel w) same is = is
defined_moved g h (an_element ns part owner) same is = subst (λ m. IsSome m) (sym (set_moved g h ns owner same)) is
defined_moved g h (a_location d) same is = is
defined_moved g h (a_parameter w) same is = is
defined_moved g h (a_counter c) same is = is
defined_moved g h (a_received n count part) same is = is
defined_moved g h (a_procedure p) same is = is
defined_moved g h (a_process p) same is = is
defined_moved g h (a_signal s) same is = is
defined_moved g h (a_modulion kind items) same is = is
defined_moved g h (a_predefined (of_mode m)) same is = is
defined_moved g h (a_predefined model.no_instance) same is = is
defined_moved g h (a_predefined (model.truth b)) same is = is
defined_moved g h (a_predefined model.num) same is = is
defined_moved g h (a_predefined model.succ) same is = is
defined_moved g h (a_predefined model.pred) same is = is
defined_moved g h (a_predefined model.abs) same is = is
defined_moved g h (a_predefined model.card) same is = is
defined_moved g h (a_predefined model.min) same is = is
defined_moved g h (a_predefined model.max) same is = is
defined_moved g h (a_predefined model.upper) same is = is
defined_moved g h (a_predefined model.lower) same is = is
defined_moved g h (a_predefined model.size) same is = is
defined_moved g h (a_predefined model.put_int) same is = is
defined_moved g h (a_predefined model.put_text) same is = is
defined_moved g h (a_predefined model.put_nl) same is = is
defined_moved g h (a_predefined model.get_int) same is = is

pub defined_so : (h : Ground) (done : List ℕ) (e : Evaluation) (d : ℕ) (o : Origin) → IsFilling h done e → slice_get e.origins d ≡ Some o → IsDefinedSo (ground_of e) (origin_tree o)
defined_so h done e d o filling at = defined_moved (ground_of e) h (origin_tree o) filling.text.defined (filling.defined d (origin_tree o) (origin_there h done e d o filling at))

pub own_next : (h : Ground) (done : List ℕ) (e : Evaluation) (o : Origin) (x : Entry) → IsFilling h done e → NeedsDone h done (Some (origin_tree o)) → IsEntryOf (ground_of e) (origin_tree o) x → IsEntryOf h (origin_tree o) x
own_next h done e o x filling needs is = record {
  known = is.known ∙ entry_frame (ground_of e) h (origin_tree o) filling.text.defined (needed_known (ground_of e) h done (origin_tree o) filling.text filling.known needs);
  safe = is.safe;
}

-- another than the first
first_is : (d f : ℕ) (k : Option ℕ) → other_first d k ≡ Some f → k ≡ Some f
first_is d f None is = cc
first_is d f (Some k) is = by (k == d) is
  where
    by : (b : Bool) → (if b then None else Some k) ≡ Some f → Some k ≡ Some f
    by true is = cc
    by false is = is

synonym_parts : (g : Ground) (s : SynonymTree) (m : Option written.ModeTree) → (synonym_entry g s m).parts ≡ []
synonym_parts g s None = refl
synonym_parts g s (Some w) = refl

no_parts : (o : Origin) (f : ℕ) → first_of o ≡ Some f → (g : Ground) → (entry_by g (origin_tree o)).parts ≡ []
no_parts (origins.Synonym s k) f is g = synonym_parts g (synonym_tree s.now) (synonym_tree s.now).mode
no_parts (origins.SynMode d) f is g = cc
no_parts (origins.NewMode d) f is g = cc
no_parts (origins.Element e) f is g = cc
no_parts (origins.Location d k) f is g = refl
no_parts (origins.Parameter m p k) f is g = refl
no_parts (origins.Counter c) f is g = cc
no_parts (origins.Received a part) f is g = cc
no_parts (origins.Procedure p) f is g = cc
no_parts (origins.Process p) f is g = cc
no_parts (origins.Signal s) f is g = cc
no_parts (origins.Modulion m) f is g = cc
no_parts (origins.Predefined p) f is g = cc

evaluated_at : (h : Ground) (d : ℕ) → IsEvaluated h → slice_get h.entries d ≡ option_map (entry_by h) (slice_get h.origins d)
evaluated_at h d evaluated = ap (λ es. slice_get es d) evaluated ∙ slice_get-map (entry_by h) h.origins d

pub first_next : (h : Ground) (done : List ℕ) (e : Evaluation) (d f : ℕ) (o : Origin) (x : Entry) → IsEvaluated h → IsFilling h done e → FirstsAgree e.origins → slice_get e.origins d ≡ Some o
    → other_first d (first_of o) ≡ Some f → Contains done f → ((y : Entry) → slice_get e.entries.items f ≡ Some y → IsSameBut y x) → IsEntryOf h (origin_tree o) x
first_next h done e d f o x evaluated filling agree at other is_done copied =
    let first = first_is d f (first_of o) other in
    let found = agree d o f at first in
    let y = there e f (origin_tree o) filling.well (tree_got e.origins f o found) in
    let tree : entry_tree y.0 ≡ entry_by h (origin_tree o) =
    same_Some (entry_tree y.0) (entry_by h (origin_tree o))
    (sym (tree_there e f y.0 y.1.0) ∙ filling.known f is_done ∙ evaluated_at h f evaluated ∙ ap (option_map (entry_by h)) (origin_there h done e f o filling found)) in
    same_found h (origin_tree o) y.0 x (no_parts o f first) (record { known = tree; safe = y.1.1 }) (copied y.0 y.1.0)

-- ---- one more is set

got_set : {A : Type 0} (xs : List A) (d : ℕ) (x : A) → d < length xs → slice_get (set xs d x) d ≡ Some x
got_set [] d x less = absurd (omega (arith, less))
got_set (y ∷ xs) zero x less = refl
got_set (y ∷ xs) (suc d) x less = got_set xs d x (omega (arith, less))

set_elsewhere : {A : Type 0} (xs : List A) (d k : ℕ) (x : A) → ¬ (d ≡ k) → slice_get (set xs d x) k ≡ slice_get xs k
set_elsewhere [] d k x apart = refl
set_elsewhere (y ∷ xs) zero zero x apart = absurd (apart refl)
set_elsewhere (y ∷ xs) zero (suc k) x apart = refl
set_elsewhere (y ∷ xs) (suc d) zero x apart = refl
set_elsewhere (y ∷ xs) (suc d) (suc k) x apart = set_elsewhere xs d k x (λ same. apart (ap suc same))

same_or_apart : (d k : ℕ) → (d ≡ k) ⊎ (¬ (d ≡ k))
same_or_apart zero zero = inl refl
same_or_apart zero (suc k) = inr (λ same. absurd (omega (arith, same)))
same_or_apart (suc d) zero = inr (λ same. absurd (omega (arith, same)))
same_or_apart (suc d) (suc k) = elim (same_or_apart d k) [
  | inl same ↦ inl (ap suc same)
  | inr apart ↦ inr (λ same. apart (omega (arith, same)))
]

entries_set : (d : ℕ) (x : Entry) (old new : Evaluation) → IsSet d x old new → (ground_of new).entries ≡ set (ground_of old).entries d (entry_tree x)
unfolding ground_of
entries_set d x old new is = ap (map entry_tree) is.entries ∙ map-set entry_tree old.entries.items d x

entries_long : (e : Evaluation) → length (ground_of e).entries ≡ length e.entries.items
unfolding ground_of
entries_long e = length-map e.entries.items entry_tree

text_set : (h : Ground) (d : ℕ) (x : Entry) (old new : Evaluation) → IsSet d x old new → SameText (ground_of old) h → SameText (ground_of new) h
unfolding ground_of
text_set h d x old new is same = record {
  uses = ap (λ n. n.now.uses) is.names ∙ same.uses;
  defined = is.defined ∙ same.defined;
  origins = ap origin_trees is.origins ∙ same.origins;
}

origin_by_tree : (os : List Origin) (d : ℕ) (t : model.Origin) → slice_get (origin_trees os) d ≡ Some t → (o : Origin) × ((slice_get os d ≡ Some o) × (origin_tree o ≡ t))
origin_by_tree [] d t at = cc
origin_by_tree (o ∷ os) zero t at = (o, (refl, same_Some (origin_tree o) t at))
origin_by_tree (o ∷ os) (suc d) t at = origin_by_tree os d t at

safe_set : (h : Ground) (d : ℕ) (x : Entry) (old new : Evaluation) → IsSet d x old new → IsNext h old.origins d x → IsWell old → AreSafe (origin_trees new.origins) new.entries.items
safe_set h d x old new is next well k t y at_t at_y = elim (same_or_apart d k) [
  | inl same ↦ (
      let o = origin_by_tree old.origins k t (ap (λ os. slice_get (origin_trees os) k) (sym is.origins) ∙ at_t) in
      let here : IsEntryOf h (origin_tree o.0) x = next o.0 (ap (slice_get old.origins) same ∙ o.1.0) in
      let less = slice_get_within new.entries.items k y at_y in
      let long : length new.entries.items ≡ length old.entries.items = ap length is.entries ∙ length-set old.entries.items d x in
      let set_there : slice_get new.entries.items k ≡ Some x = ap (λ xs. slice_get xs k) is.entries ∙ ap (λ n. slice_get (set old.entries.items d x) n) (sym same) ∙ got_set old.entries.items d x (omega (arith, less, long, same)) in
      subst (λ z. IsSafe t z) (same_Some x y (sym set_there ∙ at_y)) (subst (λ q. IsSafe q x) o.1.1 here.safe))
  | inr apart ↦ well.safe k t y (ap (λ os. slice_get (origin_trees os) k) (sym is.origins) ∙ at_t) (sym (ap (λ xs. slice_get xs k) is.entries ∙ set_elsewhere old.entries.items d k x apart) ∙ at_y)
]

well_set : (h : Ground) (d : ℕ) (x : Entry) (old new : Evaluation) → IsSet d x old new → IsNext h old.origins d x → IsWell old → IsWell new
well_set h d x old new is next well = record {
  uses = subst (λ n. Rise (use_places n.now.uses)) (sym is.names) well.uses;
  defined = subst (λ ds. Rise (use_places ds)) (sym is.defined) well.defined;
  entries = ap length is.entries ∙ length-set old.entries.items d x ∙ well.entries ∙ ap length (sym is.origins);
  plain = subst IsPlain (sym is.plain) well.plain;
  safe = safe_set h d x old new is next well;
}

long_as : (h : Ground) → IsEvaluated h → length h.entries ≡ length h.origins
long_as h evaluated = ap length evaluated ∙ length-map h.origins (entry_by h)

known_here : (h : Ground) (done : List ℕ) (d : ℕ) (x : Entry) (old new : Evaluation) (k : Option Origin) → IsEvaluated h → IsFilling h done old → IsSet d x old new → IsNext h old.origins d x → slice_get old.origins d ≡ k → slice_get (ground_of new).entries d ≡ slice_get h.entries d
known_here h done d x old new None evaluated filling is next at =
    let past = by_length in
    slice_get_past (ground_of new).entries d (past.0) ∙ sym (slice_get_past h.entries d past.1)
  where
    none_within : {A : Type 0} (xs : List A) (n : ℕ) → slice_get xs n ≡ None → length xs ≤ n
    none_within [] n none = omega arith
    none_within (y ∷ xs) zero none = cc
    none_within (y ∷ xs) (suc n) none = let less = none_within xs n none in omega (arith, less)

    by_length : (length (ground_of new).entries ≤ d) × (length h.entries ≤ d)
    by_length =
        let outside = none_within old.origins d at in
        let one : length (ground_of new).entries ≡ length (ground_of old).entries = ap length (entries_set d x old new is) ∙ length-set (ground_of old).entries d (entry_tree x) in
        let two : length (ground_of old).entries ≡ length old.origins = entries_long old ∙ filling.well.entries in
        let three : length h.entries ≡ length old.origins = long_as h evaluated ∙ ap length (sym filling.text.origins ∙ origins_same old) ∙ length-map old.origins origin_tree in
        (omega (arith, outside, one, two), omega (arith, outside, three))
known_here h done d x old new (Some o) evaluated filling is next at =
    let less = slice_get_within old.origins d o at in
    let long : length (ground_of old).entries ≡ length old.origins = entries_long old ∙ filling.well.entries in
    ap (λ es. slice_get es d) (entries_set d x old new is) ∙ got_set (ground_of old).entries d (entry_tree x) (omega (arith, less, long))
    ∙ ap Some (next o at).known ∙ sym (evaluated_at h d evaluated ∙ ap (option_map (entry_by h)) (origin_there h done old d o filling at))

known_set : (h : Ground) (done : List ℕ) (d : ℕ) (x : Entry) (old new : Evaluation) → IsEvaluated h → IsFilling h done old → IsSet d x old new → IsNext h old.origins d x → (k : ℕ) → Contains (d ∷ done) k → slice_get (ground_of new).entries k ≡ slice_get h.entries k
known_set h done d x old new evaluated filling is next k c = elim (same_or_apart d k) [
  | inl same ↦ subst (λ n. slice_get (ground_of new).entries n ≡ slice_get h.entries n) same (known_here h done d x old new (slice_get old.origins d) evaluated filling is next refl)
  | inr apart ↦ elim (in_cases d done k c) [
    | inl here ↦ absurd (apart here)
    | inr there ↦ ap (λ es. slice_get es k) (entries_set d x old new is) ∙ set_elsewhere (ground_of old).entries d k (entry_tree x) apart ∙ filling.known k there
  ]
]

pub one_more : (h : Ground) (d : ℕ) (ds : List ℕ) (x : Entry) (old new : Evaluation) → IsEvaluated h → IsUnderway h (d ∷ ds) old → IsNext h old.origins d x → IsSet d x old new → IsUnderway h ds new
one_more h d ds x old new evaluated before next is = record {
  done = d ∷ before.done;
  filling = record {
    text = text_set h d x old new is before.filling.text;
    defined = before.filling.defined;
    well = well_set h d x old new is next before.filling.well;
    known = known_set h before.done d x old new evaluated before.filling is next;
  };
  earlier = before.earlier.1;
  firsts = subst (λ os. FirstsEarlier os (d ∷ before.done) ds) (sym is.origins) before.firsts.1;
  all = λ k less. elim (before.all k less) [
    | inl is_done ↦ inl (later_in d before.done k is_done)
    | inr rest ↦ elim (in_cases d ds k rest) [
      | inl here ↦ inl (here_in d before.done k here)
      | inr there ↦ inr there
    ]
  ];
}

pub is_next : (h : Ground) (os : List Origin) (d : ℕ) (o : Origin) (x : Entry) → slice_get os d ≡ Some o → IsEntryOf h (origin_tree o) x → IsNext h os d x
is_next h os d o x at is p there = subst (λ q. IsEntryOf h (origin_tree q) x) (same_Some o p (sym at ∙ there)) is

pub none_next : (h : Ground) (os : List Origin) (d : ℕ) (x : Entry) → slice_get os d ≡ None → IsNext h os d x
none_next h os d x none p there = by (sym none ∙ there)
  where
    by : None ≡ Some p → IsEntryOf h (origin_tree p) x
    by e = cc

-- what the next needs is done
pub next_needs : (h : Ground) (d : ℕ) (ds : List ℕ) (e : Evaluation) (o : Origin) (before : IsUnderway h (d ∷ ds) e) → slice_get e.origins d ≡ Some o → NeedsDone h before.done (Some (origin_tree o))
next_needs h d ds e o before at = subst (λ t. NeedsDone h before.done t) (origin_there h before.done e d o before.filling at) before.earlier.0

pub next_first : (h : Ground) (d : ℕ) (ds : List ℕ) (e : Evaluation) (o : Origin) (before : IsUnderway h (d ∷ ds) e) → slice_get e.origins d ≡ Some o → IfSome (other_first d (first_of o)) (Contains before.done)
next_first h d ds e o before at = subst (λ k. IfSome (option_and_then (λ o. other_first d (first_of o)) k) (Contains before.done)) at before.firsts.0

-- ---- the first, and the last

same_lists : {A : Type 0} (xs ys : List A) → length xs ≡ length ys → ((k : ℕ) → k < length xs → slice_get xs k ≡ slice_get ys k) → xs ≡ ys
same_lists [] [] long same = refl
same_lists [] (y ∷ ys) long same = absurd (omega (arith, long))
same_lists (x ∷ xs) [] long same = absurd (omega (arith, long))
same_lists (x ∷ xs) (y ∷ ys) long same =
    ap (λ z. z ∷ xs) (same_Some x y (same 0 (omega arith))) ∙ ap (λ zs. y ∷ zs) (same_lists xs ys (omega (arith, long)) (λ k less. same (suc k) (omega (arith, less))))

text_is : (xs : List Definition) → text_of (with_predefined xs) ≡ xs
text_is xs =
    let long = length-append xs predefined in
    let count : length (with_predefined xs) - length predefined ≡ length xs = omega (arith, long) in
    ap (λ n. take n (with_predefined xs)) count ∙ take-append_seam xs predefined

numbered_places : (from : ℕ) (ds : List Definition) → use_places (numbered from ds) ≡ definition_places ds
numbered_places from [] = refl
numbered_places from (d ∷ ds) = ap (λ ps. d.name.at ∷ ps) (numbered_places (suc from) ds)

-- what the evaluation of a text begins with
pub record Begins (text : List ℕ) (t : ProgramTree) (e : Evaluation) : Type 0 where
  pub names : HasNames text t
  pub uses : e.names.now.uses ≡ (names_of (level_of t)).uses
  pub defined : e.defined ≡ numbered 0 (text_definitions (level_of t))
  pub origins : origin_trees e.origins ≡ origins_of t
  pub plain : IsPlain e.plain
  pub firsts : FirstsAgree e.origins

pub begins : (text : List ℕ) (t : ProgramTree) (ns : Names) (e : Evaluation) → HasNames text t → ns ≡ names_of (level_of t) → IsUnknown t ns e → FirstsAgree e.origins → Begins text t e
begins text t ns e has same unknown agree = record {
  names = has;
  uses = ap (λ n. n.uses) (unknown.names ∙ same);
  defined = unknown.defined ∙ ap (λ n. numbered 0 (text_of n.definitions)) same ∙ ap (numbered 0) (text_is (text_definitions (level_of t)));
  origins = unknown.origins;
  plain = unknown.plain;
  firsts = agree;
}

abbrev ground_by : List Resolved → List Resolved → List model.Origin → List model.Entry → Ground
ground_by us ds os es = record { uses = us; defined = ds; origins = os; entries = es }

same_ground : (g h : Ground) → SameText g h → g.entries ≡ h.entries → g ≡ h
same_ground g h text entries =
    ap (λ us. ground_by us g.defined g.origins g.entries) text.uses
    ∙ ap (λ ds. ground_by h.uses ds g.origins g.entries) text.defined
    ∙ ap (λ os. ground_by h.uses h.defined os g.entries) text.origins
    ∙ ap (λ es. ground_by h.uses h.defined h.origins es) entries

ground_is : (text : List ℕ) (t : ProgramTree) (e : Evaluation) → Begins text t e → ground_of e ≡ ground_with t (ground_of e).entries
unfolding ground_of
ground_is text t e from =
    ap (λ us. ground_by us e.defined (origin_trees e.origins) (map entry_tree e.entries.items)) from.uses
    ∙ ap (λ ds. ground_by (names_of (level_of t)).uses ds (origin_trees e.origins) (map entry_tree e.entries.items)) from.defined
    ∙ ap (λ os. ground_by (names_of (level_of t)).uses (numbered 0 (text_definitions (level_of t))) os (map entry_tree e.entries.items)) from.origins

uses_rise : (text : List ℕ) (t : ProgramTree) → HasNames text t → Rise (use_places (names_of (level_of t)).uses)
uses_rise text t has = rising_uses has.has_tree.tokens t (rising_tokens text has.has_tree.tokens has.has_tree.are) has.has_tree.tree_of

definitions_rise : (text : List ℕ) (t : ProgramTree) → HasNames text t → Rise (use_places (numbered 0 (text_definitions (level_of t))))
definitions_rise text t has = subst Rise (sym (numbered_places 0 (text_definitions (level_of t)))) (rising_definitions has.has_tree.tokens t (rising_tokens text has.has_tree.tokens has.has_tree.are) has.has_tree.tree_of)

pub defined_rise : (text : List ℕ) (t : ProgramTree) (e : Evaluation) → Begins text t e → Rise (use_places e.defined)
defined_rise text t e from = subst (λ ds. Rise (use_places ds)) (sym from.defined) (definitions_rise text t from.names)

pub are_defined : (text : List ℕ) (t : ProgramTree) (e : Evaluation) → Begins text t e → AreDefined (ground_of e)
are_defined text t e from = all_defined text t (ground_of e) from.names (ground_is text t e from)

-- the ground of the order
ground_with_names : (text : List ℕ) (t : ProgramTree) (h : Ground) (e : Evaluation) → Begins text t e → h ≡ ground_with t h.entries → IsGroundWith h e.names.now.uses e.origins
ground_with_names text t h e from is = record {
  uses = ap (λ g. g.uses) is ∙ sym from.uses;
  origins = ap (λ g. g.origins) is ∙ sym from.origins;
  rise = subst (λ us. Rise (use_places us)) (sym from.uses) (uses_rise text t from.names);
  within = λ u c.
      let less = used_below text t from.names (uses_rise text t from.names) u (subst (λ us. Contains us u) from.uses c) in
      let long : length e.origins ≡ length (origins_of t) = sym (length-map e.origins origin_tree) ∙ ap length from.origins in
      omega (arith, less, long);
  firsts = from.firsts;
}

-- the order of names and origins
abbrev pub IsOrdered : List Resolved → List Origin → List ℕ → Type 0
IsOrdered us os order = (g : Ground) (o : List ℕ) → IsGroundWith g us os → IsOrder g o → IsOrder g order × NeedsBefore (needs_in us os) [] order

given_begins : (text : List ℕ) (t : ProgramTree) (xs : List Entry) (old new : Evaluation) → Begins text t old → IsGiven xs old new → Begins text t new
given_begins text t xs old new from is = record {
  names = from.names;
  uses = ap (λ n. n.now.uses) is.names ∙ from.uses;
  defined = is.defined ∙ from.defined;
  origins = ap origin_trees is.origins ∙ from.origins;
  plain = subst IsPlain (sym is.plain) from.plain;
  firsts = subst FirstsAgree (sym is.origins) from.firsts;
}

abbrev pub text_ground : (text : List ℕ) (t : ProgramTree) → HasNames text t → Ground
text_ground text t has = (ground_there text t has).0

pub ground_evaluated : (text : List ℕ) (t : ProgramTree) (has : HasNames text t) → IsEvaluated (text_ground text t has)
ground_evaluated text t has = (ground_there text t has).1.entries

pub underway : (text : List ℕ) (t : ProgramTree) (order : List ℕ) (xs : List Entry) (old new : Evaluation) (from : Begins text t old) → IsOrdered old.names.now.uses old.origins order
    → length xs ≡ length old.origins → AreSafe (origin_trees old.origins) xs → IsGiven xs old new → IsUnderway (text_ground text t from.names) order new
underway text t order xs old new from ordered long safe is =
    let h = text_ground text t from.names in
    let of_text : IsGroundOf t h = (ground_there text t from.names).1 in
    let begun = given_begins text t xs old new from is in
    let found = text_order text t h from.names of_text.names in
    let both = ordered h found.0 (ground_with_names text t h old from of_text.names) found.1 in
    let whole = ground_is text t new begun in
    record {
      done = [];
      filling = record {
        text = record { uses = ap (λ g. g.uses) whole ∙ sym (ap (λ g. g.uses) of_text.names); defined = ap (λ g. g.defined) whole ∙ sym (ap (λ g. g.defined) of_text.names); origins = ap (λ g. g.origins) whole ∙ sym (ap (λ g. g.origins) of_text.names) };
        defined = all_defined text t h from.names of_text.names;
        well = record {
          uses = subst (λ us. Rise (use_places us)) (sym begun.uses) (uses_rise text t from.names);
          defined = defined_rise text t new begun;
          entries = ap length is.entries ∙ long ∙ ap length (sym is.origins);
          plain = begun.plain;
          safe = subst (λ os. AreSafe (origin_trees os) new.entries.items) (sym is.origins) (subst (λ es. AreSafe (origin_trees old.origins) es) (sym is.entries) safe);
        };
        known = λ d c. absurd (none_in d c);
      };
      earlier = both.0.earlier;
      firsts = subst (λ os. FirstsEarlier os [] order) (sym is.origins) (firsts_earlier old.names.now.uses old.origins [] order both.1);
      all = λ d less. inr (both.0.all d less);
    }

pub is_table : (text : List ℕ) (t : ProgramTree) (e : Evaluation) (has : HasNames text t) → IsUnderway (text_ground text t has) [] e → IsTableOf t e
is_table text t e has end =
    let h = text_ground text t has in
    let of_text : IsGroundOf t h = (ground_there text t has).1 in
    let filling = end.filling in
    let long : length (ground_of e).entries ≡ length h.entries =
    entries_long e ∙ filling.well.entries ∙ sym (length-map e.origins origin_tree) ∙ ap length (sym (origins_same e) ∙ filling.text.origins) ∙ sym (long_as h of_text.entries) in
    let each : (k : ℕ) → k < length (ground_of e).entries → slice_get (ground_of e).entries k ≡ slice_get h.entries k =
    λ k less. filling.known k (elim (end.all k (let whole = long_as h of_text.entries in omega (arith, less, long, whole))) [
      | inl is_done ↦ is_done
      | inr rest ↦ absurd (none_in k rest)
    ]) in
    let entries : (ground_of e).entries ≡ h.entries = same_lists (ground_of e).entries h.entries long each in
    let whole : ground_of e ≡ h = same_ground (ground_of e) h filling.text entries in
    record {
      ground = subst (IsGroundOf t) (sym whole) of_text;
      keeps = keeps_ground e filling.well;
      few = are_few e filling.well;
    }

pub ordered_so : (us vs : List Resolved) (os : List Origin) (order : List ℕ) → us ≡ vs → IsOrdered vs os order → IsOrdered us os order
ordered_so us vs os order same ordered = subst (λ ws. IsOrdered ws os order) (sym same) ordered
