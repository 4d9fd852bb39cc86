-- What UPPER, LOWER and SIZE measure has places for its scalars, where an evaluation keeps its ground.
use Rattle.std.proofs.Common.{◌≡◌, ℕ, Bool, true, false, List, [], ◌∷◌, Option, Some, None, refl, ap, sym, ◌∙◌, subst}
use Rattle.std.specs.Prelude.{◌&&◌, not, IsTrue, slice_get, option_map, option_and_then, if◌then◌else◌}
use Rattle.std.specs.Str.{bytes_eq}
use Rattle.std.proofs.lemmas.Option.{same_Some}
use Rattle.chill_tree.specs.declared.tree.name.Name.{Name}
use Rattle.chill_tree.specs.ModeTree as written
use Rattle.chill_tree.specs.ExprTree.{ExprTree, whole, character, text, this_instance, paren, receive, start, tuple, uniform, name, apply, field, prefixed, binary}
use Rattle.modes.specs.ModeTree.{ModeTree, int, boolean, char, instance, set_of, range, powerset, chars, array, structure, event, buffer, read, named, FieldNodes, no_fields, more_fields}
use Rattle.modes.specs.Form.{FormTree, form_of}
use Rattle.modes.specs.Bounds.{values_of}
use Rattle.modes.proofs.SimilarLemmas.{both}
use Rattle.layout_map.specs.Numbered.{are_mixed, is_misplaced}
use Rattle.class_operators.specs.Predefined.{predefined_tree}
use Rattle.class_operators.specs.declared.predefined.Predefined.{Predefined}
use Rattle.class_operators.specs.declared.predefined.Predefined.TheVariants as names
use Rattle.definition_origins.specs.declared.origin.Origin as rust
use Rattle.definition_origins.specs.declared.origin.Origin.TheVariants as origins
use Rattle.definition_origins.specs.OriginTrees.{origin_tree}
use Rattle.checks_model.specs.Ground as model
use Rattle.checks_model.specs.Ground.{Entry, Origin, a_synonym, a_mode, an_element, a_location, a_parameter, a_counter, a_received, a_procedure, a_process, a_signal, a_modulion, a_predefined, of_mode, number_at, entry_of, origin_of, mode_of_entry, mode_of_name, named_mode}
use Rattle.checks_model.specs.Operations.{field_in, field_of_form, element_of_form}
use Rattle.checks_model.specs.Classes.{Measured, a_mode_of, misfit, other, measured_part, located_name, located, measured_name, measured}
use Rattle.constant_operators.specs.Laid.{step_is_laid, are_apart, is_laid, fields_are_laid}
use Rattle.constant_operators.specs.Measures.{or_misfit, or_other}
use Rattle.constant_operators.specs.Grounds.{ground_of, mode_of_predefined, is_measured_origin, HasLaidMode, HasGround}
use Rattle.constant_operators.specs.declared.evaluation.Evaluation.{Evaluation}
use Rattle.constant_operators.proofs.Grounds.{origins-there}
use Rattle.constant_operators.proofs.Measures.{part-found, name-predefined}

-- ---- parts of a mode

laid_same : (m n : ModeTree) → IsTrue (is_laid m) → Some m ≡ Some n → IsTrue (is_laid n)
laid_same m n h e = ap is_laid (sym (same_Some m n e)) ∙ h

element_laid : (m e : ModeTree) → IsTrue (is_laid m) → element_of_form (form_of m) ≡ Some e → IsTrue (is_laid e)
element_laid (chars n) e h is = laid_same char e refl is
element_laid (array i f how) e h is = laid_same f e (both (step_is_laid (values_of i) f how) (is_laid f) h).1 is
element_laid (range p l u) e h is = element_laid p e h is
element_laid (read m) e h is = element_laid m e h is
element_laid (named d n m) e h is = element_laid m e h is
element_laid int e h is = absurd (cc)
element_laid boolean e h is = absurd (cc)
element_laid char e h is = absurd (cc)
element_laid instance e h is = absurd (cc)
element_laid (set_of d n) e h is = absurd (cc)
element_laid (powerset m) e h is = absurd (cc)
element_laid (structure fs p) e h is = absurd (cc)
element_laid (event l) e h is = absurd (cc)
element_laid (buffer l f) e h is = absurd (cc)

either_laid : (b : Bool) (m e : ModeTree) (o : Option ModeTree) → IsTrue (is_laid m) → (o ≡ Some e → IsTrue (is_laid e)) → (if b then Some m else o) ≡ Some e → IsTrue (is_laid e)
either_laid true m e o h more is = laid_same m e h is
either_laid false m e o h more is = more is

named_laid : (n : List ℕ) (fs : FieldNodes) (mixed : Bool) (e : ModeTree) → IsTrue (fields_are_laid fs mixed) → field_in n fs ≡ Some e → IsTrue (is_laid e)
named_laid n no_fields mixed e h is = absurd (cc)
named_laid n (more_fields own m at fs) mixed e h is =
    let s = both (not (is_misplaced m at mixed)) (is_laid m && fields_are_laid fs mixed) h in
    let t = both (is_laid m) (fields_are_laid fs mixed) s.1 in
    either_laid (bytes_eq own n) m e (field_in n fs) t.0 (named_laid n fs mixed e t.1) is

field_laid : (n : List ℕ) (m e : ModeTree) → IsTrue (is_laid m) → field_of_form n (form_of m) ≡ Some e → IsTrue (is_laid e)
field_laid n (structure fs p) e h is = named_laid n fs (are_mixed fs) e (both (are_apart fs) (fields_are_laid fs (are_mixed fs)) h).1 is
field_laid n (range p l u) e h is = field_laid n p e h is
field_laid n (read m) e h is = field_laid n m e h is
field_laid n (named d k m) e h is = field_laid n m e h is
field_laid n int e h is = absurd (cc)
field_laid n boolean e h is = absurd (cc)
field_laid n char e h is = absurd (cc)
field_laid n instance e h is = absurd (cc)
field_laid n (set_of d k) e h is = absurd (cc)
field_laid n (powerset m) e h is = absurd (cc)
field_laid n (chars k) e h is = absurd (cc)
field_laid n (array i f how) e h is = absurd (cc)
field_laid n (event l) e h is = absurd (cc)
field_laid n (buffer l f) e h is = absurd (cc)

-- ---- what is measured

-- a measured mode has places
abbrev pub IsLaidMeasure : Measured → Type 0
IsLaidMeasure (a_mode_of (Some m)) = IsTrue (is_laid m)
IsLaidMeasure _ = Unit {0}

some_laid : (o : Option ModeTree) → ((m : ModeTree) → o ≡ Some m → IsTrue (is_laid m)) → IsLaidMeasure (a_mode_of o)
some_laid None h = tt
some_laid (Some m) h = h m refl

misfit_laid : (o : Option ModeTree) → ((m : ModeTree) → o ≡ Some m → IsTrue (is_laid m)) → IsLaidMeasure (or_misfit o)
misfit_laid None h = tt
misfit_laid (Some m) h = h m refl

part_laid : (part : FormTree → Option ModeTree) (x : Measured) → ((m e : ModeTree) → IsTrue (is_laid m) → part (form_of m) ≡ Some e → IsTrue (is_laid e)) → IsLaidMeasure x → IsLaidMeasure (measured_part part x)
part_laid part (a_mode_of None) closed h = tt
part_laid part (a_mode_of (Some m)) closed h = subst IsLaidMeasure (sym (part-found part m)) (misfit_laid (part (form_of m)) (λ e is. closed m e h is))
part_laid part misfit closed h = tt
part_laid part other closed h = tt

entry_laid : (x : Option Entry) → HasLaidMode x → (m : ModeTree) → mode_of_entry x ≡ Some m → IsTrue (is_laid m)
entry_laid None h m is = absurd (cc)
entry_laid (Some e) h m is = h m is

used_laid : (os : List Origin) (es : List Entry) (o : Option ℕ) → ((d : ℕ) → is_measured_origin (slice_get os d) ≡ true → HasLaidMode (slice_get es d)) → is_measured_origin (option_and_then (slice_get os) o) ≡ true → HasLaidMode (option_and_then (slice_get es) o)
used_laid os es None h is = tt
used_laid os es (Some d) h is = h d is

location_laid : (e : Option Entry) (o : Option Origin) → (is_measured_origin o ≡ true → HasLaidMode e) → IsLaidMeasure (located_name e o)
location_laid e None h = tt
location_laid e (Some (a_location d)) h = some_laid (mode_of_entry e) (entry_laid e (h refl))
location_laid e (Some (a_parameter m)) h = some_laid (mode_of_entry e) (entry_laid e (h refl))
location_laid e (Some (a_synonym s)) h = tt
location_laid e (Some (a_mode novel m)) h = tt
location_laid e (Some (an_element ns part owner)) h = tt
location_laid e (Some (a_counter c)) h = tt
location_laid e (Some (a_received n count part)) h = tt
location_laid e (Some (a_procedure p)) h = tt
location_laid e (Some (a_process p)) h = tt
location_laid e (Some (a_signal s)) h = tt
location_laid e (Some (a_modulion kind items)) h = tt
location_laid e (Some (a_predefined p)) h = tt

name_laid : (e : Evaluation) (n : Name) → HasGround e → is_measured_origin (origin_of (ground_of e) n) ≡ true → HasLaidMode (entry_of (ground_of e) n)
name_laid e n h = used_laid (ground_of e).origins (ground_of e).entries (number_at (ground_of e).uses n.at) h.modes

pub located_laid : (e : Evaluation) (x : ExprTree) → HasGround e → IsLaidMeasure (located (ground_of e) x)
located_laid e (name n) h = location_laid (entry_of (ground_of e) n) (origin_of (ground_of e) n) (name_laid e n h)
located_laid e (apply at x xs) h = part_laid element_of_form (located (ground_of e) x) element_laid (located_laid e x h)
located_laid e (field at x n) h = part_laid (field_of_form n.text) (located (ground_of e) x) (field_laid n.text) (located_laid e x h)
located_laid e (whole at n) h = tt
located_laid e (character at n) h = tt
located_laid e (text at bs) h = tt
located_laid e (this_instance at) h = tt
located_laid e (paren at x) h = tt
located_laid e (receive at n) h = tt
located_laid e (start at n xs) h = tt
located_laid e (tuple at m b rs) h = tt
located_laid e (uniform at m b x) h = tt
located_laid e (prefixed at o x) h = tt
located_laid e (binary at l o p r) h = tt

-- ---- the modes of names

-- the mode that a predefined name stands for, or INT
abbrev mode_or_int : model.Predefined → ModeTree
mode_or_int (of_mode m) = m
mode_or_int _ = int

predefined_laid : (p : Predefined) → IsTrue (is_laid (mode_or_int (predefined_tree p)))
predefined_laid names.Int = refl
predefined_laid names.Bool = refl
predefined_laid names.Char = refl
predefined_laid names.Instance = refl
predefined_laid names.True = refl
predefined_laid names.False = refl
predefined_laid names.Null = refl
predefined_laid names.Num = refl
predefined_laid names.Succ = refl
predefined_laid names.Pred = refl
predefined_laid names.Abs = refl
predefined_laid names.Card = refl
predefined_laid names.Min = refl
predefined_laid names.Max = refl
predefined_laid names.Upper = refl
predefined_laid names.Lower = refl
predefined_laid names.Size = refl
predefined_laid names.PutInt = refl
predefined_laid names.PutText = refl
predefined_laid names.PutLine = refl
predefined_laid names.GetInt = refl

abbrev mode_of_some : Option Origin → ModeTree
mode_of_some (Some (a_predefined p)) = mode_or_int p
mode_of_some _ = int

origin_laid : (o : Option rust.Origin) → IsTrue (is_laid (mode_of_some (option_map origin_tree o)))
origin_laid None = refl
origin_laid (Some (origins.Synonym s f)) = refl
origin_laid (Some (origins.SynMode d)) = refl
origin_laid (Some (origins.NewMode d)) = refl
origin_laid (Some (origins.Element x)) = refl
origin_laid (Some (origins.Location d f)) = refl
origin_laid (Some (origins.Parameter m p f)) = refl
origin_laid (Some (origins.Counter c)) = refl
origin_laid (Some (origins.Received a part)) = refl
origin_laid (Some (origins.Procedure p)) = refl
origin_laid (Some (origins.Process p)) = refl
origin_laid (Some (origins.Signal s)) = refl
origin_laid (Some (origins.Modulion m)) = refl
origin_laid (Some (origins.Predefined p)) = predefined_laid p

at_number : (e : Evaluation) (d : Option ℕ) → IsTrue (is_laid (mode_of_some (option_and_then (slice_get (ground_of e).origins) d)))
at_number e None = refl
at_number e (Some d) = ap (λ (o : Option Origin). is_laid (mode_of_some o)) (origins-there e d) ∙ origin_laid (slice_get e.origins d)

under_name : (d : ℕ) (novel : Bool) (o : Option ModeTree) → ((m : ModeTree) → o ≡ Some m → IsTrue (is_laid m)) → IsLaidMeasure (a_mode_of (option_map (named d novel) o))
under_name d novel None h = tt
under_name d novel (Some m) h = h m refl

by_name : (e : Option Entry) (d : Option ℕ) (novel : Bool) (w : written.ModeTree) → HasLaidMode e → IsLaidMeasure (a_mode_of (named_mode e d (Some (a_mode novel w))))
by_name e None novel w h = tt
by_name e (Some d) novel w h = under_name d novel (mode_of_entry e) (entry_laid e h)

predefined_measured : (p : model.Predefined) → IsTrue (is_laid (mode_or_int p)) → IsLaidMeasure (or_other (mode_of_predefined p))
predefined_measured (of_mode m) k = k
predefined_measured (model.truth b) k = tt
predefined_measured model.no_instance k = tt
predefined_measured model.num k = tt
predefined_measured model.succ k = tt
predefined_measured model.pred k = tt
predefined_measured model.abs k = tt
predefined_measured model.card k = tt
predefined_measured model.min k = tt
predefined_measured model.max k = tt
predefined_measured model.upper k = tt
predefined_measured model.lower k = tt
predefined_measured model.size k = tt
predefined_measured model.put_int k = tt
predefined_measured model.put_text k = tt
predefined_measured model.put_nl k = tt
predefined_measured model.get_int k = tt

-- by what the name stands for
name_measured : (e : Option Entry) (d : Option ℕ) (o : Option Origin) → (is_measured_origin o ≡ true → HasLaidMode e) → IsTrue (is_laid (mode_of_some o)) → IsLaidMeasure (measured_name (named_mode e d o) e o)
name_measured e d None h k = tt
name_measured e d (Some (a_mode novel w)) h k = by_name e d novel w (h refl)
name_measured e d (Some (a_predefined p)) h k = subst IsLaidMeasure (sym (name-predefined (named_mode e d (Some (a_predefined p))) e p)) (predefined_measured p k)
name_measured e d (Some (a_location x)) h k = location_laid e (Some (a_location x)) h
name_measured e d (Some (a_parameter m)) h k = location_laid e (Some (a_parameter m)) h
name_measured e d (Some (a_synonym s)) h k = tt
name_measured e d (Some (an_element ns part owner)) h k = tt
name_measured e d (Some (a_counter c)) h k = tt
name_measured e d (Some (a_received n count part)) h k = tt
name_measured e d (Some (a_procedure p)) h k = tt
name_measured e d (Some (a_process p)) h k = tt
name_measured e d (Some (a_signal s)) h k = tt
name_measured e d (Some (a_modulion kind items)) h k = tt

-- what an evaluation measures has places
pub measured_laid : (e : Evaluation) (x : ExprTree) → HasGround e → IsLaidMeasure (measured (ground_of e) x)
measured_laid e (name n) h = name_measured (entry_of (ground_of e) n) (number_at (ground_of e).uses n.at) (origin_of (ground_of e) n) (name_laid e n h) (at_number e (number_at (ground_of e).uses n.at))
measured_laid e (apply at x xs) h = located_laid e (apply at x xs) h
measured_laid e (field at x n) h = located_laid e (field at x n) h
measured_laid e (whole at n) h = tt
measured_laid e (character at n) h = tt
measured_laid e (text at bs) h = tt
measured_laid e (this_instance at) h = tt
measured_laid e (paren at x) h = tt
measured_laid e (receive at n) h = tt
measured_laid e (start at n xs) h = tt
measured_laid e (tuple at m b rs) h = tt
measured_laid e (uniform at m b x) h = tt
measured_laid e (prefixed at o x) h = tt
measured_laid e (binary at l o p r) h = tt
