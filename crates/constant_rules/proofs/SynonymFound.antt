-- What is found of the value of a synonym with a written mode.
use Rattle.std.proofs.Common.{◌≡◌, ℕ, suc, Bool, true, false, List, [], ◌∷◌, ◌++◌, Option, Some, None, ℤ, refl, ap, sym, subst, ◌∙◌}
use Rattle.std.specs.Prelude.{◌&&◌, ◌||◌, not, if◌then◌else◌}
use Rattle.std.proofs.lemmas.List.{append-nil}
use Rattle.std.proofs.lemmas.Bool.{false≢true}
use Rattle.chill_tree.specs.ExprTree.{ExprTree, RangeTree, RangeNodes, whole, character, text, this_instance, paren, receive, start, tuple, uniform, name, apply, field, prefixed, binary, alone, between, no_ranges, more_ranges, place_of}
use Rattle.diagnostics.specs.declared.diagnostic.Diagnostic.{Diagnostic}
use Rattle.diagnostics.specs.declared.rule.Rule.TheVariants as rules
use Rattle.modes.specs.ModeTree.{ModeTree, ClassTree}
use Rattle.modes.specs.Form.{FormTree}
use Rattle.modes.specs.Bounds.{bounds_of}
use Rattle.checks_model.specs.TestLaws.{GoesWithTestLaw}
use Rattle.checks_model.specs.Alike.{goes_with}
use Rattle.checks_model.specs.ValueTrees.{ValueTree}
use Rattle.checks_model.specs.Told.{tell_at, told_if, then_told, is_none_told, holds_of_both}
use Rattle.checks_model.specs.Ground.{Ground}
use Rattle.checks_model.specs.Classes.{class_as, class_of, shape_fits, uniform_fits, mode_of_part}
use Rattle.checks_model.specs.Constants.{constant_as, constant_of, has_form}
use Rattle.checks_model.specs.ConstantRules.{is_outside, by_itself, in_a_synonym, told_as, told_in_ranges, told_tuple, told_uniform, told_if_constant, told_of_constants, told_needed, told_of_value, told_of_synonym_value, class_misfits, value_misfits, misfits_as, one_misfits, some_misfits, standing_of_parts, is_judged}
use Rattle.checks_model.specs.Table.{value_within}
use Rattle.constant_operators.specs.declared.known.Known.{Known}
use Rattle.constant_operators.specs.Known.{IsKnown, IsKnownConstant}
use Rattle.constant_rules.specs.declared.parts.Blame.TheVariants as blames
use Rattle.constant_rules.specs.declared.parts.Part.{Part}
use Rattle.constant_rules.specs.Walks.{is_unnamed_tuple, synonym_value}
use Rattle.constant_rules.specs.Parts.{IsReceived}
use Rattle.constant_rules.specs.Tuples.{IsCleanPart, FindsPart, IsSynonymValue, FindsSynonym, Receives}
use Rattle.constant_rules.proofs.Finding.{none_then, in_turn}
use Rattle.constant_rules.proofs.Standings.{then_nothing, without_mode, unnamed_alone, uniform_alone, alone_anywhere, all_alone}
use Rattle.constant_rules.proofs.PartFound.{own_told_so, judged_so, known_part}

-- ---- what is told before M12

-- of a tuple of constants
pub unnamed_form : (g : Ground) (x : ExprTree) → is_unnamed_tuple g x ≡ true → has_form g true x ≡ true
unnamed_form g (paren at e) h = unnamed_form g e h
unnamed_form g (tuple at None b rs) h = h
unnamed_form g (uniform at None b e) h = h
unnamed_form g (tuple at (Some n) b rs) h = absurd (false≢true h)
unnamed_form g (uniform at (Some n) b e) h = absurd (false≢true h)
unnamed_form g (whole at n) h = absurd (false≢true h)
unnamed_form g (character at n) h = absurd (false≢true h)
unnamed_form g (text at n) h = absurd (false≢true h)
unnamed_form g (this_instance at) h = absurd (false≢true h)
unnamed_form g (receive at n) h = absurd (false≢true h)
unnamed_form g (start at n es) h = absurd (false≢true h)
unnamed_form g (name n) h = absurd (false≢true h)
unnamed_form g (apply at e es) h = absurd (false≢true h)
unnamed_form g (field at e n) h = absurd (false≢true h)
unnamed_form g (prefixed at o e) h = absurd (false≢true h)
unnamed_form g (binary at l o p r) h = absurd (false≢true h)

unnamed_told : (g : Ground) (m : Option ModeTree) (x : ExprTree) → is_unnamed_tuple g x ≡ true → told_of_value g true m x ≡ told_as g in_a_synonym m x
unnamed_told g m x h = ap (λ (f : Bool). then_told (told_as g in_a_synonym m x) (told_if (not f) (tell_at rules.M1 (place_of x)))) (unnamed_form g x h) ∙ then_nothing (told_as g in_a_synonym m x)

-- of anything else
plain_told : (g : Ground) (m : Option ModeTree) (x : ExprTree) → is_unnamed_tuple g x ≡ false → told_as g in_a_synonym m x ≡ told_of_constants g x
plain_told g m (paren at e) h = plain_told g m e h
plain_told g m (tuple at None b rs) h =
    ap (λ (f : Bool). then_told (told_in_ranges g (standing_of_parts in_a_synonym None f) (shape_fits rs) 0 m rs) (told_if_constant (is_judged in_a_synonym None f) (told_tuple g m rs b))) h
    ∙ then_nothing (told_in_ranges g by_itself (shape_fits rs) 0 m rs) ∙ all_alone g (shape_fits rs) 0 m rs ∙ sym (unnamed_alone g at b rs)
plain_told g m (uniform at None b e) h =
    ap (λ (f : Bool). then_told (told_as g (standing_of_parts in_a_synonym None f) (mode_of_part uniform_fits 0 m) e) (told_if_constant (is_judged in_a_synonym None f) (told_uniform g m e b))) h
    ∙ then_nothing (told_as g by_itself (mode_of_part uniform_fits 0 m) e) ∙ alone_anywhere g (mode_of_part uniform_fits 0 m) e ∙ sym (uniform_alone g at b e)
plain_told g m (tuple at (Some n) b rs) h = own_told_so g in_a_synonym m (tuple at (Some n) b rs) refl
plain_told g m (uniform at (Some n) b e) h = own_told_so g in_a_synonym m (uniform at (Some n) b e) refl
plain_told g m (whole at n) h = refl
plain_told g m (character at n) h = refl
plain_told g m (text at n) h = refl
plain_told g m (this_instance at) h = refl
plain_told g m (receive at n) h = refl
plain_told g m (start at n es) h = refl
plain_told g m (name n) h = refl
plain_told g m (apply at e es) h = refl
plain_told g m (field at e n) h = refl
plain_told g m (prefixed at o e) h = refl
plain_told g m (binary at l o p r) h = refl

plain_form : (g : Ground) (x : ExprTree) → is_unnamed_tuple g x ≡ false → has_form g true x ≡ has_form g false x
plain_form g (paren at e) h = plain_form g e h
plain_form g (tuple at None b rs) h = h
plain_form g (uniform at None b e) h = h
plain_form g (tuple at (Some n) b rs) h = refl
plain_form g (uniform at (Some n) b e) h = refl
plain_form g (whole at n) h = refl
plain_form g (character at n) h = refl
plain_form g (text at n) h = refl
plain_form g (this_instance at) h = refl
plain_form g (receive at n) h = refl
plain_form g (start at n es) h = refl
plain_form g (name n) h = refl
plain_form g (apply at e es) h = refl
plain_form g (field at e n) h = refl
plain_form g (prefixed at o e) h = refl
plain_form g (binary at l o p r) h = refl

plain_value_told : (g : Ground) (m : Option ModeTree) (x : ExprTree) → is_unnamed_tuple g x ≡ false → told_of_value g true m x ≡ told_needed g x
plain_value_told g m x h = λ i. then_told (plain_told g m x h i) (told_if (not (plain_form g x h i)) (tell_at rules.M1 (place_of x)))

-- ---- what has the form of a constant is what it is by itself

record IsFormed (g : Ground) (m : Option ModeTree) (x : ExprTree) : Type 0 where
  class : class_as g m x ≡ class_of g x
  own : constant_as g m x ≡ constant_of g x
  misfits : misfits_as g m x ≡ (class_misfits g m x || value_misfits g m x)

formed : (g : Ground) (m : Option ModeTree) (x : ExprTree) → has_form g false x ≡ true → IsFormed g m x
formed g m (paren at e) h = let f = formed g m e h in record { class = f.class; own = f.own; misfits = f.misfits }
formed g m (tuple at None b rs) h = absurd (false≢true h)
formed g m (uniform at None b e) h = absurd (false≢true h)
formed g m (tuple at (Some n) b rs) h = record { class = refl; own = refl; misfits = refl }
formed g m (uniform at (Some n) b e) h = record { class = refl; own = refl; misfits = refl }
formed g m (whole at n) h = record { class = refl; own = refl; misfits = refl }
formed g m (character at n) h = record { class = refl; own = refl; misfits = refl }
formed g m (text at n) h = record { class = refl; own = refl; misfits = refl }
formed g m (this_instance at) h = record { class = refl; own = refl; misfits = refl }
formed g m (receive at n) h = record { class = refl; own = refl; misfits = refl }
formed g m (start at n es) h = record { class = refl; own = refl; misfits = refl }
formed g m (name n) h = record { class = refl; own = refl; misfits = refl }
formed g m (apply at e es) h = record { class = refl; own = refl; misfits = refl }
formed g m (field at e n) h = record { class = refl; own = refl; misfits = refl }
formed g m (prefixed at o e) h = record { class = refl; own = refl; misfits = refl }
formed g m (binary at l o p r) h = record { class = refl; own = refl; misfits = refl }

-- ---- M12

twice : (b : Bool) → b ≡ not (not b)
twice true = refl
twice false = refl

one_none : (b : Bool) (d : Diagnostic) → is_none_told (told_if b d) ≡ not b
one_none true d = refl
one_none false d = refl

received_told : (g : Ground) (m : ModeTree) (x : ExprTree) (part : Part) (told old : List Diagnostic) {mid new : List Diagnostic} {flat : Option (List ℤ)} → told_of_value g true (Some m) x ≡ told → mid ≡ old ++ told → is_none_told told ≡ true → IsCleanPart g blames.Whole (Some m) x part → Receives part mid new flat
    → new ≡ old ++ told_of_synonym_value g true (Some m) x
received_told g m x part told old is so_far none h r =
    let misfits : misfits_as g (Some m) x ≡ not (part.goes && part.lies_inside) = twice (misfits_as g (Some m) x) ∙ ap not (sym h.judged) in
    in_turn told (told_if (not (part.goes && part.lies_inside)) (tell_at rules.M12 part.at)) old so_far r.told
    ∙ ap (λ (b : Bool). old ++ (told ++ (if b then told_if (not (part.goes && part.lies_inside)) (tell_at rules.M12 part.at) else []))) (sym none)
    ∙ (λ i. old ++ then_told (sym is i) (told_if (sym misfits i) (tell_at rules.M12 (h.at i))))

by_fit : (g : Ground) (m : ModeTree) (x : ExprTree) (part : Part) (flat : Option (List ℤ)) (fits : Bool) → (part.goes && part.lies_inside) ≡ fits → IsCleanPart g blames.Whole (Some m) x part → flat ≡ (if fits then part.known.value else None) → IsSynonymValue (Some m) (if fits then constant_as g (Some m) x else None) flat
by_fit g m x part flat true e h is = record { scalars = is ∙ h.value e; fits = (h.within e).fits }
by_fit g m x part flat false e h is = record { scalars = is; fits = refl }

received_value : (g : Ground) (m : ModeTree) (x : ExprTree) (part : Part) (told : List Diagnostic) (flat : Option (List ℤ)) → told_of_value g true (Some m) x ≡ told → is_none_told told ≡ true → IsCleanPart g blames.Whole (Some m) x part → flat ≡ (if part.goes && part.lies_inside then part.known.value else None)
    → IsSynonymValue (Some m) (synonym_value g (Some m) x) flat
received_value g m x part told flat is none h gives =
    let fits = part.goes && part.lies_inside in
    let none_told : is_none_told (told_of_synonym_value g true (Some m) x) ≡ fits =
    none_then (told_of_value g true (Some m) x) (told_if (misfits_as g (Some m) x) (tell_at rules.M12 (place_of x)))
    ∙ (λ i. (ap is_none_told is ∙ none) i && (one_none (misfits_as g (Some m) x) (tell_at rules.M12 (place_of x)) ∙ sym h.judged) i) in
    subst (λ (b : Bool). IsSynonymValue (Some m) (if b then constant_as g (Some m) x else None) flat) (sym none_told) (by_fit g m x part flat fits refl h gives)

-- a tuple without a mode's name, in which nothing is told
pub tuple_received : (g : Ground) (m : ModeTree) (x : ExprTree) (part : Part) (old : List Diagnostic) {mid new : List Diagnostic} {flat : Option (List ℤ)} → is_unnamed_tuple g x ≡ true → FindsPart g blames.Whole (Some m) x old mid part → part.known.is_clean ≡ true → Receives part mid new flat
    → FindsSynonym g m x old new flat
tuple_received g m x part old {flat = flat} is f clean r =
    let none = sym f.known.is_clean ∙ clean in
    let told = unnamed_told g (Some m) x is in
    record {
      told = received_told g m x part (told_as g in_a_synonym (Some m) x) old told f.told none (f.known.clean none) r;
      value = received_value g m x part (told_as g in_a_synonym (Some m) x) flat told none (f.known.clean none) r.value;
    }

-- where something is told before
told_before : (g : Ground) (m : Option ModeTree) (x : ExprTree) (told : List Diagnostic) → told_of_value g true m x ≡ told → is_none_told told ≡ false → told_of_synonym_value g true m x ≡ told
told_before g m x told is none = ap (λ (xs : List Diagnostic). then_told xs (told_if (misfits_as g m x) (tell_at rules.M12 (place_of x)))) is
    ∙ ap (λ (b : Bool). told ++ (if b then told_if (misfits_as g m x) (tell_at rules.M12 (place_of x)) else [])) none ∙ append-nil told

no_value : (g : Ground) (m : Option ModeTree) (x : ExprTree) → is_none_told (told_of_synonym_value g true m x) ≡ false → IsSynonymValue m (synonym_value g m x) None
no_value g m x none = subst (λ (b : Bool). IsSynonymValue m (if b then value_within g m x else None) None) (sym none) (record { scalars = refl; fits = refl })

pub tuple_told : (g : Ground) (m : ModeTree) (x : ExprTree) (part : Part) (old : List Diagnostic) {new : List Diagnostic} → is_unnamed_tuple g x ≡ true → FindsPart g blames.Whole (Some m) x old new part → part.known.is_clean ≡ false → FindsSynonym g m x old new None
tuple_told g m x part old is f clean =
    let none = sym f.known.is_clean ∙ clean in
    let told = told_before g (Some m) x (told_as g in_a_synonym (Some m) x) (unnamed_told g (Some m) x is) none in
    record { told = f.told ∙ ap (λ (xs : List Diagnostic). old ++ xs) (sym told); value = no_value g (Some m) x (ap is_none_told told ∙ none) }

-- anything else, where a constant is found
formed_so : (f : Bool) (told : List Diagnostic) (d : Diagnostic) → is_none_told (then_told told (told_if (not f) d)) ≡ true → f ≡ true
formed_so true told d h = refl
formed_so false [] d h = absurd (false≢true h)
formed_so false (x ∷ told) d h = absurd (false≢true h)

pub plain_received : (law : GoesWithTestLaw) (g : Ground) (m : ModeTree) (x : ExprTree) (k : Known) (part : Part) (old : List Diagnostic) {mid new : List Diagnostic} {flat : Option (List ℤ)} → is_unnamed_tuple g x ≡ false → mid ≡ old ++ told_needed g x → is_none_told (told_needed g x) ≡ true → IsKnownConstant (class_of g x) (constant_of g x) k
    → IsReceived m (place_of x) k part → Receives part mid new flat → FindsSynonym g m x old new flat
plain_received law g m x k part old {flat = flat} is so_far none known received r =
    let f = formed g (Some m) x (formed_so (has_form g false x) (told_of_constants g x) (tell_at rules.M1 (place_of x)) none) in
    let clean = known_part law g blames.Whole m x k part (judged_so g blames.Whole (Some m) x part f.misfits) received
    (subst (λ (c : Option ClassTree). IsKnown c (constant_as g (Some m) x) k) (sym f.class) (subst (λ (v : Option ValueTree). IsKnown (class_of g x) v k) (sym f.own) known.known)) in
    let told = plain_value_told g (Some m) x is in
    record {
      told = received_told g m x part (told_needed g x) old told so_far none clean r;
      value = received_value g m x part (told_needed g x) flat told none clean r.value;
    }

pub plain_told_before : (g : Ground) (m : ModeTree) (x : ExprTree) (old : List Diagnostic) {new : List Diagnostic} → is_unnamed_tuple g x ≡ false → new ≡ old ++ told_needed g x → is_none_told (told_needed g x) ≡ false → FindsSynonym g m x old new None
plain_told_before g m x old is so_far none =
    let told = told_before g (Some m) x (told_needed g x) (plain_value_told g (Some m) x is) none in
    record { told = so_far ∙ ap (λ (xs : List Diagnostic). old ++ xs) (sym told); value = no_value g (Some m) x (ap is_none_told told ∙ none) }

-- ---- without a mode

both_none : {A B : Type 0} (test : A → B → Bool) (o : Option A) → holds_of_both test o None ≡ false
both_none test None = refl
both_none test (Some x) = refl

class_fits : (g : Ground) (x : ExprTree) → (class_misfits g None x || value_misfits g None x) ≡ false
class_fits g x = (λ i. both_none (λ c m. not (goes_with c m)) (class_as g None x) i || (both_none goes_with (class_as g None x) i && holds_of_both (λ v m. is_outside (bounds_of m) v) (constant_as g None x) None))

mutual
  none_misfits : (g : Ground) (x : ExprTree) → misfits_as g None x ≡ false
  none_misfits g (paren at e) = none_misfits g e
  none_misfits g (tuple at None b rs) = none_misfit g (shape_fits rs) 0 rs
  none_misfits g (uniform at None b e) = none_misfits g e
  none_misfits g (tuple at (Some n) b rs) = class_fits g (tuple at (Some n) b rs)
  none_misfits g (uniform at (Some n) b e) = class_fits g (uniform at (Some n) b e)
  none_misfits g (whole at n) = class_fits g (whole at n)
  none_misfits g (character at n) = class_fits g (character at n)
  none_misfits g (text at n) = class_fits g (text at n)
  none_misfits g (this_instance at) = class_fits g (this_instance at)
  none_misfits g (receive at n) = class_fits g (receive at n)
  none_misfits g (start at n es) = class_fits g (start at n es)
  none_misfits g (name n) = class_fits g (name n)
  none_misfits g (apply at e es) = class_fits g (apply at e es)
  none_misfits g (field at e n) = class_fits g (field at e n)
  none_misfits g (prefixed at o e) = class_fits g (prefixed at o e)
  none_misfits g (binary at l o p r) = class_fits g (binary at l o p r)

  none_misfit : (g : Ground) (fits : FormTree → Bool) (k : ℕ) (rs : RangeNodes) → some_misfits g fits k None rs ≡ false
  none_misfit g fits k no_ranges = refl
  none_misfit g fits k (more_ranges r rs) = λ i. one_fits g r i || none_misfit g fits (suc k) rs i

  one_fits : (g : Ground) (r : RangeTree) → one_misfits g None r ≡ false
  one_fits g (alone e) = none_misfits g e
  one_fits g (between l h) = λ i. none_misfits g l i || none_misfits g h i

without_told : (g : Ground) (x : ExprTree) → told_of_synonym_value g true None x ≡ told_of_value g true None x
without_told g x = ap (λ (b : Bool). then_told (told_of_value g true None x) (told_if b (tell_at rules.M12 (place_of x)))) (none_misfits g x) ∙ then_nothing (told_of_value g true None x)

pub tuple_without : (g : Ground) (x : ExprTree) → is_unnamed_tuple g x ≡ true → told_of_synonym_value g true None x ≡ told_of_constants g x
tuple_without g x is = without_told g x ∙ unnamed_told g None x is ∙ without_mode g in_a_synonym x

pub plain_without : (g : Ground) (x : ExprTree) → is_unnamed_tuple g x ≡ false → told_of_synonym_value g true None x ≡ told_needed g x
plain_without g x is = without_told g x ∙ plain_value_told g None x is

-- nothing has a value without a mode
pub value_without : (g : Ground) (x : ExprTree) → IsSynonymValue None (synonym_value g None x) None
value_without g x = by_told (is_none_told (told_of_synonym_value g true None x))
  where
    by_told : (b : Bool) → IsSynonymValue None (if b then value_within g None x else None) None
    by_told true = record { scalars = refl; fits = refl }
    by_told false = record { scalars = refl; fits = refl }
