-- The structures in a mode have a field, and its SETs an element.
use Rattle.std.proofs.Common.{◌≡◌, Bool, true, false, List, [], ◌∷◌, ◌++◌, Option, refl, true≢false, sym}
use Rattle.chill_tree.specs.declared.token.Word.{Word}
use Rattle.chill_tree.specs.declared.tree.name.Name.{Name}
use Rattle.chill_tree.specs.declared.tree.mode.Packing.{Packing}
use Rattle.chill_tree.specs.ExprTree.{ExprTree}
use Rattle.chill_tree.specs.ModeTree.{DiscreteTree, named, bounded, set_of, IndexTree, PlaceTree, SpreadTree, BaseTree, FieldTree, field_nodes, ModeTree, discrete, powerset, chars, structure, array, FieldNodes, no_fields, more_fields, base_mode, read_mode, event_mode, buffer_mode}
use Rattle.rules_model.specs.Marks.{Toks}
use Rattle.rules_model.specs.ExprGrammar.{IsExpr}
use Rattle.rules_model.specs.ListGrammar.{one_of, and_of, is_name, AreNames, IsFlag, no_flag, with_flag, IsLength, no_length, with_length, IsLabel, no_label, with_label, IsClosing, left_open, closed_by}
use Rattle.rules_model.specs.ModeGrammar.{IsDiscrete, is_named_mode, is_bounded, is_set, IsIndex, is_index_name, is_index_range, IsPlace, up_to, of_length, IsFieldPlace, no_place, with_place, is_step, IsPacking, no_packing, packed, not_packed, IsSpread, no_spread, spread_packed, spread_not_packed, spread_by_step, IsBase, is_discrete, is_powerset, is_chars, is_structure, is_array, AreFields, one_field, and_field, IsField, is_field, IsMode, is_base_mode, is_read_mode, is_event_mode, is_buffer_mode}
use Rattle.elaborated_laws.specs.Modes.{has_name}
use Rattle.written_laws.specs.Written.{Each, is_some_name}
use Rattle.written_laws.proofs.Shown.{Shown, none, skip, ends, before, behind, so, passed, one, and_one}
use Rattle.written_laws.proofs.ShownExpr.{expr_shown}

-- ---- what is passed

pub names_passed : {ns : List Name} {toks rest : Toks} → AreNames ns toks rest → Shown (Unit {0}) toks rest
names_passed (one_of is_name) = skip none
names_passed (and_of l is_name) = behind (ends (names_passed l)) (skip none)

-- some name is written
pub names_there : {ns : List Name} {toks rest : Toks} → AreNames ns toks rest → is_some_name ns ≡ true
names_there (one_of d) = refl
names_there (and_of {xs = xs} {x = x} l d) = by xs x
  where
    by : (xs : List Name) (x : Name) → is_some_name (xs ++ x ∷ []) ≡ true
    by [] x = refl
    by (y ∷ ys) x = refl

pub flag_passed : {w : Word} {b : Bool} {toks rest : Toks} → IsFlag w b toks rest → Shown (Unit {0}) toks rest
flag_passed no_flag = none
flag_passed with_flag = skip none

pub label_passed : {l : Option Name} {toks rest : Toks} → IsLabel l toks rest → Shown (Unit {0}) toks rest
label_passed no_label = none
label_passed with_label = skip (skip none)

pub closing_passed : {l c : Option Name} {toks rest : Toks} → IsClosing l c toks rest → Shown (Unit {0}) toks rest
closing_passed left_open = none
closing_passed (closed_by e) = skip none

packing_passed : {p : Option Packing} {toks rest : Toks} → IsPacking p toks rest → Shown (Unit {0}) toks rest
packing_passed no_packing = none
packing_passed packed = skip none
packing_passed not_packed = skip none

expr_passed : {e : ExprTree} {toks rest : Toks} → IsExpr e toks rest → Shown (Unit {0}) toks rest
expr_passed d = passed (expr_shown d)

length_passed : {l : Option ExprTree} {toks rest : Toks} → IsLength l toks rest → Shown (Unit {0}) toks rest
length_passed no_length = none
length_passed (with_length d) = skip (ends (expr_passed d))

index_passed : {i : IndexTree} {toks rest : Toks} → IsIndex i toks rest → Shown (Unit {0}) toks rest
index_passed is_index_name = skip none
index_passed (is_index_range l h) = behind (ends (expr_passed l)) (expr_passed h)

place_passed : {p : PlaceTree} {toks rest : Toks} → IsPlace p toks rest → Shown (Unit {0}) toks rest
place_passed (up_to w s b) = skip (skip (behind (behind (ends (expr_passed w)) (ends (expr_passed s))) (ends (expr_passed b))))
place_passed (of_length w s b) = skip (skip (behind (behind (ends (expr_passed w)) (ends (expr_passed s))) (ends (expr_passed b))))

field_place_passed : {p : Option PlaceTree} {toks rest : Toks} → IsFieldPlace p toks rest → Shown (Unit {0}) toks rest
field_place_passed no_place = none
field_place_passed (with_place d) = place_passed d

spread_passed_by : {s : Option SpreadTree} {toks rest : Toks} → IsSpread s toks rest → Shown (Unit {0}) toks rest
spread_passed_by no_spread = none
spread_passed_by spread_packed = skip none
spread_passed_by spread_not_packed = skip none
spread_passed_by (spread_by_step (is_step p d)) = skip (skip (behind (ends (place_passed p)) (ends (expr_passed d))))

-- ---- lists of names and of fields have something

abbrev pub has_some : {A : Type 0} → List A → Bool
has_some [] = false
has_some (x ∷ xs) = true

some_snoc : {A : Type 0} (xs : List A) (x : A) → has_some (xs ++ x ∷ []) ≡ true
some_snoc [] x = refl
some_snoc (y ∷ xs) x = refl

names_some : {ns : List Name} {toks rest : Toks} → AreNames ns toks rest → has_some ns ≡ true
names_some (one_of d) = refl
names_some (and_of {xs = xs} {x = x} l d) = some_snoc xs x

fields_some : {fs : List FieldTree} {toks rest : Toks} → AreFields fs toks rest → has_some fs ≡ true
fields_some (one_field d) = refl
fields_some (and_field {fs = fs} {f = f} l d) = some_snoc fs f

-- ---- modes

-- a SET has an element
abbrev pub IsFilledDiscrete : DiscreteTree → Type 0
IsFilledDiscrete (named n) = Unit {0}
IsFilledDiscrete (bounded n l h) = Unit {0}
IsFilledDiscrete (set_of at ns) = has_some ns ≡ true

abbrev mutual
  -- structures in it have a field, and SETs an element
  pub IsFilledBase : BaseTree → Type 0
  IsFilledBase (discrete d) = IsFilledDiscrete d
  IsFilledBase (powerset at d) = IsFilledDiscrete d
  IsFilledBase (chars at e) = Unit {0}
  IsFilledBase (structure at fs p) = (has_name fs ≡ true) × AreFilled fs
  IsFilledBase (array at i b s) = IsFilledBase b

  pub AreFilled : FieldNodes → Type 0
  AreFilled no_fields = Unit {0}
  AreFilled (more_fields ns b p fs) = IsFilledBase b × AreFilled fs

abbrev pub IsFilled : ModeTree → Type 0
IsFilled (base_mode b) = IsFilledBase b
IsFilled (read_mode at b) = IsFilledBase b
IsFilled (event_mode at l) = Unit {0}
IsFilled (buffer_mode at l b) = IsFilledBase b

abbrev IsFilledField : FieldTree → Type 0
IsFilledField f = (has_some f.names ≡ true) × IsFilledBase f.base

as_fields : (fs : List FieldTree) → Each IsFilledField fs → AreFilled (field_nodes fs)
as_fields [] each = tt
as_fields (f ∷ fs) each = (each.0.1, as_fields fs each.1)

named_by : (ns : List Name) (b : BaseTree) (p : Option PlaceTree) (fs : FieldNodes) → has_some ns ≡ true → has_name (more_fields ns b p fs) ≡ true
named_by [] b p fs some = absurd (true≢false (sym some))
named_by (n ∷ ns) b p fs some = refl

fields_named : (fs : List FieldTree) → has_some fs ≡ true → Each IsFilledField fs → has_name (field_nodes fs) ≡ true
fields_named [] some each = absurd (true≢false (sym some))
fields_named (f ∷ fs) some each = named_by f.names f.base f.place (field_nodes fs) each.0.0

discrete_shown : {d : DiscreteTree} {toks rest : Toks} → IsDiscrete d toks rest → Shown (IsFilledDiscrete d) toks rest
discrete_shown is_named_mode = skip none
discrete_shown (is_bounded l h) = skip (skip (behind (ends (expr_passed l)) (ends (expr_passed h))))
discrete_shown (is_set d) = skip (skip (so (λ passed. names_some d) (ends (names_passed d))))

mutual
  base_shown : {b : BaseTree} {toks rest : Toks} → IsBase b toks rest → Shown (IsFilledBase b) toks rest
  base_shown (is_discrete d) = discrete_shown d
  base_shown (is_powerset d) = skip (discrete_shown d)
  base_shown (is_chars d) = skip (skip (ends (expr_passed d)))
  base_shown (is_structure {fs = fs} d p) = skip (skip (before (so (λ each. (fields_named fs (fields_some d) each, as_fields fs each)) (ends (fields_shown d))) (packing_passed p)))
  base_shown (is_array i e s leaves few) = skip (skip (before (behind (ends (index_passed i)) (base_shown e)) (spread_passed_by s)))

  fields_shown : {fs : List FieldTree} {toks rest : Toks} → AreFields fs toks rest → Shown (Each IsFilledField fs) toks rest
  fields_shown (one_field {f = f} d) = one IsFilledField f (field_shown d)
  fields_shown (and_field {fs = fs} {f = f} l d) = and_one IsFilledField fs f (ends (fields_shown l)) (field_shown d)

  field_shown : {f : FieldTree} {toks rest : Toks} → IsField f toks rest → Shown (IsFilledField f) toks rest
  field_shown (is_field ns b p) = before (behind (names_passed ns) (so (λ filled. (names_some ns, filled)) (base_shown b))) (field_place_passed p)

pub mode_shown : {m : ModeTree} {toks rest : Toks} → IsMode m toks rest → Shown (IsFilled m) toks rest
mode_shown (is_base_mode d) = base_shown d
mode_shown (is_read_mode d) = skip (base_shown d)
mode_shown (is_event_mode l) = skip (length_passed l)
mode_shown (is_buffer_mode l d) = skip (behind (length_passed l) (base_shown d))
