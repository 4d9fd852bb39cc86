-- What holds of the modes that are known holds of those that names stand for.
use Rattle.std.proofs.Common.{◌≡◌, ℕ, Bool, true, false, Option, Some, None, refl, sym, ◌∙◌, subst}
use Rattle.std.specs.Prelude.{slice_get, option_map, option_and_then}
use Rattle.std.proofs.lemmas.Option.{same_Some}
use Rattle.chill_tree.specs.declared.tree.name.Name.{Name}
use Rattle.chill_tree.specs.ModeTree as written
use Rattle.modes.specs.ModeTree.{ModeTree, int, boolean, char, instance, named}
use Rattle.checks_model.specs.Ground as model
use Rattle.checks_model.specs.Ground.{Ground, Entry, Origin, a_synonym, a_mode, an_element, a_location, a_parameter, a_counter, a_received, a_procedure, a_process, a_signal, a_modulion, a_predefined, of_mode, number_at, entry_of, origin_of, mode_of_entry, mode_of_name, named_mode}
use Rattle.constant_operators.specs.Grounds.{is_measured_origin}

-- ---- predefined modes

abbrev pub is_plain : ModeTree → Bool
is_plain int = true
is_plain boolean = true
is_plain char = true
is_plain instance = true
is_plain _ = false

abbrev pub plain_mode : model.Predefined → Bool
plain_mode (of_mode m) = is_plain m
plain_mode _ = true

abbrev pub plain_origin : Option Origin → Bool
plain_origin (Some (a_predefined p)) = plain_mode p
plain_origin _ = true

-- each predefined mode of a ground is a plain one
abbrev pub HasPlainModes : Ground → Type 0
HasPlainModes g = (d : Option ℕ) → plain_origin (option_and_then (slice_get g.origins) d) ≡ true

-- ---- modes that are known

-- it holds of the mode that is known of a definition
abbrev pub Keeps : (ModeTree → Type 0) → Option Entry → Type 0
Keeps P None = Unit {0}
Keeps P (Some e) = (m : ModeTree) → e.mode ≡ Some m → P m

-- it holds of plain modes, and of a mode under a name where it holds of the mode
pub record IsKeptByNames (P : ModeTree → Type 0) : Type 0 where
  pub plain : (m : ModeTree) → is_plain m ≡ true → P m
  pub under : (d : ℕ) (novel : Bool) (m : ModeTree) → P m → P (named d novel m)

under_name : (P : ModeTree → Type 0) → IsKeptByNames P → (e : Option Entry) → Keeps P e → (d : ℕ) (novel : Bool) (m : ModeTree) → option_map (named d novel) (mode_of_entry e) ≡ Some m → P m
under_name P k None h d novel m is = absurd (cc)
under_name P k (Some e) h d novel m is = by_mode e.mode refl is
  where
    by_mode : (o : Option ModeTree) → e.mode ≡ o → option_map (named d novel) o ≡ Some m → P m
    by_mode None at is = absurd (cc)
    by_mode (Some x) at is = subst P (same_Some (named d novel x) m is) (k.under d novel x (h x at))

abbrev mode_there : model.Predefined → Option ModeTree
mode_there (of_mode m) = Some m
mode_there _ = None

predefined-there : (e : Option Entry) (d : Option ℕ) (p : model.Predefined) → named_mode e d (Some (a_predefined p)) ≡ mode_there p
predefined-there e None (of_mode m) = refl
predefined-there e (Some d) (of_mode m) = refl
predefined-there e None p = refl
predefined-there e (Some d) p = refl

predefined_kept : (P : ModeTree → Type 0) → IsKeptByNames P → (p : model.Predefined) (m : ModeTree) → plain_mode p ≡ true → mode_there p ≡ Some m → P m
predefined_kept P k (of_mode x) m h is = subst P (same_Some x m is) (k.plain x h)
predefined_kept P k p m h is = absurd (cc)

mode_kept : (P : ModeTree → Type 0) → IsKeptByNames P → (e : Option Entry) → Keeps P e → (d : Option ℕ) (novel : Bool) (w : written.ModeTree) (m : ModeTree) → named_mode e d (Some (a_mode novel w)) ≡ Some m → P m
mode_kept P k e h None novel w m is = absurd (cc)
mode_kept P k e h (Some d) novel w m is = under_name P k e h d novel m is

by_origin : (P : ModeTree → Type 0) → IsKeptByNames P → (e : Option Entry) (d : Option ℕ) (o : Option Origin) (m : ModeTree) → (is_measured_origin o ≡ true → Keeps P e) → plain_origin o ≡ true → named_mode e d o ≡ Some m → P m
by_origin P k e d (Some (a_mode novel w)) m h p is = mode_kept P k e (h refl) d novel w m is
by_origin P k e d (Some (a_predefined x)) m h p is = predefined_kept P k x m p (sym (predefined-there e d x) ∙ is)
by_origin P k e None o m h p is = absurd (cc)
by_origin P k e (Some d) o m h p is = absurd (cc)

-- it holds of each mode that can be measured
abbrev pub KeepsMeasured : (ModeTree → Type 0) → Ground → Type 0
KeepsMeasured P g = (d : ℕ) → is_measured_origin (slice_get g.origins d) ≡ true → Keeps P (slice_get g.entries d)

used_kept : (P : ModeTree → Type 0) (g : Ground) → KeepsMeasured P g → (d : Option ℕ) → is_measured_origin (option_and_then (slice_get g.origins) d) ≡ true → Keeps P (option_and_then (slice_get g.entries) d)
used_kept P g h None is = tt
used_kept P g h (Some d) is = h d is

pub name_kept : (P : ModeTree → Type 0) → IsKeptByNames P → (g : Ground) → HasPlainModes g → KeepsMeasured P g → (n : Name) (m : ModeTree) → mode_of_name g n ≡ Some m → P m
name_kept P k g plain h n m is =
    let d = number_at g.uses n.at in
    by_origin P k (entry_of g n) d (origin_of g n) m (used_kept P g h d) (plain d) is
