-- The rules on the fields of a structure, asked of what is known of them.
use Rattle.std.specs.Prelude.{◌≡◌, ℕ, Bool, true, ◌&&◌, ◌||◌, not, if◌then◌else◌, List, [], ◌∷◌, ◌++◌, Option, Some, None, is_some, option_map}
use Rattle.std.specs.List.{list_any}
use Rattle.std.specs.HashSet.{HashSet, contains_by}
use Rattle.std.specs.declared.alloc.Global.{Global}
use Rattle.std.specs.declared.vec.Vec.{Vec}
use Rattle.std.specs.Str.{bytes_eq}
use Rattle.chill_tree.specs.declared.tree.name.Name.{Name}
use Rattle.modes.specs.ModeTree.{ModeTree, mode_tree, FieldTree, PlaceTree}
use Rattle.layout_map.specs.Place.{is_possible, shares}
use Rattle.diagnostics.specs.declared.diagnostic.Diagnostic.{Diagnostic}
use Rattle.diagnostics.specs.declared.rule.Rule.TheVariants as rules
use Rattle.names_model.specs.NameRules.{tell}
use Rattle.definition_origins.specs.Told.{tell_both}
use Rattle.checks_model.specs.Ground.{Ground}
use Rattle.checks_model.specs.Told.{told_if, holds_of_both}
use Rattle.checks_model.specs.WrittenModes.{FieldThere, place_has_no_int}
use Rattle.written_modes.specs.declared.fields.PlacedField.{PlacedField}
use Rattle.written_modes.specs.Places.{PlaceSeen, placed_tree, held_by}

-- a field by its name, with its mode, and its place as far as that is known
pub record FieldSeen : Type 0 where
  pub name : Name
  pub mode : Option ModeTree
  pub place : PlaceSeen

abbrev pub field_view : PlacedField → FieldSeen
field_view f = record { name = f.name.now; mode = option_map (λ m. mode_tree m.value) f.mode; place = placed_tree f.at }

abbrev pub seen_as : Option ModeTree → PlaceSeen → Name → FieldSeen
seen_as m p n = record { name = n; mode = m; place = p }

abbrev pub place_of_field : Ground → FieldThere → PlaceSeen
place_of_field g f = record { is_written = is_some f.written; has_no_int = place_has_no_int g f.written; place = f.place }

abbrev pub field_seen : Ground → FieldThere → FieldSeen
field_seen g f = record { name = f.name; mode = f.mode; place = place_of_field g f }

-- ---- texts in a set

abbrev pub has_text : {S : Type 0} → HashSet (Vec ℕ Global) S → List ℕ → Bool
has_text s n = contains_by (λ k. bytes_eq n k.items) s

-- the new set has what the old one has, and a text besides
abbrev pub HasAdded : {S : Type 0} → List ℕ → HashSet (Vec ℕ Global) S → HashSet (Vec ℕ Global) S → Type 0
HasAdded n old new = (q : List ℕ) → has_text new q ≡ (has_text old q || bytes_eq n q)

-- ---- M7, M13, M14

-- an earlier field has the name
abbrev pub has_name : List FieldSeen → List ℕ → Bool
has_name earlier n = list_any (λ e. bytes_eq e.name.text n) earlier

abbrev pub all_placed : List FieldSeen → Bool
all_placed [] = true
all_placed (f ∷ fs) = f.place.is_written && all_placed fs

abbrev pub misplaced : Bool → FieldSeen → Bool
misplaced all f = f.place.is_written && (not all || (f.place.has_no_int || holds_of_both (λ m p. not (is_possible m p)) f.mode f.place.place))

-- they share a bit
abbrev pub shares_place : FieldSeen → FieldSeen → Bool
shares_place e f = holds_of_both shares e.place.place f.place.place

abbrev pub told_sharing : List FieldSeen → FieldSeen → List Diagnostic
told_sharing [] f = []
told_sharing (e ∷ es) f =
    if shares_place e f then tell_both f.name.at rules.M13 e.name.text f.name.text ∷ [] else told_sharing es f

-- at a field behind others, of which one has its name or none has
abbrev pub told_one_of : Bool → Bool → List FieldSeen → FieldSeen → List Diagnostic
told_one_of all twice earlier f =
    told_if twice (tell f.name.at rules.M7 f.name.text)
    ++ told_sharing earlier f
    ++ told_if (misplaced all f) (tell f.name.at rules.M14 f.name.text)

abbrev pub told_one : Bool → List FieldSeen → FieldSeen → List Diagnostic
told_one all earlier f = told_one_of all (has_name earlier f.name.text) earlier f

abbrev pub told_all : Bool → List FieldSeen → List FieldSeen → List Diagnostic
told_all all earlier [] = []
told_all all earlier (f ∷ fs) = told_one all earlier f ++ told_all all (earlier ++ f ∷ []) fs

-- ---- the fields, where all of them have a mode and a place or none

abbrev pub tree_from : List ℕ → Option ModeTree → Option (Option PlaceTree) → Option FieldTree
tree_from n (Some m) (Some at) = Some (record { name = n; mode = m; at = at })
tree_from n _ _ = None

abbrev pub tree_behind : Option FieldTree → Option (List FieldTree) → Option (List FieldTree)
tree_behind (Some f) (Some fs) = Some (f ∷ fs)
tree_behind _ _ = None

abbrev pub tree_of_field : FieldSeen → Option FieldTree
tree_of_field f = tree_from f.name.text f.mode (held_by f.place)

abbrev pub trees_of_fields : List FieldSeen → Option (List FieldTree)
trees_of_fields [] = Some []
trees_of_fields (f ∷ fs) = tree_behind (tree_of_field f) (trees_of_fields fs)
