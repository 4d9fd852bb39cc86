-- The laws of frames: the class, the value and what is told of an expression, and the mode that is written, depend on the
-- ground only by the names that are used in it.
use Rattle.std.specs.Prelude.{◌≡◌, Bool, true, false, List, [], ◌∷◌, Option, Some, flat_map}
use Rattle.chill_tree.specs.declared.tree.name.Name.{Name}
use Rattle.chill_tree.specs.ExprTree.{ExprTree}
use Rattle.chill_tree.specs.ModeTree as written
use Rattle.chill_tree.specs.SimpleTree.{ControlTree}
use Rattle.modes.specs.ModeTree.{ModeTree}
use Rattle.checks_model.specs.Ground.{Ground, Origin, a_synonym, a_mode, an_element, a_location, a_parameter, a_received, a_procedure, a_process, number_at, origin_of, entry_of, entry_defined}
use Rattle.checks_model.specs.Classes.{class_as}
use Rattle.checks_model.specs.Constants.{constant_as, has_form}
use Rattle.checks_model.specs.ConstantRules.{Standing, told_as}
use Rattle.checks_model.specs.WrittenModes.{mode_of, told_of_mode}
use Rattle.checks_model.specs.ValueRules.{Receiver, told_in}
use Rattle.checks_model.specs.ActionRules.{counter_mode}
use Rattle.checks_model.specs.Table.{entry_by}
use Rattle.table_laws.specs.Names.{names_in, names_in_mode, names_needed, names_bounding}

-- a name stands for the same in both grounds, and the same is known of it
pub record SameAt (g h : Ground) (n : Name) : Type 0 where
  pub number : number_at g.uses n.at ≡ number_at h.uses n.at
  pub origin : origin_of g n ≡ origin_of h n
  pub entry : entry_of g n ≡ entry_of h n

abbrev pub SameAtEach : Ground → Ground → List Name → Type 0
SameAtEach g h [] = Unit {0}
SameAtEach g h (n ∷ ns) = SameAt g h n × SameAtEach g h ns

-- What is known of a definition is looked up, where a constant or a mode asks for it, of synonyms and elements, of modes, and
-- of what can be measured. Of anything else it is looked up in statements alone.
abbrev pub is_read : Option Origin → Bool
is_read (Some (a_synonym s)) = true
is_read (Some (a_mode novel m)) = true
is_read (Some (an_element names part owner)) = true
is_read (Some (a_location d)) = true
is_read (Some (a_parameter m)) = true
is_read _ = false

-- a name stands for the same in both grounds, and of what is looked up the same is known
pub record SameKnown (g h : Ground) (n : Name) : Type 0 where
  pub number : number_at g.uses n.at ≡ number_at h.uses n.at
  pub origin : origin_of g n ≡ origin_of h n
  pub entry : is_read (origin_of g n) ≡ true → entry_of g n ≡ entry_of h n

abbrev pub SameKnownEach : Ground → Ground → List Name → Type 0
SameKnownEach g h [] = Unit {0}
SameKnownEach g h (n ∷ ns) = SameKnown g h n × SameKnownEach g h ns

-- the same is known of what each of these names defines
abbrev pub SameDefined : Ground → Ground → List Name → Type 0
SameDefined g h [] = Unit {0}
SameDefined g h (n ∷ ns) = (entry_defined g n ≡ entry_defined h n) × SameDefined g h ns

-- the parameters of what is called or started
abbrev pub parameters_of : Option Origin → List Name
parameters_of (Some (a_procedure p)) = flat_map (λ q. q.names) p.params
parameters_of (Some (a_process p)) = flat_map (λ q. q.names) p.formals
parameters_of _ = []

-- of each name that calls or starts something the parameters are the same
abbrev pub SameParameters : Ground → Ground → List Name → Type 0
SameParameters g h [] = Unit {0}
SameParameters g h (n ∷ ns) = SameDefined g h (parameters_of (origin_of g n)) × SameParameters g h ns

-- ---- the laws

abbrev pub ClassFrame : Type 0
ClassFrame = (g h : Ground) (r : Option ModeTree) (e : ExprTree) → SameAtEach g h (names_in e) → class_as g r e ≡ class_as h r e

abbrev pub FormFrame : Type 0
FormFrame = (g h : Ground) (r : Bool) (e : ExprTree) → SameKnownEach g h (names_in e) → has_form g r e ≡ has_form h r e

abbrev pub ConstantFrame : Type 0
ConstantFrame = (g h : Ground) (r : Option ModeTree) (e : ExprTree) → SameKnownEach g h (names_in e) → constant_as g r e ≡ constant_as h r e

abbrev pub ToldConstantFrame : Type 0
ToldConstantFrame = (g h : Ground) (s : Standing) (m : Option ModeTree) (e : ExprTree) → SameKnownEach g h (names_in e) → told_as g s m e ≡ told_as h s m e

abbrev pub ModeFrame : Type 0
ModeFrame = (g h : Ground) (whole : Bool) (m : written.ModeTree) → g.defined ≡ h.defined → SameKnownEach g h (names_in_mode m) → mode_of g whole m ≡ mode_of h whole m

abbrev pub ToldModeFrame : Type 0
ToldModeFrame = (g h : Ground) (whole : Bool) (m : written.ModeTree) → g.defined ≡ h.defined → SameKnownEach g h (names_in_mode m) → told_of_mode g whole m ≡ told_of_mode h whole m

-- the same is known of what a definition needs; a received name needs what it is received from
abbrev pub SameNeeded : Ground → Ground → Origin → Type 0
SameNeeded g h (a_received n count part) = SameAt g h n
SameNeeded g h o = SameKnownEach g h (names_needed o)

abbrev pub EntryFrame : Type 0
EntryFrame = (g h : Ground) (o : Origin) → g.defined ≡ h.defined → SameNeeded g h o → entry_by g o ≡ entry_by h o

abbrev pub ToldFrame : Type 0
ToldFrame = (g h : Ground) (r : Receiver) (e : ExprTree) → SameAtEach g h (names_in e) → SameParameters g h (names_in e) → told_in g r e ≡ told_in h r e

-- a counter's mode is known in the phase of statements
abbrev pub CounterFrame : Type 0
CounterFrame = (g h : Ground) (c : ControlTree) → SameAtEach g h (names_bounding c) → SameParameters g h (names_bounding c) → counter_mode g c ≡ counter_mode h c
