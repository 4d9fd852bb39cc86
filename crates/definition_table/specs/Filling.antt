-- A table that is being filled: of the definitions that are done it has what the table of the text has.
use Rattle.std.specs.Prelude.{◌≡◌, ◌<◌, ◌⊎◌, ℕ, List, [], ◌∷◌, Option, Some, IfSome, length, set, slice_get, option_and_then}
use Rattle.std.specs.List.{Contains}
use Rattle.chill_tree.specs.ItemTree.{ProgramTree}
use Rattle.names_laws.specs.Rising.{Rise, use_places}
use Rattle.checks_model.specs.Ground.{Ground}
use Rattle.checks_model.specs.Table.{IsGroundOf}
use Rattle.elaborated_laws.specs.Table.{AreDefined}
use Rattle.table_laws.specs.OneTable.{SameText, NeedsEarlier}
use Rattle.definition_origins.specs.declared.origin.Origin.{Origin}
use Rattle.definition_origins.specs.Firsts.{first_of}
use Rattle.definition_origins.specs.OriginTrees.{origin_tree, origin_trees}
use Rattle.definition_order.specs.Needs.{other_first}
use Rattle.constant_operators.specs.declared.evaluation.Entry.{Entry}
use Rattle.constant_operators.specs.declared.evaluation.Evaluation.{Evaluation}
use Rattle.constant_operators.specs.Grounds.{ground_of, HasGround}
use Rattle.constant_operators.specs.Plain.{IsPlain}
use Rattle.laid_laws.specs.Few.{AreFew}
use Rattle.definition_table.specs.Entries.{AreSafe, IsEntryOf}

-- places can be looked up, each definition has its entry, and what is known is safe
pub record IsWell (e : Evaluation) : Type 0 where
  pub uses : Rise (use_places e.names.now.uses)
  pub defined : Rise (use_places e.defined)
  pub entries : length e.entries.items ≡ length e.origins
  pub plain : IsPlain e.plain
  pub safe : AreSafe (origin_trees e.origins) e.entries.items

-- of what is done the same is known as in a ground of the same text
pub record IsFilling (h : Ground) (done : List ℕ) (e : Evaluation) : Type 0 where
  pub text : SameText (ground_of e) h
  pub defined : AreDefined h
  pub well : IsWell e
  pub known : (d : ℕ) → Contains done d → slice_get (ground_of e).entries d ≡ slice_get h.entries d

-- the first definition of the clause of a number, where that is another
abbrev pub first_other : List Origin → ℕ → Option ℕ
first_other os d = option_and_then (λ o. other_first d (first_of o)) (slice_get os d)

-- each of the rest stands behind the first of its clause
abbrev pub FirstsEarlier : List Origin → List ℕ → List ℕ → Type 0
FirstsEarlier os done [] = Unit {0}
FirstsEarlier os done (d ∷ ds) = IfSome (first_other os d) (Contains done) × FirstsEarlier os (d ∷ done) ds

-- some are done, and the rest is in order
pub record IsUnderway (h : Ground) (rest : List ℕ) (e : Evaluation) : Type 0 where
  pub done : List ℕ
  pub filling : IsFilling h done e
  pub earlier : NeedsEarlier h done rest
  pub firsts : FirstsEarlier e.origins done rest
  pub all : (d : ℕ) → d < length h.origins → Contains done d ⊎ Contains rest d

-- this is what a ground has of the definition of a number
abbrev pub IsNext : Ground → List Origin → ℕ → Entry → Type 0
IsNext h os d x = (o : Origin) → slice_get os d ≡ Some o → IsEntryOf h (origin_tree o) x

-- the entry of one definition is set
pub record IsSet (d : ℕ) (x : Entry) (old new : Evaluation) : Type 0 where
  pub names : new.names ≡ old.names
  pub origins : new.origins ≡ old.origins
  pub defined : new.defined ≡ old.defined
  pub entries : new.entries.items ≡ set old.entries.items d x
  pub plain : new.plain ≡ old.plain

-- the same with other entries
pub record IsGiven (xs : List Entry) (old new : Evaluation) : Type 0 where
  pub names : new.names ≡ old.names
  pub origins : new.origins ≡ old.origins
  pub defined : new.defined ≡ old.defined
  pub entries : new.entries.items ≡ xs
  pub plain : new.plain ≡ old.plain

-- the evaluation has the ground of the text for the phase of modes and constants, and keeps it
pub record IsTableOf (t : ProgramTree) (e : Evaluation) : Type 0 where
  pub ground : IsGroundOf t (ground_of e)
  pub keeps : HasGround e
  pub few : AreFew (ground_of e)
