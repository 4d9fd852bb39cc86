-- The law that there is one table, and that it is filled in any order in which each definition stands behind those that it
-- needs.
use Rattle.std.specs.Prelude.{◌≡◌, ◌<◌, ℕ, true, List, [], ◌∷◌, map, length, set, Option, Some, None, IfSome, slice_get}
use Rattle.std.specs.List.{Contains}
use Rattle.chill_tree.specs.declared.tree.name.Name.{Name}
use Rattle.checks_model.specs.Ground.{Ground, Origin, Entry, a_received, origin_of, number_at}
use Rattle.checks_model.specs.Table.{no_entry, entry_by}
use Rattle.table_laws.specs.Names.{names_needed}
use Rattle.table_laws.specs.Frames.{is_read}

-- the table of a ground is that of its definitions
abbrev pub IsEvaluated : Ground → Type 0
IsEvaluated g = g.entries ≡ map (entry_by g) g.origins

-- two grounds have one list of uses and the same definitions
pub record SameText (g h : Ground) : Type 0 where
  pub uses : g.uses ≡ h.uses
  pub defined : g.defined ≡ h.defined
  pub origins : g.origins ≡ h.origins

-- ---- orders

-- what each name stands for is done, where it stands for what constants and modes look up
abbrev pub AllDone : Ground → List ℕ → List Name → Type 0
AllDone g done [] = Unit {0}
AllDone g done (n ∷ ns) = (is_read (origin_of g n) ≡ true → IfSome (number_at g.uses n.at) (Contains done)) × AllDone g done ns

-- what a definition needs is done; a received name needs what it is received from
abbrev pub NeedsDone : Ground → List ℕ → Option Origin → Type 0
NeedsDone g done None = Unit {0}
NeedsDone g done (Some (a_received n count part)) = IfSome (number_at g.uses n.at) (Contains done)
NeedsDone g done (Some o) = AllDone g done (names_needed o)

-- each definition of the rest needs only what is done before it
abbrev pub NeedsEarlier : Ground → List ℕ → List ℕ → Type 0
NeedsEarlier g done [] = Unit {0}
NeedsEarlier g done (d ∷ ds) = NeedsDone g done (slice_get g.origins d) × NeedsEarlier g (d ∷ done) ds

-- all definitions of a ground, each behind those that it needs
pub record IsOrder (g : Ground) (order : List ℕ) : Type 0 where
  pub earlier : NeedsEarlier g [] order
  pub all : (d : ℕ) → d < length g.origins → Contains order d

-- ---- filling a table

-- the same ground with other entries
abbrev pub with_entries : Ground → List Entry → Ground
with_entries g es = record { uses = g.uses; defined = g.defined; origins = g.origins; entries = es }

-- what is known of the definition of a number
abbrev pub entry_at : Ground → Option Origin → Entry
entry_at g None = no_entry
entry_at g (Some o) = entry_by g o

-- a table in which the entries of some numbers have been set, one after the other
abbrev pub filled : Ground → List Entry → List ℕ → List Entry
filled g es [] = es
filled g es (d ∷ ds) = filled g (set es d (entry_at (with_entries g es) (slice_get g.origins d))) ds

-- no number is there twice
abbrev pub EachOnce : List ℕ → List ℕ → Type 0
EachOnce done [] = Unit {0}
EachOnce done (d ∷ ds) = (¬ Contains done d) × EachOnce (d ∷ done) ds

-- ---- the laws

-- two tables of the same definitions are one
abbrev pub OneTableLaw : Type 0
OneTableLaw = (g h : Ground) (order : List ℕ) → SameText g h → IsOrder g order → IsEvaluated g → IsEvaluated h → g.entries ≡ h.entries

-- a table of the right length that is filled in such an order is that of the definitions
abbrev pub FilledLaw : Type 0
FilledLaw = (g : Ground) (es : List Entry) (order : List ℕ) → length es ≡ length g.origins → IsOrder g order → EachOnce [] order → IsEvaluated (with_entries g (filled g es order))
