-- The law of what names lead to: in the elaborated program of a text a name that is used leads to a row of its mode, where what it names is
-- reached.
use Rattle.std.specs.Prelude.{◌≡◌, ℕ, List, Option, Some, map, option_and_then, slice_get}
use Rattle.chill_tree.specs.declared.tree.name.Name.{Name}
use Rattle.chill_tree.specs.ItemTree.{ProgramTree}
use Rattle.modes.specs.ModeTree.{ModeTree}
use Rattle.checked_program.specs.declared.expr.Base.{Base}
use Rattle.program_trees.specs.ProgramTree.{CheckedTree}
use Rattle.checks_model.specs.Ground.{Ground, entry_of, mode_of_entry, number_at, buffer_element, message_parts}
use Rattle.elaboration_model.specs.Numbering.{Source, Row, Thing, a_local, a_shared, a_message, thing_of, thing_used, buffer_used, event_used}
use Rattle.elaboration_model.specs.Elaborated.{source_of, region_around, locals_of, elaborated}
use Rattle.elaboration_model.specs.Expressions.{base_of}
use Rattle.source_meaning.specs.TypedValues.{Context, IsReached, BaseHas, BufferHas}
use Rattle.source_meaning.specs.TypedStatements.{IsEvent, SignalHas}

-- a local is one of the body around, and a location in a region is named inside it
abbrev pub IsWithin : Source → Context → ℕ → ℕ → Thing → Type 0
IsWithin s ctx body d (a_local b k) = b ≡ body
IsWithin s ctx body d (a_shared k) = (r : Row) → slice_get s.rows d ≡ Some r → IsReached (region_around s.rows r.inside) ctx.region
IsWithin s ctx body d thing = Unit {0}

-- a name that stands in a body
abbrev pub IsNameWithin : Source → Context → ℕ → Name → Type 0
IsNameWithin s ctx body n = (d : ℕ) → number_at s.known.uses n.at ≡ Some d → IsWithin s ctx body d (thing_of s.rows d)

-- a body of the program, by its number
pub record IsInBody (s : Source) (p : CheckedTree) (ctx : Context) (body : ℕ) : Type 0 where
  pub program : ctx.program ≡ p
  pub locals : locals_of s body ≡ Some ctx.rows

-- what a name leads to
pub record NameLeads (s : Source) (ctx : Context) (n : Name) : Type 0 where
  pub base : (m : ModeTree) (b : Base) → mode_of_entry (entry_of s.known n) ≡ Some m → option_and_then base_of (thing_used s n) ≡ Some b → BaseHas ctx b m
  pub buffer : (m : ModeTree) (k : ℕ) → buffer_element s.known n ≡ Some m → buffer_used s n ≡ Some k → BufferHas ctx k m
  pub event : (k : ℕ) → event_used s n ≡ Some k → IsEvent ctx k
  pub signal : (k : ℕ) (ms : List (Option ModeTree)) → thing_used s n ≡ Some (a_message k) → message_parts s.known n ≡ Some ms → (own : List ModeTree) × (SignalHas ctx k own × (ms ≡ map Some own))

abbrev pub NameLeadsLaw : Type 0
NameLeadsLaw = (g : Ground) (t : ProgramTree) (p : CheckedTree) (ctx : Context) (body : ℕ) (n : Name) → elaborated g t ≡ Some p → IsInBody (source_of g t) p ctx body → IsNameWithin (source_of g t) ctx body n → NameLeads (source_of g t) ctx n
