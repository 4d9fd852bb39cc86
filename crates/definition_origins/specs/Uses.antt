-- Which of two places stands first, and which definitions of a program are those of its text.
use Rattle.std.specs.Prelude.{ℕ, ◌-◌, nat_lt, ◌==◌, Bool, ◌&&◌, ◌||◌, if◌then◌else◌, List, [], ◌∷◌, length, take, Option, Some, None}
use Rattle.chill_base.specs.declared.pos.Pos.{Pos}
use Rattle.names_model.specs.declared.definition.Definition.{Definition}
use Rattle.names_model.specs.declared.names.Resolved.{Resolved}
use Rattle.names_model.specs.Definitions.{predefined}
use Rattle.checks_model.specs.Ground.{same_place}

-- a place stands before another: by line, then by column
abbrev pub precedes : Pos → Pos → Bool
precedes p q = nat_lt p.line q.line || (p.line == q.line && nat_lt p.column q.column)

-- the number of the first row, where it stands at the place
abbrev pub first_at : List Resolved → Pos → Option ℕ
first_at [] at = None
first_at (u ∷ us) at = if same_place u.at at then Some u.to else None

-- the definitions in front of the predefined ones
abbrev pub text_of : List Definition → List Definition
text_of all = take (length all - length predefined) all
