-- Where statements stand, and the numbers of scalars of a body.
use Rattle.std.specs.Prelude.{ℕ, ◌+◌, min, Bool, true, false, List, [], ◌∷◌, length, take, Option, Some, None, if◌then◌else◌}
use Rattle.modes.specs.ModeTree.{ModeTree}
use Rattle.modes.specs.Scalars.{scalars_of}
use Rattle.checked_program.specs.declared.program.Parameter.{Parameter}
use Rattle.checked_program.specs.declared.program.Passing.{Passing}
use Rattle.checked_program.specs.declared.program.Passing.TheVariants.{In, Out, InOut}
use Rattle.program_trees.specs.ProgramTree.{CheckedTree, BodyRowTree, LocalRowTree}
use Rattle.code_scheme.specs.Pieces.{Layout, layout_in}

-- a body of a program
pub record Site : Type 0 where
  pub program : CheckedTree
  pub body : BodyRowTree

-- where an expression stands that stands in a body
abbrev pub layout : Site → Layout
layout site = layout_in site.program site.body

-- Where statements stand: in which body, the first free scratch local, and the places behind the labelled statements around,
-- the innermost one's first.
pub record Standing : Type 0 where
  pub site : Site
  pub free : ℕ
  pub exits : List ℕ

-- the same, with the first so many scratch locals taken
abbrev pub taking : Standing → ℕ → Standing
taking w n = record w { free = w.free + n }

-- the same, within a labelled statement behind which is this place
abbrev pub within_label : Standing → ℕ → Standing
within_label w behind = record w { exits = behind ∷ w.exits }

-- ---- how many scalars stand where in a frame of the body

abbrev pub scalars_in : List LocalRowTree → ℕ
scalars_in [] = 0
scalars_in (row ∷ rows) = row.count + scalars_in rows

-- those of the parameters, which are the first locals
abbrev pub parameter_scalars : BodyRowTree → ℕ
parameter_scalars b = scalars_in (take (length b.parameters) b.locals)

-- those of all locals that the program declares; the result stands behind them
abbrev pub declared_scalars : BodyRowTree → ℕ
declared_scalars b = scalars_in b.locals

-- those of a result; a mode of more than 4,096 scalars, which no text has, is told as one of 4,097
abbrev pub scalars_of_result : Option ModeTree → ℕ
scalars_of_result None = 0
scalars_of_result (Some m) = min (scalars_of m) 4097

abbrev pub result_scalars : BodyRowTree → ℕ
result_scalars b = scalars_of_result b.result

-- the first scratch local, behind the locals and the result
abbrev pub first_free : BodyRowTree → ℕ
first_free b = declared_scalars b + result_scalars b

-- a parameter that a call gives back
abbrev pub is_given_back : Passing → Bool
is_given_back In = false
is_given_back Out = true
is_given_back InOut = true

-- how many scalars a call gives back of its parameters
abbrev pub back_scalars : List Parameter → List LocalRowTree → ℕ
back_scalars [] rows = 0
back_scalars (p ∷ ps) [] = 0
back_scalars (p ∷ ps) (row ∷ rows) = (if is_given_back p.passing then row.count else 0) + back_scalars ps rows

-- the result, and the OUT and INOUT parameters
abbrev pub call_results : BodyRowTree → ℕ
call_results b = result_scalars b + back_scalars b.parameters b.locals
