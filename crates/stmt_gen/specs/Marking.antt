-- Sets of exceptions by a mark for each number.
use Rattle.std.specs.Prelude.{◌≡◌, ℕ, ◌<◌, ◌||◌, ◌==◌, nat_lt, Bool, false, List, length, get_or, filter, [], ◌∷◌, if◌then◌else◌}
use Rattle.std.specs.List.{list_any}
use Rattle.code_types.specs.declared.instr.Instr.{Instr}
use Rattle.checked_program.specs.declared.program.Checked.{Checked}
use Rattle.program_trees.specs.ProgramTree.{checked_tree}
use Rattle.code_scheme.specs.BodyItems.{raises, is_among, numbers_from}

-- the number has a mark that is set
abbrev pub has_mark : List Bool → ℕ → Bool
has_mark marks x = get_or marks x false

-- marks that are set for what was marked before, and for what passes the test; a number that has none isn't marked
pub record MarksMore (test : ℕ → Bool) (old new : List Bool) : Type 0 where
  pub marks : (x : ℕ) → x < length old → has_mark new x ≡ (has_mark old x || test x)
  pub size : length new ≡ length old

-- one number, several, those that an instruction raises, and those that some of these do
abbrev pub MarksOne : ℕ → List Bool → List Bool → Type 0
MarksOne number old new = MarksMore (λ x. number == x) old new

abbrev pub MarksAll : List ℕ → List Bool → List Bool → Type 0
MarksAll numbers old new = MarksMore (λ x. is_among x numbers) old new

abbrev pub MarksRaised : Checked → Instr → List Bool → List Bool → Type 0
MarksRaised program instr old new = MarksMore (λ x. raises (checked_tree program) x instr) old new

abbrev pub MarksAllRaised : Checked → List Instr → List Bool → List Bool → Type 0
MarksAllRaised program instrs old new = MarksMore (λ x. list_any (raises (checked_tree program) x) instrs) old new

-- so many marks, of which none is set
pub record HasNoMark (count : ℕ) (all : List Bool) : Type 0 where
  pub marks : (x : ℕ) → has_mark all x ≡ false
  pub size : length all ≡ count

-- so many marks, of which those of the first numbers are set
pub record MarksBelow (few count : ℕ) (all : List Bool) : Type 0 where
  pub marks : (x : ℕ) → x < count → has_mark all x ≡ nat_lt x few
  pub size : length all ≡ count

-- the numbers that are marked, rising
abbrev pub marked_in : List Bool → List ℕ
marked_in marks = filter (has_mark marks) (numbers_from 0 (length marks))

abbrev pub where_marked : Bool → ℕ → List ℕ
where_marked is_marked x = if is_marked then x ∷ [] else []
