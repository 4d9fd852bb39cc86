-- The law of the bodies of programs that initialise no region.
use Rattle.std.specs.Prelude.{◌≡◌, ℕ, Some, slice_get}
use Rattle.program_trees.specs.ProgramTree.{BodyRowTree, CheckedTree}
use Rattle.code_types.specs.Agreement.{Agrees}
use Rattle.code_scheme.specs.BodyCode.{code_of}
use Rattle.code_laws.specs.Assembly.{CarriesAll}
use Rattle.code_laws.specs.Talk.{IsCompilable, BodiesLaw}
use Rattle.body_code_laws.specs.Initialisations.{RaisesKnown}
use Rattle.body_code_laws.specs.Items.{NameNoRegion}

-- A program none of whose regions has an initialisation. It may have regions, whose critical procedures enter them.
abbrev pub InitialisesNoRegion : CheckedTree → Type 0
InitialisesNoRegion p = (k : ℕ) (b : BodyRowTree) → slice_get p.bodies k ≡ Some b → NameNoRegion b.statements

-- The bodies of the code of such a program do what they mean, in each instance.
abbrev pub PlainBodiesLaw : Type 0
PlainBodiesLaw = (p : CheckedTree) (instance : ℕ) → InitialisesNoRegion p → IsCompilable p → Agrees (code_of p) → CarriesAll p (code_of p) instance

-- So do all bodies of any program, where each exception that the code of statements raises is one of the program.
abbrev pub BodiesJoined : Type 0
BodiesJoined = RaisesKnown → BodiesLaw
