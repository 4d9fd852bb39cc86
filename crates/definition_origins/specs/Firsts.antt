-- The first of the definitions that have one clause: by what is known of it the clause is evaluated once.
use Rattle.std.specs.Prelude.{◌≡◌, ℕ, List, Option, Some, None, slice_get}
use Rattle.definition_origins.specs.declared.origin.Origin.{Origin}
use Rattle.definition_origins.specs.declared.origin.Origin.TheVariants as origins

-- the number of the first definition of the clause, where a clause may define several
abbrev pub first_of : Origin → Option ℕ
first_of (origins.Synonym s f) = Some f
first_of (origins.SynMode d) = None
first_of (origins.NewMode d) = None
first_of (origins.Element e) = None
first_of (origins.Location d f) = Some f
first_of (origins.Parameter m p f) = Some f
first_of (origins.Counter c) = None
first_of (origins.Received a part) = None
first_of (origins.Procedure p) = None
first_of (origins.Process p) = None
first_of (origins.Signal s) = None
first_of (origins.Modulion m) = None
first_of (origins.Predefined p) = None

-- the first of a definition's clause has the very same origin
abbrev pub FirstsAgree : List Origin → Type 0
FirstsAgree os = (k : ℕ) (o : Origin) (f : ℕ) → slice_get os k ≡ Some o → first_of o ≡ Some f → slice_get os f ≡ Some o
