-- The law that each exception of a text has its number.
use Rattle.std.specs.Prelude.{IsSome}
use Rattle.std.specs.List.{Contains}
use Rattle.chill_tree.specs.declared.tree.name.Name.{Name}
use Rattle.chill_tree.specs.ItemTree.{ProgramTree}
use Rattle.checks_model.specs.Sites.{Site, sites}
use Rattle.elaboration_model.specs.Exceptions.{exceptions_at, own_exceptions, exception_number}

abbrev pub ExceptionsLaw : Type 0
ExceptionsLaw = (t : ProgramTree) (at : Site) (n : Name) → Contains (sites t) at → Contains (exceptions_at at) n → IsSome (exception_number (own_exceptions t) n)
