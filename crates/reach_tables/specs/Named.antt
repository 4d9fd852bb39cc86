-- Names that are defined together.
use Rattle.std.specs.Prelude.{ℕ, List, map}
use Rattle.names_model.specs.declared.identifier.Identifier.{Identifier}
use Rattle.names_model.specs.declared.kind.Kind.{Kind}
use Rattle.names_model.specs.declared.definition.Inside.{Inside}
use Rattle.names_model.specs.declared.definition.Definition.{Definition}

-- each name, of one kind, at one place and with so many elements
abbrev pub named : Inside → Kind → ℕ → List Identifier → List Definition
named inside kind elements ns = map (λ n. record { name = n; kind = kind; inside = inside; elements = elements }) ns
