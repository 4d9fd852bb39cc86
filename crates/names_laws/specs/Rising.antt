-- The laws of the places of uses and of definitions: they rise, as those of the tokens do.
use Rattle.std.specs.Prelude.{◌≡◌, ◌<◌, ◌⊎◌, ℕ, List, [], ◌∷◌, map}
use Rattle.chill_base.specs.declared.pos.Pos.{Pos}
use Rattle.chill_tree.specs.declared.token.Token.{Token}
use Rattle.chill_tree.specs.ItemTree.{ProgramTree}
use Rattle.rules_model.specs.TokensCut.{AreTokensOf}
use Rattle.rules_model.specs.ItemGrammar.{IsTreeOf}
use Rattle.names_model.specs.declared.names.Resolved.{Resolved}
use Rattle.names_model.specs.declared.definition.Definition.{Definition}
use Rattle.names_model.specs.Definitions.{text_definitions}
use Rattle.names_model.specs.Resolving.{names_of, level_of}

-- a place stands before another: by line, then by column
abbrev pub Precedes : Pos → Pos → Type 0
Precedes p q = (p.line < q.line) ⊎ ((p.line ≡ q.line) × (p.column < q.column))

-- a place stands before each of these
abbrev pub PrecedesEach : Pos → List Pos → Type 0
PrecedesEach p [] = Unit {0}
PrecedesEach p (q ∷ qs) = Precedes p q × PrecedesEach p qs

-- each place stands before all those behind it
abbrev pub Rise : List Pos → Type 0
Rise [] = Unit {0}
Rise (p ∷ ps) = PrecedesEach p ps × Rise ps

abbrev pub token_places : List Token → List Pos
token_places = map (λ t. t.at)

abbrev pub use_places : List Resolved → List Pos
use_places = map (λ u. u.at)

abbrev pub definition_places : List Definition → List Pos
definition_places = map (λ d. d.name.at)

-- The places of the tokens of a text rise.
abbrev pub RisingTokensLaw : Type 0
RisingTokensLaw = (text : List ℕ) (tokens : List Token) → AreTokensOf text tokens → Rise (token_places tokens)

-- The places of the uses of a program rise where those of its tokens do.
abbrev pub RisingUsesLaw : Type 0
RisingUsesLaw = (tokens : List Token) (tree : ProgramTree) → Rise (token_places tokens) → IsTreeOf tokens tree → Rise (use_places (names_of (level_of tree)).uses)

-- The places of the definitions of a program, those of the elements of its SETs among them, rise where those of its tokens do.
abbrev pub RisingDefinitionsLaw : Type 0
RisingDefinitionsLaw = (tokens : List Token) (tree : ProgramTree) → Rise (token_places tokens) → IsTreeOf tokens tree → Rise (definition_places (text_definitions (level_of tree)))
