-- The law of the rows of uses: what the list of the uses of a program has for each use.
use Rattle.std.specs.Prelude.{◌≡◌, ℕ, List, [], ◌∷◌, ◌++◌, flat_map, Some}
use Rattle.std.specs.List.{Contains}
use Rattle.chill_base.specs.declared.pos.Pos.{Pos}
use Rattle.chill_tree.specs.declared.token.Token.{Token}
use Rattle.chill_tree.specs.ItemTree.{ProgramTree}
use Rattle.rules_model.specs.ItemGrammar.{IsTreeOf}
use Rattle.names_model.specs.declared.identifier.Identifier.{Identifier}
use Rattle.names_model.specs.declared.names.Resolved.{Resolved}
use Rattle.names_model.specs.declared.part.Mention.{Mention}
use Rattle.names_model.specs.declared.part.Mention.TheVariants.{Use, Argument, Element}
use Rattle.names_model.specs.Parts.{PartTree, PartNodes, define, mention, seize, seize_all, grant, grant_all, stray, modulion, routine, block}
use Rattle.names_model.specs.Definitions.{text_definitions}
use Rattle.names_model.specs.Seeing.{outermost, sees}
use Rattle.names_model.specs.NameRules.{Node, nodes}
use Rattle.names_model.specs.Resolving.{broken_names, names_of, level_of}
use Rattle.names_laws.specs.Rising.{Rise, token_places}
use Rattle.checks_model.specs.Ground.{number_at}

-- an element of a SET is defined where it is mentioned, and every other name is used
abbrev pub used_in_mention : Mention → List Identifier
used_in_mention (Use n need) = n ∷ []
used_in_mention (Argument n callee) = n ∷ []
used_in_mention (Element n) = []

abbrev pub used_in_mentions : List Mention → List Identifier
used_in_mentions ms = flat_map used_in_mention ms

-- the names that a part uses in the reach in which it stands
abbrev pub used_in : PartTree → List Identifier
used_in (define c) = used_in_mentions c.text
used_in (mention m) = used_in_mention m
used_in (routine n kind params result size ps) = flat_map (λ c. used_in_mentions c.text) params ++ used_in_mentions result
used_in (seize n) = []
used_in (seize_all at) = []
used_in (grant n) = []
used_in (grant_all at) = []
used_in (stray n) = []
used_in (modulion n region size ps) = []
used_in (block size ps) = []

-- a name is used at a node of the parts of a program
pub record IsUsedAt (ps : PartNodes) (k : Node) (n : Identifier) : Type 0 where
  pub is_node : Contains (nodes (outermost ps) 0 ps) k
  pub is_used : Contains (used_in k.part) n

abbrev pub uses_of : ProgramTree → List Resolved
uses_of t = (names_of (level_of t)).uses

-- the node's reach sees just one definition of a name
abbrev pub SeesJust : ProgramTree → Node → Identifier → ℕ → Type 0
SeesJust t k n d = sees (text_definitions (level_of t)) k.reach n.spelling ≡ d ∷ []

-- The one definition that the reach sees in which a name is used stands in the list of the uses, at the place of the name.
pub record HasItsRow (t : ProgramTree) (k : Node) (n : Identifier) : Type 0 where
  pub number : ℕ
  pub is_seen : SeesJust t k n number
  pub has_row : number_at (uses_of t) n.at ≡ Some number

-- A number at a place in the list of the uses is of a name that is used there, and is the one definition that its reach sees.
pub record IsRowOf (t : ProgramTree) (at : Pos) (d : ℕ) : Type 0 where
  pub node : Node
  pub name : Identifier
  pub is_there : name.at ≡ at
  pub is_used : IsUsedAt (level_of t) node name
  pub is_seen : SeesJust t node name d

-- the tokens make the program, whose names break no rule
pub record IsResolved (tokens : List Token) (t : ProgramTree) : Type 0 where
  pub rise : Rise (token_places tokens)
  pub is_tree : IsTreeOf tokens t
  pub names : broken_names (level_of t) ≡ []

abbrev pub EachUseLaw : Type 0
EachUseLaw = (tokens : List Token) (t : ProgramTree) (k : Node) (n : Identifier) → IsResolved tokens t → IsUsedAt (level_of t) k n → HasItsRow t k n

abbrev pub EachRowLaw : Type 0
EachRowLaw = (tokens : List Token) (t : ProgramTree) (at : Pos) (d : ℕ) → IsResolved tokens t → number_at (uses_of t) at ≡ Some d → IsRowOf t at d
