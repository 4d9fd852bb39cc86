-- What each definition waits for, by numbers: the first definition of its clause, or what the names stand for that what is known
-- of it depends on.
use Rattle.std.specs.Prelude.{◌≡◌, ◌<◌, ℕ, suc, ◌==◌, Bool, true, false, ◌||◌, if◌then◌else◌, List, [], ◌∷◌, ◌++◌, length, Option, Some, None, slice_get}
use Rattle.std.specs.List.{Contains}
use Rattle.chill_base.specs.declared.pos.Pos.{Pos}
use Rattle.names_model.specs.declared.names.Resolved.{Resolved}
use Rattle.names_laws.specs.Rising.{Rise, use_places}
use Rattle.checks_model.specs.Ground as model
use Rattle.checks_model.specs.Ground.{Ground, a_received, a_predefined, number_at}
use Rattle.table_laws.specs.Names.{names_needed}
use Rattle.table_laws.specs.Frames.{is_read}
use Rattle.definition_origins.specs.declared.origin.Origin.{Origin}
use Rattle.definition_origins.specs.OriginTrees.{origin_tree, origin_trees}
use Rattle.definition_order.specs.Places.{places_of}
use Rattle.definition_origins.specs.Firsts.{first_of, FirstsAgree}

abbrev pub is_predefined : model.Origin → Bool
is_predefined (a_predefined p) = true
is_predefined _ = false

-- what constants and modes look up, and what is predefined
abbrev pub is_asked_for : model.Origin → Bool
is_asked_for t = is_read (Some t) || is_predefined t

-- Whether a definition waits for what one of its names stands for: for what constants and modes look up, and for what is
-- predefined; a received name for whatever it is received from.
abbrev pub waits_for : model.Origin → model.Origin → Bool
waits_for (a_received n count part) used = true
waits_for t used = is_asked_for used

abbrev pub waited_there : model.Origin → ℕ → Option model.Origin → List ℕ
waited_there t d None = []
waited_there t d (Some used) = if waits_for t used then d ∷ [] else []

abbrev pub number_waited : List model.Origin → model.Origin → Option ℕ → List ℕ
number_waited ts t None = []
number_waited ts t (Some d) = waited_there t d (slice_get ts d)

-- the numbers that a definition waits for, by the places of its names
abbrev pub numbers_waited : List Resolved → List model.Origin → model.Origin → List Pos → List ℕ
numbers_waited us ts t [] = []
numbers_waited us ts t (at ∷ ats) = number_waited ts t (number_at us at) ++ numbers_waited us ts t ats

unfoldable pub waited : List Resolved → List model.Origin → model.Origin → List ℕ
waited us ts t = numbers_waited us ts t (places_of (names_needed t))

-- the first definition of the clause, where that is another
abbrev pub other_first : ℕ → Option ℕ → Option ℕ
other_first k None = None
other_first k (Some f) = if f == k then None else Some f

-- A definition waits for the first of its clause alone, where that is another, since that one waits for all that the clause needs;
-- so a long clause with many names isn't gone through for each of them.
abbrev pub first_or : Option ℕ → List ℕ → List ℕ
first_or None ds = ds
first_or (Some f) ds = f ∷ []

abbrev pub needs_at : List Resolved → List model.Origin → ℕ → Origin → List ℕ
needs_at us ts k o = first_or (other_first k (first_of o)) (waited us ts (origin_tree o))

-- what the definitions from a number on wait for, among all that there are
abbrev pub needs_from : List Resolved → List model.Origin → ℕ → List Origin → List (List ℕ)
needs_from us ts k [] = []
needs_from us ts k (o ∷ os) = needs_at us ts k o ∷ needs_from us ts (suc k) os

abbrev pub needs_in : List Resolved → List Origin → List (List ℕ)
needs_in us os = needs_from us (origin_trees os) 0 os

-- a ground has these names and origins: the places of the uses rise, each stands for a definition, and each definition of a
-- clause tells the first of them
pub record IsGroundWith (g : Ground) (us : List Resolved) (os : List Origin) : Type 0 where
  pub uses : g.uses ≡ us
  pub origins : g.origins ≡ origin_trees os
  pub rise : Rise (use_places us)
  pub within : (u : Resolved) → Contains us u → u.to < length os
  pub firsts : FirstsAgree os
