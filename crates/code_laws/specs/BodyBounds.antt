-- Whether each value along what bodies do lies in its own bounds.
use Rattle.std.specs.Prelude.{ℕ, zero, suc, ◌+◌, Bool, true, ◌&&◌, nat_lt, List, [], ◌∷◌, ◌++◌, ℤ, Option, Some, None, slice_get, if◌then◌else◌}
use Rattle.kernel_base.specs.declared.request.Request.TheVariants.{Enter}
use Rattle.kernel_base.specs.declared.answer.Answer.{Answer}
use Rattle.world_model.specs.Session.{Session, session_of, tick}
use Rattle.code_types.specs.Actions.{most_frames}
use Rattle.program_trees.specs.ProgramTree.{BodyRowTree, CheckedTree}
use Rattle.source_meaning.specs.Store.{Store, Taken, first_store}
use Rattle.source_meaning.specs.Flow.{done}
use Rattle.source_meaning.specs.ExprMeaning.{Calls, Setting}
use Rattle.source_meaning.specs.StatementMeaning.{is_open, statements_mean}
use Rattle.source_meaning.specs.BodyMeaning.{calls_in, critical_region, setting_of, body_mean}
use Rattle.source_meaning.specs.Talk.{split_over}
use Rattle.code_laws.specs.OwnBounds.{where_goes, CallsWithin}
use Rattle.code_laws.specs.StatementBounds.{Along, OpenCallsWithin, where_raises, where_goes_on, handler_within, statements_within}

-- Of a body in frame number so many, where these regions are open, with what its parameters begin with: whether each value along
-- what it does lies in its own bounds.
abbrev pub BodiesWithin : Type 0
BodiesWithin = ℕ → ℕ → List ℕ → List Taken → Session → Bool

-- Along a call in frame number `frames`: behind its tick along the body; where there is no room for a frame no body runs.
abbrev pub called_within : BodiesWithin → ℕ → List ℕ → CallsWithin
called_within within frames open_now b ts s = if nat_lt frames most_frames then where_goes_on (tick s) (λ s1. within b (frames + 1) open_now ts s1) else true

-- along the statements of a body, and its handler
abbrev pub inside_within : BodyRowTree → ℕ → Setting → OpenCallsWithin → Along
inside_within b n v c store s = statements_within v c n b.statements store s && where_raises (statements_mean v n b.statements store s) (λ x store1 s1. handler_within v c n b.handler x store1 s1)

-- along a body in its region, where it is entered if it isn't open
abbrev pub in_region_within : Option ℕ → List ℕ → Store → Session → (List ℕ → Session → Bool) → Bool
in_region_within None open_now store s inside = inside open_now s
in_region_within (Some r) open_now store s inside =
    if is_open r open_now then inside open_now s else where_goes (done (Enter r) store s) (λ z store1 s1. inside (open_now ++ r ∷ []) s1)

abbrev pub body_within : ℕ → (List ℕ → Calls) → OpenCallsWithin → ℕ → List ℕ → List Taken → Option BodyRowTree → Session → Bool
body_within instance calls c n open_now ts None s = true
body_within instance calls c n open_now ts (Some b) s =
    in_region_within (critical_region b) open_now (first_store b ts) s (λ now s1.
    inside_within b n (setting_of b instance calls now) c (first_store b ts) s1)

-- Along each body, where calls nest at most so deep.
abbrev pub bodies_within : CheckedTree → ℕ → ℕ → BodiesWithin
bodies_within p instance zero b frames open_now ts s = true
bodies_within p instance (suc n) b frames open_now ts s =
    body_within instance (calls_in p (body_mean p instance n) frames) (called_within (bodies_within p instance n) frames) (suc n) open_now ts (slice_get p.bodies b) s

abbrev pub talk_within_of : CheckedTree → ℕ → ℕ → List ℤ → List Answer → ℕ → Option BodyRowTree → Bool
talk_within_of p instance process xs answers n None = true
talk_within_of p instance process xs answers n (Some b) = bodies_within p instance n process 1 [] (split_over b.locals b.parameters xs) (session_of answers n)

-- Along the talk of an instance that was started on a process with these arguments.
abbrev pub talk_within : CheckedTree → ℕ → ℕ → List ℤ → List Answer → ℕ → Bool
talk_within p instance process xs answers n = talk_within_of p instance process xs answers n (slice_get p.bodies process)
