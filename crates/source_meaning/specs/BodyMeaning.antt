-- What bodies and calls mean.
use Rattle.std.specs.Prelude.{ℕ, zero, suc, ◌+◌, Bool, true, false, List, [], ◌∷◌, ◌++◌, Option, Some, None, slice_get, nat_lt, if◌then◌else◌}
use Rattle.kernel_base.specs.declared.ends.Exc.{Exc}
use Rattle.kernel_base.specs.declared.ends.Exc.TheVariants.{Spacefail}
use Rattle.kernel_base.specs.declared.ends.How.TheVariants.{Raised as RaisedHow}
use Rattle.kernel_base.specs.declared.request.Request.TheVariants.{Enter, Leave}
use Rattle.program_trees.specs.ProgramTree.{BodyRowTree, CheckedTree}
use Rattle.world_model.specs.Session.{Item, Session, tick}
use Rattle.code_types.specs.Places.{names_exception}
use Rattle.code_types.specs.Actions.{most_frames}
use Rattle.source_meaning.specs.Store.{Store, OpenCall, Taken, first_store}
use Rattle.source_meaning.specs.Flow.{Flow, Goes, Raised, Exits, Returned, Stops, Gone, Bound, Meaning, then_do, done, finish, after_tick}
use Rattle.source_meaning.specs.ExprMeaning.{Calls, Setting}
use Rattle.source_meaning.specs.StatementMeaning.{statements_mean, handler_mean, caught, is_open}

-- How a body ends: it has gone through, with an exception that goes out of it, or not. Where the talk stops in it, the calls
-- that are open in it are told, the outermost of them first, and its own store.
pub data Ending : Type 0 where
  Through : Store → Session → Ending
  Out : Exc → Store → Session → Ending
  Halted : List Item → List OpenCall → Store → Ending
  Ended : List Item → Ending
  Unknown : Ending

-- the end of what a body does; an EXIT without its label can't come
abbrev pub close : Flow (Unit {0}) → Ending
close (Goes v store s) = Through store s
close (Raised x store s) = Out x store s
close (Exits k store s) = Through store s
close (Returned store s) = Through store s
close (Stops t inner store) = Halted t inner store
close (Gone t) = Ended t
close Bound = Unknown

-- what each body means, where it is frame number `frames`, with these regions open
abbrev pub Bodies : Type 0
Bodies = ℕ → ℕ → List ℕ → List Taken → Session → Ending

abbrev pub listed_by : Option BodyRowTree → List ℕ
listed_by None = []
listed_by (Some b) = b.listed

-- what a call makes of its body's end: a listed exception is raised at the call, and any other ends the process
abbrev pub at_call : ℕ → Option BodyRowTree → Store → Ending → Flow Store
at_call b o store (Through inner s) = Goes inner store s
at_call b o store (Out x inner s) =
    if names_exception (listed_by o) x
    then Raised x store s
    else finish (RaisedHow x) (record { body = b; store = inner } ∷ []) store s
at_call b o store (Halted t calls inner) = Stops t (record { body = b; store = inner } ∷ calls) store
at_call b o store (Ended t) = Gone t
at_call b o store Unknown = Bound

-- a call in frame number `frames`: SPACEFAIL, or a tick and the body
abbrev pub calls_in : CheckedTree → Bodies → ℕ → List ℕ → Calls
calls_in p bodies frames open_now b ts store s =
    if nat_lt frames most_frames
    then after_tick (tick s) store (λ s1. at_call b (slice_get p.bodies b) store (bodies b (frames + 1) open_now ts s1))
    else Raised Spacefail store s

-- at the end of a critical body its region is left, also before a listed exception goes out
abbrev pub leaving : ℕ → List ℕ → Ending → Ending
leaving r listed (Through store s) = close (done (Leave r) store s)
leaving r listed (Out x store s) =
    if names_exception listed x then close (then_do (done (Leave r) store s) (λ _. Raised x)) else Out x store s
leaving r listed (Halted t inner store) = Halted t inner store
leaving r listed (Ended t) = Ended t
leaving r listed Unknown = Unknown

-- the end of a body behind the Enter of its region, which only gives Done
abbrev pub behind_enter : Flow (Unit {0}) → (Session → Ending) → Ending
behind_enter (Goes v store s) next = next s
behind_enter (Raised x store s) next = Out x store s
behind_enter (Exits k store s) next = Through store s
behind_enter (Returned store s) next = Through store s
behind_enter (Stops t inner store) next = Halted t inner store
behind_enter (Gone t) next = Ended t
behind_enter Bound next = Unknown

-- a body in its region: it is entered where it isn't open
abbrev pub in_region : Option ℕ → List ℕ → List ℕ → Store → Session → (List ℕ → Session → Ending) → Ending
in_region None listed open_now store s inside = inside open_now s
in_region (Some r) listed open_now store s inside =
    if is_open r open_now
    then inside open_now s
    else behind_enter (done (Enter r) store s) (λ s1. leaving r listed (inside (open_now ++ r ∷ []) s1))

-- the region of a critical procedure: one that a region grants
abbrev pub region_if : Bool → Option ℕ → Option ℕ
region_if true r = r
region_if false r = None

abbrev pub critical_region : BodyRowTree → Option ℕ
critical_region b = region_if b.critical b.region

abbrev pub setting_of : BodyRowTree → ℕ → (List ℕ → Calls) → List ℕ → Setting
setting_of b instance calls open_now = record { instance = instance; rows = b.locals; open_now = open_now; calls = calls }

-- the statements of a body with its handler
abbrev pub inside_of : BodyRowTree → ℕ → Setting → Meaning (Unit {0})
inside_of b n w store s = caught (statements_mean w n b.statements store s) (handler_mean w n b.handler)

abbrev pub no_store : Store
no_store = record { locals = []; result = [] }

-- what a body means: in its region, from its first store, under its handler; that there is no such body can't come
abbrev pub body_of : ℕ → (List ℕ → Calls) → ℕ → List ℕ → List Taken → Option BodyRowTree → Session → Ending
body_of instance calls n open_now ts None s = Halted s.trace [] no_store
body_of instance calls n open_now ts (Some b) s =
    in_region (critical_region b) b.listed open_now (first_store b ts) s (λ now s1.
    close (inside_of b n (setting_of b instance calls now) (first_store b ts) s1))

-- calls that nest at most n deep
abbrev pub body_mean : CheckedTree → ℕ → ℕ → Bodies
body_mean p instance zero b frames open_now ts s = Unknown
body_mean p instance (suc n) b frames open_now ts s =
    body_of instance (calls_in p (body_mean p instance n) frames) (suc n) open_now ts (slice_get p.bodies b) s
