-- Traces that begin others, and what an item adds to one.
use Rattle.std.proofs.Common.{◌≡◌, ◌+◌, suc, List, [], ◌∷◌, ◌++◌, length, refl, sym, ap, ◌∙◌, append_assoc, append-nil, length-append}
use Rattle.kernel_base.specs.declared.request.Request.{Request}
use Rattle.world_model.specs.Session.{Item, Tick, Ask}
use Rattle.code_types.specs.Runs.{Begins, ticks_in}
use Rattle.run_laws.proofs.OpenRegions.{asks_in, asks_in-append}

pub begins_same : (t : List Item) → Begins t t
begins_same t = ([], sym (append-nil t))

pub begins_on : (a b c : List Item) → Begins a b → Begins b c → Begins a c
begins_on a b c (xs, e) (ys, f) = (xs ++ ys, f ∙ (ap (λ (t : List Item). t ++ ys) e ∙ append_assoc a xs ys))

pub begins_more : (a b : List Item) (item : Item) → Begins a b → Begins a (b ++ item ∷ [])
begins_more a b item is = begins_on a b (b ++ item ∷ []) is (item ∷ [], refl)

pub ticks_tick : (trace : List Item) → ticks_in (trace ++ Tick ∷ []) ≡ suc (ticks_in trace)
ticks_tick [] = refl
ticks_tick (Tick ∷ items) = ap suc (ticks_tick items)
ticks_tick (Ask request ∷ items) = ticks_tick items

pub ticks_ask : (trace : List Item) (request : Request) → ticks_in (trace ++ Ask request ∷ []) ≡ ticks_in trace
ticks_ask [] request = refl
ticks_ask (Tick ∷ items) request = ap suc (ticks_ask items request)
ticks_ask (Ask other ∷ items) request = ticks_ask items request

pub asks_tick : (trace : List Item) → length (asks_in (trace ++ Tick ∷ [])) ≡ length (asks_in trace)
asks_tick trace = ap length (asks_in-append trace (Tick ∷ []) ∙ append-nil (asks_in trace))

pub asks_ask : (trace : List Item) (request : Request) → length (asks_in (trace ++ Ask request ∷ [])) ≡ length (asks_in trace) + 1
asks_ask trace request = ap length (asks_in-append trace (Ask request ∷ [])) ∙ length-append (asks_in trace) (request ∷ [])
