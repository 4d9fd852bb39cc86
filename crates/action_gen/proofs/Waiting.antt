-- What is appended for DELAY CASE and RECEIVE CASE before their alternatives.
use Rattle.std.proofs.Common.{◌≡◌, ℕ, suc, ◌+◌, ◌*◌, ◌≤◌, ◌<◌, Bool, true, List, [], ◌∷◌, ◌++◌, pos, length, Option, Some, None, refl, sym, ap, subst, ◌∙◌, arith, length-append, get_or, drop, add-one, drop-cons}
use Rattle.std.specs.Prelude.{map, option_map, slice_get}
use Rattle.std.specs.declared.alloc.Global.{Global}
use Rattle.std.specs.declared.boxed.Box.{Box}
use Rattle.std.proofs.lemmas.List.{at_drop_all}
use Rattle.std.proofs.lemmas.Option.{slice_get-map}
use Rattle.code_types.specs.declared.code.Code.{Code}
use Rattle.code_types.specs.declared.instr.Instr.{Instr}
use Rattle.code_types.specs.declared.instr.Instr.TheVariants as i
use Rattle.checked_program.specs.declared.expr.Location.{Location}
use Rattle.checked_program.specs.declared.program.LocalRow.{LocalRow}
use Rattle.checked_program.specs.declared.statement.DelayAlternative.{DelayAlternative, out-DelayAlternative}
use Rattle.checked_program.specs.declared.statement.ReceiveAlternative.{ReceiveAlternative, out-ReceiveAlternative}
use Rattle.program_trees.specs.ExprTree.{LocationTree, location_tree}
use Rattle.program_trees.specs.ProgramTree.{LocalRowTree, local_row_tree}
use Rattle.program_trees.specs.StatementTree.{DelayNodes, no_delays, more_delays, ReceiveNodes, no_receives, more_receives, statements_of, set_tree}
use Rattle.code_scheme.specs.Pieces.{capped, keep_code, kept_code, offsets_kept, store_code}
use Rattle.code_scheme.specs.ExprSizes.{place_size}
use Rattle.code_scheme.specs.ExprCode.{place_code}
use Rattle.code_scheme.specs.StatementSite.{Standing, layout}
use Rattle.code_scheme.specs.StatementWaits.{set_place_code, set_place_size, chosen_in, set_code, set_size, events_code, all_events_code, count_of_events, delay_wait_code, delay_wait_size, first_received, scalars_of_row, scalars_received, sources_code, count_of_sources, Receives, receive_instr, nothing_code, receive_wait_code, receive_wait_size}
use Rattle.expr_gen.specs.Putting.{Appends}
use Rattle.expr_gen.specs.Puts.{source_code}
use Rattle.expr_gen.proofs.Appending.{nothing, and_then, resized, StillTo, step, done}
use Rattle.expr_gen.proofs.Made.{moved}
use Rattle.expr_gen.proofs.Rows.{local_found}
use Rattle.action_gen.specs.Trees.{delays_of, receives_of}
use Rattle.action_gen.proofs.Nodes.{delays_at, receives_at}

-- ---- SET

pub no_place : (w : Standing) (set : Option (Box Location Global)) (x : Code) → set ≡ None
    → Appends (set_place_code w (set_tree set) (length x.instrs)) (set_place_size (set_tree set)) x x
no_place w set x e = rw e (nothing x)

pub place_made : (w : Standing) (set : Option (Box Location Global)) (b : Box Location Global) (l m : Location) {x y z : Code} → set ≡ Some b → l ≡ b.value → m ≡ b.value
    → Appends (place_code (layout w.site) w.free (location_tree l) (length x.instrs)) (place_size (location_tree l)) x y
    → Appends (keep_code (location_tree m) w.free) (offsets_kept (location_tree m)) y z
    → Appends (set_place_code w (set_tree set) (length x.instrs)) (set_place_size (set_tree set)) x z
place_made w set b l m {x} {y} {z} e f g p q =
    let place = subst (λ (v : Location). Appends (place_code (layout w.site) w.free (location_tree v) (length x.instrs)) (place_size (location_tree v)) x y) f p in
    let kept = subst (λ (v : Location). Appends (keep_code (location_tree v) w.free) (offsets_kept (location_tree v)) y z) g q in
    rw e (and_then place kept)

pub no_set : (w : Standing) (set : Option (Box Location Global)) (x : Code) → set ≡ None → Appends (set_code w (set_tree set)) (set_size (set_tree set)) x x
no_set w set x e = rw e (nothing x)

pub set_made : (w : Standing) (set : Option (Box Location Global)) (b : Box Location Global) (l m : Location) (by : ℕ) {x y1 y2 z : Code} → set ≡ Some b → l ≡ b.value → m ≡ b.value
    → by ≡ chosen_in w.free (set_tree set) + 1
    → Appends (kept_code (location_tree l) w.free) (offsets_kept (location_tree l)) x y1
    → Appends (i.Local by 1 ∷ []) 1 y1 y2
    → Appends (store_code (layout w.site) (location_tree m)) 1 y2 z
    → Appends (set_code w (set_tree set)) (set_size (set_tree set)) x z
set_made w set b l m by {x} {y1} {y2} {z} e f g there p q r =
    let to : by ≡ chosen_in w.free (Some (location_tree b.value)) + 1 = there ∙ ap (λ (s : Option (Box Location Global)). chosen_in w.free (set_tree s) + 1) e in
    let kept = subst (λ (v : Location). Appends (kept_code (location_tree v) w.free) (offsets_kept (location_tree v)) x y1) f p in
    let stored = subst (λ (v : Location). Appends (store_code (layout w.site) (location_tree v)) 1 y2 z) g r in
    rw e (and_then kept (and_then (moved (λ (k : ℕ). i.Local k 1 ∷ []) to q) stored))

-- ---- events

-- two instructions for each
pub events_length : (k : ℕ) (es : List ℕ) → length (events_code k es) ≡ 2 * length es
events_length k [] = refl
events_length k (e ∷ es) = omega (arith, events_length k es)

pub all_events_length : (k : ℕ) (ds : DelayNodes) → length (all_events_code k ds) ≡ 2 * count_of_events ds
all_events_length k no_delays = refl
all_events_length k (more_delays es ss ds) =
    let both = length-append (events_code k es) (all_events_code (suc k) ds) in
    omega (arith, both, events_length k es, all_events_length (suc k) ds)

number_at : (xs : List ℕ) (k it : ℕ) → k < length xs → it ≡ get_or xs k 0 → drop k xs ≡ it ∷ drop (k + 1) xs
number_at xs k it h e = rw (add-one, drop-cons xs k 0 h, ← e) refl

pub event_turn : {a : ℕ → List Instr} {m : ℕ} (number : ℕ) (xs : List ℕ) (k : ℕ) (it : ℕ) {x y1 y2 z : Code} → k < length xs → it ≡ get_or xs k 0
    → StillTo a m (λ at. events_code number (drop k xs)) (length (events_code 0 (drop k xs))) x y1
    → Appends (i.Thing it ∷ []) 1 y1 y2
    → Appends (i.Push (pos number) ∷ []) 1 y2 z
    → StillTo a m (λ at. events_code number (drop (k + 1) xs)) (length (events_code 0 (drop (k + 1) xs))) x z
event_turn {a} {m} number xs k it {x} {y1} h e p q r =
    let there : StillTo a m (λ at. events_code number (it ∷ drop (k + 1) xs)) (length (events_code 0 (it ∷ drop (k + 1) xs))) x y1 =
    subst (λ (ys : List ℕ). StillTo a m (λ at. events_code number ys) (length (events_code 0 ys)) x y1) (number_at xs k it h e) p in
    step (λ at. events_code number (drop (k + 1) xs)) (length (events_code 0 (drop (k + 1) xs))) refl (omega arith) there (and_then q r)

pub events_done : {a : ℕ → List Instr} {m : ℕ} (number : ℕ) (xs : List ℕ) (k : ℕ) {x y : Code} → length xs ≤ k
    → StillTo a m (λ at. events_code number (drop k xs)) (length (events_code 0 (drop k xs))) x y → Appends (a (length x.instrs)) m x y
events_done number xs k h p =
    done p (at_drop_all (λ (ys : List ℕ). events_code number ys) xs k h) (at_drop_all (λ (ys : List ℕ). length (events_code 0 ys)) xs k h)

pub alternative_turn : {a : ℕ → List Instr} {m : ℕ} (xs : List DelayAlternative) (k : ℕ) (it : DelayAlternative) (es : List ℕ) {x y z : Code} → k < length xs → it ≡ get_or xs k it
    → es ≡ (out-DelayAlternative it).events
    → StillTo a m (λ at. all_events_code k (delays_of (drop k xs))) (length (all_events_code 0 (delays_of (drop k xs)))) x y
    → Appends (events_code k es) (length (events_code 0 es)) y z
    → StillTo a m (λ at. all_events_code (k + 1) (delays_of (drop (k + 1) xs))) (length (all_events_code 0 (delays_of (drop (k + 1) xs)))) x z
alternative_turn {a} {m} xs k it es {x} {y} {z} h e f p q =
    let rest : DelayNodes = delays_of (drop (k + 1) xs) in
    let all : DelayNodes = more_delays (out-DelayAlternative it).events (statements_of (out-DelayAlternative it).actions) rest in
    let there : StillTo a m (λ at. all_events_code k all) (length (all_events_code 0 all)) x y =
    subst (λ (ds : DelayNodes). StillTo a m (λ at. all_events_code k ds) (length (all_events_code 0 ds)) x y) (delays_at xs k it (out-DelayAlternative it).actions h e refl) p in
    let own : Appends (events_code k (out-DelayAlternative it).events) (length (events_code 0 (out-DelayAlternative it).events)) y z =
    subst (λ (ns : List ℕ). Appends (events_code k ns) (length (events_code 0 ns)) y z) f q in
    step (λ at. all_events_code (k + 1) rest) (length (all_events_code 0 rest)) (ap (λ (j : ℕ). events_code k (out-DelayAlternative it).events ++ all_events_code j rest) (omega arith))
    (omega (arith, all_events_length 0 all, all_events_length 0 rest, events_length 0 (out-DelayAlternative it).events)) there own

pub alternatives_done : {a : ℕ → List Instr} {m : ℕ} (n : ℕ) (xs : List DelayAlternative) (k : ℕ) {x y : Code} → length xs ≤ k
    → StillTo a m (λ at. all_events_code n (delays_of (drop k xs))) (length (all_events_code 0 (delays_of (drop k xs)))) x y → Appends (a (length x.instrs)) m x y
alternatives_done n xs k h p =
    done p (at_drop_all (λ (ys : List DelayAlternative). all_events_code n (delays_of ys)) xs k h) (at_drop_all (λ (ys : List DelayAlternative). length (all_events_code 0 (delays_of ys))) xs k h)

-- how many there are, where numbers are held in 32 bits
pub count_turn : (xs : List DelayAlternative) (k : ℕ) (it : DelayAlternative) (many count own new all : ℕ) → k < length xs → it ≡ get_or xs k it
    → many ≡ length (out-DelayAlternative it).events → own ≡ capped many → new ≡ capped (count + own)
    → capped (count + count_of_events (delays_of (drop k xs))) ≡ all → capped (new + count_of_events (delays_of (drop (k + 1) xs))) ≡ all
count_turn xs k it many count own new all h e f g o p =
    let there : count_of_events (delays_of (drop k xs)) ≡ length (out-DelayAlternative it).events + count_of_events (delays_of (drop (k + 1) xs)) = ap count_of_events (delays_at xs k it (out-DelayAlternative it).actions h e refl) in
    omega (arith, there, f, g, o, p)

pub count_done : (xs : List DelayAlternative) (k : ℕ) → length xs ≤ k → count_of_events (delays_of (drop k xs)) ≡ 0
count_done xs k h = at_drop_all (λ (ys : List DelayAlternative). count_of_events (delays_of ys)) xs k h

pub delay_made : (w : Standing) (set : Option LocationTree) (priority : ℕ) (ds : DelayNodes) {x y1 y2 y3 y4 z : Code}
    → Appends (set_place_code w set (length x.instrs)) (set_place_size set) x y1
    → Appends (all_events_code 0 ds) (length (all_events_code 0 ds)) y1 y2
    → Appends (i.Delay (count_of_events ds) priority ∷ []) 1 y2 y3
    → Appends (i.SetLocal (chosen_in w.free set) 2 ∷ []) 1 y3 y4
    → Appends (set_code w set) (set_size set) y4 z
    → Appends (delay_wait_code w set priority ds (length x.instrs)) (delay_wait_size set ds) x z
delay_made w set priority ds p q r s t =
    resized (omega (arith, all_events_length 0 ds)) (and_then p (and_then q (and_then r (and_then s t))))

-- ---- sources

pub sources_length : (rows : List LocalRowTree) (rs : ReceiveNodes) → length (sources_code rows rs) ≡ 3 * count_of_sources rs
sources_length rows no_receives = refl
sources_length rows (more_receives source ks ss rs) = omega (arith, sources_length rows rs)

pub sources_count : (xs : List ReceiveAlternative) → count_of_sources (receives_of xs) ≡ length xs
sources_count [] = refl
sources_count (x ∷ xs) = ap suc (sources_count xs)

pub source_turn : {a : ℕ → List Instr} {m : ℕ} (rows : List LocalRowTree) (xs : List ReceiveAlternative) (k : ℕ) (it : ReceiveAlternative) (source : ℕ) (ks : List ℕ) {x y z : Code}
    → k < length xs → it ≡ get_or xs k it → source ≡ (out-ReceiveAlternative it).source → ks ≡ (out-ReceiveAlternative it).received
    → StillTo a m (λ at. sources_code rows (receives_of (drop k xs))) (length (sources_code rows (receives_of (drop k xs)))) x y
    → Appends (source_code source (first_received rows ks) (scalars_received rows ks)) 3 y z
    → StillTo a m (λ at. sources_code rows (receives_of (drop (k + 1) xs))) (length (sources_code rows (receives_of (drop (k + 1) xs)))) x z
source_turn {a} {m} rows xs k it source ks {x} {y} {z} h e f g p q =
    let rest : ReceiveNodes = receives_of (drop (k + 1) xs) in
    let all : ReceiveNodes = more_receives (out-ReceiveAlternative it).source (out-ReceiveAlternative it).received (statements_of (out-ReceiveAlternative it).actions) rest in
    let there : StillTo a m (λ at. sources_code rows all) (length (sources_code rows all)) x y =
    subst (λ (rs : ReceiveNodes). StillTo a m (λ at. sources_code rows rs) (length (sources_code rows rs)) x y) (receives_at xs k it (out-ReceiveAlternative it).actions h e refl) p in
    let own1 = subst (λ (n : ℕ). Appends (source_code n (first_received rows ks) (scalars_received rows ks)) 3 y z) f q in
    let own2 = subst (λ (ns : List ℕ). Appends (source_code (out-ReceiveAlternative it).source (first_received rows ns) (scalars_received rows ns)) 3 y z) g own1 in
    step (λ at. sources_code rows rest) (length (sources_code rows rest)) refl (omega arith) there own2

pub sources_done : {a : ℕ → List Instr} {m : ℕ} (rows : List LocalRowTree) (xs : List ReceiveAlternative) (k : ℕ) {x y : Code} → length xs ≤ k
    → StillTo a m (λ at. sources_code rows (receives_of (drop k xs))) (length (sources_code rows (receives_of (drop k xs)))) x y → Appends (a (length x.instrs)) m x y
sources_done rows xs k h p =
    done p (at_drop_all (λ (ys : List ReceiveAlternative). sources_code rows (receives_of ys)) xs k h) (at_drop_all (λ (ys : List ReceiveAlternative). length (sources_code rows (receives_of ys))) xs k h)

-- the scalars of the locals that get what is received
pub scalars_there : (rows : List LocalRow) (k : ℕ) (row : LocalRow) → slice_get rows k ≡ Some row → row.count ≡ scalars_of_row (slice_get (map local_row_tree rows) k)
scalars_there rows k row e = sym (ap scalars_of_row (local_found rows k row e))

pub scalars_nowhere : (rows : List LocalRow) (k : ℕ) → slice_get rows k ≡ None → 0 ≡ scalars_of_row (slice_get (map local_row_tree rows) k)
scalars_nowhere rows k e = sym (ap scalars_of_row (slice_get-map local_row_tree rows k ∙ ap (option_map local_row_tree) e))

pub scalars_turn : (rows : List LocalRowTree) (xs : List ℕ) (k it own count new all : ℕ) → k < length xs → it ≡ get_or xs k 0 → own ≡ scalars_of_row (slice_get rows it)
    → new ≡ count + own
    → count + scalars_received rows (drop k xs) ≡ all → new + scalars_received rows (drop (k + 1) xs) ≡ all
scalars_turn rows xs k it own count new all h e f g p =
    let there : scalars_received rows (drop k xs) ≡ scalars_of_row (slice_get rows it) + scalars_received rows (drop (k + 1) xs) =
    ap (λ (ks : List ℕ). scalars_received rows ks) (number_at xs k it h e) in
    omega (arith, f, there, g, p)

pub scalars_done : (rows : List LocalRowTree) (xs : List ℕ) (k count all : ℕ) → length xs ≤ k → count + scalars_received rows (drop k xs) ≡ all → count ≡ all
scalars_done rows xs k count all h p =
    let none : scalars_received rows (drop k xs) ≡ 0 = at_drop_all (λ (ks : List ℕ). scalars_received rows ks) xs k h in
    omega (arith, none, p)

-- where ELSE is written
pub nothing_made : (b : Bool) (chosen count to : ℕ) {x z : Code} → b ≡ true
    → Appends (i.Local chosen 1 ∷ i.Push (pos count) ∷ i.Less 1 ∷ i.Unless to ∷ []) 4 x z → Appends (nothing_code b chosen count to) (length (nothing_code b 0 0 0)) x z
nothing_made b chosen count to e p = rw e p

pub receive_made : (w : Standing) (receives : Receives) (set : Option LocationTree) (rs : ReceiveNodes) (has_else : Bool) (nothing_at : ℕ) {x y1 y2 y3 y4 y5 z : Code}
    → Appends (set_place_code w set (length x.instrs)) (set_place_size set) x y1
    → Appends (sources_code w.site.body.locals rs) (length (sources_code w.site.body.locals rs)) y1 y2
    → Appends (receive_instr receives (count_of_sources rs) has_else ∷ []) 1 y2 y3
    → Appends (i.SetLocal (chosen_in w.free set) 2 ∷ []) 1 y3 y4
    → Appends (nothing_code has_else (chosen_in w.free set) (count_of_sources rs) nothing_at) (length (nothing_code has_else 0 0 0)) y4 y5
    → Appends (set_code w set) (set_size set) y5 z
    → Appends (receive_wait_code w receives set rs has_else nothing_at (length x.instrs)) (receive_wait_size set rs has_else) x z
receive_made w receives set rs has_else nothing_at p q r s t u =
    resized (omega (arith, sources_length w.site.body.locals rs)) (and_then p (and_then q (and_then r (and_then s (and_then t u)))))
