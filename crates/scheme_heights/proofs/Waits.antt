-- What stands before the alternatives of DELAY CASE and RECEIVE CASE is a stretch.
use Rattle.std.proofs.Common.{◌≡◌, ◌+◌, ◌*◌, ◌≤◌, ℕ, suc, Bool, true, false, List, [], ◌∷◌, ◌++◌, pos, length, refl, inr, arith, Option, Some, None}
use Rattle.code_types.specs.declared.instr.Instr.{Instr}
use Rattle.code_types.specs.declared.instr.Instr.TheVariants as i
use Rattle.code_types.specs.declared.code.Code.{Code}
use Rattle.program_trees.specs.ExprTree.{LocationTree}
use Rattle.program_trees.specs.ProgramTree.{LocalRowTree}
use Rattle.program_trees.specs.StatementTree.{DelayNodes, no_delays, more_delays, ReceiveNodes, no_receives, more_receives}
use Rattle.code_scheme.specs.Pieces.{store_code, keep_code, kept_code, offsets_kept}
use Rattle.code_scheme.specs.ExprSizes.{place_size}
use Rattle.code_scheme.specs.ExprCode.{place_code}
use Rattle.code_scheme.specs.StatementSite.{layout, Standing}
use Rattle.code_scheme.specs.StatementWaits.{set_place_code, set_place_size, chosen_in, set_code, set_size, events_code, all_events_code, count_of_events, delay_wait_code, delay_wait_size, sources_code, count_of_sources, Receives, from_buffers, of_signals, receive_instr, nothing_code, receive_wait_code, receive_wait_size, is_chosen_code}
use Rattle.code_scheme.specs.BodyCode.{heads_of}
use Rattle.scheme_heights.specs.Stretches.{Outlets, no_outlets, IsStretch}
use Rattle.scheme_heights.specs.StatementCounts.{SetPlaceFits}
use Rattle.scheme_heights.specs.Laws.{to_place}
use Rattle.scheme_heights.proofs.Joining.{join}
use Rattle.scheme_heights.proofs.Parts.{Stretch, sized, end, cons}
use Rattle.scheme_heights.proofs.Operators.{ends}
use Rattle.scheme_heights.proofs.Locations.{store_stretch, keep_stretch, kept_stretch}
use Rattle.scheme_heights.proofs.Expressions.{moved, place_of_stretch}
use Rattle.scheme_heights.proofs.Conditions.{join_outlets, before_outlets, branch_stretch}

-- a stretch with outlets before one that has none
pub after_outlets : (heads : Code) (body : ℕ) (outlets : Outlets) (at height : ℕ) (a b : List Instr) (n m h next p size : ℕ) → p ≡ at + n → size ≡ n + m → IsStretch heads body outlets at height a n h → IsStretch heads body no_outlets p h b m next → IsStretch heads body outlets at height (a ++ b) size next
after_outlets heads body outlets at height a b n m h next p size place sum first second = join_outlets heads body outlets no_outlets outlets at height a b n m h next p size place sum (λ to k out. inr out) (λ to k out. absurd out) first second

-- ---- SET

pub set_place_stretch : (w : Standing) (body at height : ℕ) (set : Option LocationTree) → SetPlaceFits w.site.program set → IsStretch (heads_of w.site.program) body no_outlets at height (set_place_code w set at) (set_place_size set) height
set_place_stretch w body at height None fits = sized 0 refl (end refl)
set_place_stretch w body at height (Some l) fits =
    let heads = heads_of w.site.program in
    let p = at + place_size l in
    join heads body at height (place_code (layout w.site) w.free l at) (keep_code l w.free) (place_size l) (offsets_kept l) (height + offsets_kept l) height p _ refl refl (place_of_stretch (layout w.site) body w.free l fits.0 at height) (keep_stretch heads body p height l w.free)

pub set_stretch : (w : Standing) (body at height : ℕ) (set : Option LocationTree) → SetPlaceFits w.site.program set → IsStretch (heads_of w.site.program) body no_outlets at height (set_code w set) (set_size set) height
set_stretch w body at height None fits = sized 0 refl (end refl)
set_stretch w body at height (Some l) fits =
    let heads = heads_of w.site.program in
    let o = offsets_kept l in
    let p = at + o in
    let one' = fits.1 in
    let store = store_stretch heads body (p + 1) height (layout w.site) l in
    let all : Stretch heads body p (height + o) (i.Local (chosen_in w.free (Some l) + 1) 1 ∷ store_code (layout w.site) l) height = cons (omega arith) tt tt refl refl (moved refl (omega (arith, one')) store) in
    join heads body at height (kept_code l w.free) _ o 2 (height + o) height p _ refl refl (kept_stretch heads body at height l w.free) (sized 2 (let c = store.count in omega (arith, c)) all)

-- ---- DELAY CASE

events_stretch : (heads : Code) (body at height k : ℕ) (es : List ℕ) → IsStretch heads body no_outlets at height (events_code k es) (2 * length es) (height + 2 * length es)
events_stretch heads body at height k [] = sized 0 refl (end (omega arith))
events_stretch heads body at height k (e ∷ es) =
    let rest = events_stretch heads body (at + 1 + 1) (height + 2) k es in
    ends (let e : height + 2 + 2 * length es ≡ height + 2 * suc (length es) = omega arith in e) (sized (2 * suc (length es)) (let c = rest.count in omega (arith, c)) (cons (omega arith) tt tt refl refl (cons (omega arith) tt tt refl refl (moved refl (omega arith) rest))))

all_events_stretch : (heads : Code) (body at height k : ℕ) (ds : DelayNodes) → IsStretch heads body no_outlets at height (all_events_code k ds) (2 * count_of_events ds) (height + 2 * count_of_events ds)
all_events_stretch heads body at height k no_delays = sized 0 refl (end (omega arith))
all_events_stretch heads body at height k (more_delays es ss ds) =
    join heads body at height (events_code k es) (all_events_code (suc k) ds) (2 * length es) (2 * count_of_events ds) (height + 2 * length es) (height + 2 * (length es + count_of_events ds)) (at + 2 * length es) _ refl (omega arith) (events_stretch heads body at height k es)
    (ends (omega arith) (all_events_stretch heads body (at + 2 * length es) (height + 2 * length es) (suc k) ds))

pub delay_wait_stretch : (w : Standing) (body at height : ℕ) (set : Option LocationTree) (priority : ℕ) (ds : DelayNodes) → SetPlaceFits w.site.program set → IsStretch (heads_of w.site.program) body no_outlets at height (delay_wait_code w set priority ds at) (delay_wait_size set ds) height
delay_wait_stretch w body at height set priority ds fits =
    let heads = heads_of w.site.program in
    let n = count_of_events ds in
    let p = at + set_place_size set in
    let q = p + 2 * n in
    let given = set_stretch w body (q + 1 + 1) height set fits in
    let all : Stretch heads body q (height + 2 * n) (i.Delay n priority ∷ i.SetLocal (chosen_in w.free set) 2 ∷ set_code w set) height = cons (omega arith) tt tt refl refl (cons (omega arith) tt tt refl refl (moved refl (omega arith) given)) in
    join heads body at height (set_place_code w set at) _ (set_place_size set) (2 * n + (2 + set_size set)) height height p _ refl refl (set_place_stretch w body at height set fits)
    (join heads body p height (all_events_code 0 ds) _ (2 * n) (2 + set_size set) (height + 2 * n) height q _ refl refl (all_events_stretch heads body p height 0 ds)
    (sized (2 + set_size set) (let c = given.count in omega (arith, c)) all))

-- ---- RECEIVE CASE

sources_stretch : (heads : Code) (body at height : ℕ) (rows : List LocalRowTree) (rs : ReceiveNodes) → IsStretch heads body no_outlets at height (sources_code rows rs) (3 * count_of_sources rs) (height + 3 * count_of_sources rs)
sources_stretch heads body at height rows no_receives = sized 0 refl (end (omega arith))
sources_stretch heads body at height rows (more_receives source ks ss rs) =
    let rest = sources_stretch heads body (at + 1 + 1 + 1) (height + 3) rows rs in
    ends (let e : height + 3 + 3 * count_of_sources rs ≡ height + 3 * suc (count_of_sources rs) = omega arith in e)
    (sized (3 * suc (count_of_sources rs)) (let c = rest.count in omega (arith, c)) (cons (omega arith) tt tt refl refl (cons (omega arith) tt tt refl refl (cons (omega arith) tt tt refl refl (moved refl (omega arith) rest)))))

receive_stretch : (heads : Code) (body at height : ℕ) (receives : Receives) (n : ℕ) (has_else : Bool) → IsStretch heads body no_outlets at (height + 3 * n) (receive_instr receives n has_else ∷ []) 1 (height + 2)
receive_stretch heads body at height from_buffers n has_else = sized 1 refl (cons (omega arith) tt tt refl refl (end (omega arith)))
receive_stretch heads body at height of_signals n has_else = sized 1 refl (cons (omega arith) tt tt refl refl (end (omega arith)))

-- where nothing came, if ELSE is written
abbrev pub nothing_outlet : Bool → ℕ → ℕ → Outlets
nothing_outlet false place height = no_outlets
nothing_outlet true place height = to_place place height

nothing_stretch : (heads : Code) (body at height chosen n place : ℕ) (has_else : Bool) → at + length (nothing_code has_else 0 0 0) ≤ place → IsStretch heads body (nothing_outlet has_else place height) at height (nothing_code has_else chosen n place) (length (nothing_code has_else 0 0 0)) height
nothing_stretch heads body at height chosen n place false low = sized 0 refl (end refl)
nothing_stretch heads body at height chosen n place true low =
    before_outlets heads body (to_place place height) at height (i.Local chosen 1 ∷ i.Push (pos n) ∷ i.Less 1 ∷ []) (i.Unless place ∷ []) 3 1 (height + 1) height (at + 3) 4 refl refl
    (sized 3 refl (cons (omega arith) tt tt refl refl (cons (omega arith) tt tt refl refl (cons (omega arith) tt tt refl refl (end (omega arith))))))
    (branch_stretch heads body (at + 3) height place false (omega (arith, low)))

before_nothing : (heads : Code) (body : ℕ) (has_else : Bool) (place at height : ℕ) (a b : List Instr) (n m h next p size : ℕ) → p ≡ at + n → size ≡ n + m → IsStretch heads body no_outlets at height a n h → IsStretch heads body (nothing_outlet has_else place next) p h b m next → IsStretch heads body (nothing_outlet has_else place next) at height (a ++ b) size next
before_nothing heads body has_else place at height a b n m h next p size = before_outlets heads body (nothing_outlet has_else place next) at height a b n m h next p size

pub receive_wait_stretch : (w : Standing) (body at height : ℕ) (receives : Receives) (set : Option LocationTree) (rs : ReceiveNodes) (has_else : Bool) (place : ℕ) → SetPlaceFits w.site.program set → at + receive_wait_size set rs has_else ≤ place
    → IsStretch (heads_of w.site.program) body (nothing_outlet has_else place height) at height (receive_wait_code w receives set rs has_else place at) (receive_wait_size set rs has_else) height
receive_wait_stretch w body at height receives set rs has_else place fits low =
    let heads = heads_of w.site.program in
    let n = count_of_sources rs in
    let c = length (nothing_code has_else 0 0 0) in
    let p = at + set_place_size set in
    let q = p + 3 * n in
    let kept = chosen_in w.free set in
    let given = set_stretch w body (q + 1 + 1 + c) height set fits in
    let behind = after_outlets heads body (nothing_outlet has_else place height) (q + 1 + 1) height (nothing_code has_else kept n place) (set_code w set) c (set_size set) height height (q + 1 + 1 + c) (c + set_size set) refl refl (nothing_stretch heads body (q + 1 + 1) height kept n place has_else (omega (arith, low))) given in
    let keeps : IsStretch heads body no_outlets (q + 1) (height + 2) (i.SetLocal kept 2 ∷ []) 1 height = sized 1 refl (cons (omega arith) tt tt refl refl (end (omega arith))) in
    let taken = before_nothing heads body has_else place (q + 1) (height + 2) (i.SetLocal kept 2 ∷ []) _ 1 (c + set_size set) height height (q + 1 + 1) (1 + (c + set_size set)) refl refl keeps behind in
    let asked = before_nothing heads body has_else place q (height + 3 * n) (receive_instr receives n has_else ∷ []) _ 1 (1 + (c + set_size set)) (height + 2) height (q + 1) (2 + (c + set_size set)) refl (omega arith) (receive_stretch heads body q height receives n has_else) taken in
    before_nothing heads body has_else place at height (set_place_code w set at) _ (set_place_size set) (3 * n + (2 + (c + set_size set))) height height p _ refl refl (set_place_stretch w body at height set fits)
    (before_nothing heads body has_else place p height (sources_code w.site.body.locals rs) _ (3 * n) (2 + (c + set_size set)) (height + 3 * n) height q _ refl refl (sources_stretch heads body p height w.site.body.locals rs) asked)

-- whether an alternative is the chosen one
pub is_chosen_stretch : (heads : Code) (body at height kept k : ℕ) → IsStretch heads body no_outlets at height (is_chosen_code kept k) 3 (height + 1)
is_chosen_stretch heads body at height kept k = sized 3 refl (cons (omega arith) tt tt refl refl (cons (omega arith) tt tt refl refl (cons (omega arith) tt tt refl refl (end (omega arith)))))
