-- The code of actions that hold no statements is a stretch.
use Rattle.std.proofs.Common.{◌≡◌, ◌+◌, ◌≤◌, ℕ, zero, suc, Bool, true, false, List, [], ◌∷◌, ◌++◌, ℤ, length, refl, sym, ap, ◌∙◌, subst, arith, rules, Option, Some, None, slice_get}
use Rattle.std.specs.Prelude.{if◌then◌else◌, nat_lt}
use Rattle.std.proofs.lemmas.List.{append_assoc}
use Rattle.modes.specs.declared.mode.Bounds.{Bounds}
use Rattle.checked_program.specs.declared.expr.Base.{Base}
use Rattle.checked_program.specs.declared.expr.Base.TheVariants.{Shared, Local}
use Rattle.checked_program.specs.declared.expr.Binary.{Binary}
use Rattle.checked_program.specs.declared.expr.Routine.{Routine}
use Rattle.code_types.specs.declared.instr.Instr.{Instr}
use Rattle.code_types.specs.declared.instr.Instr.TheVariants as i
use Rattle.code_types.specs.declared.code.Code.{Code}
use Rattle.program_trees.specs.ExprTree.{ExprTree, ReceivedTree, LocationTree, StartTree, CallTree, count_of, received_count, location_count}
use Rattle.program_trees.specs.StatementTree.{SentTree, to_buffer, signal}
use Rattle.code_scheme.specs.Pieces.{Layout, first_in, contents_code, store_code, again_code, has_offset, offsets_kept, check_code, between_code, between_size, behind_code, behind_size, routine_code, scalars_code, bounds_to_test, bounds_of_operator}
use Rattle.code_scheme.specs.ExprSizes.{expr_size, place_size, received_size, received_sizes, start_size, call_size}
use Rattle.code_scheme.specs.ExprCode.{counts_of, expr_code, place_code, received_code, received_codes, start_code, call_code}
use Rattle.code_scheme.specs.StatementSite.{layout, Standing}
use Rattle.code_scheme.specs.StatementPlain.{offset_of_name, name_code, names_code, keeping_code, declare_code, name_size, names_size, keeping_size, declare_size, set_lowest_code, set_lowest_size, assign_code, assign_size, read_code, read_size, update_test, update_code, update_size, set_result_code, set_result_size, drop_code, dropped_scalars, perform_code, perform_size, drop_routine_code, drop_routine_size, taken_by, start_of_code, delay_code, receiver_code, receiver_size, has_receiver, send_code, send_size}
use Rattle.code_scheme.specs.BodyCode.{heads_of}
use Rattle.scheme_heights.specs.Stretches.{no_outlets, IsStretch}
use Rattle.scheme_heights.specs.Counts.{TakesCounts, CountsFit, ReceivedFits, PlaceFits, StartFits, CallFits}
use Rattle.scheme_heights.specs.StatementCounts.{LowestFits, NumberFits, SomeNumberFits, SentFits, GivenFits}
use Rattle.scheme_heights.proofs.Joining.{join}
use Rattle.scheme_heights.proofs.Parts.{Stretch, sized, end, cons, scalars_stretch, routine_stretch}
use Rattle.scheme_heights.proofs.Operators.{ends, operand_stretch}
use Rattle.scheme_heights.proofs.Locations.{contents_stretch, store_stretch}
use Rattle.scheme_heights.proofs.Expressions.{moved, expr_stretch, received_stretch, all_stretch, place_of_stretch, start_stretch, call_of_stretch}

-- ---- declarations

-- how many scalars the offset of a name has
abbrev name_offset : Base → ℕ
name_offset (Shared l) = 1
name_offset (Local k) = 0

offset_of_stretch : (heads : Code) (body at height : ℕ) (b : Base) → IsStretch heads body no_outlets at height (offset_of_name b) (length (offset_of_name b)) (height + name_offset b)
offset_of_stretch heads body at height (Shared l) = sized 1 refl (cons (omega arith) tt tt refl refl (end (omega arith)))
offset_of_stretch heads body at height (Local k) = sized 0 refl (end (omega arith))

name_stretch : (heads : Code) (body at height : ℕ) (lay : Layout) (b : Base) (n : ℕ) → IsStretch heads body no_outlets at (height + name_offset b + n) (name_code lay b n) 1 height
name_stretch heads body at height lay (Shared l) n = sized 1 refl (cons (omega arith) tt tt refl refl (end (omega arith)))
name_stretch heads body at height lay (Local k) n = sized 1 refl (cons (omega arith) tt tt refl refl (end (omega arith)))

name_length : (b : Base) → name_size b ≡ length (offset_of_name b) + 1
name_length (Shared l) = refl
name_length (Local k) = refl

names_stretch : (heads : Code) (body at height : ℕ) (lay : Layout) (free n : ℕ) (bs : List Base) → IsStretch heads body no_outlets at height (names_code lay free n bs) (names_size bs) height
names_stretch heads body at height lay free n [] = sized 0 refl (end refl)
names_stretch heads body at height lay free n (b ∷ bs) =
    let o = length (offset_of_name b) in
    let p = at + o in
    let named = name_length b in
    let rest = join heads body (p + 1) (height + name_offset b + n) (name_code lay b n) (names_code lay free n bs) 1 (names_size bs) height height (p + 1 + 1) _ refl refl (name_stretch heads body (p + 1) height lay b n) (names_stretch heads body (p + 1 + 1) height lay free n bs) in
    let all : Stretch heads body p (height + name_offset b) (i.Local free n ∷ (name_code lay b n ++ names_code lay free n bs)) height = cons (omega arith) tt tt refl refl (moved refl (omega arith) rest) in
    join heads body at height (offset_of_name b) _ o (1 + (1 + names_size bs)) (height + name_offset b) height p _ refl (omega (arith, named)) (offset_of_stretch heads body at height b) (sized (1 + (1 + names_size bs)) (let c = rest.count in omega (arith, c)) all)

keeping_stretch : (w : Standing) (body at height : ℕ) (bs : List Base) (r : ReceivedTree) → ReceivedFits w.site.program r → IsStretch (heads_of w.site.program) body no_outlets at height (keeping_code w bs r at) (keeping_size bs r) height
keeping_stretch w body at height bs r fits =
    let heads = heads_of w.site.program in
    let p = at + received_size r in
    let rest = names_stretch heads body (p + 1) height (layout w.site) w.free (received_count r) bs in
    let all : Stretch heads body p (height + received_count r) (i.SetLocal w.free (received_count r) ∷ names_code (layout w.site) w.free (received_count r) bs) height = cons (omega arith) tt tt refl refl (moved refl (omega arith) rest) in
    join heads body at height (received_code (layout w.site) w.free r at) _ (received_size r) (suc (names_size bs)) (height + received_count r) height p _ refl refl (received_stretch (layout w.site) body w.free r fits at height) (sized (suc (names_size bs)) (let c = rest.count in omega (arith, c)) all)

pub declare_stretch : (w : Standing) (body at height : ℕ) (bs : List Base) (r : ReceivedTree) → ReceivedFits w.site.program r → IsStretch (heads_of w.site.program) body no_outlets at height (declare_code w bs r at) (declare_size bs r) height
declare_stretch w body at height [] r fits = keeping_stretch w body at height [] r fits
declare_stretch w body at height (b ∷ []) r fits =
    let heads = heads_of w.site.program in
    let o = length (offset_of_name b) in
    let p = at + o in
    let named = name_length b in
    let h = height + name_offset b in
    join heads body at height (offset_of_name b) _ o (received_size r + 1) h height p _ refl (omega (arith, named)) (offset_of_stretch heads body at height b)
    (join heads body p h (received_code (layout w.site) w.free r p) (name_code (layout w.site) b (received_count r)) (received_size r) 1 (h + received_count r) height (p + received_size r) _ refl refl (received_stretch (layout w.site) body w.free r fits p h)
    (name_stretch heads body (p + received_size r) height (layout w.site) b (received_count r)))
declare_stretch w body at height (b ∷ c ∷ bs) r fits = keeping_stretch w body at height (b ∷ c ∷ bs) r fits

lowest_stretch : (heads : Code) (body at height : ℕ) (lay : Layout) (ks : List ℕ) (xs : List ℤ) → length xs ≤ 4294967295 → IsStretch heads body no_outlets at height (set_lowest_code lay ks xs) (set_lowest_size ks xs) height
lowest_stretch heads body at height lay [] xs few = sized 0 refl (end refl)
lowest_stretch heads body at height lay (k ∷ ks) xs few =
    let n = length (scalars_code xs) in
    let p = at + n in
    let rest = lowest_stretch heads body (p + 1) height lay ks xs few in
    let all : Stretch heads body p (height + length xs) (i.SetLocal (first_in (slice_get lay.rows k)) (length xs) ∷ set_lowest_code lay ks xs) height = cons (omega arith) tt tt refl refl (moved refl (omega arith) rest) in
    join heads body at height (scalars_code xs) _ n (1 + set_lowest_size ks xs) (height + length xs) height p _ refl (omega arith) (sized n refl (scalars_stretch heads body at height xs few)) (sized (1 + set_lowest_size ks xs) (let c = rest.count in omega (arith, c)) all)

pub lowest_given_stretch : (heads : Code) (body at height : ℕ) (lay : Layout) (ks : List ℕ) (xs : List ℤ) → LowestFits ks xs → IsStretch heads body no_outlets at height (set_lowest_code lay ks xs) (set_lowest_size ks xs) height
lowest_given_stretch heads body at height lay [] xs fits = sized 0 refl (end refl)
lowest_given_stretch heads body at height lay (k ∷ ks) xs few = lowest_stretch heads body at height lay (k ∷ ks) xs few

-- ---- assignments

pub assign_stretch : (w : Standing) (body at height : ℕ) (l : LocationTree) (r : ReceivedTree) → PlaceFits w.site.program l → ReceivedFits w.site.program r → received_count r ≡ location_count l → IsStretch (heads_of w.site.program) body no_outlets at height (assign_code w l r at) (assign_size l r) height
assign_stretch w body at height l r place fits same =
    let heads = heads_of w.site.program in
    let p = at + place_size l in
    let q = p + received_size r in
    let h = height + offsets_kept l in
    join heads body at height (place_code (layout w.site) w.free l at) _ (place_size l) (received_size r + 1) h height p _ refl refl (place_of_stretch (layout w.site) body w.free l place at height)
    (join heads body p h (received_code (layout w.site) w.free r p) (store_code (layout w.site) l) (received_size r) 1 (h + location_count l) height q _ refl refl (ends (ap (λ (n : ℕ). h + n) same) (received_stretch (layout w.site) body w.free r fits p h))
    (store_stretch heads body q height (layout w.site) l))

again_if : (heads : Code) (body at height : ℕ) (b : Bool) → IsStretch heads body no_outlets at (height + (if b then 1 else 0)) (if b then i.Copy 1 ∷ [] else []) (if b then 1 else 0) (height + (if b then 1 else 0) + (if b then 1 else 0))
again_if heads body at height true = sized 1 refl (cons (omega arith) tt tt refl refl (end (omega arith)))
again_if heads body at height false = sized 0 refl (end (omega arith))

-- the contents of a location above its place
read_stretch : (w : Standing) (body at height : ℕ) (l : LocationTree) → PlaceFits w.site.program l → IsStretch (heads_of w.site.program) body no_outlets at height (read_code w l at) (read_size l) (height + offsets_kept l + location_count l)
read_stretch w body at height l place =
    let heads = heads_of w.site.program in
    let o = offsets_kept l in
    let p = at + place_size l in
    let h = height + o in
    join heads body at height (place_code (layout w.site) w.free l at) _ (place_size l) (o + 1) h (h + location_count l) p _ refl refl (place_of_stretch (layout w.site) body w.free l place at height)
    (join heads body p h (again_code l) (contents_code (layout w.site) l) o 1 (h + o) (h + location_count l) (p + o) _ refl refl (again_if heads body p height (has_offset l))
    (contents_stretch heads body (p + o) h (layout w.site) l))

-- parts of a code joined otherwise
regrouped : {heads : Code} {body at height size next : ℕ} (a b c d : List Instr) → IsStretch heads body no_outlets at height ((a ++ (b ++ c)) ++ d) size next → IsStretch heads body no_outlets at height (a ++ (b ++ (c ++ d))) size next
regrouped {heads = heads} {body = body} {at = at} {height = height} {size = size} {next = next} a b c d stretch = subst (λ (is : List Instr). IsStretch heads body no_outlets at height is size next) (append_assoc a (b ++ c) d ∙ ap (λ (is : List Instr). a ++ is) (append_assoc b c d)) stretch

pub tests_any : (heads : Code) (body at height : ℕ) (o : Option Bounds) → IsStretch heads body no_outlets at (height + 1) (check_code o) (length (check_code o)) (height + 1)
tests_any heads body at height None = sized 0 refl (end refl)
tests_any heads body at height (Some b) = sized 1 refl (cons (omega arith) tt tt refl refl (end (omega arith)))

pub update_stretch : (w : Standing) (body at height : ℕ) (l : LocationTree) (o : Binary) (e : ExprTree) (bounds : Option Bounds) → PlaceFits w.site.program l → CountsFit w.site.program e → TakesCounts o (location_count l) (count_of e) → location_count l ≡ 1
    → IsStretch (heads_of w.site.program) body no_outlets at height (update_code w l o e bounds at) (update_size l o e bounds) height
update_stretch w body at height l o e bounds place fits takes one' =
    let heads = heads_of w.site.program in
    let n = location_count l in
    let h = height + offsets_kept l in
    let p = at + read_size l in
    let b = between_size o bounds in
    let t = length (update_test o bounds) in
    let q = p + (b + (expr_size e + behind_size o)) in
    let here : p + b ≡ at + (read_size l + b) = omega arith in
    let operand = subst (λ (x : ℕ). IsStretch heads body no_outlets p (h + n) (between_code o bounds p (expr_size e) ++ (expr_code (layout w.site) w.free e x ++ behind_code o n)) (b + (expr_size e + behind_size o)) (h + 1)) here (operand_stretch heads body p h o bounds (expr_code (layout w.site) w.free e) (expr_size e) n (count_of e) takes (expr_stretch (layout w.site) body w.free e fits)) in
    let store = ends refl (store_stretch heads body (q + t) height (layout w.site) l) in
    let stored = join heads body q (h + 1) (update_test o bounds) (store_code (layout w.site) l) t 1 (h + 1) height (q + t) (t + 1) refl refl (tests_any heads body q h (bounds_to_test bounds (bounds_of_operator o)))
    (subst (λ (k : ℕ). IsStretch heads body no_outlets (q + t) (h + k) (store_code (layout w.site) l) 1 height) one' store) in
    let behind = join heads body p (h + n) _ _ (b + (expr_size e + behind_size o)) (t + 1) (h + 1) height q (b + (expr_size e + (behind_size o + (t + 1)))) refl (omega arith) operand stored in
    join heads body at height (read_code w l at) _ (read_size l) (b + (expr_size e + (behind_size o + (t + 1)))) (h + n) height p _ refl refl (read_stretch w body at height l place)
    (regrouped (between_code o bounds p (expr_size e)) (expr_code (layout w.site) w.free e (at + (read_size l + b))) (behind_code o n) _ behind)

-- ---- calls and values that are dropped

drop_if : (heads : Code) (body at height n : ℕ) (b : Bool) → nat_lt 0 n ≡ b → IsStretch heads body no_outlets at (height + n) (if b then i.Pop n ∷ [] else []) (length (if b then i.Pop n ∷ [] else [])) height
drop_if heads body at height n true some = sized 1 refl (cons (omega arith) tt tt refl refl (end (omega arith)))
drop_if heads body at height zero false none = sized 0 refl (end (omega arith))
drop_if heads body at height (suc n) false none =
    let h : nat_lt 0 (suc n) ≡ true = search rules in
    let e : true ≡ false = sym h ∙ none in
    absurd (let f : ⊥ = cc in f)

pub perform_stretch : (w : Standing) (body at height : ℕ) (c : CallTree) → CallFits w.site.program (dropped_scalars w.site c) c → IsStretch (heads_of w.site.program) body no_outlets at height (perform_code w c at) (perform_size w.site c) height
perform_stretch w body at height c fits =
    let heads = heads_of w.site.program in
    let n = dropped_scalars w.site c in
    let p = at + call_size c in
    join heads body at height (call_code (layout w.site) w.free c at) (drop_code n) (call_size c) (length (drop_code n)) (height + n) height p _ refl refl (call_of_stretch (layout w.site) body w.free n c fits at height)
    (drop_if heads body p height n (nat_lt 0 n) refl)

-- a value of so many scalars, and an instruction that takes it
pub taken_stretch : (w : Standing) (body at height : ℕ) (e : ExprTree) (instr : Instr) → CountsFit w.site.program e → ((p : ℕ) → IsStretch (heads_of w.site.program) body no_outlets p (height + count_of e) (instr ∷ []) 1 height) → IsStretch (heads_of w.site.program) body no_outlets at height (taken_by w e instr at) (expr_size e + 1) height
taken_stretch w body at height e instr fits takes =
    let p = at + expr_size e in
    join (heads_of w.site.program) body at height (expr_code (layout w.site) w.free e at) (instr ∷ []) (expr_size e) 1 (height + count_of e) height p _ refl refl (expr_stretch (layout w.site) body w.free e fits at height) (takes p)

pub routine_dropped_stretch : (w : Standing) (body at height : ℕ) (r : Routine) (e : ExprTree) → NumberFits w.site.program e → IsStretch (heads_of w.site.program) body no_outlets at height (drop_routine_code w r e at) (drop_routine_size r e) height
routine_dropped_stretch w body at height r e fits =
    let heads = heads_of w.site.program in
    let one' = fits.1 in
    let n = length (routine_code r) in
    let p = at + expr_size e in
    join heads body at height (expr_code (layout w.site) w.free e at) _ (expr_size e) (n + 1) (height + 1) height p _ refl refl (ends (ap (λ (k : ℕ). height + k) one') (expr_stretch (layout w.site) body w.free e fits.0 at height))
    (join heads body p (height + 1) (routine_code r) (i.Pop 1 ∷ []) n 1 (height + 1) height (p + n) _ refl refl (sized n refl (routine_stretch heads body p height r))
    (sized 1 refl (cons (omega arith) tt tt refl refl (end (omega arith)))))

pub start_of_stretch : (w : Standing) (body at height : ℕ) (t : StartTree) → StartFits w.site.program t → IsStretch (heads_of w.site.program) body no_outlets at height (start_of_code w t at) (start_size t + 1) height
start_of_stretch w body at height t fits =
    let p = at + start_size t in
    join (heads_of w.site.program) body at height (start_code (layout w.site) w.free t at) (i.Pop 1 ∷ []) (start_size t) 1 (height + 1) height p _ refl refl (start_stretch (layout w.site) body w.free t fits at height)
    (sized 1 refl (cons (omega arith) tt tt refl refl (end (omega arith))))

-- ---- requests

pub delay_stretch : (heads : Code) (body at height e priority : ℕ) → IsStretch heads body no_outlets at height (delay_code e priority) 4 height
delay_stretch heads body at height e priority = sized 4 refl (cons (omega arith) tt tt refl refl (cons (omega arith) tt tt refl refl (cons (omega arith) tt tt refl refl (cons (omega arith) tt tt refl refl (end (omega arith))))))

abbrev receiver_count : Option ExprTree → ℕ
receiver_count None = 0
receiver_count (Some e) = 1

receiver_stretch : (w : Standing) (body at height : ℕ) (to : Option ExprTree) → SomeNumberFits w.site.program to → IsStretch (heads_of w.site.program) body no_outlets at height (receiver_code w to at) (receiver_size to) (height + receiver_count to)
receiver_stretch w body at height None fits = sized 0 refl (end (omega arith))
receiver_stretch w body at height (Some e) fits = ends (ap (λ (k : ℕ). height + k) fits.1) (expr_stretch (layout w.site) body w.free e fits.0 at height)

signal_stretch : (heads : Code) (body at height n count priority : ℕ) (to : Option ExprTree) → IsStretch heads body no_outlets at (height + count + receiver_count to) (i.Signal n count (has_receiver to) priority ∷ []) 1 height
signal_stretch heads body at height n count priority None = sized 1 refl (cons (omega arith) tt tt refl refl (end (omega arith)))
signal_stretch heads body at height n count priority (Some e) = sized 1 refl (cons (omega arith) tt tt refl refl (end (omega arith)))

pub send_stretch : (w : Standing) (body at height : ℕ) (sent : SentTree) (priority : ℕ) → SentFits w.site.program sent → IsStretch (heads_of w.site.program) body no_outlets at height (send_code w sent priority at) (send_size sent) height
send_stretch w body at height (to_buffer b r) priority fits =
    let p = at + received_size r in
    join (heads_of w.site.program) body at height (received_code (layout w.site) w.free r at) _ (received_size r) 1 (height + received_count r) height p _ refl refl (received_stretch (layout w.site) body w.free r fits at height)
    (sized 1 refl (cons (omega arith) tt tt refl refl (end (omega arith))))
send_stretch w body at height (signal n rs to) priority fits =
    let heads = heads_of w.site.program in
    let p = at + received_sizes rs in
    let q = p + receiver_size to in
    let h = height + counts_of rs in
    join heads body at height (received_codes (layout w.site) w.free rs at) _ (received_sizes rs) (receiver_size to + 1) h height p _ refl refl (all_stretch (layout w.site) body w.free rs fits.0 at height)
    (join heads body p h (receiver_code w to p) _ (receiver_size to) 1 (h + receiver_count to) height q _ refl refl (receiver_stretch w body p h to fits.1)
    (signal_stretch heads body q height n (counts_of rs) priority to))

-- ---- RESULT

pub result_stretch : (w : Standing) (body at height : ℕ) (r : ReceivedTree) → GivenFits w.site r → IsStretch (heads_of w.site.program) body no_outlets at height (set_result_code w r at) (set_result_size r) height
result_stretch w body at height r fits =
    let p = at + received_size r in
    let same = fits.1 in
    join (heads_of w.site.program) body at height (received_code (layout w.site) w.free r at) _ (received_size r) 1 (height + received_count r) height p _ refl refl (received_stretch (layout w.site) body w.free r fits.0 at height)
    (sized 1 refl (cons (omega (arith, same)) tt tt refl refl (end (omega (arith, same)))))
