-- What declarations, assignments and the result of a procedure append, part after part.
use Rattle.std.proofs.Common.{◌≡◌, ℕ, suc, ◌+◌, ◌<◌, ◌≤◌, Bool, true, false, List, [], ◌∷◌, ◌++◌, ℤ, length, get_or, drop, refl, sym, ap, subst, ◌∙◌, arith, append_assoc, length-append, Option, Some, None, slice_get, add-one, drop-cons, if◌then◌else◌}
use Rattle.std.proofs.lemmas.List.{at_drop_all}
use Rattle.modes.specs.declared.mode.Bounds.{Bounds}
use Rattle.code_types.specs.declared.code.Code.{Code}
use Rattle.code_types.specs.declared.instr.Instr.{Instr}
use Rattle.code_types.specs.declared.instr.Instr.TheVariants as i
use Rattle.checked_program.specs.declared.expr.Base.{Base}
use Rattle.checked_program.specs.declared.expr.Base.TheVariants.{Shared, Local}
use Rattle.checked_program.specs.declared.expr.Binary.{Binary}
use Rattle.checked_program.specs.declared.expr.Location.{Location, out-Location}
use Rattle.program_trees.specs.ExprTree.{ExprTree, ReceivedTree, LocationTree, location, location_tree, location_count, received_count}
use Rattle.code_scheme.specs.Pieces.{Layout, first_in, has_offset, again_code, offsets_kept, contents_code, store_code, check_code, between_code, between_size, behind_code, behind_size, bounds_to_test, bounds_of_operator, scalars_code}
use Rattle.code_scheme.specs.ExprSizes.{expr_size, received_size, place_size}
use Rattle.code_scheme.specs.ExprCode.{expr_code, received_code, place_code}
use Rattle.code_scheme.specs.StatementSite.{Standing, layout}
use Rattle.code_scheme.specs.StatementPlain.{offset_of_name, name_code, name_size, names_code, names_size, keeping_code, keeping_size, set_lowest_code, set_lowest_size, assign_code, assign_size, read_code, read_size, update_test, update_code, update_size, set_result_code, set_result_size}
use Rattle.expr_gen.specs.Putting.{Appends}
use Rattle.expr_gen.proofs.Appending.{and_then, resized, StillTo, step, done}
use Rattle.expr_gen.proofs.Made.{moved}
use Rattle.expr_gen.proofs.Views.{location_tree-out}

-- ---- declarations

place_at : {A : Type 0} (xs : List A) (k : ℕ) (d : A) → k < length xs → drop k xs ≡ get_or xs k d ∷ drop (k + 1) xs
place_at xs k d h = rw (add-one, drop-cons xs k d h) refl

there : (x y z m n : ℕ) → y ≡ x + m → z ≡ y + n → z ≡ x + (m + n)
there x y z m n e f = omega (arith, e, f)

again_more : (n l : ℕ) → suc n + l ≡ suc n + 0 + l
again_more n l = omega arith

name_sum : (name : Base) (r : ℕ) → length (offset_of_name name) + (r + 1) ≡ r + name_size name
name_sum (Shared l) r = omega arith
name_sum (Local k) r = omega arith

one_name : (name : Base) → length (offset_of_name name) + (1 + 1) ≡ suc (name_size name)
one_name (Shared l) = omega arith
one_name (Local k) = omega arith

-- one name is assigned the value
pub only_told : (lay : Layout) (free : ℕ) (name : Base) (r : ReceivedTree) (n : ℕ) {x y1 y2 z : Code} → n ≡ received_count r
    → Appends (offset_of_name name) (length (offset_of_name name)) x y1
    → Appends (received_code lay free r (length y1.instrs)) (received_size r) y1 y2
    → Appends (name_code lay name n) 1 y2 z
    → Appends (offset_of_name name ++ (received_code lay free r (length x.instrs + length (offset_of_name name)) ++ name_code lay name (received_count r))) (received_size r + name_size name) x z
only_told lay free name r n {x} {y1} {y2} {z} e p q s =
    resized (name_sum name (received_size r))
    (and_then p (and_then (moved (λ at. received_code lay free r at) p.length q) (subst (λ (k : ℕ). Appends (name_code lay name k) 1 y2 z) e s)))

one_less : (r n : ℕ) → r + (1 + n) ≡ r + suc n
one_less r n = omega arith

-- the value is kept for each name
pub several_told : (w : Standing) (names : List Base) (r : ReceivedTree) (n : ℕ) {x y1 y2 z : Code} → n ≡ received_count r
    → Appends (received_code (layout w.site) w.free r (length x.instrs)) (received_size r) x y1
    → Appends (i.SetLocal w.free n ∷ []) 1 y1 y2
    → Appends (names_code (layout w.site) w.free n names) (names_size names) y2 z
    → Appends (keeping_code w names r (length x.instrs)) (keeping_size names r) x z
several_told w names r n {x} {y1} {y2} {z} e p q s =
    let all : Appends (received_code (layout w.site) w.free r (length x.instrs) ++ (i.SetLocal w.free n ∷ names_code (layout w.site) w.free n names)) (received_size r + (1 + names_size names)) x z =
    and_then p (and_then q s) in
    subst (λ (k : ℕ). Appends (received_code (layout w.site) w.free r (length x.instrs) ++ (i.SetLocal w.free k ∷ names_code (layout w.site) w.free k names)) (keeping_size names r) x z) e
    (resized (one_less (received_size r) (names_size names)) all)

-- a name of several is assigned the value that is kept
pub names_turn : {a : ℕ → List Instr} {m : ℕ} (lay : Layout) (free n : ℕ) (xs : List Base) (k : ℕ) (d : Base) {x y y1 y2 z : Code} → k < length xs
    → StillTo a m (λ at. names_code lay free n (drop k xs)) (names_size (drop k xs)) x y
    → Appends (offset_of_name (get_or xs k d)) (length (offset_of_name (get_or xs k d))) y y1
    → Appends (i.Local free n ∷ []) 1 y1 y2
    → Appends (name_code lay (get_or xs k d) n) 1 y2 z
    → StillTo a m (λ at. names_code lay free n (drop (k + 1) xs)) (names_size (drop (k + 1) xs)) x z
names_turn lay free n xs k d {x} {y} {y1} {y2} {z} h p q r s =
    let b : Base = get_or xs k d in
    let one : Appends (offset_of_name b ++ (i.Local free n ∷ name_code lay b n)) (suc (name_size b)) y z = resized (one_name b) (and_then q (and_then r s)) in
    step (λ at. names_code lay free n (drop (k + 1) xs)) (names_size (drop (k + 1) xs))
    (ap (λ (bs : List Base). names_code lay free n bs) (place_at xs k d h) ∙ sym (append_assoc (offset_of_name b) (i.Local free n ∷ name_code lay b n) (names_code lay free n (drop (k + 1) xs))))
    (ap (λ (bs : List Base). names_size bs) (place_at xs k d h)) p one

pub names_told : (lay : Layout) (free n : ℕ) (xs : List Base) (k : ℕ) {x y : Code} → length xs ≤ k
    → StillTo (λ at. names_code lay free n xs) (names_size xs) (λ at. names_code lay free n (drop k xs)) (names_size (drop k xs)) x y
    → Appends (names_code lay free n xs) (names_size xs) x y
names_told lay free n xs k h p = done p (at_drop_all (λ (bs : List Base). names_code lay free n bs) xs k h) (at_drop_all names_size xs k h)

more_than : (n : ℕ) → n + 1 ≡ suc n + 0
more_than n = omega arith

-- a local gets the lowest value
pub lowest_told : (lay : Layout) (k : ℕ) (xs : List ℤ) (first n : ℕ) {x y z : Code} → first_in (slice_get lay.rows k) ≡ first → n ≡ length xs
    → Appends (scalars_code xs) (length (scalars_code xs)) x y
    → Appends (i.SetLocal first n ∷ []) 1 y z
    → Appends (set_lowest_code lay (k ∷ []) xs) (set_lowest_size (k ∷ []) xs) x z
lowest_told lay k xs first n {x} {y} {z} e f p q =
    let own : Appends (i.SetLocal (first_in (slice_get lay.rows k)) (length xs) ∷ []) 1 y z =
    subst (λ (m : ℕ). Appends (i.SetLocal (first_in (slice_get lay.rows k)) m ∷ []) 1 y z) f (subst (λ (m : ℕ). Appends (i.SetLocal m n ∷ []) 1 y z) (sym e) q) in
    resized (more_than (length (scalars_code xs))) (and_then p own)

pub lowest_turn : {a : ℕ → List Instr} {m : ℕ} (lay : Layout) (xs : List ℤ) (locals : List ℕ) (k : ℕ) {x y z : Code} → k < length locals
    → StillTo a m (λ at. set_lowest_code lay (drop k locals) xs) (set_lowest_size (drop k locals) xs) x y
    → Appends (set_lowest_code lay (get_or locals k 0 ∷ []) xs) (set_lowest_size (get_or locals k 0 ∷ []) xs) y z
    → StillTo a m (λ at. set_lowest_code lay (drop (k + 1) locals) xs) (set_lowest_size (drop (k + 1) locals) xs) x z
lowest_turn lay xs locals k h p q =
    step (λ at. set_lowest_code lay (drop (k + 1) locals) xs) (set_lowest_size (drop (k + 1) locals) xs)
    (ap (λ (ks : List ℕ). set_lowest_code lay ks xs) (place_at locals k 0 h)
    ∙ sym (append_assoc (scalars_code xs) (i.SetLocal (first_in (slice_get lay.rows (get_or locals k 0))) (length xs) ∷ []) (set_lowest_code lay (drop (k + 1) locals) xs)))
    (ap (λ (ks : List ℕ). set_lowest_size ks xs) (place_at locals k 0 h) ∙ again_more (length (scalars_code xs)) (set_lowest_size (drop (k + 1) locals) xs)) p q

pub lowests_told : (lay : Layout) (xs : List ℤ) (locals : List ℕ) (k : ℕ) {x y : Code} → length locals ≤ k
    → StillTo (λ at. set_lowest_code lay locals xs) (set_lowest_size locals xs) (λ at. set_lowest_code lay (drop k locals) xs) (set_lowest_size (drop k locals) xs) x y
    → Appends (set_lowest_code lay locals xs) (set_lowest_size locals xs) x y
lowests_told lay xs locals k h p = done p (at_drop_all (λ (ks : List ℕ). set_lowest_code lay ks xs) locals k h) (at_drop_all (λ (ks : List ℕ). set_lowest_size ks xs) locals k h)

-- ---- assignments

pub assign_told : (w : Standing) (l : LocationTree) (r : ReceivedTree) {x y1 y2 z : Code}
    → Appends (place_code (layout w.site) w.free l (length x.instrs)) (place_size l) x y1
    → Appends (received_code (layout w.site) w.free r (length y1.instrs)) (received_size r) y1 y2
    → Appends (store_code (layout w.site) l) 1 y2 z
    → Appends (assign_code w l r (length x.instrs)) (assign_size l r) x z
assign_told w l r p q s = and_then p (and_then (moved (λ at. received_code (layout w.site) w.free r at) p.length q) s)

once_more : (b : Bool) → length (if b then i.Copy 1 ∷ [] else []) ≡ (if b then 1 else 0)
once_more true = refl
once_more false = refl

-- the place and the contents of a target
pub target_told : (w : Standing) (l : LocationTree) {x y1 y2 z : Code}
    → Appends (place_code (layout w.site) w.free l (length x.instrs)) (place_size l) x y1
    → Appends (again_code l) (length (again_code l)) y1 y2
    → Appends (contents_code (layout w.site) l) 1 y2 z
    → Appends (read_code w l (length x.instrs)) (read_size l) x z
target_told w l p q s = and_then p (and_then (resized (once_more (has_offset l)) q) s)

pub count_at : (l : Location) → (out-Location l).count ≡ location_count (location_tree l)
count_at l = sym (ap location_count (location_tree-out l))

pub update_told : (w : Standing) (l : LocationTree) (o : Binary) (e : ExprTree) (bounds tested : Option Bounds) (n : ℕ) {x y1 y2 y3 y4 y5 z : Code}
    → n ≡ location_count l → tested ≡ bounds_to_test bounds (bounds_of_operator o)
    → Appends (read_code w l (length x.instrs)) (read_size l) x y1
    → Appends (between_code o bounds (length y1.instrs) (expr_size e)) (between_size o bounds) y1 y2
    → Appends (expr_code (layout w.site) w.free e (length y2.instrs)) (expr_size e) y2 y3
    → Appends (behind_code o n) (behind_size o) y3 y4
    → Appends (check_code tested) (length (check_code tested)) y4 y5
    → Appends (store_code (layout w.site) l) 1 y5 z
    → Appends (update_code w l o e bounds (length x.instrs)) (update_size l o e bounds) x z
update_told w l o e bounds tested n {x} {y1} {y2} {y3} {y4} {y5} {z} same test p q r s t u =
    let own : Appends (behind_code o (location_count l)) (behind_size o) y3 y4 = subst (λ (k : ℕ). Appends (behind_code o k) (behind_size o) y3 y4) same s in
    let checked : Appends (update_test o bounds) (length (update_test o bounds)) y4 y5 = subst (λ (b : Option Bounds). Appends (check_code b) (length (check_code b)) y4 y5) test t in
    and_then p (and_then (moved (λ at. between_code o bounds at (expr_size e)) p.length q)
    (and_then (moved (λ at. expr_code (layout w.site) w.free e at) (there (length x.instrs) (length y1.instrs) (length y2.instrs) (read_size l) (between_size o bounds) p.length q.length) r)
    (and_then own (and_then checked u))))

-- ---- the result of a procedure

pub result_told : (w : Standing) (r : ReceivedTree) (first n k m : ℕ) {x y z : Code} → first ≡ k → n ≡ m
    → Appends (received_code (layout w.site) w.free r (length x.instrs)) (received_size r) x y
    → Appends (i.SetLocal first n ∷ []) 1 y z
    → Appends (received_code (layout w.site) w.free r (length x.instrs) ++ i.SetLocal k m ∷ []) (received_size r + 1) x z
result_told w r first n k m {x} {y} {z} e f p q =
    and_then p (subst (λ (j : ℕ). Appends (i.SetLocal k j ∷ []) 1 y z) f (subst (λ (j : ℕ). Appends (i.SetLocal j n ∷ []) 1 y z) e q))
