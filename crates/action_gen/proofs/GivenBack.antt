-- What the way out of a body appends: the parameters that it gives back, the last one lowest.
use Rattle.std.proofs.Common.{◌≡◌, ℕ, ◌+◌, ◌-◌, ◌<◌, ◌≤◌, min, nat_lt, rules, Option, Bool, true, false, List, [], ◌∷◌, ◌++◌, length, get_or, drop, map, refl, sym, ap, subst, ◌∙◌, arith, append_assoc, length-append, add-one, drop-cons, inl, inr, if◌then◌else◌}
use Rattle.std.proofs.lemmas.Bool.{cases_lt}
use Rattle.std.proofs.lemmas.List.{at_drop_all}
use Rattle.std.proofs.lemmas.Option.{slice_get_cases}
use Rattle.code_types.specs.declared.code.Code.{Code}
use Rattle.code_types.specs.declared.instr.Instr.{Instr}
use Rattle.code_types.specs.declared.instr.Instr.TheVariants as i
use Rattle.checked_program.specs.declared.program.Body.{Body}
use Rattle.checked_program.specs.declared.program.LocalRow.{LocalRow}
use Rattle.checked_program.specs.declared.program.Parameter.{Parameter}
use Rattle.program_trees.specs.ProgramTree.{BodyRowTree, LocalRowTree, body_row_tree, local_row_tree}
use Rattle.code_scheme.specs.StatementSite.{is_given_back, declared_scalars, result_scalars}
use Rattle.code_scheme.specs.StatementPlain.{parameters_code, entered_by, leave_region, result_code, end_of_call}
use Rattle.expr_gen.specs.Putting.{Appends}
use Rattle.expr_gen.proofs.Appending.{and_then, resized, nothing}
use Rattle.action_gen.specs.Puts.{given_back, own_back}

counted : (b : Bool) (x : Instr) (n : ℕ) → n + length (if b then x ∷ [] else []) ≡ (if b then 1 else 0) + n
counted true x n = omega arith
counted false x n = omega arith

-- parts, of which each has the length that it says
pub four_told : (a b c : List Instr) (d : Instr) {x y1 y2 y3 z : Code}
    → Appends a (length a) x y1 → Appends b (length b) y1 y2 → Appends c (length c) y2 y3 → Appends (d ∷ []) 1 y3 z
    → Appends (a ++ (b ++ (c ++ d ∷ []))) (length (a ++ (b ++ (c ++ d ∷ [])))) x z
four_told a b c d p q r s =
    resized (sym (length-append a (b ++ (c ++ d ∷ [])) ∙ ap (λ (n : ℕ). length a + n) (length-append b (c ++ d ∷ []) ∙ ap (λ (n : ℕ). length b + n) (length-append c (d ∷ [])))))
    (and_then p (and_then q (and_then r s)))

no_rows : (ps : List Parameter) → parameters_code ps [] ≡ []
no_rows [] = refl
no_rows (p ∷ ps) = refl

-- behind the last one that has a local none is given back
pub none_back : (ps : List Parameter) (ls : List LocalRow) (k : ℕ) → min (length ps) (length ls) ≤ k → given_back (drop k ps) (drop k ls) ≡ []
none_back ps ls k h = elim (cases_lt (length ps) (length ls)) [
  | inl p ↦ at_drop_all (λ (qs : List Parameter). parameters_code qs (map local_row_tree (drop k ls))) ps k (omega (arith, h, p))
  | inr p ↦ at_drop_all (λ (rs : List LocalRow). parameters_code (drop k ps) (map local_row_tree rs)) ls k (omega (arith, h, p)) ∙ no_rows (drop k ps)
]

place_at : {A : Type 0} (xs : List A) (k : ℕ) (d : A) → k < length xs → drop k xs ≡ get_or xs k d ∷ drop (k + 1) xs
place_at xs k d h = rw (add-one, drop-cons xs k d h) refl

one_back : (ps : List Parameter) (ls : List LocalRow) (k : ℕ) (p : Parameter) (l : LocalRow) → k < length ps → k < length ls
    → given_back (drop k ps) (drop k ls) ≡ given_back (drop (k + 1) ps) (drop (k + 1) ls) ++ own_back (get_or ps k p).passing (get_or ls k l)
one_back ps ls k p l h g =
    ap (λ (qs : List Parameter). given_back qs (drop k ls)) (place_at ps k p h)
    ∙ ap (λ (rs : List LocalRow). given_back (get_or ps k p ∷ drop (k + 1) ps) rs) (place_at ls k l g)

-- what is given back has one instruction for each
back_length : (ps : List Parameter) (ls : List LocalRow) (k : ℕ) (p : Parameter) (l : LocalRow) (b : Bool) → k < length ps → k < length ls → is_given_back (get_or ps k p).passing ≡ b
    → length (given_back (drop k ps) (drop k ls)) ≡ (if b then 1 else 0) + length (given_back (drop (k + 1) ps) (drop (k + 1) ls))
back_length ps ls k p l b h g t =
    ap (λ (is : List Instr). length is) (one_back ps ls k p l h g) ∙ length-append (given_back (drop (k + 1) ps) (drop (k + 1) ls)) (own_back (get_or ps k p).passing (get_or ls k l))
    ∙ ap (λ (c : Bool). length (given_back (drop (k + 1) ps) (drop (k + 1) ls)) + length (if c then i.Local (get_or ls k l).first (get_or ls k l).count ∷ [] else [])) t
    ∙ counted b (i.Local (get_or ls k l).first (get_or ls k l).count) (length (given_back (drop (k + 1) ps) (drop (k + 1) ls)))

pub size_at : (ps : List Parameter) (ls : List LocalRow) (k : ℕ) (p : Parameter) (r b : Bool) → k < length ps → k < length ls → r ≡ is_given_back (get_or ps k p).passing → r ≡ b
    → length (given_back (drop k ps) (drop k ls)) ≡ (if b then 1 else 0) + length (given_back (drop (k + 1) ps) (drop (k + 1) ls))
size_at ps ls k p r b h g e t = elim (slice_get_cases ls k).1 [
  | inl q ↦ back_length ps ls k p q.0 b h g (sym e ∙ t)
  | inr q ↦ absurd (omega (arith, g, q.0))
]

pub none_left : (ps : List Parameter) (ls : List LocalRow) (k : ℕ) → min (length ps) (length ls) ≤ k → length (given_back (drop k ps) (drop k ls)) ≡ 0
none_left ps ls k h = ap (λ (is : List Instr). length is) (none_back ps ls k h)

-- ---- the turns of the loops

pub begin_back : (ps : List Parameter) (ls : List LocalRow) (k : ℕ) (x : Code) → min (length ps) (length ls) ≤ k
    → Appends (given_back (drop k ps) (drop k ls)) (length (given_back (drop k ps) (drop k ls))) x x
begin_back ps ls k x h = subst (λ (is : List Instr). Appends is (length is) x x) (sym (none_back ps ls k h)) (nothing x)

pub back_turn : (ps : List Parameter) (ls : List LocalRow) (count turn : ℕ) (p : Parameter) (l : LocalRow) {x y z : Code}
    → turn < count → count ≡ min (length ps) (length ls) → l ≡ get_or ls (count - 1 - turn) l
    → Appends (given_back (drop (count - turn) ps) (drop (count - turn) ls)) (length (given_back (drop (count - turn) ps) (drop (count - turn) ls))) x y
    → Appends (own_back (get_or ps (count - 1 - turn) p).passing l) (length (own_back (get_or ps (count - 1 - turn) p).passing l)) y z
    → Appends (given_back (drop (count - (turn + 1)) ps) (drop (count - (turn + 1)) ls)) (length (given_back (drop (count - (turn + 1)) ps) (drop (count - (turn + 1)) ls))) x z
back_turn ps ls count turn p l {x} {y} {z} h m e a b =
    let k : ℕ = count - 1 - turn in
    let next : count - turn ≡ count - 1 - turn + 1 = omega (arith, h) in
    let now : count - 1 - turn ≡ count - (turn + 1) = omega (arith, h) in
    let in_ps : count - 1 - turn < length ps = omega (arith, h, m) in
    let in_ls : count - 1 - turn < length ls = omega (arith, h, m) in
    let own : Appends (own_back (get_or ps k p).passing (get_or ls k l)) (length (own_back (get_or ps k p).passing (get_or ls k l))) y z =
    subst (λ (r : LocalRow). Appends (own_back (get_or ps k p).passing r) (length (own_back (get_or ps k p).passing r)) y z) e b in
    let before : Appends (given_back (drop (k + 1) ps) (drop (k + 1) ls)) (length (given_back (drop (k + 1) ps) (drop (k + 1) ls))) x y =
    subst (λ (n : ℕ). Appends (given_back (drop n ps) (drop n ls)) (length (given_back (drop n ps) (drop n ls))) x y) next a in
    subst (λ (n : ℕ). Appends (given_back (drop n ps) (drop n ls)) (length (given_back (drop n ps) (drop n ls))) x z) now
    (subst (λ (is : List Instr). Appends is (length is) x z) (sym (one_back ps ls k p l in_ps in_ls))
    (resized (sym (length-append (given_back (drop (k + 1) ps) (drop (k + 1) ls)) (own_back (get_or ps k p).passing (get_or ls k l)))) (and_then before own)))

all_turns : (n k : ℕ) → n ≤ k → n - k ≡ 0
all_turns n k h = omega (arith, h)

pub all_back : (ps : List Parameter) (ls : List LocalRow) (count turn : ℕ) {x y : Code} → count ≤ turn
    → Appends (given_back (drop (count - turn) ps) (drop (count - turn) ls)) (length (given_back (drop (count - turn) ps) (drop (count - turn) ls))) x y
    → Appends (given_back ps ls) (length (given_back ps ls)) x y
all_back ps ls count turn {x} {y} h a = subst (λ (n : ℕ). Appends (given_back (drop n ps) (drop n ls)) (length (given_back (drop n ps) (drop n ls))) x y) (all_turns count turn h) a

-- ---- the end of a call

pub end_told : (row : Body) (region : Option ℕ) (ps : List Parameter) (ls : List LocalRow) {x y1 y2 y3 z : Code}
    → region ≡ entered_by (body_row_tree row) → ps ≡ row.parameters → ls ≡ row.locals
    → Appends (leave_region region) (length (leave_region region)) x y1
    → Appends (result_code (body_row_tree row)) (length (result_code (body_row_tree row))) y1 y2
    → Appends (given_back ps ls) (length (given_back ps ls)) y2 y3
    → Appends (i.Return ∷ []) 1 y3 z
    → Appends (end_of_call (body_row_tree row)) (length (end_of_call (body_row_tree row))) x z
end_told row region ps ls {x} {y1} {y2} {y3} {z} e f g p q r s =
    four_told (leave_region (entered_by (body_row_tree row))) (result_code (body_row_tree row)) (given_back row.parameters row.locals) i.Return
    (subst (λ (o : Option ℕ). Appends (leave_region o) (length (leave_region o)) x y1) e p) q
    (subst (λ (rs : List LocalRow). Appends (given_back row.parameters rs) (length (given_back row.parameters rs)) y2 y3) g (subst (λ (qs : List Parameter). Appends (given_back qs ls) (length (given_back qs ls)) y2 y3) f r)) s

ltb_true_of : (n m : ℕ) → n ≡ m → 0 < n → nat_lt 0 m ≡ true
ltb_true_of n m f h = let p : 0 < m = omega (arith, f, h) in search (rules, p)

ltb_false_of : (n m : ℕ) → n ≡ m → n ≤ 0 → nat_lt 0 m ≡ false
ltb_false_of n m f h = let p : m ≡ 0 = omega (arith, f, h) in rw p refl

pub own_told : (b : BodyRowTree) (first n : ℕ) {x y : Code} → first ≡ declared_scalars b → n ≡ result_scalars b → 0 < n
    → Appends (i.Local first n ∷ []) 1 x y → Appends (result_code b) (length (result_code b)) x y
own_told b first n {x} {y} e f h p =
    let some : nat_lt 0 (result_scalars b) ≡ true = ltb_true_of n (result_scalars b) f h in
    subst (λ (c : Bool). Appends (if c then i.Local (declared_scalars b) (result_scalars b) ∷ [] else []) (length (if c then i.Local (declared_scalars b) (result_scalars b) ∷ [] else [])) x y) (sym some)
    (subst (λ (k : ℕ). Appends (i.Local (declared_scalars b) k ∷ []) 1 x y) f (subst (λ (k : ℕ). Appends (i.Local k n ∷ []) 1 x y) e p))

pub none_told : (b : BodyRowTree) (n : ℕ) (x : Code) → n ≡ result_scalars b → n ≤ 0 → Appends (result_code b) (length (result_code b)) x x
none_told b n x f h =
    let none : nat_lt 0 (result_scalars b) ≡ false = ltb_false_of n (result_scalars b) f h in
    subst (λ (c : Bool). Appends (if c then i.Local (declared_scalars b) (result_scalars b) ∷ [] else []) (length (if c then i.Local (declared_scalars b) (result_scalars b) ∷ [] else [])) x x) (sym none) (nothing x)
