-- What the law of expressions needs that holds no expression.
use Rattle.std.proofs.Common.{◌≡◌, ℕ, ◌+◌, ◌-◌, ◌≤◌, le-leb, if◌then◌else◌, Bool, true, false, ◌&&◌, List, [], ◌∷◌, ◌++◌, ℤ, pos, ◌+ℤ◌, int_le, length, take, drop, Option, Some, None, slice_get, refl, sym, ap, ◌∙◌, subst, arith, append_assoc, length-append, length-take-le, length-drop, ◌⊎◌, inl, inr}
use Rattle.std.proofs.Math.Seq.{take-append_seam, drop-append_seam}
use Rattle.std.proofs.lemmas.Int.{ints}
use Rattle.kernel_base.specs.declared.ends.Exc.TheVariants.{Rangefail}
use Rattle.world_model.specs.Session.{Session}
use Rattle.world_model.specs.Lists.{scalars_at}
use Rattle.modes.specs.declared.mode.Bounds.{Bounds}
use Rattle.modes.specs.Bounds.{count_between}
use Rattle.modes.specs.Scalars.{numbers_of}
use Rattle.checked_program.specs.declared.expr.Base.{Base}
use Rattle.checked_program.specs.declared.expr.Binary.{Binary}
use Rattle.checked_program.specs.declared.expr.Binary.TheVariants.{AndIf, OrIf}
use Rattle.program_trees.specs.ExprTree.{ExprTree, expr, PartNodes, no_parts, field, element, location}
use Rattle.scalar_operators.specs.Numbers.{is_int, least_int, greatest_int}
use Rattle.scalar_operators.specs.Powersets.{union, span_of}
use Rattle.scalar_operators.specs.Members.{union_of, span_in}
use Rattle.code_types.specs.declared.instr.Instr.{Instr}
use Rattle.code_types.specs.declared.instr.Instr.TheVariants as i
use Rattle.code_types.specs.declared.code.Handler.{Handler}
use Rattle.code_types.specs.Operands.{part_of, offset_of}
use Rattle.code_types.specs.Actions.{Pushes, at_offset, numbers_or, in_frame, with_one}
use Rattle.code_types.specs.Steps.{Run}
use Rattle.source_meaning.specs.Store.{Store}
use Rattle.source_meaning.specs.Flow.{Flow, Goes, Raised, Exits, Returned, Stops, Gone, Bound, Meaning, then_do}
use Rattle.source_meaning.specs.Operators.{one, width_of, with_span, takes_second}
use Rattle.source_meaning.specs.ExprMeaning.{Setting, tested, expr_mean, offset_mean}
use Rattle.code_scheme.specs.Pieces.{Layout, bounds_to_test, bounds_of_value, check_code, member_code, has_index, first_of_parts, needs_offset}
use Rattle.code_scheme.specs.ExprSizes.{indices_size, place_size}
use Rattle.code_scheme.specs.ExprCode.{cut_code, place_code, indices_code}
use Rattle.follow_laws.specs.Follows.{HasAt, Around, here, Holds, GetsTo, ComesBy, Follows, always, HoldsWith, on_top, IsLong, action_in}
use Rattle.code_laws.specs.InRange.{AreMembers, OperandsFit, BoundsFit, IsOffset}
use Rattle.code_laws.specs.OwnBounds.{where_goes, lies_in, CallsWithin, expr_within}
use Rattle.follow_laws.proofs.Running.{has_front, has_back, after, comes}
use Rattle.follow_laws.proofs.Requesting.{none_takes}
use Rattle.follow_laws.proofs.Instructions.{pushes_by, puts_on, renamed, check_by, offset_is}
use Rattle.code_laws.proofs.Values.{both_true}
use Rattle.code_laws.proofs.BetweenRuns.{untested, tested_is, plus_run}
use Rattle.code_laws.proofs.PlaceRuns.{IsPlace, place_stack, fields_mean, offset_stack, stays_first, index_first, needs_when, LeadsTo, as_place}

-- ---- shapes

-- the same outcome, told with another stack and another fact
reshaped_comes : {A : Type 0} (w : Around) (m : Run) (lo hi : ℕ) (rows : List Handler) (to : ℕ) (stack stack' : A → List ℤ) (Q Q' : A → Store → List ℤ → Type 0) (o : Flow A)
    → ((v : A) (store : Store) (locals : List ℤ) → Q v store locals → (stack v ≡ stack' v) × Q' v store locals)
    → ComesBy w m lo hi rows (always to) stack Q o → ComesBy w m lo hi rows (always to) stack' Q' o
reshaped_comes w m lo hi rows to stack stack' Q Q' (Goes v store s) f c =
    let q = f v store c.locals c.holds in
    record { locals = c.locals; holds = q.1; by = subst (λ (l : List ℤ). GetsTo w.code m (here w to l c.locals s)) q.0 c.by }
reshaped_comes w m lo hi rows to stack stack' Q Q' (Raised x store s) f c = c
reshaped_comes w m lo hi rows to stack stack' Q Q' (Exits k store s) f c = c
reshaped_comes w m lo hi rows to stack stack' Q Q' (Returned store s) f c = c
reshaped_comes w m lo hi rows to stack stack' Q Q' (Stops t inner store) f c = c
reshaped_comes w m lo hi rows to stack stack' Q Q' (Gone t) f c = c
reshaped_comes w m lo hi rows to stack stack' Q Q' Bound f c = tt

pub reshaped : {A : Type 0} {w : Around} {m : Run} {lo hi : ℕ} {rows : List Handler} {to : ℕ} {stack stack' : A → List ℤ} {Q Q' : A → Store → List ℤ → Type 0} {o : Flow A}
    → ((v : A) (store : Store) (locals : List ℤ) → Q v store locals → (stack v ≡ stack' v) × Q' v store locals)
    → Follows w m lo hi rows (always to) stack Q o → Follows w m lo hi rows (always to) stack' Q' o
reshaped {A} {w} {m} {lo} {hi} {rows} {to} {stack} {stack'} {Q} {Q'} {o} f c = record { by = reshaped_comes w m lo hi rows to stack stack' Q Q' o f c.by }

-- a value is turned into another on the way
pub assoc : {A B C : Type 0} (o : Flow A) (h : A → B) (g : B → Meaning C) → then_do (then_do o (λ a. Goes (h a))) g ≡ then_do o (λ a. g (h a))
assoc (Goes v store s) h g = refl
assoc (Raised x store s) h g = refl
assoc (Exits k store s) h g = refl
assoc (Returned store s) h g = refl
assoc (Stops t inner store) h g = refl
assoc (Gone t) h g = refl
assoc Bound h g = refl

pub there : {A : Type 0} (o : Flow A) (f : A → Store → Session → Bool) (v : A) (store : Store) (s : Session) → where_goes o f ≡ true → o ≡ Goes v store s → f v store s ≡ true
there o f v store s h is = subst (λ q. where_goes q f ≡ true) is h

pub value_lies : (v : Setting) (c : CallsWithin) (e : ExprTree) (store store' : Store) (s s' : Session) (xs : List ℤ) → expr_within v c e store s ≡ true → expr_mean v e store s ≡ Goes xs store' s' → lies_in (bounds_of_value e) xs ≡ true
value_lies v c (expr n own o) store store' s s' xs h is = there (expr_mean v (expr n own o) store s) (λ ys store1 s1. lies_in (bounds_of_value (expr n own o)) ys) xs store' s' (both_true _ _ h).1 is

-- ---- tests of values that are taken

pub tested_runs : (w : Around) (b own : Option Bounds) (xs : List ℤ) (n at to lo hi : ℕ) (base locals : List ℤ) (store : Store) (s : Session)
    → BoundsFit b n → length xs ≡ n → lies_in own xs ≡ true ⊎ (b ≡ None)
    → HasAt w.code.instrs at (check_code (bounds_to_test b own)) → at + length (check_code (bounds_to_test b own)) ≡ to → lo ≤ at → to ≤ hi → Holds w store locals
    → Follows w (here w at (base ++ xs) locals s) lo hi [] (always to) (on_top base) (HoldsWith w (IsLong n)) (tested b xs store s)
tested_runs w None own xs n at to lo hi base locals store s fits long lies has e low high h = comes {v = xs} (let z : at ≡ to = omega arith in z) refl (long, h)
tested_runs w (Some b) own xs n at to lo hi base locals store s fits long (inr none) has e low high h = absurd (let no : ⊥ = cc in no)
tested_runs w (Some b) own xs n at to lo hi base locals store s fits long (inl lies) has e low high h = by_test (bounds_to_test (Some b) own) refl has e
  where
    by_test : (t : Option Bounds) → bounds_to_test (Some b) own ≡ t → HasAt w.code.instrs at (check_code t) → at + length (check_code t) ≡ to
        → Follows w (here w at (base ++ xs) locals s) lo hi [] (always to) (on_top base) (HoldsWith w (IsLong n)) (tested (Some b) xs store s)
    by_test None is h2 e2 =
        subst (λ (t : Bool). Follows w (here w at (base ++ xs) locals s) lo hi [] (always to) (on_top base) (HoldsWith w (IsLong n)) (if t then Goes xs store s else Raised Rangefail store s)) (sym (untested b own xs is lies))
        (comes {v = xs} (let z : at ≡ to = omega arith in z) refl (long, h))
    by_test (Some t) is h2 e2 =
        let same : b ≡ t = tested_is b own t is in
        subst (λ (j : ℕ). Follows w (here w at (base ++ xs) locals s) lo hi [] (always to) (on_top base) (HoldsWith w (IsLong j)) (tested (Some b) xs store s)) (sym fits)
        (check_by w b xs at to lo hi [] base locals store s (long ∙ fits) e2 low (omega arith) (none_takes at) (subst (λ (c : Bounds). slice_get w.code.instrs at ≡ Some (i.Check c.low c.high)) (sym same) h2.0) h)

-- ---- parts of values

pub part_there : (xs : List ℤ) (k n : ℕ) → k + n ≤ length xs → part_of xs k n ≡ Some (scalars_at xs k n)
part_there xs k n h = ap (λ b. if b then Some (take n (drop k xs)) else None) (le-leb (k + n) (length xs) h)

pub part_long : (xs : List ℤ) (k n : ℕ) → k + n ≤ length xs → length (scalars_at xs k n) ≡ n
part_long xs k n h = length-take-le n (drop k xs) (let room : n ≤ length (drop k xs) = omega (arith, length-drop k xs) in room)

pub small_int : (k : ℕ) → IsOffset k → is_int (pos k) ≡ true
small_int k small =
    let low : int_le least_int (pos k) ≡ true = grind (arith, ints) in
    let high : int_le (pos k) greatest_int ≡ true = grind (arith, ints, small) in
    ap (λ (t : Bool). t && int_le (pos k) greatest_int) low ∙ high

-- a part is taken out of the value on top, behind its indices
pub cut_runs : (w : Around) (ps : PartNodes) (n of k at to lo hi : ℕ) (base xs locals : List ℤ) (store : Store) (s : Session)
    → length xs ≡ of → IsOffset of → IsPlace ps of n k
    → HasAt w.code.instrs at (cut_code ps n of) → at + length (cut_code ps n of) ≡ to → Holds w store locals
    → Follows w (here w at (offset_stack (stays_first true ps) (base ++ xs) (k - first_of_parts ps)) locals s) lo hi [] (always to) (on_top base) (HoldsWith w (IsLong n)) (Goes (scalars_at xs k n) store s)
cut_runs w ps n of k at to lo hi base xs locals store s long small place has e h = by_index (has_index ps) refl has e
  where
    f : ℕ
    f = first_of_parts ps

    stays : (ps : PartNodes) → has_index ps ≡ false → stays_first true ps ≡ true
    stays no_parts e2 = refl
    stays (field first count qs) e2 = stays qs e2
    stays (element x b count qs) e2 = absurd (let no : ⊥ = cc in no)

    room : k + n ≤ length xs
    room = omega (arith, place.room)

    by_index : (t : Bool) → has_index ps ≡ t → HasAt w.code.instrs at (if t then member_code (pos f) ++ i.PartAt n of ∷ [] else i.Part f n of ∷ []) → at + length (if t then member_code (pos f) ++ i.PartAt n of ∷ [] else i.Part f n of ∷ []) ≡ to
        → Follows w (here w at (offset_stack (stays_first true ps) (base ++ xs) (k - f)) locals s) lo hi [] (always to) (on_top base) (HoldsWith w (IsLong n)) (Goes (scalars_at xs k n) store s)
    by_index true t_is h2 e2 =
        let at1 : ℕ = at + length (member_code (pos f)) in
        let sum : pos (k - f) +ℤ pos f ≡ pos k = ap (λ (j : ℕ). pos j) (let z : k - f + f ≡ k = omega (arith, place.from) in z) in
        let inside : is_int (pos (k - f) +ℤ pos f) ≡ true = ap is_int sum ∙ small_int k (omega (arith, place.room)) in
        let all : List ℤ = xs ++ one (pos k) in
        let found : 1 + of ≡ length all = omega (arith, length-append xs (one (pos k))) in
        let front : take of all ≡ xs = ap (λ (j : ℕ). take j all) (sym long) ∙ take-append_seam xs (one (pos k)) in
        let back : drop of all ≡ one (pos k) = ap (λ (j : ℕ). drop j all) (sym long) ∙ drop-append_seam xs (one (pos k)) in
        let does : action_in w (i.PartAt n of) at1 (base ++ all) locals all ≡ Pushes (scalars_at xs k n) =
        ap (λ (l : List ℤ). with_one l (λ x. at_offset (offset_of x) (λ j. numbers_or Rangefail (part_of (take of all) j n)))) back
        ∙ (ap (λ o. at_offset o (λ j. numbers_or Rangefail (part_of (take of all) j n))) (offset_is k)
        ∙ (ap (λ (l : List ℤ). numbers_or Rangefail (part_of l k n)) front ∙ ap (numbers_or Rangefail) (part_there xs k n room))) in
        let start : offset_stack (stays_first true ps) (base ++ xs) (k - f) ≡ (base ++ xs) ++ one (pos (k - f)) = ap (λ (t : Bool). offset_stack t (base ++ xs) (k - f)) (index_first ps t_is) in
        after (renamed w at at (offset_stack (stays_first true ps) (base ++ xs) (k - f)) ((base ++ xs) ++ one (pos (k - f))) locals s refl start)
        (after (plus_run w (pos f) (pos (k - f)) at (base ++ xs) locals s inside (has_front w.code.instrs at (member_code (pos f)) (i.PartAt n of ∷ []) h2))
        (after (renamed w at1 at1 ((base ++ xs) ++ one (pos (k - f) +ℤ pos f)) (base ++ all) locals s refl (ap (λ (z : ℤ). (base ++ xs) ++ one z) sum ∙ append_assoc base xs (one (pos k))))
        (after (pushes_by w (i.PartAt n of) at1 base all locals s (scalars_at xs k n) (has_back w.code.instrs at at1 (member_code (pos f)) (i.PartAt n of ∷ []) refl h2).0 found does)
        (comes {v = scalars_at xs k n} (omega (arith, length-append (member_code (pos f)) (i.PartAt n of ∷ []))) refl (part_long xs k n room, h)))))
    by_index false t_is h2 e2 =
        let plain : k ≡ f = place.plain t_is in
        let start : offset_stack (stays_first true ps) (base ++ xs) (k - f) ≡ base ++ xs = ap (λ (t : Bool). offset_stack t (base ++ xs) (k - f)) (stays ps t_is) in
        after (renamed w at at (offset_stack (stays_first true ps) (base ++ xs) (k - f)) (base ++ xs) locals s refl start)
        (after (pushes_by w (i.Part f n of) at base xs locals s (scalars_at xs k n) h2.0 (sym long) (ap (λ (j : ℕ). in_frame (part_of xs j n)) (sym plain) ∙ ap in_frame (part_there xs k n room)))
        (comes {v = scalars_at xs k n} e2 refl (part_long xs k n room, h)))

-- ---- places of locations

-- what indices come to
abbrev pub IndicesFollow : Around → Setting → Layout → ℕ → ℕ → ℕ → Bool → PartNodes → ℕ → ℕ → ℕ → ℕ → ℕ → List ℤ → List ℤ → Store → Session → Type 0
IndicesFollow w v lay lo hi free is_first ps of n j k at base locals store s =
    Follows w (here w at (offset_stack is_first base j) locals s) lo hi [] (always (at + indices_size is_first ps)) (λ to. offset_stack (stays_first is_first ps) base (j + (to - (k + first_of_parts ps)))) (HoldsWith w (LeadsTo ps of n k)) (offset_mean v ps k store s)

pub place_runs : (w : Around) (v : Setting) (lay : Layout) (free : ℕ) (b : Base) (ps : PartNodes) (of n at to lo hi : ℕ) (stack locals : List ℤ) (store : Store) (s : Session)
    → first_of_parts ps + n ≤ of ⊎ (has_index ps ≡ true)
    → (has_index ps ≡ true → HasAt w.code.instrs at (indices_code lay free true ps at) → IndicesFollow w v lay lo hi free true ps of n 0 0 at stack locals store s)
    → HasAt w.code.instrs at (place_code lay free (location b ps n) at) → at + place_size (location b ps n) ≡ to → Holds w store locals
    → Follows w (here w at stack locals s) lo hi [] (always to) (place_stack b ps stack) (HoldsWith w (IsPlace ps of n)) (offset_mean v ps 0 store s)
place_runs w v lay free b ps of n at to lo hi stack locals store s room indices has e h = by_index (has_index ps) refl has e
  where
    f : ℕ
    f = first_of_parts ps

    code : Bool → Bool → List Instr
    code t u = if t then indices_code lay free true ps at else if u then i.Push (pos 0) ∷ [] else []

    size : Bool → Bool → ℕ
    size t u = if t then indices_size true ps else if u then 1 else 0

    zero_is : 0 + f ≡ f
    zero_is = omega arith

    by_need : (u : Bool) → needs_offset b ps ≡ u → has_index ps ≡ false → HasAt w.code.instrs at (if u then i.Push (pos 0) ∷ [] else []) → at + (if u then 1 else 0) ≡ to
        → Follows w (here w at stack locals s) lo hi [] (always to) (place_stack b ps stack) (HoldsWith w (IsPlace ps of n)) (Goes f store s)
    by_need u u_is plain h2 e2 = by_u u u_is h2 e2
      where
        fits : f + n ≤ of
        fits = by_room room
          where
            by_room : first_of_parts ps + n ≤ of ⊎ (has_index ps ≡ true) → f + n ≤ of
            by_room (inl x) = x
            by_room (inr y) = absurd (let no : ⊥ = cc in no)

        is_place : IsPlace ps of n f
        is_place = record { from = omega arith; room = fits; plain = λ z. refl }

        by_u : (u : Bool) → needs_offset b ps ≡ u → HasAt w.code.instrs at (if u then i.Push (pos 0) ∷ [] else []) → at + (if u then 1 else 0) ≡ to
            → Follows w (here w at stack locals s) lo hi [] (always to) (place_stack b ps stack) (HoldsWith w (IsPlace ps of n)) (Goes f store s)
        by_u true is h3 e3 =
            after (puts_on w (i.Push (pos 0)) at stack locals s (one (pos 0)) h3.0 refl refl)
            (comes {v = f} e3 (ap (λ (j : ℕ). stack ++ one (pos j)) (let z : 0 ≡ f - f = omega arith in z) ∙ sym (ap (λ (t : Bool). if t then stack ++ one (pos (f - f)) else stack) is)) (is_place, h))
        by_u false is h3 e3 =
            comes {v = f} (let z : at ≡ to = omega arith in z) (sym (ap (λ (t : Bool). if t then stack ++ one (pos (f - f)) else stack) is)) (is_place, h)

    by_index : (t : Bool) → has_index ps ≡ t → HasAt w.code.instrs at (if t then indices_code lay free true ps at else if needs_offset b ps then i.Push (pos 0) ∷ [] else []) → at + (if t then indices_size true ps else if needs_offset b ps then 1 else 0) ≡ to
        → Follows w (here w at stack locals s) lo hi [] (always to) (place_stack b ps stack) (HoldsWith w (IsPlace ps of n)) (offset_mean v ps 0 store s)
    by_index true is h2 e2 =
        subst (λ (p : ℕ). Follows w (here w at stack locals s) lo hi [] (always p) (place_stack b ps stack) (HoldsWith w (IsPlace ps of n)) (offset_mean v ps 0 store s)) e2
        (reshaped (λ k store2 locals2 q. (
          ap (λ (t : Bool). offset_stack t stack (0 + (k - (0 + f)))) (index_first ps is)
              ∙ (ap (λ (j : ℕ). stack ++ one (pos j)) (let z : 0 + (k - (0 + f)) ≡ k - f = omega arith in z)
              ∙ sym (ap (λ (t : Bool). if t then stack ++ one (pos (k - f)) else stack) (needs_when b ps is))),
          (as_place ps of n k q.0, q.1),
        )) (indices is h2))
    by_index false is h2 e2 =
        subst (λ o. Follows w (here w at stack locals s) lo hi [] (always to) (place_stack b ps stack) (HoldsWith w (IsPlace ps of n)) o) (sym (fields_mean v ps 0 store s is ∙ ap (λ (j : ℕ). Goes j store s) zero_is))
        (by_need (needs_offset b ps) refl is h2 e2)

-- ---- powersets of one number

pub width_one : (b : Bounds) → AreMembers b → width_of b ≡ 1
width_one b are = by_count (count_between b.low b.high) are.1 are.2
  where
    by_count : (n : ℕ) → 1 ≤ n → n ≤ 32 → numbers_of n ≡ 1
    by_count n low high = omega arith

pub span_one : (b : Bounds) (j k y : ℤ) → AreMembers b → with_span b j k (one y) ≡ one (union y (span_of j k))
span_one b j k y are = ap (λ (n : ℕ). union_of (one y) (span_in n j k)) (width_one b are)

-- ANDIF and ORIF alone leave their second operand out
pub over_one : (o : Binary) (xs : List ℤ) (n : ℕ) → OperandsFit o (length xs) n → takes_second o xs ≡ false → length xs ≡ 1
over_one AndIf xs n fits e = fits.0
over_one OrIf xs n fits e = fits.0
over_one o xs n fits e = absurd (let no : ⊥ = cc in no)
