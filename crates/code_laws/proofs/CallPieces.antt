-- Arguments whose places are kept, and what is copied out behind a call.
use Rattle.std.proofs.Common.{◌≡◌, ℕ, ◌+◌, ◌-◌, ◌≤◌, if◌then◌else◌, Bool, true, false, List, [], ◌∷◌, ◌++◌, ℤ, pos, length, Option, Some, None, nat_le, le-leb, refl, sym, ap, ◌∙◌, subst, arith, append_assoc, append-nil, length-append, ◌⊎◌, inl, inr}
use Rattle.world_model.specs.Session.{Session}
use Rattle.world_model.specs.Lists.{with_scalars}
use Rattle.modes.specs.declared.mode.Bounds.{Bounds}
use Rattle.modes.specs.ModeTree.{int}
use Rattle.modes.specs.Bounds.{bounds_of}
use Rattle.checked_program.specs.declared.expr.Base.{Base}
use Rattle.checked_program.specs.declared.expr.Base.TheVariants.{Shared, Local}
use Rattle.checked_program.specs.declared.program.Parameter.{Parameter}
use Rattle.program_trees.specs.ExprTree.{PartNodes, LocationTree, location, ArgumentNodes, no_arguments, in_argument, out_argument, inout_argument}
use Rattle.program_trees.specs.ProgramTree.{LocalRowTree}
use Rattle.code_types.specs.declared.instr.Instr.{Instr}
use Rattle.code_types.specs.declared.instr.Instr.TheVariants as i
use Rattle.code_types.specs.declared.code.Handler.{Handler}
use Rattle.code_types.specs.Actions.{Sets, Halts, in_frame}
use Rattle.code_types.specs.Steps.{Run}
use Rattle.source_meaning.specs.Store.{Store, begins_with, Address, in_local, in_shared, address_of}
use Rattle.source_meaning.specs.Flow.{Flow, Goes, then_do}
use Rattle.source_meaning.specs.Operators.{one}
use Rattle.source_meaning.specs.ExprMeaning.{Setting, CopyOut, Passed, takens, copied_out, all_copied_out}
use Rattle.code_scheme.specs.Pieces.{Layout, bounds_to_test, tested_out, tested_back, check_code, first_of_parts, needs_offset, has_offset, offsets_kept, keep_code, kept_code, under_code, store_code, copy_out_code, copies_out, kept_behind}
use Rattle.code_scheme.specs.ExprSizes.{copy_out_size, copies_out_size}
use Rattle.follow_laws.specs.Follows.{HasAt, FitRows, Around, free_in, scalars_in, keeping, here, Holds, GetsTo, Follows, always, HoldsWith, Nothing}
use Rattle.source_meaning.specs.BodyMeaning.{Bodies}
use Rattle.code_laws.specs.BodyBounds.{BodiesWithin}
use Rattle.code_laws.specs.Calls.{FitTaken, parameters_back}
use Rattle.code_laws.specs.InRange.{BoundsFit, IsOffset, BaseFits, FitsArguments}
use Rattle.code_laws.specs.OwnBounds.{lies_in, lies_where, copies_within}
use Rattle.code_laws.specs.Expressions.{Suited, NamesIn}
use Rattle.follow_laws.proofs.Running.{has_front, has_back, gets_then, after, follows_then, comes, forgotten, forgetting}
use Rattle.follow_laws.proofs.Holding.{HasPart, IsSet, kept_read, scratch_set, scratch_read}
use Rattle.follow_laws.proofs.Instructions.{puts_on, sets_by, renamed}
use Rattle.code_laws.proofs.Sizes.{copy_out_length, where_length}
use Rattle.code_laws.proofs.Values.{both_true}
use Rattle.code_laws.proofs.PlaceRuns.{IsPlace, place_stack, store_runs}
use Rattle.code_laws.proofs.ExprPieces.{reshaped, tested_runs}

-- ---- what is known of arguments that are evaluated

-- where an argument's parameter is copied out to: a part of its location
abbrev pub CopiesTo : Layout → LocationTree → Option Bounds → Option CopyOut → Type 0
CopiesTo lay (location b ps n) bounds c =
    (of : ℕ) × (k : ℕ) × BaseFits lay b of × IsOffset of × IsPlace ps of n k × (c ≡ Some (record { address = address_of b k; count = n; bounds = bounds }))

-- what arguments come to, for these rows of parameters
abbrev pub PassedFit : Layout → ArgumentNodes → List LocalRowTree → List Passed → Type 0
PassedFit lay no_arguments rows qs = qs ≡ []
PassedFit lay (in_argument r as') [] qs = ⊥
PassedFit lay (in_argument r as') (row ∷ rows) [] = ⊥
PassedFit lay (in_argument r as') (row ∷ rows) (q ∷ qs) = (length (begins_with row q.begins) ≡ row.count) × (q.copy_out ≡ None) × PassedFit lay as' rows qs
PassedFit lay (out_argument l bounds as') [] qs = ⊥
PassedFit lay (out_argument l bounds as') (row ∷ rows) [] = ⊥
PassedFit lay (out_argument l bounds as') (row ∷ rows) (q ∷ qs) = (length (begins_with row q.begins) ≡ row.count) × CopiesTo lay l bounds q.copy_out × PassedFit lay as' rows qs
PassedFit lay (inout_argument l taken bounds as') [] qs = ⊥
PassedFit lay (inout_argument l taken bounds as') (row ∷ rows) [] = ⊥
PassedFit lay (inout_argument l taken bounds as') (row ∷ rows) (q ∷ qs) = (length (begins_with row q.begins) ≡ row.count) × CopiesTo lay l bounds q.copy_out × PassedFit lay as' rows qs

-- the offsets of places that are kept
abbrev pub first_in_address : Address → ℕ
first_in_address (in_local k first) = first
first_in_address (in_shared l first) = first

abbrev pub kept_offset : LocationTree → ℕ → List ℤ
kept_offset (location b ps n) k = if needs_offset b ps then one (pos (k - first_of_parts ps)) else []

abbrev pub kept_of_copy : LocationTree → Option CopyOut → List ℤ
kept_of_copy l None = []
kept_of_copy l (Some c) = kept_offset l (first_in_address c.address)

abbrev pub kept_of : ArgumentNodes → List Passed → List ℤ
kept_of no_arguments qs = []
kept_of (in_argument r as') [] = []
kept_of (in_argument r as') (q ∷ qs) = kept_of as' qs
kept_of (out_argument l bounds as') [] = []
kept_of (out_argument l bounds as') (q ∷ qs) = kept_of_copy l q.copy_out ++ kept_of as' qs
kept_of (inout_argument l taken bounds as') [] = []
kept_of (inout_argument l taken bounds as') (q ∷ qs) = kept_of_copy l q.copy_out ++ kept_of as' qs

pub first_is : (b : Base) (k : ℕ) → first_in_address (address_of b k) ≡ k
first_is (Shared l) k = refl
first_is (Local q) k = refl

pub kept_copy_is : (b : Base) (ps : PartNodes) (n k : ℕ) (bounds : Option Bounds) (c : Option CopyOut) → c ≡ Some (record { address = address_of b k; count = n; bounds = bounds }) → kept_of_copy (location b ps n) c ≡ kept_offset (location b ps n) k
kept_copy_is b ps n k bounds c is = ap (λ (o : Option CopyOut). kept_of_copy (location b ps n) o) is ∙ ap (λ (j : ℕ). kept_offset (location b ps n) j) (first_is b k)

offset_long : (b : Base) (ps : PartNodes) (n k : ℕ) → length (kept_offset (location b ps n) k) ≡ offsets_kept (location b ps n)
offset_long b ps n k = by_need (needs_offset b ps)
  where
    by_need : (u : Bool) → length (if u then one (pos (k - first_of_parts ps)) else []) ≡ (if u then 1 else 0)
    by_need true = refl
    by_need false = refl

pub kept_long : (lay : Layout) (b : Base) (ps : PartNodes) (n : ℕ) (bounds : Option Bounds) (c : Option CopyOut) → CopiesTo lay (location b ps n) bounds c → length (kept_of_copy (location b ps n) c) ≡ offsets_kept (location b ps n)
kept_long lay b ps n bounds c fit = ap (λ (l : List ℤ). length l) (kept_copy_is b ps n fit.1 bounds c fit.5) ∙ offset_long b ps n fit.1

pub rows_back : (row : LocalRowTree) (rows : List LocalRowTree) (row' : LocalRowTree) (others : List LocalRowTree) → row ∷ rows ≡ row' ∷ others → others ≡ rows
rows_back row rows row' others e = cc

pub row_back : (row : LocalRowTree) (rows : List LocalRowTree) (row' : LocalRowTree) (others : List LocalRowTree) → row ∷ rows ≡ row' ∷ others → row' ≡ row
row_back row rows row' others e = cc

one_more_fits : (row : LocalRowTree) (rows : List LocalRowTree) (q : Passed) (qs : List Passed) (ps more : List Parameter) (p : Parameter) → ps ≡ p ∷ more → length (begins_with row q.begins) ≡ row.count → FitTaken rows more (takens qs)
    → FitTaken (row ∷ rows) ps (takens (q ∷ qs))
one_more_fits row rows q qs ps more p is long rest = subst (λ (l : List Parameter). FitTaken (row ∷ rows) l (takens (q ∷ qs))) (sym is) (long, rest)

none_fit : (rows : List LocalRowTree) (ps : List Parameter) (qs : List Passed) → ps ≡ [] → qs ≡ [] → FitTaken rows ps (takens qs)
none_fit rows ps qs e d = subst (λ (l : List Parameter). FitTaken rows l (takens qs)) (sym e) (subst (λ (q : List Passed). FitTaken rows [] (takens q)) (sym d) tt)

-- what parameters begin with fits their rows
pub takens_fit : (lay : Layout) (as' : ArgumentNodes) (ps : List Parameter) (rows : List LocalRowTree) (qs : List Passed) → FitsArguments lay as' ps rows → PassedFit lay as' rows qs → FitTaken rows ps (takens qs)
takens_fit lay no_arguments ps rows qs fits passed = none_fit rows ps qs fits passed
takens_fit lay (in_argument r as') ps [] qs fits passed = absurd passed
takens_fit lay (in_argument r as') ps (row ∷ rows) [] fits passed = absurd passed
takens_fit lay (in_argument r as') ps (row ∷ rows) (q ∷ qs) fits passed = one_more_fits row rows q qs ps fits.1 _ fits.3 passed.0 (takens_fit lay as' fits.1 rows qs (subst (λ (rs : List LocalRowTree). FitsArguments lay as' fits.1 rs) (rows_back row rows fits.0 fits.2 fits.4) fits.7) passed.2)
takens_fit lay (out_argument l bounds as') ps [] qs fits passed = absurd passed
takens_fit lay (out_argument l bounds as') ps (row ∷ rows) [] fits passed = absurd passed
takens_fit lay (out_argument l bounds as') ps (row ∷ rows) (q ∷ qs) fits passed = one_more_fits row rows q qs ps fits.1 _ fits.3 passed.0 (takens_fit lay as' fits.1 rows qs (subst (λ (rs : List LocalRowTree). FitsArguments lay as' fits.1 rs) (rows_back row rows fits.0 fits.2 fits.4) fits.7) passed.2)
takens_fit lay (inout_argument l taken bounds as') ps [] qs fits passed = absurd passed
takens_fit lay (inout_argument l taken bounds as') ps (row ∷ rows) [] fits passed = absurd passed
takens_fit lay (inout_argument l taken bounds as') ps (row ∷ rows) (q ∷ qs) fits passed = one_more_fits row rows q qs ps fits.1 _ fits.3 passed.0 (takens_fit lay as' fits.1 rows qs (subst (λ (rs : List LocalRowTree). FitsArguments lay as' fits.1 rs) (rows_back row rows fits.0 fits.2 fits.4) fits.7) passed.2)

-- ---- places that are kept

-- the same scratch locals, put together in another way
pub kept_same : (w : Around) (ks ls : List ℤ) (store : Store) (locals : List ℤ) → ks ≡ ls → Holds (record w { kept = ks }) store locals → Holds (record w { kept = ls }) store locals
kept_same w ks ls store locals e h = subst (λ (l : List ℤ). Holds (record w { kept = l }) store locals) e h

pub keep_none : (w : Around) (store : Store) (locals : List ℤ) → Holds w store locals → Holds (keeping w []) store locals
keep_none w store locals h = kept_same w w.kept (w.kept ++ []) store locals (sym (append-nil w.kept)) h

-- the place on top is kept in a scratch local
pub keep_runs : (w : Around) (b : Base) (ps : PartNodes) (n k free at to lo hi : ℕ) (base locals : List ℤ) (store : Store) (s : Session)
    → free ≡ free_in w → NamesIn w lo hi → HasAt w.code.instrs at (keep_code (location b ps n) free) → at + offsets_kept (location b ps n) ≡ to → lo ≤ at → to ≤ hi → Holds w store locals
    → Follows w (here w at (place_stack b ps base k) locals s) lo hi [] (always to) (always base) (λ (v : Unit {0}) st ls. Holds (keeping w (kept_offset (location b ps n) k)) st ls) (Goes tt store s)
keep_runs w b ps n k free at to lo hi base locals store s free_is names has e low high h = by_need (needs_offset b ps) has e
  where
    z : ℤ
    z = pos (k - first_of_parts ps)

    by_need : (u : Bool) → HasAt w.code.instrs at (if u then i.SetLocal free 1 ∷ [] else []) → at + (if u then 1 else 0) ≡ to
        → Follows w (here w at (if u then base ++ one z else base) locals s) lo hi [] (always to) (always base) (λ (v : Unit {0}) st ls. Holds (keeping w (if u then one z else [])) st ls) (Goes tt store s)
    by_need true h2 e2 =
        let room : free + 1 ≤ w.row.locals = names at (i.SetLocal free 1) low (omega arith) h2.0 in
        let inside : nat_le (free + 1) (length locals) ≡ true = le-leb (free + 1) (length locals) (omega (arith, h.long, room)) in
        let set : IsSet (keeping w (one z)) store locals free (one z) = scratch_set w store locals (one z) free h free_is room in
        after (sets_by w (i.SetLocal free 1) at base (one z) locals s free (one z) h2.0 refl (ap (λ t. if t then Sets free (one z) else Halts) inside))
        (comes {v = tt} e2 refl set.holds)
    by_need false h2 e2 = comes {v = tt} (let e3 : at ≡ to = omega arith in e3) refl (keep_none w store locals h)

-- it is found there
pub found_runs : (w : Around) (b : Base) (ps : PartNodes) (n k f at to : ℕ) (pre post : List ℤ) (base locals : List ℤ) (store : Store) (s : Session)
    → w.kept ≡ pre ++ (kept_offset (location b ps n) k ++ post) → f ≡ scalars_in w.rows + (w.results + length pre) → HasAt w.code.instrs at (kept_code (location b ps n) f) → at + offsets_kept (location b ps n) ≡ to → Holds w store locals
    → GetsTo w.code (here w at base locals s) (here w to (place_stack b ps base k) locals s)
found_runs w b ps n k f at to pre post base locals store s kept f_is has e h = by_need (needs_offset b ps) kept has e
  where
    z : ℤ
    z = pos (k - first_of_parts ps)

    by_need : (u : Bool) → w.kept ≡ pre ++ ((if u then one z else []) ++ post) → HasAt w.code.instrs at (if u then i.Local f 1 ∷ [] else []) → at + (if u then 1 else 0) ≡ to
        → GetsTo w.code (here w at base locals s) (here w to (if u then base ++ one z else base) locals s)
    by_need true is h2 e2 =
        let part : HasPart locals f 1 (one z) = kept_read w store locals pre (one z) post f 1 h is f_is refl in
        gets_then (puts_on w (i.Local f 1) at base locals s (one z) h2.0 refl (ap in_frame part.is))
        (renamed w (at + 1) to (base ++ one z) (base ++ one z) locals s e2 refl)
    by_need false is h2 e2 = renamed w at to base base locals s (let e3 : at ≡ to = omega arith in e3) refl

-- ---- copying out

-- a place that is kept goes below the value on top
under_runs : (w : Around) (b : Base) (ps : PartNodes) (n k kept free at to lo hi : ℕ) (pre post : List ℤ) (base xs locals : List ℤ) (store : Store) (s : Session)
    → w.kept ≡ pre ++ (kept_offset (location b ps n) k ++ post) → kept ≡ scalars_in w.rows + (w.results + length pre) → free ≡ free_in w → NamesIn w lo hi
    → length xs ≡ n → HasAt w.code.instrs at (under_code (location b ps n) kept free) → at + (if has_offset (location b ps n) then 3 else 0) ≡ to → lo ≤ at → to ≤ hi → Holds w store locals
    → Follows {A = Unit {0}} w (here w at (base ++ xs) locals s) lo hi [] (always to) (always (place_stack b ps base k ++ xs)) (HoldsWith w Nothing) (Goes tt store s)
under_runs w b ps n k kept free at to lo hi pre post base xs locals store s is kept_is free_is names long has e low high h = by_need (needs_offset b ps) is has e
  where
    z : ℤ
    z = pos (k - first_of_parts ps)

    by_need : (u : Bool) → w.kept ≡ pre ++ ((if u then one z else []) ++ post) → HasAt w.code.instrs at (if u then i.SetLocal free n ∷ i.Local kept 1 ∷ i.Local free n ∷ [] else []) → at + (if u then 3 else 0) ≡ to
        → Follows {A = Unit {0}} w (here w at (base ++ xs) locals s) lo hi [] (always to) (always ((if u then base ++ one z else base) ++ xs)) (HoldsWith w Nothing) (Goes tt store s)
    by_need true is2 h2 e2 =
        let room : free + n ≤ w.row.locals = names at (i.SetLocal free n) low (omega arith) h2.0 in
        let inside : nat_le (free + length xs) (length locals) ≡ true = le-leb (free + length xs) (length locals) (omega (arith, h.long, room, long)) in
        let set : IsSet (keeping w xs) store locals free xs = scratch_set w store locals xs free h free_is (omega (arith, room, long)) in
        let locals2 : List ℤ = with_scalars locals free xs in
        let again : Holds w store locals2 = forgotten w xs store locals2 set.holds in
        let offset : HasPart locals2 kept 1 (one z) = kept_read w store locals2 pre (one z) post kept 1 again is2 kept_is refl in
        let value : HasPart locals2 free n xs = scratch_read w store locals2 xs free n set.holds free_is (sym long) in
        after (sets_by w (i.SetLocal free n) at base xs locals s free xs h2.0 (sym long) (ap (λ t. if t then Sets free xs else Halts) inside))
        (after (puts_on w (i.Local kept 1) (at + 1) base locals2 s (one z) h2.1.0 refl (ap in_frame offset.is))
        (after (puts_on w (i.Local free n) (at + 1 + 1) (base ++ one z) locals2 s xs h2.1.1.0 refl (ap in_frame value.is))
        (comes {v = tt} (let e3 : at + 1 + 1 + 1 ≡ to = omega arith in e3) refl (tt, again))))
    by_need false is2 h2 e2 = comes {v = tt} (let e3 : at ≡ to = omega arith in e3) refl (tt, h)

pub as_lies : (b own : Option Bounds) (xs : List ℤ) → lies_where b own xs ≡ true → (lies_in own xs ≡ true) ⊎ (b ≡ None)
as_lies None own xs e = inr refl
as_lies (Some b) own xs e = inl e

-- a part that goes through without a value, and what comes behind it
pub after_unit : {A : Type 0} {w : Around} {m : Run} {lo hi p : ℕ} {st : List ℤ} {Q0 : Unit {0} → Store → List ℤ → Type 0} {store : Store} {s : Session} {rows : List Handler} {to : A → ℕ} {give : A → List ℤ} {Q : A → Store → List ℤ → Type 0} {o : Flow A}
    → Follows w m lo hi [] (always p) (always st) Q0 (Goes tt store s)
    → ((locals : List ℤ) → Q0 tt store locals → Follows w (here w p st locals s) lo hi rows to give Q o)
    → Follows w m lo hi rows to give Q o
after_unit f g = after f.by.by (g f.by.locals f.by.holds)

-- the parameter on top is copied out to the place of its argument
copy_out_runs : (w : Around) (lay : Layout) (b : Base) (ps : PartNodes) (n : ℕ) (bounds own : Option Bounds) (c : Option CopyOut) (kept free at to lo hi : ℕ) (pre post : List ℤ) (base xs locals : List ℤ) (store : Store) (s : Session)
    → lay.rows ≡ w.rows → CopiesTo lay (location b ps n) bounds c → BoundsFit bounds n → length xs ≡ n → lies_where bounds own xs ≡ true
    → w.kept ≡ pre ++ (kept_of_copy (location b ps n) c ++ post) → kept ≡ scalars_in w.rows + (w.results + length pre) → free ≡ free_in w → NamesIn w lo hi
    → HasAt w.code.instrs at (copy_out_code lay (location b ps n) (bounds_to_test bounds own) kept free) → at + copy_out_size (location b ps n) (bounds_to_test bounds own) ≡ to → lo ≤ at → to ≤ hi → Holds w store locals
    → Follows w (here w at (base ++ xs) locals s) lo hi [] (always to) (always base) (HoldsWith w Nothing) (copied_out c xs store s)
copy_out_runs w lay b ps n bounds own c kept free at to lo hi pre post base xs locals store s rows copies fit long lies is kept_is free_is names has e low high h =
    let l : LocationTree = location b ps n in
    let k : ℕ = copies.1 in
    let t : Option Bounds = bounds_to_test bounds own in
    let check : List Instr = check_code t in
    let under : List Instr = under_code l kept free in
    let keep : w.kept ≡ pre ++ (kept_offset l k ++ post) = is ∙ ap (λ (ks : List ℤ). pre ++ (ks ++ post)) (kept_copy_is b ps n k bounds c copies.5) in
    let at1 : ℕ = at + length check in
    let at2 : ℕ = at1 + (if has_offset l then 3 else 0) in
    let has1 = has_back w.code.instrs at at1 check (under ++ store_code lay l) refl has in
    let has2 = has_back w.code.instrs at1 at2 under (store_code lay l) (ap (λ (j : ℕ). at1 + j) (where_length l (i.SetLocal free n ∷ i.Local kept 1 ∷ i.Local free n ∷ []) 3 refl)) has1 in
    subst (λ (o : Option CopyOut). Follows w (here w at (base ++ xs) locals s) lo hi [] (always to) (always base) (HoldsWith w Nothing) (copied_out o xs store s)) (sym copies.5)
    (follows_then
    (tested_runs w bounds own xs n at at1 lo hi base locals store s fit long (as_lies bounds own xs lies) (has_front w.code.instrs at check (under ++ store_code lay l) has) refl low (omega arith) h)
    (λ ys store1 s1 locals1 q.
    after_unit (under_runs w b ps n k kept free at1 at2 lo hi pre post base ys locals1 store1 s1 keep kept_is free_is names q.0 (has_front w.code.instrs at1 under (store_code lay l) has1) refl (omega arith) (omega arith) q.1)
    (λ locals2 h2. store_runs w lay b ps copies.0 n k at2 to lo hi base ys locals2 store1 s1 rows copies.2 copies.3 copies.4 q.0 has2 (omega arith) (omega arith) (omega arith) h2.1)))

-- all of them
pub copies_runs : (w : Around) (lay : Layout) (as' : ArgumentNodes) (ps : List Parameter) (rows : List LocalRowTree) (qs : List Passed) (values : List (List ℤ)) (first kept free at to lo hi : ℕ) (pre post : List ℤ) (base locals : List ℤ) (store : Store) (s : Session)
    → lay.rows ≡ w.rows → FitsArguments lay as' ps rows → PassedFit lay as' rows qs → FitRows first rows values → copies_within as' values ≡ true
    → w.kept ≡ pre ++ (kept_of as' qs ++ post) → kept ≡ scalars_in w.rows + (w.results + length pre) → free ≡ free_in w → NamesIn w lo hi
    → HasAt w.code.instrs at (copies_out lay as' kept free) → at + copies_out_size as' ≡ to → lo ≤ at → to ≤ hi → Holds w store locals
    → Follows w (here w at (base ++ parameters_back ps values) locals s) lo hi [] (always to) (always base) (HoldsWith w Nothing) (all_copied_out qs values store s)
copies_runs w lay no_arguments ps rows qs values first kept free at to lo hi pre post base locals store s same fits passed shape within is kept_is free_is names has e low high h =
    subst (λ (l : List Passed). Follows w (here w at (base ++ parameters_back ps values) locals s) lo hi [] (always to) (always base) (HoldsWith w Nothing) (all_copied_out l values store s)) (sym passed)
    (comes {v = tt} (let e2 : at ≡ to = omega arith in e2) (ap (λ (l : List Parameter). base ++ parameters_back l values) fits ∙ append-nil base) (tt, h))
copies_runs w lay (in_argument r as') ps [] qs values first kept free at to lo hi pre post base locals store s same fits passed shape within is kept_is free_is names has e low high h = absurd passed
copies_runs w lay (in_argument r as') ps (row ∷ rows) [] values first kept free at to lo hi pre post base locals store s same fits passed shape within is kept_is free_is names has e low high h = absurd passed
copies_runs w lay (in_argument r as') ps (row ∷ rows) (q ∷ qs) [] first kept free at to lo hi pre post base locals store s same fits passed shape within is kept_is free_is names has e low high h = absurd shape
copies_runs w lay (in_argument r as') ps (row ∷ rows) (q ∷ qs) (xs ∷ values) first kept free at to lo hi pre post base locals store s same fits passed shape within is kept_is free_is names has e low high h =
    let fits2 = subst (λ (rs : List LocalRowTree). FitsArguments lay as' fits.1 rs) (rows_back row rows fits.0 fits.2 fits.4) fits.7 in
    subst (λ (o : Option CopyOut). Follows w (here w at (base ++ parameters_back ps (xs ∷ values)) locals s) lo hi [] (always to) (always base) (HoldsWith w Nothing) (then_do (copied_out o xs store s) (λ v. all_copied_out qs values))) (sym passed.1)
    (after (renamed w at at (base ++ parameters_back ps (xs ∷ values)) (base ++ parameters_back fits.1 values) locals s refl (ap (λ (l : List Parameter). base ++ parameters_back l (xs ∷ values)) fits.3 ∙ ap (λ (l : List ℤ). base ++ l) (append-nil (parameters_back fits.1 values))))
    (copies_runs w lay as' fits.1 rows qs values (first + row.count) kept free at to lo hi pre post base locals store s same fits2 passed.2 shape.2 within is kept_is free_is names has e low high h))
copies_runs w lay (out_argument l bounds as') ps [] qs values first kept free at to lo hi pre post base locals store s same fits passed shape within is kept_is free_is names has e low high h = absurd passed
copies_runs w lay (out_argument l bounds as') ps (row ∷ rows) [] values first kept free at to lo hi pre post base locals store s same fits passed shape within is kept_is free_is names has e low high h = absurd passed
copies_runs w lay (out_argument l bounds as') ps (row ∷ rows) (q ∷ qs) [] first kept free at to lo hi pre post base locals store s same fits passed shape within is kept_is free_is names has e low high h = absurd shape
copies_runs w lay (out_argument (location b ls n) bounds as') ps (row ∷ rows) (q ∷ qs) (xs ∷ values) first kept free at to lo hi pre post base locals store s same fits passed shape within is kept_is free_is names has e low high h =
    let l : LocationTree = location b ls n in
    let more : List Parameter = fits.1 in
    let fits2 = subst (λ (rs : List LocalRowTree). FitsArguments lay as' more rs) (rows_back row rows fits.0 fits.2 fits.4) fits.7 in
    let long : length xs ≡ n = shape.1 ∙ (ap (λ (r : LocalRowTree). r.count) (sym (row_back row rows fits.0 fits.2 fits.4)) ∙ sym fits.6.0) in
    let kc : List ℤ = kept_of_copy l q.copy_out in
    let ko : List ℤ = kept_of as' qs in
    let t : Option Bounds = tested_out bounds in
    let first_code : List Instr = copy_out_code lay l t kept free in
    let rest : List Instr = copies_out lay as' (kept + offsets_kept l) free in
    let at1 : ℕ = at + copy_out_size l t in
    let within2 = both_true _ _ within in
    let is2 : w.kept ≡ pre ++ (kc ++ (ko ++ post)) = is ∙ ap (λ (ks : List ℤ). pre ++ ks) (append_assoc kc ko post) in
    after (renamed w at at (base ++ parameters_back ps (xs ∷ values)) ((base ++ parameters_back more values) ++ xs) locals s refl (ap (λ (ls2 : List Parameter). base ++ parameters_back ls2 (xs ∷ values)) fits.3 ∙ sym (append_assoc base (parameters_back more values) xs)))
    (follows_then
    (copy_out_runs w lay b ls n bounds (bounds_of int) q.copy_out kept free at at1 lo hi pre (ko ++ post) (base ++ parameters_back more values) xs locals store s same passed.1 fits.5.1 long within2.0 is2 kept_is free_is names (has_front w.code.instrs at first_code rest has) refl low (omega arith) h)
    (λ v store1 s1 locals1 q1.
    copies_runs w lay as' more rows qs values (first + row.count) (kept + offsets_kept l) free at1 to lo hi (pre ++ kc) post base locals1 store1 s1 same fits2 passed.2 shape.2 within2.1 (is2 ∙ sym (append_assoc pre kc (ko ++ post)))
    (omega (arith, kept_is, length-append pre kc, kept_long lay b ls n bounds q.copy_out passed.1)) free_is names
    (has_back w.code.instrs at at1 first_code rest (ap (λ (j : ℕ). at + j) (copy_out_length lay l t kept free)) has) (omega arith) (omega arith) high q1.1))
copies_runs w lay (inout_argument l taken bounds as') ps [] qs values first kept free at to lo hi pre post base locals store s same fits passed shape within is kept_is free_is names has e low high h = absurd passed
copies_runs w lay (inout_argument l taken bounds as') ps (row ∷ rows) [] values first kept free at to lo hi pre post base locals store s same fits passed shape within is kept_is free_is names has e low high h = absurd passed
copies_runs w lay (inout_argument l taken bounds as') ps (row ∷ rows) (q ∷ qs) [] first kept free at to lo hi pre post base locals store s same fits passed shape within is kept_is free_is names has e low high h = absurd shape
copies_runs w lay (inout_argument (location b ls n) taken bounds as') ps (row ∷ rows) (q ∷ qs) (xs ∷ values) first kept free at to lo hi pre post base locals store s same fits passed shape within is kept_is free_is names has e low high h =
    let l : LocationTree = location b ls n in
    let more : List Parameter = fits.1 in
    let fits2 = subst (λ (rs : List LocalRowTree). FitsArguments lay as' more rs) (rows_back row rows fits.0 fits.2 fits.4) fits.7 in
    let long : length xs ≡ n = shape.1 ∙ (ap (λ (r : LocalRowTree). r.count) (sym (row_back row rows fits.0 fits.2 fits.4)) ∙ sym fits.6) in
    let kc : List ℤ = kept_of_copy l q.copy_out in
    let ko : List ℤ = kept_of as' qs in
    let t : Option Bounds = tested_back taken bounds in
    let first_code : List Instr = copy_out_code lay l t kept free in
    let rest : List Instr = copies_out lay as' (kept + offsets_kept l) free in
    let at1 : ℕ = at + copy_out_size l t in
    let within2 = both_true _ _ within in
    let is2 : w.kept ≡ pre ++ (kc ++ (ko ++ post)) = is ∙ ap (λ (ks : List ℤ). pre ++ ks) (append_assoc kc ko post) in
    after (renamed w at at (base ++ parameters_back ps (xs ∷ values)) ((base ++ parameters_back more values) ++ xs) locals s refl (ap (λ (ls2 : List Parameter). base ++ parameters_back ls2 (xs ∷ values)) fits.3 ∙ sym (append_assoc base (parameters_back more values) xs)))
    (follows_then
    (copy_out_runs w lay b ls n bounds taken q.copy_out kept free at at1 lo hi pre (ko ++ post) (base ++ parameters_back more values) xs locals store s same passed.1 fits.5.2 long within2.0 is2 kept_is free_is names (has_front w.code.instrs at first_code rest has) refl low (omega arith) h)
    (λ v store1 s1 locals1 q1.
    copies_runs w lay as' more rows qs values (first + row.count) (kept + offsets_kept l) free at1 to lo hi (pre ++ kc) post base locals1 store1 s1 same fits2 passed.2 shape.2 within2.1 (is2 ∙ sym (append_assoc pre kc (ko ++ post)))
    (omega (arith, kept_is, length-append pre kc, kept_long lay b ls n bounds q.copy_out passed.1)) free_is names
    (has_back w.code.instrs at at1 first_code rest (ap (λ (j : ℕ). at + j) (copy_out_length lay l t kept free)) has) (omega arith) (omega arith) high q1.1))

-- ---- surroundings in which more is kept

pub kept_suited : (w : Around) (v : Setting) (lay : Layout) (bodies : Bodies) (inside : BodiesWithin) (ks : List ℤ) → Suited w v lay bodies inside → Suited (keeping w ks) v lay bodies inside
kept_suited w v lay bodies inside ks suited = record { instance = suited.instance; rows = suited.rows; open_now = suited.open_now; calls = suited.calls; follow = suited.follow; entered = suited.entered }

pub kept_free : (w : Around) (b : Base) (ps : PartNodes) (n k free : ℕ) → free ≡ free_in w → free + offsets_kept (location b ps n) ≡ free_in (keeping w (kept_offset (location b ps n) k))
kept_free w b ps n k free free_is = omega (arith, free_is, length-append w.kept (kept_offset (location b ps n) k), offset_long b ps n k)

pub kept_more : (w : Around) (ps : PartNodes) (b : Base) (n k : ℕ) (ko : List ℤ) (store : Store) (locals : List ℤ)
    → Holds (keeping (keeping w (kept_offset (location b ps n) k)) ko) store locals
    → Holds (keeping w (kept_offset (location b ps n) (first_in_address (address_of b k)) ++ ko)) store locals
kept_more w ps b n k ko store locals h =
    kept_same w ((w.kept ++ kept_offset (location b ps n) k) ++ ko) (w.kept ++ (kept_offset (location b ps n) (first_in_address (address_of b k)) ++ ko)) store locals
    (append_assoc w.kept (kept_offset (location b ps n) k) ko ∙ ap (λ (j : ℕ). w.kept ++ (kept_offset (location b ps n) j ++ ko)) (sym (first_is b k))) h

pub kept_end : (lay : Layout) (as' : ArgumentNodes) (rows : List LocalRowTree) (qs : List Passed) (free : ℕ) → PassedFit lay as' rows qs → kept_behind as' free ≡ free + length (kept_of as' qs)
kept_end lay no_arguments rows qs free passed = omega arith
kept_end lay (in_argument r as') [] qs free passed = absurd passed
kept_end lay (in_argument r as') (row ∷ rows) [] free passed = absurd passed
kept_end lay (in_argument r as') (row ∷ rows) (q ∷ qs) free passed = kept_end lay as' rows qs free passed.2
kept_end lay (out_argument l bounds as') [] qs free passed = absurd passed
kept_end lay (out_argument l bounds as') (row ∷ rows) [] free passed = absurd passed
kept_end lay (out_argument (location b ls n) bounds as') (row ∷ rows) (q ∷ qs) free passed =
    omega (arith, kept_end lay as' rows qs (free + offsets_kept (location b ls n)) passed.2, length-append (kept_of_copy (location b ls n) q.copy_out) (kept_of as' qs), kept_long lay b ls n bounds q.copy_out passed.1)
kept_end lay (inout_argument l taken bounds as') [] qs free passed = absurd passed
kept_end lay (inout_argument l taken bounds as') (row ∷ rows) [] free passed = absurd passed
kept_end lay (inout_argument (location b ls n) taken bounds as') (row ∷ rows) (q ∷ qs) free passed =
    omega (arith, kept_end lay as' rows qs (free + offsets_kept (location b ls n)) passed.2, length-append (kept_of_copy (location b ls n) q.copy_out) (kept_of as' qs), kept_long lay b ls n bounds q.copy_out passed.1)

-- what is kept is forgotten behind the part
pub forgetting_holds : {A : Type 0} {m : Run} {lo hi to : ℕ} {stack : A → List ℤ} {P : A → Type 0} {o : Flow A} (w : Around) (ks : List ℤ)
    → Follows (keeping w ks) m lo hi [] (always to) stack (HoldsWith (keeping w ks) P) o → Follows w m lo hi [] (always to) stack (HoldsWith w P) o
forgetting_holds w ks f = reshaped (λ v store locals q. (refl, (q.0, forgotten w ks store locals q.1))) (forgetting {w = w} ks f)
