-- What stands before and behind a wait: the place of the location after SET is kept, and the location gets the instance.
use Rattle.std.proofs.Common.{◌≡◌, ℕ, ◌+◌, ◌-◌, ◌≤◌, if◌then◌else◌, Bool, true, false, List, [], ◌∷◌, ◌++◌, ℤ, pos, length, Option, Some, None, refl, sym, ap, ◌∙◌, subst, arith, append_assoc, length-append}
use Rattle.world_model.specs.Session.{Session}
use Rattle.program_trees.specs.ExprTree.{LocationTree, location}
use Rattle.code_types.specs.declared.instr.Instr.{Instr}
use Rattle.code_types.specs.declared.instr.Instr.TheVariants as i
use Rattle.code_types.specs.Actions.{in_frame}
use Rattle.source_meaning.specs.Store.{Store, Address, address_of}
use Rattle.source_meaning.specs.Flow.{Flow, Goes}
use Rattle.source_meaning.specs.Operators.{one}
use Rattle.source_meaning.specs.ExprMeaning.{Setting, assign_at, offset_mean}
use Rattle.source_meaning.specs.StatementMeaning.{set_to, set_address}
use Rattle.source_meaning.specs.BodyMeaning.{Bodies}
use Rattle.code_scheme.specs.Pieces.{Layout, first_of_parts, needs_offset, keep_code, kept_code, store_code, offsets_kept}
use Rattle.code_scheme.specs.ExprSizes.{place_size}
use Rattle.code_scheme.specs.ExprCode.{place_code}
use Rattle.code_scheme.specs.StatementSite.{Standing, layout}
use Rattle.code_scheme.specs.StatementWaits.{set_place_code, set_place_size, set_kept, chosen_in, set_code, set_size}
use Rattle.follow_laws.specs.Follows.{HasAt, scalars_in, Around, free_in, keeping, here, Holds, Follows, always, no_stack, Does}
use Rattle.code_laws.specs.BodyBounds.{BodiesWithin}
use Rattle.code_laws.specs.InRange.{BaseFits, IsOffset}
use Rattle.code_laws.specs.OwnBounds.{parts_within}
use Rattle.code_laws.specs.Expressions.{NamesIn}
use Rattle.follow_laws.proofs.Running.{has_front, has_back, after, follows_then, comes}
use Rattle.follow_laws.proofs.Holding.{HasPart, kept_read}
use Rattle.follow_laws.proofs.Instructions.{puts_on}
use Rattle.code_laws.proofs.Sizes.{place_length, where_length}
use Rattle.code_laws.proofs.PlaceRuns.{IsPlace, place_stack, store_runs}
use Rattle.code_laws.proofs.ExprPieces.{assoc}
use Rattle.code_laws.proofs.CallPieces.{kept_offset, keep_none, keep_runs, found_runs}
use Rattle.code_laws.specs.StatementBounds.{some_place_within}
use Rattle.code_laws.specs.StatementsInRange.{FitsSet}
use Rattle.code_laws.specs.Statements.{StandsAs, calls_from}
use Rattle.statement_code_laws.proofs.PlainRuns.{open_here}
use Rattle.statement_code_laws.proofs.AssignRuns.{target_runs}

-- which place is kept for the location after SET
abbrev pub IsKept : Layout → Option LocationTree → Option Address → List ℤ → Type 0
IsKept lay None address ks = (address ≡ None) × (ks ≡ [])
IsKept lay (Some (location b ps n)) address ks =
    (of : ℕ) × (k : ℕ) × BaseFits lay b of × IsOffset of × IsPlace ps of n k × (address ≡ Some (address_of b k)) × (ks ≡ kept_offset (location b ps n) k)

-- it stands in scratch locals
pub record KeepsPlace (w : Around) (lay : Layout) (set : Option LocationTree) (address : Option Address) (store : Store) (locals : List ℤ) : Type 0 where
  pub kept : List ℤ
  pub is : IsKept lay set address kept
  pub holds : Holds (keeping w kept) store locals

pub kept_long : (lay : Layout) (set : Option LocationTree) (address : Option Address) (ks : List ℤ) → IsKept lay set address ks → length ks ≡ set_kept set
kept_long lay None address ks is = ap (λ (l : List ℤ). length l) is.1
kept_long lay (Some (location b ps n)) address ks is = ap (λ (l : List ℤ). length l) is.6 ∙ by_need (needs_offset b ps) is.1
  where
    by_need : (u : Bool) (k : ℕ) → length (if u then one (pos (k - first_of_parts ps)) else []) ≡ (if u then 1 else 0)
    by_need true k = refl
    by_need false k = refl

pub set_place_runs : (w : Around) (v : Setting) (st : Standing) (bodies : Bodies) (inside : BodiesWithin) (set : Option LocationTree) (at to lo hi : ℕ) (locals : List ℤ) (store : Store) (s : Session)
    → StandsAs w v st bodies inside → NamesIn w lo hi → FitsSet (layout st.site) set → at + set_place_size set ≡ to → lo ≤ at → to ≤ hi
    → HasAt w.code.instrs at (set_place_code st set at)
    → some_place_within v (calls_from inside w) set store s ≡ true → Holds w store locals
    → Follows w (here w at [] locals s) lo hi [] (always to) no_stack (KeepsPlace w (layout st.site) set) (set_address v set store s)
set_place_runs w v st bodies inside None at to lo hi locals store s stands names fits len low high has within h =
    comes {v = None} (let e : at ≡ to = omega arith in e) refl (record { kept = []; is = (refl, refl); holds = keep_none w store locals h })
set_place_runs w v st bodies inside (Some (location b ps n)) at to lo hi locals store s stands names fits len low high has within h =
    let lay : Layout = layout st.site in
    let l : LocationTree = location b ps n in
    let at1 : ℕ = at + place_size l in
    let first : List Instr = place_code lay st.free l at in
    let has1 = has_back w.code.instrs at at1 first (keep_code l st.free) (ap (λ (j : ℕ). at + j) (place_length lay st.free l at fits.0)) has in
    subst (λ (q : Flow (Option Address)). Follows w (here w at [] locals s) lo hi [] (always to) no_stack (KeepsPlace w lay (Some l)) q) (sym (assoc (offset_mean v ps 0 store s) (λ k. address_of b k) (λ address. Goes (Some address))))
    (follows_then
    (target_runs w v lay bodies inside lo hi st.free b ps n at [] locals store s stands.suited names stands.free fits.0 low (omega arith) (has_front w.code.instrs at first (keep_code l st.free) has)
    (open_here w v inside (λ c. parts_within v c ps store s) stands.suited.open_now within) h)
    (λ k store1 s1 locals1 q.
    let r = (keep_runs w b ps n k st.free at1 to lo hi [] locals1 store1 s1 stands.free names has1 (omega arith) (omega arith) high q.1).by in
    record { by = record { locals = r.locals; holds = record { kept = kept_offset l k; is = (fits.0.0, k, fits.0.1, fits.0.2, q.0, refl, refl); holds = r.holds }; by = r.by } }))

-- the location gets the instance, which is kept as the second of two numbers
pub set_runs : (w : Around) (st : Standing) (set : Option LocationTree) (address : Option Address) (ks : List ℤ) (x : ℤ) (by at to lo hi : ℕ) (locals : List ℤ) (store : Store) (s : Session)
    → (layout st.site).rows ≡ w.rows → st.free ≡ free_in w → FitsSet (layout st.site) set → IsKept (layout st.site) set address ks
    → HasAt w.code.instrs at (set_code st set) → at + set_size set ≡ to → lo ≤ at → to ≤ hi
    → Holds (keeping (keeping w ks) (x ∷ pos by ∷ [])) store locals
    → Does (keeping (keeping w ks) (x ∷ pos by ∷ [])) (here w at [] locals s) lo hi [] to (set_to address by store s)
set_runs w st None address ks x by at to lo hi locals store s rows free_is fits is has len low high h =
    subst (λ (a : Option Address). Does (keeping (keeping w ks) (x ∷ pos by ∷ [])) (here w at [] locals s) lo hi [] to (set_to a by store s)) (sym is.0) (comes {v = tt} (let e : at ≡ to = omega arith in e) refl (tt, h))
set_runs w st (Some (location b ps n)) address ks x by at to lo hi locals store s rows free_is fits is has len low high h =
    let lay : Layout = layout st.site in
    let l : LocationTree = location b ps n in
    let w2 : Around = keeping (keeping w ks) (x ∷ pos by ∷ []) in
    let k : ℕ = is.1 in
    let at1 : ℕ = at + offsets_kept l in
    let p : ℕ = chosen_in st.free (Some l) + 1 in
    let store_it : List Instr = store_code lay l in
    let has1 = has_back w.code.instrs at at1 (kept_code l st.free) (i.Local p 1 ∷ store_it) (ap (λ (j : ℕ). at + j) (where_length l (i.Local st.free 1 ∷ []) 1 refl)) has in
    let shape : w2.kept ≡ w.kept ++ (kept_offset l k ++ (x ∷ pos by ∷ [])) = append_assoc w.kept ks (x ∷ pos by ∷ []) ∙ ap (λ (ls : List ℤ). w.kept ++ (ls ++ (x ∷ pos by ∷ []))) is.6 in
    let long : length ks ≡ offsets_kept l = kept_long lay (Some l) address ks is in
    let before : List ℤ = (w.kept ++ ks) ++ one x in
    let shape2 : w2.kept ≡ before ++ (one (pos by) ++ []) = sym (append_assoc (w.kept ++ ks) (one x) (one (pos by))) in
    let place_is : p ≡ scalars_in w.rows + (w.results + length before) = omega (arith, free_is, long, length-append (w.kept ++ ks) (one x), length-append w.kept ks) in
    let part : HasPart locals p 1 (one (pos by)) = kept_read w2 store locals before (one (pos by)) [] p 1 h shape2 place_is refl in
    subst (λ (a : Option Address). Does w2 (here w at [] locals s) lo hi [] to (set_to a by store s)) (sym is.5)
    (after (found_runs w2 b ps n k st.free at at1 w.kept (x ∷ pos by ∷ []) [] locals store s shape free_is (has_front w.code.instrs at (kept_code l st.free) (i.Local p 1 ∷ store_it) has) refl h)
    (after (puts_on w2 (i.Local p 1) at1 (place_stack b ps [] k) locals s (one (pos by)) has1.0 refl (ap in_frame part.is))
    (subst (λ (m : ℕ). HasAt w.code.instrs (at1 + 1) store_it → Does w2 (here w (at1 + 1) (place_stack b ps [] k ++ one (pos by)) locals s) lo hi [] to (assign_at m (address_of b k) (one (pos by)) store s)) fits.1
    (λ has2. store_runs w2 lay b ps is.0 n k (at1 + 1) to lo hi [] (one (pos by)) locals store s rows is.2 is.3 is.4 (sym fits.1) has2 (omega arith) (omega arith) (omega arith) h) has1.1)))
