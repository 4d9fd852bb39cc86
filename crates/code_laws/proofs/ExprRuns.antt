-- The instructions of each expression follow its meaning.
use Rattle.std.proofs.Common.{◌≡◌, ℕ, suc, ◌+◌, ◌-◌, ◌*◌, ◌<◌, ◌≤◌, if◌then◌else◌, Bool, true, false, ◌&&◌, List, [], ◌∷◌, ◌++◌, ℤ, pos, nat_abs, length, Option, Some, None, slice_get, refl, sym, ap, ◌∙◌, subst, arith, append_assoc, append-nil, length-append, ◌⊎◌, inl, inr}
use Rattle.kernel_base.specs.declared.ends.Exc.TheVariants.{Overflow}
use Rattle.kernel_base.specs.declared.request.Request.TheVariants.{Start, Get}
use Rattle.world_model.specs.Session.{Session}
use Rattle.modes.specs.declared.mode.Bounds.{Bounds}
use Rattle.modes.specs.Bounds.{count_between}
use Rattle.modes.specs.Scalars.{repeated, lowest_of}
use Rattle.checked_program.specs.declared.program.Parameter.{Parameter}
use Rattle.checked_program.specs.declared.expr.Binary.{Binary}
use Rattle.checked_program.specs.declared.expr.Binary.TheVariants.{AndIf, OrIf}
use Rattle.program_trees.specs.ExprTree.{expr, OperationTree, constant, own_instance, contents, part_of, receive, start, call, powerset, parts, uniform, routine, get_int, prefixed, binary, ReceivedTree, received, ReceivedNodes, no_received, more_received, PartNodes, no_parts, field, element, RangeNodes, no_ranges, one_member, members, LocationTree, location, started, called, ArgumentNodes, no_arguments, in_argument, out_argument, inout_argument, count_of, received_count}
use Rattle.program_trees.specs.ProgramTree.{LocalRowTree, BodyRowTree}
use Rattle.scalar_operators.specs.Powersets.{union, span_of}
use Rattle.scalar_operators.specs.Members.{no_members}
use Rattle.code_types.specs.declared.instr.Instr.{Instr}
use Rattle.code_types.specs.declared.instr.Instr.TheVariants as i
use Rattle.code_types.specs.Actions.{result_or}
use Rattle.source_meaning.specs.Store.{Store, brings, lowest, address_of}
use Rattle.source_meaning.specs.Flow.{Flow, Goes, Meaning, then_do}
use Rattle.source_meaning.specs.Operators.{sole_number, one, offset_within, empty_within, binary_value, takes_second}
use Rattle.source_meaning.specs.ExprMeaning.{Calls, Setting, CopyOut, Passed, takens, all_copied_out, call_with, call_mean, arguments_mean, place_mean, or_rangefail, read_at, as_computed, tested, expr_mean, operation_mean, received_mean, all_received_mean, offset_mean, members_mean}
use Rattle.source_meaning.specs.BodyMeaning.{Bodies, calls_in}
use Rattle.source_meaning.specs.Fitting.{has_instances}
use Rattle.code_scheme.specs.Pieces.{Layout, copies_code, check_code, bounds_to_test, bounds_of_value, between_code, between_size, behind_code, behind_size, prefix_code, routine_code, member_code, has_index, first_of_parts, needs_offset, contents_code, contents_at, pushes, tested_in, offsets_kept, keep_code, kept_code, copies_out, kept_behind, lowest_in_row, lowest_as, rows_of}
use Rattle.code_scheme.specs.ExprSizes.{sum_size, expr_size, operation_size, place_size, indices_size, received_size, received_sizes, members_size, copies_out_size, arguments_size}
use Rattle.code_scheme.specs.ExprCode.{counts_of, sum_code, cut_code, member_offset, expr_code, operation_code, place_code, indices_code, received_code, received_codes, members_code, arguments_code}
use Rattle.follow_laws.specs.Follows.{HasAt, Around, scalars_in, free_in, keeping, here, Holds, GetsTo, Follows, always, HoldsWith, on_top, IsLong, Gives}
use Rattle.code_laws.specs.BodyBounds.{BodiesWithin}
use Rattle.code_laws.specs.Calls.{taken_scalars, parameters_back, results_back, result_scalars, open_in}
use Rattle.code_laws.specs.InRange.{IsOffset, AreMembers, OperandsFit, FitsOperation, FitsReceived, FitsAll, FitsParts, FitsRanges, FitsArguments}
use Rattle.code_laws.specs.OwnBounds.{where_goes, copies_within, arguments_within, expr_within, operation_within, received_within, all_within, parts_within, members_within}
use Rattle.code_laws.specs.Expressions.{Suited, NamesIn, calls_at, ExprLaw}
use Rattle.follow_laws.proofs.Running.{has_front, has_back, gets_then, after, follows_then, follows_then_is, comes, forgetting}
use Rattle.follow_laws.proofs.Requesting.{none_takes, value_by}
use Rattle.follow_laws.proofs.Instructions.{pushes_by, puts_on, renamed, offset_on, index_by}
use Rattle.code_scheme.proofs.Lemmas.{fitted_length, fitted_all}
use Rattle.code_laws.proofs.Sizes.{copies_from_length, between_length, expr_length, received_length, all_length, place_length, indices_length, arguments_length, AreFrom, all_from, first_from, others_from, place_by, where_length, pushes_length, contents_length}
use Rattle.code_laws.proofs.Values.{both_true, IsWithin, offset_found, repeated_length, copies_of, scalars_run, pushes_run}
use Rattle.code_laws.proofs.OperatorRuns.{held, behind_runs}
use Rattle.code_laws.proofs.BetweenRuns.{result_int, between_runs, over_runs, prefix_runs, routine_runs}
use Rattle.code_laws.proofs.PlaceRuns.{contents_runs, offset_stack, stays_first, LeadsTo, as_place}
use Rattle.code_laws.proofs.ExprPieces.{reshaped, assoc, there, value_lies, tested_runs, cut_runs, small_int, IndicesFollow, place_runs, width_one, span_one, over_one}
use Rattle.code_laws.proofs.ReceiveRuns.{receive_runs}
use Rattle.code_laws.proofs.CallRuns.{call_runs}
use Rattle.code_laws.proofs.CallPieces.{PassedFit, kept_offset, kept_of, takens_fit, keep_none, keep_runs, found_runs, after_unit, as_lies, copies_runs, kept_suited, kept_free, kept_more, kept_end, forgetting_holds}

-- fields alone lead inside
pub fields_fit : (lay : Layout) (ps : PartNodes) (of n : ℕ) → FitsParts lay of ps n → first_of_parts ps + n ≤ of ⊎ (has_index ps ≡ true)
fields_fit lay no_parts of n fits = inl (omega (arith, fits))
fields_fit lay (field first count ps) of n fits = more (fields_fit lay ps count n fits.1)
  where
    more : first_of_parts ps + n ≤ count ⊎ (has_index ps ≡ true) → first + first_of_parts ps + n ≤ of ⊎ (has_index ps ≡ true)
    more (inl e) = inl (omega (arith, fits.0))
    more (inr e) = inr e
fields_fit lay (element e b count ps) of n fits = inr refl

-- a binary operation whose first operand has its value
takes_by : (w : Around) (o : Binary) (xs : List ℤ) (m : ℕ) (t : Bool) (at to lo hi : ℕ) (stack locals : List ℤ) (store : Store) (s : Session) (second : Meaning (List ℤ))
    → takes_second o xs ≡ t
    → (takes_second o xs ≡ true → Follows w (here w at (stack ++ xs) locals s) lo hi [] (always to) (on_top stack) (HoldsWith w (IsLong 1)) (then_do (second store s) (λ ys. as_computed (binary_value o xs ys))))
    → (takes_second o xs ≡ false → Follows w (here w at (stack ++ xs) locals s) lo hi [] (always to) (on_top stack) (HoldsWith w (IsLong 1)) (Goes xs store s))
    → Follows w (here w at (stack ++ xs) locals s) lo hi [] (always to) (on_top stack) (HoldsWith w (IsLong 1)) (if t then then_do (second store s) (λ ys. as_computed (binary_value o xs ys)) else Goes xs store s)
takes_by w o xs m true at to lo hi stack locals store s second is yes_case no_case = yes_case is
takes_by w o xs m false at to lo hi stack locals store s second is yes_case no_case = no_case is

-- an offset behind an index: the sum with the one below, where there is one
sum_run : (w : Around) (is_first : Bool) (j of : ℕ) (z : ℤ) (at : ℕ) (base locals : List ℤ) (s : Session)
    → (is_first ≡ true → j ≡ 0) → pos (nat_abs z) ≡ z → j + nat_abs z ≤ of → IsOffset of
    → HasAt w.code.instrs at (sum_code is_first)
    → GetsTo w.code (here w at (offset_on (offset_stack is_first base j) z) locals s) (here w (at + sum_size is_first) (base ++ one (pos (j + nat_abs z))) locals s)
sum_run w true j of z at base locals s none natural inside small has =
    renamed w at (at + 0) (base ++ one z) (base ++ one (pos (j + nat_abs z))) locals s (let e : at ≡ at + 0 = omega arith in e)
    (ap (λ (k : ℤ). base ++ one k) (sym natural ∙ ap (λ (k : ℕ). pos k) (let first : j ≡ 0 = none refl in let e : nat_abs z ≡ j + nat_abs z = omega arith in e)))
sum_run w false j of z at base locals s none natural inside small has =
    let m : ℕ = nat_abs z in
    gets_then (renamed w at at ((base ++ one (pos j)) ++ one z) (base ++ (pos j ∷ pos m ∷ [])) locals s refl (append_assoc base (one (pos j)) (one z) ∙ ap (λ (k : ℤ). base ++ (pos j ∷ k ∷ [])) (sym natural)))
    (pushes_by w i.Add at base (pos j ∷ pos m ∷ []) locals s (one (pos (j + m))) has.0 refl (ap (result_or Overflow) (result_int (pos (j + m)) (small_int (j + m) (omega arith)))))

no_indices_size : (is_first : Bool) (ps : PartNodes) → has_index ps ≡ false → indices_size is_first ps ≡ 0
no_indices_size is_first no_parts e = refl
no_indices_size is_first (field first count ps) e = no_indices_size is_first ps e
no_indices_size is_first (element x b count ps) e = absurd (let no : ⊥ = cc in no)

-- where the part behind indices ends
cut_end : (ps : PartNodes) (n of at1 to : ℕ) (t : Bool) → has_index ps ≡ t
    → at1 + ((if t then indices_size true ps + length (member_code (pos (first_of_parts ps))) else 0) + 1) ≡ to
    → at1 + indices_size true ps + length (if t then member_code (pos (first_of_parts ps)) ++ i.PartAt n of ∷ [] else i.Part (first_of_parts ps) n of ∷ []) ≡ to
cut_end ps n of at1 to true is e = omega (arith, length-append (member_code (pos (first_of_parts ps))) (i.PartAt n of ∷ []))
cut_end ps n of at1 to false is e = omega (arith, no_indices_size true ps is)

sum_end : (is_first : Bool) (at p : ℕ) → at + sum_size is_first ≡ p → at + length (sum_code is_first) ≡ p
sum_end true at p e = e
sum_end false at p e = e

-- ANDIF and ORIF have nothing behind their second operand
pub over_end : (o : Binary) (own : Option Bounds) (xs : List ℤ) (second at to : ℕ) → takes_second o xs ≡ false → at + (between_size o own + (second + behind_size o)) ≡ to → at + (between_size o own + second) ≡ to
over_end AndIf own xs second at to takes e = omega arith
over_end OrIf own xs second at to takes e = omega arith
over_end o own xs second at to takes e = absurd (let no : ⊥ = cc in no)

-- the call of a body whose arguments are on the stack, and what is copied out behind it
call_runs_on : (w : Around) (v : Setting) (lay : Layout) (bodies : Bodies) (inside : BodiesWithin) (lo hi free b : ℕ) (body : BodyRowTree) (as' : ArgumentNodes) (qs : List Passed) (at to : ℕ) (stack locals : List ℤ) (store : Store) (s : Session)
    → Suited w v lay bodies inside → NamesIn w lo hi → free ≡ free_in w
    → slice_get lay.program.bodies b ≡ Some body → has_instances body.sort ≡ false → FitsArguments lay as' body.parameters body.locals
    → at + (1 + copies_out_size as') ≡ to → lo ≤ at → to ≤ hi
    → slice_get w.code.instrs at ≡ Some (i.Call b) → HasAt w.code.instrs (at + 1) (copies_out lay as' free (kept_behind as' free))
    → (calls_at inside w b (takens qs) s && where_goes (v.calls v.open_now b (takens qs) store s) (λ final store2 s2. copies_within as' final.locals)) ≡ true
    → PassedFit lay as' body.locals qs → Holds (keeping w (kept_of as' qs)) store locals
    → Gives w (here w at (stack ++ taken_scalars body.locals (takens qs)) locals s) lo hi to (on_top stack) (IsLong (result_scalars body.result)) (call_with v b qs store s)
call_runs_on w v lay bodies inside lo hi free b body as' qs at to stack locals store s suited names free_is is_body procedure fits e low high has rest within passed h =
    let w1 : Around = keeping w (kept_of as' qs) in
    let frames : ℕ = suc (length w.below) in
    let calls_is : v.calls v.open_now b (takens qs) store s ≡ calls_in lay.program bodies frames (open_in w.regions) b (takens qs) store s =
    ap (λ (c : List ℕ → Calls). c v.open_now b (takens qs) store s) suited.calls ∙ ap (λ (rs : List ℕ). calls_in lay.program bodies frames rs b (takens qs) store s) suited.open_now in
    let both = both_true _ _ within in
    let goes_within = subst (λ (o : Flow Store). where_goes o (λ final store2 s2. copies_within as' final.locals) ≡ true) calls_is both.1 in
    let free_end : kept_behind as' free ≡ free_in w1 = kept_end lay as' body.locals qs free passed ∙ (let z : free + length (kept_of as' qs) ≡ scalars_in w.rows + (w.results + length (w.kept ++ kept_of as' qs)) = omega (arith, free_is, length-append w.kept (kept_of as' qs)) in z) in
    subst (λ (o : Flow Store). Gives w (here w at (stack ++ taken_scalars body.locals (takens qs)) locals s) lo hi to (on_top stack) (IsLong (result_scalars body.result)) (then_do o (λ final store1 s1. then_do (all_copied_out qs final.locals store1 s1) (λ x. Goes final.result)))) (sym calls_is)
    (forgetting_holds w (kept_of as' qs)
    (follows_then_is
    (call_runs w1 lay.program bodies inside b body (takens qs) at lo hi [] stack locals store s suited.follow is_body procedure suited.entered (takens_fit lay as' body.parameters body.locals qs fits passed) has low (omega arith) (none_takes at) h both.0)
    (λ final store1 s1 locals1 q is.
    after (renamed w1 (at + 1) (at + 1) (stack ++ results_back body final) ((stack ++ final.result) ++ parameters_back body.parameters final.locals) locals1 s1 refl (sym (append_assoc stack final.result (parameters_back body.parameters final.locals))))
    (follows_then
    (copies_runs w1 lay as' body.parameters body.locals qs final.locals 0 free (kept_behind as' free) (at + 1) to lo hi w.kept [] (stack ++ final.result) locals1 store1 s1 suited.rows fits passed q.0.fit (there (calls_in lay.program bodies frames (open_in w.regions) b (takens qs) store s) _ final store1 s1 goes_within is)
    (ap (λ (ks : List ℤ). w.kept ++ ks) (sym (append-nil (kept_of as' qs)))) free_is free_end names rest (omega arith) (omega arith) high q.1)
    (λ x store2 s2 locals2 q2. comes {v = final.result} refl refl (q.0.result, q2.1))))))

mutual
  pub expr_runs : ExprLaw
  expr_runs w v lay bodies inside lo hi free (expr n own o) at to stack locals store s suited names free_is fits e low high has within h =
      operation_runs w v lay bodies inside lo hi free n o at to stack locals store s suited names free_is fits e low high has (both_true _ _ within).0 h

  pub operation_runs : (w : Around) (v : Setting) (lay : Layout) (bodies : Bodies) (inside : BodiesWithin) (lo hi free n : ℕ) (o : OperationTree) (at to : ℕ) (stack locals : List ℤ) (store : Store) (s : Session)
      → Suited w v lay bodies inside → NamesIn w lo hi → free ≡ free_in w → FitsOperation lay n o
      → at + operation_size o ≡ to → lo ≤ at → to ≤ hi
      → HasAt w.code.instrs at (operation_code lay free n o at)
      → operation_within v (calls_at inside w) n o store s ≡ true
      → Holds w store locals
      → Gives w (here w at stack locals s) lo hi to (on_top stack) (IsLong n) (operation_mean v n o store s)
  operation_runs w v lay bodies inside lo hi free n (constant xs) at to stack locals store s suited names free_is fits e low high has within h =
      after (scalars_run w xs at stack locals s (omega (arith, fits.0, fits.1)) has) (comes {v = xs} e refl (fits.0, h))
  operation_runs w v lay bodies inside lo hi free n own_instance at to stack locals store s suited names free_is fits e low high has within h =
      after (puts_on w i.This at stack locals s (one (pos w.instance)) has.0 refl refl)
      (comes {v = one (pos v.instance)} e (ap (λ (j : ℕ). stack ++ one (pos j)) (sym suited.instance)) (sym fits, h))
  operation_runs w v lay bodies inside lo hi free n (contents (location b ps m)) at to stack locals store s suited names free_is fits e low high has within h =
      let l : LocationTree = location b ps m in
      let of : ℕ = fits.0.0 in
      let at1 : ℕ = at + place_size l in
      let code : List Instr = place_code lay free l at in
      let has1 : HasAt w.code.instrs at1 (contents_at lay b ps m) = has_back w.code.instrs at at1 code (contents_code lay l) (ap (λ (j : ℕ). at + j) (place_length lay free l at fits.0)) has in
      subst (λ (o : Flow (List ℤ)). Gives w (here w at stack locals s) lo hi to (on_top stack) (IsLong n) o) (sym (assoc (offset_mean v ps 0 store s) (λ k. address_of b k) (read_at n)))
      (subst (λ (j : ℕ). Gives w (here w at stack locals s) lo hi to (on_top stack) (IsLong j) (then_do (offset_mean v ps 0 store s) (λ k. read_at j (address_of b k)))) fits.1
      (follows_then
      (place_runs w v lay free b ps of m at at1 lo hi stack locals store s (fields_fit lay ps of m fits.0.3)
      (λ t_is h2. indices_runs w v lay bodies inside lo hi free true ps of m 0 0 at stack locals store s suited names free_is fits.0.3 (λ z. refl) (let small : 0 + of < 2147483648 = omega (arith, fits.0.2) in small) low (let room : at + indices_size true ps ≤ hi = omega (arith, e, high, ap (λ (t : Bool). if t then indices_size true ps else if needs_offset b ps then 1 else 0) t_is) in room) h2 within h)
      (has_front w.code.instrs at code (contents_code lay l) has) refl h)
      (λ k store1 s1 locals1 q. contents_runs w lay b ps of m k at1 to lo hi stack locals1 store1 s1 suited.rows fits.0.1 fits.0.2 q.0 has1 (omega arith) (omega arith) (omega arith) q.1)))
  operation_runs w v lay bodies inside lo hi free n (part_of e ps) at to stack locals store s suited names free_is fits len low high has within h =
      let of : ℕ = count_of e in
      let at1 : ℕ = at + expr_size e in
      let at2 : ℕ = at1 + indices_size true ps in
      let first : List Instr = expr_code lay free e at in
      let second : List Instr = indices_code lay free true ps at1 in
      let cut : List Instr = cut_code ps n of in
      let has1 = has_back w.code.instrs at at1 first (second ++ cut) (ap (λ (j : ℕ). at + j) (expr_length lay free e at fits.0)) has in
      let has2 = has_back w.code.instrs at1 at2 second cut (ap (λ (j : ℕ). at1 + j) (indices_length lay free true ps of n at1 fits.1)) has1 in
      let cut_is : at2 + length cut ≡ to = cut_end ps n of at1 to (has_index ps) refl (omega (arith, len)) in
      follows_then_is
      (expr_runs w v lay bodies inside lo hi free e at at1 stack locals store s suited names free_is fits.0 refl low (omega arith) (has_front w.code.instrs at first (second ++ cut) has) (both_true _ _ within).0 h)
      (λ xs store1 s1 locals1 q is.
      follows_then
      (indices_runs w v lay bodies inside lo hi free true ps of n 0 0 at1 (stack ++ xs) locals1 store1 s1 suited names free_is fits.1 (λ z. refl) (let small : 0 + of < 2147483648 = omega (arith, fits.2) in small) (omega arith) (omega arith) (has_front w.code.instrs at1 second cut has1) (there (expr_mean v e store s) _ xs store1 s1 (both_true _ _ within).1 is) q.1)
      (λ k store2 s2 locals2 q2.
      after (renamed w at2 at2 (offset_stack (stays_first true ps) (stack ++ xs) (0 + (k - (0 + first_of_parts ps)))) (offset_stack (stays_first true ps) (stack ++ xs) (k - first_of_parts ps)) locals2 s2 refl (ap (λ (j : ℕ). offset_stack (stays_first true ps) (stack ++ xs) j) (let z : 0 + (k - (0 + first_of_parts ps)) ≡ k - first_of_parts ps = omega arith in z)))
      (cut_runs w ps n of k at2 to lo hi stack xs locals2 store2 s2 q.0 fits.2 (as_place ps of n k q2.0) has2 cut_is q2.1)))
  operation_runs w v lay bodies inside lo hi free n (receive b) at to stack locals store s suited names free_is fits e low high has within h =
      let room : free + n ≤ w.row.locals = names (at + 1 + 1 + 1 + 1 + 1) (i.Local free n) (omega arith) (omega arith) has.1.1.1.1.1.0 in
      receive_runs w b n free at to lo hi stack locals store s free_is fits room has e low high h
  operation_runs w v lay bodies inside lo hi free n (start (started p rs)) at to stack locals store s suited names free_is fits e low high has within h =
      let at1 : ℕ = at + received_sizes rs in
      let first : List Instr = received_codes lay free rs at in
      let has1 = has_back w.code.instrs at at1 first (i.Start p (counts_of rs) ∷ []) (ap (λ (j : ℕ). at + j) (all_length lay free rs at fits.0)) has in
      follows_then
      (all_runs w v lay bodies inside lo hi free rs at at1 stack locals store s suited names free_is fits.0 refl low (omega arith) (has_front w.code.instrs at first (i.Start p (counts_of rs) ∷ []) has) within h)
      (λ xs store1 s1 locals1 q.
      value_by w (i.Start p (counts_of rs)) lo hi to n [] at1 (Start p xs) stack xs locals1 store1 s1 has1.0 (sym q.0) refl (sym fits.1) (omega arith) (omega arith) (omega arith) (none_takes at1) q.1)
  operation_runs w v lay bodies inside lo hi free n (call (called b as')) at to stack locals store s suited names free_is fits e low high has within h =
      let body : BodyRowTree = fits.0 in
      let all : List LocalRowTree = rows_of (slice_get lay.program.bodies b) in
      let at1 : ℕ = at + arguments_size as' in
      let behind : ℕ = kept_behind as' free in
      let first : List Instr = arguments_code lay all 0 free as' at in
      let rest : List Instr = copies_out lay as' free behind in
      let from : AreFrom all 0 body.locals = all_from (slice_get lay.program.bodies b) body fits.1 in
      let has1 = has_back w.code.instrs at at1 first (i.Call b ∷ rest) (ap (λ (j : ℕ). at + j) (arguments_length lay as' all body.locals 0 free body.parameters at from fits.4)) has in
      subst (λ (j : ℕ). Gives w (here w at stack locals s) lo hi to (on_top stack) (IsLong j) (call_mean v (called b as') store s)) fits.3
      (follows_then_is
      (arguments_run w v lay bodies inside lo hi free as' all body.locals 0 body.parameters at at1 stack locals store s suited names free_is from fits.4 refl low (omega arith) (has_front w.code.instrs at first (i.Call b ∷ rest) has) (both_true _ _ within).0 h)
      (λ qs store1 s1 locals1 q is.
      call_runs_on w v lay bodies inside lo hi free b body as' qs at1 to stack locals1 store1 s1 suited names free_is fits.1 fits.2 fits.4 (omega arith) (omega arith) high has1.0 has1.1 (there (arguments_mean v as' store s) _ qs store1 s1 (both_true _ _ within).1 is) q.0 q.1))
  operation_runs w v lay bodies inside lo hi free n (powerset b rs) at to stack locals store s suited names free_is fits e low high has within h =
      let none : empty_within b ≡ one (pos 0) = ap (λ (k : ℕ). no_members k) (width_one b fits.1) in
      subst (λ (j : ℕ). Gives w (here w at stack locals s) lo hi to (on_top stack) (IsLong j) (members_mean v b rs (empty_within b) store s)) (sym fits.2)
      (subst (λ (l : List ℤ). Gives w (here w at stack locals s) lo hi to (on_top stack) (IsLong 1) (members_mean v b rs l store s)) (sym none)
      (after (puts_on w (i.Push (pos 0)) at stack locals s (one (pos 0)) has.0 refl refl)
      (members_runs w v lay bodies inside lo hi free b rs (pos 0) (at + 1) to stack locals store s suited names free_is fits.0 fits.1 (omega arith) (omega arith) high has.1 within h)))
  operation_runs w v lay bodies inside lo hi free n (parts rs) at to stack locals store s suited names free_is fits e low high has within h =
      subst (λ (j : ℕ). Gives w (here w at stack locals s) lo hi to (on_top stack) (IsLong j) (all_received_mean v rs store s)) fits.1
      (all_runs w v lay bodies inside lo hi free rs at to stack locals store s suited names free_is fits.0 e low high has within h)
  operation_runs w v lay bodies inside lo hi free n (uniform m r) at to stack locals store s suited names free_is fits e low high has within h =
      let at1 : ℕ = at + received_size r in
      let first : List Instr = received_code lay free r at in
      let rest : List Instr = copies_code m (received_count r) in
      let has1 = has_back w.code.instrs at at1 first rest (ap (λ (j : ℕ). at + j) (received_length lay free r at fits.0)) has in
      let end : at1 + length rest ≡ to = omega (arith, copies_from_length 32 1 m (received_count r) 0) in
      follows_then
      (received_runs w v lay bodies inside lo hi free r at at1 stack locals store s suited names free_is fits.0 refl low (omega arith) (has_front w.code.instrs at first rest has) within h)
      (λ xs store1 s1 locals1 q.
      after (copies_of w m (received_count r) at1 stack xs locals1 s1 q.0 fits.1 fits.2 has1)
      (comes {v = repeated m xs} end refl (repeated_length m (received_count r) xs q.0 ∙ fits.3, q.1)))
  operation_runs w v lay bodies inside lo hi free n (routine r e) at to stack locals store s suited names free_is fits len low high has within h =
      let at1 : ℕ = at + expr_size e in
      let first : List Instr = expr_code lay free e at in
      let has1 = has_back w.code.instrs at at1 first (routine_code r) (ap (λ (j : ℕ). at + j) (expr_length lay free e at fits.0)) has in
      subst (λ (j : ℕ). Gives w (here w at stack locals s) lo hi to (on_top stack) (IsLong j) (operation_mean v n (routine r e) store s)) (sym fits.2)
      (follows_then
      (expr_runs w v lay bodies inside lo hi free e at at1 stack locals store s suited names free_is fits.0 refl low (omega arith) (has_front w.code.instrs at first (routine_code r) has) within h)
      (λ xs store1 s1 locals1 q. routine_runs w r xs at1 to lo hi stack locals1 store1 s1 (q.0 ∙ fits.1) has1 (omega arith) (omega arith) high q.1))
  operation_runs w v lay bodies inside lo hi free n get_int at to stack locals store s suited names free_is fits e low high has within h =
      after (renamed w at at stack (stack ++ []) locals s refl (sym (append-nil stack)))
      (value_by w i.GetInt lo hi to n [] at Get stack [] locals store s has.0 refl refl (sym fits) e low (omega arith) (none_takes at) h)
  operation_runs w v lay bodies inside lo hi free n (prefixed o e) at to stack locals store s suited names free_is fits len low high has within h =
      let at1 : ℕ = at + expr_size e in
      let first : List Instr = expr_code lay free e at in
      let has1 = has_back w.code.instrs at at1 first (prefix_code o) (ap (λ (j : ℕ). at + j) (expr_length lay free e at fits.0)) has in
      subst (λ (j : ℕ). Gives w (here w at stack locals s) lo hi to (on_top stack) (IsLong j) (operation_mean v n (prefixed o e) store s)) (sym fits.2)
      (follows_then
      (expr_runs w v lay bodies inside lo hi free e at at1 stack locals store s suited names free_is fits.0 refl low (omega arith) (has_front w.code.instrs at first (prefix_code o) has) within h)
      (λ xs store1 s1 locals1 q. prefix_runs w o xs at1 to lo hi stack locals1 store1 s1 (q.0 ∙ fits.1) has1 (omega arith) (omega arith) (omega arith) q.1))
  operation_runs w v lay bodies inside lo hi free n (binary o a b) at to stack locals store s suited names free_is fits len low high has within h =
      let all : List Instr = w.code.instrs in
      let own : Option Bounds = bounds_of_value a in
      let m : ℕ = count_of a in
      let at1 : ℕ = at + expr_size a in
      let at2 : ℕ = at1 + between_size o own in
      let at3 : ℕ = at2 + expr_size b in
      let first : List Instr = expr_code lay free a at in
      let between : List Instr = between_code o own at1 (expr_size b) in
      let second : List Instr = expr_code lay free b at2 in
      let behind : List Instr = behind_code o m in
      let has1 = has_back all at at1 first (between ++ (second ++ behind)) (ap (λ (j : ℕ). at + j) (expr_length lay free a at fits.0)) has in
      let has2 = has_back all at1 at2 between (second ++ behind) (ap (λ (j : ℕ). at1 + j) (between_length o own at1 (expr_size b))) has1 in
      let has3 = has_back all at2 at3 second behind (ap (λ (j : ℕ). at2 + j) (expr_length lay free b at2 fits.1)) has2 in
      let within_a = (both_true _ _ within).0 in
      subst (λ (j : ℕ). Gives w (here w at stack locals s) lo hi to (on_top stack) (IsLong j) (operation_mean v n (binary o a b) store s)) (sym fits.3)
      (follows_then_is
      (expr_runs w v lay bodies inside lo hi free a at at1 stack locals store s suited names free_is fits.0 refl low (omega arith) (has_front all at first (between ++ (second ++ behind)) has) within_a h)
      (λ xs store1 s1 locals1 q is.
      let operands = subst (λ (j : ℕ). OperandsFit o j (count_of b)) (sym q.0) fits.2 in
      let lies = value_lies v (calls_at inside w) a store store1 s s1 xs within_a is in
      let within_b = there (expr_mean v a store s) _ xs store1 s1 (both_true _ _ within).1 is in
      takes_by w o xs m (takes_second o xs) at1 to lo hi stack locals1 store1 s1 (expr_mean v b) refl
      (λ takes.
      after (between_runs w o own (count_of b) xs (expr_size b) at1 stack locals1 s1 operands takes lies (has_front all at1 between (second ++ behind) has1))
      (follows_then
      (expr_runs w v lay bodies inside lo hi free b at2 at3 (stack ++ held o xs) locals1 store1 s1 suited names free_is fits.1 refl (omega arith) (omega arith) (has_front all at2 second behind has2)
      (subst (λ (t : Bool). (if t then expr_within v (calls_at inside w) b store1 s1 else true) ≡ true) takes within_b) q.1)
      (λ ys store2 s2 locals2 q2.
      behind_runs w o m xs ys at3 to lo hi stack locals2 store2 s2 q.0 (subst (λ (j : ℕ). OperandsFit o m j) (sym q2.0) fits.2) has3 (omega arith) (omega arith) high q2.1)))
      (λ takes.
      after (over_runs w o own (count_of b) xs (expr_size b) at1 to stack locals1 s1 operands takes (over_end o own xs (expr_size b) at1 to takes (omega arith)) (has_front all at1 between (second ++ behind) has1))
      (comes {v = xs} refl refl (over_one o xs (count_of b) operands takes, q.1)))))

  pub received_runs : (w : Around) (v : Setting) (lay : Layout) (bodies : Bodies) (inside : BodiesWithin) (lo hi free : ℕ) (r : ReceivedTree) (at to : ℕ) (stack locals : List ℤ) (store : Store) (s : Session)
      → Suited w v lay bodies inside → NamesIn w lo hi → free ≡ free_in w → FitsReceived lay r
      → at + received_size r ≡ to → lo ≤ at → to ≤ hi
      → HasAt w.code.instrs at (received_code lay free r at)
      → received_within v (calls_at inside w) r store s ≡ true
      → Holds w store locals
      → Gives w (here w at stack locals s) lo hi to (on_top stack) (IsLong (received_count r)) (received_mean v r store s)
  received_runs w v lay bodies inside lo hi free (received e b) at to stack locals store s suited names free_is fits len low high has within h =
      let at1 : ℕ = at + expr_size e in
      let first : List Instr = expr_code lay free e at in
      let check : List Instr = check_code (bounds_to_test b (bounds_of_value e)) in
      let has1 = has_back w.code.instrs at at1 first check (ap (λ (j : ℕ). at + j) (expr_length lay free e at fits.0)) has in
      follows_then_is
      (expr_runs w v lay bodies inside lo hi free e at at1 stack locals store s suited names free_is fits.0 refl low (omega arith) (has_front w.code.instrs at first check has) within h)
      (λ xs store1 s1 locals1 q is.
      tested_runs w b (bounds_of_value e) xs (count_of e) at1 to lo hi stack locals1 store1 s1 fits.1 q.0 (inl (value_lies v (calls_at inside w) e store store1 s s1 xs within is)) has1 (omega arith) (omega arith) high q.1)

  pub all_runs : (w : Around) (v : Setting) (lay : Layout) (bodies : Bodies) (inside : BodiesWithin) (lo hi free : ℕ) (rs : ReceivedNodes) (at to : ℕ) (stack locals : List ℤ) (store : Store) (s : Session)
      → Suited w v lay bodies inside → NamesIn w lo hi → free ≡ free_in w → FitsAll lay rs
      → at + received_sizes rs ≡ to → lo ≤ at → to ≤ hi
      → HasAt w.code.instrs at (received_codes lay free rs at)
      → all_within v (calls_at inside w) rs store s ≡ true
      → Holds w store locals
      → Gives w (here w at stack locals s) lo hi to (on_top stack) (IsLong (counts_of rs)) (all_received_mean v rs store s)
  all_runs w v lay bodies inside lo hi free no_received at to stack locals store s suited names free_is fits len low high has within h =
      comes {v = []} (let e : at ≡ to = omega arith in e) (sym (append-nil stack)) (refl, h)
  all_runs w v lay bodies inside lo hi free (more_received r rs) at to stack locals store s suited names free_is fits len low high has within h =
      let at1 : ℕ = at + received_size r in
      let first : List Instr = received_code lay free r at in
      let rest : List Instr = received_codes lay free rs at1 in
      let has1 = has_back w.code.instrs at at1 first rest (ap (λ (j : ℕ). at + j) (received_length lay free r at fits.0)) has in
      follows_then_is
      (received_runs w v lay bodies inside lo hi free r at at1 stack locals store s suited names free_is fits.0 refl low (omega arith) (has_front w.code.instrs at first rest has) (both_true _ _ within).0 h)
      (λ xs store1 s1 locals1 q is.
      follows_then
      (all_runs w v lay bodies inside lo hi free rs at1 to (stack ++ xs) locals1 store1 s1 suited names free_is fits.1 (omega arith) (omega arith) high has1 (there (received_mean v r store s) _ xs store1 s1 (both_true _ _ within).1 is) q.1)
      (λ ys store2 s2 locals2 q2.
      comes {v = xs ++ ys} refl (append_assoc stack xs ys) (length-append xs ys ∙ (ap (λ (j : ℕ). j + length ys) q.0 ∙ ap (λ (j : ℕ). received_count r + j) q2.0), q2.1)))

  pub indices_runs : (w : Around) (v : Setting) (lay : Layout) (bodies : Bodies) (inside : BodiesWithin) (lo hi free : ℕ) (is_first : Bool) (ps : PartNodes) (of n j k at : ℕ) (base locals : List ℤ) (store : Store) (s : Session)
      → Suited w v lay bodies inside → NamesIn w lo hi → free ≡ free_in w → FitsParts lay of ps n
      → (is_first ≡ true → j ≡ 0) → IsOffset (j + of)
      → lo ≤ at → at + indices_size is_first ps ≤ hi
      → HasAt w.code.instrs at (indices_code lay free is_first ps at)
      → parts_within v (calls_at inside w) ps store s ≡ true
      → Holds w store locals
      → IndicesFollow w v lay lo hi free is_first ps of n j k at base locals store s
  indices_runs w v lay bodies inside lo hi free is_first no_parts of n j k at base locals store s suited names free_is fits none small low high has within h =
      comes {v = k} (let e : at ≡ at + 0 = omega arith in e) (ap (λ (i : ℕ). offset_stack is_first base i) (let e : j ≡ j + (k - (k + 0)) = omega arith in e))
      (record { from = omega arith; room = omega (arith, fits); plain = λ z. (let e : k ≡ k + 0 = omega arith in e) }, h)
  indices_runs w v lay bodies inside lo hi free is_first (field first count ps) of n j k at base locals store s suited names free_is fits none small low high has within h =
      reshaped
      (λ to store2 locals2 q. (
        ap (λ (i : ℕ). offset_stack (stays_first is_first ps) base i) (let e : j + (to - (k + first + first_of_parts ps)) ≡ j + (to - (k + (first + first_of_parts ps))) = omega arith in e),
        (record { from = omega (arith, q.0.from); room = omega (arith, q.0.room, fits.0); plain = λ z. q.0.plain z ∙ (let e : k + first + first_of_parts ps ≡ k + (first + first_of_parts ps) = omega arith in e) }, q.1),
      ))
      (indices_runs w v lay bodies inside lo hi free is_first ps count n j (k + first) at base locals store s suited names free_is fits.1 none (omega (arith, fits.0)) low high has within h)
  indices_runs w v lay bodies inside lo hi free is_first (element e b count ps) of n j k at base locals store s suited names free_is fits none small low high has within h =
      let all : List Instr = w.code.instrs in
      let at1 : ℕ = at + expr_size e in
      let at2 : ℕ = at1 + 1 in
      let at3 : ℕ = at2 + sum_size is_first in
      let p : ℕ = at + expr_size e + (1 + sum_size is_first) in
      let same : p ≡ at3 = omega arith in
      let first : List Instr = expr_code lay free e at in
      let sum : List Instr = sum_code is_first in
      let rest : List Instr = indices_code lay free false ps p in
      let has1 = has_back all at at1 first (i.Index b.low b.high count ∷ (sum ++ rest)) (ap (λ (i : ℕ). at + i) (expr_length lay free e at fits.0)) has in
      let has2 : HasAt all at2 (sum ++ rest) = has1.1 in
      let has3 : HasAt all p rest = has_back all at2 p sum rest (sum_end is_first at2 p (omega arith)) has2 in
      let f : ℕ = first_of_parts ps in
      let room : count_between b.low b.high * count ≤ of = fits.2.1 in
      follows_then_is
      (expr_runs w v lay bodies inside lo hi free e at at1 (offset_stack is_first base j) locals store s suited names free_is fits.0 refl low (omega arith) (has_front all at first (i.Index b.low b.high count ∷ (sum ++ rest)) has) (both_true _ _ within).0 h)
      (λ xs store1 s1 locals1 q is.
      follows_then_is
      (index_by w b count (λ z. IsWithin z (count_between b.low b.high) count) xs at1 at2 lo hi [] (offset_stack is_first base j) locals1 store1 s1 (q.0 ∙ fits.1) refl (omega arith) (omega arith) (none_takes at1) (λ z found. offset_found b count (sole_number xs) z fits.2.0 found) has1.0 q.1)
      (λ z store2 s2 locals2 q2 is2.
      let m : ℕ = nat_abs z in
      let fit : m + count ≤ of = omega (arith, q2.0.fits, room) in
      after (sum_run w is_first j (j + of) z at2 base locals2 s2 none q2.0.natural (omega (arith, fit)) small (has_front all at2 sum rest has2))
      (after (renamed w at3 p (base ++ one (pos (j + m))) (base ++ one (pos (j + m))) locals2 s2 (sym same) refl)
      (subst (λ (end : ℕ). Follows w (here w p (base ++ one (pos (j + m))) locals2 s2) lo hi [] (always end) (λ to. offset_stack (stays_first false ps) base (j + (to - (k + f)))) (HoldsWith w (LeadsTo (element e b count ps) of n k)) (offset_mean v ps (k + m) store2 s2)) (let end : p + indices_size false ps ≡ at + indices_size is_first (element e b count ps) = omega arith in end)
      (reshaped
      (λ to store3 locals3 q3. (
        ap (λ (i : ℕ). offset_stack (stays_first false ps) base i) (let e3 : j + m + (to - (k + m + f)) ≡ j + (to - (k + f)) = omega (arith, q3.0.from) in e3),
        (record { from = omega (arith, q3.0.from); room = omega (arith, q3.0.room, fit); plain = λ no_index. absurd (let no : ⊥ = cc in no) }, q3.1),
      ))
      (indices_runs w v lay bodies inside lo hi free false ps count n (j + m) (k + m) p base locals2 store2 s2 suited names free_is fits.3 (λ no_first. absurd (let no : ⊥ = cc in no)) (omega (arith, fit)) (omega arith) (omega arith) has3
      (there (or_rangefail (offset_within b count (sole_number xs)) store1 s1) _ z store2 s2 (there (expr_mean v e store s) _ xs store1 s1 (both_true _ _ within).1 is) is2) q2.1))))))

  pub members_runs : (w : Around) (v : Setting) (lay : Layout) (bodies : Bodies) (inside : BodiesWithin) (lo hi free : ℕ) (b : Bounds) (rs : RangeNodes) (y : ℤ) (at to : ℕ) (stack locals : List ℤ) (store : Store) (s : Session)
      → Suited w v lay bodies inside → NamesIn w lo hi → free ≡ free_in w → FitsRanges lay b rs → AreMembers b
      → at + members_size rs ≡ to → lo ≤ at → to ≤ hi
      → HasAt w.code.instrs at (members_code lay free b rs at)
      → members_within v (calls_at inside w) b rs store s ≡ true
      → Holds w store locals
      → Gives w (here w at (stack ++ one y) locals s) lo hi to (on_top stack) (IsLong 1) (members_mean v b rs (one y) store s)
  members_runs w v lay bodies inside lo hi free b no_ranges y at to stack locals store s suited names free_is fits are len low high has within h =
      comes {v = one y} (let e : at ≡ to = omega arith in e) refl (refl, h)
  members_runs w v lay bodies inside lo hi free b (one_member e rs) y at to stack locals store s suited names free_is fits are len low high has within h =
      let all : List Instr = w.code.instrs in
      let at1 : ℕ = at + expr_size e in
      let p : ℕ = at + expr_size e + 4 in
      let first : List Instr = expr_code lay free e at in
      let rest : List Instr = members_code lay free b rs p in
      let has1 = has_back all at at1 first (member_offset b ∷ i.Copy 1 ∷ i.Span ∷ i.BitOr ∷ rest) (ap (λ (j : ℕ). at + j) (expr_length lay free e at fits.0)) has in
      let there4 : at1 + 1 + 1 + 1 + 1 ≡ p = omega arith in
      let has2 : HasAt all p rest = subst (λ (j : ℕ). HasAt all j rest) there4 has1.1.1.1.1 in
      follows_then_is
      (expr_runs w v lay bodies inside lo hi free e at at1 (stack ++ one y) locals store s suited names free_is fits.0 refl low (omega arith) (has_front all at first (member_offset b ∷ i.Copy 1 ∷ i.Span ∷ i.BitOr ∷ rest) has) (both_true _ _ within).0 h)
      (λ xs store1 s1 locals1 q is.
      follows_then_is
      (index_by w b 1 (λ z. Unit {0}) xs at1 (at1 + 1) lo hi [] (stack ++ one y) locals1 store1 s1 (q.0 ∙ fits.1) refl (omega arith) (omega arith) (none_takes at1) (λ z found. tt) has1.0 q.1)
      (λ z store2 s2 locals2 q2 is2.
      subst (λ (l : List ℤ). Gives w (here w (at1 + 1) ((stack ++ one y) ++ one z) locals2 s2) lo hi to (on_top stack) (IsLong 1) (members_mean v b rs l store2 s2)) (sym (span_one b z z y are))
      (after (pushes_by w (i.Copy 1) (at1 + 1) (stack ++ one y) (one z) locals2 s2 (z ∷ z ∷ []) has1.1.0 refl refl)
      (after (pushes_by w i.Span (at1 + 1 + 1) (stack ++ one y) (z ∷ z ∷ []) locals2 s2 (one (span_of z z)) has1.1.1.0 refl refl)
      (after (renamed w (at1 + 1 + 1 + 1) (at1 + 1 + 1 + 1) ((stack ++ one y) ++ one (span_of z z)) (stack ++ (y ∷ span_of z z ∷ [])) locals2 s2 refl (append_assoc stack (one y) (one (span_of z z))))
      (after (pushes_by w i.BitOr (at1 + 1 + 1 + 1) stack (y ∷ span_of z z ∷ []) locals2 s2 (one (union y (span_of z z))) has1.1.1.1.0 refl refl)
      (after (renamed w (at1 + 1 + 1 + 1 + 1) p (stack ++ one (union y (span_of z z))) (stack ++ one (union y (span_of z z))) locals2 s2 there4 refl)
      (members_runs w v lay bodies inside lo hi free b rs (union y (span_of z z)) p to stack locals2 store2 s2 suited names free_is fits.2 are (omega arith) (omega arith) high has2
      (there (or_rangefail (offset_within b 1 (sole_number xs)) store1 s1) _ z store2 s2 (there (expr_mean v e store s) _ xs store1 s1 (both_true _ _ within).1 is) is2) q2.1))))))))
  members_runs w v lay bodies inside lo hi free b (members e f rs) y at to stack locals store s suited names free_is fits are len low high has within h =
      let all : List Instr = w.code.instrs in
      let at1 : ℕ = at + expr_size e in
      let at2 : ℕ = at1 + 1 in
      let at3 : ℕ = at2 + expr_size f in
      let p : ℕ = at + expr_size e + 1 + expr_size f + 3 in
      let first : List Instr = expr_code lay free e at in
      let second : List Instr = expr_code lay free f at2 in
      let rest : List Instr = members_code lay free b rs p in
      let has1 = has_back all at at1 first (member_offset b ∷ (second ++ (member_offset b ∷ i.Span ∷ i.BitOr ∷ rest))) (ap (λ (j : ℕ). at + j) (expr_length lay free e at fits.0)) has in
      let has2 = has_back all at2 at3 second (member_offset b ∷ i.Span ∷ i.BitOr ∷ rest) (ap (λ (j : ℕ). at2 + j) (expr_length lay free f at2 fits.2)) has1.1 in
      let there3 : at3 + 1 + 1 + 1 ≡ p = omega arith in
      let has3 : HasAt all p rest = subst (λ (j : ℕ). HasAt all j rest) there3 has2.1.1.1 in
      follows_then_is
      (expr_runs w v lay bodies inside lo hi free e at at1 (stack ++ one y) locals store s suited names free_is fits.0 refl low (omega arith) (has_front all at first (member_offset b ∷ (second ++ (member_offset b ∷ i.Span ∷ i.BitOr ∷ rest))) has) (both_true _ _ within).0 h)
      (λ xs store1 s1 locals1 q is.
      follows_then_is
      (index_by w b 1 (λ z. Unit {0}) xs at1 at2 lo hi [] (stack ++ one y) locals1 store1 s1 (q.0 ∙ fits.1) refl (omega arith) (omega arith) (none_takes at1) (λ z found. tt) has1.0 q.1)
      (λ j store2 s2 locals2 q2 is2.
      let within2 = there (or_rangefail (offset_within b 1 (sole_number xs)) store1 s1) _ j store2 s2 (there (expr_mean v e store s) _ xs store1 s1 (both_true _ _ within).1 is) is2 in
      follows_then_is
      (expr_runs w v lay bodies inside lo hi free f at2 at3 ((stack ++ one y) ++ one j) locals2 store2 s2 suited names free_is fits.2 refl (omega arith) (omega arith) (has_front all at2 second (member_offset b ∷ i.Span ∷ i.BitOr ∷ rest) has1.1) (both_true _ _ within2).0 q2.1)
      (λ ys store3 s3 locals3 q3 is3.
      follows_then_is
      (index_by w b 1 (λ z. Unit {0}) ys at3 (at3 + 1) lo hi [] ((stack ++ one y) ++ one j) locals3 store3 s3 (q3.0 ∙ fits.3) refl (omega arith) (omega arith) (none_takes at3) (λ z found. tt) has2.0 q3.1)
      (λ k store4 s4 locals4 q4 is4.
      subst (λ (l : List ℤ). Gives w (here w (at3 + 1) (((stack ++ one y) ++ one j) ++ one k) locals4 s4) lo hi to (on_top stack) (IsLong 1) (members_mean v b rs l store4 s4)) (sym (span_one b j k y are))
      (after (renamed w (at3 + 1) (at3 + 1) (((stack ++ one y) ++ one j) ++ one k) ((stack ++ one y) ++ (j ∷ k ∷ [])) locals4 s4 refl (append_assoc (stack ++ one y) (one j) (one k)))
      (after (pushes_by w i.Span (at3 + 1) (stack ++ one y) (j ∷ k ∷ []) locals4 s4 (one (span_of j k)) has2.1.0 refl refl)
      (after (renamed w (at3 + 1 + 1) (at3 + 1 + 1) ((stack ++ one y) ++ one (span_of j k)) (stack ++ (y ∷ span_of j k ∷ [])) locals4 s4 refl (append_assoc stack (one y) (one (span_of j k))))
      (after (pushes_by w i.BitOr (at3 + 1 + 1) stack (y ∷ span_of j k ∷ []) locals4 s4 (one (union y (span_of j k))) has2.1.1.0 refl refl)
      (after (renamed w (at3 + 1 + 1 + 1) p (stack ++ one (union y (span_of j k))) (stack ++ one (union y (span_of j k))) locals4 s4 there3 refl)
      (members_runs w v lay bodies inside lo hi free b rs (union y (span_of j k)) p to stack locals4 store4 s4 suited names free_is fits.4 are (omega arith) (omega arith) high has3
      (there (or_rangefail (offset_within b 1 (sole_number ys)) store3 s3) _ k store4 s4 (there (expr_mean v f store2 s2) _ ys store3 s3 (both_true _ _ within2).1 is3) is4) q4.1))))))))))

  pub arguments_run : (w : Around) (v : Setting) (lay : Layout) (bodies : Bodies) (inside : BodiesWithin) (lo hi free : ℕ) (as' : ArgumentNodes) (all rows : List LocalRowTree) (k : ℕ) (ps : List Parameter) (at to : ℕ) (base locals : List ℤ) (store : Store) (s : Session)
      → Suited w v lay bodies inside → NamesIn w lo hi → free ≡ free_in w → AreFrom all k rows → FitsArguments lay as' ps rows
      → at + arguments_size as' ≡ to → lo ≤ at → to ≤ hi
      → HasAt w.code.instrs at (arguments_code lay all k free as' at)
      → arguments_within v (calls_at inside w) as' store s ≡ true
      → Holds w store locals
      → Follows w (here w at base locals s) lo hi [] (always to) (λ qs. base ++ taken_scalars rows (takens qs)) (λ qs st ls. PassedFit lay as' rows qs × Holds (keeping w (kept_of as' qs)) st ls) (arguments_mean v as' store s)
  arguments_run w v lay bodies inside lo hi free no_arguments all rows k ps at to base locals store s suited names free_is from fits len low high has within h =
      comes {v = []} (let e : at ≡ to = omega arith in e) (sym (append-nil base)) (refl, keep_none w store locals h)
  arguments_run w v lay bodies inside lo hi free (in_argument r as') all rows k ps at to base locals store s suited names free_is from fits len low high has within h =
      let row : LocalRowTree = fits.0 in
      let at1 : ℕ = at + received_size r in
      let first : List Instr = received_code lay free r at in
      let rest : List Instr = arguments_code lay all (k + 1) free as' at1 in
      let has1 = has_back w.code.instrs at at1 first rest (ap (λ (j : ℕ). at + j) (received_length lay free r at fits.5)) has in
      subst (λ (rs : List LocalRowTree). Follows w (here w at base locals s) lo hi [] (always to) (λ qs. base ++ taken_scalars rs (takens qs)) (λ qs st ls. PassedFit lay (in_argument r as') rs qs × Holds (keeping w (kept_of (in_argument r as') qs)) st ls) (arguments_mean v (in_argument r as') store s)) (sym fits.4)
      (follows_then_is
      (received_runs w v lay bodies inside lo hi free r at at1 base locals store s suited names free_is fits.5 refl low (omega arith) (has_front w.code.instrs at first rest has) (both_true _ _ within).0 h)
      (λ xs store1 s1 locals1 q is.
      follows_then
      (arguments_run w v lay bodies inside lo hi free as' all fits.2 (k + 1) fits.1 at1 to (base ++ xs) locals1 store1 s1 suited names free_is (others_from all rows fits.2 k row from fits.4) fits.7 (omega arith) (omega arith) high has1 (there (received_mean v r store s) _ xs store1 s1 (both_true _ _ within).1 is) q.1)
      (λ qs store2 s2 locals2 q2.
      comes {v = record { begins = brings xs; copy_out = None } ∷ qs} refl (append_assoc base xs (taken_scalars fits.2 (takens qs))) ((q.0 ∙ fits.6, refl, q2.0), q2.1))))
  arguments_run w v lay bodies inside lo hi free (out_argument (location b ls n) bounds as') all rows k ps at to base locals store s suited names free_is from fits len low high has within h =
      let l : LocationTree = location b ls n in
      let row : LocalRowTree = fits.0 in
      let of : ℕ = fits.5.0.0 in
      let at1 : ℕ = at + place_size l in
      let at2 : ℕ = at1 + offsets_kept l in
      let p : ℕ = at + (place_size l + (offsets_kept l + n)) in
      let place : List Instr = place_code lay free l at in
      let keep : List Instr = keep_code l free in
      let values : List Instr = pushes (lowest_as n (slice_get all k)) in
      let rest : List Instr = arguments_code lay all (k + 1) (free + offsets_kept l) as' p in
      let lows : List ℤ = lowest_of row.mode in
      let long : length lows ≡ n = fits.6.1 ∙ sym fits.6.0 in
      let lows_is : lowest_as n (slice_get all k) ≡ lows = ap (λ (o : Option LocalRowTree). lowest_as n o) (first_from all rows fits.2 k row from fits.4) ∙ fitted_all n lows long in
      let place_long : length place ≡ place_size l = place_by (has_index ls) (needs_offset b ls) (indices_code lay free true ls at) (indices_size true ls) (indices_length lay free true ls of n at fits.5.0.3) in
      let keep_long : length keep ≡ offsets_kept l = where_length l (i.SetLocal free 1 ∷ []) 1 refl in
      let values_long : length values ≡ n = pushes_length (lowest_as n (slice_get all k)) ∙ fitted_length n (lowest_in_row (slice_get all k)) in
      let head = has_front w.code.instrs at (place ++ (keep ++ values)) rest has in
      let has1 = has_back w.code.instrs at at1 place (keep ++ values) (ap (λ (j : ℕ). at + j) place_long) head in
      let has2 = has_back w.code.instrs at1 at2 keep values (ap (λ (j : ℕ). at1 + j) keep_long) has1 in
      let has3 = has_back w.code.instrs at p (place ++ (keep ++ values)) rest (omega (arith, length-append place (keep ++ values), length-append keep values, place_long, keep_long, values_long)) has in
      subst (λ (rs : List LocalRowTree). Follows w (here w at base locals s) lo hi [] (always to) (λ qs. base ++ taken_scalars rs (takens qs)) (λ qs st ls2. PassedFit lay (out_argument l bounds as') rs qs × Holds (keeping w (kept_of (out_argument l bounds as') qs)) st ls2) (arguments_mean v (out_argument l bounds as') store s)) (sym fits.4)
      (subst (λ (o : Flow (List Passed)). Follows w (here w at base locals s) lo hi [] (always to) (λ qs. base ++ taken_scalars (row ∷ fits.2) (takens qs)) (λ qs st ls2. PassedFit lay (out_argument l bounds as') (row ∷ fits.2) qs × Holds (keeping w (kept_of (out_argument l bounds as') qs)) st ls2) o)
      (sym (assoc (offset_mean v ls 0 store s) (λ j. record { address = address_of b j; count = n; bounds = bounds }) (λ c store1 s1. then_do (arguments_mean v as' store1 s1) (λ qs. Goes (record { begins = lowest; copy_out = Some c } ∷ qs)))))
      (follows_then_is
      (place_runs w v lay free b ls of n at at1 lo hi base locals store s (fields_fit lay ls of n fits.5.0.3)
      (λ t_is h2. indices_runs w v lay bodies inside lo hi free true ls of n 0 0 at base locals store s suited names free_is fits.5.0.3 (λ z. refl) (let small : 0 + of < 2147483648 = omega (arith, fits.5.0.2) in small) low (let room : at + indices_size true ls ≤ hi = omega (arith, len, high, ap (λ (t : Bool). if t then indices_size true ls else if needs_offset b ls then 1 else 0) t_is) in room) h2 (both_true _ _ within).0 h)
      (has_front w.code.instrs at place (keep ++ values) head) refl h)
      (λ j store1 s1 locals1 q is.
      let ks : List ℤ = kept_offset l j in
      let w1 : Around = keeping w ks in
      let c : CopyOut = record { address = address_of b j; count = n; bounds = bounds } in
      let within2 = there (place_mean v l bounds store s) _ c store1 s1 (both_true _ _ within).1 (ap (λ (o : Flow ℕ). then_do o (λ i2. Goes (record { address = address_of b i2; count = n; bounds = bounds }))) is) in
      after_unit (keep_runs w b ls n j free at1 at2 lo hi base locals1 store1 s1 free_is names (has_front w.code.instrs at1 keep values has1) refl (omega arith) (omega arith) q.1)
      (λ locals2 h2.
      after (pushes_run w1 lows at2 base locals2 s1 (subst (λ (x : List ℤ). HasAt w.code.instrs at2 (pushes x)) lows_is has2))
      (after (renamed w1 (at2 + length lows) p (base ++ lows) (base ++ lows) locals2 s1 (omega arith) refl)
      (forgetting ks
      (follows_then
      (arguments_run w1 v lay bodies inside lo hi (free + offsets_kept l) as' all fits.2 (k + 1) fits.1 p to (base ++ lows) locals2 store1 s1 (kept_suited w v lay bodies inside ks suited) names (kept_free w b ls n j free free_is) (others_from all rows fits.2 k row from fits.4) fits.7 (omega arith) (omega arith) high has3 within2 h2)
      (λ qs store2 s2 locals3 q2.
      comes {v = record { begins = lowest; copy_out = Some c } ∷ qs} refl (append_assoc base lows (taken_scalars fits.2 (takens qs)))
      ((fits.6.1, (of, j, fits.5.0.1, fits.5.0.2, q.0, refl), q2.0), kept_more w ls b n j (kept_of as' qs) store2 locals3 q2.1)))))))))
  arguments_run w v lay bodies inside lo hi free (inout_argument (location b ls n) taken bounds as') all rows k ps at to base locals store s suited names free_is from fits len low high has within h =
      let l : LocationTree = location b ls n in
      let row : LocalRowTree = fits.0 in
      let of : ℕ = fits.5.0.0 in
      let t : Option Bounds = tested_in taken bounds in
      let at1 : ℕ = at + place_size l in
      let at2 : ℕ = at1 + offsets_kept l in
      let at3 : ℕ = at2 + offsets_kept l in
      let at4 : ℕ = at3 + 1 in
      let check : List Instr = check_code t in
      let p : ℕ = at + (place_size l + (offsets_kept l + (offsets_kept l + (1 + length check)))) in
      let place : List Instr = place_code lay free l at in
      let keep : List Instr = keep_code l free in
      let found : List Instr = kept_code l free in
      let read : List Instr = contents_code lay l in
      let rest : List Instr = arguments_code lay all (k + 1) (free + offsets_kept l) as' p in
      let place_long : length place ≡ place_size l = place_by (has_index ls) (needs_offset b ls) (indices_code lay free true ls at) (indices_size true ls) (indices_length lay free true ls of n at fits.5.0.3) in
      let keep_long : length keep ≡ offsets_kept l = where_length l (i.SetLocal free 1 ∷ []) 1 refl in
      let found_long : length found ≡ offsets_kept l = where_length l (i.Local free 1 ∷ []) 1 refl in
      let read_long : length read ≡ 1 = contents_length lay l in
      let head = has_front w.code.instrs at (place ++ (keep ++ (found ++ (read ++ check)))) rest has in
      let has1 = has_back w.code.instrs at at1 place (keep ++ (found ++ (read ++ check))) (ap (λ (j : ℕ). at + j) place_long) head in
      let has2 = has_back w.code.instrs at1 at2 keep (found ++ (read ++ check)) (ap (λ (j : ℕ). at1 + j) keep_long) has1 in
      let has3 = has_back w.code.instrs at2 at3 found (read ++ check) (ap (λ (j : ℕ). at2 + j) found_long) has2 in
      let has4 = has_back w.code.instrs at3 at4 read check (ap (λ (j : ℕ). at3 + j) read_long) has3 in
      let has5 = has_back w.code.instrs at p (place ++ (keep ++ (found ++ (read ++ check)))) rest (omega (arith, length-append place (keep ++ (found ++ (read ++ check))), length-append keep (found ++ (read ++ check)), length-append found (read ++ check), length-append read check, place_long, keep_long, found_long, read_long)) has in
      subst (λ (rs : List LocalRowTree). Follows w (here w at base locals s) lo hi [] (always to) (λ qs. base ++ taken_scalars rs (takens qs)) (λ qs st ls2. PassedFit lay (inout_argument l taken bounds as') rs qs × Holds (keeping w (kept_of (inout_argument l taken bounds as') qs)) st ls2) (arguments_mean v (inout_argument l taken bounds as') store s)) (sym fits.4)
      (subst (λ (o : Flow (List Passed)). Follows w (here w at base locals s) lo hi [] (always to) (λ qs. base ++ taken_scalars (row ∷ fits.2) (takens qs)) (λ qs st ls2. PassedFit lay (inout_argument l taken bounds as') (row ∷ fits.2) qs × Holds (keeping w (kept_of (inout_argument l taken bounds as') qs)) st ls2) o)
      (sym (assoc (offset_mean v ls 0 store s) (λ j. record { address = address_of b j; count = n; bounds = bounds }) (λ c store1 s1.
      then_do (read_at c.count c.address store1 s1) (λ xs store2 s2.
      then_do (tested taken xs store2 s2) (λ ys store3 s3.
      then_do (arguments_mean v as' store3 s3) (λ qs. Goes (record { begins = brings ys; copy_out = Some c } ∷ qs)))))))
      (follows_then_is
      (place_runs w v lay free b ls of n at at1 lo hi base locals store s (fields_fit lay ls of n fits.5.0.3)
      (λ t_is h2. indices_runs w v lay bodies inside lo hi free true ls of n 0 0 at base locals store s suited names free_is fits.5.0.3 (λ z. refl) (let small : 0 + of < 2147483648 = omega (arith, fits.5.0.2) in small) low (let room : at + indices_size true ls ≤ hi = omega (arith, len, high, ap (λ (u : Bool). if u then indices_size true ls else if needs_offset b ls then 1 else 0) t_is) in room) h2 (both_true _ _ within).0 h)
      (has_front w.code.instrs at place (keep ++ (found ++ (read ++ check))) head) refl h)
      (λ j store1 s1 locals1 q is.
      let ks : List ℤ = kept_offset l j in
      let w1 : Around = keeping w ks in
      let c : CopyOut = record { address = address_of b j; count = n; bounds = bounds } in
      let within2 = there (place_mean v l bounds store s) _ c store1 s1 (both_true _ _ within).1 (ap (λ (o : Flow ℕ). then_do o (λ i2. Goes (record { address = address_of b i2; count = n; bounds = bounds }))) is) in
      after_unit (keep_runs w b ls n j free at1 at2 lo hi base locals1 store1 s1 free_is names (has_front w.code.instrs at1 keep (found ++ (read ++ check)) has1) refl (omega arith) (omega arith) q.1)
      (λ locals2 h2.
      after (found_runs w1 b ls n j free at2 at3 w.kept [] base locals2 store1 s1 (ap (λ (xs : List ℤ). w.kept ++ xs) (sym (append-nil ks))) free_is (has_front w.code.instrs at2 found (read ++ check) has2) refl h2)
      (forgetting ks
      (follows_then_is
      (contents_runs w1 lay b ls of n j at3 at4 lo hi base locals2 store1 s1 suited.rows fits.5.0.1 fits.5.0.2 q.0 (has_front w.code.instrs at3 read check has3) refl (omega arith) (omega arith) h2)
      (λ xs store2 s2 locals3 q3 is3.
      let within3 = both_true _ _ (there (read_at n (address_of b j) store1 s1) _ xs store2 s2 within2 is3) in
      follows_then_is
      (tested_runs w1 taken bounds xs n at4 p lo hi base locals3 store2 s2 fits.5.1 q3.0 (as_lies taken bounds xs within3.0) has4 (omega arith) (omega arith) (omega arith) q3.1)
      (λ ys store3 s3 locals4 q4 is4.
      follows_then
      (arguments_run w1 v lay bodies inside lo hi (free + offsets_kept l) as' all fits.2 (k + 1) fits.1 p to (base ++ ys) locals4 store3 s3 (kept_suited w v lay bodies inside ks suited) names (kept_free w b ls n j free free_is) (others_from all rows fits.2 k row from fits.4) fits.7 (omega arith) (omega arith) high has5 (there (tested taken xs store2 s2) _ ys store3 s3 within3.1 is4) q4.1)
      (λ qs store4 s4 locals5 q5.
      comes {v = record { begins = brings ys; copy_out = Some c } ∷ qs} refl (append_assoc base ys (taken_scalars fits.2 (takens qs)))
      ((q4.0 ∙ fits.6, (of, j, fits.5.0.1, fits.5.0.2, q.0, refl), q5.0), kept_more w ls b n j (kept_of as' qs) store4 locals5 q5.1))))))))))
