-- RESULT, RETURN and EXIT, and a value that something takes.
use Rattle.std.proofs.Common.{◌≡◌, ℕ, ◌+◌, ◌≤◌, if◌then◌else◌, Bool, true, List, [], ◌∷◌, ◌++◌, ℤ, length, Option, Some, None, slice_index_or, nat_le, le-leb, refl, sym, ap, ◌∙◌, subst, arith, length-append}
use Rattle.world_model.specs.Session.{Session}
use Rattle.code_types.specs.declared.instr.Instr.{Instr}
use Rattle.code_types.specs.declared.instr.Instr.TheVariants as i
use Rattle.code_types.specs.Actions.{Sets, Halts}
use Rattle.program_trees.specs.ExprTree.{ReceivedTree, received_count}
use Rattle.program_trees.specs.ProgramTree.{LocalRowTree}
use Rattle.program_trees.specs.StatementTree.{exit_from, return_with, set_result}
use Rattle.source_meaning.specs.Store.{Store, with_result}
use Rattle.source_meaning.specs.Flow.{Flow, Goes, Raised, Exits, Returned, Stops, Gone, Bound, Meaning, then_do}
use Rattle.source_meaning.specs.ExprMeaning.{Setting, received_mean}
use Rattle.source_meaning.specs.StatementMeaning.{result_mean, return_mean}
use Rattle.source_meaning.specs.BodyMeaning.{Bodies}
use Rattle.code_scheme.specs.Pieces.{Layout}
use Rattle.code_scheme.specs.ExprSizes.{received_size}
use Rattle.code_scheme.specs.ExprCode.{received_code}
use Rattle.code_scheme.specs.StatementSite.{Standing, layout, scalars_in, declared_scalars, result_scalars}
use Rattle.code_scheme.specs.StatementPlain.{set_result_code, set_result_size, way_out_code}
use Rattle.follow_laws.specs.Follows.{HasAt, scalars_in as scalars_held, Around, here, Holds, Does}
use Rattle.code_laws.specs.BodyBounds.{BodiesWithin}
use Rattle.code_laws.specs.InRange.{FitsReceived}
use Rattle.code_laws.specs.OwnBounds.{received_within}
use Rattle.code_laws.specs.Expressions.{NamesIn}
use Rattle.follow_laws.proofs.Running.{has_front, has_back, stays, gets_then, after, follows_then, comes}
use Rattle.follow_laws.proofs.Holding.{IsSet, result_set}
use Rattle.follow_laws.proofs.Instructions.{sets_by, jumps_by, renamed}
use Rattle.code_laws.proofs.Sizes.{received_length}
use Rattle.code_laws.proofs.ExprRuns.{received_runs}
use Rattle.code_laws.specs.Statements.{StandsAs, calls_from}
use Rattle.code_laws.specs.StatementsInRange.{FitsResult}
use Rattle.statement_code_laws.specs.Actions.{ActionActs, LeavingLaw}
use Rattle.statement_code_laws.proofs.PlainRuns.{plain_acts, leaving_acts, open_here}

-- a value that something takes, and an instruction that takes it
pub received_then : (w : Around) (v : Setting) (st : Standing) (bodies : Bodies) (inside : BodiesWithin) (r : ReceivedTree) (instrs : List Instr) (at lo hi to : ℕ) (next : List ℤ → Meaning (Unit {0})) (base locals : List ℤ) (store : Store) (s : Session)
    → StandsAs w v st bodies inside → NamesIn w lo hi → FitsReceived (layout st.site) r → lo ≤ at → at + received_size r ≤ hi
    → HasAt w.code.instrs at (received_code (layout st.site) st.free r at ++ instrs)
    → received_within v (calls_from inside w v.open_now) r store s ≡ true → Holds w store locals
    → ((xs : List ℤ) (store1 : Store) (s1 : Session) (locals1 : List ℤ) → length xs ≡ received_count r → HasAt w.code.instrs (at + received_size r) instrs → Holds w store1 locals1 → Does w (here w (at + received_size r) (base ++ xs) locals1 s1) lo hi [] to (next xs store1 s1))
    → Does w (here w at base locals s) lo hi [] to (then_do (received_mean v r store s) next)
received_then w v st bodies inside r instrs at lo hi to next base locals store s stands names fits low high has within h rest =
    let lay : Layout = layout st.site in
    let first : List Instr = received_code lay st.free r at in
    let has1 = has_back w.code.instrs at (at + received_size r) first instrs (ap (λ (j : ℕ). at + j) (received_length lay st.free r at fits)) has in
    follows_then
    (received_runs w v lay bodies inside lo hi st.free r at (at + received_size r) base locals store s stands.suited names stands.free fits refl low high (has_front w.code.instrs at first instrs has) (open_here w v inside (λ c. received_within v c r store s) stands.suited.open_now within) h)
    (λ xs store1 s1 locals1 q. rest xs store1 s1 locals1 q.0 has1 q.1)

same_scalars : (rows : List LocalRowTree) → scalars_in rows ≡ scalars_held rows
same_scalars [] = refl
same_scalars (row ∷ rows) = ap (λ (n : ℕ). row.count + n) (same_scalars rows)

-- the result is set
result_runs : (w : Around) (v : Setting) (st : Standing) (bodies : Bodies) (inside : BodiesWithin) (r : ReceivedTree) (at to lo hi : ℕ) (locals : List ℤ) (store : Store) (s : Session)
    → StandsAs w v st bodies inside → NamesIn w lo hi → FitsResult st.site r → at + set_result_size r ≡ to → lo ≤ at → to ≤ hi
    → HasAt w.code.instrs at (set_result_code st r at)
    → received_within v (calls_from inside w v.open_now) r store s ≡ true → Holds w store locals
    → Does w (here w at [] locals s) lo hi [] to (result_mean v r store s)
result_runs w v st bodies inside r at to lo hi locals store s stands names fits len low high has within h =
    received_then w v st bodies inside r (i.SetLocal f n ∷ []) at lo hi to (λ xs store1 s1. Goes tt (with_result store1 xs) s1) [] locals store s stands names fits.0 low (omega arith) has within h by_value
  where
    f : ℕ
    f = declared_scalars st.site.body

    n : ℕ
    n = result_scalars st.site.body

    by_value : (xs : List ℤ) (store1 : Store) (s1 : Session) (locals1 : List ℤ) → length xs ≡ received_count r → HasAt w.code.instrs (at + received_size r) (i.SetLocal f n ∷ []) → Holds w store1 locals1
        → Does w (here w (at + received_size r) xs locals1 s1) lo hi [] to (Goes tt (with_result store1 xs) s1)
    by_value xs store1 s1 locals1 long has1 h1 =
        let is : length xs ≡ n = long ∙ fits.1 in
        let f_is : f ≡ scalars_held w.rows = same_scalars st.site.body.locals ∙ ap scalars_held stands.suited.rows in
        let set : IsSet w (with_result store1 xs) locals1 f xs = result_set w store1 locals1 f xs h1 (is ∙ sym stands.results) f_is in
        let room : nat_le (f + length xs) (length locals1) ≡ true = le-leb (f + length xs) (length locals1) set.inside in
        after (sets_by w (i.SetLocal f n) (at + received_size r) [] xs locals1 s1 f xs has1.0 (sym is) (ap (λ (t : Bool). if t then Sets f xs else Halts) room))
        (comes {v = tt} (omega arith) refl (tt, set.holds))

result_length : (st : Standing) (r : ReceivedTree) (at : ℕ) → FitsResult st.site r → length (set_result_code st r at) ≡ set_result_size r
result_length st r at fits = omega (arith, length-append (received_code (layout st.site) st.free r at) (i.SetLocal (declared_scalars st.site.body) (result_scalars st.site.body) ∷ []), received_length (layout st.site) st.free r at fits.0)

result : (r : ReceivedTree) → ActionActs (set_result r)
result r w v st bodies inside n from stands names fits has =
    plain_acts (λ store s locals within h.
    result_runs w v st bodies inside r from (from + set_result_size r) from (from + set_result_size r) locals store s stands names fits refl (omega arith) (omega arith) has within h)

never_value : (v : Setting) (r : ReceivedTree) (store store1 : Store) (s s1 : Session) → return_mean v (Some r) store s ≡ Goes tt store1 s1 → ⊥
never_value v r store store1 s s1 e = by_result (result_mean v r store s) e
  where
    by_result : (o : Flow (Unit {0})) → then_do o (λ _. return_mean v None) ≡ Goes tt store1 s1 → ⊥
    by_result (Goes u store2 s2) e2 = let no : ⊥ = cc in no
    by_result (Raised x store2 s2) e2 = let no : ⊥ = cc in no
    by_result (Exits k store2 s2) e2 = let no : ⊥ = cc in no
    by_result (Returned store2 s2) e2 = let no : ⊥ = cc in no
    by_result (Stops t inner store2) e2 = let no : ⊥ = cc in no
    by_result (Gone t) e2 = let no : ⊥ = cc in no
    by_result Bound e2 = let no : ⊥ = cc in no

returned : (r : Option ReceivedTree) → ActionActs (return_with r)
returned None w v st bodies inside n from stands names fits has =
    leaving_acts (λ store store1 s s1 e. let no : ⊥ = cc in no)
    (λ store s locals within h.
    record {
      by = record {
        place = from;
        has = subst (λ (is : List Instr). HasAt w.code.instrs from is) (sym stands.way_out) has;
        arrives = record { locals = locals; holds = h; by = stays w.code (here w from [] locals s) };
      };
    })
returned (Some r) w v st bodies inside n from stands names fits has =
    leaving_acts (never_value v r)
    (λ store s locals within h.
    let at : ℕ = from + set_result_size r in
    let first : List Instr = set_result_code st r from in
    let way : List Instr = way_out_code st.site.body in
    let has1 = has_back w.code.instrs from at first way (ap (λ (j : ℕ). from + j) (result_length st r from fits)) has in
    follows_then
    (result_runs w v st bodies inside r from at from (from + (set_result_size r + length way)) locals store s stands names fits refl (omega arith) (omega arith) (has_front w.code.instrs from first way has) within h)
    (λ u store1 s1 locals1 q.
    record {
      by = record {
        place = at;
        has = subst (λ (is : List Instr). HasAt w.code.instrs at is) (sym stands.way_out) has1;
        arrives = record { locals = locals1; holds = q.1; by = stays w.code (here w at [] locals1 s1) };
      };
    }))

exited : (k : ℕ) → ActionActs (exit_from k)
exited k w v st bodies inside n from stands names fits has =
    leaving_acts (λ store store1 s s1 e. let no : ⊥ = cc in no)
    (λ store s locals within h.
    let to : ℕ = slice_index_or st.exits k 0 in
    record {
      by = record {
        locals = locals;
        holds = h;
        by = gets_then (jumps_by w (i.Jump to) from [] [] locals s to has.0 refl refl) (renamed w to (w.exits k) [] [] locals s (sym (stands.exits k fits)) refl);
      };
    })

pub leaving_law : LeavingLaw
leaving_law = record { result = result; returned = returned; exited = exited }
