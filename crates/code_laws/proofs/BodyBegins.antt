-- What a frame begins with.
use Rattle.std.proofs.Common.{◌≡◌, ℕ, zero, suc, ◌+◌, ◌-◌, ◌<◌, ◌≤◌, if◌then◌else◌, Bool, true, false, List, [], ◌∷◌, ◌++◌, ℤ, pos, length, drop, replicate, Option, Some, None, refl, sym, ap, ◌∙◌, subst, arith, append_assoc, append-nil, length-append}
use Rattle.std.specs.List.{list_all}
use Rattle.world_model.specs.Session.{Session}
use Rattle.world_model.specs.Lists.{with_scalars}
use Rattle.modes.specs.ModeTree.{ModeTree, int, boolean, char, instance, set_of, range, powerset, chars, array, structure, event, buffer, read, named, FieldNodes, no_fields, more_fields}
use Rattle.modes.specs.Bounds.{values_of}
use Rattle.modes.specs.Scalars.{numbers_of, scalars_of, scalars_in_fields, lowest_of, lowest_of_fields}
use Rattle.checked_program.specs.declared.program.Parameter.{Parameter}
use Rattle.program_trees.specs.ProgramTree.{LocalRowTree}
use Rattle.code_types.specs.declared.instr.Instr.{Instr}
use Rattle.code_types.specs.declared.instr.Instr.TheVariants as i
use Rattle.source_meaning.specs.Store.{Store, Taken, brings, lowest, first_locals, first_store, lowest_result}
use Rattle.source_meaning.specs.Talk.{parameter_scalars}
use Rattle.code_scheme.specs.Pieces.{are_same, scalars_code}
use Rattle.code_scheme.specs.StatementSite.{declared_scalars, scalars_in as declared_in}
use Rattle.code_scheme.specs.BodyCode.{lowest_value_code, locals_code, lowest_result_code}
use Rattle.follow_laws.specs.Follows.{HasAt, flat, FitRows, scalars_in, Around, here, GetsTo}
use Rattle.follow_laws.proofs.Running.{has_front, has_back, is_there, gets_then}
use Rattle.follow_laws.proofs.Stores.{set_right}
use Rattle.code_laws.specs.Calls.{taken_scalars, result_scalars, FitTaken}
use Rattle.code_laws.specs.StatementsInRange.{AreLaid}
use Rattle.code_laws.specs.Bodies.{BeginsLaw}
use Rattle.code_laws.proofs.Values.{both_true, same_int, repeated_length, scalars_run}
use Rattle.code_laws.proofs.CallRuns.{taken_long}
use Rattle.code_laws.proofs.LoopPieces.{set_run}

-- ---- zeros

abbrev zeros : ℕ → List ℤ
zeros n = replicate n (pos 0)

zeros_long : (n : ℕ) → length (zeros n) ≡ n
zeros_long zero = refl
zeros_long (suc n) = ap suc (zeros_long n)

zeros_add : (a b m : ℕ) → a + b ≡ m → zeros a ++ zeros b ≡ zeros m
zeros_add zero b m e = let same : b ≡ m = omega (arith, e) in ap (λ (n : ℕ). zeros n) same
zeros_add (suc a) b zero e = absurd (let no : ⊥ = omega (arith, e) in no)
zeros_add (suc a) b (suc m) e = ap (λ (l : List ℤ). pos 0 ∷ l) (zeros_add a b m (omega (arith, e)))

zeros_drop : (n m : ℕ) → drop n (zeros m) ≡ zeros (m - n)
zeros_drop zero m = let same : m ≡ m - 0 = omega arith in ap (λ (n : ℕ). zeros n) same
zeros_drop (suc n) zero = let same : 0 ≡ 0 - suc n = omega arith in ap (λ (n : ℕ). zeros n) same
zeros_drop (suc n) (suc m) = let same : m - n ≡ suc m - suc n = omega arith in zeros_drop n m ∙ ap (λ (k : ℕ). zeros k) same

are_zeros : (xs : List ℤ) → list_all (λ x. are_same x (pos 0)) xs ≡ true → xs ≡ zeros (length xs)
are_zeros [] e = refl
are_zeros (x ∷ xs) e =
    let parts = both_true (are_same x (pos 0)) (list_all (λ z. are_same z (pos 0)) xs) e in
    ap (λ (z : ℤ). z ∷ xs) (same_int x (pos 0) parts.0) ∙ ap (λ (l : List ℤ). pos 0 ∷ l) (are_zeros xs parts.1)

-- ---- lowest values

count_same : {A : Type 0} (n : ℕ) (x : A) → length (replicate n x) ≡ n
count_same zero x = refl
count_same (suc n) x = ap suc (count_same n x)

mutual
  count_lowest : (m : ModeTree) → length (lowest_of m) ≡ scalars_of m
  count_lowest int = refl
  count_lowest boolean = refl
  count_lowest char = refl
  count_lowest instance = refl
  count_lowest (set_of d n) = refl
  count_lowest (range p l h) = refl
  count_lowest (powerset m) = count_same (numbers_of (values_of m)) (pos 0)
  count_lowest (chars n) = omega (arith, count_same n (pos 32))
  count_lowest (array k e how) = repeated_length (values_of k) (scalars_of e) (lowest_of e) (count_lowest e)
  count_lowest (structure fs p) = count_lowest_fields fs
  count_lowest (event l) = refl
  count_lowest (buffer l e) = refl
  count_lowest (read m) = count_lowest m
  count_lowest (named d n m) = count_lowest m

  count_lowest_fields : (fs : FieldNodes) → length (lowest_of_fields fs) ≡ scalars_in_fields 0 fs
  count_lowest_fields no_fields = refl
  count_lowest_fields (more_fields name m at fs) = omega (arith, length-append (lowest_of m) (lowest_of_fields fs), count_lowest m, count_lowest_fields fs)

-- ---- setting them

there_is : (w : Around) (at to : ℕ) (locals locals' : List ℤ) (s : Session) → at ≡ to → locals ≡ locals' → GetsTo w.code (here w at [] locals s) (here w to [] locals' s)
there_is w at to locals locals' s e f = is_there w.code (here w at [] locals s) (here w to [] locals' s) (ap (λ (n : ℕ). here w n [] locals s) e ∙ ap (λ (l : List ℤ). here w to [] l s) f)

set_zeros : (front xs : List ℤ) (m : ℕ) → with_scalars (front ++ zeros m) (length front) xs ≡ (front ++ xs) ++ zeros (m - length xs)
set_zeros front xs m =
    set_right front (zeros m) xs 0 (length front) (omega arith)
    ∙ (ap (λ (l : List ℤ). front ++ (xs ++ l)) (ap (λ (j : ℕ). drop j (zeros m)) (let e : 0 + length xs ≡ length xs = omega arith in e) ∙ zeros_drop (length xs) m)
    ∙ sym (append_assoc front xs (zeros (m - length xs))))

left_zeros : (front xs : List ℤ) (m : ℕ) → length xs ≤ m → xs ≡ zeros (length xs) → front ++ zeros m ≡ (front ++ xs) ++ zeros (m - length xs)
left_zeros front xs m room are =
    ap (λ (l : List ℤ). front ++ l) (sym (zeros_add (length xs) (m - length xs) m (omega (arith, room))) ∙ ap (λ (l : List ℤ). l ++ zeros (m - length xs)) (sym are))
    ∙ sym (append_assoc front xs (zeros (m - length xs)))

value_run : (w : Around) (xs front : List ℤ) (f m at : ℕ) (s : Session) → f ≡ length front → length xs ≤ m → length xs < 4294967296 → HasAt w.code.instrs at (lowest_value_code xs f)
    → GetsTo w.code (here w at [] (front ++ zeros m) s) (here w (at + length (lowest_value_code xs f)) [] ((front ++ xs) ++ zeros (m - length xs)) s)
value_run w xs front f m at s f_is room small has = by_zero (list_all (λ x. are_same x (pos 0)) xs) refl has
  where
    set_code : List Instr
    set_code = i.SetLocal f (length xs) ∷ []

    by_zero : (t : Bool) → list_all (λ x. are_same x (pos 0)) xs ≡ t → HasAt w.code.instrs at (if t then [] else scalars_code xs ++ set_code)
        → GetsTo w.code (here w at [] (front ++ zeros m) s) (here w (at + length (if t then [] else scalars_code xs ++ set_code)) [] ((front ++ xs) ++ zeros (m - length xs)) s)
    by_zero true is h = there_is w at (at + 0) (front ++ zeros m) ((front ++ xs) ++ zeros (m - length xs)) s (omega arith) (left_zeros front xs m room (are_zeros xs is))
    by_zero false is h =
        let b : ℕ = at + length (scalars_code xs) in
        let inside : f + length xs ≤ length (front ++ zeros m) = omega (arith, f_is, room, length-append front (zeros m), zeros_long m) in
        gets_then (scalars_run w xs at [] (front ++ zeros m) s small (has_front w.code.instrs at (scalars_code xs) set_code h))
        (gets_then (set_run w f (length xs) b [] xs (front ++ zeros m) s inside refl (has_back w.code.instrs at b (scalars_code xs) set_code refl h).0)
        (there_is w (b + 1) (at + length (scalars_code xs ++ set_code)) (with_scalars (front ++ zeros m) f xs) ((front ++ xs) ++ zeros (m - length xs)) s (omega (arith, length-append (scalars_code xs) set_code))
        (ap (λ (j : ℕ). with_scalars (front ++ zeros m) j xs) f_is ∙ set_zeros front xs m)))

rows_run : (w : Around) (rows : List LocalRowTree) (front : List ℤ) (m at : ℕ) (s : Session) → AreLaid (length front) rows → scalars_in rows ≤ m → HasAt w.code.instrs at (locals_code rows)
    → GetsTo w.code (here w at [] (front ++ zeros m) s) (here w (at + length (locals_code rows)) [] ((front ++ flat (first_locals rows [])) ++ zeros (m - scalars_in rows)) s)
rows_run w [] front m at s laid room has =
    there_is w at (at + 0) (front ++ zeros m) ((front ++ []) ++ zeros (m - 0)) s (omega arith)
    (ap (λ (l : List ℤ). l ++ zeros m) (sym (append-nil front)) ∙ ap (λ (j : ℕ). (front ++ []) ++ zeros j) (let e : m ≡ m - 0 = omega arith in e))
rows_run w (row ∷ rows) front m at s laid room has =
    let xs : List ℤ = lowest_of row.mode in
    let code : List Instr = lowest_value_code xs row.first in
    let b : ℕ = at + length code in
    let long : length xs ≡ row.count = count_lowest row.mode ∙ sym laid.1 in
    let front1 : List ℤ = front ++ xs in
    let laid1 : AreLaid (length front1) rows = subst (λ (j : ℕ). AreLaid j rows) (let e : length front + row.count ≡ length front1 = omega (arith, length-append front xs, long) in e) laid.3 in
    gets_then (value_run w xs front row.first m at s laid.0 (omega (arith, room, long)) (omega (arith, long, laid.2)) (has_front w.code.instrs at code (locals_code rows) has))
    (gets_then (rows_run w rows front1 (m - length xs) b s laid1 (omega (arith, room, long)) (has_back w.code.instrs at b code (locals_code rows) refl has))
    (there_is w (b + length (locals_code rows)) (at + length (code ++ locals_code rows)) ((front1 ++ flat (first_locals rows [])) ++ zeros (m - length xs - scalars_in rows)) ((front ++ (xs ++ flat (first_locals rows []))) ++ zeros (m - (row.count + scalars_in rows))) s
    (omega (arith, length-append code (locals_code rows)))
    (ap (λ (l : List ℤ). l ++ zeros (m - length xs - scalars_in rows)) (append_assoc front xs (flat (first_locals rows [])))
    ∙ ap (λ (j : ℕ). (front ++ (xs ++ flat (first_locals rows []))) ++ zeros j) (let e : m - length xs - scalars_in rows ≡ m - (row.count + scalars_in rows) = omega (arith, long) in e))))

-- ---- parameters and the other locals

behind_laid : (first : ℕ) (rows : List LocalRowTree) (ps : List Parameter) → length ps ≤ length rows → AreLaid first rows → AreLaid (first + parameter_scalars rows ps) (drop (length ps) rows)
behind_laid first rows [] few laid = subst (λ (j : ℕ). AreLaid j rows) (let e : first ≡ first + 0 = omega arith in e) laid
behind_laid first [] (q ∷ ps) few laid = absurd (let no : ⊥ = omega (arith, few) in no)
behind_laid first (row ∷ rows) (q ∷ ps) few laid =
    subst (λ (j : ℕ). AreLaid j (drop (length ps) rows)) (let e : first + row.count + parameter_scalars rows ps ≡ first + (row.count + parameter_scalars rows ps) = omega arith in e)
    (behind_laid (first + row.count) rows ps (omega (arith, few)) laid.3)

behind_sum : (rows : List LocalRowTree) (ps : List Parameter) → length ps ≤ length rows → parameter_scalars rows ps + scalars_in (drop (length ps) rows) ≡ scalars_in rows
behind_sum rows [] few = omega arith
behind_sum [] (q ∷ ps) few = absurd (let no : ⊥ = omega (arith, few) in no)
behind_sum (row ∷ rows) (q ∷ ps) few = omega (arith, behind_sum rows ps (let e : length ps ≤ length rows = omega (arith, few) in e))

first_flat : (rows : List LocalRowTree) (ps : List Parameter) (ts : List Taken) → FitTaken rows ps ts → flat (first_locals rows ts) ≡ taken_scalars rows ts ++ flat (first_locals (drop (length ps) rows) [])
first_flat rows [] [] fit = refl
first_flat rows [] (t ∷ ts) fit = absurd fit
first_flat rows (q ∷ ps) [] fit = absurd fit
first_flat [] (q ∷ ps) (t ∷ ts) fit = absurd fit
first_flat (row ∷ rows) (q ∷ ps) (brings xs ∷ ts) fit =
    ap (λ (l : List ℤ). xs ++ l) (first_flat rows ps ts fit.1) ∙ sym (append_assoc xs (taken_scalars rows ts) (flat (first_locals (drop (length ps) rows) [])))
first_flat (row ∷ rows) (q ∷ ps) (lowest ∷ ts) fit =
    ap (λ (l : List ℤ). lowest_of row.mode ++ l) (first_flat rows ps ts fit.1) ∙ sym (append_assoc (lowest_of row.mode) (taken_scalars rows ts) (flat (first_locals (drop (length ps) rows) [])))

first_fits : (first : ℕ) (rows : List LocalRowTree) (ps : List Parameter) (ts : List Taken) → AreLaid first rows → FitTaken rows ps ts → FitRows first rows (first_locals rows ts)
first_fits first [] [] [] laid fit = tt
first_fits first (row ∷ rows) [] [] laid fit = (laid.0, count_lowest row.mode ∙ sym laid.1, first_fits (first + row.count) rows [] [] laid.3 tt)
first_fits first rows [] (t ∷ ts) laid fit = absurd fit
first_fits first rows (q ∷ ps) [] laid fit = absurd fit
first_fits first [] (q ∷ ps) (t ∷ ts) laid fit = absurd fit
first_fits first (row ∷ rows) (q ∷ ps) (t ∷ ts) laid fit = (laid.0, fit.0, first_fits (first + row.count) rows ps ts laid.3 fit.1)

-- the two sums are one
pub same_sum : (rows : List LocalRowTree) → declared_in rows ≡ scalars_in rows
same_sum [] = refl
same_sum (row ∷ rows) = ap (λ (n : ℕ). row.count + n) (same_sum rows)

flat_sum : (first : ℕ) (rows : List LocalRowTree) (xss : List (List ℤ)) → FitRows first rows xss → length (flat xss) ≡ scalars_in rows
flat_sum first [] [] fit = refl
flat_sum first [] (xs ∷ xss) fit = absurd fit
flat_sum first (row ∷ rows) [] fit = absurd fit
flat_sum first (row ∷ rows) (xs ∷ xss) fit = omega (arith, length-append xs (flat xss), fit.1, flat_sum (first + row.count) rows xss fit.2)

result_long : (o : Option ModeTree) → length (lowest_result o) ≡ result_scalars o
result_long None = refl
result_long (Some m) = count_lowest m

result_run : (w : Around) (o : Option ModeTree) (front : List ℤ) (f m at : ℕ) (s : Session) → f ≡ length front → result_scalars o ≤ m → result_scalars o ≤ 4097 → HasAt w.code.instrs at (lowest_result_code o f)
    → GetsTo w.code (here w at [] (front ++ zeros m) s) (here w (at + length (lowest_result_code o f)) [] ((front ++ lowest_result o) ++ zeros (m - result_scalars o)) s)
result_run w None front f m at s f_is room small has =
    there_is w at (at + 0) (front ++ zeros m) ((front ++ []) ++ zeros (m - 0)) s (omega arith)
    (ap (λ (l : List ℤ). l ++ zeros m) (sym (append-nil front)) ∙ ap (λ (j : ℕ). (front ++ []) ++ zeros j) (let e : m ≡ m - 0 = omega arith in e))
result_run w (Some d) front f m at s f_is room small has =
    let long : length (lowest_of d) ≡ scalars_of d = count_lowest d in
    gets_then (value_run w (lowest_of d) front f m at s f_is (omega (arith, room, long)) (omega (arith, small, long)) has)
    (there_is w (at + length (lowest_value_code (lowest_of d) f)) (at + length (lowest_value_code (lowest_of d) f)) ((front ++ lowest_of d) ++ zeros (m - length (lowest_of d))) ((front ++ lowest_of d) ++ zeros (m - scalars_of d)) s refl
    (ap (λ (j : ℕ). (front ++ lowest_of d) ++ zeros (m - j)) long))

-- ---- the law

pub begins_run : BeginsLaw
begins_run w body ts at s stands few laid small fit has =
    let xs : List ℤ = taken_scalars body.locals ts in
    let rest : List LocalRowTree = drop (length body.parameters) body.locals in
    let n : ℕ = w.row.locals in
    let m : ℕ = n - length xs in
    let c1 : List Instr = locals_code rest in
    let f : ℕ = declared_scalars body in
    let c2 : List Instr = lowest_result_code body.result f in
    let b : ℕ = at + length c1 in
    let xs_long : length xs ≡ parameter_scalars body.locals body.parameters = taken_long body.locals body.parameters ts fit in
    let sum : parameter_scalars body.locals body.parameters + scalars_in rest ≡ scalars_in body.locals = behind_sum body.locals body.parameters few in
    let laid1 : AreLaid (length xs) rest = subst (λ (j : ℕ). AreLaid j rest) (let e : 0 + parameter_scalars body.locals body.parameters ≡ length xs = omega (arith, xs_long) in e) (behind_laid 0 body.locals body.parameters few laid) in
    let store : Store = first_store body ts in
    let all : List ℤ = flat (first_locals body.locals ts) in
    let all_is : all ≡ xs ++ flat (first_locals rest []) = first_flat body.locals body.parameters ts fit in
    let fits : FitRows 0 body.locals (first_locals body.locals ts) = first_fits 0 body.locals body.parameters ts laid fit in
    let all_long : length all ≡ scalars_in body.locals = flat_sum 0 body.locals (first_locals body.locals ts) fits in
    let m1 : ℕ = m - scalars_in rest in
    let m2 : ℕ = m1 - result_scalars body.result in
    let room = stands.room in
    let last : List ℤ = (all ++ lowest_result body.result) ++ zeros m2 in
    record {
      locals = last;
      holds = record {
        rest = zeros m2;
        is = append_assoc all (lowest_result body.result) (zeros m2) ∙ ap (λ (ks : List ℤ). all ++ (lowest_result body.result ++ (ks ++ zeros m2))) (sym stands.kept);
        fit = subst (λ (rows : List LocalRowTree). FitRows 0 rows (first_locals body.locals ts)) (sym stands.rows) fits;
        result = result_long body.result ∙ sym stands.results;
        long = omega (arith, length-append (all ++ lowest_result body.result) (zeros m2), length-append all (lowest_result body.result), zeros_long m2, all_long, result_long body.result, room, xs_long, sum);
      };
      by = gets_then (rows_run w rest xs m at s laid1 (omega (arith, room, xs_long, sum)) (has_front w.code.instrs at c1 c2 has))
          (gets_then (there_is w b b ((xs ++ flat (first_locals rest [])) ++ zeros m1) (all ++ zeros m1) s refl (ap (λ (l : List ℤ). l ++ zeros m1) (sym all_is)))
          (gets_then (result_run w body.result all f m1 b s (same_sum body.locals ∙ sym all_long) (omega (arith, room, xs_long, sum)) small (has_back w.code.instrs at b c1 c2 refl has))
          (there_is w (b + length c2) (at + length (c1 ++ c2)) last last s (omega (arith, length-append c1 c2)) refl)));
    }
