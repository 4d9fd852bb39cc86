-- The way out of a procedure: what it gives back.
use Rattle.std.proofs.Common.{◌≡◌, ℕ, zero, suc, ◌+◌, ◌≤◌, if◌then◌else◌, Bool, true, false, List, [], ◌∷◌, ◌++◌, ℤ, length, take, Some, slice_get, slice_index_or, nat_lt, lt-ltb, refl, sym, ap, ◌∙◌, subst, arith, append_assoc, append-nil, length-append}
use Rattle.world_model.specs.Session.{Session}
use Rattle.world_model.specs.Lists.{scalars_at}
use Rattle.checked_program.specs.declared.program.Parameter.{Parameter}
use Rattle.checked_program.specs.declared.program.Passing.{Passing}
use Rattle.checked_program.specs.declared.program.Passing.TheVariants.{In, Out, InOut}
use Rattle.program_trees.specs.ProgramTree.{LocalRowTree, BodyRowTree}
use Rattle.code_types.specs.declared.instr.Instr.{Instr}
use Rattle.code_types.specs.declared.instr.Instr.TheVariants as i
use Rattle.code_types.specs.Operands.{part_of}
use Rattle.code_types.specs.Places.{results_of}
use Rattle.code_types.specs.Actions.{Returns, in_frame}
use Rattle.code_types.specs.State.{Frame, Running}
use Rattle.code_types.specs.Steps.{left_with, run_after}
use Rattle.source_meaning.specs.Store.{Store, local_value}
use Rattle.code_scheme.specs.StatementSite.{declared_scalars, result_scalars as declared_result, is_given_back, back_scalars}
use Rattle.code_scheme.specs.StatementPlain.{result_code, parameters_code}
use Rattle.follow_laws.specs.Follows.{HasAt, FitRows, scalars_in, Around, frame_at, state_at, here, Holds, GetsTo}
use Rattle.follow_laws.proofs.Running.{has_front, has_back, is_there, gets_then, acts}
use Rattle.follow_laws.proofs.Holding.{local_read, result_read}
use Rattle.follow_laws.proofs.Instructions.{puts_on, renamed}
use Rattle.code_laws.specs.Calls.{passed_back, parameters_back, results_back, back_in}
use Rattle.code_laws.specs.Bodies.{GivesBackLaw}
use Rattle.code_laws.proofs.BodyBegins.{same_sum}

take_all : (xs : List ℤ) (n : ℕ) → length xs ≡ n → take n xs ≡ xs
take_all [] zero e = refl
take_all [] (suc n) e = absurd (let no : ⊥ = omega (arith, e) in no)
take_all (x ∷ xs) zero e = absurd (let no : ⊥ = omega (arith, e) in no)
take_all (x ∷ xs) (suc n) e = ap (λ (l : List ℤ). x ∷ l) (take_all xs n (omega (arith, e)))

-- a parameter that is given back
back_run : (w : Around) (store : Store) (locals : List ℤ) (k : ℕ) (row : LocalRowTree) (xs : List ℤ) (p : Passing) (at : ℕ) (base : List ℤ) (s : Session)
    → Holds w store locals → slice_get w.rows k ≡ Some row → local_value store k ≡ xs → length xs ≡ row.count
    → HasAt w.code.instrs at (if is_given_back p then i.Local row.first row.count ∷ [] else [])
    → GetsTo w.code (here w at base locals s) (here w (at + length (if is_given_back p then i.Local row.first row.count ∷ [] else [])) (base ++ passed_back p xs) locals s)
back_run w store locals k row xs In at base s h is value long has = renamed w at (at + 0) base (base ++ []) locals s (omega arith) (sym (append-nil base))
back_run w store locals k row xs Out at base s h is value long has =
    let part = local_read w store locals k 0 row.count row.first row h is (omega arith) (omega arith) in
    puts_on w (i.Local row.first row.count) at base locals s xs has.0 refl (ap in_frame (part.is ∙ ap Some (ap (λ (l : List ℤ). scalars_at l 0 row.count) value ∙ take_all xs row.count long)))
back_run w store locals k row xs InOut at base s h is value long has =
    let part = local_read w store locals k 0 row.count row.first row h is (omega arith) (omega arith) in
    puts_on w (i.Local row.first row.count) at base locals s xs has.0 refl (ap in_frame (part.is ∙ ap Some (ap (λ (l : List ℤ). scalars_at l 0 row.count) value ∙ take_all xs row.count long)))

parameters_run : (w : Around) (store : Store) (locals : List ℤ) (ps : List Parameter) (rows : List LocalRowTree) (xss : List (List ℤ)) (first k at : ℕ) (base : List ℤ) (s : Session)
    → Holds w store locals → ((j : ℕ) → slice_get w.rows (k + j) ≡ slice_get rows j) → ((j : ℕ) → local_value store (k + j) ≡ slice_index_or xss j [])
    → length ps ≤ length rows → FitRows first rows xss → HasAt w.code.instrs at (parameters_code ps rows)
    → GetsTo w.code (here w at base locals s) (here w (at + length (parameters_code ps rows)) (base ++ parameters_back ps xss) locals s)
parameters_run w store locals [] rows xss first k at base s h same values few fit has = renamed w at (at + 0) base (base ++ []) locals s (omega arith) (sym (append-nil base))
parameters_run w store locals (p ∷ ps) [] xss first k at base s h same values few fit has = absurd (let no : ⊥ = omega (arith, few) in no)
parameters_run w store locals (p ∷ ps) (row ∷ rows) [] first k at base s h same values few fit has = absurd fit
parameters_run w store locals (p ∷ ps) (row ∷ rows) (xs ∷ xss) first k at base s h same values few fit has =
    let code : List Instr = parameters_code ps rows in
    let own : List Instr = if is_given_back p.passing then i.Local row.first row.count ∷ [] else [] in
    let b : ℕ = at + length code in
    let here_is : k ≡ k + 0 = omega arith in
    gets_then (parameters_run w store locals ps rows xss (first + row.count) (k + 1) at base s h
    (λ j. ap (λ (q : ℕ). slice_get w.rows q) (let e : k + 1 + j ≡ k + suc j = omega arith in e) ∙ same (suc j))
    (λ j. ap (λ (q : ℕ). local_value store q) (let e : k + 1 + j ≡ k + suc j = omega arith in e) ∙ values (suc j))
    (omega (arith, few)) fit.2 (has_front w.code.instrs at code own has))
    (gets_then (back_run w store locals k row xs p.passing b (base ++ parameters_back ps xss) s h
    (ap (λ (q : ℕ). slice_get w.rows q) here_is ∙ same 0) (ap (λ (q : ℕ). local_value store q) here_is ∙ values 0) fit.1 (has_back w.code.instrs at b code own refl has))
    (renamed w (b + length own) (at + length (code ++ own)) ((base ++ parameters_back ps xss) ++ passed_back p.passing xs) (base ++ (parameters_back ps xss ++ passed_back p.passing xs)) locals s (omega (arith, length-append code own)) (append_assoc base (parameters_back ps xss) (passed_back p.passing xs))))

no_more : (n : ℕ) → nat_lt 0 n ≡ false → n ≡ 0
no_more zero e = refl
no_more (suc n) e = let yes_more : nat_lt 0 (suc n) ≡ true = lt-ltb 0 (suc n) (omega arith) in absurd (let no : ⊥ = cc in no)

-- the result
result_back : (w : Around) (body : BodyRowTree) (store : Store) (locals : List ℤ) (at : ℕ) (s : Session)
    → Holds w store locals → w.rows ≡ body.locals → w.results ≡ declared_result body → HasAt w.code.instrs at (result_code body)
    → GetsTo w.code (here w at [] locals s) (here w (at + length (result_code body)) store.result locals s)
result_back w body store locals at s h rows results has = by_some (nat_lt 0 (declared_result body)) refl has
  where
    by_some : (t : Bool) → nat_lt 0 (declared_result body) ≡ t → HasAt w.code.instrs at (if t then i.Local (declared_scalars body) (declared_result body) ∷ [] else [])
        → GetsTo w.code (here w at [] locals s) (here w (at + length (if t then i.Local (declared_scalars body) (declared_result body) ∷ [] else [])) store.result locals s)
    by_some true is h1 =
        let part = result_read w store locals (declared_scalars body) h (same_sum body.locals ∙ ap (λ (rs : List LocalRowTree). scalars_in rs) (sym rows)) in
        puts_on w (i.Local (declared_scalars body) (declared_result body)) at [] locals s store.result h1.0 refl (ap in_frame (ap (λ (n : ℕ). part_of locals (declared_scalars body) n) (sym results) ∙ part.is))
    by_some false is h1 = renamed w at (at + 0) [] store.result locals s (omega arith) (none store.result (h.result ∙ (results ∙ no_more (declared_result body) is)))
      where
        none : (xs : List ℤ) → length xs ≡ 0 → [] ≡ xs
        none [] e = refl
        none (x ∷ xs) e = absurd (let no : ⊥ = omega (arith, e) in no)

-- how many scalars that is
passed_long : (p : Passing) (xs : List ℤ) (n : ℕ) → length xs ≡ n → length (passed_back p xs) ≡ (if is_given_back p then n else 0)
passed_long In xs n e = refl
passed_long Out xs n e = e
passed_long InOut xs n e = e

back_long : (ps : List Parameter) (rows : List LocalRowTree) (xss : List (List ℤ)) (first : ℕ) → length ps ≤ length rows → FitRows first rows xss → length (parameters_back ps xss) ≡ back_scalars ps rows
back_long [] rows xss first few fit = refl
back_long (p ∷ ps) [] xss first few fit = absurd (let no : ⊥ = omega (arith, few) in no)
back_long (p ∷ ps) (row ∷ rows) [] first few fit = absurd fit
back_long (p ∷ ps) (row ∷ rows) (xs ∷ xss) first few fit =
    omega (arith, length-append (parameters_back ps xss) (passed_back p.passing xs), passed_long p.passing xs row.count fit.1, back_long ps rows xss (first + row.count) (let e : length ps ≤ length rows = omega (arith, few) in e) fit.2)

-- ---- the law

pub gives_back_run : GivesBackLaw
gives_back_run w body caller below at locals store s stands results_are below_is is_row given few has h =
    let rc : List Instr = result_code body in
    let pc : List Instr = parameters_code body.parameters body.locals in
    let b : ℕ = at + length rc in
    let c : ℕ = b + length pc in
    let xs : List ℤ = results_back body store in
    let fit : FitRows 0 body.locals store.locals = subst (λ (rows : List LocalRowTree). FitRows 0 rows store.locals) stands.rows h.fit in
    let has1 = has_back w.code.instrs at b rc (pc ++ i.Return ∷ []) refl has in
    let has2 = has_back w.code.instrs b c pc (i.Return ∷ []) refl has1 in
    let long : length xs ≡ w.row.results = omega (arith, length-append store.result (parameters_back body.parameters store.locals), h.result, stands.results, results_are, given, back_long body.parameters body.locals store.locals 0 few fit) in
    gets_then (result_back w body store locals at s h stands.rows (stands.results ∙ sym results_are) (has_front w.code.instrs at rc (pc ++ i.Return ∷ []) has))
    (gets_then (parameters_run w store locals body.parameters body.locals store.locals 0 0 b store.result s h
    (λ j. ap (λ (q : ℕ). slice_get w.rows q) (let e : 0 + j ≡ j = omega arith in e) ∙ ap (λ (rows : List LocalRowTree). slice_get rows j) stands.rows)
    (λ j. ap (λ (q : ℕ). local_value store q) (let e : 0 + j ≡ j = omega arith in e))
    few fit (has_front w.code.instrs b pc (i.Return ∷ []) has1))
    (gets_then (acts w i.Return c [] xs locals s (Returns xs) has2.0 (ap results_of is_row ∙ sym long) refl)
    (is_there w.code
    (run_after (state_at w Running c xs locals) s (left_with (state_at w Running c xs locals) (frame_at w c xs locals) w.below xs))
    (back_in w.instance xs caller below w.regions s)
    (ap (λ (fs : List Frame). run_after (state_at w Running c xs locals) s (left_with (state_at w Running c xs locals) (frame_at w c xs locals) fs xs)) below_is))))
