-- The law of assembly: bodies that do what they mean make a code that has the program's talk.
use Rattle.std.proofs.Common.{◌≡◌, ℕ, zero, suc, ◌≤◌, if◌then◌else◌, Bool, true, false, ◌==◌, List, [], ◌∷◌, ◌++◌, ℤ, length, reverse, take, drop, Option, Some, None, refl, sym, ap, ◌∙◌, subst, arith, append-nil, take-append-drop, length-drop, length-take-le, eq-eqb}
use Rattle.std.specs.Prelude.{MatchBool}
use Rattle.kernel_base.specs.declared.answer.Answer.{Answer}
use Rattle.world_model.specs.Session.{Session, session_of}
use Rattle.checked_program.specs.declared.program.Parameter.{Parameter}
use Rattle.program_trees.specs.ProgramTree.{LocalRowTree, BodyRowTree, CheckedTree}
use Rattle.code_types.specs.declared.code.BodyRow.{BodyRow}
use Rattle.code_types.specs.declared.code.Code.{Code}
use Rattle.code_types.specs.State.{Frame, State, Running}
use Rattle.code_types.specs.Steps.{At, Over, new_frame}
use Rattle.code_types.specs.Talk.{start_in, start_of}
use Rattle.source_meaning.specs.Store.{OpenCall, Taken}
use Rattle.source_meaning.specs.Flow.{Flow, Goes, Raised, Exits, Returned, Stops, Gone, Bound}
use Rattle.source_meaning.specs.BodyMeaning.{Ending, body_mean}
use Rattle.source_meaning.specs.Talk.{Talk, talk_at, talk, talk_in, no_talk, process_end, split_over, parameter_scalars}
use Rattle.source_meaning.specs.Fitting.{has_instances}
use Rattle.follow_laws.specs.Follows.{AreFramesOf}
use Rattle.source_meaning.proofs.EnoughBodies.{enough_law}
use Rattle.code_laws.specs.BodyBounds.{bodies_within, talk_within_of}
use Rattle.code_laws.specs.Calls.{taken_scalars, in_frame_of, FitTaken, BodiesFollow}
use Rattle.code_laws.specs.Assembly.{CarriesProcedure, CarriesProcess, CarriesAll, Tells, TalksAs, LawOfAssembly}

by_false : (b : Bool) (P Q : Type 0) → b ≡ false → MatchBool b P Q → Q
by_false true P Q h m = absurd (let no : ⊥ = cc in no)
by_false false P Q h m = m

by_true : (b : Bool) (P Q : Type 0) → b ≡ true → MatchBool b P Q → P
by_true true P Q h m = m
by_true false P Q h m = absurd (let no : ⊥ = cc in no)

-- all bodies, by induction on how deep calls nest
all_follow : (p : CheckedTree) (code : Code) (instance : ℕ) → CarriesAll p code instance → (n : ℕ) → BodiesFollow p code instance (body_mean p instance n) (bodies_within p instance n)
all_follow p code instance all zero =
    record {
      row = λ b body is. let mine = all.body b body is in (mine.0, mine.1, mine.2);
      at = λ b body row caller below regions ts s is has procedure entered fit keeps. tt;
    }
all_follow p code instance all (suc n) =
    record {
      row = λ b body is. let mine = all.body b body is in (mine.0, mine.1, mine.2);
      at = λ b body row caller below regions ts s is has procedure entered fit keeps.
          let mine = all.body b body is in
          let same : mine.0 ≡ row = cc in
          let carries = by_false (has_instances body.sort) (CarriesProcess p code instance b body mine.0) (CarriesProcedure p code instance b body mine.0) procedure mine.3 in
          let carried : CarriesProcedure p code instance b body row = subst (λ r. CarriesProcedure p code instance b body r) same carries in
          carried.returns n caller below regions ts s (all_follow p code instance all n) entered fit keeps;
    }

-- the arguments of a process are the scalars of its parameters
nothing_left : (xs : List ℤ) → 0 ≡ length xs → [] ≡ xs
nothing_left [] e = refl
nothing_left (x ∷ xs) e = absurd (let no : ⊥ = omega arith in no)

split_is : (rows : List LocalRowTree) (ps : List Parameter) (xs : List ℤ) → parameter_scalars rows ps ≡ length xs → taken_scalars rows (split_over rows ps xs) ≡ xs
split_is [] [] xs e = nothing_left xs e
split_is [] (q ∷ ps) xs e = nothing_left xs e
split_is (row ∷ rows) [] xs e = nothing_left xs e
split_is (row ∷ rows) (q ∷ ps) xs e =
    ap (λ (l : List ℤ). take row.count xs ++ l) (split_is rows ps (drop row.count xs) (omega (arith, length-drop row.count xs))) ∙ take-append-drop row.count xs

-- what each of them begins with fits its row
split_fits : (rows : List LocalRowTree) (ps : List Parameter) (xs : List ℤ) → length ps ≤ length rows → parameter_scalars rows ps ≡ length xs → FitTaken rows ps (split_over rows ps xs)
split_fits rows [] xs few e = tt
split_fits [] (q ∷ ps) xs few e = absurd (let no : ⊥ = omega (arith, few) in no)
split_fits (row ∷ rows) (q ∷ ps) xs few e = (
  length-take-le row.count xs (omega arith),
  split_fits rows ps (drop row.count xs) (omega (arith, few)) (omega (arith, length-drop row.count xs)),
)

-- what is told of a process, where the turns and calls are enough
tells_so : (p : CheckedTree) (code : Code) (instance process : ℕ) (xs : List ℤ) (answers : List Answer) (n : ℕ) (start : State) (o : Flow (Unit {0}))
    → start_of code instance process xs ≡ Some start
    → (talk p instance process xs answers n) ≡ talk_at process o
    → (o ≡ Bound → ⊥)
    → Tells code process (At start (session_of answers n)) o
    → TalksAs p code instance process xs answers n
tells_so p code instance process xs answers n start (Goes v store s) begins is enough t = absurd t
tells_so p code instance process xs answers n start (Raised x store s) begins is enough t = absurd t
tells_so p code instance process xs answers n start (Exits k store s) begins is enough t = absurd t
tells_so p code instance process xs answers n start (Returned store s) begins is enough t = absurd t
tells_so p code instance process xs answers n start Bound begins is enough t = absurd (enough refl)
tells_so p code instance process xs answers n start (Stops trace inner store) begins is enough t =
    let frames : t.state.frames ≡ t.front = t.frames ∙ append-nil t.front in
    let own : OpenCall = record { body = process; store = store } in
    record {
      start = start;
      starts = begins;
      count = t.by.count;
      state = t.state;
      by = t.by.by ∙ ap (λ (x : Talk). Over t.state x.trace) (sym is);
      stands = subst (λ (x : Talk). AreFramesOf (reverse t.state.frames) x.stand) (sym is) (subst (λ (fs : List Frame). AreFramesOf (reverse fs) (own ∷ inner)) (sym frames) t.are);
    }
tells_so p code instance process xs answers n start (Gone trace) begins is enough t =
    record {
      start = start;
      starts = begins;
      count = t.by.count;
      state = t.state;
      by = t.by.by ∙ ap (λ (x : Talk). Over t.state x.trace) (sym is);
      stands = subst (λ (x : Talk). AreFramesOf (reverse t.state.frames) x.stand) (sym is) (subst (λ (fs : List Frame). AreFramesOf (reverse fs) []) (sym t.none) tt);
    }

pub assembled : LawOfAssembly
assembled p code instance all process xs answers zero low fits keeps = absurd (let no : ⊥ = omega arith in no)
assembled p code instance all process xs answers (suc n) low fits keeps =
    let body : BodyRowTree = fits.body in
    let mine = all.body process body fits.is_body in
    let row : BodyRow = mine.0 in
    let ts : List Taken = split_over body.locals body.parameters xs in
    let s : Session = session_of answers (suc n) in
    let whole : taken_scalars body.locals ts ≡ xs = split_is body.locals body.parameters xs fits.counted in
    let counted : row.params ≡ length xs = mine.2.params ∙ fits.counted in
    let start : State = record { instance = instance; frames = new_frame process row xs ∷ []; regions = []; mode = Running } in
    let yes : (row.params == length xs) ≡ true = eq-eqb row.params (length xs) counted in
    let begins : start_of code instance process xs ≡ Some start = ap (λ o. start_in instance process xs o) mine.1 ∙ ap (λ b. if b then Some start else None) yes in
    let yes_too : (parameter_scalars body.locals body.parameters == length xs) ≡ true = eq-eqb (parameter_scalars body.locals body.parameters) (length xs) fits.counted in
    let ending : Ending = body_mean p instance (suc n) process 1 [] ts s in
    let tells : talk p instance process xs answers (suc n) ≡ talk_at process (process_end ending) =
    ap (λ o. talk_in p instance process xs answers (suc n) o) fits.is_body ∙ ap (λ b. if b then talk_at process (process_end ending) else no_talk) yes_too in
    let carried : CarriesProcess p code instance process body row = by_true (has_instances body.sort) (CarriesProcess p code instance process body row) (CarriesProcedure p code instance process body row) fits.process mine.3 in
    let within : bodies_within p instance (suc n) process 1 [] ts s ≡ true = subst (λ (o : Option BodyRowTree). talk_within_of p instance process xs answers (suc n) o ≡ true) fits.is_body keeps in
    let told = carried.tells n ts s (all_follow p code instance all n) (split_fits body.locals body.parameters xs fits.few fits.counted) within in
    let told_at : Tells code process (At start s) (process_end ending) =
    subst (λ (l : List ℤ). Tells code process (in_frame_of instance process row l [] [] s) (process_end ending)) whole told in
    tells_so p code instance process xs answers (suc n) start (process_end ending) begins tells (enough_law p instance process ts answers (suc n) low) told_at
