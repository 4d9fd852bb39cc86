-- Each value along bodies, calls and talks lies in its own bounds.
use Rattle.std.proofs.Common.{◌≡◌, ℕ, zero, suc, ◌+◌, ◌≤◌, Bool, true, false, List, [], ◌∷◌, ◌++◌, length, Option, Some, None, refl, sym, subst, arith, eq-eqb}
use Rattle.std.specs.Prelude.{ℤ, slice_get, IsTrue, IfSome, nat_lt, if◌then◌else◌, ◌==◌}
use Rattle.std.proofs.lemmas.Option.{IfSome_then}
use Rattle.kernel_base.specs.declared.request.Request.TheVariants.{Enter}
use Rattle.kernel_base.specs.declared.answer.Answer.{Answer}
use Rattle.modes.specs.Language.{parts_fit}
use Rattle.program_trees.specs.ProgramTree.{BodyRowTree, CheckedTree}
use Rattle.world_model.specs.Session.{Item, Session, session_of}
use Rattle.world_model.specs.Ranges.{IsNumber}
use Rattle.code_types.specs.Actions.{most_frames}
use Rattle.source_meaning.specs.Store.{Store, Taken, first_store}
use Rattle.source_meaning.specs.Flow.{Flow, Goes, Raised, Exits, Returned, Stops, Gone, Bound, done}
use Rattle.source_meaning.specs.ExprMeaning.{Calls, Setting}
use Rattle.source_meaning.specs.StatementMeaning.{is_open}
use Rattle.source_meaning.specs.BodyMeaning.{Ending, Through, Out, Halted, Ended, Unknown, close, Bodies, at_call, calls_in, leaving, behind_enter, in_region, critical_region, setting_of, inside_of, body_of, body_mean}
use Rattle.source_meaning.specs.Talk.{Talk, process_end, talk_at, split_over, parameter_scalars, no_talk, talk_in}
use Rattle.source_meaning.specs.Fitting.{HasFittingAnswers, IsFitting}
use Rattle.source_meaning.specs.Typed.{IsTyped, IsTypedBody}
use Rattle.source_meaning.proofs.EnoughBodies.{enough_law}
use Rattle.text_laws.proofs.Traces.{begins_same}
use Rattle.text_laws.proofs.Stores.{StoreFits, RowsFit, TakensFit, first_fits}
use Rattle.text_laws.proofs.Stages.{Whole, Fits, Stage, Here, ComesBy, Any, does}
use Rattle.text_laws.proofs.ExprAsks.{Stands, rows_typed}
use Rattle.text_laws.proofs.StatementAsks.{statements_ask}
use Rattle.text_laws.proofs.TalkAsks.{IsRegion, critical_there, BodiesFit, calls_fit, bodies_fit, result_begins, split_fits, counted_arguments}
use Rattle.text_laws.proofs.GrowingStatements.{handler_grows}
use Rattle.text_laws.proofs.GrowingExpressions.{CallsExtend}
use Rattle.text_laws.proofs.GrowingTalks.{EndTells, nothing_more, BodiesExtend, left_through, left_out, out_of_call, calls_grow, same_bodies, through_end, out_end}
use Rattle.code_laws.specs.OwnBounds.{where_goes}
use Rattle.code_laws.specs.StatementBounds.{OpenCallsWithin}
use Rattle.code_laws.specs.BodyBounds.{BodiesWithin, called_within, inside_within, in_region_within, body_within, bodies_within, talk_within_of}
use Rattle.code_laws.specs.Talk.{WithinLaw}
use Rattle.bounds_laws.proofs.Outcomes.{IsOverBy, begun_fits, fit_before, either_lies, with_handler, past_tick}
use Rattle.bounds_laws.proofs.ExprLies.{CallsLie, Lies, sides}
use Rattle.bounds_laws.proofs.StatementsLie.{statements_lie, handler_lies}

-- ---- how a body ends

abbrev pub EndIsOver : Whole → Ending → Type 0
EndIsOver g (Through store s) = Fits g s
EndIsOver g (Out x store s) = Fits g s
EndIsOver g (Halted t calls store) = HasFittingAnswers g.program t g.answers
EndIsOver g (Ended t) = HasFittingAnswers g.program t g.answers
EndIsOver g Unknown = ⊥

end_fits : (g : Whole) (t : List Item) (e : Ending) → EndTells t e → EndIsOver g e → HasFittingAnswers g.program t g.answers
end_fits g t (Through store s) b h = begun_fits g.program t s.trace g.answers b h
end_fits g t (Out x store s) b h = begun_fits g.program t s.trace g.answers b h
end_fits g t (Halted u calls store) b h = begun_fits g.program t u g.answers b h
end_fits g t (Ended u) b h = begun_fits g.program t u g.answers b h
end_fits g t Unknown b h = absurd h

closed_over : (g : Whole) (o : Flow (Unit {0})) → EndIsOver g (close o) → IsOverBy g o
closed_over g (Goes v store s) h = h
closed_over g (Raised x store s) h = h
closed_over g (Exits k store s) h = h
closed_over g (Returned store s) h = h
closed_over g (Stops t inner store) h = h
closed_over g (Gone t) h = h
closed_over g Bound h = h

left_over : (g : Whole) (r : ℕ) (listed : List ℕ) (e : Ending) → EndIsOver g (leaving r listed e) → EndIsOver g e
left_over g r listed (Through store s) h = end_fits g s.trace (leaving r listed (Through store s)) ((left_through {g = nothing_more} r listed store).tells s.trace s (begins_same s.trace)) h
left_over g r listed (Out x store s) h = end_fits g s.trace (leaving r listed (Out x store s)) ((left_out {g = nothing_more} r listed x store).tells s.trace s (begins_same s.trace)) h
left_over g r listed (Halted t calls store) h = h
left_over g r listed (Ended t) h = h
left_over g r listed Unknown h = h

called_over : (g : Whole) (b : ℕ) (o : Option BodyRowTree) (store : Store) (e : Ending) → IsOverBy g (at_call b o store e) → EndIsOver g e
called_over g b o store (Through inner s) h = h
called_over g b o store (Out x inner s) h = fit_before g (λ store1 s1. at_call b o store1 (Out x inner s1)) store s (out_of_call b o x inner) h
called_over g b o store (Halted t calls inner) h = h
called_over g b o store (Ended t) h = h
called_over g b o store Unknown h = h

ended_over : (g : Whole) (e : Ending) → IsOverBy g (process_end e) → EndIsOver g e
ended_over g (Through store s) h = fit_before g (λ store1 s1. process_end (Through store1 s1)) store s through_end h
ended_over g (Out x store s) h = fit_before g (λ store1 s1. process_end (Out x store1 s1)) store s (out_end x) h
ended_over g (Halted t calls store) h = h
ended_over g (Ended t) h = h
ended_over g Unknown h = h

told_over : (g : Whole) (b : ℕ) (o : Flow (Unit {0})) → (o ≡ Bound → ⊥) → HasFittingAnswers g.program (talk_at b o).trace g.answers → IsOverBy g o
told_over g b (Goes v store s) some h = h
told_over g b (Raised x store s) some h = h
told_over g b (Exits k store s) some h = h
told_over g b (Returned store s) some h = h
told_over g b (Stops t inner store) some h = h
told_over g b (Gone t) some h = h
told_over g b Bound some h = some refl

either_ends : (g : Whole) (t : Bool) (x y : Ending) (a b : Bool) → EndIsOver g (if t then x else y) → (EndIsOver g x → a ≡ true) → (EndIsOver g y → b ≡ true) → (if t then a else b) ≡ true
either_ends g true x y a b h p q = p h
either_ends g false x y a b h p q = q h

-- ---- bodies

-- along each body values lie in their own bounds
pub record BodiesLie (g : Whole) (bodies : Bodies) (within : BodiesWithin) : Type 0 where
  pub each : (b : ℕ) (body : BodyRowTree) (frames : ℕ) (open_now : List ℕ) (ts : List Taken) (s : Session)
      → slice_get g.program.bodies b ≡ Some body → Stage g s → (Fits g s → TakensFit body.locals 0 ts)
      → EndIsOver g (bodies b frames open_now ts s) → within b frames open_now ts s ≡ true

calls_lie : (g : Whole) (S : Store → Type 0) (bodies : Bodies) (within : BodiesWithin) (frames : ℕ) → BodiesLie g bodies within → CallsLie g S (calls_in g.program bodies frames) (called_within within frames)
calls_lie g S bodies within frames all = record {
  each = λ open_now b body ts store s at sort h v f.
      either_lies (nat_lt frames most_frames) f
      (λ f1. past_tick g S store s (λ s1. at_call b (slice_get g.program.bodies b) store (bodies b (frames + 1) open_now ts s1)) (λ s1. within b (frames + 1) open_now ts s1) h f1
      (λ s1 h1 back f2. all.each b body (frames + 1) open_now ts s1 at h1.stage (λ q. v (back q)) (called_over g b (slice_get g.program.bodies b) store (bodies b (frames + 1) open_now ts s1) f2.by)))
      (λ f1. refl);
}

past_enter : (g : Whole) (S : Store → Type 0) (from : Session) (o : Flow (Unit {0})) (next : Session → Ending) (holds : Session → Bool) → ComesBy g S from Any o → EndIsOver g (behind_enter o next) → ((store : Store) (s : Session) → Here g S store s → (Fits g s → Fits g from) → EndIsOver g (next s) → holds s ≡ true) → where_goes o (λ z store s. holds s) ≡ true
past_enter g S from (Goes v store s) next holds c f all = all store s c.0 (λ q. (c.1 q).0) f
past_enter g S from (Raised x store s) next holds c f all = refl
past_enter g S from (Exits k store s) next holds c f all = refl
past_enter g S from (Returned store s) next holds c f all = refl
past_enter g S from (Stops t inner store) next holds c f all = refl
past_enter g S from (Gone t) next holds c f all = refl
past_enter g S from Bound next holds c f all = refl

region_lies : (g : Whole) (S : Store → Type 0) (r : Option ℕ) (listed open_now : List ℕ) (store : Store) (s : Session) (inside : List ℕ → Session → Ending) (along : List ℕ → Session → Bool) → IsRegion g r → Here g S store s → ((now : List ℕ) (s1 : Session) → Here g S store s1 → EndIsOver g (inside now s1) → along now s1 ≡ true) → EndIsOver g (in_region r listed open_now store s inside) → in_region_within r open_now store s along ≡ true
region_lies g S None listed open_now store s inside along low h all f = all open_now s h f
region_lies g S (Some r) listed open_now store s inside along low h all f =
    either_ends g (is_open r open_now) (inside open_now s) (behind_enter (done (Enter r) store s) (λ s1. leaving r listed (inside (open_now ++ r ∷ []) s1))) (along open_now s) (where_goes (done (Enter r) store s) (λ z store1 s1. along (open_now ++ r ∷ []) s1)) f
    (λ f1. all open_now s h f1)
    (λ f1. past_enter g S s (done (Enter r) store s) (λ s1. leaving r listed (inside (open_now ++ r ∷ []) s1)) (λ s1. along (open_now ++ r ∷ []) s1) (does g S (Enter r) store s h (λ q. low) tt).by f1
    (λ store1 s1 h1 back f2. all (open_now ++ r ∷ []) s1 (record { stage = h1.stage; holds = λ q. h.holds (back q) }) (left_over g r listed (inside (open_now ++ r ∷ []) s1) f2)))

module _ (g : Whole) (instance : ℕ) (who : IsNumber instance) where
  body_lies : (bodies : Bodies) (within : BodiesWithin) (frames n k : ℕ) (b : BodyRowTree) (open_now : List ℕ) (ts : List Taken) (s : Session) → BodiesFit g bodies → BodiesExtend nothing_more bodies bodies → BodiesLie g bodies within → slice_get g.program.bodies k ≡ Some b → Stage g s → (Fits g s → TakensFit b.locals 0 ts) → EndIsOver g (body_of instance (calls_in g.program bodies frames) n open_now ts (Some b) s) → body_within instance (calls_in g.program bodies frames) (called_within within frames) n open_now ts (Some b) s ≡ true
  body_lies bodies within frames n k b open_now ts s fit extend all at stage v f =
      let typed : IsTypedBody g.program k b = g.typed.bodies k b at in
      let rows : RowsFit b.locals = rows_typed g.program g.typed k b at in
      let mode : IfSome b.result (λ m. IsTrue (parts_fit m)) = IfSome_then b.result typed.result (λ m l. l.parts) in
      let calls : List ℕ → Calls = calls_in g.program bodies frames in
      let c : OpenCallsWithin = called_within within frames in
      let S : Store → Type 0 = StoreFits b.locals b.result in
      let h : Here g S (first_store b ts) s = record { stage = stage; holds = λ q. record { locals = first_fits b.locals ts rows (v q); result_fits = result_begins b.result typed.result } } in
      let keeps : CallsExtend nothing_more calls calls = calls_grow g.program bodies bodies frames extend in
      region_lies g S (critical_region b) b.listed open_now (first_store b ts) s (λ now s1. close (inside_of b n (setting_of b instance calls now) (first_store b ts) s1)) (λ now s1. inside_within b n (setting_of b instance calls now) c (first_store b ts) s1)
      (critical_there g b k b.sort typed.head) h
      (λ now s1 h1 f1.
      let w : Setting = setting_of b instance calls now in
      let stands : Stands g w b.result = record { rows = rows; who = who; calls = calls_fit g S bodies frames fit } in
      let lies : Lies g w b.result c = record { stands = stands; keeps = keeps; calls = calls_lie g S bodies within frames all } in
      with_handler g S (statements_ask g b.result b.sort mode b.statements w b.region stands 0 n (first_store b ts) s1 h1 typed.statements) (λ x. handler_grows (sides w keeps n) b.handler x)
      (record { by = closed_over g (inside_of b n w (first_store b ts) s1) f1 })
      (λ f2. statements_lie g b.result b.sort mode c b.statements w b.region lies 0 n (first_store b ts) s1 h1 typed.statements f2)
      (λ x store2 s2 h2 f2. handler_lies g b.result b.sort mode c b.handler w b.region lies 0 n x store2 s2 h2 typed.handler f2))
      f

  bodies_lie : (n : ℕ) → BodiesLie g (body_mean g.program instance n) (bodies_within g.program instance n)
  bodies_lie zero = record { each = λ b body frames open_now ts s at stage v f. refl }
  bodies_lie (suc n) = record {
    each = λ b body frames open_now ts s at stage v f.
        subst (λ (o : Option BodyRowTree). body_within instance (calls_in g.program (body_mean g.program instance n) frames) (called_within (bodies_within g.program instance n) frames) (suc n) open_now ts o s ≡ true) (sym at)
        (body_lies (body_mean g.program instance n) (bodies_within g.program instance n) frames (suc n) b body open_now ts s (bodies_fit g instance who n) (same_bodies g.program instance n) (bodies_lie n) at stage v
        (subst (λ (o : Option BodyRowTree). EndIsOver g (body_of instance (calls_in g.program (body_mean g.program instance n) frames) (suc n) open_now ts o s)) at f));
  }

-- ---- talks

abbrev one_talk_of : Bool → Talk → Talk
one_talk_of t talked = if t then talked else no_talk

-- with at least one tick
told_within : (p : CheckedTree) (instance process : ℕ) (xs : List ℤ) (answers : List Answer) (n : ℕ) → 1 ≤ n → (typed : IsTyped p) → (f : IsFitting p instance process xs answers) → talk_within_of p instance process xs answers n (Some f.body) ≡ true
told_within p instance process xs answers n some typed f =
    let body : BodyRowTree = f.body in
    let g : Whole = record { program = p; typed = typed; answers = answers; in_range = f.in_range.given; ticks = n } in
    let ts : List Taken = split_over body.locals body.parameters xs in
    let e : Ending = body_mean p instance n process 1 [] ts (session_of answers n) in
    let counted : (parameter_scalars body.locals body.parameters == length xs) ≡ true = eq-eqb (parameter_scalars body.locals body.parameters) (length xs) (counted_arguments p process xs body typed f.is_body f.fits) in
    let told : HasFittingAnswers p (talk_at process (process_end e)).trace answers =
    subst (λ (t : Bool). HasFittingAnswers p (one_talk_of t (talk_at process (process_end e))).trace answers) counted
    (subst (λ (o : Option BodyRowTree). HasFittingAnswers p (talk_in p instance process xs answers n o).trace answers) f.is_body (f.answered n)) in
    let over : EndIsOver g e = ended_over g e (told_over g process (process_end e) (enough_law p instance process ts answers n some) told) in
    (bodies_lie g instance f.in_range.who n).each process body 1 [] ts (session_of answers n) f.is_body (record { asks = tt; linked = refl; ticked = omega arith }) (λ q. split_fits body.locals body.parameters xs (rows_typed p typed process body f.is_body) f.fits.values) over

within_by : (p : CheckedTree) (instance process : ℕ) (xs : List ℤ) (answers : List Answer) (n : ℕ) → (typed : IsTyped p) → (f : IsFitting p instance process xs answers) → talk_within_of p instance process xs answers n (Some f.body) ≡ true
within_by p instance process xs answers zero typed f = refl
within_by p instance process xs answers (suc n) typed f = told_within p instance process xs answers (suc n) (omega arith) typed f

pub within : WithinLaw
within p instance process xs answers n typed f =
    subst (λ (o : Option BodyRowTree). talk_within_of p instance process xs answers n o ≡ true) (sym f.is_body) (within_by p instance process xs answers n typed f)
