-- The ends of a process.
use Rattle.std.proofs.Common.{◌≡◌, ℕ, if◌then◌else◌, Bool, true, false, List, [], ◌∷◌, ◌++◌, Option, refl, ap}
use Rattle.kernel_base.specs.declared.ends.How.{How}
use Rattle.kernel_base.specs.declared.ends.How.TheVariants.{Normal, Raised as RaisedHow}
use Rattle.kernel_base.specs.declared.request.Request.TheVariants.{End}
use Rattle.kernel_base.specs.declared.answer.Answer.{Answer}
use Rattle.world_model.specs.Session.{Item, Ask, Session, Asked, Answered, Unanswered, ask}
use Rattle.code_types.specs.declared.instr.Instr.TheVariants as i
use Rattle.code_types.specs.declared.code.Code.{Code}
use Rattle.code_types.specs.declared.code.Handler.{Handler}
use Rattle.code_types.specs.Actions.{Requests}
use Rattle.code_types.specs.Answers.{fits_request, ended}
use Rattle.code_types.specs.State.{Frame, OpenRegion, State, Asking, Raising}
use Rattle.code_types.specs.Steps.{Run, At, Over, caught, run_after, run_with}
use Rattle.source_meaning.specs.Store.{Store}
use Rattle.source_meaning.specs.Flow.{takes_answer, Given, Halts, reply_in, finished, finish}
use Rattle.follow_laws.specs.Follows.{frame_at, state_at, here, GetsTo, IsFrameOf}
use Rattle.follow_laws.proofs.Running.{is_there, one_more, gets_then, acts, own_frame}
use Rattle.follow_laws.proofs.Requesting.{fits_alike}
use Rattle.code_laws.specs.Assembly.{Tells, EndsLaw}

-- the process asks its end in its own frame
ends_alone : (code : Code) (m : Run) (instance b : ℕ) (how : How) (frame : Frame) (regions : List OpenRegion) (store : Store) (s : Session)
    → IsFrameOf frame (record { body = b; store = store })
    → GetsTo code m (At (record { instance = instance; frames = frame ∷ []; regions = regions; mode = Asking (End how) [] }) (record s { trace = s.trace ++ Ask (End how) ∷ [] }))
    → Tells code b m (finish how [] store s)
ends_alone code m instance b how frame regions store s shows asks =
    by_asked (ask (End how) s) (gets_then asks (one_more code (At q (record s { trace = trace })) (run_with q (End how) [] (ask (End how) s) trace) refl))
  where
    q : State
    q = record { instance = instance; frames = frame ∷ []; regions = regions; mode = Asking (End how) [] }

    trace : List Item
    trace = s.trace ++ Ask (End how) ∷ []

    by_fit : (a : Answer) (s1 : Session) (x y : Bool) → x ≡ y → GetsTo code m (if y then At (ended q) s1 else Over q trace) → Tells code b m (finished (if x then Given a s1 else Halts trace) [] store)
    by_fit a s1 true true e r = record { state = ended q; none = refl; by = gets_then r (one_more code (At (ended q) s1) (Over (ended q) s1.trace) refl) }
    by_fit a s1 false false e r = record { state = q; front = frame ∷ []; frames = refl; are = (shows, tt); by = r }
    by_fit a s1 true false e r = absurd (let no : ⊥ = cc in no)
    by_fit a s1 false true e r = absurd (let no : ⊥ = cc in no)

    by_asked : (x : Asked) → GetsTo code m (run_with q (End how) [] x trace) → Tells code b m (finished (reply_in (End how) [] x trace) [] store)
    by_asked (Answered a s1) r = by_fit a s1 (takes_answer (End how) [] a) (fits_request (End how) [] a) (fits_alike (End how) [] a) r
    by_asked (Unanswered t) r = record { state = q; front = frame ∷ []; frames = refl; are = (shows, tt); by = r }

pub ends_run : EndsLaw
ends_run =
    record {
      normal = λ w at locals store s alone has h.
          ends_alone w.code (here w at [] locals s) w.instance w.body Normal (frame_at w at [] locals) w.regions store s (own_frame w at [] locals store h)
          (gets_then (acts w i.Finish at [] [] locals s (Requests (End Normal) []) has refl refl)
          (is_there w.code
          (At (record { instance = w.instance; frames = frame_at w at [] locals ∷ w.below; regions = w.regions; mode = Asking (End Normal) [] }) (record s { trace = s.trace ++ Ask (End Normal) ∷ [] }))
          (At (record { instance = w.instance; frames = frame_at w at [] locals ∷ []; regions = w.regions; mode = Asking (End Normal) [] }) (record s { trace = s.trace ++ Ask (End Normal) ∷ [] }))
          (ap (λ (fs : List Frame). At (record { instance = w.instance; frames = frame_at w at [] locals ∷ fs; regions = w.regions; mode = Asking (End Normal) [] }) (record s { trace = s.trace ++ Ask (End Normal) ∷ [] })) alone)));
      raised = λ w x place stack locals store s alone untaken h.
          let f : Frame = frame_at w place stack locals in
          let q : State = record { instance = w.instance; frames = f ∷ []; regions = w.regions; mode = Raising x } in
          let asks : Run = At (record { instance = w.instance; frames = f ∷ []; regions = w.regions; mode = Asking (End (RaisedHow x)) [] }) (record s { trace = s.trace ++ Ask (End (RaisedHow x)) ∷ [] }) in
          ends_alone w.code (At (state_at w (Raising x) place stack locals) s) w.instance w.body (RaisedHow x) f w.regions store s (own_frame w place stack locals store h)
          (gets_then (is_there w.code (At (state_at w (Raising x) place stack locals) s) (At q s)
          (ap (λ (fs : List Frame). At (record { instance = w.instance; frames = f ∷ fs; regions = w.regions; mode = Raising x }) s) alone))
          (one_more w.code (At q s) asks (ap (λ (t : Option Handler). run_after q s (caught w.code q x f [] t)) untaken)));
    }
