-- Runs of many steps.
use Rattle.std.proofs.Common.{◌≡◌, ℕ, zero, suc, ◌+◌, ◌-◌, ◌≤◌, List, refl, sym, ◌∙◌, ap, ◌⊎◌, inl, inr, arith, ℤ, Some, None}
use Rattle.std.specs.declared.option.Option.{Option}
use Rattle.kernel_base.specs.declared.answer.Answer.{Answer}
use Rattle.world_model.specs.Session.{Item, Session, session_of}
use Rattle.code_types.specs.declared.code.Code.{Code}
use Rattle.code_types.specs.State.{State}
use Rattle.code_types.specs.Steps.{Run, At, Over, step, steps}
use Rattle.code_types.specs.Talk.{Comes, CodeTalk, TalkFrom, start_of}

-- what is over stays as it is
pub steps-over : (code : Code) (count : ℕ) (s : State) (trace : List Item) → steps code count (Over s trace) ≡ Over s trace
steps-over code zero s trace = refl
steps-over code (suc count) s trace = steps-over code count s trace

-- steps, and then more of them
pub steps-+ : (code : Code) (count more : ℕ) (r : Run) → steps code (count + more) r ≡ steps code more (steps code count r)
steps-+ code zero more r = let e : zero + more ≡ more = omega arith in ap (λ k. steps code k r) e
steps-+ code (suc count) more r =
    let e : suc count + more ≡ suc (count + more) = omega arith in
    ap (λ k. steps code k r) e ∙ steps-+ code count more (step code r)

over-unique : (code : Code) (r : Run) (count more : ℕ) (s q : State) (trace other : List Item) → steps code count r ≡ Over s trace → steps code (count + more) r ≡ Over q other → trace ≡ other
over-unique code r count more s q trace other e f =
    let g : steps code (count + more) r ≡ Over s trace = steps-+ code count more r ∙ (ap (steps code more) e ∙ steps-over code more s trace) in
    cc

by-order : (code : Code) (r : Run) (count other_count : ℕ) (s q : State) (trace other : List Item) → steps code count r ≡ Over s trace → steps code other_count r ≡ Over q other → (count ≤ other_count) ⊎ (other_count ≤ count) → trace ≡ other
by-order code r count other_count s q trace other e f (inl h) =
    let k : count + (other_count - count) ≡ other_count = omega arith in
    over-unique code r count (other_count - count) s q trace other e (ap (λ n. steps code n r) k ∙ f)
by-order code r count other_count s q trace other e f (inr h) =
    let k : other_count + (count - other_count) ≡ count = omega arith in
    sym (over-unique code r other_count (count - other_count) q s other trace f (ap (λ n. steps code n r) k ∙ e))

total : (a b : ℕ) → (a ≤ b) ⊎ (b ≤ a)
total a b = grind arith

-- a run that is over has one trace
pub comes-unique : (code : Code) (start : State) (session : Session) (trace other : List Item) → Comes code start session trace → Comes code start session other → trace ≡ other
comes-unique code start session trace other a b = by-order code (At start session) a.count b.count a.stands b.stands trace other a.by b.by (total a.count b.count)

talk-unique : (code : Code) (start : Option State) (answers : List Answer) (n : ℕ) (trace other : List Item) → TalkFrom code start answers n trace → TalkFrom code start answers n other → trace ≡ other
talk-unique code None answers n trace other a b = a ∙ sym b
talk-unique code (Some start) answers n trace other a b = comes-unique code start (session_of answers n) trace other a b

pub one_talk : (code : Code) (instance process : ℕ) (arguments : List ℤ) (answers : List Answer) (n : ℕ) (trace other : List Item)
    → CodeTalk code instance process arguments answers n trace
    → CodeTalk code instance process arguments answers n other
    → trace ≡ other
one_talk code instance process arguments answers n trace other a b = talk-unique code (start_of code instance process arguments) answers n trace other a b
