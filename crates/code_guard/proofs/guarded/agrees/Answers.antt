use Rattle.code_guard.proofs.FoundHeights.{agrees_from, fit_from}
use Rattle.code_guard.proofs.guarded.agrees.Goals as goal

pub returns-then-not-bodies_rise : goal.returns-then-not-bodies_rise
returns-then-not-bodies_rise c = ((λ it. absurd (let no : ⊥ = cc in no)), (λ a. c.if-not-bodies_rise.ensures.1 a.bodies))

pub returns-then-not-params_hold : goal.returns-then-not-params_hold
returns-then-not-params_hold c = ((λ it. absurd (let no : ⊥ = cc in no)), (λ a. c.if-not-params_hold.ensures.1 a.params))

pub returns-then-not-instructions_fit : goal.returns-then-not-instructions_fit
returns-then-not-instructions_fit c = ((λ it. absurd (let no : ⊥ = cc in no)), (λ a. c.if-not-instructions_fit.ensures.1 (fit_from c.args.code.now a)))

pub returns-then-not-handlers_fit : goal.returns-then-not-handlers_fit
returns-then-not-handlers_fit c = ((λ it. absurd (let no : ⊥ = cc in no)), (λ a. c.if-not-handlers_fit.ensures.1 a.handlers))

pub returns : goal.returns
returns c = (
  (λ it. agrees_from c.args.code.now (c.bodies_rise.ensures.0 c.if-not-bodies_rise.false) (c.params_hold.ensures.0 c.if-not-params_hold.false) (c.instructions_fit.ensures.0 c.if-not-instructions_fit.false) (c.handlers_fit.ensures.0 c.if-not-handlers_fit.false) (c.in_ok-yes.ensures.0 it)),
  (λ a. c.in_ok-yes.ensures.1 (a.heights, a.are_heights)),
)
