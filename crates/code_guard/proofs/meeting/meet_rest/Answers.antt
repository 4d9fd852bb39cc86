use Rattle.code_guard.proofs.meeting.meet_rest.Goals as goal

pub returns-then-not-all_begin : goal.returns-then-not-all_begin
returns-then-not-all_begin c = ((λ it. absurd (let no : ⊥ = cc in no)), (λ m. c.if-not-all_begin.ensures.1 m.begin))

pub returns-then-not-all_targets : goal.returns-then-not-all_targets
returns-then-not-all_targets c = ((λ it. absurd (let no : ⊥ = cc in no)), (λ m. c.if-not-all_targets.ensures.1 m.targets))

pub returns-then-not-all_leave : goal.returns-then-not-all_leave
returns-then-not-all_leave c = ((λ it. absurd (let no : ⊥ = cc in no)), (λ m. c.if-not-all_leave.ensures.1 m.leaves))

pub returns : goal.returns
returns c = (
  (λ it. record { begin = c.all_begin.ensures.0 c.if-not-all_begin.false; targets = c.all_targets.ensures.0 c.if-not-all_targets.false; leaves = c.all_leave.ensures.0 c.if-not-all_leave.false; handled = c.all_keep.ensures.0 it }),
  (λ m. c.all_keep.ensures.1 m.handled),
)
