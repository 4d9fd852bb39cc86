-- Instructions that push one number, whatever the number is.
use Rattle.std.proofs.Common.{◌≡◌, ℕ, ◌+◌, List, ◌∷◌, [], ◌++◌, ℤ, pos, Option, Some, None, refl, ap, sym, ◌∙◌}
use Rattle.kernel_base.specs.declared.ends.Exc.{Exc}
use Rattle.kernel_base.specs.declared.ends.Exc.TheVariants.{Empty}
use Rattle.code_types.specs.declared.instr.Instr.{Instr}
use Rattle.code_types.specs.Operands.{topmost, below_topmost}
use Rattle.code_types.specs.Actions.{Action, Pushes, Sets, GoesTo, TicksTo, Calls, Returns, Throws, Requests, Halts, with_one, with_two, member_or_empty, action_of}
use Rattle.code_types.specs.State.{Frame, State, Running}
use Rattle.code_types.specs.Steps.{moved}
use Rattle.machine_frames.specs.declared.activation.Activation.{Activation}
use Rattle.machine_frames.specs.declared.activation.Acted.{Acted}
use Rattle.machine_frames.specs.declared.activation.Acted.TheVariants.{GoesOn, Ticks, Raises, Elsewhere}
use Rattle.machine_frames.specs.Frames.{frame_of, Acts, Does, DoesOrLeaves}

-- the frame goes on with one number in place of so many
abbrev Replaced : ℕ → Activation → Activation → ℤ → Type 0
Replaced count top new number = frame_of new ≡ moved (frame_of top) (top.place + 1) (below_topmost count top.stack.items ++ number ∷ [])

pub one_pushed : (top new : Activation) (x number : ℤ) (next : ℤ → ℤ)
    → topmost 1 top.stack.items ≡ x ∷ []
    → Replaced 1 top new number
    → number ≡ next x
    → Acts (below_topmost 1 top.stack.items) (frame_of top) (frame_of new) GoesOn (with_one (topmost 1 top.stack.items) (λ z. Pushes (next z ∷ [])))
one_pushed top new x number next operand replaced same =
    rw operand (replaced ∙ ap (λ (z : ℤ). moved (frame_of top) (top.place + 1) (below_topmost 1 top.stack.items ++ z ∷ [])) same, refl)

pub two_pushed : (top new : Activation) (x y number : ℤ) (next : ℤ → ℤ → ℤ)
    → topmost 2 top.stack.items ≡ x ∷ y ∷ []
    → Replaced 2 top new number
    → number ≡ next x y
    → Acts (below_topmost 2 top.stack.items) (frame_of top) (frame_of new) GoesOn (with_two (topmost 2 top.stack.items) (λ z w. Pushes (next z w ∷ [])))
two_pushed top new x y number next operands replaced same =
    rw operands (replaced ∙ ap (λ (z : ℤ). moved (frame_of top) (top.place + 1) (below_topmost 2 top.stack.items ++ z ∷ [])) same, refl)

pub member_pushed : (top new : Activation) (x number : ℤ) (k : ℕ) (next : ℤ → Option ℕ)
    → topmost 1 top.stack.items ≡ x ∷ []
    → Replaced 1 top new number
    → next x ≡ Some k
    → number ≡ pos k
    → Acts (below_topmost 1 top.stack.items) (frame_of top) (frame_of new) GoesOn (with_one (topmost 1 top.stack.items) (λ z. member_or_empty (next z)))
member_pushed top new x number k next operand replaced found same =
    rw (operand, found) (replaced ∙ ap (λ (z : ℤ). moved (frame_of top) (top.place + 1) (below_topmost 1 top.stack.items ++ z ∷ [])) same, refl)

pub no_member : (top : Activation) (x : ℤ) (next : ℤ → Option ℕ)
    → topmost 1 top.stack.items ≡ x ∷ []
    → next x ≡ None
    → Acts (below_topmost 1 top.stack.items) (frame_of top) (frame_of top) (Raises Empty) (with_one (topmost 1 top.stack.items) (λ z. member_or_empty (next z)))
no_member top x next operand found = rw (operand, found) (refl, refl)

-- no action is left to another
never_elsewhere : (rest : List ℤ) (f new : Frame) (action : Action) → Acts rest f new Elsewhere action → ⊥
never_elsewhere rest f new (Pushes numbers) h = let no = h.1 in cc
never_elsewhere rest f new (Sets first numbers) h = let no = h.1 in cc
never_elsewhere rest f new (GoesTo place) h = let no = h.1 in cc
never_elsewhere rest f new (TicksTo place) h = let no = h.1 in cc
never_elsewhere rest f new Calls h = h
never_elsewhere rest f new (Returns results) h = h
never_elsewhere rest f new (Throws exception) h = let no = h.1 in cc
never_elsewhere rest f new (Requests request slots) h = h
never_elsewhere rest f new Halts h = h

-- some process
nobody : State
nobody = record { instance = 0; frames = []; regions = []; mode = Running }

pub does_or_leaves : (count : ℕ) (instr : Instr) (old new : Activation) (acted : Acted) → Does count instr old new acted → DoesOrLeaves count instr old new acted
does_or_leaves count instr old new GoesOn does = does
does_or_leaves count instr old new Ticks does = does
does_or_leaves count instr old new (Raises exception) does = does
does_or_leaves count instr old new Elsewhere does = absurd (never_elsewhere (below_topmost count old.stack.items) (frame_of old) (frame_of new) (action_of nobody (frame_of old) instr (topmost count old.stack.items)) (does nobody))
