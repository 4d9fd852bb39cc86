-- The desk may go to another thread: values are of a type that leads back to itself, so the desk's parts are shown one by one.
use denote.RattleType.{RattleType}
use mir.Syntax.{Sym}
use denote.Ref.{NamedLft}
use denote.Struct.Field.{shr_ref_field, u32-field}
use denote.Struct.Tuple.{TupleAt, type_at}
use denote.Struct.Declared.{shape}
use denote.Param.{param}
use denote.Param.Send.{IsSend, IsSync, recorded_send, shr_send, struct_send, sendable}
use Rattle.std.proofs.Common.{List, [], ◌∷◌}
use Rattle.std.specs.contracts.alloc.Global as Global
use Rattle.code_guard.specs.contracts.guarded.Guarded as Guarded
use Rattle.code_guard.proofs.guarded.Guarded.TheSendSync as guarded
use Rattle.std.proofs.Crossing.{crosses, send}
use Rattle.kernel_base.proofs.value.Value.TheLaws.TheKnot.{send-Value}
use Rattle.kernel_base.specs.contracts.value.Value as Value
use Rattle.kernel_base.specs.contracts.facts.Facts as Facts
use Rattle.journal_book.proofs.journal.Journal.TheSendSync as journal
use Rattle.shared_store.proofs.store.Store.TheSendSync as store
use Rattle.kernel_steps.proofs.seats.Seats.TheSendSync as seats
use Rattle.kernel_steps.proofs.state.Queues.TheSendSync as queues
use Rattle.kernel_steps.proofs.state.Ready.TheSendSync as ready
use Rattle.kernel_steps.specs.contracts.state.State as State
use Rattle.kernel_core.specs.contracts.calls.Kernel as Kernel
use Rattle.worker_pool.specs.contracts.desk.Desk as Desk
use Rattle.worker_pool.specs.contracts.shared.Shared as Shared

value_field : IsSend (Value.the_field).row
value_field = send-Value (search (sendable, crosses)) (search (sendable, crosses)) (search (sendable, crosses) depth 20) (λ h s. search (sendable, crosses) depth 20)

facts_field : IsSend (Facts.the_field).row
facts_field = search (value_field, sendable, crosses) depth 60

state_field : IsSend (State.the_field).row
state_field = search (facts_field, journal.the_send, store.the_send, seats.the_field_send, queues.the_field_send, ready.the_send, sendable, crosses) depth 60

kernel_send : IsSend Kernel.the_row
kernel_send = search (state_field, sendable, crosses) depth 30

pub desk_send : IsSend Desk.the_row
desk_send = search (sendable, crosses, kernel_send) depth 20

pub shared_sync : IsSync Shared.the_row
shared_sync = search (sendable, crosses, desk_send) depth 20

pub shared_field : IsSync (Shared.the_field).row
shared_field = search (sendable, crosses, desk_send) depth 20

-- what each worker's thread takes along: what the workers share by reference, and the worker's number
abbrev taken : (R G : RattleType) (rt code shared gate : NamedLft) → List RattleType
taken R G rt code shared gate =
    (shr_ref_field rt (param 0 R) tt).row ∷ Global.the_row ∷ (shr_ref_field code Guarded.the_row tt).row ∷ (shr_ref_field shared Shared.the_row tt).row ∷ (shr_ref_field gate (param 1 G) tt).row ∷ (u32-field).row ∷ []

pub taken_send : (R G : RattleType) → IsSync (param 0 R) → IsSync (param 1 G) → (name : Sym) (rt code shared gate : NamedLft) → IsSend (TupleAt name (taken R G rt code shared gate))
taken_send R G r g name rt code shared gate =
    let fields = type_at name (taken R G rt code shared gate) in
    recorded_send _ _ _ fields.to_one (struct_send (shape fields)
    (shr_send _ _ _ r, (send, (shr_send _ _ _ guarded.the_sync, (shr_send _ _ _ shared_sync, (shr_send _ _ _ g, (search sendable, tt)))))))
