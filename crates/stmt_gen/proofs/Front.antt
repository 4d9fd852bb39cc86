-- What stands in a code stands there still, with handler rows that come behind it.
use Rattle.std.proofs.Common.{◌≡◌, List, [], ◌++◌, refl, sym, ap, ◌∙◌, append_assoc}
use Rattle.std.proofs.lemmas.List.{append-nil}
use Rattle.code_types.specs.declared.code.Code.{Code}
use Rattle.code_types.specs.declared.code.Handler.{Handler}
use Rattle.code_types.specs.declared.instr.Instr.{Instr}
use Rattle.expr_gen.specs.Putting.{Keeps}
use Rattle.stmt_gen.specs.Appending.{KeepsFront}

-- instructions without rows
pub still_front : {x y : Code} → Keeps x y → KeepsFront x y
still_front {x} p = record { more = p.more; rows = []; instrs = p.instrs; handlers = p.handlers ∙ sym (append-nil x.handlers); bodies = p.bodies }

pub front_on : {x y z : Code} → KeepsFront x y → KeepsFront y z → KeepsFront x z
front_on {x} {y} {z} p q = record {
  more = p.more ++ q.more;
  rows = p.rows ++ q.rows;
  instrs = q.instrs ∙ ap (λ (is : List Instr). is ++ q.more) p.instrs ∙ append_assoc x.instrs p.more q.more;
  handlers = q.handlers ∙ ap (λ (hs : List Handler). hs ++ q.rows) p.handlers ∙ append_assoc x.handlers p.rows q.rows;
  bodies = q.bodies ∙ p.bodies;
}

same_front : (x : Code) → KeepsFront x x
same_front x = record { more = []; rows = []; instrs = sym (append-nil x.instrs); handlers = sym (append-nil x.handlers); bodies = refl }

pub front_as : {x y : Code} → y ≡ x → KeepsFront x y
front_as {x} {y} e = rw e (same_front x)

pub ruleset keeping_front = (still_front, front_on, front_as)
