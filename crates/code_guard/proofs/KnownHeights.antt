-- What is known of the heights, as more places are told.
use Rattle.std.proofs.Common.{◌≡◌, ℕ, ◌+◌, ◌<◌, ◌≤◌, Bool, true, false, nat_lt, List, length, Some, None, slice_get, slice_set, IsFalse, subst, refl, sym, ◌∙◌, ap, ◌⊎◌, inl, inr, arith}
use Rattle.std.specs.Prelude.{if◌then◌else◌}
use Rattle.std.specs.declared.option.Option.{Option}
use Rattle.std.proofs.Math.ListN.{length-set}
use Rattle.std.proofs.lemmas.Bool.Decides.{nat_tests}
use Rattle.world_model.proofs.ChangedLists.{written_or_old, written_here, written_elsewhere}
use Rattle.code_types.specs.declared.instr.Instr.{Instr}
use Rattle.code_types.specs.declared.code.Handler.{Handler}
use Rattle.code_types.specs.declared.code.BodyRow.{BodyRow}
use Rattle.code_types.specs.declared.code.Code.{Code}
use Rattle.code_types.specs.Places.{is_last, jump_of}
use Rattle.code_types.specs.Agreement.{AreHeights, HasHeight, LeadsTo}
use Rattle.code_guard.specs.Heights.{IsKnown, IsTold, Begins, IsTarget, IsLed, IsUntold, told_by, told_by_jump, told_by_going_on}
use Rattle.code_guard.proofs.EachItem.{item_or_past}

-- one more place is told
pub record TellsAt (Told More : ℕ → Type 0) (at : ℕ) : Type 0 where
  pub keeps : (place : ℕ) → Told place → More place
  pub tells : More at
  pub only : (place : ℕ) → More place → (place ≡ at) ⊎ Told place

some-apart : (h : ℕ) → (let a : Option ℕ = Some h in let b : Option ℕ = None in a ≡ b) → ⊥
some-apart h e = cc

-- a written place isn't empty
set_some : (known : List (Option ℕ)) (at height : ℕ) → at < length known → slice_get (slice_set known at (Some height)) at ≡ Some None → ⊥
set_some known at height low e = by-item (item_or_past known at)
  where
    by-item : ((x : Option ℕ) × (slice_get known at ≡ Some x)) ⊎ (length known ≤ at) → ⊥
    by-item (inl h) = let w = written_here known at (Some height) h.0 h.1 in let no : ⊥ = cc in no
    by-item (inr h) = omega arith

pub known_set : (code : Code) (Told More : ℕ → Type 0) (known : List (Option ℕ)) (at height : ℕ) → IsKnown code Told known → at < length code.instrs → TellsAt Told More at → ((heights : List ℕ) → AreHeights code heights → HasHeight heights at height) → IsKnown code More (slice_set known at (Some height))
known_set code Told More known at height so inside t forced = record {
  count = (let e = so.count in length-set known at (Some height) ∙ e);
  forced = λ heights are place h e. forced-in heights are place h (written_or_old known at place (Some height) (Some h) e);
  untold = λ place e told. untold-in place e (t.only place told);
  unknown = λ place low no. written_elsewhere known at place (Some height) (λ e. no (subst More (sym e) t.tells)) ∙ so.unknown place low (λ told. no (t.keeps place told));
}
  where
    forced-in : (heights : List ℕ) → AreHeights code heights → (place h : ℕ) → ((place ≡ at) × (Some h ≡ Some height)) ⊎ (slice_get known place ≡ Some (Some h)) → HasHeight heights place h
    forced-in heights are place h (inl e) = let f = e.1 in let same : height ≡ h = cc in subst (λ (x : ℕ). HasHeight heights x h) (sym e.0) (subst (λ (x : ℕ). HasHeight heights at x) same (forced heights are))
    forced-in heights are place h (inr e) = so.forced heights are place h e

    by-write : (place : ℕ) → slice_get (slice_set known at (Some height)) place ≡ Some None → Told place → ((place ≡ at) × ((let a : Option ℕ = None in a) ≡ Some height)) ⊎ (slice_get known place ≡ Some None) → ⊥
    by-write place e told (inl f) = some-apart height (sym f.1)
    by-write place e told (inr f) = so.untold place f told

    untold-in : (place : ℕ) → slice_get (slice_set known at (Some height)) place ≡ Some None → (place ≡ at) ⊎ Told place → ⊥
    untold-in place e (inl same) = let c = so.count in set_some known at height (omega arith) (subst (λ (x : ℕ). slice_get (slice_set known at (Some height)) x ≡ Some None) same e)
    untold-in place e (inr told) = by-write place e told (written_or_old known at place (Some height) None e)

-- nothing is told of any place
pub known_none : (code : Code) (known : List (Option ℕ)) → IsUntold (length code.instrs) known → IsKnown code (IsTold code 0 0 0) known
known_none code known u = record {
  count = u.many;
  forced = λ heights are place h e. absurd (some-apart h (u.none place (Some h) e));
  untold = λ place e told. nobody place told;
  unknown = λ place low no. by-item place low (item_or_past known place);
}
  where
    nobody : (place : ℕ) → IsTold code 0 0 0 place → ⊥
    nobody place (inl b) = let k = b.among in omega arith
    nobody place (inr (inl t)) = let k = t.among in omega arith
    nobody place (inr (inr l)) = let k = l.among in omega arith

    by-item : (place : ℕ) → place < length code.instrs → ((x : Option ℕ) × (slice_get known place ≡ Some x)) ⊎ (length known ≤ place) → slice_get known place ≡ Some None
    by-item place low (inl h) = h.1 ∙ ap Some (u.none place h.0 h.1)
    by-item place low (inr h) = let c = u.many in absurd (omega arith)

last_or_before : (m n : ℕ) → m < n + 1 → (m ≡ n) ⊎ (m < n)
last_or_before m n h = grind arith

-- one more body
pub tells_beginning : (code : Code) (body : ℕ) (row : BodyRow) → slice_get code.bodies body ≡ Some row → TellsAt (IsTold code body 0 0) (IsTold code (body + 1) 0 0) row.first
tells_beginning code body row e = record {
  keeps = keep;
  tells = inl (record { body = body; row = row; among = omega arith; is_body = e; here = refl });
  only = only;
}
  where
    keep : (place : ℕ) → IsTold code body 0 0 place → IsTold code (body + 1) 0 0 place
    keep place (inl b) = let k = b.among in inl (record { body = b.body; row = b.row; among = omega arith; is_body = b.is_body; here = b.here })
    keep place (inr r) = inr r

    old : (place : ℕ) (b : Begins code (body + 1) place) → (b.body ≡ body) ⊎ (b.body < body) → (place ≡ row.first) ⊎ IsTold code body 0 0 place
    old place b (inl same) =
        let f : slice_get code.bodies body ≡ Some b.row = ap (slice_get code.bodies) (sym same) ∙ b.is_body in
        let rows : b.row ≡ row = cc in
        let firsts : b.row.first ≡ row.first = ap (λ (r : BodyRow). r.first) rows in
        inl (sym b.here ∙ firsts)
    old place b (inr low) = inr (inl (record { body = b.body; row = b.row; among = low; is_body = b.is_body; here = b.here }))

    only : (place : ℕ) → IsTold code (body + 1) 0 0 place → (place ≡ row.first) ⊎ IsTold code body 0 0 place
    only place (inl b) = old place b (last_or_before b.body body b.among)
    only place (inr r) = inr (inr r)

-- one more handler
pub tells_target : (code : Code) (bodies number : ℕ) (handler : Handler) → slice_get code.handlers number ≡ Some handler → TellsAt (IsTold code bodies number 0) (IsTold code bodies (number + 1) 0) handler.target
tells_target code bodies number handler e = record {
  keeps = keep;
  tells = inr (inl (record { number = number; handler = handler; among = omega arith; is_handler = e; here = refl }));
  only = only;
}
  where
    keep : (place : ℕ) → IsTold code bodies number 0 place → IsTold code bodies (number + 1) 0 place
    keep place (inl b) = inl b
    keep place (inr (inl t)) = let k = t.among in inr (inl (record { number = t.number; handler = t.handler; among = omega arith; is_handler = t.is_handler; here = t.here }))
    keep place (inr (inr l)) = inr (inr l)

    old : (place : ℕ) (t : IsTarget code (number + 1) place) → (t.number ≡ number) ⊎ (t.number < number) → (place ≡ handler.target) ⊎ IsTold code bodies number 0 place
    old place t (inl same) =
        let f : slice_get code.handlers number ≡ Some t.handler = ap (slice_get code.handlers) (sym same) ∙ t.is_handler in
        let rows : t.handler ≡ handler = cc in
        let targets : t.handler.target ≡ handler.target = ap (λ (r : Handler). r.target) rows in
        inl (sym t.here ∙ targets)
    old place t (inr low) = inr (inr (inl (record { number = t.number; handler = t.handler; among = low; is_handler = t.is_handler; here = t.here })))

    only : (place : ℕ) → IsTold code bodies (number + 1) 0 place → (place ≡ handler.target) ⊎ IsTold code bodies number 0 place
    only place (inl b) = inr (inl b)
    only place (inr (inl t)) = old place t (last_or_before t.number number t.among)
    only place (inr (inr l)) = inr (inr (inr l))

-- the same places are told
pub known_same : (code : Code) (Told More : ℕ → Type 0) (known : List (Option ℕ)) → IsKnown code Told known → ((place : ℕ) → Told place → More place) → ((place : ℕ) → More place → Told place) → IsKnown code More known
known_same code Told More known so to back = record {
  count = so.count;
  forced = so.forced;
  untold = λ place e told. so.untold place e (back place told);
  unknown = λ place low no. so.unknown place low (λ told. no (to place told));
}

-- the place behind an instruction that goes on is told besides
abbrev GoesOn : (ℕ → Type 0) → ℕ → Bool → ℕ → Type 0
GoesOn Told place last p = Told p ⊎ (IsFalse last × (p ≡ place + 1))

-- the later place to which an instruction jumps is told besides
abbrev Jumps : (ℕ → Type 0) → ℕ → Option ℕ → ℕ → Type 0
Jumps Told place jump p = Told p ⊎ ((jump ≡ Some p) × (place < p))

known_on : (code : Code) (Told : ℕ → Type 0) (known : List (Option ℕ)) (place after : ℕ) (last : Bool) → IsKnown code Told known → (IsFalse last → place + 1 < length code.instrs) → (IsFalse last → (heights : List ℕ) → AreHeights code heights → HasHeight heights (place + 1) after) → IsKnown code (GoesOn Told place last) (told_by_going_on place after last known)
known_on code Told known place after true so inside forced = known_same code Told (GoesOn Told place true) known so (λ p t. inl t) (λ p t. back p t)
  where
    back : (p : ℕ) → GoesOn Told place true p → Told p
    back p (inl t) = t
    back p (inr h) = let f = h.0 in absurd (let no : ⊥ = cc in no)
known_on code Told known place after false so inside forced = known_set code Told (GoesOn Told place false) known (place + 1) after so (inside refl) (record { keeps = λ p t. inl t; tells = inr (refl, refl); only = only }) (forced refl)
  where
    only : (p : ℕ) → GoesOn Told place false p → (p ≡ place + 1) ⊎ Told p
    only p (inl t) = inr t
    only p (inr h) = inl h.1

known_jump_to : (code : Code) (Told : ℕ → Type 0) (known : List (Option ℕ)) (place after to : ℕ) (later : Bool) → nat_lt place to ≡ later → IsKnown code Told known → to < length code.instrs → ((place < to) → (heights : List ℕ) → AreHeights code heights → HasHeight heights to after) → IsKnown code (Jumps Told place (Some to)) (if later then slice_set known to (Some after) else known)
known_jump_to code Told known place after to true e so inside forced =
    let low : place < to = grind (arith, nat_tests) in
    known_set code Told (Jumps Told place (Some to)) known to after so inside (record { keeps = λ p t. inl t; tells = inr (refl, low); only = only }) (forced low)
  where
    only : (p : ℕ) → Jumps Told place (Some to) p → (p ≡ to) ⊎ Told p
    only p (inl t) = inr t
    only p (inr h) = let f = h.0 in let same : p ≡ to = cc in inl same
known_jump_to code Told known place after to false e so inside forced = known_same code Told (Jumps Told place (Some to)) known so (λ p t. inl t) back
  where
    back : (p : ℕ) → Jumps Told place (Some to) p → Told p
    back p (inl t) = t
    back p (inr h) = let f = h.0 in let same : p ≡ to = cc in let low = h.1 in let up : to ≤ place = grind (arith, nat_tests) in absurd (omega arith)

known_jump : (code : Code) (Told : ℕ → Type 0) (known : List (Option ℕ)) (place after : ℕ) (jump : Option ℕ) → IsKnown code Told known → ((to : ℕ) → jump ≡ Some to → to < length code.instrs) → ((to : ℕ) → jump ≡ Some to → place < to → (heights : List ℕ) → AreHeights code heights → HasHeight heights to after) → IsKnown code (Jumps Told place jump) (told_by_jump place after jump known)
known_jump code Told known place after None so inside forced = known_same code Told (Jumps Told place None) known so (λ p t. inl t) back
  where
    back : (p : ℕ) → Jumps Told place None p → Told p
    back p (inl t) = t
    back p (inr h) = let f = h.0 in absurd (let no : ⊥ = cc in no)
known_jump code Told known place after (Some to) so inside forced = known_jump_to code Told known place after to (nat_lt place to) refl so (inside to refl) (forced to refl)

pub known_led : (code : Code) (bodies handlers : ℕ) (known : List (Option ℕ)) (place after : ℕ) (instr : Instr) → slice_get code.instrs place ≡ Some instr
    → IsKnown code (IsTold code bodies handlers place) known
    → (IsFalse (is_last instr) → place + 1 < length code.instrs)
    → ((to : ℕ) → jump_of instr ≡ Some to → to < length code.instrs)
    → ((to : ℕ) → place < to → LeadsTo place instr to → (heights : List ℕ) → AreHeights code heights → HasHeight heights to after)
    → IsKnown code (IsTold code bodies handlers (place + 1)) (told_by place instr after known)
known_led code bodies handlers known place after instr e so on jump forced =
    known_same code (Jumps (GoesOn (IsTold code bodies handlers place) place (is_last instr)) place (jump_of instr)) (IsTold code bodies handlers (place + 1)) (told_by place instr after known)
    (known_jump code (GoesOn (IsTold code bodies handlers place) place (is_last instr)) (told_by_going_on place after (is_last instr) known) place after (jump_of instr)
    (known_on code (IsTold code bodies handlers place) known place after (is_last instr) so on (λ f. forced (place + 1) (omega arith) (inl (f, refl))))
    jump (λ to f low. forced to low (inr f)))
    there back
  where
    there : (p : ℕ) → Jumps (GoesOn (IsTold code bodies handlers place) place (is_last instr)) place (jump_of instr) p → IsTold code bodies handlers (place + 1) p
    there p (inl (inl (inl b))) = inl b
    there p (inl (inl (inr (inl t)))) = inr (inl t)
    there p (inl (inl (inr (inr l)))) = let k = l.among in inr (inr (record { from = l.from; instr = l.instr; among = omega arith; earlier = l.earlier; is_instr = l.is_instr; leads = l.leads }))
    there p (inl (inr h)) = let f = h.1 in inr (inr (record { from = place; instr = instr; among = omega arith; earlier = omega arith; is_instr = e; leads = inl h }))
    there p (inr h) = inr (inr (record { from = place; instr = instr; among = omega arith; earlier = h.1; is_instr = e; leads = inr h.0 }))

    from-leads : (p : ℕ) → place < p → LeadsTo place instr p → Jumps (GoesOn (IsTold code bodies handlers place) place (is_last instr)) place (jump_of instr) p
    from-leads p low (inl h) = inl (inr h)
    from-leads p low (inr h) = inr (h, low)

    by-order : (p : ℕ) (l : IsLed code (place + 1) p) → (l.from ≡ place) ⊎ (l.from < place) → Jumps (GoesOn (IsTold code bodies handlers place) place (is_last instr)) place (jump_of instr) p
    by-order p l (inl same) =
        let f : slice_get code.instrs place ≡ Some l.instr = ap (slice_get code.instrs) (sym same) ∙ l.is_instr in
        let is : l.instr ≡ instr = cc in
        let low = l.earlier in
        from-leads p (omega arith) (subst (λ (q : ℕ). LeadsTo q instr p) same (subst (λ (i : Instr). LeadsTo l.from i p) is l.leads))
    by-order p l (inr low) = inl (inl (inr (inr (record { from = l.from; instr = l.instr; among = low; earlier = l.earlier; is_instr = l.is_instr; leads = l.leads }))))

    back : (p : ℕ) → IsTold code bodies handlers (place + 1) p → Jumps (GoesOn (IsTold code bodies handlers place) place (is_last instr)) place (jump_of instr) p
    back p (inl b) = inl (inl (inl b))
    back p (inr (inl t)) = inl (inl (inr (inl t)))
    back p (inr (inr l)) = by-order p l (last_or_before l.from place l.among)
