-- The heights of one more place.
use Rattle.std.proofs.Common.{◌≡◌, ◌≢◌, ℕ, ◌+◌, ◌<◌, ◌≤◌, List, [], ◌∷◌, ◌++◌, length, length-append, Some, None, slice_get, All, IsFalse, IsSomeAnd, IfSome, subst, refl, sym, ◌∙◌, ap, ◌⊎◌, inl, inr, arith}
use Rattle.std.specs.declared.option.Option.{Option}
use Rattle.std.proofs.lemmas.Option.{slice_get_within}
use Rattle.world_model.proofs.ChangedLists.{pushed_or_old, pushed_keeps}
use Rattle.kernel_base.proofs.Layers.{slice_get-append_right}
use Rattle.code_types.specs.declared.instr.Instr.{Instr}
use Rattle.code_types.specs.declared.code.Handler.{Handler}
use Rattle.code_types.specs.declared.code.BodyRow.{BodyRow}
use Rattle.code_types.specs.declared.code.Code.{Code}
use Rattle.code_types.specs.Places.{finds, end_of, height_after, is_last, jump_of}
use Rattle.code_types.specs.Agreement.{Agrees, HoldsParams, HandlesInOneBody, BodiesRise, StandsIn, Everywhere, AreHeights, HasHeight, LeadsTo, IsNoBeginning, IsUnled, IsNoTarget}
use Rattle.code_guard.specs.Owners.{Owns, IsOwned}
use Rattle.code_guard.specs.Fitting.{FitsInstr, FitsRow}
use Rattle.code_guard.specs.Heights.{IsKnown, IsTold, told_by, IsHeightAt, HoldsOperands, HasNoHeights, AreOnly, AllHoldOperands, IsFound, Leaves, MeetRest, HasHeights}
use Rattle.code_guard.proofs.Keeping.{same_list}
use Rattle.code_guard.proofs.EachItem.{all_at, all_of}
use Rattle.code_guard.proofs.Belonging.{end_inside, stands_at, everywhere_from}
use Rattle.code_guard.proofs.KnownHeights.{known_led}

-- all that tells the height of a place
abbrev Told : Code → ℕ → ℕ → Type 0
Told code places = IsTold code (length code.bodies) (length code.handlers) places

-- where nothing tells a place's height, refuse body begins there, it is refuse target, and it is unled
no_beginning : (code : Code) (places place : ℕ) → (Told code places place → ⊥) → IsNoBeginning code place
no_beginning code places place refuse = all_of (λ (row : BodyRow). row.first ≢ place) code.bodies (λ i row e here. refuse (inl (record { body = i; row = row; among = slice_get_within code.bodies i row e; is_body = e; here = here })))

no_target : (code : Code) (places place : ℕ) → (Told code places place → ⊥) → IsNoTarget code place
no_target code places place refuse = all_of (λ (handler : Handler). handler.target ≢ place) code.handlers (λ i handler e here. refuse (inr (inl (record { number = i; handler = handler; among = slice_get_within code.handlers i handler e; is_handler = e; here = here }))))

unled : (code : Code) (place : ℕ) → (Told code place place → ⊥) → IsUnled code place
unled code place refuse = λ from instr earlier e leads. refuse (inr (inr (record { from = from; instr = instr; among = earlier; earlier = earlier; is_instr = e; leads = leads })))

untold : (code : Code) (place : ℕ) → IsNoBeginning code place → IsUnled code place → IsNoTarget code place → Told code place place → ⊥
untold code place b u t (inl h) = all_at (λ (row : BodyRow). row.first ≢ place) code.bodies h.body h.row b h.is_body h.here
untold code place b u t (inr (inl h)) = all_at (λ (handler : Handler). handler.target ≢ place) code.handlers h.number h.handler t h.is_handler h.here
untold code place b u t (inr (inr h)) = u h.from h.instr h.earlier h.is_instr h.leads

-- any heights that the code has are at this place as is known
pub forced_here : (code : Code) (known : List (Option ℕ)) (place height : ℕ) → IsKnown code (Told code place) known → place < length code.instrs → IsHeightAt known place height → (heights : List ℕ) → AreHeights code heights → HasHeight heights place height
forced_here code known place height so inside (inl e) heights are = so.forced heights are place height e
forced_here code known place height so inside (inr e) heights are =
    let refuse = so.untold place e.0 in
    let z : HasHeight heights place 0 = are.others place inside (no_beginning code place place refuse) (unled code place refuse) (no_target code place place refuse) in
    subst (λ (h : ℕ). HasHeight heights place h) (sym e.1) z

zero_here : (known : List (Option ℕ)) (place height : ℕ) → IsHeightAt known place height → slice_get known place ≡ Some None → 0 ≡ height
zero_here known place height (inl e) f = let refuse : ⊥ = cc in absurd refuse
zero_here known place height (inr e) f = sym e.1

-- the code has refuse heights where an instruction lacks its operands
pub none_here : (code : Code) (owners : List ℕ) (known : List (Option ℕ)) (place body height : ℕ) (instr : Instr) → (owned : IsOwned code owners) → slice_get owners place ≡ Some body → slice_get code.instrs place ≡ Some instr → IsKnown code (Told code place) known → IsHeightAt known place height → (HoldsOperands code body instr height → ⊥) → HasNoHeights code
none_here code owners known place body height instr owned e f so at refuse heights are =
    let inside = slice_get_within code.instrs place instr f in
    let stands = stands_at code owners place body instr owned e f in
    let here = forced_here code known place height so inside at heights are in
    let h = are.operands body (owned.owns place body e).row place instr stands height here in
    let P : Option BodyRow → Type 0 = λ o. IsSomeAnd o (λ row. height ≤ row.height) in
    refuse (h.0, subst P (sym (owned.owns place body e).is_body) h.1)

only_more : (code : Code) (place height : ℕ) (known : List (Option ℕ)) (heights : List ℕ) → place < length code.instrs → IsKnown code (Told code place) known → AreOnly code place heights → IsHeightAt known place height → AreOnly code (place + 1) (heights ++ height ∷ [])
only_more code place height known heights inside so only at = record {
  count = (let c = only.count in let l : length (heights ++ height ∷ []) ≡ length heights + 1 = length-append heights (height ∷ []) in omega arith);
  forced = λ others are p h e. forced others are p h (pushed_or_old heights p height h e);
  others = λ p low b u t. others p (order p place low) b u t;
}
  where
    order : (m n : ℕ) → m < n + 1 → (m ≡ n) ⊎ (m < n)
    order m n h = grind arith

    last : slice_get (heights ++ height ∷ []) place ≡ Some height
    last = let c = only.count in let n : length heights + 0 ≡ place = omega arith in slice_get-append_right heights (height ∷ []) place 0 height n refl

    forced : (others : List ℕ) → AreHeights code others → (p h : ℕ) → ((p ≡ length heights) × (h ≡ height)) ⊎ (slice_get heights p ≡ Some h) → HasHeight others p h
    forced others are p h (inl e) =
        let c = only.count in let n : place ≡ p = sym c ∙ sym e.0 in
        subst (λ (x : ℕ). HasHeight others x h) n (subst (λ (x : ℕ). HasHeight others place x) (sym e.1) (forced_here code known place height so inside at others are))
    forced others are p h (inr e) = only.forced others are p h e

    others : (p : ℕ) → (p ≡ place) ⊎ (p < place) → IsNoBeginning code p → IsUnled code p → IsNoTarget code p → HasHeight (heights ++ height ∷ []) p 0
    others p (inl same) b u t =
        let B : ℕ → Type 0 = IsNoBeginning code in let U : ℕ → Type 0 = IsUnled code in let T : ℕ → Type 0 = IsNoTarget code in
        let none = so.unknown place inside (untold code place (subst B same b) (subst U same u) (subst T same t)) in
        let z : 0 ≡ height = zero_here known place height at none in
        subst (λ (x : ℕ). slice_get (heights ++ height ∷ []) x ≡ Some 0) (sym same) (last ∙ ap Some (sym z))
    others p (inr low) b u t = pushed_keeps heights p height 0 (only.others p low b u t)

operands_more : (code : Code) (owners : List ℕ) (place body height : ℕ) (instr : Instr) (heights : List ℕ) → length heights ≡ place → slice_get owners place ≡ Some body → slice_get code.instrs place ≡ Some instr → HoldsOperands code body instr height → AllHoldOperands code owners place heights → AllHoldOperands code owners (place + 1) (heights ++ height ∷ [])
operands_more code owners place body height instr heights count e f here all p b i h low e' f' g = by-push (pushed_or_old heights p height h g)
  where
    by-push : ((p ≡ length heights) × (h ≡ height)) ⊎ (slice_get heights p ≡ Some h) → HoldsOperands code b i h
    by-push (inl k) =
        let n : p ≡ place = k.0 ∙ count in
        let at-b : slice_get owners place ≡ Some b = ap (slice_get owners) (sym n) ∙ e' in
        let at-i : slice_get code.instrs place ≡ Some i = ap (slice_get code.instrs) (sym n) ∙ f' in
        let bs : body ≡ b = cc in
        let is : instr ≡ i = cc in
        subst (λ (x : ℕ). HoldsOperands code b i x) (sym k.1) (subst (λ (x : ℕ). HoldsOperands code x i height) bs (subst (λ (j : Instr). HoldsOperands code body j height) is here))
    by-push (inr k) = let in-heights = slice_get_within heights p h k in all p b i h (omega arith) e' f' k

-- an instruction that goes on isn't the last of the code
pub on_inside : (code : Code) (body place : ℕ) (instr : Instr) (owns : Owns code body place) → FitsRow code body owns.row place instr → BodiesRise code → IsFalse (is_last instr) → place + 1 < length code.instrs
on_inside code body place instr owns row rise h = by-end (apart (place + 1) (end_of code body))
  where
    apart : (m n : ℕ) → (m ≡ n) ⊎ ((m < n) ⊎ (n < m))
    apart m n = grind arith

    by-end : (place + 1 ≡ end_of code body) ⊎ ((place + 1 < end_of code body) ⊎ (end_of code body < place + 1)) → place + 1 < length code.instrs
    by-end (inl same) = let t = row.ends same in let never : ⊥ = cc in absurd never
    by-end (inr (inl k)) = let end = end_inside code body rise in omega arith
    by-end (inr (inr k)) = let low = owns.until in absurd (omega arith)

-- a jump leads into the code
pub jump_inside : (code : Code) (body place : ℕ) (instr : Instr) (owns : Owns code body place) → FitsRow code body owns.row place instr → BodiesRise code → (to : ℕ) → jump_of instr ≡ Some to → to < length code.instrs
jump_inside code body place instr owns row rise to h = let end = end_inside code body rise in let s = row.stays to h in omega arith

-- an instruction that fits, in the row of the body that owns its place
pub row_at : (code : Code) (owners : List ℕ) (place body : ℕ) (instr : Instr) → (owned : IsOwned code owners) → Everywhere code (λ body row place instr. FitsInstr code body place instr) → (e : slice_get owners place ≡ Some body) → slice_get code.instrs place ≡ Some instr → FitsRow code body (owned.owns place body e).row place instr
row_at code owners place body instr owned fit e f =
    let o = owned.owns place body e in
    let P : Option BodyRow → Type 0 = λ r. IsSomeAnd r (λ row. FitsRow code body row place instr) in
    subst P o.is_body (fit body o.row place instr (stands_at code owners place body instr owned e f))

if_some : (o : Option ℕ) (n : ℕ) → ((to : ℕ) → o ≡ Some to → to < n) → IfSome o (λ to. to < n)
if_some None n h = tt
if_some (Some to) n h = h to refl

pub jump_requires : (code : Code) (body place n : ℕ) (instr : Instr) (owns : Owns code body place) → FitsRow code body owns.row place instr → BodiesRise code → n ≡ length code.instrs → IfSome (jump_of instr) (λ to. to < n)
jump_requires code body place n instr owns row rise e = if_some (jump_of instr) n (λ to h. let k = jump_inside code body place instr owns row rise to h in omega arith)

-- nothing was visited yet
pub found_none : (code : Code) (owners : List ℕ) (known : List (Option ℕ)) (heights : List ℕ) → length heights ≡ 0 → IsKnown code (Told code 0) known → IsFound code owners 0 known heights
found_none code owners known heights e so = record {
  is_known = so;
  only = record { count = e; forced = λ others are place height h. absurd (past place height h); others = λ place low b u t. absurd (omega arith) };
  operands = λ place body instr height low e f g. absurd (omega arith);
}
  where
    past : (place height : ℕ) → slice_get heights place ≡ Some height → ⊥
    past place height h = let k = slice_get_within heights place height h in omega arith

-- what is found once one more place was visited
pub found_more : (code : Code) (owners : List ℕ) (known : List (Option ℕ)) (heights : List ℕ) (place body height : ℕ) (instr : Instr) → BodiesRise code → (owned : IsOwned code owners) → Everywhere code (λ body row place instr. FitsInstr code body place instr) → (e : slice_get owners place ≡ Some body) → (f : slice_get code.instrs place ≡ Some instr) → IsFound code owners place known heights → IsHeightAt known place height → HoldsOperands code body instr height → IsFound code owners (place + 1) (told_by place instr (height_after code body instr height) known) (heights ++ height ∷ [])
found_more code owners known heights place body height instr rise owned fit e f so at holds = record {
  is_known = known_led code (length code.bodies) (length code.handlers) known place (height_after code body instr height) instr f so.is_known (on_inside code body place instr owns row rise) (jump_inside code body place instr owns row rise) forced;
  only = only_more code place height known heights inside so.is_known so.only at;
  operands = operands_more code owners place body height instr heights so.only.count e f holds so.operands;
}
  where
    owns : Owns code body place
    owns = owned.owns place body e

    inside : place < length code.instrs
    inside = slice_get_within code.instrs place instr f

    stands : StandsIn code body owns.row place instr
    stands = stands_at code owners place body instr owned e f

    row : FitsRow code body owns.row place instr
    row = row_at code owners place body instr owned fit e f

    forced : (to : ℕ) → place < to → LeadsTo place instr to → (others : List ℕ) → AreHeights code others → HasHeight others to (height_after code body instr height)
    forced to low leads others are = are.left body owns.row place instr stands to height low leads (forced_here code known place height so.is_known inside at others are)

-- heights that the rest is met by are those of the code
pub heights_from : (code : Code) (owners heights : List ℕ) → BodiesRise code → IsOwned code owners → AreOnly code (length owners) heights → AllHoldOperands code owners (length owners) heights → MeetRest code heights → AreHeights code heights
heights_from code owners heights rise owned only all rest = record {
  count = only.count ∙ owned.count;
  begin = rest.begin;
  left = left;
  targets = rest.targets;
  others = λ place low b u t. (let c = owned.count in only.others place (omega arith) b u t);
  again = λ body row place instr s to height is h. (rest.leaves body row place instr s height h).again to is;
  operands = operands;
  handled = rest.handled;
}
  where
    left-by : (body place to height : ℕ) (instr : Instr) → place < to → LeadsTo place instr to → Leaves heights place instr height (height_after code body instr height) → HasHeight heights to (height_after code body instr height)
    left-by body place to height instr low (inl h) l = subst (λ (x : ℕ). HasHeight heights x (height_after code body instr height)) (sym h.1) (l.on h.0)
    left-by body place to height instr low (inr h) l = l.jump to h low

    left : Everywhere code (λ body row place instr. (to height : ℕ) → place < to → LeadsTo place instr to → HasHeight heights place height → HasHeight heights to (height_after code body instr height))
    left = λ body row place instr s to height low leads h. left-by body place to height instr low leads (rest.leaves body row place instr s height h)

    operands : Everywhere code (λ body row place instr. (height : ℕ) → HasHeight heights place height → (finds code body instr ≤ height) × (height ≤ row.height))
    operands = λ body row place instr s height h.
        let k = everywhere_from (λ b p i. (x : ℕ) → HasHeight heights p x → HoldsOperands code b i x) code owners rise owned (λ p b i low e f x g. all p b i x low e f g) body row place instr s height h in
        let P : Option BodyRow → Type 0 = λ o. IsSomeAnd o (λ r. height ≤ r.height) in
        (k.0, subst P s.is_body k.1)

-- heights of a code meet the rest
pub rest_from : (code : Code) (heights : List ℕ) → AreHeights code heights → MeetRest code heights
rest_from code heights are = record {
  begin = are.begin;
  targets = are.targets;
  leaves = λ body row place instr s height h. record {
    on = λ f. are.left body row place instr s (place + 1) height (omega arith) (inl (f, refl)) h;
    jump = λ to e low. are.left body row place instr s to height low (inr e) h;
    again = λ to e. are.again body row place instr s to height e h;
  };
  handled = are.handled;
}

-- the only heights meet the rest where the code has heights
pub rest_of : (code : Code) (owners heights : List ℕ) → IsOwned code owners → AreOnly code (length owners) heights → HasHeights code → MeetRest code heights
rest_of code owners heights owned only has =
    let same : has.0 ≡ heights = sym (same_list heights has.0 (only.count ∙ owned.count ∙ sym has.1.count) (λ i x e. only.forced has.0 has.1 i x e)) in
    rest_from code heights (subst (AreHeights code) same has.1)

-- a code agrees where all that is tested holds
pub agrees_from : (code : Code) → BodiesRise code → All HoldsParams code.bodies → Everywhere code (λ body row place instr. FitsInstr code body place instr) → All (HandlesInOneBody code) code.handlers → HasHeights code → Agrees code
agrees_from code rise params fit handlers has = record {
  bodies = rise;
  params = params;
  named = λ body row place instr s. (fits body row place instr s).named;
  jumps = λ body row place instr s. (fits body row place instr s).stays;
  forward = λ body row place instr s. (fits body row place instr s).forward;
  handlers = handlers;
  ends = λ body row place instr s. (fits body row place instr s).ends;
  heights = has.0;
  are_heights = has.1;
}
  where
    fits : (body : ℕ) (row : BodyRow) (place : ℕ) (instr : Instr) → StandsIn code body row place instr → FitsRow code body row place instr
    fits body row place instr s = let P : Option BodyRow → Type 0 = λ o. IsSomeAnd o (λ r. FitsRow code body r place instr) in subst P s.is_body (fit body row place instr s)

-- what a code that agrees fits
pub fit_from : (code : Code) → Agrees code → Everywhere code (λ body row place instr. FitsInstr code body place instr)
fit_from code a body row place instr s =
    let P : Option BodyRow → Type 0 = λ o. IsSomeAnd o (λ r. FitsRow code body r place instr) in
    let here : FitsRow code body row place instr = record { named = a.named body row place instr s; stays = a.jumps body row place instr s; forward = a.forward body row place instr s; ends = a.ends body row place instr s } in
    subst P (sym s.is_body) here
