-- The longest expression from a place, and where there is none.
use Rattle.std.proofs.Common.{◌≡◌, ℕ, zero, suc, ◌+◌, ◌-◌, ◌<◌, ◌≤◌, [], ◌∷◌, ◌++◌, length, take, drop, Option, Some, None, Result, Ok, Err, refl, sym, ap, ◌∙◌, subst, arith, length-append, length-drop}
use Rattle.std.specs.Prelude.{IsErrAnd}
use Rattle.std.proofs.lemmas.List.{append-nil, drop_at, drop-drop, take_all}
use Rattle.chill_base.specs.declared.pos.Pos.{Pos}
use Rattle.chill_tree.specs.declared.token.Token.{Token}
use Rattle.std.specs.declared.alloc.Global.{Global}
use Rattle.std.specs.declared.boxed.Box.{Box}
use Rattle.chill_tree.specs.declared.tree.expr.Expr.{Expr}
use Rattle.chill_tree.specs.ExprTree.{ExprTree}
use Rattle.rules_model.specs.declared.extent.Extent.TheVariants as extents
use Rattle.rules_model.specs.Marks.{Toks}
use Rattle.rules_model.specs.ExprGrammar.{IsRanked}
use Rattle.rules_model.specs.Nesting.{room_after, deep_or, first_deep}
use Rattle.rules_model.specs.Reading.{Deep, Absent, Read}
use Rattle.rules_model.specs.ExprReading.{ranked_at, expr_at}
use Rattle.rules_model.proofs.ExprExact.{exact_ranked}
use Rattle.rules_model.proofs.ExprStarts.{ranked_shrinks}
use Rattle.rules_model.proofs.OneTree.{enough_room}
use Rattle.expr_parser.specs.declared.refusal.ParseRefusal.{ParseRefusal}
use Rattle.expr_parser.specs.declared.refusal.ParseRefusal.TheVariants as refusals
use Rattle.expr_parser.specs.Giving.{Fails}
use Rattle.expr_parser.specs.Expressing.{IsLongest, HasNone, BeginsExpr, ReachesLimit, StaysBelowLimit, FitsUpTo, RefusesExpr, Expresses}
use Rattle.expr_parser.proofs.Taken.{Takes, Begun, Told, taken, broken, missing}
use Rattle.expr_parser.proofs.ExprTaken.{told_value}
use Rattle.expr_parser.proofs.Tracked.{Front, at_end, at_token, Tracks, runs_out, both_missing, both_read}
use Rattle.expr_parser.proofs.ExprTracked.{tracks_value}
use Rattle.expr_parser.proofs.Longest.{AtLeast, reads, value_least}

abbrev pub Value : ℕ → Toks → Read ExprTree
Value n toks = ranked_at extents.Longest n (expr_at n) 5 toks

abbrev OfDeep : Read ExprTree → Type 0
OfDeep (Ok x) = ⊥
OfDeep (Err (Deep p)) = Unit {0}
OfDeep (Err (Absent o)) = ⊥

abbrev OfAbsent : Read ExprTree → Type 0
OfAbsent (Ok x) = ⊥
OfAbsent (Err (Deep p)) = ⊥
OfAbsent (Err (Absent o)) = Unit {0}

abbrev rest_of : Read ExprTree → Toks
rest_of (Ok x) = x.1
rest_of (Err d) = []

abbrev place_of_deep : Read ExprTree → Option Pos
place_of_deep (Ok x) = None
place_of_deep (Err (Deep p)) = Some p
place_of_deep (Err (Absent o)) = None

abbrev place_of_misfit : Read ExprTree → Option Pos
place_of_misfit (Ok x) = None
place_of_misfit (Err (Deep p)) = None
place_of_misfit (Err (Absent o)) = o

abbrev done : ExprTree × Toks → Read ExprTree
done x = Ok x

ok_is : (x y : ExprTree × Toks) → done x ≡ done y → x ≡ y
ok_is x y e = cc

-- ---- the same tokens

Same : ℕ → Toks → Toks → Type 0
Same n b a = b ≡ a

front_self : (n : ℕ) (b : Toks) → Front Same n b b
unfolding Same
front_self n [] = at_end
front_self n (t ∷ b) = at_token (λ k h. refl)

same_front : (n : ℕ) (b a : Toks) → Same n b a → Front Same n b a
unfolding Same
same_front n b a e = subst (λ (c : Toks). Front Same n b c) e (front_self n b)

-- what is read with levels enough is as much as any expression
wide_least : (n : ℕ) (e : ExprTree) (toks rest : Toks) → IsRanked 5 e toks rest → AtLeast rest (Value (n + length toks) toks)
wide_least n e toks rest d = value_least (n + length toks) d (enough_room (suc (n + length toks)) toks (omega arith))

is_longer : {s r : Read ExprTree} (x : ExprTree) (more other : Toks) → Tracks Same 65 s r → AtLeast other r → s ≡ Ok (x, more) → length more ≤ length other
unfolding Same
is_longer x more other (runs_out {p = p}) h e = absurd (subst OfDeep e tt)
is_longer x more other both_missing h e = elim h [ ]
is_longer x more other (both_read {x = y} {b = b} {a = a} l) (reads le) e =
    omega (arith, le, ap length l, ap length (ap rest_of e))

pub longest : (toks more : Toks) (x : ExprTree) → Value 64 toks ≡ Ok (x, more) → (e : ExprTree) (rest : Toks) → IsRanked 5 e toks rest → length more ≤ length rest
unfolding Same
longest toks more x h e rest d = is_longer x more rest (tracks_value Same same_front extents.Longest 64 (64 + length toks) (omega arith) toks toks refl) (wide_least 64 e toks rest d) h

not_missing : {s r : Read ExprTree} (o : Option Pos) (other : Toks) → Tracks Same 65 s r → AtLeast other r → s ≡ Err (Absent o) → ⊥
not_missing o other runs_out h e = subst OfDeep e tt
not_missing o other both_missing h e = elim h [ ]
not_missing o other (both_read l) h e = subst OfAbsent (sym e) tt

pub none_stands : (toks : Toks) (o : Option Pos) → Value 64 toks ≡ Err (Absent o) → HasNone toks
unfolding Same
none_stands toks o h f other d = not_missing o other (tracks_value Same same_front extents.Longest 64 (64 + length toks) (omega arith) toks toks refl) (wide_least 64 f toks other d) h

-- ---- what was read too deep

begins : (toks : Toks) (V : Begun (IsRanked 5) toks) → BeginsExpr V.used
begins toks V = record { more = V.more; tree = V.tree; is = subst (λ (t : Toks). IsRanked 5 V.tree (V.used ++ t) []) (append-nil V.more) (V.any []) }

limit_told : {r : Read ExprTree} (toks : Toks) (p : Pos) → Told 65 65 (IsRanked 5) toks r → r ≡ Err (Deep p) → ReachesLimit toks p
limit_told toks p (taken T) e = absurd (subst OfDeep (sym e) tt)
limit_told toks p (broken V d) e = record { used = V.used; rest = V.rest; here = V.here; begins = begins toks V; deep = d ∙ ap place_of_deep e }
limit_told toks p (missing V d) e = absurd (subst OfDeep (sym e) tt)

fit_told : {r : Read ExprTree} (toks : Toks) (o : Option Pos) → Told 65 65 (IsRanked 5) toks r → r ≡ Err (Absent o) → FitsUpTo toks o
fit_told toks o (taken T) e = absurd (subst OfAbsent (sym e) tt)
fit_told toks o (broken V d) e = absurd (subst OfAbsent (sym e) tt)
fit_told toks o (missing V d) e = record { used = V.used; rest = V.rest; here = V.here; begins = begins toks V; misfit = d ∙ ap place_of_misfit e }

pub reaches : (toks : Toks) (p : Pos) → Value 64 toks ≡ Err (Deep p) → ReachesLimit toks p
reaches toks p h = limit_told toks p (told_value extents.Longest 64 toks) h

-- ---- tokens that agree up to the one at which levels are wanting

data Agree : ℕ → Toks → Toks → Type 0 where
  here : {n : ℕ} {t : Token} {b a : Toks} → room_after t.kind n ≡ 0 → Agree n (t ∷ b) (t ∷ a)
  later : {n : ℕ} {t : Token} {b a : Toks} → Agree (room_after t.kind n) b a → Agree n (t ∷ b) (t ∷ a)

agree_front : (n : ℕ) (b a : Toks) → Agree n b a → Front Agree n b a
agree_front n b a (here {t = t} {b = c} {a = d} h) = at_token (λ k e. absurd (differ k e))
  where
    differ : (k : ℕ) → room_after t.kind n ≡ suc k → ⊥
    differ k e = let z : suc k ≡ 0 = sym e ∙ h in omega (arith, z)
agree_front n b a (later {t = t} {b = c} {a = d} l) = at_token (λ k e. subst (λ j. Agree j c d) e l)

one_agrees : (n : ℕ) (t : Token) (pre b a : Toks) (p : Pos) → ((k : ℕ) → first_deep k pre ≡ Some p → Agree k (pre ++ b) (pre ++ a)) → (k : ℕ) → room_after t.kind n ≡ k → deep_or k t.at (first_deep k pre) ≡ Some p → Agree n (t ∷ (pre ++ b)) (t ∷ (pre ++ a))
one_agrees n t pre b a p again zero e h = here e
one_agrees n t pre b a p again (suc k) e h = later (subst (λ j. Agree j (pre ++ b) (pre ++ a)) (sym e) (again (suc k) h))

deep_agree : (n : ℕ) (pre b a : Toks) (p : Pos) → first_deep n pre ≡ Some p → Agree n (pre ++ b) (pre ++ a)
deep_agree n [] b a p h = absurd cc
deep_agree n (t ∷ pre) b a p h = one_agrees n t pre b a p (λ k e. deep_agree k pre b a p e) (room_after t.kind n) refl h

no_end : (n : ℕ) (b a : Toks) → Agree n b a → a ≡ [] → ⊥
no_end n b a (here {t = t} {a = c} h) e = absurd cc
no_end n b a (later {t = t} {a = c} l) e = absurd cc

not_whole : {s r : Read ExprTree} (e : ExprTree) → Tracks Agree 65 s r → r ≡ Ok (e, []) → ((p : Pos) → s ≡ Err (Deep p) → ⊥) → ⊥
not_whole e (runs_out {p = p}) h not = not p refl
not_whole e both_missing h not = subst OfAbsent h tt
not_whole e (both_read {b = b} {a = a} l) h not = no_end 65 b a l (ap rest_of h)

-- where reading has levels enough, no tokens that begin an expression reach the limit
pub stays : (toks : Toks) → ((p : Pos) → Value 64 toks ≡ Err (Deep p) → ⊥) → StaysBelowLimit toks
stays toks not at R =
    let full : Toks = R.used ++ R.begins.more in
    let m : ℕ = 64 + length full in
    let exact = (exact_ranked R.begins.is extents.Longest m (enough_room (suc m) full (omega arith)) tt).0 in
    let alike = subst (λ (t : Toks). Agree 65 t full) (sym R.here) (deep_agree 65 R.used R.rest R.begins.more at R.deep) in
    not_whole R.begins.tree (tracks_value Agree agree_front extents.Longest 64 m (omega arith) toks full alike) exact not

ok_deep : (r : Read ExprTree) (x : ExprTree × Toks) (p : Pos) → r ≡ Ok x → r ≡ Err (Deep p) → ⊥
ok_deep r x p h e = subst OfDeep (sym e ∙ h) tt

absent_deep : (r : Read ExprTree) (o : Option Pos) (p : Pos) → r ≡ Err (Absent o) → r ≡ Err (Deep p) → ⊥
absent_deep r o p h e = subst OfDeep (sym e ∙ h) tt

-- ---- the answer

taken_of : {r : Read ExprTree} (toks rest : Toks) (e : ExprTree) → Told 65 65 (IsRanked 5) toks r → r ≡ Ok (e, rest) → Takes 65 65 (IsRanked 5 e) toks rest
taken_of toks rest e (taken {x = x} {rest = more} T) h =
    let same : (x, more) ≡ (e, rest) = ok_is (x, more) (e, rest) h in
    subst (λ (y : ExprTree × Toks). Takes 65 65 (IsRanked 5 y.0) toks y.1) same T
taken_of toks rest e (broken V d) h = absurd (subst OfDeep h tt)
taken_of toks rest e (missing V d) h = absurd (subst OfAbsent h tt)

-- the rest is what is left behind its place
rest_at : (toks used rest : Toks) → toks ≡ used ++ rest → drop (length toks - length rest) toks ≡ rest
rest_at toks used rest h =
    let k : length toks - length rest ≡ length used = omega (arith, ap length h, length-append used rest) in
    rw k (ap (drop (length used)) h ∙ drop_at used rest (length used) refl)

pub expressed : (toks rest : Toks) (from : ℕ) (e : ExprTree) → from ≤ length toks → Value 64 (drop from toks) ≡ Ok (e, rest)
    → IsLongest e (drop from toks) (drop (length toks - length rest) toks) × StaysBelowLimit (drop from toks) × (from < length toks - length rest) × (length toks - length rest ≤ length toks)
expressed toks rest from e le h =
    let front : Toks = drop from toks in
    let T = taken_of front rest e (told_value extents.Longest 64 front) h in
    let d : IsRanked 5 e front rest = subst (λ (t : Toks). IsRanked 5 e t rest) (sym T.here) (T.any rest) in
    let short = ranked_shrinks d in
    let len = length-drop from toks in
    let j : ℕ = length front - length rest in
    let k : from + j ≡ length toks - length rest = omega arith in
    let all : drop (length toks - length rest) toks ≡ rest = ap (λ i. drop i toks) (sym k) ∙ sym (drop-drop j from toks) ∙ rest_at front T.used rest T.here in
    (rw all (record { is = d; longest = λ f other g. longest front rest e h f other g }), stays front (λ p x. ok_deep (Value 64 front) (e, rest) p h x), omega arith, omega arith)

pub refused : (toks : Toks) (r : ParseRefusal) → Fails r (Value 64 toks) → RefusesExpr toks r
refused toks (refusals.TooDeep at) h = reaches toks at h
refused toks (refusals.NoProgram at) h = (none_stands toks at h, stays toks (λ p x. absent_deep (Value 64 toks) at p h x), fit_told toks at (told_value extents.Longest 64 toks) h)
refused toks refusals.Memory h = tt

-- a slice to the end
pub to_end : (from : ℕ) (toks slice : Toks) → slice ≡ toks → take (length slice - from) (drop from slice) ≡ drop from toks
to_end from toks slice e = take_all (length slice - from) (drop from slice) (omega (arith, length-drop from slice)) ∙ ap (drop from) e

-- an error that is handed on
pub handed_on : (toks : Toks) (from : ℕ) (r : Result (Box Expr Global × ℕ) ParseRefusal) (e : ParseRefusal) → IsErrAnd r (λ x. x ≡ e) → RefusesExpr (drop from toks) e → Expresses toks from r
handed_on toks from (Ok x) e h refuses = absurd h
handed_on toks from (Err x) e h refuses = subst (λ (y : ParseRefusal). RefusesExpr (drop from toks) y) (sym h) refuses
