-- What is read as an expression or a part of one is that, since what it took is.
use Rattle.std.proofs.Common.{◌≡◌, ℕ, zero, suc, ◌+◌, ◌<◌, true, [], ◌∷◌, Option, Some, None, Result, Ok, refl, sym, subst}
use Rattle.chill_base.specs.declared.pos.Pos.{Pos}
use Rattle.chill_tree.specs.declared.token.Sign.TheVariants as signs
use Rattle.chill_tree.specs.declared.tree.name.Name.{Name}
use Rattle.chill_tree.specs.ExprTree.{ExprTree, name, field, place_of}
use Rattle.rules_model.specs.declared.extent.Extent.TheVariants as extents
use Rattle.rules_model.specs.Marks.{Toks, sign, name_token, begins}
use Rattle.rules_model.specs.ExprGrammar.{IsNamed, a_name, with_args, with_field, some_args, one_expr, IsRange, IsExpr, is_location, IsLocation, is_loc}
use Rattle.rules_model.specs.Reading.{Fault, Deep}
use Rattle.rules_model.specs.ExprReading.{args_at, field_at, NamePart, Args, Field, with_part, location_part_at, location_parts_at, location_at, range_at, expr_at}
use Rattle.rules_model.specs.ModeReading.{value_at}
use Rattle.expr_parser.proofs.Taken.{Told, taken, broken, missing}
use Rattle.expr_parser.proofs.ExprTaken.{InBrackets, range_told, told_args, told_expr, told_inner, told_value}
use Rattle.chill_parser.proofs.Taken.{ok_is, last_is, never, either, name_read, sign_then, name_then, Sound, Was, read_then, IfThere, loop_counts}

-- what was told of what was read
sound_told : {A : Type 0} {n m : ℕ} (Is : A → Toks → Toks → Type 0) (toks : Toks) {r : Result (A × Toks) Fault} → Told n m Is toks r → (x : A) (rest : Toks) → r ≡ Ok (x, rest) → Is x toks rest
sound_told {A = A} Is toks (taken {x = y} {rest = more} T) x rest e =
    let here : Is y toks more = subst (λ (t : Toks). Is y t more) (sym T.here) (T.any more) in
    subst (λ (z : A × Toks). Was Is toks z) (ok_is (y, more) (x, rest) e) here
sound_told Is toks (broken V d) x rest e = absurd cc
sound_told Is toks (missing V f) x rest e = absurd cc

pub sound_expr : (n : ℕ) (p : Pos) → Sound IsExpr (expr_at n p)
unfolding expr_at
sound_expr zero p toks x rest e = never (Was IsExpr toks) (Deep p) (x, rest) e
sound_expr (suc n) p toks x rest e = sound_told IsExpr toks (told_expr n p toks) x rest e

pub sound_value : (n : ℕ) → Sound IsExpr (value_at n)
sound_value n toks x rest e = sound_told IsExpr toks (told_value extents.Whole n toks) x rest e

pub sound_args : (n : ℕ) → Sound InBrackets (args_at n (expr_at n))
sound_args n toks x rest e = sound_told InBrackets toks (told_args n (told_inner n) toks) x rest e

pub sound_range : (n : ℕ) (p : Pos) → Sound IsRange (range_at (expr_at n p))
unfolding range_at expr_at
sound_range zero p toks x rest e = never (Was IsRange toks) (Deep p) (x, rest) e
sound_range (suc n) p toks x rest e = sound_told IsRange toks (range_told n (told_inner (suc n)) p toks) x rest e

-- ---- locations

data IsDotted (x : Name) : Toks → Toks → Type 0 where
  dotted : {p : Pos} {rest : Toks} → IsDotted x (sign p signs.Dot ∷ name_token x ∷ rest) rest

dotted_name : (p : Pos) (toks m : Toks) → toks ≡ sign p signs.Dot ∷ m → (x : Name) (rest : Toks) → m ≡ name_token x ∷ rest → IsDotted x toks rest
dotted_name p toks m e x rest g = subst (λ (z : Toks). IsDotted x z rest) (sym e) (subst (λ (z : Toks). IsDotted x (sign p signs.Dot ∷ z) rest) (sym g) dotted)

sound_field : Sound IsDotted field_at
unfolding field_at
sound_field toks x rest =
    let P : Name × Toks → Type 0 = Was IsDotted toks in
    sign_then P signs.Dot toks _ (λ p m e y h. dotted_name p toks m e y.0 y.1 (name_read m y.0 y.1 h)) (x, rest)

with_dotted : {k : ℕ} {e : ExprTree} {x : Name} {toks m rest : Toks} → IsNamed k e toks m → IsDotted x m rest → k < 32 → IsNamed (suc k) (field (place_of e) e x) toks rest
with_dotted d dotted lt = with_field d lt

-- a name with so many parts, each of which a location may have
abbrev pub HasParts : Toks → ℕ → ExprTree → Toks → Type 0
HasParts toks k e m = IsNamed k e toks m × (is_location e ≡ true)

location_part_is : (n : ℕ) (toks : Toks) (k : ℕ) (e : ExprTree) (m : Toks) → k < 32 → HasParts toks k e m → (o : Option (NamePart × Toks)) → location_part_at (expr_at n) m ≡ Ok o → IfThere (λ (x : NamePart × Toks). HasParts toks (suc k) (with_part e x.0) x.1) o
unfolding location_part_at
location_part_is n toks k e m lt d =
    let P : Option (NamePart × Toks) → Type 0 = IfThere (λ (x : NamePart × Toks). HasParts toks (suc k) (with_part e x.0) x.1) in
    either P (begins signs.Open m) _ _
    (λ b. sign_then P signs.Open m _ (λ p m2 here. read_then P IsExpr (expr_at n p) (sound_expr n p) m2 _ (λ f m3 df. sign_then P signs.Close m3 _ (λ q m4 close.
    last_is P (Some (Args (f ∷ []), m4)) (with_args (subst (λ (z : Toks). IsNamed k e toks z) here d.0) (some_args (one_expr (subst (λ (z : Toks). IsExpr f m2 z) close df))) lt, d.1)))))
    (λ b. either P (begins signs.Dot m) _ _
    (λ c. read_then P IsDotted field_at sound_field m _ (λ x m2 dx. last_is P (Some (Field x, m2)) (with_dotted d.0 dx lt, d.1)))
    (λ c. last_is P None tt))

-- what is read behind so many parts of a location is a location
pub parts_located : (n : ℕ) (toks : Toks) (j k : ℕ) → j + k ≡ 32 → (e : ExprTree) (m : Toks) → HasParts toks k e m → (y : ExprTree × Toks) → location_parts_at (expr_at n) j e m ≡ Ok y → IsLocation y.0 toks y.1
parts_located n toks j k all e m d y h =
    let x = loop_counts (location_part_at (expr_at n)) with_part 32 (HasParts toks) (location_part_is n toks) j k all e m d y h in
    is_loc x.1.0 x.1.1

pub sound_location : (n : ℕ) → Sound IsLocation (location_at (expr_at n))
unfolding location_at
sound_location n toks x rest = name_then (Was IsLocation toks) toks _ (λ y m e z h. parts_located n toks 32 0 refl (name y) m (rw e a_name, refl) z h) (x, rest)
