-- What operators and routines make of values are values of the mode that the result has.
use Rattle.std.proofs.Common.{◌≡◌, ℕ, zero, suc, ◌+◌, ◌-◌, ◌<◌, ◌≤◌, Bool, true, false, List, [], ◌∷◌, length, Option, Some, None, inl, inr, refl, sym, ap, ◌∙◌, subst, arith}
use Rattle.std.specs.Prelude.{ℤ, pos, negsuc, neg_ℤ, ◌≤ℤ◌, ◌-ℤ◌, ◌+ℤ◌, ◌*ℤ◌, int_le, int_div, int_rem, IsTrue, if◌then◌else◌}
use Rattle.std.proofs.lemmas.Int.{ints}
use Rattle.std.specs.Int.{int_rem_euclid}
use Rattle.kernel_base.specs.declared.ends.Exc.TheVariants.{Overflow}
use Rattle.kernel_base.specs.Facts.{TellsMembers}
use Rattle.modes.specs.declared.mode.Bounds.{Bounds}
use Rattle.modes.specs.ModeTree.{ModeTree, int, boolean, char, instance, set_of, range, powerset, chars, array, structure, event, buffer, read, named}
use Rattle.modes.specs.Bounds.{bounds_of, bounds_in, natural_of, count_between, count_within, values_of}
use Rattle.modes.specs.Scalars.{numbers_of}
use Rattle.modes.specs.Roots.{root_of, novelty_of, read_is}
use Rattle.modes.specs.Form.{FormTree, of_int, of_boolean, of_char, of_instance, of_set, of_powerset, of_chars, of_array, of_structure, of_meeting, form_of}
use Rattle.modes.specs.Similar.{Shape, like_powerset, part, shape_of, Similar}
use Rattle.modes.specs.Language.{parts_fit, lie_in, IsOfLanguage}
use Rattle.modes.proofs.SimilarLemmas.{shape_in, shape-form, both}
use Rattle.layout_map.proofs.Narrow.{bounds-small, Small, members-from}
use Rattle.scalar_operators.specs.Numbers.{is_int, where_true, truth_number, int_result, magnitude, truth_of}
use Rattle.scalar_operators.specs.Powersets.{union, intersection, symmetric_difference, difference, first_of_list, last_of_list}
use Rattle.scalar_operators.specs.Members.{by_pairs, complement_of, offsets_of}
use Rattle.checked_program.specs.declared.expr.Binary.{Binary}
use Rattle.checked_program.specs.declared.expr.Binary.TheVariants.{Add, Subtract, Multiply, Divide, Modulo, Remainder, And, Or, Xor, AndIf, OrIf, Equal, NotEqual, Less, LessOrEqual, Greater, GreaterOrEqual, Union, Intersection, SymmetricDifference, Difference, Included, ProperlyIncluded, Includes, ProperlyIncludes, Member}
use Rattle.checked_program.specs.declared.expr.Prefix.{Prefix}
use Rattle.checked_program.specs.declared.expr.Prefix.TheVariants.{Minus, Not, Complement}
use Rattle.checked_program.specs.declared.expr.Routine.{Routine}
use Rattle.checked_program.specs.declared.expr.Routine.TheVariants.{Number, Absolute, Cardinality, Successor, Predecessor, Least, Greatest}
use Rattle.source_meaning.specs.Operators.{Computed, Yields, Throws, sole_number, one, truth, yields_or, in_int, binary_value, prefix_value, routine_value, member_at, takes_second}
use Rattle.source_meaning.specs.Values.{Domain, within, domain_in, member_domains, domains_of, IsWithin, AreWithin, IsValueOf}
use Rattle.source_meaning.specs.TypedValues.{BinaryHas, PrefixHas, RoutineHas, IsRootOfEither, IsOnInts, IsOnTruths, IsOnSets}
use Rattle.text_laws.proofs.Held.{untrue}
use Rattle.text_laws.proofs.Values.{within_length}
use Rattle.text_laws.proofs.Powersets.{union_tells, intersection_tells, symmetric_tells, difference_tells, pairs_tell, complements_tell, offsets_below, offsets_few, first_below, last_below, and_left, and_right}

abbrev pub ComputesBy : ModeTree → Computed → Type 0
ComputesBy m (Yields xs) = IsValueOf m xs
ComputesBy m (Throws x) = Unit {0}

-- a value of the mode, or an exception
pub record Computes (m : ModeTree) (o : Computed) : Type 0 where
  pub by : ComputesBy m o

-- ---- discrete modes

-- a discrete mode has one scalar, within its bounds
pub discrete_domain : (m : ModeTree) (b : Bounds) → bounds_of m ≡ Some b → domains_of m ≡ within b ∷ []
discrete_domain int b e = ap (λ (o : Option Bounds). domain_in o ∷ []) e
discrete_domain boolean b e = ap (λ (o : Option Bounds). domain_in o ∷ []) e
discrete_domain char b e = ap (λ (o : Option Bounds). domain_in o ∷ []) e
discrete_domain instance b e = absurd (let f : ⊥ = cc in f)
discrete_domain (set_of d n) b e = ap (λ (o : Option Bounds). domain_in o ∷ []) e
discrete_domain (range p l h) b e = ap (λ (o : Option Bounds). domain_in o ∷ []) e
discrete_domain (powerset m) b e = absurd (let f : ⊥ = cc in f)
discrete_domain (chars n) b e = absurd (let f : ⊥ = cc in f)
discrete_domain (array i m how) b e = absurd (let f : ⊥ = cc in f)
discrete_domain (structure fs p) b e = absurd (let f : ⊥ = cc in f)
discrete_domain (event l) b e = absurd (let f : ⊥ = cc in f)
discrete_domain (buffer l m) b e = absurd (let f : ⊥ = cc in f)
discrete_domain (read m) b e = discrete_domain m b e
discrete_domain (named d n m) b e = discrete_domain m b e

-- the number of a discrete value
pub discrete_number : (m : ModeTree) (b : Bounds) (xs : List ℤ) → bounds_of m ≡ Some b → IsValueOf m xs → (xs ≡ sole_number xs ∷ []) × (b.low ≤ℤ sole_number xs) × (sole_number xs ≤ℤ b.high)
discrete_number m b xs e v = alone xs (subst (λ (ds : List Domain). AreWithin ds xs) (discrete_domain m b e) v)
  where
    alone : (xs : List ℤ) → AreWithin (within b ∷ []) xs → (xs ≡ sole_number xs ∷ []) × (b.low ≤ℤ sole_number xs) × (sole_number xs ≤ℤ b.high)
    alone [] w = absurd w
    alone (x ∷ []) w = (refl, w.0.0, w.0.1)
    alone (x ∷ y ∷ xs) w = absurd w.1

-- a number within the bounds is a value
pub number_value : (m : ModeTree) (b : Bounds) (z : ℤ) → bounds_of m ≡ Some b → b.low ≤ℤ z → z ≤ℤ b.high → IsValueOf m (z ∷ [])
number_value m b z e low high = subst (λ (ds : List Domain). AreWithin ds (z ∷ [])) (sym (discrete_domain m b e)) ((low, high), tt)

-- the number of a discrete value lies in INT
pub discrete_small : (m : ModeTree) (b : Bounds) → IsOfLanguage m → bounds_of m ≡ Some b → (neg_ℤ (pos 2147483648) ≤ℤ b.low) × (b.high ≤ℤ pos 2147483647)
discrete_small m b h e = subst Small e (bounds-small m h.parts)

pub one_within : (d : Domain) (xs : List ℤ) → AreWithin (d ∷ []) xs → (xs ≡ sole_number xs ∷ []) × IsWithin d (sole_number xs)
one_within d [] w = absurd w
one_within d (x ∷ []) w = (refl, w.0)
one_within d (x ∷ y ∷ xs) w = absurd w.1

-- ---- forms and roots

abbrev pub IsForm : FormTree → Type 0
IsForm of_int = Unit {0}
IsForm of_boolean = Unit {0}
IsForm f = ⊥

abbrev pub root_form : FormTree → ModeTree
root_form of_int = int
root_form of_boolean = boolean
root_form f = int

-- the root of a mode of INT or BOOL has the same values as that
pub root_domains : (m : ModeTree) (f : FormTree) → IsForm f → form_of m ≡ f → domains_of (root_of m) ≡ domains_of (root_form f)
root_domains int f i e = ap (λ (g : FormTree). domains_of (root_form g)) e
root_domains boolean f i e = ap (λ (g : FormTree). domains_of (root_form g)) e
root_domains char f i e = absurd (subst IsForm (sym e) i)
root_domains instance f i e = absurd (subst IsForm (sym e) i)
root_domains (set_of d n) f i e = absurd (subst IsForm (sym e) i)
root_domains (range p l h) f i e = root_domains p f i e
root_domains (powerset m) f i e = absurd (subst IsForm (sym e) i)
root_domains (chars n) f i e = absurd (subst IsForm (sym e) i)
root_domains (array j m how) f i e = absurd (subst IsForm (sym e) i)
root_domains (structure fs p) f i e = absurd (subst IsForm (sym e) i)
root_domains (event l) f i e = absurd (subst IsForm (sym e) i)
root_domains (buffer l m) f i e = absurd (subst IsForm (sym e) i)
root_domains (read m) f i e = root_domains m f i e
root_domains (named d true m) f i e = root_domains m f i e
root_domains (named d false m) f i e = root_domains m f i e

similar_by : (f g : FormTree) → IsForm f → shape_in f ≡ shape_in g → f ≡ g
similar_by of_int of_int i e = refl
similar_by of_int of_boolean i e = absurd (let f : ⊥ = cc in f)
similar_by of_int of_char i e = absurd (let f : ⊥ = cc in f)
similar_by of_int of_instance i e = absurd (let f : ⊥ = cc in f)
similar_by of_int (of_set d n) i e = absurd (let f : ⊥ = cc in f)
similar_by of_int (of_powerset m) i e = absurd (let f : ⊥ = cc in f)
similar_by of_int (of_chars n) i e = absurd (let f : ⊥ = cc in f)
similar_by of_int (of_array j m how) i e = absurd (let f : ⊥ = cc in f)
similar_by of_int (of_structure fs p) i e = absurd (let f : ⊥ = cc in f)
similar_by of_int of_meeting i e = absurd (let f : ⊥ = cc in f)
similar_by of_boolean of_int i e = absurd (let f : ⊥ = cc in f)
similar_by of_boolean of_boolean i e = refl
similar_by of_boolean of_char i e = absurd (let f : ⊥ = cc in f)
similar_by of_boolean of_instance i e = absurd (let f : ⊥ = cc in f)
similar_by of_boolean (of_set d n) i e = absurd (let f : ⊥ = cc in f)
similar_by of_boolean (of_powerset m) i e = absurd (let f : ⊥ = cc in f)
similar_by of_boolean (of_chars n) i e = absurd (let f : ⊥ = cc in f)
similar_by of_boolean (of_array j m how) i e = absurd (let f : ⊥ = cc in f)
similar_by of_boolean (of_structure fs p) i e = absurd (let f : ⊥ = cc in f)
similar_by of_boolean of_meeting i e = absurd (let f : ⊥ = cc in f)
similar_by of_char g i e = absurd i
similar_by of_instance g i e = absurd i
similar_by (of_set d n) g i e = absurd i
similar_by (of_powerset m) g i e = absurd i
similar_by (of_chars n) g i e = absurd i
similar_by (of_array j m how) g i e = absurd i
similar_by (of_structure fs p) g i e = absurd i
similar_by of_meeting g i e = absurd i

-- a mode that is similar to one of INT or BOOL is one too
pub similar_form : (a b : ModeTree) (f : FormTree) → IsForm f → form_of a ≡ f → Similar a b → form_of b ≡ f
similar_form a b f i e s =
    let shapes : shape_in f ≡ shape_in (form_of b) = ap shape_in (sym e) ∙ (sym (shape-form a) ∙ (s.shape ∙ shape-form b)) in
    sym (similar_by f (form_of b) i shapes)

-- the result of an operator on INT or BOOL has the values of that
pub result_domains : (a b m : ModeTree) (f : FormTree) → IsForm f → form_of a ≡ f → Similar a b → IsRootOfEither m a b → domains_of m ≡ domains_of (root_form f)
result_domains a b m f i e s (inl is) = ap domains_of is ∙ root_domains a f i e
result_domains a b m f i e s (inr is) = ap domains_of is ∙ root_domains b f i (similar_form a b f i e s)

low_from : (a l z : ℤ) → IsTrue (int_le a l) → l ≤ℤ z → a ≤ℤ z
low_from a l z t p = grind (arith, ints, t, p)

high_from : (h b z : ℤ) → IsTrue (int_le h b) → z ≤ℤ h → z ≤ℤ b
high_from h b z t p = grind (arith, ints, t, p)

-- a discrete mode's bounds lie in those of its root
pub root_wider : (m : ModeTree) (f : FormTree) (xs : List ℤ) → IsForm f → form_of m ≡ f → IsTrue (parts_fit m) → IsValueOf m xs → IsValueOf (root_form f) xs
root_wider int f xs i e p v = subst (λ (g : FormTree). IsValueOf (root_form g) xs) e v
root_wider boolean f xs i e p v = subst (λ (g : FormTree). IsValueOf (root_form g) xs) e v
root_wider char f xs i e p v = absurd (subst IsForm (sym e) i)
root_wider instance f xs i e p v = absurd (subst IsForm (sym e) i)
root_wider (set_of d n) f xs i e p v = absurd (subst IsForm (sym e) i)
root_wider (range q l h) f xs i e p v = root_wider q f xs i e (both _ _ p).0 (parent_value q l h xs (both _ _ p).1 v)
  where
    parent_by : (q : ModeTree) (o : Option Bounds) (l h : ℤ) (xs : List ℤ) → bounds_of q ≡ o → IsTrue (lie_in l h o) → AreWithin (domain_in (bounds_in o l h) ∷ []) xs → IsValueOf q xs
    parent_by q None l h xs e t v = untrue t
    parent_by q (Some b) l h xs e t v =
        let w = one_within (within (record { low = l; high = h })) xs v in
        let low : IsTrue (int_le b.low l) = (both _ _ (both _ _ t).1).0 in
        let high : IsTrue (int_le h b.high) = (both _ _ (both _ _ t).1).1 in
        subst (λ (ys : List ℤ). IsValueOf q ys) (sym w.0) (number_value q b (sole_number xs) e (low_from b.low l (sole_number xs) low w.1.0) (high_from h b.high (sole_number xs) high w.1.1))

    parent_value : (q : ModeTree) (l h : ℤ) (xs : List ℤ) → IsTrue (lie_in l h (bounds_of q)) → IsValueOf (range q l h) xs → IsValueOf q xs
    parent_value q l h xs t v = parent_by q (bounds_of q) l h xs refl t v
root_wider (powerset m) f xs i e p v = absurd (subst IsForm (sym e) i)
root_wider (chars n) f xs i e p v = absurd (subst IsForm (sym e) i)
root_wider (array j m how) f xs i e p v = absurd (subst IsForm (sym e) i)
root_wider (structure fs q) f xs i e p v = absurd (subst IsForm (sym e) i)
root_wider (event l) f xs i e p v = absurd (subst IsForm (sym e) i)
root_wider (buffer l m) f xs i e p v = absurd (subst IsForm (sym e) i)
root_wider (read m) f xs i e p v = root_wider m f xs i e p v
root_wider (named d n m) f xs i e p v = root_wider m f xs i e p v

-- ---- results in INT and BOOL

abbrev pub HasInts : ModeTree → Type 0
HasInts m = domains_of m ≡ domains_of int

abbrev pub HasTruths : ModeTree → Type 0
HasTruths m = domains_of m ≡ domains_of boolean

int_value : (m : ModeTree) (z : ℤ) → HasInts m → is_int z ≡ true → IsValueOf m (one z)
int_value m z h t =
    let low : int_le (neg_ℤ (pos 2147483648)) z ≡ true = and_left (int_le (neg_ℤ (pos 2147483648)) z) (int_le z (pos 2147483647)) t in
    let high : int_le z (pos 2147483647) ≡ true = and_right (int_le (neg_ℤ (pos 2147483648)) z) (int_le z (pos 2147483647)) t in
    subst (λ (ds : List Domain). AreWithin ds (one z)) (sym h) ((grind (arith, ints, low), grind (arith, ints, high)), tt)

abbrev IntOr : Option ℤ → Type 0
IntOr None = Unit {0}
IntOr (Some z) = is_int z ≡ true

int_result_by : (z : ℤ) (t : Bool) → is_int z ≡ t → IntOr (where_true t z)
int_result_by z true e = e
int_result_by z false e = tt

int_or : (z : ℤ) → IntOr (int_result z)
int_or z = int_result_by z (is_int z) refl

if_int : (t : Bool) (o : Option ℤ) → IntOr o → IntOr (if t then o else None)
if_int true o i = i
if_int false o i = tt

yields_int : (m : ModeTree) (x : _) (o : Option ℤ) → HasInts m → IntOr o → ComputesBy m (yields_or x o)
yields_int m x None h i = tt
yields_int m x (Some z) h i = int_value m z h i

pub in_int_computes : (m : ModeTree) (z : ℤ) → HasInts m → ComputesBy m (in_int z)
in_int_computes m z h = yields_int m Overflow (int_result z) h (int_or z)

truth_bounds : (t : Bool) → (pos 0 ≤ℤ truth_number t) × (truth_number t ≤ℤ pos 1)
truth_bounds true = (omega (arith, ints), omega (arith, ints))
truth_bounds false = (omega (arith, ints), omega (arith, ints))

pub truth_value : (m : ModeTree) (t : Bool) → HasTruths m → IsValueOf m (truth t)
truth_value m t h = let b = truth_bounds t in subst (λ (ds : List Domain). AreWithin ds (truth t)) (sym h) ((b.0, b.1), tt)

-- ---- powersets

abbrev IsSetForm : FormTree → Type 0
IsSetForm (of_powerset m) = Unit {0}
IsSetForm f = ⊥

-- a powerset mode isn't discrete
set_boundless : (m : ModeTree) → IsSetForm (form_of m) → bounds_of m ≡ None
set_boundless int i = absurd i
set_boundless boolean i = absurd i
set_boundless char i = absurd i
set_boundless instance i = refl
set_boundless (set_of d n) i = absurd i
set_boundless (range p l h) i = ap (λ (o : Option Bounds). bounds_in o l h) (set_boundless p i)
set_boundless (powerset m) i = refl
set_boundless (chars n) i = refl
set_boundless (array j m how) i = refl
set_boundless (structure fs p) i = refl
set_boundless (event l) i = refl
set_boundless (buffer l m) i = refl
set_boundless (read m) i = set_boundless m i
set_boundless (named d n m) i = set_boundless m i

no_range : (o : Option Bounds) (l h : ℤ) → o ≡ None → IsTrue (lie_in l h o) → ⊥
no_range None l h e t = untrue t
no_range (Some b) l h e t = let f : ⊥ = cc in f

-- the domains of a powerset by its member mode
pub set_domains : (m e : ModeTree) → IsTrue (parts_fit m) → form_of m ≡ of_powerset e → domains_of m ≡ member_domains (values_of e) 0 (numbers_of (values_of e))
set_domains int e p f = absurd (let no : ⊥ = cc in no)
set_domains boolean e p f = absurd (let no : ⊥ = cc in no)
set_domains char e p f = absurd (let no : ⊥ = cc in no)
set_domains instance e p f = absurd (let no : ⊥ = cc in no)
set_domains (set_of d n) e p f = absurd (let no : ⊥ = cc in no)
set_domains (range q l h) e p f = absurd (no_range (bounds_of q) l h (set_boundless q (subst IsSetForm (sym f) tt)) (both _ _ p).1)
set_domains (powerset m) e p f = let is : m ≡ e = cc in ap (λ (x : ModeTree). member_domains (values_of x) 0 (numbers_of (values_of x))) is
set_domains (chars n) e p f = absurd (let no : ⊥ = cc in no)
set_domains (array i m how) e p f = absurd (let no : ⊥ = cc in no)
set_domains (structure fs q) e p f = absurd (let no : ⊥ = cc in no)
set_domains (event l) e p f = absurd (let no : ⊥ = cc in no)
set_domains (buffer l m) e p f = absurd (let no : ⊥ = cc in no)
set_domains (read m) e p f = set_domains m e p f
set_domains (named d n m) e p f = set_domains m e p f

-- the members of a powerset are 1 to 32
pub set_members : (m e : ModeTree) → IsTrue (parts_fit m) → form_of m ≡ of_powerset e → (1 ≤ values_of e) × (values_of e ≤ 32) × IsTrue (parts_fit e)
set_members int e p f = absurd (let no : ⊥ = cc in no)
set_members boolean e p f = absurd (let no : ⊥ = cc in no)
set_members char e p f = absurd (let no : ⊥ = cc in no)
set_members instance e p f = absurd (let no : ⊥ = cc in no)
set_members (set_of d n) e p f = absurd (let no : ⊥ = cc in no)
set_members (range q l h) e p f = absurd (no_range (bounds_of q) l h (set_boundless q (subst IsSetForm (sym f) tt)) (both _ _ p).1)
set_members (powerset m) e p f =
    let is : m ≡ e = cc in
    let v = members-from m (both _ _ p).1 in
    subst (λ (x : ModeTree). (1 ≤ values_of x) × (values_of x ≤ 32) × IsTrue (parts_fit x)) is (v.0, v.1, (both _ _ p).0)
set_members (chars n) e p f = absurd (let no : ⊥ = cc in no)
set_members (array i m how) e p f = absurd (let no : ⊥ = cc in no)
set_members (structure fs q) e p f = absurd (let no : ⊥ = cc in no)
set_members (event l) e p f = absurd (let no : ⊥ = cc in no)
set_members (buffer l m) e p f = absurd (let no : ⊥ = cc in no)
set_members (read m) e p f = set_members m e p f
set_members (named d n m) e p f = set_members m e p f

-- a root has the domains of the mode, where that is a powerset
set_root : (m e : ModeTree) → IsTrue (parts_fit m) → form_of m ≡ of_powerset e → domains_of (root_of m) ≡ domains_of m
set_root int e p f = absurd (let no : ⊥ = cc in no)
set_root boolean e p f = absurd (let no : ⊥ = cc in no)
set_root char e p f = absurd (let no : ⊥ = cc in no)
set_root instance e p f = absurd (let no : ⊥ = cc in no)
set_root (set_of d n) e p f = absurd (let no : ⊥ = cc in no)
set_root (range q l h) e p f = absurd (no_range (bounds_of q) l h (set_boundless q (subst IsSetForm (sym f) tt)) (both _ _ p).1)
set_root (powerset m) e p f = refl
set_root (chars n) e p f = absurd (let no : ⊥ = cc in no)
set_root (array i m how) e p f = absurd (let no : ⊥ = cc in no)
set_root (structure fs q) e p f = absurd (let no : ⊥ = cc in no)
set_root (event l) e p f = absurd (let no : ⊥ = cc in no)
set_root (buffer l m) e p f = absurd (let no : ⊥ = cc in no)
set_root (read m) e p f = set_root m e p f
set_root (named d true m) e p f = set_root m e p f
set_root (named d false m) e p f = set_root m e p f

-- a mode similar to a powerset is one with members of the same bounds
set_like : (g : FormTree) (s : Shape) (n : Option ℕ) (r : Bool) (b : Option Bounds) → like_powerset (part n r b s) ≡ shape_in g → (e : ModeTree) × (g ≡ of_powerset e) × (b ≡ bounds_of e)
set_like of_int s n r b e = absurd (let f : ⊥ = cc in f)
set_like of_boolean s n r b e = absurd (let f : ⊥ = cc in f)
set_like of_char s n r b e = absurd (let f : ⊥ = cc in f)
set_like of_instance s n r b e = absurd (let f : ⊥ = cc in f)
set_like (of_set d k) s n r b e = absurd (let f : ⊥ = cc in f)
set_like (of_powerset m) s n r b e = (m, refl, let is : b ≡ bounds_of m = cc in is)
set_like (of_chars k) s n r b e = absurd (let f : ⊥ = cc in f)
set_like (of_array j m how) s n r b e = absurd (let f : ⊥ = cc in f)
set_like (of_structure fs p) s n r b e = absurd (let f : ⊥ = cc in f)
set_like of_meeting s n r b e = absurd (let f : ⊥ = cc in f)

-- similar powersets have the same domains
pub similar_sets : (a b e : ModeTree) → IsTrue (parts_fit a) → IsTrue (parts_fit b) → form_of a ≡ of_powerset e → Similar a b → domains_of b ≡ domains_of a
similar_sets a b e p q f s =
    let shapes : like_powerset (part (novelty_of e) (read_is e) (bounds_of e) (shape_of e)) ≡ shape_in (form_of b) = ap shape_in (sym f) ∙ (sym (shape-form a) ∙ (s.shape ∙ shape-form b)) in
    let other = set_like (form_of b) (shape_of e) (novelty_of e) (read_is e) (bounds_of e) shapes in
    let same : values_of e ≡ values_of other.0 = ap count_within other.2 in
    set_domains b other.0 q other.1 ∙ (ap (λ (n : ℕ). member_domains n 0 (numbers_of n)) (sym same) ∙ sym (set_domains a e p f))

-- ---- operators

-- what is known of two operands
pub record Operands (a b m : ModeTree) (xs ys : List ℤ) : Type 0 where
  pub first : IsTrue (parts_fit a)
  pub second : IsTrue (parts_fit b)
  pub xs_are : IsValueOf a xs
  pub ys_are : IsValueOf b ys

int_operator : (a b m : ModeTree) (xs ys : List ℤ) (o : Option ℤ) → IsOnInts a b m → IntOr o → ComputesBy m (yields_or Overflow o)
int_operator a b m xs ys o h i = yields_int m Overflow o (result_domains a b m of_int tt h.0 h.1 h.2) i

truth_operator : (a b m : ModeTree) (t : Bool) → IsOnTruths a b m → IsValueOf m (truth t)
truth_operator a b m t h = truth_value m t (result_domains a b m of_boolean tt h.0 h.1 h.2)

-- a value of BOOL stays one in the root
truth_kept : (a b m c : ModeTree) (xs : List ℤ) → IsOnTruths a b m → IsTrue (parts_fit c) → form_of c ≡ of_boolean → IsValueOf c xs → IsValueOf m xs
truth_kept a b m c xs h p f v = subst (λ (ds : List Domain). AreWithin ds xs) (sym (result_domains a b m of_boolean tt h.0 h.1 h.2)) (root_wider c of_boolean xs tt f p v)

-- the domains of a result on powersets, as one list of members
set_result : (a b m e : ModeTree) → IsTrue (parts_fit a) → IsTrue (parts_fit b) → form_of a ≡ of_powerset e → Similar a b → IsRootOfEither m a b → domains_of m ≡ domains_of a
set_result a b m e p q f s (inl is) = ap domains_of is ∙ set_root a e p f
set_result a b m e p q f s (inr is) =
    let shapes : like_powerset (part (novelty_of e) (read_is e) (bounds_of e) (shape_of e)) ≡ shape_in (form_of b) = ap shape_in (sym f) ∙ (sym (shape-form a) ∙ (s.shape ∙ shape-form b)) in
    let other = set_like (form_of b) (shape_of e) (novelty_of e) (read_is e) (bounds_of e) shapes in
    ap domains_of is ∙ (set_root b other.0 q other.1 ∙ similar_sets a b e p q f s)

set_operator : (f : ℤ → ℤ → ℤ) → ((size first : ℕ) (x y : ℤ) → TellsMembers size first x → TellsMembers size first y → TellsMembers size first (f x y)) → (a b m : ModeTree) (xs ys : List ℤ) → Operands a b m xs ys → IsOnSets a b m → IsValueOf m (by_pairs f xs ys)
set_operator f each a b m xs ys o h =
    let e : ModeTree = h.0.0.0 in
    let form : form_of a ≡ of_powerset e = h.0.0.1 in
    let similar : Similar a b = h.0.1 in
    let as_members : domains_of a ≡ member_domains (values_of e) 0 (numbers_of (values_of e)) = set_domains a e o.first form in
    let v = subst (λ (ds : List Domain). AreWithin ds xs) as_members o.xs_are in
    let w = subst (λ (ds : List Domain). AreWithin ds ys) (similar_sets a b e o.first o.second form similar ∙ as_members) o.ys_are in
    subst (λ (ds : List Domain). AreWithin ds (by_pairs f xs ys)) (sym (set_result a b m e o.first o.second form similar h.1 ∙ as_members))
    (pairs_tell f each (values_of e) 0 (numbers_of (values_of e)) xs ys v w)

boolean_value : (m : ModeTree) (t : Bool) → m ≡ boolean → IsValueOf m (truth t)
boolean_value m t e = truth_value m t (ap domains_of e)

if_int_or : (t : Bool) (z : ℤ) → IntOr (if t then int_result z else None)
if_int_or t z = if_int t (int_result z) (int_or z)

binary_by : (o : Binary) (a b m : ModeTree) (xs ys : List ℤ) → Operands a b m xs ys → BinaryHas o a b m → ComputesBy m (binary_value o xs ys)
binary_by Add a b m xs ys k h = int_operator a b m xs ys _ h (int_or (sole_number xs +ℤ sole_number ys))
binary_by Subtract a b m xs ys k h = int_operator a b m xs ys _ h (int_or (sole_number xs -ℤ sole_number ys))
binary_by Multiply a b m xs ys k h = int_operator a b m xs ys _ h (int_or (sole_number xs *ℤ sole_number ys))
binary_by Divide a b m xs ys k h = int_operator a b m xs ys _ h (if_int_or (truth_of (sole_number ys)) (int_div (sole_number xs) (sole_number ys)))
binary_by Modulo a b m xs ys k h = int_operator a b m xs ys _ h (if_int_or (int_le (pos 1) (sole_number ys)) (int_rem_euclid (sole_number xs) (sole_number ys)))
binary_by Remainder a b m xs ys k h = int_operator a b m xs ys _ h (if_int_or (truth_of (sole_number ys)) (int_rem (sole_number xs) (sole_number ys)))
binary_by And a b m xs ys k h = truth_operator a b m _ h
binary_by Or a b m xs ys k h = truth_operator a b m _ h
binary_by Xor a b m xs ys k h = truth_operator a b m _ h
binary_by AndIf a b m xs ys k h = truth_kept a b m b ys h k.second (similar_form a b of_boolean tt h.0 h.1) k.ys_are
binary_by OrIf a b m xs ys k h = truth_kept a b m b ys h k.second (similar_form a b of_boolean tt h.0 h.1) k.ys_are
binary_by Equal a b m xs ys k h = boolean_value m _ h.1
binary_by NotEqual a b m xs ys k h = boolean_value m _ h.1
binary_by Less a b m xs ys k h = boolean_value m _ h.1
binary_by LessOrEqual a b m xs ys k h = boolean_value m _ h.1
binary_by Greater a b m xs ys k h = boolean_value m _ h.1
binary_by GreaterOrEqual a b m xs ys k h = boolean_value m _ h.1
binary_by Union a b m xs ys k h = set_operator union union_tells a b m xs ys k h
binary_by Intersection a b m xs ys k h = set_operator intersection intersection_tells a b m xs ys k h
binary_by SymmetricDifference a b m xs ys k h = set_operator symmetric_difference symmetric_tells a b m xs ys k h
binary_by Difference a b m xs ys k h = set_operator difference (λ size first x y t u. difference_tells size first x y t) a b m xs ys k h
binary_by Included a b m xs ys k h = boolean_value m _ h.1
binary_by ProperlyIncluded a b m xs ys k h = boolean_value m _ h.1
binary_by Includes a b m xs ys k h = boolean_value m _ h.1
binary_by ProperlyIncludes a b m xs ys k h = boolean_value m _ h.1
binary_by (Member d) a b m xs ys k h = boolean_value m _ h.4

pub binary_computes : (o : Binary) (a b m : ModeTree) (xs ys : List ℤ) → Operands a b m xs ys → BinaryHas o a b m → Computes m (binary_value o xs ys)
binary_computes o a b m xs ys k h = record { by = binary_by o a b m xs ys k h }

-- where the second operand isn't evaluated the first is the value
pub first_stays : (o : Binary) (a b m : ModeTree) (xs : List ℤ) → IsTrue (parts_fit a) → BinaryHas o a b m → IsValueOf a xs → takes_second o xs ≡ false → IsValueOf m xs
first_stays AndIf a b m xs l h v e = truth_kept a b m a xs h l h.0 v
first_stays OrIf a b m xs l h v e = truth_kept a b m a xs h l h.0 v
first_stays o a b m xs l h v e = absurd (let f : ⊥ = cc in f)

prefix_by : (o : Prefix) (a m : ModeTree) (xs : List ℤ) → IsOfLanguage a → PrefixHas o a m → IsValueOf a xs → ComputesBy m (prefix_value o xs)
prefix_by Minus a m xs l h v = in_int_computes m (neg_ℤ (sole_number xs)) (ap domains_of h.1 ∙ root_domains a of_int tt h.0)
prefix_by Not a m xs l h v = truth_value m _ (ap domains_of h.1 ∙ root_domains a of_boolean tt h.0)
prefix_by (Complement n) a m xs l h v =
    let e : ModeTree = h.0 in
    let as_members : domains_of a ≡ member_domains (values_of e) 0 (numbers_of (values_of e)) = set_domains a e l.parts h.1 in
    let w = complements_tell (values_of e) 0 (numbers_of (values_of e)) xs (subst (λ (ds : List Domain). AreWithin ds xs) as_members v) in
    let count : values_of e - 0 ≡ n = (let q = h.2 in omega (arith, q)) in
    subst (λ (ds : List Domain). AreWithin ds (complement_of n xs)) (sym (ap domains_of h.3 ∙ (set_root a e l.parts h.1 ∙ as_members)))
    (subst (λ (c : ℕ). AreWithin (member_domains (values_of e) 0 (numbers_of (values_of e))) (complement_of c xs)) count w)

pub prefix_computes : (o : Prefix) (a m : ModeTree) (xs : List ℤ) → IsOfLanguage a → PrefixHas o a m → IsValueOf a xs → Computes m (prefix_value o xs)
prefix_computes o a m xs l h v = record { by = prefix_by o a m xs l h v }

-- ---- routines

-- the number of values of a discrete mode tells how far its bounds are apart
bounds_apart : (low high : ℤ) (k : ℕ) → k < count_between low high → (low +ℤ pos k) ≤ℤ high
bounds_apart low high k h = by_width (high -ℤ low +ℤ pos 1) refl (omega (arith, h))
  where
    by_width : (w : ℤ) → (high -ℤ low +ℤ pos 1) ≡ w → k < natural_of w → (low +ℤ pos k) ≤ℤ high
    by_width (pos n) e h = omega (arith, ints, e, h)
    by_width (negsuc n) e h = absurd (let f : ⊥ = omega (arith, h) in f)

within_or : (m : ModeTree) (d : Bounds) (z : ℤ) (t : Bool) → bounds_of m ≡ Some d → d.low ≤ℤ z → z ≤ℤ d.high → ComputesBy m (yields_or Overflow (where_true t z))
within_or m d z true b low high = number_value m d z b low high
within_or m d z false b low high = tt

pub member_by : (m : ModeTree) (d : Bounds) (low : ℤ) (o : Option ℕ) → bounds_of m ≡ Some d → d.low ≡ low → ((k : ℕ) → o ≡ Some k → k < values_of m) → ComputesBy m (member_at low o)
member_by m d low None b e below = tt
member_by m d low (Some k) b e below =
    let few : k < count_between d.low d.high = subst (λ (n : ℕ). k < n) (ap count_within b) (below k refl) in
    let high : (d.low +ℤ pos k) ≤ℤ d.high = bounds_apart d.low d.high k few in
    within_or m d (pos k +ℤ low) (is_int (pos k +ℤ low)) b (omega (arith, ints, e)) (omega (arith, ints, e, high))

set_value : (a e : ModeTree) (xs : List ℤ) → IsOfLanguage a → form_of a ≡ of_powerset e → IsValueOf a xs → AreWithin (member_domains (values_of e) 0 (numbers_of (values_of e))) xs
set_value a e xs l f v = subst (λ (ds : List Domain). AreWithin ds xs) (set_domains a e l.parts f) v

count_members : (size first n : ℕ) → length (member_domains size first n) ≡ n
count_members size first zero = refl
count_members size first (suc n) = ap suc (count_members size (first + 32) n)

step_by : (m : ModeTree) (d : Bounds) (z : ℤ) (t : Bool) (x : ℤ) → bounds_of m ≡ Some d → (t ≡ false → (d.low ≤ℤ z) × (z ≤ℤ d.high)) → ComputesBy m (yields_or Overflow (if t then None else Some z))
step_by m d z true x b h = tt
step_by m d z false x b h = let w = h refl in number_value m d z b w.0 w.1

routine_by : (r : Routine) (a m : ModeTree) (xs : List ℤ) → IsOfLanguage a → RoutineHas r a m → IsValueOf a xs → ComputesBy m (routine_value r xs)
routine_by Number a m xs l h v =
    let d : Bounds = h.0.0 in
    let w = discrete_number a d xs h.0.1 v in
    let small = discrete_small a d l h.0.1 in
    let s0 = small.0 in
    let s1 = small.1 in
    let w1 = w.1 in
    let w2 = w.2 in
    subst (λ (x : ModeTree). IsValueOf x xs) (sym h.1) (subst (λ (ys : List ℤ). IsValueOf int ys) (sym w.0) ((omega (arith, ints, s0, w1), omega (arith, ints, s1, w2)), tt))
routine_by Absolute a m xs l h v = in_int_computes m (magnitude (sole_number xs)) (ap domains_of h.1 ∙ root_domains a of_int tt h.0)
routine_by Cardinality a m xs l h v =
    let e : ModeTree = h.0.0 in
    let few = set_members a e l.parts h.0.1 in
    let f1 = few.1 in
    let w = set_value a e xs l h.0.1 v in
    let count : numbers_of (values_of e) ≡ length xs = sym (count_members (values_of e) 0 (numbers_of (values_of e))) ∙ within_length (member_domains (values_of e) 0 (numbers_of (values_of e))) xs w in
    let most = offsets_few 0 xs in
    let n : numbers_of (values_of e) ≤ 128 = omega (arith, f1) in
    subst (λ (x : ModeTree). IsValueOf x (one (pos (length (offsets_of xs))))) (sym h.1) ((omega (arith, ints), omega (arith, ints, most, count, n)), tt)
routine_by (Successor high) a m xs l h v =
    let d : Bounds = h.0.0 in
    let w = discrete_number a d xs h.0.1 v in
    let w1 = w.1 in
    let top : d.high ≡ high = h.0.2 in
    subst (λ (x : ModeTree). ComputesBy x (routine_value (Successor high) xs)) (sym h.1)
    (step_by a d (sole_number xs +ℤ pos 1) (int_le high (sole_number xs)) high h.0.1 (λ e. (omega (arith, ints, w1), grind (arith, ints, e, top))))
routine_by (Predecessor low) a m xs l h v =
    let d : Bounds = h.0.0 in
    let w = discrete_number a d xs h.0.1 v in
    let w2 = w.2 in
    let bottom : d.low ≡ low = h.0.2 in
    subst (λ (x : ModeTree). ComputesBy x (routine_value (Predecessor low) xs)) (sym h.1)
    (step_by a d (sole_number xs -ℤ pos 1) (int_le (sole_number xs) low) low h.0.1 (λ e. (grind (arith, ints, e, bottom), omega (arith, ints, w2))))
routine_by (Least low) a m xs l h v =
    let w = set_value a m xs l h.1 v in
    member_by m h.0 low (first_of_list (offsets_of xs)) h.2 h.3 (λ j e. first_below (values_of m) (offsets_of xs) j (offsets_below (values_of m) 0 (numbers_of (values_of m)) xs w) e)
routine_by (Greatest low) a m xs l h v =
    let w = set_value a m xs l h.1 v in
    member_by m h.0 low (last_of_list (offsets_of xs)) h.2 h.3 (λ j e. last_below (values_of m) (offsets_of xs) j (offsets_below (values_of m) 0 (numbers_of (values_of m)) xs w) e)

pub routine_computes : (r : Routine) (a m : ModeTree) (xs : List ℤ) → IsOfLanguage a → RoutineHas r a m → IsValueOf a xs → Computes m (routine_value r xs)
routine_computes r a m xs l h v = record { by = routine_by r a m xs l h v }

-- ---- the modes of results

root_fits : (m : ModeTree) → IsTrue (parts_fit m) → IsTrue (parts_fit (root_of m))
root_fits int p = refl
root_fits boolean p = refl
root_fits char p = refl
root_fits instance p = refl
root_fits (set_of d n) p = p
root_fits (range q l h) p = root_fits q (both _ _ p).0
root_fits (powerset m) p = p
root_fits (chars n) p = p
root_fits (array i e how) p = p
root_fits (structure fs q) p = p
root_fits (event l) p = p
root_fits (buffer l e) p = p
root_fits (read m) p = root_fits m p
root_fits (named d true m) p = root_fits m p
root_fits (named d false m) p = root_fits m p

either_fits : (a b m : ModeTree) → IsTrue (parts_fit a) → IsTrue (parts_fit b) → IsRootOfEither m a b → IsTrue (parts_fit m)
either_fits a b m p q (inl is) = subst (λ (x : ModeTree). IsTrue (parts_fit x)) (sym is) (root_fits a p)
either_fits a b m p q (inr is) = subst (λ (x : ModeTree). IsTrue (parts_fit x)) (sym is) (root_fits b q)

boolean_fits : (m : ModeTree) → m ≡ boolean → IsTrue (parts_fit m)
boolean_fits m e = subst (λ (x : ModeTree). IsTrue (parts_fit x)) (sym e) refl

-- the result of an operator has a mode that a text can give
pub result_fits_text : (o : Binary) (a b m : ModeTree) → IsTrue (parts_fit a) → IsTrue (parts_fit b) → BinaryHas o a b m → IsTrue (parts_fit m)
result_fits_text Add a b m p q h = either_fits a b m p q h.2
result_fits_text Subtract a b m p q h = either_fits a b m p q h.2
result_fits_text Multiply a b m p q h = either_fits a b m p q h.2
result_fits_text Divide a b m p q h = either_fits a b m p q h.2
result_fits_text Modulo a b m p q h = either_fits a b m p q h.2
result_fits_text Remainder a b m p q h = either_fits a b m p q h.2
result_fits_text And a b m p q h = either_fits a b m p q h.2
result_fits_text Or a b m p q h = either_fits a b m p q h.2
result_fits_text Xor a b m p q h = either_fits a b m p q h.2
result_fits_text AndIf a b m p q h = either_fits a b m p q h.2
result_fits_text OrIf a b m p q h = either_fits a b m p q h.2
result_fits_text Equal a b m p q h = boolean_fits m h.1
result_fits_text NotEqual a b m p q h = boolean_fits m h.1
result_fits_text Less a b m p q h = boolean_fits m h.1
result_fits_text LessOrEqual a b m p q h = boolean_fits m h.1
result_fits_text Greater a b m p q h = boolean_fits m h.1
result_fits_text GreaterOrEqual a b m p q h = boolean_fits m h.1
result_fits_text Union a b m p q h = either_fits a b m p q h.1
result_fits_text Intersection a b m p q h = either_fits a b m p q h.1
result_fits_text SymmetricDifference a b m p q h = either_fits a b m p q h.1
result_fits_text Difference a b m p q h = either_fits a b m p q h.1
result_fits_text Included a b m p q h = boolean_fits m h.1
result_fits_text ProperlyIncluded a b m p q h = boolean_fits m h.1
result_fits_text Includes a b m p q h = boolean_fits m h.1
result_fits_text ProperlyIncludes a b m p q h = boolean_fits m h.1
result_fits_text (Member d) a b m p q h = boolean_fits m h.4
