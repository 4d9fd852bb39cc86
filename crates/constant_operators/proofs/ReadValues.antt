-- The value of a class that has the scalars of a value of the class is that value.
use Rattle.std.proofs.Common.{◌≡◌, ℕ, zero, suc, ◌+◌, ◌*◌, Bool, true, false, List, [], ◌∷◌, ◌++◌, map, length, take, drop, Option, Some, None, ℤ, pos, refl, ap, sym, ◌∙◌, arith}
use Rattle.std.specs.Prelude.{◌==◌, ◌&&◌, IsTrue, option_and_then}
use Rattle.std.proofs.lemmas.List.{length-append, take_at, drop_at}
use Rattle.std.proofs.lemmas.Bool.Decides.{nat_tests}
use Rattle.modes.specs.ModeTree.{ModeTree, int, boolean, char, instance, set_of, range, powerset, chars, array, structure, event, buffer, read, named, FieldNodes, no_fields, more_fields, ClassTree, value, derived, null, nothing}
use Rattle.modes.specs.Form.{FormTree, form_of, of_powerset}
use Rattle.modes.specs.Bounds.{values_of}
use Rattle.modes.specs.Scalars.{numbers_of}
use Rattle.modes.proofs.SimilarLemmas.{both}
use Rattle.scalar_operators.specs.Powersets.{numbers_up}
use Rattle.scalar_operators.specs.Members.{has_member_at}
use Rattle.checks_model.specs.Alike.{of_form}
use Rattle.checks_model.specs.ValueTrees.{ValueTree, ValueNodes, number, members, parts, no_values, more_values, value_nodes, scalars_in, scalars_in_each, numbers_from}
use Rattle.checks_model.specs.OperatorValues.{member_at}
use Rattle.checks_model.specs.Classes.{count_fields, field_mode_at}
use Rattle.constant_values.specs.Fits.{count_values, few_members, takes_number, takes_members, takes_parts, part_of_form, part_of_mode, fits, fit_each, is_number, fits_class}
use Rattle.constant_values.specs.Operands.{IsSet}
use Rattle.constant_values.proofs.SetOperators.{told_by}
use Rattle.constant_operators.specs.Values.{first_number, members_in, values_in, scalars_within, scalars_within_fields, value_in, values_in_fields, value_of_class, ReadLaw}

same_count : (a b : ℕ) → IsTrue (a == b) → a ≡ b
same_count a b h = grind (arith, nat_tests)

-- ---- parts, by what their modes are

-- the same parts fit two modes whose parts are of the same modes
each_same : (m n : Option ModeTree) (k : ℕ) (vs : ValueNodes) → ((j : ℕ) → part_of_mode j m ≡ part_of_mode j n) → fit_each m k vs ≡ fit_each n k vs
each_same m n k no_values e = refl
each_same m n k (more_values v vs) e = λ i. fits (e k i) v && each_same m n (suc k) vs e i

-- the parts of a text are numbers
text_read : (n k : ℕ) (vs : ValueNodes) → IsTrue (fit_each (Some (chars n)) k vs) → value_nodes (map number (scalars_in_each vs)) ≡ vs
text_read n k no_values h = refl
text_read n k (more_values (number x) vs) h = ap (λ (ws : ValueNodes). more_values (number x) ws) (text_read n (suc k) vs h)
text_read n k (more_values (members bs) vs) h = absurd (cc)
text_read n k (more_values (parts ws) vs) h = absurd (cc)

text_long : (n k : ℕ) (vs : ValueNodes) → IsTrue (fit_each (Some (chars n)) k vs) → length (scalars_in_each vs) ≡ count_values vs
text_long n k no_values h = refl
text_long n k (more_values (number x) vs) h = ap suc (text_long n (suc k) vs h)
text_long n k (more_values (members bs) vs) h = absurd (cc)
text_long n k (more_values (parts ws) vs) h = absurd (cc)

-- ---- members

listed : (f : ℕ → Bool) (i : ℕ) (bs : List Bool) → ((k : ℕ) → f (i + k) ≡ member_at k bs) → map f (numbers_up i (length bs)) ≡ bs
listed f i [] h = refl
listed f i (b ∷ bs) h =
    let first : f i ≡ b = (let same : i ≡ i + 0 = omega arith in ap f same ∙ h 0) in
    let rest : (k : ℕ) → f (suc i + k) ≡ member_at k bs = λ k. (let same : suc i + k ≡ i + suc k = omega arith in ap f same ∙ h (suc k)) in
    λ j. first j ∷ listed f (suc i) bs rest j

members_read : (n : ℕ) (bs : List Bool) → length bs ≡ n → members_in n (scalars_in (members bs)) ≡ bs
members_read n bs long =
    ap (λ (count : ℕ). map (λ k. has_member_at k (scalars_in (members bs))) (numbers_up 0 count)) (sym long)
    ∙ listed (λ k. has_member_at k (scalars_in (members bs))) 0 bs (λ k. (let same : 0 + k ≡ k = omega arith in ap (λ (j : ℕ). has_member_at j (scalars_in (members bs))) same ∙ told_by bs (length bs) (scalars_in (members bs)) (record { count = refl; scalars = refl }) k))

numbers_long : (k : ℕ) (bs : List Bool) → length (numbers_from k bs) ≡ k
numbers_long zero bs = refl
numbers_long (suc k) bs = ap suc (numbers_long k (drop 32 bs))

-- ---- values

-- what is said of a value of a mode
record IsRead (m : ModeTree) (v : ValueTree) : Type 0 where
  read : value_in m (scalars_in v) ≡ v
  long : length (scalars_in v) ≡ scalars_within m

no_times : (s : ℕ) → 0 * s ≡ 0
no_times s = omega arith

one_more_time : (c s : ℕ) → s + c * s ≡ suc c * s
one_more_time c s = omega arith

-- of values of one mode, each read in its turn
each_read : (e : ModeTree) (m : Option ModeTree) (k : ℕ) (vs : ValueNodes) → ((j : ℕ) → part_of_mode j m ≡ Some e) → ((v : ValueTree) → IsTrue (fits (Some e) v) → IsRead e v) → IsTrue (fit_each m k vs)
    → (values_in (value_in e) (scalars_within e) (count_values vs) (scalars_in_each vs) ≡ vs) × (length (scalars_in_each vs) ≡ count_values vs * scalars_within e)
each_read e m k no_values same reads h = (refl, sym (no_times (scalars_within e)))
each_read e m k (more_values v vs) same reads h =
    let s = both (fits (part_of_mode k m) v) (fit_each m (suc k) vs) h in
    let one = reads v (ap (λ (o : Option ModeTree). fits o v) (sym (same k)) ∙ s.0) in
    let more = each_read e m (suc k) vs same reads s.1 in
    let first : take (scalars_within e) (scalars_in v ++ scalars_in_each vs) ≡ scalars_in v = take_at (scalars_in v) (scalars_in_each vs) (scalars_within e) one.long in
    let behind : drop (scalars_within e) (scalars_in v ++ scalars_in_each vs) ≡ scalars_in_each vs = drop_at (scalars_in v) (scalars_in_each vs) (scalars_within e) one.long in (
      λ i. more_values ((ap (value_in e) first ∙ one.read) i) ((ap (values_in (value_in e) (scalars_within e) (count_values vs)) behind ∙ more.0) i),
      length-append (scalars_in v) (scalars_in_each vs) ∙ (λ i. one.long i + more.1 i) ∙ one_more_time (count_values vs) (scalars_within e),
    )

-- a value fits a mode of the same form
through : (m n : ModeTree) → form_of m ≡ form_of n → (v : ValueTree) → IsTrue (fits (Some m) v) → IsTrue (fits (Some n) v)
through m n e (number x) h = ap takes_number (sym e) ∙ h
through m n e (members bs) h = ap (takes_members (length bs)) (sym e) ∙ h
through m n e (parts vs) h =
    ap (λ (f : FormTree). takes_parts (count_values vs) f && fit_each (Some n) 0 vs) (sym e)
    ∙ ap (λ (b : Bool). takes_parts (count_values vs) (form_of m) && b) (each_same (Some n) (Some m) 0 vs (λ j. ap (part_of_form j) (sym e))) ∙ h

mutual
  mode_read : (m : ModeTree) (v : ValueTree) → IsTrue (fits (Some m) v) → IsRead m v
  mode_read int (number n) h = record { read = refl; long = refl }
  mode_read boolean (number n) h = record { read = refl; long = refl }
  mode_read char (number n) h = record { read = refl; long = refl }
  mode_read instance (number n) h = record { read = refl; long = refl }
  mode_read (set_of d c) (number n) h = record { read = refl; long = refl }
  mode_read int (members bs) h = absurd (cc)
  mode_read boolean (members bs) h = absurd (cc)
  mode_read char (members bs) h = absurd (cc)
  mode_read instance (members bs) h = absurd (cc)
  mode_read (set_of d c) (members bs) h = absurd (cc)
  mode_read int (parts vs) h = absurd (cc)
  mode_read boolean (parts vs) h = absurd (cc)
  mode_read char (parts vs) h = absurd (cc)
  mode_read instance (parts vs) h = absurd (cc)
  mode_read (set_of d c) (parts vs) h = absurd (cc)
  mode_read (event l) (number n) h = absurd (cc)
  mode_read (event l) (members bs) h = absurd (cc)
  mode_read (event l) (parts vs) h = absurd (cc)
  mode_read (buffer l e) (number n) h = absurd (cc)
  mode_read (buffer l e) (members bs) h = absurd (cc)
  mode_read (buffer l e) (parts vs) h = absurd (cc)
  mode_read (powerset m) (number n) h = absurd (cc)
  mode_read (powerset m) (parts vs) h = absurd (cc)
  mode_read (powerset m) (members bs) h =
      let s = both (length bs == values_of m) (few_members (length bs)) h in
      let same = same_count (length bs) (values_of m) s.0 in
      record { read = ap members (members_read (values_of m) bs same); long = numbers_long (numbers_of (length bs)) bs ∙ ap numbers_of same }
  mode_read (chars c) (number n) h = absurd (cc)
  mode_read (chars c) (members bs) h = absurd (cc)
  mode_read (chars c) (parts vs) h =
      let s = both (count_values vs == c) (fit_each (Some (chars c)) 0 vs) h in
      record { read = ap parts (text_read c 0 vs s.1); long = text_long c 0 vs s.1 ∙ same_count (count_values vs) c s.0 }
  mode_read (array i e how) (number n) h = absurd (cc)
  mode_read (array i e how) (members bs) h = absurd (cc)
  mode_read (array i e how) (parts vs) h =
      let s = both (count_values vs == values_of i) (fit_each (Some (array i e how)) 0 vs) h in
      let same = same_count (count_values vs) (values_of i) s.0 in
      let each = each_read e (Some (array i e how)) 0 vs (λ j. refl) (mode_read e) s.1 in
      record {
        read = ap parts (ap (λ (n : ℕ). values_in (value_in e) (scalars_within e) n (scalars_in_each vs)) (sym same) ∙ each.0);
        long = each.1 ∙ ap (λ (n : ℕ). n * scalars_within e) same;
      }
  mode_read (structure fs p) (number n) h = absurd (cc)
  mode_read (structure fs p) (members bs) h = absurd (cc)
  mode_read (structure fs p) (parts vs) h =
      let s = both (count_values vs == count_fields fs) (fit_each (Some (structure fs p)) 0 vs) h in
      let each = fields_read fs (Some (structure fs p)) 0 vs (λ j. (let same : 0 + j ≡ j = omega arith in ap (λ (x : ℕ). part_of_mode x (Some (structure fs p))) same)) (same_count (count_values vs) (count_fields fs) s.0) s.1 in
      record { read = ap parts each.0; long = each.1 }
  mode_read (range p l u) v h = let r = mode_read p v (through (range p l u) p refl v h) in record { read = r.read; long = r.long }
  mode_read (read m) v h = let r = mode_read m v (through (read m) m refl v h) in record { read = r.read; long = r.long }
  mode_read (named d n m) v h = let r = mode_read m v (through (named d n m) m refl v h) in record { read = r.read; long = r.long }

  fields_read : (fs : FieldNodes) (m : Option ModeTree) (k : ℕ) (vs : ValueNodes) → ((j : ℕ) → part_of_mode (k + j) m ≡ field_mode_at j fs) → count_values vs ≡ count_fields fs → IsTrue (fit_each m k vs)
      → (values_in_fields fs (scalars_in_each vs) ≡ vs) × (length (scalars_in_each vs) ≡ scalars_within_fields fs)
  fields_read no_fields m k no_values at count h = (refl, refl)
  fields_read no_fields m k (more_values v vs) at count h = absurd (omega (arith, count))
  fields_read (more_fields n f p fs) m k no_values at count h = absurd (omega (arith, count))
  fields_read (more_fields n f p fs) m k (more_values v vs) at count h =
      let s = both (fits (part_of_mode k m) v) (fit_each m (suc k) vs) h in
      let here : part_of_mode k m ≡ Some f = (let same : k ≡ k + 0 = omega arith in ap (λ (j : ℕ). part_of_mode j m) same ∙ at 0) in
      let one = mode_read f v (ap (λ (o : Option ModeTree). fits o v) (sym here) ∙ s.0) in
      let rest : (j : ℕ) → part_of_mode (suc k + j) m ≡ field_mode_at j fs = λ j. (let same : suc k + j ≡ k + suc j = omega arith in ap (λ (x : ℕ). part_of_mode x m) same ∙ at (suc j)) in
      let more = fields_read fs m (suc k) vs rest (omega (arith, count)) s.1 in
      let first : take (scalars_within f) (scalars_in v ++ scalars_in_each vs) ≡ scalars_in v = take_at (scalars_in v) (scalars_in_each vs) (scalars_within f) one.long in
      let behind : drop (scalars_within f) (scalars_in v ++ scalars_in_each vs) ≡ scalars_in_each vs = drop_at (scalars_in v) (scalars_in_each vs) (scalars_within f) one.long in (
        λ i. more_values ((ap (value_in f) first ∙ one.read) i) ((ap (values_in_fields fs) behind ∙ more.0) i),
        length-append (scalars_in v) (scalars_in_each vs) ∙ (λ i. one.long i + more.1 i),
      )

pub values_read : ReadLaw
values_read (value m) v h = (mode_read m v h).read
values_read (derived m) v h = (mode_read m v h).read
values_read null (number n) h = refl
values_read null (members bs) h = absurd (cc)
values_read null (parts vs) h = absurd (cc)
values_read nothing v h = absurd (cc)
