-- What is read as a mode is that mode.
use Rattle.std.proofs.Common.{◌≡◌, ℕ, zero, suc, ◌≤◌, true, false, ◌∷◌, Option, Some, None, Ok, refl, sym, ◌∙◌, arith}
use Rattle.chill_base.specs.declared.pos.Pos.{Pos}
use Rattle.chill_tree.specs.declared.token.Word.TheVariants as words
use Rattle.chill_tree.specs.declared.token.Sign.TheVariants as signs
use Rattle.chill_tree.specs.declared.tree.name.Name.{Name}
use Rattle.chill_tree.specs.declared.tree.mode.Packing.{Packing}
use Rattle.chill_tree.specs.declared.tree.mode.Packing.TheVariants as packings
use Rattle.chill_tree.specs.declared.tree.mode.PlaceForm.TheVariants as forms
use Rattle.chill_tree.specs.ExprTree.{ExprTree, name}
use Rattle.chill_tree.specs.ModeTree.{DiscreteTree, named, bounded, set_of, IndexTree, index_named, index_bounded, PlaceTree, StepTree, SpreadTree, by_packing, by_step, BaseTree, discrete, powerset, chars, structure, array, FieldTree, field_nodes, ModeTree, base_mode, read_mode, event_mode, buffer_mode}
use Rattle.rules_model.specs.Marks.{Toks, name_token, begins, begins_with, front}
use Rattle.rules_model.specs.ExprGrammar.{IsExpr, IsRanked, is_plain, is_chain, first, is_named, a_name}
use Rattle.rules_model.specs.ListGrammar.{AreNames, IsLength, no_length, with_length}
use Rattle.rules_model.specs.ModeGrammar.{IsDiscrete, is_named_mode, is_bounded, is_set, IsIndex, is_index_name, is_index_range, IsPlace, up_to, of_length, IsFieldPlace, no_place, with_place, IsStep, is_step, IsPacking, no_packing, packed, not_packed, IsSpread, no_spread, spread_packed, spread_not_packed, spread_by_step, leaves_word, arrays_in, IsBase, is_discrete, is_powerset, is_chars, is_structure, is_array, AreFields, one_field, and_field, IsField, is_field, IsMode, is_base_mode, is_read_mode, is_event_mode, is_buffer_mode}
use Rattle.rules_model.specs.Nesting.{less}
use Rattle.rules_model.specs.Reading.{Deep, Absent, name_at, listed_at}
use Rattle.rules_model.specs.ExprReading.{expr_at}
use Rattle.rules_model.specs.ModeReading.{length_at, set_at, bounds_at, discrete_at, index_of, index_at, place_end_at, place_at, field_place_at, step_at, packing_at, spread_at, Fields, plain_base_at, arrays_at, one_field_at, fields_at, base_at, mode_at}
use Rattle.chill_parser.proofs.Taken.{last_is, never, either, sign_then, word_then, name_then, Sound, Was, read_then, sound_list, sound_names}
use Rattle.chill_parser.proofs.ExprTaken.{sound_expr}

pub sound_length : (n : ℕ) → Sound IsLength (length_at n)
unfolding length_at
sound_length n toks o rest =
    let P : Option ExprTree × Toks → Type 0 = Was IsLength toks in
    either P (begins signs.Open toks) _ _
    (λ b. sign_then P signs.Open toks _ (λ p m e. read_then P IsExpr (expr_at n p) (sound_expr n p) m _ (λ x m2 d. sign_then P signs.Close m2 _ (λ q m3 e2.
    last_is P (Some x, m3) (rw e (with_length (rw e2 at d)))))))
    (λ b. last_is P (None, toks) no_length) (o, rest)

-- ---- discrete modes

sound_set : Sound IsDiscrete set_at
unfolding set_at
sound_set toks x rest =
    let P : DiscreteTree × Toks → Type 0 = Was IsDiscrete toks in
    word_then P words.Set toks _ (λ at m e. sign_then P signs.Open m _ (λ p m2 e2. read_then P AreNames (listed_at name_at) sound_names m2 _ (λ ns m3 d. sign_then P signs.Close m3 _ (λ q m4 e3.
    last_is P (set_of at ns, m4) (rw (e, e2) (is_set (rw e3 at d))))))) (x, rest)

bounds_are : (n : ℕ) (x : Name) (toks m : Toks) → toks ≡ name_token x ∷ m → (y : DiscreteTree × Toks) → bounds_at n x m ≡ Ok y → Was IsDiscrete toks y
unfolding bounds_at
bounds_are n x toks m e =
    let P : DiscreteTree × Toks → Type 0 = Was IsDiscrete toks in
    sign_then P signs.Open m _ (λ p m2 e2. read_then P IsExpr (expr_at n p) (sound_expr n p) m2 _ (λ l m3 dl. sign_then P signs.Colon m3 _ (λ q m4 e3. read_then P IsExpr (expr_at n p) (sound_expr n p) m4 _ (λ h m5 dh. sign_then P signs.Close m5 _ (λ r m6 e4.
    last_is P (bounded x l h, m6) (rw (e, e2) (is_bounded (rw e3 at dl) (rw e4 at dh))))))))

pub sound_discrete : (n : ℕ) → Sound IsDiscrete (discrete_at n)
unfolding discrete_at
sound_discrete n toks x rest =
    let P : DiscreteTree × Toks → Type 0 = Was IsDiscrete toks in
    either P (begins_with words.Set toks) _ _
    (λ b y h. sound_set toks y.0 y.1 h)
    (λ b. name_then P toks _ (λ n2 m e. either P (begins signs.Open m) _ _
    (λ b. bounds_are n n2 toks m e)
    (λ b. last_is P (named n2, m) (rw e is_named_mode)))) (x, rest)

-- ---- indices and places

name_alone : (r : ℕ) {x : Name} {toks rest : Toks} → IsRanked r (name x) toks rest → toks ≡ name_token x ∷ rest
name_alone zero (is_plain (is_named a_name)) = refl
name_alone (suc r) (is_chain (first d)) = name_alone r d

index_is : (toks : Toks) (l : ExprTree) (m : Toks) → IsExpr l toks m → (y : IndexTree × Toks) → index_of l m ≡ Ok y → Was IsIndex toks y
index_is toks (name x) m d = last_is (Was IsIndex toks) (index_named x, m) (rw (name_alone 5 d) is_index_name)
index_is toks l m d = never (Was IsIndex toks) (Absent (front m))

sound_index : (n : ℕ) (p : Pos) → Sound IsIndex (index_at n p)
unfolding index_at
sound_index n p toks i rest =
    let P : IndexTree × Toks → Type 0 = Was IsIndex toks in
    read_then P IsExpr (expr_at n p) (sound_expr n p) toks _ (λ l m d. either P (begins signs.Colon m) _ _
    (λ b. sign_then P signs.Colon m _ (λ q m2 e. read_then P IsExpr (expr_at n p) (sound_expr n p) m2 _ (λ h m3 d2.
    last_is P (index_bounded l h, m3) (is_index_range (rw e at d) d2))))
    (λ b. index_is toks l m d)) (i, rest)

pub sound_place : (n : ℕ) → Sound IsPlace (place_at n)
unfolding place_at place_end_at
sound_place n toks x rest =
    let P : PlaceTree × Toks → Type 0 = Was IsPlace toks in
    word_then P words.Pos toks _ (λ at m e. sign_then P signs.Open m _ (λ p m2 e2.
    read_then P IsExpr (expr_at n p) (sound_expr n p) m2 _ (λ w m3 dw. sign_then P signs.Comma m3 _ (λ q m4 e3.
    read_then P IsExpr (expr_at n p) (sound_expr n p) m4 _ (λ f m5 df. either P (begins signs.Colon m5) _ _
    (λ b. sign_then P signs.Colon m5 _ (λ r m6 e4. read_then P IsExpr (expr_at n p) (sound_expr n p) m6 _ (λ g m7 dg. sign_then P signs.Close m7 _ (λ s m8 e5.
    last_is P (record { at = at; word = w; start = f; form = forms.End; bound = g }, m8) (rw (e, e2) (up_to (rw e3 at dw) (rw e4 at df) (rw e5 at dg)))))))
    (λ b. sign_then P signs.Comma m5 _ (λ r m6 e4. read_then P IsExpr (expr_at n p) (sound_expr n p) m6 _ (λ g m7 dg. sign_then P signs.Close m7 _ (λ s m8 e5.
    last_is P (record { at = at; word = w; start = f; form = forms.Length; bound = g }, m8) (rw (e, e2) (of_length (rw e3 at dw) (rw e4 at df) (rw e5 at dg))))))))))))
    (x, rest)

sound_field_place : (n : ℕ) → Sound IsFieldPlace (field_place_at n)
unfolding field_place_at
sound_field_place n toks x rest =
    let P : Option PlaceTree × Toks → Type 0 = Was IsFieldPlace toks in
    either P (begins_with words.Pos toks) _ _
    (λ b. read_then P IsPlace (place_at n) (sound_place n) toks _ (λ p m d. last_is P (Some p, m) (with_place d)))
    (λ b. last_is P (None, toks) no_place) (x, rest)

sound_step : (n : ℕ) → Sound IsStep (step_at n)
unfolding step_at
sound_step n toks x rest =
    let P : StepTree × Toks → Type 0 = Was IsStep toks in
    word_then P words.Step toks _ (λ at m e. sign_then P signs.Open m _ (λ p m2 e2. read_then P IsPlace (place_at (less n)) (sound_place (less n)) m2 _ (λ i m3 di. sign_then P signs.Comma m3 _ (λ q m4 e3.
    read_then P IsExpr (expr_at n p) (sound_expr n p) m4 _ (λ d m5 dd. sign_then P signs.Close m5 _ (λ r m6 e4.
    last_is P (record { at = at; place = i; distance = d }, m6) (rw (e, e2) (is_step (rw e3 at di) (rw e4 at dd))))))))) (x, rest)

-- ---- the words PACK, NOPACK and STEP

-- where none of the words was read none stands there
abbrev EndsPacking : Option Packing → Toks → Type 0
EndsPacking None toks = (begins_with words.Pack toks ≡ false) × (begins_with words.NoPack toks ≡ false)
EndsPacking (Some w) toks = Unit {0}

abbrev EndsSpread : Option SpreadTree → Toks → Type 0
EndsSpread None toks = (begins_with words.Pack toks ≡ false) × (begins_with words.NoPack toks ≡ false) × (begins_with words.Step toks ≡ false)
EndsSpread (Some s) toks = Unit {0}

abbrev EndsBase : BaseTree → Toks → Type 0
EndsBase (structure at fs w) toks = EndsPacking w toks
EndsBase (array at i e s) toks = EndsSpread s toks
EndsBase (discrete d) toks = Unit {0}
EndsBase (powerset at d) toks = Unit {0}
EndsBase (chars at e) toks = Unit {0}

abbrev ReadsPacking : Option Packing → Toks → Toks → Type 0
ReadsPacking w toks rest = IsPacking w toks rest × EndsPacking w rest

sound_packing : Sound ReadsPacking packing_at
unfolding packing_at
sound_packing toks x rest =
    let P : Option Packing × Toks → Type 0 = Was ReadsPacking toks in
    either P (begins_with words.Pack toks) _ _
    (λ b. word_then P words.Pack toks _ (λ p m e. last_is P (Some packings.Pack, m) (rw e packed, tt)))
    (λ b. either P (begins_with words.NoPack toks) _ _
    (λ c. word_then P words.NoPack toks _ (λ p m e. last_is P (Some packings.NoPack, m) (rw e not_packed, tt)))
    (λ c. last_is P (None, toks) (no_packing, (b, c)))) (x, rest)

abbrev ReadsSpread : Option SpreadTree → Toks → Toks → Type 0
ReadsSpread s toks rest = IsSpread s toks rest × EndsSpread s rest

sound_spread : (n : ℕ) → Sound ReadsSpread (spread_at n)
unfolding spread_at
sound_spread n toks x rest =
    let P : Option SpreadTree × Toks → Type 0 = Was ReadsSpread toks in
    either P (begins_with words.Pack toks) _ _
    (λ b. word_then P words.Pack toks _ (λ p m e. last_is P (Some (by_packing packings.Pack), m) (rw e spread_packed, tt)))
    (λ b. either P (begins_with words.NoPack toks) _ _
    (λ c. word_then P words.NoPack toks _ (λ p m e. last_is P (Some (by_packing packings.NoPack), m) (rw e spread_not_packed, tt)))
    (λ c. either P (begins_with words.Step toks) _ _
    (λ d. read_then P IsStep (step_at n) (sound_step n) toks _ (λ s m ds. last_is P (Some (by_step s), m) (spread_by_step ds, tt)))
    (λ d. last_is P (None, toks) (no_spread, (b, c, d))))) (x, rest)

no_true : true ≡ false → ⊥
no_true h = cc

step_first : {s : StepTree} {toks rest : Toks} → IsStep s toks rest → begins_with words.Step toks ≡ true
step_first (is_step p d) = refl

-- a word that an element could take is no word of its array
leaves : (e : BaseTree) {s : Option SpreadTree} {m rest : Toks} → EndsBase e m → IsSpread s m rest → leaves_word e s ≡ true
leaves e h no_spread = refl
leaves (discrete d) h spread_packed = refl
leaves (powerset at d) h spread_packed = refl
leaves (chars at d) h spread_packed = refl
leaves (structure at fs None) h spread_packed = absurd (no_true h.0)
leaves (structure at fs (Some w)) h spread_packed = refl
leaves (array at i e None) h spread_packed = absurd (no_true h.0)
leaves (array at i e (Some w)) h spread_packed = refl
leaves (discrete d) h spread_not_packed = refl
leaves (powerset at d) h spread_not_packed = refl
leaves (chars at d) h spread_not_packed = refl
leaves (structure at fs None) h spread_not_packed = absurd (no_true h.1)
leaves (structure at fs (Some w)) h spread_not_packed = refl
leaves (array at i e None) h spread_not_packed = absurd (no_true h.1)
leaves (array at i e (Some w)) h spread_not_packed = refl
leaves (discrete d) h (spread_by_step s) = refl
leaves (powerset at d) h (spread_by_step s) = refl
leaves (chars at d) h (spread_by_step s) = refl
leaves (structure at fs w) h (spread_by_step s) = refl
leaves (array at i e None) h (spread_by_step s) = absurd (no_true (sym (step_first s) ∙ h.2))
leaves (array at i e (Some w)) h (spread_by_step s) = refl

-- ---- modes of values

-- a mode with at most so many arrays in direct succession, that has taken its words
pub record ReadsBase (k : ℕ) (b : BaseTree) (toks rest : Toks) : Type 0 where
  pub is : IsBase b toks rest
  pub ends : EndsBase b rest
  pub few : arrays_in b ≤ k

module _ (n : ℕ) (fields : Fields) (sound_fs : (p : Pos) → Sound AreFields (fields p)) where
  plain_base : (k : ℕ) (toks : Toks) (y : BaseTree × Toks) → plain_base_at n fields toks ≡ Ok y → Was (ReadsBase k) toks y
  unfolding plain_base_at
  plain_base k toks =
      let P : BaseTree × Toks → Type 0 = Was (ReadsBase k) toks in
      either P (begins_with words.Powerset toks) _ _
      (λ b. word_then P words.Powerset toks _ (λ at m e. read_then P IsDiscrete (discrete_at n) (sound_discrete n) m _ (λ d m2 dd.
      last_is P (powerset at d, m2) (record { is = rw e (is_powerset dd); ends = tt; few = omega arith }))))
      (λ b. either P (begins_with words.Chars toks) _ _
      (λ b. word_then P words.Chars toks _ (λ at m e. sign_then P signs.Open m _ (λ p m2 e2. read_then P IsExpr (expr_at n p) (sound_expr n p) m2 _ (λ l m3 dl. sign_then P signs.Close m3 _ (λ q m4 e3.
      last_is P (chars at l, m4) (record { is = rw (e, e2) (is_chars (rw e3 at dl)); ends = tt; few = omega arith }))))))
      (λ b. either P (begins_with words.Struct toks) _ _
      (λ b. word_then P words.Struct toks _ (λ at m e. sign_then P signs.Open m _ (λ p m2 e2. read_then P AreFields (fields p) (sound_fs p) m2 _ (λ fs m3 df. sign_then P signs.Close m3 _ (λ q m4 e3. read_then P ReadsPacking packing_at sound_packing m4 _ (λ w m5 dw.
      last_is P (structure at (field_nodes fs) w, m5) (record { is = rw (e, e2) (is_structure (rw e3 at df) dw.0); ends = dw.1; few = omega arith })))))))
      (λ b. read_then P IsDiscrete (discrete_at n) (sound_discrete n) toks _ (λ d m dd.
      last_is P (discrete d, m) (record { is = is_discrete dd; ends = tt; few = omega arith })))))

  sound_arrays : (k : ℕ) → k ≤ 8 → Sound (ReadsBase k) (arrays_at n fields k)
  unfolding arrays_at
  sound_arrays zero le toks x rest =
      either (Was (ReadsBase zero) toks) (begins_with words.Array toks) _ _
      (λ b. never (Was (ReadsBase zero) toks) (Absent (front toks)))
      (λ b. plain_base zero toks) (x, rest)
  sound_arrays (suc k) le toks x rest =
      let P : BaseTree × Toks → Type 0 = Was (ReadsBase (suc k)) toks in
      either P (begins_with words.Array toks) _ _
      (λ b. word_then P words.Array toks _ (λ at m e. sign_then P signs.Open m _ (λ p m2 e2. read_then P IsIndex (index_at n p) (sound_index n p) m2 _ (λ i m3 di. sign_then P signs.Close m3 _ (λ q m4 e3.
      read_then P (ReadsBase k) (arrays_at n fields k) (sound_arrays k (omega arith)) m4 _ (λ g m5 dg. read_then P ReadsSpread (spread_at n) (sound_spread n) m5 _ (λ s m6 ds.
      last_is P (array at i g s, m6) (record { is = rw (e, e2) (is_array (rw e3 at di) dg.is ds.0 (leaves g dg.ends ds.0) (omega (arith, dg.few))); ends = ds.1; few = omega (arith, dg.few) }))))))))
      (λ b. plain_base (suc k) toks) (x, rest)

  sound_field : Sound IsField (one_field_at n (arrays_at n fields 8))
  unfolding one_field_at
  sound_field toks x rest =
      let P : FieldTree × Toks → Type 0 = Was IsField toks in
      read_then P AreNames (listed_at name_at) sound_names toks _ (λ ns m dn. read_then P (ReadsBase 8) (arrays_at n fields 8) (sound_arrays 8 (omega arith)) m _ (λ g m2 dg. read_then P IsFieldPlace (field_place_at n) (sound_field_place n) m2 _ (λ w m3 dw.
      last_is P (record { names = ns; base = g; place = w }, m3) (is_field dn dg.is dw)))) (x, rest)

sound_fields : (n : ℕ) (p : Pos) → Sound AreFields (fields_at n p)
unfolding fields_at
sound_fields zero p toks fs rest = never (Was AreFields toks) (Deep p) (fs, rest)
sound_fields (suc n) p toks fs rest = sound_list IsField AreFields (one_field_at n (arrays_at n (fields_at n) 8)) (sound_field n (fields_at n) (sound_fields n)) (λ x toks rest d. one_field d) (λ xs x q toks m rest l d. and_field l d) toks fs rest

pub sound_base : (n : ℕ) → Sound IsBase (base_at n)
sound_base n toks x rest e = (sound_arrays n (fields_at n) (sound_fields n) 8 (omega arith) toks x rest e).is

pub sound_mode : (n : ℕ) → Sound IsMode (mode_at n)
unfolding mode_at
sound_mode n toks x rest =
    let P : ModeTree × Toks → Type 0 = Was IsMode toks in
    either P (begins_with words.Read toks) _ _
    (λ b. word_then P words.Read toks _ (λ at m e. read_then P IsBase (base_at n) (sound_base n) m _ (λ g m2 d. last_is P (read_mode at g, m2) (rw e (is_read_mode d)))))
    (λ b. either P (begins_with words.Event toks) _ _
    (λ b. word_then P words.Event toks _ (λ at m e. read_then P IsLength (length_at n) (sound_length n) m _ (λ l m2 d. last_is P (event_mode at l, m2) (rw e (is_event_mode d)))))
    (λ b. either P (begins_with words.Buffer toks) _ _
    (λ b. word_then P words.Buffer toks _ (λ at m e. read_then P IsLength (length_at n) (sound_length n) m _ (λ l m2 dl. read_then P IsBase (base_at n) (sound_base n) m2 _ (λ g m3 d. last_is P (buffer_mode at l g, m3) (rw e (is_buffer_mode dl d))))))
    (λ b. read_then P IsBase (base_at n) (sound_base n) toks _ (λ g m d. last_is P (base_mode g, m) (is_base_mode d))))) (x, rest)
