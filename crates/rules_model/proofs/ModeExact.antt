-- What is a mode, and is followed by nothing that goes on with it, is read as that mode.
use Rattle.std.proofs.Common.{◌≡◌, ℕ, zero, suc, ◌+◌, ◌<◌, ◌≤◌, true, false, not, List, [], ◌∷◌, length, Option, Some, None, Ok, refl, arith, length-append}
use Rattle.chill_base.specs.declared.pos.Pos.{Pos}
use Rattle.chill_tree.specs.declared.token.Word.TheVariants as words
use Rattle.chill_tree.specs.declared.token.Sign.TheVariants as signs
use Rattle.chill_tree.specs.declared.tree.name.Name.{Name}
use Rattle.chill_tree.specs.declared.tree.mode.Packing.{Packing}
use Rattle.chill_tree.specs.declared.tree.mode.Packing.TheVariants as packings
use Rattle.chill_tree.specs.declared.tree.mode.PlaceForm.TheVariants as forms
use Rattle.chill_tree.specs.ExprTree.{ExprTree, name}
use Rattle.chill_tree.specs.ModeTree.{DiscreteTree, named, bounded, set_of, IndexTree, index_named, index_bounded, PlaceTree, StepTree, SpreadTree, by_packing, by_step, BaseTree, discrete, powerset, chars, structure, array, FieldTree, FieldNodes, field_nodes, ModeTree, base_mode, read_mode, event_mode, buffer_mode}
use Rattle.rules_model.specs.declared.extent.Extent.TheVariants as extents
use Rattle.rules_model.specs.Marks.{Toks, sign, word, name_token, begins, begins_with}
use Rattle.rules_model.specs.ExprGrammar.{IsRanked, a_name, is_named, is_plain, is_chain, first}
use Rattle.rules_model.specs.ListGrammar.{IsLength, no_length, with_length}
use Rattle.rules_model.specs.ModeGrammar.{IsDiscrete, is_named_mode, is_bounded, is_set, IsIndex, is_index_name, is_index_range, IsPlace, up_to, of_length, IsFieldPlace, no_place, with_place, IsStep, is_step, IsPacking, no_packing, packed, not_packed, IsSpread, no_spread, spread_packed, spread_not_packed, spread_by_step, is_bare_array, is_bare, leaves_word, arrays_in, IsBase, is_discrete, is_powerset, is_chars, is_structure, is_array, AreFields, one_field, and_field, IsField, is_field, IsMode, is_base_mode, is_read_mode, is_event_mode, is_buffer_mode}
use Rattle.rules_model.specs.Nesting.{less, StaysBelow}
use Rattle.rules_model.specs.Reading.{Read, sign_at, word_at, name_at, listed_at}
use Rattle.rules_model.specs.ExprReading.{expr_at}
use Rattle.rules_model.specs.ModeReading.{value_at, length_at, set_at, bounds_at, discrete_at, index_at, place_end_at, place_at, field_place_at, step_at, packing_at, spread_at, Fields, plain_base_at, arrays_at, one_field_at, fields_at, base_at, mode_at}
use Rattle.rules_model.proofs.Loops.{Listing, listing_one, listing_and, listing_all}
use Rattle.rules_model.proofs.ExprStarts.{ranked_shrinks}
use Rattle.rules_model.proofs.ExprStops.{Stops}
use Rattle.rules_model.proofs.ExprExact.{exact_expr, exact_ranked}
use Rattle.rules_model.proofs.ListExact.{exact_names, names_shrink}

-- ---- expressions inside and outside brackets

pub exact_inside : {e : ExprTree} {toks rest : Toks} → IsRanked 5 e toks rest → (n : ℕ) (p : Pos) → 0 < n → StaysBelow n toks → Stops 5 rest → (expr_at n p toks ≡ Ok (e, rest)) × StaysBelow n rest
exact_inside d zero p pos below stops = absurd (omega (arith, pos))
exact_inside d (suc n) p pos below stops = exact_expr d n p below stops

pub exact_value : {e : ExprTree} {toks rest : Toks} → IsRanked 5 e toks rest → (n : ℕ) → StaysBelow (suc n) toks → Stops 5 rest → (value_at n toks ≡ Ok (e, rest)) × StaysBelow (suc n) rest
exact_value d n below stops = exact_ranked d extents.Whole n below stops

a_length : (n : ℕ) (p q : Pos) (e : ExprTree) (m rest : Toks) → expr_at n p m ≡ Ok (e, sign q signs.Close ∷ rest) → length_at n (sign p signs.Open ∷ m) ≡ Ok (Some e, rest)
unfolding length_at sign_at
a_length n p q e m rest h = rw h refl

without_length : (n : ℕ) (toks : Toks) → begins signs.Open toks ≡ false → length_at n toks ≡ Ok (None, toks)
unfolding length_at
without_length n toks h = rw h refl

pub exact_length : {l : Option ExprTree} {toks rest : Toks} → IsLength l toks rest → (n : ℕ) → StaysBelow (suc n) toks → begins signs.Open rest ≡ false → (length_at n toks ≡ Ok (l, rest)) × StaysBelow (suc n) rest
exact_length (no_length {toks = toks}) n below ends = (without_length n toks ends, below)
exact_length (with_length {e = e} {p = p} {q = q} {m = m} {rest = rest} d) n below ends =
    let x = exact_inside d n p below.0 below.1 (refl, refl, refl, tt) in
    (a_length n p q e m rest x.0, x.1.1)

-- ---- discrete modes

-- a bare name isn't followed by a bracket
abbrev pub EndsDiscrete : DiscreteTree → Toks → Type 0
EndsDiscrete (named x) toks = begins signs.Open toks ≡ false
EndsDiscrete (bounded x l h) toks = Unit {0}
EndsDiscrete (set_of at ns) toks = Unit {0}

a_named : (n : ℕ) (x : Name) (rest : Toks) → begins signs.Open rest ≡ false → discrete_at n (name_token x ∷ rest) ≡ Ok (named x, rest)
unfolding discrete_at name_at
a_named n x rest h = rw h refl

a_bounded : (n : ℕ) (x : Name) (l h : ExprTree) (p q r : Pos) (m m2 rest : Toks) → expr_at n p m ≡ Ok (l, sign q signs.Colon ∷ m2) → expr_at n p m2 ≡ Ok (h, sign r signs.Close ∷ rest) → discrete_at n (name_token x ∷ sign p signs.Open ∷ m) ≡ Ok (bounded x l h, rest)
unfolding discrete_at name_at bounds_at sign_at
a_bounded n x l h p q r m m2 rest g k = rw (g, k) refl

a_set : (n : ℕ) (at p q : Pos) (ns : List Name) (m rest : Toks) → listed_at name_at m ≡ Ok (ns, sign q signs.Close ∷ rest) → discrete_at n (word at words.Set ∷ sign p signs.Open ∷ m) ≡ Ok (set_of at ns, rest)
unfolding discrete_at set_at word_at sign_at
a_set n at p q ns m rest h = rw h refl

exact_discrete : {d : DiscreteTree} {toks rest : Toks} → IsDiscrete d toks rest → (n : ℕ) → StaysBelow (suc n) toks → EndsDiscrete d rest → (discrete_at n toks ≡ Ok (d, rest)) × StaysBelow (suc n) rest
exact_discrete (is_named_mode {n = x} {rest = rest}) n below ends = (a_named n x rest ends, below.1)
exact_discrete (is_bounded {n = x} {l = l} {h = h} {p = p} {q = q} {r = r} {m = m} {m2 = m2} {rest = rest} dl dh) n below ends =
    let xl = exact_inside dl n p below.1.0 below.1.1 (refl, refl, refl, tt) in
    let xh = exact_inside dh n p below.1.0 xl.1.1 (refl, refl, refl, tt) in
    (a_bounded n x l h p q r m m2 rest xl.0 xh.0, xh.1.1)
exact_discrete (is_set {at = at} {p = p} {q = q} {ns = ns} {m = m} {rest = rest} d) n below ends =
    let x = exact_names d n below.1.1 refl in
    (a_set n at p q ns m rest x.0, x.1.1)

-- how a discrete mode begins: with none of the words that begin other modes
pub record DiscreteFirst (toks : Toks) : Type 0 where
  pub open_sign : begins signs.Open toks ≡ false
  pub equal : begins signs.Equal toks ≡ false
  pub read_word : begins_with words.Read toks ≡ false
  pub event : begins_with words.Event toks ≡ false
  pub buffer : begins_with words.Buffer toks ≡ false
  pub array_word : begins_with words.Array toks ≡ false
  pub powerset_word : begins_with words.Powerset toks ≡ false
  pub chars_word : begins_with words.Chars toks ≡ false
  pub struct_word : begins_with words.Struct toks ≡ false

discrete_first : {d : DiscreteTree} {toks rest : Toks} → IsDiscrete d toks rest → DiscreteFirst toks
discrete_first is_named_mode = record { open_sign = refl; equal = refl; read_word = refl; event = refl; buffer = refl; array_word = refl; powerset_word = refl; chars_word = refl; struct_word = refl }
discrete_first (is_bounded l h) = record { open_sign = refl; equal = refl; read_word = refl; event = refl; buffer = refl; array_word = refl; powerset_word = refl; chars_word = refl; struct_word = refl }
discrete_first (is_set d) = record { open_sign = refl; equal = refl; read_word = refl; event = refl; buffer = refl; array_word = refl; powerset_word = refl; chars_word = refl; struct_word = refl }

-- ---- indices and places

an_index_name : (n : ℕ) (p q : Pos) (x : Name) (toks rest : Toks) → expr_at n p toks ≡ Ok (name x, sign q signs.Close ∷ rest) → index_at n p toks ≡ Ok (index_named x, sign q signs.Close ∷ rest)
unfolding index_at
an_index_name n p q x toks rest h = rw h refl

an_index_range : (n : ℕ) (p q : Pos) (l h : ExprTree) (toks m rest : Toks) → expr_at n p toks ≡ Ok (l, sign q signs.Colon ∷ m) → expr_at n p m ≡ Ok (h, rest) → index_at n p toks ≡ Ok (index_bounded l h, rest)
unfolding index_at sign_at
an_index_range n p q l h toks m rest g k = rw (g, k) refl

exact_index : {i : IndexTree} {r : Pos} {toks rest : Toks} → IsIndex i toks (sign r signs.Close ∷ rest) → (n : ℕ) (p : Pos) → 0 < n → StaysBelow n toks → (index_at n p toks ≡ Ok (i, sign r signs.Close ∷ rest)) × StaysBelow n (sign r signs.Close ∷ rest)
exact_index {r = r} {rest = rest} (is_index_name {n = x}) n p pos below =
    let e = exact_inside (is_chain (first (is_chain (first (is_chain (first (is_chain (first (is_chain (first (is_plain (is_named (a_name {n = x} {rest = sign r signs.Close ∷ rest}))))))))))))) n p pos below (refl, refl, refl, tt) in
    (an_index_name n p r x (name_token x ∷ sign r signs.Close ∷ rest) rest e.0, e.1)
exact_index {r = r} {rest = rest} (is_index_range {l = l} {h = h} {p = q} {toks = toks} {m = m} dl dh) n p pos below =
    let xl = exact_inside dl n p pos below (refl, refl, refl, tt) in
    let xh = exact_inside dh n p pos xl.1.1 (refl, refl, refl, tt) in
    (an_index_range n p q l h toks m (sign r signs.Close ∷ rest) xl.0 xh.0, xh.1)

a_place_up_to : (n : ℕ) (at p q r s : Pos) (w f b : ExprTree) (m m2 m3 rest : Toks) → expr_at n p m ≡ Ok (w, sign q signs.Comma ∷ m2) → expr_at n p m2 ≡ Ok (f, sign r signs.Colon ∷ m3) → expr_at n p m3 ≡ Ok (b, sign s signs.Close ∷ rest)
    → place_at n (word at words.Pos ∷ sign p signs.Open ∷ m) ≡ Ok (record { at = at; word = w; start = f; form = forms.End; bound = b }, rest)
unfolding place_at place_end_at word_at sign_at
a_place_up_to n at p q r s w f b m m2 m3 rest hw hf hb = rw (hw, hf, hb) refl

a_place_of_length : (n : ℕ) (at p q r s : Pos) (w f b : ExprTree) (m m2 m3 rest : Toks) → expr_at n p m ≡ Ok (w, sign q signs.Comma ∷ m2) → expr_at n p m2 ≡ Ok (f, sign r signs.Comma ∷ m3) → expr_at n p m3 ≡ Ok (b, sign s signs.Close ∷ rest)
    → place_at n (word at words.Pos ∷ sign p signs.Open ∷ m) ≡ Ok (record { at = at; word = w; start = f; form = forms.Length; bound = b }, rest)
unfolding place_at place_end_at word_at sign_at
a_place_of_length n at p q r s w f b m m2 m3 rest hw hf hb = rw (hw, hf, hb) refl

exact_place : {x : PlaceTree} {toks rest : Toks} → IsPlace x toks rest → (n : ℕ) → StaysBelow (suc n) toks → (place_at n toks ≡ Ok (x, rest)) × StaysBelow (suc n) rest
exact_place (up_to {at = at} {p = p} {q = q} {r = r} {s = s} {w = w} {f = f} {b = b} {m = m} {m2 = m2} {m3 = m3} {rest = rest} dw df db) n below =
    let xw = exact_inside dw n p below.1.0 below.1.1 (refl, refl, refl, tt) in
    let xf = exact_inside df n p below.1.0 xw.1.1 (refl, refl, refl, tt) in
    let xb = exact_inside db n p below.1.0 xf.1.1 (refl, refl, refl, tt) in
    (a_place_up_to n at p q r s w f b m m2 m3 rest xw.0 xf.0 xb.0, xb.1.1)
exact_place (of_length {at = at} {p = p} {q = q} {r = r} {s = s} {w = w} {f = f} {b = b} {m = m} {m2 = m2} {m3 = m3} {rest = rest} dw df db) n below =
    let xw = exact_inside dw n p below.1.0 below.1.1 (refl, refl, refl, tt) in
    let xf = exact_inside df n p below.1.0 xw.1.1 (refl, refl, refl, tt) in
    let xb = exact_inside db n p below.1.0 xf.1.1 (refl, refl, refl, tt) in
    (a_place_of_length n at p q r s w f b m m2 m3 rest xw.0 xf.0 xb.0, xb.1.1)

place_first : {x : PlaceTree} {toks rest : Toks} → IsPlace x toks rest → begins_with words.Pos toks ≡ true
place_first (up_to dw df db) = refl
place_first (of_length dw df db) = refl

a_field_place : (n : ℕ) (x : PlaceTree) (toks rest : Toks) → begins_with words.Pos toks ≡ true → place_at n toks ≡ Ok (x, rest) → field_place_at n toks ≡ Ok (Some x, rest)
unfolding field_place_at
a_field_place n x toks rest b h = rw (b, h) refl

no_field_place : (n : ℕ) (toks : Toks) → begins_with words.Pos toks ≡ false → field_place_at n toks ≡ Ok (None, toks)
unfolding field_place_at
no_field_place n toks b = rw b refl

exact_field_place : {x : Option PlaceTree} {toks rest : Toks} → IsFieldPlace x toks rest → (n : ℕ) → StaysBelow (suc n) toks → begins_with words.Pos rest ≡ false → (field_place_at n toks ≡ Ok (x, rest)) × StaysBelow (suc n) rest
exact_field_place (no_place {toks = toks}) n below ends = (no_field_place n toks ends, below)
exact_field_place (with_place {p = x} {toks = toks} {rest = rest} d) n below ends =
    let e = exact_place d n below in
    (a_field_place n x toks rest (place_first d) e.0, e.1)

a_step : (n : ℕ) (at p q r : Pos) (w : PlaceTree) (d : ExprTree) (m m2 rest : Toks) → place_at (less n) m ≡ Ok (w, sign q signs.Comma ∷ m2) → expr_at n p m2 ≡ Ok (d, sign r signs.Close ∷ rest)
    → step_at n (word at words.Step ∷ sign p signs.Open ∷ m) ≡ Ok (record { at = at; place = w; distance = d }, rest)
unfolding step_at word_at sign_at
a_step n at p q r w d m m2 rest hw hd = rw (hw, hd) refl

exact_step : {x : StepTree} {toks rest : Toks} → IsStep x toks rest → (n : ℕ) → StaysBelow (suc n) toks → (step_at n toks ≡ Ok (x, rest)) × StaysBelow (suc n) rest
exact_step (is_step dw dd) zero below = absurd (omega (arith, below.1.0))
exact_step (is_step {at = at} {p = p} {q = q} {r = r} {w = w} {d = d} {m = m} {m2 = m2} {rest = rest} dw dd) (suc n) below =
    let xw = exact_place dw n below.1.1 in
    let xd = exact_inside dd (suc n) p below.1.0 xw.1.1 (refl, refl, refl, tt) in
    (a_step (suc n) at p q r w d m m2 rest xw.0 xd.0, xd.1.1)

step_first : {x : StepTree} {toks rest : Toks} → IsStep x toks rest → (begins_with words.Step toks ≡ true) × (begins_with words.Pack toks ≡ false) × (begins_with words.NoPack toks ≡ false)
step_first (is_step dw dd) = (refl, refl, refl)

-- ---- what a mode does not go on with

-- none of the words that belong to a mode before them, and no bracket
pub record EndsAll (toks : Toks) : Type 0 where
  pub open_sign : begins signs.Open toks ≡ false
  pub pack : begins_with words.Pack toks ≡ false
  pub no_pack : begins_with words.NoPack toks ≡ false
  pub step : begins_with words.Step toks ≡ false

abbrev pub EndsBase : BaseTree → Toks → Type 0
EndsBase (discrete d) toks = EndsDiscrete d toks
EndsBase (powerset at d) toks = EndsDiscrete d toks
EndsBase (chars at e) toks = Unit {0}
EndsBase (structure at fs None) toks = (begins_with words.Pack toks ≡ false) × (begins_with words.NoPack toks ≡ false)
EndsBase (structure at fs (Some w)) toks = Unit {0}
EndsBase (array at i e None) toks = (begins_with words.Pack toks ≡ false) × (begins_with words.NoPack toks ≡ false) × (begins_with words.Step toks ≡ false) × EndsBase e toks
EndsBase (array at i e (Some s)) toks = Unit {0}

discrete_ends : (d : DiscreteTree) (toks : Toks) → begins signs.Open toks ≡ false → EndsDiscrete d toks
discrete_ends (named x) toks h = h
discrete_ends (bounded x l u) toks h = tt
discrete_ends (set_of at ns) toks h = tt

pub base_ends : (b : BaseTree) (toks : Toks) → EndsAll toks → EndsBase b toks
base_ends (discrete d) toks h = discrete_ends d toks h.open_sign
base_ends (powerset at d) toks h = discrete_ends d toks h.open_sign
base_ends (chars at e) toks h = tt
base_ends (structure at fs None) toks h = (h.pack, h.no_pack)
base_ends (structure at fs (Some w)) toks h = tt
base_ends (array at i e None) toks h = (h.pack, h.no_pack, h.step, base_ends e toks h)
base_ends (array at i e (Some s)) toks h = tt

-- a word that the element of an array leaves does not go on with the element
left_packing : (e : BaseTree) (toks : Toks) → begins signs.Open toks ≡ false → not (is_bare e) ≡ true → EndsBase e toks
left_packing (discrete d) toks h l = discrete_ends d toks h
left_packing (powerset at d) toks h l = discrete_ends d toks h
left_packing (chars at e) toks h l = tt
left_packing (structure at fs None) toks h l = absurd cc
left_packing (structure at fs (Some w)) toks h l = tt
left_packing (array at i e None) toks h l = absurd cc
left_packing (array at i e (Some s)) toks h l = tt

left_step : (e : BaseTree) (toks : Toks) → begins signs.Open toks ≡ false → begins_with words.Pack toks ≡ false → begins_with words.NoPack toks ≡ false → not (is_bare_array e) ≡ true → EndsBase e toks
left_step (discrete d) toks h p q l = discrete_ends d toks h
left_step (powerset at d) toks h p q l = discrete_ends d toks h
left_step (chars at e) toks h p q l = tt
left_step (structure at fs None) toks h p q l = (p, q)
left_step (structure at fs (Some w)) toks h p q l = tt
left_step (array at i e None) toks h p q l = absurd cc
left_step (array at i e (Some s)) toks h p q l = tt

step_open : {x : StepTree} {toks rest : Toks} → IsStep x toks rest → begins signs.Open toks ≡ false
step_open (is_step dw dd) = refl

element_ends : {s : Option SpreadTree} {toks rest : Toks} → IsSpread s toks rest → (at : Pos) (i : IndexTree) (e : BaseTree) → leaves_word e s ≡ true → EndsBase (array at i e s) rest → EndsBase e toks
element_ends no_spread at i e l ends = ends.3
element_ends (spread_packed {p = p} {rest = rest}) at i e l ends = left_packing e (word p words.Pack ∷ rest) refl l
element_ends (spread_not_packed {p = p} {rest = rest}) at i e l ends = left_packing e (word p words.NoPack ∷ rest) refl l
element_ends (spread_by_step {toks = toks} d) at i e l ends = let f = step_first d in left_step e toks (step_open d) f.1 f.2 l

-- ---- what spreads elements

a_spread : (n : ℕ) (s : StepTree) (toks rest : Toks) → begins_with words.Pack toks ≡ false → begins_with words.NoPack toks ≡ false → begins_with words.Step toks ≡ true → step_at n toks ≡ Ok (s, rest) → spread_at n toks ≡ Ok (Some (by_step s), rest)
unfolding spread_at
a_spread n s toks rest p q b h = rw (p, q, b, h) refl

without_spread : (n : ℕ) (toks : Toks) → begins_with words.Pack toks ≡ false → begins_with words.NoPack toks ≡ false → begins_with words.Step toks ≡ false → spread_at n toks ≡ Ok (None, toks)
unfolding spread_at
without_spread n toks p q b = rw (p, q, b) refl

a_pack : (n : ℕ) (p : Pos) (rest : Toks) → spread_at n (word p words.Pack ∷ rest) ≡ Ok (Some (by_packing packings.Pack), rest)
unfolding spread_at word_at
a_pack n p rest = refl

a_no_pack : (n : ℕ) (p : Pos) (rest : Toks) → spread_at n (word p words.NoPack ∷ rest) ≡ Ok (Some (by_packing packings.NoPack), rest)
unfolding spread_at word_at
a_no_pack n p rest = refl

exact_spread : {s : Option SpreadTree} {toks rest : Toks} → IsSpread s toks rest → (at : Pos) (i : IndexTree) (e : BaseTree) (n : ℕ) → StaysBelow (suc n) toks → EndsBase (array at i e s) rest → (spread_at n toks ≡ Ok (s, rest)) × StaysBelow (suc n) rest
exact_spread (no_spread {toks = toks}) at i e n below ends = (without_spread n toks ends.0 ends.1 ends.2, below)
exact_spread (spread_packed {p = p} {rest = rest}) at i e n below ends = (a_pack n p rest, below.1)
exact_spread (spread_not_packed {p = p} {rest = rest}) at i e n below ends = (a_no_pack n p rest, below.1)
exact_spread (spread_by_step {s = s} {toks = toks} {rest = rest} d) at i e n below ends =
    let x = exact_step d n below in
    let f = step_first d in
    (a_spread n s toks rest f.1 f.2 f.0 x.0, x.1)

packing_pack : (p : Pos) (rest : Toks) → packing_at (word p words.Pack ∷ rest) ≡ Ok (Some packings.Pack, rest)
unfolding packing_at word_at
packing_pack p rest = refl

packing_no_pack : (p : Pos) (rest : Toks) → packing_at (word p words.NoPack ∷ rest) ≡ Ok (Some packings.NoPack, rest)
unfolding packing_at word_at
packing_no_pack p rest = refl

packing_none : (toks : Toks) → begins_with words.Pack toks ≡ false → begins_with words.NoPack toks ≡ false → packing_at toks ≡ Ok (None, toks)
unfolding packing_at
packing_none toks p q = rw (p, q) refl

exact_packing : {w : Option Packing} {toks rest : Toks} → IsPacking w toks rest → (at : Pos) (fs : FieldNodes) (n : ℕ) → StaysBelow n toks → EndsBase (structure at fs w) rest → (packing_at toks ≡ Ok (w, rest)) × StaysBelow n rest
exact_packing (no_packing {toks = toks}) at fs n below ends = (packing_none toks ends.0 ends.1, below)
exact_packing (packed {p = p} {rest = rest}) at fs n below ends = (packing_pack p rest, below.1)
exact_packing (not_packed {p = p} {rest = rest}) at fs n below ends = (packing_no_pack p rest, below.1)

-- ---- modes of values

no_array : (n : ℕ) (fields : Fields) (k : ℕ) (toks : Toks) (x : Read BaseTree) → begins_with words.Array toks ≡ false → plain_base_at n fields toks ≡ x → arrays_at n fields k toks ≡ x
unfolding arrays_at
no_array n fields zero toks x b h = rw b h
no_array n fields (suc k) toks x b h = rw b h

a_discrete : (n : ℕ) (fields : Fields) (d : DiscreteTree) (toks rest : Toks) → DiscreteFirst toks → discrete_at n toks ≡ Ok (d, rest) → plain_base_at n fields toks ≡ Ok (discrete d, rest)
unfolding plain_base_at
a_discrete n fields d toks rest f h = rw (f.powerset_word, f.chars_word, f.struct_word, h) refl

a_powerset : (n : ℕ) (fields : Fields) (at : Pos) (d : DiscreteTree) (m rest : Toks) → discrete_at n m ≡ Ok (d, rest) → plain_base_at n fields (word at words.Powerset ∷ m) ≡ Ok (powerset at d, rest)
unfolding plain_base_at word_at
a_powerset n fields at d m rest h = rw h refl

a_chars : (n : ℕ) (fields : Fields) (at p q : Pos) (e : ExprTree) (m rest : Toks) → expr_at n p m ≡ Ok (e, sign q signs.Close ∷ rest) → plain_base_at n fields (word at words.Chars ∷ sign p signs.Open ∷ m) ≡ Ok (chars at e, rest)
unfolding plain_base_at word_at sign_at
a_chars n fields at p q e m rest h = rw h refl

a_structure : (n : ℕ) (fields : Fields) (at p q : Pos) (fs : List FieldTree) (w : Option Packing) (m m2 rest : Toks) → fields p m ≡ Ok (fs, sign q signs.Close ∷ m2) → packing_at m2 ≡ Ok (w, rest) → plain_base_at n fields (word at words.Struct ∷ sign p signs.Open ∷ m) ≡ Ok (structure at (field_nodes fs) w, rest)
unfolding plain_base_at word_at sign_at
a_structure n fields at p q fs w m m2 rest h g = rw (h, g) refl

an_array : (n : ℕ) (fields : Fields) (k : ℕ) (at p q : Pos) (i : IndexTree) (e : BaseTree) (s : Option SpreadTree) (m m2 m3 rest : Toks) → index_at n p m ≡ Ok (i, sign q signs.Close ∷ m2) → arrays_at n fields k m2 ≡ Ok (e, m3) → spread_at n m3 ≡ Ok (s, rest)
    → arrays_at n fields (suc k) (word at words.Array ∷ sign p signs.Open ∷ m) ≡ Ok (array at i e s, rest)
unfolding arrays_at word_at sign_at
an_array n fields k at p q i e s m m2 m3 rest hi he hs = rw (hi, he, hs) refl

a_field : (n : ℕ) (base : Toks → Read BaseTree) (ns : List Name) (b : BaseTree) (w : Option PlaceTree) (toks m m2 rest : Toks) → listed_at name_at toks ≡ Ok (ns, m) → base m ≡ Ok (b, m2) → field_place_at n m2 ≡ Ok (w, rest)
    → one_field_at n base toks ≡ Ok (record { names = ns; base = b; place = w }, rest)
unfolding one_field_at
a_field n base ns b w toks m m2 rest hn hb hw = rw (hn, hb, hw) refl

the_fields : (n : ℕ) (p : Pos) (toks : Toks) (x : Read (List FieldTree)) → listed_at (one_field_at n (base_at n)) toks ≡ x → fields_at (suc n) p toks ≡ x
unfolding fields_at
the_fields n p toks x h = h

index_shrinks : {i : IndexTree} {toks rest : Toks} → IsIndex i toks rest → length rest < length toks
index_shrinks is_index_name = omega arith
index_shrinks (is_index_range l h) = omega (arith, ranked_shrinks l, ranked_shrinks h)

place_shrinks : {x : PlaceTree} {toks rest : Toks} → IsPlace x toks rest → length rest < length toks
place_shrinks (up_to a b c) = omega (arith, ranked_shrinks a, ranked_shrinks b, ranked_shrinks c)
place_shrinks (of_length a b c) = omega (arith, ranked_shrinks a, ranked_shrinks b, ranked_shrinks c)

field_place_shrinks : {x : Option PlaceTree} {toks rest : Toks} → IsFieldPlace x toks rest → length rest ≤ length toks
field_place_shrinks no_place = omega arith
field_place_shrinks (with_place d) = omega (arith, place_shrinks d)

step_shrinks : {x : StepTree} {toks rest : Toks} → IsStep x toks rest → length rest < length toks
step_shrinks (is_step w d) = omega (arith, place_shrinks w, ranked_shrinks d)

spread_shrinks : {x : Option SpreadTree} {toks rest : Toks} → IsSpread x toks rest → length rest ≤ length toks
spread_shrinks no_spread = omega arith
spread_shrinks spread_packed = omega arith
spread_shrinks spread_not_packed = omega arith
spread_shrinks (spread_by_step d) = omega (arith, step_shrinks d)

packing_shrinks : {x : Option Packing} {toks rest : Toks} → IsPacking x toks rest → length rest ≤ length toks
packing_shrinks no_packing = omega arith
packing_shrinks packed = omega arith
packing_shrinks not_packed = omega arith

discrete_shrinks : {d : DiscreteTree} {toks rest : Toks} → IsDiscrete d toks rest → length rest < length toks
discrete_shrinks is_named_mode = omega arith
discrete_shrinks (is_bounded l h) = omega (arith, ranked_shrinks l, ranked_shrinks h)
discrete_shrinks (is_set d) = omega (arith, names_shrink d)

mutual
  pub base_shrinks : {b : BaseTree} {toks rest : Toks} → IsBase b toks rest → length rest < length toks
  base_shrinks (is_discrete d) = discrete_shrinks d
  base_shrinks (is_powerset d) = omega (arith, discrete_shrinks d)
  base_shrinks (is_chars d) = omega (arith, ranked_shrinks d)
  base_shrinks (is_structure d w) = omega (arith, fields_shrink d, packing_shrinks w)
  base_shrinks (is_array i e s l few) = omega (arith, index_shrinks i, base_shrinks e, spread_shrinks s)

  fields_shrink : {fs : List FieldTree} {toks rest : Toks} → AreFields fs toks rest → length fs + length rest ≤ length toks
  fields_shrink (one_field d) = omega (arith, field_shrinks d)
  fields_shrink (and_field {fs = fs} {f = f} l d) = omega (arith, fields_shrink l, field_shrinks d, length-append fs (f ∷ []))

  field_shrinks : {f : FieldTree} {toks rest : Toks} → IsField f toks rest → length rest < length toks
  field_shrinks (is_field ns b w) = omega (arith, names_shrink ns, base_shrinks b, field_place_shrinks w)

pub arrays_few : {b : BaseTree} {toks rest : Toks} → IsBase b toks rest → arrays_in b ≤ 8
arrays_few (is_discrete d) = omega arith
arrays_few (is_powerset d) = omega arith
arrays_few (is_chars d) = omega arith
arrays_few (is_structure d w) = omega arith
arrays_few (is_array i e s l few) = omega (arith, few)

-- how a mode of values begins
pub record BaseFirst (toks : Toks) : Type 0 where
  pub open_sign : begins signs.Open toks ≡ false
  pub equal : begins signs.Equal toks ≡ false
  pub comma : begins signs.Comma toks ≡ false
  pub read_word : begins_with words.Read toks ≡ false
  pub event : begins_with words.Event toks ≡ false
  pub buffer : begins_with words.Buffer toks ≡ false

discrete_base_first : {d : DiscreteTree} {toks rest : Toks} → IsDiscrete d toks rest → BaseFirst toks
discrete_base_first is_named_mode = record { open_sign = refl; equal = refl; comma = refl; read_word = refl; event = refl; buffer = refl }
discrete_base_first (is_bounded l h) = record { open_sign = refl; equal = refl; comma = refl; read_word = refl; event = refl; buffer = refl }
discrete_base_first (is_set d) = record { open_sign = refl; equal = refl; comma = refl; read_word = refl; event = refl; buffer = refl }

pub base_first : {b : BaseTree} {toks rest : Toks} → IsBase b toks rest → BaseFirst toks
base_first (is_discrete d) = discrete_base_first d
base_first (is_powerset d) = record { open_sign = refl; equal = refl; comma = refl; read_word = refl; event = refl; buffer = refl }
base_first (is_chars d) = record { open_sign = refl; equal = refl; comma = refl; read_word = refl; event = refl; buffer = refl }
base_first (is_structure d w) = record { open_sign = refl; equal = refl; comma = refl; read_word = refl; event = refl; buffer = refl }
base_first (is_array i e s l few) = record { open_sign = refl; equal = refl; comma = refl; read_word = refl; event = refl; buffer = refl }

place_ends_all : {x : Option PlaceTree} {toks rest : Toks} → IsFieldPlace x toks rest → EndsAll rest → EndsAll toks
place_ends_all no_place ends = ends
place_ends_all (with_place (up_to a b c)) ends = record { open_sign = refl; pack = refl; no_pack = refl; step = refl }
place_ends_all (with_place (of_length a b c)) ends = record { open_sign = refl; pack = refl; no_pack = refl; step = refl }

mutual
  exact_arrays : {b : BaseTree} {toks rest : Toks} → IsBase b toks rest → (n k : ℕ) → arrays_in b ≤ k → StaysBelow (suc n) toks → EndsBase b rest → (arrays_at n (fields_at n) k toks ≡ Ok (b, rest)) × StaysBelow (suc n) rest
  exact_arrays (is_discrete {d = d} {toks = toks} {rest = rest} x) n k le below ends =
      let ih = exact_discrete x n below ends in
      let f = discrete_first x in
      (no_array n (fields_at n) k toks (Ok (discrete d, rest)) f.array_word (a_discrete n (fields_at n) d toks rest f ih.0), ih.1)
  exact_arrays (is_powerset {at = at} {d = d} {m = m} {rest = rest} x) n k le below ends =
      let ih = exact_discrete x n below.1 ends in
      (no_array n (fields_at n) k (word at words.Powerset ∷ m) (Ok (powerset at d, rest)) refl (a_powerset n (fields_at n) at d m rest ih.0), ih.1)
  exact_arrays (is_chars {at = at} {p = p} {q = q} {e = e} {m = m} {rest = rest} x) n k le below ends =
      let ih = exact_inside x n p below.1.0 below.1.1 (refl, refl, refl, tt) in
      (no_array n (fields_at n) k (word at words.Chars ∷ sign p signs.Open ∷ m) (Ok (chars at e, rest)) refl (a_chars n (fields_at n) at p q e m rest ih.0), ih.1.1)
  exact_arrays (is_structure x w) zero k le below ends = absurd (omega (arith, below.1.0))
  exact_arrays (is_structure {at = at} {p = p} {q = q} {fs = fs} {w = w} {m = m} {m2 = m2} {rest = rest} x y) (suc n) k le below ends =
      let ih = exact_fields x n below.1.1 (record { open_sign = refl; pack = refl; no_pack = refl; step = refl }) refl in
      let all = listing_all (one_field_at n (base_at n)) fs m (sign q signs.Close ∷ m2) ih.0 refl (omega (arith, fields_shrink x)) ih.2 in
      let iw = exact_packing y at (field_nodes fs) (suc (suc n)) ih.1.1 ends in (
        no_array (suc n) (fields_at (suc n)) k (word at words.Struct ∷ sign p signs.Open ∷ m) (Ok (structure at (field_nodes fs) w, rest)) refl
            (a_structure (suc n) (fields_at (suc n)) at p q fs w m m2 rest (the_fields n p m (Ok (fs, sign q signs.Close ∷ m2)) all) iw.0),
        iw.1,
      )
  exact_arrays (is_array i e s l few) n zero le below ends = absurd (omega (arith, le))
  exact_arrays (is_array {at = at} {p = p} {q = q} {i = i} {e = e} {s = s} {m = m} {m2 = m2} {m3 = m3} {rest = rest} di de ds l few) n (suc k) le below ends =
      let xi = exact_index di n p below.1.0 below.1.1 in
      let xe = exact_arrays de n k (omega (arith, le)) xi.1.1 (element_ends ds at i e l ends) in
      let xs = exact_spread ds at i e n xe.1 ends in
      (an_array n (fields_at n) k at p q i e s m m2 m3 rest xi.0 xe.0 xs.0, xs.1)

  exact_fields : {fs : List FieldTree} {toks rest : Toks} → AreFields fs toks rest → (n : ℕ) → StaysBelow (suc n) toks → EndsAll rest → begins_with words.Pos rest ≡ false → Listing (one_field_at n (base_at n)) fs toks rest × StaysBelow (suc n) rest × (0 < length fs)
  exact_fields (one_field {f = f} {toks = toks} {rest = rest} d) n below ends pos =
      let ih = exact_field d n below ends pos in
      (listing_one (one_field_at n (base_at n)) f toks rest ih.0, ih.1, omega arith)
  exact_fields (and_field {fs = fs} {f = f} {p = p} {toks = toks} {m = m} {rest = rest} l d) n below ends pos =
      let il = exact_fields l n below (record { open_sign = refl; pack = refl; no_pack = refl; step = refl }) refl in
      let id = exact_field d n il.1.1 ends pos in
      (listing_and (one_field_at n (base_at n)) fs f p toks m rest il.0 id.0, id.1, omega (arith, length-append fs (f ∷ [])))

  exact_field : {f : FieldTree} {toks rest : Toks} → IsField f toks rest → (n : ℕ) → StaysBelow (suc n) toks → EndsAll rest → begins_with words.Pos rest ≡ false → (one_field_at n (base_at n) toks ≡ Ok (f, rest)) × StaysBelow (suc n) rest
  exact_field (is_field {ns = ns} {b = b} {w = w} {toks = toks} {m = m} {m2 = m2} {rest = rest} dn db dw) n below ends pos =
      let xn = exact_names dn (suc n) below (base_first db).comma in
      let xb = exact_arrays db n 8 (arrays_few db) xn.1 (base_ends b m2 (place_ends_all dw ends)) in
      let xw = exact_field_place dw n xb.1 pos in
      (a_field n (base_at n) ns b w toks m m2 rest xn.0 xb.0 xw.0, xw.1)

-- a mode of values that nothing goes on with
pub exact_base : {b : BaseTree} {toks rest : Toks} → IsBase b toks rest → (n : ℕ) → StaysBelow (suc n) toks → EndsAll rest → (base_at n toks ≡ Ok (b, rest)) × StaysBelow (suc n) rest
exact_base {b = b} {rest = rest} d n below ends = exact_arrays d n 8 (arrays_few d) below (base_ends b rest ends)

-- ---- modes

a_base_mode : (n : ℕ) (b : BaseTree) (toks rest : Toks) → BaseFirst toks → base_at n toks ≡ Ok (b, rest) → mode_at n toks ≡ Ok (base_mode b, rest)
unfolding mode_at
a_base_mode n b toks rest f h = rw (f.read_word, f.event, f.buffer, h) refl

a_read_mode : (n : ℕ) (at : Pos) (b : BaseTree) (m rest : Toks) → base_at n m ≡ Ok (b, rest) → mode_at n (word at words.Read ∷ m) ≡ Ok (read_mode at b, rest)
unfolding mode_at word_at
a_read_mode n at b m rest h = rw h refl

an_event_mode : (n : ℕ) (at : Pos) (l : Option ExprTree) (m rest : Toks) → length_at n m ≡ Ok (l, rest) → mode_at n (word at words.Event ∷ m) ≡ Ok (event_mode at l, rest)
unfolding mode_at word_at
an_event_mode n at l m rest h = rw h refl

a_buffer_mode : (n : ℕ) (at : Pos) (l : Option ExprTree) (b : BaseTree) (m m2 rest : Toks) → length_at n m ≡ Ok (l, m2) → base_at n m2 ≡ Ok (b, rest) → mode_at n (word at words.Buffer ∷ m) ≡ Ok (buffer_mode at l b, rest)
unfolding mode_at word_at
a_buffer_mode n at l b m m2 rest h g = rw (h, g) refl

pub exact_mode : {x : ModeTree} {toks rest : Toks} → IsMode x toks rest → (n : ℕ) → StaysBelow (suc n) toks → EndsAll rest → (mode_at n toks ≡ Ok (x, rest)) × StaysBelow (suc n) rest
exact_mode (is_base_mode {b = b} {toks = toks} {rest = rest} d) n below ends =
    let x = exact_base d n below ends in
    (a_base_mode n b toks rest (base_first d) x.0, x.1)
exact_mode (is_read_mode {at = at} {b = b} {m = m} {rest = rest} d) n below ends =
    let x = exact_base d n below.1 ends in
    (a_read_mode n at b m rest x.0, x.1)
exact_mode (is_event_mode {at = at} {l = l} {m = m} {rest = rest} d) n below ends =
    let x = exact_length d n below.1 ends.open_sign in
    (an_event_mode n at l m rest x.0, x.1)
exact_mode (is_buffer_mode {at = at} {l = l} {b = b} {m = m} {m2 = m2} {rest = rest} dl db) n below ends =
    let xl = exact_length dl n below.1 (base_first db).open_sign in
    let xb = exact_base db n xl.1 ends in
    (a_buffer_mode n at l b m m2 rest xl.0 xb.0, xb.1)

length_shrinks : {l : Option ExprTree} {toks rest : Toks} → IsLength l toks rest → length rest ≤ length toks
length_shrinks no_length = omega arith
length_shrinks (with_length d) = omega (arith, ranked_shrinks d)

pub mode_shrinks : {x : ModeTree} {toks rest : Toks} → IsMode x toks rest → length rest < length toks
mode_shrinks (is_base_mode d) = base_shrinks d
mode_shrinks (is_read_mode d) = omega (arith, base_shrinks d)
mode_shrinks (is_event_mode d) = omega (arith, length_shrinks d)
mode_shrinks (is_buffer_mode l d) = omega (arith, length_shrinks l, base_shrinks d)

-- a mode begins with no sign
pub mode_first : {x : ModeTree} {toks rest : Toks} → IsMode x toks rest → (begins signs.Equal toks ≡ false) × (begins signs.Comma toks ≡ false)
mode_first (is_base_mode d) = ((base_first d).equal, (base_first d).comma)
mode_first (is_read_mode d) = (refl, refl)
mode_first (is_event_mode d) = (refl, refl)
mode_first (is_buffer_mode l d) = (refl, refl)
