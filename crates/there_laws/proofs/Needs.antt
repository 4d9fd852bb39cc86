-- What constants and modes need of their names, where this is known of each name.
use Rattle.std.proofs.Common.{◌≡◌, true, List, [], ◌∷◌, ◌++◌, Option, Some, None, refl, sym, true≢false}
use Rattle.std.specs.Prelude.{IsSome}
use Rattle.chill_tree.specs.declared.tree.name.Name.{Name}
use Rattle.chill_tree.specs.ExprTree.{ExprTree, ExprNodes, RangeTree, RangeNodes, whole, character, text, this_instance, paren, receive, start, tuple, uniform, name, apply, field, prefixed, binary, no_exprs, more_exprs, alone, between, no_ranges, more_ranges}
use Rattle.chill_tree.specs.ModeTree as written
use Rattle.modes.specs.ModeTree.{ModeTree}
use Rattle.modes.specs.Form.{FormTree, form_of}
use Rattle.checks_model.specs.Ground.{Ground, Origin, Entry, of_mode, a_mode, a_predefined, origin_of, entry_of, mode_of_name}
use Rattle.checks_model.specs.Operations.{element_of_form, field_of_form}
use Rattle.checks_model.specs.Classes.{Measured, a_mode_of, misfit, other, measured, measured_first, measured_name, measured_part, located, located_name}
use Rattle.class_laws.specs.Known.{HasMode}
use Rattle.table_laws.specs.Names.{some_name, names_in, names_in_each, names_in_range, names_in_ranges, names_in_some, names_in_discrete, names_in_index, names_in_place, names_in_some_place, names_in_spread, names_in_base, names_in_fields, names_in_mode}
use Rattle.there_laws.specs.Constants.{IsMeasurable, HaveConstants, RangeHasConstants, RangesHaveConstants}
use Rattle.there_laws.specs.Modes.{IsNeeded, IsSomeNeeded, DiscreteNeeds, IndexNeeds, PlaceNeeds, SomePlaceNeeds, SpreadNeeds, BaseNeeds, FieldsNeed, ModeNeeds}
use Rattle.there_laws.specs.Table.{stands_for_mode, IsSomeModeName, TuplesNamed, EachTuplesNamed, RangeTuplesNamed, RangesTuplesNamed, SomeTuplesNamed, DiscreteNamed, IndexNamed, PlaceNamed, SomePlaceNamed, SpreadNamed, BaseNamed, FieldsNamed, ModeNamed, IsNameThere}

abbrev pub AreThere : Ground → List Name → Type 0
AreThere g [] = Unit {0}
AreThere g (n ∷ ns) = IsNameThere g n × AreThere g ns

pub there_first : (g : Ground) (ns ks : List Name) → AreThere g (ns ++ ks) → AreThere g ns
there_first g [] ks there = tt
there_first g (n ∷ ns) ks there = (there.0, there_first g ns ks there.1)

pub there_later : (g : Ground) (ns ks : List Name) → AreThere g (ns ++ ks) → AreThere g ks
there_later g [] ks there = there
there_later g (n ∷ ns) ks there = there_later g ns ks there.1

-- ---- what is measured

part_measurable : (part : FormTree → Option ModeTree) (m : Measured) → IsMeasurable m → IsMeasurable (measured_part part m)
part_measurable part (a_mode_of (Some m)) there = by (part (form_of m))
  where
    by : (p : Option ModeTree) → IsMeasurable (elim p [ None ↦ misfit | Some q ↦ a_mode_of (Some q) ])
    by None = tt
    by (Some q) = refl
part_measurable part (a_mode_of None) there = absurd (true≢false (sym there))
part_measurable part misfit there = tt
part_measurable part other there = tt

located_measurable : (g : Ground) (e : ExprTree) → AreThere g (names_in e) → IsMeasurable (located g e)
located_measurable g (name n) there = there.0.located
located_measurable g (apply at e es) there = part_measurable element_of_form (located g e) (located_measurable g e (there_first g (names_in e) (names_in_each es) there))
located_measurable g (field at e n) there = part_measurable (field_of_form n.text) (located g e) (located_measurable g e there)
located_measurable g e there = tt

name_measurable : (own : Option ModeTree) (e : Option Entry) (o : Option Origin) → (stands_for_mode o ≡ true → IsSome own) → IsMeasurable (located_name e o) → IsMeasurable (measured_name own e o)
name_measurable own e (Some (a_mode novel w)) mode there = mode refl
name_measurable own e (Some (a_predefined (of_mode m))) mode there = refl
name_measurable own e o mode there = there

measurable : (g : Ground) (e : ExprTree) → AreThere g (names_in e) → IsMeasurable (measured g e)
measurable g (name n) there = name_measurable (mode_of_name g n) (entry_of g n) (origin_of g n) there.0.mode there.0.located
measurable g e there = located_measurable g e there

first_measurable : (g : Ground) (es : ExprNodes) → AreThere g (names_in_each es) → IsMeasurable (measured_first g es)
first_measurable g no_exprs there = tt
first_measurable g (more_exprs e es) there = measurable g e (there_first g (names_in e) (names_in_each es) there)

-- ---- expressions

has_mode : (g : Ground) (n : Option Name) → AreThere g (some_name n) → IsSomeModeName g n → HasMode g n
has_mode g None there named = tt
has_mode g (Some n) there named = there.0.mode named

mutual
  pub expr_needs : (g : Ground) (e : ExprTree) → AreThere g (names_in e) → TuplesNamed g e → IsNeeded g e
  expr_needs g (whole at n) there named = (tt, tt)
  expr_needs g (character at n) there named = (tt, tt)
  expr_needs g (text at n) there named = (tt, tt)
  expr_needs g (this_instance at) there named = (tt, tt)
  expr_needs g (paren at e) there named = expr_needs g e there named
  expr_needs g (receive at n) there named = (tt, tt)
  expr_needs g (start at n es) there named = (tt, tt)
  expr_needs g (tuple at n b rs) there named = ((has_mode g n (there_first g (some_name n) (names_in_ranges rs) there) named.0, ranges_need g rs (there_later g (some_name n) (names_in_ranges rs) there) named.1), tt)
  expr_needs g (uniform at n b e) there named = ((has_mode g n (there_first g (some_name n) (names_in e) there) named.0, (expr_needs g e (there_later g (some_name n) (names_in e) there) named.1).0), tt)
  expr_needs g (name n) there named = (there.0.value, there.0.shape)
  expr_needs g (apply at e es) there named = let later = there_later g (names_in e) (names_in_each es) there in ((first_measurable g es later, each_need g es later named.1), tt)
  expr_needs g (field at e n) there named = (tt, tt)
  expr_needs g (prefixed at o e) there named = expr_needs g e there named
  expr_needs g (binary at l o p r) there named =
      let left = expr_needs g l (there_first g (names_in l) (names_in r) there) named.0 in
      let right = expr_needs g r (there_later g (names_in l) (names_in r) there) named.1 in
      ((left.0, right.0), (left.1, right.1))

  each_need : (g : Ground) (es : ExprNodes) → AreThere g (names_in_each es) → EachTuplesNamed g es → HaveConstants g es
  each_need g no_exprs there named = tt
  each_need g (more_exprs e es) there named = ((expr_needs g e (there_first g (names_in e) (names_in_each es) there) named.0).0, each_need g es (there_later g (names_in e) (names_in_each es) there) named.1)

  range_needs : (g : Ground) (r : RangeTree) → AreThere g (names_in_range r) → RangeTuplesNamed g r → RangeHasConstants g r
  range_needs g (alone e) there named = (expr_needs g e there named).0
  range_needs g (between l h) there named = ((expr_needs g l (there_first g (names_in l) (names_in h) there) named.0).0, (expr_needs g h (there_later g (names_in l) (names_in h) there) named.1).0)

  ranges_need : (g : Ground) (rs : RangeNodes) → AreThere g (names_in_ranges rs) → RangesTuplesNamed g rs → RangesHaveConstants g rs
  ranges_need g no_ranges there named = tt
  ranges_need g (more_ranges r rs) there named = (range_needs g r (there_first g (names_in_range r) (names_in_ranges rs) there) named.0, ranges_need g rs (there_later g (names_in_range r) (names_in_ranges rs) there) named.1)

some_needs : (g : Ground) (e : Option ExprTree) → AreThere g (names_in_some e) → SomeTuplesNamed g e → IsSomeNeeded g e
some_needs g None there named = tt
some_needs g (Some e) there named = expr_needs g e there named

-- ---- modes

two_need : (g : Ground) (l h : ExprTree) → AreThere g (names_in l ++ names_in h) → TuplesNamed g l × TuplesNamed g h → IsNeeded g l × IsNeeded g h
two_need g l h there named = (expr_needs g l (there_first g (names_in l) (names_in h) there) named.0, expr_needs g h (there_later g (names_in l) (names_in h) there) named.1)

discrete_needs : (g : Ground) (d : written.DiscreteTree) → AreThere g (names_in_discrete d) → DiscreteNamed g d → DiscreteNeeds g d
discrete_needs g (written.named n) there is = there.0.mode is
discrete_needs g (written.bounded n l h) there is = (there.0.mode is.0, two_need g l h there.1 is.1)
discrete_needs g (written.set_of at ns) there is = is

index_needs : (g : Ground) (i : written.IndexTree) → AreThere g (names_in_index i) → IndexNamed g i → IndexNeeds g i
index_needs g (written.index_named n) there is = there.0.mode is
index_needs g (written.index_bounded l h) there is = two_need g l h there is

place_needs : (g : Ground) (p : written.PlaceTree) → AreThere g (names_in_place p) → PlaceNamed g p → PlaceNeeds g p
place_needs g p there is =
    let first = there_first g (names_in p.word ++ names_in p.start) (names_in p.bound) there in
    (expr_needs g p.word (there_first g (names_in p.word) (names_in p.start) first) is.0, (expr_needs g p.start (there_later g (names_in p.word) (names_in p.start) first) is.1.0, expr_needs g p.bound (there_later g (names_in p.word ++ names_in p.start) (names_in p.bound) there) is.1.1))

some_place_needs : (g : Ground) (p : Option written.PlaceTree) → AreThere g (names_in_some_place p) → SomePlaceNamed g p → SomePlaceNeeds g p
some_place_needs g None there is = tt
some_place_needs g (Some p) there is = place_needs g p there is

spread_needs : (g : Ground) (s : Option written.SpreadTree) → AreThere g (names_in_spread s) → SpreadNamed g s → SpreadNeeds g s
spread_needs g None there is = tt
spread_needs g (Some (written.by_packing p)) there is = tt
spread_needs g (Some (written.by_step s)) there is = (place_needs g s.place (there_first g (names_in_place s.place) (names_in s.distance) there) is.0, expr_needs g s.distance (there_later g (names_in_place s.place) (names_in s.distance) there) is.1)

mutual
  base_needs : (g : Ground) (b : written.BaseTree) → AreThere g (names_in_base b) → BaseNamed g b → BaseNeeds g b
  base_needs g (written.discrete d) there is = discrete_needs g d there is
  base_needs g (written.powerset at d) there is = discrete_needs g d there is
  base_needs g (written.chars at e) there is = expr_needs g e there is
  base_needs g (written.structure at fs p) there is = fields_need g fs there is
  base_needs g (written.array at i b s) there is =
      let first = there_first g (names_in_index i ++ names_in_base b) (names_in_spread s) there in
      (index_needs g i (there_first g (names_in_index i) (names_in_base b) first) is.0, (base_needs g b (there_later g (names_in_index i) (names_in_base b) first) is.1.0, spread_needs g s (there_later g (names_in_index i ++ names_in_base b) (names_in_spread s) there) is.1.1))

  fields_need : (g : Ground) (fs : written.FieldNodes) → AreThere g (names_in_fields fs) → FieldsNamed g fs → FieldsNeed g fs
  fields_need g written.no_fields there is = tt
  fields_need g (written.more_fields ns b p fs) there is =
      let first = there_first g (names_in_base b ++ names_in_some_place p) (names_in_fields fs) there in (
        (base_needs g b (there_first g (names_in_base b) (names_in_some_place p) first) is.0.0, some_place_needs g p (there_later g (names_in_base b) (names_in_some_place p) first) is.0.1),
        fields_need g fs (there_later g (names_in_base b ++ names_in_some_place p) (names_in_fields fs) there) is.1,
      )

pub mode_needs : (g : Ground) (w : written.ModeTree) → AreThere g (names_in_mode w) → ModeNamed g w → ModeNeeds g w
mode_needs g (written.base_mode b) there is = base_needs g b there is
mode_needs g (written.read_mode at b) there is = base_needs g b there is
mode_needs g (written.event_mode at l) there is = some_needs g l there is
mode_needs g (written.buffer_mode at l b) there is = (some_needs g l (there_first g (names_in_some l) (names_in_base b) there) is.0, base_needs g b (there_later g (names_in_some l) (names_in_base b) there) is.1)
