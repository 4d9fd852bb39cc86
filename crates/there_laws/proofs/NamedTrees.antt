-- What is so of each mention of an expression or mode makes its names stand for modes where they have to.
use Rattle.std.proofs.Common.{◌≡◌, ℕ, Bool, true, List, [], ◌∷◌, ◌++◌, length, Option, Some, None, refl, true≢false, sym}
use Rattle.std.specs.Prelude.{IsSome, flat_map, option_map}
use Rattle.chill_tree.specs.declared.tree.name.Name.{Name}
use Rattle.chill_tree.specs.ExprTree.{ExprTree, ExprNodes, RangeTree, RangeNodes, whole, character, text, this_instance, paren, receive, start, tuple, uniform, name, apply, field, prefixed, binary, no_exprs, more_exprs, alone, between, no_ranges, more_ranges}
use Rattle.chill_tree.specs.ModeTree as written
use Rattle.modes.specs.ModeTree.{set_of}
use Rattle.names_model.specs.declared.kind.Need.{Need}
use Rattle.names_model.specs.declared.kind.Need.TheVariants as needs
use Rattle.names_model.specs.declared.part.Mention.{Mention}
use Rattle.names_model.specs.declared.part.Mention.TheVariants.{Use, Argument, Element}
use Rattle.names_model.specs.ExprMentions.{tuple_mode, callee_of, mentions_as, mentions_in_each, mentions_in_range, mentions_in_ranges, mentions_of, mentions_of_some}
use Rattle.names_model.specs.ItemParts.{mentions_of_parts}
use Rattle.names_model.specs.ModeMentions.{mentions_of_discrete, mentions_of_index, mentions_of_place, mentions_of_some_place, mentions_of_spread, mentions_of_base, mentions_of_fields, mentions_of_mode, mentions_of_some_mode}
use Rattle.checks_model.specs.Ground.{Ground, Origin, a_synonym, a_mode, a_location, a_parameter, a_procedure, a_signal, origin_at, number_at}
use Rattle.checks_model.specs.Origins.{set_in_discrete, sets_in_base, sets_in_fields, sets_in}
use Rattle.checks_model.specs.WrittenModes.{set_named}
use Rattle.written_laws.specs.Written.{Each}
use Rattle.written_laws.proofs.ShownMode.{has_some, IsFilledDiscrete, IsFilledBase, AreFilled, IsFilled}
use Rattle.written_laws.proofs.ShownLocal.{IsSomeFilled, AreSomeFilled, IsShaped}
use Rattle.written_laws.proofs.Sets.{sets_of, sets_of_some, sets_of_parts}
use Rattle.written_laws.proofs.Texts.{AllPass, TextPasses}
use Rattle.there_laws.specs.Table.{stands_for_mode, IsSomeModeName, TuplesNamed, EachTuplesNamed, RangeTuplesNamed, RangesTuplesNamed, SomeTuplesNamed, DiscreteNamed, IndexNamed, PlaceNamed, SomePlaceNamed, SpreadNamed, BaseNamed, FieldsNamed, ModeNamed, SomeModeNamed, EachModeNamed, SomeModesNamed}
use Rattle.there_laws.specs.Plain.{IsNamedSo}

abbrev pub needed_so : Need → Bool → Bool
needed_so needs.Mode is_mode = is_mode
needed_so need is_mode = true

-- a name where a mode is needed stands for one
abbrev pub is_so : Ground → Mention → Bool
is_so g (Use n need) = needed_so need (stands_for_mode (origin_at g n.at))
is_so g (Argument n callee) = true
is_so g (Element n) = true

abbrev AreSo : Ground → List Mention → Type 0
AreSo g ms = AllPass (is_so g) ms

so_first : (g : Ground) (ms ns : List Mention) → AreSo g (ms ++ ns) → AreSo g ms
so_first g [] ns so = tt
so_first g (m ∷ ms) ns so = (so.0, so_first g ms ns so.1)

so_later : (g : Ground) (ms ns : List Mention) → AreSo g (ms ++ ns) → AreSo g ns
so_later g [] ns so = so
so_later g (m ∷ ms) ns so = so_later g ms ns so.1

-- ---- expressions

head_named : (g : Ground) (n : Option Name) (ms : List Mention) → AreSo g (tuple_mode n ++ ms) → IsSomeModeName g n × AreSo g ms
head_named g None ms so = (tt, so)
head_named g (Some n) ms so = (so.0, so.1)

mutual
  expr_named : (g : Ground) (e : ExprTree) (of : Option Name) → AreSo g (mentions_as of e) → TuplesNamed g e
  expr_named g (whole at n) of so = tt
  expr_named g (character at n) of so = tt
  expr_named g (text at n) of so = tt
  expr_named g (this_instance at) of so = tt
  expr_named g (paren at e) of so = expr_named g e None so
  expr_named g (receive at n) of so = tt
  expr_named g (start at n es) of so = each_named g es None so.1
  expr_named g (tuple at n b rs) of so = let h = head_named g n (mentions_in_ranges rs) so in (h.0, ranges_named g rs h.1)
  expr_named g (uniform at n b e) of so = let h = head_named g n (mentions_as None e) so in (h.0, expr_named g e None h.1)
  expr_named g (name n) of so = tt
  expr_named g (apply at e es) of so =
      let first = mentions_as None e in
      let later = mentions_in_each (callee_of e) es in
      (expr_named g e None (so_first g first later so), each_named g es (callee_of e) (so_later g first later so))
  expr_named g (field at e n) of so = expr_named g e None so
  expr_named g (prefixed at o e) of so = expr_named g e None so
  expr_named g (binary at l o p r) of so = (expr_named g l None (so_first g (mentions_as None l) (mentions_as None r) so), expr_named g r None (so_later g (mentions_as None l) (mentions_as None r) so))

  each_named : (g : Ground) (es : ExprNodes) (of : Option Name) → AreSo g (mentions_in_each of es) → EachTuplesNamed g es
  each_named g no_exprs of so = tt
  each_named g (more_exprs e es) of so = (expr_named g e of (so_first g (mentions_as of e) (mentions_in_each of es) so), each_named g es of (so_later g (mentions_as of e) (mentions_in_each of es) so))

  range_named : (g : Ground) (r : RangeTree) → AreSo g (mentions_in_range r) → RangeTuplesNamed g r
  range_named g (alone e) so = expr_named g e None so
  range_named g (between l h) so = (expr_named g l None (so_first g (mentions_as None l) (mentions_as None h) so), expr_named g h None (so_later g (mentions_as None l) (mentions_as None h) so))

  ranges_named : (g : Ground) (rs : RangeNodes) → AreSo g (mentions_in_ranges rs) → RangesTuplesNamed g rs
  ranges_named g no_ranges so = tt
  ranges_named g (more_ranges r rs) so = (range_named g r (so_first g (mentions_in_range r) (mentions_in_ranges rs) so), ranges_named g rs (so_later g (mentions_in_range r) (mentions_in_ranges rs) so))

one_named : (g : Ground) (e : ExprTree) → AreSo g (mentions_of e) → TuplesNamed g e
one_named g e so = expr_named g e None so

two_named : (g : Ground) (l h : ExprTree) → AreSo g (mentions_of l ++ mentions_of h) → TuplesNamed g l × TuplesNamed g h
two_named g l h so = (one_named g l (so_first g (mentions_of l) (mentions_of h) so), one_named g h (so_later g (mentions_of l) (mentions_of h) so))

some_named : (g : Ground) (e : Option ExprTree) → AreSo g (mentions_of_some e) → SomeTuplesNamed g e
some_named g None so = tt
some_named g (Some e) so = one_named g e so

-- ---- modes

-- the first element of a SET is defined
abbrev pub IsSetDefined : Ground → List Name → Type 0
IsSetDefined g [] = Unit {0}
IsSetDefined g (n ∷ ns) = IsSome (number_at g.defined n.at)

abbrev pub AreSetsDefined : Ground → List (List Name) → Type 0
AreSetsDefined g sets = Each (IsSetDefined g) sets

sets_first : (g : Ground) (xs ys : List (List Name)) → AreSetsDefined g (xs ++ ys) → AreSetsDefined g xs
sets_first g [] ys defined = tt
sets_first g (x ∷ xs) ys defined = (defined.0, sets_first g xs ys defined.1)

sets_later : (g : Ground) (xs ys : List (List Name)) → AreSetsDefined g (xs ++ ys) → AreSetsDefined g ys
sets_later g [] ys defined = defined
sets_later g (x ∷ xs) ys defined = sets_later g xs ys defined.1

set_there : (g : Ground) (ns : List Name) → has_some ns ≡ true → IsSetDefined g ns → IsSome (set_named g ns)
set_there g [] some defined = absurd (true≢false (sym some))
set_there g (n ∷ ns) some defined = by (number_at g.defined n.at) defined
  where
    by : (k : Option ℕ) → IsSome k → IsSome (option_map (λ first. set_of first (length (n ∷ ns))) k)
    by None there = absurd (true≢false (sym there))
    by (Some k) there = refl

discrete_named : (g : Ground) (d : written.DiscreteTree) → IsFilledDiscrete d → AreSetsDefined g (set_in_discrete d) → AreSo g (mentions_of_discrete d) → DiscreteNamed g d
discrete_named g (written.named n) filled defined so = so.0
discrete_named g (written.bounded n l h) filled defined so = (so.0, two_named g l h so.1)
discrete_named g (written.set_of at ns) filled defined so = set_there g ns filled defined.0

index_named : (g : Ground) (i : written.IndexTree) → AreSo g (mentions_of_index i) → IndexNamed g i
index_named g (written.index_named n) so = so.0
index_named g (written.index_bounded l h) so = two_named g l h so

place_named : (g : Ground) (p : written.PlaceTree) → AreSo g (mentions_of_place p) → PlaceNamed g p
place_named g p so =
    let first = mentions_of p.word ++ mentions_of p.start in
    let two = two_named g p.word p.start (so_first g first (mentions_of p.bound) so) in
    (two.0, (two.1, one_named g p.bound (so_later g first (mentions_of p.bound) so)))

some_place_named : (g : Ground) (p : Option written.PlaceTree) → AreSo g (mentions_of_some_place p) → SomePlaceNamed g p
some_place_named g None so = tt
some_place_named g (Some p) so = place_named g p so

spread_named : (g : Ground) (s : Option written.SpreadTree) → AreSo g (mentions_of_spread s) → SpreadNamed g s
spread_named g None so = tt
spread_named g (Some (written.by_packing p)) so = tt
spread_named g (Some (written.by_step s)) so =
    (place_named g s.place (so_first g (mentions_of_place s.place) (mentions_of s.distance) so), one_named g s.distance (so_later g (mentions_of_place s.place) (mentions_of s.distance) so))

mutual
  base_named : (g : Ground) (b : written.BaseTree) → IsFilledBase b → AreSetsDefined g (sets_in_base b) → AreSo g (mentions_of_base b) → BaseNamed g b
  base_named g (written.discrete d) filled defined so = discrete_named g d filled defined so
  base_named g (written.powerset at d) filled defined so = discrete_named g d filled defined so
  base_named g (written.chars at e) filled defined so = one_named g e so
  base_named g (written.structure at fs p) filled defined so = fields_named g fs filled.1 defined so
  base_named g (written.array at i b s) filled defined so =
      let first = mentions_of_index i ++ mentions_of_base b in
      let two = so_first g first (mentions_of_spread s) so in (
        index_named g i (so_first g (mentions_of_index i) (mentions_of_base b) two),
        (base_named g b filled defined (so_later g (mentions_of_index i) (mentions_of_base b) two), spread_named g s (so_later g first (mentions_of_spread s) so)),
      )

  fields_named : (g : Ground) (fs : written.FieldNodes) → AreFilled fs → AreSetsDefined g (sets_in_fields fs) → AreSo g (mentions_of_fields fs) → FieldsNamed g fs
  fields_named g written.no_fields filled defined so = tt
  fields_named g (written.more_fields ns b p fs) filled defined so =
      let first = mentions_of_base b ++ mentions_of_some_place p in
      let own = so_first g first (mentions_of_fields fs) so in (
        (
          base_named g b filled.0 (sets_first g (sets_in_base b) (sets_in_fields fs) defined) (so_first g (mentions_of_base b) (mentions_of_some_place p) own),
          some_place_named g p (so_later g (mentions_of_base b) (mentions_of_some_place p) own),
        ),
        fields_named g fs filled.1 (sets_later g (sets_in_base b) (sets_in_fields fs) defined) (so_later g first (mentions_of_fields fs) so),
      )

mode_named : (g : Ground) (w : written.ModeTree) → IsFilled w → AreSetsDefined g (sets_in w) → AreSo g (mentions_of_mode w) → ModeNamed g w
mode_named g (written.base_mode b) filled defined so = base_named g b filled defined so
mode_named g (written.read_mode at b) filled defined so = base_named g b filled defined so
mode_named g (written.event_mode at l) filled defined so = some_named g l so
mode_named g (written.buffer_mode at l b) filled defined so =
    (some_named g l (so_first g (mentions_of_some l) (mentions_of_base b) so), base_named g b filled defined (so_later g (mentions_of_some l) (mentions_of_base b) so))

some_mode_named : (g : Ground) (w : Option written.ModeTree) → IsSomeFilled w → AreSetsDefined g (sets_of_some w) → AreSo g (mentions_of_some_mode w) → SomeModeNamed g w
some_mode_named g None filled defined so = tt
some_mode_named g (Some w) filled defined so = mode_named g w filled defined so

each_mode_named : (g : Ground) (ws : List written.ModeTree) → Each IsFilled ws → AreSetsDefined g (flat_map sets_in ws) → AreSo g (flat_map mentions_of_mode ws) → EachModeNamed g ws
each_mode_named g [] filled defined so = tt
each_mode_named g (w ∷ ws) filled defined so = (
  mode_named g w filled.0 (sets_first g (sets_in w) (flat_map sets_in ws) defined) (so_first g (mentions_of_mode w) (flat_map mentions_of_mode ws) so),
  each_mode_named g ws filled.1 (sets_later g (sets_in w) (flat_map sets_in ws) defined) (so_later g (mentions_of_mode w) (flat_map mentions_of_mode ws) so),
)

parts_named : (g : Ground) (ws : Option (List written.ModeTree)) → AreSomeFilled ws → AreSetsDefined g (sets_of_parts ws) → AreSo g (mentions_of_parts ws) → SomeModesNamed g ws
parts_named g None filled defined so = tt
parts_named g (Some ws) filled defined so = each_mode_named g ws filled defined so

-- ---- what defines something

pub named_so : (g : Ground) (o : Origin) → IsShaped o → AreSetsDefined g (sets_of o) → TextPasses (is_so g) o → IsNamedSo g o
named_so g (a_synonym s) shaped defined so =
    let mode = mentions_of_some_mode s.mode in
    (some_mode_named g s.mode shaped.0 defined (so_first g mode (mentions_of s.value) so), one_named g s.value (so_later g mode (mentions_of s.value) so))
named_so g (a_mode novel w) shaped defined so = mode_named g w shaped defined so
named_so g (a_location d) shaped defined so = mode_named g d.mode shaped defined so
named_so g (a_parameter w) shaped defined so = mode_named g w shaped defined so
named_so g (a_procedure p) shaped defined so = some_mode_named g p.returns shaped defined so
named_so g (a_signal s) shaped defined so = parts_named g s.parts shaped defined so
named_so g o shaped defined so = tt
