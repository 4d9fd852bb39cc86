-- The names that something needs by what defines it are those that its text uses.
use Rattle.std.proofs.Common.{◌≡◌, List, [], ◌∷◌, ◌++◌, Option, Some, None, refl, sym, ap, ◌∙◌, subst, inl, inr, Contains}
use Rattle.std.specs.Prelude.{map, flat_map}
use Rattle.std.proofs.lemmas.Grind.{flat_map-append}
use Rattle.std.proofs.lemmas.List.{map-append}
use Rattle.chill_tree.specs.declared.tree.name.Name.{Name}
use Rattle.chill_tree.specs.ExprTree.{ExprTree, ExprNodes, RangeTree, RangeNodes, whole, character, text, this_instance, paren, receive, start, tuple, uniform, name, apply, field, prefixed, binary, no_exprs, more_exprs, alone, between, no_ranges, more_ranges}
use Rattle.chill_tree.specs.ModeTree as written
use Rattle.names_model.specs.declared.identifier.Identifier.{Identifier}
use Rattle.names_model.specs.declared.part.Mention.{Mention}
use Rattle.names_model.specs.declared.part.Mention.TheVariants.{Use, Argument, Element}
use Rattle.names_model.specs.Identifiers.{identifier, identifiers}
use Rattle.names_model.specs.ExprMentions.{tuple_mode, begun, callee_of, mentions_as, mentions_in_each, mentions_in_range, mentions_in_ranges, mentions_of, mentions_of_some}
use Rattle.names_model.specs.ModeMentions.{mentions_of_discrete, mentions_of_index, mentions_of_place, mentions_of_some_place, mentions_of_spread, mentions_of_base, mentions_of_fields, mentions_of_mode, mentions_of_some_mode}
use Rattle.names_model.specs.ItemParts.{mentions_of_parts}
use Rattle.names_model.specs.Dependence.{uses_in}
use Rattle.names_laws.proofs.Members.{none_in, here_in, later_in, in_cases}
use Rattle.ground_laws.specs.Rows.{used_in_mention, used_in_mentions}
use Rattle.checks_model.specs.Ground.{Origin, a_synonym, a_mode, an_element, a_location, a_parameter, a_counter, a_received, a_procedure, a_process, a_signal, a_modulion, a_predefined}
use Rattle.table_laws.specs.Names.{some_name, names_in, names_in_each, names_in_range, names_in_ranges, names_in_some, names_in_discrete, names_in_index, names_in_place, names_in_some_place, names_in_spread, names_in_base, names_in_fields, names_in_mode, names_in_some_mode, names_in_modes, names_needed}
use Rattle.written_laws.proofs.Texts.{text_of}

-- what is used in mentions are these names
abbrev Are : List Mention → List Name → Type 0
Are ms ns = used_in_mentions ms ≡ identifiers ns

both : (ms ps : List Mention) (ns ks : List Name) → Are ms ns → Are ps ks → Are (ms ++ ps) (ns ++ ks)
both ms ps ns ks first later =
    flat_map-append used_in_mention ms ps ∙ ap (λ xs. xs ++ used_in_mentions ps) first ∙ ap (λ xs. identifiers ns ++ xs) later ∙ sym (map-append identifier ns ks)

-- ---- expressions

mode_used : (n : Option Name) → Are (tuple_mode n) (some_name n)
mode_used None = refl
mode_used (Some n) = refl

begun_used : (of : Option Name) (n : Name) → Are (begun of n) (n ∷ [])
begun_used None n = refl
begun_used (Some callee) n = refl

mutual
  expr_used : (e : ExprTree) (of : Option Name) → Are (mentions_as of e) (names_in e)
  expr_used (whole at n) of = refl
  expr_used (character at n) of = refl
  expr_used (text at n) of = refl
  expr_used (this_instance at) of = refl
  expr_used (paren at e) of = expr_used e None
  expr_used (receive at n) of = refl
  expr_used (start at n es) of = ap (λ xs. identifier n ∷ xs) (each_used es None)
  expr_used (tuple at m b rs) of = both (tuple_mode m) (mentions_in_ranges rs) (some_name m) (names_in_ranges rs) (mode_used m) (ranges_used rs)
  expr_used (uniform at m b e) of = both (tuple_mode m) (mentions_as None e) (some_name m) (names_in e) (mode_used m) (expr_used e None)
  expr_used (name n) of = begun_used of n
  expr_used (apply at e es) of = both (mentions_as None e) (mentions_in_each (callee_of e) es) (names_in e) (names_in_each es) (expr_used e None) (each_used es (callee_of e))
  expr_used (field at e n) of = expr_used e None
  expr_used (prefixed at o e) of = expr_used e None
  expr_used (binary at l o p r) of = both (mentions_as None l) (mentions_as None r) (names_in l) (names_in r) (expr_used l None) (expr_used r None)

  each_used : (es : ExprNodes) (of : Option Name) → Are (mentions_in_each of es) (names_in_each es)
  each_used no_exprs of = refl
  each_used (more_exprs e es) of = both (mentions_as of e) (mentions_in_each of es) (names_in e) (names_in_each es) (expr_used e of) (each_used es of)

  range_used : (r : RangeTree) → Are (mentions_in_range r) (names_in_range r)
  range_used (alone e) = expr_used e None
  range_used (between l h) = both (mentions_as None l) (mentions_as None h) (names_in l) (names_in h) (expr_used l None) (expr_used h None)

  ranges_used : (rs : RangeNodes) → Are (mentions_in_ranges rs) (names_in_ranges rs)
  ranges_used no_ranges = refl
  ranges_used (more_ranges r rs) = both (mentions_in_range r) (mentions_in_ranges rs) (names_in_range r) (names_in_ranges rs) (range_used r) (ranges_used rs)

pub one_used : (e : ExprTree) → Are (mentions_of e) (names_in e)
one_used e = expr_used e None

two_used : (l h : ExprTree) → Are (mentions_of l ++ mentions_of h) (names_in l ++ names_in h)
two_used l h = both (mentions_of l) (mentions_of h) (names_in l) (names_in h) (one_used l) (one_used h)

some_used : (e : Option ExprTree) → Are (mentions_of_some e) (names_in_some e)
some_used None = refl
some_used (Some e) = one_used e

-- ---- modes

elements_unused : (ns : List Name) → Are (map (λ n. Element (identifier n)) ns) []
elements_unused [] = refl
elements_unused (n ∷ ns) = elements_unused ns

discrete_used : (d : written.DiscreteTree) → Are (mentions_of_discrete d) (names_in_discrete d)
discrete_used (written.named n) = refl
discrete_used (written.bounded n l h) = ap (λ xs. identifier n ∷ xs) (two_used l h)
discrete_used (written.set_of at ns) = elements_unused ns

index_used : (i : written.IndexTree) → Are (mentions_of_index i) (names_in_index i)
index_used (written.index_named n) = refl
index_used (written.index_bounded l h) = two_used l h

place_used : (p : written.PlaceTree) → Are (mentions_of_place p) (names_in_place p)
place_used p = both (mentions_of p.word ++ mentions_of p.start) (mentions_of p.bound) (names_in p.word ++ names_in p.start) (names_in p.bound) (two_used p.word p.start) (one_used p.bound)

some_place_used : (p : Option written.PlaceTree) → Are (mentions_of_some_place p) (names_in_some_place p)
some_place_used None = refl
some_place_used (Some p) = place_used p

spread_used : (s : Option written.SpreadTree) → Are (mentions_of_spread s) (names_in_spread s)
spread_used None = refl
spread_used (Some (written.by_packing p)) = refl
spread_used (Some (written.by_step s)) = both (mentions_of_place s.place) (mentions_of s.distance) (names_in_place s.place) (names_in s.distance) (place_used s.place) (one_used s.distance)

mutual
  base_used : (b : written.BaseTree) → Are (mentions_of_base b) (names_in_base b)
  base_used (written.discrete d) = discrete_used d
  base_used (written.powerset at d) = discrete_used d
  base_used (written.chars at e) = one_used e
  base_used (written.structure at fs p) = fields_used fs
  base_used (written.array at i b s) =
      both (mentions_of_index i ++ mentions_of_base b) (mentions_of_spread s) (names_in_index i ++ names_in_base b) (names_in_spread s)
      (both (mentions_of_index i) (mentions_of_base b) (names_in_index i) (names_in_base b) (index_used i) (base_used b)) (spread_used s)

  fields_used : (fs : written.FieldNodes) → Are (mentions_of_fields fs) (names_in_fields fs)
  fields_used written.no_fields = refl
  fields_used (written.more_fields ns b p fs) =
      both (mentions_of_base b ++ mentions_of_some_place p) (mentions_of_fields fs) (names_in_base b ++ names_in_some_place p) (names_in_fields fs)
      (both (mentions_of_base b) (mentions_of_some_place p) (names_in_base b) (names_in_some_place p) (base_used b) (some_place_used p)) (fields_used fs)

mode_used_in : (w : written.ModeTree) → Are (mentions_of_mode w) (names_in_mode w)
mode_used_in (written.base_mode b) = base_used b
mode_used_in (written.read_mode at b) = base_used b
mode_used_in (written.event_mode at l) = some_used l
mode_used_in (written.buffer_mode at l b) = both (mentions_of_some l) (mentions_of_base b) (names_in_some l) (names_in_base b) (some_used l) (base_used b)

some_mode_used : (w : Option written.ModeTree) → Are (mentions_of_some_mode w) (names_in_some_mode w)
some_mode_used None = refl
some_mode_used (Some w) = mode_used_in w

modes_used : (ws : List written.ModeTree) → Are (flat_map mentions_of_mode ws) (flat_map names_in_mode ws)
modes_used [] = refl
modes_used (w ∷ ws) = both (mentions_of_mode w) (flat_map mentions_of_mode ws) (names_in_mode w) (flat_map names_in_mode ws) (mode_used_in w) (modes_used ws)

parts_used : (ws : Option (List written.ModeTree)) → Are (mentions_of_parts ws) (names_in_modes ws)
parts_used None = refl
parts_used (Some ws) = modes_used ws

-- ---- what defines something

-- a received name has no text of its own
abbrev pub needed_in_text : Origin → List Name
needed_in_text (a_received n count part) = []
needed_in_text o = names_needed o

text_used : (o : Origin) → Are (text_of o) (needed_in_text o)
text_used (a_synonym s) = both (mentions_of_some_mode s.mode) (mentions_of s.value) (names_in_some_mode s.mode) (names_in s.value) (some_mode_used s.mode) (one_used s.value)
text_used (a_mode novel w) = mode_used_in w
text_used (an_element ns part owner) = refl
text_used (a_location d) = mode_used_in d.mode
text_used (a_parameter w) = mode_used_in w
text_used (a_counter c) = refl
text_used (a_received n count part) = refl
text_used (a_procedure p) = some_mode_used p.returns
text_used (a_process p) = refl
text_used (a_signal s) = parts_used s.parts
text_used (a_modulion kind items) = refl
text_used (a_predefined p) = refl

pub in_map : {X Y : Type 0} (f : X → Y) (xs : List X) (x : X) → Contains xs x → Contains (map f xs) (f x)
in_map f [] x c = absurd (none_in x c)
in_map f (y ∷ xs) x c = elim (in_cases y xs x c) [
  | inl is ↦ here_in (f y) (map f xs) (f x) (ap f is)
  | inr there ↦ later_in (f y) (map f xs) (f x) (in_map f xs x there)
]

pub needed_used : (o : Origin) (n : Name) → Contains (needed_in_text o) n → Contains (used_in_mentions (text_of o)) (identifier n)
needed_used o n c = subst (λ xs. Contains xs (identifier n)) (sym (text_used o)) (in_map identifier (needed_in_text o) n c)

-- what is used in mentions is among the names by which they depend on something
pub used_depended : (ms : List Mention) (n : Identifier) → Contains (used_in_mentions ms) n → Contains (uses_in ms) n
used_depended [] n c = absurd (none_in n c)
used_depended (Use m need ∷ ms) n c = elim (in_cases m (used_in_mentions ms) n c) [
  | inl is ↦ here_in m (uses_in ms) n is
  | inr there ↦ later_in m (uses_in ms) n (used_depended ms n there)
]
used_depended (Argument m callee ∷ ms) n c = elim (in_cases m (used_in_mentions ms) n c) [
  | inl is ↦ here_in m (uses_in ms) n is
  | inr there ↦ later_in m (uses_in ms) n (used_depended ms n there)
]
used_depended (Element m ∷ ms) n c = used_depended ms n c
