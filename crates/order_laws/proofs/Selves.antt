-- No definition of a text that breaks no rule on names leads to itself. Where a way leads from one back to it, a synonym or a mode on it
-- depends on itself, or all on it are locations, or a parameter on it stands deeper than what comes behind; a received name is on none.
use Rattle.std.proofs.Common.{◌≡◌, ◌<◌, ◌≤◌, ℕ, zero, suc, ◌+◌, Bool, true, false, ◌&&◌, ◌||◌, List, [], ◌∷◌, ◌++◌, Option, Some, None, ◌⊎◌, inl, inr, length, length-append, refl, sym, ap, ◌∙◌, subst, arith, true≢false, Contains}
use Rattle.std.specs.Prelude.{map, flat_map, slice_get, slice_index_or, option_and_then, option_map, if◌then◌else◌}
use Rattle.std.proofs.lemmas.Option.{slice_get-map}
use Rattle.std.proofs.lemmas.Bool.{cases_lt}
use Rattle.std.proofs.lemmas.List.{length-map}
use Rattle.diagnostics.specs.declared.diagnostic.Diagnostic.{Diagnostic}
use Rattle.cycles.specs.declared.edge.Edge.{Edge}
use Rattle.cycles.specs.declared.group.Group.{Group}
use Rattle.cycles.specs.Depends.{Depends, directly}
use Rattle.cycles.specs.Depends as ways
use Rattle.cycles.specs.Groups.{edge, group_edges, edges_of}
use Rattle.cycles.specs.Testing.{depends_on}
use Rattle.cycles.proofs.Testing.{tests}
use Rattle.chill_tree.specs.declared.tree.name.Name.{Name}
use Rattle.chill_tree.specs.ItemTree.{ProgramTree}
use Rattle.names_model.specs.declared.definition.Definition.{Definition}
use Rattle.names_model.specs.declared.kind.Kind.{Kind}
use Rattle.names_model.specs.declared.kind.Kind.TheVariants as kinds
use Rattle.names_model.specs.declared.kind.Need.TheVariants as uses
use Rattle.names_model.specs.declared.part.Mention.{Mention}
use Rattle.names_model.specs.declared.part.Mention.TheVariants.{Use, Argument, Element}
use Rattle.names_model.specs.Identifiers.{identifier}
use Rattle.names_model.specs.Kinds.{is_constant, is_location, is_message}
use Rattle.names_model.specs.Parts.{PartNodes}
use Rattle.names_model.specs.Definitions.{predefined, with_predefined, numbers_on, kind_of, is_of, is_kind_at}
use Rattle.names_model.specs.Seeing.{outermost, sees}
use Rattle.names_model.specs.NameRules.{Node, nodes, told_in, told_surplus}
use Rattle.names_model.specs.Dependence.{group, groups_of, groups_in, locations_in, among_locations, is_self, told_self, told_selves}
use Rattle.names_model.specs.Resolving.{told_of_names, level_of}
use Rattle.names_laws.proofs.Members.{none_in, here_in, later_in, in_cases, in_filter, in_flat_map, flat_map_in}
use Rattle.names_laws.proofs.Seen.{seeing}
use Rattle.ground_laws.specs.Defining.{Defines, AllDefine}
use Rattle.ground_laws.proofs.Rows.{each_use}
use Rattle.ground_laws.proofs.Defining.{origins_define}
use Rattle.checks_model.specs.Ground.{Ground, Origin, Entry, a_synonym, a_mode, an_element, a_location, a_parameter, a_counter, a_received, a_procedure, a_process, a_signal, a_modulion, a_predefined, origin_of, number_at}
use Rattle.checks_model.specs.Origins.{text_origins, predefined_origins, in_both_cases, origins_of}
use Rattle.checks_model.specs.Table.{ground_with}
use Rattle.checks_model.specs.Diagnoses.{HasNames}
use Rattle.table_laws.specs.Frames.{is_read}
use Rattle.elaborated_laws.proofs.Told.{none_first, none_later, no_some, same_some}
use Rattle.written_laws.specs.Written.{Each}
use Rattle.written_laws.proofs.Shown.{each_any, each_flat}
use Rattle.written_laws.proofs.Texts.{TextPasses}
use Rattle.written_laws.proofs.Rows.{same_length, is_parameter, row_of, rows_in}
use Rattle.written_laws.proofs.Defining.{program_rows, program_sized, program_passing}
use Rattle.written_laws.proofs.WrittenSo.{none_listed, each_there, each_predefined}
use Rattle.written_laws.proofs.Mentioned.{definitions_of, use_stands, is_resolved, HoldsWhereUntold, program_passes}
use Rattle.order_laws.specs.Orders.{some_number, read_number, needed_by, needs, LeadsTo, at_once, through}
use Rattle.order_laws.specs.Texts.{NoneItselfLaw, TextOrderLaw}
use Rattle.order_laws.proofs.Numbered.{EachAt, at_number}
use Rattle.order_laws.proofs.Used.{needed_in_text, needed_used}
use Rattle.order_laws.proofs.Depths.{depths_in, Stand, LanguageOutside, SeesWithin, outermost_within}
use Rattle.order_laws.proofs.Depths as depths
use Rattle.order_laws.proofs.Nodes.{NodeOf, HasNodes, parts_nodes}
use Rattle.order_laws.proofs.Nodes as rows
use Rattle.order_laws.proofs.Orders.{some_order}

-- ---- edges

in_map : {X Y : Type 0} (f : X → Y) (xs : List X) (x : X) → Contains xs x → Contains (map f xs) (f x)
in_map f [] x c = absurd (none_in x c)
in_map f (y ∷ xs) x c = elim (in_cases y xs x c) [
  | inl is ↦ here_in (f y) (map f xs) (f x) (ap f is)
  | inr there ↦ later_in (f y) (map f xs) (f x) (in_map f xs x there)
]

edge_among : (gs : List Group) (g : Group) (d e : ℕ) → Contains gs g → Contains g.from d → Contains g.to e → Contains (edges_of gs) (edge d e)
edge_among gs g d e has from to = in_flat_map group_edges gs g (edge d e) has (in_flat_map (λ v. map (edge v) g.to) g.from d (edge d e) from (in_map (edge d) g.to e to))

location_edge : (all : List Definition) (gs : List Group) (g : Group) (d e : ℕ) → Contains gs g → Contains g.from d → Contains g.to e → is_kind_at is_location all d ≡ true → is_kind_at is_location all e ≡ true → Contains (edges_of (among_locations all gs)) (edge d e)
location_edge all gs g d e has from to first later =
    let narrow : Group → Group = λ h. group (locations_in all h.from) (locations_in all h.to) in
    edge_among (among_locations all gs) (narrow g) d e (in_map narrow gs g has) (in_filter (is_kind_at is_location all) g.from d from first) (in_filter (is_kind_at is_location all) g.to e to later)

chained : {es : List Edge} {v w u : ℕ} → Depends es v w → Depends es w u → Depends es v u
chained (directly c) later = ways.through c later
chained (ways.through c first) later = ways.through c (chained first later)

-- ---- depths

pub default_past : (xs : List ℕ) (k : ℕ) → length xs ≤ k → slice_index_or xs k 0 ≡ 0
default_past [] k past = refl
default_past (x ∷ xs) zero past = absurd (omega arith)
default_past (x ∷ xs) (suc k) past = default_past xs k (omega arith)

-- a function that has these depths from a number on
pub stands_from : (f : ℕ → ℕ) (from : ℕ) (xs : List ℕ) → ((k : ℕ) → f (from + k) ≡ slice_index_or xs k 0) → Stand f from xs
stands_from f from [] same = tt
stands_from f from (x ∷ xs) same = (
  (let none : from + 0 ≡ from = omega arith in subst (λ d. f d ≡ x) none (same 0)),
  stands_from f (suc from) xs (λ k. let next : from + suc k ≡ suc from + k = omega arith in subst (λ d. f d ≡ slice_index_or xs k 0) next (same (suc k))),
)

-- ---- origins and definitions

pub definition_there : (os : List Origin) (ds : List Definition) (k : ℕ) (o : Origin) → AllDefine os ds → slice_get os k ≡ Some o → (d : Definition) × ((slice_get ds k ≡ Some d) × Defines o d)
definition_there [] [] k o all at = no_some o at
definition_there [] (e ∷ ds) k o all at = absurd all
definition_there (p ∷ os) [] k o all at = absurd all
definition_there (p ∷ os) (e ∷ ds) zero o all at = (e, (refl, subst (λ x. Defines x e) (same_some p o at) all.0))
definition_there (p ∷ os) (e ∷ ds) (suc k) o all at = definition_there os ds k o all.1 at

pub got_append : {A : Type 0} (xs ys : List A) (k : ℕ) (x : A) → slice_get (xs ++ ys) k ≡ Some x → (slice_get xs k ≡ Some x) ⊎ Contains ys x
got_append [] [] k x is = no_some x is
got_append [] (y ∷ ys) zero x is = inr (here_in y ys x (same_some y x is))
got_append [] (y ∷ ys) (suc k) x is = elim (got_append [] ys k x is) [
  | inl first ↦ no_some x first
  | inr there ↦ inr (later_in y ys x there)
]
got_append (z ∷ xs) ys zero x is = inl is
got_append (z ∷ xs) ys (suc k) x is = got_append xs ys k x is

pub got_below : {A : Type 0} (xs : List A) (k : ℕ) (x : A) → slice_get xs k ≡ Some x → k < length xs
got_below [] k x is = no_some x is
got_below (y ∷ xs) zero x is = omega arith
got_below (y ∷ xs) (suc k) x is = let less = got_below xs k x is in omega (arith, less)

got_at : {A : Type 0} (xs : List A) (k : ℕ) → k < length xs → (x : A) × (slice_get xs k ≡ Some x)
got_at [] k less = absurd (omega arith)
got_at (y ∷ xs) zero less = (y, refl)
got_at (y ∷ xs) (suc k) less = got_at xs k (omega arith)

got_front : {A : Type 0} (xs ys : List A) (k : ℕ) (x : A) → slice_get xs k ≡ Some x → slice_get (xs ++ ys) k ≡ Some x
got_front [] ys k x is = no_some x is
got_front (y ∷ xs) ys zero x is = is
got_front (y ∷ xs) ys (suc k) x is = got_front xs ys k x is

each_in : {A : Type 0} (P : A → Type 0) (xs : List A) (x : A) → Each P xs → Contains xs x → P x
each_in P [] x each c = absurd (none_in x c)
each_in P (y ∷ xs) x each c = elim (in_cases y xs x c) [
  | inl is ↦ subst P is each.0
  | inr there ↦ each_in P xs x each.1 there
]

-- what needs nothing by itself
abbrev NeedsNothing : Origin → Type 0
NeedsNothing (a_predefined p) = Unit {0}
NeedsNothing o = ⊥

predefined_alone : Each NeedsNothing predefined_origins
predefined_alone = each_flat (λ p. Unit {0}) NeedsNothing in_both_cases (λ p fits. (tt, (tt, tt))) each_predefined (each_any (λ p. Unit {0}) (λ p. tt) each_predefined)

kind_there : (test : Kind → Bool) (ds : List Definition) (k : ℕ) (d : Definition) (kind : Kind) → slice_get ds k ≡ Some d → d.kind ≡ kind → test kind ≡ true → is_kind_at test ds k ≡ true
kind_there test ds k d kind at is holds = subst (λ x. is_of test (kind_of x) ≡ true) (sym at) (subst (λ x. test x ≡ true) (sym is) holds)

numbered_below : (from count d : ℕ) → from ≤ d → d < from + count → Contains (numbers_on from count) d
numbered_below from zero d low high = absurd (omega arith)
numbered_below from (suc count) d low high = elim (cases_lt from d) [
  | inl less ↦ later_in from (numbers_on (suc from) count) d (numbered_below (suc from) count d less (omega arith))
  | inr more ↦ here_in from (numbers_on (suc from) count) d (omega arith)
]

-- nothing is told of one
none_of : {X : Type 0} (f : X → List Diagnostic) (xs : List X) (x : X) → flat_map f xs ≡ [] → Contains xs x → f x ≡ []
none_of f [] x none c = absurd (none_in x c)
none_of f (y ∷ xs) x none c = elim (in_cases y xs x c) [
  | inl is ↦ subst (λ z. f z ≡ []) is (none_first (f y) (flat_map f xs) none)
  | inr there ↦ none_of f xs x (none_later (f y) (flat_map f xs) none) there
]

untold_self : (self : Bool) (d : Definition) → told_self self (Some d) ≡ [] → self ≡ true → ⊥
untold_self true d none is = cc
untold_self false d none is = true≢false (sym is)

or_first : (a b : Bool) → a ≡ true → (a || b) ≡ true
or_first true b is = refl
or_first false b is = absurd (true≢false (sym is))

or_second : (a b : Bool) → b ≡ true → (a || b) ≡ true
or_second true b is = refl
or_second false b is = is

and_both : (a b : Bool) → a ≡ true → b ≡ true → (a && b) ≡ true
and_both true b first later = later
and_both false b first later = first

abbrev is_received : Option Origin → Bool
is_received (Some (a_received n count part)) = true
is_received _ = false

module _ (text_of_t : List ℕ) (t : ProgramTree) (es : List Entry) (has : HasNames text_of_t t) where
  abbrev g : Ground
  g = ground_with t es

  abbrev pub level : PartNodes
  level = level_of t

  abbrev pub text : List Definition
  text = definitions_of t

  abbrev all : List Definition
  all = with_predefined (definitions_of t)

  abbrev pub every : List Node
  every = nodes (outermost (level_of t)) 0 (level_of t)

  abbrev groups : List Group
  groups = groups_in (definitions_of t) (outermost (level_of t)) 0 (level_of t)

  abbrev edges : List Edge
  edges = edges_of (groups_in (definitions_of t) (outermost (level_of t)) 0 (level_of t))

  abbrev between_locations : List Edge
  between_locations = edges_of (among_locations (with_predefined (definitions_of t)) (groups_in (definitions_of t) (outermost (level_of t)) 0 (level_of t)))

  -- ---- how deep definitions stand

  pub deep : ℕ → ℕ
  deep d = slice_index_or (depths_in 0 (level_of t)) d 0

  pub deep_stands : Stand deep 0 (depths_in 0 level)
  unfolding deep
  deep_stands = stands_from deep 0 (depths_in 0 level) (λ k. let same : 0 + k ≡ k = omega arith in ap (λ d. slice_index_or (depths_in 0 (level_of t)) d 0) same)

  pub same_counts : length text ≡ length (depths_in 0 level)
  same_counts =
      let defined = same_length (origins_of t) all (origins_define t) in
      let first = length-append (text_origins t) predefined_origins in
      let later = length-append text predefined in
      let language : length predefined_origins ≡ length predefined = refl in
      let listed : length (map row_of (text_origins t)) ≡ length (rows_in level) = ap length (program_rows t) in
      let mapped : length (map row_of (text_origins t)) ≡ length (text_origins t) = length-map (text_origins t) row_of in
      let of_rows = rows.parts_length level (program_sized t) in
      let of_depths = depths.parts_length 0 level (program_sized t) in
      omega (arith, defined, first, later, language, listed, mapped, of_rows, of_depths)

  pub outside : LanguageOutside deep text
  unfolding deep
  outside d is = let same = same_counts in let behind = is.behind in let none = default_past (depths_in 0 level) d (omega (arith, same, behind)) in omega (arith, none)

  each_row : EachAt (HasNodes text every deep outside) 0 (rows_in level)
  each_row = parts_nodes text every deep outside level (outermost level) 0 0 (program_sized t) deep_stands (outermost_within deep text level (program_sized t) deep_stands outside) (λ k c. c)

  -- ---- one step

  record Step (d e : ℕ) : Type 0 where
    group : Group
    has_group : Contains groups group
    from : Contains group.from d
    to : Contains group.to e
    near : deep e ≤ deep d

  -- what a definition needs by what defines it
  record NeedsBy (o : Origin) (d e : ℕ) : Type 0 where
    at : slice_get (text_origins t) d ≡ Some o
    read : is_read (slice_get (origins_of t) e) ≡ true
    step : Step d e
    nearer : is_parameter o ≡ true → deep e < deep d

  one_number : (k : Option ℕ) (e : ℕ) → Contains (some_number k) e → k ≡ Some e
  one_number None e c = absurd (none_in e c)
  one_number (Some d) e c = elim (in_cases d [] e c) [
    | inl is ↦ ap Some is
    | inr there ↦ absurd (none_in e there)
  ]

  -- a name that is read stands for what is needed
  record IsRead (n : Name) (e : ℕ) : Type 0 where
    number : number_at g.uses n.at ≡ Some e
    read : is_read (slice_get (origins_of t) e) ≡ true

  read_in : (n : Name) (e : ℕ) → Contains (read_number g n) e → IsRead n e
  read_in n e c = by (is_read (origin_of g n)) refl c
    where
      by : (b : Bool) → is_read (origin_of g n) ≡ b → Contains (if b then some_number (number_at g.uses n.at) else []) e → IsRead n e
      by true is c = let at = one_number (number_at g.uses n.at) e c in record { number = at; read = subst (λ k. is_read (option_and_then (slice_get (origins_of t)) k) ≡ true) at is }
      by false is c = absurd (none_in e c)

  has_row : (d : ℕ) (o : Origin) → slice_get (text_origins t) d ≡ Some o → HasNodes text every deep outside d (row_of o)
  has_row d o at =
      let mapped : slice_get (rows_in level) d ≡ Some (row_of o) = ap (λ rs. slice_get rs d) (sym (program_rows t)) ∙ slice_get-map row_of (text_origins t) d ∙ ap (option_map row_of) at in
      let same : 0 + d ≡ d = omega arith in
      subst (λ k. HasNodes text every deep outside k (row_of o)) same (at_number (HasNodes text every deep outside) 0 d (rows_in level) (row_of o) each_row mapped)

  name_step : (d e : ℕ) (o : Origin) (n : Name) → slice_get (text_origins t) d ≡ Some o → Contains (needed_in_text o) n → IsRead n e → NeedsBy o d e
  name_step d e o n at needed read =
      let of = has_row d o at (identifier n) (needed_used o n needed) in
      let row = each_use has.has_tree.tokens t of.at (identifier n) (is_resolved text_of_t t has) (record { is_node = of.is_node; is_used = of.is_used }) in
      let same : row.number ≡ e = same_some row.number e (sym row.has_row ∙ read.number) in
      let seen : Contains (sees text of.at.reach n.text) e = subst (λ xs. Contains xs e) (sym row.is_seen) (here_in row.number [] e same) in
      let relation = (seeing text of.at.reach n.text e).0 seen in
      let dependence = of.dependence e seen in
      record {
        at = at;
        read = read.read;
        step = record { group = dependence.0; has_group = in_flat_map (λ (k : Node). groups_of text k.reach k.from k.part) every of.at dependence.0 of.is_node dependence.1; from = dependence.2.0; to = dependence.2.1; near = of.near e relation.0 };
        nearer = λ param. of.nearer param e relation.0;
      }

  -- what is needed of names is read
  by_names : (d e : ℕ) (o : Origin) → slice_get (text_origins t) d ≡ Some o → Contains (flat_map (read_number g) (needed_in_text o)) e → NeedsBy o d e
  by_names d e o at c = let h = flat_map_in (read_number g) (needed_in_text o) e c in name_step d e o h.0 at h.1 (read_in h.0 e h.2)

  -- a definition that isn't predefined stands in the text
  pub in_text : (d : ℕ) (o : Origin) → slice_get (origins_of t) d ≡ Some o → (NeedsNothing o → ⊥) → slice_get (text_origins t) d ≡ Some o
  in_text d o at some = elim (got_append (text_origins t) predefined_origins d o at) [
    | inl first ↦ first
    | inr language ↦ absurd (some (each_in NeedsNothing predefined_origins o predefined_alone language))
  ]

  needs_by : (d e : ℕ) (o : Origin) → slice_get (origins_of t) d ≡ Some o → is_received (Some o) ≡ false → Contains (needed_by g (Some o)) e → NeedsBy o d e
  needs_by d e (a_synonym s) at apart c = by_names d e (a_synonym s) (in_text d (a_synonym s) at (λ none. none)) c
  needs_by d e (a_mode novel w) at apart c = by_names d e (a_mode novel w) (in_text d (a_mode novel w) at (λ none. none)) c
  needs_by d e (an_element ns part owner) at apart c = absurd (none_in e c)
  needs_by d e (a_location l) at apart c = by_names d e (a_location l) (in_text d (a_location l) at (λ none. none)) c
  needs_by d e (a_parameter w) at apart c = by_names d e (a_parameter w) (in_text d (a_parameter w) at (λ none. none)) c
  needs_by d e (a_counter l) at apart c = absurd (none_in e c)
  needs_by d e (a_received n count part) at apart c = absurd (true≢false apart)
  needs_by d e (a_procedure p) at apart c = by_names d e (a_procedure p) (in_text d (a_procedure p) at (λ none. none)) c
  needs_by d e (a_process p) at apart c = absurd (none_in e c)
  needs_by d e (a_signal s) at apart c = by_names d e (a_signal s) (in_text d (a_signal s) at (λ none. none)) c
  needs_by d e (a_modulion kind items) at apart c = absurd (none_in e c)
  needs_by d e (a_predefined p) at apart c = absurd (none_in e c)

  -- ---- received names

  abbrev pub is_message_at : Option ℕ → Bool
  is_message_at None = false
  is_message_at (Some d) = is_kind_at is_message (with_predefined (definitions_of t)) d

  -- what a message's name stands for may be sent to
  abbrev is_sent : Mention → Bool
  is_sent (Use n uses.Message) = is_message_at (number_at (ground_with t es).uses n.at)
  is_sent (Use n uses.Mode) = true
  is_sent (Use n uses.Process) = true
  is_sent (Use n uses.Action) = true
  is_sent (Use n uses.Location) = true
  is_sent (Use n uses.Value) = true
  is_sent (Argument n callee) = true
  is_sent (Element n) = true

  sent_where_untold : HoldsWhereUntold t is_sent
  sent_where_untold k (Use n uses.Message) used none =
      let row = use_stands has.has_tree.tokens t k n uses.Message (is_resolved text_of_t t has) (used n (here_in n [] n refl)) none in
      subst (λ x. is_message_at x ≡ true) (sym row.has_row) row.fitting
  sent_where_untold k (Use n uses.Mode) used none = refl
  sent_where_untold k (Use n uses.Process) used none = refl
  sent_where_untold k (Use n uses.Action) used none = refl
  sent_where_untold k (Use n uses.Location) used none = refl
  sent_where_untold k (Use n uses.Value) used none = refl
  sent_where_untold k (Argument n callee) used none = refl
  sent_where_untold k (Element n) used none = refl

  all_sent : Each (TextPasses is_sent) (text_origins t)
  all_sent = program_passing t is_sent (program_passes text_of_t t is_sent has sent_where_untold)

  -- a received name isn't what may be sent to
  never_sent : (e : ℕ) (o : Origin) → slice_get (origins_of t) e ≡ Some o → is_received (Some o) ≡ true → is_kind_at is_message all e ≡ true → ⊥
  never_sent e (a_received n count part) at is sent =
      let d = definition_there (origins_of t) all e (a_received n count part) (origins_define t) at in
      true≢false (sym (subst (λ k. is_of is_message (kind_of k) ≡ true) d.1.0 sent) ∙ ap is_message d.1.1)
  never_sent e (a_synonym s) at is sent = true≢false (sym is)
  never_sent e (a_mode novel w) at is sent = true≢false (sym is)
  never_sent e (an_element ns part owner) at is sent = true≢false (sym is)
  never_sent e (a_location l) at is sent = true≢false (sym is)
  never_sent e (a_parameter w) at is sent = true≢false (sym is)
  never_sent e (a_counter l) at is sent = true≢false (sym is)
  never_sent e (a_procedure p) at is sent = true≢false (sym is)
  never_sent e (a_process p) at is sent = true≢false (sym is)
  never_sent e (a_signal s) at is sent = true≢false (sym is)
  never_sent e (a_modulion kind items) at is sent = true≢false (sym is)
  never_sent e (a_predefined p) at is sent = true≢false (sym is)

  pub message_stands : (d : ℕ) (n : Name) (count part : ℕ) → slice_get (origins_of t) d ≡ Some (a_received n count part) → is_message_at (number_at g.uses n.at) ≡ true
  message_stands d n count part at = (each_there (TextPasses is_sent) (text_origins t) d (a_received n count part) all_sent (in_text d (a_received n count part) at (λ none. none))).0

  pub sent_to : (d e : ℕ) (n : Name) (count part : ℕ) → slice_get (origins_of t) d ≡ Some (a_received n count part) → Contains (some_number (number_at g.uses n.at)) e → is_kind_at is_message all e ≡ true
  sent_to d e n count part at c = subst (λ k. is_message_at k ≡ true) (one_number (number_at g.uses n.at) e c) (message_stands d n count part at)

  abbrev origin : ℕ → Option Origin
  origin d = slice_get (origins_of t) d

  -- behind something that isn't received all is read
  not_received : (o : Option Origin) → is_read o ≡ true → is_received o ≡ false
  not_received (Some (a_synonym s)) read = refl
  not_received (Some (a_mode novel w)) read = refl
  not_received (Some (an_element ns part owner)) read = refl
  not_received (Some (a_location l)) read = refl
  not_received (Some (a_parameter w)) read = refl
  not_received (Some (a_counter l)) read = refl
  not_received (Some (a_received n count part)) read = absurd (true≢false (sym read))
  not_received (Some (a_procedure p)) read = refl
  not_received (Some (a_process p)) read = refl
  not_received (Some (a_signal s)) read = refl
  not_received (Some (a_modulion kind items)) read = refl
  not_received (Some (a_predefined p)) read = refl
  not_received None read = refl

  -- what defines something that needs another
  record IsDefinedBy (d e : ℕ) : Type 0 where
    by : Origin
    at : origin d ≡ Some by
    needed : Contains (needed_by g (Some by)) e

  defined_by : (d e : ℕ) → Contains (needs g d) e → IsDefinedBy d e
  defined_by d e c = by_origin (origin d) refl c
    where
      by_origin : (o : Option Origin) → origin d ≡ o → Contains (needed_by g o) e → IsDefinedBy d e
      by_origin None at c = absurd (none_in e c)
      by_origin (Some o) at c = record { by = o; at = at; needed = c }

  step_read : (d e : ℕ) → is_received (origin d) ≡ false → Contains (needs g d) e → is_read (origin e) ≡ true
  step_read d e apart c = let is = defined_by d e c in let h = needs_by d e is.by is.at (subst (λ o. is_received o ≡ false) is.at apart) is.needed in h.read

  way_read : {d e : ℕ} → is_received (origin d) ≡ false → LeadsTo g d e → is_read (origin e) ≡ true
  way_read apart (at_once {d} {e} c) = step_read d e apart c
  way_read apart (through {d = d} {e = m} {f = e} c rest) = way_read (not_received (origin m) (step_read d m apart c)) rest

  -- the message of a received name isn't received
  sent_apart : (d e : ℕ) → is_received (origin d) ≡ true → Contains (needs g d) e → is_received (origin e) ≡ false
  sent_apart d e is c = let by = defined_by d e c in of_received by.by by.at (subst (λ o. is_received o ≡ true) by.at is) by.needed
    where
      not_sent : (o : Option Origin) → origin e ≡ o → is_kind_at is_message all e ≡ true → is_received o ≡ false
      not_sent None at sent = refl
      not_sent (Some o) at sent = of_test (is_received (Some o)) refl
        where
          of_test : (b : Bool) → is_received (Some o) ≡ b → b ≡ false
          of_test false same = refl
          of_test true same = absurd (never_sent e o at same sent)

      of_received : (o : Origin) → origin d ≡ Some o → is_received (Some o) ≡ true → Contains (needed_by g (Some o)) e → is_received (origin e) ≡ false
      of_received (a_received n count part) at is c = not_sent (origin e) refl (sent_to d e n count part at c)
      of_received (a_synonym s) at is c = absurd (true≢false (sym is))
      of_received (a_mode novel w) at is c = absurd (true≢false (sym is))
      of_received (an_element ns part owner) at is c = absurd (true≢false (sym is))
      of_received (a_location l) at is c = absurd (true≢false (sym is))
      of_received (a_parameter w) at is c = absurd (true≢false (sym is))
      of_received (a_counter l) at is c = absurd (true≢false (sym is))
      of_received (a_procedure p) at is c = absurd (true≢false (sym is))
      of_received (a_process p) at is c = absurd (true≢false (sym is))
      of_received (a_signal s) at is c = absurd (true≢false (sym is))
      of_received (a_modulion kind items) at is c = absurd (true≢false (sym is))
      of_received (a_predefined p) at is c = absurd (true≢false (sym is))

  -- a received name doesn't lead to itself
  from_received : {d e : ℕ} → origin d ≡ origin e → is_received (origin d) ≡ true → LeadsTo g d e → ⊥
  from_received same is (at_once {d} {e} c) = true≢false (sym is ∙ ap is_received same ∙ sent_apart d e is c)
  from_received same is (through {d = d} {e = m} {f = e} c rest) = true≢false (sym is ∙ ap is_received same ∙ not_received (origin e) (way_read (sent_apart d m is c) rest))

  -- what leads to itself is read
  cycle_read : (d : ℕ) → LeadsTo g d d → is_read (origin d) ≡ true
  cycle_read d way = by (is_received (origin d)) refl
    where
      by : (b : Bool) → is_received (origin d) ≡ b → is_read (origin d) ≡ true
      by false apart = way_read apart way
      by true is = absurd (from_received refl is way)

  -- ---- ways

  -- a way over dependences, and what of it N6 tells
  data Along (d e : ℕ) : Type 0 where
    over_constant : (c : ℕ) → c < length text → is_kind_at is_constant all c ≡ true → (d ≡ c) ⊎ Depends edges d c → Depends edges c e → Along d e
    over_locations : d < length text → is_kind_at is_location all d ≡ true → (is_kind_at is_location all e ≡ true → Depends between_locations d e) → Along d e
    over_parameter : deep e < deep d → Along d e

  record Way (d e : ℕ) : Type 0 where
    near : deep e ≤ deep d
    depends : Depends edges d e
    along : Along d e

  step_edge : (d e : ℕ) → Step d e → Contains edges (edge d e)
  step_edge d e step = edge_among groups step.group d e step.has_group step.from step.to

  below : (d : ℕ) (o : Origin) → slice_get (text_origins t) d ≡ Some o → d < length text
  below d o at =
      let less = got_below (text_origins t) d o at in
      let same = same_counts in
      let listed : length (map row_of (text_origins t)) ≡ length (rows_in level) = ap length (program_rows t) in
      let mapped : length (map row_of (text_origins t)) ≡ length (text_origins t) = length-map (text_origins t) row_of in
      let of_rows = rows.parts_length level (program_sized t) in
      let of_depths = depths.parts_length 0 level (program_sized t) in
      omega (arith, less, same, listed, mapped, of_rows, of_depths)

  kind_at : (test : Kind → Bool) (d : ℕ) (o : Origin) (kind : Kind) → slice_get (text_origins t) d ≡ Some o → ((x : Definition) → Defines o x → x.kind ≡ kind) → test kind ≡ true → is_kind_at test all d ≡ true
  kind_at test d o kind at of_kind holds =
      let x = definition_there (origins_of t) all d o (origins_define t) (got_front (text_origins t) predefined_origins d o at) in
      kind_there test all d x.0 kind x.1.0 (of_kind x.0 x.1.1) holds

  -- a step from a constant, a location or a parameter
  from_constant : (d e : ℕ) (o : Origin) → NeedsBy o d e → is_kind_at is_constant all d ≡ true → Way d e
  from_constant d e o by is =
      let one = directly (step_edge d e by.step) in
      record { near = by.step.near; depends = one; along = over_constant d (below d o by.at) is (inl refl) one }

  from_location : (d e : ℕ) (o : Origin) → NeedsBy o d e → is_kind_at is_location all d ≡ true → Way d e
  from_location d e o by is = record {
    near = by.step.near;
    depends = directly (step_edge d e by.step);
    along = over_locations (below d o by.at) is (λ later. directly (location_edge all groups by.step.group d e by.step.has_group by.step.from by.step.to is later));
  }

  from_parameter : (d e : ℕ) (o : Origin) → NeedsBy o d e → is_parameter o ≡ true → Way d e
  from_parameter d e o by is = record { near = by.step.near; depends = directly (step_edge d e by.step); along = over_parameter (by.nearer is) }

  nearer_still : (a b c : ℕ) → c ≤ b → b ≤ a → c ≤ a
  nearer_still a b c first later = omega (arith, first, later)

  longer_constant : (d m e : ℕ) (o : Origin) → NeedsBy o d m → is_kind_at is_constant all d ≡ true → Way m e → Way d e
  longer_constant d m e o by is way =
      let all_over = ways.through (step_edge d m by.step) way.depends in
      record { near = nearer_still (deep d) (deep m) (deep e) way.near by.step.near; depends = all_over; along = over_constant d (below d o by.at) is (inl refl) all_over }

  longer_location : (d m e : ℕ) (o : Origin) → NeedsBy o d m → is_kind_at is_location all d ≡ true → Way m e → Way d e
  longer_location d m e o by is way = record {
    near = nearer_still (deep d) (deep m) (deep e) way.near by.step.near;
    depends = ways.through (step_edge d m by.step) way.depends;
    along = further way.along;
  }
    where
      further : Along m e → Along d e
      further (over_constant c less constant (inl same) rest) = over_constant c less constant (inr (directly (subst (λ x. Contains edges (edge d x)) same (step_edge d m by.step)))) rest
      further (over_constant c less constant (inr first) rest) = over_constant c less constant (inr (ways.through (step_edge d m by.step) first)) rest
      further (over_locations less location rest) =
          over_locations (below d o by.at) is (λ later. ways.through (location_edge all groups by.step.group d m by.step.has_group by.step.from by.step.to is location) (rest later))
      further (over_parameter less) = let near = by.step.near in over_parameter (omega (arith, less, near))

  longer_parameter : (d m e : ℕ) (o : Origin) → NeedsBy o d m → is_parameter o ≡ true → Way m e → Way d e
  longer_parameter d m e o by is way = record {
    near = nearer_still (deep d) (deep m) (deep e) way.near by.step.near;
    depends = ways.through (step_edge d m by.step) way.depends;
    along = (let less = by.nearer is in let near = way.near in over_parameter (omega (arith, less, near)));
  }

  -- by what defines the first
  one_step : (d e : ℕ) (o : Origin) → origin d ≡ Some o → is_read (Some o) ≡ true → Contains (needed_by g (Some o)) e → Way d e
  one_step d e (a_synonym s) at read c = let by = needs_by d e (a_synonym s) at refl c in from_constant d e (a_synonym s) by (kind_at is_constant d (a_synonym s) kinds.Synonym by.at (λ x is. is.0) refl)
  one_step d e (a_mode novel w) at read c = let by = needs_by d e (a_mode novel w) at refl c in from_constant d e (a_mode novel w) by (kind_at is_constant d (a_mode novel w) kinds.Mode by.at (λ x is. is) refl)
  one_step d e (a_location l) at read c = let by = needs_by d e (a_location l) at refl c in from_location d e (a_location l) by (kind_at is_location d (a_location l) kinds.Location by.at (λ x is. is.0) refl)
  one_step d e (a_parameter w) at read c = from_parameter d e (a_parameter w) (needs_by d e (a_parameter w) at refl c) refl
  one_step d e (an_element ns part owner) at read c = absurd (none_in e c)
  one_step d e (a_counter l) at read c = absurd (true≢false (sym read))
  one_step d e (a_received n count part) at read c = absurd (true≢false (sym read))
  one_step d e (a_procedure p) at read c = absurd (true≢false (sym read))
  one_step d e (a_process p) at read c = absurd (true≢false (sym read))
  one_step d e (a_signal s) at read c = absurd (true≢false (sym read))
  one_step d e (a_modulion kind items) at read c = absurd (true≢false (sym read))
  one_step d e (a_predefined p) at read c = absurd (true≢false (sym read))

  longer : (d m e : ℕ) (o : Origin) → origin d ≡ Some o → is_read (Some o) ≡ true → Contains (needed_by g (Some o)) m → Way m e → Way d e
  longer d m e (a_synonym s) at read c way = let by = needs_by d m (a_synonym s) at refl c in longer_constant d m e (a_synonym s) by (kind_at is_constant d (a_synonym s) kinds.Synonym by.at (λ x is. is.0) refl) way
  longer d m e (a_mode novel w) at read c way = let by = needs_by d m (a_mode novel w) at refl c in longer_constant d m e (a_mode novel w) by (kind_at is_constant d (a_mode novel w) kinds.Mode by.at (λ x is. is) refl) way
  longer d m e (a_location l) at read c way = let by = needs_by d m (a_location l) at refl c in longer_location d m e (a_location l) by (kind_at is_location d (a_location l) kinds.Location by.at (λ x is. is.0) refl) way
  longer d m e (a_parameter w) at read c way = longer_parameter d m e (a_parameter w) (needs_by d m (a_parameter w) at refl c) refl way
  longer d m e (an_element ns part owner) at read c way = absurd (none_in m c)
  longer d m e (a_counter l) at read c way = absurd (true≢false (sym read))
  longer d m e (a_received n count part) at read c way = absurd (true≢false (sym read))
  longer d m e (a_procedure p) at read c way = absurd (true≢false (sym read))
  longer d m e (a_process p) at read c way = absurd (true≢false (sym read))
  longer d m e (a_signal s) at read c way = absurd (true≢false (sym read))
  longer d m e (a_modulion kind items) at read c way = absurd (true≢false (sym read))
  longer d m e (a_predefined p) at read c way = absurd (true≢false (sym read))

  way_over : {d e : ℕ} → is_read (origin d) ≡ true → LeadsTo g d e → Way d e
  way_over read (at_once {d} {e} c) = let is = defined_by d e c in one_step d e is.by is.at (subst (λ o. is_read o ≡ true) is.at read) is.needed
  way_over read (through {d = d} {e = m} {f = e} c rest) =
      let is = defined_by d m c in
      longer d m e is.by is.at (subst (λ o. is_read o ≡ true) is.at read) is.needed (way_over (step_read d m (not_received (origin d) read) c) rest)

  -- ---- N6 is told of nothing

  untold_selves : told_selves text groups ≡ []
  untold_selves =
      let rules = told_in text (outermost level) 0 level in
      let selves = told_selves text groups in
      none_later rules selves (none_first (rules ++ selves) (told_surplus text) (none_listed (told_of_names level) has.names))

  not_self : (d : ℕ) → d < length text → is_self all groups d ≡ true → ⊥
  not_self d less is =
      let x = got_at text d less in
      let at = got_front text predefined d x.0 x.1 in
      let none = none_of (λ d. told_self (is_self all groups d) (slice_get all d)) (numbers_on 0 (length text)) d untold_selves (numbered_below 0 (length text) d (omega arith) (omega (arith, less))) in
      untold_self (is_self all groups d) x.0 (subst (λ k. told_self (is_self all groups d) k ≡ []) at none) is

  no_constant : (c : ℕ) → c < length text → is_kind_at is_constant all c ≡ true → Depends edges c c → ⊥
  no_constant c less is depends =
      let tested = (tests edges c c).1 depends in
      not_self c less (or_first (is_kind_at is_constant all c && depends_on edges c c) (is_kind_at is_location all c && depends_on between_locations c c) (and_both (is_kind_at is_constant all c) (depends_on edges c c) is tested))

  no_location : (d : ℕ) → d < length text → is_kind_at is_location all d ≡ true → Depends between_locations d d → ⊥
  no_location d less is depends =
      let tested = (tests between_locations d d).1 depends in
      not_self d less (or_second (is_kind_at is_constant all d && depends_on edges d d) (is_kind_at is_location all d && depends_on between_locations d d) (and_both (is_kind_at is_location all d) (depends_on between_locations d d) is tested))

  no_way : (d : ℕ) → Along d d → ⊥
  no_way d (over_constant c less is (inl same) rest) = no_constant c less is (subst (λ x. Depends edges c x) same rest)
  no_way d (over_constant c less is (inr first) rest) = no_constant c less is (chained rest first)
  no_way d (over_locations less is rest) = no_location d less is (rest is)
  no_way d (over_parameter less) = absurd (omega (arith, less))

  pub never_itself : (d : ℕ) → LeadsTo g d d → ⊥
  never_itself d way = let over = way_over (cycle_read d way) way in no_way d over.along

pub none_itself : NoneItselfLaw
none_itself text t g has is = subst (λ h. (d : ℕ) → ¬ LeadsTo h d d) (sym is) (λ d way. never_itself text t g.entries has d way)

pub text_order : TextOrderLaw
text_order text t g has is = some_order g (none_itself text t g has is)
