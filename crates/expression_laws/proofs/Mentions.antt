-- The names that a text mentions stand for what their places need, in a text that breaks no rule on names.
use Rattle.std.proofs.Common.{◌≡◌, ℕ, zero, suc, ◌+◌, Bool, true, false, ◌&&◌, ◌||◌, List, [], ◌∷◌, ◌++◌, Option, Some, None, Contains, inl, inr, refl, sym, ap, ◌∙◌, subst, true≢false}
use Rattle.std.specs.Prelude.{map, flat_map, slice_get, option_and_then, if◌then◌else◌}
use Rattle.std.proofs.lemmas.List.Elements.{Contains-append_left, Contains-append_right}
use Rattle.diagnostics.specs.declared.diagnostic.Diagnostic.{Diagnostic}
use Rattle.chill_tree.specs.declared.token.Token.{Token}
use Rattle.chill_tree.specs.declared.tree.name.Name.{Name}
use Rattle.chill_tree.specs.ExprTree.{ExprTree, ExprNodes, RangeTree, RangeNodes, whole, character, text, this_instance, paren, receive, start, tuple, uniform, name, apply, field, prefixed, binary, no_exprs, more_exprs, alone, between, no_ranges, more_ranges}
use Rattle.chill_tree.specs.ItemTree.{ProgramTree}
use Rattle.names_model.specs.declared.identifier.Identifier.{Identifier}
use Rattle.names_model.specs.declared.definition.Definition.{Definition}
use Rattle.names_model.specs.declared.kind.Kind.{Kind}
use Rattle.names_model.specs.declared.kind.Kind.TheVariants as kinds
use Rattle.names_model.specs.declared.kind.Need.{Need}
use Rattle.names_model.specs.declared.kind.Need.TheVariants as needs
use Rattle.names_model.specs.declared.part.Mention.{Mention}
use Rattle.names_model.specs.declared.part.Mention.TheVariants.{Use, Argument, Element}
use Rattle.names_model.specs.Identifiers.{identifier}
use Rattle.names_model.specs.Kinds as kind_tests
use Rattle.names_model.specs.Kinds.{fits}
use Rattle.names_model.specs.Parts as parts
use Rattle.names_model.specs.Parts.{PartTree, PartNodes, define, mention, seize, seize_all, grant, grant_all, stray, modulion, routine, block, part_nodes}
use Rattle.names_model.specs.Sizes.{head_size, size_of}
use Rattle.names_model.specs.Definitions.{text_definitions, with_predefined, kind_of, is_of, is_kind_at}
use Rattle.names_model.specs.Seeing.{Reach, outermost, in_modulion, in_block, sees}
use Rattle.names_model.specs.NameRules.{Node, node, nodes, nodes_inside, body_reach, any_kind, told_use, fits_argument, told_mention, told_mentions, told_here}
use Rattle.names_model.specs.ExprMentions.{tuple_mode, callee_of, mentions_as, mentions_in_each, mentions_in_range, mentions_in_ranges, mentions_of}
use Rattle.names_model.specs.StatementParts.{mentioned}
use Rattle.names_model.specs.Resolving.{level_of}
use Rattle.names_laws.proofs.Members.{here_in, later_in}
use Rattle.ground_laws.specs.Defining.{kind_of_predefined, Defines, AllDefine}
use Rattle.ground_laws.specs.Rows.{used_in_mention, used_in_mentions, used_in, uses_of, IsUsedAt, IsResolved}
use Rattle.ground_laws.proofs.Rows.{each_use}
use Rattle.ground_laws.proofs.Defining.{origins_define}
use Rattle.checks_model.specs.Ground as ground
use Rattle.checks_model.specs.Ground.{Ground, Origin, Predefined, of_mode, a_synonym, a_mode, an_element, a_location, a_parameter, a_counter, a_received, a_procedure, a_process, a_signal, a_modulion, a_predefined, number_at, origin_of}
use Rattle.checks_model.specs.Origins.{origins_of}
use Rattle.checks_model.specs.Classes.{Callee, calls, routine as evaluated, no_callee, callee_by, callee_named}
use Rattle.checks_model.specs.Classes as classes
use Rattle.checks_model.specs.ActionRules.{measures}
use Rattle.checks_model.specs.Diagnoses.{HasNames}
use Rattle.written_laws.specs.Written.{Each}
use Rattle.written_laws.proofs.Mentioned.{is_resolved}
use Rattle.elaborated_laws.proofs.Told.{none_first, none_later, no_some, same_some}
use Rattle.there_laws.specs.Table.{stands_for_mode, IsSomeModeName, TuplesNamed, EachTuplesNamed, RangeTuplesNamed, RangesTuplesNamed}
use Rattle.expression_laws.specs.Names.{stands_for_value, stands_for_location, stands_for_message, stands_for_process, stands_for_call, MayStand, StandsBy, EachStandsBy, RangeStandsBy, RangesStandBy}
use Rattle.expression_laws.proofs.Exits.{untold_here}

-- ---- what is known of a mention in its reach

-- the one definition that is seen of a used name
pub record SeenRow (t : ProgramTree) (r : Reach) (n : Identifier) : Type 0 where
  pub number : ℕ
  pub seen : sees (text_definitions (level_of t)) r n.spelling ≡ number ∷ []
  pub has_row : number_at (uses_of t) n.at ≡ Some number

pub record MentionAt (t : ProgramTree) (r : Reach) (m : Mention) : Type 0 where
  pub told : told_mention (text_definitions (level_of t)) r m ≡ []
  pub row : (n : Identifier) → Contains (used_in_mention m) n → SeenRow t r n

abbrev pub MentionsAt : ProgramTree → Reach → List Mention → Type 0
MentionsAt t r ms = Each (MentionAt t r) ms

abbrev mutual
  pub PartAt : ProgramTree → Reach → ℕ → PartTree → Type 0
  PartAt t r from (define c) = MentionsAt t r c.text
  PartAt t r from (mention m) = MentionAt t r m
  PartAt t r from (modulion n region size ps) = PartsAt t (in_modulion r (suc from) ps) (suc from) ps
  PartAt t r from (routine n kind params result size ps) = PartsAt t (body_reach r from params result ps) (from + head_size params result) ps
  PartAt t r from (block size ps) = PartsAt t (in_block r [] from ps) from ps
  PartAt t r from (seize n) = Unit {0}
  PartAt t r from (seize_all at) = Unit {0}
  PartAt t r from (grant n) = Unit {0}
  PartAt t r from (grant_all at) = Unit {0}
  PartAt t r from (stray n) = Unit {0}

  pub PartsAt : ProgramTree → Reach → ℕ → PartNodes → Type 0
  PartsAt t r from parts.no_parts = Unit {0}
  PartsAt t r from (parts.more_parts p ps) = PartAt t r from p × PartsAt t r (from + size_of p) ps

-- at a node itself
abbrev OwnAt : ProgramTree → Reach → PartTree → Type 0
OwnAt t r (define c) = MentionsAt t r c.text
OwnAt t r (mention m) = MentionAt t r m
OwnAt t r p = Unit {0}

mentions_at : (t : ProgramTree) (r : Reach) (ms : List Mention) → told_mentions (text_definitions (level_of t)) r ms ≡ [] → ((n : Identifier) → Contains (used_in_mentions ms) n → SeenRow t r n) → MentionsAt t r ms
mentions_at t r [] none rows = tt
mentions_at t r (m ∷ ms) none rows =
    let ds = text_definitions (level_of t) in (
      record { told = none_first (told_mention ds r m) (told_mentions ds r ms) none; row = λ n c. rows n (Contains-append_left (used_in_mention m) (used_in_mentions ms) n c) },
      mentions_at t r ms (none_later (told_mention ds r m) (told_mentions ds r ms) none) (λ n c. rows n (Contains-append_right (used_in_mention m) (used_in_mentions ms) n c)),
    )

own_at : (t : ProgramTree) (r : Reach) (p : PartTree) → told_here (text_definitions (level_of t)) r p ≡ [] → ((n : Identifier) → Contains (used_in p) n → SeenRow t r n) → OwnAt t r p
own_at t r (define c) none rows = mentions_at t r c.text none rows
own_at t r (mention m) none rows = record { told = none; row = rows }
own_at t r p none rows = tt

mutual
  part_at : (t : ProgramTree) (p : PartTree) (r : Reach) (from : ℕ) → OwnAt t r p → ((k : Node) → Contains (nodes_inside r from p) k → OwnAt t k.reach k.part) → PartAt t r from p
  part_at t (define c) r from own inside = own
  part_at t (mention m) r from own inside = own
  part_at t (seize n) r from own inside = tt
  part_at t (seize_all at) r from own inside = tt
  part_at t (grant n) r from own inside = tt
  part_at t (grant_all at) r from own inside = tt
  part_at t (stray n) r from own inside = tt
  part_at t (modulion n region count ps) r from own inside = parts_at t ps (in_modulion r (suc from) ps) (suc from) inside
  part_at t (routine n kind params result count ps) r from own inside = parts_at t ps (body_reach r from params result ps) (from + head_size params result) inside
  part_at t (block count ps) r from own inside = parts_at t ps (in_block r [] from ps) from inside

  parts_at : (t : ProgramTree) (ps : PartNodes) (r : Reach) (from : ℕ) → ((k : Node) → Contains (nodes r from ps) k → OwnAt t k.reach k.part) → PartsAt t r from ps
  parts_at t parts.no_parts r from each = tt
  parts_at t (parts.more_parts p ps) r from each =
      let inside = nodes_inside r from p in
      let behind = nodes r (from + size_of p) ps in (
        part_at t p r from (each (node r from p) (here_in (node r from p) (inside ++ behind) (node r from p) refl)) (λ k c. each k (later_in (node r from p) (inside ++ behind) k (Contains-append_left inside behind k c))),
        parts_at t ps r (from + size_of p) (λ k c. each k (later_in (node r from p) (inside ++ behind) k (Contains-append_right inside behind k c))),
      )

seen_row : (tokens : List Token) (t : ProgramTree) (k : Node) (n : Identifier) → IsResolved tokens t → IsUsedAt (level_of t) k n → SeenRow t k.reach n
seen_row tokens t k n resolved used = let row = each_use tokens t k n resolved used in record { number = row.number; seen = row.is_seen; has_row = row.has_row }

pub program_at : (text : List ℕ) (t : ProgramTree) → HasNames text t → PartsAt t (outermost (level_of t)) 0 (level_of t)
program_at bytes t has =
    parts_at t (level_of t) (outermost (level_of t)) 0
    (λ k c. own_at t k.reach k.part (untold_here t k has.names c) (λ n used. seen_row has.has_tree.tokens t k n (is_resolved bytes t has) (record { is_node = c; is_used = used })))

-- ---- lists of parts

abbrev pub AreAt : ProgramTree → Reach → ℕ → List PartTree → Type 0
AreAt t r from ps = PartsAt t r from (part_nodes ps)

-- parts at some number
pub record StandAt (t : ProgramTree) (r : Reach) (ps : List PartTree) : Type 0 where
  pub from : ℕ
  pub holds : AreAt t r from ps

pub first_at : (t : ProgramTree) (r : Reach) (from : ℕ) (ps qs : List PartTree) → AreAt t r from (ps ++ qs) → AreAt t r from ps
first_at t r from [] qs at = tt
first_at t r from (p ∷ ps) qs at = (at.0, first_at t r (from + size_of p) ps qs at.1)

pub later_at : (t : ProgramTree) (r : Reach) (from : ℕ) (ps qs : List PartTree) → AreAt t r from (ps ++ qs) → StandAt t r qs
later_at t r from [] qs at = record { from = from; holds = at }
later_at t r from (p ∷ ps) qs at = later_at t r (from + size_of p) ps qs at.1

pub mentioned_at : (t : ProgramTree) (r : Reach) (from : ℕ) (ms : List Mention) → AreAt t r from (mentioned ms) → MentionsAt t r ms
mentioned_at t r from [] at = tt
mentioned_at t r from (m ∷ ms) at = (at.0, mentioned_at t r (from + size_of (mention m)) ms at.1)

pub mentions_first : (t : ProgramTree) (r : Reach) (ms ns : List Mention) → MentionsAt t r (ms ++ ns) → MentionsAt t r ms
mentions_first t r [] ns at = tt
mentions_first t r (m ∷ ms) ns at = (at.0, mentions_first t r ms ns at.1)

pub mentions_later : (t : ProgramTree) (r : Reach) (ms ns : List Mention) → MentionsAt t r (ms ++ ns) → MentionsAt t r ns
mentions_later t r [] ns at = at
mentions_later t r (m ∷ ms) ns at = mentions_later t r ms ns at.1

-- ---- kinds

abbrev kind_of_origin : Origin → Kind
kind_of_origin (a_synonym s) = kinds.Synonym
kind_of_origin (a_mode novel m) = kinds.Mode
kind_of_origin (an_element ns part owner) = kinds.Element
kind_of_origin (a_location l) = kinds.Location
kind_of_origin (a_parameter m) = kinds.Parameter
kind_of_origin (a_counter c) = kinds.Counter
kind_of_origin (a_received n count part) = kinds.Received
kind_of_origin (a_procedure p) = kinds.Procedure
kind_of_origin (a_process p) = kinds.Process
kind_of_origin (a_signal s) = kinds.Signal
kind_of_origin (a_modulion kind items) = kinds.Modulion
kind_of_origin (a_predefined p) = kind_of_predefined p

origin_kind : (o : Origin) (d : Definition) → Defines o d → d.kind ≡ kind_of_origin o
origin_kind (a_synonym s) d is = is.0
origin_kind (a_mode novel m) d is = is
origin_kind (an_element ns part owner) d is = is.0
origin_kind (a_location l) d is = is.0
origin_kind (a_parameter m) d is = is
origin_kind (a_counter c) d is = is.0
origin_kind (a_received n count part) d is = is
origin_kind (a_procedure p) d is = is.0
origin_kind (a_process p) d is = is.0
origin_kind (a_signal s) d is = is.0
origin_kind (a_modulion kind items) d is = is
origin_kind (a_predefined p) d is = is.0

-- what defines the definition of a number
origin_at_number : (os : List Origin) (ds : List Definition) (k : ℕ) (d : Definition) → AllDefine os ds → slice_get ds k ≡ Some d → (o : Origin) × ((slice_get os k ≡ Some o) × Defines o d)
origin_at_number [] [] k d all at = no_some d at
origin_at_number [] (e ∷ ds) k d all at = absurd all
origin_at_number (o ∷ os) [] k d all at = absurd all
origin_at_number (o ∷ os) (e ∷ ds) zero d all at = (o, (refl, subst (λ x. Defines o x) (same_some e d at) all.0))
origin_at_number (o ∷ os) (e ∷ ds) (suc k) d all at = origin_at_number os ds k d all.1 at

definition_of_kind : (test : Kind → Bool) (d : Option Definition) → is_of test (kind_of d) ≡ true → (x : Definition) × ((d ≡ Some x) × (test x.kind ≡ true))
definition_of_kind test None is = absurd (true≢false (sym is))
definition_of_kind test (Some d) is = (d, (refl, is))

-- what stands under a number of a kind
pub record OriginOf (t : ProgramTree) (k : ℕ) (test : Kind → Bool) : Type 0 where
  origin : Origin
  is : slice_get (origins_of t) k ≡ Some origin
  passes : test (kind_of_origin origin) ≡ true

origin_of_kind : (t : ProgramTree) (k : ℕ) (test : Kind → Bool) → is_kind_at test (with_predefined (text_definitions (level_of t))) k ≡ true → OriginOf t k test
origin_of_kind t k test is =
    let all = with_predefined (text_definitions (level_of t)) in
    let d = definition_of_kind test (slice_get all k) is in
    let o = origin_at_number (origins_of t) all k d.0 (origins_define t) d.1.0 in
    record { origin = o.0; is = o.1.0; passes = subst (λ x. test x ≡ true) (origin_kind o.0 d.0 o.1.1) d.1.1 }

pub mode_stands : (o : Origin) → kind_tests.is_mode (kind_of_origin o) ≡ true → stands_for_mode (Some o) ≡ true
mode_stands (a_predefined (of_mode m)) is = refl
mode_stands o is = is

pub value_stands : (o : Origin) → kind_tests.is_value (kind_of_origin o) ≡ true → stands_for_value (Some o) ≡ true
value_stands (a_predefined (of_mode m)) is = is
value_stands o is = is

pub process_stands : (o : Origin) → kind_tests.is_process (kind_of_origin o) ≡ true → stands_for_process (Some o) ≡ true
process_stands (a_predefined (of_mode m)) is = is
process_stands o is = is

pub location_stands : (o : Origin) → kind_tests.is_location (kind_of_origin o) ≡ true → stands_for_location (Some o) ≡ true
location_stands (a_predefined (of_mode m)) is = is
location_stands o is = is

pub message_stands : (o : Origin) → kind_tests.is_message (kind_of_origin o) ≡ true → stands_for_message (Some o) ≡ true
message_stands (a_predefined (of_mode m)) is = is
message_stands o is = is

pub call_stands : (o : Origin) → kind_tests.is_called (kind_of_origin o) ≡ true → stands_for_call (Some o) ≡ true
call_stands (a_predefined (of_mode m)) is = is
call_stands o is = is

-- UPPER, LOWER and SIZE, or another
measuring_is : (n : Name) (o : Origin) → measures (callee_by n (Some o)) ≡ kind_tests.is_measuring (kind_of_origin o)
measuring_is n (a_predefined (of_mode m)) = refl
measuring_is n o = refl

-- ---- uses

fit_use : (n : Identifier) (k : ℕ) (fit : Bool) → told_use n (k ∷ []) fit ≡ [] → fit ≡ true
fit_use n k true none = refl
fit_use n k false none = cc

either_first : (a : Bool) → (a || false) ≡ true → a ≡ true
either_first true e = refl
either_first false e = e

-- a text's names in a ground of it
pub record IsGroundOfText (t : ProgramTree) (g : Ground) : Type 0 where
  pub uses : g.uses ≡ uses_of t
  pub origins : g.origins ≡ origins_of t

origin_is : (t : ProgramTree) (g : Ground) (n : Name) (k : ℕ) (o : Origin) → IsGroundOfText t g → number_at (uses_of t) n.at ≡ Some k → slice_get (origins_of t) k ≡ Some o → origin_of g n ≡ Some o
origin_is t g n k o of row is =
    ap (λ us. option_and_then (slice_get g.origins) (number_at us n.at)) of.uses ∙ (ap (λ os. option_and_then (slice_get os) (number_at (uses_of t) n.at)) of.origins ∙ (ap (option_and_then (slice_get (origins_of t))) row ∙ is))

-- what a name stands for passes a test, where kinds that pass are those of such
pub use_stands : (t : ProgramTree) (g : Ground) (r : Reach) (n : Name) (need : Need) (test : Option Origin → Bool) → IsGroundOfText t g → ((o : Origin) → fits need (kind_of_origin o) ≡ true → test (Some o) ≡ true) → MentionAt t r (Use (identifier n) need) → test (origin_of g n) ≡ true
use_stands t g r n need test of kinds_are at =
    let all = with_predefined (text_definitions (level_of t)) in
    let row = at.row (identifier n) (here_in (identifier n) [] (identifier n) refl) in
    let alone_is = subst (λ seen. told_use (identifier n) seen (any_kind (fits need) all seen) ≡ []) row.seen at.told in
    let o = origin_of_kind t row.number (fits need) (either_first (is_kind_at (fits need) all row.number) (fit_use (identifier n) row.number (any_kind (fits need) all (row.number ∷ [])) alone_is)) in
    subst (λ x. test x ≡ true) (sym (origin_is t g n row.number o.origin of row.has_row o.is)) (kinds_are o.origin o.passes)

-- ---- arguments

may_value : (g : Ground) (b : Bool) (n : Name) → stands_for_value (origin_of g n) ≡ true → MayStand g b (name n) (stands_for_value (origin_of g n) ≡ true)
may_value g true n is = ap (λ x. x || stands_for_mode (origin_of g n)) is
may_value g false n is = is

may_mode : (g : Ground) (b : Bool) (n : Name) → b ≡ true → stands_for_mode (origin_of g n) ≡ true → MayStand g b (name n) (stands_for_value (origin_of g n) ≡ true)
may_mode g true n holds is = either_later (stands_for_value (origin_of g n)) (stands_for_mode (origin_of g n)) is
  where
    either_later : (a b : Bool) → b ≡ true → (a || b) ≡ true
    either_later true b is = refl
    either_later false b is = is
may_mode g false n holds is = absurd (true≢false (sym holds))

abbrev is_name : ExprTree → Bool
is_name (name n) = true
is_name e = false

may_other : {X : Type 0} (g : Ground) (b : Bool) (e : ExprTree) → is_name e ≡ false → X → MayStand g b e X
may_other g true (name n) apart x = absurd (true≢false apart)
may_other g true e apart x = x
may_other g false e apart x = x

argument_stands : (t : ProgramTree) (g : Ground) (r : Reach) (n c : Name) → IsGroundOfText t g → SeenRow t r (identifier c) → MentionAt t r (Argument (identifier n) (identifier c)) → MayStand g (measures (callee_named g c)) (name n) (stands_for_value (origin_of g n) ≡ true)
argument_stands t g r n c of callee at =
    let all = with_predefined (text_definitions (level_of t)) in
    let row = at.row (identifier n) (here_in (identifier n) [] (identifier n) refl) in
    let own = subst (λ seen. told_use (identifier n) seen (fits_argument all (sees (text_definitions (level_of t)) r (identifier c).spelling) seen) ≡ []) row.seen at.told in
    let both = subst (λ seen. told_use (identifier n) (row.number ∷ []) (fits_argument all seen (row.number ∷ [])) ≡ []) callee.seen own in
    by (is_kind_at (fits needs.Value) all row.number) (is_kind_at kind_tests.is_measuring all callee.number) (is_kind_at (fits needs.Mode) all row.number) refl refl refl
    (fit_use (identifier n) row.number (fits_argument all (callee.number ∷ []) (row.number ∷ [])) both)
  where
    by : (a b m : Bool) → is_kind_at (fits needs.Value) (with_predefined (text_definitions (level_of t))) (at.row (identifier n) (here_in (identifier n) [] (identifier n) refl)).number ≡ a
        → is_kind_at kind_tests.is_measuring (with_predefined (text_definitions (level_of t))) callee.number ≡ b
        → is_kind_at (fits needs.Mode) (with_predefined (text_definitions (level_of t))) (at.row (identifier n) (here_in (identifier n) [] (identifier n) refl)).number ≡ m
        → ((a || false) || ((b || false) && (m || false))) ≡ true → MayStand g (measures (callee_named g c)) (name n) (stands_for_value (origin_of g n) ≡ true)
    by true b m is_value is_measuring is_mode fit =
        let row = at.row (identifier n) (here_in (identifier n) [] (identifier n) refl) in
        let o = origin_of_kind t row.number (fits needs.Value) is_value in
        may_value g (measures (callee_named g c)) n (subst (λ x. stands_for_value x ≡ true) (sym (origin_is t g n row.number o.origin of row.has_row o.is)) (value_stands o.origin o.passes))
    by false true true is_value is_measuring is_mode fit =
        let row = at.row (identifier n) (here_in (identifier n) [] (identifier n) refl) in
        let o = origin_of_kind t row.number (fits needs.Mode) is_mode in
        let k = origin_of_kind t callee.number kind_tests.is_measuring is_measuring in
        may_mode g (measures (callee_named g c)) n (ap (λ x. measures (callee_by c x)) (origin_is t g c callee.number k.origin of callee.has_row k.is) ∙ (measuring_is c k.origin ∙ k.passes))
        (subst (λ x. stands_for_mode x ≡ true) (sym (origin_is t g n row.number o.origin of row.has_row o.is)) (mode_stands o.origin o.passes))
    by false true false is_value is_measuring is_mode fit = absurd (true≢false (sym fit))
    by false false m is_value is_measuring is_mode fit = absurd (true≢false (sym fit))

-- ---- expressions

-- the names in an expression stand for what they have to, P3 aside
abbrev pub ExprSo : Ground → ExprTree → Type 0
ExprSo g e = TuplesNamed g e × StandsBy (λ n. Unit {0}) g e

abbrev pub EachSo : Ground → Bool → ExprNodes → Type 0
EachSo g measured es = EachTuplesNamed g es × EachStandsBy (λ n. Unit {0}) g measured es

abbrev pub RangeSo : Ground → RangeTree → Type 0
RangeSo g r = RangeTuplesNamed g r × RangeStandsBy (λ n. Unit {0}) g r

abbrev pub RangesSo : Ground → RangeNodes → Type 0
RangesSo g rs = RangesTuplesNamed g rs × RangesStandBy (λ n. Unit {0}) g rs

head_so : (t : ProgramTree) (g : Ground) (r : Reach) (n : Option Name) (ms : List Mention) → IsGroundOfText t g → MentionsAt t r (tuple_mode n ++ ms) → IsSomeModeName g n × MentionsAt t r ms
head_so t g r None ms of at = (tt, at)
head_so t g r (Some n) ms of at = (use_stands t g r n needs.Mode stands_for_mode of mode_stands at.0, at.1)

mutual
  pub expr_so : (t : ProgramTree) (g : Ground) (r : Reach) (e : ExprTree) → IsGroundOfText t g → MentionsAt t r (mentions_as None e) → ExprSo g e
  expr_so t g r (whole at n) of here = (tt, tt)
  expr_so t g r (character at n) of here = (tt, tt)
  expr_so t g r (text at n) of here = (tt, tt)
  expr_so t g r (this_instance at) of here = (tt, tt)
  expr_so t g r (paren at e) of here = expr_so t g r e of here
  expr_so t g r (receive at n) of here = (tt, (use_stands t g r n needs.Location stands_for_location of location_stands here.0, tt))
  expr_so t g r (start at n es) of here = let args = each_so t g r es of here.1 in (args.0, (use_stands t g r n needs.Process stands_for_process of process_stands here.0, args.1))
  expr_so t g r (tuple at n b rs) of here = let h = head_so t g r n (mentions_in_ranges rs) of here in let inner = ranges_so t g r rs of h.1 in ((h.0, inner.0), inner.1)
  expr_so t g r (uniform at n b e) of here = let h = head_so t g r n (mentions_as None e) of here in let inner = expr_so t g r e of h.1 in ((h.0, inner.0), inner.1)
  expr_so t g r (name n) of here = (tt, use_stands t g r n needs.Value stands_for_value of value_stands here.0)
  expr_so t g r (apply at (name n) es) of here =
      let callee : SeenRow t r (identifier n) = (let own = here.0 in own.row (identifier n) (here_in (identifier n) [] (identifier n) refl)) in
      let args = args_so t g r es n of callee here.1 in
      ((tt, args.0), (use_stands t g r n needs.Value stands_for_value of value_stands here.0, args.1))
  expr_so t g r (apply at e es) of here =
      let base = expr_so t g r e of (mentions_first t r (mentions_as None e) (mentions_in_each None es) here) in
      let args = each_so t g r es of (mentions_later t r (mentions_as None e) (mentions_in_each None es) here) in
      ((base.0, args.0), (base.1, args.1))
  expr_so t g r (field at e n) of here = expr_so t g r e of here
  expr_so t g r (prefixed at o e) of here = expr_so t g r e of here
  expr_so t g r (binary at lhs o p rhs) of here =
      let left = expr_so t g r lhs of (mentions_first t r (mentions_as None lhs) (mentions_as None rhs) here) in
      let right = expr_so t g r rhs of (mentions_later t r (mentions_as None lhs) (mentions_as None rhs) here) in
      ((left.0, right.0), (left.1, right.1))

  pub each_so : (t : ProgramTree) (g : Ground) (r : Reach) (es : ExprNodes) → IsGroundOfText t g → MentionsAt t r (mentions_in_each None es) → EachSo g false es
  each_so t g r no_exprs of here = (tt, tt)
  each_so t g r (more_exprs e es) of here =
      let first = expr_so t g r e of (mentions_first t r (mentions_as None e) (mentions_in_each None es) here) in
      let later = each_so t g r es of (mentions_later t r (mentions_as None e) (mentions_in_each None es) here) in
      ((first.0, later.0), (first.1, later.1))

  pub args_so : (t : ProgramTree) (g : Ground) (r : Reach) (es : ExprNodes) (c : Name) → IsGroundOfText t g → SeenRow t r (identifier c) → MentionsAt t r (mentions_in_each (Some c) es) → EachSo g (measures (callee_named g c)) es
  args_so t g r no_exprs c of callee here = (tt, tt)
  args_so t g r (more_exprs (name n) es) c of callee here = let later = args_so t g r es c of callee here.1 in ((tt, later.0), (argument_stands t g r n c of callee here.0, later.1))
  args_so t g r (more_exprs e es) c of callee here =
      let first = expr_so t g r e of (mentions_first t r (mentions_as (Some c) e) (mentions_in_each (Some c) es) here) in
      let later = args_so t g r es c of callee (mentions_later t r (mentions_as (Some c) e) (mentions_in_each (Some c) es) here) in
      ((first.0, later.0), (may_other g (measures (callee_named g c)) e refl first.1, later.1))

  range_so : (t : ProgramTree) (g : Ground) (r : Reach) (k : RangeTree) → IsGroundOfText t g → MentionsAt t r (mentions_in_range k) → RangeSo g k
  range_so t g r (alone e) of here = expr_so t g r e of here
  range_so t g r (between l h) of here =
      let low = expr_so t g r l of (mentions_first t r (mentions_as None l) (mentions_as None h) here) in
      let high = expr_so t g r h of (mentions_later t r (mentions_as None l) (mentions_as None h) here) in
      ((low.0, high.0), (low.1, high.1))

  pub ranges_so : (t : ProgramTree) (g : Ground) (r : Reach) (ks : RangeNodes) → IsGroundOfText t g → MentionsAt t r (mentions_in_ranges ks) → RangesSo g ks
  ranges_so t g r no_ranges of here = (tt, tt)
  ranges_so t g r (more_ranges k ks) of here =
      let first = range_so t g r k of (mentions_first t r (mentions_in_range k) (mentions_in_ranges ks) here) in
      let later = ranges_so t g r ks of (mentions_later t r (mentions_in_range k) (mentions_in_ranges ks) here) in
      ((first.0, later.0), (first.1, later.1))
