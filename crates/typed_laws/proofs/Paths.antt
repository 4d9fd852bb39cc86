-- Names with their parts: each part leads from a mode to that of the part.
use Rattle.std.proofs.Common.{◌≡◌, ℕ, suc, ◌+◌, Bool, true, false, List, [], ◌∷◌, ◌++◌, Option, Some, None, ◌⊎◌, inl, inr, refl, sym, ap, ◌∙◌, subst, arith, true≢false}
use Rattle.std.specs.Prelude.{if◌then◌else◌, option_map, option_and_then, pos, ◌-ℤ◌}
use Rattle.std.specs.Str.{bytes_eq}
use Rattle.chill_tree.specs.declared.tree.name.Name.{Name}
use Rattle.chill_tree.specs.ExprTree.{name}
use Rattle.modes.specs.declared.mode.Bounds.{Bounds}
use Rattle.modes.specs.ModeTree.{ModeTree, ClassTree, value, nothing, int, char, FieldNodes, no_fields, more_fields}
use Rattle.modes.specs.Form.{FormTree, form_of, of_array, of_chars, of_structure}
use Rattle.modes.specs.Bounds.{bounds_of}
use Rattle.modes.specs.Scalars.{scalars_of}
use Rattle.checked_program.specs.declared.expr.Base.{Base}
use Rattle.program_trees.specs.ExprTree as made
use Rattle.checks_model.specs.Alike.{mode_in}
use Rattle.checks_model.specs.Ground.{Entry, Origin, truth, no_instance, a_synonym, an_element, a_location, a_parameter, a_counter, a_received, a_procedure, a_predefined, origin_of, entry_of, mode_of_entry}
use Rattle.checks_model.specs.Operations.{field_in, field_of_form, element_of_form, index_of_form, is_routine, when}
use Rattle.checks_model.specs.Classes.{class_of, class_of_name, class_of_origin}
use Rattle.checks_model.specs.Constants.{is_constant_origin}
use Rattle.elaborated_laws.proofs.Told.{no_some, same_some, there_mapped, there_chained}
use Rattle.elaboration_model.specs.Numbering.{Source, thing_used}
use Rattle.elaboration_model.specs.Parts.{made_of}
use Rattle.elaboration_model.specs.Expressions.{Root, at_base, of_value, Path, base_of, path_at, path_of_value, with_part, first_in, first_of_field, field_path, index_bounds, element_path, contents_at, operation_at, location_named}
use Rattle.source_meaning.specs.TypedValues.{Context, BaseHas, HasMode, OperationHas, HasField, IsIndexed, IsStructure, PartsLead}
use Rattle.typed_laws.specs.Typed.{TypedAs, IsNameTyped}
use Rattle.typed_laws.proofs.Modes.{its_mode}
use Rattle.typed_laws.proofs.Made.{made_parts, GoesTo}

-- what the parts of a name are of
abbrev pub RootHas : Context → Root → ModeTree → Type 0
RootHas ctx (at_base b) m = BaseHas ctx b m
RootHas ctx (of_value e) m = HasMode ctx e m

pub record PathTyped (ctx : Context) (p : Path) : Type 0 where
  pub of : ModeTree
  pub root : RootHas ctx p.root of
  pub leads : PartsLead ctx (made.part_nodes p.parts) of p.mode

pub operation_has : (ctx : Context) (p : Path) → PathTyped ctx p → OperationHas ctx (operation_at p) p.mode
operation_has ctx p t = by p.root t.root
  where
    by : (r : Root) → RootHas ctx r t.of → OperationHas ctx (contents_at r p.parts (scalars_of p.mode)) p.mode
    by (at_base b) has = (t.of, has, t.leads, refl)
    by (of_value e) has = (t.of, has, t.leads)

-- one part more
leads_on : (ctx : Context) (ps : List made.PartTree) (p : made.PartTree) (of own m : ModeTree) → PartsLead ctx (made.part_nodes ps) of own → PartsLead ctx (made.with_part p made.no_parts) own m → PartsLead ctx (made.part_nodes (ps ++ p ∷ [])) of m
leads_on ctx [] p of own m first last = subst (λ k. PartsLead ctx (made.with_part p made.no_parts) k m) (sym first) last
leads_on ctx (made.one_field k count ∷ ps) p of own m first last = (first.0, first.1, first.2, first.3, first.4, leads_on ctx ps p first.1 own m first.5 last)
leads_on ctx (made.one_element e b count ∷ ps) p of own m first last = (first.0, first.1, first.2, first.3, first.4, leads_on ctx ps p first.1 own m first.5 last)

with_one : (ctx : Context) (p : Path) (part : made.PartTree) (m : ModeTree) (q : Path) → PathTyped ctx p → PartsLead ctx (made.with_part part made.no_parts) p.mode m → with_part part m p ≡ q → PathTyped ctx q
with_one ctx p part m q t last is = subst (PathTyped ctx) is (record { of = t.of; root = t.root; leads = leads_on ctx p.parts part t.of p.mode m t.leads last })

-- ---- fields

has_field : (n : List ℕ) (fs : FieldNodes) (from : ℕ) (m : ModeTree) → field_in n fs ≡ Some m → HasField fs from (from + first_in n fs) m
has_field n no_fields from m is = no_some m is
has_field n (more_fields own k at fs) from m is = by (bytes_eq own n) is (λ is. has_field n fs (from + scalars_of k) m is)
  where
    by : (b : Bool) → (if b then Some k else field_in n fs) ≡ Some m → (field_in n fs ≡ Some m → HasField fs (from + scalars_of k) (from + scalars_of k + first_in n fs) m)
        → HasField (more_fields own k at fs) from (from + (if b then 0 else scalars_of k + first_in n fs)) m
    by true is later = inl (omega arith, same_some k m is)
    by false is later = inr (subst (λ j. HasField fs (from + scalars_of k) j m) (omega arith) (later is))

field_lead : (n : List ℕ) (f : FormTree) (m : ModeTree) → field_of_form n f ≡ Some m → (fs : FieldNodes) × IsStructure f fs × HasField fs 0 (first_of_field n f) m
field_lead n (of_structure fs p) m is = (fs, refl, subst (λ j. HasField fs 0 j m) (omega arith) (has_field n fs 0 m is))
field_lead n f m is = no_some m is

pub field_typed : (ctx : Context) (n : List ℕ) (p q : Path) → PathTyped ctx p → field_path n p ≡ Some q → PathTyped ctx q
field_typed ctx n p q t is =
    let there = there_mapped (λ m. with_part (made.one_field (first_of_field n (form_of p.mode)) (scalars_of m)) m p) (field_of_form n (form_of p.mode)) q is in
    let lead = field_lead n (form_of p.mode) there.0 there.1 in
    with_one ctx p (made.one_field (first_of_field n (form_of p.mode)) (scalars_of there.0)) there.0 q t (lead.0, there.0, lead.1, lead.2, refl, refl) there.2

pub field_mode : (n : List ℕ) (p q : Path) (m : ModeTree) → field_of_form n (form_of p.mode) ≡ Some m → field_path n p ≡ Some q → q.mode ≡ m
field_mode n p q m has is =
    let there = there_mapped (λ m. with_part (made.one_field (first_of_field n (form_of p.mode)) (scalars_of m)) m p) (field_of_form n (form_of p.mode)) q is in
    sym (ap (λ (x : Path). x.mode) there.2) ∙ same_some there.0 m (sym there.1 ∙ has)

-- ---- elements

indexed : (f : FormTree) (b : Bounds) (i m : ModeTree) → index_bounds f ≡ Some b → element_of_form f ≡ Some m → index_of_form f ≡ Some i → IsIndexed f b i m
indexed (of_array j e how) b i m bounds of index = (same_some j i index, bounds, same_some e m of)
indexed (of_chars n) b i m bounds of index = (same_some int i index, same_some (record { low = pos 0; high = pos n -ℤ pos 1 }) b bounds, same_some char m of)
indexed f b i m bounds of index = no_some i index

pub element_typed : (ctx : Context) (x : made.ExprTree) (p q : Path) (i : ModeTree) → PathTyped ctx p → index_of_form (form_of p.mode) ≡ Some i → GoesTo ctx x i → element_path x p ≡ Some q → PathTyped ctx q
element_typed ctx x p q i t index goes is =
    let of_both : Bounds → ModeTree → Path = λ b m. with_part (made.one_element x b (scalars_of m)) m p in
    let made_by = made_parts of_both (index_bounds (form_of p.mode)) (element_of_form (form_of p.mode)) q is in
    with_one ctx p (made.one_element x made_by.first (scalars_of made_by.second)) made_by.second q t
    (i, made_by.second, indexed (form_of p.mode) made_by.first i made_by.second made_by.of_first made_by.of_second index, goes, refl, refl) made_by.whole

pub element_mode : (x : made.ExprTree) (p q : Path) (m : ModeTree) → element_of_form (form_of p.mode) ≡ Some m → element_path x p ≡ Some q → q.mode ≡ m
element_mode x p q m has is =
    let of_both : Bounds → ModeTree → Path = λ b m. with_part (made.one_element x b (scalars_of m)) m p in
    let built_by = made_parts of_both (index_bounds (form_of p.mode)) (element_of_form (form_of p.mode)) q is in
    sym (ap (λ (y : Path). y.mode) built_by.whole) ∙ same_some built_by.second m (sym built_by.of_second ∙ has)

-- ---- names

pub value_path_typed : (ctx : Context) (e : Option made.ExprTree) (c : Option ClassTree) (d : ClassTree) (p : Path) → ((x : made.ExprTree) → e ≡ Some x → TypedAs ctx x d) → c ≡ Some d → path_of_value e c ≡ Some p → PathTyped ctx p
value_path_typed ctx e c d p typed class is =
    let of_both : made.ExprTree → ModeTree → Path = λ e m. record { root = of_value e; parts = []; mode = m } in
    let made_by = made_parts of_both e (option_and_then mode_in c) p is in
    let t = typed made_by.first made_by.of_first in
    let same = its_mode d t.mode made_by.second t.of (sym (ap (option_and_then mode_in) class) ∙ made_by.of_second) in
    subst (PathTyped ctx) made_by.whole (record { of = made_by.second; root = subst (λ m. HasMode ctx made_by.first m) (sym same) t.has; leads = refl })

entry_value : (e : Option ModeTree) (c : ClassTree) (k : ModeTree) → option_map value e ≡ Some c → mode_in c ≡ Some k → e ≡ Some k
entry_value e c k is has = let there = there_mapped value e c is in there.1 ∙ (ap mode_in there.2 ∙ has)

no_value : {A : Type 0} (b : Bool) (c : ClassTree) (k : ModeTree) → when b nothing ≡ Some c → mode_in c ≡ Some k → A
no_value true c k is has = no_some k (ap mode_in (same_some nothing c is) ∙ has)
no_value false c k is has = no_some c is

-- a name with a mode that is no constant has the mode of its entry
entry_mode : (e : Option Entry) (o : Option Origin) (c : ClassTree) (k : ModeTree) → is_constant_origin o ≡ false → class_of_origin e o ≡ Some c → mode_in c ≡ Some k → mode_of_entry e ≡ Some k
entry_mode e (Some (a_location d)) c k form is has = entry_value (mode_of_entry e) c k is has
entry_mode e (Some (a_parameter m)) c k form is has = entry_value (mode_of_entry e) c k is has
entry_mode e (Some (a_counter l)) c k form is has = entry_value (mode_of_entry e) c k is has
entry_mode e (Some (a_received n count part)) c k form is has = entry_value (mode_of_entry e) c k is has
entry_mode e (Some (a_procedure p)) c k form is has = no_value true c k is has
entry_mode e (Some (a_synonym s)) c k form is has = absurd (true≢false form)
entry_mode e (Some (an_element names part owner)) c k form is has = absurd (true≢false form)
entry_mode e (Some (a_predefined (truth b))) c k form is has = absurd (true≢false form)
entry_mode e (Some (a_predefined no_instance)) c k form is has = absurd (true≢false form)
entry_mode e (Some (a_predefined p)) c k form is has = no_value (is_routine p) c k is has
entry_mode e o c k form is has = no_some c is

pub location_typed : (s : Source) (ctx : Context) (n : Name) (p : Path) → IsNameTyped s ctx n → is_constant_origin (origin_of s.known n) ≡ false → location_named s n ≡ Some p → PathTyped ctx p
location_typed s ctx n p typed form is =
    let of_both : Base → ModeTree → Path = λ b m. record { root = at_base b; parts = []; mode = m } in
    let made_by = made_parts of_both (option_and_then base_of (thing_used s n)) (option_and_then mode_in (class_of s.known (name n))) p is in
    let class = there_chained mode_in (class_of s.known (name n)) made_by.second made_by.of_second in
    let mode = entry_mode (entry_of s.known n) (origin_of s.known n) class.0 made_by.second form class.1 class.2 in
    subst (PathTyped ctx) made_by.whole (record { of = made_by.second; root = typed.base made_by.second made_by.first mode made_by.of_first; leads = refl })
