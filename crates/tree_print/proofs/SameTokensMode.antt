-- The tokens of a mode or a definition are one at other places too.
use Rattle.std.proofs.Common.{◌≡◌, suc, ◌<◌, true, false, not, List, [], ◌∷◌, ◌++◌, map, Option, Some, None, refl, ap, sym, ◌∙◌, subst}
use Rattle.std.specs.Prelude.{option_map}
use Rattle.chill_tree.specs.declared.tree.mode.Packing.{Packing}
use Rattle.chill_tree.specs.declared.tree.mode.Packing.TheVariants as packings
use Rattle.chill_tree.specs.declared.tree.mode.PlaceForm.TheVariants as forms
use Rattle.chill_tree.specs.ModeTree.{DiscreteTree, named, bounded, set_of, IndexTree, index_named, index_bounded, PlaceTree, StepTree, SpreadTree, by_packing, by_step, BaseTree, discrete, powerset, chars, structure, array, more_fields, FieldTree, field_nodes, ModeTree, base_mode, read_mode, event_mode, buffer_mode}
use Rattle.chill_tree.specs.LocalTree.{InitialTree, LocalTree, synonyms, syn_modes, new_modes, locations}
use Rattle.rules_model.specs.Marks.{Toks}
use Rattle.rules_model.specs.ModeGrammar.{IsDiscrete, is_named_mode, is_bounded, is_set, IsIndex, is_index_name, is_index_range, IsPlace, up_to, of_length, IsFieldPlace, no_place, with_place, IsStep, is_step, IsPacking, no_packing, packed, not_packed, IsSpread, no_spread, spread_packed, spread_not_packed, spread_by_step, is_bare_array, is_bare, leaves_word, arrays_in, IsBase, is_discrete, is_powerset, is_chars, is_structure, is_array, AreFields, one_field, and_field, IsField, is_field, IsMode, is_base_mode, is_read_mode, is_event_mode, is_buffer_mode}
use Rattle.rules_model.specs.LocalGrammar.{IsWrittenMode, no_mode, with_mode, IsSynonym, is_synonym, IsModeDefinition, is_mode_definition, IsInitial, no_initial, by_sign, by_word, IsDeclaration, is_declaration, IsLocal, are_synonyms, are_syn_modes, are_new_modes, are_locations}
use Rattle.tree_print.specs.SameTree.{nowhere, unplaced_name, unplaced_discrete, unplaced_index, unplaced_place, unplaced_step, unplaced_spread, unplaced_base, unplaced_fields, unplaced_mode, unplaced_synonym, unplaced_mode_definition, unplaced_initial, unplaced_declaration, unplaced_local}
use Rattle.tree_print.proofs.SameTokens.{Places, placed, name_before, Again, Stays, and_same, same_held}
use Rattle.tree_print.proofs.SameTokensExpr.{same_ranked}
use Rattle.tree_print.proofs.SameTokensList.{same_listed, same_names, same_length}

same_discrete : {d : DiscreteTree} {toks rest : Toks} → IsDiscrete d toks rest → (f : Places) → Again IsDiscrete unplaced_discrete f d toks rest
same_discrete (is_named_mode {n = n} {rest = rest}) f = record { tree = named (name_before f rest n); is = is_named_mode; same = refl }
same_discrete (is_bounded {n = n} l h) f =
    let x = same_ranked l f in
    let y = same_ranked h f in
    record { tree = bounded (record { at = _; text = n.text }) x.tree y.tree; is = is_bounded x.is y.is; same = λ i. bounded (unplaced_name n) (x.same i) (y.same i) }
same_discrete (is_set d) f = let x = same_names d f in record { tree = set_of _ x.tree; is = is_set x.is; same = λ i. set_of nowhere (x.same i) }

same_index : {i : IndexTree} {toks rest : Toks} → IsIndex i toks rest → (f : Places) → Again IsIndex unplaced_index f i toks rest
same_index (is_index_name {n = n} {rest = rest}) f = record { tree = index_named (name_before f rest n); is = is_index_name; same = refl }
same_index (is_index_range l h) f =
    let x = same_ranked l f in
    let y = same_ranked h f in
    record { tree = index_bounded x.tree y.tree; is = is_index_range x.is y.is; same = λ i. index_bounded (x.same i) (y.same i) }

same_place : {p : PlaceTree} {toks rest : Toks} → IsPlace p toks rest → (f : Places) → Again IsPlace unplaced_place f p toks rest
same_place (up_to w s b) f =
    let x = same_ranked w f in
    let y = same_ranked s f in
    let z = same_ranked b f in
    record { tree = record { at = _; word = x.tree; start = y.tree; form = forms.End; bound = z.tree }; is = up_to x.is y.is z.is; same = λ i. record { at = nowhere; word = x.same i; start = y.same i; form = forms.End; bound = z.same i } }
same_place (of_length w s b) f =
    let x = same_ranked w f in
    let y = same_ranked s f in
    let z = same_ranked b f in
    record { tree = record { at = _; word = x.tree; start = y.tree; form = forms.Length; bound = z.tree }; is = of_length x.is y.is z.is; same = λ i. record { at = nowhere; word = x.same i; start = y.same i; form = forms.Length; bound = z.same i } }

same_field_place : {p : Option PlaceTree} {toks rest : Toks} → IsFieldPlace p toks rest → (f : Places) → Again IsFieldPlace (option_map unplaced_place) f p toks rest
same_field_place no_place f = record { tree = None; is = no_place; same = refl }
same_field_place (with_place d) f = let x = same_place d f in record { tree = Some x.tree; is = with_place x.is; same = λ i. Some (x.same i) }

same_step : {s : StepTree} {toks rest : Toks} → IsStep s toks rest → (f : Places) → Again IsStep unplaced_step f s toks rest
same_step (is_step p d) f =
    let x = same_place p f in
    let y = same_ranked d f in
    record { tree = record { at = _; place = x.tree; distance = y.tree }; is = is_step x.is y.is; same = λ i. record { at = nowhere; place = x.same i; distance = y.same i } }

same_packing : {p : Option Packing} {toks rest : Toks} → IsPacking p toks rest → (f : Places) → IsPacking p (placed f toks) (placed f rest)
same_packing no_packing f = no_packing
same_packing packed f = packed
same_packing not_packed f = not_packed

same_spread : {s : Option SpreadTree} {toks rest : Toks} → IsSpread s toks rest → (f : Places) → Again IsSpread (option_map unplaced_spread) f s toks rest
same_spread no_spread f = record { tree = None; is = no_spread; same = refl }
same_spread spread_packed f = record { tree = Some (by_packing packings.Pack); is = spread_packed; same = refl }
same_spread spread_not_packed f = record { tree = Some (by_packing packings.NoPack); is = spread_not_packed; same = refl }
same_spread (spread_by_step d) f = let x = same_step d f in record { tree = Some (by_step x.tree); is = spread_by_step x.is; same = λ i. Some (by_step (x.same i)) }

-- ---- what is asked of elements

bare_array_unplaced : (e : BaseTree) → is_bare_array (unplaced_base e) ≡ is_bare_array e
bare_array_unplaced (discrete d) = refl
bare_array_unplaced (powerset at d) = refl
bare_array_unplaced (chars at e) = refl
bare_array_unplaced (structure at fs p) = refl
bare_array_unplaced (array at i e None) = refl
bare_array_unplaced (array at i e (Some s)) = refl

bare_unplaced : (e : BaseTree) → is_bare (unplaced_base e) ≡ is_bare e
bare_unplaced (discrete d) = refl
bare_unplaced (powerset at d) = refl
bare_unplaced (chars at e) = refl
bare_unplaced (structure at fs None) = refl
bare_unplaced (structure at fs (Some p)) = refl
bare_unplaced (array at i e None) = refl
bare_unplaced (array at i e (Some s)) = refl

leaves_unplaced : (e : BaseTree) (s : Option SpreadTree) → leaves_word (unplaced_base e) (option_map unplaced_spread s) ≡ leaves_word e s
leaves_unplaced e None = refl
leaves_unplaced e (Some (by_packing p)) = ap not (bare_unplaced e)
leaves_unplaced e (Some (by_step s)) = ap not (bare_array_unplaced e)

arrays_unplaced : (e : BaseTree) → arrays_in (unplaced_base e) ≡ arrays_in e
arrays_unplaced (discrete d) = refl
arrays_unplaced (powerset at d) = refl
arrays_unplaced (chars at e) = refl
arrays_unplaced (structure at fs p) = refl
arrays_unplaced (array at i e s) = ap suc (arrays_unplaced e)

same_leaves : (e d : BaseTree) (s t : Option SpreadTree) → unplaced_base e ≡ unplaced_base d → option_map unplaced_spread s ≡ option_map unplaced_spread t → leaves_word d t ≡ leaves_word e s
same_leaves e d s t p q = sym (leaves_unplaced d t) ∙ sym (λ i. leaves_word (p i) (q i)) ∙ leaves_unplaced e s

same_arrays : (e d : BaseTree) → unplaced_base e ≡ unplaced_base d → arrays_in e ≡ arrays_in d
same_arrays e d p = sym (arrays_unplaced e) ∙ ap arrays_in p ∙ arrays_unplaced d

-- ---- modes

abbrev unplaced_field : FieldTree → FieldTree
unplaced_field x = record { names = map unplaced_name x.names; base = unplaced_base x.base; place = option_map unplaced_place x.place }

fields_held : (fs : List FieldTree) → unplaced_fields (field_nodes fs) ≡ field_nodes (map unplaced_field fs)
fields_held [] = refl
fields_held (x ∷ fs) = λ i. more_fields (map unplaced_name x.names) (unplaced_base x.base) (option_map unplaced_place x.place) (fields_held fs i)

held_fields : (fs gs : List FieldTree) → map unplaced_field fs ≡ map unplaced_field gs → unplaced_fields (field_nodes fs) ≡ unplaced_fields (field_nodes gs)
held_fields = same_held field_nodes unplaced_fields (map unplaced_field) fields_held

mutual
  same_base : {b : BaseTree} {toks rest : Toks} → IsBase b toks rest → (f : Places) → Again IsBase unplaced_base f b toks rest
  same_base (is_discrete d) f = let x = same_discrete d f in record { tree = discrete x.tree; is = is_discrete x.is; same = λ i. discrete (x.same i) }
  same_base (is_powerset d) f = let x = same_discrete d f in record { tree = powerset _ x.tree; is = is_powerset x.is; same = λ i. powerset nowhere (x.same i) }
  same_base (is_chars d) f = let x = same_ranked d f in record { tree = chars _ x.tree; is = is_chars x.is; same = λ i. chars nowhere (x.same i) }
  same_base (is_structure {fs = fs} {w = w} d p) f =
      let x = same_fields d f in
      record { tree = structure _ (field_nodes x.tree) w; is = is_structure x.is (same_packing p f); same = λ i. structure nowhere (held_fields fs x.tree x.same i) w }
  same_base (is_array {e = e} {s = s} n d w leaves few) f =
      let x = same_index n f in
      let y = same_base d f in
      let z = same_spread w f in
      record { tree = array _ x.tree y.tree z.tree; is = is_array x.is y.is z.is (same_leaves e y.tree s z.tree y.same z.same ∙ leaves) (subst (λ n. n < 8) (same_arrays e y.tree y.same) few); same = λ i. array nowhere (x.same i) (y.same i) (z.same i) }

  same_fields : {fs : List FieldTree} {toks rest : Toks} → AreFields fs toks rest → (f : Places) → Again AreFields (map unplaced_field) f fs toks rest
  same_fields (one_field d) f = let x = same_field d f in record { tree = x.tree ∷ []; is = one_field x.is; same = λ i. x.same i ∷ [] }
  same_fields (and_field {fs = fs} {f = e} l d) f =
      let x = same_fields l f in
      let y = same_field d f in
      record { tree = x.tree ++ y.tree ∷ []; is = and_field x.is y.is; same = and_same unplaced_field fs x.tree e y.tree x.same y.same }

  same_field : {x : FieldTree} {toks rest : Toks} → IsField x toks rest → (f : Places) → Again IsField unplaced_field f x toks rest
  same_field (is_field ns b p) f =
      let x = same_names ns f in
      let y = same_base b f in
      let z = same_field_place p f in
      record { tree = record { names = x.tree; base = y.tree; place = z.tree }; is = is_field x.is y.is z.is; same = λ i. record { names = x.same i; base = y.same i; place = z.same i } }

pub same_mode : {o : ModeTree} {toks rest : Toks} → IsMode o toks rest → (f : Places) → Again IsMode unplaced_mode f o toks rest
same_mode (is_base_mode d) f = let x = same_base d f in record { tree = base_mode x.tree; is = is_base_mode x.is; same = λ i. base_mode (x.same i) }
same_mode (is_read_mode d) f = let x = same_base d f in record { tree = read_mode _ x.tree; is = is_read_mode x.is; same = λ i. read_mode nowhere (x.same i) }
same_mode (is_event_mode l) f = let x = same_length l f in record { tree = event_mode _ x.tree; is = is_event_mode x.is; same = λ i. event_mode nowhere (x.same i) }
same_mode (is_buffer_mode l d) f =
    let x = same_length l f in
    let y = same_base d f in
    record { tree = buffer_mode _ x.tree y.tree; is = is_buffer_mode x.is y.is; same = λ i. buffer_mode nowhere (x.same i) (y.same i) }

-- ---- definitions

same_written_mode : {o : Option ModeTree} {toks rest : Toks} → IsWrittenMode o toks rest → (f : Places) → Again IsWrittenMode (option_map unplaced_mode) f o toks rest
same_written_mode no_mode f = record { tree = None; is = no_mode; same = refl }
same_written_mode (with_mode d) f = let x = same_mode d f in record { tree = Some x.tree; is = with_mode x.is; same = λ i. Some (x.same i) }

same_synonym : (f : Places) → Stays IsSynonym unplaced_synonym f
same_synonym f s toks rest (is_synonym ns o d) =
    let x = same_names ns f in
    let y = same_written_mode o f in
    let z = same_ranked d f in
    record { tree = record { names = x.tree; mode = y.tree; value = z.tree }; is = is_synonym x.is y.is z.is; same = λ i. record { names = x.same i; mode = y.same i; value = z.same i } }

same_mode_definition : (f : Places) → Stays IsModeDefinition unplaced_mode_definition f
same_mode_definition f s toks rest (is_mode_definition {n = n} d) =
    let x = same_mode d f in
    record { tree = record { name = record { at = _; text = n.text }; mode = x.tree }; is = is_mode_definition x.is; same = λ i. record { name = unplaced_name n; mode = x.same i } }

same_initial : {x : Option InitialTree} {toks rest : Toks} → IsInitial x toks rest → (f : Places) → Again IsInitial (option_map unplaced_initial) f x toks rest
same_initial no_initial f = record { tree = None; is = no_initial; same = refl }
same_initial (by_sign d) f =
    let x = same_ranked d f in
    record { tree = Some (record { at = _; init = false; value = x.tree }); is = by_sign x.is; same = λ i. Some (record { at = nowhere; init = false; value = x.same i }) }
same_initial (by_word d) f =
    let x = same_ranked d f in
    record { tree = Some (record { at = _; init = true; value = x.tree }); is = by_word x.is; same = λ i. Some (record { at = nowhere; init = true; value = x.same i }) }

same_declaration : (f : Places) → Stays IsDeclaration unplaced_declaration f
same_declaration f s toks rest (is_declaration ns o d) =
    let x = same_names ns f in
    let y = same_mode o f in
    let z = same_initial d f in
    record { tree = record { names = x.tree; mode = y.tree; initial = z.tree }; is = is_declaration x.is y.is z.is; same = λ i. record { names = x.same i; mode = y.same i; initial = z.same i } }

pub same_local : {l : LocalTree} {toks rest : Toks} → IsLocal l toks rest → (f : Places) → Again IsLocal unplaced_local f l toks rest
same_local (are_synonyms d) f = let x = same_listed unplaced_synonym f (same_synonym f) d in record { tree = synonyms _ x.tree; is = are_synonyms x.is; same = λ i. synonyms nowhere (x.same i) }
same_local (are_syn_modes d) f = let x = same_listed unplaced_mode_definition f (same_mode_definition f) d in record { tree = syn_modes _ x.tree; is = are_syn_modes x.is; same = λ i. syn_modes nowhere (x.same i) }
same_local (are_new_modes d) f = let x = same_listed unplaced_mode_definition f (same_mode_definition f) d in record { tree = new_modes _ x.tree; is = are_new_modes x.is; same = λ i. new_modes nowhere (x.same i) }
same_local (are_locations d) f = let x = same_listed unplaced_declaration f (same_declaration f) d in record { tree = locations _ x.tree; is = are_locations x.is; same = λ i. locations nowhere (x.same i) }
