-- The names in a mode or a definition statement stand among its tokens, in order.
use Rattle.std.proofs.Common.{◌≡◌, List, [], ◌∷◌, ◌++◌, Bool, Option, None, refl, ap}
use Rattle.std.specs.Prelude.{map, flat_map}
use Rattle.chill_base.specs.declared.pos.Pos.{Pos}
use Rattle.chill_tree.specs.declared.token.Word.{Word}
use Rattle.chill_tree.specs.declared.tree.name.Name.{Name}
use Rattle.chill_tree.specs.declared.tree.mode.Packing.{Packing}
use Rattle.chill_tree.specs.ExprTree.{ExprTree}
use Rattle.chill_tree.specs.ModeTree.{DiscreteTree, IndexTree, PlaceTree, SpreadTree, BaseTree, FieldTree, field_nodes, ModeTree}
use Rattle.chill_tree.specs.LocalTree.{InitialTree, LocalTree}
use Rattle.rules_model.specs.Marks.{Toks}
use Rattle.rules_model.specs.ExprGrammar.{IsExpr}
use Rattle.rules_model.specs.ListGrammar.{IsName, AreListed, one_of, and_of, is_name, AreNames, IsClause, no_clause, with_clause, IsFlag, no_flag, with_flag, IsLength, no_length, with_length, IsLabel, no_label, with_label, IsClosing, left_open, closed_by}
use Rattle.rules_model.specs.ModeGrammar.{IsDiscrete, is_named_mode, is_bounded, is_set, IsIndex, is_index_name, is_index_range, IsPlace, up_to, of_length, IsFieldPlace, no_place, with_place, is_step, IsPacking, no_packing, packed, not_packed, IsSpread, no_spread, spread_packed, spread_not_packed, spread_by_step, IsBase, is_discrete, is_powerset, is_chars, is_structure, is_array, AreFields, one_field, and_field, IsField, is_field, IsMode, is_base_mode, is_read_mode, is_event_mode, is_buffer_mode}
use Rattle.rules_model.specs.LocalGrammar.{IsWrittenMode, no_mode, with_mode, IsSynonym, is_synonym, IsModeDefinition, is_mode_definition, IsInitial, no_initial, by_sign, by_word, IsDeclaration, is_declaration, IsLocal, are_synonyms, are_syn_modes, are_new_modes, are_locations}
use Rattle.names_model.specs.declared.part.Mention.{Mention}
use Rattle.names_model.specs.declared.part.Mention.TheVariants.{Element}
use Rattle.names_model.specs.Identifiers.{identifier, identifiers}
use Rattle.names_model.specs.ExprMentions.{mentions_of, mentions_of_some}
use Rattle.names_model.specs.ModeMentions.{mentions_of_discrete, mentions_of_index, mentions_of_place, mentions_of_some_place, mentions_of_spread, mentions_of_base, mentions_of_fields, mentions_of_mode, mentions_of_some_mode}
use Rattle.names_model.specs.StatementParts.{synonym_part, mode_part, initial_parts, declaration_parts, local_parts}
use Rattle.names_laws.proofs.NamePlaces.{Sought, of_mention, of_name, of_part, Uses, none, skip, ends, pass, then_passed, both, as_list, many_one, many_and, taking, taking_element, taking_name, mentioned_uses, defining}
use Rattle.names_laws.proofs.NamePlacesExpr.{ranked_uses}

-- ---- lists, and what may be left out

-- what is of a kind of trees has the uses of the tree among its tokens
abbrev pub Keeps : {X A : Type 0} → (X → List Pos) → (A → Toks → Toks → Type 0) → (A → List X) → Type 0
Keeps {X} {A} f Is g = (a : A) (toks rest : Toks) → Is a toks rest → Uses f (g a) toks rest

pub listed_uses : {X A : Type 0} {f : X → List Pos} {Is : A → Toks → Toks → Type 0} (g : A → List X) → Keeps f Is g → {as' : List A} {toks rest : Toks} → AreListed Is as' toks rest → Uses f (flat_map g as') toks rest
listed_uses g keeps (one_of {x = x} d) = many_one g x (keeps _ _ _ d)
listed_uses g keeps (and_of {xs = xs} {x = x} l d) = many_and g xs x (ends (listed_uses g keeps l)) (keeps _ _ _ d)

-- a list in which each has one
pub mapped : {X A : Type 0} (g : A → X) (as' : List A) → flat_map (λ a. g a ∷ []) as' ≡ map g as'
mapped g [] = refl
mapped g (a ∷ as') = ap (λ xs. g a ∷ xs) (mapped g as')

module _ {X : Type 0} {f : X → List Pos} where
  pub names_passed : {ns : List Name} {toks rest : Toks} → AreNames ns toks rest → Uses f [] toks rest
  names_passed (one_of is_name) = skip none
  names_passed (and_of l is_name) = pass (ends (names_passed l)) (skip none)

  pub flag_passed : {w : Word} {b : Bool} {toks rest : Toks} → IsFlag w b toks rest → Uses f [] toks rest
  flag_passed no_flag = none
  flag_passed with_flag = skip none

  pub label_passed : {l : Option Name} {toks rest : Toks} → IsLabel l toks rest → Uses f [] toks rest
  label_passed no_label = none
  label_passed with_label = skip (skip none)

  pub closing_passed : {l c : Option Name} {toks rest : Toks} → IsClosing l c toks rest → Uses f [] toks rest
  closing_passed left_open = none
  closing_passed (closed_by e) = skip none

  packing_passed : {p : Option Packing} {toks rest : Toks} → IsPacking p toks rest → Uses f [] toks rest
  packing_passed no_packing = none
  packing_passed packed = skip none
  packing_passed not_packed = skip none

abbrev field_mentions : FieldTree → List Mention
field_mentions x = mentions_of_base x.base ++ mentions_of_some_place x.place

fields_flat : (fs : List FieldTree) → flat_map field_mentions fs ≡ mentions_of_fields (field_nodes fs)
fields_flat [] = refl
fields_flat (f ∷ fs) = ap (λ ms. (mentions_of_base f.base ++ mentions_of_some_place f.place) ++ ms) (fields_flat fs)

module _ (sought : Sought) where
  -- an expression by itself
  pub expr_uses : {e : ExprTree} {toks rest : Toks} → IsExpr e toks rest → Uses (of_mention sought) (mentions_of e) toks rest
  expr_uses d = ranked_uses sought None d

  pub clause_uses : {w : Word} {c : Option ExprTree} {toks rest : Toks} → IsClause w IsExpr c toks rest → Uses (of_mention sought) (mentions_of_some c) toks rest
  clause_uses no_clause = none
  clause_uses (with_clause d) = skip (expr_uses d)

  length_uses : {l : Option ExprTree} {toks rest : Toks} → IsLength l toks rest → Uses (of_mention sought) (mentions_of_some l) toks rest
  length_uses no_length = none
  length_uses (with_length d) = skip (ends (expr_uses d))

  -- ---- modes

  element_uses : Keeps (of_mention sought) IsName (λ n. Element (identifier n) ∷ [])
  element_uses n toks rest is_name = taking_element sought n

  name_uses : Keeps (of_name sought) IsName (λ n. identifier n ∷ [])
  name_uses n toks rest is_name = taking_name sought n

  -- names that are defined
  pub names_defined : {ns : List Name} {toks rest : Toks} → AreNames ns toks rest → Uses (of_name sought) (identifiers ns) toks rest
  names_defined {ns = ns} d = as_list (mapped identifier ns) (listed_uses (λ n. identifier n ∷ []) name_uses d)

  discrete_uses : {d : DiscreteTree} {toks rest : Toks} → IsDiscrete d toks rest → Uses (of_mention sought) (mentions_of_discrete d) toks rest
  discrete_uses is_named_mode = taking sought none
  discrete_uses (is_bounded l h) = taking sought (skip (both (ends (expr_uses l)) (ends (expr_uses h))))
  discrete_uses (is_set {ns = ns} d) = skip (skip (as_list (mapped (λ n. Element (identifier n)) ns) (ends (listed_uses (λ n. Element (identifier n) ∷ []) element_uses d))))

  index_uses : {i : IndexTree} {toks rest : Toks} → IsIndex i toks rest → Uses (of_mention sought) (mentions_of_index i) toks rest
  index_uses is_index_name = taking sought none
  index_uses (is_index_range l h) = both (ends (expr_uses l)) (expr_uses h)

  place_uses : {p : PlaceTree} {toks rest : Toks} → IsPlace p toks rest → Uses (of_mention sought) (mentions_of_place p) toks rest
  place_uses (up_to w s b) = skip (skip (both (both (ends (expr_uses w)) (ends (expr_uses s))) (ends (expr_uses b))))
  place_uses (of_length w s b) = skip (skip (both (both (ends (expr_uses w)) (ends (expr_uses s))) (ends (expr_uses b))))

  field_place_uses : {p : Option PlaceTree} {toks rest : Toks} → IsFieldPlace p toks rest → Uses (of_mention sought) (mentions_of_some_place p) toks rest
  field_place_uses no_place = none
  field_place_uses (with_place d) = place_uses d

  spread_uses : {s : Option SpreadTree} {toks rest : Toks} → IsSpread s toks rest → Uses (of_mention sought) (mentions_of_spread s) toks rest
  spread_uses no_spread = none
  spread_uses spread_packed = skip none
  spread_uses spread_not_packed = skip none
  spread_uses (spread_by_step (is_step p d)) = skip (skip (both (ends (place_uses p)) (ends (expr_uses d))))

  mutual
    base_uses : {b : BaseTree} {toks rest : Toks} → IsBase b toks rest → Uses (of_mention sought) (mentions_of_base b) toks rest
    base_uses (is_discrete d) = discrete_uses d
    base_uses (is_powerset d) = skip (discrete_uses d)
    base_uses (is_chars d) = skip (skip (ends (expr_uses d)))
    base_uses (is_structure {fs = fs} d p) = skip (skip (then_passed (as_list (fields_flat fs) (ends (fields_uses d))) (packing_passed p)))
    base_uses (is_array i e s leaves few) = skip (skip (both (both (ends (index_uses i)) (base_uses e)) (spread_uses s)))

    fields_uses : {fs : List FieldTree} {toks rest : Toks} → AreFields fs toks rest → Uses (of_mention sought) (flat_map field_mentions fs) toks rest
    fields_uses (one_field {f = f} d) = many_one field_mentions f (field_uses d)
    fields_uses (and_field {fs = fs} {f = f} l d) = many_and field_mentions fs f (ends (fields_uses l)) (field_uses d)

    field_uses : {x : FieldTree} {toks rest : Toks} → IsField x toks rest → Uses (of_mention sought) (field_mentions x) toks rest
    field_uses (is_field ns b p) = pass (names_passed ns) (both (base_uses b) (field_place_uses p))

  pub mode_uses : {o : ModeTree} {toks rest : Toks} → IsMode o toks rest → Uses (of_mention sought) (mentions_of_mode o) toks rest
  mode_uses (is_base_mode d) = base_uses d
  mode_uses (is_read_mode d) = skip (base_uses d)
  mode_uses (is_event_mode l) = skip (length_uses l)
  mode_uses (is_buffer_mode l d) = skip (both (length_uses l) (base_uses d))

  -- ---- definition statements

  written_mode_uses : {o : Option ModeTree} {toks rest : Toks} → IsWrittenMode o toks rest → Uses (of_mention sought) (mentions_of_some_mode o) toks rest
  written_mode_uses no_mode = none
  written_mode_uses (with_mode d) = mode_uses d

  synonym_uses : Keeps (of_part sought) IsSynonym (λ s. synonym_part s ∷ [])
  synonym_uses s toks rest (is_synonym ns o e) = defining sought _ _ _ [] (names_defined ns) (both (ends (written_mode_uses o)) (expr_uses e)) none

  mode_definition_uses : Keeps (of_part sought) IsModeDefinition (λ d. mode_part d ∷ [])
  mode_definition_uses x toks rest (is_mode_definition {n = n} d) = defining sought _ (n ∷ []) _ [] (taking_name sought n) (skip (mode_uses d)) none

  initial_uses : {i : Option InitialTree} {toks rest : Toks} → IsInitial i toks rest → Uses (of_part sought) (initial_parts i) toks rest
  initial_uses no_initial = none
  initial_uses (by_sign {e = e} d) = skip (mentioned_uses sought (mentions_of e) (expr_uses d))
  initial_uses (by_word {e = e} d) = skip (skip (mentioned_uses sought (mentions_of e) (expr_uses d)))

  declaration_uses : Keeps (of_part sought) IsDeclaration declaration_parts
  declaration_uses x toks rest (is_declaration ns o i) = defining sought _ _ _ _ (names_defined ns) (mode_uses o) (initial_uses i)

  pub local_uses : {l : LocalTree} {toks rest : Toks} → IsLocal l toks rest → Uses (of_part sought) (local_parts l) toks rest
  local_uses (are_synonyms {ss = ss} d) = skip (ends (as_list (mapped synonym_part ss) (listed_uses (λ s. synonym_part s ∷ []) synonym_uses d)))
  local_uses (are_syn_modes {ds = ds} d) = skip (ends (as_list (mapped mode_part ds) (listed_uses (λ x. mode_part x ∷ []) mode_definition_uses d)))
  local_uses (are_new_modes {ds = ds} d) = skip (ends (as_list (mapped mode_part ds) (listed_uses (λ x. mode_part x ∷ []) mode_definition_uses d)))
  local_uses (are_locations d) = skip (ends (listed_uses declaration_parts declaration_uses d))
