-- The tokens of a mode or a definition are its own.
use Rattle.std.proofs.Common.{◌≡◌, List, [], ◌∷◌, ◌++◌, Option, refl, ap}
use Rattle.chill_tree.specs.declared.token.Sign.TheVariants as signs
use Rattle.chill_tree.specs.declared.tree.mode.Packing.{Packing}
use Rattle.chill_tree.specs.ModeTree.{DiscreteTree, IndexTree, PlaceTree, SpreadTree, BaseTree, FieldTree, field_nodes, ModeTree}
use Rattle.chill_tree.specs.LocalTree.{SynonymTree, ModeDefinitionTree, InitialTree, DeclarationTree, LocalTree}
use Rattle.rules_model.specs.Marks.{Toks}
use Rattle.rules_model.specs.ModeGrammar.{IsDiscrete, is_named_mode, is_bounded, is_set, IsIndex, is_index_name, is_index_range, IsPlace, up_to, of_length, IsFieldPlace, no_place, with_place, is_step, IsPacking, no_packing, packed, not_packed, IsSpread, no_spread, spread_packed, spread_not_packed, spread_by_step, IsBase, is_discrete, is_powerset, is_chars, is_structure, is_array, AreFields, one_field, and_field, IsField, is_field, IsMode, is_base_mode, is_read_mode, is_event_mode, is_buffer_mode}
use Rattle.rules_model.specs.LocalGrammar.{IsWrittenMode, no_mode, with_mode, IsSynonym, is_synonym, IsModeDefinition, is_mode_definition, IsInitial, no_initial, by_sign, by_word, IsDeclaration, is_declaration, IsLocal, are_synonyms, are_syn_modes, are_new_modes, are_locations}
use Rattle.rules_model.specs.TreeTokens.{Kinds, given, sign_kinds, names_kinds, after_commas, with_commas, discrete_kinds, index_kinds, place_kinds, packing_kinds, spread_kinds, base_kinds, fields_kinds, more_fields_kinds, mode_kinds, synonym_kinds, mode_definition_kinds, initial_kinds, declaration_kinds, local_kinds}
use Rattle.tree_print.proofs.TreeTokens.{Writes, nothing, token, last, both, as_kinds, WritesList, list_one, list_and}
use Rattle.tree_print.proofs.TreeTokensExpr.{ranked_tokens}
use Rattle.tree_print.proofs.TreeTokensList.{listed_tokens, names_tokens, length_tokens}

discrete_tokens : {d : DiscreteTree} {toks rest : Toks} → IsDiscrete d toks rest → Writes (discrete_kinds d) toks rest
discrete_tokens is_named_mode = last
discrete_tokens (is_bounded l h) = token (token (both (both (both (ranked_tokens l) last) (ranked_tokens h)) last))
discrete_tokens (is_set d) = token (token (both (names_tokens d) last))

index_tokens : {i : IndexTree} {toks rest : Toks} → IsIndex i toks rest → Writes (index_kinds i) toks rest
index_tokens is_index_name = last
index_tokens (is_index_range l h) = both (both (ranked_tokens l) last) (ranked_tokens h)

place_tokens : {p : PlaceTree} {toks rest : Toks} → IsPlace p toks rest → Writes (place_kinds p) toks rest
place_tokens (up_to w s b) = token (token (both (both (both (both (both (ranked_tokens w) last) (ranked_tokens s)) last) (ranked_tokens b)) last))
place_tokens (of_length w s b) = token (token (both (both (both (both (both (ranked_tokens w) last) (ranked_tokens s)) last) (ranked_tokens b)) last))

field_place_tokens : {p : Option PlaceTree} {toks rest : Toks} → IsFieldPlace p toks rest → Writes (given place_kinds p) toks rest
field_place_tokens no_place = nothing
field_place_tokens (with_place d) = place_tokens d

packing_tokens : {p : Option Packing} {toks rest : Toks} → IsPacking p toks rest → Writes (given packing_kinds p) toks rest
packing_tokens no_packing = nothing
packing_tokens packed = last
packing_tokens not_packed = last

spread_tokens : {s : Option SpreadTree} {toks rest : Toks} → IsSpread s toks rest → Writes (given spread_kinds s) toks rest
spread_tokens no_spread = nothing
spread_tokens spread_packed = last
spread_tokens spread_not_packed = last
spread_tokens (spread_by_step (is_step p d)) = token (token (both (both (both (place_tokens p) last) (ranked_tokens d)) last))

abbrev field_kinds : FieldTree → Kinds
field_kinds x = names_kinds x.names ++ base_kinds x.base ++ given place_kinds x.place

fields_after : (fs : List FieldTree) → after_commas field_kinds fs ≡ more_fields_kinds (field_nodes fs)
fields_after [] = refl
fields_after (f ∷ fs) = ap (λ ks. sign_kinds signs.Comma ++ (names_kinds f.names ++ base_kinds f.base ++ given place_kinds f.place) ++ ks) (fields_after fs)

fields_listed : (fs : List FieldTree) → with_commas field_kinds fs ≡ fields_kinds (field_nodes fs)
fields_listed [] = refl
fields_listed (f ∷ fs) = ap (λ ks. names_kinds f.names ++ base_kinds f.base ++ given place_kinds f.place ++ ks) (fields_after fs)

mutual
  base_tokens : {b : BaseTree} {toks rest : Toks} → IsBase b toks rest → Writes (base_kinds b) toks rest
  base_tokens (is_discrete d) = discrete_tokens d
  base_tokens (is_powerset d) = token (discrete_tokens d)
  base_tokens (is_chars d) = token (token (both (ranked_tokens d) last))
  base_tokens (is_structure {fs = fs} d p) = token (token (both (both (as_kinds (fields_listed fs) (fields_tokens d).writes) last) (packing_tokens p)))
  base_tokens (is_array i e s ends few) = token (token (both (both (both (index_tokens i) last) (base_tokens e)) (spread_tokens s)))

  fields_tokens : {fs : List FieldTree} {toks rest : Toks} → AreFields fs toks rest → WritesList field_kinds fs toks rest
  fields_tokens (one_field d) = list_one field_kinds (field_tokens d)
  fields_tokens (and_field l d) = list_and field_kinds (fields_tokens l) (field_tokens d)

  field_tokens : {f : FieldTree} {toks rest : Toks} → IsField f toks rest → Writes (field_kinds f) toks rest
  field_tokens (is_field ns b p) = both (both (names_tokens ns) (base_tokens b)) (field_place_tokens p)

pub mode_tokens : {o : ModeTree} {toks rest : Toks} → IsMode o toks rest → Writes (mode_kinds o) toks rest
mode_tokens (is_base_mode d) = base_tokens d
mode_tokens (is_read_mode d) = token (base_tokens d)
mode_tokens (is_event_mode l) = token (length_tokens l)
mode_tokens (is_buffer_mode l d) = token (both (length_tokens l) (base_tokens d))

-- ---- definitions

written_mode_tokens : {o : Option ModeTree} {toks rest : Toks} → IsWrittenMode o toks rest → Writes (given mode_kinds o) toks rest
written_mode_tokens no_mode = nothing
written_mode_tokens (with_mode d) = mode_tokens d

synonym_tokens : {x : SynonymTree} {toks rest : Toks} → IsSynonym x toks rest → Writes (synonym_kinds x) toks rest
synonym_tokens (is_synonym ns o d) = both (both (both (names_tokens ns) (written_mode_tokens o)) last) (ranked_tokens d)

mode_definition_tokens : {x : ModeDefinitionTree} {toks rest : Toks} → IsModeDefinition x toks rest → Writes (mode_definition_kinds x) toks rest
mode_definition_tokens (is_mode_definition d) = token (token (mode_tokens d))

initial_tokens : {x : Option InitialTree} {toks rest : Toks} → IsInitial x toks rest → Writes (given initial_kinds x) toks rest
initial_tokens no_initial = nothing
initial_tokens (by_sign d) = token (ranked_tokens d)
initial_tokens (by_word d) = token (token (ranked_tokens d))

declaration_tokens : {x : DeclarationTree} {toks rest : Toks} → IsDeclaration x toks rest → Writes (declaration_kinds x) toks rest
declaration_tokens (is_declaration ns o i) = both (both (names_tokens ns) (mode_tokens o)) (initial_tokens i)

pub local_tokens : {x : LocalTree} {toks rest : Toks} → IsLocal x toks rest → Writes (local_kinds x) toks rest
local_tokens (are_synonyms d) = token (both (listed_tokens synonym_kinds (λ x m r. synonym_tokens) d).writes last)
local_tokens (are_syn_modes d) = token (both (listed_tokens mode_definition_kinds (λ x m r. mode_definition_tokens) d).writes last)
local_tokens (are_new_modes d) = token (both (listed_tokens mode_definition_kinds (λ x m r. mode_definition_tokens) d).writes last)
local_tokens (are_locations d) = token (both (listed_tokens declaration_kinds (λ x m r. declaration_tokens) d).writes last)
