-- What is shown of definition statements: their nodes have short expressions, and what they define is written with fields.
use Rattle.std.proofs.Common.{◌≡◌, Bool, true, false, List, ◌∷◌, ◌++◌, Option, Some, None, length}
use Rattle.std.specs.Prelude.{map, flat_map, replicate}
use Rattle.chill_tree.specs.declared.tree.name.Name.{Name}
use Rattle.chill_tree.specs.ModeTree as written
use Rattle.chill_tree.specs.LocalTree.{SynonymTree, ModeDefinitionTree, InitialTree, DeclarationTree, LocalTree}
use Rattle.rules_model.specs.Marks.{Toks}
use Rattle.rules_model.specs.LocalGrammar.{IsWrittenMode, no_mode, with_mode, IsSynonym, is_synonym, IsModeDefinition, is_mode_definition, IsInitial, no_initial, by_sign, by_word, IsDeclaration, is_declaration, IsLocal, are_synonyms, are_syn_modes, are_new_modes, are_locations}
use Rattle.names_model.specs.Definitions.{numbers_on}
use Rattle.checks_model.specs.Ground.{Origin, a_synonym, a_mode, an_element, a_location, a_parameter, a_procedure, a_signal}
use Rattle.checks_model.specs.Origins.{sets_in, elements, elements_of, elements_of_some, origins_of_names, origins_of_synonym, owner_of, origins_of_mode, origins_of_declaration, origins_of_local}
use Rattle.checks_model.specs.Phases.{some_expr, initial_expr}
use Rattle.checks_model.specs.Sites.{Site, at_synonym, at_mode_definition, at_declaration, sites_of_local}
use Rattle.written_laws.specs.Written.{Each, is_some_name}
use Rattle.written_laws.proofs.Shown.{Shown, none, skip, ends, both, behind, so, Shows, listed, each_append, each_any, each_map, each_flat, each_same}
use Rattle.written_laws.proofs.ShownExpr.{IsSpelled, AreSpelled, expr_shown}
use Rattle.written_laws.proofs.ShownMode.{IsFilled, names_passed, names_there, mode_shown}

-- ---- what defines something is written with fields

abbrev pub IsSomeFilled : Option written.ModeTree → Type 0
IsSomeFilled None = Unit {0}
IsSomeFilled (Some w) = IsFilled w

abbrev pub AreSomeFilled : Option (List written.ModeTree) → Type 0
AreSomeFilled None = Unit {0}
AreSomeFilled (Some ws) = Each IsFilled ws

abbrev pub IsShaped : Origin → Type 0
IsShaped (a_synonym s) = IsSomeFilled s.mode × IsSpelled s.value
IsShaped (a_mode novel w) = IsFilled w
IsShaped (a_location d) = IsFilled d.mode
IsShaped (a_parameter w) = IsFilled w
IsShaped (a_procedure p) = IsSomeFilled p.returns
IsShaped (a_signal s) = AreSomeFilled s.parts
IsShaped o = Unit {0}

-- nodes and definitions
abbrev pub Fine : List Site → List Origin → Type 0
Fine ss os = Each AreSpelled ss × Each IsShaped os

pub fine_both : (ss ts : List Site) (os ps : List Origin) → Fine ss os → Fine ts ps → Fine (ss ++ ts) (os ++ ps)
fine_both ss ts os ps first later = (each_append AreSpelled ss ts first.0 later.0, each_append IsShaped os ps first.1 later.1)

pub fine_before : (s : Site) (ss : List Site) (os : List Origin) → AreSpelled s → Fine ss os → Fine (s ∷ ss) os
fine_before s ss os short fine = ((short, fine.0), fine.1)

-- ---- elements

pub elements_shaped : (owner : Option (Name × Bool)) (sets : List (List Name)) → Each IsShaped (flat_map (elements owner) sets)
elements_shaped owner sets =
    each_flat (λ ns. Unit {0}) IsShaped (elements owner) (λ ns fits. each_map (λ k. Unit {0}) IsShaped (λ part. an_element ns part owner) (λ k fits. tt) (numbers_on 0 (length ns)) (each_any (λ k. Unit {0}) (λ k. tt) (numbers_on 0 (length ns)))) sets
    (each_any (λ ns. Unit {0}) (λ ns. tt) sets)

pub some_elements_shaped : (w : Option written.ModeTree) → Each IsShaped (elements_of_some w)
some_elements_shaped None = tt
some_elements_shaped (Some w) = elements_shaped None (sets_in w)

pub names_shaped : (ns : List Name) (o : Origin) (inside : List Origin) → IsShaped o → Each IsShaped inside → Each IsShaped (origins_of_names ns o inside)
names_shaped ns o inside shaped later = each_append IsShaped (replicate (length ns) o) inside (each_same IsShaped (length ns) o shaped) later

-- ---- definition statements

some_mode_shown : {o : Option written.ModeTree} {toks rest : Toks} → IsWrittenMode o toks rest → Shown (IsSomeFilled o) toks rest
some_mode_shown no_mode = none
some_mode_shown (with_mode d) = mode_shown d

abbrev SynonymIs : SynonymTree → Type 0
SynonymIs s = IsShaped (a_synonym s)

synonym_shown : Shows SynonymIs IsSynonym
synonym_shown s toks rest (is_synonym ns o e) = behind (names_passed ns) (both (ends (some_mode_shown o)) (expr_shown e))

synonyms_fine : (shared : Bool) (ss : List SynonymTree) → Each SynonymIs ss → Fine (map at_synonym ss) (flat_map origins_of_synonym ss)
synonyms_fine shared ss each = (
  each_map SynonymIs AreSpelled at_synonym (λ s is. (is.1, tt)) ss each,
  each_flat SynonymIs IsShaped origins_of_synonym (λ s is. names_shaped s.names (a_synonym s) (elements_of_some s.mode) is (some_elements_shaped s.mode)) ss each,
)

abbrev DefinitionIs : ModeDefinitionTree → Type 0
DefinitionIs d = IsFilled d.mode

definition_shown : Shows DefinitionIs IsModeDefinition
definition_shown d toks rest (is_mode_definition m) = skip (skip (mode_shown m))

definitions_fine : (novel : Bool) (ds : List ModeDefinitionTree) → Each DefinitionIs ds → Fine (map at_mode_definition ds) (flat_map (origins_of_mode novel) ds)
definitions_fine novel ds each = (
  each_map DefinitionIs AreSpelled at_mode_definition (λ d is. tt) ds each,
  each_flat DefinitionIs IsShaped (origins_of_mode novel) (λ d is. (is, elements_shaped (owner_of novel d) (sets_in d.mode))) ds each,
)

initial_shown : {i : Option InitialTree} {toks rest : Toks} → IsInitial i toks rest → Shown (Each IsSpelled (some_expr (initial_expr i))) toks rest
initial_shown no_initial = none
initial_shown (by_sign d) = skip (so (λ short. (short, tt)) (expr_shown d))
initial_shown (by_word d) = skip (skip (so (λ short. (short, tt)) (expr_shown d)))

abbrev DeclarationIs : DeclarationTree → Type 0
DeclarationIs d = IsFilled d.mode × (Each IsSpelled (some_expr (initial_expr d.initial)) × (is_some_name d.names ≡ true))

declaration_shown : Shows DeclarationIs IsDeclaration
declaration_shown d toks rest (is_declaration ns o i) = so (λ is. (is.0, (is.1, names_there ns))) (behind (names_passed ns) (both (mode_shown o) (initial_shown i)))

declarations_fine : (shared : Bool) (ds : List DeclarationTree) → Each DeclarationIs ds → Fine (map (at_declaration shared) ds) (flat_map origins_of_declaration ds)
declarations_fine shared ds each = (
  each_map DeclarationIs AreSpelled (at_declaration shared) (λ d is. is.1) ds each,
  each_flat DeclarationIs IsShaped origins_of_declaration (λ d is. names_shaped d.names (a_location d) (elements_of None d.mode) is.0 (elements_shaped None (sets_in d.mode))) ds each,
)

pub local_shown : (shared : Bool) {l : LocalTree} {toks rest : Toks} → IsLocal l toks rest → Shown (Fine (sites_of_local shared l) (origins_of_local l)) toks rest
local_shown shared (are_synonyms {ss = ss} d) = skip (so (synonyms_fine shared ss) (ends (listed SynonymIs synonym_shown d)))
local_shown shared (are_syn_modes {ds = ds} d) = skip (so (definitions_fine false ds) (ends (listed DefinitionIs definition_shown d)))
local_shown shared (are_new_modes {ds = ds} d) = skip (so (definitions_fine true ds) (ends (listed DefinitionIs definition_shown d)))
local_shown shared (are_locations {ds = ds} d) = skip (so (declarations_fine shared ds) (ends (listed DeclarationIs declaration_shown d)))
