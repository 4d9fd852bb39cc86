-- What is read as a definition is that definition.
use Rattle.std.proofs.Common.{ℕ, true, false, Option, Some, None}
use Rattle.chill_tree.specs.declared.token.Word.TheVariants as words
use Rattle.chill_tree.specs.declared.token.Sign.TheVariants as signs
use Rattle.chill_tree.specs.ModeTree.{ModeTree}
use Rattle.chill_tree.specs.LocalTree.{SynonymTree, ModeDefinitionTree, InitialTree, DeclarationTree, LocalTree, synonyms, syn_modes, new_modes, locations}
use Rattle.rules_model.specs.Marks.{Toks, begins, begins_with}
use Rattle.rules_model.specs.ExprGrammar.{IsExpr}
use Rattle.rules_model.specs.ListGrammar.{AreListed, AreNames}
use Rattle.rules_model.specs.ModeGrammar.{IsMode}
use Rattle.rules_model.specs.LocalGrammar.{IsWrittenMode, no_mode, with_mode, IsSynonym, is_synonym, IsModeDefinition, is_mode_definition, IsInitial, no_initial, by_sign, by_word, IsDeclaration, is_declaration, IsLocal, are_synonyms, are_syn_modes, are_new_modes, are_locations}
use Rattle.rules_model.specs.Reading.{name_at, listed_at}
use Rattle.rules_model.specs.ModeReading.{value_at, mode_at, written_mode_at, synonym_at, mode_definition_at, initial_at, declaration_at, local_at}
use Rattle.chill_parser.proofs.Taken.{last_is, either, sign_then, word_then, name_then, Sound, Was, read_then, sound_listed, sound_names}
use Rattle.chill_parser.proofs.ExprTaken.{sound_value}
use Rattle.chill_parser.proofs.ModeTaken.{sound_mode}

sound_written_mode : (n : ℕ) → Sound IsWrittenMode (written_mode_at n)
unfolding written_mode_at
sound_written_mode n toks x rest =
    let P : Option ModeTree × Toks → Type 0 = Was IsWrittenMode toks in
    either P (begins signs.Equal toks) _ _
    (λ b. last_is P (None, toks) no_mode)
    (λ b. read_then P IsMode (mode_at n) (sound_mode n) toks _ (λ o m d. last_is P (Some o, m) (with_mode d))) (x, rest)

sound_synonym : (n : ℕ) → Sound IsSynonym (synonym_at n)
unfolding synonym_at
sound_synonym n toks x rest =
    let P : SynonymTree × Toks → Type 0 = Was IsSynonym toks in
    read_then P AreNames (listed_at name_at) sound_names toks _ (λ ns m dn. read_then P IsWrittenMode (written_mode_at n) (sound_written_mode n) m _ (λ o m2 dm. sign_then P signs.Equal m2 _ (λ p m3 e. read_then P IsExpr (value_at n) (sound_value n) m3 _ (λ v m4 dv.
    last_is P (record { names = ns; mode = o; value = v }, m4) (is_synonym dn (rw e at dm) dv))))) (x, rest)

sound_mode_definition : (n : ℕ) → Sound IsModeDefinition (mode_definition_at n)
unfolding mode_definition_at
sound_mode_definition n toks x rest =
    let P : ModeDefinitionTree × Toks → Type 0 = Was IsModeDefinition toks in
    name_then P toks _ (λ y m e. sign_then P signs.Equal m _ (λ p m2 e2. read_then P IsMode (mode_at n) (sound_mode n) m2 _ (λ o m3 d.
    last_is P (record { name = y; mode = o }, m3) (rw (e, e2) (is_mode_definition d))))) (x, rest)

sound_initial : (n : ℕ) → Sound IsInitial (initial_at n)
unfolding initial_at
sound_initial n toks x rest =
    let P : Option InitialTree × Toks → Type 0 = Was IsInitial toks in
    either P (begins signs.Becomes toks) _ _
    (λ b. sign_then P signs.Becomes toks _ (λ p m e. read_then P IsExpr (value_at n) (sound_value n) m _ (λ v m2 d.
    last_is P (Some (record { at = p; init = false; value = v }), m2) (rw e (by_sign d)))))
    (λ b. either P (begins_with words.Init toks) _ _
    (λ b. word_then P words.Init toks _ (λ w m e. sign_then P signs.Becomes m _ (λ p m2 e2. read_then P IsExpr (value_at n) (sound_value n) m2 _ (λ v m3 d.
    last_is P (Some (record { at = w; init = true; value = v }), m3) (rw (e, e2) (by_word d))))))
    (λ b. last_is P (None, toks) no_initial)) (x, rest)

sound_declaration : (n : ℕ) → Sound IsDeclaration (declaration_at n)
unfolding declaration_at
sound_declaration n toks x rest =
    let P : DeclarationTree × Toks → Type 0 = Was IsDeclaration toks in
    read_then P AreNames (listed_at name_at) sound_names toks _ (λ ns m dn. read_then P IsMode (mode_at n) (sound_mode n) m _ (λ o m2 dm. read_then P IsInitial (initial_at n) (sound_initial n) m2 _ (λ i m3 di.
    last_is P (record { names = ns; mode = o; initial = i }, m3) (is_declaration dn dm di)))) (x, rest)

pub sound_local : (n : ℕ) → Sound IsLocal (local_at n)
unfolding local_at
sound_local n toks x rest =
    let P : LocalTree × Toks → Type 0 = Was IsLocal toks in
    either P (begins_with words.Syn toks) _ _
    (λ b. word_then P words.Syn toks _ (λ at m e. read_then P (AreListed IsSynonym) (listed_at (synonym_at n)) (sound_listed IsSynonym (synonym_at n) (sound_synonym n)) m _ (λ xs m2 d. sign_then P signs.Semicolon m2 _ (λ p m3 e2.
    last_is P (synonyms at xs, m3) (rw e (are_synonyms (rw e2 at d)))))))
    (λ b. either P (begins_with words.SynMode toks) _ _
    (λ b. word_then P words.SynMode toks _ (λ at m e. read_then P (AreListed IsModeDefinition) (listed_at (mode_definition_at n)) (sound_listed IsModeDefinition (mode_definition_at n) (sound_mode_definition n)) m _ (λ xs m2 d. sign_then P signs.Semicolon m2 _ (λ p m3 e2.
    last_is P (syn_modes at xs, m3) (rw e (are_syn_modes (rw e2 at d)))))))
    (λ b. either P (begins_with words.NewMode toks) _ _
    (λ b. word_then P words.NewMode toks _ (λ at m e. read_then P (AreListed IsModeDefinition) (listed_at (mode_definition_at n)) (sound_listed IsModeDefinition (mode_definition_at n) (sound_mode_definition n)) m _ (λ xs m2 d. sign_then P signs.Semicolon m2 _ (λ p m3 e2.
    last_is P (new_modes at xs, m3) (rw e (are_new_modes (rw e2 at d)))))))
    (λ b. word_then P words.Dcl toks _ (λ at m e. read_then P (AreListed IsDeclaration) (listed_at (declaration_at n)) (sound_listed IsDeclaration (declaration_at n) (sound_declaration n)) m _ (λ xs m2 d. sign_then P signs.Semicolon m2 _ (λ p m3 e2.
    last_is P (locations at xs, m3) (rw e (are_locations (rw e2 at d)))))))))
    (x, rest)
