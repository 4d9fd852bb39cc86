-- What is read as an item, a modulion or a program is that.
use Rattle.std.proofs.Common.{◌≡◌, ℕ, zero, suc, ◌<◌, List, [], ◌∷◌, length, Option, Some, None, Ok}
use Rattle.chill_base.specs.declared.pos.Pos.{Pos}
use Rattle.chill_tree.specs.declared.token.Word.TheVariants as words
use Rattle.chill_tree.specs.declared.token.Sign.TheVariants as signs
use Rattle.chill_tree.specs.declared.tree.name.Name.{Name}
use Rattle.chill_tree.specs.declared.tree.item.ModulionKind.{ModulionKind}
use Rattle.chill_tree.specs.declared.tree.item.ModulionKind.TheVariants as modulions
use Rattle.chill_tree.specs.declared.tree.item.Passed.{Passed}
use Rattle.chill_tree.specs.declared.tree.item.Passed.TheVariants as passes
use Rattle.chill_tree.specs.declared.tree.item.Passing.{Passing}
use Rattle.chill_tree.specs.declared.tree.item.Passing.TheVariants as ways
use Rattle.chill_tree.specs.ModeTree.{ModeTree}
use Rattle.chill_tree.specs.ItemTree.{SignalTree, ParamTree, ProcedureTree, FormalTree, ProcessTree, ItemTree, seize, grant, local_item, signals, procedure, process, action, ModulionTree, modulion_item, ProgramTree}
use Rattle.rules_model.specs.Marks.{Toks, sign, word, name_token, begins, begins_with, begins_name}
use Rattle.rules_model.specs.ListGrammar.{AreListed, IsName, AreNames, IsClause, IsClosing}
use Rattle.rules_model.specs.ModeGrammar.{IsMode}
use Rattle.rules_model.specs.LocalGrammar.{IsLocal}
use Rattle.rules_model.specs.StatementGrammar.{IsStatement, IsHandler, AreBody}
use Rattle.rules_model.specs.ItemGrammar.{IsPassed, pass_names, pass_all, AreSignalParts, no_signal_parts, with_signal_parts, IsSignal, is_signal, IsPassing, no_passing, pass_in, pass_out, pass_in_out, IsParam, is_param, IsFormal, is_formal, AreWithin, none_within, some_within, IsResult, is_result, AreExceptions, are_exceptions, IsBlock, is_block, IsProcedure, is_procedure, IsProcess, is_process, IsKind, is_module, is_region, IsItem, is_seize, is_grant, is_local_item, are_signals, is_procedure_item, is_process_item, is_modulion_item, is_action, AreItems, no_items, then_item, IsModulion, is_modulion, AreModulions, no_modulions, then_modulion, IsTreeOf, is_tree}
use Rattle.rules_model.specs.Nesting.{less}
use Rattle.rules_model.specs.Reading.{Deep, Absent, Read, ◌>>=◌, push, name_at, many_at, listed_at}
use Rattle.rules_model.specs.ModeReading.{mode_at, local_at}
use Rattle.rules_model.specs.SimpleReading.{clause_at}
use Rattle.rules_model.specs.StatementReading.{begins_local, begins_statement, handler_at, closing_at, statement_at, actions_at, body_at}
use Rattle.rules_model.specs.ItemReading.{passed_at, signal_parts_at, signal_at, passing_at, param_at, formal_at, within_at, result_at, exceptions_at, Block, block_at, procedure_rest_at, procedure_at, process_rest_at, process_at, kind_at, Items, modulion_at, begins_block, block_item_at, item_at, items_at, modulion_piece_at, nothing_left, program_at}
use Rattle.chill_parser.proofs.Taken.{last_is, never, either, then_is, sign_then, word_then, name_then, Sound, Was, read_then, IfThere, sound_name, sound_listed, sound_names, sound_many, sound_clause}
use Rattle.chill_parser.proofs.ModeTaken.{sound_mode}
use Rattle.chill_parser.proofs.LocalTaken.{sound_local}
use Rattle.chill_parser.proofs.StatementTaken.{kept_is, sound_closing, sound_handler, sound_statement, sound_actions_at, sound_body_at}

sound_passed : Sound IsPassed passed_at
unfolding passed_at
sound_passed toks x rest =
    let P : Passed × Toks → Type 0 = Was IsPassed toks in
    either P (begins_with words.All toks) _ _
    (λ b. word_then P words.All toks _ (λ w m e. last_is P (passes.All w, m) (rw e pass_all)))
    (λ b. read_then P AreNames (listed_at name_at) sound_names toks _ (λ ns m d. last_is P (passes.Names ns, m) (pass_names d))) (x, rest)

sound_signal_parts : (n : ℕ) → Sound AreSignalParts (signal_parts_at n)
unfolding signal_parts_at
sound_signal_parts n toks x rest =
    let P : Option (List ModeTree) × Toks → Type 0 = Was AreSignalParts toks in
    either P (begins signs.Equal toks) _ _
    (λ b. sign_then P signs.Equal toks _ (λ p m e. sign_then P signs.Open m _ (λ q m2 e2. read_then P (AreListed IsMode) (listed_at (mode_at (less n))) (sound_listed IsMode (mode_at (less n)) (sound_mode (less n))) m2 _ (λ ms m3 d. sign_then P signs.Close m3 _ (λ r m4 e3.
    last_is P (Some ms, m4) (rw (e, e2) (with_signal_parts (rw e3 at d))))))))
    (λ b. last_is P (None, toks) no_signal_parts) (x, rest)

sound_signal : (n : ℕ) → Sound IsSignal (signal_at n)
unfolding signal_at
sound_signal n toks x rest =
    let P : SignalTree × Toks → Type 0 = Was IsSignal toks in
    name_then P toks _ (λ y m e. read_then P AreSignalParts (signal_parts_at n) (sound_signal_parts n) m _ (λ ms m2 dm. read_then P (IsClause words.To IsName) (clause_at words.To name_at) (sound_clause words.To IsName name_at sound_name) m2 _ (λ t m3 dt.
    last_is P (record { name = y; parts = ms; process = t }, m3) (rw e (is_signal dm dt))))) (x, rest)

sound_passing : Sound IsPassing passing_at
unfolding passing_at
sound_passing toks x rest =
    let P : Option Passing × Toks → Type 0 = Was IsPassing toks in
    either P (begins_with words.In toks) _ _
    (λ b. word_then P words.In toks _ (λ w m e. last_is P (Some ways.In, m) (rw e pass_in)))
    (λ b. either P (begins_with words.Out toks) _ _
    (λ b. word_then P words.Out toks _ (λ w m e. last_is P (Some ways.Out, m) (rw e pass_out)))
    (λ b. either P (begins_with words.InOut toks) _ _
    (λ b. word_then P words.InOut toks _ (λ w m e. last_is P (Some ways.InOut, m) (rw e pass_in_out)))
    (λ b. last_is P (None, toks) no_passing))) (x, rest)

sound_param : (n : ℕ) → Sound IsParam (param_at n)
unfolding param_at
sound_param n toks x rest =
    let P : ParamTree × Toks → Type 0 = Was IsParam toks in
    read_then P AreNames (listed_at name_at) sound_names toks _ (λ ns m dn. read_then P IsMode (mode_at n) (sound_mode n) m _ (λ o m2 dm. read_then P IsPassing passing_at sound_passing m2 _ (λ w m3 dw.
    last_is P (record { names = ns; mode = o; passing = w }, m3) (is_param dn dm dw)))) (x, rest)

sound_formal : (n : ℕ) → Sound IsFormal (formal_at n)
unfolding formal_at
sound_formal n toks x rest =
    let P : FormalTree × Toks → Type 0 = Was IsFormal toks in
    read_then P AreNames (listed_at name_at) sound_names toks _ (λ ns m dn. read_then P IsMode (mode_at n) (sound_mode n) m _ (λ o m2 dm.
    last_is P (record { names = ns; mode = o }, m2) (is_formal dn dm))) (x, rest)

sound_within : {X : Type 0} (Is : X → Toks → Toks → Type 0) (read : Toks → Read X) → Sound Is read → Sound (AreWithin Is) (within_at read)
unfolding within_at
sound_within {X = X} Is read s toks x rest =
    let P : List X × Toks → Type 0 = Was (AreWithin Is) toks in
    either P (begins signs.Close toks) _ _
    (λ b. sign_then P signs.Close toks _ (λ p m e. last_is P ([], m) (rw e none_within)))
    (λ b. read_then P (AreListed Is) (listed_at read) (sound_listed Is read s) toks _ (λ xs m d. sign_then P signs.Close m _ (λ p m2 e.
    last_is P (xs, m2) (some_within (rw e at d))))) (x, rest)

sound_result : (n : ℕ) → Sound IsResult (result_at n)
unfolding result_at
sound_result n toks x rest =
    let P : ModeTree × Toks → Type 0 = Was IsResult toks in
    sign_then P signs.Open toks _ (λ p m e. read_then P IsMode (mode_at (less n)) (sound_mode (less n)) m _ (λ o m2 d. sign_then P signs.Close m2 _ (λ q m3 e2.
    last_is P (o, m3) (rw e (is_result (rw e2 at d)))))) (x, rest)

sound_exceptions : Sound AreExceptions exceptions_at
unfolding exceptions_at
sound_exceptions toks x rest =
    let P : List Name × Toks → Type 0 = Was AreExceptions toks in
    sign_then P signs.Open toks _ (λ p m e. read_then P AreNames (listed_at name_at) sound_names m _ (λ ns m2 d. sign_then P signs.Close m2 _ (λ q m3 e2.
    last_is P (ns, m3) (rw e (are_exceptions (rw e2 at d)))))) (x, rest)

sound_block : (n : ℕ) (x : Name) (p : Pos) → Sound (λ (b : Block) toks rest. IsBlock x b.0 b.1 b.2 toks rest) (block_at n x p)
unfolding block_at
sound_block n x p toks b rest =
    let P : Block × Toks → Type 0 = λ y. IsBlock x y.0.0 y.0.1 y.0.2 toks y.1 in
    read_then P AreBody (body_at n p) (sound_body_at n p) toks _ (λ ps m db. word_then P words.End m _ (λ q m2 e. read_then P IsHandler (handler_at (actions_at n)) (sound_handler (actions_at n) (sound_actions_at n)) m2 _ (λ h m3 dh.
    read_then P (IsClosing (Some x)) (closing_at (Some x)) (sound_closing (Some x)) m3 _ (λ c m4 dc. sign_then P signs.Semicolon m4 _ (λ r m5 e2.
    last_is P ((ps, h, c), m5) (is_block (rw e at db) dh (rw e2 at dc))))))) (b, rest)

procedure_is : (n : ℕ) (x : Name) (p : Pos) (toks m m2 m3 m4 : Toks) (c o : Pos) → toks ≡ name_token x ∷ m → m ≡ sign c signs.Colon ∷ m2 → m2 ≡ word p words.Proc ∷ m3 → m3 ≡ sign o signs.Open ∷ m4 → (y : ProcedureTree × Toks) → procedure_rest_at n x p m4 ≡ Ok y → Was IsProcedure toks y
unfolding procedure_rest_at
procedure_is n x p toks m m2 m3 m4 c o e e2 e3 e4 =
    let P : ProcedureTree × Toks → Type 0 = Was IsProcedure toks in
    read_then P (AreWithin IsParam) (within_at (param_at (less (less n)))) (sound_within IsParam (param_at (less (less n))) (sound_param (less (less n)))) m4 _ (λ ps m5 dp.
    read_then P (IsClause words.Returns IsResult) (clause_at words.Returns (result_at (less n))) (sound_clause words.Returns IsResult (result_at (less n)) (sound_result (less n))) m5 _ (λ r m6 dr.
    read_then P (IsClause words.Exceptions AreExceptions) (clause_at words.Exceptions exceptions_at) (sound_clause words.Exceptions AreExceptions exceptions_at sound_exceptions) m6 _ (λ es m7 de. sign_then P signs.Semicolon m7 _ (λ s m8 e5.
    then_is P (block_at n x p m8) _ (λ b m9 eb.
    last_is P (record { name = x; params = ps; returns = r; exceptions = es; body = b.0; handler = b.1; closing = b.2 }, m9) (rw (e, e2, e3, e4) (is_procedure dp dr (rw e5 at de) (sound_block n x p m8 b m9 eb))))))))

sound_procedure : (n : ℕ) → Sound IsProcedure (procedure_at n)
unfolding procedure_at
sound_procedure n toks x rest =
    let P : ProcedureTree × Toks → Type 0 = Was IsProcedure toks in
    name_then P toks _ (λ y m e. sign_then P signs.Colon m _ (λ c m2 e2. word_then P words.Proc m2 _ (λ p m3 e3. sign_then P signs.Open m3 _ (λ o m4 e4. procedure_is n y p toks m m2 m3 m4 c o e e2 e3 e4)))) (x, rest)

process_is : (n : ℕ) (x : Name) (p : Pos) (toks m m2 m3 m4 : Toks) (c o : Pos) → toks ≡ name_token x ∷ m → m ≡ sign c signs.Colon ∷ m2 → m2 ≡ word p words.Process ∷ m3 → m3 ≡ sign o signs.Open ∷ m4 → (y : ProcessTree × Toks) → process_rest_at n x p m4 ≡ Ok y → Was IsProcess toks y
unfolding process_rest_at
process_is n x p toks m m2 m3 m4 c o e e2 e3 e4 =
    let P : ProcessTree × Toks → Type 0 = Was IsProcess toks in
    read_then P (AreWithin IsFormal) (within_at (formal_at (less (less n)))) (sound_within IsFormal (formal_at (less (less n))) (sound_formal (less (less n)))) m4 _ (λ ps m5 dp. sign_then P signs.Semicolon m5 _ (λ s m6 e5.
    then_is P (block_at n x p m6) _ (λ b m7 eb.
    last_is P (record { name = x; formals = ps; body = b.0; handler = b.1; closing = b.2 }, m7) (rw (e, e2, e3, e4) (is_process (rw e5 at dp) (sound_block n x p m6 b m7 eb))))))

sound_process : (n : ℕ) → Sound IsProcess (process_at n)
unfolding process_at
sound_process n toks x rest =
    let P : ProcessTree × Toks → Type 0 = Was IsProcess toks in
    name_then P toks _ (λ y m e. sign_then P signs.Colon m _ (λ c m2 e2. word_then P words.Process m2 _ (λ p m3 e3. sign_then P signs.Open m3 _ (λ o m4 e4. process_is n y p toks m m2 m3 m4 c o e e2 e3 e4)))) (x, rest)

-- ---- modulions and items

sound_kind : Sound (λ (k : Pos × ModulionKind) toks rest. IsKind k.1 toks rest) kind_at
unfolding kind_at
sound_kind toks x rest =
    let P : (Pos × ModulionKind) × Toks → Type 0 = λ y. IsKind y.0.1 toks y.1 in
    either P (begins_with words.Module toks) _ _
    (λ b. word_then P words.Module toks _ (λ w m e. last_is P ((w, modulions.Module), m) (rw e is_module)))
    (λ b. word_then P words.Region toks _ (λ w m e. last_is P ((w, modulions.Region), m) (rw e is_region))) (x, rest)

module _ (n : ℕ) (items : Items) (sound_is : (p : Pos) → Sound AreItems (items p)) where
  sound_modulion : Sound IsModulion (modulion_at n items)
  unfolding modulion_at
  sound_modulion toks x rest =
      let P : ModulionTree × Toks → Type 0 = Was IsModulion toks in
      name_then P toks _ (λ y m e. sign_then P signs.Colon m _ (λ c m2 e2. then_is P (kind_at m2) _ (λ k m3 ek. read_then P AreItems (items k.0) (sound_is k.0) m3 _ (λ is m4 di. word_then P words.End m4 _ (λ q m5 e3.
      read_then P IsHandler (handler_at (actions_at n)) (sound_handler (actions_at n) (sound_actions_at n)) m5 _ (λ h m6 dh. read_then P (IsClosing (Some y)) (closing_at (Some y)) (sound_closing (Some y)) m6 _ (λ l m7 dl. sign_then P signs.Semicolon m7 _ (λ s m8 e4.
      last_is P (record { name = y; kind = k.1; items = is; handler = h; closing = l }, m8) (rw (e, e2) (is_modulion (sound_kind m2 k m3 ek) (rw e3 at di) dh (rw e4 at dl))))))))))) (x, rest)

  -- an item that is known adds to those before it
  piece_then : {X : Type 0} (Is : X → Toks → Toks → Type 0) (read : Toks → Read X) → Sound Is read → (made : X → ItemTree) → ((x : X) (m rest : Toks) → Is x m rest → IsItem (made x) m rest)
      → (toks : Toks) (is : List ItemTree) (m : Toks) → AreItems is toks m → (o : Option (ItemTree × Toks)) → (read m >>= λ x. Ok (Some (made x.0, x.1))) ≡ Ok o → IfThere (λ (x : ItemTree × Toks). AreItems (push is x.0) toks x.1) o
  piece_then Is read s made item toks is m l =
      let P : Option (ItemTree × Toks) → Type 0 = IfThere (λ (x : ItemTree × Toks). AreItems (push is x.0) toks x.1) in
      read_then P Is read s m _ (λ x m2 d. last_is P (Some (made x, m2)) (then_item l (item x m m2 d)))

  block_item_is : (toks : Toks) (is : List ItemTree) (m : Toks) → AreItems is toks m → (o : Option (ItemTree × Toks)) → block_item_at n items m ≡ Ok o → IfThere (λ (x : ItemTree × Toks). AreItems (push is x.0) toks x.1) o
  unfolding block_item_at
  block_item_is toks is m l =
      let P : Option (ItemTree × Toks) → Type 0 = IfThere (λ (x : ItemTree × Toks). AreItems (push is x.0) toks x.1) in
      either P (begins_block words.Proc m) _ _ (λ b. piece_then IsProcedure (procedure_at n) (sound_procedure n) procedure (λ x m rest d. is_procedure_item d) toks is m l)
      (λ b. either P (begins_block words.Process m) _ _ (λ b. piece_then IsProcess (process_at n) (sound_process n) process (λ x m rest d. is_process_item d) toks is m l)
      (λ b. either P (begins_block words.Module m) _ _ (λ b. piece_then IsModulion (modulion_at n items) sound_modulion modulion_item (λ x m rest d. is_modulion_item d) toks is m l)
      (λ b. either P (begins_block words.Region m) _ _ (λ b. piece_then IsModulion (modulion_at n items) sound_modulion modulion_item (λ x m rest d. is_modulion_item d) toks is m l)
      (λ b. either P (begins_statement m) _ _ (λ b. piece_then IsStatement (statement_at n (actions_at n) (body_at n)) (sound_statement (actions_at n) (sound_actions_at n) (body_at n) (sound_body_at n) n) action (λ x m rest d. is_action d) toks is m l)
      (λ b. last_is P None tt)))))

  item_is : (toks : Toks) (is : List ItemTree) (m : Toks) → AreItems is toks m → (o : Option (ItemTree × Toks)) → item_at n items m ≡ Ok o → IfThere (λ (x : ItemTree × Toks). AreItems (push is x.0) toks x.1) o
  unfolding item_at
  item_is toks is m l =
      let P : Option (ItemTree × Toks) → Type 0 = IfThere (λ (x : ItemTree × Toks). AreItems (push is x.0) toks x.1) in
      either P (begins_with words.Seize m) _ _
      (λ b. word_then P words.Seize m _ (λ w m2 e. read_then P IsPassed passed_at sound_passed m2 _ (λ p m3 d. sign_then P signs.Semicolon m3 _ (λ q m4 e2.
      last_is P (Some (seize w p, m4)) (then_item l (rw e (is_seize (rw e2 at d))))))))
      (λ b. either P (begins_with words.Grant m) _ _
      (λ b. word_then P words.Grant m _ (λ w m2 e. read_then P IsPassed passed_at sound_passed m2 _ (λ p m3 d. sign_then P signs.Semicolon m3 _ (λ q m4 e2.
      last_is P (Some (grant w p, m4)) (then_item l (rw e (is_grant (rw e2 at d))))))))
      (λ b. either P (begins_with words.Signal m) _ _
      (λ b. word_then P words.Signal m _ (λ w m2 e. read_then P (AreListed IsSignal) (listed_at (signal_at n)) (sound_listed IsSignal (signal_at n) (sound_signal n)) m2 _ (λ xs m3 d. sign_then P signs.Semicolon m3 _ (λ q m4 e2.
      last_is P (Some (signals w xs, m4)) (then_item l (rw e (are_signals (rw e2 at d))))))))
      (λ b. either P (begins_local m) _ _ (λ b. piece_then IsLocal (local_at n) (sound_local n) local_item (λ x m rest d. is_local_item d) toks is m l)
      (λ b. block_item_is toks is m l))))

sound_items : (n : ℕ) (p : Pos) → Sound AreItems (items_at n p)
unfolding items_at
sound_items zero p toks x rest = never (Was AreItems toks) (Deep p) (x, rest)
sound_items (suc n) p toks x rest = sound_many AreItems (item_at n (items_at n)) (λ toks. no_items) (item_is n (items_at n) (sound_items n)) toks x rest

-- ---- programs

modulion_piece_is : (n : ℕ) (toks : Toks) (xs : List ModulionTree) (m : Toks) → AreModulions xs toks m → (o : Option (ModulionTree × Toks)) → modulion_piece_at n m ≡ Ok o → IfThere (λ (x : ModulionTree × Toks). AreModulions (push xs x.0) toks x.1) o
unfolding modulion_piece_at
modulion_piece_is n toks xs m l =
    let P : Option (ModulionTree × Toks) → Type 0 = IfThere (λ (x : ModulionTree × Toks). AreModulions (push xs x.0) toks x.1) in
    either P (begins_name m) _ _
    (λ b. read_then P IsModulion (modulion_at n (items_at n)) (sound_modulion n (items_at n) (sound_items n)) m _ (λ x m2 d. last_is P (Some (x, m2)) (then_modulion l d)))
    (λ b. last_is P None tt)

program_ends : (toks : Toks) (xs : List ModulionTree) (m : Toks) → AreModulions xs toks m → 0 < length xs → (y : ProgramTree) → nothing_left m (record { modulions = xs }) ≡ Ok y → IsTreeOf toks y
program_ends toks xs [] d some = last_is (IsTreeOf toks) (record { modulions = xs }) (is_tree d some)
program_ends toks xs (t ∷ ts) d some = never (IsTreeOf toks) (Absent (Some t.at))

-- what is read as a program is the tree of the tokens
pub program_is : (n : ℕ) (toks : Toks) (x : ProgramTree) → program_at n toks ≡ Ok x → IsTreeOf toks x
unfolding program_at
program_is n toks =
    let P : ProgramTree → Type 0 = IsTreeOf toks in
    read_then P AreModulions (many_at (modulion_piece_at n)) (sound_many AreModulions (modulion_piece_at n) (λ toks. no_modulions) (modulion_piece_is n)) toks _ (λ xs m d. kept_is P xs m _ (λ some. program_ends toks xs m d some))
