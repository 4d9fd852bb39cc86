-- What is an item, a modulion or a program is read as that.
use Rattle.std.proofs.Common.{◌≡◌, ℕ, zero, suc, ◌+◌, ◌<◌, ◌≤◌, true, false, List, [], ◌∷◌, length, Option, Some, None, Ok, refl, arith, length-append}
use Rattle.chill_base.specs.declared.pos.Pos.{Pos}
use Rattle.chill_tree.specs.declared.token.Word.TheVariants as words
use Rattle.chill_tree.specs.declared.token.Sign.TheVariants as signs
use Rattle.chill_tree.specs.declared.tree.name.Name.{Name}
use Rattle.chill_tree.specs.declared.tree.item.ModulionKind.{ModulionKind}
use Rattle.chill_tree.specs.declared.tree.item.Passed.{Passed}
use Rattle.chill_tree.specs.declared.tree.item.Passed.TheVariants as passes
use Rattle.chill_tree.specs.declared.tree.item.Passing.{Passing}
use Rattle.chill_tree.specs.declared.tree.item.Passing.TheVariants as ways
use Rattle.chill_tree.specs.ModeTree.{ModeTree}
use Rattle.chill_tree.specs.LocalTree.{LocalTree}
use Rattle.chill_tree.specs.SimpleTree.{SimpleTree}
use Rattle.chill_tree.specs.StatementTree.{StatementTree, BracketedTree, HandlerTree, BodyTree}
use Rattle.chill_tree.specs.ItemTree.{SignalTree, ParamTree, ProcedureTree, FormalTree, ProcessTree, ItemTree, seize, grant, local_item, signals, procedure, process, action, ModulionTree, modulion_item, ProgramTree}
use Rattle.rules_model.specs.Marks.{Toks, sign, word, name_token, begins, begins_with}
use Rattle.rules_model.specs.ListGrammar.{AreListed, AreNames, one_of, and_of, is_name, IsLabel, no_label, with_label}
use Rattle.rules_model.specs.ModeGrammar.{IsMode}
use Rattle.rules_model.specs.LocalGrammar.{IsLocal, are_synonyms, are_syn_modes, are_new_modes, are_locations}
use Rattle.rules_model.specs.StatementGrammar.{IsStatement, is_empty, is_simple, is_bracketed, IsBracketed, is_if, is_case, is_do, is_begin, is_delay_case, is_receive_case}
use Rattle.rules_model.specs.ItemGrammar.{IsPassed, pass_names, pass_all, AreSignalParts, no_signal_parts, with_signal_parts, IsSignal, is_signal, IsPassing, no_passing, pass_in, pass_out, pass_in_out, IsParam, is_param, IsFormal, is_formal, AreWithin, none_within, some_within, IsResult, is_result, AreExceptions, are_exceptions, IsBlock, is_block, IsProcedure, is_procedure, IsProcess, is_process, IsKind, is_module, is_region, IsItem, is_seize, is_grant, is_local_item, are_signals, is_procedure_item, is_process_item, is_modulion_item, is_action, AreItems, no_items, then_item, IsModulion, is_modulion, AreModulions, no_modulions, then_modulion, IsTreeOf, is_tree}
use Rattle.rules_model.specs.Nesting.{less, StaysBelow}
use Rattle.rules_model.specs.Reading.{Read, sign_at, word_at, name_at, many_at, listed_at}
use Rattle.rules_model.specs.ModeReading.{mode_at, local_at}
use Rattle.rules_model.specs.SimpleGrammar.{IsSimple, is_assign, is_update, is_call, is_call_word, is_exit, is_return, is_result, is_assert, is_cause, is_stop, is_start, is_delay, is_continue, is_send}
use Rattle.rules_model.specs.SimpleReading.{clause_at}
use Rattle.rules_model.specs.StatementReading.{begins_label, begins_local, begins_statement, handler_at, closing_at, statement_at, actions_at, body_at}
use Rattle.rules_model.specs.ItemReading.{passed_at, signal_parts_at, signal_at, passing_at, param_at, formal_at, within_at, result_at, exceptions_at, block_at, procedure_rest_at, procedure_at, process_rest_at, process_at, kind_at, Items, modulion_at, begins_block, block_item_at, item_at, items_at, modulion_piece_at, program_at}
use Rattle.rules_model.proofs.Loops.{Gathering, gathering_none, gathering_then, gathering_all}
use Rattle.rules_model.proofs.ListExact.{AnyEnd, Exact, Shrinks, listed_shrinks, exact_listed, exact_name, name_shrinks, names_shrink, exact_names}
use Rattle.rules_model.proofs.ModeExact.{EndsAll, exact_mode, mode_shrinks, mode_first}
use Rattle.rules_model.proofs.LocalExact.{exact_local, local_shrinks}
use Rattle.rules_model.proofs.SimpleExact.{exact_clause, clause_front, clause_shrinks, location_first, marks_stop}
use Rattle.rules_model.proofs.ExprStarts.{NameFirst}
use Rattle.rules_model.proofs.StatementStarts.{statement_shrinks, handler_shrinks, closing_shrinks, body_shrinks, closing_front, simple_first, statement_first, local_first}
use Rattle.rules_model.proofs.StatementExact.{exact_statement, exact_closing, exact_handler, exact_body}

-- ---- what passes a border, and signals

pass_some : (ns : List Name) (toks rest : Toks) → begins_with words.All toks ≡ false → listed_at name_at toks ≡ Ok (ns, rest) → passed_at toks ≡ Ok (passes.Names ns, rest)
unfolding passed_at
pass_some ns toks rest b h = rw (b, h) refl

pass_every : (at : Pos) (rest : Toks) → passed_at (word at words.All ∷ rest) ≡ Ok (passes.All at, rest)
unfolding passed_at word_at
pass_every at rest = refl

names_no_all : {ns : List Name} {toks rest : Toks} → AreNames ns toks rest → begins_with words.All toks ≡ false
names_no_all (one_of is_name) = refl
names_no_all (and_of l d) = names_no_all l

exact_passed : {x : Passed} {toks rest : Toks} → IsPassed x toks rest → (n : ℕ) → StaysBelow n toks → begins signs.Comma rest ≡ false → (passed_at toks ≡ Ok (x, rest)) × StaysBelow n rest
exact_passed (pass_names {ns = ns} {toks = toks} {rest = rest} d) n below c = let h = exact_names d n below c in (pass_some ns toks rest (names_no_all d) h.0, h.1)
exact_passed (pass_all {at = at} {rest = rest}) n below c = (pass_every at rest, below.1)

passed_shrinks : {x : Passed} {toks rest : Toks} → IsPassed x toks rest → length rest < length toks
passed_shrinks (pass_names d) = names_shrink d
passed_shrinks pass_all = omega arith

the_signal_parts : (n : ℕ) (p q r : Pos) (ms : List ModeTree) (m rest : Toks) → listed_at (mode_at (less n)) m ≡ Ok (ms, sign r signs.Close ∷ rest) → signal_parts_at n (sign p signs.Equal ∷ sign q signs.Open ∷ m) ≡ Ok (Some ms, rest)
unfolding signal_parts_at sign_at
the_signal_parts n p q r ms m rest h = rw h refl

without_signal_parts : (n : ℕ) (toks : Toks) → begins signs.Equal toks ≡ false → signal_parts_at n toks ≡ Ok (None, toks)
unfolding signal_parts_at
without_signal_parts n toks b = rw b refl

mode_exact : (n : ℕ) → Exact IsMode (mode_at n) (suc n) EndsAll
mode_exact n x toks rest d below ends = exact_mode d n below ends

mode_takes : Shrinks IsMode
mode_takes x toks rest d = mode_shrinks d

exact_signal_parts : {ms : Option (List ModeTree)} {toks rest : Toks} → AreSignalParts ms toks rest → (n : ℕ) → StaysBelow (suc n) toks → begins signs.Equal rest ≡ false → (signal_parts_at n toks ≡ Ok (ms, rest)) × StaysBelow (suc n) rest
exact_signal_parts (no_signal_parts {toks = toks}) n below b = (without_signal_parts n toks b, below)
exact_signal_parts (with_signal_parts d) zero below b = absurd (omega (arith, below.1.0))
exact_signal_parts (with_signal_parts {ms = ms} {p = p} {q = q} {r = r} {m = m} {rest = rest} d) (suc n) below b =
    let h = exact_listed (mode_at n) (suc n) EndsAll mode_takes (mode_exact n) (λ u v. record { open_sign = refl; pack = refl; no_pack = refl; step = refl }) d below.1.1 (record { open_sign = refl; pack = refl; no_pack = refl; step = refl }) refl in
    (the_signal_parts (suc n) p q r ms m rest h.0, h.1.1)

-- what a signal does not go on with
pub record EndsSignal (toks : Toks) : Type 0 where
  pub equal : begins signs.Equal toks ≡ false
  pub to : begins_with words.To toks ≡ false

a_signal : (n : ℕ) (x : Name) (ms : Option (List ModeTree)) (t : Option Name) (m m2 rest : Toks) → signal_parts_at n m ≡ Ok (ms, m2) → clause_at words.To name_at m2 ≡ Ok (t, rest) → signal_at n (name_token x ∷ m) ≡ Ok (record { name = x; parts = ms; process = t }, rest)
unfolding signal_at name_at
a_signal n x ms t m m2 rest h g = rw (h, g) refl

exact_signal : (n : ℕ) → Exact IsSignal (signal_at n) (suc n) EndsSignal
exact_signal n x toks rest (is_signal {n = y} {ms = ms} {t = t} {m = m} {m2 = m2} dm dt) below ends =
    let e2 : begins signs.Equal m2 ≡ false = clause_front (λ k. begins signs.Equal k ≡ false) (λ u k. refl) dt ends.equal in
    let xm = exact_signal_parts dm n below.1 e2 in
    let xt = exact_clause words.To name_at (suc n) AnyEnd (exact_name (suc n)) (λ u k v. v.1) dt xm.1 ends.to tt in
    (a_signal n y ms t m m2 rest xm.0 xt.0, xt.1)

signal_parts_shrink : {ms : Option (List ModeTree)} {toks rest : Toks} → AreSignalParts ms toks rest → length rest ≤ length toks
signal_parts_shrink no_signal_parts = omega arith
signal_parts_shrink (with_signal_parts d) = omega (arith, listed_shrinks mode_takes d)

signal_shrinks : Shrinks IsSignal
signal_shrinks x toks rest (is_signal d t) = omega (arith, signal_parts_shrink d, clause_shrinks name_shrinks t)

-- ---- parameters

passing_in : (p : Pos) (rest : Toks) → passing_at (word p words.In ∷ rest) ≡ Ok (Some ways.In, rest)
unfolding passing_at word_at
passing_in p rest = refl

passing_out : (p : Pos) (rest : Toks) → passing_at (word p words.Out ∷ rest) ≡ Ok (Some ways.Out, rest)
unfolding passing_at word_at
passing_out p rest = refl

passing_in_out : (p : Pos) (rest : Toks) → passing_at (word p words.InOut ∷ rest) ≡ Ok (Some ways.InOut, rest)
unfolding passing_at word_at
passing_in_out p rest = refl

passing_none : (toks : Toks) → begins_with words.In toks ≡ false → begins_with words.Out toks ≡ false → begins_with words.InOut toks ≡ false → passing_at toks ≡ Ok (None, toks)
unfolding passing_at
passing_none toks a b c = rw (a, b, c) refl

-- what a parameter does not go on with
pub record EndsParam (toks : Toks) : Type 0 where
  pub mode_ends : EndsAll toks
  pub no_in : begins_with words.In toks ≡ false
  pub no_out : begins_with words.Out toks ≡ false
  pub no_in_out : begins_with words.InOut toks ≡ false

exact_passing : {w : Option Passing} {toks rest : Toks} → IsPassing w toks rest → (n : ℕ) → StaysBelow n toks → EndsParam rest → (passing_at toks ≡ Ok (w, rest)) × StaysBelow n rest
exact_passing (no_passing {toks = toks}) n below ends = (passing_none toks ends.no_in ends.no_out ends.no_in_out, below)
exact_passing (pass_in {p = p} {rest = rest}) n below ends = (passing_in p rest, below.1)
exact_passing (pass_out {p = p} {rest = rest}) n below ends = (passing_out p rest, below.1)
exact_passing (pass_in_out {p = p} {rest = rest}) n below ends = (passing_in_out p rest, below.1)

passing_ends : {w : Option Passing} {toks rest : Toks} → IsPassing w toks rest → EndsParam rest → EndsAll toks
passing_ends no_passing ends = ends.mode_ends
passing_ends pass_in ends = record { open_sign = refl; pack = refl; no_pack = refl; step = refl }
passing_ends pass_out ends = record { open_sign = refl; pack = refl; no_pack = refl; step = refl }
passing_ends pass_in_out ends = record { open_sign = refl; pack = refl; no_pack = refl; step = refl }

passing_shrinks : {w : Option Passing} {toks rest : Toks} → IsPassing w toks rest → length rest ≤ length toks
passing_shrinks no_passing = omega arith
passing_shrinks pass_in = omega arith
passing_shrinks pass_out = omega arith
passing_shrinks pass_in_out = omega arith

a_param : (n : ℕ) (ns : List Name) (o : ModeTree) (w : Option Passing) (toks m m2 rest : Toks) → listed_at name_at toks ≡ Ok (ns, m) → mode_at n m ≡ Ok (o, m2) → passing_at m2 ≡ Ok (w, rest) → param_at n toks ≡ Ok (record { names = ns; mode = o; passing = w }, rest)
unfolding param_at
a_param n ns o w toks m m2 rest hn ho hw = rw (hn, ho, hw) refl

exact_param : (n : ℕ) → Exact IsParam (param_at n) (suc n) EndsParam
exact_param n x toks rest (is_param {ns = ns} {o = o} {w = w} {m = m} {m2 = m2} dn do' dw) below ends =
    let xn = exact_names dn (suc n) below (mode_first do').1 in
    let xo = exact_mode do' n xn.1 (passing_ends dw ends) in
    let xw = exact_passing dw (suc n) xo.1 ends in
    (a_param n ns o w toks m m2 rest xn.0 xo.0 xw.0, xw.1)

param_shrinks : Shrinks IsParam
param_shrinks x toks rest (is_param ns o w) = omega (arith, names_shrink ns, mode_shrinks o, passing_shrinks w)

a_formal : (n : ℕ) (ns : List Name) (o : ModeTree) (toks m rest : Toks) → listed_at name_at toks ≡ Ok (ns, m) → mode_at n m ≡ Ok (o, rest) → formal_at n toks ≡ Ok (record { names = ns; mode = o }, rest)
unfolding formal_at
a_formal n ns o toks m rest hn ho = rw (hn, ho) refl

exact_formal : (n : ℕ) → Exact IsFormal (formal_at n) (suc n) EndsAll
exact_formal n x toks rest (is_formal {ns = ns} {o = o} {m = m} dn do') below ends =
    let xn = exact_names dn (suc n) below (mode_first do').1 in
    let xo = exact_mode do' n xn.1 ends in
    (a_formal n ns o toks m rest xn.0 xo.0, xo.1)

formal_shrinks : Shrinks IsFormal
formal_shrinks x toks rest (is_formal ns o) = omega (arith, names_shrink ns, mode_shrinks o)

-- ---- lists up to a closing bracket

nothing_within : {X : Type 0} (read : Toks → Read X) (p : Pos) (rest : Toks) → within_at read (sign p signs.Close ∷ rest) ≡ Ok ([], rest)
unfolding within_at sign_at
nothing_within read p rest = refl

something_within : {X : Type 0} (read : Toks → Read X) (p : Pos) (xs : List X) (toks rest : Toks) → begins signs.Close toks ≡ false → listed_at read toks ≡ Ok (xs, sign p signs.Close ∷ rest) → within_at read toks ≡ Ok (xs, rest)
unfolding within_at sign_at
something_within read p xs toks rest b h = rw (b, h) refl

listed_open : {X : Type 0} {Is : X → Toks → Toks → Type 0} → ((x : X) (toks rest : Toks) → Is x toks rest → begins signs.Close toks ≡ false) → {xs : List X} {toks rest : Toks} → AreListed Is xs toks rest → begins signs.Close toks ≡ false
listed_open begin (one_of {x = x} {toks = toks} {rest = rest} d) = begin x toks rest d
listed_open begin (and_of l d) = listed_open begin l

exact_within : {X : Type 0} {Is : X → Toks → Toks → Type 0} (read : Toks → Read X) (n : ℕ) (Ends : Toks → Type 0) → Shrinks Is → Exact Is read (suc n) Ends → ((p : Pos) (m : Toks) → Ends (sign p signs.Comma ∷ m)) → ((p : Pos) (m : Toks) → Ends (sign p signs.Close ∷ m))
    → ((x : X) (toks rest : Toks) → Is x toks rest → begins signs.Close toks ≡ false)
    → {xs : List X} {toks rest : Toks} → AreWithin Is xs toks rest → StaysBelow (suc n) toks → (within_at read toks ≡ Ok (xs, rest)) × StaysBelow (suc (suc n)) rest
exact_within read n Ends s one comma close begin (none_within {p = p} {rest = rest}) below = (nothing_within read p rest, below.1)
exact_within read n Ends s one comma close begin (some_within {xs = xs} {p = p} {toks = toks} {rest = rest} d) below =
    let h = exact_listed read (suc n) Ends s one comma d below (close p rest) refl in
    (something_within read p xs toks rest (listed_open begin d) h.0, h.1.1)

within_shrinks : {X : Type 0} {Is : X → Toks → Toks → Type 0} → Shrinks Is → {xs : List X} {toks rest : Toks} → AreWithin Is xs toks rest → length rest < length toks
within_shrinks s none_within = omega arith
within_shrinks s (some_within d) = omega (arith, listed_shrinks s d)

names_no_close : {ns : List Name} {toks rest : Toks} → AreNames ns toks rest → begins signs.Close toks ≡ false
names_no_close (one_of is_name) = refl
names_no_close (and_of l d) = names_no_close l

param_begins : (x : ParamTree) (toks rest : Toks) → IsParam x toks rest → begins signs.Close toks ≡ false
param_begins x toks rest (is_param ns o w) = names_no_close ns

formal_begins : (x : FormalTree) (toks rest : Toks) → IsFormal x toks rest → begins signs.Close toks ≡ false
formal_begins x toks rest (is_formal ns o) = names_no_close ns

-- ---- results and exceptions

a_result : (n : ℕ) (p q : Pos) (o : ModeTree) (m rest : Toks) → mode_at (less n) m ≡ Ok (o, sign q signs.Close ∷ rest) → result_at n (sign p signs.Open ∷ m) ≡ Ok (o, rest)
unfolding result_at sign_at
a_result n p q o m rest h = rw h refl

exact_result : (n : ℕ) → Exact IsResult (result_at (suc n)) (suc (suc n)) AnyEnd
exact_result n x toks rest (is_result {o = o} {p = p} {q = q} {m = m} d) below ends =
    let h = exact_mode d n below.1 (record { open_sign = refl; pack = refl; no_pack = refl; step = refl }) in
    (a_result (suc n) p q o m rest h.0, h.1.1)

result_shrinks : Shrinks IsResult
result_shrinks x toks rest (is_result d) = omega (arith, mode_shrinks d)

the_exceptions : (p q : Pos) (ns : List Name) (m rest : Toks) → listed_at name_at m ≡ Ok (ns, sign q signs.Close ∷ rest) → exceptions_at (sign p signs.Open ∷ m) ≡ Ok (ns, rest)
unfolding exceptions_at sign_at
the_exceptions p q ns m rest h = rw h refl

exact_exceptions : (n : ℕ) → Exact AreExceptions exceptions_at (suc n) AnyEnd
exact_exceptions n x toks rest (are_exceptions {ns = ns} {p = p} {q = q} {m = m} d) below ends =
    let h = exact_names d n below.1 refl in
    (the_exceptions p q ns m rest h.0, h.1.1)

exceptions_shrink : Shrinks AreExceptions
exceptions_shrink x toks rest (are_exceptions d) = omega (arith, names_shrink d)

-- ---- blocks, procedures and processes

a_block : (n : ℕ) (x : Name) (p q r : Pos) (ps : List BodyTree) (h : Option HandlerTree) (c : Option Name) (toks m m2 rest : Toks) → body_at n p toks ≡ Ok (ps, word q words.End ∷ m) → handler_at (actions_at n) m ≡ Ok (h, m2) → closing_at (Some x) m2 ≡ Ok (c, sign r signs.Semicolon ∷ rest) → block_at n x p toks ≡ Ok ((ps, h, c), rest)
unfolding block_at word_at sign_at
a_block n x p q r ps h c toks m m2 rest hb hh hc = rw (hb, hh, hc) refl

exact_block : {x : Name} {ps : List BodyTree} {h : Option HandlerTree} {c : Option Name} {toks rest : Toks} → IsBlock x ps h c toks rest → (n : ℕ) (p : Pos) → StaysBelow (suc n) toks → (block_at (suc n) x p toks ≡ Ok ((ps, h, c), rest)) × StaysBelow (suc (suc n)) rest
exact_block (is_block {n = x} {ps = ps} {h = h} {c = c} {p = q} {q = r} {toks = toks} {m = m} {m2 = m2} {rest = rest} db dh dc) n p below =
    let xb = exact_body db n p below refl refl in
    let on : begins_with words.On m2 ≡ false = closing_front (λ k. begins_with words.On k ≡ false) (λ y k. refl) dc refl in
    let xh = exact_handler dh (suc n) xb.1.1 on in
    let xc = exact_closing dc (suc (suc n)) xh.1 in
    (a_block (suc n) x p q r ps h c toks m m2 rest xb.0 xh.0 xc.0, xc.1.1)

block_shrinks : {x : Name} {ps : List BodyTree} {h : Option HandlerTree} {c : Option Name} {toks rest : Toks} → IsBlock x ps h c toks rest → length rest < length toks
block_shrinks (is_block b h c) = omega (arith, body_shrinks b, handler_shrinks h, closing_shrinks c)

a_procedure : (n : ℕ) (x : Name) (p q r s : Pos) (ps : List ParamTree) (o : Option ModeTree) (es : Option (List Name)) (b : List BodyTree) (h : Option HandlerTree) (c : Option Name) (m m2 m3 m4 rest : Toks)
    → within_at (param_at (less (less n))) m ≡ Ok (ps, m2) → clause_at words.Returns (result_at (less n)) m2 ≡ Ok (o, m3) → clause_at words.Exceptions exceptions_at m3 ≡ Ok (es, sign s signs.Semicolon ∷ m4) → block_at n x q m4 ≡ Ok ((b, h, c), rest)
    → procedure_at n (name_token x ∷ sign p signs.Colon ∷ word q words.Proc ∷ sign r signs.Open ∷ m) ≡ Ok (record { name = x; params = ps; returns = o; exceptions = es; body = b; handler = h; closing = c }, rest)
unfolding procedure_at procedure_rest_at name_at word_at sign_at
a_procedure n x p q r s ps o es b h c m m2 m3 m4 rest hp ho he hb = rw (hp, ho, he, hb) refl

exact_procedure : {x : ProcedureTree} {toks rest : Toks} → IsProcedure x toks rest → (n : ℕ) → StaysBelow (suc n) toks → (procedure_at n toks ≡ Ok (x, rest)) × StaysBelow (suc n) rest
exact_procedure (is_procedure ps o es b) zero below = absurd (omega (arith, below.1.1.0))
exact_procedure (is_procedure ps o es b) (suc zero) below = absurd (omega (arith, below.1.1.1.0))
exact_procedure (is_procedure {n = x} {ps = ps} {o = o} {es = es} {b = b} {h = h} {c = c} {p = p} {q = q} {r = r} {s = s} {m = m} {m2 = m2} {m3 = m3} {m4 = m4} {rest = rest} dp do' de db) (suc (suc n)) below =
    let xp = exact_within (param_at n) n EndsParam param_shrinks (exact_param n)
    (λ u v. record { mode_ends = record { open_sign = refl; pack = refl; no_pack = refl; step = refl }; no_in = refl; no_out = refl; no_in_out = refl })
    (λ u v. record { mode_ends = record { open_sign = refl; pack = refl; no_pack = refl; step = refl }; no_in = refl; no_out = refl; no_in_out = refl })
    param_begins dp below.1.1.1.1 in
    let r3 : begins_with words.Returns m3 ≡ false = clause_front (λ k. begins_with words.Returns k ≡ false) (λ u k. refl) de refl in
    let xo = exact_clause words.Returns (result_at (suc n)) (suc (suc n)) AnyEnd (exact_result n) (λ u k v. v.1) do' xp.1 r3 tt in
    let xe = exact_clause words.Exceptions exceptions_at (suc (suc n)) AnyEnd (exact_exceptions (suc n)) (λ u k v. v.1) de xo.1 refl tt in
    let xb = exact_block db (suc n) q xe.1.1 in
    (a_procedure (suc (suc n)) x p q r s ps o es b h c m m2 m3 m4 rest xp.0 xo.0 xe.0 xb.0, xb.1)

procedure_shrinks : {x : ProcedureTree} {toks rest : Toks} → IsProcedure x toks rest → length rest < length toks
procedure_shrinks (is_procedure ps o es b) = omega (arith, within_shrinks param_shrinks ps, clause_shrinks result_shrinks o, clause_shrinks exceptions_shrink es, block_shrinks b)

a_process : (n : ℕ) (x : Name) (p q r s : Pos) (ps : List FormalTree) (b : List BodyTree) (h : Option HandlerTree) (c : Option Name) (m m2 rest : Toks) → within_at (formal_at (less (less n))) m ≡ Ok (ps, sign s signs.Semicolon ∷ m2) → block_at n x q m2 ≡ Ok ((b, h, c), rest)
    → process_at n (name_token x ∷ sign p signs.Colon ∷ word q words.Process ∷ sign r signs.Open ∷ m) ≡ Ok (record { name = x; formals = ps; body = b; handler = h; closing = c }, rest)
unfolding process_at process_rest_at name_at word_at sign_at
a_process n x p q r s ps b h c m m2 rest hp hb = rw (hp, hb) refl

exact_process : {x : ProcessTree} {toks rest : Toks} → IsProcess x toks rest → (n : ℕ) → StaysBelow (suc n) toks → (process_at n toks ≡ Ok (x, rest)) × StaysBelow (suc n) rest
exact_process (is_process ps b) zero below = absurd (omega (arith, below.1.1.0))
exact_process (is_process ps b) (suc zero) below = absurd (omega (arith, below.1.1.1.0))
exact_process (is_process {n = x} {ps = ps} {b = b} {h = h} {c = c} {p = p} {q = q} {r = r} {s = s} {m = m} {m2 = m2} {rest = rest} dp db) (suc (suc n)) below =
    let xp = exact_within (formal_at n) n EndsAll formal_shrinks (exact_formal n)
    (λ u v. record { open_sign = refl; pack = refl; no_pack = refl; step = refl })
    (λ u v. record { open_sign = refl; pack = refl; no_pack = refl; step = refl })
    formal_begins dp below.1.1.1.1 in
    let xb = exact_block db (suc n) q xp.1.1 in
    (a_process (suc (suc n)) x p q r s ps b h c m m2 rest xp.0 xb.0, xb.1)

process_shrinks : {x : ProcessTree} {toks rest : Toks} → IsProcess x toks rest → length rest < length toks
process_shrinks (is_process ps b) = omega (arith, within_shrinks formal_shrinks ps, block_shrinks b)

-- ---- items and modulions

a_kind : {k : ModulionKind} {toks m : Toks} → IsKind k toks m → (p : Pos) × (kind_at toks ≡ Ok ((p, k), m)) × ((n : ℕ) → StaysBelow n toks → (0 < less n) × StaysBelow (less n) m)
unfolding kind_at word_at
a_kind (is_module {p = p}) = (p, refl, λ n b. b)
a_kind (is_region {p = p}) = (p, refl, λ n b. b)

a_modulion : (n : ℕ) (items : Items) (x : Name) (p q r u : Pos) (k : ModulionKind) (is : List ItemTree) (h : Option HandlerTree) (c : Option Name) (toks m m2 m3 rest : Toks)
    → kind_at toks ≡ Ok ((q, k), m) → items q m ≡ Ok (is, word r words.End ∷ m2) → handler_at (actions_at n) m2 ≡ Ok (h, m3) → closing_at (Some x) m3 ≡ Ok (c, sign u signs.Semicolon ∷ rest)
    → modulion_at n items (name_token x ∷ sign p signs.Colon ∷ toks) ≡ Ok (record { name = x; kind = k; items = is; handler = h; closing = c }, rest)
unfolding modulion_at name_at word_at sign_at
a_modulion n items x p q r u k is h c toks m m2 m3 rest hk hi hh hc = rw (hk, hi, hh, hc) refl

seize_item : (n : ℕ) (items : Items) (at q : Pos) (w : Passed) (m rest : Toks) → passed_at m ≡ Ok (w, sign q signs.Semicolon ∷ rest) → item_at n items (word at words.Seize ∷ m) ≡ Ok (Some (seize at w, rest))
unfolding item_at word_at sign_at
seize_item n items at q w m rest h = rw h refl

grant_item : (n : ℕ) (items : Items) (at q : Pos) (w : Passed) (m rest : Toks) → passed_at m ≡ Ok (w, sign q signs.Semicolon ∷ rest) → item_at n items (word at words.Grant ∷ m) ≡ Ok (Some (grant at w, rest))
unfolding item_at word_at sign_at
grant_item n items at q w m rest h = rw h refl

signal_item : (n : ℕ) (items : Items) (at q : Pos) (xs : List SignalTree) (m rest : Toks) → listed_at (signal_at n) m ≡ Ok (xs, sign q signs.Semicolon ∷ rest) → item_at n items (word at words.Signal ∷ m) ≡ Ok (Some (signals at xs, rest))
unfolding item_at word_at sign_at
signal_item n items at q xs m rest h = rw h refl

-- what begins with none of the words of items
pub record NoItemWord (toks : Toks) : Type 0 where
  pub no_seize : begins_with words.Seize toks ≡ false
  pub no_grant : begins_with words.Grant toks ≡ false
  pub no_signal : begins_with words.Signal toks ≡ false

local_words : {l : LocalTree} {toks rest : Toks} → IsLocal l toks rest → NoItemWord toks
local_words (are_synonyms d) = record { no_seize = refl; no_grant = refl; no_signal = refl }
local_words (are_syn_modes d) = record { no_seize = refl; no_grant = refl; no_signal = refl }
local_words (are_new_modes d) = record { no_seize = refl; no_grant = refl; no_signal = refl }
local_words (are_locations d) = record { no_seize = refl; no_grant = refl; no_signal = refl }

a_local_item : (n : ℕ) (items : Items) (l : LocalTree) (toks rest : Toks) → NoItemWord toks → begins_local toks ≡ true → local_at n toks ≡ Ok (l, rest) → item_at n items toks ≡ Ok (Some (local_item l, rest))
unfolding item_at
a_local_item n items l toks rest w b h = rw (w.no_seize, w.no_grant, w.no_signal, b, h) refl

procedure_item : (n : ℕ) (items : Items) (x : ProcedureTree) (y : Name) (p q : Pos) (m rest : Toks) → procedure_at n (name_token y ∷ sign p signs.Colon ∷ word q words.Proc ∷ m) ≡ Ok (x, rest) → item_at n items (name_token y ∷ sign p signs.Colon ∷ word q words.Proc ∷ m) ≡ Ok (Some (procedure x, rest))
unfolding item_at block_item_at
procedure_item n items x y p q m rest h = rw h refl

process_item : (n : ℕ) (items : Items) (x : ProcessTree) (y : Name) (p q : Pos) (m rest : Toks) → process_at n (name_token y ∷ sign p signs.Colon ∷ word q words.Process ∷ m) ≡ Ok (x, rest) → item_at n items (name_token y ∷ sign p signs.Colon ∷ word q words.Process ∷ m) ≡ Ok (Some (process x, rest))
unfolding item_at block_item_at
process_item n items x y p q m rest h = rw h refl

modulion_kind_item : {k : ModulionKind} {toks m : Toks} → IsKind k toks m → (n : ℕ) (items : Items) (x : ModulionTree) (y : Name) (p : Pos) (rest : Toks) → modulion_at n items (name_token y ∷ sign p signs.Colon ∷ toks) ≡ Ok (x, rest) → item_at n items (name_token y ∷ sign p signs.Colon ∷ toks) ≡ Ok (Some (modulion_item x, rest))
unfolding item_at block_item_at
modulion_kind_item is_module n items x y p rest h = rw h refl
modulion_kind_item is_region n items x y p rest h = rw h refl

-- a statement is no other item
pub record StatementOnly (toks : Toks) : Type 0 where
  pub item_words : NoItemWord toks
  pub no_procedure : begins_block words.Proc toks ≡ false
  pub no_process : begins_block words.Process toks ≡ false
  pub no_module : begins_block words.Module toks ≡ false
  pub no_region : begins_block words.Region toks ≡ false

unlabelled_only : (toks : Toks) → begins_label toks ≡ false → begins_statement toks ≡ true → NoItemWord toks → StatementOnly toks
unlabelled_only toks l s w = record { item_words = w; no_procedure = rw l refl; no_process = rw l refl; no_module = rw l refl; no_region = rw l refl }

bracketed_words : {b : BracketedTree} {m rest : Toks} → IsBracketed b m rest → StatementOnly m × ((x : Name) (p : Pos) → StatementOnly (name_token x ∷ sign p signs.Colon ∷ m))
bracketed_words (is_if e ss bs o) = (record { item_words = record { no_seize = refl; no_grant = refl; no_signal = refl }; no_procedure = refl; no_process = refl; no_module = refl; no_region = refl }, λ x p. record { item_words = record { no_seize = refl; no_grant = refl; no_signal = refl }; no_procedure = refl; no_process = refl; no_module = refl; no_region = refl })
bracketed_words (is_case e cs lt o) = (record { item_words = record { no_seize = refl; no_grant = refl; no_signal = refl }; no_procedure = refl; no_process = refl; no_module = refl; no_region = refl }, λ x p. record { item_words = record { no_seize = refl; no_grant = refl; no_signal = refl }; no_procedure = refl; no_process = refl; no_module = refl; no_region = refl })
bracketed_words (is_do c ss) = (record { item_words = record { no_seize = refl; no_grant = refl; no_signal = refl }; no_procedure = refl; no_process = refl; no_module = refl; no_region = refl }, λ x p. record { item_words = record { no_seize = refl; no_grant = refl; no_signal = refl }; no_procedure = refl; no_process = refl; no_module = refl; no_region = refl })
bracketed_words (is_begin ps) = (record { item_words = record { no_seize = refl; no_grant = refl; no_signal = refl }; no_procedure = refl; no_process = refl; no_module = refl; no_region = refl }, λ x p. record { item_words = record { no_seize = refl; no_grant = refl; no_signal = refl }; no_procedure = refl; no_process = refl; no_module = refl; no_region = refl })
bracketed_words (is_delay_case h ns lt) = (record { item_words = record { no_seize = refl; no_grant = refl; no_signal = refl }; no_procedure = refl; no_process = refl; no_module = refl; no_region = refl }, λ x p. record { item_words = record { no_seize = refl; no_grant = refl; no_signal = refl }; no_procedure = refl; no_process = refl; no_module = refl; no_region = refl })
bracketed_words (is_receive_case h rs lt o) = (record { item_words = record { no_seize = refl; no_grant = refl; no_signal = refl }; no_procedure = refl; no_process = refl; no_module = refl; no_region = refl }, λ x p. record { item_words = record { no_seize = refl; no_grant = refl; no_signal = refl }; no_procedure = refl; no_process = refl; no_module = refl; no_region = refl })

labelled_words : {l : Option Name} {b : BracketedTree} {toks m rest : Toks} → IsLabel l toks m → IsBracketed b m rest → StatementOnly toks
labelled_words no_label d = (bracketed_words d).0
labelled_words (with_label {n = x} {p = p}) d = (bracketed_words d).1 x p

name_words : (toks : Toks) → NameFirst toks → NoItemWord toks
name_words toks f = rw f.here (record { no_seize = refl; no_grant = refl; no_signal = refl })

simple_words : {a : SimpleTree} {toks rest : Toks} → IsSimple a toks rest → NoItemWord toks
simple_words (is_assign {toks = toks} t v) = name_words toks (location_first t refl refl)
simple_words (is_update {o = o} {kind = kind} {p = p} {q = q} {toks = toks} {m = m} t is may v) = let k = marks_stop p kind o (sign q signs.Becomes ∷ m) is in name_words toks (location_first t k.1 k.2)
simple_words (is_call d) = record { no_seize = refl; no_grant = refl; no_signal = refl }
simple_words (is_call_word d) = record { no_seize = refl; no_grant = refl; no_signal = refl }
simple_words is_exit = record { no_seize = refl; no_grant = refl; no_signal = refl }
simple_words (is_return d) = record { no_seize = refl; no_grant = refl; no_signal = refl }
simple_words (is_result d) = record { no_seize = refl; no_grant = refl; no_signal = refl }
simple_words (is_assert d) = record { no_seize = refl; no_grant = refl; no_signal = refl }
simple_words is_cause = record { no_seize = refl; no_grant = refl; no_signal = refl }
simple_words is_stop = record { no_seize = refl; no_grant = refl; no_signal = refl }
simple_words (is_start d) = record { no_seize = refl; no_grant = refl; no_signal = refl }
simple_words (is_delay d) = record { no_seize = refl; no_grant = refl; no_signal = refl }
simple_words is_continue = record { no_seize = refl; no_grant = refl; no_signal = refl }
simple_words (is_send e t c) = record { no_seize = refl; no_grant = refl; no_signal = refl }

statement_only : {s : StatementTree} {toks rest : Toks} → IsStatement s toks rest → StatementOnly toks
statement_only is_empty = record { item_words = record { no_seize = refl; no_grant = refl; no_signal = refl }; no_procedure = refl; no_process = refl; no_module = refl; no_region = refl }
statement_only (is_simple {toks = toks} a h) = let f = simple_first a in unlabelled_only toks f.label f.statement (simple_words a)
statement_only (is_bracketed l b h c) = labelled_words l b

an_action_item : (n : ℕ) (items : Items) (s : StatementTree) (toks rest : Toks) → StatementOnly toks → begins_local toks ≡ false → begins_statement toks ≡ true → statement_at n (actions_at n) (body_at n) toks ≡ Ok (s, rest) → item_at n items toks ≡ Ok (Some (action s, rest))
unfolding item_at block_item_at
an_action_item n items s toks rest o l b h = rw (o.item_words.no_seize, o.item_words.no_grant, o.item_words.no_signal, l, o.no_procedure, o.no_process, o.no_module, o.no_region, b, h) refl

no_item : (n : ℕ) (items : Items) (p : Pos) (m : Toks) → item_at n items (word p words.End ∷ m) ≡ Ok None
unfolding item_at block_item_at
no_item n items p m = refl

the_items : (n : ℕ) (p : Pos) (toks : Toks) (x : Read (List ItemTree)) → many_at (item_at n (items_at n)) toks ≡ x → items_at (suc n) p toks ≡ x
unfolding items_at
the_items n p toks x h = h

procedure_piece : {x : ProcedureTree} {toks rest : Toks} → IsProcedure x toks rest → (n : ℕ) (items : Items) → procedure_at n toks ≡ Ok (x, rest) → item_at n items toks ≡ Ok (Some (procedure x, rest))
procedure_piece {x = x} {rest = rest} (is_procedure {n = y} {p = p} {q = q} {r = r} {m = m} ps o es b) n items h = procedure_item n items x y p q (sign r signs.Open ∷ m) rest h

process_piece : {x : ProcessTree} {toks rest : Toks} → IsProcess x toks rest → (n : ℕ) (items : Items) → process_at n toks ≡ Ok (x, rest) → item_at n items toks ≡ Ok (Some (process x, rest))
process_piece {x = x} {rest = rest} (is_process {n = y} {p = p} {q = q} {r = r} {m = m} ps b) n items h = process_item n items x y p q (sign r signs.Open ∷ m) rest h

modulion_piece : {x : ModulionTree} {toks rest : Toks} → IsModulion x toks rest → (n : ℕ) (items : Items) → modulion_at n items toks ≡ Ok (x, rest) → item_at n items toks ≡ Ok (Some (modulion_item x, rest))
modulion_piece {x = x} {rest = rest} (is_modulion {n = y} {p = p} k is h c) n items e = modulion_kind_item k n items x y p rest e

kind_shrinks : {k : ModulionKind} {toks m : Toks} → IsKind k toks m → length m < length toks
kind_shrinks is_module = omega arith
kind_shrinks is_region = omega arith

mutual
  item_shrinks : {i : ItemTree} {toks rest : Toks} → IsItem i toks rest → length rest < length toks
  item_shrinks (is_seize w) = omega (arith, passed_shrinks w)
  item_shrinks (is_grant w) = omega (arith, passed_shrinks w)
  item_shrinks (is_local_item l) = local_shrinks l
  item_shrinks (are_signals d) = omega (arith, listed_shrinks signal_shrinks d)
  item_shrinks (is_procedure_item d) = procedure_shrinks d
  item_shrinks (is_process_item d) = process_shrinks d
  item_shrinks (is_modulion_item d) = modulion_shrinks d
  item_shrinks (is_action d) = statement_shrinks d

  items_shrink : {is : List ItemTree} {toks rest : Toks} → AreItems is toks rest → length is + length rest ≤ length toks
  items_shrink no_items = omega arith
  items_shrink (then_item {is = is} {i = i} l d) = omega (arith, items_shrink l, item_shrinks d, length-append is (i ∷ []))

  modulion_shrinks : {x : ModulionTree} {toks rest : Toks} → IsModulion x toks rest → length rest < length toks
  modulion_shrinks (is_modulion k is h c) = omega (arith, kind_shrinks k, items_shrink is, handler_shrinks h, closing_shrinks c)

all_items : {is : List ItemTree} {p : Pos} {toks m : Toks} → AreItems is toks (word p words.End ∷ m) → (n : ℕ) (q : Pos) → Gathering (item_at n (items_at n)) is toks (word p words.End ∷ m) → items_at (suc n) q toks ≡ Ok (is, word p words.End ∷ m)
all_items {is = is} {p = p} {toks = toks} {m = m} d n q x =
    the_items n q toks (Ok (is, word p words.End ∷ m)) (gathering_all (item_at n (items_at n)) is toks (word p words.End ∷ m) x (no_item n (items_at n) p m) (omega (arith, items_shrink d)))

mutual
  exact_item : {i : ItemTree} {toks rest : Toks} → IsItem i toks rest → (n : ℕ) → StaysBelow (suc n) toks → (item_at n (items_at n) toks ≡ Ok (Some (i, rest))) × StaysBelow (suc n) rest
  exact_item (is_seize {at = at} {q = q} {w = w} {m = m} {rest = rest} d) n below = let h = exact_passed d (suc n) below.1 refl in (seize_item n (items_at n) at q w m rest h.0, h.1.1)
  exact_item (is_grant {at = at} {q = q} {w = w} {m = m} {rest = rest} d) n below = let h = exact_passed d (suc n) below.1 refl in (grant_item n (items_at n) at q w m rest h.0, h.1.1)
  exact_item (is_local_item {l = l} {toks = toks} {rest = rest} d) n below = let h = exact_local d n below in (a_local_item n (items_at n) l toks rest (local_words d) (local_first d) h.0, h.1)
  exact_item (are_signals {at = at} {q = q} {ss = xs} {m = m} {rest = rest} d) n below =
      let h = exact_listed (signal_at n) (suc n) EndsSignal signal_shrinks (exact_signal n) (λ u v. record { equal = refl; to = refl }) d below.1 (record { equal = refl; to = refl }) refl in
      (signal_item n (items_at n) at q xs m rest h.0, h.1.1)
  exact_item (is_procedure_item d) n below = let h = exact_procedure d n below in (procedure_piece d n (items_at n) h.0, h.1)
  exact_item (is_process_item d) n below = let h = exact_process d n below in (process_piece d n (items_at n) h.0, h.1)
  exact_item (is_modulion_item d) n below = let h = exact_modulion d n below in (modulion_piece d n (items_at n) h.0, h.1)
  exact_item (is_action {s = s} {toks = toks} {rest = rest} d) n below =
      let h = exact_statement d n below in
      let f = statement_first d in
      (an_action_item n (items_at n) s toks rest (statement_only d) f.1 f.0 h.0, h.1)

  exact_items : {is : List ItemTree} {toks rest : Toks} → AreItems is toks rest → (n : ℕ) → StaysBelow (suc n) toks → Gathering (item_at n (items_at n)) is toks rest × StaysBelow (suc n) rest
  exact_items (no_items {toks = toks}) n below = (gathering_none (item_at n (items_at n)) toks, below)
  exact_items (then_item {is = is} {i = i} {toks = toks} {m = m} {rest = rest} l d) n below =
      let il = exact_items l n below in
      let id = exact_item d n il.1 in
      (gathering_then (item_at n (items_at n)) is i toks m rest il.0 id.0, id.1)

  exact_modulion : {x : ModulionTree} {toks rest : Toks} → IsModulion x toks rest → (n : ℕ) → StaysBelow (suc n) toks → (modulion_at n (items_at n) toks ≡ Ok (x, rest)) × StaysBelow (suc n) rest
  exact_modulion (is_modulion dk di dh dc) zero below = let k = (a_kind dk).2 1 below.1.1 in absurd (omega (arith, k.0))
  exact_modulion (is_modulion {n = x} {k = k} {is = is} {h = h} {c = c} {p = p} {r = r} {u = u} {toks = toks} {m = m} {m2 = m2} {m3 = m3} {rest = rest} dk di dh dc) (suc n) below =
      let xk = a_kind dk in
      let xi = exact_items di n (xk.2 (suc (suc n)) below.1.1).1 in
      let on : begins_with words.On m3 ≡ false = closing_front (λ v. begins_with words.On v ≡ false) (λ y v. refl) dc refl in
      let xh = exact_handler dh (suc n) xi.1.1 on in
      let xc = exact_closing dc (suc (suc n)) xh.1 in
      (a_modulion (suc n) (items_at (suc n)) x p xk.0 r u k is h c toks m m2 m3 rest xk.1 (all_items di n xk.0 xi.0) xh.0 xc.0, xc.1.1)

-- ---- programs

a_modulion_piece : {x : ModulionTree} {toks rest : Toks} → IsModulion x toks rest → (n : ℕ) → modulion_at n (items_at n) toks ≡ Ok (x, rest) → modulion_piece_at n toks ≡ Ok (Some (x, rest))
unfolding modulion_piece_at
a_modulion_piece (is_modulion k is h c) n e = rw e refl

no_modulion_piece : (n : ℕ) → modulion_piece_at n [] ≡ Ok None
unfolding modulion_piece_at
no_modulion_piece n = refl

exact_modulions : {xs : List ModulionTree} {toks rest : Toks} → AreModulions xs toks rest → (n : ℕ) → StaysBelow (suc n) toks → Gathering (modulion_piece_at n) xs toks rest × StaysBelow (suc n) rest × (length xs + length rest ≤ length toks)
exact_modulions (no_modulions {toks = toks}) n below = (gathering_none (modulion_piece_at n) toks, below, omega arith)
exact_modulions (then_modulion {xs = xs} {x = x} {toks = toks} {m = m} {rest = rest} l d) n below =
    let il = exact_modulions l n below in
    let id = exact_modulion d n il.1 in
    (gathering_then (modulion_piece_at n) xs x toks m rest il.0 (a_modulion_piece d n id.0), id.1, omega (arith, il.2, modulion_shrinks d, length-append xs (x ∷ [])))

the_program : (n : ℕ) (xs : List ModulionTree) (toks : Toks) → 0 < length xs → many_at (modulion_piece_at n) toks ≡ Ok (xs, []) → program_at n toks ≡ Ok (record { modulions = xs })
unfolding program_at
the_program n [] toks lt h = absurd (omega (arith, lt))
the_program n (x ∷ xs) toks lt h = rw h refl

-- a program is read as that program where there are levels enough
pub exact_program : {x : ProgramTree} {toks : Toks} → IsTreeOf toks x → (n : ℕ) → StaysBelow (suc n) toks → program_at n toks ≡ Ok x
exact_program (is_tree {xs = xs} {toks = toks} d lt) n below =
    let h = exact_modulions d n below in
    the_program n xs toks lt (gathering_all (modulion_piece_at n) xs toks [] h.0 (no_modulion_piece n) (omega (arith, h.2)))
