-- What is a statement is read as that statement.
use Rattle.std.proofs.Common.{◌≡◌, ℕ, zero, suc, ◌<◌, true, false, List, [], ◌∷◌, length, Option, Some, None, Result, Ok, refl, ◌∙◌, arith}
use Rattle.chill_base.specs.declared.pos.Pos.{Pos}
use Rattle.chill_tree.specs.declared.token.Word.TheVariants as words
use Rattle.chill_tree.specs.declared.token.Sign.TheVariants as signs
use Rattle.chill_tree.specs.declared.tree.name.Name.{Name}
use Rattle.chill_tree.specs.ExprTree.{ExprTree, RangeTree}
use Rattle.chill_tree.specs.LocalTree.{LocalTree}
use Rattle.chill_tree.specs.SimpleTree.{SimpleTree, ControlTree}
use Rattle.chill_tree.specs.StatementTree.{StatementTree, empty, simple, bracketed, BracketedTree, if_then, case_of, do_loop, begin_end, delay_case, receive_case, ElsIfTree, CaseTree, NamedTree, ReceiveTree, HandlerTree, BodyTree, local_part, action_part, statement_nodes, branch_nodes, case_nodes, named_nodes, receive_nodes, otherwise_node, handler_node, body_nodes}
use Rattle.rules_model.specs.Marks.{Toks, sign, word, name_token, begins, begins_with}
use Rattle.rules_model.specs.ExprGrammar.{AreRanges}
use Rattle.rules_model.specs.ListGrammar.{AreNames, IsLabel, no_label, with_label, IsClosing, left_open, closed_by}
use Rattle.rules_model.specs.SimpleGrammar.{place_of_simple}
use Rattle.rules_model.specs.StatementGrammar.{place_of_labelled, handles, IsDelayHead, no_head, head_sets, head_ranks, IsReceiveHead, sets_none, sets_one, IsStatement, is_empty, is_simple, is_bracketed, AreStatements, no_statements, then_statement, IsBracketed, is_if, is_case, is_do, is_begin, is_delay_case, is_receive_case, AreBranches, no_branches, then_branch, AreCases, no_cases, then_case, AreNamed, no_named, then_named, AreReceives, no_receives, then_receive, IsOtherwise, no_else, with_else, IsHandler, no_handler, with_handler, AreBody, no_parts, then_local, then_action}
use Rattle.rules_model.specs.Nesting.{less, StaysBelow}
use Rattle.rules_model.specs.Reading.{Fault, Read, sign_at, word_at, name_at, many_at, listed_at}
use Rattle.rules_model.specs.ExprReading.{expr_at, location_at, range_at}
use Rattle.rules_model.specs.ModeReading.{value_at, local_at}
use Rattle.rules_model.specs.SimpleReading.{clause_at, control_at, simple_at}
use Rattle.rules_model.specs.StatementReading.{begins_statement, begins_local, Acts, Body, kept, otherwise_at, branch_at, case_at, alternative_at, receipt_at, handler_at, closing_at, if_at, case_of_at, do_at, begin_at, delay_head_at, delay_case_at, receive_head_at, receive_case_at, bracketed_at, holding_at, labelled_at, unlabelled_at, statement_at, action_at, body_part_at, inside_at, actions_at, body_at}
use Rattle.rules_model.proofs.Names.{same_equal}
use Rattle.rules_model.proofs.Loops.{Gathering, gathering_none, gathering_then, gathering_all, listing_all}
use Rattle.rules_model.proofs.ExprStarts.{ranges_shrink}
use Rattle.rules_model.proofs.ExprStops.{Stops}
use Rattle.rules_model.proofs.ExprExact.{exact_ranges}
use Rattle.rules_model.proofs.LocationExact.{exact_location}
use Rattle.rules_model.proofs.ListExact.{Exact, exact_names}
use Rattle.rules_model.proofs.ModeExact.{exact_value}
use Rattle.rules_model.proofs.LocalExact.{exact_local}
use Rattle.rules_model.proofs.SimpleExact.{EndsSimple, exact_clause, clause_front, value_exact, exact_control, exact_simple}
use Rattle.rules_model.proofs.StatementStarts.{statements_shrink, branches_shrink, cases_shrink, named_shrink, receives_shrink, body_shrinks, otherwise_front, handler_front, branches_front, named_front, receives_front, closing_front, BracketedFirst, bracketed_first, SimpleFirst, simple_first, statement_first, local_first}

-- ---- one production each

kept_some : {X B : Type 0} (xs : List X) (toks : Toks) (r x : Result B Fault) → 0 < length xs → r ≡ x → kept xs toks r ≡ x
kept_some [] toks r x lt h = absurd (omega (arith, lt))
kept_some (y ∷ ys) toks r x lt h = h

an_else : (acts : Acts) (at p : Pos) (ss : List StatementTree) (m rest : Toks) → acts at m ≡ Ok (ss, rest) → otherwise_at acts at (word p words.Else ∷ m) ≡ Ok (Some ss, rest)
unfolding otherwise_at word_at
an_else acts at p ss m rest h = rw h refl

without_else : (acts : Acts) (at : Pos) (toks : Toks) → begins_with words.Else toks ≡ false → otherwise_at acts at toks ≡ Ok (None, toks)
unfolding otherwise_at
without_else acts at toks b = rw b refl

a_branch : (n : ℕ) (acts : Acts) (at p q : Pos) (e : ExprTree) (ss : List StatementTree) (m m2 rest : Toks) → value_at n m ≡ Ok (e, word q words.Then ∷ m2) → acts at m2 ≡ Ok (ss, rest) → branch_at n acts at (word p words.ElsIf ∷ m) ≡ Ok (Some (record { at = p; condition = e; actions = ss }, rest))
unfolding branch_at word_at
a_branch n acts at p q e ss m m2 rest h g = rw (h, g) refl

without_branch : (n : ℕ) (acts : Acts) (at : Pos) (toks : Toks) → begins_with words.ElsIf toks ≡ false → branch_at n acts at toks ≡ Ok None
unfolding branch_at
without_branch n acts at toks b = rw b refl

a_case : (n : ℕ) (acts : Acts) (at p q r : Pos) (ls : List RangeTree) (ss : List StatementTree) (m m2 rest : Toks) → listed_at (range_at (expr_at n p)) m ≡ Ok (ls, sign q signs.Close ∷ sign r signs.Colon ∷ m2) → acts at m2 ≡ Ok (ss, rest) → case_at n acts at (sign p signs.Open ∷ m) ≡ Ok (Some (record { at = p; labels = ls; actions = ss }, rest))
unfolding case_at sign_at
a_case n acts at p q r ls ss m m2 rest h g = rw (h, g) refl

without_case : (n : ℕ) (acts : Acts) (at : Pos) (toks : Toks) → begins signs.Open toks ≡ false → case_at n acts at toks ≡ Ok None
unfolding case_at
without_case n acts at toks b = rw b refl

an_alternative : (acts : Acts) (at p q r : Pos) (ns : List Name) (ss : List StatementTree) (m m2 rest : Toks) → listed_at name_at m ≡ Ok (ns, sign q signs.Close ∷ sign r signs.Colon ∷ m2) → acts at m2 ≡ Ok (ss, rest) → alternative_at acts at (sign p signs.Open ∷ m) ≡ Ok (Some (record { at = p; names = ns; actions = ss }, rest))
unfolding alternative_at sign_at
an_alternative acts at p q r ns ss m m2 rest h g = rw (h, g) refl

without_alternative : (acts : Acts) (at : Pos) (toks : Toks) → begins signs.Open toks ≡ false → alternative_at acts at toks ≡ Ok None
unfolding alternative_at
without_alternative acts at toks b = rw b refl

a_receipt : (acts : Acts) (at p q r : Pos) (x : Name) (ns : Option (List Name)) (ss : List StatementTree) (m m2 rest : Toks) → clause_at words.In (listed_at name_at) m ≡ Ok (ns, sign q signs.Close ∷ sign r signs.Colon ∷ m2) → acts at m2 ≡ Ok (ss, rest)
    → receipt_at acts at (sign p signs.Open ∷ name_token x ∷ m) ≡ Ok (Some (record { at = p; source = x; received = ns; actions = ss }, rest))
unfolding receipt_at sign_at name_at
a_receipt acts at p q r x ns ss m m2 rest h g = rw (h, g) refl

without_receipt : (acts : Acts) (at : Pos) (toks : Toks) → begins signs.Open toks ≡ false → receipt_at acts at toks ≡ Ok None
unfolding receipt_at
without_receipt acts at toks b = rw b refl

a_handler : (acts : Acts) (at q : Pos) (ns : List NamedTree) (o : Option (List StatementTree)) (m m2 rest : Toks) → many_at (alternative_at acts at) m ≡ Ok (ns, m2) → otherwise_at acts at m2 ≡ Ok (o, word q words.End ∷ rest) → handles ns o ≡ true
    → handler_at acts (word at words.On ∷ m) ≡ Ok (Some (record { at = at; alternatives = ns; otherwise_part = o }), rest)
unfolding handler_at word_at
a_handler acts at q ns o m m2 rest h g k = rw (h, g, k) refl

without_handler : (acts : Acts) (toks : Toks) → begins_with words.On toks ≡ false → handler_at acts toks ≡ Ok (None, toks)
unfolding handler_at
without_handler acts toks b = rw b refl

pub exact_closing : {l c : Option Name} {p : Pos} {toks rest : Toks} → IsClosing l c toks (sign p signs.Semicolon ∷ rest) → (n : ℕ) → StaysBelow n toks → (closing_at l toks ≡ Ok (c, sign p signs.Semicolon ∷ rest)) × StaysBelow n (sign p signs.Semicolon ∷ rest)
unfolding closing_at
exact_closing left_open n below = (refl, below)
exact_closing (closed_by {label = l} {n = x} e) n below = (rw (same_equal x.text l.text e) refl, below.1)

an_if : (n : ℕ) (acts : Acts) (body : Body) (at p q : Pos) (e : ExprTree) (ss : List StatementTree) (bs : List ElsIfTree) (o : Option (List StatementTree)) (m m2 m3 m4 rest : Toks)
    → value_at (less n) m ≡ Ok (e, word p words.Then ∷ m2) → acts at m2 ≡ Ok (ss, m3) → many_at (branch_at (less n) acts at) m3 ≡ Ok (bs, m4) → otherwise_at acts at m4 ≡ Ok (o, word q words.Fi ∷ rest)
    → bracketed_at n acts body (word at words.If ∷ m) ≡ Ok (if_then at e (statement_nodes ss) (branch_nodes bs) (otherwise_node o), rest)
unfolding bracketed_at if_at word_at
an_if n acts body at p q e ss bs o m m2 m3 m4 rest he hs hb ho = rw (he, hs, hb, ho) refl

a_case_of : (n : ℕ) (acts : Acts) (body : Body) (at p q : Pos) (e : ExprTree) (cs : List CaseTree) (o : Option (List StatementTree)) (m m2 m3 rest : Toks)
    → value_at (less n) m ≡ Ok (e, word p words.Of ∷ m2) → many_at (case_at (less n) acts at) m2 ≡ Ok (cs, m3) → 0 < length cs → otherwise_at acts at m3 ≡ Ok (o, word q words.Esac ∷ rest)
    → bracketed_at n acts body (word at words.Case ∷ m) ≡ Ok (case_of at e (case_nodes cs) (otherwise_node o), rest)
unfolding bracketed_at case_of_at word_at
a_case_of n acts body at p q e cs o m m2 m3 rest he hc lt ho = rw (he, hc) (kept_some cs m3 _ (Ok (case_of at e (case_nodes cs) (otherwise_node o), rest)) lt (rw ho refl))

a_do : (n : ℕ) (acts : Acts) (body : Body) (at p q : Pos) (c : ControlTree) (ss : List StatementTree) (m m2 rest : Toks) → control_at (less n) m ≡ Ok (c, sign p signs.Semicolon ∷ m2) → acts at m2 ≡ Ok (ss, word q words.Od ∷ rest)
    → bracketed_at n acts body (word at words.Do ∷ m) ≡ Ok (do_loop at c (statement_nodes ss), rest)
unfolding bracketed_at do_at word_at sign_at
a_do n acts body at p q c ss m m2 rest hc hs = rw (hc, hs) refl

a_begin : (n : ℕ) (acts : Acts) (body : Body) (at q : Pos) (ps : List BodyTree) (m rest : Toks) → body at m ≡ Ok (ps, word q words.End ∷ rest) → bracketed_at n acts body (word at words.Begin ∷ m) ≡ Ok (begin_end at (body_nodes ps), rest)
unfolding bracketed_at begin_at word_at
a_begin n acts body at q ps m rest h = rw h refl

a_delay_case : (n : ℕ) (acts : Acts) (body : Body) (at p q : Pos) (l c : Option ExprTree) (ns : List NamedTree) (m m2 rest : Toks) → delay_head_at (less n) m ≡ Ok ((l, c), m2) → many_at (alternative_at acts p) m2 ≡ Ok (ns, word q words.Esac ∷ rest) → 0 < length ns
    → bracketed_at n acts body (word at words.Delay ∷ word p words.Case ∷ m) ≡ Ok (delay_case at l c (named_nodes ns), rest)
unfolding bracketed_at delay_case_at word_at
a_delay_case n acts body at p q l c ns m m2 rest hh hn lt = rw (hh, hn) (kept_some ns (word q words.Esac ∷ rest) _ (Ok (delay_case at l c (named_nodes ns), rest)) lt refl)

a_receive_case : (n : ℕ) (acts : Acts) (body : Body) (at p q : Pos) (l : Option ExprTree) (rs : List ReceiveTree) (o : Option (List StatementTree)) (m m2 m3 rest : Toks)
    → receive_head_at (less n) m ≡ Ok (l, m2) → many_at (receipt_at acts p) m2 ≡ Ok (rs, m3) → 0 < length rs → otherwise_at acts p m3 ≡ Ok (o, word q words.Esac ∷ rest)
    → bracketed_at n acts body (word at words.Receive ∷ word p words.Case ∷ m) ≡ Ok (receive_case at l (receive_nodes rs) (otherwise_node o), rest)
unfolding bracketed_at receive_case_at word_at
a_receive_case n acts body at p q l rs o m m2 m3 rest hh hr lt ho = rw (hh, hr) (kept_some rs m3 _ (Ok (receive_case at l (receive_nodes rs) (otherwise_node o), rest)) lt (rw ho refl))

-- ---- heads

a_setting_head : (n : ℕ) (p q : Pos) (l : ExprTree) (c : Option ExprTree) (m m2 rest : Toks) → location_at (expr_at n) m ≡ Ok (l, m2) → clause_at words.Priority (value_at n) m2 ≡ Ok (c, sign q signs.Semicolon ∷ rest) → delay_head_at n (word p words.Set ∷ m) ≡ Ok ((Some l, c), rest)
unfolding delay_head_at word_at sign_at
a_setting_head n p q l c m m2 rest h g = rw (h, g) refl

a_ranking_head : (n : ℕ) (p q : Pos) (e : ExprTree) (m rest : Toks) → value_at n m ≡ Ok (e, sign q signs.Semicolon ∷ rest) → delay_head_at n (word p words.Priority ∷ m) ≡ Ok ((None, Some e), rest)
unfolding delay_head_at word_at sign_at
a_ranking_head n p q e m rest h = rw h refl

without_head : (n : ℕ) (toks : Toks) → begins_with words.Set toks ≡ false → begins_with words.Priority toks ≡ false → delay_head_at n toks ≡ Ok ((None, None), toks)
unfolding delay_head_at
without_head n toks b c = rw (b, c) refl

exact_delay_head : {l c : Option ExprTree} {toks rest : Toks} → IsDelayHead l c toks rest → (n : ℕ) → StaysBelow (suc n) toks → begins_with words.Set rest ≡ false → begins_with words.Priority rest ≡ false → (delay_head_at n toks ≡ Ok ((l, c), rest)) × StaysBelow (suc n) rest
exact_delay_head (no_head {toks = toks}) n below b k = (without_head n toks b k, below)
exact_delay_head (head_sets {l = l} {c = c} {p = p} {q = q} {m = m} {m2 = m2} {rest = rest} dl dc) n below b k =
    let xl = exact_location dl n below.1 (clause_front (Stops 0) (λ u v. (refl, refl, refl, tt)) dc (refl, refl, refl, tt)) in
    let xc = exact_clause words.Priority (value_at n) (suc n) (Stops 5) (value_exact n) (λ u v w. w.1) dc xl.1 refl (refl, refl, refl, tt) in
    (a_setting_head n p q l c m m2 rest xl.0 xc.0, xc.1.1)
exact_delay_head (head_ranks {e = e} {p = p} {q = q} {m = m} {rest = rest} d) n below b k =
    let x = exact_value d n below.1 (refl, refl, refl, tt) in
    (a_ranking_head n p q e m rest x.0, x.1.1)

a_receive_head : (n : ℕ) (p q : Pos) (l : ExprTree) (m rest : Toks) → location_at (expr_at n) m ≡ Ok (l, sign q signs.Semicolon ∷ rest) → receive_head_at n (word p words.Set ∷ m) ≡ Ok (Some l, rest)
unfolding receive_head_at word_at sign_at
a_receive_head n p q l m rest h = rw h refl

without_receive_head : (n : ℕ) (toks : Toks) → begins_with words.Set toks ≡ false → receive_head_at n toks ≡ Ok (None, toks)
unfolding receive_head_at
without_receive_head n toks b = rw b refl

exact_receive_head : {l : Option ExprTree} {toks rest : Toks} → IsReceiveHead l toks rest → (n : ℕ) → StaysBelow (suc n) toks → begins_with words.Set rest ≡ false → (receive_head_at n toks ≡ Ok (l, rest)) × StaysBelow (suc n) rest
exact_receive_head (sets_none {toks = toks}) n below b = (without_receive_head n toks b, below)
exact_receive_head (sets_one {l = l} {p = p} {q = q} {m = m} {rest = rest} d) n below b =
    let x = exact_location d n below.1 (refl, refl, refl, tt) in
    (a_receive_head n p q l m rest x.0, x.1.1)

-- ---- statements

an_empty : (n : ℕ) (acts : Acts) (body : Body) (at : Pos) (rest : Toks) → statement_at n acts body (sign at signs.Semicolon ∷ rest) ≡ Ok (empty at, rest)
unfolding statement_at sign_at
an_empty n acts body at rest = refl

a_simple : (n : ℕ) (acts : Acts) (body : Body) (a : SimpleTree) (h : Option HandlerTree) (p : Pos) (toks m rest : Toks) → SimpleFirst toks → simple_at n toks ≡ Ok (a, m) → handler_at acts m ≡ Ok (h, sign p signs.Semicolon ∷ rest)
    → statement_at n acts body toks ≡ Ok (simple (place_of_simple a) a (handler_node h), rest)
unfolding statement_at unlabelled_at sign_at
a_simple n acts body a h p toks m rest f ha hh = rw (f.semicolon, f.label, f.bracketed, ha, hh) refl

holding : (n : ℕ) (acts : Acts) (body : Body) (l c : Option Name) (b : BracketedTree) (h : Option HandlerTree) (p : Pos) (m m2 m3 rest : Toks) → bracketed_at n acts body m ≡ Ok (b, m2) → handler_at acts m2 ≡ Ok (h, m3) → closing_at l m3 ≡ Ok (c, sign p signs.Semicolon ∷ rest)
    → holding_at n acts body l m ≡ Ok (bracketed (place_of_labelled l b) l b (handler_node h) c, rest)
unfolding holding_at sign_at
holding n acts body l c b h p m m2 m3 rest hb hh hc = rw (hb, hh, hc) refl

with_a_label : (n : ℕ) (acts : Acts) (body : Body) (x : Name) (p : Pos) (m : Toks) → statement_at n acts body (name_token x ∷ sign p signs.Colon ∷ m) ≡ holding_at n acts body (Some x) m
unfolding statement_at labelled_at name_at sign_at
with_a_label n acts body x p m = refl

without_label : (n : ℕ) (acts : Acts) (body : Body) (m : Toks) → BracketedFirst m → statement_at n acts body m ≡ holding_at n acts body None m
unfolding statement_at
without_label n acts body m f = rw (f.semicolon, f.label, f.bracketed) refl

a_holding : {l : Option Name} {b : BracketedTree} {toks m m2 : Toks} → IsLabel l toks m → IsBracketed b m m2 → (n : ℕ) (acts : Acts) (body : Body) → statement_at n acts body toks ≡ holding_at n acts body l m
a_holding (no_label {toks = m}) d n acts body = without_label n acts body m (bracketed_first d)
a_holding (with_label {n = x} {p = p} {rest = m}) d n acts body = with_a_label n acts body x p m

label_below : {l : Option Name} {toks m : Toks} → IsLabel l toks m → (n : ℕ) → StaysBelow n toks → StaysBelow n m
label_below no_label n below = below
label_below with_label n below = below.1.1

an_action : (n : ℕ) (acts : Acts) (body : Body) (s : StatementTree) (toks rest : Toks) → begins_statement toks ≡ true → statement_at n acts body toks ≡ Ok (s, rest) → action_at n acts body toks ≡ Ok (Some (s, rest))
unfolding action_at
an_action n acts body s toks rest b h = rw (b, h) refl

no_action : (n : ℕ) (acts : Acts) (body : Body) (toks : Toks) → begins_statement toks ≡ false → action_at n acts body toks ≡ Ok None
unfolding action_at
no_action n acts body toks b = rw b refl

a_body_action : (n : ℕ) (acts : Acts) (body : Body) (s : StatementTree) (toks rest : Toks) → begins_local toks ≡ false → begins_statement toks ≡ true → statement_at n acts body toks ≡ Ok (s, rest) → body_part_at n acts body toks ≡ Ok (Some (action_part s, rest))
unfolding body_part_at
a_body_action n acts body s toks rest l b h = rw (l, b, h) refl

a_body_local : (n : ℕ) (acts : Acts) (body : Body) (l : LocalTree) (toks rest : Toks) → begins_local toks ≡ true → local_at n toks ≡ Ok (l, rest) → body_part_at n acts body toks ≡ Ok (Some (local_part l, rest))
unfolding body_part_at
a_body_local n acts body l toks rest b h = rw (b, h) refl

no_body_part : (n : ℕ) (acts : Acts) (body : Body) (toks : Toks) → begins_local toks ≡ false → begins_statement toks ≡ false → body_part_at n acts body toks ≡ Ok None
unfolding body_part_at
no_body_part n acts body toks l b = rw (l, b) refl

the_actions : (n : ℕ) (p : Pos) (toks : Toks) (x : Read (List StatementTree)) → many_at (action_at n (actions_at n) (body_at n)) toks ≡ x → actions_at (suc n) p toks ≡ x
unfolding inside_at
the_actions n p toks x h = h

the_body : (n : ℕ) (p : Pos) (toks : Toks) (x : Read (List BodyTree)) → many_at (body_part_at n (actions_at n) (body_at n)) toks ≡ x → body_at (suc n) p toks ≡ x
unfolding inside_at
the_body n p toks x h = h

names_exact : (n : ℕ) → Exact AreNames (listed_at name_at) n (λ toks. begins signs.Comma toks ≡ false)
names_exact n x toks rest d below ends = exact_names d n below ends

exact_labels : {ls : List RangeTree} {q r : Pos} {toks rest : Toks} → AreRanges ls toks (sign q signs.Close ∷ sign r signs.Colon ∷ rest) → (n : ℕ) (p : Pos) → 0 < n → StaysBelow n toks
    → (listed_at (range_at (expr_at n p)) toks ≡ Ok (ls, sign q signs.Close ∷ sign r signs.Colon ∷ rest)) × StaysBelow n (sign q signs.Close ∷ sign r signs.Colon ∷ rest)
exact_labels d zero p pos below = absurd (omega (arith, pos))
exact_labels {ls = ls} {q = q} {r = r} {toks = toks} {rest = rest} d (suc n) p pos below =
    let h = exact_ranges d n p below (refl, refl, refl, tt) refl in
    (listing_all (range_at (expr_at (suc n) p)) ls toks (sign q signs.Close ∷ sign r signs.Colon ∷ rest) h.0 refl (omega (arith, ranges_shrink d)) h.2, h.1)

-- all the actions, and the whole body, in what opened
all_actions : {ss : List StatementTree} {toks rest : Toks} → AreStatements ss toks rest → (n : ℕ) (p : Pos) → Gathering (action_at n (actions_at n) (body_at n)) ss toks rest × StaysBelow (suc n) rest → begins_statement rest ≡ false → (actions_at (suc n) p toks ≡ Ok (ss, rest)) × StaysBelow (suc n) rest
all_actions {ss = ss} {toks = toks} {rest = rest} d n p x b =
    (the_actions n p toks (Ok (ss, rest)) (gathering_all (action_at n (actions_at n) (body_at n)) ss toks rest x.0 (no_action n (actions_at n) (body_at n) rest b) (omega (arith, statements_shrink d))), x.1)

all_parts : {ps : List BodyTree} {toks rest : Toks} → AreBody ps toks rest → (n : ℕ) (p : Pos) → Gathering (body_part_at n (actions_at n) (body_at n)) ps toks rest × StaysBelow (suc n) rest → begins_local rest ≡ false → begins_statement rest ≡ false → (body_at (suc n) p toks ≡ Ok (ps, rest)) × StaysBelow (suc n) rest
all_parts {ps = ps} {toks = toks} {rest = rest} d n p x l b =
    (the_body n p toks (Ok (ps, rest)) (gathering_all (body_part_at n (actions_at n) (body_at n)) ps toks rest x.0 (no_body_part n (actions_at n) (body_at n) rest l b) (omega (arith, body_shrinks d))), x.1)

mutual
  pub exact_statement : {s : StatementTree} {toks rest : Toks} → IsStatement s toks rest → (n : ℕ) → StaysBelow (suc n) toks → (statement_at n (actions_at n) (body_at n) toks ≡ Ok (s, rest)) × StaysBelow (suc n) rest
  exact_statement (is_empty {at = at} {rest = rest}) n below = (an_empty n (actions_at n) (body_at n) at rest, below.1)
  exact_statement (is_simple {a = a} {h = h} {p = p} {toks = toks} {m = m} {rest = rest} da dh) n below =
      let ends = handler_front EndsSimple (λ q k. record { stops = (refl, refl, refl, tt); open_sign = refl; no_more = refl; no_expr = refl; to = refl; priority = refl }) dh
      (record { stops = (refl, refl, refl, tt); open_sign = refl; no_more = refl; no_expr = refl; to = refl; priority = refl }) in
      let xa = exact_simple da n below ends in
      let xh = exact_handler dh n xa.1 refl in
      (a_simple n (actions_at n) (body_at n) a h p toks m rest (simple_first da) xa.0 xh.0, xh.1.1)
  exact_statement (is_bracketed {l = l} {c = c} {b = b} {h = h} {p = p} {toks = toks} {m = m} {m2 = m2} {m3 = m3} {rest = rest} dl db dh dc) n below =
      let xb = exact_bracketed db n (label_below dl (suc n) below) in
      let on : begins_with words.On m3 ≡ false = closing_front (λ k. begins_with words.On k ≡ false) (λ x k. refl) dc refl in
      let xh = exact_handler dh n xb.1 on in
      let xc = exact_closing dc (suc n) xh.1 in
      (a_holding dl db n (actions_at n) (body_at n) ∙ holding n (actions_at n) (body_at n) l c b h p m m2 m3 rest xb.0 xh.0 xc.0, xc.1.1)

  exact_statements : {ss : List StatementTree} {toks rest : Toks} → AreStatements ss toks rest → (n : ℕ) → StaysBelow (suc n) toks → Gathering (action_at n (actions_at n) (body_at n)) ss toks rest × StaysBelow (suc n) rest
  exact_statements (no_statements {toks = toks}) n below = (gathering_none (action_at n (actions_at n) (body_at n)) toks, below)
  exact_statements (then_statement {ss = ss} {s = s} {toks = toks} {m = m} {rest = rest} l d) n below =
      let il = exact_statements l n below in
      let id = exact_statement d n il.1 in
      (gathering_then (action_at n (actions_at n) (body_at n)) ss s toks m rest il.0 (an_action n (actions_at n) (body_at n) s m rest (statement_first d).0 id.0), id.1)

  exact_bracketed : {b : BracketedTree} {toks rest : Toks} → IsBracketed b toks rest → (n : ℕ) → StaysBelow (suc n) toks → (bracketed_at n (actions_at n) (body_at n) toks ≡ Ok (b, rest)) × StaysBelow (suc n) rest
  exact_bracketed (is_if e ss bs o) zero below = absurd (omega (arith, below.0))
  exact_bracketed (is_if {at = at} {p = p} {q = q} {e = e} {ss = ss} {bs = bs} {o = o} {m = m} {m2 = m2} {m3 = m3} {m4 = m4} {rest = rest} de ds db do') (suc n) below =
      let s4 : begins_statement m4 ≡ false = otherwise_front (λ k. begins_statement k ≡ false) (λ u k. refl) do' refl in
      let e4 : begins_with words.ElsIf m4 ≡ false = otherwise_front (λ k. begins_with words.ElsIf k ≡ false) (λ u k. refl) do' refl in
      let s3 : begins_statement m3 ≡ false = branches_front (λ k. begins_statement k ≡ false) (λ u k. refl) db s4 in
      let xe = exact_value de n below.1 (refl, refl, refl, tt) in
      let xs = all_actions ds n at (exact_statements ds n xe.1.1) s3 in
      let xb = exact_branches db n at xs.1 s4 in
      let bs' = gathering_all (branch_at n (actions_at (suc n)) at) bs m3 m4 xb.0 (without_branch n (actions_at (suc n)) at m4 e4) (omega (arith, branches_shrink db)) in
      let xo = exact_otherwise do' n at xb.1 refl refl in
      (an_if (suc n) (actions_at (suc n)) (body_at (suc n)) at p q e ss bs o m m2 m3 m4 rest xe.0 xs.0 bs' xo.0, xo.1.1)
  exact_bracketed (is_case e cs lt o) zero below = absurd (omega (arith, below.0))
  exact_bracketed (is_case {at = at} {p = p} {q = q} {e = e} {cs = cs} {o = o} {m = m} {m2 = m2} {m3 = m3} {rest = rest} de dc lt do') (suc n) below =
      let s3 : begins_statement m3 ≡ false = otherwise_front (λ k. begins_statement k ≡ false) (λ u k. refl) do' refl in
      let c3 : begins signs.Open m3 ≡ false = otherwise_front (λ k. begins signs.Open k ≡ false) (λ u k. refl) do' refl in
      let xe = exact_value de n below.1 (refl, refl, refl, tt) in
      let xc = exact_cases dc n at xe.1.1 s3 in
      let cs' = gathering_all (case_at n (actions_at (suc n)) at) cs m2 m3 xc.0 (without_case n (actions_at (suc n)) at m3 c3) (omega (arith, cases_shrink dc)) in
      let xo = exact_otherwise do' n at xc.1 refl refl in
      (a_case_of (suc n) (actions_at (suc n)) (body_at (suc n)) at p q e cs o m m2 m3 rest xe.0 cs' lt xo.0, xo.1.1)
  exact_bracketed (is_do c ss) zero below = absurd (omega (arith, below.0))
  exact_bracketed (is_do {at = at} {p = p} {q = q} {c = c} {ss = ss} {m = m} {m2 = m2} {rest = rest} dc ds) (suc n) below =
      let xc = exact_control dc n below.1 (refl, refl, refl, tt) refl in
      let xs = all_actions ds n at (exact_statements ds n xc.1.1) refl in
      (a_do (suc n) (actions_at (suc n)) (body_at (suc n)) at p q c ss m m2 rest xc.0 xs.0, xs.1.1)
  exact_bracketed (is_begin ps) zero below = absurd (omega (arith, below.0))
  exact_bracketed (is_begin {at = at} {q = q} {ps = ps} {m = m} {rest = rest} d) (suc n) below =
      let x = all_parts d n at (exact_parts d n below.1) refl refl in
      (a_begin (suc n) (actions_at (suc n)) (body_at (suc n)) at q ps m rest x.0, x.1.1)
  exact_bracketed (is_delay_case h ns lt) zero below = absurd (omega (arith, below.1.0))
  exact_bracketed (is_delay_case {at = at} {p = p} {q = q} {l = l} {c = c} {ns = ns} {m = m} {m2 = m2} {rest = rest} dh dn lt) (suc n) below =
      let s2 : begins_with words.Set m2 ≡ false = named_front (λ k. begins_with words.Set k ≡ false) (λ u k. refl) dn refl in
      let p2 : begins_with words.Priority m2 ≡ false = named_front (λ k. begins_with words.Priority k ≡ false) (λ u k. refl) dn refl in
      let xh = exact_delay_head dh n below.1.1 s2 p2 in
      let xn = exact_named dn n p xh.1 refl in
      let ns' = gathering_all (alternative_at (actions_at (suc n)) p) ns m2 (word q words.Esac ∷ rest) xn.0 (without_alternative (actions_at (suc n)) p (word q words.Esac ∷ rest) refl) (omega (arith, named_shrink dn)) in
      (a_delay_case (suc n) (actions_at (suc n)) (body_at (suc n)) at p q l c ns m m2 rest xh.0 ns' lt, xn.1.1)
  exact_bracketed (is_receive_case h rs lt o) zero below = absurd (omega (arith, below.1.0))
  exact_bracketed (is_receive_case {at = at} {p = p} {q = q} {l = l} {rs = rs} {o = o} {m = m} {m2 = m2} {m3 = m3} {rest = rest} dh dr lt do') (suc n) below =
      let s3 : begins_statement m3 ≡ false = otherwise_front (λ k. begins_statement k ≡ false) (λ u k. refl) do' refl in
      let o3 : begins signs.Open m3 ≡ false = otherwise_front (λ k. begins signs.Open k ≡ false) (λ u k. refl) do' refl in
      let t3 : begins_with words.Set m3 ≡ false = otherwise_front (λ k. begins_with words.Set k ≡ false) (λ u k. refl) do' refl in
      let t2 : begins_with words.Set m2 ≡ false = receives_front (λ k. begins_with words.Set k ≡ false) (λ u k. refl) dr t3 in
      let xh = exact_receive_head dh n below.1.1 t2 in
      let xr = exact_receives dr n p xh.1 s3 in
      let rs' = gathering_all (receipt_at (actions_at (suc n)) p) rs m2 m3 xr.0 (without_receipt (actions_at (suc n)) p m3 o3) (omega (arith, receives_shrink dr)) in
      let xo = exact_otherwise do' n p xr.1 refl refl in
      (a_receive_case (suc n) (actions_at (suc n)) (body_at (suc n)) at p q l rs o m m2 m3 rest xh.0 rs' lt xo.0, xo.1.1)

  exact_branches : {bs : List ElsIfTree} {toks rest : Toks} → AreBranches bs toks rest → (n : ℕ) (at : Pos) → StaysBelow (suc n) toks → begins_statement rest ≡ false → Gathering (branch_at n (actions_at (suc n)) at) bs toks rest × StaysBelow (suc n) rest
  exact_branches (no_branches {toks = toks}) n at below b = (gathering_none (branch_at n (actions_at (suc n)) at) toks, below)
  exact_branches (then_branch {bs = bs} {e = e} {ss = ss} {at = p} {p = q} {toks = toks} {m = m} {m2 = m2} {rest = rest} l de ds) n at below b =
      let il = exact_branches l n at below refl in
      let xe = exact_value de n il.1.1 (refl, refl, refl, tt) in
      let xs = all_actions ds n at (exact_statements ds n xe.1.1) b in
      (gathering_then (branch_at n (actions_at (suc n)) at) bs (record { at = p; condition = e; actions = ss }) toks (word p words.ElsIf ∷ m) rest il.0 (a_branch n (actions_at (suc n)) at p q e ss m m2 rest xe.0 xs.0), xs.1)

  exact_cases : {cs : List CaseTree} {toks rest : Toks} → AreCases cs toks rest → (n : ℕ) (at : Pos) → StaysBelow (suc n) toks → begins_statement rest ≡ false → Gathering (case_at n (actions_at (suc n)) at) cs toks rest × StaysBelow (suc n) rest
  exact_cases (no_cases {toks = toks}) n at below b = (gathering_none (case_at n (actions_at (suc n)) at) toks, below)
  exact_cases (then_case {cs = cs} {ls = ls} {ss = ss} {at = p} {p = q} {q = r} {toks = toks} {m = m} {m2 = m2} {rest = rest} l dl ds) n at below b =
      let il = exact_cases l n at below refl in
      let xl = exact_labels dl n p il.1.0 il.1.1 in
      let xs = all_actions ds n at (exact_statements ds n xl.1.1.1) b in
      (gathering_then (case_at n (actions_at (suc n)) at) cs (record { at = p; labels = ls; actions = ss }) toks (sign p signs.Open ∷ m) rest il.0 (a_case n (actions_at (suc n)) at p q r ls ss m m2 rest xl.0 xs.0), xs.1)

  exact_named : {cs : List NamedTree} {toks rest : Toks} → AreNamed cs toks rest → (n : ℕ) (at : Pos) → StaysBelow (suc n) toks → begins_statement rest ≡ false → Gathering (alternative_at (actions_at (suc n)) at) cs toks rest × StaysBelow (suc n) rest
  exact_named (no_named {toks = toks}) n at below b = (gathering_none (alternative_at (actions_at (suc n)) at) toks, below)
  exact_named (then_named {cs = cs} {ns = ns} {ss = ss} {at = p} {p = q} {q = r} {toks = toks} {m = m} {m2 = m2} {rest = rest} l dn ds) n at below b =
      let il = exact_named l n at below refl in
      let xn = exact_names dn n il.1.1 refl in
      let xs = all_actions ds n at (exact_statements ds n xn.1.1.1) b in
      (gathering_then (alternative_at (actions_at (suc n)) at) cs (record { at = p; names = ns; actions = ss }) toks (sign p signs.Open ∷ m) rest il.0 (an_alternative (actions_at (suc n)) at p q r ns ss m m2 rest xn.0 xs.0), xs.1)

  exact_receives : {cs : List ReceiveTree} {toks rest : Toks} → AreReceives cs toks rest → (n : ℕ) (at : Pos) → StaysBelow (suc n) toks → begins_statement rest ≡ false → Gathering (receipt_at (actions_at (suc n)) at) cs toks rest × StaysBelow (suc n) rest
  exact_receives (no_receives {toks = toks}) n at below b = (gathering_none (receipt_at (actions_at (suc n)) at) toks, below)
  exact_receives (then_receive {cs = cs} {n = x} {ns = ns} {ss = ss} {at = p} {p = q} {q = r} {toks = toks} {m = m} {m2 = m2} {rest = rest} l dn ds) n at below b =
      let il = exact_receives l n at below refl in
      let xn = exact_clause words.In (listed_at name_at) n (λ k. begins signs.Comma k ≡ false) (names_exact n) (λ u k v. v.1) dn il.1.1.1 refl refl in
      let xs = all_actions ds n at (exact_statements ds n xn.1.1.1) b in
      (gathering_then (receipt_at (actions_at (suc n)) at) cs (record { at = p; source = x; received = ns; actions = ss }) toks (sign p signs.Open ∷ name_token x ∷ m) rest il.0 (a_receipt (actions_at (suc n)) at p q r x ns ss m m2 rest xn.0 xs.0), xs.1)

  exact_otherwise : {o : Option (List StatementTree)} {toks rest : Toks} → IsOtherwise o toks rest → (n : ℕ) (at : Pos) → StaysBelow (suc n) toks → begins_statement rest ≡ false → begins_with words.Else rest ≡ false → (otherwise_at (actions_at (suc n)) at toks ≡ Ok (o, rest)) × StaysBelow (suc n) rest
  exact_otherwise (no_else {toks = toks}) n at below b e = (without_else (actions_at (suc n)) at toks e, below)
  exact_otherwise (with_else {ss = ss} {p = p} {m = m} {rest = rest} d) n at below b e =
      let x = all_actions d n at (exact_statements d n below.1) b in
      (an_else (actions_at (suc n)) at p ss m rest x.0, x.1)

  pub exact_handler : {h : Option HandlerTree} {toks rest : Toks} → IsHandler h toks rest → (n : ℕ) → StaysBelow (suc n) toks → begins_with words.On rest ≡ false → (handler_at (actions_at n) toks ≡ Ok (h, rest)) × StaysBelow (suc n) rest
  exact_handler (no_handler {toks = toks}) n below b = (without_handler (actions_at n) toks b, below)
  exact_handler (with_handler ns o k) zero below b = absurd (omega (arith, below.0))
  exact_handler (with_handler {at = at} {q = q} {ns = ns} {o = o} {m = m} {m2 = m2} {rest = rest} dn do' k) (suc n) below b =
      let s2 : begins_statement m2 ≡ false = otherwise_front (λ u. begins_statement u ≡ false) (λ u v. refl) do' refl in
      let o2 : begins signs.Open m2 ≡ false = otherwise_front (λ u. begins signs.Open u ≡ false) (λ u v. refl) do' refl in
      let xn = exact_named dn n at below.1 s2 in
      let ns' = gathering_all (alternative_at (actions_at (suc n)) at) ns m m2 xn.0 (without_alternative (actions_at (suc n)) at m2 o2) (omega (arith, named_shrink dn)) in
      let xo = exact_otherwise do' n at xn.1 refl refl in
      (a_handler (actions_at (suc n)) at q ns o m m2 rest ns' xo.0 k, xo.1.1)

  exact_parts : {ps : List BodyTree} {toks rest : Toks} → AreBody ps toks rest → (n : ℕ) → StaysBelow (suc n) toks → Gathering (body_part_at n (actions_at n) (body_at n)) ps toks rest × StaysBelow (suc n) rest
  exact_parts (no_parts {toks = toks}) n below = (gathering_none (body_part_at n (actions_at n) (body_at n)) toks, below)
  exact_parts (then_local {ps = ps} {l = l} {toks = toks} {m = m} {rest = rest} b d) n below =
      let ib = exact_parts b n below in
      let id = exact_local d n ib.1 in
      (gathering_then (body_part_at n (actions_at n) (body_at n)) ps (local_part l) toks m rest ib.0 (a_body_local n (actions_at n) (body_at n) l m rest (local_first d) id.0), id.1)
  exact_parts (then_action {ps = ps} {s = s} {toks = toks} {m = m} {rest = rest} b d) n below =
      let ib = exact_parts b n below in
      let id = exact_statement d n ib.1 in
      let f = statement_first d in
      (gathering_then (body_part_at n (actions_at n) (body_at n)) ps (action_part s) toks m rest ib.0 (a_body_action n (actions_at n) (body_at n) s m rest f.1 f.0 id.0), id.1)

-- the whole body in what opened at a place
pub exact_body : {ps : List BodyTree} {toks rest : Toks} → AreBody ps toks rest → (n : ℕ) (p : Pos) → StaysBelow (suc n) toks → begins_local rest ≡ false → begins_statement rest ≡ false → (body_at (suc n) p toks ≡ Ok (ps, rest)) × StaysBelow (suc n) rest
exact_body d n p below l b = all_parts d n p (exact_parts d n below) l b
