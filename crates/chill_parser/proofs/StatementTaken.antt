-- What is read as a statement, a handler or a body is that.
use Rattle.std.proofs.Common.{◌≡◌, ℕ, zero, suc, ◌<◌, Bool, true, false, cond, eqb, List, [], ◌∷◌, length, Option, Some, None, Result, Ok, refl, arith}
use Rattle.std.proofs.lemmas.Bool.{eqb-true}
use Rattle.chill_base.specs.declared.pos.Pos.{Pos}
use Rattle.chill_tree.specs.declared.token.Word.TheVariants as words
use Rattle.chill_tree.specs.declared.token.Sign.TheVariants as signs
use Rattle.chill_tree.specs.declared.token.TokenKind.{TokenKind}
use Rattle.chill_tree.specs.declared.token.TokenKind.TheVariants as kinds
use Rattle.chill_tree.specs.declared.tree.name.Name.{Name}
use Rattle.chill_tree.specs.ExprTree.{ExprTree}
use Rattle.chill_tree.specs.StatementTree.{StatementTree, empty, simple, bracketed, BracketedTree, if_then, case_of, do_loop, begin_end, delay_case, receive_case, ElsIfTree, CaseTree, NamedTree, ReceiveTree, HandlerTree, BodyTree, local_part, action_part, statement_nodes, branch_nodes, case_nodes, named_nodes, receive_nodes, otherwise_node, handler_node, body_nodes}
use Rattle.rules_model.specs.Marks.{Toks, tok, begins, begins_with, front}
use Rattle.rules_model.specs.ExprGrammar.{IsExpr, IsRange, AreRanges, one_range, and_range, IsLocation}
use Rattle.rules_model.specs.ListGrammar.{AreNames, IsClause, IsLabel, no_label, with_label, IsClosing, left_open, closed_by}
use Rattle.rules_model.specs.LocalGrammar.{IsLocal}
use Rattle.rules_model.specs.SimpleGrammar.{IsControl, IsSimple, place_of_simple}
use Rattle.rules_model.specs.StatementGrammar.{place_of_labelled, IsDelayHead, no_head, head_sets, head_ranks, IsReceiveHead, sets_none, sets_one, handles, IsStatement, is_empty, is_simple, is_bracketed, AreStatements, no_statements, then_statement, IsBracketed, is_if, is_case, is_do, is_begin, is_delay_case, is_receive_case, AreBranches, no_branches, then_branch, AreCases, no_cases, then_case, AreNamed, no_named, then_named, AreReceives, no_receives, then_receive, IsOtherwise, no_else, with_else, IsHandler, no_handler, with_handler, AreBody, no_parts, then_local, then_action}
use Rattle.rules_model.specs.Nesting.{less}
use Rattle.rules_model.specs.Reading.{Fault, Deep, Absent, push, name_at, many_at, listed_at}
use Rattle.rules_model.specs.ExprReading.{expr_at, location_at, range_at}
use Rattle.rules_model.specs.ModeReading.{value_at, local_at}
use Rattle.rules_model.specs.SimpleReading.{clause_at, control_at, simple_at}
use Rattle.rules_model.specs.StatementReading.{begins_label, begins_bracketed, begins_statement, begins_local, Acts, Body, kept, otherwise_at, branch_at, case_at, alternative_at, receipt_at, handler_at, same_name, closing_at, if_at, case_of_at, do_at, begin_at, delay_head_at, delay_case_at, receive_head_at, receive_case_at, bracketed_at, holding_at, labelled_at, unlabelled_at, statement_at, action_at, body_part_at, inside_at, actions_at, body_at}
use Rattle.chill_parser.proofs.Taken.{last_is, never, either, then_is, sign_then, word_then, name_then, Sound, Was, read_then, IfThere, sound_list, sound_names, sound_many, sound_clause}
use Rattle.chill_parser.proofs.ExprTaken.{sound_value, sound_location, sound_range}
use Rattle.chill_parser.proofs.LocalTaken.{sound_local}
use Rattle.chill_parser.proofs.SimpleTaken.{sound_value_clause, sound_control, sound_simple}

abbrev pub SoundActs : Acts → Type 0
SoundActs acts = (p : Pos) → Sound AreStatements (acts p)

abbrev pub SoundBody : Body → Type 0
SoundBody body = (p : Pos) → Sound AreBody (body p)

-- ---- names at an end

name_step : (b : Bool) (x y : ℕ) (xs ys : List ℕ) → eqb x y ≡ b → cond b (same_name xs ys) false ≡ true → (same_name xs ys ≡ true → xs ≡ ys) → (x ∷ xs) ≡ (y ∷ ys)
name_step true x y xs ys e h ih = let p = eqb-true x y e in let q = ih h in cc
name_step false x y xs ys e h ih = absurd cc

pub same_true : (a b : List ℕ) → same_name a b ≡ true → a ≡ b
same_true [] [] h = refl
same_true [] (y ∷ ys) h = absurd cc
same_true (x ∷ xs) [] h = absurd cc
same_true (x ∷ xs) (y ∷ ys) h = name_step (eqb x y) x y xs ys refl h (same_true xs ys)

closing_is : (label : Option Name) (at : Pos) (kind : TokenKind) (ts : Toks) (y : Option Name × Toks) → closing_at label (tok at kind ∷ ts) ≡ Ok y → Was (IsClosing label) (tok at kind ∷ ts) y
unfolding closing_at
closing_is None at (kinds.Name s) ts y e = never (Was (IsClosing None) (tok at (kinds.Name s) ∷ ts)) (Absent (Some at)) y e
closing_is (Some l) at (kinds.Name s) ts y e =
    let P : Option Name × Toks → Type 0 = Was (IsClosing (Some l)) (tok at (kinds.Name s) ∷ ts) in
    either P (same_name s l.text) _ _
    (λ b. last_is P (Some (record { at = at; text = s }), ts) (closed_by {label = l} {n = record { at = at; text = s }} {rest = ts} (same_true s l.text b)))
    (λ b. never P (Absent (Some at))) y e
closing_is label at (kinds.Word w) ts y e = last_is (Was (IsClosing label) (tok at (kinds.Word w) ∷ ts)) (None, tok at (kinds.Word w) ∷ ts) left_open y e
closing_is label at (kinds.Whole v) ts y e = last_is (Was (IsClosing label) (tok at (kinds.Whole v) ∷ ts)) (None, tok at (kinds.Whole v) ∷ ts) left_open y e
closing_is label at (kinds.Char v) ts y e = last_is (Was (IsClosing label) (tok at (kinds.Char v) ∷ ts)) (None, tok at (kinds.Char v) ∷ ts) left_open y e
closing_is label at (kinds.Text v) ts y e = last_is (Was (IsClosing label) (tok at (kinds.Text v) ∷ ts)) (None, tok at (kinds.Text v) ∷ ts) left_open y e
closing_is label at (kinds.Sign s) ts y e = last_is (Was (IsClosing label) (tok at (kinds.Sign s) ∷ ts)) (None, tok at (kinds.Sign s) ∷ ts) left_open y e

pub sound_closing : (label : Option Name) → Sound (IsClosing label) (closing_at label)
unfolding closing_at
sound_closing label [] x rest e = last_is (Was (IsClosing label) []) (None, []) left_open (x, rest) e
sound_closing label (t ∷ ts) x rest e = closing_is label t.at t.kind ts (x, rest) e

-- ---- the parts of statements

pub kept_is : {X B : Type 0} (P : B → Type 0) (xs : List X) (toks : Toks) (r : Result B Fault) → (0 < length xs → (y : B) → r ≡ Ok y → P y) → (y : B) → kept xs toks r ≡ Ok y → P y
kept_is P [] toks r f y e = never P (Absent (front toks)) y e
kept_is P (x ∷ xs) toks r f y e = f (omega arith) y e

sound_ranges : (n : ℕ) (p : Pos) → Sound AreRanges (listed_at (range_at (expr_at n p)))
sound_ranges n p = sound_list IsRange AreRanges (range_at (expr_at n p)) (sound_range n p) (λ x toks rest d. one_range d) (λ xs x q toks m rest l d. and_range l d)

module _ (acts : Acts) (sound_acts : SoundActs acts) where
  sound_otherwise : (p : Pos) → Sound IsOtherwise (otherwise_at acts p)
  unfolding otherwise_at
  sound_otherwise p toks x rest =
      let P : Option (List StatementTree) × Toks → Type 0 = Was IsOtherwise toks in
      either P (begins_with words.Else toks) _ _
      (λ b. word_then P words.Else toks _ (λ at m e. read_then P AreStatements (acts p) (sound_acts p) m _ (λ ss m2 d. last_is P (Some ss, m2) (rw e (with_else d)))))
      (λ b. last_is P (None, toks) no_else) (x, rest)

  branch_is : (n : ℕ) (p : Pos) (toks : Toks) (bs : List ElsIfTree) (m : Toks) → AreBranches bs toks m → (o : Option (ElsIfTree × Toks)) → branch_at n acts p m ≡ Ok o → IfThere (λ (x : ElsIfTree × Toks). AreBranches (push bs x.0) toks x.1) o
  unfolding branch_at
  branch_is n p toks bs m l =
      let P : Option (ElsIfTree × Toks) → Type 0 = IfThere (λ (x : ElsIfTree × Toks). AreBranches (push bs x.0) toks x.1) in
      either P (begins_with words.ElsIf m) _ _
      (λ b. word_then P words.ElsIf m _ (λ at m2 e. read_then P IsExpr (value_at n) (sound_value n) m2 _ (λ v m3 dv. word_then P words.Then m3 _ (λ t m4 e2. read_then P AreStatements (acts p) (sound_acts p) m4 _ (λ ss m5 ds.
      last_is P (Some (record { at = at; condition = v; actions = ss }, m5)) (then_branch (rw e at l) (rw e2 at dv) ds))))))
      (λ b. last_is P None tt)

  sound_branches : (n : ℕ) (p : Pos) → Sound AreBranches (many_at (branch_at n acts p))
  sound_branches n p = sound_many AreBranches (branch_at n acts p) (λ toks. no_branches) (branch_is n p)

  case_is : (n : ℕ) (p : Pos) (toks : Toks) (cs : List CaseTree) (m : Toks) → AreCases cs toks m → (o : Option (CaseTree × Toks)) → case_at n acts p m ≡ Ok o → IfThere (λ (x : CaseTree × Toks). AreCases (push cs x.0) toks x.1) o
  unfolding case_at
  case_is n p toks cs m l =
      let P : Option (CaseTree × Toks) → Type 0 = IfThere (λ (x : CaseTree × Toks). AreCases (push cs x.0) toks x.1) in
      either P (begins signs.Open m) _ _
      (λ b. sign_then P signs.Open m _ (λ at m2 e. read_then P AreRanges (listed_at (range_at (expr_at n at))) (sound_ranges n at) m2 _ (λ ls m3 dl. sign_then P signs.Close m3 _ (λ q m4 e2. sign_then P signs.Colon m4 _ (λ r m5 e3. read_then P AreStatements (acts p) (sound_acts p) m5 _ (λ ss m6 ds.
      last_is P (Some (record { at = at; labels = ls; actions = ss }, m6)) (then_case (rw e at l) (rw (e2, e3) at dl) ds)))))))
      (λ b. last_is P None tt)

  sound_cases : (n : ℕ) (p : Pos) → Sound AreCases (many_at (case_at n acts p))
  sound_cases n p = sound_many AreCases (case_at n acts p) (λ toks. no_cases) (case_is n p)

  alternative_is : (p : Pos) (toks : Toks) (cs : List NamedTree) (m : Toks) → AreNamed cs toks m → (o : Option (NamedTree × Toks)) → alternative_at acts p m ≡ Ok o → IfThere (λ (x : NamedTree × Toks). AreNamed (push cs x.0) toks x.1) o
  unfolding alternative_at
  alternative_is p toks cs m l =
      let P : Option (NamedTree × Toks) → Type 0 = IfThere (λ (x : NamedTree × Toks). AreNamed (push cs x.0) toks x.1) in
      either P (begins signs.Open m) _ _
      (λ b. sign_then P signs.Open m _ (λ at m2 e. read_then P AreNames (listed_at name_at) sound_names m2 _ (λ ns m3 dn. sign_then P signs.Close m3 _ (λ q m4 e2. sign_then P signs.Colon m4 _ (λ r m5 e3. read_then P AreStatements (acts p) (sound_acts p) m5 _ (λ ss m6 ds.
      last_is P (Some (record { at = at; names = ns; actions = ss }, m6)) (then_named (rw e at l) (rw (e2, e3) at dn) ds)))))))
      (λ b. last_is P None tt)

  sound_alternatives : (p : Pos) → Sound AreNamed (many_at (alternative_at acts p))
  sound_alternatives p = sound_many AreNamed (alternative_at acts p) (λ toks. no_named) (alternative_is p)

  receipt_is : (p : Pos) (toks : Toks) (cs : List ReceiveTree) (m : Toks) → AreReceives cs toks m → (o : Option (ReceiveTree × Toks)) → receipt_at acts p m ≡ Ok o → IfThere (λ (x : ReceiveTree × Toks). AreReceives (push cs x.0) toks x.1) o
  unfolding receipt_at
  receipt_is p toks cs m l =
      let P : Option (ReceiveTree × Toks) → Type 0 = IfThere (λ (x : ReceiveTree × Toks). AreReceives (push cs x.0) toks x.1) in
      either P (begins signs.Open m) _ _
      (λ b. sign_then P signs.Open m _ (λ at m2 e. name_then P m2 _ (λ x m3 e2. read_then P (IsClause words.In AreNames) (clause_at words.In (listed_at name_at)) (sound_clause words.In AreNames (listed_at name_at) sound_names) m3 _ (λ ns m4 dn. sign_then P signs.Close m4 _ (λ q m5 e3. sign_then P signs.Colon m5 _ (λ r m6 e4. read_then P AreStatements (acts p) (sound_acts p) m6 _ (λ ss m7 ds.
      last_is P (Some (record { at = at; source = x; received = ns; actions = ss }, m7)) (then_receive (rw (e, e2) at l) (rw (e3, e4) at dn) ds))))))))
      (λ b. last_is P None tt)

  sound_receipts : (p : Pos) → Sound AreReceives (many_at (receipt_at acts p))
  sound_receipts p = sound_many AreReceives (receipt_at acts p) (λ toks. no_receives) (receipt_is p)

  pub sound_handler : Sound IsHandler (handler_at acts)
  unfolding handler_at
  sound_handler toks x rest =
      let P : Option HandlerTree × Toks → Type 0 = Was IsHandler toks in
      either P (begins_with words.On toks) _ _
      (λ b. word_then P words.On toks _ (λ at m e. read_then P AreNamed (many_at (alternative_at acts at)) (sound_alternatives at) m _ (λ ns m2 dn. read_then P IsOtherwise (otherwise_at acts at) (sound_otherwise at) m2 _ (λ o m3 dl. either P (handles ns o) _ _
      (λ h. word_then P words.End m3 _ (λ q m4 e2. last_is P (Some (record { at = at; alternatives = ns; otherwise_part = o }), m4) (rw e (with_handler dn (rw e2 at dl) h))))
      (λ h. never P (Absent (front m3)))))))
      (λ b. last_is P (None, toks) no_handler) (x, rest)

  -- ---- actions that hold others

  sound_if : (n : ℕ) → Sound IsBracketed (if_at n acts)
  unfolding if_at
  sound_if n toks x rest =
      let P : BracketedTree × Toks → Type 0 = Was IsBracketed toks in
      word_then P words.If toks _ (λ at m e. read_then P IsExpr (value_at (less n)) (sound_value (less n)) m _ (λ c m2 dc. word_then P words.Then m2 _ (λ t m3 e2. read_then P AreStatements (acts at) (sound_acts at) m3 _ (λ ss m4 ds.
      read_then P AreBranches (many_at (branch_at (less n) acts at)) (sound_branches (less n) at) m4 _ (λ bs m5 db. read_then P IsOtherwise (otherwise_at acts at) (sound_otherwise at) m5 _ (λ o m6 dl. word_then P words.Fi m6 _ (λ f m7 e3.
      last_is P (if_then at c (statement_nodes ss) (branch_nodes bs) (otherwise_node o), m7) (rw e (is_if (rw e2 at dc) ds db (rw e3 at dl)))))))))) (x, rest)

  sound_case_of : (n : ℕ) → Sound IsBracketed (case_of_at n acts)
  unfolding case_of_at
  sound_case_of n toks x rest =
      let P : BracketedTree × Toks → Type 0 = Was IsBracketed toks in
      word_then P words.Case toks _ (λ at m e. read_then P IsExpr (value_at (less n)) (sound_value (less n)) m _ (λ c m2 dc. word_then P words.Of m2 _ (λ t m3 e2. read_then P AreCases (many_at (case_at (less n) acts at)) (sound_cases (less n) at) m3 _ (λ cs m4 ds.
      kept_is P cs m4 _ (λ some. read_then P IsOtherwise (otherwise_at acts at) (sound_otherwise at) m4 _ (λ o m5 dl. word_then P words.Esac m5 _ (λ f m6 e3.
      last_is P (case_of at c (case_nodes cs) (otherwise_node o), m6) (rw e (is_case (rw e2 at dc) ds some (rw e3 at dl)))))))))) (x, rest)

  sound_do : (n : ℕ) → Sound IsBracketed (do_at n acts)
  unfolding do_at
  sound_do n toks x rest =
      let P : BracketedTree × Toks → Type 0 = Was IsBracketed toks in
      word_then P words.Do toks _ (λ at m e. read_then P IsControl (control_at (less n)) (sound_control (less n)) m _ (λ c m2 dc. sign_then P signs.Semicolon m2 _ (λ s m3 e2. read_then P AreStatements (acts at) (sound_acts at) m3 _ (λ ss m4 ds. word_then P words.Od m4 _ (λ f m5 e3.
      last_is P (do_loop at c (statement_nodes ss), m5) (rw e (is_do (rw e2 at dc) (rw e3 at ds)))))))) (x, rest)

  sound_delay_head : (n : ℕ) → Sound (λ (h : Option ExprTree × Option ExprTree) toks rest. IsDelayHead h.0 h.1 toks rest) (delay_head_at n)
  unfolding delay_head_at
  sound_delay_head n toks x rest =
      let P : (Option ExprTree × Option ExprTree) × Toks → Type 0 = λ y. IsDelayHead y.0.0 y.0.1 toks y.1 in
      either P (begins_with words.Set toks) _ _
      (λ b. word_then P words.Set toks _ (λ at m e. read_then P IsLocation (location_at (expr_at n)) (sound_location n) m _ (λ l m2 dl. read_then P (IsClause words.Priority IsExpr) (clause_at words.Priority (value_at n)) (sound_value_clause words.Priority n) m2 _ (λ c m3 dc. sign_then P signs.Semicolon m3 _ (λ q m4 e2.
      last_is P ((Some l, c), m4) (rw e (head_sets dl (rw e2 at dc))))))))
      (λ b. either P (begins_with words.Priority toks) _ _
      (λ b. word_then P words.Priority toks _ (λ at m e. read_then P IsExpr (value_at n) (sound_value n) m _ (λ c m2 dc. sign_then P signs.Semicolon m2 _ (λ q m3 e2.
      last_is P ((None, Some c), m3) (rw e (head_ranks (rw e2 at dc)))))))
      (λ b. last_is P ((None, None), toks) no_head)) (x, rest)

  sound_delay_case : (n : ℕ) → Sound IsBracketed (delay_case_at n acts)
  unfolding delay_case_at
  sound_delay_case n toks x rest =
      let P : BracketedTree × Toks → Type 0 = Was IsBracketed toks in
      word_then P words.Delay toks _ (λ at m e. word_then P words.Case m _ (λ p m2 e2. then_is P (delay_head_at (less n) m2) _ (λ h m3 eh. read_then P AreNamed (many_at (alternative_at acts p)) (sound_alternatives p) m3 _ (λ ns m4 dn.
      kept_is P ns m4 _ (λ some. word_then P words.Esac m4 _ (λ f m5 e3.
      last_is P (delay_case at h.0 h.1 (named_nodes ns), m5) (rw (e, e2) (is_delay_case (sound_delay_head (less n) m2 h m3 eh) (rw e3 at dn) some)))))))) (x, rest)

  sound_receive_head : (n : ℕ) → Sound IsReceiveHead (receive_head_at n)
  unfolding receive_head_at
  sound_receive_head n toks x rest =
      let P : Option ExprTree × Toks → Type 0 = Was IsReceiveHead toks in
      either P (begins_with words.Set toks) _ _
      (λ b. word_then P words.Set toks _ (λ at m e. read_then P IsLocation (location_at (expr_at n)) (sound_location n) m _ (λ l m2 dl. sign_then P signs.Semicolon m2 _ (λ q m3 e2.
      last_is P (Some l, m3) (rw e (sets_one (rw e2 at dl)))))))
      (λ b. last_is P (None, toks) sets_none) (x, rest)

  sound_receive_case : (n : ℕ) → Sound IsBracketed (receive_case_at n acts)
  unfolding receive_case_at
  sound_receive_case n toks x rest =
      let P : BracketedTree × Toks → Type 0 = Was IsBracketed toks in
      word_then P words.Receive toks _ (λ at m e. word_then P words.Case m _ (λ p m2 e2. read_then P IsReceiveHead (receive_head_at (less n)) (sound_receive_head (less n)) m2 _ (λ h m3 dh. read_then P AreReceives (many_at (receipt_at acts p)) (sound_receipts p) m3 _ (λ rs m4 dr.
      kept_is P rs m4 _ (λ some. read_then P IsOtherwise (otherwise_at acts p) (sound_otherwise p) m4 _ (λ o m5 dl. word_then P words.Esac m5 _ (λ f m6 e3.
      last_is P (receive_case at h (receive_nodes rs) (otherwise_node o), m6) (rw (e, e2) (is_receive_case dh dr some (rw e3 at dl)))))))))) (x, rest)

  module _ (body : Body) (sound_body : SoundBody body) where
    sound_begin : Sound IsBracketed (begin_at body)
    unfolding begin_at
    sound_begin toks x rest =
        let P : BracketedTree × Toks → Type 0 = Was IsBracketed toks in
        word_then P words.Begin toks _ (λ at m e. read_then P AreBody (body at) (sound_body at) m _ (λ ps m2 d. word_then P words.End m2 _ (λ q m3 e2.
        last_is P (begin_end at (body_nodes ps), m3) (rw e (is_begin (rw e2 at d)))))) (x, rest)

    sound_bracketed : (n : ℕ) → Sound IsBracketed (bracketed_at n acts body)
    unfolding bracketed_at
    sound_bracketed n toks x rest =
        let P : BracketedTree × Toks → Type 0 = Was IsBracketed toks in
        either P (begins_with words.If toks) _ _ (λ b y. sound_if n toks y.0 y.1)
        (λ b. either P (begins_with words.Case toks) _ _ (λ b y. sound_case_of n toks y.0 y.1)
        (λ b. either P (begins_with words.Do toks) _ _ (λ b y. sound_do n toks y.0 y.1)
        (λ b. either P (begins_with words.Begin toks) _ _ (λ b y. sound_begin toks y.0 y.1)
        (λ b. either P (begins_with words.Delay toks) _ _ (λ b y. sound_delay_case n toks y.0 y.1)
        (λ b y. sound_receive_case n toks y.0 y.1))))) (x, rest)

    -- ---- statements

    holding_is : (n : ℕ) (label : Option Name) (toks m : Toks) → IsLabel label toks m → (y : StatementTree × Toks) → holding_at n acts body label m ≡ Ok y → Was IsStatement toks y
    unfolding holding_at
    holding_is n label toks m dl =
        let P : StatementTree × Toks → Type 0 = Was IsStatement toks in
        read_then P IsBracketed (bracketed_at n acts body) (sound_bracketed n) m _ (λ b m2 db. read_then P IsHandler (handler_at acts) sound_handler m2 _ (λ h m3 dh. read_then P (IsClosing label) (closing_at label) (sound_closing label) m3 _ (λ c m4 dc. sign_then P signs.Semicolon m4 _ (λ q m5 e.
        last_is P (bracketed (place_of_labelled label b) label b (handler_node h) c, m5) (is_bracketed dl db dh (rw e at dc))))))

    sound_labelled : (n : ℕ) → Sound IsStatement (labelled_at n acts body)
    unfolding labelled_at
    sound_labelled n toks x rest =
        let P : StatementTree × Toks → Type 0 = Was IsStatement toks in
        name_then P toks _ (λ l m e. sign_then P signs.Colon m _ (λ c m2 e2. holding_is n (Some l) toks m2 (rw (e, e2) with_label))) (x, rest)

    sound_unlabelled : (n : ℕ) → Sound IsStatement (unlabelled_at n acts)
    unfolding unlabelled_at
    sound_unlabelled n toks x rest =
        let P : StatementTree × Toks → Type 0 = Was IsStatement toks in
        read_then P IsSimple (simple_at n) (sound_simple n) toks _ (λ a m da. read_then P IsHandler (handler_at acts) sound_handler m _ (λ h m2 dh. sign_then P signs.Semicolon m2 _ (λ q m3 e.
        last_is P (simple (place_of_simple a) a (handler_node h), m3) (is_simple da (rw e at dh))))) (x, rest)

    pub sound_statement : (n : ℕ) → Sound IsStatement (statement_at n acts body)
    unfolding statement_at
    sound_statement n toks x rest =
        let P : StatementTree × Toks → Type 0 = Was IsStatement toks in
        either P (begins signs.Semicolon toks) _ _
        (λ b. sign_then P signs.Semicolon toks _ (λ p m e. last_is P (empty p, m) (rw e is_empty)))
        (λ b. either P (begins_label toks) _ _ (λ b y. sound_labelled n toks y.0 y.1)
        (λ b. either P (begins_bracketed toks) _ _ (λ b. holding_is n None toks toks no_label)
        (λ b y. sound_unlabelled n toks y.0 y.1))) (x, rest)

    -- ---- statements and bodies

    action_is : (n : ℕ) (toks : Toks) (ss : List StatementTree) (m : Toks) → AreStatements ss toks m → (o : Option (StatementTree × Toks)) → action_at n acts body m ≡ Ok o → IfThere (λ (x : StatementTree × Toks). AreStatements (push ss x.0) toks x.1) o
    unfolding action_at
    action_is n toks ss m l =
        let P : Option (StatementTree × Toks) → Type 0 = IfThere (λ (x : StatementTree × Toks). AreStatements (push ss x.0) toks x.1) in
        either P (begins_statement m) _ _
        (λ b. read_then P IsStatement (statement_at n acts body) (sound_statement n) m _ (λ s m2 d. last_is P (Some (s, m2)) (then_statement l d)))
        (λ b. last_is P None tt)

    sound_actions : (n : ℕ) → Sound AreStatements (many_at (action_at n acts body))
    sound_actions n = sound_many AreStatements (action_at n acts body) (λ toks. no_statements) (action_is n)

    body_part_is : (n : ℕ) (toks : Toks) (ps : List BodyTree) (m : Toks) → AreBody ps toks m → (o : Option (BodyTree × Toks)) → body_part_at n acts body m ≡ Ok o → IfThere (λ (x : BodyTree × Toks). AreBody (push ps x.0) toks x.1) o
    unfolding body_part_at
    body_part_is n toks ps m l =
        let P : Option (BodyTree × Toks) → Type 0 = IfThere (λ (x : BodyTree × Toks). AreBody (push ps x.0) toks x.1) in
        either P (begins_local m) _ _
        (λ b. read_then P IsLocal (local_at n) (sound_local n) m _ (λ x m2 d. last_is P (Some (local_part x, m2)) (then_local l d)))
        (λ b. either P (begins_statement m) _ _
        (λ b. read_then P IsStatement (statement_at n acts body) (sound_statement n) m _ (λ s m2 d. last_is P (Some (action_part s, m2)) (then_action l d)))
        (λ b. last_is P None tt))

    sound_parts : (n : ℕ) → Sound AreBody (many_at (body_part_at n acts body))
    sound_parts n = sound_many AreBody (body_part_at n acts body) (λ toks. no_parts) (body_part_is n)

sound_inside : (n : ℕ) → SoundActs (inside_at n).0 × SoundBody (inside_at n).1
unfolding inside_at
sound_inside zero = (λ p toks x rest. never (Was AreStatements toks) (Deep p) (x, rest), λ p toks x rest. never (Was AreBody toks) (Deep p) (x, rest))
sound_inside (suc n) =
    let ih = sound_inside n in
    (λ p toks x rest. sound_actions (inside_at n).0 ih.0 (inside_at n).1 ih.1 n toks x rest, λ p toks x rest. sound_parts (inside_at n).0 ih.0 (inside_at n).1 ih.1 n toks x rest)

pub sound_actions_at : (n : ℕ) → SoundActs (actions_at n)
sound_actions_at n = (sound_inside n).0

pub sound_body_at : (n : ℕ) → SoundBody (body_at n)
sound_body_at n = (sound_inside n).1
