-- Reading statements, handlers and bodies from the front.
use Rattle.std.specs.Prelude.{ℕ, zero, suc, ◌==◌, Bool, true, false, List, [], ◌∷◌, Option, Some, None, Result, Ok, Err, if◌then◌else◌}
use Rattle.chill_base.specs.declared.pos.Pos.{Pos}
use Rattle.chill_tree.specs.declared.token.Word.TheVariants as words
use Rattle.chill_tree.specs.declared.token.Sign.TheVariants as signs
use Rattle.chill_tree.specs.declared.token.Token.{Token}
use Rattle.chill_tree.specs.declared.token.TokenKind.{TokenKind}
use Rattle.chill_tree.specs.declared.token.TokenKind.TheVariants as kinds
use Rattle.chill_tree.specs.declared.tree.name.Name.{Name}
use Rattle.chill_tree.specs.ExprTree.{ExprTree}
use Rattle.chill_tree.specs.StatementTree.{StatementTree, empty, simple, bracketed, BracketedTree, if_then, case_of, do_loop, begin_end, delay_case, receive_case, ElsIfTree, CaseTree, NamedTree, ReceiveTree, HandlerTree, BodyTree, local_part, action_part, statement_nodes, branch_nodes, case_nodes, named_nodes, receive_nodes, otherwise_node, handler_node, body_nodes}
use Rattle.rules_model.specs.Marks.{Toks, begins, begins_with, front}
use Rattle.rules_model.specs.SimpleGrammar.{place_of_simple}
use Rattle.rules_model.specs.StatementGrammar.{place_of_labelled, handles}
use Rattle.rules_model.specs.Nesting.{less}
use Rattle.rules_model.specs.Reading.{Fault, Deep, Absent, Read, Piece, ◌>>=◌, sign_at, word_at, name_at, many_at, listed_at}
use Rattle.rules_model.specs.ExprReading.{expr_at, location_at, range_at}
use Rattle.rules_model.specs.ModeReading.{value_at, local_at}
use Rattle.rules_model.specs.SimpleReading.{clause_at, control_at, simple_at}

-- ---- how statements and definitions begin

-- whether a label stands at the front: a name and a colon
abbrev pub begins_label : Toks → Bool
begins_label [] = false
begins_label (t ∷ rest) = go t.kind
  where
    go : TokenKind → Bool
    go (kinds.Name s) = begins signs.Colon rest
    go _ = false

-- whether an action that holds others stands at the front
abbrev pub begins_bracketed : Toks → Bool
begins_bracketed [] = false
begins_bracketed (t ∷ rest) = go t.kind
  where
    go : TokenKind → Bool
    go (kinds.Word words.If) = true
    go (kinds.Word words.Case) = true
    go (kinds.Word words.Do) = true
    go (kinds.Word words.Begin) = true
    go (kinds.Word words.Delay) = begins_with words.Case rest
    go (kinds.Word words.Receive) = true
    go _ = false

-- whether a statement may begin with the token
abbrev pub starts_statement : TokenKind → Bool
starts_statement (kinds.Name s) = true
starts_statement (kinds.Sign signs.Semicolon) = true
starts_statement (kinds.Word words.If) = true
starts_statement (kinds.Word words.Case) = true
starts_statement (kinds.Word words.Do) = true
starts_statement (kinds.Word words.Begin) = true
starts_statement (kinds.Word words.Delay) = true
starts_statement (kinds.Word words.Receive) = true
starts_statement (kinds.Word words.Call) = true
starts_statement (kinds.Word words.Exit) = true
starts_statement (kinds.Word words.Return) = true
starts_statement (kinds.Word words.Result) = true
starts_statement (kinds.Word words.Assert) = true
starts_statement (kinds.Word words.Cause) = true
starts_statement (kinds.Word words.Stop) = true
starts_statement (kinds.Word words.Start) = true
starts_statement (kinds.Word words.Continue) = true
starts_statement (kinds.Word words.Send) = true
starts_statement _ = false

abbrev pub begins_statement : Toks → Bool
begins_statement [] = false
begins_statement (t ∷ rest) = starts_statement t.kind

-- whether a definition statement begins with the token
abbrev pub starts_local : TokenKind → Bool
starts_local (kinds.Word words.Syn) = true
starts_local (kinds.Word words.SynMode) = true
starts_local (kinds.Word words.NewMode) = true
starts_local (kinds.Word words.Dcl) = true
starts_local _ = false

abbrev pub begins_local : Toks → Bool
begins_local [] = false
begins_local (t ∷ rest) = starts_local t.kind

-- ---- the parts of statements

-- reads the statements in what opened at the place
abbrev pub Acts : Type 0
Acts = Pos → Toks → Read (List StatementTree)

-- reads the body in what opened at the place
abbrev pub Body : Type 0
Body = Pos → Toks → Read (List BodyTree)

-- goes on where the list isn't empty
abbrev pub kept : {X B : Type 0} → List X → Toks → Result B Fault → Result B Fault
kept [] toks r = Err (Absent (front toks))
kept (x ∷ xs) toks r = r

unfoldable pub otherwise_at : Acts → Pos → Toks → Read (Option (List StatementTree))
otherwise_at acts p toks = if begins_with words.Else toks then (word_at words.Else toks >>= λ w. acts p w.1 >>= λ ss. Ok (Some ss.0, ss.1)) else Ok (None, toks)

unfoldable pub branch_at : ℕ → Acts → Pos → Toks → Piece ElsIfTree
branch_at n acts p toks =
    if begins_with words.ElsIf toks then (word_at words.ElsIf toks >>= λ w. value_at n w.1 >>= λ e. word_at words.Then e.1 >>= λ t. acts p t.1 >>= λ ss. Ok (Some (record { at = w.0; condition = e.0; actions = ss.0 }, ss.1))) else Ok None

unfoldable pub case_at : ℕ → Acts → Pos → Toks → Piece CaseTree
case_at n acts p toks =
    if begins signs.Open toks then (sign_at signs.Open toks >>= λ o. listed_at (range_at (expr_at n o.0)) o.1 >>= λ ls. sign_at signs.Close ls.1 >>= λ c. sign_at signs.Colon c.1 >>= λ d. acts p d.1 >>= λ ss. Ok (Some (record { at = o.0; labels = ls.0; actions = ss.0 }, ss.1))) else Ok None

unfoldable pub alternative_at : Acts → Pos → Toks → Piece NamedTree
alternative_at acts p toks =
    if begins signs.Open toks then (sign_at signs.Open toks >>= λ o. listed_at name_at o.1 >>= λ ns. sign_at signs.Close ns.1 >>= λ c. sign_at signs.Colon c.1 >>= λ d. acts p d.1 >>= λ ss. Ok (Some (record { at = o.0; names = ns.0; actions = ss.0 }, ss.1))) else Ok None

unfoldable pub receipt_at : Acts → Pos → Toks → Piece ReceiveTree
receipt_at acts p toks =
    if begins signs.Open toks then (sign_at signs.Open toks >>= λ o. name_at o.1 >>= λ x. clause_at words.In (listed_at name_at) x.1 >>= λ ns. sign_at signs.Close ns.1 >>= λ c. sign_at signs.Colon c.1 >>= λ d. acts p d.1 >>= λ ss. Ok (Some (record { at = o.0; source = x.0; received = ns.0; actions = ss.0 }, ss.1))) else Ok None

unfoldable pub handler_at : Acts → Toks → Read (Option HandlerTree)
handler_at acts toks =
    if begins_with words.On toks then (word_at words.On toks >>= λ w. many_at (alternative_at acts w.0) w.1 >>= λ ns. otherwise_at acts w.0 ns.1 >>= λ o. if handles ns.0 o.0 then (word_at words.End o.1 >>= λ e. Ok (Some (record { at = w.0; alternatives = ns.0; otherwise_part = o.0 }), e.1)) else Err (Absent (front o.1)))
    else Ok (None, toks)

-- whether two names are one
abbrev pub same_name : List ℕ → List ℕ → Bool
same_name [] [] = true
same_name [] (b ∷ bs) = false
same_name (a ∷ cs) [] = false
same_name (a ∷ cs) (b ∷ bs) = if a == b then same_name cs bs else false

-- the name again, if a name stands there
abbrev pub closed_at : Option Name → Token → List ℕ → Toks → Read (Option Name)
closed_at None t s rest = Err (Absent (Some t.at))
closed_at (Some l) t s rest = if same_name s l.text then Ok (Some (record { at = t.at; text = s }), rest) else Err (Absent (Some t.at))

unfoldable pub closing_at : Option Name → Toks → Read (Option Name)
closing_at label [] = Ok (None, [])
closing_at label (t ∷ rest) = go t.kind
  where
    go : TokenKind → Read (Option Name)
    go (kinds.Name s) = closed_at label t s rest
    go _ = Ok (None, t ∷ rest)

-- ---- actions that hold others; n is the number of levels that are left inside

unfoldable pub if_at : ℕ → Acts → Toks → Read BracketedTree
if_at n acts toks =
    word_at words.If toks >>= λ w. value_at (less n) w.1 >>= λ e. word_at words.Then e.1 >>= λ t. acts w.0 t.1 >>= λ ss. many_at (branch_at (less n) acts w.0) ss.1 >>= λ bs. otherwise_at acts w.0 bs.1 >>= λ o. word_at words.Fi o.1 >>= λ f. Ok (if_then w.0 e.0 (statement_nodes ss.0) (branch_nodes bs.0) (otherwise_node o.0), f.1)

unfoldable pub case_of_at : ℕ → Acts → Toks → Read BracketedTree
case_of_at n acts toks =
    word_at words.Case toks >>= λ w. value_at (less n) w.1 >>= λ e. word_at words.Of e.1 >>= λ t. many_at (case_at (less n) acts w.0) t.1 >>= λ cs. kept cs.0 cs.1 (otherwise_at acts w.0 cs.1 >>= λ o. word_at words.Esac o.1 >>= λ f. Ok (case_of w.0 e.0 (case_nodes cs.0) (otherwise_node o.0), f.1))

unfoldable pub do_at : ℕ → Acts → Toks → Read BracketedTree
do_at n acts toks = word_at words.Do toks >>= λ w. control_at (less n) w.1 >>= λ c. sign_at signs.Semicolon c.1 >>= λ s. acts w.0 s.1 >>= λ ss. word_at words.Od ss.1 >>= λ f. Ok (do_loop w.0 c.0 (statement_nodes ss.0), f.1)

unfoldable pub begin_at : Body → Toks → Read BracketedTree
begin_at body toks = word_at words.Begin toks >>= λ w. body w.0 w.1 >>= λ ps. word_at words.End ps.1 >>= λ f. Ok (begin_end w.0 (body_nodes ps.0), f.1)

unfoldable pub delay_head_at : ℕ → Toks → Read (Option ExprTree × Option ExprTree)
delay_head_at n toks =
    if begins_with words.Set toks then (word_at words.Set toks >>= λ w. location_at (expr_at n) w.1 >>= λ l. clause_at words.Priority (value_at n) l.1 >>= λ c. sign_at signs.Semicolon c.1 >>= λ s. Ok ((Some l.0, c.0), s.1))
    else if begins_with words.Priority toks then (word_at words.Priority toks >>= λ w. value_at n w.1 >>= λ e. sign_at signs.Semicolon e.1 >>= λ s. Ok ((None, Some e.0), s.1))
    else Ok ((None, None), toks)

unfoldable pub delay_case_at : ℕ → Acts → Toks → Read BracketedTree
delay_case_at n acts toks =
    word_at words.Delay toks >>= λ w. word_at words.Case w.1 >>= λ p. delay_head_at (less n) p.1 >>= λ h. many_at (alternative_at acts p.0) h.1 >>= λ ns. kept ns.0 ns.1 (word_at words.Esac ns.1 >>= λ f. Ok (delay_case w.0 h.0.0 h.0.1 (named_nodes ns.0), f.1))

unfoldable pub receive_head_at : ℕ → Toks → Read (Option ExprTree)
receive_head_at n toks =
    if begins_with words.Set toks then (word_at words.Set toks >>= λ w. location_at (expr_at n) w.1 >>= λ l. sign_at signs.Semicolon l.1 >>= λ s. Ok (Some l.0, s.1)) else Ok (None, toks)

unfoldable pub receive_case_at : ℕ → Acts → Toks → Read BracketedTree
receive_case_at n acts toks =
    word_at words.Receive toks >>= λ w. word_at words.Case w.1 >>= λ p. receive_head_at (less n) p.1 >>= λ h. many_at (receipt_at acts p.0) h.1 >>= λ rs. kept rs.0 rs.1 (otherwise_at acts p.0 rs.1 >>= λ o. word_at words.Esac o.1 >>= λ f. Ok (receive_case w.0 h.0 (receive_nodes rs.0) (otherwise_node o.0), f.1))

unfoldable pub bracketed_at : ℕ → Acts → Body → Toks → Read BracketedTree
bracketed_at n acts body toks =
    if begins_with words.If toks then if_at n acts toks
    else if begins_with words.Case toks then case_of_at n acts toks
    else if begins_with words.Do toks then do_at n acts toks
    else if begins_with words.Begin toks then begin_at body toks
    else if begins_with words.Delay toks then delay_case_at n acts toks
    else receive_case_at n acts toks

-- ---- statements; n is the number of levels that are left behind an opening token

-- what follows a label, or its place where there is none
unfoldable pub holding_at : ℕ → Acts → Body → Option Name → Toks → Read StatementTree
holding_at n acts body label toks =
    bracketed_at n acts body toks >>= λ b. handler_at acts b.1 >>= λ h. closing_at label h.1 >>= λ c. sign_at signs.Semicolon c.1 >>= λ s. Ok (bracketed (place_of_labelled label b.0) label b.0 (handler_node h.0) c.0, s.1)

unfoldable pub labelled_at : ℕ → Acts → Body → Toks → Read StatementTree
labelled_at n acts body toks = name_at toks >>= λ x. sign_at signs.Colon x.1 >>= λ c. holding_at n acts body (Some x.0) c.1

unfoldable pub unlabelled_at : ℕ → Acts → Toks → Read StatementTree
unlabelled_at n acts toks = simple_at n toks >>= λ a. handler_at acts a.1 >>= λ h. sign_at signs.Semicolon h.1 >>= λ s. Ok (simple (place_of_simple a.0) a.0 (handler_node h.0), s.1)

unfoldable pub statement_at : ℕ → Acts → Body → Toks → Read StatementTree
statement_at n acts body toks =
    if begins signs.Semicolon toks then (sign_at signs.Semicolon toks >>= λ s. Ok (empty s.0, s.1))
    else if begins_label toks then labelled_at n acts body toks
    else if begins_bracketed toks then holding_at n acts body None toks
    else unlabelled_at n acts toks

-- a statement, if one begins here
unfoldable pub action_at : ℕ → Acts → Body → Toks → Piece StatementTree
action_at n acts body toks = if begins_statement toks then (statement_at n acts body toks >>= λ s. Ok (Some s)) else Ok None

-- a definition or a statement, if one begins here
unfoldable pub body_part_at : ℕ → Acts → Body → Toks → Piece BodyTree
body_part_at n acts body toks =
    if begins_local toks then (local_at n toks >>= λ l. Ok (Some (local_part l.0, l.1)))
    else if begins_statement toks then (statement_at n acts body toks >>= λ s. Ok (Some (action_part s.0, s.1)))
    else Ok None

-- the statements and the body in what opened at a place, where so many levels are left
abbrev pub deep_acts : Acts
deep_acts p toks = Err (Deep p)

abbrev pub deep_body : Body
deep_body p toks = Err (Deep p)

unfoldable pub inside_at : ℕ → Acts × Body
inside_at zero = (deep_acts, deep_body)
inside_at (suc n) = (λ p toks. many_at (action_at n (inside_at n).0 (inside_at n).1) toks, λ p toks. many_at (body_part_at n (inside_at n).0 (inside_at n).1) toks)

abbrev pub actions_at : ℕ → Acts
actions_at n = (inside_at n).0

abbrev pub body_at : ℕ → Body
body_at n = (inside_at n).1
