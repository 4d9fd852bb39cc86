-- What being in range says of statements: one induction over all kinds of their nodes.
use Rattle.std.proofs.Common.{◌≡◌, ℕ, ◌+◌, List, [], ◌∷◌, map, Option, Some, None, refl, sym, ◌∙◌, subst, IsTrue}
use Rattle.std.specs.Prelude.{Bool, true, false, ◌&&◌, nat_eq, nat_lt, slice_get, option_map, length}
use Rattle.std.specs.declared.alloc.Global.{Global}
use Rattle.std.specs.declared.boxed.Box.{Box}
use Rattle.checked_program.specs.declared.program.Checked.{Checked}
use Rattle.checked_program.specs.declared.program.Body.{Body}
use Rattle.checked_program.specs.declared.expr.Expr.{Expr}
use Rattle.checked_program.specs.declared.expr.Location.{Location}
use Rattle.checked_program.specs.declared.expr.Received.{Received}
use Rattle.checked_program.specs.declared.statement.Action.TheOpen as opens
use Rattle.checked_program.specs.declared.statement.Sent.{Sent}
use Rattle.checked_program.specs.declared.statement.Sent.TheVariants.{ToBuffer, Signal}
use Rattle.checked_program.specs.declared.statement.Control.{Control}
use Rattle.checked_program.specs.declared.statement.Control.TheVariants.{While, Forever, Members, Steps}
use Rattle.checked_program.specs.declared.statement.Action.{Action, Action-F, map-Action, roll-Action, fold-roll-Action}
use Rattle.checked_program.specs.declared.statement.CaseAlternative.{CaseAlternative, CaseAlternative-F, map-CaseAlternative, roll-CaseAlternative, fold-CaseAlternative, fold-roll-CaseAlternative}
use Rattle.checked_program.specs.declared.statement.Choice.{Choice, Choice-F, map-Choice, roll-Choice, fold-Choice, fold-roll-Choice}
use Rattle.checked_program.specs.declared.statement.DelayAlternative.{DelayAlternative, DelayAlternative-F, map-DelayAlternative, roll-DelayAlternative, fold-DelayAlternative, fold-roll-DelayAlternative}
use Rattle.checked_program.specs.declared.statement.Handler.{Handler, Handler-F, map-Handler, roll-Handler, fold-roll-Handler, ind-Handler}
use Rattle.checked_program.specs.declared.statement.HandlerAlternative.{HandlerAlternative, HandlerAlternative-F, map-HandlerAlternative, roll-HandlerAlternative, fold-HandlerAlternative, fold-roll-HandlerAlternative}
use Rattle.checked_program.specs.declared.statement.ReceiveAlternative.{ReceiveAlternative, ReceiveAlternative-F, map-ReceiveAlternative, roll-ReceiveAlternative, fold-ReceiveAlternative, fold-roll-ReceiveAlternative}
use Rattle.checked_program.specs.declared.statement.Statement.{Statement, Statement-F, map-Statement, roll-Statement, fold-roll-Statement, ind-Statement}
use Rattle.program_ranges.specs.Around.{is_count, base_count, local_count, mode_count, buffer_count, is_exception}
use Rattle.program_ranges.specs.ExprRanges.{is_number, some_number, operands_fit, expr_ranges, received_ranges, location_ranges}
use Rattle.program_ranges.specs.Messages.{signal_part, part_count, same_count, begins_at, behind, is_part, parts_sent, parts_received, locals_follow, sent_in_range}
use Rattle.program_ranges.specs.ActionRanges.{names_fit, is_local, all_below, all_exceptions, is_result, some_result, control_in_range}
use Rattle.program_ranges.specs.StatementRanges as tests
use Rattle.program_ranges.specs.StatementRanges.{Acting, LabelTest, ReceiveTest, StatementTest, statements_hold, some_statements, all_within, some_within, all_receive, is_set, labels_inside, action_ranges, case_in_range, choice_in_range, delay_in_range, handler_in_range, handled_in_range, receive_in_range, statement_in_range}
use Rattle.program_trees.specs.ExprTree.{received_nodes, location_count, expr_tree, received_tree, location_tree, boxed_expr}
use Rattle.program_trees.specs.StatementTree as trees
use Rattle.program_trees.specs.StatementTree.{ActionTree, CaseTree, ChoiceTree, NumbersTree, ReceiveTree, HandlerNode, StatementTree, statement_nodes, choice_nodes, case_nodes, delay_nodes, receive_nodes, handled_nodes, otherwise_node, sent_tree, control_tree, set_tree, action_tree, handler_tree, statement_tree}
use Rattle.range_laws.specs.ExprInRange.{ResultInRange, NumberInRange, AllInRange}
use Rattle.range_laws.specs.StatementInRange.{SomeNumberInRange, GivenInRange, SomeGivenInRange, NamesInRange, BeginsAt, LocalsFollow, ExceptionsInRange, SetInRange, SentInRange, ControlInRange, StatementsInRange, StatementInRange, HandlerInRange, HandledInRange, ActionInRange, ChoicesInRange, CasesInRange, DelaysInRange, ReceivesInRange}
use Rattle.range_laws.proofs.Tests.{both_hold, equal, below, truly}
use Rattle.range_laws.proofs.Rows.{base_told, local_there, counted, local_told, result_told}
use Rattle.checked_program.specs.declared.expr.Base.{Base}
use Rattle.program_trees.specs.ProgramTree.{body_row_tree, checked_tree, local_row_tree, shared_mode}
use Rattle.checked_program.specs.declared.program.LocalRow.{LocalRow}
use Rattle.range_laws.proofs.Expressions.{expr_told, location_told, received_told, start_told, call_told}

-- ---- expressions of actions

number_told : (e : Expr) (program : Checked) (body : Body) → IsTrue (is_number (expr_ranges e) program body) → NumberInRange (checked_tree program) (body_row_tree body) (expr_tree e)
number_told e program body holds =
    let known = expr_told e in
    let parts = both_hold ((expr_ranges e).holds program body) (nat_eq (expr_ranges e).count 1) holds in
    (known.1 program body parts.0, known.0 ∙ equal (expr_ranges e).count 1 parts.1)

some_number_told : (o : Option (Box Expr Global)) (program : Checked) (body : Body) → IsTrue (some_number (option_map (λ e. expr_ranges e.value) o) program body) → SomeNumberInRange (checked_tree program) (body_row_tree body) (option_map boxed_expr o)
some_number_told None program body holds = tt
some_number_told (Some e) program body holds = number_told e.value program body holds

set_told : (o : Option (Box Location Global)) (program : Checked) (body : Body) → IsTrue (is_set o program body) → SetInRange (checked_tree program) (body_row_tree body) (set_tree o)
set_told None program body holds = tt
set_told (Some l) program body holds =
    let known = location_told l.value in
    let counted = location_ranges l.value in
    let parts = both_hold (counted.holds program body) (nat_eq counted.count 1) holds in
    (known.1 program body parts.0, known.0 ∙ equal counted.count 1 parts.1)

given_told : (v : Received) (program : Checked) (body : Body) → IsTrue (is_result (received_ranges v) program body) → GivenInRange (checked_tree program) (body_row_tree body) (received_tree v)
given_told v program body holds =
    let counted = received_ranges v in
    let parts = both_hold (counted.holds program body) (is_count (mode_count body.result) counted.count) holds in
    ((received_told v).1 program body parts.0, subst (λ k. ResultInRange (option_map shared_mode body.result) k) (sym (received_told v).0) (result_told body.result counted.count parts.1))

some_given_told : (o : Option Received) (program : Checked) (body : Body) → IsTrue (some_result o program body) → SomeGivenInRange (checked_tree program) (body_row_tree body) (option_map received_tree o)
some_given_told None program body holds = tt
some_given_told (Some v) program body holds = given_told v program body holds

names_told : (names : List Base) (n : ℕ) (program : Checked) (body : Body) → IsTrue (names_fit names n program body) → NamesInRange (checked_tree program) (body_row_tree body) names n
names_told [] n program body holds = tt
names_told (b ∷ bs) n program body holds =
    let parts = both_hold (is_count (base_count b program body) n) (names_fit bs n program body) holds in
    (base_told b n program body (counted (base_count b program body) n parts.0), names_told bs n program body parts.1)

parts_told : (vs : List Received) (n i : ℕ) (program : Checked) (body : Body) → IsTrue (parts_sent n i (map received_ranges vs) program body) → AllInRange (checked_tree program) (body_row_tree body) (received_nodes (map received_tree vs))
parts_told [] n i program body holds = tt
parts_told (v ∷ vs) n i program body holds =
    let counted = received_ranges v in
    let parts = both_hold (is_part n i counted program body) (parts_sent n (i + 1) (map received_ranges vs) program body) holds in
    let one = both_hold (counted.holds program body) (is_count (signal_part (slice_get program.signals n) i) counted.count) parts.0 in
    ((received_told v).1 program body one.0, parts_told vs n (i + 1) program body parts.1)

sent_told : (s : Sent) (program : Checked) (body : Body) → IsTrue (sent_in_range s program body) → SentInRange (checked_tree program) (body_row_tree body) (sent_tree s)
sent_told (ToBuffer b v) program body holds =
    let counted = received_ranges v in
    (received_told v).1 program body (both_hold (counted.holds program body) (is_count (buffer_count (slice_get program.buffers b)) counted.count) holds).0
sent_told (Signal n vs to) program body holds =
    let parts = both_hold (parts_sent n 0 (map received_ranges vs) program body) (some_number (option_map (λ e. expr_ranges e.value) to) program body) holds in
    (parts_told vs n 0 program body parts.0, some_number_told to program body parts.1)

control_told : (c : Control) (program : Checked) (body : Body) → IsTrue (control_in_range c program body) → ControlInRange (checked_tree program) (body_row_tree body) (control_tree c)
control_told (While e) program body holds = number_told e.value program body holds
control_told Forever program body holds = tt
control_told (Members counter set low condition) program body holds =
    let last = some_number (option_map (λ e. expr_ranges e.value) condition) program body in
    let all = both_hold (is_local counter 1 body) (is_number (expr_ranges set.value) program body && last) holds in
    let parts = both_hold (is_number (expr_ranges set.value) program body) last all.1 in
    (local_told counter 1 body all.0, number_told set.value program body parts.0, some_number_told condition program body parts.1)
control_told (Steps counter first step end down condition) program body holds =
    let last = some_number (option_map (λ e. expr_ranges e.value) condition) program body in
    let third = is_number (expr_ranges end.value) program body in
    let second = some_number (option_map (λ e. expr_ranges e.value) step) program body in
    let all = both_hold (is_local counter 1 body) (is_number (expr_ranges first.value) program body && (second && (third && last))) holds in
    let a = both_hold (is_number (expr_ranges first.value) program body) (second && (third && last)) all.1 in
    let b = both_hold second (third && last) a.1 in
    let c = both_hold third last b.1 in
    (local_told counter 1 body all.0, number_told first.value program body a.0, some_number_told step program body b.0, number_told end.value program body c.0, some_number_told condition program body c.1)

-- ---- exceptions, and locals that get what comes

pub exceptions_told : (xs : List ℕ) (program : Checked) → IsTrue (all_exceptions xs program) → ExceptionsInRange (checked_tree program) xs
exceptions_told [] program holds = tt
exceptions_told (x ∷ xs) program holds =
    let parts = both_hold (is_exception x program) (all_exceptions xs program) holds in
    (below x (7 + length program.exceptions) parts.0, exceptions_told xs program parts.1)

follow_told : (ks : List ℕ) (source : _) (n i : ℕ) (told : Option ℕ) (program : Checked) (body : Body) → IsTrue (parts_received source n i ks program body) → IsTrue (locals_follow told ks body) → LocalsFollow (body_row_tree body) told ks
follow_told [] source n i told program body there follow = tt
follow_told (k ∷ ks) source n i told program body there follow =
    let row = slice_get body.locals k in
    let parts = both_hold (same_count (local_count row) (part_count source n i program)) (parts_received source n (i + 1) ks program body) there in
    let lie = both_hold (begins_at told row) (locals_follow (behind row) ks body) follow in
    one row refl parts.0 lie.0 (λ first is. follow_told ks source n (i + 1) first program body parts.1 (subst (λ f. IsTrue (locals_follow f ks body)) is lie.1)) where
      begun : (o : Option ℕ) (row : LocalRow) → IsTrue (begins_at o (Some row)) → BeginsAt o row.first
      begun None row begins = tt
      begun (Some first) row begins = equal row.first first begins

      one : (row : Option LocalRow) → slice_get body.locals k ≡ row → IsTrue (same_count (local_count row) (part_count source n i program)) → IsTrue (begins_at told row) → ((first : Option ℕ) → behind row ≡ first → LocalsFollow (body_row_tree body) first ks) → LocalsFollow (body_row_tree body) told (k ∷ ks)
      one None is counted begins rest = absurd (let no : ⊥ = cc in no)
      one (Some row) is counted begins rest = (local_row_tree row, local_there k body row is, begun told row begins, rest (Some (row.first + row.count)) refl)

-- ---- what is to be known of each kind

abbrev TellsAction : Acting → ActionTree → Type 0
TellsAction acting t = (items : Bool) (labels : ℕ) (program : Checked) (body : Body) → IsTrue (acting.holds items labels program body) → ActionInRange (checked_tree program) (body_row_tree body) items t

abbrev TellsCaseAlternative : LabelTest → CaseTree → Type 0
TellsCaseAlternative test t = (labels : ℕ) (program : Checked) (body : Body) → IsTrue (test labels program body) → StatementsInRange (checked_tree program) (body_row_tree body) false t.actions

abbrev TellsChoice : LabelTest → ChoiceTree → Type 0
TellsChoice test t = (labels : ℕ) (program : Checked) (body : Body) → IsTrue (test labels program body) → NumberInRange (checked_tree program) (body_row_tree body) t.condition × StatementsInRange (checked_tree program) (body_row_tree body) false t.actions

abbrev TellsDelayAlternative : LabelTest → NumbersTree → Type 0
TellsDelayAlternative test t = (labels : ℕ) (program : Checked) (body : Body) → IsTrue (test labels program body) → StatementsInRange (checked_tree program) (body_row_tree body) false t.actions

abbrev TellsHandler : LabelTest → HandlerNode → Type 0
TellsHandler test t = (labels : ℕ) (program : Checked) (body : Body) → IsTrue (test labels program body) → HandlerInRange (checked_tree program) (body_row_tree body) t

abbrev TellsHandlerAlternative : LabelTest → NumbersTree → Type 0
TellsHandlerAlternative test t = (labels : ℕ) (program : Checked) (body : Body) → IsTrue (test labels program body) → ExceptionsInRange (checked_tree program) t.numbers × StatementsInRange (checked_tree program) (body_row_tree body) false t.actions

abbrev TellsReceiveAlternative : ReceiveTest → ReceiveTree → Type 0
TellsReceiveAlternative test t = (source : _) (labels : ℕ) (program : Checked) (body : Body) → IsTrue (test source labels program body) → LocalsFollow (body_row_tree body) None t.received × StatementsInRange (checked_tree program) (body_row_tree body) false t.actions

abbrev TellsStatement : StatementTest → StatementTree → Type 0
TellsStatement test t = (items : Bool) (labels : ℕ) (program : Checked) (body : Body) → IsTrue (test items labels program body) → StatementInRange (checked_tree program) (body_row_tree body) items t

-- ---- nodes of which that is known

unfoldable case_tree : CaseAlternative → CaseTree
case_tree = fold-CaseAlternative ActionTree CaseTree ChoiceTree NumbersTree HandlerNode NumbersTree ReceiveTree StatementTree trees.action_layer trees.case_layer trees.choice_layer trees.delay_layer trees.handler_layer trees.handled_layer trees.receive_layer trees.statement_layer

unfoldable choice_tree : Choice → ChoiceTree
choice_tree = fold-Choice ActionTree CaseTree ChoiceTree NumbersTree HandlerNode NumbersTree ReceiveTree StatementTree trees.action_layer trees.case_layer trees.choice_layer trees.delay_layer trees.handler_layer trees.handled_layer trees.receive_layer trees.statement_layer

unfoldable delay_tree : DelayAlternative → NumbersTree
delay_tree = fold-DelayAlternative ActionTree CaseTree ChoiceTree NumbersTree HandlerNode NumbersTree ReceiveTree StatementTree trees.action_layer trees.case_layer trees.choice_layer trees.delay_layer trees.handler_layer trees.handled_layer trees.receive_layer trees.statement_layer

unfoldable handled_tree : HandlerAlternative → NumbersTree
handled_tree = fold-HandlerAlternative ActionTree CaseTree ChoiceTree NumbersTree HandlerNode NumbersTree ReceiveTree StatementTree trees.action_layer trees.case_layer trees.choice_layer trees.delay_layer trees.handler_layer trees.handled_layer trees.receive_layer trees.statement_layer

unfoldable receive_tree : ReceiveAlternative → ReceiveTree
receive_tree = fold-ReceiveAlternative ActionTree CaseTree ChoiceTree NumbersTree HandlerNode NumbersTree ReceiveTree StatementTree trees.action_layer trees.case_layer trees.choice_layer trees.delay_layer trees.handler_layer trees.handled_layer trees.receive_layer trees.statement_layer

abbrev ToldAction : Action → Type 0
ToldAction x = TellsAction (action_ranges x) (action_tree x)

abbrev ToldCaseAlternative : CaseAlternative → Type 0
ToldCaseAlternative x = TellsCaseAlternative (case_in_range x) (case_tree x)

abbrev ToldChoice : Choice → Type 0
ToldChoice x = TellsChoice (choice_in_range x) (choice_tree x)

abbrev ToldDelayAlternative : DelayAlternative → Type 0
ToldDelayAlternative x = TellsDelayAlternative (delay_in_range x) (delay_tree x)

abbrev ToldHandler : Handler → Type 0
ToldHandler x = TellsHandler (handler_in_range x) (handler_tree x)

abbrev ToldHandlerAlternative : HandlerAlternative → Type 0
ToldHandlerAlternative x = TellsHandlerAlternative (handled_in_range x) (handled_tree x)

abbrev ToldReceiveAlternative : ReceiveAlternative → Type 0
ToldReceiveAlternative x = TellsReceiveAlternative (receive_in_range x) (receive_tree x)

abbrev ToldStatement : Statement → Type 0
ToldStatement x = TellsStatement (statement_in_range x) (statement_tree x)

abbrev KnownAction : Type 0
KnownAction = (x : Action) × ToldAction x

abbrev KnownCaseAlternative : Type 0
KnownCaseAlternative = (x : CaseAlternative) × ToldCaseAlternative x

abbrev KnownChoice : Type 0
KnownChoice = (x : Choice) × ToldChoice x

abbrev KnownDelayAlternative : Type 0
KnownDelayAlternative = (x : DelayAlternative) × ToldDelayAlternative x

abbrev KnownHandler : Type 0
KnownHandler = (x : Handler) × ToldHandler x

abbrev KnownHandlerAlternative : Type 0
KnownHandlerAlternative = (x : HandlerAlternative) × ToldHandlerAlternative x

abbrev KnownReceiveAlternative : Type 0
KnownReceiveAlternative = (x : ReceiveAlternative) × ToldReceiveAlternative x

abbrev KnownStatement : Type 0
KnownStatement = (x : Statement) × ToldStatement x

abbrev bare_action : KnownAction → Action
bare_action x = x.0

abbrev bare_case : KnownCaseAlternative → CaseAlternative
bare_case x = x.0

abbrev bare_choice : KnownChoice → Choice
bare_choice x = x.0

abbrev bare_delay : KnownDelayAlternative → DelayAlternative
bare_delay x = x.0

abbrev bare_handler : KnownHandler → Handler
bare_handler x = x.0

abbrev bare_handled : KnownHandlerAlternative → HandlerAlternative
bare_handled x = x.0

abbrev bare_receive : KnownReceiveAlternative → ReceiveAlternative
bare_receive x = x.0

abbrev bare_statement : KnownStatement → Statement
bare_statement x = x.0

abbrev plain_action : Action-F KnownAction KnownCaseAlternative KnownChoice KnownDelayAlternative KnownHandler KnownHandlerAlternative KnownReceiveAlternative KnownStatement → Action-F Action CaseAlternative Choice DelayAlternative Handler HandlerAlternative ReceiveAlternative Statement
plain_action y = map-Action KnownAction KnownCaseAlternative KnownChoice KnownDelayAlternative KnownHandler KnownHandlerAlternative KnownReceiveAlternative KnownStatement Action CaseAlternative Choice DelayAlternative Handler HandlerAlternative ReceiveAlternative Statement bare_action bare_case bare_choice bare_delay bare_handler bare_handled bare_receive bare_statement y

abbrev plain_case : CaseAlternative-F KnownAction KnownCaseAlternative KnownChoice KnownDelayAlternative KnownHandler KnownHandlerAlternative KnownReceiveAlternative KnownStatement → CaseAlternative-F Action CaseAlternative Choice DelayAlternative Handler HandlerAlternative ReceiveAlternative Statement
plain_case y = map-CaseAlternative KnownAction KnownCaseAlternative KnownChoice KnownDelayAlternative KnownHandler KnownHandlerAlternative KnownReceiveAlternative KnownStatement Action CaseAlternative Choice DelayAlternative Handler HandlerAlternative ReceiveAlternative Statement bare_action bare_case bare_choice bare_delay bare_handler bare_handled bare_receive bare_statement y

abbrev plain_choice : Choice-F KnownAction KnownCaseAlternative KnownChoice KnownDelayAlternative KnownHandler KnownHandlerAlternative KnownReceiveAlternative KnownStatement → Choice-F Action CaseAlternative Choice DelayAlternative Handler HandlerAlternative ReceiveAlternative Statement
plain_choice y = map-Choice KnownAction KnownCaseAlternative KnownChoice KnownDelayAlternative KnownHandler KnownHandlerAlternative KnownReceiveAlternative KnownStatement Action CaseAlternative Choice DelayAlternative Handler HandlerAlternative ReceiveAlternative Statement bare_action bare_case bare_choice bare_delay bare_handler bare_handled bare_receive bare_statement y

abbrev plain_delay : DelayAlternative-F KnownAction KnownCaseAlternative KnownChoice KnownDelayAlternative KnownHandler KnownHandlerAlternative KnownReceiveAlternative KnownStatement → DelayAlternative-F Action CaseAlternative Choice DelayAlternative Handler HandlerAlternative ReceiveAlternative Statement
plain_delay y = map-DelayAlternative KnownAction KnownCaseAlternative KnownChoice KnownDelayAlternative KnownHandler KnownHandlerAlternative KnownReceiveAlternative KnownStatement Action CaseAlternative Choice DelayAlternative Handler HandlerAlternative ReceiveAlternative Statement bare_action bare_case bare_choice bare_delay bare_handler bare_handled bare_receive bare_statement y

abbrev plain_handler : Handler-F KnownAction KnownCaseAlternative KnownChoice KnownDelayAlternative KnownHandler KnownHandlerAlternative KnownReceiveAlternative KnownStatement → Handler-F Action CaseAlternative Choice DelayAlternative Handler HandlerAlternative ReceiveAlternative Statement
plain_handler y = map-Handler KnownAction KnownCaseAlternative KnownChoice KnownDelayAlternative KnownHandler KnownHandlerAlternative KnownReceiveAlternative KnownStatement Action CaseAlternative Choice DelayAlternative Handler HandlerAlternative ReceiveAlternative Statement bare_action bare_case bare_choice bare_delay bare_handler bare_handled bare_receive bare_statement y

abbrev plain_handled : HandlerAlternative-F KnownAction KnownCaseAlternative KnownChoice KnownDelayAlternative KnownHandler KnownHandlerAlternative KnownReceiveAlternative KnownStatement → HandlerAlternative-F Action CaseAlternative Choice DelayAlternative Handler HandlerAlternative ReceiveAlternative Statement
plain_handled y = map-HandlerAlternative KnownAction KnownCaseAlternative KnownChoice KnownDelayAlternative KnownHandler KnownHandlerAlternative KnownReceiveAlternative KnownStatement Action CaseAlternative Choice DelayAlternative Handler HandlerAlternative ReceiveAlternative Statement bare_action bare_case bare_choice bare_delay bare_handler bare_handled bare_receive bare_statement y

abbrev plain_receive : ReceiveAlternative-F KnownAction KnownCaseAlternative KnownChoice KnownDelayAlternative KnownHandler KnownHandlerAlternative KnownReceiveAlternative KnownStatement → ReceiveAlternative-F Action CaseAlternative Choice DelayAlternative Handler HandlerAlternative ReceiveAlternative Statement
plain_receive y = map-ReceiveAlternative KnownAction KnownCaseAlternative KnownChoice KnownDelayAlternative KnownHandler KnownHandlerAlternative KnownReceiveAlternative KnownStatement Action CaseAlternative Choice DelayAlternative Handler HandlerAlternative ReceiveAlternative Statement bare_action bare_case bare_choice bare_delay bare_handler bare_handled bare_receive bare_statement y

abbrev plain_statement : Statement-F KnownAction KnownCaseAlternative KnownChoice KnownDelayAlternative KnownHandler KnownHandlerAlternative KnownReceiveAlternative KnownStatement → Statement-F Action CaseAlternative Choice DelayAlternative Handler HandlerAlternative ReceiveAlternative Statement
plain_statement y = map-Statement KnownAction KnownCaseAlternative KnownChoice KnownDelayAlternative KnownHandler KnownHandlerAlternative KnownReceiveAlternative KnownStatement Action CaseAlternative Choice DelayAlternative Handler HandlerAlternative ReceiveAlternative Statement bare_action bare_case bare_choice bare_delay bare_handler bare_handled bare_receive bare_statement y

abbrev tests_of_case : List KnownCaseAlternative → List LabelTest
tests_of_case xs = map case_in_range (map bare_case xs)

abbrev trees_of_case : List KnownCaseAlternative → List CaseTree
trees_of_case xs = map case_tree (map bare_case xs)

abbrev tests_of_choice : List KnownChoice → List LabelTest
tests_of_choice xs = map choice_in_range (map bare_choice xs)

abbrev trees_of_choice : List KnownChoice → List ChoiceTree
trees_of_choice xs = map choice_tree (map bare_choice xs)

abbrev tests_of_delay : List KnownDelayAlternative → List LabelTest
tests_of_delay xs = map delay_in_range (map bare_delay xs)

abbrev trees_of_delay : List KnownDelayAlternative → List NumbersTree
trees_of_delay xs = map delay_tree (map bare_delay xs)

abbrev tests_of_handled : List KnownHandlerAlternative → List LabelTest
tests_of_handled xs = map handled_in_range (map bare_handled xs)

abbrev trees_of_handled : List KnownHandlerAlternative → List NumbersTree
trees_of_handled xs = map handled_tree (map bare_handled xs)

abbrev tests_of_receive : List KnownReceiveAlternative → List ReceiveTest
tests_of_receive xs = map receive_in_range (map bare_receive xs)

abbrev trees_of_receive : List KnownReceiveAlternative → List ReceiveTree
trees_of_receive xs = map receive_tree (map bare_receive xs)

abbrev tests_of_statement : List KnownStatement → List StatementTest
tests_of_statement xs = map statement_in_range (map bare_statement xs)

abbrev trees_of_statement : List KnownStatement → List StatementTree
trees_of_statement xs = map statement_tree (map bare_statement xs)

abbrev tested_action : Action-F KnownAction KnownCaseAlternative KnownChoice KnownDelayAlternative KnownHandler KnownHandlerAlternative KnownReceiveAlternative KnownStatement → Action-F Acting LabelTest LabelTest LabelTest LabelTest LabelTest ReceiveTest StatementTest
tested_action y = map-Action Action CaseAlternative Choice DelayAlternative Handler HandlerAlternative ReceiveAlternative Statement Acting LabelTest LabelTest LabelTest LabelTest LabelTest ReceiveTest StatementTest action_ranges case_in_range choice_in_range delay_in_range handler_in_range handled_in_range receive_in_range statement_in_range (plain_action y)

abbrev treed_action : Action-F KnownAction KnownCaseAlternative KnownChoice KnownDelayAlternative KnownHandler KnownHandlerAlternative KnownReceiveAlternative KnownStatement → Action-F ActionTree CaseTree ChoiceTree NumbersTree HandlerNode NumbersTree ReceiveTree StatementTree
treed_action y = map-Action Action CaseAlternative Choice DelayAlternative Handler HandlerAlternative ReceiveAlternative Statement ActionTree CaseTree ChoiceTree NumbersTree HandlerNode NumbersTree ReceiveTree StatementTree action_tree case_tree choice_tree delay_tree handler_tree handled_tree receive_tree statement_tree (plain_action y)

abbrev tested_case : CaseAlternative-F KnownAction KnownCaseAlternative KnownChoice KnownDelayAlternative KnownHandler KnownHandlerAlternative KnownReceiveAlternative KnownStatement → CaseAlternative-F Acting LabelTest LabelTest LabelTest LabelTest LabelTest ReceiveTest StatementTest
tested_case y = map-CaseAlternative Action CaseAlternative Choice DelayAlternative Handler HandlerAlternative ReceiveAlternative Statement Acting LabelTest LabelTest LabelTest LabelTest LabelTest ReceiveTest StatementTest action_ranges case_in_range choice_in_range delay_in_range handler_in_range handled_in_range receive_in_range statement_in_range (plain_case y)

abbrev treed_case : CaseAlternative-F KnownAction KnownCaseAlternative KnownChoice KnownDelayAlternative KnownHandler KnownHandlerAlternative KnownReceiveAlternative KnownStatement → CaseAlternative-F ActionTree CaseTree ChoiceTree NumbersTree HandlerNode NumbersTree ReceiveTree StatementTree
treed_case y = map-CaseAlternative Action CaseAlternative Choice DelayAlternative Handler HandlerAlternative ReceiveAlternative Statement ActionTree CaseTree ChoiceTree NumbersTree HandlerNode NumbersTree ReceiveTree StatementTree action_tree case_tree choice_tree delay_tree handler_tree handled_tree receive_tree statement_tree (plain_case y)

abbrev tested_choice : Choice-F KnownAction KnownCaseAlternative KnownChoice KnownDelayAlternative KnownHandler KnownHandlerAlternative KnownReceiveAlternative KnownStatement → Choice-F Acting LabelTest LabelTest LabelTest LabelTest LabelTest ReceiveTest StatementTest
tested_choice y = map-Choice Action CaseAlternative Choice DelayAlternative Handler HandlerAlternative ReceiveAlternative Statement Acting LabelTest LabelTest LabelTest LabelTest LabelTest ReceiveTest StatementTest action_ranges case_in_range choice_in_range delay_in_range handler_in_range handled_in_range receive_in_range statement_in_range (plain_choice y)

abbrev treed_choice : Choice-F KnownAction KnownCaseAlternative KnownChoice KnownDelayAlternative KnownHandler KnownHandlerAlternative KnownReceiveAlternative KnownStatement → Choice-F ActionTree CaseTree ChoiceTree NumbersTree HandlerNode NumbersTree ReceiveTree StatementTree
treed_choice y = map-Choice Action CaseAlternative Choice DelayAlternative Handler HandlerAlternative ReceiveAlternative Statement ActionTree CaseTree ChoiceTree NumbersTree HandlerNode NumbersTree ReceiveTree StatementTree action_tree case_tree choice_tree delay_tree handler_tree handled_tree receive_tree statement_tree (plain_choice y)

abbrev tested_delay : DelayAlternative-F KnownAction KnownCaseAlternative KnownChoice KnownDelayAlternative KnownHandler KnownHandlerAlternative KnownReceiveAlternative KnownStatement → DelayAlternative-F Acting LabelTest LabelTest LabelTest LabelTest LabelTest ReceiveTest StatementTest
tested_delay y = map-DelayAlternative Action CaseAlternative Choice DelayAlternative Handler HandlerAlternative ReceiveAlternative Statement Acting LabelTest LabelTest LabelTest LabelTest LabelTest ReceiveTest StatementTest action_ranges case_in_range choice_in_range delay_in_range handler_in_range handled_in_range receive_in_range statement_in_range (plain_delay y)

abbrev treed_delay : DelayAlternative-F KnownAction KnownCaseAlternative KnownChoice KnownDelayAlternative KnownHandler KnownHandlerAlternative KnownReceiveAlternative KnownStatement → DelayAlternative-F ActionTree CaseTree ChoiceTree NumbersTree HandlerNode NumbersTree ReceiveTree StatementTree
treed_delay y = map-DelayAlternative Action CaseAlternative Choice DelayAlternative Handler HandlerAlternative ReceiveAlternative Statement ActionTree CaseTree ChoiceTree NumbersTree HandlerNode NumbersTree ReceiveTree StatementTree action_tree case_tree choice_tree delay_tree handler_tree handled_tree receive_tree statement_tree (plain_delay y)

abbrev tested_handler : Handler-F KnownAction KnownCaseAlternative KnownChoice KnownDelayAlternative KnownHandler KnownHandlerAlternative KnownReceiveAlternative KnownStatement → Handler-F Acting LabelTest LabelTest LabelTest LabelTest LabelTest ReceiveTest StatementTest
tested_handler y = map-Handler Action CaseAlternative Choice DelayAlternative Handler HandlerAlternative ReceiveAlternative Statement Acting LabelTest LabelTest LabelTest LabelTest LabelTest ReceiveTest StatementTest action_ranges case_in_range choice_in_range delay_in_range handler_in_range handled_in_range receive_in_range statement_in_range (plain_handler y)

abbrev treed_handler : Handler-F KnownAction KnownCaseAlternative KnownChoice KnownDelayAlternative KnownHandler KnownHandlerAlternative KnownReceiveAlternative KnownStatement → Handler-F ActionTree CaseTree ChoiceTree NumbersTree HandlerNode NumbersTree ReceiveTree StatementTree
treed_handler y = map-Handler Action CaseAlternative Choice DelayAlternative Handler HandlerAlternative ReceiveAlternative Statement ActionTree CaseTree ChoiceTree NumbersTree HandlerNode NumbersTree ReceiveTree StatementTree action_tree case_tree choice_tree delay_tree handler_tree handled_tree receive_tree statement_tree (plain_handler y)

abbrev tested_handled : HandlerAlternative-F KnownAction KnownCaseAlternative KnownChoice KnownDelayAlternative KnownHandler KnownHandlerAlternative KnownReceiveAlternative KnownStatement → HandlerAlternative-F Acting LabelTest LabelTest LabelTest LabelTest LabelTest ReceiveTest StatementTest
tested_handled y = map-HandlerAlternative Action CaseAlternative Choice DelayAlternative Handler HandlerAlternative ReceiveAlternative Statement Acting LabelTest LabelTest LabelTest LabelTest LabelTest ReceiveTest StatementTest action_ranges case_in_range choice_in_range delay_in_range handler_in_range handled_in_range receive_in_range statement_in_range (plain_handled y)

abbrev treed_handled : HandlerAlternative-F KnownAction KnownCaseAlternative KnownChoice KnownDelayAlternative KnownHandler KnownHandlerAlternative KnownReceiveAlternative KnownStatement → HandlerAlternative-F ActionTree CaseTree ChoiceTree NumbersTree HandlerNode NumbersTree ReceiveTree StatementTree
treed_handled y = map-HandlerAlternative Action CaseAlternative Choice DelayAlternative Handler HandlerAlternative ReceiveAlternative Statement ActionTree CaseTree ChoiceTree NumbersTree HandlerNode NumbersTree ReceiveTree StatementTree action_tree case_tree choice_tree delay_tree handler_tree handled_tree receive_tree statement_tree (plain_handled y)

abbrev tested_receive : ReceiveAlternative-F KnownAction KnownCaseAlternative KnownChoice KnownDelayAlternative KnownHandler KnownHandlerAlternative KnownReceiveAlternative KnownStatement → ReceiveAlternative-F Acting LabelTest LabelTest LabelTest LabelTest LabelTest ReceiveTest StatementTest
tested_receive y = map-ReceiveAlternative Action CaseAlternative Choice DelayAlternative Handler HandlerAlternative ReceiveAlternative Statement Acting LabelTest LabelTest LabelTest LabelTest LabelTest ReceiveTest StatementTest action_ranges case_in_range choice_in_range delay_in_range handler_in_range handled_in_range receive_in_range statement_in_range (plain_receive y)

abbrev treed_receive : ReceiveAlternative-F KnownAction KnownCaseAlternative KnownChoice KnownDelayAlternative KnownHandler KnownHandlerAlternative KnownReceiveAlternative KnownStatement → ReceiveAlternative-F ActionTree CaseTree ChoiceTree NumbersTree HandlerNode NumbersTree ReceiveTree StatementTree
treed_receive y = map-ReceiveAlternative Action CaseAlternative Choice DelayAlternative Handler HandlerAlternative ReceiveAlternative Statement ActionTree CaseTree ChoiceTree NumbersTree HandlerNode NumbersTree ReceiveTree StatementTree action_tree case_tree choice_tree delay_tree handler_tree handled_tree receive_tree statement_tree (plain_receive y)

abbrev tested_statement : Statement-F KnownAction KnownCaseAlternative KnownChoice KnownDelayAlternative KnownHandler KnownHandlerAlternative KnownReceiveAlternative KnownStatement → Statement-F Acting LabelTest LabelTest LabelTest LabelTest LabelTest ReceiveTest StatementTest
tested_statement y = map-Statement Action CaseAlternative Choice DelayAlternative Handler HandlerAlternative ReceiveAlternative Statement Acting LabelTest LabelTest LabelTest LabelTest LabelTest ReceiveTest StatementTest action_ranges case_in_range choice_in_range delay_in_range handler_in_range handled_in_range receive_in_range statement_in_range (plain_statement y)

abbrev treed_statement : Statement-F KnownAction KnownCaseAlternative KnownChoice KnownDelayAlternative KnownHandler KnownHandlerAlternative KnownReceiveAlternative KnownStatement → Statement-F ActionTree CaseTree ChoiceTree NumbersTree HandlerNode NumbersTree ReceiveTree StatementTree
treed_statement y = map-Statement Action CaseAlternative Choice DelayAlternative Handler HandlerAlternative ReceiveAlternative Statement ActionTree CaseTree ChoiceTree NumbersTree HandlerNode NumbersTree ReceiveTree StatementTree action_tree case_tree choice_tree delay_tree handler_tree handled_tree receive_tree statement_tree (plain_statement y)

-- ---- lists of nodes

statements_known : (ss : List KnownStatement) (items : Bool) (labels : ℕ) (program : Checked) (body : Body) → IsTrue (statements_hold items (tests_of_statement ss) labels program body) → StatementsInRange (checked_tree program) (body_row_tree body) items (statement_nodes (trees_of_statement ss))
statements_known [] items labels program body holds = tt
statements_known (s ∷ ss) items labels program body holds =
    let parts = both_hold (statement_in_range s.0 items labels program body) (statements_hold items (tests_of_statement ss) labels program body) holds in
    (s.1 items labels program body parts.0, statements_known ss items labels program body parts.1)

cases_known : (as' : List KnownCaseAlternative) (labels : ℕ) (program : Checked) (body : Body) → IsTrue (all_within (tests_of_case as') labels program body) → CasesInRange (checked_tree program) (body_row_tree body) (case_nodes (trees_of_case as'))
cases_known [] labels program body holds = tt
cases_known (a ∷ as') labels program body holds =
    let parts = both_hold (case_in_range a.0 labels program body) (all_within (tests_of_case as') labels program body) holds in
    (a.1 labels program body parts.0, cases_known as' labels program body parts.1)

choices_known : (as' : List KnownChoice) (labels : ℕ) (program : Checked) (body : Body) → IsTrue (all_within (tests_of_choice as') labels program body) → ChoicesInRange (checked_tree program) (body_row_tree body) (choice_nodes (trees_of_choice as'))
choices_known [] labels program body holds = tt
choices_known (a ∷ as') labels program body holds =
    let parts = both_hold (choice_in_range a.0 labels program body) (all_within (tests_of_choice as') labels program body) holds in
    (a.1 labels program body parts.0, choices_known as' labels program body parts.1)

delays_known : (as' : List KnownDelayAlternative) (labels : ℕ) (program : Checked) (body : Body) → IsTrue (all_within (tests_of_delay as') labels program body) → DelaysInRange (checked_tree program) (body_row_tree body) (delay_nodes (trees_of_delay as'))
delays_known [] labels program body holds = tt
delays_known (a ∷ as') labels program body holds =
    let parts = both_hold (delay_in_range a.0 labels program body) (all_within (tests_of_delay as') labels program body) holds in
    (a.1 labels program body parts.0, delays_known as' labels program body parts.1)

all_handled_known : (as' : List KnownHandlerAlternative) (labels : ℕ) (program : Checked) (body : Body) → IsTrue (all_within (tests_of_handled as') labels program body) → HandledInRange (checked_tree program) (body_row_tree body) (handled_nodes (trees_of_handled as'))
all_handled_known [] labels program body holds = tt
all_handled_known (a ∷ as') labels program body holds =
    let parts = both_hold (handled_in_range a.0 labels program body) (all_within (tests_of_handled as') labels program body) holds in
    (a.1 labels program body parts.0, all_handled_known as' labels program body parts.1)

receives_known : (source : _) (as' : List KnownReceiveAlternative) (labels : ℕ) (program : Checked) (body : Body) → IsTrue (all_receive source (tests_of_receive as') labels program body) → ReceivesInRange (checked_tree program) (body_row_tree body) (receive_nodes (trees_of_receive as'))
receives_known source [] labels program body holds = tt
receives_known source (a ∷ as') labels program body holds =
    let parts = both_hold (receive_in_range a.0 source labels program body) (all_receive source (tests_of_receive as') labels program body) holds in
    (a.1 source labels program body parts.0, receives_known source as' labels program body parts.1)

-- ---- each kind

case_step : (y : CaseAlternative-F KnownAction KnownCaseAlternative KnownChoice KnownDelayAlternative KnownHandler KnownHandlerAlternative KnownReceiveAlternative KnownStatement) → TellsCaseAlternative (tests.case_layer (tested_case y)) (trees.case_layer (treed_case y))
case_step y labels program body holds = statements_known y.actions false labels program body holds

choice_step : (y : Choice-F KnownAction KnownCaseAlternative KnownChoice KnownDelayAlternative KnownHandler KnownHandlerAlternative KnownReceiveAlternative KnownStatement) → TellsChoice (tests.choice_layer (tested_choice y)) (trees.choice_layer (treed_choice y))
choice_step y labels program body holds =
    let parts = both_hold (is_number (expr_ranges y.condition.value) program body) (statements_hold false (tests_of_statement y.actions) labels program body) holds in
    (number_told y.condition.value program body parts.0, statements_known y.actions false labels program body parts.1)

delay_step : (y : DelayAlternative-F KnownAction KnownCaseAlternative KnownChoice KnownDelayAlternative KnownHandler KnownHandlerAlternative KnownReceiveAlternative KnownStatement) → TellsDelayAlternative (tests.delay_layer (tested_delay y)) (trees.delay_layer (treed_delay y))
delay_step y labels program body holds =
    statements_known y.actions false labels program body (both_hold (all_below (length program.events) y.events) (statements_hold false (tests_of_statement y.actions) labels program body) holds).1

handled_step : (y : HandlerAlternative-F KnownAction KnownCaseAlternative KnownChoice KnownDelayAlternative KnownHandler KnownHandlerAlternative KnownReceiveAlternative KnownStatement) → TellsHandlerAlternative (tests.handled_layer (tested_handled y)) (trees.handled_layer (treed_handled y))
handled_step y labels program body holds =
    let parts = both_hold (all_exceptions y.exceptions program) (statements_hold false (tests_of_statement y.actions) labels program body) holds in
    (exceptions_told y.exceptions program parts.0, statements_known y.actions false labels program body parts.1)

receive_step : (y : ReceiveAlternative-F KnownAction KnownCaseAlternative KnownChoice KnownDelayAlternative KnownHandler KnownHandlerAlternative KnownReceiveAlternative KnownStatement) → TellsReceiveAlternative (tests.receive_layer (tested_receive y)) (trees.receive_layer (treed_receive y))
receive_step y source labels program body holds =
    let all = both_hold (parts_received source y.source 0 y.received program body) (locals_follow None y.received body && statements_hold false (tests_of_statement y.actions) labels program body) holds in
    let parts = both_hold (locals_follow None y.received body) (statements_hold false (tests_of_statement y.actions) labels program body) all.1 in
    (follow_told y.received source y.source 0 None program body all.0 parts.0, statements_known y.actions false labels program body parts.1)

handler_step : (y : Handler-F KnownAction KnownCaseAlternative KnownChoice KnownDelayAlternative KnownHandler KnownHandlerAlternative KnownReceiveAlternative KnownStatement) → TellsHandler (tests.handler_layer (tested_handler y)) (trees.handler_layer (treed_handler y))
handler_step y labels program body holds = to_else y.alternatives y.otherwise labels program body holds where
  to_else : (as' : List KnownHandlerAlternative) (o : Option (List KnownStatement)) → TellsHandler (tests.handler_layer (tested_handler (record { alternatives = as'; otherwise = o }))) (trees.handler_layer (treed_handler (record { alternatives = as'; otherwise = o })))
  to_else as' None labels program body holds = (all_handled_known as' labels program body (both_hold (all_within (tests_of_handled as') labels program body) true holds).0, tt)
  to_else as' (Some ss) labels program body holds =
      let parts = both_hold (all_within (tests_of_handled as') labels program body) (statements_hold false (tests_of_statement ss) labels program body) holds in
      (all_handled_known as' labels program body parts.0, statements_known ss false labels program body parts.1)

statement_step : (y : Statement-F KnownAction KnownCaseAlternative KnownChoice KnownDelayAlternative KnownHandler KnownHandlerAlternative KnownReceiveAlternative KnownStatement) → TellsStatement (tests.statement_layer (tested_statement y)) (trees.statement_layer (treed_statement y))
statement_step y items labels program body holds = to_handler y.action y.handler items holds where
  inside : Box KnownAction Global → ℕ
  inside a = labels_inside (action_ranges a.value.0).is_modulion y.labelled labels

  to_handler : (a : Box KnownAction Global) (h : Option (Box KnownHandler Global)) (items : Bool) → IsTrue (tests.statement_layer (tested_statement (record { labelled = y.labelled; action = a; handler = h })) items labels program body) → StatementInRange (checked_tree program) (body_row_tree body) items (trees.statement_layer (treed_statement (record { labelled = y.labelled; action = a; handler = h })))
  to_handler a None items holds = (a.value.1 items (inside a) program body (both_hold ((action_ranges a.value.0).holds items (inside a) program body) true holds).0, tt)
  to_handler a (Some h) items holds =
      let parts = both_hold ((action_ranges a.value.0).holds items (inside a) program body) (handler_in_range h.value.0 (inside a) program body) holds in
      (a.value.1 items (inside a) program body parts.0, h.value.1 (inside a) program body parts.1)

action_step : (y : Action-F KnownAction KnownCaseAlternative KnownChoice KnownDelayAlternative KnownHandler KnownHandlerAlternative KnownReceiveAlternative KnownStatement) → TellsAction (tests.action_layer (tested_action y)) (trees.action_layer (treed_action y))
action_step opens.Nothing items labels program body holds = tt
action_step (opens.Declare names v) items labels program body holds =
    let counted = received_ranges v in
    let parts = both_hold (counted.holds program body) (names_fit names counted.count program body) holds in
    ((received_told v).1 program body parts.0, subst (λ k. NamesInRange (checked_tree program) (body_row_tree body) names k) (sym (received_told v).0) (names_told names counted.count program body parts.1))
action_step (opens.Lowest locals xs) items labels program body holds = tt
action_step (opens.Module ss) items labels program body holds =
    let parts = both_hold items (statements_hold true (tests_of_statement ss) labels program body) holds in
    (truly items parts.0, statements_known ss true labels program body parts.1)
action_step (opens.Region r ss) items labels program body holds =
    let all = both_hold items (nat_lt r program.regions && statements_hold false (tests_of_statement ss) labels program body) holds in
    let parts = both_hold (nat_lt r program.regions) (statements_hold false (tests_of_statement ss) labels program body) all.1 in
    (truly items all.0, statements_known ss false labels program body parts.1)
action_step (opens.Assign l v) items labels program body holds =
    let left = location_ranges l in
    let right = received_ranges v in
    let all = both_hold (left.holds program body) (right.holds program body && nat_eq left.count right.count) holds in
    let parts = both_hold (right.holds program body) (nat_eq left.count right.count) all.1 in
    ((location_told l).1 program body all.0, (received_told v).1 program body parts.0, (location_told l).0 ∙ equal left.count right.count parts.1 ∙ sym (received_told v).0)
action_step (opens.Update l o e bounds) items labels program body holds =
    let left = location_ranges l in
    let right = expr_ranges e.value in
    let all = both_hold (left.holds program body) (right.holds program body && (operands_fit o left.count right.count && nat_eq left.count 1)) holds in
    let more = both_hold (right.holds program body) (operands_fit o left.count right.count && nat_eq left.count 1) all.1 in
    let last = both_hold (operands_fit o left.count right.count) (nat_eq left.count 1) more.1 in
    let first = subst (λ k. IsTrue (operands_fit o k right.count)) (sym (location_told l).0) last.0 in
    ((location_told l).1 program body all.0, (expr_told e.value).1 program body more.0, subst (λ k. IsTrue (operands_fit o (location_count (location_tree l)) k)) (sym (expr_told e.value).0) first, (location_told l).0 ∙ equal left.count 1 last.1)
action_step (opens.Call c) items labels program body holds = (call_told c.value program body).0 holds
action_step (opens.Routine r e) items labels program body holds = number_told e.value program body holds
action_step (opens.Evaluate e) items labels program body holds = (expr_told e.value).1 program body holds
action_step (opens.PutInt e) items labels program body holds = number_told e.value program body holds
action_step (opens.PutText e) items labels program body holds = (expr_told e.value).1 program body holds
action_step opens.PutLine items labels program body holds = tt
action_step (opens.Exit n) items labels program body holds = tt
action_step (opens.Return v) items labels program body holds = some_given_told v program body holds
action_step (opens.Result v) items labels program body holds = given_told v program body holds
action_step (opens.Assert e) items labels program body holds = number_told e.value program body holds
action_step (opens.Cause x) items labels program body holds = below x (7 + length program.exceptions) holds
action_step opens.Stop items labels program body holds = tt
action_step (opens.Start s) items labels program body holds = start_told s.value program body holds
action_step (opens.Delay e priority) items labels program body holds = tt
action_step (opens.Continue e) items labels program body holds = tt
action_step (opens.Send s priority) items labels program body holds = sent_told s.value program body holds
action_step (opens.If cs ss) items labels program body holds =
    let parts = both_hold (all_within (tests_of_choice cs) labels program body) (statements_hold false (tests_of_statement ss) labels program body) holds in
    (choices_known cs labels program body parts.0, statements_known ss false labels program body parts.1)
action_step (opens.Case e as' None) items labels program body holds =
    let all = both_hold (is_number (expr_ranges e.value) program body) (all_within (tests_of_case as') labels program body && true) holds in
    (number_told e.value program body all.0, cases_known as' labels program body (both_hold (all_within (tests_of_case as') labels program body) true all.1).0, tt)
action_step (opens.Case e as' (Some ss)) items labels program body holds =
    let all = both_hold (is_number (expr_ranges e.value) program body) (all_within (tests_of_case as') labels program body && statements_hold false (tests_of_statement ss) labels program body) holds in
    let parts = both_hold (all_within (tests_of_case as') labels program body) (statements_hold false (tests_of_statement ss) labels program body) all.1 in
    (number_told e.value program body all.0, cases_known as' labels program body parts.0, statements_known ss false labels program body parts.1)
action_step (opens.Do c ss) items labels program body holds =
    let parts = both_hold (control_in_range c.value program body) (statements_hold false (tests_of_statement ss) labels program body) holds in
    (control_told c.value program body parts.0, statements_known ss false labels program body parts.1)
action_step (opens.Begin ss) items labels program body holds = statements_known ss false labels program body holds
action_step (opens.DelayCase set priority as') items labels program body holds =
    let parts = both_hold (is_set set program body) (all_within (tests_of_delay as') labels program body) holds in
    (set_told set program body parts.0, delays_known as' labels program body parts.1)
action_step (opens.ReceiveBuffers set as' None) items labels program body holds =
    let all = both_hold (is_set set program body) (all_receive _ (tests_of_receive as') labels program body && true) holds in
    (set_told set program body all.0, receives_known _ as' labels program body (both_hold (all_receive _ (tests_of_receive as') labels program body) true all.1).0, tt)
action_step (opens.ReceiveBuffers set as' (Some ss)) items labels program body holds =
    let all = both_hold (is_set set program body) (all_receive _ (tests_of_receive as') labels program body && statements_hold false (tests_of_statement ss) labels program body) holds in
    let parts = both_hold (all_receive _ (tests_of_receive as') labels program body) (statements_hold false (tests_of_statement ss) labels program body) all.1 in
    (set_told set program body all.0, receives_known _ as' labels program body parts.0, statements_known ss false labels program body parts.1)
action_step (opens.ReceiveSignals set as' None) items labels program body holds =
    let all = both_hold (is_set set program body) (all_receive _ (tests_of_receive as') labels program body && true) holds in
    (set_told set program body all.0, receives_known _ as' labels program body (both_hold (all_receive _ (tests_of_receive as') labels program body) true all.1).0, tt)
action_step (opens.ReceiveSignals set as' (Some ss)) items labels program body holds =
    let all = both_hold (is_set set program body) (all_receive _ (tests_of_receive as') labels program body && statements_hold false (tests_of_statement ss) labels program body) holds in
    let parts = both_hold (all_receive _ (tests_of_receive as') labels program body) (statements_hold false (tests_of_statement ss) labels program body) all.1 in
    (set_told set program body all.0, receives_known _ as' labels program body parts.0, statements_known ss false labels program body parts.1)

-- ---- the induction

action_rolled : (x : Action-F Action CaseAlternative Choice DelayAlternative Handler HandlerAlternative ReceiveAlternative Statement) (y : Action-F KnownAction KnownCaseAlternative KnownChoice KnownDelayAlternative KnownHandler KnownHandlerAlternative KnownReceiveAlternative KnownStatement) → plain_action y ≡ x → ToldAction (roll-Action x)
unfolding action_ranges case_in_range choice_in_range delay_in_range handler_in_range handled_in_range receive_in_range statement_in_range action_tree case_tree choice_tree delay_tree handler_tree handled_tree receive_tree statement_tree
action_rolled x y is =
    subst (λ z. ToldAction (roll-Action z)) is
    (subst (λ t. TellsAction (action_ranges (roll-Action (plain_action y))) t) (sym (fold-roll-Action ActionTree CaseTree ChoiceTree NumbersTree HandlerNode NumbersTree ReceiveTree StatementTree trees.action_layer trees.case_layer trees.choice_layer trees.delay_layer trees.handler_layer trees.handled_layer trees.receive_layer trees.statement_layer (plain_action y)))
    (subst (λ t. TellsAction t (trees.action_layer (treed_action y))) (sym (fold-roll-Action Acting LabelTest LabelTest LabelTest LabelTest LabelTest ReceiveTest StatementTest tests.action_layer tests.case_layer tests.choice_layer tests.delay_layer tests.handler_layer tests.handled_layer tests.receive_layer tests.statement_layer (plain_action y)))
    (action_step y)))

case_rolled : (x : CaseAlternative-F Action CaseAlternative Choice DelayAlternative Handler HandlerAlternative ReceiveAlternative Statement) (y : CaseAlternative-F KnownAction KnownCaseAlternative KnownChoice KnownDelayAlternative KnownHandler KnownHandlerAlternative KnownReceiveAlternative KnownStatement) → plain_case y ≡ x → ToldCaseAlternative (roll-CaseAlternative x)
unfolding action_ranges case_in_range choice_in_range delay_in_range handler_in_range handled_in_range receive_in_range statement_in_range action_tree case_tree choice_tree delay_tree handler_tree handled_tree receive_tree statement_tree
case_rolled x y is =
    subst (λ z. ToldCaseAlternative (roll-CaseAlternative z)) is
    (subst (λ t. TellsCaseAlternative (case_in_range (roll-CaseAlternative (plain_case y))) t) (sym (fold-roll-CaseAlternative ActionTree CaseTree ChoiceTree NumbersTree HandlerNode NumbersTree ReceiveTree StatementTree trees.action_layer trees.case_layer trees.choice_layer trees.delay_layer trees.handler_layer trees.handled_layer trees.receive_layer trees.statement_layer (plain_case y)))
    (subst (λ t. TellsCaseAlternative t (trees.case_layer (treed_case y))) (sym (fold-roll-CaseAlternative Acting LabelTest LabelTest LabelTest LabelTest LabelTest ReceiveTest StatementTest tests.action_layer tests.case_layer tests.choice_layer tests.delay_layer tests.handler_layer tests.handled_layer tests.receive_layer tests.statement_layer (plain_case y)))
    (case_step y)))

choice_rolled : (x : Choice-F Action CaseAlternative Choice DelayAlternative Handler HandlerAlternative ReceiveAlternative Statement) (y : Choice-F KnownAction KnownCaseAlternative KnownChoice KnownDelayAlternative KnownHandler KnownHandlerAlternative KnownReceiveAlternative KnownStatement) → plain_choice y ≡ x → ToldChoice (roll-Choice x)
unfolding action_ranges case_in_range choice_in_range delay_in_range handler_in_range handled_in_range receive_in_range statement_in_range action_tree case_tree choice_tree delay_tree handler_tree handled_tree receive_tree statement_tree
choice_rolled x y is =
    subst (λ z. ToldChoice (roll-Choice z)) is
    (subst (λ t. TellsChoice (choice_in_range (roll-Choice (plain_choice y))) t) (sym (fold-roll-Choice ActionTree CaseTree ChoiceTree NumbersTree HandlerNode NumbersTree ReceiveTree StatementTree trees.action_layer trees.case_layer trees.choice_layer trees.delay_layer trees.handler_layer trees.handled_layer trees.receive_layer trees.statement_layer (plain_choice y)))
    (subst (λ t. TellsChoice t (trees.choice_layer (treed_choice y))) (sym (fold-roll-Choice Acting LabelTest LabelTest LabelTest LabelTest LabelTest ReceiveTest StatementTest tests.action_layer tests.case_layer tests.choice_layer tests.delay_layer tests.handler_layer tests.handled_layer tests.receive_layer tests.statement_layer (plain_choice y)))
    (choice_step y)))

delay_rolled : (x : DelayAlternative-F Action CaseAlternative Choice DelayAlternative Handler HandlerAlternative ReceiveAlternative Statement) (y : DelayAlternative-F KnownAction KnownCaseAlternative KnownChoice KnownDelayAlternative KnownHandler KnownHandlerAlternative KnownReceiveAlternative KnownStatement) → plain_delay y ≡ x → ToldDelayAlternative (roll-DelayAlternative x)
unfolding action_ranges case_in_range choice_in_range delay_in_range handler_in_range handled_in_range receive_in_range statement_in_range action_tree case_tree choice_tree delay_tree handler_tree handled_tree receive_tree statement_tree
delay_rolled x y is =
    subst (λ z. ToldDelayAlternative (roll-DelayAlternative z)) is
    (subst (λ t. TellsDelayAlternative (delay_in_range (roll-DelayAlternative (plain_delay y))) t) (sym (fold-roll-DelayAlternative ActionTree CaseTree ChoiceTree NumbersTree HandlerNode NumbersTree ReceiveTree StatementTree trees.action_layer trees.case_layer trees.choice_layer trees.delay_layer trees.handler_layer trees.handled_layer trees.receive_layer trees.statement_layer (plain_delay y)))
    (subst (λ t. TellsDelayAlternative t (trees.delay_layer (treed_delay y))) (sym (fold-roll-DelayAlternative Acting LabelTest LabelTest LabelTest LabelTest LabelTest ReceiveTest StatementTest tests.action_layer tests.case_layer tests.choice_layer tests.delay_layer tests.handler_layer tests.handled_layer tests.receive_layer tests.statement_layer (plain_delay y)))
    (delay_step y)))

handler_rolled : (x : Handler-F Action CaseAlternative Choice DelayAlternative Handler HandlerAlternative ReceiveAlternative Statement) (y : Handler-F KnownAction KnownCaseAlternative KnownChoice KnownDelayAlternative KnownHandler KnownHandlerAlternative KnownReceiveAlternative KnownStatement) → plain_handler y ≡ x → ToldHandler (roll-Handler x)
unfolding action_ranges case_in_range choice_in_range delay_in_range handler_in_range handled_in_range receive_in_range statement_in_range action_tree case_tree choice_tree delay_tree handler_tree handled_tree receive_tree statement_tree
handler_rolled x y is =
    subst (λ z. ToldHandler (roll-Handler z)) is
    (subst (λ t. TellsHandler (handler_in_range (roll-Handler (plain_handler y))) t) (sym (fold-roll-Handler ActionTree CaseTree ChoiceTree NumbersTree HandlerNode NumbersTree ReceiveTree StatementTree trees.action_layer trees.case_layer trees.choice_layer trees.delay_layer trees.handler_layer trees.handled_layer trees.receive_layer trees.statement_layer (plain_handler y)))
    (subst (λ t. TellsHandler t (trees.handler_layer (treed_handler y))) (sym (fold-roll-Handler Acting LabelTest LabelTest LabelTest LabelTest LabelTest ReceiveTest StatementTest tests.action_layer tests.case_layer tests.choice_layer tests.delay_layer tests.handler_layer tests.handled_layer tests.receive_layer tests.statement_layer (plain_handler y)))
    (handler_step y)))

handled_rolled : (x : HandlerAlternative-F Action CaseAlternative Choice DelayAlternative Handler HandlerAlternative ReceiveAlternative Statement) (y : HandlerAlternative-F KnownAction KnownCaseAlternative KnownChoice KnownDelayAlternative KnownHandler KnownHandlerAlternative KnownReceiveAlternative KnownStatement) → plain_handled y ≡ x → ToldHandlerAlternative (roll-HandlerAlternative x)
unfolding action_ranges case_in_range choice_in_range delay_in_range handler_in_range handled_in_range receive_in_range statement_in_range action_tree case_tree choice_tree delay_tree handler_tree handled_tree receive_tree statement_tree
handled_rolled x y is =
    subst (λ z. ToldHandlerAlternative (roll-HandlerAlternative z)) is
    (subst (λ t. TellsHandlerAlternative (handled_in_range (roll-HandlerAlternative (plain_handled y))) t) (sym (fold-roll-HandlerAlternative ActionTree CaseTree ChoiceTree NumbersTree HandlerNode NumbersTree ReceiveTree StatementTree trees.action_layer trees.case_layer trees.choice_layer trees.delay_layer trees.handler_layer trees.handled_layer trees.receive_layer trees.statement_layer (plain_handled y)))
    (subst (λ t. TellsHandlerAlternative t (trees.handled_layer (treed_handled y))) (sym (fold-roll-HandlerAlternative Acting LabelTest LabelTest LabelTest LabelTest LabelTest ReceiveTest StatementTest tests.action_layer tests.case_layer tests.choice_layer tests.delay_layer tests.handler_layer tests.handled_layer tests.receive_layer tests.statement_layer (plain_handled y)))
    (handled_step y)))

receive_rolled : (x : ReceiveAlternative-F Action CaseAlternative Choice DelayAlternative Handler HandlerAlternative ReceiveAlternative Statement) (y : ReceiveAlternative-F KnownAction KnownCaseAlternative KnownChoice KnownDelayAlternative KnownHandler KnownHandlerAlternative KnownReceiveAlternative KnownStatement) → plain_receive y ≡ x → ToldReceiveAlternative (roll-ReceiveAlternative x)
unfolding action_ranges case_in_range choice_in_range delay_in_range handler_in_range handled_in_range receive_in_range statement_in_range action_tree case_tree choice_tree delay_tree handler_tree handled_tree receive_tree statement_tree
receive_rolled x y is =
    subst (λ z. ToldReceiveAlternative (roll-ReceiveAlternative z)) is
    (subst (λ t. TellsReceiveAlternative (receive_in_range (roll-ReceiveAlternative (plain_receive y))) t) (sym (fold-roll-ReceiveAlternative ActionTree CaseTree ChoiceTree NumbersTree HandlerNode NumbersTree ReceiveTree StatementTree trees.action_layer trees.case_layer trees.choice_layer trees.delay_layer trees.handler_layer trees.handled_layer trees.receive_layer trees.statement_layer (plain_receive y)))
    (subst (λ t. TellsReceiveAlternative t (trees.receive_layer (treed_receive y))) (sym (fold-roll-ReceiveAlternative Acting LabelTest LabelTest LabelTest LabelTest LabelTest ReceiveTest StatementTest tests.action_layer tests.case_layer tests.choice_layer tests.delay_layer tests.handler_layer tests.handled_layer tests.receive_layer tests.statement_layer (plain_receive y)))
    (receive_step y)))

statement_rolled : (x : Statement-F Action CaseAlternative Choice DelayAlternative Handler HandlerAlternative ReceiveAlternative Statement) (y : Statement-F KnownAction KnownCaseAlternative KnownChoice KnownDelayAlternative KnownHandler KnownHandlerAlternative KnownReceiveAlternative KnownStatement) → plain_statement y ≡ x → ToldStatement (roll-Statement x)
unfolding action_ranges case_in_range choice_in_range delay_in_range handler_in_range handled_in_range receive_in_range statement_in_range action_tree case_tree choice_tree delay_tree handler_tree handled_tree receive_tree statement_tree
statement_rolled x y is =
    subst (λ z. ToldStatement (roll-Statement z)) is
    (subst (λ t. TellsStatement (statement_in_range (roll-Statement (plain_statement y))) t) (sym (fold-roll-Statement ActionTree CaseTree ChoiceTree NumbersTree HandlerNode NumbersTree ReceiveTree StatementTree trees.action_layer trees.case_layer trees.choice_layer trees.delay_layer trees.handler_layer trees.handled_layer trees.receive_layer trees.statement_layer (plain_statement y)))
    (subst (λ t. TellsStatement t (trees.statement_layer (treed_statement y))) (sym (fold-roll-Statement Acting LabelTest LabelTest LabelTest LabelTest LabelTest ReceiveTest StatementTest tests.action_layer tests.case_layer tests.choice_layer tests.delay_layer tests.handler_layer tests.handled_layer tests.receive_layer tests.statement_layer (plain_statement y)))
    (statement_step y)))

-- what being in range says of each statement and handler
pub statement_told : (x : Statement) → TellsStatement (statement_in_range x) (statement_tree x)
statement_told = ind-Statement ToldAction ToldCaseAlternative ToldChoice ToldDelayAlternative ToldHandler ToldHandlerAlternative ToldReceiveAlternative ToldStatement action_rolled case_rolled choice_rolled delay_rolled handler_rolled handled_rolled receive_rolled statement_rolled

pub handler_told : (x : Handler) → TellsHandler (handler_in_range x) (handler_tree x)
handler_told = ind-Handler ToldAction ToldCaseAlternative ToldChoice ToldDelayAlternative ToldHandler ToldHandlerAlternative ToldReceiveAlternative ToldStatement action_rolled case_rolled choice_rolled delay_rolled handler_rolled handled_rolled receive_rolled statement_rolled
