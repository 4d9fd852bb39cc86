-- Numbers, truth values, texts and comparisons. Each program stands above its tree, without the module around it; local 0 is
use Rattle.std.specs.Prelude.{◌≡◌, refl, [], ◌∷◌, pos, negsuc, false, None}
use Rattle.kernel_base.specs.declared.ends.Exc.TheVariants.{Overflow, Rangefail, Empty}
use Rattle.kernel_base.specs.declared.request.Request.TheVariants.{Get}
use Rattle.kernel_base.specs.declared.answer.Answer.TheVariants.{Value, Fail}
use Rattle.modes.specs.ModeTree.{int, boolean, instance, range, chars}
use Rattle.checked_program.specs.declared.expr.Base.TheVariants.{Local}
use Rattle.checked_program.specs.declared.expr.Binary.TheVariants.{Add, Subtract, Multiply, Divide, Modulo, Remainder, And, Or, Xor, AndIf, OrIf, Equal, NotEqual, Less, LessOrEqual, Greater, GreaterOrEqual}
use Rattle.checked_program.specs.declared.expr.Prefix.TheVariants.{Minus, Not}
use Rattle.checked_program.specs.declared.expr.Routine.TheVariants.{Number, Absolute, Successor, Predecessor}
use Rattle.program_trees.specs.ExprTree.{ExprTree, expr, constant, own_instance, contents, get_int, prefixed, part_nodes, one_element, location, no_parts}
use Rattle.program_trees.specs.StatementTree.{statement, set_lowest, assign, evaluate, put_text, put_line}
use Rattle.program_trees.specs.ProgramTree.{CheckedTree}
use Rattle.source_meaning.proofs.Words.{Does, alone, asks, dcl, dcl_any, dcl_in, ends, ints, local_row, number, of, on, op, own, plain, put, puts, raises, says, set, value_in, within}

-- the one that is declared first.
abbrev x : ExprTree
x = value_in (own 0)

abbrev y : ExprTree
y = value_in (own 1)

-- DCL x INT := 17, y INT := 5; PUT_INT(x + y); PUT_INT(x - y); PUT_INT(x * y);
abbrev sums : CheckedTree
sums = alone (ints 2) (dcl 0 (number (pos 17)) ∷ dcl 1 (number (pos 5)) ∷ put (op Add x y) ∷ put (op Subtract x y) ∷ put (op Multiply x y) ∷ [])

sums_do : Does sums (says (pos 22) ∷ says (pos 12) ∷ says (pos 85) ∷ ends)
sums_do = refl

-- DCL x INT := -7, y INT := 2; PUT_INT(x / y); PUT_INT(x REM y); PUT_INT(x MOD y); PUT_INT(-x); PUT_INT(ABS(x));
abbrev quotients : CheckedTree
quotients = alone (ints 2) (dcl 0 (number (negsuc 6)) ∷ dcl 1 (number (pos 2)) ∷ put (op Divide x y) ∷ put (op Remainder x y) ∷ put (op Modulo x y) ∷ put (expr 1 None (prefixed Minus x)) ∷ put (of Absolute x) ∷ [])

quotients_do : Does quotients (says (negsuc 2) ∷ says (negsuc 0) ∷ says (pos 1) ∷ says (pos 7) ∷ says (pos 7) ∷ ends)
quotients_do = refl

-- DCL x INT := 2147483647; x := x + 1 ON (OVERFLOW): PUT_TEXT("high"); END; PUT_INT(1);
abbrev overflow : CheckedTree
overflow = alone (ints 1) (dcl 0 (number (pos 2147483647)) ∷ statement false (set (own 0) (op Add x (number (pos 1)))) (on 0 (plain (put_text (expr 4 None (constant (pos 104 ∷ pos 105 ∷ pos 103 ∷ pos 104 ∷ [])))) ∷ [])) ∷ put (number (pos 1)) ∷ [])

overflow_does : Does overflow (puts (104 ∷ 105 ∷ 103 ∷ 104 ∷ []) ∷ says (pos 1) ∷ ends)
overflow_does = refl

-- DCL x INT := 1, y INT; PUT_INT(x / y);
abbrev zero_divisor : CheckedTree
zero_divisor = alone (ints 2) (dcl 0 (number (pos 1)) ∷ plain (set_lowest (1 ∷ []) (pos 0 ∷ [])) ∷ put (op Divide x y) ∷ [])

zero_divisor_does : Does zero_divisor (raises Overflow)
zero_divisor_does = refl

-- DCL x INT := 1, y INT := -3; PUT_INT(x MOD y);
abbrev modulus_of_a_negative : CheckedTree
modulus_of_a_negative = alone (ints 2) (dcl 0 (number (pos 1)) ∷ dcl 1 (number (negsuc 2)) ∷ put (op Modulo x y) ∷ [])

modulus_of_a_negative_does : Does modulus_of_a_negative (raises Overflow)
modulus_of_a_negative_does = refl

-- DCL x BOOL := TRUE, y BOOL := FALSE; PUT_INT(NUM(x AND y)); and so for OR, XOR, NOT x, x = y, x /= y
abbrev truths : CheckedTree
truths = alone (local_row boolean 0 1 ∷ local_row boolean 1 1 ∷ []) (dcl_in (pos 0) (pos 1) 0 (number (pos 1)) ∷ dcl_in (pos 0) (pos 1) 1 (number (pos 0)) ∷ put (of Number (op And x y)) ∷ put (of Number (op Or x y)) ∷ put (of Number (op Xor x y)) ∷ put (of Number (expr 1 None (prefixed Not x))) ∷ put (of Number (op Equal x y)) ∷ put (of Number (op NotEqual x y)) ∷ [])

truths_do : Does truths (says (pos 0) ∷ says (pos 1) ∷ says (pos 1) ∷ says (pos 0) ∷ says (pos 0) ∷ says (pos 1) ∷ ends)
truths_do = refl

-- DCL x INT; PUT_INT(NUM(x = 1 ANDIF 1 / x = 1)); PUT_INT(NUM(x = 0 ORIF 1 / x = 1)); PUT_INT(NUM(x = 0 AND 1 / x = 1));
abbrev second_operands : CheckedTree
second_operands = alone (ints 1) (plain (set_lowest (0 ∷ []) (pos 0 ∷ [])) ∷ put (of Number (op AndIf (op Equal x (number (pos 1))) (op Equal (op Divide (number (pos 1)) x) (number (pos 1))))) ∷ put (of Number (op OrIf (op Equal x (number (pos 0))) (op Equal (op Divide (number (pos 1)) x) (number (pos 1))))) ∷ put (of Number (op And (op Equal x (number (pos 0))) (op Equal (op Divide (number (pos 1)) x) (number (pos 1))))) ∷ [])

second_operands_do : Does second_operands (says (pos 0) ∷ says (pos 1) ∷ raises Overflow)
second_operands_do = refl

-- DCL x INT := 3, y INT := 5; PUT_INT(NUM(x < y)); and so for <=, >, >=, and y <= y
abbrev comparisons : CheckedTree
comparisons = alone (ints 2) (dcl 0 (number (pos 3)) ∷ dcl 1 (number (pos 5)) ∷ put (of Number (op Less x y)) ∷ put (of Number (op LessOrEqual x y)) ∷ put (of Number (op Greater x y)) ∷ put (of Number (op GreaterOrEqual x y)) ∷ put (of Number (op LessOrEqual y y)) ∷ [])

comparisons_do : Does comparisons (says (pos 1) ∷ says (pos 1) ∷ says (pos 0) ∷ says (pos 0) ∷ says (pos 1) ∷ ends)
comparisons_do = refl

abbrev s : ExprTree
s = expr 2 None (contents (location (Local 0) no_parts 2))

-- DCL s CHARS (2) := "ab", y INT := 1; PUT_INT(NUM(s < "ac")); PUT_INT(NUM(s = "ac")); PUT_INT(NUM(s(y))); PUT_TEXT(s);
abbrev texts : CheckedTree
texts = alone (local_row (chars 2) 0 2 ∷ local_row int 2 1 ∷ []) (dcl_any 0 (expr 2 None (constant (pos 97 ∷ pos 98 ∷ []))) ∷ dcl 1 (number (pos 1)) ∷ put (of Number (op Less s (expr 2 None (constant (pos 97 ∷ pos 99 ∷ []))))) ∷ put (of Number (op Equal s (expr 2 None (constant (pos 97 ∷ pos 99 ∷ []))))) ∷ put (of Number (expr 1 None (contents (location (Local 0) (part_nodes (one_element y (record { low = (pos 0); high = (pos 1) }) 1 ∷ [])) 1)))) ∷ plain (put_text s) ∷ [])

texts_do : Does texts (says (pos 1) ∷ says (pos 0) ∷ says (pos 98) ∷ puts (97 ∷ 98 ∷ []) ∷ ends)
texts_do = refl

-- DCL x INT (0:2) := 1; x := SUCC(x); PUT_INT(PRED(x)); x := SUCC(x);
abbrev successors : CheckedTree
successors = alone (local_row (range int (pos 0) (pos 2)) 0 1 ∷ []) (dcl_in (pos 0) (pos 2) 0 (number (pos 1)) ∷ plain (assign (own 0) (within (pos 0) (pos 2) (of (Successor (pos 2)) x))) ∷ put (of (Predecessor (pos 0)) x) ∷ plain (assign (own 0) (within (pos 0) (pos 2) (of (Successor (pos 2)) x))) ∷ [])

successors_do : Does successors (says (pos 1) ∷ raises Overflow)
successors_do = refl

-- DCL x INT (0:2) := 1; x := x + 2;
abbrev value_outside_its_location : CheckedTree
value_outside_its_location = alone (local_row (range int (pos 0) (pos 2)) 0 1 ∷ []) (dcl_in (pos 0) (pos 2) 0 (number (pos 1)) ∷ plain (assign (own 0) (within (pos 0) (pos 2) (op Add x (number (pos 2))))) ∷ [])

value_outside_its_location_does : Does value_outside_its_location (raises Rangefail)
value_outside_its_location_does = refl

-- DCL x INSTANCE := THIS; PUT_INT(NUM(x = THIS)); PUT_INT(NUM(x = NULL));
abbrev own_instances : CheckedTree
own_instances = alone (local_row instance 0 1 ∷ []) (dcl_any 0 (expr 1 None own_instance) ∷ put (of Number (op Equal x (expr 1 None own_instance))) ∷ put (of Number (op Equal x (number (pos 0)))) ∷ [])

own_instances_do : Does own_instances (says (pos 1) ∷ says (pos 0) ∷ ends)
own_instances_do = refl

-- DCL x INT; x := GET_INT(); PUT_INT(x); GET_INT(); x := GET_INT() ON (EMPTY): PUT_NL(); END;
abbrev inputs : CheckedTree
inputs = alone (ints 1) (plain (set_lowest (0 ∷ []) (pos 0 ∷ [])) ∷ plain (set (own 0) (expr 1 None get_int)) ∷ put x ∷ plain (evaluate (expr 1 None get_int)) ∷ statement false (set (own 0) (expr 1 None get_int)) (on 2 (plain put_line ∷ [])) ∷ [])

inputs_do : Does inputs (asks Get (Value (pos 12 ∷ [])) ∷ says (pos 12) ∷ asks Get (Value (negsuc 0 ∷ [])) ∷ asks Get (Fail Empty) ∷ puts (10 ∷ []) ∷ ends)
inputs_do = refl
