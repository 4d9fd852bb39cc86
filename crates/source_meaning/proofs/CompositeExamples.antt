-- Powersets, arrays and structures.
use Rattle.std.specs.Prelude.{◌≡◌, refl, List, [], ◌∷◌, pos, Some, None, true, false}
use Rattle.kernel_base.specs.declared.ends.Exc.TheVariants.{Rangefail, Empty}
use Rattle.kernel_base.specs.declared.request.Request.TheVariants.{Get}
use Rattle.kernel_base.specs.declared.answer.Answer.TheVariants.{Value}
use Rattle.modes.specs.ModeTree.{ModeTree, int, range, powerset as powerset_of, array, structure, words, more_fields, no_fields}
use Rattle.checked_program.specs.declared.expr.Base.TheVariants.{Local}
use Rattle.checked_program.specs.declared.expr.Binary.TheVariants.{Add, Equal, Union, Intersection, SymmetricDifference, Difference, Included, ProperlyIncluded, Includes, ProperlyIncludes, Member}
use Rattle.checked_program.specs.declared.expr.Prefix.TheVariants.{Complement}
use Rattle.checked_program.specs.declared.expr.Routine.TheVariants.{Number, Cardinality, Least, Greatest}
use Rattle.program_trees.specs.ExprTree.{ExprTree, expr, constant, contents, part_of, powerset, parts, uniform, get_int, prefixed, received, received_nodes, part_nodes, one_field, one_element, range_nodes, alone as one_value, between, LocationTree, location, no_parts}
use Rattle.program_trees.specs.StatementTree.{set_lowest, assign, update}
use Rattle.program_trees.specs.ProgramTree.{CheckedTree, LocalRowTree}
use Rattle.scalar_operators.specs.Members.{complement_of, offsets_of, span_in, has_offset_of, is_subset}
use Rattle.source_meaning.proofs.Words.{Does, alone, asks, dcl, dcl_any, ends, int_bounds, local_row, number, of, op, own, plain, put, raises, says, set, taken, value_in}

abbrev p : ExprTree
p = value_in (own 0)

abbrev q : ExprTree
q = value_in (own 1)

abbrev eight : ModeTree
eight = powerset_of (range int (pos 1) (pos 8))

abbrev sets : List LocalRowTree
sets = local_row eight 0 1 ∷ local_row eight 1 1 ∷ local_row int 2 1 ∷ []

abbrev x : ExprTree
x = value_in (own 2)

abbrev bounds_of_tuple : List ExprTree → ExprTree
bounds_of_tuple [] = expr 1 None (powerset (record { low = (pos 1); high = (pos 8) }) (range_nodes []))
bounds_of_tuple (e ∷ []) = expr 1 None (powerset (record { low = (pos 1); high = (pos 8) }) (range_nodes (one_value e ∷ [])))
bounds_of_tuple (e ∷ f ∷ []) = expr 1 None (powerset (record { low = (pos 1); high = (pos 8) }) (range_nodes (between e f ∷ [])))
bounds_of_tuple (e ∷ f ∷ g ∷ gs) = expr 1 None (powerset (record { low = (pos 1); high = (pos 8) }) (range_nodes (one_value e ∷ between f g ∷ [])))

-- Bit k tells the member 1 + k: [1, 3 : 5] is 1 + 4 + 8 + 16 = 29, and [5, 8] is 16 + 128 = 144.
-- DCL p POWERSET INT (1:8) := [1, 3 : 5], q .. := [5, 8], x INT; PUT_INT(CARD(p OR q)); and so for AND, XOR, -, NOT p;
-- PUT_INT(MIN(p)); PUT_INT(MAX(q));
abbrev operators_on_powersets : CheckedTree
operators_on_powersets = alone sets (dcl_any 0 (bounds_of_tuple (number (pos 1) ∷ number (pos 3) ∷ number (pos 5) ∷ [])) ∷ dcl_any 1 (expr 1 None (constant (pos 144 ∷ []))) ∷ put (of Cardinality (op Union p q)) ∷ put (of Cardinality (op Intersection p q)) ∷ put (of Cardinality (op SymmetricDifference p q)) ∷ put (of Cardinality (op Difference p q)) ∷ put (of Cardinality (expr 1 None (prefixed (Complement 8) p))) ∷ put (of (Least (pos 1)) p) ∷ put (of (Greatest (pos 1)) q) ∷ [])

operators_on_powersets_do : Does operators_on_powersets (says (pos 5) ∷ says (pos 1) ∷ says (pos 4) ∷ says (pos 3) ∷ says (pos 4) ∷ says (pos 1) ∷ says (pos 8) ∷ ends)
operators_on_powersets_do = refl

-- DCL p .. := [1, 3], q .. := [1, 3, 4]; PUT_INT(NUM(p <= q)); and so for p < q, p >= q, q > p, p < p, 3 IN p, 2 IN p, 9 IN p
abbrev inclusion : CheckedTree
inclusion = alone sets (dcl_any 0 (expr 1 None (constant (pos 5 ∷ []))) ∷ dcl_any 1 (expr 1 None (constant (pos 13 ∷ []))) ∷ put (of Number (op Included p q)) ∷ put (of Number (op ProperlyIncluded p q)) ∷ put (of Number (op Includes p q)) ∷ put (of Number (op ProperlyIncludes q p)) ∷ put (of Number (op ProperlyIncluded p p)) ∷ put (of Number (op (Member (record { low = (pos 1); high = (pos 8) })) (number (pos 3)) p)) ∷ put (of Number (op (Member (record { low = (pos 1); high = (pos 8) })) (number (pos 2)) p)) ∷ put (of Number (op (Member (record { low = (pos 1); high = (pos 8) })) (number (pos 9)) p)) ∷ [])

inclusion_does : Does inclusion (says (pos 1) ∷ says (pos 1) ∷ says (pos 0) ∷ says (pos 1) ∷ says (pos 0) ∷ says (pos 1) ∷ says (pos 0) ∷ says (pos 0) ∷ ends)
inclusion_does = refl

-- DCL p POWERSET INT (1:8); PUT_INT(MIN(p));
abbrev least_of_none : CheckedTree
least_of_none = alone sets (plain (set_lowest (0 ∷ []) (pos 0 ∷ [])) ∷ put (of (Least (pos 1)) p) ∷ [])

least_of_none_does : Does least_of_none (raises Empty)
least_of_none_does = refl

-- DCL p ..; DCL x INT := 9; p := [5 : 3]; PUT_INT(CARD(p)); p := [x];
abbrev members_of_tuples : CheckedTree
members_of_tuples = alone sets (plain (set_lowest (0 ∷ []) (pos 0 ∷ [])) ∷ dcl 2 (number (pos 9)) ∷ plain (assign (own 0) (received (bounds_of_tuple (number (pos 5) ∷ number (pos 3) ∷ [])) None)) ∷ put (of Cardinality p) ∷ plain (assign (own 0) (received (bounds_of_tuple (x ∷ [])) None)) ∷ [])

members_of_tuples_do : Does members_of_tuples (says (pos 0) ∷ raises Rangefail)
members_of_tuples_do = refl

-- STRUCT (a INT, b ARRAY (1:3) INT)
abbrev pair : ModeTree
pair = structure (more_fields [] int None (more_fields [] (array (range int (pos 1) (pos 3)) int words) None no_fields)) false

abbrev rows : List LocalRowTree
rows = local_row pair 0 4 ∷ local_row int 4 1 ∷ []

abbrev i : ExprTree
i = value_in (own 1)

-- s.b(e), and s.a
abbrev b_of : ExprTree → LocationTree
b_of e = location (Local 0) (part_nodes (one_field 1 3 ∷ one_element e (record { low = (pos 1); high = (pos 3) }) 1 ∷ [])) 1

abbrev a_of_s : LocationTree
a_of_s = location (Local 0) (part_nodes (one_field 0 1 ∷ [])) 1

-- DCL s STRUCT (a INT, b ARRAY (1:3) INT) := [1, [i, 3, 4]], with DCL i INT := 2 before it;
-- s.b(i) := 9; s.a +:= s.b(i + 1); PUT_INT(s.a); PUT_INT(s.b(1)); PUT_INT(s.b(2)); PUT_INT(s.b(i + 2));
abbrev parts_of_locations : CheckedTree
parts_of_locations = alone rows (dcl 1 (number (pos 2)) ∷ dcl_any 0 (expr 4 None (parts (received_nodes (taken (number (pos 1)) ∷ received (expr 3 None (parts (received_nodes (taken i ∷ taken (number (pos 3)) ∷ taken (number (pos 4)) ∷ [])))) None ∷ [])))) ∷ plain (set (b_of i) (number (pos 9))) ∷ plain (update a_of_s Add (value_in (b_of (op Add i (number (pos 1))))) (Some int_bounds)) ∷ put (value_in a_of_s) ∷ put (value_in (b_of (number (pos 1)))) ∷ put (value_in (b_of (number (pos 2)))) ∷ put (value_in (b_of (op Add i (number (pos 2))))) ∷ [])

parts_of_locations_do : Does parts_of_locations (says (pos 5) ∷ says (pos 2) ∷ says (pos 9) ∷ raises Rangefail)
parts_of_locations_do = refl

-- SYN k ARRAY (1:3) INT = [8, 5, 6]; DCL v ARRAY (1:3) INT := [(*) : GET_INT()], w .. := v; PUT_INT(v(3)); PUT_INT(NUM(v = w));
-- PUT_INT(k(2));
abbrev three : ModeTree
three = array (range int (pos 1) (pos 3)) int words

abbrev v : LocationTree
v = location (Local 0) no_parts 3

abbrev w : LocationTree
w = location (Local 1) no_parts 3

abbrev uniform_tuples : CheckedTree
uniform_tuples = alone (local_row three 0 3 ∷ local_row three 3 3 ∷ []) (dcl_any 0 (expr 3 None (uniform 3 (taken (expr 1 None get_int)))) ∷ dcl_any 1 (expr 3 None (contents v)) ∷ put (expr 1 None (contents (location (Local 0) (part_nodes (one_element (number (pos 3)) (record { low = (pos 1); high = (pos 3) }) 1 ∷ [])) 1))) ∷ put (of Number (op Equal (expr 3 None (contents v)) (expr 3 None (contents w)))) ∷ put (expr 1 None (part_of (expr 3 None (constant (pos 8 ∷ pos 5 ∷ pos 6 ∷ []))) (part_nodes (one_element (number (pos 2)) (record { low = (pos 1); high = (pos 3) }) 1 ∷ [])))) ∷ [])

uniform_tuples_do : Does uniform_tuples (asks Get (Value (pos 7 ∷ [])) ∷ says (pos 7) ∷ says (pos 1) ∷ says (pos 5) ∷ ends)
uniform_tuples_do = refl

-- Powersets of 40 members have two numbers: 0 and 33 are bit 0 of the first and bit 1 of the second.
spans_over_two_numbers : span_in 2 (pos 31) (pos 33) ≡ (pos 2147483648 ∷ pos 3 ∷ [])
spans_over_two_numbers = refl

offsets_over_two_numbers : offsets_of (pos 1 ∷ pos 2 ∷ []) ≡ (0 ∷ 33 ∷ [])
offsets_over_two_numbers = refl

complements_over_two_numbers : complement_of 40 (pos 0 ∷ pos 2 ∷ []) ≡ (pos 4294967295 ∷ pos 253 ∷ [])
complements_over_two_numbers = refl

members_over_two_numbers : has_offset_of (pos 33) (pos 1 ∷ pos 2 ∷ []) ≡ true
members_over_two_numbers = refl

inclusion_over_two_numbers : is_subset (pos 1 ∷ pos 2 ∷ []) (pos 1 ∷ pos 1 ∷ []) ≡ false
inclusion_over_two_numbers = refl
