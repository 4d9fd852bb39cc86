-- The names and the texts of the rules, for all that print or sort diagnostics.
use Rattle.std.specs.Prelude.{ℕ, ◌==◌, ◌&&◌, List, ◌∷◌, ◌++◌, if◌then◌else◌, codes}
use Rattle.diagnostics.specs.declared.rule.Rule.{Rule}
use Rattle.diagnostics.specs.declared.rule.Rule.TheVariants as rules

-- each rule's name, and its text, in which {1} and {2} stand for the names that a diagnostic gives
abbrev pub row_of : Rule → List ℕ × List ℕ
row_of rules.T1 = (codes "T1", codes "no token")
row_of rules.T2 = (codes "T2", codes "no program")
row_of rules.N1 = (codes "N1", codes "name {1} is defined twice")
row_of rules.N2 = (codes "N2", codes "name {1} is not seen here")
row_of rules.N3 = (codes "N3", codes "name {1} cannot be passed")
row_of rules.N4 = (codes "N4", codes "label {1} does not enclose")
row_of rules.N5 = (codes "N5", codes "name {1} is of the wrong kind")
row_of rules.N6 = (codes "N6", codes "name {1} depends on itself")
row_of rules.M1 = (codes "M1", codes "constant needed")
row_of rules.M2 = (codes "M2", codes "bounds in the wrong order")
row_of rules.M3 = (codes "M3", codes "bound outside its mode")
row_of rules.M4 = (codes "M4", codes "discrete mode needed")
row_of rules.M5 = (codes "M5", codes "powerset too large")
row_of rules.M6 = (codes "M6", codes "length out of limits")
row_of rules.M7 = (codes "M7", codes "field {1} is defined twice")
row_of rules.M8 = (codes "M8", codes "event or buffer mode not allowed here")
row_of rules.M9 = (codes "M9", codes "read-only location {1} without value")
row_of rules.M10 = (codes "M10", codes "constant operands do not fit")
row_of rules.M11 = (codes "M11", codes "constant out of range")
row_of rules.M12 = (codes "M12", codes "synonym value outside its mode")
row_of rules.M13 = (codes "M13", codes "fields {1} and {2} overlap")
row_of rules.M14 = (codes "M14", codes "field {1} has an impossible place")
row_of rules.S1 = (codes "S1", codes "operands do not fit")
row_of rules.S2 = (codes "S2", codes "value does not go with the mode")
row_of rules.S3 = (codes "S3", codes "not a location that can be written")
row_of rules.S4 = (codes "S4", codes "condition is not Boolean")
row_of rules.S5 = (codes "S5", codes "wrong number of parts")
row_of rules.S6 = (codes "S6", codes "argument does not fit its parameter")
row_of rules.S7 = (codes "S7", codes "case label does not fit")
row_of rules.S8 = (codes "S8", codes "loop bounds do not fit")
row_of rules.S9 = (codes "S9", codes "RETURN or RESULT not allowed here")
row_of rules.S10 = (codes "S10", codes "call gives no value")
row_of rules.S11 = (codes "S11", codes "tuple does not fit its mode")
row_of rules.S12 = (codes "S12", codes "exception {1} is listed twice")
row_of rules.P1 = (codes "P1", codes "process {1} is not directly in a module")
row_of rules.P2 = (codes "P2", codes "not allowed in a region")
row_of rules.P3 = (codes "P3", codes "name {1} does not fit this action")
row_of rules.P4 = (codes "P4", codes "region location {1} is granted")
row_of rules.P5 = (codes "P5", codes "name {1} is listed twice or mixed")
row_of rules.P6 = (codes "P6", codes "priority out of limits")
row_of rules.P7 = (codes "P7", codes "SET needs an INSTANCE location")
row_of rules.P8 = (codes "P8", codes "event or buffer {1} is local")
row_of rules.L1 = (codes "L1", codes "text longer than 262144 bytes")
row_of rules.L2 = (codes "L2", codes "nesting deeper than 64")
row_of rules.L3 = (codes "L3", codes "more than 4096 definitions")
row_of rules.L4 = (codes "L4", codes "too many local scalars")
row_of rules.L5 = (codes "L5", codes "mode of more than 4096 scalars")
row_of rules.L6 = (codes "L6", codes "value of more than 256 scalars")
row_of rules.L7 = (codes "L7", codes "too many shared scalars")
row_of rules.L8 = (codes "L8", codes "program too large")
row_of rules.B1 = (codes "B1", codes "not built yet")

-- the rule's name
abbrev pub name_of : Rule → List ℕ
name_of rule = (row_of rule).0

-- the rule's text
abbrev pub text_of : Rule → List ℕ
text_of rule = (row_of rule).1

-- a rule's text with the names in the places of {1} and {2}
abbrev pub filled : List ℕ → List ℕ → List ℕ → List ℕ
filled first second (a ∷ b ∷ c ∷ bytes) =
    if a == 123 && b == 49 && c == 125 then first ++ filled first second bytes
    else (if a == 123 && b == 50 && c == 125 then second ++ filled first second bytes
    else a ∷ filled first second (b ∷ c ∷ bytes))
filled first second bytes = bytes
