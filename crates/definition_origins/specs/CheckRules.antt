-- The rules that the checks tell of.
use Rattle.std.specs.Prelude.{Bool, true, false, List, IsTrue}
use Rattle.diagnostics.specs.Listing.{IsIn}
use Rattle.diagnostics.specs.declared.diagnostic.Diagnostic.{Diagnostic}
use Rattle.diagnostics.specs.declared.rule.Rule.{Rule}
use Rattle.diagnostics.specs.declared.rule.Rule.TheVariants as rules
use Rattle.definition_origins.specs.declared.check_rule.CheckRule.{CheckRule}
use Rattle.definition_origins.specs.declared.check_rule.CheckRule.TheVariants as checks

-- the same rule among all rules
abbrev pub rule_of : CheckRule → Rule
rule_of checks.M1 = rules.M1
rule_of checks.M2 = rules.M2
rule_of checks.M3 = rules.M3
rule_of checks.M4 = rules.M4
rule_of checks.M5 = rules.M5
rule_of checks.M6 = rules.M6
rule_of checks.M7 = rules.M7
rule_of checks.M8 = rules.M8
rule_of checks.M9 = rules.M9
rule_of checks.M10 = rules.M10
rule_of checks.M11 = rules.M11
rule_of checks.M12 = rules.M12
rule_of checks.M13 = rules.M13
rule_of checks.M14 = rules.M14
rule_of checks.S1 = rules.S1
rule_of checks.S2 = rules.S2
rule_of checks.S3 = rules.S3
rule_of checks.S4 = rules.S4
rule_of checks.S5 = rules.S5
rule_of checks.S6 = rules.S6
rule_of checks.S7 = rules.S7
rule_of checks.S8 = rules.S8
rule_of checks.S9 = rules.S9
rule_of checks.S10 = rules.S10
rule_of checks.S11 = rules.S11
rule_of checks.S12 = rules.S12
rule_of checks.P1 = rules.P1
rule_of checks.P2 = rules.P2
rule_of checks.P3 = rules.P3
rule_of checks.P4 = rules.P4
rule_of checks.P5 = rules.P5
rule_of checks.P6 = rules.P6
rule_of checks.P7 = rules.P7
rule_of checks.P8 = rules.P8
rule_of checks.L4 = rules.L4
rule_of checks.L5 = rules.L5
rule_of checks.L6 = rules.L6
rule_of checks.L7 = rules.L7

-- whether the checks tell of a rule: not of tokens, grammar, names, depth, definitions or size, nor that nothing is built
abbrev pub is_of_checks : Rule → Bool
is_of_checks rules.T1 = false
is_of_checks rules.T2 = false
is_of_checks rules.N1 = false
is_of_checks rules.N2 = false
is_of_checks rules.N3 = false
is_of_checks rules.N4 = false
is_of_checks rules.N5 = false
is_of_checks rules.N6 = false
is_of_checks rules.M1 = true
is_of_checks rules.M2 = true
is_of_checks rules.M3 = true
is_of_checks rules.M4 = true
is_of_checks rules.M5 = true
is_of_checks rules.M6 = true
is_of_checks rules.M7 = true
is_of_checks rules.M8 = true
is_of_checks rules.M9 = true
is_of_checks rules.M10 = true
is_of_checks rules.M11 = true
is_of_checks rules.M12 = true
is_of_checks rules.M13 = true
is_of_checks rules.M14 = true
is_of_checks rules.S1 = true
is_of_checks rules.S2 = true
is_of_checks rules.S3 = true
is_of_checks rules.S4 = true
is_of_checks rules.S5 = true
is_of_checks rules.S6 = true
is_of_checks rules.S7 = true
is_of_checks rules.S8 = true
is_of_checks rules.S9 = true
is_of_checks rules.S10 = true
is_of_checks rules.S11 = true
is_of_checks rules.S12 = true
is_of_checks rules.P1 = true
is_of_checks rules.P2 = true
is_of_checks rules.P3 = true
is_of_checks rules.P4 = true
is_of_checks rules.P5 = true
is_of_checks rules.P6 = true
is_of_checks rules.P7 = true
is_of_checks rules.P8 = true
is_of_checks rules.L1 = false
is_of_checks rules.L2 = false
is_of_checks rules.L3 = false
is_of_checks rules.L4 = true
is_of_checks rules.L5 = true
is_of_checks rules.L6 = true
is_of_checks rules.L7 = true
is_of_checks rules.L8 = false
is_of_checks rules.B1 = false

-- each diagnostic is of a rule of the checks
abbrev pub AreOfChecks : List Diagnostic → Type 0
AreOfChecks told = (d : Diagnostic) → IsIn d told → IsTrue (is_of_checks d.rule)
