-- The order of diagnostics.
use Rattle.std.specs.Prelude.{ℕ}
use Rattle.std.specs.Ordering.{nat_cmp, on, then_cmp}
use Rattle.std.specs.Cmp.Lexicographic.{slice_cmp}
use Rattle.std.specs.declared.cmp.Ordering.{Ordering}
use Rattle.diagnostics.specs.declared.diagnostic.Diagnostic.{Diagnostic}
use Rattle.diagnostics.specs.declared.rule.Rule.{Rule}
use Rattle.diagnostics.specs.declared.rule.Rule.TheVariants as rules

-- a rule's place in the table, counted from 0
abbrev pub rule_number : Rule → ℕ
rule_number rules.T1 = 0
rule_number rules.T2 = 1
rule_number rules.N1 = 2
rule_number rules.N2 = 3
rule_number rules.N3 = 4
rule_number rules.N4 = 5
rule_number rules.N5 = 6
rule_number rules.N6 = 7
rule_number rules.M1 = 8
rule_number rules.M2 = 9
rule_number rules.M3 = 10
rule_number rules.M4 = 11
rule_number rules.M5 = 12
rule_number rules.M6 = 13
rule_number rules.M7 = 14
rule_number rules.M8 = 15
rule_number rules.M9 = 16
rule_number rules.M10 = 17
rule_number rules.M11 = 18
rule_number rules.M12 = 19
rule_number rules.M13 = 20
rule_number rules.M14 = 21
rule_number rules.S1 = 22
rule_number rules.S2 = 23
rule_number rules.S3 = 24
rule_number rules.S4 = 25
rule_number rules.S5 = 26
rule_number rules.S6 = 27
rule_number rules.S7 = 28
rule_number rules.S8 = 29
rule_number rules.S9 = 30
rule_number rules.S10 = 31
rule_number rules.S11 = 32
rule_number rules.S12 = 33
rule_number rules.P1 = 34
rule_number rules.P2 = 35
rule_number rules.P3 = 36
rule_number rules.P4 = 37
rule_number rules.P5 = 38
rule_number rules.P6 = 39
rule_number rules.P7 = 40
rule_number rules.P8 = 41
rule_number rules.L1 = 42
rule_number rules.L2 = 43
rule_number rules.L3 = 44
rule_number rules.L4 = 45
rule_number rules.L5 = 46
rule_number rules.L6 = 47
rule_number rules.L7 = 48
rule_number rules.L8 = 49
rule_number rules.B1 = 50

-- by line, by column, by rule in the order of the table, then by the first and the second name, byte by byte
abbrev pub diagnostic_cmp : Diagnostic → Diagnostic → Ordering
diagnostic_cmp =
    then_cmp (on (λ d. d.at.line) nat_cmp)
    (then_cmp (on (λ d. d.at.column) nat_cmp)
    (then_cmp (on (λ d. rule_number d.rule) nat_cmp)
    (then_cmp (on (λ d. d.first) (slice_cmp nat_cmp))
    (on (λ d. d.second) (slice_cmp nat_cmp)))))
