-- The order of diagnostics is total, and tells diagnostics apart.
use Rattle.std.specs.Cmp.{IsTotalOrder}
use Rattle.std.specs.Cmp.Lexicographic.{slice_cmp}
use Rattle.std.specs.Ordering.{nat_cmp, ordering_then}
use Rattle.std.specs.declared.cmp.Ordering.{Ordering}
use Rattle.std.specs.declared.cmp.Ordering.TheVariants.{Less, Equal, Greater}
use Rattle.std.proofs.Common.{◌≡◌, ℕ, List, [], ◌∷◌, get_or, refl, sym, ap, ◌∙◌}
use Rattle.std.proofs.lemmas.Cmp.{nat_cmp_total, nat_list_cmp_total, on_total, then_total}
use Rattle.std.proofs.lemmas.Map.Lookups.{exact_unsigned, exact_bytes}
use Rattle.diagnostics.specs.declared.diagnostic.Diagnostic.{Diagnostic}
use Rattle.diagnostics.specs.declared.rule.Rule.{Rule}
use Rattle.diagnostics.specs.declared.rule.Rule.TheVariants as rules
use Rattle.diagnostics.specs.Listing.{TellsApart}
use Rattle.diagnostics.specs.Order.{diagnostic_cmp, rule_number}

pub diagnostic_total : IsTotalOrder diagnostic_cmp
diagnostic_total =
    then_total (on_total (λ d. d.at.line) nat_cmp_total)
    (then_total (on_total (λ d. d.at.column) nat_cmp_total)
    (then_total (on_total (λ d. rule_number d.rule) nat_cmp_total)
    (then_total (on_total (λ d. d.first) nat_list_cmp_total)
    (on_total (λ d. d.second) nat_list_cmp_total))))

both_equal : (a b : Ordering) → ordering_then a b ≡ Equal → (a ≡ Equal) × (b ≡ Equal)
both_equal Equal b h = (refl, h)
both_equal Less b h = absurd cc
both_equal Greater b h = absurd cc

-- the rules in the order of the table
abbrev table : List Rule
table =
    rules.T1 ∷ rules.T2 ∷
    rules.N1 ∷ rules.N2 ∷ rules.N3 ∷ rules.N4 ∷ rules.N5 ∷ rules.N6 ∷
    rules.M1 ∷ rules.M2 ∷ rules.M3 ∷ rules.M4 ∷ rules.M5 ∷ rules.M6 ∷ rules.M7 ∷ rules.M8 ∷ rules.M9 ∷ rules.M10 ∷ rules.M11 ∷ rules.M12 ∷ rules.M13 ∷ rules.M14 ∷
    rules.S1 ∷ rules.S2 ∷ rules.S3 ∷ rules.S4 ∷ rules.S5 ∷ rules.S6 ∷ rules.S7 ∷ rules.S8 ∷ rules.S9 ∷ rules.S10 ∷ rules.S11 ∷ rules.S12 ∷
    rules.P1 ∷ rules.P2 ∷ rules.P3 ∷ rules.P4 ∷ rules.P5 ∷ rules.P6 ∷ rules.P7 ∷ rules.P8 ∷
    rules.L1 ∷ rules.L2 ∷ rules.L3 ∷ rules.L4 ∷ rules.L5 ∷ rules.L6 ∷ rules.L7 ∷ rules.L8 ∷
    rules.B1 ∷ []

-- the rule at a place of the table
abbrev rule_at : ℕ → Rule
rule_at n = get_or table n rules.T1

rule_back : (r : Rule) → rule_at (rule_number r) ≡ r
rule_back rules.T1 = refl
rule_back rules.T2 = refl
rule_back rules.N1 = refl
rule_back rules.N2 = refl
rule_back rules.N3 = refl
rule_back rules.N4 = refl
rule_back rules.N5 = refl
rule_back rules.N6 = refl
rule_back rules.M1 = refl
rule_back rules.M2 = refl
rule_back rules.M3 = refl
rule_back rules.M4 = refl
rule_back rules.M5 = refl
rule_back rules.M6 = refl
rule_back rules.M7 = refl
rule_back rules.M8 = refl
rule_back rules.M9 = refl
rule_back rules.M10 = refl
rule_back rules.M11 = refl
rule_back rules.M12 = refl
rule_back rules.M13 = refl
rule_back rules.M14 = refl
rule_back rules.S1 = refl
rule_back rules.S2 = refl
rule_back rules.S3 = refl
rule_back rules.S4 = refl
rule_back rules.S5 = refl
rule_back rules.S6 = refl
rule_back rules.S7 = refl
rule_back rules.S8 = refl
rule_back rules.S9 = refl
rule_back rules.S10 = refl
rule_back rules.S11 = refl
rule_back rules.S12 = refl
rule_back rules.P1 = refl
rule_back rules.P2 = refl
rule_back rules.P3 = refl
rule_back rules.P4 = refl
rule_back rules.P5 = refl
rule_back rules.P6 = refl
rule_back rules.P7 = refl
rule_back rules.P8 = refl
rule_back rules.L1 = refl
rule_back rules.L2 = refl
rule_back rules.L3 = refl
rule_back rules.L4 = refl
rule_back rules.L5 = refl
rule_back rules.L6 = refl
rule_back rules.L7 = refl
rule_back rules.L8 = refl
rule_back rules.B1 = refl

same_rule : (a b : Rule) → rule_number a ≡ rule_number b → a ≡ b
same_rule a b h = sym (rule_back a) ∙ ap rule_at h ∙ rule_back b

of_parts : (x y : Diagnostic) → x.at.line ≡ y.at.line → x.at.column ≡ y.at.column → x.rule ≡ y.rule → x.first ≡ y.first → x.second ≡ y.second → x ≡ y
of_parts x y l c r f s = λ i. record { at = record { line = l i; column = c i }; rule = r i; first = f i; second = s i }

pub told_apart : TellsApart diagnostic_cmp
told_apart x y h =
    let seconds = slice_cmp nat_cmp x.second y.second in
    let firsts = slice_cmp nat_cmp x.first y.first in
    let numbers = nat_cmp (rule_number x.rule) (rule_number y.rule) in
    let columns = nat_cmp x.at.column y.at.column in
    let a = both_equal (nat_cmp x.at.line y.at.line) (ordering_then columns (ordering_then numbers (ordering_then firsts seconds))) h in
    let b = both_equal columns (ordering_then numbers (ordering_then firsts seconds)) a.1 in
    let d = both_equal numbers (ordering_then firsts seconds) b.1 in
    let e = both_equal firsts seconds d.1 in
    of_parts x y (exact_unsigned _ _ a.0) (exact_unsigned _ _ b.0) (same_rule x.rule y.rule (exact_unsigned _ _ d.0)) (exact_bytes _ _ e.0) (exact_bytes _ _ e.1)
