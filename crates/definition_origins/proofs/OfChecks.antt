-- What is told is of the rules of the checks.
use Rattle.std.specs.Prelude.{OnErr, OnOk}
use Rattle.std.proofs.Common.{◌≡◌, ◌⊎◌, inl, inr, Result, Ok, Err, IsTrue, List, [], ◌∷◌, ◌++◌, refl}
use Rattle.chill_base.specs.declared.memory.Memory.{Memory}
use Rattle.diagnostics.specs.Listing.{IsIn, SameMembers}
use Rattle.diagnostics.specs.declared.diagnostic.Diagnostic.{Diagnostic}
use Rattle.definition_origins.specs.CheckRules.{AreOfChecks, is_of_checks, rule_of}
use Rattle.definition_origins.specs.declared.check_rule.CheckRule.{CheckRule}
use Rattle.definition_origins.specs.declared.check_rule.CheckRule.TheVariants as checks

pub rule_is_of_checks : (rule : CheckRule) → IsTrue (is_of_checks (rule_of rule))
rule_is_of_checks checks.M1 = refl
rule_is_of_checks checks.M2 = refl
rule_is_of_checks checks.M3 = refl
rule_is_of_checks checks.M4 = refl
rule_is_of_checks checks.M5 = refl
rule_is_of_checks checks.M6 = refl
rule_is_of_checks checks.M7 = refl
rule_is_of_checks checks.M8 = refl
rule_is_of_checks checks.M9 = refl
rule_is_of_checks checks.M10 = refl
rule_is_of_checks checks.M11 = refl
rule_is_of_checks checks.M12 = refl
rule_is_of_checks checks.M13 = refl
rule_is_of_checks checks.M14 = refl
rule_is_of_checks checks.S1 = refl
rule_is_of_checks checks.S2 = refl
rule_is_of_checks checks.S3 = refl
rule_is_of_checks checks.S4 = refl
rule_is_of_checks checks.S5 = refl
rule_is_of_checks checks.S6 = refl
rule_is_of_checks checks.S7 = refl
rule_is_of_checks checks.S8 = refl
rule_is_of_checks checks.S9 = refl
rule_is_of_checks checks.S10 = refl
rule_is_of_checks checks.S11 = refl
rule_is_of_checks checks.S12 = refl
rule_is_of_checks checks.P1 = refl
rule_is_of_checks checks.P2 = refl
rule_is_of_checks checks.P3 = refl
rule_is_of_checks checks.P4 = refl
rule_is_of_checks checks.P5 = refl
rule_is_of_checks checks.P6 = refl
rule_is_of_checks checks.P7 = refl
rule_is_of_checks checks.P8 = refl
rule_is_of_checks checks.L4 = refl
rule_is_of_checks checks.L5 = refl
rule_is_of_checks checks.L6 = refl
rule_is_of_checks checks.L7 = refl

pub none_of_checks : AreOfChecks []
none_of_checks d there = absurd there

pub one_more_of_checks : (told : List Diagnostic) (next : Diagnostic) → AreOfChecks told → IsTrue (is_of_checks next.rule) → AreOfChecks (told ++ next ∷ [])
one_more_of_checks [] next all own d (inl is) = rw is own
one_more_of_checks [] next all own d (inr there) = absurd there
one_more_of_checks (first ∷ rest) next all own d (inl is) = all d (inl is)
one_more_of_checks (first ∷ rest) next all own d (inr there) = one_more_of_checks rest next (λ x of_rest. all x (inr of_rest)) own d there

pub same_members_of_checks : (told list : List Diagnostic) → SameMembers told list → AreOfChecks told → AreOfChecks list
same_members_of_checks told list members all d there = all d (members.back d there)

pub pushed_of_checks : (result : Result (Unit {0}) Memory) (old new : List Diagnostic) (next : Diagnostic) → OnOk result (new ≡ old ++ next ∷ []) → OnErr result (new ≡ old) → IsTrue (is_of_checks next.rule) → AreOfChecks old → AreOfChecks new
pushed_of_checks (Ok done) old new next ok err own all = rw ok (one_more_of_checks old next all own)
pushed_of_checks (Err memory) old new next ok err own all = rw err all
