-- One rule behind what is told first: what is told, and what is there, by what the code has found.
use Rattle.std.proofs.Common.{◌≡◌, List, [], ◌∷◌, ◌++◌, refl, ap, sym, ◌∙◌, append_assoc}
use Rattle.std.specs.Prelude.{Bool, true, false, Option, None}
use Rattle.diagnostics.specs.declared.diagnostic.Diagnostic.{Diagnostic}
use Rattle.checks_model.specs.Told.{is_none_told, then_told, told_if, holds_of}
use Rattle.checks_model.specs.WrittenModes.{unless_told}
use Rattle.written_modes.proofs.Gates.{told-broken}

-- something is told first
pub first_told : (old new ts : List Diagnostic) (b : Bool) (d : Diagnostic) → is_none_told ts ≡ false → new ≡ old ++ ts → new ≡ old ++ then_told ts (told_if b d)
first_told old new ts b d h n = n ∙ ap (λ t. old ++ t) (sym (told-broken ts (told_if b d) h))

-- the rule is broken
pub rule_told : (old new last ts : List Diagnostic) (b : Bool) (d : Diagnostic) → is_none_told ts ≡ true → b ≡ true → new ≡ old ++ ts → last ≡ new ++ d ∷ [] → last ≡ old ++ then_told ts (told_if b d)
rule_told old new last [] b d h e n l = l ∙ ap (λ t. t ++ d ∷ []) n ∙ append_assoc old [] (d ∷ []) ∙ ap (λ b. old ++ told_if b d) (sym e)
rule_told old new last (t ∷ ts) b d h e n l = absurd (cc)

-- nothing is told
pub none_told_behind : (old new ts : List Diagnostic) (b : Bool) (d : Diagnostic) → is_none_told ts ≡ true → b ≡ false → new ≡ old ++ ts → new ≡ old ++ then_told ts (told_if b d)
none_told_behind old new [] b d h e n = n ∙ ap (λ b. old ++ told_if b d) (sym e)
none_told_behind old new (t ∷ ts) b d h e n = absurd (cc)

pub first_kept : {A : Type 0} (ts ls : List Diagnostic) (x : Option A) → is_none_told ts ≡ false → None ≡ unless_told (then_told ts ls) x
first_kept [] ls x h = absurd (cc)
first_kept (t ∷ ts) ls x h = refl

pub rule_kept : {A : Type 0} (ts : List Diagnostic) (b : Bool) (d : Diagnostic) (x : Option A) → b ≡ true → None ≡ unless_told (then_told ts (told_if b d)) x
rule_kept [] b d x e = ap (λ b. unless_told (told_if b d) x) (sym e)
rule_kept (t ∷ ts) b d x e = refl

pub none_kept : {A : Type 0} (ts : List Diagnostic) (b : Bool) (d : Diagnostic) (x : Option A) → is_none_told ts ≡ true → b ≡ false → x ≡ unless_told (then_told ts (told_if b d)) x
none_kept [] b d x h e = ap (λ b. unless_told (told_if b d) x) (sym e)
none_kept (t ∷ ts) b d x h e = absurd (cc)

-- what is told behind where nothing is told first
pub told_behind : (old new last ts ls : List Diagnostic) → is_none_told ts ≡ true → new ≡ old ++ ts → last ≡ new ++ ls → last ≡ old ++ then_told ts ls
told_behind old new last [] ls h n l = l ∙ ap (λ t. t ++ ls) n ∙ append_assoc old [] ls
told_behind old new last (t ∷ ts) ls h n l = absurd (cc)

-- ---- a rule of what is there where nothing is told first

pub held_told : {A : Type 0} (ts : List Diagnostic) (o : Option A) (test : A → Bool) (d : Diagnostic) → ts ++ told_if (holds_of test (unless_told ts o)) d ≡ then_told ts (told_if (holds_of test o) d)
held_told [] o test d = refl
held_told (t ∷ ts) o test d = refl

pub held_kept : {A : Type 0} (ts : List Diagnostic) (o : Option A) (test : A → Bool) (d : Diagnostic) → unless_told (told_if (holds_of test (unless_told ts o)) d) (unless_told ts o) ≡ unless_told (then_told ts (told_if (holds_of test o) d)) o
held_kept [] o test d = refl
held_kept (t ∷ ts) o test d = refl

-- the same by what the code has found
pub told_of_held : {A : Type 0} (old new last ts : List Diagnostic) (x o : Option A) (test : A → Bool) (d : Diagnostic) → new ≡ old ++ ts → x ≡ unless_told ts o → last ≡ new ++ told_if (holds_of test x) d → last ≡ old ++ then_told ts (told_if (holds_of test o) d)
told_of_held old new last ts x o test d n is l =
    l ∙ ap (λ t. t ++ told_if (holds_of test x) d) n
    ∙ ap (λ x. (old ++ ts) ++ told_if (holds_of test x) d) is
    ∙ append_assoc old ts (told_if (holds_of test (unless_told ts o)) d)
    ∙ ap (λ t. old ++ t) (held_told ts o test d)

pub kept_of_held : {A : Type 0} (ts : List Diagnostic) (x m o : Option A) (test : A → Bool) (d : Diagnostic) → x ≡ unless_told ts o → m ≡ unless_told (told_if (holds_of test x) d) x → m ≡ unless_told (then_told ts (told_if (holds_of test o) d)) o
kept_of_held ts x m o test d is k = k ∙ ap (λ x. unless_told (told_if (holds_of test x) d) x) is ∙ held_kept ts o test d

pub kept_twice : {A : Type 0} (ts : List Diagnostic) (x : Option A) → unless_told ts x ≡ unless_told ts (unless_told ts x)
kept_twice [] x = refl
kept_twice (t ∷ ts) x = refl
