-- Where nothing is told.
use Rattle.std.proofs.Common.{◌≡◌, List, [], ◌∷◌, ◌++◌, refl}
use Rattle.std.specs.Prelude.{Bool, true, false, ◌||◌, Option, Some}
use Rattle.diagnostics.specs.declared.diagnostic.Diagnostic.{Diagnostic}
use Rattle.checks_model.specs.Told.{is_none_told, then_told, told_if}
use Rattle.checks_model.specs.WrittenModes.{unless_told}

pub kept_some : {A : Type 0} (ts : List Diagnostic) (x : Option A) (y : A) → unless_told ts x ≡ Some y → (is_none_told ts ≡ true) × (x ≡ Some y)
kept_some [] x y h = (refl, h)
kept_some (t ∷ ts) x y h = absurd (cc)

pub then_none : (ts ls : List Diagnostic) → is_none_told (then_told ts ls) ≡ true → (is_none_told ts ≡ true) × (is_none_told ls ≡ true)
then_none [] ls h = (refl, h)
then_none (t ∷ ts) ls h = absurd (cc)

pub append_none : (ts ls : List Diagnostic) → is_none_told (ts ++ ls) ≡ true → (is_none_told ts ≡ true) × (is_none_told ls ≡ true)
append_none [] ls h = (refl, h)
append_none (t ∷ ts) ls h = absurd (cc)

pub if_none : (b : Bool) (d : Diagnostic) → is_none_told (told_if b d) ≡ true → b ≡ false
if_none true d h = cc
if_none false d h = refl

pub or_none : (a b : Bool) → (a || b) ≡ false → (a ≡ false) × (b ≡ false)
or_none true b h = absurd (cc)
or_none false b h = (refl, h)
