-- What is found of an expression: what is told in it, and what is known of it where nothing is told.
use Rattle.std.specs.Prelude.{◌≡◌, ◌&&◌, Bool, true, false, List, [], ◌++◌, Option, None, if◌then◌else◌}
use Rattle.diagnostics.specs.declared.diagnostic.Diagnostic.{Diagnostic}
use Rattle.modes.specs.ModeTree.{ClassTree}
use Rattle.checks_model.specs.ValueTrees.{ValueTree}
use Rattle.checks_model.specs.Told.{is_none_told, then_told}
use Rattle.constant_operators.specs.declared.known.Known.{Known}
use Rattle.constant_operators.specs.Known.{IsKnown}

-- This is known of an expression that has the form of a constant or hasn't, in which that is told, and which has a class and a
-- value: those are known of a constant in which nothing is told.
pub record IsFound (form : Bool) (inside : List Diagnostic) (c : Option ClassTree) (v : Option ValueTree) (k : Known) : Type 0 where
  pub is_constant : k.is_constant ≡ form
  pub is_clean : k.is_clean ≡ is_none_told inside
  pub known : form ≡ true → is_none_told inside ≡ true → IsKnown c v k

-- that is told behind the old list, and this is known
pub record Finds (form : Bool) (inside : List Diagnostic) (c : Option ClassTree) (v : Option ValueTree) (old new : List Diagnostic) (k : Known) : Type 0 where
  pub told : new ≡ old ++ inside
  pub found : IsFound form inside c v k

-- what isn't constant, in which that is told
abbrev pub Varies : List Diagnostic → List Diagnostic → List Diagnostic → Known → Type 0
Varies inside old new k = Finds false inside None None old new k

-- what is told of a node where nothing is told in it
abbrev pub unless_before : List Diagnostic → List Diagnostic → List Diagnostic
unless_before before own = if is_none_told before then own else []

-- the same of a node of which that is told where nothing was told in it before
pub record FindsAt (form : Bool) (before own : List Diagnostic) (c : Option ClassTree) (v : Option ValueTree) (old new : List Diagnostic) (k : Known) : Type 0 where
  pub told : new ≡ old ++ unless_before before own
  pub found : IsFound form (then_told before own) c v k

-- Of a list told part by part behind the old one: with the rest it is the whole, and nothing is told in the whole where nothing
-- was told so far and nothing is told in the rest.
pub record Passes (rest all old new : List Diagnostic) (is_clean : Bool) : Type 0 where
  pub told : new ++ rest ≡ old ++ all
  pub clean : (is_clean && is_none_told rest) ≡ is_none_told all
