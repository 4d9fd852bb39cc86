-- What is told of the numbers of one place.
use Rattle.std.specs.Prelude.{ℕ, Bool, false, not, ◌==◌, List, [], ◌∷◌, ◌++◌, Option, Some, None, ⊤, if◌then◌else◌}
use Rattle.std.specs.List.{list_any}
use Rattle.std.specs.Str.{bytes_eq}
use Rattle.chill_base.specs.declared.pos.Pos.{Pos}
use Rattle.diagnostics.specs.declared.rule.Rule.TheVariants as rules
use Rattle.diagnostics.specs.declared.diagnostic.Diagnostic.{Diagnostic}
use Rattle.diagnostics.specs.Listing.{IsIn, SameMembers}
use Rattle.names_model.specs.declared.definition.Definition.{Definition}
use Rattle.names_model.specs.Definitions.{spelling_at}
use Rattle.names_model.specs.NameRules.{tell, told_number}

-- N1 of the number's name is told at the place; of no number nothing is said
abbrev pub IsTold : List Definition → Pos → List Diagnostic → Option ℕ → Type 0
IsTold all at ds None = ⊤
IsTold all at ds (Some d) = IsIn (tell at rules.N1 (spelling_at all d)) ds

-- a number other than this one is among some
abbrev pub is_another_among : ℕ → List ℕ → Bool
is_another_among d ds = list_any (λ e. not (e == d)) ds

-- the number has the name of the one that was told of last
abbrev pub is_last : List Definition → Option ℕ → ℕ → Bool
is_last all None d = false
is_last all (Some e) d = bytes_eq (spelling_at all e) (spelling_at all d)

-- the number is told of, once for each name, and `next` is told of last
pub record Tells (all : List Definition) (at : Pos) (known : List ℕ) (d : ℕ) (old new : List Diagnostic) (next : Option ℕ) : Type 0 where
  pub last : IsTold all at new next
  pub told : SameMembers new (old ++ told_number all known at d)

-- those of some numbers that don't have the name of the one before them
abbrev pub firsts : List Definition → Option ℕ → List ℕ → List ℕ
firsts all last [] = []
firsts all last (d ∷ ds) = (if is_last all last d then [] else d ∷ []) ++ firsts all (if is_last all last d then last else Some d) ds
