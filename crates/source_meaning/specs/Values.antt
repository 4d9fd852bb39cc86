-- Which lists of numbers are the scalars of a value of a mode.
use Rattle.std.specs.Prelude.{ℕ, zero, suc, ◌+◌, List, [], ◌∷◌, ◌++◌, ℤ, pos, ◌≤ℤ◌, replicate, Option, Some, None}
use Rattle.modes.specs.declared.mode.Bounds.{Bounds}
use Rattle.modes.specs.ModeTree.{ModeTree, int, boolean, char, instance, set_of, range, powerset, chars, array, structure, event, buffer, read, named, FieldNodes, no_fields, more_fields}
use Rattle.modes.specs.Bounds.{bounds_of, values_of}
use Rattle.modes.specs.Scalars.{repeated, numbers_of}
use Rattle.kernel_base.specs.Facts.{TellsMembers}
use Rattle.scalar_operators.specs.Powersets.{members_each}

-- The domain of a scalar, which numbers it may be: those within bounds, an instance, or the members of a powerset of so many
-- from an offset on.
pub data Domain : Type 0 where
  within : Bounds → Domain
  any_instance : Domain
  members_from : ℕ → ℕ → Domain

abbrev pub domain_in : Option Bounds → Domain
domain_in None = any_instance
domain_in (Some b) = within b

-- the numbers of a powerset of so many members, from an offset on
abbrev pub member_domains : ℕ → ℕ → ℕ → List Domain
member_domains size first zero = []
member_domains size first (suc n) = members_from size first ∷ member_domains size (first + members_each) n

-- what each scalar of a mode may be
abbrev mutual
  pub domains_of : ModeTree → List Domain
  domains_of int = domain_in (bounds_of int) ∷ []
  domains_of boolean = domain_in (bounds_of boolean) ∷ []
  domains_of char = domain_in (bounds_of char) ∷ []
  domains_of instance = any_instance ∷ []
  domains_of (set_of d n) = domain_in (bounds_of (set_of d n)) ∷ []
  domains_of (range p l h) = domain_in (bounds_of (range p l h)) ∷ []
  domains_of (powerset m) = member_domains (values_of m) 0 (numbers_of (values_of m))
  domains_of (chars n) = replicate n (domain_in (bounds_of char))
  domains_of (array i e how) = repeated (values_of i) (domains_of e)
  domains_of (structure fs p) = domains_of_fields fs
  domains_of (event l) = []
  domains_of (buffer l e) = []
  domains_of (read m) = domains_of m
  domains_of (named d n m) = domains_of m

  pub domains_of_fields : FieldNodes → List Domain
  domains_of_fields no_fields = []
  domains_of_fields (more_fields name m at fs) = domains_of m ++ domains_of_fields fs

abbrev pub IsWithin : Domain → ℤ → Type 0
IsWithin (within b) z = (b.low ≤ℤ z) × (z ≤ℤ b.high)
IsWithin any_instance z = (pos 0 ≤ℤ z) × (z ≤ℤ pos 4294967295)
IsWithin (members_from size first) z = TellsMembers size first z

-- each number is one that its scalar may be, and there are as many
abbrev pub AreWithin : List Domain → List ℤ → Type 0
AreWithin [] [] = Unit {0}
AreWithin [] (z ∷ zs) = ⊥
AreWithin (p ∷ ps) [] = ⊥
AreWithin (p ∷ ps) (z ∷ zs) = IsWithin p z × AreWithin ps zs

-- the scalars are those of a value of the mode
abbrev pub IsValueOf : ModeTree → List ℤ → Type 0
IsValueOf m zs = AreWithin (domains_of m) zs
