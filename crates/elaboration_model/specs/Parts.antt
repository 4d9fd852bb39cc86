-- What is made of parts that may not be there: it is there where all parts are.
use Rattle.std.specs.Prelude.{Bool, List, [], ◌∷◌, Option, Some, None, if◌then◌else◌, option_map}

abbrev pub made_of : {A B C : Type 0} → (A → B → C) → Option A → Option B → Option C
made_of f (Some a) (Some b) = Some (f a b)
made_of f _ _ = None

abbrev pub made_of_three : {A B C D : Type 0} → (A → B → C → D) → Option A → Option B → Option C → Option D
made_of_three f (Some a) (Some b) (Some c) = Some (f a b c)
made_of_three f _ _ _ = None

-- where the parts allow it
abbrev pub made_if : {A B C : Type 0} → (A → B → Option C) → Option A → Option B → Option C
made_if f (Some a) (Some b) = f a b
made_if f _ _ = None

-- each of a list
abbrev pub made_each : {A B : Type 0} → (A → Option B) → List A → Option (List B)
made_each f [] = Some []
made_each f (x ∷ xs) = made_of (λ y ys. y ∷ ys) (f x) (made_each f xs)

-- what may be written: it is there, too, where nothing is written
abbrev pub made_of_some : {A B : Type 0} → (A → Option B) → Option A → Option (Option B)
made_of_some f None = Some None
made_of_some f (Some x) = option_map Some (f x)

abbrev pub when : {A : Type 0} → Bool → A → Option A
when holds x = if holds then Some x else None
