-- Rows that are made one by one, and what is so of each.
use Rattle.std.proofs.Common.{◌≡◌, ℕ, zero, suc, ◌+◌, Bool, true, false, List, [], ◌∷◌, Option, Some, None, arith, refl, ap, ◌∙◌, subst}
use Rattle.std.specs.Prelude.{All, slice_get, if◌then◌else◌}
use Rattle.std.proofs.lemmas.List.Elements.{All-nil, All-cons}
use Rattle.modes.specs.ModeTree.{ModeTree}
use Rattle.modes.specs.Language.{IsOfLanguage}
use Rattle.modes.specs.Scalars.{scalars_of}
use Rattle.program_trees.specs.ProgramTree.{LocalRowTree}
use Rattle.checks_model.specs.Limits.{scalars_in_mode}
use Rattle.written_laws.specs.Written.{Each}
use Rattle.elaborated_laws.proofs.Told.{no_some, same_some, there_mapped}
use Rattle.elaboration_model.specs.Parts.{made_of, made_of_three}
use Rattle.elaboration_model.specs.Numbering.{Row}
use Rattle.elaboration_model.specs.Elaborated.{rows_made, local_row, local_rows}
use Rattle.source_meaning.specs.Typed.{AreLaidFrom}

-- ---- what is made of parts

pub record MadeOf {A B C : Type 0} (f : A → B → C) (a : Option A) (b : Option B) (y : C) : Type 0 where
  pub first : A
  pub later : B
  pub of_first : a ≡ Some first
  pub of_later : b ≡ Some later
  pub whole : f first later ≡ y

pub made_parts : {A B C : Type 0} (f : A → B → C) (a : Option A) (b : Option B) (y : C) → made_of f a b ≡ Some y → MadeOf f a b y
made_parts f (Some a) (Some b) y is = record { first = a; later = b; of_first = refl; of_later = refl; whole = same_some (f a b) y is }
made_parts f (Some a) None y is = no_some y is
made_parts f None (Some b) y is = no_some y is
made_parts f None None y is = no_some y is

pub record MadeOfThree {A B C D : Type 0} (f : A → B → C → D) (a : Option A) (b : Option B) (c : Option C) (y : D) : Type 0 where
  pub first : A
  pub middle : B
  pub later : C
  pub of_first : a ≡ Some first
  pub of_middle : b ≡ Some middle
  pub of_later : c ≡ Some later
  pub whole : f first middle later ≡ y

pub three_parts : {A B C D : Type 0} (f : A → B → C → D) (a : Option A) (b : Option B) (c : Option C) (y : D) → made_of_three f a b c ≡ Some y → MadeOfThree f a b c y
three_parts f (Some a) (Some b) (Some c) y is = record { first = a; middle = b; later = c; of_first = refl; of_middle = refl; of_later = refl; whole = same_some (f a b c) y is }
three_parts f (Some a) (Some b) None y is = no_some y is
three_parts f (Some a) None (Some c) y is = no_some y is
three_parts f (Some a) None None y is = no_some y is
three_parts f None (Some b) (Some c) y is = no_some y is
three_parts f None (Some b) None y is = no_some y is
three_parts f None None (Some c) y is = no_some y is
three_parts f None None None y is = no_some y is

-- ---- lists of rows

pub all_of_each : {A : Type 0} (P : A → Type 0) (xs : List A) → Each P xs → All P xs
all_of_each P [] each = All-nil P
all_of_each P (x ∷ xs) each = All-cons P x xs each.0 (all_of_each P xs each.1)

module _ {A : Type 0} (P : A → Type 0) (f : ℕ → Row → Option A) (test : Row → Bool) where
  -- it is so of what is made of each row that passes
  abbrev OfRows : ℕ → List Row → Type 0
  OfRows d rs = (k e : ℕ) (r : Row) (x : A) → slice_get rs k ≡ Some r → test r ≡ true → e ≡ d + k → f e r ≡ Some x → P x

  next : (d : ℕ) (q : Row) (rs : List Row) → OfRows d (q ∷ rs) → OfRows (suc d) rs
  next d q rs so k e r x at passes same made = so (suc k) e r x at passes (omega (arith, same)) made

  each_by : (d : ℕ) (q : Row) (rs : List Row) (xs : List A) (b : Bool) → test q ≡ b → (if b then made_of (λ x xs. x ∷ xs) (f d q) (rows_made f test (suc d) rs) else rows_made f test (suc d) rs) ≡ Some xs
      → OfRows d (q ∷ rs) → ((ys : List A) → rows_made f test (suc d) rs ≡ Some ys → Each P ys) → Each P xs
  each_by d q rs xs true is made so rest =
      let m = made_parts (λ x xs. x ∷ xs) (f d q) (rows_made f test (suc d) rs) xs made in
      subst (λ ys. Each P ys) m.whole (so zero d q m.first refl is (omega arith) m.of_first, rest m.later m.of_later)
  each_by d q rs xs false is made so rest = rest xs made

  each_from : (d : ℕ) (rs : List Row) (xs : List A) → rows_made f test d rs ≡ Some xs → OfRows d rs → Each P xs
  each_from d [] xs made so = subst (λ ys. Each P ys) (same_some [] xs made) tt
  each_from d (q ∷ rs) xs made so = each_by d q rs xs (test q) refl made so (λ ys is. each_from (suc d) rs ys is (next d q rs so))

  pub each_row : (rs : List Row) (xs : List A) → rows_made f test 0 rs ≡ Some xs → ((k : ℕ) (r : Row) (x : A) → slice_get rs k ≡ Some r → test r ≡ true → f k r ≡ Some x → P x) → Each P xs
  each_row rs xs made so = each_from 0 rs xs made (λ k e r x at passes same is. so k r x at passes (ap (λ n. f n r) (let back : k ≡ e = omega (arith, same) in back) ∙ is))

-- ---- locals

module _ (test : Row → Bool) where
  abbrev OfLanguage : List Row → Type 0
  OfLanguage rs = (k : ℕ) (r : Row) (m : ModeTree) → slice_get rs k ≡ Some r → test r ≡ true → r.mode ≡ Some m → IsOfLanguage m

  laid_by : (first : ℕ) (q : Row) (rs : List Row) (ls : List LocalRowTree) (b : Bool) → test q ≡ b
      → (if b then made_of (λ l ls. l ∷ ls) (local_row q first q.mode) (local_rows test (first + scalars_in_mode q.mode) rs) else local_rows test first rs) ≡ Some ls → OfLanguage (q ∷ rs)
      → ((from : ℕ) (ys : List LocalRowTree) → local_rows test from rs ≡ Some ys → AreLaidFrom from ys) → AreLaidFrom first ls
  laid_by first q rs ls true is made so rest =
      let m = made_parts (λ l ls. l ∷ ls) (local_row q first q.mode) (local_rows test (first + scalars_in_mode q.mode) rs) ls made in
      let own = there_mapped (λ x. record { name = q.name; mode = x; first = first; count = scalars_of x }) q.mode m.first m.of_first in
      let row : LocalRowTree = record { name = q.name; mode = own.0; first = first; count = scalars_of own.0 } in
      let behind : AreLaidFrom (first + scalars_of own.0) m.later = subst (λ x. AreLaidFrom (first + scalars_in_mode x) m.later) own.1 (rest (first + scalars_in_mode q.mode) m.later m.of_later) in
      subst (λ ys. AreLaidFrom first ys) (ap (λ x. x ∷ m.later) own.2 ∙ m.whole) (refl, refl, so zero q own.0 refl is own.1, behind)
  laid_by first q rs ls false is made so rest = rest first ls made

  pub laid_from : (first : ℕ) (rs : List Row) (ls : List LocalRowTree) → local_rows test first rs ≡ Some ls → OfLanguage rs → AreLaidFrom first ls
  laid_from first [] ls made so = subst (λ ys. AreLaidFrom first ys) (same_some [] ls made) tt
  laid_from first (q ∷ rs) ls made so = laid_by first q rs ls (test q) refl made so (λ from ys is. laid_from from rs ys is (λ k r m at passes mode. so (suc k) r m at passes mode))
