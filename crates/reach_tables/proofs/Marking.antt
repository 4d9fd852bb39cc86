-- A number that is put into a table is marked.
use Rattle.std.proofs.Common.{◌≡◌, ℕ, Bool, true, false, List, [], ◌∷◌, ◌++◌, ◌⊎◌, inl, inr, refl, ap, sym, ◌∙◌, if◌then◌else◌}
use Rattle.std.specs.Prelude.{◌||◌, ◌==◌, nat_eq}
use Rattle.std.specs.Str.{bytes_eq}
use Rattle.std.proofs.lemmas.Bool.{eqb-true}
use Rattle.std.proofs.lemmas.Slice.Eq.{bytes_eq-Decides}
use Rattle.names_model.specs.declared.definition.Definition.{Definition}
use Rattle.names_model.specs.Definitions.{spelling_at}
use Rattle.names_model.specs.Entries.{once_behind, is_among}
use Rattle.reach_tables.specs.Held.{Holdings, held}
use Rattle.reach_tables.specs.Marks.{Marks, Added, is_marked}
use Rattle.reach_tables.proofs.Noting.{any-behind}
use Rattle.reach_tables.proofs.Within.{either}

-- what is put behind others, where the truth value says that it is of the name
abbrev at_name : Bool → List ℕ → ℕ → List ℕ
at_name b xs d = once_behind xs (if b then d ∷ [] else [])

-- it was not there
new : (b : Bool) (xs : List ℕ) (d : ℕ) → (b ≡ true → is_among d xs ≡ false) → (if b then xs ++ d ∷ [] else xs) ≡ at_name b xs d
new false xs d h = refl
new true xs d h = ap (λ a. if a then xs else xs ++ d ∷ []) (sym (h refl))

-- that a number is there is so under its own name, however the name is written
same_name : (t : Holdings) (all : List Definition) (d : ℕ) (n : List ℕ) (b : Bool) → is_among d (held t (spelling_at all d)) ≡ b → bytes_eq (spelling_at all d) n ≡ true → is_among d (held t n) ≡ b
same_name t all d n b h e = ap (λ m. is_among d (held t m)) (sym ((bytes_eq-Decides (spelling_at all d) n).0 e)) ∙ h

-- marks after a new mark: under the number's own name it is behind the others, and under another name it isn't
marked_new : (a s : Bool) (xs : List ℕ) (d e : ℕ) (b : Bool) → nat_eq d e ≡ a → (a ≡ true → s ≡ true) → b ≡ is_among e xs → (if a then true else b) ≡ is_among e (if s then xs ++ d ∷ [] else xs)
marked_new true true xs d e b h k m = sym (any-behind (λ x. x == e) xs d ∙ ap (λ v. is_among e xs || v) h ∙ or-true (is_among e xs))
  where
    or-true : (v : Bool) → (v || true) ≡ true
    or-true true = refl
    or-true false = refl
marked_new true false xs d e b h k m = absurd (false-true (k refl))
  where
    false-true : false ≡ true → ⊥
    false-true h = cc
marked_new false true xs d e b h k m = m ∙ sym (any-behind (λ x. x == e) xs d ∙ ap (λ v. is_among e xs || v) h ∙ or-false (is_among e xs))
  where
    or-false : (v : Bool) → (v || false) ≡ v
    or-false true = refl
    or-false false = refl
marked_new false false xs d e b h k m = m

-- what is behind the others under its own name is of that name, and so are the others
own_new : (all : List Definition) (d : ℕ) (s : Bool) (xs n : List ℕ) (e : ℕ) → bytes_eq (spelling_at all d) n ≡ s → (is_among e xs ≡ true → bytes_eq (spelling_at all e) n ≡ true)
    → is_among e (if s then xs ++ d ∷ [] else xs) ≡ true → bytes_eq (spelling_at all e) n ≡ true
own_new all d false xs n e is before h = before h
own_new all d true xs n e is before h = side (either (is_among e xs) (d == e) (sym (any-behind (λ x. x == e) xs d) ∙ h))
  where
    side : (is_among e xs ≡ true) ⊎ ((d == e) ≡ true) → bytes_eq (spelling_at all e) n ≡ true
    side (inl k) = before k
    side (inr k) = ap (λ x. bytes_eq (spelling_at all x) n) (sym (eqb-true d e k)) ∙ is

pub added-new : (all : List Definition) (d : ℕ) (t t' : Holdings) (marks marks' : List ℕ) → Marks marks t all → is_marked marks d ≡ false → ((e : ℕ) → is_marked marks' e ≡ (if nat_eq d e then true else is_marked marks e))
    → ((n : List ℕ) → held t' n ≡ (if bytes_eq (spelling_at all d) n then held t n ++ d ∷ [] else held t n)) → Added all (d ∷ []) t t' marks'
added-new all d t t' marks marks' m h by put = record {
  by = λ n. put n ∙ new (bytes_eq (spelling_at all d) n) (held t n) d (same_name t all d n false (sym (m.by d) ∙ h));
  marks = record {
    by = λ e. by e ∙ marked_new (nat_eq d e) (bytes_eq (spelling_at all d) (spelling_at all e)) (held t (spelling_at all e)) d e (is_marked marks e) refl
        (λ k. (bytes_eq-Decides (spelling_at all d) (spelling_at all e)).1 (ap (spelling_at all) (eqb-true d e k))) (m.by e) ∙ ap (is_among e) (sym (put (spelling_at all e)));
    own = λ n e h. own_new all d (bytes_eq (spelling_at all d) n) (held t n) n e refl (λ k. m.own n e k) (ap (is_among e) (sym (put n)) ∙ h);
  };
}
