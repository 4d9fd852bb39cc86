-- Fields one behind the other are read again.
use Rattle.std.proofs.Common.{◌≡◌, ℕ, suc, ◌^◌, ◌<◌, ◌≤◌, List, [], ◌∷◌, ◌++◌, length, Some, refl, sym, ap, subst, ◌∙◌, append_assoc, arith}
use Rattle.std.specs.List.{flat_map, AllByRecursion}
use Rattle.std.proofs.lemmas.List.{length-append}
use Rattle.journal_text.specs.Journal.{number_text}
use Rattle.journal_text.specs.Reading.{Front, ◌>>=◌, number_at, many_at, list_at}
use Rattle.journal_text.proofs.Fields.{Stops, IsSmall, Reads, Begins, small_behind, number_reads}

pub one_reads : {A R : Type 0} {r : List ℕ → Front A} {a : List ℕ} {x : A} (made : A → R) → Reads r a x → Reads (λ bytes. r bytes >>= λ p. Some (made p.0, p.1)) a (made x)
one_reads made h = record { again = λ rest s small. rw (h.again rest s small) refl }

-- the same text, joined in another order
pub rejoined : {A : Type 0} {read : List ℕ → Front A} {text joined : List ℕ} {x : A} → text ≡ joined → Reads read joined x → Reads read text x
rejoined {A} {read} {text} {joined} {x} e h = subst (λ (t : List ℕ). Reads read t x) (sym e) h

pub join_four : (a b c d : List ℕ) → ((a ++ b) ++ c) ++ d ≡ a ++ (b ++ (c ++ d))
join_four a b c d = simp append_assoc

pub join_five : (a b c d e : List ℕ) → (((a ++ b) ++ c) ++ d) ++ e ≡ a ++ (b ++ (c ++ (d ++ e)))
join_five a b c d e = simp append_assoc

-- one field, and what is read behind it
pub then_reads : {A R : Type 0} {r : List ℕ → Front A} {a b : List ℕ} {x : A} {y : R} (k : A → List ℕ → Front R) → Reads r a x → Begins b → Reads (k x) b y → Reads (λ bytes. r bytes >>= λ p. k p.0 p.1) (a ++ b) y
then_reads {A} {R} {r} {a} {b} {x} {y} k h begins g = record {
  again = λ rest s small.
      let regrouped : (a ++ b) ++ rest ≡ a ++ (b ++ rest) = append_assoc a b rest in
      let whole : IsSmall (a ++ (b ++ rest)) = subst IsSmall regrouped small in
      let first : r (a ++ (b ++ rest)) ≡ Some (x, b ++ rest) = h.again (b ++ rest) (begins.stops rest s) whole in
      let second : k x (b ++ rest) ≡ Some (y, rest) = g.again rest s (small_behind a (b ++ rest) whole) in
      ap (λ (bytes : List ℕ). r bytes >>= λ p. k p.0 p.1) regrouped
      ∙ ap (λ (o : Front A). o >>= λ p. k p.0 p.1) first
      ∙ second;
}

-- each field of a sort is read again, and takes some byte
pub record ReadsEach {A : Type 0} (read : List ℕ → Front A) (text : A → List ℕ) (Fits : A → Type 0) : Type 0 where
  pub reads : (x : A) → Fits x → Reads read (text x) x
  pub begins : (x : A) → Begins (text x)
  pub some : (x : A) → 0 < length (text x)

pub begins_each : {A : Type 0} (text : A → List ℕ) → ((x : A) → Begins (text x)) → (xs : List A) → Begins (flat_map text xs)
begins_each text h [] = record { stops = λ rest s. s }
begins_each text h (x ∷ xs) = record { stops = λ rest s. subst Stops (sym (append_assoc (text x) (flat_map text xs) rest)) ((h x).stops (flat_map text xs ++ rest) ((begins_each text h xs).stops rest s)) }

many_again : {A : Type 0} (read : List ℕ → Front A) (text : A → List ℕ) (Fits : A → Type 0) → ReadsEach read text Fits → (xs : List A) (rest : List ℕ) → AllByRecursion Fits xs → Stops rest → IsSmall (flat_map text xs ++ rest) → many_at read (length xs) (flat_map text xs ++ rest) ≡ Some (xs, rest)
unfolding many_at
many_again read text Fits each [] rest fits s small = refl
many_again {A} read text Fits each (x ∷ xs) rest fits s small =
    let regrouped : (text x ++ flat_map text xs) ++ rest ≡ text x ++ (flat_map text xs ++ rest) = append_assoc (text x) (flat_map text xs) rest in
    let whole : IsSmall (text x ++ (flat_map text xs ++ rest)) = subst IsSmall regrouped small in
    let first : read (text x ++ (flat_map text xs ++ rest)) ≡ Some (x, flat_map text xs ++ rest) = (each.reads x fits.0).again (flat_map text xs ++ rest) ((begins_each text each.begins xs).stops rest s) whole in
    let others : many_at read (length xs) (flat_map text xs ++ rest) ≡ Some (xs, rest) = many_again read text Fits each xs rest fits.1 s (small_behind (text x) (flat_map text xs ++ rest) whole) in
    ap (many_at read (suc (length xs))) regrouped ∙ rw (first, others) refl

fewer : {A : Type 0} (text : A → List ℕ) → ((x : A) → 0 < length (text x)) → (xs : List A) → length xs ≤ length (flat_map text xs)
fewer text h [] = omega arith
fewer text h (x ∷ xs) = omega (arith, length-append (text x) (flat_map text xs), h x, fewer text h xs)

pub list_reads : {A : Type 0} (read : List ℕ → Front A) (text : A → List ℕ) (Fits : A → Type 0) → ReadsEach read text Fits → (xs : List A) → AllByRecursion Fits xs → Reads (list_at read) (number_text (length xs) ++ flat_map text xs) xs
list_reads {A} read text Fits each xs fits = record {
  again = λ rest s small.
      let regrouped : (number_text (length xs) ++ flat_map text xs) ++ rest ≡ number_text (length xs) ++ (flat_map text xs ++ rest) = append_assoc (number_text (length xs)) (flat_map text xs) rest in
      let whole : IsSmall (number_text (length xs) ++ (flat_map text xs ++ rest)) = subst IsSmall regrouped small in
      let behind : IsSmall (flat_map text xs ++ rest) = small_behind (number_text (length xs)) (flat_map text xs ++ rest) whole in
      let few : length xs < 2 ^ 32 = omega (arith, behind.few, length-append (flat_map text xs) rest, fewer text each.some xs) in
      let first : number_at (number_text (length xs) ++ (flat_map text xs ++ rest)) ≡ Some (length xs, flat_map text xs ++ rest) = (number_reads (length xs) few).again (flat_map text xs ++ rest) ((begins_each text each.begins xs).stops rest s) whole in
      ap (list_at read) regrouped ∙ ap (λ (o : Front ℕ). o >>= λ c. many_at read c.0 c.1) first ∙ many_again read text Fits each xs rest fits s behind;
}
