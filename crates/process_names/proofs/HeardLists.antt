-- What has been listed so far tells what the list of earlier names does.
use Rattle.std.proofs.Common.{◌≡◌, ℕ, ◌==◌, ◌||◌, Bool, true, false, List, [], ◌∷◌, ◌++◌, inl, inr, refl, sym, ap, ◌∙◌, subst, arith, Option, Some, None, nat_cmp}
use Rattle.std.specs.Prelude.{option_map}
use Rattle.std.specs.List.{list_any}
use Rattle.std.specs.BTreeSet.{insert_key}
use Rattle.std.specs.BTreeMap.{is_at}
use Rattle.std.specs.Ordering.{match_ordering, is_eq}
use Rattle.std.specs.declared.cmp.Ordering.{Ordering}
use Rattle.std.specs.declared.cmp.Ordering.TheVariants.{Less, Equal, Greater}
use Rattle.std.specs.Cmp.{nat_cmp_is}
use Rattle.std.proofs.lemmas.Bool.{cases_order, eqb-true, eq-eqb}
use Rattle.std.proofs.lemmas.List.Folds.{list_any-append}
use Rattle.chill_tree.specs.declared.tree.name.Name.{Name}
use Rattle.diagnostics.specs.declared.rule.Rule.TheVariants as rules
use Rattle.names_model.specs.NameRules.{tell}
use Rattle.checks_model.specs.Ground.{Ground, number_at}
use Rattle.checks_model.specs.Told.{told_if, holds_of_both}
use Rattle.checks_model.specs.ProcessRules.{is_other_sort, clashes_with}
use Rattle.checks_model.specs.ProcessRules as model
use Rattle.met_names.specs.declared.meeting.Meeting.{Meeting}
use Rattle.met_names.specs.declared.meeting.Meeting.TheVariants as meetings
use Rattle.met_names.specs.Facts.{Facts, number_of, met_at}
use Rattle.process_names.specs.Heard.{Heard, nothing_heard, is_buffer, is_signal, is_mixed, heard_behind, heard_name, told_heard}
use Rattle.process_names.specs.Phase.{as_met, AreFactsOf}

-- ---- tests of some member

or-false : (b : Bool) → (b || false) ≡ b
or-false true = refl
or-false false = refl

or-moved : (a b c d : Bool) → ((a || b) || (c || d)) ≡ ((a || c) || (b || d))
or-moved true b c d = refl
or-moved false true true d = refl
or-moved false true false d = refl
or-moved false false c d = refl

any-or : {X : Type 0} (p q : X → Bool) (xs : List X) → list_any (λ x. p x || q x) xs ≡ (list_any p xs || list_any q xs)
any-or p q [] = refl
any-or p q (x ∷ xs) = ap (λ b. (p x || q x) || b) (any-or p q xs) ∙ or-moved (p x) (q x) (list_any p xs) (list_any q xs)

any-alike : {X : Type 0} (p q : X → Bool) → ((x : X) → p x ≡ q x) → (xs : List X) → list_any p xs ≡ list_any q xs
any-alike p q e [] = refl
any-alike p q e (x ∷ xs) = ap (λ b. b || list_any p xs) (e x) ∙ ap (λ b. q x || b) (any-alike p q e xs)

any-never : {X : Type 0} (p : X → Bool) → ((x : X) → p x ≡ false) → (xs : List X) → list_any p xs ≡ false
any-never p e [] = refl
any-never p e (x ∷ xs) = ap (λ b. b || list_any p xs) (e x) ∙ any-never p e xs

any-behind : {X : Type 0} (p : X → Bool) (xs : List X) (x : X) (b c : Bool) → b ≡ list_any p xs → c ≡ p x → (b || c) ≡ list_any p (xs ++ x ∷ [])
any-behind p xs x b c e f = ap (λ d. d || c) e ∙ ap (λ d. list_any p xs || d) (f ∙ sym (or-false (p x))) ∙ sym (list_any-append p xs (x ∷ []))

-- ---- a key that is put among others

equal_keys : (k x : ℕ) → nat_cmp k x ≡ Equal → k ≡ x
equal_keys k x e = elim (cases_order k x) [
  | inl alike ↦ alike
  | inr apart ↦ elim apart [
    | inl less ↦ absurd (let o : Less ≡ Equal = nat_cmp_is k x Less less ∙ e in cc)
    | inr more ↦ absurd (let o : Greater ≡ Equal = nat_cmp_is k x Greater more ∙ e in cc)
  ]
]

either_way : (b c d : Bool) → (b || (c || d)) ≡ (c || (b || d))
either_way true true d = refl
either_way true false d = refl
either_way false c d = refl

twice : (b d : Bool) → (b || d) ≡ (b || (b || d))
twice true d = refl
twice false d = refl

inserted : (d k : ℕ) (xs : List ℕ) → list_any (is_at (nat_cmp d)) (insert_key nat_cmp xs k) ≡ (is_at (nat_cmp d) k || list_any (is_at (nat_cmp d)) xs)
inserted d k [] = refl
inserted d k (x ∷ xs) = by (nat_cmp k x) refl (inserted d k xs)
  where
    by : (o : Ordering) → nat_cmp k x ≡ o → list_any (is_at (nat_cmp d)) (insert_key nat_cmp xs k) ≡ (is_at (nat_cmp d) k || list_any (is_at (nat_cmp d)) xs)
        → list_any (is_at (nat_cmp d)) (match_ordering o (k ∷ x ∷ xs) (x ∷ xs) (x ∷ insert_key nat_cmp xs k)) ≡ (is_at (nat_cmp d) k || (is_at (nat_cmp d) x || list_any (is_at (nat_cmp d)) xs))
    by Less e rest = refl
    by Equal e rest = subst (λ y. (is_at (nat_cmp d) x || list_any (is_at (nat_cmp d)) xs) ≡ (is_at (nat_cmp d) y || (is_at (nat_cmp d) x || list_any (is_at (nat_cmp d)) xs))) (sym (equal_keys k x e)) (twice (is_at (nat_cmp d) x) (list_any (is_at (nat_cmp d)) xs))
    by Greater e rest = ap (λ b. is_at (nat_cmp d) x || b) rest ∙ either_way (is_at (nat_cmp d) x) (is_at (nat_cmp d) k) (list_any (is_at (nat_cmp d)) xs)

apart_numbers : (d k : ℕ) → (d ≡ k → ⊥) → (d == k) ≡ false
apart_numbers d k apart = by (d == k) refl
  where
    by : (b : Bool) → (d == k) ≡ b → (d == k) ≡ false
    by false e = e
    by true e = absurd (apart (eqb-true d k e))

at_number : (d k : ℕ) → is_at (nat_cmp d) k ≡ (d == k)
at_number d k = elim (cases_order d k) [
  | inl alike ↦ ap is_eq (sym (nat_cmp_is d k Equal alike)) ∙ sym (eq-eqb d k alike)
  | inr apart ↦ elim apart [
    | inl less ↦ ap is_eq (sym (nat_cmp_is d k Less less)) ∙ sym (apart_numbers d k (λ e. omega (arith, less, e)))
    | inr more ↦ ap is_eq (sym (nat_cmp_is d k Greater more)) ∙ sym (apart_numbers d k (λ e. omega (arith, more, e)))
  ]
]

-- ---- what has been listed

-- an earlier name stands for the definition of a number
abbrev for_number : Facts → ℕ → Name → Bool
for_number f d e = holds_of_both (λ a b. a == b) (Some d) (number_of f e)

pub record Hears (f : Facts) (earlier : List Name) (h : Heard) : Type 0 where
  pub numbers : (d : ℕ) → list_any (is_at (nat_cmp d)) h.numbers ≡ list_any (for_number f d) earlier
  pub buffers : h.has_buffer ≡ list_any (λ e. is_buffer (met_at f e)) earlier
  pub signals : h.has_signal ≡ list_any (λ e. is_signal (met_at f e)) earlier

pub hears_none : (f : Facts) → Hears f [] nothing_heard
hears_none f = record { numbers = λ d. refl; buffers = refl; signals = refl }

module _ (f : Facts) where
  -- a name that stands for nothing meets nothing
  unmet : (n : Name) → number_of f n ≡ None → met_at f n ≡ None
  unmet n e = rw e refl

  or_swapped : (a b : Bool) → (a || b) ≡ (b || a)
  or_swapped true true = refl
  or_swapped true false = refl
  or_swapped false true = refl
  or_swapped false false = refl

  pub hears_name : (earlier : List Name) (h : Heard) (n : Name) → Hears f earlier h → Hears f (earlier ++ n ∷ []) (heard_name f h n)
  hears_name earlier h n hears = by (number_of f n) refl
    where
      none_behind : (p : Name → Bool) (b : Bool) → b ≡ list_any p earlier → p n ≡ false → b ≡ list_any p (earlier ++ n ∷ [])
      none_behind p b e none = sym (or-false b) ∙ any-behind p earlier n b false e (sym none)

      by : (o : Option ℕ) → number_of f n ≡ o → Hears f (earlier ++ n ∷ []) (heard_behind h o (met_at f n))
      by None e = record {
        numbers = λ d. none_behind (for_number f d) (list_any (is_at (nat_cmp d)) h.numbers) (hears.numbers d) (rw e refl);
        buffers = none_behind (λ m. is_buffer (met_at f m)) h.has_buffer hears.buffers (rw (unmet n e) refl);
        signals = none_behind (λ m. is_signal (met_at f m)) h.has_signal hears.signals (rw (unmet n e) refl);
      }
      by (Some k) e = record {
        numbers = λ d. inserted d k h.numbers ∙ or_swapped (is_at (nat_cmp d) k) (list_any (is_at (nat_cmp d)) h.numbers)
            ∙ any-behind (for_number f d) earlier n (list_any (is_at (nat_cmp d)) h.numbers) (is_at (nat_cmp d) k) (hears.numbers d) (at_number d k ∙ rw e refl);
        buffers = any-behind (λ m. is_buffer (met_at f m)) earlier n h.has_buffer (is_buffer (met_at f n)) hears.buffers refl;
        signals = any-behind (λ m. is_signal (met_at f m)) earlier n h.has_signal (is_signal (met_at f n)) hears.signals refl;
      }

  module _ (g : Ground) (facts : AreFactsOf f g) where
    -- what two names meet at is of different sorts
    abbrev other : Option Meeting → Option Meeting → Bool
    other m o = holds_of_both is_other_sort (option_map as_met m) (option_map as_met o)

    buffer_other : (o : Option Meeting) → other (Some meetings.Buffer) o ≡ is_signal o
    buffer_other None = refl
    buffer_other (Some meetings.Event) = refl
    buffer_other (Some meetings.Buffer) = refl
    buffer_other (Some meetings.Signal) = refl
    buffer_other (Some meetings.Other) = refl

    signal_other : (o : Option Meeting) → other (Some meetings.Signal) o ≡ is_buffer o
    signal_other None = refl
    signal_other (Some meetings.Event) = refl
    signal_other (Some meetings.Buffer) = refl
    signal_other (Some meetings.Signal) = refl
    signal_other (Some meetings.Other) = refl

    event_other : (o : Option Meeting) → other (Some meetings.Event) o ≡ false
    event_other None = refl
    event_other (Some meetings.Event) = refl
    event_other (Some meetings.Buffer) = refl
    event_other (Some meetings.Signal) = refl
    event_other (Some meetings.Other) = refl

    place_other : (o : Option Meeting) → other (Some meetings.Other) o ≡ false
    place_other None = refl
    place_other (Some meetings.Event) = refl
    place_other (Some meetings.Buffer) = refl
    place_other (Some meetings.Signal) = refl
    place_other (Some meetings.Other) = refl

    mixed : (earlier : List Name) (h : Heard) → Hears f earlier h → (m : Option Meeting) → is_mixed h m ≡ list_any (λ e. other m (met_at f e)) earlier
    mixed earlier h hears None = sym (any-never (λ e. other None (met_at f e)) (λ e. refl) earlier)
    mixed earlier h hears (Some meetings.Buffer) = hears.signals ∙ sym (any-alike (λ e. other (Some meetings.Buffer) (met_at f e)) (λ e. is_signal (met_at f e)) (λ e. buffer_other (met_at f e)) earlier)
    mixed earlier h hears (Some meetings.Signal) = hears.buffers ∙ sym (any-alike (λ e. other (Some meetings.Signal) (met_at f e)) (λ e. is_buffer (met_at f e)) (λ e. signal_other (met_at f e)) earlier)
    mixed earlier h hears (Some meetings.Event) = sym (any-never (λ e. other (Some meetings.Event) (met_at f e)) (λ e. event_other (met_at f e)) earlier)
    mixed earlier h hears (Some meetings.Other) = sym (any-never (λ e. other (Some meetings.Other) (met_at f e)) (λ e. place_other (met_at f e)) earlier)

    clash_alike : (n e : Name) → clashes_with g n e ≡ (holds_of_both (λ a b. a == b) (number_of f n) (number_of f e) || other (met_at f n) (met_at f e))
    clash_alike n e =
        ap (λ o. holds_of_both (λ a b. a == b) o (number_at g.uses e.at) || holds_of_both is_other_sort (model.met_at g n) (model.met_at g e)) (sym (facts.numbers n))
        ∙ ap (λ o. holds_of_both (λ a b. a == b) (number_of f n) o || holds_of_both is_other_sort (model.met_at g n) (model.met_at g e)) (sym (facts.numbers e))
        ∙ ap (λ m. holds_of_both (λ a b. a == b) (number_of f n) (number_of f e) || holds_of_both is_other_sort m (model.met_at g e)) (facts.used n)
        ∙ ap (λ m. holds_of_both (λ a b. a == b) (number_of f n) (number_of f e) || holds_of_both is_other_sort (option_map as_met (met_at f n)) m) (facts.used e)

    -- a name that stands for nothing clashes with none
    never_clashes : (n e : Name) → number_of f n ≡ None → (holds_of_both (λ a b. a == b) (number_of f n) (number_of f e) || other (met_at f n) (met_at f e)) ≡ false
    never_clashes n e is =
        ap (λ o. holds_of_both (λ a b. a == b) o (number_of f e) || other (met_at f n) (met_at f e)) is ∙ ap (λ m. other m (met_at f e)) (unmet n is)

    -- P5 of a name behind what is listed is P5 of it behind the earlier names
    pub listed_alike : (earlier : List Name) (h : Heard) (n : Name) → Hears f earlier h → told_heard h (number_of f n) (met_at f n) n ≡ model.told_listed g earlier n
    listed_alike earlier h n hears = by (number_of f n) refl ∙ ap (λ b. told_if b (tell n.at rules.P5 n.text)) (sym (any-alike (clashes_with g n) (λ e. holds_of_both (λ a b. a == b) (number_of f n) (number_of f e) || other (met_at f n) (met_at f e)) (clash_alike n) earlier))
      where
        by : (o : Option ℕ) → number_of f n ≡ o → told_heard h o (met_at f n) n ≡ told_if (list_any (λ e. holds_of_both (λ a b. a == b) (number_of f n) (number_of f e) || other (met_at f n) (met_at f e)) earlier) (tell n.at rules.P5 n.text)
        by None is = ap (λ b. told_if b (tell n.at rules.P5 n.text)) (sym (any-never (λ e. holds_of_both (λ a b. a == b) (number_of f n) (number_of f e) || other (met_at f n) (met_at f e)) (λ e. never_clashes n e is) earlier))
        by (Some d) is =
            ap (λ b. told_if b (tell n.at rules.P5 n.text))
            (ap (λ b. b || is_mixed h (met_at f n)) (hears.numbers d) ∙ ap (λ b. list_any (for_number f d) earlier || b) (mixed earlier h hears (met_at f n))
            ∙ sym (any-or (for_number f d) (λ e. other (met_at f n) (met_at f e)) earlier)
            ∙ any-alike (λ e. for_number f d e || other (met_at f n) (met_at f e)) (λ e. holds_of_both (λ a b. a == b) (number_of f n) (number_of f e) || other (met_at f n) (met_at f e)) (λ e. ap (λ o. holds_of_both (λ a b. a == b) o (number_of f e) || other (met_at f n) (met_at f e)) (sym is)) earlier)
