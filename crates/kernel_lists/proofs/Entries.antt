-- Lists in which each process has at most one entry: what a push and a removal leave, and how look-ups go on.
use Rattle.std.proofs.Common.{◌≡◌, ℕ, zero, suc, ◌+◌, ◌<◌, ◌≤◌, List, [], ◌∷◌, ◌++◌, length, get_or, drop, add-one, drop-cons, Bool, true, false, not, arith, refl, sym, ap, ◌∙◌, slice_get, Option, Some, None}
use Rattle.std.specs.Prelude.{◌==◌, if◌then◌else◌}
use Rattle.std.specs.List.{remove, filter, find}
use Rattle.std.proofs.lemmas.Bool.{eqb-true}
use Rattle.std.proofs.lemmas.Bool.Decides.{nat_tests}
use Rattle.std.proofs.lemmas.Option.{same_Some, slice_get-get_or}
use Rattle.std.proofs.lemmas.List.{drop_all}
use Rattle.kernel_lists.specs.First.{IsFirst}
use Rattle.kernel_lists.specs.Once.{entry_of, others, AreOnce}

-- what a search finds stands in the list, and passes
abbrev pub StandsIn : {X : Type 0} → (X → Bool) → List X → X → Type 0
StandsIn test xs x = ((k : ℕ) × (slice_get xs k ≡ Some x)) × (test x ≡ true)

found_by : {X : Type 0} (test : X → Bool) (y : X) (ys : List X) (x : X) (t : Bool) → test y ≡ t → (if t then Some y else find test ys) ≡ Some x
    → (find test ys ≡ Some x → StandsIn test ys x) → StandsIn test (y ∷ ys) x
found_by test y ys x true is e next = ((0, e), sym (ap test (same_Some y x e)) ∙ is)
found_by test y ys x false is e next = let r = next e in ((suc r.0.0, r.0.1), r.1)

pub found_at : {X : Type 0} (test : X → Bool) (xs : List X) (x : X) → find test xs ≡ Some x → StandsIn test xs x
found_at test [] x e = cc
found_at test (y ∷ ys) x e = found_by test y ys x (test y) refl e (λ f. found_at test ys x f)

-- where a search finds nothing, nothing in the list passes
passes_by : {X : Type 0} (y : X) (rest : Option X) (t : Bool) → (if t then Some y else rest) ≡ None → (t ≡ false) × (rest ≡ None)
passes_by y rest true e = cc
passes_by y rest false e = (refl, e)

pub none_passes : {X : Type 0} (test : X → Bool) (xs : List X) (k : ℕ) (x : X) → find test xs ≡ None → slice_get xs k ≡ Some x → test x ≡ false
none_passes test [] k x e at = cc
none_passes test (y ∷ ys) zero x e at = ap test (sym (same_Some y x at)) ∙ (passes_by y (find test ys) (test y) e).0
none_passes test (y ∷ ys) (suc k) x e at = none_passes test ys k x (passes_by y (find test ys) (test y) e).1 at

-- one more at the end that a search doesn't find
pushed_by : {X : Type 0} (y : X) (rest more : Option X) (t : Bool) → (rest ≡ None → more ≡ None) → (if t then Some y else rest) ≡ None → (if t then Some y else more) ≡ None
pushed_by y rest more true h e = cc
pushed_by y rest more false h e = h e

pub none_pushed : {X : Type 0} (test : X → Bool) (xs : List X) (x : X) → find test xs ≡ None → test x ≡ false → find test (xs ++ x ∷ []) ≡ None
none_pushed test [] x e fails = rw fails refl
none_pushed test (y ∷ ys) x e fails = pushed_by y (find test ys) (find test (ys ++ x ∷ [])) (test y) (λ f. none_pushed test ys x f fails) e

-- what a search finds it finds with one more at the end
found_pushed_by : {X : Type 0} (y x : X) (rest more : Option X) (t : Bool) → (rest ≡ Some x → more ≡ Some x) → (if t then Some y else rest) ≡ Some x → (if t then Some y else more) ≡ Some x
found_pushed_by y x rest more true h e = e
found_pushed_by y x rest more false h e = h e

pub found_pushed : {X : Type 0} (test : X → Bool) (xs : List X) (last x : X) → find test xs ≡ Some x → find test (xs ++ last ∷ []) ≡ Some x
found_pushed test [] last x e = cc
found_pushed test (y ∷ ys) last x e = found_pushed_by y x (find test ys) (find test (ys ++ last ∷ [])) (test y) (λ f. found_pushed test ys last x f) e

-- where a search finds nothing it finds one more at the end that passes
last_found_by : {X : Type 0} (y last : X) (rest more : Option X) (t : Bool) → (rest ≡ None → more ≡ Some last) → (if t then Some y else rest) ≡ None → (if t then Some y else more) ≡ Some last
last_found_by y last rest more true h e = cc
last_found_by y last rest more false h e = h e

pub last_found : {X : Type 0} (test : X → Bool) (xs : List X) (last : X) → find test xs ≡ None → test last ≡ true → find test (xs ++ last ∷ []) ≡ Some last
last_found test [] last e passes = rw passes refl
last_found test (y ∷ ys) last e passes = last_found_by y last (find test ys) (find test (ys ++ last ∷ [])) (test y) (λ f. last_found test ys last f passes) e

-- a search in what a filter leaves
filtered_by : {X : Type 0} (test : X → Bool) (y : X) (ys : List X) (p : Bool) → test y ≡ false → find test ys ≡ None → find test (if p then y ∷ ys else ys) ≡ None
filtered_by test y ys true fails e = rw fails e
filtered_by test y ys false fails e = e

pub none_filtered : {X : Type 0} (test p : X → Bool) (xs : List X) → find test xs ≡ None → find test (filter p xs) ≡ None
none_filtered test p [] e = refl
none_filtered test p (y ∷ ys) e =
    let here = passes_by y (find test ys) (test y) e in
    filtered_by test y (filter p ys) (p y) here.0 (none_filtered test p ys here.1)

unlike : (a b : ℕ) → (a == b) ≡ false → (b == a) ≡ false
unlike a b fails = grind (arith, nat_tests)

alike : (a : ℕ) → (a == a) ≡ true
alike a = grind (arith, nat_tests)

module _ {X : Type 0} (process : X → ℕ) where
  -- one more of a process that has no entry
  pub once_push : (xs : List X) (x : X) → AreOnce process xs → entry_of process xs (process x) ≡ None → AreOnce process (xs ++ x ∷ [])
  once_push [] x h none = (refl, tt)
  once_push (y ∷ ys) x h none =
      let here = passes_by y (entry_of process ys (process x)) (process y == process x) none in
      (none_pushed (λ z. process z == process y) ys x h.0 (unlike (process y) (process x) here.0), once_push ys x h.1 here.1)

  once_by : (y : X) (ys : List X) (t : Bool) → entry_of process ys (process y) ≡ None → AreOnce process ys → AreOnce process (if t then y ∷ ys else ys)
  once_by y ys true none h = (none, h)
  once_by y ys false none h = h

  pub once_others : (xs : List X) (who : ℕ) → AreOnce process xs → AreOnce process (others process xs who)
  once_others [] who h = tt
  once_others (y ∷ ys) who h = once_by y (others process ys who) (not (process y == who)) (none_filtered (λ z. process z == process y) (λ z. not (process z == who)) ys h.0) (once_others ys who h.1)

  -- a process without an entry isn't missed
  pub others_all : (xs : List X) (who : ℕ) → entry_of process xs who ≡ None → others process xs who ≡ xs
  others_all [] who e = refl
  others_all (y ∷ ys) who e =
      let here = passes_by y (entry_of process ys who) (process y == who) e in
      rw here.0 (ap (λ (zs : List X). y ∷ zs) (others_all ys who here.1))

  -- the entry at a place is the only one of its process
  pub once_remove : (xs : List X) (k : ℕ) (x : X) → AreOnce process xs → slice_get xs k ≡ Some x → remove xs k ≡ others process xs (process x)
  once_remove [] k x h at = cc
  once_remove (y ∷ ys) zero x h at =
      let head : others process (y ∷ ys) (process y) ≡ ys = rw (alike (process y)) (others_all ys (process y) h.0) in
      sym (ap (λ (z : X). others process (y ∷ ys) (process z)) (sym (same_Some y x at)) ∙ head)
  once_remove (y ∷ ys) (suc k) x h at =
      let fails = none_passes (λ z. process z == process y) ys k x h.0 at in
      rw (unlike (process x) (process y) fails) (ap (λ (zs : List X). y ∷ zs) (once_remove ys k x h.1 at))

  pub entry_at : (xs : List X) (k : ℕ) (x : X) → AreOnce process xs → slice_get xs k ≡ Some x → entry_of process xs (process x) ≡ Some x
  entry_at [] k x h at = cc
  entry_at (y ∷ ys) zero x h at =
      let head : entry_of process (y ∷ ys) (process y) ≡ Some y = rw (alike (process y)) refl in
      ap (λ (z : X). entry_of process (y ∷ ys) (process z)) (sym (same_Some y x at)) ∙ head ∙ at
  entry_at (y ∷ ys) (suc k) x h at =
      let fails = none_passes (λ z. process z == process y) ys k x h.0 at in
      rw (unlike (process x) (process y) fails) (entry_at ys k x h.1 at)

  -- nothing is left of a process
  gone_by : (y : X) (ys : List X) (who : ℕ) (t : Bool) → (process y == who) ≡ t → entry_of process ys who ≡ None → entry_of process (if not t then y ∷ ys else ys) who ≡ None
  gone_by y ys who true is e = e
  gone_by y ys who false is e = rw is e

  pub entry_gone : (xs : List X) (who : ℕ) → entry_of process (others process xs who) who ≡ None
  entry_gone [] who = refl
  entry_gone (y ∷ ys) who = gone_by y (others process ys who) who (process y == who) refl (entry_gone ys who)

  -- the others keep theirs
  kept_in : (y : X) (ys zs : List X) (who other : ℕ) (t : Bool) → (process y == who) ≡ t → (who == other) ≡ false → entry_of process zs other ≡ entry_of process ys other
      → entry_of process (if not t then y ∷ zs else zs) other ≡ entry_of process (y ∷ ys) other
  kept_in y ys zs who other true is apart e =
      let fails : (process y == other) ≡ false = rw (eqb-true (process y) who is) apart in
      rw fails e
  kept_in y ys zs who other false is apart e = ap (λ (o : Option X). if process y == other then Some y else o) e

  pub entry_kept : (xs : List X) (who other : ℕ) → (who == other) ≡ false → entry_of process (others process xs who) other ≡ entry_of process xs other
  entry_kept [] who other apart = refl
  entry_kept (y ∷ ys) who other apart = kept_in y ys (others process ys who) who other (process y == who) refl apart (entry_kept ys who other apart)

-- within a list an index needs no default
any_default : {X : Type 0} (xs : List X) (i : ℕ) (d e : X) → i < length xs → get_or xs i d ≡ get_or xs i e
any_default [] i d e low = absurd (omega arith)
any_default (x ∷ xs) zero d e low = refl
any_default (x ∷ xs) (suc i) d e low = any_default xs i d e (omega arith)

-- a loop that looks for the first item that passes
module _ {X : Type 0} (test : X → Bool) (xs : List X) where
  pub next_unfound : (i : ℕ) (x : X) → i < length xs → x ≡ get_or xs i x → test x ≡ false → find test (drop i xs) ≡ find test xs → find test (drop (i + 1) xs) ≡ find test xs
  next_unfound i x low is fails h =
      let e : drop i xs ≡ get_or xs i x ∷ drop (i + 1) xs = rw add-one (drop-cons xs i x low) in
      let f : find test (get_or xs i x ∷ drop (i + 1) xs) ≡ find test (drop (i + 1) xs) = rw (ap test (sym is) ∙ fails) refl in
      sym f ∙ ap (find test) (sym e) ∙ h

  pub here_found : (i : ℕ) (x : X) → i < length xs → x ≡ get_or xs i x → test x ≡ true → find test (drop i xs) ≡ find test xs → IsFirst test xs i
  here_found i x low is passes h =
      let e : drop i xs ≡ get_or xs i x ∷ drop (i + 1) xs = rw add-one (drop-cons xs i x low) in
      let f : find test (get_or xs i x ∷ drop (i + 1) xs) ≡ Some (get_or xs i x) = rw (ap test (sym is) ∙ passes) refl in
      record { item = get_or xs i x; at = slice_get-get_or xs i x low; found = sym h ∙ ap (find test) e ∙ f }

  pub here_at : (i : ℕ) (d : X) → i < length xs → test (get_or xs i d) ≡ true → find test (drop i xs) ≡ find test xs → IsFirst test xs i
  here_at i d low passes h = here_found i (get_or xs i d) low (any_default xs i d (get_or xs i d) low) passes h

  pub end_unfound : (i : ℕ) → length xs ≤ i → find test (drop i xs) ≡ find test xs → find test xs ≡ None
  end_unfound i long h = sym h ∙ ap (find test) (drop_all i xs long)
