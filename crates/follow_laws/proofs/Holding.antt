-- Frames that hold a store: its locals, its result and the scratch locals are read and set.
use Rattle.std.proofs.Common.{◌≡◌, ℕ, ◌+◌, ◌≤◌, if◌then◌else◌, true, List, [], ◌++◌, ℤ, length, take, drop, Some, None, slice_get, nat_le, le-leb, sym, ap, ◌∙◌, subst, arith, append_assoc, append-nil, length-append, length-drop, length-take-le}
use Rattle.std.proofs.Math.Seq.{take-append_seam, drop-append_seam}
use Rattle.program_trees.specs.ProgramTree.{LocalRowTree}
use Rattle.world_model.specs.Lists.{with_scalars, scalars_at}
use Rattle.code_types.specs.Operands.{part_of}
use Rattle.source_meaning.specs.Store.{Store, local_value, with_local, with_part, with_result}
use Rattle.follow_laws.specs.Follows.{flat, scalars_in, Around, free_in, keeping, Holds}
use Rattle.follow_laws.proofs.Stores.{part_flat, part_is, set_flat, set_right, fit_set, fit_length, flat_length, length-with_scalars}

-- ---- parts of lists

-- the middle one of three lists is a part
pub middle : (xs ys zs : List ℤ) (f n : ℕ) → f ≡ length xs → n ≡ length ys → part_of (xs ++ (ys ++ zs)) f n ≡ Some ys
middle xs ys zs f n e d =
    let inside : f + n ≤ length (xs ++ (ys ++ zs)) = omega (arith, length-append xs (ys ++ zs), length-append ys zs) in
    let yes : nat_le (f + n) (length (xs ++ (ys ++ zs))) ≡ true = le-leb (f + n) (length (xs ++ (ys ++ zs))) inside in
    ap (λ b. if b then Some (take n (drop f (xs ++ (ys ++ zs)))) else None) yes
    ∙ ap Some
    (ap (λ (j : ℕ). take n (drop j (xs ++ (ys ++ zs)))) e
    ∙ (ap (λ (l : List ℤ). take n l) (drop-append_seam xs (ys ++ zs))
    ∙ (ap (λ (j : ℕ). take j (ys ++ zs)) d ∙ take-append_seam ys zs)))

-- it is set
middle_set : (xs ys zs new : List ℤ) (f : ℕ) → f ≡ length xs → length new ≡ length ys → with_scalars (xs ++ (ys ++ zs)) f new ≡ xs ++ (new ++ zs)
middle_set xs ys zs new f e d =
    let at0 : length xs + 0 ≡ f = omega arith in
    set_right xs (ys ++ zs) new 0 f at0
    ∙ ap (λ (l : List ℤ). xs ++ l)
    (ap (λ (j : ℕ). new ++ drop j (ys ++ zs)) (let h : 0 + length new ≡ length ys = omega arith in h)
    ∙ ap (λ (l : List ℤ). new ++ l) (drop-append_seam ys zs))

-- ---- locals

pub record HasPart (locals : List ℤ) (f n : ℕ) (xs : List ℤ) : Type 0 where
  pub is : part_of locals f n ≡ Some xs
  pub long : length xs ≡ n

-- a part of a local is read
pub local_read : (w : Around) (store : Store) (locals : List ℤ) (k first n f : ℕ) (row : LocalRowTree)
    → Holds w store locals → slice_get w.rows k ≡ Some row → first + n ≤ row.count → f ≡ row.first + first
    → HasPart locals f n (scalars_at (local_value store k) first n)
local_read w store locals k first n f row h is low f_is =
    let rest : List ℤ = store.result ++ (w.kept ++ h.rest) in
    let e0 : 0 + f ≡ row.first + first = omega arith in
    let part = part_flat 0 w.rows store.locals rest k row f first n h.fit is e0 low in
    record {
      is = ap (λ (l : List ℤ). part_of l f n) h.is ∙ part_is (flat store.locals ++ rest) (local_value store k) f first n part;
      long = length-take-le n (drop first (local_value store k)) (let room : n ≤ length (drop first (local_value store k)) = omega (arith, length-drop first (local_value store k), part.within) in room);
    }

pub record IsSet (w : Around) (store : Store) (locals : List ℤ) (f : ℕ) (xs : List ℤ) : Type 0 where
  pub inside : f + length xs ≤ length locals
  pub holds : Holds w store (with_scalars locals f xs)

-- a part of a local is set
pub local_set : (w : Around) (store : Store) (locals : List ℤ) (k first f : ℕ) (row : LocalRowTree) (xs : List ℤ)
    → Holds w store locals → slice_get w.rows k ≡ Some row → first + length xs ≤ row.count → f ≡ row.first + first
    → IsSet w (with_part store k first xs) locals f xs
local_set w store locals k first f row xs h is low f_is =
    let rest : List ℤ = store.result ++ (w.kept ++ h.rest) in
    let e0 : 0 + f ≡ row.first + first = omega arith in
    let part = part_flat 0 w.rows store.locals rest k row f first (length xs) h.fit is e0 low in
    let inside : f + length xs ≤ length locals = omega (arith, part.inside, ap (λ (l : List ℤ). length l) h.is) in
    let old : List ℤ = local_value store k in
    let new : List ℤ = with_scalars old first xs in
    let long_new : length new ≡ row.count = length-with_scalars old xs first part.within ∙ fit_length 0 w.rows store.locals k row h.fit is in
    record {
      inside = inside;
      holds = record {
        rest = h.rest;
        is = ap (λ (l : List ℤ). with_scalars l f xs) h.is ∙ set_flat 0 w.rows store.locals rest xs k row f first h.fit is e0 low;
        fit = fit_set 0 w.rows store.locals k row new h.fit is long_new;
        result = h.result;
        long = length-with_scalars locals xs f inside ∙ h.long;
      };
    }

-- other scalars in place of all
all_set : (old xs : List ℤ) → length xs ≡ length old → with_scalars old 0 xs ≡ xs
all_set old xs e =
    ap (λ (j : ℕ). xs ++ drop j old) (let h : 0 + length xs ≡ length old = omega arith in h)
    ∙ (ap (λ (l : List ℤ). xs ++ drop (length old) l) (sym (append-nil old))
    ∙ (ap (λ (l : List ℤ). xs ++ l) (drop-append_seam old []) ∙ append-nil xs))

-- a whole local is set
pub whole_set : (w : Around) (store : Store) (locals : List ℤ) (k f : ℕ) (row : LocalRowTree) (xs : List ℤ)
    → Holds w store locals → slice_get w.rows k ≡ Some row → length xs ≡ row.count → f ≡ row.first
    → IsSet w (with_local store k xs) locals f xs
whole_set w store locals k f row xs h is long f_is =
    let set = local_set w store locals k 0 f row xs h is (omega arith) (omega arith) in
    let same : with_scalars (local_value store k) 0 xs ≡ xs = all_set (local_value store k) xs (long ∙ sym (fit_length 0 w.rows store.locals k row h.fit is)) in
    record {
      inside = set.inside;
      holds = subst (λ (l : List ℤ). Holds w (with_local store k l) (with_scalars locals f xs)) same set.holds;
    }

-- ---- the result

pub result_set : (w : Around) (store : Store) (locals : List ℤ) (f : ℕ) (xs : List ℤ)
    → Holds w store locals → length xs ≡ w.results → f ≡ scalars_in w.rows
    → IsSet w (with_result store xs) locals f xs
result_set w store locals f xs h long f_is =
    let begins : f ≡ length (flat store.locals) = f_is ∙ sym (flat_length 0 w.rows store.locals h.fit) in
    let behind : List ℤ = w.kept ++ h.rest in
    let inside : f + length xs ≤ length locals = omega (arith, ap (λ (l : List ℤ). length l) h.is, length-append (flat store.locals) (store.result ++ behind), length-append store.result behind, h.result) in
    record {
      inside = inside;
      holds = record {
        rest = h.rest;
        is = ap (λ (l : List ℤ). with_scalars l f xs) h.is ∙ middle_set (flat store.locals) store.result behind xs f begins (long ∙ sym h.result);
        fit = h.fit;
        result = long;
        long = length-with_scalars locals xs f inside ∙ h.long;
      };
    }

pub result_read : (w : Around) (store : Store) (locals : List ℤ) (f : ℕ)
    → Holds w store locals → f ≡ scalars_in w.rows → HasPart locals f w.results store.result
result_read w store locals f h f_is =
    let begins : f ≡ length (flat store.locals) = f_is ∙ sym (flat_length 0 w.rows store.locals h.fit) in
    record {
      is = ap (λ (l : List ℤ). part_of l f w.results) h.is ∙ middle (flat store.locals) store.result (w.kept ++ h.rest) f w.results begins (sym h.result);
      long = h.result;
    }

-- ---- scratch locals

-- what stands before the scratch locals
before : (w : Around) (store : Store) (locals : List ℤ) → Holds w store locals → (pre : List ℤ) → length (flat store.locals ++ (store.result ++ pre)) ≡ scalars_in w.rows + (w.results + length pre)
before w store locals h pre = omega (arith, length-append (flat store.locals) (store.result ++ pre), length-append store.result pre, h.result, flat_length 0 w.rows store.locals h.fit)

regroup : (a b c d : List ℤ) → a ++ (b ++ (c ++ d)) ≡ (a ++ (b ++ c)) ++ d
regroup a b c d = ap (λ (l : List ℤ). a ++ l) (sym (append_assoc b c d)) ∙ sym (append_assoc a (b ++ c) d)

-- some of the scratch locals that are taken
pub kept_read : (w : Around) (store : Store) (locals pre ks post : List ℤ) (f n : ℕ)
    → Holds w store locals → w.kept ≡ pre ++ (ks ++ post) → f ≡ scalars_in w.rows + (w.results + length pre) → n ≡ length ks
    → HasPart locals f n ks
kept_read w store locals pre ks post f n h kept f_is long =
    let front : List ℤ = flat store.locals ++ (store.result ++ pre) in
    let begins : f ≡ length front = f_is ∙ sym (before w store locals h pre) in
    let shape : locals ≡ front ++ (ks ++ (post ++ h.rest)) =
    h.is
    ∙ (ap (λ (l : List ℤ). flat store.locals ++ (store.result ++ (l ++ h.rest))) kept
    ∙ (ap (λ (l : List ℤ). flat store.locals ++ (store.result ++ l)) (append_assoc pre (ks ++ post) h.rest)
    ∙ (ap (λ (l : List ℤ). flat store.locals ++ (store.result ++ (pre ++ l))) (append_assoc ks post h.rest)
    ∙ regroup (flat store.locals) store.result pre (ks ++ (post ++ h.rest))))) in
    record { is = ap (λ (l : List ℤ). part_of l f n) shape ∙ middle front ks (post ++ h.rest) f n begins long; long = sym long }

-- they are set to others
pub kept_set : (w : Around) (store : Store) (locals pre ks post new : List ℤ) (f : ℕ)
    → Holds w store locals → w.kept ≡ pre ++ (ks ++ post) → f ≡ scalars_in w.rows + (w.results + length pre) → length new ≡ length ks
    → IsSet (record w { kept = pre ++ (new ++ post) }) store locals f new
kept_set w store locals pre ks post new f h kept f_is long =
    let front : List ℤ = flat store.locals ++ (store.result ++ pre) in
    let back : List ℤ = post ++ h.rest in
    let begins : f ≡ length front = f_is ∙ sym (before w store locals h pre) in
    let as_front : (l : List ℤ) → flat store.locals ++ (store.result ++ ((pre ++ (l ++ post)) ++ h.rest)) ≡ front ++ (l ++ back) =
    λ l.
    ap (λ (j : List ℤ). flat store.locals ++ (store.result ++ j)) (append_assoc pre (l ++ post) h.rest)
    ∙ (ap (λ (j : List ℤ). flat store.locals ++ (store.result ++ (pre ++ j))) (append_assoc l post h.rest)
    ∙ regroup (flat store.locals) store.result pre (l ++ back)) in
    let shape : locals ≡ front ++ (ks ++ back) = h.is ∙ (ap (λ (l : List ℤ). flat store.locals ++ (store.result ++ (l ++ h.rest))) kept ∙ as_front ks) in
    let inside : f + length new ≤ length locals = omega (arith, ap (λ (l : List ℤ). length l) shape, length-append front (ks ++ back), length-append ks back) in
    record {
      inside = inside;
      holds = record {
        rest = h.rest;
        is = ap (λ (l : List ℤ). with_scalars l f new) shape ∙ (middle_set front ks back new f begins long ∙ sym (as_front new));
        fit = h.fit;
        result = h.result;
        long = length-with_scalars locals new f inside ∙ h.long;
      };
    }

-- further scratch locals are taken, which the frame has
pub scratch_set : (w : Around) (store : Store) (locals ks : List ℤ) (f : ℕ)
    → Holds w store locals → f ≡ free_in w → f + length ks ≤ w.row.locals
    → IsSet (keeping w ks) store locals f ks
scratch_set w store locals ks f h f_is room =
    let front : List ℤ = flat store.locals ++ (store.result ++ w.kept) in
    let begins : length front ≡ f = before w store locals h w.kept ∙ sym f_is in
    let shape : locals ≡ front ++ h.rest = h.is ∙ regroup (flat store.locals) store.result w.kept h.rest in
    let long_rest : length ks ≤ length h.rest = omega (arith, ap (λ (l : List ℤ). length l) shape, length-append front h.rest, h.long) in
    let inside : f + length ks ≤ length locals = omega (arith, h.long) in
    let at0 : length front + 0 ≡ f = omega arith in
    let none : 0 + length ks ≡ length ks = omega arith in
    record {
      inside = inside;
      holds = record {
        rest = drop (length ks) h.rest;
        is = ap (λ (l : List ℤ). with_scalars l f ks) shape
            ∙ (set_right front h.rest ks 0 f at0
            ∙ (ap (λ (j : ℕ). front ++ (ks ++ drop j h.rest)) none
            ∙ (sym (regroup (flat store.locals) store.result w.kept (ks ++ drop (length ks) h.rest))
            ∙ ap (λ (l : List ℤ). flat store.locals ++ (store.result ++ l)) (sym (append_assoc w.kept ks (drop (length ks) h.rest))))));
        fit = h.fit;
        result = h.result;
        long = length-with_scalars locals ks f inside ∙ h.long;
      };
    }

-- what is kept last is read
pub scratch_read : (w : Around) (store : Store) (locals ks : List ℤ) (f n : ℕ)
    → Holds (keeping w ks) store locals → f ≡ free_in w → n ≡ length ks → HasPart locals f n ks
scratch_read w store locals ks f n h f_is long =
    kept_read (keeping w ks) store locals w.kept ks [] f n h (ap (λ (l : List ℤ). w.kept ++ l) (sym (append-nil ks))) f_is long
