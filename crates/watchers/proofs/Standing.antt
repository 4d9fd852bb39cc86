-- How far a walk over watchers has come, of which some are gone.
use Rattle.std.proofs.Common.{◌≡◌, ◌<◌, ◌≤◌, ℕ, suc, ◌+◌, Bool, cond, List, [], ◌∷◌, ◌++◌, length, map, take, drop, set, get_or, refl, sym, ap, ◌∙◌, subst, append_assoc, append-nil, arith, zero-le, IsTrue, IsFalse, take_all, length-set, length-take-le, drop-set-lt, add-one}
use Rattle.std.specs.List.{remove}
use Rattle.std.proofs.lemmas.List.{take_more_set, drop_more, drop_all, map-append, set_split, take-set}
use Rattle.std.proofs.Math.Seq.{take-append_seam, drop-append_seam}
use Rattle.kernel_base.specs.declared.event.Event.{Event}
use Rattle.outside_ports.specs.Watcher.{Watching}
use Rattle.watchers.specs.Shown.{fold_of, refuses_some, stayed, places_from, places, SawFirst, IsLeft, nothing, kept, dropped}

-- what was left of the watchers so far, with those that are still to be shown the events, leads to what is left of all
pub record Standing (ws : List Watching) (es : List Event) (front rest : List Watching) (place : ℕ) (gone : List ℕ) : Type 0 where
  pub stays : front ++ stayed rest es ≡ stayed ws es
  pub places_are : gone ++ places_from place rest es ≡ places ws es
  pub left : (x : List Watching) → IsLeft es rest x → IsLeft es ws (front ++ x)

pub begin : {B : Type 0} (f : B → Watching) (boxes : List B) (es : List Event) (gone : List ℕ) → gone ≡ [] → Standing (map f boxes) es (map f (take 0 boxes)) (map f (drop 0 boxes)) 0 gone
begin f boxes es gone is =
    record { stays = refl; places_are = ap (λ (x : List ℕ). x ++ places_from 0 (map f boxes) es) is; left = λ x h. h }

pub untouched : (es : List Event) (ws : List Watching) → IsLeft es ws ws
untouched es [] = nothing
untouched es (w ∷ ws) = kept (record { count = 0; few = zero-le; saw = refl; folded = refl }) (untouched es ws)

-- one that saw all events saw the first of them
whole : (w v : Watching) (es : List Event) → IsFalse (refuses_some w es) → v ≡ fold_of w es → SawFirst w es v
whole w v es free is =
    let all = take_all (length es) es (omega arith) in
    record { count = length es; few = omega arith; saw = ap (refuses_some w) all ∙ free; folded = is ∙ ap (fold_of w) (sym all) }

-- the next one stays
pub one_kept : (ws : List Watching) (es : List Event) (front rest : List Watching) (place : ℕ) (gone : List ℕ) (w v : Watching) → Standing ws es front (w ∷ rest) place gone →
    IsFalse (refuses_some w es) → v ≡ fold_of w es → Standing ws es (front ++ v ∷ []) rest (place + 1) gone
one_kept ws es front rest place gone w v s free is =
    let stays_on = ap (λ (b : Bool). cond b (stayed rest es) (fold_of w es ∷ stayed rest es)) free in
    let places_on = ap (λ (b : Bool). cond b (place ∷ places_from (place + 1) rest es) (places_from (place + 1) rest es)) free in
    record {
      stays = append_assoc front (v ∷ []) (stayed rest es) ∙ ap (λ (x : Watching). front ++ x ∷ stayed rest es) is ∙ ap (λ (x : List Watching). front ++ x) (sym stays_on) ∙ s.stays;
      places_are = ap (λ (x : List ℕ). gone ++ x) (sym places_on) ∙ s.places_are;
      left = λ x h. subst (IsLeft es ws) (sym (append_assoc front (v ∷ []) x)) (s.left (v ∷ x) (kept (whole w v es free is) h));
    }

-- the next one is dropped
pub one_dropped : (ws : List Watching) (es : List Event) (front rest : List Watching) (place : ℕ) (gone : List ℕ) (w : Watching) → Standing ws es front (w ∷ rest) place gone →
    IsTrue (refuses_some w es) → Standing ws es front rest (place + 1) (gone ++ place ∷ [])
one_dropped ws es front rest place gone w s found =
    let stays_on = ap (λ (b : Bool). cond b (stayed rest es) (fold_of w es ∷ stayed rest es)) found in
    let places_on = ap (λ (b : Bool). cond b (place ∷ places_from (place + 1) rest es) (places_from (place + 1) rest es)) found in
    record {
      stays = ap (λ (x : List Watching). front ++ x) (sym stays_on) ∙ s.stays;
      places_are = append_assoc gone (place ∷ []) (places_from (place + 1) rest es) ∙ ap (λ (x : List ℕ). gone ++ x) (sym places_on) ∙ s.places_are;
      left = λ x h. s.left x (dropped found h);
    }

-- the boxes from a place on begin with the one there
from_place : {B : Type 0} (f : B → Watching) (boxes : List B) (at : ℕ) (b : B) → at < length boxes → b ≡ get_or boxes at b → map f (drop at boxes) ≡ f b ∷ map f (drop (at + 1) boxes)
from_place {B = B} f boxes at b low is = ap (map f) (drop_more boxes at b low) ∙ ap (λ (x : B). f x ∷ map f (drop (at + 1) boxes)) (sym is)

-- the box at a place was shown the events, and stays
pub box_kept : {B : Type 0} (f : B → Watching) (ws : List Watching) (es : List Event) (boxes new : List B) (at place : ℕ) (gone : List ℕ) (b c : B) →
    at < length boxes → b ≡ get_or boxes at b → new ≡ set boxes at c → Standing ws es (map f (take at boxes)) (map f (drop at boxes)) place gone →
    IsFalse (refuses_some (f b) es) × (f c ≡ fold_of (f b) es) →
    Standing ws es (map f (take (at + 1) new)) (map f (drop (at + 1) new)) (place + 1) gone
box_kept {B = B} f ws es boxes new at place gone b c low is made s shown =
    let front = ap (λ (x : List B). map f (take (at + 1) x)) made ∙ ap (map f) (take_more_set boxes at c low) ∙ map-append f (take at boxes) (c ∷ []) in
    let rest = ap (λ (x : List B). map f (drop (at + 1) x)) made ∙ ap (map f) (drop-set-lt (at + 1) boxes at c (omega arith)) in
    let here = subst (λ (x : List Watching). Standing ws es (map f (take at boxes)) x place gone) (from_place f boxes at b low is) s in
    let next = one_kept ws es (map f (take at boxes)) (map f (drop (at + 1) boxes)) place gone (f b) (f c) here shown.0 shown.1 in
    subst (λ (x : List Watching). Standing ws es x (map f (drop (at + 1) new)) (place + 1) gone) (sym front)
    (subst (λ (x : List Watching). Standing ws es (map f (take at boxes) ++ f c ∷ []) x (place + 1) gone) (sym rest) next)

-- the boxes before a place from which one was removed, and those behind it
front_long : {B : Type 0} (boxes changed : List B) (at : ℕ) (c : B) → at < length boxes → changed ≡ set boxes at c → length (take at changed) ≡ at
front_long boxes changed at c low one = length-take-le at changed (rw (ap length one ∙ length-set boxes at c) (omega (arith, low)))

front_removed : {B : Type 0} (boxes changed new : List B) (at : ℕ) (c : B) → at < length boxes → changed ≡ set boxes at c → new ≡ remove changed at → take at new ≡ take at boxes
front_removed boxes changed new at c low one two =
    let front = take at changed in
    let rest = drop (suc at) changed in
    ap (take at) two ∙ subst (λ (n : ℕ). take n (front ++ rest) ≡ front) (front_long boxes changed at c low one) (take-append_seam front rest) ∙ ap (take at) one ∙ take-set boxes at c

rest_removed : {B : Type 0} (boxes changed new : List B) (at : ℕ) (c : B) → at < length boxes → changed ≡ set boxes at c → new ≡ remove changed at → drop at new ≡ drop (at + 1) boxes
rest_removed boxes changed new at c low one two =
    let front = take at changed in
    let rest = drop (suc at) changed in
    let behind : rest ≡ drop (at + 1) boxes = rw add-one (ap (drop (suc at)) one ∙ drop-set-lt (suc at) boxes at c (omega arith)) in
    ap (drop at) two ∙ subst (λ (n : ℕ). drop n (front ++ rest) ≡ rest) (front_long boxes changed at c low one) (drop-append_seam front rest) ∙ behind

-- the box at a place was shown the events, and is dropped
pub box_dropped : {B : Type 0} (f : B → Watching) (ws : List Watching) (es : List Event) (boxes changed new : List B) (at place : ℕ) (gone : List ℕ) (b c : B) →
    at < length boxes → b ≡ get_or boxes at b → changed ≡ set boxes at c → new ≡ remove changed at → Standing ws es (map f (take at boxes)) (map f (drop at boxes)) place gone →
    IsTrue (refuses_some (f b) es) →
    Standing ws es (map f (take at new)) (map f (drop at new)) (place + 1) (gone ++ place ∷ [])
box_dropped f ws es boxes changed new at place gone b c low is one two s found =
    let here = subst (λ (x : List Watching). Standing ws es (map f (take at boxes)) x place gone) (from_place f boxes at b low is) s in
    let next = one_dropped ws es (map f (take at boxes)) (map f (drop (at + 1) boxes)) place gone (f b) here found in
    subst (λ (x : List Watching). Standing ws es x (map f (drop at new)) (place + 1) (gone ++ place ∷ [])) (sym (ap (map f) (front_removed boxes changed new at c low one two)))
    (subst (λ (x : List Watching). Standing ws es (map f (take at boxes)) x (place + 1) (gone ++ place ∷ [])) (sym (ap (map f) (rest_removed boxes changed new at c low one two))) next)

-- the box at a place had free memory
pub box_cut : {B : Type 0} (f : B → Watching) (ws : List Watching) (es : List Event) (boxes new : List B) (at place : ℕ) (gone : List ℕ) (b c : B) →
    at < length boxes → b ≡ get_or boxes at b → new ≡ set boxes at c → Standing ws es (map f (take at boxes)) (map f (drop at boxes)) place gone →
    SawFirst (f b) es (f c) → IsLeft es ws (map f new)
box_cut f ws es boxes new at place gone b c low is made s saw =
    let here = subst (λ (x : List Watching). Standing ws es (map f (take at boxes)) x place gone) (from_place f boxes at b low is) s in
    let rest = map f (drop (at + 1) boxes) in
    let all : map f new ≡ map f (take at boxes) ++ f c ∷ rest = rw add-one (ap (map f) (made ∙ set_split boxes at c low) ∙ map-append f (take at boxes) (c ∷ drop (suc at) boxes)) in
    subst (IsLeft es ws) (sym all) (here.left (f c ∷ rest) (kept saw (untouched es rest)))

-- all were shown the events
pub ended : {B : Type 0} (f : B → Watching) (ws : List Watching) (es : List Event) (boxes : List B) (at place : ℕ) (gone : List ℕ) → length boxes ≤ at →
    Standing ws es (map f (take at boxes)) (map f (drop at boxes)) place gone → (map f boxes ≡ stayed ws es) × (gone ≡ places ws es)
ended f ws es boxes at place gone high s =
    let front = ap (map f) (take_all at boxes high) in
    let rest = ap (map f) (drop_all at boxes high) in
    let e = subst (λ (x : List Watching). Standing ws es (map f boxes) x place gone) rest (subst (λ (x : List Watching). Standing ws es x (map f (drop at boxes)) place gone) front s) in
    (sym (append-nil (map f boxes)) ∙ e.stays, sym (append-nil gone) ∙ e.places_are)
