-- Places and steps by what is known of their numbers.
use Rattle.std.proofs.Common.{◌≡◌, List, [], ◌∷◌, ◌++◌, refl, ap, sym, ◌∙◌, append_assoc, append-nil}
use Rattle.chill_base.specs.declared.pos.Pos.{Pos}
use Rattle.diagnostics.specs.declared.diagnostic.Diagnostic.{Diagnostic}
use Rattle.checks_model.specs.ConstantRules.{told_needed}
use Rattle.std.specs.Prelude.{Bool, true, false, ◌||◌, Option, Some, None, if◌then◌else◌, ℤ}
use Rattle.chill_tree.specs.declared.tree.mode.PlaceForm.{PlaceForm}
use Rattle.chill_tree.specs.ExprTree.{ExprTree}
use Rattle.chill_tree.specs.ModeTree as written
use Rattle.modes.specs.ModeTree.{ModeTree, PlaceTree}
use Rattle.checks_model.specs.Ground.{Ground}
use Rattle.checks_model.specs.WrittenModes.{is_no_int, needed_number, has_no_int, numbers_of_place, place_from, place_there, spread_there, step_from, step_misfits, told_in_place, told_in_spread, told_spread}
use Rattle.written_modes.specs.Places.{NumberSeen, no_int, number_if, number_seen, isnt_int, PlaceSeen, place_seen, place_by, step_by, step_misfits_by, number_there, told_step}

-- what is known of a number, by whether it isn't of INT
abbrev seen_by : Bool → Option ℤ → NumberSeen
seen_by b n = if b then no_int else number_if n

abbrev place_as : PlaceForm → Bool → Option ℤ → Option ℤ → Option ℤ → PlaceSeen
place_as form none w s e = record { is_written = true; has_no_int = none; place = (if none then None else place_from form w s e) }

made : (form : PlaceForm) (a b c : Bool) (w s e : Option ℤ) → place_as form (a || (b || (c || false))) w s e ≡ place_by form (seen_by a w) (seen_by b s) (seen_by c e)
made form true b c w s e = refl
made form false true c None s e = refl
made form false true c (Some w) s e = refl
made form false false true None None e = refl
made form false false true None (Some s) e = refl
made form false false true (Some w) None e = refl
made form false false true (Some w) (Some s) e = refl
made form false false false None None None = refl
made form false false false None None (Some e) = refl
made form false false false None (Some s) None = refl
made form false false false None (Some s) (Some e) = refl
made form false false false (Some w) None None = refl
made form false false false (Some w) None (Some e) = refl
made form false false false (Some w) (Some s) None = refl
made form false false false (Some w) (Some s) (Some e) = refl

pub place-made : (g : Ground) (p : written.PlaceTree) → place_seen g (Some p) ≡ place_by p.form (number_seen g p.word) (number_seen g p.start) (number_seen g p.bound)
place-made g p = made p.form (is_no_int g p.word) (is_no_int g p.start) (is_no_int g p.bound) (needed_number g p.word) (needed_number g p.start) (needed_number g p.bound)

-- ---- steps

any-behind : (g : Ground) (es : List ExprTree) (e : ExprTree) → has_no_int g (es ++ e ∷ []) ≡ (has_no_int g es || is_no_int g e)
any-behind g [] e = or-false (is_no_int g e)
  where
    or-false : (b : Bool) → (b || false) ≡ b
    or-false true = refl
    or-false false = refl
any-behind g (x ∷ xs) e = ap (λ b. is_no_int g x || b) (any-behind g xs e) ∙ or-assoc (is_no_int g x) (has_no_int g xs) (is_no_int g e)
  where
    or-assoc : (a b c : Bool) → (a || (b || c)) ≡ ((a || b) || c)
    or-assoc true b c = refl
    or-assoc false b c = refl

isnt-seen : (b : Bool) (n : Option ℤ) → isnt_int (seen_by b n) ≡ b
isnt-seen true n = refl
isnt-seen false None = refl
isnt-seen false (Some n) = refl

pub misfits-made : (g : Ground) (s : written.StepTree) → step_misfits g (Some (written.by_step s)) ≡ step_misfits_by (place_seen g (Some s.place)) (number_seen g s.distance)
misfits-made g s = any-behind g (numbers_of_place s.place) s.distance ∙ ap (λ b. has_no_int g (numbers_of_place s.place) || b) (sym (isnt-seen (is_no_int g s.distance) (needed_number g s.distance)))

step-seen : (a b : Bool) (p : Option PlaceTree) (n : Option ℤ) → (if a || b then None else step_from (if a then None else p) n) ≡ (if a || b then None else step_from (if a then None else p) (number_there (seen_by b n)))
step-seen true b p n = refl
step-seen false true p n = refl
step-seen false false p None = refl
step-seen false false p (Some n) = refl

pub step-made : (g : Ground) (s : written.StepTree) → spread_there g (Some (written.by_step s)) ≡ step_by (place_seen g (Some s.place)) (number_seen g s.distance)
step-made g s =
    ap (λ b. if b then None else step_from (place_there g s.place) (needed_number g s.distance)) (any-behind g (numbers_of_place s.place) s.distance)
    ∙ step-seen (has_no_int g (numbers_of_place s.place)) (is_no_int g s.distance) (place_from s.place.form (needed_number g s.place.word) (needed_number g s.place.start) (needed_number g s.place.bound)) (needed_number g s.distance)
    ∙ ap (λ b. if has_no_int g (numbers_of_place s.place) || b then None else step_from (place_there g s.place) (number_there (number_seen g s.distance))) (sym (isnt-seen (is_no_int g s.distance) (needed_number g s.distance)))

-- ---- by what the code has found

pub place-by : (g : Ground) (p : written.PlaceTree) (w s b : NumberSeen) → w ≡ number_seen g p.word → s ≡ number_seen g p.start → b ≡ number_seen g p.bound → place_by p.form w s b ≡ place_seen g (Some p)
place-by g p w s b x y z =
    ap (λ v. place_by p.form v s b) x
    ∙ ap (λ v. place_by p.form (number_seen g p.word) v b) y
    ∙ ap (λ v. place_by p.form (number_seen g p.word) (number_seen g p.start) v) z
    ∙ sym (place-made g p)

pub step-by : (g : Ground) (s : written.StepTree) (p : PlaceSeen) (d : NumberSeen) → p ≡ place_seen g (Some s.place) → d ≡ number_seen g s.distance → step_by p d ≡ spread_there g (Some (written.by_step s))
step-by g s p d x y = ap (λ v. step_by v d) x ∙ ap (λ v. step_by (place_seen g (Some s.place)) v) y ∙ sym (step-made g s)

misfits-by : (g : Ground) (s : written.StepTree) (p : PlaceSeen) (d : NumberSeen) → p ≡ place_seen g (Some s.place) → d ≡ number_seen g s.distance → step_misfits_by p d ≡ step_misfits g (Some (written.by_step s))
misfits-by g s p d x y = ap (λ v. step_misfits_by v d) x ∙ ap (λ v. step_misfits_by (place_seen g (Some s.place)) v) y ∙ sym (misfits-made g s)

pub spread-told : (g : Ground) (at : Pos) (i e : Option ModeTree) (s : written.StepTree) (p : PlaceSeen) (d : NumberSeen) → p ≡ place_seen g (Some s.place) → d ≡ number_seen g s.distance → told_step at (step_misfits_by p d) i e (step_by p d) ≡ told_spread g at i e (Some (written.by_step s))
spread-told g at i e s p d x y =
    ap (λ b. told_step at b i e (step_by p d)) (misfits-by g s p d x y)
    ∙ ap (λ h. told_step at (step_misfits g (Some (written.by_step s))) i e h) (step-by g s p d x y)

pub flat-made : (g : Ground) (s : written.StepTree) → told_in_place g s.place ++ told_needed g s.distance ≡ told_in_spread g (Some (written.by_step s))
flat-made g s = four (told_needed g s.place.word) (told_needed g s.place.start) (told_needed g s.place.bound) (told_needed g s.distance)
  where
    four : (a b c d : List Diagnostic) → (a ++ (b ++ (c ++ []))) ++ d ≡ a ++ (b ++ (c ++ (d ++ [])))
    four a b c d = append_assoc a (b ++ (c ++ [])) d ∙ ap (λ x. a ++ x) (append_assoc b (c ++ []) d ∙ ap (λ x. b ++ x) (append_assoc c [] d ∙ ap (λ x. c ++ x) (sym (append-nil d))))

pub join-four : (o p d t s ts : List Diagnostic) → p ++ d ≡ s → t ≡ ts → ((o ++ p) ++ d) ++ t ≡ o ++ (s ++ ts)
join-four o p d t s ts x y = ap (λ v. v ++ t) (append_assoc o p d) ∙ append_assoc o (p ++ d) t ∙ ap (λ v. o ++ (v ++ t)) x ∙ ap (λ v. o ++ (s ++ v)) y
