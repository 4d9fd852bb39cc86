-- What is a location, or an action that begins with a name, is read as that.
use Rattle.std.proofs.Common.{◌≡◌, ℕ, zero, suc, ◌+◌, ◌-◌, ◌<◌, true, false, List, [], ◌∷◌, length, Some, Ok, refl, ap, ◌∙◌, arith, length-append}
use Rattle.chill_base.specs.declared.pos.Pos.{Pos}
use Rattle.chill_tree.specs.declared.token.Sign.TheVariants as signs
use Rattle.chill_tree.specs.declared.tree.name.Name.{Name}
use Rattle.chill_tree.specs.ExprTree.{ExprTree, name, apply, expr_nodes, place_of}
use Rattle.chill_tree.specs.SimpleTree.{call_of}
use Rattle.rules_model.specs.Marks.{Toks, sign, name_token, begins}
use Rattle.rules_model.specs.ExprGrammar.{IsNamed, a_name, with_args, with_field, AreArgs, no_args, some_args, AreExprs, one_expr, and_expr, IsRanked, is_location, IsLocation, is_loc}
use Rattle.rules_model.specs.Nesting.{StaysBelow}
use Rattle.rules_model.specs.Reading.{sign_at, name_at}
use Rattle.rules_model.specs.ExprReading.{Sub, field_at, NamePart, Args, Field, with_part, args_at, location_part_at, location_parts_at, location_at, expr_at}
use Rattle.rules_model.specs.SimpleReading.{begins_more, assigned_at, assignment_at, applied_at, named_action_at}
use Rattle.rules_model.proofs.Loops.{repeat_none, repeat_some}
use Rattle.rules_model.proofs.ExprStarts.{named_few}
use Rattle.rules_model.proofs.ExprStops.{Stops, location_part_none}
use Rattle.rules_model.proofs.ExprExact.{exact_args, exact_expr}

-- ---- one expression in brackets

some_expr : {es : List ExprTree} {toks rest : Toks} → AreExprs es toks rest → 0 < length es
some_expr (one_expr d) = omega arith
some_expr (and_expr {es = es} {e = e} l d) = omega (arith, length-append es (e ∷ []))

only_expr : {es : List ExprTree} {toks rest : Toks} → AreExprs es toks rest → (e : ExprTree) → es ≡ e ∷ [] → IsRanked 5 e toks rest
only_expr (one_expr {e = f} {toks = toks} {rest = rest} d) e h = let same : f ≡ e = cc in rw same at d
only_expr (and_expr {es = es} {e = f} l d) e h = absurd (omega (arith, some_expr l, ap length h, length-append es (f ∷ [])))

-- an expression and the bracket behind it
record Closed (e : ExprTree) (toks rest : Toks) : Type 0 where
  pub close : Pos
  pub is : IsRanked 5 e toks (sign close signs.Close ∷ rest)

only_arg : {es : List ExprTree} {toks rest : Toks} → AreArgs es toks rest → (e : ExprTree) → es ≡ e ∷ [] → Closed e toks rest
only_arg no_args e h = absurd cc
only_arg (some_args {p = p} d) e h = record { close = p; is = only_expr d e h }

one_long : (at : Pos) (f : ExprTree) (es : List ExprTree) → is_location (apply at f (expr_nodes es)) ≡ true → length es ≡ 1
one_long at f [] l = absurd cc
one_long at f (e ∷ []) l = refl
one_long at f (e ∷ g ∷ es) l = absurd cc

base_located : (at : Pos) (f : ExprTree) (es : List ExprTree) → is_location (apply at f (expr_nodes es)) ≡ true → is_location f ≡ true
base_located at f [] l = absurd cc
base_located at f (e ∷ []) l = l
base_located at f (e ∷ g ∷ es) l = absurd cc

an_element : (sub : Sub) (p q : Pos) (e : ExprTree) (m rest : Toks) → sub p m ≡ Ok (e, sign q signs.Close ∷ rest) → location_part_at sub (sign p signs.Open ∷ m) ≡ Ok (Some (Args (e ∷ []), rest))
unfolding location_part_at sign_at
an_element sub p q e m rest h = rw h refl

location_field : (sub : Sub) (p : Pos) (x : Name) (rest : Toks) → location_part_at sub (sign p signs.Dot ∷ name_token x ∷ rest) ≡ Ok (Some (Field x, rest))
unfolding location_part_at field_at sign_at name_at
location_field sub p x rest = refl

exact_element : (n : ℕ) (p at : Pos) (f : ExprTree) (es : List ExprTree) (m rest : Toks) → is_location (apply at f (expr_nodes es)) ≡ true → AreArgs es m rest → StaysBelow (suc n) (sign p signs.Open ∷ m)
    → (location_part_at (expr_at n) (sign p signs.Open ∷ m) ≡ Ok (Some (Args es, rest))) × StaysBelow (suc n) rest
exact_element n p at f [] m rest l a below = absurd cc
exact_element zero p at f (e ∷ []) m rest l a below = absurd (omega (arith, below.0))
exact_element (suc n) p at f (e ∷ []) m rest l a below =
    let c = only_arg a e refl in
    let x = exact_expr c.is n p below.1 (refl, refl, refl, tt) in
    (an_element (expr_at (suc n)) p c.close e m rest x.0, x.1.1)
exact_element n p at f (e ∷ g ∷ es) m rest l a below = absurd cc

-- ---- locations

location_begins : (sub : Sub) (x : Name) (rest : Toks) → location_at sub (name_token x ∷ rest) ≡ location_parts_at sub 32 (name x) rest
unfolding location_at name_at
location_begins sub x rest = refl

-- the state of the loop over the parts of a location
located : {k : ℕ} {e : ExprTree} {toks rest : Toks} → IsNamed k e toks rest → is_location e ≡ true → (n : ℕ) → StaysBelow (suc n) toks → ((j : ℕ) → j + k ≡ 32 → location_at (expr_at n) toks ≡ location_parts_at (expr_at n) j e rest) × StaysBelow (suc n) rest
located (a_name {n = x} {rest = rest}) l n below = ((λ j h. let e : j ≡ 32 = omega arith in rw e (location_begins (expr_at n) x rest)), below.1)
located (with_args {k = k} {e = f} {es = es} {p = p} {m = m} {rest = rest} d a lt) l n below =
    let ih = located d (base_located (place_of f) f es l) n below in
    let x = exact_element n p (place_of f) f es m rest l a ih.1 in
    ((λ j h. ih.0 (suc j) (omega arith) ∙ repeat_some (location_part_at (expr_at n)) with_part j f (sign p signs.Open ∷ m) (Args es) rest x.0), x.1)
located (with_field {k = k} {e = f} {n = x} {p = p} {rest = rest} d lt) l n below =
    let ih = located d l n below in
    ((λ j h. ih.0 (suc j) (omega arith) ∙ repeat_some (location_part_at (expr_at n)) with_part j f (sign p signs.Dot ∷ name_token x ∷ rest) (Field x) rest (location_field (expr_at n) p x rest)), ih.1.1.1)

pub exact_location : {t : ExprTree} {toks rest : Toks} → IsLocation t toks rest → (n : ℕ) → StaysBelow (suc n) toks → Stops 0 rest → (location_at (expr_at n) toks ≡ Ok (t, rest)) × StaysBelow (suc n) rest
exact_location {t = t} {rest = rest} (is_loc {k = k} d l) n below stops =
    let x = located d l n below in
    let few = named_few d in
    (x.0 (32 - k) (omega arith) ∙ repeat_none (location_part_at (expr_at n)) with_part (32 - k) t rest (location_part_none (expr_at n) 0 rest stops), x.1)

-- ---- actions that begin with a name

-- behind a name alone no bracket opens; behind parts, more of a location or of an assignment stands
abbrev pub GoesOn : ℕ → Toks → Type 0
GoesOn zero toks = begins signs.Open toks ≡ false
GoesOn (suc k) toks = begins_more toks ≡ true

dot_goes_on : (k : ℕ) (p : Pos) (m : Toks) → GoesOn k (sign p signs.Dot ∷ m)
dot_goes_on zero p m = refl
dot_goes_on (suc k) p m = refl

pub goes_on : (k : ℕ) (toks : Toks) → begins signs.Open toks ≡ false → begins_more toks ≡ true → GoesOn k toks
goes_on zero toks b m = b
goes_on (suc k) toks b m = m

assignment_begins : (n : ℕ) (x : Name) (rest : Toks) → begins signs.Open rest ≡ false → named_action_at n (name_token x ∷ rest) ≡ assignment_at n 32 (name x) rest
unfolding named_action_at name_at
assignment_begins n x rest b = rw b refl

an_indexed_name : (n : ℕ) (x : Name) (p : Pos) (es : List ExprTree) (m rest : Toks) → args_at n (expr_at n) (sign p signs.Open ∷ m) ≡ Ok (es, rest) → length es ≡ 1 → begins_more rest ≡ true
    → named_action_at n (name_token x ∷ sign p signs.Open ∷ m) ≡ assignment_at n 31 (apply x.at (name x) (expr_nodes es)) rest
unfolding named_action_at name_at applied_at
an_indexed_name n x p es m rest h l b = rw (h, b, l) refl

pub a_call : (n : ℕ) (x : Name) (p : Pos) (es : List ExprTree) (m rest : Toks) → args_at n (expr_at n) (sign p signs.Open ∷ m) ≡ Ok (es, rest) → begins_more rest ≡ false
    → named_action_at n (name_token x ∷ sign p signs.Open ∷ m) ≡ Ok (call_of x.at false x es, rest)
unfolding named_action_at name_at applied_at
a_call n x p es m rest h b = rw (h, b) refl

one_part_more : (n j : ℕ) (f : ExprTree) (part : NamePart) (toks rest : Toks) → location_part_at (expr_at n) toks ≡ Ok (Some (part, rest)) → assignment_at n (suc j) f toks ≡ assignment_at n j (with_part f part) rest
unfolding assignment_at
one_part_more n j f part toks rest h = rw (repeat_some (location_part_at (expr_at n)) with_part j f toks part rest h) refl

pub no_part_more : (n j : ℕ) (t : ExprTree) (toks : Toks) → Stops 0 toks → assignment_at n j t toks ≡ assigned_at n t toks
unfolding assignment_at
no_part_more n j t toks stops = rw (repeat_none (location_part_at (expr_at n)) with_part j t toks (location_part_none (expr_at n) 0 toks stops)) refl

abbrev Assigning : ℕ → ℕ → ExprTree → Toks → Toks → Type 0
Assigning n k e toks rest = ((j : ℕ) → j + k ≡ 32 → named_action_at n toks ≡ assignment_at n j e rest) × StaysBelow (suc n) rest

one_more_element : (k : ℕ) (toks : Toks) (n : ℕ) (p : Pos) (f : ExprTree) (es : List ExprTree) (m rest : Toks) → is_location (apply (place_of f) f (expr_nodes es)) ≡ true → AreArgs es m rest → Assigning n k f toks (sign p signs.Open ∷ m)
    → Assigning n (suc k) (apply (place_of f) f (expr_nodes es)) toks rest
one_more_element k toks n p f es m rest l a ih =
    let x = exact_element n p (place_of f) f es m rest l a ih.1 in
    ((λ j h. ih.0 (suc j) (omega arith) ∙ one_part_more n j f (Args es) (sign p signs.Open ∷ m) rest x.0), x.1)

-- the state of the loop over the parts of what is assigned to
pub assigning : {k : ℕ} {e : ExprTree} {toks rest : Toks} → IsNamed k e toks rest → is_location e ≡ true → (n : ℕ) → StaysBelow (suc n) toks → GoesOn k rest → Assigning n k e toks rest
assigning (a_name {n = x} {rest = rest}) l n below on = ((λ j h. let e : j ≡ 32 = omega arith in rw e (assignment_begins n x rest on)), below.1)
assigning (with_args {es = es} {p = p} {m = m} {rest = rest} (a_name {n = x}) a lt) l n below on =
    let given = exact_args a n p below.1.0 below.1.1 in
    ((λ j h. let e : j ≡ 31 = omega arith in rw e (an_indexed_name n x p es m rest given.0 (one_long x.at (name x) es l) on)), given.1)
assigning (with_args {k = k} {e = f} {es = es} {p = p} {toks = toks} {m = m} {rest = rest} (with_args d b less) a lt) l n below on =
    one_more_element k toks n p f es m rest l a (assigning (with_args d b less) (base_located (place_of f) f es l) n below refl)
assigning (with_args {k = k} {e = f} {es = es} {p = p} {toks = toks} {m = m} {rest = rest} (with_field d less) a lt) l n below on =
    one_more_element k toks n p f es m rest l a (assigning (with_field d less) (base_located (place_of f) f es l) n below refl)
assigning (with_field {k = k} {e = f} {n = x} {p = p} {rest = rest} d lt) l n below on =
    let ih = assigning d l n below (dot_goes_on k p (name_token x ∷ rest)) in
    ((λ j h. ih.0 (suc j) (omega arith) ∙ one_part_more n j f (Field x) (sign p signs.Dot ∷ name_token x ∷ rest) rest (location_field (expr_at n) p x rest)), ih.1.1.1)
