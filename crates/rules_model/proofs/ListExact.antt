-- What is a list is read as that list.
use Rattle.std.proofs.Common.{◌≡◌, ℕ, ◌+◌, ◌<◌, ◌≤◌, false, List, [], ◌∷◌, length, Ok, refl, arith, length-append}
use Rattle.chill_base.specs.declared.pos.Pos.{Pos}
use Rattle.chill_tree.specs.declared.token.Sign.TheVariants as signs
use Rattle.chill_tree.specs.declared.tree.name.Name.{Name}
use Rattle.rules_model.specs.Marks.{Toks, sign, name_token, begins}
use Rattle.rules_model.specs.ListGrammar.{AreListed, one_of, and_of, IsName, is_name, AreNames}
use Rattle.rules_model.specs.Nesting.{StaysBelow}
use Rattle.rules_model.specs.Reading.{Read, name_at, listed_at}
use Rattle.rules_model.proofs.Loops.{Listing, listing_one, listing_and, listing_all}

-- how one of the list is read, where what stands behind it ends it
abbrev pub Exact : {X : Type 0} → (X → Toks → Toks → Type 0) → (Toks → Read X) → ℕ → (Toks → Type 0) → Type 0
Exact {X} Is read n Ends = (x : X) (toks rest : Toks) → Is x toks rest → StaysBelow n toks → Ends rest → (read toks ≡ Ok (x, rest)) × StaysBelow n rest

abbrev pub Shrinks : {X : Type 0} → (X → Toks → Toks → Type 0) → Type 0
Shrinks {X} Is = (x : X) (toks rest : Toks) → Is x toks rest → length rest < length toks

pub listed_shrinks : {X : Type 0} {Is : X → Toks → Toks → Type 0} → Shrinks Is → {xs : List X} {toks rest : Toks} → AreListed Is xs toks rest → length xs + length rest ≤ length toks
listed_shrinks s (one_of {x = x} {toks = toks} {rest = rest} d) = omega (arith, s x toks rest d)
listed_shrinks s (and_of {xs = xs} {x = x} {m = m} {rest = rest} l d) = omega (arith, listed_shrinks s l, s x m rest d, length-append xs (x ∷ []))

exact_listing : {X : Type 0} {Is : X → Toks → Toks → Type 0} (read : Toks → Read X) (n : ℕ) (Ends : Toks → Type 0) → Exact Is read n Ends → ((p : Pos) (m : Toks) → Ends (sign p signs.Comma ∷ m))
    → {xs : List X} {toks rest : Toks} → AreListed Is xs toks rest → StaysBelow n toks → Ends rest → Listing read xs toks rest × StaysBelow n rest × (0 < length xs)
exact_listing read n Ends one comma (one_of {x = x} {toks = toks} {rest = rest} d) below ends =
    let ih = one x toks rest d below ends in
    (listing_one read x toks rest ih.0, ih.1, omega arith)
exact_listing read n Ends one comma (and_of {xs = xs} {x = x} {p = p} {toks = toks} {m = m} {rest = rest} l d) below ends =
    let il = exact_listing read n Ends one comma l below (comma p m) in
    let id = one x m rest d il.1.1 ends in
    (listing_and read xs x p toks m rest il.0 id.0, id.1, omega (arith, length-append xs (x ∷ [])))

pub exact_listed : {X : Type 0} {Is : X → Toks → Toks → Type 0} (read : Toks → Read X) (n : ℕ) (Ends : Toks → Type 0) → Shrinks Is → Exact Is read n Ends → ((p : Pos) (m : Toks) → Ends (sign p signs.Comma ∷ m))
    → {xs : List X} {toks rest : Toks} → AreListed Is xs toks rest → StaysBelow n toks → Ends rest → begins signs.Comma rest ≡ false → (listed_at read toks ≡ Ok (xs, rest)) × StaysBelow n rest
exact_listed read n Ends s one comma {xs = xs} {toks = toks} {rest = rest} d below ends no_comma =
    let ih = exact_listing read n Ends one comma d below ends in
    (listing_all read xs toks rest ih.0 no_comma (omega (arith, listed_shrinks s d)) ih.2, ih.1)

-- ---- names

abbrev pub AnyEnd : Toks → Type 0
AnyEnd toks = Unit {0}

name_read : (x : Name) (toks rest : Toks) → IsName x toks rest → name_at toks ≡ Ok (x, rest)
unfolding name_at
name_read x toks rest is_name = refl

name_below : (x : Name) (toks rest : Toks) (n : ℕ) → IsName x toks rest → StaysBelow n toks → StaysBelow n rest
name_below x toks rest n is_name below = below.1

pub exact_name : (n : ℕ) → Exact IsName name_at n AnyEnd
exact_name n x toks rest d below ends = (name_read x toks rest d, name_below x toks rest n d below)

pub name_shrinks : Shrinks IsName
name_shrinks x toks rest is_name = omega arith

pub names_shrink : {ns : List Name} {toks rest : Toks} → AreNames ns toks rest → length rest < length toks
names_shrink (one_of {x = x} {toks = toks} {rest = rest} d) = name_shrinks x toks rest d
names_shrink (and_of {x = x} {m = m} {rest = rest} l d) = omega (arith, names_shrink l, name_shrinks x m rest d)

pub exact_names : {ns : List Name} {toks rest : Toks} → AreNames ns toks rest → (n : ℕ) → StaysBelow n toks → begins signs.Comma rest ≡ false → (listed_at name_at toks ≡ Ok (ns, rest)) × StaysBelow n rest
exact_names d n below no_comma = exact_listed name_at n AnyEnd name_shrinks (exact_name n) (λ p m. tt) d below tt no_comma

-- names begin with a name
pub record NamesFirst (toks : Toks) : Type 0 where
  pub name : Name
  pub others : Toks
  pub here : toks ≡ name_token name ∷ others

pub names_first : {ns : List Name} {toks rest : Toks} → AreNames ns toks rest → NamesFirst toks
names_first (one_of (is_name {n = x} {rest = rest})) = record { name = x; others = rest; here = refl }
names_first (and_of l d) = names_first l
