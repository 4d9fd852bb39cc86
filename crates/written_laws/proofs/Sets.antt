-- The SETs of a mode that defines something have their elements among the definitions.
use Rattle.std.proofs.Common.{◌≡◌, ◌≤◌, ℕ, zero, suc, Bool, List, [], ◌∷◌, ◌++◌, Option, Some, None, inl, inr, length, length-append, refl, ap, ◌∙◌, arith}
use Rattle.std.specs.Prelude.{map, flat_map, replicate}
use Rattle.diagnostics.specs.Listing.{IsIn}
use Rattle.chill_tree.specs.declared.tree.name.Name.{Name}
use Rattle.chill_tree.specs.ModeTree as written
use Rattle.names_model.specs.Definitions.{numbers_on}
use Rattle.checks_model.specs.Ground.{Origin, a_synonym, a_mode, an_element, a_location, a_parameter, a_procedure, a_signal}
use Rattle.checks_model.specs.Origins.{sets_in, elements, elements_of, elements_of_some}
use Rattle.written_laws.specs.Written.{Each}
use Rattle.written_laws.proofs.Shown.{each_append, each_map, each_any, each_same}

-- ---- members of lists

pub in_first : {A : Type 0} (x : A) (xs ys : List A) → IsIn x xs → IsIn x (xs ++ ys)
in_first x [] ys is = absurd is
in_first x (z ∷ xs) ys (inl same) = inl same
in_first x (z ∷ xs) ys (inr there) = inr (in_first x xs ys there)

pub in_later : {A : Type 0} (x : A) (xs ys : List A) → IsIn x ys → IsIn x (xs ++ ys)
in_later x [] ys is = is
in_later x (z ∷ xs) ys is = inr (in_later x xs ys is)

pub each_more : {A : Type 0} (P Q : A → Type 0) → ((x : A) → P x → Q x) → (xs : List A) → Each P xs → Each Q xs
each_more P Q step [] each = tt
each_more P Q step (x ∷ xs) each = (step x each.0, each_more P Q step xs each.1)

-- ---- elements

-- the first element of a SET is one of the definitions
abbrev pub IsFirstIn : List Origin → List Name → Type 0
IsFirstIn os [] = Unit {0}
IsFirstIn os (n ∷ ns) = (owner : Option (Name × Bool)) × IsIn (an_element (n ∷ ns) 0 owner) os

-- and there are as many definitions as it has elements
abbrev pub HasElements : List Origin → List Name → Type 0
HasElements os ns = (length ns ≤ length os) × IsFirstIn os ns

first_there : (os ps : List Origin) (ns : List Name) → IsFirstIn os ns → IsFirstIn (os ++ ps) ns
first_there os ps [] is = tt
first_there os ps (n ∷ ns) is = (is.0, in_first (an_element (n ∷ ns) 0 is.0) os ps is.1)

later_there : (os ps : List Origin) (ns : List Name) → IsFirstIn ps ns → IsFirstIn (os ++ ps) ns
later_there os ps [] is = tt
later_there os ps (n ∷ ns) is = (is.0, in_later (an_element (n ∷ ns) 0 is.0) os ps is.1)

pub more_behind : (os ps : List Origin) (ns : List Name) → HasElements os ns → HasElements (os ++ ps) ns
more_behind os ps ns has = ((let few = has.0 in let both = length-append os ps in omega (arith, few, both)), first_there os ps ns has.1)

pub more_before : (os ps : List Origin) (ns : List Name) → HasElements ps ns → HasElements (os ++ ps) ns
more_before os ps ns has = ((let few = has.0 in let both = length-append os ps in omega (arith, few, both)), later_there os ps ns has.1)

length-map : {A B : Type 0} (f : A → B) (xs : List A) → length (map f xs) ≡ length xs
length-map f [] = refl
length-map f (x ∷ xs) = ap suc (length-map f xs)

pub length-numbers : (from count : ℕ) → length (numbers_on from count) ≡ count
length-numbers from zero = refl
length-numbers from (suc count) = ap suc (length-numbers (suc from) count)

own_first : (owner : Option (Name × Bool)) (ns : List Name) → IsFirstIn (elements owner ns) ns
own_first owner [] = tt
own_first owner (n ∷ ns) = (owner, inl refl)

own_elements : (owner : Option (Name × Bool)) (ns : List Name) → HasElements (elements owner ns) ns
own_elements owner ns =
    let many : length (elements owner ns) ≡ length ns = length-map (λ part. an_element ns part owner) (numbers_on 0 (length ns)) ∙ length-numbers 0 (length ns) in
    ((let same = many in omega (arith, same)), own_first owner ns)

-- each SET of a list has its elements among those of all
pub sets_have : (owner : Option (Name × Bool)) (sets : List (List Name)) → Each (HasElements (flat_map (elements owner) sets)) sets
sets_have owner [] = tt
sets_have owner (ns ∷ sets) = (
  more_behind (elements owner ns) (flat_map (elements owner) sets) ns (own_elements owner ns),
  each_more (HasElements (flat_map (elements owner) sets)) (HasElements (flat_map (elements owner) (ns ∷ sets))) (more_before (elements owner ns) (flat_map (elements owner) sets)) sets (sets_have owner sets),
)

-- ---- what defines something

abbrev pub sets_of_some : Option written.ModeTree → List (List Name)
sets_of_some None = []
sets_of_some (Some w) = sets_in w

abbrev pub sets_of_parts : Option (List written.ModeTree) → List (List Name)
sets_of_parts None = []
sets_of_parts (Some ws) = flat_map sets_in ws

-- the SETs of what defines something
abbrev pub sets_of : Origin → List (List Name)
sets_of (a_synonym s) = sets_of_some s.mode
sets_of (a_mode novel w) = sets_in w
sets_of (an_element ns part owner) = ns ∷ []
sets_of (a_location d) = sets_in d.mode
sets_of (a_parameter w) = sets_in w
sets_of (a_procedure p) = sets_of_some p.returns
sets_of (a_signal s) = sets_of_parts s.parts
sets_of o = []

abbrev pub HasSets : List Origin → Origin → Type 0
HasSets os o = Each (HasElements os) (sets_of o)

-- each of the definitions has its SETs' elements among them
abbrev pub Closed : List Origin → Type 0
Closed os = Each (HasSets os) os

sets_behind : (os ps : List Origin) (o : Origin) → HasSets os o → HasSets (os ++ ps) o
sets_behind os ps o has = each_more (HasElements os) (HasElements (os ++ ps)) (more_behind os ps) (sets_of o) has

pub sets_before : (os ps : List Origin) (o : Origin) → HasSets ps o → HasSets (os ++ ps) o
sets_before os ps o has = each_more (HasElements ps) (HasElements (os ++ ps)) (more_before os ps) (sets_of o) has

pub closed_both : (os ps : List Origin) → Closed os → Closed ps → Closed (os ++ ps)
closed_both os ps first later =
    each_append (HasSets (os ++ ps)) os ps (each_more (HasSets os) (HasSets (os ++ ps)) (sets_behind os ps) os first) (each_more (HasSets ps) (HasSets (os ++ ps)) (sets_before os ps) ps later)

-- the elements of SETs are closed
elements_from : (owner : Option (Name × Bool)) (ns : List Name) (ks : List ℕ) → Each (HasSets (elements owner ns)) (map (λ part. an_element ns part owner) ks)
elements_from owner ns ks = each_map (λ k. Unit {0}) (HasSets (elements owner ns)) (λ part. an_element ns part owner) (λ k fits. (own_elements owner ns, tt)) ks (each_any (λ k. Unit {0}) (λ k. tt) ks)

pub elements_closed : (owner : Option (Name × Bool)) (sets : List (List Name)) → Closed (flat_map (elements owner) sets)
elements_closed owner [] = tt
elements_closed owner (ns ∷ sets) = closed_both (elements owner ns) (flat_map (elements owner) sets) (elements_from owner ns (numbers_on 0 (length ns))) (elements_closed owner sets)

-- names of one definition before the elements of its SETs
pub with_elements : (count : ℕ) (o : Origin) (inside : List Origin) → Each (HasElements inside) (sets_of o) → Closed inside → Closed (replicate count o ++ inside)
with_elements count o inside has closed =
    each_append (HasSets (replicate count o ++ inside)) (replicate count o) inside
    (each_same (HasSets (replicate count o ++ inside)) count o (sets_before (replicate count o) inside o has)) (each_more (HasSets inside) (HasSets (replicate count o ++ inside)) (sets_before (replicate count o) inside) inside closed)

pub some_closed : (w : Option written.ModeTree) → Closed (elements_of_some w)
some_closed None = tt
some_closed (Some w) = elements_closed None (sets_in w)

pub some_have : (w : Option written.ModeTree) → Each (HasElements (elements_of_some w)) (sets_of_some w)
some_have None = tt
some_have (Some w) = sets_have None (sets_in w)

pub many_closed : (ws : List written.ModeTree) → Closed (flat_map (elements_of None) ws)
many_closed [] = tt
many_closed (w ∷ ws) = closed_both (elements_of None w) (flat_map (elements_of None) ws) (elements_closed None (sets_in w)) (many_closed ws)

pub many_have : (ws : List written.ModeTree) → Each (HasElements (flat_map (elements_of None) ws)) (flat_map sets_in ws)
many_have [] = tt
many_have (w ∷ ws) =
    let own = elements_of None w in
    let rest = flat_map (elements_of None) ws in
    each_append (HasElements (own ++ rest)) (sets_in w) (flat_map sets_in ws) (each_more (HasElements own) (HasElements (own ++ rest)) (more_behind own rest) (sets_in w) (sets_have None (sets_in w)))
    (each_more (HasElements rest) (HasElements (own ++ rest)) (more_before own rest) (flat_map sets_in ws) (many_have ws))
