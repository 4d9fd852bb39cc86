-- Where N1 is told nowhere, each reach sees at most one definition under a name.
use Rattle.std.proofs.Common.{◌≡◌, ℕ, suc, ◌+◌, ◌≤◌, Bool, true, false, ◌&&◌, List, [], ◌∷◌, ◌++◌, length, ◌⊎◌, inl, inr, refl, sym, subst, arith, Contains}
use Rattle.std.specs.Prelude.{not, if◌then◌else◌}
use Rattle.std.proofs.lemmas.List.Elements.{Contains-append_left, Contains-append_right, Contains-append_cases}
use Rattle.names_model.specs.declared.identifier.Identifier.{Identifier}
use Rattle.names_model.specs.declared.definition.Definition.{Definition}
use Rattle.names_model.specs.declared.entry.Entry.{Entry}
use Rattle.names_model.specs.declared.part.Clause.{Clause}
use Rattle.names_model.specs.Kinds.{is_location}
use Rattle.names_model.specs.Parts.{PartTree, PartNodes, define, seize, grant, grant_all, modulion, routine, block, no_parts, more_parts, parts_in}
use Rattle.names_model.specs.Sizes.{elements_in, clause_size, clauses_size, head_size, size_of}
use Rattle.names_model.specs.Definitions.{with_predefined, predefined_under, spelling_at, is_kind_at}
use Rattle.names_model.specs.Entries.{entry, numbers_of, named_entries, param_elements, param_names, own_entries, own_numbers, found, passed, given_all, granted_entries, given_entries, up_entries}
use Rattle.names_model.specs.Seeing.{Reach, outermost, in_modulion, in_block, seizes_all, seized_entries, entries_in, or_else, nothing, sees}
use Rattle.names_model.specs.NameRules.{body_reach, told_behind, told_twice}
use Rattle.names_laws.specs.Visible.{NoneAround, Sees}
use Rattle.names_laws.specs.Laws.{IsInside, StandsIn, IsReachOf, NoneToldTwice}
use Rattle.names_laws.proofs.Members.{none_in, filter_in, flat_map_in}
use Rattle.names_laws.proofs.Passing.{Tells, passed_is}
use Rattle.names_laws.proofs.Ups.{given_by, Listed, tells_listed, own_listed}
use Rattle.names_laws.proofs.Seen.{nothing_tells, seen_tells}
use Rattle.names_laws.proofs.Predefined.{predefined_once}
use Rattle.names_laws.proofs.Agreeing.{short_one, or_else_short, Agree, found_short, Apart, EachAgrees, each_append, each_none, each_cons, agree_all, untold_apart}

-- entries from which some may have been left out
data Kept : List Entry → List Entry → Type 0 where
  none_kept : {fs : List Entry} → Kept [] fs
  keeps : {x : Entry} {es fs : List Entry} → Kept es fs → Kept (x ∷ es) (x ∷ fs)
  leaves : {x : Entry} {es fs : List Entry} → Kept es fs → Kept es (x ∷ fs)

kept_front : (es fs : List Entry) → Kept es (es ++ fs)
kept_front [] fs = none_kept
kept_front (x ∷ es) fs = keeps (kept_front es fs)

kept_all : (es : List Entry) → Kept es es
kept_all [] = none_kept
kept_all (x ∷ es) = keeps (kept_all es)

kept_behind : {es fs : List Entry} (gs : List Entry) → Kept es fs → Kept es (gs ++ fs)
kept_behind [] k = k
kept_behind (x ∷ gs) k = leaves (kept_behind gs k)

kept_append : {es fs gs hs : List Entry} → Kept es fs → Kept gs hs → Kept (es ++ gs) (fs ++ hs)
kept_append (none_kept {fs}) l = kept_behind fs l
kept_append (keeps k) l = keeps (kept_append k l)
kept_append (leaves k) l = leaves (kept_append k l)

module _ (all : List Definition) where
  -- ---- single names

  agree_one : (k : ℕ) → Agree all (k ∷ [])
  agree_one k d e c h same = short_one (k ∷ []) d e (omega arith) c h

  each_named : (ns : List Identifier) (from : ℕ) → EachAgrees all (named_entries from ns)
  each_named [] from = each_none all
  each_named (n ∷ ns) from = each_cons all (entry n.at (from ∷ [])) (named_entries (suc from) ns) (agree_one from) (each_named ns (suc from))

  each_param_elements : (cs : List Clause) (from : ℕ) → EachAgrees all (param_elements from cs)
  each_param_elements [] from = each_none all
  each_param_elements (c ∷ cs) from = each_append all (named_entries (from + length c.names) (elements_in c.text)) (param_elements (from + clause_size c) cs) (each_named (elements_in c.text) (from + length c.names)) (each_param_elements cs (from + clause_size c))

  each_param_names : (cs : List Clause) (from : ℕ) → EachAgrees all (param_names from cs)
  each_param_names [] from = each_none all
  each_param_names (c ∷ cs) from = each_append all (named_entries from c.names) (param_names (from + clause_size c) cs) (each_named c.names from) (each_param_names cs (from + clause_size c))

  each_own : (p : PartTree) (from : ℕ) → EachAgrees all (own_entries from p)
  each_own (define c) from = each_append all (named_entries from c.names) (named_entries (from + length c.names) (elements_in c.text)) (each_named c.names from) (each_named (elements_in c.text) (from + length c.names))
  each_own (modulion n region size ps) from = each_cons all (entry n.at (from ∷ [])) [] (agree_one from) (each_none all)
  each_own (routine n kind params result size ps) from =
      let elements = param_elements (suc from) params in
      let results = named_entries (suc from + clauses_size params) (elements_in result) in
      each_cons all (entry n.at (from ∷ [])) (elements ++ results) (agree_one from)
      (each_append all elements results (each_param_elements params (suc from)) (each_named (elements_in result) (suc from + clauses_size params)))
  each_own p from = each_none all

  -- ---- what passes a border

  agree_passed : (has : List ℕ → List ℕ) (Has : ℕ → Type 0) → Tells all has Has → ((d e : ℕ) → Has d → Has e → spelling_at all d ≡ spelling_at all e → d ≡ e) → (n : List ℕ) → Agree all (passed all has n)
  agree_passed has Has tells one n d e c k same = one d e (had d c) (had e k) same
    where
      had : (x : ℕ) → Contains (passed all has n) x → Has x
      had x c = elim (passed_is all has Has tells n x c) [
        | inl h ↦ h.0
        | inr a ↦ a.has
      ]

  each_seized : (has : List ℕ → List ℕ) (Has : ℕ → Type 0) → Tells all has Has → ((d e : ℕ) → Has d → Has e → spelling_at all d ≡ spelling_at all e → d ≡ e) → (p : PartTree) → EachAgrees all (seized_entries all has p)
  each_seized has Has tells one (seize n) = each_cons all (entry n.at (passed all has n.spelling)) [] (agree_passed has Has tells one n.spelling) (each_none all)
  each_seized has Has tells one p = each_none all

  -- what a modulion enters around it, where it has one definition of each name
  each_granted : (number : ℕ) (region : Bool) (inner : PartNodes) → Agree all (numbers_of (up_entries all (suc number) inner)) → (p : PartTree) → EachAgrees all (granted_entries all region (found all (up_entries all (suc number) inner)) (own_numbers (suc number) inner) p)
  each_granted number region inner agree (grant n) = each_cons all (entry n.at (passed all (found all (up_entries all (suc number) inner)) n.spelling)) []
      (agree_passed (found all (up_entries all (suc number) inner)) (Listed all (suc number) inner) (tells_listed all (suc number) inner) agree n.spelling) (each_none all)
  each_granted number region inner agree (grant_all at) = each_cons all (entry at (given_all all region (own_numbers (suc number) inner))) []
      (λ d e c k same. agree d e (listed d c) (listed e k) same) (each_none all)
    where
      listed : (x : ℕ) → Contains (given_all all region (own_numbers (suc number) inner)) x → Contains (numbers_of (up_entries all (suc number) inner)) x
      listed x c = own_listed all (suc number) x inner (filter_in (λ k. not (region && is_kind_at is_location all k)) (own_numbers (suc number) inner) x c).0
  each_granted number region inner agree p = each_none all

  each_given : (number : ℕ) (region : Bool) (inner : PartNodes) → Agree all (numbers_of (up_entries all (suc number) inner)) → EachAgrees all (given_by all number region inner)
  each_given number region inner agree x c =
      let q = flat_map_in (granted_entries all region (found all (up_entries all (suc number) inner)) (own_numbers (suc number) inner)) (parts_in inner) x c in
      each_granted number region inner agree q.0 x q.2

  -- ---- leaving out entries

  numbers_kept : {es fs : List Entry} (d : ℕ) → Kept es fs → Contains (numbers_of es) d → Contains (numbers_of fs) d
  numbers_kept d none_kept c = absurd (none_in d c)
  numbers_kept d (keeps {x} {es} {fs} k) c = by (Contains-append_cases x.numbers (numbers_of es) d c) (numbers_kept d k)
    where
      by : Contains x.numbers d ⊎ Contains (numbers_of es) d → (Contains (numbers_of es) d → Contains (numbers_of fs) d) → Contains (x.numbers ++ numbers_of fs) d
      by (inl here) rest = Contains-append_left x.numbers (numbers_of fs) d here
      by (inr there) rest = Contains-append_right x.numbers (numbers_of fs) d (rest there)
  numbers_kept d (leaves {x} {es} {fs} k) c = Contains-append_right x.numbers (numbers_of fs) d (numbers_kept d k c)

  apart_kept : {es fs : List Entry} → Kept es fs → Apart all fs → Apart all es
  apart_kept none_kept apart = tt
  apart_kept (keeps k) apart = ((λ c d there c' same. apart.0 c d there (numbers_kept d k c') same), apart_kept k apart.1)
  apart_kept (leaves k) apart = apart_kept k apart.1

  -- of the entries of a reach, those are kept that it has from its parts
  kept_up : (around : List ℕ → List ℕ) (ps : PartNodes) (from : ℕ) → Kept (up_entries all from ps) (entries_in all around from ps)
  kept_up around no_parts from = none_kept
  kept_up around (more_parts p ps) from =
      kept_append (kept_append (kept_front (own_entries from p) (seized_entries all around p)) (kept_all (given_entries all from p))) (kept_up around ps (from + size_of p))

-- ---- in a program where N1 is told nowhere

module _ (text : List Definition) where
  abbrev AllEach : List Entry → Type 0
  AllEach es = EachAgrees (with_predefined text) es

  -- N1 is told in no reach that stands in these parts
  abbrev Untold : Reach → ℕ → PartNodes → Type 0
  Untold r from ps = (q : Reach) → StandsIn r from ps q → told_twice text q ≡ []

  mutual
    each_part : (p : PartTree) (r : Reach) (from : ℕ) → ((q : Reach) → IsInside r from p q → told_twice text q ≡ []) → AllEach (given_entries (with_predefined text) from p)
    each_part (modulion n region size ps) r from untold =
        each_given (with_predefined text) from region ps (agree_all (with_predefined text) (up_entries (with_predefined text) (suc from) ps)
        (apart_kept (with_predefined text) (kept_up (with_predefined text) (sees text r) ps (suc from))
        (untold_apart (with_predefined text) (entries_in (with_predefined text) (sees text r) (suc from) ps) [] (untold (in_modulion r (suc from) ps) (inl refl))))
        (each_up ps (in_modulion r (suc from) ps) (suc from) (λ q s. untold q (inr s))))
    each_part p r from untold = each_none (with_predefined text)

    each_up : (ps : PartNodes) (r : Reach) (from : ℕ) → Untold r from ps → AllEach (up_entries (with_predefined text) from ps)
    each_up no_parts r from untold = each_none (with_predefined text)
    each_up (more_parts p ps) r from untold =
        each_append (with_predefined text) (own_entries from p ++ given_entries (with_predefined text) from p) (up_entries (with_predefined text) (from + size_of p) ps)
        (each_append (with_predefined text) (own_entries from p) (given_entries (with_predefined text) from p) (each_own (with_predefined text) p from) (each_part p r from (λ q s. untold q (inl s))))
        (each_up ps r (from + size_of p) (λ q s. untold q (inr s)))

  -- one definition at most is there under each name
  abbrev One : (List ℕ → List ℕ) → Type 0
  One has = (n : List ℕ) → length (has n) ≤ 1

  one_had : (has : List ℕ → List ℕ) (Has : ℕ → Type 0) → Tells (with_predefined text) has Has → One has → (d e : ℕ) → Has d → Has e → spelling_at (with_predefined text) d ≡ spelling_at (with_predefined text) e → d ≡ e
  one_had has Has tells one d e h k same =
      short_one (has (spelling_at (with_predefined text) e)) d e (one (spelling_at (with_predefined text) e)) (tells.listed (spelling_at (with_predefined text) e) d h same) (tells.listed (spelling_at (with_predefined text) e) e k refl)

  each_in : (has : List ℕ → List ℕ) (Has : ℕ → Type 0) → Tells (with_predefined text) has Has → One has → (ps : PartNodes) (r : Reach) (from : ℕ) → Untold r from ps → AllEach (entries_in (with_predefined text) has from ps)
  each_in has Has tells one no_parts r from untold = each_none (with_predefined text)
  each_in has Has tells one (more_parts p ps) r from untold =
      let all = with_predefined text in
      each_append all (own_entries from p ++ seized_entries all has p ++ given_entries all from p) (entries_in all has (from + size_of p) ps)
      (each_append all (own_entries from p ++ seized_entries all has p) (given_entries all from p)
      (each_append all (own_entries from p) (seized_entries all has p) (each_own all p from) (each_seized all has Has tells (one_had has Has tells one) p))
      (each_part p r from (λ q s. untold q (inl s))))
      (each_in has Has tells one ps r (from + size_of p) (λ q s. untold q (inr s)))

  -- what such entries have under a name, or else what is there otherwise
  one_found : (es : List Entry) (rest : List ℕ → List ℕ) → told_behind (with_predefined text) [] es ≡ [] → AllEach es → One rest → One (λ n. or_else (found (with_predefined text) es n) (rest n))
  one_found es rest untold each one n =
      or_else_short (found (with_predefined text) es n) (rest n)
      (found_short (with_predefined text) es n (agree_all (with_predefined text) es (untold_apart (with_predefined text) es [] untold) each)) (one n)

  one_outermost : (ps : PartNodes) → told_twice text (outermost ps) ≡ [] → Untold (outermost ps) 0 ps → One (sees text (outermost ps))
  one_outermost ps untold inside =
      one_found (entries_in (with_predefined text) nothing 0 ps) (predefined_under text) untold
      (each_in nothing NoneAround (nothing_tells (with_predefined text)) (λ n. omega arith) ps (outermost ps) 0 inside) (predefined_once text)

  one_modulion : (r : Reach) (from : ℕ) (ps : PartNodes) → One (sees text r) → told_twice text (in_modulion r from ps) ≡ [] → Untold (in_modulion r from ps) from ps → One (sees text (in_modulion r from ps))
  one_modulion r from ps one untold inside =
      one_found (entries_in (with_predefined text) (sees text r) from ps) (λ n. if seizes_all ps then sees text r n else predefined_under text n) untold
      (each_in (sees text r) (Sees text r) (seen_tells text r) one ps (in_modulion r from ps) from inside) (λ n. by n (seizes_all ps))
    where
      by : (n : List ℕ) (b : Bool) → length (if b then sees text r n else predefined_under text n) ≤ 1
      by n true = one n
      by n false = predefined_once text n

  one_block : (r : Reach) (head : List Entry) (from : ℕ) (ps : PartNodes) → AllEach head → One (sees text r) → told_twice text (in_block r head from ps) ≡ [] → Untold (in_block r head from ps) from ps → One (sees text (in_block r head from ps))
  one_block r head from ps each one untold inside =
      one_found (head ++ entries_in (with_predefined text) (sees text r) from ps) (sees text r) untold
      (each_append (with_predefined text) head (entries_in (with_predefined text) (sees text r) from ps) each
      (each_in (sees text r) (Sees text r) (seen_tells text r) one ps (in_block r head from ps) from inside)) one

  -- a reach that is the opened one, or stands in it
  either : (opened q : Reach) (Inside : Type 0) → (q ≡ opened) ⊎ Inside → One (sees text opened) → (Inside → One (sees text q)) → One (sees text q)
  either opened q Inside (inl is) one rest = subst (λ o. One (sees text o)) (sym is) one
  either opened q Inside (inr inside) one rest = rest inside

  mutual
    one_inside : (p : PartTree) (r : Reach) (from : ℕ) → One (sees text r) → ((q : Reach) → IsInside r from p q → told_twice text q ≡ []) → (q : Reach) → IsInside r from p q → One (sees text q)
    one_inside (modulion n region size ps) r from one untold q at =
        let o = in_modulion r (suc from) ps in
        let inside : Untold o (suc from) ps = λ k s. untold k (inr s) in
        let here = one_modulion r (suc from) ps one (untold o (inl refl)) inside in
        either o q (StandsIn o (suc from) ps q) at here (λ s. one_standing ps o (suc from) here inside q s)
    one_inside (routine n kind params result size ps) r from one untold q at =
        let o = body_reach r from params result ps in
        let inside : Untold o (from + head_size params result) ps = λ k s. untold k (inr s) in
        let here = one_block r (param_names (suc from) params) (from + head_size params result) ps (each_param_names (with_predefined text) params (suc from)) one (untold o (inl refl)) inside in
        either o q (StandsIn o (from + head_size params result) ps q) at here (λ s. one_standing ps o (from + head_size params result) here inside q s)
    one_inside (block size ps) r from one untold q at =
        let o = in_block r [] from ps in
        let inside : Untold o from ps = λ k s. untold k (inr s) in
        let here = one_block r [] from ps (each_none (with_predefined text)) one (untold o (inl refl)) inside in
        either o q (StandsIn o from ps q) at here (λ s. one_standing ps o from here inside q s)
    one_inside p r from one untold q at = absurd at

    one_standing : (ps : PartNodes) (r : Reach) (from : ℕ) → One (sees text r) → Untold r from ps → (q : Reach) → StandsIn r from ps q → One (sees text q)
    one_standing no_parts r from one untold q at = absurd at
    one_standing (more_parts p ps) r from one untold q (inl at) = one_inside p r from one (λ k s. untold k (inl s)) q at
    one_standing (more_parts p ps) r from one untold q (inr at) = one_standing ps r (from + size_of p) one (λ k s. untold k (inr s)) q at

pub one_definition : (text : List Definition) (ps : PartNodes) → NoneToldTwice text ps → (r : Reach) (n : List ℕ) → IsReachOf ps r → length (sees text r n) ≤ 1
one_definition text ps untold r n at =
    let inside : (q : Reach) → StandsIn (outermost ps) 0 ps q → told_twice text q ≡ [] = λ q s. untold q (inr s) in
    let here = one_outermost text ps (untold (outermost ps) (inl refl)) inside in
    either text (outermost ps) r (StandsIn (outermost ps) 0 ps r) at here (λ s. one_standing text ps (outermost ps) 0 here inside r s) n
