-- What a modulion grants, by its items: what its parts grant one of its items does, and no location that a region declares is granted by name.
use Rattle.std.proofs.Common.{◌≡◌, ℕ, Bool, true, false, ◌||◌, List, [], ◌∷◌, ◌++◌, Option, Some, None, inl, inr, refl, sym, ap, ◌∙◌, subst, true≢false, Contains}
use Rattle.std.specs.Prelude.{map, flat_map}
use Rattle.std.specs.List.{list_any}
use Rattle.std.specs.Str.{bytes_eq}
use Rattle.std.proofs.lemmas.List.Elements.{Contains-append_cases}
use Rattle.std.proofs.lemmas.Slice.Eq.{bytes_eq-Decides}
use Rattle.chill_base.specs.declared.pos.Pos.{Pos}
use Rattle.chill_tree.specs.declared.tree.name.Name.{Name}
use Rattle.chill_tree.specs.declared.tree.item.ModulionKind.TheVariants as modulions
use Rattle.chill_tree.specs.declared.tree.item.Passed.TheVariants.{Names, All}
use Rattle.chill_tree.specs.LocalTree.{DeclarationTree, synonyms, syn_modes, new_modes, locations, SynonymTree, ModeDefinitionTree, InitialTree}
use Rattle.chill_tree.specs.ItemTree.{SignalTree, ItemTree, ItemNodes, local_item, signals, procedure, process, action, no_items, more_items, items_in}
use Rattle.chill_tree.specs.ItemTree.{seize as seize_item, grant as grant_item, modulion as modulion_of}
use Rattle.names_model.specs.declared.identifier.Identifier.{Identifier}
use Rattle.names_model.specs.declared.kind.Kind.{Kind}
use Rattle.names_model.specs.declared.kind.Kind.TheVariants as kinds
use Rattle.names_model.specs.declared.definition.Definition.{Definition}
use Rattle.names_model.specs.declared.part.Mention.{Mention}
use Rattle.names_model.specs.Kinds.{is_location}
use Rattle.names_model.specs.Identifiers.{identifier, identifiers}
use Rattle.names_model.specs.Parts.{PartTree, grant, grant_all}
use Rattle.names_model.specs.ExprMentions.{mentions_of}
use Rattle.names_model.specs.StatementParts.{mentioned, synonym_part, mode_part, initial_parts, declaration_parts}
use Rattle.names_model.specs.ItemParts.{receiver_parts, signal_parts, item_parts, each_item}
use Rattle.names_laws.proofs.Members.{none_in, in_cases, any_at, here_in, later_in}
use Rattle.elaborated_laws.proofs.Told.{none_first, none_later}
use Rattle.written_laws.specs.Written.{Each}
use Rattle.written_laws.proofs.Shown.{each_append}
use Rattle.checks_model.specs.ProcessRules.{declares, told_granted_name, told_item}
use Rattle.elaboration_model.specs.Elaborated.{grants}
use Rattle.reached_laws.proofs.Owned.{GrantsNothing, nothing_granted, no_all_granted, DefinesSo}

either_left : (a b : Bool) → a ≡ true → (a || b) ≡ true
either_left true b is = refl
either_left false b is = absurd (true≢false (sym is))

either_right : (a b : Bool) → b ≡ true → (a || b) ≡ true
either_right true b is = refl
either_right false b is = is

-- ---- what items grant

abbrev granted_name : PartTree → List ℕ → List ℕ
granted_name (grant n) other = n.spelling
granted_name p other = other

-- the name in a list that is granted
record GrantedIn (ns : List Name) (n : Identifier) : Type 0 where
  name : Name
  same : name.text ≡ n.spelling
  there : Contains ns name

names_granted : (ns : List Name) (n : Identifier) → Contains (map (λ k. grant (identifier k)) ns) (grant n) → GrantedIn ns n
names_granted [] n c = absurd (none_in (grant n) c)
names_granted (k ∷ ns) n c = elim (in_cases (grant (identifier k)) (map (λ k. grant (identifier k)) ns) (grant n) c) [
  | inl is ↦ record { name = k; same = ap (λ p. granted_name p []) is; there = here_in k ns k refl }
  | inr behind ↦ (let rest = names_granted ns n behind in record { name = rest.name; same = rest.same; there = later_in k ns rest.name rest.there })
]

names_no_all : (ns : List Name) (at : Pos) → ¬ (Contains (map (λ k. grant (identifier k)) ns) (grant_all at))
names_no_all [] at c = none_in (grant_all at) c
names_no_all (k ∷ ns) at c = elim (in_cases (grant (identifier k)) (map (λ k. grant (identifier k)) ns) (grant_all at) c) [
  | inl is ↦ true≢false (sym (ap is_all is))
  | inr behind ↦ names_no_all ns at behind
]
  where
    is_all : PartTree → Bool
    is_all (grant_all at) = true
    is_all p = false

all_no_name : (at : Pos) (n : Identifier) → ¬ (Contains (grant_all at ∷ []) (grant n))
all_no_name at n c = elim (in_cases (grant_all at) [] (grant n) c) [
  | inl is ↦ true≢false (ap is_all is)
  | inr none ↦ none_in (grant n) none
]
  where
    is_all : PartTree → Bool
    is_all (grant_all at) = true
    is_all p = false

abbrev pub is_grant : ItemTree → Bool
is_grant (grant_item at passed) = true
is_grant i = false

-- items that grant nothing have no such parts
abbrev pub IsQuiet : ItemTree → Type 0
IsQuiet i = is_grant i ≡ false → Each GrantsNothing (item_parts i)

abbrev pub AreQuiet : ItemNodes → Type 0
AreQuiet no_items = Unit {0}
AreQuiet (more_items i is) = IsQuiet i × AreQuiet is

quiet_name : (i : ItemTree) (n : Identifier) {X : Type 0} → IsQuiet i → is_grant i ≡ false → Contains (item_parts i) (grant n) → X
quiet_name i n quiet is c = absurd (nothing_granted (item_parts i) n (quiet is) c)

quiet_all : (i : ItemTree) (at : Pos) {X : Type 0} → IsQuiet i → is_grant i ≡ false → Contains (item_parts i) (grant_all at) → X
quiet_all i at quiet is c = absurd (no_all_granted (item_parts i) at (quiet is) c)

by_names : (m : Name) (ns : List Name) (n : Identifier) → m.text ≡ n.spelling → GrantedIn ns n → list_any (λ (k : Name). bytes_eq k.text m.text) ns ≡ true
by_names m ns n same g = any_at (λ (k : Name). bytes_eq k.text m.text) ns g.name g.there ((bytes_eq-Decides g.name.text m.text).1 (g.same ∙ sym same))

item_grants : (i : ItemTree) (n : Identifier) (m : Name) → m.text ≡ n.spelling → IsQuiet i → Contains (item_parts i) (grant n) → grants m i ≡ true
item_grants (grant_item at (Names ns)) n m same quiet c = by_names m ns n same (names_granted ns n c)
item_grants (grant_item at (All p)) n m same quiet c = refl
item_grants i n m same quiet c = quiet_name i n quiet refl c

pub items_grant : (is : ItemNodes) (n : Identifier) (m : Name) → m.text ≡ n.spelling → AreQuiet is → Contains (each_item is) (grant n) → list_any (grants m) (items_in is) ≡ true
items_grant no_items n m same quiet c = absurd (none_in (grant n) c)
items_grant (more_items i is) n m same quiet c = elim (Contains-append_cases (item_parts i) (each_item is) (grant n) c) [
  | inl here ↦ either_left (grants m i) (list_any (grants m) (items_in is)) (item_grants i n m same quiet.0 here)
  | inr there ↦ either_right (grants m i) (list_any (grants m) (items_in is)) (items_grant is n m same quiet.1 there)
]

item_grants_all : (i : ItemTree) (at : Pos) (m : Name) → IsQuiet i → Contains (item_parts i) (grant_all at) → grants m i ≡ true
item_grants_all (grant_item p (Names ns)) at m quiet c = absurd (names_no_all ns at c)
item_grants_all (grant_item p (All q)) at m quiet c = refl
item_grants_all i at m quiet c = quiet_all i at quiet refl c

pub items_grant_all : (is : ItemNodes) (at : Pos) (m : Name) → AreQuiet is → Contains (each_item is) (grant_all at) → list_any (grants m) (items_in is) ≡ true
items_grant_all no_items at m quiet c = absurd (none_in (grant_all at) c)
items_grant_all (more_items i is) at m quiet c = elim (Contains-append_cases (item_parts i) (each_item is) (grant_all at) c) [
  | inl here ↦ either_left (grants m i) (list_any (grants m) (items_in is)) (item_grants_all i at m quiet.0 here)
  | inr there ↦ either_right (grants m i) (list_any (grants m) (items_in is)) (items_grant_all is at m quiet.1 there)
]

-- ---- a region grants no location by name

-- nothing is told of the items of a region
abbrev pub AreClean : ItemNodes → ItemNodes → Type 0
AreClean every no_items = Unit {0}
AreClean every (more_items i is) = (told_item modulions.Region every i ≡ []) × AreClean every is

untold : (every : ItemNodes) (ns : List Name) (k : Name) → flat_map (told_granted_name every) ns ≡ [] → Contains ns k → told_granted_name every k ≡ []
untold every [] k none c = absurd (none_in k c)
untold every (n ∷ ns) k none c = elim (in_cases n ns k c) [
  | inl is ↦ subst (λ x. told_granted_name every x ≡ []) is (none_first (told_granted_name every n) (flat_map (told_granted_name every) ns) none)
  | inr there ↦ untold every ns k (none_later (told_granted_name every n) (flat_map (told_granted_name every) ns) none) there
]

-- the name by which something is granted, which is no location's
pub record GrantedName (every : ItemNodes) (n : Identifier) : Type 0 where
  pub name : Name
  pub same : name.text ≡ n.spelling
  pub told : told_granted_name every name ≡ []

item_granted_name : (every : ItemNodes) (i : ItemTree) (n : Identifier) → told_item modulions.Region every i ≡ [] → IsQuiet i → Contains (item_parts i) (grant n) → GrantedName every n
item_granted_name every (grant_item at (Names ns)) n clean quiet c = (let g = names_granted ns n c in record { name = g.name; same = g.same; told = untold every ns g.name clean g.there })
item_granted_name every (grant_item at (All p)) n clean quiet c = absurd (all_no_name p n c)
item_granted_name every i n clean quiet c = quiet_name i n quiet refl c

pub items_granted_name : (every is : ItemNodes) (n : Identifier) → AreClean every is → AreQuiet is → Contains (each_item is) (grant n) → GrantedName every n
items_granted_name every no_items n clean quiet c = absurd (none_in (grant n) c)
items_granted_name every (more_items i is) n clean quiet c = elim (Contains-append_cases (item_parts i) (each_item is) (grant n) c) [
  | inl here ↦ item_granted_name every i n clean.0 quiet.0 here
  | inr there ↦ items_granted_name every is n clean.1 quiet.1 there
]

-- ---- the locations that items declare

module _ (text : List Definition) (k : Name) where
  -- a location of the name is such
  abbrev pub Declared : Type 0 → Kind → Identifier → Type 0
  Declared C kind n = is_location kind ≡ true → n.spelling ≡ k.text → C

  pub no_element : (C : Type 0) (n : Identifier) → Declared C kinds.Element n
  no_element C n is same = absurd (true≢false (sym is))

  abbrev pub AllDeclared : Type 0 → List PartTree → Type 0
  AllDeclared C ps = Each (DefinesSo text (Declared C) (no_element C)) ps

  all_other : (C : Type 0) (kind : Kind) → is_location kind ≡ false → (ns : List Name) → Each (Declared C kind) (identifiers ns)
  all_other C kind other [] = tt
  all_other C kind other (n ∷ ns) = ((λ is same. absurd (true≢false (sym is ∙ other))), all_other C kind other ns)

  abbrev named : Name → Bool
  named n = bytes_eq n.text k.text

  names_declared : (C : Type 0) (ns : List Name) → (list_any named ns ≡ true → C) → Each (Declared C kinds.Location) (identifiers ns)
  names_declared C [] into = tt
  names_declared C (n ∷ ns) into = ((λ is same. into (either_left (named n) (list_any named ns) ((bytes_eq-Decides n.text k.text).1 same))), names_declared C ns (λ later. into (either_right (named n) (list_any named ns) later)))

  mentions_declared : (C : Type 0) (ms : List Mention) → AllDeclared C (mentioned ms)
  mentions_declared C [] = tt
  mentions_declared C (m ∷ ms) = (tt, mentions_declared C ms)

  initial_declared : (C : Type 0) (x : Option InitialTree) → AllDeclared C (initial_parts x)
  initial_declared C None = tt
  initial_declared C (Some x) = mentions_declared C (mentions_of x.value)

  both : (C : Type 0) (ps qs : List PartTree) → AllDeclared C ps → AllDeclared C qs → AllDeclared C (ps ++ qs)
  both C ps qs one other = each_append (DefinesSo text (Declared C) (no_element C)) ps qs one other

  abbrev declares_it : DeclarationTree → Bool
  declares_it d = list_any named d.names

  locations_declared : (C : Type 0) (ds : List DeclarationTree) → (list_any declares_it ds ≡ true → C) → AllDeclared C (flat_map declaration_parts ds)
  locations_declared C [] into = tt
  locations_declared C (d ∷ ds) into =
      both C (declaration_parts d) (flat_map declaration_parts ds) (names_declared C d.names (λ here. into (either_left (declares_it d) (list_any declares_it ds) here)), initial_declared C d.initial)
      (locations_declared C ds (λ later. into (either_right (declares_it d) (list_any declares_it ds) later)))

  synonyms_declared : (C : Type 0) (ss : List SynonymTree) → AllDeclared C (map synonym_part ss)
  synonyms_declared C [] = tt
  synonyms_declared C (s ∷ ss) = (all_other C kinds.Synonym refl s.names, synonyms_declared C ss)

  modes_declared : (C : Type 0) (ds : List ModeDefinitionTree) → AllDeclared C (map mode_part ds)
  modes_declared C [] = tt
  modes_declared C (d ∷ ds) = (all_other C kinds.Mode refl (d.name ∷ []), modes_declared C ds)

  receiver_declared : (C : Type 0) (n : Option Name) → AllDeclared C (receiver_parts n)
  receiver_declared C None = tt
  receiver_declared C (Some n) = (tt, tt)

  signals_declared : (C : Type 0) (ss : List SignalTree) → AllDeclared C (flat_map signal_parts ss)
  signals_declared C [] = tt
  signals_declared C (s ∷ ss) = both C (signal_parts s) (flat_map signal_parts ss) (all_other C kinds.Signal refl (s.name ∷ []), receiver_declared C s.process) (signals_declared C ss)

  names_pass : (C : Type 0) (f : Name → PartTree) → ((n : Name) → DefinesSo text (Declared C) (no_element C) (f n)) → (ns : List Name) → AllDeclared C (map f ns)
  names_pass C f so [] = tt
  names_pass C f so (n ∷ ns) = (so n, names_pass C f so ns)

  item_declared : (C : Type 0) (every : ItemNodes) (i : ItemTree) → told_item modulions.Region every i ≡ [] → (declares k i ≡ true → C) → AllDeclared C (item_parts i)
  item_declared C every (local_item (synonyms at ss)) clean into = synonyms_declared C ss
  item_declared C every (local_item (syn_modes at ds)) clean into = modes_declared C ds
  item_declared C every (local_item (new_modes at ds)) clean into = modes_declared C ds
  item_declared C every (local_item (locations at ds)) clean into = locations_declared C ds into
  item_declared C every (signals at ss) clean into = signals_declared C ss
  item_declared C every (procedure p) clean into = ((λ is same. absurd (true≢false (sym is))), tt)
  item_declared C every (process p) clean into = ((λ is same. absurd (true≢false (sym is))), tt)
  item_declared C every (seize_item at (Names ns)) clean into = names_pass C _ (λ n. tt) ns
  item_declared C every (seize_item at (All p)) clean into = (tt, tt)
  item_declared C every (grant_item at (Names ns)) clean into = names_pass C _ (λ n. tt) ns
  item_declared C every (grant_item at (All p)) clean into = (tt, tt)
  item_declared C every (modulion_of n kind items h closing) clean into = ((λ is same. absurd (true≢false (sym is))), tt)
  item_declared C every (action s) clean into = let none : ⊥ = cc in absurd none

  pub items_declared : (C : Type 0) (every is : ItemNodes) → AreClean every is → (list_any (declares k) (items_in is) ≡ true → C) → AllDeclared C (each_item is)
  items_declared C every no_items clean into = tt
  items_declared C every (more_items i is) clean into =
      both C (item_parts i) (each_item is) (item_declared C every i clean.0 (λ here. into (either_left (declares k i) (list_any (declares k) (items_in is)) here)))
      (items_declared C every is clean.1 (λ later. into (either_right (declares k i) (list_any (declares k) (items_in is)) later)))
