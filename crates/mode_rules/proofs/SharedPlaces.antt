-- L7 by places is L7 by names.
use Rattle.std.proofs.Common.{◌≡◌, ◌++◌, ◌+◌, ◌<◌, ◌≤◌, ℕ, Bool, true, false, zero, suc, List, [], ◌∷◌, map, min, length, drop, get_or, refl, sym, ap, ◌∙◌, arith}
use Rattle.std.specs.Prelude.{nat_lt, if◌then◌else◌, flat_map}
use Rattle.std.proofs.lemmas.List.{map-append, drop_more}
use Rattle.chill_tree.specs.declared.tree.name.Name.{Name}
use Rattle.chill_base.specs.declared.pos.Pos.{Pos}
use Rattle.chill_tree.specs.LocalTree.{DeclarationTree, LocalTree, synonyms, syn_modes, new_modes, locations}
use Rattle.chill_tree.specs.ItemTree.{ModulionTree, ItemTree, ItemNodes, seize, grant, local_item, signals, procedure, process, modulion, action, no_items, more_items, modulion_item, ProgramTree}
use Rattle.diagnostics.specs.declared.diagnostic.Diagnostic.{Diagnostic}
use Rattle.diagnostics.specs.declared.rule.Rule.TheVariants as rules
use Rattle.checks_model.specs.Ground.{Ground}
use Rattle.checks_model.specs.Told.{tell_at}
use Rattle.checks_model.specs.Limits.{told_shared, scalars_named}
use Rattle.checks_model.specs.Sites.{declared_in, shared_in, shared_in_each, items_of}
use Rattle.elaborated_laws.proofs.Told.{not_above}
use Rattle.mode_rules.specs.Shared.{scalars_at, told_places, places_of, declared_places, local_places, shared_places, each_shared, all_shared}

named_so : (g : Ground) (before : ℕ) (ns : List Name) → told_shared g before ns ≡ told_places g before (places_of ns)
named_so g before [] = refl
named_so g before (n ∷ ns) = ap (λ rest. if nat_lt 65536 (before + scalars_named g n) then tell_at rules.L7 n.at ∷ [] else rest) (named_so g (before + scalars_named g n) ns)

both_so : (ns ks : List Name) (ps qs : List Pos) → places_of ns ≡ ps → places_of ks ≡ qs → places_of (ns ++ ks) ≡ ps ++ qs
both_so ns ks ps qs first later = map-append (λ n. n.at) ns ks ∙ ap (λ x. x ++ places_of ks) first ∙ ap (λ x. ps ++ x) later

declared_so : (ds : List DeclarationTree) → places_of (flat_map (λ d. d.names) ds) ≡ declared_places ds
declared_so [] = refl
declared_so (d ∷ ds) = both_so d.names (flat_map (λ d. d.names) ds) (places_of d.names) (declared_places ds) refl (declared_so ds)

local_so : (l : LocalTree) → places_of (declared_in l) ≡ local_places l
local_so (locations at ds) = declared_so ds
local_so (synonyms at ss) = refl
local_so (syn_modes at ds) = refl
local_so (new_modes at ds) = refl

mutual
  item_so : (i : ItemTree) → places_of (shared_in i) ≡ shared_places i
  item_so (local_item l) = local_so l
  item_so (modulion n kind items h closing) = items_so items
  item_so (seize at passed) = refl
  item_so (grant at passed) = refl
  item_so (signals at ss) = refl
  item_so (procedure p) = refl
  item_so (process p) = refl
  item_so (action s) = refl

  items_so : (is : ItemNodes) → places_of (shared_in_each is) ≡ each_shared is
  items_so no_items = refl
  items_so (more_items i is) = both_so (shared_in i) (shared_in_each is) (shared_places i) (each_shared is) (item_so i) (items_so is)

modulions_so : (ms : List ModulionTree) → places_of (flat_map shared_in (map modulion_item ms)) ≡ all_shared ms
modulions_so [] = refl
modulions_so (m ∷ ms) = both_so (shared_in (modulion_item m)) (flat_map shared_in (map modulion_item ms)) (shared_places (modulion_item m)) (all_shared ms) (item_so (modulion_item m)) (modulions_so ms)

pub shared_told : (g : Ground) (t : ProgramTree) → told_places g 0 (all_shared t.modulions) ≡ told_shared g 0 (flat_map shared_in (items_of t))
shared_told g t = ap (told_places g 0) (sym (modulions_so t.modulions)) ∙ sym (named_so g 0 (flat_map shared_in (items_of t)))

above : (a b : ℕ) → a < b → nat_lt a b ≡ true
above a b less = by (nat_lt a b) refl
  where
    by : (x : Bool) → nat_lt a b ≡ x → nat_lt a b ≡ true
    by true is = is
    by false is = absurd (let under = not_above a b is in omega (arith, less, under))

under : (a b : ℕ) → b ≤ a → nat_lt a b ≡ false
under a b less = grind arith

-- the first with which there are too many
pub over_there : (g : Ground) (sum more : ℕ) (at : Pos) (ats : List Pos) → more ≡ min (scalars_at g at) 65537 → 65536 < sum + more → told_places g sum (at ∷ ats) ≡ tell_at rules.L7 at ∷ []
over_there g sum more at ats is less =
    ap (λ b. if b then tell_at rules.L7 at ∷ [] else told_places g (sum + scalars_at g at) ats) (above 65536 (sum + scalars_at g at) (omega (arith, is, less)))

-- one with which there are few enough
pub within_there : (g : Ground) (sum more : ℕ) (at : Pos) (ats : List Pos) → more ≡ min (scalars_at g at) 65537 → sum + more ≤ 65536 → told_places g sum (at ∷ ats) ≡ told_places g (sum + more) ats
within_there g sum more at ats is few =
    let same : scalars_at g at ≡ more = omega (arith, is, few) in
    ap (λ b. if b then tell_at rules.L7 at ∷ [] else told_places g (sum + scalars_at g at) ats) (under 65536 (sum + scalars_at g at) (omega (arith, is, few)))
    ∙ ap (λ n. told_places g (sum + n) ats) same

-- the same along a list
pub over_at : (g : Ground) (sum k more : ℕ) (ats : List Pos) (d : Pos) → k < length ats → more ≡ min (scalars_at g (get_or ats k d)) 65537 → 65536 < sum + more → told_places g sum (drop k ats) ≡ tell_at rules.L7 (get_or ats k d) ∷ []
over_at g sum k more ats d less is over = ap (told_places g sum) (drop_more ats k d less) ∙ over_there g sum more (get_or ats k d) (drop (k + 1) ats) is over

pub ended : (g : Ground) (sum k : ℕ) (ats : List Pos) → length ats ≤ k → told_places g sum (drop k ats) ≡ []
ended g sum zero [] less = refl
ended g sum (suc k) [] less = refl
ended g sum zero (at ∷ ats) less = absurd (omega (arith, less))
ended g sum (suc k) (at ∷ ats) less = ended g sum k ats (omega (arith, less))

pub behind : (new told old own whole : List Diagnostic) → new ≡ told ++ own → told ≡ old → own ≡ whole → new ≡ old ++ whole
behind new told old own whole is same all = is ∙ ap (λ ds. ds ++ own) same ∙ ap (λ ds. old ++ ds) all
