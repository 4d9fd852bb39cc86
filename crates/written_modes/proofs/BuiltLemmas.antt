-- What is told of arrays and structures, and the modes that they are, by what is found of their parts.
use Rattle.std.proofs.Common.{◌≡◌, List, [], ◌∷◌, ◌++◌, refl, ap, sym, ◌∙◌, append_assoc}
use Rattle.std.specs.Prelude.{true, false, Option, Some, None, option_map, map}
use Rattle.chill_base.specs.declared.pos.Pos.{Pos}
use Rattle.chill_tree.specs.declared.tree.mode.Packing.{Packing}
use Rattle.chill_tree.specs.ModeTree as written
use Rattle.modes.specs.ModeTree.{ModeTree, SpreadTree, FieldTree, structure, field_nodes}
use Rattle.diagnostics.specs.declared.diagnostic.Diagnostic.{Diagnostic}
use Rattle.checks_model.specs.Ground.{Ground}
use Rattle.checks_model.specs.Told.{is_none_told}
use Rattle.checks_model.specs.WrittenModes.{unless_told, told_of_index, told_of_base, told_in_spread, told_spread, told_large, spread_there, array_from, mode_of_index, mode_of_base, fields_there, told_in_fields, told_fields, have_places, structure_from, is_packed}
use Rattle.written_modes.specs.Fields.{FieldSeen, field_seen, all_placed, told_all, trees_of_fields}
use Rattle.written_modes.proofs.Gates.{told-broken, kept-clean, kept-then_broken, none_left_told, none_left, some_left_told, some_left, array_kept}
use Rattle.written_modes.proofs.FieldLemmas.{all-seen, from-seen}

-- that is told behind the old list of a mode of values that is a part, and this is it
pub record IsBase (g : Ground) (b : written.BaseTree) (old new : List Diagnostic) (m : Option ModeTree) : Type 0 where
  pub told : new ≡ old ++ told_of_base g false b
  pub mode : m ≡ mode_of_base g false b

-- ---- arrays

-- what is found of an array's parts, and what was told of them
pub record HasParts (g : Ground) (at : Pos) (i : written.IndexTree) (b : written.BaseTree) (s : Option written.SpreadTree) (old new : List Diagnostic) (x e : Option ModeTree) (h : Option SpreadTree) : Type 0 where
  pub index : x ≡ mode_of_index g i
  pub element : e ≡ mode_of_base g false b
  pub spread : h ≡ unless_told (told_spread g at x e s) (spread_there g s)
  pub told : new ≡ ((old ++ told_of_index g i) ++ told_of_base g false b) ++ (told_in_spread g s ++ told_spread g at x e s)

same-spread : (g : Ground) (at : Pos) (s : Option written.SpreadTree) (x y e f : Option ModeTree) → x ≡ y → e ≡ f → told_spread g at x e s ≡ told_spread g at y f s
same-spread g at s x y e f p q = ap (λ x. told_spread g at x e s) p ∙ ap (λ e. told_spread g at y e s) q

array-made : (g : Ground) (at : Pos) (i : written.IndexTree) (b : written.BaseTree) (s : Option written.SpreadTree) (old new : List Diagnostic) (x e : Option ModeTree) (h : Option SpreadTree) → HasParts g at i b s old new x e h
    → array_from x e h ≡ unless_told (told_spread g at (mode_of_index g i) (mode_of_base g false b) s) (array_from (mode_of_index g i) (mode_of_base g false b) (spread_there g s))
array-made g at i b s old new x e h p =
    let sp = told_spread g at (mode_of_index g i) (mode_of_base g false b) s in
    ap (λ x. array_from x e h) p.index
    ∙ ap (λ e. array_from (mode_of_index g i) e h) p.element
    ∙ ap (λ h. array_from (mode_of_index g i) (mode_of_base g false b) h) (p.spread ∙ ap (λ t. unless_told t (spread_there g s)) (same-spread g at s x (mode_of_index g i) e (mode_of_base g false b) p.index p.element))
    ∙ sym (array_kept sp (mode_of_index g i) (mode_of_base g false b) (spread_there g s))

four : (old a b c d : List Diagnostic) → ((old ++ a) ++ b) ++ (c ++ d) ≡ old ++ (((a ++ b) ++ c) ++ d)
four old a b c d =
    ap (λ t. t ++ (c ++ d)) (append_assoc old a b)
    ∙ append_assoc old (a ++ b) (c ++ d)
    ∙ ap (λ t. old ++ t) (sym (append_assoc (a ++ b) c d))

array-told : (g : Ground) (at : Pos) (i : written.IndexTree) (b : written.BaseTree) (s : Option written.SpreadTree) (old new : List Diagnostic) (x e : Option ModeTree) (h : Option SpreadTree) → HasParts g at i b s old new x e h
    → new ≡ old ++ (((told_of_index g i ++ told_of_base g false b) ++ told_in_spread g s) ++ told_spread g at (mode_of_index g i) (mode_of_base g false b) s)
array-told g at i b s old new x e h p =
    p.told
    ∙ ap (λ t. ((old ++ told_of_index g i) ++ told_of_base g false b) ++ (told_in_spread g s ++ t)) (same-spread g at s x (mode_of_index g i) e (mode_of_base g false b) p.index p.element)
    ∙ four old (told_of_index g i) (told_of_base g false b) (told_in_spread g s) (told_spread g at (mode_of_index g i) (mode_of_base g false b) s)

-- an array of which something isn't there
pub array_none : (g : Ground) (at : Pos) (i : written.IndexTree) (b : written.BaseTree) (s : Option written.SpreadTree) (old new : List Diagnostic) (x e : Option ModeTree) (h : Option SpreadTree) → HasParts g at i b s old new x e h
    → array_from x e h ≡ None → IsBase g (written.array at i b s) old new None
array_none g at i b s old new x e h p none =
    let sp = told_spread g at (mode_of_index g i) (mode_of_base g false b) s in
    let o = array_from (mode_of_index g i) (mode_of_base g false b) (spread_there g s) in
    let left : unless_told sp o ≡ None = sym (array-made g at i b s old new x e h p) ∙ none in
    record {
      told = array-told g at i b s old new x e h p ∙ ap (λ t. old ++ (((told_of_index g i ++ told_of_base g false b) ++ told_in_spread g s) ++ t)) (sym (none_left_told sp o at left));
      mode = sym (none_left sp o at left);
    }

behind : (old a ts l : List Diagnostic) → ts ≡ [] → (old ++ (a ++ ts)) ++ l ≡ old ++ (a ++ l)
behind old a ts l e = ap (λ t. (old ++ (a ++ t)) ++ l) e ∙ append_assoc old (a ++ []) l ∙ ap (λ t. old ++ t) (append_assoc a [] l)

clean-kept : {A : Type 0} (ts : List Diagnostic) (o : Option A) (m : A) → unless_told ts o ≡ Some m → ts ≡ []
clean-kept [] o m h = refl
clean-kept (t ∷ ts) o m h = absurd (cc)

-- an array that is there, where L5 is asked behind it
pub array_some : (g : Ground) (at : Pos) (i : written.IndexTree) (b : written.BaseTree) (s : Option written.SpreadTree) (old new last : List Diagnostic) (x e : Option ModeTree) (h : Option SpreadTree) (m : ModeTree) (r : Option ModeTree) → HasParts g at i b s old new x e h
    → array_from x e h ≡ Some m → last ≡ new ++ told_large (Some m) at → r ≡ unless_told (told_large (Some m) at) (Some m) → IsBase g (written.array at i b s) old last r
array_some g at i b s old new last x e h m r p some large is =
    let sp = told_spread g at (mode_of_index g i) (mode_of_base g false b) s in
    let o = array_from (mode_of_index g i) (mode_of_base g false b) (spread_there g s) in
    let inside = (told_of_index g i ++ told_of_base g false b) ++ told_in_spread g s in
    let left : unless_told sp o ≡ Some m = sym (array-made g at i b s old new x e h p) ∙ some in
    record {
      told = large ∙ ap (λ t. t ++ told_large (Some m) at) (array-told g at i b s old new x e h p)
          ∙ behind old inside sp (told_large (Some m) at) (clean-kept sp o m left)
          ∙ ap (λ t. old ++ (inside ++ t)) (sym (some_left_told sp o m at left));
      mode = is ∙ sym (some_left sp o m at left);
    }

-- ---- structures

-- what is found of a structure's fields, and what was told in them and of them
pub record HasFields (g : Ground) (ws : written.FieldNodes) (old new : List Diagnostic) (seen : List FieldSeen) : Type 0 where
  pub seen_are : seen ≡ map (field_seen g) (fields_there g ws)
  pub told : new ≡ (old ++ told_in_fields g ws) ++ told_all (all_placed seen) [] seen

fields-told : (g : Ground) (ws : written.FieldNodes) (old new : List Diagnostic) (seen : List FieldSeen) → HasFields g ws old new seen → new ≡ old ++ (told_in_fields g ws ++ told_fields g (have_places (fields_there g ws)) [] (fields_there g ws))
fields-told g ws old new seen p =
    p.told ∙ append_assoc old (told_in_fields g ws) (told_all (all_placed seen) [] seen)
    ∙ ap (λ t. old ++ (told_in_fields g ws ++ t)) (all-seen g (fields_there g ws) seen p.seen_are)

-- a structure of whose fields something is told
pub structure_broken : (g : Ground) (at : Pos) (ws : written.FieldNodes) (pack : Option Packing) (old new : List Diagnostic) (seen : List FieldSeen) → HasFields g ws old new seen
    → is_none_told (told_all (all_placed seen) [] seen) ≡ false → IsBase g (written.structure at ws pack) old new None
structure_broken g at ws pack old new seen p broken =
    let fs = fields_there g ws in
    let ts = told_fields g (have_places fs) [] fs in
    let o = structure_from pack fs in
    let is : is_none_told ts ≡ false = ap is_none_told (sym (all-seen g fs seen p.seen_are)) ∙ broken in
    record {
      told = fields-told g ws old new seen p ∙ ap (λ t. old ++ (told_in_fields g ws ++ t)) (sym (told-broken ts (told_large o at) is));
      mode = sym (kept-then_broken ts (told_large o at) o is);
    }

structure-made : (g : Ground) (ws : written.FieldNodes) (pack : Option Packing) (old new : List Diagnostic) (seen : List FieldSeen) (ts : Option (List FieldTree)) → HasFields g ws old new seen → is_none_told (told_all (all_placed seen) [] seen) ≡ true → ts ≡ trees_of_fields seen
    → unless_told (told_fields g (have_places (fields_there g ws)) [] (fields_there g ws)) (structure_from pack (fields_there g ws)) ≡ option_map (λ ns. structure ns (is_packed pack)) (option_map field_nodes ts)
structure-made g ws pack old new seen ts p clean is =
    let fs = fields_there g ws in
    kept-clean (told_fields g (have_places fs) [] fs) (structure_from pack fs) (ap is_none_told (sym (all-seen g fs seen p.seen_are)) ∙ clean)
    ∙ sym (from-seen g pack fs seen p.seen_are)
    ∙ ap (λ ts. option_map (λ ns. structure ns (is_packed pack)) (option_map field_nodes ts)) (sym is)

-- a structure with a field whose mode or place isn't there
pub structure_none : (g : Ground) (at : Pos) (ws : written.FieldNodes) (pack : Option Packing) (old new : List Diagnostic) (seen : List FieldSeen) → HasFields g ws old new seen
    → is_none_told (told_all (all_placed seen) [] seen) ≡ true → None ≡ trees_of_fields seen → IsBase g (written.structure at ws pack) old new None
structure_none g at ws pack old new seen p clean none =
    let fs = fields_there g ws in
    let ts = told_fields g (have_places fs) [] fs in
    let o = structure_from pack fs in
    let left : unless_told ts o ≡ None = structure-made g ws pack old new seen None p clean none in
    record {
      told = fields-told g ws old new seen p ∙ ap (λ t. old ++ (told_in_fields g ws ++ t)) (sym (none_left_told ts o at left));
      mode = sym (none_left ts o at left);
    }

-- a structure that is there, where L5 is asked behind it
pub structure_some : (g : Ground) (at : Pos) (ws : written.FieldNodes) (pack : Option Packing) (old new last : List Diagnostic) (seen : List FieldSeen) (trees : List FieldTree) (m : ModeTree) (r : Option ModeTree) → HasFields g ws old new seen
    → is_none_told (told_all (all_placed seen) [] seen) ≡ true → Some trees ≡ trees_of_fields seen → m ≡ structure (field_nodes trees) (is_packed pack)
    → last ≡ new ++ told_large (Some m) at → r ≡ unless_told (told_large (Some m) at) (Some m) → IsBase g (written.structure at ws pack) old last r
structure_some g at ws pack old new last seen trees m r p clean some tree large is =
    let fs = fields_there g ws in
    let ts = told_fields g (have_places fs) [] fs in
    let o = structure_from pack fs in
    let left : unless_told ts o ≡ Some m = structure-made g ws pack old new seen (Some trees) p clean some ∙ ap Some (sym tree) in
    record {
      told = large ∙ ap (λ t. t ++ told_large (Some m) at) (fields-told g ws old new seen p)
          ∙ behind old (told_in_fields g ws) ts (told_large (Some m) at) (clean-kept ts o m left)
          ∙ ap (λ t. old ++ (told_in_fields g ws ++ t)) (sym (some_left_told ts o m at left));
      mode = is ∙ sym (some_left ts o m at left);
    }
