-- N1 is told in no reach of a program exactly where it isn't among what is told of the program's names.
use Rattle.std.proofs.Common.{◌≡◌, ℕ, suc, ◌+◌, Bool, true, false, List, [], ◌∷◌, ◌++◌, ◌⊎◌, inl, inr, refl, sym, ap, ◌∙◌, subst, Contains, ◌↔◌}
use Rattle.std.specs.Prelude.{flat_map, if◌then◌else◌}
use Rattle.std.proofs.lemmas.Grind.{flat_map-append}
use Rattle.std.proofs.lemmas.List.Elements.{Contains-append_left, Contains-append_right, Contains-append_cases}
use Rattle.chill_base.specs.declared.pos.Pos.{Pos}
use Rattle.diagnostics.specs.declared.rule.Rule.TheVariants as rules
use Rattle.diagnostics.specs.declared.diagnostic.Diagnostic.{Diagnostic}
use Rattle.names_model.specs.declared.identifier.Identifier.{Identifier}
use Rattle.names_model.specs.declared.definition.Definition.{Definition}
use Rattle.names_model.specs.declared.entry.Entry.{Entry}
use Rattle.names_model.specs.declared.part.Mention.{Mention}
use Rattle.names_model.specs.declared.part.Mention.TheVariants.{Use, Argument, Element}
use Rattle.names_model.specs.declared.part.Clause.{Clause}
use Rattle.names_model.specs.Kinds.{fits}
use Rattle.names_model.specs.Parts.{PartTree, PartNodes, define, mention, seize, grant, stray, modulion, routine, block, no_parts, more_parts}
use Rattle.names_model.specs.Sizes.{head_size, size_of}
use Rattle.names_model.specs.Definitions.{with_predefined, spelling_at}
use Rattle.names_model.specs.Seeing.{Reach, outermost, in_modulion, in_block, sees, seen_around, reach_entries}
use Rattle.names_model.specs.NameRules.{Node, node, nodes_inside, nodes, body_reach, tell, unless_seen, clashes, told_number, told_behind, told_twice, twice_inside, any_kind, told_use, fits_argument, told_mention, told_mentions, told_here, told, told_in}
use Rattle.names_laws.specs.Laws.{IsInside, StandsIn, IsReachOf, NoneToldTwice}
use Rattle.names_laws.proofs.Members.{none_in, here_in, later_in, in_cases, in_flat_map, flat_map_in, none_listed}

-- each of these is of rule N1
abbrev OfN1 : List Diagnostic → Type 0
OfN1 list = (d : Diagnostic) → Contains list d → d.rule ≡ rules.N1

-- none of these is
abbrev NoN1 : List Diagnostic → Type 0
NoN1 list = (d : Diagnostic) → Contains list d → ¬ (d.rule ≡ rules.N1)

module _ (text : List Definition) where
  -- ---- what is told of two entries is N1

  of_number : (earlier : List ℕ) (at : Pos) (k : ℕ) → OfN1 (told_number (with_predefined text) earlier at k)
  of_number earlier at k d c = by (clashes (with_predefined text) earlier k) c
    where
      by : (b : Bool) → Contains (if b then tell at rules.N1 (spelling_at (with_predefined text) k) ∷ [] else []) d → d.rule ≡ rules.N1
      by true h = elim (in_cases (tell at rules.N1 (spelling_at (with_predefined text) k)) [] d h) [
        | inl is ↦ ap (λ (x : Diagnostic). x.rule) (sym is)
        | inr none ↦ absurd (none_in d none)
      ]
      by false h = absurd (none_in d h)

  of_behind : (es : List Entry) (earlier : List ℕ) → OfN1 (told_behind (with_predefined text) earlier es)
  of_behind [] earlier d c = absurd (none_in d c)
  of_behind (x ∷ es) earlier d c = elim (Contains-append_cases (flat_map (told_number (with_predefined text) earlier x.at) x.numbers) (told_behind (with_predefined text) (earlier ++ x.numbers) es) d c) [
    | inl here ↦ (let f = flat_map_in (told_number (with_predefined text) earlier x.at) x.numbers d here in of_number earlier x.at f.0 d f.2)
    | inr there ↦ of_behind es (earlier ++ x.numbers) d there
  ]

  of_twice : (r : Reach) → OfN1 (told_twice text r)
  of_twice r = of_behind (reach_entries text r) []

  -- ---- the reaches of a program are those of which N1 may be told

  told_at : (r : Reach) (from : ℕ) (p : PartTree) (ks : List Node) (d : Diagnostic) → Contains (twice_inside text r from p) d → Contains (flat_map (told text) (node r from p ∷ ks)) d
  told_at r from p ks d c = in_flat_map (told text) (node r from p ∷ ks) (node r from p) d (here_in (node r from p) ks (node r from p) refl) (Contains-append_right (told_here text r p) (twice_inside text r from p) d c)

  -- told of a part's reach or in it, so told of these nodes
  inside_told : (r : Reach) (from : ℕ) (p : PartTree) (ps : PartNodes) (d : Diagnostic) → Contains (twice_inside text r from p) d ⊎ Contains (flat_map (told text) (nodes_inside r from p)) d → Contains (flat_map (told text) (nodes r from (more_parts p ps))) d
  inside_told r from p ps d (inl c) = told_at r from p (nodes_inside r from p ++ nodes r (from + size_of p) ps) d c
  inside_told r from p ps d (inr c) =
      let k = flat_map_in (told text) (nodes_inside r from p) d c in
      in_flat_map (told text) (nodes r from (more_parts p ps)) k.0 d (later_in (node r from p) (nodes_inside r from p ++ nodes r (from + size_of p) ps) k.0 (Contains-append_left (nodes_inside r from p) (nodes r (from + size_of p) ps) k.0 k.1)) k.2

  behind_told : (r : Reach) (from : ℕ) (p : PartTree) (ps : PartNodes) (d : Diagnostic) → Contains (flat_map (told text) (nodes r (from + size_of p) ps)) d → Contains (flat_map (told text) (nodes r from (more_parts p ps))) d
  behind_told r from p ps d c =
      let k = flat_map_in (told text) (nodes r (from + size_of p) ps) d c in
      in_flat_map (told text) (nodes r from (more_parts p ps)) k.0 d (later_in (node r from p) (nodes_inside r from p ++ nodes r (from + size_of p) ps) k.0 (Contains-append_right (nodes_inside r from p) (nodes r (from + size_of p) ps) k.0 k.1)) k.2

  mutual
    told_inside : (p : PartTree) (r : Reach) (from : ℕ) (q : Reach) (d : Diagnostic) → IsInside r from p q → Contains (told_twice text q) d → Contains (twice_inside text r from p) d ⊎ Contains (flat_map (told text) (nodes_inside r from p)) d
    told_inside (modulion n region size ps) r from q d (inl is) c = inl (subst (λ o. Contains (told_twice text o) d) is c)
    told_inside (modulion n region size ps) r from q d (inr at) c = inr (told_standing ps (in_modulion r (suc from) ps) (suc from) q d at c)
    told_inside (routine n kind params result size ps) r from q d (inl is) c = inl (subst (λ o. Contains (told_twice text o) d) is c)
    told_inside (routine n kind params result size ps) r from q d (inr at) c = inr (told_standing ps (body_reach r from params result ps) (from + head_size params result) q d at c)
    told_inside (block size ps) r from q d (inl is) c = inl (subst (λ o. Contains (told_twice text o) d) is c)
    told_inside (block size ps) r from q d (inr at) c = inr (told_standing ps (in_block r [] from ps) from q d at c)
    told_inside p r from q d at c = absurd at

    told_standing : (ps : PartNodes) (r : Reach) (from : ℕ) (q : Reach) (d : Diagnostic) → StandsIn r from ps q → Contains (told_twice text q) d → Contains (flat_map (told text) (nodes r from ps)) d
    told_standing no_parts r from q d at c = absurd at
    told_standing (more_parts p ps) r from q d (inl at) c = inside_told r from p ps d (told_inside p r from q d at c)
    told_standing (more_parts p ps) r from q d (inr at) c = behind_told r from p ps d (told_standing ps r (from + size_of p) q d at c)

  program_told : (ps : PartNodes) (q : Reach) (d : Diagnostic) → IsReachOf ps q → Contains (told_twice text q) d → Contains (told_in text (outermost ps) 0 ps) d
  program_told ps q d (inl is) c = Contains-append_left (told_twice text (outermost ps)) (flat_map (told text) (nodes (outermost ps) 0 ps)) d (subst (λ o. Contains (told_twice text o) d) is c)
  program_told ps q d (inr at) c = Contains-append_right (told_twice text (outermost ps)) (flat_map (told text) (nodes (outermost ps) 0 ps)) d (told_standing ps (outermost ps) 0 q d at c)

  -- ---- what is told of a part itself isn't N1

  no_none : NoN1 []
  no_none d c same = none_in d c

  no_one : (x : Diagnostic) → ¬ (x.rule ≡ rules.N1) → NoN1 (x ∷ [])
  no_one x other d c same = elim (in_cases x [] d c) [
    | inl is ↦ other (ap (λ (y : Diagnostic). y.rule) is ∙ same)
    | inr none ↦ none_in d none
  ]

  no_append : (xs ys : List Diagnostic) → NoN1 xs → NoN1 ys → NoN1 (xs ++ ys)
  no_append xs ys one other d c = elim (Contains-append_cases xs ys d c) [
    | inl here ↦ one d here
    | inr there ↦ other d there
  ]

  no_flat_map : {X : Type 0} (f : X → List Diagnostic) (xs : List X) → ((x : X) → NoN1 (f x)) → NoN1 (flat_map f xs)
  no_flat_map f xs each d c = let h = flat_map_in f xs d c in each h.0 d h.2

  no_use : (n : Identifier) (seen : List ℕ) (fit : Bool) → NoN1 (told_use n seen fit)
  no_use n [] fit = no_one (tell n.at rules.N2 n.spelling) (λ e. cc)
  no_use n (x ∷ seen) true = no_none
  no_use n (x ∷ seen) false = no_one (tell n.at rules.N5 n.spelling) (λ e. cc)

  no_mention : (r : Reach) (m : Mention) → NoN1 (told_mention text r m)
  no_mention r (Use n need) = no_use n (sees text r n.spelling) (any_kind (fits need) (with_predefined text) (sees text r n.spelling))
  no_mention r (Argument n callee) = no_use n (sees text r n.spelling) (fits_argument (with_predefined text) (sees text r callee.spelling) (sees text r n.spelling))
  no_mention r (Element n) = no_none

  no_mentions : (r : Reach) (ms : List Mention) → NoN1 (told_mentions text r ms)
  no_mentions r ms = no_flat_map (told_mention text r) ms (no_mention r)

  no_unless : (n : Identifier) (seen : List ℕ) → NoN1 (unless_seen rules.N3 n seen)
  no_unless n [] = no_one (tell n.at rules.N3 n.spelling) (λ e. cc)
  no_unless n (x ∷ seen) = no_none

  no_here : (r : Reach) (p : PartTree) → NoN1 (told_here text r p)
  no_here r (define c) = no_mentions r c.text
  no_here r (mention m) = no_mention r m
  no_here r (seize n) = no_unless n (seen_around text r n.spelling)
  no_here r (grant n) = no_unless n (sees text r n.spelling)
  no_here r (stray n) = no_one (tell n.at rules.N4 n.spelling) (λ e. cc)
  no_here r (routine n kind params result size ps) =
      no_append (flat_map (λ (c : Clause). told_mentions text r c.text) params) (told_mentions text r result) (no_flat_map (λ (c : Clause). told_mentions text r c.text) params (λ c. no_mentions r c.text)) (no_mentions r result)
  no_here r p = no_none

  -- ---- so N1 is told of a reach of the program, if at all

  no_twice : (q : Reach) → told_twice text q ≡ [] → NoN1 (told_twice text q)
  no_twice q none = subst (λ list. NoN1 list) (sym none) no_none

  mutual
    no_inside : (p : PartTree) (r : Reach) (from : ℕ) → ((q : Reach) → IsInside r from p q → told_twice text q ≡ []) → NoN1 (twice_inside text r from p) × NoN1 (flat_map (told text) (nodes_inside r from p))
    no_inside (modulion n region size ps) r from untold =
        let o = in_modulion r (suc from) ps in (no_twice o (untold o (inl refl)), no_standing ps o (suc from) (λ q at. untold q (inr at)))
    no_inside (routine n kind params result size ps) r from untold =
        let o = body_reach r from params result ps in (no_twice o (untold o (inl refl)), no_standing ps o (from + head_size params result) (λ q at. untold q (inr at)))
    no_inside (block size ps) r from untold =
        let o = in_block r [] from ps in (no_twice o (untold o (inl refl)), no_standing ps o from (λ q at. untold q (inr at)))
    no_inside p r from untold = (no_none, no_none)

    no_standing : (ps : PartNodes) (r : Reach) (from : ℕ) → ((q : Reach) → StandsIn r from ps q → told_twice text q ≡ []) → NoN1 (flat_map (told text) (nodes r from ps))
    no_standing no_parts r from untold = no_none
    no_standing (more_parts p ps) r from untold =
        let inside = no_inside p r from (λ q at. untold q (inl at)) in
        no_append (told text (node r from p)) (flat_map (told text) (nodes_inside r from p ++ nodes r (from + size_of p) ps))
        (no_append (told_here text r p) (twice_inside text r from p) (no_here r p) inside.0)
        (subst (λ list. NoN1 list) (sym (flat_map-append (told text) (nodes_inside r from p) (nodes r (from + size_of p) ps)))
        (no_append (flat_map (told text) (nodes_inside r from p)) (flat_map (told text) (nodes r (from + size_of p) ps)) inside.1 (no_standing ps r (from + size_of p) (λ q at. untold q (inr at)))))

pub told_nowhere : (text : List Definition) (ps : PartNodes) → NoneToldTwice text ps ↔ ((d : Diagnostic) → Contains (told_in text (outermost ps) 0 ps) d → ¬ (d.rule ≡ rules.N1))
told_nowhere text ps = (there, back)
  where
    there : NoneToldTwice text ps → NoN1 (told_in text (outermost ps) 0 ps)
    there untold = no_append text (told_twice text (outermost ps)) (flat_map (told text) (nodes (outermost ps) 0 ps))
        (no_twice text (outermost ps) (untold (outermost ps) (inl refl))) (no_standing text ps (outermost ps) 0 (λ q at. untold q (inr at)))

    back : NoN1 (told_in text (outermost ps) 0 ps) → NoneToldTwice text ps
    back unlisted q at = none_listed (told_twice text q) (λ d c. unlisted d (program_told text ps q d at c) (of_twice text q d c))
