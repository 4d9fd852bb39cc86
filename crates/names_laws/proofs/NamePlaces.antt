-- Which places of names that are used, or of names that are defined, stand among tokens, in order, before a rest.
use Rattle.std.proofs.Common.{◌≡◌, List, [], ◌∷◌, ◌++◌, refl, ap, sym, ◌∙◌, subst, append_assoc, append-nil}
use Rattle.std.specs.Prelude.{map, flat_map}
use Rattle.std.proofs.lemmas.Grind.{flat_map-append}
use Rattle.chill_base.specs.declared.pos.Pos.{Pos}
use Rattle.chill_tree.specs.declared.token.Token.{Token}
use Rattle.chill_tree.specs.declared.tree.name.Name.{Name}
use Rattle.rules_model.specs.Marks.{Toks, name_token}
use Rattle.names_model.specs.declared.kind.Need.{Need}
use Rattle.names_model.specs.declared.part.Mention.{Mention}
use Rattle.names_model.specs.declared.part.Mention.TheVariants.{Use, Argument, Element}
use Rattle.names_model.specs.declared.part.Clause.{Clause}
use Rattle.names_model.specs.declared.identifier.Identifier.{Identifier}
use Rattle.names_model.specs.Identifiers.{identifier, identifiers}
use Rattle.names_model.specs.Parts.{PartTree, PartNodes, define, mention, seize, seize_all, grant, grant_all, stray, modulion, routine, block, no_parts, more_parts, part_nodes}
use Rattle.names_model.specs.Sizes.{block_of}
use Rattle.names_model.specs.StatementParts.{clause, counter_part}
use Rattle.names_model.specs.ItemParts.{routine_of, modulion_part}
use Rattle.names_model.specs.declared.kind.Kind.{Kind}
use Rattle.names_model.specs.declared.kind.Kind.TheVariants as kinds
use Rattle.chill_tree.specs.declared.tree.item.ModulionKind.{ModulionKind}

-- ---- the places of names in parts

-- which are looked for: the places of names that are used, or of names that are defined
pub data Sought : Type 0 where
  uses : Sought
  definitions : Sought

abbrev pub at_use : Sought → Pos → List Pos
at_use uses p = p ∷ []
at_use definitions p = []

abbrev pub at_definition : Sought → Pos → List Pos
at_definition uses p = []
at_definition definitions p = p ∷ []

abbrev pub of_mention : Sought → Mention → List Pos
of_mention sought (Use n need) = at_use sought n.at
of_mention sought (Argument n callee) = at_use sought n.at
of_mention sought (Element n) = at_definition sought n.at

abbrev pub of_name : Sought → Identifier → List Pos
of_name sought n = at_definition sought n.at

abbrev pub of_clause : Sought → Clause → List Pos
of_clause sought c = flat_map (of_name sought) c.names ++ flat_map (of_mention sought) c.text

-- a mention by itself defines nothing
abbrev pub of_mentioned : Sought → Mention → List Pos
of_mentioned uses m = of_mention uses m
of_mentioned definitions m = []

abbrev mutual
  pub of_part : Sought → PartTree → List Pos
  of_part sought (define c) = of_clause sought c
  of_part sought (mention m) = of_mentioned sought m
  of_part sought (routine n kind params result size ps) = at_definition sought n.at ++ ((flat_map (of_clause sought) params ++ flat_map (of_mention sought) result) ++ of_nodes sought ps)
  of_part sought (modulion n region size ps) = at_definition sought n.at ++ of_nodes sought ps
  of_part sought (block size ps) = of_nodes sought ps
  of_part sought (seize n) = []
  of_part sought (seize_all at) = []
  of_part sought (grant n) = []
  of_part sought (grant_all at) = []
  of_part sought (stray n) = []

  pub of_nodes : Sought → PartNodes → List Pos
  of_nodes sought no_parts = []
  of_nodes sought (more_parts p ps) = of_part sought p ++ of_nodes sought ps

pub nodes_flat : (sought : Sought) (ps : List PartTree) → flat_map (of_part sought) ps ≡ of_nodes sought (part_nodes ps)
nodes_flat sought [] = refl
nodes_flat sought (p ∷ ps) = ap (λ xs. of_part sought p ++ xs) (nodes_flat sought ps)

mentioned_flat : (ms : List Mention) → flat_map (of_mention uses) ms ≡ flat_map (of_part uses) (map mention ms)
mentioned_flat [] = refl
mentioned_flat (m ∷ ms) = ap (λ xs. of_mention uses m ++ xs) (mentioned_flat ms)

nothing_defined : (ms : List Mention) → [] ≡ flat_map (of_part definitions) (map mention ms)
nothing_defined [] = refl
nothing_defined (m ∷ ms) = nothing_defined ms

-- ---- places among tokens

-- the places are those of some of the tokens, in order
pub data Within : List Pos → Toks → Type 0 where
  nowhere : Within [] []
  passed : {ps : List Pos} {t : Token} {toks : Toks} → Within ps toks → Within ps (t ∷ toks)
  taken : {ps : List Pos} {t : Token} {toks : Toks} → Within ps toks → Within (t.at ∷ ps) (t ∷ toks)

-- of places that stand among tokens, those behind the first do too
tail_within : {p : Pos} {ps : List Pos} {toks : Toks} → Within (p ∷ ps) toks → Within ps toks
tail_within (passed w) = passed (tail_within w)
tail_within (taken w) = passed w

behind_within : (qs : List Pos) {ps : List Pos} {toks : Toks} → Within (qs ++ ps) toks → Within ps toks
behind_within [] w = w
behind_within (q ∷ qs) w = behind_within qs (tail_within w)

-- the places of some things stand among the tokens up to a rest
pub record Uses {X : Type 0} (f : X → List Pos) (xs : List X) (toks rest : Toks) : Type 0 where
  pub by : (ps : List Pos) → Within ps rest → Within (flat_map f xs ++ ps) toks

module _ {X : Type 0} {f : X → List Pos} where
  pub none : {toks : Toks} → Uses f [] toks toks
  none = record { by = λ ps w. w }

  -- a token before, and one behind
  pub skip : {xs : List X} {t : Token} {toks rest : Toks} → Uses f xs toks rest → Uses f xs (t ∷ toks) rest
  skip u = record { by = λ ps w. passed (u.by ps w) }

  pub ends : {xs : List X} {t : Token} {toks rest : Toks} → Uses f xs toks (t ∷ rest) → Uses f xs toks rest
  ends u = record { by = λ ps w. u.by ps (passed w) }

  -- tokens without uses before, and behind
  pub pass : {xs : List X} {toks m rest : Toks} → Uses f [] toks m → Uses f xs m rest → Uses f xs toks rest
  pass {xs = xs} u v = record { by = λ ps w. u.by (flat_map f xs ++ ps) (v.by ps w) }

  pub then_passed : {xs : List X} {toks m rest : Toks} → Uses f xs toks m → Uses f [] m rest → Uses f xs toks rest
  then_passed u v = record { by = λ ps w. u.by ps (v.by ps w) }

  pub both : {xs ys : List X} {toks m rest : Toks} → Uses f xs toks m → Uses f ys m rest → Uses f (xs ++ ys) toks rest
  both {xs = xs} {ys = ys} {toks = toks} u v = record {
    by = λ ps w. subst (λ zs. Within zs toks) (sym (append_assoc (flat_map f xs) (flat_map f ys) ps) ∙ ap (λ zs. zs ++ ps) (sym (flat_map-append f xs ys))) (u.by (flat_map f ys ++ ps) (v.by ps w));
  }

  pub as_list : {xs ys : List X} {toks rest : Toks} → xs ≡ ys → Uses f xs toks rest → Uses f ys toks rest
  as_list {toks = toks} {rest = rest} e u = subst (λ zs. Uses f zs toks rest) e u

  -- ---- lists that grow at their end

  pub many_one : {A : Type 0} (g : A → List X) (a : A) {toks rest : Toks} → Uses f (g a) toks rest → Uses f (flat_map g (a ∷ [])) toks rest
  many_one g a u = as_list (sym (append-nil (g a))) u

  pub many_and : {A : Type 0} (g : A → List X) (as' : List A) (a : A) {toks m rest : Toks} → Uses f (flat_map g as') toks m → Uses f (g a) m rest → Uses f (flat_map g (as' ++ a ∷ [])) toks rest
  many_and g as' a u v = as_list (sym (flat_map-append g as' (a ∷ []))) (both u (many_one g a v))

pub as_places : {X Y : Type 0} {f : X → List Pos} {g : Y → List Pos} {xs : List X} {ys : List Y} {toks rest : Toks} → flat_map f xs ≡ flat_map g ys → Uses f xs toks rest → Uses g ys toks rest
as_places {toks = toks} e u = record { by = λ ps w. subst (λ zs. Within (zs ++ ps) toks) e (u.by ps w) }

-- the same tokens, without what is found in them
pub forget : {X Y : Type 0} {f : X → List Pos} {g : Y → List Pos} {xs : List X} {toks rest : Toks} → Uses f xs toks rest → Uses g [] toks rest
forget {f = f} {xs = xs} u = record { by = λ ps w. behind_within (flat_map f xs) (u.by ps w) }

-- ---- names

-- a name that is used, and one that is defined, at the front
at_used : (sought : Sought) (n : Name) {ps : List Pos} {toks : Toks} → Within ps toks → Within (at_use sought n.at ++ ps) (name_token n ∷ toks)
at_used uses n w = taken w
at_used definitions n w = passed w

at_defined : (sought : Sought) (n : Name) {ps : List Pos} {toks : Toks} → Within ps toks → Within (at_definition sought n.at ++ ps) (name_token n ∷ toks)
at_defined uses n w = passed w
at_defined definitions n w = taken w

-- one thing alone
alone : {X : Type 0} (f : X → List Pos) (x : X) {toks rest : Toks} → ((ps : List Pos) → Within ps rest → Within (f x ++ ps) toks) → Uses f (x ∷ []) toks rest
alone f x {toks = toks} one = record { by = λ ps w. subst (λ zs. Within (zs ++ ps) toks) (sym (append-nil (f x))) (one ps w) }

module _ (sought : Sought) where
  pub using : (n : Name) (need : Need) {toks : Toks} → Uses (of_mention sought) (Use (identifier n) need ∷ []) (name_token n ∷ toks) toks
  using n need = alone (of_mention sought) (Use (identifier n) need) (λ ps w. at_used sought n w)

  pub taking : {n : Name} {need : Need} {ms : List Mention} {toks rest : Toks} → Uses (of_mention sought) ms toks rest → Uses (of_mention sought) (Use (identifier n) need ∷ ms) (name_token n ∷ toks) rest
  taking {n = n} {need = need} {ms = ms} u = both {xs = Use (identifier n) need ∷ []} {ys = ms} (using n need) u

  -- a name as the whole argument of another
  pub taking_argument : (n r : Name) {toks : Toks} → Uses (of_mention sought) (Argument (identifier n) (identifier r) ∷ []) (name_token n ∷ toks) toks
  taking_argument n r = alone (of_mention sought) (Argument (identifier n) (identifier r)) (λ ps w. at_used sought n w)

  -- an element of a SET
  pub taking_element : (n : Name) {toks : Toks} → Uses (of_mention sought) (Element (identifier n) ∷ []) (name_token n ∷ toks) toks
  taking_element n = alone (of_mention sought) (Element (identifier n)) (λ ps w. at_defined sought n w)

  -- a name that is defined
  pub taking_name : (n : Name) {toks : Toks} → Uses (of_name sought) (identifier n ∷ []) (name_token n ∷ toks) toks
  taking_name n = alone (of_name sought) (identifier n) (λ ps w. at_defined sought n w)

pub mentioned_uses : (sought : Sought) (ms : List Mention) {toks rest : Toks} → Uses (of_mention sought) ms toks rest → Uses (of_part sought) (map mention ms) toks rest
mentioned_uses uses ms u = as_places (mentioned_flat ms) u
mentioned_uses definitions ms u = as_places {f = of_part definitions} {xs = []} (nothing_defined ms) (forget u)

-- ---- parts

module _ (sought : Sought) where
  pub mentioning : {n : Name} {need : Need} {qs : List PartTree} {toks rest : Toks} → Uses (of_part sought) qs toks rest → Uses (of_part sought) (mention (Use (identifier n) need) ∷ qs) (name_token n ∷ toks) rest
  mentioning {n = n} {need = need} {qs = qs} u = both {xs = mention (Use (identifier n) need) ∷ []} {ys = qs} (mentioned_uses sought (Use (identifier n) need ∷ []) (using sought n need)) u

  -- a clause: its names, and what defines them
  pub clause_places : (kind : Kind) (ns : List Name) (ms : List Mention) {toks m rest : Toks} → Uses (of_name sought) (identifiers ns) toks m → Uses (of_mention sought) ms m rest → Uses (of_clause sought) (clause kind ns ms ∷ []) toks rest
  clause_places kind ns ms {toks = toks} u v = alone (of_clause sought) (clause kind ns ms) (λ ps w.
      subst (λ zs. Within zs toks) (sym (append_assoc (flat_map (of_name sought) (identifiers ns)) (flat_map (of_mention sought) ms) ps)) (u.by (flat_map (of_mention sought) ms ++ ps) (v.by ps w)))

  pub defining : (kind : Kind) (ns : List Name) (ms : List Mention) (qs : List PartTree) {toks m m' rest : Toks}
      → Uses (of_name sought) (identifiers ns) toks m → Uses (of_mention sought) ms m m' → Uses (of_part sought) qs m' rest → Uses (of_part sought) (define (clause kind ns ms) ∷ qs) toks rest
  defining kind ns ms qs u v x = both {xs = define (clause kind ns ms) ∷ []} {ys = qs} (as_places {f = of_clause sought} {xs = clause kind ns ms ∷ []} refl (clause_places kind ns ms u v)) x

  pub blocked : (qs : List PartTree) {toks rest : Toks} → Uses (of_part sought) qs toks rest → Uses (of_part sought) (block_of qs ∷ []) toks rest
  blocked qs u = as_places (nodes_flat sought qs ∙ sym (append-nil (of_nodes sought (part_nodes qs)))) u

  pub modulion_uses : (n : Name) (kind : ModulionKind) (qs : List PartTree) {toks m rest : Toks}
      → Uses (of_name sought) (identifier n ∷ []) toks m → Uses (of_part sought) qs m rest → Uses (of_part sought) (modulion_part n kind qs ∷ []) toks rest
  modulion_uses n kind qs {toks = toks} u v = alone (of_part sought) (modulion_part n kind qs) (λ ps w.
      let own = at_definition sought n.at in
      let inner = of_nodes sought (part_nodes qs) in
      let front = ap (λ zs. zs ++ (flat_map (of_part sought) qs ++ ps)) (append-nil own) in
      let body = ap (λ zs. own ++ (zs ++ ps)) (nodes_flat sought qs) in
      subst (λ zs. Within zs toks) (front ∙ body ∙ sym (append_assoc own inner ps)) (u.by (flat_map (of_part sought) qs ++ ps) (v.by ps w)))

  pub routine_uses : (n : Name) (kind : Kind) (params : List Clause) (result : List Mention) (qs : List PartTree) {toks m m' m'' rest : Toks}
      → Uses (of_name sought) (identifier n ∷ []) toks m → Uses (of_clause sought) params m m' → Uses (of_mention sought) result m' m'' → Uses (of_part sought) qs m'' rest
      → Uses (of_part sought) (routine_of n kind params result qs ∷ []) toks rest
  routine_uses n kind params result qs {toks = toks} u v x y = alone (of_part sought) (routine_of n kind params result qs) {toks = toks} (λ ps w.
      let own = at_definition sought n.at in
      let ins = flat_map (of_clause sought) params in
      let outs = flat_map (of_mention sought) result in
      let inner = of_nodes sought (part_nodes qs) in
      let behind = flat_map (of_part sought) qs ++ ps in
      let front = ap (λ zs. zs ++ (ins ++ (outs ++ behind))) (append-nil own) in
      let body = ap (λ zs. own ++ (ins ++ (outs ++ (zs ++ ps)))) (nodes_flat sought qs) in
      let heads = ap (λ zs. own ++ zs) (sym (append_assoc ins outs (inner ++ ps)) ∙ sym (append_assoc (ins ++ outs) inner ps)) in
      let whole : (own ++ []) ++ (ins ++ (outs ++ behind)) ≡ (own ++ ((ins ++ outs) ++ inner)) ++ ps = front ∙ body ∙ heads ∙ sym (append_assoc own ((ins ++ outs) ++ inner) ps) in
      subst (λ zs. Within zs toks) whole (u.by (ins ++ (outs ++ behind)) (v.by (outs ++ behind) (x.by behind (y.by ps w)))))

-- ---- the counter of a loop, whose name stands before what is evaluated around the loop

nothing_used : (n : Name) {toks : Toks} → Uses (of_name uses) (identifier n ∷ []) toks toks
nothing_used n = record { by = λ ps w. w }

counted : (c : Clause) (ms ms' : List Mention) → flat_map (of_part definitions) (define c ∷ []) ≡ flat_map (of_part definitions) (map mention ms ++ define c ∷ map mention ms')
counted c ms ms' =
    ap (λ zs. of_clause definitions c ++ zs) (nothing_defined ms')
    ∙ ap (λ zs. zs ++ flat_map (of_part definitions) (define c ∷ map mention ms')) (nothing_defined ms)
    ∙ sym (flat_map-append (of_part definitions) (map mention ms) (define c ∷ map mention ms'))

pub counter_uses : (sought : Sought) (n : Name) (ms ms' : List Mention) {t : Token} {toks m rest : Toks}
    → Uses (of_mention sought) ms toks m → Uses (of_mention sought) ms' m rest → Uses (of_part sought) (map mention ms ++ counter_part n ∷ map mention ms') (name_token n ∷ t ∷ toks) rest
counter_uses uses n ms ms' u v = skip (skip (both (mentioned_uses uses ms u) (defining uses kinds.Counter (n ∷ []) [] (map mention ms') (nothing_used n) none (mentioned_uses uses ms' v))))
counter_uses definitions n ms ms' u v =
    as_places {f = of_part definitions} {xs = counter_part n ∷ []} (counted (clause kinds.Counter (n ∷ []) []) ms ms')
    (then_passed (defining definitions kinds.Counter (n ∷ []) [] [] (taking_name definitions n) none none) (skip (pass (forget u) (forget v))))
