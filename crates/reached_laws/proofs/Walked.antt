-- A walk over parts beside the nodes of their trees: in parts that stand somewhere, at a reach of which something is so, the names at their
-- nodes lead to what it is so of.
use Rattle.std.proofs.Common.{◌≡◌, ℕ, suc, ◌+◌, false, List, [], ◌∷◌, ◌++◌, Some, inl, refl, sym, ◌∙◌, subst, arith}
use Rattle.std.specs.Prelude.{map, slice_get}
use Rattle.chill_tree.specs.declared.tree.name.Name.{Name}
use Rattle.chill_tree.specs.ItemTree.{ProgramTree}
use Rattle.names_model.specs.declared.definition.Inside.{Inside}
use Rattle.names_model.specs.declared.definition.Definition.{Definition}
use Rattle.names_model.specs.declared.kind.Kind.{Kind}
use Rattle.names_model.specs.declared.part.Mention.{Mention}
use Rattle.names_model.specs.Identifiers.{identifier, identifiers}
use Rattle.names_model.specs.Parts.{PartTree, define, part_nodes}
use Rattle.names_model.specs.Sizes.{size_of, sizes_of, elements_in, block_of}
use Rattle.names_model.specs.Definitions.{within, text_definitions, definitions_in, names_defined, elements_defined, elements_with}
use Rattle.names_model.specs.Seeing.{Reach, in_block}
use Rattle.names_model.specs.StatementParts.{clause, mentioned}
use Rattle.names_model.specs.Resolving.{level_of}
use Rattle.names_laws.specs.Visible.{Sees}
use Rattle.names_laws.proofs.Members.{none_in}
use Rattle.ground_laws.specs.Rows.{uses_of}
use Rattle.checks_model.specs.Ground.{Origin, number_at}
use Rattle.checks_model.specs.Sites.{Site}
use Rattle.table_laws.specs.Names.{names_in}
use Rattle.elaborated_laws.proofs.Told.{same_some}
use Rattle.elaboration_model.specs.Numbering.{has_body}
use Rattle.written_laws.specs.Written.{Each, exprs_at}
use Rattle.written_laws.proofs.Shown.{each_append}
use Rattle.written_laws.proofs.Rows.{AreSized, sized_both}
use Rattle.reached_laws.specs.Reached.{other_names, defined_names}
use Rattle.reached_laws.proofs.Standing.{named_so, GoesAlong, ArePlain, plain_both, stands_within, Stand, stand_left, stand_next, stand_both}
use Rattle.reached_laws.proofs.Reaches.{Fact, IsGood, Fits, block_good, plain_ups}
use Rattle.reached_laws.proofs.Uses.{IsSeen, MentionsSeen, AreSeen, mentioned_seen}

abbrev pub NotRoutine : Origin → Type 0
NotRoutine o = has_body o ≡ false

pub seen_both : (t : ProgramTree) (r : Reach) (from : ℕ) (ps qs : List PartTree) → AreSeen t r from (ps ++ qs) → AreSeen t r from ps × AreSeen t r (from + sizes_of (part_nodes ps)) qs
seen_both t r from [] qs all = (tt, subst (λ k. AreSeen t r k qs) (let same : from ≡ from + 0 = omega arith in same) all)
seen_both t r from (p ∷ ps) qs all =
    let rest = seen_both t r (from + size_of p) ps qs all.1 in
    ((all.0, rest.0), subst (λ k. AreSeen t r k qs) (let same : (from + size_of p) + sizes_of (part_nodes ps) ≡ from + (size_of p + sizes_of (part_nodes ps)) = omega arith in same) rest.1)

module _ (t : ProgramTree) (Q : Fact (text_definitions (level_of t))) where
  abbrev text : List Definition
  text = text_definitions (level_of t)

  -- what a name is used for, and what it defines
  abbrev pub UsedSo : Name → Type 0
  UsedSo n = (d : ℕ) (x : Definition) → number_at (uses_of t) n.at ≡ Some d → slice_get text d ≡ Some x → Q d x

  pub record DefinedSo (n : Name) : Type 0 where
    pub number : ℕ
    pub definition : Definition
    pub is : slice_get text number ≡ Some definition
    pub named : definition.name ≡ identifier n
    pub so : Q number definition

  pub record SiteSo (n : Site) : Type 0 where
    pub exprs : Each (λ e. Each UsedSo (names_in e)) (exprs_at n)
    pub others : Each UsedSo (other_names n)
    pub defined : Each DefinedSo (defined_names n)

  pub seen_so : (r : Reach) → IsGood text Q r → (n : Name) → IsSeen t r (identifier n) → UsedSo n
  seen_so r good n seen d x row at =
      let same = same_some seen.number d (sym seen.has_row ∙ row) in
      good d x at (subst (λ k. Sees text r k) same seen.seen)

  -- parts that stand somewhere, in a reach
  pub record At (i : Inside) (r : Reach) (from : ℕ) (ps : List PartTree) : Type 0 where
    pub fits : Fits text Q i
    pub good : IsGood text Q r
    pub stands : Stand text from (definitions_in i from (part_nodes ps))
    pub seen : AreSeen t r from ps

  pub at_first : (i : Inside) (r : Reach) (from : ℕ) (ps qs : List PartTree) → AreSized (part_nodes ps) → At i r from (ps ++ qs) → At i r from ps
  at_first i r from ps qs sized at = record { fits = at.fits; good = at.good; stands = (stand_both text i from ps qs sized at.stands).0; seen = (seen_both t r from ps qs at.seen).0 }

  pub at_later : (i : Inside) (r : Reach) (from : ℕ) (ps qs : List PartTree) → AreSized (part_nodes ps) → At i r from (ps ++ qs) → At i r (from + sizes_of (part_nodes ps)) qs
  at_later i r from ps qs sized at = record { fits = at.fits; good = at.good; stands = (stand_both text i from ps qs sized at.stands).1; seen = (seen_both t r from ps qs at.seen).1 }

  pub record Walked (os : List Origin) (ps : List PartTree) (ss : List Site) : Type 0 where
    pub plain : ArePlain (part_nodes ps)
    pub sized : AreSized (part_nodes ps)
    pub none : Each NotRoutine os
    pub names : (i : Inside) (r : Reach) (from : ℕ) → At i r from ps → Each SiteSo ss

  pub joined : {os us : List Origin} {ps qs : List PartTree} {ss ts : List Site} → Walked os ps ss → Walked us qs ts → Walked (os ++ us) (ps ++ qs) (ss ++ ts)
  joined {os = os} {us = us} {ps = ps} {qs = qs} {ss = ss} {ts = ts} m k = record {
    plain = plain_both ps qs m.plain k.plain;
    sized = sized_both ps qs m.sized k.sized;
    none = each_append NotRoutine os us m.none k.none;
    names = λ i r from at. each_append SiteSo ss ts (m.names i r from (at_first i r from ps qs m.sized at)) (k.names i r (from + sizes_of (part_nodes ps)) (at_later i r from ps qs m.sized at));
  }

  -- inside a block
  block_at : (i : Inside) (r : Reach) (from : ℕ) (ps : List PartTree) → AreSized (part_nodes ps) → ArePlain (part_nodes ps) → At i r from (block_of ps ∷ []) → At (within i) (in_block r [] from (part_nodes ps)) from ps
  block_at i r from ps sized plain at =
      let fits : Fits text Q (within i) = λ d x is stands. at.fits d x is (stands_within i x stands) in
      let ds = definitions_in (within i) from (part_nodes ps) in
      let stands = stand_left text from ds [] at.stands in
      record {
        fits = fits;
        good = block_good text Q r [] from (part_nodes ps) (λ d x is c. absurd (none_in d c)) (plain_ups text Q (within i) from (part_nodes ps) sized plain fits stands) at.good;
        stands = stands;
        seen = at.seen.0;
      }

  pub blocked : {os : List Origin} {ps : List PartTree} {ss : List Site} → Walked os ps ss → Walked os (block_of ps ∷ []) ss
  blocked {os = os} {ps = ps} {ss = ss} m = record {
    plain = (m.plain, tt);
    sized = ((refl, m.sized), tt);
    none = m.none;
    names = λ i r from at. m.names (within i) (in_block r [] from (part_nodes ps)) from (block_at i r from ps m.sized m.plain at);
  }

  -- what stands in a reach, and in a block in it, at one node before others
  pub before_block : {os : List Origin} {ps qs : List PartTree} (n : Site) {ss : List Site} → Walked [] ps [] → Walked os qs ss → ((r k : Reach) (i j : Inside) (from next : ℕ) → At i r from ps → At j k next qs → SiteSo n) → Walked os (ps ++ block_of qs ∷ []) (n ∷ ss)
  before_block {os = os} {ps = ps} {qs = qs} n {ss = ss} m k so = record {
    plain = plain_both ps (block_of qs ∷ []) m.plain (k.plain, tt);
    sized = sized_both ps (block_of qs ∷ []) m.sized ((refl, k.sized), tt);
    none = k.none;
    names = λ i r from at.
        let next = from + sizes_of (part_nodes ps) in
        let inner = block_at i r next qs k.sized k.plain (at_later i r from ps (block_of qs ∷ []) m.sized at) in
        (so r (in_block r [] next (part_nodes qs)) i (within i) from next (at_first i r from ps (block_of qs ∷ []) m.sized at) inner, k.names (within i) (in_block r [] next (part_nodes qs)) next inner);
  }

  pub nothing : Walked [] [] []
  nothing = record { plain = tt; sized = tt; none = tt; names = λ i r from at. tt }

  pub with_site : {os : List Origin} {ps : List PartTree} {ss : List Site} (n : Site) → ((i : Inside) (r : Reach) (from : ℕ) → At i r from ps → SiteSo n) → Walked os ps ss → Walked os ps (n ∷ ss)
  with_site n so m = record { plain = m.plain; sized = m.sized; none = m.none; names = λ i r from at. (so i r from at, m.names i r from at) }

  pub bare : {os : List Origin} {ps : List PartTree} {ss : List Site} (n : Site) → SiteSo n → Walked os ps ss → Walked os ps (n ∷ ss)
  bare n so m = with_site n (λ i r from at. so) m

  -- mentions
  mentions_plain : (ms : List Mention) → ArePlain (part_nodes (mentioned ms))
  mentions_plain [] = tt
  mentions_plain (m ∷ ms) = (tt, mentions_plain ms)

  mentions_sized : (ms : List Mention) → AreSized (part_nodes (mentioned ms))
  mentions_sized [] = tt
  mentions_sized (m ∷ ms) = (tt, mentions_sized ms)

  pub mentions : (ms : List Mention) (ss : List Site) → ((r : Reach) → IsGood text Q r → MentionsSeen t r ms → Each SiteSo ss) → Walked [] (mentioned ms) ss
  mentions ms ss so = record { plain = mentions_plain ms; sized = mentions_sized ms; none = tt; names = λ i r from at. so r at.good (mentioned_seen t r from ms at.seen) }

  -- a clause alone
  clause_defined : (i : Inside) (kind : Kind) (ms : List Mention) (from count : ℕ) (ns : List Name) → Fits text Q i → Stand text from (map (named_so i kind count) (identifiers ns)) → Each DefinedSo ns
  clause_defined i kind ms from count [] fits stands = tt
  clause_defined i kind ms from count (n ∷ ns) fits stands =
      let x = named_so i kind count (identifier n) in
      let is = stands 0 from x refl (omega arith) in
      (record { number = from; definition = x; is = is; named = refl; so = fits from x is (inl refl) }, clause_defined i kind ms (suc from) count ns fits (stand_next text from x (map (named_so i kind count) (identifiers ns)) stands))

  -- the names of a clause
  pub clause_names : (i : Inside) (r : Reach) (from : ℕ) (kind : Kind) (ns : List Name) (ms : List Mention) → At i r from (define (clause kind ns ms) ∷ []) → Each DefinedSo ns
  clause_names i r from kind ns ms at =
      let own = names_defined i (clause kind ns ms) in
      let es = elements_defined i (elements_in ms) in
      clause_defined i kind ms from (elements_with kind (elements_in ms)) ns at.fits (stand_left text from own es (stand_left text from (own ++ es) [] at.stands))

  pub clause_walked : (kind : Kind) (ns : List Name) (ms : List Mention) (os : List Origin) (ss : List Site) → GoesAlong (clause kind ns ms) → Each NotRoutine os → ((r : Reach) → IsGood text Q r → MentionsSeen t r ms → Each SiteSo ss) → Walked os (define (clause kind ns ms) ∷ []) ss
  clause_walked kind ns ms os ss along none so = record { plain = (along, tt); sized = (tt, tt); none = none; names = λ i r from at. so r at.good at.seen.0 }
