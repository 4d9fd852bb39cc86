-- The names that parts use are seen in their reaches, and so are those of expressions.
use Rattle.std.proofs.Common.{◌≡◌, ℕ, suc, ◌+◌, List, [], ◌∷◌, ◌++◌, Option, Some, None, Contains, refl, sym, subst}
use Rattle.std.proofs.lemmas.List.Elements.{Contains-append_left, Contains-append_right}
use Rattle.chill_tree.specs.declared.token.Token.{Token}
use Rattle.chill_tree.specs.declared.tree.name.Name.{Name}
use Rattle.chill_tree.specs.ExprTree.{ExprTree, ExprNodes, RangeTree, RangeNodes, whole, character, text, this_instance, paren, receive, start, tuple, uniform, name, apply, field, prefixed, binary, no_exprs, more_exprs, alone, between, no_ranges, more_ranges}
use Rattle.chill_tree.specs.ItemTree.{ProgramTree}
use Rattle.names_model.specs.declared.identifier.Identifier.{Identifier}
use Rattle.names_model.specs.declared.kind.Need.{Need}
use Rattle.names_model.specs.declared.kind.Need.TheVariants as needs
use Rattle.names_model.specs.declared.part.Mention.{Mention}
use Rattle.names_model.specs.declared.part.Mention.TheVariants.{Use, Argument}
use Rattle.names_model.specs.Identifiers.{identifier}
use Rattle.names_model.specs.Parts as parts
use Rattle.names_model.specs.Parts.{PartTree, PartNodes, define, mention, seize, seize_all, grant, grant_all, stray, modulion, routine, block, part_nodes}
use Rattle.names_model.specs.Sizes.{head_size, size_of}
use Rattle.names_model.specs.Definitions.{text_definitions}
use Rattle.names_model.specs.Seeing.{Reach, outermost, in_modulion, in_block, sees}
use Rattle.names_model.specs.NameRules.{Node, node, nodes, nodes_inside, body_reach}
use Rattle.names_model.specs.ExprMentions.{tuple_mode, callee_of, mentions_as, mentions_in_each, mentions_in_range, mentions_in_ranges}
use Rattle.names_model.specs.StatementParts.{mentioned}
use Rattle.names_model.specs.Resolving.{level_of}
use Rattle.names_laws.specs.Visible.{Sees}
use Rattle.names_laws.proofs.Members.{here_in, later_in}
use Rattle.names_laws.proofs.Seen.{seeing}
use Rattle.ground_laws.specs.Rows.{used_in_mention, used_in_mentions, used_in, uses_of, IsUsedAt, IsResolved}
use Rattle.ground_laws.proofs.Rows.{each_use}
use Rattle.checks_model.specs.Ground.{number_at}
use Rattle.checks_model.specs.Diagnoses.{HasNames}
use Rattle.table_laws.specs.Names.{some_name, names_in, names_in_each, names_in_range, names_in_ranges}
use Rattle.written_laws.specs.Written.{Each}
use Rattle.written_laws.proofs.Shown.{each_append}
use Rattle.written_laws.proofs.Mentioned.{is_resolved}

-- the definition of a used name is seen
pub record IsSeen (t : ProgramTree) (r : Reach) (n : Identifier) : Type 0 where
  pub number : ℕ
  pub seen : Sees (text_definitions (level_of t)) r number
  pub has_row : number_at (uses_of t) n.at ≡ Some number

abbrev pub MentionSeen : ProgramTree → Reach → Mention → Type 0
MentionSeen t r m = (n : Identifier) → Contains (used_in_mention m) n → IsSeen t r n

abbrev pub MentionsSeen : ProgramTree → Reach → List Mention → Type 0
MentionsSeen t r ms = Each (MentionSeen t r) ms

abbrev mutual
  pub PartSeen : ProgramTree → Reach → ℕ → PartTree → Type 0
  PartSeen t r from (define c) = MentionsSeen t r c.text
  PartSeen t r from (mention m) = MentionSeen t r m
  PartSeen t r from (modulion n region size ps) = PartsSeen t (in_modulion r (suc from) ps) (suc from) ps
  PartSeen t r from (routine n kind params result size ps) = PartsSeen t (body_reach r from params result ps) (from + head_size params result) ps
  PartSeen t r from (block size ps) = PartsSeen t (in_block r [] from ps) from ps
  PartSeen t r from (seize n) = Unit {0}
  PartSeen t r from (seize_all at) = Unit {0}
  PartSeen t r from (grant n) = Unit {0}
  PartSeen t r from (grant_all at) = Unit {0}
  PartSeen t r from (stray n) = Unit {0}

  pub PartsSeen : ProgramTree → Reach → ℕ → PartNodes → Type 0
  PartsSeen t r from parts.no_parts = Unit {0}
  PartsSeen t r from (parts.more_parts p ps) = PartSeen t r from p × PartsSeen t r (from + size_of p) ps

abbrev AllUsedSeen : ProgramTree → Reach → PartTree → Type 0
AllUsedSeen t r p = (n : Identifier) → Contains (used_in p) n → IsSeen t r n

mentions_seen : (t : ProgramTree) (r : Reach) (ms : List Mention) → ((n : Identifier) → Contains (used_in_mentions ms) n → IsSeen t r n) → MentionsSeen t r ms
mentions_seen t r [] all = tt
mentions_seen t r (m ∷ ms) all = ((λ n c. all n (Contains-append_left (used_in_mention m) (used_in_mentions ms) n c)), mentions_seen t r ms (λ n c. all n (Contains-append_right (used_in_mention m) (used_in_mentions ms) n c)))

mutual
  part_seen : (t : ProgramTree) (p : PartTree) (r : Reach) (from : ℕ) → AllUsedSeen t r p → ((k : Node) → Contains (nodes_inside r from p) k → AllUsedSeen t k.reach k.part) → PartSeen t r from p
  part_seen t (define c) r from own inside = mentions_seen t r c.text own
  part_seen t (mention m) r from own inside = own
  part_seen t (seize n) r from own inside = tt
  part_seen t (seize_all at) r from own inside = tt
  part_seen t (grant n) r from own inside = tt
  part_seen t (grant_all at) r from own inside = tt
  part_seen t (stray n) r from own inside = tt
  part_seen t (modulion n region count ps) r from own inside = parts_seen t ps (in_modulion r (suc from) ps) (suc from) inside
  part_seen t (routine n kind params result count ps) r from own inside = parts_seen t ps (body_reach r from params result ps) (from + head_size params result) inside
  part_seen t (block count ps) r from own inside = parts_seen t ps (in_block r [] from ps) from inside

  parts_seen : (t : ProgramTree) (ps : PartNodes) (r : Reach) (from : ℕ) → ((k : Node) → Contains (nodes r from ps) k → AllUsedSeen t k.reach k.part) → PartsSeen t r from ps
  parts_seen t parts.no_parts r from each = tt
  parts_seen t (parts.more_parts p ps) r from each =
      let inside = nodes_inside r from p in
      let behind = nodes r (from + size_of p) ps in (
        part_seen t p r from (each (node r from p) (here_in (node r from p) (inside ++ behind) (node r from p) refl)) (λ k c. each k (later_in (node r from p) (inside ++ behind) k (Contains-append_left inside behind k c))),
        parts_seen t ps r (from + size_of p) (λ k c. each k (later_in (node r from p) (inside ++ behind) k (Contains-append_right inside behind k c))),
      )

is_seen : (tokens : List Token) (t : ProgramTree) (k : Node) (n : Identifier) → IsResolved tokens t → IsUsedAt (level_of t) k n → IsSeen t k.reach n
is_seen tokens t k n resolved used =
    let row = each_use tokens t k n resolved used in
    let text = text_definitions (level_of t) in
    let one = (seeing text k.reach n.spelling row.number).0 (subst (λ ds. Contains ds row.number) (let back : row.number ∷ [] ≡ sees text k.reach n.spelling = sym row.is_seen in back) (here_in row.number [] row.number refl)) in
    record { number = row.number; seen = one.0; has_row = row.has_row }

pub program_seen : (text : List ℕ) (t : ProgramTree) → HasNames text t → PartsSeen t (outermost (level_of t)) 0 (level_of t)
program_seen bytes t has = parts_seen t (level_of t) (outermost (level_of t)) 0 (λ k c n used. is_seen has.has_tree.tokens t k n (is_resolved bytes t has) (record { is_node = c; is_used = used }))

-- ---- lists of parts

abbrev pub AreSeen : ProgramTree → Reach → ℕ → List PartTree → Type 0
AreSeen t r from ps = PartsSeen t r from (part_nodes ps)

pub mentioned_seen : (t : ProgramTree) (r : Reach) (from : ℕ) (ms : List Mention) → AreSeen t r from (mentioned ms) → MentionsSeen t r ms
mentioned_seen t r from [] all = tt
mentioned_seen t r from (m ∷ ms) all = (all.0, mentioned_seen t r (from + size_of (mention m)) ms all.1)

pub mentions_first : (t : ProgramTree) (r : Reach) (ms ns : List Mention) → MentionsSeen t r (ms ++ ns) → MentionsSeen t r ms
mentions_first t r [] ns all = tt
mentions_first t r (m ∷ ms) ns all = (all.0, mentions_first t r ms ns all.1)

pub mentions_later : (t : ProgramTree) (r : Reach) (ms ns : List Mention) → MentionsSeen t r (ms ++ ns) → MentionsSeen t r ns
mentions_later t r [] ns all = all
mentions_later t r (m ∷ ms) ns all = mentions_later t r ms ns all.1

-- ---- expressions

module _ (t : ProgramTree) (r : Reach) (P : Name → Type 0) (so : (n : Name) → IsSeen t r (identifier n) → P n) where
  abbrev Names : List Name → Type 0
  Names ns = Each P ns

  pub use_so : (need : Need) (n : Name) → MentionSeen t r (Use (identifier n) need) → P n
  use_so need n seen = so n (seen (identifier n) (here_in (identifier n) [] (identifier n) refl))

  argument_so : (c n : Name) → MentionSeen t r (Argument (identifier n) (identifier c)) → P n
  argument_so c n seen = so n (seen (identifier n) (here_in (identifier n) [] (identifier n) refl))

  tuple_so : (m : Option Name) (ms : List Mention) → MentionsSeen t r (tuple_mode m ++ ms) → Names (some_name m) × MentionsSeen t r ms
  tuple_so None ms seen = (tt, seen)
  tuple_so (Some n) ms seen = ((use_so needs.Mode n seen.0, tt), seen.1)

  mutual
    pub expr_so : (of : Option Name) (e : ExprTree) → MentionsSeen t r (mentions_as of e) → Names (names_in e)
    expr_so of (whole at n) seen = tt
    expr_so of (character at n) seen = tt
    expr_so of (text at n) seen = tt
    expr_so of (this_instance at) seen = tt
    expr_so of (paren at e) seen = expr_so None e seen
    expr_so of (receive at n) seen = (use_so needs.Location n seen.0, tt)
    expr_so of (start at n es) seen = (use_so needs.Process n seen.0, each_so None es seen.1)
    expr_so of (tuple at m b rs) seen = let h = tuple_so m (mentions_in_ranges rs) seen in each_append P (some_name m) (names_in_ranges rs) h.0 (ranges_so rs h.1)
    expr_so of (uniform at m b e) seen = let h = tuple_so m (mentions_as None e) seen in each_append P (some_name m) (names_in e) h.0 (expr_so None e h.1)
    expr_so None (name n) seen = (use_so needs.Value n seen.0, tt)
    expr_so (Some c) (name n) seen = (argument_so c n seen.0, tt)
    expr_so of (apply at e es) seen =
        let first = mentions_as None e in
        let later = mentions_in_each (callee_of e) es in
        each_append P (names_in e) (names_in_each es) (expr_so None e (mentions_first t r first later seen)) (each_so (callee_of e) es (mentions_later t r first later seen))
    expr_so of (field at e n) seen = expr_so None e seen
    expr_so of (prefixed at o e) seen = expr_so None e seen
    expr_so of (binary at lhs o p rhs) seen =
        each_append P (names_in lhs) (names_in rhs) (expr_so None lhs (mentions_first t r (mentions_as None lhs) (mentions_as None rhs) seen)) (expr_so None rhs (mentions_later t r (mentions_as None lhs) (mentions_as None rhs) seen))

    pub each_so : (of : Option Name) (es : ExprNodes) → MentionsSeen t r (mentions_in_each of es) → Names (names_in_each es)
    each_so of no_exprs seen = tt
    each_so of (more_exprs e es) seen =
        each_append P (names_in e) (names_in_each es) (expr_so of e (mentions_first t r (mentions_as of e) (mentions_in_each of es) seen)) (each_so of es (mentions_later t r (mentions_as of e) (mentions_in_each of es) seen))

    range_so : (k : RangeTree) → MentionsSeen t r (mentions_in_range k) → Names (names_in_range k)
    range_so (alone e) seen = expr_so None e seen
    range_so (between l h) seen = each_append P (names_in l) (names_in h) (expr_so None l (mentions_first t r (mentions_as None l) (mentions_as None h) seen)) (expr_so None h (mentions_later t r (mentions_as None l) (mentions_as None h) seen))

    pub ranges_so : (ks : RangeNodes) → MentionsSeen t r (mentions_in_ranges ks) → Names (names_in_ranges ks)
    ranges_so no_ranges seen = tt
    ranges_so (more_ranges k ks) seen =
        each_append P (names_in_range k) (names_in_ranges ks) (range_so k (mentions_first t r (mentions_in_range k) (mentions_in_ranges ks) seen)) (ranges_so ks (mentions_later t r (mentions_in_range k) (mentions_in_ranges ks) seen))
