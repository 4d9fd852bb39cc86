-- The values around a counter's loop name nothing that stands as deep as the counter.
use Rattle.std.proofs.Common.{◌≡◌, ◌<◌, ℕ, ◌+◌, List, [], ◌++◌, Some, inl, inr, sym, ◌∙◌, subst, arith, Contains}
use Rattle.std.specs.Prelude.{slice_get}
use Rattle.std.proofs.lemmas.List.Elements.{Contains-append_left, Contains-append_right, Contains-append_cases}
use Rattle.chill_tree.specs.declared.tree.name.Name.{Name}
use Rattle.chill_tree.specs.SimpleTree.{ControlTree, while_holds, for_ever, for_members, for_steps}
use Rattle.chill_tree.specs.ItemTree.{ProgramTree}
use Rattle.names_model.specs.declared.identifier.Identifier.{Identifier}
use Rattle.names_model.specs.declared.part.Mention.{Mention}
use Rattle.names_model.specs.Identifiers.{identifier, identifiers}
use Rattle.names_model.specs.ExprMentions.{mentions_of, mentions_of_some}
use Rattle.names_model.specs.Seeing.{sees}
use Rattle.names_laws.proofs.Members.{none_in, here_in, flat_map_in}
use Rattle.names_laws.proofs.Seen.{seeing}
use Rattle.ground_laws.specs.Rows.{used_in_mention, used_in_mentions, used_in}
use Rattle.ground_laws.proofs.Rows.{each_use}
use Rattle.checks_model.specs.Ground.{Ground, Entry, a_counter, number_at}
use Rattle.checks_model.specs.Origins.{text_origins, origins_of}
use Rattle.checks_model.specs.Table.{ground_with}
use Rattle.checks_model.specs.Diagnoses.{HasNames}
use Rattle.table_laws.specs.Names.{names_in, names_bounding}
use Rattle.elaborated_laws.proofs.Told.{same_some}
use Rattle.written_laws.proofs.Defining.{program_sized}
use Rattle.written_laws.proofs.Mentioned.{is_resolved}
use Rattle.order_laws.specs.Texts.{CountersDeepLaw}
use Rattle.order_laws.proofs.Numbered.{at_number}
use Rattle.order_laws.proofs.Used.{one_used, in_map}
use Rattle.order_laws.proofs.Depths.{outermost_within}
use Rattle.order_laws.proofs.Loops.{mentions_bounding, HasLoop, program_loops}
use Rattle.order_laws.proofs.Selves.{text, every, level, deep, deep_stands, outside, in_text}

-- the names around a loop are used in the mentions there
expr_used : (ms : List Mention) (ns : List Name) (n : Name) → used_in_mentions ms ≡ identifiers ns → Contains ns n → Contains (used_in_mentions ms) (identifier n)
expr_used ms ns n same c = subst (λ xs. Contains xs (identifier n)) (sym same) (in_map identifier ns n c)

-- one of some mentions uses a name
pub record UsedIn (ms : List Mention) (n : Identifier) : Type 0 where
  pub at : Mention
  pub among : Contains ms at
  pub used : Contains (used_in_mention at) n

found_in : (ms : List Mention) (n : Identifier) → Contains (used_in_mentions ms) n → UsedIn ms n
found_in ms n c = let h = flat_map_in used_in_mention ms n c in record { at = h.0; among = h.1; used = h.2 }

wider : (ms ps : List Mention) (n : Identifier) → ((m : Mention) → Contains ms m → Contains ps m) → UsedIn ms n → UsedIn ps n
wider ms ps n within u = record { at = u.at; among = within u.at u.among; used = u.used }

pub bounding_used : (c : ControlTree) (n : Name) → Contains (names_bounding c) n → UsedIn (mentions_bounding c) (identifier n)
bounding_used (while_holds at c) n i = absurd (none_in n i)
bounding_used (for_ever at) n i = absurd (none_in n i)
bounding_used (for_members at k s c) n i = found_in (mentions_of s) (identifier n) (expr_used (mentions_of s) (names_in s) n (one_used s) i)
bounding_used (for_steps at k s b down e c) n i =
    let first = mentions_of s ++ mentions_of_some b in
    elim (Contains-append_cases (names_in s) (names_in e) n i) [
      | inl start ↦ wider (mentions_of s) (first ++ mentions_of e) (identifier n) (λ m j. Contains-append_left first (mentions_of e) m (Contains-append_left (mentions_of s) (mentions_of_some b) m j)) (found_in (mentions_of s) (identifier n) (expr_used (mentions_of s) (names_in s) n (one_used s) start))
      | inr end ↦ wider (mentions_of e) (first ++ mentions_of e) (identifier n) (λ m j. Contains-append_right first (mentions_of e) m j) (found_in (mentions_of e) (identifier n) (expr_used (mentions_of e) (names_in e) n (one_used e) end))
    ]

module _ (txt : List ℕ) (t : ProgramTree) (es : List Entry) (has : HasNames txt t) where
  abbrev depth : ℕ → ℕ
  depth d = deep txt t es has d

  pub loop_at : (d : ℕ) (c : ControlTree) → slice_get (origins_of t) d ≡ Some (a_counter c) → HasLoop (text txt t es has) (every txt t es has) (deep txt t es has) (outside txt t es has) d (a_counter c)
  loop_at d c at =
      let own = in_text txt t es has d (a_counter c) at (λ none. none) in
      let whole = program_loops (text txt t es has) (every txt t es has) (deep txt t es has) (outside txt t es has) t (deep_stands txt t es has) (outermost_within (deep txt t es has) (text txt t es has) (level txt t es has) (program_sized t) (deep_stands txt t es has) (outside txt t es has)) (λ k i. i) in
      let same : 0 + d ≡ d = omega arith in
      subst (λ k. HasLoop (text txt t es has) (every txt t es has) (deep txt t es has) (outside txt t es has) k (a_counter c)) same (at_number (HasLoop (text txt t es has) (every txt t es has) (deep txt t es has) (outside txt t es has)) 0 d (text_origins t) (a_counter c) whole own)

  named_less : (d e : ℕ) (c : ControlTree) (n : Name) → slice_get (origins_of t) d ≡ Some (a_counter c) → Contains (names_bounding c) n → number_at (ground_with t es).uses n.at ≡ Some e → deep txt t es has e < deep txt t es has d
  named_less d e c n at i number =
      let u = bounding_used c n i in
      let of = loop_at d c at u.at u.among in
      let used : Contains (used_in of.at.part) (identifier n) = subst (λ p. Contains (used_in p) (identifier n)) (sym of.is_mention) u.used in
      let row = each_use has.has_tree.tokens t of.at (identifier n) (is_resolved txt t has) (record { is_node = of.is_node; is_used = used }) in
      let same : row.number ≡ e = same_some row.number e (sym row.has_row ∙ number) in
      let seen : Contains (sees (text txt t es has) of.at.reach n.text) e = subst (λ xs. Contains xs e) (sym row.is_seen) (here_in row.number [] e same) in
      of.near e ((seeing (text txt t es has) of.at.reach n.text e).0 seen).0

deep_in : (txt : List ℕ) (t : ProgramTree) (es : List Entry) (has : HasNames txt t) (g : Ground) → ground_with t es ≡ g
    → (d e : ℕ) (c : ControlTree) (n : Name) → slice_get g.origins d ≡ Some (a_counter c) → Contains (names_bounding c) n → number_at g.uses n.at ≡ Some e → deep txt t es has e < deep txt t es has d
deep_in txt t es has g is = subst (λ (h : Ground). (d e : ℕ) (c : ControlTree) (n : Name) → slice_get h.origins d ≡ Some (a_counter c) → Contains (names_bounding c) n → number_at h.uses n.at ≡ Some e → deep txt t es has e < deep txt t es has d) is (named_less txt t es has)

pub counters_deep : CountersDeepLaw
counters_deep txt t g has is = (deep txt t g.entries has, deep_in txt t g.entries has g (sym is))
