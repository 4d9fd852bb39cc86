-- The texts that define something: a test that holds of each mention in a program's parts.
use Rattle.std.proofs.Common.{◌≡◌, ℕ, Bool, true, List, [], ◌∷◌, ◌++◌, Option, Some, None, length}
use Rattle.std.specs.Prelude.{flat_map, replicate}
use Rattle.chill_tree.specs.declared.tree.name.Name.{Name}
use Rattle.chill_tree.specs.ModeTree as written
use Rattle.names_model.specs.declared.kind.Need.TheVariants as needs
use Rattle.names_model.specs.declared.part.Mention.{Mention}
use Rattle.names_model.specs.declared.part.Clause.{Clause}
use Rattle.names_model.specs.Parts.{PartTree, PartNodes, define, mention, seize, seize_all, grant, grant_all, stray, modulion, routine, block, no_parts, more_parts, part_nodes}
use Rattle.names_model.specs.Definitions.{numbers_on}
use Rattle.names_model.specs.ExprMentions.{used, mentions_of}
use Rattle.names_model.specs.ModeMentions.{mentions_of_mode, mentions_of_some_mode}
use Rattle.names_model.specs.ItemParts.{mentions_of_parts}
use Rattle.checks_model.specs.Ground.{Origin, a_synonym, a_mode, an_element, a_location, a_parameter, a_received, a_procedure, a_signal}
use Rattle.checks_model.specs.Origins.{sets_in, elements, elements_of, elements_of_some}
use Rattle.written_laws.specs.Written.{Each}
use Rattle.written_laws.proofs.Shown.{each_append, each_map, each_any, each_flat, each_same}

-- ---- parts

abbrev pub AllPass : (Mention → Bool) → List Mention → Type 0
AllPass test ms = Each (λ m. test m ≡ true) ms

abbrev pub ClausePasses : (Mention → Bool) → Clause → Type 0
ClausePasses test c = AllPass test c.text

abbrev pub HeadPasses : (Mention → Bool) → List Clause → List Mention → Type 0
HeadPasses test params result = Each (ClausePasses test) params × AllPass test result

abbrev mutual
  -- the test holds in a part and in the parts inside it
  pub PartPasses : (Mention → Bool) → PartTree → Type 0
  PartPasses test (define c) = ClausePasses test c
  PartPasses test (mention m) = test m ≡ true
  PartPasses test (seize n) = Unit {0}
  PartPasses test (seize_all at) = Unit {0}
  PartPasses test (grant n) = Unit {0}
  PartPasses test (grant_all at) = Unit {0}
  PartPasses test (stray n) = Unit {0}
  PartPasses test (modulion n region size ps) = PartsPass test ps
  PartPasses test (routine n kind params result size ps) = HeadPasses test params result × PartsPass test ps
  PartPasses test (block size ps) = PartsPass test ps

  pub PartsPass : (Mention → Bool) → PartNodes → Type 0
  PartsPass test no_parts = Unit {0}
  PartsPass test (more_parts p ps) = PartPasses test p × PartsPass test ps

pub parts_split : (test : Mention → Bool) (ps qs : List PartTree) → PartsPass test (part_nodes (ps ++ qs)) → PartsPass test (part_nodes ps) × PartsPass test (part_nodes qs)
parts_split test [] qs pass = (tt, pass)
parts_split test (p ∷ ps) qs pass = let rest = parts_split test ps qs pass.1 in ((pass.0, rest.0), rest.1)

-- ---- what defines something

abbrev pub text_of : Origin → List Mention
text_of (a_synonym s) = mentions_of_some_mode s.mode ++ mentions_of s.value
text_of (a_mode novel w) = mentions_of_mode w
text_of (a_location d) = mentions_of_mode d.mode
text_of (a_parameter w) = mentions_of_mode w
text_of (a_procedure p) = mentions_of_some_mode p.returns
text_of (a_signal s) = mentions_of_parts s.parts
text_of o = []

-- and what is mentioned for it: a received name's message stands before its block
abbrev pub mentioned_for : Origin → List Mention
mentioned_for (a_received n count part) = used needs.Message n
mentioned_for o = text_of o

abbrev pub TextPasses : (Mention → Bool) → Origin → Type 0
TextPasses test o = AllPass test (mentioned_for o)

-- elements have no text
element_passes : (test : Mention → Bool) (owner : Option (Name × Bool)) (ns : List Name) → Each (TextPasses test) (elements owner ns)
element_passes test owner ns = each_map (λ k. Unit {0}) (TextPasses test) (λ part. an_element ns part owner) (λ k fits. tt) (numbers_on 0 (length ns)) (each_any (λ k. Unit {0}) (λ k. tt) (numbers_on 0 (length ns)))

pub elements_pass : (test : Mention → Bool) (owner : Option (Name × Bool)) (sets : List (List Name)) → Each (TextPasses test) (flat_map (elements owner) sets)
elements_pass test owner sets = each_flat (λ ns. Unit {0}) (TextPasses test) (elements owner) (λ ns fits. element_passes test owner ns) sets (each_any (λ ns. Unit {0}) (λ ns. tt) sets)

pub some_pass : (test : Mention → Bool) (w : Option written.ModeTree) → Each (TextPasses test) (elements_of_some w)
some_pass test None = tt
some_pass test (Some w) = elements_pass test None (sets_in w)

pub many_pass : (test : Mention → Bool) (ws : List written.ModeTree) → Each (TextPasses test) (flat_map (elements_of None) ws)
many_pass test ws = each_flat (λ w. Unit {0}) (TextPasses test) (elements_of None) (λ w fits. elements_pass test None (sets_in w)) ws (each_any (λ w. Unit {0}) (λ w. tt) ws)

pub names_pass : (test : Mention → Bool) (count : ℕ) (o : Origin) (inside : List Origin) → TextPasses test o → Each (TextPasses test) inside → Each (TextPasses test) (replicate count o ++ inside)
names_pass test count o inside own untold = each_append (TextPasses test) (replicate count o) inside (each_same (TextPasses test) count o own) untold
