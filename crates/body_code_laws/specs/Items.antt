-- The laws of the items of bodies: statements, modules and regions, in the one form of parts that act.
use Rattle.std.specs.Prelude.{◌≡◌, ℕ, ◌+◌, Bool, true, [], length}
use Rattle.checked_program.specs.declared.program.Sort.TheVariants.{Outermost}
use Rattle.program_trees.specs.StatementTree.{StatementTree, statement, ActionTree, module_at, region_at, StatementNodes, no_statements, more_statements, HandlerNode}
use Rattle.source_meaning.specs.ExprMeaning.{Setting}
use Rattle.source_meaning.specs.StatementMeaning.{statements_mean, statement_mean}
use Rattle.source_meaning.specs.BodyMeaning.{Bodies}
use Rattle.source_meaning.specs.Typed.{around_body}
use Rattle.source_meaning.specs.TypedStatements.{Around as TypedAround, IsTypedStatement, AreTyped}
use Rattle.code_scheme.specs.StatementSite.{Site, Standing}
use Rattle.code_scheme.specs.StatementGoing.{go_on, goes_on}
use Rattle.code_scheme.specs.BodyItems.{items_code, item_code, items_rows, item_rows}
use Rattle.code_scheme.specs.BodyCode.{code_of}
use Rattle.follow_laws.specs.Follows.{HasAt, Around}
use Rattle.code_laws.specs.BodyBounds.{BodiesWithin}
use Rattle.code_laws.specs.Expressions.{NamesIn}
use Rattle.code_laws.specs.StatementBounds.{statements_within, statement_within}
use Rattle.code_laws.specs.StatementsInRange.{FitsItems, FitsItem}
use Rattle.code_laws.specs.Statements.{StandsAs, calls_from}
use Rattle.code_laws.specs.Counters.{statements_keep, handler_keeps}
use Rattle.code_laws.specs.Talk.{IsCompilable}
use Rattle.statement_code_laws.specs.Parts.{Acts}

-- ---- items without regions

abbrev mutual
  -- no region stands among the items
  pub NameNoRegion : StatementNodes → Type 0
  NameNoRegion no_statements = Unit {0}
  NameNoRegion (more_statements t ts) = NamesNoRegion t × NameNoRegion ts

  pub NamesNoRegion : StatementTree → Type 0
  NamesNoRegion (statement labelled a h) = IsNoRegion a

  -- neither a region nor a module with one
  pub IsNoRegion : ActionTree → Type 0
  IsNoRegion (module_at ss) = NameNoRegion ss
  IsNoRegion (region_at r ss) = ⊥
  IsNoRegion a = Unit {0}

-- Where items stand: as statements do, in no labelled statement, in the code of a program that may be compiled. In its outermost
-- process no region is open.
pub record StandsAtItems (w : Around) (v : Setting) (st : Standing) (bodies : Bodies) (inside : BodiesWithin) : Type 0 where
  pub stands : StandsAs w v st bodies inside
  pub unlabelled : st.exits ≡ []
  pub compilable : IsCompilable st.site.program
  pub code : w.code ≡ code_of st.site.program
  pub closed : st.site.body.sort ≡ Outermost → w.regions ≡ []

-- what the items of a site's body are typed in
abbrev pub around_site : Site → TypedAround
around_site site = around_body site.program site.body

-- the code of an item acts as the item means
abbrev pub ItemActs : StatementTree → Type 0
ItemActs t = (w : Around) (v : Setting) (st : Standing) (bodies : Bodies) (inside : BodiesWithin) (n from : ℕ)
    → StandsAtItems w v st bodies inside → NamesIn w from (from + length (item_code st t from)) → FitsItem st.site t → IsTypedStatement (around_site st.site) t
    → HasAt w.code.instrs from (item_code st t from)
    → Acts w from (from + length (item_code st t from)) (item_rows st t from) (from + length (item_code st t from)) (goes_on t) (statement_within v (calls_from inside w) n t) (statement_mean v n t)

-- so do items behind each other
abbrev pub ItemsAct : StatementNodes → Type 0
ItemsAct ts = (w : Around) (v : Setting) (st : Standing) (bodies : Bodies) (inside : BodiesWithin) (n from : ℕ)
    → StandsAtItems w v st bodies inside → NamesIn w from (from + length (items_code st ts from)) → FitsItems st.site ts → AreTyped (around_site st.site) ts
    → HasAt w.code.instrs from (items_code st ts from)
    → Acts w from (from + length (items_code st ts from)) (items_rows st ts from) (from + length (items_code st ts from)) (go_on ts) (statements_within v (calls_from inside w) n ts) (statements_mean v n ts)

-- ---- the regions among items

abbrev mutual
  -- each region among the items acts as it means
  pub RegionsAct : StatementNodes → Type 0
  RegionsAct no_statements = Unit {0}
  RegionsAct (more_statements t ts) = RegionsActIn t × RegionsAct ts

  pub RegionsActIn : StatementTree → Type 0
  RegionsActIn (statement labelled a h) = EachRegionActs labelled a h

  -- a region with its handler, or each of a module
  pub EachRegionActs : Bool → ActionTree → HandlerNode → Type 0
  EachRegionActs labelled (module_at ss) h = RegionsAct ss
  EachRegionActs labelled (region_at r ss) h = ItemActs (statement labelled (region_at r ss) h)
  EachRegionActs labelled a h = Unit {0}

-- Statements, and modules with their handlers, act as they mean, where the regions among them do and each loop alone sets its
-- counter.
abbrev pub ItemsLaw : Type 0
ItemsLaw = (ts : StatementNodes) → RegionsAct ts → statements_keep ts ≡ true → ItemsAct ts

-- The initialisations of a region with their handler act as they mean, where each loop alone sets its counter.
abbrev pub InitialisationsLaw : Type 0
InitialisationsLaw = (labelled : Bool) (r : ℕ) (ss : StatementNodes) (h : HandlerNode) → statements_keep ss ≡ true → handler_keeps h ≡ true → ItemActs (statement labelled (region_at r ss) h)
