-- The law of statements: the instructions of each statement follow its meaning, where those of the bodies that it calls do.
use Rattle.std.specs.Prelude.{◌≡◌, ℕ, suc, ◌+◌, ◌<◌, true, List, [], ℤ, length, slice_index_or}
use Rattle.world_model.specs.Session.{Session}
use Rattle.program_trees.specs.StatementTree.{StatementNodes}
use Rattle.source_meaning.specs.Store.{Store}
use Rattle.source_meaning.specs.ExprMeaning.{Setting}
use Rattle.source_meaning.specs.StatementMeaning.{statements_mean}
use Rattle.source_meaning.specs.BodyMeaning.{Bodies}
use Rattle.code_scheme.specs.StatementSite.{Standing, layout, result_scalars}
use Rattle.code_scheme.specs.StatementPlain.{way_out_code}
use Rattle.code_scheme.specs.StatementSize.{statements_size}
use Rattle.code_scheme.specs.StatementCode.{statements_code}
use Rattle.code_scheme.specs.StatementRows.{statements_rows}
use Rattle.follow_laws.specs.Follows.{HasAt, Around, free_in, here, Holds, Does}
use Rattle.follow_laws.specs.Parts.{IsCovered}
use Rattle.code_laws.specs.BodyBounds.{BodiesWithin, called_within}
use Rattle.code_laws.specs.StatementBounds.{OpenCallsWithin, statements_within}
use Rattle.code_laws.specs.StatementsInRange.{FitsStatements}
use Rattle.code_laws.specs.Counters.{statements_keep}
use Rattle.code_laws.specs.Expressions.{Suited, NamesIn}

-- The surroundings of statements are those of the setting in which they mean something, and of where the scheme has them: EXITs
-- lead where it says, and the way out is the body's.
pub record StandsAs (w : Around) (v : Setting) (st : Standing) (bodies : Bodies) (inside : BodiesWithin) : Type 0 where
  pub suited : Suited w v (layout st.site) bodies inside
  pub rows : v.rows ≡ w.rows
  pub free : st.free ≡ free_in w
  pub results : w.results ≡ result_scalars st.site.body
  pub exits : (k : ℕ) → k < length st.exits → w.exits k ≡ slice_index_or st.exits k 0
  pub way_out : w.way_out ≡ way_out_code st.site.body

-- whether what calls do from here keeps within, where these regions are open
abbrev pub calls_from : BodiesWithin → Around → OpenCallsWithin
calls_from inside w = called_within inside (suc (length w.below))

-- Statements whose numbers are in range, whose loops alone set their counters, at a place. Where each value along what they do lies
-- in its own bounds, their instructions follow their meaning.
abbrev pub StatementsLaw : Type 0
StatementsLaw = (w : Around) (v : Setting) (st : Standing) (bodies : Bodies) (inside : BodiesWithin) (n : ℕ) (ss : StatementNodes) (at : ℕ) (locals : List ℤ) (store : Store) (s : Session)
    → StandsAs w v st bodies inside → NamesIn w at (at + statements_size st.site ss)
    → FitsStatements st.site (length st.exits) ss → statements_keep ss ≡ true
    → HasAt w.code.instrs at (statements_code st ss at)
    → IsCovered w at (at + statements_size st.site ss) (statements_rows st.site ss at)
    → statements_within v (calls_from inside w) n ss store s ≡ true
    → Holds w store locals
    → Does w (here w at [] locals s) at (at + statements_size st.site ss) (statements_rows st.site ss at) (at + statements_size st.site ss) (statements_mean v n ss store s)
