-- What stands before a handler, with the handler.
use Rattle.std.proofs.Common.{◌≡◌, ℕ, ◌+◌, ◌≤◌, Bool, true, false, ◌&&◌, ◌||◌, List, [], ◌++◌, length, refl, ap, subst, arith}
use Rattle.program_trees.specs.StatementTree.{HandlerNode, no_handler, handler}
use Rattle.code_types.specs.declared.instr.Instr.{Instr}
use Rattle.code_types.specs.declared.code.Handler.{Handler}
use Rattle.source_meaning.specs.Flow.{Meaning}
use Rattle.source_meaning.specs.ExprMeaning.{Setting}
use Rattle.source_meaning.specs.StatementMeaning.{caught, handler_mean}
use Rattle.source_meaning.specs.BodyMeaning.{Bodies}
use Rattle.code_scheme.specs.StatementSite.{Standing}
use Rattle.code_scheme.specs.StatementGoing.{handler_goes_on, leave_size, leave_code}
use Rattle.code_scheme.specs.StatementSize.{handler_size, otherwise_size}
use Rattle.code_scheme.specs.StatementCode.{no_code, handler_code, handled_code, otherwise_code}
use Rattle.code_scheme.specs.StatementRows.{own_rows, handler_rows, handled_rows, otherwise_rows}
use Rattle.follow_laws.specs.Follows.{HasAt, Around}
use Rattle.follow_laws.proofs.Running.{has_front, has_back}
use Rattle.code_laws.specs.BodyBounds.{BodiesWithin}
use Rattle.code_laws.specs.Expressions.{NamesIn}
use Rattle.code_laws.specs.StatementBounds.{Along, where_raises, handler_within}
use Rattle.code_laws.specs.StatementsInRange.{FitsHandler}
use Rattle.code_laws.specs.Statements.{StandsAs, calls_from}
use Rattle.statement_code_laws.specs.Parts.{Acts}
use Rattle.statement_code_laws.specs.StatementForms.{HandlerActs}
use Rattle.statement_code_laws.proofs.Lengths.{leave_length}
use Rattle.statement_code_laws.proofs.ChoiceRuns.{names_inside}
use Rattle.statement_code_laws.proofs.HandlingRuns.{nothing_catches, handled_acts, or_left, or_right}
use Rattle.statement_code_laws.proofs.StatementRuns.{handled_act}

-- so many instructions more or less to the end
pub resized : {w : Around} {from : ℕ} {rows : List Handler} {goes : Bool} {inside : Along} {mean : Meaning (Unit {0})} (a b : ℕ) → a ≡ b → Acts w from a rows a goes inside mean → Acts w from b rows b goes inside mean
resized {w} {from} {rows} {goes} {inside} {mean} a b e acts = subst (λ (j : ℕ). Acts w from j rows j goes inside mean) e acts

-- A part with the handler behind it. The scheme leads over the handler where control may come there.
pub guarded : (w : Around) (v : Setting) (st : Standing) (bodies : Bodies) (inside : BodiesWithin) (n from until : ℕ) (rows : List Handler) (g : Bool) (along : Along) (mean : Meaning (Unit {0})) (h : HandlerNode)
    → StandsAs w v st bodies inside → Acts w from until rows until g along mean → HandlerActs h → FitsHandler st.site (length st.exits) h
    → from ≤ until → NamesIn w from (until + (leave_size g (handler_size st.site h) + handler_size st.site h))
    → HasAt w.code.instrs until (handler_code st h g until)
    → Acts w from (until + (leave_size g (handler_size st.site h) + handler_size st.site h)) (rows ++ handler_rows st.site h g from until) (until + (leave_size g (handler_size st.site h) + handler_size st.site h)) (g || handler_goes_on h)
    (λ store s. along store s && where_raises (mean store s) (handler_within v (calls_from inside w) n h)) (λ store s. caught (mean store s) (handler_mean v n h))
guarded w v st bodies inside n from until rows g along mean no_handler stands acts handled fits low names has =
    let behind : ℕ = until + (leave_size g 0 + 0) in
    let same : until ≡ behind = omega (arith, no_jump g) in
    handled_acts w from until behind 0 behind rows [] [] g false (g || false) along mean (handler_within v (calls_from inside w) n no_handler) (handler_mean v n no_handler)
    low (omega (arith, no_jump g)) (omega arith) (or_left g false) (λ e. absurd (let no : ⊥ = cc in no)) (no_leave g)
    acts (nothing_catches w from until behind behind behind (handler_within v (calls_from inside w) n no_handler))
  where
    no_jump : (t : Bool) → leave_size t 0 ≡ 0
    no_jump true = refl
    no_jump false = refl

    no_leave : (t : Bool) → HasAt w.code.instrs until (leave_code t 0 (until + (leave_size g 0 + 0)))
    no_leave true = tt
    no_leave false = tt
guarded w v st bodies inside n from until rows g along mean (handler hs o) stands acts handled fits low names has =
    let size : ℕ = handler_size st.site (handler hs o) in
    let next : ℕ = until + leave_size g size in
    let behind : ℕ = until + (leave_size g size + size) in
    let all : List Instr = w.code.instrs in
    let leave : List Instr = leave_code g size behind in
    let rest : List Instr = handled_code st hs behind (otherwise_size st.site o 0) (otherwise_code st o no_code) next in
    let has_rest : HasAt all next rest = has_back all until next leave rest (ap (λ (j : ℕ). until + j) (leave_length g size behind)) has in
    let catches = handled_act hs handled.0 w v st bodies inside n from until next behind o stands (omega arith) (names_inside w from behind next behind (omega arith) (omega arith) names) fits.0 fits.1 handled.1 has_rest in
    handled_acts w from until next size behind rows (own_rows st.site from until hs o next) (handled_rows st.site hs (otherwise_size st.site o 0) (otherwise_rows st.site o) next) g (handler_goes_on (handler hs o)) (g || handler_goes_on (handler hs o))
    along mean (handler_within v (calls_from inside w) n (handler hs o)) (handler_mean v n (handler hs o))
    low refl (omega arith) (or_left g (handler_goes_on (handler hs o))) (or_right g (handler_goes_on (handler hs o)))
    (has_front all until leave rest has) acts catches
