use Rattle.chill_top.proofs.AnswerLemmas.{carried_done, carried_broken, carried_nothing, keeps_same}
use Rattle.chill_top.proofs.top.carry_out.Goals as goal

-- a sink failed
pub returns-then-not-write_texts-clause-carried : goal.returns-then-not-write_texts-clause-carried
returns-then-not-write_texts-clause-carried g c =
    let prepared = c.in-Ok.prepared in
    let cut = rw c.if-not-write_texts.true at c.write_texts.ensures.broken in
    carried_broken c.args.showing c.args.plan _ _ _ _ prepared.texts.out prepared.texts.err prepared.dropped _
    c.in-Ok.ensures.stayed c.in-Ok.ensures.out c.in-Ok.ensures.err cut c.in-Ok.ensures.dropped c.outcome_of.ensures

-- all was written
pub returns-else-not-write_texts-clause-carried : goal.returns-else-not-write_texts-clause-carried
returns-else-not-write_texts-clause-carried g c =
    let prepared = c.in-Ok.prepared in
    let wrote = rw c.if-not-write_texts.false at c.write_texts.ensures.whole in
    carried_done c.args.showing c.args.plan _ _ _ _ prepared.texts.out prepared.texts.err c.status_of-status.result prepared.dropped _
    c.in-Ok.ensures.stayed c.in-Ok.ensures.out c.in-Ok.ensures.err wrote c.status_of-status.ensures c.in-Ok.ensures.dropped c.outcome_of-in-Ok.ensures

-- no memory was to be had
pub returns-in-Err-clause-carried : goal.returns-in-Err-clause-carried
returns-in-Err-clause-carried g c =
    carried_nothing c.args.showing c.args.plan _ _ _ _ _ c.in-Err.ensures.partly (record { out = keeps_same _; err = keeps_same _ }) c.without_run.ensures
