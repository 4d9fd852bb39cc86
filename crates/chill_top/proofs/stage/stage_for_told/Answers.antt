use Rattle.chill_top.proofs.StageLemmas.{stage-refused, stage-accepted, stage-listed, ok-stage-run, reads_run}
use Rattle.chill_top.proofs.stage.stage_for_told.Goals as goal

-- the text is refused
pub returns-in-Refused-clause-stage : goal.returns-in-Refused-clause-stage
returns-in-Refused-clause-stage g c = stage-refused c.args.purpose (g.I.Feed.bytes c.args.feed.now) c.args.told c.in-Refused.told c.in-Refused.is

-- it is run
pub returns-in-Run-clause-stage : goal.returns-in-Run-clause-stage
returns-in-Run-clause-stage g c =
    ok-stage-run c.args.purpose c.in-Run.units (g.I.Feed.bytes c.args.feed.now) _ c.args.told c.in-Accepted.built c.stage_for_run.result c.in-Accepted.is c.in-Run.is c.stage_for_run.ensures.stage

pub returns-in-Run-clause-reads : goal.returns-in-Run-clause-reads
returns-in-Run-clause-reads g c = reads_run c.args.told c.in-Accepted.built c.stage_for_run.result c.in-Accepted.is c.stage_for_run.ensures.reads

-- it is checked
pub returns-in-Check-clause-stage : goal.returns-in-Check-clause-stage
returns-in-Check-clause-stage g c = stage-accepted c.args.purpose (g.I.Feed.bytes c.args.feed.now) c.args.told c.in-Accepted.built c.in-Accepted.is c.in-Check.is

-- it is listed
pub returns-in-List-clause-stage : goal.returns-in-List-clause-stage
returns-in-List-clause-stage g c = stage-listed c.args.purpose (g.I.Feed.bytes c.args.feed.now) c.args.told c.in-Accepted.built c.in-Accepted.is c.in-List.is
