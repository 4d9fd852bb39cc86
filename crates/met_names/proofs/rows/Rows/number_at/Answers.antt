use Rattle.std.proofs.Common.{◌≡◌, Some, subst}
use Rattle.checks_model.specs.Ground.{number_at}
use Rattle.met_names.proofs.Rising.{found_first}
use Rattle.met_names.proofs.rows.Rows.number_at.Goals as goal

pub returns-in-Some : goal.returns-in-Some
returns-in-Some c =
    let found = found_first c.self.inside.rows.now c.args.at c.in-Some.number (c.self.invariant c.if-self.true) c.in-Some.ensures in
    subst (λ rows. Some c.in-Some.number ≡ number_at rows c.args.at) c.self.view_is found
