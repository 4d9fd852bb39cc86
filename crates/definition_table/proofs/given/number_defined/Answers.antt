use Rattle.std.proofs.Common.{◌≡◌, ◌∙◌, List, sym, subst}
use Rattle.names_model.specs.declared.names.Resolved.{Resolved}
use Rattle.names_laws.specs.Rising.{Rise, use_places}
use Rattle.checks_model.specs.Ground.{number_at}
use Rattle.constant_operators.specs.Grounds.{ground_of}
use Rattle.constant_operators.proofs.Grounds.{defined-there}
use Rattle.definition_table.proofs.given.number_defined.Goals as goal

pub returns : goal.returns
returns c = λ rise.
    let same : c.as_slice-defined.result.now ≡ (ground_of c.args.ground.now).defined = c.as_slice-defined.ensures ∙ sym (defined-there c.args.ground.now) in
    subst (λ (l : List Resolved). c.number_at.result ≡ number_at l c.args.name.now.at) same (c.number_at.ensures (subst (λ (l : List Resolved). Rise (use_places l)) (sym c.as_slice-defined.ensures) rise))
