use Rattle.std.proofs.Common.{◌≡◌, ℕ, ◌+◌, ◌≤◌, drop}
use Rattle.program_trees.specs.StatementTree.{statements_of}
use Rattle.code_scheme.specs.Pieces.{capped}
use Rattle.code_scheme.specs.StatementSize.{statements_size, handled_size, choices_size, cases_size, delays_size, receives_size}
use Rattle.action_gen.specs.Trees.{choices_of, cases_of, delays_of, receives_of, handled_of}
use Rattle.stmt_gen.specs.Joining.{size_before}
use Rattle.action_gen.specs.Putting.{site_tree}
use Rattle.stmt_gen.proofs.sizes.+extent.Given as goal

abbrev pub invariant-statements_size-loop-statement : goal.invariant-statements_size-loop-statement
invariant-statements_size-loop-statement l = record {
  counted : capped (l.size + statements_size (site_tree l.site) (statements_of (drop l.statement-index l.statements))) ≡ capped (statements_size (site_tree l.site) (statements_of l.statements));
  few : l.size ≤ 4294967295;
}

abbrev pub invariant-handled_joined-loop-alternative : goal.invariant-handled_joined-loop-alternative
invariant-handled_joined-loop-alternative l = (rest : ℕ) → capped (size_before l.joined (handled_size (site_tree l.site) (handled_of (drop l.alternative-index l.alternatives)) rest)) ≡ capped (handled_size (site_tree l.site) (handled_of l.alternatives) rest)

abbrev pub invariant-choices_joined-loop-choice : goal.invariant-choices_joined-loop-choice
invariant-choices_joined-loop-choice l = (rest : ℕ) → capped (size_before l.joined (choices_size (site_tree l.site) (choices_of (drop l.choice-index l.choices)) rest)) ≡ capped (choices_size (site_tree l.site) (choices_of l.choices) rest)

abbrev pub invariant-cases_joined-loop-alternative : goal.invariant-cases_joined-loop-alternative
invariant-cases_joined-loop-alternative l = (rest : ℕ) → capped (size_before l.joined (cases_size (site_tree l.site) (cases_of (drop l.alternative-index l.alternatives)) rest)) ≡ capped (cases_size (site_tree l.site) (cases_of l.alternatives) rest)

abbrev pub invariant-receives_joined-loop-alternative : goal.invariant-receives_joined-loop-alternative
invariant-receives_joined-loop-alternative l = (rest : ℕ) → capped (size_before l.joined (receives_size (site_tree l.site) (receives_of (drop l.alternative-index l.alternatives)) rest)) ≡ capped (receives_size (site_tree l.site) (receives_of l.alternatives) rest)

abbrev pub invariant-delays_joined-loop-alternative : goal.invariant-delays_joined-loop-alternative
invariant-delays_joined-loop-alternative l = capped (size_before l.joined (delays_size (site_tree l.site) (delays_of (drop l.alternative-index l.alternatives)))) ≡ capped (delays_size (site_tree l.site) (delays_of l.alternatives))
