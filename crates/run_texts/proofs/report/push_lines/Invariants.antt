use Rattle.std.proofs.Common.{◌≡◌, ◌++◌}
use Rattle.run_texts.specs.Report.{lines_below}
use Rattle.run_texts.proofs.report.push_lines.Given as goal

-- the lines so far
abbrev pub invariant-loop-instance : goal.invariant-loop-instance
invariant-loop-instance l = l.text.items ≡ l.fn.text.items ++ lines_below l.program l.processes l.instance
