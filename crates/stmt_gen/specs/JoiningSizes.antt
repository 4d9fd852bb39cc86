-- How many instructions wait for a jump.
use Rattle.std.specs.Prelude.{ℕ, zero, suc, ◌+◌}

-- so many parts wait for their jump, which comes where some instructions stand behind them
abbrev pub behind_waiting : ℕ → ℕ → ℕ
behind_waiting waiting zero = 0
behind_waiting waiting (suc rest) = waiting + suc rest
