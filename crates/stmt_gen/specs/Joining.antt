-- How many instructions parts have together that are joined behind each other.
use Rattle.std.specs.Prelude.{ℕ, ◌+◌}
use Rattle.stmt_gen.specs.JoiningSizes.{behind_waiting}
use Rattle.stmt_gen.specs.declared.joining.Joined.{Joined}

-- the parts with so many instructions behind them
abbrev pub size_before : Joined → ℕ → ℕ
size_before parts rest = parts.size + behind_waiting parts.waiting rest
