-- The limits of scalars: L4 of the locals of a body, L7 of the locations that processes share.
use Rattle.std.specs.Prelude.{ℕ, ◌+◌, nat_lt, if◌then◌else◌, List, [], ◌∷◌, Option, Some, None, sum_by}
use Rattle.chill_base.specs.declared.pos.Pos.{Pos}
use Rattle.chill_tree.specs.declared.tree.name.Name.{Name}
use Rattle.modes.specs.ModeTree.{ModeTree}
use Rattle.modes.specs.Scalars.{scalars_of}
use Rattle.diagnostics.specs.declared.diagnostic.Diagnostic.{Diagnostic}
use Rattle.diagnostics.specs.declared.rule.Rule.TheVariants as rules
use Rattle.checks_model.specs.Ground.{Ground, entry_defined, mode_of_entry}
use Rattle.checks_model.specs.Told.{tell_at, told_if}

abbrev pub scalars_in_mode : Option ModeTree → ℕ
scalars_in_mode None = 0
scalars_in_mode (Some m) = scalars_of m

-- the scalars of what a name defines, where its mode is known; an event or buffer has none
abbrev pub scalars_named : Ground → Name → ℕ
scalars_named g n = scalars_in_mode (mode_of_entry (entry_defined g n))

-- ---- L4: a body has more than 512 local scalars

abbrev pub first_place : Pos
first_place = record { line = 1; column = 1 }

-- the place of a body's name, or the text's first place
abbrev pub place_of_body : Option Name → Pos
place_of_body None = first_place
place_of_body (Some n) = n.at

abbrev pub told_locals : Ground → Option Name → List Name → List Diagnostic
told_locals g body locals = told_if (nat_lt 512 (sum_by (scalars_named g) locals)) (tell_at rules.L4 (place_of_body body))

-- ---- L7: the shared scalars pass 65,536; it is told once, at the first location with which they do

abbrev pub told_shared : Ground → ℕ → List Name → List Diagnostic
told_shared g before [] = []
told_shared g before (n ∷ ns) =
    if nat_lt 65536 (before + scalars_named g n) then tell_at rules.L7 n.at ∷ [] else told_shared g (before + scalars_named g n) ns
