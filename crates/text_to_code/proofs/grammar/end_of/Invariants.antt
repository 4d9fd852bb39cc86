use Rattle.std.proofs.Common.{◌≡◌, ◌+◌, ◌≤◌, take}
use Rattle.rules_model.specs.TokensCut.{behind_all, first_place}
use Rattle.text_to_code.proofs.grammar.end_of.Given as goal

-- the place reached
abbrev pub invariant-loop-byte : goal.invariant-loop-byte
invariant-loop-byte l = record {
  place : l.at ≡ behind_all first_place (take l.byte-index l.text);
  line : l.at.line ≤ 1 + l.byte-index;
  column : l.at.column ≤ 1 + l.byte-index;
}
