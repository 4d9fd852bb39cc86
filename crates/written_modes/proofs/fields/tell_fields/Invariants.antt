use Rattle.std.proofs.Common.{◌≡◌, ℕ, ◌++◌, List, [], drop, take, map}
use Rattle.std.specs.Prelude.{◌&&◌}
use Rattle.checks_model.specs.Told.{is_none_told}
use Rattle.written_modes.specs.Fields.{field_view, told_all, has_name, has_text}
use Rattle.written_modes.proofs.fields.tell_fields.Given as goal

abbrev pub invariant-loop-number : goal.invariant-loop-number
invariant-loop-number l =
    let earlier = map field_view (take l.number l.fields) in
    let rest = told_all l.all_placed earlier (map field_view (drop l.number l.fields)) in
    let whole = told_all l.all_placed [] (map field_view l.fields) in
    record {
      names : (q : List ℕ) → has_text l.names q ≡ has_name earlier q;
      told : l.told ++ rest ≡ l.fn.told ++ whole;
      clean : (l.is_clean && is_none_told rest) ≡ is_none_told whole;
    }
