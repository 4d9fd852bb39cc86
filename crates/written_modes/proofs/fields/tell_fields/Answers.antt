use Rattle.std.proofs.Common.{◌≡◌, ◌<◌, ◌+◌, ◌++◌, ◌∙◌, [], map, take, drop, length, get_or, ap, rules, arith}
use Rattle.checks_model.specs.Told.{is_none_told}
use Rattle.written_modes.specs.Fields.{field_view, has_name, told_all, told_one, told_one_of}
use Rattle.written_modes.proofs.FieldLemmas.{tell_step, names_step, told_step_on, clean_step_on}
use Rattle.written_modes.proofs.fields.tell_fields.Goals as goal

pub loop-number-preserved : goal.loop-number-preserved
loop-number-preserved c =
    let fs = c.args.fields.now in
    let n = c.loop-number.number in
    let f = c.index-fields-number.result in
    let less : n < length fs = omega arith in
    let is : f ≡ get_or fs n f = c.index-fields-number.is in
    let all = c.all_placed-all_placed.result in
    let earlier = map field_view (take n fs) in
    let rest = told_all all (map field_view (take (n + 1) fs)) (map field_view (drop (n + 1) fs)) in
    let left = told_all all earlier (map field_view (drop n fs)) in
    let one = told_one all earlier (field_view f) in
    let twice : c.in_ok-is_twice.is_twice ≡ has_name earlier (field_view f).name.text = search (rules, c.loop-number.invariant.names) in
    let step = tell_step all fs n f less is in
    let own : c.tell_field.new.told ≡ c.loop-number.told ++ told_one_of all c.in_ok-is_twice.is_twice earlier (field_view f) = search rules in
    let here : c.in_ok-is_own.is_own ≡ is_none_told (told_one_of all c.in_ok-is_twice.is_twice earlier (field_view f)) = search rules in
    record {
      names = λ q. names_step fs n f q _ _ less is (c.loop-number.invariant.names q) (search (rules, c.in_ok-is_twice.ensures.added q));
      told = told_step_on c.loop-number.told c.tell_field.new.told one rest left (c.args.told.now ++ told_all all [] (map field_view fs)) c.loop-number.invariant.told step
          (own ∙ ap (λ b. c.loop-number.told ++ told_one_of all b earlier (field_view f)) twice);
      clean = clean_step_on c.loop-number.is_clean c.in_ok-is_own.is_own c.both-is_clean.result (is_none_told (told_all all [] (map field_view fs))) one rest left c.loop-number.invariant.clean step
          (here ∙ ap (λ b. is_none_told (told_one_of all b earlier (field_view f))) twice) c.both-is_clean.ensures;
    }
