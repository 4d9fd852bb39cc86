use Rattle.std.proofs.Common.{◌≡◌, ◌∙◌, ◌++◌, ◌∷◌, [], None, ap, subst, if◌then◌else◌}
use Rattle.std.specs.Str.{bytes_eq}
use Rattle.names_model.specs.Entries.{entry, passed}
use Rattle.reach_tables.specs.Held.{held}
use Rattle.reach_tables.specs.Opens.{Opens}
use Rattle.reach_tables.specs.Scopes.{told_by}
use Rattle.reach_tables.specs.Tellings.{firsts}
use Rattle.reach_tables.proofs.Repeated.{passes-first}
use Rattle.reach_tables.proofs.granted.enter_first.Goals as goal

pub returns : goal.returns
returns c = λ es p none.
    let all = c.args.book.now.all.items in
    let has = told_by c.args.source.now in
    let n = c.args.name.now.spelling in
    let all-passed = c.in_ok-push_passed.ensures ∙ ap (λ xs. xs ++ passed all has n) c.new-numbers.ensures in
    passes-first _ _ c.args.noted.now _ all has es c.args.name.now.at n p none
    (subst (λ xs. Opens c.enter.new.self all (es ++ entry c.args.name.now.at xs ∷ [])) (c.as_slice.ensures ∙ all-passed) (c.in_ok-enter.ensures es p.opens))
    (subst (λ xs. (k : _) → held c.note_passed.new.out k ≡ (if bytes_eq n k then held c.args.noted.now k ++ firsts all None xs else held c.args.noted.now k)) (c.as_slice-2.ensures ∙ all-passed) c.in_ok-note_passed.ensures)
