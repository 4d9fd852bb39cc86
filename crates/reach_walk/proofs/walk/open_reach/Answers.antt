use Rattle.std.proofs.Common.{◌≡◌, List, [], ◌++◌, Result, Ok, Err, subst, sym}
use Rattle.std.specs.Prelude.{OnOk}
use Rattle.diagnostics.specs.declared.diagnostic.Diagnostic.{Diagnostic}
use Rattle.diagnostics.specs.Listing.{SameMembers}
use Rattle.reach_tables.specs.Places.{singles}
use Rattle.reach_tables.proofs.Members.{same-append, same-refl}
use Rattle.reach_walk.proofs.walk.open_reach.Goals as goal

on-ok : {X E P Q : Type 0} (r : Result X E) → (P → Q) → OnOk r P → OnOk r Q
on-ok (Ok x) f h = f h
on-ok (Err e) f h = h

-- what is told of the reach is put behind others
behind : (old new own told : List Diagnostic) → SameMembers own told → new ≡ old ++ own → SameMembers new (old ++ told)
behind old new own told h is = subst (λ ds. SameMembers ds (old ++ told)) (sym is) (same-append old own old told (same-refl old) h)

pub returns-clause-told : goal.returns-clause-told
returns-clause-told c = λ h g.
    let opens = c.in_ok-enter_parts.ensures h g (singles c.args.head.now) (c.in_ok-enter_places.ensures [] (c.new-opening.ensures c.args.book.now.all.items)) in
    on-ok c.close.result (behind c.args.out.now.items c.close.new.out.items _ _ opens.told) c.close.ensures.told
