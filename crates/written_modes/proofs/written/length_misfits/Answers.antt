use Rattle.std.proofs.Common.{◌≡◌, ◌∙◌, refl, ap, sym, rules, true, false, pos, int_le, Option}
use Rattle.std.specs.Prelude.{◌&&◌, Bool, not}
use Rattle.modes.specs.ModeTree.{ModeTree, ClassTree, mode_tree, int}
use Rattle.checks_model.specs.Alike.{goes_with}
use Rattle.checks_model.specs.Told.{holds_of}
use Rattle.written_modes.proofs.NumberLemmas.{goes-known, misfits-first, misfits-none, misfits-some}
use Rattle.written_modes.proofs.written.length_misfits.Goals as goal

for_int : (c : Option ClassTree) (m : ModeTree) (b : Bool) → m ≡ int → holds_of (λ c. not (goes_with c m)) c ≡ b → holds_of (λ c. not (goes_with c int)) c ≡ b
for_int c m b is h = ap (λ (m : ModeTree). holds_of (λ c. not (goes_with c m)) c) (sym is) ∙ h

pub returns-then-goes_not_with : goal.returns-then-goes_not_with
returns-then-goes_not_with c = λ c' v is k.
    let m = mode_tree c.args.mode.now in
    misfits-first c' v int (pos c.args.least) (pos c.args.most)
    (for_int c' m true is (goes-known c' v c.args.known.now m true k (sym c.goes_not_with.ensures ∙ c.if-goes_not_with.true)))

pub returns-in-None : goal.returns-in-None
returns-in-None c = λ c' v is k.
    let m = mode_tree c.args.mode.now in
    misfits-none c.tests_law.ensures.goes_with c' v c.args.known.now int (pos c.args.least) (pos c.args.most) refl k
    (for_int c' m false is (goes-known c' v c.args.known.now m false k (sym c.goes_not_with.ensures ∙ c.if-goes_not_with.false)))
    (sym c.number.ensures ∙ c.in-None.is)

pub returns-in-Some : goal.returns-in-Some
returns-in-Some c = λ c' v is k.
    let m = mode_tree c.args.mode.now in
    let z = c.in-Some.number in
    let tested : c.isnt_between.result ≡ not (int_le (pos c.args.least) z && int_le z (pos c.args.most)) = search rules in
    tested
    ∙ misfits-some c.tests_law.ensures.goes_with c' v c.args.known.now int (pos c.args.least) (pos c.args.most) z refl k
    (for_int c' m false is (goes-known c' v c.args.known.now m false k (sym c.goes_not_with.ensures ∙ c.if-goes_not_with.false)))
    (sym c.number.ensures ∙ c.in-Some.is)
