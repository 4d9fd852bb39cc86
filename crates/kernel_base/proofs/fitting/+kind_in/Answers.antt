use Rattle.std.proofs.Common.{◌≡◌, ◌+◌, ◌∙◌, ap, sym, subst, take, take_all, length, arith, refl, List, [], ◌∷◌, Some, get_or}
use Rattle.std.specs.Prelude.{slice_get}
use Rattle.std.specs.List.{flat_map}
use Rattle.kernel_base.specs.declared.value.ScalarKind.{ScalarKind}
use Rattle.kernel_base.specs.declared.value.ScalarKind.TheVariants.{Plain}
use Rattle.kernel_base.specs.declared.value.Value.{Value}
use Rattle.kernel_base.specs.Value.{kinds_of, kinds_from, count_of_numbers}
use Rattle.kernel_base.specs.Reached.{IsReached}
use Rattle.kernel_base.proofs.Layers.{kinds_of-Number, kinds_of-Members, kinds_of-Parts, part_at}
use Rattle.kernel_base.proofs.fitting.+kind_in.Goals as goal

pub returns-in-At : goal.returns-in-At
returns-in-At t c =
    let items : List Value = c.as_slice-part-items.result.now in
    let parts : items ≡ c.in-Parts.parts = c.as_slice-part-items.ensures in
    let is : kinds_of c.args.value.now ≡ flat_map kinds_of items = ap kinds_of c.in-Parts.is ∙ kinds_of-Parts c.in-Parts.parts ∙ ap (λ (vs : List Value). flat_map kinds_of vs) (sym parts) in
    let here : slice_get (kinds_of (get_or items c.loop-part.part-index c.part-item.result)) c.loop-part.left ≡ Some c.in-At.kind = ap (λ (v : Value). slice_get (kinds_of v) c.loop-part.left) (sym c.part-item.is) ∙ c.in-At.ensures in
    ap (λ (kinds : List ScalarKind). slice_get kinds c.args.index) is
    ∙ part_at kinds_of items c.loop-part.part-index c.loop-part.left c.args.index c.part-item.result c.in-At.kind c.loop-part-test.true c.loop-part.invariant here

pub returns-then-index-eq0 : goal.returns-then-index-eq0
returns-then-index-eq0 t c =
    let is : kinds_of c.args.value.now ≡ Plain ∷ [] = ap kinds_of c.in-Number.is ∙ kinds_of-Number c.in-Number.field-0 in
    rw (is, c.if-index-eq0.true) refl

pub returns-else-index-eq0 : goal.returns-else-index-eq0
returns-else-index-eq0 t c =
    let is : length (kinds_of c.args.value.now) ≡ 1 = ap length (ap kinds_of c.in-Number.is ∙ kinds_of-Number c.in-Number.field-0) in
    omega arith

pub returns-in-Members : goal.returns-in-Members
returns-in-Members t c =
    let is : kinds_of c.args.value.now ≡ kinds_from c.in-Members.size 0 (count_of_numbers c.in-Members.size) = ap kinds_of c.in-Members.is ∙ kinds_of-Members c.in-Members.size c.in-Members.offsets in
    subst (λ (kinds : List ScalarKind). IsReached kinds c.args.index c.powerset_kind.result) (sym is) c.powerset_kind.ensures

pub returns-after-loop-part : goal.returns-after-loop-part
returns-after-loop-part t c =
    let items : List Value = c.as_slice-part-items.result.now in
    let is : kinds_of c.args.value.now ≡ flat_map kinds_of items = ap kinds_of c.in-Parts.is ∙ kinds_of-Parts c.in-Parts.parts ∙ ap (λ (vs : List Value). flat_map kinds_of vs) (sym c.as_slice-part-items.ensures) in
    let all : take c.loop-part.part-index items ≡ items = take_all c.loop-part.part-index items c.loop-part-test.false in
    ap (λ (kinds : List ScalarKind). length kinds + c.loop-part.left) is ∙ ap (λ (vs : List Value). length (flat_map kinds_of vs) + c.loop-part.left) (sym all) ∙ c.loop-part.invariant
