use Rattle.std.proofs.Common.{◌≡◌, ◌+◌, ◌*◌, refl, rules, w64}
use mir.Val.{SFits}
use Rattle.std.proofs.lemmas.Int.{to_z-of_z}
use Rattle.code_types.specs.declared.instr.Instr.TheVariants.{Push, Pop, Copy, Thing, Local, SetLocal, LocalAt, SetLocalAt, Part, PartAt, Index, Check, Add, Sub, Mul, Div, Mod, Rem, Neg, Abs, Succ, Pred, Same, Less, Not, And, Or, Xor, Jump, Unless, Again, Raise, BitNot, BitAnd, BitOr, BitXor, BitMinus, Within, Has, Card, Least, Most, Span}
use Rattle.machine_frames.proofs.Pushed.{does_or_leaves}
use Rattle.machine_frames.proofs.acting.act.Goals as goal

pub returns-in-Push-clause-does : goal.returns-in-Push-clause-does
returns-in-Push-clause-does c =
    let fits_number : SFits w64 c.in-Push.number = search rules in
    let does = simp to_z-of_z at c.push.ensures.does in
    rw c.in-Push.is (does_or_leaves 0 (Push c.in-Push.number) c.args.top.now c.push.new.top c.push.result does)

pub returns-in-Pop-clause-does : goal.returns-in-Pop-clause-does
returns-in-Pop-clause-does c = rw c.in-Pop.is (does_or_leaves c.in-Pop.n (Pop c.in-Pop.n) c.args.top.now c.pop.new.top c.pop.result c.pop.ensures.does)

pub returns-in-Copy-clause-does : goal.returns-in-Copy-clause-does
returns-in-Copy-clause-does c = rw c.in-Copy.is (does_or_leaves c.in-Copy.n (Copy c.in-Copy.n) c.args.top.now c.copy.new.top c.copy.result c.copy.ensures.does)

pub returns-in-Thing-clause-does : goal.returns-in-Thing-clause-does
returns-in-Thing-clause-does c = rw c.in-Thing.is (does_or_leaves 0 (Thing c.in-Thing.number) c.args.top.now c.thing.new.top c.thing.result c.thing.ensures.does)

pub returns-in-Local-clause-does : goal.returns-in-Local-clause-does
returns-in-Local-clause-does c = rw c.in-Local.is (does_or_leaves 0 (Local c.in-Local.first c.in-Local.count) c.args.top.now c.local.new.top c.local.result c.local.ensures.does)

pub returns-in-SetLocal-clause-does : goal.returns-in-SetLocal-clause-does
returns-in-SetLocal-clause-does c = rw c.in-SetLocal.is (does_or_leaves c.in-SetLocal.count (SetLocal c.in-SetLocal.first c.in-SetLocal.count) c.args.top.now c.set_local.new.top c.set_local.result c.set_local.ensures.does)

pub returns-in-LocalAt-clause-does : goal.returns-in-LocalAt-clause-does
returns-in-LocalAt-clause-does c = rw c.in-LocalAt.is (does_or_leaves 1 (LocalAt c.in-LocalAt.first c.in-LocalAt.count) c.args.top.now c.local_at.new.top c.local_at.result c.local_at.ensures.does)

pub returns-in-SetLocalAt-clause-does : goal.returns-in-SetLocalAt-clause-does
returns-in-SetLocalAt-clause-does c = rw c.in-SetLocalAt.is (does_or_leaves (1 + c.in-SetLocalAt.count) (SetLocalAt c.in-SetLocalAt.first c.in-SetLocalAt.count) c.args.top.now c.set_local_at.new.top c.set_local_at.result c.set_local_at.ensures.does)

pub returns-in-Part-clause-does : goal.returns-in-Part-clause-does
returns-in-Part-clause-does c = rw c.in-Part.is (does_or_leaves c.in-Part.of (Part c.in-Part.first c.in-Part.count c.in-Part.of) c.args.top.now c.part.new.top c.part.result c.part.ensures.does)

pub returns-in-PartAt-clause-does : goal.returns-in-PartAt-clause-does
returns-in-PartAt-clause-does c = rw c.in-PartAt.is (does_or_leaves (1 + c.in-PartAt.of) (PartAt c.in-PartAt.count c.in-PartAt.of) c.args.top.now c.part_at.new.top c.part_at.result c.part_at.ensures.does)

pub returns-in-Index-clause-does : goal.returns-in-Index-clause-does
returns-in-Index-clause-does c =
    let fits_low : SFits w64 c.in-Index.low = search rules in
    let fits_high : SFits w64 c.in-Index.high = search rules in
    let does = simp to_z-of_z at c.index.ensures.does in
    rw c.in-Index.is (does_or_leaves 1 (Index c.in-Index.low c.in-Index.high c.in-Index.size) c.args.top.now c.index.new.top c.index.result does)

pub returns-in-Check-clause-does : goal.returns-in-Check-clause-does
returns-in-Check-clause-does c =
    let fits_low : SFits w64 c.in-Check.low = search rules in
    let fits_high : SFits w64 c.in-Check.high = search rules in
    let does = simp to_z-of_z at c.check.ensures.does in
    rw c.in-Check.is (does_or_leaves 1 (Check c.in-Check.low c.in-Check.high) c.args.top.now c.check.new.top c.check.result does)

pub returns-in-Add-clause-does : goal.returns-in-Add-clause-does
returns-in-Add-clause-does c = rw c.in-Add.is (does_or_leaves 2 Add c.args.top.now c.add.new.top c.add.result c.add.ensures.does)

pub returns-in-Sub-clause-does : goal.returns-in-Sub-clause-does
returns-in-Sub-clause-does c = rw c.in-Sub.is (does_or_leaves 2 Sub c.args.top.now c.subtract.new.top c.subtract.result c.subtract.ensures.does)

pub returns-in-Mul-clause-does : goal.returns-in-Mul-clause-does
returns-in-Mul-clause-does c = rw c.in-Mul.is (does_or_leaves 2 Mul c.args.top.now c.multiply.new.top c.multiply.result c.multiply.ensures.does)

pub returns-in-Div-clause-does : goal.returns-in-Div-clause-does
returns-in-Div-clause-does c = rw c.in-Div.is (does_or_leaves 2 Div c.args.top.now c.divide.new.top c.divide.result c.divide.ensures.does)

pub returns-in-Mod-clause-does : goal.returns-in-Mod-clause-does
returns-in-Mod-clause-does c = rw c.in-Mod.is (does_or_leaves 2 Mod c.args.top.now c.modulo.new.top c.modulo.result c.modulo.ensures.does)

pub returns-in-Rem-clause-does : goal.returns-in-Rem-clause-does
returns-in-Rem-clause-does c = rw c.in-Rem.is (does_or_leaves 2 Rem c.args.top.now c.remain.new.top c.remain.result c.remain.ensures.does)

pub returns-in-Neg-clause-does : goal.returns-in-Neg-clause-does
returns-in-Neg-clause-does c = rw c.in-Neg.is (does_or_leaves 1 Neg c.args.top.now c.negate.new.top c.negate.result c.negate.ensures.does)

pub returns-in-Abs-clause-does : goal.returns-in-Abs-clause-does
returns-in-Abs-clause-does c = rw c.in-Abs.is (does_or_leaves 1 Abs c.args.top.now c.absolute.new.top c.absolute.result c.absolute.ensures.does)

pub returns-in-Succ-clause-does : goal.returns-in-Succ-clause-does
returns-in-Succ-clause-does c =
    let fits_bound : SFits w64 c.in-Succ.bound = search rules in
    let does = simp to_z-of_z at c.succeed.ensures.does in
    rw c.in-Succ.is (does_or_leaves 1 (Succ c.in-Succ.bound) c.args.top.now c.succeed.new.top c.succeed.result does)

pub returns-in-Pred-clause-does : goal.returns-in-Pred-clause-does
returns-in-Pred-clause-does c =
    let fits_bound : SFits w64 c.in-Pred.bound = search rules in
    let does = simp to_z-of_z at c.precede.ensures.does in
    rw c.in-Pred.is (does_or_leaves 1 (Pred c.in-Pred.bound) c.args.top.now c.precede.new.top c.precede.result does)

pub returns-in-Same-clause-does : goal.returns-in-Same-clause-does
returns-in-Same-clause-does c = rw c.in-Same.is (does_or_leaves (2 * c.in-Same.n) (Same c.in-Same.n) c.args.top.now c.same.new.top c.same.result c.same.ensures.does)

pub returns-in-Less-clause-does : goal.returns-in-Less-clause-does
returns-in-Less-clause-does c = rw c.in-Less.is (does_or_leaves (2 * c.in-Less.n) (Less c.in-Less.n) c.args.top.now c.less.new.top c.less.result c.less.ensures.does)

pub returns-in-Not-clause-does : goal.returns-in-Not-clause-does
returns-in-Not-clause-does c = rw c.in-Not.is (does_or_leaves 1 Not c.args.top.now c.not.new.top c.not.result c.not.ensures.does)

pub returns-in-And-clause-does : goal.returns-in-And-clause-does
returns-in-And-clause-does c = rw c.in-And.is (does_or_leaves 2 And c.args.top.now c.and.new.top c.and.result c.and.ensures.does)

pub returns-in-Or-clause-does : goal.returns-in-Or-clause-does
returns-in-Or-clause-does c = rw c.in-Or.is (does_or_leaves 2 Or c.args.top.now c.or.new.top c.or.result c.or.ensures.does)

pub returns-in-Xor-clause-does : goal.returns-in-Xor-clause-does
returns-in-Xor-clause-does c = rw c.in-Xor.is (does_or_leaves 2 Xor c.args.top.now c.xor.new.top c.xor.result c.xor.ensures.does)

pub returns-in-Jump-clause-does : goal.returns-in-Jump-clause-does
returns-in-Jump-clause-does c = rw c.in-Jump.is (does_or_leaves 0 (Jump c.in-Jump.to) c.args.top.now c.jump.new.top c.jump.result c.jump.ensures.does)

pub returns-in-Unless-clause-does : goal.returns-in-Unless-clause-does
returns-in-Unless-clause-does c = rw c.in-Unless.is (does_or_leaves 1 (Unless c.in-Unless.to) c.args.top.now c.unless.new.top c.unless.result c.unless.ensures.does)

pub returns-in-Again-clause-does : goal.returns-in-Again-clause-does
returns-in-Again-clause-does c = rw c.in-Again.is (does_or_leaves 0 (Again c.in-Again.to) c.args.top.now c.again.new.top c.again.result c.again.ensures.does)

pub returns-in-Raise-clause-does : goal.returns-in-Raise-clause-does
returns-in-Raise-clause-does c = rw c.in-Raise.is (does_or_leaves 0 (Raise c.in-Raise.exception) c.args.top.now c.raise.new.top c.raise.result c.raise.ensures.does)

pub returns-in-BitNot-clause-does : goal.returns-in-BitNot-clause-does
returns-in-BitNot-clause-does c = rw c.in-BitNot.is (does_or_leaves 1 (BitNot c.in-BitNot.count) c.args.top.now c.bit_not.new.top c.bit_not.result c.bit_not.ensures.does)

pub returns-in-BitAnd-clause-does : goal.returns-in-BitAnd-clause-does
returns-in-BitAnd-clause-does c = rw c.in-BitAnd.is (does_or_leaves 2 BitAnd c.args.top.now c.bit_and.new.top c.bit_and.result c.bit_and.ensures.does)

pub returns-in-BitOr-clause-does : goal.returns-in-BitOr-clause-does
returns-in-BitOr-clause-does c = rw c.in-BitOr.is (does_or_leaves 2 BitOr c.args.top.now c.bit_or.new.top c.bit_or.result c.bit_or.ensures.does)

pub returns-in-BitXor-clause-does : goal.returns-in-BitXor-clause-does
returns-in-BitXor-clause-does c = rw c.in-BitXor.is (does_or_leaves 2 BitXor c.args.top.now c.bit_xor.new.top c.bit_xor.result c.bit_xor.ensures.does)

pub returns-in-BitMinus-clause-does : goal.returns-in-BitMinus-clause-does
returns-in-BitMinus-clause-does c = rw c.in-BitMinus.is (does_or_leaves 2 BitMinus c.args.top.now c.bit_minus.new.top c.bit_minus.result c.bit_minus.ensures.does)

pub returns-in-Within-clause-does : goal.returns-in-Within-clause-does
returns-in-Within-clause-does c = rw c.in-Within.is (does_or_leaves 2 Within c.args.top.now c.within.new.top c.within.result c.within.ensures.does)

pub returns-in-Has-clause-does : goal.returns-in-Has-clause-does
returns-in-Has-clause-does c = rw c.in-Has.is (does_or_leaves 2 Has c.args.top.now c.has.new.top c.has.result c.has.ensures.does)

pub returns-in-Card-clause-does : goal.returns-in-Card-clause-does
returns-in-Card-clause-does c = rw c.in-Card.is (does_or_leaves 1 Card c.args.top.now c.card.new.top c.card.result c.card.ensures.does)

pub returns-in-Least-clause-does : goal.returns-in-Least-clause-does
returns-in-Least-clause-does c = rw c.in-Least.is (does_or_leaves 1 Least c.args.top.now c.least.new.top c.least.result c.least.ensures.does)

pub returns-in-Most-clause-does : goal.returns-in-Most-clause-does
returns-in-Most-clause-does c = rw c.in-Most.is (does_or_leaves 1 Most c.args.top.now c.most.new.top c.most.result c.most.ensures.does)

pub returns-in-Span-clause-does : goal.returns-in-Span-clause-does
returns-in-Span-clause-does c = rw c.in-Span.is (does_or_leaves 2 Span c.args.top.now c.span.new.top c.span.result c.span.ensures.does)
