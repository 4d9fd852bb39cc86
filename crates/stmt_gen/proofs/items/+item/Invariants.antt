use Rattle.stmt_gen.specs.Appending.{KeepsFront}
use Rattle.stmt_gen.proofs.Modular.{ItemsLeft}
use Rattle.stmt_gen.proofs.items.+item.Given as goal

abbrev pub invariant-put_items-loop-item : goal.invariant-put_items-loop-item
invariant-put_items-loop-item l = record {
  left : ItemsLeft l.around l.items l.item-index l.initial.draft l.draft;
  keeps : KeepsFront l.initial.draft.code l.draft.code;
}
