use Rattle.std.proofs.Common.{◌≡◌, true, false, length, refl, sym, ◌∙◌, arith}
use Rattle.std.proofs.lemmas.Result.{on_ok_weaker}
use Rattle.stmt_gen.proofs.Front.{front_on, front_as}
use Rattle.stmt_gen.proofs.Modular.{items_begin, items_turn, items_stop, items_end, statement_told, module_told, region_told, module_put}
use Rattle.stmt_gen.proofs.items.+item.Goals as goal

pub put_items-loop-item-init : goal.put_items-loop-item-init
put_items-loop-item-init t c = record { left = items_begin c.args.around.now c.args.items.now c.args.draft.now; keeps = front_as refl }

pub put_items-loop-item-preserved : goal.put_items-loop-item-preserved
put_items-loop-item-preserved t c = record {
  left = items_turn c.args.around.now c.args.items.now c.loop-item.item-index c.item-item.result c.loop-item-test.true c.item-item.is (sym c.goes_on.ensures ∙ c.if-not-goes_on.false) c.loop-item.invariant.left c.in_ok-put_item.ensures.puts;
  keeps = front_on c.loop-item.invariant.keeps c.in_ok-put_item.ensures.keeps;
}

pub put_items-returns-then-not-goes_on-clause-puts : goal.put_items-returns-then-not-goes_on-clause-puts
put_items-returns-then-not-goes_on-clause-puts t c =
    items_stop c.args.around.now c.args.items.now c.loop-item.item-index c.item-item.result c.loop-item-test.true c.item-item.is (sym c.goes_on.ensures ∙ c.if-not-goes_on.true) c.loop-item.invariant.left c.in_ok-put_item.ensures.puts

pub put_items-returns-clause-puts : goal.put_items-returns-clause-puts
put_items-returns-clause-puts t c = items_end c.args.around.now c.args.items.now c.loop-item.item-index c.loop-item-test.false c.loop-item.invariant.left

pub put_item-returns-else-is_modulion-clause-puts : goal.put_item-returns-else-is_modulion-clause-puts
put_item-returns-else-is_modulion-clause-puts t c =
    on_ok_weaker c.put_statement.result (λ q. statement_told c.args.around.now c.args.item.now c.deref.result.now c.deref.ensures (sym c.is_modulion.ensures ∙ c.if-is_modulion.false) q) c.put_statement.ensures.puts

pub put_modulion-returns-in-Module-clause-puts : goal.put_modulion-returns-in-Module-clause-puts
put_modulion-returns-in-Module-clause-puts t c =
    on_ok_weaker c.put_module.result (λ q. module_told c.args.around.now c.args.item.now c.deref.result.now c.in-Module.actions c.as_slice.result.now _ c.deref.ensures c.in-Module.is c.as_slice.ensures refl q) c.put_module.ensures.puts

pub put_modulion-returns-in-Region-clause-puts : goal.put_modulion-returns-in-Region-clause-puts
put_modulion-returns-in-Region-clause-puts t c =
    on_ok_weaker c.put_region.result (λ q. region_told c.args.around.now c.args.item.now c.deref.result.now c.in-Region.region c.in-Region.actions c.as_slice-initialisations.result.now _ c.deref.ensures c.in-Region.is c.as_slice-initialisations.ensures refl q) c.put_region.ensures.puts

pub put_module-returns-clause-puts : goal.put_module-returns-clause-puts
put_module-returns-clause-puts t c =
    let from : c.in_ok-from.from ≡ length c.args.draft.now.code.instrs = omega (arith, c.in_ok-from.ensures 0 refl) in
    on_ok_weaker c.put_some_handler.result (λ q. module_put c.args.around.now c.args.items.now c.args.handler.now c.in_ok-from.from c.go_on.result from c.go_on.ensures c.in_ok-put_items.ensures.puts q) c.put_some_handler.ensures.puts
