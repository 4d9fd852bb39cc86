use Rattle.std.proofs.lemmas.Result.{on_ok_weaker}
use Rattle.expr_gen.specs.Putting.{layout_of}
use Rattle.expr_gen.proofs.Told.{copied_in, copied_out, copied_back}
use Rattle.expr_gen.proofs.copying.put_copy_out.Goals as goal

pub returns-in-In-clause-puts : goal.returns-in-In-clause-puts
returns-in-In-clause-puts c = copied_in (layout_of c.args.site.now.program.now c.args.site.now.body.now) c.args.kept c.args.free c.args.argument.now c.in-In.field-0 c.in-In.is

pub returns-in_ok-put_under-in-Out-clause-puts : goal.returns-in_ok-put_under-in-Out-clause-puts
returns-in_ok-put_under-in-Out-clause-puts c =
    on_ok_weaker c.put_store.result
    (λ q. copied_out (layout_of c.args.site.now.program.now c.args.site.now.body.now) c.args.kept c.args.free c.args.argument.now c.in-Out.target c.in-Out.bounds c.bounds_to_test.result c.in-Out.is c.bounds_to_test.ensures c.in_ok-put_check-in-Out.ensures.puts c.in_ok-put_under-in-Out.ensures.puts q)
    c.put_store.ensures.puts

pub returns-in_ok-put_under-in-InOut-clause-puts : goal.returns-in_ok-put_under-in-InOut-clause-puts
returns-in_ok-put_under-in-InOut-clause-puts c =
    on_ok_weaker c.put_store-in-InOut.result
    (λ q. copied_back (layout_of c.args.site.now.program.now c.args.site.now.body.now) c.args.kept c.args.free c.args.argument.now c.in-InOut.target c.in-InOut.taken c.in-InOut.bounds c.bounds_to_test-in-InOut.result c.in-InOut.is c.bounds_to_test-in-InOut.ensures c.in_ok-put_check-in-InOut.ensures.puts c.in_ok-put_under-in-InOut.ensures.puts q)
    c.put_store-in-InOut.ensures.puts
