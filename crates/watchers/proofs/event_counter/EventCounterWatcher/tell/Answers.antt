use Rattle.std.proofs.Common.{◌≡◌, ◌++◌, OnOk, append_assoc, subst}
use Rattle.std.specs.Prelude.{codes}
use Rattle.std.specs.Fmt.{decimal}
use Rattle.watchers.proofs.event_counter.EventCounterWatcher.tell.Goals as goal

-- the bytes of the format, bracketed as the definition brackets them
pub returns-clause-tells : goal.returns-clause-tells
returns-clause-tells c =
    let n = c.self.inside in
    let lines : c.as_bytes.result.now ≡ codes "did " ++ decimal n.did ++ codes "\nwaits " ++ decimal n.waits ++ codes "\ngoes " ++ decimal n.goes ++ codes "\nruns " ++ decimal n.runs ++ codes "\n" =
    rw (c.as_bytes.ensures.value, c.in_ok-lines.ensures.ok) (simp append_assoc) in
    rw (← c.self.view_is) (subst (λ x. OnOk c.append.result (c.append.new.text ≡ c.args.text.now ++ x)) lines c.append.ensures.ok)
