use Rattle.std.proofs.Common.{◌≡◌, ◌∙◌, ap, sym}
use Rattle.std.specs.Prelude.{option_map}
use Rattle.chill_tree.specs.declared.tree.statement.ReceiveAlternative.{out-ReceiveAlternative}
use Rattle.chill_tree.specs.StatementTree.{receive_tree}
use Rattle.checks_model.specs.Ground.{message_of, message_parts}
use Rattle.checks_model.specs.Table.{received_mode}
use Rattle.constant_operators.specs.Grounds.{entry_tree, entry_at, ground_of}
use Rattle.definition_origins.specs.OriginTrees.{count_received, origin_tree}
use Rattle.definition_origins.proofs.Views.{tree-receive_out}
use Rattle.written_modes.specs.Wholes.{tree_there}
use Rattle.definition_table.proofs.EntryLemmas.{received_found}
use Rattle.definition_table.proofs.received.received_entry.Goals as goal

pub returns : goal.returns
returns c = λ keeps.
    let g = ground_of c.args.ground.now in
    let part = c.args.part in
    let count = c.count_of-count.result in
    let own = out-ReceiveAlternative c.args.alternative.now in
    let a = receive_tree c.args.alternative.now in
    received_found g a.source (count_received a.received) part (tree_there c.in_ok-mode.mode) c.of_mode.result
    (c.in_ok-mode.ensures
    ∙ ap (λ e. received_mode (message_of e (option_map origin_tree c.origin_used-origin.result)) count part) (c.entry_used-entry.ensures keeps)
    ∙ ap (λ o. received_mode (message_of (entry_at g own.source.at) o) count part) (c.origin_used-origin.ensures keeps)
    ∙ ap (λ n. received_mode (message_parts g own.source) n part) c.count_of-count.ensures
    ∙ ap (λ t. received_mode (message_parts g t.source) (count_received t.received) part) (sym (tree-receive_out c.args.alternative.now)))
    c.of_mode.ensures
