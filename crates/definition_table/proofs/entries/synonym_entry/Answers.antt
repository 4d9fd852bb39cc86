use Rattle.std.proofs.Common.{◌≡◌, ◌∙◌, ◌++◌, ap, sym, subst, false, None, Some, rules}
use Rattle.std.specs.Prelude.{option_map}
use Rattle.chill_tree.specs.ExprTree.{ExprTree, expr_tree}
use Rattle.chill_tree.specs.ModeTree as written
use Rattle.chill_tree.specs.LocalTree.{synonym_tree}
use Rattle.checks_model.specs.ConstantRules.{told_needed}
use Rattle.checks_model.specs.WrittenModes.{mode_of, told_of_some_mode}
use Rattle.checks_model.specs.Table.{told_of_synonym}
use Rattle.constant_operators.specs.Grounds.{ground_of}
use Rattle.definition_table.specs.Entries.{IsPlainSynonym, IsSynonymOf}
use Rattle.definition_table.proofs.Synonyms.{plain_synonym, told_plain, synonym_with}
use Rattle.definition_table.proofs.entries.synonym_entry.Goals as goal

pub returns-in_ok-entry-in-None-clause-told : goal.returns-in_ok-entry-in-None-clause-told
returns-in_ok-entry-in-None-clause-told c = λ keeps few.
    let g = ground_of c.args.ground.now in
    let s = synonym_tree c.args.own.now in
    let same : expr_tree c.deref.result.now ≡ (synonym_tree c.args.own.now).value = search rules in
    let none : option_map written.mode_tree c.args.own.now.mode ≡ None = ap (option_map written.mode_tree) c.in-None.is in
    c.in_ok-entry-in-None.ensures.told keeps
    ∙ ap (λ ds. c.args.told.now ++ ds) (ap (told_needed g) same ∙ sym (told_plain g s none) ∙ ap (λ m. told_of_some_mode g m ++ told_of_synonym g s) (sym none))

pub returns-in_ok-entry-in-None-clause-entry : goal.returns-in_ok-entry-in-None-clause-entry
returns-in_ok-entry-in-None-clause-entry c = λ keeps few.
    let g = ground_of c.args.ground.now in
    let same : expr_tree c.deref.result.now ≡ (synonym_tree c.args.own.now).value = search rules in
    plain_synonym g (synonym_tree c.args.own.now) c.in_ok-entry-in-None.entry (ap (option_map written.mode_tree) c.in-None.is)
    (subst (λ (e : ExprTree). IsPlainSynonym g e c.in_ok-entry-in-None.entry) same (c.in_ok-entry-in-None.ensures.entry keeps))

pub returns-in_ok-entry-in-Some-clause-entry : goal.returns-in_ok-entry-in-Some-clause-entry
returns-in_ok-entry-in-Some-clause-entry c = λ keeps few.
    let g = ground_of c.args.ground.now in
    let w = written.mode_tree c.in-Some.mode in
    let same : expr_tree c.deref-in-Some.result.now ≡ (synonym_tree c.args.own.now).value = search rules in
    synonym_with g (synonym_tree c.args.own.now) w c.in_ok-entry-in-Some.entry (ap (option_map written.mode_tree) c.in-Some.is)
    (subst (λ (e : ExprTree). IsSynonymOf g (mode_of g false w) e c.in_ok-entry-in-Some.entry) same (c.in_ok-entry-in-Some.ensures.entry keeps few))
