-- What is told at the nodes of an action that holds others, of a handler and of a body.
use Rattle.std.proofs.Common.{◌≡◌, ◌++◌, List, [], ◌∷◌, false, refl, sym, ap, ◌∙◌, append-nil, append_assoc}
use Rattle.std.proofs.lemmas.Grind.{flat_map-append}
use Rattle.chill_tree.specs.declared.tree.name.Name.{Name}
use Rattle.chill_tree.specs.ExprTree.{ExprTree}
use Rattle.chill_tree.specs.StatementTree.{CaseNodes, NamedNodes, ReceiveNodes, if_then, case_of, do_loop, begin_end, delay_case, receive_case, no_cases, more_cases, no_named, more_named, no_receives, more_receives, local_part, action_part, body_nodes}
use Rattle.checks_model.specs.Ground.{Ground}
use Rattle.checks_model.specs.ActionRules.{clean, told_labels, told_received_names, told_exceptions}
use Rattle.checks_model.specs.Sites.{Site, Around, at_condition, at_selector, at_control, some_site, at_set, at_priority, events_listed, sites_of, sites_of_local, sites_of_each, sites_of_branches, sites_of_cases, sites_of_events, sites_of_receives, sites_of_exceptions, sites_of_otherwise, sites_of_parts}
use Rattle.checks_model.specs.Phases.{statements_told_at}
use Rattle.statement_laws.specs.Steps.{told_at_all, told_in_cases, told_in_named, told_in_receives, told_in_exceptions}
use Rattle.statement_laws.specs.Laws.{BracketedLaw, ExceptionsLaw, BodyLaw}

told-append : (g : Ground) (xs ys : List Site) → told_at_all g (xs ++ ys) ≡ told_at_all g xs ++ told_at_all g ys
told-append g xs ys = flat_map-append (statements_told_at g) xs ys

events-none : (g : Ground) (earlier ns : List Name) → told_at_all g (events_listed earlier ns) ≡ []
events-none g earlier [] = refl
events-none g earlier (n ∷ ns) = events-none g (earlier ++ n ∷ []) ns

cases-told : (g : Ground) (a : Around) (e : ExprTree) (as' : CaseNodes) → told_at_all g (sites_of_cases a e as') ≡ told_in_cases g a (clean g e) as'
cases-told g a e no_cases = refl
cases-told g a e (more_cases at ls ss as') =
    ap (λ l. told_labels g e ls ++ l) (told-append g (sites_of_each a ss) (sites_of_cases a e as') ∙ ap (λ l. told_at_all g (sites_of_each a ss) ++ l) (cases-told g a e as'))
    ∙ sym (append_assoc (told_labels g e ls) (told_at_all g (sites_of_each a ss)) (told_in_cases g a (clean g e) as'))

named-told : (g : Ground) (a : Around) (earlier : List Name) (as' : NamedNodes) → told_at_all g (sites_of_events a earlier as') ≡ told_in_named g a as'
named-told g a earlier no_named = refl
named-told g a earlier (more_named at ns ss as') =
    told-append g (events_listed earlier ns ++ sites_of_each a ss) (sites_of_events a (earlier ++ ns) as')
    ∙ ap (λ l. l ++ told_at_all g (sites_of_events a (earlier ++ ns) as')) (told-append g (events_listed earlier ns) (sites_of_each a ss) ∙ ap (λ l. l ++ told_at_all g (sites_of_each a ss)) (events-none g earlier ns))
    ∙ ap (λ l. told_at_all g (sites_of_each a ss) ++ l) (named-told g a (earlier ++ ns) as')

receives-told : (g : Ground) (a : Around) (earlier : List Name) (as' : ReceiveNodes) → told_at_all g (sites_of_receives a earlier as') ≡ told_in_receives g a as'
receives-told g a earlier no_receives = refl
receives-told g a earlier (more_receives at n r ss as') =
    ap (λ l. told_received_names g n r ++ l) (told-append g (sites_of_each a ss) (sites_of_receives a (earlier ++ n ∷ []) as') ∙ ap (λ l. told_at_all g (sites_of_each a ss) ++ l) (receives-told g a (earlier ++ n ∷ []) as'))
    ∙ sym (append_assoc (told_received_names g n r) (told_at_all g (sites_of_each a ss)) (told_in_receives g a as'))

pub exceptions_told : ExceptionsLaw
exceptions_told g a earlier no_named = refl
exceptions_told g a earlier (more_named at ns ss as') =
    ap (λ l. told_exceptions earlier ns ++ l) (told-append g (sites_of_each a ss) (sites_of_exceptions a (earlier ++ ns) as') ∙ ap (λ l. told_at_all g (sites_of_each a ss) ++ l) (exceptions_told g a (earlier ++ ns) as'))
    ∙ sym (append_assoc (told_exceptions earlier ns) (told_at_all g (sites_of_each a ss)) (told_in_exceptions g a (earlier ++ ns) as'))

-- an action that holds others tells what its three tell
pub bracketed_told : BracketedLaw
bracketed_told g a (if_then at c ss bs o) =
    told-append g (at_condition c ∷ []) (sites_of_each a ss ++ sites_of_branches a bs ++ sites_of_otherwise a o)
    ∙ ap (λ l. told_at_all g (at_condition c ∷ []) ++ l) (told-append g (sites_of_each a ss ++ sites_of_branches a bs) (sites_of_otherwise a o) ∙ ap (λ l. l ++ told_at_all g (sites_of_otherwise a o)) (told-append g (sites_of_each a ss) (sites_of_branches a bs)))
bracketed_told g a (case_of at e as' o) =
    told-append g (at_selector e ∷ []) (sites_of_cases a e as' ++ sites_of_otherwise a o)
    ∙ ap (λ l. told_at_all g (at_selector e ∷ []) ++ l) (told-append g (sites_of_cases a e as') (sites_of_otherwise a o) ∙ ap (λ l. l ++ told_at_all g (sites_of_otherwise a o)) (cases-told g a e as'))
bracketed_told g a (do_loop at c ss) =
    told-append g (at_control c ∷ []) (sites_of_each a ss) ∙ ap (λ l. told_at_all g (at_control c ∷ []) ++ l) (sym (append-nil (told_at_all g (sites_of_each a ss))))
bracketed_told g a (begin_end at ps) = sym (append-nil (told_at_all g (sites_of_parts a ps)))
bracketed_told g a (delay_case at set p as') =
    told-append g (some_site at_set set ++ some_site at_priority p) (sites_of_events a [] as')
    ∙ ap (λ l. told_at_all g (some_site at_set set ++ some_site at_priority p) ++ l) (named-told g a [] as' ∙ sym (append-nil (told_in_named g a as')))
bracketed_told g a (receive_case at set as' o) =
    told-append g (some_site at_set set ++ sites_of_receives a [] as') (sites_of_otherwise a o)
    ∙ ap (λ l. l ++ told_at_all g (sites_of_otherwise a o)) (told-append g (some_site at_set set) (sites_of_receives a [] as') ∙ ap (λ l. told_at_all g (some_site at_set set) ++ l) (receives-told g a [] as'))
    ∙ append_assoc (told_at_all g (some_site at_set set)) (told_in_receives g a as') (told_at_all g (sites_of_otherwise a o))

-- what is told in a body is told in its first part and in the others
pub body_more : BodyLaw
body_more g a (local_part l) bs = told-append g (sites_of_local false l) (sites_of_parts a (body_nodes bs)) ∙ ap (λ ds. ds ++ told_at_all g (sites_of_parts a (body_nodes bs))) (sym (ap (told_at_all g) (append-nil (sites_of_local false l))))
body_more g a (action_part s) bs = told-append g (sites_of a s) (sites_of_parts a (body_nodes bs)) ∙ ap (λ ds. ds ++ told_at_all g (sites_of_parts a (body_nodes bs))) (sym (ap (told_at_all g) (append-nil (sites_of a s))))
