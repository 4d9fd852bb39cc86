-- Trees by their fields, and origins in the order in which they are found.
use Rattle.std.proofs.Common.{◌≡◌, ◌++◌, ℕ, List, [], ◌∷◌, Option, Some, None, map, length, replicate, refl, sym, ap, ◌∙◌, append-nil, append_assoc, arith}
use Rattle.std.specs.Prelude.{Bool, true, false, ◌+◌, zero, suc, option_map, flat_map, if◌then◌else◌}
use Rattle.std.proofs.lemmas.List.{map-append}
use Rattle.chill_base.specs.declared.pos.Pos.{Pos}
use Rattle.chill_tree.specs.declared.tree.name.Name.{Name}
use Rattle.chill_tree.specs.declared.tree.mode.Field.{Field, out-Field, fold_out-Field}
use Rattle.chill_tree.specs.ModeTree as written
use Rattle.chill_tree.specs.ModeTree.{BaseTree, FieldTree, base_layer, field_layer, base_tree, boxed_base, field_tree, place_tree}
use Rattle.chill_tree.proofs.ModeViews.{base_built}
use Rattle.chill_tree.specs.LocalTree.{ModeDefinitionTree}
use Rattle.chill_tree.specs.declared.tree.statement.Statement.{Statement}
use Rattle.chill_tree.specs.declared.tree.statement.Bracketed.{Bracketed}
use Rattle.chill_tree.specs.declared.tree.statement.BodyPart.{BodyPart}
use Rattle.chill_tree.specs.declared.tree.statement.ElsIf.{ElsIf, out-ElsIf, fold_out-ElsIf}
use Rattle.chill_tree.specs.declared.tree.statement.CaseAlternative.{CaseAlternative, out-CaseAlternative, fold_out-CaseAlternative}
use Rattle.chill_tree.specs.declared.tree.statement.NamedAlternative.{NamedAlternative, out-NamedAlternative, fold_out-NamedAlternative}
use Rattle.chill_tree.specs.declared.tree.statement.ReceiveAlternative.{ReceiveAlternative, out-ReceiveAlternative, fold_out-ReceiveAlternative}
use Rattle.chill_tree.specs.declared.tree.statement.Handler.{Handler, out-Handler, fold_out-Handler, map-Handler}
use Rattle.chill_tree.specs.ExprTree.{boxed_expr, range_trees}
use Rattle.chill_tree.specs.StatementTree.{BodyTree, BracketedTree, StatementTree, CaseTree, ElsIfTree, HandlerTree, NamedTree, ReceiveTree, if_then, case_of, do_loop, begin_end, delay_case, receive_case, local_part, action_part, body_layer, bracketed_layer, statement_layer, case_layer, branch_layer, handler_layer, named_layer, receive_layer, body_tree, bracketed_tree, statement_tree, case_tree, branch_tree, handler_tree, named_tree, receive_tree, statement_trees, body_nodes, boxed_handler}
use Rattle.chill_tree.proofs.StatementViews.{statement_built}
use Rattle.chill_tree.specs.declared.tree.item.Modulion.{Modulion, out-Modulion, fold_out-Modulion}
use Rattle.chill_tree.specs.ItemTree.{ItemTree, ModulionTree, item_layer, modulion_layer, item_tree, modulion_tree, item_trees}
use Rattle.chill_tree.proofs.ItemViews.{item_built}
use Rattle.names_model.specs.Definitions.{numbers_on}
use Rattle.checks_model.specs.Ground.{Origin, a_mode}
use Rattle.checks_model.specs.Origins.{set_in_discrete, sets_in_base, sets_in_fields, sets_in, is_set_base, is_set, elements, elements_of, owner_of, origins_of_mode, origins_of_local, counters_in, origins_in, origins_in_each, origins_in_branches, origins_in_cases, origins_in_named, origins_in_receives, origins_in_otherwise, origins_in_parts, origins_in_bracketed}
use Rattle.definition_origins.specs.declared.origin.Origin.{Origin as Pushed}
use Rattle.definition_origins.specs.OriginTrees.{origin_tree, origin_trees}
use Rattle.definition_origins.specs.Walks.{elements_in_base, elements_in_fields, elements_of_owned, owner_by, held_origins, else_origins}

pub tree-field_out : (f : Field) → field_tree f ≡ record { names = (out-Field f).names; base = boxed_base (out-Field f).base; place = option_map place_tree (out-Field f).place }
unfolding base_tree field_tree
tree-field_out f = fold_out-Field BaseTree FieldTree base_layer field_layer f

pub ruleset mode_views = (base_built, tree-field_out, append-nil, append_assoc)

-- ---- the elements of the SETs in a mode

flat-append : (f : List Name → List Origin) (xs ys : List (List Name)) → flat_map f (xs ++ ys) ≡ flat_map f xs ++ flat_map f ys
flat-append f [] ys = refl
flat-append f (x ∷ xs) ys = ap (λ zs. f x ++ zs) (flat-append f xs ys) ∙ sym (append_assoc (f x) (flat_map f xs) (flat_map f ys))

mutual
  base-alone : (b : written.BaseTree) → elements_in_base None b ≡ flat_map (elements None) (sets_in_base b)
  base-alone (written.discrete d) = refl
  base-alone (written.powerset at d) = refl
  base-alone (written.chars at e) = refl
  base-alone (written.structure at fs p) = fields-alone fs
  base-alone (written.array at i b s) = base-alone b

  fields-alone : (fs : written.FieldNodes) → elements_in_fields fs ≡ flat_map (elements None) (sets_in_fields fs)
  fields-alone written.no_fields = refl
  fields-alone (written.more_fields ns b p fs) =
      ap (λ xs. xs ++ elements_in_fields fs) (base-alone b) ∙ ap (λ xs. flat_map (elements None) (sets_in_base b) ++ xs) (fields-alone fs) ∙ sym (flat-append (elements None) (sets_in_base b) (sets_in_fields fs))

-- without an owner they are those of `checks_model`
pub elements-alone : (m : written.ModeTree) → elements_of_owned None m ≡ elements_of None m
elements-alone (written.base_mode b) = base-alone b
elements-alone (written.read_mode at b) = base-alone b
elements-alone (written.event_mode at l) = refl
elements-alone (written.buffer_mode at l b) = base-alone b

base-owned : (o : Name × Bool) (b : written.BaseTree) → elements_in_base (Some o) b ≡ flat_map (elements (if is_set_base b then Some o else None)) (sets_in_base b)
base-owned o (written.discrete (written.named n)) = refl
base-owned o (written.discrete (written.bounded n l h)) = refl
base-owned o (written.discrete (written.set_of at ns)) = refl
base-owned o (written.powerset at d) = refl
base-owned o (written.chars at e) = refl
base-owned o (written.structure at fs p) = fields-alone fs
base-owned o (written.array at i b s) = base-alone b

mode-owned : (o : Name × Bool) (m : written.ModeTree) → elements_of_owned (Some o) m ≡ elements_of (if is_set m then Some o else None) m
mode-owned o (written.base_mode b) = base-owned o b
mode-owned o (written.read_mode at b) = base-owned o b
mode-owned o (written.event_mode at l) = refl
mode-owned o (written.buffer_mode at l b) = base-alone b

-- the name of a mode is an owner where a SET is the whole mode
pub elements-owned : (novel : Bool) (d : ModeDefinitionTree) → elements_of_owned (owner_by novel d) d.mode ≡ elements_of (owner_of novel d) d.mode
elements-owned novel d = mode-owned (d.name, novel) d.mode

-- a mode's origin, and the elements in the mode
pub mode_made : (novel : Bool) (d : ModeDefinitionTree) (os found new : List Pushed) (o : Pushed) (w : Option (Name × Bool)) → found ≡ os ++ o ∷ [] → origin_tree o ≡ a_mode novel d.mode → w ≡ owner_by novel d
    → origin_trees new ≡ origin_trees found ++ elements_of_owned w d.mode → origin_trees new ≡ origin_trees os ++ origins_of_mode novel d
mode_made novel d os found new o w pushed same owner made =
    made ∙ ap (λ os. origin_trees os ++ elements_of_owned w d.mode) pushed ∙ ap (λ ts. ts ++ elements_of_owned w d.mode) (map-append origin_tree os (o ∷ []))
    ∙ append_assoc (origin_trees os) (origin_tree o ∷ []) (elements_of_owned w d.mode)
    ∙ ap (λ t. origin_trees os ++ t ∷ elements_of_owned w d.mode) same
    ∙ ap (λ w. origin_trees os ++ a_mode novel d.mode ∷ elements_of_owned w d.mode) owner
    ∙ ap (λ es. origin_trees os ++ a_mode novel d.mode ∷ es) (elements-owned novel d)

pub same-origin : (o : Origin) (ns : List Name) → map (λ n. o) ns ≡ replicate (length ns) o
same-origin o [] = refl
same-origin o (n ∷ ns) = ap (λ os. o ∷ os) (same-origin o ns)

numbers_behind : (from n : ℕ) → numbers_on from (suc n) ≡ numbers_on from n ++ (from + n) ∷ []
numbers_behind from zero = let e : from ≡ from + 0 = omega arith in ap (λ k. k ∷ []) e
numbers_behind from (suc n) =
    let e : suc from + n ≡ from + suc n = omega arith in
    ap (λ ks. from ∷ ks) (numbers_behind (suc from) n ∙ ap (λ k. numbers_on (suc from) n ++ k ∷ []) e)

-- one number more from 0 on
pub numbers_more : (n : ℕ) → numbers_on 0 (n + 1) ≡ numbers_on 0 n ++ n ∷ []
numbers_more n =
    let e : n + 1 ≡ suc n = omega arith in
    let f : 0 + n ≡ n = omega arith in
    ap (numbers_on 0) e ∙ numbers_behind 0 n ∙ ap (λ k. numbers_on 0 n ++ k ∷ []) f

-- one origin more, of the next number
pub part_more : (os ps new : List Pushed) (o : Pushed) (f : ℕ → Origin) (n : ℕ) → new ≡ os ++ o ∷ [] → origin_tree o ≡ f n → origin_trees os ≡ origin_trees ps ++ map f (numbers_on 0 n) → origin_trees new ≡ origin_trees ps ++ map f (numbers_on 0 (n + 1))
part_more os ps new o f n pushed same before =
    ap origin_trees pushed ∙ map-append origin_tree os (o ∷ []) ∙ ap (λ ts. ts ++ origin_tree o ∷ []) before
    ∙ append_assoc (origin_trees ps) (map f (numbers_on 0 n)) (origin_tree o ∷ [])
    ∙ ap (λ t. origin_trees ps ++ (map f (numbers_on 0 n) ++ t ∷ [])) same
    ∙ ap (λ ts. origin_trees ps ++ ts) (sym (ap (map f) (numbers_more n) ∙ map-append f (numbers_on 0 n) (n ∷ [])))

pub ruleset owned_views = (elements-alone, elements-owned, same-origin, append-nil, append_assoc)

-- ---- actions

pub tree-branch_out : (b : ElsIf) → branch_tree b ≡ record { at = (out-ElsIf b).at; condition = boxed_expr (out-ElsIf b).condition; actions = statement_trees (out-ElsIf b).actions }
unfolding statement_tree bracketed_tree branch_tree case_tree named_tree receive_tree handler_tree body_tree
tree-branch_out b = fold_out-ElsIf BodyTree BracketedTree StatementTree CaseTree ElsIfTree HandlerTree NamedTree ReceiveTree body_layer bracketed_layer statement_layer case_layer branch_layer handler_layer named_layer receive_layer b

pub tree-case_out : (a : CaseAlternative) → case_tree a ≡ record { at = (out-CaseAlternative a).at; labels = range_trees (out-CaseAlternative a).labels; actions = statement_trees (out-CaseAlternative a).actions }
unfolding statement_tree bracketed_tree branch_tree case_tree named_tree receive_tree handler_tree body_tree
tree-case_out a = fold_out-CaseAlternative BodyTree BracketedTree StatementTree CaseTree ElsIfTree HandlerTree NamedTree ReceiveTree body_layer bracketed_layer statement_layer case_layer branch_layer handler_layer named_layer receive_layer a

pub tree-named_out : (a : NamedAlternative) → named_tree a ≡ record { at = (out-NamedAlternative a).at; names = (out-NamedAlternative a).names; actions = statement_trees (out-NamedAlternative a).actions }
unfolding statement_tree bracketed_tree branch_tree case_tree named_tree receive_tree handler_tree body_tree
tree-named_out a = fold_out-NamedAlternative BodyTree BracketedTree StatementTree CaseTree ElsIfTree HandlerTree NamedTree ReceiveTree body_layer bracketed_layer statement_layer case_layer branch_layer handler_layer named_layer receive_layer a

pub tree-receive_out : (a : ReceiveAlternative) → receive_tree a ≡ record { at = (out-ReceiveAlternative a).at; source = (out-ReceiveAlternative a).source; received = (out-ReceiveAlternative a).received; actions = statement_trees (out-ReceiveAlternative a).actions }
unfolding statement_tree bracketed_tree branch_tree case_tree named_tree receive_tree handler_tree body_tree
tree-receive_out a = fold_out-ReceiveAlternative BodyTree BracketedTree StatementTree CaseTree ElsIfTree HandlerTree NamedTree ReceiveTree body_layer bracketed_layer statement_layer case_layer branch_layer handler_layer named_layer receive_layer a

handler-fields : (at : Pos) (ns : List NamedAlternative) (o : Option (List Statement)) → handler_layer (map-Handler BodyPart Bracketed Statement CaseAlternative ElsIf Handler NamedAlternative ReceiveAlternative BodyTree BracketedTree StatementTree CaseTree ElsIfTree HandlerTree NamedTree ReceiveTree body_tree bracketed_tree statement_tree case_tree branch_tree handler_tree named_tree receive_tree (record { at = at; alternatives = ns; otherwise = o })) ≡ record { at = at; alternatives = map named_tree ns; otherwise_part = option_map statement_trees o }
handler-fields at ns None = refl
handler-fields at ns (Some ss) = refl

pub tree-handler_out : (h : Handler) → handler_tree h ≡ record { at = (out-Handler h).at; alternatives = map named_tree (out-Handler h).alternatives; otherwise_part = option_map statement_trees (out-Handler h).otherwise }
unfolding statement_tree bracketed_tree branch_tree case_tree named_tree receive_tree handler_tree body_tree
tree-handler_out h = fold_out-Handler BodyTree BracketedTree StatementTree CaseTree ElsIfTree HandlerTree NamedTree ReceiveTree body_layer bracketed_layer statement_layer case_layer branch_layer handler_layer named_layer receive_layer h ∙ handler-fields (out-Handler h).at (out-Handler h).alternatives (out-Handler h).otherwise

-- what an action has is what it holds and its ELSE
pub bracketed-made : (a : BracketedTree) → origins_in_bracketed a ≡ held_origins a ++ else_origins a
bracketed-made (if_then at c ss bs o) = refl
bracketed-made (case_of at e as' o) = refl
bracketed-made (do_loop at c ss) = sym (append-nil (counters_in c ++ origins_in_each ss))
bracketed-made (begin_end at ps) = sym (append-nil (origins_in_parts ps))
bracketed-made (delay_case at set p as') = sym (append-nil (origins_in_named as'))
bracketed-made (receive_case at set as' o) = refl

pub body-more : (b : BodyTree) (bs : List BodyTree) → origins_in_parts (body_nodes (b ∷ bs)) ≡ origins_in_parts (body_nodes (b ∷ [])) ++ origins_in_parts (body_nodes bs)
body-more (local_part l) bs = ap (λ ps. ps ++ origins_in_parts (body_nodes bs)) (sym (append-nil (origins_of_local l)))
body-more (action_part s) bs = ap (λ ps. ps ++ origins_in_parts (body_nodes bs)) (sym (append-nil (origins_in s)))

pub ruleset statement_views = (statement_built, tree-branch_out, tree-case_out, tree-named_out, tree-receive_out, tree-handler_out, append-nil, append_assoc)

pub ruleset bracketed_views = (bracketed-made, append-nil, append_assoc)

pub ruleset body_views = (body-more, append-nil, append_assoc)

-- ---- items

pub tree-modulion_out : (m : Modulion) → modulion_tree m ≡ record { name = (out-Modulion m).name; kind = (out-Modulion m).kind; items = item_trees (out-Modulion m).items; handler = option_map boxed_handler (out-Modulion m).handler; closing = (out-Modulion m).closing }
unfolding item_tree modulion_tree
tree-modulion_out m = fold_out-Modulion ItemTree ModulionTree item_layer modulion_layer m

pub ruleset item_views = (item_built, tree-modulion_out, append-nil, append_assoc)
