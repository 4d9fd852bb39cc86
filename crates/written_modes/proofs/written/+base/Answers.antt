use Rattle.std.proofs.Common.{◌≡◌, ◌++◌, [], ◌∙◌, map, drop, length, get_or, ◌<◌, ap, sym, rules, arith, append-nil, append_assoc, true, false, Some, None}
use Rattle.std.proofs.lemmas.List.{drop_all}
use Rattle.std.specs.Prelude.{option_map}
use Rattle.chill_tree.specs.ModeTree as written
use Rattle.modes.specs.ModeTree.{mode_tree, spread_tree, structure, field_nodes, field_trees}
use Rattle.checks_model.specs.Told.{is_none_told}
use Rattle.checks_model.specs.WrittenModes.{array_from, told_of_base, mode_of_base, told_in_spread, told_spread, told_in_fields, told_in_some_place, fields_there, is_packed}
use Rattle.constant_operators.specs.Grounds.{ground_of}
use Rattle.written_modes.specs.Wholes.{tree_there}
use Rattle.written_modes.specs.Parts.{has_few_parts}
use Rattle.written_modes.specs.Places.{placed_tree}
use Rattle.written_modes.specs.Fields.{field_view, field_seen, seen_as, all_placed, told_all, trees_of_fields}
use Rattle.written_modes.proofs.FewLemmas.{bases_few, element_few, fields_seen_few}
use Rattle.written_modes.proofs.BuiltLemmas.{HasParts, HasFields, array_none, array_some, structure_broken, structure_none, structure_some}
use Rattle.written_modes.proofs.FieldLemmas.{told_step_on, inside_step, placed_step, named-seen}
use Rattle.written_modes.proofs.written.+base.Goals as goal

-- ---- arrays

pub array_mode-returns-in_default-clause-told : goal.array_mode-returns-in_default-clause-told
array_mode-returns-in_default-clause-told t c = λ ground few.
    let g = ground_of c.args.ground.now in
    let i = written.index_tree c.args.index.now in
    let b = written.base_tree c.args.element.now in
    let s = option_map written.spread_tree c.args.spread.now in
    let x = tree_there c.in_ok-index.index in
    let e = tree_there c.in_ok-element.element in
    let h = option_map spread_tree c.in_ok-how.how in
    let old = c.args.told.now in
    let mid = c.spread_of.new.told in
    let element : e ≡ mode_of_base g false b = c.in_ok-element.ensures.mode ground few in
    let parts : HasParts g c.args.at i b s old mid x e h = record {
      index = c.in_ok-index.ensures.mode ground;
      element = element;
      spread = c.in_ok-how.ensures.spread ground;
      told = c.in_ok-how.ensures.told ground ∙ ap (λ t. t ++ (told_in_spread g s ++ told_spread g c.args.at x e s)) (c.in_ok-element.ensures.told ground few ∙ ap (λ t. t ++ told_of_base g false b) (c.in_ok-index.ensures.told ground));
    } in
    let none : array_from x e h ≡ None = search rules in
    (array_none g c.args.at i b s old mid x e h parts none).told

pub array_mode-returns-in_default-clause-mode : goal.array_mode-returns-in_default-clause-mode
array_mode-returns-in_default-clause-mode t c = λ ground few.
    let g = ground_of c.args.ground.now in
    let i = written.index_tree c.args.index.now in
    let b = written.base_tree c.args.element.now in
    let s = option_map written.spread_tree c.args.spread.now in
    let x = tree_there c.in_ok-index.index in
    let e = tree_there c.in_ok-element.element in
    let h = option_map spread_tree c.in_ok-how.how in
    let old = c.args.told.now in
    let mid = c.spread_of.new.told in
    let element : e ≡ mode_of_base g false b = c.in_ok-element.ensures.mode ground few in
    let parts : HasParts g c.args.at i b s old mid x e h = record {
      index = c.in_ok-index.ensures.mode ground;
      element = element;
      spread = c.in_ok-how.ensures.spread ground;
      told = c.in_ok-how.ensures.told ground ∙ ap (λ t. t ++ (told_in_spread g s ++ told_spread g c.args.at x e s)) (c.in_ok-element.ensures.told ground few ∙ ap (λ t. t ++ told_of_base g false b) (c.in_ok-index.ensures.told ground));
    } in
    let none : array_from x e h ≡ None = search rules in
    (array_none g c.args.at i b s old mid x e h parts none).mode

pub array_mode-returns-clause-told : goal.array_mode-returns-clause-told
array_mode-returns-clause-told t c = λ ground few.
    let g = ground_of c.args.ground.now in
    let i = written.index_tree c.args.index.now in
    let b = written.base_tree c.args.element.now in
    let s = option_map written.spread_tree c.args.spread.now in
    let x = tree_there c.in_ok-index.index in
    let e = tree_there c.in_ok-element.element in
    let h = option_map spread_tree c.in_ok-how.how in
    let old = c.args.told.now in
    let mid = c.spread_of.new.told in
    let element : e ≡ mode_of_base g false b = c.in_ok-element.ensures.mode ground few in
    let parts : HasParts g c.args.at i b s old mid x e h = record {
      index = c.in_ok-index.ensures.mode ground;
      element = element;
      spread = c.in_ok-how.ensures.spread ground;
      told = c.in_ok-how.ensures.told ground ∙ ap (λ t. t ++ (told_in_spread g s ++ told_spread g c.args.at x e s)) (c.in_ok-element.ensures.told ground few ∙ ap (λ t. t ++ told_of_base g false b) (c.in_ok-index.ensures.told ground));
    } in
    let m = mode_tree c.in-Some.mode in
    let made : array_from x e h ≡ Some m = sym c.array_from.ensures ∙ ap (option_map mode_tree) c.in-Some.is in
    let small = element_few x e h m (λ y is. bases_few c.found_modes_law.ensures.few c.args.ground.now few b y (sym element ∙ is)) made in
    (array_some g c.args.at i b s old mid c.of_few_scalars.new.told x e h m (tree_there c.in_ok-found.found) parts made (c.in_ok-found.ensures.told small) (c.in_ok-found.ensures.mode small)).told

pub array_mode-returns-clause-mode : goal.array_mode-returns-clause-mode
array_mode-returns-clause-mode t c = λ ground few.
    let g = ground_of c.args.ground.now in
    let i = written.index_tree c.args.index.now in
    let b = written.base_tree c.args.element.now in
    let s = option_map written.spread_tree c.args.spread.now in
    let x = tree_there c.in_ok-index.index in
    let e = tree_there c.in_ok-element.element in
    let h = option_map spread_tree c.in_ok-how.how in
    let old = c.args.told.now in
    let mid = c.spread_of.new.told in
    let element : e ≡ mode_of_base g false b = c.in_ok-element.ensures.mode ground few in
    let parts : HasParts g c.args.at i b s old mid x e h = record {
      index = c.in_ok-index.ensures.mode ground;
      element = element;
      spread = c.in_ok-how.ensures.spread ground;
      told = c.in_ok-how.ensures.told ground ∙ ap (λ t. t ++ (told_in_spread g s ++ told_spread g c.args.at x e s)) (c.in_ok-element.ensures.told ground few ∙ ap (λ t. t ++ told_of_base g false b) (c.in_ok-index.ensures.told ground));
    } in
    let m = mode_tree c.in-Some.mode in
    let made : array_from x e h ≡ Some m = sym c.array_from.ensures ∙ ap (option_map mode_tree) c.in-Some.is in
    let small = element_few x e h m (λ y is. bases_few c.found_modes_law.ensures.few c.args.ground.now few b y (sym element ∙ is)) made in
    (array_some g c.args.at i b s old mid c.of_few_scalars.new.told x e h m (tree_there c.in_ok-found.found) parts made (c.in_ok-found.ensures.told small) (c.in_ok-found.ensures.mode small)).mode

-- ---- structures

pub structure_mode-returns-then-not-is_clean-clause-told : goal.structure_mode-returns-then-not-is_clean-clause-told
structure_mode-returns-then-not-is_clean-clause-told t c = λ ground few.
    let g = ground_of c.args.ground.now in
    let ws = written.field_nodes (written.field_trees c.args.fields.now) in
    let seen = map field_view c.loop-field.placed.items in
    let old = c.args.told.now in
    let mid = c.tell_fields.new.told in
    let so-far = c.loop-field.invariant ground few in
    let done : drop c.loop-field.field-index c.args.fields.now ≡ [] = drop_all c.loop-field.field-index c.args.fields.now (omega arith) in
    let are : seen ≡ map (field_seen g) (fields_there g ws) =
    sym (append-nil seen) ∙ ap (λ r. seen ++ map (field_seen g) (fields_there g (written.field_nodes (written.field_trees r)))) (sym done) ∙ so-far.placed in
    let inside : c.loop-field.told ≡ old ++ told_in_fields g ws =
    sym (append-nil c.loop-field.told) ∙ ap (λ r. c.loop-field.told ++ told_in_fields g (written.field_nodes (written.field_trees r))) (sym done) ∙ so-far.told in
    let slice : c.deref.result.now ≡ c.loop-field.placed.items = search rules in
    let has : HasFields g ws old mid seen = record {
      seen_are = are;
      told = c.in_ok-is_clean.ensures.told
          ∙ ap (λ fs. c.loop-field.told ++ told_all (all_placed (map field_view fs)) [] (map field_view fs)) slice
          ∙ ap (λ t. t ++ told_all (all_placed seen) [] seen) inside;
    } in
    let broken : is_none_told (told_all (all_placed seen) [] seen) ≡ false = search rules in
    (structure_broken g c.args.at ws c.args.packing.now old mid seen has broken).told

pub structure_mode-returns-then-not-is_clean-clause-mode : goal.structure_mode-returns-then-not-is_clean-clause-mode
structure_mode-returns-then-not-is_clean-clause-mode t c = λ ground few.
    let g = ground_of c.args.ground.now in
    let ws = written.field_nodes (written.field_trees c.args.fields.now) in
    let seen = map field_view c.loop-field.placed.items in
    let old = c.args.told.now in
    let mid = c.tell_fields.new.told in
    let so-far = c.loop-field.invariant ground few in
    let done : drop c.loop-field.field-index c.args.fields.now ≡ [] = drop_all c.loop-field.field-index c.args.fields.now (omega arith) in
    let are : seen ≡ map (field_seen g) (fields_there g ws) =
    sym (append-nil seen) ∙ ap (λ r. seen ++ map (field_seen g) (fields_there g (written.field_nodes (written.field_trees r)))) (sym done) ∙ so-far.placed in
    let inside : c.loop-field.told ≡ old ++ told_in_fields g ws =
    sym (append-nil c.loop-field.told) ∙ ap (λ r. c.loop-field.told ++ told_in_fields g (written.field_nodes (written.field_trees r))) (sym done) ∙ so-far.told in
    let slice : c.deref.result.now ≡ c.loop-field.placed.items = search rules in
    let has : HasFields g ws old mid seen = record {
      seen_are = are;
      told = c.in_ok-is_clean.ensures.told
          ∙ ap (λ fs. c.loop-field.told ++ told_all (all_placed (map field_view fs)) [] (map field_view fs)) slice
          ∙ ap (λ t. t ++ told_all (all_placed seen) [] seen) inside;
    } in
    let broken : is_none_told (told_all (all_placed seen) [] seen) ≡ false = search rules in
    (structure_broken g c.args.at ws c.args.packing.now old mid seen has broken).mode

pub structure_mode-returns-in-None-clause-told : goal.structure_mode-returns-in-None-clause-told
structure_mode-returns-in-None-clause-told t c = λ ground few.
    let g = ground_of c.args.ground.now in
    let ws = written.field_nodes (written.field_trees c.args.fields.now) in
    let seen = map field_view c.loop-field.placed.items in
    let old = c.args.told.now in
    let mid = c.tell_fields.new.told in
    let so-far = c.loop-field.invariant ground few in
    let done : drop c.loop-field.field-index c.args.fields.now ≡ [] = drop_all c.loop-field.field-index c.args.fields.now (omega arith) in
    let are : seen ≡ map (field_seen g) (fields_there g ws) =
    sym (append-nil seen) ∙ ap (λ r. seen ++ map (field_seen g) (fields_there g (written.field_nodes (written.field_trees r)))) (sym done) ∙ so-far.placed in
    let inside : c.loop-field.told ≡ old ++ told_in_fields g ws =
    sym (append-nil c.loop-field.told) ∙ ap (λ r. c.loop-field.told ++ told_in_fields g (written.field_nodes (written.field_trees r))) (sym done) ∙ so-far.told in
    let slice : c.deref.result.now ≡ c.loop-field.placed.items = search rules in
    let has : HasFields g ws old mid seen = record {
      seen_are = are;
      told = c.in_ok-is_clean.ensures.told
          ∙ ap (λ fs. c.loop-field.told ++ told_all (all_placed (map field_view fs)) [] (map field_view fs)) slice
          ∙ ap (λ t. t ++ told_all (all_placed seen) [] seen) inside;
    } in
    let clean : is_none_told (told_all (all_placed seen) [] seen) ≡ true = search rules in
    let none : None ≡ trees_of_fields seen = search rules in
    (structure_none g c.args.at ws c.args.packing.now old mid seen has clean none).told

pub structure_mode-returns-in-None-clause-mode : goal.structure_mode-returns-in-None-clause-mode
structure_mode-returns-in-None-clause-mode t c = λ ground few.
    let g = ground_of c.args.ground.now in
    let ws = written.field_nodes (written.field_trees c.args.fields.now) in
    let seen = map field_view c.loop-field.placed.items in
    let old = c.args.told.now in
    let mid = c.tell_fields.new.told in
    let so-far = c.loop-field.invariant ground few in
    let done : drop c.loop-field.field-index c.args.fields.now ≡ [] = drop_all c.loop-field.field-index c.args.fields.now (omega arith) in
    let are : seen ≡ map (field_seen g) (fields_there g ws) =
    sym (append-nil seen) ∙ ap (λ r. seen ++ map (field_seen g) (fields_there g (written.field_nodes (written.field_trees r)))) (sym done) ∙ so-far.placed in
    let inside : c.loop-field.told ≡ old ++ told_in_fields g ws =
    sym (append-nil c.loop-field.told) ∙ ap (λ r. c.loop-field.told ++ told_in_fields g (written.field_nodes (written.field_trees r))) (sym done) ∙ so-far.told in
    let slice : c.deref.result.now ≡ c.loop-field.placed.items = search rules in
    let has : HasFields g ws old mid seen = record {
      seen_are = are;
      told = c.in_ok-is_clean.ensures.told
          ∙ ap (λ fs. c.loop-field.told ++ told_all (all_placed (map field_view fs)) [] (map field_view fs)) slice
          ∙ ap (λ t. t ++ told_all (all_placed seen) [] seen) inside;
    } in
    let clean : is_none_told (told_all (all_placed seen) [] seen) ≡ true = search rules in
    let none : None ≡ trees_of_fields seen = search rules in
    (structure_none g c.args.at ws c.args.packing.now old mid seen has clean none).mode

pub structure_mode-returns-clause-told : goal.structure_mode-returns-clause-told
structure_mode-returns-clause-told t c = λ ground few.
    let g = ground_of c.args.ground.now in
    let ws = written.field_nodes (written.field_trees c.args.fields.now) in
    let seen = map field_view c.loop-field.placed.items in
    let old = c.args.told.now in
    let mid = c.tell_fields.new.told in
    let so-far = c.loop-field.invariant ground few in
    let done : drop c.loop-field.field-index c.args.fields.now ≡ [] = drop_all c.loop-field.field-index c.args.fields.now (omega arith) in
    let are : seen ≡ map (field_seen g) (fields_there g ws) =
    sym (append-nil seen) ∙ ap (λ r. seen ++ map (field_seen g) (fields_there g (written.field_nodes (written.field_trees r)))) (sym done) ∙ so-far.placed in
    let inside : c.loop-field.told ≡ old ++ told_in_fields g ws =
    sym (append-nil c.loop-field.told) ∙ ap (λ r. c.loop-field.told ++ told_in_fields g (written.field_nodes (written.field_trees r))) (sym done) ∙ so-far.told in
    let slice : c.deref.result.now ≡ c.loop-field.placed.items = search rules in
    let has : HasFields g ws old mid seen = record {
      seen_are = are;
      told = c.in_ok-is_clean.ensures.told
          ∙ ap (λ fs. c.loop-field.told ++ told_all (all_placed (map field_view fs)) [] (map field_view fs)) slice
          ∙ ap (λ t. t ++ told_all (all_placed seen) [] seen) inside;
    } in
    let clean : is_none_told (told_all (all_placed seen) [] seen) ≡ true = search rules in
    let trees = field_trees c.in-Some.own in
    let some : Some trees ≡ trees_of_fields seen = search rules in
    let m = structure (field_nodes trees) (is_packed c.args.packing.now) in
    let few-parts : has_few_parts m ≡ true = fields_seen_few g (bases_few c.found_modes_law.ensures.few c.args.ground.now few) ws seen trees are (sym some) in
    let made : mode_tree c.structure_from-mode.result ≡ m = c.structure_from-mode.ensures in
    let small : has_few_parts (mode_tree c.structure_from-mode.result) ≡ true = ap has_few_parts made ∙ few-parts in
    (structure_some g c.args.at ws c.args.packing.now old mid c.of_few_scalars.new.told seen trees (mode_tree c.structure_from-mode.result) (tree_there c.in_ok-found-in-Some.found) has clean some made (c.in_ok-found-in-Some.ensures.told small) (c.in_ok-found-in-Some.ensures.mode small)).told

pub structure_mode-returns-clause-mode : goal.structure_mode-returns-clause-mode
structure_mode-returns-clause-mode t c = λ ground few.
    let g = ground_of c.args.ground.now in
    let ws = written.field_nodes (written.field_trees c.args.fields.now) in
    let seen = map field_view c.loop-field.placed.items in
    let old = c.args.told.now in
    let mid = c.tell_fields.new.told in
    let so-far = c.loop-field.invariant ground few in
    let done : drop c.loop-field.field-index c.args.fields.now ≡ [] = drop_all c.loop-field.field-index c.args.fields.now (omega arith) in
    let are : seen ≡ map (field_seen g) (fields_there g ws) =
    sym (append-nil seen) ∙ ap (λ r. seen ++ map (field_seen g) (fields_there g (written.field_nodes (written.field_trees r)))) (sym done) ∙ so-far.placed in
    let inside : c.loop-field.told ≡ old ++ told_in_fields g ws =
    sym (append-nil c.loop-field.told) ∙ ap (λ r. c.loop-field.told ++ told_in_fields g (written.field_nodes (written.field_trees r))) (sym done) ∙ so-far.told in
    let slice : c.deref.result.now ≡ c.loop-field.placed.items = search rules in
    let has : HasFields g ws old mid seen = record {
      seen_are = are;
      told = c.in_ok-is_clean.ensures.told
          ∙ ap (λ fs. c.loop-field.told ++ told_all (all_placed (map field_view fs)) [] (map field_view fs)) slice
          ∙ ap (λ t. t ++ told_all (all_placed seen) [] seen) inside;
    } in
    let clean : is_none_told (told_all (all_placed seen) [] seen) ≡ true = search rules in
    let trees = field_trees c.in-Some.own in
    let some : Some trees ≡ trees_of_fields seen = search rules in
    let m = structure (field_nodes trees) (is_packed c.args.packing.now) in
    let few-parts : has_few_parts m ≡ true = fields_seen_few g (bases_few c.found_modes_law.ensures.few c.args.ground.now few) ws seen trees are (sym some) in
    let made : mode_tree c.structure_from-mode.result ≡ m = c.structure_from-mode.ensures in
    let small : has_few_parts (mode_tree c.structure_from-mode.result) ≡ true = ap has_few_parts made ∙ few-parts in
    (structure_some g c.args.at ws c.args.packing.now old mid c.of_few_scalars.new.told seen trees (mode_tree c.structure_from-mode.result) (tree_there c.in_ok-found-in-Some.found) has clean some made (c.in_ok-found-in-Some.ensures.told small) (c.in_ok-found-in-Some.ensures.mode small)).mode

pub structure_mode-loop-field-preserved : goal.structure_mode-loop-field-preserved
structure_mode-loop-field-preserved t c = λ ground few.
    let g = ground_of c.args.ground.now in
    let fs = c.args.fields.now in
    let n = c.loop-field.field-index in
    let f = c.field-item.result in
    let less : n < length fs = omega arith in
    let is : f ≡ get_or fs n f = c.field-item.is in
    let so-far = c.loop-field.invariant ground few in
    record {
      told = told_step_on c.loop-field.told c.add_field.new.told _ _ _ _ so-far.told (inside_step g fs n f less is) (c.in_ok-add_field.ensures.told ground few);
      placed = told_step_on (map field_view c.loop-field.placed.items) (map field_view c.add_field.new.placed.items) _ _ _ _ so-far.placed (placed_step g fs n f less is) (c.in_ok-add_field.ensures.placed ground few);
    }

-- ---- clauses

pub add_clause-returns-clause-told : goal.add_clause-returns-clause-told
add_clause-returns-clause-told t c = λ ground few.
    let g = ground_of c.args.ground.now in
    let tb = told_of_base g false (written.base_tree c.args.base.now) in
    let tp = told_in_some_place g (option_map written.place_tree c.args.place.now) in
    c.in_ok-at.ensures.told ground ∙ ap (λ t. t ++ tp) (c.in_ok-mode.ensures.told ground few) ∙ append_assoc c.args.told.now tb tp

pub add_clause-returns-clause-placed : goal.add_clause-returns-clause-placed
add_clause-returns-clause-placed t c = λ ground few.
    let g = ground_of c.args.ground.now in
    let m = mode_of_base g false (written.base_tree c.args.base.now) in
    let p = option_map written.place_tree c.args.place.now in
    let old = map field_view c.args.placed.now.items in
    c.in_ok-add_names.ensures
    ∙ ap (λ m. old ++ map (seen_as m (placed_tree c.in_ok-at.at)) c.args.names.now) (c.in_ok-mode.ensures.mode ground few)
    ∙ ap (λ p. old ++ map (seen_as m p) c.args.names.now) (c.in_ok-at.ensures.place ground)
    ∙ ap (λ fs. old ++ fs) (sym (named-seen g m p c.args.names.now))
