use Rattle.std.proofs.Common.{◌≡◌, ◌++◌, ◌∷◌, [], ◌+◌, ◌∙◌, suc, min, ap, sym, subst, append_assoc, arith}
use Rattle.names_model.specs.declared.definition.Inside.TheVariants as places
use Rattle.names_model.specs.Parts.{part_tree, modulion, routine}
use Rattle.names_model.specs.Sizes.{head_size, elements_in}
use Rattle.names_model.specs.Definitions.{definitions_in, elements_defined, params_defined}
use Rattle.names_model.proofs.PartViews.{tree-modulion, tree-routine}
use Rattle.reach_tables.specs.Offsets.{Fits}
use Rattle.names_model.specs.Parts.{nodes_of}
use Rattle.reach_tables.proofs.Defining.{InsideDefined}
use Rattle.reach_tables.proofs.definitions.+definitions.Goals as goal

pub definitions_of-returns-in_ok-definitions_in-in-Modulion : goal.definitions_of-returns-in_ok-definitions_in-in-Modulion
definitions_of-returns-in_ok-definitions_in-in-Modulion t c =
    let m = c.in-Modulion in
    let ps = nodes_of m.parts in
    let is : part_tree c.args.part.now ≡ modulion m.name m.region m.size ps = ap part_tree m.is ∙ tree-modulion m.name m.region m.size m.parts in
    subst (InsideDefined c.args.inside c.args.from c.definitions_in.new.out.items c.args.out.now.items) (sym is) (λ b f.
    let first : c.saturating_add-first.result ≡ suc c.args.from = omega arith in
    let rest : Fits (suc c.args.from) ps → c.definitions_in.new.out.items ≡ c.push.new.self.items ++ definitions_in (places.Modulion c.args.from) (suc c.args.from) ps = rw (first, c.as_slice.ensures) at c.in_ok-definitions_in-in-Modulion.ensures in
    rest f ∙ ap (λ z. z ++ definitions_in (places.Modulion c.args.from) (suc c.args.from) ps) (c.in_ok-push-in-Modulion.ensures.items ∙ ap (λ d. c.args.out.now.items ++ d ∷ []) c.in_ok-defined-in-Modulion.ensures)
    ∙ append_assoc c.args.out.now.items _ (definitions_in (places.Modulion c.args.from) (suc c.args.from) ps))

pub definitions_of-returns-in_ok-definitions_in-in-Routine : goal.definitions_of-returns-in_ok-definitions_in-in-Routine
definitions_of-returns-in_ok-definitions_in-in-Routine t c =
    let m = c.in-Routine in
    let ps = nodes_of m.parts in
    let is : part_tree c.args.part.now ≡ routine m.name m.kind m.params m.returned m.size ps = ap part_tree m.is ∙ tree-routine m.name m.kind m.params m.returned m.size m.parts in
    let size : c.head_size.result ≡ min (head_size m.params m.returned) 4294967295 = rw (c.as_slice-in-Routine.ensures, c.as_slice-in-Routine-2.ensures) at c.head_size.ensures in
    subst (InsideDefined c.args.inside c.args.from c.definitions_in-in-Routine.new.out.items c.args.out.now.items) (sym is) (λ b f.
    let from = c.args.from + head_size m.params m.returned in
    let first : c.saturating_add-first-in-Routine.result ≡ from = omega arith in
    let rest : Fits from ps → c.definitions_in-in-Routine.new.out.items ≡ c.push_head.new.out.items ++ definitions_in (places.Body c.args.from) from ps = rw (first, c.as_slice-in-Routine-3.ensures) at c.in_ok-definitions_in-in-Routine.ensures in
    let own = c.in_ok-own-in-Routine in
    rest f ∙ ap (λ z. z ++ definitions_in (places.Body c.args.from) from ps) (c.in_ok-push_head-in-Routine.ensures (omega arith)
    ∙ ap (λ d. c.args.out.now.items ++ (d ∷ params_defined d.inside (places.Body c.args.from) m.params ++ elements_defined d.inside (elements_in m.returned))) own.ensures)
    ∙ append_assoc c.args.out.now.items _ (definitions_in (places.Body c.args.from) from ps))
