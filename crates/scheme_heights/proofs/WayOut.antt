-- The way out of a body is a block behind which control doesn't come.
use Rattle.std.proofs.Common.{◌≡◌, ◌+◌, ℕ, zero, suc, Bool, true, false, List, [], ◌∷◌, ◌++◌, ◌-◌, length, take, refl, sym, ap, ◌∙◌, subst, inl, inr, arith, rules, Option, Some, None, slice_get}
use Rattle.std.specs.Prelude.{if◌then◌else◌, nat_lt}
use Rattle.checked_program.specs.declared.program.Parameter.{Parameter}
use Rattle.checked_program.specs.declared.program.Sort.{Sort}
use Rattle.checked_program.specs.declared.program.Sort.TheVariants.{Outermost, Process, Procedure}
use Rattle.code_types.specs.declared.instr.Instr.{Instr}
use Rattle.code_types.specs.declared.instr.Instr.TheVariants as i
use Rattle.code_types.specs.declared.code.Code.{Code}
use Rattle.code_types.specs.Places.{results_of}
use Rattle.program_trees.specs.ExprTree.{ReceivedTree}
use Rattle.program_trees.specs.ProgramTree.{LocalRowTree, BodyRowTree, CheckedTree}
use Rattle.code_scheme.specs.StatementSite.{Standing, declared_scalars, result_scalars, is_given_back, back_scalars}
use Rattle.code_scheme.specs.StatementPlain.{entered_by, leave_region, result_code, parameters_code, end_of_call, way_out_of, way_out_code, set_result_size, return_code, return_size}
use Rattle.code_scheme.specs.BodyCode.{heads_of}
use Rattle.scheme_heights.specs.Stretches.{behind, Outlets, no_outlets, IsStretch}
use Rattle.scheme_heights.specs.Closed.{inside_or, IsClosed, IsBlock, leads_out}
use Rattle.scheme_heights.specs.StatementCounts.{ReturnFits}
use Rattle.scheme_heights.proofs.Parts.{sized, end, cons}
use Rattle.scheme_heights.proofs.Joining.{join}
use Rattle.scheme_heights.proofs.Operators.{ends}
use Rattle.scheme_heights.proofs.Expressions.{head_at}
use Rattle.scheme_heights.proofs.Closing.{LeadInto, join_closed, or_behind, stretch_closed}
use Rattle.scheme_heights.proofs.Blocks.{plain_block, lead_block, last_block}
use Rattle.scheme_heights.proofs.PlainActions.{result_stretch}

leave_stretch : (heads : Code) (body at height : ℕ) (region : Option ℕ) → IsStretch heads body no_outlets at height (leave_region region) (length (leave_region region)) height
leave_stretch heads body at height None = sized 0 refl (end refl)
leave_stretch heads body at height (Some r) = sized 1 refl (cons (omega arith) tt tt refl refl (end (omega arith)))

-- so many scalars from a local on, where there are some
found_if : (heads : Code) (body at height first n : ℕ) (some : Bool) → nat_lt 0 n ≡ some → IsStretch heads body no_outlets at height (if some then i.Local first n ∷ [] else []) (length (if some then i.Local first n ∷ [] else [])) (height + n)
found_if heads body at height first n true some = sized 1 refl (cons (omega arith) tt tt refl refl (end (omega arith)))
found_if heads body at height first zero false none = sized 0 refl (end (omega arith))
found_if heads body at height first (suc n) false none =
    let h : nat_lt 0 (suc n) ≡ true = search rules in
    let e : true ≡ false = sym h ∙ none in
    absurd (let f : ⊥ = cc in f)

given_if : (heads : Code) (body at height first n : ℕ) (back : Bool) → IsStretch heads body no_outlets at height (if back then i.Local first n ∷ [] else []) (length (if back then i.Local first n ∷ [] else [])) (height + (if back then n else 0))
given_if heads body at height first n true = sized 1 refl (cons (omega arith) tt tt refl refl (end (omega arith)))
given_if heads body at height first n false = sized 0 refl (end (omega arith))

parameters_stretch : (heads : Code) (body at height : ℕ) (ps : List Parameter) (rows : List LocalRowTree) → IsStretch heads body no_outlets at height (parameters_code ps rows) (length (parameters_code ps rows)) (height + back_scalars ps rows)
parameters_stretch heads body at height [] rows = sized 0 refl (end (omega arith))
parameters_stretch heads body at height (q ∷ ps) [] = sized 0 refl (end (omega arith))
parameters_stretch heads body at height (q ∷ ps) (row ∷ rows) =
    let rest = parameters_stretch heads body at height ps rows in
    let n = length (parameters_code ps rows) in
    let given = is_given_back q.passing in
    let last = given_if heads body (at + n) (height + back_scalars ps rows) row.first row.count given in
    let both = join heads body at height (parameters_code ps rows) _ n (length (if given then i.Local row.first row.count ∷ [] else [])) (height + back_scalars ps rows) (height + ((if given then row.count else 0) + back_scalars ps rows)) (at + n) _ refl refl rest (ends (omega arith) last) in
    record { steps = both.steps; count = refl; leaves = both.leaves }

-- a stretch before closed code
before_closed : {heads : Code} {body : ℕ} (outlets : Outlets) {at height p h n m next : ℕ} {a b : List Instr} → p ≡ at + n → IsStretch heads body no_outlets at height a n h → IsClosed heads body outlets p h b m next → IsClosed heads body outlets at height (a ++ b) (n + m) next
before_closed {heads = heads} outlets {at = at} {p = p} {h = h} {n = n} {b = b} place first second = join_closed outlets place refl into (λ to k out. inr out) (stretch_closed first) second
  where
    into : LeadInto (or_behind no_outlets (at + n) h) (inside_or heads p h b outlets)
    into to k (inl none) = absurd none
    into to k (inr here) = subst (λ (x : ℕ). inside_or heads p h b outlets x k) (place ∙ sym here.0) (subst (λ (x : ℕ). inside_or heads p h b outlets p x) (sym here.1) second.entry)

return_closed : (heads : Code) (body : ℕ) (outlets : Outlets) (at height : ℕ) → results_of (slice_get heads.bodies body) ≡ height → IsClosed heads body outlets at height (i.Return ∷ []) 1 0
return_closed heads body outlets at height same = record {
  moves = (
    record {
      operands = omega (arith, same);
      named = tt;
      forward = tt;
      goes = λ on. absurd (let f : ⊥ = cc in f);
      jumps = λ to jump. absurd (let f : ⊥ = cc in f);
      ended = λ last. inr refl;
    },
    tt,
  );
  entry = inl (record { from = omega arith; until = omega arith; same = first (at - at) (omega arith) });
  count = refl;
  leaves = refl;
}
  where
    first : (n : ℕ) → n ≡ 0 → behind heads height (take n (i.Return ∷ [])) ≡ height
    first zero none = refl
    first (suc n) none = absurd (let f : ⊥ = omega (arith, none) in f)

end_block : (p : CheckedTree) (body : ℕ) (b : BodyRowTree) (exits : List ℕ) (at place : ℕ) → slice_get p.bodies body ≡ Some b → IsBlock (heads_of p) body (leads_out false place exits) at (end_of_call b) [] (length (end_of_call b))
end_block p body b exits at place is =
    let heads = heads_of p in
    let out = leads_out false place exits in
    let n = length (leave_region (entered_by b)) in
    let m = length (result_code b) in
    let k = length (parameters_code b.parameters b.locals) in
    let h = 0 + result_scalars b in
    let back = h + back_scalars b.parameters b.locals in
    let results : results_of (slice_get heads.bodies body) ≡ back = ap results_of (head_at p body b is) ∙ (omega arith) in
    let returns = return_closed heads body out (at + n + m + k) back results in
    let given = before_closed out {at = at + n + m} {height = h} refl (parameters_stretch heads body (at + n + m) h b.parameters b.locals) returns in
    let result = before_closed out {at = at + n} {height = 0} refl (found_if heads body (at + n) 0 (declared_scalars b) (result_scalars b) (nat_lt 0 (result_scalars b)) refl) given in
    let all = before_closed out {at = at} {height = 0} refl (leave_stretch heads body at 0 (entered_by b)) result in
    record { closed = record { moves = all.moves; entry = all.entry; count = refl; leaves = all.leaves }; handled = tt }

pub way_out_block : (p : CheckedTree) (body : ℕ) (b : BodyRowTree) (exits : List ℕ) (at place : ℕ) (sort : Sort) → slice_get p.bodies body ≡ Some b → IsBlock (heads_of p) body (leads_out false place exits) at (way_out_of sort b) [] (length (way_out_of sort b))
way_out_block p body b exits at place Outermost is = last_block (heads_of p) body exits at place i.Finish refl tt tt refl refl (omega arith)
way_out_block p body b exits at place Process is = last_block (heads_of p) body exits at place i.Finish refl tt tt refl refl (omega arith)
way_out_block p body b exits at place Procedure is = end_block p body b exits at place is

pub return_block : (w : Standing) (body at place : ℕ) (r : Option ReceivedTree) → slice_get w.site.program.bodies body ≡ Some w.site.body → ReturnFits w.site r → IsBlock (heads_of w.site.program) body (leads_out false place w.exits) at (return_code w r at) [] (return_size w.site r)
return_block w body at place None is fits = way_out_block w.site.program body w.site.body w.exits at place w.site.body.sort is
return_block w body at place (Some r) is fits =
    let n = set_result_size r in
    lead_block (heads_of w.site.program) body w.exits false at (at + n) n (length (way_out_code w.site.body)) place _ _ [] [] refl (plain_block w.exits (result_stretch w body at 0 r fits))
    (way_out_block w.site.program body w.site.body w.exits (at + n) place w.site.body.sort is)
