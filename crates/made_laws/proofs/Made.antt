-- An elaborated program has few things, and its statements stand as those of a text.
use Rattle.std.proofs.Common.{◌≡◌, ◌≤◌, ℕ, List, Option, Some, None, refl, subst, arith}
use Rattle.chill_tree.specs.ItemTree.{ProgramTree}
use Rattle.text_size.specs.Sizes.{program_size}
use Rattle.program_trees.specs.ProgramTree.{CheckedTree}
use Rattle.checks_model.specs.Ground.{Ground}
use Rattle.elaborated_laws.proofs.Told.{no_some, same_some}
use Rattle.elaborated_laws.proofs.Rows.{text_size_is}
use Rattle.elaboration_model.specs.Numbering.{is_shared, is_signal}
use Rattle.checks_model.specs.ProcessRules.{meets_event, meets_buffer, meets_nothing}
use Rattle.elaboration_model.specs.Elaborated.{rows_made, location_row, event_row, buffer_row, signal_row, bodies_of, program_of, made_of_five, source_of, elaborated}
use Rattle.head_laws.proofs.Few.{few_things}
use Rattle.made_laws.specs.Made.{IsOfText, FewInTextLaw, PlacedInTextLaw}
use Rattle.made_laws.proofs.Bodies.{bodies_ok}

-- what is so of all that is made of five parts is so of this
of_five : {A B C D E F : Type 0} (P : F → Type 0) (f : A → B → C → D → E → F) (a : Option A) (b : Option B) (c : Option C) (d : Option D) (e : Option E) (y : F) → ((v : A) (w : B) (x : C) (u : D) (z : E) → P (f v w x u z)) → made_of_five f a b c d e ≡ Some y → P y
of_five P f (Some a) (Some b) (Some c) (Some d) (Some e) y each is = subst P (same_some (f a b c d e) y is) (each a b c d e)
of_five P f None b c d e y each is = no_some y is
of_five P f (Some a) None c d e y each is = no_some y is
of_five P f (Some a) (Some b) None d e y each is = no_some y is
of_five P f (Some a) (Some b) (Some c) None e y each is = no_some y is
of_five P f (Some a) (Some b) (Some c) (Some d) None y each is = no_some y is

-- its exceptions are those of the text
own_exceptions_are : (g : Ground) (t : ProgramTree) (p : CheckedTree) → elaborated g t ≡ Some p → p.exceptions ≡ (source_of g t).own_exceptions
own_exceptions_are g t p is =
    let s = source_of g t in
    of_five (λ (q : CheckedTree). q.exceptions ≡ s.own_exceptions) (program_of s t) (rows_made (location_row s.rows) (is_shared meets_nothing) 0 s.rows) (rows_made event_row (is_shared meets_event) 0 s.rows)
    (rows_made buffer_row (is_shared meets_buffer) 0 s.rows) (rows_made (signal_row s) (λ r. is_signal r.origin) 0 s.rows) (bodies_of s t) p (λ v w x u z. refl) is

small_text : (text : List ℕ) (t : ProgramTree) (g : Ground) (p : CheckedTree) → IsOfText text t g p → program_size t ≤ 4294967295
small_text text t g p of_text =
    let same = text_size_is g t p of_text.made in
    let few = of_text.small in
    omega (arith, same, few)

pub few_made : FewInTextLaw
few_made text t g p of_text =
    let few = few_things text t g p of_text.clean of_text.made in
    let events = few.events in
    let buffers = few.buffers in
    let signals = few.signals in
    record {
      things = record { events = omega (arith, events); buffers = omega (arith, buffers); signals = omega (arith, signals) };
      bodies = λ k b at. (bodies_ok text t g of_text.clean p of_text.made (own_exceptions_are g t p of_text.made) (small_text text t g p of_text) k b at).few;
    }

pub placed_made : PlacedInTextLaw
placed_made text t g p of_text k b at = (bodies_ok text t g of_text.clean p of_text.made (own_exceptions_are g t p of_text.made) (small_text text t g p of_text) k b at).placed
