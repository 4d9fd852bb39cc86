-- What constants and modes need of names is there too in the table that knows counters.
use Rattle.std.proofs.Common.{◌≡◌, ℕ, Bool, true, false, Option, Some, None, true≢false, refl, sym, ap, ◌∙◌, subst}
use Rattle.std.specs.Prelude.{slice_get, option_and_then}
use Rattle.chill_tree.specs.declared.tree.name.Name.{Name}
use Rattle.checks_model.specs.Ground.{Ground, Origin, Entry, a_synonym, a_mode, an_element, a_location, a_parameter, a_counter, a_received, a_procedure, a_process, a_signal, a_modulion, a_predefined, origin_of, entry_of, number_at}
use Rattle.table_laws.specs.OneTable.{SameText}
use Rattle.order_laws.specs.Counters.{is_looked_up}
use Rattle.order_laws.proofs.Counters.{counters_apart, origin_same}
use Rattle.order_laws.proofs.Selves.{text_order}
use Rattle.elaborated_laws.proofs.Told.{no_some}
use Rattle.there_laws.specs.Table.{IsThereBy, IsNameThere}
use Rattle.there_laws.specs.Plain.{CountersThereLaw}
use Rattle.there_laws.proofs.Plain.{text_there}

-- nothing is needed of what constants and modes don't look up
pub unneeded : (e : Option Entry) (k : Option ℕ) (o : Option Origin) → is_looked_up o ≡ false → IsThereBy e k o
unneeded e k None up = record { value = λ is. absurd (true≢false (sym is)); shape = λ c v class value. no_some v value; mode = λ is. absurd (true≢false (sym is)); located = tt }
unneeded e k (Some (a_counter l)) up = record { value = λ is. absurd (true≢false (sym is)); shape = λ c v class value. no_some v value; mode = λ is. absurd (true≢false (sym is)); located = tt }
unneeded e k (Some (a_received n count part)) up = record { value = λ is. absurd (true≢false (sym is)); shape = λ c v class value. no_some v value; mode = λ is. absurd (true≢false (sym is)); located = tt }
unneeded e k (Some (a_procedure p)) up = record { value = λ is. absurd (true≢false (sym is)); shape = λ c v class value. no_some v value; mode = λ is. absurd (true≢false (sym is)); located = tt }
unneeded e k (Some (a_process p)) up = record { value = λ is. absurd (true≢false (sym is)); shape = λ c v class value. no_some v value; mode = λ is. absurd (true≢false (sym is)); located = tt }
unneeded e k (Some (a_signal s)) up = record { value = λ is. absurd (true≢false (sym is)); shape = λ c v class value. no_some v value; mode = λ is. absurd (true≢false (sym is)); located = tt }
unneeded e k (Some (a_modulion kind items)) up = record { value = λ is. absurd (true≢false (sym is)); shape = λ c v class value. no_some v value; mode = λ is. absurd (true≢false (sym is)); located = tt }
unneeded e k (Some (a_synonym s)) up = absurd (true≢false up)
unneeded e k (Some (a_mode novel m)) up = absurd (true≢false up)
unneeded e k (Some (an_element ns part owner)) up = absurd (true≢false up)
unneeded e k (Some (a_location d)) up = absurd (true≢false up)
unneeded e k (Some (a_parameter m)) up = absurd (true≢false up)
unneeded e k (Some (a_predefined p)) up = absurd (true≢false up)

entry_at_name : (g h : Ground) (n : Name) → SameText g h → ((d : ℕ) → is_looked_up (slice_get g.origins d) ≡ true → slice_get g.entries d ≡ slice_get h.entries d) → is_looked_up (origin_of g n) ≡ true → entry_of g n ≡ entry_of h n
entry_at_name g h n text same up = by_number (number_at g.uses n.at) up ∙ ap (λ us. option_and_then (slice_get h.entries) (number_at us n.at)) text.uses
  where
    by_number : (k : Option ℕ) → is_looked_up (option_and_then (slice_get g.origins) k) ≡ true → option_and_then (slice_get g.entries) k ≡ option_and_then (slice_get h.entries) k
    by_number None up = refl
    by_number (Some d) up = same d up

name_there : (g h : Ground) (n : Name) → SameText g h → ((d : ℕ) → is_looked_up (slice_get g.origins d) ≡ true → slice_get g.entries d ≡ slice_get h.entries d) → IsNameThere g n → IsNameThere h n
name_there g h n text same there = subst (λ o. IsThereBy (entry_of h n) (number_at h.uses n.at) o) (origin_same g h n text) (by (is_looked_up (origin_of g n)) refl)
  where
    by : (b : Bool) → is_looked_up (origin_of g n) ≡ b → IsThereBy (entry_of h n) (number_at h.uses n.at) (origin_of g n)
    by true up = subst (λ k. IsThereBy (entry_of h n) k (origin_of g n)) (ap (λ us. number_at us n.at) text.uses) (subst (λ e. IsThereBy e (number_at g.uses n.at) (origin_of g n)) (entry_at_name g h n text same up) there)
    by false up = unneeded (entry_of h n) (number_at h.uses n.at) (origin_of g n) up

pub counted_there : CountersThereLaw
counted_there text t g h has is_ground n =
    let plain = has.is_ground.names in
    let order = text_order text t g has.has_names plain in
    let with_counters = is_ground.names in
    let same : SameText g h = record {
      uses = ap (λ (x : Ground). x.uses) plain ∙ sym (ap (λ (x : Ground). x.uses) with_counters);
      defined = ap (λ (x : Ground). x.defined) plain ∙ sym (ap (λ (x : Ground). x.defined) with_counters);
      origins = ap (λ (x : Ground). x.origins) plain ∙ sym (ap (λ (x : Ground). x.origins) with_counters);
    } in
    name_there g h n same (counters_apart g h order.0 same order.1 has.is_ground.entries is_ground.entries) (text_there text t g has n)
