-- The test of an answer tells whether it can come.
use Rattle.std.proofs.Common.{◌≡◌, ℕ, zero, suc, ◌≤◌, Bool, true, false, ◌&&◌, ◌||◌, List, [], ◌∷◌, refl, ◌∙◌, ap, arith, ℤ, length, Some, None, IsTrue, ◌↔◌, ◌==◌, nat_le, eq-eqb}
use Rattle.std.specs.Prelude.{if◌then◌else◌}
use Rattle.std.specs.List.{list_any}
use Rattle.std.proofs.lemmas.Bool.{eqb-true}
use Rattle.std.proofs.lemmas.Bool.Decides.{nat_tests}
use Rattle.std.proofs.lemmas.Int.{ints}
use Rattle.std.specs.declared.option.Option.{Option}
use Rattle.kernel_base.specs.declared.ends.Exc.TheVariants.{Rangefail, Empty, Delayfail, Spacefail, Extinct}
use Rattle.kernel_base.specs.declared.request.Alternative.{Alternative}
use Rattle.kernel_base.specs.declared.request.Request.{Request}
use Rattle.kernel_base.specs.declared.request.Request.TheVariants.{Read, Write, Enter, Leave, Delay, Continue, SendBuffer, ReceiveBuffer, SendSignal, ReceiveSignal, Start, Put, Get, End}
use Rattle.kernel_base.specs.declared.answer.Answer.{Answer}
use Rattle.kernel_base.specs.declared.answer.Answer.TheVariants.{Value, Done, Woken, Got, Otherwise, Instance, Fail, Chose, Handed, Stored}
use Rattle.world_model.specs.Lists.{number_for}
use Rattle.world_model.specs.Gives.{IsListed, GivesRead, GivesDelay, GivesContinue, GivesSendBuffer, GivesReceive, GivesSendSignal, GivesStart, GivesGet, IsInt, Gives}
use Rattle.code_types.specs.Answers.{is_some_number, is_listed, is_done, gives_read, gives_delay, gives_continue, gives_send_buffer, gives_receive, gives_send_signal, gives_start, gives_get, gives}
use Rattle.scalar_operators.specs.Numbers.{is_int}

or-left : (a b : Bool) → IsTrue a → IsTrue (a || b)
or-left true b h = refl
or-left false b h = cc

or-right : (a b : Bool) → IsTrue b → IsTrue (a || b)
or-right true b h = refl
or-right false b h = h

both_tell : {P Q : Type 0} {a b : Bool} → IsTrue a ↔ P → IsTrue b ↔ Q → IsTrue (a && b) ↔ (P × Q)
both_tell {P} {Q} {a} {b} p q = both a b p q
  where
    both : (a b : Bool) → IsTrue a ↔ P → IsTrue b ↔ Q → IsTrue (a && b) ↔ (P × Q)
    both true b p q = ((λ h. (p.0 refl, q.0 h)), (λ h. q.1 h.1))
    both false b p q = ((λ h. cc), (λ h. p.1 h.0))

three_tell : {P Q R : Type 0} {a b c : Bool} → IsTrue a ↔ P → IsTrue b ↔ Q → IsTrue c ↔ R → IsTrue (a && (b && c)) ↔ (P × Q × R)
three_tell p q r = let h = both_tell p (both_tell q r) in ((λ k. ((h.0 k).0, (h.0 k).1.0, (h.0 k).1.1)), (λ k. h.1 (k.0, (k.1, k.2))))

least_tells : (n : ℕ) → IsTrue (nat_le 1 n) ↔ (1 ≤ n)
least_tells n = grind (arith, nat_tests)

done_tells : (answer : Answer) → IsTrue (is_done answer) ↔ (answer ≡ Done)
done_tells Done = ((λ h. refl), (λ h. refl))
done_tells answer = ((λ h. cc), (λ h. cc))

read_tells : (count : ℕ) (answer : Answer) → IsTrue (gives_read count answer) ↔ GivesRead count answer
read_tells count (Value scalars) = ((λ h. eqb-true (length scalars) count h), (λ h. eq-eqb (length scalars) count h))
read_tells count answer = ((λ h. cc), (λ h. absurd h))

continue_tells : (answer : Answer) → IsTrue (gives_continue answer) ↔ GivesContinue answer
continue_tells (Chose None) = ((λ h. tt), (λ h. refl))
continue_tells (Chose (Some p)) = grind (arith, nat_tests)
continue_tells answer = ((λ h. cc), (λ h. absurd h))

send_buffer_tells : (answer : Answer) → IsTrue (gives_send_buffer answer) ↔ GivesSendBuffer answer
send_buffer_tells (Handed p) = grind (arith, nat_tests)
send_buffer_tells Stored = ((λ h. tt), (λ h. refl))
send_buffer_tells answer = ((λ h. cc), (λ h. absurd h))

start_tells : (answer : Answer) → IsTrue (gives_start answer) ↔ GivesStart answer
start_tells (Fail Spacefail) = ((λ h. tt), (λ h. refl))
start_tells (Instance i) = grind (arith, nat_tests)
start_tells answer = ((λ h. cc), (λ h. absurd h))

send_signal_tells : (to : Option ℕ) (answer : Answer) → IsTrue (gives_send_signal to answer) ↔ GivesSendSignal to answer
send_signal_tells (Some zero) (Fail Empty) = ((λ h. tt), (λ h. refl))
send_signal_tells (Some zero) answer = ((λ h. cc), (λ h. absurd h))
send_signal_tells (Some (suc i)) (Fail Extinct) = ((λ h. tt), (λ h. refl))
send_signal_tells (Some (suc i)) (Handed p) = ((λ h. eqb-true p (suc i) h), (λ h. eq-eqb p (suc i) h))
send_signal_tells (Some (suc i)) Stored = ((λ h. tt), (λ h. refl))
send_signal_tells (Some (suc i)) answer = ((λ h. cc), (λ h. absurd h))
send_signal_tells None (Handed p) = grind (arith, nat_tests)
send_signal_tells None Stored = ((λ h. tt), (λ h. refl))
send_signal_tells None answer = ((λ h. cc), (λ h. absurd h))

int_tells : (z : ℤ) → IsTrue (is_int z) ↔ IsInt z
int_tells z = grind (arith, ints, nat_tests)

get_tells : (answer : Answer) → IsTrue (gives_get answer) ↔ GivesGet answer
get_tells (Value []) = ((λ h. cc), (λ h. absurd h))
get_tells (Value (number ∷ [])) = int_tells number
get_tells (Value (number ∷ other ∷ numbers)) = ((λ h. cc), (λ h. absurd h))
get_tells (Fail Empty) = ((λ h. tt), (λ h. refl))
get_tells (Fail Rangefail) = ((λ h. tt), (λ h. refl))
get_tells answer = ((λ h. cc), (λ h. absurd h))

-- the test by which an alternative's number is that of the first of its thing
abbrev is_first : List Alternative → ℕ → Alternative → Bool
is_first alternatives number a = is_some_number (number_for alternatives a.thing) number

some_number : (o : Option ℕ) (number : ℕ) → IsTrue (is_some_number o number) → o ≡ Some number
some_number None number h = cc
some_number (Some n) number h = ap Some (eqb-true n number h)

is_number_some : (o : Option ℕ) (number : ℕ) → o ≡ Some number → IsTrue (is_some_number o number)
is_number_some None number h = cc
is_number_some (Some n) number h = let e : n ≡ number = cc in eq-eqb n number e

listed_from : (all alternatives : List Alternative) (number : ℕ) → IsTrue (list_any (is_first all number) alternatives) → IsListed all number
listed_from all [] number h = cc
listed_from all (a ∷ rest) number h = by-test (listed_from all rest number) (is_first all number a) refl h
  where
    by-test : (IsTrue (list_any (is_first all number) rest) → IsListed all number) → (b : Bool) → is_first all number a ≡ b → IsTrue (b || list_any (is_first all number) rest) → IsListed all number
    by-test later true e k = (a.thing, some_number (number_for all a.thing) number e)
    by-test later false e k = later k

listed_back : (all alternatives : List Alternative) (thing number : ℕ) (n : ℕ) → number_for alternatives thing ≡ Some n → number_for all thing ≡ Some number → IsTrue (list_any (is_first all number) alternatives)
listed_back all [] thing number n h g = cc
listed_back all (a ∷ rest) thing number n h g = by-thing (λ k. listed_back all rest thing number n k g) (a.thing == thing) refl h
  where
    by-thing : (number_for rest thing ≡ Some n → IsTrue (list_any (is_first all number) rest)) → (b : Bool) → (a.thing == thing) ≡ b → (if b then Some a.number else number_for rest thing) ≡ Some n → IsTrue (is_first all number a || list_any (is_first all number) rest)
    by-thing later true e k =
        let same : a.thing ≡ thing = eqb-true a.thing thing e in
        let first : number_for all a.thing ≡ Some number = ap (number_for all) same ∙ g in
        or-left (is_first all number a) (list_any (is_first all number) rest) (is_number_some (number_for all a.thing) number first)
    by-thing later false e k = or-right (is_first all number a) (list_any (is_first all number) rest) (later k)

listed_tells : (alternatives : List Alternative) (number : ℕ) → IsTrue (is_listed alternatives number) ↔ IsListed alternatives number
listed_tells alternatives number = (listed_from alternatives alternatives number, (λ h. listed_back alternatives alternatives h.0 number number h.1 h.1))

delay_tells : (events : List Alternative) (answer : Answer) → IsTrue (gives_delay events answer) ↔ GivesDelay events answer
delay_tells events (Fail Delayfail) = ((λ h. tt), (λ h. refl))
delay_tells events (Woken alternative by) = both_tell (listed_tells events alternative) (least_tells by)
delay_tells events answer = ((λ h. cc), (λ h. absurd h))

receive_tells : (things : List Alternative) (otherwise : Bool) (answer : Answer) → IsTrue (gives_receive things otherwise answer) ↔ GivesReceive things otherwise answer
receive_tells things otherwise (Got alternative send scalars by) = three_tell (listed_tells things alternative) (least_tells send) (least_tells by)
receive_tells things otherwise Otherwise = ((λ h. h), (λ h. h))
receive_tells things otherwise answer = ((λ h. cc), (λ h. absurd h))

pub gives_tells : (request : Request) (answer : Answer) → IsTrue (gives request answer) ↔ Gives request answer
gives_tells (Read place) answer = read_tells place.count answer
gives_tells (Write place scalars) answer = done_tells answer
gives_tells (Enter region) answer = done_tells answer
gives_tells (Leave region) answer = done_tells answer
gives_tells (Delay events priority) answer = delay_tells events answer
gives_tells (Continue event) answer = continue_tells answer
gives_tells (SendBuffer buffer scalars priority) answer = send_buffer_tells answer
gives_tells (ReceiveBuffer buffers otherwise) answer = receive_tells buffers otherwise answer
gives_tells (SendSignal signal scalars to priority) answer = send_signal_tells to answer
gives_tells (ReceiveSignal signals otherwise) answer = receive_tells signals otherwise answer
gives_tells (Start process scalars) answer = start_tells answer
gives_tells (Put bytes) answer = done_tells answer
gives_tells Get answer = get_tells answer
gives_tells (End how) answer = done_tells answer
