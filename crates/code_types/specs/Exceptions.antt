-- The numbers of exceptions.
use Rattle.std.specs.Prelude.{ℕ, zero, suc, ◌+◌}
use Rattle.kernel_base.specs.declared.ends.Exc.{Exc}
use Rattle.kernel_base.specs.declared.ends.Exc.TheVariants.{Overflow, Rangefail, Empty, Assertfail, Delayfail, Spacefail, Extinct, User}

-- the number of an exception: those of the language are 0 to 6, and those of the text follow
abbrev pub exception_number : Exc → ℕ
exception_number Overflow = 0
exception_number Rangefail = 1
exception_number Empty = 2
exception_number Assertfail = 3
exception_number Delayfail = 4
exception_number Spacefail = 5
exception_number Extinct = 6
exception_number (User k) = 7 + k

-- the exception of a number
abbrev pub exception_of : ℕ → Exc
exception_of zero = Overflow
exception_of (suc zero) = Rangefail
exception_of (suc (suc zero)) = Empty
exception_of (suc (suc (suc zero))) = Assertfail
exception_of (suc (suc (suc (suc zero)))) = Delayfail
exception_of (suc (suc (suc (suc (suc zero))))) = Spacefail
exception_of (suc (suc (suc (suc (suc (suc zero)))))) = Extinct
exception_of (suc (suc (suc (suc (suc (suc (suc k))))))) = User k
