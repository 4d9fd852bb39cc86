-- The handlers, one after another.
use Rattle.std.proofs.Common.{◌≡◌, ℕ, ◌+◌, List, ◌∷◌, true, false, slice_get, get_or, drop, Some, refl, ap, ◌∙◌, rules}
use Rattle.std.proofs.lemmas.List.{drop_more}
use Rattle.std.proofs.lemmas.Option.{slice_get_within, gets}
use Rattle.kernel_base.specs.declared.ends.Exc.{Exc}
use Rattle.code_types.specs.declared.code.Handler.{Handler}
use Rattle.code_types.specs.Places.{taker, takes}

handlers_from : (handlers : List Handler) (i : ℕ) (h : Handler) → slice_get handlers i ≡ Some h → drop i handlers ≡ h ∷ drop (i + 1) handlers
handlers_from handlers i h here =
    let inside = slice_get_within handlers i h here in
    let same : get_or handlers i h ≡ h = search (rules, gets) in
    drop_more handlers i h inside ∙ ap (λ (x : Handler). x ∷ drop (i + 1) handlers) same

-- the first of the handlers from a place on takes the exception, or one behind it
pub taker_here : (handlers : List Handler) (i place : ℕ) (exception : Exc) (h : Handler) → slice_get handlers i ≡ Some h → takes h place exception ≡ true → taker (drop i handlers) place exception ≡ Some h
taker_here handlers i place exception h here taken = rw (handlers_from handlers i h here, taken) refl

pub taker_later : (handlers : List Handler) (i place : ℕ) (exception : Exc) (h : Handler) → slice_get handlers i ≡ Some h → takes h place exception ≡ false → taker (drop i handlers) place exception ≡ taker (drop (i + 1) handlers) place exception
taker_later handlers i place exception h here passed = rw (handlers_from handlers i h here, passed) refl
