-- A RECEIVE of which P3 isn't told is from a buffer.
use Rattle.std.proofs.Common.{◌≡◌, true, false, Option, Some, None, true≢false, refl, sym, ap, ◌∙◌}
use Rattle.std.specs.Prelude.{IsSome, option_map, option_and_then, not}
use Rattle.modes.specs.ModeTree.{ModeTree, int, boolean, char, instance, set_of, range, powerset, chars, array, structure, event, buffer, read, named}
use Rattle.diagnostics.specs.declared.rule.Rule.TheVariants as rules
use Rattle.names_model.specs.NameRules.{tell}
use Rattle.checks_model.specs.Told.{holds_of}
use Rattle.checks_model.specs.Ground.{entry_of, mode_of_entry, element_of}
use Rattle.checks_model.specs.ProcessRules.{meeting_of, met_by, met_at, for_messages, fits}
use Rattle.class_laws.specs.Known.{ReceiveLaw}
use Rattle.class_laws.proofs.Clean.{not_broken, not_true}

of_buffer : (m : ModeTree) → fits for_messages (meeting_of m) ≡ true → IsSome (element_of m)
of_buffer int fit = absurd (true≢false (sym fit))
of_buffer boolean fit = absurd (true≢false (sym fit))
of_buffer char fit = absurd (true≢false (sym fit))
of_buffer instance fit = absurd (true≢false (sym fit))
of_buffer (set_of d n) fit = absurd (true≢false (sym fit))
of_buffer (range p l h) fit = absurd (true≢false (sym fit))
of_buffer (powerset m) fit = absurd (true≢false (sym fit))
of_buffer (chars n) fit = absurd (true≢false (sym fit))
of_buffer (array i e how) fit = absurd (true≢false (sym fit))
of_buffer (structure fs p) fit = absurd (true≢false (sym fit))
of_buffer (event l) fit = absurd (true≢false (sym fit))
of_buffer (buffer l e) fit = refl
of_buffer (read m) fit = of_buffer m fit
of_buffer (named d n m) fit = of_buffer m fit

of_location : (m : Option ModeTree) → IsSome m → holds_of (λ m. not (fits for_messages m)) (option_map meeting_of m) ≡ false → IsSome (option_and_then element_of m)
of_location (Some m) known fit = of_buffer m (not_true (fits for_messages (meeting_of m)) fit)
of_location None known fit = absurd (true≢false (sym known))

pub receive_there : ReceiveLaw
receive_there g n d is known none =
    let misfit = not_broken (holds_of (λ m. not (fits for_messages m)) (met_at g n)) (tell n.at rules.P3 n.text) none in
    of_location (mode_of_entry (entry_of g n)) known (ap (λ o. holds_of (λ m. not (fits for_messages m)) (met_by (entry_of g n) o)) (sym is) ∙ misfit)
