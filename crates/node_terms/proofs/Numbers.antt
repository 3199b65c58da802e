-- The faults of pings and of identify, by their numbers.
use Rattle.std.proofs.Common.{refl, ap, ◌≡◌, ℕ, ◌==◌, cond, sym, ◌∙◌}
use Rattle.ping_h.specs.Faults as pings
use Rattle.ping_h.specs.declared.fault.PingFault.{PingFault}
use Rattle.ping_h.specs.declared.fault.PingFault.TheVariants as ping
use Rattle.identify_h.specs.Faults as identifies
use Rattle.identify_h.specs.declared.fault.IdentifyFault.{IdentifyFault}
use Rattle.identify_h.specs.declared.fault.IdentifyFault.TheVariants as identify
use Rattle.node_terms.specs.Endings.{IsPingFault, IsIdentifyFault}

abbrev ping_at : ℕ → PingFault
ping_at n = cond (n == 2) ping.WrongEcho (cond (n == 3) ping.Cut (cond (n == 4) ping.OutOfMemory ping.Failed))

at_ping : (fault : PingFault) → ping_at (pings.number_of fault) ≡ fault
at_ping ping.Failed = refl
at_ping ping.WrongEcho = refl
at_ping ping.Cut = refl
at_ping ping.OutOfMemory = refl

-- the fault that has this number
pub of_ping : (number : ℕ) (fault : PingFault) → number ≡ pings.number_of fault → IsPingFault number fault
of_ping number fault is = record {
  named = λ other e. sym (at_ping fault) ∙ ap ping_at (sym is ∙ e) ∙ at_ping other;
  unnamed = λ none. absurd (none fault is);
}

abbrev identify_at : ℕ → IdentifyFault
identify_at n = cond (n == 2) identify.TooLong (cond (n == 3) identify.TooMany (cond (n == 4) identify.Wire
    (cond (n == 5) identify.OtherKey (cond (n == 6) identify.Cut (cond (n == 7) identify.OutOfMemory identify.Failed)))))

at_identify : (fault : IdentifyFault) → identify_at (identifies.number_of fault) ≡ fault
at_identify identify.Failed = refl
at_identify identify.TooLong = refl
at_identify identify.TooMany = refl
at_identify identify.Wire = refl
at_identify identify.OtherKey = refl
at_identify identify.Cut = refl
at_identify identify.OutOfMemory = refl

pub of_identify : (number : ℕ) (fault : IdentifyFault) → number ≡ identifies.number_of fault → IsIdentifyFault number fault
of_identify number fault is = record {
  named = λ other e. sym (at_identify fault) ∙ ap identify_at (sym is ∙ e) ∙ at_identify other;
  unnamed = λ none. absurd (none fault is);
}
