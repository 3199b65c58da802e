-- The reason of a refusal is determined, want of memory among them.
use Rattle.std.proofs.Common.{◌≡◌, Some, None, refl, sym, ◌∙◌}
use Rattle.yamux_session.specs.declared.event.ActRefused.{ActRefused}
use Rattle.yamux_session.specs.declared.event.ActRefused.TheVariants.{Failed, NoStream, Ended, GoneAway, StreamsExhausted, StreamsFull, OutOfMemory}
use Rattle.yamux_session.specs.Acts.{IsRefusedFor, OneRefusal}

without : (a : ActRefused) → IsRefusedFor None a → a ≡ OutOfMemory
without OutOfMemory is = refl
without Failed is = absurd cc
without NoStream is = absurd cc
without Ended is = absurd cc
without GoneAway is = absurd cc
without StreamsExhausted is = absurd cc
without StreamsFull is = absurd cc

because : (why a : ActRefused) → IsRefusedFor (Some why) a → a ≡ why
because why OutOfMemory is = absurd cc
because why Failed is = cc
because why NoStream is = cc
because why Ended is = cc
because why GoneAway is = cc
because why StreamsExhausted is = cc
because why StreamsFull is = cc

pub one_refusal : OneRefusal
one_refusal None a b x y = without a x ∙ sym (without b y)
one_refusal (Some why) a b x y = because why a x ∙ sym (because why b y)
