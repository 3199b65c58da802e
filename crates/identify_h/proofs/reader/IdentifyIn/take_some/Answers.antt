use Rattle.std.proofs.Common.{ℕ, List, ◌++◌, take, subst}
use Rattle.identify_h.specs.Reading.{Stands}
use Rattle.identify_h.proofs.Streaming.{places_on}
use Rattle.identify_h.proofs.reader.IdentifyIn.take_some.Goals as goal

pub returns-clause-stands : goal.returns-clause-stands
returns-clause-stands c = λ input stands.
    let held = c.in_ok-digits.ensures.holds input stands in
    subst (λ (t : List ℕ). Stands t c.take_body.new.self) (places_on input c.args.bytes.now c.in_ok-digits.digits c.take_body.result)
    (c.take_body.ensures.stands (input ++ take c.in_ok-digits.digits c.args.bytes.now) held)
