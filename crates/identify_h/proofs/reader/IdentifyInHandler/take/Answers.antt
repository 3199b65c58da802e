use Rattle.std.proofs.Common.{◌≡◌, ℕ, List, ◌++◌, true, false, take, refl, sym, ap, subst, ◌∙◌, arith}
use Rattle.identify_h.specs.declared.fault.IdentifyFault.TheVariants.{Failed}
use Rattle.identify_h.specs.Reading.{Stands, is_over}
use Rattle.identify_h.specs.contracts.reader.IdentifyIn.{the_view}
use Rattle.identify_h.proofs.Streaming.{over_failed, over_read, not_both, goes, fails_on, places_on}
use Rattle.identify_h.proofs.reader.IdentifyInHandler.take.Goals as goal
use Rattle.identify_h.proofs.reader.IdentifyInHandler.take.Goals.{then-self-via-then-self, then-self-via-else-self+then-is_some}

pub returns-then-self-clause-fault : goal.returns-then-self-clause-fault
returns-then-self-clause-fault c =
    let inside : is_over (the_view c.self.inside) ≡ true = elim c.then-self.branch [
      | then-self-via-then-self w ↦ over_failed (the_view c.self.inside) w.if-self.true
      | then-self-via-else-self+then-is_some w ↦ over_read (the_view c.self.inside) (sym w.is_some.ensures ∙ w.if-is_some.true)
    ] in
    let over : is_over c.args.self.now ≡ true = sym (ap is_over c.self.view_is) ∙ inside in
    (Failed, c.failing.ensures, (λ _. refl), λ going. absurd (not_both c.args.self.now over going))

pub loop-at-preserved : goal.loop-at-preserved
loop-at-preserved c =
    let before = c.loop-at.invariant in
    let within = c.in-Ok.ensures.within in
    record {
      within = omega arith;
      going = c.in-Ok.ensures.going;
      message = c.in-Ok.ensures.message;
      peer = c.in-Ok.ensures.peer ∙ before.peer;
      stands = λ input stands.
          subst (λ (t : List ℕ). Stands t c.take_some.new.self) (places_on input c.args.bytes.now c.loop-at.at c.in-Ok.used)
          (c.in-Ok.ensures.stands (input ++ take c.loop-at.at c.args.bytes.now) (before.stands input stands));
    }

pub returns-in-Err-clause-fault : goal.returns-in-Err-clause-fault
returns-in-Err-clause-fault c =
    let inside : is_over (the_view c.self.inside) ≡ false = goes (the_view c.self.inside) c.if-self.false (sym c.is_some.ensures ∙ c.if-is_some.false) in
    let going : is_over c.args.self.now ≡ false = sym (ap is_over c.self.view_is) ∙ inside in
    let before = c.loop-at.invariant in (
      c.in-Err.fault,
      c.failing-in-Err.ensures,
      (λ over. absurd (not_both c.args.self.now over going)),
      (λ _ input stands.
          fails_on input c.args.bytes.now c.loop-at.at c.in-Err.fault before.within
          (c.in-Err.ensures.fault (input ++ take c.loop-at.at c.args.bytes.now) (before.stands input stands))),
    )
