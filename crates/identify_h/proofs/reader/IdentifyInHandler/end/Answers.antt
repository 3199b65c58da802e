use Rattle.std.proofs.Common.{◌≡◌, ℕ, List, true, false, refl, sym, ap, subst, ◌∙◌}
use Rattle.identify_h.specs.declared.fault.IdentifyFault.TheVariants.{Failed, Cut}
use Rattle.identify_h.specs.Messages.{Refuses}
use Rattle.identify_h.specs.Streams.{EndFails}
use Rattle.identify_h.specs.Reading.{Reader, Stands, is_over}
use Rattle.identify_h.specs.contracts.reader.IdentifyIn.{the_view}
use Rattle.identify_h.proofs.Streaming.{over_failed, over_read, not_both, goes, cut_before, cut_within, end_refused}
use Rattle.identify_h.proofs.reader.IdentifyInHandler.end.Goals as goal
use Rattle.identify_h.proofs.reader.IdentifyInHandler.end.Goals.{then-self-via-then-self, then-self-via-else-self+then-is_some, then-self-eq0-via-then-self-eq0, then-self-eq0-via-else-self-eq0+then-not-is_at_start}

pub returns-then-self-clause-fault : goal.returns-then-self-clause-fault
returns-then-self-clause-fault c =
    let inside : is_over (the_view c.self.inside) ≡ true = elim c.then-self.branch [
      | then-self-via-then-self w ↦ over_failed (the_view c.self.inside) w.if-self.true
      | then-self-via-else-self+then-is_some w ↦ over_read (the_view c.self.inside) (sym w.is_some.ensures ∙ w.if-is_some.true)
    ] in
    let over : is_over c.args.self.now ≡ true = sym (ap is_over c.self.view_is) ∙ inside in
    (Failed, c.failing.ensures, (λ _. refl), λ going. absurd (not_both c.args.self.now over going))

pub returns-then-self-eq0-clause-fault : goal.returns-then-self-eq0-clause-fault
returns-then-self-eq0-clause-fault c =
    let inside : is_over (the_view c.self.inside) ≡ false = goes (the_view c.self.inside) c.if-self.false (sym c.is_some.ensures ∙ c.if-is_some.false) in
    let going : is_over c.args.self.now ≡ false = sym (ap is_over c.self.view_is) ∙ inside in (
      Cut,
      c.failing-then-self-eq0.ensures,
      (λ over. absurd (not_both c.args.self.now over going)),
      (λ _ input stands.
          let at : Stands input (the_view c.self.inside) = subst (λ (r : Reader). Stands input r) (sym c.self.view_is) stands in
          elim c.then-self-eq0.branch [
            | then-self-eq0-via-then-self-eq0 w ↦ cut_before c.args.self.now.peer input (the_view c.self.inside) at w.if-self-eq0.true
            | then-self-eq0-via-else-self-eq0+then-not-is_at_start w ↦
                cut_within c.args.self.now.peer input (the_view c.self.inside) at
                (λ rest standing none. let start = (w.is_at_start.ensures rest standing).1 none in let other = w.if-not-is_at_start.true in cc)
          ]),
    )

pub returns-in-Err-clause-fault : goal.returns-in-Err-clause-fault
returns-in-Err-clause-fault c =
    let inside : is_over (the_view c.self.inside) ≡ false = goes (the_view c.self.inside) c.if-self.false (sym c.is_some.ensures ∙ c.if-is_some.false) in
    let going : is_over c.args.self.now ≡ false = sym (ap is_over c.self.view_is) ∙ inside in
    let peer = ap (λ (r : Reader). r.peer) c.self.view_is in (
      c.in-Err.fault,
      c.failing-in-Err.ensures,
      (λ over. absurd (not_both c.args.self.now over going)),
      (λ _ input stands.
          let at : Stands input (the_view c.self.inside) = subst (λ (r : Reader). Stands input r) (sym c.self.view_is) stands in
          subst (λ (t : List ℕ). EndFails t input c.in-Err.fault) peer
          (end_refused c.self.inside.peer input (the_view c.self.inside) c.in-Err.fault at c.if-self-eq0.false
          (λ rest standing. (c.is_at_start.ensures rest standing).0 c.if-not-is_at_start.false)
          (subst (λ (t : List ℕ). Refuses c.self.inside.peer t c.in-Err.fault) c.deref.ensures.value c.in-Err.ensures.fault))),
    )
