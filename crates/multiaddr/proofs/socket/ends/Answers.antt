use Rattle.std.proofs.Common.{◌≡◌, Option, Some, None, List, ℕ, false, true, refl, sym, ◌∙◌, subst, arith, eq-eqb}
use Rattle.std.specs.Option.{is_some}
use Rattle.std.proofs.lemmas.Bool.{eqb-true, eqb-false}
use Rattle.multiaddr.specs.Given.{peer_in}
use Rattle.multiaddr.proofs.Sockets.{no_end, ends_in_peer, ends_by_peer, ends_whole}
use Rattle.multiaddr.proofs.socket.ends.Goals as goal

pub returns-in_default : goal.returns-in_default
returns-in_default c =
    let some = eqb-false _ _ (sym c.if-is_empty.ensures) in
    ((λ h. absurd cc), (λ h. absurd (no_end c.args.bytes.now (omega (arith, some)) c.in_default.ensures.none h)))

none_is : (o : Option (List ℕ)) → is_some o ≡ false → o ≡ None
none_is None e = refl
none_is (Some x) e = absurd cc

pub returns-then-is_none : goal.returns-then-is_none
returns-then-is_none c =
    let found = c.in-Some.ensures.found in
    ((λ h. absurd cc), (λ h. absurd (ends_in_peer c.args.bytes.now c.in-Some.rest.now c.in-Some.value.now c.in-Some.protocol found.0 found.1 h (sym c.named.ensures ∙ none_is c.named.result c.if-is_none.ensures))))

pub returns : goal.returns
returns c =
    let found = c.in-Some.ensures.found in
    let some = (λ (none : peer_in c.in-Some.protocol c.in-Some.value.now ≡ None). let told : is_some {T = List ℕ} None ≡ true = subst (λ (o : Option (List ℕ)). is_some o ≡ true) (c.named.ensures ∙ none) c.if-is_none.ensures in absurd {A = ⊥} cc) in (
      (λ whole. ends_by_peer c.args.bytes.now c.in-Some.rest.now c.in-Some.value.now c.in-Some.protocol found.0 some found.1 (eqb-true _ _ (sym c.is_empty-2.ensures ∙ whole))),
      (λ h. c.is_empty-2.ensures ∙ eq-eqb _ _ (ends_whole c.args.bytes.now c.in-Some.rest.now c.in-Some.value.now c.in-Some.protocol found.0 found.1 h)),
    )
