use Rattle.std.proofs.Common.{◌≡◌, ℕ, List, ◌++◌, ◌-◌, false, length, None, Some, refl, sym, ap, subst, ◌∙◌, arith}
use Rattle.varint_proto.specs.Incoming.{IsWhole}
use Rattle.identify_h.specs.Reading.{Reader}
use Rattle.identify_h.specs.Room.{Holds}
use Rattle.identify_h.specs.contracts.reader.IdentifyIn.{the_view}
use Rattle.identify_h.proofs.Streaming.{stands_whole}
use Rattle.identify_h.proofs.reader.IdentifyIn.keep_body.Goals as goal

pub invariant_of-self : goal.invariant_of-self
invariant_of-self c =
    let going = c.self.invariant.next_goes (ap (λ (r : Reader). r.failed) c.self.view_is ∙ c.requires.going) in
    let fresh = c.begin_next.ensures.fresh going in
    let failed : c.self.inside.failed ≡ false = ap (λ (r : Reader). r.failed) c.self.view_is ∙ c.requires.going in
    let whole = subst (λ (r : Reader). IsWhole r.next) (sym c.self.view_is) c.requires.whole in
    let room = c.self.invariant.room (length c.self.inside.next.body) failed whole in
    let all = c.self.invariant.few_bytes failed in
    let grown = c.in-Ok.ensures.len in
    let body = ap length c.body.ensures in
    let len = c.len.ensures in
    let limit = fresh.1 in
    record {
      few_messages = let few = c.requires.few in let count = ap (λ (r : Reader). r.count) c.self.view_is in omega arith;
      next_goes = λ _. fresh.0.going;
      few_bytes = λ _. omega arith;
      room = λ n _ known. absurd (let both : None ≡ Some n = sym fresh.2 ∙ known in cc);
    }

pub returns-clause-stands : goal.returns-clause-stands
returns-clause-stands c = λ input holds.
    let going = c.self.invariant.next_goes (ap (λ (r : Reader). r.failed) c.self.view_is ∙ c.requires.going) in
    let fresh = c.begin_next.ensures.fresh going in
    let at : Holds input (the_view c.self.inside) = subst (λ (r : Reader). Holds input r) (sym c.self.view_is) holds in
    stands_whole input (the_view c.self.inside) _ at (subst (λ (r : Reader). IsWhole r.next) (sym c.self.view_is) c.requires.whole)
    (ap (λ (r : Reader). r.failed) c.self.view_is ∙ c.requires.going) refl
    (c.in-Ok.ensures.items ∙ ap (λ (t : List ℕ). c.self.inside.joined.items ++ t) c.body.ensures) fresh.0 (fresh.1 ∙ ap (λ k. 16384 - k) (c.len.ensures ∙ c.extend_from_slice.new.self.ok.0))
