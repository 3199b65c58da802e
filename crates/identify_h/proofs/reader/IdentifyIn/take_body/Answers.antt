use Rattle.std.proofs.Common.{◌≡◌, ◌≢◌, ◌++◌, true, false, None, refl, sym, ap, subst, ◌∙◌}
use Rattle.std.specs.Prelude.{take}
use Rattle.identify_h.specs.Reading.{Reader}
use Rattle.identify_h.specs.Room.{Holds, waiting}
use Rattle.identify_h.specs.contracts.reader.IdentifyIn.{the_view}
use Rattle.identify_h.proofs.Streaming.{stands_partial, holds_on, same_room, not_waiting}
use Rattle.identify_h.proofs.reader.IdentifyIn.take_body.Goals as goal

pub invariant_of-self : goal.invariant_of-self
invariant_of-self c =
    let going = c.self.invariant.next_goes (ap (λ (r : Reader). r.failed) c.self.view_is ∙ c.requires.going) in
    let known : c.self.inside.next.expected ≢ None = λ e. c.requires.known (sym (ap (λ (r : Reader). r.next.expected) c.self.view_is) ∙ e) in
    same_room c.self.inside.failed c.self.inside.count _ _ c.self.inside.next c.feed.new.self c.self.invariant (rw c.in-Ok.is at c.feed.ensures.going) c.feed.ensures.limit (c.feed.ensures.known going known).1

pub invariant_of-self-else-whole : goal.invariant_of-self-else-whole
invariant_of-self-else-whole c =
    let going = c.self.invariant.next_goes (ap (λ (r : Reader). r.failed) c.self.view_is ∙ c.requires.going) in
    let known : c.self.inside.next.expected ≢ None = λ e. c.requires.known (sym (ap (λ (r : Reader). r.next.expected) c.self.view_is) ∙ e) in
    same_room c.self.inside.failed c.self.inside.count _ _ c.self.inside.next c.feed.new.self c.self.invariant (rw c.in-Ok.is at c.feed.ensures.going) c.feed.ensures.limit (c.feed.ensures.known going known).1

pub returns-then-whole-clause-some : goal.returns-then-whole-clause-some
returns-then-whole-clause-some c = λ none some.
    let going = c.self.invariant.next_goes (ap (λ (r : Reader). r.failed) c.self.view_is ∙ c.requires.going) in
    rw c.in-Ok.is at (c.feed.ensures.some going (not_waiting c.self.inside.next (ap (λ (r : Reader). waiting r.next) c.self.view_is ∙ none)) some)

pub returns-then-whole-clause-stands : goal.returns-then-whole-clause-stands
returns-then-whole-clause-stands c = λ input holds.
    let at : Holds input (the_view c.self.inside) = subst (λ (r : Reader). Holds input r) (sym c.self.view_is) holds in
    c.keep_body.ensures.stands (input ++ take c.in-Ok.used c.args.bytes.now)
    (holds_on input (take c.in-Ok.used c.args.bytes.now) (the_view c.self.inside) _ at refl refl
    (λ rest standing. rw c.in-Ok.is at (c.feed.ensures.stands rest standing)) c.feed.ensures.limit)

pub returns-else-whole-clause-stands : goal.returns-else-whole-clause-stands
returns-else-whole-clause-stands c = λ input holds.
    let at : Holds input (the_view c.self.inside) = subst (λ (r : Reader). Holds input r) (sym c.self.view_is) holds in
    stands_partial (input ++ take c.in-Ok.used c.args.bytes.now) _
    (holds_on input (take c.in-Ok.used c.args.bytes.now) (the_view c.self.inside) _ at refl refl
    (λ rest standing. rw c.in-Ok.is at (c.feed.ensures.stands rest standing)) c.feed.ensures.limit)
    (ap (λ (r : Reader). r.failed) c.self.view_is ∙ c.requires.going)
    (λ whole. let both = (rw c.in-Ok.is at c.feed.ensures.whole).1 whole in let false_is : false ≡ true = sym c.if-whole.false ∙ both in cc)
