use Rattle.std.proofs.Common.{◌≡◌, ℕ, List, ◌++◌, ◌+◌, ◌<◌, false, Err, refl, sym, ap, subst, ◌∙◌, arith}
use Rattle.std.specs.Prelude.{take}
use Rattle.std.proofs.lemmas.Result.{err_from_is_err_and}
use Rattle.varint_proto.specs.Incoming.{Arriving}
use Rattle.identify_h.specs.Reading.{Reader, Stands}
use Rattle.identify_h.specs.Room.{Holds}
use Rattle.identify_h.specs.contracts.reader.IdentifyIn.{the_view}
use Rattle.identify_h.proofs.Streaming.{too_many, holds_from, holds_on, length_refused, none_joined, some_digits, not_failed, room_behind, still_allowed, few_unless, unknown_if}
use Rattle.identify_h.proofs.reader.IdentifyIn.take_length.Goals as goal

pub returns-then-self-eq-MOST_MESSAGES-clause-fault : goal.returns-then-self-eq-MOST_MESSAGES-clause-fault
returns-then-self-eq-MOST_MESSAGES-clause-fault c = λ input stands.
    too_many input c.args.bytes.now c.args.self.now stands (sym (ap (λ (r : Reader). r.count) c.self.view_is) ∙ c.if-self-eq-MOST_MESSAGES.true) c.requires.some

pub returns-in_err-digits-clause-fault : goal.returns-in_err-digits-clause-fault
returns-in_err-digits-clause-fault c = λ input stands.
    let p = err_from_is_err_and c.from_residual.result c.from_residual.ensures.1 in
    let at : Stands input (the_view c.self.inside) = subst (λ (r : Reader). Stands input r) (sym c.self.view_is) stands in
    let holds = holds_from input (the_view c.self.inside) at c.if-self-eq-MOST_MESSAGES.false in
    rw (p.1, p.2) (length_refused input c.args.bytes.now (the_view c.self.inside) c.in_err-digits.field-0.0 holds
    (λ rest standing. c.in_err-digits.ensures.fault rest standing) (λ rest standing is. c.feed_length.ensures.memory rest standing (c.in_err-digits.was ∙ ap Err is)))

pub returns-in_err-make_room-clause-fault : goal.returns-in_err-make_room-clause-fault
returns-in_err-make_room-clause-fault c = λ input stands.
    let p = err_from_is_err_and c.from_residual-in_err-make_room.result c.from_residual-in_err-make_room.ensures.1 in
    let failed : c.self.inside.failed ≡ false = ap (λ (r : Reader). r.failed) c.self.view_is ∙ not_failed c.args.self.now c.requires.going in
    let goes = c.self.invariant.next_goes failed in
    let at : Stands input (the_view c.self.inside) = subst (λ (r : Reader). Stands input r) (sym c.self.view_is) stands in
    let holds = holds_from input (the_view c.self.inside) at c.if-self-eq-MOST_MESSAGES.false in
    let asked = c.in_err-make_room.ensures.memory in
    let len : ℕ = asked.0 in
    let digits : ℕ = c.in_ok-digits.digits in
    let some : 0 < digits =
    some_digits digits c.self.inside.next.expected c.feed_length.new.self.expected (λ none. c.in_ok-digits.ensures.some goes none c.requires.some)
    (λ known none. ap (λ (x : Arriving). x.expected) (c.in_ok-digits.ensures.known goes known).1)
    len _ _ asked.1 (λ m is. (c.self.invariant.room m failed is).0) asked.2 in
    let unknown = unknown_if c.self.inside.next.expected digits some (λ known. let same = (c.in_ok-digits.ensures.known goes known).0 in cc) in
    let more : List ℕ = take digits c.args.bytes.now in
    let behind : Reader = record (the_view c.self.inside) { next = c.feed_length.new.self } in
    let held : Holds (input ++ more) behind =
    holds_on input more (the_view c.self.inside) behind holds refl refl (λ rest standing. c.in_ok-digits.ensures.stands rest standing) c.in_ok-digits.ensures.limit in
    let capacity = c.self.inside.joined.ok.1 in
    let pos : 0 < len = omega (arith, asked.2) in
    rw (p.1, p.2) (none_joined input c.args.bytes.now digits len behind held asked.1 (c.in_ok-digits.ensures.length_alone goes unknown) some
    c.in_ok-digits.ensures.within pos)

pub invariant_of-self-2 : goal.invariant_of-self-2
invariant_of-self-2 c =
    let failed : c.self.inside.failed ≡ false = ap (λ (r : Reader). r.failed) c.self.view_is ∙ not_failed c.args.self.now c.requires.going in
    let goes = c.self.invariant.next_goes failed in
    let few = c.self.invariant.few_messages in
    let all = c.self.invariant.few_bytes failed in
    let len = c.make_room.ensures.len in
    room_behind c.self.inside.count _ _ c.self.inside.next c.feed_length.new.self
    (few_unless c.self.inside.count few c.if-self-eq-MOST_MESSAGES.false) (ap (λ k. k + c.self.inside.next.limit) len ∙ all)
    c.in_ok-digits.ensures.going c.in_ok-digits.ensures.limit c.in_ok-make_room.ensures.room
    (still_allowed c.self.inside.next.expected c.feed_length.new.self.expected c.feed_length.new.self.limit c.self.inside.next.limit c.in_ok-digits.ensures.limit
    (λ known. ap (λ (x : Arriving). x.expected) (c.in_ok-digits.ensures.known goes known).1) (λ none. c.in_ok-digits.ensures.allowed none)
    (λ n is. (c.self.invariant.room n failed is).1))

pub returns-clause-known : goal.returns-clause-known
returns-clause-known c = λ none.
    let failed : c.self.inside.failed ≡ false = ap (λ (r : Reader). r.failed) c.self.view_is ∙ not_failed c.args.self.now c.requires.going in
    let goes = c.self.invariant.next_goes failed in
    (c.in_ok-digits.ensures.known goes (λ unknown. let some = c.in_ok-digits.ensures.some goes unknown c.requires.some in omega arith)).1
    ∙ ap (λ (r : Reader). r.next) c.self.view_is

pub returns-clause-holds : goal.returns-clause-holds
returns-clause-holds c = λ input stands.
    let at : Stands input (the_view c.self.inside) = subst (λ (r : Reader). Stands input r) (sym c.self.view_is) stands in
    let holds = holds_from input (the_view c.self.inside) at c.if-self-eq-MOST_MESSAGES.false in
    holds_on input (take c.in_ok-digits.digits c.args.bytes.now) (the_view c.self.inside) _ holds refl c.make_room.ensures.items
    (λ rest standing. c.in_ok-digits.ensures.stands rest standing) c.in_ok-digits.ensures.limit
