-- Each call leads one way.
use Rattle.std.proofs.Common.{◌≡◌, ℕ, ◌-◌, List, ◌++◌, length, Bool, ◌||◌, Option, Some, None, Ok, sym, ap, subst, ◌∙◌}
use Rattle.std.specs.Prelude.{is_some}
use Rattle.std.specs.List.{concat}
use Rattle.varint_proto.specs.Varint.{BeginsShortest, ReadsShortest}
use Rattle.varint_proto.specs.Incoming as framed
use Rattle.varint_proto.specs.Incoming.{Arriving}
use Rattle.varint_proto.proofs.Front.{again, one_begins}
use Rattle.varint_proto.proofs.OneShortest.{one_outcome as one_number}
use Rattle.handlers.specs.Calls.{HandlerCall, Take, Give, End, Asked, ToTake, ToGive, ToEnd}
use Rattle.identify_h.specs.Messages.{Message}
use Rattle.identify_h.specs.Streams.{most_messages, left_behind, EndFails}
use Rattle.identify_h.specs.Reading.{Reader, Stands, Alike, ReadStep, ReadFails, is_over}
use Rattle.identify_h.specs.Sending.{Sending, SendStep}
use Rattle.identify_h.proofs.Outcomes.{Same, there, stops_part, one_outcome}

-- ---- where two readers stand that have the same input

not_begun : (input rest : List ℕ) (len : ℕ) → BeginsShortest input len rest → ReadsShortest input (Ok None) → ⊥
not_begun input rest len b h =
    let same =
    one_number input (Ok (Some (len, length b.0))) (Ok None)
    (subst (λ (t : List ℕ). ReadsShortest t (Ok (Some (len, length b.0)))) (sym b.2) (again b.0 rest len b.1)) h in
    absurd cc

-- what is held of one input by two that hold the same of another
holds_same : (e f : Option ℕ) (x y : Arriving) (input other : List ℕ) → x.limit ≡ y.limit → framed.Holds e x input → framed.Holds f y input
    → framed.Holds e x other → framed.Holds f y other
holds_same None None x y input other limit a b c = (c.0, b.1 ∙ sym a.1 ∙ c.1, b.2)
holds_same None (Some len) x y input other limit a b c = absurd (not_begun input y.body len b.0.begins a.0)
holds_same (Some len) None x y input other limit a b c = absurd (not_begun input x.body len a.0.begins b.0)
holds_same (Some len) (Some size) x y input other limit a b c =
    let same = one_begins input len size x.body y.body a.0.begins b.0.begins in (
      record {
        begins = subst (λ (t : List ℕ). BeginsShortest other size t) same.1 (subst (λ (n : ℕ). BeginsShortest other n x.body) same.0 c.0.begins);
        allowed = b.0.allowed;
      },
      b.1,
    )

stands_next : (x y : Arriving) (input other : List ℕ) → x.limit ≡ y.limit → framed.Stands input x → framed.Stands input y
    → framed.Stands other x → framed.Stands other y
stands_next x y input other limit a b c =
    record { going = b.going; holds = holds_same x.expected y.expected x y input other limit a.holds b.holds c.holds }

-- where the one stands the other does
stands_too : (input : List ℕ) (r s : Reader) → Stands input r → Stands input s → (other : List ℕ) → Stands other r → Stands other s
stands_too input r s a b other c =
    let same : Same a.bodies b.bodies a.rest b.rest =
    there input a.bodies b.bodies a.rest b.rest a.begins b.begins (stops_part (most_messages - length a.bodies) a.bodies a.rest a.part)
    (stops_part (most_messages - length b.bodies) b.bodies b.rest b.part) in
    let limit : r.next.limit ≡ s.next.limit = a.limit ∙ ap left_behind same.bodies_are ∙ sym b.limit in
    record {
      going = b.going;
      bodies = c.bodies;
      rest = c.rest;
      begins = c.begins;
      part = c.part;
      count = b.count ∙ ap (λ (t : List (List ℕ)). length t) (sym same.bodies_are) ∙ sym a.count ∙ c.count;
      joined = b.joined ∙ ap (λ (t : List (List ℕ)). concat t) (sym same.bodies_are) ∙ sym a.joined ∙ c.joined;
      next = stands_next r.next s.next a.rest c.rest limit a.next (subst (λ (t : List ℕ). framed.Stands t s.next) (sym same.rest_is) b.next) c.next;
      limit = sym limit ∙ c.limit;
    }

-- ---- the end that reads

pub reader_take : (input bytes : List ℕ) (old new other : Reader) → Stands input old → ReadStep old (Take bytes) new → ReadStep old (Take bytes) other
    → Alike new other
reader_take input bytes old new other at p q =
    let a : Stands (input ++ bytes) new = p.stands input at in
    let b : Stands (input ++ bytes) other = q.stands input at in
    record {
      peer = p.peer ∙ sym q.peer;
      message = p.message ∙ sym q.message;
      failed = a.going ∙ sym b.going;
      stands = λ reached. (stands_too (input ++ bytes) new other a b reached, stands_too (input ++ bytes) other new b a reached);
    }

pub reader_end : (input : List ℕ) (old new other : Reader) → Stands input old → ReadStep old End new → ReadStep old End other → new ≡ other
reader_end input old new other at p q =
    let one = p.1 in
    let two = q.1 in
    let same : one.0 ≡ two.0 = one_outcome.message old.peer input one.0 two.0 (one.2 input at) (two.2 input at) in
    one.1 ∙ ap (λ (m : Message). record old { message = Some m }) same ∙ sym two.1

pub reader_give : (old new other : Reader) (room : ℕ) (bytes more : List ℕ) → ReadStep old (Give room bytes) new → ReadStep old (Give room more) other
    → (bytes ≡ more) × (new ≡ other)
reader_give old new other room bytes more p q = (p.1 ∙ sym q.1, p.2 ∙ sym q.2)

over_same : (r s : Reader) → Alike r s → is_over r ≡ is_over s
over_same r s alike = ap (λ (b : Bool). b || is_some r.message) alike.failed ∙ ap (λ (m : Option Message). s.failed || is_some m) alike.message

pub reader_alike : (r s : Reader) (asked : Asked) (n : ℕ) → Alike r s → ReadFails r asked n → ReadFails s asked n
reader_alike r s (ToTake bytes) n alike fails = (
  fails.0,
  fails.1,
  λ over. fails.2 (over_same r s alike ∙ over),
  λ going input at. fails.3 (over_same r s alike ∙ going) input ((alike.stands input).1 at),
)
reader_alike r s (ToGive room) n alike fails = (fails.0, sym alike.failed ∙ fails.1)
reader_alike r s ToEnd n alike fails = (
  fails.0,
  fails.1,
  λ over. fails.2 (over_same r s alike ∙ over),
  λ going input at. subst (λ (peer : List ℕ). EndFails peer input fails.0) alike.peer
      (fails.3 (over_same r s alike ∙ going) input ((alike.stands input).1 at)),
)

-- ---- the end that sends

pub sender_next : (old : Sending) (call : HandlerCall) (new other : Sending) → SendStep old call new → SendStep old call other → new ≡ other
sender_next old (Take bytes) new other p q = p.1 ∙ sym q.1
sender_next old (Give room bytes) new other p q = p.2 ∙ sym q.2
sender_next old End new other p q = p.1 ∙ sym q.1

pub sender_given : (old : Sending) (room : ℕ) (bytes more : List ℕ) (new other : Sending) → SendStep old (Give room bytes) new
    → SendStep old (Give room more) other → (bytes ≡ more) × (new ≡ other)
sender_given old room bytes more new other p q = (p.1 ∙ sym q.1, p.2 ∙ sym q.2)
