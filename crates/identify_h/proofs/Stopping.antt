-- What goes on is answered, and what has failed or ended is refused.
use Rattle.std.proofs.Common.{◌≡◌, ◌↔◌, ℕ, Bool, true, false, ◌||◌, List, [], take, Option, refl, sym, ◌∙◌, ap}
use Rattle.std.specs.Prelude.{if◌then◌else◌, IsSome, Some, None}
use Rattle.handlers.specs.Calls.{HandlerCall, Take, Give, End, Asked, ToTake, ToGive, ToEnd, HasFailed, HasEnded}
use Rattle.peer_ids.specs.Key.{Key}
use Rattle.varint_proto.specs.Message.{last_body}
use Rattle.identify_h.specs.declared.fault.IdentifyFault.TheVariants.{Failed, OutOfMemory}
use Rattle.identify_h.specs.Faults.{number_of}
use Rattle.identify_h.specs.Messages.{IsKeyOf, HasKeyOf, KeyIsThePeers}
use Rattle.identify_h.specs.Sending.{Sending, SendStep, SendFails}
use Rattle.identify_h.specs.Sending as sending
use Rattle.identify_h.specs.Reading.{Reader, ReadStep, ReadFails, is_over}
use Rattle.identify_h.proofs.Streaming.{over_failed, over_read, not_both}

-- ---- the key of a message

has_key : (peer : List ℕ) (spelling : Option (List ℕ)) (key : Option Key) → IsKeyOf peer spelling key → HasKeyOf peer key
has_key peer None None is = tt
has_key peer None (Some key) is = absurd is
has_key peer (Some bytes) None is = absurd is
has_key peer (Some bytes) (Some key) is = (is.1, is.0.2.allowed)

pub key_is_the_peers : KeyIsThePeers
key_is_the_peers peer bytes m spells = has_key peer (last_body 1 spells.0) m.key spells.2.key

-- ---- the end that reads

pub reader_gives : (r : Reader) (room : ℕ) → r.failed ≡ false → ReadStep r (Give room []) r
reader_gives r room going = (going, refl, refl)

reader_takes_none : (r s : Reader) (bytes : List ℕ) → is_over r ≡ true → ¬ ReadStep r (Take bytes) s
reader_takes_none r s bytes over step = not_both r over step.going

reader_ends_once : (r s : Reader) → is_over r ≡ true → ¬ ReadStep r End s
reader_ends_once r s over step = not_both r over step.0

reader_stays : (r : Reader) (call : HandlerCall) (s : Reader) → r.failed ≡ true → ¬ ReadStep r call s
reader_stays r (Take bytes) s h step = reader_takes_none r s bytes (over_failed r h) step
reader_stays r (Give room bytes) s h step = let never : true ≡ false = sym h ∙ step.0 in cc
reader_stays r End s h step = reader_ends_once r s (over_failed r h) step

over_refuses_bytes : (r : Reader) (bytes : List ℕ) (n : ℕ) → is_over r ≡ true → ReadFails r (ToTake bytes) n ↔ (n ≡ number_of Failed)
over_refuses_bytes r bytes n over =
    (λ h. h.1 ∙ ap number_of (h.2 over), λ e. (Failed, e, (λ _. refl), λ going. absurd (not_both r over going)))

over_refuses_the_end : (r : Reader) (n : ℕ) → is_over r ≡ true → ReadFails r ToEnd n ↔ (n ≡ number_of Failed)
over_refuses_the_end r n over =
    (λ h. h.1 ∙ ap number_of (h.2 over), λ e. (Failed, e, (λ _. refl), λ going. absurd (not_both r over going)))

reader_refuses : (r : Reader) (asked : Asked) (n : ℕ) → r.failed ≡ true → ReadFails r asked n ↔ (n ≡ number_of Failed)
reader_refuses r (ToTake bytes) n h = over_refuses_bytes r bytes n (over_failed r h)
reader_refuses r (ToGive room) n h = (λ fails. fails.0, λ e. (e, h))
reader_refuses r ToEnd n h = over_refuses_the_end r n (over_failed r h)

pub reader_failed : (r : Reader) → r.failed ≡ true → HasFailed ReadStep ReadFails (number_of Failed) r
reader_failed r h = record { answers = λ call next. reader_stays r call next h; refuses = λ asked n. reader_refuses r asked n h }

pub reader_ended : (r : Reader) → IsSome r.message → HasEnded ReadStep ReadFails (number_of Failed) r
reader_ended r h = let over : is_over r ≡ true = over_read r h in record {
  takes = λ bytes next. reader_takes_none r next bytes over;
  ends = λ next. reader_ends_once r next over;
  refuses = λ bytes n. over_refuses_bytes r bytes n over;
  refuses_an_end = λ n. over_refuses_the_end r n over;
}

-- ---- the end that sends

first_holds : (a b : Bool) → a ≡ true → (a || b) ≡ true
first_holds a b h = rw h refl

second_holds : (a b : Bool) → b ≡ true → (a || b) ≡ true
second_holds true b h = refl
second_holds false b h = h

neither : (a b : Bool) → a ≡ false → b ≡ false → (a || b) ≡ false
neither a b h k = rw (h, k) refl

sender_is_over : (s : Sending) → s.failed ≡ true → sending.is_over s ≡ true
sender_is_over s h = first_holds s.failed s.ended h

pub sender_takes : (s : Sending) (bytes : List ℕ) → s.failed ≡ false → s.ended ≡ false → SendStep s (Take bytes) s
sender_takes s bytes going early = (neither s.failed s.ended going early, refl)

pub sender_gives : (s : Sending) (room : ℕ) → s.failed ≡ false → (bytes : List ℕ) × (t : Sending) × SendStep s (Give room bytes) t
sender_gives s room going = (take room s.unsent, _, (going, refl, refl))

pub sender_ends : (s : Sending) → s.failed ≡ false → s.ended ≡ false → (t : Sending) × SendStep s End t
sender_ends s going early = (_, (neither s.failed s.ended going early, refl))

sender_stays : (s : Sending) (call : HandlerCall) (t : Sending) → s.failed ≡ true → ¬ SendStep s call t
sender_stays s (Take bytes) t h step = let never : true ≡ false = sym (sender_is_over s h) ∙ step.0 in cc
sender_stays s (Give room bytes) t h step = let never : true ≡ false = sym h ∙ step.0 in cc
sender_stays s End t h step = let never : true ≡ false = sym (sender_is_over s h) ∙ step.0 in cc

sender_refuses : (s : Sending) (asked : Asked) (n : ℕ) → s.failed ≡ true → SendFails s asked n ↔ (n ≡ number_of Failed)
sender_refuses s (ToTake bytes) n h = (λ fails. fails.0, λ e. (e, sender_is_over s h))
sender_refuses s (ToGive room) n h = (
  λ fails. fails.0 ∙ ap (λ (b : Bool). number_of (if b then Failed else OutOfMemory)) h,
  λ e. (
    e ∙ ap (λ (b : Bool). number_of (if b then Failed else OutOfMemory)) (sym h),
    λ going. absurd (let never : true ≡ false = sym h ∙ going in cc),
  ),
)
sender_refuses s ToEnd n h = (λ fails. fails.0, λ e. (e, sender_is_over s h))

pub sender_failed : (s : Sending) → s.failed ≡ true → HasFailed SendStep SendFails (number_of Failed) s
sender_failed s h = record { answers = λ call next. sender_stays s call next h; refuses = λ asked n. sender_refuses s asked n h }

pub sender_ended : (s : Sending) → s.ended ≡ true → HasEnded SendStep SendFails (number_of Failed) s
sender_ended s h = let over : sending.is_over s ≡ true = second_holds s.failed s.ended h in record {
  takes = λ bytes next step. let never : true ≡ false = sym over ∙ step.0 in cc;
  ends = λ next step. let never : true ≡ false = sym over ∙ step.0 in cc;
  refuses = λ bytes n. (λ fails. fails.0, λ e. (e, over));
  refuses_an_end = λ n. (λ fails. fails.0, λ e. (e, over));
}
