-- A server that is fed all the output of a client hears what was written.
use Rattle.std.proofs.Common.{◌≡◌, ℕ, zero, suc, ◌<◌, ◌⊎◌, inl, inr, Bool, true, false, cond, ◌&&◌, not, nat_lt, List, [], ◌∷◌, ◌++◌, map, take, drop, Option, Some, None, refl, sym, ap, ◌∙◌, subst, arith}
use Rattle.std.specs.Global.{Vec}
use Rattle.std.specs.List.{AllByRecursion}
use Rattle.std.proofs.lemmas.List.{append-nil, take-append-drop}
use Rattle.std.proofs.lemmas.List.Elements.{All-from_recursion}
use mathlib.Core.List.{IsPrefix}
use Rattle.yamux_frames.specs.declared.header.Header.{Header}
use Rattle.yamux_frames.specs.Spelling.{payload_length}
use Rattle.yamux_frames.specs.Frames.{Arrival, spelled, Reads, OneReading}
use Rattle.yamux_frames.specs.Frames.Arrival.{Head, Byte, Tail, Garbled}
use Rattle.yamux_session.specs.declared.event.Role.TheVariants.{Client, Server}
use Rattle.yamux_session.specs.declared.event.Fault.{Fault}
use Rattle.yamux_session.specs.declared.event.Event.{Event}
use Rattle.yamux_session.specs.declared.event.Event.TheVariants as event
use Rattle.yamux_session.specs.declared.calls.Act.{Act}
use Rattle.yamux_session.specs.declared.calls.Act.TheVariants as act
use Rattle.yamux_session.specs.declared.calls.ActAnswer.{ActAnswer}
use Rattle.yamux_session.specs.declared.calls.ActAnswer.TheVariants.{Events, Stream, Count, Done, Refused}
use Rattle.yamux_session.specs.declared.calls.Ran.{Ran}
use Rattle.yamux_session.specs.History.{Item, arrivals, ack, rst, fin, is_update, is_go_away, is_own}
use Rattle.yamux_session.specs.History as history
use Rattle.yamux_session.specs.History.Item.{Came, Did}
use Rattle.yamux_session.specs.Openings.{is_live, opens, finished, reading, head_belongs}
use Rattle.yamux_session.specs.Windows.{accepted}
use Rattle.yamux_session.specs.Faults.{HasNoFault}
use Rattle.yamux_session.specs.Events.{Told, when, tail_told, tail_events, taker, byte_told, events_unless, item_events, events_at, events}
use Rattle.yamux_session.specs.Data.{inbound, written}
use Rattle.yamux_session.specs.Received.{AreSinceOpening, ReceivedData}
use Rattle.yamux_session.specs.Output.{output}
use Rattle.yamux_session.specs.Arrives.{tellings}
use Rattle.yamux_session.specs.State.{FirstFaults, EndsWith}
use Rattle.yamux_session.specs.Joined.{End, Joined, at_first, BothGoOn, JoinedAreAnswered, NoFault, NothingIsLost, AllBeforeTheEnd}
use Rattle.yamux_session.specs.Joined.Joined.{Begin, Client_acts}
use Rattle.yamux_session.specs.Runs.{Point, IsAdded, FedOn, GoesOn, Ends, AnswersAt, Answers, AnswersAll, Runs, output_at_point}
use Rattle.yamux_session.specs.Runs.Point.{At}
use Rattle.clients.specs.Sessions.{IsHeard, end}
use Rattle.clients.specs.Runs.{IsOwn, IsNoFault, HearsAll, HearsOrStops, HearsSent, HearsRun}
use Rattle.clients.proofs.Conversing.{both_read}

-- ---- the client: calls that are no feeds

-- where such calls lead: a server that has done nothing is joined
abbrev IsUnfed : Point → Type 0
IsUnfed point = (past : List Item) × (point ≡ At past []) × Joined (end past []) at_first

added : (past : List Item) (did : history.Act) (next : Point) → Joined (end past []) at_first → IsAdded Client past [] did next → IsUnfed next
added past did next joined is = (Did did ∷ past, is.1, Client_acts joined (record { answered = is.0; items = refl; fed = refl }))

one_own : (past : List Item) (call : Act) (answer : ActAnswer) (next : Point) → Joined (end past []) at_first → IsOwn call → AnswersAt Client past [] call answer next → IsUnfed next
one_own past (act.Feed bytes) answer next joined own is = absurd own
one_own past act.Start (Stream n) next joined own is = added past _ next joined is
one_own past act.Start (Refused why) next joined own is = (past, is.1, joined)
one_own past act.Start (Events told) next joined own is = absurd is
one_own past act.Start (Count n) next joined own is = absurd is
one_own past act.Start Done next joined own is = absurd is
one_own past (act.Write n bytes) (Count count) next joined own is = added past _ next joined is.added
one_own past (act.Write n bytes) (Refused why) next joined own is = (past, is.2, joined)
one_own past (act.Write n bytes) (Events told) next joined own is = absurd is
one_own past (act.Write n bytes) (Stream m) next joined own is = absurd is
one_own past (act.Write n bytes) Done next joined own is = absurd is
one_own past (act.Taken n count) Done next joined own is = added past _ next joined is
one_own past (act.Taken n count) (Refused why) next joined own is = (past, is.2, joined)
one_own past (act.Taken n count) (Events told) next joined own is = absurd is
one_own past (act.Taken n count) (Stream m) next joined own is = absurd is
one_own past (act.Taken n count) (Count m) next joined own is = absurd is
one_own past (act.Close n) Done next joined own is = added past _ next joined is
one_own past (act.Close n) (Refused why) next joined own is = (past, is.1, joined)
one_own past (act.Close n) (Events told) next joined own is = absurd is
one_own past (act.Close n) (Stream m) next joined own is = absurd is
one_own past (act.Close n) (Count m) next joined own is = absurd is
one_own past (act.Reset n) Done next joined own is = added past _ next joined is
one_own past (act.Reset n) (Refused why) next joined own is = (past, is.1, joined)
one_own past (act.Reset n) (Events told) next joined own is = absurd is
one_own past (act.Reset n) (Stream m) next joined own is = absurd is
one_own past (act.Reset n) (Count m) next joined own is = absurd is
one_own past (act.GoAway code) Done next joined own is = added past _ next joined is
one_own past (act.GoAway code) (Refused why) next joined own is = (past, is.1, joined)
one_own past (act.GoAway code) (Events told) next joined own is = absurd is
one_own past (act.GoAway code) (Stream m) next joined own is = absurd is
one_own past (act.GoAway code) (Count m) next joined own is = absurd is

all_own : (point : Point) (calls : List Act) (answers : List ActAnswer) (last : Point) → IsUnfed point → AllByRecursion IsOwn calls → AnswersAll Client point calls answers last → IsUnfed last
all_own point [] [] last unfed own is = subst IsUnfed (sym is) unfed
all_own point [] (answer ∷ answers) last unfed own is = absurd is
all_own point (call ∷ calls) [] last unfed own is = absurd is
all_own point (call ∷ calls) (answer ∷ answers) last unfed own is =
    all_own is.0 calls answers last (one_own unfed.0 call answer is.0 unfed.2 own.0 (subst (λ (p : Point). Answers Client p call answer is.0) unfed.1 is.1)) own.1 is.2

-- ---- the server: no event is a fault

abbrev IsFine : Told → Type 0
IsFine (Told.Fault fault) = ⊥
IsFine other = Unit {0}

both : (front behind : List Told) → AllByRecursion IsFine front → AllByRecursion IsFine behind → AllByRecursion IsFine (front ++ behind)
both [] behind some more = more
both (t ∷ front) behind some more = (some.0, both front behind some.1 more)

behind_is : (front behind : List Told) → AllByRecursion IsFine (front ++ behind) → AllByRecursion IsFine behind
behind_is [] behind all = all
behind_is (t ∷ front) behind all = behind_is front behind all.1

fine_when : (b : Bool) (t : Told) → IsFine t → AllByRecursion IsFine (when b t)
fine_when true t fine = (fine, tt)
fine_when false t fine = tt

fine_tail : (h : Header) (over : Bool) → AllByRecursion IsFine (tail_told h over)
fine_tail h over = by (rst h) (fin h && not over)
  where
    by : (reset ends : Bool) → AllByRecursion IsFine (cond reset (Told.Reset h.stream ∷ []) (when ends (Told.Ended h.stream)))
    by true ends = (tt, tt)
    by false ends = fine_when ends (Told.Ended h.stream) tt

fine_at_tail : (past : List Item) (read : Option Header) → AllByRecursion IsFine (tail_events Server past read)
fine_at_tail past None = tt
fine_at_tail past (Some h) = by (is_live Server past h.stream)
  where
    by : (live : Bool) → AllByRecursion IsFine (cond live (tail_told h (finished Server past h.stream)) [])
    by true = fine_tail h (finished Server past h.stream)
    by false = tt

fine_byte : (taken_by : Option ℕ) (b : ℕ) → AllByRecursion IsFine (byte_told taken_by b)
fine_byte None b = tt
fine_byte (Some n) b = (tt, tt)

fine_head : (leaves begins accepts gives : Bool) (code n : ℕ)
    → AllByRecursion IsFine (when leaves (Told.GoAway code) ++ when begins (Told.Opened n) ++ when accepts (Told.Accepted n) ++ when gives (Told.Credit n))
fine_head leaves begins accepts gives code n =
    both (when leaves (Told.GoAway code) ++ when begins (Told.Opened n) ++ when accepts (Told.Accepted n)) (when gives (Told.Credit n))
    (both (when leaves (Told.GoAway code) ++ when begins (Told.Opened n)) (when accepts (Told.Accepted n))
    (both (when leaves (Told.GoAway code)) (when begins (Told.Opened n)) (fine_when leaves (Told.GoAway code) tt) (fine_when begins (Told.Opened n) tt)) (fine_when accepts (Told.Accepted n) tt))
    (fine_when gives (Told.Credit n) tt)

fine_item : (past : List Item) (x : Item) → AllByRecursion IsFine (item_events Server past x)
fine_item past (Came (Head h)) =
    fine_head (is_go_away h.kind) (opens Server past (Came (Head h)) h.stream)
    (head_belongs Server past h h.stream && ack h && is_own Server h.stream && not (accepted Server past h.stream))
    (head_belongs Server past h h.stream && is_update h.kind && nat_lt 0 h.length) h.length h.stream
fine_item past (Came (Byte b)) = fine_byte (taker Server past (reading Server past)) b
fine_item past (Came Tail) = fine_at_tail past (reading Server past)
fine_item past (Came (Garbled bytes)) = tt
fine_item past (Did did) = tt

fine : (past : List Item) → HasNoFault Server past → AllByRecursion IsFine (events Server past)
fine [] none = tt
fine (x ∷ past) none =
    both (events Server past) (events_at Server past x) (fine past none.1)
    (subst (λ (f : Option Fault). AllByRecursion IsFine (events_unless f (item_events Server past x))) (sym none.0) (fine_item past x))

none_told : (told : List Event) → AllByRecursion IsFine (tellings told) → AllByRecursion IsNoFault told
none_told [] all = tt
none_told (event.Opened n ∷ told) all = (tt, none_told told all.1)
none_told (event.Accepted n ∷ told) all = (tt, none_told told all.1)
none_told (event.Payload n bytes ∷ told) all = (tt, none_told told (behind_is (map (Told.Payload n) bytes) (tellings told) all))
none_told (event.Ended n ∷ told) all = (tt, none_told told all.1)
none_told (event.Reset n ∷ told) all = (tt, none_told told all.1)
none_told (event.Credit n ∷ told) all = (tt, none_told told all.1)
none_told (event.GoAway code ∷ told) all = (tt, none_told told all.1)
none_told (event.Fault fault ∷ told) all = absurd all.0

-- ---- the server: it reads all that the client sent

are_arrivals : (came : List Arrival) → arrivals (map Came came) ≡ came
are_arrivals [] = refl
are_arrivals (x ∷ came) = ap (λ (t : List Arrival). x ∷ t) (are_arrivals came)

taken_are : (n : ℕ) (bytes : List ℕ) → AllByRecursion (λ b. b < 256) bytes → AllByRecursion (λ b. b < 256) (take n bytes)
taken_are zero bytes are = tt
taken_are (suc n) [] are = tt
taken_are (suc n) (b ∷ bytes) are = (are.0, taken_are n bytes are.1)

-- bytes that end with a fault are read, the end of its frame among them where it has no payload
reads_fault : (bytes : List ℕ) (now : List Item) → FirstFaults Server now → EndsWith bytes (arrivals now) → (way : List Arrival) × Reads bytes (way ++ arrivals now) []
reads_fault bytes [] faulty ends = absurd faulty
reads_fault bytes (Did did ∷ past) faulty ends = absurd (let e = faulty.0.1 in cc e)
reads_fault bytes (Came (Byte b) ∷ past) faulty ends = absurd (let e = faulty.0.1 in cc e)
reads_fault bytes (Came Tail ∷ past) faulty ends = absurd (let e = faulty.0.1 in cc e)
reads_fault bytes (Came (Garbled garbled) ∷ past) faulty ends =
    ([], record { whole = ends.whole ∙ sym (append-nil (spelled (Garbled garbled ∷ arrivals past))); frames_are = ends.frames_are; rest_is = tt })
reads_fault bytes (Came (Head h) ∷ past) faulty ends = by (payload_length h) refl
  where
    whole : bytes ≡ spelled (Head h ∷ arrivals past) ++ []
    whole = ends.whole ∙ sym (append-nil (spelled (Head h ∷ arrivals past)))

    by : (n : ℕ) → payload_length h ≡ n → (way : List Arrival) × Reads bytes (way ++ Head h ∷ arrivals past) []
    by zero e = (Tail ∷ [], record { whole = whole ∙ sym (append-nil (spelled (Head h ∷ arrivals past) ++ [])); frames_are = (tt, e, ends.frames_are); rest_is = omega arith })
    by (suc n) e = ([], record { whole = whole; frames_are = ends.frames_are; rest_is = (subst (λ (t : ℕ). 0 < t) (sym e) (omega arith), refl) })

earlier : (way more : List Arrival) → HasNoFault Server (map Came (way ++ more)) → HasNoFault Server (map Came more)
earlier [] more none = none
earlier (x ∷ way) more none = earlier way more none.1

no_first : (now : List Item) → HasNoFault Server now → FirstFaults Server now → ⊥
no_first [] none faulty = faulty
no_first (x ∷ past) none faulty = let e = none.0 in let f = faulty.0.1 in cc

-- ---- what is heard

module _ (answered : JoinedAreAnswered) (safe : NoFault) (whole : NothingIsLost) (to_the_end : AllBeforeTheEnd) (one : OneReading) (joined_data : ReceivedData) (on : BothGoOn) where
  -- the other end, once it was fed a first part of the output
  fed_on : (past : List Item) (bytes : List ℕ) → AllByRecursion (λ b. b < 256) bytes → Joined (end past []) at_first → IsPrefix bytes (output Client past)
      → (came : List Arrival) × Joined (end past []) (end (map Came came) bytes)
  fed_on past bytes are joined sent =
      let goes = (on (end past []) at_first joined).1.fed bytes are sent in (
        goes.2.0,
        subst (λ (fed : List ℕ). Joined (end past []) (end (map Came goes.2.0) fed)) goes.1
            (subst (λ (items : List Item). Joined (end past []) (end items goes.0.fed)) (goes.2.1 ∙ append-nil (map Came goes.2.0)) goes.3),
      )

  -- arrivals that the bytes are read as are those of the end that is joined
  are_those : (past : List Item) (bytes : List ℕ) (came more : List Arrival) (rest : List ℕ) → Joined (end past []) (end (map Came came) bytes) → Reads bytes more rest → more ≡ came
  are_those past bytes came more rest joined read =
      let other = (both_read (end past []) (end (map Came came) bytes) joined).1 in
      (one bytes more (arrivals (map Came came)) rest other.0 read other.1).0 ∙ are_arrivals came

  -- a session that reads them has come to the same history: a first fault there would be one of a joined end
  same : (past : List Item) (bytes : List ℕ) (came more : List Arrival) (next : Point) → AllByRecursion (λ b. b < 256) bytes → Joined (end past []) at_first → bytes ≡ output Client past
      → Joined (end past []) (end (map Came came) bytes) → GoesOn Server [] bytes (map Came more) next ⊎ Ends Server [] bytes (map Came more) next → more ≡ came
  same past bytes came more next are unfed is joined (inl goes) =
      are_those past bytes came more goes.read.0 joined (subst (λ (t : List Arrival). Reads bytes t goes.read.0) (are_arrivals more) goes.read.1)
  same past bytes came more next are unfed is joined (inr ends) =
      let used : ℕ = ends.read.0 in
      let fault = reads_fault (take used bytes) (map Came more) ends.faulty ends.read.2 in
      let part = fed_on past (take used bytes) (taken_are used bytes are) unfed (drop used bytes, take-append-drop used bytes ∙ is) in
      let those : fault.0 ++ more ≡ part.0 =
      ap (λ (t : List Arrival). fault.0 ++ t) (sym (are_arrivals more)) ∙ are_those past (take used bytes) part.0 (fault.0 ++ arrivals (map Came more)) [] part.1 fault.1 in
      let none : HasNoFault Server (map Came part.0) = (safe (end past []) (end (map Came part.0) (take used bytes)) part.1).1 in
      absurd (no_first (map Came more) (earlier fault.0 more (subst (λ (t : List Arrival). HasNoFault Server (map Came t)) (sym those) none)) ends.faulty)

  hears_all : (past : List Item) (bytes : List ℕ) (told : List Event) (now : List Item) (next : Point) → AllByRecursion (λ b. b < 256) bytes → Joined (end past []) at_first → bytes ≡ output Client past
      → FedOn Server [] [] bytes told now → GoesOn Server [] bytes now next ⊎ Ends Server [] bytes now next → HearsAll past bytes told
  hears_all past bytes told now next are unfed is fed led =
      let goes = fed_on past bytes are unfed ([], append-nil bytes ∙ is) in
      let came : List Arrival = goes.0 in
      let server : End = end (map Came came) bytes in
      let joined : Joined (end past []) server = goes.1 in
      let now_is : now ≡ map Came fed.came.0 = fed.came.1 ∙ append-nil (map Came fed.came.0) in
      let those : fed.came.0 ≡ came =
      same past bytes came fed.came.0 next are unfed is joined (subst (λ (t : List Item). GoesOn Server [] bytes t next ⊎ Ends Server [] bytes t next) now_is led) in
      let told_is : tellings told ≡ events Server (map Came came) = sym fed.told_is ∙ ap (events Server) (now_is ∙ ap (λ (t : List Arrival). map Came t) those) in
      let read = (both_read (end past []) server joined).1 in
      let none : HasNoFault Server (map Came came) = (safe (end past []) server joined).1 in
      let data_is : (n : ℕ) (Fact : List ℕ → Type 0) → Fact (inbound Server (map Came came) n) → IsHeard n (tellings told) Fact =
      λ n Fact fact since at.
      subst Fact
      (sym (joined_data Server (map Came came) n since (answered (end past []) server joined).1 none (subst (λ (t : List Told). AreSinceOpening n t since) told_is at))) fact in
      record {
        arrived = came;
        read = (read.0, subst (λ (t : List Arrival). Reads bytes t read.0) (are_arrivals came) read.1);
        told_is = told_is;
        no_fault = All-from_recursion IsNoFault told (none_told told (subst (AllByRecursion IsFine) (sym told_is) (fine (map Came came) none)));
        heard = λ n. data_is n (λ heard. IsPrefix heard (written Client past n)) ((safe (end past []) server joined).2 n);
        live = λ n live.
            data_is n (λ heard. heard ≡ written Client past n)
            ((whole (end past []) server joined).0 n live (read.0, subst (λ (t : List ℕ). Reads t (arrivals (map Came came)) read.0) is read.1));
        ended = λ n before after ends.
            data_is n (λ heard. heard ≡ written Client past n) ((to_the_end (end past []) server joined).0 n before after (sym told_is ∙ ends));
      }

  one_answer : (past : List Item) (bytes : Vec ℕ) (answer : ActAnswer) (next : Point) → AllByRecursion (λ b. b < 256) bytes.items → Joined (end past []) at_first → bytes.items ≡ output Client past
      → AnswersAt Server [] [] (act.Feed bytes) answer next → HearsOrStops past bytes.items answer
  one_answer past bytes (Events told) next are joined is answer = hears_all past bytes.items told.items answer.0 next are joined is answer.1 answer.2
  one_answer past bytes (Refused why) next are joined is answer = answer.0
  one_answer past bytes (Stream n) next are joined is answer = absurd answer
  one_answer past bytes (Count n) next are joined is answer = absurd answer
  one_answer past bytes Done next are joined is answer = absurd answer

  -- a server that is fed the output of a client
  pub hears_sent : (past : List Item) (bytes : Vec ℕ) (answers : List ActAnswer) (out : List ℕ) → AllByRecursion (λ b. b < 256) bytes.items → Joined (end past []) at_first → bytes.items ≡ output Client past
      → Runs Server (act.Feed bytes ∷ []) answers out → HearsSent past bytes.items answers
  hears_sent past bytes [] out are joined is runs = absurd runs.1
  hears_sent past bytes (answer ∷ []) out are joined is runs = (answer, refl, one_answer past bytes answer runs.1.0 are joined is runs.1.1)
  hears_sent past bytes (answer ∷ more ∷ answers) out are joined is runs = absurd runs.1.2

-- a client that makes such calls, and a server that hears its output
pub hears_run : (calls : List Act) (client server : Ran) (sent : List ℕ) → AllByRecursion IsOwn calls → Runs Client calls client.answers.items client.output.items → sent ≡ client.output.items
    → ((past : List Item) → Joined (end past []) at_first → sent ≡ output Client past → HearsSent past sent server.answers.items)
    → HearsRun calls client server
hears_run calls client server sent own runs is hears =
    let last = all_own (At [] []) calls client.answers.items runs.0 ([], refl, Begin) own runs.1 in
    let output_is : client.output.items ≡ output Client last.0 = runs.2 ∙ ap (output_at_point Client) last.1 in
    record {
      past = last.0;
      calls = subst (λ (p : Point). AnswersAll Client (At [] []) calls client.answers.items p) last.1 runs.1;
      sent = output_is;
      heard = subst (λ (t : List ℕ). HearsSent last.0 t server.answers.items) is (hears last.0 last.2 (is ∙ output_is));
    }
