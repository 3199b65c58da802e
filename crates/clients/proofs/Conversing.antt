-- Two sessions that are joined hear what was written.
use Rattle.std.proofs.Common.{◌≡◌, ℕ, suc, ◌<◌, ◌==◌, cond, Bool, true, false, List, [], ◌∷◌, ◌++◌, map, get_or, Some, None, refl, sym, ap, ◌∙◌, subst, arith}
use Rattle.std.specs.List.{AllByRecursion, concat}
use Rattle.std.proofs.lemmas.List.{append-nil, append_cancel_right}
use Rattle.std.proofs.lemmas.Bool.Decides.{nat_tests}
use mathlib.Core.List.{IsPrefix}
use Rattle.yamux_frames.specs.Frames.{Arrival, Reads, OneReading}
use Rattle.yamux_session.specs.declared.event.Role.{Role}
use Rattle.yamux_session.specs.declared.event.Role.TheVariants.{Client, Server}
use Rattle.yamux_session.specs.declared.event.Event.{Event}
use Rattle.yamux_session.specs.declared.event.ActRefused.TheVariants.{NoStream, Ended}
use Rattle.yamux_session.specs.History.{Item, Act, arrivals}
use Rattle.yamux_session.specs.History.Item.{Came, Did}
use Rattle.yamux_session.specs.History.Act.{Start, Write}
use Rattle.yamux_session.specs.Openings.{opens, is_live, closed}
use Rattle.yamux_session.specs.Events.{Told, events}
use Rattle.yamux_session.specs.Data.{inbound, written}
use Rattle.yamux_session.specs.Output.{output}
use Rattle.yamux_session.specs.Acts.{direction_refusal}
use Rattle.yamux_session.specs.Arrives.{tellings}
use Rattle.yamux_session.specs.Received.{AreSinceOpening, ReceivedData}
use Rattle.yamux_session.specs.State.{State, Stands, Adds, AddsWrite, Feeds}
use Rattle.yamux_session.specs.Joined.{End, Joined, IsDone, GoesOn, at_first, BothGoOn, NoFault, NothingIsLost}
use Rattle.yamux_session.specs.Joined.Joined.{Begin, Client_fed, Server_fed, Client_acts, Server_acts}
use Rattle.yamux_session.specs.Tied.{other, AreJoined, IsNext, FeedGoesOn, ActGoesOn}
use Rattle.clients.specs.Sessions.{IsHeard, end, writes, IsJoined, Asks, Hears}

arrivals_on : (came : List Arrival) (past : List Item) → arrivals (map Came came ++ past) ≡ came ++ arrivals past
arrivals_on [] past = refl
arrivals_on (x ∷ came) past = ap (λ (t : List Arrival). x ∷ t) (arrivals_on came past)

-- ---- bytes

pub are_bytes : (bytes : List ℕ) → ((i : ℕ) → get_or bytes i 0 < 256) → AllByRecursion (λ b. b < 256) bytes
are_bytes [] below = tt
are_bytes (b ∷ bytes) below = (below 0, are_bytes bytes (λ i. below (suc i)))

pub all_joined : (front behind : List ℕ) → AllByRecursion (λ b. b < 256) front → AllByRecursion (λ b. b < 256) behind → AllByRecursion (λ b. b < 256) (front ++ behind)
all_joined [] behind some more = more
all_joined (b ∷ front) behind some more = (some.0, all_joined front behind some.1 more)

-- ---- an end has read what it was fed

abbrev pub HasRead : End → Type 0
HasRead here = (rest : List ℕ) × Reads here.fed (arrivals here.items) rest

done_reads : (role : Role) (old new : End) (act : Act) → IsDone role old new act → HasRead old → HasRead new
done_reads role old new act done read =
    (read.0, subst (λ (items : List Item). Reads new.fed (arrivals items) read.0) (sym done.items) (subst (λ (fed : List ℕ). Reads fed (arrivals old.items) read.0) (sym done.fed) read.1))

pub both_read : (client server : End) → Joined client server → HasRead client × HasRead server
both_read _ _ Begin = (([], record { whole = refl; frames_are = tt; rest_is = omega arith }), ([], record { whole = refl; frames_are = tt; rest_is = omega arith }))
both_read _ _ (Client_fed {client} {server} {new} {byte} before fed) = (fed.read, (both_read client server before).1)
both_read _ _ (Server_fed {client} {server} {new} {byte} before fed) = ((both_read client server before).0, fed.read)
both_read _ _ (Client_acts {client} {server} {new} {act} before done) =
    let read = both_read client server before in (done_reads Client client new act done read.0, read.1)
both_read _ _ (Server_acts {client} {server} {new} {act} before done) =
    let read = both_read client server before in (read.0, done_reads Server server new act done read.1)

reads : (role : Role) (here there : End) → AreJoined role here there → HasRead here
reads Client here there joined = (both_read here there joined).0
reads Server here there joined = (both_read there here joined).1

-- ---- what is written

sent_is : (b : Bool) (w : List ℕ) → w ≡ [] → cond b [] w ++ [] ≡ []
sent_is true w none = refl
sent_is false w none = ap (λ (t : List ℕ). t ++ []) none

-- an end that has heard alone has written nothing
pub none_written : (role : Role) (came : List Arrival) (past : List Item) (n : ℕ) → written role past n ≡ [] → written role (map Came came ++ past) n ≡ []
none_written role [] past n none = none
none_written role (x ∷ came) past n none =
    sent_is (opens role (map Came came ++ past) (Came x) n) (written role (map Came came ++ past) n) (none_written role came past n none)

own : (n : ℕ) → (n == n) ≡ true
own n = grind (arith, nat_tests)

pub written_next : (role : Role) (past : List Item) (n : ℕ) (pieces : List (List ℕ)) → written role past n ≡ [] → written role (Did (Write n pieces) ∷ past) n ≡ concat pieces
written_next role past n pieces none = by (n == n) (own n)
  where
    by : (b : Bool) → b ≡ true → written role past n ++ cond b (concat pieces) [] ≡ concat pieces
    by true is = ap (λ (t : List ℕ). t ++ concat pieces) none
    by false is = absurd (cc)

pub started : (role : Role) (n : ℕ) → written role (Did (Start n) ∷ []) n ≡ []
started role n = sent_is (opens role [] (Did (Start n)) n) [] refl

-- what may be written on is live
live_is : (role : Role) (past : List Item) (n : ℕ) → direction_refusal role past n ≡ None → is_live role past n ≡ true
live_is role past n none = by (is_live role past n) (closed role past n) none
  where
    by : (live shut : Bool) → cond live (cond shut (Some Ended) None) (Some NoStream) ≡ None → live ≡ true
    by true shut e = refl
    by false shut e = absurd (cc e)

-- ---- the laws, as the laws' functions give them

module _
    (goes : FeedGoesOn)
    (on : BothGoOn)
    (one : OneReading)
  where
    going : (role : Role) (here there : End) → AreJoined role here there → GoesOn role (other role) here there (λ new. AreJoined role new there)
    going Client here there joined = (on here there joined).0
    going Server here there joined = (on there here joined).1

    -- a session that is fed what the other end has sent
    pub hears : (old new : State) (bytes : List ℕ) (told : List Event) → AllByRecursion (λ b. b < 256) bytes
        → Feeds old bytes told new → Hears old bytes (tellings told) new
    hears old new bytes told bytes_are feeds role here there sent at front =
        let are_bytes = all_joined here.fed bytes at.are_bytes bytes_are in
        let is_next : IsNext role here there bytes sent old = record { joined = at.joined; stands = at.stands; are_bytes = are_bytes; was_sent = front } in
        let led = feeds role here.items here.fed sent at.stands in
        let stands : Stands role led.0 (here.fed ++ bytes) sent new = led.1.goes_on (goes role here there bytes sent old new told is_next feeds).stands.going in
        let next = (going role here there at.joined).fed bytes are_bytes front in
        let came : List Arrival = next.2.0 in
        let more : List Arrival = led.1.came.0 in
        let read = reads role next.0 there next.3 in
        let same : arrivals led.0 ≡ arrivals next.0.items =
        (one (here.fed ++ bytes) (arrivals led.0) (arrivals next.0.items) _ read.0 stands.frames.reads (subst (λ (fed : List ℕ). Reads fed (arrivals next.0.items) read.0) next.1 read.1)).0 in
        let are : more ≡ came =
        append_cancel_right more came (arrivals here.items)
        (sym (arrivals_on more here.items) ∙ sym (ap arrivals led.1.came.1) ∙ same ∙ ap arrivals next.2.1 ∙ arrivals_on came here.items) in
        let now : map Came more ++ here.items ≡ next.0.items = ap (λ (t : List Arrival). map Came t ++ here.items) are ∙ sym next.2.1 in
        record {
          came = more;
          is_joined = record {
            joined = subst (λ (fed : List ℕ). AreJoined role (end (map Came more ++ here.items) fed) there) next.1
                (subst (λ (items : List Item). AreJoined role (end items next.0.fed) there) (sym now) next.3);
            stands = subst (λ (items : List Item). Stands role items (here.fed ++ bytes) sent new) led.1.came.1 stands;
            are_bytes = are_bytes;
          };
          told_is = ap (events role) (sym led.1.came.1) ∙ led.1.told_is;
        }

-- ---- a talk

-- a new client that opens a stream and writes on it
pub asks : ActGoesOn → (n : ℕ) (bytes : List ℕ) (old mid new : State) → Adds old mid (λ role past. Start n) → AddsWrite mid new n bytes
    → Stands Client [] [] [] old → Asks n bytes new
asks acts n bytes old mid new starts wrote stands =
    let one = starts Client [] [] [] stands in
    let two = wrote Client (Did (Start n) ∷ []) [] [] one in
    record {
      pieces = two.0;
      written = two.1;
      is_joined = record {
        joined = acts Client (end (Did (Start n) ∷ []) []) at_first (Write n two.0) [] new (acts Client at_first at_first (Start n) [] mid Begin one) two.2;
        stands = two.2;
        are_bytes = tt;
      };
    }

-- output that is taken
abbrev pub Takes : State → List ℕ → State → Type 0
Takes old out new = (role : Role) (past : List Item) (fed sent : List ℕ) → Stands role past fed sent old → Stands role past fed (sent ++ out) new

-- a session whose output was taken stands as it stood, and all of its output was taken
pub takes : (role : Role) (here there : End) (sent out : List ℕ) (old new : State) → Takes old out new → new.pending ≡ [] → IsJoined role here there sent old
    → IsJoined role here there (sent ++ out) new × (sent ++ out ≡ output role here.items)
takes role here there sent out old new taken none at =
    let stands = taken role here.items here.fed sent at.stands in (
      record { joined = at.joined; stands = stands; are_bytes = at.are_bytes },
      sym (append-nil (sent ++ out)) ∙ ap (λ (t : List ℕ). (sent ++ out) ++ t) (sym none) ∙ stands.output,
    )

-- the other end sees that a session stands there
turned : (role : Role) (here there : End) → AreJoined role here there → AreJoined (other role) there here
turned Client here there joined = joined
turned Server here there joined = joined

pub both_hear : ActGoesOn → NoFault → NothingIsLost → ReceivedData → (n : ℕ) (question answer out front behind between last : List ℕ)
    (c0 c1 c2 c3 s0 s1 s2 s3 s4 s5 : State) (first rest early late : List Told)
    → Asks n question c0 → Takes c0 out c1 → c1.pending ≡ [] → front ++ behind ≡ out
    → Stands Server [] [] [] s0 → Hears s0 front first s1 → Takes s1 between s2 → s2.pending ≡ []
    → Hears s2 behind rest s3 → AddsWrite s3 s4 n answer → Takes s4 last s5 → s5.pending ≡ []
    → Hears c1 between early c2 → Hears c2 last late c3
    → (c3.failed ≡ false) × (s5.failed ≡ false) × IsHeard n (first ++ rest) (λ heard. heard ≡ question) × IsHeard n (early ++ late) (λ heard. IsPrefix heard answer)
both_hear acts safe whole joined_data n question answer out front behind between last c0 c1 c2 c3 s0 s1 s2 s3 s4 s5 first rest early late
    asked taken none parts stands heard taken' none' heard' wrote taken'' none'' heard'' heard''' =
    let client : End = end (writes n asked.pieces) [] in
    let all = takes Client client at_first [] out c0 c1 taken none asked.is_joined in
    let one = heard Server at_first client [] (record { joined = asked.is_joined.joined; stands = stands; are_bytes = tt }) (behind, parts ∙ all.1) in
    let begun : End = end (map Came one.came ++ []) front in
    let some = takes Server begun client [] between s1 s2 taken' none' one.is_joined in
    let two = heard' Server begun client between some.0 ([], append-nil (front ++ behind) ∙ parts ∙ all.1) in
    let items : List Item = map Came two.came ++ begun.items in
    let listened : End = end items (front ++ behind) in
    let write = wrote Server items (front ++ behind) between two.is_joined.stands in
    let server : End = end (Did (Write n write.0) ∷ items) (front ++ behind) in
    let joined : AreJoined Server server client = acts Server listened client (Write n write.0) between s4 two.is_joined.joined write.2 in
    let each = takes Server server client between last s4 s5 taken'' none'' (record { joined = joined; stands = write.2; are_bytes = two.is_joined.are_bytes }) in
    let three = heard'' Client client server out (record { joined = joined; stands = all.0.stands; are_bytes = tt }) (last, each.1) in
    let told : End = end (map Came three.came ++ client.items) between in
    let four = heard''' Client told server out three.is_joined ([], append-nil (between ++ last) ∙ each.1) in
    let end_items : List Item = map Came four.came ++ told.items in
    let told_server : events Server items ≡ first ++ rest = two.told_is ∙ ap (λ (t : List Told). t ++ rest) one.told_is in
    let told_client : events Client end_items ≡ early ++ late = four.told_is ∙ ap (λ (t : List Told). t ++ late) three.told_is in
    let way = two.is_joined.stands.frames.reads in
    let none_before : written Server items n ≡ [] = none_written Server two.came begun.items n (none_written Server one.came [] n refl) in (
      four.is_joined.stands.going,
      each.0.stands.going,
      λ since at.
          joined_data Server items n since two.is_joined.stands.answered two.is_joined.stands.no_fault (subst (λ (t : List Told). AreSinceOpening n t since) (sym told_server) at)
          ∙ (whole client listened two.is_joined.joined).0 n (live_is Server items n write.2.answered.0.0)
          (s3.place.part, subst (λ (t : List ℕ). Reads t (arrivals items) s3.place.part) (parts ∙ all.1) way)
          ∙ written_next Client (Did (Start n) ∷ []) n asked.pieces (started Client n)
          ∙ asked.written,
      λ since at.
          subst (λ (t : List ℕ). IsPrefix t answer)
          (sym (joined_data Client end_items n since four.is_joined.stands.answered four.is_joined.stands.no_fault (subst (λ (t : List Told). AreSinceOpening n t since) (sym told_client) at)))
          (subst (λ (t : List ℕ). IsPrefix (inbound Client end_items n) t) (written_next Server items n write.0 none_before ∙ write.1)
          ((safe (end end_items (between ++ last)) server four.is_joined.joined).3 n)),
    )
