-- Two sessions that are joined, of which one may run out of memory.
use Rattle.std.proofs.Common.{◌≡◌, ℕ, ◌<◌, cond, Bool, true, false, List, [], ◌∷◌, ◌++◌, map, refl, sym, ap, ◌∙◌, subst}
use Rattle.std.specs.List.{AllByRecursion}
use Rattle.std.proofs.lemmas.List.{append-nil, append_assoc}
use mathlib.Core.List.{IsPrefix}
use Rattle.yamux_frames.specs.Frames.{Arrival}
use Rattle.yamux_session.specs.declared.event.Role.{Role}
use Rattle.yamux_session.specs.declared.event.Role.TheVariants.{Client, Server}
use Rattle.yamux_session.specs.declared.event.Event.{Event}
use Rattle.yamux_session.specs.History.{Item}
use Rattle.yamux_session.specs.History.Item.{Came, Did}
use Rattle.yamux_session.specs.History.Act.{Start, Write}
use Rattle.yamux_session.specs.Openings.{opens}
use Rattle.yamux_session.specs.Data.{inbound, written}
use Rattle.yamux_session.specs.Received.{AreSinceOpening, ReceivedData}
use Rattle.yamux_session.specs.Events.{Told}
use Rattle.yamux_session.specs.State.{State, Stands, AddsWrite, Feeds, RunsOut}
use Rattle.yamux_session.specs.Joined.{End, at_first, NoFault}
use Rattle.yamux_session.specs.Tied.{AreJoined, IsNext, FeedGoesOn, ActGoesOn, WantOfMemoryStops}
use Rattle.clients.specs.Sessions.{end, writes, IsHeard, Asks, Hears, Stops}
use Rattle.clients.proofs.Conversing.{Takes, all_joined, none_written, written_next, started, takes}

-- a feed that is answered leaves more than one that runs out of memory
pub fed_stops : FeedGoesOn → (old new : State) (bytes : List ℕ) (told : List Event) → AllByRecursion (λ b. b < 256) bytes → Feeds old bytes told new → Stops old bytes new
fed_stops goes old new bytes told are feeds role here there sent at front =
    let next : IsNext role here there bytes sent old = record { joined = at.joined; stands = at.stands; are_bytes = all_joined here.fed bytes at.are_bytes are; was_sent = front } in
    let behind = goes role here there bytes sent old new told next feeds in
    record { next = behind.next; joined = behind.joined; came = behind.came; fed = ([], append-nil behind.next.fed ∙ behind.fed); output_is = behind.stands.output }

pub out_stops : WantOfMemoryStops → (old new : State) (bytes : List ℕ) → AllByRecursion (λ b. b < 256) bytes → RunsOut old bytes new → Stops old bytes new
out_stops memory old new bytes are runs role here there sent at front =
    memory role here there bytes sent old new (record { joined = at.joined; stands = at.stands; are_bytes = all_joined here.fed bytes at.are_bytes are; was_sent = front }) runs

-- what an end has written on a stream doesn't grow by what it hears
heard_writes : (role : Role) (came : List Arrival) (past : List Item) (n : ℕ) → IsPrefix (written role (map Came came ++ past) n) (written role past n)
heard_writes role [] past n = ([], append-nil (written role past n))
heard_writes role (x ∷ came) past n =
    by (opens role (map Came came ++ past) (Came x) n) (written role (map Came came ++ past) n) (heard_writes role came past n)
  where
    by : (b : Bool) (w : List ℕ) → IsPrefix w (written role past n) → IsPrefix (cond b [] w ++ []) (written role past n)
    by true w before = (written role past n, refl)
    by false w before = (before.0, ap (λ (t : List ℕ). t ++ before.0) (append-nil w) ∙ before.1)

prefix_of_prefix : (a b c : List ℕ) → IsPrefix a b → IsPrefix b c → IsPrefix a c
prefix_of_prefix a b c one other =
    (one.0 ++ other.0, sym (append_assoc a one.0 other.0) ∙ ap (λ (t : List ℕ). t ++ other.0) one.1 ∙ other.1)

pub converse_out_of_memory : ActGoesOn → NoFault → ReceivedData → (n : ℕ) (question let_in out front behind sent : List ℕ) (c0 c1 c2 s0 s1 s2 s3 : State) (first heard : List Told)
    → Asks n question c0 → Takes c0 out c1 → c1.pending ≡ [] → front ++ behind ≡ out
    → Stands Server [] [] [] s0 → Hears s0 front first s1 → AddsWrite s1 s2 n let_in → (s2.failed ≡ false → Stops s2 behind s3) → sent ≡ s3.pending
    → Hears c1 sent heard c2
    → (c2.failed ≡ false) × IsHeard n first (λ bytes. IsPrefix bytes question) × IsHeard n heard (λ bytes. IsPrefix bytes let_in)
converse_out_of_memory acts safe joined_data n question let_in out front behind sent c0 c1 c2 s0 s1 s2 s3 first heard asked taken none parts stands hears wrote stops sent_is hears_last =
    let client : End = end (writes n asked.pieces) [] in
    let all = takes Client client at_first [] out c0 c1 taken none asked.is_joined in
    let one = hears Server at_first client [] (record { joined = asked.is_joined.joined; stands = stands; are_bytes = tt }) (behind, parts ∙ all.1) in
    let items : List Item = map Came one.came ++ [] in
    let write = wrote Server items front [] one.is_joined.stands in
    let server : End = end (Did (Write n write.0) ∷ items) front in
    let joined : AreJoined Server server client = acts Server (end items front) client (Write n write.0) [] s2 one.is_joined.joined write.2 in
    let stop = stops write.2.going Server server client [] (record { joined = joined; stands = write.2; are_bytes = one.is_joined.are_bytes })
    ([], append-nil (front ++ behind) ∙ parts ∙ all.1) in
    let last = hears_last Client client stop.next out (record { joined = stop.joined; stands = all.0.stands; are_bytes = tt })
    ([], append-nil sent ∙ sent_is ∙ stop.output_is) in
    let now : List Item = map Came last.came ++ client.items in
    let none_before : written Server items n ≡ [] = none_written Server one.came [] n refl in
    let all_written : written Server server.items n ≡ let_in = written_next Server items n write.0 none_before ∙ write.1 in (
      last.is_joined.stands.going,
      λ since at.
          subst (λ (t : List ℕ). IsPrefix t question)
          (sym (joined_data Server items n since one.is_joined.stands.answered one.is_joined.stands.no_fault (subst (λ (t : List Told). AreSinceOpening n t since) (sym one.told_is) at)))
          (subst (λ (t : List ℕ). IsPrefix (inbound Server items n) t) (written_next Client (Did (Start n) ∷ []) n asked.pieces (started Client n) ∙ asked.written)
          ((safe client (end items front) one.is_joined.joined).2 n)),
      λ since at.
          subst (λ (t : List ℕ). IsPrefix t let_in)
          (sym (joined_data Client now n since last.is_joined.stands.answered last.is_joined.stands.no_fault (subst (λ (t : List Told). AreSinceOpening n t since) (sym last.told_is) at)))
          (prefix_of_prefix (inbound Client now n) (written Server stop.next.items n) let_in ((safe (end now sent) stop.next last.is_joined.joined).3 n)
          (subst (λ (t : List ℕ). IsPrefix t let_in) (ap (λ (t : List Item). written Server t n) (sym stop.came.1))
          (subst (λ (t : List ℕ). IsPrefix (written Server (map Came stop.came.0 ++ server.items) n) t) all_written (heard_writes Server stop.came.0 server.items n)))),
    )
