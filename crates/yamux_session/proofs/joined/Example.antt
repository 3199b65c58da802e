-- A history of two joined sessions, worked out.
use Rattle.std.proofs.Common.{◌≡◌, ℕ, ◌<◌, Bool, true, ◌&&◌, nat_lt, List, [], ◌∷◌, ◌++◌, map, refl, sym, ap, ◌∙◌, subst, arith}
use Rattle.std.specs.List.{AllByRecursion}
use Rattle.std.proofs.lemmas.Bool.{ltb-true}
use Rattle.std.proofs.lemmas.List.{append_cancel_right}
use mathlib.Core.List.{IsPrefix}
use Rattle.yamux_frames.specs.declared.header.Header.{Header}
use Rattle.yamux_frames.specs.declared.header.FrameKind.TheVariants.{Payload, Window}
use Rattle.yamux_frames.specs.Spelling.{IsHeader}
use Rattle.yamux_frames.specs.Frames.{Arrival, AreFrames, Reads}
use Rattle.yamux_frames.specs.Frames.Arrival.{Head, Byte, Tail}
use Rattle.yamux_frames.proofs.Readings.{one_reading}
use Rattle.yamux_session.specs.declared.event.Role.TheVariants.{Client, Server}
use Rattle.yamux_session.specs.History.{Item, arrivals}
use Rattle.yamux_session.specs.History.Item.{Came, Did}
use Rattle.yamux_session.specs.History.Act.{Start, Write, Close}
use Rattle.yamux_session.specs.Output.{output}
use Rattle.yamux_session.specs.Joined.{End, Joined, at_first, JoinedRow, EndedRow, SomeJoined}
use Rattle.yamux_session.specs.Joined.Joined.{Begin, Client_acts}
use Rattle.yamux_session.proofs.joined.Sent.{header}
use Rattle.yamux_session.proofs.Lists.{and_parts}
use Rattle.yamux_session.proofs.joined.Going.{both_read, both_go_on}
use Rattle.yamux_session.proofs.Stepping.{arrivals_on}

-- an end that has been fed these bytes has read these frames
same_end : (old new : End) (bytes : List ℕ) (came : List Arrival) (rest more : List ℕ) (some : List Arrival) → new.fed ≡ old.fed ++ bytes → new.items ≡ map Came some ++ old.items
    → Reads new.fed (arrivals new.items) more → Reads (old.fed ++ bytes) (came ++ arrivals old.items) rest → new ≡ record { items = map Came came ++ old.items; fed = old.fed ++ bytes }
same_end old new bytes came rest more some fed items read worked =
    let reading = one_reading (old.fed ++ bytes) (arrivals new.items) (came ++ arrivals old.items) more rest (subst (λ (t : List ℕ). Reads t (arrivals new.items) more) fed read) worked in
    let same : some ≡ came = append_cancel_right some came (arrivals old.items) (sym (arrivals_on some old.items) ∙ sym (ap arrivals items) ∙ reading.0) in
    ap (λ (t : List Item). record { items = t; fed = new.fed }) (items ∙ ap (λ (t : List Arrival). map Came t ++ old.items) same)
    ∙ ap (λ (t : List ℕ). record { items = map Came came ++ old.items; fed = t }) fed

-- so many bytes bring the server these frames, and the client
server_reads : (client server : End) (bytes : List ℕ) (came : List Arrival) (rest : List ℕ) → Joined client server → AllByRecursion (λ b. b < 256) (server.fed ++ bytes)
    → IsPrefix (server.fed ++ bytes) (output Client client.items) → Reads (server.fed ++ bytes) (came ++ arrivals server.items) rest
    → Joined client (record { items = map Came came ++ server.items; fed = server.fed ++ bytes })
server_reads client server bytes came rest joined are_bytes prefix worked =
    let new = (both_go_on client server joined).1.fed bytes are_bytes prefix in
    let read = (both_read client new.0 new.3).1 in
    subst (Joined client) (same_end server new.0 bytes came rest read.0 new.2.0 new.1 new.2.1 read.1 worked) new.3

client_reads : (client server : End) (bytes : List ℕ) (came : List Arrival) (rest : List ℕ) → Joined client server → AllByRecursion (λ b. b < 256) (client.fed ++ bytes)
    → IsPrefix (client.fed ++ bytes) (output Server server.items) → Reads (client.fed ++ bytes) (came ++ arrivals client.items) rest
    → Joined (record { items = map Came came ++ client.items; fed = client.fed ++ bytes }) server
client_reads client server bytes came rest joined are_bytes prefix worked =
    let new = (both_go_on client server joined).0.fed bytes are_bytes prefix in
    let read = (both_read new.0 server new.3).0 in
    subst (λ (end : End). Joined end server) (same_end client new.0 bytes came rest read.0 new.2.0 new.1 new.2.1 read.1 worked) new.3

abbrev all_below : List ℕ → Bool
all_below [] = true
all_below (b ∷ bytes) = nat_lt b 256 && all_below bytes

are_bytes : (bytes : List ℕ) → all_below bytes ≡ true → AllByRecursion (λ b. b < 256) bytes
are_bytes [] is = tt
are_bytes (b ∷ bytes) is = let parts = and_parts (nat_lt b 256) (all_below bytes) is in (ltb-true b 256 parts.0, are_bytes bytes parts.1)

fits : (h : Header) → h.flags < 65536 → h.stream < 4294967296 → h.length < 4294967296 → IsHeader h
fits h flags stream len = record { flags = flags; stream = stream; length = len }

-- the bytes of the client's opening, of the server's answer, and of what the client writes up to its first byte
abbrev opening : List ℕ
opening = 0 ∷ 1 ∷ 0 ∷ 1 ∷ 0 ∷ 0 ∷ 0 ∷ 1 ∷ 0 ∷ 0 ∷ 0 ∷ 0 ∷ []

abbrev answer : List ℕ
answer = 0 ∷ 1 ∷ 0 ∷ 2 ∷ 0 ∷ 0 ∷ 0 ∷ 1 ∷ 0 ∷ 0 ∷ 0 ∷ 0 ∷ []

abbrev one_byte : List ℕ
one_byte = 0 ∷ 0 ∷ 0 ∷ 0 ∷ 0 ∷ 0 ∷ 0 ∷ 1 ∷ 0 ∷ 0 ∷ 0 ∷ 2 ∷ 7 ∷ []

abbrev opened : List Arrival
opened = Tail ∷ Head (header Window 1 1 0) ∷ []

abbrev accepted : List Arrival
accepted = Tail ∷ Head (header Window 2 1 0) ∷ []

abbrev half : List Arrival
half = Byte 7 ∷ Head (header Payload 0 1 2) ∷ []

opened_frames : AreFrames opened
opened_frames = (tt, refl, (tt, fits (header Window 1 1 0) (omega arith) (omega arith) (omega arith), tt))

accepted_frames : AreFrames accepted
accepted_frames = (tt, refl, (tt, fits (header Window 2 1 0) (omega arith) (omega arith) (omega arith), tt))

half_frames : AreFrames (half ++ opened)
half_frames = (omega arith, (tt, fits (header Payload 0 1 2) (omega arith) (omega arith) (omega arith), opened_frames))

-- what the client still has sent, up to the end of its second frame, and its FIN
abbrev second : List Arrival
second = Tail ∷ Byte 9 ∷ Head (header Payload 0 1 1) ∷ Tail ∷ Byte 8 ∷ []

abbrev last : List Arrival
last = Tail ∷ Head (header Window 4 1 0) ∷ second

abbrev last_bytes : List ℕ
last_bytes = 8 ∷ 0 ∷ 0 ∷ 0 ∷ 0 ∷ 0 ∷ 0 ∷ 0 ∷ 1 ∷ 0 ∷ 0 ∷ 0 ∷ 1 ∷ 9 ∷ 0 ∷ 1 ∷ 0 ∷ 4 ∷ 0 ∷ 0 ∷ 0 ∷ 1 ∷ 0 ∷ 0 ∷ 0 ∷ 0 ∷ []

second_frames : AreFrames (second ++ half ++ opened)
second_frames = (tt, refl, (omega arith, (tt, fits (header Payload 0 1 1) (omega arith) (omega arith) (omega arith), (tt, refl, (omega arith, half_frames)))))

last_frames : AreFrames (last ++ half ++ opened)
last_frames = (tt, refl, (tt, fits (header Window 4 1 0) (omega arith) (omega arith) (omega arith), second_frames))

started : End
started = record { items = Did (Start 1) ∷ []; fed = [] }

opened_here : End
opened_here = record { items = map Came opened; fed = opening }

started_here : End
started_here = record { items = map Came accepted ++ Did (Start 1) ∷ []; fed = answer }

wrote_here : End
wrote_here = record { items = Did (Write 1 ((7 ∷ 8 ∷ []) ∷ (9 ∷ []) ∷ [])) ∷ map Came accepted ++ Did (Start 1) ∷ []; fed = answer }

half_here : End
half_here = record { items = map Came half ++ map Came opened; fed = opening ++ one_byte }

closed_here : End
closed_here = record { items = Did (Close 1) ∷ Did (Write 1 ((7 ∷ 8 ∷ []) ∷ (9 ∷ []) ∷ [])) ∷ map Came accepted ++ Did (Start 1) ∷ []; fed = answer }

all_here : End
all_here = record { items = map Came last ++ (map Came half ++ map Came opened); fed = (opening ++ one_byte) ++ last_bytes }

start_joined : Joined started at_first
unfolding started
start_joined = Client_acts Begin (record { answered = (refl, refl); items = refl; fed = refl })

opened_joined : Joined started opened_here
unfolding started opened_here
opened_joined = server_reads started at_first opening opened [] start_joined (are_bytes opening refl) ([], refl) (record { whole = refl; frames_are = opened_frames; rest_is = omega arith })

accepted_joined : Joined started_here opened_here
unfolding started started_here opened_here
accepted_joined = client_reads started opened_here answer accepted [] opened_joined (are_bytes answer refl) ([], refl) (record { whole = refl; frames_are = accepted_frames; rest_is = omega arith })

written_joined : Joined wrote_here opened_here
unfolding started_here wrote_here
written_joined = Client_acts accepted_joined (record { answered = (refl, ((omega arith, omega arith), ((omega arith, omega arith), tt)), omega arith); items = refl; fed = refl })

half_joined : Joined wrote_here half_here
unfolding opened_here wrote_here half_here
half_joined = server_reads wrote_here opened_here one_byte half [] written_joined (are_bytes (opening ++ one_byte) refl)
    (8 ∷ 0 ∷ 0 ∷ 0 ∷ 0 ∷ 0 ∷ 0 ∷ 0 ∷ 1 ∷ 0 ∷ 0 ∷ 0 ∷ 1 ∷ 9 ∷ [], refl) (record { whole = refl; frames_are = half_frames; rest_is = (omega arith, refl) })

closed_joined : Joined closed_here half_here
unfolding wrote_here closed_here
closed_joined = Client_acts half_joined (record { answered = refl; items = refl; fed = refl })

all_joined : Joined closed_here all_here
unfolding half_here closed_here all_here
all_joined = server_reads closed_here half_here last_bytes last [] closed_joined (are_bytes ((opening ++ one_byte) ++ last_bytes) refl) ([], refl) (record { whole = refl; frames_are = last_frames; rest_is = omega arith })

joined_row : JoinedRow wrote_here half_here
unfolding wrote_here half_here
joined_row = record {
  joined = half_joined;
  client_told = refl;
  server_told = refl;
  wrote = refl;
  arrived = refl;
  way = ([], record { whole = refl; frames_are = second_frames; rest_is = omega arith });
  way_back = ([], record { whole = refl; frames_are = accepted_frames; rest_is = omega arith });
  windows = (refl, refl);
  windows_back = (refl, refl);
}

ended_row : EndedRow closed_here all_here
unfolding closed_here all_here
ended_row = record { joined = all_joined; server_told = refl; wrote = refl; arrived = refl; way = ([], record { whole = refl; frames_are = last_frames; rest_is = omega arith }) }

pub some_joined : SomeJoined
some_joined = ((wrote_here, half_here, joined_row), (closed_here, all_here, ended_row))
