-- Two joined sessions go on: what was sent can be fed, whatever was fed already.
use Rattle.std.proofs.Common.{◌≡◌, ℕ, ◌<◌, inl, inr, List, [], ◌∷◌, ◌++◌, map, refl, sym, ap, ◌∙◌, subst, append_assoc, arith}
use Rattle.std.specs.List.{AllByRecursion}
use Rattle.std.proofs.lemmas.List.{append-nil, map-append}
use mathlib.Core.List.{IsPrefix}
use Rattle.yamux_frames.specs.Frames.{Arrival, spelled, AreFrames, Reads}
use Rattle.yamux_frames.proofs.Readings.{all_front, both, ends, some_reading}
use Rattle.yamux_session.specs.declared.event.Role.{Role}
use Rattle.yamux_session.specs.declared.event.Role.TheVariants.{Client, Server}
use Rattle.yamux_session.specs.History.{Item, Act, arrivals}
use Rattle.yamux_session.specs.History.Item.{Came, Did}
use Rattle.yamux_session.specs.Acts.{IsAnswered}
use Rattle.yamux_session.specs.Output.{output}
use Rattle.yamux_session.specs.Joined.{End, IsFed, IsDone, Joined, BothGoOn}
use Rattle.yamux_session.specs.Joined.Joined.{Begin, Client_fed, Server_fed, Client_acts, Server_acts}
use Rattle.yamux_session.proofs.joined.Joining.{linked, turned, on_its_way}
use Rattle.yamux_session.proofs.Stepping.{arrivals_on}

-- an end has read all that it was fed
abbrev pub HasRead : End → Type 0
HasRead end = (rest : List ℕ) × Reads end.fed (arrivals end.items) rest

done_reads : (role : Role) (old new : End) (act : Act) → IsDone role old new act → HasRead old → HasRead new
done_reads role old new act done read =
    (read.0, subst (λ (xs : List Item). Reads new.fed (arrivals xs) read.0) (sym done.items) (subst (λ (bytes : List ℕ). Reads bytes (arrivals old.items) read.0) (sym done.fed) read.1))

pub both_read : (client server : End) → Joined client server → HasRead client × HasRead server
both_read client server Begin = (([], record { whole = refl; frames_are = tt; rest_is = omega arith }), ([], record { whole = refl; frames_are = tt; rest_is = omega arith }))
both_read _ _ (Client_fed {client} {server} {new} {byte} before fed) = (fed.read, (both_read client server before).1)
both_read _ _ (Server_fed {client} {server} {new} {byte} before fed) = ((both_read client server before).0, fed.read)
both_read _ _ (Client_acts {client} {server} {new} {act} before done) =
    let read = both_read client server before in (done_reads Client client new act done read.0, read.1)
both_read _ _ (Server_acts {client} {server} {new} {act} before done) =
    let read = both_read client server before in (read.0, done_reads Server server new act done read.1)

-- each byte that was sent can be fed
fed_next : (role other : Role) (old from : End) (b : ℕ) → HasRead old → AllByRecursion (λ k. k < 256) (old.fed ++ b ∷ []) → IsPrefix (old.fed ++ b ∷ []) (output other from.items)
    → (new : End) × IsFed role other old new from b
fed_next role other old from b read are_bytes prefix =
    let bytes : List ℕ = old.fed ++ b ∷ [] in
    let before : List Arrival = arrivals old.items in
    let rest : List ℕ = read.0 ++ b ∷ [] in
    let now = some_reading bytes are_bytes in
    let same : spelled before ++ rest ≡ spelled now.0 ++ now.1 =
    sym (append_assoc (spelled before) read.0 (b ∷ [])) ∙ ap (λ (t : List ℕ). t ++ b ∷ []) (sym read.1.whole) ∙ now.2.whole in
    elim (both before now.0 rest now.1 read.1.frames_are now.2.frames_are same) [
      | inl longer ↦
          let came : List Arrival = longer.0 in (
            record { items = map Came came ++ old.items; fed = bytes },
            record {
              fed = refl;
              sent = prefix;
              came = (came, refl);
              read = (now.1, subst (λ (xs : List Arrival). Reads bytes xs now.1) (longer.1 ∙ sym (arrivals_on came old.items)) now.2);
            },
          )
      | inr shorter ↦
          let none : shorter.0 ≡ [] =
          ends now.0 now.1 rest shorter.0 now.2.rest_is (subst AreFrames shorter.1 read.1.frames_are) (sym same ∙ ap (λ (xs : List Arrival). spelled xs ++ rest) shorter.1) in (
            record { items = old.items; fed = bytes },
            record {
              fed = refl;
              sent = prefix;
              came = ([], refl);
              read = (now.1, subst (λ (xs : List Arrival). Reads bytes xs now.1) (sym (shorter.1 ∙ ap (λ (xs : List Arrival). xs ++ now.0) none)) now.2);
            },
          )
    ]

-- what an end is fed next, one byte after another
abbrev Feeds : Role → Role → End → (End → Type 0) → End → List ℕ → Type 0
Feeds role other from IsNext old bytes =
    (new : End) × (new.fed ≡ old.fed ++ bytes) × ((came : List Arrival) × (new.items ≡ map Came came ++ old.items)) × IsNext new

module _ (role other : Role) (from : End) (IsNext : End → Type 0) (reads : (end : End) → IsNext end → HasRead end) (step : (old new : End) (b : ℕ) → IsNext old → IsFed role other old new from b → IsNext new) where
  feeds : (bytes : List ℕ) (old : End) → IsNext old → AllByRecursion (λ k. k < 256) (old.fed ++ bytes) → IsPrefix (old.fed ++ bytes) (output other from.items) → Feeds role other from IsNext old bytes
  feeds [] old joined are_bytes prefix = (old, sym (append-nil old.fed), ([], refl), joined)
  feeds (b ∷ bytes) old joined are_bytes prefix =
      let split : (old.fed ++ b ∷ []) ++ bytes ≡ old.fed ++ b ∷ bytes = append_assoc old.fed (b ∷ []) bytes in
      let one = fed_next role other old from b (reads old joined) (all_front (old.fed ++ b ∷ []) bytes (subst (AllByRecursion (λ k. k < 256)) (sym split) are_bytes))
      (bytes ++ prefix.0, sym (append_assoc (old.fed ++ b ∷ []) bytes prefix.0) ∙ ap (λ (t : List ℕ). t ++ prefix.0) split ∙ prefix.1) in
      let whole : one.0.fed ++ bytes ≡ old.fed ++ b ∷ bytes = ap (λ (t : List ℕ). t ++ bytes) one.1.fed ∙ split in
      let rest = feeds bytes one.0 (step old one.0 b joined one.1) (subst (AllByRecursion (λ k. k < 256)) (sym whole) are_bytes) (subst (λ (t : List ℕ). IsPrefix t (output other from.items)) (sym whole) prefix) in (
        rest.0,
        rest.1 ∙ whole,
        (
          rest.2.0 ++ one.1.came.0,
          rest.2.1 ∙ ap (λ (t : List Item). map Came rest.2.0 ++ t) one.1.came.1 ∙ sym (append_assoc (map Came rest.2.0) (map Came one.1.came.0) old.items)
              ∙ ap (λ (t : List Item). t ++ old.items) (sym (map-append Came rest.2.0 one.1.came.0)),
        ),
        rest.3,
      )

acts_on : (role : Role) (here : End) (act : Act) → IsAnswered role here.items act → (new : End) × IsDone role here new act
acts_on role here act answered = (record { items = Did act ∷ here.items; fed = here.fed }, record { answered = answered; items = refl; fed = refl })

pub both_go_on : BothGoOn
both_go_on client server joined =
    let l = linked client server joined in (
      record {
        fed = λ bytes. feeds Client Server server (λ end. Joined end server) (λ end next. (both_read end server next).0) (λ old new b before fed. Client_fed before fed) bytes client joined;
        done = λ act answered. let new = acts_on Client client act answered in (new.0, new.1.items, Client_acts joined new.1);
        way = on_its_way Server Client server.items client.items (turned Client Server client.items server.items l);
      },
      record {
        fed = λ bytes. feeds Server Client client (λ end. Joined client end) (λ end next. (both_read client end next).1) (λ old new b before fed. Server_fed before fed) bytes server joined;
        done = λ act answered. let new = acts_on Server server act answered in (new.0, new.1.items, Server_acts joined new.1);
        way = on_its_way Client Server client.items server.items l;
      },
    )
