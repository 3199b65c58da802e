-- A session that is fed what a joined one has sent.
use Rattle.std.proofs.Common.{◌≡◌, ℕ, ◌<◌, inl, Bool, true, false, List, [], ◌∷◌, ◌++◌, map, take, drop, refl, sym, ap, ◌∙◌, subst, append_assoc}
use Rattle.std.specs.List.{AllByRecursion}
use mathlib.Core.List.{IsPrefix}
use Rattle.yamux_frames.specs.Frames.{Arrival}
use Rattle.yamux_frames.proofs.Readings.{all_front}
use Rattle.yamux_session.specs.declared.event.Role.{Role}
use Rattle.yamux_session.specs.declared.event.Role.TheVariants.{Client, Server}
use Rattle.yamux_session.specs.History.{Item}
use Rattle.yamux_session.specs.History.Item.{Came}
use Rattle.yamux_session.specs.Faults.{HasNoFault}
use Rattle.yamux_session.specs.Events.{Told}
use Rattle.yamux_session.specs.Output.{output}
use Rattle.yamux_session.specs.State.{State, Stands, FirstFaults, Led}
use Rattle.yamux_session.specs.Arrives.{tellings}
use Rattle.yamux_session.specs.Joined.{End, GoesOn}
use Rattle.yamux_session.specs.Joined.Joined.{Client_acts, Server_acts}
use Rattle.yamux_session.specs.Tied.{other, AreJoined, GoesOnBehind, FeedGoesOn, ActGoesOn, WantOfMemoryStops}
use Rattle.yamux_session.proofs.joined.Going.{HasRead, both_go_on, both_read}
use Rattle.yamux_session.proofs.joined.Joining.{no_fault}
use Rattle.yamux_session.proofs.OneOutcome.{Shape, shape, one_list, split_at}

-- ---- what holds of the first of two joined ends

going : (role : Role) (here there : End) → AreJoined role here there → GoesOn role (other role) here there (λ new. AreJoined role new there)
going Client here there joined = (both_go_on here there joined).0
going Server here there joined = (both_go_on there here joined).1

good : (role : Role) (here there : End) → AreJoined role here there → HasNoFault role here.items
good Client here there joined = (no_fault here there joined).0
good Server here there joined = (no_fault there here joined).1

read : (role : Role) (here there : End) → AreJoined role here there → HasRead here
read Client here there joined = (both_read here there joined).0
read Server here there joined = (both_read there here joined).1

-- an end that was fed these bytes has the list that they make
joined_shape : (role : Role) (end there : End) (bytes : List ℕ) → AreJoined role end there → end.fed ≡ bytes → Shape role bytes end.items
joined_shape role end there bytes joined fed =
    let was = read role end there joined in
    record { rest = was.0; whole = sym fed ∙ was.1.whole; are = was.1.frames_are; stop = inl (good role end there joined, was.1.rest_is) }

-- two lists that the same bytes made from one are the same
pub same_list : (role : Role) (here next there : End) (now : List Item) (bytes : List ℕ) (more : List Arrival) (came : List Arrival)
    → AreJoined role next there → next.fed ≡ bytes → next.items ≡ map Came came ++ here.items → now ≡ map Came more ++ here.items
    → Shape role bytes now → now ≡ next.items
same_list role here next there now bytes more came joined fed items is one =
    is
    ∙ one_list role bytes here.items more came (subst (Shape role bytes) is one)
    (subst (Shape role bytes) items (joined_shape role next there bytes joined fed))
    ∙ sym items

-- ---- a feed that is answered

not_first : (role : Role) (now : List Item) → HasNoFault role now → FirstFaults role now → ⊥
not_first role [] none fault = fault
not_first role (x ∷ past) none fault = let e = none.0 in let f = fault.0.1 in cc

stands_by : (role : Role) (here next there : End) (now : List Item) (bytes sent : List ℕ) (told : List Told) (new : State) (failed : Bool)
    → new.failed ≡ failed → AreJoined role next there → next.fed ≡ here.fed ++ bytes
    → ((more : List Arrival) × (next.items ≡ map Came more ++ here.items)) → now ≡ next.items
    → Led role here.items now here.fed bytes sent told new → GoesOnBehind role here there bytes sent new
stands_by role here next there now bytes sent told new true failed joined fed came same led =
    absurd (not_first role now (subst (HasNoFault role) (sym same) (good role next there joined)) (led.fails failed).0)
stands_by role here next there now bytes sent told new false goes joined fed came same led = record {
  next = next;
  joined = joined;
  came = came;
  fed = fed;
  stands = subst (λ (bytes : List ℕ). Stands role next.items bytes sent new) (sym fed)
      (subst (λ (items : List Item). Stands role items (here.fed ++ bytes) sent new) same (led.goes_on goes));
}

pub feed_goes_on : FeedGoesOn
feed_goes_on role here there bytes sent old new told at feeds =
    let led = feeds role here.items here.fed sent at.stands in
    let go = (going role here there at.joined).fed bytes at.are_bytes at.was_sent in
    let made = shape role here.items led.0 here.fed bytes sent (tellings told) new new.failed refl led.1 in
    stands_by role here go.0 there led.0 bytes sent (tellings told) new new.failed refl go.3 go.1 go.2
    (same_list role here go.0 there led.0 (here.fed ++ bytes) led.1.came.0 go.2.0 go.3 go.1 go.2.1 led.1.came.1 made) led.1

-- ---- an act

pub act_goes_on : ActGoesOn
act_goes_on Client here there act sent new joined stands = Client_acts joined (record { answered = stands.answered.0; items = refl; fed = refl })
act_goes_on Server here there act sent new joined stands = Server_acts joined (record { answered = stands.answered.0; items = refl; fed = refl })

-- ---- a feed that runs out of memory

pub want_of_memory_stops : WantOfMemoryStops
want_of_memory_stops role here there bytes sent old new at runs =
    let out = runs role here.items here.fed sent at.stands in
    let prefix : List ℕ = take out.0 bytes in
    let behind : List ℕ = drop out.0 bytes in
    let whole : (here.fed ++ prefix) ++ behind ≡ here.fed ++ bytes =
    append_assoc here.fed prefix behind ∙ ap (λ (t : List ℕ). here.fed ++ t) (sym (split_at out.0 bytes)) in
    let are_bytes = all_front (here.fed ++ prefix) behind (subst (AllByRecursion (λ k. k < 256)) (sym whole) at.are_bytes) in
    let was_sent : IsPrefix (here.fed ++ prefix) (output (other role) there.items) =
    (behind ++ at.was_sent.0, sym (append_assoc (here.fed ++ prefix) behind at.was_sent.0) ∙ ap (λ (t : List ℕ). t ++ at.was_sent.0) whole ∙ at.was_sent.1) in
    let go = (going role here there at.joined).fed prefix are_bytes was_sent in
    let come = out.3 in
    let made : Shape role (here.fed ++ prefix) out.2 = record {
      rest = come.read.0;
      whole = come.read.1.whole;
      are = come.read.1.frames_are;
      stop = inl (come.no_fault, come.read.1.rest_is);
    } in
    let same = same_list role here go.0 there out.2 (here.fed ++ prefix) come.came.0 go.2.0 go.3 go.1 go.2.1 come.came.1 made in
    record {
      next = go.0;
      joined = go.3;
      came = go.2;
      fed = (behind, ap (λ (t : List ℕ). t ++ behind) go.1 ∙ whole);
      output_is = come.output ∙ ap (output role) same;
    }
