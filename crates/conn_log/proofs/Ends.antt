-- What arrivals tell of ends: whether the end of a stream was told, and that of a live one it was told where it came.
use Rattle.std.proofs.Common.{◌≡◌, ◌≢◌, ◌⊎◌, inl, inr, ℕ, ◌==◌, ◌||◌, ◌&&◌, not, Bool, true, false, cond, List, [], ◌∷◌, ◌++◌, map, Option, Some, None, refl, sym, ap, ◌∙◌}
use Rattle.std.proofs.Math.Bool.{or_comm}
use Rattle.std.proofs.lemmas.Bool.Decides.{eqb_tells}
use Rattle.yamux_frames.specs.declared.header.Header.{Header}
use Rattle.yamux_frames.specs.Frames.{Arrival}
use Rattle.yamux_frames.specs.Frames.Arrival.{Head, Byte, Tail, Garbled}
use Rattle.yamux_session.specs.declared.event.Role.{Role}
use Rattle.yamux_session.specs.History.{Item, ack, fin, rst, is_own, is_update, is_go_away}
use Rattle.yamux_session.specs.History.Item.{Came, Did}
use Rattle.yamux_session.specs.Openings.{is_live, opens, finished, closed, reading, ends, finishes, tail_ends, tail_finishes, head_belongs}
use Rattle.yamux_session.specs.Windows.{accepted}
use Rattle.yamux_session.specs.Faults.{HasNoFault, fault_at}
use Rattle.yamux_session.specs.Events.{Told, events_at, events_unless, item_events, tail_told, tail_events, taker, byte_told, when}
use Rattle.yamux_session.specs.Endings.{opened_in, OpeningsAreTold}
use Rattle.yamux_session.proofs.Hearing.{live_after}
use Rattle.conn_log.specs.Due.{told_end, end_was_told}
use Rattle.conn_log.specs.Routes.{EndsLast}
use Rattle.conn_log.proofs.Resets.{told_by, FirstOpens, first_front, opens_first}

-- behind a reset no end is told
pub none_ends : (n : ℕ) (told : List Told) → EndsLast true told → told_end n told ≡ false
none_ends n [] last = refl
none_ends n (Told.Opened m ∷ told) last = none_ends n told last
none_ends n (Told.Payload m b ∷ told) last = absurd (let e = last.0 in cc e)
none_ends n (Told.Ended m ∷ told) last = absurd (let e = last.0 in cc e)
none_ends n (Told.Reset m ∷ told) last = none_ends n told last
none_ends n (Told.Accepted m ∷ told) last = none_ends n told last
none_ends n (Told.Credit m ∷ told) last = none_ends n told last.0
none_ends n (Told.GoAway code ∷ told) last = none_ends n told last
none_ends n (Told.Fault fault ∷ told) last = none_ends n told last

pub or_assoc : (a b c : Bool) → a || (b || c) ≡ (a || b) || c
or_assoc true b c = refl
or_assoc false b c = refl

end_append : (n : ℕ) (first later : List Told) → told_end n (first ++ later) ≡ told_end n first || told_end n later
end_append n [] later = refl
end_append n (Told.Ended m ∷ first) later =
    ap (λ b. m == n || b) (end_append n first later) ∙ or_assoc (m == n) (told_end n first) (told_end n later)
end_append n (Told.Opened m ∷ first) later = end_append n first later
end_append n (Told.Payload m b ∷ first) later = end_append n first later
end_append n (Told.Reset m ∷ first) later = end_append n first later
end_append n (Told.Accepted m ∷ first) later = end_append n first later
end_append n (Told.Credit m ∷ first) later = end_append n first later
end_append n (Told.GoAway code ∷ first) later = end_append n first later
end_append n (Told.Fault fault ∷ first) later = end_append n first later

-- ---- by one item

-- a head tells of no end
module _ (n k code : ℕ) where
  none_then : (accepts gives : Bool) → told_end n (when accepts (Told.Accepted k) ++ when gives (Told.Credit k)) ≡ false
  none_then true true = refl
  none_then true false = refl
  none_then false true = refl
  none_then false false = refl

  none_by_head : (goes opened accepts gives : Bool)
      → told_end n (when goes (Told.GoAway code) ++ when opened (Told.Opened k) ++ when accepts (Told.Accepted k) ++ when gives (Told.Credit k)) ≡ false
  none_by_head true true accepts gives = none_then accepts gives
  none_by_head true false accepts gives = none_then accepts gives
  none_by_head false true accepts gives = none_then accepts gives
  none_by_head false false accepts gives = none_then accepts gives

none_by_byte : (n b : ℕ) (taker : Option ℕ) → told_end n (byte_told taker b) ≡ false
none_by_byte n b None = refl
none_by_byte n b (Some m) = refl

by_head : (role : Role) (past : List Item) (h : Header) (n : ℕ) → told_end n (item_events role past (Came (Head h))) ≡ false
by_head role past h n = none_by_head n h.stream h.length (is_go_away h.kind) (opens role past (Came (Head h)) h.stream)
    (head_belongs role past h h.stream && ack h && is_own role h.stream && not (accepted role past h.stream))
    (head_belongs role past h h.stream && is_update h.kind && Rattle.std.specs.Prelude.nat_lt 0 h.length)

-- an item without a fault tells what it gives
unfaulted : (role : Role) (past : List Item) (x : Item) (n : ℕ) → fault_at role past x ≡ None → told_end n (events_at role past x) ≡ told_end n (item_events role past x)
unfaulted role past x n none = ap (λ f. told_end n (events_unless f (item_events role past x))) none

-- what opens a stream tells no end of it
none_by_opening : (role : Role) (past : List Item) (x : Arrival) (n : ℕ) → fault_at role past (Came x) ≡ None → opens role past (Came x) n ≡ true → told_end n (events_at role past (Came x)) ≡ false
none_by_opening role past (Head h) n none opened = unfaulted role past (Came (Head h)) n none ∙ by_head role past h n
none_by_opening role past (Byte b) n none opened = absurd (cc opened)
none_by_opening role past Tail n none opened = absurd (cc opened)
none_by_opening role past (Garbled bytes) n none opened = absurd (cc opened)

-- ---- by what arrives

-- of a stream that isn't opened
pub ends_unopened : (role : Role) (past : List Item) (came : List Arrival) (n : ℕ) → opened_in role past came n ≡ false
    → end_was_told role (map Came came ++ past) n ≡ told_end n (told_by role past came) || end_was_told role past n
ends_unopened role past [] n off = refl
ends_unopened role past (x ∷ came) n off =
    let now = map Came came ++ past in
    let here = events_at role now (Came x) in
    let parts = Rattle.yamux_session.proofs.Lists.or_parts (opens role now (Came x) n) (opened_in role past came n) off in
    ap (λ b. cond b false (told_end n here || end_was_told role now n)) parts.0
    ∙ ap (λ b. told_end n here || b) (ends_unopened role past came n parts.1)
    ∙ or_assoc (told_end n here) (told_end n (told_by role past came)) (end_was_told role past n)
    ∙ ap (λ b. b || end_was_told role past n) (or_comm (told_end n here) (told_end n (told_by role past came)) ∙ sym (end_append n (told_by role past came) here))

-- of one that is
pub ends_opened : OpeningsAreTold → (role : Role) (past : List Item) (came : List Arrival) (n : ℕ) → HasNoFault role (map Came came ++ past) → FirstOpens (told_by role past came)
    → opened_in role past came n ≡ true → end_was_told role (map Came came ++ past) n ≡ told_end n (told_by role past came)
ends_opened openings role past [] n none first on = absurd (cc on)
ends_opened openings role past (x ∷ came) n none first on =
    by_opening (opens role (map Came came ++ past) (Came x) n) (λ before is. ends_opened openings role past came n none.1 before is) refl on where
      now : List Item
      now = map Came came ++ past

      here : List Told
      here = events_at role now (Came x)

      by_opening : (b : Bool) → (FirstOpens (told_by role past came) → opened_in role past came n ≡ true → end_was_told role now n ≡ told_end n (told_by role past came))
          → opens role now (Came x) n ≡ b → b || opened_in role past came n ≡ true
          → cond b false (told_end n here || end_was_told role now n) ≡ told_end n (told_by role past came ++ here)
      by_opening true before is on = sym (ap (λ t. told_end n (t ++ here)) (opens_first openings role past x came none first n is) ∙ none_by_opening role now x n none.0 is)
      by_opening false before is on =
          ap (λ b. told_end n here || b) (before (first_front (told_by role past came) here first) on)
          ∙ or_comm (told_end n here) (told_end n (told_by role past came)) ∙ sym (end_append n (told_by role past came) here)

-- ---- of a live stream

not_both : {b : Bool} → b ≡ true → b ≡ false → ⊥
not_both on off = absurd (let e : true ≡ false = sym on ∙ off in cc e)

-- the tail of another stream's frame
other_tail : (n m : ℕ) → (m == n) ≡ false → (alive is_reset ended : Bool) → told_end n (cond alive (cond is_reset (Told.Reset m ∷ []) (when ended (Told.Ended m))) []) ≡ false
other_tail n m apart true true ended = refl
other_tail n m apart true false true = ap (λ b. b || false) apart
other_tail n m apart true false false = refl
other_tail n m apart false is_reset ended = refl

-- that of its own, which leaves it live
own_tail : (n m : ℕ) → (m == n) ≡ true → (is_reset ends_it closed_it was : Bool) → (m == n) && (is_reset || ends_it && closed_it) ≡ false
    → (m == n) && ends_it || was ≡ told_end n (cond is_reset (Told.Reset m ∷ []) (when (ends_it && not was) (Told.Ended m))) || was
own_tail n m here true ends_it closed_it was stays = absurd (not_both (ap (λ b. b && true) here) stays)
own_tail n m here false true closed_it true stays = ap (λ b. b && true || true) here
own_tail n m here false true closed_it false stays = ap (λ b. b && true || false) here ∙ sym (ap (λ b. (b || false) || false) here)
own_tail n m here false false closed_it was stays = ap (λ b. b && false || was) here

module _ (role : Role) (past : List Item) (n : ℕ) (live : is_live role past n ≡ true) where
  by_tail : (header : Option Header) → tail_ends header (closed role past n) n ≡ false
      → tail_finishes header n || finished role past n ≡ told_end n (tail_events role past header) || finished role past n
  by_tail None stays = refl
  by_tail (Some h) stays = by_number (eqb_tells h.stream n) where
    by_number : (((h.stream == n) ≡ true) × (h.stream ≡ n)) ⊎ (((h.stream == n) ≡ false) × (h.stream ≢ n))
        → (h.stream == n) && fin h || finished role past n ≡ told_end n (tail_events role past (Some h)) || finished role past n
    by_number (inl it) =
        own_tail n h.stream it.0 (rst h) (fin h) (closed role past n) (finished role past n) stays
        ∙ ap (λ m. told_end n (cond (rst h) (Told.Reset h.stream ∷ []) (when (fin h && not (finished role past m)) (Told.Ended h.stream))) || finished role past n) (sym it.1)
        ∙ ap (λ b. told_end n (cond b (tail_told h (finished role past h.stream)) []) || finished role past n) (sym (ap (is_live role past) it.1 ∙ live))
    by_number (inr it) =
        ap (λ b. b && fin h || finished role past n) it.0
        ∙ sym (ap (λ b. b || finished role past n) (other_tail n h.stream it.0 (is_live role past h.stream) (rst h) (fin h && not (finished role past h.stream))))

  -- an item that leaves it live tells its end where it ends it
  by_item : (x : Item) → ends (reading role past) (finished role past n) (closed role past n) x n ≡ false
      → finishes (reading role past) x n || finished role past n ≡ told_end n (item_events role past x) || finished role past n
  by_item (Came (Head h)) stays = sym (ap (λ b. b || finished role past n) (by_head role past h n))
  by_item (Came (Byte b)) stays = sym (ap (λ b. b || finished role past n) (none_by_byte n b (taker role past (reading role past))))
  by_item (Came Tail) stays = by_tail (reading role past) stays
  by_item (Came (Garbled bytes)) stays = refl
  by_item (Did act) stays = refl

left_live : (ended live opened : Bool) → (not ended && live) || opened ≡ true → opened ≡ false → (ended ≡ false) × (live ≡ true)
left_live false true false e off = (refl, refl)
left_live false false false e off = absurd (cc e)
left_live true live false e off = absurd (cc e)
left_live ended live true e off = absurd (cc off)

-- where the end of a live stream came, it was told
pub live_ends : (role : Role) (past : List Item) (n : ℕ) → HasNoFault role past → is_live role past n ≡ true → finished role past n ≡ end_was_told role past n
live_ends role [] n none live = refl
live_ends role (x ∷ past) n none live = by_opening (opens role past x n) (λ was. live_ends role past n none.1 was) refl where
  by_opening : (b : Bool) → (is_live role past n ≡ true → finished role past n ≡ end_was_told role past n) → opens role past x n ≡ b
      → not b && (finishes (reading role past) x n || finished role past n) ≡ cond b false (told_end n (events_at role past x) || end_was_told role past n)
  by_opening true before is = refl
  by_opening false before is =
      let was = left_live (ends (reading role past) (finished role past n) (closed role past n) x n) (is_live role past n) (opens role past x n) (sym (live_after role past x n) ∙ live) is in
      by_item role past n was.1 x was.0
      ∙ ap (λ b. b || finished role past n) (sym (unfaulted role past x n none.0))
      ∙ ap (λ b. told_end n (events_at role past x) || b) (before was.1)
