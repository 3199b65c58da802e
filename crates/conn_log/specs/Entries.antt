-- The list of a connection that is up: what came and was done in its session, and between it what was told of its
-- streams, which handlers were made, which calls they answered, and which protocols were asked for, each where it was.
-- The newest stands first.
-- Source: hashicorp yamux, "Framing"; what a connection tells is this project's profile.
use Rattle.std.specs.Prelude.{ℕ, suc, Bool, true, false, not, ◌==◌, ◌&&◌, ◌||◌, if◌then◌else◌}
use Rattle.std.specs.Prelude.{Option, Some, None, is_some}
use Rattle.std.specs.Prelude.{List, [], ◌∷◌, ◌++◌}
use Rattle.handlers.specs.Calls.{HandlerCall, Take, Give, End}
use Rattle.yamux_frames.specs.Frames.Arrival.{Head, Byte, Tail, Garbled}
use Rattle.yamux_session.specs.declared.event.Role.{Role}
use Rattle.yamux_session.specs.History.{Item}
use Rattle.yamux_session.specs.History.Item.{Came, Did}
use Rattle.yamux_session.specs.History.Act.{Start}
use Rattle.yamux_session.specs.Openings.{opens}
use Rattle.conn_log.specs.declared.event.ConnEvent.{ConnEvent}
use Rattle.conn_log.specs.declared.event.ConnEvent.TheVariants as event

-- Of: an item of the session's list. Says: this was told. Made: the handler of the stream was made. Asks: this end
-- opened the stream of this number, for the protocol of this index. Calls: the handler of the stream answered this
-- call.
pub data Entry (H : Type 0) : Type 0 where
  Of : Item → Entry H
  Says : ConnEvent H → Entry H
  Made : ℕ → H → Entry H
  Asks : ℕ → ℕ → Entry H
  Calls : ℕ → HandlerCall → Entry H

-- the session's list
abbrev pub items : {H : Type 0} → List (Entry H) → List Item
items [] = []
items (Of x ∷ log) = x ∷ items log
items (Says e ∷ log) = items log
items (Made n handler ∷ log) = items log
items (Asks n index ∷ log) = Did (Start n) ∷ items log
items (Calls n call ∷ log) = items log

-- what was told, in order
abbrev pub said : {H : Type 0} → List (Entry H) → List (ConnEvent H)
said [] = []
said (Of x ∷ log) = said log
said (Says e ∷ log) = said log ++ e ∷ []
said (Made n handler ∷ log) = said log
said (Asks n index ∷ log) = said log
said (Calls n call ∷ log) = said log

-- the streams that this end opened, each with the index of the protocol that was asked for, in order
abbrev pub asks : {H : Type 0} → List (Entry H) → List (ℕ × ℕ)
asks [] = []
asks (Of x ∷ log) = asks log
asks (Says e ∷ log) = asks log
asks (Made n handler ∷ log) = asks log
asks (Asks n index ∷ log) = asks log ++ (n, index) ∷ []
asks (Calls n call ∷ log) = asks log

-- what was told and made since the stream was opened last
abbrev pub since : {H : Type 0} → Role → List (Entry H) → ℕ → List (Entry H)
since role [] n = []
since role (Of x ∷ log) n = if opens role (items log) x n then [] else since role log n
since role (Says e ∷ log) n = Says e ∷ since role log n
since role (Made m handler ∷ log) n = Made m handler ∷ since role log n
since role (Asks m index ∷ log) n = if m == n then [] else since role log n
since role (Calls m call ∷ log) n = Calls m call ∷ since role log n

-- what is told of an agreement, where there is one
abbrev pub agreement : {H : Type 0} → ℕ → Option ℕ → List (ConnEvent H)
agreement n None = []
agreement n (Some index) = event.Agreed n index ∷ []

-- ---- of a stream

-- the index that an event tells to be agreed on
abbrev pub agreed_by : {H : Type 0} → ℕ → ConnEvent H → Option ℕ → Option ℕ
agreed_by n (event.Agreed m index) before = if m == n then Some index else before
agreed_by n (event.Upgraded key) before = before
agreed_by n (event.Refused m) before = before
agreed_by n (event.Done m handler) before = before
agreed_by n (event.Broken m cause) before = before
agreed_by n (event.Fault fault) before = before
agreed_by n event.Shut before = before

abbrev pub agreed_in : {H : Type 0} → ℕ → List (Entry H) → Option ℕ
agreed_in n [] = None
agreed_in n (Of x ∷ log) = agreed_in n log
agreed_in n (Says e ∷ log) = agreed_by n e (agreed_in n log)
agreed_in n (Made m handler ∷ log) = agreed_in n log
agreed_in n (Asks m index ∷ log) = agreed_in n log
agreed_in n (Calls m call ∷ log) = agreed_in n log

-- the protocol on which both ends were told to agree since the opening
abbrev pub agreed : {H : Type 0} → Role → List (Entry H) → ℕ → Option ℕ
agreed role log n = agreed_in n (since role log n)

-- behind its Refused, Done or Broken a stream is told of no more
abbrev pub is_last : {H : Type 0} → ℕ → ConnEvent H → Bool
is_last n (event.Refused m) = m == n
is_last n (event.Done m handler) = m == n
is_last n (event.Broken m cause) = m == n
is_last n (event.Upgraded key) = false
is_last n (event.Agreed m index) = false
is_last n (event.Fault fault) = false
is_last n event.Shut = false

abbrev pub over_in : {H : Type 0} → ℕ → List (Entry H) → Bool
over_in n [] = false
over_in n (Of x ∷ log) = over_in n log
over_in n (Says e ∷ log) = is_last n e || over_in n log
over_in n (Made m handler ∷ log) = over_in n log
over_in n (Asks m index ∷ log) = over_in n log
over_in n (Calls m call ∷ log) = over_in n log

-- its last event was told since the opening
abbrev pub is_over : {H : Type 0} → Role → List (Entry H) → ℕ → Bool
is_over role log n = over_in n (since role log n)

-- by its Done the handler of a stream is handed out
abbrev pub is_done_of : {H : Type 0} → ℕ → ConnEvent H → Bool
is_done_of n (event.Done m handler) = m == n
is_done_of n (event.Refused m) = false
is_done_of n (event.Broken m cause) = false
is_done_of n (event.Upgraded key) = false
is_done_of n (event.Agreed m index) = false
is_done_of n (event.Fault fault) = false
is_done_of n event.Shut = false

abbrev pub done_in : {H : Type 0} → ℕ → List (Entry H) → Bool
done_in n [] = false
done_in n (Of x ∷ log) = done_in n log
done_in n (Says e ∷ log) = is_done_of n e || done_in n log
done_in n (Made m handler ∷ log) = done_in n log
done_in n (Asks m index ∷ log) = done_in n log
done_in n (Calls m call ∷ log) = done_in n log

-- Done was told of it since the opening
abbrev pub was_done : {H : Type 0} → Role → List (Entry H) → ℕ → Bool
was_done role log n = done_in n (since role log n)

abbrev pub made_in : {H : Type 0} → ℕ → List (Entry H) → Option H
made_in n [] = None
made_in n (Of x ∷ log) = made_in n log
made_in n (Says e ∷ log) = made_in n log
made_in n (Made m handler ∷ log) = if m == n then Some handler else made_in n log
made_in n (Asks m index ∷ log) = made_in n log
made_in n (Calls m call ∷ log) = made_in n log

-- its handler as it was made, where it was since the opening
abbrev pub made_of : {H : Type 0} → Role → List (Entry H) → ℕ → Option H
made_of role log n = made_in n (since role log n)

-- the calls that the handler of a stream answered, in order
abbrev pub calls_in : {H : Type 0} → ℕ → List (Entry H) → List HandlerCall
calls_in n [] = []
calls_in n (Of x ∷ log) = calls_in n log
calls_in n (Says e ∷ log) = calls_in n log
calls_in n (Made m handler ∷ log) = calls_in n log
calls_in n (Asks m index ∷ log) = calls_in n log
calls_in n (Calls m call ∷ log) = if m == n then calls_in n log ++ call ∷ [] else calls_in n log

-- the calls that its handler answered since the opening, in order
abbrev pub calls_of : {H : Type 0} → Role → List (Entry H) → ℕ → List HandlerCall
calls_of role log n = calls_in n (since role log n)

-- by these calls a handler was handed something
abbrev pub has_taken : List HandlerCall → Bool
has_taken [] = false
has_taken (Take bytes ∷ calls) = true
has_taken (Give room bytes ∷ calls) = has_taken calls
has_taken (End ∷ calls) = has_taken calls

-- its handler was made since the opening, and its last event wasn't told yet
abbrev pub is_kept : {H : Type 0} → Role → List (Entry H) → ℕ → Bool
is_kept role log n = is_some (made_of role log n) && not (is_over role log n)

-- how often the number was opened anew while the handler of its stream was still held
abbrev pub left_behind : {H : Type 0} → Role → List (Entry H) → ℕ → ℕ
left_behind role [] n = 0
left_behind role (Of x ∷ log) n =
    if opens role (items log) x n && is_kept role log n then suc (left_behind role log n) else left_behind role log n
left_behind role (Says e ∷ log) n = left_behind role log n
left_behind role (Made m handler ∷ log) n = left_behind role log n
left_behind role (Asks m index ∷ log) n = left_behind role log n
left_behind role (Calls m call ∷ log) n = left_behind role log n

-- the numbers that were opened anew while the handler of their stream was still held, in that order; only the other
-- end's head opens one anew
abbrev pub put_aside : {H : Type 0} → Role → List (Entry H) → List ℕ
put_aside role [] = []
put_aside role (Of (Came (Head h)) ∷ log) =
    if opens role (items log) (Came (Head h)) h.stream && is_kept role log h.stream
    then put_aside role log ++ h.stream ∷ [] else put_aside role log
put_aside role (Of (Came (Byte b)) ∷ log) = put_aside role log
put_aside role (Of (Came Tail) ∷ log) = put_aside role log
put_aside role (Of (Came (Garbled bytes)) ∷ log) = put_aside role log
put_aside role (Of (Did act) ∷ log) = put_aside role log
put_aside role (Says e ∷ log) = put_aside role log
put_aside role (Made n handler ∷ log) = put_aside role log
put_aside role (Asks n index ∷ log) = put_aside role log
put_aside role (Calls n call ∷ log) = put_aside role log

-- the protocol for which this end opened the stream; it opens no number twice
abbrev pub asked : {H : Type 0} → List (Entry H) → ℕ → Option ℕ
asked [] n = None
asked (Of x ∷ log) n = asked log n
asked (Says e ∷ log) n = asked log n
asked (Made m handler ∷ log) n = asked log n
asked (Asks m index ∷ log) n = if m == n then Some index else asked log n
asked (Calls m call ∷ log) n = asked log n
