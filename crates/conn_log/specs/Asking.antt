-- Where a handler is asked anew for bytes.
-- Source: that a stream is served behind each piece of its data, and behind credit, is this project's profile.
use Rattle.std.specs.Prelude.{ℕ, ◌==◌, ◌||◌, Bool, true, false, not, if◌then◌else◌, List, [], ◌∷◌}
use Rattle.handlers.specs.Calls.{HandlerCall, Take, Give, End}
use Rattle.yamux_session.specs.declared.event.Role.{Role}
use Rattle.yamux_session.specs.Events.{Told, events_at}
use Rattle.conn_log.specs.Entries.{Entry, items}
use Rattle.conn_log.specs.Entries.Entry.{Of, Says, Made, Asks, Calls}

-- whether one of these events tells credit of the stream
abbrev pub told_credit : ℕ → List Told → Bool
told_credit n [] = false
told_credit n (Told.Credit m ∷ told) = m == n || told_credit n told
told_credit n (other ∷ told) = told_credit n told

-- whether one of these events tells data of the stream
abbrev pub told_data : ℕ → List Told → Bool
told_data n [] = false
told_data n (Told.Payload m b ∷ told) = m == n || told_data n told
told_data n (other ∷ told) = told_data n told

-- whether one of these events tells either
abbrev pub told_more : ℕ → List Told → Bool
told_more n told = told_credit n told || told_data n told

-- the call asks for bytes
abbrev pub is_give : HandlerCall → Bool
is_give (Take bytes) = false
is_give (Give room bytes) = true
is_give End = false

-- Since the handler of the stream was asked for bytes last, credit or data was told of it, or it answered another call,
-- or was made. So it is asked once behind each of these. While its talk goes on these are pieces of data and credit. A
-- new opening of its number resets nothing: a handler is made for it, and each that was made is asked anew.
abbrev pub is_asked_anew : {H : Type 0} → Role → List (Entry H) → ℕ → Bool
is_asked_anew role [] n = true
is_asked_anew role (Of x ∷ log) n = told_more n (events_at role (items log) x) || is_asked_anew role log n
is_asked_anew role (Says e ∷ log) n = is_asked_anew role log n
is_asked_anew role (Made m handler ∷ log) n = m == n || is_asked_anew role log n
is_asked_anew role (Asks m index ∷ log) n = is_asked_anew role log n
is_asked_anew role (Calls m call ∷ log) n = if m == n then not (is_give call) else is_asked_anew role log n
