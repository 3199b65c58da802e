-- Worked rows of the definitions, each with its place in the standard, or in this project's profile.
use Rattle.std.specs.Prelude.{◌≡◌, ℕ, false, List, [], ◌∷◌, ◌++◌, filter, length, Some}
use Rattle.yamux_frames.specs.declared.header.FrameKind.{FrameKind}
use Rattle.yamux_frames.specs.declared.header.FrameKind.TheVariants.{Payload, Window, Ping}
use Rattle.yamux_frames.specs.Frames.{Arrival}
use Rattle.yamux_frames.specs.Frames.Arrival.{Head, Byte, Tail}
use Rattle.yamux_session.specs.declared.event.Role.TheVariants.{Client, Server}
use Rattle.yamux_session.specs.declared.event.Fault.TheVariants.{WrongParity, DuplicateStream, WindowExceeded}
use Rattle.yamux_session.specs.declared.event.Fault.TheVariants.{WindowTooLarge}
use Rattle.yamux_session.specs.declared.event.ActRefused.TheVariants as refused
use Rattle.yamux_session.specs.History.{Item, is_remote}
use Rattle.yamux_session.specs.History.Item.{Came, Did}
use Rattle.yamux_session.specs.History.Act.{Start, Taken, Close}
use Rattle.yamux_session.specs.Openings.{live, is_live}
use Rattle.yamux_session.specs.Acts.{start_refusal}
use Rattle.yamux_session.specs.Events.{Told, events}
use Rattle.yamux_session.specs.Output.{output}

abbrev pub header : FrameKind → ℕ → ℕ → ℕ → Arrival
header kind flags stream len = Head (record { kind = kind; flags = flags; stream = stream; length = len })

-- a frame without payload, the newest item first
abbrev pub bare : FrameKind → ℕ → ℕ → ℕ → List Item
bare kind flags stream len = Came Tail ∷ Came (header kind flags stream len) ∷ []

-- items in the order in which they came
abbrev pub in_order : List (List Item) → List Item
in_order [] = []
in_order (xs ∷ rest) = in_order rest ++ xs

-- the header of a Data frame that uses up the window of stream 1
abbrev pub full_window : List Item
full_window = in_order (bare Window 1 1 0 ∷ (Came (header Payload 0 1 262144) ∷ []) ∷ [])

pub record WorkedRows : Type 0 where
  -- hashicorp yamux, "Flag Field" and "Stream ID": a SYN is answered by ACK; the client's numbers are odd
  pub syn_is_answered_by_ack : output Server (bare Window 1 1 0)
      ≡ 0 ∷ 1 ∷ 0 ∷ 2 ∷ 0 ∷ 0 ∷ 0 ∷ 1 ∷ 0 ∷ 0 ∷ 0 ∷ 0 ∷ []
  pub syn_of_a_live_stream : events Server (in_order (bare Window 1 1 0 ∷ bare Window 1 1 0 ∷ []))
      ≡ Told.Opened 1 ∷ Told.Fault DuplicateStream ∷ []
  pub syn_of_the_wrong_parity : events Client (Came (header Window 1 1 0) ∷ []) ≡ Told.Fault WrongParity ∷ []
  pub no_number_left : start_refusal Client (Did (Start 4294967295) ∷ []) ≡ Some refused.StreamsExhausted
  -- profile: once both directions have ended the other end may use the number again
  pub number_of_an_ended_stream : events Server (in_order (bare Window 1 1 0 ∷ (Did (Close 1) ∷ []) ∷ bare Window 4 1 0
      ∷ bare Window 1 1 0 ∷ [])) ≡ Told.Opened 1 ∷ Told.Ended 1 ∷ Told.Opened 1 ∷ []
  -- hashicorp yamux, "Flow Control": a window starts at 262144 bytes, and its header alone counts
  pub window_is_counted_at_the_header : events Server (in_order (full_window ∷ (Came Tail ∷ []) ∷
      (Came (header Payload 0 1 1) ∷ []) ∷ [])) ≡ Told.Opened 1 ∷ Told.Fault WindowExceeded ∷ []
  pub credit_of_33_bits : events Server (Came (header Window 1 1 4294705152) ∷ []) ≡ Told.Fault WindowTooLarge ∷ []
  -- profile: a WindowUpdate is sent once 131072 bytes were taken
  pub window_update_from_131072_bytes :
      (output Server (Did (Taken 1 131071) ∷ full_window) ≡ output Server full_window)
      × (output Server (Did (Taken 1 1) ∷ Did (Taken 1 131071) ∷ full_window)
      ≡ output Server full_window ++ (0 ∷ 1 ∷ 0 ∷ 0 ∷ 0 ∷ 0 ∷ 0 ∷ 1 ∷ 0 ∷ 2 ∷ 0 ∷ 0 ∷ []))
  -- profile: data of an unknown stream is skipped, and a SYN beyond 256 live streams is answered by RST
  pub data_of_an_unknown_stream : events Server (in_order (bare Window 1 1 0 ∷
      (Came Tail ∷ Came (Byte 97) ∷ Came (header Payload 0 9 1) ∷ []) ∷ bare Window 0 1 5 ∷ []))
      ≡ Told.Opened 1 ∷ Told.Credit 1 ∷ []
  pub syn_beyond_256_live_streams : (past : List Item) → is_live Server past 1 ≡ false
      → length (filter (is_remote Server) (live Server past)) ≡ 256
      → output Server (Came (header Window 1 1 0) ∷ past)
      ≡ output Server past ++ (0 ∷ 1 ∷ 0 ∷ 8 ∷ 0 ∷ 0 ∷ 0 ∷ 1 ∷ 0 ∷ 0 ∷ 0 ∷ 0 ∷ [])
  -- hashicorp yamux, "Flag Field" and "Go Away": a Ping is answered with its value, a fault by GoAway with code 1
  pub ping_is_answered : output Server (bare Ping 1 0 7)
      ≡ 0 ∷ 2 ∷ 0 ∷ 2 ∷ 0 ∷ 0 ∷ 0 ∷ 0 ∷ 0 ∷ 0 ∷ 0 ∷ 7 ∷ []
  pub fault_is_answered_by_go_away : output Client (Came (header Window 1 1 0) ∷ [])
      ≡ 0 ∷ 3 ∷ 0 ∷ 0 ∷ 0 ∷ 0 ∷ 0 ∷ 0 ∷ 0 ∷ 0 ∷ 0 ∷ 1 ∷ []
