-- The worked rows.
use Rattle.std.proofs.Common.{◌≡◌, ℕ, ◌<◌, List, [], ◌∷◌, refl, subst, arith}
use Rattle.yamux_frames.specs.declared.header.FrameFault.TheVariants.{BadType}
use Rattle.yamux_frames.specs.Spelling.{header_bytes, IsHeader}
use Rattle.yamux_frames.specs.Frames.{Arrival, Reads, IsMidFrame}
use Rattle.yamux_frames.specs.Frames.Arrival.{Head, Byte, Tail}
use Rattle.yamux_frames.specs.Rows.{ping, two, WorkedRows}
use Rattle.yamux_frames.proofs.Readings.{one_reading}

fits_ping : IsHeader ping
fits_ping = record { flags = omega arith; stream = omega arith; length = omega arith }

fits_two : IsHeader two
fits_two = record { flags = omega arith; stream = omega arith; length = omega arith }

one_ping : Reads (header_bytes ping) (Tail ∷ Head ping ∷ []) []
one_ping = record { whole = refl; frames_are = (tt, refl, (tt, fits_ping, tt)); rest_is = omega arith }

pub worked_rows : WorkedRows
worked_rows = record {
  data_header = refl;
  window_update_header = refl;
  ping_header = refl;
  largest_header = refl;
  bytes_follow_data = refl;
  no_bytes_follow_a_window_update = refl;
  version_before_the_type = ((refl, λ e. absurd (cc e)), (λ h. absurd (cc h.1)));
  last_type = ((λ h. let lt : 3 < 3 = h.2 in omega (arith, lt)), (refl, refl, omega arith));
  data_frame = record { whole = refl; frames_are = (tt, refl, (omega arith, (omega arith, (tt, fits_two, tt)))); rest_is = omega arith };
  nothing_is_read_after_a_fault = record { whole = refl; frames_are = (tt, (BadType, (refl, refl, omega arith)), tt); rest_is = tt };
  ends_within_a_payload = record {
    frames = Byte 7 ∷ Head two ∷ [];
    rest = [];
    reads = record { whole = refl; frames_are = (omega arith, (tt, fits_two, tt)); rest_is = (omega arith, refl) };
    mid_frame = tt;
  };
  ends_after_a_ping = λ e.
      let same = one_reading (header_bytes ping) e.frames (Tail ∷ Head ping ∷ []) e.rest [] e.reads one_ping in
      let mid : IsMidFrame (Tail ∷ Head ping ∷ []) [] =
      subst (λ (t : List ℕ). IsMidFrame (Tail ∷ Head ping ∷ []) t) same.1 (subst (λ (fs : List Arrival). IsMidFrame fs e.rest) same.0 e.mid_frame) in
      mid refl;
}
