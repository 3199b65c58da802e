-- The worked rows, computed by the definitions.
use Rattle.std.proofs.Common.{◌≡◌, Bool, true, false, ◌&&◌, not, List, [], ◌∷◌, ◌++◌, Option, Some, None, cond, nat_lt, refl, ap, ◌∙◌, length}
use Rattle.std.specs.Prelude.{filter}
use Rattle.yamux_frames.specs.declared.header.Header.{Header}
use Rattle.yamux_frames.specs.declared.header.FrameKind.TheVariants.{Window}
use Rattle.yamux_session.specs.declared.event.Role.TheVariants.{Server}
use Rattle.yamux_session.specs.declared.event.Fault.{Fault}
use Rattle.yamux_session.specs.declared.event.Fault.TheVariants.{DuplicateStream}
use Rattle.yamux_session.specs.History.{Item, is_remote}
use Rattle.yamux_session.specs.Openings.{contains, is_live, is_let_in, live, local_go_away}
use Rattle.yamux_session.specs.Faults.{or_else}
use Rattle.yamux_session.specs.Output.{answer_to, output, output_unless}
use Rattle.yamux_session.specs.Rows.{WorkedRows}

-- ---- where 256 streams are live

abbrev plain_syn : Header
plain_syn = record { kind = Window; flags = 1; stream = 1; length = 0 }

abbrev lets_in : List Item → Bool
lets_in past = is_let_in Server (live Server past) (local_go_away past) plain_syn

none_let_in : (past : List Item) → is_live Server past 1 ≡ false → length (filter (is_remote Server) (live Server past)) ≡ 256 → lets_in past ≡ false
none_let_in past off full =
    ap (λ c. (not c && nat_lt (length (filter (is_remote Server) (live Server past))) 256) && not (local_go_away past)) off
    ∙ ap (λ n. nat_lt n 256 && not (local_go_away past)) full

-- the fault of that SYN, by whether its stream is live and is let in
abbrev syn_fault_by : Bool → Bool → Option Fault
syn_fault_by is_there let_in = or_else (cond is_there (Some DuplicateStream) None) (cond (let_in && true) None None)

pub worked_rows : WorkedRows
worked_rows = record {
  syn_is_answered_by_ack = refl;
  syn_of_a_live_stream = refl;
  syn_of_the_wrong_parity = refl;
  no_number_left = refl;
  number_of_an_ended_stream = refl;
  window_is_counted_at_the_header = refl;
  credit_of_33_bits = refl;
  window_update_from_131072_bytes = (refl, refl);
  data_of_an_unknown_stream = refl;
  syn_beyond_256_live_streams = λ past off full.
      ap (λ c. output Server past ++ output_unless (syn_fault_by c (lets_in past)) (answer_to plain_syn (contains (cond (lets_in past) (1 ∷ []) []) 1))) off
      ∙ ap (λ b. output Server past ++ output_unless (syn_fault_by false b) (answer_to plain_syn (contains (cond b (1 ∷ []) []) 1))) (none_let_in past off full);
  ping_is_answered = refl;
  fault_is_answered_by_go_away = refl;
}
