-- What a script prints that is played on an end of a connection.
-- Source: this project's profile, `node trace`; of the connection, what a whole run answers.
use Rattle.std.specs.Prelude.{◌≡◌, ◌⊎◌, ℕ, ◌<◌, min, Bool, true, false, not, List, [], ◌∷◌, ◌++◌, length, IsUtf8}
use Rattle.std.specs.Global.{Vec}
use Rattle.handlers.specs.Calls.{HandlerCall, Asked}
use Rattle.peer_ids.specs.Key.{Key}
use Rattle.upgrade.specs.declared.role.ConnRole.{ConnRole}
use Rattle.conn_core.specs.declared.calls.ConnAct.{ConnAct}
use Rattle.conn_core.specs.declared.calls.ConnAct.TheVariants.{Feed, Ask, Ended}
use Rattle.conn_core.specs.declared.calls.ConnAnswer.{ConnAnswer}
use Rattle.conn_core.specs.declared.connection.ConnCore.{ConnCore}
use Rattle.conn_core.specs.Runs.{Point, Answers, HasWritten, IsAt, has_ended}
use Rattle.conn_core.specs.Runs.Point.{At, Spent}
use Rattle.node_lines.specs.declared.trace.TraceLine.{TraceLine}
use Rattle.node_lines.specs.declared.trace.TraceLine.TheVariants as line
use Rattle.node_lines.specs.Trace.{SaysTrace, HoldsBytes}
use Rattle.script_lines.specs.Playing.{PlaysEach}
use Rattle.trace_script.specs.Printed.{answer_text, output_text}

-- Where an end is, and what was taken of its output.
pub record Place (H : Type 0) : Type 0 where
  pub point : Point H
  pub taken : List ℕ

-- Nothing came yet, and nothing was told.
abbrev pub at_first : {H : Type 0} → Place H
at_first = record { point = At [] false [] [] []; taken = [] }

-- The connection goes on: it has told no Fault and no Shut, and memory was not refused.
abbrev pub goes_on : {H : Type 0} → Point H → Bool
goes_on (At input ended log told owed) = not (has_ended told)
goes_on (Spent written) = false

-- The bytes, in pieces of so many, the last one perhaps of fewer.
abbrev pub ArePieces : ℕ → List ℕ → List (List ℕ) → Type 0
ArePieces size bytes [] = bytes ≡ []
ArePieces size bytes (piece ∷ pieces) = (rest : List ℕ) × (bytes ≡ piece ++ rest) × (0 < length piece)
    × (length piece ≡ min size (length bytes)) × ArePieces size rest pieces

module _ {P H : Type 0} (step : H → HandlerCall → H → Type 0) (fails : H → Asked → ℕ → Type 0)
    (is_closed is_finished : H → Bool) (inbound_makes outbound_makes : P → ℕ → List ℕ → H → Type 0)
    (listed : P → List (List ℕ)) (is_eager : P → ℕ → Bool)
    (inbound_leads outbound_leads : P → ℕ → List ℕ → H → P → Type 0) (start : P) (role : ConnRole) (own : Key) where
  -- A call is answered there, and this is printed of the answer.
  abbrev pub Tells : Point H → ConnAct → List ℕ → Point H → Type 0
  Tells point call printed next = (answer : ConnAnswer H) × Answers step fails is_closed is_finished inbound_makes
      outbound_makes listed is_eager inbound_leads outbound_leads start role own point call answer next
      × (printed ≡ answer_text answer)

  -- The piece is fed.
  abbrev pub Feeds : Point H → List ℕ → List ℕ → Point H → Type 0
  Feeds point piece printed next = (bytes : Vec ℕ) × (bytes.items ≡ piece) × Tells point (Feed bytes) printed next

  -- The pieces are fed in turn, until the connection goes on no more.
  abbrev pub FeedsEach : Point H → List (List ℕ) → List ℕ → Point H → Type 0
  FeedsEach point [] printed next = (printed ≡ []) × (next ≡ point)
  FeedsEach point (piece ∷ pieces) printed next = (first rest : List ℕ) × (middle : Point H)
      × Feeds point piece first middle × (printed ≡ first ++ rest)
      × (((goes_on middle ≡ true) × FeedsEach middle pieces rest next)
      ⊎ ((goes_on middle ≡ false) × (rest ≡ []) × (next ≡ middle)))

  -- What a line says is done, and this is printed of it.
  abbrev pub Does : Place H → TraceLine → List ℕ → Place H → Type 0
  Does from (line.Feed bytes) printed to = Feeds from.point bytes.items printed to.point × (to.taken ≡ from.taken)
  Does from (line.Cut size bytes) printed to = (pieces : List (List ℕ)) × ArePieces size bytes.items pieces
      × FeedsEach from.point pieces printed to.point × (to.taken ≡ from.taken)
  Does from (line.Ask index) printed to = Tells from.point (Ask index) printed to.point × (to.taken ≡ from.taken)
  -- what was written and not yet taken is taken
  Does from line.Out printed to = (waits : List ℕ) × HasWritten step fails is_closed is_finished inbound_makes
      outbound_makes listed is_eager inbound_leads outbound_leads start role own from.point (from.taken ++ waits)
      × (printed ≡ output_text waits) × (to.point ≡ from.point) × (to.taken ≡ from.taken ++ waits)
  Does from line.End printed to = Tells from.point Ended printed to.point × (to.taken ≡ from.taken)

  -- A line that is played prints this: an empty one nothing, and another what comes of what it says.
  abbrev pub PlaysLine : Place H → List ℕ → List ℕ → Place H → Type 0
  PlaysLine from text printed to = ((text ≡ []) × (printed ≡ []) × (to ≡ from))
      ⊎ ((it : TraceLine) × IsUtf8 text × SaysTrace text it × Does from it printed to)

  -- Lines that are played one behind the other.
  abbrev pub Plays : Place H → List (List ℕ) → List ℕ → Place H → Type 0
  Plays from texts printed to = PlaysEach PlaysLine from texts printed to

  -- The end is there.
  abbrev pub IsIn : Place H → ConnCore P H → Type 0
  IsIn place core = IsAt step fails is_closed is_finished inbound_makes outbound_makes listed is_eager inbound_leads
      outbound_leads start role own place.taken place.point core

-- A line for which something is done, or memory is asked for the bytes that it holds.
abbrev pub SaysSomething : List ℕ → Type 0
SaysSomething text = IsUtf8 text × (((it : TraceLine) × SaysTrace text it) ⊎ HoldsBytes text)

-- A line that can't be played: it isn't empty, and says nothing, or isn't UTF-8.
abbrev pub SaysNothing : List ℕ → Type 0
SaysNothing text = (0 < length text) × (IsUtf8 text → (it : TraceLine) → ¬ SaysTrace text it)
