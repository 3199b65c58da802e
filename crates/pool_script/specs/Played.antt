-- What a script prints that is played on a pool of one thread.
-- Source: this project's profile, `node replay`; of the pool, the sequential swarm.
use Rattle.std.specs.Prelude.{◌≡◌, ◌⊎◌, ℕ, ◌<◌, Bool, true, false, List, [], ◌∷◌, ◌++◌, length, if◌then◌else◌, IsUtf8}
use Rattle.pool_state.specs.declared.call.Call.{Call}
use Rattle.pool_state.specs.declared.call.Refusal.TheVariants as refusal
use Rattle.pool_state.specs.declared.call.Reply.{Reply}
use Rattle.pool_state.specs.declared.call.Reply.TheVariants as reply
use Rattle.pool_state.specs.declared.limits.Config.{Config}
use Rattle.pool_state.specs.History.{Entry, entry}
use Rattle.pool_state.specs.Shown.{Shown, reply_after}
use Rattle.pool_texts.specs.declared.line.Line.{Line}
use Rattle.pool_texts.specs.declared.line.Line.TheVariants as said
use Rattle.pool_texts.specs.Lines.{Says}
use Rattle.pool_texts.specs.Printed.{line, reply_text, listing_text}
use Rattle.script_lines.specs.Playing.{PlaysEach}

abbrev pub is_spent : Reply → Bool
is_spent (reply.Refused refusal.Spent) = true
is_spent other = false

-- The history behind a call: one that is answered Spent enters none.
abbrev pub grown : Config → List Entry → Call → List Entry
grown config history call =
    if is_spent (reply_after config history call) then history
    else history ++ entry 0 call (reply_after config history call) ∷ []

-- A line that is played prints this, and this is the history behind it: an empty one prints nothing; one that says a
-- call, the reply; one that wishes for the listing, that.
abbrev pub PlaysLine : Config → List Entry → List ℕ → List ℕ → List Entry → Type 0
PlaysLine config history text printed after = ((text ≡ []) × (printed ≡ []) × (after ≡ history))
    ⊎ ((call : Call) × IsUtf8 text × Says text (said.Call call)
    × (printed ≡ line [] (reply_text (reply_after config history call))) × (after ≡ grown config history call))
    ⊎ (IsUtf8 text × Says text said.List × (printed ≡ listing_text [] (Shown config history)) × (after ≡ history))

-- Lines that are played one behind the other.
abbrev pub Plays : Config → List Entry → List (List ℕ) → List ℕ → List Entry → Type 0
Plays config history texts printed after = PlaysEach (PlaysLine config) history texts printed after

-- A line for which something is printed.
abbrev pub SaysSomething : List ℕ → Type 0
SaysSomething text = IsUtf8 text × (it : Line) × Says text it

-- A line that can't be played: it isn't empty, and says nothing, or isn't UTF-8.
abbrev pub SaysNothing : List ℕ → Type 0
SaysNothing text = (0 < length text) × (IsUtf8 text → (it : Line) → ¬ Says text it)
