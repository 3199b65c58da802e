-- What is published, and what it shows.
-- Inside: no public clause cites it.
use Rattle.std.specs.Prelude.{◌≡◌, ◌≤◌, ◌-◌, ◌++◌, ◌∷◌, ℕ, List, [], length, Option, Some, None, IfSome}
use Rattle.logbook.specs.Pages.{Book}
use Rattle.pool_state.specs.declared.limits.Config.{Config}
use Rattle.pool_state.specs.Added.{added, more, more_at}
use Rattle.pool_state.specs.History.{Entry}
use Rattle.pool_state.specs.Shown.{Shown, IsLegal}
use Rattle.swarm_calls.specs.declared.snapshot.Snapshot.{Snapshot}
use Rattle.swarm_calls.specs.declared.addition.Addition.{Addition}
use Rattle.swarm_calls.specs.History.{Counts, IsOf}
use Rattle.swarm_calls.specs.Steps.{Beginning}

-- A history ends with this entry.
pub record EndsWith (log : List Entry) (e : Entry) : Type 0 where
  pub before : List Entry
  pub is : log ≡ before ++ e ∷ []
  pub within : (1 ≤ e.caller) × (e.caller ≤ 8)

-- A snapshot shows a legal history of this swarm's callers: its length, its listing, the number of each caller's
-- entries, and an entry that it ends with, if one is given.
pub record IsShown (book : Book) (config : Config) (callers : ℕ) (s : Snapshot) : Type 0 where
  pub book_is : s.beginning.book ≡ book
  pub count_is : s.count ≡ length s.beginning.log
  pub legal : IsLegal config s.beginning.log
  pub listing_is : s.listing ≡ Shown config s.beginning.log
  pub calls_are : Counts s.calls s.beginning.log
  pub callers_are : IsOf callers s.beginning.log
  pub last_is : IfSome s.last (λ e. EndsWith s.beginning.log e)

-- a snapshot after an entry that joins the history, with the history that it makes
abbrev pub followed : Snapshot → Beginning → Entry → Snapshot
followed s after e = record {
  beginning = after;
  count = more s.count;
  listing = added s.listing e.call e.reply;
  calls = more_at s.calls (e.caller - 1);
  last = Some e;
}

-- A snapshot after an operation: none changes nothing.
abbrev pub absorbed : Snapshot → Option Addition → Snapshot
absorbed s None = s
absorbed s (Some a) = followed s a.after a.entry
