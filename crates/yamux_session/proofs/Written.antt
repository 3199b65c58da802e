-- A row that was changed where it lies.
use Rattle.std.proofs.Common.{◌≡◌, ℕ, Bool, List, ◌==◌, cond, ap, Some, IsSome, refl, sym, ◌∙◌, subst}
use Rattle.std.specs.HashMap.{HashMap, WritesThrough}
use Rattle.std.proofs.lemmas.Map.Steps.{set_value_same}
use Rattle.yamux_session.specs.declared.streams.Row.{Row}
use Rattle.yamux_session.specs.declared.streams.Streams.{Streams}
use Rattle.yamux_frames.specs.Place.{Place}
use Rattle.yamux_session.specs.Table.{Table, Rewrites, table_of, row_at}
use Rattle.yamux_session.specs.State.{State}

pub written : {S : Type 0} (old new : HashMap ℕ Row S) (n : ℕ) (s w : Row) → row_at old.entries n ≡ Some s → WritesThrough (λ (a b : ℕ). a == b) (λ m. n == m) old w new
    → (m : ℕ) → row_at new.entries m ≡ cond (n == m) (Some w) (row_at old.entries m)
written old new n s w found through m =
    (through.3 (subst IsSome (sym found) refl)).0 m

-- and one that was only looked at
pub unwritten : {S : Type 0} (old new : HashMap ℕ Row S) (n : ℕ) (s : Row) → row_at old.entries n ≡ Some s → WritesThrough (λ (a b : ℕ). a == b) (λ m. n == m) old s new
    → new.entries ≡ old.entries
unwritten old new n s found through = through.0 ∙ set_value_same (λ m. n == m) old.entries s found

-- the table after a row was lent and written
pub rewritten : (s : Streams) (lender : Row → HashMap ℕ Row _) (n : ℕ) (row w : Row) → row_at s.rows.entries n ≡ Some row
    → ((v : Row) → WritesThrough (λ (a b : ℕ). a == b) (λ m. n == m) s.rows v (lender v)) → Rewrites (table_of s) n (Some w) s.own s.remote (table_of (record s { rows = lender w }))
rewritten s lender n row w found holds = record { row_is = written s.rows (lender w) n row w found (holds w); rest = refl }

-- and after it was only looked at
pub looked_at : (s : Streams) (lender : Row → HashMap ℕ Row _) (n : ℕ) (row : Row) → row_at s.rows.entries n ≡ Some row
    → ((v : Row) → WritesThrough (λ (a b : ℕ). a == b) (λ m. n == m) s.rows v (lender v)) → table_of (record s { rows = lender row }) ≡ table_of s
looked_at s lender n row found holds = ap (λ (rows : List (ℕ × Row)). record (table_of s) { rows = rows }) (unwritten s.rows (lender row) n row found (holds row))

-- what contracts see is as it was
pub as_before : (old new : State) → new.table ≡ old.table → new.place ≡ old.place → new.pending ≡ old.pending → new.room ≡ old.room → new.failed ≡ old.failed → new ≡ old
as_before old new table place pending room failed =
    ap (λ (t : Table). record new { table = t }) table
    ∙ ap (λ (p : Place). record new { table = old.table; place = p }) place
    ∙ ap (λ (xs : List ℕ). record old { pending = xs; room = new.room; failed = new.failed }) pending
    ∙ ap (λ (n : ℕ). record old { room = n; failed = new.failed }) room
    ∙ ap (λ (b : Bool). record old { failed = b }) failed
