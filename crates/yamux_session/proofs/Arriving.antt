-- Bytes of a payload. They change nothing in the table: the window has paid for them at their head.
use Rattle.std.proofs.Common.{◌≡◌, ℕ, ◌+◌, ◌-◌, ◌<◌, ◌≤◌, Bool, true, false, ◌&&◌, not, ◌==◌, cond, List, [], ◌∷◌, length, Option, Some, None, refl, sym, ap, ◌∙◌, arith}
use Rattle.yamux_frames.specs.declared.header.Header.{Header}
use Rattle.yamux_frames.specs.Frames.{bytes_left}
use Rattle.yamux_frames.specs.Frames.Arrival.{Byte}
use Rattle.yamux_session.specs.declared.event.Role.{Role}
use Rattle.yamux_session.specs.declared.streams.Row.{Row}
use Rattle.yamux_session.specs.Table.{Table, row_at, is_taker}
use Rattle.yamux_session.specs.History.{Item, arrivals, came_bytes, is_own, is_remote}
use Rattle.yamux_session.specs.History.Item.{Came}
use Rattle.yamux_session.specs.Openings.{live, is_live, reading, is_reading, contains, finished, byte_belongs, local_go_away}
use Rattle.std.specs.Prelude.{filter}
use Rattle.yamux_session.specs.Acts.{remote_go_away, next_own}
use Rattle.yamux_session.specs.Keeps.{Keeps, IsRowAt}
use Rattle.std.proofs.lemmas.Bool.{eqb-true, eq-eqb}
use Rattle.yamux_session.specs.Events.{taker}
use Rattle.yamux_session.proofs.Lists.{one_if}
use Rattle.yamux_session.proofs.Keeping.{Moves, after, quiet}

pub belongs_on : (role : Role) (past : List Item) (b n : ℕ) → byte_belongs role (Came (Byte b) ∷ past) n ≡ byte_belongs role past n
belongs_on role past b n = ap (λ ns. (is_reading (reading role past) n && contains ns n) && not (finished role past n)) (quiet (live role past))

-- a byte that arrived is no longer to come
one_less : (x y : Bool) (k : ℕ) → x ≡ y → 0 < k → one_if y + cond x (k - 1) 0 ≡ cond y k 0
one_less true true k e some = omega arith
one_less false false k e some = refl
one_less true false k e some = absurd cc
one_less false true k e some = absurd cc

byte_moves : (role : Role) (past : List Item) (b n : ℕ) (s : Row) → 0 < bytes_left (arrivals past) → Moves role past (Came (Byte b)) n s s
byte_moves role past b n s some = record {
  not_opened = refl;
  credit = refl;
  window = refl;
  rest = let less = one_less (byte_belongs role (Came (Byte b) ∷ past) n) (byte_belongs role past n) (bytes_left (arrivals past)) (belongs_on role past b n) some in omega arith;
  owed_is = omega arith;
  finished_is = refl;
  closed_is = refl;
  accepted_is = refl;
  bound = omega arith;
}

pub row_stays : (role : Role) (past : List Item) (b n : ℕ) (row : Option Row) → 0 < bytes_left (arrivals past) → IsRowAt role past n row → IsRowAt role (Came (Byte b) ∷ past) n row
row_stays role past b n None some at = ap (λ ns. contains ns n) (quiet (live role past)) ∙ at
row_stays role past b n (Some s) some at = (ap (λ ns. contains ns n) (quiet (live role past)) ∙ at.0, after role past (Came (Byte b)) n s s (byte_moves role past b n s some) at.1)

rows_stay : (role : Role) (bytes : List ℕ) (past : List Item) (n : ℕ) (row : Option Row) → length bytes ≤ bytes_left (arrivals past) → IsRowAt role past n row → IsRowAt role (came_bytes bytes past) n row
rows_stay role [] past n row fits at = at
rows_stay role (b ∷ bytes) past n row fits at = rows_stay role bytes (Came (Byte b) ∷ past) n row (omega arith) (row_stays role past b n row (omega arith) at)

-- what bytes leave as it is
record Unmoved (role : Role) (past now : List Item) : Type 0 where
  same : live role now ≡ live role past
  read : reading role now ≡ reading role past
  belongs : (n : ℕ) → byte_belongs role now n ≡ byte_belongs role past n
  local : local_go_away now ≡ local_go_away past
  remote : remote_go_away now ≡ remote_go_away past
  next : next_own role now ≡ next_own role past

unmoved : (role : Role) (bytes : List ℕ) (past : List Item) → Unmoved role past (came_bytes bytes past)
unmoved role [] past = record { same = refl; read = refl; belongs = λ n. refl; local = refl; remote = refl; next = refl }
unmoved role (b ∷ bytes) past =
    let rest = unmoved role bytes (Came (Byte b) ∷ past) in
    record {
      same = rest.same ∙ quiet (live role past);
      read = rest.read;
      belongs = λ n. rest.belongs n ∙ belongs_on role past b n;
      local = rest.local;
      remote = rest.remote;
      next = rest.next;
    }

-- the table after bytes of a payload
pub arrived : (role : Role) (past : List Item) (bytes : List ℕ) (table : Table) → Keeps role past table → length bytes ≤ bytes_left (arrivals past) → Keeps role (came_bytes bytes past) table
arrived role past bytes table keeps fits =
    let un = unmoved role bytes past in
    record {
      role_is = keeps.role_is;
      rows = λ m. rows_stay role bytes past m (row_at table.rows m) fits (keeps.rows m);
      own_is = keeps.own_is ∙ sym (ap (λ ns. length (filter (is_own role) ns)) un.same);
      remote_is = keeps.remote_is ∙ sym (ap (λ ns. length (filter (is_remote role) ns)) un.same);
      reading_is = keeps.reading_is ∙ sym un.read;
      takes = λ m. keeps.takes m ∙ sym (un.belongs m);
      local_go_away_is = keeps.local_go_away_is ∙ sym un.local;
      remote_go_away_is = keeps.remote_go_away_is ∙ sym un.remote;
      next_is = keeps.next_is ∙ sym un.next;
    }

-- ---- whose bytes they are

module _ (role : Role) (past : List Item) where
  abbrev belongs_to : Option Header → ℕ → Bool
  belongs_to r n = (is_reading r n && is_live role past n) && not (finished role past n)

  taken_by : (t : Option ℕ) (r : Option Header) → reading role past ≡ r → ((n : ℕ) → is_taker t n ≡ belongs_to r n) → t ≡ taker role past r
  taken_by None None read takes = refl
  taken_by (Some k) None read takes = absurd (let e : true ≡ false = sym (eq-eqb k k refl) ∙ takes k in cc)
  taken_by None (Some h) read takes = sym (ap (λ b. cond b (Some h.stream) None) (ap (λ r. belongs_to r h.stream) read ∙ sym (takes h.stream)))
  taken_by (Some k) (Some h) read takes = it (h.stream == k) refl
    where
      it : (b : Bool) → (h.stream == k) ≡ b → Some k ≡ taker role past (Some h)
      it true same =
          ap Some (sym (eqb-true h.stream k same))
          ∙ sym (ap (λ b. cond b (Some h.stream) None) (ap (λ r. belongs_to r h.stream) read ∙ sym (takes h.stream) ∙ eq-eqb k h.stream (sym (eqb-true h.stream k same))))
      it false other =
          absurd (let e : true ≡ false = sym (eq-eqb k k refl) ∙ takes k ∙ ap (λ b. (b && is_live role past k) && not (finished role past k)) other in cc)

  -- the stream that takes the payload
  pub taker_is : (table : Table) → Keeps role past table → table.taker ≡ taker role past (reading role past)
  taker_is table keeps = taken_by table.taker (reading role past) refl keeps.takes
