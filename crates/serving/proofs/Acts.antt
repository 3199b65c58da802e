-- What writing, taking and closing of a stream change of it.
use Rattle.std.proofs.Common.{◌≡◌, ℕ, ◌-◌, ◌==◌, true, not, ◌&&◌, cond, List, ◌∷◌, ◌++◌, length, refl, ap, ◌∙◌, arith}
use Rattle.std.specs.List.{concat}
use Rattle.std.specs.Prelude.{sum_by}
use Rattle.yamux_session.specs.declared.event.Role.{Role}
use Rattle.yamux_session.specs.History.{Item}
use Rattle.yamux_session.specs.History.Item.{Did}
use Rattle.yamux_session.specs.History.Act.{Write, Taken, Close}
use Rattle.yamux_session.specs.Openings.{is_live, closed}
use Rattle.yamux_session.specs.Windows.{credit, untaken}
use Rattle.yamux_session.specs.Data.{written}
use Rattle.yamux_session.specs.Seen.{Seen, seen, Windows, windows, ActsDo, ActsMove}
use Rattle.yamux_session.proofs.Pieces.{length_concat}

same : (n : ℕ) → (n == n) ≡ true
same n = Rattle.std.proofs.lemmas.Bool.eq-eqb n n refl

-- these are of the stream what they were
pub record Keeps (role : Role) (past now : List Item) (n : ℕ) : Type 0 where
  pub written_is : written role now n ≡ written role past n
  pub credit_is : credit role now n ≡ credit role past n
  pub closed_is : closed role now n ≡ closed role past n
  pub live_is : is_live role now n ≡ is_live role past n

pub record HasWritten (role : Role) (past now : List Item) (n : ℕ) (bytes : List ℕ) : Type 0 where
  pub written_is : written role now n ≡ written role past n ++ bytes
  pub credit_is : credit role now n ≡ credit role past n - length bytes
  pub closed_is : closed role now n ≡ closed role past n
  pub live_is : is_live role now n ≡ is_live role past n
  pub untaken_is : untaken role now n ≡ untaken role past n

module _ (acts_do : ActsDo) (acts_move : ActsMove) where
  pub taken_keeps : (role : Role) (past : List Item) (n count : ℕ) → Keeps role past (Did (Taken n count) ∷ past) n
  taken_keeps role past n count =
      let seen_is = acts_do role past (Taken n count) n in
      let windows_are = acts_move role past (Taken n count) n ∙ ap (λ b. cond b (record (windows role past n) { untaken = untaken role past n - count }) (windows role past n)) (same n) in
      record {
        written_is = ap (λ (s : Seen). s.sent) seen_is;
        credit_is = ap (λ (w : Windows). w.credit) windows_are;
        closed_is = ap (λ (s : Seen). s.closed) seen_is;
        live_is = ap (λ (s : Seen). s.live) seen_is;
      }

  pub none_left : (role : Role) (past : List Item) (n : ℕ) → untaken role (Did (Taken n (untaken role past n)) ∷ past) n ≡ 0
  none_left role past n =
      let count = untaken role past n in
      let windows_are = acts_move role past (Taken n count) n ∙ ap (λ b. cond b (record (windows role past n) { untaken = untaken role past n - count }) (windows role past n)) (same n) in
      let left : untaken role (Did (Taken n count) ∷ past) n ≡ count - count = ap (λ (w : Windows). w.untaken) windows_are in
      omega (arith, left)

  pub has_written : (role : Role) (past : List Item) (n : ℕ) (pieces : List (List ℕ)) → HasWritten role past (Did (Write n pieces) ∷ past) n (concat pieces)
  has_written role past n pieces =
      let before = seen role past n in
      let seen_is = acts_do role past (Write n pieces) n ∙ ap (λ b. cond b (record before { sent = before.sent ++ concat pieces }) before) (same n) in
      let windows_are = acts_move role past (Write n pieces) n ∙ ap (λ b. cond b (record (windows role past n) { credit = credit role past n - sum_by length pieces }) (windows role past n)) (same n) in
      record {
        written_is = ap (λ (s : Seen). s.sent) seen_is;
        credit_is = ap (λ (w : Windows). w.credit) windows_are ∙ ap (λ k. credit role past n - k) (length_concat pieces);
        closed_is = ap (λ (s : Seen). s.closed) seen_is;
        live_is = ap (λ (s : Seen). s.live) seen_is;
        untaken_is = ap (λ (w : Windows). w.untaken) windows_are;
      }

  -- a stream that was closed
  pub is_closed_then : (role : Role) (past : List Item) (n : ℕ) → closed role (Did (Close n) ∷ past) n ≡ true
  is_closed_then role past n =
      let before = seen role past n in
      ap (λ (s : Seen). s.closed) (acts_do role past (Close n) n ∙ ap (λ b. cond b (record before { closed = true; live = before.live && not before.ended }) before) (same n))

  pub closing_writes_nothing : (role : Role) (past : List Item) (n : ℕ) → written role (Did (Close n) ∷ past) n ≡ written role past n
  closing_writes_nothing role past n =
      let before = seen role past n in
      ap (λ (s : Seen). s.sent) (acts_do role past (Close n) n ∙ ap (λ b. cond b (record before { closed = true; live = before.live && not before.ended }) before) (same n))

  pub closing_keeps_credit : (role : Role) (past : List Item) (n : ℕ) → credit role (Did (Close n) ∷ past) n ≡ credit role past n
  closing_keeps_credit role past n = ap (λ (w : Windows). w.credit) (acts_move role past (Close n) n)

  pub closing_takes_nothing : (role : Role) (past : List Item) (n : ℕ) → untaken role (Did (Close n) ∷ past) n ≡ untaken role past n
  closing_takes_nothing role past n = ap (λ (w : Windows). w.untaken) (acts_move role past (Close n) n)
