-- A listing keeps to the limits.
use Rattle.std.proofs.Common.{◌≡◌, ◌≢◌, ◌∙◌, ℕ, zero, suc, ◌≤◌, Bool, true, false, ◌||◌, List, [], ◌∷◌, map, Option, Some, slice_index, slice_index_or, refl, ap, arith}
use Rattle.std.specs.List.{All, Contains}
use Rattle.std.specs.Str.{bytes_eq}
use Rattle.std.proofs.lemmas.Bool.{false≢true}
use Rattle.std.proofs.lemmas.List.Elements.{All-map}
use Rattle.std.proofs.lemmas.Slice.Eq.{bytes_eq-Decides}
use Rattle.pool_state.specs.declared.limits.Config.{Config}
use Rattle.pool_state.specs.declared.row.Row.{Row}
use Rattle.pool_state.specs.declared.row.Phase.TheVariants as phase
use Rattle.pool_state.specs.Parts.{Peer, has, is_peer}
use Rattle.pool_state.specs.Table.{open_streams}
use Rattle.pool_state.specs.History.{Entry, allowed, blocked}
use Rattle.pool_state.specs.Shown.{row_of, standing, Shown, IsLegal}
use Rattle.pool_state.specs.Bounded.{IsBounded}
use Rattle.pool_state.proofs.Bounds.{few_rows, few_conns, few_inbound, few_outbound}
use Rattle.pool_state.proofs.Streams.{IsWithin, are_within}
use Rattle.pool_state.proofs.Peers.{few_blocked, few_allowed}
use Rattle.pool_state.proofs.Closed.{are_shut}
use Rattle.pool_state.proofs.Allowed.{are_out}
use Rattle.pool_state.proofs.Rising.{rows_rise}

same_bytes : (p : Peer) → bytes_eq p p ≡ true
same_bytes p = (bytes_eq-Decides p p).1 refl

-- a row that has the peer passes the test for it
has_its_peer : (o : Option Peer) (p : Peer) → o ≡ Some p → is_peer p o ≡ true
has_its_peer o p e = ap (is_peer p) e ∙ same_bytes p

or_later : (a b : Bool) → b ≡ true → (a || b) ≡ true
or_later true b e = refl
or_later false b e = e

-- the test of a list finds its elements, and nothing else
finds : (ps : List Peer) (p : Peer) → Contains ps p → has ps p ≡ true
finds [] p c = absurd (omega (arith, c.1))
finds (q ∷ ps) p (zero, l, e) = ap (λ (z : Peer). bytes_eq z p || has ps p) e ∙ ap (λ b. b || has ps p) (same_bytes p)
finds (q ∷ ps) p (suc k, l, e) = or_later (bytes_eq q p) (has ps p) (finds ps p (k, omega arith, e))

found : (ps : List Peer) (p : Peer) → has ps p ≡ true → Contains ps p
found [] p h = absurd (false≢true h)
found (q ∷ ps) p h = by_case (bytes_eq q p) refl h (λ later. found ps p later)
  where
    by_case : (b : Bool) → bytes_eq q p ≡ b → (b || has ps p) ≡ true → (has ps p ≡ true → Contains ps p) → Contains (q ∷ ps) p
    by_case true e h rest = (zero, omega arith, (bytes_eq-Decides q p).0 e)
    by_case false e h rest = let c : Contains ps p = rest h in (suc c.0, omega (arith, c.1), c.2)

each : (P : Row → Type 0) (config : Config) (h : List Entry) → ((n : ℕ) → P (row_of config h n)) → All P (map (row_of config h) (standing config h))
each P config h fact = All-map P (row_of config h) (standing config h) (λ k d l. fact (slice_index_or (standing config h) k d))

done_within : (limit : ℕ) (config : Config) (h : List Entry) (n : ℕ) → IsWithin limit (row_of config h n) → (i : ℕ) → slice_index (row_of config h n).done i ≤ slice_index (row_of config h n).asked i
done_within limit config h n w zero = w.done0
done_within limit config h n w (suc zero) = w.done1
done_within limit config h n w (suc (suc zero)) = w.done2
done_within limit config h n w (suc (suc (suc i))) = omega arith

pub is_bounded : (config : Config) (h : List Entry) → IsLegal config h → IsBounded config (Shown config h)
is_bounded config h legal =
    let w = are_within config h legal in
    record {
      conns = few_conns config h legal;
      inbound = few_inbound config h legal;
      outbound = few_outbound config h legal;
      per_peer = few_rows config h legal;
      done = each (λ row. (i : ℕ) → slice_index row.done i ≤ slice_index row.asked i) config h (λ n. done_within config.limits.streams config h n (w n));
      streams = each (λ row. open_streams row ≤ config.limits.streams) config h (λ n. (w n).opened);
      blocked = few_blocked config h legal;
      allowed = few_allowed config h legal;
      blocked_close = each (λ row. (p : Peer) → row.peer ≡ Some p → Contains (blocked h) p → row.phase ≡ phase.Closing) config h
          (λ n p is listed. are_shut config h legal n p (finds (blocked h) p listed) (has_its_peer (row_of config h n).peer p is));
      allowed_stay = λ mode. each (λ row. (p : Peer) → row.peer ≡ Some p → row.phase ≢ phase.Closing → Contains (allowed h) p) config h
          (λ n p is stays. found (allowed h) p (are_out config mode h legal n p (has_its_peer (row_of config h n).peer p is) stays));
      rising = rows_rise config h;
    }
