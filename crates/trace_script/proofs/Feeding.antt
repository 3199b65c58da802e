-- Pieces that are fed in turn.
use Rattle.std.proofs.Common.{◌≡◌, ℕ, ◌<◌, ◌≤◌, Bool, true, false, not, List, [], ◌∷◌, ◌++◌, length, take, drop, Option, zero, suc, refl, sym, ap, append-nil, append_assoc, arith, inl, inr, subst}
use Rattle.std.specs.Prelude.{min}
use Rattle.std.specs.Io.KnownBytes.{Appends}
use Rattle.std.proofs.lemmas.List.{length-append, length-take-le, take-append-drop}
use Rattle.std.proofs.KnownBytes.{Appends-nil, Appends-trans}
use Rattle.handlers.specs.Calls.{HandlerCall, Asked}
use Rattle.peer_ids.specs.Key.{Key}
use Rattle.upgrade.specs.declared.role.ConnRole.{ConnRole}
use Rattle.conn_core.specs.declared.connection.ConnCore.{ConnCore}
use Rattle.conn_core.specs.Connects.{is_over}
use Rattle.conn_core.specs.Runs.{Point, IsAt}
use Rattle.conn_core.specs.Runs.Point.{At, Spent}
use Rattle.conn_core.proofs.Points.{told_over}
use Rattle.conn_core.proofs.Steps.{spent_over}
use Rattle.trace_script.specs.Played.{goes_on, ArePieces, Feeds, FeedsEach}

-- bytes of any length are cut so
cut_up : (fuel size : ℕ) → 0 < size → (bytes : List ℕ) → length bytes ≤ fuel → (pieces : List (List ℕ)) × ArePieces size bytes pieces
cut_up fuel size some [] within = ([], refl)
cut_up zero size some (b ∷ bytes) within = absurd (omega (arith, within))
cut_up (suc fuel) size some (b ∷ bytes) within =
    let n = min size (length (b ∷ bytes)) in
    let whole : take n (b ∷ bytes) ++ drop n (b ∷ bytes) ≡ b ∷ bytes = take-append-drop n (b ∷ bytes) in
    let front : length (take n (b ∷ bytes)) ≡ n = length-take-le n (b ∷ bytes) (omega arith) in
    let back : length (drop n (b ∷ bytes)) ≤ fuel = omega (arith, within, some, ap length whole, length-append (take n (b ∷ bytes)) (drop n (b ∷ bytes)), front) in
    let rest = cut_up fuel size some (drop n (b ∷ bytes)) back in
    (take n (b ∷ bytes) ∷ rest.0, (drop n (b ∷ bytes), sym whole, omega (arith, some, front), front, rest.1))

pub pieces_of : (size : ℕ) → 0 < size → (bytes : List ℕ) → (pieces : List (List ℕ)) × ArePieces size bytes pieces
pieces_of size some bytes = cut_up (length bytes) size some bytes (omega arith)

module _ {P H : Type 0} (step : H → HandlerCall → H → Type 0) (fails : H → Asked → ℕ → Type 0)
    (is_closed is_finished : H → Bool) (inbound_makes outbound_makes : P → ℕ → List ℕ → H → Type 0)
    (listed : P → List (List ℕ)) (is_eager : P → ℕ → Bool)
    (inbound_leads outbound_leads : P → ℕ → List ℕ → H → P → Type 0) (start : P) (role : ConnRole) (own : Key) where
  -- it goes on while it is not over
  pub goes_at : (taken : List ℕ) (point : Point H) (core : ConnCore P H)
      → IsAt step fails is_closed is_finished inbound_makes outbound_makes listed is_eager inbound_leads outbound_leads start role own taken point core
      → goes_on point ≡ not (is_over core.phase)
  goes_at taken (At input ended log told owed) core at =
      ap not (told_over step fails is_closed is_finished inbound_makes outbound_makes listed is_eager inbound_leads outbound_leads start role own input ended log told taken core.phase core.owed.items core.output.items at.1.1)
  goes_at taken (Spent written) core at = ap not (sym (spent_over core.phase at.0))

  abbrev pub feeds_each : Point H → List (List ℕ) → List ℕ → Point H → Type 0
  feeds_each = FeedsEach step fails is_closed is_finished inbound_makes outbound_makes listed is_eager inbound_leads outbound_leads start role own

  -- some pieces of the bytes were fed, and whichever are fed then are fed behind them
  pub record Fed (size : ℕ) (bytes rest : List ℕ) (from : Point H) (taken : List ℕ) (core : ConnCore P H) (old new : Option (List ℕ)) : Type 0 where
    pub front : List (List ℕ)
    pub printed : List ℕ
    pub now : Point H
    pub appends : Appends old new printed
    pub is_at : IsAt step fails is_closed is_finished inbound_makes outbound_makes listed is_eager inbound_leads outbound_leads start role own taken now core
    pub then : (pieces : List (List ℕ)) (more : List ℕ) (next : Point H) → ArePieces size rest pieces → feeds_each now pieces more next
        → ArePieces size bytes (front ++ pieces) × feeds_each from (front ++ pieces) (printed ++ more) next

  pub fed_first : (size : ℕ) (bytes : List ℕ) (from : Point H) (taken : List ℕ) (core : ConnCore P H) (held : Option (List ℕ))
      → IsAt step fails is_closed is_finished inbound_makes outbound_makes listed is_eager inbound_leads outbound_leads start role own taken from core
      → Fed size bytes bytes from taken core held held
  fed_first size bytes from taken core held at = record {
    front = [];
    printed = [];
    now = from;
    appends = Appends-nil held;
    is_at = at;
    then = λ pieces more next are feeds. (are, feeds);
  }

  -- a piece more
  pub fed_more : (size : ℕ) (bytes rest more piece one : List ℕ) (from middle : Point H) (taken : List ℕ) (core after : ConnCore P H) (old between new : Option (List ℕ))
      (fed : Fed size bytes rest from taken core old between) → rest ≡ piece ++ more → 0 < length piece → length piece ≡ min size (length rest)
      → Feeds step fails is_closed is_finished inbound_makes outbound_makes listed is_eager inbound_leads outbound_leads start role own fed.now piece one middle
      → goes_on middle ≡ true → Appends between new one
      → IsAt step fails is_closed is_finished inbound_makes outbound_makes listed is_eager inbound_leads outbound_leads start role own taken middle after
      → Fed size bytes more from taken after old new
  fed_more size bytes rest more piece one from middle taken core after old between new fed parts some sized feeds goes appends at = record {
    front = fed.front ++ piece ∷ [];
    printed = fed.printed ++ one;
    now = middle;
    appends = Appends-trans old between new fed.printed one fed.appends appends;
    is_at = at;
    then = λ pieces later next are feeds_then.
        let both = fed.then (piece ∷ pieces) (one ++ later) next (more, parts, some, sized, are) (one, later, middle, feeds, refl, inl (goes, feeds_then)) in
        let in_front : (fed.front ++ piece ∷ []) ++ pieces ≡ fed.front ++ (piece ∷ pieces) = append_assoc fed.front (piece ∷ []) pieces in
        let in_print : (fed.printed ++ one) ++ later ≡ fed.printed ++ (one ++ later) = append_assoc fed.printed one later in (
          subst (ArePieces size bytes) (sym in_front) both.0,
          subst (λ (ps : List (List ℕ)). feeds_each from ps ((fed.printed ++ one) ++ later) next) (sym in_front)
              (subst (λ (t : List ℕ). feeds_each from (fed.front ++ (piece ∷ pieces)) t next) (sym in_print) both.1),
        );
  }

  abbrev pub FedAll : ℕ → List ℕ → Point H → List ℕ → ConnCore P H → Option (List ℕ) → Option (List ℕ) → Type 0
  FedAll size bytes from taken core old new = (pieces : List (List ℕ)) × (printed : List ℕ) × (next : Point H) × ArePieces size bytes pieces
      × feeds_each from pieces printed next × Appends old new printed
      × IsAt step fails is_closed is_finished inbound_makes outbound_makes listed is_eager inbound_leads outbound_leads start role own taken next core

  -- all of them were
  pub fed_all : (size : ℕ) (bytes : List ℕ) (from : Point H) (taken : List ℕ) (core : ConnCore P H) (old new : Option (List ℕ))
      → Fed size bytes [] from taken core old new → FedAll size bytes from taken core old new
  fed_all size bytes from taken core old new fed =
      let both = fed.then [] [] fed.now refl (refl, refl) in
      let same : fed.printed ++ [] ≡ fed.printed = append-nil fed.printed in
      (fed.front ++ [], fed.printed, fed.now, both.0, subst (λ (t : List ℕ). feeds_each from (fed.front ++ []) t fed.now) same both.1, fed.appends, fed.is_at)

  -- or the connection is over behind the last that was
  pub fed_last : (size : ℕ) → 0 < size → (bytes rest more piece one : List ℕ) (from middle : Point H) (taken : List ℕ) (core after : ConnCore P H) (old between new : Option (List ℕ))
      (fed : Fed size bytes rest from taken core old between) → rest ≡ piece ++ more → 0 < length piece → length piece ≡ min size (length rest)
      → Feeds step fails is_closed is_finished inbound_makes outbound_makes listed is_eager inbound_leads outbound_leads start role own fed.now piece one middle
      → goes_on middle ≡ false → Appends between new one
      → IsAt step fails is_closed is_finished inbound_makes outbound_makes listed is_eager inbound_leads outbound_leads start role own taken middle after
      → FedAll size bytes from taken after old new
  fed_last size positive bytes rest more piece one from middle taken core after old between new fed parts some sized feeds ends appends at =
      let others = pieces_of size positive more in
      let both = fed.then (piece ∷ others.0) (one ++ []) middle (more, parts, some, sized, others.1) (one, [], middle, feeds, refl, inr (ends, refl, refl)) in
      let same : fed.printed ++ (one ++ []) ≡ fed.printed ++ one = ap (λ (t : List ℕ). fed.printed ++ t) (append-nil one) in (
        fed.front ++ (piece ∷ others.0),
        fed.printed ++ one,
        middle,
        both.0,
        subst (λ (t : List ℕ). feeds_each from (fed.front ++ (piece ∷ others.0)) t middle) same both.1,
        Appends-trans old between new fed.printed one fed.appends appends,
        at,
      )
