-- What a call of the link moved, by its answer.
use Rattle.std.proofs.Common.{◌≡◌, ◌≢◌, ◌<◌, ◌⊎◌, inl, inr, ℕ, zero, suc, true, List, [], ◌∷◌, ◌++◌, take, drop, length, Result, Ok, Err, arith, refl, ap, sym, ◌∙◌, append_assoc}
use Rattle.std.proofs.lemmas.List.{take-append-drop}
use Rattle.futures.specs.declared.task.Poll.{Poll}
use Rattle.futures.specs.declared.task.Poll.TheVariants.{Ready, Pending}
use Rattle.conn_link.specs.declared.link.LinkFault.{LinkFault}
use Rattle.conn_link.specs.declared.link.Link.{Ghosts as LinkGhosts}
use Rattle.conn_link.specs.Moving.{bytes_moved, found_end, MovesNothing, MovesOn}
use Rattle.conn_future.specs.Stages.{Drains, Came}

pub of_count : (polled : Poll (Result ℕ LinkFault)) (bytes all : List ℕ) (count : ℕ) → polled ≡ Ready (Ok count) → bytes ≡ all
    → bytes_moved polled bytes ≡ take count all
of_count polled bytes all count is same = ap (λ p. bytes_moved p bytes) is ∙ ap (λ l. take count l) same

pub of_fault : (polled : Poll (Result ℕ LinkFault)) (bytes : List ℕ) (fault : LinkFault) → polled ≡ Ready (Err fault) → bytes_moved polled bytes ≡ []
of_fault polled bytes fault is = ap (λ p. bytes_moved p bytes) is

pub of_pending : (polled : Poll (Result ℕ LinkFault)) (bytes : List ℕ) → polled ≡ Pending → bytes_moved polled bytes ≡ []
of_pending polled bytes is = ap (λ p. bytes_moved p bytes) is

-- an answer that is no end has found none
pub found_none : (Before : Type 0) (room : ℕ) (polled answer : Poll (Result ℕ LinkFault)) → polled ≡ answer → (found_end room answer ≡ true → ⊥)
    → (Before ⊎ (found_end room polled ≡ true)) → Before
found_none Before room polled answer is not (inl before) = before
found_none Before room polled answer is not (inr ended) = absurd (not (ap (found_end room) (sym is) ∙ ended))

pub fault_ends_not : (room : ℕ) (fault : LinkFault) → found_end room (Ready (Err fault)) ≡ true → ⊥
fault_ends_not zero fault is = cc is
fault_ends_not (suc room) fault is = cc is

pub pending_ends_not : (room : ℕ) → found_end room Pending ≡ true → ⊥
pending_ends_not zero is = cc is
pending_ends_not (suc room) is = cc is

pub some_end_not : (room count : ℕ) → count ≢ 0 → found_end room (Ready (Ok count)) ≡ true → ⊥
some_end_not zero count some is = cc is
some_end_not (suc room) zero some is = some refl
some_end_not (suc room) (suc count) some is = cc is

-- none, where there is room, is the end
pub none_ends : (room : ℕ) (polled : Poll (Result ℕ LinkFault)) → polled ≡ Ready (Ok 0) → 0 < room → found_end room polled ≡ true
none_ends zero polled is some = absurd (omega (arith, some))
none_ends (suc room) polled is some = ap (found_end (suc room)) is

-- ---- something came

-- a read that moved some
pub some_moved : (count : ℕ) (buffer : List ℕ) → count ≢ 0 → 0 < length buffer → take count buffer ≢ []
some_moved zero buffer some room none = some refl
some_moved (suc count) [] some room none = absurd (omega (arith, room))
some_moved (suc count) (byte ∷ buffer) some room none = cc none

none_behind : (before behind : List ℕ) → before ++ behind ≡ [] → behind ≡ []
none_behind [] behind none = none
none_behind (byte ∷ before) behind none = absurd (cc none)

-- in turn
pub came_on : {L : Type 0} (link : LinkGhosts L) → MovesOn link.moves → (first mid last : L) (given took : List ℕ)
    → link.moves first given took mid → Came link mid last → Came link first last
came_on link on first mid last given took moved came = record {
  given = given ++ came.given;
  took = took ++ came.took;
  moved = on first mid last given took came.given came.took moved came.moved;
  some = elim came.some [
    | inl some ↦ inl (λ none. some (none_behind given came.given none))
    | inr ended ↦ inr ended
  ];
}

-- a read has room
pub some_room : (room buffer : List ℕ) → room ≡ buffer → length buffer ≡ 8192 → 0 < length room
some_room room buffer is long = let all : length room ≡ 8192 = ap length is ∙ long in omega (arith, all)

-- ---- behind shut

module _ {L : Type 0} (link : LinkGhosts L) where
  pub drains_none : MovesNothing link.moves → (now : L) (left : List ℕ) → Drains link now left now left
  drains_none nothing now left = record { took = []; parts = refl; moved = nothing now; unshut = λ shut. inl shut }

  -- a call that writes took so many
  pub drains_some : (now next : L) (left rest : List ℕ) (count : ℕ) → rest ≡ drop count left → link.moves now [] (take count left) next
      → (link.is_shut next → link.is_shut now) → Drains link now left next rest
  drains_some now next left rest count is moved not_shut = record {
    took = take count left;
    parts = sym (ap (λ l. take count left ++ l) is ∙ take-append-drop count left);
    moved = moved;
    unshut = λ shut. inl (not_shut shut);
  }

  -- one that failed or was pending took none
  pub drains_still : (now next : L) (left : List ℕ) → link.moves now [] [] next → (link.is_shut next → link.is_shut now) → Drains link now left next left
  drains_still now next left moved not_shut = record { took = []; parts = refl; moved = moved; unshut = λ shut. inl (not_shut shut) }

  -- none was left, and it was told to shut
  pub drains_shut : (now next : L) (left : List ℕ) → left ≡ [] → link.moves now [] [] next → Drains link now left next []
  drains_shut now next left none moved = record { took = []; parts = none; moved = moved; unshut = λ shut. inr refl }

  none_then : (left took rest : List ℕ) → left ≡ took ++ rest → left ≡ [] → rest ≡ []
  none_then left [] rest parts none = sym parts ∙ none
  none_then left (byte ∷ took) rest parts none = absurd (cc (parts, none))

  shut_before : (first mid last : L) (mid_left rest : List ℕ) → (link.is_shut mid → link.is_shut first ⊎ (mid_left ≡ []))
      → (mid_left ≡ [] → rest ≡ []) → link.is_shut mid ⊎ (rest ≡ []) → link.is_shut first ⊎ (rest ≡ [])
  shut_before first mid last mid_left rest before none (inr is) = inr is
  shut_before first mid last mid_left rest before none (inl shut) = elim (before shut) [
    | inl was ↦ inl was
    | inr is ↦ inr (none is)
  ]

  -- in turn
  pub drains_on : MovesOn link.moves → (first mid last : L) (left mid_left rest : List ℕ)
      → Drains link first left mid mid_left → Drains link mid mid_left last rest → Drains link first left last rest
  drains_on on first mid last left mid_left rest before behind = record {
    took = before.took ++ behind.took;
    parts = before.parts ∙ ap (λ l. before.took ++ l) behind.parts ∙ sym (append_assoc before.took behind.took rest);
    moved = on first mid last [] before.took [] behind.took before.moved behind.moved;
    unshut = λ shut. shut_before first mid last mid_left rest before.unshut (none_then mid_left behind.took rest behind.parts) (behind.unshut shut);
  }
