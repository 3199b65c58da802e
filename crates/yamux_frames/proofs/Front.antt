-- A prefix of the bytes of whole frames is read as a prefix of these frames.
use Rattle.std.proofs.Common.{◌≡◌, ℕ, ◌<◌, ◌≤◌, ◌⊎◌, inl, inr, cond, ◌==◌, List, [], ◌∷◌, ◌++◌, length, get_or, take, drop, refl, sym, ap, ◌∙◌, subst, append_assoc, arith}
use Rattle.std.proofs.lemmas.List.{append-nil, append_cancel_left}
use Rattle.std.specs.Int.{w16, w32, from_be_bytes}
use Rattle.std.proofs.lemmas.Nat.{from_be_bytes-to_be_bytes_2, from_be_bytes-to_be_bytes_4}
use Rattle.yamux_frames.specs.declared.header.Header.{Header}
use Rattle.yamux_frames.specs.declared.header.FrameKind.{FrameKind}
use Rattle.yamux_frames.specs.declared.header.FrameKind.TheVariants.{Payload, Window, Ping, GoAway}
use Rattle.yamux_frames.specs.declared.header.FrameFault.{FrameFault}
use Rattle.yamux_frames.specs.declared.header.FrameFault.TheVariants.{BadVersion, BadType}
use Rattle.yamux_frames.specs.Spelling.{header_bytes, type_number, IsHeader, HasFault}
use Rattle.yamux_frames.specs.Frames.{Arrival, spelling, spelled, bytes_left, IsBetween, IsWithin, AreFrames, IsSound}
use Rattle.yamux_frames.specs.Frames.Arrival.{Head, Byte, Tail, Garbled}

-- ---- one header

abbrev pub kind_of : ℕ → FrameKind
kind_of n = cond (n == 0) Payload (cond (n == 1) Window (cond (n == 2) Ping GoAway))

kind_again : (k : FrameKind) → kind_of (type_number k) ≡ k
kind_again Payload = refl
kind_again Window = refl
kind_again Ping = refl
kind_again GoAway = refl

type_small : (k : FrameKind) → type_number k ≤ 3
type_small Payload = omega arith
type_small Window = omega arith
type_small Ping = omega arith
type_small GoAway = omega arith

pub one_header : (g h : Header) (xs ys : List ℕ) → IsHeader g → IsHeader h → header_bytes g ++ xs ≡ header_bytes h ++ ys → (g ≡ h) × (xs ≡ ys)
one_header g h xs ys gs hs e =
    let kind : g.kind ≡ h.kind = sym (kind_again g.kind) ∙ ap (λ (t : List ℕ). kind_of (get_or t 1 0)) e ∙ kind_again h.kind in
    let flags : g.flags ≡ h.flags = sym (from_be_bytes-to_be_bytes_2 g.flags gs.flags) ∙ ap (λ (t : List ℕ). from_be_bytes w16 (take 2 (drop 2 t))) e ∙ from_be_bytes-to_be_bytes_2 h.flags hs.flags in
    let stream : g.stream ≡ h.stream = sym (from_be_bytes-to_be_bytes_4 g.stream gs.stream) ∙ ap (λ (t : List ℕ). from_be_bytes w32 (take 4 (drop 4 t))) e ∙ from_be_bytes-to_be_bytes_4 h.stream hs.stream in
    let len : g.length ≡ h.length = sym (from_be_bytes-to_be_bytes_4 g.length gs.length) ∙ ap (λ (t : List ℕ). from_be_bytes w32 (take 4 (drop 8 t))) e ∙ from_be_bytes-to_be_bytes_4 h.length hs.length in (
      ap (λ k. record { kind = k; flags = g.flags; stream = g.stream; length = g.length }) kind
          ∙ ap (λ k. record { kind = h.kind; flags = k; stream = g.stream; length = g.length }) flags
          ∙ ap (λ k. record { kind = h.kind; flags = h.flags; stream = k; length = g.length }) stream
          ∙ ap (λ k. record { kind = h.kind; flags = h.flags; stream = h.stream; length = k }) len,
      ap (λ (t : List ℕ). drop 12 t) e,
    )

pub twelve : (bytes : List ℕ) (fault : FrameFault) → HasFault bytes fault → length bytes ≡ 12
twelve bytes BadVersion bad = bad.0
twelve bytes BadType bad = bad.0

pub no_header : (h : Header) (bytes xs ys : List ℕ) (fault : FrameFault) → HasFault bytes fault → header_bytes h ++ xs ≡ bytes ++ ys → ⊥
no_header h [] xs ys fault bad e = absurd (let none = twelve [] fault bad in omega arith)
no_header h (v ∷ []) xs ys fault bad e = absurd (let none = twelve (v ∷ []) fault bad in omega arith)
no_header h (v ∷ k ∷ bytes) xs ys BadVersion bad e = bad.1 (sym (ap (λ (t : List ℕ). get_or t 0 0) e))
no_header h (v ∷ k ∷ bytes) xs ys BadType bad e =
    let same : type_number h.kind ≡ k = ap (λ (t : List ℕ). get_or t 1 0) e in
    let small = type_small h.kind in
    let large = bad.2 in
    omega arith

-- ---- lists

pub spelled_both : (xs ys : List Arrival) → spelled (xs ++ ys) ≡ spelled ys ++ spelled xs
spelled_both [] ys = sym (append-nil (spelled ys))
spelled_both (x ∷ xs) ys = ap (λ (t : List ℕ). t ++ spelling x) (spelled_both xs ys) ∙ append_assoc (spelled ys) (spelled xs) (spelling x)

-- the oldest of a list, which stands last
pub record Oldest (xs : List Arrival) : Type 0 where
  pub newer : List Arrival
  pub oldest : Arrival
  pub whole : xs ≡ newer ++ oldest ∷ []

pub oldest_of : (xs : List Arrival) → (xs ≡ []) ⊎ Oldest xs
oldest_of [] = inl refl
oldest_of (x ∷ xs) =
    elim (oldest_of xs) [
      | inl none ↦ inr (record { newer = []; oldest = x; whole = ap (λ (t : List Arrival). x ∷ t) none })
      | inr more ↦ inr (record { newer = x ∷ more.newer; oldest = more.oldest; whole = ap (λ (t : List Arrival). x ∷ t) more.whole })
    ]

-- ---- frames

pub past_frames : (x : Arrival) (past : List Arrival) → AreFrames (x ∷ past) → AreFrames past
past_frames (Head h) past are = are.2
past_frames (Byte b) past are = are.1
past_frames Tail past are = are.2
past_frames (Garbled bytes) past are = are.2

pub older_frames : (xs past : List Arrival) → AreFrames (xs ++ past) → AreFrames past
older_frames [] past are = are
older_frames (x ∷ xs) past are = older_frames xs past (past_frames x (xs ++ past) are)

pub between_none : (past : List Arrival) → IsBetween past → bytes_left past ≡ 0
between_none [] b = refl
between_none (Tail ∷ past) b = refl
between_none (Head h ∷ past) b = absurd b
between_none (Byte x ∷ past) b = absurd b
between_none (Garbled bytes ∷ past) b = absurd b

pub not_both : (past : List Arrival) → IsBetween past → IsWithin past → ⊥
not_both [] b w = w
not_both (Tail ∷ past) b w = w
not_both (Head h ∷ past) b w = b
not_both (Byte x ∷ past) b w = b
not_both (Garbled bytes ∷ past) b w = b

good_between : (past : List Arrival) → IsBetween past → IsSound past
good_between [] b = tt
good_between (Tail ∷ past) b = tt
good_between (Head h ∷ past) b = tt
good_between (Byte x ∷ past) b = tt
good_between (Garbled bytes ∷ past) b = b

good_left : (past : List Arrival) → 0 < bytes_left past → IsSound past
good_left [] b = tt
good_left (Tail ∷ past) b = tt
good_left (Head h ∷ past) b = tt
good_left (Byte x ∷ past) b = tt
good_left (Garbled bytes ∷ past) b = absurd (omega arith)

good_within : (past : List Arrival) → IsWithin past → IsSound past
good_within [] w = tt
good_within (Tail ∷ past) w = tt
good_within (Head h ∷ past) w = tt
good_within (Byte x ∷ past) w = tt
good_within (Garbled bytes ∷ past) w = w

good_past : (x : Arrival) (past : List Arrival) → AreFrames (x ∷ past) → IsSound past
good_past (Head h) past are = good_between past are.0
good_past (Byte b) past are = good_left past are.0
good_past Tail past are = good_within past are.0
good_past (Garbled bytes) past are = good_between past are.0

pub same_front : (xs ys us vs : List ℕ) → length xs ≡ length ys → xs ++ us ≡ ys ++ vs → xs ≡ ys
same_front [] [] us vs n e = refl
same_front [] (y ∷ ys) us vs n e = absurd (omega arith)
same_front (x ∷ xs) [] us vs n e = absurd (omega arith)
same_front (x ∷ xs) (y ∷ ys) us vs n e =
    let head : x ≡ y = ap (λ (t : List ℕ). get_or t 0 0) e in
    let rest : xs ≡ ys = same_front xs ys us vs (omega arith) (ap (λ (t : List ℕ). drop 1 t) e) in
    ap (λ k. k ∷ xs) head ∙ ap (λ (t : List ℕ). y ∷ t) rest

-- behind the same frames the same bytes begin the same arrival
pub same_next : (x y : Arrival) (past : List Arrival) (xs ys : List ℕ) → AreFrames (x ∷ past) → AreFrames (y ∷ past) → spelling x ++ xs ≡ spelling y ++ ys → x ≡ y
same_next (Head h) (Head g) past xs ys a b e = ap Head (one_header h g xs ys a.1 b.1 e).0
same_next (Head h) (Byte c) past xs ys a b e = absurd (let none = between_none past a.0 in let some = b.0 in omega arith)
same_next (Head h) Tail past xs ys a b e = absurd (not_both past a.0 b.0)
same_next (Head h) (Garbled bytes) past xs ys a b e = absurd (no_header h bytes xs ys b.1.0 b.1.1 e)
same_next (Byte c) (Head h) past xs ys a b e = absurd (let none = between_none past b.0 in let some = a.0 in omega arith)
same_next (Byte c) (Byte d) past xs ys a b e = ap Byte (ap (λ (t : List ℕ). get_or t 0 0) e)
same_next (Byte c) Tail past xs ys a b e = absurd (let none = b.1 in let some = a.0 in omega arith)
same_next (Byte c) (Garbled bytes) past xs ys a b e = absurd (let none = between_none past b.0 in let some = a.0 in omega arith)
same_next Tail (Head h) past xs ys a b e = absurd (not_both past b.0 a.0)
same_next Tail (Byte c) past xs ys a b e = absurd (let none = a.1 in let some = b.0 in omega arith)
same_next Tail Tail past xs ys a b e = refl
same_next Tail (Garbled bytes) past xs ys a b e = absurd (not_both past b.0 a.0)
same_next (Garbled bytes) (Head h) past xs ys a b e = absurd (no_header h bytes ys xs a.1.0 a.1.1 (sym e))
same_next (Garbled bytes) (Byte c) past xs ys a b e = absurd (let none = between_none past a.0 in let some = b.0 in omega arith)
same_next (Garbled bytes) Tail past xs ys a b e = absurd (not_both past a.0 b.0)
same_next (Garbled bytes) (Garbled more) past xs ys a b e = ap Garbled (same_front bytes more xs ys (twelve bytes a.1.0 a.1.1 ∙ sym (twelve more b.1.0 b.1.1)) e)

-- whole frames don't end before an arrival that has come
no_end : (x : Arrival) (past : List Arrival) (xs : List ℕ) → AreFrames (x ∷ past) → IsSound (x ∷ past) → IsBetween past → [] ≡ spelling x ++ xs → ⊥
no_end (Head h) past xs are good between e = cc
no_end (Byte b) past xs are good between e = cc
no_end Tail past xs are good between e = not_both past between are.0
no_end (Garbled bytes) past xs are good between e = good

pub prefix : (frames some : List Arrival) (rest : List ℕ) → AreFrames frames → IsBetween frames → AreFrames some → IsSound some → spelled frames ≡ spelled some ++ rest
    → (way : List Arrival) × (frames ≡ way ++ some)
prefix frames [] rest are whole some good e = (frames, sym (append-nil frames))
prefix frames (x ∷ past) rest are whole some good e =
    let before = prefix frames past (spelling x ++ rest) are whole (past_frames x past some) (good_past x past some) (e ∙ append_assoc (spelled past) (spelling x) rest) in
    elim (oldest_of before.0) [
      | inl none ↦
          let same : frames ≡ past = before.1 ∙ ap (λ (t : List Arrival). t ++ past) none in
          absurd (no_end x past rest some good (subst IsBetween same whole)
          (append_cancel_left (spelled past) [] (spelling x ++ rest) (append-nil (spelled past) ∙ sym (ap spelled same) ∙ e ∙ append_assoc (spelled past) (spelling x) rest)))
      | inr more ↦
          let w : List Arrival = more.newer in
          let y : Arrival = more.oldest in
          let split : frames ≡ w ++ (y ∷ past) = before.1 ∙ ap (λ (t : List Arrival). t ++ past) more.whole ∙ append_assoc w (y ∷ []) past in
          let same : x ≡ y = same_next x y past rest (spelled w) some (older_frames w (y ∷ past) (subst AreFrames split are))
          (append_cancel_left (spelled past) (spelling x ++ rest) (spelling y ++ spelled w)
          (sym (append_assoc (spelled past) (spelling x) rest) ∙ sym e ∙ ap spelled split ∙ spelled_both w (y ∷ past) ∙ append_assoc (spelled past) (spelling y) (spelled w))) in
          (w, split ∙ ap (λ z. w ++ (z ∷ past)) (sym same))
    ]
