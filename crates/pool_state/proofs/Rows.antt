-- What one more entry does to a row.
use Rattle.std.proofs.Common.{◌≡◌, ◌∙◌, ℕ, ◌+◌, ◌-◌, ◌^◌, ◌<◌, Bool, true, false, ◌||◌, cond, List, [], ◌∷◌, ◌++◌, Option, refl, ap, arith, slice_index}
use Rattle.std.specs.Bool.{if◌then◌else◌}
use Rattle.std.specs.List.{list_any, count_by}
use Rattle.std.proofs.lemmas.List.Sums.{sum_by-append}
use Rattle.pool_state.specs.declared.call.Call.{Call}
use Rattle.pool_state.specs.declared.call.Reply.{Reply}
use Rattle.pool_state.specs.declared.limits.Config.{Config}
use Rattle.pool_state.specs.declared.row.Row.{Row}
use Rattle.pool_state.specs.declared.row.Agent.{Agent}
use Rattle.pool_state.specs.declared.row.Phase.{Phase}
use Rattle.pool_state.specs.declared.row.Phase.TheVariants as phase
use Rattle.pool_state.specs.declared.row.ConnSide.{ConnSide}
use Rattle.pool_state.specs.declared.row.ConnSide.TheVariants as side
use Rattle.pool_state.specs.Parts.{Peer}
use Rattle.pool_state.specs.History.{Entry, entry, closes, same_peer, peer_of, peer_named, agent_noted, settles, asks, finishes, is_dialed, is_closed}
use Rattle.pool_state.specs.Shown.{row_of}
use Rattle.pool_state.specs.Added.{settled}
use Rattle.pool_state.proofs.Questions.{any_more, later_of, named_more, closed_more}

abbrev pub made : ℕ → ConnSide → Phase → Option Peer → ℕ → ℕ → ℕ → ℕ → ℕ → ℕ → Option Agent → Row
made n r f p a0 a1 a2 d0 d1 d2 g = record { conn = n; role = r; phase = f; peer = p; asked = a0 ∷ a1 ∷ a2 ∷ []; done = d0 ∷ d1 ∷ d2 ∷ []; agent = g }

abbrev pub next_phase : Bool → Bool → Phase → Phase
next_phase true s f = phase.Closing
next_phase false true f = settled f
next_phase false false f = f

abbrev pub next_row : Bool → Call → Reply → Row → Row
next_row allow c r row = made row.conn
    (if is_dialed row.conn c r then side.Dialer else row.role)
    (next_phase (same_peer (closes allow c r) row.peer) (settles row.conn c r) row.phase)
    (later_of (peer_named row.conn c r) row.peer)
    (cond (asks row.conn 0 c r) (slice_index row.asked 0 + 1) (slice_index row.asked 0))
    (cond (asks row.conn 1 c r) (slice_index row.asked 1 + 1) (slice_index row.asked 1))
    (cond (asks row.conn 2 c r) (slice_index row.asked 2 + 1) (slice_index row.asked 2))
    (cond (finishes row.conn 0 c r) (slice_index row.done 0 + 1) (slice_index row.done 0))
    (cond (finishes row.conn 1 c r) (slice_index row.done 1 + 1) (slice_index row.done 1))
    (cond (finishes row.conn 2 c r) (slice_index row.done 2 + 1) (slice_index row.done 2))
    (later_of (agent_noted row.conn c r) row.agent)

role_cases : (a b : Bool) → (if a || b then side.Dialer else side.Listener) ≡ (if b then side.Dialer else (if a then side.Dialer else side.Listener))
role_cases true true = refl
role_cases true false = refl
role_cases false true = refl
role_cases false false = refl

phase_cases : (a s c t : Bool) → (if a || c then phase.Closing else if s || t then phase.Live else phase.Pending) ≡ next_phase c t (if a then phase.Closing else if s then phase.Live else phase.Pending)
phase_cases true s true t = refl
phase_cases true s false true = refl
phase_cases true s false false = refl
phase_cases false s true t = refl
phase_cases false true false true = refl
phase_cases false true false false = refl
phase_cases false false false true = refl
phase_cases false false false false = refl

pub count_more : (f : Entry → Bool) (h : List Entry) (e : Entry) → count_by f (h ++ e ∷ []) ≡ cond (f e) (count_by f h + 1) (count_by f h)
count_more f h e = sum_by-append (λ (x : Entry). cond (f x) 1 0) h (e ∷ []) ∙ by_test (f e) (count_by f h)
  where
    by_test : (b : Bool) (n : ℕ) → n + (0 + cond b 1 0) ≡ cond b (n + 1) n
    by_test true n = omega arith
    by_test false n = omega arith

same_row : (n : ℕ) {r r' : ConnSide} {f f' : Phase} {p p' : Option Peer} {a b c d e g a' b' c' d' e' g' : ℕ} {o o' : Option Agent}
    → r ≡ r' → f ≡ f' → p ≡ p' → a ≡ a' → b ≡ b' → c ≡ c' → d ≡ d' → e ≡ e' → g ≡ g' → o ≡ o' → made n r f p a b c d e g o ≡ made n r' f' p' a' b' c' d' e' g' o'
same_row n h1 h2 h3 h4 h5 h6 h7 h8 h9 h10 = cc

pub row_next : (config : Config) (h : List Entry) (n caller : ℕ) (c : Call) (r : Reply) → row_of config (h ++ entry caller c r ∷ []) n ≡ next_row config.allow_only c r (row_of config h n)
row_next config h n caller c r =
    let e : Entry = entry caller c r in
    let dialed = λ (x : Entry). is_dialed n x.call x.reply in
    let settling = λ (x : Entry). settles n x.call x.reply in
    same_row n
    (ap (λ b. if b then side.Dialer else side.Listener) (any_more dialed h e) ∙ role_cases (list_any dialed h) (dialed e))
    (ap (λ b. if b then phase.Closing else if list_any settling (h ++ e ∷ []) then phase.Live else phase.Pending) (closed_more config.allow_only [] h e n)
    ∙ (ap (λ b. if is_closed config.allow_only h n || same_peer (closes config.allow_only c r) (peer_of h n) then phase.Closing else if b then phase.Live else phase.Pending) (any_more settling h e)
    ∙ phase_cases (is_closed config.allow_only h n) (list_any settling h) (same_peer (closes config.allow_only c r) (peer_of h n)) (settling e)))
    (named_more (λ (x : Entry). peer_named n x.call x.reply) h e)
    (count_more (λ (x : Entry). asks n 0 x.call x.reply) h e)
    (count_more (λ (x : Entry). asks n 1 x.call x.reply) h e)
    (count_more (λ (x : Entry). asks n 2 x.call x.reply) h e)
    (count_more (λ (x : Entry). finishes n 0 x.call x.reply) h e)
    (count_more (λ (x : Entry). finishes n 1 x.call x.reply) h e)
    (count_more (λ (x : Entry). finishes n 2 x.call x.reply) h e)
    (named_more (λ (x : Entry). agent_noted n x.call x.reply) h e)

-- a row whose counts can grow
pub record IsSmall (row : Row) : Type 0 where
  pub asked0 : slice_index row.asked 0 < 2 ^ 64 - 1
  pub asked1 : slice_index row.asked 1 < 2 ^ 64 - 1
  pub asked2 : slice_index row.asked 2 < 2 ^ 64 - 1
  pub done0 : slice_index row.done 0 < 2 ^ 64 - 1
  pub done1 : slice_index row.done 1 < 2 ^ 64 - 1
  pub done2 : slice_index row.done 2 < 2 ^ 64 - 1
