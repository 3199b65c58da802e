-- One dial of each of two callers is the whole history, and is shown.
use Rattle.std.proofs.Common.{◌≡◌, ◌≢◌, ◌⊎◌, inl, inr, ⊎_elim, ℕ, ◌≤◌, ◌==◌, cond, Bool, true, false, ◌||◌, List, [], ◌∷◌, ◌++◌, length, Some, refl, ap, sym, subst, ◌∙◌, arith, length-append}
use Rattle.std.specs.List.{All, list_any}
use Rattle.std.proofs.lemmas.Bool.Decides.{nat_tests}
use Rattle.std.proofs.lemmas.List.{append_assoc}
use Rattle.std.proofs.lemmas.List.Elements.{All-head, All-tail}
use mathlib.Core.List.{IsPrefix}
use Rattle.pool_state.specs.declared.call.Call.{Call}
use Rattle.pool_state.specs.declared.call.Call.TheVariants.{Dial}
use Rattle.pool_state.specs.declared.call.Reply.{Reply}
use Rattle.pool_state.specs.declared.call.Reply.TheVariants.{Conn, Refused}
use Rattle.pool_state.specs.declared.call.Refusal.TheVariants.{Spent, OutOfMemory}
use Rattle.pool_state.specs.declared.limits.Config.{Config}
use Rattle.pool_state.specs.declared.listing.Listing.{Listing}
use Rattle.pool_state.specs.Parts.{Peer}
use Rattle.pool_state.specs.Added.{added}
use Rattle.pool_state.specs.History.{Entry, entry, next_number}
use Rattle.pool_state.specs.Shown.{Shown, IsLegal, reply_after}
use Rattle.swarm_calls.specs.Calls.{Past, past, Later, SameCalls, IsMade, IsTurnedAway, AllHere, IsWhole}
use Rattle.swarm_calls.specs.History.{mine, IsOf, calls_of}
use Rattle.clients.specs.Swarm.{IsInOrder, ShowsBoth, HasDialed, ShowsCall}

-- a call that is answered a number is in the history
pub is_made : (r : Reply) (n : ℕ) → r ≡ Conn n → ¬ IsTurnedAway r
is_made r n is away = ⊎_elim (λ (w : r ≡ Refused Spent). cc (is, w)) (λ (w : r ≡ Refused OutOfMemory). cc (is, w)) away

-- the caller's first call
pub has_dialed : (config : Config) (callers caller n : ℕ) (a : Peer) (r : Reply) (old new : Past) → old ≡ past caller [] → Later config callers old new → IsMade (Dial (Some a)) r old new → r ≡ Conn n → HasDialed caller new n a
has_dialed config callers caller n a r old new is later made answered =
    let own = subst (λ (p : Past). mine p.number new.seen ≡ mine p.number p.seen ++ entry p.number (Dial (Some a)) r ∷ []) is made.own in
    record {
      number = later.number ∙ ap (λ (p : Past). p.number) is;
      calls = subst (λ (q : Reply). mine caller new.seen ≡ entry caller (Dial (Some a)) q ∷ []) answered own;
    }

-- a pass that makes no call has its calls
pub still : (config : Config) (callers caller n : ℕ) (a : Peer) (old new : Past) → HasDialed caller old n a → Later config callers old new → SameCalls old new → HasDialed caller new n a
still config callers caller n a old new had later same = record {
  number = later.number ∙ had.number;
  calls = subst (λ (k : ℕ). mine k new.seen ≡ mine k old.seen) had.number same ∙ had.calls;
}

-- the passes of callers 1 and 2 are all passes
pub all_here : (callers : ℕ) (passes : List Past) (p q : Past) → callers ≡ 2 → passes ≡ p ∷ q ∷ [] → p.number ≡ 1 → q.number ≡ 2 → AllHere callers passes
all_here callers passes p q two is one other caller low high =
    subst (λ (ps : List Past). list_any (λ r. r.number == caller) ps ≡ true) (sym is) (by_number (p.number == caller) (q.number == caller) refl refl)
  where
    by_number : (b c : Bool) → (p.number == caller) ≡ b → (q.number == caller) ≡ c → (b || (c || false)) ≡ true
    by_number true c e f = refl
    by_number false true e f = refl
    by_number false false e f = absurd (grind (arith, nat_tests))

first_is : (p q x : Entry) (b c : Bool) → cond b (p ∷ cond c (q ∷ []) []) (cond c (q ∷ []) []) ≡ x ∷ [] → (p ≡ x) ⊎ (q ≡ x)
first_is p q x true true h = absurd (cc h)
first_is p q x true false h = inl (cc h)
first_is p q x false true h = inr (cc h)
first_is p q x false false h = absurd (cc h)

last_is : (q y : Entry) (b : Bool) → cond b (q ∷ []) [] ≡ y ∷ [] → q ≡ y
last_is q y true h = cc h
last_is q y false h = absurd (cc h)

-- two entries, one of each caller, in either order
pair : (c d : Call) (r s : Reply) (h : List Entry) → length h ≡ 2 → mine 1 h ≡ entry 1 c r ∷ [] → mine 2 h ≡ entry 2 d s ∷ [] → (h ≡ entry 1 c r ∷ entry 2 d s ∷ []) ⊎ (h ≡ entry 2 d s ∷ entry 1 c r ∷ [])
pair c d r s [] len one two = absurd (omega (arith, len))
pair c d r s (p ∷ []) len one two = absurd (omega (arith, len))
pair c d r s (p ∷ q ∷ z ∷ zs) len one two = absurd (omega (arith, len))
pair c d r s (p ∷ q ∷ []) len one two =
    ⊎_elim (λ (is : p ≡ entry 1 c r). inl (let other = last_is q (entry 2 d s) (q.caller == 2) (subst (λ (e : Entry). mine 2 (e ∷ q ∷ []) ≡ entry 2 d s ∷ []) is two) in cc (is, other)))
    (λ (is : q ≡ entry 1 c r). inr (let other = last_is p (entry 2 d s) (p.caller == 2) (subst (λ (e : Entry). mine 2 (p ∷ e ∷ []) ≡ entry 2 d s ∷ []) is two) in cc (is, other)))
    (first_is p q (entry 1 c r) (p.caller == 1) (q.caller == 1) one)

prefix_length : {A : Type 0} (xs ys : List A) → IsPrefix xs ys → length xs ≤ length ys
prefix_length xs ys p = omega (arith, sym (ap length p.1) ∙ length-append xs p.0)

prefix_whole : {A : Type 0} (xs ys : List A) → IsPrefix xs ys → length ys ≤ length xs → xs ≡ ys
prefix_whole [] [] p le = refl
prefix_whole [] (y ∷ ys) p le = absurd (omega arith)
prefix_whole (x ∷ xs) [] p le = absurd (cc (p.1))
prefix_whole (x ∷ xs) (y ∷ ys) p le =
    let rest = prefix_whole xs ys (p.0, cc (p.1)) (omega arith) in cc (p.1, rest)

-- a call that was made stands in what a caller sees later
pub shows_call : (config : Config) (callers : ℕ) (call : Call) (reply : Reply) (listing : Listing) (old mid new : Past) → Later config callers old mid → IsMade call reply old mid
    → Later config callers mid new → listing ≡ Shown config new.seen → ShowsCall config call reply old new listing
shows_call config callers call reply listing old mid new later made more shown = record {
  before = made.before;
  since = more.begins.0;
  seen = sym more.begins.1 ∙ ap (λ (t : List Entry). t ++ more.begins.0) made.last ∙ append_assoc made.before (entry old.number call reply ∷ []) more.begins.0;
  begins = (later.begins.0 ++ more.begins.0, sym (append_assoc old.seen later.begins.0 more.begins.0) ∙ ap (λ (t : List Entry). t ++ more.begins.0) later.begins.1 ∙ more.begins.1);
  shown = shown;
}

-- the laws, as the laws' functions give them
module _
    (add_up : (callers : ℕ) (history : List Entry) → IsOf callers history → length history ≡ calls_of callers history)
    (beginning : (config : Config) (early later : List Entry) → IsLegal config (early ++ later) → IsLegal config early)
    (last : (config : Config) (history : List Entry) (e : Entry) → IsLegal config (history ++ e ∷ []) → (e.reply ≡ reply_after config history e.call) × (e.reply ≢ Refused Spent))
    (given : (config : Config) (history : List Entry) (call : Call) (number : ℕ) → reply_after config history call ≡ Conn number → number ≡ next_number config history)
    (shown : (config : Config) (history : List Entry) (caller : ℕ) (call : Call) (reply : Reply) → IsLegal config (history ++ entry caller call reply ∷ []) → added (Shown config history) call reply ≡ Shown config (history ++ entry caller call reply ∷ []))
    (config : Config)
  where
    in_order : (x y n m : ℕ) (a b : Peer) → IsLegal config (entry x (Dial (Some a)) (Conn n) ∷ entry y (Dial (Some b)) (Conn m) ∷ [])
        → IsInOrder config (Shown config (entry x (Dial (Some a)) (Conn n) ∷ entry y (Dial (Some b)) (Conn m) ∷ [])) n a m b
    in_order x y n m a b legal =
        let one = entry x (Dial (Some a)) (Conn n) in
        let other = entry y (Dial (Some b)) (Conn m) in
        let early : IsLegal config (one ∷ []) = beginning config (one ∷ []) (other ∷ []) legal in
        let all : Shown config (one ∷ other ∷ []) ≡ added (added (Shown config []) (Dial (Some a)) (Conn n)) (Dial (Some b)) (Conn m) =
        sym (ap (λ (l : Listing). added l (Dial (Some b)) (Conn m)) (shown config [] x (Dial (Some a)) (Conn n) early) ∙ shown config (one ∷ []) y (Dial (Some b)) (Conn m) legal) in
        record {
          one = given config [] (Dial (Some a)) n (sym (last config [] one early).0) ∙ omega arith;
          other = given config (one ∷ []) (Dial (Some b)) m (sym (last config (one ∷ []) other legal).0);
          front = refl;
          rows = ap (λ (l : Listing). l.conns.items) all;
          blocked = refl;
          allowed = refl;
        }

    -- the whole history of two callers that dialed once each
    pub whole_is : (h : List Entry) (n m : ℕ) (a b : Peer) → IsLegal config h → IsOf 2 h
        → mine 1 h ≡ entry 1 (Dial (Some a)) (Conn n) ∷ [] → mine 2 h ≡ entry 2 (Dial (Some b)) (Conn m) ∷ []
        → (length h ≡ 2) × ShowsBoth config (Shown config h) n a m b
    whole_is h n m a b legal callers one two =
        let len : length h ≡ 2 = omega (arith, add_up 2 h callers, ap length one, ap length two) in (
          len,
          ⊎_elim (λ (is : h ≡ entry 1 (Dial (Some a)) (Conn n) ∷ entry 2 (Dial (Some b)) (Conn m) ∷ []).
              inl (subst (λ (l : List Entry). IsInOrder config (Shown config l) n a m b) (sym is) (in_order 1 2 n m a b (subst (IsLegal config) is legal))))
              (λ (is : h ≡ entry 2 (Dial (Some b)) (Conn m) ∷ entry 1 (Dial (Some a)) (Conn n) ∷ []).
              inr (subst (λ (l : List Entry). IsInOrder config (Shown config l) m b n a) (sym is) (in_order 2 1 m n b a (subst (IsLegal config) is legal))))
              (pair (Dial (Some a)) (Dial (Some b)) (Conn n) (Conn m) h len one two),
        )

    -- what was seen between two histories that have both calls, and no other
    pub seen_is : (met seen h : List Entry) (n m : ℕ) (a b : Peer) → IsOf 2 met → IsPrefix met seen → IsPrefix seen h → IsLegal config h → IsOf 2 h
        → mine 1 met ≡ entry 1 (Dial (Some a)) (Conn n) ∷ [] → mine 2 met ≡ entry 2 (Dial (Some b)) (Conn m) ∷ []
        → mine 1 h ≡ entry 1 (Dial (Some a)) (Conn n) ∷ [] → mine 2 h ≡ entry 2 (Dial (Some b)) (Conn m) ∷ []
        → ShowsBoth config (Shown config seen) n a m b
    seen_is met seen h n m a b early before behind legal callers one two own other =
        let whole = whole_is h n m a b legal callers own other in
        let least : length met ≡ 2 = omega (arith, add_up 2 met early, ap length one, ap length two) in
        let all : seen ≡ h = prefix_whole seen h behind (omega (arith, prefix_length met seen before, least, whole.0)) in
        subst (λ (l : List Entry). ShowsBoth config (Shown config l) n a m b) (sym all) whole.1

    -- the whole history of a closed swarm
    pub closed_is : (callers : ℕ) (passes : List Past) (p q : Past) (h : List Entry) (n m : ℕ) (a b : Peer) → callers ≡ 2 → passes ≡ p ∷ q ∷ []
        → HasDialed 1 p n a → HasDialed 2 q m b → IsWhole config callers passes h
        → (length h ≡ 2) × ShowsBoth config (Shown config h) n a m b
    closed_is callers passes p q h n m a b two is one other whole =
        let P : Past → Type 0 = λ r. mine r.number h ≡ mine r.number r.seen in
        let own : All P (p ∷ q ∷ []) = subst (λ (ps : List Past). All P ps) is whole.own in
        let first : mine 1 h ≡ mine 1 p.seen = subst (λ (k : ℕ). mine k h ≡ mine k p.seen) one.number (All-head P p (q ∷ []) own) in
        let second : mine 2 h ≡ mine 2 q.seen = subst (λ (k : ℕ). mine k h ≡ mine k q.seen) other.number (All-head P q [] (All-tail P p (q ∷ []) own)) in
        whole_is h n m a b whole.legal (subst (λ (k : ℕ). IsOf k h) two whole.callers_are) (first ∙ one.calls) (second ∙ other.calls)
