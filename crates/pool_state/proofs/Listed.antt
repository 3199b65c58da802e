-- The peers of a list, after one more entry.
use Rattle.std.proofs.Common.{◌≡◌, ◌∙◌, ◌⊎◌, inl, inr, ℕ, ◌<◌, nat_lt, Bool, true, false, not, ◌&&◌, ◌||◌, cond, List, [], ◌∷◌, ◌++◌, length, Option, Some, None, refl, sym, ap, append_assoc, arith}
use Rattle.std.specs.Bool.{if◌then◌else◌}
use Rattle.std.specs.List.{list_any, filter_map}
use Rattle.std.specs.Str.{bytes_eq}
use Rattle.std.proofs.lemmas.Slice.Eq.{bytes_eq-Decides}
use Rattle.std.proofs.lemmas.Bool.{false≢true}
use Rattle.std.proofs.lemmas.Bool.Decides.{nat_tests}
use Rattle.pool_state.specs.declared.call.Call.{Call}
use Rattle.pool_state.specs.declared.call.Reply.{Reply}
use Rattle.pool_state.specs.Parts.{Peer, is_peer, has}
use Rattle.pool_state.specs.Added.{without_peer, with_peer, added_to, removed_from}
use Rattle.pool_state.specs.History.{Entry, entry, is_listed, comes_to_stay, listed_after}
use Rattle.pool_state.proofs.Questions.{since_more, any_more, any_append, or_false}

-- a list that begins as `before` and then has `later`
pub grows_from : (P : List Entry → Type 0) → ((h : List Entry) (e : Entry) → P h → P (h ++ e ∷ [])) → (before later : List Entry) → P before → P (before ++ later)
grows_from P step before [] p = rw (append_nil before) p
  where
    append_nil : (xs : List Entry) → xs ++ [] ≡ xs
    append_nil [] = refl
    append_nil (x ∷ xs) = ap (λ ys. x ∷ ys) (append_nil xs)
grows_from P step before (e ∷ later) p = rw (sym (append_assoc before (e ∷ []) later)) (grows_from P step (before ++ e ∷ []) later (step before e p))

abbrev Naming : Type 0
Naming = Call → Reply → Option Peer

abbrev piece : Naming → Naming → List Entry → Entry → List Entry → List Peer
piece adds removes before x later = filter_map (λ o. o) (comes_to_stay adds removes before (adds x.call x.reply) later ∷ [])

kept_piece : (adds removes : Naming) (before later : List Entry) (o : Option Peer) (e : Entry) → removes e.call e.reply ≡ None → comes_to_stay adds removes before o (later ++ e ∷ []) ≡ comes_to_stay adds removes before o later
kept_piece adds removes before later None e none = refl
kept_piece adds removes before later (Some p) e none =
    ap (λ b. if is_listed adds removes before p || b then None else Some p)
    (any_more (λ (x : Entry). is_peer p (removes x.call x.reply)) later e
    ∙ (ap (λ (o : Option Peer). list_any (λ (x : Entry). is_peer p (removes x.call x.reply)) later || is_peer p o) none ∙ or_false _))

-- nothing is removed
pub listed_kept : (adds removes : Naming) (before h : List Entry) (e : Entry) → removes e.call e.reply ≡ None → listed_after adds removes before (h ++ e ∷ []) ≡ listed_after adds removes before h ++ piece adds removes (before ++ h) e []
listed_kept adds removes before [] e none = append_nil (piece adds removes before e []) ∙ ap (λ (b : List Entry). piece adds removes b e []) (sym (append_nil before))
  where
    append_nil : {X : Type 0} (xs : List X) → xs ++ [] ≡ xs
    append_nil [] = refl
    append_nil (x ∷ xs) = ap (λ ys. x ∷ ys) (append_nil xs)
listed_kept adds removes before (x ∷ h) e none =
    ap (λ (o : Option Peer). filter_map (λ q. q) (o ∷ []) ++ listed_after adds removes (before ++ x ∷ []) (h ++ e ∷ [])) (kept_piece adds removes before h (adds x.call x.reply) e none)
    ∙ (ap (λ (l : List Peer). piece adds removes before x h ++ l) (listed_kept adds removes (before ++ x ∷ []) h e none ∙ ap (λ (b : List Entry). listed_after adds removes (before ++ x ∷ []) h ++ piece adds removes b e []) (append_assoc before (x ∷ []) h))
    ∙ sym (append_assoc (piece adds removes before x h) (listed_after adds removes (before ++ x ∷ []) h) (piece adds removes (before ++ x ∷ h) e [])))

-- a peer is removed, and none is added
cut_piece : (adds removes : Naming) (before later : List Entry) (o : Option Peer) (e : Entry) (q : Peer) → removes e.call e.reply ≡ Some q
    → filter_map (λ o. o) (comes_to_stay adds removes before o (later ++ e ∷ []) ∷ []) ≡ without_peer (filter_map (λ o. o) (comes_to_stay adds removes before o later ∷ [])) q
cut_piece adds removes before later None e q some = refl
cut_piece adds removes before later (Some p) e q some =
    ap (λ b. filter_map (λ o. o) ((if is_listed adds removes before p || b then None else Some p) ∷ []))
    (any_more (λ (x : Entry). is_peer p (removes x.call x.reply)) later e ∙ ap (λ (o : Option Peer). list_any (λ (x : Entry). is_peer p (removes x.call x.reply)) later || is_peer p o) some)
    ∙ by_test (is_listed adds removes before p) (list_any (λ (x : Entry). is_peer p (removes x.call x.reply)) later) (bytes_eq q p) refl
  where
    by_test : (a b c : Bool) → bytes_eq q p ≡ c → filter_map (λ o. o) ((if a || (b || c) then None else Some p) ∷ []) ≡ without_peer (filter_map (λ o. o) ((if a || b then None else Some p) ∷ [])) q
    by_test true b c e = refl
    by_test false true c e = refl
    by_test false false true e = rw e refl
    by_test false false false e = rw e refl

filter_append : (q : Peer) (xs ys : List Peer) → without_peer (xs ++ ys) q ≡ without_peer xs q ++ without_peer ys q
filter_append q xs ys = Rattle.std.proofs.lemmas.List.Elements.filter-append (λ p. not (bytes_eq q p)) xs ys

pub listed_cut : (adds removes : Naming) (before h : List Entry) (e : Entry) (q : Peer) → removes e.call e.reply ≡ Some q → adds e.call e.reply ≡ None → listed_after adds removes before (h ++ e ∷ []) ≡ without_peer (listed_after adds removes before h) q
listed_cut adds removes before [] e q some none = rw none refl
listed_cut adds removes before (x ∷ h) e q some none =
    ap (λ (l : List Peer). l ++ listed_after adds removes (before ++ x ∷ []) (h ++ e ∷ [])) (cut_piece adds removes before h (adds x.call x.reply) e q some)
    ∙ (ap (λ (l : List Peer). without_peer (piece adds removes before x h) q ++ l) (listed_cut adds removes (before ++ x ∷ []) h e q some none)
    ∙ sym (filter_append q (piece adds removes before x h) (listed_after adds removes (before ++ x ∷ []) h)))

-- no entry both adds and removes
abbrev pub AreExclusive : Naming → Naming → Type 0
AreExclusive adds removes = (c : Call) (r : Reply) → (removes c r ≡ None) ⊎ (adds c r ≡ None)

same_peers : (q p : Peer) → bytes_eq q p ≡ true → q ≡ p
same_peers q p h = (bytes_eq-Decides q p).0 h

has_cut : (l : List Peer) (q p : Peer) → has (without_peer l q) p ≡ (has l p && not (bytes_eq q p))
has_cut [] q p = refl
has_cut (x ∷ l) q p = step (bytes_eq q x) (bytes_eq x p) (bytes_eq q p) refl refl refl (has_cut l q p)
  where
    step : (a b c : Bool) → bytes_eq q x ≡ a → bytes_eq x p ≡ b → bytes_eq q p ≡ c → has (without_peer l q) p ≡ (has l p && not c) → has (cond (not a) (x ∷ without_peer l q) (without_peer l q)) p ≡ ((b || has l p) && not c)
    step true true c ea eb ec h =
        let e : c ≡ true = sym ec ∙ (ap (λ (z : Peer). bytes_eq z p) (same_peers q x ea) ∙ eb) in
        rw e (rw e at h ∙ none (has l p))
      where
        none : (b : Bool) → (b && false) ≡ false
        none true = refl
        none false = refl
    step true false c ea eb ec h = h
    step false true c ea eb ec h = rw eb (sym (other c ec))
      where
        other : (c : Bool) → bytes_eq q p ≡ c → not c ≡ true
        other false e = refl
        other true e = absurd (false≢true (sym ea ∙ (ap (λ (z : Peer). bytes_eq q z) (same_peers x p eb) ∙ e)))
    step false false c ea eb ec h = rw eb h

plain_or : (a : Bool) → ((a && true) || false) ≡ a
plain_or true = refl
plain_or false = refl

-- what one more entry does to whether a peer is listed
abbrev after : Bool → Peer → Option Peer → Option Peer → Bool
after was p out into = (was && not (is_peer p out)) || is_peer p into

abbrev arrives : Bool → Peer → List Peer
arrives here q = filter_map (λ o. o) ((if here || false then None else Some q) ∷ [])

has_arrived : (was here same : Bool) (q p : Peer) → bytes_eq q p ≡ same → (same ≡ true → was ≡ here) → (was || has (arrives here q) p) ≡ ((was && true) || same)
has_arrived true true c q p e h = refl
has_arrived false true true q p e h = absurd (false≢true (h refl))
has_arrived false true false q p e h = refl
has_arrived true false c q p e h = refl
has_arrived false false c q p e h = or_false (bytes_eq q p) ∙ e

has_step : (adds removes : Naming) (h : List Entry) (e : Entry) (p : Peer) (out into : Option Peer) → removes e.call e.reply ≡ out → adds e.call e.reply ≡ into → (removes e.call e.reply ≡ None) ⊎ (adds e.call e.reply ≡ None)
    → ((p : Peer) → has (listed_after adds removes [] h) p ≡ is_listed adds removes h p)
    → has (listed_after adds removes [] (h ++ e ∷ [])) p ≡ after (is_listed adds removes h p) p out into
has_step adds removes h e p None None eo ei apart was =
    ap (λ (l : List Peer). has l p) (listed_kept adds removes [] h e eo)
    ∙ (any_append (λ (q : Peer). bytes_eq q p) (listed_after adds removes [] h) (piece adds removes h e [])
    ∙ (ap (λ (o : Option Peer). has (listed_after adds removes [] h) p || has (filter_map (λ o. o) (comes_to_stay adds removes h o [] ∷ [])) p) ei
    ∙ (or_false (has (listed_after adds removes [] h) p) ∙ (was p ∙ sym (plain_or (is_listed adds removes h p))))))
has_step adds removes h e p None (Some q) eo ei apart was =
    ap (λ (l : List Peer). has l p) (listed_kept adds removes [] h e eo)
    ∙ (any_append (λ (q : Peer). bytes_eq q p) (listed_after adds removes [] h) (piece adds removes h e [])
    ∙ (ap (λ (o : Option Peer). has (listed_after adds removes [] h) p || has (filter_map (λ o. o) (comes_to_stay adds removes h o [] ∷ [])) p) ei
    ∙ (ap (λ (b : Bool). b || has (arrives (is_listed adds removes h q) q) p) (was p)
    ∙ has_arrived (is_listed adds removes h p) (is_listed adds removes h q) (bytes_eq q p) q p refl (λ s. ap (λ (z : Peer). is_listed adds removes h z) (sym (same_peers q p s))))))
has_step adds removes h e p (Some q) None eo ei apart was =
    ap (λ (l : List Peer). has l p) (listed_cut adds removes [] h e q eo ei)
    ∙ (has_cut (listed_after adds removes [] h) q p ∙ (ap (λ (b : Bool). b && not (bytes_eq q p)) (was p) ∙ sym (or_false _)))
has_step adds removes h e p (Some q) (Some r) eo ei (inl a) was = absurd (some_none (sym eo ∙ a))
  where
    some_none : {q : Peer} → Some q ≡ None → ⊥
    some_none h = cc
has_step adds removes h e p (Some q) (Some r) eo ei (inr a) was = absurd (some_none (sym ei ∙ a))
  where
    some_none : {q : Peer} → Some q ≡ None → ⊥
    some_none h = cc

-- the peers of the list are those that are listed
pub has_listed : (adds removes : Naming) → AreExclusive adds removes → (h : List Entry) (p : Peer) → has (listed_after adds removes [] h) p ≡ is_listed adds removes h p
has_listed adds removes apart h p =
    grows_from (λ (h : List Entry). (p : Peer) → has (listed_after adds removes [] h) p ≡ is_listed adds removes h p)
    (λ h e was p. has_step adds removes h e p (removes e.call e.reply) (adds e.call e.reply) refl refl (apart e.call e.reply) was
    ∙ sym (since_more (λ (x : Entry). is_peer p (adds x.call x.reply)) (λ (x : Entry). is_peer p (removes x.call x.reply)) h e))
    [] h (λ p. refl) p

append_nil : {X : Type 0} (xs : List X) → xs ++ [] ≡ xs
append_nil [] = refl
append_nil (x ∷ xs) = ap (λ ys. x ∷ ys) (append_nil xs)

put_in : (l : List Peer) (q : Peer) (here : Bool) → has l q ≡ here → (here ≡ false → length l < 64) → with_peer l q ≡ l ++ arrives here q
put_in l q true e room = rw e (sym (append_nil l))
put_in l q false e room =
    let fits : nat_lt (length l) 64 ≡ true = grind (arith, nat_tests, room refl) in
    rw (e, fits) refl

-- a list of peers after one more entry
pub list_next : (adds removes : Naming) → AreExclusive adds removes → (h : List Entry) (caller : ℕ) (c : Call) (r : Reply)
    → ((p : Peer) → adds c r ≡ Some p → has (listed_after adds removes [] h) p ≡ false → length (listed_after adds removes [] h) < 64)
    → removed_from (removes c r) (added_to (adds c r) (listed_after adds removes [] h)) ≡ listed_after adds removes [] (h ++ entry caller c r ∷ [])
list_next adds removes apart h caller c r room = step (removes c r) (adds c r) refl refl (apart c r)
  where
    step : (out into : Option Peer) → removes c r ≡ out → adds c r ≡ into → (removes c r ≡ None) ⊎ (adds c r ≡ None) → removed_from out (added_to into (listed_after adds removes [] h)) ≡ listed_after adds removes [] (h ++ entry caller c r ∷ [])
    step None None eo ei a =
        sym (listed_kept adds removes [] h (entry caller c r) eo
        ∙ (ap (λ (o : Option Peer). listed_after adds removes [] h ++ filter_map (λ o. o) (comes_to_stay adds removes h o [] ∷ [])) ei
        ∙ append_nil (listed_after adds removes [] h)))
    step None (Some q) eo ei a =
        put_in (listed_after adds removes [] h) q (is_listed adds removes h q) (has_listed adds removes apart h q) (λ n. room q ei (has_listed adds removes apart h q ∙ n))
        ∙ sym (listed_kept adds removes [] h (entry caller c r) eo
        ∙ ap (λ (o : Option Peer). listed_after adds removes [] h ++ filter_map (λ o. o) (comes_to_stay adds removes h o [] ∷ [])) ei)
    step (Some q) None eo ei a = sym (listed_cut adds removes [] h (entry caller c r) q eo ei)
    step (Some q) (Some p) eo ei (inl a) = absurd (some_none (sym eo ∙ a))
      where
        some_none : {q : Peer} → Some q ≡ None → ⊥
        some_none h = cc
    step (Some q) (Some p) eo ei (inr a) = absurd (some_none (sym ei ∙ a))
      where
        some_none : {q : Peer} → Some q ≡ None → ⊥
        some_none h = cc
