-- What one more entry does to each question.
use Rattle.std.proofs.Common.{◌≡◌, ◌∙◌, ℕ, Bool, true, false, not, ◌&&◌, ◌||◌, List, [], ◌∷◌, ◌++◌, Option, Some, None, refl, sym, ap, append_assoc}
use Rattle.std.specs.List.{list_any, filter_map, cons_option}
use Rattle.std.proofs.lemmas.List.Elements.{filter_map-append}
use Rattle.pool_state.specs.History.{Entry, any_since, last_of, closes, same_peer, peer_of, is_closed_after}

pub or_assoc : (a b c : Bool) → (a || (b || c)) ≡ ((a || b) || c)
or_assoc true b c = refl
or_assoc false b c = refl

pub or_false : (a : Bool) → (a || false) ≡ a
or_false true = refl
or_false false = refl

pub any_append : {X : Type 0} (f : X → Bool) (xs ys : List X) → list_any f (xs ++ ys) ≡ (list_any f xs || list_any f ys)
any_append f [] ys = refl
any_append f (x ∷ xs) ys = ap (λ b. f x || b) (any_append f xs ys) ∙ or_assoc (f x) (list_any f xs) (list_any f ys)

pub any_more : {X : Type 0} (f : X → Bool) (xs : List X) (y : X) → list_any f (xs ++ y ∷ []) ≡ (list_any f xs || f y)
any_more f xs y = any_append f xs (y ∷ []) ∙ ap (λ b. list_any f xs || b) (or_false (f y))

since_step : (a b c d e : Bool) → ((a && not (b || d)) || ((c && not d) || e)) ≡ ((((a && not b) || c) && not d) || e)
since_step true true c d e = refl
since_step true false true true e = refl
since_step true false true false e = refl
since_step true false false d e = refl
since_step false b c d e = refl

pub since_more : (s t : Entry → Bool) (h : List Entry) (e : Entry) → any_since s t (h ++ e ∷ []) ≡ ((any_since s t h && not (t e)) || s e)
since_more s t [] e = begin_alone (s e)
  where
    begin_alone : (b : Bool) → ((b && true) || false) ≡ b
    begin_alone true = refl
    begin_alone false = refl
since_more s t (x ∷ h) e =
    rw (any_more t h e, since_more s t h e) (since_step (s x) (list_any t h) (any_since s t h) (t e) (s e))

pub last_more : {X : Type 0} (xs : List X) (y : X) → last_of (xs ++ y ∷ []) ≡ Some y
last_more [] y = refl
last_more (x ∷ []) y = refl
last_more (x ∷ z ∷ xs) y = last_more (z ∷ xs) y

-- the later of two
abbrev pub later_of : {X : Type 0} → Option X → Option X → Option X
later_of None o = o
later_of (Some x) o = Some x

last_joined : {X : Type 0} (xs : List X) (o : Option X) → last_of (xs ++ cons_option o []) ≡ later_of o (last_of xs)
last_joined xs None = ap last_of (append_nil xs)
  where
    append_nil : {X : Type 0} (xs : List X) → xs ++ [] ≡ xs
    append_nil [] = refl
    append_nil (x ∷ xs) = ap (λ ys. x ∷ ys) (append_nil xs)
last_joined xs (Some y) = last_more xs y

pub named_more : {X : Type 0} (f : Entry → Option X) (h : List Entry) (e : Entry) → last_of (filter_map f (h ++ e ∷ [])) ≡ later_of (f e) (last_of (filter_map f h))
named_more f h e = ap last_of (filter_map-append f h (e ∷ [])) ∙ last_joined (filter_map f h) (f e)

pub closed_more : (a : Bool) (before h : List Entry) (e : Entry) (n : ℕ) → is_closed_after a before (h ++ e ∷ []) n ≡ (is_closed_after a before h n || same_peer (closes a e.call e.reply) (peer_of (before ++ h) n))
closed_more a before [] e n = or_false (same_peer (closes a e.call e.reply) (peer_of before n)) ∙ ap (λ (b : List Entry). same_peer (closes a e.call e.reply) (peer_of b n)) (sym (append_nil before))
  where
    append_nil : {X : Type 0} (xs : List X) → xs ++ [] ≡ xs
    append_nil [] = refl
    append_nil (x ∷ xs) = ap (λ ys. x ∷ ys) (append_nil xs)
closed_more a before (x ∷ h) e n =
    ap (λ b. same_peer (closes a x.call x.reply) (peer_of before n) || b) (closed_more a (before ++ x ∷ []) h e n ∙ ap (λ (l : List Entry). is_closed_after a (before ++ x ∷ []) h n || same_peer (closes a e.call e.reply) (peer_of l n)) (append_assoc before (x ∷ []) h))
    ∙ or_assoc (same_peer (closes a x.call x.reply) (peer_of before n)) (is_closed_after a (before ++ x ∷ []) h n) (same_peer (closes a e.call e.reply) (peer_of (before ++ x ∷ h) n))
