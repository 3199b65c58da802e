-- The peers of a list stand once each, in the order in which they came.
use Rattle.std.proofs.Common.{◌≡◌, ◌∙◌, ◌⊎◌, inl, inr, Bool, true, false, not, ◌&&◌, ◌||◌, cond, List, [], ◌∷◌, ◌++◌, Option, Some, None, refl, sym, ap, subst, append_assoc}
use Rattle.std.specs.List.{filter, filter_map, list_any, AllByRecursion, IsDistinct}
use Rattle.std.specs.Str.{bytes_eq}
use Rattle.std.proofs.lemmas.Bool.{false≢true}
use Rattle.std.proofs.lemmas.List.{append-nil}
use Rattle.std.proofs.lemmas.List.Elements.{filter-append, filter_agree}
use Rattle.std.proofs.lemmas.Map.Keys.{IsDistinct-head, IsDistinct-tail, IsDistinct-cons}
use Rattle.pool_state.specs.declared.call.Call.{Call}
use Rattle.pool_state.specs.declared.call.Reply.{Reply}
use Rattle.pool_state.specs.Parts.{Peer, is_peer, has}
use Rattle.pool_state.specs.Added.{without_peer}
use Rattle.pool_state.specs.History.{Entry, is_listed, comes_to_stay, listed_after}
use Rattle.pool_state.specs.Ordered.{IsEachOnce, is_left, KeepsOrder}
use Rattle.pool_state.proofs.Questions.{any_more}
use Rattle.pool_state.proofs.Standing.{filter_filter}
use Rattle.pool_state.proofs.Listed.{AreExclusive, grows_from, has_listed, listed_cut, listed_kept}

all_filter : (P : Peer → Type 0) (t : Peer → Bool) (xs : List Peer) → AllByRecursion P xs → AllByRecursion P (filter t xs)
all_filter P t [] all = all
all_filter P t (x ∷ xs) all = step (t x) (all_filter P t xs all.1)
  where
    step : (b : Bool) → AllByRecursion P (filter t xs) → AllByRecursion P (cond b (x ∷ filter t xs) (filter t xs))
    step true rest = (all.0, rest)
    step false rest = rest

once_filter : (t : Peer → Bool) (xs : List Peer) → IsEachOnce xs → IsEachOnce (filter t xs)
once_filter t [] once = once
once_filter t (x ∷ xs) once = step (t x) (once_filter t xs (IsDistinct-tail bytes_eq x xs once))
  where
    step : (b : Bool) → IsEachOnce (filter t xs) → IsEachOnce (cond b (x ∷ filter t xs) (filter t xs))
    step true rest = IsDistinct-cons bytes_eq x (filter t xs) (all_filter (λ y. bytes_eq x y ≡ false) t xs (IsDistinct-head bytes_eq x xs once)) rest
    step false rest = rest

all_snoc : (P : Peer → Type 0) (xs : List Peer) (q : Peer) → AllByRecursion P xs → P q → AllByRecursion P (xs ++ q ∷ [])
all_snoc P [] q all last = (last, tt)
all_snoc P (x ∷ xs) q all last = (all.0, all_snoc P xs q all.1 last)

neither : (a b : Bool) → (a || b) ≡ false → (a ≡ false) × (b ≡ false)
neither true b e = absurd (false≢true (sym e))
neither false b e = (refl, e)

once_snoc : (xs : List Peer) (q : Peer) → IsEachOnce xs → has xs q ≡ false → IsEachOnce (xs ++ q ∷ [])
unfolding IsDistinct
once_snoc [] q once new = (tt, tt)
once_snoc (x ∷ xs) q once new =
    let apart = neither (bytes_eq x q) (has xs q) new in
    (all_snoc (λ y. bytes_eq x y ≡ false) xs q once.0 apart.0, once_snoc xs q once.1 apart.1)

module _ (adds removes : Call → Reply → Option Peer) (apart : AreExclusive adds removes) where
  abbrev listed : List Entry → List Peer
  listed h = listed_after adds removes [] h

  -- what one more entry adds at the end
  abbrev arrival : List Entry → Option Peer → List Peer
  arrival h into = filter_map (λ o. o) (comes_to_stay adds removes h into [] ∷ [])

  once_arrived : (h : List Entry) (into : Option Peer) → IsEachOnce (listed h) → IsEachOnce (listed h ++ arrival h into)
  once_arrived h None once = subst IsEachOnce (sym (append-nil (listed h))) once
  once_arrived h (Some q) once = step (is_listed adds removes h q) (has_listed adds removes apart h q)
    where
      step : (here : Bool) → has (listed h) q ≡ here → IsEachOnce (listed h ++ filter_map (λ o. o) (cond (here || false) None (Some q) ∷ []))
      step true e = subst IsEachOnce (sym (append-nil (listed h))) once
      step false e = once_snoc (listed h) q once e

  once_step : (h : List Entry) (e : Entry) (out : Option Peer) → removes e.call e.reply ≡ out → (removes e.call e.reply ≡ None) ⊎ (adds e.call e.reply ≡ None) → IsEachOnce (listed h) → IsEachOnce (listed (h ++ e ∷ []))
  once_step h e None is either once = subst IsEachOnce (sym (listed_kept adds removes [] h e is)) (once_arrived h (adds e.call e.reply) once)
  once_step h e (Some q) is (inl none) once = absurd (cc (is, none))
  once_step h e (Some q) is (inr none) once = subst IsEachOnce (sym (listed_cut adds removes [] h e q is none)) (once_filter (λ p. not (bytes_eq q p)) (listed h) once)

  pub each_once : (h : List Entry) → IsEachOnce (listed h)
  unfolding IsDistinct
  each_once h = grows_from (λ l. IsEachOnce (listed l)) (λ l e once. once_step l e (removes e.call e.reply) refl (apart e.call e.reply) once) [] h tt

  -- the peers that stand in a list of before, with those that came since
  abbrev IsKept : List Entry → List Entry → Type 0
  IsKept h more = (since : List Peer) × (listed (h ++ more) ≡ filter (is_left removes more) (listed h) ++ since)

  left_more : (more : List Entry) (e : Entry) (p : Peer) → is_left removes (more ++ e ∷ []) p ≡ (is_left removes more p && not (is_peer p (removes e.call e.reply)))
  left_more more e p = ap not (any_more (λ (x : Entry). is_peer p (removes x.call x.reply)) more e) ∙ both (list_any (λ (x : Entry). is_peer p (removes x.call x.reply)) more) (is_peer p (removes e.call e.reply))
    where
      both : (a b : Bool) → not (a || b) ≡ (not a && not b)
      both true b = refl
      both false b = refl

  kept_step : (h more : List Entry) (e : Entry) (out : Option Peer) → removes e.call e.reply ≡ out → (removes e.call e.reply ≡ None) ⊎ (adds e.call e.reply ≡ None) → IsKept h more → IsKept h (more ++ e ∷ [])
  kept_step h more e None is either kept =
      let new = arrival (h ++ more) (adds e.call e.reply) in
      let same : filter (is_left removes more) (listed h) ≡ filter (is_left removes (more ++ e ∷ [])) (listed h) =
      filter_agree (is_left removes more) (is_left removes (more ++ e ∷ [])) (λ p. sym (left_more more e p ∙ (ap (λ (o : Option Peer). is_left removes more p && not (is_peer p o)) is ∙ and_true (is_left removes more p)))) (listed h) in (
        kept.0 ++ new,
        ap listed (sym (append_assoc h more (e ∷ [])))
            ∙ (listed_kept adds removes [] (h ++ more) e is
            ∙ (ap (λ (l : List Peer). l ++ new) (kept.1 ∙ ap (λ (l : List Peer). l ++ kept.0) same)
            ∙ append_assoc (filter (is_left removes (more ++ e ∷ [])) (listed h)) kept.0 new)),
      )
    where
      and_true : (a : Bool) → (a && true) ≡ a
      and_true true = refl
      and_true false = refl
  kept_step h more e (Some q) is (inl none) kept = absurd (cc (is, none))
  kept_step h more e (Some q) is (inr none) kept =
      let cut : filter (λ p. not (bytes_eq q p)) (filter (is_left removes more) (listed h)) ≡ filter (is_left removes (more ++ e ∷ [])) (listed h) =
      filter_filter (λ p. not (bytes_eq q p)) (is_left removes more) (listed h)
      ∙ filter_agree (λ p. is_left removes more p && not (bytes_eq q p)) (is_left removes (more ++ e ∷ [])) (λ p. sym (left_more more e p ∙ ap (λ (o : Option Peer). is_left removes more p && not (is_peer p o)) is)) (listed h) in (
        without_peer kept.0 q,
        ap listed (sym (append_assoc h more (e ∷ [])))
            ∙ (listed_cut adds removes [] (h ++ more) e q is none
            ∙ (ap (λ (l : List Peer). without_peer l q) kept.1
            ∙ (filter-append (λ p. not (bytes_eq q p)) (filter (is_left removes more) (listed h)) kept.0
            ∙ ap (λ (l : List Peer). l ++ without_peer kept.0 q) cut))),
      )

  pub keeps_order : KeepsOrder listed removes
  keeps_order h more = grows_from (IsKept h) (λ l e kept. kept_step h l e (removes e.call e.reply) refl (apart e.call e.reply) kept) [] more ([], start (listed h) ∙ sym (append-nil (filter (λ p. true) (listed h))))
    where
      start : (xs : List Peer) → listed (h ++ []) ≡ filter (λ p. true) (listed h)
      start xs = ap listed (append-nil h) ∙ sym (all (listed h))
        where
          all : (xs : List Peer) → filter (λ p. true) xs ≡ xs
          all [] = refl
          all (x ∷ xs) = ap (λ l. x ∷ l) (all xs)
