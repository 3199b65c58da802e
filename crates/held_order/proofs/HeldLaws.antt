-- The order names each number as often as handlers of it are held.
use Rattle.std.proofs.Common.{◌≡◌, ◌≢◌, ◌⊎◌, inl, inr, ℕ, suc, ◌+◌, ◌==◌, Bool, true, false, ◌&&◌, ◌||◌, not, cond, List, [], ◌∷◌, ◌++◌, Option, Some, None, is_some, arith, refl, sym, ap, ◌∙◌, subst}
use Rattle.std.proofs.lemmas.Bool.Decides.{eqb_tells}
use Rattle.yamux_session.specs.declared.event.Role.{Role}
use Rattle.yamux_session.specs.Openings.{opens}
use Rattle.conn_log.specs.declared.event.ConnEvent.TheVariants as event
use Rattle.conn_log.specs.Entries.{Entry, items, since, made_in, made_of, over_in, is_over, is_kept, left_behind}
use Rattle.conn_log.specs.Entries.Entry.{Of, Says, Made, Asks, Calls}
use Rattle.held_order.specs.Orders.{without, without_if, lets_go as lets, newest_held}
use Rattle.held_order.specs.Laws.{times}
use Rattle.held_order.specs.HeldLaws.{ToldOnce, NamesEachHeld}
use Rattle.held_order.proofs.Arranging.{lets_go}

-- ---- how often a number is named, once the newest of one has gone

one_more : (b : Bool) (s t u : ℕ) → s ≡ t + u → cond b (suc s) s ≡ cond b (suc t) t + u
one_more true s t u e = omega (arith, e)
one_more false s t u e = e

times_join : (n : ℕ) (a b : List ℕ) → times n (a ++ b) ≡ times n a + times n b
times_join n [] b = omega arith
times_join n (m ∷ a) b = one_more (m == n) (times n (a ++ b)) (times n a) (times n b) (times_join n a b)

abbrev Tells : ℕ → ℕ → Type 0
Tells m n = (((m == n) ≡ true) × (m ≡ n)) ⊎ (((m == n) ≡ false) × (m ≢ n))

at_itself : (n t : ℕ) → Tells n n → cond (n == n) (suc t) t ≡ suc t
at_itself n t (inl is) = ap (λ b. cond b (suc t) t) is.0
at_itself n t (inr isnt) = absurd (isnt.1 refl)

-- what is so of a number is so where it is this one
where_same : (P : ℕ → Type 0) (m n : ℕ) → Tells m n → P m → P n ⊎ (m ≢ n)
where_same P m n (inl is) p = inl (subst P is.1 p)
where_same P m n (inr isnt) p = inr isnt.1

-- of the number that goes it has one fewer
fewer : (n k : ℕ) (order : List ℕ) → times n order ≡ suc k → times n (without n order) ≡ k
fewer n k order some = by (lets_go n order) where
  by : ((newer : List ℕ) × (older : List ℕ) × (order ≡ newer ++ n ∷ older) × (times n newer ≡ 0) × (without n order ≡ newer ++ older))
      ⊎ ((times n order ≡ 0) × (without n order ≡ order)) → times n (without n order) ≡ k
  by (inl (newer, older, there, none, gone)) =
      let before : times n order ≡ times n newer + cond (n == n) (suc (times n older)) (times n older) = ap (times n) there ∙ times_join n newer (n ∷ older) in
      let one : cond (n == n) (suc (times n older)) (times n older) ≡ suc (times n older) = at_itself n (times n older) (eqb_tells n n) in
      let after : times n (without n order) ≡ times n newer + times n older = ap (times n) gone ∙ times_join n newer older in
      omega (arith, before, one, after, some)
  by (inr (none, same)) = absurd (omega (arith, none, some))

-- of another it has as many
as_many : (n m : ℕ) (order : List ℕ) → (m == n) ≡ false → times n (without m order) ≡ times n order
as_many n m order off = by (lets_go m order) where
  by : ((newer : List ℕ) × (older : List ℕ) × (order ≡ newer ++ m ∷ older) × (times m newer ≡ 0) × (without m order ≡ newer ++ older))
      ⊎ ((times m order ≡ 0) × (without m order ≡ order)) → times n (without m order) ≡ times n order
  by (inl (newer, older, there, none, gone)) =
      ap (times n) gone ∙ times_join n newer older
      ∙ ap (λ b. times n newer + cond b (suc (times n older)) (times n older)) (sym off)
      ∙ sym (times_join n newer (m ∷ older)) ∙ sym (ap (times n) there)
  by (inr (none, same)) = ap (times n) same

as_many_if : (b : Bool) (n m : ℕ) (order : List ℕ) → (m == n) ≡ false → times n (without_if b m order) ≡ times n order
as_many_if true n m order off = as_many n m order off
as_many_if false n m order off = refl

-- ---- whether one of the newest opening is held

abbrev one_if : Bool → ℕ
one_if b = cond b 1 0

module _ {H : Type 0} where
  abbrev kept_in : ℕ → List (Entry H) → Bool
  kept_in n log = is_some (made_in n log) && not (over_in n log)

  -- a number is opened anew
  opened : (o : Bool) (n t left : ℕ) (log : List (Entry H)) → t ≡ left + one_if (kept_in n log)
      → t ≡ cond (o && kept_in n log) (suc left) left + one_if (kept_in n (cond o [] log))
  opened false n t left log e = e
  opened true n t left log e = by (kept_in n log) e where
    by : (k : Bool) → t ≡ left + one_if k → t ≡ cond k (suc left) left + 0
    by true e = omega (arith, e)
    by false e = e

  asked : (n m t left : ℕ) (log : List (Entry H)) → Tells m n → kept_in n log ≡ false ⊎ (m ≢ n) → t ≡ left + one_if (kept_in n log)
      → t ≡ left + one_if (kept_in n (cond (m == n) [] log))
  asked n m t left log (inl is) (inl free) e = e ∙ ap (λ k. left + one_if k) free ∙ sym (ap (λ b. left + one_if (kept_in n (cond b [] log))) is.0)
  asked n m t left log (inl is) (inr isnt) e = absurd (isnt is.1)
  asked n m t left log (inr isnt) free e = e ∙ sym (ap (λ b. left + one_if (kept_in n (cond b [] log))) isnt.0)

  -- its handler is made
  made : (n m t left : ℕ) (handler : H) (before : Option H) (over : Bool) → Tells m n → ((before ≡ None) × (over ≡ false)) ⊎ (m ≢ n)
      → t ≡ left + one_if (is_some before && not over)
      → cond (m == n) (suc t) t ≡ left + one_if (is_some (cond (m == n) (Some handler) before) && not over)
  made n m t left handler before over (inl is) (inl new) e =
      let none : t ≡ left + 0 = e ∙ ap (λ b. left + one_if (is_some b && not over)) new.0 in
      let one : suc t ≡ left + 1 = omega (arith, none) in
      ap (λ b. cond b (suc t) t) is.0 ∙ one ∙ sym (ap (λ o. left + one_if (not o)) new.1)
      ∙ sym (ap (λ b. left + one_if (is_some (cond b (Some handler) before) && not over)) is.0)
  made n m t left handler before over (inl is) (inr isnt) e = absurd (isnt is.1)
  made n m t left handler before over (inr isnt) new e =
      ap (λ b. cond b (suc t) t) isnt.0 ∙ e ∙ sym (ap (λ b. left + one_if (is_some (cond b (Some handler) before) && not over)) isnt.0)

  -- its last event is told
  goes : (n left : ℕ) (order : List ℕ) (before : Option H) (over : Bool) → over ≡ false → times n order ≡ left + one_if (is_some before && not over)
      → times n (without_if (is_some before) n order) ≡ left + one_if (is_some before && not true)
  goes n left order None over going e = e
  goes n left order (Some handler) over going e =
      let one : times n order ≡ suc left = let is : times n order ≡ left + 1 = e ∙ ap (λ o. left + one_if (not o)) going in omega (arith, is) in
      let gone : times n (without n order) ≡ left = fewer n left order one in
      omega (arith, gone)

  module _ (role : Role) where
    ended : (log : List (Entry H)) (n m : ℕ) (order : List ℕ) → Tells m n → is_over role log m ≡ false
        → times n order ≡ left_behind role log n + one_if (is_kept role log n)
        → times n (lets role log m order) ≡ left_behind role log n + one_if (is_some (made_of role log n) && not ((m == n) || is_over role log n))
    ended log n m order (inl is) going e =
        ap (λ k. times n (lets role log k order)) is.1
        ∙ goes n (left_behind role log n) order (made_of role log n) (is_over role log n) (sym (ap (is_over role log) is.1) ∙ going) e
        ∙ sym (ap (λ b. left_behind role log n + one_if (is_some (made_of role log n) && not (b || is_over role log n))) is.0)
    ended log n m order (inr isnt) going e =
        as_many_if (is_some (made_of role log m)) n m order isnt.0 ∙ e
        ∙ sym (ap (λ b. left_behind role log n + one_if (is_some (made_of role log n) && not (b || is_over role log n))) isnt.0)

    names : (log : List (Entry H)) → ToldOnce role log → (n : ℕ) → times n (newest_held role log) ≡ left_behind role log n + one_if (is_kept role log n)
    names [] once n = refl
    names (Of x ∷ log) once n = opened (opens role (items log) x n) n (times n (newest_held role log)) (left_behind role log n) (since role log n) (names log once.1 n)
    names (Says (event.Refused m) ∷ log) once n = ended log n m (newest_held role log) (eqb_tells m n) once.0 (names log once.1 n)
    names (Says (event.Done m handler) ∷ log) once n = ended log n m (newest_held role log) (eqb_tells m n) once.0 (names log once.1 n)
    names (Says (event.Broken m cause) ∷ log) once n = ended log n m (newest_held role log) (eqb_tells m n) once.0 (names log once.1 n)
    names (Says (event.Upgraded key) ∷ log) once n = names log once.1 n
    names (Says (event.Agreed m index) ∷ log) once n = names log once.1 n
    names (Says (event.Fault fault) ∷ log) once n = names log once.1 n
    names (Says event.Shut ∷ log) once n = names log once.1 n
    names (Made m handler ∷ log) once n = made n m (times n (newest_held role log)) (left_behind role log n) handler (made_of role log n) (is_over role log n) (eqb_tells m n)
        (where_same (λ k. (made_of role log k ≡ None) × (is_over role log k ≡ false)) m n (eqb_tells m n) once.0) (names log once.1 n)
    names (Asks m index ∷ log) once n = asked n m (times n (newest_held role log)) (left_behind role log n) (since role log n) (eqb_tells m n)
        (where_same (λ k. is_kept role log k ≡ false) m n (eqb_tells m n) once.0) (names log once.1 n)
    names (Calls m call ∷ log) once n = names log once.1 n

  pub names_each : NamesEachHeld H
  names_each role log once n = names role log once n
