-- Letting the newest handler of a stream go, in a list that has the oldest first.
use Rattle.std.proofs.Common.{◌≡◌, ℕ, suc, ◌==◌, true, false, cond, List, [], ◌∷◌, ◌++◌, take, drop, reverse, refl, sym, ap, ◌∙◌, subst}
use Rattle.std.specs.List.{AllByRecursion, position, remove}
use Rattle.std.proofs.lemmas.List.{append_assoc, reverse-append, take-append-drop}
use Rattle.conn_log.proofs.Arriving.{all_join}
use Rattle.held_order.specs.Orders.{without, all_but}
use Rattle.held_order.proofs.Arranging.{place, but_at}

abbrev pub IsOther : ℕ → ℕ → Type 0
IsOther n m = (m == n) ≡ false

without_first : (n m : ℕ) (newest : List ℕ) → without n (m ∷ newest) ≡ cond (m == n) newest (m ∷ without n newest)
without_first n m newest = ap (λ at. all_but at (m ∷ newest)) (place (λ k. k == n) m newest) ∙ but_at (m == n) (position (λ k. k == n) newest) m newest

-- the first of a number goes
skips : (n x : ℕ) (front older : List ℕ) → AllByRecursion (IsOther n) front → (x == n) ≡ true → without n (front ++ x ∷ older) ≡ front ++ older
skips n x [] older none is = without_first n x older ∙ ap (λ b. cond b older (x ∷ without n older)) is
skips n x (m ∷ front) older none is =
    without_first n m (front ++ x ∷ older)
    ∙ ap (λ b. cond b (front ++ x ∷ older) (m ∷ without n (front ++ x ∷ older))) none.0
    ∙ ap (λ t. m ∷ t) (skips n x front older none.1 is)

nowhere : (n : ℕ) (newest : List ℕ) → AllByRecursion (IsOther n) newest → without n newest ≡ newest
nowhere n [] none = refl
nowhere n (m ∷ newest) none =
    without_first n m newest ∙ ap (λ b. cond b newest (m ∷ without n newest)) none.0 ∙ ap (λ t. m ∷ t) (nowhere n newest none.1)

reverse_first : (x : ℕ) (xs : List ℕ) → reverse (x ∷ xs) ≡ reverse xs ++ x ∷ []
reverse_first x xs = reverse-append (x ∷ []) xs

reverse_around : (xs : List ℕ) (x : ℕ) (ys : List ℕ) → reverse (xs ++ x ∷ ys) ≡ reverse ys ++ x ∷ reverse xs
reverse_around xs x ys = reverse-append xs (x ∷ ys) ∙ ap (λ t. t ++ reverse xs) (reverse_first x ys) ∙ append_assoc (reverse ys) (x ∷ []) (reverse xs)

all_reverse : (Q : ℕ → Type 0) (xs : List ℕ) → AllByRecursion Q xs → AllByRecursion Q (reverse xs)
all_reverse Q [] all = tt
all_reverse Q (x ∷ xs) all = subst (λ t. AllByRecursion Q t) (sym (reverse_first x xs)) (all_join Q (reverse xs) (x ∷ []) (all_reverse Q xs all.1) (all.0, tt))

-- the last of a number goes
pub last_goes : (n x at : ℕ) (oldest : List ℕ) → drop at oldest ≡ x ∷ drop (suc at) oldest → (x == n) ≡ true → AllByRecursion (IsOther n) (drop (suc at) oldest)
    → without n (reverse oldest) ≡ reverse (remove oldest at)
last_goes n x at oldest here is none =
    let older = take at oldest in
    let newer = drop (suc at) oldest in
    ap (λ t. without n (reverse t)) (sym (take-append-drop at oldest) ∙ ap (λ t. older ++ t) here)
    ∙ ap (without n) (reverse_around older x newer)
    ∙ skips n x (reverse newer) (reverse older) (all_reverse (IsOther n) newer none) is
    ∙ sym (reverse-append older newer)

pub none_goes : (n : ℕ) (oldest : List ℕ) → AllByRecursion (IsOther n) oldest → without n (reverse oldest) ≡ reverse oldest
none_goes n oldest none = nowhere n (reverse oldest) (all_reverse (IsOther n) oldest none)
