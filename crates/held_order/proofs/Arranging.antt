-- What is put in order is all that is held, of each number in the order in which it was held, and follows the order.
use Rattle.std.proofs.Common.{◌≡◌, ◌≢◌, ℕ, suc, ◌+◌, ◌<◌, ◌≤◌, ◌==◌, Bool, true, false, cond, List, [], ◌∷◌, ◌++◌, Option, Some, None, length, inl, inr, arith, refl, sym, ap, ◌∙◌, subst}
use Rattle.std.specs.Prelude.{nat_lt, ◌⊎◌}
use Rattle.std.specs.List.{position, position_or_len}
use Rattle.std.proofs.lemmas.Bool.Decides.{eqb_tells, leb_tells}
use Rattle.std.proofs.lemmas.List.{map-append}
use Rattle.std.proofs.lemmas.List.Recursion.{is_position_or_len}
use Rattle.held_order.specs.Orders.{all_but, only, without, arranged}
use Rattle.held_order.specs.Laws.{of_number, numbers, times, LetsGo, Arranges}

-- ---- the first of a number, by recursion

abbrev pub later : Option ℕ → Option ℕ
later None = None
later (Some at) = Some (suc at)

one_later : (b : Bool) (a : ℕ) → cond b (Some (suc a)) None ≡ later (cond b (Some a) None)
one_later true a = refl
one_later false a = refl

one_less : (a len : ℕ) → nat_lt (suc a) (suc len) ≡ nat_lt a len
one_less a len = by (leb_tells (suc (suc a)) (suc len)) (leb_tells (suc a) len) where
  by : ((nat_lt (suc a) (suc len) ≡ true) × (suc (suc a) ≤ suc len)) ⊎ ((nat_lt (suc a) (suc len) ≡ false) × (suc len < suc (suc a)))
      → ((nat_lt a len ≡ true) × (suc a ≤ len)) ⊎ ((nat_lt a len ≡ false) × (len < suc a)) → nat_lt (suc a) (suc len) ≡ nat_lt a len
  by (inl so) (inl too) = so.0 ∙ sym too.0
  by (inl so) (inr not) = absurd (omega (arith, so.1, not.1))
  by (inr not) (inl so) = absurd (omega (arith, so.1, not.1))
  by (inr not) (inr neither) = not.0 ∙ sym neither.0

zero_less : (len : ℕ) → nat_lt 0 (suc len) ≡ true
zero_less len = by (leb_tells 1 (suc len)) where
  by : ((nat_lt 0 (suc len) ≡ true) × (1 ≤ suc len)) ⊎ ((nat_lt 0 (suc len) ≡ false) × (suc len < 1)) → nat_lt 0 (suc len) ≡ true
  by (inl so) = so.0
  by (inr not) = absurd (omega (arith, not.1))

first_place : (b : Bool) (a len : ℕ) → cond (nat_lt (cond b 0 (suc a)) (suc len)) (Some (cond b 0 (suc a))) None ≡ cond b (Some 0) (later (cond (nat_lt a len) (Some a) None))
first_place true a len = ap (λ c. cond c (Some 0) None) (zero_less len)
first_place false a len = ap (λ c. cond c (Some (suc a)) None) (one_less a len) ∙ one_later (nat_lt a len) a

one_more : (a : ℕ) → 1 + a ≡ suc a
one_more a = omega arith

abbrev front_len : {X : Type 0} → (X → Bool) → List X → ℕ
front_len p [] = 0
front_len p (x ∷ xs) = cond (p x) 0 (1 + front_len p xs)

is_front : {X : Type 0} (p : X → Bool) (xs : List X) → front_len p xs ≡ position_or_len p xs
is_front p xs = is_position_or_len (front_len p) p refl (λ _ _. refl) xs

pub place : {X : Type 0} (p : X → Bool) (x : X) (xs : List X) → position p (x ∷ xs) ≡ cond (p x) (Some 0) (later (position p xs))
place p x xs = ap (λ k. cond (nat_lt k (suc (length xs))) (Some k) None) (sym (is_front p (x ∷ xs)))
    ∙ ap (λ k. cond (nat_lt (cond (p x) 0 k) (suc (length xs))) (Some (cond (p x) 0 k)) None) (one_more (front_len p xs))
    ∙ first_place (p x) (front_len p xs) (length xs)
    ∙ ap (λ k. cond (p x) (Some 0) (later (cond (nat_lt k (length xs)) (Some k) None))) (is_front p xs)

only_at : {X : Type 0} (b : Bool) (at : Option ℕ) (x : X) (xs : List X) → only (cond b (Some 0) (later at)) (x ∷ xs) ≡ cond b (x ∷ []) (only at xs)
only_at true at x xs = refl
only_at false None x xs = refl
only_at false (Some at) x xs = refl

pub but_at : {X : Type 0} (b : Bool) (at : Option ℕ) (x : X) (xs : List X) → all_but (cond b (Some 0) (later at)) (x ∷ xs) ≡ cond b xs (x ∷ all_but at xs)
but_at true at x xs = refl
but_at false None x xs = refl
but_at false (Some at) x xs = refl

-- whether two numbers are the same
abbrev Tells : ℕ → ℕ → Type 0
Tells a b = (((a == b) ≡ true) × (a ≡ b)) ⊎ (((a == b) ≡ false) × (a ≢ b))

apart : (a m n : ℕ) → a ≢ m → a ≡ n → Tells m n → (m == n) ≡ false
apart a m n isnt on (inl same) = absurd (isnt (on ∙ sym same.1))
apart a m n isnt on (inr off) = off.0

-- one fewer on both sides
less : (b : Bool) (s t : ℕ) → cond b (suc s) s ≡ cond b (suc t) t → s ≡ t
less true s t e = cc e
less false s t e = e

itself : (m : ℕ) (t : ℕ) → Tells m m → cond (m == m) (suc t) t ≡ suc t
itself m t (inl is) = ap (λ b. cond b (suc t) t) is.0
itself m t (inr isnt) = absurd (isnt.1 refl)

at_itself : (m : ℕ) → Tells m m → (m == m) ≡ true
at_itself m (inl is) = is.0
at_itself m (inr isnt) = absurd (isnt.1 refl)

-- ---- the newest goes

pub lets_go : LetsGo
lets_go n [] = inr (refl, refl)
lets_go n (m ∷ ms) = by (eqb_tells m n) (lets_go n ms) where
  step : without n (m ∷ ms) ≡ cond (m == n) ms (m ∷ without n ms)
  step = ap (λ at. all_but at (m ∷ ms)) (place (λ k. k == n) m ms) ∙ but_at (m == n) (position (λ k. k == n) ms) m ms

  by : Tells m n
      → ((newer : List ℕ) × (older : List ℕ) × (ms ≡ newer ++ n ∷ older) × (times n newer ≡ 0) × (without n ms ≡ newer ++ older))
      ⊎ ((times n ms ≡ 0) × (without n ms ≡ ms))
      → ((newer : List ℕ) × (older : List ℕ) × (m ∷ ms ≡ newer ++ n ∷ older) × (times n newer ≡ 0) × (without n (m ∷ ms) ≡ newer ++ older))
      ⊎ ((times n (m ∷ ms) ≡ 0) × (without n (m ∷ ms) ≡ m ∷ ms))
  by (inl is) tail = inl ([], ms, ap (λ k. k ∷ ms) is.1, refl, step ∙ ap (λ b. cond b ms (m ∷ without n ms)) is.0)
  by (inr isnt) (inl (newer, older, there, none, gone)) = inl (
    m ∷ newer,
    older,
    ap (λ l. m ∷ l) there,
    ap (λ b. cond b (suc (times n newer)) (times n newer)) isnt.0 ∙ none,
    step ∙ ap (λ b. cond b ms (m ∷ without n ms)) isnt.0 ∙ ap (λ l. m ∷ l) gone,
  )
  by (inr isnt) (inr (none, same)) = inr (
    ap (λ b. cond b (suc (times n ms)) (times n ms)) isnt.0 ∙ none,
    step ∙ ap (λ b. cond b ms (m ∷ without n ms)) isnt.0 ∙ ap (λ l. m ∷ l) same,
  )

-- ---- what is held, but for the first of a number

module _ {H : Type 0} where
  abbrev first : ℕ → List (ℕ × H) → List (ℕ × H)
  first m held = only (position (λ one. one.0 == m) held) held

  abbrev rest : ℕ → List (ℕ × H) → List (ℕ × H)
  rest m held = all_but (position (λ one. one.0 == m) held) held

  first_step : (m : ℕ) (x : ℕ × H) (xs : List (ℕ × H)) → first m (x ∷ xs) ≡ cond (x.0 == m) (x ∷ []) (first m xs)
  first_step m x xs = ap (λ at. only at (x ∷ xs)) (place (λ one. one.0 == m) x xs)
      ∙ only_at (x.0 == m) (position (λ one. one.0 == m) xs) x xs

  rest_step : (m : ℕ) (x : ℕ × H) (xs : List (ℕ × H)) → rest m (x ∷ xs) ≡ cond (x.0 == m) xs (x ∷ rest m xs)
  rest_step m x xs = ap (λ at. all_but at (x ∷ xs)) (place (λ one. one.0 == m) x xs)
      ∙ but_at (x.0 == m) (position (λ one. one.0 == m) xs) x xs

  -- ---- each number has its handlers

  joined : (n : ℕ) (a b : List (ℕ × H)) → of_number n (a ++ b) ≡ of_number n a ++ of_number n b
  joined n [] b = refl
  joined n (x ∷ a) b = piece (x.0 == n) (joined n a b) where
    piece : (is : Bool) → of_number n (a ++ b) ≡ of_number n a ++ of_number n b
        → cond is (x.1 ∷ of_number n (a ++ b)) (of_number n (a ++ b)) ≡ cond is (x.1 ∷ of_number n a) (of_number n a) ++ of_number n b
    piece true tail = ap (λ l. x.1 ∷ l) tail
    piece false tail = tail

  others : (n m : ℕ) → (m == n) ≡ false → (held : List (ℕ × H)) → of_number n (first m held) ≡ []
  others n m off [] = refl
  others n m off (x ∷ xs) = ap (of_number n) (first_step m x xs) ∙ by (eqb_tells x.0 m) (others n m off xs) where
    by : Tells x.0 m → of_number n (first m xs) ≡ [] → of_number n (cond (x.0 == m) (x ∷ []) (first m xs)) ≡ []
    by (inl is) tail = ap (λ b. of_number n (cond b (x ∷ []) (first m xs))) is.0
        ∙ ap (λ b. cond b (x.1 ∷ []) []) (ap (λ k. k == n) is.1 ∙ off)
    by (inr isnt) tail = ap (λ b. of_number n (cond b (x ∷ []) (first m xs))) isnt.0 ∙ tail

  whole : (n m : ℕ) (held : List (ℕ × H)) → of_number n (first m held) ++ of_number n (rest m held) ≡ of_number n held
  whole n m [] = refl
  whole n m (x ∷ xs) = ap (λ l. of_number n l ++ of_number n (rest m (x ∷ xs))) (first_step m x xs)
      ∙ ap (λ l. of_number n (cond (x.0 == m) (x ∷ []) (first m xs)) ++ of_number n l) (rest_step m x xs)
      ∙ by (eqb_tells x.0 m) (whole n m xs) where
        front : (b : Bool) → cond b (x.1 ∷ []) [] ++ of_number n xs ≡ cond b (x.1 ∷ of_number n xs) (of_number n xs)
        front true = refl
        front false = refl

        behind : of_number n (first m xs) ++ of_number n (rest m xs) ≡ of_number n xs → x.0 ≢ m → Tells x.0 n
            → of_number n (first m xs) ++ cond (x.0 == n) (x.1 ∷ of_number n (rest m xs)) (of_number n (rest m xs))
            ≡ cond (x.0 == n) (x.1 ∷ of_number n xs) (of_number n xs)
        behind tail isnt (inl on) = ap (λ b. of_number n (first m xs) ++ cond b (x.1 ∷ of_number n (rest m xs)) (of_number n (rest m xs))) on.0
            ∙ (let none : of_number n (first m xs) ≡ [] = others n m (apart x.0 m n isnt on.1 (eqb_tells m n)) xs in
            ap (λ l. l ++ (x.1 ∷ of_number n (rest m xs))) none
            ∙ ap (λ l. x.1 ∷ l) (sym (ap (λ l. l ++ of_number n (rest m xs)) none) ∙ tail))
            ∙ sym (ap (λ b. cond b (x.1 ∷ of_number n xs) (of_number n xs)) on.0)
        behind tail isnt (inr off) = ap (λ b. of_number n (first m xs) ++ cond b (x.1 ∷ of_number n (rest m xs)) (of_number n (rest m xs))) off.0
            ∙ tail
            ∙ sym (ap (λ b. cond b (x.1 ∷ of_number n xs) (of_number n xs)) off.0)

        by : Tells x.0 m → of_number n (first m xs) ++ of_number n (rest m xs) ≡ of_number n xs
            → of_number n (cond (x.0 == m) (x ∷ []) (first m xs)) ++ of_number n (cond (x.0 == m) xs (x ∷ rest m xs)) ≡ of_number n (x ∷ xs)
        by (inl is) tail = ap (λ b. of_number n (cond b (x ∷ []) (first m xs)) ++ of_number n (cond b xs (x ∷ rest m xs))) is.0 ∙ front (x.0 == n)
        by (inr isnt) tail = ap (λ b. of_number n (cond b (x ∷ []) (first m xs)) ++ of_number n (cond b xs (x ∷ rest m xs))) isnt.0 ∙ behind tail isnt.1 (eqb_tells x.0 n)

  pub keeps : (n : ℕ) (order : List ℕ) (held : List (ℕ × H)) → of_number n (arranged order held) ≡ of_number n held
  keeps n [] held = refl
  keeps n (m ∷ order) held = joined n (first m held) (arranged order (rest m held))
      ∙ ap (λ l. of_number n (first m held) ++ l) (keeps n order (rest m held)) ∙ whole n m held

  -- ---- the order is followed

  -- the first of a number that is held
  found : (m : ℕ) (held : List (ℕ × H)) → times m (numbers held) ≢ 0 → numbers (first m held) ≡ m ∷ []
  found m [] some = absurd (some refl)
  found m (x ∷ xs) some = ap numbers (first_step m x xs) ∙ by (eqb_tells x.0 m) some (found m xs) where
    by : Tells x.0 m → cond (x.0 == m) (suc (times m (numbers xs))) (times m (numbers xs)) ≢ 0
        → (times m (numbers xs) ≢ 0 → numbers (first m xs) ≡ m ∷ []) → numbers (cond (x.0 == m) (x ∷ []) (first m xs)) ≡ m ∷ []
    by (inl is) some tail = ap (λ b. numbers (cond b (x ∷ []) (first m xs))) is.0 ∙ ap (λ k. k ∷ []) is.1
    by (inr isnt) some tail = ap (λ b. numbers (cond b (x ∷ []) (first m xs))) isnt.0
        ∙ tail (λ none. some (ap (λ b. cond b (suc (times m (numbers xs))) (times m (numbers xs))) isnt.0 ∙ none))

  -- all but it
  fewer : (n m : ℕ) (held : List (ℕ × H)) → times m (numbers held) ≢ 0
      → times n (numbers held) ≡ cond (m == n) (suc (times n (numbers (rest m held)))) (times n (numbers (rest m held)))
  fewer n m [] some = absurd (some refl)
  fewer n m (x ∷ xs) some = by (eqb_tells x.0 m) some (fewer n m xs)
      ∙ sym (ap (λ l. cond (m == n) (suc (times n (numbers l))) (times n (numbers l))) (rest_step m x xs)) where
        swap : (a b : Bool) (t : ℕ) → cond a (suc (cond b (suc t) t)) (cond b (suc t) t) ≡ cond b (suc (cond a (suc t) t)) (cond a (suc t) t)
        swap true true t = refl
        swap true false t = refl
        swap false true t = refl
        swap false false t = refl

        by : Tells x.0 m → cond (x.0 == m) (suc (times m (numbers xs))) (times m (numbers xs)) ≢ 0
            → (times m (numbers xs) ≢ 0 → times n (numbers xs) ≡ cond (m == n) (suc (times n (numbers (rest m xs)))) (times n (numbers (rest m xs))))
            → cond (x.0 == n) (suc (times n (numbers xs))) (times n (numbers xs))
            ≡ cond (m == n) (suc (times n (numbers (cond (x.0 == m) xs (x ∷ rest m xs))))) (times n (numbers (cond (x.0 == m) xs (x ∷ rest m xs))))
        by (inl is) some tail = ap (λ k. cond (k == n) (suc (times n (numbers xs))) (times n (numbers xs))) is.1
            ∙ sym (ap (λ b. cond (m == n) (suc (times n (numbers (cond b xs (x ∷ rest m xs))))) (times n (numbers (cond b xs (x ∷ rest m xs))))) is.0)
        by (inr isnt) some tail =
            ap (λ t. cond (x.0 == n) (suc t) t) (tail (λ none. some (ap (λ b. cond b (suc (times m (numbers xs))) (times m (numbers xs))) isnt.0 ∙ none)))
            ∙ swap (x.0 == n) (m == n) (times n (numbers (rest m xs)))
            ∙ sym (ap (λ b. cond (m == n) (suc (times n (numbers (cond b xs (x ∷ rest m xs))))) (times n (numbers (cond b xs (x ∷ rest m xs))))) isnt.0)

  -- a list that has no number is empty
  none_left : (held : List (ℕ × H)) → ((n : ℕ) → 0 ≡ times n (numbers held)) → numbers held ≡ []
  none_left [] none = refl
  none_left (x ∷ xs) none = absurd (by (eqb_tells x.0 x.0)) where
    by : Tells x.0 x.0 → ⊥
    by (inl is) = let e : 0 ≡ suc (times x.0 (numbers xs)) = none x.0 ∙ ap (λ b. cond b (suc (times x.0 (numbers xs))) (times x.0 (numbers xs))) is.0 in cc e
    by (inr isnt) = isnt.1 refl

  pub follows : (order : List ℕ) (held : List (ℕ × H)) → ((n : ℕ) → times n order ≡ times n (numbers held)) → numbers (arranged order held) ≡ order
  follows [] held same = none_left held same
  follows (m ∷ order) held same = map-append (λ one. one.0) (first m held) (arranged order (rest m held))
      ∙ ap (λ l. l ++ numbers (arranged order (rest m held))) (found m held some)
      ∙ ap (λ l. m ∷ l) (follows order (rest m held) (λ n. less (m == n) (times n order) (times n (numbers (rest m held))) (same n ∙ fewer n m held some))) where
        some : times m (numbers held) ≢ 0
        some none = let e : suc (times m order) ≡ 0 = sym (itself m (times m order) (eqb_tells m m)) ∙ same m ∙ none in cc e

  -- ---- there is one such list

  pub one_list : (some other : List (ℕ × H)) → numbers some ≡ numbers other → ((n : ℕ) → of_number n some ≡ of_number n other) → some ≡ other
  one_list [] [] named each = refl
  one_list [] (y ∷ ys) named each = absurd (cc named)
  one_list (x ∷ xs) [] named each = absurd (cc named)
  one_list ((m, h) ∷ xs) ((k, g) ∷ ys) named each = subst (λ j. (m, h) ∷ xs ≡ (j, g) ∷ ys) here
      (subst (λ f. (m, h) ∷ xs ≡ (m, f) ∷ ys) first_is (ap (λ l. (m, h) ∷ l) (one_list xs ys behind tails))) where
        here : m ≡ k
        here = cc named

        behind : numbers xs ≡ numbers ys
        behind = cc named

        both : h ∷ of_number m xs ≡ g ∷ of_number m ys
        both = sym (ap (λ b. cond b (h ∷ of_number m xs) (of_number m xs)) (at_itself m (eqb_tells m m)))
            ∙ each m ∙ ap (λ j. cond (j == m) (g ∷ of_number m ys) (of_number m ys)) (sym here)
            ∙ ap (λ b. cond b (g ∷ of_number m ys) (of_number m ys)) (at_itself m (eqb_tells m m))

        first_is : h ≡ g
        first_is = cc both

        less_one : (b : Bool) (s t : List H) → cond b (h ∷ s) s ≡ cond b (h ∷ t) t → s ≡ t
        less_one true s t e = cc e
        less_one false s t e = e

        tails : (n : ℕ) → of_number n xs ≡ of_number n ys
        tails n = less_one (m == n) (of_number n xs) (of_number n ys)
            (each n ∙ ap (λ j. cond (j == n) (g ∷ of_number n ys) (of_number n ys)) (sym here)
            ∙ ap (λ f. cond (m == n) (f ∷ of_number n ys) (of_number n ys)) (sym first_is))

  pub arranges : Arranges H
  arranges = record { all = keeps; follows = follows; one_list = one_list }
