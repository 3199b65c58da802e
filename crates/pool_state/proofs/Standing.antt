-- The rows of the standing connections, after one more entry.
use Rattle.std.proofs.Common.{◌≡◌, ◌≢◌, ◌∙◌, ℕ, zero, suc, ◌+◌, ◌<◌, ◌≤◌, ◌==◌, Bool, true, false, not, ◌&&◌, ◌||◌, cond, List, [], ◌∷◌, ◌++◌, map, refl, sym, ap, arith}
use Rattle.std.specs.List.{list_any, filter, range_with_len}
use Rattle.std.proofs.lemmas.Bool.{false≢true, eqb-true}
use Rattle.std.proofs.lemmas.Bool.Decides.{nat_tests}
use Rattle.pool_state.specs.declared.call.Call.{Call}
use Rattle.pool_state.specs.declared.call.Reply.{Reply}
use Rattle.pool_state.specs.declared.limits.Config.{Config}
use Rattle.pool_state.specs.declared.row.Row.{Row}
use Rattle.pool_state.specs.History.{Entry, entry, stands, begins, ends, admits, admissions, next_number}
use Rattle.pool_state.specs.Shown.{row_of, standing}
use Rattle.pool_state.specs.Added.{row_after}
use Rattle.pool_state.proofs.Questions.{since_more}
use Rattle.pool_state.proofs.Rows.{next_row, row_next, count_more}

pub filter_range : (f g : ℕ → Bool) (a k : ℕ) → ((m : ℕ) → m < a + k → f m ≡ g m) → filter f (range_with_len a k) ≡ filter g (range_with_len a k)
filter_range f g a zero h = refl
filter_range f g a (suc k) h =
    rw (h a (omega arith)) (ap (λ (xs : List ℕ). cond (g a) (a ∷ xs) xs) (filter_range f g (a + 1) k (λ m l. h m (omega arith))))

pub map_range : (F G : ℕ → Row) (t : ℕ → Bool) (a k : ℕ) → ((m : ℕ) → a ≤ m → m < a + k → t m ≡ true → F m ≡ G m) → map F (filter t (range_with_len a k)) ≡ map G (filter t (range_with_len a k))
map_range F G t a zero h = refl
map_range F G t a (suc k) h = step (t a) (filter t (range_with_len (a + 1) k)) (h a (omega arith) (omega arith)) (map_range F G t (a + 1) k (λ m g l. h m (omega arith) (omega arith)))
  where
    step : (b : Bool) (xs : List ℕ) → (b ≡ true → F a ≡ G a) → map F xs ≡ map G xs → map F (cond b (a ∷ xs) xs) ≡ map G (cond b (a ∷ xs) xs)
    step true xs here rest = let q = here refl in cc
    step false xs here rest = rest

pub range_more : (a k : ℕ) → range_with_len a (suc k) ≡ range_with_len a k ++ (a + k) ∷ []
range_more a zero = ap (λ (n : ℕ). n ∷ []) (omega arith)
range_more a (suc k) = ap (λ (xs : List ℕ). a ∷ xs) (range_more (a + 1) k ∙ ap (λ (n : ℕ). range_with_len (a + 1) k ++ n ∷ []) (omega arith))

pub map_map : {X Y Z : Type 0} (g : Y → Z) (f : X → Y) (xs : List X) → map g (map f xs) ≡ map (λ x. g (f x)) xs
map_map g f [] = refl
map_map g f (x ∷ xs) = ap (λ ys. g (f x) ∷ ys) (map_map g f xs)

pub filter_map_comm : {X Y : Type 0} (t : Y → Bool) (f : X → Y) (xs : List X) → filter t (map f xs) ≡ map f (filter (λ x. t (f x)) xs)
filter_map_comm t f [] = refl
filter_map_comm {X = X} {Y = Y} t f (x ∷ xs) = step (t (f x)) (filter t (map f xs)) (filter (λ x. t (f x)) xs) (filter_map_comm t f xs)
  where
    step : (b : Bool) (ys : List Y) (zs : List X) → ys ≡ map f zs → cond b (f x ∷ ys) ys ≡ map f (cond b (x ∷ zs) zs)
    step true ys zs h = ap (λ l. f x ∷ l) h
    step false ys zs h = h

pub filter_filter : {X : Type 0} (p q : X → Bool) (xs : List X) → filter p (filter q xs) ≡ filter (λ x. q x && p x) xs
filter_filter p q [] = refl
filter_filter {X = X} p q (x ∷ xs) = step (q x) (p x) (filter q xs) (filter (λ x. q x && p x) xs) refl (filter_filter p q xs)
  where
    step : (b c : Bool) (ys zs : List X) → p x ≡ c → filter p ys ≡ zs → filter p (cond b (x ∷ ys) ys) ≡ cond (b && c) (x ∷ zs) zs
    step true true ys zs e h = rw e (ap (λ l. x ∷ l) h)
    step true false ys zs e h = rw e h
    step false c ys zs e h = h

-- what a row that passes a test says of its number
pub record Found (P : Row → Bool) (F : ℕ → Row) (t : ℕ → Bool) (a k : ℕ) : Type 0 where
  pub number : ℕ
  pub from : a ≤ number
  pub below : number < a + k
  pub kept : t number ≡ true
  pub passes : P (F number) ≡ true

pub found_in : (P : Row → Bool) (F : ℕ → Row) (t : ℕ → Bool) (a k : ℕ) → list_any P (map F (filter t (range_with_len a k))) ≡ true → Found P F t a k
found_in P F t a zero h = absurd (false≢true h)
found_in P F t a (suc k) h = step (t a) refl (P (F a)) refl (λ l. let w = found_in P F t (a + 1) k l in record { number = w.number; from = omega (arith, w.from); below = omega (arith, w.below); kept = w.kept; passes = w.passes }) h
  where
    step : (b : Bool) → t a ≡ b → (c : Bool) → P (F a) ≡ c → (list_any P (map F (filter t (range_with_len (a + 1) k))) ≡ true → Found P F t a (suc k))
        → list_any P (map F (cond b (a ∷ filter t (range_with_len (a + 1) k)) (filter t (range_with_len (a + 1) k)))) ≡ true → Found P F t a (suc k)
    step true e true f later l = record { number = a; from = omega arith; below = omega arith; kept = e; passes = f }
    step true e false f later l = later (rw f at l)
    step false e c f later l = later l

-- an entry that admits none and ends none
pub standing_same : (config : Config) (h : List Entry) (caller : ℕ) (c : Call) (r : Reply) → admits c r ≡ false → ((n : ℕ) → begins n c r ≡ false) → ((n : ℕ) → ends n c r ≡ false)
    → standing config (h ++ entry caller c r ∷ []) ≡ standing config h
standing_same config h caller c r no_admission no_begin no_end =
    let e : Entry = entry caller c r in
    let same : admissions (h ++ e ∷ []) ≡ admissions h = count_more (λ (x : Entry). admits x.call x.reply) h e ∙ ap (λ b. cond b (admissions h + 1) (admissions h)) no_admission in
    ap (λ (k : ℕ). filter (stands (h ++ e ∷ [])) (range_with_len config.first_conn k)) same
    ∙ filter_range (stands (h ++ e ∷ [])) (stands h) config.first_conn (admissions h) (λ m l. stands_same m)
  where
    keep : (a b c : Bool) → b ≡ false → c ≡ false → ((a && not b) || c) ≡ a
    keep true false false p q = refl
    keep false b false p q = refl
    keep a true c p q = absurd (false≢true (sym p))
    keep a b true p q = absurd (false≢true (sym q))

    stands_same : (m : ℕ) → stands (h ++ entry caller c r ∷ []) m ≡ stands h m
    stands_same m = since_more (λ (x : Entry). begins m x.call x.reply) (λ (x : Entry). ends m x.call x.reply) h (entry caller c r) ∙ keep (stands h m) (ends m c r) (begins m c r) (no_end m) (no_begin m)

-- each row that stands is changed as `added` says
pub rows_mapped : (config : Config) (h : List Entry) (caller : ℕ) (c : Call) (r : Reply) → admits c r ≡ false → ((n : ℕ) → begins n c r ≡ false) → ((n : ℕ) → ends n c r ≡ false)
    → ((n : ℕ) → config.first_conn ≤ n → n < next_number config h → stands h n ≡ true → row_after c r (row_of config h n) ≡ next_row config.allow_only c r (row_of config h n))
    → map (row_after c r) (map (row_of config h) (standing config h)) ≡ map (row_of config (h ++ entry caller c r ∷ [])) (standing config (h ++ entry caller c r ∷ []))
rows_mapped config h caller c r no_admission no_begin no_end agrees =
    map_map (row_after c r) (row_of config h) (standing config h)
    ∙ (map_range (λ n. row_after c r (row_of config h n)) (row_of config (h ++ entry caller c r ∷ [])) (stands h) config.first_conn (admissions h)
    (λ m g l s. agrees m g l s ∙ sym (row_next config h m caller c r))
    ∙ ap (λ (ns : List ℕ). map (row_of config (h ++ entry caller c r ∷ [])) ns) (sym (standing_same config h caller c r no_admission no_begin no_end)))

-- a test that no row passes fails at each standing connection
pub none_passes : (P : Row → Bool) (F : ℕ → Row) (t : ℕ → Bool) (a k : ℕ) → list_any P (map F (filter t (range_with_len a k))) ≡ false → (n : ℕ) → a ≤ n → n < a + k → t n ≡ true → P (F n) ≡ false
none_passes P F t a zero h n g l s = absurd (omega arith)
none_passes P F t a (suc k) h n g l s = step (n == a) refl (t a) refl h (λ e d. none_passes P F t (a + 1) k e n (omega (arith, nat_tests_eq n a d)) (omega arith) s)
  where
    or_none : (b c : Bool) → (b || c) ≡ false → (b ≡ false) × (c ≡ false)
    or_none true c h = absurd (false≢true (sym h))
    or_none false c h = (refl, h)

    nat_tests_eq : (n a : ℕ) → (n == a) ≡ false → n ≢ a
    nat_tests_eq n a h = grind (arith, nat_tests)

    step : (b : Bool) → (n == a) ≡ b → (c : Bool) → t a ≡ c → list_any P (map F (cond c (a ∷ filter t (range_with_len (a + 1) k)) (filter t (range_with_len (a + 1) k)))) ≡ false
        → (list_any P (map F (filter t (range_with_len (a + 1) k))) ≡ false → (n == a) ≡ false → P (F n) ≡ false) → P (F n) ≡ false
    step true e true f h rest = ap (λ (m : ℕ). P (F m)) (eqb-true n a e) ∙ (or_none (P (F a)) _ h).0
    step true e false f h rest = absurd (false≢true (sym f ∙ (ap t (sym (eqb-true n a e)) ∙ s)))
    step false e true f h rest = rest (or_none (P (F a)) _ h).1 e
    step false e false f h rest = rest h e
