-- Lists of rising numbers.
use Rattle.std.proofs.Common.{◌≡◌, ◌∙◌, ℕ, zero, suc, ◌+◌, ◌<◌, nat_lt, Bool, true, false, ◌&&◌, List, [], ◌∷◌, length, map, Some, None, get_or, add-one, refl, sym, ap, subst, arith}
use Rattle.std.specs.List.{range_with_len}
use Rattle.std.specs.List.Sorted.{IsStrictlyIncreasing}
use Rattle.std.proofs.lemmas.Bool.{false≢true}
use Rattle.std.proofs.lemmas.Bool.Decides.{nat_tests}
use Rattle.std.proofs.lemmas.List.FromFn.{length-range_with_len, get_or-range_with_len}
use Rattle.std.proofs.lemmas.List.Kept.{IsStrictlyIncreasing-filter}
use Rattle.pool_state.specs.declared.call.Call.{Call}
use Rattle.pool_state.specs.declared.call.Call.TheVariants as call
use Rattle.pool_state.specs.declared.limits.Config.{Config}
use Rattle.pool_state.specs.declared.listing.Listing.{Listing}
use Rattle.pool_state.specs.declared.row.Row.{Row}
use Rattle.pool_state.specs.Table.{may_refuse}
use Rattle.pool_state.specs.History.{Entry, stands, admissions}
use Rattle.pool_state.specs.Shown.{row_of, standing}
use Rattle.pool_state.specs.Bounded.{refusal_numbers}
use Rattle.pool_state.proofs.Standing.{map_map}

-- each number is below the next, as a test
rises : List ℕ → Bool
rises [] = true
rises (x ∷ []) = true
rises (x ∷ y ∷ xs) = nat_lt x y && rises (y ∷ xs)

rises_increasing : (xs : List ℕ) → rises xs ≡ true → IsStrictlyIncreasing xs
unfolding rises
rises_increasing [] h k l = absurd (omega arith)
rises_increasing (x ∷ []) h k l = absurd (omega arith)
rises_increasing (x ∷ y ∷ xs) h zero l = below x y (front (nat_lt x y) (rises (y ∷ xs)) h)
  where
    front : (a b : Bool) → (a && b) ≡ true → a ≡ true
    front true b h = refl
    front false b h = h

    below : (x y : ℕ) → nat_lt x y ≡ true → x < y
    below x y h = grind (arith, nat_tests)
rises_increasing (x ∷ y ∷ xs) h (suc k) l =
    let rest = rises_increasing (y ∷ xs) (back (nat_lt x y) (rises (y ∷ xs)) h) k (omega arith) in
    subst (λ (n : ℕ). get_or (y ∷ xs) k 0 < get_or (x ∷ y ∷ xs) n 0) (sym (add-one (suc k))) (subst (λ (n : ℕ). get_or (y ∷ xs) k 0 < get_or (y ∷ xs) n 0) (add-one k) rest)
  where
    back : (a b : Bool) → (a && b) ≡ true → b ≡ true
    back true b h = h
    back false b h = absurd (false≢true h)

pub refusals_rise : (config : Config) (next : ℕ) (shown : Listing) (c : Call) → IsStrictlyIncreasing (refusal_numbers (may_refuse config next shown c))
unfolding rises
refusals_rise config next shown (call.Dial None) = rises_increasing (refusal_numbers (may_refuse config next shown (call.Dial None))) refl
refusals_rise config next shown (call.Dial (Some p)) = rises_increasing (refusal_numbers (may_refuse config next shown (call.Dial (Some p)))) refl
refusals_rise config next shown call.Accept = rises_increasing (refusal_numbers (may_refuse config next shown call.Accept)) refl
refusals_rise config next shown (call.Settle n p) = rises_increasing (refusal_numbers (may_refuse config next shown (call.Settle n p))) refl
refusals_rise config next shown (call.Ask n i) = rises_increasing (refusal_numbers (may_refuse config next shown (call.Ask n i))) refl
refusals_rise config next shown (call.Done n i) = rises_increasing (refusal_numbers (may_refuse config next shown (call.Done n i))) refl
refusals_rise config next shown (call.Note n a) = rises_increasing (refusal_numbers (may_refuse config next shown (call.Note n a))) refl
refusals_rise config next shown (call.Gone n) = rises_increasing (refusal_numbers (may_refuse config next shown (call.Gone n))) refl
refusals_rise config next shown (call.HangUp p) = rises_increasing (refusal_numbers (may_refuse config next shown (call.HangUp p))) refl
refusals_rise config next shown (call.Block p) = rises_increasing (refusal_numbers (may_refuse config next shown (call.Block p))) refl
refusals_rise config next shown (call.Unblock p) = rises_increasing (refusal_numbers (may_refuse config next shown (call.Unblock p))) refl
refusals_rise config next shown (call.Allow p) = rises_increasing (refusal_numbers (may_refuse config next shown (call.Allow p))) refl
refusals_rise config next shown (call.Disallow p) = rises_increasing (refusal_numbers (may_refuse config next shown (call.Disallow p))) refl

range_rises : (a n : ℕ) → IsStrictlyIncreasing (range_with_len a n)
range_rises a n k l =
    let size : length (range_with_len a n) ≡ n = length-range_with_len a n in
    omega (arith, get_or-range_with_len a n k 0 (omega (arith, size)), get_or-range_with_len a n (k + 1) 0 (omega (arith, size)))

map_same : (f : ℕ → ℕ) → ((n : ℕ) → f n ≡ n) → (xs : List ℕ) → map f xs ≡ xs
map_same f same [] = refl
map_same f same (x ∷ xs) = ap (λ (n : ℕ). n ∷ map f xs) (same x) ∙ ap (λ (ys : List ℕ). x ∷ ys) (map_same f same xs)

pub rows_rise : (config : Config) (h : List Entry) → IsStrictlyIncreasing (map (λ (row : Row). row.conn) (map (row_of config h) (standing config h)))
rows_rise config h =
    subst IsStrictlyIncreasing (sym (map_map (λ (row : Row). row.conn) (row_of config h) (standing config h) ∙ map_same (λ n. n) (λ n. refl) (standing config h)))
    (IsStrictlyIncreasing-filter (stands h) (range_with_len config.first_conn (admissions h)) (range_rises config.first_conn (admissions h)))
