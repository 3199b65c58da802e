-- Laws of legal histories and of each caller's calls in them.
use Rattle.std.proofs.Common.{◌≡◌, ◌≢◌, ◌<◌, ◌≤◌, ℕ, zero, suc, ◌+◌, ◌-◌, ◌==◌, cond, Bool, true, false, List, [], ◌∷◌, ◌++◌, length, slice_index, slice_set, refl, ap, sym, subst, ◌∙◌, arith, length-append, append_assoc}
use Rattle.std.proofs.lemmas.Bool.Decides.{nat_tests}
use Rattle.std.proofs.lemmas.List.Elements.{All-append, All-cons, All-nil, All-head, All-tail}
use Rattle.std.proofs.lemmas.Grind.{get_or-set_at}
use Rattle.std.proofs.lemmas.List.{append-nil, get_or-set_other, length-set}
use mathlib.Core.List.{IsPrefix}
use Rattle.pool_state.specs.declared.call.Reply.TheVariants.{Refused}
use Rattle.pool_state.specs.declared.call.Refusal.TheVariants.{Spent}
use Rattle.pool_state.specs.declared.limits.Config.{Config}
use Rattle.pool_state.specs.History.{Entry}
use Rattle.pool_state.specs.Shown.{IsLegal, IsLegalAfter, reply_after}
use Rattle.swarm_calls.specs.History.{mine, IsOf, calls_of, Counts}

pub legal_after_snoc : (config : Config) (before h : List Entry) (e : Entry) → IsLegalAfter config before h → e.reply ≡ reply_after config (before ++ h) e.call → e.reply ≢ Refused Spent → IsLegalAfter config before (h ++ e ∷ [])
legal_after_snoc config before [] e legal reply unspent = ((subst (λ (xs : List Entry). e.reply ≡ reply_after config xs e.call) (append-nil before) reply, unspent), tt)
legal_after_snoc config before (x ∷ h) e legal reply unspent = (legal.0, legal_after_snoc config (before ++ x ∷ []) h e legal.1 (subst (λ (xs : List Entry). e.reply ≡ reply_after config xs e.call) (sym (append_assoc before (x ∷ []) h)) reply) unspent)

pub legal_snoc : (config : Config) (h : List Entry) (e : Entry) → IsLegal config h → e.reply ≡ reply_after config h e.call → e.reply ≢ Refused Spent → IsLegal config (h ++ e ∷ [])
legal_snoc config h e legal reply unspent = legal_after_snoc config [] h e legal reply unspent

pub mine_append : (caller : ℕ) (xs ys : List Entry) → mine caller (xs ++ ys) ≡ mine caller xs ++ mine caller ys
mine_append caller [] ys = refl
mine_append caller (x ∷ xs) ys =
    elim (x.caller == caller) as (λ b. cond b (x ∷ mine caller (xs ++ ys)) (mine caller (xs ++ ys)) ≡ cond b (x ∷ mine caller xs) (mine caller xs) ++ mine caller ys) [ true ↦ ap (λ l. x ∷ l) (mine_append caller xs ys) | false ↦ mine_append caller xs ys ]

none_left : {A : Type 0} (xs ys : List A) → length (xs ++ ys) ≡ length xs → xs ++ ys ≡ xs
none_left [] [] is = refl
none_left [] (y ∷ ys) is = absurd (omega (arith, is))
none_left (x ∷ xs) ys is = ap (λ l. x ∷ l) (none_left xs ys (omega (arith, is)))

-- as many calls of the caller in the whole as in a beginning: they are the same
pub mine_same : (caller : ℕ) (seen history : List Entry) → IsPrefix seen history → length (mine caller history) ≡ length (mine caller seen) → mine caller history ≡ mine caller seen
mine_same caller seen history prefix same =
    let whole : mine caller history ≡ mine caller seen ++ mine caller prefix.0 = ap (mine caller) (sym prefix.1) ∙ mine_append caller seen prefix.0 in
    whole ∙ none_left (mine caller seen) (mine caller prefix.0) (sym (ap length whole) ∙ same)

mine_own : (e : Entry) → mine e.caller (e ∷ []) ≡ e ∷ []
mine_own e = let same : (e.caller == e.caller) ≡ true = grind (arith, nat_tests) in rw same refl

-- the caller's calls with one more of it
pub mine_snoc : (history : List Entry) (e : Entry) → mine e.caller (history ++ e ∷ []) ≡ mine e.caller history ++ e ∷ []
mine_snoc history e = mine_append e.caller history (e ∷ []) ∙ ap (λ l. mine e.caller history ++ l) (mine_own e)

pub of_nil : (callers : ℕ) → IsOf callers []
of_nil callers = All-nil (λ (e : Entry). (1 ≤ e.caller) × (e.caller ≤ callers))

pub of_snoc : (callers : ℕ) (history : List Entry) (e : Entry) → (1 ≤ e.caller) × (e.caller ≤ callers) → IsOf callers history → IsOf callers (history ++ e ∷ [])
of_snoc callers history e within all = All-append (λ (x : Entry). (1 ≤ x.caller) × (x.caller ≤ callers)) history (e ∷ []) all (All-cons (λ (x : Entry). (1 ≤ x.caller) × (x.caller ≤ callers)) e [] within (of_nil callers))

pub mine_le : (caller : ℕ) (h : List Entry) → length (mine caller h) ≤ length h
mine_le caller [] = omega arith
mine_le caller (e ∷ h) = elim (e.caller == caller) as (λ b. length (cond b (e ∷ mine caller h) (mine caller h)) ≤ suc (length h)) [ true ↦ omega (arith, mine_le caller h) | false ↦ omega (arith, mine_le caller h) ]

count_snoc : (caller : ℕ) (h : List Entry) (e : Entry) (b : Bool) → (e.caller == caller) ≡ b → length (mine caller (h ++ e ∷ [])) ≡ length (mine caller h) + cond b 1 0
count_snoc caller h e true is = ap length (mine_append caller h (e ∷ [])) ∙ (rw is (length-append (mine caller h) (e ∷ [])))
count_snoc caller h e false is = ap length (mine_append caller h (e ∷ [])) ∙ (rw is (length-append (mine caller h) []))

each_snoc : (calls : List ℕ) (h : List Entry) (e : Entry) (caller : ℕ) → 1 ≤ e.caller → e.caller ≤ 8 → 1 ≤ caller → Counts calls h → slice_index calls (caller - 1) ≡ length (mine caller h)
    → (b : Bool) → (e.caller == caller) ≡ b → slice_index (slice_set calls (e.caller - 1) (slice_index calls (e.caller - 1) + 1)) (caller - 1) ≡ length (mine caller h) + cond b 1 0
each_snoc calls h e caller low high one counts now true is =
    let same : e.caller ≡ caller = grind (arith, nat_tests) in
    get_or-set_at calls (e.caller - 1) (caller - 1) (slice_index calls (e.caller - 1) + 1) 0 (ap (λ n. n - 1) (sym same)) (omega (arith, counts.long))
    ∙ ap (λ n. n + 1) (ap (λ n. slice_index calls (n - 1)) same ∙ now)
each_snoc calls h e caller low high one counts now false is =
    let other : e.caller ≢ caller = grind (arith, nat_tests) in
    get_or-set_other calls (e.caller - 1) (caller - 1) (slice_index calls (e.caller - 1) + 1) 0 (λ same. other (omega arith)) ∙ (now ∙ omega arith)

pub counts_snoc : (calls : List ℕ) (h : List Entry) (e : Entry) → 1 ≤ e.caller → e.caller ≤ 8 → Counts calls h → Counts (slice_set calls (e.caller - 1) (slice_index calls (e.caller - 1) + 1)) (h ++ e ∷ [])
counts_snoc calls h e low high counts = record {
  long = length-set calls (e.caller - 1) (slice_index calls (e.caller - 1) + 1) ∙ counts.long;
  each = λ caller one two. each_snoc calls h e caller low high one counts (counts.each caller one two) (e.caller == caller) refl ∙ sym (count_snoc caller h e (e.caller == caller) refl);
}

zeros : (i : ℕ) → slice_index (0 ∷ 0 ∷ 0 ∷ 0 ∷ 0 ∷ 0 ∷ 0 ∷ 0 ∷ []) i ≡ 0
zeros zero = refl
zeros (suc zero) = refl
zeros (suc (suc zero)) = refl
zeros (suc (suc (suc zero))) = refl
zeros (suc (suc (suc (suc zero)))) = refl
zeros (suc (suc (suc (suc (suc zero))))) = refl
zeros (suc (suc (suc (suc (suc (suc zero)))))) = refl
zeros (suc (suc (suc (suc (suc (suc (suc zero))))))) = refl
zeros (suc (suc (suc (suc (suc (suc (suc (suc i)))))))) = refl

pub counts_nil : Counts (0 ∷ 0 ∷ 0 ∷ 0 ∷ 0 ∷ 0 ∷ 0 ∷ 0 ∷ []) []
counts_nil = record { long = refl; each = λ caller one two. zeros (caller - 1) }

own_first : (e : Entry) (h : List Entry) → mine e.caller (e ∷ h) ≡ e ∷ mine e.caller h
own_first e h = let same : (e.caller == e.caller) ≡ true = grind (arith, nat_tests) in rw same refl

other_first : (caller : ℕ) (e : Entry) (h : List Entry) (b : Bool) → (e.caller == caller) ≡ b → e.caller ≢ caller → mine caller (e ∷ h) ≡ mine caller h
other_first caller e h true is other = absurd (other (grind (arith, nat_tests)))
other_first caller e h false is other = rw is refl

calls_of_nil : (n : ℕ) → calls_of n [] ≡ 0
calls_of_nil zero = refl
calls_of_nil (suc n) = omega (arith, calls_of_nil n)

counted_at : (n : ℕ) (e : Entry) (h : List Entry) → 1 ≤ e.caller → ((e.caller ≤ n → calls_of n (e ∷ h) ≡ calls_of n h + 1) × (n < e.caller → calls_of n (e ∷ h) ≡ calls_of n h)) → (b : Bool) → (e.caller == suc n) ≡ b
    → ((e.caller ≤ suc n → calls_of (suc n) (e ∷ h) ≡ calls_of (suc n) h + 1) × (suc n < e.caller → calls_of (suc n) (e ∷ h) ≡ calls_of (suc n) h))
counted_at n e h low before true is =
    let same : e.caller ≡ suc n = grind (arith, nat_tests) in
    let own = ap length (subst (λ (k : ℕ). mine k (e ∷ h) ≡ e ∷ mine k h) same (own_first e h)) in
    ((λ high. omega (arith, before.1 (omega (arith, same)), own)), λ high. absurd (omega (arith, same)))
counted_at n e h low before false is =
    let other : e.caller ≢ suc n = grind (arith, nat_tests) in
    let rest = ap length (other_first (suc n) e h (e.caller == suc n) refl other) in
    ((λ high. omega (arith, before.0 (omega (arith, other)), rest)), λ high. omega (arith, before.1 (omega arith), rest))

-- an entry counts once among the callers up to a number that has its own
counted : (n : ℕ) (e : Entry) (h : List Entry) → 1 ≤ e.caller → ((e.caller ≤ n → calls_of n (e ∷ h) ≡ calls_of n h + 1) × (n < e.caller → calls_of n (e ∷ h) ≡ calls_of n h))
counted zero e h low = ((λ high. absurd (omega arith)), λ high. refl)
counted (suc n) e h low = counted_at n e h low (counted n e h low) (e.caller == suc n) refl

-- the history has the calls of its callers
pub sum_is : (callers : ℕ) (h : List Entry) → IsOf callers h → length h ≡ calls_of callers h
sum_is callers [] all = sym (calls_of_nil callers)
sum_is callers (e ∷ h) all =
    let within = All-head (λ (x : Entry). (1 ≤ x.caller) × (x.caller ≤ callers)) e h all in
    omega (arith, sum_is callers h (All-tail (λ (x : Entry). (1 ≤ x.caller) × (x.caller ≤ callers)) e h all), (counted callers e h within.0).0 within.1)
