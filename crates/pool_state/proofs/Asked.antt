-- What the table asks of a listing is asked of its history.
use Rattle.std.proofs.Common.{◌≡◌, ◌∙◌, ◌⊎◌, inl, inr, ℕ, ◌+◌, ◌<◌, ◌≤◌, ◌==◌, Bool, true, false, not, ◌&&◌, ◌||◌, cond, List, [], ◌∷◌, ◌++◌, map, refl, sym, ap, arith}
use Rattle.std.proofs.lemmas.Bool.{false≢true, eqb-true, eq-eqb}
use Rattle.pool_state.specs.declared.call.Call.{Call}
use Rattle.pool_state.specs.declared.call.Call.TheVariants as call
use Rattle.pool_state.specs.declared.call.Reply.{Reply}
use Rattle.pool_state.specs.declared.call.Reply.TheVariants as reply
use Rattle.pool_state.specs.declared.call.Refusal.{Refusal}
use Rattle.pool_state.specs.declared.limits.Config.{Config}
use Rattle.pool_state.specs.declared.row.Row.{Row}
use Rattle.pool_state.specs.Table.{row_is}
use Rattle.pool_state.specs.History.{Entry, stands, begins, ends, admits, admissions, next_number, blocks, unblocks, allows, disallows}
use Rattle.pool_state.specs.Shown.{row_of, standing, IsLegal, ShowsHistory}
use Rattle.pool_state.proofs.Questions.{since_more}
use Rattle.pool_state.proofs.Standing.{found_in, none_passes}
use Rattle.pool_state.proofs.Listed.{has_listed}
use Rattle.pool_state.proofs.Legal.{IsNext, Counts, decided, legal_ind}
use Rattle.pool_state.proofs.Blank.{admissions_more}
use Rattle.pool_state.proofs.Law.{block_exclusive, allow_exclusive}
use Rattle.pool_state.proofs.Bounds.{count_map}

-- an entry admits the number that is next, and no other
counted_begins : (config : Config) (h : List Entry) (c : Call) (r : Reply) (n : ℕ) → Counts config h c r → begins n c r ≡ true → (n ≡ next_number config h) × (admits c r ≡ true)
counted_begins config h (call.Dial p) r n k b = (eqb-true n (next_number config h) (sym (ap (begins n (call.Dial p)) k.answered) ∙ b), ap (admits (call.Dial p)) k.answered)
counted_begins config h call.Accept r n k b = (eqb-true n (next_number config h) (sym (ap (begins n call.Accept) k.answered) ∙ b), ap (admits call.Accept) k.answered)
counted_begins config h (call.Settle m p) r n k b = absurd (false≢true (sym (ap (begins n (call.Settle m p)) k.answered) ∙ b))
counted_begins config h (call.Ask m i) r n k b = absurd (false≢true (sym (ap (begins n (call.Ask m i)) k.answered) ∙ b))
counted_begins config h (call.Done m i) r n k b = absurd (false≢true (sym (ap (begins n (call.Done m i)) k.answered) ∙ b))
counted_begins config h (call.Gone m) r n k b = absurd (false≢true (sym (ap (begins n (call.Gone m)) k.answered) ∙ b))
counted_begins config h (call.Note m a) r n k b = absurd (false≢true (sym (ap (begins n (call.Note m a)) k.answered) ∙ b))
counted_begins config h (call.HangUp p) r n k b = absurd (false≢true (sym (ap (begins n (call.HangUp p)) k.answered) ∙ b))
counted_begins config h (call.Block p) r n k b = absurd (false≢true (sym (ap (begins n (call.Block p)) k.answered) ∙ b))
counted_begins config h (call.Unblock p) r n k b = absurd (false≢true (sym (ap (begins n (call.Unblock p)) k.answered) ∙ b))
counted_begins config h (call.Allow p) r n k b = absurd (false≢true (sym (ap (begins n (call.Allow p)) k.answered) ∙ b))
counted_begins config h (call.Disallow p) r n k b = absurd (false≢true (sym (ap (begins n (call.Disallow p)) k.answered) ∙ b))

next_begins : (config : Config) (h : List Entry) (c : Call) (r : Reply) (n : ℕ) → IsNext config h c r → begins n c r ≡ true → (n ≡ next_number config h) × (admits c r ≡ true)
next_begins config h c r n next b = by_case (decided config h c r next).1
  where
    by_case : (((w : Refusal) × (r ≡ reply.Refused w)) ⊎ Counts config h c r) → (n ≡ next_number config h) × (admits c r ≡ true)
    by_case (inl w) = absurd (false≢true (sym (ap (begins n c) w.1) ∙ b))
    by_case (inr k) = counted_begins config h c r n k b

-- a connection that stands has a number that was given
abbrev AreGiven : Config → List Entry → Type 0
AreGiven config h = (n : ℕ) → stands h n ≡ true → (config.first_conn ≤ n) × (n < next_number config h)

given_step : (config : Config) (h : List Entry) (e : Entry) → IsNext config h e.call e.reply → AreGiven config h → AreGiven config (h ++ e ∷ [])
given_step config h e next given n s = by_case (stands h n) (ends n e.call e.reply) (begins n e.call e.reply) refl refl (sym since ∙ s)
  where
    since : stands (h ++ e ∷ []) n ≡ ((stands h n && not (ends n e.call e.reply)) || begins n e.call e.reply)
    since = since_more (λ (x : Entry). begins n x.call x.reply) (λ (x : Entry). ends n x.call x.reply) h e

    more : next_number config h ≤ next_number config (h ++ e ∷ [])
    more = by_test (admits e.call e.reply) (admissions_more h e.caller e.call e.reply)
      where
        by_test : (b : Bool) → admissions (h ++ e ∷ []) ≡ cond b (admissions h + 1) (admissions h) → next_number config h ≤ next_number config (h ++ e ∷ [])
        by_test true q = omega arith
        by_test false q = omega arith

    one_more : admits e.call e.reply ≡ true → next_number config (h ++ e ∷ []) ≡ next_number config h + 1
    one_more a = let q : admissions (h ++ e ∷ []) ≡ admissions h + 1 = admissions_more h e.caller e.call e.reply ∙ ap (λ b. cond b (admissions h + 1) (admissions h)) a in omega arith

    by_case : (a b c : Bool) → stands h n ≡ a → begins n e.call e.reply ≡ c → ((a && not b) || c) ≡ true → (config.first_conn ≤ n) × (n < next_number config (h ++ e ∷ []))
    by_case true b c ea ec q = let g = given n ea in (g.0, omega (arith, g.1, more))
    by_case false b true ea ec q = let f = next_begins config h e.call e.reply n next ec in (omega (arith, f.0), omega (arith, f.0, one_more f.1))
    by_case false b false ea ec q = absurd (false≢true q)

are_given : (config : Config) (h : List Entry) → IsLegal config h → AreGiven config h
are_given config h legal = legal_ind config (AreGiven config) (given_step config) (λ n s. absurd (false≢true s)) h legal

row_asked : (config : Config) (h : List Entry) → IsLegal config h → (n : ℕ) (test : Row → Bool) → row_is (map (row_of config h) (standing config h)) n test ≡ (stands h n && test (row_of config h n))
row_asked config h legal n test = by_case (row_is (map (row_of config h) (standing config h)) n test) refl
  where
    both : (a b : Bool) → (a && b) ≡ true → (a ≡ true) × (b ≡ true)
    both true b e = (refl, e)
    both false b e = absurd (false≢true e)

    joined : (a b : Bool) → a ≡ true → b ≡ true → true ≡ (a && b)
    joined a b ea eb = rw (ea, eb) refl

    absent : (s : Bool) → stands h n ≡ s → row_is (map (row_of config h) (standing config h)) n test ≡ false → false ≡ (s && test (row_of config h n))
    absent false es e = refl
    absent true es e =
        let g = are_given config h legal n es in
        let f = none_passes (λ (row : Row). row.conn == n && test row) (row_of config h) (stands h) config.first_conn (admissions h) e n g.0 g.1 es in
        sym (ap (λ b. b && test (row_of config h n)) (sym (eq-eqb n n refl)) ∙ f)

    by_case : (b : Bool) → row_is (map (row_of config h) (standing config h)) n test ≡ b → b ≡ (stands h n && test (row_of config h n))
    by_case true e =
        let w = found_in (λ (row : Row). row.conn == n && test row) (row_of config h) (stands h) config.first_conn (admissions h) e in
        let p = both (w.number == n) (test (row_of config h w.number)) w.passes in
        let same : w.number ≡ n = eqb-true w.number n p.0 in
        joined (stands h n) (test (row_of config h n)) (ap (stands h) (sym same) ∙ w.kept) (ap (λ (m : ℕ). test (row_of config h m)) (sym same) ∙ p.1)
    by_case false e = absent (stands h n) refl e

pub shows_history : (config : Config) (h : List Entry) → IsLegal config h → ShowsHistory config h
shows_history config h legal = record {
  row = row_asked config h legal;
  count = λ test. count_map test (row_of config h) (standing config h);
  blocked = has_listed blocks unblocks block_exclusive h;
  allowed = has_listed allows disallows allow_exclusive h;
}
