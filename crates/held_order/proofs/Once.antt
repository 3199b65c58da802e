-- In a connection's list each handler is made, and each last event told, once.
use Rattle.std.proofs.Common.{◌≡◌, ◌≢◌, ◌⊎◌, inl, inr, ℕ, ◌<◌, ◌≤◌, ◌==◌, Bool, true, false, ◌&&◌, not, cond, List, [], ◌∷◌, Option, Some, None, is_some, arith, refl, ap, ◌∙◌, subst}
use Rattle.std.proofs.lemmas.Bool.Decides.{eqb_tells}
use Rattle.handlers.specs.Calls.{HandlerCall, Asked}
use Rattle.yamux_session.specs.declared.event.Role.{Role}
use Rattle.yamux_session.specs.History.{Act, is_own}
use Rattle.yamux_session.specs.History.Item.{Came, Did}
use Rattle.yamux_session.specs.History.Act.{Start, Write, Taken, Close, Reset}
use Rattle.yamux_session.specs.Openings.{opens}
use Rattle.yamux_session.specs.Acts.{AreAnswered, next_own}
use Rattle.yamux_session.proofs.Live.{own_next}
use Rattle.conn_log.specs.declared.event.ConnEvent.TheVariants as event
use Rattle.conn_log.specs.Entries.{Entry, items, since, made_in, made_of, over_in, is_over, is_kept, asked}
use Rattle.conn_log.specs.Entries.Entry.{Of, Says, Made, Asks, Calls}
use Rattle.conn_log.specs.Held.{IsSide}
use Rattle.conn_log.specs.Due.{AllDue, MayBeMade}
use Rattle.conn_log.proofs.Asking.{asked_below, unasked}
use Rattle.held_order.specs.HeldLaws.{ToldOnce, DueIsOnce}

module _ {P H : Type 0} (step : H → HandlerCall → H → Type 0) (fails : H → Asked → ℕ → Type 0)
    (is_closed is_finished : H → Bool) (inbound_makes outbound_makes : P → ℕ → List ℕ → H → Type 0)
    (eager : ℕ → Bool) (names : List (List ℕ)) (peer : List ℕ) (role : Role) where
  abbrev Due : List (Entry H) → Type 0
  Due log = AllDue step fails is_closed is_finished inbound_makes outbound_makes eager names peer role log

  abbrev MayMake : List (Entry H) → ℕ → H → Type 0
  MayMake log n handler = MayBeMade step fails is_closed is_finished inbound_makes outbound_makes eager names peer role log n handler

  -- ---- no handler was made for this end's next number

  none_opened : (o : Bool) (n : ℕ) (log : List (Entry H)) → made_in n log ≡ None → made_in n (cond o [] log) ≡ None
  none_opened true n log none = refl
  none_opened false n log none = none

  asked_for : (log : List (Entry H)) (n : ℕ) (side : _) → AreAnswered role (items log) → is_own role n ≡ true → IsSide role names log n side → n < next_own role (items log)
  asked_for log n side a own s = by (asked log n) refl where
    by : (it : Option ℕ) → asked log n ≡ it → n < next_own role (items log)
    by None none = absurd (unasked role names log n side own none s)
    by (Some index) is = asked_below role log n index a is

  -- for which number a handler is made
  made_below : (log : List (Entry H)) (n : ℕ) (handler : H) → Due log → AreAnswered role (items log) → is_own role n ≡ true → MayMake log n handler → n < next_own role (items log)
  made_below (Says (event.Agreed m index) ∷ log) n handler due a own may = subst (λ k. k < next_own role (items log)) may.0
      (asked_for log m due.0.2.side a (ap (is_own role) may.0 ∙ own) due.0.2.side_is)
  made_below (Asks m index ∷ log) n handler due a own may = let is = may.0 in omega (arith, is)
  made_below [] n handler due a own may = absurd may
  made_below (Of x ∷ log) n handler due a own may = absurd may
  made_below (Says (event.Upgraded key) ∷ log) n handler due a own may = absurd may
  made_below (Says (event.Refused m) ∷ log) n handler due a own may = absurd may
  made_below (Says (event.Done m other) ∷ log) n handler due a own may = absurd may
  made_below (Says (event.Broken m cause) ∷ log) n handler due a own may = absurd may
  made_below (Says (event.Fault fault) ∷ log) n handler due a own may = absurd may
  made_below (Says event.Shut ∷ log) n handler due a own may = absurd may
  made_below (Made m other ∷ log) n handler due a own may = absurd may
  made_below (Calls m call ∷ log) n handler due a own may = absurd may

  unmade : (log : List (Entry H)) (n : ℕ) → Due log → AreAnswered role (items log) → is_own role n ≡ true → next_own role (items log) ≤ n → made_of role log n ≡ None
  unmade [] n due a own next = refl
  unmade (Of (Came x) ∷ log) n due a own next = none_opened (opens role (items log) (Came x) n) n (since role log n) (unmade log n due.1 a own next)
  unmade (Of (Did (Start m)) ∷ log) n due a own next = absurd due.0
  unmade (Of (Did (Write m pieces)) ∷ log) n due a own next = unmade log n due.1 a.1 own next
  unmade (Of (Did (Taken m count)) ∷ log) n due a own next = unmade log n due.1 a.1 own next
  unmade (Of (Did (Close m)) ∷ log) n due a own next = unmade log n due.1 a.1 own next
  unmade (Of (Did (Reset m)) ∷ log) n due a own next = unmade log n due.1 a.1 own next
  unmade (Of (Did (Act.GoAway code)) ∷ log) n due a own next = absurd due.0
  unmade (Says e ∷ log) n due a own next = unmade log n due.1 a own next
  unmade (Made m handler ∷ log) n due a own next = by (eqb_tells m n) (unmade log n due.1 a own next) where
    by : (((m == n) ≡ true) × (m ≡ n)) ⊎ (((m == n) ≡ false) × (m ≢ n)) → made_of role log n ≡ None → cond (m == n) (Some handler) (made_of role log n) ≡ None
    by (inl is) none =
        let below : n < next_own role (items log) = subst (λ k. k < next_own role (items log)) is.1 (made_below log m handler due.1 a (ap (is_own role) is.1 ∙ own) due.0) in
        absurd (omega (arith, below, next))
    by (inr isnt) none = ap (λ b. cond b (Some handler) (made_of role log n)) isnt.0 ∙ none
  unmade (Asks m index ∷ log) n due a own next = let is = a.0.1 in none_opened (m == n) n (since role log n) (unmade log n due.1 a.1 own (omega (arith, is, next)))
  unmade (Calls m call ∷ log) n due a own next = unmade log n due.1 a own next

  -- ---- each entry

  new_stream : (log : List (Entry H)) (m n : ℕ) → m ≡ n → (m == n) ≡ true → (made_in n (cond (m == n) [] (since role log n)) ≡ None) × (over_in n (cond (m == n) [] (since role log n)) ≡ false)
  new_stream log m n is same = (ap (λ b. made_in n (cond b [] (since role log n))) same, ap (λ b. over_in n (cond b [] (since role log n))) same)

  at_same : (m n : ℕ) → m ≡ n → (((m == n) ≡ true) × (m ≡ n)) ⊎ (((m == n) ≡ false) × (m ≢ n)) → (m == n) ≡ true
  at_same m n is (inl same) = same.0
  at_same m n is (inr isnt) = absurd (isnt.1 is)

  made_once : (log : List (Entry H)) (n : ℕ) (handler : H) → Due log → MayMake log n handler → (made_of role log n ≡ None) × (is_over role log n ≡ false)
  made_once (Says (event.Agreed m index) ∷ log) n handler due may = (may.1, subst (λ k. is_over role log k ≡ false) may.0 due.0.1)
  made_once (Asks m index ∷ log) n handler due may = new_stream log m n may.0 (at_same m n may.0 (eqb_tells m n))
  made_once [] n handler due may = absurd may
  made_once (Of x ∷ log) n handler due may = absurd may
  made_once (Says (event.Upgraded key) ∷ log) n handler due may = absurd may
  made_once (Says (event.Refused m) ∷ log) n handler due may = absurd may
  made_once (Says (event.Done m other) ∷ log) n handler due may = absurd may
  made_once (Says (event.Broken m cause) ∷ log) n handler due may = absurd may
  made_once (Says (event.Fault fault) ∷ log) n handler due may = absurd may
  made_once (Says event.Shut ∷ log) n handler due may = absurd may
  made_once (Made m other ∷ log) n handler due may = absurd may
  made_once (Calls m call ∷ log) n handler due may = absurd may

  free : (log : List (Entry H)) (n : ℕ) → Due log → AreAnswered role (items log) → n ≡ next_own role (items log) → is_kept role log n ≡ false
  free log n due a is = ap (λ it. is_some it && not (is_over role log n)) (unmade log n due a own (omega (arith, is))) where
    own : is_own role n ≡ true
    own = ap (is_own role) is ∙ own_next role (items log) a

  once : (log : List (Entry H)) → Due log → AreAnswered role (items log) → ToldOnce role log
  once [] due a = tt
  once (Of (Came x) ∷ log) due a = (tt, once log due.1 a)
  once (Of (Did act) ∷ log) due a = (tt, once log due.1 a.1)
  once (Says (event.Refused n) ∷ log) due a = (due.0.1, once log due.1 a)
  once (Says (event.Done n handler) ∷ log) due a = (due.0.1, once log due.1 a)
  once (Says (event.Broken n cause) ∷ log) due a = (due.0.0, once log due.1 a)
  once (Says (event.Upgraded key) ∷ log) due a = absurd due.0
  once (Says (event.Agreed n index) ∷ log) due a = (tt, once log due.1 a)
  once (Says (event.Fault fault) ∷ log) due a = absurd due.0
  once (Says event.Shut ∷ log) due a = absurd due.0
  once (Made n handler ∷ log) due a = (made_once log n handler due.1 due.0, once log due.1 a)
  once (Asks n index ∷ log) due a = (free log n due.1 a.1 a.0.1, once log due.1 a.1)
  once (Calls n call ∷ log) due a = (tt, once log due.1 a)

pub due_is_once : {P H : Type 0} (step : H → HandlerCall → H → Type 0) (fails : H → Asked → ℕ → Type 0)
    (is_closed is_finished : H → Bool) (inbound_makes outbound_makes : P → ℕ → List ℕ → H → Type 0)
    → DueIsOnce step fails is_closed is_finished inbound_makes outbound_makes
due_is_once step fails is_closed is_finished inbound_makes outbound_makes eager names peer role log =
    once step fails is_closed is_finished inbound_makes outbound_makes eager names peer role log
