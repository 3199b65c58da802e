-- What an act does to a stream of which something told is still to be routed.
use Rattle.std.proofs.Common.{◌≡◌, ℕ, ◌==◌, Bool, true, false, not, ◌&&◌, cond, List, [], ◌∷◌, ◌++◌, refl, sym, ap, ◌∙◌, subst}
use Rattle.std.specs.List.{concat, AllByRecursion}
use Rattle.std.proofs.lemmas.List.{append_assoc, append-nil}
use Rattle.yamux_session.specs.declared.event.Role.{Role}
use Rattle.yamux_session.specs.History.{Item, Act}
use Rattle.yamux_session.specs.History.Item.{Did}
use Rattle.yamux_session.specs.History.Act.{Write, Taken, Close, Reset}
use Rattle.yamux_session.specs.Events.{Told}
use Rattle.yamux_session.specs.Seen.{Seen, seen, does, hears, all_heard, just_opened, AgreesOn, ActsDo}
use Rattle.conn_log.specs.Routes.{IsNoOpening, IsNoData, EndsLast}
use Rattle.conn_log.proofs.Same.{IsOn}

pub same : (n : ℕ) → (n == n) ≡ true
same n = Rattle.std.proofs.lemmas.Bool.eq-eqb n n refl

abbrev pub wrote : List ℕ → Seen → Seen
wrote bytes s = record s { sent = s.sent ++ bytes }

abbrev pub shut : Seen → Seen
shut s = record s { closed = true; live = s.live && not s.ended }

abbrev pub gone : Seen → Seen
gone s = record s { live = false }

-- what an act on the stream does to it
abbrev pub done_by : Act → Seen → Seen
done_by (Write m pieces) s = wrote (concat pieces) s
done_by (Taken m count) s = s
done_by (Close m) s = shut s
done_by (Reset m) s = gone s
done_by other s = s

pub its_own : (k n : ℕ) → k ≡ n → (k == n) ≡ true
its_own k n is = ap (λ x. x == n) is ∙ same n

pub does_is : (n : ℕ) (s : Seen) (act : Act) → IsOn n act → does n s act ≡ done_by act s
does_is n s (Write k pieces) on = ap (λ b. cond b (record s { sent = s.sent ++ concat pieces }) s) (its_own k n on)
does_is n s (Taken k count) on = refl
does_is n s (Close k) on = ap (λ b. cond b (record s { closed = true; live = s.live && not s.ended }) s) (its_own k n on)
does_is n s (Reset k) on = ap (λ b. cond b (record s { live = false }) s) (its_own k n on)
does_is n s (Act.Start k) on = absurd on
does_is n s (Act.GoAway code) on = absurd on

never : (b : Bool) → b && false ≡ false
never true = refl
never false = refl

-- ---- what is heard later changes nothing of it

wrote_first : (n : ℕ) (bytes : List ℕ) (s : Seen) (t : Told) → IsNoOpening n t → hears n (wrote bytes s) t ≡ wrote bytes (hears n s t)
wrote_first n bytes s (Told.Opened m) e = ap (λ b. cond b just_opened (record s { sent = s.sent ++ bytes })) e ∙ sym (ap (λ (x : Seen). record x { sent = x.sent ++ bytes }) (ap (λ b. cond b just_opened s) e))
wrote_first n bytes s (Told.Payload m b) e = by_test (m == n) where
  by_test : (is : Bool) → cond is (record (record s { sent = s.sent ++ bytes }) { came = s.came ++ b ∷ [] }) (record s { sent = s.sent ++ bytes })
      ≡ record (cond is (record s { came = s.came ++ b ∷ [] }) s) { sent = (cond is (record s { came = s.came ++ b ∷ [] }) s).sent ++ bytes }
  by_test true = refl
  by_test false = refl
wrote_first n bytes s (Told.Ended m) e = by_test (m == n) where
  by_test : (is : Bool) → cond is (record (record s { sent = s.sent ++ bytes }) { ended = true; live = s.live && not s.closed }) (record s { sent = s.sent ++ bytes })
      ≡ record (cond is (record s { ended = true; live = s.live && not s.closed }) s) { sent = (cond is (record s { ended = true; live = s.live && not s.closed }) s).sent ++ bytes }
  by_test true = refl
  by_test false = refl
wrote_first n bytes s (Told.Reset m) e = by_test (m == n) where
  by_test : (is : Bool) → cond is (record (record s { sent = s.sent ++ bytes }) { live = false }) (record s { sent = s.sent ++ bytes })
      ≡ record (cond is (record s { live = false }) s) { sent = (cond is (record s { live = false }) s).sent ++ bytes }
  by_test true = refl
  by_test false = refl
wrote_first n bytes s (Told.Accepted m) e = refl
wrote_first n bytes s (Told.Credit m) e = refl
wrote_first n bytes s (Told.GoAway code) e = refl
wrote_first n bytes s (Told.Fault fault) e = refl

shut_first : (n : ℕ) (s : Seen) (t : Told) → IsNoOpening n t → hears n (shut s) t ≡ shut (hears n s t)
shut_first n s (Told.Opened m) e = ap (λ b. cond b just_opened (record s { closed = true; live = s.live && not s.ended })) e
    ∙ sym (ap (λ (x : Seen). record x { closed = true; live = x.live && not x.ended }) (ap (λ b. cond b just_opened s) e))
shut_first n s (Told.Payload m b) e = by_test (m == n) where
  by_test : (is : Bool) → cond is (record (record s { closed = true; live = s.live && not s.ended }) { came = s.came ++ b ∷ [] }) (record s { closed = true; live = s.live && not s.ended })
      ≡ record (cond is (record s { came = s.came ++ b ∷ [] }) s) { closed = true; live = (cond is (record s { came = s.came ++ b ∷ [] }) s).live && not (cond is (record s { came = s.came ++ b ∷ [] }) s).ended }
  by_test true = refl
  by_test false = refl
shut_first n s (Told.Ended m) e = by_test (m == n) where
  by_test : (is : Bool) → cond is (record (record s { closed = true; live = s.live && not s.ended }) { ended = true; live = (s.live && not s.ended) && false }) (record s { closed = true; live = s.live && not s.ended })
      ≡ record (cond is (record s { ended = true; live = s.live && not s.closed }) s) { closed = true; live = (cond is (record s { ended = true; live = s.live && not s.closed }) s).live && not (cond is (record s { ended = true; live = s.live && not s.closed }) s).ended }
  by_test true = ap (λ l. record s { closed = true; ended = true; live = l }) (never (s.live && not s.ended) ∙ sym (never (s.live && not s.closed)))
  by_test false = refl
shut_first n s (Told.Reset m) e = by_test (m == n) where
  by_test : (is : Bool) → cond is (record (record s { closed = true; live = s.live && not s.ended }) { live = false }) (record s { closed = true; live = s.live && not s.ended })
      ≡ record (cond is (record s { live = false }) s) { closed = true; live = (cond is (record s { live = false }) s).live && not (cond is (record s { live = false }) s).ended }
  by_test true = refl
  by_test false = refl
shut_first n s (Told.Accepted m) e = refl
shut_first n s (Told.Credit m) e = refl
shut_first n s (Told.GoAway code) e = refl
shut_first n s (Told.Fault fault) e = refl

gone_first : (n : ℕ) (s : Seen) (t : Told) → IsNoOpening n t → hears n (gone s) t ≡ gone (hears n s t)
gone_first n s (Told.Opened m) e = ap (λ b. cond b just_opened (record s { live = false })) e ∙ sym (ap (λ (x : Seen). record x { live = false }) (ap (λ b. cond b just_opened s) e))
gone_first n s (Told.Payload m b) e = by_test (m == n) where
  by_test : (is : Bool) → cond is (record (record s { live = false }) { came = s.came ++ b ∷ [] }) (record s { live = false })
      ≡ record (cond is (record s { came = s.came ++ b ∷ [] }) s) { live = false }
  by_test true = refl
  by_test false = refl
gone_first n s (Told.Ended m) e = by_test (m == n) where
  by_test : (is : Bool) → cond is (record (record s { live = false }) { ended = true; live = false }) (record s { live = false })
      ≡ record (cond is (record s { ended = true; live = s.live && not s.closed }) s) { live = false }
  by_test true = refl
  by_test false = refl
gone_first n s (Told.Reset m) e = by_test (m == n) where
  by_test : (is : Bool) → cond is (record s { live = false }) (record s { live = false }) ≡ record (cond is (record s { live = false }) s) { live = false }
  by_test true = refl
  by_test false = refl
gone_first n s (Told.Accepted m) e = refl
gone_first n s (Told.Credit m) e = refl
gone_first n s (Told.GoAway code) e = refl
gone_first n s (Told.Fault fault) e = refl

-- so it is as if the act had come behind what is still to be routed
all_first : (f : Seen → Seen) (n : ℕ) → ((s : Seen) (t : Told) → IsNoOpening n t → hears n (f s) t ≡ f (hears n s t))
    → (s : Seen) (rest : List Told) → AllByRecursion (IsNoOpening n) rest → all_heard n (f s) rest ≡ f (all_heard n s rest)
all_first f n first s [] none = refl
all_first f n first s (t ∷ rest) none = ap (λ (x : Seen). all_heard n x rest) (first s t none.0) ∙ all_first f n first (hears n s t) rest none.1

pub act_first : (n : ℕ) (s : Seen) (act : Act) (rest : List Told) → IsOn n act → AllByRecursion (IsNoOpening n) rest
    → all_heard n (done_by act s) rest ≡ done_by act (all_heard n s rest)
act_first n s (Write k pieces) rest on none = all_first (wrote (concat pieces)) n (wrote_first n (concat pieces)) s rest none
act_first n s (Taken k count) rest on none = refl
act_first n s (Close k) rest on none = all_first shut n (shut_first n) s rest none
act_first n s (Reset k) rest on none = all_first gone n (gone_first n) s rest none
act_first n s (Act.Start k) rest on none = absurd on
act_first n s (Act.GoAway code) rest on none = absurd on

pub gone_first_all : (n : ℕ) (s : Seen) (rest : List Told) → AllByRecursion (IsNoOpening n) rest → all_heard n (gone s) rest ≡ gone (all_heard n s rest)
gone_first_all n s rest none = all_first gone n (gone_first n) s rest none

-- ---- what was heard goes on to agree with what is

still_live : (b c d e : Bool) → b ≡ c → (b ≡ true → d ≡ e) → b && not d ≡ c && not e
still_live true c d e is same_end = ap (λ x. x && not d) is ∙ ap (λ x. c && not x) (same_end refl)
still_live false c d e is same_end = ap (λ x. x && not e) is

was_live : (b c : Bool) → b && c ≡ true → b ≡ true
was_live true c e = refl
was_live false c e = e

pub agrees_by : (act : Act) (is heard : Seen) → AgreesOn is heard → AgreesOn (done_by act is) (done_by act heard)
agrees_by (Write m pieces) is heard a = record { live = a.live; closed = a.closed; came = a.came; sent = ap (λ t. t ++ concat pieces) a.sent; ended = a.ended; live_ended = a.live_ended }
agrees_by (Taken m count) is heard a = a
agrees_by (Close m) is heard a = record {
  live = still_live is.live heard.live is.ended heard.ended a.live a.live_ended;
  closed = refl;
  came = a.came;
  sent = a.sent;
  ended = a.ended;
  live_ended = λ on. a.live_ended (was_live is.live (not is.ended) on);
}
agrees_by (Reset m) is heard a = record { live = refl; closed = a.closed; came = a.came; sent = a.sent; ended = a.ended; live_ended = λ on. absurd (cc on) }
agrees_by (Act.Start m) is heard a = a
agrees_by (Act.GoAway code) is heard a = a

-- a stream that is live no more may be seen so at once
pub agrees_gone : (is heard : Seen) → is.live ≡ false → AgreesOn is heard → AgreesOn is (gone heard)
agrees_gone is heard off a = record { live = off; closed = a.closed; came = a.came; sent = a.sent; ended = a.ended; live_ended = λ on. absurd (let both : true ≡ false = sym on ∙ off in cc both) }

-- the act is on the list, and what is still to be routed is as before
pub moves_on : ActsDo → (role : Role) (past : List Item) (n : ℕ) (view : Seen) (rest : List Told) (act : Act) → IsOn n act → AllByRecursion (IsNoOpening n) rest
    → AgreesOn (seen role past n) (all_heard n view rest) → AgreesOn (seen role (Did act ∷ past) n) (all_heard n (done_by act view) rest)
moves_on acts_do role past n view rest act on none a =
    let there : AgreesOn (done_by act (seen role past n)) (done_by act (all_heard n view rest)) = agrees_by act (seen role past n) (all_heard n view rest) a in
    let heard : AgreesOn (done_by act (seen role past n)) (all_heard n (done_by act view) rest) =
    subst (λ (x : Seen). AgreesOn (done_by act (seen role past n)) x) (sym (act_first n view act rest on none)) there in
    subst (λ (x : Seen). AgreesOn x (all_heard n (done_by act view) rest)) (sym (acts_do role past act n ∙ does_is n (seen role past n) act on)) heard

-- ---- what is still to be routed goes behind what was seen

pub came_front : (n : ℕ) (view : Seen) (rest : List Told) → AllByRecursion (IsNoOpening n) rest → (more : List ℕ) × ((all_heard n view rest).came ≡ view.came ++ more)
came_front n view [] none = ([], sym (append-nil view.came))
came_front n view (t ∷ rest) none =
    let first = came_by t none.0 in
    let later = came_front n (hears n view t) rest none.1 in
    (first.0 ++ later.0, later.1 ∙ ap (λ x. x ++ later.0) first.1 ∙ append_assoc view.came first.0 later.0)
  where
    by_test : (is : Bool) (b : ℕ) → (more : List ℕ) × ((cond is (record view { came = view.came ++ b ∷ [] }) view).came ≡ view.came ++ more)
    by_test true b = (b ∷ [], refl)
    by_test false b = ([], sym (append-nil view.came))

    kept : (is : Bool) (other : Seen) → other.came ≡ view.came → (cond is other view).came ≡ view.came ++ []
    kept true other e = e ∙ sym (append-nil view.came)
    kept false other e = sym (append-nil view.came)

    came_by : (t : Told) → IsNoOpening n t → (more : List ℕ) × ((hears n view t).came ≡ view.came ++ more)
    came_by (Told.Opened m) e = ([], ap (λ b. (cond b just_opened view).came) e ∙ sym (append-nil view.came))
    came_by (Told.Payload m b) e = by_test (m == n) b
    came_by (Told.Ended m) e = ([], kept (m == n) (record view { ended = true; live = view.live && not view.closed }) refl)
    came_by (Told.Reset m) e = ([], kept (m == n) (record view { live = false }) refl)
    came_by (Told.Accepted m) e = ([], sym (append-nil view.came))
    came_by (Told.Credit m) e = ([], sym (append-nil view.came))
    came_by (Told.GoAway code) e = ([], sym (append-nil view.came))
    came_by (Told.Fault fault) e = ([], sym (append-nil view.came))

-- where no data is behind it, no more came
pub no_data_behind : (n : ℕ) (view : Seen) (rest : List Told) → AllByRecursion (IsNoOpening n) rest → AllByRecursion IsNoData rest → (all_heard n view rest).came ≡ view.came
no_data_behind n view [] none no_data = refl
no_data_behind n view (Told.Opened m ∷ rest) none no_data =
    no_data_behind n (hears n view (Told.Opened m)) rest none.1 no_data.1 ∙ ap (λ b. (cond b just_opened view).came) none.0
no_data_behind n view (Told.Payload m b ∷ rest) none no_data = absurd no_data.0
no_data_behind n view (Told.Ended m ∷ rest) none no_data = no_data_behind n (hears n view (Told.Ended m)) rest none.1 no_data.1 ∙ by_test (m == n) where
  by_test : (b : Bool) → (cond b (record view { ended = true; live = view.live && not view.closed }) view).came ≡ view.came
  by_test true = refl
  by_test false = refl
no_data_behind n view (Told.Reset m ∷ rest) none no_data = no_data_behind n (hears n view (Told.Reset m)) rest none.1 no_data.1 ∙ by_test (m == n) where
  by_test : (b : Bool) → (cond b (record view { live = false }) view).came ≡ view.came
  by_test true = refl
  by_test false = refl
no_data_behind n view (Told.Accepted m ∷ rest) none no_data = no_data_behind n view rest none.1 no_data.1
no_data_behind n view (Told.Credit m ∷ rest) none no_data = no_data_behind n view rest none.1 no_data.1
no_data_behind n view (Told.GoAway code ∷ rest) none no_data = no_data_behind n view rest none.1 no_data.1
no_data_behind n view (Told.Fault fault ∷ rest) none no_data = no_data_behind n view rest none.1 no_data.1

-- as behind the end, or a reset
no_data_last : (rest : List Told) → EndsLast true rest → AllByRecursion IsNoData rest
no_data_last [] last = tt
no_data_last (Told.Opened m ∷ rest) last = (tt, no_data_last rest last)
no_data_last (Told.Payload m b ∷ rest) last = absurd (let e = last.0 in cc e)
no_data_last (Told.Ended m ∷ rest) last = (tt, no_data_last rest last.1)
no_data_last (Told.Reset m ∷ rest) last = (tt, no_data_last rest last)
no_data_last (Told.Accepted m ∷ rest) last = (tt, no_data_last rest last)
no_data_last (Told.Credit m ∷ rest) last = (tt, no_data_last rest last.0)
no_data_last (Told.GoAway code ∷ rest) last = (tt, no_data_last rest last)
no_data_last (Told.Fault fault ∷ rest) last = (tt, no_data_last rest last)

pub none_behind : (n : ℕ) (view : Seen) (rest : List Told) → AllByRecursion (IsNoOpening n) rest → EndsLast true rest → (all_heard n view rest).came ≡ view.came
none_behind n view rest none last = no_data_behind n view rest none (no_data_last rest last)
