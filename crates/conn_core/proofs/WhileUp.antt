-- What holds of an end that is up, of its streams and handlers.
use Rattle.std.proofs.Common.{◌≡◌, ◌≢◌, ℕ, Bool, true, false, not, List, [], ◌++◌, Option, Some, None, IfSome, IsSome, refl, sym, ap, ◌∙◌, subst}
use Rattle.std.proofs.lemmas.List.{append-nil}
use Rattle.handlers.specs.Calls.{HandlerCall, Asked}
use Rattle.peer_ids.specs.Key.{Key}
use Rattle.peer_ids.specs.PeerId.{id_of}
use Rattle.yamux_session.specs.Data.{inbound}
use Rattle.ms_select.specs.declared.answer.Answer.{Answer}
use Rattle.talks.specs.Talks.{Side, Asks, Answers, IsOpen, Agrees}
use Rattle.talks.specs.State.{Talking as Talk, StandsWith}
use Rattle.upgrade.specs.declared.role.ConnRole.{ConnRole}
use Rattle.yamux_session.specs.declared.event.Role.{Role}
use Rattle.yamux_session.specs.History.{is_own}
use Rattle.streams.specs.declared.stage.Stage.{Stage}
use Rattle.streams.specs.declared.stage.Stage.TheVariants.{Talking, Serving}
use Rattle.streams.specs.Streams.{IsServed, IsTalking, IsGoing, IsAsking}
use Rattle.streams.specs.Handled.{Handled}
use Rattle.streams.specs.State.{Streaming, StandsAt, is_open, has_finished, is_talking}
use Rattle.conn_log.specs.Entries.{Entry, items, agreed, calls_of}
use Rattle.conn_log.specs.Held.{IsSide, IsAtRest}
use Rattle.conn_core.proofs.Agreeing.{told_agreement}
use Rattle.conn_core.specs.Connects.{session_role}
use Rattle.conn_core.specs.Promises.{IsServing, IsEarly, AreServing, AreEarly, LiveAreHeld, UpIsSplit}

module _ {H : Type 0} (step : H → HandlerCall → H → Type 0) (is_closed is_finished : H → Bool)
    (names : List (List ℕ)) (role : Role) where
  serving : (log : List (Entry H)) (n : ℕ) (stream : Streaming H) (handler : H) → stream.stage ≡ Serving handler
      → (agreed role log n ≢ None → (side : Side) (index : ℕ) (first rest output : List ℕ) → IsSide role names log n side → inbound role (items log) n ≡ first ++ rest → Agrees side first index output → agreed role log n ≡ Some index)
      → IsAtRest step is_closed is_finished names role log n stream → IsServing step is_closed is_finished names role log n stream handler
  serving log n stream handler stage_is told rest =
      let held = rest.held in
      let so_far = held.so_far in
      let s : IsServed step so_far handler stream.waiting = subst (λ (x : Stage H). StandsAt step x so_far stream.waiting) stage_is held.stands in
      record {
        side = so_far.side;
        index = s.index;
        first = s.agreed.first;
        rest = s.rest;
        output = s.agreed.output;
        gave = s.gave;
        made = s.made;
        left = so_far.left;
        side_is = held.side_is;
        data_is = sym held.got_is ∙ s.agreed.got_is;
        agrees = s.agreed.agrees;
        agreed_is = told (held.agreed_on (ap is_talking stage_is)) so_far.side s.index s.agreed.first s.rest s.agreed.output held.side_is (sym held.got_is ∙ s.agreed.got_is) s.agreed.agrees;
        made_is = sym held.made_is ∙ s.made_is;
        handled = subst (λ (b : Bool). Handled step s.made (calls_of role log n) s.rest b s.gave so_far.left handler) held.ended_is
            (subst (λ (calls : List HandlerCall). Handled step s.made calls s.rest so_far.ended s.gave so_far.left handler) held.calls_is s.handled);
        sent_is = ap (λ t. t ++ stream.waiting) (sym held.sent_is) ∙ s.agreed.sent_is;
        unfinished = sym (ap (has_finished is_finished) stage_is) ∙ rest.unfinished;
        asked_last = λ live open_still unclosed. (rest.settled live).asked open_still (ap (is_open is_closed) stage_is ∙ ap not unclosed);
        all_sent = λ live open_still some. (rest.settled live).none_waits open_still some;
      }

  own_side : (log : List (Entry H)) (n : ℕ) (side : Side) → IsAsking side → IsSide role names log n side → is_own role n ≡ true
  own_side log n (Asks name index) asking it = it.0
  own_side log n (Answers known) asking it = absurd asking

  open_talk : (talk : Talk) (side : Side) (got output : List ℕ) → IsGoing side talk got output → IsOpen side got output
  open_talk talk side got output going =
      let stands = subst (λ (a : Option Answer). StandsWith a talk got output) going.going going.stands in
      subst (λ (s : Side). IsOpen s got output) going.side_is
      (subst (λ (t : List ℕ). IsOpen talk.side got t) (ap (λ t. output ++ t) going.none_waits ∙ append-nil output) stands.0)

  early : (log : List (Entry H)) (n : ℕ) (stream : Streaming H) (handler : H) (talk : Talk) → stream.stage ≡ Talking talk (Some handler)
      → IsAtRest step is_closed is_finished names role log n stream → IsEarly step is_closed is_finished names role log n stream handler
  early log n stream handler talk stage_is rest =
      let held = rest.held in
      let so_far = held.so_far in
      let s : IsTalking step so_far talk (Some handler) stream.waiting = subst (λ (x : Stage H). StandsAt step x so_far stream.waiting) stage_is held.stands in
      let made = s.early.1 in
      record {
        side = so_far.side;
        output = s.output;
        gave = s.gave;
        made = made.0;
        left = so_far.left;
        opened = own_side log n so_far.side s.early.0 held.side_is;
        side_is = held.side_is;
        undecided = subst (λ (got : List ℕ). IsOpen so_far.side got s.output) held.got_is (open_talk talk so_far.side so_far.got s.output s.going);
        made_is = sym held.made_is ∙ made.1;
        handled = subst (λ (calls : List HandlerCall). Handled step made.0 calls [] false s.gave so_far.left handler) held.calls_is made.2;
        sent_is = ap (λ t. t ++ stream.waiting) (sym held.sent_is) ∙ s.sent_is;
        asked_last = λ live open_still unclosed. (rest.settled live).asked open_still (ap (is_open is_closed) stage_is ∙ ap not unclosed);
        all_sent = λ live open_still some. (rest.settled live).none_waits open_still some;
      }

-- what is held is there
given_some : {A : Type 0} (Q : A → Type 0) (o : Option A) (x : A) → o ≡ Some x → IfSome o Q → Q x
given_some {A = A} Q o x is q = subst (λ (t : Option A). IfSome t Q) is q

some_of : {A : Type 0} (o : Option A) → IsSome o → (x : A) × (o ≡ Some x)
some_of (Some x) is = (x, refl)
some_of None is = absurd (cc is)

module _ {P H : Type 0} (step : H → HandlerCall → H → Type 0) (fails : H → Asked → ℕ → Type 0)
    (is_closed is_finished : H → Bool) (inbound_makes outbound_makes : P → ℕ → List ℕ → H → Type 0)
    (listed : P → List (List ℕ)) (is_eager : P → ℕ → Bool)
    (inbound_leads outbound_leads : P → ℕ → List ℕ → H → P → Type 0) (start : P) (role : ConnRole) (own : Key) where
  pub are_serving : AreServing step fails is_closed is_finished inbound_makes outbound_makes listed is_eager inbound_leads outbound_leads start role own
  are_serving session streams past input log told written up n stream handler is stage_is =
      serving step is_closed is_finished (listed start) (session_role role) log n stream handler stage_is
      (told_agreement step fails is_closed is_finished inbound_makes outbound_makes (is_eager start) (listed start) (id_of up.key) (session_role role) log n up.at_rest.due)
      (given_some _ (streams n) stream is (up.at_rest.each n))

  pub are_early : AreEarly step fails is_closed is_finished inbound_makes outbound_makes listed is_eager inbound_leads outbound_leads start role own
  are_early session streams past input log told written up n stream handler talk is stage_is =
      early step is_closed is_finished (listed start) (session_role role) log n stream handler talk stage_is (given_some _ (streams n) stream is (up.at_rest.each n))

  pub live_are_held : LiveAreHeld step fails is_closed is_finished inbound_makes outbound_makes listed is_eager inbound_leads outbound_leads start role own
  live_are_held session streams past input log told written up n live =
      let it = some_of (streams n) (up.at_rest.live_held n live) in
      let rests = given_some _ (streams n) it.0 it.1 (up.at_rest.each n) in
      (it.0, it.1, rests.held.over, rests.held.done)

  pub up_is_split : UpIsSplit step fails is_closed is_finished inbound_makes outbound_makes listed is_eager inbound_leads outbound_leads start role own
  up_is_split session streams past input log told written up = record {
    key = up.key;
    first = up.first;
    rest = up.rest;
    greeting = up.greeting;
    input_is = up.input_is;
    upgraded = up.upgraded;
    read = (session.place.part, up.at_rest.session_stands.frames.reads);
    no_fault = up.at_rest.session_stands.no_fault;
    answered = up.at_rest.session_stands.answered;
    told_is = up.told_is;
    written_is = up.written_is;
  }
