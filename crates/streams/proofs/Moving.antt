-- Where a stream stands behind a call.
use Rattle.std.proofs.Common.{◌≡◌, ◌≢◌, ◌⊎◌, ℕ, Bool, true, false, List, [], ◌∷◌, ◌++◌, take, Option, Some, None, Result, Ok, Err, refl, sym, ap, ◌∙◌, subst, append_assoc, inl, inr}
use Rattle.std.proofs.lemmas.List.{append-nil, append_cancel_left}
use Rattle.ms_select.specs.declared.answer.Answer.{Answer}
use Rattle.ms_select.specs.declared.answer.Answer.TheVariants as answers
use Rattle.ms_select.specs.declared.fault.SelectFault.{SelectFault}
use Rattle.ms_select.specs.Messages.{header, spelled}
use Rattle.handlers.specs.Calls.{HandlerCall, Take, End}
use Rattle.talks.specs.Talks.{Side, Asks, Answers, Talks, RunsOut as TalkRunsOut}
use Rattle.talks.specs.State.{Talking}
use Rattle.talks.proofs.Outcomes.{asked_all}
use Rattle.streams.specs.declared.heard.Heard.{Heard}
use Rattle.streams.specs.declared.heard.Heard.TheVariants.{Going, Agreed, Refused}
use Rattle.streams.specs.declared.stop.Cause.TheVariants.{Select, Handler, Reset, Ended}
use Rattle.streams.specs.declared.stop.Stop.{Stop}
use Rattle.streams.specs.declared.stop.Stop.TheVariants.{Broken, OutOfMemory}
use Rattle.streams.specs.declared.stage.Stage.{Stage}
use Rattle.streams.specs.declared.stage.Stage.TheVariants as stages
use Rattle.streams.specs.Handled.{Handled}
use Rattle.streams.specs.Streams.{Past, fresh, with_call, IsAsking, IsEarly, HasAgreed, IsTalking, IsServed, IsDone}
use Rattle.streams.specs.State.{Streaming, Stands, StandsAt, awaits_handler, answering, handler_of}
use Rattle.streams.specs.Hearing.{Hears, HasHeard, HasNoRoom, RunsOut, used_of, served}
use Rattle.streams.specs.InTalk.{TalkHears, stage_by}
use Rattle.streams.proofs.Hearing.{still_open}
use Rattle.streams.proofs.Handling.{fresh_handled, forget, after_take, after_end}

-- ---- the order of the output

nothing_more : (output more all : List ℕ) → output ≡ all → output ++ more ≡ all → more ≡ []
nothing_more output more all e f = append_cancel_left output more [] (f ∙ sym e ∙ sym (append-nil output))

-- an end that asks has written all before its first data
all_written : (side : Side) (before after : List ℕ) (a b : Result Answer SelectFault) (output more : List ℕ) → IsAsking side → Talks side before a output
    → Talks side after b (output ++ more) → more ≡ []
all_written (Asks name index) before after a b output more asks t u =
    nothing_more output more (spelled (header ∷ name ∷ [])) (asked_all name index before a output t) (asked_all name index after b (output ++ more) u)
all_written (Answers names) before after a b output more asks t u = absurd asks

swapped : (output gave more : List ℕ) → (gave ≡ []) ⊎ (more ≡ []) → (output ++ gave) ++ more ≡ (output ++ more) ++ gave
swapped output gave more (inl e) =
    ap (λ g. (output ++ g) ++ more) e ∙ ap (λ t. t ++ more) (append-nil output) ∙ sym (append-nil (output ++ more)) ∙ ap (λ g. (output ++ more) ++ g) (sym e)
swapped output gave more (inr e) =
    ap (λ m. (output ++ gave) ++ m) e ∙ append-nil (output ++ gave) ∙ ap (λ t. t ++ gave) (sym (append-nil output)) ∙ ap (λ m. (output ++ m) ++ gave) (sym e)

put_behind : (sent waiting more output gave now : List ℕ) → sent ++ waiting ≡ output ++ gave → now ≡ waiting ++ more → (gave ≡ []) ⊎ (more ≡ [])
    → sent ++ now ≡ (output ++ more) ++ gave
put_behind sent waiting more output gave now e f order =
    ap (λ t. sent ++ t) f ∙ sym (append_assoc sent waiting more) ∙ ap (λ t. t ++ more) e ∙ swapped output gave more order

-- what the talk has come to
talk_of : (side : Side) (got piece : List ℕ) (result : Result Heard Stop) (output : List ℕ) → Hears side got piece result output
    → (after : List ℕ) × (standing : Result Answer SelectFault) × Talks side after standing output
talk_of side got piece (Ok Going) output h = (got ++ piece, Ok answers.Going, h)
talk_of side got piece (Ok (Agreed index used)) output h = (got ++ take used piece, Ok (answers.Agreed index), h.1)
talk_of side got piece (Ok Refused) output h = (got ++ h.0, Ok answers.NoneLeft, h.3)
talk_of side got piece (Err (Broken (Select fault))) output h = (got ++ piece, Err fault, h.1)
talk_of side got piece (Err (Broken (Handler fault))) output h = absurd h
talk_of side got piece (Err (Broken Reset)) output h = absurd h
talk_of side got piece (Err (Broken Ended)) output h = absurd h
talk_of side got piece (Err OutOfMemory) output h = absurd h

module _ {H : Type 0} (step : H → HandlerCall → H → Type 0) where
  -- either no handler gave anything, or the talk has written all
  order : (past : Past H) (handler : Option H) (gave before after : List ℕ) (a b : Result Answer SelectFault) (output more : List ℕ) → IsEarly step past handler gave
      → Talks past.side before a output → Talks past.side after b (output ++ more) → (gave ≡ []) ⊎ (more ≡ [])
  order past None gave before after a b output more early t u = inl early.2
  order past (Some handler) gave before after a b output more early t u = inr (all_written past.side before after a b output more early.0 t u)

  -- data changes nothing of a handler that is there early
  early_kept : (past : Past H) (got : List ℕ) (handler : Option H) (gave : List ℕ) → IsEarly step past handler gave → IsEarly step (record past { got = got }) handler gave
  early_kept past got None gave early = early
  early_kept past got (Some handler) gave early = early

  -- ---- data while it talks

  pub has_heard : (past : Past H) (talk new : Talking) (handler : Option H) (piece waiting now : List ℕ) (result : Result Heard Stop)
      → (t : IsTalking step past talk handler waiting) → Talks past.side past.got (Ok answers.Going) t.output
      → TalkHears past.side new past.got t.output waiting piece result now → result ≢ Err OutOfMemory → HasHeard step past handler piece result now
  has_heard past talk new handler piece waiting now result t before h ne =
      let hears = h.hears ne in
      let said = talk_of past.side past.got piece result (t.output ++ h.more) hears in
      record {
        output = t.output ++ h.more;
        gave = t.gave;
        hears = hears;
        early = t.early;
        sent_is = put_behind past.sent waiting h.more t.output t.gave now t.sent_is h.now_is
            (order past handler t.gave past.got said.0 (Ok answers.Going) said.1 t.output h.more t.early before said.2);
      }

  still_talks : (past : Past H) (talk new : Talking) (handler : Option H) (piece waiting now : List ℕ) → (t : IsTalking step past talk handler waiting)
      → Talks past.side past.got (Ok answers.Going) t.output → TalkHears past.side new past.got t.output waiting piece (Ok Going) now
      → IsTalking step (record past { got = past.got ++ piece }) new handler now
  still_talks past talk new handler piece waiting now t before h =
      let heard = has_heard past talk new handler piece waiting now (Ok Going) t before h (λ e. cc) in
      record {
        output = t.output ++ h.more;
        gave = t.gave;
        going = h.goes_on refl;
        early = early_kept past (past.got ++ piece) handler t.gave t.early;
        sent_is = put_behind past.sent waiting h.more t.output t.gave now t.sent_is h.now_is
            (order past handler t.gave past.got (past.got ++ piece) (Ok answers.Going) (Ok answers.Going) t.output h.more t.early before (h.hears (λ e. cc)));
        not_ended = t.not_ended;
      }

  agreed_by : (past : Past H) (first output gave now : List ℕ) (index : ℕ) → Talks past.side first (Ok (answers.Agreed index)) output → past.sent ++ now ≡ output ++ gave
      → HasAgreed (record past { got = first }) index [] gave now
  agreed_by past first output gave now index t e = record { first = first; output = output; got_is = sym (append-nil first); agrees = t; sent_is = e }

  then_served : (past : Past H) (handler : Option H) (first output gave now : List ℕ) (index : ℕ) → past.ended ≡ false → IsEarly step past handler gave
      → Talks past.side first (Ok (answers.Agreed index)) output → past.sent ++ now ≡ output ++ gave
      → StandsAt step (served index handler) (record past { got = first }) now
  then_served past None first output gave now index going_on early t e = record {
    agreed = agreed_by past first output [] now index t (subst (λ (g : List ℕ). past.sent ++ now ≡ output ++ g) early.2 e);
    none_made = early.0;
    none_asked = early.1;
    none_called = early.3;
    not_ended = going_on;
  }
  then_served past (Some handler) first output gave now index going_on early t e = record {
    index = index;
    rest = [];
    gave = gave;
    made = early.1.0;
    agreed = agreed_by past first output gave now index t e;
    made_is = early.1.1;
    handled = subst (λ (b : Bool). Handled step early.1.0 past.calls [] b gave past.left handler) (sym going_on) early.1.2;
  }

  pub then_stands : (past : Past H) (talk new : Talking) (handler : Option H) (piece waiting now : List ℕ) (heard : Heard)
      → (t : IsTalking step past talk handler waiting) → Talks past.side past.got (Ok answers.Going) t.output
      → TalkHears past.side new past.got t.output waiting piece (Ok heard) now → heard ≢ Refused
      → StandsAt step (stage_by heard new handler) (record past { got = past.got ++ used_of heard piece }) now
  then_stands past talk new handler piece waiting now Going t before h ne = still_talks past talk new handler piece waiting now t before h
  then_stands past talk new handler piece waiting now (Agreed index used) t before h ne =
      let hears = h.hears (λ e. cc) in
      then_served past handler (past.got ++ take used piece) (t.output ++ h.more) t.gave now index t.not_ended t.early hears.1
      (put_behind past.sent waiting h.more t.output t.gave now t.sent_is h.now_is
      (order past handler t.gave past.got (past.got ++ take used piece) (Ok answers.Going) (Ok (answers.Agreed index)) t.output h.more t.early before hears.1))
  then_stands past talk new handler piece waiting now Refused t before h ne = absurd (ne refl)

  -- ---- its handler

  pub handed_in : (past : Past H) (stage : Stage H) (handler : H) (waiting : List ℕ) → awaits_handler stage ≡ true → StandsAt step stage past waiting
      → IsServed step (record past { made = Some handler }) handler waiting
  handed_in past (stages.Talking talk h) handler waiting e s = absurd cc
  handed_in past (stages.Agreed index) handler waiting e s = record {
    index = index;
    rest = [];
    gave = [];
    made = handler;
    agreed = record { first = s.agreed.first; output = s.agreed.output; got_is = s.agreed.got_is; agrees = s.agreed.agrees; sent_is = s.agreed.sent_is };
    made_is = refl;
    handled = subst (λ (b : Bool). Handled step handler past.calls [] b [] past.left handler) (sym s.not_ended)
        (subst (λ (l : Option ℕ). Handled step handler past.calls [] false [] l handler) (sym s.none_asked)
        (subst (λ (c : List HandlerCall). Handled step handler c [] false [] None handler) (sym s.none_called) (fresh_handled step handler)));
  }
  handed_in past (stages.Serving h) handler waiting e s = absurd cc
  handed_in past stages.Done handler waiting e s = absurd cc
  handed_in past stages.Over handler waiting e s = absurd s

  more_came : (past : Past H) (left : Option ℕ) (calls : List HandlerCall) (index : ℕ) (rest gave waiting more : List ℕ) → HasAgreed past index rest gave waiting
      → HasAgreed (record past { got = past.got ++ more; calls = calls; left = left }) index (rest ++ more) gave waiting
  more_came past left calls index rest gave waiting more a = record {
    first = a.first;
    output = a.output;
    got_is = ap (λ (t : List ℕ). t ++ more) a.got_is ∙ append_assoc a.first rest more;
    agrees = a.agrees;
    sent_is = a.sent_is;
  }

  pub has_taken : (past : Past H) (old new : H) (waiting more : List ℕ) → past.ended ≡ false → IsServed step past old waiting → step old (Take more) new
      → IsServed step (record past { got = past.got ++ more; calls = past.calls ++ Take more ∷ []; left = None }) new waiting
  has_taken past old new waiting more going_on s stepped = record {
    index = s.index;
    rest = s.rest ++ more;
    gave = s.gave;
    made = s.made;
    agreed = more_came past None (past.calls ++ Take more ∷ []) s.index s.rest s.gave waiting more s.agreed;
    made_is = s.made_is;
    handled = subst (λ (b : Bool). Handled step s.made (past.calls ++ Take more ∷ []) (s.rest ++ more) b s.gave None new) (sym going_on)
        (after_take step s.made old new past.calls s.rest more s.gave past.left
        (subst (λ (b : Bool). Handled step s.made past.calls s.rest b s.gave past.left old) going_on s.handled) stepped);
  }

  not_said : (said ended : Bool) {P : Type 0} → ended ≡ false → (said ≡ true → (ended ≡ true) × P) → said ≡ true → ⊥
  not_said said ended going_on came e = let came_too = (came e).0 in cc

  pub has_dropped : (past : Past H) (waiting more : List ℕ) → past.ended ≡ false → IsDone step past waiting
      → IsDone step (record past { got = past.got ++ more; left = None }) waiting
  has_dropped past waiting more going_on d = record {
    index = d.index;
    front = d.front;
    rest = d.rest ++ more;
    gave = d.gave;
    made = d.made;
    handler = d.handler;
    said = d.said;
    agreed = subst (λ (t : List ℕ). HasAgreed (record past { got = past.got ++ more; left = None }) d.index t d.gave waiting) (append_assoc d.front d.rest more)
        (more_came past None past.calls d.index (d.front ++ d.rest) d.gave waiting more d.agreed);
    made_is = d.made_is;
    handled = d.handled;
    end_came = λ e. absurd (not_said d.said past.ended going_on d.end_came e);
  }

  ended_too : (past : Past H) (calls : List HandlerCall) (index : ℕ) (rest gave waiting : List ℕ) → HasAgreed past index rest gave waiting
      → HasAgreed (record past { ended = true; calls = calls; left = None }) index rest gave waiting
  ended_too past calls index rest gave waiting a = record { first = a.first; output = a.output; got_is = a.got_is; agrees = a.agrees; sent_is = a.sent_is }

  pub has_ended : (past : Past H) (old new : H) (waiting : List ℕ) → past.ended ≡ false → IsServed step past old waiting → step old End new
      → IsServed step (record past { ended = true; calls = past.calls ++ End ∷ []; left = None }) new waiting
  has_ended past old new waiting going_on s stepped = record {
    index = s.index;
    rest = s.rest;
    gave = s.gave;
    made = s.made;
    agreed = ended_too past (past.calls ++ End ∷ []) s.index s.rest s.gave waiting s.agreed;
    made_is = s.made_is;
    handled = after_end step s.made old new past.calls s.rest s.gave past.left
        (subst (λ (b : Bool). Handled step s.made past.calls s.rest b s.gave past.left old) going_on s.handled) stepped;
  }

  pub done_ended : (past : Past H) (waiting : List ℕ) → past.ended ≡ false → IsDone step past waiting → IsDone step (record past { ended = true; left = None }) waiting
  done_ended past waiting going_on d = record {
    index = d.index;
    front = d.front;
    rest = d.rest;
    gave = d.gave;
    made = d.made;
    handler = d.handler;
    said = d.said;
    agreed = ended_too past past.calls d.index (d.front ++ d.rest) d.gave waiting d.agreed;
    made_is = d.made_is;
    handled = d.handled;
    end_came = λ e. absurd (not_said d.said past.ended going_on d.end_came e);
  }

  pub is_handed_out : (past : Past H) (handler : H) (waiting : List ℕ) → IsServed step past handler waiting → IsDone step past waiting
  is_handed_out past handler waiting s = record {
    index = s.index;
    front = s.rest;
    rest = [];
    gave = s.gave;
    made = s.made;
    handler = handler;
    said = past.ended;
    agreed = subst (λ (t : List ℕ). HasAgreed past s.index t s.gave waiting) (sym (append-nil s.rest)) s.agreed;
    made_is = s.made_is;
    handled = forget step s.made handler past.calls s.rest s.gave past.ended past.left s.handled;
    end_came = λ e. (e, refl);
  }

  -- a stream that its handler serves
  pub served_as : (x : Streaming H) (past : Past H) (handler : H) (waiting : List ℕ) → x ≡ record { waiting = waiting; stage = stages.Serving handler } → Stands step x past
      → IsServed step past handler waiting
  served_as x past handler waiting e s = subst (λ (y : Streaming H). Stands step y past) e s

  -- the call that it answers is behind the others
  pub taken_on : (x : Streaming H) (past : Past H) (handler new : H) (waiting more : List ℕ) → x ≡ record { waiting = waiting; stage = stages.Serving handler }
      → past.ended ≡ false → Stands step x past → step handler (Take more) new
      → IsServed step (with_call (record past { got = past.got ++ more; left = None }) (answering x.stage (Take more))) new waiting
  taken_on x past handler new waiting more e going_on s stepped =
      subst (λ (y : Streaming H). IsServed step (with_call (record past { got = past.got ++ more; left = None }) (answering y.stage (Take more))) new waiting) (sym e)
      (has_taken past handler new waiting more going_on (served_as x past handler waiting e s) stepped)

  pub ended_on : (x : Streaming H) (past : Past H) (handler new : H) (waiting : List ℕ) → x ≡ record { waiting = waiting; stage = stages.Serving handler }
      → past.ended ≡ false → Stands step x past → step handler End new
      → IsServed step (with_call (record past { ended = true; left = None }) (answering x.stage End)) new waiting
  ended_on x past handler new waiting e going_on s stepped =
      subst (λ (y : Streaming H). IsServed step (with_call (record past { ended = true; left = None }) (answering y.stage End)) new waiting) (sym e)
      (has_ended past handler new waiting going_on (served_as x past handler waiting e s) stepped)

  -- one whose handler was handed out, and which drops what comes
  pub dropped_on : (x : Streaming H) (past : Past H) (waiting more : List ℕ) → x ≡ record { waiting = waiting; stage = stages.Done } → past.ended ≡ false → Stands step x past
      → Stands step x (with_call (record past { got = past.got ++ more; left = None }) (answering x.stage (Take more)))
  dropped_on x past waiting more e going_on s =
      subst (λ (y : Streaming H). Stands step y (with_call (record past { got = past.got ++ more; left = None }) (answering y.stage (Take more)))) (sym e)
      (has_dropped past waiting more going_on (subst (λ (y : Streaming H). Stands step y past) e s))

  pub end_dropped_on : (x : Streaming H) (past : Past H) (waiting : List ℕ) → x ≡ record { waiting = waiting; stage = stages.Done } → past.ended ≡ false → Stands step x past
      → Stands step x (with_call (record past { ended = true; left = None }) (answering x.stage End))
  end_dropped_on x past waiting e going_on s =
      subst (λ (y : Streaming H). Stands step y (with_call (record past { ended = true; left = None }) (answering y.stage End))) (sym e)
      (done_ended past waiting going_on (subst (λ (y : Streaming H). Stands step y past) e s))

  -- a handler that was just made, at the end that asks
  pub early_at_first : (side : Side) (name : List ℕ) (index : ℕ) (handler : Option H) → side ≡ Asks name index → IsEarly step (fresh side handler) handler []
  early_at_first side name index None e = (refl, refl, refl, refl)
  early_at_first side name index (Some handler) e = (subst IsAsking (sym e) tt, (handler, refl, fresh_handled step handler))

  -- a stream whose talk goes on
  pub talking_as : (x : Streaming H) (past : Past H) (talk : Talking) (handler : Option H) (waiting : List ℕ) → x ≡ record { waiting = waiting; stage = stages.Talking talk handler } → Stands step x past
      → IsTalking step past talk handler waiting
  talking_as x past talk handler waiting e s = subst (λ (y : Streaming H). Stands step y past) e s

  pub heard_as : (x : Streaming H) (past : Past H) (talk : Talking) (handler : Option H) (waiting piece now : List ℕ) (result : Result Heard Stop) → x ≡ record { waiting = waiting; stage = stages.Talking talk handler }
      → HasHeard step past handler piece result now → HasHeard step past (handler_of x.stage) piece result now
  heard_as x past talk handler waiting piece now result e h = subst (λ (y : Streaming H). HasHeard step past (handler_of y.stage) piece result now) (sym e) h

  -- ---- want of memory

  same_end : (waiting more now : List ℕ) → now ≡ waiting ++ more → more ≡ [] → now ≡ waiting
  same_end waiting more now e none = e ∙ ap (λ m. waiting ++ m) none ∙ append-nil waiting

  has_run_out : (past : Past H) (talk new : Talking) (handler : Option H) (piece waiting now : List ℕ)
      → (t : IsTalking step past talk handler waiting) → Talks past.side past.got (Ok answers.Going) t.output
      → (h : TalkHears past.side new past.got t.output waiting piece (Err OutOfMemory) now)
      → TalkRunsOut past.side (t.output ++ h.more) past.got piece ⊎ (HasNoRoom past.side past.got piece waiting × (h.more ≡ []))
      → RunsOut step past handler piece waiting now
  has_run_out past talk new handler piece waiting now t before h (inl r) =
      let still = still_open past.side (past.got ++ take r.n piece) (t.output ++ h.more) r.before in
      inl (record {
        output = t.output ++ h.more;
        gave = t.gave;
        runs_out = r;
        early = t.early;
        sent_is = put_behind past.sent waiting h.more t.output t.gave now t.sent_is h.now_is
            (order past handler t.gave past.got (past.got ++ take r.n piece) (Ok answers.Going) (Ok answers.Going) t.output h.more t.early before still);
      })
  has_run_out past talk new handler piece waiting now t before h (inr (lost, none)) = inr (lost, same_end waiting h.more now h.now_is none)

  pub room_as : (x : Streaming H) (past : Past H) (talk new : Talking) (handler : Option H) (piece waiting now : List ℕ)
      → x ≡ record { waiting = waiting; stage = stages.Talking talk handler }
      → (t : IsTalking step past talk handler waiting) → Talks past.side past.got (Ok answers.Going) t.output
      → TalkHears past.side new past.got t.output waiting piece (Err OutOfMemory) now → RunsOut step past (handler_of x.stage) piece x.waiting now
  room_as x past talk new handler piece waiting now e t before h =
      subst (λ (y : Streaming H). RunsOut step past (handler_of y.stage) piece y.waiting now) (sym e)
      (has_run_out past talk new handler piece waiting now t before h (h.runs_out refl))

abbrev pub stopped : Stop → Result Heard Stop
stopped stop = Err stop

-- of a refusal that is known to be want of memory
pub memory_told : {result : Result Heard Stop} (side : Side) (new : Talking) (got output waiting piece now : List ℕ) → result ≡ Err OutOfMemory
    → TalkHears side new got output waiting piece result now → TalkHears side new got output waiting piece (Err OutOfMemory) now
memory_told side new got output waiting piece now e h = subst (λ (r : Result Heard Stop). TalkHears side new got output waiting piece r now) e h
