-- Serving a stream: what was asked, written, handed out, closed and taken leaves the stream settled.
use Rattle.std.proofs.Common.{◌≡◌, ◌≢◌, ◌⊎◌, inl, inr, ℕ, ◌-◌, ◌<◌, ◌==◌, Bool, true, false, ◌&&◌, List, [], ◌∷◌, ◌++◌, length, map, not, Option, Some, None, refl, sym, ap, ◌∙◌, subst, arith}
use Rattle.std.specs.Prelude.{IfSome, IfNone}
use Rattle.std.specs.List.{concat}
use Rattle.std.proofs.lemmas.Bool.Decides.{nat_tests}
use Rattle.std.proofs.lemmas.List.{append-nil}
use Rattle.handlers.specs.Calls.{HandlerCall, Take, Give, End}
use Rattle.yamux_session.specs.declared.event.Role.{Role}
use Rattle.yamux_session.specs.History.{Item, Act}
use Rattle.yamux_session.specs.History.Item.{Did}
use Rattle.yamux_session.specs.History.Act.{Write, Taken, Close}
use Rattle.yamux_session.specs.Openings.{is_live, closed}
use Rattle.yamux_session.specs.Windows.{credit, untaken}
use Rattle.yamux_session.specs.Data.{written}
use Rattle.yamux_session.specs.Seen.{ActsDo, ActsMove}
use Rattle.yamux_session.specs.Acts.{open_credit}
use Rattle.yamux_session.specs.State.{State, Stands as SessionStands}
use Rattle.streams.specs.declared.stage.Stage.{Stage}
use Rattle.streams.specs.declared.stage.Stage.TheVariants as stages
use Rattle.streams.specs.Streams.{Past, IsServed, with_call}
use Rattle.streams.specs.State.{Streaming, Stands, StandsAt, Served, kind_of, is_open, has_closed, has_finished}
use Rattle.serving.specs.Served.{MayBeAsked, IsUnasked, Asking, Goes, GaveAll, HasGiven, HasSent, HandsOut, Serves, with_sent}
use Rattle.serving.specs.Wanting.{IsUndone}
use Rattle.serving.specs.Steps.{Sends, WasAsked, WasClosed, Closes, Counts, CloseRunsOut, CountRunsOut}
use Rattle.serving.proofs.Acts.{taken_keeps, none_left, has_written, is_closed_then, closing_writes_nothing, closing_keeps_credit, closing_takes_nothing}
use Rattle.serving.proofs.Refusals.{open_with, not_open, not_used_up, some_left, nothing_left}

empty_or : (xs : List ℕ) → (xs ≢ [] → ⊥) → xs ≡ []
empty_or [] h = refl
empty_or (x ∷ xs) h = absurd (h (λ e. cc e))

not_both : {b : Bool} → b ≡ true → b ≡ false → ⊥
not_both on off = let e : true ≡ false = sym on ∙ off in cc e

-- a stream that was at this stage is of that kind still, or its handler, which served it, is handed out
abbrev pub WasOf : {H : Type 0} → Stage H → Option H → Streaming H → Type 0
WasOf was_at None x = kind_of x.stage ≡ kind_of was_at
WasOf was_at (Some it) x = kind_of was_at ≡ Served

module _ {H : Type 0} (step : H → HandlerCall → H → Type 0) (is_closed is_finished : H → Bool) (was_at : Stage H) where
  begins : (role : Role) (past : List Item) (fed sent : List ℕ) (n : ℕ) (so_far : Past H) (session : State) (x : Streaming H)
      → SessionStands role past fed sent session → Stands step x so_far → so_far.sent ≡ written role past n
      → Goes step is_closed is_finished was_at role past fed sent n so_far session x
  begins role past fed sent n so_far session x at stands e = record {
    acts = [];
    now = past;
    now_is = refl;
    due = tt;
    session_stands = at;
    left = so_far.left;
    stream_stands = subst (λ t. Stands step x (record so_far { sent = t })) e stands;
  }

  -- this direction isn't open: the stream isn't asked
  pub not_asked : (role : Role) (past : List Item) (fed sent : List ℕ) (n : ℕ) (so_far : Past H) (session : State) (x : Streaming H)
      → SessionStands role past fed sent session → Stands step x so_far → so_far.sent ≡ written role past n → open_credit role past n ≡ None
      → Asking step is_closed role past n x x so_far (λ now. WasAsked step is_closed is_finished was_at role past fed sent n now session x)
  unfolding begins
  not_asked role past fed sent n so_far session x at stands e none = (
    None,
    tt,
    record {
      goes = begins role past fed sent n so_far session x at stands e;
      live_is = refl;
      closed_is = refl;
      asked = λ live unclosed is. absurd (not_both (not_open role past n none live) unclosed);
      none_waits = λ live unclosed some. absurd (not_both (not_open role past n none live) unclosed);
      untaken_is = refl;
    },
    (λ live unclosed. absurd (not_both (not_open role past n none live) unclosed), λ live unclosed. absurd (not_both (not_open role past n none live) unclosed)),
  )

  module _ (acts_do : ActsDo) (acts_move : ActsMove) where
    asked_by : (role : Role) (past : List Item) (fed sent : List ℕ) (n amount : ℕ) (so_far : Past H) (session : State) (x : Streaming H)
        → (s : Sends step is_closed role past fed sent n amount so_far session x) → so_far.sent ≡ written role past n → open_credit role past n ≡ Some amount
        → (s.acts ≡ Write n s.pieces ∷ []) ⊎ ((s.acts ≡ []) × (s.pieces ≡ [])) → kind_of x.stage ≡ kind_of was_at
        → (is_live role past n ≡ true → closed role past n ≡ false → is_open is_closed x.stage ≡ true → is_open is_closed was_at ≡ true)
        → WasAsked step is_closed is_finished was_at role past fed sent n so_far session x
    asked_by role past fed sent n amount so_far session x s e is_open (inl are) same_kind was_open =
        let w = has_written acts_do acts_move role past n s.pieces in
        let before = (open_with role past n amount is_open).credit_is in
        let there : Stands step x (with_sent role (Did (Write n s.pieces) ∷ past) n so_far s.left) =
        subst (λ t. Stands step x (record so_far { sent = t; left = s.left })) (ap (λ t. t ++ concat s.pieces) e ∙ sym w.written_is) s.stream_stands in
        let left : credit role (Did (Write n s.pieces) ∷ past) n ≡ amount - length (concat s.pieces) = w.credit_is ∙ ap (λ k. k - length (concat s.pieces)) before in
        record {
          goes = record {
            acts = Write n s.pieces ∷ [];
            now = Did (Write n s.pieces) ∷ past;
            now_is = refl;
            due = ((refl, record { stream = x; left = s.left; stands = there; kind_is = same_kind }), tt);
            session_stands = subst (λ (t : List Act). SessionStands role (map Did t ++ past) fed sent session) are s.session_stands;
            left = s.left;
            stream_stands = there;
          };
          live_is = w.live_is;
          closed_is = w.closed_is;
          asked = λ live unclosed is. (s.asked is ∙ ap Some (sym left), was_open (sym w.live_is ∙ live) (sym w.closed_is ∙ unclosed) is);
          none_waits = λ live unclosed some. empty_or x.waiting (λ waits. let all = s.full waits in omega (arith, all, left));
          untaken_is = w.untaken_is;
        }
    asked_by role past fed sent n amount so_far session x s e is_open (inr (none, nothing)) same_kind was_open =
        let before = (open_with role past n amount is_open).credit_is in
        let no_bytes : concat s.pieces ≡ [] = ap concat nothing in
        let same : so_far.sent ++ concat s.pieces ≡ written role past n = ap (λ t. so_far.sent ++ t) no_bytes ∙ append-nil so_far.sent ∙ e in
        let there : Stands step x (with_sent role past n so_far s.left) = subst (λ t. Stands step x (record so_far { sent = t; left = s.left })) same s.stream_stands in
        let left : credit role past n ≡ amount - length (concat s.pieces) = (let size = ap length no_bytes in omega (arith, before, size)) in
        record {
          goes = record {
            acts = [];
            now = past;
            now_is = refl;
            due = tt;
            session_stands = subst (λ (t : List Act). SessionStands role (map Did t ++ past) fed sent session) none s.session_stands;
            left = s.left;
            stream_stands = there;
          };
          live_is = refl;
          closed_is = refl;
          asked = λ live unclosed is. (s.asked is ∙ ap Some (sym left), was_open live unclosed is);
          none_waits = λ live unclosed some. empty_or x.waiting (λ waits. let all = s.full waits in omega (arith, all, left));
          untaken_is = refl;
        }

    -- one that isn't closed behind that wasn't before
    opened_before : (role : Role) (past : List Item) (n : ℕ) (gave : Option HandlerCall) (old x : Streaming H) → IfSome gave (MayBeAsked step is_closed role past n old)
        → IfNone gave (IsUnasked step is_closed role past n old × IsUnasked step is_closed role past n x)
        → is_live role past n ≡ true → closed role past n ≡ false → is_open is_closed x.stage ≡ true → is_open is_closed old.stage ≡ true
    opened_before role past n None old x may unasked live unclosed is = absurd (not_both is (unasked.1 live unclosed))
    opened_before role past n (Some (Give room bytes)) old x may unasked live unclosed is = may.2
    opened_before role past n (Some (Take bytes)) old x may unasked live unclosed is = absurd may
    opened_before role past n (Some End) old x may unasked live unclosed is = absurd may

    -- what the stream gave was written, where it gave anything
    pub was_asked : (role : Role) (past : List Item) (fed sent : List ℕ) (n amount : ℕ) (so_far : Past H) (session : State) (old x : Streaming H)
        → Asking step is_closed role past n old x so_far (λ now. Sends step is_closed role past fed sent n amount now session x) → so_far.sent ≡ written role past n
        → open_credit role past n ≡ Some amount → kind_of x.stage ≡ kind_of was_at → old.stage ≡ was_at
        → Asking step is_closed role past n old x so_far (λ now. WasAsked step is_closed is_finished was_at role past fed sent n now session x)
    was_asked role past fed sent n amount so_far session old x (gave, may, s, unasked) e there same_kind same_stage = (
      gave,
      may,
      asked_by role past fed sent n amount (with_call so_far gave) session x s e there s.acts_are same_kind
          (λ live unclosed is. ap (is_open is_closed) (sym same_stage) ∙ opened_before role past n gave old x may unasked live unclosed is),
      unasked,
    )

    -- a handler that is finished is handed out
    pub record HasFinished (role : Role) (past : List Item) (fed sent : List ℕ) (n : ℕ) (so_far : Past H)
        (handler : Option H) (session : State) (x : Streaming H) : Type 0 where
      pub was_asked : WasAsked step is_closed is_finished was_at role past fed sent n so_far session x
      pub handed_out : HandsOut step is_closed is_finished (with_sent role was_asked.goes.now n so_far was_asked.goes.left) handler x
      pub asked_last : is_live role was_asked.goes.now n ≡ true → closed role was_asked.goes.now n ≡ false
          → IfSome handler (λ it. is_closed it ≡ false → (was_asked.goes.left ≡ Some (credit role was_asked.goes.now n)) × (is_open is_closed was_at ≡ true))

    handed_on : (role : Role) (past : List Item) (fed sent : List ℕ) (n : ℕ) (so_far : Past H) (session : State) (old new : Streaming H)
        → (a : WasAsked step is_closed is_finished was_at role past fed sent n so_far session old) → new ≡ record old { stage = stages.Done }
        → Stands step new (with_sent role a.goes.now n so_far a.goes.left)
        → WasAsked step is_closed is_finished was_at role past fed sent n so_far session new
    handed_on role past fed sent n so_far session old new a is stands =
        let shut : is_open is_closed new.stage ≡ false = ap (λ (x : Streaming H). is_open is_closed x.stage) is in
        record {
          goes = record {
            acts = a.goes.acts;
            now = a.goes.now;
            now_is = a.goes.now_is;
            due = a.goes.due;
            session_stands = a.goes.session_stands;
            left = a.goes.left;
            stream_stands = stands;
          };
          live_is = a.live_is;
          closed_is = a.closed_is;
          asked = λ live unclosed it. absurd (not_both it shut);
          none_waits = λ live unclosed some. ap (λ (x : Streaming H). x.waiting) is ∙ a.none_waits live unclosed some;
          untaken_is = a.untaken_is;
        }

    pub has_finished_on : (role : Role) (past : List Item) (fed sent : List ℕ) (n : ℕ) (so_far : Past H) (session : State) (handler : Option H) (old new : Streaming H)
        → WasAsked step is_closed is_finished was_at role past fed sent n so_far session old
        → IfSome handler (λ it. (old.stage ≡ stages.Serving it) × (is_finished it ≡ true) × (new ≡ record old { stage = stages.Done }))
        → IfNone handler ((has_finished is_finished old.stage ≡ false) × (new ≡ old))
        → ((past : Past H) → Stands step old past → Stands step new past)
        → HasFinished role past fed sent n so_far handler session new
    unfolding handed_on
    has_finished_on role past fed sent n so_far session None old new a some none stands =
        let same : new ≡ old = none.1 in
        record {
          was_asked = subst (λ (x : Streaming H). WasAsked step is_closed is_finished was_at role past fed sent n so_far session x) (sym same) a;
          handed_out = (tt, ap (λ (x : Streaming H). has_finished is_finished x.stage) same ∙ none.0);
          asked_last = λ live unclosed. tt;
        }
    has_finished_on role past fed sent n so_far session (Some it) old new a some none stands =
        let now = with_sent role a.goes.now n so_far a.goes.left in
        let stood : StandsAt step (stages.Serving it) now old.waiting = subst (λ (t : Stage H). StandsAt step t now old.waiting) some.0 a.goes.stream_stands in
        let waits : new.waiting ≡ old.waiting = ap (λ (x : Streaming H). x.waiting) some.2 in
        record {
          was_asked = handed_on role past fed sent n so_far session old new a some.2 (stands now a.goes.stream_stands);
          handed_out = (
            (subst (λ t. IsServed step now it t) (sym waits) stood, some.1, ap (λ (x : Streaming H). x.stage) some.2),
            tt,
          );
          asked_last = λ live unclosed not_closed. a.asked live unclosed (ap (is_open is_closed) some.0 ∙ ap not not_closed);
        }

    nothing_more : (waiting : List ℕ) (stage : Bool) → (length waiting == 0) && stage ≡ false → stage ≡ true → waiting ≡ [] → ⊥
    nothing_more waiting stage off on none =
        let yes : (length waiting == 0) && stage ≡ true = ap (λ (t : List ℕ). (length t == 0) && stage) none ∙ on in not_both yes off

    both_by : (a b : Bool) → a && b ≡ true → (a ≡ true) × (b ≡ true)
    both_by true b e = (refl, e)
    both_by false b e = absurd (cc e)

    is_empty : (waiting : List ℕ) → (length waiting == 0) ≡ true → waiting ≡ []
    is_empty [] e = refl
    is_empty (x ∷ waiting) e = absurd (grind (arith, e, nat_tests))

    pub both : (waiting : List ℕ) (stage : Bool) → (length waiting == 0) && stage ≡ true → (waiting ≡ []) × (stage ≡ true)
    both waiting stage e = let it = both_by (length waiting == 0) stage e in (is_empty waiting it.0, it.1)

    open_by : (b : Bool) → not b ≡ true → b ≡ false
    open_by true e = absurd (cc e)
    open_by false e = refl

    -- a handler that is handed out was held before
    has_sent : (role : Role) (now : List Item) (n : ℕ) (so_far : Past H) (left : Option ℕ) (handler : Option H) (x : Streaming H)
        → HandsOut step is_closed is_finished (with_sent role now n so_far left) handler x → WasOf was_at handler x
        → Stands step x (with_sent role now n so_far left) → HasSent step is_closed is_finished was_at role now n so_far
    has_sent role now n so_far left None x out was stands = record { stream = x; left = left; stands = stands; kind_is = was }
    has_sent role now n so_far left (Some it) x out was stands =
        record { stream = record { waiting = x.waiting; stage = stages.Serving it }; left = left; stands = out.0.0; kind_is = sym was }

    gave_all : (role : Role) (now : List Item) (n : ℕ) (so_far : Past H) (left : Option ℕ) (handler : Option H) (x : Streaming H)
        → HandsOut step is_closed is_finished (with_sent role now n so_far left) handler x
        → WasOf was_at handler x
        → IfSome handler (λ it. is_closed it ≡ false → (left ≡ Some (credit role now n)) × (is_open is_closed was_at ≡ true))
        → Stands step x (with_sent role now n so_far left) → x.waiting ≡ []
        → (is_open is_closed x.stage ≡ true → (left ≡ Some (credit role now n)) × (is_open is_closed was_at ≡ true))
        → GaveAll step is_closed is_finished was_at role now n so_far
    gave_all role now n so_far left None x out was asked_last stands none asked =
        record { stream = x; left = left; stands = stands; none_waits = none; asked = asked; kind_is = was }
    gave_all role now n so_far left (Some it) x out was asked_last stands none asked = record {
      stream = record { waiting = x.waiting; stage = stages.Serving it };
      left = left;
      stands = out.0.0;
      none_waits = none;
      asked = λ open_still. asked_last (open_by (is_closed it) open_still);
      kind_is = sym was;
    }

    -- and finished
    has_given : (role : Role) (now : List Item) (n : ℕ) (so_far : Past H) (left : Option ℕ) (handler : Option H) (x : Streaming H)
        → HandsOut step is_closed is_finished (with_sent role now n so_far left) handler x
        → WasOf was_at handler x
        → IfSome handler (λ it. is_closed it ≡ false → (left ≡ Some (credit role now n)) × (is_open is_closed was_at ≡ true))
        → Stands step x (with_sent role now n so_far left) → x.waiting ≡ []
        → (is_open is_closed x.stage ≡ true → (left ≡ Some (credit role now n)) × (is_open is_closed was_at ≡ true)) → has_closed is_closed x.stage ≡ true
        → HasGiven step is_closed is_finished was_at role now n so_far
    unfolding gave_all
    has_given role now n so_far left None x out was asked_last stands none asked over =
        record { all = gave_all role now n so_far left None x out was asked_last stands none asked; over = inl over }
    has_given role now n so_far left (Some it) x out was asked_last stands none asked over =
        record { all = gave_all role now n so_far left (Some it) x out was asked_last stands none asked; over = inr out.0.1 }

    -- what came may be taken
    may_take : (role : Role) (now : List Item) (n : ℕ) (so_far : Past H) → (0 < credit role now n) ⊎ (closed role now n ≡ true)
        → HasSent step is_closed is_finished was_at role now n so_far
        → (closed role now n ≡ false → 0 < credit role now n → GaveAll step is_closed is_finished was_at role now n so_far)
        → ((closed role now n ≡ true) × HasSent step is_closed is_finished was_at role now n so_far) ⊎ ((0 < credit role now n) × GaveAll step is_closed is_finished was_at role now n so_far)
    may_take role now n so_far (inr shut) sent gave = inl (shut, sent)
    may_take role now n so_far (inl some) sent gave = by_closed (closed role now n) refl where
      by_closed : (b : Bool) → closed role now n ≡ b
          → ((closed role now n ≡ true) × HasSent step is_closed is_finished was_at role now n so_far) ⊎ ((0 < credit role now n) × GaveAll step is_closed is_finished was_at role now n so_far)
      by_closed true is = inl (is, sent)
      by_closed false is = inr (some, gave is some)

    -- closing is due, where the stream gives no more
    closing_is_due : (role : Role) (past : List Item) (fed sent : List ℕ) (n : ℕ) (so_far : Past H) (handler : Option H) (before : State) (x : Streaming H)
        → (a : WasAsked step is_closed is_finished was_at role past fed sent n so_far before x)
        → HandsOut step is_closed is_finished (with_sent role a.goes.now n so_far a.goes.left) handler x
        → WasOf was_at handler x
        → IfSome handler (λ it. is_closed it ≡ false → (a.goes.left ≡ Some (credit role a.goes.now n)) × (is_open is_closed was_at ≡ true))
        → (length x.waiting == 0) && has_closed is_closed x.stage ≡ true → is_live role a.goes.now n ≡ true → closed role a.goes.now n ≡ false
        → HasGiven step is_closed is_finished was_at role a.goes.now n so_far
    closing_is_due role past fed sent n so_far handler before x a out was asked_last is_over live unclosed =
        let given = both x.waiting (has_closed is_closed x.stage) is_over in
        has_given role a.goes.now n so_far a.goes.left handler x out was asked_last a.goes.stream_stands given.0 (a.asked live unclosed) given.1

    pub was_closed : (role : Role) (past : List Item) (fed sent : List ℕ) (n : ℕ) (so_far : Past H) (handler : Option H) (before session : State) (x : Streaming H)
        → (a : WasAsked step is_closed is_finished was_at role past fed sent n so_far before x)
        → HandsOut step is_closed is_finished (with_sent role a.goes.now n so_far a.goes.left) handler x
        → WasOf was_at handler x
        → (is_live role a.goes.now n ≡ true → closed role a.goes.now n ≡ false
        → IfSome handler (λ it. is_closed it ≡ false → (a.goes.left ≡ Some (credit role a.goes.now n)) × (is_open is_closed was_at ≡ true)))
        → Closes role a.goes.now fed sent n ((length x.waiting == 0) && has_closed is_closed x.stage) before session
        → WasClosed step is_closed is_finished was_at role past fed sent n so_far handler session x
    was_closed role past fed sent n so_far handler before session x a out was asked_last (inl (same, why)) = record {
      goes = record {
        acts = a.goes.acts;
        now = a.goes.now;
        now_is = a.goes.now_is;
        due = a.goes.due;
        session_stands = subst (λ (s : State). SessionStands role a.goes.now fed sent s) (sym same) a.goes.session_stands;
        left = a.goes.left;
        stream_stands = a.goes.stream_stands;
      };
      asked = a.asked;
      none_waits = a.none_waits;
      handed_out = out;
      over = by_why why;
      asked_still = asked_last;
      asked_last = λ live unclosed. asked_last (a.live_is ∙ live) (a.closed_is ∙ unclosed);
      closed_by = λ unclosed shut. absurd (not_both shut (a.closed_is ∙ unclosed));
      untaken_is = a.untaken_is;
    } where
      by_why : (((length x.waiting == 0) && has_closed is_closed x.stage) ≡ false) ⊎ (open_credit role a.goes.now n ≡ None)
          → is_live role a.goes.now n ≡ true → has_closed is_closed x.stage ≡ true → x.waiting ≡ [] → closed role a.goes.now n ≡ true
      by_why (inl off) live on none = absurd (nothing_more x.waiting (has_closed is_closed x.stage) off on none)
      by_why (inr none_open) live on none = not_open role a.goes.now n none_open live
    was_closed role past fed sent n so_far handler before session x a out was asked_last (inr (is_over, live, unclosed, at)) =
        let now = Did (Close n) ∷ a.goes.now in
        let shut : closed role now n ≡ true = is_closed_then acts_do acts_move role a.goes.now n in
        let given = both x.waiting (has_closed is_closed x.stage) is_over in
        record {
          goes = record {
            acts = Close n ∷ a.goes.acts;
            now = now;
            now_is = ap (λ (t : List Item). Did (Close n) ∷ t) a.goes.now_is;
            due = (
              (
                refl,
                subst (λ (t : List Item). HasGiven step is_closed is_finished was_at role t n so_far) a.goes.now_is
                    (closing_is_due role past fed sent n so_far handler before x a out was (asked_last live unclosed) is_over live unclosed),
              ),
              a.goes.due,
            );
            session_stands = at;
            left = a.goes.left;
            stream_stands = subst (λ t. Stands step x (record so_far { sent = t; left = a.goes.left })) (sym (closing_writes_nothing acts_do acts_move role a.goes.now n)) a.goes.stream_stands;
          };
          asked = λ live unclosed is. absurd (not_both shut unclosed);
          none_waits = λ live unclosed some. absurd (not_both shut unclosed);
          handed_out = subst (λ t. HandsOut step is_closed is_finished (record so_far { sent = t; left = a.goes.left }) handler x) (sym (closing_writes_nothing acts_do acts_move role a.goes.now n)) out;
          over = λ live on none. shut;
          asked_still = λ live unclosed. absurd (not_both shut unclosed);
          asked_last = λ was_live was_unclosed. subst (λ (c : ℕ). IfSome handler (λ it. is_closed it ≡ false → (a.goes.left ≡ Some c) × (is_open is_closed was_at ≡ true)))
              (sym (closing_keeps_credit acts_do acts_move role a.goes.now n)) (asked_last live unclosed);
          closed_by = λ was_unclosed is. given;
          untaken_is = closing_takes_nothing acts_do acts_move role a.goes.now n ∙ a.untaken_is;
        }

    -- credit that was left before is left still, or this direction is closed
    pub left_on : (role : Role) (past : List Item) (fed sent : List ℕ) (n : ℕ) (so_far : Past H) (handler : Option H) (before session : State) (now : List Item) (x : Streaming H)
        → Closes role now fed sent n ((length x.waiting == 0) && has_closed is_closed x.stage) before session
        → ((role : Role) (past : List Item) (fed sent : List ℕ) → SessionStands role past fed sent before → open_credit role past n ≢ Some 0)
        → (w : WasClosed step is_closed is_finished was_at role past fed sent n so_far handler session x) → open_credit role w.goes.now n ≢ Some 0
    left_on role past fed sent n so_far handler before session now x (inl (same, why)) still w =
        still role w.goes.now fed sent (subst (λ (s : State). SessionStands role w.goes.now fed sent s) same w.goes.session_stands)
    left_on role past fed sent n so_far handler before session now x (inr (over, live, unclosed, stands)) still w =
        let it = both x.waiting (has_closed is_closed x.stage) over in
        not_used_up role w.goes.now n (λ live. w.over live it.1 it.0)

    credit_left : (shut : Bool) (amount : ℕ) → (0 < amount) ⊎ (shut ≡ true) → shut ≡ false → 0 < amount
    credit_left shut amount (inl some) unclosed = some
    credit_left shut amount (inr over) unclosed = absurd (not_both over unclosed)

    -- what came is due to be taken
    taking_is_due : (role : Role) (past : List Item) (fed sent : List ℕ) (n : ℕ) (so_far : Past H) (handler : Option H) (before : State) (x : Streaming H)
        → (a : WasClosed step is_closed is_finished was_at role past fed sent n so_far handler before x)
        → WasOf was_at handler x
        → open_credit role a.goes.now n ≢ Some 0 → is_live role a.goes.now n ≡ true
        → ((closed role a.goes.now n ≡ true) × HasSent step is_closed is_finished was_at role a.goes.now n so_far)
        ⊎ ((0 < credit role a.goes.now n) × GaveAll step is_closed is_finished was_at role a.goes.now n so_far)
    taking_is_due role past fed sent n so_far handler before x a was not_none live =
        may_take role a.goes.now n so_far (some_left role a.goes.now n not_none live) (has_sent role a.goes.now n so_far a.goes.left handler x a.handed_out was a.goes.stream_stands) (λ unclosed some.
        gave_all role a.goes.now n so_far a.goes.left handler x a.handed_out was (a.asked_still live unclosed) a.goes.stream_stands (a.none_waits live unclosed some) (a.asked live unclosed))

    -- and what came was counted as taken
    pub was_settled : (role : Role) (past : List Item) (fed sent : List ℕ) (n : ℕ) (so_far : Past H) (handler : Option H) (before session : State) (x : Streaming H)
        → (a : WasClosed step is_closed is_finished was_at role past fed sent n so_far handler before x)
        → WasOf was_at handler x
        → Counts role a.goes.now fed sent n before session
        → Serves step is_closed is_finished was_at role past fed sent n so_far handler session x
    was_settled role past fed sent n so_far handler before session x a was (inl (same, why)) = record {
      goes = record {
        acts = a.goes.acts;
        now = a.goes.now;
        now_is = a.goes.now_is;
        due = a.goes.due;
        session_stands = subst (λ (s : State). SessionStands role a.goes.now fed sent s) (sym same) a.goes.session_stands;
        left = a.goes.left;
        stream_stands = a.goes.stream_stands;
      };
      handed_out = a.handed_out;
      settled = λ live. record {
        asked = λ unclosed is. (a.asked live unclosed is).0;
        none_waits = λ unclosed. a.none_waits live unclosed;
        over = a.over live;
        was_taken = by_why why live;
      };
      asked_last = a.asked_last;
      closed_by = a.closed_by;
      taken_by = λ unclosed differs. absurd (differs a.untaken_is);
    } where
      by_why : (open_credit role a.goes.now n ≡ Some 0) ⊎ (is_live role a.goes.now n ≡ false) → is_live role a.goes.now n ≡ true
          → (0 < credit role a.goes.now n) ⊎ (closed role a.goes.now n ≡ true) → untaken role a.goes.now n ≡ 0
      by_why (inl none) live some = absurd (nothing_left role a.goes.now n none some)
      by_why (inr dead) live some = absurd (not_both live dead)
    was_settled role past fed sent n so_far handler before session x a was (inr (not_none, live, at)) =
        let count = untaken role a.goes.now n in
        let now = Did (Taken n count) ∷ a.goes.now in
        let k = taken_keeps acts_do acts_move role a.goes.now n count in
        record {
          goes = record {
            acts = Taken n count ∷ a.goes.acts;
            now = now;
            now_is = ap (λ (t : List Item). Did (Taken n count) ∷ t) a.goes.now_is;
            due = (
              (
                refl,
                ap (λ (t : List Item). untaken role t n) a.goes.now_is,
                subst (λ (t : List Item). ((closed role t n ≡ true) × HasSent step is_closed is_finished was_at role t n so_far) ⊎ ((0 < credit role t n) × GaveAll step is_closed is_finished was_at role t n so_far)) a.goes.now_is
                    (taking_is_due role past fed sent n so_far handler before x a was not_none live),
              ),
              a.goes.due,
            );
            session_stands = at;
            left = a.goes.left;
            stream_stands = subst (λ t. Stands step x (record so_far { sent = t; left = a.goes.left })) (sym k.written_is) a.goes.stream_stands;
          };
          handed_out = subst (λ t. HandsOut step is_closed is_finished (record so_far { sent = t; left = a.goes.left }) handler x) (sym k.written_is) a.handed_out;
          settled = λ still. record {
            asked = λ unclosed is. (a.asked live (sym k.closed_is ∙ unclosed) is).0 ∙ ap Some (sym k.credit_is);
            none_waits = λ unclosed some. a.none_waits live (sym k.closed_is ∙ unclosed) (omega (arith, some, k.credit_is));
            over = λ on none. k.closed_is ∙ a.over live on none;
            was_taken = λ some. none_left acts_do acts_move role a.goes.now n;
          };
          asked_last = λ was_live unclosed. subst (λ (c : ℕ). IfSome handler (λ it. is_closed it ≡ false → (a.goes.left ≡ Some c) × (is_open is_closed was_at ≡ true))) (sym k.credit_is)
              (a.asked_last was_live unclosed);
          closed_by = λ unclosed is. a.closed_by unclosed (sym k.closed_is ∙ is);
          taken_by = λ unclosed differs. subst (λ (c : ℕ). 0 < c) (sym k.credit_is) (credit_left (closed role a.goes.now n) _ (some_left role a.goes.now n not_none live) (sym k.closed_is ∙ unclosed));
        }

    -- acts were done, and session and stream stand there
    goes_still : (role : Role) (past : List Item) (fed sent : List ℕ) (n : ℕ) (so_far : Past H) (before session : State) (x : Streaming H)
        → session ≡ before → Goes step is_closed is_finished was_at role past fed sent n so_far before x
        → Goes step is_closed is_finished was_at role past fed sent n so_far session x
    goes_still role past fed sent n so_far before session x same g = record {
      acts = g.acts;
      now = g.now;
      now_is = g.now_is;
      due = g.due;
      session_stands = subst (λ (s : State). SessionStands role g.now fed sent s) (sym same) g.session_stands;
      left = g.left;
      stream_stands = g.stream_stands;
    }

    -- this direction isn't closed, for which memory is wanting
    pub unclosed_then : (role : Role) (past : List Item) (fed sent : List ℕ) (n : ℕ) (so_far : Past H) (handler : Option H) (before session : State) (x : Streaming H)
        → (a : WasAsked step is_closed is_finished was_at role past fed sent n so_far before x)
        → HandsOut step is_closed is_finished (with_sent role a.goes.now n so_far a.goes.left) handler x
        → WasOf was_at handler x
        → (is_live role a.goes.now n ≡ true → closed role a.goes.now n ≡ false
        → IfSome handler (λ it. is_closed it ≡ false → (a.goes.left ≡ Some (credit role a.goes.now n)) × (is_open is_closed was_at ≡ true)))
        → CloseRunsOut role a.goes.now n ((length x.waiting == 0) && has_closed is_closed x.stage) before session
        → IsUndone step is_closed is_finished was_at role past fed sent n so_far session x
    unfolding goes_still
    unclosed_then role past fed sent n so_far handler before session x a out was asked_last (same, is_over, live, unclosed, no_room) = record {
      goes = goes_still role past fed sent n so_far before session x same a.goes;
      act = Close n;
      due = (refl, closing_is_due role past fed sent n so_far handler before x a out was (asked_last live unclosed) is_over live unclosed);
      sends = λ none. absurd (not_both (not_open role a.goes.now n none live) unclosed);
      no_room = subst (λ (s : State). s.room < 12) (sym same) no_room;
    }

    -- what came isn't taken, for which memory is wanting
    pub untaken_then : (role : Role) (past : List Item) (fed sent : List ℕ) (n : ℕ) (so_far : Past H) (handler : Option H) (before session : State) (x : Streaming H)
        → (a : WasClosed step is_closed is_finished was_at role past fed sent n so_far handler before x)
        → WasOf was_at handler x
        → CountRunsOut role a.goes.now n before session
        → IsUndone step is_closed is_finished was_at role past fed sent n so_far session x
    unfolding goes_still
    untaken_then role past fed sent n so_far handler before session x a was (same, not_none, live, sends, no_room) = record {
      goes = goes_still role past fed sent n so_far before session x same a.goes;
      act = Taken n (untaken role a.goes.now n);
      due = (refl, refl, taking_is_due role past fed sent n so_far handler before x a was not_none live);
      sends = sends;
      no_room = subst (λ (s : State). s.room < 12) (sym same) no_room;
    }
