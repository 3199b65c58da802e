-- What a stream gave was written.
use Rattle.std.proofs.Common.{◌≡◌, ◌≢◌, ℕ, ◌≤◌, ◌<◌, ◌-◌, ◌==◌, min, Bool, true, false, not, Option, List, [], ◌∷◌, ◌++◌, length, map, take, ◌⊎◌, inl, inr, Some, None, Result, Ok, Err, refl, sym, ap, ◌∙◌, subst, arith}
use Rattle.std.specs.Prelude.{OnOk, OnErr, IfErr}
use Rattle.std.specs.List.{concat}
use Rattle.std.proofs.lemmas.Bool.Decides.{nat_tests}
use Rattle.std.proofs.lemmas.List.{take_all, append_cancel_left}
use Rattle.handlers.specs.Calls.{HandlerCall, Give}
use Rattle.yamux_session.specs.declared.event.Role.{Role}
use Rattle.yamux_session.specs.History.{Item, Act}
use Rattle.yamux_session.specs.History.Item.{Did}
use Rattle.yamux_session.specs.History.Act.{Write}
use Rattle.yamux_session.specs.State.{State, Stands as SessionStands}
use Rattle.yamux_session.specs.Acts.{open_credit, frames_length}
use Rattle.streams.specs.Streams.{Past, with_call}
use Rattle.streams.specs.State.{Streaming, Stands, is_talking, handler_of, holds, is_open}
use Rattle.serving.specs.Served.{AnswersCall, Asking}
use Rattle.serving.specs.Wanting.{IsUnwritten}
use Rattle.serving.specs.Steps.{Sends}
use Rattle.serving.proofs.Refusals.{open_with}

pub on_ok : {A E : Type 0} {P Q : Type 0} (r : Result A E) → (P → Q) → OnOk r P → OnOk r Q
on_ok (Ok x) f p = f p
on_ok (Err e) f p = tt

pub on_err : {A E : Type 0} {P : E → Type 0} {Q : Type 0} (r : Result A E) → IfErr r P → ((e : E) → P e → Q) → OnErr r Q
on_err (Ok x) p f = tt
on_err (Err e) p f = f e p

-- all was let through
pub whole : (bytes given : List ℕ) (count amount credit : ℕ) → given ≡ bytes → count ≡ min (length given) credit → credit ≡ amount
    → length bytes ≤ amount → take count given ≡ bytes
whole bytes given count amount credit e is same short =
    take_all count given (let size = ap length e in omega (arith, is, same, short, size)) ∙ e

-- and so their frames find no room
pub through : (bytes given : List ℕ) (room amount credit : ℕ) → given ≡ bytes → credit ≡ amount → length bytes ≤ amount
    → room < frames_length (min (length given) credit) → room < frames_length (length bytes)
through bytes given room amount credit e same short no_room =
    subst (λ (k : ℕ). room < frames_length k) (let size = ap length e in omega (arith, same, short, size)) no_room

-- where there is something
pub filled : (bytes : List ℕ) (size : ℕ) (is_empty : Bool) → size ≡ length bytes → (size == 0) ≡ is_empty → is_empty ≡ false → bytes ≢ []
filled bytes size is_empty e is off none = let zero = e ∙ ap length none in absurd (grind (arith, zero, is, off, nat_tests))

pub none_of : (xs : List ℕ) → length xs ≡ 0 → xs ≡ []
none_of [] e = refl
none_of (x ∷ xs) e = absurd (cc e)

-- a handler that is held open isn't closed
pub unclosed_one : {H : Type 0} (closed : H → Bool) (held : Option H) (handler : H) → holds (λ it. not (closed it)) held ≡ true → held ≡ Some handler
    → closed handler ≡ false
unclosed_one closed None handler asked is = absurd (cc is)
unclosed_one closed (Some it) handler asked is =
    let same : it ≡ handler = cc is in
    ap closed (sym same) ∙ by_not (closed it) asked where
      by_not : (b : Bool) → not b ≡ true → b ≡ false
      by_not true e = absurd (cc e)
      by_not false e = refl

module _ {H : Type 0} (step : H → HandlerCall → H → Type 0) (closed : H → Bool) where
  -- the handler that was asked answers
  pub answers_on : (amount : ℕ) (old new : Streaming H) (bytes : List ℕ)
      → ((handler : H) → handler_of old.stage ≡ Some handler → closed handler ≡ false → (after : H) × (more : List ℕ) × (handler_of new.stage ≡ Some after)
      × (is_talking new.stage ≡ is_talking old.stage) × (bytes ≡ take amount old.waiting ++ more) × step handler (Give (amount - length old.waiting) more) after)
      → is_open closed old.stage ≡ true → (more : List ℕ) → bytes ≡ take amount old.waiting ++ more → AnswersCall step old.stage (Give (amount - length old.waiting) more)
  answers_on amount old new bytes steps asked more is handler held =
      let it = steps handler held (unclosed_one closed (handler_of old.stage) handler asked held) in
      let same : it.1 ≡ more = append_cancel_left (take amount old.waiting) it.1 more (sym it.4 ∙ is) in
      (it.0, subst (λ t. step handler (Give (amount - length old.waiting) t) it.0) same it.5)

  -- where the stream stands behind what it gave
  pub record Given (so_far : Past H) (amount : ℕ) (old new : Streaming H) (bytes : List ℕ) : Type 0 where
    pub asked : is_open closed old.stage ≡ true → (more : List ℕ) × (bytes ≡ take amount old.waiting ++ more)
        × Stands step new (with_call (record so_far { sent = so_far.sent ++ bytes; left = Some (amount - length bytes) }) (Some (Give (amount - length old.waiting) more)))
    -- its handler answers the call
    pub answers : is_open closed old.stage ≡ true → (more : List ℕ) → bytes ≡ take amount old.waiting ++ more
        → AnswersCall step old.stage (Give (amount - length old.waiting) more)
    pub not_asked : is_open closed old.stage ≡ false → Stands step new (record so_far { sent = so_far.sent ++ bytes })
    pub same : is_open closed old.stage ≡ false → new.stage ≡ old.stage
    pub full : new.waiting ≢ [] → length bytes ≡ amount

  -- the handler was asked, or the stream holds none that isn't closed
  asking : (role : Role) (past : List Item) (n amount : ℕ) (so_far : Past H) (old new : Streaming H) (bytes : List ℕ) (Came : Past H → Type 0)
      → Given so_far amount old new bytes → open_credit role past n ≡ Some amount
      → ((call : HandlerCall) → Stands step new (with_call (record so_far { sent = so_far.sent ++ bytes; left = Some (amount - length bytes) }) (Some call)) → Came (with_call so_far (Some call)))
      → (is_open closed new.stage ≡ false → Stands step new (record so_far { sent = so_far.sent ++ bytes }) → Came so_far)
      → (b : Bool) → is_open closed old.stage ≡ b → Asking step closed role past n old new so_far Came
  asking role past n amount so_far old new bytes Came g some asked not_asked true e =
      let it = open_with role past n amount some in
      let more = (g.asked e).0 in
      let call = Give (amount - length old.waiting) more in (
        Some call,
        (it.is_live, it.unclosed, e, ap (λ k. k - length old.waiting) (sym it.credit_is), g.answers e more (g.asked e).1),
        asked call (g.asked e).2,
        tt,
      )
  asking role past n amount so_far old new bytes Came g some asked not_asked false e =
      let shut : is_open closed new.stage ≡ false = ap (is_open closed) (g.same e) ∙ e in (None, tt, not_asked shut (g.not_asked e), (λ live unclosed. e, λ live unclosed. shut))

  gave_by : (role : Role) (past : List Item) (fed sent : List ℕ) (n amount : ℕ) (so_far : Past H) (session : State) (old new : Streaming H) (pieces : List (List ℕ)) (acts : List Act)
      → (acts ≡ Write n pieces ∷ []) ⊎ ((acts ≡ []) × (pieces ≡ [])) → SessionStands role (map Did acts ++ past) fed sent session → Given so_far amount old new (concat pieces)
      → open_credit role past n ≡ Some amount → Asking step closed role past n old new so_far (λ now. Sends step closed role past fed sent n amount now session new)
  gave_by role past fed sent n amount so_far session old new pieces acts are at g some =
      asking role past n amount so_far old new (concat pieces) (λ now. Sends step closed role past fed sent n amount now session new) g some
      (λ call stands. record {
        pieces = pieces;
        acts = acts;
        acts_are = are;
        left = Some (amount - length (concat pieces));
        session_stands = at;
        stream_stands = stands;
        asked = λ is. refl;
        full = g.full;
      })
      (λ shut stands. record {
        pieces = pieces;
        acts = acts;
        acts_are = are;
        left = so_far.left;
        session_stands = at;
        stream_stands = stands;
        asked = λ is. absurd (let both : true ≡ false = sym is ∙ shut in cc both);
        full = g.full;
      })
      (is_open closed old.stage) refl

  pub gave : (role : Role) (past : List Item) (fed sent : List ℕ) (n amount : ℕ) (so_far : Past H) (session : State) (old new : Streaming H) (bytes : List ℕ) (pieces : List (List ℕ))
      → concat pieces ≡ bytes → SessionStands role (Did (Write n pieces) ∷ past) fed sent session → Given so_far amount old new bytes
      → open_credit role past n ≡ Some amount → Asking step closed role past n old new so_far (λ now. Sends step closed role past fed sent n amount now session new)
  gave role past fed sent n amount so_far session old new bytes pieces e at g some =
      gave_by role past fed sent n amount so_far session old new pieces (Write n pieces ∷ []) (inl refl) at (subst (λ t. Given so_far amount old new t) (sym e) g) some

  -- one that gave nothing
  pub gave_none : (role : Role) (past : List Item) (fed sent : List ℕ) (n amount : ℕ) (so_far : Past H) (session : State) (old new : Streaming H) (bytes : List ℕ)
      → bytes ≡ [] → SessionStands role past fed sent session → Given so_far amount old new bytes
      → open_credit role past n ≡ Some amount → Asking step closed role past n old new so_far (λ now. Sends step closed role past fed sent n amount now session new)
  gave_none role past fed sent n amount so_far session old new bytes e at g some =
      gave_by role past fed sent n amount so_far session old new [] [] (inr (refl, refl)) at (subst (λ t. Given so_far amount old new t) e g) some

  -- what it gave isn't written
  pub unwritten : (role : Role) (past : List Item) (n amount room : ℕ) (so_far : Past H) (old new : Streaming H) (bytes : List ℕ)
      → bytes ≢ [] → length bytes ≤ amount → room < frames_length (length bytes) → Given so_far amount old new bytes
      → open_credit role past n ≡ Some amount → Asking step closed role past n old new so_far (λ now. IsUnwritten step role past n now room new)
  unwritten role past n amount room so_far old new bytes filled within no_room g some =
      asking role past n amount so_far old new bytes (λ now. IsUnwritten step role past n now room new) g some
      (λ call stands. record {
        bytes = bytes;
        some = filled;
        credit = amount;
        is_open = some;
        within = within;
        no_room = no_room;
        left = Some (amount - length bytes);
        stands = stands;
      })
      (λ shut stands. record {
        bytes = bytes;
        some = filled;
        credit = amount;
        is_open = some;
        within = within;
        no_room = no_room;
        left = so_far.left;
        stands = stands;
      })
      (is_open closed old.stage) refl
