-- What a stream gives, by the parts of what waits.
use Rattle.std.proofs.Common.{◌≡◌, ℕ, ◌+◌, ◌-◌, ◌≤◌, min, true, false, Bool, List, [], ◌∷◌, ◌++◌, length, take, drop, Some, None, sym, ap, ◌∙◌, subst, arith}
use Rattle.std.proofs.lemmas.List.{append-nil, length-append, take-append-drop, length-take-le, take_min}
use Rattle.handlers.specs.Calls.{HandlerCall, Give}
use Rattle.streams.specs.declared.stage.Stage.{Stage}
use Rattle.streams.specs.declared.stage.Stage.TheVariants as stages
use Rattle.streams.specs.Streams.{Past, with_call}
use Rattle.streams.specs.State.{Streaming, Stands, StandsAt, is_open}
use Rattle.streams.specs.Giving.{StageGives}
use Rattle.streams.proofs.Giving.{Parts, order_of, was_asked, none_asked, front_sent}

-- what is given out, and what is left of what waits
pub record Sent (waiting front left given bytes : List ℕ) (room count : ℕ) : Type 0 where
  pub count_is : count ≡ min room (length waiting)
  pub front_is : front ≡ take count waiting
  pub left_is : left ≡ drop count waiting
  pub bytes_are : bytes ≡ front ++ given
  pub short : length given ≤ room - count

parts_of : (waiting front left given bytes : List ℕ) (room count : ℕ) → Sent waiting front left given bytes room count → front ++ left ≡ waiting
parts_of waiting front left given bytes room count s =
    ap (λ t. t ++ left) s.front_is ∙ ap (λ t. take count waiting ++ t) s.left_is ∙ take-append-drop count waiting

front_length : (waiting front left given bytes : List ℕ) (room count : ℕ) → Sent waiting front left given bytes room count → length front ≡ count
front_length waiting front left given bytes room count s = ap length s.front_is ∙ length-take-le count waiting (omega (arith, s.count_is))

cut : (waiting front left given bytes : List ℕ) (room count : ℕ) → Sent waiting front left given bytes room count → Parts waiting front left given
cut waiting front left given bytes room count s =
    let parts = parts_of waiting front left given bytes room count s in
    let size = front_length waiting front left given bytes room count s in
    record { parts = parts; order = order_of room waiting front left given parts (size ∙ s.count_is) (omega (arith, size, s.short)) }

front_is_taken : (waiting front left given bytes : List ℕ) (room count : ℕ) → Sent waiting front left given bytes room count → front ≡ take room waiting
front_is_taken waiting front left given bytes room count s = s.front_is ∙ ap (λ k. take k waiting) s.count_is ∙ take_min room waiting

module _ {H : Type 0} (step : H → HandlerCall → H → Type 0) (closed : H → Bool) where
  pub asked_on : (x : Streaming H) (past : Past H) (old new : Stage H) (waiting front left given bytes : List ℕ) (room count : ℕ) → x ≡ record { waiting = waiting; stage = old }
      → Sent waiting front left given bytes room count → Stands step x past → is_open closed x.stage ≡ true → StageGives step closed old (room - count) new given
      → (more : List ℕ) × (bytes ≡ take room x.waiting ++ more)
      × StandsAt step new (with_call (record past { sent = past.sent ++ bytes; left = Some (room - length bytes) }) (Some (Give (room - length x.waiting) more))) left
  asked_on x past old new waiting front left given bytes room count e s stands is_asked gives =
      let held = subst (λ (y : Streaming H). Stands step y past) e stands in
      let shown = subst (λ (y : Streaming H). is_open closed y.stage ≡ true) e is_asked in
      let size = front_length waiting front left given bytes room count s in
      let whole : length bytes ≡ length front + length given = ap length s.bytes_are ∙ length-append front given in
      let sum : length given + (room - length bytes) ≡ room - count = omega (arith, size, whole, s.short, s.count_is) in
      let waits : x.waiting ≡ waiting = ap (λ (y : Streaming H). y.waiting) e in
      let behind : room - count ≡ room - length x.waiting = omega (arith, s.count_is, ap length waits) in (
        given,
        s.bytes_are ∙ ap (λ t. t ++ given) (front_is_taken waiting front left given bytes room count s ∙ ap (take room) (sym waits)),
        subst (λ (k : ℕ). StandsAt step new (record past { sent = past.sent ++ bytes; calls = past.calls ++ Give k given ∷ []; left = Some (room - length bytes) }) left) behind
            (subst (λ (t : List ℕ). StandsAt step new (record past { sent = past.sent ++ t; calls = past.calls ++ Give (room - count) given ∷ []; left = Some (room - length bytes) }) left) (sym s.bytes_are)
            (was_asked step closed past old new (room - count) (room - length bytes) waiting front left given shown (cut waiting front left given bytes room count s) sum held gives)),
      )

  pub sent_on : (x : Streaming H) (past : Past H) (old new : Stage H) (waiting front left given bytes : List ℕ) (room count : ℕ) → x ≡ record { waiting = waiting; stage = old }
      → Sent waiting front left given bytes room count → Stands step x past → is_open closed x.stage ≡ false → StageGives step closed old (room - count) new given
      → StandsAt step new (record past { sent = past.sent ++ bytes }) left
  sent_on x past old new waiting front left given bytes room count e s stands shut gives =
      let held = subst (λ (y : Streaming H). Stands step y past) e stands in
      let shown = subst (λ (y : Streaming H). is_open closed y.stage ≡ false) e shut in
      let same = none_asked step closed old new (room - count) given shown gives in
      let all : bytes ≡ front = s.bytes_are ∙ ap (λ t. front ++ t) same.1 ∙ append-nil front in
      let there = front_sent step closed past old waiting front left (parts_of waiting front left given bytes room count s) held in
      let here = subst (λ (t : Stage H). StandsAt step t (record past { sent = past.sent ++ front }) left) (sym same.0) there in
      subst (λ (t : List ℕ). StandsAt step new (record past { sent = past.sent ++ t }) left) (sym all) here

  none_given : (given : List ℕ) (rest : ℕ) → given ≡ [] → length given ≤ rest
  none_given given rest e = omega (arith, ap length e)

  -- no more is given than there is room for
  pub given_short : (old new : Stage H) (rest : ℕ) (given : List ℕ) → StageGives step closed old rest new given → length given ≤ rest
  given_short (stages.Talking talk None) new rest given g = none_given given rest g.1
  given_short (stages.Talking talk (Some handler)) new rest given g = g.2.0
  given_short (stages.Agreed index) new rest given g = none_given given rest g.1
  given_short (stages.Serving handler) new rest given g = g.2.0
  given_short stages.Done new rest given g = none_given given rest g.1
  given_short stages.Over new rest given g = none_given given rest g.1
