-- A number that is opened anew leaves the stream of its earlier opening behind, where its handler is held still.
use Rattle.std.proofs.Common.{◌≡◌, ◌≢◌, ℕ, suc, ◌==◌, Bool, true, false, not, ◌&&◌, cond, List, [], ◌∷◌, ◌++◌, map, Option, Some, None, refl, sym, ap, ◌∙◌, subst}
use Rattle.std.specs.Prelude.{IfSome, IsSome, is_some}
use Rattle.std.proofs.lemmas.List.{append-nil, map-append}
use Rattle.handlers.specs.Calls.{HandlerCall}
use Rattle.yamux_session.specs.declared.event.Role.{Role}
use Rattle.yamux_session.specs.Openings.{is_live}
use Rattle.streams.specs.declared.stage.Stage.{Stage}
use Rattle.streams.specs.declared.stage.Stage.TheVariants as stages
use Rattle.streams.specs.Streams.{Past}
use Rattle.streams.specs.State.{Streaming, StandsAt, awaits_handler, was_handed_out}
use Rattle.conn_log.specs.declared.earlier.Earlier.{Earlier}
use Rattle.conn_log.specs.Entries.{Entry, items, is_over, made_of, is_kept, left_behind}
use Rattle.conn_log.specs.Held.{IsAtRest, AreLeft, earlier_of}
use Rattle.conn_log.specs.Routes.{set_aside}
use Rattle.conn_log.proofs.Same.{left_same, left_one}
use Rattle.conn_log.proofs.Views.{same}

-- ---- those of a number

of_other : {H : Type 0} (n m : ℕ) (held : Option (Streaming H)) → (n == m) ≡ false → earlier_of m (set_aside n held) ≡ []
of_other n m None apart = refl
of_other n m (Some it) apart = by_stage (was_handed_out it.stage) where
  by_stage : (b : Bool) → earlier_of m (cond b [] (record { number = n; stream = it } ∷ [])) ≡ []
  by_stage true = refl
  by_stage false = ap (λ b. cond b (it ∷ []) []) apart

earlier_append : {H : Type 0} (m : ℕ) (past more : List (Earlier H)) → earlier_of m (past ++ more) ≡ earlier_of m past ++ earlier_of m more
earlier_append m [] more = refl
earlier_append m (it ∷ past) more = by_number (it.number == m) (earlier_append m past more) where
  by_number : (b : Bool) → earlier_of m (past ++ more) ≡ earlier_of m past ++ earlier_of m more → cond b (it.stream ∷ earlier_of m (past ++ more)) (earlier_of m (past ++ more)) ≡ cond b (it.stream ∷ earlier_of m past) (earlier_of m past) ++ earlier_of m more
  by_number true e = ap (λ t. it.stream ∷ t) e
  by_number false e = e

-- of another number none more are
pub earlier_other : {H : Type 0} (n m : ℕ) (past : List (Earlier H)) (held : Option (Streaming H)) → (n == m) ≡ false → earlier_of m (past ++ set_aside n held) ≡ earlier_of m past
earlier_other n m past held apart =
    earlier_append m past (set_aside n held) ∙ ap (λ t. earlier_of m past ++ t) (of_other n m held apart) ∙ append-nil (earlier_of m past)

-- ---- whether its handler is held

not_kept : {H : Type 0} (made : Option H) (over : Bool) → (made ≢ None → over ≡ false → ⊥) → is_some made && not over ≡ false
not_kept None over none = refl
not_kept (Some handler) true none = refl
not_kept (Some handler) false none = absurd (none (λ e. absurd (cc e)) refl)

over_is_not_kept : {H : Type 0} (made : Option H) (over : Bool) → over ≡ true → is_some made && not over ≡ false
over_is_not_kept None over is = refl
over_is_not_kept (Some handler) over is = ap not is

-- a stream that has ended, and whose handler wasn't handed out, holds the one that was made for it
made_where_ended : {H : Type 0} (step : H → HandlerCall → H → Type 0) (stage : Stage H) (so_far : Past H) (waiting : List ℕ) → StandsAt step stage so_far waiting → so_far.ended ≡ true
    → awaits_handler stage ≡ false → was_handed_out stage ≡ false → (made : H) × (so_far.made ≡ Some made)
made_where_ended step (stages.Talking talk handler) so_far waiting stands ended served held = absurd (let e : true ≡ false = sym ended ∙ stands.not_ended in cc e)
made_where_ended step (stages.Agreed index) so_far waiting stands ended served held = absurd (cc served)
made_where_ended step (stages.Serving handler) so_far waiting stands ended served held = (stands.made, stands.made_is)
made_where_ended step stages.Done so_far waiting stands ended served held = absurd (cc held)
made_where_ended step stages.Over so_far waiting stands ended served held = absurd stands

module _ {H : Type 0} (step : H → HandlerCall → H → Type 0) (is_closed is_finished : H → Bool) (names : List (List ℕ)) (role : Role) (log newer : List (Entry H)) (n : ℕ) (past : List (Earlier H))
    (over : is_live role (items log) n ≡ false)
    (left_is : left_behind role (newer ++ log) n ≡ cond (is_kept role log n) (suc (left_behind role log n)) (left_behind role log n))
    (all : AreLeft step is_closed is_finished names role log n 0 (earlier_of n past)) where
  abbrev Left : List (Earlier H) → Type 0
  Left aside = AreLeft step is_closed is_finished names role (newer ++ log) n 0 (earlier_of n (past ++ aside))

  none_left : is_kept role log n ≡ false → Left []
  none_left off = subst (λ (t : List (Earlier H)). AreLeft step is_closed is_finished names role (newer ++ log) n 0 (earlier_of n t)) (sym (append-nil past))
      (left_same step is_closed is_finished names role log newer n 0 (earlier_of n past) (left_is ∙ ap (λ b. cond b (suc (left_behind role log n)) (left_behind role log n)) off) all)

  one_left : (it : Streaming H) → is_kept role log n ≡ true → IsAtRest step is_closed is_finished names role log n it → Left (record { number = n; stream = it } ∷ [])
  one_left it on rest = subst (λ (t : List (Streaming H)). AreLeft step is_closed is_finished names role (newer ++ log) n 0 t)
      (sym (earlier_append n past (record { number = n; stream = it } ∷ []) ∙ ap (λ b. earlier_of n past ++ cond b (it ∷ []) []) (same n)))
      (left_one step is_closed is_finished names role log newer n 0 it (earlier_of n past) (left_is ∙ ap (λ b. cond b (suc (left_behind role log n)) (left_behind role log n)) on) over on rest all)

  -- where that of the opening before is at rest, its handler is held unless it was handed out
  held_kept : (it : Streaming H) → IsAtRest step is_closed is_finished names role log n it → (b : Bool) → was_handed_out it.stage ≡ b → is_kept role log n ≡ not b
  held_kept it rest true out = over_is_not_kept (made_of role log n) (is_over role log n) (rest.held.over ∙ out)
  held_kept it rest false out =
      let made = made_where_ended step it.stage rest.held.so_far it.waiting rest.held.stands (rest.held.ended_is ∙ rest.over_by_end over) rest.held.served out in
      ap (λ t. is_some t && not (is_over role log n)) (sym rest.held.made_is ∙ made.1) ∙ ap not (rest.held.over ∙ out)

  as_kept : (aside : List (Earlier H)) (b : Bool) → is_kept role log n ≡ b → map (λ (it : Earlier H). it.number) aside ≡ cond b (n ∷ []) []
      → map (λ (it : Earlier H). it.number) (past ++ aside)
      ≡ cond (is_kept role log n) (map (λ (it : Earlier H). it.number) past ++ n ∷ []) (map (λ (it : Earlier H). it.number) past)
  as_kept aside b kept is =
      map-append (λ (it : Earlier H). it.number) past aside ∙ ap (λ t. map (λ (it : Earlier H). it.number) past ++ t) is ∙ by_test b
      ∙ ap (λ c. cond c (map (λ (it : Earlier H). it.number) past ++ n ∷ []) (map (λ (it : Earlier H). it.number) past)) (sym kept) where
        by_test : (b : Bool) → map (λ (it : Earlier H). it.number) past ++ cond b (n ∷ []) []
            ≡ cond b (map (λ (it : Earlier H). it.number) past ++ n ∷ []) (map (λ (it : Earlier H). it.number) past)
        by_test true = refl
        by_test false = append-nil (map (λ (it : Earlier H). it.number) past)

  is_left : (it : Streaming H) → IsAtRest step is_closed is_finished names role log n it → (b : Bool) → was_handed_out it.stage ≡ b
      → Left (cond b [] (record { number = n; stream = it } ∷ []))
  is_left it rest true out = none_left (held_kept it rest true out)
  is_left it rest false out = one_left it (held_kept it rest false out) rest

  -- those of the number that is opened, where that of the opening before was put aside
  pub are_left : (held : Option (Streaming H)) → IfSome held (λ it. IsAtRest step is_closed is_finished names role log n it)
      → (made_of role log n ≢ None → is_over role log n ≡ false → IsSome held) → Left (set_aside n held)
  are_left None rest made_held = none_left (not_kept (made_of role log n) (is_over role log n) (λ made going. absurd (cc (made_held made going))))
  are_left (Some it) rest made_held = is_left it rest (was_handed_out it.stage) refl

  -- and their numbers
  pub numbers_are : (held : Option (Streaming H)) → IfSome held (λ it. IsAtRest step is_closed is_finished names role log n it)
      → (made_of role log n ≢ None → is_over role log n ≡ false → IsSome held)
      → map (λ (it : Earlier H). it.number) (past ++ set_aside n held)
      ≡ cond (is_kept role log n) (map (λ (it : Earlier H). it.number) past ++ n ∷ []) (map (λ (it : Earlier H). it.number) past)
  numbers_are None rest made_held = as_kept [] false (not_kept (made_of role log n) (is_over role log n) (λ made going. absurd (cc (made_held made going)))) refl
  numbers_are (Some it) rest made_held = by_stage (was_handed_out it.stage) refl where
    by_stage : (b : Bool) → was_handed_out it.stage ≡ b → map (λ (it : Earlier H). it.number) (past ++ cond b [] (record { number = n; stream = it } ∷ []))
        ≡ cond (is_kept role log n) (map (λ (it : Earlier H). it.number) past ++ n ∷ []) (map (λ (it : Earlier H). it.number) past)
    by_stage true out = as_kept [] false (held_kept it rest true out) refl
    by_stage false out = as_kept (record { number = n; stream = it } ∷ []) true (held_kept it rest false out) refl
