-- Bytes fed one after another lead on.
use Rattle.std.proofs.Common.{◌≡◌, ℕ, ◌+◌, ◌≤◌, true, false, List, [], ◌++◌, length, map, take, drop, refl, sym, ap, ◌∙◌, subst, append_assoc, arith}
use Rattle.std.proofs.lemmas.List.{append-nil, length-append, map-append, length-take-le, take-take}
use Rattle.std.proofs.Math.Seq.{drop-append_seam}
use Rattle.yamux_session.specs.declared.event.Role.{Role}
use Rattle.yamux_session.specs.History.{Item, arrivals}
use Rattle.yamux_session.specs.History.Item.{Came}
use Rattle.yamux_session.specs.Events.{Told, events}
use Rattle.yamux_session.specs.declared.event.Event.{Event}
use Rattle.yamux_session.specs.State.{State, Stands, EndsWith, Led, IsOneFrame, Steps, FeedsFrame, HasCome}
use Rattle.yamux_session.specs.Arrives.{telling, tellings, HasData, added}
use Rattle.yamux_session.proofs.Pieces.{take_over, take_on}
use Rattle.yamux_session.proofs.Telling.{all_both}
use Rattle.std.specs.List.{AllByRecursion}
use Rattle.std.proofs.lemmas.List.Concat.{flat_map-append}

take_less : (xs : List ℕ) (m n : ℕ) → m ≤ n → take m (take n xs) ≡ take m xs
take_less xs m n h = take-take m n xs h

pub then_led : (role : Role) (past mid now : List Item) (fed first second sent : List ℕ) (told more_told : List Told) (s t : State)
    → Led role past mid fed first sent told s → Led role mid now (fed ++ first) second sent more_told t
    → Led role past now fed (first ++ second) sent (told ++ more_told) t
then_led role past mid now fed first second sent told more_told s t a b =
    record {
      came = (
        b.came.0 ++ a.came.0,
        b.came.1 ∙ ap (λ (xs : List Item). map Came b.came.0 ++ xs) a.came.1 ∙ sym (append_assoc (map Came b.came.0) (map Came a.came.0) past) ∙ ap (λ (xs : List Item). xs ++ past) (sym (map-append Came b.came.0 a.came.0)),
      );
      told_is = b.told_is ∙ ap (λ (xs : List Told). xs ++ more_told) a.told_is ∙ append_assoc (events role past) told more_told;
      goes_on = λ going. subst (λ (xs : List ℕ). Stands role now xs sent t) (append_assoc fed first second) (b.goes_on going);
      fails = λ failed.
          let end = b.fails failed in (
            end.0,
            end.1,
            (
              length first + end.2.0,
              (let fits = end.2.1 in omega (arith, length-append first second)),
              subst (λ (xs : List ℕ). EndsWith xs (arrivals now)) (append_assoc fed first (take end.2.0 second) ∙ ap (λ (xs : List ℕ). fed ++ xs) (sym (take_over first second end.2.0))) end.2.2,
            ),
          );
    }

-- the events that were put behind
pub added_more : (before more after : List Event) → after ≡ before ++ more → added before after ≡ more
added_more before more after is = ap (added before) is ∙ drop-append_seam before more

pub step_feeds : (old new : State) (bytes : List ℕ) (before after : List Event)
    → ((role : Role) (past : List Item) (fed sent : List ℕ) → Stands role past fed sent old → Steps role past fed bytes sent before after new)
    → FeedsFrame old bytes (added before after) new
step_feeds old new bytes before after steps = λ role past fed sent stands.
    let step = steps role past fed sent stands in
    let fed_on = subst (λ (xs : List Told). (led : Led role past step.now fed bytes sent xs new) × IsOneFrame led.came.0)
    (sym (ap tellings (added_more before step.tells.more after step.tells.added) ∙ step.tells.telling)) (step.led, step.one_frame) in
    (step.now, fed_on.0, fed_on.1)

-- what holds of the events of one answer holds of those that were put behind
pub step_added : (P : List Event → Type 0) (role : Role) (past : List Item) (fed bytes sent : List ℕ) (before after : List Event) (new : State)
    → ((step : Steps role past fed bytes sent before after new) → P step.tells.more) → Steps role past fed bytes sent before after new → P (added before after)
step_added P role past fed bytes sent before after new holds step = subst P (sym (added_more before step.tells.more after step.tells.added)) (holds step)

-- one call more
pub frame_led : (role : Role) (past : List Item) (fed bytes sent : List ℕ) (at used : ℕ) (before after : List Event) (s t : State)
    → at ≤ length bytes → s.failed ≡ false → after ≡ before ++ added before after
    → ((mid : List Item) × Led role past mid fed (take at bytes) sent (tellings before) s)
    → FeedsFrame s (take used (drop at bytes)) (added before after) t
    → (now : List Item) × Led role past now fed (take (at + used) bytes) sent (tellings after) t
frame_led role past fed bytes sent at used before after s t within going kept led feeds =
    let mid : List Item = led.0 in
    let a : Led role past mid fed (take at bytes) sent (tellings before) s = led.1 in
    let more : List Event = added before after in
    let next = feeds role mid (fed ++ take at bytes) sent (a.goes_on going) in (
      next.0,
      subst (λ (xs : List Told). Led role past next.0 fed (take (at + used) bytes) sent xs t) (sym (ap tellings kept ∙ flat_map-append telling before more))
          (subst (λ (xs : List ℕ). Led role past next.0 fed xs sent (tellings before ++ tellings more) t) (sym (take_on bytes at used within))
          (then_led role past mid next.0 fed (take at bytes) (take used (drop at bytes)) sent (tellings before) (tellings more) s t a next.1)),
    )

-- and its events have data where those before have it
pub frame_filled : (before after : List Event) → after ≡ before ++ added before after
    → AllByRecursion HasData before → AllByRecursion HasData (added before after) → AllByRecursion HasData after
frame_filled before after kept filled more = subst (AllByRecursion HasData) (sym kept) (all_both HasData before (added before after) filled more)

-- no bytes
pub nothing_led : (role : Role) (past : List Item) (fed sent : List ℕ) (s : State) → Stands role past fed sent s → Led role past past fed [] sent [] s
nothing_led role past fed sent s stands = record {
  came = ([], refl);
  told_is = sym (append-nil (events role past));
  goes_on = λ _. subst (λ (t : List ℕ). Stands role past t sent s) (sym (append-nil fed)) stands;
  fails = λ bad. absurd (let e : true ≡ false = sym bad ∙ stands.going in cc);
}

pub nothing_fed : (role : Role) (past : List Item) (fed sent : List ℕ) (told : List Event) (s : State) → Stands role past fed sent s
    → (now : List Item) × (led : Led role past now fed [] sent (tellings (added told told)) s) × IsOneFrame led.came.0
nothing_fed role past fed sent told s stands =
    let none = subst (λ (xs : List Event). (led : Led role past past fed [] sent (tellings xs) s) × IsOneFrame led.came.0) (sym (added_more told [] told (sym (append-nil told)))) (
      record {
        came = ([], refl);
        told_is = sym (append-nil (events role past));
        goes_on = λ _. subst (λ (t : List ℕ). Stands role past t sent s) (sym (append-nil fed)) stands;
        fails = λ bad. absurd (let e : true ≡ false = sym bad ∙ stands.going in cc);
      },
      tt,
    ) in
    (past, none.0, none.1)

-- after a fault the rest of the bytes isn't looked at
pub failed_led : (role : Role) (past now : List Item) (fed bytes sent : List ℕ) (at : ℕ) (told : List Told) (s : State) → at ≤ length bytes → s.failed ≡ true
    → Led role past now fed (take at bytes) sent told s → Led role past now fed bytes sent told s
failed_led role past now fed bytes sent at told s within failed led =
    record {
      came = led.came;
      told_is = led.told_is;
      goes_on = λ going. absurd (let h : true ≡ false = sym failed ∙ going in cc);
      fails = λ _.
          let end = led.fails failed in
          let prefix : length (take at bytes) ≡ at = length-take-le at bytes within in
          let fits = end.2.1 in
          (end.0, end.1, (end.2.0, omega arith, subst (λ (xs : List ℕ). EndsWith (fed ++ xs) (arrivals now)) (take_less bytes end.2.0 at (omega arith)) end.2.2));
    }

-- a step that ran out of memory
pub out_led : (role : Role) (past : List Item) (fed bytes sent pending : List ℕ) (at : ℕ) (before : List Event) (s : State) → at ≤ length bytes → s.failed ≡ false → pending ≡ s.pending
    → ((mid : List Item) × Led role past mid fed (take at bytes) sent (tellings before) s)
    → (used : ℕ) × (used ≤ length bytes) × (now : List Item) × HasCome role past fed (take used bytes) sent now pending
out_led role past fed bytes sent pending at before s within going same led =
    let stands = led.1.goes_on going in (
      at,
      within,
      led.0,
      record {
        came = led.1.came;
        no_fault = stands.no_fault;
        read = (s.place.part, stands.frames.reads);
        output = ap (λ (t : List ℕ). sent ++ t) same ∙ stands.output;
      },
    )
