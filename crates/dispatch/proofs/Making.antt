-- The handler that is made once both ends of a stream agree.
use Rattle.std.proofs.Common.{◌≡◌, ◌≢◌, ◌⊎◌, inl, inr, ℕ, ◌<◌, ◌≤◌, Bool, true, false, List, [], ◌++◌, length, take, drop, slice_get, Option, Some, None, Result, Ok, refl, sym, ap, ◌∙◌, subst, cond, get_or}
use Rattle.std.specs.Prelude.{OnOk}
use Rattle.std.specs.List.{position}
use Rattle.std.specs.Str.{bytes_eq}
use Rattle.std.proofs.lemmas.List.{take-append-drop}
use Rattle.std.proofs.lemmas.List.Quantifiers.{position-Some}
use Rattle.std.proofs.lemmas.Option.{slice_get_cases}
use Rattle.handlers.specs.Calls.{HandlerCall}
use Rattle.ms_select.specs.Listening.{choice, is_reserved}
use Rattle.talks.specs.Talks.{Side, Asks, Answers, Agrees}
use Rattle.streams.specs.declared.heard.Heard.{Heard}
use Rattle.streams.specs.declared.heard.Heard.TheVariants as heards
use Rattle.streams.specs.declared.stop.Stop.{Stop}
use Rattle.streams.specs.declared.stage.Stage.TheVariants as stages
use Rattle.streams.specs.Streams.{Past, IsEarly}
use Rattle.streams.specs.State.{Streaming, Stands, awaits_handler, handler_of}
use Rattle.streams.specs.Hearing.{HasHeard, Moves, used_of, served}
use Rattle.dispatch.specs.declared.direction.Direction.{Direction}
use Rattle.dispatch.specs.declared.direction.Direction.TheVariants.{Inbound, Outbound}
use Rattle.dispatch.specs.Dispatch.{IsKnown, AgreesBy, IsMade, Negotiates}

-- ---- the index that is agreed on

chosen_by : (reserved : Bool) (found : Option ℕ) (index : ℕ) → cond reserved None found ≡ Some index → found ≡ Some index
chosen_by true found index e = absurd (cc e)
chosen_by false found index e = e

chosen_within : (names : List (List ℕ)) (name : List ℕ) (index : ℕ) → choice names name ≡ Some index → index < length names
chosen_within names name index e =
    (position-Some (λ known. bytes_eq known name) names index [] (chosen_by (is_reserved name) (position (λ known. bytes_eq known name) names) index e)).0

asked_within : (names : List (List ℕ)) (index : ℕ) (name : List ℕ) → slice_get names index ≡ Some name → index < length names
asked_within names index name e = by_case (slice_get_cases names index).1
  where
    by_case : ((x : List ℕ) × (index < length names) × (slice_get names index ≡ Some x) × (get_or names index x ≡ x)) ⊎ ((length names ≤ index) × (slice_get names index ≡ None))
        → index < length names
    by_case (inl some) = some.1
    by_case (inr none) = absurd (let f : Some name ≡ None = sym e ∙ none.1 in cc f)

pub is_within : (names : List (List ℕ)) (direction : Direction) (side : Side) (first : List ℕ) (index : ℕ) (output : List ℕ)
    → IsKnown names direction side → Agrees side first index output → index < length names
is_within names Inbound (Asks name i) first index output known agrees = absurd known
is_within names Inbound (Answers own) first index output known agrees =
    subst (λ (n : List (List ℕ)). index < length n) known (chosen_within own agrees.1 index agrees.4.chosen)
is_within names Outbound (Asks name i) first index output known agrees =
    subst (λ (k : ℕ). k < length names) (sym agrees.0) (asked_within names i name known)
is_within names Outbound (Answers own) first index output known agrees = absurd known

-- ---- the handler

-- what is said of these is said of what they are
pub as_they_are : {A B C : Type 0} (Q : A → B → C → Type 0) (a b : A) (x y : B) (k l : C) → a ≡ b → x ≡ y → k ≡ l → Q b y l → Q a x k
as_they_are {A} {B} {C} Q a b x y k l first second third q =
    subst (λ (t : A). Q t x k) (sym first) (subst (λ (t : B). Q b t k) (sym second) (subst (λ (t : C). Q b y t) (sym third) q))

module _ {H : Type 0} (step : H → HandlerCall → H → Type 0) (makes : ℕ → H → Type 0) (none_made : Type 0) where
  -- the handler that a stream holds once both ends agree
  pub record Begun (so_far : Past H) (index : ℕ) (front : List ℕ) (stream : Streaming H) : Type 0 where
    pub handler : H
    pub made : H
    pub is_made : IsMade makes none_made so_far index made
    pub stage_is : stream.stage ≡ stages.Serving handler
    pub stands : Stands step stream (record so_far { got = so_far.got ++ front; made = Some made })

  -- what the stream made of the piece
  pub record Hearing (so_far : Past H) (piece : List ℕ) (old new : Streaming H) (heard : Heard) : Type 0 where
    pub has_heard : HasHeard step so_far (handler_of old.stage) piece (Ok heard) new.waiting
    pub moves : Moves old.stage (Ok heard) new.stage
    pub stands : heard ≢ heards.Refused → Stands step new (record so_far { got = so_far.got ++ used_of heard piece })

  -- what was made where a handler is awaited, and nothing where it isn't
  pub record Serves (index : ℕ) (result : Result (Unit {0}) Stop) (old new : Streaming H) : Type 0 where
    pub served : awaits_handler old.stage ≡ true → OnOk result ((handler : H) × (new ≡ record old { stage = stages.Serving handler })
        × makes index handler × ((so_far : Past H) → Stands step old so_far → Stands step new (record so_far { made = Some handler })))
    pub not_awaited : awaits_handler old.stage ≡ false → (result ≡ Ok tt) × (new ≡ old) × none_made

  begun_by : (so_far : Past H) (index : ℕ) (front : List ℕ) (held : Option H) (gave : List ℕ) (old new : Streaming H)
      → IsEarly step so_far held gave → old.stage ≡ served index held → Stands step old (record so_far { got = so_far.got ++ front })
      → Serves index (Ok tt) old new → Begun so_far index front new
  begun_by so_far index front None gave old new early at stands s =
      let it = s.served (ap awaits_handler at) in
      record {
        handler = it.0;
        made = it.0;
        is_made = inr (early.0, it.2);
        stage_is = ap (λ (x : Streaming H). x.stage) it.1;
        stands = it.3 (record so_far { got = so_far.got ++ front }) stands;
      }
  begun_by so_far index front (Some handler) gave old new early at stands s =
      let kept = s.not_awaited (ap awaits_handler at) in
      let same = kept.1 in
      let made_is = early.1.1 in
      record {
        handler = handler;
        made = early.1.0;
        is_made = inl (made_is, kept.2);
        stage_is = ap (λ (x : Streaming H). x.stage) same ∙ at;
        stands = subst (λ (x : Streaming H). Stands step x (record so_far { got = so_far.got ++ front; made = Some early.1.0 })) (sym same)
            (subst (λ (m : Option H). Stands step old (record so_far { got = so_far.got ++ front; made = m })) made_is stands);
      }

  pub begun : (so_far : Past H) (index used : ℕ) (piece : List ℕ) (old mid new : Streaming H)
      → Hearing so_far piece old mid (heards.Agreed index used) → Serves index (Ok tt) mid new → Begun so_far index (take used piece) new
  begun so_far index used piece old mid new h s =
      begun_by so_far index (take used piece) (handler_of old.stage) h.has_heard.gave mid new h.has_heard.early h.moves (h.stands (λ e. cc e)) s

  -- by the front of the piece both ends agree
  pub agrees_by : (so_far : Past H) (index used : ℕ) (piece : List ℕ) (old mid : Streaming H)
      → Hearing so_far piece old mid (heards.Agreed index used) → AgreesBy so_far piece index (take used piece) (drop used piece)
  agrees_by so_far index used piece old mid h =
      record { output = h.has_heard.output; bytes_are = sym (take-append-drop used piece); agrees = h.has_heard.hears.1 }

  none_before_by : (index : ℕ) (so_far : Past H) (held : Option H) (gave : List ℕ) → IsEarly step so_far held gave → awaits_handler (served index held) ≡ true → so_far.made ≡ None
  none_before_by index so_far None gave early e = early.0
  none_before_by index so_far (Some handler) gave early e = absurd (cc e)

  -- where a handler is awaited none was made
  pub none_made_before : (so_far : Past H) (index used : ℕ) (piece : List ℕ) (old mid : Streaming H) → Hearing so_far piece old mid (heards.Agreed index used)
      → awaits_handler mid.stage ≡ true → so_far.made ≡ None
  none_made_before so_far index used piece old mid h awaits =
      none_before_by index so_far (handler_of old.stage) h.has_heard.gave h.has_heard.early (ap awaits_handler (sym h.moves) ∙ awaits)

  -- by this piece no protocol is agreed on
  pub none_agreed : (so_far : Past H) (piece : List ℕ) (old new : Streaming H) (heard : Heard) → Hearing so_far piece old new heard
      → ((index used : ℕ) → heard ≡ heards.Agreed index used → ⊥) → none_made → Negotiates step makes none_made so_far piece (Ok heard) new
  none_agreed so_far piece old new heards.Going h other kept = (h.stands (λ e. cc e), h.moves.0, kept)
  none_agreed so_far piece old new (heards.Agreed index used) h other kept = absurd (other index used refl)
  none_agreed so_far piece old new heards.Refused h other kept =
      let down = h.has_heard.hears in (down.0, down.1, h.has_heard.output, down.2, down.3, kept, h.moves)
