-- What a run was fed, has told and was asked for is counted by its calls and answers.
use Rattle.std.proofs.Common.{◌≡◌, ℕ, ◌⊎◌, inl, inr, suc, Bool, true, false, List, [], ◌∷◌, ◌++◌, refl, sym, ap, ◌∙◌, subst}
use Rattle.std.proofs.lemmas.List.{append_assoc, append-nil}
use Rattle.handlers.specs.Calls.{HandlerCall, Asked}
use Rattle.peer_ids.specs.Key.{Key}
use Rattle.upgrade.specs.declared.role.ConnRole.{ConnRole}
use Rattle.conn_log.specs.declared.event.ConnEvent.{ConnEvent}
use Rattle.conn_log.specs.declared.event.ConnRefused.{ConnRefused}
use Rattle.conn_log.specs.Entries.{Entry, asks}
use Rattle.conn_core.specs.Connects.{IsGrown}
use Rattle.conn_core.specs.declared.calls.ConnAct.{ConnAct}
use Rattle.conn_core.specs.declared.calls.ConnAct.TheVariants.{Feed, Ask, Ended}
use Rattle.conn_core.specs.declared.calls.ConnAnswer.{ConnAnswer}
use Rattle.conn_core.specs.declared.calls.ConnAnswer.TheVariants.{Events, Stream, Refused}
use Rattle.conn_core.specs.Runs.{Point, AnswersAll, IsSpent, IsTurnedAway, StaysBehind}
use Rattle.conn_core.specs.Runs.Point.{At, Spent}
use Rattle.conn_core.specs.Promises.{EachIsAnswered, AllIsCounted, PastStays, fed_by, told_by, opened_by}
use Rattle.conn_core.proofs.Growing.{stays, grown_on, one_opened}

-- behind a point all is there, and then what the calls and answers say
abbrev IsBehind : {H : Type 0} → Point H → List ConnAct → List (ConnAnswer H) → Point H → Type 0
IsBehind (At input ended log told owed) calls answers (At input_then ended_then log_then told_then owed_then) =
    (input_then ≡ input ++ fed_by calls answers) × IsGrown (opened_by calls answers) log log_then
    × (told_then ≡ told ++ told_by answers)
IsBehind (At input ended log told owed) calls answers (Spent w) = Unit {0}
IsBehind (Spent v) calls answers (At input ended log told owed) = ⊥
IsBehind (Spent v) calls answers (Spent w) = Unit {0}

on_from : {H : Type 0} (input between : List ℕ) (ended ended_between : Bool) (first : List (ℕ × ℕ)) (log log_between : List (Entry H)) (told told_between owed owed_between : List (ConnEvent H)) (calls later : List ConnAct) (answers given : List (ConnAnswer H)) (last : Point H)
    → between ++ fed_by later given ≡ input ++ fed_by calls answers → IsGrown first log log_between → first ++ opened_by later given ≡ opened_by calls answers
    → told_between ++ told_by given ≡ told ++ told_by answers → IsBehind (At between ended_between log_between told_between owed_between) later given last → IsBehind (At input ended log told owed) calls answers last
on_from input between ended ended_between first log log_between told told_between owed owed_between calls later answers given (At i e l t o) fed grown opened said it =
    (it.0 ∙ fed, subst (λ (n : List (ℕ × ℕ)). IsGrown n log l) opened (grown_on first (opened_by later given) log log_between l grown it.1), it.2 ∙ said)
on_from input between ended ended_between first log log_between told told_between owed owed_between calls later answers given (Spent w) fed grown opened said it = tt

from_spent : {H : Type 0} (v : List ℕ) (point : Point H) (calls later : List ConnAct) (answers given : List (ConnAnswer H)) (last : Point H) → IsBehind (Spent v) later given last → IsBehind point calls answers last
from_spent v point calls later answers given (At i e a t o) it = absurd it
from_spent v (At input ended log told owed) calls later answers given (Spent w) it = tt
from_spent v (Spent u) calls later answers given (Spent w) it = tt

at_once : {H : Type 0} (point : Point H) → IsBehind point [] [] point
at_once (At input ended log told owed) = (sym (append-nil input), stays log, sym (append-nil told))
at_once (Spent w) = tt

-- behind a refusal that left all as it was, or spent the memory
stayed : {H : Type 0} (input : List ℕ) (ended : Bool) (log : List (Entry H)) (told owed : List (ConnEvent H)) (calls later : List ConnAct) (answers given : List (ConnAnswer H)) (next last : Point H)
    → fed_by later given ≡ fed_by calls answers → opened_by later given ≡ opened_by calls answers → told_by given ≡ told_by answers
    → (next ≡ At input ended log told owed) ⊎ IsSpent next → IsBehind next later given last → IsBehind (At input ended log told owed) calls answers last
stayed input ended log told owed calls later answers given next last fed opened said (inl here) it =
    on_from input input ended ended [] log log told told owed owed calls later answers given last (ap (λ t. input ++ t) fed) (stays log) opened (ap (λ t. told ++ t) said)
    (subst (λ (p : Point _). IsBehind p later given last) here it)
stayed input ended log told owed calls later answers given next last fed opened said (inr spent) it =
    from_spent spent.0 (At input ended log told owed) calls later answers given last (subst (λ (p : Point _). IsBehind p later given last) spent.1 it)

turned_away : {H : Type 0} (told : List (ConnEvent H)) (why : ConnRefused) (here next : Point H) → IsTurnedAway told why here next → (next ≡ here) ⊎ IsSpent next
turned_away told why here next (inl same) = inl same.2
turned_away told why here next (inr spent) = inr spent.2

unchanged : {H : Type 0} (why : ConnRefused) (here next : Point H) → StaysBehind why here next → (next ≡ here) ⊎ IsSpent next
unchanged why here next (inl same) = inl same.1
unchanged why here next (inr spent) = inr spent.1

module _ {P H : Type 0} (step : H → HandlerCall → H → Type 0) (fails : H → Asked → ℕ → Type 0)
    (is_closed is_finished : H → Bool) (inbound_makes outbound_makes : P → ℕ → List ℕ → H → Type 0)
    (listed : P → List (List ℕ)) (is_eager : P → ℕ → Bool)
    (inbound_leads outbound_leads : P → ℕ → List ℕ → H → P → Type 0) (start : P) (role : ConnRole) (own : Key) where
  counted : (calls : List ConnAct) (answers : List (ConnAnswer H)) (first last : Point H) → AnswersAll step fails is_closed is_finished inbound_makes outbound_makes listed is_eager inbound_leads outbound_leads start role own first calls answers last → IsBehind first calls answers last
  counted [] [] first last all = subst (λ (p : Point H). IsBehind first [] [] p) (sym all) (at_once first)
  counted [] (answer ∷ answers) first last all = absurd all
  counted (call ∷ calls) [] first last all = absurd all
  counted (Feed bytes ∷ calls) (Events more ∷ answers) (At input ended log told owed) last all =
      on_from input (input ++ bytes.items) ended false [] log all.1.0.1.0 told (told ++ more.items) owed [] (Feed bytes ∷ calls) calls (Events more ∷ answers) answers last
      (append_assoc input bytes.items (fed_by calls answers)) all.1.0.1.1 refl (append_assoc told more.items (told_by answers))
      (subst (λ (p : Point H). IsBehind p calls answers last) all.1.0.1.2 (counted calls answers all.0 last all.2))
  counted (Feed bytes ∷ calls) (Refused why ∷ answers) (At input ended log told owed) last all =
      stayed input ended log told owed (Feed bytes ∷ calls) calls (Refused why ∷ answers) answers all.0 last refl refl refl
      (turned_away told why (At input ended log told owed) all.0 all.1.0) (counted calls answers all.0 last all.2)
  counted (Feed bytes ∷ calls) (Stream n ∷ answers) (At input ended log told owed) last all = absurd all.1.0
  counted (Ask index ∷ calls) (Stream n ∷ answers) (At input ended log told owed) last all =
      on_from input input ended false ((n, index) ∷ []) log all.1.0.1.2 told told owed (owed ++ all.1.0.1.0) (Ask index ∷ calls) calls (Stream n ∷ answers) answers last
      refl (one_opened n index log all.1.0.1.2 all.1.0.1.3) refl refl
      (subst (λ (p : Point H). IsBehind p calls answers last) all.1.0.1.4 (counted calls answers all.0 last all.2))
  counted (Ask index ∷ calls) (Refused why ∷ answers) (At input ended log told owed) last all =
      stayed input ended log told owed (Ask index ∷ calls) calls (Refused why ∷ answers) answers all.0 last refl refl refl
      (unchanged why (At input ended log told owed) all.0 all.1.0.1) (counted calls answers all.0 last all.2)
  counted (Ask index ∷ calls) (Events more ∷ answers) (At input ended log told owed) last all = absurd all.1.0
  counted (Ended ∷ calls) (Events more ∷ answers) (At input ended log told owed) last all =
      on_from input input ended true [] log log told (told ++ more.items) owed [] (Ended ∷ calls) calls (Events more ∷ answers) answers last
      refl (stays log) refl (append_assoc told more.items (told_by answers))
      (subst (λ (p : Point H). IsBehind p calls answers last) all.1.0.1 (counted calls answers all.0 last all.2))
  counted (Ended ∷ calls) (Refused why ∷ answers) (At input ended log told owed) last all =
      stayed input ended log told owed (Ended ∷ calls) calls (Refused why ∷ answers) answers all.0 last refl refl refl
      (turned_away told why (At input ended log told owed) all.0 all.1.0) (counted calls answers all.0 last all.2)
  counted (Ended ∷ calls) (Stream n ∷ answers) (At input ended log told owed) last all = absurd all.1.0
  counted (call ∷ calls) (answer ∷ answers) (Spent v) last all =
      from_spent v (Spent v) (call ∷ calls) calls (answer ∷ answers) answers last (subst (λ (p : Point H). IsBehind p calls answers last) all.1.1 (counted calls answers all.0 last all.2))

  pub all_is_counted : AllIsCounted step fails is_closed is_finished inbound_makes outbound_makes listed is_eager inbound_leads outbound_leads start role own
  all_is_counted calls answers input ended log told owed all =
      let it = counted calls answers (At [] false [] [] []) (At input ended log told owed) all in
      (it.0, ap (λ (l : List (Entry H)). asks l) (it.1.now_is ∙ append-nil it.1.newer) ∙ it.1.opened_are, it.2)

  pub past_stays : PastStays step fails is_closed is_finished inbound_makes outbound_makes listed is_eager inbound_leads outbound_leads start role own
  past_stays calls answers input input_then ended ended_then log log_then told told_then owed owed_then all =
      (counted calls answers (At input ended log told owed) (At input_then ended_then log_then told_then owed_then) all).1

  pub each_is_answered : EachIsAnswered step fails is_closed is_finished inbound_makes outbound_makes listed is_eager inbound_leads outbound_leads start role own
  each_is_answered [] [] first last all = refl
  each_is_answered [] (answer ∷ answers) first last all = absurd all
  each_is_answered (call ∷ calls) [] first last all = absurd all
  each_is_answered (call ∷ calls) (answer ∷ answers) first last all = ap suc (each_is_answered calls answers all.0 last all.2)
