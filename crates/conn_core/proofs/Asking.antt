-- A stream was opened for a protocol that was asked for.
use Rattle.std.proofs.Common.{◌≡◌, ◌<◌, ◌≤◌, ◌⊎◌, inl, inr, ℕ, Bool, true, false, List, ◌∷◌, ◌++◌, Option, Result, Ok, Err, refl, sym, ap, ◌∙◌, subst, arith, nat_lt}
use Rattle.std.specs.Prelude.{IfOk, IfErr}
use Rattle.std.proofs.lemmas.Bool.Decides.{nat_tests}
use Rattle.std.proofs.lemmas.List.{append_assoc}
use Rattle.std.proofs.lemmas.Result.{IfOk-weaker, IfErr-weaker}
use Rattle.handlers.specs.Calls.{HandlerCall, Asked as AskedFor}
use Rattle.peer_ids.specs.Key.{Key}
use Rattle.peer_ids.specs.PeerId.{id_of}
use Rattle.upgrade.specs.declared.role.ConnRole.{ConnRole}
use Rattle.yamux_session.specs.Output.{output}
use Rattle.yamux_session.specs.State.{State, Stands as SessionStands}
use Rattle.streams.specs.State.{Streaming}
use Rattle.conn_log.specs.declared.earlier.Earlier.{Earlier}
use Rattle.conn_log.specs.declared.event.ConnEvent.{ConnEvent}
use Rattle.conn_log.specs.declared.event.ConnRefused.{ConnRefused}
use Rattle.conn_log.specs.declared.event.ConnRefused.TheVariants as refusals
use Rattle.conn_log.specs.declared.event.ConnEvent.TheVariants as event
use Rattle.conn_log.specs.Entries.{Entry, items, said}
use Rattle.conn_log.specs.Entries.Entry.{Asks}
use Rattle.conn_log.specs.Asked.{Asked}
use Rattle.conn_log.proofs.Settling.{said_append}
use Rattle.conn_log.proofs.Early.{early_asked}
use Rattle.held_order.specs.Orders.{newest_held}
use Rattle.board.specs.Boards.{MakesInOrder}
use Rattle.conn_core.specs.declared.connection.Phase.{Phase}
use Rattle.conn_core.specs.declared.connection.Phase.TheVariants as phases
use Rattle.conn_core.specs.Connects.{IsUp, IsRefused, session_role}

pub refused_none : {A E : Type 0} (Q : A → Type 0) (r : Result A E) (why : E) → r ≡ Err why → IfOk r Q
refused_none Q (Ok x) why is = absurd (cc is)
refused_none Q (Err e) why is = tt

pub ok_on : {A E : Type 0} (Q R : A → Type 0) (now then : Result A E) → now ≡ then → ((x : A) → R x → Q x) → IfOk then R → IfOk now Q
ok_on {A = A} {E = E} Q R now then is f r = subst (λ (t : Result A E). IfOk t Q) (sym is) (IfOk-weaker then R Q f r)

pub refused_on : {A E : Type 0} (Q : E → Type 0) (now then : Result A E) → now ≡ then → IfErr then Q → IfErr now Q
refused_on {A = A} {E = E} Q now then is holds = subst (λ (t : Result A E). IfErr t Q) (sym is) holds

pub refused_as : {A E : Type 0} (Q : E → Type 0) (now : Result A E) (why : E) → now ≡ Err why → Q why → IfErr now Q
refused_as Q now why is holds = refused_on Q now (Err why) is holds

pub over_refused : {P H : Type 0} (listed : P → List (List ℕ)) (phase : Phase P H) (index : ℕ)
    → (phase ≡ phases.Over) ⊎ (phase ≡ phases.Spent) → IsRefused listed phase index refusals.Failed
over_refused listed phase index (inl is) = subst (λ (x : Phase _ _). IsRefused listed x index refusals.Failed) (sym is) refl
over_refused listed phase index (inr is) = subst (λ (x : Phase _ _). IsRefused listed x index refusals.Failed) (sym is) refl

-- no protocol has this index, or the session opens no stream
pub up_refused : {A : Type 0} (count index : ℕ) (r : Result A ConnRefused) (Q : ConnRefused → Type 0)
    → (count ≤ index → r ≡ Err refusals.BadIndex) → (index < count → IfErr r Q)
    → IfErr r (λ why. ((count ≤ index) × (why ≡ refusals.BadIndex)) ⊎ ((index < count) × Q why))
up_refused {A = A} count index r Q outside within = by (nat_lt index count) refl
  where
    Refused : ConnRefused → Type 0
    Refused why = ((count ≤ index) × (why ≡ refusals.BadIndex)) ⊎ ((index < count) × Q why)

    by : (b : Bool) → nat_lt index count ≡ b → IfErr r Refused
    by true is =
        let less : index < count = grind (arith, nat_tests, is) in
        IfErr-weaker r Q Refused (λ why holds. inr (less, holds)) (within less)
    by false is =
        let more : count ≤ index = grind (arith, nat_tests, is) in
        refused_as Refused r refusals.BadIndex (outside more) (inl (more, refl))

module _ {P H : Type 0} (step : H → HandlerCall → H → Type 0) (fails : H → AskedFor → ℕ → Type 0)
    (is_closed is_finished : H → Bool) (inbound_makes outbound_makes : P → ℕ → List ℕ → H → Type 0)
    (listed : P → List (List ℕ)) (is_eager : P → ℕ → Bool)
    (inbound_leads outbound_leads : P → ℕ → List ℕ → H → P → Type 0) (start : P) (role : ConnRole) (own : Key) where
  -- the list has grown by the opening and what followed it, and what the session wrote was moved
  pub up_asked : (input : List ℕ) (log : List (Entry H)) (number index : ℕ) (before old new : List (ConnEvent H)) (written : List ℕ) (session between after : State)
      (streams later : ℕ → Option (Streaming H)) (past last : List (Earlier H))
      (up : IsUp step fails is_closed is_finished inbound_makes outbound_makes listed is_eager inbound_leads outbound_leads start role own input log (before ++ old) written session streams past)
      (behind : P) (order then : List ℕ)
      (a : Asked step fails is_closed is_finished inbound_makes outbound_makes (is_eager start) (listed start) (id_of up.key) (session_role role)
      (MakesInOrder inbound_leads outbound_leads (id_of up.key) (session_role role) up.now behind order then) number index log old new up.rest
      (output (session_role role) (items log)) between later last)
      → order ≡ newest_held (session_role role) log
      → SessionStands (session_role role) (items (a.later ++ Asks number index ∷ log)) up.rest (output (session_role role) (items log) ++ between.pending) after
      → (x : IsUp step fails is_closed is_finished inbound_makes outbound_makes listed is_eager inbound_leads outbound_leads start role own input (a.later ++ Asks number index ∷ log) (before ++ new) (written ++ between.pending)
      after later last) × (x.key ≡ up.key) × (x.now ≡ behind) × (then ≡ newest_held (session_role role) (a.later ++ Asks number index ∷ log))
  up_asked input log number index before old new written session between after streams later past last up behind order then a held there =
      let opened = Asks number index ∷ log in
      let now = a.later ++ opened in
      let sent = output (session_role role) (items log) in
      let all_sent : sent ++ between.pending ≡ output (session_role role) (items now) = a.at_rest.session_stands.output in (
        record {
          key = up.key;
          first = up.first;
          rest = up.rest;
          greeting = up.greeting;
          input_is = up.input_is;
          upgraded = up.upgraded;
          at_rest = record {
            session_stands = subst (λ (t : List ℕ). SessionStands (session_role role) (items now) up.rest t after) all_sent there;
            due = a.at_rest.due;
            in_turn = a.at_rest.in_turn;
            each = a.at_rest.each;
            live_held = a.at_rest.live_held;
            made_held = a.at_rest.made_held;
            resets_told = a.at_rest.resets_told;
            earlier = a.at_rest.earlier;
            past_is = a.at_rest.past_is;
          };
          rested = a.rested up.rested;
          early = early_asked (is_eager start) a.later log number index a.alone a.at_once up.early;
          now = behind;
          makes = a.makes.0 start up.makes;
          told_is = ap (λ t. before ++ t) a.told_is ∙ sym (append_assoc before old (said a.later)) ∙ ap (λ t. t ++ said a.later) up.told_is ∙ ap (λ t. event.Upgraded up.key ∷ t) (sym (said_append a.later opened));
          written_is = ap (λ t. t ++ between.pending) up.written_is ∙ append_assoc up.greeting sent between.pending ∙ ap (λ t. up.greeting ++ t) all_sent;
        },
        refl,
        refl,
        a.makes.1 held,
      )
