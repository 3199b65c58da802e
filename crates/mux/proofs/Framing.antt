-- What one frame comes to.
use Rattle.std.proofs.Common.{◌≡◌, ℕ, Bool, true, false, List, [], ◌∷◌, ◌++◌, map, take, Option, refl, sym, ap, ◌∙◌, subst, arith}
use Rattle.std.specs.List.{AllByRecursion}
use Rattle.std.proofs.lemmas.List.{append_assoc, append-nil, length-append, take-append-le}
use Rattle.handlers.specs.Calls.{HandlerCall, Asked}
use Rattle.yamux_frames.specs.Frames.{Arrival}
use Rattle.yamux_session.specs.declared.event.Role.{Role}
use Rattle.yamux_session.specs.declared.event.Event.{Event}
use Rattle.yamux_session.specs.declared.event.Event.TheVariants as event
use Rattle.yamux_session.specs.declared.event.Fault.{Fault}
use Rattle.yamux_session.specs.History.{Item, arrivals}
use Rattle.yamux_session.specs.History.Item.{Came}
use Rattle.yamux_session.specs.Arrives.{tellings, HasData}
use Rattle.yamux_session.specs.Events.{Told, events}
use Rattle.yamux_session.specs.Naming.{IsNoData as HoldsNoData, NamesOne}
use Rattle.yamux_session.specs.Seen.{TellsFrom}
use Rattle.yamux_session.specs.State.{State, Stands as SessionStands, Led, EndsWith, IsOneFrame}
use Rattle.streams.specs.State.{Streaming}
use Rattle.conn_log.specs.declared.earlier.Earlier.{Earlier}
use Rattle.conn_log.specs.declared.event.ConnEvent.{ConnEvent}
use Rattle.conn_log.specs.Entries.{Entry, items, said}
use Rattle.conn_log.specs.Rests.{AreAtRest, AreRested, Grows}
use Rattle.conn_log.specs.Routes.{IsFor, IsNoData, Awaits}
use Rattle.conn_log.proofs.Arriving.{arrived, said_arrived, asks_arrived}
use Rattle.conn_log.proofs.Settling.{said_append, none_asked}
use Rattle.conn_log.proofs.Heads.{rested_arrived}
use Rattle.conn_log.proofs.Facing.{SessionLaws, faced}
use Rattle.mux.specs.Faults.{Faults}

-- events without data tell none
pub no_data_told : (told : List Event) → AllByRecursion HoldsNoData told → AllByRecursion IsNoData (tellings told)
no_data_told [] none = tt
no_data_told (event.Opened n ∷ told) none = (tt, no_data_told told none.1)
no_data_told (event.Accepted n ∷ told) none = (tt, no_data_told told none.1)
no_data_told (event.Payload n bytes ∷ told) none = absurd none.0
no_data_told (event.Ended n ∷ told) none = (tt, no_data_told told none.1)
no_data_told (event.Reset n ∷ told) none = (tt, no_data_told told none.1)
no_data_told (event.Credit n ∷ told) none = (tt, no_data_told told none.1)
no_data_told (event.GoAway code ∷ told) none = (tt, no_data_told told none.1)
no_data_told (event.Fault fault ∷ told) none = (tt, no_data_told told none.1)

module _ {P H : Type 0} (step : H → HandlerCall → H → Type 0) (fails : H → Asked → ℕ → Type 0)
    (is_closed is_finished : H → Bool) (inbound_makes outbound_makes : P → ℕ → List ℕ → H → Type 0)
    (eager : ℕ → Bool) (names : List (List ℕ)) (peer : List ℕ) (role : Role) where
  -- What is to be routed behind what arrived.
  pub record Framed (log : List (Entry H)) (fed bytes sent : List ℕ) (session : State) (streams : ℕ → Option (Streaming H)) (past : List (Earlier H)) (told : List Event) : Type 0 where
    pub came : List Arrival
    pub rested : AreRested step fails is_closed is_finished inbound_makes outbound_makes eager names peer role log
        → AreRested step fails is_closed is_finished inbound_makes outbound_makes eager names peer role (arrived came ++ log)
    pub stream : ℕ
    pub all_for : AllByRecursion (IsFor stream) told
    pub awaits : Awaits step fails is_closed is_finished inbound_makes outbound_makes eager names peer role (arrived came ++ log) (fed ++ bytes) sent session streams past stream (tellings told)

  module _ (log : List (Entry H)) (fed bytes sent : List ℕ) (before session : State) (streams : ℕ → Option (Streaming H)) (past : List (Earlier H))
      (rests : AreAtRest step fails is_closed is_finished inbound_makes outbound_makes eager names peer role log fed sent before streams past)
      (now : List Item) (told : List Event) (led : Led role (items log) now fed bytes sent (tellings told) session) where
    pub framed : SessionLaws → session.failed ≡ false → IsOneFrame led.came.0 → NamesOne told → AllByRecursion HasData told → Framed log fed bytes sent session streams past told
    framed laws going frame one filled =
        let came = led.came.0 in
        let now_is : now ≡ map Came came ++ items log = led.came.1 in
        let stands = led.goes_on going in
        let tells : TellsFrom role (items log) came (tellings told) = record {
          no_fault = subst (λ (t : List Item). Rattle.yamux_session.specs.Faults.HasNoFault role t) now_is stands.no_fault;
          told_is = sym (ap (λ (t : List Item). events role t) now_is) ∙ led.told_is;
        } in
        let there = subst (λ (t : List Item). SessionStands role t (fed ++ bytes) sent session) now_is stands in
        let it = faced step fails is_closed is_finished inbound_makes outbound_makes eager names peer role laws log fed sent (fed ++ bytes) before session streams past came told rests tells there frame one filled in
        record {
          came = came;
          rested = rested_arrived step fails is_closed is_finished inbound_makes outbound_makes eager names peer role came log frame
              (record { fed = fed; sent = sent; session = before; streams = streams; past = past; at_rest = rests });
          stream = it.stream;
          all_for = it.all_for;
          awaits = it.awaits;
        }

    pub faulted : (making : List (Entry H) → List (Entry H) → Type 0) → making log log → (telling : List (ConnEvent H)) → session.failed ≡ true → (fault : Fault) × (told ≡ event.Fault fault ∷ [])
        → Faults step fails is_closed is_finished inbound_makes outbound_makes eager names peer role making log [] telling telling fed bytes sent session.pending streams past
    faulted making kept telling failed alone =
        let f = led.fails failed in
        let fed_is : fed ++ [] ≡ fed = append-nil fed in
        record {
          newer = [];
          told_is = sym (append-nil telling);
          asks_are = refl;
          makes = kept;
          rested = λ was. was;
          front = [];
          rest = bytes;
          bytes_are = refl;
          session = before;
          at_rest = subst (λ (t : List ℕ). AreAtRest step fails is_closed is_finished inbound_makes outbound_makes eager names peer role log t sent before streams past) (sym fed_is) rests;
          now = now;
          came = led.came;
          fault = f.0;
          alone = (alone.0, led.told_is ∙ ap (λ (t : List Event). events role (items log) ++ tellings t) alone.1);
          frames = (f.2.0, f.2.1, subst (λ (t : List ℕ). EndsWith (t ++ take f.2.0 bytes) (arrivals now)) (sym fed_is) f.2.2);
          output_is = f.1;
        }

  -- what was routed behind what arrived
  pub grows_behind : (log : List (Entry H)) (came : List Arrival) (before after : List (ConnEvent H)) (fed sent : List ℕ) (session : State) (streams : ℕ → Option (Streaming H)) (past : List (Earlier H))
      → (making later : List (Entry H) → List (Entry H) → Type 0) → ((longer : List (Entry H)) → later (arrived came ++ log) longer → making log longer)
      → (AreRested step fails is_closed is_finished inbound_makes outbound_makes eager names peer role log
      → AreRested step fails is_closed is_finished inbound_makes outbound_makes eager names peer role (arrived came ++ log))
      → Grows step fails is_closed is_finished inbound_makes outbound_makes eager names peer role later (arrived came ++ log) before after fed sent session streams past
      → Grows step fails is_closed is_finished inbound_makes outbound_makes eager names peer role making log before after fed sent session streams past
  grows_behind log came before after fed sent session streams past making later joins rested g = record {
    newer = g.newer ++ arrived came;
    told_is = g.told_is ∙ ap (λ t. before ++ t) (sym (said_append g.newer (arrived came) ∙ ap (λ t. t ++ said g.newer) (said_arrived came)));
    unasked = none_asked g.newer (arrived came) g.unasked (asks_arrived H came);
    makes = subst (λ t. making log t) (sym (append_assoc g.newer (arrived came) log)) (joins (g.newer ++ (arrived came ++ log)) g.makes);
    rested = λ was. subst (λ t. AreRested step fails is_closed is_finished inbound_makes outbound_makes eager names peer role t) (sym (append_assoc g.newer (arrived came) log)) (g.rested (rested was));
    at_rest = subst (λ t. AreAtRest step fails is_closed is_finished inbound_makes outbound_makes eager names peer role t fed sent session streams past) (sym (append_assoc g.newer (arrived came) log)) g.at_rest;
  }

  -- two in turn
  pub grows_on : (log : List (Entry H)) (before middle after : List (ConnEvent H)) (fed first sent : List ℕ) (between session : State) (then streams : ℕ → Option (Streaming H))
      (past later : List (Earlier H))
      (making so_far one : List (Entry H) → List (Entry H) → Type 0) (joins : (longer last : List (Entry H)) → so_far log longer → one longer last → making log last)
      (g : Grows step fails is_closed is_finished inbound_makes outbound_makes eager names peer role so_far log before middle first sent between then past)
      → Grows step fails is_closed is_finished inbound_makes outbound_makes eager names peer role one (g.newer ++ log) middle after fed sent session streams later
      → Grows step fails is_closed is_finished inbound_makes outbound_makes eager names peer role making log before after fed sent session streams later
  grows_on log before middle after fed first sent between session then streams past later making so_far one joins g h = record {
    newer = h.newer ++ g.newer;
    told_is = h.told_is ∙ ap (λ t. t ++ said h.newer) g.told_is ∙ append_assoc before (said g.newer) (said h.newer) ∙ ap (λ t. before ++ t) (sym (said_append h.newer g.newer));
    unasked = none_asked h.newer g.newer h.unasked g.unasked;
    makes = subst (λ t. making log t) (sym (append_assoc h.newer g.newer log)) (joins (g.newer ++ log) (h.newer ++ (g.newer ++ log)) g.makes h.makes);
    rested = λ was. subst (λ t. AreRested step fails is_closed is_finished inbound_makes outbound_makes eager names peer role t) (sym (append_assoc h.newer g.newer log)) (h.rested (g.rested was));
    at_rest = subst (λ t. AreAtRest step fails is_closed is_finished inbound_makes outbound_makes eager names peer role t fed sent session streams later) (sym (append_assoc h.newer g.newer log)) h.at_rest;
  }

  -- nothing came yet
  pub grows_none : (making : List (Entry H) → List (Entry H) → Type 0) (log : List (Entry H)) → making log log → (told : List (ConnEvent H)) (fed sent : List ℕ) (session : State) (streams : ℕ → Option (Streaming H)) (past : List (Earlier H))
      → AreAtRest step fails is_closed is_finished inbound_makes outbound_makes eager names peer role log fed sent session streams past
      → Grows step fails is_closed is_finished inbound_makes outbound_makes eager names peer role making log told told (fed ++ []) sent session streams past
  grows_none making log kept told fed sent session streams past rests = record {
    newer = [];
    told_is = sym (append-nil told);
    unasked = refl;
    makes = kept;
    rested = λ was. was;
    at_rest = subst (λ (t : List ℕ). AreAtRest step fails is_closed is_finished inbound_makes outbound_makes eager names peer role log t sent session streams past) (sym (append-nil fed)) rests;
  }

  -- the fault came behind what had come before
  pub faults_behind : (log : List (Entry H)) (before middle after : List (ConnEvent H)) (fed first second sent pending : List ℕ) (between : State) (then streams : ℕ → Option (Streaming H)) (past later : List (Earlier H))
      (making so_far one : List (Entry H) → List (Entry H) → Type 0) (joins : (longer last : List (Entry H)) → so_far log longer → one longer last → making log last)
      (g : Grows step fails is_closed is_finished inbound_makes outbound_makes eager names peer role so_far log before middle (fed ++ first) sent between then past)
      → Faults step fails is_closed is_finished inbound_makes outbound_makes eager names peer role one (g.newer ++ log) [] middle after (fed ++ first) second sent pending streams later
      → Faults step fails is_closed is_finished inbound_makes outbound_makes eager names peer role making log [] before after fed (first ++ second) sent pending streams later
  faults_behind log before middle after fed first second sent pending between then streams past later making so_far one joins g f =
      let logs : f.newer ++ (g.newer ++ log) ≡ (f.newer ++ g.newer) ++ log = sym (append_assoc f.newer g.newer log) in
      let fronts : (fed ++ first) ++ f.front ≡ fed ++ (first ++ f.front) = append_assoc fed first f.front in
      record {
        newer = f.newer ++ g.newer;
        asks_are = none_asked f.newer g.newer f.asks_are g.unasked;
        makes = subst (λ t. making log t) logs (joins (g.newer ++ log) (f.newer ++ (g.newer ++ log)) g.makes f.makes);
        rested = λ was. subst (λ t. AreRested step fails is_closed is_finished inbound_makes outbound_makes eager names peer role t) logs (f.rested (g.rested was));
        told_is = f.told_is ∙ ap (λ t. t ++ said f.newer) g.told_is ∙ append_assoc before (said g.newer) (said f.newer) ∙ ap (λ t. before ++ t) (sym (said_append f.newer g.newer));
        front = first ++ f.front;
        rest = f.rest;
        bytes_are = ap (λ t. first ++ t) f.bytes_are ∙ sym (append_assoc first f.front f.rest);
        session = f.session;
        at_rest = subst (λ t. AreAtRest step fails is_closed is_finished inbound_makes outbound_makes eager names peer role t (fed ++ (first ++ f.front)) sent f.session streams later) logs
            (subst (λ (t : List ℕ). AreAtRest step fails is_closed is_finished inbound_makes outbound_makes eager names peer role (f.newer ++ (g.newer ++ log)) t sent f.session streams later) fronts f.at_rest);
        now = f.now;
        came = (f.came.0, f.came.1 ∙ ap (λ t. map Came f.came.0 ++ items t) logs);
        fault = f.fault;
        alone = (f.alone.0, f.alone.1 ∙ ap (λ t. events role (items t) ++ Told.Fault f.alone.0 ∷ []) logs);
        frames = (f.frames.0, f.frames.1, subst (λ (t : List ℕ). EndsWith (t ++ take f.frames.0 f.rest) (arrivals f.now)) fronts f.frames.2);
        output_is = f.output_is;
      }

  -- what follows the fault isn't read
  pub faults_before : (making : List (Entry H) → List (Entry H) → Type 0) (log : List (Entry H)) (before after : List (ConnEvent H)) (fed bytes more sent pending : List ℕ) (streams : ℕ → Option (Streaming H)) (past : List (Earlier H))
      → Faults step fails is_closed is_finished inbound_makes outbound_makes eager names peer role making log [] before after fed bytes sent pending streams past
      → Faults step fails is_closed is_finished inbound_makes outbound_makes eager names peer role making log [] before after fed (bytes ++ more) sent pending streams past
  faults_before making log before after fed bytes more sent pending streams past f = record {
    newer = f.newer;
    told_is = f.told_is;
    asks_are = f.asks_are;
    makes = f.makes;
    rested = f.rested;
    front = f.front;
    rest = f.rest ++ more;
    bytes_are = ap (λ t. t ++ more) f.bytes_are ∙ append_assoc f.front f.rest more;
    session = f.session;
    at_rest = f.at_rest;
    now = f.now;
    came = f.came;
    fault = f.fault;
    alone = f.alone;
    frames = (
      f.frames.0,
      (let fits = f.frames.1 in omega (arith, length-append {A = ℕ})),
      subst (λ (t : List ℕ). EndsWith ((fed ++ f.front) ++ t) (arrivals f.now)) (sym (take-append-le f.frames.0 f.rest more f.frames.1)) f.frames.2,
    );
    output_is = f.output_is;
  }

  -- what was made so was made as this says, too
  pub faults_made : (making other : List (Entry H) → List (Entry H) → Type 0) (log : List (Entry H)) (asked : List (ℕ × ℕ)) (before after : List (ConnEvent H)) (fed bytes sent pending : List ℕ) (streams : ℕ → Option (Streaming H)) (past : List (Earlier H))
      → ((longer : List (Entry H)) → making log longer → other log longer)
      → Faults step fails is_closed is_finished inbound_makes outbound_makes eager names peer role making log asked before after fed bytes sent pending streams past
      → Faults step fails is_closed is_finished inbound_makes outbound_makes eager names peer role other log asked before after fed bytes sent pending streams past
  faults_made making other log asked before after fed bytes sent pending streams past so f = record {
    newer = f.newer;
    told_is = f.told_is;
    asks_are = f.asks_are;
    makes = so (f.newer ++ log) f.makes;
    rested = f.rested;
    front = f.front;
    rest = f.rest;
    bytes_are = f.bytes_are;
    session = f.session;
    at_rest = f.at_rest;
    now = f.now;
    came = f.came;
    fault = f.fault;
    alone = f.alone;
    frames = f.frames;
    output_is = f.output_is;
  }
