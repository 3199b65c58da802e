-- A connection that is up goes on, or meets a fault.
use Rattle.std.proofs.Common.{◌≡◌, ℕ, Bool, true, false, List, [], ◌∷◌, ◌++◌, map, Option, refl, sym, ap, ◌∙◌, subst}
use Rattle.std.proofs.lemmas.List.{append_assoc, append-nil}
use Rattle.std.specs.Ordering.{nat_cmp}
use Rattle.std.specs.BTreeMap as tree
use Rattle.handlers.specs.Calls.{HandlerCall, Asked}
use Rattle.peer_ids.specs.Key.{Key}
use Rattle.peer_ids.specs.PeerId.{id_of}
use Rattle.upgrade.specs.declared.role.ConnRole.{ConnRole}
use Rattle.yamux_session.specs.declared.event.Role.{Role}
use Rattle.yamux_session.specs.History.Item.{Came}
use Rattle.yamux_session.specs.Events.{Told, events}
use Rattle.yamux_session.specs.Output.{output}
use Rattle.yamux_session.specs.State.{State, Stands as SessionStands}
use Rattle.streams.specs.State.{Streaming}
use Rattle.conn_log.specs.declared.earlier.Earlier.{Earlier}
use Rattle.conn_log.specs.declared.event.ConnEvent.{ConnEvent}
use Rattle.conn_log.specs.declared.event.ConnEvent.TheVariants as event
use Rattle.conn_log.specs.declared.event.ConnFault.TheVariants as fault
use Rattle.conn_log.specs.Entries.{Entry, items, said}
use Rattle.conn_log.specs.Making.{AreMadeInTurn, MakesOn}
use Rattle.conn_log.specs.Rests.{AreAtRest, AreRested, Grows}
use Rattle.conn_log.proofs.Settling.{said_append}
use Rattle.conn_log.proofs.Early.{early_grows}
use Rattle.held_order.specs.Orders.{newest_held}
use Rattle.board.specs.Boards.{MakesInOrder, MakesOnBoard}
use Rattle.mux.specs.Faults.{Faults}
use Rattle.mux.proofs.Framing.{faults_made}
use Rattle.mux.specs.declared.mux.Mux.{Mux}
use Rattle.conn_core.specs.Connects.{IsUp, IsUpWith, IsFaulty, IsGrown, TellsFirst, session_role}

-- what is said of a board is said of what it is known to be
pub as_known : (e known_e : ℕ → Bool) (n known_n : List (List ℕ)) (p known_p : List ℕ) (r known_r : Role) → e ≡ known_e → n ≡ known_n → p ≡ known_p → r ≡ known_r
    → (Q : (ℕ → Bool) → List (List ℕ) → List ℕ → Role → Type 0) → Q e n p r → Q known_e known_n known_p known_r
as_known e known_e n known_n p known_p r known_r e_is n_is p_is r_is Q q =
    subst (λ (x : ℕ → Bool). Q x known_n known_p known_r) e_is (subst (λ (x : List (List ℕ)). Q e x known_p known_r) n_is
    (subst (λ (x : List ℕ). Q e n x known_r) p_is (subst (λ (x : Role). Q e n p x) r_is q)))

module _ {P H : Type 0} (step : H → HandlerCall → H → Type 0) (fails : H → Asked → ℕ → Type 0)
    (is_closed is_finished : H → Bool) (inbound_makes outbound_makes : P → ℕ → List ℕ → H → Type 0)
    (listed : P → List (List ℕ)) (is_eager : P → ℕ → Bool)
    (inbound_leads outbound_leads : P → ℕ → List ℕ → H → P → Type 0) (start : P) (role : ConnRole) (own : Key) where
  -- what was fed led the list on, and what the session wrote was moved
  pub up_on : (input piece : List ℕ) (log : List (Entry H)) (before old new : List (ConnEvent H)) (written : List ℕ) (session between after : State) (streams later : ℕ → Option (Streaming H)) (past last : List (Earlier H))
      (up : IsUp step fails is_closed is_finished inbound_makes outbound_makes listed is_eager inbound_leads outbound_leads start role own input log (before ++ old) written session streams past)
      (behind : P) (order then : List ℕ)
      (g : Grows step fails is_closed is_finished inbound_makes outbound_makes (is_eager start) (listed start) (id_of up.key) (session_role role)
      (MakesInOrder inbound_leads outbound_leads (id_of up.key) (session_role role) up.now behind order then) log old new (up.rest ++ piece)
      (output (session_role role) (items log)) between later last)
      → order ≡ newest_held (session_role role) log
      → SessionStands (session_role role) (items (g.newer ++ log)) (up.rest ++ piece) (output (session_role role) (items log) ++ between.pending) after
      → (x : IsUp step fails is_closed is_finished inbound_makes outbound_makes listed is_eager inbound_leads outbound_leads start role own (input ++ piece) (g.newer ++ log) (before ++ new) (written ++ between.pending) after later last)
      × (x.key ≡ up.key) × (x.now ≡ behind) × (then ≡ newest_held (session_role role) (g.newer ++ log))
  up_on input piece log before old new written session between after streams later past last up behind order then g held there =
      let now = g.newer ++ log in
      let sent = output (session_role role) (items log) in
      let all_sent : sent ++ between.pending ≡ output (session_role role) (items now) = g.at_rest.session_stands.output in (
        record {
          key = up.key;
          first = up.first;
          rest = up.rest ++ piece;
          greeting = up.greeting;
          input_is = ap (λ t. t ++ piece) up.input_is ∙ append_assoc up.first up.rest piece;
          upgraded = up.upgraded;
          at_rest = record {
            session_stands = subst (λ (t : List ℕ). SessionStands (session_role role) (items now) (up.rest ++ piece) t after) all_sent there;
            due = g.at_rest.due;
            in_turn = g.at_rest.in_turn;
            each = g.at_rest.each;
            live_held = g.at_rest.live_held;
            made_held = g.at_rest.made_held;
            resets_told = g.at_rest.resets_told;
            earlier = g.at_rest.earlier;
            past_is = g.at_rest.past_is;
          };
          rested = g.rested up.rested;
          early = early_grows (is_eager start) g.newer log g.unasked up.early;
          now = behind;
          makes = g.makes.0 start up.makes;
          told_is = ap (λ t. before ++ t) g.told_is ∙ sym (append_assoc before old (said g.newer)) ∙ ap (λ t. t ++ said g.newer) up.told_is ∙ ap (λ t. event.Upgraded up.key ∷ t) (sym (said_append g.newer log));
          written_is = ap (λ t. t ++ between.pending) up.written_is ∙ append_assoc up.greeting sent between.pending ∙ ap (λ t. up.greeting ++ t) all_sent;
        },
        refl,
        refl,
        g.makes.1 held,
      )

  -- a fault was met by what was fed
  pub up_faults : (input piece : List ℕ) (log : List (Entry H)) (before old new all : List (ConnEvent H)) (written pending : List ℕ) (session : State) (streams : ℕ → Option (Streaming H)) (past : List (Earlier H))
      (up : IsUp step fails is_closed is_finished inbound_makes outbound_makes listed is_eager inbound_leads outbound_leads start role own input log (before ++ old) written session streams past)
      (behind : P) (then : ℕ → Option (Streaming H)) (later : List (Earlier H))
      (f : Faults step fails is_closed is_finished inbound_makes outbound_makes (is_eager start) (listed start) (id_of up.key) (session_role role)
      (MakesOn inbound_leads outbound_leads (id_of up.key) (session_role role) up.now behind) log [] old new up.rest piece
      (output (session_role role) (items log)) pending then later)
      → all ≡ new ++ event.Fault fault.Mux ∷ []
      → IsFaulty step fails is_closed is_finished inbound_makes outbound_makes listed is_eager inbound_leads outbound_leads start role own (input ++ piece) (f.newer ++ log) (before ++ all) (written ++ pending)
  up_faults input piece log before old new all written pending session streams past up behind then later f all_is =
      let now = f.newer ++ log in
      let sent = output (session_role role) (items log) in
      let logs : now ≡ now ++ [] = sym (append-nil now) in
      record {
        key = up.key;
        first = up.first;
        rest = up.rest ++ piece;
        greeting = up.greeting;
        sent = sent;
        pending = pending;
        streams = then;
        past = later;
        before = before ++ new;
        now = behind;
        input_is = ap (λ t. t ++ piece) up.input_is ∙ append_assoc up.first up.rest piece;
        upgraded = up.upgraded;
        faults = record {
          newer = now;
          makes = λ first first_is. subst (λ (t : List (Entry H)). AreMadeInTurn inbound_leads outbound_leads (id_of up.key) (session_role role) first t behind) logs
              (f.makes first (subst (λ (p : P). AreMadeInTurn inbound_leads outbound_leads (id_of up.key) (session_role role) p log up.now) first_is up.makes));
          rested = λ none. subst (λ t. AreRested step fails is_closed is_finished inbound_makes outbound_makes (is_eager start) (listed start) (id_of up.key) (session_role role) t) logs (f.rested up.rested);
          asks_are = refl;
          told_is = ap (λ t. before ++ t) f.told_is ∙ sym (append_assoc before old (said f.newer)) ∙ ap (λ t. t ++ said f.newer) up.told_is ∙ ap (λ t. event.Upgraded up.key ∷ t) (sym (said_append f.newer log));
          front = up.rest ++ f.front;
          rest = f.rest;
          bytes_are = ap (λ t. up.rest ++ t) f.bytes_are ∙ sym (append_assoc up.rest f.front f.rest);
          session = f.session;
          at_rest = subst (λ t. AreAtRest step fails is_closed is_finished inbound_makes outbound_makes (is_eager start) (listed start) (id_of up.key) (session_role role) t (up.rest ++ f.front) sent f.session then later) logs f.at_rest;
          now = f.now;
          came = (f.came.0, f.came.1 ∙ ap (λ t. map Came f.came.0 ++ items t) logs);
          fault = f.fault;
          alone = (f.alone.0, f.alone.1 ∙ ap (λ t. events (session_role role) (items t) ++ Told.Fault f.alone.0 ∷ []) logs);
          frames = f.frames;
          output_is = f.output_is;
        };
        log_is = refl;
        early = early_grows (is_eager start) f.newer log f.asks_are up.early;
        told_is = ap (λ t. before ++ t) all_is ∙ sym (append_assoc before new (event.Fault fault.Mux ∷ []));
        written_is = ap (λ t. t ++ pending) up.written_is ∙ append_assoc up.greeting sent pending;
      }

  -- what its board has grown by is said of what it is known to be
  pub grown_as_known : (input taken waiting piece : List ℕ) (log : List (Entry H)) (before old new : List (ConnEvent H)) (mux after : Mux P H)
      (upw : IsUpWith step fails is_closed is_finished inbound_makes outbound_makes listed is_eager inbound_leads outbound_leads start role own input log (before ++ old) (taken ++ waiting) mux)
      → ((longer : List (Entry H)) (fed sent : List ℕ) → AreAtRest step fails is_closed is_finished inbound_makes outbound_makes (is_eager mux.board.protocols) (listed mux.board.protocols) mux.board.peer mux.board.role longer fed sent mux.session (tree.get nat_cmp mux.board.streams) mux.board.past.items
      → after.session.failed ≡ false
      → Grows step fails is_closed is_finished inbound_makes outbound_makes (is_eager mux.board.protocols) (listed mux.board.protocols) mux.board.peer mux.board.role (MakesOnBoard inbound_leads outbound_leads mux.board after.board) longer old new (fed ++ piece) sent after.session (tree.get nat_cmp after.board.streams) after.board.past.items)
      → after.session.failed ≡ false
      → Grows step fails is_closed is_finished inbound_makes outbound_makes (is_eager start) (listed start) (id_of upw.3.0.key) (session_role role)
      (MakesInOrder inbound_leads outbound_leads (id_of upw.3.0.key) (session_role role) upw.3.0.now after.board.protocols mux.board.order after.board.order) log old new (upw.3.0.rest ++ piece)
      (output (session_role role) (items log)) after.session (tree.get nat_cmp after.board.streams) after.board.past.items
  grown_as_known input taken waiting piece log before old new mux after upw goes still =
      let board = mux.board in
      let up = upw.3.0 in
      let sent = output (session_role role) (items log) in
      let later = tree.get nat_cmp after.board.streams in
      let grows = as_known (is_eager board.protocols) (is_eager start) (listed board.protocols) (listed start) board.peer (id_of up.key) board.role (session_role role) upw.1 upw.0 upw.3.1 upw.2
      (λ e n p r. AreAtRest step fails is_closed is_finished inbound_makes outbound_makes e n p r log up.rest sent mux.session (tree.get nat_cmp board.streams) board.past.items
      → after.session.failed ≡ false
      → Grows step fails is_closed is_finished inbound_makes outbound_makes e n p r (MakesInOrder inbound_leads outbound_leads p r board.protocols after.board.protocols board.order after.board.order) log old new (up.rest ++ piece) sent after.session
      later after.board.past.items)
      (goes log up.rest sent) up.at_rest still in
      subst (λ q. Grows step fails is_closed is_finished inbound_makes outbound_makes (is_eager start) (listed start) (id_of up.key) (session_role role)
      (MakesInOrder inbound_leads outbound_leads (id_of up.key) (session_role role) q after.board.protocols board.order after.board.order) log old new (up.rest ++ piece) sent after.session
      later after.board.past.items) upw.3.2 grows

  -- what the session wrote was moved behind what waited, and what was told stands behind what was told before
  pub up_breaks : (input piece taken waiting moved : List ℕ) (log : List (Entry H)) (before old new : List (ConnEvent H)) (mux after : Mux P H)
      → IsUpWith step fails is_closed is_finished inbound_makes outbound_makes listed is_eager inbound_leads outbound_leads start role own input log (before ++ old) (taken ++ waiting) mux
      → ((log : List (Entry H)) (fed sent : List ℕ) → AreAtRest step fails is_closed is_finished inbound_makes outbound_makes (is_eager mux.board.protocols) (listed mux.board.protocols) mux.board.peer mux.board.role log fed sent mux.session (tree.get nat_cmp mux.board.streams) mux.board.past.items
      → after.session.failed ≡ true
      → Faults step fails is_closed is_finished inbound_makes outbound_makes (is_eager mux.board.protocols) (listed mux.board.protocols) mux.board.peer mux.board.role (MakesOnBoard inbound_leads outbound_leads mux.board after.board) log [] old new fed piece sent after.session.pending (tree.get nat_cmp after.board.streams) after.board.past.items)
      → after.session.failed ≡ true → moved ≡ waiting ++ after.session.pending
      → (now : List (Entry H)) × IsGrown [] log now
      × IsFaulty step fails is_closed is_finished inbound_makes outbound_makes listed is_eager inbound_leads outbound_leads start role own (input ++ piece) now (before ++ (new ++ event.Fault fault.Mux ∷ [])) (taken ++ moved)
      × TellsFirst old (new ++ event.Fault fault.Mux ∷ [])
  up_breaks input piece taken waiting moved log before old new mux after upw faults_by failed moved_is =
      let board = mux.board in
      let up = upw.3.0 in
      let sent = output (session_role role) (items log) in
      let streams = tree.get nat_cmp board.streams in
      let then = tree.get nat_cmp after.board.streams in
      let later = after.board.past.items in
      let faults = as_known (is_eager board.protocols) (is_eager start) (listed board.protocols) (listed start) board.peer (id_of up.key) board.role (session_role role) upw.1 upw.0 upw.3.1 upw.2
      (λ e n p r. AreAtRest step fails is_closed is_finished inbound_makes outbound_makes e n p r log up.rest sent mux.session streams board.past.items
      → after.session.failed ≡ true
      → Faults step fails is_closed is_finished inbound_makes outbound_makes e n p r (MakesInOrder inbound_leads outbound_leads p r board.protocols after.board.protocols board.order after.board.order) log [] old new up.rest piece sent after.session.pending then later)
      (faults_by log up.rest sent) up.at_rest failed in
      let made = faults_made step fails is_closed is_finished inbound_makes outbound_makes (is_eager start) (listed start) (id_of up.key) (session_role role)
      (MakesInOrder inbound_leads outbound_leads (id_of up.key) (session_role role) board.protocols after.board.protocols board.order after.board.order)
      (MakesOn inbound_leads outbound_leads (id_of up.key) (session_role role) board.protocols after.board.protocols) log [] old new up.rest piece sent after.session.pending then later (λ longer both. both.0) faults in
      let from_now = subst (λ q. Faults step fails is_closed is_finished inbound_makes outbound_makes (is_eager start) (listed start) (id_of up.key) (session_role role)
      (MakesOn inbound_leads outbound_leads (id_of up.key) (session_role role) q after.board.protocols) log [] old new up.rest piece sent after.session.pending then later) upw.3.2 made in
      let it = up_faults input piece log before old new (new ++ event.Fault fault.Mux ∷ []) (taken ++ waiting) after.session.pending mux.session streams board.past.items up after.board.protocols then later from_now refl in
      let written : (taken ++ waiting) ++ after.session.pending ≡ taken ++ moved = append_assoc taken waiting after.session.pending ∙ ap (λ (t : List ℕ). taken ++ t) (sym moved_is) in (
        from_now.newer ++ log,
        record { newer = from_now.newer; now_is = refl; opened_are = from_now.asks_are },
        subst (λ (t : List ℕ). IsFaulty step fails is_closed is_finished inbound_makes outbound_makes listed is_eager inbound_leads outbound_leads start role own (input ++ piece) (from_now.newer ++ log) (before ++ (new ++ event.Fault fault.Mux ∷ [])) t) written it,
        (said from_now.newer ++ event.Fault fault.Mux ∷ [], ap (λ t. t ++ event.Fault fault.Mux ∷ []) from_now.told_is ∙ append_assoc old (said from_now.newer) (event.Fault fault.Mux ∷ [])),
      )
