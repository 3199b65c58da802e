-- What was routed, where something was told of it.
use Rattle.std.proofs.Common.{◌≡◌, inl, ℕ, Bool, true, false, not, ◌&&◌, List, [], ◌∷◌, ◌++◌, map, Option, Some, None, Result, Ok, Err, refl, sym, ap, ◌∙◌, subst}
use Rattle.std.specs.Prelude.{OnOk, IfSome, IsSome}
use Rattle.std.specs.List.{AllByRecursion}
use Rattle.std.proofs.lemmas.List.{append_assoc, append-nil}
use Rattle.handlers.specs.Calls.{HandlerCall, Asked}
use Rattle.yamux_session.specs.declared.event.Role.{Role}
use Rattle.yamux_session.specs.Events.{Told, events}
use Rattle.yamux_session.specs.Seen.{Seen, IsQuiet}
use Rattle.yamux_session.specs.State.{State}
use Rattle.streams.specs.State.{Streaming}
use Rattle.conn_log.specs.declared.earlier.Earlier.{Earlier}
use Rattle.conn_log.specs.declared.event.ConnEvent.{ConnEvent}
use Rattle.conn_log.specs.Entries.{Entry, items, is_over}
use Rattle.conn_log.specs.Entries.Entry.{Says}
use Rattle.conn_log.specs.Routes.{IsMoving, MayBeServed, Around, Routes, Routed}
use Rattle.conn_log.proofs.Crediting.{anew_by_credit}
use Rattle.conn_log.proofs.Settling.{said_append}
use Rattle.conn_log.proofs.Turning.{same_turns}
use Rattle.conn_log.proofs.Ending.{ended_view, end_came}
use Rattle.conn_log.proofs.Data.{with_bytes, data_came, bytes_reset}

pub on_ok : {A E P Q : Type 0} (r : Result A E) → (P → Q) → OnOk r P → OnOk r Q
on_ok (Ok x) f p = f p
on_ok (Err e) f p = tt

module _ {P H : Type 0} (step : H → HandlerCall → H → Type 0) (fails : H → Asked → ℕ → Type 0)
    (is_closed is_finished : H → Bool) (inbound_makes outbound_makes : P → ℕ → List ℕ → H → Type 0)
    (eager : ℕ → Bool) (names : List (List ℕ)) (peer : List ℕ) (role : Role) (log : List (Entry H)) (before after : List (ConnEvent H)) (fed sent : List ℕ) (session : State)
    (streams : ℕ → Option (Streaming H)) (past : List (Earlier H)) (n : ℕ) (rest : List Told) where
  -- nothing was told
  pub told_none : (making : List (Entry H) → List (Entry H) → Type 0) → making log log → (view : Seen) → after ≡ before
      → Routes step fails is_closed is_finished inbound_makes outbound_makes eager names peer role log fed sent session streams past n view rest
      → Routed step fails is_closed is_finished inbound_makes outbound_makes eager names peer role making log before after fed sent session streams past n rest
  told_none making kept view same r = record { newer = []; view = view; told_is = same ∙ sym (append-nil before); untold = refl; same_turn = tt; makes = kept; routes = r }

  pub told_at : (making : List (Entry H) → List (Entry H) → Type 0) (view : Seen) (told : ConnEvent H) → making log (Says told ∷ log) → after ≡ before ++ told ∷ []
      → Routes step fails is_closed is_finished inbound_makes outbound_makes eager names peer role (Says told ∷ log) fed sent session streams past n view rest
      → Routed step fails is_closed is_finished inbound_makes outbound_makes eager names peer role making log before after fed sent session streams past n rest
  told_at making view told kept is r = record { newer = Says told ∷ []; view = view; told_is = is; untold = refl; same_turn = tt; makes = kept; routes = r }

  -- the event was told before it was routed
  pub told_then : (making later : List (Entry H) → List (Entry H) → Type 0) (told : ConnEvent H) → ((longer : List (Entry H)) → later (Says told ∷ log) longer → making log longer) → after ≡ before ++ told ∷ []
      → Routed step fails is_closed is_finished inbound_makes outbound_makes eager names peer role later (Says told ∷ log) [] [] fed sent session streams past n rest
      → Routed step fails is_closed is_finished inbound_makes outbound_makes eager names peer role making log before after fed sent session streams past n rest
  told_then making later told joins is r = record {
    newer = r.newer ++ Says told ∷ [];
    view = r.view;
    told_is = is ∙ ap (λ t. before ++ t) (sym (said_append r.newer (Says told ∷ []) ∙ ap (λ t. (told ∷ []) ++ t) (sym r.told_is)));
    untold = ap (λ t. events role (items t)) (append_assoc r.newer (Says told ∷ []) log) ∙ r.untold;
    same_turn = same_turns r.newer (Says told ∷ []) r.same_turn tt;
    makes = subst (λ t. making log t) (sym (append_assoc r.newer (Says told ∷ []) log)) (joins (r.newer ++ (Says told ∷ log)) r.makes);
    routes = subst (λ t. Routes step fails is_closed is_finished inbound_makes outbound_makes eager names peer role t fed sent session streams past n r.view rest)
        (sym (append_assoc r.newer (Says told ∷ []) log)) r.routes;
  }

  -- credit was told, and nothing was done yet
  pub credit_came : (view : Seen) → Routes step fails is_closed is_finished inbound_makes outbound_makes eager names peer role log fed sent session streams past n view (Told.Credit n ∷ rest)
      → Around step fails is_closed is_finished inbound_makes outbound_makes eager names peer role log fed sent session streams past n view rest
  credit_came view r = record {
    session_stands = r.around.session_stands;
    due = r.around.due;
    others = r.around.others;
    others_held = r.around.others_held;
    others_kept = r.around.others_kept;
    resets_told = r.around.resets_told;
    reset_came = r.around.reset_came;
    end_told = r.around.end_told;
    end_came = r.around.end_came;
    heard = r.around.heard;
    opens_none = r.around.opens_none.1;
    ends_last = r.around.ends_last.0;
    earlier = r.around.earlier;
    past_is = r.around.past_is;
    in_turn = r.around.in_turn;
    turn_is = r.around.turn_is;
  }

  -- by the credit that was told the stream that is named may be served
  pub may_serve : (view : Seen) (r : Option (Streaming H)) → AllByRecursion (IsQuiet n) rest
      → IfSome r (λ it. IsMoving step fails is_closed is_finished inbound_makes outbound_makes eager names peer role log n view (Told.Credit n ∷ rest) it)
      → IfSome r (MayBeServed step fails is_closed is_finished inbound_makes outbound_makes eager names peer role log n view rest)
  may_serve view None quiet moving = tt
  may_serve view (Some it) quiet moving =
      record { held = moving.held; over_by_end = moving.over_by_end; last = inl quiet; anew = λ open_still. anew_by_credit n rest moving.anew; handed = moving.handed }

  -- the end of a stream that isn't held
  pub end_dropped : (making : List (Entry H) → List (Entry H) → Type 0) → making log log → (view : Seen) → after ≡ before → streams n ≡ None
      → Routes step fails is_closed is_finished inbound_makes outbound_makes eager names peer role log fed sent session streams past n view (Told.Ended n ∷ rest)
      → Routed step fails is_closed is_finished inbound_makes outbound_makes eager names peer role making log before after fed sent session streams past n rest
  end_dropped making kept view same none r = told_none making kept (ended_view view) same (record {
    around = end_came step fails is_closed is_finished inbound_makes outbound_makes eager names peer role log fed sent session streams past n view rest r.around;
    own = subst (λ (t : Option (Streaming H)). IfSome t (λ it. IsMoving step fails is_closed is_finished inbound_makes outbound_makes eager names peer role log n (ended_view view) rest it)) (sym none) tt;
    own_held = λ live. r.own_held (was_live view.live (not view.closed) live);
    own_kept = r.own_kept;
    own_to_reset = r.own_to_reset;
  }) where
    was_live : (b c : Bool) → b && c ≡ true → b ≡ true
    was_live true c e = refl
    was_live false c e = e

  -- data of a stream that isn't held
  pub data_dropped : (making : List (Entry H) → List (Entry H) → Type 0) → making log log → (view : Seen) (bytes : List ℕ) → after ≡ before → streams n ≡ None
      → Routes step fails is_closed is_finished inbound_makes outbound_makes eager names peer role log fed sent session streams past n view (map (Told.Payload n) bytes ++ rest)
      → Routed step fails is_closed is_finished inbound_makes outbound_makes eager names peer role making log before after fed sent session streams past n rest
  data_dropped making kept view bytes same none r = told_none making kept (with_bytes bytes view) same (record {
    around = data_came step fails is_closed is_finished inbound_makes outbound_makes eager names peer role log fed sent session streams past n view bytes rest r.around;
    own = subst (λ (t : Option (Streaming H)). IfSome t (λ it. IsMoving step fails is_closed is_finished inbound_makes outbound_makes eager names peer role log n (with_bytes bytes view) rest it)) (sym none) tt;
    own_held = r.own_held;
    own_kept = r.own_kept;
    own_to_reset = subst (λ b. b ≡ true → is_over role log n ≡ false → IsSome (streams n)) (bytes_reset n n bytes rest) r.own_to_reset;
  })
