-- What comes stands in the list behind what came before.
use Rattle.std.proofs.Common.{◌≡◌, ℕ, Bool, List, [], ◌∷◌, ◌++◌, Option, Some, Result, Ok, refl, sym, ap, ◌∙◌, subst}
use Rattle.std.proofs.lemmas.List.{append_assoc, append_cancel_left}
use Rattle.handlers.specs.Calls.{HandlerCall, Asked}
use Rattle.peer_ids.specs.Key.{Key}
use Rattle.upgrade.specs.declared.role.ConnRole.{ConnRole}
use Rattle.upgrade.specs.declared.fault.UpgradeFault.{UpgradeFault}
use Rattle.upgrade.specs.Upgrades.{Upgrades, ComesTo}
use Rattle.upgrade.proofs.Outcomes.{one_outcome}
use Rattle.yamux_frames.specs.Frames.{Arrival, Reads}
use Rattle.yamux_session.specs.History.{arrivals}
use Rattle.yamux_session.specs.History.Item.{Came, Did}
use Rattle.conn_log.specs.Entries.{Entry, items}
use Rattle.conn_log.specs.Entries.Entry.{Of, Says, Made, Asks, Calls}
use Rattle.conn_core.specs.Promises.{ComesInTurn}

-- the frames of a list stand behind those of what is new
arrivals_append : {H : Type 0} (newer log : List (Entry H)) → arrivals (items (newer ++ log)) ≡ arrivals (items newer) ++ arrivals (items log)
arrivals_append [] log = refl
arrivals_append (Of (Came arrival) ∷ newer) log = ap (λ (t : List Arrival). arrival ∷ t) (arrivals_append newer log)
arrivals_append (Of (Did act) ∷ newer) log = arrivals_append newer log
arrivals_append (Says e ∷ newer) log = arrivals_append newer log
arrivals_append (Made n handler ∷ newer) log = arrivals_append newer log
arrivals_append (Asks n index ∷ newer) log = arrivals_append newer log
arrivals_append (Calls n call ∷ newer) log = arrivals_append newer log

-- an input that begins so is up by that beginning
comes : (role : ConnRole) (own key : Key) (input first rest written : List ℕ) → input ≡ first ++ rest → Upgrades role own first (Ok (Some key)) written
    → ComesTo role own input first (Ok (Some key)) written
comes role own key input first rest written input_is upgrades = record { rest = rest; input_is = input_is; upgrades = upgrades; all = λ no. absurd (no tt) }

proven : (key other : Key) → ◌≡◌ {A = Result (Option Key) UpgradeFault} (Ok (Some key)) (Ok (Some other)) → key ≡ other
proven key other is = cc is

module _ {P H : Type 0} (step : H → HandlerCall → H → Type 0) (fails : H → Asked → ℕ → Type 0)
    (is_closed is_finished : H → Bool) (inbound_makes outbound_makes : P → ℕ → List ℕ → H → Type 0)
    (listed : P → List (List ℕ)) (is_eager : P → ℕ → Bool)
    (inbound_leads outbound_leads : P → ℕ → List ℕ → H → P → Type 0) (start : P) (role : ConnRole) (own : Key) where
  pub comes_in_turn : ComesInTurn step fails is_closed is_finished inbound_makes outbound_makes listed is_eager inbound_leads outbound_leads start role own
  comes_in_turn session streams past input log told written up more opened now grown session_then streams_then past_then told_then written_then then =
      let parts : input ++ more ≡ up.first ++ (up.rest ++ more) = ap (λ (t : List ℕ). t ++ more) up.input_is ∙ append_assoc up.first up.rest more in
      let same = one_outcome role own (input ++ more) up.first then.first (Ok (Some up.key)) (Ok (Some then.key)) up.greeting then.greeting
      (comes role own up.key (input ++ more) up.first (up.rest ++ more) up.greeting parts up.upgraded)
      (comes role own then.key (input ++ more) then.first then.rest then.greeting then.input_is then.upgraded) in
      let rests : then.rest ≡ up.rest ++ more = append_cancel_left up.first then.rest (up.rest ++ more) (ap (λ (t : List ℕ). t ++ then.rest) same.0 ∙ sym then.input_is ∙ parts) in
      let frames : arrivals (items now) ≡ arrivals (items grown.newer) ++ arrivals (items log) = ap (λ (l : List (Entry H)). arrivals (items l)) grown.now_is ∙ arrivals_append grown.newer log in (
        sym (proven up.key then.key same.1),
        sym same.0,
        sym same.2,
        session_then.place.part,
        subst (λ (t : List ℕ). Reads t (arrivals (items grown.newer) ++ arrivals (items log)) session_then.place.part) rests
            (subst (λ (f : List Arrival). Reads then.rest f session_then.place.part) frames then.at_rest.session_stands.frames.reads),
      )
