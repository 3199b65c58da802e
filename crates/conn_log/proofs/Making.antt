-- Which handlers were made, where none were, and by a beginning of the list.
use Rattle.std.proofs.Common.{◌≡◌, ℕ, List, [], ◌∷◌, ◌++◌, Option, Some, None, refl, sym, ap, subst}
use Rattle.yamux_session.specs.declared.event.Role.{Role}
use Rattle.yamux_session.specs.History.{Act}
use Rattle.conn_log.specs.declared.event.ConnEvent.{ConnEvent}
use Rattle.conn_log.specs.Entries.{Entry}
use Rattle.conn_log.specs.Entries.Entry.{Of, Says, Made, Asks, Calls}
use Rattle.conn_log.specs.Making.{MakesNone, AreMadeInTurn, MakesOn}
use Rattle.yamux_frames.specs.Frames.{Arrival}
use Rattle.conn_log.proofs.Served.{did}
use Rattle.conn_log.proofs.Arriving.{arrived}

pub did_none : (H : Type 0) (acts : List Act) → MakesNone {H = H} (did acts)
did_none H [] = tt
did_none H (act ∷ acts) = did_none H acts

pub arrived_none : (H : Type 0) (came : List Arrival) → MakesNone {H = H} (arrived came)
arrived_none H [] = tt
arrived_none H (x ∷ came) = arrived_none H came

pub none_more : {H : Type 0} (newer log : List (Entry H)) → MakesNone newer → MakesNone log → MakesNone (newer ++ log)
none_more [] log none more = more
none_more (Of x ∷ newer) log none more = none_more newer log none more
none_more (Says e ∷ newer) log none more = none_more newer log none more
none_more (Made n handler ∷ newer) log none more = absurd none
none_more (Asks n index ∷ newer) log none more = none_more newer log none more
none_more (Calls n call ∷ newer) log none more = none_more newer log none more

-- the streams whose handlers these entries make, that of the newest handler first
abbrev pub mades : {H : Type 0} → List (Entry H) → List ℕ
mades [] = []
mades (Of x ∷ log) = mades log
mades (Says e ∷ log) = mades log
mades (Made n handler ∷ log) = n ∷ mades log
mades (Asks n index ∷ log) = mades log
mades (Calls n call ∷ log) = mades log

pub none_mades : {H : Type 0} (newer : List (Entry H)) → MakesNone newer → mades newer ≡ []
none_mades [] none = refl
none_mades (Of x ∷ newer) none = none_mades newer none
none_mades (Says e ∷ newer) none = none_mades newer none
none_mades (Made n handler ∷ newer) none = absurd none
none_mades (Asks n index ∷ newer) none = none_mades newer none
none_mades (Calls n call ∷ newer) none = none_mades newer none

pub mades_append : {H : Type 0} (newer log : List (Entry H)) → mades (newer ++ log) ≡ mades newer ++ mades log
mades_append [] log = refl
mades_append (Of x ∷ newer) log = mades_append newer log
mades_append (Says e ∷ newer) log = mades_append newer log
mades_append (Made n handler ∷ newer) log = ap (λ t. n ∷ t) (mades_append newer log)
mades_append (Asks n index ∷ newer) log = mades_append newer log
mades_append (Calls n call ∷ newer) log = mades_append newer log

-- what is made for a stream where this is told of it: its handler, where both ends agree, unless it was made before
abbrev pub made_by : {H : Type 0} → ℕ → List (ConnEvent H) → Option H → List ℕ
made_by n [] made = []
made_by n (e ∷ told) None = n ∷ []
made_by n (e ∷ told) (Some handler) = []

module _ {P H : Type 0} (inbound_leads outbound_leads : P → ℕ → List ℕ → H → P → Type 0) (peer : List ℕ) (role : Role) where
  made_before : (first now : P) (log newer : List (Entry H)) → MakesNone newer → AreMadeInTurn inbound_leads outbound_leads peer role first log now
      → AreMadeInTurn inbound_leads outbound_leads peer role first (newer ++ log) now
  made_before first now log [] none before = before
  made_before first now log (Of x ∷ newer) none before = made_before first now log newer none before
  made_before first now log (Says e ∷ newer) none before = made_before first now log newer none before
  made_before first now log (Made n handler ∷ newer) none before = absurd none
  made_before first now log (Asks n index ∷ newer) none before = made_before first now log newer none before
  made_before first now log (Calls n call ∷ newer) none before = made_before first now log newer none before

  -- the protocols stay where no handler was made
  pub makes_none : (before behind : P) → behind ≡ before → (log newer : List (Entry H)) → MakesNone newer
      → MakesOn inbound_leads outbound_leads peer role before behind log (newer ++ log)
  makes_none before behind kept log newer none first was =
      subst (λ (p : P). AreMadeInTurn inbound_leads outbound_leads peer role first (newer ++ log) p) (sym kept) (made_before first before log newer none was)
