-- Which handlers are held once the list has grown.
use Rattle.std.proofs.Common.{◌≡◌, ℕ, List, [], ◌∷◌, ◌++◌, Option, Some, None, refl, sym, ap, ◌∙◌, subst}
use Rattle.yamux_frames.specs.Frames.{Arrival}
use Rattle.yamux_session.specs.declared.event.Role.{Role}
use Rattle.conn_log.specs.declared.event.ConnEvent.{ConnEvent}
use Rattle.conn_log.specs.declared.event.ConnEvent.TheVariants as event
use Rattle.conn_log.specs.Entries.{Entry, said, agreement}
use Rattle.conn_log.specs.Entries.Entry.{Of, Says, Made, Asks, Calls}
use Rattle.conn_log.proofs.Making.{mades}
use Rattle.conn_log.proofs.Arriving.{arrived}
use Rattle.held_order.specs.Orders.{newest_held}

-- it lets no handler go
abbrev Keeps : {H : Type 0} → ConnEvent H → Type 0
Keeps (event.Refused n) = ⊥
Keeps (event.Done n handler) = ⊥
Keeps (event.Broken n cause) = ⊥
Keeps (event.Upgraded key) = Unit {0}
Keeps (event.Agreed n index) = Unit {0}
Keeps (event.Fault fault) = Unit {0}
Keeps event.Shut = Unit {0}

abbrev AllKeep : {H : Type 0} → List (ConnEvent H) → Type 0
AllKeep [] = Unit {0}
AllKeep (e ∷ told) = Keeps e × AllKeep told

parts : {H : Type 0} (told : List (ConnEvent H)) (e : ConnEvent H) → AllKeep (told ++ e ∷ []) → AllKeep told × Keeps e
parts [] e all = (tt, all.0)
parts (first ∷ told) e all = let more = parts told e all.1 in ((all.0, more.0), more.1)

agreement_keeps : (H : Type 0) (n : ℕ) (agreed : Option ℕ) → AllKeep {H = H} (agreement n agreed)
agreement_keeps H n None = tt
agreement_keeps H n (Some index) = (tt, tt)

module _ {H : Type 0} (role : Role) where
  by_event : (log : List (Entry H)) (e : ConnEvent H) → Keeps e → newest_held role (Says e ∷ log) ≡ newest_held role log
  by_event log (event.Refused n) keeps = absurd keeps
  by_event log (event.Done n handler) keeps = absurd keeps
  by_event log (event.Broken n cause) keeps = absurd keeps
  by_event log (event.Upgraded key) keeps = refl
  by_event log (event.Agreed n index) keeps = refl
  by_event log (event.Fault fault) keeps = refl
  by_event log event.Shut keeps = refl

  grows : (newer log : List (Entry H)) → AllKeep (said newer) → newest_held role (newer ++ log) ≡ mades newer ++ newest_held role log
  grows [] log all = refl
  grows (Of x ∷ newer) log all = grows newer log all
  grows (Says e ∷ newer) log all = let both = parts (said newer) e all in by_event (newer ++ log) e both.1 ∙ grows newer log both.0
  grows (Made n handler ∷ newer) log all = ap (λ t. n ∷ t) (grows newer log all)
  grows (Asks n index ∷ newer) log all = grows newer log all
  grows (Calls n call ∷ newer) log all = grows newer log all

  -- where at most an agreement was told, what was made is held too
  pub grows_by : (newer log : List (Entry H)) (n : ℕ) (agreed : Option ℕ) → said newer ≡ agreement n agreed
      → newest_held role (newer ++ log) ≡ mades newer ++ newest_held role log
  grows_by newer log n agreed is = grows newer log (subst (λ (t : List (ConnEvent H)). AllKeep t) (sym is) (agreement_keeps H n agreed))

  -- where nothing was told or made, the same are held
  pub stays : (newer log : List (Entry H)) → said newer ≡ [] → mades newer ≡ [] → newest_held role (newer ++ log) ≡ newest_held role log
  stays newer log unsaid unmade = grows newer log (subst (λ (t : List (ConnEvent H)). AllKeep t) (sym unsaid) tt) ∙ ap (λ t. t ++ newest_held role log) unmade

  -- where bytes came, too
  pub stays_behind : (came : List Arrival) (log : List (Entry H)) → newest_held role (arrived came ++ log) ≡ newest_held role log
  stays_behind [] log = refl
  stays_behind (x ∷ came) log = stays_behind came log
