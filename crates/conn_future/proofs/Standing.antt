-- Where a connection over a link stands, from one call to the next.
use Rattle.std.proofs.Common.{◌≡◌, ◌⊎◌, inl, inr, ℕ, Bool, true, false, List, [], ◌∷◌, ◌++◌, take, drop, refl, sym, ap, ◌∙◌, subst}
use Rattle.std.proofs.lemmas.List.{append-nil}
use Rattle.conn_link.specs.declared.link.Link.{Ghosts as LinkGhosts}
use Rattle.conn_link.specs.Moving.{MovesNothing, MovesOn, StaysEnded}
use Rattle.handlers.specs.declared.handler.Handler.{Ghosts as HandlerGhosts}
use Rattle.handlers.specs.declared.protocols.Protocols.{Ghosts as ProtocolsGhosts}
use Rattle.peer_ids.specs.Key.{Key}
use Rattle.upgrade.specs.declared.role.ConnRole.{ConnRole}
use Rattle.conn_log.specs.declared.event.ConnEvent.{ConnEvent}
use Rattle.conn_log.specs.declared.event.ConnEvent.TheVariants as event
use Rattle.conn_log.specs.declared.event.ConnFault.TheVariants as fault
use Rattle.conn_log.specs.Entries.{Entry}
use Rattle.conn_core.specs.declared.connection.ConnCore.{ConnCore}
use Rattle.conn_core.specs.Connects.{IsGrown, IsOpened, is_over, is_spent, waiting_in}
use Rattle.conn_future.specs.declared.stage.Stage.{Stage}
use Rattle.conn_future.specs.declared.stage.Stage.TheVariants.{Going, Shutting, Starved, Over}
use Rattle.conn_future.specs.Stages.{is_live}
use Rattle.conn_future.specs.Follows.{CoreStands, Joins, GoesOn, Parts, Ends, Stays}
use Rattle.conn_future.specs.Follows.Ends.{Told, Failed, Refused, Shut}
use Rattle.conn_future.proofs.Lists.{one_on, rest_of}
use Rattle.conn_core.specs.Runs.{is_end, has_ended}
use Rattle.conn_future.proofs.Unlinked.{never_links, none_behind_end, none_ends, over_is, told_of_no_end, fresh_goes_on, same_over}

module _ {L P H : Type 0} (link : LinkGhosts L) (protocols : ProtocolsGhosts P H) (handler : HandlerGhosts H)
    (start : P) (role : ConnRole) (own : Key) where
  -- ---- an event that is held is given

  joins_give : (first : L) (log : List (Entry H)) (gave : List (ConnEvent H)) (ended : Bool) (now : L) (core : ConnCore P H) (left : List ℕ) (e : ConnEvent H) (held : List (ConnEvent H))
      → Joins link protocols handler start role own first log gave ended now core left (e ∷ held)
      → Joins link protocols handler start role own first log (gave ++ e ∷ []) ended now core left held
  joins_give first log gave ended now core left e held joins = record {
    given = joins.given;
    took = joins.took;
    moved = joins.moved;
    reached = joins.reached;
    found = joins.found;
    stands = subst (λ (told : List (ConnEvent H)). CoreStands link protocols handler start role own joins.given ended log told (joins.took ++ left) core) (one_on gave e held) joins.stands;
  }

  goes_give : (first : L) (log : List (Entry H)) (gave : List (ConnEvent H)) (now : L) (core : ConnCore P H) (left : List ℕ) (e : ConnEvent H) (held : List (ConnEvent H))
      → GoesOn link protocols handler start role own first log gave now core left (e ∷ held)
      → GoesOn link protocols handler start role own first log (gave ++ e ∷ []) now core left held
  goes_give first log gave now core left e held goes = record {
    joins = joins_give first log gave false now core left e held goes.joins;
    goes_on = goes.goes_on;
    none_waits = goes.none_waits;
  }

  pub stays_give : (first : L) (log : List (Entry H)) (gave : List (ConnEvent H)) (now : L) (core : ConnCore P H) (left : List ℕ) (e : ConnEvent H) (held all : List (ConnEvent H)) (stage : Stage)
      → all ≡ e ∷ held
      → Stays link protocols handler start role own first log gave now core left all stage
      → Stays link protocols handler start role own first log (gave ++ e ∷ []) now core left held stage
  stays_give first log gave now core left e held all Going is stays =
      goes_give first log gave now core left e held (subst (λ (l : List (ConnEvent H)). GoesOn link protocols handler start role own first log gave now core left l) is stays)
  stays_give first log gave now core left e held all Shutting is stays =
      goes_give first log gave now core left e held (subst (λ (l : List (ConnEvent H)). GoesOn link protocols handler start role own first log gave now core left l) is stays)
  stays_give first log gave now core left e held all Starved is stays =
      let parts = subst (λ (l : List (ConnEvent H)). Parts link protocols handler start role own first log gave now core l) is stays in record {
        given = parts.given;
        lost = parts.lost;
        took = parts.took;
        left = parts.left;
        ended = parts.ended;
        core = parts.core;
        moved = parts.moved;
        stands = subst (λ (told : List (ConnEvent H)). CoreStands link protocols handler start role own parts.given parts.ended log told (parts.took ++ parts.left) parts.core) (one_on gave e held) parts.stands;
        goes_on = parts.goes_on;
        newer = parts.newer;
        more = parts.more;
        kept = λ goes. subst (λ (told : List (ConnEvent H)). CoreStands link protocols handler start role own parts.given parts.ended (parts.newer ++ log) told (parts.took ++ (parts.left ++ parts.more)) core) (one_on gave e held) (parts.kept goes);
        unended = parts.unended;
      }
  stays_give first log gave now core left e held all Over is (Told ended rest over joins) =
      Told ended rest over (joins_give first log gave ended now core rest e held (subst (λ (l : List (ConnEvent H)). Joins link protocols handler start role own first log gave ended now core rest l) is joins))
  stays_give first log gave now core left e held all Over is (Failed before rest none gave_is joins) = absurd (cc (is, none))
  stays_give first log gave now core left e held all Over is (Refused before none gave_is parts) = absurd (cc (is, none))
  stays_give first log gave now core left e held all Over is (Shut before none gave_is is_shut joins) = absurd (cc (is, none))

  -- no event that is held says that the link failed
  pub held_links_not : (first : L) (log : List (Entry H)) (gave : List (ConnEvent H)) (now : L) (core : ConnCore P H) (left : List ℕ) (held all : List (ConnEvent H)) (stage : Stage)
      → all ≡ event.Fault fault.Link ∷ held
      → Stays link protocols handler start role own first log gave now core left all stage → ⊥
  held_links_not first log gave now core left held all Going is stays =
      never_links link protocols handler start role own _ _ log gave held _ core (subst (λ (l : List (ConnEvent H)). CoreStands link protocols handler start role own stays.joins.given false log (gave ++ l) (stays.joins.took ++ left) core) is stays.joins.stands)
  held_links_not first log gave now core left held all Shutting is stays =
      never_links link protocols handler start role own _ _ log gave held _ core (subst (λ (l : List (ConnEvent H)). CoreStands link protocols handler start role own stays.joins.given false log (gave ++ l) (stays.joins.took ++ left) core) is stays.joins.stands)
  held_links_not first log gave now core left held all Starved is stays =
      never_links link protocols handler start role own _ _ log gave held _ stays.core (subst (λ (l : List (ConnEvent H)). CoreStands link protocols handler start role own stays.given stays.ended log (gave ++ l) (stays.took ++ stays.left) stays.core) is stays.stands)
  held_links_not first log gave now core left held all Over is (Told ended rest over joins) =
      never_links link protocols handler start role own _ _ log gave held _ core (subst (λ (l : List (ConnEvent H)). CoreStands link protocols handler start role own joins.given ended log (gave ++ l) (joins.took ++ rest) core) is joins.stands)
  held_links_not first log gave now core left held all Over is (Failed before rest none gave_is joins) = absurd (cc (is, none))
  held_links_not first log gave now core left held all Over is (Refused before none gave_is parts) = absurd (cc (is, none))
  held_links_not first log gave now core left held all Over is (Shut before none gave_is is_shut joins) = absurd (cc (is, none))

  -- with nothing held, and no event given, it stays
  pub stays_none : (first : L) (log : List (Entry H)) (gave : List (ConnEvent H)) (now : L) (core : ConnCore P H) (left : List ℕ) (held after : List (ConnEvent H)) (stage : Stage)
      → held ≡ after
      → Stays link protocols handler start role own first log gave now core left held stage
      → Stays link protocols handler start role own first log (gave ++ []) now core left after stage
  stays_none first log gave now core left held after stage is stays =
      subst (λ (l : List (ConnEvent H)). Stays link protocols handler start role own first log l now core left after stage) (sym (append-nil gave))
      (subst (λ (l : List (ConnEvent H)). Stays link protocols handler start role own first log gave now core left l stage) is stays)

  -- behind the events that were held it gives that memory was refused
  pub gives_refused : (first : L) (log : List (Entry H)) (gave : List (ConnEvent H)) (now : L) (core : ConnCore P H) (left : List ℕ) (held after : List (ConnEvent H)) (stage : Stage)
      → stage ≡ Starved → held ≡ after → held ≡ []
      → Stays link protocols handler start role own first log gave now core left held stage
      → Ends link protocols handler start role own first log (gave ++ event.Fault fault.OutOfMemory ∷ []) now core after
  gives_refused first log gave now core left held after Going is same none stays = absurd (cc is)
  gives_refused first log gave now core left held after Shutting is same none stays = absurd (cc is)
  gives_refused first log gave now core left held after Starved is same none stays =
      Refused gave (sym same ∙ none) refl (subst (λ (l : List (ConnEvent H)). Parts link protocols handler start role own first log gave now core l) none stays)
  gives_refused first log gave now core left held after Over is same none stays = absurd (cc is)

  -- ---- the link is called

  -- it gave and took nothing
  pub joins_still : MovesOn link.moves → StaysEnded link.moves link.has_ended → (first : L) (log : List (Entry H)) (gave : List (ConnEvent H)) (ended : Bool) (now next : L) (core : ConnCore P H) (left : List ℕ) (held : List (ConnEvent H))
      → Joins link protocols handler start role own first log gave ended now core left held → link.moves now [] [] next → (link.has_ended next → link.has_ended now)
      → Joins link protocols handler start role own first log gave ended next core left held
  joins_still on stays first log gave ended now next core left held joins moved not_found = record {
    given = joins.given;
    took = joins.took;
    moved = subst (λ (l : List ℕ). link.moves first l joins.took next) (append-nil joins.given)
        (subst (λ (l : List ℕ). link.moves first (joins.given ++ []) l next) (append-nil joins.took) (on first now next joins.given joins.took [] [] joins.moved moved));
    reached = λ is. (stays now next [] [] moved (joins.reached is)).1;
    found = λ there. joins.found (not_found there);
    stands = joins.stands;
  }

  -- it took a first part of what is left
  pub joins_wrote : MovesOn link.moves → StaysEnded link.moves link.has_ended → (first : L) (log : List (Entry H)) (gave : List (ConnEvent H)) (ended : Bool) (now next : L) (core : ConnCore P H) (left : List ℕ) (held : List (ConnEvent H)) (count : ℕ)
      → Joins link protocols handler start role own first log gave ended now core left held → link.moves now [] (take count left) next → (link.has_ended next → link.has_ended now)
      → Joins link protocols handler start role own first log gave ended next core (drop count left) held
  joins_wrote on stays first log gave ended now next core left held count joins moved not_found = record {
    given = joins.given;
    took = joins.took ++ take count left;
    moved = subst (λ (l : List ℕ). link.moves first l (joins.took ++ take count left) next) (append-nil joins.given) (on first now next joins.given joins.took [] (take count left) joins.moved moved);
    reached = λ is. (stays now next [] (take count left) moved (joins.reached is)).1;
    found = λ there. joins.found (not_found there);
    stands = subst (λ (l : List ℕ). CoreStands link protocols handler start role own joins.given ended log (gave ++ held) l core) (rest_of joins.took left count) joins.stands;
  }

  pub stays_wrote : MovesOn link.moves → StaysEnded link.moves link.has_ended → (first : L) (log : List (Entry H)) (gave : List (ConnEvent H)) (now next : L) (core : ConnCore P H) (left : List ℕ) (held : List (ConnEvent H)) (count : ℕ) (stage : Stage) → is_live stage ≡ true
      → Stays link protocols handler start role own first log gave now core left held stage → link.moves now [] (take count left) next → (link.has_ended next → link.has_ended now)
      → Stays link protocols handler start role own first log (gave ++ []) next core (drop count left) held stage
  stays_wrote on still first log gave now next core left held count Going live stays moved not_found =
      stays_none first log gave next core (drop count left) held held Going refl (record { joins = joins_wrote on still first log gave false now next core left held count stays.joins moved not_found; goes_on = stays.goes_on; none_waits = stays.none_waits })
  stays_wrote on still first log gave now next core left held count Shutting live stays moved not_found =
      stays_none first log gave next core (drop count left) held held Shutting refl (record { joins = joins_wrote on still first log gave false now next core left held count stays.joins moved not_found; goes_on = stays.goes_on; none_waits = stays.none_waits })
  stays_wrote on still first log gave now next core left held count Starved live stays moved not_found = absurd (cc live)
  stays_wrote on still first log gave now next core left held count Over live stays moved not_found = absurd (cc live)

  pub stays_wrote_to : MovesOn link.moves → StaysEnded link.moves link.has_ended → (first : L) (log : List (Entry H)) (gave : List (ConnEvent H)) (now next : L) (core : ConnCore P H) (left after bytes : List ℕ) (held : List (ConnEvent H)) (count : ℕ) (stage : Stage) → is_live stage ≡ true
      → after ≡ drop count left → bytes ≡ take count left
      → Stays link protocols handler start role own first log gave now core left held stage → link.moves now [] bytes next → (link.has_ended next → link.has_ended now)
      → Stays link protocols handler start role own first log (gave ++ []) next core after held stage
  stays_wrote_to on still first log gave now next core left after bytes held count stage live is wrote stays moved not_found =
      subst (λ (l : List ℕ). Stays link protocols handler start role own first log (gave ++ []) next core l held stage) (sym is)
      (stays_wrote on still first log gave now next core left held count stage live stays (subst (λ (l : List ℕ). link.moves now [] l next) wrote moved) not_found)

  -- a call failed
  pub stays_failed : MovesOn link.moves → StaysEnded link.moves link.has_ended → (first : L) (log : List (Entry H)) (gave : List (ConnEvent H)) (now next : L) (core : ConnCore P H) (left after : List ℕ) (held : List (ConnEvent H)) (stage : Stage) → is_live stage ≡ true → held ≡ []
      → Stays link protocols handler start role own first log gave now core left held stage → link.moves now [] [] next → (link.has_ended next → link.has_ended now)
      → Stays link protocols handler start role own first log (gave ++ event.Fault fault.Link ∷ []) next core after held Over
  stays_failed on still first log gave now next core left after held Going live none stays moved not_found =
      Failed gave left none refl (joins_still on still first log gave false now next core left [] (subst (λ (l : List (ConnEvent H)). Joins link protocols handler start role own first log gave false now core left l) none stays.joins) moved not_found)
  stays_failed on still first log gave now next core left after held Shutting live none stays moved not_found =
      Failed gave left none refl (joins_still on still first log gave false now next core left [] (subst (λ (l : List (ConnEvent H)). Joins link protocols handler start role own first log gave false now core left l) none stays.joins) moved not_found)
  stays_failed on still first log gave now next core left after held Starved live none stays moved not_found = absurd (cc live)
  stays_failed on still first log gave now next core left after held Over live none stays moved not_found = absurd (cc live)

  -- a call was pending
  pub stays_pending : MovesOn link.moves → StaysEnded link.moves link.has_ended → (first : L) (log : List (Entry H)) (gave : List (ConnEvent H)) (now next : L) (core : ConnCore P H) (left : List ℕ) (held : List (ConnEvent H)) (stage : Stage) → is_live stage ≡ true
      → Stays link protocols handler start role own first log gave now core left held stage → link.moves now [] [] next → (link.has_ended next → link.has_ended now)
      → Stays link protocols handler start role own first log (gave ++ []) next core left held stage
  stays_pending on still first log gave now next core left held Going live stays moved not_found =
      stays_none first log gave next core left held held Going refl (record { joins = joins_still on still first log gave false now next core left held stays.joins moved not_found; goes_on = stays.goes_on; none_waits = stays.none_waits })
  stays_pending on still first log gave now next core left held Shutting live stays moved not_found =
      stays_none first log gave next core left held held Shutting refl (record { joins = joins_still on still first log gave false now next core left held stays.joins moved not_found; goes_on = stays.goes_on; none_waits = stays.none_waits })
  stays_pending on still first log gave now next core left held Starved live stays moved not_found = absurd (cc live)
  stays_pending on still first log gave now next core left held Over live stays moved not_found = absurd (cc live)

  -- the link is shut
  pub goes_shut : MovesOn link.moves → StaysEnded link.moves link.has_ended → (first : L) (log : List (Entry H)) (gave : List (ConnEvent H)) (now next : L) (core : ConnCore P H) (left after : List ℕ) (held : List (ConnEvent H)) → held ≡ [] → left ≡ []
      → GoesOn link protocols handler start role own first log gave now core left held → link.moves now [] [] next → (link.has_ended next → link.has_ended now) → link.is_shut next
      → Stays link protocols handler start role own first log (gave ++ event.Shut ∷ []) next core after held Over
  goes_shut on still first log gave now next core left after held none empty stays moved not_found shut =
      Shut gave none refl shut (joins_still on still first log gave false now next core [] [] (subst (λ (l : List (ConnEvent H)). Joins link protocols handler start role own first log gave false now core [] l) none (subst (λ (l : List ℕ). Joins link protocols handler start role own first log gave false now core l held) empty stays.joins)) moved not_found)

  -- ---- at a stage that is known

  pub goes_of : (first : L) (log : List (Entry H)) (gave : List (ConnEvent H)) (now : L) (core : ConnCore P H) (left : List ℕ) (held : List (ConnEvent H)) (stage : Stage) → stage ≡ Going
      → Stays link protocols handler start role own first log gave now core left held stage
      → GoesOn link protocols handler start role own first log gave now core left held
  goes_of first log gave now core left held stage is stays = subst (λ (s : Stage). Stays link protocols handler start role own first log gave now core left held s) is stays

  pub closes_of : (first : L) (log : List (Entry H)) (gave : List (ConnEvent H)) (now : L) (core : ConnCore P H) (left : List ℕ) (held : List (ConnEvent H)) (stage : Stage) → stage ≡ Shutting
      → Stays link protocols handler start role own first log gave now core left held stage
      → GoesOn link protocols handler start role own first log gave now core left held
  closes_of first log gave now core left held stage is stays = subst (λ (s : Stage). Stays link protocols handler start role own first log gave now core left held s) is stays

  pub stays_shut : (first : L) (log : List (Entry H)) (gave : List (ConnEvent H)) (now : L) (core : ConnCore P H) (left : List ℕ) (held : List (ConnEvent H)) (stage : Stage) → stage ≡ Going
      → Stays link protocols handler start role own first log gave now core left held stage
      → GoesOn link protocols handler start role own first log (gave ++ []) now core left held
  stays_shut first log gave now core left held stage is stays =
      subst (λ (l : List (ConnEvent H)). GoesOn link protocols handler start role own first log l now core left held) (sym (append-nil gave)) (goes_of first log gave now core left held stage is stays)

  -- ---- memory was refused

  -- where it was told of no end, a read that found one found it before
  found_before : (first : L) (ended : Bool) → ended ≡ false → (ended ≡ true) ⊎ link.has_ended first → link.has_ended first
  found_before first ended going (inl is) = absurd (cc (is, going))
  found_before first ended going (inr there) = there

  -- to what the core wrote no room was left: it may have opened a stream
  pub parts_of : (first : L) (log newer : List (Entry H)) (gave : List (ConnEvent H)) (ended : Bool) (now next : L) (core last : ConnCore P H) (left more : List ℕ) (held after : List (ConnEvent H)) → next ≡ now → after ≡ held → is_over core.phase ≡ false
      → (joins : Joins link protocols handler start role own first log gave ended now core left held)
      → (is_spent last.phase ≡ false → CoreStands link protocols handler start role own joins.given ended (newer ++ log) (gave ++ held) (joins.took ++ (left ++ more)) last)
      → Parts link protocols handler start role own first log gave next last after
  parts_of first log newer gave ended now next core last left more held after same kept goes joins stood = record {
    given = joins.given;
    lost = [];
    took = joins.took;
    left = left;
    ended = ended;
    core = core;
    moved = subst (λ (l : List ℕ). link.moves first l joins.took next) (sym (append-nil joins.given)) (subst (λ (l : L). link.moves first joins.given joins.took l) (sym same) joins.moved);
    stands = subst (λ (l : List (ConnEvent H)). CoreStands link protocols handler start role own joins.given ended log (gave ++ l) (joins.took ++ left) core) (sym kept) joins.stands;
    goes_on = goes;
    newer = newer;
    more = more;
    kept = λ unspent. subst (λ (l : List (ConnEvent H)). CoreStands link protocols handler start role own joins.given ended (newer ++ log) (gave ++ l) (joins.took ++ (left ++ more)) last) (sym kept) (stood unspent);
    unended = λ unspent there. found_before first ended (told_of_no_end link protocols handler start role own joins.given ended log (gave ++ held) (joins.took ++ left) core joins.stands goes) (joins.found (subst link.has_ended same there));
  }

  -- what the link gave last was lost, and the core is as it was, or memory was refused to it
  pub parts_heard : MovesOn link.moves → (first : L) (log : List (Entry H)) (gave : List (ConnEvent H)) (before now next : L) (core last : ConnCore P H) (left piece : List ℕ) (after : List (ConnEvent H)) → next ≡ now → after ≡ [] → (is_spent last.phase ≡ false → (last ≡ core) × (link.has_ended now → link.has_ended before))
      → GoesOn link protocols handler start role own first log gave before core left [] → link.moves before piece [] now
      → Parts link protocols handler start role own first log gave next last after
  parts_heard on first log gave before now next core last left piece after same none unchanged goes moved =
      let stands = subst (λ (l : List (ConnEvent H)). CoreStands link protocols handler start role own goes.joins.given false log (gave ++ l) (goes.joins.took ++ left) core) (sym none) goes.joins.stands in record {
        given = goes.joins.given;
        lost = piece;
        took = goes.joins.took;
        left = left;
        ended = false;
        core = core;
        moved = subst (λ (l : L). link.moves first (goes.joins.given ++ piece) goes.joins.took l) (sym same)
            (subst (λ (l : List ℕ). link.moves first (goes.joins.given ++ piece) l now) (append-nil goes.joins.took) (on first before now goes.joins.given goes.joins.took piece [] goes.joins.moved moved));
        stands = stands;
        goes_on = goes.goes_on;
        newer = [];
        more = [];
        kept = λ unspent. subst (λ (c : ConnCore P H). CoreStands link protocols handler start role own goes.joins.given false log (gave ++ after) (goes.joins.took ++ (left ++ [])) c) (sym (unchanged unspent).0)
            (subst (λ (l : List ℕ). CoreStands link protocols handler start role own goes.joins.given false log (gave ++ after) (goes.joins.took ++ l) core) (sym (append-nil left)) stands);
        unended = λ unspent there. found_before first false refl (goes.joins.found ((unchanged unspent).1 (subst link.has_ended same there)));
      }

  pub parts_stay : (first : L) (log : List (Entry H)) (gave : List (ConnEvent H)) (now next : L) (core last : ConnCore P H) (left : List ℕ) (held after : List (ConnEvent H)) (stage : Stage) → stage ≡ Starved → next ≡ now → last ≡ core → after ≡ held
      → Parts link protocols handler start role own first log gave now core held
      → Stays link protocols handler start role own first log gave next last left after stage
  parts_stay first log gave now next core last left held after stage is same unchanged kept parts =
      subst (λ (s : Stage). Stays link protocols handler start role own first log gave next last left after s) (sym is)
      (subst (λ (l : L). Parts link protocols handler start role own first log gave l last after) (sym same)
      (subst (λ (c : ConnCore P H). Parts link protocols handler start role own first log gave now c after) (sym unchanged)
      (subst (λ (l : List (ConnEvent H)). Parts link protocols handler start role own first log gave now core l) (sym kept) parts)))

  -- ---- the core was called

  -- it was fed what the link gave last
  pub joins_fed : MovesOn link.moves → (first : L) (log : List (Entry H)) (gave : List (ConnEvent H)) (before now : L) (core next : ConnCore P H) (left piece : List ℕ) (events : List (ConnEvent H))
      → ((input taken : List ℕ) (told : List (ConnEvent H)) → CoreStands link protocols handler start role own input false log told taken core → is_over core.phase ≡ false
      → (later : List (Entry H)) × IsGrown [] log later × CoreStands link protocols handler start role own (input ++ piece) false later (told ++ events) taken next)
      → GoesOn link protocols handler start role own first log gave before core left [] → link.moves before piece [] now → (link.has_ended now → link.has_ended before)
      → (later : List (Entry H)) × IsGrown [] log later × Joins link protocols handler start role own first later gave false now next left events
  joins_fed on first log gave before now core next left piece events fed goes moved not_found =
      let it = fed goes.joins.given (goes.joins.took ++ left) (gave ++ []) goes.joins.stands goes.goes_on in (
        it.0,
        it.1,
        record {
          given = goes.joins.given ++ piece;
          took = goes.joins.took;
          moved = subst (λ (l : List ℕ). link.moves first (goes.joins.given ++ piece) l now) (append-nil goes.joins.took) (on first before now goes.joins.given goes.joins.took piece [] goes.joins.moved moved);
          reached = λ is. absurd (cc is);
          found = λ there. goes.joins.found (not_found there);
          stands = subst (λ (l : List (ConnEvent H)). CoreStands link protocols handler start role own (goes.joins.given ++ piece) false it.0 (l ++ events) (goes.joins.took ++ left) next) (append-nil gave) it.2;
        },
      )

  -- it was told that the input has ended
  pub joins_ended : MovesOn link.moves → (first : L) (log : List (Entry H)) (gave : List (ConnEvent H)) (before now : L) (core next : ConnCore P H) (left : List ℕ) (events : List (ConnEvent H))
      → ((input taken : List ℕ) (told : List (ConnEvent H)) → CoreStands link protocols handler start role own input false log told taken core → is_over core.phase ≡ false
      → CoreStands link protocols handler start role own input true log (told ++ events) taken next)
      → GoesOn link protocols handler start role own first log gave before core left [] → link.moves before [] [] now → link.has_ended now
      → Joins link protocols handler start role own first log gave true now next left events
  joins_ended on first log gave before now core next left events ends goes moved reached = record {
    given = goes.joins.given;
    took = goes.joins.took;
    moved = subst (λ (l : List ℕ). link.moves first l goes.joins.took now) (append-nil goes.joins.given)
        (subst (λ (l : List ℕ). link.moves first (goes.joins.given ++ []) l now) (append-nil goes.joins.took) (on first before now goes.joins.given goes.joins.took [] [] goes.joins.moved moved));
    reached = λ is. reached;
    found = λ there. inl refl;
    stands = subst (λ (l : List (ConnEvent H)). CoreStands link protocols handler start role own goes.joins.given true log (l ++ events) (goes.joins.took ++ left) next) (append-nil gave)
        (ends goes.joins.given (goes.joins.took ++ left) (gave ++ []) goes.joins.stands goes.goes_on);
  }

  -- what it had written was taken from it
  pub goes_collected : (first : L) (log : List (Entry H)) (gave : List (ConnEvent H)) (ended : Bool) (now after : L) (core next : ConnCore P H) (left more : List ℕ) (held kept : List (ConnEvent H))
      → ((input taken : List ℕ) (ended : Bool) (told : List (ConnEvent H)) → CoreStands link protocols handler start role own input ended log told (taken ++ left) core
      → CoreStands link protocols handler start role own input ended log told (taken ++ more) next)
      → after ≡ now → kept ≡ held → ended ≡ false → is_over next.phase ≡ false → waiting_in next.phase next.output.items ≡ []
      → Joins link protocols handler start role own first log gave ended now core left held
      → GoesOn link protocols handler start role own first log gave after next more kept
  goes_collected first log gave ended now after core next left more held kept collected same is unended goes none joins = record {
    joins = record {
      given = joins.given;
      took = joins.took;
      moved = subst (λ (l : L). link.moves first joins.given joins.took l) (sym same) joins.moved;
      reached = λ is. absurd (cc is);
      found = λ there. subst (λ (b : Bool). (b ≡ true) ⊎ link.has_ended first) unended (joins.found (subst link.has_ended same there));
      stands = subst (λ (l : List (ConnEvent H)). CoreStands link protocols handler start role own joins.given false log (gave ++ l) (joins.took ++ more) next) (sym is)
          (subst (λ (b : Bool). CoreStands link protocols handler start role own joins.given b log (gave ++ held) (joins.took ++ more) next) unended (collected joins.given joins.took ended (gave ++ held) joins.stands));
    };
    goes_on = goes;
    none_waits = none;
  }

  -- it told a Fault or Shut
  pub told_stays : (first : L) (log : List (Entry H)) (gave : List (ConnEvent H)) (ended : Bool) (now after : L) (core next : ConnCore P H) (left more : List ℕ) (held kept : List (ConnEvent H)) (stage : Stage)
      → stage ≡ Over → after ≡ now → next ≡ core → kept ≡ held → is_over core.phase ≡ true
      → Joins link protocols handler start role own first log gave ended now core left held
      → Stays link protocols handler start role own first log gave after next more kept stage
  told_stays first log gave ended now after core next left more held kept stage there same unchanged is over joins =
      subst (λ (s : Stage). Stays link protocols handler start role own first log gave after next more kept s) (sym there)
      (subst (λ (l : L). Ends link protocols handler start role own first log gave l next kept) (sym same)
      (subst (λ (n : ConnCore P H). Ends link protocols handler start role own first log gave now n kept) (sym unchanged)
      (subst (λ (l : List (ConnEvent H)). Ends link protocols handler start role own first log gave now core l) (sym is) (Told ended left over joins))))

  -- it goes on at the stage Going
  pub going_stays : (first : L) (log : List (Entry H)) (gave : List (ConnEvent H)) (now : L) (core : ConnCore P H) (left : List ℕ) (held : List (ConnEvent H)) (stage : Stage) → stage ≡ Going
      → GoesOn link protocols handler start role own first log gave now core left held
      → Stays link protocols handler start role own first log gave now core left held stage
  going_stays first log gave now core left held stage is goes = subst (λ (s : Stage). Stays link protocols handler start role own first log gave now core left held s) (sym is) goes

  -- with nothing held
  pub goes_none : (first : L) (log : List (Entry H)) (gave : List (ConnEvent H)) (now : L) (core : ConnCore P H) (left : List ℕ) (held : List (ConnEvent H)) (stage : Stage)
      → stage ≡ Going → held ≡ []
      → Stays link protocols handler start role own first log gave now core left held stage
      → GoesOn link protocols handler start role own first log gave now core left []
  goes_none first log gave now core left held stage is none stays =
      subst (λ (l : List (ConnEvent H)). GoesOn link protocols handler start role own first log gave now core left l) none (goes_of first log gave now core left held stage is stays)

  -- a connection that was just made
  pub fresh_follows : MovesNothing link.moves → (first : L) (core next : ConnCore P H) (out unsent : List ℕ) (held : List (ConnEvent H)) → unsent ≡ out → held ≡ []
      → (CoreStands link protocols handler start role own [] false [] [] [] core → CoreStands link protocols handler start role own [] false [] [] out next)
      → is_over next.phase ≡ is_over core.phase → waiting_in next.phase next.output.items ≡ []
      → CoreStands link protocols handler start role own [] false [] [] [] core
      → GoesOn link protocols handler start role own first [] [] first next unsent held
  fresh_follows nothing first core next out unsent held is none taken over empty stands = record {
    joins = record {
      given = [];
      took = [];
      moved = nothing first;
      reached = λ is. absurd (cc is);
      found = λ there. inr there;
      stands = subst (λ (l : List (ConnEvent H)). CoreStands link protocols handler start role own [] false [] l unsent next) (sym none)
          (subst (λ (l : List ℕ). CoreStands link protocols handler start role own [] false [] [] l next) (sym is) (taken stands));
    };
    goes_on = over ∙ fresh_goes_on link protocols handler start role own core stands;
    none_waits = empty;
  }

  -- a stream was opened
  pub goes_asked : (first : L) (log : List (Entry H)) (number index : ℕ) (gave : List (ConnEvent H)) (now after : L) (core mid next : ConnCore P H) (left more : List ℕ) (held kept : List (ConnEvent H))
      → ((input taken : List ℕ) (told : List (ConnEvent H)) → CoreStands link protocols handler start role own input false log told taken core
      → (later : List (Entry H)) × IsOpened number index log later × CoreStands link protocols handler start role own input false later told taken mid)
      → ((later : List (Entry H)) (input taken : List ℕ) (ended : Bool) (told : List (ConnEvent H)) → CoreStands link protocols handler start role own input ended later told (taken ++ left) mid
      → CoreStands link protocols handler start role own input ended later told (taken ++ more) next)
      → after ≡ now → kept ≡ held → is_over next.phase ≡ is_over mid.phase → waiting_in next.phase next.output.items ≡ []
      → GoesOn link protocols handler start role own first log gave now core left held
      → (later : List (Entry H)) × IsOpened number index log later × GoesOn link protocols handler start role own first later gave after next more kept
  goes_asked first log number index gave now after core mid next left more held kept asks collected same is over none goes =
      let it = asks goes.joins.given (goes.joins.took ++ left) (gave ++ held) goes.joins.stands in
      let joins : Joins link protocols handler start role own first it.0 gave false now mid left held = record {
        given = goes.joins.given;
        took = goes.joins.took;
        moved = goes.joins.moved;
        reached = goes.joins.reached;
        found = goes.joins.found;
        stands = it.2;
      } in (
        it.0,
        it.1,
        goes_collected first it.0 gave false now after mid next left more held kept (collected it.0) same is refl
            (over ∙ (same_over link protocols handler start role own goes.joins.given goes.joins.given false false it.0 log (gave ++ held) _ _ mid core it.2 goes.joins.stands ∙ goes.goes_on)) none joins,
      )

  -- ---- behind a Fault or Shut

  joins_end : (first : L) (log : List (Entry H)) (gave : List (ConnEvent H)) (last : ConnEvent H) (ended : Bool) (now : L) (core : ConnCore P H) (left : List ℕ) (held : List (ConnEvent H))
      → Joins link protocols handler start role own first log (gave ++ last ∷ []) ended now core left held → is_end last ≡ true → held ≡ []
  joins_end first log gave last ended now core left held joins ends =
      none_behind_end link protocols handler start role own joins.given ended log gave last held (joins.took ++ left) core ends
      (subst (λ (told : List (ConnEvent H)). CoreStands link protocols handler start role own joins.given ended log told (joins.took ++ left) core) (sym (one_on gave last held)) joins.stands)

  goes_end : (first : L) (log : List (Entry H)) (gave : List (ConnEvent H)) (last : ConnEvent H) (now : L) (core : ConnCore P H) (left : List ℕ) (held : List (ConnEvent H))
      → GoesOn link protocols handler start role own first log (gave ++ last ∷ []) now core left held → is_end last ≡ true → ⊥
  goes_end first log gave last now core left held goes ends =
      none_ends link protocols handler start role own goes.joins.given false log gave last held (goes.joins.took ++ left) core ends
      (subst (λ (told : List (ConnEvent H)). CoreStands link protocols handler start role own goes.joins.given false log told (goes.joins.took ++ left) core) (sym (one_on gave last held)) goes.joins.stands)
      goes.goes_on

  pub stays_end : (first : L) (log : List (Entry H)) (gave : List (ConnEvent H)) (last : ConnEvent H) (now : L) (core : ConnCore P H) (left : List ℕ) (held : List (ConnEvent H)) (stage : Stage)
      → Stays link protocols handler start role own first log (gave ++ last ∷ []) now core left held stage → is_end last ≡ true
      → (stage ≡ Over) × (held ≡ [])
  stays_end first log gave last now core left held Going stays ends = absurd (goes_end first log gave last now core left held stays ends)
  stays_end first log gave last now core left held Shutting stays ends = absurd (goes_end first log gave last now core left held stays ends)
  stays_end first log gave last now core left held Starved parts ends =
      absurd (none_ends link protocols handler start role own parts.given parts.ended log gave last held (parts.took ++ parts.left) parts.core ends
      (subst (λ (told : List (ConnEvent H)). CoreStands link protocols handler start role own parts.given parts.ended log told (parts.took ++ parts.left) parts.core) (sym (one_on gave last held)) parts.stands)
      parts.goes_on)
  stays_end first log gave last now core left held Over (Told ended rest over joins) ends = (refl, joins_end first log gave last ended now core rest held joins ends)
  stays_end first log gave last now core left held Over (Failed before rest none gave_is joins) ends = (refl, none)
  stays_end first log gave last now core left held Over (Refused before none gave_is parts) ends = (refl, none)
  stays_end first log gave last now core left held Over (Shut before none gave_is is_shut joins) ends = (refl, none)

  -- the core took no stream
  pub stays_same_core : (first : L) (log : List (Entry H)) (gave : List (ConnEvent H)) (now : L) (core next : ConnCore P H) (left : List ℕ) (held : List (ConnEvent H)) (stage : Stage)
      → next ≡ core
      → Stays link protocols handler start role own first log gave now core left held stage
      → Stays link protocols handler start role own first log (gave ++ []) now next left held stage
  stays_same_core first log gave now core next left held stage same stays =
      subst (λ (c : ConnCore P H). Stays link protocols handler start role own first log (gave ++ []) now c left held stage) (sym same)
      (stays_none first log gave now core left held held stage refl stays)

  -- ---- something is told where it comes to its end

  -- one that goes on and holds none has given no end
  pub goes_unended : (first : L) (log : List (Entry H)) (gave : List (ConnEvent H)) (now : L) (core : ConnCore P H) (left : List ℕ)
      → GoesOn link protocols handler start role own first log gave now core left [] → has_ended gave ≡ false
  goes_unended first log gave now core left goes =
      subst (λ (told : List (ConnEvent H)). has_ended told ≡ false) (append-nil gave)
      (over_is link protocols handler start role own goes.joins.given false log (gave ++ []) (goes.joins.took ++ left) core goes.joins.stands ∙ goes.goes_on)

  pub tells_some : (first : L) (log : List (Entry H)) (gave : List (ConnEvent H)) (ended : Bool) (now : L) (core : ConnCore P H) (left : List ℕ) (events : List (ConnEvent H))
      → Joins link protocols handler start role own first log gave ended now core left events → has_ended gave ≡ false → is_over core.phase ≡ true
      → events ≡ [] → ⊥
  tells_some first log gave ended now core left events joins unended over none =
      let told : has_ended (gave ++ events) ≡ is_over core.phase = over_is link protocols handler start role own joins.given ended log (gave ++ events) (joins.took ++ left) core joins.stands in
      let same : gave ++ events ≡ gave = ap (λ l. gave ++ l) none ∙ append-nil gave in
      let before : has_ended (gave ++ events) ≡ false = ap has_ended same ∙ unended in
      cc (told, before, over)
