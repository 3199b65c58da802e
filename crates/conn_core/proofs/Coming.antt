-- A connection comes up, or its upgrade fails.
use Rattle.std.proofs.Common.{◌≡◌, ℕ, Bool, false, List, [], ◌∷◌, ◌++◌, take, Some, Ok, Err, refl, sym, ap, ◌∙◌, subst}
use Rattle.std.proofs.lemmas.List.{append-nil}
use Rattle.std.specs.Ordering.{nat_cmp}
use Rattle.std.specs.BTreeMap as tree
use Rattle.handlers.specs.Calls.{HandlerCall, Asked}
use Rattle.peer_ids.specs.Key.{Key}
use Rattle.peer_ids.specs.PeerId.{id_of}
use Rattle.upgrade.specs.declared.role.ConnRole.{ConnRole}
use Rattle.upgrade.specs.declared.fault.UpgradeFault.{UpgradeFault}
use Rattle.upgrade.specs.Upgrades.{Upgrades}
use Rattle.upgrade.specs.State.{Upgrading}
use Rattle.yamux_session.specs.declared.event.Role.{Role}
use Rattle.conn_log.specs.declared.event.ConnEvent.{ConnEvent}
use Rattle.conn_log.specs.declared.event.ConnEvent.TheVariants as event
use Rattle.conn_log.specs.declared.event.ConnFault.{ConnFault}
use Rattle.conn_log.specs.Rests.{AreAtRest}
use Rattle.mux.specs.declared.mux.Mux.{Mux}
use Rattle.conn_core.specs.Connects.{IsComing, IsUpWith, Ends, session_role, told_of}
use Rattle.conn_core.specs.Connects.Ends.{Upgrade}
use Rattle.conn_core.proofs.Going.{as_known}

module _ {P H : Type 0} (step : H → HandlerCall → H → Type 0) (fails : H → Asked → ℕ → Type 0)
    (is_closed is_finished : H → Bool) (inbound_makes outbound_makes : P → ℕ → List ℕ → H → Type 0)
    (listed : P → List (List ℕ)) (is_eager : P → ℕ → Bool)
    (inbound_leads outbound_leads : P → ℕ → List ℕ → H → P → Type 0) (start : P) (role : ConnRole) (own : Key) where
  just_up : (protocols : P) (mux : Mux P H) (key : Key) (first written : List ℕ) (peer : List ℕ) (side : Role)
      → protocols ≡ start → side ≡ session_role role → peer ≡ id_of key
      → mux.board.protocols ≡ protocols → mux.board.role ≡ side → mux.board.peer ≡ peer → mux.board.order ≡ []
      → AreAtRest step fails is_closed is_finished inbound_makes outbound_makes (is_eager protocols) (listed protocols) peer side [] [] [] mux.session (tree.get nat_cmp mux.board.streams) mux.board.past.items
      → Upgrades role own first (Ok (Some key)) written
      → IsUpWith step fails is_closed is_finished inbound_makes outbound_makes listed is_eager inbound_leads outbound_leads start role own first [] (event.Upgraded key ∷ []) written mux
  just_up protocols mux key first written peer side started side_is peer_is protocols_are role_is board_peer none_held fresh upgraded = (
    ap listed (protocols_are ∙ started),
    ap is_eager (protocols_are ∙ started),
    role_is ∙ side_is,
    (
      record {
        key = key;
        first = first;
        rest = [];
        greeting = written;
        input_is = sym (append-nil first);
        upgraded = upgraded;
        at_rest = as_known (is_eager protocols) (is_eager start) (listed protocols) (listed start) peer (id_of key) side (session_role role) (ap is_eager started) (ap listed started) peer_is side_is
            (λ e n p r. AreAtRest step fails is_closed is_finished inbound_makes outbound_makes e n p r [] [] [] mux.session (tree.get nat_cmp mux.board.streams) mux.board.past.items) fresh;
        rested = tt;
        now = start;
        makes = refl;
        early = λ n index is. absurd (cc is);
        told_is = refl;
        written_is = sym (append-nil written);
      },
      board_peer ∙ peer_is,
      protocols_are ∙ started,
      none_held,
    ),
  )

  -- it comes up by a part of this piece
  pub comes_up : (x : Upgrading) (protocols : P) (mux : Mux P H) (key : Key) (input taken piece read pending given : List ℕ) (used : ℕ) (peer : List ℕ) (side : Role)
      → IsComing step fails is_closed is_finished inbound_makes outbound_makes listed is_eager inbound_leads outbound_leads start role own input [] taken x protocols → read ≡ piece → given ≡ pending
      → Upgrades x.role x.own (input ++ take used read) (Ok (Some key)) (taken ++ pending)
      → side ≡ session_role role → peer ≡ id_of key
      → mux.board.protocols ≡ protocols → mux.board.role ≡ side → mux.board.peer ≡ peer → mux.board.order ≡ []
      → AreAtRest step fails is_closed is_finished inbound_makes outbound_makes (is_eager protocols) (listed protocols) peer side [] [] [] mux.session (tree.get nat_cmp mux.board.streams) mux.board.past.items
      → IsUpWith step fails is_closed is_finished inbound_makes outbound_makes listed is_eager inbound_leads outbound_leads start role own (input ++ take used piece) [] (event.Upgraded key ∷ []) (taken ++ given) mux
  comes_up x protocols mux key input taken piece read pending given used peer side coming read_is given_is upgrades side_is peer_is protocols_are role_is board_peer none_held fresh =
      let first = input ++ take used piece in
      let by_piece = subst (λ (t : List ℕ). Upgrades x.role x.own (input ++ take used t) (Ok (Some key)) (taken ++ pending)) read_is upgrades in
      let upgraded = subst (λ (r : ConnRole). Upgrades r own first (Ok (Some key)) (taken ++ pending)) coming.role_is
      (subst (λ (k : Key). Upgrades x.role k first (Ok (Some key)) (taken ++ pending)) coming.own_is by_piece) in
      just_up protocols mux key first (taken ++ given) peer side coming.protocols_are side_is peer_is protocols_are role_is board_peer none_held fresh
      (subst (λ (t : List ℕ). Upgrades role own first (Ok (Some key)) (taken ++ t)) (sym given_is) upgraded)

  pub upgrade_failed : (why : UpgradeFault) (named : ConnFault) (input written : List ℕ) (told : List (ConnEvent H)) → told_of why ≡ Some named → Upgrades role own input (Err why) written
      → told ≡ event.Fault named ∷ [] → Ends step fails is_closed is_finished inbound_makes outbound_makes listed is_eager inbound_leads outbound_leads start role own input false [] told written
  upgrade_failed why named input written told told_is upgrades is =
      Upgrade why named input told_is (record { rest = []; input_is = sym (append-nil input); upgrades = upgrades; all = λ up. refl }) refl is
