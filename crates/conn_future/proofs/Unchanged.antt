-- A connection whose core is as it was is as it was: each of its facts has one proof.
use Rattle.std.proofs.Common.{◌≡◌, ◌∙◌, ◌<◌, ◌-◌, ◌^◌, [], true, false, length, ap}
use Rattle.std.proofs.Props.{props}
use Rattle.conn_link.specs.declared.link.Link.{Ghosts as LinkGhosts}
use Rattle.handlers.specs.declared.handler.Handler.{Ghosts as HandlerGhosts}
use Rattle.handlers.specs.declared.protocols.Protocols.{Ghosts as ProtocolsGhosts}
use Rattle.conn_core.specs.declared.connection.ConnCore.{ConnCore}
use Rattle.conn_future.specs.declared.conn.Conn.{Conn}
use Rattle.conn_future.specs.Stages.{is_live}

module _ {L P H : Type 0} (link : LinkGhosts L) (protocols : ProtocolsGhosts P H) (handler : HandlerGhosts H) where
  pub same_core : (old : Conn L P H link protocols handler) (core : ConnCore P H)
      (can_fail : is_live old.stage ≡ true → link.failed old.link < 2 ^ 64 - 1) (has_room : length old.buffer.items ≡ 8192)
      (none_left : is_live old.stage ≡ false → old.unsent.items ≡ [])
      → core ≡ old.core
      → ◌≡◌ {A = Conn L P H link protocols handler} (record old { core = core; can_fail = can_fail; has_room = has_room; none_left = none_left }) old
  same_core old core can_fail has_room none_left same =
      let once : IsProp (is_live old.stage ≡ true → link.failed old.link < 2 ^ 64 - 1) = hlevel props in
      let room : IsProp (length old.buffer.items ≡ 8192) = hlevel props in
      let also : IsProp (is_live old.stage ≡ false → old.unsent.items ≡ []) = hlevel props in
      ap (λ (fact : is_live old.stage ≡ true → link.failed old.link < 2 ^ 64 - 1). record old { core = core; can_fail = fact; has_room = has_room; none_left = none_left }) (once can_fail old.can_fail)
      ∙ (ap (λ (fact : length old.buffer.items ≡ 8192). record old { core = core; has_room = fact; none_left = none_left }) (room has_room old.has_room)
      ∙ (ap (λ (fact : is_live old.stage ≡ false → old.unsent.items ≡ []). record old { core = core; none_left = fact }) (also none_left old.none_left)
      ∙ ap (λ (c : ConnCore P H). record old { core = c }) same))
