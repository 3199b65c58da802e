use Rattle.std.proofs.Common.{◌≡◌}
use Rattle.std.specs.Prelude.{IfSome, IfNone}
use Rattle.clients.specs.Negotiation.{AreJoined, Came}
use Rattle.clients.proofs.negotiation.negotiate.Given as goal

abbrev pub invariant-rounds : goal.invariant-rounds
invariant-rounds l = record {
  dialed : l.dialer.names ≡ l.initial.dialer.names;
  served : l.listener.names ≡ l.initial.listener.names;
  joined : AreJoined l.dialer l.listener;
  came : IfSome l.ends (Came l.initial.dialer.names l.initial.listener.names);
  none : IfNone l.ends (l._name-index ≡ 0);
}
