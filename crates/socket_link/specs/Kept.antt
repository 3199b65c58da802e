-- What a link over a socket keeps from one call to the next.
-- Source: this project's profile.
use Rattle.std.specs.Prelude.{◌≡◌}
use Rattle.socket_link.specs.declared.link.SocketLink.{SocketLink}

-- its fields, and nothing else
abbrev pub KeepsFields : Type 0 → Type 0
KeepsFields S = (link : SocketLink S) → link ≡ record {
  socket = link.socket;
  failures = link.failures;
  has_ended = link.has_ended;
  is_shut = link.is_shut;
}
