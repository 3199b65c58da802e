-- What holds of every text of a place.
-- Source: this project's laws on multiaddr (multiformats).
use Rattle.std.specs.Prelude.{◌≡◌, ◌≢◌, ℕ, List, None}
use Rattle.std.specs.declared.net.socket_addr.SocketAddr.{SocketAddr}
use Rattle.std.specs.Net.Socket.{socket_port, IsSocketAddr, IsPlainSocket}
use Rattle.multiaddr.specs.declared.fault.AddrFault.TheVariants.{OutOfMemory}
use Rattle.node_place.specs.declared.place.Place.{Place}
use Rattle.node_place.specs.declared.place.PlaceFault.{PlaceFault}
use Rattle.node_place.specs.declared.place.PlaceFault.TheVariants.{Addr}
use Rattle.node_place.specs.Places.{ReadsPlace, RefusesPlace, PrintsSocket}

-- A text names at most one place, or has at most one fault, and not both. What is printed of a socket names it.
pub record OnePlace : Type 0 where
  pub place : (text : List ℕ) (place other : Place) → ReadsPlace text place → ReadsPlace text other → place ≡ other
  pub fault : (text : List ℕ) (fault other : PlaceFault) → RefusesPlace text fault → RefusesPlace text other
      → fault ≢ Addr OutOfMemory → other ≢ Addr OutOfMemory → fault ≡ other
  pub either : (text : List ℕ) (place : Place) (fault : PlaceFault)
      → ReadsPlace text place → RefusesPlace text fault → fault ≡ Addr OutOfMemory
  pub printed : (text : List ℕ) (addr : SocketAddr) → IsSocketAddr addr → IsPlainSocket addr (socket_port addr)
      → PrintsSocket text addr → ReadsPlace text (record { addr = addr; peer = None })
