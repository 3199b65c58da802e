-- The one address that a socket's bytes spell: it is read, and printed, unless memory runs out.
use Rattle.std.proofs.Common.{arith, refl, ap, ◌≡◌, ◌⊎◌, inl, inr, ℕ, Result, Ok, Err, List, [], ◌∷◌, length, sym, subst, ◌∙◌}
use Rattle.std.specs.List.{flat_map}
use Rattle.std.proofs.lemmas.List.{append-nil, length-append}
use Rattle.varint_proto.specs.Varint.{shortest}
use Rattle.multiaddr.specs.declared.socket.Ip.{Ip}
use Rattle.multiaddr.specs.declared.fault.AddrFault.{AddrFault}
use Rattle.multiaddr.specs.declared.fault.AddrFault.TheVariants.{Empty, UnknownProtocol, Cut, BadValue, OutOfMemory}
use Rattle.multiaddr.specs.Part.{spelling, IsValue, IsOpaque, Address, SpellsAddress}
use Rattle.multiaddr.specs.Given.{host_part, port_part}
use Rattle.multiaddr.specs.Text.{PrintsParts, RefusesPrint}
use Rattle.multiaddr.proofs.Parts.{some_code}
use Rattle.multiaddr.proofs.OneAddress.{one_address}

abbrev pub socket_address : Ip → ℕ → Address
socket_address host port = record { parts = host_part host ∷ port_part port ∷ []; opaque = [] }

pub is_spelt : (host : Ip) (port : ℕ) (bytes : List ℕ) → IsValue (host_part host).protocol (host_part host).value
    → bytes ≡ flat_map spelling (host_part host ∷ port_part port ∷ []) → SpellsAddress bytes (socket_address host port)
is_spelt host port bytes value e = (
  record { some = omega arith; parts = (value, (refl, tt)); opaque = inl refl },
  e ∙ sym (append-nil (flat_map spelling (host_part host ∷ port_part port ∷ []))),
)

pub read_fault : (bytes : List ℕ) (r : Result (List ℕ) AddrFault) (fault : AddrFault)
    → (r ≡ Ok bytes) ⊎ (r ≡ Err OutOfMemory) → r ≡ Err fault → fault ≡ OutOfMemory
read_fault bytes r fault (inl read) e = absurd (cc)
read_fault bytes r fault (inr refused) e = cc

pub printed : (host : Ip) (port : ℕ) (bytes text : List ℕ) (a : Address) → SpellsAddress bytes (socket_address host port)
    → SpellsAddress bytes a → PrintsParts text a.parts → PrintsParts text (host_part host ∷ port_part port ∷ [])
printed host port bytes text a here there h =
    subst (λ (it : Address). PrintsParts text it.parts) (one_address bytes a (socket_address host port) there here) h

pub no_opaque : IsOpaque [] → ⊥
no_opaque o = omega (arith, ap length o.3, length-append (shortest o.0) o.1, some_code o.0)

pub print_fault : (host : Ip) (port : ℕ) (bytes : List ℕ)
    → SpellsAddress bytes (socket_address host port) → (fault : AddrFault) → RefusesPrint bytes fault → fault ≡ OutOfMemory
print_fault host port bytes here OutOfMemory h = refl
print_fault host port bytes here Empty h = absurd h
print_fault host port bytes here Cut h = absurd h
print_fault host port bytes here BadValue h = absurd h
print_fault host port bytes here UnknownProtocol h =
    let same = one_address bytes h.0 (socket_address host port) h.1 here in
    absurd (no_opaque (subst (λ (it : Address). IsOpaque it.opaque) same h.2))
