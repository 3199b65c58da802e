-- Which parts begin with a name, told by the first byte of their spelling.
use Rattle.std.proofs.Common.{arith, refl, ◌≡◌, ◌⊎◌, inl, inr, ℕ, ◌<◌, ◌≤◌, List, [], ◌∷◌, ◌++◌, Some, None, subst, sym, ◌∙◌, Bool, MatchBool, leb}
use Rattle.std.proofs.lemmas.Bool.{lt-leb}
use Rattle.std.proofs.lemmas.Bool.Decides.{leb_tells}
use Rattle.std.specs.List.{flat_map, slice_get}
use Rattle.varint_proto.specs.Varint.{shortest, shortest_within}
use Rattle.multiaddr.specs.declared.protocol.Protocol.{Protocol}
use Rattle.multiaddr.specs.declared.protocol.Protocol.TheVariants.{Ip4, Tcp, Ip6, Dns, Dns4, Dns6, P2p}
use Rattle.multiaddr.specs.Part.{Part, part, spelling}
use Rattle.node_place.specs.Places.{BeginsWithName}

abbrev pub IsName : Protocol → Type 0
IsName protocol = (protocol ≡ Dns) ⊎ (protocol ≡ Dns4) ⊎ (protocol ≡ Dns6)

-- the first byte of the spelling of a protocol's code
abbrev pub first_byte : Protocol → ℕ
first_byte Ip4 = 4
first_byte Tcp = 6
first_byte Ip6 = 41
first_byte Dns = 53
first_byte Dns4 = 54
first_byte Dns6 = 55
first_byte P2p = 165

some_inj : {a b : ℕ} → Some a ≡ Some b → a ≡ b
some_inj e = cc

begins : (protocol : Protocol) (value rest : List ℕ)
    → slice_get (spelling (part protocol value) ++ rest) 0 ≡ Some (first_byte protocol)
unfolding shortest shortest_within
begins Ip4 value rest = refl
begins Tcp value rest = refl
begins Ip6 value rest = refl
begins Dns value rest = refl
begins Dns4 value rest = refl
begins Dns6 value rest = refl
begins P2p value rest = refl

by_byte : (protocol : Protocol) → 53 ≤ first_byte protocol → first_byte protocol ≤ 55 → IsName protocol
by_byte Ip4 low high = absurd (omega arith)
by_byte Tcp low high = absurd (omega arith)
by_byte Ip6 low high = absurd (omega arith)
by_byte Dns low high = inl refl
by_byte Dns4 low high = inr (inl refl)
by_byte Dns6 low high = inr (inr refl)
by_byte P2p low high = absurd (omega arith)

within : (protocol : Protocol) → IsName protocol → (53 ≤ first_byte protocol) × (first_byte protocol ≤ 55)
within protocol (inl e) = subst (λ (it : Protocol). (53 ≤ first_byte it) × (first_byte it ≤ 55)) (sym e) (omega arith, omega arith)
within protocol (inr (inl e)) = subst (λ (it : Protocol). (53 ≤ first_byte it) × (first_byte it ≤ 55)) (sym e) (omega arith, omega arith)
within protocol (inr (inr e)) = subst (λ (it : Protocol). (53 ≤ first_byte it) × (first_byte it ≤ 55)) (sym e) (omega arith, omega arith)

-- the first byte of the parts' spelling
first_is : (p : Part) (parts : List Part) (b : ℕ) → slice_get (flat_map spelling (p ∷ parts)) 0 ≡ Some b
    → first_byte p.protocol ≡ b
first_is p parts b e = some_inj (sym (begins p.protocol p.value (flat_map spelling parts)) ∙ e)

unnamed_below : (parts : List Part) (b : ℕ) → slice_get (flat_map spelling parts) 0 ≡ Some b → b < 53
    → ¬ BeginsWithName parts
unnamed_below [] b e low = λ named. named
unnamed_below (p ∷ parts) b e low = λ named.
    let same = first_is p parts b e in let least = (within p.protocol named).0 in absurd (omega arith)

unnamed_above : (parts : List Part) (b : ℕ) → slice_get (flat_map spelling parts) 0 ≡ Some b → 55 < b
    → ¬ BeginsWithName parts
unnamed_above [] b e high = λ named. named
unnamed_above (p ∷ parts) b e high = λ named.
    let same = first_is p parts b e in let most = (within p.protocol named).1 in absurd (omega arith)

named_between : (parts : List Part) (b : ℕ) → slice_get (flat_map spelling parts) 0 ≡ Some b → 53 ≤ b → b ≤ 55
    → BeginsWithName parts
named_between [] b e low high = absurd (cc)
named_between (p ∷ parts) b e low high =
    let same = first_is p parts b e in by_byte p.protocol (omega arith) (omega arith)

-- no part begins where no byte does
pub nameless : (parts : List Part) → slice_get (flat_map spelling parts) 0 ≡ None → ¬ BeginsWithName parts
nameless [] e = λ named. named
nameless (p ∷ parts) e = λ named.
    let there : None ≡ Some (first_byte p.protocol) = sym e ∙ begins p.protocol p.value (flat_map spelling parts) in
    absurd (cc)

abbrev pub Tells : Bool → List Part → Type 0
Tells result parts = MatchBool result (BeginsWithName parts) (¬ BeginsWithName parts)

pub told_below : (parts : List Part) (b : ℕ) → slice_get (flat_map spelling parts) 0 ≡ Some b → b < 53
    → Tells (leb 53 b) parts
told_below parts b e low = subst (λ (it : Bool). Tells it parts) (sym (lt-leb 53 b low)) (unnamed_below parts b e low)

pub told_from : (parts : List Part) (b : ℕ) → slice_get (flat_map spelling parts) 0 ≡ Some b → 53 ≤ b
    → Tells (leb b 55) parts
told_from parts b e low = elim (leb_tells b 55) [
  | inl under ↦ subst (λ (it : Bool). Tells it parts) (sym under.0) (named_between parts b e low under.1)
  | inr over ↦ subst (λ (it : Bool). Tells it parts) (sym over.0) (unnamed_above parts b e over.1)
]
