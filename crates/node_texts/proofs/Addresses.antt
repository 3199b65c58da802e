-- The address of a text has the parts that were read, and no opaque part.
use Rattle.std.proofs.Common.{◌≡◌, ℕ, List, [], length, refl, sym, ap, ◌∙◌, arith, inl}
use Rattle.std.specs.List.{flat_map}
use Rattle.std.proofs.lemmas.List.{append-nil, length-append}
use Rattle.varint_proto.specs.Varint.{shortest}
use Rattle.multiaddr.specs.Part.{Part, spelling, IsOpaque, Address, SpellsAddress}
use Rattle.multiaddr.specs.declared.fault.AddrFault.{AddrFault}
use Rattle.multiaddr.specs.declared.fault.AddrFault.TheVariants.{Empty, UnknownProtocol, Cut, BadValue, OutOfMemory}
use Rattle.multiaddr.specs.Text.{ReadsParts, RefusesText, RefusesPrint}
use Rattle.multiaddr.proofs.Parts.{some_code}
use Rattle.multiaddr.proofs.TextParts.{are_parts}
use Rattle.multiaddr.proofs.OneAddress.{one_address}

whole : List Part → Address
whole parts = record { parts = parts; opaque = [] }

read_whole : (text bytes : List ℕ) (parts : List Part) → ReadsParts text parts → bytes ≡ flat_map spelling parts → SpellsAddress bytes (whole parts)
unfolding whole
read_whole text bytes parts h e = (record { some = omega (arith, h.0); parts = are_parts text [] parts h.1; opaque = inl refl }, e ∙ sym (append-nil (flat_map spelling parts)))

pub parts_are : (text bytes : List ℕ) (parts : List Part) (a : Address) → ReadsParts text parts → bytes ≡ flat_map spelling parts → SpellsAddress bytes a → (a.parts ≡ parts) × (a.opaque ≡ [])
unfolding whole
parts_are text bytes parts a h e s =
    let same = one_address bytes a (whole parts) s (read_whole text bytes parts h e) in
    (ap (λ (b : Address). b.parts) same, ap (λ (b : Address). b.opaque) same)

not_opaque : (bytes : List ℕ) → bytes ≡ [] → IsOpaque bytes → ⊥
not_opaque bytes none h = omega (arith, ap length none, ap length h.3, length-append (shortest h.0) h.1, some_code h.0)

-- the address of a text is unprinted for want of memory alone
pub unprinted : (text bytes : List ℕ) (fault : AddrFault) (parts : List Part) → ReadsParts text parts → bytes ≡ flat_map spelling parts → RefusesPrint bytes fault
    → RefusesText text fault
unprinted text bytes OutOfMemory parts h e r = (parts, h)
unprinted text bytes UnknownProtocol parts h e r = absurd (not_opaque r.0.opaque (parts_are text bytes parts r.0 h e r.1).1 r.2)
unprinted text bytes Empty parts h e r = absurd r
unprinted text bytes Cut parts h e r = absurd r
unprinted text bytes BadValue parts h e r = absurd r
