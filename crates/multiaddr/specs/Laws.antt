-- What holds of every address and of every text.
-- Source: multiaddr (multiformats), and this project's laws on it.
use Rattle.std.specs.Prelude.{◌≡◌, ℕ, ◌<◌, List, All, length}
use Rattle.std.specs.List.{AllByRecursion}
use Rattle.multiaddr.specs.declared.fault.AddrFault.{AddrFault}
use Rattle.multiaddr.specs.Part.{Part, IsValue, Address, SpellsAddress, AddressFault}
use Rattle.multiaddr.specs.Text.{ReadsParts, TextFault, PrintsParts}

-- Bytes are at most one address, have at most one fault, and not both.
pub record OneReading : Type 0 where
  pub address : (bytes : List ℕ) (address other : Address)
      → SpellsAddress bytes address → SpellsAddress bytes other → address ≡ other
  pub fault : (bytes : List ℕ) (fault other : AddrFault)
      → AddressFault bytes fault → AddressFault bytes other → fault ≡ other
  pub either : (bytes : List ℕ) (address : Address) (fault : AddrFault)
      → SpellsAddress bytes address → ¬ AddressFault bytes fault

-- A text is read as at most one list of parts, has at most one fault, and not both.
pub record OneTextReading : Type 0 where
  pub parts : (text : List ℕ) (parts others : List Part)
      → ReadsParts text parts → ReadsParts text others → parts ≡ others
  pub fault : (text : List ℕ) (fault other : AddrFault)
      → TextFault text fault → TextFault text other → fault ≡ other
  pub either : (text : List ℕ) (parts : List Part) (fault : AddrFault)
      → ReadsParts text parts → ¬ TextFault text fault

-- Parts whose values are bytes of their protocols.
abbrev pub AreValues : List Part → Type 0
AreValues parts = AllByRecursion (λ p. IsValue p.protocol p.value × All (λ b. b < 256) p.value) parts

-- Parts are printed as one text, which is read as them. So two lists that print alike are alike.
pub record Printing : Type 0 where
  pub one : (text other : List ℕ) (parts : List Part) → AreValues parts
      → PrintsParts text parts → PrintsParts other parts → text ≡ other
  pub read : (text : List ℕ) (parts : List Part)
      → AreValues parts → 0 < length parts → PrintsParts text parts → ReadsParts text parts
  pub alike : (text : List ℕ) (parts others : List Part)
      → AreValues parts → AreValues others → PrintsParts text parts → PrintsParts text others
      → parts ≡ others
