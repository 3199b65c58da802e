-- A text whose bytes are refused is no key.
use Rattle.std.proofs.Common.{◌≡◌, ◌≢◌, ℕ, List, Ok}
use Rattle.hex.specs.Hex.{decode_of}
use Rattle.peer_ids.specs.Key.{Key}
use Rattle.peer_ids.specs.declared.fault.KeyFault.{KeyFault}
use Rattle.peer_ids.specs.declared.fault.KeyFault.TheVariants as fault
use Rattle.peer_ids.specs.ReadsKey.{RefusesKey}
use Rattle.peer_ids.proofs.OneKey.{key_or_fault}
use Rattle.node_words.specs.Words.{IsKey}

pub no_key : (text : List ℕ) (why : KeyFault)
    → (why ≢ fault.OutOfMemory) × (bytes : List ℕ) × (decode_of text ≡ Ok bytes) × RefusesKey bytes why
    → (key : Key) → IsKey text key → ⊥
no_key text why bad key is =
    let same : bad.1 ≡ is.0 = cc (bad.2, is.1) in
    key_or_fault is.0 key why bad.0 is.2 (rw same at bad.3)
