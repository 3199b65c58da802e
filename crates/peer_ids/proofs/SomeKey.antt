-- All bytes spell a key or are refused.
use Rattle.std.proofs.Common.{◌≡◌, ◌≢◌, ◌⊎◌, ℕ, zero, suc, ◌≤◌, List, length, Option, Some, None, refl, sym, ap, ◌∙◌, arith, inl, inr}
use Rattle.std.specs.Prelude.{IsSome}
use Rattle.std.proofs.lemmas.Bool.{cases_lt, cases_eq}
use Rattle.varint_proto.specs.Message.{Entry, IsMessage, last_varint, last_body}
use Rattle.varint_proto.proofs.SomeReading.{some_reading}
use Rattle.peer_ids.specs.declared.kind.KeyType.{KeyType}
use Rattle.peer_ids.specs.declared.kind.KeyType.TheVariants.{Rsa, Ed25519, Secp256k1, Ecdsa}
use Rattle.peer_ids.specs.declared.fault.KeyFault.{KeyFault}
use Rattle.peer_ids.specs.declared.fault.KeyFault.TheVariants.{Wire, NoType, NoData, UnknownType, BadLength, OutOfMemory}
use Rattle.peer_ids.specs.Key.{Key, number_of, IsAllowed}
use Rattle.peer_ids.specs.ReadsKey.{IsKey, KeyFaultOf, RefusesKey}
use Rattle.peer_ids.specs.Laws.{SomeKey}

some_is : {A : Type 0} (o : Option A) (x : A) → o ≡ Some x → IsSome o
some_is None x e = absurd cc
some_is (Some y) x e = refl

between : (len : ℕ) → ((1 ≤ len) × (len ≤ 4096)) ⊎ (((1 ≤ len) × (len ≤ 4096)) → ⊥)
between len = elim (cases_lt len 1) [
  | inl none ↦ inr (λ h. omega (arith, none, h.0))
  | inr some ↦ elim (cases_lt 4096 len) [ inl large ↦ inr (λ h. omega (arith, large, h.1)) | inr fits ↦ inl (some, fits) ]
]

allowed : (kind : KeyType) (len : ℕ) → IsAllowed kind len ⊎ (IsAllowed kind len → ⊥)
allowed Ed25519 len = cases_eq len 32
allowed Rsa len = between len
allowed Secp256k1 len = between len
allowed Ecdsa len = between len

kind_of : (n : ℕ) → ((kind : KeyType) × (number_of kind ≡ n)) ⊎ (4 ≤ n)
kind_of zero = inl (Rsa, refl)
kind_of (suc zero) = inl (Ed25519, refl)
kind_of (suc (suc zero)) = inl (Secp256k1, refl)
kind_of (suc (suc (suc zero))) = inl (Ecdsa, refl)
kind_of (suc (suc (suc (suc n)))) = inr (omega arith)

KeyIn : List Entry → Type 0
KeyIn fields = ((key : Key) × IsKey fields key) ⊎ ((fault : KeyFault) × (fault ≢ OutOfMemory) × (fault ≢ Wire) × KeyFaultOf fields fault)

key_in : (fields : List Entry) (kind : Option ℕ) (body : Option (List ℕ)) → last_varint 1 fields ≡ kind → last_body 2 fields ≡ body → KeyIn fields
unfolding KeyIn
key_in fields None body e f = inr (NoType, (λ h. cc), (λ h. cc), e)
key_in fields (Some n) None e f = inr (NoData, (λ h. cc), (λ h. cc), (some_is _ n e, f))
key_in fields (Some n) (Some body) e f = elim (kind_of n) [
  | inr large ↦ inr (UnknownType, (λ h. cc), (λ h. cc), (n, e, large, some_is _ body f))
  | inl known ↦ elim (allowed known.0 (length body)) [
    | inl fits ↦ inl (record { kind = known.0; body = body }, record { kind = e ∙ ap Some (sym known.1); body = f; allowed = fits })
    | inr not ↦ inr (BadLength, (λ h. cc), (λ h. cc), (known.0, body, e ∙ ap Some (sym known.1), f, not))
  ]
]

refused : (bytes : List ℕ) (fields : List Entry) (fault : KeyFault) → IsMessage bytes fields → fault ≢ OutOfMemory → fault ≢ Wire → KeyFaultOf fields fault → RefusesKey bytes fault
refused bytes fields Wire m n w h = absurd (w refl)
refused bytes fields OutOfMemory m n w h = absurd (n refl)
refused bytes fields NoType m n w h = (fields, m, h)
refused bytes fields NoData m n w h = (fields, m, h)
refused bytes fields UnknownType m n w h = (fields, m, h)
refused bytes fields BadLength m n w h = (fields, m, h)

pub some_key : SomeKey
unfolding KeyIn
some_key bytes = elim (some_reading bytes) [
  | inr h ↦ inr (Wire, (λ e. cc), h)
  | inl h ↦ elim (key_in h.0 (last_varint 1 h.0) (last_body 2 h.0) refl refl) [ inl key ↦ inl (key.0, (h.0, h.1, key.1)) | inr fault ↦ inr (fault.0, fault.1, refused bytes h.0 fault.0 h.1 fault.1 fault.2 fault.3) ]
]
