-- Messages of identify: their key, merging, and that one stands for its bytes.
use Rattle.std.proofs.Common.{◌≡◌, ◌≢◌, ◌⊎◌, ◌≤◌, ℕ, List, Option, Some, None, Result, Ok, Err, refl, sym, ap, subst, ◌∙◌, inl, inr}
use Rattle.std.specs.Prelude.{IfOk, IfErr}
use Rattle.std.specs.Global.{Vec}
use Rattle.std.specs.Option.{option_or}
use Rattle.varint_proto.specs.declared.fault.WireFault.{WireFault}
use Rattle.varint_proto.specs.Message.{Entry, IsMessage, FaultIn, last_body}
use Rattle.varint_proto.proofs.OneReading.{one_message, message_or_fault}
use Rattle.peer_ids.specs.Key.{Key}
use Rattle.peer_ids.specs.PeerId.{id_of}
use Rattle.peer_ids.specs.ReadsKey.{SpellsKey}
use Rattle.peer_ids.proofs.OneKey.{one_key, key_or_fault}
use Rattle.identify_h.specs.declared.fault.IdentifyFault.{IdentifyFault}
use Rattle.identify_h.specs.declared.fault.IdentifyFault.TheVariants.{Failed, TooLong, TooMany, Wire, OtherKey, Cut, OutOfMemory}
use Rattle.identify_h.specs.Messages.{Message, IsKeyOf, Says, Spells, IsOtherKey, IsKeySpelt, HasText, Refuses, HasBadKey, OneMessage, newer}
use Rattle.identify_h.specs.Parts.{text}

-- memory is asked for to keep a field, and the key is the peer's
pub is_spelt : (peer : List ℕ) (spelling : Option (List ℕ)) (key : Option Key) → IsKeyOf peer spelling key → IsKeySpelt spelling
is_spelt peer None None is = tt
is_spelt peer None (Some key) is = absurd is
is_spelt peer (Some bytes) None is = absurd is
is_spelt peer (Some bytes) (Some key) is = (key, is.0)

-- memory is refused for a text
pub text_refused : (peer bytes : List ℕ) (fields : List Entry) (number : ℕ) (part : Option (List ℕ)) → 4 ≤ number → number ≤ 6 → IsMessage bytes fields
    → IsKeySpelt (last_body 1 fields) → part ≡ last_body number fields → HasText part → Refuses peer bytes OutOfMemory
text_refused peer bytes fields number part least most message spelt is text =
    (fields, message, spelt, inr (number, least, most, subst HasText is text))

-- ---- one message

same_key : (peer : List ℕ) (spelling : Option (List ℕ)) (a b : Option Key) → IsKeyOf peer spelling a → IsKeyOf peer spelling b → a ≡ b
same_key peer None None None p q = refl
same_key peer None None (Some b) p q = absurd q
same_key peer None (Some a) b p q = absurd p
same_key peer (Some s) None b p q = absurd p
same_key peer (Some s) (Some a) None p q = absurd q
same_key peer (Some s) (Some a) (Some b) p q = ap Some (one_key s a b p.0 q.0)

pub same_message : (a b : Message) → a.key ≡ b.key → a.listen ≡ b.listen → a.protocols ≡ b.protocols → a.observed ≡ b.observed → a.version ≡ b.version
    → a.agent ≡ b.agent → a ≡ b
same_message a b k l p o v g =
    ap (λ x. record a { key = x }) k ∙ ap (λ x. record a { key = b.key; listen = x }) l
    ∙ ap (λ x. record a { key = b.key; listen = b.listen; protocols = x }) p
    ∙ ap (λ x. record a { key = b.key; listen = b.listen; protocols = b.protocols; observed = x }) o
    ∙ ap (λ x. record a { key = b.key; listen = b.listen; protocols = b.protocols; observed = b.observed; version = x }) v
    ∙ ap (λ x. record a { key = b.key; listen = b.listen; protocols = b.protocols; observed = b.observed; version = b.version; agent = x }) g

says_one : (peer : List ℕ) (fields : List Entry) (m n : Message) → Says peer fields m → Says peer fields n → m ≡ n
says_one peer fields m n a b =
    same_message m n (same_key peer (last_body 1 fields) m.key n.key a.key b.key) (a.listen ∙ sym b.listen) (a.protocols ∙ sym b.protocols)
    (a.observed ∙ sym b.observed) (a.version ∙ sym b.version) (a.agent ∙ sym b.agent)

pub one_spelt : OneMessage
one_spelt peer bytes m n p q =
    says_one peer p.0 m n p.2 (subst (λ (t : List Entry). Says peer t n) (sym (one_message bytes p.0 q.0 p.1 q.1)) q.2)

-- ---- a message has no fault

other_key : (peer spelling : List ℕ) (key : Key) → SpellsKey spelling key → id_of key ≡ peer → IsOtherKey peer spelling → ⊥
other_key peer spelling key spells own (inl faulty) = key_or_fault spelling key faulty.0 faulty.1 spells faulty.2
other_key peer spelling key spells own (inr other) =
    other.2 (ap id_of (one_key spelling other.0 key other.1 spells) ∙ own)

key_is : (peer spelling : List ℕ) (found : Option (List ℕ)) (key : Option Key) → found ≡ Some spelling → IsKeyOf peer found key → IsOtherKey peer spelling → ⊥
key_is peer spelling None key e is other = absurd (let none : None ≡ Some spelling = e in cc)
key_is peer spelling (Some s) None e is other = absurd is
key_is peer spelling (Some s) (Some key) e is other =
    let same : s ≡ spelling = cc in
    other_key peer spelling key (subst (λ (t : List ℕ). SpellsKey t key) same is.0) is.1 other

pub message_or_refused : (peer bytes : List ℕ) (m : Message) (fault : IdentifyFault) → fault ≢ OutOfMemory → Spells peer bytes m → Refuses peer bytes fault → ⊥
message_or_refused peer bytes m Wire some p refused = message_or_fault bytes p.0 refused.0 p.1 refused.1
message_or_refused peer bytes m OtherKey some p refused =
    let same = one_message bytes refused.0 p.0 refused.1 p.1 in
    key_is peer refused.2.0 (last_body 1 p.0) m.key (ap (last_body 1) (sym same) ∙ refused.2.1) p.2.key refused.2.2
message_or_refused peer bytes m OutOfMemory some p refused = some refl
message_or_refused peer bytes m Failed some p refused = refused
message_or_refused peer bytes m TooLong some p refused = refused
message_or_refused peer bytes m TooMany some p refused = refused
message_or_refused peer bytes m Cut some p refused = refused

-- a body that is badly spelt has no other fault
pub wire_alone : (peer bytes : List ℕ) (fault : IdentifyFault) (wire : WireFault) → FaultIn bytes wire → Refuses peer bytes fault → fault ≡ Wire
wire_alone peer bytes Wire wire faulty refused = refl
wire_alone peer bytes OtherKey wire faulty refused = absurd (message_or_fault bytes refused.0 wire refused.1 faulty)
wire_alone peer bytes OutOfMemory wire faulty refused = absurd (message_or_fault bytes refused.0 wire refused.1 faulty)
wire_alone peer bytes Failed wire faulty refused = absurd refused
wire_alone peer bytes TooLong wire faulty refused = absurd refused
wire_alone peer bytes TooMany wire faulty refused = absurd refused
wire_alone peer bytes Cut wire faulty refused = absurd refused

pub only_message : (peer bytes : List ℕ) (r : Result Message IdentifyFault) → IfOk r (Spells peer bytes) → IfErr r (Refuses peer bytes)
    → (m : Message) → Spells peer bytes m → (r ≡ Ok m) ⊎ (r ≡ Err OutOfMemory)
only_message peer bytes (Ok n) ok err m spells = inl (ap Ok (one_spelt peer bytes n m ok spells))
only_message peer bytes (Err Wire) ok err m spells = absurd (message_or_refused peer bytes m Wire (λ e. cc) spells err)
only_message peer bytes (Err OtherKey) ok err m spells = absurd (message_or_refused peer bytes m OtherKey (λ e. cc) spells err)
only_message peer bytes (Err OutOfMemory) ok err m spells = inr refl
only_message peer bytes (Err Failed) ok err m spells = absurd err
only_message peer bytes (Err TooLong) ok err m spells = absurd err
only_message peer bytes (Err TooMany) ok err m spells = absurd err
only_message peer bytes (Err Cut) ok err m spells = absurd err

pub only_wire : (peer bytes : List ℕ) (r : Result Message IdentifyFault) → IfOk r (Spells peer bytes) → IfErr r (Refuses peer bytes)
    → (fault : WireFault) → FaultIn bytes fault → r ≡ Err Wire
only_wire peer bytes (Ok n) ok err fault faulty = absurd (message_or_fault bytes ok.0 fault ok.1 faulty)
only_wire peer bytes (Err e) ok err fault faulty = ap Err (wire_alone peer bytes e fault faulty err)

pub not_spelt : (bytes : List ℕ) (fields : List Entry) → IsMessage bytes fields → HasBadKey bytes → IsKeySpelt (last_body 1 fields) → ⊥
not_spelt bytes fields message bad spelt =
    let same = one_message bytes bad.0 fields bad.1 message in
    bad.2.2 (subst IsKeySpelt (sym (ap (last_body 1) same) ∙ bad.2.1) spelt)

pub only_key : (peer bytes : List ℕ) (r : Result Message IdentifyFault) → IfOk r (Spells peer bytes) → IfErr r (Refuses peer bytes)
    → Refuses peer bytes OtherKey → (r ≡ Err OtherKey) ⊎ (r ≡ Err OutOfMemory)
only_key peer bytes (Ok m) ok err refused = absurd (message_or_refused peer bytes m OtherKey (λ e. cc) ok refused)
only_key peer bytes (Err Wire) ok err refused = absurd (message_or_fault bytes refused.0 err.0 refused.1 err.1)
only_key peer bytes (Err OtherKey) ok err refused = inl refl
only_key peer bytes (Err OutOfMemory) ok err refused = inr refl
only_key peer bytes (Err Failed) ok err refused = absurd err
only_key peer bytes (Err TooLong) ok err refused = absurd err
only_key peer bytes (Err TooMany) ok err refused = absurd err
only_key peer bytes (Err Cut) ok err refused = absurd err

-- a key that isn't well spelt is refused, whatever else wants memory
pub only_bad_key : (peer bytes : List ℕ) (r : Result Message IdentifyFault) → IfOk r (Spells peer bytes) → IfErr r (Refuses peer bytes)
    → HasBadKey bytes → r ≡ Err OtherKey
only_bad_key peer bytes (Ok m) ok err bad = absurd (not_spelt bytes ok.0 ok.1 bad (is_spelt peer (last_body 1 ok.0) m.key ok.2.key))
only_bad_key peer bytes (Err Wire) ok err bad = absurd (message_or_fault bytes bad.0 err.0 bad.1 err.1)
only_bad_key peer bytes (Err OtherKey) ok err bad = refl
only_bad_key peer bytes (Err OutOfMemory) ok err bad = absurd (not_spelt bytes err.0 err.1 bad err.2)
only_bad_key peer bytes (Err Failed) ok err bad = absurd err
only_bad_key peer bytes (Err TooLong) ok err bad = absurd err
only_bad_key peer bytes (Err TooMany) ok err bad = absurd err
only_bad_key peer bytes (Err Cut) ok err bad = absurd err

-- ---- merging

pub newer_or : {A : Type 0} (new known : Option A) → option_or new known ≡ newer known new
newer_or None known = refl
newer_or (Some x) known = refl

pub newer_text : (new known : Option (Vec ℕ)) → text (option_or new known) ≡ newer (text known) (text new)
newer_text None known = refl
newer_text (Some x) known = refl
