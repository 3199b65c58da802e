-- Bytes are at most one address, and have at most one fault.
use Rattle.std.proofs.Common.{◌≡◌, ◌≢◌, ◌⊎◌, ℕ, ◌+◌, ◌^◌, ◌<◌, ◌==◌, Option, Some, None, Result, Ok, Err, List, [], ◌∷◌, ◌++◌, length, refl, sym, ap, ◌∙◌, subst, arith, inl, inr, append_assoc, cond}
use Rattle.std.specs.Prelude.{IfOk, IfErr, OnOk}
use Rattle.std.specs.List.{flat_map}
use Rattle.std.proofs.lemmas.List.{length-append, take_at}
use Rattle.varint_proto.specs.declared.fault.WireFault.{WireFault}
use Rattle.varint_proto.specs.Varint.{value_of, shortest, ReadsShortest}
use Rattle.varint_proto.proofs.Shortest.{spells_shortest}
use Rattle.varint_proto.proofs.OneReading.{one_spelling}
use Rattle.varint_proto.proofs.OneShortest.{one_outcome}
use Rattle.peer_ids.specs.PeerId.{IsMultihash}
use Rattle.multiaddr.specs.declared.protocol.Protocol.{Protocol}
use Rattle.multiaddr.specs.declared.protocol.Protocol.TheVariants.{Ip4, Tcp, Ip6, Dns, Dns4, Dns6, P2p}
use Rattle.multiaddr.specs.declared.fault.AddrFault.{AddrFault}
use Rattle.multiaddr.specs.declared.fault.AddrFault.TheVariants.{Empty, UnknownProtocol, Cut, BadValue, OutOfMemory}
use Rattle.multiaddr.specs.Part.{Part, part, code_of, sized, spelling, IsName, IsValue, IsOpaque, Address, IsAddress, SpellsAddress, NumberFault, BodyFault, ValueFault, PartFault, AddressFault, RefusesAddress}
use Rattle.multiaddr.proofs.Parts.{AreParts, some_code}

pub append_once : (a b x y : List ℕ) → length a ≡ length b → a ++ x ≡ b ++ y → (a ≡ b) × (x ≡ y)
append_once [] [] x y l e = (refl, e)
append_once [] (m ∷ b) x y l e = absurd (omega arith)
append_once (k ∷ a) [] x y l e = absurd (omega arith)
append_once (k ∷ a) (m ∷ b) x y l e =
    let tails : a ++ x ≡ b ++ y = cc in
    let heads : k ≡ m = cc in
    let rest = append_once a b x y (omega arith) tails in
    (ap (λ (h : ℕ). h ∷ a) heads ∙ ap (λ (t : List ℕ). m ∷ t) rest.0, rest.1)

-- ---- numbers

one_number : (m n : ℕ) (x y : List ℕ) → m < 2 ^ 63 → n < 2 ^ 63 → shortest m ++ x ≡ shortest n ++ y → (m ≡ n) × (x ≡ y)
one_number m n x y p q e =
    let a = spells_shortest m p in
    let b = spells_shortest n q in
    let same = one_spelling (shortest m) (shortest n) x y a.ends b.ends e in
    (sym a.value ∙ ap value_of same.0 ∙ b.value, same.1)

reads_front : (n : ℕ) (x : List ℕ) → n < 2 ^ 63 → ReadsShortest (shortest n ++ x) (Ok (Some (n, length (shortest n))))
reads_front n x p = (omega (arith, length-append (shortest n) x), rw (take_at (shortest n) x (length (shortest n)) refl) (spells_shortest n p))

not_unfinished : (n : ℕ) (x : List ℕ) → n < 2 ^ 63 → ReadsShortest (shortest n ++ x) (Ok None) → ⊥
not_unfinished n x p h =
    let same : ◌≡◌ {A = Result (Option (ℕ × ℕ)) WireFault} (Ok (Some (n, length (shortest n)))) (Ok None) = one_outcome (shortest n ++ x) _ _ (reads_front n x p) h in
    absurd cc

not_misspelt : (n : ℕ) (x : List ℕ) (f : WireFault) → n < 2 ^ 63 → ReadsShortest (shortest n ++ x) (Err f) → ⊥
not_misspelt n x f p h =
    let same : ◌≡◌ {A = Result (Option (ℕ × ℕ)) WireFault} (Ok (Some (n, length (shortest n)))) (Err f) = one_outcome (shortest n ++ x) _ _ (reads_front n x p) h in
    absurd cc

number_is_there : (n : ℕ) (x : List ℕ) (fault : AddrFault) → n < 2 ^ 63 → NumberFault (shortest n ++ x) fault → ⊥
number_is_there n x Cut p h = not_unfinished n x p h
number_is_there n x BadValue p h = not_misspelt n x h.0 p h.1
number_is_there n x Empty p h = h
number_is_there n x UnknownProtocol p h = h
number_is_there n x OutOfMemory p h = h

unfinished_or_misspelt : (bytes : List ℕ) (f : WireFault) → ReadsShortest bytes (Ok None) → ReadsShortest bytes (Err f) → ⊥
unfinished_or_misspelt bytes f p q =
    let same : ◌≡◌ {A = Result (Option (ℕ × ℕ)) WireFault} (Ok None) (Err f) = one_outcome bytes _ _ p q in
    absurd cc

one_number_fault : (bytes : List ℕ) (f g : AddrFault) → NumberFault bytes f → NumberFault bytes g → f ≡ g
one_number_fault bytes Cut Cut p q = refl
one_number_fault bytes Cut BadValue p q = absurd (unfinished_or_misspelt bytes q.0 p q.1)
one_number_fault bytes BadValue Cut p q = absurd (unfinished_or_misspelt bytes p.0 q p.1)
one_number_fault bytes BadValue BadValue p q = refl
one_number_fault bytes Cut Empty p q = absurd q
one_number_fault bytes Cut UnknownProtocol p q = absurd q
one_number_fault bytes Cut OutOfMemory p q = absurd q
one_number_fault bytes BadValue Empty p q = absurd q
one_number_fault bytes BadValue UnknownProtocol p q = absurd q
one_number_fault bytes BadValue OutOfMemory p q = absurd q
one_number_fault bytes Empty g p q = absurd p
one_number_fault bytes UnknownProtocol g p q = absurd p
one_number_fault bytes OutOfMemory g p q = absurd p

-- ---- protocols

code_below : (p : Protocol) → code_of p < 2 ^ 63
code_below Ip4 = omega arith
code_below Tcp = omega arith
code_below Ip6 = omega arith
code_below Dns = omega arith
code_below Dns4 = omega arith
code_below Dns6 = omega arith
code_below P2p = omega arith

abbrev protocol_at : ℕ → Protocol
protocol_at n = cond (n == 4) Ip4 (cond (n == 6) Tcp (cond (n == 41) Ip6 (cond (n == 53) Dns (cond (n == 54) Dns4 (cond (n == 55) Dns6 P2p)))))

at_code : (p : Protocol) → protocol_at (code_of p) ≡ p
at_code Ip4 = refl
at_code Tcp = refl
at_code Ip6 = refl
at_code Dns = refl
at_code Dns4 = refl
at_code Dns6 = refl
at_code P2p = refl

same_protocol : (p q : Protocol) → code_of p ≡ code_of q → p ≡ q
same_protocol p q e = sym (at_code p) ∙ ap protocol_at e ∙ at_code q

one_code : (p q : Protocol) (x y : List ℕ) → shortest (code_of p) ++ x ≡ shortest (code_of q) ++ y → (p ≡ q) × (x ≡ y)
one_code p q x y e =
    let same = one_number (code_of p) (code_of q) x y (code_below p) (code_below q) e in
    (same_protocol p q same.0, same.1)

-- ---- values

hash_below : (v : List ℕ) → IsMultihash v → length v < 2 ^ 63
hash_below v h = elim h.1 [
  | inl short ↦ omega (arith, ap length short.0, short.1)
  | inr long ↦ omega (arith, ap length long.0, long.1)
]

name_below : (v : List ℕ) → IsName v → length v < 2 ^ 63
name_below v h = omega (arith, h.within)

one_body : (v w x y : List ℕ) → length v < 2 ^ 63 → length w < 2 ^ 63 → shortest (length v) ++ v ++ x ≡ shortest (length w) ++ w ++ y → (v ≡ w) × (x ≡ y)
one_body v w x y p q e =
    let joined : shortest (length v) ++ (v ++ x) ≡ shortest (length w) ++ (w ++ y) = sym (append_assoc (shortest (length v)) v x) ∙ e ∙ append_assoc (shortest (length w)) w y in
    let same = one_number (length v) (length w) (v ++ x) (w ++ y) p q joined in
    append_once v w x y same.0 same.1

no_body_fault : (v x : List ℕ) (fault : AddrFault) → length v < 2 ^ 63 → BodyFault (shortest (length v) ++ v ++ x) fault → ⊥
no_body_fault v x fault p (inl h) = number_is_there (length v) (v ++ x) fault p (rw append_assoc at h)
no_body_fault v x fault p (inr h) =
    let same = one_number (length v) h.1 (v ++ x) h.2 p h.3 (sym (append_assoc (shortest (length v)) v x) ∙ h.4) in
    omega (arith, same.0, ap length same.1, length-append v x, h.5)

-- Bytes begin with at most one value of a protocol.
one_value : (p : Protocol) (v w x y : List ℕ) → IsValue p v → IsValue p w → sized p v ++ x ≡ sized p w ++ y → (v ≡ w) × (x ≡ y)
one_value Ip4 v w x y p q e = append_once v w x y (p ∙ sym q) e
one_value Tcp v w x y p q e = append_once v w x y (p ∙ sym q) e
one_value Ip6 v w x y p q e = append_once v w x y (p ∙ sym q) e
one_value Dns v w x y p q e = one_body v w x y (name_below v p) (name_below w q) e
one_value Dns4 v w x y p q e = one_body v w x y (name_below v p) (name_below w q) e
one_value Dns6 v w x y p q e = one_body v w x y (name_below v p) (name_below w q) e
one_value P2p v w x y p q e = one_body v w x y (hash_below v p) (hash_below w q) e

-- what is wrong behind a length, where a value isn't wrong
no_sized_fault : (p : Protocol) (v x : List ℕ) (fault : AddrFault) → IsValue p v → length v < 2 ^ 63 → BodyFault (shortest (length v) ++ v ++ x) fault ⊎ ((fault ≡ BadValue) × (value : List ℕ) × (rest : List ℕ) × (length value < 2 ^ 63) × (shortest (length v) ++ v ++ x ≡ shortest (length value) ++ value ++ rest) × ¬ IsValue p value) → ⊥
no_sized_fault p v x fault here below (inl h) = no_body_fault v x fault below h
no_sized_fault p v x fault here below (inr h) = h.5 (subst (IsValue p) (one_body v h.1 x h.2 below h.3 h.4).0 here)

no_value_fault : (p : Protocol) (v x : List ℕ) (fault : AddrFault) → IsValue p v → ValueFault p (sized p v ++ x) fault → ⊥
no_value_fault Ip4 v x fault p h = omega (arith, p, h.1, length-append v x)
no_value_fault Tcp v x fault p h = omega (arith, p, h.1, length-append v x)
no_value_fault Ip6 v x fault p h = omega (arith, p, h.1, length-append v x)
no_value_fault Dns v x fault p h = no_sized_fault Dns v x fault p (name_below v p) h
no_value_fault Dns4 v x fault p h = no_sized_fault Dns4 v x fault p (name_below v p) h
no_value_fault Dns6 v x fault p h = no_sized_fault Dns6 v x fault p (name_below v p) h
no_value_fault P2p v x fault p h = no_sized_fault P2p v x fault p (hash_below v p) h

-- ---- parts

pub one_part : (p q : Protocol) (v w x y : List ℕ) → IsValue p v → IsValue q w → spelling (part p v) ++ x ≡ spelling (part q w) ++ y → (part p v ≡ part q w) × (x ≡ y)
one_part p q v w x y h k e =
    let joined : shortest (code_of p) ++ (sized p v ++ x) ≡ shortest (code_of q) ++ (sized q w ++ y) = sym (append_assoc (shortest (code_of p)) (sized p v) x) ∙ e ∙ append_assoc (shortest (code_of q)) (sized q w) y in
    let codes = one_code p q (sized p v ++ x) (sized q w ++ y) joined in
    let here : sized q v ++ x ≡ sized q w ++ y = subst (λ (r : Protocol). sized r v ++ x ≡ sized q w ++ y) codes.0 codes.1 in
    let values = one_value q v w x y (subst (λ (r : Protocol). IsValue r v) codes.0 h) k here in
    (ap (λ (r : Protocol). part r v) codes.0 ∙ ap (part q) values.0, values.1)

-- no part stands at the front
abbrev pub IsStuck : List ℕ → Type 0
IsStuck bytes = (p : Protocol) (v rest : List ℕ) → IsValue p v → bytes ≢ spelling (part p v) ++ rest

pub stuck_nil : IsStuck []
stuck_nil p v rest h e = omega (arith, ap length e, length-append (spelling (part p v)) rest, length-append (shortest (code_of p)) (sized p v), some_code (code_of p))

pub stuck_opaque : (bytes : List ℕ) → IsOpaque bytes → IsStuck bytes
stuck_opaque bytes o p v rest h e =
    let joined : shortest o.0 ++ o.1 ≡ shortest (code_of p) ++ (sized p v ++ rest) = sym o.3 ∙ e ∙ append_assoc (shortest (code_of p)) (sized p v) rest in
    o.4 p (sym (one_number o.0 (code_of p) o.1 (sized p v ++ rest) o.2 (code_below p) joined).0)

pub stuck_fault : (bytes : List ℕ) (fault : AddrFault) → PartFault bytes fault → IsStuck bytes
stuck_fault bytes fault (inl f) p v rest h e = number_is_there (code_of p) (sized p v ++ rest) fault (code_below p) (subst (λ (t : List ℕ). NumberFault t fault) (e ∙ append_assoc (shortest (code_of p)) (sized p v) rest) f)
stuck_fault bytes fault (inr f) p v rest h e =
    let joined : shortest (code_of f.0) ++ f.1 ≡ shortest (code_of p) ++ (sized p v ++ rest) = sym f.2 ∙ e ∙ append_assoc (shortest (code_of p)) (sized p v) rest in
    let codes = one_code f.0 p f.1 (sized p v ++ rest) joined in
    no_value_fault p v rest fault h (subst (λ (t : List ℕ). ValueFault p t fault) codes.1 (subst (λ (r : Protocol). ValueFault r f.1 fault) codes.0 f.3))

pub one_parts : (ps qs : List Part) (x y : List ℕ) → AreParts ps → AreParts qs → IsStuck x → IsStuck y → flat_map spelling ps ++ x ≡ flat_map spelling qs ++ y → (ps ≡ qs) × (x ≡ y)
one_parts [] [] x y g h s t e = (refl, e)
one_parts [] (q ∷ qs) x y g h s t e = absurd (s q.protocol q.value (flat_map spelling qs ++ y) h.0 (e ∙ append_assoc (spelling q) (flat_map spelling qs) y))
one_parts (p ∷ ps) [] x y g h s t e = absurd (t p.protocol p.value (flat_map spelling ps ++ x) g.0 (sym e ∙ append_assoc (spelling p) (flat_map spelling ps) x))
one_parts (p ∷ ps) (q ∷ qs) x y g h s t e =
    let joined : spelling p ++ (flat_map spelling ps ++ x) ≡ spelling q ++ (flat_map spelling qs ++ y) = sym (append_assoc (spelling p) (flat_map spelling ps) x) ∙ e ∙ append_assoc (spelling q) (flat_map spelling qs) y in
    let first = one_part p.protocol q.protocol p.value q.value (flat_map spelling ps ++ x) (flat_map spelling qs ++ y) g.0 h.0 joined in
    let rest = one_parts ps qs x y g.1 h.1 s t first.1 in
    (ap (λ (r : Part). r ∷ ps) first.0 ∙ ap (λ (r : List Part). q ∷ r) rest.0, rest.1)

pub stuck_end : (a : Address) → IsAddress a → IsStuck a.opaque
stuck_end a h = elim h.opaque [
  | inl none ↦ subst IsStuck (sym none) stuck_nil
  | inr some ↦ stuck_opaque a.opaque some
]

made : List Part → List ℕ → Address
made parts opaque = record { parts = parts; opaque = opaque }

-- Bytes are at most one address.
pub one_address : (bytes : List ℕ) (a b : Address) → SpellsAddress bytes a → SpellsAddress bytes b → a ≡ b
unfolding made
one_address bytes a b g h =
    let same = one_parts a.parts b.parts a.opaque b.opaque g.0.parts h.0.parts (stuck_end a g.0) (stuck_end b h.0) (sym g.1 ∙ h.1) in
    ap (λ (r : List Part). made r a.opaque) same.0 ∙ ap (made b.parts) same.1

-- ---- faults

body_or_bad : (p : Protocol) (bytes value rest : List ℕ) (f : AddrFault) → length value < 2 ^ 63 → bytes ≡ shortest (length value) ++ value ++ rest → BodyFault bytes f → ⊥
body_or_bad p bytes value rest f below e h = no_body_fault value rest f below (subst (λ (t : List ℕ). BodyFault t f) e h)

number_or_short : (bytes : List ℕ) (f : AddrFault) (len : ℕ) (body : List ℕ) → len < 2 ^ 63 → bytes ≡ shortest len ++ body → NumberFault bytes f → ⊥
number_or_short bytes f len body below e h = number_is_there len body f below (subst (λ (t : List ℕ). NumberFault t f) e h)

one_body_fault : (bytes : List ℕ) (f g : AddrFault) → BodyFault bytes f → BodyFault bytes g → f ≡ g
one_body_fault bytes f g (inl p) (inl q) = one_number_fault bytes f g p q
one_body_fault bytes f g (inl p) (inr q) = absurd (number_or_short bytes f q.1 q.2 q.3 q.4 p)
one_body_fault bytes f g (inr p) (inl q) = absurd (number_or_short bytes g p.1 p.2 p.3 p.4 q)
one_body_fault bytes f g (inr p) (inr q) = p.0 ∙ sym q.0

abbrev SizedFault : Protocol → List ℕ → AddrFault → Type 0
SizedFault p bytes f = BodyFault bytes f ⊎ ((f ≡ BadValue) × (value : List ℕ) × (rest : List ℕ) × (length value < 2 ^ 63) × (bytes ≡ shortest (length value) ++ value ++ rest) × ¬ IsValue p value)

one_sized_fault : (p : Protocol) (bytes : List ℕ) (f g : AddrFault) → SizedFault p bytes f → SizedFault p bytes g → f ≡ g
one_sized_fault p bytes f g (inl a) (inl b) = one_body_fault bytes f g a b
one_sized_fault p bytes f g (inl a) (inr b) = absurd (body_or_bad p bytes b.1 b.2 f b.3 b.4 a)
one_sized_fault p bytes f g (inr a) (inl b) = absurd (body_or_bad p bytes a.1 a.2 g a.3 a.4 b)
one_sized_fault p bytes f g (inr a) (inr b) = a.0 ∙ sym b.0

one_value_fault : (p : Protocol) (bytes : List ℕ) (f g : AddrFault) → ValueFault p bytes f → ValueFault p bytes g → f ≡ g
one_value_fault Ip4 bytes f g a b = a.0 ∙ sym b.0
one_value_fault Tcp bytes f g a b = a.0 ∙ sym b.0
one_value_fault Ip6 bytes f g a b = a.0 ∙ sym b.0
one_value_fault Dns bytes f g a b = one_sized_fault Dns bytes f g a b
one_value_fault Dns4 bytes f g a b = one_sized_fault Dns4 bytes f g a b
one_value_fault Dns6 bytes f g a b = one_sized_fault Dns6 bytes f g a b
one_value_fault P2p bytes f g a b = one_sized_fault P2p bytes f g a b

one_part_fault : (bytes : List ℕ) (f g : AddrFault) → PartFault bytes f → PartFault bytes g → f ≡ g
one_part_fault bytes f g (inl a) (inl b) = one_number_fault bytes f g a b
one_part_fault bytes f g (inl a) (inr b) = absurd (number_or_short bytes f (code_of b.0) b.1 (code_below b.0) b.2 a)
one_part_fault bytes f g (inr a) (inl b) = absurd (number_or_short bytes g (code_of a.0) a.1 (code_below a.0) a.2 b)
one_part_fault bytes f g (inr a) (inr b) =
    let codes = one_code a.0 b.0 a.1 b.1 (sym a.2 ∙ b.2) in
    one_value_fault b.0 b.1 f g (subst (λ (t : List ℕ). ValueFault b.0 t f) codes.1 (subst (λ (r : Protocol). ValueFault r a.1 f) codes.0 a.3)) b.3

no_parts : (bytes rest : List ℕ) (parts : List Part) → bytes ≡ [] → bytes ≡ flat_map spelling parts ++ rest → 0 < length rest → ⊥
no_parts bytes rest parts none e some = omega (arith, ap length none, ap length e, length-append (flat_map spelling parts) rest, some)

pub one_fault : (bytes : List ℕ) (f g : AddrFault) → AddressFault bytes f → AddressFault bytes g → f ≡ g
one_fault bytes f g (inl a) (inl b) = a.0 ∙ sym b.0
one_fault bytes f g (inl a) (inr b) = absurd (no_parts bytes b.1 b.0 a.1 b.3 b.4)
one_fault bytes f g (inr a) (inl b) = absurd (no_parts bytes a.1 a.0 b.1 a.3 a.4)
one_fault bytes f g (inr a) (inr b) =
    let same = one_parts a.0 b.0 a.1 b.1 a.2 b.2 (stuck_fault a.1 f a.5) (stuck_fault b.1 g b.5) (sym a.3 ∙ b.3) in
    one_part_fault b.1 f g (subst (λ (t : List ℕ). PartFault t f) same.1 a.5) b.5

opaque_or_fault : (bytes : List ℕ) (f : AddrFault) → IsOpaque bytes → PartFault bytes f → ⊥
opaque_or_fault bytes f o (inl p) = number_or_short bytes f o.0 o.1 o.2 o.3 p
opaque_or_fault bytes f o (inr p) = o.4 p.0 (sym (one_number o.0 (code_of p.0) o.1 p.1 o.2 (code_below p.0) (sym o.3 ∙ p.2)).0)

pub some_bytes : (parts : List Part) (rest : List ℕ) → 0 < length parts + length rest → 0 < length (flat_map spelling parts ++ rest)
some_bytes [] rest some = omega (arith, some)
some_bytes (p ∷ parts) rest some = omega (arith, length-append (spelling p ++ flat_map spelling parts) rest, length-append (spelling p) (flat_map spelling parts), length-append (shortest (code_of p.protocol)) (sized p.protocol p.value), some_code (code_of p.protocol))

pub address_or_fault : (bytes : List ℕ) (a : Address) (f : AddrFault) → SpellsAddress bytes a → AddressFault bytes f → ⊥
address_or_fault bytes a f h (inl p) = omega (arith, ap length p.1, ap length h.1, some_bytes a.parts a.opaque h.0.some)
address_or_fault bytes a f h (inr p) =
    let same = one_parts a.parts p.0 a.opaque p.1 h.0.parts p.2 (stuck_end a h.0) (stuck_fault p.1 f p.5) (sym h.1 ∙ p.3) in
    elim h.0.opaque [
      | inl none ↦ omega (arith, ap length none, ap length same.1, p.4)
      | inr o ↦ opaque_or_fault a.opaque f o (subst (λ (t : List ℕ). PartFault t f) (sym same.1) p.5)
    ]

pub only_address : (bytes : List ℕ) (r : Result (List ℕ) AddrFault) (a : Address) → IfOk r (λ b. b ≡ bytes) → IfErr r (RefusesAddress bytes) → SpellsAddress bytes a → (r ≡ Ok bytes) ⊎ (r ≡ Err OutOfMemory)
only_address bytes (Ok b) a p q h = inl (ap Ok p)
only_address bytes (Err OutOfMemory) a p q h = inr refl
only_address bytes (Err Empty) a p q h = absurd (address_or_fault bytes a Empty h q)
only_address bytes (Err UnknownProtocol) a p q h = absurd (address_or_fault bytes a UnknownProtocol h q)
only_address bytes (Err Cut) a p q h = absurd (address_or_fault bytes a Cut h q)
only_address bytes (Err BadValue) a p q h = absurd (address_or_fault bytes a BadValue h q)

pub only_fault : (bytes : List ℕ) (r : Result (List ℕ) AddrFault) (f : AddrFault) → OnOk r ((a : Address) × SpellsAddress bytes a) → IfErr r (RefusesAddress bytes) → AddressFault bytes f → r ≡ Err f
only_fault bytes (Ok b) f p q h = absurd (address_or_fault bytes p.0 f p.1 h)
only_fault bytes (Err OutOfMemory) f p q h = absurd (address_or_fault bytes q.0 f q.1 h)
only_fault bytes (Err Empty) f p q h = ap Err (one_fault bytes Empty f q h)
only_fault bytes (Err UnknownProtocol) f p q h = ap Err (one_fault bytes UnknownProtocol f q h)
only_fault bytes (Err Cut) f p q h = ap Err (one_fault bytes Cut f q h)
only_fault bytes (Err BadValue) f p q h = ap Err (one_fault bytes BadValue f q h)
