-- A text is read as one list of parts at most, and parts are printed as one text, which is read as them.
use Rattle.std.proofs.Common.{◌≡◌, ◌≢◌, ◌⊎◌, ℕ, zero, suc, ◌+◌, ◌*◌, ◌/◌, ◌%◌, ◌^◌, ◌<◌, ◌≤◌, eqb, cond, Option, Some, None, Result, Ok, Err, List, [], ◌∷◌, ◌++◌, length, get_or, take, drop, decimal, refl, sym, ap, ◌∙◌, subst, arith, inl, inr}
use Rattle.std.specs.Prelude.{All, codes, IfOk, IfErr}
use Rattle.std.specs.List.{AllByRecursion, flat_map}
use Rattle.std.specs.declared.net.ipv4_addr.Ipv4Addr.{Ipv4Addr}
use Rattle.std.specs.declared.net.ipv6_addr.Ipv6Addr.{Ipv6Addr}
use Rattle.std.specs.Net.Addr.{octets_of}
use Rattle.std.specs.Net.Grammar.{IsDotted}
use Rattle.std.specs.Net.Text.{ipv4_text, groups_text, hex_groups_text}
use Rattle.std.proofs.lemmas.Fmt.{decimal_injective}
use Rattle.std.proofs.lemmas.List.{append-nil}
use Rattle.std.proofs.lemmas.List.Elements.{recursion_from_All, All-cons}
use Rattle.std.proofs.NetLemmas.Texts.{AllSegments, IsColonHex-hex_groups_text}
use Rattle.std.proofs.NetLemmas.Theorems.{IsIpv4Text_unique, IsIpv6Text_unique}
use Rattle.peer_ids.specs.Base32.{IsIdText}
use Rattle.peer_ids.proofs.Texts.{text_once, id_once}
use Rattle.multiaddr.specs.declared.protocol.Protocol.{Protocol}
use Rattle.multiaddr.specs.declared.protocol.Protocol.TheVariants.{Ip4, Tcp, Ip6, Dns, Dns4, Dns6, P2p}
use Rattle.multiaddr.specs.declared.fault.AddrFault.{AddrFault}
use Rattle.multiaddr.specs.declared.fault.AddrFault.TheVariants.{Empty, UnknownProtocol, Cut, BadValue, OutOfMemory}
use Rattle.multiaddr.specs.Ip6.{SpellsGroups, PrintsGroups, IsShortened}
use Rattle.multiaddr.specs.Part.{Part, IsValue, spelling}
use Rattle.multiaddr.specs.Text.{name_of, NoSlash, ReadsValue, PrintsValue, tail_of, NameFault, ValueTextFault, TextFault, RefusesText, LeadsParts, ReadsParts, PrintsParts}
use Rattle.multiaddr.specs.Laws.{AreValues}
use Rattle.multiaddr.proofs.Values.{length-octets_of}
use Rattle.multiaddr.proofs.Ip6Text.{spells_colon_hex, colon_hex_spells, prints}
use Rattle.multiaddr.proofs.Alphabets.{dotted_no_slash, groups_no_slash, groups_no_dot, decimal_no_slash, letters_no_slash}

-- ---- a text up to its first slash

-- nothing, or a slash and more
abbrev IsTail : List ℕ → Type 0
IsTail text = (text ≡ []) ⊎ ((rest : List ℕ) × (text ≡ 47 ∷ rest))

abbrev Plain : List ℕ → Type 0
Plain text = AllByRecursion (λ b. b ≢ 47) text

plain : (text : List ℕ) → NoSlash text → Plain text
plain text h = recursion_from_All (λ b. b ≢ 47) text h

not_tail : (b : ℕ) (a rest : List ℕ) → b ≢ 47 → IsTail (b ∷ a) → ⊥
not_tail b a rest ne (inl e) = absurd cc
not_tail b a rest ne (inr e) = let slash : b ∷ a ≡ 47 ∷ e.0 = e.1 in let same : b ≡ 47 = cc in ne same

split_once : (a b x y : List ℕ) → Plain a → Plain b → IsTail x → IsTail y → a ++ x ≡ b ++ y → (a ≡ b) × (x ≡ y)
split_once [] [] x y p q s t e = (refl, e)
split_once [] (m ∷ b) x y p q s t e = absurd (not_tail m (b ++ y) [] q.0 (subst IsTail e s))
split_once (k ∷ a) [] x y p q s t e = absurd (not_tail k (a ++ x) [] p.0 (subst IsTail (sym e) t))
split_once (k ∷ a) (m ∷ b) x y p q s t e =
    let heads : k ≡ m = cc in
    let tails : a ++ x ≡ b ++ y = cc in
    let rest = split_once a b x y p.1 q.1 s t tails in
    (ap (λ (h : ℕ). h ∷ a) heads ∙ ap (λ (l : List ℕ). m ∷ l) rest.0, rest.1)

-- ---- names

key_of : List ℕ → ℕ
key_of name = get_or name 0 0 + 256 * get_or name 2 0 + 65536 * get_or name 3 0

abbrev keyed : ℕ → Protocol
keyed key = cond (eqb key 13417) Ip4 (cond (eqb key 28788) Tcp (cond (eqb key 13929) Ip6 (cond (eqb key 29540) Dns (cond (eqb key 3437412) Dns4 (cond (eqb key 3568484) Dns6 P2p)))))

keyed_again : (p : Protocol) → keyed (key_of (name_of p)) ≡ p
unfolding key_of
keyed_again Ip4 = refl
keyed_again Tcp = refl
keyed_again Ip6 = refl
keyed_again Dns = refl
keyed_again Dns4 = refl
keyed_again Dns6 = refl
keyed_again P2p = refl

name_once : (p q : Protocol) → name_of p ≡ name_of q → p ≡ q
name_once p q e = sym (keyed_again p) ∙ ap (λ (name : List ℕ). keyed (key_of name)) e ∙ keyed_again q

name_plain : (p : Protocol) → Plain (name_of p)
name_plain Ip4 = ((λ e. omega (arith, e)), ((λ e. omega (arith, e)), ((λ e. omega (arith, e)), tt)))
name_plain Tcp = ((λ e. omega (arith, e)), ((λ e. omega (arith, e)), ((λ e. omega (arith, e)), tt)))
name_plain Ip6 = ((λ e. omega (arith, e)), ((λ e. omega (arith, e)), ((λ e. omega (arith, e)), tt)))
name_plain Dns = ((λ e. omega (arith, e)), ((λ e. omega (arith, e)), ((λ e. omega (arith, e)), tt)))
name_plain Dns4 = ((λ e. omega (arith, e)), ((λ e. omega (arith, e)), ((λ e. omega (arith, e)), ((λ e. omega (arith, e)), tt))))
name_plain Dns6 = ((λ e. omega (arith, e)), ((λ e. omega (arith, e)), ((λ e. omega (arith, e)), ((λ e. omega (arith, e)), tt))))
name_plain P2p = ((λ e. omega (arith, e)), ((λ e. omega (arith, e)), ((λ e. omega (arith, e)), tt)))

-- ---- values that are read

ports_once : (m n : ℕ) → m < 2 ^ 16 → n < 2 ^ 16 → decimal m ≡ decimal n → m ≡ n
ports_once m n p q e = decimal_injective m n (omega (arith, p)) (omega (arith, q)) e

value_once : (p : Protocol) (text v w : List ℕ) → ReadsValue p text v → ReadsValue p text w → v ≡ w
value_once Ip4 text v w g h = ap (λ (a : Ipv4Addr). a.octets) (IsIpv4Text_unique text (record { octets = v }) (record { octets = w }) g.0 h.0)
value_once Tcp text v w g h = g.0.3 ∙ ap (λ (n : ℕ). n / 256 ∷ n % 256 ∷ []) (ports_once g.0.0 h.0.0 g.0.1 h.0.1 (sym g.0.2 ∙ h.0.2)) ∙ sym h.0.3
value_once Ip6 text v w g h = g.0.2 ∙ ap (λ (a : Ipv6Addr). octets_of a.segments) (IsIpv6Text_unique text (record { segments = g.0.0 }) (record { segments = h.0.0 }) (spells_colon_hex text g.0.0 g.0.1) (spells_colon_hex text h.0.0 h.0.1)) ∙ sym h.0.2
value_once Dns text v w g h = sym g.0 ∙ h.0
value_once Dns4 text v w g h = sym g.0 ∙ h.0
value_once Dns6 text v w g h = sym g.0 ∙ h.0
value_once P2p text v w g h = id_once text v w g.0 h.0

tail_of_parts : (text rest : List ℕ) (parts : List Part) → IsTail rest → LeadsParts text parts rest → IsTail text
tail_of_parts text rest [] t h = subst IsTail (sym h) t
tail_of_parts text rest (p ∷ parts) t h = inr (name_of p.protocol ++ 47 ∷ (h.0 ++ h.1), h.4)

tail_in : (a b : List ℕ) → 47 ∷ a ≡ 47 ∷ b → a ≡ b
tail_in a b e = cc

made : Protocol → List ℕ → Part
made protocol value = record { protocol = protocol; value = value }

same_part : (p q : Part) → p.protocol ≡ q.protocol → p.value ≡ q.value → p ≡ q
unfolding made
same_part p q protocols values = ap (λ (r : Protocol). made r p.value) protocols ∙ ap (made q.protocol) values

-- a text that no part begins
IsStuckText : List ℕ → Type 0
IsStuckText text = (p : Protocol) (value middle read : List ℕ) → NoSlash value → ReadsValue p value read → IsTail middle → text ≢ 47 ∷ (name_of p ++ 47 ∷ (value ++ middle))

stuck_end : IsStuckText []
unfolding IsStuckText
stuck_end p value middle read s r t e = absurd cc

parts_once : (text x y : List ℕ) (parts others : List Part) → IsTail x → IsTail y → IsStuckText x → IsStuckText y → LeadsParts text parts x → LeadsParts text others y → (parts ≡ others) × (x ≡ y)
unfolding IsStuckText
parts_once text x y [] [] t u j k g h = (refl, sym g ∙ h)
parts_once text x y [] (q ∷ others) t u j k g h = absurd (j q.protocol h.0 h.1 q.value h.2 h.3 (tail_of_parts h.1 y others u h.5) (sym g ∙ h.4))
parts_once text x y (p ∷ parts) [] t u j k g h = absurd (k p.protocol g.0 g.1 p.value g.2 g.3 (tail_of_parts g.1 x parts t g.5) (sym h ∙ g.4))
parts_once text x y (p ∷ parts) (q ∷ others) t u j k g h =
    let names = split_once (name_of p.protocol) (name_of q.protocol) (47 ∷ (g.0 ++ g.1)) (47 ∷ (h.0 ++ h.1)) (name_plain p.protocol) (name_plain q.protocol) (inr (g.0 ++ g.1, refl)) (inr (h.0 ++ h.1, refl)) (tail_in _ _ (sym g.4 ∙ h.4)) in
    let values = split_once g.0 h.0 g.1 h.1 (plain g.0 g.2) (plain h.0 h.2) (tail_of_parts g.1 x parts t g.5) (tail_of_parts h.1 y others u h.5) (tail_in _ _ names.1) in
    let protocols = name_once p.protocol q.protocol names.0 in
    let read : ReadsValue q.protocol h.0 p.value = subst (λ (r : Protocol). ReadsValue r h.0 p.value) protocols (subst (λ (t : List ℕ). ReadsValue p.protocol t p.value) values.0 g.3) in
    let rest = parts_once h.1 x y parts others t u j k (subst (λ (m : List ℕ). LeadsParts m parts x) values.1 g.5) h.5 in
    (ap (λ (r : Part). r ∷ parts) (same_part p q protocols (value_once q.protocol h.0 p.value q.value read h.3)) ∙ ap (λ (r : List Part). q ∷ r) rest.0, rest.1)

whole_once : (text : List ℕ) (parts others : List Part) → LeadsParts text parts [] → LeadsParts text others [] → parts ≡ others
whole_once text parts others g h = (parts_once text [] [] parts others (inl refl) (inl refl) stuck_end stuck_end g h).0

pub one_text_reading : (text : List ℕ) (parts others : List Part) → ReadsParts text parts → ReadsParts text others → parts ≡ others
one_text_reading text parts others g h = whole_once text parts others g.1 h.1

-- ---- faults of texts

abbrev pub PartFault : List ℕ → AddrFault → Type 0
PartFault rest fault = NameFault rest fault ⊎ ValueTextFault rest fault

tail_is : (tail : Option (List ℕ)) → IsTail (tail_of tail)
tail_is None = inl refl
tail_is (Some text) = inr (text, refl)

unknown_or_known : (name x y : List ℕ) (p : Protocol) → NoSlash name → ((q : Protocol) → name_of q ≢ name) → IsTail x → IsTail y → name ++ x ≡ name_of p ++ y → ⊥
unknown_or_known name x y p plain_name unknown t u e = unknown p (sym (split_once name (name_of p) x y (plain name plain_name) (name_plain p) t u e).0)

cut_or_more : (p q : Protocol) (more : List ℕ) → name_of p ≡ name_of q ++ 47 ∷ more → ⊥
cut_or_more p q more e =
    let same = split_once (name_of p) (name_of q) [] (47 ∷ more) (name_plain p) (name_plain q) (inl refl) (inr (more, refl)) (append-nil (name_of p) ∙ e) in
    let none : [] ≡ 47 ∷ more = same.1 in
    absurd cc

stuck_part : (rest : List ℕ) (fault : AddrFault) → PartFault rest fault → IsStuckText (47 ∷ rest)
unfolding IsStuckText
stuck_part rest fault (inl (inl f)) p value middle read s r t e =
    unknown_or_known f.1 (tail_of f.2) (47 ∷ (value ++ middle)) p f.3 f.5 (tail_is f.2) (inr (value ++ middle, refl)) (sym f.4 ∙ tail_in _ _ e)
stuck_part rest fault (inl (inr f)) p value middle read s r t e = cut_or_more f.1 p (value ++ middle) (sym f.2 ∙ tail_in _ _ e)
stuck_part rest fault (inr f) p value middle read s r t e =
    let names = split_once (name_of f.1) (name_of p) (47 ∷ (f.2 ++ tail_of f.3)) (47 ∷ (value ++ middle)) (name_plain f.1) (name_plain p) (inr (f.2 ++ tail_of f.3, refl)) (inr (value ++ middle, refl)) (sym f.5 ∙ tail_in _ _ e) in
    let values = split_once f.2 value (tail_of f.3) middle (plain f.2 f.4) (plain value s) (tail_is f.3) t (tail_in _ _ names.1) in
    f.6 read (subst (λ (q : Protocol). ReadsValue q f.2 read) (sym (name_once f.1 p names.0)) (subst (λ (t : List ℕ). ReadsValue p t read) (sym values.0) r))

one_part_fault : (rest : List ℕ) (f g : AddrFault) → PartFault rest f → PartFault rest g → f ≡ g
one_part_fault rest f g (inl (inl a)) (inl (inl b)) = a.0 ∙ sym b.0
one_part_fault rest f g (inl (inl a)) (inl (inr b)) = absurd (unknown_or_known a.1 (tail_of a.2) [] b.1 a.3 a.5 (tail_is a.2) (inl refl) (sym a.4 ∙ b.2 ∙ sym (append-nil (name_of b.1))))
one_part_fault rest f g (inl (inl a)) (inr b) = absurd (unknown_or_known a.1 (tail_of a.2) (47 ∷ (b.2 ++ tail_of b.3)) b.1 a.3 a.5 (tail_is a.2) (inr (b.2 ++ tail_of b.3, refl)) (sym a.4 ∙ b.5))
one_part_fault rest f g (inl (inr a)) (inl (inl b)) = absurd (unknown_or_known b.1 (tail_of b.2) [] a.1 b.3 b.5 (tail_is b.2) (inl refl) (sym b.4 ∙ a.2 ∙ sym (append-nil (name_of a.1))))
one_part_fault rest f g (inl (inr a)) (inl (inr b)) = a.0 ∙ sym b.0
one_part_fault rest f g (inl (inr a)) (inr b) = absurd (cut_or_more a.1 b.1 (b.2 ++ tail_of b.3) (sym a.2 ∙ b.5))
one_part_fault rest f g (inr a) (inl (inl b)) = absurd (unknown_or_known b.1 (tail_of b.2) (47 ∷ (a.2 ++ tail_of a.3)) a.1 b.3 b.5 (tail_is b.2) (inr (a.2 ++ tail_of a.3, refl)) (sym b.4 ∙ a.5))
one_part_fault rest f g (inr a) (inl (inr b)) = absurd (cut_or_more b.1 a.1 (a.2 ++ tail_of a.3) (sym b.2 ∙ a.5))
one_part_fault rest f g (inr a) (inr b) = a.0 ∙ sym b.0

-- what is led has a slash first, or ends
led : (text rest : List ℕ) (parts : List Part) → LeadsParts text parts (47 ∷ rest) → IsTail text
led text rest parts h = tail_of_parts text (47 ∷ rest) parts (inr (rest, refl)) h

no_slash_led : (text : List ℕ) → text ≢ [] → ((rest : List ℕ) → text ≢ 47 ∷ rest) → IsTail text → ⊥
no_slash_led text some first (inl e) = some e
no_slash_led text some first (inr e) = first e.0 e.1

empty_led : (text rest : List ℕ) (parts : List Part) → text ≡ [] → LeadsParts text parts (47 ∷ rest) → ⊥
empty_led text rest [] e h = let none : [] ≡ 47 ∷ rest = sym e ∙ h in absurd cc
empty_led text rest (p ∷ parts) e h = let none : [] ≡ 47 ∷ (name_of p.protocol ++ 47 ∷ (h.0 ++ h.1)) = sym e ∙ h.4 in absurd cc

pub one_text_fault : (text : List ℕ) (f g : AddrFault) → TextFault text f → TextFault text g → f ≡ g
one_text_fault text f g (inl a) (inl b) = a.0 ∙ sym b.0
one_text_fault text f g (inl a) (inr (inl b)) = absurd (b.1 a.1)
one_text_fault text f g (inl a) (inr (inr b)) = absurd (empty_led text b.1 b.0 a.1 b.2)
one_text_fault text f g (inr (inl a)) (inl b) = absurd (a.1 b.1)
one_text_fault text f g (inr (inl a)) (inr (inl b)) = a.0 ∙ sym b.0
one_text_fault text f g (inr (inl a)) (inr (inr b)) = absurd (no_slash_led text a.1 a.2 (led text b.1 b.0 b.2))
one_text_fault text f g (inr (inr a)) (inl b) = absurd (empty_led text a.1 a.0 b.1 a.2)
one_text_fault text f g (inr (inr a)) (inr (inl b)) = absurd (no_slash_led text b.1 b.2 (led text a.1 a.0 a.2))
one_text_fault text f g (inr (inr a)) (inr (inr b)) =
    let same = parts_once text (47 ∷ a.1) (47 ∷ b.1) a.0 b.0 (inr (a.1, refl)) (inr (b.1, refl)) (stuck_part a.1 f a.3) (stuck_part b.1 g b.3) a.2 b.2 in
    one_part_fault b.1 f g (subst (λ (rest : List ℕ). PartFault rest f) (tail_in a.1 b.1 same.1) a.3) b.3

whole_or_led : (text rest : List ℕ) (parts others : List Part) (fault : AddrFault) → LeadsParts text parts [] → LeadsParts text others (47 ∷ rest) → PartFault rest fault → ⊥
whole_or_led text rest parts others fault g h f =
    let same = parts_once text [] (47 ∷ rest) parts others (inl refl) (inr (rest, refl)) stuck_end (stuck_part rest fault f) g h in
    let none : [] ≡ 47 ∷ rest = same.1 in
    absurd cc

no_parts : (text : List ℕ) (parts : List Part) → 0 < length parts → LeadsParts text parts [] → (text ≡ [] → ⊥) × (((rest : List ℕ) → text ≢ 47 ∷ rest) → ⊥)
no_parts text [] some h = absurd (omega (arith, some))
no_parts text (p ∷ parts) some h = ((λ e. let none : [] ≡ 47 ∷ (name_of p.protocol ++ 47 ∷ (h.0 ++ h.1)) = sym e ∙ h.4 in absurd cc), (λ none. none (name_of p.protocol ++ 47 ∷ (h.0 ++ h.1)) h.4))

pub text_or_fault : (text : List ℕ) (parts : List Part) (fault : AddrFault) → ReadsParts text parts → TextFault text fault → ⊥
text_or_fault text parts fault h (inl f) = (no_parts text parts h.0 h.1).0 f.1
text_or_fault text parts fault h (inr (inl f)) = (no_parts text parts h.0 h.1).1 f.2
text_or_fault text parts fault h (inr (inr f)) = whole_or_led text f.1 parts f.0 fault h.1 f.2 f.3

-- ---- one answer

pub only_text : (text : List ℕ) (r : Result (List ℕ) AddrFault) (parts : List Part) → IfOk r (λ a. (found : List Part) × ReadsParts text found × (a ≡ flat_map spelling found))
    → IfErr r (RefusesText text) → ReadsParts text parts → (r ≡ Ok (flat_map spelling parts)) ⊎ (r ≡ Err OutOfMemory)
only_text text (Ok a) parts found fault h = inl (ap Ok (found.2 ∙ ap (flat_map spelling) (one_text_reading text found.0 parts found.1 h)))
only_text text (Err OutOfMemory) parts found refuses h = inr refl
only_text text (Err Empty) parts found refuses h = absurd (text_or_fault text parts Empty h refuses)
only_text text (Err UnknownProtocol) parts found refuses h = absurd (text_or_fault text parts UnknownProtocol h refuses)
only_text text (Err Cut) parts found refuses h = absurd (text_or_fault text parts Cut h refuses)
only_text text (Err BadValue) parts found refuses h = absurd (text_or_fault text parts BadValue h refuses)

-- each fault of a text is answered by what reads only texts of addresses
pub only_text_fault : {A : Type 0} (text : List ℕ) (r : Result A AddrFault) (f : AddrFault) → ((a : A) → r ≡ Ok a → (parts : List Part) × ReadsParts text parts)
    → IfErr r (RefusesText text) → TextFault text f → r ≡ Err f
only_text_fault text (Ok a) f found refuses h = let read = found a refl in absurd (text_or_fault text read.0 f read.1 h)
only_text_fault text (Err OutOfMemory) f found refuses h = absurd (text_or_fault text refuses.0 f refuses.1 h)
only_text_fault text (Err Empty) f found refuses h = ap Err (one_text_fault text Empty f refuses h)
only_text_fault text (Err UnknownProtocol) f found refuses h = ap Err (one_text_fault text UnknownProtocol f refuses h)
only_text_fault text (Err Cut) f found refuses h = ap Err (one_text_fault text Cut f refuses h)
only_text_fault text (Err BadValue) f found refuses h = ap Err (one_text_fault text BadValue f refuses h)

-- ---- values that are printed

dotted_once : (t u v : List ℕ) → IsDotted t v → IsDotted u v → t ≡ u
dotted_once t u v g h =
    let same : g.a ∷ g.b ∷ g.c ∷ g.d ∷ [] ≡ h.a ∷ h.b ∷ h.c ∷ h.d ∷ [] = sym g.value ∙ h.value in
    g.spelled ∙ ap ipv4_text same ∙ sym h.spelled

port_once : (m n : ℕ) → m / 256 ∷ m % 256 ∷ [] ≡ n / 256 ∷ n % 256 ∷ [] → m ≡ n
port_once m n e =
    let high : m / 256 ≡ n / 256 = cc in
    let low : m % 256 ≡ n % 256 = cc in
    omega (arith, high, low)

octets_once : (g h : List ℕ) → octets_of g ≡ octets_of h → g ≡ h
octets_once [] [] e = refl
octets_once [] (n ∷ h) e = absurd cc
octets_once (m ∷ g) [] e = absurd cc
octets_once (m ∷ g) (n ∷ h) e =
    let high : m / 256 ≡ n / 256 = cc in
    let low : m % 256 ≡ n % 256 = cc in
    let rest : octets_of g ≡ octets_of h = cc in
    let same : m ≡ n = omega (arith, high, low) in
    ap (λ (x : ℕ). x ∷ g) same ∙ ap (λ (l : List ℕ). n ∷ l) (octets_once g h rest)

shortened_once : (groups : List ℕ) (s l t k : ℕ) → IsShortened groups s l → IsShortened groups t k → (s ≡ t) × (l ≡ k)
shortened_once groups s l t k g h =
    let lens : l ≡ k = omega (arith, g.longest t k h.zeros, h.longest s l g.zeros) in
    let before : s ≤ t = g.first t (rw lens h.zeros) in
    let after : t ≤ s = h.first s (rw (← lens) g.zeros) in
    (omega (arith, before, after), lens)

pub groups_once : (t u groups : List ℕ) → PrintsGroups t groups → PrintsGroups u groups → t ≡ u
groups_once t u groups (inl g) (inl h) =
    let same = shortened_once groups g.0 g.1 h.0 h.1 g.2 h.2 in
    g.3 ∙ ap (λ (n : ℕ). groups_text (take n groups) ++ codes "::" ++ groups_text (drop (n + g.1) groups)) same.0 ∙ ap (λ (n : ℕ). groups_text (take h.0 groups) ++ codes "::" ++ groups_text (drop (h.0 + n) groups)) same.1 ∙ sym h.3
groups_once t u groups (inl g) (inr h) = absurd (omega (arith, g.2.several, h.0 g.0 g.1 g.2.zeros))
groups_once t u groups (inr g) (inl h) = absurd (omega (arith, h.2.several, g.0 h.0 h.1 h.2.zeros))
groups_once t u groups (inr g) (inr h) = g.1 ∙ sym h.1

printed_once : (p : Protocol) (t u v : List ℕ) → PrintsValue p t v → PrintsValue p u v → t ≡ u
printed_once Ip4 t u v g h = dotted_once t u v g h
printed_once Tcp t u v g h = g.2 ∙ ap decimal (port_once g.0 h.0 (sym g.3 ∙ h.3)) ∙ sym h.2
printed_once Ip6 t u v g h = groups_once t u h.0 (subst (PrintsGroups t) (octets_once g.0 h.0 (sym g.2 ∙ h.2)) g.1) h.1
printed_once Dns t u v g h = g ∙ sym h
printed_once Dns4 t u v g h = g ∙ sym h
printed_once Dns6 t u v g h = g ∙ sym h
printed_once P2p t u v g h = text_once v t u g h

pub one_printed : (text other : List ℕ) (parts : List Part) → PrintsParts text parts → PrintsParts other parts → text ≡ other
one_printed text other [] g h = g ∙ sym h
one_printed text other (p ∷ parts) g h =
    g.3 ∙ ap (λ (t : List ℕ). 47 ∷ (name_of p.protocol ++ 47 ∷ (t ++ g.1))) (printed_once p.protocol g.0 h.0 p.value g.2 h.2) ∙ ap (λ (t : List ℕ). 47 ∷ (name_of p.protocol ++ 47 ∷ (h.0 ++ t))) (one_printed g.1 h.1 parts g.4 h.4) ∙ sym h.3

-- ---- what is printed is read

segments_fit : (groups : List ℕ) → AllByRecursion (λ b. b < 256) (octets_of groups) → AllSegments groups
segments_fit [] h k = omega arith
segments_fit (g ∷ groups) h k =
    let later = segments_fit groups h.1.1 in
    elim k as (λ j. get_or (g ∷ groups) j 0 < 2 ^ 16) [ zero ↦ omega (arith, h.0) | suc j ↦ later j ]

groups_again : (t v groups : List ℕ) → PrintsGroups t groups → v ≡ octets_of groups → length v ≡ 16 → All (λ b. b < 256) v → SpellsGroups t groups × NoSlash t
groups_again t v groups h e size fits =
    let eight : length groups ≡ 8 = omega (arith, size, ap length e, length-octets_of groups) in
    let segments : AllSegments groups = segments_fit groups (recursion_from_All (λ b. b < 256) (octets_of groups) (subst (All (λ b. b < 256)) e fits)) in
    let same : hex_groups_text groups ≡ t = groups_once (hex_groups_text groups) t groups (prints groups) h in (
      subst (λ (text : List ℕ). SpellsGroups text groups) same (colon_hex_spells (hex_groups_text groups) groups (groups_no_dot groups segments) (IsColonHex-hex_groups_text groups eight segments)),
      subst NoSlash same (groups_no_slash groups segments),
    )

octets_fit : (a b c d : ℕ) → a < 256 → b < 256 → c < 256 → d < 256 → (k : ℕ) → get_or (a ∷ b ∷ c ∷ d ∷ []) k 0 < 2 ^ 8
octets_fit a b c d p q r s zero = p
octets_fit a b c d p q r s (suc zero) = q
octets_fit a b c d p q r s (suc (suc zero)) = r
octets_fit a b c d p q r s (suc (suc (suc zero))) = s
octets_fit a b c d p q r s (suc (suc (suc (suc k)))) = omega arith

dotted_plain : (t v : List ℕ) → IsDotted t v → NoSlash t
dotted_plain t v h = subst NoSlash (sym h.spelled) (dotted_no_slash (h.a ∷ h.b ∷ h.c ∷ h.d ∷ []) (octets_fit h.a h.b h.c h.d h.fit.0 h.fit.1 h.fit.2 h.fit.3))

id_plain : (t v : List ℕ) → IsIdText t v → NoSlash t
id_plain t v h = subst NoSlash (sym (h.2 ∙ ap (λ (l : List ℕ). 98 ∷ l) h.1.2)) (All-cons (λ b. b ≢ 47) 98 _ (λ e. omega (arith, e)) (letters_no_slash h.1.0))

printed_again : (p : Protocol) (t v : List ℕ) → IsValue p v → All (λ b. b < 256) v → PrintsValue p t v → ReadsValue p t v × NoSlash t
printed_again Ip4 t v w fits h = ((h, w), dotted_plain t v h)
printed_again Tcp t v w fits h = ((h, w), subst NoSlash (sym h.2) (decimal_no_slash h.0 (omega (arith, h.1))))
printed_again Ip6 t v w fits h = let again = groups_again t v h.0 h.1 h.2 w fits in (((h.0, again.0, h.2), w), again.1)
printed_again Dns t v w fits h = ((h, w), subst NoSlash (sym h) w.whole)
printed_again Dns4 t v w fits h = ((h, w), subst NoSlash (sym h) w.whole)
printed_again Dns6 t v w fits h = ((h, w), subst NoSlash (sym h) w.whole)
printed_again P2p t v w fits h = ((h, w), id_plain t v h)

parts_again : (text : List ℕ) (parts : List Part) → AreValues parts → PrintsParts text parts → LeadsParts text parts []
parts_again text [] v h = h
parts_again text (p ∷ parts) v h =
    let again = printed_again p.protocol h.0 p.value v.0.0 v.0.1 h.2 in
    (h.0, h.1, again.1, again.0, h.3, parts_again h.1 parts v.1 h.4)

pub printed_is_read : (text : List ℕ) (parts : List Part) → AreValues parts → 0 < length parts → PrintsParts text parts → ReadsParts text parts
printed_is_read text parts v some h = (some, parts_again text parts v h)

pub printed_alike : (text : List ℕ) (parts others : List Part) → AreValues parts → AreValues others → PrintsParts text parts → PrintsParts text others → parts ≡ others
printed_alike text parts others v w g h = whole_once text parts others (parts_again text parts v g) (parts_again text others w h)
