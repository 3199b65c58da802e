-- A message that is written is read back.
use Rattle.std.proofs.Common.{◌≡◌, ℕ, ◌+◌, ◌*◌, ◌^◌, ◌<◌, ◌≤◌, Bool, true, false, ◌==◌, cond, List, [], ◌∷◌, ◌++◌, length, Option, Some, None, refl, sym, ap, subst, ◌∙◌, arith}
use Rattle.std.specs.Option.{option_map}
use Rattle.std.specs.List.{flat_map, cons_option, last_or, AllByRecursion}
use Rattle.std.proofs.lemmas.List.{append-nil, length-append}
use Rattle.std.proofs.lemmas.List.Elements.{filter_map-append}
use Rattle.varint_proto.specs.Varint.{shortest}
use Rattle.varint_proto.specs.Message.{Entry, entry, Bytes, body_at, all_bodies, shortest_field, IsWritable}
use Rattle.varint_proto.proofs.Writing.{written_is_read}
use Rattle.peer_ids.specs.Key.{Key}
use Rattle.peer_ids.specs.PeerId.{canonical_of}
use Rattle.peer_ids.proofs.Written.{canonical_spells}
use Rattle.identify_h.specs.Messages.{Message, IsKeyOf, HasKeyOf, Says, WrittenIsRead, body_if, bodies_of, fields_of}

-- ---- what is picked of the fields

pick_if : (n k : ℕ) (c : Bool) → (k == n) ≡ c → (part : Option (List ℕ)) → all_bodies n (body_if k part) ≡ cond c (cons_option part []) []
pick_if n k true is None = refl
pick_if n k false is None = refl
pick_if n k c is (Some b) = ap (λ t. cons_option (cond t (Some b) None) []) is ∙ by c
  where
    by : (t : Bool) → cons_option (cond t (Some b) None) [] ≡ cond t (b ∷ []) []
    by true = refl
    by false = refl

pick_all : (n k : ℕ) (c : Bool) → (k == n) ≡ c → (list : List (List ℕ)) → all_bodies n (bodies_of k list) ≡ cond c list []
pick_all n k true is [] = refl
pick_all n k false is [] = refl
pick_all n k true is (b ∷ list) =
    ap (λ t. cons_option (cond t (Some b) None) (all_bodies n (bodies_of k list))) is ∙ ap (λ (t : List (List ℕ)). b ∷ t) (pick_all n k true is list)
pick_all n k false is (b ∷ list) =
    ap (λ t. cons_option (cond t (Some b) None) (all_bodies n (bodies_of k list))) is ∙ pick_all n k false is list

-- the fields behind those of one number
on : (n : ℕ) (xs ys : List Entry) (here rest : List (List ℕ)) → all_bodies n xs ≡ here → all_bodies n ys ≡ rest → all_bodies n (xs ++ ys) ≡ here ++ rest
on n xs ys here rest a b = filter_map-append (body_at n) xs ys ∙ ap (λ (t : List (List ℕ)). t ++ all_bodies n ys) a ∙ ap (λ (t : List (List ℕ)). here ++ t) b

picked : (n : ℕ) (m : Message) → all_bodies n (fields_of m)
    ≡ ((((cond (1 == n) (cons_option (option_map canonical_of m.key) []) [] ++ cond (2 == n) m.listen []) ++ cond (3 == n) m.protocols [])
    ++ cond (4 == n) (cons_option m.observed []) []) ++ cond (5 == n) (cons_option m.version []) []) ++ cond (6 == n) (cons_option m.agent []) []
picked n m =
    on n _ _ _ _
    (on n _ _ _ _
    (on n _ _ _ _
    (on n _ _ _ _
    (on n _ _ _ _ (pick_if n 1 (1 == n) refl (option_map canonical_of m.key)) (pick_all n 2 (2 == n) refl m.listen))
    (pick_all n 3 (3 == n) refl m.protocols))
    (pick_if n 4 (4 == n) refl m.observed))
    (pick_if n 5 (5 == n) refl m.version))
    (pick_if n 6 (6 == n) refl m.agent)

two_nils : (xs : List (List ℕ)) → (xs ++ []) ++ [] ≡ xs
two_nils xs = append-nil (xs ++ []) ∙ append-nil xs

three_nils : (xs : List (List ℕ)) → ((xs ++ []) ++ []) ++ [] ≡ xs
three_nils xs = append-nil ((xs ++ []) ++ []) ∙ two_nils xs

four_nils : (xs : List (List ℕ)) → (((xs ++ []) ++ []) ++ []) ++ [] ≡ xs
four_nils xs = append-nil (((xs ++ []) ++ []) ++ []) ∙ three_nils xs

five_nils : (xs : List (List ℕ)) → ((((xs ++ []) ++ []) ++ []) ++ []) ++ [] ≡ xs
five_nils xs = append-nil ((((xs ++ []) ++ []) ++ []) ++ []) ∙ four_nils xs

last_one : (part : Option (List ℕ)) (list : List (List ℕ)) → list ≡ cons_option part [] → part ≡ last_or None list
last_one None list e = sym (ap (last_or None) e)
last_one (Some b) list e = sym (ap (last_or None) e)

own : (peer : List ℕ) (key : Option Key) → HasKeyOf peer key → IsKeyOf peer (option_map canonical_of key) key
own peer None has = tt
own peer (Some key) has = (canonical_spells key has.1, has.0)

says : (peer : List ℕ) (m : Message) → HasKeyOf peer m.key → Says peer (fields_of m) m
says peer m has = record {
  key = subst (λ (t : Option (List ℕ)). IsKeyOf peer t m.key) (last_one (option_map canonical_of m.key) (all_bodies 1 (fields_of m)) (picked 1 m ∙ five_nils _)) (own peer m.key has);
  listen = sym (picked 2 m ∙ four_nils m.listen);
  protocols = sym (picked 3 m ∙ three_nils m.protocols);
  observed = last_one m.observed (all_bodies 4 (fields_of m)) (picked 4 m ∙ two_nils _);
  version = last_one m.version (all_bodies 5 (fields_of m)) (picked 5 m ∙ append-nil _);
  agent = last_one m.agent (all_bodies 6 (fields_of m)) (picked 6 m);
}

-- ---- the fields can be written

-- a field of one of the six numbers that holds bytes
abbrev pub IsBody : Entry → Type 0
IsBody f = (number : ℕ) × (body : List ℕ) × (1 ≤ number) × (number ≤ 6) × (f ≡ entry number (Bytes body))

all_on : (P : Entry → Type 0) (xs ys : List Entry) → AllByRecursion P xs → AllByRecursion P ys → AllByRecursion P (xs ++ ys)
all_on P [] ys a b = b
all_on P (x ∷ xs) ys a b = (a.0, all_on P xs ys a.1 b)

if_body : (k : ℕ) (part : Option (List ℕ)) → 1 ≤ k → k ≤ 6 → AllByRecursion IsBody (body_if k part)
if_body k None least most = tt
if_body k (Some b) least most = ((k, b, least, most, refl), tt)

all_body : (k : ℕ) (list : List (List ℕ)) → 1 ≤ k → k ≤ 6 → AllByRecursion IsBody (bodies_of k list)
all_body k [] least most = tt
all_body k (b ∷ list) least most = ((k, b, least, most, refl), all_body k list least most)

are_bodies : (m : Message) → AllByRecursion IsBody (fields_of m)
are_bodies m =
    all_on IsBody _ _
    (all_on IsBody _ _
    (all_on IsBody _ _
    (all_on IsBody _ _
    (all_on IsBody _ _ (if_body 1 (option_map canonical_of m.key) (omega arith) (omega arith)) (all_body 2 m.listen (omega arith) (omega arith)))
    (all_body 3 m.protocols (omega arith) (omega arith)))
    (if_body 4 m.observed (omega arith) (omega arith)))
    (if_body 5 m.version (omega arith) (omega arith)))
    (if_body 6 m.agent (omega arith) (omega arith))

field_length : (number : ℕ) (body : List ℕ) → length body ≤ length (shortest_field (entry number (Bytes body)))
field_length number body =
    let tag = length-append (shortest (8 * number + 2)) (shortest (length body) ++ body) in
    let len = length-append (shortest (length body)) body in
    omega arith

are_writable : (fields : List Entry) → AllByRecursion IsBody fields → length (flat_map shortest_field fields) < 2 ^ 64 → AllByRecursion IsWritable fields
are_writable [] all small = tt
are_writable (f ∷ fields) all small =
    let sum = length-append (shortest_field f) (flat_map shortest_field fields) in
    (one f all.0 (omega arith), are_writable fields all.1 (omega arith))
  where
    one : (g : Entry) → IsBody g → length (shortest_field g) < 2 ^ 64 → IsWritable g
    one g is short =
        subst IsWritable (sym is.4)
        (let size = subst (λ (h : Entry). length (shortest_field h) < 2 ^ 64) is.4 short in
        let within = field_length is.0 is.1 in
        let least = is.2 in
        let most = is.3 in
        ((omega arith, omega arith), omega arith))

pub read_back : WrittenIsRead
read_back peer m has small =
    (fields_of m, written_is_read (fields_of m) (are_writable (fields_of m) (are_bodies m) small), says peer m has)
