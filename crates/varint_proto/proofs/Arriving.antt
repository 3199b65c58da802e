-- A message that comes in, byte by byte of its length and then in slices of its body.
use Rattle.std.proofs.Common.{◌≡◌, ◌≢◌, ℕ, zero, suc, ◌+◌, ◌-◌, ◌<◌, ◌≤◌, ◌↔◌, take, drop, get_or, Bool, true, false, List, [], ◌∷◌, ◌++◌, length, Option, Some, None, Ok, Err, refl, ap, sym, subst, ◌∙◌, inl, inr, append_assoc, arith}
use Rattle.std.specs.Prelude.{IsTrue}
use Rattle.std.proofs.lemmas.List.{append-nil, length-append, length-drop, take_more, take-append-drop}
use Rattle.std.proofs.Math.Seq.{take-add}
use Rattle.varint_proto.specs.Varint.{ReadsShortest, BeginsShortest}
use Rattle.varint_proto.specs.declared.fault.IncomingRefused.{IncomingRefused}
use Rattle.varint_proto.specs.Incoming.{Announces, ReadsFramed, Arriving, Holds, Stands, IsWhole, whole_at}
use Rattle.varint_proto.proofs.Pieces.{take_past}
use Rattle.varint_proto.proofs.Front.{takes, ends_at}
use Rattle.varint_proto.proofs.Framed.{frames_more, fault_more}

drop_all : {A : Type 0} (xs : List A) (n : ℕ) → n ≡ length xs → drop n xs ≡ []
drop_all [] zero e = refl
drop_all [] (suc n) e = refl
drop_all (x ∷ xs) zero e = absurd (omega arith)
drop_all (x ∷ xs) (suc n) e = drop_all xs n (omega arith)

-- ---- what is held

-- the length isn't whole
pub starting : (x : Arriving) (input : List ℕ) → x.expected ≡ None → Stands input x → ReadsShortest input (Ok None) × (x.spelling ≡ input) × (x.body ≡ [])
starting x input e s = subst (λ (o : Option ℕ). Holds o x input) e s.holds

-- the length is known
pub known : (x : Arriving) (input : List ℕ) (len : ℕ) → x.expected ≡ Some len → Stands input x → Announces x.limit input len x.body × (length x.body ≤ len)
known x input len e s = subst (λ (o : Option ℕ). Holds o x input) e s.holds

-- ---- a byte of the length

-- the length becomes whole
pub announced : (x : Arriving) (input : List ℕ) (byte len size : ℕ) → x.expected ≡ None → Stands input x → ReadsShortest (x.spelling ++ byte ∷ []) (Ok (Some (len, size))) → len ≤ x.limit
    → Announces x.limit (input ++ byte ∷ []) len []
announced x input byte len size e s r le =
    let h = starting x input e s in
    let here : ReadsShortest (input ++ byte ∷ []) (Ok (Some (len, size))) = subst (λ (b : List ℕ). ReadsShortest (b ++ byte ∷ []) (Ok (Some (len, size)))) h.1 r in
    let at-end : size ≡ length input + 1 = ends_at input byte len size h.0 here in
    let nothing : drop size (input ++ byte ∷ []) ≡ [] = drop_all (input ++ byte ∷ []) size (omega (arith, length-append input (byte ∷ []))) in
    record { begins = subst (λ (b : List ℕ). BeginsShortest (input ++ byte ∷ []) len b) nothing (takes (input ++ byte ∷ []) len size here); allowed = le }

pub stands_known : (x : Arriving) (input : List ℕ) (len : ℕ) → x.expected ≡ Some len → x.failed ≡ false → Announces x.limit input len x.body → length x.body ≤ len → Stands input x
stands_known x input len e g a le = record { going = g; holds = subst (λ (o : Option ℕ). Holds o x input) (sym e) (a, le) }

-- ---- standings

pub whole_read : (x : Arriving) (input : List ℕ) → Stands input x → IsWhole x → ReadsFramed x.limit input (Ok (Some (x.body, [])))
whole_read x input s e = subst (λ (b : List ℕ). Announces x.limit input (length x.body) b) (sym (append-nil x.body)) (known x input (length x.body) e s).0

part_read : (o : Option ℕ) (x : Arriving) (input : List ℕ) → Holds o x input → (o ≡ Some (length x.body) → ⊥) → ReadsFramed x.limit input (Ok None)
part_read None x input h partial = inl h.0
part_read (Some len) x input h partial =
    let other : len ≢ length x.body = λ e. partial (ap (λ (n : ℕ). Some n) e) in
    inr (len, x.body, h.0, omega (arith, h.1, other))

pub partial_read : (x : Arriving) (input : List ℕ) → Stands input x → (IsWhole x → ⊥) → ReadsFramed x.limit input (Ok None)
partial_read x input s partial = part_read x.expected x input s.holds partial

-- ---- places in a piece

pub place : (input piece : List ℕ) (i : ℕ) → i < length piece → (input ++ take i piece) ++ get_or piece i 0 ∷ [] ≡ input ++ take (i + 1) piece
place input piece i lt = append_assoc input (take i piece) (get_or piece i 0 ∷ []) ∙ ap (λ (b : List ℕ). input ++ b) (sym (take_more piece i 0 lt))

pub behind : (input piece : List ℕ) (n : ℕ) → (input ++ take n piece) ++ drop n piece ≡ input ++ piece
behind input piece n = append_assoc input (take n piece) (drop n piece) ∙ ap (λ (b : List ℕ). input ++ b) (take-append-drop n piece)

pub two_places : (input piece : List ℕ) (m n : ℕ) → (input ++ take m piece) ++ take n (drop m piece) ≡ input ++ take (m + n) piece
two_places input piece m n = append_assoc input (take m piece) (take n (drop m piece)) ∙ ap (λ (b : List ℕ). input ++ b) (sym (take-add m n piece))

-- the byte at a place is refused
pub fault_at : (limit : ℕ) (input piece : List ℕ) (i : ℕ) (fault : IncomingRefused) → i < length piece → ReadsFramed limit ((input ++ take i piece) ++ get_or piece i 0 ∷ []) (Err fault)
    → ReadsFramed limit (input ++ piece) (Err fault)
fault_at limit input piece i fault lt h =
    let there : ReadsFramed limit (input ++ take (i + 1) piece) (Err fault) = subst (λ (b : List ℕ). ReadsFramed limit b (Err fault)) (place input piece i lt) h in
    subst (λ (b : List ℕ). ReadsFramed limit b (Err fault)) (behind input piece (i + 1)) (fault_more limit (input ++ take (i + 1) piece) (drop (i + 1) piece) fault there)

rest_of : (piece : List ℕ) (n : ℕ) → take (length piece - n) (drop n piece) ≡ drop n piece
rest_of piece n = take_past (drop n piece) (length piece - n) (omega (arith, length-drop n piece))

-- what came behind the length
pub stands_on : (x : Arriving) (input piece : List ℕ) (m n : ℕ) → Stands ((input ++ take m piece) ++ take n (take (length piece - m) (drop m piece))) x → Stands (input ++ take (m + n) piece) x
stands_on x input piece m n s =
    subst (λ (b : List ℕ). Stands b x) (ap (λ (b : List ℕ). (input ++ take m piece) ++ take n b) (rest_of piece m) ∙ two_places input piece m n) s

-- where a message stands in a piece
pub reads_on : (x : Arriving) (input piece : List ℕ) (n : ℕ) (whole : Bool) → Stands (input ++ take n piece) x → (IsTrue whole ↔ IsWhole x) → (whole ≡ false → n ≡ length piece)
    → ReadsFramed x.limit (input ++ piece) (Ok (whole_at whole x.body (drop n piece)))
reads_on x input piece n true s w all =
    let here = whole_read x (input ++ take n piece) s (w.0 refl) in
    subst (λ (b : List ℕ). ReadsFramed x.limit b (Ok (Some (x.body, drop n piece)))) (behind input piece n) (frames_more x.limit (input ++ take n piece) (drop n piece) x.body [] here)
reads_on x input piece n false s w all =
    let here = partial_read x (input ++ take n piece) s (λ e. let no : false ≡ true = w.1 e in absurd cc) in
    let every : take n piece ≡ piece = take_past piece n (omega (arith, all refl)) in
    subst (λ (b : List ℕ). ReadsFramed x.limit (input ++ b) (Ok None)) every here
