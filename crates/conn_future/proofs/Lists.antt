-- Lists in turn.
use Rattle.std.proofs.Common.{◌≡◌, ◌≢◌, ◌≤◌, arith, ℕ, Bool, true, false, List, [], ◌∷◌, ◌++◌, take, drop, length, Option, Some, None, refl, sym, ap, ◌∙◌, subst, append_assoc}
use Rattle.std.proofs.lemmas.List.{take-append-drop}
use Rattle.std.proofs.Math.Seq.{take-append_seam}

pub none_of : {A : Type 0} (xs : List A) → length xs ≡ 0 → xs ≡ []
none_of [] is = refl
none_of (x ∷ xs) is = absurd (cc is)

pub one_on : {A : Type 0} (before : List A) (x : A) (behind : List A) → before ++ x ∷ behind ≡ (before ++ x ∷ []) ++ behind
one_on before x behind = sym (append_assoc before (x ∷ []) behind)

-- what is behind the first part
pub rest_of : (took left : List ℕ) (count : ℕ) → took ++ left ≡ (took ++ take count left) ++ drop count left
rest_of took left count =
    ap (λ l. took ++ l) (sym (take-append-drop count left)) ∙ sym (append_assoc took (take count left) (drop count left))

pub not_true : (b : Bool) → (b ≡ true → ⊥) → b ≡ false
not_true false never = refl
not_true true never = absurd (never refl)

-- what stands in a vector whose room was written as a slice
pub written_back : (len : ℕ) (buffer items : List ℕ) → length buffer ≡ len → take len (buffer ++ drop (length buffer) items) ≡ buffer
written_back len buffer items is =
    subst (λ (n : ℕ). take n (buffer ++ drop (length buffer) items) ≡ buffer) is (take-append_seam buffer (drop (length buffer) items))

-- where some are held, one is given
pub some_given : {A : Type 0} (held : List A) (result : Option A) → ((x : A) (rest : List A) → held ≡ x ∷ rest → result ≡ Some x) → (held ≡ [] → ⊥) → result ≡ None → ⊥
some_given [] result gives some none = some refl
some_given (x ∷ held) result gives some none = let given = gives x held refl in cc (given, none)

-- and where memory was refused, something is given in any case
pub given_any : {A : Type 0} (held : List A) (result : Option A) (last : A) → ((x : A) (rest : List A) → held ≡ x ∷ rest → result ≡ Some x) → (held ≡ [] → result ≡ Some last) → result ≡ None → ⊥
given_any [] result last gives ends none = let given = ends refl in cc (given, none)
given_any (x ∷ held) result last gives ends none = let given = gives x held refl in cc (given, none)

-- what stands there where some are left
pub some_left : (left bytes : List ℕ) → bytes ≡ left → left ≢ [] → 1 ≤ length bytes
some_left [] bytes is some = absurd (some refl)
some_left (byte ∷ left) bytes is some = let long = ap length is in omega (arith, long)
