-- A text is a name alone, or a name, a space and more.
use Rattle.std.proofs.Common.{◌≡◌, ℕ, ◌<◌, ◌==◌, ◌&&◌, zero, suc, Bool, true, not, List, [], ◌∷◌, ◌++◌, length, Option, None, Some, Result, Ok, Err, refl, sym, ap, subst, ◌∙◌, append-nil, arith}
use Rattle.std.specs.Prelude.{slice_index, IfSome, IfOk}
use Rattle.std.proofs.lemmas.Bool.Decides.{nat_tests}
use Rattle.std.proofs.lemmas.List.{length-append, get_or-append_right}
use Rattle.pool_texts.specs.Lines.{ArePair, HasNoSpace, tail_of}

-- no space stands in it, as a test
unfoldable pub is_whole : List ℕ → Bool
is_whole [] = true
is_whole (c ∷ word) = not (c == 32) && is_whole word

pub spaceless : (word : List ℕ) → is_whole word ≡ true → HasNoSpace word
unfolding is_whole
spaceless [] whole place inside is = omega (arith, inside)
spaceless (c ∷ word) whole zero inside is = grind (arith, nat_tests)
spaceless (c ∷ word) whole (suc place) inside is = spaceless word (grind (arith, nat_tests)) place (omega (arith, inside)) is

pub no_pair : (text name words : List ℕ) → is_whole text ≡ true → ArePair text name words → ⊥
no_pair text name words whole pair =
    let place : length name < length text = omega (arith, ap length pair, length-append name (32 ∷ words)) in
    let at : slice_index text (length name) ≡ 32 = grind (arith, pair, get_or-append_right name (32 ∷ words) (length name) (length name) 0 refl (omega arith)) in
    spaceless text whole (length name) place at

-- What stands before the first space, and behind it, is this.
abbrev pub Splits : List ℕ → List ℕ → List ℕ → Type 0
Splits text name words =
    (first second : List ℕ) → ArePair text first second → HasNoSpace first → (name ≡ first) × (words ≡ second)

-- No word with a space behind it begins the text.
abbrev pub IsWord : List ℕ → Type 0
IsWord text = (first second : List ℕ) → ArePair text first second → HasNoSpace first → ⊥

module _ {X : Type 0} (name_of : X → List ℕ) (Rest : Option (List ℕ) → X → Type 0) (whole : (it : X) → is_whole (name_of it) ≡ true) where
  abbrev pub Says : List ℕ → X → Type 0
  Says text it = (rest : Option (List ℕ)) × (text ≡ name_of it ++ tail_of rest) × Rest rest it

  -- where it has a space, the name stands before the first, and the rest behind it
  pub with_rest : (text name words : List ℕ) → ArePair text name words → Splits text name words → (it : X) → Says text it
      → (name ≡ name_of it) × Rest (Some words) it
  with_rest text name words pair split it (None, is, said) =
      absurd (no_pair text name words (ap is_whole (is ∙ append-nil (name_of it)) ∙ whole it) pair)
  with_rest text name words pair split it (Some rest, is, said) =
      let same = split (name_of it) rest is (spaceless (name_of it) (whole it)) in
      (same.0, subst (λ (t : List ℕ). Rest (Some t) it) (sym same.1) said)

  -- where it has none, it is the name
  pub alone : (text : List ℕ) → IsWord text → (it : X) → Says text it → (text ≡ name_of it) × Rest None it
  alone text unsplit it (None, is, said) = (is ∙ append-nil (name_of it), said)
  alone text unsplit it (Some rest, is, said) = absurd (unsplit (name_of it) rest is (spaceless (name_of it) (whole it)))

  -- and each way back, of what was found
  pub said_with : (text name words : List ℕ) → ArePair text name words → (found : Option X)
      → IfSome found (λ it. (name ≡ name_of it) × Rest (Some words) it) → IfSome found (Says text)
  said_with text name words pair None h = tt
  said_with text name words pair (Some it) h = (Some words, pair ∙ ap (λ (t : List ℕ). t ++ 32 ∷ words) h.0, h.1)

  pub said_alone : (text : List ℕ) (found : Option X) → IfSome found (λ it. (text ≡ name_of it) × Rest None it)
      → IfSome found (Says text)
  said_alone text None h = tt
  said_alone text (Some it) h = (None, h.0 ∙ sym (append-nil (name_of it)), h.1)

  pub read_with : {E : Type 0} (text name words : List ℕ) → ArePair text name words → (read : Result (Option X) E)
      → IfOk read (λ found. IfSome found (λ it. (name ≡ name_of it) × Rest (Some words) it))
      → IfOk read (λ found. IfSome found (Says text))
  read_with text name words pair (Ok found) h = said_with text name words pair found h
  read_with text name words pair (Err e) h = tt
