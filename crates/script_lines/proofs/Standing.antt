-- Where the playing of a script stands behind some of its lines.
use Rattle.std.proofs.Common.{◌≡◌, ℕ, ◌+◌, ◌-◌, ◌^◌, List, [], ◌∷◌, ◌++◌, length, Option, None, Some, Bor, refl, sym, ap, ◌∙◌, append-nil, append_assoc, arith, subst}
use Rattle.std.specs.Prelude.{min}
use Rattle.std.specs.Io.KnownBytes.{Appends}
use Rattle.std.proofs.KnownBytes.{Appends-nil, Appends-trans}
use Rattle.std.proofs.lemmas.List.{length-append}
use Rattle.script_lines.specs.Playing.{PlaysEach}
use Rattle.script_lines.specs.Texts.{AreLines, HasLine}
use Rattle.script_lines.proofs.Lefts.{Left, IsFirst, has_line, left_more, left_at_first}

module _ {S : Type 0} (PlaysLine : S → List ℕ → List ℕ → S → Type 0) where
  plays_more : (from : S) (lines : List (List ℕ)) (printed : List ℕ) (middle : S) → PlaysEach PlaysLine from lines printed middle
      → (text one : List ℕ) (to : S) → PlaysLine middle text one to → PlaysEach PlaysLine from (lines ++ text ∷ []) (printed ++ one) to
  plays_more from [] printed middle plays text one to line = (
    one,
    [],
    to,
    subst (λ (s : S). PlaysLine s text one to) plays.1 line,
    (refl, refl),
    ap (λ (t : List ℕ). t ++ one) plays.0 ∙ sym (append-nil one),
  )
  plays_more from (first_text ∷ lines) printed middle plays text one to line = (
    plays.0,
    plays.1 ++ one,
    plays.2,
    plays.3,
    plays_more plays.2 lines plays.1 middle plays.4 text one to line,
    ap (λ (t : List ℕ). t ++ one) plays.5 ∙ append_assoc plays.0 plays.1 one,
  )

  -- so many lines were played, and what plays them is where they lead
  pub record Standing (from : S) (script : List ℕ) (rest : Option (Bor (List ℕ))) (IsIn : S → Type 0) (old new : Option (List ℕ))
      (number : ℕ) : Type 0 where
    pub lines : List (List ℕ)
    pub printed : List ℕ
    pub to : S
    pub left : Left script lines rest
    pub plays : PlaysEach PlaysLine from lines printed to
    pub appends : Appends old new printed
    pub is_in : IsIn to
    pub counted : number ≡ min (length lines) (2 ^ 64 - 1)

  pub starts : (from : S) (script : Bor (List ℕ)) (IsIn : S → Type 0) (held : Option (List ℕ)) → IsIn from
      → Standing from script.now (Some script) IsIn held held 0
  starts from script IsIn held is_in = record {
    lines = [];
    printed = [];
    to = from;
    left = left_at_first script.now;
    plays = (refl, refl);
    appends = Appends-nil held;
    is_in = is_in;
    counted = refl;
  }

  pub goes_on : (from : S) (script : List ℕ) (texts : Bor (List ℕ)) (IsIn Next : S → Type 0) (old between new : Option (List ℕ)) (number : ℕ)
      (at : Standing from script (Some texts) IsIn old between number) (text : List ℕ) (more : Option (Bor (List ℕ)))
      → IsFirst texts.now text more → (printed : List ℕ) (to : S) → PlaysLine at.to text printed to → Appends between new printed → Next to
      → Standing from script more Next old new (min (number + 1) (2 ^ 64 - 1))
  goes_on from script texts IsIn Next old between new number at text more first printed to line appends is_in = record {
    lines = at.lines ++ text ∷ [];
    printed = at.printed ++ printed;
    to = to;
    left = left_more script at.lines texts.now text more at.left first;
    plays = plays_more from at.lines at.printed at.to at.plays text printed to line;
    appends = Appends-trans old between new at.printed printed at.appends appends;
    is_in = is_in;
    counted = omega (arith, at.counted, length-append at.lines (text ∷ []));
  }

  -- at its end all its lines were played
  pub ends : (from : S) (script : List ℕ) (IsIn : S → Type 0) (old new : Option (List ℕ)) (number : ℕ)
      → Standing from script None IsIn old new number → (lines : List (List ℕ)) × (last : List ℕ) × (printed : List ℕ) × (to : S)
      × AreLines script lines last × PlaysEach PlaysLine from (lines ++ last ∷ []) printed to × Appends old new printed × IsIn to
  ends from script IsIn old new number at = (
    at.left.0,
    at.left.1,
    at.printed,
    at.to,
    at.left.3,
    subst (λ (lines : List (List ℕ)). PlaysEach PlaysLine from lines at.printed at.to) at.left.2 at.plays,
    at.appends,
    at.is_in,
  )

  -- at a line that isn't played, those before it were
  pub stops : (from : S) (script : List ℕ) (texts : Bor (List ℕ)) (IsIn : S → Type 0) (Bad : List ℕ → Type 0) (old between new : Option (List ℕ)) (number : ℕ)
      → Standing from script (Some texts) IsIn old between number → (text : List ℕ) (more : Option (Bor (List ℕ)))
      → IsFirst texts.now text more → new ≡ between → Bad text → (lines : List (List ℕ)) × (bad : List ℕ) × (printed : List ℕ)
      × (to : S) × HasLine script lines bad × Bad bad × PlaysEach PlaysLine from lines printed to
      × Appends old new printed × IsIn to × (min (number + 1) (2 ^ 64 - 1) ≡ min (length lines + 1) (2 ^ 64 - 1))
  stops from script texts IsIn Bad old between new number at text more first same bad = (
    at.lines,
    text,
    at.printed,
    at.to,
    has_line script at.lines texts.now text more at.left first,
    bad,
    at.plays,
    subst (λ (held : Option (List ℕ)). Appends old held at.printed) (sym same) at.appends,
    at.is_in,
    omega (arith, at.counted),
  )
