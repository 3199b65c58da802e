-- A reader reads what it was handed.
use Rattle.std.proofs.Common.{◌≡◌, ◌↔◌, ℕ, Bool, true, false, List, [], ◌∷◌, ◌++◌, Option, Some, None, refl, sym, ◌∙◌, ap, subst, append_assoc}
use Rattle.std.specs.Prelude.{IfSome, is_some}
use Rattle.std.proofs.lemmas.List.{append-nil}
use Rattle.handlers.specs.Calls.{HandlerCall, Take, Give, End, Arises, EndsAs, GivesOnly, taken, given}
use Rattle.identify_h.specs.Messages.{Message}
use Rattle.identify_h.specs.Streams.{Reads}
use Rattle.identify_h.specs.Reading.{Reader, Stands, IsFresh, ReadStep}

-- what holds of a reader that was handed this
record HasRead (peer input : List ℕ) (ended : Bool) (given : List ℕ) (r : Reader) : Type 0 where
  finished : is_some r.message ≡ ended
  read : IfSome r.message (Reads peer input)
  nothing : given ≡ []

after_end : (peer input : List ℕ) (m : Message) (r s : Reader) (calls : List HandlerCall) → r.message ≡ Some m → Reads peer input m
    → GivesOnly calls → Arises ReadStep r calls s → (taken calls ≡ []) × HasRead peer input true (given calls) s
after_end peer input m r s [] is read only came = (
  refl,
  record {
    finished = ap (λ (t : Reader). is_some t.message) (sym came) ∙ ap is_some is;
    read = subst (λ (t : Reader). IfSome t.message (Reads peer input)) came (subst (λ (o : Option Message). IfSome o (Reads peer input)) (sym is) read);
    nothing = refl;
  },
)
after_end peer input m r s (Give room bytes ∷ calls) is read only came =
    let later = after_end peer input m came.0 s calls (ap (λ (t : Reader). t.message) came.1.2 ∙ is) read only came.2 in (
      later.0,
      record {
        finished = later.1.finished;
        read = later.1.read;
        nothing = ap (λ (t : List ℕ). t ++ given calls) came.1.1 ∙ later.1.nothing;
      },
    )
after_end peer input m r s (Take bytes ∷ calls) is read only came = absurd only
after_end peer input m r s (End ∷ calls) is read only came = absurd only

reads_after : (peer input : List ℕ) (r s : Reader) (calls : List HandlerCall) (ended : Bool) → r.peer ≡ peer → r.message ≡ None → Stands input r
    → EndsAs calls ended → Arises ReadStep r calls s → HasRead peer (input ++ taken calls) ended (given calls) s
reads_after peer input r s [] ended peer_is none at ends came = record {
  finished = ap (λ (t : Reader). is_some t.message) (sym came) ∙ ap is_some none ∙ sym ends;
  read = subst (λ (t : Reader). IfSome t.message (Reads peer (input ++ []))) came
      (subst (λ (o : Option Message). IfSome o (Reads peer (input ++ []))) (sym none) tt);
  nothing = refl;
}
reads_after peer input r s (Take bytes ∷ calls) ended peer_is none at ends came =
    let step = came.1 in
    subst (λ (t : List ℕ). HasRead peer t ended (given calls) s) (append_assoc input bytes (taken calls))
    (reads_after peer (input ++ bytes) came.0 s calls ended (step.peer ∙ peer_is) step.message (step.stands input at) ends came.2)
reads_after peer input r s (Give room bytes ∷ calls) ended peer_is none at ends came =
    let same = came.1.2 in
    let later = reads_after peer input came.0 s calls ended (ap (λ (t : Reader). t.peer) same ∙ peer_is) (ap (λ (t : Reader). t.message) same ∙ none)
    (subst (λ (t : Reader). Stands input t) (sym same) at) ends came.2 in
    record {
      finished = later.finished;
      read = later.read;
      nothing = ap (λ (t : List ℕ). t ++ given calls) came.1.1 ∙ later.nothing;
    }
reads_after peer input r s (End ∷ calls) ended peer_is none at ends came =
    let read = came.1.1 in
    let m : Message = read.0 in
    let all = subst (λ (t : List ℕ). Reads t input m) peer_is (read.2 input at) in
    let later = after_end peer input m came.0 s calls (ap (λ (t : Reader). t.message) read.1) all ends.1 came.2 in
    let same : input ≡ input ++ taken calls = sym (append-nil input) ∙ ap (λ (t : List ℕ). input ++ t) (sym later.0) in
    subst (λ (b : Bool). HasRead peer (input ++ taken calls) b (given calls) s) (sym ends.0)
    (subst (λ (t : List ℕ). HasRead peer t true (given calls) s) same later.1)

-- what was handed bytes alone stands behind them
pub record Goes (peer input : List ℕ) (r : Reader) : Type 0 where
  pub peer_is : r.peer ≡ peer
  pub none : r.message ≡ None
  pub stands : Stands input r

goes_on : (peer input : List ℕ) (r s : Reader) (calls : List HandlerCall) → Goes peer input r → EndsAs calls false → Arises ReadStep r calls s
    → Goes peer (input ++ taken calls) s
goes_on peer input r s [] goes ends came =
    subst (λ (t : Reader). Goes peer (input ++ []) t) came (subst (λ (t : List ℕ). Goes peer t r) (sym (append-nil input)) goes)
goes_on peer input r s (Take bytes ∷ calls) goes ends came =
    let step = came.1 in
    subst (λ (t : List ℕ). Goes peer t s) (append_assoc input bytes (taken calls))
    (goes_on peer (input ++ bytes) came.0 s calls
    (record { peer_is = step.peer ∙ goes.peer_is; none = step.message; stands = step.stands input goes.stands }) ends came.2)
goes_on peer input r s (Give room bytes ∷ calls) goes ends came =
    goes_on peer input came.0 s calls (subst (λ (t : Reader). Goes peer input t) (sym came.1.2) goes) ends came.2
goes_on peer input r s (End ∷ calls) goes ends came = absurd (cc ends.0)

pub goes_after : (peer : List ℕ) (calls : List HandlerCall) (made s : Reader) → IsFresh peer made → EndsAs calls false → Arises ReadStep made calls s
    → Goes peer (taken calls) s
goes_after peer calls made s fresh ends came =
    goes_on peer [] made s calls (record { peer_is = fresh.peer_is; none = fresh.message; stands = fresh.stands }) ends came

has_read : (peer : List ℕ) (calls : List HandlerCall) (ended : Bool) (made s : Reader) → IsFresh peer made → EndsAs calls ended
    → Arises ReadStep made calls s → HasRead peer (taken calls) ended (given calls) s
has_read peer calls ended made s fresh ends came = reads_after peer [] made s calls ended fresh.peer_is fresh.message fresh.stands ends came

pub finishes : (peer : List ℕ) (calls : List HandlerCall) (ended : Bool) (made s : Reader) → IsFresh peer made → EndsAs calls ended
    → Arises ReadStep made calls s → (is_some s.message ≡ true) ↔ (ended ≡ true)
finishes peer calls ended made s fresh ends came =
    let all = has_read peer calls ended made s fresh ends came in (λ h. sym all.finished ∙ h, λ h. all.finished ∙ h)

pub reads : (peer : List ℕ) (calls : List HandlerCall) (ended : Bool) (made s : Reader) → IsFresh peer made → EndsAs calls ended
    → Arises ReadStep made calls s → IfSome s.message (Reads peer (taken calls))
reads peer calls ended made s fresh ends came = (has_read peer calls ended made s fresh ends came).read

pub gives_nothing : (peer : List ℕ) (calls : List HandlerCall) (ended : Bool) (made s : Reader) → IsFresh peer made → EndsAs calls ended
    → Arises ReadStep made calls s → given calls ≡ []
gives_nothing peer calls ended made s fresh ends came = (has_read peer calls ended made s fresh ends came).nothing
