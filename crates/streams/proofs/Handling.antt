-- A handler after one call more.
use Rattle.std.proofs.Common.{◌≡◌, ℕ, ◌+◌, Bool, true, false, List, [], ◌∷◌, ◌++◌, length, Option, Some, None, refl, ap, ◌∙◌}
use Rattle.std.proofs.lemmas.List.{append-nil}
use Rattle.handlers.specs.Calls.{HandlerCall, Take, Give, End, taken, given}
use Rattle.handlers.proofs.Handing.{taken-append, given-append, ends_take, ends_give, ends_end, one_more}
use Rattle.streams.specs.Handled.{Handled}

module _ {H : Type 0} (step : H → HandlerCall → H → Type 0) where
  -- one that was just made
  pub fresh_handled : (made : H) → Handled step made [] [] false [] None made
  fresh_handled made = record { was_handed = record { calls = []; arises = refl; joined = refl; ends = refl }; calls_are = refl; gave_is = refl; asked = tt }

  -- what is said of the last call may be left out
  pub forget : (made value : H) (calls : List HandlerCall) (handed gave : List ℕ) (ended : Bool) (left : Option ℕ) → Handled step made calls handed ended gave left value
      → Handled step made calls handed ended gave None value
  forget made value calls handed gave ended left h = record { was_handed = h.was_handed; calls_are = h.calls_are; gave_is = h.gave_is; asked = tt }

  pub after_take : (made value next : H) (before : List HandlerCall) (handed more gave : List ℕ) (left : Option ℕ) → Handled step made before handed false gave left value
      → step value (Take more) next → Handled step made (before ++ Take more ∷ []) (handed ++ more) false gave None next
  after_take made value next before handed more gave left h stepped =
      let calls = h.was_handed.calls in
      record {
        was_handed = record {
          calls = calls ++ Take more ∷ [];
          arises = one_more step made calls value (Take more) next h.was_handed.arises stepped;
          joined = taken-append calls (Take more ∷ []) ∙ ap (λ t. t ++ (more ++ [])) h.was_handed.joined ∙ ap (λ t. handed ++ t) (append-nil more);
          ends = ends_take calls more h.was_handed.ends;
        };
        calls_are = ap (λ t. t ++ Take more ∷ []) h.calls_are;
        gave_is = given-append calls (Take more ∷ []) ∙ append-nil (given calls) ∙ h.gave_is;
        asked = tt;
      }

  pub after_end : (made value next : H) (before : List HandlerCall) (handed gave : List ℕ) (left : Option ℕ) → Handled step made before handed false gave left value
      → step value End next → Handled step made (before ++ End ∷ []) handed true gave None next
  after_end made value next before handed gave left h stepped =
      let calls = h.was_handed.calls in
      record {
        was_handed = record {
          calls = calls ++ End ∷ [];
          arises = one_more step made calls value End next h.was_handed.arises stepped;
          joined = taken-append calls (End ∷ []) ∙ append-nil (taken calls) ∙ h.was_handed.joined;
          ends = ends_end calls h.was_handed.ends;
        };
        calls_are = ap (λ t. t ++ End ∷ []) h.calls_are;
        gave_is = given-append calls (End ∷ []) ∙ append-nil (given calls) ∙ h.gave_is;
        asked = tt;
      }

  pub after_give : (made value next : H) (before : List HandlerCall) (handed gave bytes : List ℕ) (ended : Bool) (left : Option ℕ) (room more : ℕ) → Handled step made before handed ended gave left value
      → step value (Give room bytes) next → length bytes + more ≡ room
      → Handled step made (before ++ Give room bytes ∷ []) handed ended (gave ++ bytes) (Some more) next
  after_give made value next before handed gave bytes ended left room more h stepped e =
      let calls = h.was_handed.calls in
      record {
        was_handed = record {
          calls = calls ++ Give room bytes ∷ [];
          arises = one_more step made calls value (Give room bytes) next h.was_handed.arises stepped;
          joined = taken-append calls (Give room bytes ∷ []) ∙ append-nil (taken calls) ∙ h.was_handed.joined;
          ends = ends_give calls ended room bytes h.was_handed.ends;
        };
        calls_are = ap (λ t. t ++ Give room bytes ∷ []) h.calls_are;
        gave_is = given-append calls (Give room bytes ∷ []) ∙ ap (λ t. t ++ (bytes ++ [])) h.gave_is ∙ ap (λ t. gave ++ t) (append-nil bytes);
        asked = record { before = calls; room = room; bytes = bytes; calls_are = refl; left_is = e };
      }
