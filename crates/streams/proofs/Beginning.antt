-- What an end that answers writes first.
use Rattle.std.proofs.Common.{◌≡◌, ℕ, List, [], ◌∷◌, Some, None, Ok, refl, subst, inl, arith}
use Rattle.std.proofs.lemmas.List.Elements.{All-nil}
use Rattle.ms_select.specs.declared.answer.Answer.TheVariants.{Going}
use Rattle.ms_select.specs.Messages.{header, spelled, IsShort, ReadsMessage}
use Rattle.talks.specs.Talks.{Side, Answers, Talks}
use Rattle.talks.specs.State.{Talking, Stands}
use Rattle.talks.proofs.Outcomes.{by_all, one_outcome, answers_as_defined}

nothing_came : ReadsMessage [] (Ok None)
nothing_came = inl (tt, omega arith)

opens : (names : List (List ℕ)) → Talks (Answers names) [] (Ok Going) (spelled (header ∷ []))
opens names = ([], [], record { parts = refl; short = All-nil IsShort; undecided = tt }, nothing_came, refl, refl)

pub header_waits : (talk : Talking) (names : List (List ℕ)) → talk.side ≡ Answers names → talk.answer ≡ Some Going → Stands talk [] [] → talk.pending ≡ spelled (header ∷ [])
header_waits talk names side going stands =
    let here = answers_as_defined talk [] [] Going going stands in
    let there = subst (λ (s : Side). Talks s [] (Ok Going) talk.pending) side here in
    (one_outcome (Answers names) [] [] [] (Ok Going) (Ok Going) talk.pending (spelled (header ∷ [])) (by_all (Answers names) [] (Ok Going) talk.pending there)
    (by_all (Answers names) [] (Ok Going) (spelled (header ∷ [])) (opens names))).2
