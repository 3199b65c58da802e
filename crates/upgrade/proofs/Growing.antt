-- The parts of an upgrade with more input.
use Rattle.std.proofs.Common.{◌≡◌, List, ℕ, ◌++◌, length, Option, Result, Ok, sym, ap, ◌∙◌, subst, append_assoc}
use Rattle.std.proofs.lemmas.List.{append-nil}
use Rattle.peer_ids.specs.Key.{Key}
use Rattle.ms_select.specs.declared.answer.Answer.{Answer}
use Rattle.ms_select.specs.declared.answer.Answer.TheVariants.{Going}
use Rattle.ms_select.specs.declared.fault.SelectFault.{SelectFault}
use Rattle.plaintext_x.specs.declared.fault.ExchangeFault.{ExchangeFault}
use Rattle.plaintext_x.specs.Exchange.{Exchanges}
use Rattle.talks.specs.Talks.{Side, Talks}
use Rattle.talks.specs.State.{Talking}
use Rattle.talks.proofs.Outcomes.{answers_as_defined}
use Rattle.upgrade.specs.declared.role.ConnRole.{ConnRole}
use Rattle.upgrade.specs.Upgrades.{InExchange, InSecondTalk, side_of, yamux}
use Rattle.upgrade.specs.Stages.{IsWaiting}

-- the same input by another name
unfoldable pub exchange_at : (role : ConnRole) (own : Key) (input same written : List ℕ) (now : Result (Option Key) ExchangeFault) → same ≡ input → InExchange role own input now written → InExchange role own same now written
exchange_at role own input same written now e here = record {
  first = here.first;
  exchange = here.exchange;
  index = here.index;
  talk = here.talk;
  input_is = e ∙ here.input_is;
  agrees = here.agrees;
  exchanges = here.exchanges;
  written_is = here.written_is;
}

unfoldable pub second_at : (role : ConnRole) (own key : Key) (input same written : List ℕ) (now : Result Answer SelectFault) → same ≡ input → InSecondTalk role own key input now written → InSecondTalk role own key same now written
second_at role own key input same written now e here = record {
  before = here.before;
  second = here.second;
  written_before = here.written_before;
  talk = here.talk;
  input_is = e ∙ here.input_is;
  proven = here.proven;
  talks = here.talks;
  written_is = here.written_is;
}

unfoldable pub exchange_on : (role : ConnRole) (own : Key) (input piece written : List ℕ) (was now : Result (Option Key) ExchangeFault) (here : InExchange role own input was written)
    → Exchanges (here.exchange ++ piece) now (length (here.exchange ++ piece)) → InExchange role own (input ++ piece) now written
exchange_on role own input piece written was now here e = record {
  first = here.first;
  exchange = here.exchange ++ piece;
  index = here.index;
  talk = here.talk;
  input_is = ap (λ (t : List ℕ). t ++ piece) here.input_is ∙ append_assoc here.first here.exchange piece;
  agrees = here.agrees;
  exchanges = e;
  written_is = here.written_is;
}

unfoldable pub second_grown : (role : ConnRole) (own key : Key) (input piece written all talk : List ℕ) (was now : Result Answer SelectFault) (here : InSecondTalk role own key input was written)
    → Talks (side_of role yamux) (here.second ++ piece) now talk → all ≡ here.written_before ++ talk → InSecondTalk role own key (input ++ piece) now all
second_grown role own key input piece written all talk was now here t e = record {
  before = here.before;
  second = here.second ++ piece;
  written_before = here.written_before;
  talk = talk;
  input_is = ap (λ (t : List ℕ). t ++ piece) here.input_is ∙ append_assoc here.before here.second piece;
  proven = here.proven;
  talks = t;
  written_is = e;
}

unfoldable pub second_on : (role : ConnRole) (own key : Key) (input piece written more : List ℕ) (was now : Result Answer SelectFault) (here : InSecondTalk role own key input was written)
    → Talks (side_of role yamux) (here.second ++ piece) now (here.talk ++ more) → InSecondTalk role own key (input ++ piece) now (written ++ more)
second_on role own key input piece written more was now here t =
    second_grown role own key input piece written (written ++ more) (here.talk ++ more) was now here t
    (ap (λ (t : List ℕ). t ++ more) here.written_is ∙ append_assoc here.written_before here.talk more)

-- a talk that waits is undecided
pub undecided : (side : Side) (talk : Talking) (input written : List ℕ) → IsWaiting side talk input written → Talks side input (Ok Going) written
undecided side talk input written w =
    let here = answers_as_defined talk input written Going w.going w.stands in
    let all : written ++ talk.pending ≡ written = ap (λ (t : List ℕ). written ++ t) w.none_waits ∙ append-nil written in
    let there = subst (λ (t : List ℕ). Talks talk.side input (Ok Going) t) all here in
    subst (λ (s : Side). Talks s input (Ok Going) written) w.side_is there

-- what was written, with more behind it
pub put_behind : (taken old new more : List ℕ) → new ≡ old ++ more → taken ++ new ≡ (taken ++ old) ++ more
put_behind taken old new more e = ap (λ (t : List ℕ). taken ++ t) e ∙ sym (append_assoc taken old more)
