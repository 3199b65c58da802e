-- What stays when bytes are added, and what each input comes to.
use Rattle.std.proofs.Common.{◌≡◌, ◌≢◌, ℕ, suc, ◌<◌, ◌≤◌, List, [], ◌∷◌, ◌++◌, length, take, drop, Option, Some, None, Result, Ok, Err, refl, sym, ap, ◌∙◌, subst, append_assoc, inl, inr, arith}
use Rattle.std.specs.Prelude.{slice_index}
use Rattle.std.proofs.lemmas.List.{append-nil, take-append-drop, length-take-le}
use Rattle.peer_ids.specs.Key.{Key}
use Rattle.ms_select.specs.declared.answer.Answer.{Answer}
use Rattle.ms_select.specs.declared.answer.Answer.TheVariants.{Going, Agreed, NoneLeft}
use Rattle.ms_select.specs.declared.fault.SelectFault.{SelectFault}
use Rattle.plaintext_x.specs.declared.fault.ExchangeFault.{ExchangeFault}
use Rattle.plaintext_x.specs.declared.fault.ExchangeFault.TheVariants as exchange_faults
use Rattle.plaintext_x.specs.Exchange.{Exchanges, message_of}
use Rattle.plaintext_x.proofs.Steps.{fault_stays as exchange_fault_stays}
use Rattle.plaintext_x.proofs.SomeOutcome.{some_outcome_of}
use Rattle.plaintext_x.proofs.Cut.{nothing_behind}
use Rattle.talks.specs.Talks.{ComesTo as TalkComesTo}
use Rattle.talks.proofs.Outcomes.{fault_stays as talk_fault_stays, some_outcome as some_talk}
use Rattle.upgrade.specs.declared.role.ConnRole.{ConnRole}
use Rattle.upgrade.specs.declared.fault.UpgradeFault.{UpgradeFault}
use Rattle.upgrade.specs.declared.fault.UpgradeFault.TheVariants as faults
use Rattle.upgrade.specs.declared.stages.Stage.{Stage}
use Rattle.upgrade.specs.declared.stages.Stage.TheVariants.{Greeting, Proving, Muxing, Over}
use Rattle.upgrade.specs.Upgrades.{InExchange, InSecondTalk, Upgrades, ComesTo, side_of, plaintext, yamux}
use Rattle.upgrade.specs.Stages.{StandsIn}
use Rattle.upgrade.specs.Laws.{UpStays, FaultStays, FaultsOfParts, GoesOn, SomeOutcome}
use Rattle.upgrade.proofs.Growing.{exchange_on, second_grown, undecided}

-- ---- what stays

pub up_stays : UpStays
up_stays role own key input first more written c = record {
  rest = c.rest ++ more;
  input_is = ap (λ (t : List ℕ). t ++ more) c.input_is ∙ append_assoc first c.rest more;
  upgrades = c.upgrades;
  all = λ no. absurd (no tt);
}

pub fault_stays : FaultStays
fault_stays role own input more written (faults.Select fault) (inl t) = inl (talk_fault_stays (side_of role plaintext) input more fault written t)
fault_stays role own input more written (faults.Select fault) (inr (key, s)) =
    inr (key, second_grown role own key input more written written s.talk (Err fault) (Err fault) s (talk_fault_stays (side_of role yamux) s.second more fault s.talk s.talks) s.written_is)
fault_stays role own input more written faults.NoneLeft (front, rest, e, t) = (front, rest ++ more, ap (λ (t : List ℕ). t ++ more) e ∙ append_assoc front rest more, t)
fault_stays role own input more written (faults.Exchange fault) (ne, e) =
    (ne, exchange_on role own input more written (Err fault) (Err fault) e (exchange_fault_stays e.exchange more fault (length e.exchange) e.exchanges))
fault_stays role own input more written faults.Failed u = absurd u
fault_stays role own input more written faults.OutOfMemory u = absurd u

-- ---- faults of the parts

pub faults_of_parts : FaultsOfParts
faults_of_parts = record {
  first_talk = λ role own input written fault t. inl t;
  exchange = λ role own input written fault ne e. (ne, e);
  second_talk = λ role own key input written fault t. inr (key, t);
  first_turned_down = λ role own input more written t. (input, more, refl, inl t);
  second_turned_down = λ role own key input more written t. (input, more, refl, inr (key, t));
}

-- ---- standings

pub going_by : (stage : Stage) (role : ConnRole) (own : Key) (input written : List ℕ) → StandsIn stage role own input written → Upgrades role own input (Ok None) written
going_by (Greeting talk) role own input written w = inl (inl (undecided (side_of role plaintext) talk input written w))
going_by (Proving x) role own input written s = inr s.0
going_by (Muxing talk key) role own input written s = inl (inr (key, s.0))
going_by Over role own input written s = absurd s

pub goes_on : GoesOn
goes_on x input taken s = going_by x.stage x.role x.own input (taken ++ x.pending) s

-- ---- each input comes to something

abbrev Comes : ConnRole → Key → List ℕ → Type 0
Comes role own input = (first : List ℕ) × (outcome : Result (Option Key) UpgradeFault) × (written : List ℕ) × ComesTo role own input first outcome written

abbrev AreBytes : List ℕ → Type 0
AreBytes input = (i : ℕ) → slice_index input i < 256

behind : (front rest : List ℕ) → AreBytes (front ++ rest) → AreBytes rest
behind [] rest bytes i = bytes i
behind (n ∷ front) rest bytes i = behind front rest (λ j. bytes (suc j)) i

bytes_behind : (input front rest : List ℕ) → input ≡ front ++ rest → AreBytes input → AreBytes rest
bytes_behind input front rest e bytes = behind front rest (subst (λ (t : List ℕ). AreBytes t) e bytes)

-- by all of the input
by_all_of : (role : ConnRole) (own : Key) (input : List ℕ) (outcome : Result (Option Key) UpgradeFault) (written : List ℕ) → Upgrades role own input outcome written → Comes role own input
by_all_of role own input outcome written u = (input, outcome, written, record { rest = []; input_is = sym (append-nil input); upgrades = u; all = λ no. refl })

-- behind a key that is proven by the front
module _ (role : ConnRole) (own key : Key) (input before rest written : List ℕ) (is : input ≡ before ++ rest) (proven : InExchange role own before (Ok (Some key)) written) where
  talking : (second talk : List ℕ) (standing : Result Answer SelectFault) (front : List ℕ) → front ≡ before ++ second → TalkComesTo (side_of role yamux) rest second standing talk
      → InSecondTalk role own key front standing (written ++ talk)
  talking second talk standing front e c = record { before = before; second = second; written_before = written; talk = talk; input_is = e; proven = proven; talks = c.talks; written_is = refl }

  whole_rest : (second more : List ℕ) → rest ≡ second ++ more → more ≡ [] → input ≡ before ++ second
  whole_rest second more e none = is ∙ ap (λ (t : List ℕ). before ++ t) (e ∙ ap (λ (t : List ℕ). second ++ t) none ∙ append-nil second)

  some_second : (standing : Result Answer SelectFault) (second talk : List ℕ) → TalkComesTo (side_of role yamux) rest second standing talk → Comes role own input
  some_second (Ok Going) second talk c =
      by_all_of role own input (Ok None) (written ++ talk) (inl (inr (key, talking second talk (Ok Going) input (whole_rest second c.rest c.input_is (c.all (λ d. d))) c)))
  some_second (Ok (Agreed i)) second talk c = (
    before ++ second,
    Ok (Some key),
    written ++ talk,
    record {
      rest = c.rest;
      input_is = is ∙ ap (λ (t : List ℕ). before ++ t) c.input_is ∙ sym (append_assoc before second c.rest);
      upgrades = (i, talking second talk (Ok (Agreed i)) (before ++ second) refl c);
      all = λ no. absurd (no tt);
    },
  )
  some_second (Ok NoneLeft) second talk c =
      by_all_of role own input (Err faults.NoneLeft) (written ++ talk) (
        before ++ second,
        c.rest,
        is ∙ ap (λ (t : List ℕ). before ++ t) c.input_is ∙ sym (append_assoc before second c.rest),
        inr (key, talking second talk (Ok NoneLeft) (before ++ second) refl c),
      )
  some_second (Err fault) second talk c =
      by_all_of role own input (Err (faults.Select fault)) (written ++ talk) (inr (key, talking second talk (Err fault) input (whole_rest second c.rest c.input_is (c.all (λ d. d))) c))

-- behind a first talk that agrees by the front
module _ (role : ConnRole) (own : Key) (input first rest talk : List ℕ) (index : ℕ) (is : input ≡ first ++ rest) (c : TalkComesTo (side_of role plaintext) input first (Ok (Agreed index)) talk) where
  exchanging : (exchange front : List ℕ) (outcome : Result (Option Key) ExchangeFault) → front ≡ first ++ exchange → Exchanges exchange outcome (length exchange)
      → InExchange role own front outcome (talk ++ message_of own)
  exchanging exchange front outcome e x = record { first = first; exchange = exchange; index = index; talk = talk; input_is = e; agrees = c.talks; exchanges = x; written_is = refl }

  proven : (key : Key) (used : ℕ) → used ≤ length rest → Exchanges rest (Ok (Some key)) used → AreBytes rest → Comes role own input
  proven key used within x bytes =
      let exchange : List ℕ = take used rest in
      let behind : List ℕ = drop used rest in
      let parts : exchange ++ behind ≡ rest = take-append-drop used rest in
      let size : length exchange ≡ used = length-take-le used rest within in
      let counted = subst (λ (n : ℕ). Exchanges rest (Ok (Some key)) n) (sym size) x in
      let whole = subst (λ (t : List ℕ). Exchanges t (Ok (Some key)) (length exchange)) (sym parts) counted in
      let here = exchanging exchange (first ++ exchange) (Ok (Some key)) refl (nothing_behind exchange behind (Ok (Some key)) whole) in
      let second = some_talk (side_of role yamux) behind (bytes_behind rest exchange behind (sym parts) bytes) in
      some_second role own key input (first ++ exchange) behind (talk ++ message_of own)
      (is ∙ ap (λ (t : List ℕ). first ++ t) (sym parts) ∙ sym (append_assoc first exchange behind)) here second.1 second.0 second.2 second.3

  some_exchange : (outcome : Result (Option Key) ExchangeFault) (used : ℕ) → outcome ≢ Err exchange_faults.OutOfMemory → Exchanges rest outcome used → AreBytes rest → Comes role own input
  some_exchange (Ok None) used known x bytes =
      by_all_of role own input (Ok None) (talk ++ message_of own) (inr (exchanging rest input (Ok None) is (subst (λ (n : ℕ). Exchanges rest (Ok None) n) x.1 x)))
  some_exchange (Ok (Some key)) used known x bytes = proven key used (omega (arith, x.4)) x bytes
  some_exchange (Err fault) used known x bytes =
      by_all_of role own input (Err (faults.Exchange fault)) (talk ++ message_of own) ((λ e. known cc), exchanging rest input (Err fault) is (subst (λ (n : ℕ). Exchanges rest (Err fault) n) x.1 x))

some_first : (role : ConnRole) (own : Key) (input : List ℕ) → AreBytes input → (standing : Result Answer SelectFault) (first talk : List ℕ) → TalkComesTo (side_of role plaintext) input first standing talk → Comes role own input
some_first role own input bytes (Ok Going) first talk c =
    (first, Ok None, talk, record { rest = c.rest; input_is = c.input_is; upgrades = inl (inl c.talks); all = λ no. c.all (λ d. d) })
some_first role own input bytes (Ok (Agreed i)) first talk c =
    let x = some_outcome_of c.rest in
    some_exchange role own input first c.rest talk i c.input_is c x.0 x.1 x.2 x.3 (bytes_behind input first c.rest c.input_is bytes)
some_first role own input bytes (Ok NoneLeft) first talk c = by_all_of role own input (Err faults.NoneLeft) talk (first, c.rest, c.input_is, inl c.talks)
some_first role own input bytes (Err fault) first talk c =
    (first, Err (faults.Select fault), talk, record { rest = c.rest; input_is = c.input_is; upgrades = inl c.talks; all = λ no. c.all (λ d. d) })

pub some_outcome : SomeOutcome
some_outcome role own input bytes =
    let c = some_talk (side_of role plaintext) input bytes in
    some_first role own input bytes c.1 c.0 c.2 c.3
