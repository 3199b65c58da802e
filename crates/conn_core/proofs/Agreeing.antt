-- The protocol that was told to be agreed on is the one on which the talk agrees by the data so far.
use Rattle.std.proofs.Common.{◌≡◌, ◌≢◌, ℕ, ◌==◌, Bool, true, false, if◌then◌else◌, ◌||◌, ◌⊎◌, inl, inr, List, [], ◌∷◌, ◌++◌, Option, Some, None, Ok, refl, sym, ap, ◌∙◌, subst}
use Rattle.std.proofs.lemmas.Bool.{eqb-true}
use Rattle.std.specs.Prelude.{slice_get}
use Rattle.std.proofs.lemmas.List.{append_assoc, append-nil}
use Rattle.handlers.specs.Calls.{HandlerCall, Asked}
use Rattle.ms_select.specs.declared.answer.Answer.TheVariants as answers
use Rattle.talks.specs.Talks.{Side, Asks as AsksFor, Answers, Agrees}
use Rattle.talks.proofs.Outcomes.{one_outcome}
use Rattle.yamux_session.specs.declared.event.Role.{Role}
use Rattle.yamux_session.specs.Openings.{opens}
use Rattle.yamux_session.specs.Data.{inbound, byte_at}
use Rattle.conn_log.specs.declared.event.ConnEvent.TheVariants as event
use Rattle.conn_log.specs.Entries.{Entry, items, since, agreed, agreed_in, asked}
use Rattle.conn_log.specs.Entries.Entry.{Of, Says, Made, Asks, Calls}
use Rattle.conn_log.specs.Due.{AllDue, ComesTo}
use Rattle.conn_log.specs.Held.{IsSide}

unless : {H : Type 0} (n index : ℕ) (b : Bool) (entries : List (Entry H)) → agreed_in n (if b then [] else entries) ≡ Some index → (b ≡ false) × (agreed_in n entries ≡ Some index)
unless n index true entries is = absurd (cc is)
unless n index false entries is = (refl, is)

chosen : (index i : ℕ) (b : Bool) (before : Option ℕ) → (if b then Some i else before) ≡ Some index → ((b ≡ true) × (i ≡ index)) ⊎ ((b ≡ false) × (before ≡ Some index))
chosen index i true before is = inl (refl, cc is)
chosen index i false before is = inr (refl, is)

some_of : (o : Option ℕ) → o ≢ None → (i : ℕ) × (o ≡ Some i)
some_of (Some i) is = (i, refl)
some_of None is = absurd (is refl)

module _ {P H : Type 0} (step : H → HandlerCall → H → Type 0) (fails : H → Asked → ℕ → Type 0)
    (is_closed is_finished : H → Bool) (inbound_makes outbound_makes : P → ℕ → List ℕ → H → Type 0)
    (eager : ℕ → Bool) (names : List (List ℕ)) (peer : List ℕ) (role : Role) where
  -- the talk agrees on this protocol by a beginning of the data
  abbrev AgreesOn : List (Entry H) → ℕ → ℕ → Type 0
  AgreesOn log n index = ComesTo step fails is_closed is_finished inbound_makes outbound_makes eager names peer role log n (λ side first output. Agrees side first index output)

  side_kept : (log now : List (Entry H)) (n : ℕ) (side : Side) → asked now n ≡ asked log n → IsSide role names log n side → IsSide role names now n side
  side_kept log now n (AsksFor name index) same it = (it.0, same ∙ it.1, it.2)
  side_kept log now n (Answers known) same it = it

  grown : (log now : List (Entry H)) (n index : ℕ) (more : List ℕ) → inbound role (items now) n ≡ inbound role (items log) n ++ more → asked now n ≡ asked log n → AgreesOn log n index → AgreesOn now n index
  grown log now n index more came same it = record {
    side = it.side;
    first = it.first;
    rest = it.rest ++ more;
    output = it.output;
    side_is = side_kept log now n it.side same it.side_is;
    data_is = came ∙ ap (λ t. t ++ more) it.data_is ∙ append_assoc it.first it.rest more;
    comes_to = it.comes_to;
  }

  kept : (log : List (Entry H)) (entry : Entry H) (n index : ℕ) → items (entry ∷ log) ≡ items log → asked (entry ∷ log) n ≡ asked log n → AgreesOn log n index → AgreesOn (entry ∷ log) n index
  kept log entry n index same_items same it =
      grown log (entry ∷ log) n index [] (ap (λ past. inbound role past n) same_items ∙ sym (append-nil (inbound role (items log) n))) same it

  pub agrees_as_told : (log : List (Entry H)) (n index : ℕ) → AllDue step fails is_closed is_finished inbound_makes outbound_makes eager names peer role log → agreed role log n ≡ Some index → AgreesOn log n index
  agrees_as_told [] n index due is = absurd (cc is)
  agrees_as_told (Of x ∷ log) n index due is =
      let still = unless n index (opens role (items log) x n) (since role log n) is in
      grown log (Of x ∷ log) n index (byte_at role (items log) x n) (ap (λ (b : Bool). (if b then [] else inbound role (items log) n) ++ byte_at role (items log) x n) still.0) refl
      (agrees_as_told log n index due.1 still.1)
  agrees_as_told (Made m handler ∷ log) n index due is = kept log (Made m handler) n index refl refl (agrees_as_told log n index due.1 is)
  agrees_as_told (Asks m i ∷ log) n index due is =
      let still = unless n index (m == n) (since role log n) is in
      grown log (Asks m i ∷ log) n index [] (ap (λ (b : Bool). (if b || false then [] else inbound role (items log) n) ++ []) still.0) (ap (λ (b : Bool). if b then Some i else asked log n) still.0)
      (agrees_as_told log n index due.1 still.1)
  agrees_as_told (Calls m call ∷ log) n index due is = kept log (Calls m call) n index refl refl (agrees_as_told log n index due.1 is)
  agrees_as_told (Says (event.Agreed m i) ∷ log) n index due is =
      kept log (Says (event.Agreed m i)) n index refl refl (by_number log m i n index due.0.2 (λ before. agrees_as_told log n index due.1 before) (chosen index i (m == n) (agreed role log n) is))
    where
      by_number : (log : List (Entry H)) (m i n index : ℕ) → AgreesOn log m i → (agreed role log n ≡ Some index → AgreesOn log n index)
          → (((m == n) ≡ true) × (i ≡ index)) ⊎ (((m == n) ≡ false) × (agreed role log n ≡ Some index)) → AgreesOn log n index
      by_number log m i n index due later (inl this) = subst (λ (j : ℕ). AgreesOn log n j) this.1 (subst (λ (k : ℕ). AgreesOn log k i) (eqb-true m n this.0) due)
      by_number log m i n index due later (inr before) = later before.1
  agrees_as_told (Says (event.Upgraded key) ∷ log) n index due is = kept log (Says (event.Upgraded key)) n index refl refl (agrees_as_told log n index due.1 is)
  agrees_as_told (Says (event.Refused m) ∷ log) n index due is = kept log (Says (event.Refused m)) n index refl refl (agrees_as_told log n index due.1 is)
  agrees_as_told (Says (event.Done m handler) ∷ log) n index due is = kept log (Says (event.Done m handler)) n index refl refl (agrees_as_told log n index due.1 is)
  agrees_as_told (Says (event.Broken m cause) ∷ log) n index due is = kept log (Says (event.Broken m cause)) n index refl refl (agrees_as_told log n index due.1 is)
  agrees_as_told (Says (event.Fault fault) ∷ log) n index due is = kept log (Says (event.Fault fault)) n index refl refl (agrees_as_told log n index due.1 is)
  agrees_as_told (Says event.Shut ∷ log) n index due is = kept log (Says event.Shut) n index refl refl (agrees_as_told log n index due.1 is)

  same_side : (log : List (Entry H)) (n : ℕ) (a b : Side) → IsSide role names log n a → IsSide role names log n b → a ≡ b
  same_side log n (AsksFor name index) (AsksFor other j) x y =
      let indexes : index ≡ j = (let e : Some index ≡ Some j = sym x.1 ∙ y.1 in cc e) in
      let named : Some name ≡ Some other = sym x.2 ∙ ap (slice_get names) indexes ∙ y.2 in
      let same_name : name ≡ other = cc named in
      ap (λ (t : List ℕ). AsksFor t index) same_name ∙ ap (AsksFor other) indexes
  same_side log n (AsksFor name index) (Answers known) x y = absurd (let both : true ≡ false = sym x.0 ∙ y.0 in cc both)
  same_side log n (Answers known) (AsksFor name index) x y = absurd (let both : true ≡ false = sym y.0 ∙ x.0 in cc both)
  same_side log n (Answers known) (Answers other) x y = ap Answers (x.1 ∙ sym y.1)

  -- what was told is the index by which any split of the data agrees
  pub told_agreement : (log : List (Entry H)) (n : ℕ) → AllDue step fails is_closed is_finished inbound_makes outbound_makes eager names peer role log → agreed role log n ≢ None → (side : Side) (index : ℕ) (first rest output : List ℕ)
      → IsSide role names log n side → inbound role (items log) n ≡ first ++ rest → Agrees side first index output → agreed role log n ≡ Some index
  told_agreement log n due told side index first rest output side_is data_is agrees =
      let some = some_of (agreed role log n) told in
      let it = agrees_as_told log n some.0 due some.1 in
      let its = subst (λ (s : Side). Agrees s it.first some.0 it.output) (same_side log n it.side side it.side_is side_is) it.comes_to in
      let one = one_outcome side (inbound role (items log) n) first it.first (Ok (answers.Agreed index)) (Ok (answers.Agreed some.0)) output it.output
      (record { rest = rest; input_is = data_is; talks = agrees; all = λ undecided. absurd (undecided tt) })
      (record { rest = it.rest; input_is = it.data_is; talks = its; all = λ undecided. absurd (undecided tt) }) in
      let same_index : index ≡ some.0 = (let e = one.1 in cc e) in
      some.1 ∙ ap Some (sym same_index)
