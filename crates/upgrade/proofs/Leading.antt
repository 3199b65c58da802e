-- What a piece leads to, part by part.
use Rattle.std.proofs.Common.{◌≡◌, ◌≢◌, ℕ, ◌≤◌, ◌+◌, Bool, true, List, [], ◌++◌, length, take, drop, Option, Some, None, Result, Ok, Err, refl, sym, ap, ◌∙◌, ◌⊎◌, subst, append_assoc, inl, inr}
use Rattle.std.specs.Prelude.{IfSome}
use Rattle.std.proofs.lemmas.List.{append-nil, take-append-drop, length-append, length-take-le}
use Rattle.peer_ids.specs.Key.{Key}
use Rattle.ms_select.specs.declared.answer.Answer.{Answer}
use Rattle.ms_select.specs.declared.answer.Answer.TheVariants.{Going, Agreed, NoneLeft}
use Rattle.ms_select.specs.declared.fault.SelectFault.{SelectFault}
use Rattle.plaintext_x.specs.declared.fault.ExchangeFault.{ExchangeFault}
use Rattle.plaintext_x.specs.declared.fault.ExchangeFault.TheVariants as exchange_faults
use Rattle.plaintext_x.specs.Exchange.{Exchanging, Exchanges, HasRead, is_proven, message_of, RunsOut as ExchangeRunsOut, Stands as ExchangeStands}
use Rattle.plaintext_x.proofs.Cut.{nothing_behind}
use Rattle.plaintext_x.proofs.Steps.{still_reading}
use Rattle.talks.specs.Talks.{Side, Talks, RunsOut as TalkRunsOut}
use Rattle.talks.specs.State.{Talking}
use Rattle.upgrade.specs.declared.role.ConnRole.{ConnRole}
use Rattle.upgrade.specs.declared.fault.UpgradeFault.{UpgradeFault}
use Rattle.upgrade.specs.declared.fault.UpgradeFault.TheVariants as faults
use Rattle.upgrade.specs.declared.stages.Stage.TheVariants.{Greeting, Proving, Muxing}
use Rattle.upgrade.specs.declared.stages.Next.{Next}
use Rattle.upgrade.specs.declared.stages.Next.TheVariants.{Waits, Up}
use Rattle.upgrade.specs.Upgrades.{InFirstTalk, InExchange, InSecondTalk, Upgrades, RunsOut, side_of, plaintext, yamux}
use Rattle.upgrade.specs.Stages.{IsWaiting, StandsIn, Leads, Hears, LosesOutput, of_exchange}
use Rattle.upgrade.proofs.Growing.{exchange_at, exchange_on, second_at, second_on, second_grown, undecided, put_behind}
use Rattle.upgrade.proofs.Opening.{nothing_exchanged, some_more}

-- ---- lists

further : (input front rest piece : List ℕ) → piece ≡ front ++ rest → input ++ piece ≡ (input ++ front) ++ rest
further input front rest piece e = ap (λ (t : List ℕ). input ++ t) e ∙ sym (append_assoc input front rest)

-- ---- what was written, by another name

pub leads_as : (role : ConnRole) (own : Key) (input piece : List ℕ) (result : Result Next UpgradeFault) (waiting a b : List ℕ) → a ≡ b → Leads role own input piece result waiting b → Leads role own input piece result waiting a
leads_as role own input piece result waiting a b e l = subst (λ (t : List ℕ). Leads role own input piece result waiting t) (sym e) l

-- ---- a part by the bytes behind the part before

-- a part ends by the same input by another name
abbrev Ends : ConnRole → Key → List ℕ → List ℕ → Type 0
Ends role own input kept = ((index : ℕ) × InFirstTalk role input (Ok (Agreed index)) kept) ⊎ ((key : Key) × InExchange role own input (Ok (Some key)) kept)

begun_at : (role : ConnRole) (own : Key) (input same kept : List ℕ) → same ≡ input → Ends role own input kept → Ends role own same kept
begun_at role own input same kept e ends = subst (λ (t : List ℕ). Ends role own t kept) (sym e) ends

-- want of memory behind a front of a piece is that of the piece
runs_out_behind : (role : ConnRole) (own : Key) (input front rest piece waiting written : List ℕ) → piece ≡ front ++ rest → RunsOut role own (input ++ front) rest waiting written → RunsOut role own input piece waiting written
unfolding exchange_at second_at
runs_out_behind role own input front rest piece waiting written e (inl r) = inl (record {
  front = front ++ r.front;
  rest = r.rest;
  outcome = r.outcome;
  lost = r.lost;
  waits = r.waits;
  piece_is = e ∙ further front r.front r.rest rest r.piece_is;
  upgrades = subst (λ (t : List ℕ). Upgrades role own t r.outcome (written ++ r.lost)) (append_assoc input front r.front) r.upgrades;
  some = r.some;
})
runs_out_behind role own input front rest piece waiting written e (inr (inl r)) = inr (inl (record {
  front = front ++ r.front;
  rest = r.rest;
  piece_is = e ∙ further front r.front r.rest rest r.piece_is;
  before = begun_at role own ((input ++ front) ++ r.front) (input ++ (front ++ r.front)) written (sym (append_assoc input front r.front)) r.before;
}))
runs_out_behind role own input front rest piece waiting written e (inr (inr (inl r))) = inr (inr (inl (record {
  front = front ++ r.front;
  rest = r.rest;
  piece_is = e ∙ further front r.front r.rest rest r.piece_is;
  runs_out = subst (λ (t : List ℕ). TalkRunsOut (side_of role plaintext) written t r.rest) (append_assoc input front r.front) r.runs_out;
})))
runs_out_behind role own input front rest piece waiting written e (inr (inr (inr (inl r)))) = inr (inr (inr (inl (record {
  front = front ++ r.front;
  rest = r.rest;
  piece_is = e ∙ further front r.front r.rest rest r.piece_is;
  before = exchange_at role own ((input ++ front) ++ r.front) (input ++ (front ++ r.front)) written (Ok None) (sym (append_assoc input front r.front)) r.before;
  runs_out = r.runs_out;
}))))
runs_out_behind role own input front rest piece waiting written e (inr (inr (inr (inr r)))) = inr (inr (inr (inr (record {
  front = front ++ r.front;
  rest = r.rest;
  piece_is = e ∙ further front r.front r.rest rest r.piece_is;
  key = r.key;
  written_before = r.written_before;
  before = second_at role own r.key ((input ++ front) ++ r.front) (input ++ (front ++ r.front)) r.written_before (Ok Going) (sym (append_assoc input front r.front)) r.before;
  talk = r.talk;
  runs_out = r.runs_out;
  written_is = r.written_is;
}))))

pub leads_behind : (role : ConnRole) (own : Key) (input front rest piece : List ℕ) (result : Result Next UpgradeFault) (waiting written : List ℕ) → piece ≡ front ++ rest
    → Leads role own (input ++ front) rest result waiting written → Leads role own input piece result waiting written
leads_behind role own input front rest piece (Ok (Waits stage)) waiting written e l = subst (λ (t : List ℕ). StandsIn stage role own t written) (sym (further input front rest piece e)) l
leads_behind role own input front rest piece (Ok (Up left key)) waiting written e l = (
  front ++ l.0,
  l.1,
  e ∙ ap (λ (t : List ℕ). front ++ t) l.2 ∙ sym (append_assoc front l.0 l.1),
  l.3,
  subst (λ (t : List ℕ). Upgrades role own t (Ok (Some key)) written) (append_assoc input front l.0) l.4,
)
leads_behind role own input front rest piece (Err faults.OutOfMemory) waiting written e l = runs_out_behind role own input front rest piece waiting written e l
leads_behind role own input front rest piece (Err faults.Failed) waiting written e l = absurd l
leads_behind role own input front rest piece (Err (faults.Select fault)) waiting written e l =
    subst (λ (t : List ℕ). Upgrades role own t (Err (faults.Select fault)) written) (sym (further input front rest piece e)) l
leads_behind role own input front rest piece (Err faults.NoneLeft) waiting written e l = subst (λ (t : List ℕ). Upgrades role own t (Err faults.NoneLeft) written) (sym (further input front rest piece e)) l
leads_behind role own input front rest piece (Err (faults.Exchange fault)) waiting written e l =
    subst (λ (t : List ℕ). Upgrades role own t (Err (faults.Exchange fault)) written) (sym (further input front rest piece e)) l

-- ---- the second talk

second_loses : (role : ConnRole) (own key : Key) (input piece waiting written more : List ℕ) (here : InSecondTalk role own key input (Ok Going) written) (l : LosesOutput (side_of role yamux) here.second piece waiting (here.talk ++ more))
    → RunsOut role own input piece waiting (written ++ more)
second_loses role own key input piece waiting written more here l =
    let talks = subst (λ (t : List ℕ). Talks (side_of role yamux) (here.second ++ l.front) l.standing t) (append_assoc here.talk more l.lost) l.talks in
    let there = second_on role own key input l.front written (more ++ l.lost) (Ok Going) l.standing here talks in
    inl (record {
      front = l.front;
      rest = l.rest;
      outcome = outcome_of l.standing;
      lost = l.lost;
      waits = l.waits;
      piece_is = l.piece_is;
      upgrades = subst (λ (t : List ℕ). Upgrades role own (input ++ l.front) (outcome_of l.standing) t) (sym (append_assoc written more l.lost)) (upgrades_of l.standing (written ++ (more ++ l.lost)) there);
      some = l.some;
    })
  where
    outcome_of : Result Answer SelectFault → Result (Option Key) UpgradeFault
    outcome_of (Ok Going) = Ok None
    outcome_of (Ok (Agreed i)) = Ok (Some key)
    outcome_of (Ok NoneLeft) = Err faults.NoneLeft
    outcome_of (Err fault) = Err (faults.Select fault)

    upgrades_of : (standing : Result Answer SelectFault) (all : List ℕ) → InSecondTalk role own key (input ++ l.front) standing all → Upgrades role own (input ++ l.front) (outcome_of standing) all
    upgrades_of (Ok Going) all s = inl (inr (key, s))
    upgrades_of (Ok (Agreed i)) all s = (i, s)
    upgrades_of (Ok NoneLeft) all s = (input ++ l.front, [], sym (append-nil (input ++ l.front)), inr (key, s))
    upgrades_of (Err fault) all s = inr (key, s)

pub second_fails : (role : ConnRole) (own key : Key) (talk : Talking) (input piece waiting written more : List ℕ) (fault : UpgradeFault) (here : InSecondTalk role own key input (Ok Going) written)
    → Hears (side_of role yamux) talk here.second piece (Err fault) waiting (here.talk ++ more)
    → Leads role own input piece (Err fault) waiting (written ++ more)
unfolding second_at
second_fails role own key talk input piece waiting written more (faults.Select fault) here h = inr (key, second_on role own key input piece written more (Ok Going) (Err fault) here h)
second_fails role own key talk input piece waiting written more faults.NoneLeft here h =
    (input ++ h.0, h.1, further input h.0 h.1 piece h.2, inr (key, second_on role own key input h.0 written more (Ok Going) (Ok NoneLeft) here h.3))
second_fails role own key talk input piece waiting written more faults.OutOfMemory here (inl r) = inr (inr (inr (inr (record {
  front = [];
  rest = piece;
  piece_is = refl;
  key = key;
  written_before = written;
  before = second_at role own key input (input ++ []) written (Ok Going) (append-nil input) here;
  talk = here.talk ++ more;
  runs_out = r;
  written_is = ap (λ (t : List ℕ). t ++ more) here.written_is ∙ append_assoc here.written_before here.talk more;
}))))
second_fails role own key talk input piece waiting written more faults.OutOfMemory here (inr l) = second_loses role own key input piece waiting written more here l
second_fails role own key talk input piece waiting written more (faults.Exchange fault) here h = absurd h
second_fails role own key talk input piece waiting written more faults.Failed here h = absurd h

pub second_waits : (role : ConnRole) (own key : Key) (talk : Talking) (input piece written more : List ℕ) (here : InSecondTalk role own key input (Ok Going) written)
    → IsWaiting (side_of role yamux) talk (here.second ++ piece) (here.talk ++ more) → StandsIn (Muxing talk key) role own (input ++ piece) (written ++ more)
unfolding second_on second_grown
second_waits role own key talk input piece written more here w =
    (second_on role own key input piece written more (Ok Going) (Ok Going) here (undecided (side_of role yamux) talk (here.second ++ piece) (here.talk ++ more) w), w)

pub second_agrees : (role : ConnRole) (own key : Key) (input piece waiting written more : List ℕ) (used left index : ℕ) (here : InSecondTalk role own key input (Ok Going) written) → used ≤ length piece → left ≡ length (drop used piece)
    → Talks (side_of role yamux) (here.second ++ take used piece) (Ok (Agreed index)) (here.talk ++ more) → Leads role own input piece (Ok (Up left key)) waiting (written ++ more)
second_agrees role own key input piece waiting written more used left index here within l t =
    (take used piece, drop used piece, sym (take-append-drop used piece), l, (index, second_on role own key input (take used piece) written more (Ok Going) (Ok (Agreed index)) here t))

-- ---- the exchange

-- the exchange begins where the first talk has agreed
unfoldable pub exchange_begins : (role : ConnRole) (own : Key) (input talk : List ℕ) (index : ℕ) → InFirstTalk role input (Ok (Agreed index)) talk → InExchange role own input (Ok None) (talk ++ message_of own)
exchange_begins role own input talk index t = record {
  first = input;
  exchange = [];
  index = index;
  talk = talk;
  input_is = sym (append-nil input);
  agrees = t;
  exchanges = nothing_exchanged;
  written_is = refl;
}

-- the exchange can't begin
pub begins_no_exchange : (role : ConnRole) (own : Key) (input front rest piece waiting talk : List ℕ) (index : ℕ) → piece ≡ front ++ rest → InFirstTalk role (input ++ front) (Ok (Agreed index)) talk
    → RunsOut role own input piece waiting talk
begins_no_exchange role own input front rest piece waiting talk index e t = inr (inl (record { front = front; rest = rest; piece_is = e; before = inl (index, t) }))

pub exchange_waits : (role : ConnRole) (own : Key) (x : Exchanging) (input piece written : List ℕ) (used : ℕ) (here : InExchange role own input (Ok None) written)
    → x.answer ≡ Some None → ExchangeStands own x (here.exchange ++ piece) used (message_of own) → StandsIn (Proving x) role own (input ++ piece) written
unfolding exchange_on
exchange_waits role own x input piece written used here e s =
    let read = subst (λ (a : Option (Option Key)). HasRead a x (here.exchange ++ piece) used) e s.read in
    let all : used ≡ length (here.exchange ++ piece) = read.2.1 in (
      exchange_on role own input piece written (Ok None) (Ok None) here (subst (λ (n : ℕ). Exchanges (here.exchange ++ piece) (Ok None) n) all (read.2)),
      e,
      subst (λ (n : ℕ). ExchangeStands own x (here.exchange ++ piece) n (message_of own)) all s,
    )

known : (role : ConnRole) (own : Key) (input piece written : List ℕ) (fault : ExchangeFault) (here : InExchange role own input (Ok None) written) → fault ≢ exchange_faults.OutOfMemory
    → (fault ≢ exchange_faults.OutOfMemory → Exchanges (here.exchange ++ piece) (Err fault) (length (here.exchange ++ piece))) → Upgrades role own (input ++ piece) (Err (faults.Exchange fault)) written
known role own input piece written fault here ne f = (ne, exchange_on role own input piece written (Ok None) (Err fault) here (f ne))

pub exchange_fails : (role : ConnRole) (own : Key) (input piece waiting written : List ℕ) (fault : ExchangeFault) (here : InExchange role own input (Ok None) written)
    → (fault ≢ exchange_faults.OutOfMemory → Exchanges (here.exchange ++ piece) (Err fault) (length (here.exchange ++ piece)))
    → (fault ≡ exchange_faults.OutOfMemory → ExchangeRunsOut here.exchange piece) → Leads role own input piece (Err (of_exchange fault)) waiting written
unfolding exchange_at
exchange_fails role own input piece waiting written exchange_faults.Failed here f m = known role own input piece written exchange_faults.Failed here (λ e. cc) f
exchange_fails role own input piece waiting written exchange_faults.TooLong here f m = known role own input piece written exchange_faults.TooLong here (λ e. cc) f
exchange_fails role own input piece waiting written exchange_faults.Wire here f m = known role own input piece written exchange_faults.Wire here (λ e. cc) f
exchange_fails role own input piece waiting written exchange_faults.NoId here f m = known role own input piece written exchange_faults.NoId here (λ e. cc) f
exchange_fails role own input piece waiting written exchange_faults.NoKey here f m = known role own input piece written exchange_faults.NoKey here (λ e. cc) f
exchange_fails role own input piece waiting written exchange_faults.BadKey here f m = known role own input piece written exchange_faults.BadKey here (λ e. cc) f
exchange_fails role own input piece waiting written exchange_faults.Differs here f m = known role own input piece written exchange_faults.Differs here (λ e. cc) f
exchange_fails role own input piece waiting written exchange_faults.OutOfMemory here f m = inr (inr (inr (inl (record {
  front = [];
  rest = piece;
  piece_is = refl;
  before = exchange_at role own input (input ++ []) written (Ok None) (append-nil input) here;
  runs_out = m refl;
}))))

-- the key is proven by exactly the bytes that the exchange used
pub proven_by : (role : ConnRole) (own key : Key) (input piece written : List ℕ) (used : ℕ) (here : InExchange role own input (Ok None) written) → used ≤ length piece
    → Exchanges (here.exchange ++ piece) (Ok (Some key)) (length here.exchange + used) → InExchange role own (input ++ take used piece) (Ok (Some key)) written
proven_by role own key input piece written used here within e =
    let front : List ℕ = here.exchange ++ take used piece in
    let parts : here.exchange ++ piece ≡ front ++ drop used piece = further here.exchange (take used piece) (drop used piece) piece (sym (take-append-drop used piece)) in
    let size : length front ≡ length here.exchange + used = length-append here.exchange (take used piece) ∙ ap (λ n. length here.exchange + n) (length-take-le used piece within) in
    let whole = subst (λ (t : List ℕ). Exchanges t (Ok (Some key)) (length here.exchange + used)) parts e in
    let counted = subst (λ (n : ℕ). Exchanges (front ++ drop used piece) (Ok (Some key)) n) (sym size) whole in
    exchange_on role own input (take used piece) written (Ok None) (Ok (Some key)) here (nothing_behind front (drop used piece) (Ok (Some key)) counted)

-- the second talk begins where the exchange has proven a key
unfoldable pub second_begins : (role : ConnRole) (own key : Key) (input written talk : List ℕ) → InExchange role own input (Ok (Some key)) written → Talks (side_of role yamux) [] (Ok Going) talk
    → InSecondTalk role own key input (Ok Going) (written ++ talk)
second_begins role own key input written talk e t = record {
  before = input;
  second = [];
  written_before = written;
  talk = talk;
  input_is = sym (append-nil input);
  proven = e;
  talks = t;
  written_is = refl;
}

pub muxing_begins : (role : ConnRole) (own key : Key) (talk : Talking) (input written more : List ℕ) → InExchange role own input (Ok (Some key)) written → IsWaiting (side_of role yamux) talk [] more
    → StandsIn (Muxing talk key) role own input (written ++ more)
unfolding second_begins
muxing_begins role own key talk input written more e w = (second_begins role own key input written more e (undecided (side_of role yamux) talk [] more w), w)

-- the second talk can't begin
pub begins_no_talk : (role : ConnRole) (own key : Key) (input front rest piece waiting written : List ℕ) → piece ≡ front ++ rest → InExchange role own (input ++ front) (Ok (Some key)) written
    → RunsOut role own input piece waiting written
begins_no_talk role own key input front rest piece waiting written is e = inr (inl (record { front = front; rest = rest; piece_is = is; before = inr (key, e) }))

-- ---- the first talk

pub first_fails : (role : ConnRole) (own : Key) (talk : Talking) (input piece waiting written more : List ℕ) (fault : UpgradeFault) → Hears (side_of role plaintext) talk input piece (Err fault) waiting (written ++ more)
    → Leads role own input piece (Err fault) waiting (written ++ more)
first_fails role own talk input piece waiting written more (faults.Select fault) h = inl h
first_fails role own talk input piece waiting written more faults.NoneLeft h = (input ++ h.0, h.1, further input h.0 h.1 piece h.2, inl h.3)
first_fails role own talk input piece waiting written more faults.OutOfMemory (inl r) = inr (inr (inl (record {
  front = [];
  rest = piece;
  piece_is = refl;
  runs_out = subst (λ (t : List ℕ). TalkRunsOut (side_of role plaintext) (written ++ more) t piece) (sym (append-nil input)) r;
})))
first_fails role own talk input piece waiting written more faults.OutOfMemory (inr l) = first_loses l.standing l.talks
  where
    kept : List ℕ
    kept = written ++ more

    no_room : (outcome : Result (Option Key) UpgradeFault) → Upgrades role own (input ++ l.front) outcome (kept ++ l.lost) → RunsOut role own input piece waiting kept
    no_room outcome u = inl (record { front = l.front; rest = l.rest; outcome = outcome; lost = l.lost; waits = l.waits; piece_is = l.piece_is; upgrades = u; some = l.some })

    agreed : (i : ℕ) → InFirstTalk role (input ++ l.front) (Ok (Agreed i)) (kept ++ l.lost) → RunsOut role own input piece waiting kept
    agreed i t =
        let there = exchange_begins role own (input ++ l.front) (kept ++ l.lost) i t in
        inl (record {
          front = l.front;
          rest = l.rest;
          outcome = Ok None;
          lost = l.lost ++ message_of own;
          waits = l.waits;
          piece_is = l.piece_is;
          upgrades = subst (λ (t : List ℕ). Upgrades role own (input ++ l.front) (Ok None) t) (append_assoc kept l.lost (message_of own)) (inr there);
          some = some_more l.lost (message_of own) l.some;
        })

    first_loses : (standing : Result Answer SelectFault) → InFirstTalk role (input ++ l.front) standing (kept ++ l.lost) → RunsOut role own input piece waiting kept
    first_loses (Ok Going) t = no_room (Ok None) (inl (inl t))
    first_loses (Ok (Agreed i)) t = agreed i t
    first_loses (Ok NoneLeft) t = no_room (Err faults.NoneLeft) (input ++ l.front, [], sym (append-nil (input ++ l.front)), inl t)
    first_loses (Err fault) t = no_room (Err (faults.Select fault)) (inl t)
first_fails role own talk input piece waiting written more (faults.Exchange fault) h = absurd h
first_fails role own talk input piece waiting written more faults.Failed h = absurd h

-- ---- what the functions of the parts need

-- what a talk made of a piece, where its output is kept behind the other
abbrev pub Kept : Side → Talking → List ℕ → List ℕ → List ℕ → List ℕ → List ℕ → Result (Option ℕ) UpgradeFault → Type 0
Kept side talk input piece before old new result = (more : List ℕ) × (new ≡ old ++ more) × Hears side talk input piece result new (before ++ more)

of_option : (side : Side) (talk : Talking) (input piece before old new : List ℕ) (a b : Option ℕ) → a ≡ b → Kept side talk input piece before old new (Ok a) → Kept side talk input piece before old new (Ok b)
of_option side talk input piece before old new a b e k = subst (λ (o : Option ℕ). Kept side talk input piece before old new (Ok o)) e k

pub mux_fails : (role : ConnRole) (own key : Key) (talk : Talking) (input piece taken old new : List ℕ) (fault : UpgradeFault) (here : InSecondTalk role own key input (Ok Going) (taken ++ old))
    → Kept (side_of role yamux) talk here.second piece here.talk old new (Err fault) → Leads role own input piece (Err fault) new (taken ++ new)
mux_fails role own key talk input piece taken old new fault here k =
    leads_as role own input piece (Err fault) new (taken ++ new) ((taken ++ old) ++ k.0) (put_behind taken old new k.0 k.1) (second_fails role own key talk input piece new (taken ++ old) k.0 fault here k.2)

pub mux_waits : (role : ConnRole) (own key : Key) (talk : Talking) (input piece taken old new : List ℕ) (heard : Option ℕ) (here : InSecondTalk role own key input (Ok Going) (taken ++ old)) → heard ≡ None
    → Kept (side_of role yamux) talk here.second piece here.talk old new (Ok heard) → Leads role own input piece (Ok (Waits (Muxing talk key))) new (taken ++ new)
mux_waits role own key talk input piece taken old new heard here e k =
    let n = of_option (side_of role yamux) talk here.second piece here.talk old new heard None e k in
    leads_as role own input piece (Ok (Waits (Muxing talk key))) new (taken ++ new) ((taken ++ old) ++ n.0) (put_behind taken old new n.0 n.1) (second_waits role own key talk input piece (taken ++ old) n.0 here n.2)

pub mux_agrees : (role : ConnRole) (own key : Key) (talk : Talking) (input piece taken old new rest : List ℕ) (heard : Option ℕ) (used : ℕ) (here : InSecondTalk role own key input (Ok Going) (taken ++ old)) → heard ≡ Some used
    → rest ≡ drop used piece → Kept (side_of role yamux) talk here.second piece here.talk old new (Ok heard) → Leads role own input piece (Ok (Up (length rest) key)) new (taken ++ new)
mux_agrees role own key talk input piece taken old new rest heard used here e r k =
    let n = of_option (side_of role yamux) talk here.second piece here.talk old new heard (Some used) e k in
    leads_as role own input piece (Ok (Up (length rest) key)) new (taken ++ new) ((taken ++ old) ++ n.0) (put_behind taken old new n.0 n.1)
    (second_agrees role own key input piece new (taken ++ old) n.0 used (length rest) n.2.1.0 here n.2.0 (ap length r) n.2.1.1)

pub greet_fails : (role : ConnRole) (own : Key) (talk : Talking) (input piece taken old new : List ℕ) (fault : UpgradeFault) → Kept (side_of role plaintext) talk input piece (taken ++ old) old new (Err fault)
    → Leads role own input piece (Err fault) new (taken ++ new)
greet_fails role own talk input piece taken old new fault k =
    leads_as role own input piece (Err fault) new (taken ++ new) ((taken ++ old) ++ k.0) (put_behind taken old new k.0 k.1) (first_fails role own talk input piece new (taken ++ old) k.0 fault k.2)

pub greet_waits : (role : ConnRole) (own : Key) (talk : Talking) (input piece taken old new : List ℕ) (heard : Option ℕ) → heard ≡ None → Kept (side_of role plaintext) talk input piece (taken ++ old) old new (Ok heard)
    → Leads role own input piece (Ok (Waits (Greeting talk))) new (taken ++ new)
greet_waits role own talk input piece taken old new heard e k =
    let n = of_option (side_of role plaintext) talk input piece (taken ++ old) old new heard None e k in
    leads_as role own input piece (Ok (Waits (Greeting talk))) new (taken ++ new) ((taken ++ old) ++ n.0) (put_behind taken old new n.0 n.1) n.2

-- the first talk has agreed: it has written all of this
agreed_first : (role : ConnRole) (talk : Talking) (input piece taken old new : List ℕ) (used : ℕ) → Kept (side_of role plaintext) talk input piece (taken ++ old) old new (Ok (Some used))
    → (index : ℕ) × InFirstTalk role (input ++ take used piece) (Ok (Agreed index)) (taken ++ new)
agreed_first role talk input piece taken old new used n =
    (n.2.1.0, subst (λ (t : List ℕ). InFirstTalk role (input ++ take used piece) (Ok (Agreed n.2.1.0)) t) (sym (put_behind taken old new n.0 n.1)) n.2.1.1)

pub message_refused : (role : ConnRole) (own : Key) (talk : Talking) (input piece taken old new kept : List ℕ) (heard : Option ℕ) (used : ℕ) → heard ≡ Some used → kept ≡ new
    → Kept (side_of role plaintext) talk input piece (taken ++ old) old new (Ok heard) → Leads role own input piece (Err faults.OutOfMemory) kept (taken ++ kept)
message_refused role own talk input piece taken old new kept heard used e same k =
    let a = agreed_first role talk input piece taken old new used (of_option (side_of role plaintext) talk input piece (taken ++ old) old new heard (Some used) e k) in
    subst (λ (t : List ℕ). RunsOut role own input piece t (taken ++ t)) (sym same)
    (begins_no_exchange role own input (take used piece) (drop used piece) piece new (taken ++ new) a.0 (sym (take-append-drop used piece)) a.1)

pub proving_begins : (role : ConnRole) (own : Key) (talk : Talking) (x : Exchanging) (input piece taken old new more : List ℕ) (heard : Option ℕ) (used : ℕ) → heard ≡ Some used → more ≡ new ++ message_of own
    → x.answer ≡ Some None → ExchangeStands own x [] 0 (message_of own) → Kept (side_of role plaintext) talk input piece (taken ++ old) old new (Ok heard)
    → StandsIn (Proving x) role own (input ++ take used piece) (taken ++ more)
unfolding exchange_begins
proving_begins role own talk x input piece taken old new more heard used e w none s k =
    let a = agreed_first role talk input piece taken old new used (of_option (side_of role plaintext) talk input piece (taken ++ old) old new heard (Some used) e k) in
    subst (λ (t : List ℕ). StandsIn (Proving x) role own (input ++ take used piece) t) (sym (put_behind taken new more (message_of own) w))
    (exchange_begins role own (input ++ take used piece) (taken ++ new) a.0 a.1, none, s)

-- the part behind has taken the rest
pub rest_leads : (role : ConnRole) (own : Key) (input piece rest : List ℕ) (used : ℕ) (result : Result Next UpgradeFault) (waiting written : List ℕ) → rest ≡ drop used piece
    → Leads role own (input ++ take used piece) rest result waiting written → Leads role own input piece result waiting written
rest_leads role own input piece rest used result waiting written e l =
    leads_behind role own input (take used piece) rest piece result waiting written (sym (take-append-drop used piece) ∙ ap (λ (t : List ℕ). take used piece ++ t) (sym e)) l

-- an exchange that hands itself back waits
pub unproven : (state : Option (Option Key)) → state ≢ None → (is_proven state ≡ true → ⊥) → state ≡ Some None
unproven state some not_proven = still_reading state some (λ key e. not_proven (ap is_proven e))

pub talk_refused : (role : ConnRole) (own key : Key) (input piece waiting written : List ℕ) (used : ℕ) → InExchange role own (input ++ take used piece) (Ok (Some key)) written → Leads role own input piece (Err faults.OutOfMemory) waiting written
talk_refused role own key input piece waiting written used e =
    begins_no_talk role own key input (take used piece) (drop used piece) piece waiting written (sym (take-append-drop used piece)) e

pub proven_of : (role : ConnRole) (own key : Key) (input piece written : List ℕ) (used : ℕ) (state : Option (Option Key)) (here : InExchange role own input (Ok None) written) → state ≡ Some (Some key) → used ≤ length piece
    → IfSome state (λ answer. Exchanges (here.exchange ++ piece) (Ok answer) (length here.exchange + used)) → InExchange role own (input ++ take used piece) (Ok (Some key)) written
proven_of role own key input piece written used state here e within x =
    proven_by role own key input piece written used here within (subst (λ (s : Option (Option Key)). IfSome s (λ answer. Exchanges (here.exchange ++ piece) (Ok answer) (length here.exchange + used))) e x)

abbrev failed : ExchangeFault → Result (ℕ × Bool) ExchangeFault
failed fault = Err fault

pub exchange_refuses : (role : ConnRole) (own : Key) (input piece waiting written : List ℕ) (fault : ExchangeFault) (here : InExchange role own input (Ok None) written)
    → (fault ≢ exchange_faults.OutOfMemory → Exchanges (here.exchange ++ piece) (Err fault) (length (here.exchange ++ piece)))
    → (failed fault ≡ Err exchange_faults.OutOfMemory → ExchangeRunsOut here.exchange piece) → Leads role own input piece (Err (of_exchange fault)) waiting written
exchange_refuses role own input piece waiting written fault here f m = exchange_fails role own input piece waiting written fault here f (λ e. m (ap failed e))

-- the second talk has begun
pub talk_begins : (role : ConnRole) (own key : Key) (talk : Talking) (input taken old new : List ℕ) → InExchange role own input (Ok (Some key)) (taken ++ old)
    → ((more : List ℕ) × (new ≡ old ++ more) × IsWaiting (side_of role yamux) talk [] more) → StandsIn (Muxing talk key) role own input (taken ++ new)
talk_begins role own key talk input taken old new e n =
    subst (λ (t : List ℕ). StandsIn (Muxing talk key) role own input t) (sym (put_behind taken old new n.0 n.1)) (muxing_begins role own key talk input (taken ++ old) n.0 e n.2)
