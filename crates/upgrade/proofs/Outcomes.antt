-- What a whole input comes to, part by part: an upgrade has one outcome, and some.
use Rattle.std.proofs.Common.{◌≡◌, ◌≢◌, ℕ, List, [], ◌++◌, length, take, drop, Option, Some, None, Result, Ok, Err, refl, sym, ap, ◌∙◌, subst, append_assoc, inl, inr}
use Rattle.std.proofs.lemmas.List.{append-nil}
use Rattle.std.proofs.Math.Seq.{take-append_seam, drop-append_seam}
use Rattle.varint_proto.proofs.Lists.{same_parts}
use Rattle.peer_ids.specs.Key.{Key}
use Rattle.ms_select.specs.declared.answer.Answer.{Answer}
use Rattle.ms_select.specs.declared.answer.Answer.TheVariants.{Going, Agreed, NoneLeft}
use Rattle.ms_select.specs.declared.fault.SelectFault.{SelectFault}
use Rattle.plaintext_x.specs.declared.fault.ExchangeFault.{ExchangeFault}
use Rattle.plaintext_x.specs.declared.fault.ExchangeFault.TheVariants as exchange_faults
use Rattle.plaintext_x.specs.Exchange.{Exchanges, message_of}
use Rattle.plaintext_x.proofs.OneOutcome.{one_outcome_of}
use Rattle.plaintext_x.proofs.Steps.{proof_stays}
use Rattle.talks.specs.Talks.{Side, Talks, ComesTo as TalkComesTo}
use Rattle.talks.proofs.Outcomes.{by_all, one_outcome as one_talk}
use Rattle.upgrade.specs.declared.role.ConnRole.{ConnRole}
use Rattle.upgrade.specs.declared.fault.UpgradeFault.{UpgradeFault}
use Rattle.upgrade.specs.declared.fault.UpgradeFault.TheVariants as faults
use Rattle.upgrade.specs.Upgrades.{InFirstTalk, InExchange, InSecondTalk, Upgrades, IsUp, ComesTo, side_of, plaintext, yamux}
use Rattle.upgrade.specs.Laws.{OneOutcome}

abbrev Outcome : Type 0
Outcome = Result (Option Key) UpgradeFault

abbrev Standing : Type 0
Standing = Result Answer SelectFault

-- ---- the parts of a whole input: first the first talk, by the rest the exchange, by the rest of that the second talk

-- what the upgrade comes to where its second talk stands so
abbrev pub second_outcome : Key → Standing → Outcome
second_outcome key (Ok Going) = Ok None
second_outcome key (Ok (Agreed i)) = Ok (Some key)
second_outcome key (Ok NoneLeft) = Err faults.NoneLeft
second_outcome key (Err fault) = Err (faults.Select fault)

-- and which bytes are the upgrade's: all of them, or those of the talk
abbrev pub second_front : Standing → List ℕ → List ℕ → List ℕ
second_front (Ok Going) input talk = input
second_front (Ok (Agreed i)) input talk = talk
second_front (Ok NoneLeft) input talk = input
second_front (Err fault) input talk = input

pub record BySecond (role : ConnRole) (key : Key) (input front : List ℕ) (outcome : Outcome) (written : List ℕ) : Type 0 where
  pub talk : List ℕ
  pub standing : Standing
  pub comes : TalkComesTo (side_of role yamux) input talk standing written
  pub front_is : front ≡ second_front standing input talk
  pub outcome_is : outcome ≡ second_outcome key standing

-- what follows an exchange that comes to this
abbrev pub BehindExchange : ConnRole → List ℕ → Result (Option Key) ExchangeFault → ℕ → List ℕ → Outcome → List ℕ → Type 0
BehindExchange role input (Ok None) used front outcome written = (front ≡ input) × (outcome ≡ Ok None) × (written ≡ [])
BehindExchange role input (Ok (Some key)) used front outcome written =
    (rest : List ℕ) × (front ≡ take used input ++ rest) × BySecond role key (drop used input) rest outcome written
BehindExchange role input (Err fault) used front outcome written = (front ≡ input) × (outcome ≡ Err (faults.Exchange fault)) × (written ≡ [])

pub record ByExchange (role : ConnRole) (input front : List ℕ) (outcome : Outcome) (written : List ℕ) : Type 0 where
  pub exchanged : Result (Option Key) ExchangeFault
  pub used : ℕ
  pub known : exchanged ≢ Err exchange_faults.OutOfMemory
  pub exchanges : Exchanges input exchanged used
  pub behind : BehindExchange role input exchanged used front outcome written

-- what follows a first talk that stands so
abbrev pub BehindFirst : ConnRole → Key → List ℕ → List ℕ → Standing → List ℕ → Outcome → List ℕ → List ℕ → Type 0
BehindFirst role own input talk (Ok Going) front outcome said written = (front ≡ input) × (outcome ≡ Ok None) × (written ≡ said)
BehindFirst role own input talk (Ok (Agreed i)) front outcome said written = (rest : List ℕ) × (end : List ℕ) × (more : List ℕ) × (input ≡ talk ++ rest) × (front ≡ talk ++ end)
    × (written ≡ (said ++ message_of own) ++ more) × ByExchange role rest end outcome more
BehindFirst role own input talk (Ok NoneLeft) front outcome said written = (front ≡ input) × (outcome ≡ Err faults.NoneLeft) × (written ≡ said)
BehindFirst role own input talk (Err fault) front outcome said written = (front ≡ input) × (outcome ≡ Err (faults.Select fault)) × (written ≡ said)

pub record ByFirst (role : ConnRole) (own : Key) (input front : List ℕ) (outcome : Outcome) (written : List ℕ) : Type 0 where
  pub talk : List ℕ
  pub standing : Standing
  pub said : List ℕ
  pub comes : TalkComesTo (side_of role plaintext) input talk standing said
  pub behind : BehindFirst role own input talk standing front outcome said written

-- ---- they have one outcome

one_second : (role : ConnRole) (key : Key) (input f g : List ℕ) (a b : Outcome) (w v : List ℕ) → BySecond role key input f a w → BySecond role key input g b v → (f ≡ g) × (a ≡ b) × (w ≡ v)
one_second role key input f g a b w v c d =
    let e = one_talk (side_of role yamux) input c.talk d.talk c.standing d.standing w v c.comes d.comes in (
      c.front_is ∙ ap (λ (s : Standing). second_front s input c.talk) e.1 ∙ ap (λ (t : List ℕ). second_front d.standing input t) e.0 ∙ sym d.front_is,
      c.outcome_is ∙ ap (λ (s : Standing). second_outcome key s) e.1 ∙ sym d.outcome_is,
      e.2,
    )

behind_exchange : (role : ConnRole) (input : List ℕ) (exchanged : Result (Option Key) ExchangeFault) (used : ℕ) (f g : List ℕ) (a b : Outcome) (w v : List ℕ)
    → BehindExchange role input exchanged used f a w → BehindExchange role input exchanged used g b v → (f ≡ g) × (a ≡ b) × (w ≡ v)
behind_exchange role input (Ok None) used f g a b w v c d = (c.0 ∙ sym d.0, c.1 ∙ sym d.1, c.2 ∙ sym d.2)
behind_exchange role input (Ok (Some key)) used f g a b w v c d =
    let e = one_second role key (drop used input) c.0 d.0 a b w v c.2 d.2 in (c.1 ∙ ap (λ (t : List ℕ). take used input ++ t) e.0 ∙ sym d.1, e.1, e.2)
behind_exchange role input (Err fault) used f g a b w v c d = (c.0 ∙ sym d.0, c.1 ∙ sym d.1, c.2 ∙ sym d.2)

one_exchange : (role : ConnRole) (input f g : List ℕ) (a b : Outcome) (w v : List ℕ) → ByExchange role input f a w → ByExchange role input g b v → (f ≡ g) × (a ≡ b) × (w ≡ v)
one_exchange role input f g a b w v c d =
    let e = one_outcome_of input c.exchanged d.exchanged c.used d.used c.known d.known c.exchanges d.exchanges in
    let x = subst (λ (o : Result (Option Key) ExchangeFault). BehindExchange role input o d.used g b v) (sym e.0) d.behind in
    let y = subst (λ (n : ℕ). BehindExchange role input c.exchanged n g b v) (sym e.1) x in
    behind_exchange role input c.exchanged c.used f g a b w v c.behind y

behind_first : (role : ConnRole) (own : Key) (input talk : List ℕ) (standing : Standing) (said f g : List ℕ) (a b : Outcome) (w v : List ℕ)
    → BehindFirst role own input talk standing f a said w → BehindFirst role own input talk standing g b said v → (f ≡ g) × (a ≡ b) × (w ≡ v)
behind_first role own input talk (Ok Going) said f g a b w v c d = (c.0 ∙ sym d.0, c.1 ∙ sym d.1, c.2 ∙ sym d.2)
behind_first role own input talk (Ok (Agreed i)) said f g a b w v c d =
    let rest : c.0 ≡ d.0 = (same_parts talk talk c.0 d.0 refl (sym c.3 ∙ d.3)).1 in
    let there = subst (λ (t : List ℕ). ByExchange role t d.1 b d.2) (sym rest) d.6 in
    let e = one_exchange role c.0 c.1 d.1 a b c.2 d.2 c.6 there in
    (c.4 ∙ ap (λ (t : List ℕ). talk ++ t) e.0 ∙ sym d.4, e.1, c.5 ∙ ap (λ (t : List ℕ). (said ++ message_of own) ++ t) e.2 ∙ sym d.5)
behind_first role own input talk (Ok NoneLeft) said f g a b w v c d = (c.0 ∙ sym d.0, c.1 ∙ sym d.1, c.2 ∙ sym d.2)
behind_first role own input talk (Err fault) said f g a b w v c d = (c.0 ∙ sym d.0, c.1 ∙ sym d.1, c.2 ∙ sym d.2)

one_first : (role : ConnRole) (own : Key) (input f g : List ℕ) (a b : Outcome) (w v : List ℕ) → ByFirst role own input f a w → ByFirst role own input g b v → (f ≡ g) × (a ≡ b) × (w ≡ v)
one_first role own input f g a b w v c d =
    let e = one_talk (side_of role plaintext) input c.talk d.talk c.standing d.standing c.said d.said c.comes d.comes in
    let x = subst (λ (t : List ℕ). BehindFirst role own input t d.standing g b d.said v) (sym e.0) d.behind in
    let y = subst (λ (s : Standing). BehindFirst role own input c.talk s g b d.said v) (sym e.1) x in
    let z = subst (λ (t : List ℕ). BehindFirst role own input c.talk c.standing g b t v) (sym e.2) y in
    behind_first role own input c.talk c.standing c.said f g a b w v c.behind z

-- ---- an upgrade is these parts

decided_talk : (side : Side) (first rest : List ℕ) (i : ℕ) (output : List ℕ) → Talks side first (Ok (Agreed i)) output → TalkComesTo side (first ++ rest) first (Ok (Agreed i)) output
decided_talk side first rest i output t = record { rest = rest; input_is = refl; talks = t; all = λ no. absurd (no tt) }

-- what an exchange comes to by more
by_exchange : (role : ConnRole) (own : Key) (input front whole first : List ℕ) (outcome : Outcome) (exchanged : Result (Option Key) ExchangeFault) (before more end written : List ℕ)
    → (here : InExchange role own front exchanged before) (behind : List ℕ) → whole ≡ front ++ behind → first ≡ here.first ++ end → written ≡ before ++ more → ByExchange role (here.exchange ++ behind) end outcome more
    → ByFirst role own whole first outcome written
by_exchange role own input front whole first outcome exchanged before more end written here behind is first_is all e =
    let parts : whole ≡ here.first ++ (here.exchange ++ behind) = is ∙ ap (λ (t : List ℕ). t ++ behind) here.input_is ∙ append_assoc here.first here.exchange behind in
    record {
      talk = here.first;
      standing = Ok (Agreed here.index);
      said = here.talk;
      comes = subst (λ (t : List ℕ). TalkComesTo (side_of role plaintext) t here.first (Ok (Agreed here.index)) here.talk) (sym parts)
          (decided_talk (side_of role plaintext) here.first (here.exchange ++ behind) here.index here.talk here.agrees);
      behind = (here.exchange ++ behind, end, more, parts, first_is, all ∙ ap (λ (t : List ℕ). t ++ more) here.written_is, e);
    }

-- an exchange that proves a key by its front
proven_front : (role : ConnRole) (key : Key) (exchange rest end : List ℕ) (outcome : Outcome) (written : List ℕ) → Exchanges exchange (Ok (Some key)) (length exchange) → BySecond role key rest end outcome written
    → ByExchange role (exchange ++ rest) (exchange ++ end) outcome written
proven_front role key exchange rest end outcome written e s = record {
  exchanged = Ok (Some key);
  used = length exchange;
  known = λ e. cc;
  exchanges = proof_stays exchange rest key (length exchange) e;
  behind = (
    end,
    ap (λ (t : List ℕ). t ++ end) (sym (take-append_seam exchange rest)),
    subst (λ (t : List ℕ). BySecond role key t end outcome written) (sym (drop-append_seam exchange rest)) s,
  );
}

by_second : (role : ConnRole) (own key : Key) (front whole first : List ℕ) (outcome : Outcome) (standing : Standing) (written : List ℕ) (here : InSecondTalk role own key front standing written) (behind end : List ℕ)
    → whole ≡ front ++ behind → first ≡ here.before ++ end → BySecond role key (here.second ++ behind) end outcome here.talk → ByFirst role own whole first outcome written
by_second role own key front whole first outcome standing written here behind end is first_is s =
    let p = here.proven in
    by_exchange role own whole here.before whole first outcome (Ok (Some key)) here.written_before here.talk (p.exchange ++ end) written p (here.second ++ behind)
    (is ∙ ap (λ (t : List ℕ). t ++ behind) here.input_is ∙ append_assoc here.before here.second behind)
    (first_is ∙ ap (λ (t : List ℕ). t ++ end) p.input_is ∙ append_assoc p.first p.exchange end)
    here.written_is
    (proven_front role key p.exchange (here.second ++ behind) end outcome here.talk p.exchanges s)

-- all of the input is the upgrade's
all_first : (input first rest : List ℕ) → input ≡ first ++ rest → rest ≡ [] → input ≡ first
all_first input first rest e none = e ∙ ap (λ (t : List ℕ). first ++ t) none ∙ append-nil first

no_more : (t : List ℕ) → t ≡ t ++ []
no_more t = sym (append-nil t)

-- a first talk that doesn't agree
first_stands : (role : ConnRole) (own : Key) (input : List ℕ) (outcome : Outcome) (standing : Standing) (written : List ℕ) → InFirstTalk role input standing written
    → BehindFirst role own input input standing input outcome written written → ByFirst role own input input outcome written
first_stands role own input outcome standing written t b = record { talk = input; standing = standing; said = written; comes = by_all (side_of role plaintext) input standing written t; behind = b }

second_stands : (role : ConnRole) (own key : Key) (input : List ℕ) (standing : Standing) (written : List ℕ) (here : InSecondTalk role own key input standing written) → here.second ≡ second_front standing here.second here.second
    → ByFirst role own input input (second_outcome key standing) written
second_stands role own key input standing written here whole =
    by_second role own key input input input (second_outcome key standing) standing written here [] here.second (no_more input) here.input_is
    (subst (λ (t : List ℕ). BySecond role key t here.second (second_outcome key standing) here.talk) (no_more here.second)
    (record { talk = here.second; standing = standing; comes = by_all (side_of role yamux) here.second standing here.talk here.talks; front_is = whole; outcome_is = refl }))

exchange_stands : (role : ConnRole) (own : Key) (input : List ℕ) (outcome : Outcome) (exchanged : Result (Option Key) ExchangeFault) (written : List ℕ) (here : InExchange role own input exchanged written)
    → exchanged ≢ Err exchange_faults.OutOfMemory → BehindExchange role here.exchange exchanged (length here.exchange) here.exchange outcome [] → ByFirst role own input input outcome written
exchange_stands role own input outcome exchanged written here known b =
    by_exchange role own input input input input outcome exchanged written [] here.exchange written here [] (no_more input) here.input_is (no_more written)
    (subst (λ (t : List ℕ). ByExchange role t here.exchange outcome []) (no_more here.exchange) (record { exchanged = exchanged; used = length here.exchange; known = known; exchanges = here.exchanges; behind = b }))

-- the other end doesn't know the protocol, as a front says
first_turned_down : (role : ConnRole) (own : Key) (input front rest written : List ℕ) → input ≡ front ++ rest → InFirstTalk role front (Ok NoneLeft) written → ByFirst role own input input (Err faults.NoneLeft) written
first_turned_down role own input front rest written e t = record {
  talk = front;
  standing = Ok NoneLeft;
  said = written;
  comes = record { rest = rest; input_is = e; talks = t; all = λ no. absurd (no tt) };
  behind = (refl, refl, refl);
}

second_turned_down : (role : ConnRole) (own key : Key) (input front rest written : List ℕ) → input ≡ front ++ rest → InSecondTalk role own key front (Ok NoneLeft) written
    → ByFirst role own input input (Err faults.NoneLeft) written
second_turned_down role own key input front rest written e here =
    by_second role own key front input input (Err faults.NoneLeft) (Ok NoneLeft) written here rest (here.second ++ rest) e
    (e ∙ ap (λ (t : List ℕ). t ++ rest) here.input_is ∙ append_assoc here.before here.second rest)
    (record {
      talk = here.second;
      standing = Ok NoneLeft;
      comes = record { rest = rest; input_is = refl; talks = here.talks; all = λ no. absurd (no tt) };
      front_is = refl;
      outcome_is = refl;
    })

-- what stands by all of the input
by_whole : (role : ConnRole) (own : Key) (input : List ℕ) (outcome : Outcome) (written : List ℕ) → ¬ IsUp outcome → Upgrades role own input outcome written → ByFirst role own input input outcome written
by_whole role own input (Ok None) written none (inl (inl t)) = first_stands role own input (Ok None) (Ok Going) written t (refl, refl, refl)
by_whole role own input (Ok None) written none (inl (inr s)) = second_stands role own s.0 input (Ok Going) written s.1 refl
by_whole role own input (Ok None) written none (inr e) = exchange_stands role own input (Ok None) (Ok None) written e (λ e. cc) (refl, refl, refl)
by_whole role own input (Ok (Some key)) written none u = absurd (none tt)
by_whole role own input (Err (faults.Select fault)) written none (inl t) = first_stands role own input (Err (faults.Select fault)) (Err fault) written t (refl, refl, refl)
by_whole role own input (Err (faults.Select fault)) written none (inr s) = second_stands role own s.0 input (Err fault) written s.1 refl
by_whole role own input (Err faults.NoneLeft) written none (front, rest, e, inl t) = first_turned_down role own input front rest written e t
by_whole role own input (Err faults.NoneLeft) written none (front, rest, e, inr s) = second_turned_down role own s.0 input front rest written e s.1
by_whole role own input (Err (faults.Exchange fault)) written none u = exchange_stands role own input (Err (faults.Exchange fault)) (Err fault) written u.1 (λ e. u.0 cc) (refl, refl, refl)
by_whole role own input (Err faults.Failed) written none u = absurd u
by_whole role own input (Err faults.OutOfMemory) written none u = absurd u

-- a connection that is up by a front
by_front : (role : ConnRole) (own key : Key) (input first rest written : List ℕ) → input ≡ first ++ rest → Upgrades role own first (Ok (Some key)) written → ByFirst role own input first (Ok (Some key)) written
by_front role own key input first rest written e (i, here) =
    by_second role own key first input first (Ok (Some key)) (Ok (Agreed i)) written here rest here.second e here.input_is
    (record {
      talk = here.second;
      standing = Ok (Agreed i);
      comes = decided_talk (side_of role yamux) here.second rest i here.talk here.talks;
      front_is = refl;
      outcome_is = refl;
    })

pub parted : (role : ConnRole) (own : Key) (input first : List ℕ) (outcome : Outcome) (written : List ℕ) → ComesTo role own input first outcome written → ByFirst role own input first outcome written
parted role own input first outcome written c = each outcome c
  where
    whole : (outcome : Outcome) → ComesTo role own input first outcome written → ¬ IsUp outcome → ByFirst role own input first outcome written
    whole outcome c none =
        let is = all_first input first c.rest c.input_is (c.all none) in
        subst (λ (t : List ℕ). ByFirst role own t first outcome written) (sym is) (by_whole role own first outcome written none c.upgrades)

    each : (outcome : Outcome) → ComesTo role own input first outcome written → ByFirst role own input first outcome written
    each (Ok None) c = whole (Ok None) c (λ u. u)
    each (Ok (Some key)) c = by_front role own key input first c.rest written c.input_is c.upgrades
    each (Err fault) c = whole (Err fault) c (λ u. u)

pub one_outcome : OneOutcome
one_outcome role own input first other a b written more c d =
    one_first role own input first other a b written more (parted role own input first a written c) (parted role own input other b more d)
