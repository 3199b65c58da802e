-- The clause of a feed determines its outcome.
use Rattle.std.proofs.Common.{◌≡◌, ℕ, zero, suc, ◌⊎◌, inl, inr, Bool, true, false, List, [], ◌∷◌, ◌++◌, map, take, drop, refl, sym, ap, ◌∙◌, subst, append_assoc}
use Rattle.std.proofs.lemmas.List.{map-append, append_cancel_left, append_cancel_right}
use Rattle.yamux_frames.specs.Frames.{Arrival, spelled, AreFrames, IsRest}
use Rattle.yamux_frames.proofs.Readings.{both, ends}
use Rattle.yamux_session.specs.declared.event.Role.{Role}
use Rattle.yamux_session.specs.History.{Item, arrivals}
use Rattle.yamux_session.specs.History.Item.{Came}
use Rattle.yamux_session.specs.Faults.{HasNoFault}
use Rattle.yamux_session.specs.Events.{Told, events}
use Rattle.yamux_session.specs.State.{State, FirstFaults, Led}
use Rattle.yamux_session.specs.OneOutcome.{OneOutcome}
use Rattle.yamux_session.proofs.Stepping.{arrivals_on}

-- ---- a list that the bytes led to

pub record Shape (role : Role) (bytes : List ℕ) (now : List Item) : Type 0 where
  pub rest : List ℕ
  pub whole : bytes ≡ spelled (arrivals now) ++ rest
  pub are : AreFrames (arrivals now)
  pub stop : (HasNoFault role now × IsRest (arrivals now) rest) ⊎ FirstFaults role now

pub split_at : (n : ℕ) (xs : List ℕ) → xs ≡ take n xs ++ drop n xs
split_at zero xs = refl
split_at (suc n) [] = refl
split_at (suc n) (x ∷ xs) = ap (λ (t : List ℕ). x ∷ t) (split_at n xs)

pub shape : (role : Role) (past now : List Item) (fed bytes sent : List ℕ) (told : List Told) (s : State) (b : Bool) → s.failed ≡ b → Led role past now fed bytes sent told s → Shape role (fed ++ bytes) now
shape role past now fed bytes sent told s false is led =
    let at = led.goes_on is in
    record { rest = s.place.part; whole = at.frames.reads.whole; are = at.frames.reads.frames_are; stop = inl (at.no_fault, at.frames.reads.rest_is) }
shape role past now fed bytes sent told s true is led =
    let end = led.fails is in
    record {
      rest = drop end.2.0 bytes;
      whole = ap (λ (t : List ℕ). fed ++ t) (split_at end.2.0 bytes) ∙ sym (append_assoc fed (take end.2.0 bytes) (drop end.2.0 bytes))
          ∙ ap (λ (t : List ℕ). t ++ drop end.2.0 bytes) end.2.2.whole;
      are = end.2.2.frames_are;
      stop = inr end.0;
    }

fine_back : (role : Role) (way : List Arrival) (now : List Item) → HasNoFault role (map Came way ++ now) → HasNoFault role now
fine_back role [] now good = good
fine_back role (x ∷ way) now good = fine_back role way now good.1

not_first : (role : Role) (now : List Item) → HasNoFault role now → FirstFaults role now → ⊥
not_first role [] good bad = bad
not_first role (x ∷ past) good bad = let e = good.0 in let f = bad.0.1 in cc

older_good : (role : Role) (x : Arrival) (way : List Arrival) (now : List Item) (rest : List ℕ)
    → (HasNoFault role (map Came (x ∷ way) ++ now) × IsRest (arrivals (map Came (x ∷ way) ++ now)) rest) ⊎ FirstFaults role (map Came (x ∷ way) ++ now) → HasNoFault role now
older_good role x way now rest (inl going) = fine_back role way now going.0.1
older_good role x way now rest (inr first) = fine_back role way now first.1

way_none : (role : Role) (bytes : List ℕ) (now : List Item) (way : List Arrival) → Shape role bytes now → Shape role bytes (map Came way ++ now) → way ≡ []
way_none role bytes now [] a b = refl
way_none role bytes now (x ∷ way) a b =
    elim a.stop [
      | inl going ↦
          let same = arrivals_on (x ∷ way) now in
          ends (arrivals now) a.rest b.rest (x ∷ way) going.1 (subst AreFrames same b.are) (sym a.whole ∙ b.whole ∙ ap (λ (t : List Arrival). spelled t ++ b.rest) same)
      | inr first ↦ absurd (not_first role now (older_good role x way now b.rest b.stop) first)
    ]

-- where one list of arrivals goes on, the list of items does
goes_on_by : (past : List Item) (more others way : List Arrival) → arrivals (map Came others ++ past) ≡ way ++ arrivals (map Came more ++ past) → map Came others ++ past ≡ map Came way ++ (map Came more ++ past)
goes_on_by past more others way e =
    let same : others ≡ way ++ more =
    append_cancel_right others (way ++ more) (arrivals past)
    (sym (arrivals_on others past) ∙ e ∙ ap (λ (t : List Arrival). way ++ t) (arrivals_on more past) ∙ sym (append_assoc way more (arrivals past))) in
    ap (λ (t : List Arrival). map Came t ++ past) same ∙ ap (λ (t : List Item). t ++ past) (map-append Came way more) ∙ append_assoc (map Came way) (map Came more) past

one_way : (role : Role) (bytes : List ℕ) (past : List Item) (more others way : List Arrival) → Shape role bytes (map Came more ++ past) → Shape role bytes (map Came others ++ past)
    → arrivals (map Came others ++ past) ≡ way ++ arrivals (map Came more ++ past) → map Came others ++ past ≡ map Came more ++ past
one_way role bytes past more others way a b e =
    let on = goes_on_by past more others way e in
    let none : way ≡ [] = way_none role bytes (map Came more ++ past) way a (subst (Shape role bytes) on b) in
    on ∙ ap (λ (t : List Arrival). map Came t ++ (map Came more ++ past)) none

pub one_list : (role : Role) (bytes : List ℕ) (past : List Item) (more others : List Arrival) → Shape role bytes (map Came more ++ past) → Shape role bytes (map Came others ++ past) → map Came more ++ past ≡ map Came others ++ past
one_list role bytes past more others a b =
    elim (both (arrivals (map Came more ++ past)) (arrivals (map Came others ++ past)) a.rest b.rest a.are b.are (sym a.whole ∙ b.whole)) [
      | inl on ↦ sym (one_way role bytes past more others on.0 a b on.1)
      | inr on ↦ one_way role bytes past others more on.0 b a on.1
    ]

one_end : (role : Role) (past now : List Item) (fed bytes sent : List ℕ) (told said : List Told) (s t : State) (b c : Bool) → s.failed ≡ b → t.failed ≡ c
    → Led role past now fed bytes sent told s → Led role past now fed bytes sent said t → (s.failed ≡ t.failed) × (s.pending ≡ t.pending)
one_end role past now fed bytes sent told said s t false false i j a d =
    (i ∙ sym j, append_cancel_left sent s.pending t.pending ((a.goes_on i).output ∙ sym (d.goes_on j).output))
one_end role past now fed bytes sent told said s t true true i j a d =
    (i ∙ sym j, append_cancel_left sent s.pending t.pending ((a.fails i).1 ∙ sym (d.fails j).1))
one_end role past now fed bytes sent told said s t true false i j a d = absurd (not_first role now (d.goes_on j).no_fault (a.fails i).0)
one_end role past now fed bytes sent told said s t false true i j a d = absurd (not_first role now (a.goes_on i).no_fault (d.fails j).0)

pub one_outcome : OneOutcome
one_outcome role past now other fed bytes sent told said s t a b =
    let same : now ≡ other =
    a.came.1
    ∙ one_list role (fed ++ bytes) past a.came.0 b.came.0
    (subst (Shape role (fed ++ bytes)) a.came.1 (shape role past now fed bytes sent told s s.failed refl a))
    (subst (Shape role (fed ++ bytes)) b.came.1 (shape role past other fed bytes sent said t t.failed refl b))
    ∙ sym b.came.1 in
    let d : Led role past now fed bytes sent said t = subst (λ (l : List Item). Led role past l fed bytes sent said t) (sym same) b in
    let end = one_end role past now fed bytes sent told said s t s.failed t.failed refl refl a d in
    (same, append_cancel_left (events role past) told said (sym a.told_is ∙ d.told_is), end.0, end.1)
