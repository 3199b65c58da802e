-- A call has one answer at a point.
use Rattle.std.proofs.Common.{◌≡◌, ◌≢◌, ℕ, ◌⊎◌, inl, inr, min, List, ◌++◌, length, take, drop, Option, None, refl, sym, ap, ◌∙◌, subst, append_assoc}
use Rattle.std.proofs.lemmas.List.{append_cancel_left}
use Rattle.yamux_session.specs.declared.event.Role.{Role}
use Rattle.yamux_session.specs.declared.event.Event.{Event}
use Rattle.yamux_session.specs.declared.event.ActRefused.{ActRefused}
use Rattle.yamux_session.specs.declared.event.ActRefused.TheVariants as refused
use Rattle.yamux_session.specs.declared.calls.Act.{Act}
use Rattle.yamux_session.specs.declared.calls.Act.TheVariants as act
use Rattle.yamux_session.specs.declared.calls.ActAnswer.{ActAnswer}
use Rattle.yamux_session.specs.declared.calls.ActAnswer.TheVariants.{Events, Stream, Count, Done, Refused}
use Rattle.yamux_session.specs.History.{Item}
use Rattle.yamux_session.specs.Windows.{credit}
use Rattle.yamux_session.specs.Events.{events}
use Rattle.yamux_session.specs.Acts.{next_own, start_refusal, stream_refusal, direction_refusal, IsRefusedFor}
use Rattle.yamux_session.specs.Arrives.{tellings}
use Rattle.yamux_session.specs.Runs.{Point, FedOn, GoesOn, Ends, AnswersAt, AreSame, OneCall}
use Rattle.yamux_session.specs.Runs.Point.{At, Over}
use Rattle.yamux_session.proofs.OneRefusal.{one_refusal}
use Rattle.yamux_session.proofs.OneOutcome.{Shape, split_at, one_list}

-- ---- acts

-- an answer is this value, or a refusal for this reason
abbrev IsOr : ActAnswer → Option ActRefused → ActAnswer → Type 0
IsOr value reason answer = ((answer ≡ value) × (reason ≡ None)) ⊎ ((why : ActRefused) × (answer ≡ Refused why) × IsRefusedFor reason why)

start : (role : Role) (past : List Item) (fed : List ℕ) (answer : ActAnswer) (next : Point) → AnswersAt role past fed act.Start answer next → IsOr (Stream (next_own role past)) (start_refusal role past) answer
start role past fed (Stream n) next is = inl (ap Stream is.0.1, is.0.0)
start role past fed (Refused why) next is = inr (why, refl, is.0)
start role past fed (Events told) next is = absurd is
start role past fed (Count k) next is = absurd is
start role past fed Done next is = absurd is

write : (role : Role) (past : List Item) (fed : List ℕ) (n : ℕ) (bytes : _) (answer : ActAnswer) (next : Point) → AnswersAt role past fed (act.Write n bytes) answer next → IsOr (Count (min (length bytes.items) (credit role past n))) (direction_refusal role past n) answer
write role past fed n bytes (Count count) next is = inl (ap Count is.count_is, is.added.0.0)
write role past fed n bytes (Refused why) next is = inr (why, refl, is.0)
write role past fed n bytes (Events told) next is = absurd is
write role past fed n bytes (Stream m) next is = absurd is
write role past fed n bytes Done next is = absurd is

taken : (role : Role) (past : List Item) (fed : List ℕ) (n count : ℕ) (answer : ActAnswer) (next : Point) → AnswersAt role past fed (act.Taken n count) answer next → IsOr (Done) (stream_refusal role past n) answer
taken role past fed n count Done next is = inl (refl, is.0.0)
taken role past fed n count (Refused why) next is = inr (why, refl, is.0)
taken role past fed n count (Events told) next is = absurd is
taken role past fed n count (Stream m) next is = absurd is
taken role past fed n count (Count k) next is = absurd is

close : (role : Role) (past : List Item) (fed : List ℕ) (n : ℕ) (answer : ActAnswer) (next : Point) → AnswersAt role past fed (act.Close n) answer next → IsOr (Done) (direction_refusal role past n) answer
close role past fed n Done next is = inl (refl, is.0)
close role past fed n (Refused why) next is = inr (why, refl, is.0)
close role past fed n (Events told) next is = absurd is
close role past fed n (Stream m) next is = absurd is
close role past fed n (Count k) next is = absurd is

reset : (role : Role) (past : List Item) (fed : List ℕ) (n : ℕ) (answer : ActAnswer) (next : Point) → AnswersAt role past fed (act.Reset n) answer next → IsOr (Done) (stream_refusal role past n) answer
reset role past fed n Done next is = inl (refl, is.0)
reset role past fed n (Refused why) next is = inr (why, refl, is.0)
reset role past fed n (Events told) next is = absurd is
reset role past fed n (Stream m) next is = absurd is
reset role past fed n (Count k) next is = absurd is

leave : (role : Role) (past : List Item) (fed : List ℕ) (code : ℕ) (answer : ActAnswer) (next : Point) → AnswersAt role past fed (act.GoAway code) answer next → IsOr (Done) (None) answer
leave role past fed code Done next is = inl (refl, refl)
leave role past fed code (Refused why) next is = inr (why, refl, subst (IsRefusedFor None) (sym is.0) refl)
leave role past fed code (Events told) next is = absurd is
leave role past fed code (Stream m) next is = absurd is
leave role past fed code (Count k) next is = absurd is

without_memory : (why : ActRefused) → IsRefusedFor None why → why ≡ refused.OutOfMemory
without_memory why is = one_refusal None why refused.OutOfMemory is refl

same_self : (answer : ActAnswer) → AreSame answer answer
same_self (Events told) = refl
same_self (Stream n) = refl
same_self (Count n) = refl
same_self Done = refl
same_self (Refused why) = refl

same_as : (answer other : ActAnswer) → answer ≡ other → AreSame answer other
same_as answer other e = subst (AreSame answer) e (same_self answer)

same : (value : ActAnswer) (reason : Option ActRefused) (answer other : ActAnswer) → IsOr value reason answer → IsOr value reason other
    → answer ≢ Refused refused.OutOfMemory → other ≢ Refused refused.OutOfMemory → AreSame answer other
same value reason answer other (inl a) (inl b) some more = same_as answer other (a.0 ∙ sym b.0)
same value reason answer other (inl a) (inr b) some more = absurd (more (b.1 ∙ ap Refused (without_memory b.0 (subst (λ r. IsRefusedFor r b.0) a.1 b.2))))
same value reason answer other (inr a) (inl b) some more = absurd (some (a.1 ∙ ap Refused (without_memory a.0 (subst (λ r. IsRefusedFor r a.0) b.1 a.2))))
same value reason answer other (inr a) (inr b) some more = same_as answer other (a.1 ∙ ap Refused (one_refusal reason a.0 b.0 a.2 b.2) ∙ sym b.1)

-- ---- feed

shape : (role : Role) (fed bytes : List ℕ) (now : List Item) (next : Point) → GoesOn role fed bytes now next ⊎ Ends role fed bytes now next → Shape role (fed ++ bytes) now
shape role fed bytes now next (inl on) = record { rest = on.read.0; whole = on.read.1.whole; are = on.read.1.frames_are; stop = inl (on.no_fault, on.read.1.rest_is) }
shape role fed bytes now next (inr end) = record {
  rest = drop end.read.0 bytes;
  whole = ap (λ (t : List ℕ). fed ++ t) (split_at end.read.0 bytes) ∙ sym (append_assoc fed (take end.read.0 bytes) (drop end.read.0 bytes))
      ∙ ap (λ (t : List ℕ). t ++ drop end.read.0 bytes) end.read.2.whole;
  are = end.read.2.frames_are;
  stop = inr end.faulty;
}

told_same : (role : Role) (past : List Item) (fed bytes : List ℕ) (told said : List Event) (now then : List Item) (next other : Point)
    → FedOn role past fed bytes told now → GoesOn role fed bytes now next ⊎ Ends role fed bytes now next
    → FedOn role past fed bytes said then → GoesOn role fed bytes then other ⊎ Ends role fed bytes then other → tellings told ≡ tellings said
told_same role past fed bytes told said now then next other a a_end b b_end =
    let one : now ≡ then =
    a.came.1
    ∙ one_list role (fed ++ bytes) past a.came.0 b.came.0 (subst (Shape role (fed ++ bytes)) a.came.1 (shape role fed bytes now next a_end))
    (subst (Shape role (fed ++ bytes)) b.came.1 (shape role fed bytes then other b_end))
    ∙ sym b.came.1 in
    append_cancel_left (events role past) (tellings told) (tellings said) (sym a.told_is ∙ ap (events role) one ∙ b.told_is)

-- ---- any call

one_at : (role : Role) (past : List Item) (fed : List ℕ) (call : Act) (answer other : ActAnswer) (next then : Point) → AnswersAt role past fed call answer next → AnswersAt role past fed call other then
    → answer ≢ Refused refused.OutOfMemory → other ≢ Refused refused.OutOfMemory → AreSame answer other
one_at role past fed act.Start answer other next then a b some more = same _ _ answer other (start role past fed answer next a) (start role past fed other then b) some more
one_at role past fed (act.Write n bytes) answer other next then a b some more = same _ _ answer other (write role past fed n bytes answer next a) (write role past fed n bytes other then b) some more
one_at role past fed (act.Taken n count) answer other next then a b some more = same _ _ answer other (taken role past fed n count answer next a) (taken role past fed n count other then b) some more
one_at role past fed (act.Close n) answer other next then a b some more = same _ _ answer other (close role past fed n answer next a) (close role past fed n other then b) some more
one_at role past fed (act.Reset n) answer other next then a b some more = same _ _ answer other (reset role past fed n answer next a) (reset role past fed n other then b) some more
one_at role past fed (act.GoAway code) answer other next then a b some more = same _ _ answer other (leave role past fed code answer next a) (leave role past fed code other then b) some more
one_at role past fed (act.Feed bytes) (Events told) (Events said) next then a b some more =
    told_same role past fed bytes.items told.items said.items a.0 b.0 next then a.1 a.2 b.1 b.2
one_at role past fed (act.Feed bytes) (Events told) (Refused why) next then a b some more = absurd (more (ap Refused b.0))
one_at role past fed (act.Feed bytes) (Refused why) other next then a b some more = absurd (some (ap Refused a.0))
one_at role past fed (act.Feed bytes) (Events told) (Stream n) next then a b some more = absurd b
one_at role past fed (act.Feed bytes) (Events told) (Count n) next then a b some more = absurd b
one_at role past fed (act.Feed bytes) (Events told) Done next then a b some more = absurd b
one_at role past fed (act.Feed bytes) (Stream n) other next then a b some more = absurd a
one_at role past fed (act.Feed bytes) (Count n) other next then a b some more = absurd a
one_at role past fed (act.Feed bytes) Done other next then a b some more = absurd a

pub one_call : OneCall
one_call role (At past fed) call answer other next then a b some more = one_at role past fed call answer other next then a b some more
one_call role (Over out) call answer other next then a b some more = same_as answer other (a.0 ∙ sym b.0)
