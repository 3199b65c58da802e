-- A side that is fed a piece.
use Rattle.std.proofs.Common.{◌≡◌, ◌≢◌, ℕ, zero, suc, ◌+◌, ◌-◌, ◌<◌, ◌≤◌, Bool, true, false, get_or, take, drop, List, [], ◌∷◌, ◌++◌, length, Option, Some, None, Result, Ok, Err, refl, ap, sym, subst, ◌∙◌, inl, inr, append_assoc, add-one, arith}
use Rattle.std.specs.Prelude.{IfErr}
use Rattle.std.proofs.Math.Seq.{get_or-append_right}
use Rattle.std.proofs.lemmas.Bool.{cases_lt}
use Rattle.std.proofs.lemmas.List.{length-append, length-take, length-drop, get_or_append_left}
use Rattle.varint_proto.specs.declared.fault.IncomingRefused.{IncomingRefused}
use Rattle.varint_proto.specs.Incoming.{Announces, ReadsFramed, RefusesRoom, Arriving, Stands as Arrives, IsWhole}
use Rattle.varint_proto.proofs.Framed.{some_framed, frames_more, fault_more, whole_not_partial, partial_not_faulty}
use Rattle.varint_proto.proofs.Arriving.{partial_read, known, behind, place, two_places}
use Rattle.varint_proto.proofs.Pieces.{take_past}
use Rattle.ms_select.specs.declared.fault.SelectFault.{SelectFault}
use Rattle.ms_select.specs.declared.answer.Step.{Step}
use Rattle.ms_select.specs.declared.answer.Answer.{Answer}
use Rattle.ms_select.specs.declared.answer.Answer.TheVariants.{Going, Agreed, NoneLeft}
use Rattle.ms_select.specs.declared.verdict.Role.{Role}
use Rattle.ms_select.specs.Messages.{longest, spelled, of_refused}
use Rattle.ms_select.specs.Sides.{Comes, answer_room, Negotiating, Hears, StandsWith, Stands, RunsOut, EndsLength}
use Rattle.ms_select.proofs.Reading.{IsBytes}
use Rattle.ms_select.proofs.Framing.{partial_message, refused_length}
use Rattle.ms_select.proofs.Judging.{unread, undecided}
use Rattle.ms_select.proofs.Staying.{fault_stays, decision_stays}

-- ---- where a side stands

pub going : (x : Negotiating) (input : List ℕ) (used : ℕ) (taken : List ℕ) → x.answer ≡ Some Going → Stands x input used taken
    → (texts : List (List ℕ)) × (rest : List ℕ) × Hears x input taken texts rest × ReadsFramed longest rest (Ok None) × (used ≡ length input)
going x input used taken a s = subst (λ (answer : Option Answer). StandsWith answer x input used taken) a s

pub stands_at : (x : Negotiating) (input : List ℕ) (used : ℕ) (taken : List ℕ) (answer : Option Answer) → x.answer ≡ answer → StandsWith answer x input used taken → Stands x input used taken
stands_at x input used taken answer a s = subst (λ (answer : Option Answer). StandsWith answer x input used taken) (sym a) s

comes_at : (answer : Answer) (x : Negotiating) (input : List ℕ) (used : ℕ) (taken : List ℕ) → StandsWith (Some answer) x input used taken → Comes x.role x.names input (Ok answer) used (taken ++ x.pending)
comes_at Going x input used taken (texts, rest, h, partial, all) =
    let here = undecided x.role x.names texts input rest h.parts h.heard (partial_message rest partial) in
    subst (λ (n : ℕ). Comes x.role x.names input (Ok Going) n (taken ++ x.pending)) (sym all)
    (subst (λ (out : List ℕ). Comes x.role x.names input (Ok Going) (length input) out) (sym h.written) here)
comes_at (Agreed index) x input used taken s = s
comes_at NoneLeft x input used taken s = s

-- what a side stands at is that of the definition
pub comes : (x : Negotiating) (input : List ℕ) (used : ℕ) (taken : List ℕ) (answer : Answer) → x.answer ≡ Some answer → Stands x input used taken
    → Comes x.role x.names input (Ok answer) used (taken ++ x.pending)
comes x input used taken answer a s = comes_at answer x input used taken (subst (λ (o : Option Answer). StandsWith o x input used taken) a s)

-- the answer that is told later
pub told : (x new : Negotiating) (input : List ℕ) (used : ℕ) (taken : List ℕ) (answer : Answer) → new ≡ record x { answer = new.answer } → StandsWith (Some answer) x input used taken → StandsWith (Some answer) new input used taken
told x new input used taken answer e s = subst (λ (y : Negotiating). StandsWith (Some answer) y input used taken) (sym e) (again answer new.answer x s)
  where
    again : (answer : Answer) (o : Option Answer) (x : Negotiating) → StandsWith (Some answer) x input used taken → StandsWith (Some answer) (record x { answer = o }) input used taken
    again Going o x (texts, rest, h, partial, all) = (
      texts,
      rest,
      record {
        parts = h.parts;
        bytes = h.bytes;
        heard = h.heard;
        arrives = h.arrives;
        limit = h.limit;
        begun = h.begun;
        count = h.count;
        written = h.written;
        room = h.room;
      },
      partial,
      all,
    )
    again (Agreed index) o x s = s
    again NoneLeft o x s = s

-- ---- a piece of a message

bytes_of : (rest piece : List ℕ) → IsBytes rest → IsBytes piece → IsBytes (rest ++ piece)
bytes_of rest piece a b i = elim (cases_lt i (length rest)) [
  | inl within ↦ subst (λ (n : ℕ). n < 256) (sym (get_or_append_left rest piece 0 i within)) (a i)
  | inr past ↦ subst (λ (n : ℕ). n < 256) (sym (get_or-append_right rest piece i 0 past)) (b (i - length rest))
]

take_bytes : (n : ℕ) (piece : List ℕ) → IsBytes piece → IsBytes (take n piece)
take_bytes zero piece b i = omega arith
take_bytes (suc n) [] b i = omega arith
take_bytes (suc n) (x ∷ piece) b zero = b 0
take_bytes (suc n) (x ∷ piece) b (suc i) = take_bytes n piece (λ k. b (suc k)) i

-- a side that has heard more of the message
pub fed : (x new : Negotiating) (input taken : List ℕ) (texts : List (List ℕ)) (rest piece : List ℕ) (used : ℕ) → Hears x input taken texts rest → IsBytes piece
    → new.role ≡ x.role → new.names ≡ x.names → new.begun ≡ x.begun → new.count ≡ x.count → new.pending ≡ x.pending
    → new.incoming.limit ≡ longest → Arrives (rest ++ take used piece) new.incoming
    → ((len : ℕ) → new.incoming.expected ≡ Some len → 0 < len → answer_room x.role x.names x.count len ≤ new.room)
    → Hears new (input ++ take used piece) taken texts (rest ++ take used piece)
fed x new input taken texts rest piece used h bytes r n b c p limit arrives room = record {
  parts = ap (λ (b : List ℕ). b ++ take used piece) h.parts ∙ append_assoc (spelled texts) rest (take used piece);
  bytes = bytes_of rest (take used piece) h.bytes (take_bytes used piece bytes);
  heard = rw (r, n) h.heard;
  arrives = arrives;
  limit = limit;
  begun = b ∙ h.begun;
  count = rw r (c ∙ h.count);
  written = rw (r, n, p) h.written;
  room = λ len known some. rw (r, n, c) (room len known some);
}

-- what begins a message that isn't whole isn't whole either
front_at : (limit : ℕ) (a b : List ℕ) (outcome : Result (Option (List ℕ × List ℕ)) IncomingRefused) → ReadsFramed limit a outcome → ReadsFramed limit (a ++ b) (Ok None) → ReadsFramed limit a (Ok None)
front_at limit a b (Ok None) here whole = here
front_at limit a b (Ok (Some found)) here partial = absurd (whole_not_partial limit (a ++ b) found.0 (found.1 ++ b) (frames_more limit a b found.0 found.1 here) partial)
front_at limit a b (Err fault) here partial = absurd (partial_not_faulty limit (a ++ b) fault partial (fault_more limit a b fault here))

partial_front : (limit : ℕ) (a b : List ℕ) → ReadsFramed limit (a ++ b) (Ok None) → ReadsFramed limit a (Ok None)
partial_front limit a b partial = let here = some_framed limit a in front_at limit a b here.0 here.1 partial

-- a length that is refused
pub refused_at : (x : Negotiating) (input taken : List ℕ) (texts : List (List ℕ)) (rest piece : List ℕ) (limit : ℕ) (refused : IncomingRefused) → Hears x input taken texts rest → limit ≡ longest
    → ReadsFramed limit (rest ++ piece) (Err refused) → Comes x.role x.names (input ++ piece) (Err (of_refused refused)) (length (input ++ piece)) (taken ++ x.pending)
refused_at x input taken texts rest piece limit refused h e r =
    let parts : input ++ piece ≡ spelled texts ++ (rest ++ piece) = ap (λ (b : List ℕ). b ++ piece) h.parts ∙ append_assoc (spelled texts) rest piece in
    let here = unread x.role x.names texts (input ++ piece) (rest ++ piece) (of_refused refused) parts h.heard (refused_length (rest ++ piece) refused (subst (λ (n : ℕ). ReadsFramed n (rest ++ piece) (Err refused)) e r)) in
    subst (λ (out : List ℕ). Comes x.role x.names (input ++ piece) (Err (of_refused refused)) (length (input ++ piece)) out) (sym h.written) here

-- the place at which memory is refused
runs_out_at : (x : Negotiating) (input taken : List ℕ) (texts : List (List ℕ)) (rest piece : List ℕ) (n len : ℕ) → Hears x input taken texts rest → n < length piece
    → Announces longest (rest ++ take (n + 1) piece) len [] → 0 < len → RunsOut x.role x.names (taken ++ x.pending) input piece
runs_out_at x input taken texts rest piece n len h lt a some =
    let parts = λ (m : ℕ). ap (λ (b : List ℕ). b ++ take m piece) h.parts ∙ append_assoc (spelled texts) rest (take m piece) in
    let behind : ReadsFramed longest (rest ++ take (n + 1) piece) (Ok None) = inr (len, [], a, some) in
    let before : ReadsFramed longest (rest ++ take n piece) (Ok None) =
    partial_front longest (rest ++ take n piece) (get_or piece n 0 ∷ []) (subst (λ (b : List ℕ). ReadsFramed longest b (Ok None)) (sym (place rest piece n lt)) behind) in
    let at = λ (m : ℕ) (partial : ReadsFramed longest (rest ++ take m piece) (Ok None)).
    subst (λ (out : List ℕ). Comes x.role x.names (input ++ take m piece) (Ok Going) (length (input ++ take m piece)) out) (sym h.written)
    (undecided x.role x.names texts (input ++ take m piece) (rest ++ take m piece) (parts m) h.heard (partial_message (rest ++ take m piece) partial)) in
    record { n = n; within = lt; before = at n before; behind = at (n + 1) behind; ends = (texts, rest ++ take (n + 1) piece, len, parts (n + 1), a.begins) }

pub no_room : (x : Negotiating) (input taken : List ℕ) (texts : List (List ℕ)) (rest piece : List ℕ) (limit room : ℕ) → Hears x input taken texts rest → limit ≡ longest
    → RefusesRoom limit room rest piece → RunsOut x.role x.names (taken ++ x.pending) input piece
no_room x input taken texts rest piece limit room h e r =
    let here = subst (λ (n : ℕ). RefusesRoom n room rest piece) e r in
    runs_out_at x input taken texts rest piece here.0 here.3.0 h here.1 here.3.1 (omega (arith, here.3.2))

-- and that of room for an answer
pub no_answer_room : (x : Negotiating) (i : Arriving) (input taken : List ℕ) (texts : List (List ℕ)) (rest piece : List ℕ) (digits len : ℕ) → Hears x input taken texts rest → i.limit ≡ longest
    → Arrives (rest ++ take digits piece) i → i.body ≡ [] → i.expected ≡ Some len → 0 < len → 0 < digits → digits ≤ length piece → RunsOut x.role x.names (taken ++ x.pending) input piece
no_answer_room x i input taken texts rest piece zero len h l a b e some pos le = absurd (omega arith)
no_answer_room x i input taken texts rest piece (suc n) len h l a b e some pos le =
    let here : Announces i.limit (rest ++ take (suc n) piece) len i.body = (known i (rest ++ take (suc n) piece) len e a).0 in
    let bare : Announces longest (rest ++ take (n + 1) piece) len [] =
    rw (add-one n) (subst (λ (body : List ℕ). Announces longest (rest ++ take (suc n) piece) len body) b (subst (λ (m : ℕ). Announces m (rest ++ take (suc n) piece) len i.body) l here)) in
    runs_out_at x input taken texts rest piece n len h (omega arith) bare some

-- the message isn't whole yet
pub unfinished : (new : Negotiating) (input taken : List ℕ) (texts : List (List ℕ)) (rest : List ℕ) → Hears new input taken texts rest → (IsWhole new.incoming → ⊥) → StandsWith (Some Going) new input (length input) taken
unfinished new input taken texts rest h partial =
    let here = partial_read new.incoming rest h.arrives partial in
    (texts, rest, h, subst (λ (n : ℕ). ReadsFramed n rest (Ok None)) h.limit here, refl)

-- ---- places in a piece

pub all_of : (role : Role) (names : List (List ℕ)) (input piece output : List ℕ) (n : ℕ) (fault : SelectFault) → Comes role names (input ++ take n piece) (Err fault) (length (input ++ take n piece)) output
    → Comes role names (input ++ piece) (Err fault) (length (input ++ piece)) output
all_of role names input piece output n fault c =
    subst (λ (b : List ℕ). Comes role names b (Err fault) (length b) output) (behind input piece n) (fault_stays role names (input ++ take n piece) (drop n piece) output fault _ c)

-- ---- a side behind its steps

-- the length was known
pub same_length : (old new : Arriving) (digits : ℕ) → (old.expected ≡ None → 0 < digits) → (old.expected ≢ None → new ≡ old) → digits ≡ 0 → new.expected ≡ old.expected
same_length old new digits some kept none_came = by old.expected refl
  where
    by : (o : Option ℕ) → old.expected ≡ o → new.expected ≡ old.expected
    by None e = absurd (omega (arith, some e, none_came))
    by (Some len) e = ap (λ (a : Arriving). a.expected) (kept (λ none. let no : None ≡ Some len = sym none ∙ e in cc))

pub room_kept : (x : Negotiating) (known : Option ℕ) (digits room : ℕ) → ((len : ℕ) → x.incoming.expected ≡ Some len → 0 < len → answer_room x.role x.names x.count len ≤ x.room)
    → (digits ≡ 0 → known ≡ x.incoming.expected) → (digits ≡ 0 → room ≡ x.room)
    → (0 < digits → (len : ℕ) → known ≡ Some len → 0 < len → answer_room x.role x.names x.count len ≤ room)
    → (len : ℕ) → known ≡ Some len → 0 < len → answer_room x.role x.names x.count len ≤ room
room_kept x known zero room old same kept new len e some = rw (kept refl) (old len (sym (same refl) ∙ e) some)
room_kept x known (suc digits) room old same kept new len e some = new (omega arith) len e some

-- a length of which bytes came wasn't known
pub was_unknown : (o : Option ℕ) (digits : ℕ) → (o ≢ None → digits ≡ 0) → 0 < digits → o ≡ None
was_unknown None digits kept pos = refl
was_unknown (Some len) digits kept pos = absurd (omega (arith, pos, kept (λ e. cc)))

abbrev pub ok_count : ℕ → Result ℕ IncomingRefused
ok_count n = Ok n

pub same_count : (m n : ℕ) → ok_count m ≡ ok_count n → m ≡ n
same_count m n e = cc

abbrev pub told_at : ℕ → Answer → Result Step SelectFault
told_at used answer = Ok (record { used = used; answer = answer })

pub same_step : (step : Step) (used : ℕ) (answer : Answer) → Ok step ≡ told_at used answer → step.answer ≡ answer
same_step step used answer e = let is : step ≡ record { used = used; answer = answer } = cc in ap (λ (s : Step). s.answer) is

-- what every fault of a result says
pub each_fault : {A : Type 0} {P Q : SelectFault → Type 0} (r : Result A SelectFault) → ((fault : SelectFault) → P fault → Q fault) → IfErr r P → IfErr r Q
each_fault (Ok a) weaker h = tt
each_fault (Err fault) weaker h = weaker fault h

abbrev pub some_answer : Answer → Option Answer
some_answer answer = Some answer

pub same_some : (a b : Answer) → some_answer a ≡ some_answer b → a ≡ b
same_some a b e = cc

pub some_is_not : (a : Answer) → some_answer a ≡ None → ⊥
some_is_not a e = absurd cc

abbrev pub ok_answer : Answer → Result Answer SelectFault
ok_answer answer = Ok answer

pub same_answer : (a b : Answer) → ok_answer a ≡ ok_answer b → a ≡ b
same_answer a b e = cc

pub no_answer : (fault : SelectFault) (answer : Answer) → Err fault ≡ ok_answer answer → ⊥
no_answer fault answer e = absurd cc

pub must : (b : Bool) → (b ≡ false → ⊥) → b ≡ true
must true h = refl
must false h = absurd (h refl)

-- a side whose message has come further, and whose answer stays open
abbrev pub further : Negotiating → Arriving → ℕ → Negotiating
further x incoming room = record x { incoming = incoming; answer = None; room = room }

pub hears_on : (x : Negotiating) (incoming : Arriving) (room : ℕ) (input taken : List ℕ) (texts : List (List ℕ)) (rest piece : List ℕ) (used : ℕ) → Hears x input taken texts rest → IsBytes piece
    → incoming.limit ≡ longest → Arrives (rest ++ take used piece) incoming
    → ((len : ℕ) → incoming.expected ≡ Some len → 0 < len → answer_room x.role x.names x.count len ≤ room)
    → Hears (further x incoming room) (input ++ take used piece) taken texts (rest ++ take used piece)
hears_on x incoming room input taken texts rest piece used h bytes limit arrives fits =
    fed x (further x incoming room) input taken texts rest piece used h bytes refl refl refl refl refl limit arrives fits

-- whole or not, the message leaves the side where it stands
pub whole_or_not : (whole : Bool) (answer : Answer) (new : Negotiating) (input taken : List ℕ) → (whole ≡ true → StandsWith (Some answer) new input (length input) taken)
    → (whole ≡ false → (answer ≡ Going) × StandsWith (Some Going) new input (length input) taken) → StandsWith (Some answer) new input (length input) taken
whole_or_not true answer new input taken t f = t refl
whole_or_not false answer new input taken t f = subst (λ (a : Answer). StandsWith (Some a) new input (length input) taken) (sym (f refl).0) (f refl).1

rest_of : (piece : List ℕ) (n : ℕ) → take (length piece - n) (drop n piece) ≡ drop n piece
rest_of piece n = take_past (drop n piece) (length piece - n) (omega (arith, length-drop n piece))

-- what came behind the bytes that are used
pub further_on : (input piece : List ℕ) (m n : ℕ) → (input ++ take m piece) ++ take n (take (length piece - m) (drop m piece)) ≡ input ++ take (m + n) piece
further_on input piece m n = ap (λ (b : List ℕ). (input ++ take m piece) ++ take n b) (rest_of piece m) ∙ two_places input piece m n

-- what is decided stands, told more
pub still_decided : (x : Negotiating) (input more : List ℕ) (used : ℕ) (taken : List ℕ) (answer : Answer) → answer ≢ Going → x.answer ≡ Some answer → Stands x input used taken → Stands x (input ++ more) used taken
still_decided x input more used taken answer ne e s =
    stands_at x (input ++ more) used taken (Some answer) e (by answer ne (subst (λ (o : Option Answer). StandsWith o x input used taken) e s))
  where
    by : (answer : Answer) → answer ≢ Going → StandsWith (Some answer) x input used taken → StandsWith (Some answer) x (input ++ more) used taken
    by Going ne s = absurd (ne refl)
    by (Agreed index) ne s = decision_stays x.role x.names input more (taken ++ x.pending) (Agreed index) used ne s
    by NoneLeft ne s = decision_stays x.role x.names input more (taken ++ x.pending) NoneLeft used ne s

-- a message within the piece decides
pub decided_in : (x : Negotiating) (input piece : List ℕ) (used n : ℕ) (taken : List ℕ) (answer : Answer) → answer ≢ Going → x.answer ≡ Some answer → used ≡ length input → n ≤ length piece
    → Stands x (input ++ take n piece) (length (input ++ take n piece)) taken → Stands x (input ++ piece) (used + n) taken
decided_in x input piece used n taken answer ne e all le s =
    let size : length (input ++ take n piece) ≡ used + n = omega (arith, length-append input (take n piece), length-take n piece) in
    let here = still_decided x (input ++ take n piece) (drop n piece) (length (input ++ take n piece)) taken answer ne e s in
    subst (λ (k : ℕ). Stands x (input ++ piece) k taken) size (subst (λ (b : List ℕ). Stands x b (length (input ++ take n piece)) taken) (behind input piece n) here)

pub used_all : (x : Negotiating) (input : List ℕ) (used : ℕ) (taken : List ℕ) → x.answer ≡ Some Going → Stands x input used taken → used ≡ length input
used_all x input used taken a s = (going x input used taken a s).4

-- memory is refused behind some bytes of the piece
pub runs_out_later : (role : Role) (names : List (List ℕ)) (output input piece : List ℕ) (m : ℕ) → RunsOut role names output (input ++ take m piece) (take (length piece - m) (drop m piece)) → RunsOut role names output input piece
runs_out_later role names output input piece m r =
    let here : RunsOut role names output (input ++ take m piece) (drop m piece) = subst (λ (b : List ℕ). RunsOut role names output (input ++ take m piece) b) (rest_of piece m) r in
    let at = λ (n : ℕ). two_places input piece m n in
    record {
      n = m + here.n;
      within = omega (arith, here.within, length-drop m piece);
      before = subst (λ (b : List ℕ). Comes role names b (Ok Going) (length b) output) (at here.n) here.before;
      behind = subst (λ (b : List ℕ). Comes role names b (Ok Going) (length b) output) (at (here.n + 1) ∙ ap (λ (k : ℕ). input ++ take k piece) (one_more m here.n)) here.behind;
      ends = subst EndsLength (at (here.n + 1) ∙ ap (λ (k : ℕ). input ++ take k piece) (one_more m here.n)) here.ends;
    }
  where
    one_more : (m n : ℕ) → m + (n + 1) ≡ m + n + 1
    one_more m n = omega arith

-- Where a feed refuses nothing of a decided side, one whose feed is refused had decided nothing.
pub going_on : (answer : Answer) (state : Option Answer) → state ≡ Some answer → ((a : Answer) → state ≡ Some a → (a ≡ Going → ⊥) → ⊥) → state ≡ Some Going
going_on Going state e refuses = e
going_on (Agreed index) state e refuses = absurd (refuses (Agreed index) e (λ q. cc))
going_on NoneLeft state e refuses = absurd (refuses NoneLeft e (λ q. cc))
