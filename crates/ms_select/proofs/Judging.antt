-- Where a text leaves a side.
use Rattle.std.proofs.Common.{◌≡◌, ◌≢◌, ◌⊎◌, ℕ, ◌+◌, ◌<◌, ◌≤◌, get_or, cond, nat_eq, Bool, true, false, List, [], ◌∷◌, ◌++◌, length, Option, Some, None, Result, Ok, Err, refl, ap, sym, subst, ◌∙◌, inl, inr, arith, lit<}
use Rattle.std.specs.Prelude.{slice_get}
use Rattle.std.specs.List.{All}
use Rattle.std.specs.Str.{bytes_eq}
use Rattle.std.proofs.lemmas.Bool.{eqb-true, eqb-false}
use Rattle.std.proofs.lemmas.List.{append-nil, length-append}
use Rattle.std.proofs.lemmas.List.Elements.{All-nil, All-cons, All-push, All-get_or}
use Rattle.std.proofs.lemmas.Option.{slice_get-get_or, slice_get_within, get_or_from_slice_get}
use Rattle.std.proofs.lemmas.Slice.Eq.{bytes_eq-Decides}
use Rattle.ms_select.specs.declared.fault.SelectFault.{SelectFault}
use Rattle.ms_select.specs.declared.fault.SelectFault.TheVariants.{BadHeader, NotProposed, OutOfMemory}
use Rattle.ms_select.specs.declared.answer.Answer.{Answer}
use Rattle.ms_select.specs.declared.answer.Answer.TheVariants.{Going, Agreed, NoneLeft}
use Rattle.ms_select.specs.declared.verdict.Role.{Role}
use Rattle.ms_select.specs.declared.verdict.Role.TheVariants.{Dialer, Listener}
use Rattle.ms_select.specs.Messages.{header, na, message, spelled, IsShort, ReadsMessage}
use Rattle.ms_select.specs.Listening.{choice, refusals, IsRefused}
use Rattle.ms_select.specs.Dialing.{proposals, IsNotAnswer}
use Rattle.ms_select.specs.Sides.{Comes, IsHeard, written, count_of, next_count, is_begun, answer_room}
use Rattle.ms_select.specs.Verdicts.{Verdict, said, on_choice, on_refusal, is_standing, on_reply, verdict_of}
use Rattle.ms_select.proofs.Lists.{chosen}
use Rattle.ms_select.proofs.Reading.{message_again}
use Rattle.ms_select.proofs.Texts.{spelled_more, refusals_more, proposals_more, proposals_all, na_is}
use Rattle.ms_select.proofs.Framing.{message_length}

-- ---- the message itself is refused, or isn't whole

pub any_refused : (texts : List (List ℕ)) (rest : List ℕ) (fault : SelectFault) → ReadsMessage rest (Err fault) → IsRefused texts rest fault
any_refused [] rest fault r = inl r
any_refused (first ∷ proposals) rest fault r = r

pub any_not_answer : (names texts : List (List ℕ)) (rest : List ℕ) (fault : SelectFault) → ReadsMessage rest (Err fault) → IsNotAnswer names texts rest fault
any_not_answer names [] rest fault r = inl r
any_not_answer names (first ∷ answers) rest fault r = inl r

pub unread : (role : Role) (names texts : List (List ℕ)) (input rest : List ℕ) (fault : SelectFault) → input ≡ spelled texts ++ rest → IsHeard role names texts
    → ReadsMessage rest (Err fault) → Comes role names input (Err fault) (length input) (written role names texts)
unread Listener names texts input rest fault e h r =
    (texts, rest, record { parts = e; short = h.0; undecided = h.1 }, any_refused texts rest fault r, refl, refl)
unread Dialer names texts input rest fault e h r =
    (texts, rest, record { answered = record { parts = e; refusals = h.0 }; left = h.1 }, any_not_answer names texts rest fault r, refl, refl)

pub undecided : (role : Role) (names texts : List (List ℕ)) (input rest : List ℕ) → input ≡ spelled texts ++ rest → IsHeard role names texts
    → ReadsMessage rest (Ok None) → Comes role names input (Ok Going) (length input) (written role names texts)
undecided Listener names texts input rest e h r = (texts, rest, record { parts = e; short = h.0; undecided = h.1 }, r, refl, refl)
undecided Dialer names texts input rest e h r = (texts, rest, record { answered = record { parts = e; refusals = h.0 }; left = h.1 }, r, refl, refl)

-- ---- tests

same : (a b : List ℕ) → bytes_eq a b ≡ true → a ≡ b
same a b e = (bytes_eq-Decides a b).0 e

other : (a b : List ℕ) → bytes_eq a b ≡ false → a ≢ b
other a b e is = let yes : bytes_eq a b ≡ true = (bytes_eq-Decides a b).1 is in let no : true ≡ false = sym yes ∙ e in absurd cc

reads : (text : List ℕ) → IsShort text → ReadsMessage (message text) (Ok (Some text))
reads text short = subst (λ (b : List ℕ). ReadsMessage b (Ok (Some text))) (append-nil (message text)) (message_again text [] short)

behind : (input front text : List ℕ) → input ≡ front ++ message text → input ≡ front ++ (message text ++ [])
behind input front text e = e ∙ ap (λ (b : List ℕ). front ++ b) (sym (append-nil (message text)))

all : (input : List ℕ) → length input + 0 ≡ length input
all input = omega arith

-- ---- a text that is refused

-- a first text other than the header
not_header : (role : Role) (names : List (List ℕ)) (input text : List ℕ) → input ≡ spelled [] ++ message text → IsShort text → IsHeard role names []
    → text ≢ header → Comes role names input (Err BadHeader) (length input) (written role names [])
not_header Listener names input text e short h ne =
    ([], message text, record { parts = e; short = h.0; undecided = h.1 }, inr (text, reads text short, ne, refl), refl, refl)
not_header Dialer names input text e short h ne =
    ([], message text, record { answered = record { parts = e; refusals = h.0 }; left = h.1 }, inr (text, reads text short, ne, refl), refl, refl)

-- ---- which way a verdict went

abbrev Judged : Type 0
Judged = Result Verdict SelectFault

err : SelectFault → Judged
err fault = Err fault

some : List ℕ → Option (List ℕ)
some text = Some text

ok : Verdict → Judged
ok v = Ok v

no_ok : (v : Verdict) (fault : SelectFault) → ok v ≡ Err fault → ⊥
unfolding ok
no_ok v fault e = absurd cc

no_err : (v : Verdict) (fault : SelectFault) → Err fault ≡ ok v → ⊥
unfolding ok
no_err v fault e = absurd cc

verdict_is : (v w : Verdict) → ok v ≡ ok w → v ≡ w
unfolding ok
verdict_is v w e = cc

err_is : (f g : SelectFault) → err f ≡ err g → f ≡ g
unfolding err
err_is f g e = cc

none_is : (f : List ℕ) → None ≡ Some f → ⊥
none_is f e = absurd cc

some_is : (f g : List ℕ) → some f ≡ some g → f ≡ g
unfolding some
some_is f g e = cc

not_agreed : (index : ℕ) → Agreed index ≡ Going → ⊥
not_agreed index e = absurd cc

not_none_left : NoneLeft ≡ Going → ⊥
not_none_left e = absurd cc

answer_is : (v w : Verdict) → v ≡ w → v.0 ≡ w.0
answer_is v w e = ap (λ (x : Verdict). x.0) e

reply_is : (v w : Verdict) → v ≡ w → v.1 ≡ w.1
reply_is v w e = ap (λ (x : Verdict). x.1) e

standing_case : (names : List (List ℕ)) (count : ℕ) (text : List ℕ) (b : Bool) → is_standing names count text ≡ b → (o : Option (List ℕ)) → slice_get names count ≡ o
    → ((b ≡ true) × (slice_get names count ≡ Some text)) ⊎ ((b ≡ false) × (slice_get names count ≢ Some text))
standing_case names count text true e None o = let no : is_standing names count text ≡ false = rw o refl in let bad : true ≡ false = sym e ∙ no in absurd cc
standing_case names count text false e None o = inr (refl, λ is. let bad : None ≡ Some text = sym o ∙ is in absurd cc)
standing_case names count text true e (Some name) o =
    let here : is_standing names count text ≡ bytes_eq text name = rw o refl in
    inl (refl, o ∙ ap (λ (t : List ℕ). Some t) (sym (same text name (sym here ∙ e))))
standing_case names count text false e (Some name) o =
    let here : is_standing names count text ≡ bytes_eq text name = rw o refl in
    let ne : text ≢ name = other text name (sym here ∙ e) in
    inr (refl, λ is. let both : Some name ≡ Some text = sym o ∙ is in ne (sym cc))

-- of a first text
header_case : (text : List ℕ) (r : Judged) → cond (bytes_eq text header) (Ok (Going, None)) (Err BadHeader) ≡ r
    → ((text ≡ header) × (Ok (Going, None) ≡ r)) ⊎ ((text ≢ header) × (Err BadHeader ≡ r))
header_case text r v = elim (chosen {A = Judged} (bytes_eq text header) (Ok (Going, None)) (Err BadHeader) r v) [
  | inl hit ↦ inl (same text header hit.0, hit.1)
  | inr miss ↦ inr (other text header miss.0, miss.1)
]

-- of a reply
reply_case : (names : List (List ℕ)) (count : ℕ) (text : List ℕ) (r : Judged) → on_reply names count text ≡ r
    → ((text ≡ na) × (Ok (on_refusal names (count + 1)) ≡ r)) ⊎ ((text ≢ na) × (slice_get names count ≡ Some text) × (Ok (Agreed count, None) ≡ r))
    ⊎ ((text ≢ na) × (slice_get names count ≢ Some text) × (Err NotProposed ≡ r))
reply_case names count text r v = elim (chosen {A = Judged} (bytes_eq text na) (Ok (on_refusal names (count + 1))) (cond (is_standing names count text) (Ok (Agreed count, None)) (Err NotProposed)) r v) [
  | inl hit ↦ inl (same text na hit.0, hit.1)
  | inr miss ↦
      let ne = other text na miss.0 in
      elim (standing_case names count text (is_standing names count text) refl (slice_get names count) refl) [
        | inl stands ↦ inr (inl (ne, stands.1, sym (rw stands.0 refl) ∙ miss.1))
        | inr differs ↦ inr (inr (ne, differs.1, sym (rw differs.0 refl) ∙ miss.1))
      ]
]

refusal_case : (names : List (List ℕ)) (next : ℕ) (v : Verdict) → on_refusal names next ≡ v
    → ((next ≡ length names) × ((NoneLeft, None) ≡ v)) ⊎ ((next ≢ length names) × ((Going, slice_get names next) ≡ v))
refusal_case names next v e = elim (chosen {A = Verdict} (nat_eq next (length names)) (NoneLeft, None) (Going, slice_get names next) v e) [
  | inl hit ↦ inl (eqb-true next (length names) hit.0, hit.1)
  | inr miss ↦ inr (eqb-false next (length names) miss.0, miss.1)
]

choice_case : (names : List (List ℕ)) (text : List ℕ) (o : Option ℕ) (v : Verdict) → choice names text ≡ o → on_choice (choice names text) text ≡ v
    → ((index : ℕ) × (choice names text ≡ Some index) × ((Agreed index, Some text) ≡ v)) ⊎ ((choice names text ≡ None) × ((Going, Some na) ≡ v))
choice_case names text None v c e = inr (c, sym (rw c refl) ∙ e)
choice_case names text (Some index) v c e = inl (index, c, sym (rw c refl) ∙ e)

-- ---- a text that is refused

pub faulty : (role : Role) (names texts : List (List ℕ)) (input text : List ℕ) (fault : SelectFault) → input ≡ spelled texts ++ message text → IsShort text
    → IsHeard role names texts → verdict_of role (is_begun texts) names (count_of role texts) text ≡ Err fault
    → (fault ≢ OutOfMemory) × Comes role names input (Err fault) (length input) (written role names texts)
unfolding ok err
faulty role names [] input text fault e short h v = elim (header_case text (Err fault) v) [
  | inl hit ↦ absurd (no_ok (Going, None) fault hit.1)
  | inr miss ↦
      subst (λ (f : SelectFault). (f ≢ OutOfMemory) × Comes role names input (Err f) (length input) (written role names [])) (err_is BadHeader fault miss.1)
      ((λ m. cc), not_header role names input text e short h miss.0)
]
faulty Listener names (first ∷ texts) input text fault e short h v = absurd (no_ok (on_choice (choice names text) text) fault v)
faulty Dialer names (first ∷ texts) input text fault e short h v = elim (reply_case names (length texts) text (Err fault) v) [
  | inl hit ↦ absurd (no_ok (on_refusal names (length texts + 1)) fault hit.1)
  | inr (inl hit) ↦ absurd (no_ok (Agreed (length texts), None) fault hit.2)
  | inr (inr miss) ↦
      let here : Comes Dialer names input (Err NotProposed) (length input) (written Dialer names (first ∷ texts)) =
      (first ∷ texts, message text, record { answered = record { parts = e; refusals = h.0 }; left = h.1 }, inr (text, reads text short, miss.0, miss.1, refl), refl, refl) in
      subst (λ (f : SelectFault). (f ≢ OutOfMemory) × Comes Dialer names input (Err f) (length input) (written Dialer names (first ∷ texts))) (err_is NotProposed fault miss.2)
      ((λ m. cc), here)
]

-- ---- a text that decides nothing

pub record GoesOn (role : Role) (names texts : List (List ℕ)) (text : List ℕ) (reply : Option (List ℕ)) : Type 0 where
  pub heard : IsHeard role names (texts ++ text ∷ [])
  pub written : written role names (texts ++ text ∷ []) ≡ written role names texts ++ said reply
  pub count : count_of role (texts ++ text ∷ []) ≡ next_count role (is_begun texts) (count_of role texts)

first_heard : (role : Role) (names : List (List ℕ)) (text : List ℕ) → IsShort text → text ≡ header → IsHeard role names [] → GoesOn role names [] text None
first_heard Listener names text short is h = record {
  heard = (All-cons IsShort text [] short (All-nil IsShort), (is, All-nil (λ t. choice names t ≡ None)));
  written = sym (append-nil (refusals []));
  count = refl;
}
first_heard Dialer names text short is h = record {
  heard = ((is, All-nil (λ t. t ≡ na)), h.1);
  written = sym (append-nil (proposals names 0));
  count = refl;
}

next_name : (names : List (List ℕ)) (next : ℕ) → next < length names → said (slice_get names next) ≡ message (get_or names next [])
next_name names next lt = ap said (slice_get-get_or names next [] lt)

next_asked : (names texts : List (List ℕ)) (first text : List ℕ) → IsHeard Dialer names (first ∷ texts) → text ≡ na → length texts + 1 ≢ length names
    → GoesOn Dialer names (first ∷ texts) text (slice_get names (length texts + 1))
next_asked names texts first text h is ne =
    let count : length (texts ++ text ∷ []) ≡ length texts + 1 = length-append texts (text ∷ []) in
    let below : length texts + 1 < length names = omega (arith, h.1, ne) in
    record {
      heard = ((h.0.0, All-push (λ t. t ≡ na) texts text h.0.1 is), omega (arith, count, below));
      written = ap (proposals names) count ∙ proposals_more names (length texts) below ∙ ap (λ (b : List ℕ). proposals names (length texts) ++ b) (sym (next_name names (length texts + 1) below));
      count = count;
    }

pub going_on : (role : Role) (names texts : List (List ℕ)) (text : List ℕ) (reply : Option (List ℕ)) → IsShort text → IsHeard role names texts
    → verdict_of role (is_begun texts) names (count_of role texts) text ≡ Ok (Going, reply) → GoesOn role names texts text reply
unfolding ok err
going_on role names [] text reply short h v = elim (header_case text (Ok (Going, reply)) v) [
  | inl hit ↦
      let is : None ≡ reply = reply_is (Going, None) (Going, reply) (verdict_is (Going, None) (Going, reply) hit.1) in
      subst (λ (r : Option (List ℕ)). GoesOn role names [] text r) is (first_heard role names text short hit.0 h)
  | inr miss ↦ absurd (no_err (Going, reply) BadHeader miss.1)
]
going_on Listener names (first ∷ texts) text reply short h v =
    let judged = verdict_is (on_choice (choice names text) text) (Going, reply) v in
    elim (choice_case names text (choice names text) (Going, reply) refl judged) [
      | inl hit ↦ absurd (not_agreed hit.0 (answer_is (Agreed hit.0, Some text) (Going, reply) hit.2))
      | inr miss ↦
          let is : Some na ≡ reply = reply_is (Going, Some na) (Going, reply) miss.1 in
          subst (λ (r : Option (List ℕ)). GoesOn Listener names (first ∷ texts) text r) is (record {
            heard = (All-push IsShort (first ∷ texts) text h.0 short, (h.1.0, All-push (λ t. choice names t ≡ None) texts text h.1.1 miss.0));
            written = refusals_more first texts text;
            count = refl;
          })
    ]
going_on Dialer names (first ∷ texts) text reply short h v = elim (reply_case names (length texts) text (Ok (Going, reply)) v) [
  | inr (inl hit) ↦ absurd (not_agreed (length texts) (answer_is (Agreed (length texts), None) (Going, reply) (verdict_is (Agreed (length texts), None) (Going, reply) hit.2)))
  | inr (inr miss) ↦ absurd (no_err (Going, reply) NotProposed miss.2)
  | inl hit ↦
      let judged = verdict_is (on_refusal names (length texts + 1)) (Going, reply) hit.1 in
      elim (refusal_case names (length texts + 1) (Going, reply) judged) [
        | inl last ↦ absurd (not_none_left (answer_is (NoneLeft, None) (Going, reply) last.1))
        | inr left ↦
            subst (λ (r : Option (List ℕ)). GoesOn Dialer names (first ∷ texts) text r) (reply_is (Going, slice_get names (length texts + 1)) (Going, reply) left.1)
            (next_asked names texts first text h hit.0 left.0)
      ]
]

-- ---- a text that decides

echoed : (names texts : List (List ℕ)) (input first text : List ℕ) (index : ℕ) → input ≡ spelled (first ∷ texts) ++ message text → IsShort text
    → IsHeard Listener names (first ∷ texts) → choice names text ≡ Some index
    → Comes Listener names input (Ok (Agreed index)) (length input) (refusals (first ∷ texts) ++ message text)
echoed names texts input first text index e short h c =
    let is : first ≡ header = h.1.0 in
    let parts : input ≡ spelled (header ∷ texts) ++ message text = subst (λ (f : List ℕ). input ≡ spelled (f ∷ texts) ++ message text) is e in
    let shorts : All IsShort (header ∷ texts) = subst (λ (f : List ℕ). All IsShort (f ∷ texts)) is h.0 in
    (texts, text, [], record { parts = behind input (spelled (header ∷ texts)) text parts; short = shorts; undecided = (refl, h.1.1) }, record { short = short; chosen = c }, all input, refl)

came_back : (names texts : List (List ℕ)) (input first text : List ℕ) → input ≡ spelled (first ∷ texts) ++ message text → IsShort text
    → IsHeard Dialer names (first ∷ texts) → text ≢ na → slice_get names (length texts) ≡ Some text
    → Comes Dialer names input (Ok (Agreed (length texts))) (length input) (proposals names (length texts) ++ [])
came_back names texts input first text e short h ne name =
    let is : first ≡ header = h.0.0 in
    let parts : input ≡ spelled (header ∷ texts) ++ message text = subst (λ (f : List ℕ). input ≡ spelled (f ∷ texts) ++ message text) is e in
    (texts, text, [], record { parts = behind input (spelled (header ∷ texts)) text parts; refusals = (refl, h.0.1) }, record { short = short; place = refl; proposed = name; other = ne }, all input, append-nil (proposals names (length texts)))

none_left : (names texts : List (List ℕ)) (input first text : List ℕ) → input ≡ spelled (first ∷ texts) ++ message text
    → IsHeard Dialer names (first ∷ texts) → text ≡ na → length texts + 1 ≡ length names
    → Comes Dialer names input (Ok NoneLeft) (length input) (proposals names (length texts) ++ [])
none_left names texts input first text e h is last =
    let parts : input ≡ spelled ((first ∷ texts) ++ text ∷ []) ++ [] = e ∙ sym (spelled_more (first ∷ texts) text) ∙ sym (append-nil (spelled ((first ∷ texts) ++ text ∷ []))) in (
      (first ∷ texts) ++ text ∷ [],
      [],
      record { parts = parts; refusals = (h.0.0, All-push (λ t. t ≡ na) texts text h.0.1 is) },
      record { all = length-append texts (text ∷ []) ∙ last; none = λ none. absurd (omega (arith, last, ap length none)) },
      all input,
      append-nil (proposals names (length texts)) ∙ sym (proposals_all names (length texts) last),
    )

pub decided : (role : Role) (names texts : List (List ℕ)) (input text : List ℕ) (answer : Answer) (reply : Option (List ℕ)) → answer ≢ Going
    → input ≡ spelled texts ++ message text → IsShort text → IsHeard role names texts
    → verdict_of role (is_begun texts) names (count_of role texts) text ≡ Ok (answer, reply)
    → Comes role names input (Ok answer) (length input) (written role names texts ++ said reply)
unfolding ok err
decided role names [] input text answer reply ne e short h v = elim (header_case text (Ok (answer, reply)) v) [
  | inl hit ↦ absurd (ne (sym (answer_is (Going, None) (answer, reply) (verdict_is (Going, None) (answer, reply) hit.1))))
  | inr miss ↦ absurd (no_err (answer, reply) BadHeader miss.1)
]
decided Listener names (first ∷ texts) input text answer reply ne e short h v =
    let judged = verdict_is (on_choice (choice names text) text) (answer, reply) v in
    elim (choice_case names text (choice names text) (answer, reply) refl judged) [
      | inr miss ↦ absurd (ne (sym (answer_is (Going, Some na) (answer, reply) miss.1)))
      | inl hit ↦ subst (λ (v : Verdict). Comes Listener names input (Ok v.0) (length input) (refusals (first ∷ texts) ++ said v.1)) hit.2 (echoed names texts input first text hit.0 e short h hit.1)
    ]
decided Dialer names (first ∷ texts) input text answer reply ne e short h v = elim (reply_case names (length texts) text (Ok (answer, reply)) v) [
  | inr (inr miss) ↦ absurd (no_err (answer, reply) NotProposed miss.2)
  | inr (inl hit) ↦
      subst (λ (v : Verdict). Comes Dialer names input (Ok v.0) (length input) (proposals names (length texts) ++ said v.1)) (verdict_is (Agreed (length texts), None) (answer, reply) hit.2)
      (came_back names texts input first text e short h hit.0 hit.1)
  | inl hit ↦
      let judged = verdict_is (on_refusal names (length texts + 1)) (answer, reply) hit.1 in
      elim (refusal_case names (length texts + 1) (answer, reply) judged) [
        | inr left ↦ absurd (ne (sym (answer_is (Going, slice_get names (length texts + 1)) (answer, reply) left.1)))
        | inl last ↦ subst (λ (v : Verdict). Comes Dialer names input (Ok v.0) (length input) (proposals names (length texts) ++ said v.1)) last.1 (none_left names texts input first text e h hit.0 last.0)
      ]
]

-- ---- room

short_na : IsShort na
short_na = lit< tt

short_name : (names : List (List ℕ)) (k : ℕ) (name : List ℕ) → All IsShort names → slice_get names k ≡ Some name → IsShort name
short_name names k name h e =
    let lt = slice_get_within names k name e in
    subst IsShort (get_or_from_slice_get names k name [] e) (All-get_or IsShort names k [] lt h)

-- a reply can be spelt
pub reply_short : (role : Role) (begun : Bool) (names : List (List ℕ)) (count : ℕ) (text : List ℕ) (answer : Answer) (reply : List ℕ) → All IsShort names → IsShort text
    → verdict_of role begun names count text ≡ Ok (answer, Some reply) → IsShort reply
unfolding ok err some
reply_short role false names count text answer reply names-short short v = elim (header_case text (Ok (answer, Some reply)) v) [
  | inl hit ↦ absurd (none_is reply (reply_is (Going, None) (answer, Some reply) (verdict_is (Going, None) (answer, Some reply) hit.1)))
  | inr miss ↦ absurd (no_err (answer, Some reply) BadHeader miss.1)
]
reply_short Listener true names count text answer reply names-short short v =
    let judged = verdict_is (on_choice (choice names text) text) (answer, Some reply) v in
    elim (choice_case names text (choice names text) (answer, Some reply) refl judged) [
      | inr miss ↦ subst IsShort (some_is na reply (reply_is (Going, Some na) (answer, Some reply) miss.1)) short_na
      | inl hit ↦ subst IsShort (some_is text reply (reply_is (Agreed hit.0, Some text) (answer, Some reply) hit.2)) short
    ]
reply_short Dialer true names count text answer reply names-short short v = elim (reply_case names count text (Ok (answer, Some reply)) v) [
  | inr (inr miss) ↦ absurd (no_err (answer, Some reply) NotProposed miss.2)
  | inr (inl hit) ↦ absurd (none_is reply (reply_is (Agreed count, None) (answer, Some reply) (verdict_is (Agreed count, None) (answer, Some reply) hit.2)))
  | inl hit ↦
      let judged = verdict_is (on_refusal names (count + 1)) (answer, Some reply) hit.1 in
      elim (refusal_case names (count + 1) (answer, Some reply) judged) [
        | inl last ↦ absurd (none_is reply (reply_is (NoneLeft, None) (answer, Some reply) last.1))
        | inr left ↦ short_name names (count + 1) reply names-short (reply_is (Going, slice_get names (count + 1)) (answer, Some reply) left.1)
      ]
]

na_fits : (text : List ℕ) → length (message na) ≤ length text + 1 + 4
na_fits text = omega (arith, ap length na_is)

echo_fits : (text : List ℕ) → IsShort text → length (message text) ≤ length text + 1 + 4
echo_fits text short = omega (arith, message_length text short)

next_fits : (names : List (List ℕ)) (count len : ℕ) (reply : List ℕ) → IsShort reply → slice_get names (count + 1) ≡ Some reply → length (message reply) ≤ answer_room Dialer names count len
next_fits names count len reply short e = rw e (message_length reply short)

-- and the room that was reserved for it suffices
pub reply_fits : (role : Role) (begun : Bool) (names : List (List ℕ)) (count : ℕ) (text : List ℕ) (answer : Answer) (reply : Option (List ℕ)) → All IsShort names → IsShort text
    → verdict_of role begun names count text ≡ Ok (answer, reply) → length (said reply) ≤ answer_room role names count (length text + 1)
unfolding ok err some
reply_fits role begun names count text answer None names-short short v = omega arith
reply_fits role false names count text answer (Some reply) names-short short v = elim (header_case text (Ok (answer, Some reply)) v) [
  | inl hit ↦ absurd (none_is reply (reply_is (Going, None) (answer, Some reply) (verdict_is (Going, None) (answer, Some reply) hit.1)))
  | inr miss ↦ absurd (no_err (answer, Some reply) BadHeader miss.1)
]
reply_fits Listener true names count text answer (Some reply) names-short short v =
    let judged = verdict_is (on_choice (choice names text) text) (answer, Some reply) v in
    elim (choice_case names text (choice names text) (answer, Some reply) refl judged) [
      | inr miss ↦ subst (λ (r : List ℕ). length (message r) ≤ length text + 1 + 4) (some_is na reply (reply_is (Going, Some na) (answer, Some reply) miss.1)) (na_fits text)
      | inl hit ↦ subst (λ (r : List ℕ). length (message r) ≤ length text + 1 + 4) (some_is text reply (reply_is (Agreed hit.0, Some text) (answer, Some reply) hit.2)) (echo_fits text short)
    ]
reply_fits Dialer true names count text answer (Some reply) names-short short v = elim (reply_case names count text (Ok (answer, Some reply)) v) [
  | inr (inr miss) ↦ absurd (no_err (answer, Some reply) NotProposed miss.2)
  | inr (inl hit) ↦ absurd (none_is reply (reply_is (Agreed count, None) (answer, Some reply) (verdict_is (Agreed count, None) (answer, Some reply) hit.2)))
  | inl hit ↦
      let judged = verdict_is (on_refusal names (count + 1)) (answer, Some reply) hit.1 in
      elim (refusal_case names (count + 1) (answer, Some reply) judged) [
        | inl last ↦ absurd (none_is reply (reply_is (NoneLeft, None) (answer, Some reply) last.1))
        | inr left ↦
            let is = reply_is (Going, slice_get names (count + 1)) (answer, Some reply) left.1 in
            next_fits names count (length text + 1) reply (reply_short Dialer true names count text answer reply names-short short v) is
      ]
]
