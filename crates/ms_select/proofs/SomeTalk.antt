-- Each input of bytes comes to something, on both sides of a talk.
use Rattle.std.proofs.Common.{◌≡◌, ℕ, zero, suc, ◌+◌, ◌-◌, ◌<◌, Bool, true, false, List, [], ◌∷◌, ◌++◌, length, get_or, Option, Some, None, Result, Ok, Err, refl, ap, sym, subst, ◌∙◌, ◌⊎◌, inl, inr, append_assoc, arith}
use Rattle.std.specs.Prelude.{slice_get}
use Rattle.std.specs.Str.{bytes_eq}
use Rattle.std.proofs.lemmas.Bool.{cases_lt}
use Rattle.std.proofs.lemmas.List.{length-append}
use Rattle.std.proofs.lemmas.List.Elements.{All-nil, All-cons, All-push}
use Rattle.std.proofs.lemmas.Option.{slice_get-get_or}
use Rattle.std.proofs.lemmas.Slice.Eq.{bytes_eq-Decides}
use Rattle.varint_proto.specs.Varint.{shortest}
use Rattle.ms_select.specs.declared.fault.SelectFault.{SelectFault}
use Rattle.ms_select.specs.declared.fault.SelectFault.TheVariants.{BadHeader, NotProposed}
use Rattle.ms_select.specs.declared.answer.Answer.{Answer}
use Rattle.ms_select.specs.declared.answer.Answer.TheVariants.{Going, Agreed, NoneLeft}
use Rattle.ms_select.specs.Messages.{header, na, message, spelled, IsShort, ReadsMessage}
use Rattle.ms_select.specs.Listening.{choice, Heard, refusals, Listens, SomeListener}
use Rattle.ms_select.specs.Dialing.{Answered, refused, proposals, Dials, SomeDialer}
use Rattle.ms_select.proofs.Reading.{Read, IsBytes, some_message}
use Rattle.ms_select.proofs.Texts.{spelled_more, undecided_more, refusals_push, refused_push}
use Rattle.ms_select.proofs.Judging.{any_refused, any_not_answer}

-- what stands behind a message
behind_message : (text rest : List ℕ) → length rest < length (message text ++ rest)
unfolding message
behind_message text rest =
    omega (arith, length-append (shortest (length text + 1) ++ (text ++ 10 ∷ [])) rest, length-append (shortest (length text + 1)) (text ++ 10 ∷ []), length-append text (10 ∷ []))

bytes_behind : (front rest : List ℕ) → IsBytes (front ++ rest) → IsBytes rest
bytes_behind [] rest fits = fits
bytes_behind (b ∷ front) rest fits = bytes_behind front rest (λ i. fits (suc i))

decide : (a b : List ℕ) → (a ≡ b) ⊎ (a ≡ b → ⊥)
decide a b = by_test (bytes_eq a b) refl
  where
    by_test : (t : Bool) → bytes_eq a b ≡ t → (a ≡ b) ⊎ (a ≡ b → ⊥)
    by_test true e = inl ((bytes_eq-Decides a b).0 e)
    by_test false e = inr (λ is. let bad : true ≡ false = sym ((bytes_eq-Decides a b).1 is) ∙ e in absurd cc)

-- ---- the listener

Outcome : List (List ℕ) → List ℕ → Type 0
Outcome names input = (standing : Result Answer SelectFault) × (used : ℕ) × (output : List ℕ) × Listens names input standing used output

heard_more : (names : List (List ℕ)) (input : List ℕ) (texts : List (List ℕ)) (rest text after : List ℕ) → Heard names input texts rest → rest ≡ message text ++ after → input ≡ spelled (texts ++ text ∷ []) ++ after
heard_more names input texts rest text after h e = h.parts ∙ ap (λ (x : List ℕ). spelled texts ++ x) e ∙ sym (append_assoc (spelled texts) (message text) after) ∙ ap (λ (x : List ℕ). x ++ after) (sym (spelled_more texts text))

agreed_here : (names : List (List ℕ)) (input : List ℕ) (first : List ℕ) (texts : List (List ℕ)) (rest text after : List ℕ) (index : ℕ) → Heard names input (first ∷ texts) rest → rest ≡ message text ++ after → IsShort text → choice names text ≡ Some index → Outcome names input
unfolding Outcome
agreed_here names input first texts rest text after index h e short some =
    let first-is : first ≡ header = h.undecided.0 in
    let heard : Heard names input (header ∷ texts) (message text ++ after) = subst (λ (x : List ℕ). Heard names input (header ∷ texts) x) e (subst (λ (x : List ℕ). Heard names input (x ∷ texts) rest) first-is h) in
    let size : length input ≡ length (spelled (header ∷ texts)) + length (message text ++ after) = ap length heard.parts ∙ length-append (spelled (header ∷ texts)) (message text ++ after) in
    let less = behind_message text after in
    (Ok (Agreed index), length input - length after, refusals (header ∷ texts) ++ message text, (texts, text, after, heard, record { short = short; chosen = some }, omega (arith, size, less), refl))

-- what the next text comes to, where the rest of the talk comes to something
heard_next : (names : List (List ℕ)) (input : List ℕ) (texts : List (List ℕ)) (rest text after : List ℕ) → Heard names input texts rest → rest ≡ message text ++ after → IsShort text → ((more : List (List ℕ)) → Heard names input more after → Outcome names input) → Outcome names input
unfolding Outcome
heard_next names input [] rest text after h e short on = elim (decide text header) [
  | inl is ↦ on (text ∷ []) (record { parts = heard_more names input [] rest text after h e; short = All-cons IsShort text [] short (All-nil IsShort); undecided = (is, All-nil (λ t. choice names t ≡ None)) })
  | inr other ↦ (Err BadHeader, length input, refusals [], ([], rest, h, inr (text, (after, record { parts = e; short = short }), other, refl), refl, refl))
]
heard_next names input (first ∷ texts) rest text after h e short on = by_choice (choice names text) refl
  where
    by_choice : (o : Option ℕ) → choice names text ≡ o → Outcome names input
    by_choice None none = on (first ∷ (texts ++ text ∷ [])) (record { parts = heard_more names input (first ∷ texts) rest text after h e; short = All-push IsShort (first ∷ texts) text h.short short; undecided = undecided_more names (first ∷ texts) text refl h.undecided none })
    by_choice (Some index) some = agreed_here names input first texts rest text after index h e short some

heard_by : (names : List (List ℕ)) (input : List ℕ) (texts : List (List ℕ)) (rest : List ℕ) → IsBytes rest → Heard names input texts rest → (r : Read) → ReadsMessage rest r
    → ((more : List (List ℕ)) (after : List ℕ) → length after < length rest → IsBytes after → Heard names input more after → Outcome names input) → Outcome names input
unfolding Outcome
heard_by names input texts rest fits h (Ok None) reads on = (Ok Going, length input, refusals texts, (texts, rest, h, reads, refl, refl))
heard_by names input texts rest fits h (Err fault) reads on = (Err fault, length input, refusals texts, (texts, rest, h, any_refused texts rest fault reads, refl, refl))
heard_by names input texts rest fits h (Ok (Some text)) reads on =
    let e : rest ≡ message text ++ reads.0 = reads.1.parts in
    let less : length reads.0 < length rest = omega (arith, behind_message text reads.0, ap length e) in
    heard_next names input texts rest text reads.0 h e reads.1.short (λ more. on more reads.0 less (bytes_behind (message text) reads.0 (subst IsBytes e fits)))

heard_on : (n : ℕ) (names : List (List ℕ)) (input : List ℕ) (texts : List (List ℕ)) (rest : List ℕ) → length rest < n → IsBytes rest → Heard names input texts rest → Outcome names input
heard_on zero names input texts rest lt fits h = absurd (omega (arith, lt))
heard_on (suc n) names input texts rest lt fits h =
    let read = some_message rest fits in
    heard_by names input texts rest fits h read.0 read.1 (λ more after less within told. heard_on n names input more after (omega (arith, lt, less)) within told)

pub some_listener : SomeListener
unfolding Outcome
some_listener names input fits = heard_on (length input + 1) names input [] input (omega arith) fits (record { parts = refl; short = All-nil IsShort; undecided = tt })

-- ---- the dialer

Dialed : List (List ℕ) → List ℕ → Type 0
Dialed names input = (standing : Result Answer SelectFault) × (used : ℕ) × (output : List ℕ) × Dials names input standing used output

answered_more : (input : List ℕ) (texts : List (List ℕ)) (rest text after : List ℕ) → Answered input texts rest → rest ≡ message text ++ after → input ≡ spelled (texts ++ text ∷ []) ++ after
answered_more input texts rest text after h e = h.parts ∙ ap (λ (x : List ℕ). spelled texts ++ x) e ∙ sym (append_assoc (spelled texts) (message text) after) ∙ ap (λ (x : List ℕ). x ++ after) (sym (spelled_more texts text))

-- a refusal comes
refused_on : (names : List (List ℕ)) (input first : List ℕ) (answers : List (List ℕ)) (rest after : List ℕ) → Answered input (first ∷ answers) rest → length answers < length names → rest ≡ message na ++ after
    → ((more : List (List ℕ)) → Answered input more after → refused more < length names → Dialed names input) → Dialed names input
unfolding Dialed
refused_on names input first answers rest after h lt e on =
    let texts : List (List ℕ) = first ∷ answers in
    let parts : input ≡ spelled (texts ++ na ∷ []) ++ after = answered_more input texts rest na after h e in
    let next : Answered input (texts ++ na ∷ []) after = record { parts = parts; refusals = refusals_push texts refl h.refusals } in
    let count : refused (texts ++ na ∷ []) ≡ length answers + 1 = refused_push texts refl in
    let size : length input ≡ length (spelled (texts ++ na ∷ [])) + length after = ap length parts ∙ length-append (spelled (texts ++ na ∷ [])) after in
    elim (cases_lt (length answers + 1) (length names)) [
      | inl left ↦ on (texts ++ na ∷ []) next (omega (arith, count, left))
      | inr last ↦ (Ok NoneLeft, length input - length after, proposals names (length names), (texts ++ na ∷ [], after, next, record { all = omega (arith, count, last, lt); none = λ none. absurd (omega (arith, lt, ap length none)) }, omega (arith, size), refl))
    ]

-- the standing proposal, or another text
answer_here : (names : List (List ℕ)) (input first : List ℕ) (answers : List (List ℕ)) (rest text after : List ℕ) → Answered input (first ∷ answers) rest → length answers < length names → rest ≡ message text ++ after → IsShort text → (text ≡ na → ⊥)
    → (name : List ℕ) → slice_get names (length answers) ≡ Some name → Dialed names input
unfolding Dialed
answer_here names input first answers rest text after h lt e short other name at = elim (decide name text) [
  | inl same ↦
      let heard : Answered input (header ∷ answers) (message text ++ after) = subst (λ (x : List ℕ). Answered input (header ∷ answers) x) e (subst (λ (x : List ℕ). Answered input (x ∷ answers) rest) h.refusals.0 h) in
      let size : length input ≡ length (spelled (header ∷ answers)) + length (message text ++ after) = ap length heard.parts ∙ length-append (spelled (header ∷ answers)) (message text ++ after) in
      let less = behind_message text after in
      (Ok (Agreed (length answers)), length input - length after, proposals names (length answers), (answers, text, after, heard, record { short = short; place = refl; proposed = at ∙ ap Some same; other = other }, omega (arith, size, less), refl))
  | inr differs ↦
      let wrong : slice_get names (length answers) ≡ Some text → ⊥ = λ is. differs (cc (at, is)) in
      (Err NotProposed, length input, proposals names (length answers), (first ∷ answers, rest, record { answered = h; left = lt }, inr (text, (after, record { parts = e; short = short }), other, wrong, refl), refl, refl))
]

name_below : (names : List (List ℕ)) (index : ℕ) → index < length names → (name : List ℕ) × (slice_get names index ≡ Some name)
name_below names index lt = (get_or names index [], slice_get-get_or names index [] lt)

answered_next : (names : List (List ℕ)) (input : List ℕ) (texts : List (List ℕ)) (rest text after : List ℕ) → Answered input texts rest → refused texts < length names → rest ≡ message text ++ after → IsShort text
    → ((more : List (List ℕ)) → Answered input more after → refused more < length names → Dialed names input) → Dialed names input
unfolding Dialed
answered_next names input [] rest text after h lt e short on = elim (decide text header) [
  | inl is ↦ on (text ∷ []) (record { parts = answered_more input [] rest text after h e; refusals = (is, All-nil (λ t. t ≡ na)) }) lt
  | inr other ↦ (Err BadHeader, length input, proposals names 0, ([], rest, record { answered = h; left = lt }, inr (text, (after, record { parts = e; short = short }), other, refl), refl, refl))
]
answered_next names input (first ∷ answers) rest text after h lt e short on = elim (decide text na) [
  | inl is ↦ refused_on names input first answers rest after h lt (e ∙ ap (λ (x : List ℕ). message x ++ after) is) on
  | inr other ↦
      let named = name_below names (length answers) lt in
      answer_here names input first answers rest text after h lt e short other named.0 named.1
]

answered_by : (names : List (List ℕ)) (input : List ℕ) (texts : List (List ℕ)) (rest : List ℕ) → IsBytes rest → Answered input texts rest → refused texts < length names → (r : Read) → ReadsMessage rest r
    → ((more : List (List ℕ)) (after : List ℕ) → length after < length rest → IsBytes after → Answered input more after → refused more < length names → Dialed names input) → Dialed names input
unfolding Dialed
answered_by names input texts rest fits h lt (Ok None) reads on = (Ok Going, length input, proposals names (refused texts), (texts, rest, record { answered = h; left = lt }, reads, refl, refl))
answered_by names input texts rest fits h lt (Err fault) reads on = (Err fault, length input, proposals names (refused texts), (texts, rest, record { answered = h; left = lt }, any_not_answer names texts rest fault reads, refl, refl))
answered_by names input texts rest fits h lt (Ok (Some text)) reads on =
    let e : rest ≡ message text ++ reads.0 = reads.1.parts in
    let less : length reads.0 < length rest = omega (arith, behind_message text reads.0, ap length e) in
    answered_next names input texts rest text reads.0 h lt e reads.1.short (λ more. on more reads.0 less (bytes_behind (message text) reads.0 (subst IsBytes e fits)))

answered_on : (n : ℕ) (names : List (List ℕ)) (input : List ℕ) (texts : List (List ℕ)) (rest : List ℕ) → length rest < n → IsBytes rest → Answered input texts rest → refused texts < length names → Dialed names input
answered_on zero names input texts rest short fits h lt = absurd (omega (arith, short))
answered_on (suc n) names input texts rest short fits h lt =
    let read = some_message rest fits in
    answered_by names input texts rest fits h lt read.0 read.1 (λ more after less within told below. answered_on n names input more after (omega (arith, short, less)) within told below)

pub some_dialer : SomeDialer
unfolding Dialed
some_dialer [] input fits = (Ok NoneLeft, 0, [], ([], input, record { parts = refl; refusals = tt }, record { all = refl; none = λ none. refl }, omega arith, refl))
some_dialer (name ∷ names) input fits = answered_on (length input + 1) (name ∷ names) input [] input (omega arith) fits (record { parts = refl; refusals = tt }) (omega arith)
