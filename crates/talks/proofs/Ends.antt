-- Two ends of one talk.
use Rattle.std.proofs.Common.{◌≡◌, ◌≢◌, ℕ, ◌+◌, List, [], ◌∷◌, ◌++◌, length, Option, Some, None, Ok, refl, sym, ap, ◌∙◌, subst, inl, inr, arith, lit<}
use Rattle.std.specs.List.{All}
use Rattle.std.proofs.lemmas.List.{append-nil}
use Rattle.std.proofs.lemmas.List.Elements.{All-nil, All-cons}
use Rattle.ms_select.specs.declared.answer.Answer.TheVariants.{Agreed}
use Rattle.ms_select.specs.Messages.{header, na, message, spelled, IsShort, ReadsMessage}
use Rattle.ms_select.specs.Listening.{choice}
use Rattle.ms_select.specs.Joined.{Joined as JoinedNegotiations}
use Rattle.ms_select.proofs.Readings.{one_name_of}
use Rattle.talks.specs.Talks.{Asks, Answers}
use Rattle.talks.specs.Laws.{OneName, BothAgree, NoneAgrees}
use Rattle.talks.proofs.Outcomes.{whole}

-- ---- one name

abbrev some_name : List ℕ → Option (List ℕ)
some_name name = Some name

same_name : (a b : List ℕ) → some_name a ≡ some_name b → a ≡ b
same_name a b e = cc

pub one_name : OneName
one_name name index names to_asking to_answering i j joined =
    let a = joined.asks in
    let b = joined.answers in
    let both : JoinedNegotiations (name ∷ []) names to_asking to_answering (Ok (Agreed 0)) (Ok (Agreed j)) = record {
      from_dialer = joined.from_asking;
      from_listener = joined.from_answering;
      calls = record {
        used = length a.first;
        talk = a.talk;
        more = a.more;
        dials = whole (Asks name index) to_asking a.first (Ok (Agreed i)) a.talk a.comes;
        written_is = a.written_is;
        silent = λ no. absurd (no (inr (0, refl)));
      };
      serves = record {
        used = length b.first;
        talk = b.talk;
        more = b.more;
        listens = whole (Answers names) to_answering b.first (Ok (Agreed j)) b.talk b.comes;
        written_is = b.written_is;
        silent = λ no. absurd (no (j, refl));
      };
      on_the_way = joined.on_the_way;
      delivered = joined.delivered;
      on_the_way_back = joined.on_the_way_back;
      delivered_back = joined.delivered_back;
    } in
    let named = one_name_of (name ∷ []) names to_asking to_answering 0 j both in
    let same : name ≡ named.0 = same_name name named.0 named.1 in
    (a.comes.talks.0, named.2 ∙ ap some_name (sym same))

-- ---- the whole talk of a name

no_na : (names : List (List ℕ)) (text : List ℕ) (place : ℕ) → choice names text ≡ Some place → text ≢ na
no_na names text place e is = let none : choice names na ≡ Some place = subst (λ (t : List ℕ). choice names t ≡ Some place) is e in absurd cc

no_refusal : All (λ text. text ≡ na) []
no_refusal = All-nil (λ text. text ≡ na)

one_refusal : All (λ text. text ≡ na) (na ∷ [])
one_refusal = All-cons (λ text. text ≡ na) na [] refl no_refusal

none_chosen : (names : List (List ℕ)) → All (λ text. choice names text ≡ None) []
none_chosen names = All-nil (λ text. choice names text ≡ None)

short_header : All IsShort (header ∷ [])
short_header = All-cons IsShort header [] (lit< tt) (All-nil IsShort)

nothing_more : (first : List ℕ) → length first + 0 ≡ length first
nothing_more first = omega arith

parts : (text : List ℕ) → spelled (header ∷ text ∷ []) ≡ spelled (header ∷ []) ++ (message text ++ [])
parts text = ap (λ (t : List ℕ). t ++ (message text ++ [])) (sym (append-nil (message header)))

echoed : (text : List ℕ) → spelled (header ∷ text ∷ []) ≡ spelled (header ∷ []) ++ message text
echoed text = parts text ∙ ap (λ (t : List ℕ). spelled (header ∷ []) ++ t) (append-nil (message text))

nothing_came : ReadsMessage [] (Ok None)
nothing_came = inl (tt, omega arith)

pub both_agree : BothAgree
both_agree name index names place known = (
  (
    refl,
    (
      [],
      name,
      [],
      record { parts = parts name; refusals = (refl, no_refusal) },
      record { short = known.short; place = refl; proposed = refl; other = no_na names name place known.chosen },
      nothing_more (spelled (header ∷ name ∷ [])),
      refl,
    ),
  ),
  (
    [],
    name,
    [],
    record { parts = parts name; short = short_header; undecided = (refl, none_chosen names) },
    known,
    nothing_more (spelled (header ∷ name ∷ [])),
    echoed name,
  ),
)

pub none_agrees : NoneAgrees
none_agrees name index names short unknown = (
  (
    header ∷ na ∷ [],
    [],
    record { parts = sym (append-nil (spelled (header ∷ na ∷ []))); refusals = (refl, one_refusal) },
    record { all = refl; none = λ e. absurd cc },
    nothing_more (spelled (header ∷ na ∷ [])),
    refl,
  ),
  (
    header ∷ name ∷ [],
    [],
    record {
      parts = sym (append-nil (spelled (header ∷ name ∷ [])));
      short = All-cons IsShort header (name ∷ []) (lit< tt) (All-cons IsShort name [] short (All-nil IsShort));
      undecided = (refl, All-cons (λ text. choice names text ≡ None) name [] unknown (none_chosen names));
    },
    nothing_came,
    refl,
    refl,
  ),
)
