-- Texts that decide nothing, one more of them, and what is written then.
use Rattle.std.proofs.Common.{◌≡◌, ℕ, ◌+◌, ◌<◌, get_or, take, true, List, [], ◌∷◌, ◌++◌, length, map, None, refl, ap, sym, ◌∙◌, arith}
use Rattle.std.proofs.lemmas.List.{append-nil, map-append, take_more, take_all, length-append}
use Rattle.std.proofs.lemmas.List.Elements.{All-push}
use Rattle.std.proofs.lemmas.List.Concat.{flat_map-append}
use Rattle.varint_proto.specs.Varint.{shortest, shortest_within}
use Rattle.ms_select.specs.Messages.{header, na, message, spelled}
use Rattle.ms_select.specs.Listening.{choice, IsUndecided, refusals}
use Rattle.ms_select.specs.Dialing.{IsRefusals, refused, proposals}
use Rattle.ms_select.specs.Sides.{is_begun}

-- one message more
pub spelled_more : (texts : List (List ℕ)) (text : List ℕ) → spelled (texts ++ text ∷ []) ≡ spelled texts ++ message text
spelled_more texts text =
    flat_map-append message texts (text ∷ []) ∙ ap (λ (m : List ℕ). spelled texts ++ m) (append-nil (message text))

pub still_begun : (texts : List (List ℕ)) (text : List ℕ) → is_begun (texts ++ text ∷ []) ≡ true
still_begun [] text = refl
still_begun (first ∷ texts) text = refl

-- ---- of a listener

pub undecided_more : (names : List (List ℕ)) (texts : List (List ℕ)) (text : List ℕ) → is_begun texts ≡ true → IsUndecided names texts
    → choice names text ≡ None → IsUndecided names (texts ++ text ∷ [])
undecided_more names [] text b u c = absurd cc
undecided_more names (first ∷ proposals) text b u c = (u.0, All-push (λ t. choice names t ≡ None) proposals text u.1 c)

-- a proposal that isn't supported
pub refusals_more : (first : List ℕ) (proposals : List (List ℕ)) (text : List ℕ)
    → refusals ((first ∷ proposals) ++ text ∷ []) ≡ refusals (first ∷ proposals) ++ message na
refusals_more first proposals text =
    ap (λ (answers : List (List ℕ)). spelled (header ∷ answers)) (map-append (λ _. na) proposals (text ∷ []))
    ∙ spelled_more (header ∷ map (λ _. na) proposals) na

-- ---- of a dialer

pub refusals_push : (texts : List (List ℕ)) → is_begun texts ≡ true → IsRefusals texts → IsRefusals (texts ++ na ∷ [])
refusals_push [] b r = absurd cc
refusals_push (first ∷ answers) b r = (r.0, All-push (λ t. t ≡ na) answers na r.1 refl)

pub refused_push : (texts : List (List ℕ)) → is_begun texts ≡ true → refused (texts ++ na ∷ []) ≡ refused texts + 1
refused_push [] b = absurd cc
refused_push (first ∷ answers) b = length-append answers (na ∷ [])

pub proposals_more : (names : List (List ℕ)) (count : ℕ) → count + 1 < length names
    → proposals names (count + 1) ≡ proposals names count ++ message (get_or names (count + 1) [])
proposals_more [] count lt = absurd (omega arith)
proposals_more (name ∷ names) count lt =
    ap (λ (xs : List (List ℕ)). spelled (header ∷ xs)) (take_more (name ∷ names) (count + 1) [] lt)
    ∙ spelled_more (header ∷ take (count + 1) (name ∷ names)) (get_or (name ∷ names) (count + 1) [])

pub proposals_all : (names : List (List ℕ)) (count : ℕ) → count + 1 ≡ length names → proposals names (length names) ≡ proposals names count
proposals_all [] count e = refl
proposals_all (name ∷ names) count e =
    ap (λ (xs : List (List ℕ)). spelled (header ∷ xs)) (take_all (length (name ∷ names) + 1) (name ∷ names) (omega arith)
    ∙ sym (take_all (count + 1) (name ∷ names) (omega arith)))

pub na_is : message na ≡ 3 ∷ 110 ∷ 97 ∷ 10 ∷ []
unfolding message shortest shortest_within
na_is = refl
