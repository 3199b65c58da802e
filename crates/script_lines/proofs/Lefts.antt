-- What is left of a script behind some of its lines.
use Rattle.std.proofs.Common.{◌≡◌, ℕ, ◌+◌, ◌<◌, List, [], ◌∷◌, ◌++◌, length, Option, None, Some, Bor, refl, sym, ap, ◌∙◌, append_assoc, arith, inl, inr}
use Rattle.std.specs.Prelude.{IfSome}
use Rattle.std.proofs.lemmas.List.{length-append}
use Rattle.std.proofs.lemmas.List.Concat.{flat_map-append}
use Rattle.std.proofs.lemmas.List.Elements.{All-push}
use Rattle.script_lines.specs.Texts.{HasNoFeed, ended, LeadsLines, AreLines, HasLine}

-- behind these lines this is left
abbrev pub Left : List ℕ → List (List ℕ) → Option (Bor (List ℕ)) → Type 0
Left script lines None = (front : List (List ℕ)) × (last : List ℕ) × (lines ≡ front ++ last ∷ []) × AreLines script front last
Left script lines (Some rest) = LeadsLines script lines rest.now

pub left_at_first : (script : List ℕ) → LeadsLines script [] script
left_at_first script = (refl, λ place d inside. absurd (omega (arith, inside)))

-- a line more is in front
leads_more : (script : List ℕ) (lines : List (List ℕ)) (text rest : List ℕ) → LeadsLines script lines (text ++ 10 ∷ rest) → HasNoFeed text
    → LeadsLines script (lines ++ text ∷ []) rest
leads_more script lines text rest leads clean =
    let joined : ended (lines ++ text ∷ []) ++ rest ≡ ended lines ++ (text ++ 10 ∷ rest) = simp (flat_map-append, append_assoc) in
    (leads.0 ∙ sym joined, All-push HasNoFeed lines text leads.1 clean)

-- The first line of what is left, and what is left behind it.
abbrev pub IsFirst : List ℕ → List ℕ → Option (Bor (List ℕ)) → Type 0
IsFirst texts text more = HasNoFeed text × IfSome more (λ rest. texts ≡ text ++ 10 ∷ rest.now) × (more ≡ None → texts ≡ text)

pub has_line : (script : List ℕ) (lines : List (List ℕ)) (texts text : List ℕ) (more : Option (Bor (List ℕ))) → LeadsLines script lines texts
    → IsFirst texts text more → HasLine script lines text
has_line script lines texts text None leads first =
    (first.0, inl ((leads.0 ∙ ap (λ (t : List ℕ). ended lines ++ t) (first.2 refl), leads.1), first.0))
has_line script lines texts text (Some rest) leads first =
    (first.0, inr (rest.now, (leads.0 ∙ ap (λ (t : List ℕ). ended lines ++ t) first.1, leads.1)))

pub left_more : (script : List ℕ) (lines : List (List ℕ)) (texts text : List ℕ) (more : Option (Bor (List ℕ))) → LeadsLines script lines texts
    → IsFirst texts text more → Left script (lines ++ text ∷ []) more
left_more script lines texts text None leads first =
    (lines, text, refl, ((leads.0 ∙ ap (λ (t : List ℕ). ended lines ++ t) (first.2 refl), leads.1), first.0))
left_more script lines texts text (Some rest) leads first =
    leads_more script lines text rest.now (leads.0 ∙ ap (λ (t : List ℕ). ended lines ++ t) first.1, leads.1) first.0

-- how much is left
abbrev pub left_len : Option (Bor (List ℕ)) → ℕ
left_len None = 0
left_len (Some rest) = 1 + length rest.now

pub nothing : (text : List ℕ) → length text ≡ 0 → text ≡ []
nothing [] none = refl
nothing (b ∷ text) none = absurd (omega (arith, none))

-- behind a line less is left
pub less_left : (texts : Bor (List ℕ)) (text : List ℕ) (more : Option (Bor (List ℕ))) → IsFirst texts.now text more
    → left_len more < left_len (Some texts)
less_left texts text None first = omega arith
less_left texts text (Some rest) first = omega (arith, ap length first.1, length-append text (10 ∷ rest.now))
