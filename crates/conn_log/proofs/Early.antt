-- The handlers of eager protocols were made.
use Rattle.std.proofs.Common.{◌≡◌, ◌≢◌, ◌⊎◌, inl, inr, ℕ, ◌==◌, Bool, true, false, cond, List, [], ◌∷◌, ◌++◌, Some, None, refl, sym, ap, ◌∙◌}
use Rattle.std.proofs.lemmas.List.{append_assoc}
use Rattle.std.proofs.lemmas.Bool.Decides.{eqb_tells}
use Rattle.conn_log.specs.Entries.{Entry, asks, asked, made_in}
use Rattle.conn_log.specs.Entries.Entry.{Of, Says, Made, Asks, Calls}
use Rattle.conn_log.specs.Asked.{AreMadeEarly}

some_there : {A : Type 0} (xs : List A) (x : A) → xs ++ x ∷ [] ≡ [] → ⊥
some_there [] x e = absurd (cc e)
some_there (y ∷ xs) x e = absurd (cc e)

asked_same : {H : Type 0} (newer log : List (Entry H)) (n : ℕ) → asks newer ≡ [] → asked (newer ++ log) n ≡ asked log n
asked_same [] log n none = refl
asked_same (Of x ∷ newer) log n none = asked_same newer log n none
asked_same (Says e ∷ newer) log n none = asked_same newer log n none
asked_same (Made m handler ∷ newer) log n none = asked_same newer log n none
asked_same (Asks m index ∷ newer) log n none = absurd (some_there (asks newer) (m, index) none)
asked_same (Calls m call ∷ newer) log n none = asked_same newer log n none

-- what was made stays made
unmade : {H : Type 0} (newer log : List (Entry H)) (n : ℕ) → made_in n (newer ++ log) ≡ None → made_in n log ≡ None
unmade [] log n none = none
unmade (Of x ∷ newer) log n none = unmade newer log n none
unmade (Says e ∷ newer) log n none = unmade newer log n none
unmade (Made m handler ∷ newer) log n none = by_number (m == n) (unmade newer log n) none where
  by_number : (b : Bool) → (made_in n (newer ++ log) ≡ None → made_in n log ≡ None) → cond b (Some handler) (made_in n (newer ++ log)) ≡ None → made_in n log ≡ None
  by_number true before e = absurd (cc e)
  by_number false before e = before e
unmade (Asks m index ∷ newer) log n none = unmade newer log n none
unmade (Calls m call ∷ newer) log n none = unmade newer log n none

-- where no stream was asked for
pub early_grows : {H : Type 0} (eager : ℕ → Bool) (newer log : List (Entry H)) → asks newer ≡ [] → AreMadeEarly eager log → AreMadeEarly eager (newer ++ log)
early_grows eager newer log none early = λ n index is on none_made. early n index (sym (asked_same newer log n none) ∙ is) on (unmade newer log n none_made)

-- where one was, and the handler of an eager protocol was made at once
pub early_asked : {H : Type 0} (eager : ℕ → Bool) (later log : List (Entry H)) (number index : ℕ) → asks later ≡ []
    → (eager index ≡ true → (handler : H) × (newer : List (Entry H)) × (later ≡ newer ++ Made number handler ∷ []))
    → AreMadeEarly eager log → AreMadeEarly eager (later ++ Asks number index ∷ log)
early_asked eager later log number index none at_once early = λ n other is on none_made.
    by_number n other on (eqb_tells number n) (sym (asked_same later (Asks number index ∷ log) n none) ∙ is) none_made where
      made_now : (n : ℕ) → (number == n) ≡ true → eager index ≡ true → made_in n (later ++ Asks number index ∷ log) ≡ None → ⊥
      made_now n this on none_made =
          let made = at_once on in
          let there : made_in n (made.1 ++ (Made number made.0 ∷ Asks number index ∷ log)) ≡ None =
          ap (made_in n) (sym (append_assoc made.1 (Made number made.0 ∷ []) (Asks number index ∷ log)) ∙ ap (λ t. t ++ Asks number index ∷ log) (sym made.2)) ∙ none_made in
          let e : Some made.0 ≡ None = sym (ap (λ b. cond b (Some made.0) (made_in n log)) this) ∙ unmade made.1 (Made number made.0 ∷ Asks number index ∷ log) n there in
          absurd (cc e)

      by_number : (n other : ℕ) → eager other ≡ true → (((number == n) ≡ true) × (number ≡ n)) ⊎ (((number == n) ≡ false) × (number ≢ n)) → cond (number == n) (Some index) (asked log n) ≡ Some other
          → made_in n (later ++ Asks number index ∷ log) ≡ None → ⊥
      by_number n other on (inl it) is none_made =
          let e : index ≡ other = (let f : Some index ≡ Some other = sym (ap (λ b. cond b (Some index) (asked log n)) it.0) ∙ is in cc f) in
          made_now n it.0 (ap eager e ∙ on) none_made
      by_number n other on (inr it) is none_made =
          early n other (sym (ap (λ b. cond b (Some index) (asked log n)) it.0) ∙ is) on (unmade later (Asks number index ∷ log) n none_made)
