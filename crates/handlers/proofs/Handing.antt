-- Lemmas on the calls of a handler.
use Rattle.std.proofs.Common.{◌≡◌, ℕ, Bool, true, false, List, [], ◌∷◌, ◌++◌, refl, sym, ◌∙◌, ap, subst, append_assoc}
use Rattle.std.proofs.lemmas.List.{append-nil}
use Rattle.handlers.specs.Calls.{HandlerCall, Take, Give, End, Arises, WasHanded, EndsAs, GivesOnly, taken, given}

pub taken-append : (xs ys : List HandlerCall) → taken (xs ++ ys) ≡ taken xs ++ taken ys
taken-append [] ys = refl
taken-append (Take bytes ∷ xs) ys =
    ap (λ t. bytes ++ t) (taken-append xs ys) ∙ sym (append_assoc bytes (taken xs) (taken ys))
taken-append (Give room bytes ∷ xs) ys = taken-append xs ys
taken-append (End ∷ xs) ys = taken-append xs ys

pub given-append : (xs ys : List HandlerCall) → given (xs ++ ys) ≡ given xs ++ given ys
given-append [] ys = refl
given-append (Take bytes ∷ xs) ys = given-append xs ys
given-append (Give room bytes ∷ xs) ys =
    ap (λ t. bytes ++ t) (given-append xs ys) ∙ sym (append_assoc bytes (given xs) (given ys))
given-append (End ∷ xs) ys = given-append xs ys

-- ---- one call more

gives_more : (calls : List HandlerCall) (room : ℕ) (bytes : List ℕ) → GivesOnly calls → GivesOnly (calls ++ Give room bytes ∷ [])
gives_more [] room bytes only = tt
gives_more (Take xs ∷ calls) room bytes only = absurd only
gives_more (Give r xs ∷ calls) room bytes only = gives_more calls room bytes only
gives_more (End ∷ calls) room bytes only = absurd only

pub ends_give : (calls : List HandlerCall) (ended : Bool) (room : ℕ) (bytes : List ℕ) → EndsAs calls ended
    → EndsAs (calls ++ Give room bytes ∷ []) ended
ends_give [] ended room bytes ends = ends
ends_give (Take xs ∷ calls) ended room bytes ends = ends_give calls ended room bytes ends
ends_give (Give r xs ∷ calls) ended room bytes ends = ends_give calls ended room bytes ends
ends_give (End ∷ calls) ended room bytes ends = (ends.0, gives_more calls room bytes ends.1)

pub ends_take : (calls : List HandlerCall) (bytes : List ℕ) → EndsAs calls false → EndsAs (calls ++ Take bytes ∷ []) false
ends_take [] bytes ends = ends
ends_take (Take xs ∷ calls) bytes ends = ends_take calls bytes ends
ends_take (Give r xs ∷ calls) bytes ends = ends_take calls bytes ends
ends_take (End ∷ calls) bytes ends = cc ends.0

pub ends_end : (calls : List HandlerCall) → EndsAs calls false → EndsAs (calls ++ End ∷ []) true
ends_end [] ends = (refl, tt)
ends_end (Take xs ∷ calls) ends = ends_end calls ends
ends_end (Give r xs ∷ calls) ends = ends_end calls ends
ends_end (End ∷ calls) ends = cc ends.0

-- the end was said or wasn't
pub one_end : (calls : List HandlerCall) (a b : Bool) → EndsAs calls a → EndsAs calls b → a ≡ b
one_end [] a b one two = one ∙ sym two
one_end (Take xs ∷ calls) a b one two = one_end calls a b one two
one_end (Give r xs ∷ calls) a b one two = one_end calls a b one two
one_end (End ∷ calls) a b one two = one.0 ∙ sym two.0

-- ---- lists of calls, of any handler

module _ {H : Type 0} (step : H → HandlerCall → H → Type 0) where
  pub in_turn : (made mid value : H) (first second : List HandlerCall) → Arises step made first mid → Arises step mid second value
      → Arises step made (first ++ second) value
  in_turn made mid value [] second came then_came = subst (λ (h : H). Arises step h second value) (sym came) then_came
  in_turn made mid value (call ∷ first) second came then_came =
      (came.0, came.1, in_turn came.0 mid value first second came.2 then_came)

  pub split : (made value : H) (first second : List HandlerCall) → Arises step made (first ++ second) value
      → (mid : H) × Arises step made first mid × Arises step mid second value
  split made value [] second came = (made, refl, came)
  split made value (call ∷ first) second came =
      let rest = split came.0 value first second came.2 in (rest.0, (came.0, came.1, rest.1), rest.2)

  pub one_more : (made : H) (calls : List HandlerCall) (mid : H) (call : HandlerCall) (value : H) → Arises step made calls mid
      → step mid call value → Arises step made (calls ++ call ∷ []) value
  one_more made calls mid call value came stepped = in_turn made mid value calls (call ∷ []) came (value, stepped, refl)

  pub one_handing : (made value : H) (some other : List ℕ) (ended end : Bool) (one : WasHanded step made some ended value)
      (two : WasHanded step made other end value) → one.calls ≡ two.calls → (some ≡ other) × (ended ≡ end)
  one_handing made value some other ended end one two same = (
    sym one.joined ∙ ap taken same ∙ two.joined,
    one_end two.calls ended end (subst (λ (calls : List HandlerCall). EndsAs calls ended) same one.ends) two.ends,
  )

  pub just_made : (made : H) → WasHanded step made [] false made
  just_made made = record { calls = []; arises = refl; joined = refl; ends = refl }

  pub taken_on : (made value next : H) (bytes more : List ℕ) → WasHanded step made bytes false value → step value (Take more) next
      → WasHanded step made (bytes ++ more) false next
  taken_on made value next bytes more handed stepped = record {
    calls = handed.calls ++ Take more ∷ [];
    arises = one_more made handed.calls value (Take more) next handed.arises stepped;
    joined = taken-append handed.calls (Take more ∷ []) ∙ ap (λ t. t ++ (more ++ [])) handed.joined ∙ ap (λ t. bytes ++ t) (append-nil more);
    ends = ends_take handed.calls more handed.ends;
  }

  pub given_on : (made value next : H) (bytes : List ℕ) (ended : Bool) (room : ℕ) (more : List ℕ) → WasHanded step made bytes ended value
      → step value (Give room more) next → WasHanded step made bytes ended next
  given_on made value next bytes ended room more handed stepped = record {
    calls = handed.calls ++ Give room more ∷ [];
    arises = one_more made handed.calls value (Give room more) next handed.arises stepped;
    joined = taken-append handed.calls (Give room more ∷ []) ∙ append-nil (taken handed.calls) ∙ handed.joined;
    ends = ends_give handed.calls ended room more handed.ends;
  }

  pub ended_on : (made value next : H) (bytes : List ℕ) → WasHanded step made bytes false value → step value End next
      → WasHanded step made bytes true next
  ended_on made value next bytes handed stepped = record {
    calls = handed.calls ++ End ∷ [];
    arises = one_more made handed.calls value End next handed.arises stepped;
    joined = taken-append handed.calls (End ∷ []) ∙ append-nil (taken handed.calls) ∙ handed.joined;
    ends = ends_end handed.calls handed.ends;
  }

-- ---- a handler that notes the end

module _ {H : Type 0} (step : H → HandlerCall → H → Type 0) (noted : H → Bool)
    (by_take : (old new : H) (bytes : List ℕ) → step old (Take bytes) new → noted new ≡ noted old)
    (by_give : (old new : H) (room : ℕ) (bytes : List ℕ) → step old (Give room bytes) new → noted new ≡ noted old)
    (by_end : (old new : H) → step old End new → noted new ≡ true) where
  noted_stays : (made value : H) (calls : List HandlerCall) → GivesOnly calls → Arises step made calls value → noted value ≡ noted made
  noted_stays made value [] only came = ap noted (sym came)
  noted_stays made value (Take bytes ∷ calls) only came = absurd only
  noted_stays made value (Give room bytes ∷ calls) only came =
      noted_stays came.0 value calls only came.2 ∙ by_give made came.0 room bytes came.1
  noted_stays made value (End ∷ calls) only came = absurd only

  pub noted_as : (made value : H) (calls : List HandlerCall) (ended : Bool) → noted made ≡ false → EndsAs calls ended
      → Arises step made calls value → noted value ≡ ended
  noted_as made value [] ended before ends came = ap noted (sym came) ∙ before ∙ sym ends
  noted_as made value (Take bytes ∷ calls) ended before ends came =
      noted_as came.0 value calls ended (by_take made came.0 bytes came.1 ∙ before) ends came.2
  noted_as made value (Give room bytes ∷ calls) ended before ends came =
      noted_as came.0 value calls ended (by_give made came.0 room bytes came.1 ∙ before) ends came.2
  noted_as made value (End ∷ calls) ended before ends came =
      noted_stays came.0 value calls ends.1 came.2 ∙ by_end made came.0 came.1 ∙ sym ends.0
