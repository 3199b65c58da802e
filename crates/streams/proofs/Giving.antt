-- What a stream gives out: what waits, and behind it what its handler gave.
use Rattle.std.proofs.Common.{◌≡◌, ◌⊎◌, ℕ, ◌+◌, ◌-◌, ◌≤◌, min, Bool, true, false, not, List, [], ◌∷◌, ◌++◌, length, Option, Some, None, refl, sym, ap, ◌∙◌, subst, append_assoc, inl, inr, arith}
use Rattle.std.proofs.lemmas.List.{append-nil, length-append}
use Rattle.handlers.specs.Calls.{HandlerCall, Give}
use Rattle.streams.specs.declared.stage.Stage.{Stage}
use Rattle.streams.specs.declared.stage.Stage.TheVariants as stages
use Rattle.streams.specs.Streams.{Past, IsEarly, HasAgreed}
use Rattle.streams.specs.State.{StandsAt, is_open}
use Rattle.streams.specs.Giving.{Gives, StageGives}
use Rattle.streams.proofs.Handling.{after_give}

-- A part of what waits is given out, and what the handler gave stands behind it, where nothing waits any more.
pub record Parts (waiting front left given : List ℕ) : Type 0 where
  pub parts : front ++ left ≡ waiting
  pub order : (given ≡ []) ⊎ (left ≡ [])

sent_on : (sent waiting front left given output gave : List ℕ) → Parts waiting front left given → sent ++ waiting ≡ output ++ gave
    → (sent ++ (front ++ given)) ++ left ≡ output ++ (gave ++ given)
sent_on sent waiting front left given output gave p e = by_order p.order
  where
    by_order : (given ≡ []) ⊎ (left ≡ []) → (sent ++ (front ++ given)) ++ left ≡ output ++ (gave ++ given)
    by_order (inl none) =
        ap (λ g. (sent ++ (front ++ g)) ++ left) none ∙ ap (λ f. (sent ++ f) ++ left) (append-nil front) ∙ append_assoc sent front left
        ∙ ap (λ t. sent ++ t) p.parts ∙ e ∙ ap (λ t. output ++ t) (sym (append-nil gave)) ∙ ap (λ g. output ++ (gave ++ g)) (sym none)
    by_order (inr none) =
        let all : front ≡ waiting = sym (append-nil front) ∙ ap (λ l. front ++ l) (sym none) ∙ p.parts in
        ap (λ l. (sent ++ (front ++ given)) ++ l) none ∙ append-nil (sent ++ (front ++ given)) ∙ sym (append_assoc sent front given)
        ∙ ap (λ f. (sent ++ f) ++ given) all ∙ ap (λ t. t ++ given) e ∙ append_assoc output gave given

-- where nothing is left of the room, nothing is given
pub order_of : (room : ℕ) (waiting front left given : List ℕ) → front ++ left ≡ waiting → length front ≡ min room (length waiting) → length given ≤ room - length front
    → (given ≡ []) ⊎ (left ≡ [])
order_of room waiting front [] given parts count short = inr refl
order_of room waiting front (x ∷ left) [] parts count short = inl refl
order_of room waiting front (x ∷ left) (y ∷ given) parts count short =
    absurd (omega (arith, ap length parts, length-append front (x ∷ left)))

module _ {H : Type 0} (step : H → HandlerCall → H → Type 0) (closed : H → Bool) where
  agreed_sent : (past : Past H) (last : Option ℕ) (calls : List HandlerCall) (index : ℕ) (rest gave waiting front left given : List ℕ) → Parts waiting front left given
      → HasAgreed past index rest gave waiting → HasAgreed (record past { sent = past.sent ++ (front ++ given); calls = calls; left = last }) index rest (gave ++ given) left
  agreed_sent past last calls index rest gave waiting front left given p a = record {
    first = a.first;
    output = a.output;
    got_is = a.got_is;
    agrees = a.agrees;
    sent_is = sent_on past.sent waiting front left given a.output gave p a.sent_is;
  }

  pub stepped : (old new : H) (room : ℕ) (bytes : List ℕ) → not (closed old) ≡ true → Gives step closed old room new bytes → step old (Give room bytes) new
  stepped old new room bytes unclosed (short, inl shut) = absurd (let both : not true ≡ true = ap not (sym shut.0) ∙ unclosed in cc)
  stepped old new room bytes unclosed (short, inr gave) = gave.1

  untouched : (old new : H) (room : ℕ) (bytes : List ℕ) → not (closed old) ≡ false → Gives step closed old room new bytes → (new ≡ old) × (bytes ≡ [])
  untouched old new room bytes shut (short, inl gave) = (gave.1, gave.2)
  untouched old new room bytes shut (short, inr gave) = absurd (let both : not false ≡ false = ap not (sym gave.0) ∙ shut in cc)

  -- a handler that isn't closed is asked last, with the room that is left
  pub was_asked : (past : Past H) (old new : Stage H) (rest last : ℕ) (waiting front left given : List ℕ) → is_open closed old ≡ true → Parts waiting front left given
      → length given + last ≡ rest → StandsAt step old past waiting → StageGives step closed old rest new given
      → StandsAt step new (record past { sent = past.sent ++ (front ++ given); calls = past.calls ++ Give rest given ∷ []; left = Some last }) left
  was_asked past (stages.Talking talk None) new rest last waiting front left given unclosed p sum s g = absurd cc
  was_asked past (stages.Talking talk (Some handler)) new rest last waiting front left given unclosed p sum s g =
      let early = s.early in
      subst (λ (t : Stage H). StandsAt step t (record past { sent = past.sent ++ (front ++ given); calls = past.calls ++ Give rest given ∷ []; left = Some last }) left) (sym g.1)
      (record {
        output = s.output;
        gave = s.gave ++ given;
        going = s.going;
        early = (
          early.0,
          (early.1.0, early.1.1, after_give step early.1.0 handler g.0 past.calls [] s.gave given false past.left rest last early.1.2 (stepped handler g.0 rest given unclosed g.2) sum),
        );
        sent_is = sent_on past.sent waiting front left given s.output s.gave p s.sent_is;
        not_ended = s.not_ended;
      })
  was_asked past (stages.Agreed index) new rest last waiting front left given unclosed p sum s g = absurd cc
  was_asked past (stages.Serving handler) new rest last waiting front left given unclosed p sum s g =
      subst (λ (t : Stage H). StandsAt step t (record past { sent = past.sent ++ (front ++ given); calls = past.calls ++ Give rest given ∷ []; left = Some last }) left) (sym g.1)
      (record {
        index = s.index;
        rest = s.rest;
        gave = s.gave ++ given;
        made = s.made;
        agreed = agreed_sent past (Some last) (past.calls ++ Give rest given ∷ []) s.index s.rest s.gave waiting front left given p s.agreed;
        made_is = s.made_is;
        handled = after_give step s.made handler g.0 past.calls s.rest s.gave given past.ended past.left rest last s.handled (stepped handler g.0 rest given unclosed g.2) sum;
      })
  was_asked past stages.Done new rest last waiting front left given unclosed p sum s g = absurd cc
  was_asked past stages.Over new rest last waiting front left given unclosed p sum s g = absurd s

  -- where there is none, the stream stays where it is, and gives no more than waits
  pub none_asked : (old new : Stage H) (rest : ℕ) (given : List ℕ) → is_open closed old ≡ false → StageGives step closed old rest new given → (new ≡ old) × (given ≡ [])
  none_asked (stages.Talking talk None) new rest given shut g = (g.0, g.1)
  none_asked (stages.Talking talk (Some handler)) new rest given shut g =
      let same = untouched handler g.0 rest given shut g.2 in (g.1 ∙ ap (λ (h : H). stages.Talking talk (Some h)) same.0, same.1)
  none_asked (stages.Agreed index) new rest given shut g = (g.0, g.1)
  none_asked (stages.Serving handler) new rest given shut g = let same = untouched handler g.0 rest given shut g.2 in (g.1 ∙ ap (λ (h : H). stages.Serving h) same.0, same.1)
  none_asked stages.Done new rest given shut g = (g.0, g.1)
  none_asked stages.Over new rest given shut g = (g.0, g.1)

  agreed_on : (past : Past H) (index : ℕ) (rest gave waiting front left : List ℕ) → front ++ left ≡ waiting → HasAgreed past index rest gave waiting
      → HasAgreed (record past { sent = past.sent ++ front }) index rest gave left
  agreed_on past index rest gave waiting front left parts a = record {
    first = a.first;
    output = a.output;
    got_is = a.got_is;
    agrees = a.agrees;
    sent_is = append_assoc past.sent front left ∙ ap (λ t. past.sent ++ t) parts ∙ a.sent_is;
  }

  early_sent : (past : Past H) (sent : List ℕ) (handler : Option H) (gave : List ℕ) → IsEarly step past handler gave → IsEarly step (record past { sent = sent }) handler gave
  early_sent past sent None gave early = early
  early_sent past sent (Some handler) gave early = early

  -- what waits is given out
  pub front_sent : (past : Past H) (stage : Stage H) (waiting front left : List ℕ) → front ++ left ≡ waiting → StandsAt step stage past waiting
      → StandsAt step stage (record past { sent = past.sent ++ front }) left
  front_sent past (stages.Talking talk handler) waiting front left parts s = record {
    output = s.output;
    gave = s.gave;
    going = s.going;
    early = early_sent past (past.sent ++ front) handler s.gave s.early;
    sent_is = append_assoc past.sent front left ∙ ap (λ t. past.sent ++ t) parts ∙ s.sent_is;
    not_ended = s.not_ended;
  }
  front_sent past (stages.Agreed index) waiting front left parts s = record {
    agreed = agreed_on past index [] [] waiting front left parts s.agreed;
    none_made = s.none_made;
    none_asked = s.none_asked;
    none_called = s.none_called;
    not_ended = s.not_ended;
  }
  front_sent past (stages.Serving handler) waiting front left parts s = record {
    index = s.index;
    rest = s.rest;
    gave = s.gave;
    made = s.made;
    agreed = agreed_on past s.index s.rest s.gave waiting front left parts s.agreed;
    made_is = s.made_is;
    handled = s.handled;
  }
  front_sent past stages.Done waiting front left parts s = record {
    index = s.index;
    front = s.front;
    rest = s.rest;
    gave = s.gave;
    made = s.made;
    handler = s.handler;
    said = s.said;
    agreed = agreed_on past s.index (s.front ++ s.rest) s.gave waiting front left parts s.agreed;
    made_is = s.made_is;
    handled = s.handled;
    end_came = s.end_came;
  }
  front_sent past stages.Over waiting front left parts s = absurd s
