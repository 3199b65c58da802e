-- The tries of one call of a link, in turn.
use Rattle.std.proofs.Common.{◌≡◌, ◌≢◌, ◌≤◌, ◌⊎◌, inl, inr, ◌||◌, ◌&&◌, not, ◌+◌, ℕ, zero, suc, Bool, true, false, List, [], ◌∷◌, ◌++◌, Result, Ok, Err, arith, refl, ap, sym, subst, ◌∙◌}
use Rattle.std.proofs.lemmas.List.{append-nil}
use Rattle.std.specs.Prelude.{⊤}
use Rattle.std.specs.IoError.{error_kind}
use Rattle.std.specs.declared.io.Error.{Error}
use Rattle.std.specs.declared.io.ErrorKind.TheVariants.{WouldBlock}
use Rattle.futures.specs.declared.task.Poll.{Poll}
use Rattle.futures.specs.declared.task.Poll.TheVariants.{Ready, Pending}
use Rattle.futures.specs.declared.task.context.Context.{Context}
use Rattle.conn_link.specs.declared.link.LinkFault.{LinkFault}
use Rattle.conn_link.specs.Moving.{found_end}
use Rattle.conn_link.specs.Calling.{Kind, Call, asks_between, call_of}
use Rattle.conn_link.specs.Calling.Kind.{Reads, Writes, Shuts}
use Rattle.conn_link.specs.Piping.{failure}
use Rattle.socket_link.specs.Steps.{Side, Step, Answers, Blocked, Tries, By, StepsNone, StepsOn, asks_some, told}
use Rattle.socket_link.specs.Steps.Side.{Reading, Writing}
use Rattle.socket_link.specs.Sockets.{LinkCalls}
use Rattle.socket_link.specs.declared.link.SocketLink.{SocketLink}
use Rattle.socket_link.specs.Steps.Step.{Asked, Tried, Shut}
use Rattle.socket_link.specs.Steps.Takes.{Answered, Yields}

-- So many tries would have blocked by now.
pub record Rounds {S : Type 0} (steps : S → List Step → S → Type 0) (side : Side) (room : ℕ) (first : S) (old : Context) (last : S)
    (new : Context) (times : ℕ) : Type 0 where
  pub log : List Step
  pub made : steps first log last
  pub blocked : Blocked side room times log
  pub asked : asks_between old new ≡ true → asks_some log ≡ true

asks_or : (a b c : Bool) → ((a || b) || c) ≡ (a || (b || c))
asks_or true b c = refl
asks_or false b c = refl

asks_join : (log next : List Step) → asks_some (log ++ next) ≡ (asks_some log || asks_some next)
asks_join [] next = refl
asks_join (Asked side answer asks ∷ log) next = ap (λ b. asks || b) (asks_join log next) ∙ sym (asks_or asks (asks_some log) (asks_some next))
asks_join (Tried side room answer ∷ log) next = asks_join log next
asks_join (Shut answer asks ∷ log) next = ap (λ b. asks || b) (asks_join log next) ∙ sym (asks_or asks (asks_some log) (asks_some next))

or_first : (a b : Bool) → a ≡ true → (a || b) ≡ true
or_first a b is = ap (λ x. x || b) is

or_next : (a b : Bool) → b ≡ true → (a || b) ≡ true
or_next true b is = refl
or_next false b is = is

-- Between the first and the last another poll was asked for before the second, or behind it.
between : (old mid new : Bool) → (not old && new) ≡ true → ((not old && mid) ≡ true) ⊎ ((not mid && new) ≡ true)
between true mid new is = absurd (cc is)
between false true new is = inl refl
between false false new is = inr is

pub asked_on : (log next : List Step) (old mid new : Context) → (asks_between old mid ≡ true → asks_some log ≡ true)
    → (asks_between mid new ≡ true → asks_some next ≡ true) → asks_between old new ≡ true → asks_some (log ++ next) ≡ true
asked_on log next old mid new before behind asks = asks_join log next ∙ elim (between old.is_woken mid.is_woken new.is_woken asks) [
  | inl first ↦ or_first (asks_some log) (asks_some next) (before first)
  | inr last ↦ or_next (asks_some log) (asks_some next) (behind last)
]

never_asks : (b : Bool) → (not b && b) ≡ true → ⊥
never_asks true is = cc is
never_asks false is = cc is

asks_none : (b : Bool) → (not b && b) ≡ false
asks_none true = refl
asks_none false = refl

-- what is asked for by one step that may ask
pub one_asks : (asks : Bool) → asks ≡ true → (asks || false) ≡ true
one_asks asks is = ap (λ b. b || false) is

-- ---- the steps of one call

pub record Taken {S : Type 0} (steps : S → List Step → S → Type 0) (side : Side) (call : Call) (first last : S) : Type 0 where
  pub log : List Step
  pub made : steps first log last
  pub tries : Tries side call log

module _ {S : Type 0} (steps : S → List Step → S → Type 0) (on : StepsOn steps) (kind : Kind) (side : Side) (room : ℕ) where
  -- what a call answers behind one try at most that would have blocked
  pub taken_by : (times : ℕ) (first mid last : S) (old cx new : Context) (own : List Step) (answer : Poll (Result ℕ LinkFault))
      → Rounds steps side room first old mid cx times → times ≤ 1 → Answers side room own answer
      → (asks_between cx new ≡ true → asks_some own ≡ true) → steps mid own last
      → Taken steps side (call_of kind room answer old new) first last
  taken_by times first mid last old cx new own answer rounds few answers asks made = record {
    log = rounds.log ++ own;
    made = on first mid last rounds.log own rounds.made made;
    tries = record {
      may_ask = false;
      takes = Answered times rounds.log own few rounds.blocked answers refl refl;
      asked = λ is. inl (asked_on rounds.log own old cx new rounds.asked asks is);
    };
  }

  -- behind two it asks for another poll
  pub taken_twice : (times : ℕ) (first last : S) (old cx new : Context) → times ≡ 2 → Rounds steps side room first old last cx times
      → Taken steps side (call_of kind room Pending old new) first last
  taken_twice times first last old cx new two rounds = record {
    log = rounds.log;
    made = rounds.made;
    tries = record {
      may_ask = true;
      takes = Yields (subst (λ (n : ℕ). Blocked side room n rounds.log) two rounds.blocked) refl refl;
      asked = λ is. inr refl;
    };
  }

  -- a try that would have blocked
  pub round_on : (times : ℕ) (first mid next last : S) (old cx new : Context) (asked : Poll (Result ⊤ Error)) (error : Error)
      → asked ≡ Ready (Ok tt) → error_kind error ≡ WouldBlock → Rounds steps side room first old mid cx times
      → steps mid (Asked side asked (asks_between cx new) ∷ []) next → steps next (Tried side room (Err error) ∷ []) last
      → Rounds steps side room first old last new (times + 1)
  round_on times first mid next last old cx new asked error ready blocks rounds said tried = record {
    log = rounds.log ++ Asked side (Ready (Ok tt)) (asks_between cx new) ∷ Tried side room (Err error) ∷ [];
    made = on first mid last rounds.log (Asked side (Ready (Ok tt)) (asks_between cx new) ∷ Tried side room (Err error) ∷ []) rounds.made
        (on mid next last (Asked side (Ready (Ok tt)) (asks_between cx new) ∷ []) (Tried side room (Err error) ∷ [])
        (subst (λ (p : Poll (Result ⊤ Error)). steps mid (Asked side p (asks_between cx new) ∷ []) next) ready said) tried);
    blocked = let one_more : suc times ≡ times + 1 = omega arith in
        subst (λ (n : ℕ). Blocked side room n (rounds.log ++ Asked side (Ready (Ok tt)) (asks_between cx new) ∷ Tried side room (Err error) ∷ [])) one_more
        (rounds.log, asks_between cx new, error, blocks, rounds.blocked, refl);
    asked = asked_on rounds.log (Asked side (Ready (Ok tt)) (asks_between cx new) ∷ Tried side room (Err error) ∷ []) old cx new rounds.asked (one_asks (asks_between cx new));
  }

  -- what a try answers that wouldn't have blocked
  pub tried_by : (times : ℕ) (first mid next last : S) (old cx new : Context) (asked : Poll (Result ⊤ Error)) (tried : Result ℕ Error)
      (answer : Poll (Result ℕ LinkFault)) → asked ≡ Ready (Ok tt)
      → Answers side room (Asked side (Ready (Ok tt)) (asks_between cx new) ∷ Tried side room tried ∷ []) answer
      → Rounds steps side room first old mid cx times → times ≤ 1
      → steps mid (Asked side asked (asks_between cx new) ∷ []) next → steps next (Tried side room tried ∷ []) last
      → Taken steps side (call_of kind room answer old new) first last
  tried_by times first mid next last old cx new asked tried answer ready answers rounds few said then =
      taken_by times first mid last old cx new (Asked side (Ready (Ok tt)) (asks_between cx new) ∷ Tried side room tried ∷ []) answer rounds few answers
      (one_asks (asks_between cx new))
      (on mid next last (Asked side (Ready (Ok tt)) (asks_between cx new) ∷ []) (Tried side room tried ∷ [])
      (subst (λ (p : Poll (Result ⊤ Error)). steps mid (Asked side p (asks_between cx new) ∷ []) next) ready said) then)

  -- and where it isn't tried: the socket isn't ready, or has failed
  pub asked_by : (times : ℕ) (first mid last : S) (old cx new : Context) (asked said : Poll (Result ⊤ Error)) (answer : Poll (Result ℕ LinkFault))
      → asked ≡ said → Answers side room (Asked side said (asks_between cx new) ∷ []) answer
      → Rounds steps side room first old mid cx times → times ≤ 1 → steps mid (Asked side asked (asks_between cx new) ∷ []) last
      → Taken steps side (call_of kind room answer old new) first last
  asked_by times first mid last old cx new asked said answer is answers rounds few then =
      taken_by times first mid last old cx new (Asked side said (asks_between cx new) ∷ []) answer rounds few answers (one_asks (asks_between cx new))
      (subst (λ (p : Poll (Result ⊤ Error)). steps mid (Asked side p (asks_between cx new) ∷ []) last) is then)

-- no try was made yet
pub no_round : {S : Type 0} (steps : S → List Step → S → Type 0) → StepsNone steps → (side : Side) (room : ℕ) (first : S) (cx : Context)
    → Rounds steps side room first cx first cx 0
no_round steps none side room first cx = record {
  log = [];
  made = none first;
  blocked = refl;
  asked = λ is. absurd (never_asks cx.is_woken is);
}

-- ---- the calls of a link

module _ {S : Type 0} (steps : S → List Step → S → Type 0) where
  one_call : (first last : SocketLink S) (call : Call) (log : List Step) → steps first.socket log last.socket
      → By call.kind first.has_ended call log last.has_ended → LinkCalls steps first (call ∷ []) last
  one_call first last call log made by = record {
    taken = log;
    made = made;
    by = (log, [], last.has_ended, sym (append-nil log), by, (refl, refl));
  }

  pub wrote : (first last : SocketLink S) (room : ℕ) (answer : Poll (Result ℕ LinkFault)) (old new : Context)
      → Taken steps Writing (call_of Writes room answer old new) first.socket last.socket → last.has_ended ≡ first.has_ended
      → LinkCalls steps first (call_of Writes room answer old new ∷ []) last
  wrote first last room answer old new taken ended =
      one_call first last (call_of Writes room answer old new) taken.log taken.made (taken.tries, ended)

  pub read : (first last : SocketLink S) (room : ℕ) (answer : Poll (Result ℕ LinkFault)) (old new : Context) → first.has_ended ≡ false
      → Taken steps Reading (call_of Reads room answer old new) first.socket last.socket → last.has_ended ≡ found_end room answer
      → LinkCalls steps first (call_of Reads room answer old new ∷ []) last
  read first last room answer old new going taken ended =
      one_call first last (call_of Reads room answer old new) taken.log taken.made
      (subst (λ (b : Bool). By Reads b (call_of Reads room answer old new) taken.log last.has_ended) (sym going) (taken.tries, ended))

  -- behind the end
  pub read_none : StepsNone steps → (first : SocketLink S) (room : ℕ) (cx : Context) → first.has_ended ≡ true
      → LinkCalls steps first (call_of Reads room (Ready (Ok 0)) cx cx ∷ []) first
  read_none none first room cx ended =
      one_call first first (call_of Reads room (Ready (Ok 0)) cx cx) [] (none first.socket)
      (subst (λ (b : Bool). By Reads b (call_of Reads room (Ready (Ok 0)) cx cx) [] first.has_ended) (sym ended)
      (refl, refl, asks_none cx.is_woken, ended))

  pub shut : (first last : SocketLink S) (said : Poll (Result ⊤ Error)) (answer : Poll (Result ℕ LinkFault)) (old new : Context)
      → steps first.socket (Shut said (asks_between old new) ∷ []) last.socket → answer ≡ told said → last.has_ended ≡ first.has_ended
      → LinkCalls steps first (call_of Shuts 0 answer old new ∷ []) last
  shut first last said answer old new made same ended =
      one_call first last (call_of Shuts 0 answer old new) (Shut said (asks_between old new) ∷ []) made
      (record { answer = said; asks = asks_between old new; one = refl; same = same; asked = λ is. is }, ended)

-- a call that fails, or is pending, finds no end
pub failure_ends_not : (room : ℕ) → found_end room failure ≡ false
failure_ends_not zero = refl
failure_ends_not (suc room) = refl

pub pending_ends_not : (room : ℕ) → found_end room Pending ≡ false
pending_ends_not zero = refl
pending_ends_not (suc room) = refl

pub blocks_of : (error : Error) (kind : _) → kind ≡ error_kind error → kind ≡ WouldBlock → error_kind error ≡ WouldBlock
blocks_of error kind is blocks = sym is ∙ blocks

pub blocks_not : (error : Error) (kind : _) → kind ≡ error_kind error → kind ≢ WouldBlock → error_kind error ≢ WouldBlock
blocks_not error kind is not blocks = not (is ∙ blocks)
