-- What a pipe's read leaves.
use Rattle.std.proofs.Common.{◌≡◌, ◌≤◌, ℕ, zero, suc, min, true, List, [], ◌∷◌, drop, length, Result, Ok, refl, sym, ap, subst, ◌∙◌, arith}
use Rattle.std.specs.List.{All}
use Rattle.std.proofs.lemmas.List.Elements.{All-drop}
use Rattle.futures.specs.declared.task.Poll.{Poll}
use Rattle.futures.specs.declared.task.Poll.TheVariants as polls
use Rattle.conn_link.specs.declared.link.LinkFault.{LinkFault}
use Rattle.conn_link.specs.declared.step.PipeStep.{PipeStep}
use Rattle.conn_link.specs.declared.step.PipeStep.TheVariants.{Upto, Pending, Fail}
use Rattle.conn_link.specs.Moving.{found_end}
use Rattle.conn_link.specs.Piping.{CanGo, answer_by}

-- the steps that are left can go
pub all_next : (old new : List PipeStep) → new ≡ drop 1 old → All CanGo old → All CanGo new
all_next old new is all = subst (λ (l : List PipeStep). All CanGo l) (sym is) (All-drop CanGo 1 old all)

-- a call that moves none can't move any
no_move : (reads : List PipeStep) (able : ℕ) → All CanGo reads → answer_by reads able ≡ polls.Ready (Ok 0) → able ≡ 0
no_move [] able can is = cc is
no_move (Upto most ∷ steps) able can is =
    let one : 1 ≤ most = can 0 Fail (omega arith) in let none : min most able ≡ 0 = cc is in omega arith
no_move (Pending ∷ steps) able can is = absurd (cc is)
no_move (Fail ∷ steps) able can is = absurd (cc is)

pub answered : (reads : List PipeStep) (asked able : ℕ) (polled answer : Poll (Result ℕ LinkFault)) → asked ≡ able
    → polled ≡ answer_by reads asked → polled ≡ answer → answer_by reads able ≡ answer
answered reads asked able polled answer same by is = ap (answer_by reads) (sym same) ∙ (sym by ∙ is)

-- where a read moves none, and has room, nothing is left
pub none_left : (reads : List PipeStep) (unread : List ℕ) (room count : ℕ) → All CanGo reads
    → answer_by reads (min room (length unread)) ≡ polls.Ready (Ok count) → found_end room (polls.Ready (Ok count)) ≡ true
    → unread ≡ []
none_left reads unread zero count can is found = absurd (cc found)
none_left reads unread (suc room) (suc count) can is found = absurd (cc found)
none_left reads [] (suc room) zero can is found = refl
none_left reads (byte ∷ bytes) (suc room) zero can is found =
    absurd (let none : min (suc room) (suc (length bytes)) ≡ 0 = no_move reads _ can is in omega arith)

-- what is left of nothing
pub still_none : (old new : List ℕ) (count : ℕ) → new ≡ drop count old → old ≡ [] → new ≡ []
still_none old new zero is none = is ∙ none
still_none old new (suc count) is none = is ∙ ap (λ l. drop (suc count) l) none
