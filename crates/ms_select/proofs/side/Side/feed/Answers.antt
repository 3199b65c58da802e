use Rattle.std.proofs.Common.{rules, ◌≡◌, ◌≢◌, ◌+◌, ◌≤◌, ◌++◌, ℕ, List, length, take, Some, Ok, Err, refl, ap, sym, subst, ◌∙◌, arith}
use Rattle.std.proofs.lemmas.Result.{err_from_is_err_and}
use Rattle.std.proofs.lemmas.List.{length-append}
use Rattle.varint_proto.proofs.Pieces.{take_past}
use Rattle.ms_select.specs.declared.answer.Answer.{Answer}
use Rattle.ms_select.specs.declared.answer.Answer.TheVariants.{Going}
use Rattle.ms_select.specs.declared.verdict.Role.{Role}
use Rattle.ms_select.specs.declared.fault.SelectFault.TheVariants.{OutOfMemory}
use Rattle.ms_select.specs.Sides.{Stands, Comes, RunsOut}
use Rattle.ms_select.proofs.Feeding.{told_at, same_some, some_is_not, comes, still_decided, decided_in, used_all, further_on, runs_out_later}
use Rattle.ms_select.proofs.side.Side.feed.Goals as goal

pub returns-in-Some : goal.returns-in-Some
returns-in-Some c =
    let x = c.args.self.now in
    let answer : x.answer ≡ Some c.in-Some.answer = search rules in
    let ne : c.in-Some.answer ≢ Going = search rules in
    let stays = λ (input : List ℕ) (used : ℕ) (taken : List ℕ) (s : Stands x input used taken).
    subst (λ (n : ℕ). Stands x (input ++ c.args.piece.now) n taken) (nothing used) (still_decided x input c.args.piece.now used taken c.in-Some.answer ne answer s) in
    record {
      role = refl;
      names = refl;
      decided = λ a e differs. (ap (told_at 0) (same_some c.in-Some.answer a (sym answer ∙ e)), refl);
      failed = λ e. absurd (some_is_not c.in-Some.answer (sym answer ∙ e));
      answer = answer;
      fails = tt;
      within = omega arith;
      all_used = λ e. absurd (ne e);
      stands = stays;
      comes = λ input used taken s. comes x (input ++ c.args.piece.now) (used + 0) taken c.in-Some.answer answer (stays input used taken s);
      fault = λ going input used taken s. tt;
      memory = λ going. absurd (ne (same_some c.in-Some.answer Going (sym answer ∙ going)));
    }
  where
    nothing : (n : ℕ) → n ≡ n + 0
    nothing n = omega arith

pub returns-in_err-more-clause-memory : goal.returns-in_err-more-clause-memory
returns-in_err-more-clause-memory c = λ going input used taken s oom.
    let p = err_from_is_err_and c.from_residual.result c.from_residual.ensures.1 in
    let piece = c.args.piece.now in
    let u = c.loop-used.used in
    let y = c.loop-used.self in
    let inv = c.loop-used.invariant in
    let is : c.in_err-more.field-0.0 ≡ OutOfMemory = cc in
    let told = c.in_err-more.ensures.memory (input ++ take u piece) taken (inv.stands input used taken s) (ap Err is) in
    let here = runs_out_later y.role y.names (taken ++ y.pending) input piece u told in
    let kept = c.in_err-more.ensures.kept in
    subst (λ (role : Role). RunsOut role c.args.self.now.names (taken ++ c.hear.new.self.pending) input piece) inv.role
    (subst (λ (names : List (List ℕ)). RunsOut y.role names (taken ++ c.hear.new.self.pending) input piece) inv.names
    (subst (λ (out : List ℕ). RunsOut y.role y.names (taken ++ out) input piece) (sym kept) here))

pub returns-then-ne-clause-stands : goal.returns-then-ne-clause-stands
returns-then-ne-clause-stands c = λ input used taken s.
    let piece = c.args.piece.now in
    let u = c.loop-used.used in
    let more = c.in_ok-more.field-0.used in
    let answer = c.in_ok-more.field-0.answer in
    let start : c.args.self.now.answer ≡ Some Going = search rules in
    let ne : answer ≢ Going = search rules in
    let within : u + more ≤ length piece = search rules in
    let told = c.in_ok-more.ensures.stands (input ++ take u piece) taken (c.loop-used.invariant.stands input used taken s) in
    let here = subst (λ (b : List ℕ). Stands c.hear.new.self b (length b) taken) (further_on input piece u more) told in
    decided_in c.hear.new.self input piece used (u + more) taken answer ne c.in_ok-more.ensures.answer (used_all c.args.self.now input used taken start s) within here

pub returns-then-ne-clause-comes : goal.returns-then-ne-clause-comes
returns-then-ne-clause-comes c = λ input used taken s.
    let piece = c.args.piece.now in
    let new = c.hear.new.self in
    let answer = c.in_ok-more.field-0.answer in
    let all = used + (c.loop-used.used + c.in_ok-more.field-0.used) in
    let here = comes new (input ++ piece) all taken answer c.in_ok-more.ensures.answer (returns-then-ne-clause-stands c input used taken s) in
    subst (λ (role : Role). Comes role c.args.self.now.names (input ++ piece) (Ok answer) all (taken ++ new.pending)) (c.in_ok-more.ensures.role ∙ c.loop-used.invariant.role)
    (subst (λ (names : List (List ℕ)). Comes new.role names (input ++ piece) (Ok answer) all (taken ++ new.pending)) (c.in_ok-more.ensures.names ∙ c.loop-used.invariant.names) here)

pub loop-used-preserved : goal.loop-used-preserved
loop-used-preserved c =
    let piece = c.args.piece.now in
    let u = c.loop-used.used in
    let more = c.in_ok-more.field-0.used in
    let is : c.in_ok-more.field-0.answer ≡ Going = search rules in
    record {
      within = search rules;
      role = c.in_ok-more.ensures.role ∙ c.loop-used.invariant.role;
      names = c.in_ok-more.ensures.names ∙ c.loop-used.invariant.names;
      going = c.in_ok-more.ensures.answer ∙ ap (λ (a : Answer). Some a) is;
      stands = λ input used taken s.
          subst (λ (b : List ℕ). Stands c.hear.new.self b (length b) taken) (further_on input piece u more)
          (c.in_ok-more.ensures.stands (input ++ take u piece) taken (c.loop-used.invariant.stands input used taken s));
    }

pub returns-clause-comes : goal.returns-clause-comes
returns-clause-comes c = λ input used taken s.
    let piece = c.args.piece.now in
    let y = c.loop-used.self in
    let u = c.loop-used.used in
    let start : c.args.self.now.answer ≡ Some Going = search rules in
    let all : u ≡ length piece = omega (arith, c.loop-used.invariant.within, c.loop-used-test.false) in
    let every : take u piece ≡ piece = take_past piece u (omega (arith, all)) in
    let size : length (input ++ piece) ≡ used + u = omega (arith, length-append input piece, used_all c.args.self.now input used taken start s, all) in
    let stood = subst (λ (n : ℕ). Stands y (input ++ piece) n taken) size (subst (λ (b : List ℕ). Stands y (input ++ b) (length (input ++ b)) taken) every (c.loop-used.invariant.stands input used taken s)) in
    let here = comes y (input ++ piece) (used + u) taken Going c.loop-used.invariant.going stood in
    subst (λ (role : Role). Comes role c.args.self.now.names (input ++ piece) (Ok Going) (used + u) (taken ++ y.pending)) c.loop-used.invariant.role
    (subst (λ (names : List (List ℕ)). Comes y.role names (input ++ piece) (Ok Going) (used + u) (taken ++ y.pending)) c.loop-used.invariant.names here)
