use Rattle.std.proofs.Common.{◌≡◌, ℕ, List, [], ◌++◌, ◌+◌, length, take, drop, Ok, Err, ap, sym, subst, ◌∙◌, arith}
use Rattle.std.proofs.lemmas.Result.{err_from_is_err_and}
use Rattle.ms_select.specs.declared.verdict.Role.{Role}
use Rattle.ms_select.specs.Sides.{Stands, Comes}
use Rattle.varint_proto.proofs.Pieces.{joined, joined_more, joined_parts, take_past}
use Rattle.ms_select.proofs.Feeding.{comes, going_on, same_step}
use Rattle.ms_select.proofs.Staying.{fault_stays}
use Rattle.ms_select.proofs.run.whole_talk.Goals as goal

pub returns-in_err-answer-clause-fault : goal.returns-in_err-answer-clause-fault
returns-in_err-answer-clause-fault c =
    let p = err_from_is_err_and c.from_residual.result c.from_residual.ensures.1 in
    let pieces = c.args.pieces.now in
    let i = c.loop-piece.piece-index in
    let x = c.loop-piece.side in
    let fault = c.in_err-answer.field-0.0 in
    let inv = c.loop-piece.invariant in
    let before = joined (take i pieces) in
    let behind = joined (drop (i + 1) pieces) in
    let waits = going_on c.loop-piece.answer x.answer inv.answer (λ a e ne. let wrong = (c.in_err-answer.ensures.decided a e ne).0 in cc) in
    let whole : (before ++ _) ++ behind ≡ joined pieces = ap (λ (b : List ℕ). b ++ behind) (joined_more pieces i _ c.loop-piece-test.true) ∙ joined_parts pieces (i + 1) in
    let output = c.feed.new.self.pending in
    rw (p.1, p.2) (λ ne.
    let here = c.in_err-answer.ensures.fault waits before inv.told.0 [] inv.told.1 ne in
    let all = subst (λ (b : List ℕ). Comes x.role x.names b (Err fault) (length b) output) whole (fault_stays x.role x.names _ behind output fault _ here) in (
      output,
      subst (λ (role : Role). Comes role c.args.side.names (joined pieces) (Err fault) (length (joined pieces)) output) inv.role
          (subst (λ (names : List (List ℕ)). Comes x.role names (joined pieces) (Err fault) (length (joined pieces)) output) inv.names all),
    ))

pub loop-piece-preserved : goal.loop-piece-preserved
loop-piece-preserved c =
    let pieces = c.args.pieces.now in
    let i = c.loop-piece.piece-index in
    let inv = c.loop-piece.invariant in
    let fed = c.in_ok-answer.ensures in
    let next = fed.stands (joined (take i pieces)) inv.told.0 [] inv.told.1 in
    record {
      role = fed.role ∙ inv.role;
      names = fed.names ∙ inv.names;
      answer = fed.answer;
      decided = λ ne.
          let is = inv.decided ne in
          same_step c.in_ok-answer.field-0 0 c.loop-piece.answer (fed.decided c.loop-piece.answer inv.answer (λ e. ne (sym is ∙ e))).0 ∙ is;
      told = (inv.told.0 + c.in_ok-answer.field-0.used, subst (λ (b : List ℕ). Stands c.feed.new.self b (inv.told.0 + c.in_ok-answer.field-0.used) []) (joined_more pieces i _ c.loop-piece-test.true) next);
    }

pub returns-clause-outcome : goal.returns-clause-outcome
returns-clause-outcome c =
    let pieces = c.args.pieces.now in
    let i = c.loop-piece.piece-index in
    let x = c.loop-piece.side in
    let answer = c.loop-piece.answer in
    let inv = c.loop-piece.invariant in
    let all = ap joined (take_past pieces i (omega (arith, c.loop-piece-test.false))) in
    let here = comes x (joined (take i pieces)) inv.told.0 [] answer inv.answer inv.told.1 in
    let whole = subst (λ (b : List ℕ). Comes x.role x.names b (Ok answer) inv.told.0 x.pending) all here in
    let output = subst (λ (b : List ℕ). Comes x.role x.names (joined pieces) (Ok answer) inv.told.0 b) (sym c.take_output.ensures.output) whole in (
      inv.told.0,
      subst (λ (role : Role). Comes role c.args.side.names (joined pieces) (Ok answer) inv.told.0 c.take_output.result.items) inv.role
          (subst (λ (names : List (List ℕ)). Comes x.role names (joined pieces) (Ok answer) inv.told.0 c.take_output.result.items) inv.names output),
    )
