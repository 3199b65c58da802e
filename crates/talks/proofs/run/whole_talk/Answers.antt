use Rattle.std.proofs.Common.{ℕ, List, [], ◌++◌, ◌+◌, take, drop, refl, ap, sym, ◌∙◌, arith}
use Rattle.std.proofs.lemmas.Result.{err_from_is_err_and}
use Rattle.ms_select.specs.declared.answer.Answer.TheVariants.{Going}
use Rattle.ms_select.proofs.Feeding.{going_on, same_some}
use Rattle.varint_proto.proofs.Pieces.{joined, joined_more, joined_parts, take_past}
use Rattle.talks.proofs.Running.{fresh_comes, step_on, came_as, fault_on}
use Rattle.talks.proofs.run.whole_talk.Goals as goal

pub loop-piece-init : goal.loop-piece-init
loop-piece-init c = record {
  side = refl;
  answer = c.requires.going;
  come = ([], c.requires.stands, fresh_comes c.args.talk c.requires.going c.requires.stands);
}

pub loop-piece-preserved : goal.loop-piece-preserved
loop-piece-preserved c =
    let pieces = c.args.pieces.now in
    let i = c.loop-piece.piece-index in
    let x = c.loop-piece.talk in
    let inv = c.loop-piece.invariant in
    let heard = c.in_ok-answer.ensures in
    record {
      side = heard.side ∙ inv.side;
      answer = heard.answer;
      come = step_on x c.hear.new.self (joined (take i pieces)) inv.come.0 _ (joined (take (i + 1) pieces)) c.loop-piece.answer c.in_ok-answer.field-0
          (heard.stands inv.come.0 [] inv.come.1) (heard.talks inv.come.0 [] inv.come.1) (joined_more pieces i _ c.loop-piece-test.true) heard.side inv.come.2
          heard.all_used (λ ne. (heard.decided c.loop-piece.answer inv.answer ne).0);
    }

pub returns-in_err-answer-clause-fault : goal.returns-in_err-answer-clause-fault
returns-in_err-answer-clause-fault c =
    let p = err_from_is_err_and c.from_residual.result c.from_residual.ensures.1 in
    let pieces = c.args.pieces.now in
    let i = c.loop-piece.piece-index in
    let x = c.loop-piece.talk in
    let inv = c.loop-piece.invariant in
    let behind = joined (drop (i + 1) pieces) in
    let output = c.hear.new.self.pending in
    let waits = going_on c.loop-piece.answer x.answer inv.answer (λ a e ne. let wrong = (c.in_err-answer.ensures.decided a e ne).0 in cc) in
    let going = same_some c.loop-piece.answer Going (sym inv.answer ∙ waits) in
    rw (p.1, p.2) (λ ne. (
      output,
      fault_on x.side c.args.talk.side (joined (take i pieces)) inv.come.0 _ behind (joined pieces) c.loop-piece.answer x.pending c.in_err-answer.field-0.0 output
          (c.in_err-answer.ensures.fault waits inv.come.0 [] inv.come.1 ne)
          (ap (λ (b : List ℕ). b ++ behind) (joined_more pieces i _ c.loop-piece-test.true) ∙ joined_parts pieces (i + 1)) inv.side going inv.come.2,
    ))

pub returns-clause-outcome : goal.returns-clause-outcome
returns-clause-outcome c =
    let pieces = c.args.pieces.now in
    let i = c.loop-piece.piece-index in
    let x = c.loop-piece.talk in
    let inv = c.loop-piece.invariant in
    let all = ap joined (take_past pieces i (omega (arith, c.loop-piece-test.false))) in (
      inv.come.0,
      came_as x.side c.args.talk.side (joined (take i pieces)) (joined pieces) inv.come.0 c.loop-piece.answer x.pending c.take_output.result.items inv.side all c.take_output.ensures.output inv.come.2,
    )
