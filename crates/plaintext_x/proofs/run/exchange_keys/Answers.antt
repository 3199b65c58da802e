use Rattle.std.proofs.Common.{◌≡◌, ℕ, List, [], ◌++◌, ◌+◌, length, take, drop, Err, ap, subst, ◌∙◌}
use Rattle.std.proofs.lemmas.Result.{err_from_is_err_and}
use Rattle.plaintext_x.specs.Exchange.{Exchanges, Stands}
use Rattle.varint_proto.proofs.Pieces.{joined, joined_more, joined_parts}
use Rattle.plaintext_x.proofs.Steps.{still_reading, fault_stays}
use Rattle.plaintext_x.proofs.run.exchange_keys.Goals as goal

pub returns-in_err-feed-clause-fault : goal.returns-in_err-feed-clause-fault
returns-in_err-feed-clause-fault c =
    let p = err_from_is_err_and c.from_residual-in_err-feed.result c.from_residual-in_err-feed.ensures.1 in
    let pieces = c.args.pieces.now in
    let i = c.loop-piece.piece-index in
    let fault = c.in_err-feed.field-0.0 in
    let before = joined (take i pieces) in
    let behind = joined (drop (i + 1) pieces) in
    let told = c.loop-piece.invariant.told in
    let reading = still_reading c.loop-piece.exchange.answer c.loop-piece.invariant.some (λ key e. let wrong = (c.in_err-feed.ensures.proven key e).0 in cc) in
    let whole : (before ++ _) ++ behind ≡ joined pieces = ap (λ (b : List ℕ). b ++ behind) (joined_more pieces i _ c.loop-piece-test.true) ∙ joined_parts pieces (i + 1) in
    rw (p.1, p.2) (λ ne. subst (λ (b : List ℕ). Exchanges b (Err fault) (length b)) whole (fault_stays _ behind fault _ (c.in_err-feed.ensures.fault reading c.args.own.now before told.0 [] told.1 ne)))

pub loop-piece-preserved : goal.loop-piece-preserved
loop-piece-preserved c =
    let pieces = c.args.pieces.now in
    let i = c.loop-piece.piece-index in
    let told = c.loop-piece.invariant.told in
    let used = told.0 + c.in_ok-feed.field-0.0 in
    let next = c.in_ok-feed.ensures.stands c.args.own.now (joined (take i pieces)) told.0 [] told.1 in
    record {
      some = c.in_ok-feed.ensures.answer.1;
      told = (used, subst (λ (b : List ℕ). Stands c.args.own.now c.feed.new.self b used []) (joined_more pieces i _ c.loop-piece-test.true) next);
    }
