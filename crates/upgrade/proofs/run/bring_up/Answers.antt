use Rattle.std.proofs.Common.{List, ℕ, [], ◌++◌, ◌+◌, take, drop, ap, ◌∙◌, arith}
use Rattle.std.proofs.lemmas.Result.{err_from_is_err_and}
use Rattle.varint_proto.proofs.Pieces.{joined, joined_more, joined_parts, take_past}
use Rattle.upgrade.proofs.Running.{step_on, up_comes, fault_comes, going_comes}
use Rattle.upgrade.proofs.run.bring_up.Goals as goal

pub loop-piece-init : goal.loop-piece-init
loop-piece-init c = record { role = c.in_ok-upgrade.ensures.role; own = c.in_ok-upgrade.ensures.own; stands = c.in_ok-upgrade.ensures.fresh }

pub returns-in_err-feed-clause-fault : goal.returns-in_err-feed-clause-fault
returns-in_err-feed-clause-fault c =
    let p = err_from_is_err_and c.from_residual-in_err-feed.result c.from_residual-in_err-feed.ensures.1 in
    let pieces = c.args.pieces.now in
    let i = c.loop-piece.piece-index in
    let x = c.loop-piece.upgrade in
    let inv = c.loop-piece.invariant in
    let input = joined (take i pieces) in
    let behind = joined (drop (i + 1) pieces) in
    let fault = c.in_err-feed.field-0.0 in
    rw (p.1, p.2) (λ ne. fault_comes x c.args.role c.args.key input _ behind (joined pieces) fault c.feed.new.self.pending inv.role inv.own
    (ap (λ (t : List ℕ). t ++ behind) (joined_more pieces i _ c.loop-piece-test.true) ∙ joined_parts pieces (i + 1))
    (c.in_err-feed.ensures.upgrades input [] inv.stands (λ e. ne cc)))

pub returns-in-Up-clause-outcome : goal.returns-in-Up-clause-outcome
returns-in-Up-clause-outcome c =
    let pieces = c.args.pieces.now in
    let i = c.loop-piece.piece-index in
    let x = c.loop-piece.upgrade in
    let inv = c.loop-piece.invariant in
    let input = joined (take i pieces) in
    let behind = joined (drop (i + 1) pieces) in
    up_comes x c.args.role c.args.key c.in-Up.proven input _ behind (joined pieces) c.in-Up.used c.in_ok-feed.field-0 c.feed.new.self.pending c.take_output.result.items inv.role inv.own c.in-Up.is
    (ap (λ (t : List ℕ). t ++ behind) (joined_more pieces i _ c.loop-piece-test.true) ∙ joined_parts pieces (i + 1))
    c.take_output.ensures.output (c.in_ok-feed.ensures.upgrades input [] inv.stands (λ e. cc))

pub loop-piece-preserved : goal.loop-piece-preserved
loop-piece-preserved c =
    let pieces = c.args.pieces.now in
    let i = c.loop-piece.piece-index in
    let x = c.loop-piece.upgrade in
    let inv = c.loop-piece.invariant in
    let input = joined (take i pieces) in
    record {
      role = c.in_ok-feed.ensures.role ∙ inv.role;
      own = c.in_ok-feed.ensures.own ∙ inv.own;
      stands = step_on x c.feed.new.self input _ (joined (take (i + 1) pieces)) c.in_ok-feed.field-0 c.in-Going.is (joined_more pieces i _ c.loop-piece-test.true) (c.in_ok-feed.ensures.stands input [] inv.stands);
    }

pub returns-clause-outcome : goal.returns-clause-outcome
returns-clause-outcome c =
    let pieces = c.args.pieces.now in
    let i = c.loop-piece.piece-index in
    let x = c.loop-piece.upgrade in
    let inv = c.loop-piece.invariant in
    going_comes x c.args.role c.args.key (joined (take i pieces)) (joined pieces) _ inv.role inv.own (ap joined (take_past pieces i (omega (arith, c.loop-piece-test.false)))) c.take_output-2.ensures.output inv.stands
