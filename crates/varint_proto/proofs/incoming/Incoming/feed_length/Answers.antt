use Rattle.std.proofs.Common.{◌++◌, ℕ, Err, take, subst}
use Rattle.std.proofs.lemmas.Result.{err_from_is_err_and}
use Rattle.varint_proto.specs.Incoming.{ReadsFramed}
use Rattle.varint_proto.proofs.Arriving.{fault_at}
use Rattle.varint_proto.proofs.incoming.Incoming.feed_length.Goals as goal

pub returns-in_err-take_digit-clause-fault : goal.returns-in_err-take_digit-clause-fault
returns-in_err-take_digit-clause-fault c = λ input s.
    let p = err_from_is_err_and c.from_residual.result c.from_residual.ensures.1 in
    let i = c.loop-index.index in
    let piece = c.args.piece.now in
    let fault = c.in_err-take_digit.field-0.0 in
    let here = c.in_err-take_digit.ensures.fault (input ++ take i piece) (c.loop-index.invariant.stands input s) in
    rw (p.1, p.2) (λ ne.
    subst (λ (limit : ℕ). ReadsFramed limit (input ++ piece) (Err fault)) c.loop-index.invariant.limit
    (fault_at c.loop-index.self.limit input piece i fault c.loop-index-test.true (here ne)))
