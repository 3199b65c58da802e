use Rattle.std.proofs.Common.{rules, ◌≡◌, ◌++◌, ◌+◌, ℕ, Ok, false, length, drop, subst, ◌∙◌}
use Rattle.varint_proto.specs.Incoming.{ReadsFramed, whole_at}
use Rattle.varint_proto.proofs.Arriving.{stands_on, reads_on}
use Rattle.varint_proto.proofs.incoming.Incoming.feed.Goals as goal

pub returns-clause-stands : goal.returns-clause-stands
returns-clause-stands c = λ input s.
    stands_on c.take_body-bytes.new.self input c.args.piece.now c.in_ok-digits.digits c.take_body-bytes.result.0
    (c.take_body-bytes.ensures.stands _ (c.in_ok-digits.ensures.stands input s))

pub returns-clause-reads : goal.returns-clause-reads
returns-clause-reads c = λ input s.
    let x = c.take_body-bytes.new.self in
    let piece = c.args.piece.now in
    let used = c.in_ok-digits.digits + c.take_body-bytes.result.0 in
    let whole = c.take_body-bytes.result.1 in
    let all : whole ≡ false → used ≡ length piece = search rules in
    let reads = reads_on x input piece used whole (returns-clause-stands c input s) c.take_body-bytes.ensures.whole all in
    subst (λ (limit : ℕ). ReadsFramed limit (input ++ piece) (Ok (whole_at whole x.body (drop used piece)))) (c.take_body-bytes.ensures.limit ∙ c.in_ok-digits.ensures.limit) reads
