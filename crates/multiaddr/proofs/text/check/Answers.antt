use Rattle.std.proofs.Common.{Some, ◌++◌, refl}
use Rattle.std.specs.Option.{option_copied}
use Rattle.multiaddr.specs.Part.{part, spelling}
use Rattle.multiaddr.proofs.TextParts.{SoFar, one_more}
use Rattle.multiaddr.proofs.text.check.Goals as goal

pub loop-left-preserved : goal.loop-left-preserved
loop-left-preserved c =
    let bytes = c.loop-left.invariant.0 in
    let here : SoFar c.args.text.now bytes (Some c.in-Some.rest.now) = rw c.in-Some.is at c.loop-left.invariant.1 in
    let found = c.in_ok-protocol.ensures.found in
    let read = c.if-not-is_value.ensures.found refl in (
      bytes ++ spelling (part c.in_ok-protocol.protocol read.0),
      one_more c.args.text.now bytes c.in-Some.rest.now c.in_ok-protocol.value.now read.0 c.in_ok-protocol.protocol (option_copied c.in_ok-protocol.tail) here found.0 found.1 read.1,
    )
