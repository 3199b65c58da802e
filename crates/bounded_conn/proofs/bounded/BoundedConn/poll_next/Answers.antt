use Rattle.std.proofs.Common.{refl, inl, inr, arith}
use Rattle.bounded_conn.proofs.Bounding.{of_some}
use Rattle.bounded_conn.proofs.bounded.BoundedConn.poll_next.Goals as goal

pub returns-then-waiting-gt-MOST_WAITING-clause-polls : goal.returns-then-waiting-gt-MOST_WAITING-clause-polls
returns-then-waiting-gt-MOST_WAITING-clause-polls g c =
    of_some _ _ _ _ c.in-Some.conn _ _ c.in-Some.is (
      c.poll_next-polled.result,
      c.poll_next-polled.new.self,
      (c.poll_next-polled.ensures.follows, c.poll_next-polled.ensures.polls),
      inr (omega (arith, c.if-waiting-gt-MOST_WAITING.true, c.waiting-waiting.ensures.waiting), c.take.ensures.after, refl),
    )

pub returns-clause-polls : goal.returns-clause-polls
returns-clause-polls g c =
    of_some _ _ _ _ c.in-Some.conn _ _ c.in-Some.is (
      c.poll_next-polled.result,
      c.poll_next-polled.new.self,
      (c.poll_next-polled.ensures.follows, c.poll_next-polled.ensures.polls),
      inl (omega (arith, c.if-waiting-gt-MOST_WAITING.false, c.waiting-waiting.ensures.waiting), refl, refl),
    )
