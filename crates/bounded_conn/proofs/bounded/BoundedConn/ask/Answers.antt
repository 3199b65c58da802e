use Rattle.std.proofs.Common.{refl, inl, inr, arith}
use Rattle.bounded_conn.proofs.Bounding.{of_some}
use Rattle.bounded_conn.proofs.bounded.BoundedConn.ask.Goals as goal

pub returns-then-waiting-gt-MOST_WAITING-clause-asks : goal.returns-then-waiting-gt-MOST_WAITING-clause-asks
returns-then-waiting-gt-MOST_WAITING-clause-asks g c =
    of_some _ _ _ _ c.in-Some.conn _ _ c.in-Some.is (
      c.ask-asked.result,
      c.ask-asked.new.self,
      (c.ask-asked.ensures.refused, c.ask-asked.ensures.asked),
      inr (omega (arith, c.if-waiting-gt-MOST_WAITING.true, c.waiting.ensures.waiting), c.take.ensures.after, refl),
    )

pub returns-clause-asks : goal.returns-clause-asks
returns-clause-asks g c =
    of_some _ _ _ _ c.in-Some.conn _ _ c.in-Some.is (
      c.ask-asked.result,
      c.ask-asked.new.self,
      (c.ask-asked.ensures.refused, c.ask-asked.ensures.asked),
      inl (omega (arith, c.if-waiting-gt-MOST_WAITING.false, c.waiting.ensures.waiting), refl, refl),
    )
