use Rattle.std.proofs.Common.{◌≡◌, ◌<◌, ◌^◌, Option, Some, None, List, ap, ℕ}
use Rattle.pool_state.specs.declared.call.Call.TheVariants as call
use Rattle.pool_state.specs.declared.limits.Config.{Config}
use Rattle.pool_state.specs.declared.listing.Listing.{Listing}
use Rattle.pool_state.specs.Table.{may_refuse, first_that_holds}
use Rattle.pool_state.proofs.Legal.{none_holds, number_fits}
use Rattle.pool_state.specs.declared.call.Reply.TheVariants.{Count}
use Rattle.pool_state.proofs.pool.Pool.answer.Goals as goal

pub returns-in-Disallow : goal.returns-in-Disallow
returns-in-Disallow c few = rw (c.in-Disallow.is, c.if-self.true) (ap (λ (n : ℕ). Count n) (c.closable_of-in-Disallow.ensures (few c.in-Disallow.peer)))

pub returns-in-HangUp : goal.returns-in-HangUp
returns-in-HangUp c few = rw c.in-HangUp.is (ap (λ (n : ℕ). Count n) (c.closable_of.ensures (few c.in-HangUp.peer)))

pub returns-in-Block : goal.returns-in-Block
returns-in-Block c few = rw c.in-Block.is (ap (λ (n : ℕ). Count n) (c.closable_of-in-Block.ensures (few c.in-Block.peer)))

dial_fits : (config : Config) (n : ℕ) (l : Listing) (p : Option (List ℕ)) → first_that_holds (may_refuse config n l (call.Dial p)) ≡ None → n < 2 ^ 32
dial_fits config n l None h = number_fits n (none_holds (may_refuse config n l (call.Dial None)) h).1.0
dial_fits config n l (Some p) h = number_fits n (none_holds (may_refuse config n l (call.Dial (Some p))) h).1.1.1.1.0
