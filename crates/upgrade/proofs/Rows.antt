-- The worked rows.
use Rattle.std.proofs.Common.{refl, inl, inr}
use Rattle.varint_proto.specs.Varint.{shortest, shortest_within}
use Rattle.ms_select.specs.Messages.{message}
use Rattle.upgrade.specs.declared.role.ConnRole.TheVariants.{Listener}
use Rattle.upgrade.specs.Upgrades.{plaintext}
use Rattle.upgrade.specs.Rows.{own, hello, WorkedRows}
use Rattle.upgrade.proofs.Opening.{opens}
use Rattle.upgrade.proofs.Leading.{exchange_begins}
use Rattle.upgrade.proofs.Ends.{plaintext_agreed}

pub worked_rows : WorkedRows
unfolding message shortest shortest_within
worked_rows = record {
  first_negotiation = refl;
  second_negotiation = refl;
  listener_sends_its_header = inl (inl (opens Listener plaintext));
  listener_sends_its_exchange = inr (exchange_begins Listener own hello hello 0 (plaintext_agreed Listener));
}
