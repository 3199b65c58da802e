-- What an errand asks of a connection.
-- Source: this project's profile; an index is that of the program's protocols: identify 0, its push 1, ping 2.
use Rattle.std.specs.Prelude.{ℕ}
use Rattle.node_terms.specs.declared.errand.Errand.{Errand}
use Rattle.node_terms.specs.declared.errand.Errand.TheVariants.{Identify, Ping}

-- the index of the protocol
abbrev pub index_of : Errand → ℕ
index_of Identify = 0
index_of (Ping count) = 2

-- how many streams it takes, one after the other
abbrev pub rounds_of : Errand → ℕ
rounds_of Identify = 1
rounds_of (Ping count) = count
