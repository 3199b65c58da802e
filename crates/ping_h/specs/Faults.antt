-- The faults of pings (this project's profile).
use Rattle.std.specs.Prelude.{ℕ}
use Rattle.ping_h.specs.declared.fault.PingFault.{PingFault}
use Rattle.ping_h.specs.declared.fault.PingFault.TheVariants.{Failed, WrongEcho, Cut, OutOfMemory}

-- the number that a connection is told
abbrev pub number_of : PingFault → ℕ
number_of Failed = 1
number_of WrongEcho = 2
number_of Cut = 3
number_of OutOfMemory = 4
