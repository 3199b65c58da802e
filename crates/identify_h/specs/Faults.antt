-- The faults of identify (this project's profile).
use Rattle.std.specs.Prelude.{ℕ}
use Rattle.varint_proto.specs.declared.fault.IncomingRefused.{IncomingRefused}
use Rattle.varint_proto.specs.declared.fault.IncomingRefused.TheVariants as incoming
use Rattle.peer_ids.specs.declared.fault.KeyFault.{KeyFault}
use Rattle.peer_ids.specs.declared.fault.KeyFault.TheVariants as keys
use Rattle.identify_h.specs.declared.fault.IdentifyFault.{IdentifyFault}
use Rattle.identify_h.specs.declared.fault.IdentifyFault.TheVariants.{Failed, TooLong, TooMany, Wire, OtherKey, Cut}
use Rattle.identify_h.specs.declared.fault.IdentifyFault.TheVariants.{OutOfMemory}

-- the number that a connection is told
abbrev pub number_of : IdentifyFault → ℕ
number_of Failed = 1
number_of TooLong = 2
number_of TooMany = 3
number_of Wire = 4
number_of OtherKey = 5
number_of Cut = 6
number_of OutOfMemory = 7

-- a key that isn't read is another key
abbrev pub of_key_fault : KeyFault → IdentifyFault
of_key_fault keys.OutOfMemory = OutOfMemory
of_key_fault fault = OtherKey

abbrev pub of_incoming : IncomingRefused → IdentifyFault
of_incoming incoming.Failed = Failed
of_incoming incoming.BadLength = Wire
of_incoming incoming.TooLong = TooLong
of_incoming incoming.OutOfMemory = OutOfMemory
