use Rattle.std.proofs.Common.{◌≡◌, take, map, string_bytes}
use Rattle.ms_select.proofs.names.copied.Given as goal

abbrev pub invariant-loop-name : goal.invariant-loop-name
invariant-loop-name l = map string_bytes l.copies.items ≡ map (λ name. name.now) (take l.name-index l.names)
