-- What a try of a socket moves.
-- Source: POSIX.1-2017 (the specification of `read` and `write` on a socket that doesn't block): a front part of the
-- buffer is moved, and where the call fails, also with EAGAIN, nothing is.
use Rattle.std.specs.Prelude.{ℕ, List, take, Result, Ok, Err}
use Rattle.std.specs.declared.io.Error.{Error}

-- how many bytes
abbrev pub count_tried : Result ℕ Error → ℕ
count_tried (Ok count) = count
count_tried (Err error) = 0

-- which bytes
abbrev pub bytes_tried : Result ℕ Error → List ℕ → List ℕ
bytes_tried tried buffer = take (count_tried tried) buffer
