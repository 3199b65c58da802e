-- What the fields of a side keep. Inside: no public clause cites it.
use Rattle.std.specs.Prelude.{◌≡◌, ℕ, ◌<◌, ◌≤◌, false, List, length, Option, Some}
use Rattle.std.specs.List.{All}
use Rattle.varint_proto.specs.Incoming.{Arriving, IsWhole}
use Rattle.ms_select.specs.declared.answer.Answer.{Answer}
use Rattle.ms_select.specs.declared.answer.Answer.TheVariants.{Going}
use Rattle.ms_select.specs.declared.verdict.Role.{Role}
use Rattle.ms_select.specs.declared.verdict.Role.TheVariants.{Dialer}
use Rattle.ms_select.specs.Messages.{longest, IsShort}

pub record IsSound (role : Role) (names : List (List ℕ)) (count : ℕ) (incoming : Arriving) (answer : Option Answer)
    : Type 0 where
  pub short : All IsShort names
  pub limit : incoming.limit ≡ longest
  pub name : role ≡ Dialer → answer ≡ Some Going → count < length names
  pub going : answer ≡ Some Going → incoming.failed ≡ false
  pub allowed : (len : ℕ) → answer ≡ Some Going → incoming.expected ≡ Some len → len ≤ longest
  pub partial : answer ≡ Some Going → ¬ IsWhole incoming
