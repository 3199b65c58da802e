-- What an end writes first, and what begins with nothing heard.
use Rattle.std.proofs.Common.{◌≢◌, ℕ, ◌+◌, if◌then◌else◌, List, [], ◌∷◌, ◌++◌, None, Ok, refl, inl, arith}
use Rattle.std.proofs.lemmas.List.Elements.{All-nil}
use Rattle.ms_select.specs.declared.answer.Answer.TheVariants.{Going}
use Rattle.ms_select.specs.Messages.{header, spelled, IsShort, ReadsMessage}
use Rattle.plaintext_x.specs.Exchange.{Exchanges}
use Rattle.talks.specs.Talks.{Talks}
use Rattle.upgrade.specs.declared.role.ConnRole.{ConnRole}
use Rattle.upgrade.specs.declared.role.ConnRole.TheVariants.{Dialer, Listener}
use Rattle.upgrade.specs.Upgrades.{side_of}

-- an exchange that has heard nothing
pub nothing_exchanged : Exchanges [] (Ok None) 0
nothing_exchanged = (inl (tt, omega arith), refl)

-- the first bytes of a talk
abbrev pub opening : ConnRole → List ℕ → List ℕ
opening Dialer name = spelled (header ∷ name ∷ [])
opening Listener name = spelled (header ∷ [])

nothing_came : ReadsMessage [] (Ok None)
nothing_came = inl (tt, omega arith)

pub opens : (role : ConnRole) (name : List ℕ) → Talks (side_of role name) [] (Ok Going) (opening role name)
opens Dialer name = ([], [], record { answered = record { parts = refl; refusals = tt }; left = omega arith }, nothing_came, refl, refl)
opens Listener name = ([], [], record { parts = refl; short = All-nil IsShort; undecided = tt }, nothing_came, refl, refl)

-- ---- none of it is empty

some_front : (a b : List ℕ) → a ≢ [] → a ++ b ≢ []
some_front [] b ne e = ne refl
some_front (n ∷ a) b ne e = absurd cc

pub some_more : (a b : List ℕ) → a ≢ [] → a ++ b ≢ []
some_more a b ne e = some_front a b ne e
