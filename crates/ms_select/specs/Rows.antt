-- Worked rows of the definitions, each with its place in the standard, or in this project's profile.
use Rattle.std.specs.Prelude.{◌≡◌, ℕ, List, [], ◌∷◌, ◌++◌, replicate, codes, Some, None, Ok, Err}
use Rattle.ms_select.specs.declared.answer.Answer.TheVariants.{Agreed, NoneLeft}
use Rattle.ms_select.specs.declared.fault.SelectFault.TheVariants.{BadLength, NoNewline, BadHeader, NotProposed}
use Rattle.ms_select.specs.Messages.{header, na, ls, message, ReadsMessage}
use Rattle.ms_select.specs.Listening.{IsName, choice, Listens}
use Rattle.ms_select.specs.Dialing.{Dials}

-- two names, and messages as they are spelt
abbrev pub x : List ℕ
x = codes "/x"

abbrev pub y : List ℕ
y = codes "/y"

abbrev pub header_bytes : List ℕ
header_bytes = 19 ∷ (codes "/multistream/1.0.0" ++ 10 ∷ [])

abbrev pub x_bytes : List ℕ
x_bytes = 3 ∷ 47 ∷ 120 ∷ 10 ∷ []

abbrev pub y_bytes : List ℕ
y_bytes = 3 ∷ 47 ∷ 121 ∷ 10 ∷ []

abbrev pub na_bytes : List ℕ
na_bytes = 3 ∷ 110 ∷ 97 ∷ 10 ∷ []

pub record WorkedRows : Type 0 where
  -- multistream-select 1.0, "Protocol Negotiation": a length, a text and a newline, which the length counts
  pub header_message : message header ≡ header_bytes
  pub na_message : message na ≡ na_bytes
  -- profile: a length is at most 1024, which a name of 1023 bytes has; and what is no message
  pub longest_message : ReadsMessage (message (replicate 1023 97)) (Ok (Some (replicate 1023 97)))
  pub longer_message : ReadsMessage (129 ∷ 8 ∷ []) (Err BadLength)
  pub message_without_a_newline : ReadsMessage (2 ∷ 97 ∷ 98 ∷ []) (Err NoNewline)
  pub longest_name : IsName (replicate 1023 97) × ¬ IsName (replicate 1024 97)
  -- multistream-select 1.0, "Protocol Negotiation": a dialer of /x and /y, its answers and what it sends
  pub dialer_agrees_on_its_second_name : Dials (x ∷ y ∷ []) (header_bytes ++ na_bytes ++ y_bytes) (Ok (Agreed 1)) 28
      (header_bytes ++ x_bytes ++ y_bytes)
  pub dialer_has_no_name_left : Dials (x ∷ y ∷ []) (header_bytes ++ na_bytes ++ na_bytes ++ 7 ∷ []) (Ok NoneLeft) 28
      (header_bytes ++ x_bytes ++ y_bytes)
  pub answer_that_was_not_proposed : Dials (x ∷ y ∷ []) (header_bytes ++ y_bytes) (Err NotProposed) 24
      (header_bytes ++ x_bytes)
  -- the same: a listener of /y, which uses no byte after the agreement
  pub listener_agrees_on_the_second_proposal : Listens (y ∷ []) (header_bytes ++ x_bytes ++ y_bytes ++ 7 ∷ [])
      (Ok (Agreed 0)) 28 (header_bytes ++ na_bytes ++ y_bytes)
  pub proposal_before_the_header : Listens (y ∷ []) y_bytes (Err BadHeader) 4 header_bytes
  -- profile: ls is supported by none, also where it is listed
  pub ls_is_not_supported : choice (ls ∷ []) ls ≡ None
