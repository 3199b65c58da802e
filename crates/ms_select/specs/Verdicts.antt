-- What a side answers to a text, and the text that it sends then. Inside: no public clause cites it.
use Rattle.std.specs.Prelude.{ℕ, ◌+◌, ◌==◌, Bool, true, false, if◌then◌else◌, List, [], length, slice_get, Option, Some}
use Rattle.std.specs.Prelude.{None, Result, Ok, Err}
use Rattle.std.specs.Option.{option_map_or}
use Rattle.std.specs.Str.{bytes_eq}
use Rattle.ms_select.specs.declared.answer.Answer.{Answer}
use Rattle.ms_select.specs.declared.answer.Answer.TheVariants.{Going, Agreed, NoneLeft}
use Rattle.ms_select.specs.declared.fault.SelectFault.{SelectFault}
use Rattle.ms_select.specs.declared.fault.SelectFault.TheVariants.{BadHeader, NotProposed}
use Rattle.ms_select.specs.declared.verdict.Role.{Role}
use Rattle.ms_select.specs.declared.verdict.Role.TheVariants.{Dialer, Listener}
use Rattle.ms_select.specs.Messages.{header, na, message}
use Rattle.ms_select.specs.Listening.{choice}

abbrev pub Verdict : Type 0
Verdict = Answer × Option (List ℕ)

-- what a reply is spelt
abbrev pub said : Option (List ℕ) → List ℕ
said None = []
said (Some text) = message text

abbrev pub on_choice : Option ℕ → List ℕ → Verdict
on_choice (Some index) text = (Agreed index, Some text)
on_choice None text = (Going, Some na)

abbrev pub on_proposal : List (List ℕ) → List ℕ → Verdict
on_proposal names text = on_choice (choice names text) text

-- behind a refusal this name is the next one
abbrev pub on_refusal : List (List ℕ) → ℕ → Verdict
on_refusal names next = if next == length names then (NoneLeft, None) else (Going, slice_get names next)

-- this name is the standing proposal
abbrev pub is_standing : List (List ℕ) → ℕ → List ℕ → Bool
is_standing names count text = option_map_or (λ name. bytes_eq text name) (slice_get names count) false

abbrev pub on_reply : List (List ℕ) → ℕ → List ℕ → Result Verdict SelectFault
on_reply names count text =
    if bytes_eq text na then Ok (on_refusal names (count + 1))
    else (if is_standing names count text then Ok (Agreed count, None) else Err NotProposed)

abbrev pub verdict_of : Role → Bool → List (List ℕ) → ℕ → List ℕ → Result Verdict SelectFault
verdict_of role false names count text = if bytes_eq text header then Ok (Going, None) else Err BadHeader
verdict_of Listener true names count text = Ok (on_proposal names text)
verdict_of Dialer true names count text = on_reply names count text
