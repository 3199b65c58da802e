-- Bytes as they lie in memory: what contracts see of vectors and slices. Source: this project's profile.
use Rattle.std.specs.Prelude.{◌≡◌, ℕ, List, map, Option}
use Rattle.std.specs.Global.{Vec}
use Rattle.std.specs.Option.{option_copied, option_map}
use Rattle.varint_proto.specs.Message.{Entry, last_body}
use Rattle.identify_h.specs.declared.parts.LastParts.{LastParts}

abbrev pub texts : List (Vec ℕ) → List (List ℕ)
texts list = map (λ v. v.items) list

abbrev pub text : Option (Vec ℕ) → Option (List ℕ)
text part = option_map (λ (v : Vec ℕ). v.items) part

-- these are the last fields of their numbers
pub record AreLast (fields : List Entry) (parts : LastParts) : Type 0 where
  pub key : option_copied parts.key ≡ last_body 1 fields
  pub observed : option_copied parts.observed ≡ last_body 4 fields
  pub version : option_copied parts.version ≡ last_body 5 fields
  pub agent : option_copied parts.agent ≡ last_body 6 fields
