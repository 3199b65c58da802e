-- A line is the wish for a listing, or a call's name, alone or with the rest of the call behind a space.
use Rattle.std.proofs.Common.{◌≡◌, ◌⊎◌, ℕ, true, List, None, Some, refl, sym, ap, ◌∙◌, arith, inl, inr}
use Rattle.std.specs.Prelude.{codes, slice_index}
use Rattle.pool_state.specs.declared.call.Call.{Call}
use Rattle.pool_state.specs.declared.call.Call.TheVariants as call
use Rattle.pool_texts.specs.declared.line.Line.{Line}
use Rattle.pool_texts.specs.declared.line.Line.TheVariants as line
use Rattle.pool_texts.specs.Lines.{ArePair, name_of, SaysRest, Says}
use Rattle.pool_texts.proofs.Peers.{no_dash}
use Rattle.pool_texts.proofs.Tails.{is_whole, no_pair, Splits, IsWord, with_rest, alone}

whole_name : (other : Call) → is_whole (name_of other) ≡ true
unfolding is_whole
whole_name (call.Dial expected) = refl
whole_name other = refl

-- a dial of nobody is said by no other words
pub dial_alone : (words : List ℕ) (other : Call) → words ≡ codes "-" → codes "dial" ≡ name_of other → SaysRest (Some words) other
    → call.Dial None ≡ other
dial_alone words (call.Dial None) dash named rest = refl
dial_alone words (call.Dial (Some peer)) dash named rest = absurd (no_dash peer (rw dash at rest))
dial_alone words other dash named rest = absurd (omega (arith, ap (λ (word : List ℕ). slice_index word 2) named))

-- a line with a space makes a call of the name before it and the words behind it
pub calls_with : (text name words : List ℕ) → ArePair text name words → Splits text name words → (it : Line) → Says text it
    → (other : Call) × (line.Call other ≡ it) × (name ≡ name_of other) × SaysRest (Some words) other
unfolding is_whole
calls_with text name words pair split line.List is = absurd (no_pair text name words (ap is_whole is) pair)
calls_with text name words pair split (line.Call other) is =
    let said = with_rest name_of SaysRest whole_name text name words pair split other is in
    (other, refl, said.0, said.1)

accepts : (other : Call) → SaysRest None other → call.Accept ≡ other
accepts call.Accept said = refl
accepts other said = absurd said

-- a line without one is one of two words
pub says_alone : (text : List ℕ) → IsWord text → (it : Line) → Says text it
    → ((text ≡ codes "list") × (line.List ≡ it)) ⊎ ((text ≡ codes "accept") × (line.Call call.Accept ≡ it))
says_alone text unsplit line.List is = inl (is, refl)
says_alone text unsplit (line.Call other) is =
    let said = alone name_of SaysRest whole_name text unsplit other is in
    let accept = accepts other said.1 in
    inr (said.0 ∙ sym (ap name_of accept), ap line.Call accept)
