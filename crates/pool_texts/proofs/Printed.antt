-- What is printed piece by piece is a row's line.
use Rattle.std.proofs.Common.{◌≡◌, ℕ, List, [], ◌∷◌, ◌++◌, Option, Result, Ok, Err, Bor, subst, append_assoc, arith}
use Rattle.std.specs.Prelude.{OnOk, IsUtf8, MatchResult, decimal}
use Rattle.std.specs.Result.{result_unwrap_or}
use Rattle.std.specs.Io.KnownBytes.{Appends}
use Rattle.std.proofs.KnownBytes.{Appends-trans}
use Rattle.std.proofs.lemmas.Str.{IsUtf8-from_ascii}
use Rattle.std.proofs.lemmas.Str.Ascii.{IsAscii-from_all}
use Rattle.pool_state.specs.AgentName.{IsAgentName}
use Rattle.pool_state.specs.declared.row.Row.{Row}
use Rattle.pool_texts.specs.Printed.{line, side_text, phase_text, peer_text, counts_text, agent_text, row_text}

pub on_ok : {X E : Type 0} (A B : Type 0) (r : Result X E) → (A → B) → OnOk r A → OnOk r B
on_ok A B (Ok x) f h = f h
on_ok A B (Err e) f h = tt

-- the first piece of a row's line
abbrev pub front_of : List ℕ → Row → List ℕ
front_of begin row =
    begin ++ (99 ∷ 111 ∷ 110 ∷ 110 ∷ 32 ∷ (decimal row.conn ++ (32 ∷ (side_text row.role ++ (32 ∷ (phase_text row.phase ++ (32 ∷ [])))))))

pub row_printed : (a b c d e : Option (List ℕ)) (begin : List ℕ) (row : Row) → Appends a b (front_of begin row)
    → Appends b c (peer_text row.peer) → Appends c d (counts_text row.asked row.done)
    → Appends d e (agent_text row.agent ++ 10 ∷ []) → Appends a e (line begin (row_text row))
unfolding row_text
row_printed a b c d e begin row front peer counts agent =
    let all = Appends-trans a b e _ _ front (Appends-trans b c e _ _ peer (Appends-trans c d e _ _ counts agent)) in
    let same : front_of begin row ++ (peer_text row.peer ++ (counts_text row.asked row.done ++ (agent_text row.agent ++ 10 ∷ [])))
    ≡ line begin (row_text row) = simp append_assoc in
    subst (λ (text : List ℕ). Appends a e text) same all

name_is_text : (name : List ℕ) → IsAgentName name → IsUtf8 name
name_is_text name h = IsUtf8-from_ascii name (IsAscii-from_all name (λ place d inside. omega (arith, h.printable place d inside)))

-- an agent's name is read as a text
pub name_read : {E : Type 0} (B : E → Type 0) (name : List ℕ) (read : Result (Bor (List ℕ)) E) (other : Bor (List ℕ))
    → IsAgentName name → MatchResult read (λ s. (s.now ≡ name) × IsUtf8 name) (λ e. ¬ IsUtf8 name × B e)
    → (result_unwrap_or read other).now ≡ name
name_read B name (Ok s) other h is = is.0
name_read B name (Err e) other h is = absurd (is.0 (name_is_text name h))
