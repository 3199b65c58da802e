-- Which listings show what is awaited, and what is printed of it.
-- Source: this project's profile, `await` of `node run`.
use Rattle.std.specs.Prelude.{◌≡◌, ℕ, ◌-◌, ◌^◌, min, Bool, true, false, List, [], ◌∷◌, ◌++◌, is_some, codes, decimal}
use Rattle.std.specs.Prelude.{slice_index, count_by, sum_by}
use Rattle.pool_state.specs.declared.row.Phase.{Phase}
use Rattle.pool_state.specs.declared.row.Phase.TheVariants as phase
use Rattle.pool_state.specs.declared.row.Row.{Row}
use Rattle.node_lines.specs.declared.script.Awaited.{Awaited}
use Rattle.node_lines.specs.declared.script.Awaited.TheVariants as awaited

abbrev pub is_live : Phase → Bool
is_live phase.Live = true
is_live other = false

-- How many connections are live, and have named an agent.
abbrev pub lives_in : List Row → ℕ
lives_in rows = count_by (λ row. is_live row.phase) rows

abbrev pub agents_in : List Row → ℕ
agents_in rows = count_by (λ row. is_some row.agent) rows

-- How many streams of the protocol are done on all of them, which stops at the largest number of 64 bits.
abbrev pub done_in : List Row → ℕ → ℕ
done_in rows index = min (sum_by (λ row. slice_index row.done index) rows) (2 ^ 64 - 1)

abbrev pub Shows : List Row → Awaited → Type 0
Shows rows (awaited.Live count) = lives_in rows ≡ count
Shows rows awaited.None = rows ≡ []
Shows rows (awaited.Done index count) = done_in rows index ≡ count
Shows rows (awaited.Agent count) = agents_in rows ≡ count

abbrev pub awaited_text : Awaited → List ℕ
awaited_text (awaited.Live count) = codes "live " ++ decimal count
awaited_text awaited.None = codes "none"
awaited_text (awaited.Done index count) = codes "done " ++ (decimal index ++ 32 ∷ decimal count)
awaited_text (awaited.Agent count) = codes "agent " ++ decimal count
