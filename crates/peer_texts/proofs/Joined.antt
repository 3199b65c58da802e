-- Lines that are printed one behind the other.
use Rattle.std.proofs.Common.{ℕ, List, [], ◌∷◌, ◌++◌, Option, refl, sym, ap, ◌∙◌}
use Rattle.std.proofs.lemmas.List.{append_assoc, append-nil}
use Rattle.std.specs.Io.KnownBytes.{Appends}
use Rattle.std.proofs.KnownBytes.{Appends-trans}
use Rattle.identify_h.specs.Messages.{Message}
use Rattle.peer_texts.specs.Said.{maybe_line, said_line, IsAddrLine, AreAddrLines, IsMaybeAddr, IsSaid}
use Rattle.std.specs.Prelude.{codes, flat_map}

-- one address more
pub more_addrs : (word : List ℕ) (addrs : List (List ℕ)) (bytes printed line : List ℕ) → AreAddrLines word addrs printed
    → IsAddrLine word bytes line → AreAddrLines word (addrs ++ bytes ∷ []) (printed ++ line)
more_addrs word [] bytes printed line none is = (line, [], is, refl, ap (λ it. it ++ line) none ∙ sym (append-nil line))
more_addrs word (addr ∷ addrs) bytes printed line are is = (
  are.0,
  are.1 ++ line,
  are.2,
  more_addrs word addrs bytes are.1 line are.3 is,
  ap (λ it. it ++ line) are.4 ∙ append_assoc are.0 are.1 line,
)

-- all parts, in order
pub all_said : (a b c d e f : Option (List ℕ)) (said : Message) (listen observed : List ℕ)
    → Appends a b (maybe_line (codes "version") said.version) → Appends b c (maybe_line (codes "agent") said.agent)
    → Appends c d (flat_map (said_line (codes "protocol")) said.protocols) → AreAddrLines (codes "listen") said.listen listen → Appends d e listen
    → IsMaybeAddr (codes "observed") said.observed observed → Appends e f observed
    → (printed : List ℕ) × IsSaid said printed × Appends a f printed
all_said a b c d e f said listen observed version agent protocols listens listened observes observed_last =
    let version_line = maybe_line (codes "version") said.version in
    let agent_line = maybe_line (codes "agent") said.agent in
    let protocol_lines = flat_map (said_line (codes "protocol")) said.protocols in (
      version_line ++ (agent_line ++ (protocol_lines ++ (listen ++ observed))),
      record { listen = listen; observed = observed; listen_is = listens; observed_is = observes; printed_is = refl },
      Appends-trans a b f version_line _ version (Appends-trans b c f agent_line _ agent
          (Appends-trans c d f protocol_lines _ protocols (Appends-trans d e f listen observed listened observed_last))),
    )
