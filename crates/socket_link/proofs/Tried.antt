-- A try behind others that moved nothing.
use Rattle.std.proofs.Common.{◌≡◌, ℕ, List, [], Result, Err, refl, sym, ap, ◌∙◌, subst}
use Rattle.futures.specs.declared.task.Poll.{Poll}
use Rattle.futures.specs.declared.task.Poll.TheVariants.{Ready}
use Rattle.conn_link.specs.declared.link.LinkFault.{LinkFault}
use Rattle.conn_link.specs.Moving.{bytes_moved, MovesOn}
use Rattle.socket_link.specs.declared.link.SocketLink.{SocketLink}
use Rattle.socket_link.specs.Sockets.{LinkMoves}

module _ {S : Type 0} (moves : S → List ℕ → List ℕ → S → Type 0) where
  -- the socket was asked, and tried
  pub tried_on : MovesOn moves → (first mid next last : S) (given taken : List ℕ) → moves first [] [] mid → moves mid [] [] next
      → moves next given taken last → moves first given taken last
  tried_on on first mid next last given taken before asked behind =
      on first next last [] [] given taken (on first mid next [] [] [] [] before asked) behind

  -- it failed: only the failures are more
  pub failed_on : (is_shut : S → Type 0) (first mid last : SocketLink S) → mid.has_ended ≡ first.has_ended → mid.is_shut ≡ first.is_shut
      → moves first.socket [] [] mid.socket → last ≡ record mid { failures = last.failures } → LinkMoves moves is_shut first [] [] last
  failed_on is_shut first mid last ended shut moved same = (
    subst (λ (s : S). moves first.socket [] [] s) (sym (ap (λ l. l.socket) same)) moved,
    λ is. (refl, ap (λ l. l.has_ended) same ∙ (ended ∙ is)),
    λ is. ap (λ l. l.is_shut) same ∙ (shut ∙ is),
  )

pub none_moved : (polled : Poll (Result ℕ LinkFault)) (bytes : List ℕ) (fault : LinkFault) → polled ≡ Ready (Err fault) → bytes_moved polled bytes ≡ []
none_moved polled bytes fault is = ap (λ p. bytes_moved p bytes) is
