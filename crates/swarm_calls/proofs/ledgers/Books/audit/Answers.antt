use Rattle.std.proofs.Common.{◌≡◌, ℕ, ◌+◌, ◌-◌, slice_index, slice_set, ap, ◌∙◌, arith}
use Rattle.std.proofs.lemmas.List.{set-get_or}
use Rattle.swarm_calls.specs.Ledgers.{caller_of}
use Rattle.swarm_calls.proofs.ledgers.Books.audit.Goals as goal

pub returns-clause-books : goal.returns-clause-books
returns-clause-books g c =
    let books = c.args.self.now in
    let place : ℕ = caller_of c.args.tally.now - 1 in
    let none : slice_index books place + 0 ≡ slice_index books place = omega arith in
    c.count.ensures.books ∙ (ap (λ (n : ℕ). slice_set books place n) none ∙ set-get_or books place 0)
