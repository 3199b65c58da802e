-- What an exchange comes to is decided by the bytes that it used.
use Rattle.std.proofs.Common.{◌≡◌, ℕ, ◌+◌, Some, None, Ok, Err, List, [], ◌++◌, length, sym, ap, ◌∙◌, subst, append_assoc, arith}
use Rattle.std.proofs.lemmas.List.{append-nil}
use Rattle.varint_proto.proofs.Lists.{used_front, no_rest}
use Rattle.plaintext_x.specs.Exchange.{Exchanges, NothingBehind}

nothing_more : (first : List ℕ) → length first + 0 ≡ length first
nothing_more first = omega arith

pub nothing_behind : NothingBehind
nothing_behind first rest (Ok None) x = subst (λ (t : List ℕ). Exchanges t (Ok None) (length first)) (no_rest first rest x.1) x
nothing_behind first rest (Err fault) x = subst (λ (t : List ℕ). Exchanges t (Err fault) (length first)) (no_rest first rest x.1) x
nothing_behind first rest (Ok (Some key)) x =
    let begins = x.2.begins in
    let front : List ℕ = begins.0 ++ x.0 in
    let parts : first ++ rest ≡ front ++ x.1 = begins.2 ∙ sym (append_assoc begins.0 x.0 x.1) in
    let is : first ≡ begins.0 ++ (x.0 ++ []) = used_front first rest front x.1 parts x.4 ∙ ap (λ t. begins.0 ++ t) (sym (append-nil x.0)) in
    (x.0, [], record { begins = (begins.0, begins.1, is); allowed = x.2.allowed }, x.3, nothing_more first)
