-- What was written before still waits where memory was refused.
use Rattle.std.proofs.Common.{◌≡◌, ℕ, List, [], ◌++◌, Result, Ok, Err, sym, ap, ◌∙◌}
use Rattle.std.specs.Prelude.{OnErr}
use Rattle.std.proofs.lemmas.List.{append_assoc, append-nil}
use Rattle.upgrade.specs.Upgrades.{Grows}

pub if_err : {A E Q : Type 0} (r : Result A E) → Q → OnErr r Q
if_err (Ok x) q = tt
if_err (Err e) q = q

pub on_err : {A E P Q : Type 0} (r : Result A E) → (P → Q) → OnErr r P → OnErr r Q
on_err (Ok x) f p = tt
on_err (Err e) f p = f p

pub all_waits : (bytes : List ℕ) → Grows bytes bytes
all_waits bytes = ([], sym (append-nil bytes))

pub grows_on : (first middle same later : List ℕ) → Grows first middle → same ≡ middle → Grows same later → Grows first later
grows_on first middle same later a is b = (a.0 ++ b.0, b.1 ∙ ap (λ t. t ++ b.0) (is ∙ a.1) ∙ append_assoc first a.0 b.0)
