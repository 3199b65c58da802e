-- The list of an end grows.
use Rattle.std.proofs.Common.{◌≡◌, ℕ, List, [], ◌∷◌, ◌++◌, refl, sym, ap, ◌∙◌}
use Rattle.std.proofs.lemmas.List.{append_assoc}
use Rattle.conn_log.specs.Entries.{Entry, asks}
use Rattle.conn_log.specs.Entries.Entry.{Asks}
use Rattle.conn_log.proofs.Settling.{asks_append}
use Rattle.conn_core.specs.Connects.{IsGrown, IsOpened}

-- by nothing
pub stays : {H : Type 0} (log : List (Entry H)) → IsGrown [] log log
stays log = record { newer = []; now_is = refl; opened_are = refl }

-- twice
pub grown_on : {H : Type 0} (first second : List (ℕ × ℕ)) (log between now : List (Entry H)) → IsGrown first log between → IsGrown second between now → IsGrown (first ++ second) log now
grown_on first second log between now one two = record {
  newer = two.newer ++ one.newer;
  now_is = two.now_is ∙ ap (λ (l : List (Entry _)). two.newer ++ l) one.now_is ∙ sym (append_assoc two.newer one.newer log);
  opened_are = asks_append two.newer one.newer ∙ ap (λ (o : List (ℕ × ℕ)). o ++ asks two.newer) one.opened_are ∙ ap (λ (o : List (ℕ × ℕ)). first ++ o) two.opened_are;
}

-- by an opening, and by what followed it, which opened no other
pub opens : {H : Type 0} (number index : ℕ) (later log : List (Entry H)) → asks later ≡ [] → IsOpened number index log (later ++ Asks number index ∷ log)
opens number index later log alone = record { later = later; now_is = refl; alone = alone }

pub one_opened : {H : Type 0} (number index : ℕ) (log now : List (Entry H)) → IsOpened number index log now → IsGrown ((number, index) ∷ []) log now
one_opened number index log now opened = record {
  newer = opened.later ++ Asks number index ∷ [];
  now_is = opened.now_is ∙ sym (append_assoc opened.later (Asks number index ∷ []) log);
  opened_are = asks_append opened.later (Asks number index ∷ []) ∙ ap (λ t. (number, index) ∷ t) opened.alone;
}
