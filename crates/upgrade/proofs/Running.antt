-- A whole upgrade, piece by piece.
use Rattle.std.proofs.Common.{◌≡◌, ℕ, List, [], ◌++◌, take, drop, Option, Some, None, Result, Ok, Err, refl, sym, ap, ◌∙◌, subst, append_assoc}
use Rattle.std.proofs.lemmas.List.{append-nil, take-append-drop}
use Rattle.peer_ids.specs.Key.{Key}
use Rattle.upgrade.specs.declared.role.ConnRole.{ConnRole}
use Rattle.upgrade.specs.declared.fault.UpgradeFault.{UpgradeFault}
use Rattle.upgrade.specs.declared.upgrade.Progress.{Progress}
use Rattle.upgrade.specs.declared.upgrade.Progress.TheVariants.{Going, Up}
use Rattle.upgrade.specs.Upgrades.{Upgrades, ComesTo}
use Rattle.upgrade.specs.State.{Upgrading, Stands, used_of, outcome_of}
use Rattle.upgrade.proofs.Staying.{going_by, fault_stays}

abbrev pub went : Progress → Result Progress UpgradeFault
went progress = Ok progress

of_end : (x : Upgrading) (role : ConnRole) (own : Key) (input : List ℕ) (outcome : Result (Option Key) UpgradeFault) (written : List ℕ) → x.role ≡ role → x.own ≡ own → Upgrades x.role x.own input outcome written
    → Upgrades role own input outcome written
of_end x role own input outcome written r k u =
    subst (λ (o : Key). Upgrades role o input outcome written) k (subst (λ (r : ConnRole). Upgrades r x.own input outcome written) r u)

pub step_on : (old new : Upgrading) (input piece whole : List ℕ) (progress : Progress) → progress ≡ Going → input ++ piece ≡ whole → (went progress ≡ Ok Going → Stands new (input ++ piece) []) → Stands new whole []
step_on old new input piece whole progress e is s = subst (λ (t : List ℕ). Stands new t []) is (s (ap went e))

-- the connection comes up by a piece
pub up_comes : (x : Upgrading) (role : ConnRole) (own key : Key) (input piece behind whole : List ℕ) (used : ℕ) (progress : Progress) (written output : List ℕ) → x.role ≡ role → x.own ≡ own → progress ≡ Up used key
    → (input ++ piece) ++ behind ≡ whole → output ≡ written → Upgrades x.role x.own (input ++ used_of (Ok progress) piece) (outcome_of (Ok progress)) written
    → (first : List ℕ) × ComesTo role own whole first (Ok (Some key)) output
up_comes x role own key input piece behind whole used progress written output r k e is same u =
    let first : List ℕ = input ++ take used piece in
    let here = subst (λ (p : Progress). Upgrades x.role x.own (input ++ used_of (Ok p) piece) (outcome_of (Ok p)) written) e u in
    let there = of_end x role own first (Ok (Some key)) written r k here in
    let parts : input ++ piece ≡ first ++ drop used piece = ap (λ (t : List ℕ). input ++ t) (sym (take-append-drop used piece)) ∙ sym (append_assoc input (take used piece) (drop used piece)) in (
      first,
      record {
        rest = drop used piece ++ behind;
        input_is = sym is ∙ ap (λ (t : List ℕ). t ++ behind) parts ∙ append_assoc first (drop used piece) behind;
        upgrades = subst (λ (t : List ℕ). Upgrades role own first (Ok (Some key)) t) (sym same) there;
        all = λ none. absurd (none tt);
      },
    )

by_all : (role : ConnRole) (own : Key) (input : List ℕ) (outcome : Result (Option Key) UpgradeFault) (written : List ℕ) → Upgrades role own input outcome written → ComesTo role own input input outcome written
by_all role own input outcome written u = record { rest = []; input_is = sym (append-nil input); upgrades = u; all = λ none. refl }

-- a fault by a piece is one of all that follows
pub fault_comes : (x : Upgrading) (role : ConnRole) (own : Key) (input piece behind whole : List ℕ) (fault : UpgradeFault) (written : List ℕ) → x.role ≡ role → x.own ≡ own → (input ++ piece) ++ behind ≡ whole
    → Upgrades x.role x.own (input ++ piece) (Err fault) written → (output : List ℕ) × ComesTo role own whole whole (Err fault) output
fault_comes x role own input piece behind whole fault written r k is u =
    let more = fault_stays role own (input ++ piece) behind written fault (of_end x role own (input ++ piece) (Err fault) written r k u) in
    (written, by_all role own whole (Err fault) written (subst (λ (t : List ℕ). Upgrades role own t (Err fault) written) is more))

-- nothing more comes
pub going_comes : (x : Upgrading) (role : ConnRole) (own : Key) (input whole output : List ℕ) → x.role ≡ role → x.own ≡ own → input ≡ whole → output ≡ x.pending → Stands x input []
    → (first : List ℕ) × ComesTo role own whole first (Ok None) output
going_comes x role own input whole output r k is same s =
    let here = of_end x role own input (Ok None) x.pending r k (going_by x.stage x.role x.own input x.pending s) in
    let there = subst (λ (t : List ℕ). Upgrades role own t (Ok None) x.pending) is here in
    (whole, by_all role own whole (Ok None) output (subst (λ (t : List ℕ). Upgrades role own whole (Ok None) t) (sym same) there))
