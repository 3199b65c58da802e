-- What an upgrade tells of a piece.
use Rattle.std.proofs.Common.{◌≡◌, ◌≢◌, ℕ, ◌-◌, List, [], ◌++◌, length, take, Option, Some, Result, Ok, Err, refl, sym, ap, ◌∙◌, subst, append_assoc, arith}
use Rattle.std.proofs.lemmas.List.{append-nil, length-append}
use Rattle.std.proofs.Math.Seq.{take-append_seam}
use Rattle.peer_ids.specs.Key.{Key}
use Rattle.upgrade.specs.declared.role.ConnRole.{ConnRole}
use Rattle.upgrade.specs.declared.fault.UpgradeFault.{UpgradeFault}
use Rattle.upgrade.specs.declared.fault.UpgradeFault.TheVariants as faults
use Rattle.upgrade.specs.declared.stages.Stage.{Stage}
use Rattle.upgrade.specs.declared.stages.Next.{Next}
use Rattle.upgrade.specs.declared.stages.Next.TheVariants.{Up}
use Rattle.upgrade.specs.declared.upgrade.Progress.{Progress}
use Rattle.upgrade.specs.Upgrades.{Upgrades, IsUp, ComesTo}
use Rattle.upgrade.specs.State.{Upgrading, Stands}
use Rattle.upgrade.specs.Stages.{StandsIn, Leads}
use Rattle.upgrade.proofs.Outcomes.{one_outcome}

-- ---- faults

pub fault_is : (waiting : List ℕ) (role : ConnRole) (own : Key) (input piece : List ℕ) (fault : UpgradeFault) (written : List ℕ) → Leads role own input piece (Err fault) waiting written → fault ≢ faults.OutOfMemory
    → Upgrades role own (input ++ piece) (Err fault) written
fault_is waiting role own input piece faults.Failed written l ne = l
fault_is waiting role own input piece (faults.Select fault) written l ne = l
fault_is waiting role own input piece faults.NoneLeft written l ne = l
fault_is waiting role own input piece (faults.Exchange fault) written l ne = l
fault_is waiting role own input piece faults.OutOfMemory written l ne = absurd (ne refl)

abbrev pub refused : UpgradeFault → Result Progress UpgradeFault
refused fault = Err fault

-- ---- and nothing else

-- what stands by all of the input is all that it comes to
pub only_whole : (role : ConnRole) (own : Key) (input first : List ℕ) (outcome known : Result (Option Key) UpgradeFault) (written kept : List ℕ) → ¬ IsUp known → Upgrades role own input known kept
    → ComesTo role own input first outcome written → (first ≡ input) × (outcome ≡ known) × (written ≡ kept)
only_whole role own input first outcome known written kept none u c =
    one_outcome role own input first input outcome known written kept c (record { rest = []; input_is = sym (append-nil input); upgrades = u; all = λ n. refl })

pub only_up : (role : ConnRole) (own key : Key) (input first front rest : List ℕ) (outcome : Result (Option Key) UpgradeFault) (written kept : List ℕ) → input ≡ front ++ rest → Upgrades role own front (Ok (Some key)) kept
    → ComesTo role own input first outcome written → (first ≡ front) × (outcome ≡ Ok (Some key)) × (written ≡ kept)
only_up role own key input first front rest outcome written kept e u c =
    one_outcome role own input first front outcome (Ok (Some key)) written kept c (record { rest = rest; input_is = e; upgrades = u; all = λ n. absurd (n tt) })

-- ---- up

front_is : (piece first rest : List ℕ) (left : ℕ) → piece ≡ first ++ rest → left ≡ length rest → take (length piece - left) piece ≡ first
front_is piece first rest left e l =
    let size : length piece - left ≡ length first = omega (arith, ap length e, length-append first rest, l) in
    ap (λ n. take n piece) size ∙ ap (take (length first)) e ∙ take-append_seam first rest

pub up_is : (waiting : List ℕ) (role : ConnRole) (own key : Key) (input piece : List ℕ) (left : ℕ) (written : List ℕ) → Leads role own input piece (Ok (Up left key)) waiting written
    → Upgrades role own (input ++ take (length piece - left) piece) (Ok (Some key)) written
up_is waiting role own key input piece left written l =
    subst (λ (t : List ℕ). Upgrades role own (input ++ t) (Ok (Some key)) written) (sym (front_is piece l.0 l.1 left l.2 l.3)) l.4

pub only_up_is : (waiting : List ℕ) (role : ConnRole) (own key : Key) (input piece first : List ℕ) (left : ℕ) (outcome : Result (Option Key) UpgradeFault) (written kept : List ℕ) → Leads role own input piece (Ok (Up left key)) waiting kept
    → ComesTo role own (input ++ piece) first outcome written → (first ≡ input ++ take (length piece - left) piece) × (outcome ≡ Ok (Some key)) × (written ≡ kept)
only_up_is waiting role own key input piece first left outcome written kept l c =
    let parts : input ++ piece ≡ (input ++ l.0) ++ l.1 = ap (λ (t : List ℕ). input ++ t) l.2 ∙ sym (append_assoc input l.0 l.1) in
    let o = only_up role own key (input ++ piece) first (input ++ l.0) l.1 outcome written kept parts l.4 c in
    (o.0 ∙ ap (λ (t : List ℕ). input ++ t) (sym (front_is piece l.0 l.1 left l.2 l.3)), o.1, o.2)

-- ---- an upgrade and what it holds

pub stood : (x y : Upgrading) (stage : Stage) (input taken : List ℕ) → y ≡ x → stage ≡ y.stage → Stands x input taken → StandsIn stage y.role y.own input (taken ++ y.pending)
stood x y stage input taken e h s =
    let held = subst (λ (u : Upgrading). Stands u input taken) (sym e) s in
    subst (λ (t : Stage). StandsIn t y.role y.own input (taken ++ y.pending)) (sym h) held

pub upgrades_as : (x y : Upgrading) (input : List ℕ) (outcome : Result (Option Key) UpgradeFault) (written : List ℕ) → y ≡ x → Upgrades y.role y.own input outcome written → Upgrades x.role x.own input outcome written
upgrades_as x y input outcome written e u = subst (λ (z : Upgrading). Upgrades z.role z.own input outcome written) e u

pub comes_as : (x y : Upgrading) (input first : List ℕ) (outcome : Result (Option Key) UpgradeFault) (written : List ℕ) → y ≡ x → ComesTo x.role x.own input first outcome written → ComesTo y.role y.own input first outcome written
comes_as x y input first outcome written e c = subst (λ (z : Upgrading). ComesTo z.role z.own input first outcome written) (sym e) c

pub next_is : (waiting : List ℕ) (role : ConnRole) (own : Key) (input piece written : List ℕ) (a b : Next) → a ≡ b → Leads role own input piece (Ok a) waiting written → Leads role own input piece (Ok b) waiting written
next_is waiting role own input piece written a b e l = subst (λ (n : Next). Leads role own input piece (Ok n) waiting written) e l
