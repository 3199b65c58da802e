-- Two ends of one negotiation that tell each other what they write.
use Rattle.std.proofs.Common.{◌≡◌, ℕ, ◌+◌, List, [], ◌++◌, Option, Some, None, Ok, refl, sym, ap, ◌∙◌, subst}
use Rattle.std.specs.Prelude.{IfSome}
use Rattle.std.proofs.lemmas.List.{append-nil}
use Rattle.ms_select.specs.declared.answer.Answer.{Answer}
use Rattle.ms_select.specs.declared.answer.Answer.TheVariants.{Agreed}
use Rattle.ms_select.specs.declared.answer.Step.{Step}
use Rattle.ms_select.specs.Listening.{Listens}
use Rattle.ms_select.specs.Dialing.{Dials}
use Rattle.ms_select.specs.Sides.{Negotiating, Stands}
use Rattle.ms_select.specs.Joined.{Calls, Serves, Joined, OneName}
use Rattle.clients.specs.declared.negotiation.Ends.{Ends}
use Rattle.clients.specs.Negotiation.{AreJoined, Came, NameOne, GoesOn}

-- what a call does with what was taken of an end's output
abbrev Takes : Negotiating → List ℕ → Negotiating → Type 0
Takes x out y = (input : List ℕ) (used : ℕ) (taken : List ℕ) → Stands x input used taken → Stands y input used (taken ++ out)

-- and with what an end is told
abbrev Hears : Negotiating → List ℕ → Step → Negotiating → Type 0
Hears x piece step y = (input : List ℕ) (used : ℕ) (taken : List ℕ) → Stands x input used taken → Stands y (input ++ piece) (used + step.used) taken

-- all that either end has written is on the record here, and what the listener has written was delivered
came : (dialed served : List (List ℕ)) (to_dialer to_listener talk left : List ℕ) (a b : Answer) (used also : ℕ)
    → Dials dialed to_dialer (Ok a) used (to_listener ++ left) → Listens served to_listener (Ok b) also talk → talk ≡ to_dialer
    → Joined dialed served to_dialer to_listener (Ok a) (Ok b)
came dialed served to_dialer to_listener talk left a b used also dials listens is =
    let calls : Calls dialed to_dialer (Ok a) (to_listener ++ left) =
    record { used = used; talk = to_listener ++ left; more = []; dials = dials; written_is = sym (append-nil (to_listener ++ left)); silent = λ no. refl } in
    let serves : Serves served to_listener (Ok b) talk =
    record { used = also; talk = talk; more = []; listens = listens; written_is = sym (append-nil talk); silent = λ no. refl } in
    record {
      from_dialer = to_listener ++ left;
      from_listener = talk;
      calls = calls;
      serves = serves;
      on_the_way = [];
      delivered = is ∙ sym (append-nil to_dialer);
      on_the_way_back = left;
      delivered_back = refl;
    }

pub goes_on : (d0 d1 d2 l0 l1 l2 : Negotiating) (said first replied second : List ℕ) (heard told : Step) → first ≡ said → second ≡ replied
    → d1.names ≡ d0.names → Takes d0 said d1
    → l1.names ≡ l0.names → Hears l0 first heard l1
    → ((input : List ℕ) (used : ℕ) (taken : List ℕ) → Stands l0 input used taken → Listens l0.names (input ++ first) (Ok heard.answer) (used + heard.used) (taken ++ l1.pending))
    → replied ≡ l1.pending → l2.names ≡ l1.names → Takes l1 replied l2
    → d2.names ≡ d1.names → Hears d1 second told d2
    → ((input : List ℕ) (used : ℕ) (taken : List ℕ) → Stands d1 input used taken → Dials d1.names (input ++ second) (Ok told.answer) (used + told.used) (taken ++ d2.pending))
    → AreJoined d0 l0 → GoesOn d0 l0 d2 l2 (record { dialer = told.answer; listener = heard.answer })
goes_on d0 d1 d2 l0 l1 l2 said first replied second heard told first_is second_is d1_names takes l1_names hears listens replied_is l2_names takes_too d2_names hears_too dials at =
    let x : List ℕ = at.to_dialer in
    let y : List ℕ = at.to_listener in
    let s1 = takes x at.used y at.dialer in
    let s2 : Stands l1 (y ++ said) (at.also + heard.used) x =
    subst (λ (t : List ℕ). Stands l1 (y ++ t) (at.also + heard.used) x) first_is (hears y at.also x at.listener) in
    let listened : Listens l0.names (y ++ said) (Ok heard.answer) (at.also + heard.used) (x ++ l1.pending) =
    subst (λ (t : List ℕ). Listens l0.names (y ++ t) (Ok heard.answer) (at.also + heard.used) (x ++ l1.pending)) first_is (listens y at.also x at.listener) in
    let s3 = takes_too (y ++ said) (at.also + heard.used) x s2 in
    let s4 : Stands d2 (x ++ replied) (at.used + told.used) (y ++ said) =
    subst (λ (t : List ℕ). Stands d2 (x ++ t) (at.used + told.used) (y ++ said)) second_is (hears_too x at.used (y ++ said) s1) in
    let dialed : Dials d1.names (x ++ replied) (Ok told.answer) (at.used + told.used) ((y ++ said) ++ d2.pending) =
    subst (λ (t : List ℕ). Dials d1.names (x ++ t) (Ok told.answer) (at.used + told.used) ((y ++ said) ++ d2.pending)) second_is (dials x at.used (y ++ said) s1) in
    let dialed_as : Dials d0.names (x ++ replied) (Ok told.answer) (at.used + told.used) ((y ++ said) ++ d2.pending) =
    subst (λ (ns : List (List ℕ)). Dials ns (x ++ replied) (Ok told.answer) (at.used + told.used) ((y ++ said) ++ d2.pending)) d1_names dialed in
    record {
      dialed = d2_names ∙ d1_names;
      served = l2_names ∙ l1_names;
      joined = record { to_dialer = x ++ replied; to_listener = y ++ said; used = at.used + told.used; also = at.also + heard.used; dialer = s4; listener = s3 };
      came = (
        x ++ replied,
        y ++ said,
        came d0.names l0.names (x ++ replied) (y ++ said) (x ++ l1.pending) d2.pending told.answer heard.answer (at.used + told.used) (at.also + heard.used) dialed_as listened
            (ap (λ (t : List ℕ). x ++ t) (sym replied_is)),
      );
    }

-- ---- what was said of the names of the ends holds of these

pub came_as : (dialed served names known : List (List ℕ)) (ends : Ends) → names ≡ dialed → known ≡ served → Came names known ends → Came dialed served ends
came_as dialed served names known ends is its came =
    subst (λ (ns : List (List ℕ)). Came ns served ends) is (subst (λ (ns : List (List ℕ)). Came names ns ends) its came)

pub some_came : (dialed served names known : List (List ℕ)) (o : Option Ends) → names ≡ dialed → known ≡ served → IfSome o (Came names known) → IfSome o (Came dialed served)
some_came dialed served names known None is its came = tt
some_came dialed served names known (Some ends) is its came = came_as dialed served names known ends is its came

name_one : OneName → (dialed served : List (List ℕ)) (ends : Ends) → Came dialed served ends → NameOne dialed served ends
name_one one dialed served ends came i j is its =
    one dialed served came.0 came.1 i j
    (subst (λ (a : Answer). Joined dialed served came.0 came.1 (Ok a) (Ok (Agreed j))) is
    (subst (λ (b : Answer). Joined dialed served came.0 came.1 (Ok ends.dialer) (Ok b)) its came.2))

pub some_name : OneName → (dialed served : List (List ℕ)) (o : Option Ends) → IfSome o (Came dialed served) → IfSome o (NameOne dialed served)
some_name one dialed served None came = tt
some_name one dialed served (Some ends) came = name_one one dialed served ends came
