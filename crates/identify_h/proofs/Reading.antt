-- The fields of an identify message, as they come.
use Rattle.std.proofs.Common.{◌≡◌, ℕ, List, [], ◌∷◌, ◌++◌, length, Option, Some, None, Bor, refl, sym, ap, subst, ◌∙◌, append_assoc, arith}
use Rattle.std.specs.Prelude.{IsSome}
use Rattle.std.specs.List.{filter_map, cons_option, last_or}
use Rattle.std.specs.Global.{Vec}
use Rattle.std.specs.Option.{option_or, option_copied}
use Rattle.identify_h.specs.Parts.{texts}
use Rattle.std.proofs.lemmas.List.{append-nil}
use Rattle.std.proofs.lemmas.List.Elements.{filter_map-append}
use Rattle.varint_proto.specs.declared.fault.WireFault.{WireFault}
use Rattle.varint_proto.specs.Message.{Entry, Begins, Leads, IsMessage, FieldFault, body_at, all_bodies, last_body}
use Rattle.varint_proto.proofs.Reading.{leads_on, last_on}
use Rattle.varint_proto.proofs.OneReading.{one_field, begins_some, message_or_fault}

-- the fields so far, and the last bodies of four numbers
pub record LastSoFar (bytes rest : List ℕ) (key observed version agent : Option (List ℕ)) : Type 0 where
  pub fields : List Entry
  pub leads : Leads bytes fields rest
  pub key_is : key ≡ last_body 1 fields
  pub observed_is : observed ≡ last_body 4 fields
  pub version_is : version ≡ last_body 5 fields
  pub agent_is : agent ≡ last_body 6 fields

newer_body : (number : ℕ) (body : Option (List ℕ)) (fields : List Entry) (f : Entry) → body ≡ last_body number fields
    → option_or (body_at number f) body ≡ last_body number (fields ++ f ∷ [])
newer_body number body fields f is = ap (option_or (body_at number f)) is ∙ sym (last_on (body_at number) None fields f)

pub one_more : (bytes middle rest : List ℕ) (key observed version agent : Option (List ℕ)) (f : Entry)
    → LastSoFar bytes middle key observed version agent → Begins middle f rest
    → LastSoFar bytes rest (option_or (body_at 1 f) key) (option_or (body_at 4 f) observed) (option_or (body_at 5 f) version)
    (option_or (body_at 6 f) agent)
one_more bytes middle rest key observed version agent f so_far begins = record {
  fields = so_far.fields ++ f ∷ [];
  leads = leads_on bytes so_far.fields middle f rest so_far.leads begins;
  key_is = newer_body 1 key so_far.fields f so_far.key_is;
  observed_is = newer_body 4 observed so_far.fields f so_far.observed_is;
  version_is = newer_body 5 version so_far.fields f so_far.version_is;
  agent_is = newer_body 6 agent so_far.fields f so_far.agent_is;
}

pub option_copied-or : (a b : Option (Bor (List ℕ))) → option_copied (option_or a b) ≡ option_or (option_copied a) (option_copied b)
option_copied-or None b = refl
option_copied-or (Some x) b = refl

-- ---- all bodies of a number

-- what is left of the fields of a message
pub record AllSoFar (number : ℕ) (rest : List ℕ) (list : List (List ℕ)) (fields : List Entry) : Type 0 where
  pub before : List Entry
  pub after : List Entry
  pub fields_are : fields ≡ before ++ after
  pub message : IsMessage rest after
  pub list_is : list ≡ all_bodies number before

next_is : (middle : List ℕ) (f : Entry) (rest : List ℕ) (more : List Entry) → Begins middle f rest → IsMessage middle more
    → (others : List Entry) × (more ≡ f ∷ others) × IsMessage rest others
next_is middle f rest [] begins message = absurd (let some = begins_some middle f rest begins in let none = ap length message in omega arith)
next_is middle f rest (g ∷ others) begins message =
    let same = one_field middle f g rest message.0 begins message.1 in
    (others, ap (λ (x : Entry). x ∷ others) (sym same.0), subst (λ (t : List ℕ). IsMessage t others) (sym same.1) message.2)

body_on : (number : ℕ) (before : List Entry) (f : Entry) (found : Option (List ℕ)) → body_at number f ≡ found
    → all_bodies number (before ++ f ∷ []) ≡ all_bodies number before ++ cons_option found []
body_on number before f found is =
    filter_map-append (body_at number) before (f ∷ [])
    ∙ ap (λ (b : Option (List ℕ)). all_bodies number before ++ cons_option b []) is

pub next_body : (number : ℕ) (middle rest : List ℕ) (list : List (List ℕ)) (fields : List Entry) (f : Entry) (found : Option (List ℕ))
    → Begins middle f rest → body_at number f ≡ found → AllSoFar number middle list fields
    → AllSoFar number rest (list ++ cons_option found []) fields
next_body number middle rest list fields f found begins is so_far =
    let next = next_is middle f rest so_far.after begins so_far.message in
    record {
      before = so_far.before ++ f ∷ [];
      after = next.0;
      fields_are = so_far.fields_are ∙ ap (λ (t : List Entry). so_far.before ++ t) next.1 ∙ sym (append_assoc so_far.before (f ∷ []) next.0);
      message = next.2;
      list_is = ap (λ (t : List (List ℕ)). t ++ cons_option found []) so_far.list_is ∙ sym (body_on number so_far.before f found is);
    }

nothing_after : (after : List Entry) → IsMessage [] after → after ≡ []
nothing_after [] message = refl
nothing_after (f ∷ after) message = absurd (let some = begins_some [] f message.0 message.1 in omega arith)

pub all_at_end : (number : ℕ) (rest : List ℕ) (list : List (List ℕ)) (fields : List Entry) → rest ≡ [] → AllSoFar number rest list fields
    → list ≡ all_bodies number fields
all_at_end number rest list fields none so_far =
    let nothing = nothing_after so_far.after (subst (λ (t : List ℕ). IsMessage t so_far.after) none so_far.message) in
    so_far.list_is
    ∙ ap (all_bodies number) (sym (so_far.fields_are ∙ ap (λ (t : List Entry). so_far.before ++ t) nothing ∙ append-nil so_far.before))

pub no_fault : (number : ℕ) (rest : List ℕ) (list : List (List ℕ)) (fields : List Entry) (fault : WireFault) → FieldFault rest fault
    → AllSoFar number rest list fields → ⊥
no_fault number rest list fields fault faulty so_far = message_or_fault rest so_far.after fault so_far.message ([], rest, refl, faulty)

-- a body of the number is there
last_some : (ys : List (List ℕ)) (o : Option (List ℕ)) → IsSome o → IsSome (last_or o ys)
last_some [] o some = some
last_some (y ∷ ys) o some = last_some ys (Some y) refl

some_at : (number : ℕ) (before : List Entry) (f : Entry) (after : List Entry) (body : List ℕ) (o : Option (List ℕ)) → body_at number f ≡ Some body
    → IsSome (last_or o (filter_map (body_at number) (before ++ f ∷ after)))
some_at number [] f after body o is =
    subst (λ (b : Option (List ℕ)). IsSome (last_or o (cons_option b (filter_map (body_at number) after)))) (sym is)
    (last_some (filter_map (body_at number) after) (Some body) refl)
some_at number (g ∷ before) f after body o is =
    elim (body_at number g) as (λ new. IsSome (last_or o (cons_option new (filter_map (body_at number) (before ++ f ∷ after))))) [
      | None ↦ some_at number before f after body o is
      | Some x ↦ some_at number before f after body (Some x) is
    ]

pub has_body : (number : ℕ) (middle rest : List ℕ) (list : List (List ℕ)) (fields : List Entry) (f : Entry) (body : List ℕ)
    → Begins middle f rest → body_at number f ≡ Some body → AllSoFar number middle list fields → IsSome (last_body number fields)
has_body number middle rest list fields f body begins is so_far =
    let next = next_is middle f rest so_far.after begins so_far.message in
    subst (λ (t : List Entry). IsSome (last_body number t))
    (sym (so_far.fields_are ∙ ap (λ (t : List Entry). so_far.before ++ t) next.1))
    (some_at number so_far.before f next.0 body None is)

-- ---- as they lie in memory

pub texts_on : (list : List (Vec ℕ)) (v : Vec ℕ) → texts (list ++ v ∷ []) ≡ texts list ++ v.items ∷ []
texts_on [] v = refl
texts_on (w ∷ list) v = ap (λ (t : List (List ℕ)). w.items ∷ t) (texts_on list v)
