use Rattle.std.proofs.Common.{ℕ, List, [], ◌∷◌, ◌++◌, Some, None, Ok, refl, sym, ap, subst, ◌∙◌}
use Rattle.std.specs.Option.{option_copied}
use Rattle.std.proofs.lemmas.List.{append-nil}
use Rattle.std.proofs.lemmas.Result.{err_from_is_err_and}
use Rattle.varint_proto.specs.Message.{entry_of}
use Rattle.identify_h.specs.Parts.{texts}
use Rattle.identify_h.proofs.Reading.{AllSoFar, next_body, all_at_end, no_fault, has_body, texts_on}
use Rattle.identify_h.proofs.parts.bodies.Goals as goal

pub returns-in_err-field-clause-memory : goal.returns-in_err-field-clause-memory
returns-in_err-field-clause-memory c =
    let p = err_from_is_err_and c.from_residual.result c.from_residual.ensures.1 in
    rw p.1 (λ fields message.
    absurd (no_fault c.args.number c.fields.fields (texts c.fields.list.items) fields c.in_err-field.field-0.0 c.in_err-field.ensures.fault (c.fields.invariant fields message)))

pub returns-in_err-from_slice-clause-memory : goal.returns-in_err-from_slice-clause-memory
returns-in_err-from_slice-clause-memory c =
    let p = err_from_is_err_and c.from_residual-in_err-from_slice.result c.from_residual-in_err-from_slice.ensures.1 in
    rw (p.1, p.2) (λ fields message. (
      refl,
      has_body c.args.number c.fields.fields c.next.new.self (texts c.fields.list.items) fields (entry_of c.in-Some.field) c.in-Some-body.body.now
          (rw c.in-Some.is at c.in_ok-field.ensures.found) (sym c.in-Some-body.ensures) (c.fields.invariant fields message),
    ))

pub returns-in_err-push-clause-memory : goal.returns-in_err-push-clause-memory
returns-in_err-push-clause-memory c =
    let p = err_from_is_err_and c.from_residual-in_err-push.result c.from_residual-in_err-push.ensures.1 in
    rw (p.1, p.2) (λ fields message. (
      refl,
      has_body c.args.number c.fields.fields c.next.new.self (texts c.fields.list.items) fields (entry_of c.in-Some.field) c.in-Some-body.body.now
          (rw c.in-Some.is at c.in_ok-field.ensures.found) (sym c.in-Some-body.ensures) (c.fields.invariant fields message),
    ))

pub fields-preserved-in_ok-push : goal.fields-preserved-in_ok-push
fields-preserved-in_ok-push c = λ fields message.
    subst (λ (t : List (List ℕ)). AllSoFar c.args.number c.next.new.self t fields)
    (sym (ap texts c.in_ok-push.ensures.items ∙ texts_on c.fields.list.items c.in_ok-from_slice.field-0
    ∙ ap (λ (t : List ℕ). texts c.fields.list.items ++ t ∷ []) c.in_ok-from_slice.ensures.items))
    (next_body c.args.number c.fields.fields c.next.new.self (texts c.fields.list.items) fields (entry_of c.in-Some.field) (Some c.in-Some-body.body.now)
    (rw c.in-Some.is at c.in_ok-field.ensures.found) (sym c.in-Some-body.ensures) (c.fields.invariant fields message))

pub fields-preserved : goal.fields-preserved
fields-preserved c = λ fields message.
    subst (λ (t : List (List ℕ)). AllSoFar c.args.number c.next.new.self t fields) (append-nil (texts c.fields.list.items))
    (next_body c.args.number c.fields.fields c.next.new.self (texts c.fields.list.items) fields (entry_of c.in-Some.field) None
    (rw c.in-Some.is at c.in_ok-field.ensures.found) (sym c.body.ensures ∙ ap option_copied c.in_default-body.is) (c.fields.invariant fields message))

pub returns-clause-found : goal.returns-clause-found
returns-clause-found c = λ fields message.
    all_at_end c.args.number c.fields.fields (texts c.fields.list.items) fields (c.in_ok-field.ensures.end.0 (ap Ok c.in_default.is)) (c.fields.invariant fields message)
