use Rattle.std.proofs.Common.{rules, ◌≡◌, ◌≢◌, ◌+◌, ◌<◌, ℕ, List, [], ◌∷◌, ◌++◌, length, map, string_bytes, Option, Some, Ok, Err, ap, sym, subst, ◌∙◌, arith}
use Rattle.std.specs.List.{All}
use Rattle.std.specs.Option.{option_copied}
use Rattle.std.proofs.lemmas.Result.{err_from_is_err_and}
use Rattle.std.proofs.lemmas.List.{length-append}
use Rattle.varint_proto.specs.Incoming.{IsWhole}
use Rattle.ms_select.specs.declared.answer.Answer.{Answer}
use Rattle.ms_select.specs.declared.answer.Answer.TheVariants.{Going}
use Rattle.ms_select.specs.Messages.{IsShort, IsNoText}
use Rattle.ms_select.specs.Sides.{Negotiating, StandsWith, next_count}
use Rattle.ms_select.specs.Verdicts.{said, verdict_of}
use Rattle.ms_select.proofs.Judging.{reply_short}
use Rattle.ms_select.proofs.Hearing.{ends, textless, misplaced, no_want, deciding, continuing}
use Rattle.ms_select.proofs.side.Side.hear_message.Goals as goal

pub returns-in_err-text-clause-fault : goal.returns-in_err-text-clause-fault
returns-in_err-text-clause-fault c = λ input taken texts rest w h.
    let p = err_from_is_err_and c.from_residual.result c.from_residual.ensures.1 in
    let x = c.args.self.now in
    let fault = c.in_err-text.field-0.0 in
    let is : c.body.result.now ≡ x.incoming.body = c.body.ensures ∙ ap (λ (y : Negotiating). y.incoming.body) c.self.view_is in
    let told : IsNoText x.incoming.body fault = subst (λ (b : List ℕ). IsNoText b fault) is c.in_err-text.ensures.fault in
    rw (p.1, p.2) (textless x input taken texts rest fault h (c.requires.whole w) told)

pub returns-in_err-answer-clause-fault : goal.returns-in_err-answer-clause-fault
returns-in_err-answer-clause-fault c = λ input taken texts rest w h.
    let p = err_from_is_err_and c.from_residual-in_err-answer.result c.from_residual-in_err-answer.ensures.1 in
    let x = c.args.self.now in
    let text = c.in_ok-text.text.now in
    let fault = c.in_err-answer.field-0.0 in
    let body : x.incoming.body ≡ text ++ 10 ∷ [] = ap (λ (y : Negotiating). y.incoming.body) (sym c.self.view_is) ∙ sym c.body.ensures ∙ c.in_ok-text.ensures.found in
    let v : verdict_of x.role x.begun x.names x.count text ≡ Err fault =
    ap (λ (y : Negotiating). verdict_of y.role y.begun y.names y.count text) (sym c.self.view_is)
    ∙ ap (λ ns. verdict_of c.self.inside.role c.self.inside.begun (map string_bytes ns) c.self.inside.count text) (sym c.deref.ensures.value) ∙ c.in_err-answer.ensures.fault in
    rw (p.1, p.2) (misplaced x input taken texts text fault (ends x input taken texts rest text h (c.requires.whole w) body) v)

pub append_reply-requires : goal.append_reply-requires
append_reply-requires c = λ reply is.
    let x = c.args.self.now in
    let text = c.in_ok-text.text.now in
    let given = c.in_ok-answer.field-0 in
    let body : x.incoming.body ≡ text ++ 10 ∷ [] = ap (λ (y : Negotiating). y.incoming.body) (sym c.self.view_is) ∙ sym c.body.ensures ∙ c.in_ok-text.ensures.found in
    let v : verdict_of x.role x.begun x.names x.count text ≡ Ok (given.answer, option_copied given.reply) =
    ap (λ (y : Negotiating). verdict_of y.role y.begun y.names y.count text) (sym c.self.view_is)
    ∙ ap (λ ns. verdict_of c.self.inside.role c.self.inside.begun (map string_bytes ns) c.self.inside.count text) (sym c.deref.ensures.value) ∙ c.in_ok-answer.ensures.verdict in
    let names : All IsShort x.names = subst (λ (y : Negotiating). All IsShort y.names) c.self.view_is c.self.invariant.short in
    let whole : IsWhole x.incoming = c.requires.whole c.if-not-whole.false in
    let size : length x.incoming.body ≡ length text + 1 = ap length body ∙ length-append text (10 ∷ []) in
    let short : IsShort text = omega (arith, size, c.requires.allowed (length x.incoming.body) whole) in
    let some : option_copied given.reply ≡ Some reply.now = ap option_copied is in
    reply_short x.role x.begun x.names x.count text given.answer reply.now names short (v ∙ ap (λ (o : Option (List ℕ)). Ok (given.answer, o)) some)

pub returns-in_err-append_reply-clause-fault : goal.returns-in_err-append_reply-clause-fault
returns-in_err-append_reply-clause-fault c = λ input taken texts rest w h.
    let x = c.args.self.now in
    let text = c.in_ok-text.text.now in
    let given = c.in_ok-answer.field-0 in
    let body : x.incoming.body ≡ text ++ 10 ∷ [] = ap (λ (y : Negotiating). y.incoming.body) (sym c.self.view_is) ∙ sym c.body.ensures ∙ c.in_ok-text.ensures.found in
    let v : verdict_of x.role x.begun x.names x.count text ≡ Ok (given.answer, option_copied given.reply) =
    ap (λ (y : Negotiating). verdict_of y.role y.begun y.names y.count text) (sym c.self.view_is)
    ∙ ap (λ ns. verdict_of c.self.inside.role c.self.inside.begun (map string_bytes ns) c.self.inside.count text) (sym c.deref.ensures.value) ∙ c.in_ok-answer.ensures.verdict in
    let names : All IsShort x.names = subst (λ (y : Negotiating). All IsShort y.names) c.self.view_is c.self.invariant.short in
    let full : x.room < length (said (option_copied given.reply)) =
    subst (λ (y : Negotiating). y.room < length (said (option_copied given.reply))) c.self.view_is c.in_err-append_reply.ensures.full in
    absurd (no_want x input taken texts text given.answer (option_copied given.reply) names (ends x input taken texts rest text h (c.requires.whole w) body) v full)

pub returns-then-eq-clause-stands : goal.returns-then-eq-clause-stands
returns-then-eq-clause-stands c = λ input taken texts rest w h.
    let x = c.args.self.now in
    let text = c.in_ok-text.text.now in
    let given = c.in_ok-answer.field-0 in
    let body : x.incoming.body ≡ text ++ 10 ∷ [] = ap (λ (y : Negotiating). y.incoming.body) (sym c.self.view_is) ∙ sym c.body.ensures ∙ c.in_ok-text.ensures.found in
    let v : verdict_of x.role x.begun x.names x.count text ≡ Ok (given.answer, option_copied given.reply) =
    ap (λ (y : Negotiating). verdict_of y.role y.begun y.names y.count text) (sym c.self.view_is)
    ∙ ap (λ ns. verdict_of c.self.inside.role c.self.inside.begun (map string_bytes ns) c.self.inside.count text) (sym c.deref.ensures.value) ∙ c.in_ok-answer.ensures.verdict in
    let new = c.go_on.new.self in
    let kept = c.go_on.ensures.kept in
    let going : given.answer ≡ Going = search rules in
    let pending : new.pending ≡ x.pending ++ said (option_copied given.reply) =
    ap (λ (y : Negotiating). y.pending) kept ∙ c.in_ok-append_reply.ensures.written ∙ ap (λ (y : Negotiating). y.pending ++ said (option_copied given.reply)) c.self.view_is in
    subst (λ (a : Answer). StandsWith (Some a) new input (length input) taken) (sym going)
    (continuing x new input taken texts text (option_copied given.reply) (ends x input taken texts rest text h (c.requires.whole w) body)
    (v ∙ ap (λ (a : Answer). Ok (a, option_copied given.reply)) going)
    (ap (λ (y : Negotiating). y.role) kept ∙ ap (λ (y : Negotiating). y.role) c.self.view_is)
    (ap (λ (y : Negotiating). y.names) kept ∙ ap (λ (y : Negotiating). y.names) c.self.view_is)
    pending
    (ap (λ (y : Negotiating). y.begun) kept)
    (ap (λ (y : Negotiating). y.count) kept ∙ ap (λ (y : Negotiating). next_count y.role y.begun y.count) c.self.view_is)
    c.go_on.ensures.incoming.0 c.go_on.ensures.incoming.1 c.go_on.ensures.incoming.2)

pub returns-else-eq-clause-stands : goal.returns-else-eq-clause-stands
returns-else-eq-clause-stands c = λ input taken texts rest w h.
    let x = c.args.self.now in
    let text = c.in_ok-text.text.now in
    let given = c.in_ok-answer.field-0 in
    let body : x.incoming.body ≡ text ++ 10 ∷ [] = ap (λ (y : Negotiating). y.incoming.body) (sym c.self.view_is) ∙ sym c.body.ensures ∙ c.in_ok-text.ensures.found in
    let v : verdict_of x.role x.begun x.names x.count text ≡ Ok (given.answer, option_copied given.reply) =
    ap (λ (y : Negotiating). verdict_of y.role y.begun y.names y.count text) (sym c.self.view_is)
    ∙ ap (λ ns. verdict_of c.self.inside.role c.self.inside.begun (map string_bytes ns) c.self.inside.count text) (sym c.deref.ensures.value) ∙ c.in_ok-answer.ensures.verdict in
    let other : given.answer ≢ Going = search rules in
    deciding x _ input taken texts text given.answer (option_copied given.reply) other (ends x input taken texts rest text h (c.requires.whole w) body) v
    (ap (λ (y : Negotiating). y.role) c.self.view_is) (ap (λ (y : Negotiating). y.names) c.self.view_is)
    (c.in_ok-append_reply.ensures.written ∙ ap (λ (y : Negotiating). y.pending ++ said (option_copied given.reply)) c.self.view_is)
