use Rattle.std.proofs.Common.{◌≡◌, ◌≢◌, ◌++◌, ◌∷◌, [], ◌<◌, ◌≤◌, ◌^◌, ◌∙◌, rules, ap, sym, subst}
use Rattle.std.proofs.lemmas.List.{append-nil}
use Rattle.pool_state.specs.History.{entry, front_of}
use Rattle.pool_state.specs.Shown.{reply_after}
use Rattle.pool_state.specs.At.{Stands}
use Rattle.pool_state.specs.declared.call.Reply.TheVariants.{Refused}
use Rattle.pool_state.specs.declared.call.Refusal.{Refusal}
use Rattle.pool_state.specs.declared.call.Refusal.TheVariants.{Spent}
use Rattle.swarm_calls.specs.Calls.{Past, past}
use Rattle.swarm_calls.proofs.Calls.{called_made, called_refused, called_spent}
use Rattle.swarm_calls.proofs.inside.Inside.make.Goals as goal

pub returns : goal.returns
returns g c =
    let h = c.args.self.now in
    let config = g.J.Identity.config in
    let call = c.args.call.now in
    let stands = subst (λ log. Stands config log c.self.inside.pool) (c.self.view_is ∙ c.show.ensures.same) c.self.invariant.0.pool_is in
    let reply_is : c.reply-reply.result ≡ reply_after config h call = c.reply-reply.ensures config h stands in
    let unspent : c.reply-reply.result ≢ Refused Spent = search rules in
    let front : front_of config c.show.new.pass.seen < 2 ^ 64 = subst (λ n. n < 2 ^ 64) c.front-front.ensures.is c.front-front.ensures.fits in
    let made : c.publish.new.pass ≡ past c.show.new.pass.number (h ++ entry c.show.new.pass.number call c.reply-reply.result ∷ []) =
    subst (λ log. c.publish.new.pass ≡ past c.show.new.pass.number (log ++ entry c.show.new.pass.number call c.reply-reply.result ∷ [])) c.show.ensures.same (c.publish.ensures.yes c.if-not-publish.false) in
    let within : (1 ≤ c.args.pass.now.number) × (c.args.pass.now.number ≤ g.J.Identity.callers) =
    subst (λ n. (1 ≤ n) × (n ≤ g.J.Identity.callers)) (c.number.ensures.is ∙ ap (λ (p : Past). p.number) c.show.ensures.seen) c.number.ensures.within in
    record {
      called = called_made config g.J.Identity.callers call c.args.pass.now c.show.new.pass h c.show.ensures.later c.show.ensures.own c.show.ensures.seen front c.reply-reply.result c.publish.new.pass within made reply_is unspent;
      seen = (entry c.show.new.pass.number call c.reply-reply.result ∷ [], sym (ap (λ (p : Past). p.seen) made));
    }

pub returns-in-Refused-Spent : goal.returns-in-Refused-Spent
returns-in-Refused-Spent g c =
    let h = c.args.self.now in
    let config = g.J.Identity.config in
    let call = c.args.call.now in
    let stands = subst (λ log. Stands config log c.self.inside.pool) (c.self.view_is ∙ c.show.ensures.same) c.self.invariant.0.pool_is in
    let reply_is : c.reply-reply.result ≡ reply_after config h call = c.reply-reply.ensures config h stands in
    let why : c.in-Refused-Spent.field-0 ≡ Spent = rw c.in-Refused-Spent.is at c.in-Refused-Spent.field-0-is in
    let spent : c.reply-reply.result ≡ Refused Spent = c.in-Refused-Spent.is ∙ ap (λ (w : Refusal). Refused w) why in
    let front : front_of config c.show.new.pass.seen < 2 ^ 64 = subst (λ n. n < 2 ^ 64) c.front-front.ensures.is c.front-front.ensures.fits in
    let all_seen : c.show.new.pass.seen ≡ h = ap (λ (p : Past). p.seen) c.show.ensures.seen in
    record {
      called = called_spent config g.J.Identity.callers call c.args.pass.now c.show.new.pass h c.show.ensures.later c.show.ensures.own c.show.ensures.seen front c.reply-reply.result spent reply_is;
      seen = ([], append-nil h ∙ sym all_seen);
    }

pub returns-then-not-publish : goal.returns-then-not-publish
returns-then-not-publish g c =
    let h = c.args.self.now in
    let config = g.J.Identity.config in
    let call = c.args.call.now in
    let stands = subst (λ log. Stands config log c.self.inside.pool) (c.self.view_is ∙ c.show.ensures.same) c.self.invariant.0.pool_is in
    let reply_is : c.reply-reply.result ≡ reply_after config h call = c.reply-reply.ensures config h stands in
    let unspent : c.reply-reply.result ≢ Refused Spent = search rules in
    let front : front_of config c.show.new.pass.seen < 2 ^ 64 = subst (λ n. n < 2 ^ 64) c.front-front.ensures.is c.front-front.ensures.fits in
    let all_seen : c.show.new.pass.seen ≡ h = ap (λ (p : Past). p.seen) c.show.ensures.seen in
    let same : c.publish.new.pass ≡ c.show.new.pass = c.publish.ensures.no c.if-not-publish.true in
    record {
      called = called_refused config g.J.Identity.callers call c.args.pass.now c.show.new.pass h c.show.ensures.later c.show.ensures.own c.show.ensures.seen front c.reply-reply.result c.publish.new.pass same reply_is unspent;
      seen = ([], append-nil h ∙ (sym all_seen ∙ ap (λ (p : Past). p.seen) (sym same)));
    }
