use Rattle.std.proofs.Common.{◌≡◌, ℕ, ◌+◌, ◌++◌, ◌∷◌, [], List, drop, length, ap, sym, ◌∙◌, rules, length-append}
use Rattle.pool_state.specs.At.{Stands}
use Rattle.pool_state.specs.History.{Entry, entry}
use Rattle.pool_state.specs.Shown.{reply_after}
use Rattle.swarm_calls.specs.Ledgers.{caller_of}
use Rattle.swarm_calls.specs.Calls.{Past}
use Rattle.swarm_calls.specs.History.{mine}
use Rattle.swarm_calls.specs.Snapshots.{IsShown, followed}
use Rattle.swarm_calls.specs.Steps.{beginning, Beginning}
use Rattle.swarm_calls.proofs.Calls.{locked_snoc, caller_within}
use Rattle.swarm_calls.proofs.Legal.{mine_snoc}
use Rattle.swarm_calls.proofs.Showing.{shown_snoc}
use Rattle.swarm_calls.specs.declared.snapshot.Snapshot.{Snapshot}
use Rattle.swarm_calls.proofs.inside.Inside.publish.Goals as goal

pub invariant_of-self : goal.invariant_of-self
invariant_of-self g c =
    let config = g.J.Identity.config in
    let h = c.self.inside.writer.desk.shown.value.beginning.log in
    let tally = c.pass.inside.tally in
    let made = entry (caller_of tally) c.args.call.now c.args.reply in
    let shown : IsShown g.J.Identity.book config g.J.Identity.callers c.replace_with-published.new.dest.desk.shown.value = search rules in
    let after : c.replace_with-published.new.dest.desk.shown.value.beginning ≡ beginning g.J.Identity.book (h ++ made ∷ []) = search rules in
    let none : drop c.replace_with-published.new.dest.behind c.replace_with-published.new.dest.log.items ≡ [] = search rules in
    let longer : c.replace_with-published.new.dest.desk.shown.value.beginning.log ≡ h ++ made ∷ [] = ap (λ (b : Beginning). b.log) after in
    let at = c.self.invariant.0 in
    let reply_is : c.args.reply ≡ reply_after config h c.args.call.now = c.requires.reply.0 ∙ ap (λ (l : List Entry). reply_after config l c.args.call.now) (sym c.self.view_is) in
    let pool_at : Stands config (h ++ made ∷ []) c.commit.new.self = c.commit.ensures.moved config h (caller_of tally) at.pool_is reply_is c.requires.reply.1 in
    (rw c.count.ensures.books (locked_snoc g.J.Identity.book config g.J.Identity.callers c.self.inside.length c.self.inside.pool c.commit.new.self c.self.inside.books c.self.inside.writer.desk.shown.value c.replace_with-published.new.dest.desk.shown.value made (caller_within tally) at shown longer pool_at), none)

pub invariant_of-pass : goal.invariant_of-pass
invariant_of-pass g c =
    let config = g.J.Identity.config in
    let h = c.self.inside.writer.desk.shown.value.beginning.log in
    let tally = c.pass.inside.tally in
    let kept = c.pass.inside.kept in
    let made = entry (caller_of tally) c.args.call.now c.args.reply in
    let published : c.replace_with-published.new.dest.desk.shown.value.beginning ≡ beginning g.J.Identity.book (h ++ made ∷ []) = search rules in
    let seen : kept.beginning.log ≡ h = ap (λ (p : Past). p.seen) c.pass.view_is ∙ (c.requires.seen ∙ sym c.self.view_is) in
    let after : c.published.result.now.beginning ≡ beginning g.J.Identity.book (kept.beginning.log ++ made ∷ []) =
    ap (λ (s : Snapshot). s.beginning) c.published.ensures ∙ (published ∙ ap (λ (l : List Entry). beginning g.J.Identity.book (l ++ made ∷ [])) (sym seen)) in
    let reply_is : c.args.reply ≡ reply_after config kept.beginning.log c.args.call.now = c.requires.reply.0 ∙ ap (λ (l : List Entry). reply_after config l c.args.call.now) (sym (seen ∙ c.self.view_is)) in
    let shown = shown_snoc c.added_is_shown.ensures g.J.Identity.book config g.J.Identity.callers kept c.published.result.now.beginning made c.pass.invariant.0 after (caller_within tally) c.pass.invariant.2 reply_is c.requires.reply.1 in
    let longer : c.published.result.now.beginning.log ≡ kept.beginning.log ++ made ∷ [] = ap (λ (b : Beginning). b.log) after in
    let one_more : length (mine made.caller (kept.beginning.log ++ made ∷ [])) ≡ length (mine made.caller kept.beginning.log) + 1 = ap length (mine_snoc kept.beginning.log made) ∙ length-append (mine made.caller kept.beginning.log) (made ∷ []) in
    let made_is : c.new-made.result ≡ made = c.new-made.ensures ∙ ap (λ (n : ℕ). entry n c.args.call.now c.args.reply) c.caller.ensures.is in
    let all : c.follow.new.self ≡ followed kept c.published.result.now.beginning made = c.follow.ensures ∙ ap (λ (e : Entry). followed kept c.published.result.now.beginning e) made_is in
    (rw all shown, rw (all, longer, c.count.ensures.caller, c.count.ensures.amount, one_more) (ap (λ n. n + 1) c.pass.invariant.1), rw c.count.ensures.caller c.pass.invariant.2)
