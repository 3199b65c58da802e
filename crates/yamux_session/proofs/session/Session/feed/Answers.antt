use Rattle.std.proofs.Common.{ℕ, List, [], IfOk, IfErr, ◌≡◌, ◌∙◌, true, false, rules, subst, sym}
use Rattle.std.proofs.lemmas.List.{nil_from_length}
use Rattle.yamux_session.specs.declared.event.ActRefused.TheVariants.{OutOfMemory}
use Rattle.yamux_session.specs.State.{Feeds, RunsOut}
use Rattle.yamux_session.proofs.session.Session.feed.Goals as goal

pub returns-then-is_empty-clause-fed : goal.returns-then-is_empty-clause-fed
returns-then-is_empty-clause-fed c =
    let none : c.args.bytes.now ≡ [] = nil_from_length c.args.bytes.now (search rules) in
    subst (λ (xs : List ℕ). IfOk c.feed_shared.result (λ told. Feeds c.args.self.now xs told.items c.feed_shared.new.self)) (c.new.ensures ∙ sym none) c.feed_shared.ensures.fed

pub returns-in-Ok-clause-fed : goal.returns-in-Ok-clause-fed
returns-in-Ok-clause-fed c =
    subst (λ (xs : List ℕ). IfOk c.feed_shared-in-Ok.result (λ told. Feeds c.args.self.now xs told.items c.feed_shared-in-Ok.new.self)) c.in-Ok.ensures c.feed_shared-in-Ok.ensures.fed

pub returns-in-Ok-clause-refused : goal.returns-in-Ok-clause-refused
returns-in-Ok-clause-refused c =
    subst (λ (xs : List ℕ). IfErr c.feed_shared-in-Ok.result (λ refused. c.args.self.now.failed ≡ false → (refused ≡ OutOfMemory) × (c.feed_shared-in-Ok.new.self.failed ≡ true) × RunsOut c.args.self.now xs c.feed_shared-in-Ok.new.self)) c.in-Ok.ensures c.feed_shared-in-Ok.ensures.refused
