use Rattle.std.proofs.Common.{◌≡◌, ◌++◌, ◌∷◌, [], None, drop, ap, ◌∙◌, rules}
use Rattle.logbook.specs.Pages.{Book}
use Rattle.swarm_calls.specs.declared.snapshot.Snapshot.{Snapshot}
use Rattle.swarm_calls.specs.Steps.{beginning}
use Rattle.swarm_calls.proofs.Showing.{next_shown}
use Rattle.swarm_calls.proofs.inside.publish.Goals as goal

pub publish_as-writer-requires : goal.publish_as-writer-requires
publish_as-writer-requires g c next is views holds at =
    let w = c.args.writer.desk.shown.value in
    let h = w.beginning.log in
    let same : c.append-2.new.writer.desk.shown.value ≡ w = search rules in
    let first : drop c.append.new.self.behind c.append.new.self.log.items ≡ None ∷ [] = search rules in
    let published : c.published-published.result.now ≡ w = search rules in
    let added : c.add-after.result ≡ beginning g.J.Identity.book (h ++ c.args.entry ∷ []) =
    c.add-after.ensures ∙ (ap (λ (s : Snapshot). beginning s.beginning.book (s.beginning.log ++ c.args.entry ∷ [])) published ∙ ap (λ (b : Book). beginning b (h ++ c.args.entry ∷ [])) c.requires.swarm.0.book_is) in
    let shown = next_shown _ c.added_is_shown.ensures g.J.Identity.book g.J.Identity.config g.J.Identity.callers w c.append-2.new.writer.desk.shown.value next (drop c.append.new.self.behind c.append.new.self.log.items) (drop c.append-2.new.writer.behind c.append-2.new.writer.log.items) same first c.append-2.ensures.pending is c.requires.swarm.0 added c.requires.caller c.requires.among c.requires.reply.0 c.requires.reply.1 in
    (tt, shown, shown)
