use Rattle.std.proofs.Common.{◌∙◌, ℕ, List, [], take, refl, false, sym, ap, subst}
use Rattle.conn_future.proofs.Standing.{joins_fed, parts_heard, goes_unended}
use Rattle.conn_future.proofs.Leading.{leads_behind}
use Rattle.conn_future.proofs.conn.Conn.hear.Goals as goal

pub returns-in_default-clause-follows : goal.returns-in_default-clause-follows
returns-in_default-clause-follows g c start role own first log gave before goes moved not_found =
    c.starve.ensures.follows start role own first log gave
    (parts_heard g.L.Link g.P.Protocols g.P.H.Handler start role own g.met.L.Link.moves_on first log gave before c.args.self.now.link c.args.self.now.link c.args.self.now.core c.args.self.now.core c.args.self.now.unsent.items
    _ c.args.self.now.held.items refl c.requires.none_held (λ _. (refl, not_found)) goes moved)

pub returns-in_default-from_vec-clause-follows : goal.returns-in_default-from_vec-clause-follows
returns-in_default-from_vec-clause-follows g c start role own first log gave before goes moved not_found =
    c.starve-in_default-from_vec.ensures.follows start role own first log gave
    (parts_heard g.L.Link g.P.Protocols g.P.H.Handler start role own g.met.L.Link.moves_on first log gave before c.args.self.now.link c.args.self.now.link c.args.self.now.core c.args.self.now.core c.args.self.now.unsent.items
    _ c.args.self.now.held.items refl c.requires.none_held (λ _. (refl, not_found)) goes moved)

pub returns-in-Ok-feed_shared-clause-follows : goal.returns-in-Ok-feed_shared-clause-follows
returns-in-Ok-feed_shared-clause-follows g c start role own first log gave before goes moved not_found =
    let it = joins_fed g.L.Link g.P.Protocols g.P.H.Handler start role own g.met.L.Link.moves_on first log gave before c.args.self.now.link c.args.self.now.core c.feed_shared.new.self c.args.self.now.unsent.items
    _ c.in-Ok-feed_shared.events.items
    (λ input taken told stood live. c.in-Ok-feed_shared.ensures.fed role own start input taken log told stood live) goes
    (subst (λ (l : List ℕ). g.L.Link.moves before l [] c.args.self.now.link) (sym (c.in-Ok-from_vec.ensures.ok ∙ c.truncate.ensures.items ∙ ap (λ v. take c.args.count v.items) (c.replace-piece.ensures.value))) moved) not_found in
    leads_behind g.L.Link g.P.Protocols g.P.H.Handler start role own first log it.0 gave c.tell.result c.tell.new.self it.1
    (c.tell.ensures.follows start role own first it.0 gave false it.2 (λ is. absurd (cc is))
    (goes_unended g.L.Link g.P.Protocols g.P.H.Handler start role own first log gave before c.args.self.now.core c.args.self.now.unsent.items goes))

pub returns-in-Err-clause-follows : goal.returns-in-Err-clause-follows
returns-in-Err-clause-follows g c start role own first log gave before goes moved not_found =
    c.starve-in-Err.ensures.follows start role own first log gave
    (parts_heard g.L.Link g.P.Protocols g.P.H.Handler start role own g.met.L.Link.moves_on first log gave before c.args.self.now.link c.args.self.now.link c.args.self.now.core c.feed_shared.new.self c.args.self.now.unsent.items
    _ c.args.self.now.held.items refl c.requires.none_held (λ unspent. let spent = (c.in-Err.ensures.refused goes.goes_on).1 in absurd (cc (unspent, spent))) goes moved)
