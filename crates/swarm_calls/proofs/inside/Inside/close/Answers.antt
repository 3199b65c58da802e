use Rattle.std.proofs.Common.{◌≡◌, ◌∷◌, [], List, All, rules, ap, sym, subst, ◌∙◌}
use Rattle.std.proofs.lemmas.List.Elements.{All-append}
use mathlib.Core.List.{IsPrefix}
use Rattle.pool_state.specs.History.{Entry}
use Rattle.pool_state.specs.Shown.{IsLegal}
use Rattle.swarm_calls.specs.Calls.{Past}
use Rattle.swarm_calls.specs.History.{mine, IsOf}
use Rattle.swarm_calls.proofs.Calls.{all_one, rest_moves, none_left}
use Rattle.swarm_calls.proofs.Legal.{sum_is}
use Rattle.swarm_calls.proofs.inside.Inside.close.Goals as goal

pub loop-pass-preserved : goal.loop-pass-preserved
loop-pass-preserved g c =
    let h = c.args.self in
    let p = c.in-Some.pass in
    let whole : c.loop-pass.inside ≡ h = c.loop-pass.invariant.0 in
    let all_seen : c.show.new.pass.seen ≡ h = ap (λ (q : Past). q.seen) c.show.ensures.seen ∙ whole in
    let begins : IsPrefix p.seen h = subst (λ (l : List Entry). IsPrefix p.seen l) all_seen c.show.ensures.later.begins in
    let same : mine p.number h ≡ mine p.number p.seen = ap (mine p.number) (sym all_seen) ∙ c.show.ensures.own in (
      c.show.ensures.same ∙ whole,
      All-append (λ (q : Past). IsPrefix q.seen h) c.loop-pass.yielded (p ∷ []) c.loop-pass.invariant.1 (all_one (λ (q : Past). IsPrefix q.seen h) p begins),
      All-append (λ (q : Past). mine q.number h ≡ mine q.number q.seen) c.loop-pass.yielded (p ∷ []) c.loop-pass.invariant.2 (all_one (λ (q : Past). mine q.number h ≡ mine q.number q.seen) p same),
      rest_moves c.loop-pass.yielded c.loop-pass.pass-iterator.rest.items c.next.new.self.rest.items c.args.passes.items p c.in-Some.ensures.steps.0 c.loop-pass.invariant.3,
      search (rules, c.in-Some.ensures.steps, c.loop-pass.invariant.4),
    )

pub returns-clause-whole : goal.returns-clause-whole
returns-clause-whole g c =
    let h = c.args.self in
    let whole : c.loop-pass.inside ≡ h = c.loop-pass.invariant.0 in
    let all : c.loop-pass.yielded ≡ c.args.passes.items = none_left c.loop-pass.yielded c.loop-pass.pass-iterator.rest.items c.args.passes.items (sym c.loop-pass.invariant.4 ∙ c.in-None.ensures.steps.0) c.loop-pass.invariant.3 in
    let callers : IsOf g.J.Identity.callers h = subst (λ (l : List Entry). IsOf g.J.Identity.callers l) whole c.end.ensures.callers in
    record {
      legal = subst (λ (l : List Entry). IsLegal g.J.Identity.config l) whole c.end.ensures.legal;
      begins = subst (λ (ps : List Past). All (λ (q : Past). IsPrefix q.seen h) ps) all c.loop-pass.invariant.1;
      own = subst (λ (ps : List Past). All (λ (q : Past). mine q.number h ≡ mine q.number q.seen) ps) all c.loop-pass.invariant.2;
      callers_are = callers;
      sum = sum_is g.J.Identity.callers h callers;
    }
