use Rattle.std.proofs.Common.{List, ℕ, codes, flat_map, OnOk, subst}
use Rattle.std.proofs.lemmas.Result.{on_ok_weaker}
use Rattle.std.specs.Global.{Vec}
use Rattle.std.specs.Io.KnownBytes.{Appends}
use Rattle.identify_h.specs.Messages.{Message}
use Rattle.identify_h.specs.Parts.{texts, text}
use Rattle.peer_texts.specs.Said.{AreAddrLines, IsSaid, said_line}
use Rattle.peer_texts.proofs.Joined.{all_said}
use Rattle.peer_texts.proofs.said.print_said.Goals as goal

pub returns : goal.returns
returns g c =
    let said = c.said.inside in
    let held = g.O.Write.contents in
    let listens = c.in_ok-print_addrs.ensures.printed in
    let whole : Message = record {
      key = said.key;
      listen = texts said.listen.items;
      protocols = texts said.protocols.items;
      observed = text said.observed;
      version = text said.version;
      agent = text said.agent;
    } in record {
      printed = subst (λ (it : Message). OnOk c.print_maybe_addr.result ((x : List ℕ) × IsSaid it x × Appends (held c.args.output.now) (held c.print_maybe_addr.new.output) x)) c.said.view_is
          (on_ok_weaker c.print_maybe_addr.result (λ last. all_said (held c.args.output.now) _ _ _ _ (held c.print_maybe_addr.new.output) whole listens.0 last.0
          c.in_ok-print_maybe.ensures.printed c.in_ok-print_maybe-2.ensures.printed
          (subst (λ (it : List (Vec ℕ)). Appends (held c.print_maybe-2.new.output) (held c.print_texts.new.output) (flat_map (said_line (codes "protocol")) (texts it))) c.deref.ensures.value c.in_ok-print_texts.ensures.printed)
          (subst (λ (it : List (Vec ℕ)). AreAddrLines (codes "listen") (texts it) listens.0) c.deref-2.ensures.value listens.1)
          listens.2 last.1 last.2) c.print_maybe_addr.ensures.printed);
    }
