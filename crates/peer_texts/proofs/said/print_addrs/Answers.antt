use Rattle.std.proofs.Common.{◌≡◌, List, ℕ, ◌∷◌, [], ◌++◌, ◌+◌, take, sym, ap, ◌∙◌, subst}
use Rattle.std.proofs.lemmas.List.{take_more, map-append}
use Rattle.std.proofs.KnownBytes.{Appends-trans}
use Rattle.std.specs.Global.{Vec}
use Rattle.identify_h.specs.Parts.{texts}
use Rattle.peer_texts.specs.Said.{AreAddrLines}
use Rattle.peer_texts.proofs.Joined.{more_addrs}
use Rattle.peer_texts.proofs.said.print_addrs.Goals as goal

pub loop-addr-preserved : goal.loop-addr-preserved
loop-addr-preserved g c =
    let before = c.loop-addr.invariant in
    let told = c.in_ok-print_addr.ensures.printed in
    let addrs = c.args.addrs.now in
    let index = c.loop-addr.addr-index in
    let addr = c.addr-item.result in
    let bytes = c.deref.result.now in
    let next : texts (take (index + 1) addrs) ≡ texts (take index addrs) ++ bytes ∷ [] =
    ap texts (take_more addrs index addr c.loop-addr-test.true ∙ ap (λ (it : Vec ℕ). take index addrs ++ it ∷ []) (sym c.addr-item.is))
    ∙ map-append (λ (it : Vec ℕ). it.items) (take index addrs) (addr ∷ [])
    ∙ ap (λ (it : List ℕ). texts (take index addrs) ++ it ∷ []) (sym c.deref.ensures.value) in (
      before.0 ++ told.0,
      subst (λ (it : List (List ℕ)). AreAddrLines c.args.word.now it (before.0 ++ told.0)) (sym next)
          (more_addrs c.args.word.now (texts (take index addrs)) bytes before.0 told.0 before.1 told.1),
      Appends-trans _ _ _ before.0 told.0 before.2 told.2,
    )
