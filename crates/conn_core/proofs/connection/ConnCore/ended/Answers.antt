use Rattle.std.proofs.Common.{◌≡◌, true, false, List, [], ◌∷◌, ◌++◌, Vec, sym, ap, ◌∙◌, subst}
use Rattle.std.proofs.lemmas.List.{append_assoc}
use Rattle.conn_log.specs.declared.event.ConnEvent.{ConnEvent}
use Rattle.conn_core.specs.declared.connection.Phase.{Phase}
use Rattle.conn_core.specs.Connects.{Connects, Ends, is_over}
use Rattle.conn_core.proofs.connection.ConnCore.ended.Goals as goal

pub returns-clause-ends : goal.returns-clause-ends
returns-clause-ends g c = λ role own start input taken log told stands going.
    let H = g.P.H.Handler in
    let makes = g.P.Protocols in
    let core = c.args.self.now in
    let last = c.last_event-last.result in
    let phase_is : c.replace-phase.result ≡ core.phase = c.replace-phase.ensures.value in
    let ends = c.last_event-last.ensures.ends role own start input taken log told core.owed.items
    (subst (λ (p : Phase _ _). Connects H.steps H.fails H.is_closed H.is_finished makes.makes_inbound makes.makes_outbound makes.listed makes.is_eager makes.leads_inbound makes.leads_outbound start role own
    input false log told taken p core.owed.items core.output.items) (sym phase_is) stands.1) (ap is_over phase_is ∙ going) in
    let told_is : told ++ c.tell.new.told.items ≡ (told ++ core.owed.items) ++ last ∷ [] =
    ap (λ (t : List (ConnEvent _)). told ++ t) (c.in_ok-tell.ensures.told ∙ ap (λ (v : Vec (ConnEvent _) _). v.items ++ last ∷ []) c.replace-told.ensures.value)
    ∙ sym (append_assoc told core.owed.items (last ∷ [])) in
    let owed_is : c.replace-told.new.dest.items ≡ [] = ap (λ (v : Vec (ConnEvent _) _). v.items) c.replace-told.ensures.after ∙ c.new.ensures.items in (
      stands.0,
      subst (λ (x : Phase _ _). Connects H.steps H.fails H.is_closed H.is_finished makes.makes_inbound makes.makes_outbound makes.listed makes.is_eager makes.leads_inbound makes.leads_outbound start role own
          input true log (told ++ c.tell.new.told.items) taken x c.replace-told.new.dest.items c.last_event-last.new.output.items) (sym c.replace.ensures.after) (
            owed_is,
            subst (λ (t : List (ConnEvent _)). Ends H.steps H.fails H.is_closed H.is_finished makes.makes_inbound makes.makes_outbound makes.listed makes.is_eager makes.leads_inbound makes.leads_outbound start role own
                input true log t (taken ++ c.last_event-last.new.output.items)) (sym told_is) ends,
          ),
    )

pub returns-clause-owed_first : goal.returns-clause-owed_first
returns-clause-owed_first g c =
    let last = c.last_event-last.result in
    (last ∷ [], c.in_ok-tell.ensures.told ∙ ap (λ (v : Vec (ConnEvent _) _). v.items ++ last ∷ []) c.replace-told.ensures.value)
