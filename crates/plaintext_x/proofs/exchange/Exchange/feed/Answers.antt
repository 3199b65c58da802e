use Rattle.std.proofs.Common.{rules, ◌≡◌, ◌++◌, ◌+◌, take, drop, List, ℕ, [], Some, None, Ok, Err, Bool, refl, ap, sym, subst, ◌∙◌}
use Rattle.std.proofs.lemmas.Result.{err_from_is_err_and}
use Rattle.varint_proto.specs.Incoming.{Arriving, Frames, ReadsFramed, IsWhole, whole_at, Stands as Arrives}
use Rattle.varint_proto.proofs.Arriving.{whole_read}
use Rattle.plaintext_x.specs.declared.fault.ExchangeFault.{ExchangeFault}
use Rattle.plaintext_x.specs.declared.fault.ExchangeFault.TheVariants.{OutOfMemory}
use Rattle.plaintext_x.specs.Exchange.{SpellsExchange, RefusesBody, of_refused, longest, Exchanging}
use Rattle.plaintext_x.proofs.Steps.{reading, outcome, proven_past, proven_at, memory_at, room_at, memory_alone}
use Rattle.plaintext_x.proofs.exchange.Exchange.feed.Goals as goal

pub returns-in-Done-clause-outcome : goal.returns-in-Done-clause-outcome
returns-in-Done-clause-outcome c = λ own input used taken f.
    let done : c.args.self.now.answer ≡ Some (Some c.in-Done.field-0) = search rules in
    outcome c.args.self.now (input ++ c.args.piece.now) (used + 0)
    (proven_past c.args.self.now c.in-Done.field-0 input c.args.piece.now used 0 done refl f.read)

pub returns-in_err-used-clause-memory : goal.returns-in_err-used-clause-memory
returns-in_err-used-clause-memory c = λ going own input used taken f oom.
    let p = err_from_is_err_and c.from_residual.result c.from_residual.ensures.1 in
    let x = c.args.self.now in
    let piece = c.args.piece.now in
    let same = ap (λ (e : Exchanging). e.incoming) c.self.view_is in
    let here = reading x input used going f.read in
    let arrives : Arrives input c.self.inside.incoming = subst (λ (a : Arriving). Arrives input a) (sym same) here.0 in
    let limit : c.self.inside.incoming.limit ≡ longest = ap (λ (a : Arriving). a.limit) same ∙ here.1 in
    let is : of_refused c.in_err-used.field-0.0 ≡ OutOfMemory = cc in
    room_at input piece c.self.inside.incoming.limit c.self.inside.incoming.room limit
    (c.in_err-used.ensures.memory input arrives (ap Err (memory_alone c.in_err-used.field-0.0 is)))

pub returns-in_err-key-clause-memory : goal.returns-in_err-key-clause-memory
returns-in_err-key-clause-memory c = λ going own input used taken f oom.
    let p = err_from_is_err_and c.from_residual-in_err-key.result c.from_residual-in_err-key.ensures.1 in
    let x = c.args.self.now in
    let piece = c.args.piece.now in
    let same = ap (λ (e : Exchanging). e.incoming) c.self.view_is in
    let here = reading x input used going f.read in
    let arrives : Arrives input c.self.inside.incoming = subst (λ (a : Arriving). Arrives input a) (sym same) here.0 in
    let limit : c.self.inside.incoming.limit ≡ longest = ap (λ (a : Arriving). a.limit) same ∙ here.1 in
    let new = c.feed.new.self in
    let whole : IsWhole new = c.in_ok-used.ensures.whole.0 c.if-not-whole.false in
    let fed = c.in_ok-used.ensures.stands input arrives in
    let framed : Frames longest (input ++ take c.in_ok-used.used piece) new.body [] =
    subst (λ (n : ℕ). Frames n (input ++ take c.in_ok-used.used piece) new.body []) (c.in_ok-used.ensures.limit ∙ limit) (whole_read new _ fed whole) in
    let is : c.in_err-key.field-0.0 ≡ OutOfMemory = cc in
    let refused : RefusesBody new.body OutOfMemory =
    subst (λ (b : List ℕ). RefusesBody b OutOfMemory) c.body.ensures
    (subst (λ (e : ExchangeFault). RefusesBody c.body.result.now e) is c.in_err-key.ensures.fault) in
    memory_at input piece new.body c.in_ok-used.used c.in_ok-used.ensures.within here.2.0 framed refused

pub returns-clause-stands : goal.returns-clause-stands
returns-clause-stands c = λ own input used taken f.
    let going : c.args.self.now.answer ≡ Some None = search rules in
    let x = c.args.self.now in
    let piece = c.args.piece.now in
    let n = c.in_ok-used.used in
    let same = ap (λ (e : Exchanging). e.incoming) c.self.view_is in
    let here = reading x input used going f.read in
    let arrives : Arrives input c.self.inside.incoming = subst (λ (a : Arriving). Arrives input a) (sym same) here.0 in
    let limit : c.self.inside.incoming.limit ≡ longest = ap (λ (a : Arriving). a.limit) same ∙ here.1 in
    let new = c.feed.new.self in
    let reads = c.in_ok-used.ensures.reads input arrives in
    let framed : Frames longest (input ++ piece) new.body (drop n piece) =
    subst (λ (k : ℕ). Frames k (input ++ piece) new.body (drop n piece)) limit
    (subst (λ (b : Bool). ReadsFramed c.self.inside.incoming.limit (input ++ piece) (Ok (whole_at b new.body (drop n piece)))) c.if-not-whole.false reads) in
    let spells : SpellsExchange new.body c.in_ok-key.key = subst (λ (b : List ℕ). SpellsExchange b c.in_ok-key.key) c.body.ensures c.in_ok-key.ensures.key in
    record {
      read = proven_at input piece new.body c.in_ok-key.key used n here.2.1 c.in_ok-used.ensures.within framed spells;
      written = ap (λ (e : Exchanging). taken ++ e.pending) c.self.view_is ∙ f.written;
    }

pub returns-clause-outcome : goal.returns-clause-outcome
returns-clause-outcome c = λ own input used taken f. (returns-clause-stands c own input used taken f).read
