use Rattle.std.proofs.Common.{rules, ◌≡◌, ◌≢◌, ◌+◌, ◌≤◌, true, false, ◌++◌, length, take, Some, None, Err, ap, sym, subst, ◌∙◌, arith}
use Rattle.std.proofs.lemmas.Result.{err_from_is_err_and}
use Rattle.varint_proto.specs.Incoming.{Arriving, Stands as Arrives}
use Rattle.ms_select.specs.declared.answer.Answer.TheVariants.{Going}
use Rattle.ms_select.specs.Messages.{longest, of_refused}
use Rattle.ms_select.specs.Sides.{Negotiating, Hears, StandsWith, Comes, answer_room}
use Rattle.ms_select.proofs.Framing.{memory_alone}
use Rattle.varint_proto.proofs.Arriving.{stands_on}
use Rattle.ms_select.specs.declared.fault.SelectFault.TheVariants.{OutOfMemory}
use Rattle.ms_select.proofs.Feeding.{going, fed, refused_at, no_room, no_answer_room, unfinished, told, all_of, further, hears_on, room_kept, same_length, was_unknown, same_count, same_answer, no_answer, must, whole_or_not}
use Rattle.ms_select.proofs.side.Side.hear.Goals as goal

pub returns-in_err-digits-clause-fault : goal.returns-in_err-digits-clause-fault
returns-in_err-digits-clause-fault c = λ input taken s.
    let p = err_from_is_err_and c.from_residual.result c.from_residual.ensures.1 in
    let x = c.args.self.now in
    let piece = c.args.piece.now in
    let heard = going x input (length input) taken c.requires.going s in
    let texts = heard.0 in
    let rest = heard.1 in
    let same = ap (λ (y : Negotiating). y.incoming) c.self.view_is in
    let arrives : Arrives rest c.self.inside.incoming = subst (λ (a : Arriving). Arrives rest a) (sym same) heard.2.arrives in
    let limit : c.self.inside.incoming.limit ≡ longest = ap (λ (a : Arriving). a.limit) same ∙ heard.2.limit in
    let refused = c.in_err-digits.field-0.0 in
    rw (p.1, p.2) (λ ne. refused_at x input taken texts rest piece c.self.inside.incoming.limit refused heard.2 limit
    (c.in_err-digits.ensures.fault rest arrives (λ e. ne (ap of_refused e))))

pub returns-in_err-digits-clause-memory : goal.returns-in_err-digits-clause-memory
returns-in_err-digits-clause-memory c = λ input taken s oom.
    let p = err_from_is_err_and c.from_residual.result c.from_residual.ensures.1 in
    let x = c.args.self.now in
    let piece = c.args.piece.now in
    let heard = going x input (length input) taken c.requires.going s in
    let texts = heard.0 in
    let rest = heard.1 in
    let same = ap (λ (y : Negotiating). y.incoming) c.self.view_is in
    let arrives : Arrives rest c.self.inside.incoming = subst (λ (a : Arriving). Arrives rest a) (sym same) heard.2.arrives in
    let limit : c.self.inside.incoming.limit ≡ longest = ap (λ (a : Arriving). a.limit) same ∙ heard.2.limit in
    let is : of_refused c.in_err-digits.field-0.0 ≡ OutOfMemory = cc in
    no_room x input taken texts rest piece c.self.inside.incoming.limit c.self.inside.incoming.room heard.2 limit
    (c.in_err-digits.ensures.memory rest arrives (ap Err (memory_alone c.in_err-digits.field-0.0 is)))

pub returns-then-is_none-clause-stands : goal.returns-then-is_none-clause-stands
returns-then-is_none-clause-stands c = λ input taken s.
    let x = c.args.self.now in
    let piece = c.args.piece.now in
    let heard = going x input (length input) taken c.requires.going s in
    let texts = heard.0 in
    let rest = heard.1 in
    let same = ap (λ (y : Negotiating). y.incoming) c.self.view_is in
    let arrives : Arrives rest c.self.inside.incoming = subst (λ (a : Arriving). Arrives rest a) (sym same) heard.2.arrives in
    let limit : c.self.inside.incoming.limit ≡ longest = ap (λ (a : Arriving). a.limit) same ∙ heard.2.limit in
    let i1 = c.feed_length.new.self in
    let digits = c.in_ok-digits.digits in
    let unknown : i1.expected ≡ None = search rules in
    let hears = fed x _ input taken texts rest piece digits heard.2 (λ i. omega (arith, c.type_inv.piece i))
    (ap (λ (y : Negotiating). y.role) c.self.view_is) (ap (λ (y : Negotiating). y.names) c.self.view_is) (ap (λ (y : Negotiating). y.begun) c.self.view_is)
    (ap (λ (y : Negotiating). y.count) c.self.view_is) (ap (λ (y : Negotiating). y.pending) c.self.view_is)
    (c.in_ok-digits.ensures.limit ∙ limit) (c.in_ok-digits.ensures.stands rest arrives)
    (λ len known some. let no : None ≡ Some len = sym unknown ∙ known in absurd cc) in
    unfinished _ (input ++ take digits piece) taken texts (rest ++ take digits piece) hears (λ whole. let no : None ≡ Some (length i1.body) = sym unknown ∙ whole in cc)

pub returns-in_err-make_room-clause-memory : goal.returns-in_err-make_room-clause-memory
returns-in_err-make_room-clause-memory c = λ input taken s oom.
    let x = c.args.self.now in
    let piece = c.args.piece.now in
    let heard = going x input (length input) taken c.requires.going s in
    let texts = heard.0 in
    let rest = heard.1 in
    let same = ap (λ (y : Negotiating). y.incoming) c.self.view_is in
    let arrives : Arrives rest c.self.inside.incoming = subst (λ (a : Arriving). Arrives rest a) (sym same) heard.2.arrives in
    let limit : c.self.inside.incoming.limit ≡ longest = ap (λ (a : Arriving). a.limit) same ∙ heard.2.limit in
    let i1 = c.feed_length.new.self in
    let digits = c.in_ok-digits.digits in
    let told = c.in_err-make_room.ensures.fault in
    let unknown : c.self.inside.incoming.expected ≡ None =
    was_unknown c.self.inside.incoming.expected digits (λ known. same_count digits 0 (c.in_ok-digits.ensures.known arrives.going known).0) told.1 in
    no_answer_room x i1 input taken texts rest piece digits told.2.0 heard.2 (c.in_ok-digits.ensures.limit ∙ limit) (c.in_ok-digits.ensures.stands rest arrives)
    (c.in_ok-digits.ensures.length_alone arrives.going unknown) told.2.2 told.2.1 told.1 c.in_ok-digits.ensures.within

pub returns-in_err-answer-clause-fault : goal.returns-in_err-answer-clause-fault
returns-in_err-answer-clause-fault c = λ input taken s.
    let x = c.args.self.now in
    let piece = c.args.piece.now in
    let heard = going x input (length input) taken c.requires.going s in
    let texts = heard.0 in
    let rest = heard.1 in
    let same = ap (λ (y : Negotiating). y.incoming) c.self.view_is in
    let arrives : Arrives rest c.self.inside.incoming = subst (λ (a : Arriving). Arrives rest a) (sym same) heard.2.arrives in
    let limit : c.self.inside.incoming.limit ≡ longest = ap (λ (a : Arriving). a.limit) same ∙ heard.2.limit in
    let i1 = c.feed_length.new.self in
    let i3 = c.feed.new.self in
    let digits = c.in_ok-digits.digits in
    let used = digits + c.in_ok-bytes.bytes in
    let room = c.make_room.new.self.room in
    let made : c.make_room.new.self ≡ further x i1 room = c.in_ok-make_room.ensures.kept ∙ ap (λ (y : Negotiating). further y i1 room) c.self.view_is in
    let incoming-is : c.self-2.inside.incoming ≡ i1 = ap (λ (y : Negotiating). y.incoming) (c.self-2.view_is ∙ made) in
    let middle : Arrives (rest ++ take digits piece) c.self-2.inside.incoming =
    subst (λ (a : Arriving). Arrives (rest ++ take digits piece) a) (sym incoming-is) (c.in_ok-digits.ensures.stands rest arrives) in
    let fed-on : Arrives (rest ++ take used piece) i3 = stands_on i3 rest piece digits c.in_ok-bytes.bytes (c.in_ok-bytes.ensures.stands (rest ++ take digits piece) middle) in
    let limit3 : i3.limit ≡ longest = c.in_ok-bytes.ensures.limit ∙ ap (λ (a : Arriving). a.limit) incoming-is ∙ c.in_ok-digits.ensures.limit ∙ limit in
    let failed : c.self.inside.incoming.failed ≡ false = arrives.going in
    let same1 = same_length c.self.inside.incoming i1 digits (λ none. c.in_ok-digits.ensures.some failed none c.requires.some) (λ known. (c.in_ok-digits.ensures.known failed known).1) in
    let known : i1.expected ≢ None = search rules in
    let known2 : c.self-2.inside.incoming.expected ≢ None = λ none. known (sym (ap (λ (a : Arriving). a.expected) incoming-is) ∙ none) in
    let failed2 : c.self-2.inside.incoming.failed ≡ false = ap (λ (a : Arriving). a.failed) incoming-is ∙ c.in_ok-digits.ensures.going in
    let same3 : i3.expected ≡ i1.expected = (c.in_ok-bytes.ensures.known failed2 known2).1 ∙ ap (λ (a : Arriving). a.expected) incoming-is in
    let fits = room_kept x i3.expected digits room heard.2.room (λ none. same3 ∙ same1 none ∙ ap (λ (a : Arriving). a.expected) same)
    (λ none. ap (λ (y : Negotiating). y.room) ((c.in_ok-make_room.ensures.none none).1 ∙ ap (λ (y : Negotiating). further y i1 y.room) c.self.view_is))
    (λ pos len e some. subst (λ (y : Negotiating). answer_room y.role y.names y.count len ≤ room) c.self.view_is
    (c.in_ok-make_room.ensures.room pos len (sym same3 ∙ e) some)) in
    let hears = hears_on x i3 room input taken texts rest piece used heard.2 (λ i. omega (arith, c.type_inv.piece i)) limit3 fed-on fits in
    let is = ap (λ (y : Negotiating). record y { incoming = i3 }) (c.self-2.view_is ∙ made) in
    let hears3 = subst (λ (y : Negotiating). Hears y (input ++ take used piece) taken texts (rest ++ take used piece)) (sym is) hears in
    let p = err_from_is_err_and c.from_residual-in_err-answer.result c.from_residual-in_err-answer.ensures.1 in
    let fault = c.in_err-answer.field-0.0 in
    let whole : c.in_ok-bytes.whole ≡ true = must c.in_ok-bytes.whole (λ f. no_answer c.in_err-answer.field-0.0 Going (c.in_err-answer.ensures.partial f).0) in
    let told = c.in_err-answer.ensures.fault (input ++ take used piece) taken texts (rest ++ take used piece) whole hears3 in
    let here = subst (λ (y : Negotiating). Comes y.role y.names (input ++ take used piece) (Err fault) (length (input ++ take used piece)) (taken ++ y.pending)) is told.1 in
    rw (p.1, p.2) (λ ne. all_of x.role x.names input piece (taken ++ x.pending) used fault here)

pub returns-in_err-answer-clause-memory : goal.returns-in_err-answer-clause-memory
returns-in_err-answer-clause-memory c = λ input taken s oom.
    let x = c.args.self.now in
    let piece = c.args.piece.now in
    let heard = going x input (length input) taken c.requires.going s in
    let texts = heard.0 in
    let rest = heard.1 in
    let same = ap (λ (y : Negotiating). y.incoming) c.self.view_is in
    let arrives : Arrives rest c.self.inside.incoming = subst (λ (a : Arriving). Arrives rest a) (sym same) heard.2.arrives in
    let limit : c.self.inside.incoming.limit ≡ longest = ap (λ (a : Arriving). a.limit) same ∙ heard.2.limit in
    let i1 = c.feed_length.new.self in
    let i3 = c.feed.new.self in
    let digits = c.in_ok-digits.digits in
    let used = digits + c.in_ok-bytes.bytes in
    let room = c.make_room.new.self.room in
    let made : c.make_room.new.self ≡ further x i1 room = c.in_ok-make_room.ensures.kept ∙ ap (λ (y : Negotiating). further y i1 room) c.self.view_is in
    let incoming-is : c.self-2.inside.incoming ≡ i1 = ap (λ (y : Negotiating). y.incoming) (c.self-2.view_is ∙ made) in
    let middle : Arrives (rest ++ take digits piece) c.self-2.inside.incoming =
    subst (λ (a : Arriving). Arrives (rest ++ take digits piece) a) (sym incoming-is) (c.in_ok-digits.ensures.stands rest arrives) in
    let fed-on : Arrives (rest ++ take used piece) i3 = stands_on i3 rest piece digits c.in_ok-bytes.bytes (c.in_ok-bytes.ensures.stands (rest ++ take digits piece) middle) in
    let limit3 : i3.limit ≡ longest = c.in_ok-bytes.ensures.limit ∙ ap (λ (a : Arriving). a.limit) incoming-is ∙ c.in_ok-digits.ensures.limit ∙ limit in
    let failed : c.self.inside.incoming.failed ≡ false = arrives.going in
    let same1 = same_length c.self.inside.incoming i1 digits (λ none. c.in_ok-digits.ensures.some failed none c.requires.some) (λ known. (c.in_ok-digits.ensures.known failed known).1) in
    let known : i1.expected ≢ None = search rules in
    let known2 : c.self-2.inside.incoming.expected ≢ None = λ none. known (sym (ap (λ (a : Arriving). a.expected) incoming-is) ∙ none) in
    let failed2 : c.self-2.inside.incoming.failed ≡ false = ap (λ (a : Arriving). a.failed) incoming-is ∙ c.in_ok-digits.ensures.going in
    let same3 : i3.expected ≡ i1.expected = (c.in_ok-bytes.ensures.known failed2 known2).1 ∙ ap (λ (a : Arriving). a.expected) incoming-is in
    let fits = room_kept x i3.expected digits room heard.2.room (λ none. same3 ∙ same1 none ∙ ap (λ (a : Arriving). a.expected) same)
    (λ none. ap (λ (y : Negotiating). y.room) ((c.in_ok-make_room.ensures.none none).1 ∙ ap (λ (y : Negotiating). further y i1 y.room) c.self.view_is))
    (λ pos len e some. subst (λ (y : Negotiating). answer_room y.role y.names y.count len ≤ room) c.self.view_is
    (c.in_ok-make_room.ensures.room pos len (sym same3 ∙ e) some)) in
    let hears = hears_on x i3 room input taken texts rest piece used heard.2 (λ i. omega (arith, c.type_inv.piece i)) limit3 fed-on fits in
    let is = ap (λ (y : Negotiating). record y { incoming = i3 }) (c.self-2.view_is ∙ made) in
    let hears3 = subst (λ (y : Negotiating). Hears y (input ++ take used piece) taken texts (rest ++ take used piece)) (sym is) hears in
    let p = err_from_is_err_and c.from_residual-in_err-answer.result c.from_residual-in_err-answer.ensures.1 in
    let whole : c.in_ok-bytes.whole ≡ true = must c.in_ok-bytes.whole (λ f. no_answer c.in_err-answer.field-0.0 Going (c.in_err-answer.ensures.partial f).0) in
    let told = c.in_err-answer.ensures.fault (input ++ take used piece) taken texts (rest ++ take used piece) whole hears3 in
    let bad : c.in_err-answer.field-0.0 ≡ OutOfMemory = cc in
    absurd (told.0 bad)

pub returns-clause-stands : goal.returns-clause-stands
returns-clause-stands c = λ input taken s.
    let x = c.args.self.now in
    let piece = c.args.piece.now in
    let heard = going x input (length input) taken c.requires.going s in
    let texts = heard.0 in
    let rest = heard.1 in
    let same = ap (λ (y : Negotiating). y.incoming) c.self.view_is in
    let arrives : Arrives rest c.self.inside.incoming = subst (λ (a : Arriving). Arrives rest a) (sym same) heard.2.arrives in
    let limit : c.self.inside.incoming.limit ≡ longest = ap (λ (a : Arriving). a.limit) same ∙ heard.2.limit in
    let i1 = c.feed_length.new.self in
    let i3 = c.feed.new.self in
    let digits = c.in_ok-digits.digits in
    let used = digits + c.in_ok-bytes.bytes in
    let room = c.make_room.new.self.room in
    let made : c.make_room.new.self ≡ further x i1 room = c.in_ok-make_room.ensures.kept ∙ ap (λ (y : Negotiating). further y i1 room) c.self.view_is in
    let incoming-is : c.self-2.inside.incoming ≡ i1 = ap (λ (y : Negotiating). y.incoming) (c.self-2.view_is ∙ made) in
    let middle : Arrives (rest ++ take digits piece) c.self-2.inside.incoming =
    subst (λ (a : Arriving). Arrives (rest ++ take digits piece) a) (sym incoming-is) (c.in_ok-digits.ensures.stands rest arrives) in
    let fed-on : Arrives (rest ++ take used piece) i3 = stands_on i3 rest piece digits c.in_ok-bytes.bytes (c.in_ok-bytes.ensures.stands (rest ++ take digits piece) middle) in
    let limit3 : i3.limit ≡ longest = c.in_ok-bytes.ensures.limit ∙ ap (λ (a : Arriving). a.limit) incoming-is ∙ c.in_ok-digits.ensures.limit ∙ limit in
    let failed : c.self.inside.incoming.failed ≡ false = arrives.going in
    let same1 = same_length c.self.inside.incoming i1 digits (λ none. c.in_ok-digits.ensures.some failed none c.requires.some) (λ known. (c.in_ok-digits.ensures.known failed known).1) in
    let known : i1.expected ≢ None = search rules in
    let known2 : c.self-2.inside.incoming.expected ≢ None = λ none. known (sym (ap (λ (a : Arriving). a.expected) incoming-is) ∙ none) in
    let failed2 : c.self-2.inside.incoming.failed ≡ false = ap (λ (a : Arriving). a.failed) incoming-is ∙ c.in_ok-digits.ensures.going in
    let same3 : i3.expected ≡ i1.expected = (c.in_ok-bytes.ensures.known failed2 known2).1 ∙ ap (λ (a : Arriving). a.expected) incoming-is in
    let fits = room_kept x i3.expected digits room heard.2.room (λ none. same3 ∙ same1 none ∙ ap (λ (a : Arriving). a.expected) same)
    (λ none. ap (λ (y : Negotiating). y.room) ((c.in_ok-make_room.ensures.none none).1 ∙ ap (λ (y : Negotiating). further y i1 y.room) c.self.view_is))
    (λ pos len e some. subst (λ (y : Negotiating). answer_room y.role y.names y.count len ≤ room) c.self.view_is
    (c.in_ok-make_room.ensures.room pos len (sym same3 ∙ e) some)) in
    let hears = hears_on x i3 room input taken texts rest piece used heard.2 (λ i. omega (arith, c.type_inv.piece i)) limit3 fed-on fits in
    let is = ap (λ (y : Negotiating). record y { incoming = i3 }) (c.self-2.view_is ∙ made) in
    let hears3 = subst (λ (y : Negotiating). Hears y (input ++ take used piece) taken texts (rest ++ take used piece)) (sym is) hears in
    let answer = c.in_ok-answer.answer in
    let new = c.hear_message.new.self in
    let at = whole_or_not c.in_ok-bytes.whole answer new (input ++ take used piece) taken
    (λ w. c.in_ok-answer.ensures.stands (input ++ take used piece) taken texts (rest ++ take used piece) w hears3)
    (λ f.
    let partial = c.in_ok-answer.ensures.partial f in
    let undecided = unfinished (further x i3 room) (input ++ take used piece) taken texts (rest ++ take used piece) hears (λ w. let no : false ≡ true = sym f ∙ c.in_ok-bytes.ensures.whole.1 w in absurd cc) in
    (same_answer answer Going partial.0, subst (λ (y : Negotiating). StandsWith (Some Going) y (input ++ take used piece) (length (input ++ take used piece)) taken) (sym (partial.1 ∙ is)) undecided)) in
    told new _ (input ++ take used piece) (length (input ++ take used piece)) taken answer (ap (λ (y : Negotiating). record y { answer = Some answer }) c.self-3.view_is) at
