use Rattle.std.proofs.Common.{◌≡◌, ◌<◌, ℕ, ◌+◌, ◌≤◌, ◌++◌, List, Some, not, min, refl, sym, ap, ◌∙◌, subst, arith}
use Rattle.yamux_session.specs.History.{arrivals}
use Rattle.yamux_session.specs.History.Act.{Taken}
use Rattle.yamux_session.specs.History.Item.{Did}
use Rattle.yamux_session.specs.Windows.{given_back, given_of, untaken}
use Rattle.yamux_session.specs.Table.{table_of}
use Rattle.yamux_session.specs.State.{State, Stands}
use Rattle.yamux_session.proofs.Written.{rewritten, looked_at, as_before}
use Rattle.yamux_session.proofs.Refusals.{no_stream, a_stream, on_ok, on_err, row_of, coming_is, untaken_is}
use Rattle.yamux_session.proofs.Keeping.{did, replaced, quiet, taking, giving, none_finished, none_few, all_given, nothing_sent, given_sent, as_counted}
use Rattle.yamux_session.proofs.session.Session.taken.Goals as goal

pub returns-in_default-clause-refused : goal.returns-in_default-clause-refused
returns-in_default-clause-refused c = λ role past fed sent stands.
    let at = subst (λ (s : State). Stands role past fed sent s) (sym c.self.view_is) stands in
    no_stream role past (table_of c.self.inside.streams) c.args.stream at.table (sym c.in_default.ensures.value)

pub returns-then-row-clause-ok : goal.returns-then-row-clause-ok
returns-then-row-clause-ok c = λ role past fed sent stands.
    let at = subst (λ (s : State). Stands role past fed sent s) (sym c.self.view_is) stands in
    let n : ℕ = c.args.stream in
    let k : ℕ = c.min-count.result in
    let found = sym c.in-Some.ensures.value in
    let row = row_of role past (table_of c.self.inside.streams) n (Some c.in-Some.row.now) at.table found in
    let rest = row.1.untaken in
    let bound = row.1.bound in
    let come = c.coming-coming.ensures ∙ coming_is role past (table_of c.self.inside.streams) n c.bytes_left.result at.table (c.bytes_left.ensures fed (arrivals past) at.frames) in
    let there = untaken_is role past n c.in-Some.row.now row.1 in
    let here = c.untaken.ensures in
    let least = c.min-count.ensures in
    let size : k ≡ min c.args.count (untaken role past n) = omega arith in
    let fits : k ≤ untaken role past n = omega arith in
    let sum : c.saturating_add-owed.result ≡ c.in-Some.row.now.owed + k = (let e = c.saturating_add-owed.ensures in omega arith) in
    let none : given_of c.in-Some.row.now.finished (c.in-Some.row.now.owed + k) ≡ 0 = elim c.then-row.branch [
      | goal.then-row-via-then-row w ↦ none_finished c.in-Some.row.now.finished (c.in-Some.row.now.owed + k) w.if-row.true
      | goal.then-row-via-else-row+then-owed-lt-GIVE_BACK_FROM w ↦ none_few c.in-Some.row.now.finished (c.in-Some.row.now.owed + k) (let few = w.if-owed-lt-GIVE_BACK_FROM.true in omega arith)
    ] in
    as_counted role past fed sent n k _ _ size
    (did role past fed sent (Taken n k) _ _ at (a_stream role past (table_of c.self.inside.streams) n c.in-Some.row.now at.table found, omega arith)
    (replaced role past (Taken n k) n c.in-Some.row.now (record c.in-Some.row.now { owed = c.saturating_add-owed.result }) (table_of c.self.inside.streams) _ at.table found
    (rewritten c.self.inside.streams c.get_mut.follows.lender n c.in-Some.row.now (record c.in-Some.row.now { owed = c.saturating_add-owed.result }) found c.get_mut.follows.holds)
    (taking role past n k 0 c.in-Some.row.now (record c.in-Some.row.now { owed = c.saturating_add-owed.result }) row.1 none (omega arith) fits (omega arith) (omega arith) refl refl refl refl)
    (λ m. refl) (quiet _) (λ m. refl) refl refl)
    refl c.if-self.false (nothing_sent role past n k c.self.inside.output.items (giving role past n k 0 c.in-Some.row.now row.1 none)))

pub returns-then-is_err-clause-refused : goal.returns-then-is_err-clause-refused
returns-then-is_err-clause-refused c = λ role past fed sent stands.
    let at = subst (λ (s : State). Stands role past fed sent s) (sym c.self.view_is) stands in
    a_stream role past (table_of c.self.inside.streams) c.args.stream c.in-Some.row.now at.table (sym c.in-Some.ensures.value)

pub returns-clause-ok : goal.returns-clause-ok
returns-clause-ok c = λ role past fed sent stands.
    let at = subst (λ (s : State). Stands role past fed sent s) (sym c.self.view_is) stands in
    let n : ℕ = c.args.stream in
    let k : ℕ = c.min-count.result in
    let g : ℕ = c.saturating_add-owed.result in
    let found = sym c.in-Some.ensures.value in
    let row = row_of role past (table_of c.self.inside.streams) n (Some c.in-Some.row.now) at.table found in
    let rest = row.1.untaken in
    let bound = row.1.bound in
    let come = c.coming-coming.ensures ∙ coming_is role past (table_of c.self.inside.streams) n c.bytes_left.result at.table (c.bytes_left.ensures fed (arrivals past) at.frames) in
    let there = untaken_is role past n c.in-Some.row.now row.1 in
    let here = c.untaken.ensures in
    let least = c.min-count.ensures in
    let size : k ≡ min c.args.count (untaken role past n) = omega arith in
    let fits : k ≤ untaken role past n = omega arith in
    let sum : g ≡ c.in-Some.row.now.owed + k = (let e = c.saturating_add-owed.ensures in omega arith) in
    let wide : c.saturating_add-row.result ≡ c.in-Some.row.now.window + g = (let e = c.saturating_add-row.ensures in omega arith) in
    let many : 131072 ≤ g = c.if-owed-lt-GIVE_BACK_FROM.false in
    let all : given_of c.in-Some.row.now.finished (c.in-Some.row.now.owed + k) ≡ g = all_given c.in-Some.row.now.finished (c.in-Some.row.now.owed + k) c.if-row.false (omega arith) ∙ sym sum in
    as_counted role past fed sent n k _ _ size
    (did role past fed sent (Taken n k) _ _ at (a_stream role past (table_of c.self.inside.streams) n c.in-Some.row.now at.table found, omega arith)
    (replaced role past (Taken n k) n c.in-Some.row.now (record c.in-Some.row.now { window = c.saturating_add-row.result; owed = 0 }) (table_of c.self.inside.streams) _ at.table found
    (rewritten c.self.inside.streams c.get_mut.follows.lender n c.in-Some.row.now (record c.in-Some.row.now { window = c.saturating_add-row.result; owed = 0 }) found c.get_mut.follows.holds)
    (taking role past n k g c.in-Some.row.now (record c.in-Some.row.now { window = c.saturating_add-row.result; owed = 0 }) row.1 all (omega arith) fits wide (omega arith) refl refl refl refl)
    (λ m. refl) (quiet _) (λ m. refl) refl refl)
    refl c.if-self.false
    (on_ok c.append_frame.result c.append_frame.ensures.ok (c.is_err.ensures.negation ∙ ap not c.if-is_err.false) ∙ ap (λ (t : List ℕ). c.self.inside.output.items ++ t) (given_sent role past n k g (giving role past n k g c.in-Some.row.now row.1 all) many)))

pub returns-then-is_err-clause-memory : goal.returns-then-is_err-clause-memory
returns-then-is_err-clause-memory c = λ why role past fed sent stands.
    let at = subst (λ (s : State). Stands role past fed sent s) (sym c.self.view_is) stands in
    let n : ℕ = c.args.stream in
    let k : ℕ = c.min-count.result in
    let g : ℕ = c.saturating_add-owed.result in
    let found = sym c.in-Some.ensures.value in
    let row = row_of role past (table_of c.self.inside.streams) n (Some c.in-Some.row.now) at.table found in
    let rest = row.1.untaken in
    let bound = row.1.bound in
    let come = c.coming-coming.ensures ∙ coming_is role past (table_of c.self.inside.streams) n c.bytes_left.result at.table (c.bytes_left.ensures fed (arrivals past) at.frames) in
    let there = untaken_is role past n c.in-Some.row.now row.1 in
    let here = c.untaken.ensures in
    let least = c.min-count.ensures in
    let size : k ≡ min c.args.count (untaken role past n) = omega arith in
    let fits : k ≤ untaken role past n = omega arith in
    let sum : g ≡ c.in-Some.row.now.owed + k = (let e = c.saturating_add-owed.ensures in omega arith) in
    let many : 131072 ≤ g = c.if-owed-lt-GIVE_BACK_FROM.false in
    let all : given_of c.in-Some.row.now.finished (c.in-Some.row.now.owed + k) ≡ g = all_given c.in-Some.row.now.finished (c.in-Some.row.now.owed + k) c.if-row.false (omega arith) ∙ sym sum in
    let some : 0 < g = omega arith in
    subst (λ j. 0 < given_back role n past (Did (Taken n j))) size (subst (λ t. 0 < t) (sym (giving role past n k g c.in-Some.row.now row.1 all)) some)

pub returns-then-is_err-clause-err : goal.returns-then-is_err-clause-err
returns-then-is_err-clause-err c =
    let refused = sym c.is_err.ensures.value ∙ c.if-is_err.true in
    as_before _ _ (looked_at c.self.inside.streams c.get_mut.follows.lender c.args.stream c.in-Some.row.now (sym c.in-Some.ensures.value) c.get_mut.follows.holds)
    refl (on_err c.append_frame.result c.append_frame.ensures.err refused) (on_err c.append_frame.result c.append_frame.ensures.room refused) refl ∙ c.self.view_is
