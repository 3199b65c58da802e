-- The histories of two joined sessions have only answered calls.
use Rattle.std.proofs.Common.{◌≡◌, ℕ, List, [], ◌∷◌, ◌++◌, map, sym, subst}
use Rattle.yamux_frames.specs.Frames.{Arrival}
use Rattle.yamux_session.specs.declared.event.Role.{Role}
use Rattle.yamux_session.specs.declared.event.Role.TheVariants.{Client, Server}
use Rattle.yamux_session.specs.History.{Item, Act}
use Rattle.yamux_session.specs.History.Item.{Came, Did}
use Rattle.yamux_session.specs.Acts.{AreAnswered}
use Rattle.yamux_session.specs.Joined.{End, Joined, IsFed, IsDone, JoinedAreAnswered}
use Rattle.yamux_session.specs.Joined.Joined.{Begin, Client_fed, Server_fed, Client_acts, Server_acts}

arrived : (role : Role) (came : List Arrival) (past : List Item) → AreAnswered role past → AreAnswered role (map Came came ++ past)
arrived role [] past are = are
arrived role (x ∷ came) past are = arrived role came past are

fed_on : (role other : Role) (old new from : End) (byte : ℕ) → IsFed role other old new from byte → AreAnswered role old.items → AreAnswered role new.items
fed_on role other old new from byte fed are =
    subst (AreAnswered role) (sym fed.came.1) (arrived role fed.came.0 old.items are)

done_on : (role : Role) (old new : End) (act : Act) → IsDone role old new act → AreAnswered role old.items → AreAnswered role new.items
done_on role old new act done are = subst (AreAnswered role) (sym done.items) (done.answered, are)

pub joined_are_answered : JoinedAreAnswered
joined_are_answered _ _ Begin = (tt, tt)
joined_are_answered _ _ (Client_fed {client} {server} {new} {byte} before fed) =
    let both = joined_are_answered client server before in (fed_on Client Server client new server byte fed both.0, both.1)
joined_are_answered _ _ (Server_fed {client} {server} {new} {byte} before fed) =
    let both = joined_are_answered client server before in (both.0, fed_on Server Client server new client byte fed both.1)
joined_are_answered _ _ (Client_acts {client} {server} {new} {act} before done) =
    let both = joined_are_answered client server before in (done_on Client client new act done both.0, both.1)
joined_are_answered _ _ (Server_acts {client} {server} {new} {act} before done) =
    let both = joined_are_answered client server before in (both.0, done_on Server server new act done both.1)
