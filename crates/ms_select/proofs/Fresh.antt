-- A side that has heard nothing.
use Rattle.std.proofs.Common.{◌≡◌, ℕ, ◌<◌, false, List, [], ◌∷◌, ◌++◌, length, map, Some, None, refl, ap, sym, ◌∙◌, arith}
use Rattle.std.specs.Prelude.{slice_get}
use Rattle.std.specs.List.{All}
use Rattle.std.proofs.lemmas.List.{append-nil}
use Rattle.std.proofs.lemmas.List.Elements.{All-nil, All-map}
use Rattle.varint_proto.specs.Incoming.{Stands as Arrives}
use Rattle.ms_select.specs.declared.answer.Answer.TheVariants.{Going}
use Rattle.ms_select.specs.declared.verdict.Role.TheVariants.{Dialer, Listener}
use Rattle.ms_select.specs.Messages.{longest, header, message, IsShort}
use Rattle.ms_select.specs.Listening.{IsName}
use Rattle.ms_select.specs.Dialing.{proposals}
use Rattle.ms_select.specs.Sides.{IsHeard, written, count_of, Negotiating, StandsWith}
use Rattle.ms_select.proofs.Hearing.{nothing_read, no_bytes}

-- names that can be proposed have messages
pub names_short : {X : Type 0} (view : X → List ℕ) (names : List X) (texts : List (List ℕ)) → texts ≡ map view names → All (λ n. IsName (view n)) names → All IsShort texts
names_short view names texts e h = rw e (All-map IsShort view names (λ k d lt. (h k d lt).1))

pub some_below : (names : List (List ℕ)) (first : List ℕ) → slice_get names 0 ≡ Some first → 0 < length names
some_below [] first at = absurd cc
some_below (name ∷ names) first at = omega arith

first_proposal : (names : List (List ℕ)) (first : List ℕ) → slice_get names 0 ≡ Some first → proposals names 0 ≡ message header ++ message first
first_proposal [] first at = absurd cc
first_proposal (name ∷ names) first at =
    let e : name ≡ first = cc in
    ap (λ (m : List ℕ). message header ++ m) (append-nil (message name) ∙ ap message e)

-- a side that nothing decided
fresh : (x : Negotiating) → x.begun ≡ false → x.count ≡ count_of x.role [] → Arrives [] x.incoming → x.incoming.limit ≡ longest → x.incoming.expected ≡ None
    → IsHeard x.role x.names [] → x.pending ≡ written x.role x.names [] → StandsWith (Some Going) x [] 0 []
fresh x b c a l e h p = (
  [],
  [],
  record {
    parts = refl;
    bytes = no_bytes;
    heard = h;
    arrives = a;
    limit = l;
    begun = b;
    count = c;
    written = p;
    room = λ len known some. let no : None ≡ Some len = sym e ∙ known in absurd cc;
  },
  nothing_read,
  refl,
)

pub listener_fresh : (x : Negotiating) → x.role ≡ Listener → x.begun ≡ false → x.count ≡ 0 → Arrives [] x.incoming → x.incoming.limit ≡ longest → x.incoming.expected ≡ None
    → x.pending ≡ message header → StandsWith (Some Going) x [] 0 []
listener_fresh x r b c a l e p = fresh x b (rw r c) a l e (rw r (All-nil IsShort, tt)) (rw r (p ∙ sym (append-nil (message header))))

pub dialer_fresh : (x : Negotiating) (first : List ℕ) → x.role ≡ Dialer → x.begun ≡ false → x.count ≡ 0 → Arrives [] x.incoming → x.incoming.limit ≡ longest → x.incoming.expected ≡ None
    → slice_get x.names 0 ≡ Some first → x.pending ≡ message header ++ message first → StandsWith (Some Going) x [] 0 []
dialer_fresh x first r b c a l e at p = fresh x b (rw r c) a l e (rw r (tt, some_below x.names first at)) (rw r (p ∙ sym (first_proposal x.names first at)))
