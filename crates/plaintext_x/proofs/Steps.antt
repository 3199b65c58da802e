-- What an exchange comes to by a piece more, and that it stays so.
use Rattle.std.proofs.Common.{◌≡◌, ℕ, zero, suc, ◌+◌, ◌≤◌, get_or, take, drop, List, [], ◌∷◌, ◌++◌, length, Option, Some, None, Ok, Err, refl, sym, subst, inl, inr, add-one, arith}
use Rattle.std.specs.Prelude.{IfSome}
use Rattle.std.proofs.lemmas.List.{append-nil, length-append, length-drop}
use Rattle.varint_proto.specs.declared.fault.IncomingRefused.{IncomingRefused}
use Rattle.varint_proto.specs.declared.fault.IncomingRefused.TheVariants as framing
use Rattle.varint_proto.specs.Incoming.{Frames, ReadsFramed, Stands as Arrives, RefusesRoom}
use Rattle.varint_proto.proofs.Framed.{frames_more, fault_more, framed_ends, whole_not_partial}
use Rattle.varint_proto.proofs.Arriving.{place}
use Rattle.peer_ids.specs.Key.{Key}
use Rattle.plaintext_x.specs.declared.fault.ExchangeFault.{ExchangeFault}
use Rattle.plaintext_x.specs.declared.fault.ExchangeFault.TheVariants.{Failed, TooLong, Wire, NoId, NoKey, BadKey, Differs, OutOfMemory}
use Rattle.plaintext_x.specs.Exchange.{SpellsExchange, RefusesBody, of_refused, longest, HasFault, Exchanges, RunsOut, Exchanging, HasRead}

pub faulty_in : (input body rest : List ℕ) (fault : ExchangeFault) → Frames longest input body rest → RefusesBody body fault → HasFault input fault
faulty_in input body rest Failed f r = absurd r.2
faulty_in input body rest TooLong f r = absurd r.2
faulty_in input body rest Wire f r = inr (body, rest, f, r)
faulty_in input body rest NoId f r = (body, rest, f, r)
faulty_in input body rest NoKey f r = (body, rest, f, r)
faulty_in input body rest BadKey f r = (body, rest, f, r)
faulty_in input body rest Differs f r = (body, rest, f, r)
faulty_in input body rest OutOfMemory f r = (body, rest, f, r)

-- want of memory alone is answered as that
pub memory_alone : (refused : IncomingRefused) → of_refused refused ≡ OutOfMemory → refused ≡ framing.OutOfMemory
memory_alone framing.BadLength e = absurd cc
memory_alone framing.TooLong e = absurd cc
memory_alone framing.Failed e = absurd cc
memory_alone framing.OutOfMemory e = refl

-- ---- what follows isn't used

more_whole : (input more body rest : List ℕ) → Frames longest input body rest → Frames longest (input ++ more) body (rest ++ more)
more_whole input more body rest f = frames_more longest input more body rest f

stays : (input more : List ℕ) (fault : ExchangeFault) → HasFault input fault → HasFault (input ++ more) fault
stays input more TooLong h = fault_more longest input more framing.TooLong h
stays input more Wire (inl h) = inl (fault_more longest input more framing.BadLength h)
stays input more Wire (inr h) = inr (h.0, h.1 ++ more, more_whole input more h.0 h.1 h.2, h.3)
stays input more Failed h = (h.0, h.1 ++ more, more_whole input more h.0 h.1 h.2, h.3)
stays input more NoId h = (h.0, h.1 ++ more, more_whole input more h.0 h.1 h.2, h.3)
stays input more NoKey h = (h.0, h.1 ++ more, more_whole input more h.0 h.1 h.2, h.3)
stays input more BadKey h = (h.0, h.1 ++ more, more_whole input more h.0 h.1 h.2, h.3)
stays input more Differs h = (h.0, h.1 ++ more, more_whole input more h.0 h.1 h.2, h.3)
stays input more OutOfMemory h = (h.0, h.1 ++ more, more_whole input more h.0 h.1 h.2, h.3)

pub proof_stays : (input more : List ℕ) (key : Key) (used : ℕ) → Exchanges input (Ok (Some key)) used → Exchanges (input ++ more) (Ok (Some key)) used
proof_stays input more key used h =
    (h.0, h.1 ++ more, more_whole input more h.0 h.1 h.2, h.3, omega (arith, h.4, length-append input more, length-append h.1 more))

pub fault_stays : (input more : List ℕ) (fault : ExchangeFault) (used : ℕ) → Exchanges input (Err fault) used → Exchanges (input ++ more) (Err fault) (length (input ++ more))
fault_stays input more fault used h = (stays input more fault h.0, refl)

-- ---- a piece of the message

-- what an exchange that needs more bytes has read
pub reading : (x : Exchanging) (input : List ℕ) (used : ℕ) → x.answer ≡ Some None → HasRead x.answer x input used
    → Arrives input x.incoming × (x.incoming.limit ≡ longest) × Exchanges input (Ok None) used
reading x input used e h = subst (λ (a : Option (Option Key)). HasRead a x input used) e h

-- the message proves a key
pub proven_at : (input piece body : List ℕ) (key : Key) (used n : ℕ) → used ≡ length input → n ≤ length piece
    → Frames longest (input ++ piece) body (drop n piece) → SpellsExchange body key → Exchanges (input ++ piece) (Ok (Some key)) (used + n)
proven_at input piece body key used n u le framed spells =
    (body, drop n piece, framed, spells, omega (arith, length-append input piece, length-drop n piece))

-- the last byte of a message at which memory is asked for
pub memory_at : (input piece body : List ℕ) (used : ℕ) → used ≤ length piece → ReadsFramed longest input (Ok None)
    → Frames longest (input ++ take used piece) body [] → RefusesBody body OutOfMemory
    → RunsOut input piece
memory_at input piece body zero le partial whole refused =
    absurd (whole_not_partial longest input body [] (subst (λ (b : List ℕ). Frames longest b body []) (append-nil input) whole) partial)
memory_at input piece body (suc n) le partial whole refused =
    let here : Frames longest (input ++ take (n + 1) piece) body [] = rw (add-one n) whole in
    let last : Frames longest ((input ++ take n piece) ++ get_or piece n 0 ∷ []) body [] =
    subst (λ (b : List ℕ). Frames longest b body []) (sym (place input piece n (omega arith))) here in
    (n, omega arith, (framed_ends longest (input ++ take n piece) body (get_or piece n 0) last, refl), inr (body, [], here, refused))

-- the byte at which room for the message is refused
pub room_at : (input piece : List ℕ) (limit room : ℕ) → limit ≡ longest → RefusesRoom limit room input piece
    → RunsOut input piece
room_at input piece limit room e r =
    let here = subst (λ (limit : ℕ). RefusesRoom limit room input piece) e r in
    (here.0, here.1, (here.2, refl), inl (here.3.0, here.3.1, omega (arith, here.3.2)))

-- ---- standings

come_to : (answer : Option Key) (x : Exchanging) (input : List ℕ) (used : ℕ) → HasRead (Some answer) x input used → Exchanges input (Ok answer) used
come_to None x input used h = h.2
come_to (Some key) x input used h = h

outcome_at : (answer : Option (Option Key)) (x : Exchanging) (input : List ℕ) (used : ℕ) → HasRead answer x input used → IfSome answer (λ a. Exchanges input (Ok a) used)
outcome_at None x input used h = tt
outcome_at (Some a) x input used h = come_to a x input used h

-- what an exchange stands at is that of the definition
pub outcome : (x : Exchanging) (input : List ℕ) (used : ℕ) → HasRead x.answer x input used → IfSome x.answer (λ a. Exchanges input (Ok a) used)
outcome x input used h = outcome_at x.answer x input used h

-- a proven exchange, told more
pub proven_past : (x : Exchanging) (key : Key) (input piece : List ℕ) (used more : ℕ) → x.answer ≡ Some (Some key) → more ≡ 0 → HasRead x.answer x input used → HasRead x.answer x (input ++ piece) (used + more)
proven_past x key input piece used more e z h =
    let here : Exchanges input (Ok (Some key)) used = subst (λ (a : Option (Option Key)). HasRead a x input used) e h in
    let same : used ≡ used + more = omega (arith, z) in
    subst (λ (a : Option (Option Key)). HasRead a x (input ++ piece) (used + more)) (sym e) (subst (λ (n : ℕ). Exchanges (input ++ piece) (Ok (Some key)) n) same (proof_stays input piece key used here))

-- Where a feed refuses nothing of a proven exchange, one whose feed is refused was still reading.
pub still_reading : (state : Option (Option Key)) → (state ≡ None → ⊥) → ((key : Key) → state ≡ Some (Some key) → ⊥) → state ≡ Some None
still_reading None some unproven = absurd (some refl)
still_reading (Some None) some unproven = refl
still_reading (Some (Some key)) some unproven = absurd (unproven key refl)
