-- The events and the output of arrivals.
use Rattle.std.proofs.Common.{◌≡◌, ℕ, ◌<◌, ◌≤◌, Bool, true, false, ◌&&◌, cond, nat_lt, List, [], ◌∷◌, ◌++◌, length, map, Option, Some, None, refl, sym, ap, ◌∙◌, subst, append_assoc, arith}
use Rattle.std.proofs.lemmas.List.{append-nil}
use Rattle.std.specs.List.{AllByRecursion}
use Rattle.std.proofs.lemmas.Bool.{lt-ltb, le-ltb}
use Rattle.std.proofs.lemmas.List.Concat.{flat_map-append}
use Rattle.yamux_frames.specs.Spelling.{payload_length}
use Rattle.yamux_frames.specs.declared.header.Header.{Header}
use Rattle.yamux_frames.specs.Frames.Arrival.{Head, Byte, Tail}
use Rattle.yamux_session.specs.declared.event.Role.{Role}
use Rattle.yamux_session.specs.declared.event.Event.{Event}
use Rattle.yamux_session.specs.declared.event.Event.TheVariants as event
use Rattle.yamux_session.specs.declared.heads.Effect.{Effect}
use Rattle.yamux_session.specs.History.{Item, came_bytes, is_go_away}
use Rattle.yamux_session.specs.History.Item.{Came}
use Rattle.yamux_session.specs.Openings.{reading}
use Rattle.yamux_session.specs.Windows.{accepted}
use Rattle.yamux_session.specs.Faults.{HasNoFault}
use Rattle.yamux_session.specs.Events.{Told, when, taker, byte_told, events}
use Rattle.yamux_session.specs.Output.{output}
use Rattle.yamux_session.specs.Table.{Table}
use Rattle.yamux_session.specs.Keeps.{Keeps}
use Rattle.yamux_session.specs.Heads.{told_of}
use Rattle.yamux_session.specs.Arrives.{telling, tellings, HasData, AddsNoData, Tells, began, Arrives}
use Rattle.yamux_session.specs.Naming.{IsNoData}
use Rattle.yamux_session.proofs.Arriving.{belongs_on}

-- ---- events added

pub all_both : (P : Event → Type 0) (xs ys : List Event) → AllByRecursion P xs → AllByRecursion P ys → AllByRecursion P (xs ++ ys)
all_both P [] ys a b = b
all_both P (x ∷ xs) ys a b = (a.0, all_both P xs ys a.1 b)

pub no_data_then : (a b c : List Event) → AddsNoData a b → AddsNoData b c → AddsNoData a c
no_data_then a b c one two = (
  one.0 ++ two.0,
  two.1 ∙ ap (λ (xs : List Event). xs ++ two.0) one.1 ∙ append_assoc a one.0 two.0,
  all_both IsNoData one.0 two.0 one.2 two.2,
)

pub tells_nothing : (xs : List Event) → Tells xs xs []
tells_nothing xs = record { more = []; added = sym (append-nil xs); telling = refl; filled = tt }

pub tells_one : (xs new : List Event) (e : Event) → HasData e → new ≡ xs ++ e ∷ [] → Tells xs new (telling e)
tells_one xs new e filled added = record { more = e ∷ []; added = added; telling = append-nil (telling e); filled = (filled, tt) }

pub tells_then : (a b c : List Event) (t u : List Told) → Tells a b t → Tells b c u → Tells a c (t ++ u)
tells_then a b c t u one two = record {
  more = one.more ++ two.more;
  added = two.added ∙ ap (λ (xs : List Event). xs ++ two.more) one.added ∙ append_assoc a one.more two.more;
  telling = flat_map-append telling one.more two.more ∙ ap (λ (xs : List Told). xs ++ tellings two.more) one.telling ∙ ap (λ (xs : List Told). t ++ xs) two.telling;
  filled = all_both HasData one.more two.more one.filled two.filled;
}

pub tells_as : (a b : List Event) (t u : List Told) → t ≡ u → Tells a b t → Tells a b u
tells_as a b t u e tells = subst (Tells a b) e tells

when_is : (b : Bool) (t : Told) → cond b (t ∷ []) [] ≡ when b t
when_is true t = refl
when_is false t = refl

pub tells_head : (a b c d e : List Event) (h : Header) (effect : Effect) → Tells a b (cond (is_go_away h.kind) (Told.GoAway h.length ∷ []) []) → Tells b c (cond effect.opened (Told.Opened h.stream ∷ []) [])
    → Tells c d (cond effect.accepted (Told.Accepted h.stream ∷ []) []) → Tells d e (cond effect.credited (Told.Credit h.stream ∷ []) []) → Tells a e (told_of h effect)
tells_head a b c d e h effect one two three four =
    tells_then a d e _ _
    (tells_then a c d _ _
    (tells_then a b c _ _ (tells_as a b _ _ (when_is (is_go_away h.kind) (Told.GoAway h.length)) one) (tells_as b c _ _ (when_is effect.opened (Told.Opened h.stream)) two))
    (tells_as c d _ _ (when_is effect.accepted (Told.Accepted h.stream)) three))
    (tells_as d e _ _ (when_is effect.credited (Told.Credit h.stream)) four)

-- ---- a head

-- ---- bytes of a payload

abbrev pub bytes_told : Option ℕ → List ℕ → List Told
bytes_told None bytes = []
bytes_told (Some n) bytes = map (Told.Payload n) bytes

taker_on : (role : Role) (past : List Item) (b : ℕ) (r : Option Header) → taker role (Came (Byte b) ∷ past) r ≡ taker role past r
taker_on role past b None = refl
taker_on role past b (Some h) = ap (λ t. cond t (Some h.stream) None) (belongs_on role past b h.stream)

one_more : (t : Option ℕ) (b : ℕ) (bytes : List ℕ) → byte_told t b ++ bytes_told t bytes ≡ bytes_told t (b ∷ bytes)
one_more None b bytes = refl
one_more (Some n) b bytes = refl

pub bytes_events : (role : Role) (bytes : List ℕ) (past : List Item) → events role (came_bytes bytes past) ≡ events role past ++ bytes_told (taker role past (reading role past)) bytes
bytes_events role [] past = sym (none (taker role past (reading role past)))
  where
    none : (t : Option ℕ) → events role past ++ bytes_told t [] ≡ events role past
    none None = append-nil (events role past)
    none (Some n) = append-nil (events role past)
bytes_events role (b ∷ bytes) past =
    let t : Option ℕ = taker role past (reading role past) in
    bytes_events role bytes (Came (Byte b) ∷ past)
    ∙ ap (λ (u : Option ℕ). (events role past ++ byte_told t b) ++ bytes_told u bytes) (taker_on role past b (reading role past))
    ∙ append_assoc (events role past) (byte_told t b) (bytes_told t bytes) ∙ ap (λ (xs : List Told). events role past ++ xs) (one_more t b bytes)

bytes_output : (role : Role) (bytes : List ℕ) (past : List Item) → output role (came_bytes bytes past) ≡ output role past
bytes_output role [] past = refl
bytes_output role (b ∷ bytes) past = bytes_output role bytes (Came (Byte b) ∷ past) ∙ append-nil (output role past)

bytes_good : (role : Role) (bytes : List ℕ) (past : List Item) → HasNoFault role past → HasNoFault role (came_bytes bytes past)
bytes_good role [] past good = good
bytes_good role (b ∷ bytes) past good = bytes_good role bytes (Came (Byte b) ∷ past) (refl, good)

pub bytes_arrive : (role : Role) (past : List Item) (bytes : List ℕ) (new : Table) (t : Option ℕ) (old_told new_told : List Event) (out : List ℕ)
    → Keeps role (came_bytes bytes past) new → t ≡ taker role past (reading role past) → Tells old_told new_told (bytes_told t bytes)
    → Arrives role past (came_bytes bytes past) new old_told new_told out out
bytes_arrive role past bytes new t old_told new_told out keeps takes tells = record {
  no_fault = bytes_good role bytes past;
  keeps = keeps;
  told = (bytes_told t bytes, tells, bytes_events role bytes past ∙ ap (λ (u : Option ℕ). events role past ++ bytes_told u bytes) (sym takes));
  output = ([], sym (append-nil out), bytes_output role bytes past ∙ sym (append-nil (output role past)));
}

-- ---- a tail

-- ---- one arrival after another

pub arrives_then : (role : Role) (past mid now : List Item) (table last : Table) (a b c : List Event) (x y z : List ℕ)
    → Arrives role past mid table a b x y → Arrives role mid now last b c y z → Arrives role past now last a c x z
arrives_then role past mid now table last a b c x y z one two = record {
  no_fault = λ before. two.no_fault (one.no_fault before);
  keeps = two.keeps;
  told = (
    one.told.0 ++ two.told.0,
    tells_then a b c one.told.0 two.told.0 one.told.1 two.told.1,
    two.told.2 ∙ ap (λ (xs : List Told). xs ++ two.told.0) one.told.2 ∙ append_assoc (events role past) one.told.0 two.told.0,
  );
  output = (
    one.output.0 ++ two.output.0,
    two.output.1 ∙ ap (λ (xs : List ℕ). xs ++ two.output.0) one.output.1 ∙ append_assoc x one.output.0 two.output.0,
    two.output.2 ∙ ap (λ (xs : List ℕ). xs ++ two.output.0) one.output.2 ∙ append_assoc (output role past) one.output.0 two.output.0,
  );
}

pub tells_payload : (xs new : List Event) (n : ℕ) (bytes slice : List ℕ) → slice ≡ bytes → 0 < length bytes → new ≡ xs ++ event.Payload n slice ∷ [] → Tells xs new (bytes_told (Some n) bytes)
tells_payload xs new n bytes slice same some added =
    tells_as xs new (map (Told.Payload n) slice) (map (Told.Payload n) bytes) (ap (map (Told.Payload n)) same)
    (tells_one xs new (event.Payload n slice) (λ none. absurd (let size : length bytes ≡ 0 = ap length (sym same ∙ none) in omega arith)) added)

-- ---- a head, with its tail where there is no payload

began_at : (role : Role) (past : List Item) (h : Header) (new : Table) (old_told new_told : List Event) (old_output new_output : List ℕ) (b : Bool) → nat_lt 0 (payload_length h) ≡ b
    → Arrives role past (cond b (Came (Head h) ∷ past) (Came Tail ∷ Came (Head h) ∷ past)) new old_told new_told old_output new_output
    → Arrives role past (began h past) new old_told new_told old_output new_output
began_at role past h new old_told new_told old_output new_output b is arrives =
    subst (λ c. Arrives role past (cond c (Came (Head h) ∷ past) (Came Tail ∷ Came (Head h) ∷ past)) new old_told new_told old_output new_output) (sym is) arrives

pub begins_whole : (role : Role) (past : List Item) (h : Header) (new : Table) (old_told new_told : List Event) (old_output new_output : List ℕ) (n : ℕ) → n ≡ payload_length h → 0 < n
    → Arrives role past (Came (Head h) ∷ past) new old_told new_told old_output new_output → Arrives role past (began h past) new old_told new_told old_output new_output
begins_whole role past h new old_told new_told old_output new_output n is some arrives =
    began_at role past h new old_told new_told old_output new_output true (lt-ltb 0 (payload_length h) (omega arith)) arrives

pub begins_bare : (role : Role) (past : List Item) (h : Header) (new : Table) (old_told new_told : List Event) (old_output new_output : List ℕ) (n : ℕ) → n ≡ payload_length h → n ≤ 0
    → Arrives role past (Came Tail ∷ Came (Head h) ∷ past) new old_told new_told old_output new_output → Arrives role past (began h past) new old_told new_told old_output new_output
begins_bare role past h new old_told new_told old_output new_output n is none arrives =
    began_at role past h new old_told new_told old_output new_output false (le-ltb 0 (payload_length h) (omega arith)) arrives
