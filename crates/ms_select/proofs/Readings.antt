-- Two readings of one input.
use Rattle.std.proofs.Common.{◌≡◌, ℕ, ◌+◌, ◌<◌, ◌≤◌, Bool, true, false, cond, leb, List, [], ◌∷◌, ◌++◌, length, get_or, map, Option, Some, None, option_map, Result, Ok, Err, refl, ap, sym, subst, ◌∙◌, ◌⊎◌, inl, inr, append_assoc, arith, lit<}
use Rattle.std.specs.Prelude.{slice_get}
use Rattle.std.specs.List.{All, position}
use Rattle.std.specs.Str.{bytes_eq}
use Rattle.std.proofs.lemmas.List.{append_cancel_left, length-append}
use Rattle.std.proofs.lemmas.List.Elements.{All-nil, All-cons, All-head, All-tail, All-map, All-weaker}
use Rattle.std.proofs.lemmas.List.Quantifiers.{position-Some}
use Rattle.std.proofs.lemmas.Option.{slice_get-get_or, slice_get_past}
use Rattle.std.proofs.lemmas.Bool.{cases_lt, lt-leb, le-leb, leb-true}
use Rattle.std.proofs.lemmas.Slice.Eq.{bytes_eq-Decides}
use Rattle.ms_select.specs.declared.fault.SelectFault.{SelectFault}
use Rattle.ms_select.specs.declared.fault.SelectFault.TheVariants.{BadHeader, NotProposed}
use Rattle.ms_select.specs.declared.answer.Answer.{Answer}
use Rattle.ms_select.specs.declared.answer.Answer.TheVariants.{Going, Agreed, NoneLeft}
use Rattle.ms_select.specs.Messages.{header, na, message, spelled, IsShort, ReadsMessage}
use Rattle.ms_select.specs.Listening.{is_reserved, choice, IsUndecided, Heard, refusals, IsRefused, Listens, OneListener}
use Rattle.ms_select.specs.Dialing.{Answered, IsRefusals, IsNotAnswer, refused, proposals, Dials, OneDialer}
use Rattle.ms_select.specs.Joined.{OneName}
use Rattle.ms_select.proofs.Lists.{chosen}
use Rattle.ms_select.proofs.Reading.{Read, some_text, one_message, message_again}

-- the first text of both readings
pub same_text : (t u : List ℕ) (x y : List ℕ) → IsShort t → IsShort u → message t ++ x ≡ message u ++ y → (t ≡ u) × (x ≡ y)
same_text t u x y p q e =
    let r : some_text t ≡ some_text u = one_message (message u ++ y) (some_text t) (some_text u) (subst (λ (b : List ℕ). ReadsMessage b (some_text t)) e (message_again t x p)) (message_again u y q) in
    let same : t ≡ u = cc in
    let f : message u ++ x ≡ message u ++ y = rw same at e in
    (same, append_cancel_left (message u) x y f)

-- ---- one name

short_na : (t : List ℕ) → t ≡ na → IsShort t
short_na t e = rw e (lit< tt)

-- The names that stand behind as many na as there are, neither of which is na, are one.
behind : (xs ys : List (List ℕ)) (a b : List ℕ) (r s : List ℕ) → All (λ t. t ≡ na) xs → All (λ t. t ≡ na) ys → (a ≡ na → ⊥) → (b ≡ na → ⊥) → IsShort a → IsShort b
    → spelled xs ++ (message a ++ r) ≡ spelled ys ++ (message b ++ s) → a ≡ b
behind [] [] a b r s p q f g h k e = (same_text a b r s h k e).0
behind [] (y ∷ ys) a b r s p q f g h k e =
    let y-is : y ≡ na = All-head (λ t. t ≡ na) y ys q in
    absurd (f ((same_text a y r (spelled ys ++ (message b ++ s)) h (short_na y y-is) (e ∙ append_assoc (message y) (spelled ys) (message b ++ s))).0 ∙ y-is))
behind (x ∷ xs) [] a b r s p q f g h k e =
    let x-is : x ≡ na = All-head (λ t. t ≡ na) x xs p in
    absurd (g (sym (same_text x b (spelled xs ++ (message a ++ r)) s (short_na x x-is) k (sym (append_assoc (message x) (spelled xs) (message a ++ r)) ∙ e)).0 ∙ x-is))
behind (x ∷ xs) (y ∷ ys) a b r s p q f g h k e =
    let x-is : x ≡ na = All-head (λ t. t ≡ na) x xs p in
    let y-is : y ≡ na = All-head (λ t. t ≡ na) y ys q in
    let tails = (same_text x y (spelled xs ++ (message a ++ r)) (spelled ys ++ (message b ++ s)) (short_na x x-is) (short_na y y-is) (sym (append_assoc (message x) (spelled xs) (message a ++ r)) ∙ e ∙ append_assoc (message y) (spelled ys) (message b ++ s))).1 in
    behind xs ys a b r s (All-tail (λ t. t ≡ na) x xs p) (All-tail (λ t. t ≡ na) y ys q) f g h k tails

abbrev some_name : List ℕ → Option (List ℕ)
some_name name = Some name

abbrev no_index : Option ℕ
no_index = None

-- a name that is agreed on
chosen_name : (names : List (List ℕ)) (text : List ℕ) (index : ℕ) → choice names text ≡ Some index → (slice_get names index ≡ Some text) × (text ≡ na → ⊥)
chosen_name names text index e =
    elim (chosen (is_reserved text) None (position (λ name. bytes_eq name text) names) (Some index) e) [
      | inl p ↦ let bad : no_index ≡ Some index = p.1 in absurd cc
      | inr p ↦
          let at = position-Some (λ name. bytes_eq name text) names index [] p.1 in
          let same : get_or names index [] ≡ text = (bytes_eq-Decides (get_or names index []) text).0 at.1 in
          (slice_get-get_or names index [] at.0 ∙ ap some_name same, λ is. let bad : true ≡ false = sym (ap is_reserved is) ∙ p.0 in absurd cc)
    ]

regroup : (a b c d e : List ℕ) → ((a ++ b) ++ (c ++ d)) ++ e ≡ a ++ (b ++ (c ++ (d ++ e)))
regroup a b c d e = simp append_assoc

pub one_name_of : OneName
one_name_of dialed served to_dialer to_listener i j joined =
    let d = joined.calls.dials in
    let l = joined.serves.listens in
    let answers : List (List ℕ) = d.0 in
    let name : List ℕ = d.1 in
    let echo : List ℕ = l.1 in
    let c = chosen_name served echo j l.4.chosen in
    let refused : List (List ℕ) = map (λ _. na) l.0 in
    let all_na : All (λ t. t ≡ na) refused = All-map (λ t. t ≡ na) (λ _. na) l.0 (λ k x lt. refl) in
    let left : joined.from_listener ≡ message header ++ (spelled answers ++ (message name ++ (d.2 ++ joined.on_the_way))) = joined.delivered ∙ ap (λ (x : List ℕ). x ++ joined.on_the_way) d.3.parts ∙ regroup (message header) (spelled answers) (message name) d.2 joined.on_the_way in
    let right : joined.from_listener ≡ message header ++ (spelled refused ++ (message echo ++ joined.serves.more)) = joined.serves.written_is ∙ ap (λ (x : List ℕ). x ++ joined.serves.more) l.6 ∙ simp append_assoc in
    let both : spelled answers ++ (message name ++ (d.2 ++ joined.on_the_way)) ≡ spelled refused ++ (message echo ++ joined.serves.more) = append_cancel_left (message header) _ _ (sym left ∙ right) in
    let same : name ≡ echo = behind answers refused name echo (d.2 ++ joined.on_the_way) joined.serves.more d.3.refusals.1 all_na d.4.other c.1 d.4.short l.4.short both in
    (name, d.4.proposed, c.0 ∙ ap some_name (sym same))

-- ---- one outcome

-- how two readings of one input stand to one another
data Compared (xs ys : List (List ℕ)) (r s : List ℕ) : Type 0 where
  same : xs ≡ ys → r ≡ s → Compared xs ys r s
  shorter : (text : List ℕ) (more : List (List ℕ)) → ys ≡ xs ++ text ∷ more → r ≡ message text ++ (spelled more ++ s) → Compared xs ys r s
  longer : (text : List ℕ) (more : List (List ℕ)) → xs ≡ ys ++ text ∷ more → s ≡ message text ++ (spelled more ++ r) → Compared xs ys r s

compare : (xs ys : List (List ℕ)) (r s : List ℕ) → All IsShort xs → All IsShort ys → spelled xs ++ r ≡ spelled ys ++ s → Compared xs ys r s
compare [] [] r s p q e = same refl e
compare [] (y ∷ ys) r s p q e = shorter y ys refl (e ∙ append_assoc (message y) (spelled ys) s)
compare (x ∷ xs) [] r s p q e = longer x xs refl (sym e ∙ append_assoc (message x) (spelled xs) r)
compare (x ∷ xs) (y ∷ ys) r s p q e =
    let t = same_text x y (spelled xs ++ r) (spelled ys ++ s) (All-head IsShort x xs p) (All-head IsShort y ys q) (sym (append_assoc (message x) (spelled xs) r) ∙ e ∙ append_assoc (message y) (spelled ys) s) in
    elim (compare xs ys r s (All-tail IsShort x xs p) (All-tail IsShort y ys q) t.1) [
      | same a b ↦ same (rw (t.0, a) refl) b
      | shorter text more a b ↦ shorter text more (rw (t.0, a) refl) b
      | longer text more a b ↦ longer text more (rw (t.0, a) refl) b
    ]

-- what the next text comes to, where something ends the talk or it waits
abbrev ending : List (List ℕ) → List (List ℕ) → Read → Option (Result Answer SelectFault)
ending names texts (Err fault) = Some (Err fault)
ending names texts (Ok None) = Some (Ok Going)
ending names [] (Ok (Some text)) = cond (bytes_eq text header) None (Some (Err BadHeader))
ending names (first ∷ proposals) (Ok (Some text)) = option_map (λ i. Ok (Agreed i)) (choice names text)

-- what has been used and written then
abbrev IsDone : List ℕ → List (List ℕ) → List ℕ → Result Answer SelectFault → ℕ → List ℕ → Type 0
IsDone input texts rest (Ok Going) used output = (used ≡ length input) × (output ≡ refusals texts)
IsDone input texts rest (Ok (Agreed index)) used output = (name : List ℕ) × (after : List ℕ) × (rest ≡ message name ++ after) × IsShort name × (used + length after ≡ length input) × (output ≡ refusals texts ++ message name)
IsDone input texts rest (Ok NoneLeft) used output = ⊥
IsDone input texts rest (Err fault) used output = (used ≡ length input) × (output ≡ refusals texts)

All-behind : {X : Type 0} (P : X → Type 0) (xs ys : List X) → All P (xs ++ ys) → All P ys
All-behind P [] ys h = h
All-behind P (x ∷ xs) ys h = All-behind P xs ys (All-tail P x (xs ++ ys) h)

-- a text that decides nothing ends nothing
no_end : (names texts more : List (List ℕ)) (text : List ℕ) → IsUndecided names (texts ++ text ∷ more) → ending names texts (some_text text) ≡ None
no_end names [] more text u = rw ((bytes_eq-Decides text header).1 u.0) refl
no_end names (first ∷ proposals) more text u = rw (All-head (λ t. choice names t ≡ None) text more (All-behind (λ t. choice names t ≡ None) proposals (text ∷ more) u.1)) refl

abbrev some_standing : Result Answer SelectFault → Option (Result Answer SelectFault)
some_standing a = Some a

along : {A B C : Type 0} (P : A → B → C → Type 0) {a a' : A} {b b' : B} {c c' : C} → a ≡ a' → b ≡ b' → c ≡ c' → P a b c → P a' b' c'
along P {a} {a'} {b} {b'} {c} {c'} p q r x = subst (λ z. P a' b' z) r (subst (λ y. P a' y c) q (subst (λ w. P w b c) p x))

pub not_true : (b : Bool) → (b ≡ true → ⊥) → b ≡ false
not_true true h = absurd (h refl)
not_true false h = refl

-- The next text, or what is wrong with it, ends the talk here, or it waits.
record Stops (end : Read → Option (Result Answer SelectFault)) (rest : List ℕ) (a : Result Answer SelectFault) : Type 0 where
  next : Read
  reads : ReadsMessage rest next
  is : end next ≡ Some a

refused_ends : (names texts : List (List ℕ)) (rest : List ℕ) (fault : SelectFault) → IsRefused texts rest fault → Stops (ending names texts) rest (Err fault)
refused_ends names (first ∷ proposals) rest fault r = record { next = Err fault; reads = r; is = refl }
refused_ends names [] rest fault (inl r) = record { next = Err fault; reads = r; is = refl }
refused_ends names [] rest fault (inr r) =
    let differs : bytes_eq r.0 header ≡ false = not_true (bytes_eq r.0 header) (λ t. r.2 ((bytes_eq-Decides r.0 header).0 t)) in
    record { next = Ok (Some r.0); reads = r.1; is = rw (differs, r.3) refl }

-- the listener's texts and rest, whatever its standing
ends_at : (names : List (List ℕ)) (input : List ℕ) (a : Result Answer SelectFault) (used : ℕ) (output : List ℕ) → Listens names input a used output
    → (texts : List (List ℕ)) × (rest : List ℕ) × Heard names input texts rest × Stops (ending names texts) rest a × IsDone input texts rest a used output
ends_at names input (Ok Going) used output l = (l.0, l.1, l.2, record { next = Ok None; reads = l.3; is = refl }, (l.4, l.5))
ends_at names input (Ok (Agreed index)) used output l = (header ∷ l.0, message l.1 ++ l.2, l.3, record { next = some_text l.1; reads = message_again l.1 l.2 l.4.short; is = rw l.4.chosen refl }, (l.1, l.2, refl, l.4.short, l.5, l.6))
ends_at names input (Ok NoneLeft) used output l = absurd l
ends_at names input (Err fault) used output l = (l.0, l.1, l.2, refused_ends names l.0 l.1 fault l.3, (l.4, l.5))

same_done : (input : List ℕ) (texts : List (List ℕ)) (rest : List ℕ) (a : Result Answer SelectFault) (used more : ℕ) (output other : List ℕ) → IsDone input texts rest a used output → IsDone input texts rest a more other → (used ≡ more) × (output ≡ other)
same_done input texts rest (Ok Going) used more output other d e = (d.0 ∙ sym e.0, d.1 ∙ sym e.1)
same_done input texts rest (Ok (Agreed index)) used more output other d e =
    let t = same_text d.0 e.0 d.1 e.1 d.3 e.3 (sym d.2 ∙ e.2) in
    let lengths : length d.1 ≡ length e.1 = ap length t.1 in
    (omega (arith, d.4, e.4), d.5 ∙ ap (λ (name : List ℕ). refusals texts ++ message name) t.0 ∙ sym e.5)
same_done input texts rest (Ok NoneLeft) used more output other d e = absurd d
same_done input texts rest (Err fault) used more output other d e = (d.0 ∙ sym e.0, d.1 ∙ sym e.1)

next_is : (rest : List ℕ) (next : Read) (text more : List ℕ) → IsShort text → ReadsMessage rest next → rest ≡ message text ++ more → next ≡ some_text text
next_is rest next text more short reads e = one_message rest next (some_text text) reads (subst (λ (b : List ℕ). ReadsMessage b (some_text text)) (sym e) (message_again text more short))

-- Two readings of the same texts and rest end alike.
same_end : (end other : Read → Option (Result Answer SelectFault)) (r s : List ℕ) (a b : Result Answer SelectFault) → end ≡ other → r ≡ s → Stops end r a → Stops other s b → a ≡ b
same_end end other r s a b p q x y =
    let next : x.next ≡ y.next = one_message s x.next y.next (subst (λ (t : List ℕ). ReadsMessage t x.next) q x.reads) y.reads in
    let e : some_standing a ≡ some_standing b = sym x.is ∙ ap end next ∙ ap (λ (f : Read → Option (Result Answer SelectFault)). f y.next) p ∙ y.is in
    cc

-- Where one reading ends, no other goes on.
not_longer : (names : List (List ℕ)) (input : List ℕ) (xs ys : List (List ℕ)) (r s : List ℕ) (a : Result Answer SelectFault) (text : List ℕ) (more : List (List ℕ)) → Heard names input ys s → Stops (ending names xs) r a → ys ≡ xs ++ text ∷ more → r ≡ message text ++ (spelled more ++ s) → ⊥
not_longer names input xs ys r s a text more heard e p q =
    let short : IsShort text = All-head IsShort text more (All-behind IsShort xs (text ∷ more) (rw p at heard.short)) in
    let m : e.next ≡ some_text text = next_is r e.next text (spelled more ++ s) short e.reads q in
    let none : ending names xs (some_text text) ≡ None = no_end names xs more text (rw p at heard.undecided) in
    let bad : None ≡ some_standing a = sym none ∙ ap (ending names xs) (sym m) ∙ e.is in
    absurd cc

pub one_listener_of : OneListener
one_listener_of names input a b used more output other l k =
    let x = ends_at names input a used output l in
    let y = ends_at names input b more other k in
    elim (compare x.0 y.0 x.1 y.1 x.2.short y.2.short (sym x.2.parts ∙ y.2.parts)) [
      | same p q ↦
          let answer : a ≡ b = same_end (ending names x.0) (ending names y.0) x.1 y.1 a b (ap (ending names) p) q x.3 y.3 in
          let d : IsDone input y.0 y.1 b used output = along (λ t r c. IsDone input t r c used output) p q answer x.4 in
          let done = same_done input y.0 y.1 b used more output other d y.4 in
          (answer, done.0, done.1)
      | shorter text rest p q ↦ absurd (not_longer names input x.0 y.0 x.1 y.1 a text rest y.2 x.3 p q)
      | longer text rest p q ↦ absurd (not_longer names input y.0 x.0 y.1 x.1 b text rest x.2 y.3 p q)
    ]

-- ---- one outcome of a dialer

is_name : Option (List ℕ) → List ℕ → Bool
is_name None text = false
is_name (Some name) text = bytes_eq name text

abbrev dial_answer : List (List ℕ) → ℕ → List ℕ → Option (Result Answer SelectFault)
dial_answer names index text = cond (bytes_eq text na) None (cond (is_name (slice_get names index) text) (Some (Ok (Agreed index))) (Some (Err NotProposed)))

-- what the next text comes to, where something ends the talk or it waits
abbrev dial_text : List (List ℕ) → List (List ℕ) → Read → Option (Result Answer SelectFault)
dial_text names texts (Err fault) = Some (Err fault)
dial_text names texts (Ok None) = Some (Ok Going)
dial_text names [] (Ok (Some text)) = cond (bytes_eq text header) None (Some (Err BadHeader))
dial_text names (first ∷ answers) (Ok (Some text)) = dial_answer names (length answers) text

-- no name is left
abbrev is_spent : List (List ℕ) → List (List ℕ) → Bool
is_spent names texts = leb (length names) (refused texts)

-- what ends a dialer's talk: no name is left, or else the next text
abbrev DialEnds : List (List ℕ) → List (List ℕ) → List ℕ → Result Answer SelectFault → Type 0
DialEnds names texts rest a = ((is_spent names texts ≡ true) × (a ≡ Ok NoneLeft)) ⊎ ((is_spent names texts ≡ false) × Stops (dial_text names texts) rest a)

refusals_short : (texts : List (List ℕ)) → IsRefusals texts → All IsShort texts
refusals_short [] r = All-nil IsShort
refusals_short (first ∷ answers) r = All-cons IsShort first answers (rw r.0 (lit< tt)) (All-weaker (λ t. t ≡ na) IsShort short_na answers r.1)

DialDone : List (List ℕ) → List ℕ → List (List ℕ) → List ℕ → Result Answer SelectFault → ℕ → List ℕ → Type 0
DialDone names input texts rest (Ok Going) used output = (used ≡ length input) × (output ≡ proposals names (refused texts))
DialDone names input texts rest (Ok (Agreed index)) used output = (name : List ℕ) × (after : List ℕ) × (rest ≡ message name ++ after) × IsShort name × (used + length after ≡ length input) × (output ≡ proposals names index)
DialDone names input texts rest (Ok NoneLeft) used output = (names ≡ [] → texts ≡ []) × (used + length rest ≡ length input) × (output ≡ proposals names (length names))
DialDone names input texts rest (Err fault) used output = (used ≡ length input) × (output ≡ proposals names (refused texts))

named : (o : Option (List ℕ)) (text : List ℕ) → is_name o text ≡ true → o ≡ Some text
unfolding is_name
named None text t = absurd cc
named (Some name) text t = ap some_name ((bytes_eq-Decides name text).0 t)

below_get : (names : List (List ℕ)) (index : ℕ) (name : List ℕ) → slice_get names index ≡ Some name → index < length names
below_get names index name at =
    elim (cases_lt index (length names)) [
      | inl lt ↦ lt
      | inr le ↦ let bad : None ≡ some_name name = sym (slice_get_past names index le) ∙ at in absurd cc
    ]

not_answer_ends : (names texts : List (List ℕ)) (rest : List ℕ) (fault : SelectFault) → IsNotAnswer names texts rest fault → Stops (dial_text names texts) rest (Err fault)
unfolding is_name
not_answer_ends names [] rest fault (inl r) = record { next = Err fault; reads = r; is = refl }
not_answer_ends names [] rest fault (inr r) =
    let differs : bytes_eq r.0 header ≡ false = not_true (bytes_eq r.0 header) (λ t. r.2 ((bytes_eq-Decides r.0 header).0 t)) in
    record { next = Ok (Some r.0); reads = r.1; is = rw (differs, r.3) refl }
not_answer_ends names (first ∷ answers) rest fault (inl r) = record { next = Err fault; reads = r; is = refl }
not_answer_ends names (first ∷ answers) rest fault (inr r) =
    let differs : bytes_eq r.0 na ≡ false = not_true (bytes_eq r.0 na) (λ t. r.2 ((bytes_eq-Decides r.0 na).0 t)) in
    let other : is_name (slice_get names (length answers)) r.0 ≡ false = not_true (is_name (slice_get names (length answers)) r.0) (λ t. r.3 (named (slice_get names (length answers)) r.0 t)) in
    record { next = Ok (Some r.0); reads = r.1; is = rw (differs, other, r.4) refl }

dial_ends_at : (names : List (List ℕ)) (input : List ℕ) (a : Result Answer SelectFault) (used : ℕ) (output : List ℕ) → Dials names input a used output
    → (texts : List (List ℕ)) × (rest : List ℕ) × Answered input texts rest × DialEnds names texts rest a × DialDone names input texts rest a used output
unfolding DialDone is_name
dial_ends_at names input (Ok Going) used output d = (d.0, d.1, d.2.answered, inr (lt-leb (length names) (refused d.0) d.2.left, record { next = Ok None; reads = d.3; is = refl }), (d.4, d.5))
dial_ends_at names input (Ok (Agreed index)) used output d =
    let below : index < length names = below_get names index d.1 d.4.proposed in
    let not_na : bytes_eq d.1 na ≡ false = not_true (bytes_eq d.1 na) (λ t. d.4.other ((bytes_eq-Decides d.1 na).0 t)) in
    let same : bytes_eq d.1 d.1 ≡ true = (bytes_eq-Decides d.1 d.1).1 refl in
    (header ∷ d.0, message d.1 ++ d.2, d.3, inr (lt-leb (length names) (length d.0) (omega (arith, d.4.place, below)), record { next = some_text d.1; reads = message_again d.1 d.2 d.4.short; is = rw (not_na, d.4.place, d.4.proposed, same) refl }), (d.1, d.2, refl, d.4.short, d.5, d.6))
dial_ends_at names input (Ok NoneLeft) used output d = (d.0, d.1, d.2, inl (le-leb (length names) (refused d.0) (omega (arith, d.3.all)), refl), (d.3.none, d.4, d.5))
dial_ends_at names input (Err fault) used output d = (d.0, d.1, d.2.answered, inr (lt-leb (length names) (refused d.0) d.2.left, not_answer_ends names d.0 d.1 fault d.3), (d.4, d.5))

-- as many refusals as there are names, at most
Within : List (List ℕ) → List (List ℕ) → Type 0
Within names texts = (refused texts ≤ length names) × (names ≡ [] → texts ≡ [])

within_less : (names texts : List (List ℕ)) → refused texts < length names → Within names texts
unfolding Within
within_less names texts lt = (omega arith, λ none. absurd (omega (arith, ap length none)))

within : (names : List (List ℕ)) (input : List ℕ) (a : Result Answer SelectFault) (used : ℕ) (output : List ℕ) (d : Dials names input a used output) → Within names (dial_ends_at names input a used output d).0
unfolding Within dial_ends_at
within names input (Ok Going) used output d = within_less names d.0 d.2.left
within names input (Ok (Agreed index)) used output d = within_less names (header ∷ d.0) (omega (arith, d.4.place, below_get names index d.1 d.4.proposed))
within names input (Ok NoneLeft) used output d = (omega (arith, d.3.all), d.3.none)
within names input (Err fault) used output d = within_less names d.0 d.2.left

refusal_goes_on : (names texts more : List (List ℕ)) (text : List ℕ) → IsRefusals (texts ++ text ∷ more) → dial_text names texts (some_text text) ≡ None
refusal_goes_on names [] more text r = rw ((bytes_eq-Decides text header).1 r.0) refl
refusal_goes_on names (first ∷ answers) more text r =
    rw ((bytes_eq-Decides text na).1 (All-head (λ t. t ≡ na) text more (All-behind (λ t. t ≡ na) answers (text ∷ more) r.1))) refl

not_spent : (names xs more : List (List ℕ)) (text : List ℕ) → Within names (xs ++ text ∷ more) → is_spent names xs ≡ true → ⊥
unfolding Within
not_spent [] xs more text w t = let none : xs ++ text ∷ more ≡ [] = w.1 refl in omega (arith, ap length none, length-append xs (text ∷ more))
not_spent (name ∷ names) [] more text w t = let le : length (name ∷ names) ≤ 0 = leb-true _ _ t in omega (arith, le)
not_spent (name ∷ names) (first ∷ answers) more text w t =
    let le : length (name ∷ names) ≤ length answers = leb-true _ _ t in
    omega (arith, le, w.0, length-append answers (text ∷ more))

not_longer_dial : (names : List (List ℕ)) (input : List ℕ) (xs ys : List (List ℕ)) (r s : List ℕ) (a : Result Answer SelectFault) (text : List ℕ) (more : List (List ℕ)) → Answered input ys s → Within names ys → DialEnds names xs r a → ys ≡ xs ++ text ∷ more → r ≡ message text ++ (spelled more ++ s) → ⊥
not_longer_dial names input xs ys r s a text more answered w (inl e) p q = not_spent names xs more text (rw p at w) e.0
not_longer_dial names input xs ys r s a text more answered w (inr e) p q =
    let refusals : IsRefusals (xs ++ text ∷ more) = rw p at answered.refusals in
    let short : IsShort text = All-head IsShort text more (All-behind IsShort xs (text ∷ more) (refusals_short (xs ++ text ∷ more) refusals)) in
    let m : e.1.next ≡ some_text text = next_is r e.1.next text (spelled more ++ s) short e.1.reads q in
    let none : dial_text names xs (some_text text) ≡ None = refusal_goes_on names xs more text refusals in
    let bad : None ≡ some_standing a = sym none ∙ ap (dial_text names xs) (sym m) ∙ e.1.is in
    absurd cc

same_dial_done : (names : List (List ℕ)) (input : List ℕ) (texts : List (List ℕ)) (rest : List ℕ) (a : Result Answer SelectFault) (used more : ℕ) (output other : List ℕ) → DialDone names input texts rest a used output → DialDone names input texts rest a more other → (used ≡ more) × (output ≡ other)
unfolding DialDone
same_dial_done names input texts rest (Ok Going) used more output other d e = (d.0 ∙ sym e.0, d.1 ∙ sym e.1)
same_dial_done names input texts rest (Ok (Agreed index)) used more output other d e =
    let t = same_text d.0 e.0 d.1 e.1 d.3 e.3 (sym d.2 ∙ e.2) in
    let lengths : length d.1 ≡ length e.1 = ap length t.1 in
    (omega (arith, d.4, e.4), d.5 ∙ sym e.5)
same_dial_done names input texts rest (Ok NoneLeft) used more output other d e = (omega (arith, d.1, e.1), d.2 ∙ sym e.2)
same_dial_done names input texts rest (Err fault) used more output other d e = (d.0 ∙ sym e.0, d.1 ∙ sym e.1)

same_dial_end : (names xs ys : List (List ℕ)) (r s : List ℕ) (a b : Result Answer SelectFault) → xs ≡ ys → r ≡ s → DialEnds names xs r a → DialEnds names ys s b → a ≡ b
same_dial_end names xs ys r s a b p q (inl x) (inl y) = x.1 ∙ sym y.1
same_dial_end names xs ys r s a b p q (inl x) (inr y) = let bad : true ≡ false = sym x.0 ∙ ap (is_spent names) p ∙ y.0 in absurd cc
same_dial_end names xs ys r s a b p q (inr x) (inl y) = let bad : false ≡ true = sym x.0 ∙ ap (is_spent names) p ∙ y.0 in absurd cc
same_dial_end names xs ys r s a b p q (inr x) (inr y) = same_end (dial_text names xs) (dial_text names ys) r s a b (ap (dial_text names) p) q x.1 y.1

pub one_dialer_of : OneDialer
one_dialer_of names input a b used more output other l k =
    let x = dial_ends_at names input a used output l in
    let y = dial_ends_at names input b more other k in
    elim (compare x.0 y.0 x.1 y.1 (refusals_short x.0 x.2.refusals) (refusals_short y.0 y.2.refusals) (sym x.2.parts ∙ y.2.parts)) [
      | same p q ↦
          let answer : a ≡ b = same_dial_end names x.0 y.0 x.1 y.1 a b p q x.3 y.3 in
          let d : DialDone names input y.0 y.1 b used output = along (λ t r c. DialDone names input t r c used output) p q answer x.4 in
          let done = same_dial_done names input y.0 y.1 b used more output other d y.4 in
          (answer, done.0, done.1)
      | shorter text rest p q ↦ absurd (not_longer_dial names input x.0 y.0 x.1 y.1 a text rest y.2 (within names input b more other k) x.3 p q)
      | longer text rest p q ↦ absurd (not_longer_dial names input y.0 x.0 y.1 x.1 b text rest x.2 (within names input a used output l) y.3 p q)
    ]
