-- A side that hears a message.
use Rattle.std.proofs.Common.{◌≡◌, ◌≢◌, ℕ, ◌+◌, ◌<◌, ◌≤◌, Bool, true, get_or, List, [], ◌∷◌, ◌++◌, length, Option, Some, None, Ok, Err, refl, ap, sym, subst, ◌∙◌, inl, append_assoc, arith}
use Rattle.std.specs.List.{All}
use Rattle.std.proofs.lemmas.List.{append-nil, length-append}
use Rattle.varint_proto.specs.Incoming.{Frames, ReadsFramed, Stands as Arrives, IsWhole}
use Rattle.varint_proto.proofs.Arriving.{whole_read}
use Rattle.ms_select.specs.declared.fault.SelectFault.{SelectFault}
use Rattle.ms_select.specs.declared.fault.SelectFault.TheVariants.{OutOfMemory}
use Rattle.ms_select.specs.declared.answer.Answer.{Answer}
use Rattle.ms_select.specs.declared.answer.Answer.TheVariants.{Going, Agreed, NoneLeft}
use Rattle.ms_select.specs.Messages.{longest, message, spelled, IsShort, IsNoText}
use Rattle.ms_select.specs.Sides.{Comes, IsHeard, written, count_of, next_count, is_begun, answer_room, Negotiating, Hears, StandsWith}
use Rattle.ms_select.specs.Verdicts.{said, verdict_of}
use Rattle.ms_select.proofs.Texts.{spelled_more, still_begun}
use Rattle.ms_select.proofs.Framing.{text_is, no_text, not_memory}
use Rattle.ms_select.proofs.Judging.{unread, faulty, going_on, decided, reply_fits}

-- ---- a whole message

-- all of the message that is heard
framed : (x : Negotiating) (input taken : List ℕ) (texts : List (List ℕ)) (rest : List ℕ) → Hears x input taken texts rest → IsWhole x.incoming → Frames longest rest x.incoming.body []
framed x input taken texts rest h w = subst (λ (n : ℕ). Frames n rest x.incoming.body []) h.limit (whole_read x.incoming rest h.arrives w)

-- what is heard ends with the message of this text
pub record Ends (x : Negotiating) (input taken : List ℕ) (texts : List (List ℕ)) (text : List ℕ) : Type 0 where
  pub parts : input ≡ spelled texts ++ message text
  pub short : IsShort text
  pub heard : IsHeard x.role x.names texts
  pub begun : x.begun ≡ is_begun texts
  pub count : x.count ≡ count_of x.role texts
  pub written : taken ++ x.pending ≡ written x.role x.names texts
  pub room : answer_room x.role x.names x.count (length text + 1) ≤ x.room

pub ends : (x : Negotiating) (input taken : List ℕ) (texts : List (List ℕ)) (rest text : List ℕ) → Hears x input taken texts rest → IsWhole x.incoming → x.incoming.body ≡ text ++ 10 ∷ []
    → Ends x input taken texts text
ends x input taken texts rest text h w e =
    let whole = text_is rest x.incoming.body text h.bytes (framed x input taken texts rest h w) e in
    let size : length x.incoming.body ≡ length text + 1 = ap length e ∙ length-append text (10 ∷ []) in
    record {
      parts = h.parts ∙ ap (λ (b : List ℕ). spelled texts ++ b) whole.0;
      short = whole.1;
      heard = h.heard;
      begun = h.begun;
      count = h.count;
      written = h.written;
      room = subst (λ (n : ℕ). answer_room x.role x.names x.count n ≤ x.room) size (h.room (length x.incoming.body) w (omega (arith, size)));
    }

-- a body without a text
pub textless : (x : Negotiating) (input taken : List ℕ) (texts : List (List ℕ)) (rest : List ℕ) (fault : SelectFault) → Hears x input taken texts rest → IsWhole x.incoming → IsNoText x.incoming.body fault
    → (fault ≢ OutOfMemory) × Comes x.role x.names input (Err fault) (length input) (taken ++ x.pending)
textless x input taken texts rest fault h w n =
    let here = unread x.role x.names texts input rest fault h.parts h.heard (no_text rest x.incoming.body fault (framed x input taken texts rest h w) n) in
    (not_memory x.incoming.body fault n, subst (λ (out : List ℕ). Comes x.role x.names input (Err fault) (length input) out) (sym h.written) here)

-- a verdict by what the side keeps is that by the texts
judged : (x : Negotiating) (input taken : List ℕ) (texts : List (List ℕ)) (text : List ℕ) → Ends x input taken texts text
    → verdict_of x.role x.begun x.names x.count text ≡ verdict_of x.role (is_begun texts) x.names (count_of x.role texts) text
judged x input taken texts text h = ap (λ (b : Bool). verdict_of x.role b x.names x.count text) h.begun ∙ ap (λ (n : ℕ). verdict_of x.role (is_begun texts) x.names n text) h.count

pub misplaced : (x : Negotiating) (input taken : List ℕ) (texts : List (List ℕ)) (text : List ℕ) (fault : SelectFault) → Ends x input taken texts text
    → verdict_of x.role x.begun x.names x.count text ≡ Err fault → (fault ≢ OutOfMemory) × Comes x.role x.names input (Err fault) (length input) (taken ++ x.pending)
misplaced x input taken texts text fault h v =
    let here = faulty x.role x.names texts input text fault h.parts h.short h.heard (sym (judged x input taken texts text h) ∙ v) in
    (here.0, subst (λ (out : List ℕ). Comes x.role x.names input (Err fault) (length input) out) (sym h.written) here.1)

-- the reply finds room
pub no_want : (x : Negotiating) (input taken : List ℕ) (texts : List (List ℕ)) (text : List ℕ) (answer : Answer) (reply : Option (List ℕ)) → All IsShort x.names → Ends x input taken texts text
    → verdict_of x.role x.begun x.names x.count text ≡ Ok (answer, reply) → x.room < length (said reply) → ⊥
no_want x input taken texts text answer reply names h v full = omega (arith, h.room, full, reply_fits x.role x.begun x.names x.count text answer reply names h.short v)

-- the message decides
pub deciding : (x new : Negotiating) (input taken : List ℕ) (texts : List (List ℕ)) (text : List ℕ) (answer : Answer) (reply : Option (List ℕ)) → answer ≢ Going → Ends x input taken texts text
    → verdict_of x.role x.begun x.names x.count text ≡ Ok (answer, reply) → new.role ≡ x.role → new.names ≡ x.names → new.pending ≡ x.pending ++ said reply
    → StandsWith (Some answer) new input (length input) taken
deciding x new input taken texts text answer reply ne h v r n p =
    let here = decided x.role x.names texts input text answer reply ne h.parts h.short h.heard (sym (judged x input taken texts text h) ∙ v) in
    let output : written x.role x.names texts ++ said reply ≡ taken ++ new.pending =
    ap (λ (out : List ℕ). out ++ said reply) (sym h.written) ∙ append_assoc taken x.pending (said reply) ∙ ap (λ (out : List ℕ). taken ++ out) (sym p) in
    decided_at answer new input taken ne (rw (r, n) (subst (λ (out : List ℕ). Comes x.role x.names input (Ok answer) (length input) out) output here))
  where
    decided_at : (answer : Answer) (new : Negotiating) (input taken : List ℕ) → answer ≢ Going → Comes new.role new.names input (Ok answer) (length input) (taken ++ new.pending) → StandsWith (Some answer) new input (length input) taken
    decided_at Going new input taken ne c = absurd (ne refl)
    decided_at (Agreed index) new input taken ne c = c
    decided_at NoneLeft new input taken ne c = c

pub nothing_read : ReadsFramed longest [] (Ok None)
nothing_read = inl (tt, omega arith)

pub no_bytes : (i : ℕ) → get_or {A = ℕ} [] i 0 < 256
no_bytes i = omega arith

-- the message decides nothing, and the next one begins
pub continuing : (x new : Negotiating) (input taken : List ℕ) (texts : List (List ℕ)) (text : List ℕ) (reply : Option (List ℕ)) → Ends x input taken texts text
    → verdict_of x.role x.begun x.names x.count text ≡ Ok (Going, reply) → new.role ≡ x.role → new.names ≡ x.names → new.pending ≡ x.pending ++ said reply
    → new.begun ≡ true → new.count ≡ next_count x.role x.begun x.count → Arrives [] new.incoming → new.incoming.limit ≡ longest → new.incoming.expected ≡ None
    → StandsWith (Some Going) new input (length input) taken
continuing x new input taken texts text reply h v r n p b c a l e =
    let here = going_on x.role x.names texts text reply h.short h.heard (sym (judged x input taken texts text h) ∙ v) in
    let output : taken ++ new.pending ≡ written x.role x.names (texts ++ text ∷ []) =
    ap (λ (out : List ℕ). taken ++ out) p ∙ sym (append_assoc taken x.pending (said reply)) ∙ ap (λ (out : List ℕ). out ++ said reply) h.written ∙ sym here.written in
    let counted : new.count ≡ count_of x.role (texts ++ text ∷ []) =
    c ∙ ap (λ (b : Bool). next_count x.role b x.count) h.begun ∙ ap (next_count x.role (is_begun texts)) h.count ∙ sym here.count in (
      texts ++ text ∷ [],
      [],
      record {
        parts = h.parts ∙ sym (spelled_more texts text) ∙ sym (append-nil (spelled (texts ++ text ∷ [])));
        bytes = no_bytes;
        heard = rw (r, n) here.heard;
        arrives = a;
        limit = l;
        begun = b ∙ sym (still_begun texts text);
        count = rw r counted;
        written = rw (r, n) output;
        room = λ len known some. let no : None ≡ Some len = sym e ∙ known in absurd cc;
      },
      nothing_read,
      refl,
    )
