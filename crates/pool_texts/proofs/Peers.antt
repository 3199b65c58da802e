-- Which words name a peer, and which name none.
use Rattle.std.proofs.Common.{◌≡◌, ◌≢◌, ℕ, ◌+◌, List, [], ◌∷◌, ◌++◌, length, drop, Some, Ok, Err, Bor, Result, refl, sym, ap, ◌∙◌, inl, inr, arith}
use Rattle.std.specs.Prelude.{codes, replicate, slice_index}
use Rattle.std.specs.Char.{encode_utf8}
use lib.Utf8.{encode}
use Rattle.std.specs.Result.{result_ok, result_unwrap_or}
use Rattle.std.specs.Str.Pattern.{FindsCharPrefix}
use Rattle.std.proofs.lemmas.Str.Pattern.{strip_prefix_char}
use Rattle.hex.specs.Hex.{decode_sized}
use Rattle.hex.specs.declared.error.FromHexError.{FromHexError}
use Rattle.hex.proofs.HexLemmas.{decode_sized-ok, decode_sized-twice, decode_of-ok}
use Rattle.peer_ids.specs.declared.kind.KeyType.TheVariants.{Ed25519}
use Rattle.peer_ids.specs.PeerId.{id_of}
use Rattle.peer_ids.specs.ReadsText.{ReadsId}
use Rattle.pool_texts.specs.Lines.{IsPeer}

pub apart : (c d : ℕ) (xs ys : List ℕ) → c ≢ d → c ∷ xs ≡ d ∷ ys → ⊥
apart c d xs ys other is = other (ap (λ (word : List ℕ). slice_index word 0) is)

pub no_dash : (peer : List ℕ) → IsPeer (codes "-") peer → ⊥
unfolding IsPeer
no_dash peer (inl text) = apart 45 98 [] text.0.0 (omega arith) text.0.2
no_dash peer (inr key) = apart 45 64 [] key.0 (omega arith) key.2

pub behind_the_sign : (word : List ℕ) (digits : Bor (List ℕ))
    → ((n : ℕ) × FindsCharPrefix 64 word (Some n) × (digits.now ≡ drop n word) × (length digits.now + n ≡ length word))
    → word ≡ 64 ∷ digits.now
behind_the_sign word digits h = strip_prefix_char 64 word (Some digits) h (omega arith)

one_byte : (bytes : List ℕ) → length bytes ≡ 1 → bytes ≡ slice_index bytes 0 ∷ []
one_byte [] one = absurd (omega (arith, one))
one_byte (b ∷ []) one = refl
one_byte (b ∷ c ∷ bytes) one = absurd (omega (arith, one))

decoded_one : (digits bytes : List ℕ) → decode_sized digits 1 ≡ Ok bytes → bytes ≡ slice_index bytes 0 ∷ []
decoded_one digits bytes is =
    let two = decode_sized-ok digits 1 bytes is in
    let all = decode_of-ok digits bytes (sym (decode_sized-twice digits 1 two) ∙ is) in
    one_byte bytes (omega (arith, two, all.2))

was_read : {E : Type 0} (read : Result (List ℕ) E) (bytes : List ℕ) → result_ok read ≡ Some bytes → read ≡ Ok bytes
was_read (Ok one) bytes is = cc
was_read (Err e) bytes is = cc

abbrev pub key_id : ℕ → List ℕ
key_id byte = id_of (record { kind = Ed25519; body = replicate 32 byte })

pub of_key : (word digits bytes id : List ℕ) (read : Result (List ℕ) FromHexError) → word ≡ 64 ∷ digits
    → read ≡ decode_sized digits 1 → result_ok read ≡ Some bytes → id ≡ key_id (slice_index bytes 0) → IsPeer word id
unfolding IsPeer
of_key word digits bytes id read is asked answered named =
    let decoded = sym asked ∙ was_read read bytes answered in
    let one = decoded_one digits bytes decoded in
    inr (digits, slice_index bytes 0, is, decoded ∙ ap Ok one, named)

pub of_key_alone : (word digits bytes id other : List ℕ) (read : Result (List ℕ) FromHexError) → word ≡ 64 ∷ digits
    → read ≡ decode_sized digits 1 → result_ok read ≡ Some bytes → id ≡ key_id (slice_index bytes 0) → IsPeer word other
    → id ≡ other
unfolding IsPeer
of_key_alone word digits bytes id other read is asked answered named (inl text) = absurd (apart 64 98 digits text.0.0 (omega arith) (sym is ∙ text.0.2))
of_key_alone word digits bytes id other read is asked answered named (inr key) =
    let decoded = sym asked ∙ was_read read bytes answered in
    let one = decoded_one digits bytes decoded in
    let digits_are : digits ≡ key.0 = ap (drop 1) (sym is ∙ key.2) in
    let same : Ok bytes ≡ Ok (key.1 ∷ []) = sym decoded ∙ ap (λ (it : List ℕ). decode_sized it 1) digits_are ∙ key.3 in
    named ∙ ap (λ (it : Result (List ℕ) FromHexError). key_id (slice_index (result_unwrap_or it []) 0)) same ∙ sym key.4

-- without the sign it is an id's text, or nothing
pub of_text_alone : (word other : List ℕ) → ((rest : List ℕ) → word ≢ encode_utf8 64 ++ rest) → IsPeer word other
    → ReadsId word (Ok other)
unfolding IsPeer encode
of_text_alone word other unsigned (inl text) = text
of_text_alone word other unsigned (inr key) = absurd (unsigned key.0 key.2)
