-- A handler is listed with its stream's number exactly where it is held.
use Rattle.std.proofs.Common.{arith, ◌≡◌, ℕ, zero, suc, ◌<◌, ◌⊎◌, inl, inr, Bool, true, false, cond, List, [], ◌∷◌, ◌++◌, slice_index_or, Option, Some, None, refl, sym, ap, ◌∙◌, subst}
use Rattle.std.specs.List.{AllByRecursion, Contains}
use Rattle.std.specs.List.Sorted.{IsStrictlySortedBy}
use Rattle.std.specs.Map.{keys_of, lookup}
use Rattle.std.specs.BTreeMap as tree
use Rattle.std.specs.Ordering.{nat_cmp, is_eq}
use Rattle.std.specs.declared.cmp.Ordering.{Ordering}
use Rattle.std.specs.declared.cmp.Ordering.TheVariants.{Less, Equal, Greater}
use Rattle.std.specs.Cmp.{nat_cmp_is}
use Rattle.std.proofs.lemmas.Map.Lookups.{exact_unsigned}
use Rattle.std.proofs.lemmas.List.Elements.{Contains-append_left, Contains-append_right, Contains-append_cases}
use Rattle.streams.specs.State.{Streaming, handler_of}
use Rattle.conn_log.specs.declared.earlier.Earlier.{Earlier}
use Rattle.board.specs.Handlers.{numbered, handlers_of, handlers_past}
use Rattle.conn_core.specs.Promises.{HoldsAt, HeldEarlier, ListedAreHeld}

-- ---- lists

one_at : {A : Type 0} (x y : A) (k : ℕ) → k < 1 → slice_index_or (x ∷ []) k y ≡ y → x ≡ y
one_at x y zero less is = is
one_at x y (suc k) less is = absurd (omega (arith, less))

one : {A : Type 0} (x y : A) → Contains (x ∷ []) y → x ≡ y
one x y c = one_at x y c.0 c.1 c.2

here : {A : Type 0} (x : A) (xs : List A) → Contains (x ∷ xs) x
here x xs = Contains-append_left (x ∷ []) xs x (0, omega (arith), refl)

none_in : {A : Type 0} (x : A) → Contains [] x → ⊥
none_in x c = omega (arith, c.1)

chosen : {A : Type 0} (b : Bool) (x y z : A) → cond b x y ≡ z → ((b ≡ true) × (x ≡ z)) ⊎ ((b ≡ false) × (y ≡ z))
chosen true x y z is = inl (refl, is)
chosen false x y z is = inr (refl, is)

-- ---- numbers

same : (n : ℕ) → nat_cmp n n ≡ Equal
same n = sym (nat_cmp_is n n Equal refl)

is_equal : (r : Ordering) → is_eq r ≡ true → r ≡ Equal
is_equal Less is = absurd (cc is)
is_equal Equal is = refl
is_equal Greater is = absurd (cc is)

at_is : (n m : ℕ) → tree.is_at (nat_cmp n) m ≡ true → n ≡ m
at_is n m is = exact_unsigned n m (is_equal (nat_cmp n m) is)

-- the number of another stream
apart : (n m : ℕ) (b : Bool) → tree.is_at (nat_cmp n) m ≡ b → nat_cmp m n ≡ Less → b ≡ false
apart n m true is less = absurd (let at_same : nat_cmp m m ≡ Less = subst (λ (k : ℕ). nat_cmp m k ≡ Less) (at_is n m is) less in let both : Less ≡ Equal = sym at_same ∙ same m in cc both)
apart n m false is less = refl

-- ---- one stream

module _ {H : Type 0} where
  listed_one : (n m : ℕ) (o : Option H) (handler : H) → m ≡ n → o ≡ Some handler → Contains (numbered m o) (n, handler)
  listed_one n m (Some other) handler number_is held =
      subst (λ (x : ℕ × H). Contains ((m, other) ∷ []) x) (let same_one : other ≡ handler = cc held in (ap (λ k. (k, other)) number_is ∙ ap (λ (h : H). (n, h)) same_one)) (here (m, other) [])
  listed_one n m None handler number_is held = absurd (cc held)

  one_listed : (n m : ℕ) (o : Option H) (handler : H) → Contains (numbered m o) (n, handler) → (m ≡ n) × (o ≡ Some handler)
  one_listed n m (Some other) handler c =
      let is = one (m, other) (n, handler) c in (ap (λ (x : ℕ × H). x.0) is, ap (λ (x : ℕ × H). Some x.1) is)
  one_listed n m None handler c = absurd (none_in (n, handler) c)

  -- ---- earlier openings

  past_listed : (past : List (Earlier H)) (n : ℕ) (handler : H) → Contains (handlers_past past) (n, handler) → HeldEarlier past n handler
  past_listed [] n handler c = absurd (none_in (n, handler) c)
  past_listed (it ∷ past) n handler c = by_place it past n handler (past_listed past n handler) (Contains-append_cases (numbered it.number (handler_of it.stream.stage)) (handlers_past past) (n, handler) c)
    where
      by_place : (it : Earlier H) (past : List (Earlier H)) (n : ℕ) (handler : H) → (Contains (handlers_past past) (n, handler) → HeldEarlier past n handler)
          → Contains (numbered it.number (handler_of it.stream.stage)) (n, handler) ⊎ Contains (handlers_past past) (n, handler) → HeldEarlier (it ∷ past) n handler
      by_place it past n handler later (inl first) =
          let is = one_listed n it.number (handler_of it.stream.stage) handler first in (it, here it past, is.0, is.1)
      by_place it past n handler later (inr behind) =
          let held = later behind in (held.0, Contains-append_right (it ∷ []) past held.0 held.1, held.2, held.3)

  past_held : (past : List (Earlier H)) (n : ℕ) (handler : H) (it : Earlier H) → Contains past it → it.number ≡ n → handler_of it.stream.stage ≡ Some handler → Contains (handlers_past past) (n, handler)
  past_held [] n handler it c number_is held = absurd (none_in it c)
  past_held (first ∷ past) n handler it c number_is held = by_place first past n handler it number_is held (λ behind. past_held past n handler it behind number_is held) (Contains-append_cases (first ∷ []) past it c)
    where
      by_place : (first : Earlier H) (past : List (Earlier H)) (n : ℕ) (handler : H) (it : Earlier H) → it.number ≡ n → handler_of it.stream.stage ≡ Some handler
          → (Contains past it → Contains (handlers_past past) (n, handler)) → Contains (first ∷ []) it ⊎ Contains past it → Contains (handlers_past (first ∷ past)) (n, handler)
      by_place first past n handler it number_is held later (inl is) =
          let first_is = one first it is in
          Contains-append_left (numbered first.number (handler_of first.stream.stage)) (handlers_past past) (n, handler)
          (listed_one n first.number (handler_of first.stream.stage) handler (ap (λ (x : Earlier H). x.number) first_is ∙ number_is) (ap (λ (x : Earlier H). handler_of x.stream.stage) first_is ∙ held))
      by_place first past n handler it number_is held later (inr behind) =
          Contains-append_right (numbered first.number (handler_of first.stream.stage)) (handlers_past past) (n, handler) (later behind)

  -- ---- the table

  below : (n lower : ℕ) (stream : Streaming H) (table : List (ℕ × Streaming H)) → AllByRecursion (λ y. nat_cmp lower y ≡ Less) (keys_of table)
      → lookup (tree.is_at (nat_cmp n)) table ≡ Some stream → nat_cmp lower n ≡ Less
  below n lower stream [] all found = absurd (cc found)
  below n lower stream (it ∷ table) all found = by_place n lower stream it table all (below n lower stream table all.1)
      (chosen (tree.is_at (nat_cmp n) it.0) (Some it.1) (lookup (tree.is_at (nat_cmp n)) table) (Some stream) found)
    where
      by_place : (n lower : ℕ) (stream : Streaming H) (it : ℕ × Streaming H) (table : List (ℕ × Streaming H)) → AllByRecursion (λ y. nat_cmp lower y ≡ Less) (keys_of (it ∷ table))
          → (lookup (tree.is_at (nat_cmp n)) table ≡ Some stream → nat_cmp lower n ≡ Less)
          → ((tree.is_at (nat_cmp n) it.0 ≡ true) × (Some it.1 ≡ Some stream)) ⊎ ((tree.is_at (nat_cmp n) it.0 ≡ false) × (lookup (tree.is_at (nat_cmp n)) table ≡ Some stream)) → nat_cmp lower n ≡ Less
      by_place n lower stream it table all later (inl first) = subst (λ (m : ℕ). nat_cmp lower m ≡ Less) (sym (at_is n it.0 first.0)) all.0
      by_place n lower stream it table all later (inr behind) = later behind.1

  table_held : (n : ℕ) (stream : Streaming H) (handler : H) (table : List (ℕ × Streaming H)) → lookup (tree.is_at (nat_cmp n)) table ≡ Some stream → handler_of stream.stage ≡ Some handler
      → Contains (handlers_of table) (n, handler)
  table_held n stream handler [] found held = absurd (cc found)
  table_held n stream handler (it ∷ table) found held = by_place n stream handler it table held (λ behind. table_held n stream handler table behind held)
      (chosen (tree.is_at (nat_cmp n) it.0) (Some it.1) (lookup (tree.is_at (nat_cmp n)) table) (Some stream) found)
    where
      by_place : (n : ℕ) (stream : Streaming H) (handler : H) (it : ℕ × Streaming H) (table : List (ℕ × Streaming H)) → handler_of stream.stage ≡ Some handler
          → (lookup (tree.is_at (nat_cmp n)) table ≡ Some stream → Contains (handlers_of table) (n, handler))
          → ((tree.is_at (nat_cmp n) it.0 ≡ true) × (Some it.1 ≡ Some stream)) ⊎ ((tree.is_at (nat_cmp n) it.0 ≡ false) × (lookup (tree.is_at (nat_cmp n)) table ≡ Some stream))
          → Contains (handlers_of (it ∷ table)) (n, handler)
      by_place n stream handler it table held later (inl first) =
          let stream_is : it.1 ≡ stream = (let e = first.1 in cc e) in
          Contains-append_left (numbered it.0 (handler_of it.1.stage)) (handlers_of table) (n, handler)
          (listed_one n it.0 (handler_of it.1.stage) handler (sym (at_is n it.0 first.0)) (ap (λ (s : Streaming H). handler_of s.stage) stream_is ∙ held))
      by_place n stream handler it table held later (inr behind) =
          Contains-append_right (numbered it.0 (handler_of it.1.stage)) (handlers_of table) (n, handler) (later behind.1)

  table_listed : (n : ℕ) (handler : H) (table : List (ℕ × Streaming H)) → IsStrictlySortedBy nat_cmp (keys_of table) → Contains (handlers_of table) (n, handler)
      → (stream : Streaming H) × (lookup (tree.is_at (nat_cmp n)) table ≡ Some stream) × (handler_of stream.stage ≡ Some handler)
  unfolding IsStrictlySortedBy
  table_listed n handler [] sorted c = absurd (none_in (n, handler) c)
  table_listed n handler (it ∷ table) sorted c = by_place n handler it table sorted.0 (table_listed n handler table sorted.1)
      (Contains-append_cases (numbered it.0 (handler_of it.1.stage)) (handlers_of table) (n, handler) c)
    where
      by_place : (n : ℕ) (handler : H) (it : ℕ × Streaming H) (table : List (ℕ × Streaming H)) → AllByRecursion (λ y. nat_cmp it.0 y ≡ Less) (keys_of table)
          → (Contains (handlers_of table) (n, handler) → (stream : Streaming H) × (lookup (tree.is_at (nat_cmp n)) table ≡ Some stream) × (handler_of stream.stage ≡ Some handler))
          → Contains (numbered it.0 (handler_of it.1.stage)) (n, handler) ⊎ Contains (handlers_of table) (n, handler)
          → (stream : Streaming H) × (lookup (tree.is_at (nat_cmp n)) (it ∷ table) ≡ Some stream) × (handler_of stream.stage ≡ Some handler)
      by_place n handler it table all later (inl first) =
          let is = one_listed n it.0 (handler_of it.1.stage) handler first in
          let found : tree.is_at (nat_cmp n) it.0 ≡ true = ap (λ (m : ℕ). is_eq (nat_cmp n m)) is.0 ∙ ap is_eq (same n) in
          (it.1, ap (λ (b : Bool). cond b (Some it.1) (lookup (tree.is_at (nat_cmp n)) table)) found, is.1)
      by_place n handler it table all later (inr behind) =
          let held = later behind in
          let past_it : tree.is_at (nat_cmp n) it.0 ≡ false = apart n it.0 (tree.is_at (nat_cmp n) it.0) refl (below n it.0 held.0 table all held.1) in
          (held.0, ap (λ (b : Bool). cond b (Some it.1) (lookup (tree.is_at (nat_cmp n)) table)) past_it ∙ held.1, held.2)

  pub listed_are_held : ListedAreHeld H
  listed_are_held streams past handlers held n handler = (there, back)
    where
      by_place : Contains (handlers_past past) (n, handler) ⊎ Contains (handlers_of held.table) (n, handler) → HeldEarlier past n handler ⊎ HoldsAt streams n handler
      by_place (inl first) = inl (past_listed past n handler first)
      by_place (inr behind) =
          let it = table_listed n handler held.table held.ascend behind in inr (it.0, held.found n ∙ it.1, it.2)

      there : Contains handlers (n, handler) → HeldEarlier past n handler ⊎ HoldsAt streams n handler
      there c = by_place (Contains-append_cases (handlers_past past) (handlers_of held.table) (n, handler) (subst (λ (hs : List (ℕ × H)). Contains hs (n, handler)) held.handlers_are c))

      in_all : HeldEarlier past n handler ⊎ HoldsAt streams n handler → Contains (handlers_past past ++ handlers_of held.table) (n, handler)
      in_all (inl it) = Contains-append_left (handlers_past past) (handlers_of held.table) (n, handler) (past_held past n handler it.0 it.1 it.2 it.3)
      in_all (inr it) = Contains-append_right (handlers_past past) (handlers_of held.table) (n, handler) (table_held n it.0 handler held.table (sym (held.found n) ∙ it.1) it.2)

      back : HeldEarlier past n handler ⊎ HoldsAt streams n handler → Contains handlers (n, handler)
      back it = subst (λ (hs : List (ℕ × H)). Contains hs (n, handler)) (sym held.handlers_are) (in_all it)
