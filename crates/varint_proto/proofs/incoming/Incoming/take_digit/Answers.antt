use Rattle.std.proofs.Common.{◌≡◌, ◌≤◌, ℕ, List, [], ◌∷◌, ◌++◌, length, Some, Ok, refl, ap, sym, subst, ◌∙◌, arith}
use Rattle.varint_proto.specs.Varint.{ReadsShortest}
use Rattle.varint_proto.specs.Incoming.{Announces, Arriving}
use Rattle.varint_proto.proofs.Arriving.{announced, starting, stands_known}
use Rattle.varint_proto.proofs.incoming.Incoming.take_digit.Goals as goal

pub returns-in_err-reserve-clause-memory : goal.returns-in_err-reserve-clause-memory
returns-in_err-reserve-clause-memory c = λ input s oom.
    let x = c.args.self.now in
    let held : c.as_slice.result.now ≡ x.spelling ++ c.args.byte ∷ [] =
    c.as_slice.ensures.value ∙ c.push.ensures.items ∙ ap (λ (a : Arriving). a.spelling ++ c.args.byte ∷ []) c.self.view_is in
    let read = rw c.in-Some.is at c.in_ok-len.ensures.found in
    let reads : ReadsShortest (x.spelling ++ c.args.byte ∷ []) (Ok (Some (c.in-Some.len, read.0))) =
    subst (λ (b : List ℕ). ReadsShortest b (Ok (Some (c.in-Some.len, read.0)))) held read.1 in
    let fits : c.in-Some.len ≤ x.limit = omega (arith, read.2, ap (λ (a : Arriving). a.limit) c.self.view_is) in
    let empty = (starting x input c.requires.unknown s).2 in
    let none : length x.body ≡ 0 = ap length empty in (
      c.in-Some.len,
      announced x input c.args.byte c.in-Some.len read.0 c.requires.unknown s reads fits,
      omega (arith, none, c.in_err-reserve.ensures.full, ap (λ (a : Arriving). a.room) c.self.view_is, ap (λ (a : Arriving). length a.body) c.self.view_is),
    )

pub returns-clause-stands : goal.returns-clause-stands
returns-clause-stands c = λ input s.
    let x = c.args.self.now in
    let held : c.as_slice.result.now ≡ x.spelling ++ c.args.byte ∷ [] =
    c.as_slice.ensures.value ∙ c.push.ensures.items ∙ ap (λ (a : Arriving). a.spelling ++ c.args.byte ∷ []) c.self.view_is in
    let read = rw c.in-Some.is at c.in_ok-len.ensures.found in
    let reads : ReadsShortest (x.spelling ++ c.args.byte ∷ []) (Ok (Some (c.in-Some.len, read.0))) =
    subst (λ (b : List ℕ). ReadsShortest b (Ok (Some (c.in-Some.len, read.0)))) held read.1 in
    let limit-is : c.self.inside.limit ≡ x.limit = ap (λ (a : Arriving). a.limit) c.self.view_is in
    let fits : c.in-Some.len ≤ x.limit = omega (arith, read.2, limit-is) in
    let empty : c.reserve.new.self.items ≡ [] =
    c.in_ok-reserve.ensures.items ∙ ap (λ (a : Arriving). a.body) c.self.view_is ∙ (starting x input c.requires.unknown s).2 in
    let announces = announced x input c.args.byte c.in-Some.len read.0 c.requires.unknown s reads fits in
    let here : Announces c.self.inside.limit (input ++ c.args.byte ∷ []) c.in-Some.len c.reserve.new.self.items =
    subst (λ (b : List ℕ). Announces c.self.inside.limit (input ++ c.args.byte ∷ []) c.in-Some.len b) (sym empty)
    (subst (λ (limit : ℕ). Announces limit (input ++ c.args.byte ∷ []) c.in-Some.len []) (sym limit-is) announces) in
    let short : length c.reserve.new.self.items ≤ c.in-Some.len = rw empty (omega arith) in
    stands_known _ (input ++ c.args.byte ∷ []) c.in-Some.len refl refl here short
