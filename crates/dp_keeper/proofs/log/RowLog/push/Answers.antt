use Rattle.std.proofs.Common.{◌≡◌, ◌+◌, ◌≤◌, [], ◌∷◌, ◌++◌, length, ap, sym, subst, ◌∙◌, arith}
use Rattle.std.proofs.lemmas.List.{length-append, length_push}
use Rattle.dp_keeper.specs.Log.{rows_from, RiseTo}
use Rattle.dp_keeper.proofs.LogLemmas.{rows-more, rise-more}
use Rattle.dp_keeper.proofs.log.RowLog.push.Goals as goal

pub invariant_of-self-2 : goal.invariant_of-self-2
invariant_of-self-2 c =
    let old = c.self.inside.bytes.items in
    let new = c.extend_from_slice.new.self.items in
    let ends = c.self.inside.ends.items in
    let numbers = c.self.inside.numbers in
    let n = c.args.row.now.n in
    let grows : length old ≤ length new = omega (
      arith,
      ap length c.in_ok-reserve.ensures.items,
      ap length c.in_ok-extend_from_slice.ensures.items,
      length-append c.reserve.new.self.items c.as_slice-bytes.result.now,
    ) in
    let more : c.push_reserved.new.self.items ≡ ends ++ length new ∷ [] =
    c.push_reserved.ensures.items
    ∙ ap (λ k. c.reserve-2.new.self.items ++ k ∷ [])
    (omega (arith, c.len.ensures, c.extend_from_slice.new.self.ok.0))
    ∙ ap (λ xs. xs ++ length new ∷ []) c.in_ok-reserve-2.ensures.items in (
      subst (RiseTo (length new) 0) (sym more)
          (rise-more (length old) (length new) 0 ends c.self.invariant.0 grows),
      ap length more ∙ length_push ends (length new)
          ∙ ap (λ k. k + 1) c.self.invariant.1
          ∙ sym (length_push numbers n)
          ∙ ap length (sym c.in_ok-push.ensures.ok),
    )

pub returns-clause-ok : goal.returns-clause-ok
returns-clause-ok c =
    let old = c.self.inside.bytes.items in
    let new = c.extend_from_slice.new.self.items in
    let ends = c.self.inside.ends.items in
    let numbers = c.self.inside.numbers in
    let row = c.args.row.now in
    ap (λ all. rows_from new all 0 0 c.push_reserved.new.self.items) c.in_ok-push.ensures.ok
    ∙ ap (rows_from new (numbers ++ row.n ∷ []) 0 0)
    (c.push_reserved.ensures.items
    ∙ ap (λ k. c.reserve-2.new.self.items ++ k ∷ [])
    (omega (arith, c.len.ensures, c.extend_from_slice.new.self.ok.0))
    ∙ ap (λ xs. xs ++ length new ∷ []) c.in_ok-reserve-2.ensures.items)
    ∙ ap (λ b. rows_from b (numbers ++ row.n ∷ []) 0 0 (ends ++ length b ∷ []))
    (c.in_ok-extend_from_slice.ensures.items
    ∙ ap (λ b. b ++ c.as_slice-bytes.result.now) c.in_ok-reserve.ensures.items
    ∙ ap (λ more. old ++ more) c.as_slice-bytes.ensures)
    ∙ rows-more old row.bytes numbers 0 0 row.n ends c.self.invariant.0
    (omega (arith, c.self.invariant.1))
    ∙ ap (λ rows. rows ++ row ∷ []) c.self.view_is
