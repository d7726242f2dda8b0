-- One row more, and none left.
use Rattle.std.proofs.Common.{◌≡◌, ◌<◌, List, [], ◌∷◌, length, sym, ◌∙◌, ap, subst, arith, rules}
use Rattle.std.specs.List.{All}
use Rattle.std.specs.Vec.{vec_len}
use Rattle.std.specs.Vec.Iter.{into_iter_items}
use Rattle.std.proofs.lemmas.List.Elements.{All-head, All-tail}
use Rattle.gl_indexset.specs.declared.row.Row.{Row}
use Rattle.gl_postings.specs.Indexed.{IsReady, stored}
use Rattle.gl_postings.proofs.Coming.{none_left, stored_next}
use Rattle.gl_postings.proofs.settling.settle_all.Goals as goal

pub loop-row-init : goal.loop-row-init
loop-row-init c =
    let is : into_iter_items c.into_iter-rows.result ≡ c.args.more = c.into_iter-rows.ensures.rest ∙ c.into_vec.ensures in
    let whole : vec_len c.into_vec.result ≡ length c.into_vec.result.items = search rules in
    record {
      len = c.into_iter-rows.ensures.len ∙ whole ∙ ap length (sym c.into_iter-rows.ensures.rest);
      ready = λ rs all r. (all, ap (λ xs. stored xs all) is, subst (λ (xs : List Row). IsReady c.args.sets.now c.args.words.now rs all xs) (sym is) r);
      next = λ limit le each. (le, subst (λ (xs : List Row). All (λ (row : Row). row.position < limit) xs) (sym is) each);
    }

pub settle_row-requires : goal.settle_row-requires
settle_row-requires c =
    let w = c.loop-row.invariant.ready c.requires.0 c.requires.1 c.requires.2 in
    (c.requires.0, w.0, into_iter_items c.next.new.self, subst (λ (xs : List Row). IsReady c.loop-row.sets c.loop-row.words c.requires.0 w.0 xs) c.in-Some.ensures.items w.2)

pub loop-row-preserved : goal.loop-row-preserved
loop-row-preserved c =
    let items : into_iter_items c.loop-row.rows ≡ c.in-Some.row ∷ into_iter_items c.next.new.self = c.in-Some.ensures.items in
    record {
      len = omega (arith, c.in-Some.ensures.len, c.loop-row.invariant.len, ap length items);
      ready = λ rs all r.
          let w = c.loop-row.invariant.ready rs all r in (
            c.in-Some.row ∷ w.0,
            sym (stored_next c.in-Some.row (into_iter_items c.next.new.self) w.0) ∙ ap (λ xs. stored xs w.0) (sym items) ∙ w.1,
            c.settle_row.ensures.settled rs w.0 (into_iter_items c.next.new.self) (subst (λ (xs : List Row). IsReady c.loop-row.sets c.loop-row.words rs w.0 xs) items w.2),
          );
      next = λ limit le each.
          let w = c.loop-row.invariant.next limit le each in
          let both : All (λ (row : Row). row.position < limit) (c.in-Some.row ∷ into_iter_items c.next.new.self) = subst (λ (xs : List Row). All (λ (row : Row). row.position < limit) xs) items w.1 in
          let less : c.in-Some.row.position < limit = All-head (λ (row : Row). row.position < limit) c.in-Some.row (into_iter_items c.next.new.self) both in
          (omega (arith, less, c.settle_row.ensures.next), All-tail (λ (row : Row). row.position < limit) c.in-Some.row (into_iter_items c.next.new.self) both);
    }

pub returns-clause-settled : goal.returns-clause-settled
returns-clause-settled c = λ rs all r.
    let w = c.loop-row.invariant.ready rs all r in
    let none : into_iter_items c.loop-row.rows ≡ [] = none_left (into_iter_items c.loop-row.rows) (sym c.loop-row.invariant.len ∙ c.in_default.ensures.cases.0) in
    let is : w.0 ≡ stored c.args.more all = ap (λ xs. stored xs w.0) (sym none) ∙ w.1 in
    subst (λ (before : List Row). IsReady c.loop-row.sets c.loop-row.words rs before []) is
    (subst (λ (xs : List Row). IsReady c.loop-row.sets c.loop-row.words rs w.0 xs) none w.2)

pub returns-clause-next : goal.returns-clause-next
returns-clause-next c = λ limit le each. (c.loop-row.invariant.next limit le each).0
