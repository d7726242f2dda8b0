use Rattle.std.proofs.Common.{rules, ◌≡◌, ℕ, ◌≤◌, ◌∙◌, ap, get_or, arith, List, map, filter, nat_lt, take, drop, ◌++◌, length, append-nil}
use Rattle.std.proofs.Math.Seq.{take-append_seam}
use Rattle.std.proofs.lemmas.List.{drop_all, take_all, get_or_default}
use Rattle.std.proofs.lemmas.List.Edits.{map_over_more}
use Rattle.std.proofs.lemmas.Fn.{filter_same}
use Rattle.gl_pool.specs.declared.span.Span.{Span}
use Rattle.gl_pool.specs.Kept.{cut_at}
use Rattle.gl_pool.proofs.span.cut.Goals as goal

map_over_all : (f : Span → Span) (i : ℕ) (spans : List Span) → length spans ≤ i → map f (take i spans) ++ drop i spans ≡ map f spans
map_over_all f i spans le = rw (take_all i spans le, drop_all i spans le) (append-nil (map f spans))

pub loop-span-preserved : goal.loop-span-preserved
loop-span-preserved c =
    let blank : Span = record { first = 0; end = 0 } in
    rw c.max-span.ensures
    (map_over_more (cut_at c.args.end) c.deref_mut-span-items.result.now c.loop-span.span-items c.loop-span.span-index
    (get_or c.loop-span.span-items c.loop-span.span-index blank) (omega arith) c.loop-span.invariant
    (get_or_default c.loop-span.span-items c.loop-span.span-index blank (get_or c.loop-span.span-items c.loop-span.span-index blank) (omega arith)))

pub returns-clause-items : goal.returns-clause-items
returns-clause-items c =
    let long : c.retain.new.self.len ≡ length c.loop-span.span-items = omega (arith, c.retain.new.self.ok.0, c.deref_mut-span-items.ensures.len) in
    let kept : c.retain.new.self.items ≡ filter (λ (s : Span). nat_lt c.args.end s.end) c.args.spans.now.items
    = filter_same _ (λ (s : Span). nat_lt c.args.end s.end) _ (λ x b f k. search rules) _ _ c.retain.ensures.filtered in
    ap (λ n. take n (c.loop-span.span-items ++ drop (length c.loop-span.span-items) c.retain.new.self.items)) long
    ∙ take-append_seam c.loop-span.span-items (drop (length c.loop-span.span-items) c.retain.new.self.items)
    ∙ c.loop-span.invariant ∙ map_over_all (cut_at c.args.end) c.loop-span.span-index c.deref_mut-span-items.result.now c.loop-span-test.false
    ∙ ap (λ (l : List Span). map (cut_at c.args.end) l) (c.deref_mut-span-items.ensures.value ∙ kept)
