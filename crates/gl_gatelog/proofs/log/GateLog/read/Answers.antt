use Rattle.std.proofs.Common.{◌≡◌, ℕ, ◌-◌, ◌++◌, List, [], length, take, drop, get_or, refl, sym, ◌∙◌, ap, subst, arith, Option, None, Some, MatchOption, Vec}
use Rattle.std.specs.declared.alloc.Global.{Global}
use Rattle.std.proofs.lemmas.List.{get_or_read}
use Rattle.gl_gatelog.specs.Batch.{body}
use Rattle.gl_gatelog.specs.Log.{Place, area_of, records_of}
use Rattle.gl_gatelog.specs.View.{GateView}
use Rattle.gl_gatelog.specs.Position.{IsRun}
use Rattle.gl_gatelog.proofs.Located.{read_at, stood}
use Rattle.gl_gatelog.proofs.log.GateLog.read.Goals as goal

none_of : (o : Option (ℕ × ℕ)) → ((x : ℕ × ℕ) → o ≡ Some x → ⊥) → o ≡ None
none_of None not = refl
none_of (Some x) not = absurd (not x refl)

body_of : (o : Option (Vec ℕ Global)) (v : Vec ℕ Global) (l : List ℕ) → o ≡ Some v → MatchOption o ⊥ (λ w. w.items ≡ l) → v.items ≡ l
body_of o v l is found = subst (λ (x : Option (Vec ℕ Global)). MatchOption x ⊥ (λ w. w.items ≡ l)) is found

nothing_of : (o : Option (Vec ℕ Global)) (l : List ℕ) → o ≡ None → MatchOption o ⊥ (λ w. w.items ≡ l) → ⊥
nothing_of o l is found = subst (λ (x : Option (Vec ℕ Global)). MatchOption x ⊥ (λ w. w.items ≡ l)) is found

pub returns-in-Ok-None-clause-damaged : goal.returns-in-Ok-None-clause-damaged
returns-in-Ok-None-clause-damaged g c tells is b stands =
    let s0 = g.D.Disk.state c.args.disk.now in
    let v = c.args.self.now in
    let position = c.args.position in
    let count = c.before_in_batch-index.result in
    let same_places : c.self.inside.places.items ≡ v.places = ap (λ (w : GateView). w.places) c.self.view_is in
    let q_is : c.index.result.now ≡ get_or v.places position (0, 0) =
    get_or_read c.self.inside.places.items _ _ (omega (arith, c.requires, ap (λ (l : List Place). length l) same_places)) c.index.ensures (0, 0) ∙ ap (λ (l : List Place). get_or l position (0, 0)) same_places in
    let run : IsRun v.places position count = subst (λ (l : List Place). IsRun l position count) (c.deref.ensures.value ∙ same_places) c.before_in_batch-index.ensures in
    let found = read_at v b s0 position count stands c.requires run in
    let there = stood v s0 position count (get_or (records_of b) position []) found c.area_number-area.result c.index.result.now (c.area_number-area.ensures ∙ ap (λ (w : GateView). area_of w.log c.index.result.now.0) c.self.view_is) q_is in
    nothing_of c.in-Ok-None.field-0 (body found.batch) c.in-Ok-None.field-0-is (c.in-Ok-None.ensures.found tells found.batch there)

pub returns-in_default-clause-damaged : goal.returns-in_default-clause-damaged
returns-in_default-clause-damaged g c tells is b stands =
    let s0 = g.D.Disk.state c.args.disk.now in
    let v = c.args.self.now in
    let position = c.args.position in
    let count = c.before_in_batch-index.result in
    let same_places : c.self.inside.places.items ≡ v.places = ap (λ (w : GateView). w.places) c.self.view_is in
    let q_is : c.index.result.now ≡ get_or v.places position (0, 0) =
    get_or_read c.self.inside.places.items _ _ (omega (arith, c.requires, ap (λ (l : List Place). length l) same_places)) c.index.ensures (0, 0) ∙ ap (λ (l : List Place). get_or l position (0, 0)) same_places in
    let run : IsRun v.places position count = subst (λ (l : List Place). IsRun l position count) (c.deref.ensures.value ∙ same_places) c.before_in_batch-index.ensures in
    let found = read_at v b s0 position count stands c.requires run in
    let there = stood v s0 position count (get_or (records_of b) position []) found c.area_number-area.result c.index.result.now (c.area_number-area.ensures ∙ ap (λ (w : GateView). area_of w.log c.index.result.now.0) c.self.view_is) q_is in
    let same : body found.batch ≡ c.deref-2.result.now = sym (c.deref-2.ensures.value ∙ body_of c.in-Ok-Some.field-0 c.in-Ok-Some.body (body found.batch) c.in-Ok-Some.field-0-is (c.in-Ok-Some.ensures.found tells found.batch there)) in
    c.record_range.ensures.none (none_of c.record_range.result c.in_default.not-Some) found.batch same found.stands.lawful.short found.within

pub returns-clause-bytes : goal.returns-clause-bytes
returns-clause-bytes g c tells b stands =
    let s0 = g.D.Disk.state c.args.disk.now in
    let v = c.args.self.now in
    let position = c.args.position in
    let count = c.before_in_batch-index.result in
    let same_places : c.self.inside.places.items ≡ v.places = ap (λ (w : GateView). w.places) c.self.view_is in
    let q_is : c.index.result.now ≡ get_or v.places position (0, 0) =
    get_or_read c.self.inside.places.items _ _ (omega (arith, c.requires, ap (λ (l : List Place). length l) same_places)) c.index.ensures (0, 0) ∙ ap (λ (l : List Place). get_or l position (0, 0)) same_places in
    let run : IsRun v.places position count = subst (λ (l : List Place). IsRun l position count) (c.deref.ensures.value ∙ same_places) c.before_in_batch-index.ensures in
    let found = read_at v b s0 position count stands c.requires run in
    let there = stood v s0 position count (get_or (records_of b) position []) found c.area_number-area.result c.index.result.now (c.area_number-area.ensures ∙ ap (λ (w : GateView). area_of w.log c.index.result.now.0) c.self.view_is) q_is in
    let same : body found.batch ≡ c.deref-2.result.now = sym (c.deref-2.ensures.value ∙ body_of c.in-Ok-Some.field-0 c.in-Ok-Some.body (body found.batch) c.in-Ok-Some.field-0-is (c.in-Ok-Some.ensures.found tells found.batch there)) in
    let start = c.in-Some.start in
    let end = c.in-Some.end in
    c.in_ok-extend_from_slice.ensures.items
    ∙ ap (λ (l : List ℕ). l ++ take (end - start) (drop start c.deref-3.result.now)) c.clear.ensures.items
    ∙ ap (λ (l : List ℕ). take (end - start) (drop start l)) (c.deref-3.ensures.value ∙ sym c.deref-2.ensures.value)
    ∙ c.in-Some.ensures.bytes found.batch same found.stands.lawful.short found.within
    ∙ sym found.same
