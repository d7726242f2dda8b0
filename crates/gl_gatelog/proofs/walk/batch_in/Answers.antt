use Rattle.std.proofs.Common.{◌≡◌, ◌+◌, ◌-◌, ℕ, take, drop, sym, ◌∙◌, ap, arith, Option, None, Some, MatchOption, Vec}
use Rattle.std.specs.declared.alloc.Global.{Global}
use Rattle.gl_gatelog.specs.View.{batch_of}
use Rattle.gl_gatelog.proofs.Parse.{same_fields, stands}
use Rattle.gl_gatelog.proofs.walk.batch_in.Goals as goal
use Rattle.gl_gatelog.proofs.walk.batch_in.Goals.{then-count-eq0-via-then-count-eq0, then-count-eq0-via-else-count-eq0+then-count-gt256, then-count-eq0-via-else-count-eq0+else-count-gt256+then-len-area}

pub returns-then-count-eq0 : goal.returns-then-count-eq0
returns-then-count-eq0 c rs is =
    let f = same_fields c.args.area.now c.args.at c.number_at-count.result c.number_at-len.result rs (omega arith) (omega arith) c.number_at-count.ensures c.number_at-len.ensures is in
    elim c.then-count-eq0.branch [
      | then-count-eq0-via-then-count-eq0 w ↦ omega (arith, f.0, is.lawful.some)
      | then-count-eq0-via-else-count-eq0+then-count-gt256 w ↦ omega (arith, f.0, is.lawful.few)
      | then-count-eq0-via-else-count-eq0+else-count-gt256+then-len-area w ↦ omega (arith, f.2)
    ]

found_by : (o : Option (Vec (Vec ℕ Global) Global)) (P R : Type 0) (Q S : Vec (Vec ℕ Global) Global → Type 0) → (P → R) → ((v : Vec (Vec ℕ Global) Global) → Q v → S v) → MatchOption o P Q → MatchOption o R S
found_by None P R Q S none some is = none is
found_by (Some v) P R Q S none some is = some v is

pub returns : goal.returns
returns c =
    let len : c.args.at + 9 + c.number_at-len.result - (c.args.at + 9) ≡ c.number_at-len.result = omega arith in
    found_by c.in_ok-found.found _ _ _ _
    (λ not rs is.
    let f = same_fields c.args.area.now c.args.at c.number_at-count.result c.number_at-len.result rs (omega arith) (omega arith) c.number_at-count.ensures c.number_at-len.ensures is in
    not rs (f.3 ∙ ap (λ (n : ℕ). take n (drop (c.args.at + 9) c.args.area.now)) (sym len)) (sym f.0) is.lawful.short)
    (λ v is.
    (stands c.args.area.now c.args.at c.number_at-count.result c.number_at-len.result (batch_of v.items) c.requires.gate (omega arith) c.number_at-count.ensures c.number_at-len.ensures
    (is.0 ∙ ap (λ (n : ℕ). take n (drop (c.args.at + 9) c.args.area.now)) len) is.1 (omega arith) (omega arith) is.2).0)
    c.in_ok-found.ensures
