use Rattle.std.proofs.Common.{◌≡◌, ◌<◌, ◌≤◌, find, ◌∙◌, ⊎_elim, ap, sym, arith, ◌∷◌, ◌++◌, [], List, length, subst, true, false, ℕ, Bor, None}
use Rattle.std.specs.Prelude.{is_some}
use Rattle.std.specs.Vec.{vec_len}
use Rattle.std.specs.List.{list_any}
use Rattle.std.specs.Str.{bytes_eq}
use Rattle.std.specs.Ordering.{nat_cmp, is_eq}
use Rattle.std.specs.Cmp.Lexicographic.{slice_cmp}
use Rattle.std.proofs.lemmas.List.{length-map}
use Rattle.std.proofs.lemmas.Bool.{not-true, not-false, OnFalse_at, cases_lt}
use Rattle.gl_grok.specs.Names.{contains}
use Rattle.gl_grok.specs.Tables.{table_of, pattern_of}
use Rattle.gl_grok.proofs.Rooms.{Names}
use Rattle.gl_grok.proofs.Seeking.{Sought, sought, sought-names, sought-circular}
use Rattle.gl_grok.proofs.Stacking.{none-some, no_names, unwound, unwound-none, find-same, stack-on, stack-marked, stack-passed, stack-new, end-step, smaller-end, smaller-rest, smaller-entered, popped-fit, pushed-fit, entered-fit}
use Rattle.gl_grok.proofs.Walking.{nows, now-push, left, names-plain, percent-names, reference-names, seen-new, has-now}
use Rattle.gl_grok.proofs.names.names_met.Goals as goal

pub loop-rest-smaller-in_default-first_percent : goal.loop-rest-smaller-in_default-first_percent
loop-rest-smaller-in_default-first_percent c =
    let table = table_of c.args.table.now in
    let names = nows c.loop-rest.names.items in
    let marks = nows c.loop-rest.again.items in
    let inside = nows c.loop-rest.inside.items in
    let rests = nows c.pop.new.self.items in
    let rest = c.in-Some.rest.now in
    let s : Sought = record { names = names; marks = marks } in
    let popped : nows c.loop-rest.rests.items ≡ rests ++ rest ∷ [] = now-push c.loop-rest.rests.items c.pop.new.self.items c.in-Some.rest c.in-Some.ensures.items in
    let fit = popped-fit (nows c.loop-rest.rests.items) rests rest (length inside) popped c.loop-rest.invariant.fit in
    subst (λ (k : ℕ). left table names rests < k) (ap (left table names) (sym popped)) (smaller-end table names rests rest)

pub loop-rest-preserved-in_default-first_percent : goal.loop-rest-preserved-in_default-first_percent
loop-rest-preserved-in_default-first_percent c =
    let table = table_of c.args.table.now in
    let names = nows c.loop-rest.names.items in
    let marks = nows c.loop-rest.again.items in
    let inside = nows c.loop-rest.inside.items in
    let rests = nows c.pop.new.self.items in
    let rest = c.in-Some.rest.now in
    let s : Sought = record { names = names; marks = marks } in
    let popped : nows c.loop-rest.rests.items ≡ rests ++ rest ∷ [] = now-push c.loop-rest.rests.items c.pop.new.self.items c.in-Some.rest c.in-Some.ensures.items in
    let fit = popped-fit (nows c.loop-rest.rests.items) rests rest (length inside) popped c.loop-rest.invariant.fit in
    let end = names-plain rest c.in_default-first_percent.ensures.pieces in
    let gone = c.pop-in_default-first_percent in
    let none : gone.result ≡ None → length c.loop-rest.inside.items ≤ 0 = λ e. ⊎_elim
    (λ lt. let some : is_some gone.result ≡ true = gone.ensures.variant.1 lt in absurd (none-some gone.result e some))
    (λ le. grind arith)
    (cases_lt 0 (vec_len c.loop-rest.inside)) in
    let step = end-step table c.loop-rest.inside.items gone.new.self.items gone.result gone.ensures.items none rests rest s fit end in
    record {
      so_far = sym step.0 ∙ ap (λ (rs : Names). unwound table [] inside rs s) (sym popped) ∙ c.loop-rest.invariant.so_far;
      fit = step.1;
      seen = c.loop-rest.invariant.seen;
    }

pub loop-rest-smaller-in_default-reference : goal.loop-rest-smaller-in_default-reference
loop-rest-smaller-in_default-reference c =
    let table = table_of c.args.table.now in
    let names = nows c.loop-rest.names.items in
    let marks = nows c.loop-rest.again.items in
    let inside = nows c.loop-rest.inside.items in
    let rests = nows c.pop.new.self.items in
    let rest = c.in-Some.rest.now in
    let s : Sought = record { names = names; marks = marks } in
    let popped : nows c.loop-rest.rests.items ≡ rests ++ rest ∷ [] = now-push c.loop-rest.rests.items c.pop.new.self.items c.in-Some.rest c.in-Some.ensures.items in
    let fit = popped-fit (nows c.loop-rest.rests.items) rests rest (length inside) popped c.loop-rest.invariant.fit in
    let front = c.in-Some-first_percent.front in
    let after = front.after.now in
    let pushed : nows c.push-in-Some.new.self.items ≡ rests ++ after ∷ [] = now-push c.push-in-Some.new.self.items c.pop.new.self.items front.after c.in_ok-push-2.ensures.items in
    subst (λ (k : ℕ). left table names (nows c.push-in-Some.new.self.items) < k) (ap (left table names) (sym popped))
    (subst (λ (k : ℕ). k < left table names (rests ++ rest ∷ [])) (sym (ap (left table names) pushed)) (smaller-rest table names rests rest after c.in-Some-first_percent.ensures.shorter))

pub loop-rest-preserved-in_default-reference : goal.loop-rest-preserved-in_default-reference
loop-rest-preserved-in_default-reference c =
    let table = table_of c.args.table.now in
    let names = nows c.loop-rest.names.items in
    let marks = nows c.loop-rest.again.items in
    let inside = nows c.loop-rest.inside.items in
    let rests = nows c.pop.new.self.items in
    let rest = c.in-Some.rest.now in
    let s : Sought = record { names = names; marks = marks } in
    let popped : nows c.loop-rest.rests.items ≡ rests ++ rest ∷ [] = now-push c.loop-rest.rests.items c.pop.new.self.items c.in-Some.rest c.in-Some.ensures.items in
    let fit = popped-fit (nows c.loop-rest.rests.items) rests rest (length inside) popped c.loop-rest.invariant.fit in
    let front = c.in-Some-first_percent.front in
    let after = front.after.now in
    let pushed : nows c.push-in-Some.new.self.items ≡ rests ++ after ∷ [] = now-push c.push-in-Some.new.self.items c.pop.new.self.items front.after c.in_ok-push-2.ensures.items in
    let cut = percent-names rest front.before.now after front.reference c.in-Some-first_percent.ensures.pieces c.in_default-reference.is in
    record {
      so_far = ap (λ (rs : Names). unwound table [] inside rs s) pushed ∙ sym (stack-on table inside rests fit rest after s cut) ∙ ap (λ (rs : Names). unwound table [] inside rs s) (sym popped) ∙ c.loop-rest.invariant.so_far;
      fit = pushed-fit (nows c.push-in-Some.new.self.items) rests after (length inside) pushed fit;
      seen = c.loop-rest.invariant.seen;
    }

pub loop-rest-smaller-then-branch : goal.loop-rest-smaller-then-branch
loop-rest-smaller-then-branch c =
    let table = table_of c.args.table.now in
    let names = nows c.loop-rest.names.items in
    let marks = nows c.loop-rest.again.items in
    let inside = nows c.loop-rest.inside.items in
    let rests = nows c.pop.new.self.items in
    let rest = c.in-Some.rest.now in
    let s : Sought = record { names = names; marks = marks } in
    let popped : nows c.loop-rest.rests.items ≡ rests ++ rest ∷ [] = now-push c.loop-rest.rests.items c.pop.new.self.items c.in-Some.rest c.in-Some.ensures.items in
    let fit = popped-fit (nows c.loop-rest.rests.items) rests rest (length inside) popped c.loop-rest.invariant.fit in
    let front = c.in-Some-first_percent.front in
    let after = front.after.now in
    let pushed : nows c.push-in-Some.new.self.items ≡ rests ++ after ∷ [] = now-push c.push-in-Some.new.self.items c.pop.new.self.items front.after c.in_ok-push-2.ensures.items in
    let name = c.in-Some-reference.reference.name.now in
    let cut = reference-names rest front.before.now after front.reference c.in-Some-reference.reference c.in-Some-first_percent.ensures.pieces c.in-Some-reference.is in
    let new : contains names name ≡ false = sym (c.loop-rest.invariant.seen name) ∙ not-true _ (sym c.in_ok-insert.ensures.added ∙ c.if-branch.true) in
    let met : nows c.push-then-branch.new.self.items ≡ names ++ name ∷ [] = now-push c.push-then-branch.new.self.items c.loop-rest.names.items c.in-Some-reference.reference.name c.in_ok-push-3.ensures.items in
    let entering : nows c.push-then-branch-2.new.self.items ≡ inside ++ name ∷ [] = now-push c.push-then-branch-2.new.self.items c.loop-rest.inside.items c.in-Some-reference.reference.name c.in_ok-push-4.ensures.items in
    let stack : nows c.push-then-branch-3.new.self.items ≡ (rests ++ after ∷ []) ++ pattern_of table name ∷ []
    = now-push c.push-then-branch-3.new.self.items c.push-in-Some.new.self.items c.pattern_or_empty.result c.in_ok-push-5.ensures.items ∙ (λ i. pushed i ++ c.pattern_or_empty.ensures i ∷ []) in
    subst (λ (k : ℕ). left table (nows c.push-then-branch.new.self.items) (nows c.push-then-branch-3.new.self.items) < k) (ap (left table names) (sym popped))
    (subst (λ (k : ℕ). k < left table names (rests ++ rest ∷ [])) (sym (λ i. left table (met i) (stack i))) (smaller-entered table names rests rest after name new c.in-Some-first_percent.ensures.shorter))

pub loop-rest-preserved-then-branch : goal.loop-rest-preserved-then-branch
loop-rest-preserved-then-branch c =
    let table = table_of c.args.table.now in
    let names = nows c.loop-rest.names.items in
    let marks = nows c.loop-rest.again.items in
    let inside = nows c.loop-rest.inside.items in
    let rests = nows c.pop.new.self.items in
    let rest = c.in-Some.rest.now in
    let s : Sought = record { names = names; marks = marks } in
    let popped : nows c.loop-rest.rests.items ≡ rests ++ rest ∷ [] = now-push c.loop-rest.rests.items c.pop.new.self.items c.in-Some.rest c.in-Some.ensures.items in
    let fit = popped-fit (nows c.loop-rest.rests.items) rests rest (length inside) popped c.loop-rest.invariant.fit in
    let front = c.in-Some-first_percent.front in
    let after = front.after.now in
    let pushed : nows c.push-in-Some.new.self.items ≡ rests ++ after ∷ [] = now-push c.push-in-Some.new.self.items c.pop.new.self.items front.after c.in_ok-push-2.ensures.items in
    let name = c.in-Some-reference.reference.name.now in
    let cut = reference-names rest front.before.now after front.reference c.in-Some-reference.reference c.in-Some-first_percent.ensures.pieces c.in-Some-reference.is in
    let new : contains names name ≡ false = sym (c.loop-rest.invariant.seen name) ∙ not-true _ (sym c.in_ok-insert.ensures.added ∙ c.if-branch.true) in
    let met : nows c.push-then-branch.new.self.items ≡ names ++ name ∷ [] = now-push c.push-then-branch.new.self.items c.loop-rest.names.items c.in-Some-reference.reference.name c.in_ok-push-3.ensures.items in
    let entering : nows c.push-then-branch-2.new.self.items ≡ inside ++ name ∷ [] = now-push c.push-then-branch-2.new.self.items c.loop-rest.inside.items c.in-Some-reference.reference.name c.in_ok-push-4.ensures.items in
    let stack : nows c.push-then-branch-3.new.self.items ≡ (rests ++ after ∷ []) ++ pattern_of table name ∷ []
    = now-push c.push-then-branch-3.new.self.items c.push-in-Some.new.self.items c.pattern_or_empty.result c.in_ok-push-5.ensures.items ∙ (λ i. pushed i ++ c.pattern_or_empty.ensures i ∷ []) in
    record {
      so_far = (λ i. unwound table [] (entering i) (stack i) (record { names = met i; marks = marks })) ∙ sym (stack-new table inside rests fit rest after s name cut new)
          ∙ ap (λ (rs : Names). unwound table [] inside rs s) (sym popped) ∙ c.loop-rest.invariant.so_far;
      fit = entered-fit (nows c.push-then-branch-3.new.self.items) rests after (pattern_of table name) inside (nows c.push-then-branch-2.new.self.items) name stack entering fit;
      seen = λ q. seen-new c.loop-rest.seen.keys c.insert.new.self.keys names name c.in_ok-insert.ensures.updates.0 c.loop-rest.invariant.seen q ∙ ap (λ (ns : Names). contains ns q) (sym met);
    }

pub loop-rest-smaller : goal.loop-rest-smaller
loop-rest-smaller c =
    let table = table_of c.args.table.now in
    let names = nows c.loop-rest.names.items in
    let marks = nows c.loop-rest.again.items in
    let inside = nows c.loop-rest.inside.items in
    let rests = nows c.pop.new.self.items in
    let rest = c.in-Some.rest.now in
    let s : Sought = record { names = names; marks = marks } in
    let popped : nows c.loop-rest.rests.items ≡ rests ++ rest ∷ [] = now-push c.loop-rest.rests.items c.pop.new.self.items c.in-Some.rest c.in-Some.ensures.items in
    let fit = popped-fit (nows c.loop-rest.rests.items) rests rest (length inside) popped c.loop-rest.invariant.fit in
    let front = c.in-Some-first_percent.front in
    let after = front.after.now in
    let pushed : nows c.push-in-Some.new.self.items ≡ rests ++ after ∷ [] = now-push c.push-in-Some.new.self.items c.pop.new.self.items front.after c.in_ok-push-2.ensures.items in
    subst (λ (k : ℕ). left table names (nows c.push-in-Some.new.self.items) < k) (ap (left table names) (sym popped))
    (subst (λ (k : ℕ). k < left table names (rests ++ rest ∷ [])) (sym (ap (left table names) pushed)) (smaller-rest table names rests rest after c.in-Some-first_percent.ensures.shorter))

pub loop-rest-preserved : goal.loop-rest-preserved
loop-rest-preserved c =
    let table = table_of c.args.table.now in
    let names = nows c.loop-rest.names.items in
    let marks = nows c.loop-rest.again.items in
    let inside = nows c.loop-rest.inside.items in
    let rests = nows c.pop.new.self.items in
    let rest = c.in-Some.rest.now in
    let s : Sought = record { names = names; marks = marks } in
    let popped : nows c.loop-rest.rests.items ≡ rests ++ rest ∷ [] = now-push c.loop-rest.rests.items c.pop.new.self.items c.in-Some.rest c.in-Some.ensures.items in
    let fit = popped-fit (nows c.loop-rest.rests.items) rests rest (length inside) popped c.loop-rest.invariant.fit in
    let front = c.in-Some-first_percent.front in
    let after = front.after.now in
    let pushed : nows c.push-in-Some.new.self.items ≡ rests ++ after ∷ [] = now-push c.push-in-Some.new.self.items c.pop.new.self.items front.after c.in_ok-push-2.ensures.items in
    let name = c.in-Some-reference.reference.name.now in
    let cut = reference-names rest front.before.now after front.reference c.in-Some-reference.reference c.in-Some-first_percent.ensures.pieces c.in-Some-reference.is in
    let old : contains names name ≡ true = sym (c.loop-rest.invariant.seen name) ∙ not-false _ (sym c.in_ok-insert.ensures.added ∙ c.if-branch.false) in
    let same : c.insert.new.self.keys ≡ c.loop-rest.seen.keys = OnFalse_at c.if-branch.false c.in_ok-insert.ensures.unchanged in
    let having : c.has.result ≡ contains inside name = c.has.ensures ∙ ap (λ (xs : List (Bor (List ℕ))). list_any (λ other. bytes_eq name other.now) xs) c.as_slice.ensures.value ∙ has-now c.loop-rest.inside.items name in
    let marking : nows c.push-in-Some-2.new.self.items ≡ marks ++ name ∷ [] = now-push c.push-in-Some-2.new.self.items c.loop-rest.again.items c.in-Some-reference.reference.name c.in_ok-push-6.ensures.items in
    record {
      so_far = (λ i. unwound table [] inside (pushed i) (record { names = names; marks = marking i })) ∙ sym (stack-marked table inside rests fit rest after s name cut old (sym having ∙ c.if-not-has.false))
          ∙ ap (λ (rs : Names). unwound table [] inside rs s) (sym popped) ∙ c.loop-rest.invariant.so_far;
      fit = pushed-fit (nows c.push-in-Some.new.self.items) rests after (length inside) pushed fit;
      seen = λ q. ap (list_any (λ k. is_eq (slice_cmp nat_cmp q k.now))) same ∙ c.loop-rest.invariant.seen q;
    }

pub loop-rest-smaller-then-not-has : goal.loop-rest-smaller-then-not-has
loop-rest-smaller-then-not-has c =
    let table = table_of c.args.table.now in
    let names = nows c.loop-rest.names.items in
    let marks = nows c.loop-rest.again.items in
    let inside = nows c.loop-rest.inside.items in
    let rests = nows c.pop.new.self.items in
    let rest = c.in-Some.rest.now in
    let s : Sought = record { names = names; marks = marks } in
    let popped : nows c.loop-rest.rests.items ≡ rests ++ rest ∷ [] = now-push c.loop-rest.rests.items c.pop.new.self.items c.in-Some.rest c.in-Some.ensures.items in
    let fit = popped-fit (nows c.loop-rest.rests.items) rests rest (length inside) popped c.loop-rest.invariant.fit in
    let front = c.in-Some-first_percent.front in
    let after = front.after.now in
    let pushed : nows c.push-in-Some.new.self.items ≡ rests ++ after ∷ [] = now-push c.push-in-Some.new.self.items c.pop.new.self.items front.after c.in_ok-push-2.ensures.items in
    subst (λ (k : ℕ). left table names (nows c.push-in-Some.new.self.items) < k) (ap (left table names) (sym popped))
    (subst (λ (k : ℕ). k < left table names (rests ++ rest ∷ [])) (sym (ap (left table names) pushed)) (smaller-rest table names rests rest after c.in-Some-first_percent.ensures.shorter))

pub loop-rest-preserved-then-not-has : goal.loop-rest-preserved-then-not-has
loop-rest-preserved-then-not-has c =
    let table = table_of c.args.table.now in
    let names = nows c.loop-rest.names.items in
    let marks = nows c.loop-rest.again.items in
    let inside = nows c.loop-rest.inside.items in
    let rests = nows c.pop.new.self.items in
    let rest = c.in-Some.rest.now in
    let s : Sought = record { names = names; marks = marks } in
    let popped : nows c.loop-rest.rests.items ≡ rests ++ rest ∷ [] = now-push c.loop-rest.rests.items c.pop.new.self.items c.in-Some.rest c.in-Some.ensures.items in
    let fit = popped-fit (nows c.loop-rest.rests.items) rests rest (length inside) popped c.loop-rest.invariant.fit in
    let front = c.in-Some-first_percent.front in
    let after = front.after.now in
    let pushed : nows c.push-in-Some.new.self.items ≡ rests ++ after ∷ [] = now-push c.push-in-Some.new.self.items c.pop.new.self.items front.after c.in_ok-push-2.ensures.items in
    let name = c.in-Some-reference.reference.name.now in
    let cut = reference-names rest front.before.now after front.reference c.in-Some-reference.reference c.in-Some-first_percent.ensures.pieces c.in-Some-reference.is in
    let old : contains names name ≡ true = sym (c.loop-rest.invariant.seen name) ∙ not-false _ (sym c.in_ok-insert.ensures.added ∙ c.if-branch.false) in
    let same : c.insert.new.self.keys ≡ c.loop-rest.seen.keys = OnFalse_at c.if-branch.false c.in_ok-insert.ensures.unchanged in
    let having : c.has.result ≡ contains inside name = c.has.ensures ∙ ap (λ (xs : List (Bor (List ℕ))). list_any (λ other. bytes_eq name other.now) xs) c.as_slice.ensures.value ∙ has-now c.loop-rest.inside.items name in
    record {
      so_far = ap (λ (rs : Names). unwound table [] inside rs s) pushed ∙ sym (stack-passed table inside rests fit rest after s name cut old (sym having ∙ c.if-not-has.true))
          ∙ ap (λ (rs : Names). unwound table [] inside rs s) (sym popped) ∙ c.loop-rest.invariant.so_far;
      fit = pushed-fit (nows c.push-in-Some.new.self.items) rests after (length inside) pushed fit;
      seen = λ q. ap (list_any (λ k. is_eq (slice_cmp nat_cmp q k.now))) same ∙ c.loop-rest.invariant.seen q;
    }

pub returns-clause-names : goal.returns-clause-names
returns-clause-names c =
    let table = table_of c.args.table.now in
    let s : Sought = record { names = nows c.loop-rest.names.items; marks = nows c.loop-rest.again.items } in
    let empty : length c.loop-rest.rests.items ≤ 0 = grind arith in
    let none : nows c.loop-rest.rests.items ≡ [] = no_names (nows c.loop-rest.rests.items) (omega (arith, length-map c.loop-rest.rests.items (λ (t : Bor (List ℕ)). t.now))) in
    let whole : s ≡ sought table c.args.text.now = sym (ap (λ (rs : Names). unwound table [] (nows c.loop-rest.inside.items) rs s) none ∙ unwound-none table (nows c.loop-rest.inside.items) s) ∙ c.loop-rest.invariant.so_far in
    ap (λ (t : Sought). t.names) whole ∙ sought-names table c.args.text.now

pub returns-clause-circular : goal.returns-clause-circular
returns-clause-circular c =
    let table = table_of c.args.table.now in
    let s : Sought = record { names = nows c.loop-rest.names.items; marks = nows c.loop-rest.again.items } in
    let empty : length c.loop-rest.rests.items ≤ 0 = grind arith in
    let none : nows c.loop-rest.rests.items ≡ [] = no_names (nows c.loop-rest.rests.items) (omega (arith, length-map c.loop-rest.rests.items (λ (t : Bor (List ℕ)). t.now))) in
    let whole : s ≡ sought table c.args.text.now = sym (ap (λ (rs : Names). unwound table [] (nows c.loop-rest.inside.items) rs s) none ∙ unwound-none table (nows c.loop-rest.inside.items) s) ∙ c.loop-rest.invariant.so_far in
    find-same (λ name. list_any (λ other. bytes_eq name other.now) c.loop-rest.again.items) (contains s.marks) (has-now c.loop-rest.again.items) s.names
    ∙ ap (λ (t : Sought). find (contains t.marks) t.names) whole ∙ sought-circular table c.args.text.now
