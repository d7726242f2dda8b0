use Rattle.std.proofs.Common.{◌≡◌, ◌<◌, ◌≤◌, ◌∷◌, ◌++◌, [], List, ℕ, length, refl, sym, ap, subst, ◌∙◌, arith, Bor, lit<}
use Rattle.std.specs.List.{All}
use Rattle.std.specs.Prelude.{codes, option_map}
use Rattle.std.specs.String.{string_bytes}
use Rattle.std.proofs.lemmas.List.{length-map}
use Rattle.std.proofs.lemmas.List.Elements.{All-push}
use Rattle.gl_grok.specs.Expansion.{begun}
use Rattle.gl_grok.specs.Tables.{table_of, pattern_of}
use Rattle.gl_grok.specs.Unwinding.{IsExpandable, so_far, finished}
use Rattle.gl_grok.proofs.Rooms.{Names}
use Rattle.gl_grok.proofs.Spelling.{step-end, step-last, percent-good, step-percent, after-good, inside-good, step-reference, with_fields}
use Rattle.gl_grok.proofs.Walking.{nows, now-push, percent-piece, reference-piece}
use Rattle.gl_grok.proofs.writing.write_rest.Goals as goal

pub returns-in_ok-push-clause-finished : goal.returns-in_ok-push-clause-finished
returns-in_ok-push-clause-finished c =
    let table = table_of c.args.table.now in
    let rests = nows c.args.rests.now.items in
    let fields = c.args.written.now.fields.items in
    let old : nows (c.args.rests.now.items ++ c.args.rest ∷ []) ≡ rests ++ c.args.rest.now ∷ [] = now-push _ c.args.rests.now.items c.args.rest refl in
    let full : 0 < length c.args.rests.now.items = grind arith in
    let some : 0 < length rests = omega (arith, length-map c.args.rests.now.items (λ (s : Bor (List ℕ)). s.now)) in
    let text : string_bytes c.push.new.self ≡ (string_bytes c.args.written.now.text ++ c.args.rest.now) ++ codes ")" = c.in_ok-push.ensures.bytes ∙ (λ i. c.in_ok-push_str.ensures.bytes i ++ c.in_ok-push.ensures.ascii (lit< tt) i) in
    sym (ap (λ (rs : Names). finished table rs (so_far c.args.written.now)) old
    ∙ step-end table rests c.args.rest.now (so_far c.args.written.now) c.requires.inner c.in_default.ensures.pieces some
    ∙ ap (λ (t : List ℕ). finished table rests (with_fields fields t)) (sym text))

pub returns-else-not-is_empty-clause-finished : goal.returns-else-not-is_empty-clause-finished
returns-else-not-is_empty-clause-finished c =
    let table = table_of c.args.table.now in
    let rests = nows c.args.rests.now.items in
    let fields = c.args.written.now.fields.items in
    let old : nows (c.args.rests.now.items ++ c.args.rest ∷ []) ≡ rests ++ c.args.rest.now ∷ [] = now-push _ c.args.rests.now.items c.args.rest refl in
    let empty : length c.args.rests.now.items ≤ 0 = grind arith in
    let none : length rests ≤ 0 = omega (arith, length-map c.args.rests.now.items (λ (s : Bor (List ℕ)). s.now)) in
    sym (ap (λ (rs : Names). finished table rs (so_far c.args.written.now)) old
    ∙ step-last table rests c.args.rest.now (so_far c.args.written.now) c.requires.inner c.in_default.ensures.pieces none
    ∙ ap (λ (t : List ℕ). finished table rests (with_fields fields t)) (sym c.in_ok-push_str.ensures.bytes))

pub returns-in_default-reference-clause-all : goal.returns-in_default-reference-clause-all
returns-in_default-reference-clause-all c =
    let table = table_of c.args.table.now in
    let rests = nows c.args.rests.now.items in
    let front = c.in-Some.front in
    let cut = percent-piece c.args.rest.now front.before.now front.after.now front.reference c.in-Some.ensures.pieces c.in_default-reference.is in
    let pushed : nows c.push-2.new.self.items ≡ rests ++ front.after.now ∷ [] = now-push c.push-2.new.self.items c.args.rests.now.items front.after c.in_ok-push-2.ensures.items in
    subst (All (IsExpandable table)) (sym pushed) (All-push (IsExpandable table) rests front.after.now c.requires.outer
    (percent-good table rests c.args.rest.now (so_far c.args.written.now) c.requires.inner front.before.now front.after.now cut))

pub returns-in_default-reference-clause-finished : goal.returns-in_default-reference-clause-finished
returns-in_default-reference-clause-finished c =
    let table = table_of c.args.table.now in
    let rests = nows c.args.rests.now.items in
    let fields = c.args.written.now.fields.items in
    let front = c.in-Some.front in
    let cut = percent-piece c.args.rest.now front.before.now front.after.now front.reference c.in-Some.ensures.pieces c.in_default-reference.is in
    let old : nows (c.args.rests.now.items ++ c.args.rest ∷ []) ≡ rests ++ c.args.rest.now ∷ [] = now-push _ c.args.rests.now.items c.args.rest refl in
    let pushed : nows c.push-2.new.self.items ≡ rests ++ front.after.now ∷ [] = now-push c.push-2.new.self.items c.args.rests.now.items front.after c.in_ok-push-2.ensures.items in
    let text : string_bytes c.push-in_default-reference.new.self ≡ (string_bytes c.args.written.now.text ++ front.before.now) ++ codes "%" = c.in_ok-push-3.ensures.bytes ∙ (λ i. c.in_ok-push_str-2.ensures.bytes i ++ c.in_ok-push-3.ensures.ascii (lit< tt) i) in
    sym (ap (λ (rs : Names). finished table rs (so_far c.args.written.now)) old
    ∙ step-percent table rests c.args.rest.now (so_far c.args.written.now) c.requires.inner front.before.now front.after.now cut
    ∙ (λ i. finished table (sym pushed i) (with_fields fields (sym text i))))

pub returns-clause-all : goal.returns-clause-all
returns-clause-all c =
    let table = table_of c.args.table.now in
    let rests = nows c.args.rests.now.items in
    let front = c.in-Some.front in
    let name = c.in-Some-reference.reference.name.now in
    let field = option_map (λ (s : Bor (List ℕ)). s.now) c.in-Some-reference.reference.field in
    let cut = reference-piece c.args.rest.now front.before.now front.after.now front.reference c.in-Some-reference.reference c.in-Some.ensures.pieces c.in-Some-reference.is in
    let pushed : nows c.push-2.new.self.items ≡ rests ++ front.after.now ∷ [] = now-push c.push-2.new.self.items c.args.rests.now.items front.after c.in_ok-push-2.ensures.items in
    let inner : nows c.push-3.new.self.items ≡ nows c.push-2.new.self.items ++ c.pattern_or_empty.result.now ∷ [] = now-push c.push-3.new.self.items c.push-2.new.self.items c.pattern_or_empty.result c.in_ok-push-4.ensures.items in
    let stack : (rests ++ front.after.now ∷ []) ++ pattern_of table name ∷ [] ≡ nows c.push-3.new.self.items = (λ i. sym pushed i ++ sym c.pattern_or_empty.ensures i ∷ []) ∙ sym inner in
    subst (All (IsExpandable table)) stack
    (All-push (IsExpandable table) (rests ++ front.after.now ∷ []) (pattern_of table name)
    (All-push (IsExpandable table) rests front.after.now c.requires.outer (after-good table rests c.args.rest.now (so_far c.args.written.now) c.requires.inner front.before.now front.after.now name field cut))
    (inside-good table rests c.args.rest.now (so_far c.args.written.now) c.requires.inner front.before.now front.after.now name field cut))

pub returns-clause-finished : goal.returns-clause-finished
returns-clause-finished c =
    let table = table_of c.args.table.now in
    let rests = nows c.args.rests.now.items in
    let fields = c.args.written.now.fields.items in
    let front = c.in-Some.front in
    let name = c.in-Some-reference.reference.name.now in
    let field = option_map (λ (s : Bor (List ℕ)). s.now) c.in-Some-reference.reference.field in
    let cut = reference-piece c.args.rest.now front.before.now front.after.now front.reference c.in-Some-reference.reference c.in-Some.ensures.pieces c.in-Some-reference.is in
    let old : nows (c.args.rests.now.items ++ c.args.rest ∷ []) ≡ rests ++ c.args.rest.now ∷ [] = now-push _ c.args.rests.now.items c.args.rest refl in
    let pushed : nows c.push-2.new.self.items ≡ rests ++ front.after.now ∷ [] = now-push c.push-2.new.self.items c.args.rests.now.items front.after c.in_ok-push-2.ensures.items in
    let inner : nows c.push-3.new.self.items ≡ nows c.push-2.new.self.items ++ c.pattern_or_empty.result.now ∷ [] = now-push c.push-3.new.self.items c.push-2.new.self.items c.pattern_or_empty.result c.in_ok-push-4.ensures.items in
    let stack : (rests ++ front.after.now ∷ []) ++ pattern_of table name ∷ [] ≡ nows c.push-3.new.self.items = (λ i. sym pushed i ++ sym c.pattern_or_empty.ensures i ∷ []) ∙ sym inner in
    let began : so_far c.begin.new.written ≡ begun (with_fields fields (string_bytes c.args.written.now.text ++ front.before.now)) field = c.in_ok-begin.ensures ∙ ap (λ (t : List ℕ). begun (with_fields fields t) field) c.in_ok-push_str-2.ensures.bytes in
    sym (ap (λ (rs : Names). finished table rs (so_far c.args.written.now)) old
    ∙ step-reference table rests c.args.rest.now (so_far c.args.written.now) c.requires.inner front.before.now front.after.now name field cut
    ∙ (λ i. finished table (stack i) (sym began i)))
