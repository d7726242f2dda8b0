use Rattle.std.proofs.Common.{◌≡◌, ◌<◌, ◌∷◌, ◌++◌, [], List, ℕ, length, Some, sym, ap, subst, ◌∙◌, arith, Bor}
use Rattle.std.specs.List.{All}
use Rattle.std.specs.String.{string_bytes}
use Rattle.std.proofs.lemmas.List.Elements.{All-nil, All-push, All-pop}
use Rattle.gl_grok.specs.Expansion.{expansion}
use Rattle.gl_grok.specs.Tables.{table_of}
use Rattle.gl_grok.specs.Unwinding.{IsExpandable, so_far, finished}
use Rattle.gl_grok.proofs.Spelling.{with_fields, too_long}
use Rattle.gl_grok.proofs.Walking.{nows, now-push}
use Rattle.gl_grok.proofs.writing.write.Goals as goal

pub loop-rest-init : goal.loop-rest-init
loop-rest-init c =
    let table = table_of c.args.table.now in
    let pushed : nows c.push.new.self.items ≡ c.args.text.now ∷ [] = now-push c.push.new.self.items [] c.args.text (c.in_ok-push.ensures.items ∙ ap (λ (xs : List (Bor (List ℕ))). xs ++ c.args.text ∷ []) c.new-rests.ensures.items) in
    record {
      all = subst (All (IsExpandable table)) (sym pushed) (All-push (IsExpandable table) [] c.args.text.now (All-nil (IsExpandable table)) c.requires);
      finished = λ i. finished table (pushed i) (with_fields (c.new-2.ensures.items i) (c.new.ensures.bytes i));
      short = omega (arith, ap length c.new.ensures.bytes);
    }

pub write_rest-requires-clause-inner : goal.write_rest-requires-clause-inner
write_rest-requires-clause-inner c =
    let table = table_of c.args.table.now in
    let popped : nows c.loop-rest.rests.items ≡ nows c.pop.new.self.items ++ c.in-Some.rest.now ∷ [] = now-push c.loop-rest.rests.items c.pop.new.self.items c.in-Some.rest c.in-Some.ensures.items in
    (All-pop (IsExpandable table) (nows c.loop-rest.rests.items) (nows c.pop.new.self.items) (Some c.in-Some.rest.now) popped c.loop-rest.invariant.all).1

pub returns-then-len-gt-MAX_TEXT : goal.returns-then-len-gt-MAX_TEXT
returns-then-len-gt-MAX_TEXT c =
    let table = table_of c.args.table.now in
    let whole = c.in_ok-write_rest.ensures.finished
    ∙ ap (λ (xs : List (Bor (List ℕ))). finished table (nows xs) (so_far c.loop-rest.written)) (sym c.in-Some.ensures.items)
    ∙ c.loop-rest.invariant.finished in
    let long : 8192 < length (string_bytes c.write_rest.new.written.text) = grind arith in
    too_long table (nows c.write_rest.new.rests.items) (so_far c.write_rest.new.written) (expansion table c.args.text.now) whole long
