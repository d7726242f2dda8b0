use Rattle.std.proofs.Common.{◌≡◌, ℕ, List, [], Some, true, false, rules, ap, sym, ◌∙◌, arith}
use Rattle.gl_chunks.specs.Chunks.{message}
use Rattle.gl_chunks.proofs.Messages.{set_is, no_front, no_back, whole}
use Rattle.gl_chunks.proofs.chunk_set.message_with.Goals as goal

pub returns-then-not-have_come : goal.returns-then-not-have_come
returns-then-not-have_come c =
    let is = set_is c.args.parts.now c.split_at.result.0.now c.split_at.result.1.now c.split_at-2.result.1.now c.args.number c.args.part.now c.requires c.split_at.ensures.front c.split_at.ensures.back c.split_at-2.ensures.back in
    let lacks : c.have_come.result ≡ false = grind arith in
    sym (ap message is ∙ no_front c.split_at.result.0.now c.split_at-2.result.1.now c.args.part.now (sym c.have_come.ensures ∙ lacks))

pub returns-then-not-have_come-2 : goal.returns-then-not-have_come-2
returns-then-not-have_come-2 c =
    let is = set_is c.args.parts.now c.split_at.result.0.now c.split_at.result.1.now c.split_at-2.result.1.now c.args.number c.args.part.now c.requires c.split_at.ensures.front c.split_at.ensures.back c.split_at-2.ensures.back in
    let lacks : c.have_come-2.result ≡ false = grind arith in
    sym (ap message is ∙ no_back c.split_at.result.0.now c.split_at-2.result.1.now c.args.part.now (sym c.have_come-2.ensures ∙ lacks))

pub returns : goal.returns
returns c =
    let is = set_is c.args.parts.now c.split_at.result.0.now c.split_at.result.1.now c.split_at-2.result.1.now c.args.number c.args.part.now c.requires c.split_at.ensures.front c.split_at.ensures.back c.split_at-2.ensures.back in
    let front : c.have_come.result ≡ true = grind arith in
    let back : c.have_come-2.result ≡ true = grind arith in
    let none : c.new-bytes.result.items ≡ [] = search rules in
    ap (λ (l : List ℕ). Some l) c.from_vec.ensures
    ∙ whole c.split_at.result.0.now c.split_at-2.result.1.now c.args.part.now c.new-bytes.result.items c.push_data.new.out.items c.extend_from_slice.new.self.items c.push_data-2.new.out.items
    (sym c.have_come.ensures ∙ front) (sym c.have_come-2.ensures ∙ back) none c.in_ok-push_data.ensures c.in_ok-extend_from_slice.ensures.items c.in_ok-push_data-2.ensures
    ∙ sym (ap message is)
