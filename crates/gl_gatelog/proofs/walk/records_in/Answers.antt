use Rattle.std.proofs.Common.{◌≡◌, ◌+◌, ◌-◌, ◌∷◌, ◌++◌, [], ℕ, List, length, take, drop, sym, ◌∙◌, ap, subst, arith}
use Rattle.std.proofs.lemmas.List.{take_rest}
use Rattle.gl_gatelog.specs.Batch.{Batch}
use Rattle.gl_gatelog.specs.View.{batch_of}
use Rattle.gl_gatelog.proofs.Bodies.{batch_push}
use Rattle.gl_gatelog.proofs.Peel.{Done, Tail, head, long_enough, front, behind, one_more}
use Rattle.gl_gatelog.proofs.walk.records_in.Goals as goal
use Rattle.gl_gatelog.proofs.walk.records_in.Goals.{then-n-gt-MAX_RECORD-via-then-n-gt-MAX_RECORD, then-n-gt-MAX_RECORD-via-else-n-gt-MAX_RECORD+then-n-rest}

pub returns-then-rest-lt4 : goal.returns-then-rest-lt4
returns-then-rest-lt4 c rs whole count short =
    let left = c.args.count - (c.loop-i.i + 1) in
    let h = head c.loop-i.rest.now (c.args.count - c.loop-i.i) (c.loop-i.invariant.left rs whole count short) left (omega arith) in
    omega (arith, long_enough c.loop-i.rest.now left h)

pub returns-then-n-gt-MAX_RECORD : goal.returns-then-n-gt-MAX_RECORD
returns-then-n-gt-MAX_RECORD c rs whole count short =
    let left = c.args.count - (c.loop-i.i + 1) in
    let h = head c.loop-i.rest.now (c.args.count - c.loop-i.i) (c.loop-i.invariant.left rs whole count short) left (omega arith) in
    let fits = front c.loop-i.rest.now left c.front_number-n.result (omega arith) c.front_number-n.ensures h in
    elim c.then-n-gt-MAX_RECORD.branch [
      | then-n-gt-MAX_RECORD-via-then-n-gt-MAX_RECORD w ↦ omega (arith, fits.1)
      | then-n-gt-MAX_RECORD-via-else-n-gt-MAX_RECORD+then-n-rest w ↦ omega (arith, fits.2)
    ]

pub loop-i-preserved : goal.loop-i-preserved
loop-i-preserved c =
    let rest = c.loop-i.rest.now in
    let n = c.front_number-n.result in
    let same : take (length rest - (4 + n)) (drop (4 + n) rest) ≡ drop (4 + n) rest = take_rest rest (4 + n) in
    let record_is : c.extend_from_slice.new.self.items ≡ take n (drop 4 rest) =
    c.in_ok-extend_from_slice.ensures.items ∙ ap (λ (l : List ℕ). l ++ take (4 + n - 4) (drop 4 rest)) c.new-record.ensures.items ∙ ap (λ (k : ℕ). take k (drop 4 rest)) (omega arith) in
    let pushed : batch_of c.push.new.self.items ≡ batch_of c.loop-i.records.items ++ c.extend_from_slice.new.self.items ∷ [] =
    ap batch_of c.in_ok-push.ensures.items ∙ batch_push c.loop-i.records.items c.extend_from_slice.new.self in
    record {
      done =
          subst (λ (b : Batch). Done c.args.bytes.now (take (length rest - (4 + n)) (drop (4 + n) rest)) b (c.loop-i.i + 1)) (sym pushed)
          (subst (λ (l : List ℕ). Done c.args.bytes.now l (batch_of c.loop-i.records.items ++ c.extend_from_slice.new.self.items ∷ []) (c.loop-i.i + 1)) (sym same)
          (one_more c.args.bytes.now rest (batch_of c.loop-i.records.items) c.loop-i.i n c.extend_from_slice.new.self.items c.loop-i.invariant.done c.front_number-n.ensures c.if-n-gt-MAX_RECORD.false (omega arith) record_is));
      left = λ rs whole count short.
          let left = c.args.count - (c.loop-i.i + 1) in
          let h = head rest (c.args.count - c.loop-i.i) (c.loop-i.invariant.left rs whole count short) left (omega arith) in
          let fits = front rest left n (omega arith) c.front_number-n.ensures h in
          subst (λ (l : List ℕ). Tail l left) (sym same) (behind rest left n h fits.0);
    }
