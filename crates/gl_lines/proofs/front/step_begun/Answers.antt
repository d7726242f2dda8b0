use Rattle.std.proofs.Common.{◌≡◌, ◌+◌, ◌-◌, ◌*◌, ◌++◌, ◌∷◌, [], length, arith, sym, ◌∙◌}
use Rattle.gl_lines.proofs.Counts.{decimal_short, digits_no_end}
use Rattle.gl_lines.proofs.Stepping.{ended, gone_on, never_ends, stays_open, begun_open, counted_front_open}
use Rattle.gl_lines.proofs.front.step_begun.Goals as goal

pub overflow_mul-count : goal.overflow_mul-count
overflow_mul-count c =
    let short = decimal_short 7 0 c.args.front.now.bytes.items c.requires.begun.digits c.requires.begun.few in
    let value = c.requires.begun.value in
    omega arith

pub overflow_add-count : goal.overflow_add-count
overflow_add-count c =
    let short = decimal_short 7 0 c.args.front.now.bytes.items c.requires.begun.digits c.requires.begun.few in
    let value = c.requires.begun.value in
    omega arith

pub step_line-requires-clause-one : goal.step_line-requires-clause-one
step_line-requires-clause-one c = digits_no_end c.args.front.now.bytes.items c.requires.begun.digits

pub step_line-requires-clause-never : goal.step_line-requires-clause-never
step_line-requires-clause-never c =
    let len : c.len-len.result ≡ length c.args.front.now.bytes.items = grind arith in
    never_ends c.args.counts c.args.front.now.bytes.items c.args.count c.args.b c.len-len.result c.requires.begun
    (sym c.goes_on.ensures ∙ c.if-goes_on.false) (sym c.ends_count.ensures ∙ c.if-ends_count.false) len

pub returns-then-ends_count-clause-front : goal.returns-then-ends_count-clause-front
returns-then-ends_count-clause-front c =
    let len : c.len-len.result ≡ length c.args.front.now.bytes.items = grind arith in
    record {
      room = omega (arith, c.requires.room, c.push_reserved.ensures.capacity);
      state = ended c.args.counts c.args.front.now.bytes.items c.args.count c.args.b c.push_reserved.new.self.items c.len-len.result c.requires.begun
          (sym c.ends_count.ensures ∙ c.if-ends_count.true) len c.push_reserved.ensures.items;
    }

pub returns-then-ends_count-clause-becomes : goal.returns-then-ends_count-clause-becomes
returns-then-ends_count-clause-becomes c =
    let len : c.len-len.result ≡ length c.args.front.now.bytes.items = grind arith in
    let front = ended c.args.counts c.args.front.now.bytes.items c.args.count c.args.b c.push_reserved.new.self.items c.len-len.result c.requires.begun
    (sym c.ends_count.ensures ∙ c.if-ends_count.true) len c.push_reserved.ensures.items in
    stays_open c.args.counts (c.args.front.now.bytes.items ++ c.args.b ∷ []) c.push_reserved.new.self.items [] c.push_reserved.ensures.items
    (counted_front_open c.args.counts c.push_reserved.new.self.items (c.len-len.result + 1) c.args.count front)

pub returns-then-goes_on-clause-front : goal.returns-then-goes_on-clause-front
returns-then-goes_on-clause-front c =
    let len : c.len-len.result ≡ length c.args.front.now.bytes.items = grind arith in
    record {
      room = omega (arith, c.requires.room, c.push_reserved-then-goes_on.ensures.capacity);
      state = gone_on c.args.counts c.args.front.now.bytes.items c.args.count c.args.b c.push_reserved-then-goes_on.new.self.items c.len-len.result c.requires.begun
          (sym c.goes_on.ensures ∙ c.if-goes_on.true) len c.push_reserved-then-goes_on.ensures.items;
    }

pub returns-then-goes_on-clause-becomes : goal.returns-then-goes_on-clause-becomes
returns-then-goes_on-clause-becomes c =
    let len : c.len-len.result ≡ length c.args.front.now.bytes.items = grind arith in
    let front = gone_on c.args.counts c.args.front.now.bytes.items c.args.count c.args.b c.push_reserved-then-goes_on.new.self.items c.len-len.result c.requires.begun
    (sym c.goes_on.ensures ∙ c.if-goes_on.true) len c.push_reserved-then-goes_on.ensures.items in
    stays_open c.args.counts (c.args.front.now.bytes.items ++ c.args.b ∷ []) c.push_reserved-then-goes_on.new.self.items [] c.push_reserved-then-goes_on.ensures.items
    (begun_open c.args.counts c.push_reserved-then-goes_on.new.self.items (c.args.count * 10 + (c.args.b - 48)) front)
