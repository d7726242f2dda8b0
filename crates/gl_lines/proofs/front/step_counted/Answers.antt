use Rattle.std.proofs.Common.{◌≡◌, ◌≢◌, ◌+◌, ◌++◌, ◌∷◌, [], length, arith, refl}
use Rattle.gl_lines.specs.LineFraming.{most}
use Rattle.gl_lines.proofs.Stepping.{counted_too_long, is_whole, goes_counted, counted_front_open, stays_open}
use Rattle.gl_lines.proofs.front.step_counted.Goals as goal

pub returns-then-len-head-clause-becomes : goal.returns-then-len-head-clause-becomes
returns-then-len-head-clause-becomes c =
    let full : length c.args.front.now.bytes.items ≡ c.args.head + most = grind arith in
    let long = counted_too_long c.args.counts c.args.front.now.bytes.items c.args.head c.args.count c.args.b c.requires.counted full in
    (refl, long.0, long.1)

pub returns-then-to-head-clause-becomes : goal.returns-then-to-head-clause-becomes
returns-then-to-head-clause-becomes c =
    let room : length c.args.front.now.bytes.items ≢ c.args.head + most = grind arith in
    let len : c.len-to.result ≡ length c.push_reserved.new.self.items = grind arith in
    is_whole c.args.counts c.args.front.now.bytes.items c.args.head c.args.count c.args.b c.push_reserved.new.self.items c.len-to.result c.requires.counted
    room c.if-to-head.true c.push_reserved.ensures.items len

pub returns-clause-front : goal.returns-clause-front
returns-clause-front c =
    let room : length c.args.front.now.bytes.items ≢ c.args.head + most = grind arith in
    let len : c.len-to.result ≡ length c.push_reserved.new.self.items = grind arith in
    record {
      room = omega (arith, c.requires.room, c.push_reserved.ensures.capacity);
      state = goes_counted c.args.counts c.args.front.now.bytes.items c.args.head c.args.count c.args.b c.push_reserved.new.self.items c.len-to.result c.requires.counted
          room c.if-to-head.false c.push_reserved.ensures.items len;
    }

pub returns-clause-becomes : goal.returns-clause-becomes
returns-clause-becomes c =
    let room : length c.args.front.now.bytes.items ≢ c.args.head + most = grind arith in
    let len : c.len-to.result ≡ length c.push_reserved.new.self.items = grind arith in
    let front = goes_counted c.args.counts c.args.front.now.bytes.items c.args.head c.args.count c.args.b c.push_reserved.new.self.items c.len-to.result c.requires.counted
    room c.if-to-head.false c.push_reserved.ensures.items len in
    stays_open c.args.counts (c.args.front.now.bytes.items ++ c.args.b ∷ []) c.push_reserved.new.self.items [] c.push_reserved.ensures.items
    (counted_front_open c.args.counts c.push_reserved.new.self.items c.args.head c.args.count front)
