use Rattle.std.proofs.Common.{◌≡◌, ◌<◌, ◌+◌, ◌-◌, ℕ, List, length, Some, refl, ap, arith, true, false}
use Rattle.gl_lines.specs.declared.zero_front.Stage.TheVariants as stages
use Rattle.gl_lines.specs.ZeroFronts.{zero_view}
use Rattle.gl_lines.proofs.Feeding.{cut_is, call_whole, call_nothing, call_too_long, closed_view, open_given, some_rest}
use Rattle.gl_lines.proofs.zero_front.feed.Goals as goal

pub returns-then-not-put : goal.returns-then-not-put
returns-then-not-put c =
    let cut = cut_is c.args.front.now.bytes.items c.args.piece.now c.split_at.result.1.now c.split_at-2.result.0.now c.split_at-2.result.1.now c.skipped.result c.part_len.result
    c.skipped.ensures.len c.split_at.ensures.back c.part_len.ensures.len c.split_at-2.ensures.front c.split_at-2.ensures.back in
    let no : c.put.result ≡ false = grind arith in
    let v = closed_view c.put.new.front (c.put.ensures.closed no) in
    record {
      room = c.put.ensures.room;
      within = omega arith;
      frames = λ given s. call_too_long (zero_view c.put.new.front) c.args.front.now.bytes.items given c.split_at-2.result.0.now c.split_at-2.result.1.now c.args.piece.now (length c.args.piece.now) (open_given c.args.front.now given c.requires.open s) cut (c.put.ensures.many no) refl v.0;
      answer = (some_rest c.args.front.now c.requires.open, v.0, refl, v.1);
    }

pub returns-then-is_empty : goal.returns-then-is_empty
returns-then-is_empty c =
    let cut = cut_is c.args.front.now.bytes.items c.args.piece.now c.split_at.result.1.now c.split_at-2.result.0.now c.split_at-2.result.1.now c.skipped.result c.part_len.result
    c.skipped.ensures.len c.split_at.ensures.back c.part_len.ensures.len c.split_at-2.ensures.front c.split_at-2.ensures.back in
    let yes_ : c.put.result ≡ true = grind arith in
    let none : length c.split_at-2.result.1.now ≡ 0 = grind arith in
    record {
      room = c.put.ensures.room;
      within = omega arith;
      frames = λ given s. call_nothing (zero_view (record { bytes = c.put.new.front.bytes; stage = stages.Open })) c.args.front.now.bytes.items given c.split_at-2.result.0.now c.split_at-2.result.1.now c.args.piece.now (length c.args.piece.now) (open_given c.args.front.now given c.requires.open s) cut (c.put.ensures.few yes_) none refl (ap (λ (l : List ℕ). Some l) (c.put.ensures.kept yes_));
      answer = (some_rest c.args.front.now c.requires.open, refl, refl, refl);
    }

pub returns : goal.returns
returns c =
    let cut = cut_is c.args.front.now.bytes.items c.args.piece.now c.split_at.result.1.now c.split_at-2.result.0.now c.split_at-2.result.1.now c.skipped.result c.part_len.result
    c.skipped.ensures.len c.split_at.ensures.back c.part_len.ensures.len c.split_at-2.ensures.front c.split_at-2.ensures.back in
    let yes_ : c.put.result ≡ true = grind arith in
    let some : 0 < length c.split_at-2.result.1.now = grind arith in
    record {
      room = c.put.ensures.room;
      within = omega arith;
      frames = λ given s. call_whole (zero_view (record { bytes = c.put.new.front.bytes; stage = stages.Ended })) c.args.front.now.bytes.items given c.split_at-2.result.0.now c.split_at-2.result.1.now c.args.piece.now (length c.args.piece.now - length c.split_at-2.result.1.now + 1) (open_given c.args.front.now given c.requires.open s) cut (c.put.ensures.few yes_) some refl (c.put.ensures.kept yes_) refl;
      answer = (some_rest c.args.front.now c.requires.open, refl, rw (c.put.ensures.kept yes_) (cut.some some));
    }
