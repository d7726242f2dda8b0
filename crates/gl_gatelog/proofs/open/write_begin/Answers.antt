use Rattle.std.proofs.Common.{◌≡◌, ◌≢◌, ℕ, List, [], false, sym, ◌∙◌, subst}
use Rattle.gl_outside.specs.Disk.{Image, DiskState, InArea, After}
use Rattle.gl_outside.proofs.Moments.{at_end, weaker}
use Rattle.gl_gatelog.specs.declared.kind.Log.{Log}
use Rattle.gl_gatelog.specs.Batch.{staged}
use Rattle.gl_gatelog.specs.Gate.{IsOpened, ClosedOrOpened, AllWait}
use Rattle.gl_gatelog.specs.Log.{area_of, begin}
use Rattle.gl_gatelog.specs.View.{GateView, begun}
use Rattle.gl_gatelog.specs.Stand.{LeftByOpening}
use Rattle.gl_gatelog.proofs.Beginning.{left_begun, begun_stands}
use Rattle.gl_gatelog.proofs.Standing.{same_view}
use Rattle.gl_gatelog.proofs.open.write_begin.Goals as goal

at_area : (step : ℕ → List ℕ → List ℕ → List ℕ → Type 0) (d : DiskState) (c : Image) (log : Log) (area : ℕ) (bytes to : List ℕ) → area ≡ area_of log 0 → bytes ≡ to
    → After d (InArea area (step 0 bytes)) c → After d (InArea (area_of log 0) (step 0 to)) c
at_area step d c log area bytes to same_area same_bytes after =
    subst (λ (l : List ℕ). After d (InArea (area_of log 0) (step 0 l)) c) same_bytes (subst (λ n. After d (InArea n (step 0 bytes)) c) same_area after)

pub returns-in_err-write_batch-clause-any_moment : goal.returns-in_err-write_batch-clause-any_moment
returns-in_err-write_batch-clause-any_moment g c tells empty =
    let s0 = g.D.Disk.state c.args.disk.now in
    let waits : AllWait c.args.gated c.area_number-area.result 0 s0 = subst (λ (n : ℕ). AllWait c.args.gated n 0 s0) (sym c.area_number-area.ensures) (c.requires.waits tells) in
    let P : Image → Type 0 = LeftByOpening c.args.log c.args.segment s0 in
    weaker s0 (g.D.Disk.state c.write_batch.new.disk) _ P (c.write_batch.ensures.any_moment tells waits)
    (λ d after. left_begun c.args.log c.args.segment (record { least = c.requires.least; most = c.requires.most }) s0 s0 empty (λ e now. now) d
    (at_area ClosedOrOpened s0 d c.args.log c.area_number-area.result c.deref.result.now (staged (begin c.args.log c.args.segment)) c.area_number-area.ensures (c.deref.ensures.value ∙ c.in_ok-batch.ensures) after))

pub returns-clause-any_moment : goal.returns-clause-any_moment
returns-clause-any_moment g c tells empty =
    let s0 = g.D.Disk.state c.args.disk.now in
    let waits : AllWait c.args.gated c.area_number-area.result 0 s0 = subst (λ (n : ℕ). AllWait c.args.gated n 0 s0) (sym c.area_number-area.ensures) (c.requires.waits tells) in
    let P : Image → Type 0 = LeftByOpening c.args.log c.args.segment s0 in
    weaker s0 (g.D.Disk.state c.write_batch.new.disk) _ P (c.write_batch.ensures.any_moment tells waits)
    (λ d after. left_begun c.args.log c.args.segment (record { least = c.requires.least; most = c.requires.most }) s0 s0 empty (λ e now. now) d
    (at_area ClosedOrOpened s0 d c.args.log c.area_number-area.result c.deref.result.now (staged (begin c.args.log c.args.segment)) c.area_number-area.ensures (c.deref.ensures.value ∙ c.in_ok-batch.ensures) after))

pub returns-clause-stands : goal.returns-clause-stands
returns-clause-stands g c tells empty =
    let s0 = g.D.Disk.state c.args.disk.now in
    let s1 = g.D.Disk.state c.write_batch.new.disk in
    let waits : AllWait c.args.gated c.area_number-area.result 0 s0 = subst (λ (n : ℕ). AllWait c.args.gated n 0 s0) (sym c.area_number-area.ensures) (c.requires.waits tells) in
    let made : GateView = record {
      log = c.args.log;
      segment_size = c.args.segment;
      limit = c.args.limit;
      place = (c.next_place-first.result.0, c.next_place-first.result.1);
      gated = c.next_place-first.result.2;
      places = c.new.result.items;
      bytes = 25;
      stopped = false;
    } in
    let is : made ≡ begun c.args.log c.args.segment c.args.limit = λ i. record {
      log = c.args.log;
      segment_size = c.args.segment;
      limit = c.args.limit;
      place = c.next_place-first.ensures.place i;
      gated = c.next_place-first.ensures.gated i;
      places = c.new.ensures.items i;
      bytes = 25;
      stopped = false;
    } in
    same_view _ _ [] s1 is (begun_stands c.args.log c.args.segment (record { least = c.requires.least; most = c.requires.most }) s0 s0 empty (λ e now. now) c.args.limit s1
    (λ d now. at_area IsOpened s0 d c.args.log c.area_number-area.result c.deref.result.now (staged (begin c.args.log c.args.segment)) c.area_number-area.ensures (c.deref.ensures.value ∙ c.in_ok-batch.ensures) (c.in_ok-write_batch.ensures.opened tells waits d now)))

pub returns-in_err-write_batch-clause-apart : goal.returns-in_err-write_batch-clause-apart
returns-in_err-write_batch-clause-apart g c tells d now =
    let s0 = g.D.Disk.state c.args.disk.now in
    let waits : AllWait c.args.gated c.area_number-area.result 0 s0 = subst (λ (n : ℕ). AllWait c.args.gated n 0 s0) (sym c.area_number-area.ensures) (c.requires.waits tells) in
    let after = at_end s0 (g.D.Disk.state c.write_batch.new.disk) _ (c.write_batch.ensures.any_moment tells waits) d now in
    record { from = after.from; image = after.image; steps = λ b apart. after.steps.elsewhere b (subst (λ (n : ℕ). b ≢ n) (sym c.area_number-area.ensures) apart) }

pub returns-clause-apart : goal.returns-clause-apart
returns-clause-apart g c tells d now =
    let s0 = g.D.Disk.state c.args.disk.now in
    let waits : AllWait c.args.gated c.area_number-area.result 0 s0 = subst (λ (n : ℕ). AllWait c.args.gated n 0 s0) (sym c.area_number-area.ensures) (c.requires.waits tells) in
    let after = at_end s0 (g.D.Disk.state c.write_batch.new.disk) _ (c.write_batch.ensures.any_moment tells waits) d now in
    record { from = after.from; image = after.image; steps = λ b apart. after.steps.elsewhere b (subst (λ (n : ℕ). b ≢ n) (sym c.area_number-area.ensures) apart) }
