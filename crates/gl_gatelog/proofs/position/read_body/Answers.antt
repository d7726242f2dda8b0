use Rattle.std.proofs.Common.{◌≡◌, ◌+◌, ℕ, List, take, drop, ◌∙◌, ap, arith}
use Rattle.std.specs.Int.{to_be_bytes, w32}
use Rattle.std.proofs.lemmas.List.{take-take}
use Rattle.gl_outside.specs.Disk.{Image}
use Rattle.gl_outside.proofs.Telling.{still}
use Rattle.gl_gatelog.proofs.Parse.{body_at}
use Rattle.gl_gatelog.proofs.position.read_body.Goals as goal

pub returns-then-size-length-clause-found : goal.returns-then-size-length-clause-found
returns-then-size-length-clause-found g c tells rs is =
    let s0 = g.D.Disk.state c.args.disk.now in
    let s1 = g.D.Disk.state c.length.new.self in
    let t1 = still s0 s1 c.length.ensures.tells tells in
    let same = (c.length.ensures.unchanged tells).reads in
    let size : to_be_bytes w32 c.front_number.result ≡ take 4 (drop (c.args.at + 5) (s0.reads c.args.area)) =
    c.front_number.ensures ∙ ap (λ (l : List ℕ). take 4 l) (c.in_ok-read.ensures.bytes t1) ∙ take-take 4 4 (drop (c.args.at + 5) (s1.reads c.args.area)) (omega arith) ∙ ap (λ (i : Image). take 4 (drop (c.args.at + 5) (i c.args.area))) same in
    omega (arith, (body_at (s0.reads c.args.area) c.args.at c.front_number.result rs (omega arith) size is).1, c.in_ok-length.ensures.answer tells, c.from-size.ensures)

pub returns-clause-found : goal.returns-clause-found
returns-clause-found g c tells rs is =
    let s0 = g.D.Disk.state c.args.disk.now in
    let s1 = g.D.Disk.state c.length.new.self in
    let s2 = g.D.Disk.state c.read.new.self in
    let t1 = still s0 s1 c.length.ensures.tells tells in
    let t2 = still s1 s2 c.read.ensures.tells t1 in
    let same = (c.length.ensures.unchanged tells).reads in
    let size : to_be_bytes w32 c.front_number.result ≡ take 4 (drop (c.args.at + 5) (s0.reads c.args.area)) =
    c.front_number.ensures ∙ ap (λ (l : List ℕ). take 4 l) (c.in_ok-read.ensures.bytes t1) ∙ take-take 4 4 (drop (c.args.at + 5) (s1.reads c.args.area)) (omega arith) ∙ ap (λ (i : Image). take 4 (drop (c.args.at + 5) (i c.args.area))) same in
    c.in_ok-body.ensures.bytes t2
    ∙ ap (λ (i : Image). take c.from-size.result (drop (c.args.at + 9) (i c.args.area))) ((c.read.ensures.unchanged t1).reads ∙ same)
    ∙ ap (λ (n : ℕ). take n (drop (c.args.at + 9) (s0.reads c.args.area))) c.from-size.ensures
    ∙ (body_at (s0.reads c.args.area) c.args.at c.front_number.result rs (omega arith) size is).2
