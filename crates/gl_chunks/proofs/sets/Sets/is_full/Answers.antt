use Rattle.std.proofs.Common.{◌≡◌, ◌≤◌, ◌<◌, ℕ, length, nat_le, false, arith, subst, nat_cmp}
use Rattle.std.specs.FinMap as map
use Rattle.std.specs.BTreeMap.{BTreeMap, get}
use Rattle.gl_chunks.specs.declared.chunk_set.ChunkSet.{ChunkSet}
use Rattle.gl_chunks.specs.Chunks.{opened, live_sets, Tells}
use Rattle.gl_chunks.proofs.Keeping.{not_full}
use Rattle.gl_chunks.proofs.Indexing.{full_is_oldest, none_without_oldest}
use Rattle.gl_chunks.proofs.sets.Sets.is_full.Goals as goal

pub returns-then-len-lt-MAX_SETS-clause-full : goal.returns-then-len-lt-MAX_SETS-clause-full
returns-then-len-lt-MAX_SETS-clause-full c =
    let few : length c.self.inside.by_id.entries < 1024 = grind arith in
    subst (λ (m : BTreeMap ℕ ChunkSet). (all : map.FinMap nat_cmp ChunkSet) → Tells opened c.args.now (get nat_cmp m) (map.get all) → false ≡ nat_le 1024 (map.len (live_sets c.args.now all))) c.self.view_is
    (λ all tells. not_full c.args.now c.self.inside.by_id all c.len.ensures.ordered tells few)

pub returns-in-Some-clause-full : goal.returns-in-Some-clause-full
returns-in-Some-clause-full c =
    let many : 1024 ≤ length c.self.inside.by_id.entries = grind arith in
    subst (λ (m : BTreeMap ℕ ChunkSet). (all : map.FinMap nat_cmp ChunkSet) → Tells opened c.args.now (get nat_cmp m) (map.get all) → c.is_live.result ≡ nat_le 1024 (map.len (live_sets c.args.now all))) c.self.view_is
    (full_is_oldest c.args.now c.is_live.result c.self.inside.openings c.self.inside.by_id c.in-Some.opening c.len.ensures.ordered c.self.invariant.0 c.self.invariant.1 many c.in-Some.ensures.kept c.in-Some.ensures.least c.is_live.ensures)

pub returns-in-None-clause-full : goal.returns-in-None-clause-full
returns-in-None-clause-full c = λ all tells.
    let many : 1024 ≤ length c.self.inside.by_id.entries = grind arith in
    absurd (none_without_oldest c.self.inside.openings c.self.inside.by_id c.self.invariant.0 c.in-None.ensures.least many)

pub returns-in-None-clause-room : goal.returns-in-None-clause-room
returns-in-None-clause-room c = λ is too_many.
    let many : 1024 ≤ length c.self.inside.by_id.entries = grind arith in
    absurd (none_without_oldest c.self.inside.openings c.self.inside.by_id c.self.invariant.0 c.in-None.ensures.least many)
