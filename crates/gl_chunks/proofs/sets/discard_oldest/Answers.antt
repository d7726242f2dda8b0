use Rattle.std.proofs.Common.{sym}
use Rattle.gl_chunks.proofs.Indexing.{opening_of, has_opening, none_stale}
use Rattle.gl_chunks.proofs.sets.discard_oldest.Goals as goal

pub returns-in_default-clause-fewer : goal.returns-in_default-clause-fewer
returns-in_default-clause-fewer c = λ stale.
    absurd (c.in_default.ensures.least (opening_of stale.set.opened stale.id) (has_opening c.args.openings.now c.args.sets.now stale.id stale.set c.requires stale.kept))

pub returns-then-is_live-clause-fewer : goal.returns-then-is_live-clause-fewer
returns-then-is_live-clause-fewer c = λ stale.
    absurd (none_stale c.args.now c.args.openings.now c.args.sets.now c.in-Some.opening c.requires c.in-Some.ensures.least (sym c.if-is_live.ensures) stale)
