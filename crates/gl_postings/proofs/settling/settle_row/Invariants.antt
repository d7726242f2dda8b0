-- A ledger of its own.
use Rattle.gl_postings.proofs.settling.settle_row.Given as goal

abbrev pub ghosts-forget_leaving : goal.ghosts-forget_leaving
ghosts-forget_leaving a = record { name = a.blank.name; parts = 1 }
