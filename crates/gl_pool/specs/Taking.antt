-- Taking a worker's claim out of a list.
use Rattle.std.specs.Prelude.{◌≡◌, ℕ, ◌==◌, List, Option, Some, None}
use Rattle.std.specs.List.{position, remove, slice_get}
use Rattle.gl_pool.specs.declared.mark.Mark.{Mark}
use Rattle.gl_pool.specs.declared.mark.Claim.{Claim}

-- the worker's first claim is taken out, and answered
abbrev pub Takes : List Claim → List Claim → ℕ → Option Mark → Type 0
Takes old new worker None = (position (λ claim. claim.worker == worker) old ≡ None) × (new ≡ old)
Takes old new worker (Some mark) =
    (at : ℕ) × (claim : Claim) × (position (λ claim. claim.worker == worker) old ≡ Some at)
    × (slice_get old at ≡ Some claim) × (mark ≡ claim.mark) × (new ≡ remove old at)
