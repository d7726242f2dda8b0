-- What a pool keeps, and which calls that stands for.
use Rattle.std.specs.Prelude.{◌≡◌, ℕ, ◌<◌, ◌≤◌, Bool, true, ◌&&◌, ◌||◌, nat_le, nat_lt, ◌==◌, List, max, count_by}
use Rattle.std.specs.List.{All, list_any}
use Rattle.gl_pool.specs.declared.mark.Claim.{Claim}
use Rattle.gl_pool.specs.declared.span.Span.{Span}
use Rattle.gl_pool.specs.Claims.{Call, claims_of, is_finished, is_free, lies_in}

pub record Kept : Type 0 where
  pub held : List Claim
  pub spans : List Span
  pub frontier : ℕ

abbrev pub spans_over : ℕ → Span → Bool
spans_over position span = nat_le span.first position && nat_lt position span.end

-- from the frontier on, or in a span below it
abbrev pub is_open : ℕ → List Span → ℕ → Bool
is_open frontier spans position = nat_le frontier position || list_any (spans_over position) spans

-- what a span has from a position on
abbrev pub cut_at : ℕ → Span → Span
cut_at end span = record { first = max span.first end; end = span.end }

-- The calls that a pool stands for: the claims are kept, and what is free.
pub record StandsFor (kept : Kept) (start : ℕ) (calls : List Call) : Type 0 where
  pub held : kept.held ≡ claims_of calls
  pub free : (p : ℕ) → is_free start calls p ≡ is_open kept.frontier kept.spans p
  pub spans : All (λ (s : Span). s.first < s.end) kept.spans
  pub sized : All (λ (c : Claim). 0 < c.mark.count) kept.held
  -- a worker holds one range at most
  pub workers : (worker : ℕ) → count_by (λ (c : Claim). c.worker == worker) kept.held ≤ 1
  -- a position is claimed once at most, and not where it is finished
  pub once : (p : ℕ) → count_by (λ (c : Claim). lies_in p c.mark) kept.held ≤ 1
  pub apart : (p : ℕ) → is_finished start calls p ≡ true → count_by (λ (c : Claim). lies_in p c.mark) kept.held ≡ 0
