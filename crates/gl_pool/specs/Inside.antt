-- What holds of a pool's fields, and what contracts see of them.
use Rattle.std.specs.Prelude.{◌+◌, ◌<◌, ◌≤◌, ◌^◌, vec_len, vec_capacity}
use Rattle.std.specs.List.{All}
use Rattle.gl_pool.specs.declared.mark.Claim.{Claim}
use Rattle.gl_pool.specs.declared.pool.Pool.TheInside.{Inside}
use Rattle.gl_pool.specs.Kept.{Kept}

abbrev pub kept_of : Inside → Kept
kept_of pool = record { held = pool.held.items; spans = pool.spans.items; frontier = pool.frontier }

pub record IsSound (pool : Inside) : Type 0 where
  -- each range that is held has room to be given up
  pub room : vec_len pool.spans + vec_len pool.held ≤ vec_capacity pool.spans
  pub ends : All (λ (c : Claim). c.mark.first + c.mark.count < 2 ^ 64) pool.held.items
