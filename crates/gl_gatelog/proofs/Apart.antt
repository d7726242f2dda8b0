-- A log that isn't written to.
use Rattle.std.proofs.Common.{◌≡◌, ◌≢◌, ⊎_elim, ℕ, ◌≤◌, List, ◌∷◌, take, refl, sym, ◌∙◌, ap, subst, arith}
use Rattle.gl_outside.specs.Disk.{Image, DiskState}
use Rattle.gl_gatelog.specs.declared.kind.Log.{Log}
use Rattle.gl_gatelog.specs.declared.kind.Log.TheVariants.{Journal, Index}
use Rattle.gl_gatelog.specs.Batch.{Batch}
use Rattle.gl_gatelog.specs.Gate.{IsClosed, Waits}
use Rattle.gl_gatelog.specs.Log.{area_of, begin, last_segment, log_end, end_area, LogAlone}
use Rattle.gl_gatelog.specs.View.{GateView}
use Rattle.gl_gatelog.specs.Stand.{StandsOn}
use Rattle.gl_gatelog.proofs.Chain.{moved}

-- no area but those of the log has changed
abbrev pub OnlyIn : Log → Image → Image → Type 0
OnlyIn log old new = (b : ℕ) → ((segment : ℕ) → segment ≤ last_segment log → b ≢ area_of log segment) → new b ≡ old b

pub other_area : (log other : Log) → other ≢ log → (k segment : ℕ) → area_of other k ≢ area_of log segment
other_area Journal Journal ne k segment same = ne refl
other_area Journal Index ne k segment same = omega arith
other_area Index Journal ne k segment same = omega arith
other_area Index Index ne k segment same = ne refl

module _ (log other : Log) (ne : other ≢ log) (old new : Image) (only : OnlyIn log old new) where
  pub same_area : (k : ℕ) → new (area_of other k) ≡ old (area_of other k)
  same_area k = only (area_of other k) (λ segment le. other_area log other ne k segment)

  pub other_log : (s : ℕ) (batches : List Batch) → LogAlone other s batches old → LogAlone other s batches new
  other_log s batches is = record {
    log_is = record {
      sized = is.log_is.sized;
      holds = moved other s old new (0, 0) (begin other s ∷ batches) (λ k apart. same_area k)
          (ap (λ (l : List ℕ). take (log_end other s batches).1 l) (same_area (log_end other s batches).0))
          (λ some. ⊎_elim (λ none. absurd (omega (arith, none.0, some))) (λ shut. shut.there) ends)
          is.log_is.holds;
      ends = ends;
    };
    behind = λ k lt le. same_area k ∙ is.behind k lt le;
  }
    where
      ends : IsClosed (log_end other s batches).1 (new (end_area other s batches))
      ends = subst (λ (l : List ℕ). IsClosed (log_end other s batches).1 l) (sym (same_area (log_end other s batches).0)) is.log_is.ends

-- it stands on the disk as before
pub other_stands : (log : Log) (view : GateView) (batches : List Batch) (d0 d1 : DiskState) → view.log ≢ log → ((c : Image) → d1.may_leave c → (x : Image) × d0.may_leave x × OnlyIn log x c) → StandsOn view batches d0 → StandsOn view batches d1
other_stands log view batches d0 d1 ne from stands = record {
  images = λ c now. let was = from c now in other_log log view.log ne was.0 c was.2 view.segment_size batches (stands.images was.0 was.1);
  gate = λ c now. let was = from c now in subst (λ (l : List ℕ). Waits view.gated view.place.1 l) (sym (same_area log view.log ne was.0 c was.2 view.place.0)) (stands.gate was.0 was.1);
  place = stands.place;
  places = stands.places;
  bytes = stands.bytes;
}
