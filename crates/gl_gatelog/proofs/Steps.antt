-- What the steps of a gate make of a log.
use Rattle.std.proofs.Common.{◌≡◌, ◌≢◌, inl, inr, ⊎_elim, ℕ, ◌+◌, ◌≤◌, ◌<◌, List, [], ◌∷◌, ◌++◌, length, take, drop, get_or, refl, sym, ◌∙◌, ap, subst, arith, length-append, Bool, true, false, if◌then◌else◌}
use Rattle.std.proofs.lemmas.List.{take-take, take_at, length-drop, length-take, get_or-take, get_or-drop, get_or_at}
use Rattle.gl_outside.specs.Disk.{Image}
use Rattle.gl_gatelog.specs.declared.kind.Log.{Log}
use Rattle.gl_gatelog.specs.Batch.{Batch, IsLawful, size, opened, behind_gate, staged}
use Rattle.gl_gatelog.specs.Gate.{IsClosed, StaysClosed, IsOpened, Waits}
use Rattle.gl_gatelog.specs.Log.{area_of, Place, behind_batch, next_segment, next, begin, log_end, end_area, LogAlone, same_segment}
use Rattle.gl_gatelog.proofs.Chain.{goes_within, end_within, apart, moved, end_snoc, holds_snoc, later}

pub length-staged : (batch : Batch) → length (staged batch) ≡ size batch
length-staged batch = omega (arith, length-append (behind_gate batch) (0 ∷ []))

long : (area : List ℕ) (at : ℕ) (bytes : List ℕ) → take (length bytes) (drop at area) ≡ bytes → 0 < length bytes → at + length bytes ≤ length area
long area at bytes e some = omega (arith, ap length e, length-take (length bytes) (drop at area), length-drop at area)

pub shut_or_none : (gated : Bool) (at : ℕ) (area : List ℕ) → Waits gated at area → IsClosed at area
shut_or_none true at area waits = inr waits.0
shut_or_none false at area waits = inl waits

module _ (log : Log) (s : ℕ) (batches : List Batch) (old new : Image) where
  e : Place
  e = log_end log s batches

  others : ((b : ℕ) → b ≢ end_area log s batches → new b ≡ old b) → (k : ℕ) → k ≢ (log_end log s batches).0 → new (area_of log k) ≡ old (area_of log k)
  others elsewhere k ne = elsewhere (area_of log k) (apart log k (log_end log s batches).0 ne)

  pub closed_log : LogAlone log s batches old → ((b : ℕ) → b ≢ end_area log s batches → new b ≡ old b)
      → StaysClosed (log_end log s batches).1 (old (end_area log s batches)) (new (end_area log s batches)) → LogAlone log s batches new
  closed_log is elsewhere stays = record {
    log_is = record {
      sized = is.log_is.sized;
      holds = moved log s old new (0, 0) (begin log s ∷ batches) (others elsewhere) stays.before
          (λ some. ⊎_elim (λ none. absurd (omega (arith, none.0, some))) (λ shut. shut.there) stays.closed) is.log_is.holds;
      ends = stays.closed;
    };
    behind = λ k lt le. others elsewhere k (omega arith) ∙ is.behind k lt le;
  }

  -- where the next batch would stand
  pub next_waits : (batch : Batch) → LogAlone log s batches old → ((b : ℕ) → b ≢ end_area log s batches → new b ≡ old b)
      → IsOpened (log_end log s batches).1 (staged batch) (old (end_area log s batches)) (new (end_area log s batches))
      → Waits (same_segment log s (behind_batch (log_end log s batches) batch)) (next log s (log_end log s batches) batch).1 (new (area_of log (next log s (log_end log s batches) batch).0))
  next_waits batch is elsewhere opens = at (same_segment log s (behind_batch (log_end log s batches) batch)) refl
    where
      fits : (log_end log s batches).1 + size batch < length (new (end_area log s batches))
      fits = omega (arith, long (new (end_area log s batches)) (log_end log s batches).1 (1 ∷ staged batch) opens.opened (omega arith), length-staged batch)

      gate : get_or (new (end_area log s batches)) ((log_end log s batches).1 + size batch) 0 ≡ 0
      gate =
          let x = drop (log_end log s batches).1 (new (end_area log s batches)) in
          sym (get_or-drop (log_end log s batches).1 (new (end_area log s batches)) (size batch) 0)
          ∙ sym (get_or-take (length (1 ∷ staged batch)) x (size batch) 0 (omega (arith, length-staged batch)))
          ∙ ap (λ (l : List ℕ). get_or l (size batch) 0) opens.opened
          ∙ get_or_at (opened batch) 0 [] 0 (size batch) (omega arith)

      at : (b : Bool) → same_segment log s (behind_batch (log_end log s batches) batch) ≡ b
          → Waits b (if b then behind_batch (log_end log s batches) batch else next_segment (log_end log s batches)).1 (new (area_of log (if b then behind_batch (log_end log s batches) batch else next_segment (log_end log s batches)).0))
      at true same = (record { there = fits; shut = λ is_one. absurd (omega (arith, gate, is_one)) }, omega (arith, fits))
      at false goes =
          let le = goes_within log s (log_end log s batches) batch (end_within log s batches) goes in
          (refl, omega (arith, ap length (others elsewhere ((log_end log s batches).0 + 1) (omega arith) ∙ is.behind ((log_end log s batches).0 + 1) (omega arith) le)))

  pub opened_log : (batch : Batch) → IsLawful batch → LogAlone log s batches old → ((b : ℕ) → b ≢ end_area log s batches → new b ≡ old b)
      → IsOpened (log_end log s batches).1 (staged batch) (old (end_area log s batches)) (new (end_area log s batches)) → LogAlone log s (batches ++ batch ∷ []) new
  opened_log batch lawful is elsewhere opens = record {
    log_is = record {
      sized = is.log_is.sized;
      holds = holds_snoc log s new (0, 0) (begin log s ∷ batches) batch
          (moved log s old new (0, 0) (begin log s ∷ batches) (others elsewhere) opens.before (λ some. omega (arith, fits)) is.log_is.holds)
          (record { lawful = lawful; bytes = there; followed = omega (arith, fits) });
      ends = subst (λ (p : Place). IsClosed p.1 (new (area_of log p.0))) (sym (end_snoc log s (0, 0) (begin log s ∷ batches) batch)) closed;
    };
    behind = λ k lt le.
        let past : (next log s (log_end log s batches) batch).0 < k = subst (λ (p : Place). p.0 < k) (end_snoc log s (0, 0) (begin log s ∷ batches) batch) lt in
        let on = (later log s (log_end log s batches) (batch ∷ [])).segment in
        others elsewhere k (omega (arith, past, on)) ∙ is.behind k (omega (arith, past, on)) le;
  }
    where
      area : List ℕ
      area = new (end_area log s batches)

      at : ℕ
      at = (log_end log s batches).1

      fits : (log_end log s batches).1 + size batch < length (new (end_area log s batches))
      fits = omega (arith, long (new (end_area log s batches)) (log_end log s batches).1 (1 ∷ staged batch) opens.opened (omega arith), length-staged batch)

      whole : 1 ∷ staged batch ≡ opened batch ++ 0 ∷ []
      whole = refl

      there : take (size batch) (drop (log_end log s batches).1 (new (end_area log s batches))) ≡ opened batch
      there =
          let x = drop (log_end log s batches).1 (new (end_area log s batches)) in
          sym (take-take (size batch) (length (1 ∷ staged batch)) x (omega (arith, length-staged batch)))
          ∙ ap (λ (l : List ℕ). take (size batch) l) opens.opened
          ∙ take_at (opened batch) (0 ∷ []) (size batch) (omega arith)

      closed : IsClosed (next log s (log_end log s batches) batch).1 (new (area_of log (next log s (log_end log s batches) batch).0))
      closed = shut_or_none (same_segment log s (behind_batch (log_end log s batches) batch)) _ _ (next_waits batch is elsewhere opens)
