-- What a claim answers: the positions from `next` on are the free ones.
use Rattle.std.proofs.Common.{◌≡◌, ℕ, ◌+◌, ◌-◌, ◌<◌, ◌≤◌, ◌==◌, Bool, true, false, ◌&&◌, min, List, length, get_or, take, Some, None, refl, ◌∙◌, ap, arith, length-take}
use Rattle.std.specs.List.{All, prefix_len}
use Rattle.std.proofs.lemmas.List.Elements.{All-take}
use Rattle.std.proofs.lemmas.List.FromFn.{length-range_with_len}
use Rattle.std.proofs.lemmas.Option.{slice_get-get_or}
use Rattle.gl_base.proofs.Counting.{none_pass}
use Rattle.gl_base.proofs.Ranges.{find_in_range, find_none_in_range, prefix_of_range}
use Rattle.gl_fields.specs.declared.entry.Entry.{Entry}
use Rattle.gl_fields.specs.declared.entry.Entry.TheVariants.{Admin, Message}
use Rattle.gl_fields.specs.Entries.{is_admin, version_after}
use Rattle.gl_node.specs.declared.mark.Mark.{Mark}
use Rattle.gl_node.specs.declared.mark.Claim.{Claim}
use Rattle.gl_node.specs.State.{State, commit_count}
use Rattle.gl_node.specs.Claims.{is_free, positions, version_at, first_free, range_from, held_by, claim_answer, claim_unless, granted_from, Granted, Nothing, Busy}
use Rattle.gl_node.specs.Node.{AreTiled}
use Rattle.gl_node.specs.Standing.{IsLawful, MayFollow}
use Rattle.gl_node.proofs.Tiling.{free_from_next, taken_below_next}

no_command : (before : List Entry) (entry : Entry) → MayFollow before entry → is_admin entry ≡ false
no_command before (Admin command) may = absurd may
no_command before (Message m) may = refl

pub no_commands : (journal : List Entry) → IsLawful journal → All (λ (e : Entry). is_admin e ≡ false) journal
no_commands journal lawful k d lt = no_command (take k journal) (get_or journal k d) (lawful k (get_or journal k d) (slice_get-get_or journal k d lt))

-- a lawful journal has one version throughout
pub one_version : (journal : List Entry) → IsLawful journal → (k : ℕ) → version_after (take k journal) ≡ 0
one_version journal lawful k = none_pass is_admin (take k journal) (All-take (λ (e : Entry). is_admin e ≡ false) k journal (no_commands journal lawful))

module _ (s : State) (next : ℕ) (tiled : AreTiled s next) where
  pub no_position_free : next ≡ length s.journal → first_free s ≡ None
  no_position_free all = find_none_in_range (is_free s) (commit_count s) (length s.journal - commit_count s)
      (λ j low high. taken_below_next s next tiled j low (omega (arith, high, all, tiled.committed)))

  pub next_is_free : next < length s.journal → first_free s ≡ Some next
  next_is_free more = find_in_range (is_free s) (commit_count s) (length s.journal - commit_count s) next
      (λ j low high. taken_below_next s next tiled j low high) tiled.committed (omega (arith, more, tiled.committed)) (free_from_next s next tiled next (omega arith))

  pub range_from_next : IsLawful s.journal → (limit : ℕ) → range_from s limit next ≡ record { first = next; count = min limit (length s.journal - next) }
  range_from_next lawful limit =
      ap (λ (n : ℕ). let m : Mark = record { first = next; count = n } in m)
      (length-take limit (take (prefix_len passes (positions next (length s.journal))) (positions next (length s.journal)))
      ∙ ap (λ n. min limit n) (length-take (prefix_len passes (positions next (length s.journal))) (positions next (length s.journal))
      ∙ rw (prefix_of_range passes next (length s.journal - next) each, length-range_with_len next (length s.journal - next)) (same (length s.journal - next))))
    where
      passes : ℕ → Bool
      passes k = is_free s k && (version_at s k == version_at s next)

      each : (j : ℕ) → next ≤ j → j < next + (length s.journal - next) → (is_free s j && (version_at s j == version_at s next)) ≡ true
      each j low high = rw (free_from_next s next tiled j low, one_version s.journal lawful j, one_version s.journal lawful next) refl

      same : (n : ℕ) → min n n ≡ n
      same n = omega arith

  -- the three answers
  pub claim_busy : (worker limit : ℕ) (claim : Claim) → held_by s worker ≡ Some claim → claim_answer s worker limit ≡ Busy claim.mark
  claim_busy worker limit claim holds = ap (λ o. claim_unless s limit o) holds

  pub claim_nothing : (worker limit : ℕ) → held_by s worker ≡ None → next ≡ length s.journal → claim_answer s worker limit ≡ Nothing
  claim_nothing worker limit holds all = ap (λ o. claim_unless s limit o) holds ∙ ap (λ o. granted_from s limit o) (no_position_free all)

  pub claim_granted : (worker limit : ℕ) → held_by s worker ≡ None → IsLawful s.journal → next < length s.journal
      → claim_answer s worker limit ≡ Granted (record { first = next; count = min limit (length s.journal - next) })
  claim_granted worker limit holds lawful more =
      ap (λ o. claim_unless s limit o) holds ∙ ap (λ o. granted_from s limit o) (next_is_free more) ∙ ap (λ m. Granted m) (range_from_next lawful limit)
