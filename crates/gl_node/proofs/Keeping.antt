-- What a node keeps, after a claim and after work that came in.
use Rattle.std.proofs.Common.{◌≡◌, ℕ, ◌+◌, ◌-◌, ◌<◌, ◌≤◌, ◌==◌, [], ◌∷◌, ◌++◌, length, get_or, drop, map, find, min, Vec, vec_capacity, slice_range, Some, None, refl, sym, ◌∙◌, ap, subst, arith, length-take, length-drop}
use Rattle.std.specs.declared.alloc.Global.{Global}
use Rattle.std.specs.List.{All, remove, slice_get, position}
use Rattle.std.proofs.lemmas.List.{map-append, take_all}
use Rattle.std.proofs.lemmas.List.Edits.{length-remove}
use Rattle.std.proofs.lemmas.List.Elements.{All-push}
use Rattle.std.proofs.lemmas.Option.{get_or_from_slice_get, slice_get_within}
use Rattle.gl_base.proofs.Counting.{find_at_none, find_at_some}
use Rattle.gl_fields.specs.Entries.{version_after}
use Rattle.gl_node.specs.declared.answer.Claimed.{Claimed}
use Rattle.gl_node.specs.declared.mark.Mark.{Mark}
use Rattle.gl_node.specs.declared.mark.Claim.{Claim}
use Rattle.gl_node.specs.declared.node.Node.{Node}
use Rattle.gl_node.specs.declared.work.Work.{Work}
use Rattle.gl_node.specs.Configuration.{config_at}
use Rattle.gl_node.specs.State.{State, Claimed as Happened, CameIn, happened, state_after, without}
use Rattle.gl_node.specs.Calls.{claimed_of}
use Rattle.gl_node.specs.Claims.{ClaimAnswer, Granted, Nothing, Busy, range_of, mark_of, held_by, claim_answer, claimed_by, version_at}
use Rattle.gl_node.specs.Node.{AreTiled, Keeps}
use Rattle.gl_node.proofs.Grants.{one_version, claim_busy, claim_nothing, claim_granted}
use Rattle.gl_node.proofs.Tiling.{tiled_claimed, tiled_came, without_is, held_high}

-- the positions of what is given of a range are those of the range
pub mark_of_range : (s : State) (m : Mark) → m.first + m.count ≤ length s.journal → mark_of (range_of s m) ≡ m
mark_of_range s m fits =
    ap (λ (n : ℕ). let r : Mark = record { first = m.first; count = n } in r)
    (omega (arith, length-take (m.first + m.count - m.first) (drop m.first s.journal), length-drop m.first s.journal))

-- what the node's own fields say of a range
pub range_by_fields : (node : Node) (s : State) (m : Mark) → Keeps node s
    → record { first = m.first; config = node.config; entries = slice_range node.entries.items m.first (m.first + m.count) } ≡ range_of s m
range_by_fields node s m k = rw (k.entries, config_is) refl
  where
    config_is : node.config ≡ config_at s.journal (version_at s m.first)
    config_is = k.config ∙ ap (λ v. config_at s.journal v) (whole ∙ sym (one_version s.journal k.lawful m.first))
      where
        whole : version_after s.journal ≡ 0
        whole = subst (λ es. version_after es ≡ 0) (take_all (length s.journal) s.journal (omega arith)) (one_version s.journal k.lawful (length s.journal))

pub keeps_claimed : (node : Node) (s : State) (claim : Claim) (held : Vec Claim Global) (waiting : Vec Work Global) → Keeps node s
    → held.items ≡ node.held.items ++ claim ∷ [] → waiting.items ≡ node.waiting.items
    → length waiting.items + length held.items ≤ vec_capacity waiting
    → claim.mark.first ≡ node.next → 0 < claim.mark.count → claim.mark.count ≤ 256 → claim.mark.first + claim.mark.count ≤ length node.entries.items
    → find (λ (c : Claim). c.worker == claim.worker) node.held.items ≡ None
    → Keeps (record node { held = held; waiting = waiting; next = node.next + claim.mark.count }) (happened s (Happened claim))
keeps_claimed node s claim held waiting k held_is waiting_is room first some few within alone = record {
  entries = k.entries;
  outcomes_are = k.outcomes_are;
  config = k.config;
  tables = k.tables;
  lawful = k.lawful;
  bounded = k.bounded;
  committed = k.committed;
  held = held_is ∙ ap (λ l. l ++ claim ∷ []) k.held;
  waiting = ap (λ ws. map (λ (w : Work). mark_of w.range) ws) waiting_is ∙ k.waiting;
  ranges = subst (λ ws. All (λ (w : Work). w.range ≡ range_of s (mark_of w.range)) ws) (sym waiting_is) k.ranges;
  room = room;
  tiled = tiled_claimed s node.next k.tiled claim first some few
      (omega (arith, within, first, ap (λ es. length es) k.entries))
      (subst (λ cs. find (λ (c : Claim). c.worker == claim.worker) cs ≡ None) k.held alone);
  grown = k.grown;
  committed_lie = k.committed_lie;
  journal_log = k.journal_log;
  index_log = k.index_log;
  running = k.running;
}

pub keeps_came : (node : Node) (s : State) (i : ℕ) (claim : Claim) (work : Work) (held : Vec Claim Global) (waiting : Vec Work Global) → Keeps node s
    → slice_get node.held.items i ≡ Some claim → work.range ≡ range_of s claim.mark
    → held.items ≡ remove node.held.items i → waiting.items ≡ node.waiting.items ++ work ∷ []
    → length waiting.items ≡ length node.waiting.items + 1 → vec_capacity waiting ≡ vec_capacity node.waiting
    → Keeps (record node { held = held; waiting = waiting }) (happened s (CameIn claim))
keeps_came node s i claim work held waiting k there is_work held_is waiting_is more same_room = record {
  entries = k.entries;
  outcomes_are = k.outcomes_are;
  config = k.config;
  tables = k.tables;
  lawful = k.lawful;
  bounded = k.bounded;
  committed = k.committed;
  held = held_is ∙ ap (λ cs. remove cs i) k.held ∙ subst (λ (c : Claim). remove s.held i ≡ without c.worker s.held) at (sym (without_is s node.next k.tiled i claim lt));
  waiting = ap (λ ws. map (λ (w : Work). mark_of w.range) ws) waiting_is
      ∙ map-append (λ (w : Work). mark_of w.range) node.waiting.items (work ∷ [])
      ∙ ap (λ ms. ms ++ mark_of work.range ∷ []) k.waiting
      ∙ ap (λ m. s.waiting ++ m ∷ []) positions_are;
  ranges = subst (λ ws. All (λ (w : Work). w.range ≡ range_of s (mark_of w.range)) ws) (sym waiting_is)
      (All-push (λ (w : Work). w.range ≡ range_of s (mark_of w.range)) node.waiting.items work k.ranges (is_work ∙ ap (λ m. range_of s m) (sym positions_are)));
  room = omega (arith, k.room, more, same_room, ap (λ cs. length cs) held_is, length-remove node.held.items i lt_node);
  tiled = subst (λ (c : Claim). AreTiled (happened s (CameIn c)) node.next) at (tiled_came s node.next k.tiled i claim lt);
  grown = k.grown;
  committed_lie = k.committed_lie;
  journal_log = k.journal_log;
  index_log = k.index_log;
  running = k.running;
}
  where
    lt_node : i < length node.held.items
    lt_node = slice_get_within node.held.items i claim there

    lt : i < length s.held
    lt = subst (λ cs. i < length cs) k.held lt_node

    at : get_or s.held i claim ≡ claim
    at = subst (λ cs. get_or cs i claim ≡ claim) k.held (get_or_from_slice_get node.held.items i claim claim there)

    high : claim.mark.first + claim.mark.count ≤ node.next
    high = subst (λ (c : Claim). c.mark.first + c.mark.count ≤ node.next) at (held_high s node.next k.tiled i claim lt)

    positions_are : mark_of work.range ≡ claim.mark
    positions_are = ap (λ r. mark_of r) is_work ∙ mark_of_range s claim.mark (omega (arith, high, k.tiled.within))

-- the three answers of a claim
pub answered : (s : State) (worker limit : ℕ) (a : ClaimAnswer) (claimed : Claimed) (node : Node) → claim_answer s worker limit ≡ a → claimed ≡ claimed_of s a
    → Keeps node (state_after s (claimed_by worker a)) → (claimed ≡ claimed_of s (claim_answer s worker limit)) × Keeps node (state_after s (claimed_by worker (claim_answer s worker limit)))
answered s worker limit a claimed node is answer keeps =
    subst (λ (b : ClaimAnswer). (claimed ≡ claimed_of s b) × Keeps node (state_after s (claimed_by worker b))) (sym is) (answer, keeps)

module _ (node : Node) (s : State) (worker limit : ℕ) (k : Keeps node s) where
  pub none_held : position (λ (c : Claim). c.worker == worker) node.held.items ≡ None → held_by s worker ≡ None
  none_held none = subst (λ cs. find (λ (c : Claim). c.worker == worker) cs ≡ None) k.held (find_at_none (λ (c : Claim). c.worker == worker) node.held.items none)

  pub one_held : (at : ℕ) (claim : Claim) → position (λ (c : Claim). c.worker == worker) node.held.items ≡ Some at → claim ≡ get_or node.held.items at claim → held_by s worker ≡ Some claim
  one_held at claim there is =
      subst (λ cs. find (λ (c : Claim). c.worker == worker) cs ≡ Some claim) k.held
      ((find_at_some (λ (c : Claim). c.worker == worker) node.held.items at claim there).2 ∙ ap (λ c. Some c) (sym is))

  pub is_busy : (at : ℕ) (claim : Claim) → position (λ (c : Claim). c.worker == worker) node.held.items ≡ Some at → claim ≡ get_or node.held.items at claim
      → claim_answer s worker limit ≡ Busy claim.mark
  is_busy at claim there is = claim_busy s node.next k.tiled worker limit claim (one_held at claim there is)

  pub is_nothing : position (λ (c : Claim). c.worker == worker) node.held.items ≡ None → length node.entries.items - node.next ≡ 0 → claim_answer s worker limit ≡ Nothing
  is_nothing none all = claim_nothing s node.next k.tiled worker limit (none_held none) (omega (arith, k.tiled.within, all, ap (λ es. length es) k.entries))

  pub is_granted : position (λ (c : Claim). c.worker == worker) node.held.items ≡ None → (length node.entries.items - node.next ≡ 0 → ⊥)
      → claim_answer s worker limit ≡ Granted (record { first = node.next; count = min (length node.entries.items - node.next) limit })
  is_granted none more = claim_granted s node.next k.tiled worker limit (none_held none) k.lawful (omega (arith, k.tiled.within, more, ap (λ es. length es) k.entries))
      ∙ ap (λ (n : ℕ). let a : ClaimAnswer = Granted (record { first = node.next; count = n }) in a) (omega (arith, ap (λ es. length es) k.entries))
