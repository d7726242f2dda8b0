-- Records are taken as entries, or as outcomes, one after another; and when they aren't, nobody takes them.
use Rattle.std.proofs.Common.{◌≡◌, ◌↔◌, ℕ, Bool, true, false, Result, Ok, Err, ◌+◌, ◌≤◌, ◌<◌, List, [], ◌∷◌, ◌++◌, length, take, drop, map, get_or, Vec, refl, sym, ◌∙◌, ap, subst, arith, append_assoc, length-append, length-take}
use Rattle.std.specs.declared.alloc.Global.{Global}
use Rattle.std.specs.Bool.{IsTrue}
use Rattle.std.specs.List.{All}
use Rattle.std.proofs.lemmas.List.{map-append, take_more, take-map, length-map, get_or-map, get_or-append-add, take_all}
use Rattle.std.proofs.lemmas.List.Elements.{All-head, All-tail, All-take}
use Rattle.std.proofs.lemmas.Option.{slice_get-get_or}
use Rattle.std.proofs.Math.Seq.{take-append-add}
use Rattle.gl_gatelog.specs.View.{batch_of}
use Rattle.gl_fields.specs.declared.entry.Entry.{Entry}
use Rattle.gl_fields.specs.declared.entry.Entry.TheVariants.{Admin, Message}
use Rattle.gl_fields.specs.declared.entry.Outcome.{Outcome}
use Rattle.gl_fields.specs.Entries.{entry_bytes}
use Rattle.gl_fields.specs.Outcomes.{outcome_bytes}
use Rattle.gl_fields.specs.Bounds.{IsEntry, IsOutcome}
use Rattle.gl_fields.specs.Entries.{version_after}
use Rattle.gl_fields.specs.Units.{Answers}
use Rattle.gl_fields.specs.declared.decode.EntryRefusal.{EntryRefusal}
use Rattle.gl_fields.specs.declared.decode.EntryRefusal.TheVariants as refusals
use Rattle.gl_fields.proofs.ReadBack.{one_entry, one_outcome}
use Rattle.gl_node.specs.declared.config.Config.{Config}
use Rattle.gl_node.specs.Configuration.{config_after, config_at, initial_config}
use Rattle.gl_node.specs.Damage.{AreEntries, AreOutcomes}
use Rattle.gl_node.specs.Standing.{IsLawful, MayFollow}
use Rattle.gl_node.proofs.Adding.{lawful_more}
use Rattle.gl_node.proofs.Grants.{one_version}

pub entry_within : (before : List Entry) (entry : Entry) → MayFollow before entry → IsEntry entry
entry_within before (Admin command) follows = absurd follows
entry_within before (Message m) follows = follows.0

pub entries_within : (journal : List Entry) → IsLawful journal → All IsEntry journal
entries_within journal lawful k d lt = entry_within (take k journal) (get_or journal k d) (lawful k (get_or journal k d) (slice_get-get_or journal k d lt))

-- values whose bytes say them are those that the bytes say
module _ {X : Type 0} (bytes : X → List ℕ) (P : X → Type 0) (one : (a b : X) → P a → P b → bytes a ≡ bytes b → a ≡ b) where
  pub said : (xs ys : List X) → All P xs → All P ys → map bytes xs ≡ map bytes ys → xs ≡ ys
  said [] [] is_x is_y e = refl
  said [] (y ∷ ys) is_x is_y e = absurd (omega (arith, ap (λ l. length l) e))
  said (x ∷ xs) [] is_x is_y e = absurd (omega (arith, ap (λ l. length l) e))
  said (x ∷ xs) (y ∷ ys) is_x is_y e =
      let first : x ≡ y = one x y (All-head P x xs is_x) (All-head P y ys is_y) (ap (λ l. get_or l 0 []) e) in
      let rest : xs ≡ ys = said xs ys (All-tail P x xs is_x) (All-tail P y ys is_y) (ap (λ l. drop 1 l) e) in
      λ i. first i ∷ rest i

  -- in front of a record stand the values that were taken
  pub front_is : (taken whole : List X) (old records : List (List ℕ)) (k : ℕ) → All P taken → All P whole → k ≤ length records
      → map bytes taken ≡ old ++ take k records → old ++ records ≡ map bytes whole → take (length taken) whole ≡ taken
  front_is taken whole old records k is_taken is_whole within so_far all =
      said (take (length taken) whole) taken (All-take P (length taken) whole is_whole) is_taken
      (sym (take-map bytes (length taken) whole) ∙ ap (λ l. take (length taken) l) (sym all)
      ∙ ap (λ n. take n (old ++ records)) (count_is taken old records k within so_far)
      ∙ take-append-add old records k ∙ sym so_far)
    where
      count_is : (taken : List X) (old records : List (List ℕ)) (k : ℕ) → k ≤ length records → map bytes taken ≡ old ++ take k records → length taken ≡ length old + k
      count_is taken old records k within so_far = omega (
        arith,
        length-map taken bytes,
        ap (λ l. length l) so_far,
        length-append old (take k records),
        length-take k records,
        within,
      )

  pub there_is : (taken whole : List X) (old records : List (List ℕ)) (k : ℕ) (d : X) → k < length records
      → map bytes taken ≡ old ++ take k records → old ++ records ≡ map bytes whole
      → (length taken < length whole) × (get_or records k [] ≡ bytes (get_or whole (length taken) d))
  there_is taken whole old records k d lt so_far all =
      let count_is : length taken ≡ length old + k = omega (
        arith,
        length-map taken bytes,
        ap (λ l. length l) so_far,
        length-append old (take k records),
        length-take k records,
        lt,
      ) in
      let inside : length taken < length whole = omega (arith, count_is, lt, length-append old records, ap (λ l. length l) all, length-map whole bytes) in (
        inside,
        sym (get_or-append-add old records k []) ∙ ap (λ n. get_or (old ++ records) n []) (sym count_is)
            ∙ ap (λ l. get_or l (length taken) []) all ∙ get_or-map bytes whole (length taken) d [] inside,
      )

pub one_more : {X : Type 0} (bytes : X → List ℕ) (taken : List X) (old records : List (List ℕ)) (k : ℕ) (x : X) → k < length records → map bytes taken ≡ old ++ take k records → get_or records k [] ≡ bytes x
    → map bytes (taken ++ x ∷ []) ≡ old ++ take (k + 1) records
one_more bytes taken old records k x lt so_far is =
    map-append bytes taken (x ∷ [])
    ∙ ap (λ l. l ++ bytes x ∷ []) so_far
    ∙ append_assoc old (take k records) (bytes x ∷ [])
    ∙ ap (λ l. old ++ (take k records ++ l ∷ [])) (sym is)
    ∙ ap (λ l. old ++ l) (sym (take_more records k [] lt))

-- a record that isn't the bytes of an entry that may follow
pub no_entries : (taken : List Entry) (old records : List (List ℕ)) (k : ℕ) → k < length records → map entry_bytes taken ≡ old ++ take k records → IsLawful taken
    → ((e : Entry) → get_or records k [] ≡ entry_bytes e → MayFollow taken e → ⊥) → AreEntries (old ++ records) → ⊥
no_entries taken old records k lt so_far lawful refused are =
    let whole : List Entry = are.0 in
    let d : Entry = get_or whole 0 (Admin []) in
    let there = there_is entry_bytes IsEntry one_entry taken whole old records k d lt so_far are.1 in
    let front : take (length taken) whole ≡ taken = front_is entry_bytes IsEntry one_entry taken whole old records k
    (entries_within taken lawful) (entries_within whole are.2) (omega (arith, lt)) so_far are.1 in
    refused (get_or whole (length taken) d) there.1
    (subst (λ (before : List Entry). MayFollow before (get_or whole (length taken) d)) front
    (are.2 (length taken) (get_or whole (length taken) d) (slice_get-get_or whole (length taken) d there.0)))

-- a record that isn't the bytes of an outcome, or has no entry
pub no_outcomes : (entries : ℕ) (taken : List Outcome) (old records : List (List ℕ)) (k : ℕ) (d : Outcome) → k < length records → map outcome_bytes taken ≡ old ++ take k records
    → ((o : Outcome) → get_or records k [] ≡ outcome_bytes o → IsOutcome o → length taken < entries → ⊥) → AreOutcomes entries (old ++ records) → ⊥
no_outcomes entries taken old records k d lt so_far refused are =
    let there = there_is outcome_bytes IsOutcome one_outcome taken are.0 old records k d lt so_far are.1 in
    refused (get_or are.0 (length taken) d) there.1 (are.2 (length taken) d there.0) (omega (arith, there.0, are.3))

pub lawful_taken : (taken : List Entry) (entry : Entry) → IsLawful taken → MayFollow taken entry → IsLawful (taken ++ entry ∷ [])
lawful_taken = lawful_more

-- the record at hand
pub at_hand : (records : List (Vec ℕ Global)) (k : ℕ) (record_at : Vec ℕ Global) → k < length records → record_at ≡ get_or records k record_at → get_or (batch_of records) k [] ≡ record_at.items
at_hand records k record_at lt is = get_or-map (λ (v : Vec ℕ Global). v.items) records k record_at [] lt ∙ ap (λ (v : Vec ℕ Global). v.items) (sym is)

-- a lawful journal has no commands, so its configuration is the first one
pub first_config : (journal : List Entry) → IsLawful journal → config_after journal ≡ initial_config
first_config journal lawful = ap (λ v. config_at journal v)
    (subst (λ (es : List Entry). version_after es ≡ 0) (take_all (length journal) journal (omega arith)) (one_version journal lawful (length journal)))

-- an entry that was read and may not follow
pub not_follows : (taken : List Entry) (config : Config) (entry e : Entry) (bytes : List ℕ) (b : Bool) → IsLawful taken → config ≡ initial_config → b ≡ false
    → ((before : List Entry) → config ≡ config_after before → IsTrue b ↔ MayFollow before entry) → IsEntry entry → bytes ≡ entry_bytes entry
    → bytes ≡ entry_bytes e → MayFollow taken e → ⊥
not_follows taken config entry e bytes b lawful first no_way decides within found is follows =
    let same : e ≡ entry = one_entry e entry (entry_within taken e follows) within (sym is ∙ found) in
    let yes : IsTrue false = subst IsTrue no_way ((decides taken (first ∙ sym (first_config taken lawful))).1 (subst (λ (x : Entry). MayFollow taken x) same follows)) in
    cc yes

-- and one that may
pub does_follow : (taken : List Entry) (config : Config) (entry : Entry) (b : Bool) → IsLawful taken → config ≡ initial_config → b ≡ true
    → ((before : List Entry) → config ≡ config_after before → IsTrue b ↔ MayFollow before entry) → MayFollow taken entry
does_follow taken config entry b lawful first yes_way decides =
    (decides taken (first ∙ sym (first_config taken lawful))).0 (subst IsTrue (sym yes_way) refl)

pub no_entry : (e : Entry) (r : Result Entry EntryRefusal) (at : ℕ) → r ≡ Err (refusals.NotAnEntry at) → Answers r (Ok e) → ⊥
no_entry e r at is answers = cc (subst (λ (x : Result Entry EntryRefusal). Answers x (Ok e)) is answers)

pub no_outcome : (o : Outcome) (r : Result Outcome EntryRefusal) (at : ℕ) → r ≡ Err (refusals.NotAnEntry at) → Answers r (Ok o) → ⊥
no_outcome o r at is answers = cc (subst (λ (x : Result Outcome EntryRefusal). Answers x (Ok o)) is answers)
