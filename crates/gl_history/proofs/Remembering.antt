-- What a history remembers, one entry on.
use Rattle.std.proofs.Common.{◌≡◌, ℕ, zero, suc, ◌+◌, ◌-◌, ◌<◌, ◌≤◌, List, [], ◌∷◌, ◌++◌, length, take, drop, get_or, map, max, nat_lt, refl, sym, ap, ◌∙◌, subst, arith}
use Rattle.std.specs.List.{fold, prefix_len, range_with_len}
use Rattle.std.proofs.lemmas.List.{append-nil}
use Rattle.std.proofs.lemmas.List.Concat.{flat_map-append}
use Rattle.std.proofs.lemmas.List.FromFn.{map-range_with_len_more, get_or-map-range_with_len, length-map-range_with_len}
use Rattle.gl_fields.specs.declared.entry.Entry.{Entry}
use Rattle.gl_fields.specs.declared.entry.Entry.TheVariants.{Admin, Message}
use Rattle.gl_fields.specs.declared.entry.Message.{Message as Payload}
use Rattle.gl_fields.specs.Entries.{version_after}
use Rattle.gl_settings.specs.Settings.{Settings, initial_settings}
use Rattle.gl_history.specs.Versions.{commands_of, command_of_entry, after_command, config_at, config_after, version_at}
use Rattle.gl_history.specs.History.{Kept, Remembers, versions_from, streams_at}
use Rattle.gl_history.proofs.Journals.{version_append, versions_stay}
use Rattle.gl_history.proofs.Positions.{positions_message, positions_command, commands_before}

-- a message changes nothing

same_version : (journal : List Entry) (m : Payload) → version_after (journal ++ Message m ∷ []) ≡ version_after journal
same_version journal m = version_append journal (Message m ∷ []) ∙ (omega arith)

same_config : (journal : List Entry) (m : Payload) (version : ℕ) → config_at (journal ++ Message m ∷ []) version ≡ config_at journal version
unfolding config_at
same_config journal m version =
    ap (λ (texts : List (List ℕ)). fold after_command initial_settings (take version texts))
    (flat_map-append command_of_entry journal (Message m ∷ []) ∙ append-nil (commands_of journal))

same_configs : (journal : List Entry) (m : Payload) → config_at (journal ++ Message m ∷ []) ≡ config_at journal
same_configs journal m = λ i version. same_config journal m version i

same_versions : (journal : List Entry) (m : Payload) (from : ℕ) → versions_from from (journal ++ Message m ∷ []) ≡ versions_from from journal
same_versions journal m from = ap (λ n. range_with_len from (n + 1 - from)) (same_version journal m)

pub remembers_message : (kept : Kept) (journal : List Entry) (from : ℕ) (m : Payload) → Remembers kept journal from → Remembers kept (journal ++ Message m ∷ []) from
remembers_message kept journal from m r = record {
  begins = r.begins;
  known = omega (arith, r.known, same_version journal m);
  configs = r.configs ∙ sym (λ i. map (same_configs journal m i) (same_versions journal m from i));
  commands = r.commands ∙ sym (positions_message 0 journal m);
  counts = r.counts ∙ sym (λ i. map (λ version. length (same_configs journal m i version).streams) (same_versions journal m 0 i));
}

-- a command is one version more

next_version : (journal : List Entry) (text : List ℕ) → version_after (journal ++ Admin text ∷ []) ≡ version_after journal + 1
next_version journal text = version_append journal (Admin text ∷ [])

agree : {X : Type 0} (f g : ℕ → X) (a n : ℕ) → ((v : ℕ) → a ≤ v → v < a + n → f v ≡ g v) → map f (range_with_len a n) ≡ map g (range_with_len a n)
agree f g a zero same = refl
agree f g a (suc n) same =
    λ i. same a (omega arith) (omega arith) i ∷ agree f g (a + 1) n (λ v from within. same v (omega (arith, from)) (omega (arith, within))) i

one_more : {X : Type 0} (f : List Entry → ℕ → X) (stay : (journal more : List Entry) (v : ℕ) → v ≤ version_after journal → f (journal ++ more) v ≡ f journal v)
    (journal : List Entry) (text : List ℕ) (from : ℕ) → from ≤ version_after journal
    → map (f (journal ++ Admin text ∷ [])) (versions_from from (journal ++ Admin text ∷ []))
    ≡ map (f journal) (versions_from from journal) ++ f (journal ++ Admin text ∷ []) (version_after (journal ++ Admin text ∷ [])) ∷ []
one_more f stay journal text from known =
    let next = journal ++ Admin text ∷ [] in
    let count : version_after next + 1 - from ≡ (version_after journal + 1 - from) + 1 = omega (arith, known, next_version journal text) in
    ap (λ n. map (f next) (range_with_len from n)) count
    ∙ map-range_with_len_more (f next) from (version_after journal + 1 - from) (version_after next) (omega (arith, known, next_version journal text))
    ∙ ap (λ (xs : List _). xs ++ f next (version_after next) ∷ [])
    (agree (f next) (f journal) from (version_after journal + 1 - from) (λ v a within. stay journal (Admin text ∷ []) v (omega (arith, within, known))))

streams_stay : (journal more : List Entry) (version : ℕ) → version ≤ version_after journal → streams_at (journal ++ more) version ≡ streams_at journal version
streams_stay journal more version le = ap (λ (c : Settings). length c.streams) (versions_stay journal more version le)

pub remembers_command : (kept next : Kept) (journal : List Entry) (text : List ℕ) (from position : ℕ) (config : Settings) → Remembers kept journal from
    → position ≡ length journal → config ≡ config_after (journal ++ Admin text ∷ [])
    → next.from ≡ kept.from → next.configs ≡ kept.configs ++ config ∷ [] → next.commands ≡ kept.commands ++ position ∷ [] → next.counts ≡ kept.counts ++ length config.streams ∷ []
    → Remembers next (journal ++ Admin text ∷ []) from
remembers_command kept next journal text from position config r at is begins configs commands counts = record {
  begins = begins ∙ r.begins;
  known = omega (arith, r.known, next_version journal text);
  configs = configs ∙ (λ i. r.configs i ++ is i ∷ []) ∙ sym (one_more config_at versions_stay journal text from r.known);
  commands = commands ∙ (λ i. r.commands i ++ position ∷ []) ∙ sym (positions_command 0 journal text position (omega (arith, at)));
  counts = counts ∙ (λ i. r.counts i ++ length (is i).streams ∷ []) ∙ sym (one_more streams_at streams_stay journal text 0 (omega arith));
}

-- what is remembered of a version

pub config_there : (kept : Kept) (journal : List Entry) (from version : ℕ) (d : Settings) → Remembers kept journal from → kept.from ≤ version → version < kept.from + length kept.configs
    → get_or kept.configs (version - kept.from) d ≡ config_at journal version
config_there kept journal from version d r low high =
    let count : length kept.configs ≡ version_after journal + 1 - from = ap length r.configs ∙ length-map-range_with_len (config_at journal) from (version_after journal + 1 - from) in
    ap (λ (cs : List Settings). get_or cs (version - kept.from) d) r.configs
    ∙ get_or-map-range_with_len (config_at journal) from (version_after journal + 1 - from) (version - kept.from) version d
    (omega (arith, count, low, high, r.begins)) (omega (arith, low, r.begins))

pub streams_there : (kept : Kept) (journal : List Entry) (from version : ℕ) (d : ℕ) → Remembers kept journal from → version < length kept.counts
    → get_or kept.counts version d ≡ streams_at journal version
streams_there kept journal from version d r high =
    let count : length kept.counts ≡ version_after journal + 1 - 0 = ap length r.counts ∙ length-map-range_with_len (streams_at journal) 0 (version_after journal + 1 - 0) in
    ap (λ (cs : List ℕ). get_or cs version d) r.counts
    ∙ get_or-map-range_with_len (streams_at journal) 0 (version_after journal + 1 - 0) version version d
    (omega (arith, count, high)) (omega arith)

pub present_there : (kept : Kept) (journal : List Entry) (from : ℕ) (d : Settings) → Remembers kept journal from
    → get_or kept.configs (length kept.configs - 1) d ≡ config_after journal
present_there kept journal from d r =
    let count : length kept.configs ≡ version_after journal + 1 - from = ap length r.configs ∙ length-map-range_with_len (config_at journal) from (version_after journal + 1 - from) in
    let at : length kept.configs - 1 ≡ version_after journal - kept.from = omega (arith, count, r.begins, r.known) in
    ap (λ n. get_or kept.configs n d) at
    ∙ config_there kept journal from (version_after journal) d r (omega (arith, r.begins, r.known)) (omega (arith, count, r.begins, r.known))

pub version_there : (kept : Kept) (journal : List Entry) (from position : ℕ) → Remembers kept journal from
    → prefix_len (λ (c : ℕ). nat_lt c position) kept.commands ≡ version_at journal position
version_there kept journal from position r =
    let all : position - 0 ≡ position = omega arith in
    ap (prefix_len (λ (c : ℕ). nat_lt c position)) r.commands
    ∙ commands_before 0 position journal
    ∙ ap (λ n. version_after (take n journal)) all

-- a new store's journal

pub remembers_none : (kept : Kept) (config : Settings) → config ≡ initial_settings → kept.from ≡ 0 → kept.configs ≡ config ∷ [] → kept.commands ≡ []
    → kept.counts ≡ length config.streams ∷ [] → Remembers kept [] 0
unfolding config_at
remembers_none kept config is begins configs commands counts = record {
  begins = begins;
  known = omega arith;
  configs = configs ∙ ap (λ (c : Settings). c ∷ []) is;
  commands = commands;
  counts = counts ∙ ap (λ (c : Settings). length c.streams ∷ []) is;
}

-- a later first version

drop_range : {X : Type 0} (f : ℕ → X) (a n k : ℕ) → n ≤ k → drop n (map f (range_with_len a k)) ≡ map f (range_with_len (a + n) (k - n))
drop_range f a zero k le =
    let here : a ≡ a + 0 = omega arith in
    let all : k ≡ k - 0 = omega arith in
    λ i. map f (range_with_len (here i) (all i))
drop_range f a (suc n) zero le = absurd (omega (arith, le))
drop_range f a (suc n) (suc k) le =
    let there : (a + 1) + n ≡ a + suc n = omega arith in
    let left : k - n ≡ suc k - suc n = omega arith in
    drop_range f (a + 1) n k (omega (arith, le)) ∙ (λ i. map f (range_with_len (there i) (left i)))

pub remembers_later : (kept next : Kept) (journal : List Entry) (from version : ℕ) → Remembers kept journal from → kept.from < version → version < kept.from + length kept.configs
    → next.from ≡ version → next.configs ≡ drop (version - kept.from) kept.configs → next.commands ≡ kept.commands → next.counts ≡ kept.counts
    → Remembers next journal (max from version)
remembers_later kept next journal from version r low high begins configs commands counts =
    let count : length kept.configs ≡ version_after journal + 1 - from = ap length r.configs ∙ length-map-range_with_len (config_at journal) from (version_after journal + 1 - from) in
    let later : version ≡ max from version = omega (arith, low, r.begins) in
    let first : from + (version - kept.from) ≡ version = omega (arith, low, r.begins) in
    let left : (version_after journal + 1 - from) - (version - kept.from) ≡ version_after journal + 1 - version = omega (arith, low, r.begins) in
    subst (λ (n : ℕ). Remembers next journal n) later (record {
      begins = begins;
      known = omega (arith, high, count, low, r.begins);
      configs = configs ∙ ap (drop (version - kept.from)) r.configs
          ∙ drop_range (config_at journal) from (version - kept.from) (version_after journal + 1 - from) (omega (arith, high, count, low, r.begins))
          ∙ (λ i. map (config_at journal) (range_with_len (first i) (left i)));
      commands = commands ∙ r.commands;
      counts = counts ∙ r.counts;
    })
