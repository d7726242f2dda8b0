-- The chunk tables of a node's inputs, and what a datagram makes of them.
use Rattle.std.proofs.Common.{◌≡◌, ◌≢◌, ℕ, zero, suc, ◌-◌, ◌/◌, ◌<◌, ◌==◌, Bool, true, false, cond, List, [], ◌∷◌, ◌++◌, length, get_or, map, filter, Vec, Some, refl, sym, ◌∙◌, ap, subst, append-nil}
use Rattle.std.specs.declared.alloc.Global.{Global}
use Rattle.std.specs.List.{All, position, slice_get}
use Rattle.std.specs.Str.{bytes_eq}
use Rattle.std.proofs.Math.ListN.{set}
use Rattle.std.proofs.lemmas.Bool.Decides.{Decides-eqb, not_from_Decides}
use Rattle.std.proofs.lemmas.List.{length-set, get_or-set_same, get_or-set_other, map-append}
use Rattle.std.proofs.lemmas.List.Elements.{filter-append}
use Rattle.std.proofs.lemmas.Option.{same_Some, get_or_from_slice_get, slice_get_within, slice_get-get_or}
use Rattle.std.proofs.lemmas.Slice.Eq.{bytes_eq-Decides}
use Rattle.gl_base.proofs.Counting.{find_at_some}
use Rattle.gl_chunks.specs.declared.chunks.Chunks.{Chunks}
use Rattle.gl_chunks.specs.Chunks.{StandsFor}
use Rattle.gl_node.specs.declared.config.Input.{Input}
use Rattle.gl_node.specs.declared.config.Config.{Config}
use Rattle.gl_node.specs.declared.node.Node.{Node}
use Rattle.gl_node.specs.Arrivals.{datagram_of, sent_to}
use Rattle.gl_node.specs.Configuration.{initial_config}
use Rattle.gl_node.specs.Node.{AreTables, AreTiled, Keeps}
use Rattle.gl_node.specs.State.{Datagram, State, Received, happened}

-- ---- the datagrams that came to an input, with one more

abbrev as_pair : Datagram → ℕ × List ℕ
as_pair d = (d.moment, d.bytes)

sent_more : (name : List ℕ) (datagrams : List Datagram) (d : Datagram) → sent_to name (datagrams ++ d ∷ []) ≡ sent_to name datagrams ++ sent_to name (d ∷ [])
sent_more name datagrams d =
    ap (λ (ds : List Datagram). map as_pair ds) (filter-append (λ (x : Datagram). bytes_eq x.input name) datagrams (d ∷ []))
    ∙ map-append as_pair (filter (λ (x : Datagram). bytes_eq x.input name) datagrams) (filter (λ (x : Datagram). bytes_eq x.input name) (d ∷ []))

sent_here : (name : List ℕ) (datagrams : List Datagram) (d : Datagram) → bytes_eq d.input name ≡ true → sent_to name (datagrams ++ d ∷ []) ≡ sent_to name datagrams ++ (d.moment, d.bytes) ∷ []
sent_here name datagrams d here = sent_more name datagrams d ∙ ap (λ (b : Bool). sent_to name datagrams ++ map as_pair (cond b (d ∷ []) [])) here

sent_elsewhere : (name : List ℕ) (datagrams : List Datagram) (d : Datagram) → bytes_eq d.input name ≡ false → sent_to name (datagrams ++ d ∷ []) ≡ sent_to name datagrams
sent_elsewhere name datagrams d elsewhere =
    sent_more name datagrams d ∙ ap (λ (b : Bool). sent_to name datagrams ++ map as_pair (cond b (d ∷ []) [])) elsewhere ∙ append-nil (sent_to name datagrams)

-- ---- no two inputs have one name

abbrev AreApart : List Input → Type 0
AreApart inputs = (j k : ℕ) (a b : Input) → slice_get inputs j ≡ Some a → slice_get inputs k ≡ Some b → a.name ≡ b.name → j ≡ k

-- the names of the initial inputs have three, four and six letters
by_length : (j : ℕ) (a : Input) → slice_get initial_config.inputs j ≡ Some a → j ≡ length a.name / 2 - 1
by_length zero a is = ap (λ (i : Input). length i.name / 2 - 1) (same_Some _ a is)
by_length (suc zero) a is = ap (λ (i : Input). length i.name / 2 - 1) (same_Some _ a is)
by_length (suc (suc zero)) a is = ap (λ (i : Input). length i.name / 2 - 1) (same_Some _ a is)
by_length (suc (suc (suc j))) a is = absurd (cc is)

initial_apart : AreApart initial_config.inputs
initial_apart j k a b is_a is_b same = by_length j a is_a ∙ ap (λ (name : List ℕ). length name / 2 - 1) same ∙ sym (by_length k b is_b)

-- ---- one table is set, and each stands for what came to its input

module _ (tables : List Chunks) (inputs : List Input) (before now : List Datagram) (are : AreTables tables inputs before) (k : ℕ) (table : Chunks)
    (here : (input : Input) → slice_get inputs k ≡ Some input → StandsFor table (sent_to input.name now))
    (elsewhere : (j : ℕ) (input : Input) → j ≢ k → slice_get inputs j ≡ Some input → sent_to input.name now ≡ sent_to input.name before) where
  set_here : (t : Chunks) (input : Input) → slice_get (set tables k table) k ≡ Some t → slice_get inputs k ≡ Some input → StandsFor t (sent_to input.name now)
  set_here t input is_t is_input =
      let lt : k < length tables = subst (λ (n : ℕ). k < n) (length-set tables k table) (slice_get_within (set tables k table) k t is_t) in
      let same : table ≡ t = sym (get_or-set_same tables k table table lt) ∙ get_or_from_slice_get (set tables k table) k t table is_t in
      subst (λ (x : Chunks). StandsFor x (sent_to input.name now)) same (here input is_input)

  set_elsewhere : (j : ℕ) (t : Chunks) (input : Input) → j ≢ k → slice_get (set tables k table) j ≡ Some t → slice_get inputs j ≡ Some input → StandsFor t (sent_to input.name now)
  set_elsewhere j t input other is_t is_input =
      let lt : j < length tables = subst (λ (n : ℕ). j < n) (length-set tables k table) (slice_get_within (set tables k table) j t is_t) in
      let was : slice_get tables j ≡ Some t =
      slice_get-get_or tables j t lt ∙ ap (λ (x : Chunks). Some x) (sym (get_or-set_other tables k j table t other) ∙ get_or_from_slice_get (set tables k table) j t t is_t) in
      subst (λ (l : List (ℕ × List ℕ)). StandsFor t l) (sym (elsewhere j input other is_input)) (are.stand j t input was is_input)

  are_set : AreTables (set tables k table) inputs now
  are_set = record { each = length-set tables k table ∙ are.each; stand = λ j t input is_t is_input. by (j == k) j t input refl is_t is_input }
    where
      by : (b : Bool) (j : ℕ) (t : Chunks) (input : Input) → (j == k) ≡ b → slice_get (set tables k table) j ≡ Some t → slice_get inputs j ≡ Some input → StandsFor t (sent_to input.name now)
      by true j t input same is_t is_input =
          let at : j ≡ k = (Decides-eqb j k).0 same in
          set_here t input (subst (λ (n : ℕ). slice_get (set tables k table) n ≡ Some t) at is_t) (subst (λ (n : ℕ). slice_get inputs n ≡ Some input) at is_input)
      by false j t input other is_t is_input = set_elsewhere j t input (not_from_Decides (j == k) (Decides-eqb j k) other) is_t is_input

-- ---- the table of an input in a node

tiled_received : (s : State) (next : ℕ) (d : Datagram) → AreTiled s next → AreTiled (happened s (Received d)) next
tiled_received s next d tiled = record {
  committed = tiled.committed;
  within = tiled.within;
  once = tiled.once;
  held_sized = tiled.held_sized;
  waiting_sized = tiled.waiting_sized;
  workers = tiled.workers;
}

module _ (node : Node) (input : List ℕ) (k : ℕ) (known : Input) (there : position (λ (i : Input). bytes_eq input i.name) node.config.inputs ≡ Some k) (is : known ≡ get_or node.config.inputs k known)
    (old : Chunks) (is_old : old ≡ get_or node.tables.items k old) (s : State) (keeps : Keeps node s) where
  known_there : slice_get initial_config.inputs k ≡ Some known
  known_there = subst (λ (c : Config). slice_get c.inputs k ≡ Some known) keeps.config
      (slice_get-get_or node.config.inputs k known (find_at_some (λ (i : Input). bytes_eq input i.name) node.config.inputs k known there).0 ∙ ap (λ (i : Input). Some i) (sym is))

  named : input ≡ known.name
  named = (bytes_eq-Decides input known.name).0
      (ap (λ (i : Input). bytes_eq input i.name) is ∙ (find_at_some (λ (i : Input). bytes_eq input i.name) node.config.inputs k known there).1)

  its_name : (i : Input) → slice_get initial_config.inputs k ≡ Some i → i.name ≡ input
  its_name i is_i = ap (λ (x : Input). x.name) (same_Some i known (sym is_i ∙ known_there)) ∙ sym named

  -- what it stood for
  pub stood : StandsFor old (sent_to input s.datagrams)
  stood = subst (λ (name : List ℕ). StandsFor old (sent_to name s.datagrams)) (sym named)
      (keeps.tables.stand k old known (slice_get-get_or node.tables.items k old lt ∙ ap (λ (x : Chunks). Some x) (sym is_old)) known_there)
    where
      lt : k < length node.tables.items
      lt = subst (λ (n : ℕ). k < n) (sym keeps.tables.each) (slice_get_within initial_config.inputs k known known_there)

  module _ (table : Chunks) (tables : Vec Chunks Global) (tables_are : tables.items ≡ set node.tables.items k table) where
    -- it stands for the same as before
    pub keeps_refused : ((list : List (ℕ × List ℕ)) → StandsFor old list → StandsFor table list) → Keeps (record node { tables = tables }) s
    keeps_refused same = record {
      entries = keeps.entries;
      outcomes_are = keeps.outcomes_are;
      config = keeps.config;
      tables = subst (λ (ts : List Chunks). AreTables ts initial_config.inputs s.datagrams) (sym tables_are)
          (are_set node.tables.items initial_config.inputs s.datagrams s.datagrams keeps.tables k table
          (λ i is_i. subst (λ (name : List ℕ). StandsFor table (sent_to name s.datagrams)) (sym (its_name i is_i)) (same (sent_to input s.datagrams) stood)) (λ j i other is_i. refl));
      lawful = keeps.lawful;
      bounded = keeps.bounded;
      committed = keeps.committed;
      held = keeps.held;
      waiting = keeps.waiting;
      ranges = keeps.ranges;
      room = keeps.room;
      tiled = keeps.tiled;
      grown = keeps.grown;
      committed_lie = keeps.committed_lie;
      journal_log = keeps.journal_log;
      index_log = keeps.index_log;
      running = keeps.running;
    }

    -- it stands for one datagram more
    pub keeps_received : (moment : ℕ) (bytes : List ℕ) → StandsFor table (sent_to input s.datagrams ++ (moment, bytes) ∷ [])
        → Keeps (record node { tables = tables }) (happened s (Received (datagram_of moment input bytes)))
    keeps_received moment bytes stands = record {
      entries = keeps.entries;
      outcomes_are = keeps.outcomes_are;
      config = keeps.config;
      tables = subst (λ (ts : List Chunks). AreTables ts initial_config.inputs (s.datagrams ++ d ∷ [])) (sym tables_are)
          (are_set node.tables.items initial_config.inputs s.datagrams (s.datagrams ++ d ∷ []) keeps.tables k table here elsewhere);
      lawful = keeps.lawful;
      bounded = keeps.bounded;
      committed = keeps.committed;
      held = keeps.held;
      waiting = keeps.waiting;
      ranges = keeps.ranges;
      room = keeps.room;
      tiled = tiled_received s node.next d keeps.tiled;
      grown = keeps.grown;
      committed_lie = keeps.committed_lie;
      journal_log = keeps.journal_log;
      index_log = keeps.index_log;
      running = keeps.running;
    }
      where
        d : Datagram
        d = datagram_of moment input bytes

        here : (i : Input) → slice_get initial_config.inputs k ≡ Some i → StandsFor table (sent_to i.name (s.datagrams ++ d ∷ []))
        here i is_i = subst (λ (name : List ℕ). StandsFor table (sent_to name (s.datagrams ++ d ∷ []))) (sym (its_name i is_i))
            (subst (λ (l : List (ℕ × List ℕ)). StandsFor table l) (sym (sent_here input s.datagrams d ((bytes_eq-Decides input input).1 refl))) stands)

        elsewhere : (j : ℕ) (i : Input) → j ≢ k → slice_get initial_config.inputs j ≡ Some i → sent_to i.name (s.datagrams ++ d ∷ []) ≡ sent_to i.name s.datagrams
        elsewhere j i other is_i = sent_elsewhere i.name s.datagrams d
            (no_name (bytes_eq input i.name) (λ same. other (initial_apart j k i known is_i known_there (sym ((bytes_eq-Decides input i.name).0 same) ∙ named))))
          where
            no_name : (b : Bool) → (b ≡ true → ⊥) → b ≡ false
            no_name true no_way = absurd (no_way refl)
            no_name false no_way = refl

-- tables that stand for no datagram
abbrev pub AreFresh : List Chunks → Type 0
AreFresh tables = All (λ (table : Chunks). StandsFor table []) tables

pub none_received : (tables : List Chunks) (inputs : List Input) → length tables ≡ length inputs → AreFresh tables → AreTables tables inputs []
none_received tables inputs each fresh = record {
  each = each;
  stand = λ k table input is_table is_input.
      subst (λ (t : Chunks). StandsFor t []) (get_or_from_slice_get tables k table table is_table) (fresh k table (slice_get_within tables k table is_table));
}
